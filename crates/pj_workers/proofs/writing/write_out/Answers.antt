use Rattle.std.proofs.Common.{[], ◌∷◌, ◌++◌, refl, ap, subst, sym, ◌∙◌, append_assoc, append-nil, List, Err, arith}
use Rattle.pj_events.specs.declared.events.Event.TheVariants.{Drain, Halt, Look as Looked}
use Rattle.pj_events.specs.declared.events.Out.{Out}
use Rattle.pj_laws.specs.Seats.{made_by, seated}
use Rattle.pj_seats.specs.Answers.{HandsOut, IsLook, Turned}
use Rattle.pj_workers.specs.Rounds.{FollowsWriting, IsRound, looked}
use Rattle.pj_workers.specs.Ends.{Made, ends_sweeping}
use Rattle.pj_workers.specs.declared.writing.WriteEnd.TheVariants.{Over}
use Rattle.pj_workers.specs.Writes.{IsWriteEnd, IsWritten, drained_in}
use Rattle.pj_workers.proofs.Drains.{drain-gains, quiet-gains}
use Rattle.pj_workers.proofs.Rounds.{look-ends, look-first, more-added, two-added, whole-more, whole-none}
use Rattle.pj_workers.proofs.Writes.{halted-write, none-written, written-cut, written-more}
use Rattle.pj_workers.proofs.writing.write_out.Goals as goal

pub loop-preserved : goal.loop-preserved
loop-preserved g c =
    let h = g.H.Hub in
    let sink = g.K.Sink.state in
    let n = h.number c.args.seat.now in
    let hub = h.plan c.args.hub.now in
    let look = c.look-look.result in
    let inv = c.loop.invariant in
    let before = h.seen c.loop.seat in
    let mid = h.seen c.look-look.new.seat in
    let after = h.seen c.drain-outs.new.seat in
    let outs = c.drain-outs.result in
    let lent = c.as_slice.result.now in
    let numbered = c.look-look.ensures.same.1 ∙ inv.1 in
    let first = looked n look.pending in
    let second = seated n Drain 0 in
    let s = subst (λ k. Turned hub k before mid (λ history. looked k look.pending) (IsLook hub look)) inv.1 c.look-look.ensures.turned in
    let t = subst (λ k. Turned hub k mid after (λ history. seated k Drain 0) (HandsOut hub outs)) numbered c.drain-outs.ensures.turned in (
      c.drain-outs.ensures.same.0 ∙ (c.look-look.ensures.same.0 ∙ inv.0),
      c.drain-outs.ensures.same.1 ∙ numbered,
      whole-more (IsRound FollowsWriting n) (made_by n (h.seen c.args.seat.now)) (made_by n before) (made_by n after) (first ∷ second ∷ []) inv.2 (look-first FollowsWriting n look.pending (second ∷ []) refl)
          (two-added (made_by n before) (made_by n mid) (made_by n after) first second s.own t.own),
      record {
        gained = inv.3.gained ++ lent;
        drains = drain-gains hub n mid after outs t
            ∙ (ap (λ (l : List Out). drained_in hub n mid ++ l) (sym c.as_slice.ensures)
            ∙ (ap (λ (l : List Out). l ++ lent) (quiet-gains hub n before mid (Looked look.pending) (IsLook hub look) (λ os. refl) s ∙ inv.3.drains) ∙ append_assoc (drained_in hub n (h.seen c.args.seat.now)) inv.3.gained lent));
        handled = written-more c.args.plan.now.nodes c.args.results.now c.loop.results c.hand_on.new.results (sink c.args.out.now) (sink c.loop.out) (sink c.hand_on.new.out) inv.3.gained lent inv.4 c.hand_on.ensures.told inv.3.handled
            c.in-Ok.ensures.taken c.in-Ok.ensures.lines;
      },
      c.hand_on.ensures.form ∙ inv.4,
      λ told. inv.5 (c.hand_on.ensures.told told),
      omega (arith, inv.6, c.hand_on.ensures.later),
      λ none. c.in-Ok.ensures.handed_on,
    )

pub returns-in-Err-clause-made : goal.returns-in-Err-clause-made
returns-in-Err-clause-made g c =
    let h = g.H.Hub in
    let n = h.number c.args.seat.now in
    let hub = h.plan c.args.hub.now in
    let look = c.look-look.result in
    let inv = c.loop.invariant in
    let before = h.seen c.loop.seat in
    let mid = h.seen c.look-look.new.seat in
    let drained = h.seen c.drain-outs.new.seat in
    let after = h.seen c.halt.new.seat in
    let numbered = c.look-look.ensures.same.1 ∙ inv.1 in
    let first = looked n look.pending in
    let second = seated n Drain 0 in
    let last = seated n Halt 0 in
    let s = subst (λ k. Turned hub k before mid (λ history. looked k look.pending) (IsLook hub look)) inv.1 c.look-look.ensures.turned in
    let t = subst (λ k. Turned hub k mid drained (λ history. seated k Drain 0) (HandsOut hub c.drain-outs.result)) numbered c.drain-outs.ensures.turned in
    let u = subst (λ k. Turned hub k drained after (λ history. seated k Halt 0) (λ history. Unit {0})) (c.drain-outs.ensures.same.1 ∙ numbered) c.halt.ensures.turned in
    subst (λ end. Made n (IsRound FollowsWriting n) (IsWriteEnd hub n end) (h.seen c.args.seat.now) after) (sym c.write_end_of.ensures) (record {
      own = made_by n before;
      whole = inv.2;
      ended = record {
        ending = record { history = u.history; front = first ∷ second ∷ []; last = last };
        seen = u.seen;
        adds = more-added (made_by n before) (made_by n mid) (made_by n after) first (second ∷ last ∷ []) s.own (two-added (made_by n mid) (made_by n drained) (made_by n after) second last t.own u.own);
        is = halted-write hub n c.in-Err.stop _ (record { rest = []; begins = look-first FollowsWriting n look.pending (second ∷ []) refl; is_last = refl });
      };
    })

pub returns-in-Err-clause-hands_on : goal.returns-in-Err-clause-hands_on
returns-in-Err-clause-hands_on g c =
    let h = g.H.Hub in
    let sink = g.K.Sink.state in
    let n = h.number c.args.seat.now in
    let hub = h.plan c.args.hub.now in
    let look = c.look-look.result in
    let inv = c.loop.invariant in
    let start = h.seen c.args.seat.now in
    let before = h.seen c.loop.seat in
    let mid = h.seen c.look-look.new.seat in
    let drained = h.seen c.drain-outs.new.seat in
    let after = h.seen c.halt.new.seat in
    let outs = c.drain-outs.result in
    let lent = c.as_slice.result.now in
    let stop = c.in-Err.stop in
    let numbered = c.look-look.ensures.same.1 ∙ inv.1 in
    let s = subst (λ k. Turned hub k before mid (λ history. looked k look.pending) (IsLook hub look)) inv.1 c.look-look.ensures.turned in
    let t = subst (λ k. Turned hub k mid drained (λ history. seated k Drain 0) (HandsOut hub outs)) numbered c.drain-outs.ensures.turned in
    let u = subst (λ k. Turned hub k drained after (λ history. seated k Halt 0) (λ history. Unit {0})) (c.drain-outs.ensures.same.1 ∙ numbered) c.halt.ensures.turned in record {
      gained = inv.3.gained ++ lent;
      drains = quiet-gains hub n drained after Halt (λ history. Unit {0}) (λ os. refl) u
          ∙ (drain-gains hub n mid drained outs t
          ∙ (ap (λ (l : List Out). drained_in hub n mid ++ l) (sym c.as_slice.ensures)
          ∙ (ap (λ (l : List Out). l ++ lent) (quiet-gains hub n before mid (Looked look.pending) (IsLook hub look) (λ os. refl) s ∙ inv.3.drains) ∙ append_assoc (drained_in hub n start) inv.3.gained lent)));
      handled = subst (λ end. IsWritten end c.args.plan.now.nodes c.args.results.now c.hand_on.new.results (sink c.args.out.now) (sink c.hand_on.new.out) (inv.3.gained ++ lent)) (sym c.write_end_of.ensures)
          (written-cut c.args.plan.now.nodes c.args.results.now c.loop.results c.hand_on.new.results (sink c.args.out.now) (sink c.loop.out) (sink c.hand_on.new.out) inv.3.gained lent inv.4 c.hand_on.ensures.told inv.3.handled
          stop inv.6 (λ is. c.hand_on.ensures.fault (c.in-Err.is ∙ ap Err is)) c.in-Err.ensures.lines);
    }

pub returns-then-sweeping_ends-clause-made : goal.returns-then-sweeping_ends-clause-made
returns-then-sweeping_ends-clause-made g c =
    let h = g.H.Hub in
    let n = h.number c.args.seat.now in
    let hub = h.plan c.args.hub.now in
    let look = c.look-look.result in
    let inv = c.loop.invariant in
    let before = h.seen c.loop.seat in
    let mid = h.seen c.look-look.new.seat in
    let t = subst (λ k. Turned hub k before mid (λ history. looked k look.pending) (IsLook hub look)) inv.1 c.look-look.ensures.turned in record {
      own = made_by n before;
      whole = inv.2;
      ended = look-ends hub n ends_sweeping (IsWriteEnd hub n Over) before mid look (λ ending is. is) t (sym c.sweeping_ends.ensures ∙ c.if-sweeping_ends.true);
    }

pub returns-then-sweeping_ends-clause-hands_on : goal.returns-then-sweeping_ends-clause-hands_on
returns-then-sweeping_ends-clause-hands_on g c =
    let h = g.H.Hub in
    let n = h.number c.args.seat.now in
    let hub = h.plan c.args.hub.now in
    let look = c.look-look.result in
    let inv = c.loop.invariant in
    let before = h.seen c.loop.seat in
    let mid = h.seen c.look-look.new.seat in
    let s = subst (λ k. Turned hub k before mid (λ history. looked k look.pending) (IsLook hub look)) inv.1 c.look-look.ensures.turned in record {
      gained = inv.3.gained;
      drains = quiet-gains hub n before mid (Looked look.pending) (IsLook hub look) (λ os. refl) s ∙ inv.3.drains;
      handled = inv.3.handled;
    }

pub loop-init : goal.loop-init
loop-init g c =
    let h = g.H.Hub in
    let n = h.number c.args.seat.now in
    let own = made_by n (h.seen c.args.seat.now) in (
      refl,
      refl,
      whole-none (IsRound FollowsWriting n) own,
      record {
        gained = [];
        drains = sym (append-nil (drained_in (h.plan c.args.hub.now) n (h.seen c.args.seat.now)));
        handled = none-written c.args.plan.now.nodes c.args.results.now (g.K.Sink.state c.args.out.now);
      },
      refl,
      λ told. told,
      omega arith,
      λ none. none,
    )
