use Rattle.std.proofs.Common.{[], ◌∷◌, ◌++◌, ◌<◌, ◌≤◌, suc, refl, ap, subst, sym, ◌∙◌, append_assoc, List, Ok, Err, length, take, drop, get_or, arith}
use Rattle.pj_events.specs.declared.events.Entry.{Entry}
use Rattle.pj_events.specs.declared.events.Event.TheVariants.{Sweep as Swept}
use Rattle.pj_laws.specs.Seats.{made_by, seated}
use Rattle.pj_seats.specs.Answers.{Answers, IsLook, Removes, Turned, refused}
use Rattle.pj_workers.specs.Rounds.{FollowsSweeping, IsRound, looked, swept_each}
use Rattle.pj_workers.proofs.Rounds.{look-ends, look-first, more-added, whole-more}
use Rattle.pj_workers.proofs.Sweeps.{swept, swept-all, swept-more, swept-split}
use Rattle.pj_workers.specs.declared.ends.WorkEnd.TheVariants.{Over}
use Rattle.pj_workers.specs.Ends.{IsEnd, ends_sweeping}
use Rattle.pj_workers.proofs.sweeping.sweep_all.Goals as goal

pub loop-join-preserved : goal.loop-join-preserved
loop-join-preserved g c =
    let h = g.H.Hub in
    let n = h.number c.args.seat.now in
    let hub = h.plan c.args.hub.now in
    let inv = c.loop-join.invariant in
    let places = c.args.places.now in
    let i = c.loop-join.join-index in
    let place = get_or places i (0, 0) in
    let start = made_by n (h.seen c.look-look.new.seat) in
    let before = h.seen c.loop-join.seat in
    let after = h.seen c.sweep.new.seat in
    let below : i < length places = c.loop-join-test.true in
    let t = subst (λ k. Turned hub k before after (λ history. swept k place) (Answers hub (Swept place.0 place.1) (Removes hub place.0 place.1) (Ok c.in-Ok.field-0))) inv.1 c.in-Ok.ensures.turned in (
      c.sweep.ensures.same.0 ∙ inv.0,
      c.sweep.ensures.same.1 ∙ inv.1,
      omega (arith, below),
      t.own ∙ (ap (λ (l : List Entry). l ++ swept n place ∷ []) inv.3
          ∙ (append_assoc start (swept_each n (take i places)) (swept n place ∷ []) ∙ ap (λ (l : List Entry). start ++ l) (sym (swept-more n places i (0, 0) below)))),
    )

pub loop-preserved : goal.loop-preserved
loop-preserved g c =
    let h = g.H.Hub in
    let n = h.number c.args.seat.now in
    let hub = h.plan c.args.hub.now in
    let look = c.look-look.result in
    let inv = c.loop.invariant in
    let inner = c.loop-join.invariant in
    let places = c.args.places.now in
    let i = c.loop-join.join-index in
    let before = h.seen c.loop.seat in
    let mid = h.seen c.look-look.new.seat in
    let after = h.seen c.loop-join.seat in
    let past : length places ≤ i = search in
    let t = subst (λ k. Turned hub k before mid (λ history. looked k look.pending) (IsLook hub look)) inv.1 c.look-look.ensures.turned in
    let rest = swept_each n places in (
      inner.0,
      inner.1,
      whole-more (IsRound (FollowsSweeping places) n) (made_by n (h.seen c.args.seat.now)) (made_by n before) (made_by n after) (looked n look.pending ∷ rest) inv.2 (look-first (FollowsSweeping places) n look.pending rest refl)
          (more-added (made_by n before) (made_by n mid) (made_by n after) (looked n look.pending) rest t.own (inner.3 ∙ ap (λ (l : List Entry). made_by n mid ++ l) (swept-all n places i past))),
    )

pub returns-in-Err-clause-works : goal.returns-in-Err-clause-works
returns-in-Err-clause-works g c =
    let h = g.H.Hub in
    let n = h.number c.args.seat.now in
    let hub = h.plan c.args.hub.now in
    let look = c.look-look.result in
    let inv = c.loop.invariant in
    let inner = c.loop-join.invariant in
    let places = c.args.places.now in
    let i = c.loop-join.join-index in
    let place = get_or places i (0, 0) in
    let event = Swept place.0 place.1 in
    let stop = c.in-Err.stop in
    let start = h.seen c.loop.seat in
    let mid = h.seen c.look-look.new.seat in
    let before = h.seen c.loop-join.seat in
    let after = h.seen c.sweep.new.seat in
    let below : i < length places = c.loop-join-test.true in
    let s = subst (λ k. Turned hub k start mid (λ history. looked k look.pending) (IsLook hub look)) inv.1 c.look-look.ensures.turned in
    let t = subst (λ k. Turned hub k before after (λ history. seated k (refused history stop) 0) (Answers hub event (Removes hub place.0 place.1) (Err stop))) inner.1 c.in-Err.ensures.turned in
    let last = seated n (refused t.history stop) 0 in
    let done = swept_each n (take i places) in
    let left = swept_each n (drop (suc i) places) in record {
      own = made_by n start;
      whole = inv.2;
      ended = record {
        ending = record { history = t.history; front = looked n look.pending ∷ done; last = last };
        seen = t.seen;
        adds = more-added (made_by n start) (made_by n mid) (made_by n after) (looked n look.pending) (done ++ last ∷ []) s.own
            (t.own ∙ (ap (λ (l : List Entry). l ++ last ∷ []) inner.3 ∙ append_assoc (made_by n mid) done (last ∷ [])));
        is = record {
          event = event;
          mark = 0;
          rest = left;
          begins = look-first (FollowsSweeping places) n look.pending (done ++ seated n event 0 ∷ left) (swept-split n places i (0, 0) below);
          may = tt;
          is_last = refl;
          cause = t.answers;
        };
      };
    }

pub returns-then-sweeping_ends-clause-works : goal.returns-then-sweeping_ends-clause-works
returns-then-sweeping_ends-clause-works g c =
    let h = g.H.Hub in
    let n = h.number c.args.seat.now in
    let hub = h.plan c.args.hub.now in
    let look = c.look-look.result in
    let inv = c.loop.invariant in
    let before = h.seen c.loop.seat in
    let mid = h.seen c.look-look.new.seat in
    let t = subst (λ k. Turned hub k before mid (λ history. looked k look.pending) (IsLook hub look)) inv.1 c.look-look.ensures.turned in record {
      own = made_by n before;
      whole = inv.2;
      ended = look-ends hub n ends_sweeping (IsEnd hub n (IsRound (FollowsSweeping c.args.places.now) n) ends_sweeping Over) before mid look (λ ending is. is) t (sym c.sweeping_ends.ensures ∙ c.if-sweeping_ends.true);
    }
