use Rattle.std.proofs.Common.{[], ◌∷◌, ◌++◌, subst, sym, ◌∙◌, append-nil}
use Rattle.pj_laws.specs.Seats.{made_by}
use Rattle.pj_seats.specs.Answers.{IsLook, Turned}
use Rattle.pj_workers.specs.Rounds.{Adds, FollowsProbing, IsProbed, IsRound, looked}
use Rattle.pj_workers.specs.Ends.{Breaks, Ends, IsEnd, ends_probing}
use Rattle.pj_workers.proofs.Rounds.{ends-behind, look-ends, look-first, more-added, whole-more}
use Rattle.pj_workers.specs.declared.ends.WorkEnd.TheVariants.{Over}
use Rattle.pj_workers.proofs.probing.probe.Goals as goal

pub loop-preserved : goal.loop-preserved
loop-preserved g c =
    let h = g.H.Hub in
    let n = h.number c.args.seat.now in
    let hub = h.plan c.args.hub.now in
    let look = c.look-look.result in
    let inv = c.loop.invariant in
    let before = h.seen c.loop.seat in
    let mid = h.seen c.look-look.new.seat in
    let after = h.seen c.probe_once.new.seat in
    let numbered = c.look-look.ensures.same.1 ∙ inv.1 in
    let t = subst (λ k. Turned hub k before mid (λ history. looked k look.pending) (IsLook hub look)) inv.1 c.look-look.ensures.turned in
    let p = subst (λ k. Adds k (IsProbed k) mid after) numbered c.in-Ok.ensures.probed in (
      c.probe_once.ensures.same.0 ∙ (c.look-look.ensures.same.0 ∙ inv.0),
      c.probe_once.ensures.same.1 ∙ numbered,
      whole-more (IsRound FollowsProbing n) (made_by n (h.seen c.args.seat.now)) (made_by n before) (made_by n after) (looked n look.pending ∷ p.entries) inv.2 (look-first FollowsProbing n look.pending p.entries p.is_part)
          (more-added (made_by n before) (made_by n mid) (made_by n after) (looked n look.pending) p.entries t.own p.own),
    )

pub returns-in-Err-clause-works : goal.returns-in-Err-clause-works
returns-in-Err-clause-works g c =
    let h = g.H.Hub in
    let n = h.number c.args.seat.now in
    let hub = h.plan c.args.hub.now in
    let look = c.look-look.result in
    let inv = c.loop.invariant in
    let before = h.seen c.loop.seat in
    let mid = h.seen c.look-look.new.seat in
    let after = h.seen c.probe_once.new.seat in
    let numbered = c.look-look.ensures.same.1 ∙ inv.1 in
    let t = subst (λ k. Turned hub k before mid (λ history. looked k look.pending) (IsLook hub look)) inv.1 c.look-look.ensures.turned in
    let e = subst (λ k. Breaks hub k (IsProbed k) mid after c.in-Err.broken) numbered c.in-Err.ensures.breaks in record {
      own = made_by n before;
      whole = inv.2;
      ended = subst (λ end. Ends n (IsEnd hub n (IsRound FollowsProbing n) ends_probing end) (made_by n before) after) (sym c.work_end_of.ensures)
          (ends-behind hub n (IsProbed n) (IsRound FollowsProbing n) ends_probing (made_by n before) (made_by n mid) after (looked n look.pending) c.in-Err.broken t.own
          (λ entries is. look-first FollowsProbing n look.pending (entries ++ []) (subst (IsProbed n) (sym (append-nil entries)) is)) e);
    }

pub returns-then-probing_ends-clause-works : goal.returns-then-probing_ends-clause-works
returns-then-probing_ends-clause-works g c =
    let h = g.H.Hub in
    let n = h.number c.args.seat.now in
    let hub = h.plan c.args.hub.now in
    let look = c.look-look.result in
    let inv = c.loop.invariant in
    let before = h.seen c.loop.seat in
    let mid = h.seen c.look-look.new.seat in
    let t = subst (λ k. Turned hub k before mid (λ history. looked k look.pending) (IsLook hub look)) inv.1 c.look-look.ensures.turned in record {
      own = made_by n before;
      whole = inv.2;
      ended = look-ends hub n ends_probing (IsEnd hub n (IsRound FollowsProbing n) ends_probing Over) before mid look (λ ending is. is) t (sym c.probing_ends.ensures ∙ c.if-probing_ends.true);
    }
