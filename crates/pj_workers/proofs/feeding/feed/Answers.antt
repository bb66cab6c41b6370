use Rattle.std.proofs.Common.{[], ◌∷◌, ◌++◌, ◌≡◌, List, refl, sym, ap, subst, ◌∙◌, append_assoc}
use Rattle.std.specs.Prelude.{nat_lt}
use Rattle.pj_events.specs.declared.events.Entry.{Entry}
use Rattle.pj_events.specs.declared.events.Event.TheVariants.{Arrive}
use Rattle.pj_events.specs.Outcomes.{elements_of}
use Rattle.pj_laws.specs.Seats.{made_by, seated}
use Rattle.pj_seats.specs.Answers.{IsLook, Turned}
use Rattle.pj_workers.specs.declared.feeding.FeedEnd.TheVariants.{Halted}
use Rattle.pj_workers.specs.Rounds.{Adds, FollowsFeeding, IsProbedWhere, IsRound, looked, most_pending}
use Rattle.pj_workers.specs.Ends.{Breaks, Ends, ends_feeding}
use Rattle.pj_workers.specs.Feeds.{Brings, BringsNone, HasFed, IsFeedEnd, IsFeeding, closing_at}
use Rattle.pj_workers.proofs.Bare.{bare-behind, bare-looked, bare-probed, elements-more, feeding-bare}
use Rattle.pj_workers.proofs.Fed.{broken-fed, brings-fed, halted-fed, keeps-closing, keeps-more, keeps-none}
use Rattle.pj_workers.proofs.FedRounds.{broken-bare, broken-behind, fed-behind, fed-round}
use Rattle.pj_workers.proofs.Passing.{same-still, same-then}
use Rattle.pj_workers.proofs.Rounds.{look-ends, more-added, whole-more, whole-none}
use Rattle.pj_workers.proofs.feeding.feed.Goals as goal

pub returns-then-look-clause-made : goal.returns-then-look-clause-made
returns-then-look-clause-made g c =
    let h = g.H.Hub in
    let n = h.number c.args.seat.now in
    let hub = h.plan c.args.hub.now in
    let look = c.look-look.result in
    let inv = c.loop.invariant in
    let from = c.loop.from in
    let before = h.seen c.loop.seat in
    let mid = h.seen c.look-look.new.seat in
    let t = subst (λ k. Turned hub k before mid (λ history. looked k look.pending) (IsLook hub look)) inv.1 c.look-look.ensures.turned in record {
      own = made_by n before;
      whole = inv.2;
      ended = look-ends hub n ends_feeding (IsFeedEnd hub n (IsRound FollowsFeeding n) ends_feeding from Halted) before mid look (λ ending is. is) t c.if-look.true;
    }

pub returns-then-look-clause-fed : goal.returns-then-look-clause-fed
returns-then-look-clause-fed g c =
    let h = g.H.Hub in
    let n = h.number c.args.seat.now in
    let hub = h.plan c.args.hub.now in
    let look = c.look-look.result in
    let inv = c.loop.invariant in
    let from = c.loop.from in
    let before = h.seen c.loop.seat in
    let mid = h.seen c.look-look.new.seat in
    let t = subst (λ k. Turned hub k before mid (λ history. looked k look.pending) (IsLook hub look)) inv.1 c.look-look.ensures.turned in
    let f = feeding-bare hub n (made_by n before) (made_by n mid) (looked n look.pending ∷ []) from inv.3 t.own (bare-looked n look.pending) in
    halted-fed hub n (made_by n mid) c.args.from.now from f inv.4

pub returns-in-Err-clause-made : goal.returns-in-Err-clause-made
returns-in-Err-clause-made g c =
    let h = g.H.Hub in
    let n = h.number c.args.seat.now in
    let hub = h.plan c.args.hub.now in
    let look = c.look-look.result in
    let inv = c.loop.invariant in
    let from = c.loop.from in
    let before = h.seen c.loop.seat in
    let mid = h.seen c.look-look.new.seat in
    let t = subst (λ k. Turned hub k before mid (λ history. looked k look.pending) (IsLook hub look)) inv.1 c.look-look.ensures.turned in
    let f = feeding-bare hub n (made_by n before) (made_by n mid) (looked n look.pending ∷ []) from inv.3 t.own (bare-looked n look.pending) in
    let numbered = c.look-look.ensures.same.1 ∙ inv.1 in
    let rested = h.seen c.relieve.new.seat in
    let broken = c.in-Err.broken in
    let e = subst (λ k. Breaks hub k (IsProbedWhere (nat_lt most_pending look.pending) k) mid rested broken) numbered c.in-Err.ensures.breaks in
    let r = feeding-bare hub n (made_by n mid) (made_by n rested) (e.ending.front ++ e.ending.last ∷ []) from f e.adds (broken-bare hub n look.pending mid rested broken e) in record {
      own = made_by n before;
      whole = inv.2;
      ended = subst (λ end. Ends n (IsFeedEnd hub n (IsRound FollowsFeeding n) ends_feeding from end) (made_by n before) rested) (sym c.feed_end_of.ensures)
          (broken-behind hub n look.pending mid rested broken e (made_by n before) from t.own r);
    }

pub returns-in-Err-clause-fed : goal.returns-in-Err-clause-fed
returns-in-Err-clause-fed g c =
    let h = g.H.Hub in
    let n = h.number c.args.seat.now in
    let hub = h.plan c.args.hub.now in
    let look = c.look-look.result in
    let inv = c.loop.invariant in
    let from = c.loop.from in
    let before = h.seen c.loop.seat in
    let mid = h.seen c.look-look.new.seat in
    let t = subst (λ k. Turned hub k before mid (λ history. looked k look.pending) (IsLook hub look)) inv.1 c.look-look.ensures.turned in
    let f = feeding-bare hub n (made_by n before) (made_by n mid) (looked n look.pending ∷ []) from inv.3 t.own (bare-looked n look.pending) in
    let numbered = c.look-look.ensures.same.1 ∙ inv.1 in
    let rested = h.seen c.relieve.new.seat in
    let broken = c.in-Err.broken in
    let e = subst (λ k. Breaks hub k (IsProbedWhere (nat_lt most_pending look.pending) k) mid rested broken) numbered c.in-Err.ensures.breaks in
    let r = feeding-bare hub n (made_by n mid) (made_by n rested) (e.ending.front ++ e.ending.last ∷ []) from f e.adds (broken-bare hub n look.pending mid rested broken e) in
    subst (HasFed hub n (made_by n rested) c.args.from.now from) (sym c.feed_end_of.ensures) (broken-fed hub n (made_by n rested) c.args.from.now from broken r inv.4)

pub bring-requires-clause-feeding : goal.bring-requires-clause-feeding
bring-requires-clause-feeding g c κs within =
    let h = g.H.Hub in
    let n = h.number c.args.seat.now in
    let hub = h.plan c.args.hub.now in
    let look = c.look-look.result in
    let inv = c.loop.invariant in
    let from = c.loop.from in
    let before = h.seen c.loop.seat in
    let mid = h.seen c.look-look.new.seat in
    let t = subst (λ k. Turned hub k before mid (λ history. looked k look.pending) (IsLook hub look)) inv.1 c.look-look.ensures.turned in
    let f = feeding-bare hub n (made_by n before) (made_by n mid) (looked n look.pending ∷ []) from inv.3 t.own (bare-looked n look.pending) in
    let numbered = c.look-look.ensures.same.1 ∙ inv.1 in
    let rested = h.seen c.relieve.new.seat in
    let p = subst (λ k. Adds k (IsProbedWhere (nat_lt most_pending look.pending) k) mid rested) numbered c.in-Ok.ensures.probed in
    let r = feeding-bare hub n (made_by n mid) (made_by n rested) p.entries from f p.own (bare-probed (nat_lt most_pending look.pending) n p.entries p.is_part) in
    let renumbered = c.relieve.ensures.same.1 ∙ numbered in
    subst (λ k. IsFeeding hub k (made_by k rested) from) (sym renumbered) r

pub returns-in-Some-bring-clause-made : goal.returns-in-Some-bring-clause-made
returns-in-Some-bring-clause-made g c =
    let h = g.H.Hub in
    let n = h.number c.args.seat.now in
    let hub = h.plan c.args.hub.now in
    let look = c.look-look.result in
    let inv = c.loop.invariant in
    let from = c.loop.from in
    let before = h.seen c.loop.seat in
    let mid = h.seen c.look-look.new.seat in
    let t = subst (λ k. Turned hub k before mid (λ history. looked k look.pending) (IsLook hub look)) inv.1 c.look-look.ensures.turned in
    let f = feeding-bare hub n (made_by n before) (made_by n mid) (looked n look.pending ∷ []) from inv.3 t.own (bare-looked n look.pending) in
    let numbered = c.look-look.ensures.same.1 ∙ inv.1 in
    let rested = h.seen c.relieve.new.seat in
    let p = subst (λ k. Adds k (IsProbedWhere (nat_lt most_pending look.pending) k) mid rested) numbered c.in-Ok.ensures.probed in
    let r = feeding-bare hub n (made_by n mid) (made_by n rested) p.entries from f p.own (bare-probed (nat_lt most_pending look.pending) n p.entries p.is_part) in
    let renumbered = c.relieve.ensures.same.1 ∙ numbered in
    let after = h.seen c.bring.new.seat in
    let new = c.bring.new.from in
    let end = c.in-Some-bring.end in
    let b = subst (λ k. BringsNone hub k rested after from new end) renumbered c.in-Some-bring.ensures.ends in record {
      own = made_by n before;
      whole = inv.2;
      ended = fed-behind hub n look.pending p.entries p.is_part (made_by n before) rested after from new end (more-added (made_by n before) (made_by n mid) (made_by n rested) (looked n look.pending) p.entries t.own p.own) b;
    }

pub returns-in-Some-bring-clause-fed : goal.returns-in-Some-bring-clause-fed
returns-in-Some-bring-clause-fed g c =
    let h = g.H.Hub in
    let n = h.number c.args.seat.now in
    let hub = h.plan c.args.hub.now in
    let look = c.look-look.result in
    let inv = c.loop.invariant in
    let from = c.loop.from in
    let before = h.seen c.loop.seat in
    let mid = h.seen c.look-look.new.seat in
    let t = subst (λ k. Turned hub k before mid (λ history. looked k look.pending) (IsLook hub look)) inv.1 c.look-look.ensures.turned in
    let f = feeding-bare hub n (made_by n before) (made_by n mid) (looked n look.pending ∷ []) from inv.3 t.own (bare-looked n look.pending) in
    let numbered = c.look-look.ensures.same.1 ∙ inv.1 in
    let rested = h.seen c.relieve.new.seat in
    let p = subst (λ k. Adds k (IsProbedWhere (nat_lt most_pending look.pending) k) mid rested) numbered c.in-Ok.ensures.probed in
    let r = feeding-bare hub n (made_by n mid) (made_by n rested) p.entries from f p.own (bare-probed (nat_lt most_pending look.pending) n p.entries p.is_part) in
    let renumbered = c.relieve.ensures.same.1 ∙ numbered in
    let after = h.seen c.bring.new.seat in
    let new = c.bring.new.from in
    let end = c.in-Some-bring.end in
    let b = subst (λ k. BringsNone hub k rested after from new end) renumbered c.in-Some-bring.ensures.ends in
    brings-fed hub n rested after c.args.from.now from new end r inv.4 c.bring.ensures.same_feed b

pub returns-in-Some-bring-clause-kept : goal.returns-in-Some-bring-clause-kept
returns-in-Some-bring-clause-kept g c =
    let h = g.H.Hub in
    let n = h.number c.args.seat.now in
    let hub = h.plan c.args.hub.now in
    let look = c.look-look.result in
    let inv = c.loop.invariant in
    let from = c.loop.from in
    let before = h.seen c.loop.seat in
    let mid = h.seen c.look-look.new.seat in
    let t = subst (λ k. Turned hub k before mid (λ history. looked k look.pending) (IsLook hub look)) inv.1 c.look-look.ensures.turned in
    let f = feeding-bare hub n (made_by n before) (made_by n mid) (looked n look.pending ∷ []) from inv.3 t.own (bare-looked n look.pending) in
    let numbered = c.look-look.ensures.same.1 ∙ inv.1 in
    let rested = h.seen c.relieve.new.seat in
    let p = subst (λ k. Adds k (IsProbedWhere (nat_lt most_pending look.pending) k) mid rested) numbered c.in-Ok.ensures.probed in
    let r = feeding-bare hub n (made_by n mid) (made_by n rested) p.entries from f p.own (bare-probed (nat_lt most_pending look.pending) n p.entries p.is_part) in
    let renumbered = c.relieve.ensures.same.1 ∙ numbered in
    let after = h.seen c.bring.new.seat in
    let new = c.bring.new.from in
    let end = c.in-Some-bring.end in
    let b = subst (λ k. BringsNone hub k rested after from new end) renumbered c.in-Some-bring.ensures.ends in
    let es = elements_of n (made_by n before) in
    let looks : elements_of n (made_by n mid) ≡ es = ap (elements_of n) t.own ∙ bare-behind n (made_by n before) (looked n look.pending ∷ []) (bare-looked n look.pending) in
    let rests : elements_of n (made_by n rested) ≡ es = ap (elements_of n) p.own ∙ (bare-behind n (made_by n mid) p.entries (bare-probed (nat_lt most_pending look.pending) n p.entries p.is_part) ∙ looks) in
    λ ended. keeps-closing hub n end c.args.kept.now c.loop.kept c.bring.new.kept es (elements_of n (made_by n after)) inv.5 (c.in-Some-bring.ensures.kept ended)
    (b.arrived ∙ ap (λ xs. xs ++ closing_at hub n end) rests)

pub loop-preserved : goal.loop-preserved
loop-preserved g c =
    let h = g.H.Hub in
    let n = h.number c.args.seat.now in
    let hub = h.plan c.args.hub.now in
    let look = c.look-look.result in
    let inv = c.loop.invariant in
    let from = c.loop.from in
    let before = h.seen c.loop.seat in
    let mid = h.seen c.look-look.new.seat in
    let t = subst (λ k. Turned hub k before mid (λ history. looked k look.pending) (IsLook hub look)) inv.1 c.look-look.ensures.turned in
    let f = feeding-bare hub n (made_by n before) (made_by n mid) (looked n look.pending ∷ []) from inv.3 t.own (bare-looked n look.pending) in
    let numbered = c.look-look.ensures.same.1 ∙ inv.1 in
    let rested = h.seen c.relieve.new.seat in
    let p = subst (λ k. Adds k (IsProbedWhere (nat_lt most_pending look.pending) k) mid rested) numbered c.in-Ok.ensures.probed in
    let r = feeding-bare hub n (made_by n mid) (made_by n rested) p.entries from f p.own (bare-probed (nat_lt most_pending look.pending) n p.entries p.is_part) in
    let renumbered = c.relieve.ensures.same.1 ∙ numbered in
    let after = h.seen c.bring.new.seat in
    let new = c.bring.new.from in
    let b = subst (λ k. Brings hub k rested after new c.loop.kept c.bring.new.kept) renumbered c.in-None-bring.ensures.brings in
    let arrival = seated n (Arrive n b.element) 0 in
    let es = elements_of n (made_by n before) in
    let looks : elements_of n (made_by n mid) ≡ es = ap (elements_of n) t.own ∙ bare-behind n (made_by n before) (looked n look.pending ∷ []) (bare-looked n look.pending) in
    let rests : elements_of n (made_by n rested) ≡ es = ap (elements_of n) p.own ∙ (bare-behind n (made_by n mid) p.entries (bare-probed (nat_lt most_pending look.pending) n p.entries p.is_part) ∙ looks) in (
      c.bring.ensures.same.0 ∙ (c.relieve.ensures.same.0 ∙ (c.look-look.ensures.same.0 ∙ inv.0)),
      c.bring.ensures.same.1 ∙ renumbered,
      whole-more (IsRound FollowsFeeding n) (made_by n (h.seen c.args.seat.now)) (made_by n before) (made_by n after) (looked n look.pending ∷ (p.entries ++ arrival ∷ [])) inv.2
          (fed-round hub n look.pending p.entries p.is_part (arrival ∷ []) (b.element, 0, refl))
          (b.adds
          ∙ (ap (λ (l : List Entry). l ++ arrival ∷ []) (more-added (made_by n before) (made_by n mid) (made_by n rested) (looked n look.pending) p.entries t.own p.own)
          ∙ append_assoc (made_by n before) (looked n look.pending ∷ p.entries) (arrival ∷ []))),
      b.feeding,
      same-then c.args.from.now from new inv.4 c.bring.ensures.same_feed,
      keeps-more c.args.kept.now c.loop.kept c.bring.new.kept es (b.element ∷ []) (elements_of n (made_by n after)) inv.5 b.keeps
          (ap (elements_of n) b.adds ∙ (elements-more n 0 (made_by n rested) b.element ∙ ap (λ xs. xs ++ b.element ∷ []) rests)),
    )

pub loop-init : goal.loop-init
loop-init g c =
    let h = g.H.Hub in
    let n = h.number c.args.seat.now in
    let own = made_by n (h.seen c.args.seat.now) in (
      refl,
      refl,
      whole-none (IsRound FollowsFeeding n) own,
      c.requires.feeding,
      same-still,
      keeps-none c.args.kept.now (elements_of n own) c.requires.none,
    )
