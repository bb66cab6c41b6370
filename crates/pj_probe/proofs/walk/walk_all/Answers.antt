use Rattle.std.proofs.Common.{◌≡◌, ◌∙◌, ◌∷◌, [], List, map, sym, ap, subst, arith}
use Rattle.std.specs.Prelude.{OnOk, OnErr}
use Rattle.pj_events.specs.Join.{Value}
use Rattle.pj_probe.specs.Walks.{combined, end_to_end, sides_at}
use Rattle.pj_probe.specs.Visits.{Grows, GrowsByFront}
use Rattle.pj_probe.specs.Walking.{walked}
use Rattle.pj_probe.proofs.Combining.{combined-lacking, combined-nothing, walked-whole}
use Rattle.pj_probe.proofs.Growing.{grows-none, grows-same}
use Rattle.pj_probe.proofs.Placing.{sides-full}
use Rattle.pj_probe.proofs.Whole.{joins-none}
use Rattle.pj_probe.proofs.walk.walk_all.Goals as goal

pub returns-then-sides-eq0-clause-ok : goal.returns-then-sides-eq0-clause-ok
returns-then-sides-eq0-clause-ok g c =
    grows-same (g.V.Visit.told c.joined.new.self) (g.V.Visit.list c.args.visit.now) (g.V.Visit.list c.joined.new.self) (end_to_end c.of.result ∷ []) (combined c.args.checks.now (sides_at 0 (map g.S.Candidates.pairs c.args.sides.now)))
    (ap (λ (rows : List (List Value)). end_to_end rows ∷ []) c.of.ensures ∙ sym (combined-nothing c.args.checks.now (map g.S.Candidates.pairs c.args.sides.now) (sides-full g.S.Candidates.pairs c.args.sides.now 0 (omega (arith, c.if-sides-eq0.true)))))
    c.in_ok-joined.ensures.ok

pub walk-requires-clause-joins : goal.walk-requires-clause-joins
walk-requires-clause-joins g c = rw c.new_in-rows.ensures (joins-none c.args.checks.now)

pub returns-clause-ok : goal.returns-clause-ok
returns-clause-ok g c =
    let sides = map g.S.Candidates.pairs c.args.sides.now in
    let found : walked c.args.checks.now sides c.new_in-rows.result.items ≡ combined c.args.checks.now (sides_at 0 sides) = rw c.new_in-rows.ensures (walked-whole c.args.checks.now sides) in
    subst (λ (rows : List (List Value)). OnOk c.walk.result (Grows (g.V.Visit.told c.walk.new.visit) (g.V.Visit.list c.args.visit.now) (g.V.Visit.list c.walk.new.visit) rows)) found c.walk.ensures.ok

pub returns-clause-err : goal.returns-clause-err
returns-clause-err g c =
    let sides = map g.S.Candidates.pairs c.args.sides.now in
    let found : walked c.args.checks.now sides c.new_in-rows.result.items ≡ combined c.args.checks.now (sides_at 0 sides) = rw c.new_in-rows.ensures (walked-whole c.args.checks.now sides) in
    subst (λ (rows : List (List Value)). OnErr c.walk.result (GrowsByFront (g.V.Visit.told c.walk.new.visit) (g.V.Visit.list c.args.visit.now) (g.V.Visit.list c.walk.new.visit) rows)) found c.walk.ensures.err

pub returns-then-lacks_one-clause-ok : goal.returns-then-lacks_one-clause-ok
returns-then-lacks_one-clause-ok g c =
    let sides = map g.S.Candidates.pairs c.args.sides.now in
    grows-none (g.V.Visit.told c.args.visit.now) (g.V.Visit.list c.args.visit.now) (combined c.args.checks.now (sides_at 0 sides)) (combined-lacking c.args.checks.now sides (c.lacks_one.ensures c.if-lacks_one.true))
