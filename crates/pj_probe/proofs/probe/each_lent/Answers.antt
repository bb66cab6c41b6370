use Rattle.std.proofs.Common.{◌≡◌, ℕ, List, map, ap, subst}
use Rattle.std.specs.Prelude.{OnOk, OnErr}
use Rattle.std.proofs.lemmas.List.{map-id}
use Rattle.pj_events.specs.Join.{Value}
use Rattle.pj_probe.specs.Walks.{combined, sides_at}
use Rattle.pj_probe.specs.Visits.{Grows, GrowsByFront}
use Rattle.pj_probe.proofs.probe.each_lent.Goals as goal

pub returns-clause-ok : goal.returns-clause-ok
returns-clause-ok g c =
    let found : combined c.args.checks.now (sides_at 0 (map (λ (s : List (ℕ × List Value)). s) c.args.sides.now)) ≡ combined c.args.checks.now (sides_at 0 c.args.sides.now) =
    ap (λ (ss : List (List (ℕ × List Value))). combined c.args.checks.now (sides_at 0 ss)) (map-id c.args.sides.now) in
    subst (λ (rows : List (List Value)). OnOk c.walk_all.result (Grows (g.V.Visit.told c.walk_all.new.visit) (g.V.Visit.list c.args.visit.now) (g.V.Visit.list c.walk_all.new.visit) rows)) found c.walk_all.ensures.ok

pub returns-clause-err : goal.returns-clause-err
returns-clause-err g c =
    let found : combined c.args.checks.now (sides_at 0 (map (λ (s : List (ℕ × List Value)). s) c.args.sides.now)) ≡ combined c.args.checks.now (sides_at 0 c.args.sides.now) =
    ap (λ (ss : List (List (ℕ × List Value))). combined c.args.checks.now (sides_at 0 ss)) (map-id c.args.sides.now) in
    subst (λ (rows : List (List Value)). OnErr c.walk_all.result (GrowsByFront (g.V.Visit.told c.walk_all.new.visit) (g.V.Visit.list c.args.visit.now) (g.V.Visit.list c.walk_all.new.visit) rows)) found c.walk_all.ensures.err
