use Rattle.std.proofs.Common.{sym, ap, ◌∙◌, subst, refl, List, Option, [], ◌∷◌, ◌++◌, Some, length, slice_get}
use Rattle.atomic_table.specs.Table.{opening}
use Rattle.pj_turn.specs.Rule.{Orderly, first_view}
use Rattle.pj_turn.proofs.Joins.{begins}
use Rattle.pj_turn.proofs.turn.Turn.new.Goals as goal

pub new-requires : goal.new-requires
new-requires g c =
    let m = g.T.Kept.meaning in
    let x = c.of.result.value in
    let items = c.push_reserved.ensures.items ∙ (ap (λ l. l ++ Some c.args.state ∷ []) c.in_ok-slots.ensures.items ∙ ap (λ y. Some y ∷ []) (sym c.of.ensures)) in
    let start = begins m (m.fixed x) c.args.seats x refl c.requires.seats.0 c.requires.seats.1 (subst (λ y. m.stands y []) (sym c.of.ensures) c.requires.state) in
    subst (λ (l : List (Option _)). Orderly m (m.fixed x) c.args.seats (opening (0 ∷ 0 ∷ 0 ∷ []) l (first_view (m.fixed x)))) (sym items) start

pub returns-clause-seats : goal.returns-clause-seats
returns-clause-seats g c =
    let all = c.in_ok-all.ensures in
    let same = c.of-2.ensures in
    (ap (λ l. length l) same ∙ all.0, (λ k s e. all.1 k s (ap (λ l. slice_get l k) (sym same) ∙ e)))
