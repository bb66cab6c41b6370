use Rattle.std.proofs.Common.{[], ◌∷◌, ◌<◌, arith, refl}
use Rattle.pj_test_cores.proofs.Holding.{alone-held, below-one, below-two}
use Rattle.pj_test_cores.proofs.held.give_three.Goals as goal

pub give_one-requires-2 : goal.give_one-requires-2
give_one-requires-2 c =
    let low : c.args.first.ticket < c.args.third.ticket = let a = c.requires.rise.0 in let b = c.requires.rise.1 in omega (arith, a, b) in
    let two = c.if-not-give_one.ensures refl (c.args.second ∷ c.args.first ∷ []) (below-two c.args.second c.args.first c.args.third c.requires.rise.1 low) (c.in_ok-early.ensures _ c.requires.held) in
    alone-held _ c.args.second (c.args.first ∷ []) (c.in_ok-between.ensures _ two)

pub give_one-requires-3 : goal.give_one-requires-3
give_one-requires-3 c =
    let low : c.args.first.ticket < c.args.third.ticket = let a = c.requires.rise.0 in let b = c.requires.rise.1 in omega (arith, a, b) in
    let two = c.if-not-give_one.ensures refl (c.args.second ∷ c.args.first ∷ []) (below-two c.args.second c.args.first c.args.third c.requires.rise.1 low) (c.in_ok-early.ensures _ c.requires.held) in
    c.in_ok-late.ensures _ (c.if-not-give_one-2.ensures refl (c.args.first ∷ []) (below-one c.args.first c.args.second c.requires.rise.0) (c.in_ok-between.ensures _ two))
