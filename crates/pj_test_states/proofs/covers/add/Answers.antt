use Rattle.std.proofs.Common.{◌+◌, List, refl, sym, subst}
use Rattle.pj_puncts.specs.declared.store.NumberedPunct.{NumberedPunct}
use Rattle.pj_puncts.specs.Stores.{IsAbove}
use Rattle.pj_puncts.proofs.Firsts.{above_push}
use Rattle.pj_test_states.proofs.Above.{above_rises}
use Rattle.pj_test_states.proofs.covers.add.Goals as goal

pub push-requires-clause-rises : goal.push-requires-clause-rises
push-requires-clause-rises c = above_rises c.args.next c.args.number c.args.store.now.kept c.requires.above c.if-number-next.false

pub returns-clause-above : goal.returns-clause-above
returns-clause-above c =
    subst (λ (ks : List NumberedPunct). IsAbove (c.args.number + 1) ks) (sym c.in_ok-push.ensures.ok)
    (above_push c.args.number c.args.store.now.kept (record { punct = c.in_ok-punct.punct; number = c.args.number })
    (above_rises c.args.next c.args.number c.args.store.now.kept c.requires.above c.if-number-next.false) refl)
