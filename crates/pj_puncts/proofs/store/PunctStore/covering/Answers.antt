use Rattle.std.proofs.Common.{◌≡◌, ◌∙◌, List, IfSome, true, subst, sym}
use Rattle.pj_puncts.specs.declared.store.NumberedPunct.{NumberedPunct}
use Rattle.pj_puncts.specs.Alone.{kept_of}
use Rattle.pj_puncts.specs.Indexed.{IsCovering, is_below}
use Rattle.pj_puncts.specs.Stores.{Store, TellsCover}
use Rattle.pj_puncts.proofs.Alone.{among_all}
use Rattle.pj_puncts.proofs.Lookups.{below_tells, covered_at_once}
use Rattle.pj_shape.specs.Instances.{instance_of}
use Rattle.pj_puncts.proofs.store.PunctStore.covering.Goals as goal

pub returns-then-is_below : goal.returns-then-is_below
returns-then-is_below c =
    let s = c.self.inside in
    let kept = kept_of s.arity s.others s.numbers in
    let cells = instance_of c.args.scheme.now c.args.given.now in
    let o = c.first_with-exact.result in
    let found : IfSome o (IsCovering s.others cells) = subst (λ (ks : List NumberedPunct). IfSome o (IsCovering ks cells)) c.as_slice.ensures c.first_with-exact.ensures in
    let yes : is_below o c.args.below ≡ true = sym c.is_below.ensures ∙ c.if-is_below.true in
    subst (λ (t : Store). TellsCover t.kept c.args.below cells o) c.self.view_is
    (below_tells kept cells c.args.below o yes (covered_at_once kept cells c.args.below o c.self.invariant.rising (among_all s.arity kept s.others s.index s.numbers cells o c.self.invariant found) yes))
