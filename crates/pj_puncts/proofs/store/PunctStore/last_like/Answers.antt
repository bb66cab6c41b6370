use Rattle.std.proofs.Common.{List, ap, subst}
use Rattle.std.specs.Option.{IfSome}
use Rattle.pj_puncts.specs.Alone.{kept_of}
use Rattle.pj_puncts.specs.Stores.{IsOneOf, Store}
use Rattle.pj_puncts.specs.declared.store.NumberedPunct.{NumberedPunct}
use Rattle.pj_puncts.proofs.Last.{some_among}
use Rattle.pj_puncts.proofs.store.PunctStore.last_like.Goals as goal

pub returns : goal.returns
returns c =
    subst (λ (kept : List NumberedPunct). IfSome c.last_like.result (λ last. IsOneOf kept last.now)) (ap (λ (s : Store). s.kept) c.self.view_is)
    (some_among (λ last. last.now) (kept_of c.self.inside.arity c.self.inside.others c.self.inside.numbers) c.self.inside.others c.as_slice.result.now c.last_like.result c.as_slice.ensures c.self.invariant.among c.last_like.ensures)
