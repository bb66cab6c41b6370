use Rattle.std.proofs.Common.{List, [], ◌∷◌, ◌++◌, ◌≡◌, ap, ◌∙◌, sym, subst}
use Rattle.pj_events.specs.Operators.{Sent}
use Rattle.pj_flow.specs.Insides.{AreHeld, seen}
use Rattle.pj_flow.specs.Stored.{AreStored}
use Rattle.pj_flow.proofs.Holding.{asked_again, held_again, union_seen}
use Rattle.pj_flow.proofs.union.Union.punct.Goals as goal

pub taken-requires-clause-asked : goal.taken-requires-clause-asked
taken-requires-clause-asked c =
    asked_again c.self.inside.inputs c.self.inside.came c.new.result c.self.inside.waiting.items c.as_slice-2.result.now c.as_slice-3.result.now c.self.invariant.0
    (c.as_slice-2.ensures ∙ c.in_ok-push.ensures.ok) c.as_slice-3.ensures.value

pub invariant_of-self-in-Ok : goal.invariant_of-self-in-Ok
invariant_of-self-in-Ok c = (
  subst (λ (all : List Sent). AreHeld c.self.inside.inputs all c.in-Ok.waiting.items) (sym c.in_ok-push.ensures.ok)
      (held_again c.self.inside.inputs c.self.inside.came c.new.result c.self.inside.waiting.items c.as_slice-2.result.now c.as_slice-3.result.now c.in-Ok.waiting.items c.self.invariant.0
      (c.as_slice-2.ensures ∙ c.in_ok-push.ensures.ok) c.as_slice-3.ensures.value c.in-Ok.ensures.stay),
  subst (λ (all : List Sent). AreStored c.self.inside.arity all 0 c.taken.new.stores.items) c.as_slice-2.ensures c.in-Ok.ensures.filed,
)

pub returns-in-Ok-clause-keeps : goal.returns-in-Ok-clause-keeps
returns-in-Ok-clause-keeps c =
    let all : c.push.new.self ≡ c.self.inside.came ++ record { input = c.args.input; patterns = c.args.punct } ∷ [] = c.in_ok-push.ensures.ok ∙ ap (λ (q : Sent). c.self.inside.came ++ q ∷ []) c.new.ensures in
    ap (λ (came : List Sent). seen c.self.inside.inputs c.self.inside.arity came c.in-Ok.waiting.items) all
    ∙ union_seen c.self.inside.inputs c.self.inside.arity c.args.input c.args.punct c.self.inside.came c.self.inside.waiting.items c.as_slice-2.result.now c.as_slice-3.result.now c.in-Ok.waiting.items c.args.self.now
    (sym c.self.view_is) c.self.invariant.0 (c.as_slice-2.ensures ∙ all) c.as_slice-3.ensures.value c.in-Ok.ensures.stay
