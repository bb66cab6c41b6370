-- What is said of one operator.
use Rattle.std.proofs.Common.{ℕ, ◌≡◌, Bool, true, false, List, Some, None, refl, sym}
use Rattle.std.proofs.lemmas.Bool.{false≢true}
use Rattle.std.proofs.lemmas.Option.{none-some}
use Rattle.pj_shape.specs.declared.joins.JoinSpec.{JoinSpec}
use Rattle.pj_shape.specs.Sets.{IsSafe}
use Rattle.pj_plan.specs.declared.node.Node.{Node}
use Rattle.pj_plan.specs.declared.node.Node.TheVariants.{Stream, Select, Project, Union, Join, Group}
use Rattle.pj_plan.specs.Nodes.{inputs_of, is_join, join_in}
use Rattle.pj_scheme.specs.Derived.{inputs_schemes}
use Rattle.pj_safety.specs.declared.risk.PlanRisk.TheVariants.{Stuck}
use Rattle.pj_safety.specs.Safety.{IsFirstStuck, IsOperatorRisk, IsSafeOperator, no_spec, spec_in}

-- ---- whether it is a join

pub is_some_join : (node : Node) (spec : JoinSpec) → Some spec ≡ join_in node → is_join node ≡ true
is_some_join (Stream schemes) spec e = absurd (none-some spec (sym e))
is_some_join (Select input test) spec e = absurd (none-some spec (sym e))
is_some_join (Project input columns) spec e = absurd (none-some spec (sym e))
is_some_join (Union inputs) spec e = absurd (none-some spec (sym e))
is_some_join (Join inputs shape) spec e = refl
is_some_join (Group input shape) spec e = absurd (none-some spec (sym e))

pub is_no_join : (node : Node) → None ≡ join_in node → is_join node ≡ false
is_no_join (Stream schemes) e = refl
is_no_join (Select input test) e = refl
is_no_join (Project input columns) e = refl
is_no_join (Union inputs) e = refl
is_no_join (Join inputs spec) e = absurd (none-some spec e)
is_no_join (Group input spec) e = refl

pub no_shape : (node : Node) → is_join node ≡ false → spec_in node ≡ no_spec
no_shape (Stream schemes) e = refl
no_shape (Select input test) e = refl
no_shape (Project input columns) e = refl
no_shape (Union inputs) e = refl
no_shape (Join inputs spec) e = absurd (false≢true (sym e))
no_shape (Group input spec) e = refl

-- ---- whether it is safe

module _ (all : List (List (List Bool))) where
  pub join_safe : (node : Node) → is_join node ≡ true → IsSafe (spec_in node) (inputs_schemes all (inputs_of node)) → IsSafeOperator all node
  join_safe (Stream schemes) e safe = tt
  join_safe (Select input test) e safe = tt
  join_safe (Project input columns) e safe = tt
  join_safe (Union inputs) e safe = tt
  join_safe (Join inputs spec) e safe = safe
  join_safe (Group input spec) e safe = tt

  pub safe_join : (node : Node) → is_join node ≡ true → IsSafeOperator all node → IsSafe (spec_in node) (inputs_schemes all (inputs_of node))
  safe_join (Stream schemes) e safe = absurd (false≢true e)
  safe_join (Select input test) e safe = absurd (false≢true e)
  safe_join (Project input columns) e safe = absurd (false≢true e)
  safe_join (Union inputs) e safe = absurd (false≢true e)
  safe_join (Join inputs spec) e safe = safe
  safe_join (Group input spec) e safe = absurd (false≢true e)

  pub other_safe : (node : Node) → is_join node ≡ false → IsSafeOperator all node
  other_safe (Stream schemes) e = tt
  other_safe (Select input test) e = tt
  other_safe (Project input columns) e = tt
  other_safe (Union inputs) e = tt
  other_safe (Join inputs spec) e = absurd (false≢true (sym e))
  other_safe (Group input spec) e = tt

  pub join_stuck : (node : Node) (input missing : ℕ) → is_join node ≡ true → IsFirstStuck (spec_in node) (inputs_schemes all (inputs_of node)) input missing
      → IsOperatorRisk all node (Stuck input missing)
  join_stuck (Stream schemes) input missing e stuck = absurd (false≢true e)
  join_stuck (Select from test) input missing e stuck = absurd (false≢true e)
  join_stuck (Project from columns) input missing e stuck = absurd (false≢true e)
  join_stuck (Union inputs) input missing e stuck = absurd (false≢true e)
  join_stuck (Join inputs spec) input missing e stuck = stuck
  join_stuck (Group from spec) input missing e stuck = absurd (false≢true e)
