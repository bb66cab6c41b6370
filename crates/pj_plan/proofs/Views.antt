-- What is seen of a node by position.
use Rattle.std.proofs.Common.{◌≡◌, ℕ, zero, suc, ◌+◌, ◌<◌, Bool, false, List, [], ◌∷◌, Option, Some, None, length, drop, refl, ap, sym, ◌∙◌}
use Rattle.std.specs.Prelude.{◌==◌, slice_index}
use Rattle.std.specs.List.{slice_get}
use Rattle.std.proofs.lemmas.List.{drop_more}
use Rattle.std.proofs.lemmas.Option.{get_or_from_slice_get, slice_get_within, slice_get-get_or, none-some}
use Rattle.pj_plan.specs.declared.node.Node.{Node}
use Rattle.pj_plan.specs.declared.node.Node.TheVariants.{Stream, Select, Project, Union, Join, Group}
use Rattle.pj_plan.specs.Faults.{schemes_of}
use Rattle.pj_plan.specs.Nodes.{stated_in}

pub only_first : (input at : ℕ) → at ≡ 0 → Some input ≡ slice_get (input ∷ []) at
only_first input at first = sym (ap (slice_get (input ∷ [])) first)

pub none_behind : (input at : ℕ) → (at ≡ 0 → ⊥) → None ≡ slice_get (input ∷ []) at
none_behind input zero behind = absurd (behind refl)
none_behind input (suc at) behind = refl

pub drop_at : {A : Type 0} (items : List A) (at : ℕ) (item : A) → slice_get items at ≡ Some item → drop at items ≡ item ∷ drop (at + 1) items
drop_at items at item there = drop_more items at item (slice_get_within items at item there) ∙ ap (λ (x : _). x ∷ drop (at + 1) items) (get_or_from_slice_get items at item item there)

pub input_is : (inputs : List ℕ) (at input number : ℕ) → Some input ≡ slice_get inputs at → (input == number) ≡ (slice_index inputs at == number)
input_is inputs at input number there = ap (λ (n : ℕ). n == number) (sym (get_or_from_slice_get inputs at input 0 (sym there)))

-- an input below their number is there
pub input_there : (inputs : List ℕ) (at number : ℕ) → at < length inputs → None ≡ slice_get inputs at → false ≡ (slice_index inputs at == number)
input_there inputs at number below none = absurd (none-some _ (none ∙ slice_get-get_or inputs at 0 below))

pub schemes_counted : (node : Node) (schemes : List (List Bool)) → Some schemes ≡ stated_in node → length schemes ≡ schemes_of node
schemes_counted (Stream schemes) others is = ap count is
  where
    count : Option (List (List Bool)) → ℕ
    count None = 0
    count (Some some) = length some
schemes_counted (Select input test) schemes is = absurd (none-some schemes (sym is))
schemes_counted (Project input columns) schemes is = absurd (none-some schemes (sym is))
schemes_counted (Union inputs) schemes is = absurd (none-some schemes (sym is))
schemes_counted (Join inputs spec) schemes is = absurd (none-some schemes (sym is))
schemes_counted (Group input spec) schemes is = absurd (none-some schemes (sym is))

pub none_counted : (node : Node) → None ≡ stated_in node → 0 ≡ schemes_of node
none_counted (Stream schemes) none = absurd (none-some schemes none)
none_counted (Select input test) none = refl
none_counted (Project input columns) none = refl
none_counted (Union inputs) none = refl
none_counted (Join inputs spec) none = refl
none_counted (Group input spec) none = refl
