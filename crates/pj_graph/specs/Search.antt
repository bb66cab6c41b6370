-- What the search for the next step finds.
use Rattle.std.specs.Prelude.{ℕ, ◌+◌, ◌<◌, ◌≡◌, Bool, true, false, not, ◌&&◌, ◌||◌, if◌then◌else◌, List, [], ◌∷◌, Option, Some, None, slice_index_or}
use Rattle.pj_shape.specs.declared.columns.Column.{Column}
use Rattle.pj_shape.specs.declared.joins.CertStep.{CertStep}
use Rattle.pj_shape.specs.declared.joins.ClassCol.{ClassCol}
use Rattle.pj_shape.specs.Joining.{class_of}
use Rattle.pj_shape.specs.declared.joins.JoinSpec.{JoinSpec}
use Rattle.pj_graph.specs.declared.answers.Reach.{Reach}
use Rattle.pj_graph.specs.declared.answers.Reach.TheVariants.{All, Stuck}
use Rattle.pj_graph.specs.Certificates.{IsNextStep}
use Rattle.pj_graph.specs.Saturation.{sorted_below}
use Rattle.pj_shape.specs.Sets.{IsClosed}
use Rattle.pj_value.specs.Lists.{has}

-- the numbers of the classes of so many columns of an input, from this column on
abbrev pub column_numbers : List (List ClassCol) → ℕ → ℕ → List Column → List (Option ℕ)
column_numbers classes input column [] = []
column_numbers classes input column (_ ∷ columns) =
    class_of classes (record { input = input; column = column }) ∷ column_numbers classes input (column + 1) columns

-- the same of each input from this one on
abbrev pub class_numbers : List (List ClassCol) → ℕ → List (List Column) → List (List (Option ℕ))
class_numbers classes input [] = []
class_numbers classes input (schema ∷ schemas) =
    column_numbers classes input 0 schema ∷ class_numbers classes (input + 1) schemas

-- whether the class with this number is marked
abbrev pub is_marked : List Bool → Option ℕ → Bool
is_marked bound None = false
is_marked bound (Some class) = slice_index_or bound class false

-- whether the column is not marked, or its class is
abbrev pub is_met : List Bool → Option ℕ → Bool → Bool
is_met bound number mark = not mark || is_marked bound number

-- whether the class of each marked column is marked
abbrev pub all_marked : List Bool → List (Option ℕ) → List Bool → Bool
all_marked bound [] marks = true
all_marked bound (number ∷ numbers) [] = true
all_marked bound (number ∷ numbers) (mark ∷ marks) = is_met bound number mark && all_marked bound numbers marks

-- the number of the first such scheme, counted from this number
abbrev pub first_from : List Bool → List (Option ℕ) → ℕ → List (List Bool) → Option ℕ
first_from bound numbers scheme [] = None
first_from bound numbers scheme (marks ∷ list) =
    if all_marked bound numbers marks then Some scheme else first_from bound numbers (scheme + 1) list

-- the step of this input by this scheme
abbrev pub with_input : ℕ → Option ℕ → Option CertStep
with_input input None = None
with_input input (Some scheme) = Some (record { input = input; scheme = scheme })

-- the step that adds this input
abbrev pub step_of : List Bool → List ℕ → ℕ → List (Option ℕ) → List (List Bool) → Option CertStep
step_of bound known input numbers list = if has known input then None else with_input input (first_from bound numbers 0 list)

-- the first that is there
abbrev pub first_of_both : Option CertStep → Option CertStep → Option CertStep
first_of_both None other = other
first_of_both (Some step) other = Some step

-- the step that adds the least input from this one on that can be added
abbrev pub step_from : List Bool → List ℕ → ℕ → List (List (Option ℕ)) → List (List (List Bool)) → Option CertStep
step_from bound known input [] lists = None
step_from bound known input (numbers ∷ table) [] = None
step_from bound known input (numbers ∷ table) (list ∷ lists) =
    first_of_both (step_of bound known input numbers list) (step_from bound known (input + 1) table lists)

-- the least of the first so many numbers that is none of these
abbrev pub IsMissing : List ℕ → ℕ → Option ℕ → Type 0
IsMissing known n None = (k : ℕ) → k < n → has known k ≡ true
IsMissing known n (Some missing) = (missing < n) × (has known missing ≡ false) × ((k : ℕ) → k < missing → has known k ≡ true)

-- what comes next where these inputs are known: the next step, or none where they are closed
abbrev pub IsNext : JoinSpec → List (List (List Bool)) → List ℕ → Option CertStep → Type 0
IsNext spec schemes known None = IsClosed spec schemes (has known)
IsNext spec schemes known (Some step) = IsNextStep spec schemes known step

-- the answer by the steps of the saturation and the inputs that it knows, of so many
abbrev pub IsAnswer : List CertStep → List ℕ → ℕ → Reach → Type 0
IsAnswer steps known count (All cert) = (cert ≡ steps) × IsMissing known count None
IsAnswer steps known count (Stuck reached missing) = (reached ≡ sorted_below known count) × IsMissing known count (Some missing)
