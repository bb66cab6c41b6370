-- One join of any number of inputs: what has arrived, what is stored, what may be forgotten and what is handed up.
use Rattle.std.specs.Prelude.{ℕ, zero, suc, ◌+◌, ◌<◌, ◌≤◌, ◌≡◌, Bool, true, false, not, ◌==◌, nat_lt, ◌&&◌, ◌||◌, if◌then◌else◌, List, [], ◌∷◌, ◌++◌, map, length, take, drop, slice_index, slice_index_or, Option, Some, None, filter, flat_map, sum, min}
pub use Rattle.pj_value.specs.Lists.{In, has}
use Rattle.std.specs.List.{list_all, list_any}
pub use Rattle.pj_value.specs.declared.values.Value.{Value}
pub use Rattle.pj_shape.specs.declared.joins.ClassCol.{ClassCol}
pub use Rattle.pj_shape.specs.declared.joins.CertStep.{CertStep}
pub use Rattle.pj_shape.specs.declared.joins.JoinSpec.{JoinSpec}
pub use Rattle.pj_shape.specs.Lists.{product}
pub use Rattle.pj_shape.specs.Joining.{Part, value_at, no_value, values, joins, joined_row, class_of}
use Rattle.pj_shape.specs.Sound.{AreApart, FitSchemes, arities_of}
use Rattle.pj_shape.specs.Certificates.{IsCertificate}
pub use Rattle.pj_pattern.specs.declared.element.Element.{Element}
pub use Rattle.pj_pattern.specs.declared.element.Element.TheVariants.{Tuple, Punct}
pub use Rattle.pj_pattern.specs.Elements.{rows_of, puncts_of}
use Rattle.pj_events.specs.Patterns.{Pattern, all_wild, matches_row, covers}

-- ---- what a join is

-- The shape of a join, and beside it for each input its schemes and its certificate.
-- A join without certificates is never swept.
pub record JoinData : Type 0 where
  pub shape : JoinSpec
  pub schemes : List (List (List Bool))
  pub certs : List (List CertStep)

-- the numbers of columns of the inputs
abbrev pub arities : JoinData → List ℕ
arities spec = arities_of spec.shape.inputs

abbrev pub inputs : JoinData → ℕ
inputs spec = length (arities spec)

abbrev pub arity : JoinData → ℕ → ℕ
arity spec input = slice_index (arities spec) input

-- an input, and the marks of one of its schemes
pub record CertEntry : Type 0 where
  pub input : ℕ
  pub marks : List Bool

-- what a step of a certificate stands for, where the inputs have these schemes
abbrev pub entry_of : List (List (List Bool)) → CertStep → CertEntry
entry_of schemes step = record { input = step.input; marks = slice_index_or (slice_index_or schemes step.input []) step.scheme [] }

abbrev pub steps_of : JoinData → ℕ → List CertStep
steps_of spec input = slice_index_or spec.certs input []

-- the certificate of an input
abbrev pub cert_of : JoinData → ℕ → List CertEntry
cert_of spec input = map (entry_of spec.schemes) (steps_of spec input)

-- ---- what has arrived

-- a tuple, with its ticket and the input at which it came
pub record TupleAt : Type 0 where
  pub ticket : ℕ
  pub input : ℕ
  pub row : List Value

-- a punctuation, with its ticket and the input at which it came
pub record PunctAt : Type 0 where
  pub ticket : ℕ
  pub input : ℕ
  pub patterns : List Pattern

-- those of an input
abbrev pub of_input : ℕ → List TupleAt → List TupleAt
of_input input xs = filter (λ x. x.input == input) xs

-- those with smaller tickets
abbrev pub older : ℕ → List TupleAt → List TupleAt
older ticket xs = filter (λ x. nat_lt x.ticket ticket) xs

abbrev pub older_puncts : ℕ → List PunctAt → List PunctAt
older_puncts ticket ps = filter (λ p. nat_lt p.ticket ticket) ps

-- ---- tuples that join

abbrev pub part_of : TupleAt → Part
part_of x = record { input = x.input; row = x.row }

-- whether the rows of these tuples join
abbrev pub agree : List (List ClassCol) → List TupleAt → Bool
agree classes xs = joins classes (map part_of xs)

-- their rows, end to end
abbrev pub joined : List TupleAt → List Value
joined xs = joined_row (map part_of xs)

-- ---- the instances that a row asks for

-- the columns of the class with this number, or none
abbrev pub class_at : List (List ClassCol) → Option ℕ → List ClassCol
class_at classes None = []
class_at classes (Some n) = slice_index_or classes n []

-- the columns of the first class that has this column, or none
abbrev pub class_with : List (List ClassCol) → ℕ → ℕ → List ClassCol
class_with classes input column = class_at classes (class_of classes (record { input = input; column = column }))

-- the value that the class has in these tuples
abbrev pub constant : List ClassCol → List TupleAt → Value
constant class xs = value_at (values (map part_of xs) class) 0

-- the scheme's instance whose constants are the values of these tuples in the marked columns' classes
abbrev pub instance_from : List (List ClassCol) → ℕ → ℕ → List Bool → List TupleAt → List (Option Value)
instance_from classes input column [] xs = []
instance_from classes input column (true ∷ marks) xs =
    Some (constant (class_with classes input column) xs) ∷ instance_from classes input (column + 1) marks xs
instance_from classes input column (false ∷ marks) xs = None ∷ instance_from classes input (column + 1) marks xs

-- an input, and an instance of a scheme of it
pub record Demand : Type 0 where
  pub input : ℕ
  pub instance : List (Option Value)

abbrev pub demand : List (List ClassCol) → CertEntry → List TupleAt → Demand
demand classes e xs = record { input = e.input; instance = instance_from classes e.input 0 e.marks xs }

-- these tuples with one more of the entry's input, where they join
abbrev pub grown : List (List ClassCol) → List TupleAt → CertEntry → List TupleAt → List (List TupleAt)
grown classes rows e xs = filter (agree classes) (map (λ x. x ∷ xs) (of_input e.input rows))

-- for each entry, and for each way to take one row for each entry before it, with which these tuples join: the instance
abbrev pub need : List (List ClassCol) → List TupleAt → List CertEntry → List TupleAt → List Demand
need classes rows [] xs = []
need classes rows (e ∷ cert) xs = demand classes e xs ∷ flat_map (need classes rows cert) (grown classes rows e xs)

-- what a row asks for under the certificate of its input, over these rows; nothing, where it joins with no rows at all
abbrev pub need_of : JoinData → List TupleAt → TupleAt → List Demand
need_of spec rows x =
    if agree spec.shape.classes (x ∷ []) then need spec.shape.classes rows (cert_of spec x.input) (x ∷ []) else []

-- one of these punctuations covers the instance
abbrev pub covered : List PunctAt → Demand → Bool
covered puncts d = list_any (λ p. (p.input == d.input) && covers p.patterns d.instance) puncts

-- ---- the join's state, and its steps

-- the next ticket, all that arrived, the tickets that are taken and given, the tuples that are stored, and the punctuations that wait
pub record JoinState : Type 0 where
  pub next : ℕ
  pub tuples : List TupleAt
  pub puncts : List PunctAt
  pub taken : List ℕ
  pub given : List ℕ
  pub stored : List TupleAt
  pub waiting : List PunctAt

abbrev pub start : JoinState
start = record { next = 0; tuples = []; puncts = []; taken = []; given = []; stored = []; waiting = [] }

pub data Step : Type 0 where
  TupleComes : ℕ → List Value → Step
  PunctComes : ℕ → List Pattern → Step
  Take : ℕ → Step
  Give : ℕ → Step
  Sweep : ℕ → Step

-- no number of the list stands in it again
abbrev pub AreDistinct : List ℕ → Type 0
AreDistinct [] = Unit {0}
AreDistinct (n ∷ ns) = (has ns n ≡ false) × AreDistinct ns

-- the least ticket of these tuples that is not given; the next where there is none
abbrev pub least_open : List ℕ → ℕ → List TupleAt → ℕ
least_open given next [] = next
least_open given next (x ∷ xs) =
    if has given x.ticket then least_open given next xs else min x.ticket (least_open given next xs)

-- the low-water ticket
abbrev pub low : JoinState → ℕ
low s = least_open s.given s.next s.tuples

-- the tuple may be forgotten: it is given, with all before it, and each instance that it asks for is covered
abbrev pub ripe : JoinData → JoinState → TupleAt → Bool
ripe spec s x = nat_lt x.ticket (low s) && list_all (covered (older_puncts (low s) s.puncts)) (need_of spec (older (low s) s.stored) x)

-- what a sweep of the input leaves
abbrev pub kept : JoinData → JoinState → ℕ → List TupleAt
kept spec s input = filter (λ x. not ((x.input == input) && ripe spec s x)) s.stored

-- what a sweep of the input removes
abbrev pub removed : JoinData → JoinState → ℕ → List TupleAt
removed spec s input = filter (λ x. (x.input == input) && ripe spec s x) s.stored

-- a tuple of the punctuation's input matches it
abbrev pub is_held : List TupleAt → PunctAt → Bool
is_held stored p = list_any (λ x. (x.input == p.input) && matches_row p.patterns x.row) stored

abbrev pub new_tuple : JoinState → ℕ → List Value → TupleAt
new_tuple s input row = record { ticket = s.next; input = input; row = row }

abbrev pub new_punct : JoinState → ℕ → List Pattern → PunctAt
new_punct s input patterns = record { ticket = s.next; input = input; patterns = patterns }

-- the state after a step
abbrev pub step : JoinData → JoinState → Step → JoinState
step spec s (TupleComes input row) =
    record s { next = s.next + 1; tuples = s.tuples ++ new_tuple s input row ∷ []; stored = s.stored ++ new_tuple s input row ∷ [] }
step spec s (PunctComes input patterns) =
    record s {
      next = s.next + 1;
      puncts = s.puncts ++ new_punct s input patterns ∷ [];
      waiting = if is_held s.stored (new_punct s input patterns) then s.waiting ++ new_punct s input patterns ∷ [] else s.waiting;
    }
step spec s (Take u) = record s { taken = u ∷ s.taken }
step spec s (Give u) = record s { given = u ∷ s.given }
step spec s (Sweep input) =
    record s {
      stored = kept spec s input;
      waiting = filter (λ p. not (p.input == input) || is_held (kept spec s input) p) s.waiting;
    }

abbrev pub run : JoinData → JoinState → List Step → JoinState
run spec s [] = s
run spec s (e ∷ es) = run spec (step spec s e) es

-- ---- certificates

-- no column stands in two classes, the schemes are as wide as their inputs, and every input has a certificate
pub record AreCertified (spec : JoinData) : Type 0 where
  pub apart : AreApart spec.shape.classes
  pub fitting : FitSchemes spec.shape.inputs spec.schemes
  pub each : (input : ℕ) → input < inputs spec → IsCertificate spec.shape spec.schemes input (steps_of spec input)

-- ---- which steps are allowed, and which rows may still come

-- a tuple of this input that comes now matches no punctuation of it that came before
abbrev pub IsNew : List PunctAt → ℕ → List Value → Type 0
IsNew puncts input row = (p : PunctAt) → In p puncts → p.input ≡ input → matches_row p.patterns row ≡ false

-- a tuple has this ticket
abbrev pub HasCome : JoinState → ℕ → Type 0
HasCome s u = (x : TupleAt) × In x s.tuples × (x.ticket ≡ u)

-- an element fits its input, and a tuple matches no punctuation before it; a ticket is taken once, and then given once;
-- a join is swept where its inputs have certificates
abbrev pub IsAllowed : JoinData → JoinState → Step → Type 0
IsAllowed spec s (TupleComes input row) = (input < inputs spec) × (length row ≡ arity spec input) × IsNew s.puncts input row
IsAllowed spec s (PunctComes input patterns) = (input < inputs spec) × (length patterns ≡ arity spec input)
IsAllowed spec s (Take u) = HasCome s u × (has s.taken u ≡ false)
IsAllowed spec s (Give u) = (has s.taken u ≡ true) × (has s.given u ≡ false)
IsAllowed spec s (Sweep input) = (input < inputs spec) × AreCertified spec

abbrev pub AreLegalSteps : JoinData → JoinState → List Step → Type 0
AreLegalSteps spec s [] = Unit {0}
AreLegalSteps spec s (e ∷ es) = IsAllowed spec s e × AreLegalSteps spec (step spec s e) es

-- a row that a lawful step may still bring
abbrev pub MayCome : JoinData → JoinState → TupleAt → Type 0
MayCome spec s x = (s.next ≤ x.ticket) × (length x.row ≡ arity spec x.input) × IsNew s.puncts x.input x.row

-- one tuple of each input, and they join
pub record IsCombination (spec : JoinData) (xs : List TupleAt) : Type 0 where
  pub every : (k : ℕ) → k < inputs spec → (x : TupleAt) × In x xs × (x.input ≡ k)
  pub single : (x y : TupleAt) → In x xs → In y xs → x.input ≡ y.input → x ≡ y
  pub within : (x : TupleAt) → In x xs → x.input < inputs spec
  pub joining : agree spec.shape.classes xs ≡ true

-- ---- results

-- so many numbers from this one on
abbrev pub upto_from : ℕ → ℕ → List ℕ
upto_from k zero = []
upto_from k (suc n) = k ∷ upto_from (k + 1) n

-- the tuple itself at its own input, the older tuples at every other
abbrev pub candidates : TupleAt → List TupleAt → ℕ → List TupleAt
candidates x rows input = if input == x.input then (x ∷ []) else of_input input (older x.ticket rows)

-- the combinations of the tuple and one older tuple of each other input that join, in the order of their tickets
abbrev pub combinations : JoinData → List TupleAt → TupleAt → List (List TupleAt)
combinations spec rows x = filter (agree spec.shape.classes) (product (map (candidates x rows) (upto_from 0 (inputs spec))))

-- the results of a ticket of these tuples, over these rows
abbrev pub results : JoinData → List TupleAt → List TupleAt → ℕ → List (List TupleAt)
results spec tuples rows u = flat_map (combinations spec rows) (filter (λ x. x.ticket == u) tuples)

-- ---- what the join hands up

-- the punctuation with wildcards for the columns of the other inputs
abbrev pub widened : JoinData → PunctAt → List Pattern
widened spec p =
    all_wild (sum (take p.input (arities spec))) ++ p.patterns ++ all_wild (sum (drop (p.input + 1) (arities spec)))

abbrev pub hands_up : JoinData → JoinState → Step → List Element
hands_up spec s (TupleComes input row) = []
hands_up spec s (PunctComes input patterns) =
    if not (is_held s.stored (new_punct s input patterns)) then (Punct (widened spec (new_punct s input patterns)) ∷ []) else []
hands_up spec s (Take u) = []
hands_up spec s (Give u) = map (λ c. Tuple (joined c)) (results spec s.tuples s.tuples u)
hands_up spec s (Sweep input) =
    map (λ p. Punct (widened spec p)) (filter (λ p. (p.input == input) && not (is_held (kept spec s input) p)) s.waiting)

abbrev pub outputs : JoinData → JoinState → List Step → List Element
outputs spec s [] = []
outputs spec s (e ∷ es) = hands_up spec s e ++ outputs spec (step spec s e) es

-- ---- the whole

-- every tuple is given
abbrev pub AllGiven : JoinState → Type 0
AllGiven s = (x : TupleAt) → In x s.tuples → has s.given x.ticket ≡ true

-- every tuple is given, and no punctuation waits
abbrev pub IsSettled : JoinState → Type 0
IsSettled s = AllGiven s × (s.waiting ≡ [])

-- nested loops over the inputs' tuples
abbrev pub all_combinations : JoinData → List TupleAt → List (List TupleAt)
all_combinations spec tuples = filter (agree spec.shape.classes) (product (map (λ k. of_input k tuples) (upto_from 0 (inputs spec))))
