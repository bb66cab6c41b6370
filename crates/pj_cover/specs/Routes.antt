-- The routes of purges: for each step of a certificate, by which columns its rows join with the rows of the steps before it.
use Rattle.std.specs.Prelude.{ℕ, ◌+◌, ◌<◌, ◌≤◌, ◌≡◌, Bool, if◌then◌else◌, List, [], ◌∷◌, ◌++◌, Option, None, Some, IfSome, drop, filter, length, map, slice_get, take, true}
use Rattle.std.specs.List.{list_all}
use Rattle.pj_value.specs.declared.values.Value.{Value}
use Rattle.pj_value.specs.Values.{value_eq}
use Rattle.pj_shape.specs.declared.joins.JoinSpec.{JoinSpec}
use Rattle.pj_shape.specs.Joining.{cell_value}
use Rattle.pj_events.specs.Join.{CertEntry, CertStep, ClassCol, In, TupleAt, class_with, constant, entry_of, value_at}
use Rattle.pj_puncts.specs.Givens.{only_marked}
use Rattle.pj_cover.specs.Asking.{constants_in}
use Rattle.pj_cover.specs.declared.route.PurgeLink.{PurgeLink}
use Rattle.pj_cover.specs.declared.route.PurgeStep.{PurgeStep}
use Rattle.pj_cover.specs.declared.route.Source.{Source}

-- ---- links

-- the input at the place, counted from the latest known one, has the column, which is in the class
abbrev pub IsSource : List ClassCol → List ℕ → Source → Type 0
IsSource class known from = (input : ℕ) × (slice_get known from.place ≡ Some input) × In (record { input = input; column = from.column }) class

-- the source is one of the class; none is told only where no column of the class is of a known input
abbrev pub FindsSource : List ClassCol → List ℕ → Option Source → Type 0
FindsSource class known None = (c : ClassCol) → In c class → In c.input known → ⊥
FindsSource class known (Some from) = IsSource class known from

-- the place of the input is told; none only where it is not known
abbrev pub FindsPlace : List ℕ → ℕ → Option ℕ → Type 0
FindsPlace known input None = In input known → ⊥
FindsPlace known input (Some place) = slice_get known place ≡ Some input

-- the source of the link is one of the class of its column
abbrev pub IsLink : List (List ClassCol) → List ℕ → ℕ → PurgeLink → Type 0
IsLink classes known input link = IsSource (class_with classes input link.column) known link.from

abbrev pub column_of : PurgeLink → ℕ
column_of link = link.column

abbrev pub marked_links : List PurgeLink → List PurgeLink
marked_links links = filter (λ link. link.is_marked) links

-- the marked columns, of which the first is this one
abbrev pub marked_columns : ℕ → List Bool → List ℕ
marked_columns column [] = []
marked_columns column (mark ∷ marks) = (if mark then (column ∷ []) else []) ++ marked_columns (column + 1) marks

-- among the first so many columns of the entry's input each has a link whose class has one of a known input, in their order
pub record AreLinks (classes : List (List ClassCol)) (known : List ℕ) (e : CertEntry) (upto : ℕ) (links : List PurgeLink) : Type 0 where
  pub right : (link : PurgeLink) → In link links → IsLink classes known e.input link
  pub all : (column : ℕ) (c : ClassCol) → column < upto → In c (class_with classes e.input column) → In c.input known → (link : PurgeLink) × In link links × (link.column ≡ column)
  pub marked : map column_of (marked_links links) ≡ marked_columns 0 (take upto e.marks)
  pub few : length links ≤ upto

-- the second list has such links behind the first one
abbrev pub AddsLinks : List (List ClassCol) → List ℕ → CertEntry → ℕ → List PurgeLink → List PurgeLink → Type 0
AddsLinks classes known e upto old new = (more : List PurgeLink) × (new ≡ old ++ more) × AreLinks classes known e upto more

-- ---- steps

-- where the class has a column of the input, it has one of a known input
abbrev pub IsFixed : List ℕ → ℕ → List ClassCol → Type 0
IsFixed known input class = (at : ClassCol) → In at class → at.input ≡ input → (c : ClassCol) × In c class × In c.input known

-- each of the classes does: the rows of the known inputs tell the value of each column of the input that is in a class
abbrev pub AreFixed : List (List ClassCol) → List ℕ → ℕ → Type 0
AreFixed classes known input = (class : List ClassCol) → In class classes → IsFixed known input class

-- the links of a step
abbrev pub links_of : List PurgeLink → PurgeStep → List PurgeLink
links_of links step = take step.count (drop step.first links)

-- the link is the one of the only column that the scheme marks
abbrev pub IsSingle : List PurgeLink → List Bool → PurgeLink → Type 0
IsSingle links marks link = In link links × (only_marked link.column marks ≡ true)

-- the step's links are those of its entry, where rows of these inputs are known
pub record IsPurgeStep (classes : List (List ClassCol)) (e : CertEntry) (known : List ℕ) (links : List PurgeLink) (step : PurgeStep) : Type 0 where
  pub within : step.first + step.count ≤ length links
  pub leads : AreLinks classes known e (length e.marks) (links_of links step)
  pub single : IfSome step.single (IsSingle (links_of links step) e.marks)
  pub determined : step.is_determined ≡ true → AreFixed classes known e.input

-- a route: its steps, and the links of all of them
pub record RouteView : Type 0 where
  pub steps : List PurgeStep
  pub links : List PurgeLink

-- the links of each step are right where rows of these inputs and of those of the steps before it are known
abbrev pub AreSteps : List (List ClassCol) → List (List (List Bool)) → List PurgeLink → List ℕ → List PurgeStep → Type 0
AreSteps classes schemes links known [] = Unit {0}
AreSteps classes schemes links known (s ∷ steps) =
    IsPurgeStep classes (entry_of schemes s.step) known links s × AreSteps classes schemes links (s.step.input ∷ known) steps

abbrev pub step_of : PurgeStep → CertStep
step_of s = s.step

-- the certificate that the route follows
abbrev pub steps_in : RouteView → List CertStep
steps_in route = map step_of route.steps

-- the route follows the certificate from rows of the input
pub record IsPurgeRoute (spec : JoinSpec) (schemes : List (List (List Bool))) (cert : List CertStep) (own : ℕ) (route : RouteView) : Type 0 where
  pub follows : steps_in route ≡ cert
  pub leads : AreSteps spec.classes schemes route.links (own ∷ []) route.steps

-- ---- what is read by them

-- the cell that a link leads from, in rows of the known inputs
abbrev pub cell_in : Option TupleAt → ℕ → Option Value
cell_in None column = None
cell_in (Some x) column = slice_get x.row column

abbrev pub cell_from : List TupleAt → Source → Option Value
cell_from xs from = cell_in (slice_get xs from.place) from.column

-- its value
abbrev pub value_from : List TupleAt → PurgeLink → Value
value_from xs link = cell_value (cell_from xs link.from)

-- the row has that value in the link's column
abbrev pub matches : List TupleAt → TupleAt → PurgeLink → Bool
matches xs y link = value_eq (value_at y.row link.column) (value_from xs link)

-- it has those of all these links
abbrev pub match_all : List PurgeLink → List TupleAt → TupleAt → Bool
match_all links xs y = list_all (matches xs y) links

-- the cell is there
abbrev pub IsThere : List TupleAt → PurgeLink → Type 0
IsThere xs link = (v : Value) × (cell_from xs link.from ≡ Some v)

-- that of each of these links is
abbrev pub AreThere : List TupleAt → List PurgeLink → Type 0
AreThere xs links = (link : PurgeLink) → In link links → IsThere xs link

-- the values of those that are marked
abbrev pub marked_values : List PurgeLink → List TupleAt → List Value
marked_values links xs = map (value_from xs) (marked_links links)

-- a link of the column leads to this value
abbrev pub HasKey : List PurgeLink → List TupleAt → ℕ → Value → Type 0
HasKey links xs column value = (link : PurgeLink) × In link links × (link.column ≡ column) × (cell_from xs link.from ≡ Some value)

-- what the links of a step lead to is there, and is what its entry asks for
pub record IsReady (classes : List (List ClassCol)) (e : CertEntry) (links : List PurgeLink) (step : PurgeStep) (xs : List TupleAt) : Type 0 where
  pub within : step.first + step.count ≤ length links
  pub there : AreThere xs (links_of links step)
  pub marked : marked_values (links_of links step) xs ≡ constants_in classes e.input 0 e.marks xs
  pub single : IfSome step.single (λ link. IsSingle (links_of links step) e.marks link × (constant (class_with classes e.input link.column) xs ≡ value_from xs link))
