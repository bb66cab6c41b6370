-- The routes of probes: in which order other inputs are reached from a tuple, and where their rows are looked up.
use Rattle.std.specs.Prelude.{ℕ, ◌≡◌, ◌<◌, ◌-◌, ◌==◌, ◌||◌, Bool, true, false, List, [], ◌∷◌, Some, IfSome, length, map, slice_get, slice_index_or, take}
use Rattle.std.specs.Arc.{arc_value}
use Rattle.std.specs.List.{list_any}
use Rattle.pj_value.specs.Values.{value_eq}
use Rattle.pj_state.specs.States.{StateView}
use Rattle.pj_events.specs.Join.{ClassCol, In, TupleAt, value_at}
use Rattle.pj_rows.specs.AgreesWith.{agrees_with}
use Rattle.pj_probe.specs.declared.route.ProbeLink.{ProbeLink}
use Rattle.pj_probe.specs.declared.route.ProbeStep.{ProbeStep}
use Rattle.pj_probe.specs.declared.route.ProbeRoute.{ProbeRoute}

-- the columns of which each input keeps an index
abbrev pub columns_of : List StateView → List (List ℕ)
columns_of row_states = map (λ s. s.columns) row_states

-- the input is that of one of these steps, or the own one
abbrev pub is_reached : ℕ → List ProbeStep → ℕ → Bool
is_reached own steps k = list_any (λ s. s.input == k) steps || (own == k)

-- the first so many inputs are
abbrev pub AreReached : ℕ → ℕ → List ProbeStep → Type 0
AreReached count own steps = (k : ℕ) → k < count → is_reached own steps k ≡ true

-- the link leads from an input that these steps reach to a column of which an index is kept
pub record LeadsTo (columns : List ℕ) (own : ℕ) (before : List ProbeStep) (link : ProbeLink) : Type 0 where
  pub from : is_reached own before link.from_input ≡ true
  pub indexed : In link.index_column columns

-- the step goes on from these to an input that they do not reach
pub record IsStep (columns : List (List ℕ)) (own : ℕ) (before : List ProbeStep) (step : ProbeStep) : Type 0 where
  pub there : step.input < length columns
  pub other : is_reached own before step.input ≡ false
  pub link : IfSome step.link (LeadsTo (slice_index_or columns step.input []) own before)

-- each goes on from those before it
abbrev pub AreSteps : List (List ℕ) → ℕ → List ProbeStep → Type 0
AreSteps columns own steps = (i : ℕ) (step : ProbeStep) → slice_get steps i ≡ Some step → IsStep columns own (take i steps) step

-- they reach each input, each other one by one step
pub record IsRoute (columns : List (List ℕ)) (own : ℕ) (steps : List ProbeStep) : Type 0 where
  pub ordered : AreSteps columns own steps
  pub all : AreReached (length columns) own steps

-- a class has both columns of the link to this input
abbrev pub InOneClass : List (List ClassCol) → ℕ → ProbeLink → Type 0
InOneClass classes input link =
    (class : List ClassCol) × In class classes × In (record { input = input; column = link.index_column }) class × In (record { input = link.from_input; column = link.from_column }) class

-- so of each link of these steps
abbrev pub AreInClasses : List (List ClassCol) → List ProbeStep → Type 0
AreInClasses classes steps = (step : ProbeStep) → In step steps → IfSome step.link (InOneClass classes step.input)

-- they were found so far, for a tuple of the own input
pub record AreBegun (classes : List (List ClassCol)) (columns : List (List ℕ)) (own : ℕ) (steps : List ProbeStep) : Type 0 where
  pub ordered : AreSteps columns own steps
  pub classes_have : AreInClasses classes steps

-- the class has a column of this input, and one of an input that was reached
pub record IsLinkOf (class : List ClassCol) (own : ℕ) (before : List ProbeStep) (input : ℕ) (link : ProbeLink) : Type 0 where
  pub mine : In (record { input = input; column = link.index_column }) class
  pub theirs : In (record { input = link.from_input; column = link.from_column }) class
  pub from : is_reached own before link.from_input ≡ true

-- tuples of two inputs join exactly where their values in these columns are equal, and each of the first with itself
pub record TwoDecide (classes : List (List ClassCol)) (own input mine theirs : ℕ) : Type 0 where
  pub alone : (x : TupleAt) → x.input ≡ own → agrees_with classes [] x ≡ true
  pub both : (x y : TupleAt) → x.input ≡ own → y.input ≡ input → agrees_with classes (x ∷ []) y ≡ value_eq (value_at y.row theirs) (value_at x.row mine)

-- the link leads from the own one of two inputs to a column of the other, of which an index is kept
pub record IsOwnLink (classes : List (List ClassCol)) (columns : List (List ℕ)) (own : ℕ) (link : ProbeLink) : Type 0 where
  pub from : link.from_input ≡ own
  pub class_has : InOneClass classes (1 - own) link
  pub indexed : In link.index_column (slice_index_or columns (1 - own) [])

-- so does each of these
abbrev pub AreOwnLinks : List (List ClassCol) → List (List ℕ) → ℕ → List ProbeLink → Type 0
AreOwnLinks classes columns own links = (link : ProbeLink) → In link links → IsOwnLink classes columns own link

-- the columns of each of these links of two inputs decide which tuples join
abbrev pub LinksDecide : List (List ClassCol) → ℕ → List ProbeLink → Type 0
LinksDecide classes own links = (link : ProbeLink) → In link links → TwoDecide classes own (1 - own) link.from_column link.index_column

-- the route is right for the tuples of this input of a join by these classes
pub record IsProbeRoute (classes : List (List ClassCol)) (columns : List (List ℕ)) (own : ℕ) (route : ProbeRoute) : Type 0 where
  pub leads : IsRoute columns own route.steps
  pub classes_have : AreInClasses classes route.steps
  pub links_lead : AreOwnLinks classes columns own route.links
  pub decides : route.decides ≡ true → LinksDecide classes own route.links
  pub checks : arc_value route.checks ≡ classes

-- the step goes to the other one of two inputs by one of the route's links
pub record IsOwnStep (count own : ℕ) (route : ProbeRoute) (step : ProbeStep) : Type 0 where
  pub two : count ≡ 2
  pub other : step.input ≡ 1 - own
  pub link : ProbeLink
  pub by_link : step.link ≡ Some link
  pub of_route : In link route.links

-- there is one for each of the first so many inputs
pub record AreRoutesTo (classes : List (List ClassCol)) (columns : List (List ℕ)) (upto : ℕ) (routes : List ProbeRoute) : Type 0 where
  pub count : length routes ≡ upto
  pub each : (own : ℕ) (route : ProbeRoute) → slice_get routes own ≡ Some route → IsProbeRoute classes columns own route

-- for each
abbrev pub AreProbeRoutes : List (List ClassCol) → List (List ℕ) → List ProbeRoute → Type 0
AreProbeRoutes classes columns routes = AreRoutesTo classes columns (length columns) routes
