-- What is known while the route of a purge is made.
use Rattle.std.specs.Prelude.{ℕ, ◌+◌, ◌≤◌, ◌≡◌, Bool, true, if◌then◌else◌, List, [], ◌∷◌, ◌++◌, Option, None, Some, drop, length, map, slice_get, take}
use Rattle.pj_shape.specs.declared.joins.JoinSpec.{JoinSpec}
use Rattle.pj_shape.specs.Sound.{arities_of}
use Rattle.pj_join_laws.specs.Walks.{AreListedOnce, IsWalk}
use Rattle.pj_events.specs.Join.{CertEntry, CertStep, ClassCol, In, class_with, entry_of, has}
use Rattle.pj_cover.specs.declared.route.PurgeLink.{PurgeLink}
use Rattle.pj_cover.specs.declared.route.PurgeStep.{PurgeStep}
use Rattle.pj_cover.specs.Routes.{AreSteps, IsLink, IsPurgeStep, RouteView, steps_in}

abbrev pub entry_with : ℕ → List Bool → CertEntry
entry_with input marks = record { input = input; marks = marks }

-- the link is that of the column; none is told only where no column of its class is of a known input
abbrev pub FindsLink : List (List ClassCol) → ClassCol → Bool → List ℕ → Option PurgeLink → Type 0
FindsLink classes at is_marked known None = (c : ClassCol) → In c (class_with classes at.input at.column) → In c.input known → ⊥
FindsLink classes at is_marked known (Some link) = (link.column ≡ at.column) × (link.is_marked ≡ is_marked) × IsLink classes known at.input link

abbrev pub listed : Option PurgeLink → List PurgeLink
listed None = []
listed (Some link) = link ∷ []

-- it stands at the end of the second list
abbrev pub AddsLink : List (List ClassCol) → ClassCol → Bool → List ℕ → List PurgeLink → List PurgeLink → Type 0
AddsLink classes at is_marked known old new = (told : Option PurgeLink) × FindsLink classes at is_marked known told × (new ≡ old ++ listed told)

-- the class of each marked column has a column of a known input
abbrev pub AreMarksKnown : List (List ClassCol) → CertEntry → List ℕ → Type 0
AreMarksKnown classes e known = (column : ℕ) → slice_get e.marks column ≡ Some true → (c : ClassCol) × In c (class_with classes e.input column) × In c.input known

-- one step more stands at the end, and its links
pub record IsStepMade (classes : List (List ClassCol)) (e : CertEntry) (step : CertStep) (known : List ℕ) (old new : RouteView) : Type 0 where
  pub added : PurgeStep
  pub more : List PurgeLink
  pub steps : new.steps ≡ old.steps ++ added ∷ []
  pub links : new.links ≡ old.links ++ more
  pub follows : added.step ≡ step
  pub few : length more ≤ length e.marks
  pub right : IsPurgeStep classes e known new.links added

-- the inputs that are known after these steps, the latest first
abbrev pub known_after : List ℕ → List CertStep → List ℕ
known_after known [] = known
known_after known (s ∷ steps) = known_after (s.input ∷ known) steps

-- the columns of those of the inputs from this one on that are known
abbrev pub columns_known : ℕ → List ℕ → List ℕ → ℕ
columns_known input [] known = 0
columns_known input (arity ∷ arities) known = (if has known input then arity else 0) + columns_known (input + 1) arities known

-- the route follows the first steps of the certificate, and the others are a walk from the inputs that are known then
pub record IsBegun (spec : JoinSpec) (schemes : List (List (List Bool))) (cert : List CertStep) (own done : ℕ) (known : List ℕ) (route : RouteView) : Type 0 where
  pub follows : steps_in route ≡ take done cert
  pub knows : known ≡ known_after (own ∷ []) (steps_in route)
  pub leads : AreSteps spec.classes schemes route.links (own ∷ []) route.steps
  pub few : length known + length (drop done cert) ≤ 16
  pub room : length route.links ≤ columns_known 0 (arities_of spec.inputs) known
  pub walk : IsWalk spec (map (entry_of schemes) (drop done cert)) known
  pub listed_once : AreListedOnce schemes (drop done cert) known
