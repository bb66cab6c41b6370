-- Certificates as walks: entries in order, over the inputs that are known at each.
use Rattle.std.specs.Prelude.{ℕ, ◌+◌, ◌<◌, ◌≡◌, ◌≢◌, Bool, true, false, List, [], ◌∷◌, length, map, slice_index, slice_index_or}
use Rattle.pj_shape.specs.Sound.{arities_of}
use Rattle.pj_events.specs.Join.{CertEntry, CertStep, ClassCol, In, JoinSpec, class_with, entry_of}

-- each marked column lies in a class with a column of an input that is known
abbrev pub AreBound : List (List ClassCol) → ℕ → ℕ → List Bool → List ℕ → Type 0
AreBound classes input column [] known = Unit {0}
AreBound classes input column (true ∷ marks) known =
    ((c : ClassCol) × In c (class_with classes input column) × In c.input known) × AreBound classes input (column + 1) marks known
AreBound classes input column (false ∷ marks) known = AreBound classes input (column + 1) marks known

-- each entry's marked columns are bound by the known inputs or by those of earlier entries
abbrev pub IsWalk : JoinSpec → List CertEntry → List ℕ → Type 0
IsWalk spec [] known = Unit {0}
IsWalk spec (e ∷ cert) known =
    (e.input < length (arities_of spec.inputs)) × (length e.marks ≡ slice_index (arities_of spec.inputs) e.input)
    × AreBound spec.classes e.input 0 e.marks known × IsWalk spec cert (e.input ∷ known)

-- each step names a scheme that its input has, and an input that is none of these and of no other step
abbrev pub AreListedOnce : List (List (List Bool)) → List CertStep → List ℕ → Type 0
AreListedOnce schemes [] known = Unit {0}
AreListedOnce schemes (step ∷ steps) known =
    (step.scheme < length (slice_index_or schemes step.input [])) × (¬ In step.input known) × AreListedOnce schemes steps (step.input ∷ known)

-- the steps list every other input once with a scheme of it, and marked columns are bound by the input or by earlier entries
pub record IsCertified (spec : JoinSpec) (schemes : List (List (List Bool))) (input : ℕ) (steps : List CertStep) : Type 0 where
  pub listed : AreListedOnce schemes steps (input ∷ [])
  pub walk : IsWalk spec (map (entry_of schemes) steps) (input ∷ [])
  pub others : (k : ℕ) → k < length (arities_of spec.inputs) → k ≢ input → (e : CertEntry) × In e (map (entry_of schemes) steps) × (e.input ≡ k)
