-- Probes that are held, in order of join and ticket.
use Rattle.std.specs.Prelude.{ℕ, ◌≡◌, Bool, true, cond, ◌==◌, nat_lt, ◌&&◌, ◌||◌, List, [], ◌∷◌, Option, Some, None}
use Rattle.std.specs.List.{list_any}
use Rattle.std.specs.Ordering.{match_ordering, nat_cmp, ordering_then}
use Rattle.std.specs.declared.cmp.Ordering.{Ordering}
use Rattle.pj_value.specs.Lists.{In}
use Rattle.pj_probe.specs.declared.probe.Found.{Found}

-- the probe is of this ticket of this join
abbrev pub is_of : ℕ → ℕ → Found → Bool
is_of join ticket probe = (probe.join == join) && (probe.ticket == ticket)

-- the probe of this ticket of this join is held
abbrev pub holds : List Found → ℕ → ℕ → Bool
holds probes join ticket = list_any (is_of join ticket) probes

-- the probe stands before this ticket of this join
abbrev pub is_before : ℕ → ℕ → Found → Bool
is_before join ticket probe = nat_lt probe.join join || ((probe.join == join) && nat_lt probe.ticket ticket)

-- each stands before those behind it
abbrev pub AreInOrder : List Found → Type 0
AreInOrder [] = Unit {0}
AreInOrder (probe ∷ probes) = ((later : Found) → In later probes → is_before later.join later.ticket probe ≡ true) × AreInOrder probes

-- ---- places

-- by the join, then by the ticket
abbrev pub place_cmp : ℕ × ℕ → ℕ × ℕ → Ordering
place_cmp x y = ordering_then (nat_cmp x.0 y.0) (nat_cmp x.1 y.1)

-- the join and the ticket of a probe
abbrev pub place_of : Found → ℕ × ℕ
place_of probe = (probe.join, probe.ticket)

-- the first place, where there is one
abbrev pub first_place : List Found → Option (ℕ × ℕ)
first_place [] = None
first_place (probe ∷ probes) = Some (place_of probe)

-- the probe of this ticket of this join, where it is held
abbrev pub found_at : List Found → ℕ → ℕ → Option Found
found_at [] join ticket = None
found_at (probe ∷ probes) join ticket = cond (is_of join ticket probe) (Some probe) (found_at probes join ticket)

-- those that are left without it
abbrev pub without : List Found → ℕ → ℕ → List Found
without [] join ticket = []
without (probe ∷ probes) join ticket = cond (is_of join ticket probe) probes (probe ∷ without probes join ticket)

-- with this probe at its place
abbrev pub put_in : Found → List Found → List Found
put_in probe [] = probe ∷ []
put_in probe (other ∷ probes) = match_ordering (place_cmp (place_of probe) (place_of other)) (probe ∷ other ∷ probes) (probe ∷ probes) (other ∷ put_in probe probes)

-- ---- how they are kept

-- the probes, and whether one of them waits for its place
pub record HeldView : Type 0 where
  pub probes : List Found
  pub waits : Bool

-- these and the one that waits
abbrev pub held_in : List Found → Option Found → List Found
held_in probes None = probes
held_in probes (Some waiting) = put_in waiting probes

-- each stands under its place
abbrev pub AreKeyed : List ((ℕ × ℕ) × Found) → Type 0
AreKeyed [] = Unit {0}
AreKeyed (entry ∷ entries) = (entry.0 ≡ place_of entry.1) × AreKeyed entries

-- the probe of this ticket of this join was taken out, with what its work finds, or it is not held
abbrev pub IsDrawn : Option (Found × Found) → List Found → ℕ → ℕ → List Found → Type 0
IsDrawn None old join ticket new = (found_at old join ticket ≡ None) × (new ≡ old)
IsDrawn (Some drawn) old join ticket new = (found_at old join ticket ≡ Some drawn.0) × (drawn.1 ≡ drawn.0) × (new ≡ without old join ticket)
