-- The plan of a made input is safe: both streams state a scheme of their joined column.
use Rattle.std.proofs.Common.{ℕ, zero, suc, ◌<◌, ◌≡◌, Bool, true, false, List, length, sym, refl, ◌∙◌, arith}
use Rattle.std.proofs.lemmas.Bool.{false≢true}
use Rattle.pj_shape.specs.declared.joins.JoinSpec.{JoinSpec}
use Rattle.pj_shape.specs.Sets.{IsClosed, is_usable, schemes_of}
use Rattle.pj_safety.specs.Safety.{IsSafePlan, schemes_at, spec_at}
use Rattle.pj_make_laws.specs.Made.{MadePlanFits, made_nodes}

abbrev spec : JoinSpec
spec = spec_at made_nodes 2

abbrev schemes : List (List (List Bool))
schemes = schemes_at made_nodes 2

-- an input whose scheme is usable is in each closed set
in_closed : (inside : ℕ → Bool) (input : ℕ) → IsClosed spec schemes inside → 0 < length (schemes_of schemes input) → (inside input ≡ false → is_usable inside spec schemes input 0 ≡ true) → inside input ≡ true
in_closed inside input closed some usable = go (inside input) refl
  where
    go : (b : Bool) → inside input ≡ b → inside input ≡ true
    go true e = e
    go false e = absurd (false≢true (sym (closed input 0 e some) ∙ usable e))

second_usable : (inside : ℕ → Bool) → inside 0 ≡ true → is_usable inside spec schemes 1 0 ≡ true
second_usable inside first = rw first refl

first_usable : (inside : ℕ → Bool) → inside 1 ≡ true → inside 0 ≡ false → is_usable inside spec schemes 0 0 ≡ true
first_usable inside second first = rw (first, second) refl

reaches : (from to : ℕ) → from < 2 → to < 2 → (inside : ℕ → Bool) → IsClosed spec schemes inside → inside from ≡ true → inside to ≡ true
reaches zero zero f t inside closed is = is
reaches zero (suc zero) f t inside closed is = in_closed inside 1 closed (omega arith) (λ e. second_usable inside is)
reaches (suc zero) zero f t inside closed is = in_closed inside 0 closed (omega arith) (first_usable inside is)
reaches (suc zero) (suc zero) f t inside closed is = is
reaches (suc (suc n)) to f t inside closed is = absurd (omega (arith, f))
reaches from (suc (suc n)) f t inside closed is = absurd (omega (arith, t))

made_safe : IsSafePlan made_nodes
made_safe zero there = tt
made_safe (suc zero) there = tt
made_safe (suc (suc zero)) there = reaches
made_safe (suc (suc (suc zero))) there = tt
made_safe (suc (suc (suc (suc n)))) there = tt

pub made_plan_fits : MadePlanFits
made_plan_fits = record { short = omega arith; streams = refl; safe = made_safe }
