-- The least integer from one on that passes a test, and the greatest one up to one.
use Rattle.std.specs.Prelude.{◌≡◌, ℤ, ◌≤ℤ◌, Bool, true, Option}
use Rattle.pj_state.specs.Ordered.{IsFrom, IsUpTo}
use Rattle.pj_state.specs.declared.state.Seek.{Seek}
use Rattle.pj_state.specs.declared.state.Seek.TheVariants.{AtLeast, AtMost}
use Rattle.pj_state.specs.declared.state.NextNumber.{NextNumber}
use Rattle.pj_state.specs.declared.state.NextNumber.TheVariants.{Untold, Nothing, At}

pub record IsLeast (passes : ℤ → Bool) (from : Option ℤ) (n : ℤ) : Type 0 where
  pub above : IsFrom from n
  pub there : passes n ≡ true
  pub least : (m : ℤ) → passes m ≡ true → IsFrom from m → n ≤ℤ m

-- what is told of it
abbrev pub TellsLeast : (ℤ → Bool) → Option ℤ → NextNumber → Type 0
TellsLeast passes from Untold = Unit {0}
TellsLeast passes from Nothing = (m : ℤ) → passes m ≡ true → IsFrom from m → ⊥
TellsLeast passes from (At n) = IsLeast passes from n

pub record IsGreatest (passes : ℤ → Bool) (to : Option ℤ) (n : ℤ) : Type 0 where
  pub below : IsUpTo to n
  pub there : passes n ≡ true
  pub greatest : (m : ℤ) → passes m ≡ true → IsUpTo to m → m ≤ℤ n

-- what is told of it
abbrev pub TellsGreatest : (ℤ → Bool) → Option ℤ → NextNumber → Type 0
TellsGreatest passes to Untold = Unit {0}
TellsGreatest passes to Nothing = (m : ℤ) → passes m ≡ true → IsUpTo to m → ⊥
TellsGreatest passes to (At n) = IsGreatest passes to n

-- what is told of the integer that is sought
abbrev pub TellsNearest : (ℤ → Bool) → Seek → NextNumber → Type 0
TellsNearest passes (AtLeast from) r = TellsLeast passes from r
TellsNearest passes (AtMost to) r = TellsGreatest passes to r
