-- When a failure may be answered: where the count of faults of the object that was handed in rose.
use Rattle.std.specs.Prelude.{◌≡◌, ℕ, ◌+◌, ◌-◌, ◌^◌, ◌≤◌, min, Result, OnErr, MatchResult}

-- the count rose, or stands at its end
abbrev pub Rose : ℕ → ℕ → Type 0
Rose before now = min (before + 1) (2 ^ 64 - 1) ≤ now

-- the count never falls, and an error comes only where it rose
pub record HasCause {T E : Type 0} (before now : ℕ) (result : Result T E) : Type 0 where
  pub later : before ≤ now
  pub failed : OnErr result (Rose before now)

-- a count with more faults, which stops at its end
abbrev pub counted : ℕ → ℕ → ℕ
counted before more = min (before + more) (2 ^ 64 - 1)

-- the count rises by one at an error, and stays otherwise
abbrev pub CountsErrors : {T E : Type 0} → ℕ → ℕ → Result T E → Type 0
CountsErrors before now result = MatchResult result (λ _. now ≡ before) (λ _. now ≡ counted before 1)
