-- The numbers that are drawn for an input.
use Rattle.std.specs.Prelude.{ℕ, zero, suc, ◌+◌, ◌*◌, ◌/◌, ◌%◌}

-- the state behind this one: a linear congruential generator
abbrev pub next_state : ℕ → ℕ
next_state state = (state * 1103515245 + 12345) % 2147483648

-- the number that is drawn with a state, from 1 to 1000
abbrev pub drawn : ℕ → ℕ
drawn state = state / 65536 % 1000 + 1

-- the state behind so many draws
abbrev pub state_after : ℕ → ℕ → ℕ
state_after seed zero = seed
state_after seed (suc draws) = next_state (state_after seed draws)
