-- What contracts see of a union.
use Rattle.std.specs.Prelude.{ℕ, Bool, not, ◌==◌, ◌&&◌, List, [], map}
use Rattle.pj_pattern.specs.declared.element.Element.{Element}
use Rattle.pj_pattern.specs.declared.element.Element.TheVariants.{Punct}
use Rattle.pj_events.specs.Patterns.{Pattern, covers_punct}
use Rattle.pj_events.specs.Operators.{Sent, UnionState}

-- how many inputs and columns it has, all punctuations that came, and those that wait
pub record UnionView : Type 0 where
  pub inputs : ℕ
  pub arity : ℕ
  pub state : UnionState

-- nothing has come
abbrev pub start : UnionState
start = record { came = []; waiting = [] }

-- punctuations, as elements
abbrev pub puncts : List (List Pattern) → List Element
puncts all = map Punct all

-- it came at another input and covers the other
abbrev pub bears_on : Sent → Sent → Bool
bears_on q p = not (q.input == p.input) && covers_punct q.patterns p.patterns
