-- What was written: whole lines, or a front of them.
use Rattle.std.specs.Prelude.{◌≡◌, ◌≤◌, ℕ, Bool, false, IsTrue, not, ◌==◌, List, [], ◌∷◌, ◌++◌, map, filter, Result, Ok, Err, if◌then◌else◌, ◌⊎◌}
use Rattle.pj_io.specs.Causes.{Rose}
use Rattle.pj_io.specs.States.{SinkState}
use Rattle.pj_pattern.specs.declared.element.Element.{Element}
use Rattle.pj_element.specs.Runs.{element_line}
use Rattle.pj_report.specs.declared.stops.WriteStop.{WriteStop}
use Rattle.pj_report.specs.declared.stops.WriteStop.TheVariants.{Failed, NoMemory as WriteMemory}

-- the lines one after another
abbrev pub flat : List (List ℕ) → List ℕ
flat [] = []
flat (l ∷ ls) = l ++ flat ls

-- whole first lines of these were written
pub record WholeLines (lines : List (List ℕ)) (before after : List ℕ) : Type 0 where
  pub first : List (List ℕ)
  pub others : List (List ℕ)
  pub all : first ++ others ≡ lines
  pub written : after ≡ before ++ flat first

-- a front of these bytes was written
pub record FrontOf (bytes before after : List ℕ) : Type 0 where
  pub front : List ℕ
  pub others : List ℕ
  pub all : front ++ others ≡ bytes
  pub written : after ≡ before ++ front

-- the sink with these bytes written
abbrev pub holding : SinkState → List ℕ → SinkState
holding sink bytes = record sink { written = bytes }

-- what is written stays, and faults may rise
pub record WritesNothing (old new : SinkState) : Type 0 where
  pub told : IsTrue new.told → IsTrue old.told
  pub same : IsTrue new.told → new.written ≡ old.written
  pub later : old.faults ≤ new.faults

-- where the sink tells its bytes, these were written, or the sink failed and a front of them was
abbrev pub Delivered : List ℕ → SinkState → SinkState → Type 0
Delivered bytes old new =
    IsTrue new.told → (new.written ≡ old.written ++ bytes) ⊎ (Rose old.faults new.faults × FrontOf bytes old.written new.written)

-- the sink holds nothing back, or its faults rose
abbrev pub HandedOn : SinkState → SinkState → Type 0
HandedOn old new = (new.held ≡ []) ⊎ Rose old.faults new.faults

-- what a stop leaves of lines that were to be written
pub data Cut : Type 0 where
  -- a front of their bytes
  anywhere : Cut
  -- whole first lines
  between : Cut

abbrev pub Leaves : Cut → List (List ℕ) → List ℕ → List ℕ → Type 0
Leaves anywhere lines before after = FrontOf (flat lines) before after
Leaves between lines before after = WholeLines lines before after

-- a failed write cuts anywhere, every other stop between lines
abbrev pub write_cut : WriteStop → Cut
write_cut Failed = anywhere
write_cut WriteMemory = between

-- these lines were written, or as much of them as the stop leaves
abbrev pub WritesBy : {T E : Type 0} → (E → Cut) → List (List ℕ) → SinkState → SinkState → Result T E → Type 0
WritesBy cut lines old new (Ok x) = new.written ≡ old.written ++ flat lines
WritesBy cut lines old new (Err stop) = Leaves (cut stop) lines old.written new.written

-- the lines of these bytes that end in a line feed, without it; `so_far` is the line so far
abbrev pub lines_behind : List ℕ → List ℕ → List (List ℕ)
lines_behind so_far [] = []
lines_behind so_far (b ∷ bs) = if b == 10 then so_far ∷ lines_behind [] bs else lines_behind (so_far ++ b ∷ []) bs

abbrev pub whole_lines : List ℕ → List (List ℕ)
whole_lines bytes = lines_behind [] bytes

-- a line of the report, or of a status
abbrev pub is_note : List ℕ → Bool
is_note [] = false
is_note (b ∷ bs) = b == 35

-- the whole lines that are results
abbrev pub result_lines : List ℕ → List (List ℕ)
result_lines bytes = filter (λ line. not (is_note line)) (whole_lines bytes)

-- the bytes spell these outputs: their whole lines that are results are the outputs' lines, in order
abbrev pub Spells : List ℕ → List Element → Type 0
Spells bytes outputs = result_lines bytes ≡ map element_line outputs
