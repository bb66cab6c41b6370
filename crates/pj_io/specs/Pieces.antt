-- What a read and a write do to the bytes that a source and a sink tell.
use Rattle.std.specs.Prelude.{◌≡◌, ℕ, ◌<◌, ◌≤◌, List, [], ◌++◌, length, take, Result, MatchResult}
use Rattle.pj_io.specs.States.{SourceState, SinkState}

-- of the bytes left, these went to the end of those taken
pub record Consumes (old new : SourceState) (piece : List ℕ) : Type 0 where
  pub left : old.left ≡ piece ++ new.left
  pub taken : new.taken ≡ old.taken ++ piece

-- of the bytes left, no more than so many went to the end of those taken
abbrev pub ConsumesAtMost : ℕ → SourceState → SourceState → Type 0
ConsumesAtMost most old new = (piece : List ℕ) × (length piece ≤ most) × Consumes old new piece

-- of the bytes left, exactly so many went to the end of those taken
abbrev pub ConsumesExactly : ℕ → SourceState → SourceState → Type 0
ConsumesExactly count old new = (piece : List ℕ) × (length piece ≡ count) × Consumes old new piece

-- a piece of the bytes left went to the end of those taken and to the end of a list; where n is 0, no bytes are left
abbrev pub ReadsOnto : SourceState → SourceState → List ℕ → List ℕ → ℕ → Type 0
ReadsOnto old new before now n = (piece : List ℕ) × Consumes old new piece × (now ≡ before ++ piece) × (n ≡ 0 → new.left ≡ [])

-- `Ok(n)`: the first n bytes of the buffer were the next ones, none of them only at the end; `Err`: nothing was taken
abbrev pub Reads : {E : Type 0} → SourceState → SourceState → List ℕ → Result ℕ E → Type 0
Reads old new buffer result =
    MatchResult result
    (λ n. Consumes old new (take n buffer) × (n ≡ 0 → 0 < length buffer → new.left ≡ []))
    (λ _. Consumes old new [])

-- `Ok(n)`: what is written grew by the first n bytes of the piece; `Err`: by nothing
abbrev pub Appends : {E : Type 0} → SinkState → SinkState → List ℕ → Result ℕ E → Type 0
Appends old new piece result =
    MatchResult result (λ n. new.written ≡ old.written ++ take n piece) (λ _. new.written ≡ old.written)

-- grew by the front of the piece that is n bytes long
pub record GrewBy (before now piece : List ℕ) (n : ℕ) : Type 0 where
  pub within : n < length piece
  pub grew : now ≡ before ++ take n piece

-- grew by a front of the piece that is not all of it
abbrev pub GrewByLess : List ℕ → List ℕ → List ℕ → Type 0
GrewByLess before now piece = (n : ℕ) × GrewBy before now piece n

-- the whole piece was written, or on an error a front of it that is not all of it
abbrev pub AppendsAll : {T E : Type 0} → SinkState → SinkState → List ℕ → Result T E → Type 0
AppendsAll old new piece result =
    MatchResult result (λ _. new.written ≡ old.written ++ piece) (λ _. GrewByLess old.written new.written piece)
