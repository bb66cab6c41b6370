-- Where the source has ended and nothing is held, the end comes again.
use Rattle.std.proofs.Common.{◌≡◌, ◌<◌, ◌≤◌, ℕ, Bool, true, false, nat_lt, Bor, List, [], ◌∷◌, ◌++◌, length, Option, Some, None, Result, Ok, Err, IsErrAnd, refl, ap, sym, ◌∙◌, arith, le-ltb}
use Rattle.std.proofs.lemmas.Bool.{false≢true}
use Rattle.std.proofs.lemmas.List.{length-append}
use Rattle.pj_shape.specs.declared.columns.Column.{Column}
use Rattle.pj_io.specs.States.{SourceState}
use Rattle.pj_line.specs.Lines.{line_of}
use Rattle.pj_line.specs.declared.buffer.Line.{Line}
use Rattle.pj_line.specs.declared.buffer.Line.TheVariants.{Whole, TooLong, End}
use Rattle.pj_line.specs.declared.buffer.LineStop.{LineStop}
use Rattle.pj_line.specs.declared.buffer.LineStop.TheVariants.{Fault, ByteLimit}
use Rattle.pj_line.specs.Buffers.{Buffered, IsPiece, fed_piece, last_piece, Gives, Advances, GoesOn, Called}
use Rattle.pj_element.specs.declared.element.Read.{Read}
use Rattle.pj_element.specs.Elements.{reading_of, reading_at}
use Rattle.pj_intake.specs.Reads.{ReadsNext}
use Rattle.pj_intake.specs.declared.intake.IntakeStop.{IntakeStop}
use Rattle.pj_intake.specs.declared.intake.IntakeStop.TheVariants.{NoMemory}

piece-some : (bytes piece rest : List ℕ) (ended : Bool) → IsPiece bytes piece rest ended → 0 < length bytes
piece-some _ _ _ _ (fed_piece piece rest ended none) = omega (arith, length-append piece (10 ∷ rest))
piece-some _ _ _ _ (last_piece piece none some) = some

ends : (old new : Buffered) (bytes : List ℕ) (result : Result Line LineStop) (f0 f1 : ℕ) → Gives old bytes new result f0 f1 → bytes ≡ [] → new.ended ≡ true → result ≡ Ok End
ends old new bytes (Ok (Whole line)) f0 f1 gives none ended = absurd (omega (arith, piece-some _ _ _ _ gives.1, ap length none))
ends old new bytes (Ok TooLong) f0 f1 gives none ended = absurd (omega (arith, piece-some _ _ _ _ gives.1, ap length none))
ends old new bytes (Ok End) f0 f1 gives none ended = refl
ends old new bytes (Err Fault) f0 f1 gives none ended = absurd (false≢true (sym gives.2 ∙ ended))
ends old new bytes (Err ByteLimit) f0 f1 gives none ended = absurd (false≢true (sym gives.2 ∙ ended))

goes-on : (stopped : Option LineStop) (old new : Buffered) (bytes : List ℕ) (result : Result Line LineStop) (f0 f1 : ℕ) → stopped ≡ None → GoesOn stopped old bytes new result f0 f1 → Advances old bytes new result f0 f1
goes-on None old new bytes result f0 f1 running goes = goes
goes-on (Some stop) old new bytes result f0 f1 running goes = cc

pub spent_ends : (old new : Buffered) (result : Result Line LineStop) (before now : SourceState) → Called old new result before now
    → old.stopped ≡ None → old.ended ≡ true → old.held ≡ [] → result ≡ Ok End
spent_ends old new result before now called running ended none =
    let a : Advances old called.bytes new result before.faults now.faults = goes-on old.stopped old new called.bytes result before.faults now.faults running called.goes_on in
    let stays = a.stays_ended ended in
    ends old new (old.held ++ called.bytes) result before.faults now.faults a.gives (ap (λ (xs : List ℕ). xs ++ called.bytes) none ∙ stays.0) stays.1

pub no_line : (old new : Buffered) (result : Result Line LineStop) (line : Bor (List ℕ)) (before now : SourceState) → Called old new result before now
    → result ≡ Ok (Whole line) → old.stopped ≡ None → old.ended ≡ true → old.held ≡ [] → ⊥
no_line old new result line before now called is running ended none =
    let end : result ≡ Ok End = spent_ends old new result before now called running ended none in
    cc

-- a line that is not too long is read as its piece
reads : (columns : List Column) (piece : List ℕ) (size : ℕ) → length piece ≤ size → size ≡ 65536 → reading_of columns (line_of piece) ≡ reading_at columns piece
reads columns piece size le is = let short : nat_lt 65536 (length piece) ≡ false = le-ltb _ _ (omega (arith, le, is)) in rw short refl

pub line_reads : (columns : List Column) (old new : Buffered) (result : Result Line LineStop) (line : Bor (List ℕ)) (read : Read) (before now : SourceState) → Called old new result before now
    → result ≡ Ok (Whole line) → old.stopped ≡ None → old.size ≡ 65536 → read ≡ reading_of columns line.now → ReadsNext columns old new before now (Ok (Some read))
line_reads columns old new result line read before now called is running size reads_so =
    let a : Advances old called.bytes new (Ok (Whole line)) before.faults now.faults = rw (sym is) (goes-on old.stopped old new called.bytes result before.faults now.faults running called.goes_on) in
    let g = a.gives in
    record {
      bytes = called.bytes;
      gives = (g.0, g.1, reads_so ∙ (ap (reading_of columns) g.3 ∙ reads columns g.0 old.size g.2 size));
      counted = a.counted;
      within = a.within;
      same_size = a.same_size;
      same_limit = a.same_limit;
      stays_ended = a.stays_ended;
      running = g.4;
      consumes = called.consumes;
      at_end = called.at_end;
    }

-- memory could not be had for a line
line_starves : (columns : List Column) (old new : Buffered) (result : Result Line LineStop) (line : Bor (List ℕ)) (before now : SourceState) → Called old new result before now
    → result ≡ Ok (Whole line) → old.stopped ≡ None → ReadsNext columns old new before now (Err NoMemory)
line_starves columns old new result line before now called is running =
    let a : Advances old called.bytes new (Ok (Whole line)) before.faults now.faults = rw (sym is) (goes-on old.stopped old new called.bytes result before.faults now.faults running called.goes_on) in
    record {
      bytes = called.bytes;
      gives = (a.gives.0, a.gives.1);
      counted = a.counted;
      within = a.within;
      same_size = a.same_size;
      same_limit = a.same_limit;
      stays_ended = a.stays_ended;
      running = tt;
      consumes = called.consumes;
      at_end = called.at_end;
    }

pub read_starves : (columns : List Column) (old new : Buffered) (result : Result Line LineStop) (line : Bor (List ℕ)) (before now : SourceState) (answer : Result (Option Read) IntakeStop) → Called old new result before now
    → result ≡ Ok (Whole line) → old.stopped ≡ None → IsErrAnd answer (λ stop. stop ≡ NoMemory) → ReadsNext columns old new before now answer
read_starves columns old new result line before now (Ok read) called is running starved = absurd starved
read_starves columns old new result line before now (Err stop) called is running starved = rw starved (line_starves columns old new result line before now called is running)
