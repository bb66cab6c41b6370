-- The loop that looks for the next piece.
use Rattle.std.proofs.Common.{◌≡◌, ℕ, ◌+◌, ◌-◌, ◌<◌, ◌≤◌, Bool, true, false, List, [], ◌++◌, Option, Some, None, Ok, Err, length, slice_range, IsTrue, cond, refl, ap, sym, ◌∙◌, subst, arith, append_assoc, append-nil, length-append}
use Rattle.std.specs.Prelude.{Result}
use Rattle.std.proofs.lemmas.Bool.{false≢true}
use Rattle.pj_io.specs.Causes.{Rose}
use Rattle.pj_io.proofs.Pieces.{consumes_more}
use Rattle.pj_io.specs.Pieces.{Consumes}
use Rattle.pj_io.specs.States.{SourceState}
use Rattle.pj_line.specs.declared.buffer.Line.{Line}
use Rattle.pj_line.specs.declared.buffer.Line.TheVariants.{Whole, TooLong, End}
use Rattle.pj_line.specs.declared.buffer.LineStop.{LineStop}
use Rattle.pj_line.specs.declared.buffer.LineStop.TheVariants.{Fault, ByteLimit}
use Rattle.pj_line.specs.declared.pieces.FoundPiece.{FoundPiece}
use Rattle.pj_line.specs.declared.pieces.FoundPiece.TheVariants.{Piece, LongPiece, NoPiece}
use Rattle.pj_line.specs.Lines.{HasNo}
use Rattle.pj_line.specs.Buffers.{Buffered, IsPiece, Called, Gives, GoesOn, KnowsEnd}
use Rattle.pj_line.specs.Searches.{Finds, IsLent, PassesOver, ReadsOn}
use Rattle.pj_line.proofs.Feeds.{has_no_both, has_no_first}
use Rattle.pj_line.proofs.CutPieces.{cut_piece}

-- what was passed over of a piece: more than a line may have, or nothing
abbrev pub IsDropped : ℕ → Bool → List ℕ → Type 0
IsDropped size true dropped = size < length dropped
IsDropped size false dropped = dropped ≡ []

-- these bytes were taken, and these passed over, and no piece was found yet
pub record Searching (old now : Buffered) (start here : SourceState) (too_long : Bool) : Type 0 where
  pub bytes : List ℕ
  pub dropped : List ℕ
  pub all : old.held ++ bytes ≡ dropped ++ now.held
  pub no_feed : HasNo 10 dropped
  pub passed : IsDropped old.size too_long dropped
  pub started : old.stopped ≡ None
  pub counted : now.count ≡ old.count + length bytes
  pub same_size : now.size ≡ old.size
  pub same_limit : now.limit ≡ old.limit
  pub goes_on : now.stopped ≡ None
  pub waits : (HasNo 10 old.held → ⊥) → bytes ≡ []
  pub stays_ended : old.ended ≡ true → (bytes ≡ []) × (now.ended ≡ true)
  pub told : here.told ≡ start.told
  pub consumes : IsTrue start.told → Consumes start here bytes
  pub at_end : KnowsEnd now here

-- in a search that came to its end, nothing that was taken or held before has a line feed
all_without : (old now : Buffered) (a b : SourceState) (too_long : Bool) (s : Searching old now a b too_long) → HasNo 10 now.held → HasNo 10 (old.held ++ s.bytes)
all_without old now a b too_long s none = subst (HasNo 10) (sym s.all) (has_no_both 10 s.dropped now.held s.no_feed none)

-- what is passed over after a turn
passed_on : (size : ℕ) (dropped before kept : List ℕ) (too_long now : Bool) → IsDropped size too_long dropped → PassesOver size before too_long kept now → (more : List ℕ) × (dropped ++ before ≡ more ++ kept) × IsDropped size now more × (HasNo 10 dropped → HasNo 10 before → HasNo 10 more)
passed_on size dropped before kept too_long true is passes = (
  dropped ++ before,
  rw passes.0 (sym (append-nil (dropped ++ before))),
  go too_long is passes.1,
  has_no_both 10 dropped before,
)
  where
    go : (b : Bool) → IsDropped size b dropped → (b ≡ false → size < length before) → size < length (dropped ++ before)
    go true long short = omega (arith, long, length-append dropped before)
    go false long short = omega (arith, short refl, length-append dropped before)
passed_on size dropped before kept too_long false is passes = (
  dropped,
  rw passes.0 refl,
  subst (λ (b : Bool). IsDropped size b dropped) passes.1 is,
  λ first second. first,
)

-- a step that kept what was found, and then passed over some of it
pub then_passed : (mid found after : Buffered) (kept : List ℕ) → found ≡ mid → after ≡ record found { held = kept } → after ≡ record mid { held = kept }
then_passed mid found after kept same is = is ∙ ap (λ (b : Buffered). record b { held = kept }) same

pub turn_goes_on : (old mid after new : Buffered) (a b c : SourceState) (too_long now : Bool) (kept : List ℕ) → Searching old mid a b too_long → HasNo 10 mid.held → mid.ended ≡ false → after ≡ record mid { held = kept } → PassesOver mid.size mid.held too_long kept now → ReadsOn after new (Ok tt) b c → c.told ≡ b.told → Searching old new a c now
turn_goes_on old mid after new a b c too_long now kept s none unended same passes reads same_told = record {
  bytes = s.bytes ++ piece;
  dropped = passed.0;
  all = sym (append_assoc old.held s.bytes piece) ∙ (ap (λ (xs : List ℕ). xs ++ piece) (s.all ∙ passed.1) ∙ (append_assoc passed.0 kept piece ∙ ap (λ (xs : List ℕ). passed.0 ++ xs) (sym is_held)));
  no_feed = passed.3 s.no_feed none;
  passed = passed.2;
  started = s.started;
  counted = omega (arith, is_count, s.counted, length-append s.bytes piece);
  same_size = ap (λ (b : Buffered). b.size) is ∙ s.same_size;
  same_limit = ap (λ (b : Buffered). b.limit) is ∙ s.same_limit;
  goes_on = ap (λ (b : Buffered). b.stopped) is ∙ s.goes_on;
  waits = λ has. absurd (has (has_no_first 10 old.held s.bytes (all_without old mid a b too_long s none)));
  stays_ended = λ ended. absurd (false≢true (sym unended ∙ (s.stays_ended ended).1));
  told = same_told ∙ s.told;
  consumes = λ tells. consumes_more a b c s.bytes piece (s.consumes tells) (reads.3 (s.told ∙ tells));
  at_end = reads.4;
}
  where
    piece : List ℕ
    piece = reads.0

    is : new ≡ record mid { held = kept ++ piece; count = mid.count + length piece; ended = new.ended }
    is = reads.1 ∙ ap (λ (b : Buffered). record b { held = b.held ++ piece; count = b.count + length piece; ended = new.ended }) same

    is_held : new.held ≡ kept ++ piece
    is_held = ap (λ (b : Buffered). b.held) is

    is_count : new.count ≡ mid.count + length piece
    is_count = ap (λ (b : Buffered). b.count) is

    passed : (more : List ℕ) × (s.dropped ++ mid.held ≡ more ++ kept) × IsDropped old.size now more × (HasNo 10 s.dropped → HasNo 10 mid.held → HasNo 10 more)
    passed = passed_on old.size s.dropped mid.held kept too_long now s.passed (subst (λ n. PassesOver n mid.held too_long kept now) s.same_size passes)

-- what a search gives that stops
stopped : (old mid new : Buffered) (a b c : SourceState) (too_long : Bool) (kept : List ℕ) (stop : LineStop) (s : Searching old mid a b too_long) → HasNo 10 mid.held → mid.ended ≡ false → new ≡ record mid { held = kept; stopped = Some stop } → Gives old (old.held ++ s.bytes) new (Err stop) a.faults c.faults → (IsTrue b.told → Consumes b c []) → new.count ≤ new.limit → Called old new (Err stop) a c
stopped old mid new a b c too_long kept stop s none unended is gives nothing within = record {
  bytes = s.bytes;
  goes_on = subst (λ (state : Option LineStop). GoesOn state old s.bytes new (Err stop) a.faults c.faults) (sym s.started) (record {
    gives = gives;
    counted = ap (λ (b : Buffered). b.count) is ∙ s.counted;
    within = within;
    same_size = ap (λ (b : Buffered). b.size) is ∙ s.same_size;
    same_limit = ap (λ (b : Buffered). b.limit) is ∙ s.same_limit;
    waits = s.waits;
    stays_ended = λ ended. absurd (false≢true (sym unended ∙ (s.stays_ended ended).1));
  });
  consumes = λ tells. subst (λ (piece : List ℕ). Consumes a c piece) (append-nil s.bytes) (consumes_more a b c s.bytes [] (s.consumes tells) (nothing (s.told ∙ tells)));
  at_end = λ ended. absurd (false≢true (sym unended ∙ (sym (ap (λ (b : Buffered). b.ended) is) ∙ ended)));
}

pub search_stops : (old mid after new : Buffered) (a b c : SourceState) (too_long : Bool) (kept : List ℕ) (stop : LineStop) → Searching old mid a b too_long → HasNo 10 mid.held → mid.ended ≡ false → after ≡ record mid { held = kept } → ReadsOn after new (Err stop) b c → a.faults ≤ b.faults → new.count ≤ new.limit → Called old new (Err stop) a c
search_stops old mid after new a b c too_long kept Fault s none unended same reads later within =
    let is : new ≡ record mid { held = kept; stopped = Some Fault } = reads.0 ∙ ap (λ (b : Buffered). record b { stopped = Some Fault }) same in
    let all = all_without old mid a b too_long s none in
    let rose : Rose a.faults c.faults = omega (arith, reads.1) in
    stopped old mid new a b c too_long kept Fault s none unended is (all, rose, ap (λ (b : Buffered). b.ended) is ∙ unended, ap (λ (b : Buffered). b.stopped) is) reads.2 within
search_stops old mid after new a b c too_long kept ByteLimit s none unended same reads later within =
    let is : new ≡ record mid { held = kept; stopped = Some ByteLimit } = reads.0 ∙ ap (λ (b : Buffered). record b { stopped = Some ByteLimit }) same in
    let all = all_without old mid a b too_long s none in
    let full : new.count ≡ new.limit = ap (λ (b : Buffered). b.count) reads.0 ∙ (reads.1 ∙ sym (ap (λ (b : Buffered). b.limit) reads.0)) in
    stopped old mid new a b c too_long kept ByteLimit s none unended is (all, full, ap (λ (b : Buffered). b.ended) is ∙ unended, ap (λ (b : Buffered). b.stopped) is) reads.2 within

-- what a search gives that finds
found : (old mid new : Buffered) (a b : SourceState) (too_long : Bool) (line : Line) (s : Searching old mid a b too_long) → new ≡ record mid { held = new.held } → (new.stopped ≡ None → Gives old (old.held ++ s.bytes) new (Ok line) a.faults b.faults) → new.count ≤ new.limit → Called old new (Ok line) a b
found old mid new a b too_long line s is gives within = record {
  bytes = s.bytes;
  goes_on = subst (λ (state : Option LineStop). GoesOn state old s.bytes new (Ok line) a.faults b.faults) (sym s.started) (record {
    gives = gives (ap (λ (b : Buffered). b.stopped) is ∙ s.goes_on);
    counted = ap (λ (b : Buffered). b.count) is ∙ s.counted;
    within = within;
    same_size = ap (λ (b : Buffered). b.size) is ∙ s.same_size;
    same_limit = ap (λ (b : Buffered). b.limit) is ∙ s.same_limit;
    waits = s.waits;
    stays_ended = λ ended. ((s.stays_ended ended).0, ap (λ (b : Buffered). b.ended) is ∙ (s.stays_ended ended).1);
  });
  consumes = s.consumes;
  at_end = λ ended. s.at_end (sym (ap (λ (b : Buffered). b.ended) is) ∙ ended);
}

-- where nothing was passed over, the bytes that are held are all
all_held : (old mid : Buffered) (a b : SourceState) (too_long : Bool) (s : Searching old mid a b too_long) → too_long ≡ false → old.held ++ s.bytes ≡ mid.held
all_held old mid a b too_long s short =
    let none : s.dropped ≡ [] = subst (λ (b : Bool). IsDropped old.size b s.dropped) short s.passed in
    s.all ∙ ap (λ (xs : List ℕ). xs ++ mid.held) none

-- a piece that is too long, with what was passed over of it
long_piece : (size : ℕ) (too_long : Bool) (dropped piece : List ℕ) → IsDropped size too_long dropped → (too_long ≡ false → size < length piece) → size < length (dropped ++ piece)
long_piece size true dropped piece long short = omega (arith, long, length-append dropped piece)
long_piece size false dropped piece long short = omega (arith, short refl, length-append dropped piece)

pub search_finds : (old mid new : Buffered) (a b : SourceState) (too_long : Bool) (items : List ℕ) (what : FoundPiece) (line : Result Line LineStop) → Searching old mid a b too_long → new ≡ record mid { held = new.held } → Finds mid too_long new items (Some what) → IsLent items (Ok what) line → new.count ≤ new.limit → Called old new line a b
search_finds old mid new a b too_long items (Piece start end) line s is finds lent within =
    let all = all_held old mid a b too_long s finds.2 in
    let piece = slice_range items start end in
    let gives : new.stopped ≡ None → Gives old (old.held ++ s.bytes) new (Ok (Whole lent.0)) a.faults b.faults = λ goes_on. (piece, subst (λ (bytes : List ℕ). IsPiece bytes piece new.held new.ended) (sym all) finds.0, omega (arith, finds.1, s.same_size), lent.2, goes_on) in
    subst (λ (l : Result Line LineStop). Called old new l a b) (sym lent.1) (found old mid new a b too_long (Whole lent.0) s is gives within)
search_finds old mid new a b too_long items LongPiece line s is finds lent within =
    let long : old.size < length (s.dropped ++ finds.0) = long_piece old.size too_long s.dropped finds.0 s.passed (λ short. omega (arith, finds.2 short, s.same_size)) in
    let cut : IsPiece (s.dropped ++ mid.held) (s.dropped ++ finds.0) new.held new.ended = cut_piece s.dropped mid.held finds.0 new.held new.ended s.no_feed finds.1 (omega arith) in
    let gives : new.stopped ≡ None → Gives old (old.held ++ s.bytes) new (Ok TooLong) a.faults b.faults = λ goes_on. (s.dropped ++ finds.0, subst (λ (bytes : List ℕ). IsPiece bytes (s.dropped ++ finds.0) new.held new.ended) (sym s.all) cut, long, goes_on) in
    subst (λ (l : Result Line LineStop). Called old new l a b) (sym lent) (found old mid new a b too_long TooLong s is gives within)
search_finds old mid new a b too_long items NoPiece line s is finds lent within =
    let all = all_held old mid a b too_long s finds.3 in
    let gives : new.stopped ≡ None → Gives old (old.held ++ s.bytes) new (Ok End) a.faults b.faults = λ goes_on. (all ∙ finds.0, finds.1, finds.2, goes_on) in
    subst (λ (l : Result Line LineStop). Called old new l a b) (sym lent) (found old mid new a b too_long End s is gives within)

-- how many turns are left
abbrev pub turns_left : Buffered → ℕ
turns_left b = cond b.ended 0 (b.limit - b.count + 1)
