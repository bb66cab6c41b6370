-- One line more is judged, and lines one behind the other are.
use Rattle.std.proofs.Common.{◌≡◌, ◌≤◌, ◌<◌, ◌-◌, ◌^◌, ◌⊎◌, ℕ, ◌+◌, Bool, true, false, List, [], ◌∷◌, ◌++◌, length, map, Option, Some, None, Result, Ok, Err, IsErrAnd, refl, ap, sym, ◌∙◌, inl, inr, arith, append_assoc, append-nil}
use Rattle.std.proofs.lemmas.List.{length-append, length-map}
use Rattle.pj_shape.specs.declared.columns.Column.{Column}
use Rattle.pj_io.specs.Causes.{Rose}
use Rattle.pj_io.proofs.Pieces.{consumes_none, consumes_more}
use Rattle.pj_io.specs.States.{SourceState}
use Rattle.pj_pattern.specs.declared.element.Element.{Element}
use Rattle.pj_pattern.specs.declared.element.Element.TheVariants.{Tuple as AcceptedTuple, Punct as AcceptedPunct}
use Rattle.pj_line.specs.Lines.{pieces}
use Rattle.pj_line.specs.Fed.{AreFed}
use Rattle.pj_line.specs.Buffers.{Buffered, IsPiece, KnowsEnd, fed_piece, last_piece}
use Rattle.pj_line.proofs.PieceLaws.{fed_piece_is_first, last_piece_is_all}
use Rattle.pj_line.proofs.FedPieces.{pieces-length}
use Rattle.pj_element.specs.declared.element.Read.{Read}
use Rattle.pj_element.specs.declared.element.Reject.{Reject}
use Rattle.pj_element.specs.Elements.{reading_at}
use Rattle.pj_element.specs.Accepted.{Fate, Passed, Taken, Refused, fate_behind, fates, fates_of, reads_of, taken_of, with_taken, rejects_of, with_refused}
use Rattle.pj_element.proofs.Lawful.{fates-push, taken_of-append, length-fates}
use Rattle.pj_element.proofs.Rejects.{rejects_of-append}
use Rattle.pj_element.proofs.GoOn.{reads_go_on}
use Rattle.pj_puncts.specs.Stores.{IsAbove}
use Rattle.pj_intake.specs.SeenLines.{HasRoom, with_kept, with_fate, fate_by}
use Rattle.pj_intake.specs.Taking.{HasJudged, IsOpen}
use Rattle.pj_intake.specs.Reads.{ReadsNext, BeginsWithPiece}
use Rattle.pj_intake.specs.Steps.{step_in, accepted_in, rejected_in, AddNothing, AddsSome, step_answered, stop_answered, StandsAt}
use Rattle.pj_intake.specs.Judged.{running, to_judge, step_judged, Judges, JudgesOn}
use Rattle.pj_intake.specs.declared.seen.Seen.{Seen}
use Rattle.pj_intake.specs.declared.intake.Step.{Step}
use Rattle.pj_intake.specs.declared.intake.Step.TheVariants.{End}
use Rattle.pj_intake.specs.declared.intake.IntakeStop.{IntakeStop}
use Rattle.pj_intake.specs.declared.intake.IntakeStop.TheVariants.{ReadFault, ByteLimit, NoMemory}
use Rattle.pj_intake.proofs.Counts.{seen_more, seen_room, seen_above, fate_by-kept_of}

-- ---- a piece, as more bytes that are judged

-- the bytes are those of a piece and those that are held
pub record IsMore (bytes piece held : List ℕ) (ended : Bool) : Type 0 where
  pub more : List ℕ
  pub all : bytes ≡ more ++ held
  pub one : pieces more ≡ piece ∷ []
  pub some : 0 < length more
  pub whole : ((front : List ℕ) × (more ≡ front ++ 10 ∷ [])) ⊎ ((ended ≡ true) × (held ≡ []))

piece-more : (bytes piece held : List ℕ) (ended : Bool) → IsPiece bytes piece held ended → IsMore bytes piece held ended
piece-more _ _ _ _ (fed_piece piece rest ended none) = record {
  more = piece ++ 10 ∷ [];
  all = sym (append_assoc piece (10 ∷ []) rest);
  one = fed_piece_is_first piece [] none;
  some = omega (arith, length-append piece (10 ∷ []));
  whole = inl (piece, refl);
}
piece-more _ _ _ _ (last_piece piece none some) = record {
  more = piece;
  all = sym (append-nil piece);
  one = last_piece_is_all piece none some;
  some = some;
  whole = inr (refl, refl);
}

whole-more : (judged more held : List ℕ) (ended : Bool) → ((front : List ℕ) × (more ≡ front ++ 10 ∷ [])) ⊎ ((ended ≡ true) × (held ≡ [])) → AreFed (judged ++ more) ⊎ ((ended ≡ true) × (held ≡ []))
whole-more judged more held ended (inl fed) = inl (inr (judged ++ fed.0, ap (λ (xs : List ℕ). judged ++ xs) fed.1 ∙ sym (append_assoc judged fed.0 (10 ∷ []))))
whole-more judged more held ended (inr all) = inr all

-- ---- what a line adds

adds-fate : (columns : List Column) (judged more : List ℕ) (n : ℕ) (f : Fate)
    → taken_of (fates_of columns (judged ++ more)) ≡ taken_of (fates_of columns judged) ++ with_taken f []
    → rejects_of 1 (fates_of columns (judged ++ more)) ≡ rejects_of 1 (fates_of columns judged) ++ with_refused n f []
    → AddsSome columns judged more (step_in n f)
adds-fate columns judged more n Passed taken refused = record { elements = taken ∙ append-nil (taken_of (fates_of columns judged)); rejects = refused ∙ append-nil (rejects_of 1 (fates_of columns judged)) }
adds-fate columns judged more n (Taken (AcceptedTuple row)) taken refused = record { elements = taken; rejects = refused }
adds-fate columns judged more n (Taken (AcceptedPunct punct)) taken refused = record { elements = taken; rejects = refused }
adds-fate columns judged more n (Refused why) taken refused = record { elements = taken; rejects = refused }

no-end : (n : ℕ) (f : Fate) → step_in n f ≡ Some End → ⊥
no-end n Passed e = cc
no-end n (Taken (AcceptedTuple row)) e = cc
no-end n (Taken (AcceptedPunct punct)) e = cc
no-end n (Refused why) e = cc

adds-read : (columns : List Column) (judged more : List ℕ) (read : Read) (n : ℕ) → reads_of columns (judged ++ more) ≡ reads_of columns judged ++ read ∷ []
    → n ≡ 1 + length (reads_of columns judged) → AddsSome columns judged more (step_in n (fate_behind (reads_of columns judged) read))
adds-read columns judged more read n reads number =
    let rs : List Read = reads_of columns judged in
    let f : Fate = fate_behind rs read in
    let all : fates_of columns (judged ++ more) ≡ fates [] rs ++ f ∷ [] = ap (fates []) reads ∙ fates-push rs read in
    let same : 1 + length (fates [] rs) ≡ n = ap (λ m. 1 + m) (length-fates [] rs) ∙ sym number in
    adds-fate columns judged more n f
    (ap taken_of all ∙ taken_of-append (fates [] rs) (f ∷ []))
    (ap (rejects_of 1) all ∙ (rejects_of-append 1 (fates [] rs) (f ∷ []) ∙ ap (λ m. rejects_of 1 (fates [] rs) ++ with_refused m f []) same))

abbrev elements-of : List Column → List ℕ → List Element
elements-of columns bytes = taken_of (fates_of columns bytes)

abbrev rejected-of : List Column → List ℕ → List (ℕ × Reject)
rejected-of columns bytes = rejects_of 1 (fates_of columns bytes)

nothing-more : (columns : List Column) (judged : List ℕ) → AddNothing columns judged []
nothing-more columns judged = record { elements = ap (elements-of columns) (append-nil judged); rejects = ap (rejected-of columns) (append-nil judged) }

-- ---- one line

-- lines that were judged were not all of the source where more is found
still-fed : (columns : List Column) (old : Buffered) (seen : Seen) (judged bytes : List ℕ) → IsOpen (running columns old seen) judged → (old.ended ≡ true → bytes ≡ []) → 0 < length (old.held ++ bytes) → AreFed judged
still-fed columns old seen judged bytes f stays some = go f.whole
  where
    go : AreFed judged ⊎ ((old.ended ≡ true) × (old.held ≡ [])) → AreFed judged
    go (inl fed) = fed
    go (inr all) = absurd (omega (arith, some, length-append old.held bytes, ap length (stays all.0), ap length all.1))

unended-fed : (columns : List Column) (old new : Buffered) (seen : Seen) (judged bytes : List ℕ) → IsOpen (running columns old seen) judged → (old.ended ≡ true → (bytes ≡ []) × (new.ended ≡ true)) → new.ended ≡ false → AreFed judged
unended-fed columns old new seen judged bytes f stays unended = go f.whole
  where
    go : AreFed judged ⊎ ((old.ended ≡ true) × (old.held ≡ [])) → AreFed judged
    go (inl fed) = fed
    go (inr all) = let ended : new.ended ≡ true = (stays all.0).1 in absurd cc

-- the next line may have the next number
pub line_room : (columns : List Column) (old new : Buffered) (seen : Seen) (judged : List ℕ) (o : Option Read) (read : Read) (before now : SourceState)
    → IsOpen (running columns old seen) judged → o ≡ Some read → ReadsNext columns old new before now (Ok o) → HasRoom seen.line seen.tally
line_room columns old new seen judged o read before now f is reads =
    let r : ReadsNext columns old new before now (Ok (Some read)) = rw (sym is) reads in
    let m : IsMore (old.held ++ r.bytes) r.gives.0 new.held new.ended = piece-more _ _ _ _ r.gives.1 in
    let lines : length (reads_of columns judged) ≡ length (pieces judged) = length-map (pieces judged) (reading_at columns) in
    let lt : seen.line < 2 ^ 64 - 1 = omega (arith, f.has_judged.lines, lines, pieces-length judged, f.count, f.most, r.counted, r.within, r.same_limit, m.some, ap length m.all, length-append old.held r.bytes, length-append m.more new.held) in
    seen_room (reads_of columns judged) seen.line seen.store.kept seen.tally f.has_judged lt

pub line_above : (columns : List Column) (old : Buffered) (seen : Seen) (judged : List ℕ) → IsOpen (running columns old seen) judged → IsAbove (seen.line + 1) seen.store.kept
line_above columns old seen judged f = seen_above (reads_of columns judged) seen.line seen.store.kept seen.tally f.has_judged

-- and fewer bytes are left to judge
pub line_shorter : (columns : List Column) (old new : Buffered) (o : Option Read) (read : Read) (before now : SourceState)
    → o ≡ Some read → ReadsNext columns old new before now (Ok o) → to_judge new < to_judge old
line_shorter columns old new o read before now is reads =
    let r : ReadsNext columns old new before now (Ok (Some read)) = rw (sym is) reads in
    let m : IsMore (old.held ++ r.bytes) r.gives.0 new.held new.ended = piece-more _ _ _ _ r.gives.1 in
    omega (arith, r.counted, r.within, r.same_limit, m.some, ap length m.all, length-append old.held r.bytes, length-append m.more new.held)

module _ (columns : List Column) (old new : Buffered) (seen_before seen_now : Seen) (before now : SourceState) where
  -- a line was judged
  module _ (read : Read) (step : Option Step) (r : ReadsNext columns old new before now (Ok (Some read)))
      (lines : seen_now.line ≡ seen_before.line + 1) (arity : seen_now.store.arity ≡ seen_before.store.arity)
      (kept : seen_now.store.kept ≡ seen_before.store.kept ++ with_kept (seen_before.line + 1) read [])
      (tally : seen_now.tally ≡ with_fate (seen_before.line + 1) (fate_by seen_before.store.kept read) seen_before.tally)
      (gives : step ≡ step_in (seen_before.line + 1) (fate_by seen_before.store.kept read)) where
    judges : (judged : List ℕ) → IsOpen (running columns old seen_before) judged → Judges (running columns new seen_now) judged (old.held ++ r.bytes) step None before.faults now.faults
    judges judged f =
        let m : IsMore (old.held ++ r.bytes) r.gives.0 new.held new.ended = piece-more _ _ _ _ r.gives.1 in
        let rs : List Read = reads_of columns judged in
        let found : length (old.held ++ r.bytes) ≡ length m.more + length new.held = ap length m.all ∙ length-append m.more new.held in
        let fed : AreFed judged = still-fed columns old seen_before judged r.bytes f (λ ended. (r.stays_ended ended).0) (omega (arith, found, m.some)) in
        let reads : reads_of columns (judged ++ m.more) ≡ rs ++ read ∷ [] =
        reads_go_on columns judged m.more fed ∙ ap (λ (xs : List Read). rs ++ xs) (ap (map (reading_at columns)) m.one ∙ ap (λ (x : Read). x ∷ []) (sym r.gives.2)) in
        let has_judged : HasJudged (running columns new seen_now) (judged ++ m.more) =
        rw reads (seen_more rs read seen_before.line seen_now.line seen_before.store.kept seen_now.store.kept seen_before.tally seen_now.tally f.has_judged lines kept tally) in
        let fate : fate_by seen_before.store.kept read ≡ fate_behind rs read = ap (λ ks. fate_by ks read) f.has_judged.puncts ∙ fate_by-kept_of rs read in
        let step_so : step ≡ step_in (seen_before.line + 1) (fate_behind rs read) = gives ∙ ap (step_in (seen_before.line + 1)) fate in
        record {
          more = m.more;
          rest = new.held;
          found_so = m.all;
          has_judged = has_judged;
          adds = rw step_so (adds-read columns judged m.more read (seen_before.line + 1) reads (omega (arith, f.has_judged.lines)));
          stands = (
            record {
              has_judged = has_judged;
              arity = arity ∙ f.arity;
              size = r.same_size ∙ f.size;
              running = r.running;
              whole = whole-more judged m.more new.held new.ended m.whole;
              count = omega (arith, r.counted, f.count, found, length-append old.held r.bytes, length-append judged m.more);
              within = r.within;
              most = omega (arith, r.same_limit, f.most);
            },
            refl,
          );
          at_end = λ e. absurd (no-end (seen_before.line + 1) (fate_behind rs read) (sym step_so ∙ e));
        }

    pub line_judges : now.told ≡ before.told → now.name ≡ before.name → before.faults ≤ now.faults → JudgesOn (running columns old seen_before) (running columns new seen_now) before now step None
    line_judges told name later = record { bytes = r.bytes; judges = judges; consumes = r.consumes; at_end = r.at_end; same_limit = r.same_limit; same_told = told; same_name = name; later = later }

  -- no line is left
  pub line_ends : ReadsNext columns old new before now (Ok None) → seen_now ≡ seen_before → now.told ≡ before.told → now.name ≡ before.name → before.faults ≤ now.faults
      → JudgesOn (running columns old seen_before) (running columns new seen_now) before now (Some End) None
  line_ends r same told name later = record { bytes = r.bytes; judges = ends; consumes = r.consumes; at_end = r.at_end; same_limit = r.same_limit; same_told = told; same_name = name; later = later }
    where
      ends : (judged : List ℕ) → IsOpen (running columns old seen_before) judged → Judges (running columns new seen_now) judged (old.held ++ r.bytes) (Some End) None before.faults now.faults
      ends judged f =
          let nothing : length old.held + length r.bytes ≡ 0 = sym (length-append old.held r.bytes) ∙ ap length r.gives.0 in
          let has_judged : HasJudged (running columns new seen_now) (judged ++ []) = rw append-nil (rw same f.has_judged) in
          record {
            more = [];
            rest = [];
            found_so = r.gives.0;
            has_judged = has_judged;
            adds = record {
              elements = ap (elements-of columns) (append-nil judged) ∙ sym (append-nil (elements-of columns judged));
              rejects = ap (rejected-of columns) (append-nil judged) ∙ sym (append-nil (rejected-of columns judged));
            };
            stands = (
              record {
                has_judged = has_judged;
                arity = rw same f.arity;
                size = r.same_size ∙ f.size;
                running = r.running;
                whole = inr (r.gives.2, r.gives.1);
                count = omega (arith, r.counted, f.count, nothing, ap length r.gives.1, length-append judged []);
                within = r.within;
                most = omega (arith, r.same_limit, f.most);
              },
              sym r.gives.1,
            );
            at_end = λ e. (r.gives.2, refl);
          }

  -- nothing was judged at a stop
  stops : (stop : IntakeStop) (judged bytes : List ℕ) → seen_now ≡ seen_before → IsOpen (running columns old seen_before) judged
      → StandsAt (Some stop) (running columns new seen_now) (judged ++ []) (old.held ++ bytes) before.faults now.faults
      → Judges (running columns new seen_now) judged (old.held ++ bytes) None (Some stop) before.faults now.faults
  stops stop judged bytes same f stands = record {
    more = [];
    rest = old.held ++ bytes;
    found_so = refl;
    has_judged = rw append-nil (rw same f.has_judged);
    adds = nothing-more columns judged;
    stands = stands;
    at_end = λ e. absurd cc;
  }

  -- memory could not be had for the line
  starves : (bytes judged : List ℕ) → BeginsWithPiece (old.held ++ bytes) new → (old.ended ≡ true → (bytes ≡ []) × (new.ended ≡ true)) → seen_now ≡ seen_before → IsOpen (running columns old seen_before) judged
      → Judges (running columns new seen_now) judged (old.held ++ bytes) None (Some NoMemory) before.faults now.faults
  starves bytes judged piece stays same f =
      let m : IsMore (old.held ++ bytes) piece.0 new.held new.ended = piece-more _ _ _ _ piece.1 in
      let some : 0 < length (old.held ++ bytes) = omega (arith, m.some, ap length m.all, length-append m.more new.held) in
      let fed : AreFed judged = still-fed columns old seen_before judged bytes f (λ ended. (stays ended).0) some in
      stops NoMemory judged bytes same f (rw append-nil fed, piece)

  pub line_starves : (read : Read) → ReadsNext columns old new before now (Ok (Some read)) → seen_now ≡ seen_before → now.told ≡ before.told → now.name ≡ before.name → before.faults ≤ now.faults
      → JudgesOn (running columns old seen_before) (running columns new seen_now) before now None (Some NoMemory)
  line_starves read r same told name later = record {
    bytes = r.bytes;
    judges = λ judged f. starves r.bytes judged (r.gives.0, r.gives.1) r.stays_ended same f;
    consumes = r.consumes;
    at_end = r.at_end;
    same_limit = r.same_limit;
    same_told = told;
    same_name = name;
    later = later;
  }

  stopped_read : (stop : IntakeStop) (r : ReadsNext columns old new before now (Err stop)) → seen_now ≡ seen_before → (judged : List ℕ) → IsOpen (running columns old seen_before) judged
      → Judges (running columns new seen_now) judged (old.held ++ r.bytes) None (Some stop) before.faults now.faults
  stopped_read ReadFault r same judged f = stops ReadFault judged r.bytes same f (rw append-nil (unended-fed columns old new seen_before judged r.bytes f r.stays_ended r.gives.2), r.gives.0, r.gives.1)
  stopped_read ByteLimit r same judged f =
      stops ByteLimit judged r.bytes same f (
        rw append-nil (unended-fed columns old new seen_before judged r.bytes f r.stays_ended r.gives.2),
        r.gives.0,
        omega (arith, f.count, r.counted, r.gives.1, length-append old.held r.bytes, length-append (judged ++ []) (old.held ++ r.bytes), length-append judged []),
      )
  stopped_read NoMemory r same judged f = starves r.bytes judged r.gives r.stays_ended same f

  -- the read stopped
  pub line_stops : (stop : IntakeStop) → ReadsNext columns old new before now (Err stop) → seen_now ≡ seen_before → now.told ≡ before.told → now.name ≡ before.name → before.faults ≤ now.faults
      → JudgesOn (running columns old seen_before) (running columns new seen_now) before now None (Some stop)
  line_stops stop r same told name later = record {
    bytes = r.bytes;
    judges = stopped_read stop r same;
    consumes = r.consumes;
    at_end = r.at_end;
    same_limit = r.same_limit;
    same_told = told;
    same_name = name;
    later = later;
  }

  -- the same of an answer
  pub read_stops : (stop : IntakeStop) (result : Result (Option Step) IntakeStop) → IsErrAnd result (λ x. x ≡ stop) → ReadsNext columns old new before now (Err stop) → seen_now ≡ seen_before
      → now.told ≡ before.told → now.name ≡ before.name → before.faults ≤ now.faults → JudgesOn (running columns old seen_before) (running columns new seen_now) before now (step_judged result) (stop_answered result)
  read_stops stop (Ok step) is r same told name later = absurd is
  read_stops stop (Err x) is r same told name later = rw is (line_stops stop r same told name later)

  -- memory could not be had to judge the line that was read
  pub judge_stops : (o : Option Read) (read : Read) (result : Result (Option Step) IntakeStop) → IsErrAnd result (λ x. x ≡ NoMemory) → o ≡ Some read → ReadsNext columns old new before now (Ok o) → seen_now ≡ seen_before
      → now.told ≡ before.told → now.name ≡ before.name → before.faults ≤ now.faults → JudgesOn (running columns old seen_before) (running columns new seen_now) before now (step_judged result) (stop_answered result)
  judge_stops o read (Ok step) is got r same told name later = absurd is
  judge_stops o read (Err x) is got r same told name later = rw is (line_starves read (rw (sym got) r) same told name later)

-- ---- some lines

-- none so far
pub none_judged : (columns : List Column) (buffer : Buffered) (seen : Seen) (source : SourceState) → KnowsEnd buffer source
    → JudgesOn (running columns buffer seen) (running columns buffer seen) source source None None
none_judged columns buffer seen source at_end = record {
  bytes = [];
  judges = λ judged f. record {
    more = [];
    rest = buffer.held;
    found_so = append-nil buffer.held;
    has_judged = rw append-nil f.has_judged;
    adds = nothing-more columns judged;
    stands = (rw append-nil f, refl);
    at_end = λ e. absurd cc;
  };
  consumes = λ _. consumes_none source;
  at_end = at_end;
  same_limit = refl;
  same_told = refl;
  same_name = refl;
  later = omega arith;
}

adds-behind : (columns : List Column) (judged more others : List ℕ) (step : Option Step) → AddNothing columns judged more → AddsSome columns (judged ++ more) others step → AddsSome columns judged (more ++ others) step
adds-behind columns judged more others None first second = record {
  elements = ap (elements-of columns) (sym (append_assoc judged more others)) ∙ (second.elements ∙ first.elements);
  rejects = ap (rejected-of columns) (sym (append_assoc judged more others)) ∙ (second.rejects ∙ first.rejects);
}
adds-behind columns judged more others (Some step) first second = record {
  elements = ap (elements-of columns) (sym (append_assoc judged more others)) ∙ (second.elements ∙ ap (λ (es : List Element). es ++ accepted_in step) first.elements);
  rejects = ap (rejected-of columns) (sym (append_assoc judged more others)) ∙ (second.rejects ∙ ap (λ (es : List (ℕ × Reject)). es ++ rejected_in step) first.rejects);
}

found-more : (held p more between kept q others last : List ℕ) → held ++ p ≡ more ++ between → between ≡ kept → kept ++ q ≡ others ++ last → held ++ (p ++ q) ≡ (more ++ others) ++ last
found-more held p more between kept q others last first same second =
    sym (append_assoc held p q)
    ∙ (ap (λ (xs : List ℕ). xs ++ q) (first ∙ ap (λ (xs : List ℕ). more ++ xs) same)
    ∙ (append_assoc more kept q
    ∙ (ap (λ (xs : List ℕ). more ++ xs) second
    ∙ sym (append_assoc more others last))))

rose_later : (f0 f1 f2 : ℕ) → f0 ≤ f1 → Rose f1 f2 → Rose f0 f2
rose_later f0 f1 f2 later rose = omega (arith, later, rose)

module _ (columns : List Column) (new : Buffered) (seen : Seen) (judged same rest : List ℕ) (f0 f1 f2 : ℕ) where
  stands_later : (stop : Option IntakeStop) → f0 ≤ f1 → same ≡ judged → StandsAt stop (running columns new seen) judged rest f1 f2 → StandsAt stop (running columns new seen) same rest f0 f2
  stands_later None later is stands = rw is stands
  stands_later (Some ReadFault) later is stands = rw is (stands.0, stands.1, rose_later f0 f1 f2 later stands.2)
  stands_later (Some ByteLimit) later is stands = rw is stands
  stands_later (Some NoMemory) later is stands = rw is stands

-- one more
module _ (columns : List Column) (a b c : Buffered) (seen_a seen_b seen_c : Seen) (s0 s1 s2 : SourceState)
    (first : JudgesOn (running columns a seen_a) (running columns b seen_b) s0 s1 None None) where
  judges-behind : (step : Option Step) (stop : Option IntakeStop) (q judged : List ℕ) (j : Judges (running columns b seen_b) judged (a.held ++ first.bytes) None None s0.faults s1.faults)
      → Judges (running columns c seen_c) (judged ++ j.more) (b.held ++ q) step stop s1.faults s2.faults
      → Judges (running columns c seen_c) judged (a.held ++ (first.bytes ++ q)) step stop s0.faults s2.faults
  judges-behind step stop q judged j k = record {
    more = j.more ++ k.more;
    rest = k.rest;
    found_so = found-more a.held first.bytes j.more j.rest b.held q k.more k.rest j.found_so j.stands.1 k.found_so;
    has_judged = rw (sym (append_assoc judged j.more k.more)) k.has_judged;
    adds = adds-behind columns judged j.more k.more step j.adds k.adds;
    stands = stands_later columns c seen_c ((judged ++ j.more) ++ k.more) (judged ++ (j.more ++ k.more)) k.rest s0.faults s1.faults s2.faults stop first.later (sym (append_assoc judged j.more k.more)) k.stands;
    at_end = k.at_end;
  }

  pub judged_on : (step : Option Step) (stop : Option IntakeStop) → JudgesOn (running columns b seen_b) (running columns c seen_c) s1 s2 step stop → JudgesOn (running columns a seen_a) (running columns c seen_c) s0 s2 step stop
  judged_on step stop second = record {
    bytes = first.bytes ++ second.bytes;
    judges = λ judged f.
        let j : Judges (running columns b seen_b) judged (a.held ++ first.bytes) None None s0.faults s1.faults = first.judges judged f in
        judges-behind step stop second.bytes judged j (second.judges (judged ++ j.more) j.stands.0);
    consumes = λ tells. consumes_more s0 s1 s2 first.bytes second.bytes (first.consumes tells) (second.consumes (rw first.same_told tells));
    at_end = second.at_end;
    same_limit = second.same_limit ∙ first.same_limit;
    same_told = second.same_told ∙ first.same_told;
    same_name = second.same_name ∙ first.same_name;
    later = omega (arith, first.later, second.later);
  }

  -- a stop, and a step
  pub judged_stop : (stop : IntakeStop) (result : Result Step IntakeStop) → IsErrAnd result (λ x. x ≡ stop) → JudgesOn (running columns b seen_b) (running columns c seen_c) s1 s2 None (Some stop)
      → JudgesOn (running columns a seen_a) (running columns c seen_c) s0 s2 (step_answered result) (stop_answered result)
  judged_stop stop (Ok step) is second = absurd is
  judged_stop stop (Err x) is second = rw is (judged_on None (Some stop) second)

  pub judged_as : (o step : Option Step) → o ≡ step → JudgesOn (running columns b seen_b) (running columns c seen_c) s1 s2 o None → JudgesOn (running columns a seen_a) (running columns c seen_c) s0 s2 step None
  judged_as o step is second = rw (sym is) (judged_on o None second)

-- lines that are judged go on being those of some bytes
pub open_on : (columns : List Column) (a b : Buffered) (seen_a seen_b : Seen) (s0 s1 : SourceState) → JudgesOn (running columns a seen_a) (running columns b seen_b) s0 s1 None None
    → (judged : List ℕ) × IsOpen (running columns a seen_a) judged → (judged : List ℕ) × IsOpen (running columns b seen_b) judged
open_on columns a b seen_a seen_b s0 s1 first f =
    let j : Judges (running columns b seen_b) f.0 (a.held ++ first.bytes) None None s0.faults s1.faults = first.judges f.0 f.1 in
    (f.0 ++ j.more, j.stands.0)

-- where nothing was left at the start, nothing was done so far, and the end comes
pub spent_stays : (a b : Buffered) (result : Result (Option Step) IntakeStop) → (a.ended ≡ true → a.held ≡ [] → b ≡ a) → (b.ended ≡ true → b.held ≡ [] → result ≡ Ok (Some End)) → a.ended ≡ true → a.held ≡ [] → result ≡ Ok (Some End)
spent_stays a b result same gives ended none = gives (ap (λ (x : Buffered). x.ended) (same ended none) ∙ ended) (ap (λ (x : Buffered). x.held) (same ended none) ∙ none)

pub none_is_no_end : (r : Result (Option Step) IntakeStop) (o : Option Step) → r ≡ Ok o → o ≡ None → r ≡ Ok (Some End) → ⊥
none_is_no_end r o so is end = cc

pub stop_is_no_end : (r : Result (Option Step) IntakeStop) (stop : IntakeStop) → r ≡ Err stop → r ≡ Ok (Some End) → ⊥
stop_is_no_end r stop so end = cc

pub end_is : (r : Result (Option Step) IntakeStop) (o : Option Step) (step : Step) (s : Result Step IntakeStop) → r ≡ Ok o → o ≡ Some step → s ≡ Ok step → r ≡ Ok (Some End) → s ≡ Ok End
end_is r o step s so is gives end = cc
