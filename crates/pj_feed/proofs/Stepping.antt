-- One step of a stream's intake, as its feed has it.
use Rattle.std.proofs.Common.{◌≡◌, ◌⊎◌, ℕ, ◌+◌, ◌-◌, ◌<◌, ◌≤◌, ◌^◌, Bool, true, false, cond, List, [], ◌∷◌, ◌++◌, length, take, drop, refl, ap, ap₂, sym, ◌∙◌, subst, append_assoc, append-nil, arith, None, Result, Ok, Err, IfOk, IsTrue, inl, inr}
use Rattle.std.proofs.lemmas.List.{length-append}
use Rattle.std.proofs.Math.Seq.{take-append_seam}
use Rattle.pj_shape.specs.declared.columns.Column.{Column}
use Rattle.pj_io.specs.Pieces.{Consumes}
use Rattle.pj_pattern.specs.declared.element.Element.{Element}
use Rattle.pj_line.specs.Fed.{AreFed}
use Rattle.pj_line.specs.Lines.{HasNo}
use Rattle.pj_element.specs.Accepted.{taken_of, fates_of, rejects_of}
use Rattle.pj_intake.specs.declared.intake.Step.{Step}
use Rattle.pj_intake.specs.declared.intake.Step.TheVariants.{End}
use Rattle.pj_intake.specs.declared.intake.IntakeStop.{IntakeStop}
use Rattle.pj_intake.specs.declared.intake.IntakeStop.TheVariants.{ReadFault, ByteLimit, NoMemory}
use Rattle.pj_intake.specs.Taking.{IsOpen}
use Rattle.pj_intake.specs.Steps.{FitsStep, NextGives, GoesOn, accepted_in, rejected_in, stop_answered}
use Rattle.pj_feed.specs.declared.feeds.Arrival.TheVariants.{Brought, Closing}
use Rattle.pj_feed.specs.Feeds.{AcceptsNone, ComesBehind, FeedState, HasAccepted, bytes_of, all_accepted, count_of, work_of, IsFed, IsSameFeed, GivesTurn, HasPassed, FeedStops, fed_elements, brought, closes, turn_in}
use Rattle.pj_feed.proofs.FeedFacts.{IsAtEnd, next_left, those_so_far, counted, begins_with, nothing_left_of, fed_is}

-- what one step does to a feed
pub record Stepped (old new : FeedState) (result : Result Step IntakeStop) : Type 0 where
  pub stream : new.stream ≡ old.stream
  pub still : new.is_open ≡ old.is_open
  pub columns : new.intake.columns ≡ old.intake.columns
  pub limit : new.intake.buffer.limit ≡ old.intake.buffer.limit
  pub told : new.source.told ≡ old.source.told
  pub name : new.source.name ≡ old.source.name
  pub later : old.source.faults ≤ new.source.faults
  pub next : old.intake.stopped ≡ None → GoesOn old.intake new.intake old.source new.source result
  pub stops : old.intake.stopped ≡ None → new.intake.stopped ≡ stop_answered result
  pub took : IsTrue old.source.told → (bytes : List ℕ) × Consumes old.source new.source bytes
  pub at_end : new.intake.buffer.ended ≡ true → IsTrue new.source.told → new.source.left ≡ []
  pub fits : IfOk result (FitsStep old.intake.columns)

stepped_same : (old new : FeedState) (result : Result Step IntakeStop) → Stepped old new result → IsSameFeed old new
stepped_same old new result s = record {
  stream = s.stream;
  columns = s.columns;
  told = s.told;
  name = s.name;
  faults = s.later;
  bytes = λ t.
      let k = s.took t in
      ap (λ (xs : List ℕ). xs ++ new.source.left) k.1.taken
      ∙ (append_assoc old.source.taken k.0 new.source.left ∙ ap (λ (xs : List ℕ). old.source.taken ++ xs) (sym k.1.left));
}

-- ---- a step that was made

-- how many bytes may still be judged, and the closing that is still to come
work_open : (feed : FeedState) → feed.is_open ≡ true → work_of feed ≡ (feed.intake.buffer.limit - (feed.intake.buffer.count - length feed.intake.buffer.held)) + 1
work_open feed still = ap (λ (b : Bool). (feed.intake.buffer.limit - (feed.intake.buffer.count - length feed.intake.buffer.held)) + cond b 1 0) still

-- that is what is not judged yet
work_left : (feed : FeedState) (judged : List ℕ) → IsOpen feed.intake judged → feed.is_open ≡ true → work_of feed ≡ (feed.intake.buffer.limit - length judged) + 1
work_left feed judged f still =
    let w = work_open feed still in
    let c = f.count in
    let d : feed.intake.buffer.count - length feed.intake.buffer.held ≡ length judged = omega (arith, c) in
    w ∙ ap (λ (n : ℕ). (feed.intake.buffer.limit - n) + 1) d

none_or_some : (xs : List ℕ) → (xs ≡ []) ⊎ (0 < length xs)
none_or_some [] = inl refl
none_or_some (x ∷ xs) = inr (omega arith)

-- more elements or rejects of more bytes: there are more bytes
more_bytes : {A : Type 0} (count : List ℕ → List A) (judged more : List ℕ) (added : List A) → count (judged ++ more) ≡ count judged ++ added → 0 < length added → 0 < length more
more_bytes {A} count judged more added is some = elim (none_or_some more) [
  | inl none ↦
      let same : judged ++ more ≡ judged = ap (λ (xs : List ℕ). judged ++ xs) none ∙ append-nil judged in
      let e : length (count judged) ≡ length (count (judged ++ more)) = ap (λ (xs : List ℕ). length (count xs)) (sym same) in
      let r : length (count (judged ++ more)) ≡ length (count judged ++ added) = ap length is in
      absurd (omega (arith, e, r, length-append (count judged) added, some))
  | inr more ↦ more
]

-- the feed with its closing had
abbrev pub shut : FeedState → FeedState
shut feed = record { stream = feed.stream; is_open = false; source = feed.source; intake = feed.intake }

module _ (old new : FeedState) (step : Step) (fed : IsFed old) (still : old.is_open ≡ true) (s : Stepped old new (Ok step)) where
  abbrev pub gave : NextGives new.intake old.source new.source fed.judged (Ok step)
  gave = s.next fed.goes_on fed.judged fed.follows fed.bytes

  abbrev columns : List Column
  columns = new.intake.columns

  abbrev accepted : List ℕ → List Element
  accepted bytes = taken_of (fates_of columns bytes)

  pub stepped_fed : IsFed new
  stepped_fed = record {
    judged = fed.judged ++ gave.more;
    goes_on = s.stops fed.goes_on;
    follows = gave.stands.0;
    limit = s.limit ∙ fed.limit;
    bytes = λ t. gave.taken t ∙ ap (λ (xs : List ℕ). (fed.judged ++ gave.more) ++ xs) gave.stands.1;
    at_end = s.at_end;
    closed = λ c. absurd (let e : true ≡ false = sym (s.still ∙ still) ∙ c in cc);
  }

  old_count : count_of old ≡ length (accepted fed.judged)
  old_count = counted old.intake fed.judged fed.follows.has_judged ∙ ap (λ (ks : List Column). length (taken_of (fates_of ks fed.judged))) (sym s.columns)

  new_count : count_of new ≡ length (accepted (fed.judged ++ gave.more))
  new_count = counted new.intake (fed.judged ++ gave.more) gave.has_judged

  old_work : work_of old ≡ (old.intake.buffer.limit - length fed.judged) + 1
  old_work = work_left old fed.judged fed.follows still

  new_work : work_of new ≡ (old.intake.buffer.limit - length (fed.judged ++ gave.more)) + 1
  new_work = work_left new (fed.judged ++ gave.more) gave.stands.0 (s.still ∙ still) ∙ ap (λ (n : ℕ). (n - length (fed.judged ++ gave.more)) + 1) s.limit

  within : length (fed.judged ++ gave.more) ≤ old.intake.buffer.limit
  within =
      let c : new.intake.buffer.count ≡ length (fed.judged ++ gave.more) + length new.intake.buffer.held = gave.stands.0.count in
      let w : new.intake.buffer.count ≤ new.intake.buffer.limit = gave.stands.0.within in
      let l : new.intake.buffer.limit ≡ old.intake.buffer.limit = s.limit in
      omega (arith, c, w, l)

  stepped_works : work_of new ≤ work_of old
  stepped_works =
      let l : length (fed.judged ++ gave.more) ≡ length fed.judged + length gave.more = length-append fed.judged gave.more in
      let a : work_of old ≡ (old.intake.buffer.limit - length fed.judged) + 1 = old_work in
      let b : work_of new ≡ (old.intake.buffer.limit - length (fed.judged ++ gave.more)) + 1 = new_work in
      omega (arith, a, b, l)

  -- where a line was judged, less is left
  longer : 0 < length gave.more → work_of new < work_of old
  longer some =
      let l : length (fed.judged ++ gave.more) ≡ length fed.judged + length gave.more = length-append fed.judged gave.more in
      let a : work_of old ≡ (old.intake.buffer.limit - length fed.judged) + 1 = old_work in
      let b : work_of new ≡ (old.intake.buffer.limit - length (fed.judged ++ gave.more)) + 1 = new_work in
      let w : length (fed.judged ++ gave.more) ≤ old.intake.buffer.limit = within in
      omega (arith, a, b, l, w, some)

  pub reject_works : 0 < length (rejected_in step) → work_of new < work_of old
  reject_works some = longer (more_bytes (λ xs. rejects_of 1 (fates_of columns xs)) fed.judged gave.more (rejected_in step) gave.adds.rejects some)

  accepted_works : 0 < length (accepted_in step) → work_of new < work_of old
  accepted_works some = longer (more_bytes accepted fed.judged gave.more (accepted_in step) gave.adds.elements some)

  -- a reject or the end accepts nothing
  same_count : accepted_in step ≡ [] → count_of new ≡ count_of old
  same_count none =
      new_count ∙ (ap length (gave.adds.elements ∙ (ap (λ (es : List Element). accepted fed.judged ++ es) none ∙ append-nil (accepted fed.judged))) ∙ sym old_count)

  all_same : IsTrue old.source.told → all_accepted new ≡ all_accepted old
  all_same t = ap₂ (λ (ks : List Column) (xs : List ℕ). taken_of (fates_of ks xs)) s.columns ((stepped_same old new (Ok step) s).bytes t)

  abbrev told' : IsTrue old.source.told → IsTrue new.source.told
  told' t = subst IsTrue (sym s.told) t

  -- what is accepted behind the step
  next_is : (e : Element) → accepted_in step ≡ e ∷ [] → IsTrue old.source.told → drop (count_of old) (all_accepted old) ≡ e ∷ drop (count_of new) (all_accepted new)
  unfolding stepped_fed
  next_is e is t =
      let b = begins_with new stepped_fed (told' t) in
      let added : accepted (fed.judged ++ gave.more) ≡ accepted fed.judged ++ e ∷ [] = gave.adds.elements ∙ ap (λ (es : List Element). accepted fed.judged ++ es) is in
      let all : all_accepted new ≡ (accepted fed.judged ++ e ∷ []) ++ b.0 = b.1 ∙ ap (λ (es : List Element). es ++ b.0) added in
      ap (drop (count_of old)) (sym (all_same t))
      ∙ next_left (all_accepted new) (accepted fed.judged) b.0 e (count_of old) (count_of new) all old_count (new_count ∙ ap length added)

  -- an element that was accepted
  pub element_gives : (e : Element) → accepted_in step ≡ e ∷ [] → GivesTurn old new (Brought old.stream e)
  element_gives e is t streams =
      let rest : List Element = drop (count_of new) (all_accepted new) in
      ap (λ (es : List Element). brought streams old.stream es ++ closes streams old.stream old.is_open) (next_is e is t)
      ∙ ap₂ (λ (n : ℕ) (b : Bool). turn_in streams (Brought old.stream e) ∷ (brought streams n rest ++ closes streams n b)) (sym s.stream) (sym s.still)

  pub element_works : (e : Element) → accepted_in step ≡ e ∷ [] → work_of new < work_of old
  element_works e is = let l : length (accepted_in step) ≡ 1 = ap length is in accepted_works (omega (arith, l))

  -- a line that was rejected
  pub reject_passes : accepted_in step ≡ [] → HasPassed old new
  reject_passes none = record {
    fed = stepped_fed;
    same = stepped_same old new (Ok step) s;
    still = s.still;
    count = same_count none;
    works = stepped_works;
  }

  -- at the end all was judged
  at_end : step ≡ End → IsAtEnd new
  at_end is = let end = gave.at_end (ap Ok is) in (end.0, sym gave.stands.1 ∙ end.1)

  -- nothing is left behind the end, and the closing has its turn
  pub end_gives : step ≡ End → GivesTurn old (shut new) (Closing old.stream)
  end_gives is t streams =
      let none : accepted_in step ≡ [] = ap accepted_in is in
      let last : drop (count_of new) (all_accepted new) ≡ [] = nothing_left_of new stepped_fed (at_end is) (told' t) in
      let before : drop (count_of old) (all_accepted old) ≡ [] = ap₂ (λ (n : ℕ) (es : List Element). drop n es) (sym (same_count none)) (sym (all_same t)) ∙ last in
      ap₂ (λ (es : List Element) (b : Bool). brought streams old.stream es ++ closes streams old.stream b) before still
      ∙ ap (λ (es : List Element). turn_in streams (Closing old.stream) ∷ (brought streams new.stream es ++ [])) (sym last)

  pub end_fed : step ≡ End → IsFed (shut new)
  end_fed is = record {
    judged = stepped_fed.judged;
    goes_on = stepped_fed.goes_on;
    follows = stepped_fed.follows;
    limit = stepped_fed.limit;
    bytes = stepped_fed.bytes;
    at_end = stepped_fed.at_end;
    closed = λ c. at_end is;
  }

  pub end_works : work_of (shut new) < work_of old
  end_works =
      let all : work_of new ≡ (new.intake.buffer.limit - (new.intake.buffer.count - length new.intake.buffer.held)) + 1 = work_open new (s.still ∙ still) in
      let le : work_of new ≤ work_of old = stepped_works in
      omega (arith, all, le)

-- ---- what was accepted so far

module _ (old new : FeedState) (step : Step) (still : old.is_open ≡ true) (s : Stepped old new (Ok step)) where
  -- behind it is what the step accepts
  behind : (es : List Element) (had : HasAccepted old es) → es ++ accepted_in step ≡ taken_of (fates_of new.intake.columns (had.fed.judged ++ (gave old new step had.fed still s).more))
  behind es had =
      ap (λ (xs : List Element). xs ++ accepted_in step) (had.are ∙ ap (λ (ks : List Column). taken_of (fates_of ks had.fed.judged)) (sym s.columns))
      ∙ sym (gave old new step had.fed still s).adds.elements

  accepts-more : (es : List Element) → HasAccepted old es → HasAccepted new (es ++ accepted_in step)
  unfolding stepped_fed
  accepts-more es had = record { fed = stepped_fed old new step had.fed still s; are = behind es had }

  pub element_comes : (e : Element) → accepted_in step ≡ e ∷ [] → ComesBehind old new (Brought old.stream e)
  element_comes e is = record {
    accepted = λ es had. subst (λ (more : List Element). HasAccepted new (es ++ more)) is (accepts-more es had);
    still = s.still ∙ still;
  }

  pub reject_accepts : accepted_in step ≡ [] → AcceptsNone old new
  reject_accepts none = record {
    accepted = λ es had. subst (HasAccepted new) (append-nil es) (subst (λ (more : List Element). HasAccepted new (es ++ more)) none (accepts-more es had));
    still = s.still;
  }

  pub end_comes : step ≡ End → ComesBehind old (shut new) (Closing old.stream)
  unfolding stepped_fed end_fed
  end_comes is = record {
    accepted = λ es had. record {
      fed = end_fed old new step had.fed still s is;
      are = ap (λ (more : List Element). es ++ more) (sym (ap accepted_in is)) ∙ behind es had;
    };
    still = refl;
  }

-- ---- a step that could not be made

-- where no line feed is left, those so far are the elements of the lines that end with one in the bytes taken
fed_so_far : (old new : FeedState) (stop : IntakeStop) (fed : IsFed old) → Stepped old new (Err stop) → (gave : NextGives new.intake old.source new.source fed.judged (Err stop)) → AreFed (fed.judged ++ gave.more) → HasNo 10 gave.rest
    → IsTrue old.source.told → fed_elements new.intake.columns new.source.taken ≡ take (count_of old) (all_accepted old)
fed_so_far old new stop fed s gave whole free t =
    let b = begins_with old fed t in
    ap (λ (xs : List ℕ). fed_elements new.intake.columns xs) (gave.taken (subst IsTrue (sym s.told) t))
    ∙ (ap (λ (xs : List ℕ). taken_of (fates_of new.intake.columns xs)) (fed_is (fed.judged ++ gave.more) gave.rest whole free)
    ∙ (gave.adds.elements
    ∙ (ap (λ (ks : List Column). taken_of (fates_of ks fed.judged)) s.columns
    ∙ sym (those_so_far (all_accepted old) (taken_of (fates_of old.intake.columns fed.judged)) b.0 (count_of old) b.1 (counted old.intake fed.judged fed.follows.has_judged)))))

pub step_stops : (old new : FeedState) (stop : IntakeStop) (fed : IsFed old) → Stepped old new (Err stop) → FeedStops old new stop
step_stops old new ReadFault fed s =
    let gave = s.next fed.goes_on fed.judged fed.follows fed.bytes in
    (gave.stands.2, fed_so_far old new ReadFault fed s gave gave.stands.0 gave.stands.1)
step_stops old new ByteLimit fed s = λ t.
    let gave = s.next fed.goes_on fed.judged fed.follows fed.bytes in
    let bytes : bytes_of new ≡ bytes_of old = (stepped_same old new (Err ByteLimit) s).bytes t in
    let count : length new.source.taken ≡ 2 ^ 40 = ap length (gave.taken (subst IsTrue (sym s.told) t)) ∙ (gave.stands.2 ∙ (s.limit ∙ fed.limit)) in
    let front : take (2 ^ 40) (bytes_of old) ≡ new.source.taken = ap₂ (λ (n : ℕ) (xs : List ℕ). take n xs) (sym count) (sym bytes) ∙ take-append_seam new.source.taken new.source.left in (
      omega (arith, ap length bytes, length-append new.source.taken new.source.left, count),
      ap (λ (xs : List ℕ). fed_elements new.intake.columns xs) front ∙ fed_so_far old new ByteLimit fed s gave gave.stands.0 gave.stands.1 t,
    )
step_stops old new NoMemory fed s = tt
