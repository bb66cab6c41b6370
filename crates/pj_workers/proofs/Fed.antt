-- What arrived of a file.
use Rattle.std.proofs.Common.{ℕ, Bool, true, false, cond, List, [], ◌∷◌, ◌++◌, ◌≡◌, Option, Some, None, refl, sym, ap, ap₂, ◌∙◌, subst, append_assoc, append-nil, IsTrue}
use Rattle.std.proofs.lemmas.Bool.{true≢false}
use Rattle.std.proofs.lemmas.List.{nil_from_length, take-append-drop}
use Rattle.pj_shape.specs.declared.columns.Column.{Column}
use Rattle.pj_value.specs.declared.values.Value.{Value}
use Rattle.pj_pattern.specs.declared.element.Element.{Element}
use Rattle.pj_pattern.specs.Elements.{rows_of}
use Rattle.pj_pattern.proofs.Elements.{rows_of-append}
use Rattle.pj_element.specs.Accepted.{taken_of, fates_of}
use Rattle.pj_events.specs.declared.events.Entry.{Entry}
use Rattle.pj_events.specs.Outcomes.{elements_of}
use Rattle.pj_intake.specs.declared.intake.IntakeStop.{IntakeStop}
use Rattle.pj_intake.specs.declared.intake.IntakeStop.TheVariants.{ReadFault as ReadFailed, ByteLimit as TooLong, NoMemory as LineMemory}
use Rattle.pj_feed.specs.Feeds.{FeedState, IsSameFeed, all_accepted, count_of, IsFed}
use Rattle.pj_feed.proofs.FeedFacts.{begins_with, counted, nothing_left_of}
use Rattle.pj_laws.specs.HistoryLaws.{schema_at}
use Rattle.pj_laws.specs.Seats.{HubPlan, is_closed, made_by}
use Rattle.pj_seats.specs.Answers.{closing_of}
use Rattle.pj_workers.specs.declared.ends.Broken.{Broken}
use Rattle.pj_workers.specs.declared.ends.Broken.TheVariants.{NoMemory as BrokenMemory, Stopped as BrokenStop}
use Rattle.pj_workers.specs.declared.feeding.FeedEnd.{FeedEnd}
use Rattle.pj_workers.specs.declared.feeding.FeedEnd.TheVariants.{Ended, Halted, ReadFault, ByteLimit, NoMemory, Stopped}
use Rattle.pj_workers.specs.Feeds.{BringsNone, FaultAt, HasFed, HasGiven, IsFeeding, IsGiven, all_of, closing_at, closing_given, feed_end, has_ended, with_rows}
use Rattle.pj_workers.proofs.Passing.{rose-later, same-still, same-then, so-far}

-- nothing was accepted of a feed that counted none
pub fresh-stands : (hub : HubPlan) (seat : ℕ) (feed : FeedState) → feed.stream ≡ seat → feed.intake.columns ≡ schema_at hub.nodes seat → feed.is_open ≡ true → IsFed feed → count_of feed ≡ 0 → IsFeeding hub seat [] feed
fresh-stands hub seat feed number columns still fed none = record {
  number = number;
  columns = columns;
  still = still;
  accepted = record {
    fed = fed;
    are = sym (nil_from_length (taken_of (fates_of feed.intake.columns fed.judged)) (sym (counted feed.intake fed.judged fed.follows.has_judged) ∙ none));
  };
  unclosed = refl;
}

-- a feeder that did not end
module _ (hub : HubPlan) (n : ℕ) (own more : List Entry) (first feed new : FeedState) (f : IsFeeding hub n own feed) (since : IsSameFeed first feed) (same : IsSameFeed feed new) (none : elements_of n more ≡ elements_of n own) where
  fed-less : IsTrue first.source.told → (others : List Element) × (all_accepted new ≡ elements_of n more ++ others)
  fed-less t =
      let told : IsTrue feed.source.told = subst IsTrue (sym since.told) t in
      let b = begins_with feed f.accepted.fed told in
      let all : all_accepted new ≡ all_accepted feed = ap₂ (λ (columns : List Column) (bytes : List ℕ). taken_of (fates_of columns bytes)) same.columns (same.bytes told) in
      (b.0, all ∙ (b.1 ∙ ap (λ (es : List Element). es ++ b.0) (sym f.accepted.are ∙ sym none)))

  fed-front : IsTrue first.source.told → (others : List Element) × (all_of hub new ≡ elements_of n more ++ others)
  fed-front t =
      let less = fed-less t in
      let rest : List Element = closing_of hub new.stream ∷ [] in
      (less.0 ++ rest, ap (λ (es : List Element). es ++ rest) less.1 ∙ append_assoc (elements_of n more) less.0 rest)

  pub fed-none : (end : FeedEnd) → has_ended end ≡ false → is_closed n more ≡ false → IsGiven hub end first new (elements_of n more) → HasFed hub n more first new end
  fed-none end other closed given = record {
    given = given;
    front = fed-front;
    whole = λ is. absurd (true≢false (sym is ∙ other));
    less = λ is. fed-less;
    closed = closed ∙ sym other;
  }

-- a feeder that ended
pub fed-ended : (hub : HubPlan) (n : ℕ) (more : List Entry) (first new : FeedState) → IsSameFeed first new → HasGiven hub new (elements_of n more) → new.is_open ≡ false → is_closed n more ≡ true → HasFed hub n more first new Ended
fed-ended hub n more first new since given shut closed = record {
  given = (given, shut);
  front = λ t. ([], sym (whole t) ∙ sym (append-nil (elements_of n more)));
  whole = λ is. whole;
  less = λ is. absurd (true≢false is);
  closed = closed;
}
  where
    accepted : IsTrue first.source.told → all_accepted new ≡ given.accepted
    accepted t =
        let told : IsTrue new.source.told = subst IsTrue (sym since.told) t in
        sym (take-append-drop (count_of new) (all_accepted new))
        ∙ (ap₂ (λ (xs ys : List Element). xs ++ ys) (so-far new given.accepted given.has told) (nothing_left_of new given.has.fed (given.has.fed.closed shut) told)
        ∙ append-nil given.accepted)

    whole : IsTrue first.source.told → elements_of n more ≡ all_of hub new
    whole t =
        given.are
        ∙ (ap (λ (b : Bool). given.accepted ++ closing_given hub new.stream b) shut
        ∙ ap (λ (es : List Element). es ++ closing_of hub new.stream ∷ []) (sym (accepted t)))

-- a feed that stopped, since before
fault-since : (first feed new : FeedState) (stop : IntakeStop) (es : List Element) → IsSameFeed first feed → FaultAt feed new stop es → FaultAt first new stop es
fault-since first feed new ReadFailed es since fault = (
  rose-later first.source.faults feed.source.faults new.source.faults since.faults fault.0,
  λ t. fault.1 (subst IsTrue (sym since.told) t),
)
fault-since first feed new TooLong es since fault = λ t. fault (subst IsTrue (sym since.told) t)
fault-since first feed new LineMemory es since fault = tt

-- no element arrived behind a feed that stood where the seat's arrivals were
pub brings-fed : (hub : HubPlan) (n : ℕ) (mid after : List Entry) (first feed new : FeedState) (end : FeedEnd) → IsFeeding hub n (made_by n mid) feed → IsSameFeed first feed → IsSameFeed feed new → BringsNone hub n mid after feed new end
    → HasFed hub n (made_by n after) first new end
brings-fed hub n mid after first feed new Ended f since same b = fed-ended hub n (made_by n after) first new (same-then first feed new since same) b.given.0 b.given.1 b.closed
brings-fed hub n mid after first feed new Halted f since same b =
    fed-none hub n (made_by n mid) (made_by n after) first feed new f since same (b.arrived ∙ append-nil (elements_of n (made_by n mid))) Halted refl b.closed b.given
brings-fed hub n mid after first feed new ReadFault f since same b =
    fed-none hub n (made_by n mid) (made_by n after) first feed new f since same (b.arrived ∙ append-nil (elements_of n (made_by n mid))) ReadFault refl b.closed
    (fault-since first feed new ReadFailed (elements_of n (made_by n after)) since b.given)
brings-fed hub n mid after first feed new ByteLimit f since same b =
    fed-none hub n (made_by n mid) (made_by n after) first feed new f since same (b.arrived ∙ append-nil (elements_of n (made_by n mid))) ByteLimit refl b.closed
    (fault-since first feed new TooLong (elements_of n (made_by n after)) since b.given)
brings-fed hub n mid after first feed new NoMemory f since same b =
    fed-none hub n (made_by n mid) (made_by n after) first feed new f since same (b.arrived ∙ append-nil (elements_of n (made_by n mid))) NoMemory refl b.closed tt
brings-fed hub n mid after first feed new (Stopped stop) f since same b =
    fed-none hub n (made_by n mid) (made_by n after) first feed new f since same (b.arrived ∙ append-nil (elements_of n (made_by n mid))) (Stopped stop) refl b.closed tt

-- what a look asks for broke off
pub broken-fed : (hub : HubPlan) (n : ℕ) (own : List Entry) (first feed : FeedState) (broken : Broken) → IsFeeding hub n own feed → IsSameFeed first feed → HasFed hub n own first feed (feed_end broken)
broken-fed hub n own first feed BrokenMemory f since = fed-none hub n own own first feed feed f since same-still refl NoMemory refl f.unclosed tt
broken-fed hub n own first feed (BrokenStop stop) f since = fed-none hub n own own first feed feed f since same-still refl (Stopped stop) refl f.unclosed tt

-- a look showed a halt
pub halted-fed : (hub : HubPlan) (n : ℕ) (own : List Entry) (first feed : FeedState) → IsFeeding hub n own feed → IsSameFeed first feed → HasFed hub n own first feed Halted
halted-fed hub n own first feed f since =
    let es = elements_of n own in
    fed-none hub n own own first feed feed f since same-still refl Halted refl f.unclosed
    (record { accepted = es; has = f.accepted; are = sym (ap (λ (b : Bool). es ++ closing_given hub feed.stream b) f.still ∙ append-nil es) }, f.still)

-- ---- kept rows

with-more : (kept : Option (List (List Value))) (xs ys : List (List Value)) → with_rows (with_rows kept xs) ys ≡ with_rows kept (xs ++ ys)
with-more None xs ys = refl
with-more (Some kept) xs ys = ap Some (append_assoc kept xs ys)

with-none : (kept : Option (List (List Value))) → with_rows kept [] ≡ kept
with-none None = refl
with-none (Some kept) = ap Some (append-nil kept)

-- no rows yet
pub keeps-none : (kept : Option (List (List Value))) (es : List Element) → es ≡ [] → kept ≡ with_rows kept (rows_of es)
keeps-none kept es none = sym (ap (λ (xs : List Element). with_rows kept (rows_of xs)) none ∙ with-none kept)

-- an element more
pub keeps-more : (old mid new : Option (List (List Value))) (es xs all : List Element) → mid ≡ with_rows old (rows_of es) → new ≡ with_rows mid (rows_of xs) → all ≡ es ++ xs → new ≡ with_rows old (rows_of all)
keeps-more old mid new es xs all first second is =
    second
    ∙ (ap (λ (kept : Option (List (List Value))). with_rows kept (rows_of xs)) first
    ∙ (with-more old (rows_of es) (rows_of xs)
    ∙ ap (with_rows old) (sym (ap rows_of is ∙ rows_of-append es xs))))

-- the closing has no row
pub keeps-closing : (hub : HubPlan) (n : ℕ) (end : FeedEnd) (old mid new : Option (List (List Value))) (es all : List Element) → mid ≡ with_rows old (rows_of es) → new ≡ mid → all ≡ es ++ closing_at hub n end → new ≡ with_rows old (rows_of all)
keeps-closing hub n end old mid new es all first same is =
    keeps-more old mid new es (closing_at hub n end) all first (same ∙ (sym (with-none mid) ∙ ap (with_rows mid) (sym (no-rows (has_ended end))))) is
  where
    no-rows : (b : Bool) → rows_of (cond b (closing_of hub n ∷ []) []) ≡ []
    no-rows true = refl
    no-rows false = refl
