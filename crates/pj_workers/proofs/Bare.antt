-- What the arrivals of a feeder add to its seat's own entries, and how it ends.
use Rattle.std.proofs.Common.{ℕ, Bool, true, false, cond, ◌&&◌, ◌||◌, List, [], ◌∷◌, ◌++◌, ◌≡◌, Option, Some, None, inl, inr, refl, sym, ap, ap₂, ◌∙◌, subst, append-nil}
use Rattle.std.proofs.lemmas.Bool.{eq-eqb, or_parts}
use Rattle.std.proofs.lemmas.Grind.{flat_map-append}
use Rattle.std.proofs.lemmas.List.Folds.{list_any-append}
use Rattle.pj_value.specs.Lists.{In}
use Rattle.pj_value.proofs.Members.{In-append_right}
use Rattle.pj_shape.specs.declared.columns.Column.{Column}
use Rattle.pj_shape.specs.Columns.{domains_of}
use Rattle.pj_pattern.specs.Columns.{matches_row}
use Rattle.pj_pattern.specs.Patterns.{Pattern}
use Rattle.pj_pattern.specs.Elements.{IsLawful}
use Rattle.pj_pattern.specs.Fitting.{FitsDomains}
use Rattle.pj_pattern.specs.declared.element.Element.{Element}
use Rattle.pj_pattern.specs.declared.element.Element.TheVariants.{Tuple, Punct}
use Rattle.pj_pattern.proofs.Lawful.{lawful_front, none_at}
use Rattle.pj_element.specs.Accepted.{taken_of, fates_of, reads_of}
use Rattle.pj_element.specs.Runs.{closing}
use Rattle.pj_element.proofs.Lawful.{lawful_behind}
use Rattle.pj_events.specs.declared.events.Entry.{Entry}
use Rattle.pj_events.specs.declared.events.Event.TheVariants.{Arrive, Halt}
use Rattle.pj_events.specs.declared.events.Stop.{Stop}
use Rattle.pj_events.specs.Outcomes.{element_at, elements_of}
use Rattle.pj_events.specs.Plan.{IsClearOf}
use Rattle.pj_feed.specs.declared.feeds.Arrival.TheVariants.{Brought}
use Rattle.pj_feed.specs.Feeds.{BringsOf, ComesBehind, FeedState, HasAccepted, IsSameFeed}
use Rattle.pj_laws.specs.Seats.{HubPlan, MayFeed, closes, is_closed, seated, stop_of}
use Rattle.pj_laws.proofs.Feeding.{arrived-unclosed}
use Rattle.pj_seats.specs.Answers.{refused, stopping}
use Rattle.pj_workers.specs.Rounds.{IsProbedWhere, looked}
use Rattle.pj_workers.specs.Feeds.{IsFeeding}

-- ---- entries that bring nothing

-- these entries bring nothing to the stream of this number, and do not close it
pub record IsBare (seat : ℕ) (entries : List Entry) : Type 0 where
  pub none : elements_of seat entries ≡ []
  pub unclosed : is_closed seat entries ≡ false

elements-behind : (seat : ℕ) (own es : List Entry) → elements_of seat (own ++ es) ≡ elements_of seat own ++ elements_of seat es
elements-behind seat own es = flat_map-append (λ (entry : Entry). element_at seat entry.event) own es

closed-behind : (seat : ℕ) (own es : List Entry) → is_closed seat (own ++ es) ≡ (is_closed seat own || is_closed seat es)
closed-behind seat own es = list_any-append (λ (entry : Entry). closes seat entry.closing entry.event) own es

pub bare-behind : (seat : ℕ) (own es : List Entry) → IsBare seat es → elements_of seat (own ++ es) ≡ elements_of seat own
bare-behind seat own es bare = elements-behind seat own es ∙ (ap (λ (xs : List Element). elements_of seat own ++ xs) bare.none ∙ append-nil (elements_of seat own))

pub bare-unclosed : (seat : ℕ) (own es : List Entry) → is_closed seat own ≡ false → IsBare seat es → is_closed seat (own ++ es) ≡ false
bare-unclosed seat own es o bare = closed-behind seat own es ∙ ap₂ (λ (a b : Bool). a || b) o bare.unclosed

pub bare-append : (seat : ℕ) (xs ys : List Entry) → IsBare seat xs → IsBare seat ys → IsBare seat (xs ++ ys)
bare-append seat xs ys a b = record { none = bare-behind seat xs ys b ∙ a.none; unclosed = bare-unclosed seat xs ys a.unclosed b }

pub none-left : (xs ys : List Element) → xs ++ ys ≡ [] → (xs ≡ []) × (ys ≡ [])
none-left [] ys none = (refl, none)
none-left (x ∷ xs) ys none = absurd (cc)

pub bare-parts : (seat : ℕ) (xs ys : List Entry) → IsBare seat (xs ++ ys) → IsBare seat xs × IsBare seat ys
bare-parts seat xs ys bare =
    let n = none-left (elements_of seat xs) (elements_of seat ys) (sym (elements-behind seat xs ys) ∙ bare.none) in
    let c = or_parts (is_closed seat xs) (is_closed seat ys) (sym (closed-behind seat xs ys) ∙ bare.unclosed) in
    (record { none = n.0; unclosed = c.0 }, record { none = n.1; unclosed = c.1 })

pub bare-looked : (seat pending : ℕ) → IsBare seat (looked seat pending ∷ [])
bare-looked seat pending = record { none = refl; unclosed = refl }

pub bare-halted : (seat : ℕ) → IsBare seat (seated seat Halt 0 ∷ [])
bare-halted seat = record { none = refl; unclosed = refl }

pub bare-refused : (seat : ℕ) (history : List Entry) (stop : Stop) → IsBare seat (seated seat (refused history stop) 0 ∷ [])
bare-refused seat history stop = go (stop_of history)
  where
    go : (before : Option Stop) → IsBare seat (seated seat (stopping before stop) 0 ∷ [])
    go None = record { none = refl; unclosed = refl }
    go (Some before) = record { none = refl; unclosed = refl }

pub bare-probed : (due : Bool) (seat : ℕ) (entries : List Entry) → IsProbedWhere due seat entries → IsBare seat entries
bare-probed false seat entries is = subst (IsBare seat) (sym is) (record { none = refl; unclosed = refl })
bare-probed true seat entries (inl is) = subst (IsBare seat) (sym is) (record { none = refl; unclosed = refl })
bare-probed true seat entries (inr is) = subst (IsBare seat) (sym is.2) (record { none = refl; unclosed = refl })

-- ---- an arrival

pub elements-more : (seat mark : ℕ) (own : List Entry) (e : Element) → elements_of seat (own ++ seated seat (Arrive seat e) mark ∷ []) ≡ elements_of seat own ++ e ∷ []
elements-more seat mark own e =
    elements-behind seat own (seated seat (Arrive seat e) mark ∷ [])
    ∙ ap (λ (b : Bool). elements_of seat own ++ (cond b (e ∷ []) [] ++ [])) (eq-eqb seat seat refl)

pub closed-more : (seat : ℕ) (own : List Entry) (e : Element) → is_closed seat own ≡ false → is_closed seat (own ++ seated seat (Arrive seat e) 1 ∷ []) ≡ true
closed-more seat own e o =
    closed-behind seat own (seated seat (Arrive seat e) 1 ∷ [])
    ∙ ap₂ (λ (a b : Bool). a || ((b && true) || false)) o (eq-eqb seat seat refl)

-- in a lawful list the last element is clear of those before it
clear-last : (sent : List Element) (e : Element) → IsLawful (sent ++ e ∷ []) → IsClearOf sent e
clear-last sent (Punct patterns) lawful = tt
clear-last sent (Tuple row) lawful = go sent lawful
  where
    go : (sent : List Element) → IsLawful (sent ++ Tuple row ∷ []) → (patterns : List Pattern) → In (Punct patterns) sent → matches_row patterns row ≡ false
    go [] lawful patterns h = absurd h
    go (Tuple r ∷ sent) lawful patterns (inl q) = absurd (cc)
    go (Tuple r ∷ sent) lawful patterns (inr h) = go sent lawful patterns h
    go (Punct ps ∷ sent) lawful patterns (inl q) =
        let same : ps ≡ patterns = cc q in
        subst (λ (qs : List Pattern). matches_row qs row ≡ false) same (none_at ps (sent ++ Tuple row ∷ []) lawful.0 row (In-append_right (Tuple row) sent (Tuple row ∷ []) (inl refl)))
    go (Punct ps ∷ sent) lawful patterns (inr h) = go sent lawful.1 patterns h

-- what is accepted of a file is lawful
accepted-lawful : (columns : List Column) (bytes : List ℕ) → IsLawful (taken_of (fates_of columns bytes))
accepted-lawful columns bytes = lawful_front (taken_of (fates_of columns bytes)) (Punct (closing columns) ∷ []) (lawful_behind (closing columns) [] (reads_of columns bytes))

module _ (hub : HubPlan) (n : ℕ) (own : List Entry) (old new : FeedState) (f : IsFeeding hub n own old) (same : IsSameFeed old new) where
  -- what the feed brings may arrive
  pub may-feed : (stream : ℕ) (e : Element) → BringsOf old (Brought stream e) → ComesBehind old new (Brought stream e) → MayFeed hub.nodes n own e
  may-feed stream e brings comes =
      let had = comes.accepted (elements_of n own) f.accepted in record {
        fits = subst (λ (columns : List Column). FitsDomains (domains_of columns) e) f.columns brings.1;
        clear = clear-last (elements_of n own) e (subst IsLawful (sym had.are) (accepted-lawful new.intake.columns had.fed.judged));
        unclosed = f.unclosed;
      }

  -- once it arrived the feed stands behind it
  pub feeding-more : (stream : ℕ) (e : Element) (more : List Entry) → ComesBehind old new (Brought stream e) → more ≡ own ++ seated n (Arrive n e) 0 ∷ [] → IsFeeding hub n more new
  feeding-more stream e more comes adds = record {
    number = same.stream ∙ f.number;
    columns = same.columns ∙ f.columns;
    still = comes.still;
    accepted = subst (HasAccepted new) (sym (ap (elements_of n) adds ∙ elements-more n 0 own e)) (comes.accepted (elements_of n own) f.accepted);
    unclosed = arrived-unclosed n n e own more f.unclosed adds;
  }

-- entries that bring nothing leave the feed where the seat's arrivals are
pub feeding-bare : (hub : HubPlan) (n : ℕ) (own more es : List Entry) (feed : FeedState) → IsFeeding hub n own feed → more ≡ own ++ es → IsBare n es → IsFeeding hub n more feed
feeding-bare hub n own more es feed f adds bare = record {
  number = f.number;
  columns = f.columns;
  still = f.still;
  accepted = subst (HasAccepted feed) (sym (ap (elements_of n) adds ∙ bare-behind n own es bare)) f.accepted;
  unclosed = ap (is_closed n) adds ∙ bare-unclosed n own es f.unclosed bare;
}
