-- The tuples that are passed over are not ripe, from step to step.
use Rattle.std.proofs.Common.{ℕ, zero, suc, ◌+◌, ◌<◌, ◌≤◌, Bool, true, false, cond, not, ◌&&◌, ◌||◌, List, [], ◌∷◌, ◌++◌, Option, ◌≡◌, ap₂, map, length, get_or, set, refl, sym, ap, ◌∙◌, subst, inl, inr, eqb, ltb, arith}
use Rattle.std.specs.List.{list_all, list_any}
use Rattle.std.proofs.lemmas.Bool.{and_parts, and_right, eq-eqb, eqb-true, false_from_ne_true, false≢true, lt-ltb, ltb-true}
use Rattle.std.proofs.lemmas.List.{length-append}
use Rattle.pj_value.proofs.Members.{In-append_cases, In-append_left, In-filter, In-filter_from, In-flat_map_from, In-map_from, all_at}
use Rattle.pj_state.specs.declared.shared.Stored.{Stored}
use Rattle.pj_state.specs.States.{StateView}
use Rattle.pj_value.specs.declared.values.Value.{Value}
use Rattle.pj_puncts.specs.Stores.{Store, covered_by_any}
use Rattle.pj_cover.proofs.Below.{covered_by_own_any}
use Rattle.pj_cover.specs.Asking.{IsAsked, known_of, puncts_from, tuples_of, AsksStill}
use Rattle.pj_rows.proofs.Agreeing.{need_alone}
use Rattle.pj_events.specs.Patterns.{covers}
use Rattle.pj_events.specs.Join.{CertEntry, ClassCol, Demand, In, JoinData, PunctAt, TupleAt, agree, cert_of, covered, grown, has, inputs, need, of_input, older, older_puncts}
use Rattle.pj_events.specs.KeptState.{KeptState, kept_low, kept_ripe, least, swept}
use Rattle.pj_join.specs.declared.place.Place.{Place}
use Rattle.pj_join.specs.Insides.{IsJoin, inside, made_with, seen, tickets}
use Rattle.pj_join.specs.Joins.{JoinView}
use Rattle.pj_recheck.specs.Judging.{JudgeView, ripe_at}
use Rattle.pj_join.specs.Sides.{log_of, puncts_of}
use Rattle.pj_rows.specs.Tuples.{row_pairs, state_at, tuple_in}
use Rattle.pj_join.specs.Sweeping.{swept_off}
use Rattle.pj_recheck.specs.Watching.{AreFewer, AreLeftBeside, AreLookedAt, AreRoused, AreStored, PunctView, NoneIsRipe, come_at, is_passed, known, watches_at}
use Rattle.pj_join.specs.Watched.{AreOpenBut, AreWatched}
use Rattle.pj_recheck.specs.declared.marks.DueRechecks.{DueRechecks}
use Rattle.pj_recheck.proofs.Woken.{at-place, at-set, by-place, set-count}
use Rattle.pj_waiting.proofs.Holding.{filter-none}
use Rattle.pj_join.proofs.Judged.{covered-all-of, judge_at, ripe-is, same-puncts, same-rows}
use Rattle.pj_join.proofs.Kept.{all-punct_stores, shapes, side-is}

module _ (spec : JoinData) where
  pub watched_start : (ws : List DueRechecks) → length ws ≡ inputs spec → ((input : ℕ) → (watches_at ws input).from ≡ 0) → AreWatched spec 0 0 [] [] ws
  watched_start ws count none = record { count = count; reached = λ input. (let e = none input in omega (arith, e)); asks = λ x h. absurd h }

  -- more is stored, and the low-water ticket is not lower
  still-more : (stored stored' : List TupleAt) (puncts : List PunctAt) (low low' : ℕ) (cert : List CertEntry) (x : TupleAt) → ((y : TupleAt) → In y stored → In y stored') → low ≤ low'
      → AsksStill (known spec.shape.classes stored puncts low) cert x → AsksStill (known spec.shape.classes stored' puncts low') cert x
  still-more stored stored' puncts low low' cert x more le (rows, asks, by) =
      (rows, asks, record { there = λ y h. more y (by.there y h); below = λ y h. (let b = by.below y h in omega (arith, b, le)); asked = by.asked; uncovered = by.uncovered })

  -- a tuple comes
  pub watched_tuple : (next low low' : ℕ) (stored : List TupleAt) (puncts : List PunctAt) (ws : List DueRechecks) (x : TupleAt) → x.ticket ≡ next → low ≤ low' → AreWatched spec next low stored puncts ws
      → AreWatched spec (next + 1) low' (stored ++ x ∷ []) puncts ws
  watched_tuple next low low' stored puncts ws x is le w = record {
    count = w.count;
    reached = λ input. (let l = w.reached input in omega (arith, l));
    asks = λ y h t. elim (In-append_cases y stored (x ∷ []) h) [
      | inl k ↦ still-more stored (stored ++ x ∷ []) puncts low low' (cert_of spec y.input) y (λ z m. In-append_left z stored (x ∷ []) m) le (w.asks y k t)
      | inr k ↦ elim k [ inl e ↦ absurd (late y e t) | inr n ↦ absurd n ]
    ];
  }
    where
      late : (y : TupleAt) → x ≡ y → is_passed (watches_at ws y.input) y.ticket ≡ true → ⊥
      late y e t =
          let lt : y.ticket < (watches_at ws y.input).from = ltb-true y.ticket (watches_at ws y.input).from (and_parts (ltb y.ticket (watches_at ws y.input).from) (not (has (watches_at ws y.input).marked y.ticket)) t).0 in
          let l : (watches_at ws y.input).from ≤ next = w.reached y.input in
          let q : x.ticket ≡ y.ticket = ap (λ (z : TupleAt). z.ticket) e in omega (arith, lt, l, q, is)

  -- the low-water ticket rises
  pub watched_rises : (next low low' : ℕ) (stored : List TupleAt) (puncts : List PunctAt) (ws : List DueRechecks) → low ≤ low' → AreWatched spec next low stored puncts ws → AreWatched spec next low' stored puncts ws
  watched_rises next low low' stored puncts ws le w = record { count = w.count; reached = w.reached; asks = λ x h t. still-more stored stored puncts low low' (cert_of spec x.input) x (λ z m. m) le (w.asks x h t) }

  -- fewer are passed over
  pub watched_fewer : (next low : ℕ) (stored : List TupleAt) (puncts : List PunctAt) (ws ws' : List DueRechecks) → AreFewer ws ws' → AreWatched spec next low stored puncts ws → AreWatched spec next low stored puncts ws'
  watched_fewer next low stored puncts ws ws' f w = record {
    count = f.count ∙ w.count;
    reached = λ input. (let l : (watches_at ws input).from ≤ next = w.reached input in let m : (watches_at ws' input).from ≤ (watches_at ws input).from = (f.each input).from in omega (arith, l, m));
    asks = λ x h t. w.asks x h ((f.each x.input).passed x.ticket t);
  }

  any-append : {A : Type 0} (p : A → Bool) (xs ys : List A) → list_any p xs ≡ false → list_any p ys ≡ false → list_any p (xs ++ ys) ≡ false
  any-append p [] ys e f = f
  any-append p (x ∷ xs) ys e f = go (p x) e (any-append p xs ys)
    where
      go : (b : Bool) → (b || list_any p xs) ≡ false → (list_any p xs ≡ false → list_any p ys ≡ false → list_any p (xs ++ ys) ≡ false) → (b || list_any p (xs ++ ys)) ≡ false
      go true q ih = absurd (false≢true (sym q))
      go false q ih = ih q f

  -- a punctuation that covers nothing of what is asked for
  still-both : (stored : List TupleAt) (row_states : List StateView) (low : ℕ) (cert : List CertEntry) (puncts : List PunctAt) (p : PunctAt) (x : TupleAt)
      → ((y : TupleAt) → In y stored → (s : Stored) × In s (state_at row_states y.input).rows × (tuple_in y.input s ≡ y))
      → ((rows : List TupleAt) (asks : Demand) → AreStored row_states rows → IsAsked spec.shape.classes cert rows (x ∷ []) asks → covered puncts asks ≡ false → covered (p ∷ []) asks ≡ false)
      → AsksStill (known spec.shape.classes stored puncts low) cert x → AsksStill (known spec.shape.classes stored (puncts ++ p ∷ []) low) cert x
  still-both stored row_states low cert puncts p x row left (rows, asks, by) = (
    rows,
    asks,
    record {
      there = by.there;
      below = by.below;
      asked = by.asked;
      uncovered = any-append (λ q. eqb q.input asks.input && covers q.patterns asks.instance) puncts (p ∷ []) by.uncovered (left rows asks (λ y h. row y (by.there y h)) by.asked by.uncovered);
    },
  )

  module _ (limit next done : ℕ) (row_states : List StateView) (punct_stores : List Store) (pending : List Place) (taken : List ℕ) (j : IsJoin spec limit (inside next done row_states punct_stores pending taken)) where
    abbrev log : List TupleAt
    log = log_of row_states

    pub in-row : (x : TupleAt) → In x log → (s : Stored) × In s (state_at row_states x.input).rows × (tuple_in x.input s ≡ x)
    in-row x h = found (state_at row_states x.input).rows (subst (λ (xs : List TupleAt). In x xs) (sym (side-is spec limit next done row_states punct_stores pending taken j x.input (let l = j.ordered.placed x h in omega (arith, l, shapes spec limit next done row_states punct_stores pending taken j)))) (In-filter_from (λ (y : TupleAt). eqb y.input x.input) x log h (eq-eqb x.input x.input refl)))
      where
        found : (rows : List Stored) → In x (map (tuple_in x.input) rows) → (s : Stored) × In s rows × (tuple_in x.input s ≡ x)
        found [] k = absurd k
        found (s ∷ rows) (inl e) = (s, inl refl, e)
        found (s ∷ rows) (inr k) = let r = found rows k in (r.0, inr r.1, r.2)

    -- a punctuation comes
    pub watched_punct : (ws ws' : List DueRechecks) (low low' : ℕ) (come : PunctView) (ticket : ℕ) → AreFewer ws ws' → AreLeftBeside spec row_states (puncts_of punct_stores) come ws' (length ws) → low ≤ low' → AreWatched spec next low log (puncts_of punct_stores) ws
        → AreWatched spec (next + 1) low' log (puncts_of punct_stores ++ come_at come ticket ∷ []) ws'
    watched_punct ws ws' low low' come ticket f left le w = record {
      count = f.count ∙ w.count;
      reached = λ input. (let l : (watches_at ws input).from ≤ next = w.reached input in let m : (watches_at ws' input).from ≤ (watches_at ws input).from = (f.each input).from in omega (arith, l, m));
      asks = λ x h t.
          still-more log log (puncts_of punct_stores ++ come_at come ticket ∷ []) low low' (cert_of spec x.input) x (λ z m. m) le
          (still-both log row_states low (cert_of spec x.input) (puncts_of punct_stores) (come_at come ticket) x in-row (new x h t) (w.asks x h ((f.each x.input).passed x.ticket t)));
    }
      where
        within : (x : TupleAt) → In x log → x.input < length ws
        within x h = let l = j.ordered.placed x h in let c : length ws ≡ inputs spec = w.count in omega (arith, l, c, shapes spec limit next done row_states punct_stores pending taken j)

        new : (x : TupleAt) → In x log → is_passed (watches_at ws' x.input) x.ticket ≡ true → (rows : List TupleAt) (asks : Demand) → AreStored row_states rows → IsAsked spec.shape.classes (cert_of spec x.input) rows (x ∷ []) asks
            → covered (puncts_of punct_stores) asks ≡ false → covered (come_at come ticket ∷ []) asks ≡ false
        new x h t rows asks stored asked none =
            let s = in-row x h in
            left x.input (within x h) ticket s.0 s.1 (ap (λ (y : TupleAt). is_passed (watches_at ws' x.input) y.ticket) s.2 ∙ t) rows asks stored
            (subst (λ (y : TupleAt). IsAsked spec.shape.classes (cert_of spec x.input) rows (y ∷ []) asks) (sym s.2) asked) none

    covered-all : (d : Demand) → covered (puncts_from 0 punct_stores) d ≡ covered (puncts_of punct_stores) d
    covered-all d =
        covered-all-of d (puncts_from 0 punct_stores)
        ∙ ap (list_any (λ p. covers p.patterns d.instance)) (same-puncts spec limit next done row_states punct_stores pending taken j d.input)
        ∙ sym (covered-all-of d (puncts_of punct_stores))

    -- what a punctuation of an input's store covers is covered
    pub covered_there : (input : ℕ) (store : Store) → input < inputs spec → store ≡ get_or punct_stores input store → (instance : List (Option Value)) → covered_by_any store.kept instance ≡ true
        → covered (puncts_of punct_stores) (record { input = input; instance = instance }) ≡ true
    covered_there input store lt is instance t =
        sym (covered-all (record { input = input; instance = instance }))
        ∙ (covered_by_own_any punct_stores input instance store (omega (arith, lt, all-punct_stores spec limit next done row_states punct_stores pending taken j)) ∙ (ap (λ (s : Store). covered_by_any s.kept instance) (sym is) ∙ t))

    -- ---- what is passed over is not ripe

    covered-fewer : (n : ℕ) (ps : List PunctAt) (d : Demand) → covered ps d ≡ false → covered (older_puncts n ps) d ≡ false
    covered-fewer n [] d e = e
    covered-fewer n (p ∷ ps) d e = go (eqb p.input d.input && covers p.patterns d.instance) refl e (ltb p.ticket n) (covered-fewer n ps d)
      where
        go : (b : Bool) → (eqb p.input d.input && covers p.patterns d.instance) ≡ b → (b || covered ps d) ≡ false → (a : Bool) → (covered ps d ≡ false → covered (older_puncts n ps) d ≡ false)
            → covered (cond a (p ∷ older_puncts n ps) (older_puncts n ps)) d ≡ false
        go true q f a ih = absurd (false≢true (sym f))
        go false q f true ih = ap (λ b. b || covered (older_puncts n ps) d) q ∙ ih f
        go false q f false ih = ih f

    asked-needed : (classes : List (List ClassCol)) (cert : List CertEntry) (stored rows xs : List TupleAt) (d : Demand) → ((y : TupleAt) → In y rows → In y stored) → IsAsked classes cert rows xs d → In d (need classes stored cert xs)
    asked-needed classes [] stored rows xs d there asked = absurd asked
    asked-needed classes (e ∷ cert) stored [] xs d there asked = inl asked
    asked-needed classes (e ∷ cert) stored (y ∷ rows) xs d there (of, joins, on) =
        inr (In-flat_map_from (need classes stored cert) d (y ∷ xs) (grown classes stored e xs) way (asked-needed classes cert stored rows (y ∷ xs) d (λ z h. there z (inr h)) on))
      where
        way : In (y ∷ xs) (grown classes stored e xs)
        way = In-filter_from (agree classes) (y ∷ xs) (map (λ z. z ∷ xs) (of_input e.input stored))
            (In-map_from (λ z. z ∷ xs) y (of_input e.input stored) (In-filter_from (λ (z : TupleAt). eqb z.input e.input) y stored (there y (inl refl)) (eq-eqb y.input e.input of))) joins

    still-not_ripe : (classes : List (List ClassCol)) (cert : List CertEntry) (stored : List TupleAt) (puncts : List PunctAt) (n : ℕ) (x : TupleAt) → AsksStill (known classes stored puncts n) cert x
        → list_all (covered (older_puncts n puncts)) (need classes (older n stored) cert (x ∷ [])) ≡ false
    still-not_ripe classes cert stored puncts n x (rows, asks, by) = false_from_ne_true (list_all (covered (older_puncts n puncts)) (need classes (older n stored) cert (x ∷ []))) no
      where
        there : In asks (need classes (older n stored) cert (x ∷ []))
        there = asked-needed classes cert (older n stored) rows (x ∷ []) asks (λ y h. In-filter_from (λ (z : TupleAt). ltb z.ticket n) y stored (by.there y h) (lt-ltb y.ticket n (by.below y h))) by.asked

        no : list_all (covered (older_puncts n puncts)) (need classes (older n stored) cert (x ∷ [])) ≡ true → ⊥
        no t = false≢true (sym (covered-fewer n puncts asks by.uncovered) ∙ all_at (covered (older_puncts n puncts)) (need classes (older n stored) cert (x ∷ [])) asks t there)

    module _ (k : KeptState) (stored-are : k.stored ≡ log_of row_states) (puncts-are : k.puncts ≡ puncts_of punct_stores) (low : ℕ) (is : low ≡ kept_low k) (input : ℕ) (lt : input < inputs spec) where
      still-kept : (x : TupleAt) (cert : List CertEntry) → AsksStill (known spec.shape.classes (log_of row_states) (puncts_of punct_stores) low) cert x → list_all (covered (older_puncts (kept_low k) k.puncts)) (need spec.shape.classes (older (kept_low k) k.stored) cert (x ∷ [])) ≡ false
      still-kept x cert a =
          still-not_ripe spec.shape.classes cert k.stored k.puncts (kept_low k) x
          (subst (λ (n : ℕ). AsksStill (known spec.shape.classes k.stored k.puncts n) cert x) is
          (subst (λ (xs : List TupleAt). AsksStill (known spec.shape.classes xs k.puncts low) cert x) (sym stored-are)
          (subst (λ (ps : List PunctAt). AsksStill (known spec.shape.classes (log_of row_states) ps low) cert x) (sym puncts-are) a)))

      not_ripe : (x : TupleAt) → AsksStill (known spec.shape.classes (log_of row_states) (puncts_of punct_stores) low) (cert_of spec x.input) x → kept_ripe spec k x ≡ false
      not_ripe x a = and_right (ltb x.ticket (kept_low k)) _
          (ap (list_all (covered (older_puncts (kept_low k) k.puncts))) (sym (need_alone spec.shape (older (kept_low k) k.stored) (cert_of spec x.input) x j.ordered.sound)) ∙ still-kept x (cert_of spec x.input) a)

      in-log : (s : Stored) → In s (state_at row_states input).rows → In (tuple_in input s) log
      in-log s h = (In-filter (λ (y : TupleAt). eqb y.input input) (tuple_in input s) log (subst (λ (xs : List TupleAt). In (tuple_in input s) xs) (side-is spec limit next done row_states punct_stores pending taken j input lt) (In-map_from (tuple_in input) s (state_at row_states input).rows h))).0

      pub none_ripe : (ws : List DueRechecks) → AreWatched spec next low log (puncts_of punct_stores) ws → NoneIsRipe (judge_at spec input row_states punct_stores low) (watches_at ws input)
      none_ripe ws w s h t = ripe-is spec limit next done row_states punct_stores pending taken j k stored-are puncts-are low is input s ∙ not_ripe (tuple_in input s) (w.asks (tuple_in input s) (in-log s h) t)

      -- where no row is marked, and none is young, none goes
      pub none_off : (node : ℕ) (waiting : List PunctAt) (ws : List DueRechecks) → k ≡ (seen (made_with node spec limit) next done (log_of row_states) (puncts_of punct_stores) waiting taken).kept → AreWatched spec next low log (puncts_of punct_stores) ws
          → (watches_at ws input).marked ≡ [] → ((s : Stored) → In s (state_at row_states input).rows → s.ticket < (watches_at ws input).from) → swept_off (seen (made_with node spec limit) next done (log_of row_states) (puncts_of punct_stores) waiting taken) input ≡ []
      none_off node waiting ws same w unmarked old = filter-none (λ x. eqb x.input input && kept_ripe spec (seen (made_with node spec limit) next done (log_of row_states) (puncts_of punct_stores) waiting taken).kept x) log each
        where
          each : (x : TupleAt) → In x log → (eqb x.input input && kept_ripe spec (seen (made_with node spec limit) next done (log_of row_states) (puncts_of punct_stores) waiting taken).kept x) ≡ false
          each x h = ap (λ (q : KeptState). eqb x.input input && kept_ripe spec q x) (sym same) ∙ go (eqb x.input input) refl
            where
              go : (b : Bool) → eqb x.input input ≡ b → (b && kept_ripe spec k x) ≡ false
              go false e = refl
              go true e = not_ripe x (w.asks x h passed)
                where
                  of : x.input ≡ input
                  of = eqb-true x.input input e

                  s : (s : Stored) × In s (state_at row_states x.input).rows × (tuple_in x.input s ≡ x)
                  s = in-row x h

                  lower : x.ticket < (watches_at ws input).from
                  lower = subst (λ n. n < (watches_at ws input).from) (ap (λ (y : TupleAt). y.ticket) s.2) (old s.0 (subst (λ i. In s.0 (state_at row_states i).rows) of s.1))

                  passed : is_passed (watches_at ws x.input) x.ticket ≡ true
                  passed = ap (λ i. is_passed (watches_at ws i) x.ticket) of ∙ ap₂ (λ a (ms : List ℕ). a && not (has ms x.ticket)) (lt-ltb x.ticket (watches_at ws input).from lower) unmarked

      in-stored : (y : TupleAt) → In y (tuples_of (row_pairs row_states) (length spec.shape.inputs)) → In y log
      in-stored y h =
          (In-filter (λ (z : TupleAt). eqb z.input y.input) y log
          (subst (λ (xs : List TupleAt). In y xs) (same-rows spec limit next done row_states punct_stores pending taken j y.input) (In-filter_from (λ (z : TupleAt). eqb z.input y.input) y (tuples_of (row_pairs row_states) (length spec.shape.inputs)) h (eq-eqb y.input y.input refl)))).0

      still-all : (cert : List CertEntry) (x : TupleAt) → AsksStill (known_of spec.shape (row_pairs row_states) punct_stores low) cert x → AsksStill (known spec.shape.classes log (puncts_of punct_stores) low) cert x
      still-all cert x (rows, asks, by) = (rows, asks, record { there = λ y h. in-stored y (by.there y h); below = by.below; asked = by.asked; uncovered = sym (covered-all asks) ∙ by.uncovered })

      -- what was judged and is neither ripe nor marked asks for something that is not covered
      pub open_but : (node : ℕ) (waiting : List PunctAt) (ws : List DueRechecks) (marked : List ℕ) → k ≡ (seen (made_with node spec limit) next done (log_of row_states) (puncts_of punct_stores) waiting taken).kept → AreWatched spec next low log (puncts_of punct_stores) ws
          → AreLookedAt (judge_at spec input row_states punct_stores low) (watches_at ws input) marked
          → AreOpenBut (seen (made_with node spec limit) next done (log_of row_states) (puncts_of punct_stores) waiting taken) input marked
      open_but node waiting ws marked same w looked x h of below ripe none = by-pass (is_passed (watches_at ws input) x.ticket) refl
        where
          s : (s : Stored) × In s (state_at row_states x.input).rows × (tuple_in x.input s ≡ x)
          s = in-row x h

          here : In s.0 (state_at row_states input).rows
          here = subst (λ i. In s.0 (state_at row_states i).rows) of s.1

          is-x : tuple_in input s.0 ≡ x
          is-x = ap (λ i. tuple_in i s.0) (sym of) ∙ s.2

          ticket : s.0.ticket ≡ x.ticket
          ticket = ap (λ (y : TupleAt). y.ticket) is-x

          lower : s.0.ticket < low
          lower = let b : x.ticket < kept_low k = subst (λ (q : KeptState). x.ticket < kept_low q) (sym same) below in omega (arith, b, ticket, is)

          unripe : ripe_at (judge_at spec input row_states punct_stores low) s.0 ≡ false
          unripe =
              ripe-is spec limit next done row_states punct_stores pending taken j k stored-are puncts-are low is input s.0
              ∙ ap (kept_ripe spec k) is-x ∙ ap (λ (q : KeptState). kept_ripe spec q x) same ∙ ripe

          lows : low ≡ kept_low (seen (made_with node spec limit) next done (log_of row_states) (puncts_of punct_stores) waiting taken).kept
          lows = is ∙ ap kept_low same

          at-low : AsksStill (known spec.shape.classes log (puncts_of punct_stores) low) (cert_of spec input) x → AsksStill (known spec.shape.classes log (puncts_of punct_stores) (kept_low (seen (made_with node spec limit) next done (log_of row_states) (puncts_of punct_stores) waiting taken).kept)) (cert_of spec input) x
          at-low a = subst (λ n. AsksStill (known spec.shape.classes log (puncts_of punct_stores) n) (cert_of spec input) x) lows a

          by-pass : (b : Bool) → is_passed (watches_at ws input) x.ticket ≡ b → AsksStill (known spec.shape.classes log (puncts_of punct_stores) (kept_low (seen (made_with node spec limit) next done (log_of row_states) (puncts_of punct_stores) waiting taken).kept)) (cert_of spec input) x
          by-pass true e = at-low (subst (λ i. AsksStill (known spec.shape.classes log (puncts_of punct_stores) low) (cert_of spec i) x) of (w.asks x h (ap (λ i. is_passed (watches_at ws i) x.ticket) of ∙ e)))
          by-pass false e =
              let l = looked s.0 here (ap (is_passed (watches_at ws input)) ticket ∙ e) lower unripe (ap (has marked) ticket ∙ none) in
              at-low (subst (λ (y : TupleAt). AsksStill (known spec.shape.classes log (puncts_of punct_stores) low) (cert_of spec input) y) is-x (still-all (cert_of spec input) (tuple_in input s.0) l))

-- ---- a sweep

least-within : (next : ℕ) (ts : List ℕ) → least next ts ≤ next
least-within next [] = omega arith
least-within next (t ∷ ts) = omega (arith, least-within next ts)

-- what is left of a sweep and is passed over asks for something, over all that was stored
module _ (join : JoinView) (input low : ℕ) (marked : List ℕ) (ws : List DueRechecks) (is : low ≡ kept_low join.kept) (there : input < inputs join.spec)
    (w : AreWatched join.spec join.kept.next (kept_low join.kept) join.kept.stored join.kept.puncts ws) (open-but : AreOpenBut join input marked) where
  abbrev v : DueRechecks
  v = record { from = low; marked = marked }

  lt : input < length ws
  lt = let c : length ws ≡ inputs join.spec = w.count in omega (arith, there, c)

  not-false : (b : Bool) → not b ≡ true → b ≡ false
  not-false true e = sym e
  not-false false e = refl

  by-input : (x : TupleAt) → In x join.kept.stored → not (eqb x.input input && kept_ripe join.spec join.kept x) ≡ true → (b : Bool) → eqb x.input input ≡ b → is_passed (watches_at (set ws input v) x.input) x.ticket ≡ true
      → AsksStill (known join.spec.shape.classes join.kept.stored join.kept.puncts (kept_low join.kept)) (cert_of join.spec x.input) x
  by-input x h n true e t =
      let of : x.input ≡ input = eqb-true x.input input e in
      let p : is_passed (watches_at (set ws input v) input) x.ticket ≡ true = ap (λ i. is_passed (watches_at (set ws input v) i) x.ticket) (sym of) ∙ t in
      let q : is_passed v x.ticket ≡ true = ap (λ (u : DueRechecks). is_passed u x.ticket) (sym (at-place ws input v lt)) ∙ p in
      let both = and_parts (ltb x.ticket low) (not (has marked x.ticket)) q in
      let below : x.ticket < low = ltb-true x.ticket low both.0 in
      subst (λ i. AsksStill (known join.spec.shape.classes join.kept.stored join.kept.puncts (kept_low join.kept)) (cert_of join.spec i) x) (sym of)
      (open-but x h of (omega (arith, below, is)) (not-false (kept_ripe join.spec join.kept x) (ap (λ b. not (b && kept_ripe join.spec join.kept x)) (sym e) ∙ n)) (not-false (has marked x.ticket) both.1))
  by-input x h n false e t = w.asks x h (ap (λ (u : DueRechecks). is_passed u x.ticket) (sym (at-set ws input x.input v lt (λ q. false≢true (sym e ∙ eq-eqb x.input input q)))) ∙ t)

  -- one that goes leaves none that asks through it
  module _ (row_states : List StateView) (gone : List ℕ) (new : List DueRechecks) (row : (y : TupleAt) → In y join.kept.stored → (s : Stored) × In s (state_at row_states y.input).rows × (tuple_in y.input s ≡ y))
      (placed : (y : TupleAt) → In y join.kept.stored → y.input < inputs join.spec) (are : gone ≡ tickets (swept_off join input)) (fewer : AreFewer (set ws input v) new)
      (roused : AreRoused join.spec row_states input gone new (length (set ws input v))) where
    within : (x : TupleAt) → In x join.kept.stored → x.input < length (set ws input v)
    within x h = let p = placed x h in let c : length ws ≡ inputs join.spec = w.count in let d = set-count ws input v in omega (arith, p, c, d)

    path-stays : (x : TupleAt) → In x join.kept.stored → is_passed (watches_at new x.input) x.ticket ≡ true → (rows : List TupleAt) (asks : Demand) → ((y : TupleAt) → In y rows → In y join.kept.stored)
        → IsAsked join.spec.shape.classes (cert_of join.spec x.input) rows (x ∷ []) asks → (y : TupleAt) → In y rows → In y (swept join.spec join.kept input)
    path-stays x h t rows asks there asked y in-y = go (eqb y.input input && kept_ripe join.spec join.kept y) refl
      where
        go : (b : Bool) → (eqb y.input input && kept_ripe join.spec join.kept y) ≡ b → In y (swept join.spec join.kept input)
        go false e = In-filter_from (λ (z : TupleAt). not (eqb z.input input && kept_ripe join.spec join.kept z)) y join.kept.stored (there y in-y) (ap not e)
        go true e =
            let of : y.input ≡ input = eqb-true y.input input (and_parts (eqb y.input input) (kept_ripe join.spec join.kept y) e).0 in
            let s = row x h in
            let off : In y (swept_off join input) = In-filter_from (λ (z : TupleAt). eqb z.input input && kept_ripe join.spec join.kept z) y join.kept.stored (there y in-y) e in
            let listed : In y.ticket gone = subst (λ (ns : List ℕ). In y.ticket ns) (sym are) (In-map_from (λ (z : TupleAt). z.ticket) y (swept_off join input) off) in
            absurd (roused x.input (within x h) s.0 s.1 (ap (λ (z : TupleAt). is_passed (watches_at new x.input) z.ticket) s.2 ∙ t) rows asks (λ z k. row z (there z k))
            (subst (λ (z : TupleAt). IsAsked join.spec.shape.classes (cert_of join.spec x.input) rows (z ∷ []) asks) (sym s.2) asked) y in-y of listed)

    still-stays : (x : TupleAt) → In x join.kept.stored → is_passed (watches_at new x.input) x.ticket ≡ true
        → AsksStill (known join.spec.shape.classes join.kept.stored join.kept.puncts (kept_low join.kept)) (cert_of join.spec x.input) x
        → AsksStill (known join.spec.shape.classes (swept join.spec join.kept input) join.kept.puncts (kept_low join.kept)) (cert_of join.spec x.input) x
    still-stays x h t (rows, asks, by) = (rows, asks, record { there = path-stays x h t rows asks by.there by.asked; below = by.below; asked = by.asked; uncovered = by.uncovered })

    pub watched_swept : AreWatched join.spec join.kept.next (kept_low join.kept) (swept join.spec join.kept input) join.kept.puncts new
    watched_swept = record {
      count = fewer.count ∙ set-count ws input v ∙ w.count;
      reached = λ k.
          let m : (watches_at new k).from ≤ (watches_at (set ws input v) k).from = (fewer.each k).from in
          let n : (watches_at (set ws input v) k).from ≤ join.kept.next =
          by-place (λ i. (watches_at (set ws input v) i).from ≤ join.kept.next) input k
          (subst (λ (u : DueRechecks). u.from ≤ join.kept.next) (sym (at-place ws input v lt)) (omega (arith, is, least-within join.kept.next join.kept.opened)))
          (λ ne. subst (λ (u : DueRechecks). u.from ≤ join.kept.next) (sym (at-set ws input k v lt ne)) (w.reached k)) in omega (arith, m, n);
      asks = λ x h t.
          let in-stored = In-filter (λ (z : TupleAt). not (eqb z.input input && kept_ripe join.spec join.kept z)) x join.kept.stored h in
          still-stays x in-stored.0 t (by-input x in-stored.0 in-stored.1 (eqb x.input input) refl ((fewer.each x.input).passed x.ticket t));
    }

-- ---- the same, of what a call is lent

pub watch_is : (ws : List DueRechecks) (i : ℕ) (w : DueRechecks) → i < length ws → w ≡ get_or ws i w → w ≡ watches_at ws i
watch_is [] i w lt e = absurd (omega (arith, lt))
watch_is (v ∷ ws) zero w lt e = e
watch_is (v ∷ ws) (suc i) w lt e = watch_is ws i w (omega (arith, lt)) e

pub same_none : (j k : JudgeView) (w w' : DueRechecks) → j ≡ k → w ≡ w' → NoneIsRipe k w' → NoneIsRipe j w
same_none j k w w' a b n = subst (λ (l : JudgeView). NoneIsRipe l w) (sym a) (subst (λ (v : DueRechecks). NoneIsRipe k v) (sym b) n)

pub same_looked : (marked : List ℕ) (j k : JudgeView) (w w' : DueRechecks) → j ≡ k → w ≡ w' → AreLookedAt j w marked → AreLookedAt k w' marked
same_looked marked j k w w' a b n = subst (λ (v : DueRechecks). AreLookedAt k v marked) b (subst (λ (l : JudgeView). AreLookedAt l w marked) a n)

pub watches_more : (ws ws' : List DueRechecks) (n : ℕ) → length ws ≡ n → ((input : ℕ) → (watches_at ws input).from ≡ 0) → (v : DueRechecks) → v.from ≡ 0 → ws' ≡ ws ++ v ∷ [] → (length ws' ≡ n + 1) × ((input : ℕ) → (watches_at ws' input).from ≡ 0)
watches_more ws ws' n count none v e is = (ap length is ∙ length-append ws (v ∷ []) ∙ ap (λ k. k + 1) count, λ input. ap (λ us. (watches_at us input).from) is ∙ go ws input none)
  where
    go : (us : List DueRechecks) (input : ℕ) → ((k : ℕ) → (watches_at us k).from ≡ 0) → (watches_at (us ++ v ∷ []) input).from ≡ 0
    go [] zero f = e
    go [] (suc input) f = refl
    go (u ∷ us) zero f = f 0
    go (u ∷ us) (suc input) f = go us input (λ k. f (suc k))
