-- What is said of what rows ask for, step by step.
use Rattle.std.proofs.Common.{ℕ, ◌+◌, ◌<◌, Bool, true, false, cond, ◌&&◌, ◌||◌, List, [], ◌∷◌, ◌++◌, ◌≡◌, map, flat_map, take, Some, refl, sym, ap, ap₂, ◌∙◌, subst, inl, inr, eqb, ltb}
use Rattle.std.specs.List.{list_all, slice_get}
use Rattle.std.proofs.lemmas.Bool.{false≢true, and_from, eqb-true, eq-eqb, ltb-true, lt-ltb, false_from_ne_true, or_parts}
use Rattle.std.proofs.lemmas.List.{take_more}
use Rattle.std.proofs.lemmas.Option.{slice_get_within, get_or_from_slice_get}
use Rattle.pj_value.proofs.Members.{In-append_cases, In-filter, In-filter_from, In-map, In-map_from, In-flat_map, In-flat_map_from, all_at, all_from}
use Rattle.pj_events.specs.Patterns.{covers}
use Rattle.pj_events.specs.Join.{In, TupleAt, PunctAt, ClassCol, CertEntry, Demand, agree, covered, demand, need, grown, of_input, older, older_puncts}
use Rattle.pj_cover.specs.declared.ripeness.Verdict.{Verdict}
use Rattle.pj_cover.specs.declared.ripeness.Verdict.TheVariants.{Ripe, Open, Lagging}
use Rattle.pj_cover.specs.Asking.{Known, Ask, AsksBy, IsAsked, IsDone, IsJudged, IsJudgedWith, IsJudgedThrough, IsStepJudged, AreDone, Says, all_covered, below_low, is_covered, says_ripe}

-- ---- what is asked for through rows is asked for

through-asked : (classes : List (List ClassCol)) (rows : List TupleAt) (cert : List CertEntry) (through xs : List TupleAt) (d : Demand)
    → ((y : TupleAt) → In y through → In y rows) → IsAsked classes cert through xs d → In d (need classes rows cert xs)
through-asked classes rows [] through xs d f a = absurd a
through-asked classes rows (e ∷ cert) [] xs d f a = inl a
through-asked classes rows (e ∷ cert) (y ∷ through) xs d f a =
    inr (In-flat_map_from (need classes rows cert) d (y ∷ xs) (grown classes rows e xs)
    (In-filter_from (agree classes) (y ∷ xs) (map (λ x. x ∷ xs) (of_input e.input rows))
    (In-map_from (λ x. x ∷ xs) y (of_input e.input rows) (In-filter_from (λ x. eqb x.input e.input) y rows (f y (inl refl)) (eq-eqb y.input e.input a.0))) a.1)
    (through-asked classes rows cert through (y ∷ xs) d (λ z h. f z (inr h)) a.2))

-- what is covered below the low-water ticket is covered
older-covered : (low : ℕ) (d : Demand) (ps : List PunctAt) → covered ps d ≡ false → covered (older_puncts low ps) d ≡ false
older-covered low d [] f = refl
older-covered low d (p ∷ ps) f = go (ltb p.ticket low) (older-covered low d ps (or_parts own (covered ps d) f).1)
  where
    own : Bool
    own = eqb p.input d.input && covers p.patterns d.instance

    go : (b : Bool) → covered (older_puncts low ps) d ≡ false → covered (cond b (p ∷ older_puncts low ps) (older_puncts low ps)) d ≡ false
    go true ih = ap₂ (λ a b. a || b) (or_parts own (covered ps d) f).0 ih
    go false ih = ih

asks_uncovered : (k : Known) (cert : List CertEntry) (xs : List TupleAt) → Ask (below_low k) cert xs → all_covered k cert xs ≡ false
asks_uncovered k cert xs (rows, asks, by) =
    false_from_ne_true (all_covered k cert xs) (λ t.
    false≢true (sym by.uncovered ∙ all_at (is_covered k) (need k.classes (older k.low k.stored) cert xs) asks t
    (through-asked k.classes (older k.low k.stored) cert rows xs asks
    (λ y h. In-filter_from (λ (z : TupleAt). ltb z.ticket k.low) y k.stored (by.there y h) (lt-ltb y.ticket k.low (by.below y h))) by.asked)))

-- what is said tells whether all is covered
pub judged_ripe : (k : Known) (cert : List CertEntry) (xs : List TupleAt) (v : Verdict) → IsJudged k cert xs v → says_ripe v ≡ all_covered k cert xs
judged_ripe k cert xs Ripe t = sym t
judged_ripe k cert xs Open (rows, asks, by) =
    sym (asks_uncovered k cert xs (rows, asks, record { there = by.there; below = by.below; asked = by.asked; uncovered = older-covered k.low asks k.puncts by.uncovered }))
judged_ripe k cert xs Lagging (rows, asks, by, late) = sym (asks_uncovered k cert xs (rows, asks, by))

-- ---- what is said of more

pub says_more : (holds more : Type 0) (k : Known) (cert : List CertEntry) (xs : List TupleAt) (v : Verdict) → (holds → more) → Says holds k cert xs v → Says more k cert xs v
says_more holds more k cert xs Ripe f s = f s
says_more holds more k cert xs Open f s = s
says_more holds more k cert xs Lagging f s = s

-- what is not ripe
pub says_unripe : (holds more : Type 0) (k : Known) (cert : List CertEntry) (xs : List TupleAt) (v : Verdict) → says_ripe v ≡ false → Says holds k cert xs v → Says more k cert xs v
says_unripe holds more k cert xs Ripe unripe s = absurd (false≢true (sym unripe))
says_unripe holds more k cert xs Open unripe s = s
says_unripe holds more k cert xs Lagging unripe s = s

pub says_yes : (holds : Type 0) (k : Known) (cert : List CertEntry) (xs : List TupleAt) (v : Verdict) → says_ripe v ≡ true → Says holds k cert xs v → holds
says_yes holds k cert xs Ripe t s = s
says_yes holds k cert xs Open t s = absurd (false≢true t)
says_yes holds k cert xs Lagging t s = absurd (false≢true t)

-- ---- the steps of the search

-- what is asked for through one row more
asks-more : (k : Known) (e : CertEntry) (cert : List CertEntry) (xs : List TupleAt) (y : TupleAt) → y.ticket < k.low → y.input ≡ e.input → agree k.classes (y ∷ xs) ≡ true → In y k.stored
    → (rows : List TupleAt) (asks : Demand) → AsksBy k cert (y ∷ xs) rows asks → AsksBy k (e ∷ cert) xs (y ∷ rows) asks
asks-more k e cert xs y lt i a h rows asks by = record {
  there = λ z q. elim q [ inl same ↦ subst (λ (w : TupleAt). In w k.stored) same h | inr m ↦ by.there z m ];
  below = λ z q. elim q [ inl same ↦ subst (λ (w : TupleAt). w.ticket < k.low) same lt | inr m ↦ by.below z m ];
  asked = (i, a, by.asked);
  uncovered = by.uncovered;
}

-- the first entry's instance is not covered
pub judged_here : (k : Known) (e : CertEntry) (cert : List CertEntry) (xs : List TupleAt) (v : Verdict) → IsStepJudged k (demand k.classes e xs) v → says_ripe v ≡ false → IsJudged k (e ∷ cert) xs v
judged_here k e cert xs Ripe s unripe = absurd (false≢true (sym unripe))
judged_here k e cert xs Open s unripe = ([], demand k.classes e xs, record { there = λ y h. absurd h; below = λ y h. absurd h; asked = refl; uncovered = s })
judged_here k e cert xs Lagging s unripe = ([], demand k.classes e xs, record { there = λ y h. absurd h; below = λ y h. absurd h; asked = refl; uncovered = s.0 }, s.1)

-- it is covered
pub step_covered : (k : Known) (d : Demand) (v : Verdict) → IsStepJudged k d v → says_ripe v ≡ true → is_covered k d ≡ true
step_covered k d Ripe s t = s
step_covered k d Open s t = absurd (false≢true t)
step_covered k d Lagging s t = absurd (false≢true t)

-- it is covered, and all rows that may stand for it were gone through
covered-through : (k : Known) (e : CertEntry) (cert : List CertEntry) (xs ys : List TupleAt) → is_covered k (demand k.classes e xs) ≡ true
    → ((y : TupleAt) → In y k.stored → y.input ≡ e.input → In y ys) → AreDone k (e ∷ cert) xs ys → all_covered k (e ∷ cert) xs ≡ true
covered-through k e cert xs ys c all done =
    and_from (is_covered k (demand k.classes e xs)) (list_all (is_covered k) (flat_map (need k.classes (older k.low k.stored) cert) (grown k.classes (older k.low k.stored) e xs))) c
    (all_from (is_covered k) (flat_map (need k.classes (older k.low k.stored) cert) (grown k.classes (older k.low k.stored) e xs)) (λ d h.
    let m = In-flat_map (need k.classes (older k.low k.stored) cert) d (grown k.classes (older k.low k.stored) e xs) h in
    each m.0 m.1 d m.2))
  where
    each : (ps : List TupleAt) → In ps (grown k.classes (older k.low k.stored) e xs) → (d : Demand) → In d (need k.classes (older k.low k.stored) cert ps) → is_covered k d ≡ true
    each ps h d i =
        let grew = In-filter (agree k.classes) ps (map (λ x. x ∷ xs) (of_input e.input (older k.low k.stored))) h in
        let from = In-map (λ x. x ∷ xs) ps (of_input e.input (older k.low k.stored)) grew.0 in
        let its = In-filter (λ (x : TupleAt). eqb x.input e.input) from.0 (older k.low k.stored) from.1 in
        let old = In-filter (λ (z : TupleAt). ltb z.ticket k.low) from.0 k.stored its.0 in
        let same : from.0.input ≡ e.input = eqb-true from.0.input e.input its.1 in
        all_at (is_covered k) (need k.classes (older k.low k.stored) cert ps) d
        (subst (λ (qs : List TupleAt). all_covered k cert qs ≡ true) from.2 (done from.0 (all from.0 old.0 same) (record {
          below = ltb-true from.0.ticket k.low old.1;
          input = same;
          joins = subst (λ (qs : List TupleAt). agree k.classes qs ≡ true) (sym from.2) grew.1;
        }))) i

pub judged_through : (k : Known) (e : CertEntry) (cert : List CertEntry) (xs ys : List TupleAt) (v : Verdict) → is_covered k (demand k.classes e xs) ≡ true
    → ((y : TupleAt) → In y k.stored → y.input ≡ e.input → In y ys) → IsJudgedThrough k (e ∷ cert) xs ys v → IsJudged k (e ∷ cert) xs v
judged_through k e cert xs ys v c all s = says_more (AreDone k (e ∷ cert) xs ys) (all_covered k (e ∷ cert) xs ≡ true) k (e ∷ cert) xs v (covered-through k e cert xs ys c all) s

-- with unripe further entries nothing is asked for
pub done_last : (k : Known) (e : CertEntry) (xs ys : List TupleAt) → AreDone k (e ∷ []) xs ys
done_last k e xs ys y h m = refl

-- one row more was gone through
pub done_more : (k : Known) (cert : List CertEntry) (xs ys : List TupleAt) (i : ℕ) (y : TupleAt) → slice_get ys i ≡ Some y → AreDone k cert xs (take i ys) → IsDone k cert xs y → AreDone k cert xs (take (i + 1) ys)
done_more k cert xs ys i y here done now z h =
    elim (In-append_cases z (take i ys) (y ∷ []) (subst (λ (zs : List TupleAt). In z zs) (taken ys i y here) h)) [
      | inl q ↦ done z q
      | inr q ↦ elim q [ inl same ↦ subst (λ (v : TupleAt). IsDone k cert xs v) same now | inr n ↦ absurd n ]
    ]
  where
    taken : {A : Type 0} (zs : List A) (n : ℕ) (w : A) → slice_get zs n ≡ Some w → take (n + 1) zs ≡ take n zs ++ w ∷ []
    taken zs n w e = take_more zs n w (slice_get_within zs n w e) ∙ ap (λ v. take n zs ++ v ∷ []) (get_or_from_slice_get zs n w w e)

pub done_apart : (k : Known) (e : CertEntry) (cert : List CertEntry) (xs : List TupleAt) (y : TupleAt) → (agree k.classes (y ∷ xs) ≡ true → ⊥) → IsDone k (e ∷ cert) xs y
done_apart k e cert xs y f m = absurd (f m.joins)

-- what was judged one entry further
pub judged_with : (k : Known) (e : CertEntry) (cert : List CertEntry) (xs : List TupleAt) (y : TupleAt) (v : Verdict)
    → y.ticket < k.low → y.input ≡ e.input → agree k.classes (y ∷ xs) ≡ true → In y k.stored → IsJudged k cert (y ∷ xs) v → IsJudgedWith k (e ∷ cert) xs y v
judged_with k e cert xs y Ripe lt i a h s = λ m. s
judged_with k e cert xs y Open lt i a h (rows, asks, by) = (y ∷ rows, asks, asks-more k e cert xs y lt i a h rows asks by)
judged_with k e cert xs y Lagging lt i a h (rows, asks, by, late) = (y ∷ rows, asks, asks-more (below_low k) e cert xs y lt i a h rows asks by, late)
