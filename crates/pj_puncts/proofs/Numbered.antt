-- Constants in columns, and the numbers that are told for them.
use Rattle.std.proofs.Common.{◌≡◌, ℕ, zero, suc, ◌+◌, ◌<◌, ◌≤◌, Bool, true, false, cond, ◌&&◌, List, [], ◌∷◌, ◌++◌, Option, None, Some, length, drop, filter, map, get_or, eqb, refl, ap, ap₂, sym, ◌∙◌, subst, arith}
use Rattle.std.proofs.lemmas.Bool.{eqb-true, eq-eqb, false_from_ne_true, true≢false}
use Rattle.pj_value.specs.declared.values.Value.{Value}
use Rattle.pj_value.specs.Values.{value_eq}
use Rattle.pj_value.specs.Options.{is_value}
use Rattle.pj_pattern.specs.declared.pattern.Form.TheVariants.{Wild, Empty, Constant as Fixed, Range, Members}
use Rattle.pj_events.specs.Patterns.{Pattern, is_wild}
use Rattle.pj_pattern.specs.Patterns.{constant_in}
use Rattle.pj_puncts.specs.Numbers.{HasNone, are_wild, first_filled, has_only, is_alone, number_of, numbers_with, with_last}
use Rattle.pj_puncts.specs.declared.store.NumberedPunct.{NumberedPunct}

-- ---- the only constant of patterns

-- the value in the column is this one
abbrev pub is_at : ℕ → Value → ℕ → Option Value → Bool
is_at d w c None = false
is_at d w c (Some v) = eqb c d && value_eq v w

eqb-apart : (a b : ℕ) → (a ≡ b → ⊥) → eqb a b ≡ false
eqb-apart a b ne = false_from_ne_true (eqb a b) (λ q. ne (eqb-true a b q))

eqb-suc : (c d : ℕ) → eqb c d ≡ eqb (suc c) (suc d)
eqb-suc c d = go (eqb c d) refl
  where
    go : (b : Bool) → eqb c d ≡ b → b ≡ eqb (suc c) (suc d)
    go true e = sym (eq-eqb (suc c) (suc d) (ap suc (eqb-true c d e)))
    go false e = sym (eqb-apart (suc c) (suc d) (λ q. true≢false (sym (eq-eqb c d (omega (arith, q))) ∙ e)))

later : (w : Value) (c : ℕ) (o : Option Value) (b : Bool) → false ≡ (is_at zero w (suc c) o && b)
later w c None b = refl
later w c (Some v) b = ap (λ a. (a && value_eq v w) && b) (sym (eqb-apart (suc c) zero (λ q. omega (arith, q))))

earlier : (d : ℕ) (w : Value) (o : Option Value) (b : Bool) → false ≡ (is_at (suc d) w zero o && b)
earlier d w None b = refl
earlier d w (Some v) b = ap (λ a. (a && value_eq v w) && b) (sym (eqb-apart zero (suc d) (λ q. omega (arith, q))))

shifts : (d : ℕ) (w : Value) (c : ℕ) (o : Option Value) (b : Bool) → (is_at d w c o && b) ≡ (is_at (suc d) w (suc c) o && b)
shifts d w c None b = refl
shifts d w c (Some v) b = ap (λ a. (a && value_eq v w) && b) (eqb-suc c d)

here : (w : Value) (o : Option Value) (b : Bool) → (is_value w o && b) ≡ (is_at zero w zero o && b)
here w None b = refl
here w (Some v) b = refl

filled-here : (ps : List Pattern) (p d0 : Pattern) (d : ℕ) (w : Value) → is_wild p ≡ false → has_only d w (p ∷ ps) ≡ (is_at d w 0 (constant_in p) && are_wild ps)
filled-here ps p d0 zero w h = here w (constant_in p) (are_wild ps)
filled-here ps p d0 (suc d) w h = ap (λ b. b && has_only d w ps) h ∙ earlier d w (constant_in p) (are_wild ps)

wild-none : (p : Pattern) → is_wild p ≡ true → constant_in p ≡ None
wild-none Wild h = refl
wild-none Empty h = absurd (true≢false (sym h))
wild-none (Fixed v) h = absurd (true≢false (sym h))
wild-none (Range low high) h = absurd (true≢false (sym h))
wild-none (Members ms) h = absurd (true≢false (sym h))

behind-suc : (p : Pattern) (ps : List Pattern) (f : ℕ) → are_wild (drop (f + 1) ps) ≡ are_wild (drop (suc f + 1) (p ∷ ps))
behind-suc p ps f = let n : suc f + 1 ≡ suc (f + 1) = omega arith in rw n refl

pub only-at : (ps : List Pattern) (d0 : Pattern) → first_filled ps < length ps → (d : ℕ) (w : Value)
    → has_only d w ps ≡ (is_at d w (first_filled ps) (constant_in (get_or ps (first_filled ps) d0)) && are_wild (drop (first_filled ps + 1) ps))
only-at [] d0 lt d w = absurd (omega (arith, lt))
only-at (p ∷ ps) d0 lt d w = go (is_wild p) refl d lt (λ less e. only-at ps d0 less e w)
  where
    go : (b : Bool) → is_wild p ≡ b → (d : ℕ) → cond b (suc (first_filled ps)) 0 < suc (length ps) → (first_filled ps < length ps → (e : ℕ) → has_only e w ps ≡ (is_at e w (first_filled ps) (constant_in (get_or ps (first_filled ps) d0)) && are_wild (drop (first_filled ps + 1) ps)))
        → has_only d w (p ∷ ps) ≡ (is_at d w (cond b (suc (first_filled ps)) 0) (constant_in (get_or (p ∷ ps) (cond b (suc (first_filled ps)) 0) d0)) && are_wild (drop (cond b (suc (first_filled ps)) 0 + 1) (p ∷ ps)))
    go true h zero less ih =
        ap (λ o. is_value w o && are_wild ps) (wild-none p h) ∙ later w (first_filled ps) (constant_in (get_or ps (first_filled ps) d0)) (are_wild (drop (suc (first_filled ps) + 1) (p ∷ ps)))
    go true h (suc d) less ih =
        ap (λ b. b && has_only d w ps) h
        ∙ (ih (omega (arith, less)) d ∙ (shifts d w (first_filled ps) (constant_in (get_or ps (first_filled ps) d0)) (are_wild (drop (first_filled ps + 1) ps))
        ∙ ap (λ b. is_at (suc d) w (suc (first_filled ps)) (constant_in (get_or ps (first_filled ps) d0)) && b) (behind-suc p ps (first_filled ps))))
    go false h d less ih = filled-here ps p d0 d w h

pub only-nowhere : (ps : List Pattern) → length ps ≤ first_filled ps → HasNone ps
only-nowhere [] le d w = refl
only-nowhere (p ∷ ps) le d w = go (is_wild p) refl le d (λ less e. only-nowhere ps less e w)
  where
    go : (b : Bool) → is_wild p ≡ b → suc (length ps) ≤ cond b (suc (first_filled ps)) 0 → (d : ℕ) → (length ps ≤ first_filled ps → (e : ℕ) → has_only e w ps ≡ false) → has_only d w (p ∷ ps) ≡ false
    go true h less zero ih = ap (λ o. is_value w o && are_wild ps) (wild-none p h)
    go true h less (suc d) ih = ap (λ b. b && has_only d w ps) h ∙ ih (omega (arith, less)) d
    go false h less d ih = absurd (omega (arith, less))

pub only-found : (ps : List Pattern) (c : ℕ) (p : Pattern) (o : Option Value) (b : Bool) → c ≡ first_filled ps → c < length ps → p ≡ get_or ps c p → o ≡ constant_in p → b ≡ are_wild (drop (c + 1) ps)
    → (d : ℕ) (w : Value) → has_only d w ps ≡ (is_at d w c o && b)
only-found ps c p o b e lt is was wild d w =
    only-at ps p (subst (λ n. n < length ps) e lt) d w
    ∙ (ap (λ n. is_at d w n (constant_in (get_or ps n p)) && are_wild (drop (n + 1) ps)) (sym e)
    ∙ (ap (λ q. is_at d w c (constant_in q) && are_wild (drop (c + 1) ps)) (sym is) ∙ ap₂ (λ x y. is_at d w c x && y) (sym was) (sym wild)))

pub and-false : (a : Bool) → (a && false) ≡ false
and-false true = refl
and-false false = refl

pub and-true : (a : Bool) → (a && true) ≡ a
and-true true = refl
and-true false = refl

-- one that is wild behind has no constant where the columns behind are not wild
pub not-wild-behind : (ps : List Pattern) (c : ℕ) → c ≡ first_filled ps → c < length ps → are_wild (drop (c + 1) ps) ≡ false → HasNone ps
not-wild-behind ps c e lt wild d w = go ps c e lt wild
  where
    go : (ps : List Pattern) (c : ℕ) → c ≡ first_filled ps → c < length ps → are_wild (drop (c + 1) ps) ≡ false → has_only d w ps ≡ false
    go [] c e lt wild = absurd (omega (arith, lt))
    go (q ∷ qs) c e lt wild =
        let p = get_or (q ∷ qs) c q in
        only-at (q ∷ qs) q (subst (λ n. n < length (q ∷ qs)) e lt) d w
        ∙ (ap (λ n. is_at d w n (constant_in (get_or (q ∷ qs) n q)) && are_wild (drop (n + 1) (q ∷ qs))) (sym e)
        ∙ (ap (λ b. is_at d w c (constant_in p) && b) wild ∙ and-false (is_at d w c (constant_in p))))

-- ---- one punctuation more

pub numbers-more : (column : ℕ) (value : Value) (ks : List NumberedPunct) (k : NumberedPunct)
    → numbers_with column value (ks ++ k ∷ []) ≡ cond (has_only column value k.punct) (with_last k.number (numbers_with column value ks)) (numbers_with column value ks)
numbers-more column value [] k = go (has_only column value k.punct)
  where
    go : (b : Bool) → map number_of (cond b (k ∷ []) []) ≡ cond b (k.number ∷ []) []
    go true = refl
    go false = refl
numbers-more column value (x ∷ xs) k = go (is_alone column value x) (has_only column value k.punct) (numbers-more column value xs k)
  where
    go : (a b : Bool) → numbers_with column value (xs ++ k ∷ []) ≡ cond b (with_last k.number (numbers_with column value xs)) (numbers_with column value xs)
        → map number_of (cond a (x ∷ filter (is_alone column value) (xs ++ k ∷ [])) (filter (is_alone column value) (xs ++ k ∷ [])))
        ≡ cond b (with_last k.number (map number_of (cond a (x ∷ filter (is_alone column value) xs) (filter (is_alone column value) xs)))) (map number_of (cond a (x ∷ filter (is_alone column value) xs) (filter (is_alone column value) xs)))
    go true true ih = ap (λ ns. x.number ∷ ns) ih
    go true false ih = ap (λ ns. x.number ∷ ns) ih
    go false true ih = ih
    go false false ih = ih
