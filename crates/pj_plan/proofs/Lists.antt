-- Lists in which nothing stands twice, places in lists, and names among names.
use Rattle.std.proofs.Common.{ℕ, suc, ◌≡◌, true, false, ◌||◌, List, [], ◌∷◌, ◌++◌, Some, flat_map, slice_get, refl, sym, ap, ◌∙◌, subst, inl, inr}
use Rattle.std.specs.Str.{bytes_eq}
use Rattle.std.specs.List.{list_any}
use Rattle.std.proofs.lemmas.Bool.{or_parts, or_from, false≢true, false_from_ne_true}
use Rattle.std.proofs.lemmas.Slice.Eq.{bytes_eq-Decides}
use Rattle.pj_value.specs.Lists.{In}
use Rattle.pj_value.proofs.Members.{In-append_left, In-append_right, In-append_cases, In-flat_map, In-flat_map_from, any_at, any_from, none_at, none_from}
use Rattle.pj_value.proofs.Bytes.{bytes_same}
use Rattle.pj_plan.specs.Words.{is_among, repeats}
use Rattle.pj_plan.specs.Faults.{meets, share_a_column}
use Rattle.pj_plan.specs.Sound.{AreDistinct}

-- ---- bytes

pub same_bytes : (xs ys : List ℕ) → xs ≡ ys → bytes_eq xs ys ≡ true
same_bytes xs ys e = (bytes_eq-Decides xs ys).1 e

-- ---- names among names

pub among_in : (names : List (List ℕ)) (name : List ℕ) → is_among names name ≡ true → In name names
among_in names name t =
    let r = any_at (bytes_eq name) names t in
    subst (λ (z : List ℕ). In z names) (sym (bytes_same name r.0 r.2)) r.1

pub in_among : (names : List (List ℕ)) (name : List ℕ) → In name names → is_among names name ≡ true
in_among names name h = any_from (bytes_eq name) names name h (same_bytes name name refl)

pub repeats_distinct : (names : List (List ℕ)) → repeats names ≡ false → AreDistinct names
repeats_distinct [] e = tt
repeats_distinct (n ∷ ns) e =
    let both = or_parts (is_among ns n) (repeats ns) e in
    ((λ h. false≢true (sym both.0 ∙ in_among ns n h)), repeats_distinct ns both.1)

pub distinct_repeats : (names : List (List ℕ)) → AreDistinct names → repeats names ≡ false
distinct_repeats [] d = refl
distinct_repeats (n ∷ ns) d = or_from (is_among ns n) (repeats ns) (false_from_ne_true (is_among ns n) (λ t. d.0 (among_in ns n t))) (distinct_repeats ns d.1)

-- ---- lists in which nothing stands twice

pub distinct_left : {A : Type 0} (xs ys : List A) → AreDistinct (xs ++ ys) → AreDistinct xs
distinct_left [] ys d = tt
distinct_left (x ∷ xs) ys d = ((λ h. d.0 (In-append_left x xs ys h)), distinct_left xs ys d.1)

pub distinct_right : {A : Type 0} (xs ys : List A) → AreDistinct (xs ++ ys) → AreDistinct ys
distinct_right [] ys d = d
distinct_right (x ∷ xs) ys d = distinct_right xs ys d.1

pub distinct_between : {A : Type 0} (xs ys : List A) (z : A) → AreDistinct (xs ++ ys) → In z xs → In z ys → ⊥
distinct_between [] ys z d h k = absurd h
distinct_between {A} (x ∷ xs) ys z d (inl e) k = d.0 (subst (λ (w : A). In w (xs ++ ys)) (sym e) (In-append_right z xs ys k))
distinct_between (x ∷ xs) ys z d (inr h) k = distinct_between xs ys z d.1 h k

pub distinct_append : {A : Type 0} (xs ys : List A) → AreDistinct xs → AreDistinct ys → ((z : A) → In z xs → In z ys → ⊥) → AreDistinct (xs ++ ys)
distinct_append [] ys d e apart = e
distinct_append (x ∷ xs) ys d e apart =
    ((λ h. elim (In-append_cases x xs ys h) [ inl k ↦ d.0 k | inr k ↦ apart x (inl refl) k ]), distinct_append xs ys d.1 e (λ z h k. apart z (inr h) k))

-- ---- classes of which no two have a name in common

pub classes_distinct : (classes : List (List (List ℕ))) → share_a_column classes ≡ false → AreDistinct (flat_map (λ class. class) classes)
classes_distinct [] e = tt
classes_distinct (class ∷ classes) e =
    let both = or_parts (repeats class || list_any (meets class) classes) (share_a_column classes) e in
    let here = or_parts (repeats class) (list_any (meets class) classes) both.0 in
    distinct_append class (flat_map (λ c. c) classes) (repeats_distinct class here.0) (classes_distinct classes both.1)
    (λ name h k. let r = In-flat_map (λ (c : List (List ℕ)). c) name classes k in none_at (meets class) classes r.0 here.1 r.1 (any_from (is_among r.0) class name h (in_among r.0 name r.2)))

pub distinct_classes : (classes : List (List (List ℕ))) → AreDistinct (flat_map (λ class. class) classes) → share_a_column classes ≡ false
distinct_classes [] d = refl
distinct_classes (class ∷ classes) d =
    or_from (repeats class || list_any (meets class) classes) (share_a_column classes)
    (or_from (repeats class) (list_any (meets class) classes) (distinct_repeats class (distinct_left class (flat_map (λ c. c) classes) d))
    (none_from (meets class) classes (λ other h. false_from_ne_true (meets class other) (λ t. let r = any_at (is_among other) class t in
    distinct_between class (flat_map (λ c. c) classes) r.0 d r.1 (In-flat_map_from (λ (c : List (List ℕ)). c) r.0 other classes h (among_in other r.0 r.2))))))
    (distinct_classes classes (distinct_right class (flat_map (λ c. c) classes) d))

-- ---- places

pub place_of : {A : Type 0} (x : A) (xs : List A) → In x xs → (i : ℕ) × (slice_get xs i ≡ Some x)
place_of x [] h = absurd h
place_of x (y ∷ xs) (inl e) = (0, ap Some e)
place_of x (y ∷ xs) (inr h) = let r = place_of x xs h in (suc r.0, r.1)
