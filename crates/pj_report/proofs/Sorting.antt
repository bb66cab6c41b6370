-- Lines in order of their bytes, and what that order depends on.
use Rattle.std.proofs.Common.{◌≡◌, ◌≤◌, ◌<◌, ◌+◌, ℕ, zero, suc, Bool, true, false, cond, List, [], ◌∷◌, ◌++◌, ◌⊎◌, length, map, get_or, refl, sym, ap, ap₂, ◌∙◌, subst, inl, inr, arith, IsPermutation}
use Rattle.std.specs.Str.{bytes_eq}
use Rattle.std.specs.Ordering.{nat_cmp, is_lt, is_eq, ordering_reverse}
use Rattle.std.specs.Cmp.{IsStrictWeakOrder}
use Rattle.std.specs.Cmp.Lexicographic.{slice_cmp}
use Rattle.std.specs.List.{sum_by}
use Rattle.std.specs.List.Sorted.{IsSortedBy}
use Rattle.std.specs.declared.cmp.Ordering.{Ordering}
use Rattle.std.specs.declared.cmp.Ordering.TheVariants.{Less, Equal, Greater}
use Rattle.std.proofs.lemmas.Bool.{false≢true}
use Rattle.std.proofs.lemmas.Cmp.{nat_list_cmp_total}
use Rattle.std.proofs.lemmas.List.MinMax.{ranks_by}
use Rattle.std.proofs.lemmas.List.Sorted.{IsPermutation-map, sorted_far, sum_by-IsPermutation}
use Rattle.std.proofs.lemmas.List.Sums.{sum_by-cons}
use Rattle.std.proofs.lemmas.Map.Text.{is_eq-slice_cmp}
use Rattle.std.proofs.lemmas.Slice.Eq.{bytes_eq-Decides}
use denote.Ref.{Bor}
use Rattle.pj_value.specs.Bags.{weigh, SameBag}
use Rattle.pj_value.specs.Lists.{In}
use Rattle.pj_value.proofs.Bags.{member-of, weigh-map}
use Rattle.pj_value.proofs.Bytes.{bytes_same}
use Rattle.pj_element.specs.Runs.{rows_of, puncts_of}
use Rattle.pj_report.specs.Laws.{FormByBags, SortedAreInOrder, SortedAreSame, SortedByBag}
use Rattle.pj_report.specs.Sorted.{fed_punct, fed_row, is_below, lent, punct_lines, put_line, row_lines, sorted_lines}

-- ---- the order of lines

order : IsStrictWeakOrder is_below
order = ranks_by nat_list_cmp_total (λ (line : List ℕ). line)

-- lines of which neither is below the other are one
neither_below : (x y : List ℕ) → is_below x y ≡ false → is_below y x ≡ false → x ≡ y
neither_below x y a b = go (slice_cmp nat_cmp x y) refl a
  where
    go : (r : Ordering) → slice_cmp nat_cmp x y ≡ r → is_lt r ≡ false → x ≡ y
    go Less e h = absurd (false≢true (sym h))
    go Equal e h = bytes_same x y (sym (is_eq-slice_cmp x y) ∙ ap is_eq e)
    go Greater e h = absurd (false≢true (sym b ∙ ap is_lt (nat_list_cmp_total.antisymm y x ∙ ap ordering_reverse e)))

-- ---- lists in order

-- none is below one before it
abbrev AreUp : List (List ℕ) → Type 0
AreUp [] = Unit {0}
AreUp (x ∷ xs) = ((y : List ℕ) → In y xs → is_below y x ≡ false) × AreUp xs

in_put : (x y : List ℕ) (ls : List (List ℕ)) → In y (put_line x ls) → (x ≡ y) ⊎ In y ls
in_put x y [] h = h
in_put x y (l ∷ ls) h = go (is_below l x) (in_put x y ls) h
  where
    go : (b : Bool) → (In y (put_line x ls) → (x ≡ y) ⊎ In y ls) → In y (cond b (l ∷ put_line x ls) (x ∷ l ∷ ls)) → (x ≡ y) ⊎ In y (l ∷ ls)
    go false ih k = k
    go true ih (inl e) = inr (inl e)
    go true ih (inr k) = elim (ih k) [ inl e ↦ inl e | inr m ↦ inr (inr m) ]

put_up : (x : List ℕ) (ls : List (List ℕ)) → AreUp ls → AreUp (put_line x ls)
put_up x [] up = (λ y h. absurd h, tt)
put_up x (l ∷ ls) up = go (is_below l x) refl (put_up x ls up.1)
  where
    go : (b : Bool) → is_below l x ≡ b → AreUp (put_line x ls) → AreUp (cond b (l ∷ put_line x ls) (x ∷ l ∷ ls))
    go true e ih = (λ y h. elim (in_put x y ls h) [ inl same ↦ subst (λ (z : List ℕ). is_below z l ≡ false) same (order.one_way l x e) | inr k ↦ up.0 y k ], ih)
    go false e ih = (λ y h. elim h [ inl same ↦ subst (λ (z : List ℕ). is_below z x ≡ false) same e | inr k ↦ order.chain y l x (up.0 y k) e ], up)

sorted_up : (ls : List (List ℕ)) → AreUp (sorted_lines ls)
sorted_up [] = tt
sorted_up (l ∷ ls) = put_up l (sorted_lines ls) (sorted_up ls)

weigh-put : (f : List ℕ → ℕ) (x : List ℕ) (ls : List (List ℕ)) → weigh f (put_line x ls) ≡ f x + weigh f ls
weigh-put f x [] = refl
weigh-put f x (l ∷ ls) = go (is_below l x) (weigh-put f x ls)
  where
    go : (b : Bool) → weigh f (put_line x ls) ≡ f x + weigh f ls → weigh f (cond b (l ∷ put_line x ls) (x ∷ l ∷ ls)) ≡ f x + (f l + weigh f ls)
    go true ih = omega (arith, ih)
    go false ih = refl

pub sorted_same : SortedAreSame
sorted_same [] f = refl
sorted_same (l ∷ ls) f = omega (arith, weigh-put f l (sorted_lines ls), sorted_same ls f)

up_adjacent : (ls : List (List ℕ)) → AreUp ls → (k : ℕ) (d : List ℕ) → k + 1 < length ls → is_below (get_or ls (k + 1) d) (get_or ls k d) ≡ false
up_adjacent [] up k d lt = absurd (omega (arith, lt))
up_adjacent (x ∷ []) up k d lt = absurd (omega (arith, lt))
up_adjacent (x ∷ y ∷ ls) up zero d lt = up.0 y (inl refl)
up_adjacent (x ∷ y ∷ ls) up (suc k) d lt =
    subst (λ (n : ℕ). is_below (get_or (x ∷ y ∷ ls) n d) (get_or (y ∷ ls) k d) ≡ false) {x = suc (k + 1)} {y = suc k + 1} (omega arith) (up_adjacent (y ∷ ls) up.1 k d (omega (arith, lt)))

pub sorted_in_order : SortedAreInOrder
sorted_in_order lines k d low lt = up_adjacent (sorted_lines lines) (sorted_up lines) k d lt

-- ---- one list for each bag

itself : (x : List ℕ) → bytes_eq x x ≡ true
itself x = (bytes_eq-Decides x x).1 refl

least : (x y : List ℕ) (xs ys : List (List ℕ)) → AreUp (x ∷ xs) → AreUp (y ∷ ys) → In x (y ∷ ys) → In y (x ∷ xs) → x ≡ y
least x y xs ys u v (inl e) k = sym e
least x y xs ys u v (inr h) (inl e) = e
least x y xs ys u v (inr h) (inr k) = neither_below x y (v.0 x h) (u.0 y k)

up_unique : (xs ys : List (List ℕ)) → AreUp xs → AreUp ys → SameBag xs ys → xs ≡ ys
up_unique [] [] u v s = refl
up_unique [] (y ∷ ys) u v s = absurd (member-of bytes_eq bytes_same itself (y ∷ ys) [] (λ f. sym (s f)) y (inl refl))
up_unique (x ∷ xs) [] u v s = absurd (member-of bytes_eq bytes_same itself (x ∷ xs) [] s x (inl refl))
up_unique (x ∷ xs) (y ∷ ys) u v s =
    let same : x ≡ y =
    least x y xs ys u v (member-of bytes_eq bytes_same itself (x ∷ xs) (y ∷ ys) s x (inl refl)) (member-of bytes_eq bytes_same itself (y ∷ ys) (x ∷ xs) (λ f. sym (s f)) y (inl refl)) in
    ap₂ (λ (z : List ℕ) (zs : List (List ℕ)). z ∷ zs) same (up_unique xs ys u.1 v.1 (λ f. omega (arith, s f, ap f same)))

pub sorted_by_bag : SortedByBag
sorted_by_bag xs ys s = up_unique (sorted_lines xs) (sorted_lines ys) (sorted_up xs) (sorted_up ys) (λ f. sym (sorted_same xs f) ∙ (s f ∙ sorted_same ys f))

mapped_bag : {A : Type 0} (g : A → List ℕ) (xs ys : List A) → SameBag xs ys → SameBag (map g xs) (map g ys)
mapped_bag {A} g xs ys s f = weigh-map f g xs ∙ (s (λ (x : A). f (g x)) ∙ sym (weigh-map f g ys))

pub form_by_bags : FormByBags
form_by_bags es fs rows puncts =
    ap₂ (λ (xs ys : List (List ℕ)). xs ++ ys) (sorted_by_bag (row_lines es) (row_lines fs) (mapped_bag fed_row (rows_of es) (rows_of fs) rows))
    (sorted_by_bag (punct_lines es) (punct_lines fs) (mapped_bag fed_punct (puncts_of es) (puncts_of fs) puncts))

-- ---- what a sort of lent lines gives

none_below : {A : Type 0} (text : A → List ℕ) (z : List ℕ) (xs : List A) → ((j : ℕ) (d : A) → j < length xs → is_below (text (get_or xs j d)) z ≡ false) → (y : List ℕ) → In y (map text xs) → is_below y z ≡ false
none_below text z [] above y h = absurd h
none_below text z (x ∷ xs) above y (inl e) = subst (λ (w : List ℕ). is_below w z ≡ false) e (above zero x (omega arith))
none_below text z (x ∷ xs) above y (inr h) = none_below text z xs (λ j d lt. above (suc j) d (omega (arith, lt))) y h

mapped_up : {A : Type 0} (text : A → List ℕ) (xs : List A) → ((i j : ℕ) (d : A) → i ≤ j → j < length xs → is_below (text (get_or xs j d)) (text (get_or xs i d)) ≡ false) → AreUp (map text xs)
mapped_up text [] far = tt
mapped_up text (x ∷ xs) far = (
  none_below text (text x) xs (λ j d lt. far zero (suc j) d (omega arith) (omega (arith, lt))),
  mapped_up text xs (λ i j d le lt. far (suc i) (suc j) d (omega (arith, le)) (omega (arith, lt))),
)

weighed_sum : {A : Type 0} (f : A → ℕ) (xs : List A) → weigh f xs ≡ sum_by f xs
weighed_sum f [] = refl
weighed_sum f (x ∷ xs) = omega (arith, weighed_sum f xs, sum_by-cons f x xs)

moved_bag : {A : Type 0} (xs ys : List A) → IsPermutation xs ys → SameBag xs ys
moved_bag xs ys moved f = weighed_sum f xs ∙ (sym (sum_by-IsPermutation f xs ys moved) ∙ sym (weighed_sum f ys))

pub sorted_out : (old new : List (Bor (List ℕ))) (lines : List (List ℕ)) → map lent old ≡ lines → IsPermutation old new → IsSortedBy (λ (x y : Bor (List ℕ)). is_lt (slice_cmp nat_cmp x.now y.now)) new → map lent new ≡ sorted_lines lines
sorted_out old new lines is moved up =
    up_unique (map lent new) (sorted_lines lines) (mapped_up lent new (sorted_far (λ (x y : Bor (List ℕ)). is_below (lent x) (lent y)) (ranks_by nat_list_cmp_total lent) new up)) (sorted_up lines)
    (λ f. sym (moved_bag (map lent old) (map lent new) (IsPermutation-map lent old new moved) f) ∙ (ap (weigh f) is ∙ sorted_same lines f))
