-- A group hands up each of its groups once, whole.
use Rattle.std.proofs.Common.{ℕ, ◌+◌, Bool, true, false, cond, ◌&&◌, not, List, [], ◌∷◌, ◌++◌, ◌≡◌, map, filter, length, refl, sym, ap, ap₂, ◌∙◌, subst, inl, inr, arith, append_assoc, append-nil}
use Rattle.pj_value.proofs.Orders.{row_same_if_equal, row_equal_itself}
use Rattle.pj_value.proofs.Bags.{member-of, weigh-append, weigh-map, weigh-agree, weigh-split}
use Rattle.std.proofs.lemmas.Bool.{false≢true, false_from_ne_true, not-true}
use Rattle.std.proofs.lemmas.List.Elements.{filter-append}
use Rattle.std.specs.Prelude.{pos, ◌-ℤ◌}
use Rattle.std.specs.Int.{saturate_signed, w64}
use Rattle.pj_value.specs.declared.values.Value.TheVariants.{Int}
use Rattle.pj_events.specs.Patterns.{Pattern, all_wild, matches_row}
use Rattle.pj_value.specs.Bags.{weigh, SameBag}
use Rattle.pj_events.specs.Join.{In, Value, value_at, Element, Tuple, Punct, rows_of}
use Rattle.pj_pattern.specs.Elements.{IsLawful}
use Rattle.pj_pattern.proofs.Lawful.{none_at as clear_at}
use Rattle.pj_events.specs.Operators.{column_of, above_zero, below_zero, Sum, Min, Max, Agg, Count, GroupSpec, aggregate, keys_from, group_row, group_rows, group_after}
use Rattle.pj_value.specs.Values.{row_eq}
use Rattle.pj_pattern.specs.Columns.{others_wild, picked_patterns}
use Rattle.pj_events.proofs.Keys.{AreApart, key-from, key-in, key_of, keys-apart}
use Rattle.pj_laws.proofs.UnionsAndGroups.{group_all}
use Rattle.pj_laws.proofs.Operators.{AllFit, picked-at, picked-matches}
use Rattle.pj_laws.proofs.Answers.{bag-filter, bag-map}
use Rattle.pj_pattern.proofs.Elements.{rows_of-append}
use Rattle.pj_laws.proofs.Order.{least-same, greatest-same}
use Rattle.pj_value.proofs.Members.{In-filter, In-filter_from, filter-agree, filter-filter, filter-all, map-same}

weigh-absent : (f : List Value → ℕ) (x : List Value) (ys : List (List Value)) → (In x ys → ⊥) → weigh f (filter (row_eq x) ys) ≡ 0
weigh-absent f x [] n = refl
weigh-absent f x (y ∷ ys) n = go (row_eq x y) refl (weigh-absent f x ys (λ h. n (inr h)))
  where
    go : (b : Bool) → row_eq x y ≡ b → weigh f (filter (row_eq x) ys) ≡ 0 → weigh f (cond b (y ∷ filter (row_eq x) ys) (filter (row_eq x) ys)) ≡ 0
    go true e ih = absurd (n (inl (sym (row_same_if_equal x y e))))
    go false e ih = ih

weigh-present : (f : List Value → ℕ) (x : List Value) (ys : List (List Value)) → AreApart ys → In x ys → weigh f (filter (row_eq x) ys) ≡ f x
weigh-present f x [] a h = absurd h
weigh-present f x (y ∷ ys) a (inl q) =
    ap (λ (b : Bool). weigh f (cond b (y ∷ filter (row_eq x) ys) (filter (row_eq x) ys))) (ap (row_eq x) q ∙ row_equal_itself x)
    ∙ omega (arith, weigh-absent f x ys (subst (λ (z : List Value). In z ys → ⊥) q a.0), ap f q)
weigh-present f x (y ∷ ys) a (inr h) = go (row_eq x y) refl (weigh-present f x ys a.1 h)
  where
    go : (b : Bool) → row_eq x y ≡ b → weigh f (filter (row_eq x) ys) ≡ f x → weigh f (cond b (y ∷ filter (row_eq x) ys) (filter (row_eq x) ys)) ≡ f x
    go true e ih = absurd (a.0 (subst (λ (z : List Value). In z ys) (row_same_if_equal x y e) h))
    go false e ih = ih

apart-filter : (p : List Value → Bool) (ys : List (List Value)) → AreApart ys → AreApart (filter p ys)
apart-filter p [] a = tt
apart-filter p (y ∷ ys) a = go (p y) (apart-filter p ys a.1)
  where
    go : (b : Bool) → AreApart (filter p ys) → AreApart (cond b (y ∷ filter p ys) (filter p ys))
    go true ih = (λ h. a.0 (In-filter p y ys h).0, ih)
    go false ih = ih

-- lists without repetitions that have the same members weigh the same
pub weigh-members : (f : List Value → ℕ) (xs ys : List (List Value)) → AreApart xs → AreApart ys → ((z : List Value) → In z xs → In z ys) → ((z : List Value) → In z ys → In z xs) → weigh f xs ≡ weigh f ys
weigh-members f [] [] a b to from = refl
weigh-members f [] (y ∷ ys) a b to from = absurd (from y (inl refl))
weigh-members f (x ∷ xs) ys a b to from =
    omega (
      arith,
      weigh-split f (row_eq x) ys,
      weigh-present f x ys b (to x (inl refl)),
      weigh-members f xs (filter (λ y. not (row_eq x y)) ys) a.1 (apart-filter (λ y. not (row_eq x y)) ys b)
          (λ z h. In-filter_from (λ y. not (row_eq x y)) z ys (to z (inr h)) (ap not (false_from_ne_true (row_eq x z) (λ t. a.0 (subst (λ (w : List Value). In w xs) (sym (row_same_if_equal x z t)) h)))))
          (λ z h. let q = In-filter (λ y. not (row_eq x y)) z ys h in elim (from z q.0) [
            | inl e ↦ absurd (false≢true (sym (not-true (row_eq x z) q.1) ∙ ap (row_eq x) (sym e) ∙ row_equal_itself x))
            | inr k ↦ k
          ]),
    )

-- ---- the rows of a group, of any order of its input

length-weighs : (xs : List (List Value)) → length xs ≡ weigh (λ x. 1) xs
length-weighs [] = refl
length-weighs (x ∷ xs) = omega (arith, length-weighs xs)

column-same : (column : ℕ) (xs ys : List (List Value)) → SameBag xs ys → SameBag (column_of column xs) (column_of column ys)
column-same column xs ys s = bag-map (λ row. value_at row column) xs ys s

aggregate-same : (xs ys : List (List Value)) → SameBag xs ys → (a : Agg) → aggregate xs a ≡ aggregate ys a
aggregate-same xs ys s Count = ap (λ (n : ℕ). Int (pos n)) (length-weighs xs ∙ s (λ x. 1) ∙ sym (length-weighs ys))
aggregate-same xs ys s (Sum column) =
    ap₂ (λ (a b : ℕ). Int (saturate_signed w64 (pos a -ℤ pos b))) (column-same column xs ys s above_zero) (column-same column xs ys s below_zero)
aggregate-same xs ys s (Min column) = least-same (column_of column xs) (column_of column ys) (column-same column xs ys s)
aggregate-same xs ys s (Max column) = greatest-same (column_of column xs) (column_of column ys) (column-same column xs ys s)

row-same : (spec : GroupSpec) (xs ys : List (List Value)) (key : List Value) → SameBag (filter (λ row. row_eq key (key_of spec row)) xs) (filter (λ row. row_eq key (key_of spec row)) ys) → group_row spec xs key ≡ group_row spec ys key
row-same spec xs ys key s = ap (λ ns. key ++ ns) (map-same (aggregate (filter (λ row. row_eq key (key_of spec row)) xs)) (aggregate (filter (λ row. row_eq key (key_of spec row)) ys)) spec.aggs (λ a h. aggregate-same (filter (λ row. row_eq key (key_of spec row)) xs) (filter (λ row. row_eq key (key_of spec row)) ys) s a))

pub group-same : (spec : GroupSpec) (xs ys : List (List Value)) → SameBag xs ys → SameBag (group_rows spec xs) (group_rows spec ys)
group-same spec xs ys s f =
    weigh-map f (group_row spec xs) (keys_from [] spec xs)
    ∙ weigh-members (λ key. f (group_row spec xs key)) (keys_from [] spec xs) (keys_from [] spec ys) (keys-apart [] spec xs) (keys-apart [] spec ys) (carry xs ys s) (carry ys xs (λ g. sym (s g)))
    ∙ weigh-agree (λ key. f (group_row spec xs key)) (λ key. f (group_row spec ys key)) (keys_from [] spec ys) (λ key h. ap f (row-same spec xs ys key (bag-filter (λ row. row_eq key (key_of spec row)) xs ys s)))
    ∙ sym (weigh-map f (group_row spec ys) (keys_from [] spec ys))
  where
    carry : (us vs : List (List Value)) → SameBag us vs → (z : List Value) → In z (keys_from [] spec us) → In z (keys_from [] spec vs)
    carry us vs e z h = let r = key-from [] spec us z h in subst (λ (k : List Value). In k (keys_from [] spec vs)) r.2 (key-in spec vs r.0 (member-of row_eq row_same_if_equal row_equal_itself us vs e r.0 r.1))

-- ---- a group's rows, part by part

-- the groups whose keys pass a test and those whose keys do not are all groups
pub group-split : (spec : GroupSpec) (test : List Value → Bool) (xs : List (List Value)) (f : List Value → ℕ)
    → weigh f (group_rows spec xs) ≡ weigh f (group_rows spec (filter (λ row. test (key_of spec row)) xs)) + weigh f (group_rows spec (filter (λ row. not (test (key_of spec row))) xs))
group-split spec test xs f =
    weigh-map f (group_row spec xs) ks
    ∙ sym (weigh-split (λ key. f (group_row spec xs key)) test ks)
    ∙ ap₂ (λ (a b : ℕ). a + b) (part test) (part (λ key. not (test key)))
  where
    ks : List (List Value)
    ks = keys_from [] spec xs

    part : (p : List Value → Bool) → weigh (λ key. f (group_row spec xs key)) (filter p ks) ≡ weigh f (group_rows spec (filter (λ row. p (key_of spec row)) xs))
    part p =
        weigh-members (λ key. f (group_row spec xs key)) (filter p ks) (keys_from [] spec mine) (apart-filter p ks (keys-apart [] spec xs)) (keys-apart [] spec mine) to from
        ∙ weigh-agree (λ key. f (group_row spec xs key)) (λ key. f (group_row spec mine key)) (keys_from [] spec mine) (λ key h. ap f (row-same spec xs mine key (whole key h)))
        ∙ sym (weigh-map f (group_row spec mine) (keys_from [] spec mine))
      where
        mine : List (List Value)
        mine = filter (λ row. p (key_of spec row)) xs

        to : (z : List Value) → In z (filter p ks) → In z (keys_from [] spec mine)
        to z h =
            let q = In-filter p z ks h in
            let r = key-from [] spec xs z q.0 in
            subst (λ (k : List Value). In k (keys_from [] spec mine)) r.2 (key-in spec mine r.0 (In-filter_from (λ row. p (key_of spec row)) r.0 xs r.1 (ap p r.2 ∙ q.1)))

        from : (z : List Value) → In z (keys_from [] spec mine) → In z (filter p ks)
        from z h =
            let r = key-from [] spec mine z h in
            let q = In-filter (λ row. p (key_of spec row)) r.0 xs r.1 in
            subst (λ (k : List Value). In k (filter p ks)) r.2 (In-filter_from p (key_of spec r.0) ks (key-in spec xs r.0 q.0) q.1)

        -- the rows of a key that passes all pass
        whole : (key : List Value) → In key (keys_from [] spec mine) → SameBag (filter (λ row. row_eq key (key_of spec row)) xs) (filter (λ row. row_eq key (key_of spec row)) mine)
        whole key h g =
            let r = key-from [] spec mine key h in
            let t : p key ≡ true = ap p (sym r.2) ∙ (In-filter (λ row. p (key_of spec row)) r.0 xs r.1).1 in
            ap (weigh g) (sym (filter-filter (λ row. p (key_of spec row)) (λ row. row_eq key (key_of spec row)) xs
            ∙ filter-agree (λ row. p (key_of spec row) && row_eq key (key_of spec row)) (λ row. row_eq key (key_of spec row)) xs (λ row m. both key row t)))
          where
            both : (key row : List Value) → p key ≡ true → (p (key_of spec row) && row_eq key (key_of spec row)) ≡ row_eq key (key_of spec row)
            both key row t = go (p (key_of spec row)) (row_eq key (key_of spec row)) (λ e. ap p (sym (row_same_if_equal key (key_of spec row) e)) ∙ t)
              where
                go : (a b : Bool) → (b ≡ true → a ≡ true) → (a && b) ≡ b
                go true b f = refl
                go false true f = f refl
                go false false f = refl

abbrev pub group_end : GroupSpec → List (List Value) → List Element → List (List Value)
group_end spec rows [] = rows
group_end spec rows (e ∷ es) = group_end spec (group_after spec rows e) es

pub rows-map : (rows : List (List Value)) → rows_of (map Tuple rows) ≡ rows
rows-map [] = refl
rows-map (row ∷ rows) = ap (λ rs. row ∷ rs) (rows-map rows)

pub row-in : (row : List Value) (es : List Element) → In row (rows_of es) → In (Tuple row) es
row-in row [] h = absurd h
row-in row (Tuple r ∷ es) (inl q) = inl (ap Tuple q)
row-in row (Tuple r ∷ es) (inr h) = inr (row-in row es h)
row-in row (Punct ps ∷ es) h = inr (row-in row es h)

filter-none : {A : Type 0} (p : A → Bool) (xs : List A) → ((x : A) → In x xs → p x ≡ false) → filter p xs ≡ []
filter-none p [] f = refl
filter-none {A} p (x ∷ xs) f = ap (λ (b : Bool). cond b (x ∷ filter p xs) (filter p xs)) (f x (inl refl)) ∙ filter-none p xs (λ y h. f y (inr h))

-- over lawful elements that leave no row, the rows of a group are those of all rows at once
pub group-once : (width : ℕ) (spec : GroupSpec) (rows : List (List Value)) (es : List Element) → AllFit width es → IsLawful es → group_end spec rows es ≡ [] → (f : List Value → ℕ)
    → weigh f (rows_of (group_all spec rows es)) ≡ weigh f (group_rows spec (rows ++ rows_of es))
group-once width spec rows [] fit l done f = ap (λ (xs : List (List Value)). weigh f (group_rows spec xs)) (sym (append-nil rows ∙ done))
group-once width spec rows (Tuple x ∷ es) fit l done f =
    group-once width spec (rows ++ x ∷ []) es (λ e h. fit e (inr h)) l done f
    ∙ ap (λ (xs : List (List Value)). weigh f (group_rows spec xs)) (append_assoc rows (x ∷ []) (rows_of es))
group-once width spec rows (Punct ps ∷ es) fit l done f =
    go (others_wild spec.keys 0 ps) refl done (λ d. group-once width spec rows es (λ e h. fit e (inr h)) l.1 d f) (λ d. group-once width spec left es (λ e h. fit e (inr h)) l.1 d f)
  where
    p : List Value → Bool
    p row = matches_row (picked_patterns spec.keys ps) (key_of spec row)

    due : List (List Value)
    due = filter p rows

    left : List (List Value)
    left = filter (λ row. not (p row)) rows

    R : List (List Value)
    R = rows_of es

    shut : List Element
    shut = Punct (picked_patterns spec.keys ps ++ wilds) ∷ []
      where
        wilds : List Pattern
        wilds = all_wild (length spec.aggs)

    apart : others_wild spec.keys 0 ps ≡ true → (row : List Value) → In row R → p row ≡ false
    apart d row h = false_from_ne_true (p row) (λ t. false≢true (sym (clear_at ps es l.0 row (row-in row es h)) ∙ picked-matches spec.keys 0 ps row (fit (Punct ps) (inl refl) ∙ sym (fit (Tuple row) (inr (row-in row es h)))) d (λ j k. let z : 0 + j ≡ j = omega arith in picked-at spec.keys ps row j t (subst (λ (c : ℕ). In c spec.keys) z k))))

    go : (b : Bool) → others_wild spec.keys 0 ps ≡ b → group_end spec (cond b left rows) es ≡ []
        → (group_end spec rows es ≡ [] → weigh f (rows_of (group_all spec rows es)) ≡ weigh f (group_rows spec (rows ++ R)))
        → (group_end spec left es ≡ [] → weigh f (rows_of (group_all spec left es)) ≡ weigh f (group_rows spec (left ++ R)))
        → weigh f (rows_of (cond b (map Tuple (group_rows spec due) ++ shut) [] ++ group_all spec (cond b left rows) es)) ≡ weigh f (group_rows spec (rows ++ R))
    go false e d g h = g d
    go true e d g h =
        ap (weigh f) (rows_of-append (map Tuple (group_rows spec due) ++ shut) (group_all spec left es) ∙ ap (λ xs. xs ++ rows_of (group_all spec left es)) (rows_of-append (map Tuple (group_rows spec due)) shut ∙ ap (λ xs. xs ++ []) (rows-map (group_rows spec due)) ∙ append-nil (group_rows spec due)))
        ∙ weigh-append f (group_rows spec due) (rows_of (group_all spec left es))
        ∙ ap₂ (λ (a b : ℕ). a + b) (ap (λ xs. weigh f (group_rows spec xs)) (sym first)) (h d ∙ ap (λ xs. weigh f (group_rows spec xs)) (sym second))
        ∙ sym (group-split spec (matches_row (picked_patterns spec.keys ps)) (rows ++ R) f)
      where
        first : filter p (rows ++ R) ≡ due
        first = filter-append p rows R ∙ ap (λ xs. due ++ xs) (filter-none p R (apart e)) ∙ append-nil due

        second : filter (λ row. not (p row)) (rows ++ R) ≡ left ++ R
        second = filter-append (λ row. not (p row)) rows R ∙ ap (λ xs. left ++ xs) (filter-all (λ row. not (p row)) R (λ row m. ap not (apart e row m)))
