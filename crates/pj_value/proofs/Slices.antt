-- Parts of lists.
use Rattle.std.proofs.Common.{◌≡◌, ℕ, zero, suc, ◌+◌, ◌-◌, ◌<◌, ◌≤◌, List, [], ◌∷◌, ◌++◌, Some, length, take, drop, get_or, refl, ap, sym, ◌∙◌, append-nil, arith}
use Rattle.std.specs.List.{flat_map, slice_get, slice_range}
use Rattle.std.proofs.lemmas.Grind.{flat_map-append}
use Rattle.std.proofs.lemmas.List.{drop_more, drop-drop, drop-take, length-append, length-drop, length-take-le, take-take, take_more, take_more_same}
use Rattle.std.proofs.lemmas.Option.{get_or_from_slice_get, slice_get-get_or, slice_get_within}
use Rattle.std.proofs.lemmas.List.Concat.{flat_map-cons}

module _ {A : Type 0} where
  pub length_part : (xs : List A) (start end : ℕ) → start ≤ end → end ≤ length xs → length (slice_range xs start end) ≡ end - start
  length_part xs start end ordered within = length-take-le (end - start) (drop start xs) (omega (arith, length-drop start xs))

  -- a part of a part
  pub part_of_part : (xs : List A) (s e start end : ℕ) → start ≤ end → s + end ≤ e → slice_range (slice_range xs s e) start end ≡ slice_range xs (s + start) (s + end)
  part_of_part xs s e start end ordered within =
      let sum : e - s ≡ start + ((e - s) - start) = omega arith in
      let size : (s + end) - (s + start) ≡ end - start = omega arith in
      ap (λ (n : ℕ). take (end - start) (drop start (take n (drop s xs)))) sum
      ∙ (ap (take (end - start)) (drop-take start ((e - s) - start) (drop s xs))
      ∙ (take-take (end - start) ((e - s) - start) (drop start (drop s xs)) (omega arith)
      ∙ (ap (take (end - start)) (drop-drop start s xs)
      ∙ ap (λ (n : ℕ). take n (drop (s + start) xs)) (sym size))))

  pub get_front : (xs ys : List A) (i : ℕ) → i < length xs → slice_get (xs ++ ys) i ≡ slice_get xs i
  get_front [] ys i lt = absurd (omega (arith, lt))
  get_front (x ∷ xs) ys zero lt = refl
  get_front (x ∷ xs) ys (suc i) lt = get_front xs ys i (omega (arith, lt))

  pub get_behind : (xs ys : List A) (i : ℕ) → length xs ≤ i → slice_get (xs ++ ys) i ≡ slice_get ys (i - length xs)
  get_behind [] ys i le = let e : i - 0 ≡ i = omega arith in ap (slice_get ys) (sym e)
  get_behind (x ∷ xs) ys zero le = absurd (omega (arith, le))
  get_behind (x ∷ xs) ys (suc i) le =
      let e : suc i - length (x ∷ xs) ≡ i - length xs = omega arith in
      get_behind xs ys i (omega (arith, le)) ∙ ap (slice_get ys) (sym e)

  -- an item of the first list, and of the second
  pub item_front : (xs ys : List A) (i : ℕ) (x : A) → i < length xs → x ≡ get_or xs i x → slice_get (xs ++ ys) i ≡ Some x
  item_front xs ys i x lt is = get_front xs ys i lt ∙ (slice_get-get_or xs i x lt ∙ ap Some (sym is))

  pub item_second : (xs ys : List A) (i : ℕ) (y : A) → length xs ≤ i → i < length (xs ++ ys) → y ≡ get_or ys (i - length xs) y → slice_get (xs ++ ys) i ≡ Some y
  item_second xs ys i y le lt is = get_behind xs ys i le ∙ (slice_get-get_or ys (i - length xs) y (omega (arith, le, lt, length-append xs ys)) ∙ ap Some (sym is))

  -- two lists have one front more in common
  pub same_front : (xs ys : List A) (i : ℕ) (x y : A) → take i xs ≡ take i ys → slice_get xs i ≡ Some x → slice_get ys i ≡ Some y → x ≡ y → take (i + 1) xs ≡ take (i + 1) ys
  same_front xs ys i x y front there here same =
      take_more_same xs ys i x (slice_get_within xs i x there) (slice_get_within ys i y here) front
      (get_or_from_slice_get xs i x x there ∙ (same ∙ sym (get_or_from_slice_get ys i y x here)))

-- ---- parts one after the other

module _ {P A : Type 0} (f : P → List A) where
  pub flat_drop : (ps : List P) (i : ℕ) (p : P) → i < length ps → flat_map f (drop i ps) ≡ f (get_or ps i p) ++ flat_map f (drop (i + 1) ps)
  flat_drop ps i p lt = ap (flat_map f) (drop_more ps i p lt) ∙ flat_map-cons f (get_or ps i p) (drop (i + 1) ps)

  -- the item stands in this part
  pub item_here : (ps : List P) (i at left : ℕ) (p : P) → slice_get (flat_map f ps) at ≡ slice_get (flat_map f (drop i ps)) left → i < length ps → p ≡ get_or ps i p → left < length (f p)
      → slice_get (flat_map f ps) at ≡ slice_get (f p) left
  item_here ps i at left p before lt is here =
      before ∙ (ap (λ (xs : List A). slice_get xs left) (flat_drop ps i p lt)
      ∙ (ap (λ (q : P). slice_get (f q ++ flat_map f (drop (i + 1) ps)) left) (sym is)
      ∙ get_front (f p) (flat_map f (drop (i + 1) ps)) left here))

  -- it stands behind it
  pub item_behind : (ps : List P) (i at left : ℕ) (p : P) → slice_get (flat_map f ps) at ≡ slice_get (flat_map f (drop i ps)) left → i < length ps → p ≡ get_or ps i p → length (f p) ≤ left
      → slice_get (flat_map f ps) at ≡ slice_get (flat_map f (drop (i + 1) ps)) (left - length (f p))
  item_behind ps i at left p before lt is behind =
      before ∙ (ap (λ (xs : List A). slice_get xs left) (flat_drop ps i p lt)
      ∙ (ap (λ (q : P). slice_get (f q ++ flat_map f (drop (i + 1) ps)) left) (sym is)
      ∙ get_behind (f p) (flat_map f (drop (i + 1) ps)) left behind))

  -- the items of one part more
  pub flat_more : (ps : List P) (i : ℕ) (p : P) → i < length ps → p ≡ get_or ps i p → flat_map f (take (i + 1) ps) ≡ flat_map f (take i ps) ++ f p
  flat_more ps i p lt is =
      ap (flat_map f) (take_more ps i p lt)
      ∙ (flat_map-append f (take i ps) (get_or ps i p ∷ [])
      ∙ (ap (λ (q : P). flat_map f (take i ps) ++ flat_map f (q ∷ [])) (sym is)
      ∙ ap (λ (xs : List A). flat_map f (take i ps) ++ xs) (one p)))
    where
      one : (q : P) → flat_map f (q ∷ []) ≡ f q
      one q = flat_map-cons f q [] ∙ append-nil (f q)
