-- One punctuation more among those of one constant and the others, and the first that covers some cells.
use Rattle.std.proofs.Common.{◌≡◌, ◌⊎◌, ℕ, zero, suc, ◌<◌, Bool, true, false, cond, ◌&&◌, ◌||◌, List, [], ◌∷◌, ◌++◌, Option, Some, None, IfSome, inl, inr, length, map, filter, take, eqb, ltb, refl, ap, ap₂, sym, ◌∙◌, subst, arith, append_assoc}
use Rattle.std.specs.List.{list_any, slice_get}
use Rattle.std.specs.Map.{lookup, set_value}
use Rattle.std.proofs.lemmas.Bool.{and_parts, eq-eqb, eqb-true, false≢true, lt-ltb, ltb-true}
use Rattle.indexmap.specs.IndexMap.{insert_entry}
use Rattle.pj_value.specs.Lists.{In}
use Rattle.pj_value.specs.declared.values.Value.{Value}
use Rattle.pj_value.specs.Values.{value_eq}
use Rattle.pj_value.proofs.Members.{In-append_cases, In-append_left, In-append_right}
use Rattle.pj_value.proofs.Orders.{equal_itself, same_if_equal}
use Rattle.pj_value.specs.Options.{is_value}
use Rattle.pj_pattern.specs.declared.pattern.Form.TheVariants.{Wild, Empty, Constant as Fixed, Range, Members}
use Rattle.pj_events.specs.Patterns.{Pattern, all_wild, covers, is_wild, matches_value}
use Rattle.pj_pattern.specs.Patterns.{constant_in}
use Rattle.pj_puncts.specs.Hashes.{cell_at}
use Rattle.pj_puncts.specs.Stores.{AllAbove, AreRising, IsAbove}
use Rattle.pj_puncts.specs.Indexed.{IsCovering, IsFiled, IsUnfiled, first_covering, is_below, least}
use Rattle.pj_puncts.specs.Numbers.{HasNone, are_wild, constant, has_only, is_alone, number_of, numbers_in, numbers_with, same_constant, told, with_last}
use Rattle.pj_puncts.specs.Alone.{AreSame, HasMore, HasTaken, IsAlone, IsStored, alone, entered, first_in_cell, first_told, in_order, kept_of, least_in, only, placed}
use Rattle.pj_puncts.specs.Alike.{constant_equal_itself, constant_same_if_equal}
use Rattle.pj_puncts.specs.declared.index.Index.{Index}
use Rattle.pj_puncts.specs.declared.store.NumberedPunct.{NumberedPunct}
use Rattle.pj_puncts.specs.declared.numbers.Constant.{Constant}
use Rattle.pj_puncts.specs.declared.numbers.NumberLists.{NumberLists}
use Rattle.pj_puncts.proofs.Cellwise.{covers_equal}
use Rattle.pj_puncts.proofs.Filing.{below-all}
use Rattle.pj_puncts.proofs.Firsts.{rising-push}
use Rattle.pj_puncts.proofs.Lookups.{Covering, IsSound, IsUpTo, first-least, first-sound, least-left, least-right, one-least, sound-least, sound-none}
use Rattle.pj_puncts.proofs.Numbered.{numbers-more}

-- ---- order

placed-last : (k : NumberedPunct) (js : List NumberedPunct) → IsAbove k.number js → placed k js ≡ js ++ k ∷ []
placed-last k [] above = refl
placed-last k (j ∷ js) above = go (ltb k.number j.number) refl (placed-last k js above.1)
  where
    go : (b : Bool) → ltb k.number j.number ≡ b → placed k js ≡ js ++ k ∷ [] → cond b (k ∷ j ∷ js) (j ∷ placed k js) ≡ j ∷ (js ++ k ∷ [])
    go true e ih = let lt : k.number < j.number = ltb-true k.number j.number e in absurd (omega (arith, lt, above.0))
    go false e ih = ap (λ (xs : List NumberedPunct). j ∷ xs) ih

placed-before : (x k : NumberedPunct) (js : List NumberedPunct) → x.number < k.number → placed x (js ++ k ∷ []) ≡ placed x js ++ k ∷ []
placed-before x k [] lt = ap (λ b. cond b (x ∷ k ∷ []) (k ∷ x ∷ [])) (lt-ltb x.number k.number lt)
placed-before x k (j ∷ js) lt = go (ltb x.number j.number) (placed-before x k js lt)
  where
    go : (b : Bool) → placed x (js ++ k ∷ []) ≡ placed x js ++ k ∷ [] → cond b (x ∷ j ∷ (js ++ k ∷ [])) (j ∷ placed x (js ++ k ∷ [])) ≡ cond b (x ∷ j ∷ js) (j ∷ placed x js) ++ k ∷ []
    go true ih = refl
    go false ih = ap (λ (xs : List NumberedPunct). j ∷ xs) ih

above-placed : (n : ℕ) (x : NumberedPunct) (js : List NumberedPunct) → IsAbove n (placed x js) → (x.number < n) × IsAbove n js
above-placed n x [] above = (above.0, tt)
above-placed n x (j ∷ js) above = go (ltb x.number j.number) above (above-placed n x js)
  where
    go : (b : Bool) → IsAbove n (cond b (x ∷ j ∷ js) (j ∷ placed x js)) → (IsAbove n (placed x js) → (x.number < n) × IsAbove n js) → (x.number < n) × IsAbove n (j ∷ js)
    go true a ih = (a.0, a.1)
    go false a ih = let r = ih a.1 in (r.0, (a.0, r.1))

one-more : (k : NumberedPunct) (xs ys : List NumberedPunct) → IsAbove k.number (in_order (xs ++ ys)) → in_order (xs ++ k ∷ ys) ≡ in_order (xs ++ ys) ++ k ∷ []
one-more k [] ys above = placed-last k (in_order ys) above
one-more k (x ∷ xs) ys above = let r = above-placed k.number x (in_order (xs ++ ys)) above in ap (placed x) (one-more k xs ys r.1) ∙ placed-before x k (in_order (xs ++ ys)) r.0

entered-more : (k : NumberedPunct) (others old new : List NumberedPunct) → HasMore k old new → IsAbove k.number (in_order (others ++ old)) → in_order (others ++ new) ≡ in_order (others ++ old) ++ k ∷ []
entered-more k others old new h above =
    let a : others ++ old ≡ (others ++ h.front) ++ h.back = ap (λ (xs : List NumberedPunct). others ++ xs) h.old_is ∙ sym (append_assoc others h.front h.back) in
    let b : others ++ new ≡ (others ++ h.front) ++ k ∷ h.back = ap (λ (xs : List NumberedPunct). others ++ xs) h.new_is ∙ sym (append_assoc others h.front (k ∷ h.back)) in
    ap in_order b
    ∙ (one-more k (others ++ h.front) h.back (subst (λ (xs : List NumberedPunct). IsAbove k.number (in_order xs)) a above) ∙ ap (λ (xs : List NumberedPunct). in_order xs ++ k ∷ []) (sym a))

others-more : (k : NumberedPunct) (others es : List NumberedPunct) → IsAbove k.number (in_order (others ++ es)) → in_order ((others ++ k ∷ []) ++ es) ≡ in_order (others ++ es) ++ k ∷ []
others-more k others es above = ap in_order (append_assoc others (k ∷ []) es) ∙ one-more k others es above

-- ---- the entries of the map

pushed : (f : ℕ → NumberedPunct) (ns : List ℕ) (n : ℕ) (ks : List NumberedPunct) → map f (ns ++ n ∷ []) ++ ks ≡ map f ns ++ f n ∷ ks
pushed f [] n ks = refl
pushed f (m ∷ ns) n ks = ap (λ (xs : List NumberedPunct). f m ∷ xs) (pushed f ns n ks)

behind : (k : NumberedPunct) (xs old new : List NumberedPunct) → HasMore k old new → HasMore k (xs ++ old) (xs ++ new)
behind k xs old new h = record {
  front = xs ++ h.front;
  back = h.back;
  old_is = ap (λ (ys : List NumberedPunct). xs ++ ys) h.old_is ∙ sym (append_assoc xs h.front h.back);
  new_is = ap (λ (ys : List NumberedPunct). xs ++ ys) h.new_is ∙ sym (append_assoc xs h.front (k ∷ h.back));
}

some-list : (xs ys : List ℕ) → Some xs ≡ Some ys → xs ≡ ys
some-list xs ys e = cc

-- one number more behind those of the constant
pub set_more : (key : Constant) (number arity : ℕ) (ns : List ℕ) (es : List (Constant × List ℕ)) → lookup (same_constant key) es ≡ Some ns
    → HasMore (alone arity key number) (entered arity es) (entered arity (set_value (same_constant key) es (ns ++ number ∷ [])))
set_more key number arity ns [] found = absurd (cc)
set_more key number arity ns (e ∷ es) found = go (same_constant key e.0) refl found (set_more key number arity ns es)
  where
    k : NumberedPunct
    k = alone arity key number

    new : List (Constant × List ℕ)
    new = set_value (same_constant key) es (ns ++ number ∷ [])

    go : (b : Bool) → same_constant key e.0 ≡ b → cond b (Some e.1) (lookup (same_constant key) es) ≡ Some ns → (lookup (same_constant key) es ≡ Some ns → HasMore k (entered arity es) (entered arity new))
        → HasMore k (map (alone arity e.0) e.1 ++ entered arity es) (entered arity (cond b ((e.0, ns ++ number ∷ []) ∷ es) (e ∷ new)))
    go true t f ih = record {
      front = map (alone arity e.0) e.1;
      back = entered arity es;
      old_is = refl;
      new_is =
          pushed (alone arity e.0) ns number (entered arity es)
          ∙ (ap (λ (ms : List ℕ). map (alone arity e.0) ms ++ alone arity e.0 number ∷ entered arity es) (sym (some-list e.1 ns f))
          ∙ ap (λ (c : Constant). map (alone arity e.0) e.1 ++ alone arity c number ∷ entered arity es) (sym (constant_same_if_equal key e.0 t)));
    }
    go false t f ih = behind k (map (alone arity e.0) e.1) (entered arity es) (entered arity new) (ih f)

-- or a constant more with this number
pub insert_more : (key : Constant) (number arity : ℕ) (es : List (Constant × List ℕ)) → lookup (same_constant key) es ≡ None
    → HasMore (alone arity key number) (entered arity es) (entered arity (insert_entry same_constant es key (number ∷ [])))
insert_more key number arity [] none = record { front = []; back = []; old_is = refl; new_is = refl }
insert_more key number arity (e ∷ es) none = go (same_constant key e.0) none (insert_more key number arity es)
  where
    k : NumberedPunct
    k = alone arity key number

    new : List (Constant × List ℕ)
    new = insert_entry same_constant es key (number ∷ [])

    go : (b : Bool) → cond b (Some e.1) (lookup (same_constant key) es) ≡ None → (lookup (same_constant key) es ≡ None → HasMore k (entered arity es) (entered arity new))
        → HasMore k (map (alone arity e.0) e.1 ++ entered arity es) (entered arity (cond b ((e.0, number ∷ []) ∷ es) (e ∷ new)))
    go true f ih = absurd (cc)
    go false f ih = behind k (map (alone arity e.0) e.1) (entered arity es) (entered arity new) (ih f)

-- ---- columns

-- a column that is named is one of those
pub named_in : (columns : List ℕ) (column : ℕ) → list_any (λ y. eqb y column) columns ≡ true → In column columns
named_in [] column t = absurd (false≢true t)
named_in (c ∷ columns) column t = go (eqb c column) refl t (named_in columns column)
  where
    go : (b : Bool) → eqb c column ≡ b → (b || list_any (λ y. eqb y column) columns) ≡ true → (list_any (λ y. eqb y column) columns ≡ true → In column columns) → In column (c ∷ columns)
    go true e h ih = inl (eqb-true c column e)
    go false e h ih = inr (ih h)

-- ---- patterns with one constant

pub is-wild : (p : Pattern) → is_wild p ≡ true → p ≡ Wild
is-wild Wild t = refl
is-wild Empty t = absurd (false≢true t)
is-wild (Fixed c) t = absurd (false≢true t)
is-wild (Range low high) t = absurd (false≢true t)
is-wild (Members ms) t = absurd (false≢true t)

is-fixed : (p : Pattern) (v : Value) → is_value v (constant_in p) ≡ true → p ≡ Fixed v
is-fixed Wild v t = absurd (false≢true t)
is-fixed Empty v t = absurd (false≢true t)
is-fixed (Fixed c) v t = ap (λ (w : Value). Fixed w) (same_if_equal c v t)
is-fixed (Range low high) v t = absurd (false≢true t)
is-fixed (Members ms) v t = absurd (false≢true t)

pub wild-is : (ps : List Pattern) → are_wild ps ≡ true → ps ≡ all_wild (length ps)
wild-is [] t = refl
wild-is (p ∷ ps) t = let a = and_parts (is_wild p) (are_wild ps) t in ap₂ (λ (q : Pattern) (qs : List Pattern). q ∷ qs) (is-wild p a.0) (wild-is ps a.1)

only-is : (c : ℕ) (v : Value) (ps : List Pattern) → has_only c v ps ≡ true → ps ≡ only (length ps) c v
only-is c v [] t = absurd (false≢true t)
only-is zero v (p ∷ ps) t = let a = and_parts (is_value v (constant_in p)) (are_wild ps) t in ap₂ (λ (q : Pattern) (qs : List Pattern). q ∷ qs) (is-fixed p v a.0) (wild-is ps a.1)
only-is (suc c) v (p ∷ ps) t = let a = and_parts (is_wild p) (has_only c v ps) t in ap₂ (λ (q : Pattern) (qs : List Pattern). q ∷ qs) (is-wild p a.0) (only-is c v ps a.1)

-- ---- the cells that they cover

wild-covers : (p : Pattern) (cell : Option Value) (ps : List Pattern) (cells : List (Option Value)) → is_wild p ≡ true → covers ps cells ≡ true → covers (p ∷ ps) (cell ∷ cells) ≡ true
wild-covers p cell ps cells w t = subst (λ (q : Pattern). covers (q ∷ ps) (cell ∷ cells) ≡ true) (sym (is-wild p w)) (go cell)
  where
    go : (cell : Option Value) → covers (Wild ∷ ps) (cell ∷ cells) ≡ true
    go None = t
    go (Some v) = t

all-covered : (ps : List Pattern) (cells : List (Option Value)) → are_wild ps ≡ true → length ps ≡ length cells → covers ps cells ≡ true
all-covered [] [] t e = refl
all-covered [] (c ∷ cells) t e = absurd (omega (arith, e))
all-covered (p ∷ ps) [] t e = absurd (omega (arith, e))
all-covered (p ∷ ps) (c ∷ cells) t e = let a = and_parts (is_wild p) (are_wild ps) t in wild-covers p c ps cells a.0 (all-covered ps cells a.1 (omega (arith, e)))

covered-there : (c : ℕ) (v : Value) (ps : List Pattern) (cells : List (Option Value)) → has_only c v ps ≡ true → length ps ≡ length cells → cell_at cells c ≡ Some v → covers ps cells ≡ true
covered-there c v [] cells t e f = absurd (false≢true t)
covered-there c v (p ∷ ps) [] t e f = absurd (omega (arith, e))
covered-there zero v (p ∷ ps) (cell ∷ cells) t e f =
    let a = and_parts (is_value v (constant_in p)) (are_wild ps) t in
    let rest : covers ps cells ≡ true = all-covered ps cells a.1 (omega (arith, e)) in
    subst (λ (x : Option Value). covers (p ∷ ps) (x ∷ cells) ≡ true) (sym f)
    (subst (λ (q : Pattern). covers (q ∷ ps) (Some v ∷ cells) ≡ true) (sym (is-fixed p v a.0)) (ap₂ (λ x y. x && y) (equal_itself v) rest))
covered-there (suc c) v (p ∷ ps) (cell ∷ cells) t e f =
    let a = and_parts (is_wild p) (has_only c v ps) t in wild-covers p cell ps cells a.0 (covered-there c v ps cells a.1 (omega (arith, e)) f)

pub rest-covered : (p : Pattern) (cell : Option Value) (ps : List Pattern) (cells : List (Option Value)) → covers (p ∷ ps) (cell ∷ cells) ≡ true → covers ps cells ≡ true
rest-covered p None ps cells t = (and_parts (is_wild p) (covers ps cells) t).1
rest-covered p (Some v) ps cells t = (and_parts (matches_value p v) (covers ps cells) t).1

cell-there : (c : ℕ) (v : Value) (ps : List Pattern) (cells : List (Option Value)) → has_only c v ps ≡ true → covers ps cells ≡ true → cell_at cells c ≡ Some v
cell-there c v [] cells t u = absurd (false≢true t)
cell-there c v (p ∷ ps) [] t u = absurd (false≢true u)
cell-there zero v (p ∷ ps) (cell ∷ cells) t u =
    let a = and_parts (is_value v (constant_in p)) (are_wild ps) t in
    go cell (subst (λ (q : Pattern). covers (q ∷ ps) (cell ∷ cells) ≡ true) (is-fixed p v a.0) u)
  where
    go : (cell : Option Value) → covers (Fixed v ∷ ps) (cell ∷ cells) ≡ true → cell ≡ Some v
    go None h = absurd (false≢true h)
    go (Some w) h = ap Some (sym (same_if_equal v w (and_parts (value_eq v w) (covers ps cells) h).0))
cell-there (suc c) v (p ∷ ps) (cell ∷ cells) t u = cell-there c v ps cells (and_parts (is_wild p) (has_only c v ps) t).1 (rest-covered p cell ps cells u)

-- ---- the first number of a constant

all-above : (n : ℕ) (ks : List NumberedPunct) (k : NumberedPunct) → AllAbove n ks → In k ks → n < k.number
all-above n [] k all h = absurd h
all-above n (x ∷ ks) k all (inl e) = subst (λ (y : NumberedPunct). n < y.number) e all.0
all-above n (x ∷ ks) k all (inr h) = all-above n ks k all.1 h

head-up-to : (c : ℕ) (v : Value) (ks : List NumberedPunct) (k : NumberedPunct) → AreRising ks → In k ks → has_only c v k.punct ≡ true → IsUpTo (slice_get (numbers_with c v ks) 0) k.number
head-up-to c v [] k rises h t = absurd h
head-up-to c v (x ∷ ks) k rises h t = go (is_alone c v x) refl h (λ g. head-up-to c v ks k rises.1 g t)
  where
    go : (b : Bool) → is_alone c v x ≡ b → In k (x ∷ ks) → (In k ks → IsUpTo (slice_get (numbers_with c v ks) 0) k.number)
        → IsUpTo (slice_get (map number_of (cond b (x ∷ filter (is_alone c v) ks) (filter (is_alone c v) ks))) 0) k.number
    go true e (inl q) ih = omega (arith, ap (λ (y : NumberedPunct). y.number) q)
    go true e (inr g) ih = let lt : x.number < k.number = all-above x.number ks k rises.0 g in omega (arith, lt)
    go false e (inl q) ih = absurd (false≢true (sym e ∙ (ap (λ (y : NumberedPunct). has_only c v y.punct) q ∙ t)))
    go false e (inr g) ih = ih g

head-there : (c : ℕ) (v : Value) (ks : List NumberedPunct) (n : ℕ) → slice_get (numbers_with c v ks) 0 ≡ Some n → (k : NumberedPunct) × In k ks × (has_only c v k.punct ≡ true) × (k.number ≡ n)
head-there c v [] n e = absurd (cc)
head-there c v (x ∷ ks) n e = go (is_alone c v x) refl e (head-there c v ks n)
  where
    some-same : (a b : ℕ) → Some a ≡ Some b → a ≡ b
    some-same a b q = cc

    go : (b : Bool) → is_alone c v x ≡ b → slice_get (map number_of (cond b (x ∷ filter (is_alone c v) ks) (filter (is_alone c v) ks))) 0 ≡ Some n
        → (slice_get (numbers_with c v ks) 0 ≡ Some n → (k : NumberedPunct) × In k ks × (has_only c v k.punct ≡ true) × (k.number ≡ n))
        → (k : NumberedPunct) × In k (x ∷ ks) × (has_only c v k.punct ≡ true) × (k.number ≡ n)
    go true t f ih = (x, inl refl, t, some-same x.number n f)
    go false t f ih = let r = ih f in (r.0, inr r.1, r.2, r.3)

-- ---- the least over the columns

least-keeps : (tells : ℕ → Value → List ℕ) (cells : List (Option Value)) (best : Option ℕ) (cs : List ℕ) (n : ℕ) → IsUpTo best n → IsUpTo (least_in tells cells best cs) n
least-keeps tells cells best [] n h = h
least-keeps tells cells best (c ∷ cs) n h = least-keeps tells cells (least best (first_in_cell tells c (cell_at cells c))) cs n (least-left best (first_in_cell tells c (cell_at cells c)) n h)

least-up-to : (tells : ℕ → Value → List ℕ) (cells : List (Option Value)) (best : Option ℕ) (cs : List ℕ) (c n : ℕ) → In c cs → IsUpTo (first_in_cell tells c (cell_at cells c)) n → IsUpTo (least_in tells cells best cs) n
least-up-to tells cells best [] c n h u = absurd h
least-up-to tells cells best (d ∷ cs) c n (inl e) u =
    let v : IsUpTo (first_in_cell tells d (cell_at cells d)) n = subst (λ m. IsUpTo (first_in_cell tells m (cell_at cells m)) n) (sym e) u in
    least-keeps tells cells (least best (first_in_cell tells d (cell_at cells d))) cs n (least-right best (first_in_cell tells d (cell_at cells d)) n v)
least-up-to tells cells best (d ∷ cs) c n (inr h) u = least-up-to tells cells (least best (first_in_cell tells d (cell_at cells d))) cs c n h u

least-sound : (kept : List NumberedPunct) (tells : ℕ → Value → List ℕ) (cells : List (Option Value)) (best : Option ℕ) (cs : List ℕ) → IsSound kept cells best
    → ((c : ℕ) → IsSound kept cells (first_in_cell tells c (cell_at cells c))) → IsSound kept cells (least_in tells cells best cs)
least-sound kept tells cells best [] s f = s
least-sound kept tells cells best (c ∷ cs) s f =
    least-sound kept tells cells (least best (first_in_cell tells c (cell_at cells c))) cs (sound-least kept cells best (first_in_cell tells c (cell_at cells c)) s (f c)) f

module _ (arity : ℕ) (kept others : List NumberedPunct) (index : Index) (lists : NumberLists) (is : IsStored arity kept others index lists) (cells : List (Option Value)) where
  cell-sound : length cells ≡ arity → (c : ℕ) → IsSound kept cells (first_in_cell (told lists) c (cell_at cells c))
  cell-sound size c = go (cell_at cells c) refl
    where
      go : (o : Option Value) → cell_at cells c ≡ o → IsSound kept cells (first_in_cell (told lists) c o)
      go None e n f = sound-none kept cells n f
      go (Some v) e n f =
          let r = head-there c v kept n (ap (λ (ns : List ℕ). slice_get ns 0) (sym (is.told_all c v)) ∙ f) in
          (r.0, r.1, covered-there c v r.0.punct cells r.2 (is.fits r.0 r.1 ∙ sym size) e, r.3)

  told-sound : IsSound kept cells (first_told arity lists cells)
  told-sound = go (eqb (length cells) arity) refl
    where
      go : (b : Bool) → eqb (length cells) arity ≡ b → IsSound kept cells (cond b (least_in (told lists) cells None lists.columns) None)
      go true t = least-sound kept (told lists) cells None lists.columns (sound-none kept cells) (cell-sound (eqb-true (length cells) arity t))
      go false t = sound-none kept cells

  told-up-to : (k : NumberedPunct) → In k kept → covers k.punct cells ≡ true → IsAlone lists.columns k → IsUpTo (first_told arity lists cells) k.number
  told-up-to k h t a =
      let size : length cells ≡ arity = sym (covers_equal k.punct cells t) ∙ is.fits k h in
      let cell : cell_at cells a.0 ≡ Some a.1 = cell-there a.0 a.1 k.punct cells a.3 t in
      let head : IsUpTo (slice_get (told lists a.0 a.1) 0) k.number = subst (λ (ns : List ℕ). IsUpTo (slice_get ns 0) k.number) (sym (is.told_all a.0 a.1)) (head-up-to a.0 a.1 kept k is.rising h a.3) in
      subst (λ b. IsUpTo (cond b (least_in (told lists) cells None lists.columns) None) k.number) (sym (eq-eqb (length cells) arity size))
      (least-up-to (told lists) cells None lists.columns a.0 k.number a.2 (subst (λ (o : Option Value). IsUpTo (first_in_cell (told lists) a.0 o) k.number) (sym cell) head))

  others-sound : IsSound kept cells (first_covering others cells)
  others-sound n e = let c = first-sound others cells n e in (c.0, is.among c.0 c.1, c.2, c.3)

  all-up-to : (n : ℕ) → Covering kept cells n → IsUpTo (least (first_told arity lists cells) (first_covering others cells)) n
  all-up-to n (k, h, t, q) = elim (is.split k h) [
    | inl g ↦ least-right (first_told arity lists cells) (first_covering others cells) n (first-least others cells n is.indexed.rising (k, g, t, q))
    | inr a ↦ least-left (first_told arity lists cells) (first_covering others cells) n (subst (IsUpTo (first_told arity lists cells)) q (told-up-to k h t a))
  ]

  -- the lesser of the first of one constant and the first of the others
  pub first_of_all : least (first_told arity lists cells) (first_covering others cells) ≡ first_covering kept cells
  first_of_all =
      one-least kept cells (least (first_told arity lists cells) (first_covering others cells)) (first_covering kept cells) (sound-least kept cells (first_told arity lists cells) (first_covering others cells) told-sound others-sound) (first-sound kept cells)
      all-up-to (λ n c. first-least kept cells n is.rising c)

pub below_left : (a b : Option ℕ) (below : ℕ) → is_below a below ≡ true → is_below (least a b) below ≡ true
below_left None b below t = absurd (false≢true t)
below_left (Some n) None below t = t
below_left (Some n) (Some m) below t = go (ltb m n) refl
  where
    go : (b : Bool) → ltb m n ≡ b → is_below (cond b (Some m) (Some n)) below ≡ true
    go true e = let l : m < n = ltb-true m n e in let r : n < below = ltb-true n below t in lt-ltb m below (omega (arith, l, r))
    go false e = t

-- ---- what is kept, with one more

abbrev pub of : List Pattern → ℕ → NumberedPunct
of patterns number = record { punct = patterns; number = number }

own-one : (patterns : List Pattern) (number arity : ℕ) (old new : NumberLists) (h : HasTaken patterns number old new) → length patterns ≡ arity → has_only h.key.column h.key.value patterns ≡ true
own-one patterns number arity old new h size = h.only_one h.key.column h.key.value ∙ constant_equal_itself h.key

one-is : (patterns : List Pattern) (number arity : ℕ) (old new : NumberLists) (h : HasTaken patterns number old new) → length patterns ≡ arity → alone arity h.key number ≡ of patterns number
one-is patterns number arity old new h size =
    ap (λ (ps : List Pattern). of ps number) (sym (only-is h.key.column h.key.value patterns (own-one patterns number arity old new h size) ∙ ap (λ m. only m h.key.column h.key.value) size))

pub taken_kept : (patterns : List Pattern) (number arity : ℕ) (others : List NumberedPunct) (old new : NumberLists) → HasTaken patterns number old new → length patterns ≡ arity → IsAbove number (kept_of arity others old)
    → kept_of arity others new ≡ kept_of arity others old ++ of patterns number ∷ []
taken_kept patterns number arity others old new h size above =
    entered-more (of patterns number) others (entered arity old.lists.entries) (entered arity new.lists.entries)
    (subst (λ (k : NumberedPunct). HasMore k (entered arity old.lists.entries) (entered arity new.lists.entries)) (one-is patterns number arity old new h size) (h.added.more arity)) above

fits-more : (arity : ℕ) (kept : List NumberedPunct) (k : NumberedPunct) → length k.punct ≡ arity → ((x : NumberedPunct) → In x kept → length x.punct ≡ arity) → (x : NumberedPunct) → In x (kept ++ k ∷ []) → length x.punct ≡ arity
fits-more arity kept k size fits x h = go (In-append_cases x kept (k ∷ []) h)
  where
    go : In x kept ⊎ In x (k ∷ []) → length x.punct ≡ arity
    go (inl g) = fits x g
    go (inr (inl q)) = subst (λ (y : NumberedPunct). length y.punct ≡ arity) q size
    go (inr (inr none)) = absurd none

pub taken_stored : (patterns : List Pattern) (number arity : ℕ) (others : List NumberedPunct) (index : Index) (old new : NumberLists) → HasTaken patterns number old new → length patterns ≡ arity → IsAbove number (kept_of arity others old)
    → IsStored arity (kept_of arity others old) others index old → IsStored arity (kept_of arity others new) others index new
taken_stored patterns number arity others index old new h size above is =
    subst (λ (ks : List NumberedPunct). IsStored arity ks others index new) (sym (taken_kept patterns number arity others old new h size above)) (record {
      fits = fits-more arity kept k size is.fits;
      rising = rising-push kept k is.rising above;
      told_all = λ c v.
          h.added.tells c v
          ∙ (ap (λ b. cond b (with_last number (told old c v)) (told old c v)) (sym (h.only_one c v))
          ∙ (ap (λ (ns : List ℕ). cond (has_only c v patterns) (with_last number ns) ns) (is.told_all c v) ∙ sym (numbers-more c v kept k)));
      indexed = is.indexed;
      among = λ x g. In-append_left x kept (k ∷ []) (is.among x g);
      split = λ x g. go x (In-append_cases x kept (k ∷ []) g);
    })
  where
    kept : List NumberedPunct
    kept = kept_of arity others old

    k : NumberedPunct
    k = of patterns number

    go : (x : NumberedPunct) → In x kept ⊎ In x (k ∷ []) → In x others ⊎ IsAlone new.columns x
    go x (inl g) = elim (is.split x g) [
      | inl o ↦ inl o
      | inr a ↦ inr (a.0, a.1, h.added.columns a.0 a.2, a.3)
    ]
    go x (inr (inl q)) = inr (h.key.column, h.key.value, h.added.here, subst (λ (y : NumberedPunct). has_only h.key.column h.key.value y.punct ≡ true) q (own-one patterns number arity old new h size))
    go x (inr (inr none)) = absurd none

pub other_kept : (arity : ℕ) (others : List NumberedPunct) (lists : NumberLists) (k : NumberedPunct) → IsAbove k.number (kept_of arity others lists) → kept_of arity (others ++ k ∷ []) lists ≡ kept_of arity others lists ++ k ∷ []
other_kept arity others lists k above = others-more k others (entered arity lists.lists.entries) above

above-each : (n : ℕ) (ks : List NumberedPunct) → ((j : NumberedPunct) → In j ks → j.number < n) → IsAbove n ks
above-each n [] all = tt
above-each n (k ∷ ks) all = (all k (inl refl), above-each n ks (λ j h. all j (inr h)))

pub other_stored : (arity : ℕ) (others : List NumberedPunct) (index more : Index) (lists : NumberLists) (k : NumberedPunct) → HasNone k.punct → length k.punct ≡ arity → IsAbove k.number (kept_of arity others lists)
    → IsFiled (others ++ k ∷ []) index more → IsStored arity (kept_of arity others lists) others index lists → IsStored arity (kept_of arity (others ++ k ∷ []) lists) (others ++ k ∷ []) more lists
other_stored arity others index more lists k none size above filed is =
    subst (λ (ks : List NumberedPunct). IsStored arity ks (others ++ k ∷ []) more lists) (sym (other_kept arity others lists k above)) (record {
      fits = fits-more arity kept k size is.fits;
      rising = rising-push kept k is.rising above;
      told_all = λ c v. is.told_all c v ∙ sym (numbers-more c v kept k ∙ ap (λ b. cond b (with_last k.number (numbers_with c v kept)) (numbers_with c v kept)) (none c v));
      indexed = filed others k refl (above-each k.number others (λ j h. below-all k.number kept j above (is.among j h))) is.indexed;
      among = λ x g. go-in x (In-append_cases x others (k ∷ []) g);
      split = λ x g. go x (In-append_cases x kept (k ∷ []) g);
    })
  where
    kept : List NumberedPunct
    kept = kept_of arity others lists

    go-in : (x : NumberedPunct) → In x others ⊎ In x (k ∷ []) → In x (kept ++ k ∷ [])
    go-in x (inl g) = In-append_left x kept (k ∷ []) (is.among x g)
    go-in x (inr g) = In-append_right x kept (k ∷ []) g

    go : (x : NumberedPunct) → In x kept ⊎ In x (k ∷ []) → In x (others ++ k ∷ []) ⊎ IsAlone lists.columns x
    go x (inl g) = elim (is.split x g) [
      | inl o ↦ inl (In-append_left x others (k ∷ []) o)
      | inr a ↦ inr a
    ]
    go x (inr g) = inl (In-append_right x others (k ∷ []) g)

pub same_kept : (arity : ℕ) (others : List NumberedPunct) (old new : NumberLists) → AreSame old new → kept_of arity others new ≡ kept_of arity others old
same_kept arity others old new same = ap (λ (es : List (Constant × List ℕ)). in_order (others ++ entered arity es)) same.entries

pub same_stored : (arity : ℕ) (others : List NumberedPunct) (index : Index) (old new : NumberLists) → AreSame old new → IsStored arity (kept_of arity others old) others index old → IsStored arity (kept_of arity others new) others index new
same_stored arity others index old new same is = subst (λ (ks : List NumberedPunct). IsStored arity ks others index new) (sym (same_kept arity others old new same)) (record {
  fits = is.fits;
  rising = is.rising;
  told_all = λ c v. ap (λ (es : List (Constant × List ℕ)). numbers_in (lookup (same_constant (constant c v)) es)) same.entries ∙ is.told_all c v;
  indexed = is.indexed;
  among = is.among;
  split = λ x g. elim (is.split x g) [
    | inl o ↦ inl o
    | inr a ↦ inr (a.0, a.1, same.columns a.0 a.2, a.3)
  ];
})

pub unfiled_stored : (arity : ℕ) (kept others : List NumberedPunct) (index more : Index) (lists : NumberLists) → IsUnfiled index more → IsStored arity kept others index lists → IsStored arity kept others more lists
unfiled_stored arity kept others index more lists unfiled is = record {
  fits = is.fits;
  rising = is.rising;
  told_all = is.told_all;
  indexed = unfiled others is.indexed;
  among = is.among;
  split = is.split;
}

pub moved : (arity : ℕ) (others more : List NumberedPunct) (index : Index) (lists other : NumberLists) → more ≡ others → other ≡ lists → IsStored arity (kept_of arity others lists) others index lists → IsStored arity (kept_of arity more other) more index other
moved arity others more index lists other e f is =
    subst (λ (l : NumberLists). IsStored arity (kept_of arity more l) more index l) (sym f) (subst (λ (ks : List NumberedPunct). IsStored arity (kept_of arity ks lists) ks index lists) (sym e) is)

pub front_is : (ks : List NumberedPunct) (k : NumberedPunct) → take (length ks) (ks ++ k ∷ []) ≡ ks
front_is [] k = refl
front_is (x ∷ ks) k = ap (λ (xs : List NumberedPunct). x ∷ xs) (front_is ks k)

-- one of the others that covers the cells is one of all
pub among_all : (arity : ℕ) (kept others : List NumberedPunct) (index : Index) (lists : NumberLists) (cells : List (Option Value)) (o : Option ℕ) → IsStored arity kept others index lists → IfSome o (IsCovering others cells) → IfSome o (IsCovering kept cells)
among_all arity kept others index lists cells None is h = h
among_all arity kept others index lists cells (Some n) is h = (h.0, is.among h.0 h.1, h.2, h.3)
