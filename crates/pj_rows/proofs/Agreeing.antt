-- When a row may be added to rows that join.
use Rattle.std.proofs.Common.{ℕ, Bool, true, false, cond, ◌&&◌, ◌||◌, not, List, [], ◌∷◌, ◌++◌, ◌≡◌, ◌⊎◌, map, get_or, refl, sym, ap, ◌∙◌, subst, inl, inr, eqb}
use Rattle.std.specs.List.{list_all}
use Rattle.std.proofs.lemmas.Bool.{and_parts, and_from, eqb-true, eq-eqb}
use Rattle.pj_value.specs.Values.{value_eq}
use Rattle.pj_shape.specs.Joining.{values_in, all_equal}
use Rattle.pj_shape.specs.declared.joins.JoinSpec.{JoinSpec}
use Rattle.pj_shape.specs.Sound.{AreOfOtherInputs, IsSoundSpec}
use Rattle.pj_events.specs.Join.{In, TupleAt, ClassCol, Value, Part, no_value, values, part_of, agree, CertEntry, need}
use Rattle.pj_rows.specs.AgreesWith.{has_there, all_have, agrees_with_class, agrees_with}
use Rattle.pj_shape.proofs.Joining.{all_equal-from}
use Rattle.pj_value.proofs.Orders.{same_if_equal, equal_if_same}
use Rattle.pj_value.proofs.Members.{In-append_left, In-append_right, In-append_cases, In-map, In-flat_map, all_at, all_from}
use Rattle.pj_join_laws.proofs.Matching.{value-in, agree-at, agree-mono}

-- ---- the values of tuples in a class

-- a column of the class, and a tuple of its input that has this value there
pub record IsSource (xs : List TupleAt) (class : List ClassCol) (v : Value) : Type 0 where
  pub at : ClassCol
  pub tuple : TupleAt
  pub of_class : In at class
  pub of_tuples : In tuple xs
  pub same_input : tuple.input ≡ at.input
  pub value : get_or tuple.row at.column no_value ≡ v

cell-source : (at : ClassCol) (p : Part) (v : Value) → In v (cond (eqb p.input at.input) (get_or p.row at.column no_value ∷ []) []) → (p.input ≡ at.input) × (get_or p.row at.column no_value ≡ v)
cell-source at p v h = go (eqb p.input at.input) refl h
  where
    go : (b : Bool) → eqb p.input at.input ≡ b → In v (cond b (get_or p.row at.column no_value ∷ []) []) → (p.input ≡ at.input) × (get_or p.row at.column no_value ≡ v)
    go true e (inl k) = (eqb-true p.input at.input e, k)
    go true e (inr k) = absurd k
    go false e k = absurd k

pub source-of : (xs : List TupleAt) (class : List ClassCol) (v : Value) → In v (values (map part_of xs) class) → IsSource xs class v
source-of xs class v h =
    let c = In-flat_map (values_in (map part_of xs)) v class h in
    let f : Part → List Value = λ p. cond (eqb p.input c.0.input) (get_or p.row c.0.column no_value ∷ []) [] in
    let p = In-flat_map f v (map part_of xs) c.2 in
    let x = In-map part_of p.0 xs p.1 in
    let k = cell-source c.0 p.0 v p.2 in
    record {
      at = c.0;
      tuple = x.0;
      of_class = c.1;
      of_tuples = x.1;
      same_input = ap (λ (q : Part). q.input) x.2 ∙ k.0;
      value = ap (λ (q : Part). get_or q.row c.0.column no_value) x.2 ∙ k.1;
    }

-- ---- one more

has_there-from : (v : Value) (at : ClassCol) (x : TupleAt) → (x.input ≡ at.input → v ≡ get_or x.row at.column no_value) → has_there v at x ≡ true
has_there-from v at x f = go (eqb x.input at.input) refl
  where
    go : (b : Bool) → eqb x.input at.input ≡ b → (not b || value_eq v (get_or x.row at.column no_value)) ≡ true
    go false e = refl
    go true e = equal_if_same v (get_or x.row at.column no_value) (f (eqb-true x.input at.input e))

has_there-at : (v : Value) (at : ClassCol) (x : TupleAt) → has_there v at x ≡ true → x.input ≡ at.input → v ≡ get_or x.row at.column no_value
has_there-at v at x t e = same_if_equal v (get_or x.row at.column no_value) (subst (λ b. (not b || value_eq v (get_or x.row at.column no_value)) ≡ true) (eq-eqb x.input at.input e) t)

all_have-at : (class : List ClassCol) (xs : List TupleAt) (more : TupleAt) (v : Value) (at : ClassCol) (x : TupleAt) → all_have class xs more v ≡ true → In at class → In x (xs ++ more ∷ []) → x.input ≡ at.input → v ≡ get_or x.row at.column no_value
all_have-at class xs more v at x t h hx e =
    let two = and_parts (has_there v at more) (list_all (has_there v at) xs) (all_at (λ a. has_there v a more && list_all (has_there v a) xs) class at t h) in
    has_there-at v at x (go two.0 two.1 (In-append_cases x xs (more ∷ []) hx)) e
  where
    go : has_there v at more ≡ true → list_all (has_there v at) xs ≡ true → In x xs ⊎ In x (more ∷ []) → has_there v at x ≡ true
    go a b (inl k) = all_at (has_there v at) xs x b k
    go a b (inr (inl k)) = subst (λ (y : TupleAt). has_there v at y ≡ true) k a
    go a b (inr (inr k)) = absurd k

all_have-from : (class : List ClassCol) (xs : List TupleAt) (more : TupleAt) (v : Value) → ((at : ClassCol) (x : TupleAt) → In at class → In x (xs ++ more ∷ []) → x.input ≡ at.input → v ≡ get_or x.row at.column no_value) → all_have class xs more v ≡ true
all_have-from class xs more v f =
    all_from (λ a. has_there v a more && list_all (has_there v a) xs) class (λ at h.
    and_from (has_there v at more) (list_all (has_there v at) xs)
    (has_there-from v at more (f at more h (In-append_right more xs (more ∷ []) (inl refl))))
    (all_from (has_there v at) xs (λ x hx. has_there-from v at x (f at x h (In-append_left x xs (more ∷ []) hx)))))

guarded : (a b : ℕ) (c : Bool) → (a ≡ b → c ≡ true) → (not (eqb a b) || c) ≡ true
guarded a b c f = go (eqb a b) refl
  where
    go : (d : Bool) → eqb a b ≡ d → (not d || c) ≡ true
    go false e = refl
    go true e = f (eqb-true a b e)

unguarded : (a b : ℕ) (c : Bool) → (not (eqb a b) || c) ≡ true → a ≡ b → c ≡ true
unguarded a b c t e = subst (λ d. (not d || c) ≡ true) (eq-eqb a b e) t

-- a tuple that joins with the others suits them
pub agrees_with-from : (classes : List (List ClassCol)) (xs : List TupleAt) (more : TupleAt) → agree classes (xs ++ more ∷ []) ≡ true → agrees_with classes xs more ≡ true
agrees_with-from classes xs more t =
    all_from (agrees_with_class xs more) classes (λ class h.
    all_from (λ at. not (eqb more.input at.input) || all_have class xs more (get_or more.row at.column no_value)) class (λ at ha.
    guarded more.input at.input (all_have class xs more (get_or more.row at.column no_value)) (λ e.
    all_have-from class xs more (get_or more.row at.column no_value) (λ other x ho hx eo.
    agree-at classes (xs ++ more ∷ []) class (get_or more.row at.column no_value) (get_or x.row other.column no_value) t h
    (value-in (xs ++ more ∷ []) class more at (In-append_right more xs (more ∷ []) (inl refl)) ha e)
    (value-in (xs ++ more ∷ []) class x other hx ho eo)))))

-- a tuple that suits tuples that join does join with them
pub agrees_with-agree : (classes : List (List ClassCol)) (xs : List TupleAt) (more : TupleAt) → agree classes xs ≡ true → agrees_with classes xs more ≡ true → agree classes (xs ++ more ∷ []) ≡ true
agrees_with-agree classes xs more t s =
    all_from (λ k. all_equal (values (map part_of (xs ++ more ∷ [])) k)) classes (λ class h.
    all_equal-from (values (map part_of (xs ++ more ∷ [])) class) (λ v w hv hw.
    both class h v w (source-of (xs ++ more ∷ []) class v hv) (source-of (xs ++ more ∷ []) class w hw)))
  where
    -- the new tuple's value is that of any
    first : (class : List ClassCol) → In class classes → (v w : Value) → (a : IsSource (xs ++ more ∷ []) class v) → more ≡ a.tuple → IsSource (xs ++ more ∷ []) class w → v ≡ w
    first class h v w a same b =
        let e : more.input ≡ a.at.input = ap (λ (x : TupleAt). x.input) same ∙ a.same_input in
        let here : v ≡ get_or more.row a.at.column no_value = sym a.value ∙ ap (λ (x : TupleAt). get_or x.row a.at.column no_value) (sym same) in
        let one = all_at (λ at. not (eqb more.input at.input) || all_have class xs more (get_or more.row at.column no_value)) class a.at (all_at (agrees_with_class xs more) classes class s h) a.of_class in
        here ∙ all_have-at class xs more (get_or more.row a.at.column no_value) b.at b.tuple (unguarded more.input a.at.input (all_have class xs more (get_or more.row a.at.column no_value)) one e) b.of_class b.of_tuples b.same_input ∙ b.value

    old : (class : List ClassCol) → In class classes → (v w : Value) → (a : IsSource (xs ++ more ∷ []) class v) (b : IsSource (xs ++ more ∷ []) class w) → In a.tuple xs → In b.tuple xs → v ≡ w
    old class h v w a b ha hb = sym a.value ∙ agree-at classes xs class (get_or a.tuple.row a.at.column no_value) (get_or b.tuple.row b.at.column no_value) t h (value-in xs class a.tuple a.at ha a.of_class a.same_input) (value-in xs class b.tuple b.at hb b.of_class b.same_input) ∙ b.value

    go : (class : List ClassCol) → In class classes → (v w : Value) → (a : IsSource (xs ++ more ∷ []) class v) (b : IsSource (xs ++ more ∷ []) class w) → In a.tuple xs ⊎ In a.tuple (more ∷ []) → In b.tuple xs ⊎ In b.tuple (more ∷ []) → v ≡ w
    go class h v w a b (inl ka) (inl kb) = old class h v w a b ka kb
    go class h v w a b (inl ka) (inr (inl kb)) = sym (first class h w v b kb a)
    go class h v w a b (inl ka) (inr (inr kb)) = absurd kb
    go class h v w a b (inr (inl ka)) kb = first class h v w a ka b
    go class h v w a b (inr (inr ka)) kb = absurd ka

    both : (class : List ClassCol) → In class classes → (v w : Value) → IsSource (xs ++ more ∷ []) class v → IsSource (xs ++ more ∷ []) class w → v ≡ w
    both class h v w a b = go class h v w a b (In-append_cases a.tuple xs (more ∷ []) a.of_tuples) (In-append_cases b.tuple xs (more ∷ []) b.of_tuples)

-- one row more in front of rows that join
pub front_agree : (classes : List (List ClassCol)) (xs : List TupleAt) (more : TupleAt) → agree classes xs ≡ true → agrees_with classes xs more ≡ true → agree classes (more ∷ xs) ≡ true
front_agree classes xs more t s = agree-mono classes (more ∷ xs) (xs ++ more ∷ []) sub (agrees_with-agree classes xs more t s)
  where
    sub : (z : TupleAt) → In z (more ∷ xs) → In z (xs ++ more ∷ [])
    sub z (inl e) = In-append_right z xs (more ∷ []) (inl e)
    sub z (inr k) = In-append_left z xs (more ∷ []) k

pub front_agrees_with : (classes : List (List ClassCol)) (xs : List TupleAt) (more : TupleAt) → agree classes (more ∷ xs) ≡ true → agrees_with classes xs more ≡ true
front_agrees_with classes xs more t = agrees_with-from classes xs more (agree-mono classes (xs ++ more ∷ []) (more ∷ xs) sub t)
  where
    sub : (z : TupleAt) → In z (xs ++ more ∷ []) → In z (more ∷ xs)
    sub z h = elim (In-append_cases z xs (more ∷ []) h) [ inl k ↦ inr k | inr k ↦ elim k [ inl e ↦ inl e | inr n ↦ absurd n ] ]

one-each : (class : List ClassCol) (a b : ClassCol) → AreOfOtherInputs class → In a class → In b class → a.input ≡ b.input → a ≡ b
one-each [] a b others ha hb e = absurd ha
one-each (c ∷ class) a b others (inl p) (inl q) e = sym p ∙ q
one-each (c ∷ class) a b others (inl p) (inr k) e = absurd (others.0 b k (sym e ∙ ap (λ (z : ClassCol). z.input) (sym p)))
one-each (c ∷ class) a b others (inr k) (inl q) e = absurd (others.0 a k (e ∙ ap (λ (z : ClassCol). z.input) (sym q)))
one-each (c ∷ class) a b others (inr k) (inr l) e = one-each class a b others.1 k l e

-- a row joins with itself, where the join is sound
pub alone_agree : (spec : JoinSpec) (x : TupleAt) → IsSoundSpec spec → agree spec.classes (x ∷ []) ≡ true
alone_agree spec x sound =
    all_from (λ k. all_equal (values (map part_of (x ∷ [])) k)) spec.classes (λ class h.
    all_equal-from (values (map part_of (x ∷ [])) class) (λ v w hv hw.
    both class h v w (source-of (x ∷ []) class v hv) (source-of (x ∷ []) class w hw)))
  where
    only : (z : TupleAt) → In z (x ∷ []) → x ≡ z
    only z (inl e) = e
    only z (inr n) = absurd n

    both : (class : List ClassCol) → In class spec.classes → (v w : Value) → IsSource (x ∷ []) class v → IsSource (x ∷ []) class w → v ≡ w
    both class h v w a b =
        let p : x ≡ a.tuple = only a.tuple a.of_tuples in
        let q : x ≡ b.tuple = only b.tuple b.of_tuples in
        let i : a.at.input ≡ b.at.input = sym a.same_input ∙ ap (λ (z : TupleAt). z.input) (sym p ∙ q) ∙ b.same_input in
        let same : a.at ≡ b.at = one-each class a.at b.at (sound.sound_classes class h).one_each a.of_class b.of_class i in
        sym a.value ∙ ap (λ (z : TupleAt). get_or z.row a.at.column no_value) (sym p ∙ q) ∙ ap (λ (c : ClassCol). get_or b.tuple.row c.column no_value) same ∙ b.value

-- so it asks for what it asks for where it joins
pub need_alone : (spec : JoinSpec) (rows : List TupleAt) (cert : List CertEntry) (x : TupleAt) → IsSoundSpec spec → need spec.classes rows cert (x ∷ []) ≡ cond (agree spec.classes (x ∷ [])) (need spec.classes rows cert (x ∷ [])) []
need_alone spec rows cert x sound = ap (λ b. cond b (need spec.classes rows cert (x ∷ [])) []) (sym (alone_agree spec x sound))
