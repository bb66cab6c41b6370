-- Rows that join, and the instances that they ask for.
use Rattle.std.proofs.Common.{ℕ, suc, ◌+◌, Bool, true, false, cond, ◌&&◌, List, [], ◌∷◌, ◌≡◌, Option, Some, None, map, length, get_or, refl, sym, ap, ◌∙◌, subst, inl, inr, eqb, arith}
use Rattle.std.proofs.lemmas.Bool.{and_parts, eqb-true, eq-eqb}
use Rattle.pj_value.specs.declared.values.Value.{Value}
use Rattle.pj_shape.specs.Joining.{Part, values_in, values, all_equal, has_column, no_value, class_of, class_from}
use Rattle.pj_events.specs.Patterns.{Pattern, matches_row, covers}
use Rattle.pj_events.specs.Join.{In, TupleAt, ClassCol, part_of, agree, class_at, class_with, constant, instance_from}
use Rattle.pj_value.proofs.Members.{In-flat_map, In-flat_map_from, In-map, In-map_from, all_at, all_from, any_at}
use Rattle.pj_shape.proofs.Joining.{all_equal-at, all_equal-from}
use Rattle.pj_shape.specs.Instances.{MatchesInstance}
use Rattle.pj_join_laws.proofs.PatternFacts.{covers-matches}
use Rattle.pj_join_laws.specs.Walks.{AreBound}

-- ---- rows that join

-- the value that a part has in a column of its input is among the class's values
value-of : (parts : List Part) (cls : List ClassCol) (x : Part) (c : ClassCol) → In x parts → In c cls → x.input ≡ c.input → In (get_or x.row c.column no_value) (values parts cls)
value-of parts cls x c hx hc e =
    In-flat_map_from (values_in parts) (get_or x.row c.column no_value) c cls hc
    (In-flat_map_from (λ y. cond (eqb y.input c.input) (get_or y.row c.column no_value ∷ []) []) (get_or x.row c.column no_value) x parts hx
    (subst (λ b. In (get_or x.row c.column no_value) (cond b (get_or x.row c.column no_value ∷ []) [])) (sym (eq-eqb x.input c.input e)) (inl refl)))

-- the value that a tuple has in a column of its input is among the class's values
pub value-in : (xs : List TupleAt) (cls : List ClassCol) (x : TupleAt) (c : ClassCol) → In x xs → In c cls → x.input ≡ c.input → In (get_or x.row c.column no_value) (values (map part_of xs) cls)
value-in xs cls x c hx hc e = value-of (map part_of xs) cls (part_of x) c (In-map_from part_of x xs hx) hc e

values-of : (few many : List Part) (cls : List ClassCol) → ((x : Part) → In x few → In x many) → (v : Value) → In v (values few cls) → In v (values many cls)
values-of few many cls sub v h =
    let c = In-flat_map (values_in few) v cls h in
    let f : Part → List Value = λ y. cond (eqb y.input c.0.input) (get_or y.row c.0.column no_value ∷ []) [] in
    let x = In-flat_map f v few c.2 in
    In-flat_map_from (values_in many) v c.0 cls c.1 (In-flat_map_from f v x.0 many (sub x.0 x.1) x.2)

-- the values of fewer tuples are among those of more
pub values-mono : (few many : List TupleAt) (cls : List ClassCol) → ((x : TupleAt) → In x few → In x many) → (v : Value) → In v (values (map part_of few) cls) → In v (values (map part_of many) cls)
values-mono few many cls sub =
    values-of (map part_of few) (map part_of many) cls (λ p h. let r = In-map part_of p few h in
    subst (λ (z : Part). In z (map part_of many)) r.2 (In-map_from part_of r.0 many (sub r.0 r.1)))

-- values of one class agree in tuples that join
pub agree-at : (classes : List (List ClassCol)) (xs : List TupleAt) (cls : List ClassCol) (v w : Value) → agree classes xs ≡ true → In cls classes → In v (values (map part_of xs) cls) → In w (values (map part_of xs) cls) → v ≡ w
agree-at classes xs cls v w t h hv hw = all_equal-at (values (map part_of xs) cls) v w (all_at (λ k. all_equal (values (map part_of xs) k)) classes cls t h) hv hw

-- fewer of tuples that join do
pub agree-mono : (classes : List (List ClassCol)) (few many : List TupleAt) → ((x : TupleAt) → In x few → In x many) → agree classes many ≡ true → agree classes few ≡ true
agree-mono classes few many sub t =
    all_from (λ k. all_equal (values (map part_of few) k)) classes (λ cls h.
    all_equal-from (values (map part_of few) cls) (λ v w hv hw.
    agree-at classes many cls v w t h (values-mono few many cls sub v hv) (values-mono few many cls sub w hw)))

-- ---- instances

-- a class that is found is one of the classes, and has the column
found-in : (k : ℕ) (classes : List (List ClassCol)) (at : ClassCol) (j : ℕ) → class_from k classes at ≡ Some j → (i : ℕ) × (j ≡ k + i) × In (get_or classes i []) classes × In at (get_or classes i [])
found-in k [] at j e = cc
found-in k (cls ∷ classes) at j e = go (has_column cls at) refl e (found-in (k + 1) classes at j)
  where
    p : ClassCol → Bool
    p d = eqb d.input at.input && eqb d.column at.column

    Found : Type 0
    Found = (i : ℕ) × (j ≡ k + i) × In (get_or (cls ∷ classes) i []) (cls ∷ classes) × In at (get_or (cls ∷ classes) i [])

    go : (b : Bool) → has_column cls at ≡ b → cond b (Some k) (class_from (k + 1) classes at) ≡ Some j
        → (class_from (k + 1) classes at ≡ Some j → (i : ℕ) × (j ≡ k + 1 + i) × In (get_or classes i []) classes × In at (get_or classes i [])) → Found
    go false t q ih = let r = ih q in (suc r.0, omega (arith, r.1), inr r.2, r.3)
    go true t q ih =
        let d = any_at p cls t in
        let both = and_parts (eqb d.0.input at.input) (eqb d.0.column at.column) d.2 in
        let same : d.0 ≡ at = λ i. record { input = eqb-true d.0.input at.input both.0 i; column = eqb-true d.0.column at.column both.1 i } in
        let here : k ≡ j = cc q in
        (0, omega (arith, here), inl refl, subst (λ (z : ClassCol). In z cls) same d.1)

-- a class that has a column of its own
class_with-in : (classes : List (List ClassCol)) (input column : ℕ) (c : ClassCol) → In c (class_with classes input column) → In (class_with classes input column) classes × In (record { input = input; column = column }) (class_with classes input column)
class_with-in classes input column c h = go (class_of classes at) refl h
  where
    at : ClassCol
    at = record { input = input; column = column }

    go : (o : Option ℕ) → class_of classes at ≡ o → In c (class_at classes o) → In (class_at classes o) classes × In at (class_at classes o)
    go None e k = absurd k
    go (Some j) e k =
        let r = found-in 0 classes at j e in
        let z : r.0 ≡ j = omega (arith, r.1) in
        subst (λ (n : ℕ). In (get_or classes n []) classes × In at (get_or classes n [])) z (r.2, r.3)

constant-in : (cls : List ClassCol) (xs : List TupleAt) (v : Value) → In v (values (map part_of xs) cls) → In (constant cls xs) (values (map part_of xs) cls)
constant-in cls xs v h = go (values (map part_of xs) cls) h
  where
    go : (vs : List Value) → In v vs → In (get_or vs 0 no_value) vs
    go [] k = absurd k
    go (w ∷ vs) k = inl refl

-- each of these inputs is the input of one of the tuples
abbrev pub AreInputs : List ℕ → List TupleAt → Type 0
AreInputs known xs = (k : ℕ) → In k known → (y : TupleAt) × In y xs × (y.input ≡ k)

-- a tuple that joins with the others matches the instance that they ask for
matches-instance : (classes : List (List ClassCol)) (parts : List TupleAt) (known : List ℕ) (x : TupleAt) (column : ℕ) (marks : List Bool) (vs : List Value)
    → agree classes (x ∷ parts) ≡ true → AreInputs known parts → AreBound classes x.input column marks known
    → length vs ≡ length marks → ((k : ℕ) → get_or vs k no_value ≡ get_or x.row (column + k) no_value)
    → MatchesInstance vs (instance_from classes x.input column marks parts)
matches-instance classes parts known x column [] [] j ks b l at = tt
matches-instance classes parts known x column [] (v ∷ vs) j ks b l at = absurd (omega arith)
matches-instance classes parts known x column (m ∷ marks) [] j ks b l at = absurd (omega arith)
matches-instance classes parts known x column (false ∷ marks) (v ∷ vs) j ks b l at =
    matches-instance classes parts known x (column + 1) marks vs j ks b (omega arith)
    (λ k. let e : column + suc k ≡ column + 1 + k = omega arith in at (suc k) ∙ ap (λ n. get_or x.row n no_value) e)
matches-instance classes parts known x column (true ∷ marks) (v ∷ vs) j ks b l at = (
  same,
  matches-instance classes parts known x (column + 1) marks vs j ks b.1 (omega arith)
      (λ k. let e : column + suc k ≡ column + 1 + k = omega arith in at (suc k) ∙ ap (λ n. get_or x.row n no_value) e),
)
  where
    cls : List ClassCol
    cls = class_with classes x.input column

    here : ClassCol
    here = record { input = x.input; column = column }

    c : ClassCol
    c = b.0.0

    facts : In cls classes × In here cls
    facts = class_with-in classes x.input column c b.0.1

    part : (y : TupleAt) × In y parts × (y.input ≡ c.input)
    part = ks c.input b.0.2

    theirs : In (constant cls parts) (values (map part_of (x ∷ parts)) cls)
    theirs = values-mono parts (x ∷ parts) cls (λ y h. inr h) (constant cls parts) (constant-in cls parts (get_or part.0.row c.column no_value) (value-in parts cls part.0 c part.1 b.0.1 part.2))

    its : In (get_or x.row column no_value) (values (map part_of (x ∷ parts)) cls)
    its = value-in (x ∷ parts) cls x here (inl refl) facts.1 refl

    zeroth : column + 0 ≡ column
    zeroth = omega arith

    same : v ≡ constant cls parts
    same = at 0 ∙ ap (λ n. get_or x.row n no_value) zeroth ∙ agree-at classes (x ∷ parts) cls (get_or x.row column no_value) (constant cls parts) j facts.0 its theirs

-- a tuple that joins with the others matches each punctuation that covers what they ask for
pub asked-matches : (classes : List (List ClassCol)) (parts : List TupleAt) (known : List ℕ) (x : TupleAt) (input : ℕ) (marks : List Bool) (ps : List Pattern)
    → x.input ≡ input → agree classes (x ∷ parts) ≡ true → AreInputs known parts → AreBound classes input 0 marks known → length x.row ≡ length marks
    → covers ps (instance_from classes input 0 marks parts) ≡ true → matches_row ps x.row ≡ true
asked-matches classes parts known x input marks ps e j ks b l c =
    covers-matches ps x.row (instance_from classes x.input 0 marks parts)
    (subst (λ (i : ℕ). covers ps (instance_from classes i 0 marks parts) ≡ true) (sym e) c)
    (matches-instance classes parts known x 0 marks x.row j ks
    (subst (λ (i : ℕ). AreBound classes i 0 marks known) (sym e) b) l (λ k. let q : k ≡ 0 + k = omega arith in ap (λ n. get_or x.row n no_value) q))
