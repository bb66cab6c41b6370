-- The rows that a plan hands up are those of its answer.
use Rattle.std.proofs.Common.{ℕ, zero, suc, ◌+◌, ◌<◌, ◌≤◌, Bool, true, false, cond, List, [], ◌∷◌, ◌++◌, ◌≡◌, map, filter, flat_map, length, get_or, refl, sym, ap, ap₂, ◌∙◌, subst, inl, inr, eqb, arith, append_assoc, append-nil}
use Rattle.pj_value.proofs.Bags.{weigh-append, weigh-map, weigh-filter, weigh-agree}
use Rattle.pj_pattern.specs.Columns.{others_wild, picked_patterns}
use Rattle.std.proofs.lemmas.Bool.{eqb-true, eq-eqb, ne_eqb, cases_eq}
use Rattle.std.proofs.lemmas.List.{map-append, length-map}
use Rattle.std.proofs.lemmas.List.Elements.{filter-append}
use Rattle.pj_shape.specs.Joining.{parts_from, join_answer}
use Rattle.pj_events.specs.Patterns.{Pattern, matches_row}
use Rattle.pj_value.specs.Bags.{weigh, SameBag}
use Rattle.pj_events.specs.Join.{In, Value, Part, part_of, joins, joined_row, TupleAt, ClassCol, JoinData, JoinState, Step, TupleComes, PunctComes, Take, Give, Sweep, start, step, run, inputs, AreLegalSteps, of_input, agree, product, upto_from, has, Element, Tuple, Punct, joined, rows_of, new_tuple}
use Rattle.pj_events.specs.Operators.{picked_cells, union_after, all_sent_from, UnionState, Sent, select_hands, project_hands}
use Rattle.pj_events.specs.Plan.{Union, Join, Local, Comes, Fed, Own, hands_all, IsOwn}
use Rattle.pj_join_laws.proofs.Bags.{weigh-product}
use Rattle.pj_laws.proofs.Glue.{from_input}
use Rattle.pj_laws.proofs.Operators.{AreWithin, join_steps, join-hands}
use Rattle.pj_join_laws.proofs.Complete.{all-rows-given}
use Rattle.pj_join_laws.proofs.Upto.{length-upto, get_or-upto}

-- ---- plain operators

pub select-rows : (test : List Pattern) (es : List Element) → rows_of (flat_map (select_hands test) es) ≡ filter (matches_row test) (rows_of es)
select-rows test [] = refl
select-rows test (Punct ps ∷ es) = select-rows test es
select-rows test (Tuple row ∷ es) = go (matches_row test row) (select-rows test es)
  where
    go : (b : Bool) → rows_of (flat_map (select_hands test) es) ≡ filter (matches_row test) (rows_of es)
        → rows_of (cond b (Tuple row ∷ []) [] ++ flat_map (select_hands test) es) ≡ cond b (row ∷ filter (matches_row test) (rows_of es)) (filter (matches_row test) (rows_of es))
    go true ih = ap (λ rows. row ∷ rows) ih
    go false ih = ih

pub project-rows : (columns : List ℕ) (es : List Element) → rows_of (flat_map (project_hands columns) es) ≡ map (picked_cells columns) (rows_of es)
project-rows columns [] = refl
project-rows columns (Tuple row ∷ es) = ap (λ rows. picked_cells columns row ∷ rows) (project-rows columns es)
project-rows columns (Punct ps ∷ es) = go (others_wild columns 0 ps) ∙ project-rows columns es
  where
    go : (b : Bool) → rows_of (cond b (Punct (picked_patterns columns ps) ∷ []) [] ++ flat_map (project_hands columns) es) ≡ rows_of (flat_map (project_hands columns) es)
    go true = refl
    go false = refl

pub bag-filter : {A : Type 0} (p : A → Bool) (xs ys : List A) → SameBag xs ys → SameBag (filter p xs) (filter p ys)
bag-filter p xs ys s f = weigh-filter f p xs ∙ s (λ x. cond (p x) (f x) 0) ∙ sym (weigh-filter f p ys)

pub bag-map : {A B : Type 0} (g : A → B) (xs ys : List A) → SameBag xs ys → SameBag (map g xs) (map g ys)
bag-map g xs ys s f = weigh-map f g xs ∙ s (λ x. f (g x)) ∙ sym (weigh-map f g ys)

-- ---- a union

-- what the inputs from k on weigh
abbrev pub inputs_weigh : (List Value → ℕ) → ℕ → ℕ → List Local → ℕ
inputs_weigh f k zero ls = 0
inputs_weigh f k (suc n) ls = weigh f (rows_of (from_input k ls)) + inputs_weigh f (k + 1) n ls

weigh-past : (f : List Value → ℕ) (k n i : ℕ) (e : Element) (ls : List Local) → i < k → inputs_weigh f k n (Comes i e ∷ ls) ≡ inputs_weigh f k n ls
weigh-past f k zero i e ls lt = refl
weigh-past f k (suc n) i e ls lt =
    ap₂ (λ (a b : ℕ). a + b) (ap (λ b. weigh f (rows_of (cond b (e ∷ from_input k ls) (from_input k ls)))) (ne_eqb i k (λ q. let l : k < k = omega (arith, lt, q) in omega arith)))
    (weigh-past f (k + 1) n i e ls (omega arith))

weigh-row : (f : List Value → ℕ) (k n i : ℕ) (row : List Value) (ls : List Local) → k ≤ i → i < k + n → inputs_weigh f k n (Comes i (Tuple row) ∷ ls) ≡ f row + inputs_weigh f k n ls
weigh-row f k zero i row ls a b = absurd (omega arith)
weigh-row f k (suc n) i row ls a b = elim (cases_eq i k) [
  | inl q ↦ omega (arith, ap (λ (b' : Bool). weigh f (rows_of (cond b' (Tuple row ∷ from_input k ls) (from_input k ls)))) (eq-eqb i k q), weigh-past f (k + 1) n i (Tuple row) ls (omega arith))
  | inr ne ↦ omega (arith, ap (λ (b' : Bool). weigh f (rows_of (cond b' (Tuple row ∷ from_input k ls) (from_input k ls)))) (ne_eqb i k ne), weigh-row f (k + 1) n i row ls (omega arith) (omega arith))
]

weigh-closed : (f : List Value → ℕ) (k n i : ℕ) (ps : List Pattern) (ls : List Local) → inputs_weigh f k n (Comes i (Punct ps) ∷ ls) ≡ inputs_weigh f k n ls
weigh-closed f k zero i ps ls = refl
weigh-closed f k (suc n) i ps ls = ap₂ (λ (a b : ℕ). a + b) (go (eqb i k)) (weigh-closed f (k + 1) n i ps ls)
  where
    go : (b : Bool) → weigh f (rows_of (cond b (Punct ps ∷ from_input k ls) (from_input k ls))) ≡ weigh f (rows_of (from_input k ls))
    go true = refl
    go false = refl

sent-rows : (ps : List Sent) (es : List Element) → rows_of (map (λ p. Punct p.patterns) ps ++ es) ≡ rows_of es
sent-rows [] es = refl
sent-rows (p ∷ ps) es = sent-rows ps es

weigh-skip : (f : List Value → ℕ) (k n : ℕ) (l : Local) (ls : List Local) → ((j : ℕ) → from_input j (l ∷ ls) ≡ from_input j ls) → inputs_weigh f k n (l ∷ ls) ≡ inputs_weigh f k n ls
weigh-skip f k zero l ls e = refl
weigh-skip f k (suc n) l ls e = ap₂ (λ (a b : ℕ). a + b) (ap (λ es. weigh f (rows_of es)) (e k)) (weigh-skip f (k + 1) n l ls e)

none-weigh : (f : List Value → ℕ) (k n : ℕ) → inputs_weigh f k n [] ≡ 0
none-weigh f k zero = refl
none-weigh f k (suc n) = omega (arith, none-weigh f (k + 1) n)

pub union-weigh : (f : List Value → ℕ) (n : ℕ) (u : UnionState) (ls : List Local) → AreWithin n ls → weigh f (rows_of (hands_all (Union n u) ls)) ≡ inputs_weigh f 0 n ls
union-weigh f n u [] w = sym (none-weigh f 0 n)
union-weigh f n u (Fed e ∷ ls) w = union-weigh f n u ls w ∙ sym (weigh-skip f 0 n (Fed e) ls (λ j. refl))
union-weigh f n u (Own s ∷ ls) w = union-weigh f n u ls w ∙ sym (weigh-skip f 0 n (Own s) ls (λ j. refl))
union-weigh f n u (Comes i (Tuple row) ∷ ls) w = omega (arith, union-weigh f n u ls w.1, weigh-row f 0 n i row ls (omega arith) (omega (arith, w.0)))
union-weigh f n u (Comes i (Punct ps) ∷ ls) w =
    ap (weigh f) (sent-rows (filter (all_sent_from 0 n (u.came ++ record { input = i; patterns = ps } ∷ [])) (u.waiting ++ record { input = i; patterns = ps } ∷ [])) (hands_all (Union n (union_after n u i (Punct ps))) ls))
    ∙ union-weigh f n (union_after n u i (Punct ps)) ls w.1 ∙ sym (weigh-closed f 0 n i ps ls)

-- the lists weigh what the inputs do
pub lists-weigh : (f : List Value → ℕ) (k : ℕ) (lists : List (List (List Value))) (ls : List Local) → ((j : ℕ) → j < length lists → SameBag (rows_of (from_input (k + j) ls)) (get_or lists j []))
    → inputs_weigh f k (length lists) ls ≡ weigh f (flat_map (λ l. l) lists)
lists-weigh f k [] ls same = refl
lists-weigh f k (l ∷ lists) ls same =
    let z : k + 0 ≡ k = omega arith in
    omega (
      arith,
      weigh-append f l (flat_map (λ l. l) lists),
      sym (ap (λ j. weigh f (rows_of (from_input j ls))) z) ∙ same 0 (omega arith) f,
      lists-weigh f (k + 1) lists ls (λ j lt. let q : k + suc j ≡ k + 1 + j = omega arith in subst (λ (i : ℕ). SameBag (rows_of (from_input i ls)) (get_or lists j [])) q (same (suc j) (omega arith))),
    )

-- ---- a join

-- what a join's answer makes of a combination
abbrev pub part_weight : List (List ClassCol) → (List Value → ℕ) → List Part → ℕ
part_weight classes f c = cond (joins classes c) (f (joined_row c)) 0

pub answer-weigh : (classes : List (List ClassCol)) (f : List Value → ℕ) (cs : List (List Part)) → weigh f (map joined_row (filter (joins classes) cs)) ≡ weigh (part_weight classes f) cs
answer-weigh classes f cs = weigh-map f joined_row (filter (joins classes) cs) ∙ weigh-filter (λ c. f (joined_row c)) (joins classes) cs

pub tuples-weigh : (classes : List (List ClassCol)) (f : List Value → ℕ) (cs : List (List TupleAt)) → weigh f (map joined (filter (agree classes) cs)) ≡ weigh (λ c. part_weight classes f (map part_of c)) cs
tuples-weigh classes f cs = weigh-map f joined (filter (agree classes) cs) ∙ weigh-filter (λ c. f (joined c)) (agree classes) cs

pub map-twice : {A B C : Type 0} (f : B → C) (g : A → B) (xs : List A) → map f (map g xs) ≡ map (λ x. f (g x)) xs
map-twice f g [] = refl
map-twice {A} {B} {C} f g (x ∷ xs) = ap (λ (ys : List C). f (g x) ∷ ys) (map-twice f g xs)

-- to map each list of a product is to map the product
pub product-map : {A B : Type 0} (f : A → B) (F : List B → ℕ) (xss : List (List A)) → weigh F (product (map (map f) xss)) ≡ weigh (λ c. F (map f c)) (product xss)
product-map f F [] = refl
product-map {A} {B} f F (xs ∷ xss) =
    weigh-product F (map f xs) (map (map f) xss)
    ∙ weigh-map (λ (y : B). weigh (λ c. F (y ∷ c)) (product (map (map f) xss))) f xs
    ∙ weigh-agree (λ (x : A). weigh (λ c. F (f x ∷ c)) (product (map (map f) xss))) (λ x. weigh (λ c. F (map f (x ∷ c))) (product xss)) xs (λ x h. product-map f (λ c. F (f x ∷ c)) xss)
    ∙ sym (weigh-product (λ c. F (map f c)) xs xss)

-- products of lists that are equal as bags weigh the same
product-same : {A : Type 0} (F : List A → ℕ) (xss yss : List (List A)) → length xss ≡ length yss
    → ((j : ℕ) → j < length xss → SameBag (get_or xss j []) (get_or yss j [])) → weigh F (product xss) ≡ weigh F (product yss)
product-same F [] [] l same = refl
product-same F [] (ys ∷ yss) l same = absurd (omega arith)
product-same F (xs ∷ xss) [] l same = absurd (omega arith)
product-same {A} F (xs ∷ xss) (ys ∷ yss) l same =
    weigh-product F xs xss
    ∙ weigh-agree (λ (x : A). weigh (λ c. F (x ∷ c)) (product xss)) (λ x. weigh (λ c. F (x ∷ c)) (product yss)) xs (λ x h. product-same (λ c. F (x ∷ c)) xss yss (omega arith) (λ j lt. same (suc j) (omega arith)))
    ∙ same 0 (omega arith) (λ x. weigh (λ c. F (x ∷ c)) (product yss))
    ∙ sym (weigh-product F ys yss)

-- the rows of an input that arrived are those that came from it
abbrev pub rows_at : ℕ → List TupleAt → List (List Value)
rows_at k xs = map (λ x. x.row) (of_input k xs)

pub arrived-rows : (spec : JoinData) (s : JoinState) (ls : List Local) (k : ℕ) → ((st : Step) → In (Own st) ls → IsOwn st)
    → rows_at k (run spec s (join_steps ls)).tuples ≡ rows_at k s.tuples ++ rows_of (from_input k ls)
arrived-rows spec s [] k o = sym (append-nil (rows_at k s.tuples))
arrived-rows spec s (Fed e ∷ ls) k o = arrived-rows spec s ls k (λ st h. o st (inr h))
arrived-rows spec s (Own (Take u) ∷ ls) k o = arrived-rows spec (step spec s (Take u)) ls k (λ st h. o st (inr h))
arrived-rows spec s (Own (Give u) ∷ ls) k o = arrived-rows spec (step spec s (Give u)) ls k (λ st h. o st (inr h))
arrived-rows spec s (Own (Sweep i) ∷ ls) k o = arrived-rows spec (step spec s (Sweep i)) ls k (λ st h. o st (inr h))
arrived-rows spec s (Own (TupleComes i row) ∷ ls) k o = absurd (o (TupleComes i row) (inl refl))
arrived-rows spec s (Own (PunctComes i ps) ∷ ls) k o = absurd (o (PunctComes i ps) (inl refl))
arrived-rows spec s (Comes i (Punct ps) ∷ ls) k o =
    arrived-rows spec (step spec s (PunctComes i ps)) ls k (λ st h. o st (inr h)) ∙ ap (λ rows. rows_at k s.tuples ++ rows) (go (eqb i k))
  where
    go : (b : Bool) → rows_of (from_input k ls) ≡ rows_of (cond b (Punct ps ∷ from_input k ls) (from_input k ls))
    go true = refl
    go false = refl
arrived-rows spec s (Comes i (Tuple row) ∷ ls) k o =
    arrived-rows spec (step spec s (TupleComes i row)) ls k (λ st h. o st (inr h))
    ∙ ap (λ xs. map (λ x. x.row) xs ++ rows_of (from_input k ls)) (filter-append (λ x. eqb x.input k) s.tuples (new_tuple s i row ∷ []))
    ∙ go (eqb i k)
  where
    go : (b : Bool) → map (λ x. x.row) (of_input k s.tuples ++ cond b (new_tuple s i row ∷ []) []) ++ rows_of (from_input k ls) ≡ rows_at k s.tuples ++ rows_of (cond b (Tuple row ∷ from_input k ls) (from_input k ls))
    go true = ap (λ (rows : List (List Value)). rows ++ rows_of (from_input k ls)) (map-append (λ x. x.row) (of_input k s.tuples) (new_tuple s i row ∷ [])) ∙ append_assoc (rows_at k s.tuples) (row ∷ []) (rows_of (from_input k ls))
    go false = ap (λ xs. map (λ x. x.row) xs ++ rows_of (from_input k ls)) (append-nil (of_input k s.tuples))

abbrev pub part : ℕ → List Value → Part
part k row = record { input = k; row = row }

pub part-rows : (k : ℕ) (xs : List TupleAt) → map part_of (of_input k xs) ≡ map (part k) (rows_at k xs)
part-rows k [] = refl
part-rows k (x ∷ xs) = go (eqb x.input k) (λ e. eqb-true x.input k e) (part-rows k xs)
  where
    go : (b : Bool) → (b ≡ true → x.input ≡ k) → map part_of (of_input k xs) ≡ map (part k) (rows_at k xs)
        → map part_of (cond b (x ∷ of_input k xs) (of_input k xs)) ≡ map (part k) (map (λ y. y.row) (cond b (x ∷ of_input k xs) (of_input k xs)))
    go true e ih = ap₂ (λ (j : ℕ) (ys : List Part). part j x.row ∷ ys) (e refl) ih
    go false e ih = ih

pub at-parts : (k : ℕ) (lists : List (List (List Value))) (j : ℕ) → j < length lists → get_or (parts_from k lists) j [] ≡ map (part (k + j)) (get_or lists j [])
at-parts k [] j lt = absurd (omega arith)
at-parts k (l ∷ lists) zero lt = let z : k ≡ k + 0 = omega arith in ap (λ i. map (part i) l) z
at-parts k (l ∷ lists) (suc j) lt = let z : k + 1 + j ≡ k + suc j = omega arith in at-parts (k + 1) lists j (omega arith) ∙ ap (λ i. map (part i) (get_or lists j [])) z

pub length-parts : (k : ℕ) (lists : List (List (List Value))) → length (parts_from k lists) ≡ length lists
length-parts k [] = refl
length-parts k (l ∷ lists) = ap suc (length-parts (k + 1) lists)

pub join-rows : (spec : JoinData) (ls : List Local) (lists : List (List (List Value))) → 0 < inputs spec → length lists ≡ inputs spec
    → AreLegalSteps spec start (join_steps ls) → ((st : Step) → In (Own st) ls → IsOwn st)
    → ((x : TupleAt) → In x (run spec start (join_steps ls)).tuples → has (run spec start (join_steps ls)).given x.ticket ≡ true)
    → ((k : ℕ) → k < inputs spec → SameBag (rows_of (from_input k ls)) (get_or lists k []))
    → SameBag (rows_of (hands_all (Join spec start) ls)) (join_answer spec.shape.classes lists)
join-rows spec ls lists lt long legal o done same f =
    ap (λ es. weigh f (rows_of es)) (join-hands spec start ls)
    ∙ all-rows-given spec lt (join_steps ls) legal done f
    ∙ tuples-weigh spec.shape.classes f (product (map (λ k. of_input k T) ks))
    ∙ sym (product-map part_of (part_weight spec.shape.classes f) (map (λ k. of_input k T) ks))
    ∙ ap (λ xss. weigh (part_weight spec.shape.classes f) (product xss)) (map-twice (map part_of) (λ k. of_input k T) ks)
    ∙ product-same (part_weight spec.shape.classes f) (map mine ks) (parts_from 0 lists)
    (length-map ks mine ∙ length-upto 0 n ∙ sym long ∙ sym (length-parts 0 lists))
    (λ j l. each j (omega (arith, l, length-map ks mine, length-upto 0 n)))
    ∙ sym (answer-weigh spec.shape.classes f (product (parts_from 0 lists)))
  where
    n : ℕ
    n = inputs spec

    ks : List ℕ
    ks = upto_from 0 n

    T : List TupleAt
    T = (run spec start (join_steps ls)).tuples

    mine : ℕ → List Part
    mine k = map part_of (of_input k T)

    each : (j : ℕ) → j < n → SameBag (get_or (map mine ks) j []) (get_or (parts_from 0 lists) j [])
    each j l g =
        ap (weigh g) (get_or-upto mine 0 n j [] l)
        ∙ ap (weigh g) (part-rows (0 + j) T)
        ∙ ap (λ rows. weigh g (map (part (0 + j)) rows)) (arrived-rows spec start ls (0 + j) o)
        ∙ ap (λ i. weigh g (map (part (0 + j)) (rows_of (from_input i ls)))) zj
        ∙ bag-map (part (0 + j)) (rows_of (from_input j ls)) (get_or lists j []) (same j l) g
        ∙ ap (weigh g) (sym (at-parts 0 lists j (omega (arith, l, long))))
      where
        zj : 0 + j ≡ j
        zj = omega arith
