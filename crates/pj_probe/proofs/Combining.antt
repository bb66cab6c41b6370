-- Combinations that are completed one tuple after the other.
use Rattle.std.proofs.Common.{◌≡◌, ℕ, zero, suc, ◌+◌, ◌-◌, ◌<◌, ◌≤◌, Bool, true, false, cond, List, [], ◌∷◌, ◌++◌, map, filter, length, get_or, take, drop, refl, sym, ap, ap₂, ◌∙◌, arith, append_assoc, append-nil, add-one}
use Rattle.std.proofs.lemmas.Bool.{false_from_ne_true, false≢true}
use Rattle.std.proofs.lemmas.List.{drop_all, length-append, map-append, take_more, take_all}
use Rattle.std.proofs.lemmas.List.Elements.{filter-append}
use Rattle.pj_shape.specs.Joining.{joined_row, parts_on}
use Rattle.pj_events.specs.Join.{Value, TupleAt, ClassCol, Part, agree, joined, joins, part_of, product}
use Rattle.pj_join_laws.proofs.Matching.{agree-mono}
use Rattle.pj_value.proofs.Members.{In-append_left}
use Rattle.pj_probe.specs.Walks.{combined, end_to_end, no_row, row_at, sides_at, tuple_at}
use Rattle.pj_probe.specs.Walking.{LacksOne, completed, tuples_of, walked, walked_upto}
use Rattle.pj_probe.proofs.Whole.{joins-none}

agree-front : (classes : List (List ClassCol)) (xs ys : List TupleAt) → agree classes (xs ++ ys) ≡ true → agree classes xs ≡ true
agree-front classes xs ys t = agree-mono classes xs (xs ++ ys) (λ x h. In-append_left x xs ys h) t

-- ---- one tuple after the other

-- what each of these, as the next, completes
abbrev pub completed_each : List (List ClassCol) → List TupleAt → List (List TupleAt) → List TupleAt → List (List TupleAt)
completed_each classes xs lists [] = []
completed_each classes xs lists (y ∷ ys) = completed classes (xs ++ y ∷ []) lists ++ completed_each classes xs lists ys

nested : (xs : List TupleAt) (y : TupleAt) (cs : List (List TupleAt)) → map (λ c. xs ++ c) (map (λ c. y ∷ c) cs) ≡ map (λ c. (xs ++ y ∷ []) ++ c) cs
nested xs y [] = refl
nested xs y (c ∷ cs) = ap₂ (λ (d : List TupleAt) (ds : List (List TupleAt)). d ∷ ds) (sym (append_assoc xs (y ∷ []) c)) (nested xs y cs)

completed-cons : (classes : List (List ClassCol)) (xs ys : List TupleAt) (lists : List (List TupleAt)) → completed classes xs (ys ∷ lists) ≡ completed_each classes xs lists ys
completed-cons classes xs [] lists = refl
completed-cons classes xs (y ∷ ys) lists =
    ap (filter (agree classes)) (map-append (λ (c : List TupleAt). xs ++ c) (map (λ c. y ∷ c) (product lists)) (product (ys ∷ lists)) ∙ ap (λ (ds : List (List TupleAt)). ds ++ map (λ c. xs ++ c) (product (ys ∷ lists))) (nested xs y (product lists)))
    ∙ filter-append (agree classes) (map (λ c. (xs ++ y ∷ []) ++ c) (product lists)) (map (λ c. xs ++ c) (product (ys ∷ lists)))
    ∙ ap (λ (ds : List (List TupleAt)). completed classes (xs ++ y ∷ []) lists ++ ds) (completed-cons classes xs ys lists)

-- nothing is left to add
completed-nil : (classes : List (List ClassCol)) (xs : List TupleAt) → agree classes xs ≡ true → completed classes xs [] ≡ xs ∷ []
completed-nil classes xs t = ap (λ (ys : List TupleAt). cond (agree classes ys) (ys ∷ []) []) (append-nil xs) ∙ ap (λ b. cond b (xs ∷ []) []) t

-- tuples that do not join are completed by nothing
completed-none : (classes : List (List ClassCol)) (xs : List TupleAt) (cs : List (List TupleAt)) → agree classes xs ≡ false → filter (agree classes) (map (λ c. xs ++ c) cs) ≡ []
completed-none classes xs [] f = refl
completed-none classes xs (c ∷ cs) f = ap (λ b. cond b ((xs ++ c) ∷ filter (agree classes) (map (λ d. xs ++ d) cs)) (filter (agree classes) (map (λ d. xs ++ d) cs))) (false_from_ne_true (agree classes (xs ++ c)) (λ t. false≢true (sym f ∙ agree-front classes xs c t))) ∙ completed-none classes xs cs f

-- from nothing all combinations that join are completed
completed-all : (classes : List (List ClassCol)) (lists : List (List TupleAt)) → completed classes [] lists ≡ filter (agree classes) (product lists)
completed-all classes lists = ap (filter (agree classes)) (same (product lists))
  where
    same : (cs : List (List TupleAt)) → map (λ c. [] ++ c) cs ≡ cs
    same [] = refl
    same (c ∷ cs) = ap (λ (ds : List (List TupleAt)). c ∷ ds) (same cs)

each-push : (classes : List (List ClassCol)) (xs : List TupleAt) (lists : List (List TupleAt)) (zs : List TupleAt) (z : TupleAt) → completed_each classes xs lists (zs ++ z ∷ []) ≡ completed_each classes xs lists zs ++ completed classes (xs ++ z ∷ []) lists
each-push classes xs lists [] z = append-nil (completed classes (xs ++ z ∷ []) lists)
each-push classes xs lists (y ∷ zs) z =
    ap (λ (cs : List (List TupleAt)). completed classes (xs ++ y ∷ []) lists ++ cs) (each-push classes xs lists zs z)
    ∙ sym (append_assoc (completed classes (xs ++ y ∷ []) lists) (completed_each classes xs lists zs) (completed classes (xs ++ z ∷ []) lists))

-- ---- rows as tuples

tuples-parts : (k : ℕ) (rows : List (List Value)) → map part_of (tuples_of k rows) ≡ parts_on k rows
tuples-parts k [] = refl
tuples-parts k (r ∷ rs) = ap (λ (rest : List Part). part_of (tuple_at k (0, r)) ∷ rest) (tuples-parts (k + 1) rs)

tuples-agree : (classes : List (List ClassCol)) (rows : List (List Value)) → agree classes (tuples_of 0 rows) ≡ joins classes (parts_on 0 rows)
tuples-agree classes rows = ap (joins classes) (tuples-parts 0 rows)

tuples-joined : (k : ℕ) (rows : List (List Value)) → joined (tuples_of k rows) ≡ end_to_end rows
tuples-joined k [] = refl
tuples-joined k (r ∷ rs) = ap (λ (vs : List Value). r ++ vs) (tuples-joined (k + 1) rs)

-- one row more, which is of the next input
next-parts : (j k : ℕ) (rows : List (List Value)) (q : ℕ × List Value) → j ≡ k + length rows → map part_of (tuples_of k (rows ++ q.1 ∷ [])) ≡ map part_of (tuples_of k rows ++ tuple_at j q ∷ [])
next-parts j k [] q e = let same : k ≡ j = omega (arith, e) in ap (λ (n : ℕ). part_of (tuple_at n q) ∷ []) same
next-parts j k (r ∷ rs) q e = ap (λ (rest : List Part). part_of (tuple_at k (0, r)) ∷ rest) (next-parts j (k + 1) rs q (omega (arith, e)))

-- whether tuples join, and their row, tell of no ticket
same-parts : (classes : List (List ClassCol)) (xs ys : List TupleAt) (cs : List (List TupleAt)) → map part_of xs ≡ map part_of ys
    → map joined (filter (agree classes) (map (λ c. xs ++ c) cs)) ≡ map joined (filter (agree classes) (map (λ c. ys ++ c) cs))
same-parts classes xs ys [] e = refl
same-parts classes xs ys (c ∷ cs) e =
    kept (agree classes (xs ++ c)) (xs ++ c) (filter (agree classes) (map (λ d. xs ++ d) cs))
    ∙ ap (λ (ps : List Part). cond (joins classes ps) (joined_row ps ∷ map joined (filter (agree classes) (map (λ d. xs ++ d) cs))) (map joined (filter (agree classes) (map (λ d. xs ++ d) cs))))
    (map-append part_of xs c ∙ ap (λ (ps : List Part). ps ++ map part_of c) e ∙ sym (map-append part_of ys c))
    ∙ ap (λ (rows : List (List Value)). cond (agree classes (ys ++ c)) (joined (ys ++ c) ∷ rows) rows) (same-parts classes xs ys cs e)
    ∙ sym (kept (agree classes (ys ++ c)) (ys ++ c) (filter (agree classes) (map (λ d. ys ++ d) cs)))
  where
    kept : (b : Bool) (d : List TupleAt) (ds : List (List TupleAt)) → map joined (cond b (d ∷ ds) ds) ≡ cond b (joined d ∷ map joined ds) (map joined ds)
    kept true d ds = refl
    kept false d ds = refl

-- ---- the sides behind

sides-length : (k : ℕ) (sides : List (List (ℕ × List Value))) → length (sides_at k sides) ≡ length sides
sides-length k [] = refl
sides-length k (s ∷ ss) = omega (arith, sides-length (k + 1) ss)

rest-next : (j k n : ℕ) (sides : List (List (ℕ × List Value))) → j ≡ k + n → n < length sides → drop n (sides_at k sides) ≡ map (tuple_at j) (get_or sides n []) ∷ drop (suc n) (sides_at k sides)
rest-next j k n [] e lt = absurd (omega (arith, lt))
rest-next j k zero (s ∷ ss) e lt = let same : k ≡ j = omega (arith, e) in ap (λ (m : ℕ). map (tuple_at m) s ∷ sides_at (k + 1) ss) same
rest-next j k (suc n) (s ∷ ss) e lt = rest-next j (k + 1) n ss (omega (arith, e)) (omega (arith, lt))

rest-end : (sides : List (List (ℕ × List Value))) (rows : List (List Value)) → length sides ≤ length rows → drop (length rows) (sides_at 0 sides) ≡ []
rest-end sides rows le = drop_all (length rows) (sides_at 0 sides) (omega (arith, le, sides-length 0 sides))

one-longer : (rows : List (List Value)) (row : List Value) → length (rows ++ row ∷ []) ≡ suc (length rows)
one-longer rows row = let e : length (rows ++ row ∷ []) ≡ length rows + 1 = length-append rows (row ∷ []) in omega (arith, e)

-- ---- the walk

-- one row more is one tuple more
walked-next : (classes : List (List ClassCol)) (sides : List (List (ℕ × List Value))) (rows : List (List Value)) (q : ℕ × List Value)
    → walked classes sides (rows ++ q.1 ∷ []) ≡ map joined (completed classes (tuples_of 0 rows ++ tuple_at (length rows) q ∷ []) (drop (suc (length rows)) (sides_at 0 sides)))
walked-next classes sides rows q =
    ap (λ (n : ℕ). map joined (completed classes (tuples_of 0 (rows ++ q.1 ∷ [])) (drop n (sides_at 0 sides)))) (one-longer rows q.1)
    ∙ same-parts classes (tuples_of 0 (rows ++ q.1 ∷ [])) (tuples_of 0 rows ++ tuple_at (length rows) q ∷ []) (product (drop (suc (length rows)) (sides_at 0 sides))) (next-parts (length rows) 0 rows q (omega arith))

-- the next rows, one after the other
upto-is : (classes : List (List ClassCol)) (sides : List (List (ℕ × List Value))) (rows : List (List Value)) (n : ℕ) → n ≤ length (get_or sides (length rows) [])
    → walked_upto classes sides rows n ≡ map joined (completed_each classes (tuples_of 0 rows) (drop (suc (length rows)) (sides_at 0 sides)) (map (tuple_at (length rows)) (take n (get_or sides (length rows) []))))
upto-is classes sides rows zero le = refl
upto-is classes sides rows (suc n) le =
    ap₂ (λ (before more : List (List Value)). before ++ more) (upto-is classes sides rows n (omega (arith, le))) (walked-next classes sides rows (get_or side n no_row))
    ∙ sym (map-append joined (each (map tuple (take n side))) (completed classes (xs ++ tuple (get_or side n no_row) ∷ []) rest))
    ∙ ap (map joined) (sym (each-push classes xs rest (map tuple (take n side)) (tuple (get_or side n no_row)))
    ∙ ap each (sym (map-append tuple (take n side) (get_or side n no_row ∷ [])) ∙ ap (map tuple) (sym (take_more side n no_row (omega (arith, le))) ∙ ap (λ (m : ℕ). take m side) (add-one n))))
  where
    xs : List TupleAt
    xs = tuples_of 0 rows

    rest : List (List TupleAt)
    rest = drop (suc (length rows)) (sides_at 0 sides)

    side : List (ℕ × List Value)
    side = get_or sides (length rows) []

    tuple : ℕ × List Value → TupleAt
    tuple = tuple_at (length rows)

    each : List TupleAt → List (List TupleAt)
    each = completed_each classes xs rest

-- the rows of one place more
pub upto-more : (classes : List (List ClassCol)) (sides : List (List (ℕ × List Value))) (rows : List (List Value)) (n : ℕ)
    → walked_upto classes sides rows (n + 1) ≡ walked_upto classes sides rows n ++ walked classes sides (rows ++ row_at (get_or sides (length rows) []) n ∷ [])
upto-more classes sides rows n = ap (walked_upto classes sides rows) (add-one n)

-- the rows of all places of the next side
pub upto-all : (classes : List (List ClassCol)) (sides : List (List (ℕ × List Value))) (rows : List (List Value)) (n : ℕ) → length rows < length sides → n ≡ length (get_or sides (length rows) [])
    → walked_upto classes sides rows n ≡ walked classes sides rows
upto-all classes sides rows n lt e =
    upto-is classes sides rows n (omega (arith, e))
    ∙ ap (map joined) (ap (λ (s : List (ℕ × List Value)). completed_each classes (tuples_of 0 rows) (drop (suc (length rows)) (sides_at 0 sides)) (map (tuple_at (length rows)) s)) (take_all n (get_or sides (length rows) []) (omega (arith, e)))
    ∙ sym (completed-cons classes (tuples_of 0 rows) (map (tuple_at (length rows)) (get_or sides (length rows) [])) (drop (suc (length rows)) (sides_at 0 sides)))
    ∙ ap (completed classes (tuples_of 0 rows)) (sym (rest-next (length rows) 0 (length rows) sides (omega arith) lt)))

-- some rows come behind those of fewer places
upto-later : (classes : List (List ClassCol)) (sides : List (List (ℕ × List Value))) (rows : List (List Value)) (n more : ℕ) → (later : List (List Value)) × (walked_upto classes sides rows (n + more) ≡ walked_upto classes sides rows n ++ later)
upto-later classes sides rows n zero = let e : n + 0 ≡ n = omega arith in ([], ap (walked_upto classes sides rows) e ∙ sym (append-nil (walked_upto classes sides rows n)))
upto-later classes sides rows n (suc more) =
    let h = upto-later classes sides rows n more in
    let e : n + suc more ≡ suc (n + more) = omega arith in
    let next : List (List Value) = walked classes sides (rows ++ row_at (get_or sides (length rows) []) (n + more) ∷ []) in
    (h.0 ++ next, ap (walked_upto classes sides rows) e ∙ ap (λ (before : List (List Value)). before ++ next) h.1 ∙ append_assoc (walked_upto classes sides rows n) h.0 next)

-- the rows of fewer places, and of the next, are a front of all
pub upto-front : (classes : List (List ClassCol)) (sides : List (List (ℕ × List Value))) (rows : List (List Value)) (n : ℕ) → length rows < length sides → n < length (get_or sides (length rows) [])
    → (later : List (List Value)) × (walked classes sides rows ≡ (walked_upto classes sides rows n ++ walked classes sides (rows ++ row_at (get_or sides (length rows) []) n ∷ [])) ++ later)
upto-front classes sides rows n lt below =
    let h = upto-later classes sides rows (n + 1) (length (get_or sides (length rows) []) - (n + 1)) in
    let e : (n + 1) + (length (get_or sides (length rows) []) - (n + 1)) ≡ length (get_or sides (length rows) []) = omega (arith, below) in
    (h.0, sym (upto-all classes sides rows (length (get_or sides (length rows) [])) lt refl) ∙ ap (walked_upto classes sides rows) (sym e) ∙ h.1 ∙ ap (λ (before : List (List Value)). before ++ h.0) (upto-more classes sides rows n))

-- rows of all sides that join are one combination
pub walked-end : (classes : List (List ClassCol)) (sides : List (List (ℕ × List Value))) (rows : List (List Value)) → length sides ≤ length rows → joins classes (parts_on 0 rows) ≡ true → walked classes sides rows ≡ end_to_end rows ∷ []
walked-end classes sides rows le t =
    ap (λ (ls : List (List TupleAt)). map joined (completed classes (tuples_of 0 rows) ls)) (rest-end sides rows le)
    ∙ ap (map joined) (completed-nil classes (tuples_of 0 rows) (tuples-agree classes rows ∙ t))
    ∙ ap (λ (row : List Value). row ∷ []) (tuples-joined 0 rows)

-- rows that do not join begin no combination
pub walked-none : (classes : List (List ClassCol)) (sides : List (List (ℕ × List Value))) (rows : List (List Value)) → joins classes (parts_on 0 rows) ≡ false → walked classes sides rows ≡ []
walked-none classes sides rows f = ap (map joined) (completed-none classes (tuples_of 0 rows) (product (drop (length rows) (sides_at 0 sides))) (tuples-agree classes rows ∙ f))

-- from no row on all combinations are found
pub walked-whole : (classes : List (List ClassCol)) (sides : List (List (ℕ × List Value))) → walked classes sides [] ≡ combined classes (sides_at 0 sides)
walked-whole classes sides = ap (map joined) (completed-all classes (sides_at 0 sides))

-- where there is no side there is one combination, of no row
pub combined-nothing : (classes : List (List ClassCol)) (sides : List (List (ℕ × List Value))) → length sides ≤ 0 → combined classes (sides_at 0 sides) ≡ [] ∷ []
combined-nothing classes [] le = sym (walked-whole classes []) ∙ walked-end classes [] [] (omega arith) (joins-none classes)
combined-nothing classes (s ∷ ss) le = absurd (omega (arith, le))

-- where a side has no row there is no combination
pub combined-lacking : (classes : List (List ClassCol)) (sides : List (List (ℕ × List Value))) → LacksOne sides → combined classes (sides_at 0 sides) ≡ []
combined-lacking classes sides lacks = ap (λ (cs : List (List TupleAt)). map joined (filter (agree classes) cs)) (none 0 sides lacks.0 lacks.1 lacks.2)
  where
    behind : (ys : List TupleAt) (lists : List (List TupleAt)) → product lists ≡ [] → product (ys ∷ lists) ≡ []
    behind [] lists e = refl
    behind (y ∷ ys) lists e = ap₂ (λ (cs ds : List (List TupleAt)). map (λ c. y ∷ c) cs ++ ds) e (behind ys lists e)

    none : (base : ℕ) (ss : List (List (ℕ × List Value))) (k : ℕ) → k < length ss → get_or ss k [] ≡ [] → product (sides_at base ss) ≡ []
    none base [] k lt e = absurd (omega (arith, lt))
    none base (s ∷ ss) zero lt e = ap (λ (t : List (ℕ × List Value)). product (map (tuple_at base) t ∷ sides_at (base + 1) ss)) e
    none base (s ∷ ss) (suc k) lt e = behind (map (tuple_at base) s) (sides_at (base + 1) ss) (none (base + 1) ss k (omega (arith, lt)) e)
