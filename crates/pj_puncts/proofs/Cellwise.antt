-- Cells of rows, instances and punctuations, and their hashes.
use Rattle.std.proofs.Common.{◌≡◌, ℕ, zero, suc, ◌+◌, ◌<◌, ◌≤◌, Bool, true, false, not, cond, ◌&&◌, List, [], ◌∷◌, Option, Some, None, length, get_or, drop, take, eqb, refl, sym, ap, ◌∙◌, arith}
use Rattle.std.specs.List.{slice_get}
use Rattle.std.proofs.lemmas.Bool.{and_parts, eq-eqb, eqb-true, false_from_ne_true, false≢true}
use Rattle.std.proofs.lemmas.List.{get_or-map, length-map}
use Rattle.std.proofs.lemmas.Option.{get_or_from_slice_get}
use Rattle.pj_value.specs.declared.values.Value.{Value}
use Rattle.pj_value.specs.Values.{value_eq}
use Rattle.pj_value.proofs.Orders.{same_if_equal}
use Rattle.pj_pattern.specs.declared.pattern.Form.TheVariants.{Wild, Empty, Constant, Range, Members}
use Rattle.pj_pattern.specs.Patterns.{covers_pattern, constant_in}
use Rattle.pj_pattern.proofs.Covering.{covered}
use Rattle.pj_events.specs.Patterns.{Pattern, covers, covers_punct, is_wild, matches_row, matches_value}
use Rattle.pj_puncts.specs.Givens.{cell_of, marked}
use Rattle.pj_puncts.specs.Hashes.{cell_at, constants_of, hash_from, hash_of, row_cells, with_cell}
use Rattle.pj_puncts.specs.Indexed.{fits_mark, fits_marks, is_constant}
use Rattle.pj_shape.specs.Instances.{instance_of}

-- a row is matched where its cells are covered
pub row_covered : (ps : List Pattern) (row : List Value) → covers ps (row_cells row) ≡ matches_row ps row
row_covered [] [] = refl
row_covered [] (v ∷ row) = refl
row_covered (p ∷ ps) [] = refl
row_covered (p ∷ ps) (v ∷ row) = ap (λ b. matches_value p v && b) (row_covered ps row)

pub row_count : (row : List Value) → length (row_cells row) ≡ length row
row_count row = length-map row Some

pub row_cell_at : (row : List Value) (column : ℕ) → cell_at (row_cells row) column ≡ slice_get row column
row_cell_at [] column = refl
row_cell_at (v ∷ row) zero = refl
row_cell_at (v ∷ row) (suc column) = row_cell_at row column

pub instance_count : (marks : List Bool) (vs : List Value) → length (instance_of marks vs) ≡ length marks
instance_count [] vs = refl
instance_count (false ∷ marks) vs = ap suc (instance_count marks vs)
instance_count (true ∷ marks) [] = ap suc (instance_count marks [])
instance_count (true ∷ marks) (v ∷ vs) = ap suc (instance_count marks vs)

-- ---- the cell of a column of an instance

pub no_cell : (marks : List Bool) (vs : List Value) (column : ℕ) → length marks ≤ column → cell_at (instance_of marks vs) column ≡ None
no_cell [] vs column le = refl
no_cell (m ∷ marks) vs zero le = absurd (omega (arith, le))
no_cell (false ∷ marks) vs (suc column) le = no_cell marks vs column (omega (arith, le))
no_cell (true ∷ marks) [] (suc column) le = no_cell marks [] column (omega (arith, le))
no_cell (true ∷ marks) (v ∷ vs) (suc column) le = no_cell marks vs column (omega (arith, le))

pub free_cell : (marks : List Bool) (vs : List Value) (column : ℕ) → slice_get marks column ≡ Some false → cell_at (instance_of marks vs) column ≡ None
free_cell [] vs column e = refl
free_cell (false ∷ marks) vs zero e = refl
free_cell (true ∷ marks) vs zero e = absurd (cc)
free_cell (false ∷ marks) vs (suc column) e = free_cell marks vs column e
free_cell (true ∷ marks) [] (suc column) e = free_cell marks [] column e
free_cell (true ∷ marks) (v ∷ vs) (suc column) e = free_cell marks vs column e

pub marked_cell : (marks : List Bool) (vs : List Value) (column : ℕ) → slice_get marks column ≡ Some true → cell_at (instance_of marks vs) column ≡ slice_get vs (marked (take column marks))
marked_cell [] vs column e = absurd (cc)
marked_cell (false ∷ marks) vs zero e = absurd (cc)
marked_cell (true ∷ marks) [] zero e = refl
marked_cell (true ∷ marks) (v ∷ vs) zero e = refl
marked_cell (false ∷ marks) vs (suc column) e =
    let n : 0 + marked (take column marks) ≡ marked (take column marks) = omega arith in rw n (marked_cell marks vs column e)
marked_cell (true ∷ marks) [] (suc column) e = marked_cell marks [] column e
marked_cell (true ∷ marks) (v ∷ vs) (suc column) e =
    let n : 1 + marked (take column marks) ≡ suc (marked (take column marks)) = omega arith in rw n (marked_cell marks vs column e)

-- one column more
pub marked_more : (marks : List Bool) (column : ℕ) (mark : Bool) → slice_get marks column ≡ Some mark → marked (take (column + 1) marks) ≡ marked (take column marks) + cond mark 1 0
marked_more [] column mark e = absurd (cc)
marked_more (m ∷ marks) zero mark e = let same : m ≡ mark = get_or_from_slice_get (m ∷ marks) 0 mark mark e in rw same (omega arith)
marked_more (m ∷ marks) (suc column) mark e =
    let n : suc column + 1 ≡ suc (column + 1) = omega arith in
    let ih : marked (take (column + 1) marks) ≡ marked (take column marks) + cond mark 1 0 = marked_more marks column mark e in
    rw n (omega (arith, ih))

-- ---- hashes, cell by cell

pub hash_of_equal : (marks : List Bool) (cells : List (Option Value)) → length marks ≡ length cells → hash_of marks cells ≡ hash_from 0 marks cells
hash_of_equal marks cells e = ap (λ b. cond b (hash_from 0 marks cells) 0) (eq-eqb (length marks) (length cells) e)

pub hash_of_other : (marks : List Bool) (cells : List (Option Value)) → (length marks ≡ length cells → ⊥) → hash_of marks cells ≡ 0
hash_of_other marks cells f = ap (λ b. cond b (hash_from 0 marks cells) 0) (false_from_ne_true (eqb (length marks) (length cells)) (λ t. f (eqb-true (length marks) (length cells) t)))

pub hash_ends : (p : ℕ) (marks : List Bool) (column : ℕ) (cells : List (Option Value)) → length marks ≤ column → hash_from p (drop column marks) cells ≡ p
hash_ends p [] zero cells le = refl
hash_ends p [] (suc column) cells le = refl
hash_ends p (m ∷ marks) zero cells le = absurd (omega (arith, le))
hash_ends p (m ∷ marks) (suc column) cells le = hash_ends p marks column cells (omega (arith, le))

pub hash_step : (p : ℕ) (ms : List Bool) (cells : List (Option Value)) (i : ℕ) → i < length ms → length ms ≡ length cells
    → hash_from p (drop i ms) (drop i cells) ≡ hash_from (with_cell p (get_or ms i false) (get_or cells i None)) (drop (i + 1) ms) (drop (i + 1) cells)
hash_step p [] cells i lt e = absurd (omega (arith, lt))
hash_step p (m ∷ ms) [] i lt e = absurd (omega (arith, e))
hash_step p (m ∷ ms) (c ∷ cells) zero lt e = refl
hash_step p (m ∷ ms) (c ∷ cells) (suc i) lt e = let n : suc i + 1 ≡ suc (i + 1) = omega arith in rw n (hash_step p ms cells i (omega (arith, lt)) (omega (arith, e)))

row-cell : (row : List Value) (i : ℕ) → get_or (row_cells row) i None ≡ slice_get row i
row-cell [] i = refl
row-cell (v ∷ row) zero = refl
row-cell (v ∷ row) (suc i) = row-cell row i

-- one column more of a row
pub row_step : (p : ℕ) (ms : List Bool) (row : List Value) (i next : ℕ) (cell : Option Value) → i < length ms → length ms ≡ length row → cell ≡ slice_get row i → next ≡ with_cell p (get_or ms i false) cell
    → hash_from p (drop i ms) (drop i (row_cells row)) ≡ hash_from next (drop (i + 1) ms) (drop (i + 1) (row_cells row))
row_step p ms row i next cell lt e is to =
    hash_step p ms (row_cells row) i lt (e ∙ sym (length-map row Some))
    ∙ ap (λ n. hash_from n (drop (i + 1) ms) (drop (i + 1) (row_cells row))) (ap (with_cell p (get_or ms i false)) (row-cell row i ∙ sym is) ∙ sym to)

-- one column more of a punctuation
pub constants_step : (p : ℕ) (ms : List Bool) (ps : List Pattern) (i next : ℕ) (q : Pattern) (cell : Option Value) → i < length ms → length ms ≡ length ps → q ≡ get_or ps i q → cell ≡ constant_in q
    → next ≡ with_cell p (get_or ms i false) cell → hash_from p (drop i ms) (drop i (constants_of ps)) ≡ hash_from next (drop (i + 1) ms) (drop (i + 1) (constants_of ps))
constants_step p ms ps i next q cell lt e is cell_is to =
    hash_step p ms (constants_of ps) i lt (e ∙ sym (length-map ps constant_in))
    ∙ ap (λ n. hash_from n (drop (i + 1) ms) (drop (i + 1) (constants_of ps)))
    (ap (with_cell p (get_or ms i false)) (get_or-map constant_in ps i q None (omega (arith, lt, e)) ∙ (ap constant_in (sym is) ∙ sym cell_is)) ∙ sym to)

instance-first : (mark : Bool) (marks : List Bool) (vs : List Value) (taken : ℕ) → instance_of (mark ∷ marks) (drop taken vs) ≡ cell_of mark (slice_get vs taken) ∷ instance_of marks (drop (taken + cond mark 1 0) vs)
instance-first false marks vs taken = let e : taken + 0 ≡ taken = omega arith in rw e refl
instance-first true marks [] zero = refl
instance-first true marks [] (suc taken) = let e : suc taken + 1 ≡ suc (taken + 1) = omega arith in rw e refl
instance-first true marks (v ∷ vs) zero = refl
instance-first true marks (v ∷ vs) (suc taken) = let e : suc taken + 1 ≡ suc (taken + 1) = omega arith in rw e (instance-first true marks vs taken)

-- one column more of an instance
pub instance_step : (p : ℕ) (ms scheme : List Bool) (vs : List Value) (i taken next : ℕ) (mark : Bool) (cell : Option Value) → i < length ms → length ms ≡ length scheme → slice_get scheme i ≡ Some mark
    → cell ≡ cell_of mark (slice_get vs taken) → next ≡ with_cell p (get_or ms i false) cell
    → hash_from p (drop i ms) (instance_of (drop i scheme) (drop taken vs)) ≡ hash_from next (drop (i + 1) ms) (instance_of (drop (i + 1) scheme) (drop (taken + cond mark 1 0) vs))
instance_step p [] scheme vs i taken next mark cell lt e f is to = absurd (omega (arith, lt))
instance_step p (m ∷ ms) [] vs i taken next mark cell lt e f is to = absurd (omega (arith, e))
instance_step p (m ∷ ms) (s ∷ scheme) vs zero taken next mark cell lt e f is to =
    let same : s ≡ mark = some-same s mark f in
    ap (λ x. hash_from p (m ∷ ms) (instance_of (x ∷ scheme) (drop taken vs))) same
    ∙ (ap (hash_from p (m ∷ ms)) (instance-first mark scheme vs taken)
    ∙ ap (λ n. hash_from n ms (instance_of scheme (drop (taken + cond mark 1 0) vs))) (ap (with_cell p m) (sym is) ∙ sym to))
  where
    some-same : (a b : Bool) → Some a ≡ Some b → a ≡ b
    some-same a b q = cc
instance_step p (m ∷ ms) (s ∷ scheme) vs (suc i) taken next mark cell lt e f is to =
    let n : suc i + 1 ≡ suc (i + 1) = omega arith in rw n (instance_step p ms scheme vs i taken next mark cell (omega (arith, lt)) (omega (arith, e)) f is to)

-- ---- what a punctuation covers

pub covers_equal : (ps : List Pattern) (cells : List (Option Value)) → covers ps cells ≡ true → length ps ≡ length cells
covers_equal [] [] t = refl
covers_equal [] (c ∷ cells) t = absurd (false≢true t)
covers_equal (p ∷ ps) [] t = absurd (false≢true t)
covers_equal (p ∷ ps) (Some v ∷ cells) t = ap suc (covers_equal ps cells (and_parts (matches_value p v) (covers ps cells) t).1)
covers_equal (p ∷ ps) (None ∷ cells) t = ap suc (covers_equal ps cells (and_parts (is_wild p) (covers ps cells) t).1)

wild-covers : (p q : Pattern) → covers_pattern p q ≡ true → is_wild q ≡ true → is_wild p ≡ true
wild-covers p Wild t w = t
wild-covers p Empty t w = absurd (false≢true w)
wild-covers p (Constant c) t w = absurd (false≢true w)
wild-covers p (Range low high) t w = absurd (false≢true w)
wild-covers p (Members ms) t w = absurd (false≢true w)

-- what is covered by a punctuation is covered by one that covers it
pub covers_through : (ps qs : List Pattern) (cells : List (Option Value)) → covers_punct ps qs ≡ true → covers qs cells ≡ true → covers ps cells ≡ true
covers_through [] [] cells t u = u
covers_through [] (q ∷ qs) cells t u = absurd (false≢true t)
covers_through (p ∷ ps) [] cells t u = absurd (false≢true t)
covers_through (p ∷ ps) (q ∷ qs) [] t u = absurd (false≢true u)
covers_through (p ∷ ps) (q ∷ qs) (Some v ∷ cells) t u =
    let a = and_parts (covers_pattern p q) (covers_punct ps qs) t in
    let b = and_parts (matches_value q v) (covers qs cells) u in
    rw (covered p q v a.0 b.0) (covers_through ps qs cells a.1 b.1)
covers_through (p ∷ ps) (q ∷ qs) (None ∷ cells) t u =
    let a = and_parts (covers_pattern p q) (covers_punct ps qs) t in
    let b = and_parts (is_wild q) (covers qs cells) u in
    rw (wild-covers p q a.0 b.0) (covers_through ps qs cells a.1 b.1)

-- ---- cells that are covered have the punctuation's constants in its marked columns

pub fits_equal : (ms : List Bool) (ps : List Pattern) → fits_marks ms ps ≡ true → length ms ≡ length ps
fits_equal [] [] t = refl
fits_equal [] (p ∷ ps) t = absurd (false≢true t)
fits_equal (m ∷ ms) [] t = absurd (false≢true t)
fits_equal (m ∷ ms) (p ∷ ps) t = ap suc (fits_equal ms ps (and_parts (fits_mark m p) (fits_marks ms ps) t).1)

pub fits_other : (ms : List Bool) (ps : List Pattern) → (length ms ≡ length ps → ⊥) → fits_marks ms ps ≡ false
fits_other ms ps f = false_from_ne_true (fits_marks ms ps) (λ t. f (fits_equal ms ps t))

cell-same : (n : ℕ) (p : Pattern) (cell : Option Value) (ps : List Pattern) (cells : List (Option Value)) → is_constant p ≡ true → covers (p ∷ ps) (cell ∷ cells) ≡ true → with_cell n true cell ≡ with_cell n true (constant_in p)
cell-same n Wild cell ps cells t u = absurd (false≢true t)
cell-same n Empty cell ps cells t u = absurd (false≢true t)
cell-same n (Constant c) None ps cells t u = absurd (false≢true u)
cell-same n (Constant c) (Some v) ps cells t u = ap (λ (w : Value). with_cell n true (Some w)) (sym (same_if_equal c v (and_parts (value_eq c v) (covers ps cells) u).0))
cell-same n (Range low high) cell ps cells t u = absurd (false≢true t)
cell-same n (Members ms) cell ps cells t u = absurd (false≢true t)

rest-covers : (p : Pattern) (cell : Option Value) (ps : List Pattern) (cells : List (Option Value)) → covers (p ∷ ps) (cell ∷ cells) ≡ true → covers ps cells ≡ true
rest-covers p None ps cells t = (and_parts (is_wild p) (covers ps cells) t).1
rest-covers p (Some v) ps cells t = (and_parts (matches_value p v) (covers ps cells) t).1

same-from : (n : ℕ) (ms : List Bool) (ps : List Pattern) (cells : List (Option Value)) → fits_marks ms ps ≡ true → covers ps cells ≡ true → hash_from n ms cells ≡ hash_from n ms (constants_of ps)
same-from n [] ps cells t u = refl
same-from n (m ∷ ms) [] cells t u = absurd (false≢true t)
same-from n (m ∷ ms) (p ∷ ps) [] t u = absurd (false≢true u)
same-from n (true ∷ ms) (p ∷ ps) (cell ∷ cells) t u =
    let f = and_parts (is_constant p) (fits_marks ms ps) t in
    ap (λ k. hash_from k ms cells) (cell-same n p cell ps cells f.0 u) ∙ same-from (with_cell n true (constant_in p)) ms ps cells f.1 (rest-covers p cell ps cells u)
same-from n (false ∷ ms) (p ∷ ps) (cell ∷ cells) t u =
    let f = and_parts (not (is_constant p)) (fits_marks ms ps) t in
    same-from n ms ps cells f.1 (rest-covers p cell ps cells u)

pub hash_same : (ms : List Bool) (ps : List Pattern) (cells : List (Option Value)) → fits_marks ms ps ≡ true → covers ps cells ≡ true → hash_of ms cells ≡ hash_of ms (constants_of ps)
hash_same ms ps cells t u =
    let a : length ms ≡ length ps = fits_equal ms ps t in
    hash_of_equal ms cells (a ∙ covers_equal ps cells u) ∙ (same-from 0 ms ps cells t u ∙ sym (hash_of_equal ms (constants_of ps) (a ∙ sym (length-map ps constant_in))))
