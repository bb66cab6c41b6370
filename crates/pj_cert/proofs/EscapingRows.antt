-- The rows that escape fit their inputs, join, and match no listed instance of an input that is not reached.
use Rattle.std.proofs.Common.{ℕ, zero, suc, ◌+◌, ◌<◌, ◌≡◌, ◌≢◌, ◌⊎◌, length, get_or, arith, Bool, true, false, cond, ◌&&◌, ◌||◌, List, [], ◌∷◌, Option, Some, None, slice_get, refl, sym, ap, ◌∙◌, subst, inl, inr, ap₂}
use Rattle.std.specs.Prelude.{◌==◌}
use Rattle.std.proofs.lemmas.Bool.{and_from, and_parts, cases_eq, eq-eqb, eqb-true, false_from_ne_true, false≢true, ne_eqb}
use Rattle.std.proofs.lemmas.Option.{slice_get-get_or, slice_get_within}
use Rattle.pj_value.specs.declared.values.Kind.{Kind}
use Rattle.pj_value.specs.declared.values.Kind.TheVariants.{Int as KInt, Text as KText}
use Rattle.pj_value.specs.declared.values.Value.{Value}
use Rattle.pj_value.specs.Lists.{In, has}
use Rattle.pj_value.specs.Values.{is_kind}
use Rattle.pj_value.proofs.Members.{any_from, In-flat_map, In-flat_map_from, in-place}
use Rattle.pj_shape.specs.declared.columns.Column.{Column}
use Rattle.pj_shape.specs.declared.columns.Instance.{Instance}
use Rattle.pj_shape.specs.declared.joins.ClassCol.{ClassCol}
use Rattle.pj_shape.specs.declared.joins.JoinSpec.{JoinSpec}
use Rattle.pj_shape.specs.Columns.{domains_of}
use Rattle.pj_shape.specs.Joining.{Joins, Part, has_column, value_at, values, values_in, parts_on}
use Rattle.pj_shape.specs.Sound.{AreApart, AreOfOtherInputs, IsOfKind, IsSoundClass, IsSoundSpec, FitSchemes}
use Rattle.pj_shape.proofs.Classes.{has_in}
use Rattle.pj_pattern.specs.Fitting.{row_fits}
use Rattle.pj_shape.specs.Sets.{IsClosed, are_bound, is_bound, schemes_of, touches}
use Rattle.pj_shape.specs.Instances.{MatchesInstance, instance_of}
use Rattle.pj_cert.specs.Escaping.{Case, Escapes, escape_rows, FitRows, MatchNone, case_of, class_value, class_with, column_of, column_value, fresh, other_value, row_at, row_of, rows_from, value_or, values_from}
use Rattle.pj_cert.specs.Instances.{AreInstances, blank, constants_of, marked, scheme_of}
use Rattle.pj_cert.specs.Laws.{EscapesAll, IsCut, schema_of}
use Rattle.pj_cert.proofs.FreeValues.{number_is_free, text_is_free}

-- ---- the class of a column

in_has : (class : List ClassCol) (at : ClassCol) → In at class → has_column class at ≡ true
in_has class at h =
    any_from (λ c. (c.input == at.input) && (c.column == at.column)) class at h
    (and_from (at.input == at.input) (at.column == at.column) (eq-eqb at.input at.input refl) (eq-eqb at.column at.column refl))

class_with_is : (classes : List (List ClassCol)) (class : List ClassCol) (at : ClassCol) → AreApart classes → In class classes → In at class → class_with classes at ≡ class
class_with_is [] class at apart h k = absurd h
class_with_is (c ∷ classes) class at apart (inl e) k =
    ap (λ (b : Bool). cond b c (class_with classes at)) (in_has c at (subst (λ (z : List ClassCol). In at z) (sym e) k)) ∙ e
class_with_is (c ∷ classes) class at apart (inr h) k =
    ap (λ (b : Bool). cond b c (class_with classes at)) (false_from_ne_true (has_column c at) (λ t. apart.0 class h at (has_in c at t) k))
    ∙ class_with_is classes class at apart.1 h k

-- the column stands in one of the classes, or is a class of its own
with_cases : (classes : List (List ClassCol)) (at : ClassCol)
    → (In (class_with classes at) classes × In at (class_with classes at)) ⊎ (class_with classes at ≡ at ∷ [])
with_cases [] at = inr refl
with_cases (c ∷ classes) at = go (has_column c at) refl (with_cases classes at)
  where
    go : (b : Bool) → has_column c at ≡ b → (In (class_with classes at) classes × In at (class_with classes at)) ⊎ (class_with classes at ≡ at ∷ [])
        → (In (cond b c (class_with classes at)) (c ∷ classes) × In at (cond b c (class_with classes at))) ⊎ (cond b c (class_with classes at) ≡ at ∷ [])
    go true t ih = inl (inl refl, has_in c at t)
    go false t (inl ih) = inl (inr ih.0, ih.1)
    go false t (inr ih) = inr ih

column_there : (class : List ClassCol) (at : ClassCol) → AreOfOtherInputs class → In at class → column_of at.input class ≡ Some at.column
column_there [] at one h = absurd h
column_there (c ∷ class) at one (inl e) =
    ap (λ (b : Bool). cond b (Some c.column) (column_of at.input class)) (eq-eqb c.input at.input (ap (λ (z : ClassCol). z.input) e))
    ∙ ap (λ (z : ClassCol). Some z.column) e
column_there (c ∷ class) at one (inr h) =
    ap (λ (b : Bool). cond b (Some c.column) (column_of at.input class)) (ne_eqb c.input at.input (λ e. one.0 at h (sym e)))
    ∙ column_there class at one.1 h

column_in : (input : ℕ) (class : List ClassCol) (n : ℕ) → column_of input class ≡ Some n → In (let z : ClassCol = record { input = input; column = n } in z) class
column_in input [] n e = cc
column_in input (c ∷ class) n e = go (c.input == input) refl (column_in input class n) e
  where
    at : ClassCol
    at = record { input = input; column = n }

    same : c.input ≡ input → c.column ≡ n → c ≡ at
    same e f = ap (λ (m : ℕ). let z : ClassCol = record { input = m; column = c.column } in z) e ∙ ap (λ (m : ℕ). let z : ClassCol = record { input = input; column = m } in z) f

    go : (b : Bool) → (c.input == input) ≡ b → (column_of input class ≡ Some n → In at class) → cond b (Some c.column) (column_of input class) ≡ Some n → In at (c ∷ class)
    go true t ih f = inl (same (eqb-true c.input input t) cc)
    go false t ih f = inr (ih f)

or_false : (b c : Bool) → (b || c) ≡ false → (b ≡ false) × (c ≡ false)
or_false true c e = absurd (false≢true (sym e))
or_false false c e = (refl, e)

column_none : (inside : ℕ → Bool) (class : List ClassCol) (input : ℕ) → touches inside class ≡ false → inside input ≡ true → column_of input class ≡ None
column_none inside [] input out is = refl
column_none inside (c ∷ class) input out is =
    let both = or_false (inside c.input) (touches inside class) out in
    go (c.input == input) refl both.0 (column_none inside class input both.1 is)
  where
    go : (b : Bool) → (c.input == input) ≡ b → inside c.input ≡ false → column_of input class ≡ None → cond b (Some c.column) (column_of input class) ≡ None
    go true t not_here ih = absurd (false≢true (sym not_here ∙ (ap inside (eqb-true c.input input t) ∙ is)))
    go false t not_here ih = ih

-- ---- the row of an input, and its values

row_there : (case : Case) (n : ℕ) (schemas : List (List Column)) (k : ℕ) (schema : List Column) → slice_get schemas k ≡ Some schema
    → row_at (rows_from case n schemas) k ≡ row_of case (n + k) schema
row_there case n [] k schema e = cc
row_there case n (s ∷ schemas) zero schema e =
    let same : n ≡ n + 0 = omega arith in
    let first : s ≡ schema = cc in
    ap (λ (m : ℕ). row_of case m s) same ∙ ap (row_of case (n + 0)) first
row_there case n (s ∷ schemas) (suc k) schema e =
    let same : n + 1 + k ≡ n + suc k = omega arith in
    row_there case (n + 1) schemas k schema e ∙ ap (λ (m : ℕ). row_of case m schema) same

value_there : (case : Case) (input n : ℕ) (columns : List Column) (k : ℕ) (column : Column) → slice_get columns k ≡ Some column
    → value_at (values_from case input n columns) k ≡ column_value case (record { input = input; column = n + k }) column.kind
value_there case input n [] k column e = cc
value_there case input n (c ∷ columns) zero column e =
    let same : n ≡ n + 0 = omega arith in
    let first : c ≡ column = cc in
    ap (λ (m : ℕ). column_value case (record { input = input; column = m }) c.kind) same
    ∙ ap (λ (d : Column). column_value case (record { input = input; column = n + 0 }) d.kind) first
value_there case input n (c ∷ columns) (suc k) column e =
    let same : n + 1 + k ≡ n + suc k = omega arith in
    value_there case input (n + 1) columns k column e
    ∙ ap (λ (m : ℕ). column_value case (record { input = input; column = m }) column.kind) same

rows_length : (case : Case) (n : ℕ) (schemas : List (List Column)) → length (rows_from case n schemas) ≡ length schemas
rows_length case n [] = refl
rows_length case n (s ∷ schemas) = ap suc (rows_length case (n + 1) schemas)

values_length : (case : Case) (input n : ℕ) (columns : List Column) → length (values_from case input n columns) ≡ length columns
values_length case input n [] = refl
values_length case input n (c ∷ columns) = ap suc (values_length case input (n + 1) columns)

-- the given row stands at its input, and elsewhere the values that are chosen
own_there : (case : Case) (input : ℕ) (schema : List Column) → input ≡ case.input → row_of case input schema ≡ case.row
own_there case input schema e = ap (λ (b : Bool). cond b case.row (values_from case input 0 schema)) (eq-eqb input case.input e)

other_there : (case : Case) (input : ℕ) (schema : List Column) → input ≢ case.input → row_of case input schema ≡ values_from case input 0 schema
other_there case input schema ne = ap (λ (b : Bool). cond b case.row (values_from case input 0 schema)) (ne_eqb input case.input ne)

-- the value that another input's row has in a column
pub value_is : (case : Case) (schemas : List (List Column)) (input k : ℕ) (schema : List Column) (column : Column)
    → slice_get schemas input ≡ Some schema → slice_get schema k ≡ Some column → input ≢ case.input
    → value_at (row_at (rows_from case 0 schemas) input) k ≡ column_value case (record { input = input; column = k }) column.kind
value_is case schemas input k schema column e f ne =
    let at : 0 + input ≡ input = omega arith in
    let col : 0 + k ≡ k = omega arith in
    ap (λ (row : List Value). value_at row k)
    (row_there case 0 schemas input schema e ∙ (ap (λ (m : ℕ). row_of case m schema) at ∙ other_there case input schema ne))
    ∙ (value_there case input 0 schema k column f
    ∙ ap (λ (m : ℕ). column_value case (record { input = input; column = m }) column.kind) col)

own_is : (case : Case) (schemas : List (List Column)) (input : ℕ) (schema : List Column) → slice_get schemas input ≡ Some schema → input ≡ case.input
    → row_at (rows_from case 0 schemas) input ≡ case.row
own_is case schemas input schema e same =
    row_there case 0 schemas input schema e ∙ own_there case (0 + input) schema (omega (arith, same))

-- ---- all columns of a class have its value

class_is : (case : Case) (schemas : List (List Column)) (class : List ClassCol) (at : ClassCol) (kind : Kind) → AreApart case.classes → In class case.classes
    → AreOfOtherInputs class → In at class → IsOfKind schemas at kind
    → value_at (row_at (rows_from case 0 schemas) at.input) at.column ≡ class_value case kind class
class_is case schemas class at kind apart in_classes one in_class (schema, column, e, f, g) = go (cases_eq at.input case.input)
  where
    go : (at.input ≡ case.input) ⊎ (at.input ≢ case.input) → value_at (row_at (rows_from case 0 schemas) at.input) at.column ≡ class_value case kind class
    go (inl same) =
        ap (λ (row : List Value). value_at row at.column) (own_is case schemas at.input schema e same)
        ∙ ap (λ (o : Option ℕ). value_or case.row o (other_value case kind class))
        (sym (ap (λ (m : ℕ). column_of m class) (sym same) ∙ column_there class at one in_class))
    go (inr differ) =
        value_is case schemas at.input at.column schema column e f differ
        ∙ (ap (λ (k : Kind). class_value case k (class_with case.classes at)) g
        ∙ ap (class_value case kind) (class_with_is case.classes class at apart in_classes in_class))

part_there : (n : ℕ) (rows : List (List Value)) (p : Part) → In p (parts_on n rows) → (k : ℕ) × (p.input ≡ n + k) × (p.row ≡ row_at rows k)
part_there n [] p h = absurd h
part_there n (row ∷ rows) p (inl e) =
    let same : n ≡ n + 0 = omega arith in
    (0, sym (ap (λ (q : Part). q.input) e) ∙ same, sym (ap (λ (q : Part). q.row) e))
part_there n (row ∷ rows) p (inr h) =
    let r = part_there (n + 1) rows p h in
    (suc r.0, omega (arith, r.1), r.2)

in_values : (rows : List (List Value)) (class : List ClassCol) (v : Value) → In v (values (parts_on 0 rows) class)
    → (at : ClassCol) × In at class × (value_at (row_at rows at.input) at.column ≡ v)
in_values rows class v h =
    let r = In-flat_map (values_in (parts_on 0 rows)) v class h in
    let s = In-flat_map (λ (p : Part). cond (p.input == r.0.input) (value_at p.row r.0.column ∷ []) []) v (parts_on 0 rows) r.2 in
    let k = part_there 0 rows s.0 s.1 in
    let is = only (s.0.input == r.0.input) (value_at s.0.row r.0.column) s.2 in
    let here : r.0.input ≡ k.0 = omega (arith, eqb-true s.0.input r.0.input is.0, k.1) in
    (r.0, r.1, ap (λ (m : ℕ). value_at (row_at rows m) r.0.column) here ∙ (sym (ap (λ (row : List Value). value_at row r.0.column) k.2) ∙ is.1))
  where
    only : (b : Bool) (w : Value) → In v (cond b (w ∷ []) []) → (b ≡ true) × (w ≡ v)
    only true w (inl e) = (refl, e)
    only true w (inr h) = absurd h
    only false w h = absurd h

they_join : (case : Case) (schemas : List (List Column)) → AreApart case.classes → ((class : List ClassCol) → In class case.classes → IsSoundClass schemas class)
    → Joins case.classes (parts_on 0 (rows_from case 0 schemas))
they_join case schemas apart sound class h v w in_v in_w = each v in_v ∙ sym (each w in_w)
  where
    rows : List (List Value)
    rows = rows_from case 0 schemas

    kind : Kind
    kind = (sound class h).same_kind.0

    each : (u : Value) → In u (values (parts_on 0 (rows_from case 0 schemas)) class) → u ≡ class_value case (sound class h).same_kind.0 class
    each u in_u =
        let r = in_values (rows_from case 0 schemas) class u in_u in
        sym r.2 ∙ class_is case schemas class r.0 (sound class h).same_kind.0 apart h (sound class h).one_each r.1 ((sound class h).same_kind.1 r.0 r.1)

-- ---- the rows fit

fits_at : (columns : List Column) (row : List Value) (k : ℕ) (column : Column) → row_fits (domains_of columns) row ≡ true → slice_get columns k ≡ Some column
    → is_kind column.kind (value_at row k) ≡ true
fits_at [] row k column t e = cc
fits_at (c ∷ columns) [] k column t e = absurd (false≢true t)
fits_at (c ∷ columns) (v ∷ row) zero column t e =
    let first : c ≡ column = cc in
    subst (λ (d : Column). is_kind d.kind v ≡ true) first (and_parts (is_kind c.kind v) (row_fits (domains_of columns) row) t).0
fits_at (c ∷ columns) (v ∷ row) (suc k) column t e =
    fits_at columns row k column (and_parts (is_kind c.kind v) (row_fits (domains_of columns) row) t).1 e

blank_kind : (kind : Kind) → is_kind kind (blank kind) ≡ true
blank_kind KInt = refl
blank_kind KText = refl

fresh_kind : (case : Case) (kind : Kind) → is_kind kind (fresh case kind) ≡ true
fresh_kind case KInt = refl
fresh_kind case KText = refl

other_kind : (case : Case) (kind : Kind) (class : List ClassCol) → is_kind kind (other_value case kind class) ≡ true
other_kind case kind class = go (touches (has case.reached) class)
  where
    go : (b : Bool) → is_kind kind (cond b (blank kind) (fresh case kind)) ≡ true
    go true = blank_kind kind
    go false = fresh_kind case kind

one_kind : (schemas : List (List Column)) (at : ClassCol) (one other : Kind) → IsOfKind schemas at one → IsOfKind schemas at other → one ≡ other
one_kind schemas at one other (s, c, e, f, g) (t, d, i, j, k) =
    let same : s ≡ t = cc in
    let there : slice_get s at.column ≡ Some d = ap (λ (x : List Column). slice_get x at.column) same ∙ j in
    let column : c ≡ d = cc in
    sym g ∙ (ap (λ (x : Column). x.kind) column ∙ k)

kind_there : (case : Case) (schemas : List (List Column)) (schema : List Column) (at : ClassCol) (kind : Kind)
    → ((class : List ClassCol) → In class case.classes → IsSoundClass schemas class) → slice_get schemas case.input ≡ Some schema
    → row_fits (domains_of schema) case.row ≡ true → at.input ≢ case.input → IsOfKind schemas at kind
    → is_kind kind (column_value case at kind) ≡ true
kind_there case schemas schema at kind sound e fit differ of_kind = go (with_cases case.classes at)
  where
    class : List ClassCol
    class = class_with case.classes at

    in_own : (n : ℕ) → IsOfKind schemas (record { input = case.input; column = n }) kind → is_kind kind (value_at case.row n) ≡ true
    in_own n (s, c, i, j, k) =
        let same : schema ≡ s = cc in
        let there : slice_get schema n ≡ Some c = ap (λ (x : List Column). slice_get x n) same ∙ j in
        subst (λ (x : Kind). is_kind x (value_at case.row n) ≡ true) k (fits_at schema case.row n c fit there)

    in_class : (o : Option ℕ) → column_of case.input (class_with case.classes at) ≡ o
        → In (class_with case.classes at) case.classes → In at (class_with case.classes at)
        → is_kind kind (value_or case.row o (other_value case kind (class_with case.classes at))) ≡ true
    in_class None q h k = other_kind case kind (class_with case.classes at)
    in_class (Some n) q h k =
        let all = (sound (class_with case.classes at) h).same_kind in
        let own = all.1 (record { input = case.input; column = n }) (column_in case.input (class_with case.classes at) n q) in
        let same : all.0 ≡ kind = one_kind schemas at all.0 kind (all.1 at k) of_kind in
        in_own n (subst (λ (x : Kind). IsOfKind schemas (record { input = case.input; column = n }) x) same own)

    alone : column_of case.input (at ∷ []) ≡ None
    alone = ap (λ (b : Bool). cond b (Some at.column) None) (ne_eqb at.input case.input differ)

    go : (In (class_with case.classes at) case.classes × In at (class_with case.classes at)) ⊎ (class_with case.classes at ≡ at ∷ [])
        → is_kind kind (class_value case kind (class_with case.classes at)) ≡ true
    go (inl both) = in_class (column_of case.input (class_with case.classes at)) refl both.0 both.1
    go (inr own) =
        ap (λ (c : List ClassCol). is_kind kind (class_value case kind c)) own
        ∙ (ap (λ (o : Option ℕ). is_kind kind (value_or case.row o (other_value case kind (at ∷ [])))) alone
        ∙ other_kind case kind (at ∷ []))

values_fit : (case : Case) (input n : ℕ) (columns : List Column)
    → ((k : ℕ) (column : Column) → slice_get columns k ≡ Some column → is_kind column.kind (column_value case (record { input = input; column = n + k }) column.kind) ≡ true)
    → row_fits (domains_of columns) (values_from case input n columns) ≡ true
values_fit case input n [] f = refl
values_fit case input n (c ∷ columns) f =
    and_from (is_kind c.kind (column_value case (record { input = input; column = n }) c.kind)) (row_fits (domains_of columns) (values_from case input (n + 1) columns))
    (ap (λ (m : ℕ). is_kind c.kind (column_value case (record { input = input; column = m }) c.kind)) here ∙ f 0 c refl)
    (values_fit case input (n + 1) columns (λ k column e.
    let same : n + 1 + k ≡ n + suc k = omega arith in
    ap (λ (m : ℕ). is_kind column.kind (column_value case (record { input = input; column = m }) column.kind)) same ∙ f (suc k) column e))
  where
    here : n ≡ n + 0
    here = omega arith

rows_fit : (case : Case) (n : ℕ) (schemas : List (List Column))
    → ((k : ℕ) (schema : List Column) → slice_get schemas k ≡ Some schema → row_fits (domains_of schema) (row_of case (n + k) schema) ≡ true)
    → FitRows schemas (rows_from case n schemas)
rows_fit case n [] f = tt
rows_fit case n (s ∷ schemas) f = (
  ap (λ (m : ℕ). row_fits (domains_of s) (row_of case m s)) here ∙ f 0 s refl,
  rows_fit case (n + 1) schemas (λ k schema e.
      let same : n + 1 + k ≡ n + suc k = omega arith in
      ap (λ (m : ℕ). row_fits (domains_of schema) (row_of case m schema)) same ∙ f (suc k) schema e),
)
  where
    here : n ≡ n + 0
    here = omega arith

they_fit : (case : Case) (schemas : List (List Column)) (own : List Column)
    → ((class : List ClassCol) → In class case.classes → IsSoundClass schemas class) → slice_get schemas case.input ≡ Some own
    → row_fits (domains_of own) case.row ≡ true → FitRows schemas (rows_from case 0 schemas)
they_fit case schemas own sound e fit = rows_fit case 0 schemas each
  where
    each : (k : ℕ) (schema : List Column) → slice_get schemas k ≡ Some schema → row_fits (domains_of schema) (row_of case (0 + k) schema) ≡ true
    each k schema f = go (cases_eq (0 + k) case.input)
      where
        go : (0 + k ≡ case.input) ⊎ (0 + k ≢ case.input) → row_fits (domains_of schema) (row_of case (0 + k) schema) ≡ true
        go (inl same) =
            let at : k ≡ case.input = omega (arith, same) in
            let there : slice_get schemas k ≡ Some own = ap (slice_get schemas) at ∙ e in
            let owned : schema ≡ own = cc in
            ap (row_fits (domains_of schema)) (own_there case (0 + k) schema same) ∙ (ap (λ (s : List Column). row_fits (domains_of s) case.row) owned ∙ fit)
        go (inr differ) =
            ap (row_fits (domains_of schema)) (other_there case (0 + k) schema differ)
            ∙ values_fit case (0 + k) 0 schema (λ n column g.
            let here : k ≡ 0 + k = omega arith in
            let col : n ≡ 0 + n = omega arith in
            let at : slice_get schemas (0 + k) ≡ Some schema = ap (slice_get schemas) (sym here) ∙ f in
            let within : slice_get schema (0 + n) ≡ Some column = ap (slice_get schema) (sym col) ∙ g in
            kind_there case schemas own (record { input = 0 + k; column = 0 + n }) column.kind sound e fit differ (schema, column, at, within, refl))

-- ---- no row outside matches a listed instance

unbound_at : (inside : ℕ → Bool) (classes : List (List ClassCol)) (input n : ℕ) (marks : List Bool) → are_bound inside classes input n marks ≡ false
    → (k : ℕ) × (slice_get marks k ≡ Some true) × (is_bound inside classes input (n + k) ≡ false)
unbound_at inside classes input n [] e = absurd (false≢true (sym e))
unbound_at inside classes input n (true ∷ marks) e = go (is_bound inside classes input n) refl (unbound_at inside classes input (n + 1) marks) e
  where
    here : n ≡ n + 0
    here = omega arith

    go : (b : Bool) → is_bound inside classes input n ≡ b
        → (are_bound inside classes input (n + 1) marks ≡ false → (k : ℕ) × (slice_get marks k ≡ Some true) × (is_bound inside classes input (n + 1 + k) ≡ false))
        → (b && are_bound inside classes input (n + 1) marks) ≡ false
        → (k : ℕ) × (slice_get (true ∷ marks) k ≡ Some true) × (is_bound inside classes input (n + k) ≡ false)
    go true t ih f =
        let r = ih f in
        let same : n + suc r.0 ≡ n + 1 + r.0 = omega arith in
        (suc r.0, r.1, ap (is_bound inside classes input) same ∙ r.2)
    go false t ih f = (0, refl, ap (is_bound inside classes input) (sym here) ∙ t)
unbound_at inside classes input n (false ∷ marks) e =
    let r = unbound_at inside classes input (n + 1) marks e in
    let same : n + suc r.0 ≡ n + 1 + r.0 = omega arith in
    (suc r.0, r.1, ap (is_bound inside classes input) same ∙ r.2)

untouched : (inside : ℕ → Bool) (classes : List (List ClassCol)) (input column : ℕ) → is_bound inside classes input column ≡ false → inside input ≡ false
    → touches inside (class_with classes (record { input = input; column = column })) ≡ false
untouched inside [] input column e out = ap (λ (b : Bool). b || false) out
untouched inside (class ∷ classes) input column e out =
    go (has_column class (record { input = input; column = column })) (untouched inside classes input column) e
  where
    at : ClassCol
    at = record { input = input; column = column }

    go : (b : Bool) → (is_bound inside classes input column ≡ false → inside input ≡ false → touches inside (class_with classes (record { input = input; column = column })) ≡ false)
        → ((b && touches inside class) || is_bound inside classes input column) ≡ false
        → touches inside (cond b class (class_with classes (record { input = input; column = column }))) ≡ false
    go true ih f = (or_false (touches inside class) (is_bound inside classes input column) f).0
    go false ih f = ih f out

fresh_there : (case : Case) (input column : ℕ) (kind : Kind) → is_bound (has case.reached) case.classes input column ≡ false
    → has case.reached input ≡ false → has case.reached case.input ≡ true
    → column_value case (record { input = input; column = column }) kind ≡ fresh case kind
fresh_there case input column kind free out inside =
    let not_touched = untouched (has case.reached) case.classes input column free out in
    ap (λ (o : Option ℕ). value_or case.row o (other_value case kind (class_with case.classes (record { input = input; column = column }))))
    (column_none (has case.reached) (class_with case.classes (record { input = input; column = column })) case.input not_touched inside)
    ∙ ap (λ (b : Bool). cond b (blank kind) (fresh case kind)) not_touched

in_marked : (marks : List Bool) (row : List Value) (k : ℕ) → slice_get marks k ≡ Some true → k < length row → In (value_at row k) (marked marks row)
in_marked [] row k e lt = cc
in_marked (m ∷ marks) [] k e lt = absurd (omega (arith, lt))
in_marked (true ∷ marks) (v ∷ row) zero e lt = inl refl
in_marked (false ∷ marks) (v ∷ row) zero e lt = cc
in_marked (true ∷ marks) (v ∷ row) (suc k) e lt = inr (in_marked marks row k e (omega (arith, lt)))
in_marked (false ∷ marks) (v ∷ row) (suc k) e lt = in_marked marks row k e (omega (arith, lt))

pub scheme_length : (schemas : List (List Column)) (lists : List (List (List Bool))) (j : ℕ) (schema : List Column) (s : ℕ) → FitSchemes schemas lists
    → slice_get schemas j ≡ Some schema → s < length (schemes_of lists j) → length (get_or (schemes_of lists j) s []) ≡ length schema
scheme_length [] lists j schema s fit e lt = cc
scheme_length (c ∷ schemas) [] j schema s fit e lt = absurd fit
scheme_length (c ∷ schemas) (list ∷ lists) zero schema s fit e lt =
    let same : c ≡ schema = cc in
    fit.0 (get_or list s []) (in-place list [] s lt) ∙ ap length same
scheme_length (c ∷ schemas) (list ∷ lists) (suc j) schema s fit e lt = scheme_length schemas lists j schema s fit.1 e lt

fresh_is_new : (spec : JoinSpec) (input : ℕ) (reached : List ℕ) (row : List Value) (listed : List Instance) (kind : Kind)
    → In (fresh (case_of spec input reached row listed) kind) (constants_of listed) → ⊥
fresh_is_new spec input reached row listed KInt h = number_is_free (constants_of listed) h
fresh_is_new spec input reached row listed KText h = text_is_free (constants_of listed) h

other_is : (case : Case) (schemas : List (List Column)) (input : ℕ) (schema : List Column) → slice_get schemas input ≡ Some schema → input ≢ case.input
    → row_at (rows_from case 0 schemas) input ≡ values_from case input 0 schema
other_is case schemas input schema e differ =
    let at : 0 + input ≡ input = omega arith in
    row_there case 0 schemas input schema e ∙ (ap (λ (m : ℕ). row_of case m schema) at ∙ other_there case input schema differ)

-- a listed instance of an input that is not reached has the fresh value among its constants, if a row of it matches
fresh_among : (case : Case) (schemas : List (List Column)) (input k : ℕ) (schema : List Column) (column : Column) (marks : List Bool) (constants : List Value)
    → slice_get schemas input ≡ Some schema → slice_get schema k ≡ Some column → slice_get marks k ≡ Some true
    → is_bound (has case.reached) case.classes input k ≡ false → has case.reached input ≡ false → has case.reached case.input ≡ true
    → marked marks (row_at (rows_from case 0 schemas) input) ≡ constants → In (fresh case column.kind) constants
fresh_among case schemas input k schema column marks constants e f m free out inside match =
    subst (λ (vs : List Value). In (fresh case column.kind) vs) match
    (subst (λ (v : Value). In v (marked marks (row_at (rows_from case 0 schemas) input))) value
    (in_marked marks (row_at (rows_from case 0 schemas) input) k m within))
  where
    differ : input ≢ case.input
    differ q = false≢true (sym out ∙ (ap (has case.reached) q ∙ inside))

    value : value_at (row_at (rows_from case 0 schemas) input) k ≡ fresh case column.kind
    value = value_is case schemas input k schema column e f differ ∙ fresh_there case input k column.kind free out inside

    within : k < length (row_at (rows_from case 0 schemas) input)
    within = omega (arith, ap length (other_is case schemas input schema e differ), values_length case input 0 schema, slice_get_within schema k column f)

-- the marked column of a scheme that lies in no class with a column of a reached input
escape_column : (spec : JoinSpec) (schemes : List (List (List Bool))) (inside : ℕ → Bool) (input scheme : ℕ) (schema : List Column) → IsClosed spec schemes inside
    → FitSchemes spec.inputs schemes → inside input ≡ false → scheme < length (schemes_of schemes input) → slice_get spec.inputs input ≡ Some schema
    → (k : ℕ) × (column : Column) × (slice_get schema k ≡ Some column) × (slice_get (get_or (schemes_of schemes input) scheme []) k ≡ Some true)
    × (is_bound inside spec.classes input k ≡ false)
escape_column spec schemes inside input scheme schema closed fit out lt e =
    let r = unbound_at inside spec.classes input 0 (get_or (schemes_of schemes input) scheme []) (closed input scheme out lt) in
    let within : r.0 < length schema =
    omega (arith, slice_get_within (get_or (schemes_of schemes input) scheme []) r.0 true r.1, scheme_length spec.inputs schemes input schema scheme fit e lt) in
    let at : 0 + r.0 ≡ r.0 = omega arith in
    let none : Column = record { name = []; kind = KInt } in
    (r.0, get_or schema r.0 none, slice_get-get_or schema r.0 none within, r.1, sym (ap (is_bound inside spec.classes input) at) ∙ r.2)

-- the constants of an instance that a row matches are the row's values in the marked columns
constants_are : (marks : List Bool) (row constants : List Value) → length constants ≡ length (marked marks marks) → MatchesInstance row (instance_of marks constants) → marked marks row ≡ constants
constants_are [] row [] filled match = refl
constants_are [] row (c ∷ constants) filled match = absurd (omega (arith, filled))
constants_are (false ∷ marks) [] constants filled match = absurd match
constants_are (false ∷ marks) (v ∷ row) constants filled match = constants_are marks row constants filled match
constants_are (true ∷ marks) [] [] filled match = absurd match
constants_are (true ∷ marks) [] (c ∷ constants) filled match = absurd match
constants_are (true ∷ marks) (v ∷ row) [] filled match = absurd (omega (arith, filled))
constants_are (true ∷ marks) (v ∷ row) (c ∷ constants) filled match = ap₂ (λ (w : Value) ws. w ∷ ws) match.0 (constants_are marks row constants (omega (arith, filled)) match.1)

they_are_apart : (spec : JoinSpec) (schemes : List (List (List Bool))) (input : ℕ) (reached : List ℕ) (row : List Value) (listed : List Instance)
    → IsCut spec schemes input reached row → AreInstances spec schemes listed
    → MatchNone schemes reached listed (rows_from (case_of spec input reached row listed) 0 spec.inputs)
they_are_apart spec schemes input reached row listed cut all instance h out match =
    let e = slice_get-get_or spec.inputs instance.input [] (all instance h).of_input in
    let c = escape_column spec schemes (has reached) instance.input instance.scheme (schema_of spec instance.input) cut.closed cut.fitting out (all instance h).of_scheme e in
    let values = constants_are (scheme_of schemes instance) (row_at (rows_from (case_of spec input reached row listed) 0 spec.inputs) instance.input) instance.constants (all instance h).filled match in
    let fresh_in = fresh_among (case_of spec input reached row listed) spec.inputs instance.input c.0 (schema_of spec instance.input) c.1 (scheme_of schemes instance)
    instance.constants e c.2 c.3 c.4 out cut.inside values in
    fresh_is_new spec input reached row listed c.1.kind
    (In-flat_map_from (λ (i : Instance). i.constants) (fresh (case_of spec input reached row listed) c.1.kind) instance listed h fresh_in)

-- ---- all of it

pub they_escape : EscapesAll
they_escape spec schemes input reached row listed cut all =
    let own = slice_get-get_or spec.inputs input [] cut.is_input in
    record {
      count = rows_length (case_of spec input reached row listed) 0 spec.inputs;
      fits = they_fit (case_of spec input reached row listed) spec.inputs (schema_of spec input) cut.sound.sound_classes own cut.row_fits_it;
      own = own_is (case_of spec input reached row listed) spec.inputs input (schema_of spec input) own refl;
      joins = they_join (case_of spec input reached row listed) spec.inputs cut.sound.apart cut.sound.sound_classes;
      apart = they_are_apart spec schemes input reached row listed cut all;
      values = refl;
    }

-- the rows of the definition escape
pub escapes_if : (spec : JoinSpec) (schemes : List (List (List Bool))) (input : ℕ) (reached : List ℕ) (row : List Value) (listed : List Instance) (rows : List (List Value))
    → IsSoundSpec spec → FitSchemes spec.inputs schemes → IsClosed spec schemes (has reached) → has reached input ≡ true → input < length spec.inputs
    → row_fits (domains_of (schema_of spec input)) row ≡ true → AreInstances spec schemes listed → rows ≡ escape_rows spec input reached row listed
    → Escapes spec schemes input reached row listed rows
escapes_if spec schemes input reached row listed rows sound fit closed inside is_input fits all e =
    let cut : IsCut spec schemes input reached row =
    record {
      sound = sound;
      fitting = fit;
      closed = closed;
      inside = inside;
      is_input = is_input;
      row_fits_it = fits;
    }
    in
    subst (λ (rs : List (List Value)). Escapes spec schemes input reached row listed rs) (sym e) (they_escape spec schemes input reached row listed cut all)
