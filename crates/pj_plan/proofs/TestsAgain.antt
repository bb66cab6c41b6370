-- The canonical tests of a select make its patterns again.
use Rattle.std.proofs.Common.{ℕ, ◌≡◌, ◌⊎◌, Bool, true, false, cond, List, [], ◌∷◌, map, refl, sym, ap, ◌∙◌, subst, inl, inr}
use Rattle.std.specs.Str.{bytes_eq}
use Rattle.std.proofs.lemmas.Bool.{and_parts, false≢true, not_from_true}
use Rattle.pj_value.specs.Lists.{In}
use Rattle.pj_value.specs.declared.values.Kind.{Kind}
use Rattle.pj_value.proofs.Members.{In-map_from, map-same}
use Rattle.pj_value.proofs.Bytes.{other_bytes}
use Rattle.pj_shape.specs.declared.columns.Column.{Column}
use Rattle.pj_shape.specs.Columns.{domains_of}
use Rattle.pj_pattern.specs.declared.pattern.Form.{Form}
use Rattle.pj_pattern.specs.declared.pattern.Form.TheVariants.{Wild, Empty, Constant, Range, Members}
use Rattle.pj_pattern.specs.Patterns.{is_wild, is_of_kind}
use Rattle.pj_pattern.specs.Meets.{meet_of}
use Rattle.pj_pattern.specs.Fitting.{punct_fits}
use Rattle.pj_plan.specs.declared.statement.TestWord.{TestWord}
use Rattle.pj_plan.specs.declared.statement.Test.TheVariants.{One}
use Rattle.pj_plan.specs.Made.{column_kind, test_pattern, met_with, column_test}
use Rattle.pj_plan.specs.Canonical.{tests_from, first_test, or_first, tests_of}
use Rattle.pj_plan.specs.Faults.{has_column, misses_kind, misses_its_kind}
use Rattle.pj_plan.specs.Sound.{AreDistinct, name_of}
use Rattle.pj_plan.proofs.Lists.{same_bytes}
use Rattle.pj_plan.proofs.ByName.{there_column, kind_of_column}

wild_is : (p : Form) → is_wild p ≡ true → p ≡ Wild
wild_is Wild t = refl
wild_is Empty t = absurd (false≢true t)
wild_is (Constant c) t = absurd (false≢true t)
wild_is (Range low high) t = absurd (false≢true t)
wild_is (Members ms) t = absurd (false≢true t)

-- ---- what each test is

-- the test is of one of these columns, and its pattern is of the column's kind
pub record IsTestOf (columns : List Column) (word : TestWord) : Type 0 where
  pub column : Column
  pub there : In column columns
  pub pattern : Form
  pub is : word ≡ record { column = column.name; test = One pattern }
  pub fits : is_of_kind column.kind pattern ≡ true

test_behind : (c : Column) (cs : List Column) (word : TestWord) → IsTestOf cs word → IsTestOf (c ∷ cs) word
test_behind c cs word t = record { column = t.column; there = inr t.there; pattern = t.pattern; is = t.is; fits = t.fits }

in_from : (columns : List Column) (patterns : List Form) (word : TestWord) → punct_fits (domains_of columns) patterns ≡ true → In word (tests_from columns patterns) → IsTestOf columns word
in_from [] patterns word fit h = absurd h
in_from (c ∷ cs) [] word fit h = absurd h
in_from (c ∷ cs) (p ∷ ps) word fit h = go (is_wild p) h (in_from cs ps word both.1)
  where
    both : (is_of_kind c.kind p ≡ true) × (punct_fits (domains_of cs) ps ≡ true)
    both = and_parts (is_of_kind c.kind p) (punct_fits (domains_of cs) ps) fit

    go : (b : Bool) → In word (cond b (tests_from cs ps) (record { column = c.name; test = One p } ∷ tests_from cs ps)) → (In word (tests_from cs ps) → IsTestOf cs word) → IsTestOf (c ∷ cs) word
    go true k ih = test_behind c cs word (ih k)
    go false (inl e) ih = record { column = c; there = inl refl; pattern = p; is = sym e; fits = both.0 }
    go false (inr k) ih = test_behind c cs word (ih k)

in_first : (columns : List Column) (patterns : List Form) (word : TestWord) → punct_fits (domains_of columns) patterns ≡ true → In word (first_test columns patterns) → IsTestOf columns word
in_first [] patterns word fit h = absurd h
in_first (c ∷ cs) [] word fit h = absurd h
in_first (c ∷ cs) (p ∷ ps) word fit (inl e) = record { column = c; there = inl refl; pattern = p; is = sym e; fits = (and_parts (is_of_kind c.kind p) (punct_fits (domains_of cs) ps) fit).0 }
in_first (c ∷ cs) (p ∷ ps) word fit (inr h) = absurd h

in_or : (word : TestWord) (xs ys : List TestWord) → In word (or_first xs ys) → In word xs ⊎ In word ys
in_or word [] ys h = inr h
in_or word (x ∷ xs) ys h = inl h

pub in_tests : (columns : List Column) (patterns : List Form) (word : TestWord) → punct_fits (domains_of columns) patterns ≡ true → In word (tests_of columns patterns) → IsTestOf columns word
in_tests columns patterns word fit h =
    elim (in_or word (tests_from columns patterns) (first_test columns patterns) h) [ inl k ↦ in_from columns patterns word fit k | inr k ↦ in_first columns patterns word fit k ]

pub test_known : (columns : List Column) (word : TestWord) → IsTestOf columns word → has_column columns word.column ≡ true
test_known columns word t = subst (λ (w : TestWord). has_column columns w.column ≡ true) (sym t.is) (there_column columns t.column t.there)

pub test_kind : (columns : List Column) (word : TestWord) → AreDistinct (map name_of columns) → IsTestOf columns word → misses_its_kind columns word ≡ false
test_kind columns word d t =
    let kind : column_kind columns t.column.name ≡ t.column.kind = kind_of_column columns t.column d t.there in
    subst (λ (w : TestWord). misses_its_kind columns w ≡ false) (sym t.is)
    (subst (λ (k : Kind). misses_kind k (One t.pattern) ≡ false) (sym kind) (not_from_true (is_of_kind t.column.kind t.pattern) t.fits))

-- ---- the patterns again

pub met_past : (words : List TestWord) (pattern : Form) (name : List ℕ) → ((w : TestWord) → In w words → name ≡ w.column → ⊥) → met_with pattern name words ≡ pattern
met_past [] pattern name out = refl
met_past (w ∷ ws) pattern name out =
    ap (λ (b : Bool). cond b (met_with (meet_of pattern (test_pattern w.test)) name ws) (met_with pattern name ws)) (other_bytes name w.column (out w (inl refl)))
    ∙ met_past ws pattern name (λ v h. out v (inr h))

from_again : (columns : List Column) (patterns : List Form) → AreDistinct (map name_of columns) → punct_fits (domains_of columns) patterns ≡ true → map (column_test (tests_from columns patterns)) columns ≡ patterns
from_again [] [] d fit = refl
from_again [] (p ∷ ps) d fit = absurd (false≢true fit)
from_again (c ∷ cs) [] d fit = absurd (false≢true fit)
from_again (c ∷ cs) (p ∷ ps) d fit = go (is_wild p) refl (from_again cs ps d.1 both.1)
  where
    both : (is_of_kind c.kind p ≡ true) × (punct_fits (domains_of cs) ps ≡ true)
    both = and_parts (is_of_kind c.kind p) (punct_fits (domains_of cs) ps) fit

    out : (w : TestWord) → In w (tests_from cs ps) → c.name ≡ w.column → ⊥
    out w h e =
        let t = in_from cs ps w both.1 h in
        d.0 (subst (λ (n : List ℕ). In n (map name_of cs)) (sym (e ∙ ap (λ (x : TestWord). x.column) t.is)) (In-map_from name_of t.column cs t.there))

    past : (x : Column) → In x cs → column_test (record { column = c.name; test = One p } ∷ tests_from cs ps) x ≡ column_test (tests_from cs ps) x
    past x h = ap (λ (b : Bool). cond b (met_with (meet_of Wild p) x.name (tests_from cs ps)) (met_with Wild x.name (tests_from cs ps)))
        (other_bytes x.name c.name (λ e. d.0 (subst (λ (n : List ℕ). In n (map name_of cs)) e (In-map_from name_of x cs h))))

    here : column_test (record { column = c.name; test = One p } ∷ tests_from cs ps) c ≡ p
    here =
        ap (λ (b : Bool). cond b (met_with (meet_of Wild p) c.name (tests_from cs ps)) (met_with Wild c.name (tests_from cs ps))) (same_bytes c.name c.name refl)
        ∙ met_past (tests_from cs ps) p c.name out

    go : (b : Bool) → is_wild p ≡ b → map (column_test (tests_from cs ps)) cs ≡ ps
        → map (column_test (cond b (tests_from cs ps) (record { column = c.name; test = One p } ∷ tests_from cs ps))) (c ∷ cs) ≡ p ∷ ps
    go true e ih =
        ap (λ (x : Form). x ∷ map (column_test (tests_from cs ps)) cs) (met_past (tests_from cs ps) Wild c.name out ∙ sym (wild_is p e))
        ∙ ap (λ (xs : List Form). p ∷ xs) ih
    go false e ih =
        ap (λ (x : Form). x ∷ map (column_test (record { column = c.name; test = One p } ∷ tests_from cs ps)) cs) here
        ∙ ap (λ (xs : List Form). p ∷ xs) (map-same (column_test (record { column = c.name; test = One p } ∷ tests_from cs ps)) (column_test (tests_from cs ps)) cs past ∙ ih)

-- one test that asks nothing changes nothing
first_again : (columns : List Column) (patterns : List Form) → map (column_test []) columns ≡ patterns → map (column_test (first_test columns patterns)) columns ≡ patterns
first_again [] patterns e = e
first_again (c ∷ cs) [] e = cc
first_again (c ∷ cs) (p ∷ ps) e = map-same (column_test (record { column = c.name; test = One p } ∷ [])) (column_test []) (c ∷ cs) (λ x h. nothing x (bytes_eq x.name c.name)) ∙ e
  where
    wild : p ≡ Wild
    wild = cc

    nothing : (x : Column) (b : Bool) → cond b (met_with (meet_of Wild p) x.name []) (met_with Wild x.name []) ≡ Wild
    nothing x true = wild
    nothing x false = refl

pub tests_again : (columns : List Column) (patterns : List Form) → AreDistinct (map name_of columns) → punct_fits (domains_of columns) patterns ≡ true → map (column_test (tests_of columns patterns)) columns ≡ patterns
tests_again columns patterns d fit = go (tests_from columns patterns) (from_again columns patterns d fit)
  where
    go : (xs : List TestWord) → map (column_test xs) columns ≡ patterns → map (column_test (or_first xs (first_test columns patterns))) columns ≡ patterns
    go [] e = first_again columns patterns e
    go (x ∷ xs) e = e
