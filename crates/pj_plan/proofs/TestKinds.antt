-- The tests of a column are of its kind.
use Rattle.std.proofs.Common.{ℕ, ◌≡◌, true, false, List, ap, ◌∙◌}
use Rattle.std.specs.Str.{bytes_eq}
use Rattle.std.proofs.lemmas.Bool.{not-false, true≢false}
use Rattle.std.proofs.lemmas.Slice.Eq.{bytes_eq-Decides}
use Rattle.pj_value.specs.declared.values.Kind.{Kind}
use Rattle.pj_shape.specs.declared.columns.Column.{Column}
use Rattle.pj_pattern.specs.Patterns.{Pattern, is_of_kind}
use Rattle.pj_pattern.specs.Meets.{meet_of}
use Rattle.pj_plan.specs.declared.statement.TestWord.{TestWord}
use Rattle.pj_plan.specs.declared.statement.Test.{Test}
use Rattle.pj_plan.specs.declared.statement.Test.TheVariants.{One, Mixed}
use Rattle.pj_plan.specs.Made.{column_kind, test_pattern}
use Rattle.pj_plan.specs.Faults.{misses_kind, misses_its_kind}
use Rattle.pj_plan.proofs.MeetKinds.{meet_kind}

-- the test of a column is of the kind of the column of that name
pub tests_fit : (columns : List Column) (name : List ℕ) (word : TestWord) → bytes_eq name word.column ≡ true → misses_its_kind columns word ≡ false
    → misses_kind (column_kind columns name) word.test ≡ false
tests_fit columns name word is fits =
    ap (λ (n : List ℕ). misses_kind (column_kind columns n) word.test) ((bytes_eq-Decides name word.column).0 is) ∙ fits

test-kind : (kind : Kind) (test : Test) → misses_kind kind test ≡ false → is_of_kind kind (test_pattern test) ≡ true
test-kind kind (One pattern) fits = not-false (is_of_kind kind pattern) fits
test-kind kind Mixed fits = absurd (true≢false fits)

-- what the pattern and the test both match is of their kind
pub met_fits : (kind : Kind) (pattern : Pattern) (test : Test) → is_of_kind kind pattern ≡ true → misses_kind kind test ≡ false
    → is_of_kind kind (meet_of pattern (test_pattern test)) ≡ true
met_fits kind pattern test is fits = meet_kind kind pattern (test_pattern test) is (test-kind kind test fits)
