-- The canonical statements, one behind the other.
use Rattle.std.proofs.Common.{◌≡◌, ℕ, zero, suc, ◌+◌, ◌-◌, ◌<◌, ◌≤◌, ◌⊎◌, inl, inr, min, Bool, true, false, cond, List, [], ◌∷◌, ◌++◌, Some, None, length, drop, get_or, refl, ap, sym, ◌∙◌, append_assoc, append-nil, arith}
use Rattle.std.specs.List.{slice_get}
use Rattle.std.proofs.Math.Seq.{drop-nil}
use Rattle.std.proofs.lemmas.List.{drop_more}
use Rattle.std.proofs.lemmas.Option.{get_or_from_slice_get, slice_get_within, slice_get-get_or, none-some}
use Rattle.pj_shape.specs.declared.columns.Column.{Column}
use Rattle.pj_pattern.specs.declared.pattern.Form.{Form}
use Rattle.pj_pattern.specs.Patterns.{is_wild}
use Rattle.pj_plan.specs.declared.node.PlanNode.{PlanNode}
use Rattle.pj_plan.specs.declared.statement.TestWord.{TestWord}
use Rattle.pj_plan.specs.declared.statement.Test.TheVariants.{One}
use Rattle.pj_plan.specs.Canonical.{aggs_of, last_name, or_first, renamed_of, tests_from}
use Rattle.pj_plan.proofs.Views.{drop_at}

-- ---- two lists that are walked side by side

one_ends : {A : Type 0} {B : Type 0} (xs : List A) (ys : List B) (at : ℕ) → min (length xs) (length ys) ≤ at → (drop at xs ≡ []) ⊎ (drop at ys ≡ [])
one_ends [] ys at end = inl (drop-nil at)
one_ends (x ∷ xs) [] at end = inr (drop-nil at)
one_ends (x ∷ xs) (y ∷ ys) zero end = absurd (omega arith)
one_ends (x ∷ xs) (y ∷ ys) (suc at) end = one_ends xs ys at (omega arith)

-- what is done is all, where nothing is left of one list
pub walked : {A : Type 0} {B : Type 0} {C : Type 0} (f : List A → List B → List C) → ((ys : List B) → f [] ys ≡ []) → ((xs : List A) → f xs [] ≡ []) → (xs : List A) (ys : List B) (at : ℕ) (done : List C)
    → done ++ f (drop at xs) (drop at ys) ≡ f xs ys → min (length xs) (length ys) ≤ at → done ≡ f xs ys
walked f left right xs ys at done before end = sym (append-nil done) ∙ (ap (λ (rest : List _). done ++ rest) (sym (none (one_ends xs ys at end))) ∙ before)
  where
    none : (drop at xs ≡ []) ⊎ (drop at ys ≡ []) → f (drop at xs) (drop at ys) ≡ []
    none (inl e) = ap (λ (l : List _). f l (drop at ys)) e ∙ left (drop at ys)
    none (inr e) = ap (λ (l : List _). f (drop at xs) l) e ∙ right (drop at xs)

pub no_aggs : (columns news : List Column) → aggs_of news columns [] ≡ []
no_aggs columns [] = refl
no_aggs columns (n ∷ ns) = refl

pub no_renamed : (columns news : List Column) → renamed_of news columns [] ≡ []
no_renamed columns [] = refl
no_renamed columns (n ∷ ns) = refl

pub no_tests : (columns : List Column) → tests_from columns [] ≡ []
no_tests [] = refl
no_tests (c ∷ cs) = refl

-- ---- lists

pub marks_more : (marks : List Bool) (at : ℕ) (mark : Bool) (made : List Bool) → made ++ drop at marks ≡ marks → slice_get marks at ≡ Some mark → (made ++ mark ∷ []) ++ drop (at + 1) marks ≡ marks
marks_more marks at mark made before there =
    append_assoc made (mark ∷ []) (drop (at + 1) marks) ∙ (ap (λ (more : List Bool). made ++ more) (sym (drop_at marks at mark there)) ∙ before)

-- ---- the tests of a select

pub first_alone : (tests first : List TestWord) → length tests ≡ 0 → first ≡ or_first tests first
first_alone [] first none = refl
first_alone (t ∷ ts) first none = absurd (omega (arith, none))

pub tests_alone : (tests first : List TestWord) → (length tests ≡ 0 → ⊥) → tests ≡ or_first tests first
tests_alone [] first some = absurd (some refl)
tests_alone (t ∷ ts) first some = refl

one_first : (column : Column) (pattern : Form) (columns : List Column) (patterns : List Form) → tests_from (column ∷ columns) (pattern ∷ patterns) ≡ tests_from (column ∷ []) (pattern ∷ []) ++ tests_from columns patterns
one_first column pattern columns patterns = go (is_wild pattern)
  where
    go : (b : Bool) → cond b (tests_from columns patterns) (record { column = column.name; test = One pattern } ∷ tests_from columns patterns)
        ≡ cond b [] (record { column = column.name; test = One pattern } ∷ []) ++ tests_from columns patterns
    go true = refl
    go false = refl

pub tests_turn : (columns : List Column) (patterns : List Form) (at : ℕ) (column : Column) (pattern : Form) (tests next : List TestWord)
    → tests ++ tests_from (drop at columns) (drop at patterns) ≡ tests_from columns patterns → at < length columns → at < length patterns → column ≡ get_or columns at column → pattern ≡ get_or patterns at pattern
    → next ≡ tests ++ tests_from (column ∷ []) (pattern ∷ []) → next ++ tests_from (drop (at + 1) columns) (drop (at + 1) patterns) ≡ tests_from columns patterns
tests_turn columns patterns at column pattern tests next before in_columns in_patterns is_column is_pattern put =
    let one = tests_from (column ∷ []) (pattern ∷ []) in
    let more = tests_from (drop (at + 1) columns) (drop (at + 1) patterns) in
    let first : drop at columns ≡ column ∷ drop (at + 1) columns =
    drop_more columns at column in_columns ∙ ap (λ (c : Column). c ∷ drop (at + 1) columns) (sym is_column) in
    let second : drop at patterns ≡ pattern ∷ drop (at + 1) patterns =
    drop_more patterns at pattern in_patterns ∙ ap (λ (p : Form). p ∷ drop (at + 1) patterns) (sym is_pattern) in
    ap (λ (ts : List TestWord). ts ++ more) put
    ∙ (append_assoc tests one more
    ∙ (ap (λ (ts : List TestWord). tests ++ ts) (sym (one_first column pattern (drop (at + 1) columns) (drop (at + 1) patterns)) ∙ (ap (λ (cs : List Column). tests_from cs (pattern ∷ drop (at + 1) patterns)) (sym first)
    ∙ ap (λ (ps : List Form). tests_from (drop at columns) ps) (sym second)))
    ∙ before))

-- ---- the output

last_at : (nodes : List PlanNode) (at : ℕ) (node : PlanNode) → at + 1 ≡ length nodes → slice_get nodes at ≡ Some node → node.name ≡ last_name nodes
last_at [] at node is there = absurd (omega (arith, is))
last_at (n ∷ []) at node is there =
    let first : at ≡ 0 = omega (arith, is) in
    sym (ap (λ (m : PlanNode). m.name) (get_or_from_slice_get (n ∷ []) 0 node n (ap (slice_get (n ∷ [])) (sym first) ∙ there)))
last_at (n ∷ other ∷ nodes) zero node is there = absurd (omega (arith, is))
last_at (n ∷ other ∷ nodes) (suc at) node is there = last_at (other ∷ nodes) at node (omega (arith, is)) there

pub last_is : (nodes : List PlanNode) (node : PlanNode) → slice_get nodes (length nodes - 1) ≡ Some node → node.name ≡ last_name nodes
last_is nodes node there = let some = slice_get_within nodes (length nodes - 1) node there in last_at nodes (length nodes - 1) node (omega (arith, some)) there

pub last_none : (nodes : List PlanNode) → slice_get nodes (length nodes - 1) ≡ None → [] ≡ last_name nodes
last_none [] none = refl
last_none (n ∷ ns) none = absurd (none-some _ (sym none ∙ slice_get-get_or (n ∷ ns) (length (n ∷ ns) - 1) n (omega arith)))
