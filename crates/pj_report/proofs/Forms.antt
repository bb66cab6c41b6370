-- Results in the order of their lines.
use Rattle.std.proofs.Common.{◌≡◌, ◌≤◌, ◌+◌, ℕ, Bool, true, false, cond, List, [], ◌∷◌, ◌++◌, map, refl, ap, ap₂, sym, ◌∙◌, append-nil, arith}
use Rattle.std.proofs.lemmas.List.{map-append}
use Rattle.std.specs.Prelude.{ℤ, pos}
use Rattle.pj_value.specs.Bags.{weigh, SameBag}
use Rattle.pj_value.specs.declared.values.Value.{Value}
use Rattle.pj_pattern.specs.Patterns.{Pattern}
use Rattle.pj_pattern.specs.declared.element.Element.{Element}
use Rattle.pj_pattern.specs.declared.element.Element.TheVariants.{Tuple, Punct}
use Rattle.pj_pattern.proofs.Elements.{rows_of-append, puncts_of-append}
use Rattle.pj_element.specs.Runs.{element_line, element_lines, fed, puncts_of, rows_of, IsLawful, NoneMatches}
use Rattle.pj_events.specs.declared.events.Out.{Out}
use Rattle.pj_events.specs.Outcomes.{elements_out}
use Rattle.pj_plan.specs.declared.node.PlanNode.{PlanNode}
use Rattle.pj_report.specs.declared.kept.KeptLines.{KeptLines}
use Rattle.pj_report.specs.declared.writer.Form.{Form}
use Rattle.pj_report.specs.declared.writer.Form.TheVariants.{AsTheyCome, Sorted, Summed}
use Rattle.pj_report.specs.declared.results.Counts.{Counts}
use Rattle.pj_report.specs.declared.writer.ResultWriter.{ResultWriter}
use Rattle.pj_report.specs.Forms.{form_lines, in_form, kept_of, put_by, shown, sort_by, taken_so_far, withheld}
use Rattle.pj_report.specs.Results.{counts_of, out_lines}
use Rattle.pj_report.specs.Sums.{total_of}
use Rattle.pj_report.specs.Laws.{FormedAreLawful, FormedPuncts, FormedRows, SortedAreElements}
use Rattle.pj_report.specs.Sorted.{fed_punct, fed_row, is_below, punct_lines, put_line, row_lines, sorted_lines}
use Rattle.pj_report.proofs.Counting.{out_lines-append, punct_lines-append, row_lines-append}

-- ---- what is written as it comes, and what at the end

pub shown-append : (form : Form) (nodes : List PlanNode) (xs ys : List Out) → shown form nodes (xs ++ ys) ≡ shown form nodes xs ++ shown form nodes ys
shown-append AsTheyCome nodes xs ys = out_lines-append nodes xs ys
shown-append Sorted nodes xs ys = refl
shown-append Summed nodes xs ys = refl

pub shown-nil : (form : Form) (nodes : List PlanNode) → shown form nodes [] ≡ []
shown-nil AsTheyCome nodes = refl
shown-nil Sorted nodes = refl
shown-nil Summed nodes = refl

-- all lines are those that are written as they come, and behind them those that are written at the end
pub all_shown : (form : Form) (nodes : List PlanNode) (outs : List Out) → shown form nodes outs ++ withheld form (elements_out outs) ≡ form_lines form nodes outs
all_shown AsTheyCome nodes outs = append-nil (out_lines nodes outs)
all_shown Sorted nodes outs = refl
all_shown Summed nodes outs = refl

-- what is kept is written in order
pub kept_sorted : (form : Form) (es : List Element) (kept : KeptLines) → kept ≡ kept_of form es → sorted_lines kept.rows ++ sorted_lines kept.puncts ≡ withheld form es
kept_sorted AsTheyCome es kept is = ap (λ (k : KeptLines). sorted_lines k.rows ++ sorted_lines k.puncts) is
kept_sorted Sorted es kept is = ap (λ (k : KeptLines). sorted_lines k.rows ++ sorted_lines k.puncts) is
kept_sorted Summed es kept is = ap (λ (k : KeptLines). sorted_lines k.rows ++ sorted_lines k.puncts) is

-- what is kept behind more
pub kept_taken : (old : ResultWriter) (counts : Counts) (kept : KeptLines) (before more : List Element) (form : Form) → old.form ≡ Sorted → kept.rows ≡ old.kept.rows ++ row_lines more → kept.puncts ≡ old.kept.puncts ++ punct_lines more
    → (old.counts ≡ counts_of before → counts ≡ counts_of (before ++ more)) → old ≡ taken_so_far form before
    → ◌≡◌ {A = ResultWriter} (record { form = old.form; counts = counts; kept = kept; total = old.total }) (taken_so_far form (before ++ more))
kept_taken old counts kept before more AsTheyCome sorted rows puncts counted is = absurd (let e : AsTheyCome ≡ Sorted = sym (ap (λ (w : ResultWriter). w.form) is) ∙ sorted in cc)
kept_taken old counts kept before more Sorted sorted rows puncts counted is =
    let all_rows = rows ∙ (ap (λ (w : ResultWriter). w.kept.rows ++ row_lines more) is ∙ sym (row_lines-append before more)) in
    let all_puncts = puncts ∙ (ap (λ (w : ResultWriter). w.kept.puncts ++ punct_lines more) is ∙ sym (punct_lines-append before more)) in
    let all_kept : ◌≡◌ {A = KeptLines} kept (kept_of Sorted (before ++ more)) = ap₂ (λ (rs ps : List (List ℕ)). let k : KeptLines = record { rows = rs; puncts = ps } in k) all_rows all_puncts in
    ap₂ (λ (f : Form) (t : ℤ). let w : ResultWriter = record { form = f; counts = counts; kept = kept; total = t } in w) sorted (ap (λ (w : ResultWriter). w.total) is)
    ∙ ap₂ (λ (c : Counts) (k : KeptLines). let w : ResultWriter = record { form = Sorted; counts = c; kept = k; total = pos 0 } in w) (counted (ap (λ (w : ResultWriter). w.counts) is)) all_kept
kept_taken old counts kept before more Summed sorted rows puncts counted is = absurd (let e : Summed ≡ Sorted = sym (ap (λ (w : ResultWriter). w.form) is) ∙ sorted in cc)

-- what is summed behind more
pub sum_taken : (old : ResultWriter) (counts : Counts) (total : ℤ) (before more : List Element) (form : Form) → old.form ≡ Summed
    → (old.counts ≡ counts_of before → counts ≡ counts_of (before ++ more)) → (old.total ≡ total_of before → total ≡ total_of (before ++ more)) → old ≡ taken_so_far form before
    → ◌≡◌ {A = ResultWriter} (record { form = old.form; counts = counts; kept = old.kept; total = total }) (taken_so_far form (before ++ more))
sum_taken old counts total before more AsTheyCome summed counted totalled is = absurd (let e : AsTheyCome ≡ Summed = sym (ap (λ (w : ResultWriter). w.form) is) ∙ summed in cc)
sum_taken old counts total before more Sorted summed counted totalled is = absurd (let e : Sorted ≡ Summed = sym (ap (λ (w : ResultWriter). w.form) is) ∙ summed in cc)
sum_taken old counts total before more Summed summed counted totalled is =
    ap₂ (λ (f : Form) (k : KeptLines). let w : ResultWriter = record { form = f; counts = counts; kept = k; total = total } in w) summed (ap (λ (w : ResultWriter). w.kept) is)
    ∙ ap₂ (λ (c : Counts) (t : ℤ). let w : ResultWriter = record { form = Summed; counts = c; kept = kept_of Summed (before ++ more); total = t } in w) (counted (ap (λ (w : ResultWriter). w.counts) is)) (totalled (ap (λ (w : ResultWriter). w.total) is))

-- ---- in order of lines

put_lines : {A : Type 0} (line : A → List ℕ) (x : A) (xs : List A) → map line (put_by line x xs) ≡ put_line (line x) (map line xs)
put_lines line x [] = refl
put_lines {A} line x (y ∷ ys) = go (is_below (line y) (line x)) (put_lines line x ys)
  where
    go : (b : Bool) → map line (put_by line x ys) ≡ put_line (line x) (map line ys)
        → map line (cond b (y ∷ put_by line x ys) (x ∷ y ∷ ys)) ≡ cond b (line y ∷ put_line (line x) (map line ys)) (line x ∷ line y ∷ map line ys)
    go true ih = ap (λ (ls : List (List ℕ)). line y ∷ ls) ih
    go false ih = refl

sort_lines : {A : Type 0} (line : A → List ℕ) (xs : List A) → map line (sort_by line xs) ≡ sorted_lines (map line xs)
sort_lines line [] = refl
sort_lines line (x ∷ xs) = put_lines line x (sort_by line xs) ∙ ap (put_line (line x)) (sort_lines line xs)

weigh-put : {A : Type 0} (line : A → List ℕ) (f : A → ℕ) (x : A) (xs : List A) → weigh f (put_by line x xs) ≡ f x + weigh f xs
weigh-put line f x [] = refl
weigh-put {A} line f x (y ∷ ys) = go (is_below (line y) (line x)) (weigh-put line f x ys)
  where
    go : (b : Bool) → weigh f (put_by line x ys) ≡ f x + weigh f ys → weigh f (cond b (y ∷ put_by line x ys) (x ∷ y ∷ ys)) ≡ f x + (f y + weigh f ys)
    go true ih = omega (arith, ih)
    go false ih = refl

sort_same : {A : Type 0} (line : A → List ℕ) (xs : List A) → SameBag (sort_by line xs) xs
sort_same line [] f = refl
sort_same line (x ∷ xs) f = omega (arith, weigh-put line f x (sort_by line xs), sort_same line xs f)

-- ---- rows, and then punctuations

module _ (rs : List (List Value)) (ps : List (List Pattern)) where
  rows_alone : (rows : List (List Value)) → rows_of (map Tuple rows) ≡ rows
  rows_alone [] = refl
  rows_alone (row ∷ rows) = ap (λ (others : List (List Value)). row ∷ others) (rows_alone rows)

  no_rows : (puncts : List (List Pattern)) → rows_of (map Punct puncts) ≡ []
  no_rows [] = refl
  no_rows (punct ∷ puncts) = no_rows puncts

  puncts_alone : (puncts : List (List Pattern)) → puncts_of (map Punct puncts) ≡ puncts
  puncts_alone [] = refl
  puncts_alone (punct ∷ puncts) = ap (λ (others : List (List Pattern)). punct ∷ others) (puncts_alone puncts)

  no_puncts : (rows : List (List Value)) → puncts_of (map Tuple rows) ≡ []
  no_puncts [] = refl
  no_puncts (row ∷ rows) = no_puncts rows

  rows_first : rows_of (map Tuple rs ++ map Punct ps) ≡ rs
  rows_first = rows_of-append (map Tuple rs) (map Punct ps) ∙ (ap₂ (λ (xs ys : List (List Value)). xs ++ ys) (rows_alone rs) (no_rows ps) ∙ append-nil rs)

  puncts_then : puncts_of (map Tuple rs ++ map Punct ps) ≡ ps
  puncts_then = puncts_of-append (map Tuple rs) (map Punct ps) ∙ ap₂ (λ (xs ys : List (List Pattern)). xs ++ ys) (no_puncts rs) (puncts_alone ps)

  lines_of_rows : (rows : List (List Value)) → element_lines (map Tuple rows) ≡ map fed_row rows
  lines_of_rows [] = refl
  lines_of_rows (row ∷ rows) = ap (λ (ls : List (List ℕ)). fed_row row ∷ ls) (lines_of_rows rows)

  lines_of_puncts : (puncts : List (List Pattern)) → element_lines (map Punct puncts) ≡ map fed_punct puncts
  lines_of_puncts [] = refl
  lines_of_puncts (punct ∷ puncts) = ap (λ (ls : List (List ℕ)). fed_punct punct ∷ ls) (lines_of_puncts puncts)

  lines_then : element_lines (map Tuple rs ++ map Punct ps) ≡ map fed_row rs ++ map fed_punct ps
  lines_then =
      map-append (λ (e : Element). fed (element_line e)) (map Tuple rs) (map Punct ps)
      ∙ ap₂ (λ (xs ys : List (List ℕ)). xs ++ ys) (lines_of_rows rs) (lines_of_puncts ps)

  none_matches : (punct : List Pattern) (puncts : List (List Pattern)) → NoneMatches punct (map Punct puncts)
  none_matches punct [] = tt
  none_matches punct (p ∷ puncts) = none_matches punct puncts

  puncts_lawful : (puncts : List (List Pattern)) → IsLawful (map Punct puncts)
  puncts_lawful [] = tt
  puncts_lawful (punct ∷ puncts) = (none_matches punct puncts, puncts_lawful puncts)

  rows_lawful : (rows : List (List Value)) → IsLawful (map Tuple rows ++ map Punct ps)
  rows_lawful [] = puncts_lawful ps
  rows_lawful (row ∷ rows) = rows_lawful rows

-- ---- a form

pub formed_rows : FormedRows
formed_rows AsTheyCome es writes f = refl
formed_rows Sorted es writes f = ap (weigh f) (rows_first (sort_by fed_row (rows_of es)) (sort_by fed_punct (puncts_of es))) ∙ sort_same fed_row (rows_of es) f
formed_rows Summed es writes f = absurd writes

pub formed_puncts : FormedPuncts
formed_puncts AsTheyCome es writes f = refl
formed_puncts Sorted es writes f = ap (weigh f) (puncts_then (sort_by fed_row (rows_of es)) (sort_by fed_punct (puncts_of es))) ∙ sort_same fed_punct (puncts_of es) f
formed_puncts Summed es writes f = absurd writes

-- no form writes a row more often than it was handed out
pub formed_at_most : (form : Form) (es : List Element) (f : List Value → ℕ) → weigh f (rows_of (in_form form es)) ≤ weigh f (rows_of es)
formed_at_most AsTheyCome es f = omega arith
formed_at_most Sorted es f = let same = formed_rows Sorted es tt f in omega (arith, same)
formed_at_most Summed es f = omega arith

pub formed_lawful : FormedAreLawful
formed_lawful AsTheyCome es lawful = lawful
formed_lawful Sorted es lawful = let ps = sort_by fed_punct (puncts_of es) in rows_lawful [] ps (sort_by fed_row (rows_of es))
formed_lawful Summed es lawful = tt

pub sorted_elements : SortedAreElements
sorted_elements es =
    lines_then (sort_by fed_row (rows_of es)) (sort_by fed_punct (puncts_of es))
    ∙ ap₂ (λ (xs ys : List (List ℕ)). xs ++ ys) (sort_lines fed_row (rows_of es)) (sort_lines fed_punct (puncts_of es))
