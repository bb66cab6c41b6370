use Rattle.std.proofs.Common.{List, ◌≡◌, ◌∙◌, subst, sym, true}
use Rattle.pj_shape.specs.declared.columns.Column.{Column}
use Rattle.pj_shape.specs.Columns.{domains_of}
use Rattle.pj_pattern.specs.Fitting.{punct_fits, row_fits}
use Rattle.pj_element.specs.declared.element.Read.TheVariants.{Tuple, Punct}
use Rattle.pj_element.proofs.Fitting.{line_fits}
use Rattle.pj_test_cores.proofs.cases.element_of.Goals as goal

pub returns-in-Tuple-clause-fits : goal.returns-in-Tuple-clause-fits
returns-in-Tuple-clause-fits c =
    subst (λ (columns : List Column). row_fits (domains_of columns) c.in-Tuple.row ≡ true) c.schema_at.ensures
    (line_fits c.schema_at.result.now c.as_bytes.result.now (Tuple c.in-Tuple.row) (sym c.in-Tuple.is ∙ c.in_ok-row.ensures))

pub returns-in-Punct-clause-fits : goal.returns-in-Punct-clause-fits
returns-in-Punct-clause-fits c =
    subst (λ (columns : List Column). punct_fits (domains_of columns) c.in-Punct.punct ≡ true) c.schema_at.ensures
    (line_fits c.schema_at.result.now c.as_bytes.result.now (Punct c.in-Punct.punct) (sym c.in-Punct.is ∙ c.in_ok-row.ensures))
