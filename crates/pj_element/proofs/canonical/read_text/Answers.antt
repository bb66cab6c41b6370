use Rattle.std.proofs.Common.{List, ℕ, ◌+◌, ◌∙◌, ap, sym, subst, arith, rules}
use Rattle.std.specs.List.{slice_range}
use Rattle.pj_value.specs.Texts.{value_spelling}
use Rattle.pj_value.specs.declared.values.Value.TheVariants.{Text}
use Rattle.pj_element.specs.Canonical.{StandsAt}
use Rattle.pj_element.proofs.CanonicalCells.{quoted_run}
use Rattle.pj_element.proofs.canonical.read_text.Goals as goal

pub returns-then-bytes-end-eq34-clause-cell : goal.returns-then-bytes-end-eq34-clause-cell
returns-then-bytes-end-eq34-clause-cell c =
    let from = c.args.from in
    let n = c.plain_len.result in
    subst (λ (text : List ℕ). StandsAt c.args.bytes.now from (from + 1 + n + 1) (value_spelling (Text text)))
    (ap (λ (bytes : List ℕ). slice_range bytes (from + 1) (from + 1 + n)) c.requires.same ∙ sym (c.in_ok-part.ensures))
    (quoted_run c.args.bytes.now c.split_at.result.1.now from n (omega arith) (search rules) c.split_at.ensures.back c.plain_len.ensures.run (omega arith) (search rules))
