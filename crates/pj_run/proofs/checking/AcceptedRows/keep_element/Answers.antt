use Rattle.std.proofs.Common.{◌∙◌, List, ap}
use Rattle.std.specs.Prelude.{set}
use Rattle.std.proofs.lemmas.List.{set-get_or}
use Rattle.pj_value.specs.declared.values.Value.{Value}
use Rattle.pj_run.proofs.Refused.{on_err}
use Rattle.pj_run.proofs.checking.AcceptedRows.keep_element.Goals as goal

pub returns-in_err-push-in-Tuple-clause-refused : goal.returns-in_err-push-in-Tuple-clause-refused
returns-in_err-push-in-Tuple-clause-refused c =
    let lists = c.args.self.now.lists.items in
    on_err c.from_residual-in_err-push-in-Tuple.result _
    (ap (λ (rows : List (List Value)). set lists c.args.stream rows) (c.in_err-push-in-Tuple.ensures.err ∙ c.index_mut.ensures.value) ∙ set-get_or lists c.args.stream c.index_mut.result.now)
