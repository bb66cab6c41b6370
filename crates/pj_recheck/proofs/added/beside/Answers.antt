use Rattle.std.proofs.Common.{sym, subst, ◌∙◌, List, Option}
use Rattle.std.specs.Option.{IfSome}
use Rattle.pj_events.specs.Patterns.{Pattern}
use Rattle.pj_recheck.specs.Added.{IsBeside, IsBeyond}
use Rattle.pj_puncts.specs.Indexed.{IsFilled}
use Rattle.pj_recheck.proofs.Adding.{beside_where}
use Rattle.pj_recheck.proofs.added.beside.Goals as goal

pub returns-in_ok-rest-in-Some-2 : goal.returns-in_ok-rest-in-Some-2
returns-in_ok-rest-in-Some-2 c =
    subst (λ (rest : List Pattern). IsBeside c.args.punct.now c.args.last.now rest) (sym c.in_ok-rest-in-Some-2.ensures)
    (beside_where c.args.punct.now c.args.last.now c.in-Some.column c.at.result.now c.at-in-Some.result.now c.in-Some-2.part (sym c.len.ensures ∙ (c.if-len.false ∙ c.len-2.ensures))
    (subst (λ (ps : List Pattern). IsFilled ps c.in-Some.column) c.as_slice.ensures c.in-Some.ensures) c.at.ensures c.at-in-Some.ensures
    (subst (λ (told : Option Pattern). IfSome told (IsBeyond c.at.result.now c.at-in-Some.result.now)) c.in-Some-2.is c.in_ok-beyond-in-Some.ensures))
