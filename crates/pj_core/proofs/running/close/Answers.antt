use Rattle.std.proofs.Common.{ℕ, [], ◌∷◌, get_or, subst, sym, ◌∙◌}
use Rattle.pj_pattern.specs.declared.element.Element.{Element}
use Rattle.pj_pattern.specs.declared.element.Element.TheVariants.{Punct}
use Rattle.pj_plan.specs.Nodes.{streams_of}
use Rattle.pj_operator.specs.Emitting.{Emits, IsEmitStop, MayEmit}
use Rattle.pj_core.proofs.Streams.{closing-is}
use Rattle.pj_core.proofs.running.close.Goals as goal

pub emit-requires-clause-may : goal.emit-requires-clause-may
emit-requires-clause-may c =
    subst (λ (n : ℕ). MayEmit c.args.operators.now n (Punct c.in-Ok.punct ∷ [])) (sym c.number_of-from.ensures.is)
    (subst (λ (e : Element). MayEmit c.args.operators.now (get_or (streams_of c.args.plan.now.nodes) c.args.stream 0) (e ∷ []))
    (sym (closing-is c.args.plan.now.nodes c.args.stream c.number_of-from.result c.in-Ok.punct c.columns.result.now c.requires.there c.number_of-from.ensures.is c.in-Ok.ensures.punct (c.columns.ensures ∙ c.schema.ensures)))
    c.requires.may)

pub returns-in-Ok-emit-clause-ok : goal.returns-in-Ok-emit-clause-ok
returns-in-Ok-emit-clause-ok c =
    subst (λ (e : Element). Emits (record { operators = c.args.operators.now; outs = c.args.outs.now }) (record { operators = c.emit.new.operators; outs = c.emit.new.outs }) (get_or (streams_of c.args.plan.now.nodes) c.args.stream 0) (e ∷ []))
    (closing-is c.args.plan.now.nodes c.args.stream c.number_of-from.result c.in-Ok.punct c.columns.result.now c.requires.there c.number_of-from.ensures.is c.in-Ok.ensures.punct (c.columns.ensures ∙ c.schema.ensures))
    (subst (λ (n : ℕ). Emits (record { operators = c.args.operators.now; outs = c.args.outs.now }) (record { operators = c.emit.new.operators; outs = c.emit.new.outs }) n (Punct c.in-Ok.punct ∷ [])) c.number_of-from.ensures.is c.in-Ok-emit.ensures.ok)

pub returns-in-Err-emit-clause-err : goal.returns-in-Err-emit-clause-err
returns-in-Err-emit-clause-err c =
    subst (λ (e : Element). IsEmitStop c.args.operators.now (get_or (streams_of c.args.plan.now.nodes) c.args.stream 0) (e ∷ []) c.in-Err-emit.stop)
    (closing-is c.args.plan.now.nodes c.args.stream c.number_of-from.result c.in-Ok.punct c.columns.result.now c.requires.there c.number_of-from.ensures.is c.in-Ok.ensures.punct (c.columns.ensures ∙ c.schema.ensures))
    (subst (λ (n : ℕ). IsEmitStop c.args.operators.now n (Punct c.in-Ok.punct ∷ []) c.in-Err-emit.stop) c.number_of-from.ensures.is c.in-Err-emit.ensures.err)
