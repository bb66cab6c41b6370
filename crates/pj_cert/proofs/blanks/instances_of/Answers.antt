use Rattle.std.proofs.Common.{Bool, List, ◌++◌, ◌∙◌, ap, arith, length, get_or, subst, ◌<◌}
use Rattle.pj_shape.specs.declared.columns.Column.{Column}
use Rattle.pj_shape.specs.Columns.{domains_of}
use Rattle.pj_graph.proofs.Steps.{lists_length}
use Rattle.pj_cert.specs.Instances.{blank_input, blank_instances_of}
use Rattle.pj_cert.proofs.BlankOnes.{blank_on}
use Rattle.pj_cert.proofs.blanks.instances_of.Goals as goal

pub at-requires : goal.at-requires
at-requires c =
    omega (arith, c.loop-input-test.true, ap length c.as_slice-schema-items.ensures, lists_length c.args.spec.now.inputs c.args.schemes.now c.requires.fitting)

pub loop-input-preserved : goal.loop-input-preserved
loop-input-preserved c =
    blank_on c.args.reached.now c.loop-input.listed c.append_input.new.listed (blank_instances_of c.args.spec.now c.args.schemes.now c.args.reached.now)
    c.args.spec.now.inputs c.args.schemes.now c.loop-input.input c.schema-item.result c.at.result.now c.loop-input.invariant
    (subst (λ (schemas : List (List Column)). c.loop-input.input < length schemas) c.as_slice-schema-items.ensures c.loop-input-test.true)
    (c.schema-item.is ∙ ap (λ (schemas : List (List Column)). get_or schemas c.loop-input.input c.schema-item.result) c.as_slice-schema-items.ensures)
    c.at.ensures
    (c.in_ok-append_input.ensures
    ∙ ap (λ (list : List (List Bool)). c.loop-input.listed ++ blank_input c.args.reached.now c.loop-input.input (domains_of c.schema-item.result) list) c.as_slice-list.ensures)
