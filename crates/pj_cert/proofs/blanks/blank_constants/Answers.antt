use Rattle.std.proofs.Common.{Bool, cond, List, ◌∷◌, [], ◌++◌, ◌∙◌, ap, sym, arith, append-nil}
use Rattle.pj_value.specs.declared.values.Value.{Value}
use Rattle.pj_shape.specs.Columns.{domains_of}
use Rattle.pj_cert.specs.Instances.{blank, blanks, marked}
use Rattle.pj_cert.proofs.BlankOnes.{marked_on, none_marked, unmarked_on}
use Rattle.pj_cert.proofs.blanks.blank_constants.Goals as goal
use Rattle.pj_cert.proofs.blanks.blank_constants.Goals.{then-at+in_ok-blank+in_ok-push, else-at}

pub loop-n-preserved : goal.loop-n-preserved
loop-n-preserved c =
    let whole = blanks (marked c.args.scheme.now (domains_of c.args.schema.now)) in
    elim c.if-at.branch [
      | then-at+in_ok-blank+in_ok-push w ↦
          marked_on c.loop-n.constants c.if-at.constants whole c.args.scheme.now c.args.schema.now c.loop-n.n c.at.result.now w.at-then-at.result.now
          c.loop-n.invariant c.at.ensures w.at-then-at.ensures
          (w.constants-is
          ∙ (w.in_ok-push.ensures.ok
          ∙ (ap (λ (v : Value). c.loop-n.constants ++ v ∷ []) w.in_ok-blank.ensures
          ∙ sym (ap (λ (b : Bool). c.loop-n.constants ++ cond b (blank w.at-then-at.result.now.kind ∷ []) []) w.if-at.true))))
      | else-at w ↦
          unmarked_on c.loop-n.constants c.if-at.constants whole c.args.scheme.now c.args.schema.now c.loop-n.n c.at.result.now
          c.loop-n.invariant c.at.ensures (omega arith) w.if-at.false w.constants-is
    ]

pub returns : goal.returns
returns c =
    sym (append-nil c.loop-n.constants)
    ∙ (sym (ap (λ (vs : List Value). c.loop-n.constants ++ vs) (none_marked c.args.scheme.now c.args.schema.now c.loop-n.n (omega arith)))
    ∙ c.loop-n.invariant)
