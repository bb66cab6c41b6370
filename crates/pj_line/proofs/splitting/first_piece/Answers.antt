use Rattle.std.proofs.Common.{◌∷◌, List, ℕ, ◌+◌, take, drop, ap, sym, ◌∙◌}
use Rattle.pj_line.specs.Lines.{pieces, onto}
use Rattle.pj_line.proofs.Fronts.{folded_turn, folded_stop, folded_end}
use Rattle.pj_line.proofs.Splits.{pieces_at_feed, folded_onto_first, folded_onto_none, tail_is}
use Rattle.pj_line.proofs.splitting.first_piece.Goals as goal
use Rattle.pj_line.proofs.PieceLaws.{pieces_at_other}

pub returns-then-byte-eq10-clause-piece : goal.returns-then-byte-eq10-clause-piece
returns-then-byte-eq10-clause-piece c =
    let bytes = c.args.bytes.now in
    folded_stop onto _ _ pieces bytes c.loop-at.at c.loop-at-test.true c.loop-at.invariant (pieces_at_feed _ (drop (c.loop-at.at + 1) bytes) c.if-byte-eq10.true)
    ∙ (folded_onto_first _ _ ∙ ap (λ (rest : List ℕ). take c.loop-at.at bytes ∷ pieces rest) (sym (tail_is bytes (c.loop-at.at + 1))))

pub loop-at-preserved : goal.loop-at-preserved
loop-at-preserved c =
    folded_turn onto _ pieces pieces c.args.bytes.now c.loop-at.at c.loop-at-test.true c.loop-at.invariant (λ rest. pieces_at_other _ rest c.if-byte-eq10.false)

pub returns-clause-piece : goal.returns-clause-piece
returns-clause-piece c =
    folded_end onto _ pieces c.args.bytes.now c.loop-at.at c.loop-at-test.false c.loop-at.invariant ∙ folded_onto_none _ c.requires
