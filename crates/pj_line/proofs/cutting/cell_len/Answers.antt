use Rattle.std.proofs.Common.{◌+◌, ◌<◌, length, arith, ◌∙◌, sym}
use Rattle.pj_line.specs.declared.quote.Quote.TheVariants.{Outside, Inside}
use Rattle.pj_line.proofs.Cuts.{leads_on, leads_to_none, opens_quote, plain_part, stops_at_blank, stops_at_end}
use Rattle.pj_line.proofs.cutting.cell_len.Goals as goal
use Rattle.pj_line.proofs.cutting.cell_len.Goals.{then-stop-line-via-then-stop-line, then-stop-line-via-else-stop-line+then-is_blank}

pub returns-then-stop-line-clause-cut : goal.returns-then-stop-line-clause-cut
returns-then-stop-line-clause-cut c =
    let line = c.args.line.now in
    let plain = plain_part line _ c.loop-at.at c.plain_len.result c.loop-at.invariant.leads c.split_at.ensures.back c.plain_len.ensures in
    let within = c.plain_len.ensures.within in (
      omega (arith, within, c.loop-at.invariant.within, c.split_at.ensures.back_len),
      elim c.then-stop-line.branch [
        | then-stop-line-via-then-stop-line w ↦ stops_at_end line (c.loop-at.at + c.plain_len.result) w.if-stop-line.true plain
        | then-stop-line-via-else-stop-line+then-is_blank w ↦ stops_at_blank line (c.loop-at.at + c.plain_len.result) (omega (arith, within, c.loop-at.invariant.within, c.split_at.ensures.back_len, w.if-stop-line.false)) plain (sym w.is_blank.ensures ∙ w.if-is_blank.true)
      ],
    )

pub returns-in-None-clause-cut : goal.returns-in-None-clause-cut
returns-in-None-clause-cut c =
    let within : c.loop-at.at + c.plain_len.result < length c.args.line.now = omega (arith, c.plain_len.ensures.within, c.loop-at.invariant.within, c.split_at.ensures.back_len, c.if-stop-line.false) in
    let opens = opens_quote c.args.line.now _ c.loop-at.at c.plain_len.result c.loop-at.invariant.leads c.split_at.ensures.back c.plain_len.ensures (omega (arith, c.split_at.ensures.back_len)) within (sym c.if-is_blank.ensures) in
    leads_to_none Outside Inside c.args.line.now _ (c.loop-at.at + c.plain_len.result + 1) opens c.split_at-in-loop-at.ensures.back c.in-None.ensures

pub loop-at-preserved : goal.loop-at-preserved
loop-at-preserved c =
    let within : c.loop-at.at + c.plain_len.result < length c.args.line.now = omega (arith, c.plain_len.ensures.within, c.loop-at.invariant.within, c.split_at.ensures.back_len, c.if-stop-line.false) in
    let opens = opens_quote c.args.line.now _ c.loop-at.at c.plain_len.result c.loop-at.invariant.leads c.split_at.ensures.back c.plain_len.ensures (omega (arith, c.split_at.ensures.back_len)) within (sym c.if-is_blank.ensures) in record {
      within = omega (arith, within, c.split_at-in-loop-at.ensures.back_len, c.in-Some.ensures.0);
      leads = leads_on Outside Inside Outside c.args.line.now _ (c.loop-at.at + c.plain_len.result + 1) c.in-Some.len opens c.split_at-in-loop-at.ensures.back c.in-Some.ensures.2;
    }
