use Rattle.std.proofs.Common.{◌∙◌, sym}
use Rattle.pj_element.proofs.Parts.{early_quote, no_mark, plain_text, quote_is}
use Rattle.pj_element.proofs.spelled.read_text.Goals as goal

pub returns-then-stop-parts : goal.returns-then-stop-parts
returns-then-stop-parts c =
    let mark = c.in-Some.ensures in
    plain_text c.args.parts.now _ c.in-Some.stop mark.0.high mark.0.before (quote_is _ mark.1 c.if-parts-stop-eq92.false) c.if-stop-parts.true (c.in_ok-copy_of-in-Some.ensures ∙ c.split_at.ensures.front)

pub returns-in-None : goal.returns-in-None
returns-in-None c = sym (no_mark c.args.parts.now c.in-None.ensures)

pub returns-else-stop-parts : goal.returns-else-stop-parts
returns-else-stop-parts c =
    let mark = c.in-Some.ensures in
    early_quote c.args.parts.now c.in-Some.stop mark.0.high mark.0.before (quote_is _ mark.1 c.if-parts-stop-eq92.false) c.if-stop-parts.false
