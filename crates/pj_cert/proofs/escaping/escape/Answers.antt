use Rattle.std.proofs.Common.{rules}
use Rattle.pj_cert.proofs.EscapingRows.{escapes_if}
use Rattle.pj_cert.proofs.escaping.escape.Goals as goal

pub returns : goal.returns
returns c =
    escapes_if c.args.spec.now c.args.schemes.now c.args.input c.args.reached.now c.args.row.now c.args.listed.now c.in_ok-rows.rows
    c.requires.sound c.requires.fitting c.requires.closed c.requires.inside c.requires.input c.requires.row c.requires.listed (search rules)
