use Rattle.std.proofs.Common.{◌≡◌, sym, arith, false}
use Rattle.pj_words.specs.Form.{Text, is_number}
use Rattle.pj_words.proofs.Numbers.{no_plus, number_parts, numeral_is}
use Rattle.pj_words.proofs.Sound.{by_test}
use Rattle.pj_words.proofs.lexer.is_number.Goals as goal

pub returns-in-Err : goal.returns-in-Err
returns-in-Err c =
    let text : Text = c.args.text.now in
    by_test (false ≡ is_number c.args.least c.args.most text) (is_number c.args.least c.args.most text)
    (λ yes.
    let p = number_parts c.args.least c.args.most text yes in
    absurd (c.in-Err.ensures.value.0 (rw (no_plus text p.0) (numeral_is text p.0, omega (arith, p.1, c.ranges.most.fits)))))
    (λ no. sym no)
