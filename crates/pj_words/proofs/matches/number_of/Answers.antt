use Rattle.std.proofs.Common.{◌≡◌, ◌∙◌, ap, sym, arith, List, ℕ, option_map}
use Rattle.std.specs.Borrow.{Bor}
use Rattle.clap.specs.Words.{found_of}
use Rattle.clap.proofs.WalkLemmas.{first_value-rows}
use Rattle.std.specs.Str.Parse.{digits_value}
use Rattle.pj_words.specs.Found.{number_or}
use Rattle.pj_words.proofs.Numbers.{number_parts}
use Rattle.pj_words.proofs.matches.number_of.Goals as goal

pub returns-in-Some-clause-value : goal.returns-in-Some-clause-value
returns-in-Some-clause-value c =
    let found = sym (first_value-rows (found_of c.args.matches.now) c.args.id.now) ∙ sym c.get_str.ensures
    ∙ ap (option_map (λ (s : Bor (List ℕ)). s.now)) c.in-Some.is in
    let parts = number_parts 0 c.args.most c.in-Some.text.now (c.requires.fits c.in-Some.text.now found) in
    let value = c.digits_of.ensures parts.0 (omega (arith, parts.1, c.ranges.most.fits)) in
    let least : c.min.result ≡ digits_value 10 c.in-Some.text.now = omega (arith, parts.1, value, c.min.ensures) in
    least ∙ sym (ap (number_or c.args.other) found)

pub returns-in-None-clause-value : goal.returns-in-None-clause-value
returns-in-None-clause-value c =
    let found = sym (first_value-rows (found_of c.args.matches.now) c.args.id.now) ∙ sym c.get_str.ensures
    ∙ ap (option_map (λ (s : Bor (List ℕ)). s.now)) c.in-None.is in
    sym (ap (number_or c.args.other) found)
