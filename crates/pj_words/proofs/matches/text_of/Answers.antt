use Rattle.std.proofs.Common.{◌∙◌, ap, sym, List, [], ℕ, Option, option_map}
use Rattle.std.proofs.lemmas.Result.{IfOk-weaker}
use Rattle.std.specs.Borrow.{Bor}
use Rattle.std.specs.Option.{unwrap_or}
use Rattle.clap.specs.Words.{found_of}
use Rattle.clap.proofs.WalkLemmas.{first_value-rows}
use Rattle.pj_words.proofs.matches.text_of.Goals as goal

pub returns-in-Some : goal.returns-in-Some
returns-in-Some c =
    let found = sym (first_value-rows (found_of c.args.matches.now) c.args.id.now) ∙ sym c.get_str.ensures
    ∙ ap (option_map (λ (s : Bor (List ℕ)). s.now)) c.in-Some.is in
    IfOk-weaker c.copy_of.result _ _ (λ b h. h ∙ c.as_bytes.ensures.value ∙ sym (ap (λ (o : Option (List ℕ)). unwrap_or o []) found)) c.copy_of.ensures

pub returns-in-None : goal.returns-in-None
returns-in-None c =
    let found = sym (first_value-rows (found_of c.args.matches.now) c.args.id.now) ∙ sym c.get_str.ensures
    ∙ ap (option_map (λ (s : Bor (List ℕ)). s.now)) c.in-None.is in
    c.new.ensures ∙ sym (ap (λ (o : Option (List ℕ)). unwrap_or o []) found)
