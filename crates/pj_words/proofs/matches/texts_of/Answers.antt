use Rattle.std.proofs.Common.{◌∙◌, ap, sym, List, [], ℕ, Option, option_map, map}
use Rattle.std.proofs.lemmas.Result.{IfOk-weaker}
use Rattle.std.specs.Borrow.{Bor}
use Rattle.std.specs.Option.{unwrap_or}
use Rattle.clap.specs.Words.{found_of}
use Rattle.clap.proofs.WalkLemmas.{raw_values-rows}
use Rattle.pj_words.proofs.matches.texts_of.Goals as goal

pub returns-in-Some : goal.returns-in-Some
returns-in-Some c =
    let found = sym (raw_values-rows (found_of c.args.matches.now) c.args.id.now) ∙ sym c.get_strs.ensures
    ∙ ap (option_map (λ (s : Bor (List (Bor (List ℕ)))). map (λ (v : Bor (List ℕ)). v.now) s.now)) c.in-Some.is in
    IfOk-weaker c.copies.result _ _ (λ b h. h ∙ sym (ap (λ (o : Option (List (List ℕ))). unwrap_or o []) found)) c.copies.ensures

pub returns-in-None : goal.returns-in-None
returns-in-None c =
    let found = sym (raw_values-rows (found_of c.args.matches.now) c.args.id.now) ∙ sym c.get_strs.ensures
    ∙ ap (option_map (λ (s : Bor (List (Bor (List ℕ)))). map (λ (v : Bor (List ℕ)). v.now) s.now)) c.in-None.is in
    c.new.ensures ∙ sym (ap (λ (o : Option (List (List ℕ))). unwrap_or o []) found)
