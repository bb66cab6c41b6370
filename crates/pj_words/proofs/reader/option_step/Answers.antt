use Rattle.std.proofs.Common.{◌∙◌, ap, sym, subst, List, ℕ, Option, option_map}
use Rattle.std.specs.Borrow.{Bor}
use Rattle.pj_words.specs.Form.{Text}
use Rattle.pj_words.specs.Reader.{option_step}
use Rattle.pj_words.specs.Request.{form_of}
use Rattle.pj_words.specs.Steps.{LeadsTo, seen_by}
use Rattle.pj_words.proofs.reader.option_step.Goals as goal

pub returns-in-Some : goal.returns-in-Some
returns-in-Some c =
    let same = ap (option_map (λ (p : Bor (List ℕ) × Option (Bor (List ℕ))). (p.0.now, option_map (λ (s : Bor (List ℕ)). s.now) p.1))) (sym c.in-Some.is) ∙ c.option_in.ensures in
    subst (λ (p : Option (Text × Option Text)). LeadsTo c.args.command (option_step (form_of c.args.command) (seen_by c.args.command c.args.seen) p) c.text_step.result)
    same c.text_step.ensures
