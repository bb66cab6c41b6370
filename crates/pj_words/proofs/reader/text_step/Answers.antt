use Rattle.std.proofs.Common.{◌≡◌, sym, subst, List, ℕ, Some, option_map}
use Rattle.std.specs.Borrow.{Bor}
use Rattle.pj_words.specs.Form.{Text}
use Rattle.pj_words.specs.Reader.{option_step}
use Rattle.pj_words.specs.Request.{form_of}
use Rattle.pj_words.specs.Steps.{IsName, LeadsTo, name_text, seen_by}
use Rattle.pj_words.proofs.Steps.{unknown_leads}
use Rattle.pj_words.proofs.reader.text_step.Goals as goal

pub returns-in-Some : goal.returns-in-Some
returns-in-Some c =
    let same : c.args.text.now ≡ name_text c.in-Some.name = subst (IsName c.args.text.now) c.in-Some.is c.name_in.ensures in
    subst (λ (t : Text). LeadsTo c.args.command (option_step (form_of c.args.command) (seen_by c.args.command c.args.seen)
    (Some (t, option_map (λ (s : Bor (List ℕ)). s.now) c.args.value))) c.named_step.result) (sym same) c.named_step.ensures

pub returns-in-None : goal.returns-in-None
returns-in-None c = unknown_leads c.args.command c.args.seen c.args.text.now (option_map (λ (s : Bor (List ℕ)). s.now) c.args.value)
    (subst (IsName c.args.text.now) c.in-None.is c.name_in.ensures)
