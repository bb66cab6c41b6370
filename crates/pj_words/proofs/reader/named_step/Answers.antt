use Rattle.std.proofs.Common.{◌∙◌, sym, subst, List, ℕ, Option, Some, None, option_map}
use Rattle.std.specs.Borrow.{Bor}
use Rattle.pj_words.specs.Reader.{option_step}
use Rattle.pj_words.specs.Request.{form_of}
use Rattle.pj_words.specs.Steps.{LeadsTo, name_text, seen_by}
use Rattle.pj_words.proofs.Steps.{new_leads, repeated_leads}
use Rattle.pj_words.proofs.reader.named_step.Goals as goal

pub returns-then-has : goal.returns-then-has
returns-then-has c = repeated_leads c.args.command c.args.seen c.args.name (option_map (λ (s : Bor (List ℕ)). s.now) c.args.value) (sym c.has.ensures ∙ c.if-has.true)

pub returns-in-Some : goal.returns-in-Some
returns-in-Some c =
    subst (λ (o : Option (Bor (List ℕ))). LeadsTo c.args.command (option_step (form_of c.args.command) (seen_by c.args.command c.args.seen)
    (Some (name_text c.args.name, option_map (λ (s : Bor (List ℕ)). s.now) o))) c.joined_step.result) (sym c.in-Some.is)
    (new_leads c.args.command c.args.seen c.args.name (Some c.in-Some.digits.now) c.joined_step.result (sym c.has.ensures ∙ c.if-has.false) c.joined_step.ensures)

pub returns-in-None : goal.returns-in-None
returns-in-None c =
    subst (λ (o : Option (Bor (List ℕ))). LeadsTo c.args.command (option_step (form_of c.args.command) (seen_by c.args.command c.args.seen)
    (Some (name_text c.args.name, option_map (λ (s : Bor (List ℕ)). s.now) o))) c.bare_step.result) (sym c.in-None.is)
    (new_leads c.args.command c.args.seen c.args.name None c.bare_step.result (sym c.has.ensures ∙ c.if-has.false) c.bare_step.ensures)
