use Rattle.std.proofs.Common.{◌∙◌, ap, sym, inl, inr}
use Rattle.clap.specs.Words.{found_of}
use Rattle.clap.proofs.WalkLemmas.{one_text-rows}
use Rattle.pj_words.specs.Matches.{is_told}
use Rattle.pj_words.proofs.matches.has_flag.Goals as goal

pub returns : goal.returns
returns c =
    let read = one_text-rows (found_of c.args.matches.now) c.args.id.now in
    elim c.requires [
      | inl h ↦ c.get_flag.ensures.value (read ∙ h) ∙ sym (ap is_told h)
      | inr h ↦ c.get_flag.ensures.other (read ∙ h) ∙ sym (ap is_told h)
    ]
