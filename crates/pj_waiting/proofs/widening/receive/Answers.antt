use Rattle.std.proofs.Common.{true, [], ◌≡◌, ◌++◌, sym, subst}
use Rattle.std.specs.Prelude.{OnOk}
use Rattle.std.proofs.lemmas.List.{append-nil}
use Rattle.pj_waiting.specs.Holding.{IsListedIf, arriving_punct}
use Rattle.pj_waiting.specs.Letting.{going_at_once, waiting_with}
use Rattle.pj_rows.specs.Finding.{still_held}
use Rattle.pj_waiting.proofs.Holding.{found_held, on_any, on_ok}
use Rattle.pj_waiting.proofs.widening.receive.Goals as goal

held : (c : goal.After-keep_waiting) → still_held c.args.state.now.rows [] c.args.arriving.punct ≡ true
held c = found_held c.args.state.now.rows [] c.args.arriving.punct c.in-Some.found c.in-Some.ensures

pub returns-in-Some-clause-waiting : goal.returns-in-Some-clause-waiting
returns-in-Some-clause-waiting c =
    subst (λ b. OnOk c.keep_waiting.result (c.keep_waiting.new.waiting.puncts ≡ waiting_with b c.args.waiting.now.puncts (arriving_punct c.args.arriving))) (sym (held c)) c.keep_waiting.ensures.waiting

pub returns-in-Some-clause-listed : goal.returns-in-Some-clause-listed
returns-in-Some-clause-listed c =
    subst (λ b. OnOk c.keep_waiting.result (IsListedIf b c.args.state.now.rows c.args.arriving.punct c.args.arriving.ticket c.keep_waiting.new.waiting)) (sym (held c))
    (on_ok c.keep_waiting.result (λ listed. (c.in-Some.found, c.in-Some.ensures, listed)) c.keep_waiting.ensures.listed)

pub returns-in-Some-clause-out : goal.returns-in-Some-clause-out
returns-in-Some-clause-out c =
    subst (λ b. OnOk c.keep_waiting.result (c.args.out.now ≡ c.args.out.now ++ going_at_once c.args.schemas.now b (arriving_punct c.args.arriving))) (sym (held c)) (on_any c.keep_waiting.result (sym (append-nil c.args.out.now)))
