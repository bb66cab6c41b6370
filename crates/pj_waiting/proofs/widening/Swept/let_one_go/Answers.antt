use Rattle.std.proofs.Common.{ℕ, Option, List, false, ◌≡◌, ◌∙◌, ◌++◌, ◌∷◌, [], refl, sym, subst, ap, inl, inr}
use Rattle.pj_events.specs.Patterns.{Pattern}
use Rattle.pj_events.specs.Join.{PunctAt}
use Rattle.pj_rows.specs.Finding.{IsFound, IsStaying, still_held}
use Rattle.pj_waiting.specs.Holding.{waits_at}
use Rattle.pj_waiting.specs.Letting.{widened_among}
use Rattle.pj_waiting.proofs.Holding.{one_elsewhere, one_listed}
use Rattle.pj_waiting.proofs.Looped.{goes_where}
use Rattle.pj_waiting.proofs.widening.Swept.let_one_go.Goals as goal

pub returns-in-None-clause-ok : goal.returns-in-None-clause-ok
returns-in-None-clause-ok c = inl (refl, refl, record { stays = λ p h e. absurd (c.in-None.ensures.missing p h e); held = λ p h e own. absurd (c.in-None.ensures.missing p h e) })

pub returns-then-input-self-clause-ok : goal.returns-then-input-self-clause-ok
returns-then-input-self-clause-ok c = inl (refl, refl, one_elsewhere c.args.self.now c.args.waiting.now (waits_at c.args.ticket c.in-Some.punct.now) c.args.ticket c.requires.rising c.in-Some.ensures.found refl (λ own. c.if-input-self.true (c.input.ensures ∙ own)))

pub returns-in_ok-push-in-None-find_left-2-clause-ok : goal.returns-in_ok-push-in-None-find_left-2-clause-ok
returns-in_ok-push-in-None-find_left-2-clause-ok c = inr (c.in_ok-push-in-None-find_left.ensures.ok, (p, c.in-Some.ensures.found, refl, goes_where c.args.self.now.state.now.rows c.args.self.now.gone.now c.args.self.now.input p false own (sym none), more))
  where
    p : PunctAt
    p = waits_at c.args.ticket c.in-Some.punct.now

    own : c.in-Some.punct.now.input ≡ c.args.self.now.input
    own = sym c.input.ensures ∙ c.if-input-self.false

    none : still_held c.args.self.now.state.now.rows c.args.self.now.gone.now c.in-Some.punct.now.patterns ≡ false
    none = subst (λ (o : Option ℕ). IsFound c.args.self.now.state.now.rows c.args.self.now.gone.now c.in-Some.punct.now.patterns o) c.in-None-find_left.is
        (subst (λ (ps : List Pattern). IsFound c.args.self.now.state.now.rows c.args.self.now.gone.now ps c.find_left.result) c.punct.ensures c.find_left.ensures)

    more : c.push-in-None-find_left.new.self ≡ c.args.out.now ++ widened_among c.args.self.now.schemas.now p ∷ []
    more = c.in_ok-push-in-None-find_left-2.ensures.ok
        ∙ ap (λ (w : List Pattern). c.args.out.now ++ w ∷ []) (c.in_ok-widened-in-None-find_left.ensures c.args.ticket ∙ ap (λ (q : PunctAt). widened_among c.args.self.now.schemas.now q) same)
      where
        same : record { ticket = c.args.ticket; input = c.args.self.now.input; patterns = c.as_slice-own.result.now } ≡ p
        same = ap (λ (ps : List Pattern). record { ticket = c.args.ticket; input = c.args.self.now.input; patterns = ps }) (c.as_slice-own.ensures ∙ c.punct-in-None-find_left.ensures)
            ∙ ap (λ (n : ℕ). record { ticket = c.args.ticket; input = n; patterns = c.in-Some.punct.now.patterns }) (sym own)

pub returns-in_ok-list-in-Some-find_left-clause-ok : goal.returns-in_ok-list-in-Some-find_left-clause-ok
returns-in_ok-list-in-Some-find_left-clause-ok c = inl (refl, refl, one_listed c.args.self.now c.args.waiting.now c.list.new.self (waits_at c.args.ticket c.in-Some.punct.now) c.args.ticket c.in-Some-find_left.found c.requires.rising c.in-Some.ensures.found refl held c.list.ensures.puncts c.in_ok-list-in-Some-find_left.ensures.ok)
  where
    held : IsStaying c.args.self.now.state.now.rows c.args.self.now.gone.now c.in-Some.punct.now.patterns c.in-Some-find_left.found
    held = subst (λ (o : Option ℕ). IsFound c.args.self.now.state.now.rows c.args.self.now.gone.now c.in-Some.punct.now.patterns o) c.in-Some-find_left.is
        (subst (λ (ps : List Pattern). IsFound c.args.self.now.state.now.rows c.args.self.now.gone.now ps c.find_left.result) c.punct.ensures c.find_left.ensures)
