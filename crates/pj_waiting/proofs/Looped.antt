-- What the loops of a join cite.
use Rattle.std.proofs.Common.{ℕ, Bool, not, ◌&&◌, List, ◌≡◌, refl, sym, ap, ◌∙◌, eqb, arith}
use Rattle.std.proofs.lemmas.Bool.{eq-eqb}
use Rattle.pj_state.specs.declared.shared.Stored.{Stored}
use Rattle.pj_events.specs.Join.{PunctAt}
use Rattle.pj_waiting.specs.Letting.{lets_go}
use Rattle.pj_rows.specs.Finding.{still_held}

-- whether one of the swept input goes
pub goes_where : (rows : List Stored) (gone : List ℕ) (input : ℕ) (p : PunctAt) (held : Bool) → p.input ≡ input → held ≡ still_held rows gone p.patterns → lets_go rows gone input p ≡ not held
goes_where rows gone input p held own is = ap (λ n. eqb n input && not (still_held rows gone p.patterns)) own ∙ ap (λ b. b && not (still_held rows gone p.patterns)) (eq-eqb input input refl) ∙ ap not (sym is)
