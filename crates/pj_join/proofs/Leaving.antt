-- What is left of the punctuations that wait.
use Rattle.std.proofs.Common.{ℕ, Bool, true, false, not, ◌&&◌, ◌||◌, List, ◌≡◌, refl, ap, ◌∙◌, eqb}
use Rattle.pj_value.proofs.Members.{filter-agree}
use Rattle.pj_state.specs.Rising.{IsRising}
use Rattle.pj_events.specs.Join.{PunctAt, TupleAt, has, is_held}
use Rattle.pj_waiting.specs.Holding.{tickets_where, held_at}
use Rattle.pj_join.specs.Sweeping.{is_let_go, waiting_on}
use Rattle.pj_waiting.specs.Leaving.{puncts_without}
use Rattle.pj_waiting.proofs.Leaving.{tells_where}

pub left_waiting : (stored : List TupleAt) (input : ℕ) (ps : List PunctAt) (goes : List ℕ) → IsRising held_at ps → goes ≡ tickets_where (is_let_go stored input) ps → puncts_without goes ps ≡ waiting_on stored input ps
left_waiting stored input ps goes r is =
    filter-agree (λ p. not (has goes p.ticket)) (λ p. not (eqb p.input input) || is_held stored p) ps (λ p h. ap not (tells_where (is_let_go stored input) ps goes p r is h) ∙ parts (eqb p.input input) (is_held stored p))
  where
    parts : (a b : Bool) → not (a && not b) ≡ (not a || b)
    parts true true = refl
    parts true false = refl
    parts false b = refl
