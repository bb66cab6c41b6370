-- Joins that are never swept.
use Rattle.std.proofs.Common.{◌<◌, ◌++◌, List, [], ◌∷◌, ◌≡◌, get_or, refl, ap, subst, arith, length, zero, suc}
use Rattle.std.proofs.lemmas.List.{length-map}
use Rattle.pj_events.specs.Join.{Step, TupleComes, PunctComes, Take, Give, Sweep, JoinData, JoinState, CertStep, inputs, new_tuple, step, run, start, AreCertified, AreLegalSteps, TupleAt}
use Rattle.pj_join_laws.specs.Laws.{AreNoSweeps, AllIsStored, IsNeverSwept}
use Rattle.pj_shape.specs.Certificates.{steps_at}

stored-run : (spec : JoinData) (s : JoinState) (es : List Step) → s.stored ≡ s.tuples → AreNoSweeps es → (run spec s es).stored ≡ (run spec s es).tuples
stored-run spec s [] same n = same
stored-run spec s (TupleComes input row ∷ es) same n =
    stored-run spec (step spec s (TupleComes input row)) es (ap (λ (xs : List TupleAt). xs ++ new_tuple s input row ∷ []) same) n.1
stored-run spec s (PunctComes input patterns ∷ es) same n = stored-run spec (step spec s (PunctComes input patterns)) es same n.1
stored-run spec s (Take u ∷ es) same n = stored-run spec (step spec s (Take u)) es same n.1
stored-run spec s (Give u ∷ es) same n = stored-run spec (step spec s (Give u)) es same n.1
stored-run spec s (Sweep input ∷ es) same n = absurd n.0

pub all-is-stored : (spec : JoinData) → AllIsStored spec
all-is-stored spec steps n = stored-run spec start steps refl n

no-certificates : (spec : JoinData) → spec.certs ≡ [] → 1 < inputs spec → AreCertified spec → ⊥
no-certificates spec none lt certs = omega (arith, found)
  where
    found : zero ≡ suc zero
    found =
        subst (λ (all : List (List CertStep)). steps_at (get_or all 0 []) 1 ≡ 1) none
        ((certs.each 0 (omega (arith, lt))).once 1 (let long = length-map spec.shape.inputs length in omega (arith, lt, long)) (λ e. omega (arith, e)))

never-run : (spec : JoinData) (s : JoinState) (es : List Step) → (AreCertified spec → ⊥) → AreLegalSteps spec s es → AreNoSweeps es
never-run spec s [] not-certified l = tt
never-run spec s (TupleComes input row ∷ es) not-certified l = (tt, never-run spec (step spec s (TupleComes input row)) es not-certified l.1)
never-run spec s (PunctComes input patterns ∷ es) not-certified l = (tt, never-run spec (step spec s (PunctComes input patterns)) es not-certified l.1)
never-run spec s (Take u ∷ es) not-certified l = (tt, never-run spec (step spec s (Take u)) es not-certified l.1)
never-run spec s (Give u ∷ es) not-certified l = (tt, never-run spec (step spec s (Give u)) es not-certified l.1)
never-run spec s (Sweep input ∷ es) not-certified l = absurd (not-certified l.0.1)

pub never-swept : (spec : JoinData) → IsNeverSwept spec
never-swept spec none lt steps legal = never-run spec start steps (no-certificates spec none lt) legal
