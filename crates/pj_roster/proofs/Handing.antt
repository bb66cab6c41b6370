-- Duties are handed out one after the other.
use Rattle.std.proofs.Common.{◌≡◌, ℕ, zero, suc, ◌+◌, arith, List, [], ◌∷◌, ◌++◌, sym, ap, ◌∙◌, append_assoc, append-nil}
use Rattle.pj_workers.specs.declared.ends.WorkEnd.TheVariants.{Over}
use Rattle.pj_crew.specs.declared.duties.Duty.{Duty}
use Rattle.pj_crew.specs.declared.duties.Duty.TheVariants.{Probe}
use Rattle.pj_roster.specs.Assigned.{probers}

-- of all of these some were handed out, and those that are left stand behind them
pub record IsHanding {D : Type 0} (all done left : List D) : Type 0 where
  pub made : done ++ left ≡ all

pub hand_begins : {D : Type 0} (all done left : List D) → all ≡ done ++ left → IsHanding all done left
hand_begins all done left is = record { made = sym is }

pub hand_ends : {D : Type 0} (all done left : List D) → IsHanding all done left → left ≡ [] → done ≡ all
hand_ends all done left is none = sym (append-nil done) ∙ (ap (λ ds. done ++ ds) (sym none) ∙ is.made)

-- one prober more
probers-push : {S : Type 0} (k n : ℕ) → probers {S = S} k (suc n) ≡ probers k n ++ Probe (k + n) Over ∷ []
probers-push k zero = ap (λ m. Probe m Over ∷ []) (omega (arith))
probers-push k (suc n) = ap (λ ds. Probe k Over ∷ ds) (probers-push (k + 1) n ∙ ap (λ m. probers (k + 1) n ++ Probe m Over ∷ []) (omega (arith)))

pub prober_goes : {S : Type 0} (before done after : List (Duty S)) (n : ℕ) → done ≡ before ++ probers 0 n → after ≡ done ++ Probe n Over ∷ [] → after ≡ before ++ probers 0 (n + 1)
prober_goes {S = S} before done after n d a =
    a ∙ (ap (λ ds. ds ++ Probe n Over ∷ []) d ∙ (append_assoc before (probers 0 n) (Probe n Over ∷ []) ∙ ap (λ ds. before ++ ds) (sym more)))
  where
    more : probers {S = S} 0 (n + 1) ≡ probers 0 n ++ Probe n Over ∷ []
    more = ap (λ m. probers {S = S} 0 m) (let next : n + 1 ≡ suc n = omega (arith) in next) ∙ (probers-push 0 n ∙ ap (λ m. probers 0 n ++ Probe m Over ∷ []) (let same : 0 + n ≡ n = omega (arith) in same))
