-- Columns that are indexed.
use Rattle.std.proofs.Common.{◌≡◌, ℕ, suc, ◌<◌, true, ◌==◌, List, [], ◌∷◌, length, get_or, inl, inr, sym, subst, arith, eqb}
use Rattle.std.specs.List.{list_any}
use Rattle.std.proofs.lemmas.Bool.{eqb-true}
use Rattle.pj_value.proofs.Members.{any_at}
use Rattle.pj_events.specs.Join.{In}

-- ---- rows that are looked up

pub all-in : (P : ℕ → Type 0) (cs : List ℕ) → ((k d : ℕ) → k < length cs → P (get_or cs k d)) → (c : ℕ) → In c cs → P c
all-in P [] all c h = absurd h
all-in P (d ∷ cs) all c (inl e) = subst P e (all 0 d (omega arith))
all-in P (d ∷ cs) all c (inr h) = all-in P cs (λ k e lt. all (suc k) e (omega (arith, lt))) c h

-- the column is one of those that are indexed
pub indexed-in : (column : ℕ) (columns : List ℕ) → list_any (λ own. column == own) columns ≡ true → In column columns
indexed-in column columns t =
    let at = any_at (λ own. column == own) columns t in
    subst (λ n. In n columns) (sym (eqb-true column at.0 at.2)) at.1

pub within : (own : ℕ) (columns : List ℕ) → list_any (λ o. eqb own o) columns ≡ true → In own columns
within own columns indexed = let h = any_at (λ o. eqb own o) columns indexed in subst (λ n. In n columns) (sym (eqb-true own h.0 h.2)) h.1
