-- Results that a `?` hands on.
use Rattle.std.proofs.Common.{◌≡◌, Result, Ok, Err, IsErrAnd, IfErr, ap, subst, sym}

pub err_is : {T E : Type 0} (result : Result T E) (e : E) → IsErrAnd result (λ x. x ≡ e) → result ≡ Err e
err_is (Ok u) e h = absurd h
err_is (Err x) e h = ap Err h

pub if_err : {T E : Type 0} (P : E → Type 0) (result : Result T E) (e : E) → IsErrAnd result (λ x. x ≡ e) → P e → IfErr result P
if_err P (Ok x) e is p = tt
if_err P (Err x) e is p = subst P (sym is) p
