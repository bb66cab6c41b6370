use Rattle.std.proofs.Common.{◌≡◌, ℕ, zero, suc, List, [], ◌∷◌, None, Some, slice_get, refl, sym, subst, IfOk}
use Rattle.std.proofs.lemmas.Option.{get_or_from_slice_get}
use Rattle.pj_value.specs.declared.values.Value.{Value}
use Rattle.pj_value.specs.declared.values.Value.TheVariants.{Text}
use Rattle.pj_shape.specs.Joining.{no_value, value_at}
use Rattle.pj_cert.proofs.escaping.own_value.Goals as goal

-- where the row has no such column the empty text stands for its value
none_at : (row : List Value) (k : ℕ) → None ≡ slice_get row k → Text [] ≡ value_at row k
none_at [] k e = refl
none_at (v ∷ row) zero e = cc
none_at (v ∷ row) (suc k) e = none_at row k e

got_at : (row : List Value) (k : ℕ) (v : Value) → Some v ≡ slice_get row k → v ≡ value_at row k
got_at row k v e = sym (get_or_from_slice_get row k v no_value (sym e))

pub returns-in-None : goal.returns-in-None
returns-in-None c =
    subst (λ (v : Value). IfOk c.blank.result (λ value. value ≡ v)) (none_at c.args.row.now c.args.column c.in-None.ensures) c.blank.ensures

pub returns-in-Some : goal.returns-in-Some
returns-in-Some c =
    subst (λ (v : Value). IfOk c.copy.result (λ value. value ≡ v)) (got_at c.args.row.now c.args.column c.in-Some.value.now c.in-Some.ensures) c.copy.ensures
