-- Columns of a class.
use Rattle.std.proofs.Common.{ℕ, ◌<◌, ◌≡◌, true, ◌&&◌, ◌==◌, List, length, get_or, ap, subst}
use Rattle.std.proofs.lemmas.Bool.{and_parts, eqb-true}
use Rattle.pj_value.specs.Lists.{In}
use Rattle.pj_value.proofs.Members.{any_at, in-place}
use Rattle.pj_shape.specs.declared.joins.ClassCol.{ClassCol}
use Rattle.pj_shape.specs.Joining.{has_column}

pub has_in : (class : List ClassCol) (at : ClassCol) → has_column class at ≡ true → In at class
has_in class at t =
    let d = any_at (λ (c : ClassCol). (c.input == at.input) && (c.column == at.column)) class t in
    let both = and_parts (d.0.input == at.input) (d.0.column == at.column) d.2 in
    let same : d.0 ≡ at = λ i. record { input = eqb-true d.0.input at.input both.0 i; column = eqb-true d.0.column at.column both.1 i } in
    subst (λ (c : ClassCol). In c class) same d.1

-- a column that stands at a place of a class
pub found_column : (class : List ClassCol) (i : ℕ) (d : ClassCol) (input : ℕ) → i < length class → (get_or class i d).input ≡ input → In (record { input = input; column = (get_or class i d).column }) class
found_column class i d input lt same =
    subst (λ (c : ClassCol). In c class) (ap (λ (n : ℕ). record { input = n; column = (get_or class i d).column }) same) (in-place class d i lt)
