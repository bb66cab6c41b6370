-- What tuples that join tell of each other.
use Rattle.std.proofs.Common.{ℕ, Bool, true, false, cond, List, [], ◌∷◌, ◌≡◌, Some, map, get_or, refl, inl, inr, eqb}
use Rattle.std.proofs.lemmas.Bool.{eqb-true}
use Rattle.pj_value.specs.declared.values.Value.{Value}
use Rattle.pj_shape.specs.Joining.{has_column}
use Rattle.pj_cover.specs.Asking.{first_class}
use Rattle.pj_events.specs.Join.{ClassCol, In, TupleAt, agree, constant, no_value, part_of, value_at, values}
use Rattle.pj_join_laws.proofs.Matching.{agree-at, value-in}
use Rattle.pj_recheck.specs.Watching.{Tells, first_column}

-- ---- values of tuples that join

pub first-in_class : (class : List ClassCol) (input own : ℕ) → first_column class input ≡ Some own → In (record { input = input; column = own }) class
first-in_class [] input own e = absurd (cc)
first-in_class (at ∷ class) input own e = go (eqb at.input input) refl e (first-in_class class input own)
  where
    go : (b : Bool) → eqb at.input input ≡ b → cond b (Some at.column) (first_column class input) ≡ Some own → (first_column class input ≡ Some own → In (record { input = input; column = own }) class) → In (record { input = input; column = own }) (at ∷ class)
    go true f k ih = inl (λ i. record { input = eqb-true at.input input f i; column = same k i })
      where
        same : Some at.column ≡ Some own → at.column ≡ own
        same q = cc
    go false f k ih = inr (ih k)

first_class-in : (classes : List (List ClassCol)) (at : ClassCol) (input own : ℕ) → first_column (first_class classes at) input ≡ Some own → In (first_class classes at) classes
first_class-in [] at input own e = absurd (cc)
first_class-in (class ∷ classes) at input own e = go (has_column class at) e (first_class-in classes at input own)
  where
    go : (b : Bool) → first_column (cond b class (first_class classes at)) input ≡ Some own → (first_column (first_class classes at) input ≡ Some own → In (first_class classes at) classes) → In (cond b class (first_class classes at)) (class ∷ classes)
    go true f ih = inl refl
    go false f ih = inr (ih f)

constant-there : (class : List ClassCol) (xs : List TupleAt) (v : Value) → In v (values (map part_of xs) class) → In (constant class xs) (values (map part_of xs) class)
constant-there class xs v h = go (values (map part_of xs) class) h
  where
    go : (vs : List Value) → In v vs → In (get_or vs 0 no_value) vs
    go [] k = absurd k
    go (w ∷ vs) k = inl refl

pub tells-joined : (classes : List (List ClassCol)) (xs : List TupleAt) (z : TupleAt) → agree classes xs ≡ true → In z xs → Tells classes xs z
tells-joined classes xs z t h at own e =
    let its : In (value_at z.row own) (values (map part_of xs) (first_class classes at)) = value-in xs (first_class classes at) z (record { input = z.input; column = own }) h (first-in_class (first_class classes at) z.input own e) refl in
    agree-at classes xs (first_class classes at) (constant (first_class classes at) xs) (value_at z.row own) t (first_class-in classes at z.input own e) (constant-there (first_class classes at) xs (value_at z.row own) its) its
