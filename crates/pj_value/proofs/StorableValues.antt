-- Loops over values that are storable.
use Rattle.std.proofs.Common.{◌≡◌, ℕ, zero, suc, ◌+◌, ◌<◌, ◌≤◌, List, [], ◌∷◌, ◌++◌, Some, length, get_or, drop, sym, subst}
use Rattle.std.specs.List.{slice_get}
use Rattle.std.proofs.lemmas.Option.{get_or_from_slice_get, slice_get_within}
use Rattle.std.proofs.lemmas.List.{drop_more, at_drop_all}
use Rattle.std.specs.List.{AllByRecursion}
use Rattle.pj_value.specs.declared.values.Value.{Value}
use Rattle.pj_value.specs.Storable.{AreStorable, IsStorable}

pub bytes_small : (bytes : List ℕ) → ((i : ℕ) → get_or bytes i 0 < 256) → AllByRecursion (λ b. b < 256) bytes
bytes_small [] small = tt
bytes_small (b ∷ bs) small = (small zero, bytes_small bs (λ i. small (suc i)))

-- all are storable, if those from the i-th on are
abbrev pub StorableSoFar : List Value → ℕ → Type 0
StorableSoFar values i = AreStorable (drop i values) → AreStorable values

pub storable_more : (values : List Value) (i : ℕ) (value : Value) → StorableSoFar values i → i < length values → value ≡ get_or values i value → IsStorable value → StorableSoFar values (i + 1)
storable_more values i value before lt is stored = λ later.
    before (subst AreStorable (sym (drop_more values i value lt)) (subst IsStorable is stored, later))

pub storable_at : (values : List Value) (i : ℕ) (value : Value) → StorableSoFar values i → slice_get values i ≡ Some value → IsStorable value → StorableSoFar values (i + 1)
storable_at values i value before there stored =
    storable_more values i value before (slice_get_within values i value there) (sym (get_or_from_slice_get values i value value there)) stored

pub storable_end : (values : List Value) (i : ℕ) → StorableSoFar values i → length values ≤ i → AreStorable values
storable_end values i before le = before (subst AreStorable (sym (at_drop_all (λ (vs : List Value). vs) values i le)) tt)

pub storable_both : (first second : List Value) → AreStorable first → AreStorable second → AreStorable (first ++ second)
storable_both [] second one other = other
storable_both (v ∷ vs) second (here, one) other = (here, storable_both vs second one other)
