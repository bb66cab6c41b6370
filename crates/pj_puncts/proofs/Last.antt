-- The last punctuation of a chain.
use Rattle.std.proofs.Common.{◌≡◌, ◌<◌, ℕ, zero, suc, List, [], ◌∷◌, Option, Some, None, length, get_or, inl, inr, refl, sym, subst, arith}
use Rattle.std.specs.Option.{IfSome}
use Rattle.pj_value.specs.Lists.{In}
use Rattle.pj_events.specs.Patterns.{Pattern}
use Rattle.pj_puncts.specs.Stores.{IsOneOf}
use Rattle.pj_puncts.specs.declared.store.NumberedPunct.{NumberedPunct}

pub one_of : (kept : List NumberedPunct) (at : ℕ) (k : NumberedPunct) → at < length kept → k ≡ get_or kept at k → IsOneOf kept k.punct
one_of kept at k lt is = (k.number, subst (λ (j : NumberedPunct). In j kept) (sym is) (In-at kept at k lt))
  where
    In-at : (ks : List NumberedPunct) (at : ℕ) (d : NumberedPunct) → at < length ks → In (get_or ks at d) ks
    In-at [] at d l = absurd (omega (arith, l))
    In-at (j ∷ ks) zero d l = inl refl
    In-at (j ∷ ks) (suc at) d l = inr (In-at ks at d (omega (arith, l)))

-- one of some of these is one of them
pub some_among : {A : Type 0} (patterns : A → List Pattern) (kept others lent : List NumberedPunct) (o : Option A) → lent ≡ others → ((k : NumberedPunct) → In k others → In k kept) → IfSome o (λ a. IsOneOf lent (patterns a)) → IfSome o (λ a. IsOneOf kept (patterns a))
some_among patterns kept others lent None is among h = tt
some_among patterns kept others lent (Some a) is among (number, h) = (number, among _ (subst (λ (ks : List NumberedPunct). In (record { punct = patterns a; number = number }) ks) is h))
