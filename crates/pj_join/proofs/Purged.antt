-- The routes by which tuples are judged, as they are made and looked up.
use Rattle.std.proofs.Common.{ℕ, zero, suc, ◌+◌, ◌<◌, ◌≡◌, List, [], ◌∷◌, ◌++◌, Some, length, get_or, refl, sym, ap, ◌∙◌, subst, inl, inr, arith}
use Rattle.std.specs.List.{slice_get}
use Rattle.std.proofs.lemmas.Bool.{cases_lt}
use Rattle.std.proofs.lemmas.List.{length-append, length-map}
use Rattle.std.proofs.lemmas.Option.{slice_get-get_or, slice_get_within}
use Rattle.pj_shape.specs.declared.joins.CertStep.{CertStep}
use Rattle.pj_shape.specs.Certificates.{IsCertificate}
use Rattle.pj_events.specs.Join.{AreCertified, JoinData, inputs, steps_of}
use Rattle.pj_cover.specs.Routes.{IsPurgeRoute, RouteView}
use Rattle.pj_join.specs.Purges.{ArePurgeRoutes}

get-append : {A : Type 0} (xs : List A) (x y : A) (n : ℕ) → slice_get (xs ++ x ∷ []) n ≡ Some y → (n < length xs → slice_get xs n ≡ Some y) × (n ≡ length xs → x ≡ y)
get-append [] x y zero e = (λ lt. absurd (omega (arith, lt)), λ n. cc)
get-append [] x y (suc n) e = absurd (cc)
get-append (z ∷ xs) x y zero e = (λ lt. e, λ n. absurd (omega (arith, n)))
get-append (z ∷ xs) x y (suc n) e = let r = get-append xs x y n e in (λ lt. r.0 (omega (arith, lt)), λ m. r.1 (omega (arith, m)))

pub purges_none : (spec : JoinData) (routes : List RouteView) → routes ≡ [] → ArePurgeRoutes spec 0 routes
purges_none spec routes e = subst (λ (rs : List RouteView). ArePurgeRoutes spec 0 rs) (sym e) record { count = refl; each = λ k r at. absurd (omega (arith, slice_get_within [] k r at)) }

pub purges_more : (spec : JoinData) (upto : ℕ) (routes new : List RouteView) (route : RouteView) → ArePurgeRoutes spec upto routes → IsPurgeRoute spec.shape spec.schemes (steps_of spec upto) upto route → new ≡ routes ++ route ∷ [] → ArePurgeRoutes spec (upto + 1) new
purges_more spec upto routes new route are is e = subst (λ (rs : List RouteView). ArePurgeRoutes spec (upto + 1) rs) (sym e) record {
  count = omega (arith, length-append routes (route ∷ []), are.count);
  each = λ k r at.
      let g = get-append routes route r k at in
      let within : k < length (routes ++ route ∷ []) = slice_get_within (routes ++ route ∷ []) k r at in
      let long : length (routes ++ route ∷ []) ≡ length routes + 1 = length-append routes (route ∷ []) in
      elim (cases_lt k (length routes)) [
        | inl lt ↦ are.each k r (g.0 lt)
        | inr le ↦
            let last : k ≡ length routes = omega (arith, within, long, le) in
            subst (λ (n : ℕ). IsPurgeRoute spec.shape spec.schemes (steps_of spec n) n r) (sym (last ∙ are.count)) (subst (λ (q : RouteView). IsPurgeRoute spec.shape spec.schemes (steps_of spec upto) upto q) (g.1 last) is)
      ];
}

-- the route of an input that is made follows its certificate
pub purge_made : (spec : JoinData) (input : ℕ) (cert : List CertStep) (route : RouteView) → cert ≡ steps_of spec input → IsPurgeRoute spec.shape spec.schemes cert input route → IsPurgeRoute spec.shape spec.schemes (steps_of spec input) input route
purge_made spec input cert route e is = subst (λ (c : List CertStep). IsPurgeRoute spec.shape spec.schemes c input route) e is

-- it can be made
pub purge_given : (spec : JoinData) (input : ℕ) (cert : List CertStep) → AreCertified spec → input < length spec.shape.inputs → cert ≡ steps_of spec input → IsCertificate spec.shape spec.schemes input cert
purge_given spec input cert certified lt e =
    let same : inputs spec ≡ length spec.shape.inputs = length-map spec.shape.inputs (λ schema. length schema) in
    subst (λ (c : List CertStep). IsCertificate spec.shape spec.schemes input c) (sym e) (certified.each input (omega (arith, same, lt)))

-- that of an input
pub purge_here : (spec : JoinData) (routes : List RouteView) (input : ℕ) (route : RouteView) → ArePurgeRoutes spec (inputs spec) routes → input < inputs spec → route ≡ get_or routes input route
    → IsPurgeRoute spec.shape spec.schemes (steps_of spec input) input route
purge_here spec routes input route are lt e = are.each input route (slice_get-get_or routes input route (omega (arith, lt, are.count)) ∙ ap Some (sym e))
