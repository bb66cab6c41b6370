-- How the routes of a join are made.
use Rattle.std.proofs.Common.{ℕ, zero, suc, Bool, true, false, eqb, ap₂, length-append, ◌+◌, ◌<◌, ◌≤◌, List, [], ◌∷◌, ◌++◌, ◌≡◌, ◌⊎◌, Some, None, IfSome, length, get_or, refl, sym, ap, ◌∙◌, subst, inl, inr, arith, append_assoc, append-nil}
use Rattle.std.specs.List.{slice_get}
use Rattle.std.proofs.lemmas.Bool.{eq-eqb, eqb-true, false≢true}
use Rattle.std.proofs.lemmas.Option.{get_or_from_slice_get, none-some, same_Some}
use Rattle.pj_value.proofs.Members.{In-append_cases, In-append_left, In-append_right}
use Rattle.pj_state.specs.States.{StateView}
use Rattle.pj_shape.specs.declared.joins.CertStep.{CertStep}
use Rattle.pj_cover.specs.Asking.{entries, marks_of}
use Rattle.pj_cover.proofs.Searching.{map_here}
use Rattle.pj_events.specs.Join.{CertEntry, ClassCol, In, JoinData, cert_of, entry_of, inputs}
use Rattle.pj_recheck.specs.declared.routes.Hop.{Hop}
use Rattle.pj_recheck.specs.declared.routes.Lead.{Lead}
use Rattle.pj_recheck.specs.declared.routes.Stop.{Stop}
use Rattle.pj_recheck.specs.declared.routes.RecheckRoute.{RecheckRoute}
use Rattle.pj_recheck.specs.declared.routes.BackRoute.{BackRoute}
use Rattle.pj_recheck.specs.declared.routes.InputRoutes.{InputRoutes}
use Rattle.pj_recheck.specs.Recheck.{AreHops, AreLeads, AreRoutes, AreStops, BacksFit, HaveBacks, HaveRoutes, IsHop, IsRecheckRoute, IsStop, IsWay, LeadTo, LeadsFit, LeadsIn, RoutesFit, asker_at, entry_with, no_routes, routes_at}
use Rattle.pj_recheck.specs.Watching.{Asker, SideView, input_of, side_at}
use Rattle.pj_recheck.proofs.Woken.{by-place}

-- what holds of all of a list and of one item more holds of all of both
pub all_more : {A : Type 0} (P : A → Type 0) (old new : List A) (x : A) → new ≡ old ++ x ∷ [] → ((y : A) → In y old → P y) → P x → (y : A) → In y new → P y
all_more {A} P old new x is all one y h = go (In-append_cases y old (x ∷ []) (subst (λ (ys : List A). In y ys) is h))
  where
    go : In y old ⊎ In y (x ∷ []) → P y
    go (inl k) = all y k
    go (inr (inl e)) = subst P e one
    go (inr (inr k)) = absurd k

pub kept_more : {A : Type 0} (old new : List A) (x : A) → new ≡ old ++ x ∷ [] → (y : A) → In y old → In y new
kept_more {A} old new x is y h = subst (λ (ys : List A). In y ys) (sym is) (In-append_left y old (x ∷ []) h)

-- ---- steps back

-- these steps lead from one position to another
abbrev pub HopsFrom : Asker → ℕ → ℕ → List Hop → Type 0
HopsFrom a from at hops = (rest : List Hop) → AreHops a at rest → AreHops a from (hops ++ rest)

pub hops_more : (a : Asker) (from at before : ℕ) (old new : List Hop) (hop : Hop) → HopsFrom a from at old → IsHop a at before hop → new ≡ old ++ hop ∷ [] → HopsFrom a from before new
hops_more a from at before old new hop so-far is more rest leads =
    subst (λ (hops : List Hop). AreHops a from hops) (sym (ap (λ (hops : List Hop). hops ++ rest) more ∙ append_assoc old (hop ∷ []) rest)) (so-far (hop ∷ rest) (before, is, leads))

pub hops_whole : (a : Asker) (from at : ℕ) (hops : List Hop) → HopsFrom a from at hops → at ≤ 0 → AreHops a from hops
hops_whole a from at hops so-far le = subst (λ (hs : List Hop). AreHops a from hs) (append-nil hops) (so-far [] (omega (arith, le)))

-- ---- columns

none-at : {A : Type 0} (xs : List A) (n : ℕ) (d : A) → slice_get xs n ≡ None → get_or xs n d ≡ d
none-at [] n d e = refl
none-at (x ∷ xs) zero d e = absurd (none-some x (sym e))
none-at (x ∷ xs) (suc n) d e = none-at xs n d e

pub marks_there : (schemes : List (List (List Bool))) (step : CertStep) (list : List (List Bool)) (marks : List Bool) → slice_get schemes step.input ≡ Some list → slice_get list step.scheme ≡ Some marks → marks ≡ marks_of schemes step
marks_there schemes step list marks at there =
    sym (ap (λ (l : List (List Bool)). get_or l step.scheme []) (get_or_from_slice_get schemes step.input list [] at) ∙ get_or_from_slice_get list step.scheme marks [] there)

pub marks_none : (schemes : List (List (List Bool))) (step : CertStep) (list : List (List Bool)) → slice_get schemes step.input ≡ Some list → slice_get list step.scheme ≡ None → [] ≡ marks_of schemes step
marks_none schemes step list at none =
    sym (ap (λ (l : List (List Bool)). get_or l step.scheme []) (get_or_from_slice_get schemes step.input list [] at) ∙ none-at list step.scheme [] none)

-- the own rows are those of the path's input
same-input : (input : ℕ) (side : SideView) → Some input ≡ Some side.input → side.input ≡ input
same-input input side e = cc

pub own_fit : (row_states : List StateView) (input : ℕ) (side : SideView) (leads : List Lead) → Some input ≡ Some side.input → side ≡ side_at row_states side.input → LeadsIn side.state.columns leads → LeadsFit row_states input leads
own_fit row_states input side leads here is fit =
    subst (λ k. LeadsFit row_states k leads) (same-input input side here) (subst (λ (d : SideView). LeadsIn d.state.columns leads) is fit)

pub own_are : (classes : List (List ClassCol)) (e : CertEntry) (input : ℕ) (side : SideView) (leads : List Lead) → Some input ≡ Some side.input → AreLeads classes e side.input leads → AreLeads classes e input leads
own_are classes e input side leads here are = subst (λ k. AreLeads classes e k leads) (same-input input side here) are

-- ---- positions

pub stop_more : (a : Asker) (at : ℕ) (e : CertEntry) (old new : List Stop) (stop : Stop) → new ≡ old ++ stop ∷ [] → IsStop a at e stop → (entry : ℕ) → at ≤ entry → AreStops a entry e old → AreStops a entry e new
stop_more a at e old new stop more is entry le all =
    let n : is.at ≤ at = is.within in
    all_more (λ (s : Stop). IsStop a entry e s) old new stop more all (record { at = is.at; within = omega (arith, n, le); here = is.here; leads = is.leads; way = is.way })

-- ---- entries

-- an entry of another input needs no route
pub routes_past : (a : Asker) (entry input : ℕ) (e : CertEntry) (routes : List RecheckRoute) → slice_get a.cert entry ≡ Some e → (e.input ≡ input → ⊥) → HaveRoutes a entry input routes → HaveRoutes a (entry + 1) input routes
routes_past a entry input e routes at ne all k f lt there of = go (eqb k entry) refl
  where
    go : (b : Bool) → eqb k entry ≡ b → (route : RecheckRoute) × In route routes × IsRecheckRoute a k f route
    go true q = absurd (ne (ap (λ (g : CertEntry). g.input) (same_Some e f (sym at ∙ ap (slice_get a.cert) (sym (eqb-true k entry q)) ∙ there)) ∙ of))
    go false q = all k f (omega (arith, lt, λ (same : k ≡ entry). false≢true (sym q ∙ eq-eqb k entry same))) there of

pub routes_next : (a : Asker) (entry input : ℕ) (e : CertEntry) (old new : List RecheckRoute) (route : RecheckRoute) → slice_get a.cert entry ≡ Some e → new ≡ old ++ route ∷ [] → IsRecheckRoute a entry e route → HaveRoutes a entry input old → HaveRoutes a (entry + 1) input new
routes_next a entry input e old new route at more is all k f lt there of = go (eqb k entry) refl
  where
    here : In route new
    here = subst (λ (rs : List RecheckRoute). In route rs) (sym more) (In-append_right route old (route ∷ []) (inl refl))

    go : (b : Bool) → eqb k entry ≡ b → (r : RecheckRoute) × In r new × IsRecheckRoute a k f r
    go true q =
        let same : k ≡ entry = eqb-true k entry q in
        let own : e ≡ f = same_Some e f (sym at ∙ ap (slice_get a.cert) (sym same) ∙ there) in
        (route, here, subst (λ n. IsRecheckRoute a n f route) (sym same) (subst (λ (g : CertEntry). IsRecheckRoute a entry g route) own is))
    go false q =
        let r = all k f (omega (arith, lt, λ (same : k ≡ entry). false≢true (sym q ∙ eq-eqb k entry same))) there of in
        (r.0, kept_more old new route more r.0 r.1, r.2)

-- the entry of a step, by its scheme
pub entry_here : (cert : List CertEntry) (schemes : List (List (List Bool))) (steps : List CertStep) (entry : ℕ) (step : CertStep) → cert ≡ entries schemes steps → slice_get steps entry ≡ Some step → slice_get cert entry ≡ Some (entry_of schemes step)
entry_here cert schemes steps entry step is at = ap (λ (cs : List CertEntry). slice_get cs entry) is ∙ map_here (entry_of schemes) steps entry step at

pub entry_is : (schemes : List (List (List Bool))) (step : CertStep) (input : ℕ) (scheme : List Bool) → step.input ≡ input → scheme ≡ marks_of schemes step → entry_with input scheme ≡ entry_of schemes step
entry_is schemes step input scheme of is = ap₂ (λ n (ms : List Bool). entry_with n ms) (sym of) is

-- ---- positions from which rows go

pub backs_past : (a : Asker) (at other : ℕ) (backs : List BackRoute) → (input_of a at ≡ Some other → ⊥) → HaveBacks a at other backs → HaveBacks a (at + 1) other backs
backs_past a at other backs ne all k behind lt here = go (eqb k at) refl
  where
    go : (b : Bool) → eqb k at ≡ b → (back : BackRoute) × In back backs × (back.owner ≡ a.input) × IfSome back.way (IsWay a k)
    go true q = absurd (ne (subst (λ n. input_of a n ≡ Some other) (eqb-true k at q) here))
    go false q = all k behind (omega (arith, lt, λ (same : k ≡ at). false≢true (sym q ∙ eq-eqb k at same))) here

pub backs_next : (a : Asker) (at other : ℕ) (old new : List BackRoute) (back : BackRoute) → new ≡ old ++ back ∷ [] → back.owner ≡ a.input → IfSome back.way (IsWay a at) → HaveBacks a at other old → HaveBacks a (at + 1) other new
backs_next a at other old new back more owned way all k behind lt here = go (eqb k at) refl
  where
    go : (b : Bool) → eqb k at ≡ b → (r : BackRoute) × In r new × (r.owner ≡ a.input) × IfSome r.way (IsWay a k)
    go true q = (
      back,
      subst (λ (rs : List BackRoute). In back rs) (sym more) (In-append_right back old (back ∷ []) (inl refl)),
      owned,
      subst (λ n. IfSome back.way (IsWay a n)) (sym (eqb-true k at q)) way,
    )
    go false q =
        let r = all k behind (omega (arith, lt, λ (same : k ≡ at). false≢true (sym q ∙ eq-eqb k at same))) here in
        (r.0, kept_more old new back more r.0 r.1, r.2, r.3)

-- ---- all inputs

pub lead_next : (spec : JoinData) (row_states : List StateView) (input owner : ℕ) (old new : InputRoutes) (cert : List CertEntry) → cert ≡ cert_of spec owner
    → HaveRoutes (record { classes = spec.shape.classes; cert = cert; input = owner }) (length cert) input new.recheck → HaveBacks (record { classes = spec.shape.classes; cert = cert; input = owner }) (length cert) input new.back
    → ((r : RecheckRoute) → In r old.recheck → In r new.recheck) → ((b : BackRoute) → In b old.back → In b new.back) → (RoutesFit row_states old.recheck → RoutesFit row_states new.recheck) → (BacksFit row_states old.back → BacksFit row_states new.back)
    → LeadTo spec row_states input owner old → LeadTo spec row_states input (owner + 1) new
lead_next spec row_states input owner old new cert is recheck back kept kept-back fit fit-back all = record {
  recheck = λ k lt.
      by-place (λ k. k < owner + 1 → HaveRoutes (asker_at spec k) (length (cert_of spec k)) input new.recheck) owner k
      (λ l. subst (λ (cs : List CertEntry). HaveRoutes (record { classes = spec.shape.classes; cert = cs; input = owner }) (length cs) input new.recheck) is recheck)
      (λ ne l entry e within at of. let r = all.recheck k (omega (arith, l, ne)) entry e within at of in (r.0, kept r.0 r.1, r.2)) lt;
  fit = fit all.fit;
  back = λ k lt.
      by-place (λ k. k < owner + 1 → HaveBacks (asker_at spec k) (length (cert_of spec k)) input new.back) owner k
      (λ l. subst (λ (cs : List CertEntry). HaveBacks (record { classes = spec.shape.classes; cert = cs; input = owner }) (length cs) input new.back) is back)
      (λ ne l at behind within here. let b = all.back k (omega (arith, l, ne)) at behind within here in (b.0, kept-back b.0 b.1, b.2, b.3)) lt;
  back_fit = fit-back all.back_fit;
}

at-last : (xs : List InputRoutes) (x d : InputRoutes) (n : ℕ) → length xs ≡ n → get_or (xs ++ x ∷ []) n d ≡ x
at-last [] x d zero e = refl
at-last [] x d (suc n) e = absurd (omega (arith, e))
at-last (y ∷ xs) x d zero e = absurd (omega (arith, e))
at-last (y ∷ xs) x d (suc n) e = at-last xs x d n (omega (arith, e))

at-before : (xs : List InputRoutes) (x d : InputRoutes) (k : ℕ) → k < length xs → get_or (xs ++ x ∷ []) k d ≡ get_or xs k d
at-before [] x d k lt = absurd (omega (arith, lt))
at-before (y ∷ xs) x d zero lt = refl
at-before (y ∷ xs) x d (suc k) lt = at-before xs x d k (omega (arith, lt))

pub routes_more : (spec : JoinData) (row_states : List StateView) (count all : ℕ) (old new : List InputRoutes) (r : InputRoutes) → new ≡ old ++ r ∷ [] → all ≡ inputs spec → LeadTo spec row_states count all r → AreRoutes spec row_states count old → AreRoutes spec row_states (count + 1) new
routes_more spec row_states count all old new r more whole lead are = record {
  long = ap length more ∙ length-append old (r ∷ []) ∙ ap (λ n. n + 1) are.long;
  each = λ input lt.
      subst (λ (rs : List InputRoutes). LeadTo spec row_states input (inputs spec) (routes_at rs input)) (sym more)
      (by-place (λ k. k < count + 1 → LeadTo spec row_states k (inputs spec) (routes_at (old ++ r ∷ []) k)) count input
      (λ l. subst (λ (q : InputRoutes). LeadTo spec row_states count (inputs spec) q) (sym (at-last old r no_routes count are.long)) (subst (λ n. LeadTo spec row_states count n r) whole lead))
      (λ ne l.
      let long = are.long in
      let within : input < count = omega (arith, l, ne) in
      subst (λ (q : InputRoutes). LeadTo spec row_states input (inputs spec) q) (sym (at-before old r no_routes input (omega (arith, within, long)))) (are.each input within)) lt);
}
