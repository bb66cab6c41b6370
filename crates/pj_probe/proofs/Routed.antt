-- Routes of probes that are made step by step.
use Rattle.std.proofs.Common.{ℕ, zero, suc, ◌+◌, ◌-◌, ◌<◌, ◌==◌, Bool, true, false, ◌||◌, List, [], ◌∷◌, ◌++◌, ◌≡◌, ◌⊎◌, Option, Some, None, set, take, length, get_or, refl, sym, ap, ◌∙◌, subst, inl, inr, arith}
use Rattle.std.specs.Arc.{arc_value}
use Rattle.std.specs.List.{list_any, slice_get}
use Rattle.std.specs.Prelude.{IfSome}
use Rattle.std.proofs.lemmas.Bool.{cases_lt, eqb-true, eq-eqb, or_cases, or_left, or_right}
use Rattle.std.proofs.lemmas.List.{length-append, length-map, take_more}
use Rattle.std.proofs.lemmas.List.Folds.{list_any-append}
use Rattle.std.proofs.lemmas.Option.{get_or_from_slice_get, slice_get_within}
use Rattle.pj_value.proofs.Members.{In-append_cases, in-place}
use Rattle.pj_state.specs.States.{StateView}
use Rattle.pj_events.specs.Join.{ClassCol, In}
use Rattle.pj_probe.specs.Routes.{AreBegun, AreInClasses, AreOwnLinks, AreProbeRoutes, AreReached, AreRoutesTo, AreSteps, InOneClass, IsLinkOf, IsOwnLink, IsProbeRoute, IsRoute, IsStep, LeadsTo, LinksDecide, columns_of, is_reached}
use Rattle.pj_rows.proofs.Indexed.{indexed-in}
use Rattle.pj_probe.specs.declared.route.ProbeLink.{ProbeLink}
use Rattle.pj_probe.specs.declared.route.ProbeStep.{ProbeStep}
use Rattle.pj_probe.specs.declared.route.ProbeRoute.{ProbeRoute}

-- ---- inputs that are reached

-- with one step more its input is reached too
pub reached_by : (own : ℕ) (steps : List ProbeStep) (step : ProbeStep) (k : ℕ) → is_reached own (steps ++ step ∷ []) k ≡ true → (is_reached own steps k ≡ true) ⊎ (step.input ≡ k)
reached_by own steps step k t = elim (or_cases (list_any (λ s. s.input == k) (steps ++ step ∷ [])) (own == k) t) [
  | inl a ↦ elim (or_cases (list_any (λ s. s.input == k) steps) ((step.input == k) || false) (sym (list_any-append (λ (s : ProbeStep). s.input == k) steps (step ∷ [])) ∙ a)) [
    | inl b ↦ inl (or_left (list_any (λ s. s.input == k) steps) (own == k) b)
    | inr b ↦ inr (eqb-true step.input k (one (step.input == k) b))
  ]
  | inr a ↦ inl (or_right (list_any (λ s. s.input == k) steps) (own == k) a)
]
  where
    one : (b : Bool) → (b || false) ≡ true → b ≡ true
    one true e = refl
    one false e = e

-- those before stay reached
pub reached_before : (own : ℕ) (steps more : List ProbeStep) (k : ℕ) → is_reached own steps k ≡ true → is_reached own (steps ++ more) k ≡ true
reached_before own steps more k t = elim (or_cases (list_any (λ s. s.input == k) steps) (own == k) t) [
  | inl a ↦ or_left (list_any (λ s. s.input == k) (steps ++ more)) (own == k) (list_any-append (λ (s : ProbeStep). s.input == k) steps more ∙ or_left (list_any (λ s. s.input == k) steps) (list_any (λ s. s.input == k) more) a)
  | inr a ↦ or_right (list_any (λ s. s.input == k) (steps ++ more)) (own == k) a
]

pub reached_now : (own : ℕ) (steps : List ProbeStep) (step : ProbeStep) → is_reached own (steps ++ step ∷ []) step.input ≡ true
reached_now own steps step =
    or_left (list_any (λ s. s.input == step.input) (steps ++ step ∷ [])) (own == step.input)
    (list_any-append (λ (s : ProbeStep). s.input == step.input) steps (step ∷ [])
    ∙ or_right (list_any (λ s. s.input == step.input) steps) ((step.input == step.input) || false) (or_left (step.input == step.input) false (eq-eqb step.input step.input refl)))

-- the own input is
pub own_reached : (own : ℕ) (steps : List ProbeStep) → is_reached own steps own ≡ true
own_reached own steps = or_right (list_any (λ s. s.input == own) steps) (own == own) (eq-eqb own own refl)

-- what the own input reaches, more steps reach
pub reached_from_own : (own : ℕ) (steps : List ProbeStep) (k : ℕ) → is_reached own [] k ≡ true → is_reached own steps k ≡ true
reached_from_own own steps k t = or_right (list_any (λ s. s.input == k) steps) (own == k) t

-- ---- one step more

get-append : {A : Type 0} (xs : List A) (v w : A) (k : ℕ) → slice_get (xs ++ v ∷ []) k ≡ Some w → ((slice_get xs k ≡ Some w) × (take k (xs ++ v ∷ []) ≡ take k xs)) ⊎ ((v ≡ w) × (take k (xs ++ v ∷ []) ≡ xs) × (k ≡ length xs))
get-append [] v w zero e = inr (some e, refl, refl)
  where
    some : {B : Type 0} {a b : B} → Some a ≡ Some b → a ≡ b
    some q = cc
get-append [] v w (suc k) e = absurd (omega (arith, slice_get_within (v ∷ []) (suc k) w e))
get-append (x ∷ xs) v w zero e = inl (e, refl)
get-append {A} (x ∷ xs) v w (suc k) e = elim (get-append xs v w k e) [
  | inl (a, b) ↦ inl (a, ap (λ (ys : List A). x ∷ ys) b)
  | inr (a, b, c) ↦ inr (a, ap (λ (ys : List A). x ∷ ys) b, ap suc c)
]

steps-more : (columns : List (List ℕ)) (own : ℕ) (steps : List ProbeStep) (step : ProbeStep) → AreSteps columns own steps → IsStep columns own steps step → AreSteps columns own (steps ++ step ∷ [])
steps-more columns own steps step are is i s at = elim (get-append steps step s i at) [
  | inl (a, b) ↦ subst (λ (before : List ProbeStep). IsStep columns own before s) (sym b) (are i s a)
  | inr (a, b, c) ↦ subst (λ (before : List ProbeStep). IsStep columns own before s) (sym b) (subst (λ (t : ProbeStep). IsStep columns own steps t) a is)
]

classes-more : (classes : List (List ClassCol)) (steps : List ProbeStep) (step : ProbeStep) → AreInClasses classes steps → IfSome step.link (InOneClass classes step.input) → AreInClasses classes (steps ++ step ∷ [])
classes-more classes steps step are is s h = elim (In-append_cases s steps (step ∷ []) h) [
  | inl a ↦ are s a
  | inr b ↦ elim b [ inl e ↦ subst (λ (t : ProbeStep). IfSome t.link (InOneClass classes t.input)) e is | inr n ↦ absurd n ]
]

pub begun_none : (classes : List (List ClassCol)) (columns : List (List ℕ)) (own : ℕ) (steps : List ProbeStep) → steps ≡ [] → AreBegun classes columns own steps
begun_none classes columns own steps e = subst (λ (ss : List ProbeStep). AreBegun classes columns own ss) (sym e) none
  where
    none : AreBegun classes columns own []
    none = record { ordered = λ i s at. absurd (omega (arith, slice_get_within [] i s at)); classes_have = λ s h. absurd h }

-- with one step more
begun-more : (classes : List (List ClassCol)) (row_states : List StateView) (own : ℕ) (steps new : List ProbeStep) (step : ProbeStep) → AreBegun classes (columns_of row_states) own steps → step.input < length row_states
    → is_reached own steps step.input ≡ false → IfSome step.link (InOneClass classes step.input) → IfSome step.link (LeadsTo (get_or (columns_of row_states) step.input []) own steps) → new ≡ steps ++ step ∷ [] → AreBegun classes (columns_of row_states) own new
begun-more classes row_states own steps new step begun lt other class leads e = subst (λ (ss : List ProbeStep). AreBegun classes (columns_of row_states) own ss) (sym e) record {
  ordered = steps-more (columns_of row_states) own steps step begun.ordered (record { there = omega (arith, lt, length-map row_states (λ (s : StateView). s.columns)); other = other; link = leads });
  classes_have = classes-more classes steps step begun.classes_have class;
}

-- a step by a link
pub begun_linked : (classes : List (List ClassCol)) (row_states : List StateView) (own : ℕ) (steps new : List ProbeStep) (input : ℕ) (link : ProbeLink) → AreBegun classes (columns_of row_states) own steps → input < length row_states → false ≡ is_reached own steps input
    → InOneClass classes input link → LeadsTo (get_or (columns_of row_states) input []) own steps link → new ≡ steps ++ record { input = input; link = Some link } ∷ [] → AreBegun classes (columns_of row_states) own new
begun_linked classes row_states own steps new input link begun lt other class leads e = begun-more classes row_states own steps new (record { input = input; link = Some link }) begun lt (sym other) class leads e

-- a step to an input whose rows are all looked at
pub begun_plain : (classes : List (List ClassCol)) (row_states : List StateView) (own : ℕ) (steps new : List ProbeStep) (input : ℕ) → AreBegun classes (columns_of row_states) own steps → input < length row_states → false ≡ is_reached own steps input
    → new ≡ steps ++ record { input = input; link = None } ∷ [] → AreBegun classes (columns_of row_states) own new
begun_plain classes row_states own steps new input begun lt other e = begun-more classes row_states own steps new (record { input = input; link = None }) begun lt (sym other) tt tt e

-- one input more is reached
pub reached_more : (own count : ℕ) (steps : List ProbeStep) → AreReached count own steps → true ≡ is_reached own steps count → AreReached (count + 1) own steps
reached_more own count steps all here k lt = elim (cases_lt k count) [
  | inl l ↦ all k l
  | inr ge ↦ subst (λ n. is_reached own steps n ≡ true) (omega (arith, lt, ge)) (sym here)
]

pub reached_by_step : (own count : ℕ) (steps new : List ProbeStep) (link : Option ProbeLink) → AreReached count own steps → new ≡ steps ++ record { input = count; link = link } ∷ [] → AreReached (count + 1) own new
reached_by_step own count steps new link all e =
    reached_more own count new (λ k lt. subst (λ (ss : List ProbeStep). is_reached own ss k ≡ true) (sym e) (reached_before own steps (record { input = count; link = link } ∷ []) k (all k lt)))
    (sym (subst (λ (ss : List ProbeStep). is_reached own ss count ≡ true) (sym e) (reached_now own steps (record { input = count; link = link }))))

-- ---- links

pub link_found : (class : List ClassCol) (own : ℕ) (steps : List ProbeStep) (input mine i : ℕ) (d : ClassCol) → In (record { input = input; column = mine }) class → i < length class → true ≡ is_reached own steps (get_or class i d).input
    → IsLinkOf class own steps input (record { index_column = mine; from_input = (get_or class i d).input; from_column = (get_or class i d).column })
link_found class own steps input mine i d there lt reached = record { mine = there; theirs = in-place class d i lt; from = sym reached }

pub class_there : (classes : List (List ClassCol)) (class : List ClassCol) (i : ℕ) → i < length classes → class ≡ get_or classes i class → In class classes
class_there classes class i lt is = subst (λ (c : List ClassCol). In c classes) (sym is) (in-place classes class i lt)

pub link_by_class : (classes : List (List ClassCol)) (class : List ClassCol) (i own : ℕ) (steps : List ProbeStep) (input : ℕ) (link : ProbeLink) → i < length classes → class ≡ get_or classes i class → IsLinkOf class own steps input link → InOneClass classes input link
link_by_class classes class i own steps input link lt is of = (class, class_there classes class i lt is, of.mine, of.theirs)

-- the columns of a state are those of its input
pub columns_at : (row_states : List StateView) (k : ℕ) (d : StateView) → k < length row_states → get_or (columns_of row_states) k [] ≡ (get_or row_states k d).columns
columns_at [] k d lt = absurd (omega (arith, lt))
columns_at (t ∷ ts) zero d lt = refl
columns_at (t ∷ ts) (suc k) d lt = columns_at ts k d (omega (arith, lt))

-- a link to a column of which the state keeps an index
pub link_leads : (row_states : List StateView) (state : StateView) (own : ℕ) (steps : List ProbeStep) (input : ℕ) (link : ProbeLink) (b : Bool) → input < length row_states → state ≡ get_or row_states input state → is_reached own steps link.from_input ≡ true
    → b ≡ true → b ≡ list_any (λ c. link.index_column == c) state.columns → LeadsTo (get_or (columns_of row_states) input []) own steps link
link_leads row_states state own steps input link b lt at from t is = record { from = from; indexed = subst (λ (cs : List ℕ). In link.index_column cs) (sym (columns_at row_states input state lt ∙ ap (λ (s : StateView). s.columns) (sym at))) (indexed-in link.index_column state.columns (sym is ∙ t)) }

-- ---- a whole route

pub route_made : (classes : List (List ClassCol)) (row_states : List StateView) (own : ℕ) (route : ProbeRoute) → AreBegun classes (columns_of row_states) own route.steps → AreReached (length row_states) own route.steps
    → AreOwnLinks classes (columns_of row_states) own route.links → (route.decides ≡ true → LinksDecide classes own route.links) → arc_value route.checks ≡ classes → IsProbeRoute classes (columns_of row_states) own route
route_made classes row_states own route begun all links decides checks = record {
  leads = record { ordered = begun.ordered; all = λ k lt. all k (omega (arith, lt, length-map row_states (λ (s : StateView). s.columns))) };
  classes_have = begun.classes_have;
  links_lead = links;
  decides = decides;
  checks = checks;
}

-- ---- the links of two inputs

pub own_links_none : (classes : List (List ClassCol)) (columns : List (List ℕ)) (own : ℕ) (links : List ProbeLink) → links ≡ [] → AreOwnLinks classes columns own links
own_links_none classes columns own links e link h = absurd (subst (λ (ls : List ProbeLink). In link ls) e h)

-- the link of one class more
pub own_link_more : (classes : List (List ClassCol)) (row_states : List StateView) (state : StateView) (own other : ℕ) (class : List ClassCol) (link : ProbeLink) (old new : List ProbeLink) (b : Bool) → AreOwnLinks classes (columns_of row_states) own old → length row_states ≡ 2 → In class classes
    → other ≡ 1 - own → IsLinkOf class own [] other link → state ≡ get_or row_states other state → b ≡ true → b ≡ list_any (λ c. link.index_column == c) state.columns → new ≡ old ++ link ∷ [] → AreOwnLinks classes (columns_of row_states) own new
own_link_more classes row_states state own other class link old new b are two there is of at t told e l h = elim (In-append_cases l old (link ∷ []) (subst (λ (ls : List ProbeLink). In l ls) e h)) [
  | inl before ↦ are l before
  | inr now ↦ elim now [ inl same ↦ subst (λ (m : ProbeLink). IsOwnLink classes (columns_of row_states) own m) same it | inr n ↦ absurd n ]
]
  where
    leads : LeadsTo (get_or (columns_of row_states) other []) own [] link
    leads = link_leads row_states state own [] other link b (omega (arith, two, is)) at of.from t told

    it : IsOwnLink classes (columns_of row_states) own link
    it = record {
      from = sym (eqb-true own link.from_input of.from);
      class_has = subst (λ n. InOneClass classes n link) is (class, there, of.mine, of.theirs);
      indexed = subst (λ n. In link.index_column (get_or (columns_of row_states) n [])) is leads.indexed;
    }

pub routes_more : (classes : List (List ClassCol)) (columns : List (List ℕ)) (own : ℕ) (routes new : List ProbeRoute) (route : ProbeRoute) → AreRoutesTo classes columns own routes → IsProbeRoute classes columns own route → new ≡ routes ++ route ∷ [] → AreRoutesTo classes columns (own + 1) new
routes_more classes columns own routes new route are is e = subst (λ (rs : List ProbeRoute). AreRoutesTo classes columns (own + 1) rs) (sym e) record {
  count = omega (arith, length-append routes (route ∷ []), are.count);
  each = λ k r at. elim (get-append routes route r k at) [
    | inl (a, b) ↦ are.each k r a
    | inr (a, b, c) ↦ subst (λ (n : ℕ). IsProbeRoute classes columns n r) (sym (c ∙ are.count)) (subst (λ (q : ProbeRoute). IsProbeRoute classes columns own q) a is)
  ];
}

pub routes_none : (classes : List (List ClassCol)) (columns : List (List ℕ)) (routes : List ProbeRoute) → routes ≡ [] → AreRoutesTo classes columns 0 routes
routes_none classes columns routes e = subst (λ (rs : List ProbeRoute). AreRoutesTo classes columns 0 rs) (sym e) record { count = refl; each = λ k r at. absurd (omega (arith, slice_get_within [] k r at)) }

-- ---- the steps of a route

pub steps_with : (steps : List ProbeStep) (i : ℕ) (step : ProbeStep) → slice_get steps i ≡ Some step → take (i + 1) steps ≡ take i steps ++ step ∷ []
steps_with steps i step at = take_more steps i step (slice_get_within steps i step at) ∙ ap (λ (t : ProbeStep). take i steps ++ t ∷ []) (get_or_from_slice_get steps i step step at)

pub step_there : (own : ℕ) (row_states : List StateView) (steps : List ProbeStep) (i : ℕ) (step : ProbeStep) → IsRoute (columns_of row_states) own steps → slice_get steps i ≡ Some step → step.input < length row_states
step_there own row_states steps i step route at = omega (arith, (route.ordered i step at).there, length-map row_states (λ (s : StateView). s.columns))

-- ---- the routes of a join

pub route_there : (classes : List (List ClassCol)) (row_states : List StateView) (routes : List ProbeRoute) (own : ℕ) → AreProbeRoutes classes (columns_of row_states) routes → own < length row_states → own < length routes
route_there classes row_states routes own are lt = omega (arith, lt, are.count, length-map row_states (λ (s : StateView). s.columns))

-- it is right by the classes that its checks were made of, which are those of the join
pub route_at : (classes : List (List ClassCol)) (row_states lent : List StateView) (routes : List ProbeRoute) (own : ℕ) (route : ProbeRoute) → AreProbeRoutes classes (columns_of row_states) routes → lent ≡ row_states → slice_get routes own ≡ Some route
    → IsProbeRoute (arc_value route.checks) (columns_of lent) own route
route_at classes row_states lent routes own route are same at =
    subst (λ (cs : List (List ClassCol)). IsProbeRoute cs (columns_of lent) own route) (sym (are.each own route at).checks)
    (subst (λ (ss : List StateView). IsProbeRoute classes (columns_of ss) own route) (sym same) (are.each own route at))

pub route_classes : (classes : List (List ClassCol)) (row_states : List StateView) (routes : List ProbeRoute) (own : ℕ) (route : ProbeRoute) → AreProbeRoutes classes (columns_of row_states) routes → slice_get routes own ≡ Some route → arc_value route.checks ≡ classes
route_classes classes row_states routes own route are at = (are.each own route at).checks

-- a state with the same columns
pub routes_kept : (classes : List (List ClassCol)) (row_states : List StateView) (routes : List ProbeRoute) (k : ℕ) (s s' : StateView) → AreProbeRoutes classes (columns_of row_states) routes → k < length row_states → s ≡ get_or row_states k s → s'.columns ≡ s.columns
    → AreProbeRoutes classes (columns_of (set row_states k s')) routes
routes_kept classes row_states routes k s s' are lt at same = subst (λ (cs : List (List ℕ)). AreProbeRoutes classes cs routes) (sym (kept row_states k lt at)) are
  where
    kept : (ss : List StateView) (n : ℕ) → n < length ss → s ≡ get_or ss n s → columns_of (set ss n s') ≡ columns_of ss
    kept [] n l e = absurd (omega (arith, l))
    kept (t ∷ ts) zero l e = ap (λ (cs : List ℕ). cs ∷ columns_of ts) (same ∙ ap (λ (u : StateView). u.columns) e)
    kept (t ∷ ts) (suc n) l e = ap (λ (cs : List (List ℕ)). t.columns ∷ cs) (kept ts n (omega (arith, l)) e)
