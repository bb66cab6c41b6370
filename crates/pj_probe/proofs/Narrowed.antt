-- The step that leads to the fewest rows of the other one of two inputs.
use Rattle.std.proofs.Common.{◌≡◌, ℕ, zero, suc, ◌-◌, ◌<◌, true, false, List, [], ◌∷◌, Option, Some, None, IfSome, length, get_or, inl, inr, refl, sym, subst, ◌∙◌, arith}
use Rattle.std.specs.Arc.{arc_value}
use Rattle.std.proofs.lemmas.List.{length-map}
use Rattle.std.proofs.lemmas.Bool.{eq-eqb}
use Rattle.pj_state.specs.declared.shared.Stored.{Stored}
use Rattle.pj_state.specs.States.{StateView}
use Rattle.pj_events.specs.Join.{In, TupleAt, Value}
use Rattle.pj_rows.specs.Tuples.{AreWide, state_at}
use Rattle.pj_probe.specs.Hops.{FindAll, FindSame}
use Rattle.pj_probe.specs.Partners.{AreLinkedTo, ArePartners}
use Rattle.pj_probe.specs.Routes.{AreInClasses, AreSteps, InOneClass, IsOwnStep, IsProbeRoute, IsRoute, IsStep, LeadsTo, columns_of, is_reached}
use Rattle.pj_probe.specs.declared.route.ProbeLink.{ProbeLink}
use Rattle.pj_probe.specs.declared.route.ProbeRoute.{ProbeRoute}
use Rattle.pj_probe.specs.declared.route.ProbeStep.{ProbeStep}
use Rattle.pj_probe.proofs.Partners.{link_indexed, partners_found}

-- a link of the route gives such a step
pub own_step : (own input count : ℕ) (route : ProbeRoute) (link : ProbeLink) (links : List ProbeLink) → count ≡ 2 → input ≡ 1 - own → links ≡ route.links → In link links → IsOwnStep count own route (record { input = input; link = Some link })
own_step own input count route link links two other same has = record { two = two; other = other; link = link; by_link = refl; of_route = subst (In link) same has }

some_same : (a b : ProbeLink) → Some a ≡ Some b → a ≡ b
some_same a b e = cc

other_apart : (own n : ℕ) → own < 2 → n ≡ 1 - own → is_reached own [] n ≡ false
other_apart zero n lt e = rw e refl
other_apart (suc zero) n lt e = rw e refl
other_apart (suc (suc own)) n lt e = absurd (omega (arith, lt))

itself_reached : (own n : ℕ) → n ≡ own → is_reached own [] n ≡ true
itself_reached own n e = eq-eqb own n (sym e)

both_reached : (own k : ℕ) (step : ProbeStep) → own < 2 → step.input ≡ 1 - own → k < 2 → is_reached own (step ∷ []) k ≡ true
both_reached zero zero step lt e less = rw e refl
both_reached zero (suc zero) step lt e less = rw e refl
both_reached (suc zero) zero step lt e less = rw e refl
both_reached (suc zero) (suc zero) step lt e less = rw e refl
both_reached (suc (suc own)) k step lt e less = absurd (omega (arith, lt))
both_reached own (suc (suc k)) step lt e less = absurd (omega (arith, less))

-- it is a route of two inputs
pub own_step_route : (own : TupleAt) (row_states : List StateView) (route : ProbeRoute) (step : ProbeStep) → own.input < length row_states → IsProbeRoute (arc_value route.checks) (columns_of row_states) own.input route → IsOwnStep (length row_states) own.input route step
    → IsRoute (columns_of row_states) own.input (step ∷ [])
own_step_route own row_states route step lt right is = record {
  ordered = ordered;
  all = λ k less. both_reached own.input k step own_less is.other (omega (arith, less, count));
}
  where
    own_less : own.input < 2
    own_less = omega (arith, lt, is.two)

    count : length (columns_of row_states) ≡ 2
    count = length-map row_states (λ (s : StateView). s.columns) ∙ is.two

    leads : LeadsTo (get_or (columns_of row_states) step.input []) own.input [] is.link
    leads = record {
      from = itself_reached own.input is.link.from_input (right.links_lead is.link is.of_route).from;
      indexed = subst (λ n. In is.link.index_column (get_or (columns_of row_states) n [])) (sym is.other) (right.links_lead is.link is.of_route).indexed;
    }

    first : IsStep (columns_of row_states) own.input [] step
    first = record {
      there = omega (arith, is.other, count);
      other = other_apart own.input step.input own_less is.other;
      link = subst (λ (o : Option ProbeLink). IfSome o (LeadsTo (get_or (columns_of row_states) step.input []) own.input [])) (sym is.by_link) leads;
    }

    ordered : AreSteps (columns_of row_states) own.input (step ∷ [])
    ordered zero other e = let same : step ≡ other = cc in subst (IsStep (columns_of row_states) own.input []) same first
    ordered (suc i) other e = absurd (cc)

-- whose link is in a class
own_step_classes : (own : ℕ) (columns : List (List ℕ)) (count : ℕ) (route : ProbeRoute) (step : ProbeStep) → IsProbeRoute (arc_value route.checks) columns own route → IsOwnStep count own route step → AreInClasses (arc_value route.checks) (step ∷ [])
own_step_classes own columns count route step right is other (inl e) = subst (λ (s : ProbeStep). IfSome s.link (InOneClass (arc_value route.checks) s.input)) e own_is
  where
    in_class : InOneClass (arc_value route.checks) step.input is.link
    in_class = subst (λ n. InOneClass (arc_value route.checks) n is.link) (sym is.other) (right.links_lead is.link is.of_route).class_has

    own_is : IfSome step.link (InOneClass (arc_value route.checks) step.input)
    own_is = subst (λ (o : Option ProbeLink). IfSome o (InOneClass (arc_value route.checks) step.input)) (sym is.by_link) in_class
own_step_classes own columns count route step right is other (inr k) = absurd k

-- by it all is found
pub narrow_same : (own : TupleAt) (row_states : List StateView) (route : ProbeRoute) (step : ProbeStep) (lists : List (List (ℕ × List Value))) → IsProbeRoute (arc_value route.checks) (columns_of row_states) own.input route → IsOwnStep (length row_states) own.input route step
    → FindAll own row_states (step ∷ []) lists → FindSame (arc_value route.checks) own row_states lists
narrow_same own row_states route step lists right is found = found (arc_value route.checks) (own_step_classes own.input (columns_of row_states) (length row_states) route step right is)

pub own_step_there : (own : TupleAt) (row_states : List StateView) (route : ProbeRoute) (step : ProbeStep) → IsOwnStep (length row_states) own.input route step → step.input < length row_states
own_step_there own row_states route step is = omega (arith, is.two, is.other)

-- an index is kept for it
pub own_step_indexed : (own : TupleAt) (row_states : List StateView) (route : ProbeRoute) (step : ProbeStep) (link : ProbeLink) → IsProbeRoute (arc_value route.checks) (columns_of row_states) own.input route → IsOwnStep (length row_states) own.input route step → step.link ≡ Some link
    → In link.index_column (state_at row_states step.input).columns
own_step_indexed own row_states route step link right is e =
    let same : is.link ≡ link = some_same is.link link (sym is.by_link ∙ e) in
    link_indexed own row_states route step.input link is.two right is.other (subst (λ (l : ProbeLink). In l route.links) same is.of_route)

-- the rows to which it leads are those among which all are that the tuple is joined with
pub narrow_partners : (own : TupleAt) (row_states : List StateView) (route : ProbeRoute) (step : ProbeStep) (link : ProbeLink) (found : Option (List Stored)) → own.input < length row_states → AreWide row_states → IsProbeRoute (arc_value route.checks) (columns_of row_states) own.input route
    → IsOwnStep (length row_states) own.input route step → step.link ≡ Some link → IfSome found (AreLinkedTo own link (state_at row_states step.input).rows) → IfSome found (ArePartners route own row_states)
narrow_partners own row_states route step link None lt wide right is e linked = tt
narrow_partners own row_states route step link (Some found) lt wide right is e linked =
    let same : is.link ≡ link = some_same is.link link (sym is.by_link ∙ e) in
    partners_found own row_states route step.input link found lt is.two wide right is.other (subst (λ (l : ProbeLink). In l route.links) same is.of_route) linked

-- by the route's own steps it is as well
pub route_same : (own : TupleAt) (row_states : List StateView) (route : ProbeRoute) (steps : List ProbeStep) (lists : List (List (ℕ × List Value))) → IsProbeRoute (arc_value route.checks) (columns_of row_states) own.input route → steps ≡ route.steps
    → FindAll own row_states steps lists → FindSame (arc_value route.checks) own row_states lists
route_same own row_states route steps lists right e found = found (arc_value route.checks) (subst (AreInClasses (arc_value route.checks)) (sym e) right.classes_have)
