-- Settling a hand: all that is under way is given, and then the core is settled.
use Rattle.std.proofs.Common.{ℕ, zero, suc, ◌+◌, Bool, true, false, not, ◌&&◌, ◌||◌, List, [], ◌∷◌, ◌++◌, ◌≡◌, Option, None, eqb, refl, sym, ap, ap₂, ◌∙◌, subst, inl, inr, append_assoc}
use Rattle.std.proofs.lemmas.List.{append-nil}
use Rattle.pj_value.specs.Lists.{has}
use Rattle.pj_events.specs.declared.events.Entry.{Entry}
use Rattle.pj_events.specs.declared.events.Event.TheVariants.{Drain, Take as Taken, Give as Given, Sweep as Swept}
use Rattle.pj_events.specs.declared.events.Out.{Out}
use Rattle.pj_events.specs.declared.events.Stop.{Stop}
use Rattle.pj_events.specs.History.{IsLegal, Reached, begun, nodes_from, reached_of}
use Rattle.pj_events.specs.Limits.{StaysWithin}
use Rattle.pj_events.specs.OneThread.{Place, pending_at, places_from, plain, probes, probes_at, probes_from, sweeps_at}
use Rattle.pj_events.specs.Outcomes.{outputs_of}
use Rattle.pj_events.specs.Plan.{ArePlanned, Node}
use Rattle.pj_laws.proofs.Drains.{AreNoDrains, kept-outs}
use Rattle.pj_laws.proofs.Histories.{nodes-append, outputs-append, reached-append, reached-nodes}
use Rattle.pj_laws.proofs.HistoryAnswers.{fronts-are-legal}
use Rattle.pj_laws.proofs.Limits.{within-append}
use Rattle.pj_laws.proofs.Nodes.{drain-silent}
use Rattle.pj_plan.specs.Sound.{IsSoundPlan}
use Rattle.pj_probe.specs.declared.probe.Found.{Found}
use Rattle.pj_core.specs.Cores.{CoreState, StandsFor, nodes_after, nodes_in}
use Rattle.pj_core.specs.Plans.{RunPlan, nodes_of}
use Rattle.pj_core.specs.Turns.{Finishes, MakesSome, StopsMaking, finishing, working}
use Rattle.pj_core.proofs.Making.{nodes-on, some-behind, some-more, within-as}
use Rattle.pj_core.proofs.Planned.{planned}
use Rattle.pj_script.specs.Playing.{finished, under_way_at}
use Rattle.pj_hand.specs.Hands.{HandState, HandStandsFor, HoldsUnderWay}
use Rattle.pj_hand.specs.Held.{holds}
use Rattle.pj_hand.specs.Settling.{HandMakes, HandStopsMaking, IsSettlingRefused, RefusesMaking, SettlesHand, giving, settling, unsettled}
use Rattle.pj_hand.proofs.Keys.{gives-are, gives_of}
use Rattle.pj_hand.proofs.Standing.{IsNeither}
use Rattle.pj_hand.proofs.UnderWay.{entry-changes}

-- ---- probes that are taken and given leave none under way

module _ (plan : List Node) (made : ArePlanned [] plan) where
  abbrev NoneWay : List Entry → Type 0
  NoneWay h = (n u : ℕ) → has (under_way_at (nodes_from plan h) n) u ≡ false

  -- where none was under way, none is behind these entries
  abbrev Keeps : List Entry → Type 0
  Keeps es = (h : List Entry) → IsLegal plan (h ++ es) → NoneWay h → NoneWay (h ++ es)

  keeps-none : Keeps []
  keeps-none h legal none = subst NoneWay (sym (append-nil h)) none

  keeps-append : (xs ys : List Entry) → Keeps xs → Keeps ys → Keeps (xs ++ ys)
  keeps-append xs ys a b h legal none =
      let again : (h ++ xs) ++ ys ≡ h ++ (xs ++ ys) = append_assoc h xs ys in
      let whole = subst (IsLegal plan) (sym again) legal in
      subst NoneWay again (b (h ++ xs) whole (a h (fronts-are-legal plan (h ++ xs) ys whole) none))

  keeps-neither : (e : Entry) → IsNeither e.event → Keeps (e ∷ [])
  keeps-neither e neither h legal none n u = entry-changes plan made h e legal n u ∙ neither n u (has (under_way_at (nodes_from plan h) n) u) ∙ none n u

  keeps-probe : (j t : ℕ) → Keeps (plain (Taken j t) ∷ plain (Given j t) ∷ [])
  keeps-probe j t h legal none n u =
      ap (λ (g : List Entry). has (under_way_at (nodes_from plan g) n) u) (sym again)
      ∙ entry-changes plan made next (plain (Given j t)) whole n u
      ∙ ap (λ (b : Bool). b && not (eqb j n && eqb t u)) (entry-changes plan made h (plain (Taken j t)) (fronts-are-legal plan next (plain (Given j t) ∷ []) whole) n u ∙ ap (λ (b : Bool). (eqb j n && eqb t u) || b) (none n u))
      ∙ over (eqb j n && eqb t u)
    where
      next : List Entry
      next = h ++ plain (Taken j t) ∷ []

      again : next ++ plain (Given j t) ∷ [] ≡ h ++ plain (Taken j t) ∷ plain (Given j t) ∷ []
      again = append_assoc h (plain (Taken j t) ∷ []) (plain (Given j t) ∷ [])

      whole : IsLegal plan (next ++ plain (Given j t) ∷ [])
      whole = subst (IsLegal plan) (sym again) legal

      over : (b : Bool) → ((b || false) && not b) ≡ false
      over true = refl
      over false = refl

  keeps-probes : (j : ℕ) (ts : List ℕ) → Keeps (probes_at j ts)
  keeps-probes j [] = keeps-none
  keeps-probes j (t ∷ ts) = keeps-append (plain (Taken j t) ∷ plain (Given j t) ∷ []) (probes_at j ts) (keeps-probe j t) (keeps-probes j ts)

  keeps-from : (nodes : List Node) (j n : ℕ) → Keeps (probes_from nodes j n)
  keeps-from nodes j zero = keeps-none
  keeps-from nodes j (suc n) =
      let here = probes_at j (pending_at nodes j) in
      keeps-append here (probes_from (nodes_from nodes here) (j + 1) n) (keeps-probes j (pending_at nodes j)) (keeps-from (nodes_from nodes here) (j + 1) n)

  keeps-all : (nodes : List Node) → Keeps (probes nodes)
  keeps-all nodes = keeps-from nodes 0 _

  keeps-sweeps : (nodes : List Node) (places : List Place) → Keeps (sweeps_at nodes places)
  keeps-sweeps nodes [] = keeps-none
  keeps-sweeps nodes (place ∷ places) =
      let here : List Entry = plain (Swept place.join place.input) ∷ [] in
      let after = here ++ probes (nodes_from nodes here) in
      keeps-append after (sweeps_at (nodes_from nodes after) places)
      (keeps-append here (probes (nodes_from nodes here)) (keeps-neither (plain (Swept place.join place.input)) (λ n u b. refl)) (keeps-all (nodes_from nodes here)))
      (keeps-sweeps (nodes_from nodes after) places)

  keeps-finished : (nodes : List Node) → Keeps (finished nodes)
  keeps-finished nodes =
      let after = nodes_from nodes (probes nodes) in
      let sweeps = sweeps_at after (places_from 0 after) in
      keeps-append (probes nodes ++ sweeps) (plain Drain ∷ []) (keeps-append (probes nodes) sweeps (keeps-all nodes) (keeps-sweeps after (places_from 0 after))) (keeps-neither (plain Drain) (λ n u b. refl))

-- ---- what settling makes

finished-is : (core : CoreState) (h : List Entry) → finished (nodes_after core h) ≡ finishing true core h
finished-is core h =
    ap (λ (ns : List Node). (probes (nodes_after core h) ++ sweeps_at ns (places_from 0 ns)) ++ plain Drain ∷ []) (sym (nodes-append (nodes_in core) h (probes (nodes_after core h))))

settling-is : (old mid : HandState) (h : List Entry) → mid.core.plan ≡ old.core.plan → settling old h ≡ giving old h ++ finishing true mid.core (h ++ giving old h)
settling-is old mid h p =
    ap (λ (es : List Entry). giving old h ++ es) (ap finished (sym (nodes-on old.core mid.core h (giving old h) p)) ∙ finished-is mid.core (h ++ giving old h))

-- all but a drain, and a drain
pub drain-is-last : (hand : HandState) (h : List Entry) → settling hand h ≡ unsettled hand h ++ plain Drain ∷ []
drain-is-last hand h = settling-is hand hand h refl ∙ sym (append_assoc (giving hand h) (working true hand.core (h ++ giving hand h)) (plain Drain ∷ []))

unsettled-is : (old mid : HandState) (h : List Entry) → mid.core.plan ≡ old.core.plan → unsettled old h ≡ giving old h ++ working true mid.core (h ++ giving old h)
unsettled-is old mid h p = ap (λ (plan : RunPlan). giving old h ++ working true (record old.core { plan = plan }) (h ++ giving old h)) (sym p)

gives-quiet : (probes : List Found) → AreNoDrains (gives_of probes)
gives-quiet [] = tt
gives-quiet (p ∷ probes) = (tt, gives-quiet probes)

module _ (old mid new : HandState) (sound : IsSoundPlan old.core.plan.nodes) (m : HandMakes old mid (giving old)) (none : mid.taken ≡ []) where
  -- what the gives hand out stays to be drained
  gained : (h : List Entry) → HandStandsFor old h → mid.core.kept.undrained ≡ old.core.kept.undrained ++ outputs_of old.core.plan.trace (nodes_after old.core h) (giving old h)
  gained h H =
      (m.stands h H).stands.stands.1
      ∙ ap (λ (plan : RunPlan). (reached_of plan.trace (nodes_of plan) (h ++ giving old h)).undrained) m.plan
      ∙ ap (λ (r : Reached). r.undrained) (reached-append old.core.plan.trace (begun (nodes_in old.core)) h (giving old h))
      ∙ kept-outs old.core.plan.trace (reached_of old.core.plan.trace (nodes_in old.core) h) (giving old h) (subst AreNoDrains (sym (gives-are old sound m.on.0 h H)) (gives-quiet old.taken))
      ∙ ap₂ (λ (outs : List Out) (ns : List Node). outs ++ outputs_of old.core.plan.trace ns (giving old h)) (sym H.stands.stands.1) (reached-nodes old.core.plan.trace (begun (nodes_in old.core)) h)

  -- a drain hands out nothing more
  last-drain : (trace : Bool) (ns : List Node) (es : List Entry) → outputs_of trace ns (es ++ plain Drain ∷ []) ≡ outputs_of trace ns es
  last-drain trace ns es =
      outputs-append trace ns es (plain Drain ∷ [])
      ∙ ap (λ (outs : List Out). outputs_of trace ns es ++ (outs ++ [])) (drain-silent trace (nodes_from ns es))
      ∙ append-nil (outputs_of trace ns es)

  module _ (outs : List Out) (f : Finishes true mid.core new.core outs) (held : new.taken ≡ mid.taken) where
    hands : (h : List Entry) → HandStandsFor old h → outs ≡ old.core.kept.undrained ++ outputs_of old.core.plan.trace (nodes_after old.core h) (settling old h)
    hands h H =
        f.hands (h ++ giving old h) (m.stands h H).stands
        ∙ ap (λ (xs : List Out). xs ++ outputs_of mid.core.plan.trace (nodes_after mid.core (h ++ giving old h)) work) (gained h H)
        ∙ ap₂ (λ (t : Bool) (ns : List Node). (old.core.kept.undrained ++ first) ++ outputs_of t ns work) (ap (λ (plan : RunPlan). plan.trace) m.plan) (nodes-on old.core mid.core h (giving old h) m.plan)
        ∙ append_assoc old.core.kept.undrained first (outputs_of trace after work)
        ∙ ap (λ (xs : List Out). old.core.kept.undrained ++ (first ++ xs)) (sym (last-drain trace after work))
        ∙ ap (λ (xs : List Out). old.core.kept.undrained ++ xs) (sym (outputs-append trace (nodes_after old.core h) (giving old h) (work ++ plain Drain ∷ [])))
        ∙ ap (λ (es : List Entry). old.core.kept.undrained ++ outputs_of trace (nodes_after old.core h) es) (sym (settling-is old mid h m.plan))
      where
        trace : Bool
        trace = old.core.plan.trace

        work : List Entry
        work = working true mid.core (h ++ giving old h)

        after : List Node
        after = nodes_from (nodes_after old.core h) (giving old h)

        first : List Out
        first = outputs_of trace (nodes_after old.core h) (giving old h)

    stands : (h : List Entry) → HandStandsFor old h → HandStandsFor new (h ++ settling old h)
    stands h H = subst (HandStandsFor new) (append_assoc h (giving old h) (finishing true mid.core (h ++ giving old h)) ∙ ap (λ (es : List Entry). h ++ es) (sym (settling-is old mid h m.plan))) (record {
      stands = S;
      held = λ on. subst (λ (p : RunPlan). HoldsUnderWay (record { core = record new.core { plan = p }; taken = new.taken }) G') refl (still on);
    })
      where
        G : List Entry
        G = h ++ giving old h

        G' : List Entry
        G' = G ++ finishing true mid.core G

        S : StandsFor new.core G'
        S = f.makes.stands G (m.stands h H).stands

        made : ArePlanned [] (nodes_in mid.core)
        made = planned mid.core.plan (subst (λ (p : RunPlan). IsSoundPlan p.nodes) (sym m.plan) sound)

        before : NoneWay (nodes_in mid.core) made G
        before n u = sym (((m.stands h H).held m.on.1).those n u) ∙ ap (λ (ps : List Found). holds ps n u) none

        behind : NoneWay (nodes_in mid.core) made G'
        behind =
            subst (λ (es : List Entry). NoneWay (nodes_in mid.core) made (G ++ es)) (finished-is mid.core G)
            (keeps-finished (nodes_in mid.core) made (nodes_after mid.core G) G
            (subst (λ (es : List Entry). IsLegal (nodes_in mid.core) (G ++ es)) (sym (finished-is mid.core G)) (subst (λ (p : RunPlan). IsLegal (nodes_of p) G') f.makes.plan S.legal)) before)

        still : new.core.kept.stop ≡ None → HoldsUnderWay new G'
        still on = subst (λ (ps : List Found). HoldsUnderWay (record { core = new.core; taken = ps }) G') (sym (held ∙ none)) (record {
          ordered = tt;
          those = λ n u. sym (ap (λ (p : RunPlan). has (under_way_at (nodes_from (nodes_of p) G') n) u) f.makes.plan ∙ behind n u);
          finds = λ p i. absurd i;
        })

    pub settles : SettlesHand old new outs
    settles = record {
      makes = record {
        on = (m.on.0, f.makes.on);
        plan = f.makes.plan ∙ m.plan;
        limit = f.makes.limit ∙ m.limit;
        within = λ h H.
            subst (StaysWithin old.core.limit (nodes_in old.core) h) (sym (settling-is old mid h m.plan))
            (within-append old.core.limit (nodes_in old.core) h (giving old h) (finishing true mid.core (h ++ giving old h)) (m.within h H)
            (within-as old.core mid.core (h ++ giving old h) (finishing true mid.core (h ++ giving old h)) m.plan m.limit (f.makes.within (h ++ giving old h) (m.stands h H).stands)));
        stands = stands;
      };
      none = held ∙ none;
      undrained = f.undrained;
      hands = hands;
    }

  -- the core stops behind the gives
  pub stops-settling : (stop : Stop) → StopsMaking mid.core new.core (working true mid.core) stop → HandStopsMaking old new (unsettled old) stop
  stops-settling stop s = record {
    plan = s.plan ∙ m.plan;
    limit = s.limit ∙ m.limit;
    stopped = s.stopped;
    stops = λ h H.
        let G = h ++ giving old h in
        subst (λ (es : List Entry). MakesSome old.core new.core h es stop) (sym (unsettled-is old mid h m.plan))
        (some-behind old.core mid.core new.core h (giving old h) (working true mid.core G) stop m.plan m.limit (m.within h H) (s.stops G (m.stands h H).stands));
  }

-- ---- refusals

-- more entries were to come
refuses-more : (old new : HandState) (stop : Stop) → RefusesMaking old new (giving old) stop → IsSettlingRefused None old new stop
refuses-more old new stop (inl s) = inl (record {
  plan = s.plan;
  limit = s.limit;
  stopped = s.stopped;
  stops = λ h H. some-more old.core new.core h (giving old h) (working true old.core (h ++ giving old h)) stop (s.stops h H);
})
refuses-more old new stop (inr l) = inr l

pub settling-refused : (old new : HandState) (stop : Stop) → old.core.kept.stop ≡ None → RefusesMaking old new (giving old) stop → IsSettlingRefused old.core.kept.stop old new stop
settling-refused old new stop on r = subst (λ (o : Option Stop). IsSettlingRefused o old new stop) (sym on) (refuses-more old new stop r)

pub settling-stopped : (old mid new : HandState) (stop : Stop) → IsSoundPlan old.core.plan.nodes → HandMakes old mid (giving old) → mid.taken ≡ [] → StopsMaking mid.core new.core (working true mid.core) stop
    → IsSettlingRefused old.core.kept.stop old new stop
settling-stopped old mid new stop sound m none s = subst (λ (o : Option Stop). IsSettlingRefused o old new stop) (sym m.on.0) (inl (stops-settling old mid new sound m none stop s))
