-- The steps of a script one by one: each that is enabled is allowed, and what is left of the streams goes with it.
use Rattle.std.proofs.Common.{ℕ, zero, suc, ◌+◌, ◌<◌, Bool, true, false, List, [], ◌∷◌, ◌++◌, ◌≡◌, Option, Some, None, is_some, if◌then◌else◌, length, get_or, set, slice_get, refl, sym, ap, ◌∙◌, subst, inl, inr, arith, append_assoc, append-nil}
use Rattle.std.proofs.lemmas.Bool.{cases_eq}
use Rattle.std.proofs.lemmas.List.{get_or-set_other, get_or-set_same, length-set}
use Rattle.pj_value.proofs.Numbers.{has-in}
use Rattle.pj_pattern.specs.declared.element.Element.{Element}
use Rattle.pj_events.specs.declared.events.Entry.{Entry}
use Rattle.pj_events.specs.declared.events.Event.TheVariants.{Take as Taken, Give as Given, Sweep as Swept, Drain as Drained}
use Rattle.pj_events.specs.Join.{In, has}
use Rattle.pj_events.specs.Plan.{ArePlanned, Node}
use Rattle.pj_events.specs.History.{nodes_from, streams_of}
use Rattle.pj_events.specs.OneThread.{Pending, Turn, arrival_of, next_probe, plain, turns_of}
use Rattle.pj_laws.specs.HistoryLaws.{AllAreCertified, AreAcceptedLists, schema_at}
use Rattle.pj_laws.proofs.Histories.{nodes-append}
use Rattle.pj_laws.proofs.Probes.{AreActsLegal}
use Rattle.pj_laws.proofs.Rounds.{AreTagged, all-at, all-tagged, length-all}
use Rattle.pj_script.specs.declared.step.ScriptStep.{ScriptStep}
use Rattle.pj_script.specs.declared.step.ScriptStep.TheVariants.{Arrive, Take, Give, Sweep, Drain}
use Rattle.pj_script.specs.Playing.{AllFit, FitsPlan, Played, all_left, arrival_if, behind, give_if, left_behind, listed, play, refused_at, step_entry, take_if, under_way_at, without_turn}
use Rattle.pj_script_laws.proofs.Acts.{IsGoing, acts-follow, input-of, may-give, may-sweep, may-take, next-pending}
use Rattle.pj_script_laws.proofs.Gives.{under-way}
use Rattle.pj_script_laws.proofs.Arrivals.{Arrives, Leaves, follow-leaves, others-stay, turn-arrives}

-- the history goes on, and these turns are left of each stream
pub record Stands (plan : List Node) (lists : List (List Element)) (h : List Entry) (left : List (List Turn)) : Type 0 where
  pub going : IsGoing plan h
  pub each : (s : ℕ) → s < length (streams_of plan) → Leaves plan lists h s (get_or left s [])
  pub long : length left ≡ length (streams_of plan)
  pub tagged : AreTagged 0 left

in-without : (t : Turn) (turns : List Turn) → In t (without_turn turns) → In t turns
in-without t [] i = i
in-without t (u ∷ turns) i = inr i

tagged-set : (k : ℕ) (left : List (List Turn)) (i : ℕ) → AreTagged k left → AreTagged k (set left i (without_turn (get_or left i [])))
tagged-set k [] i a = tt
tagged-set k (turns ∷ left) zero a = (λ t m. a.0 t (in-without t turns m), a.1)
tagged-set k (turns ∷ left) (suc i) a = (a.0, tagged-set (k + 1) left i a.1)

module _ (plan : List Node) (planned : ArePlanned [] plan) (lists : List (List Element)) (accepted : AreAcceptedLists plan lists) where
  -- at the start all is left
  pub start-stands : Stands plan lists [] (all_left plan lists)
  start-stands = record {
    going = record { legal = tt; on = refl };
    each = λ s lt. inl (record { later = get_or lists s []; turns_are = whole s lt; parts = refl; unclosed = refl });
    long = length-all plan 0 (streams_of plan) lists;
    tagged = all-tagged plan 0 (streams_of plan) lists;
  }
    where
      whole : (s : ℕ) → s < length (streams_of plan) → get_or (all_left plan lists) s [] ≡ turns_of s (schema_at plan s) (get_or lists s [])
      whole s lt =
          let z : 0 + s ≡ s = omega arith in
          all-at plan 0 s (length plan) (streams_of plan) lists lt ∙ ap (λ (n : ℕ). turns_of n (schema_at plan s) (get_or lists s [])) z

  -- entries that bring nothing leave the streams as they are
  pub act-stands : (h es : List Entry) (left : List (List Turn)) → Stands plan lists h left → AreActsLegal (nodes_from plan h) es → Stands plan lists (h ++ es) left
  act-stands h es left s acts =
      let f = acts-follow plan h es s.going acts in
      record { going = f.going; each = λ i lt. follow-leaves plan planned lists accepted h es i (get_or left i []) f (s.each i lt); long = s.long; tagged = s.tagged }

  arrive-stands : (h : List Entry) (left : List (List Turn)) (stream : ℕ) (t : Turn) (turns : List Turn) → Stands plan lists h left → stream < length (streams_of plan) → get_or left stream [] ≡ t ∷ turns
      → Stands plan lists (h ++ arrival_of t ∷ []) (set left stream (without_turn (get_or left stream [])))
  arrive-stands h left stream t turns s lt e = record {
    going = a.going;
    each = each;
    long = length-set left stream (without_turn (get_or left stream [])) ∙ s.long;
    tagged = tagged-set 0 left stream s.tagged;
  }
    where
      a : Arrives plan lists h stream t turns
      a = turn-arrives plan planned lists accepted h stream t turns s.going lt (subst (Leaves plan lists h stream) e (s.each stream lt))

      there : stream < length left
      there = let l = s.long in omega (arith, l, lt)

      each : (i : ℕ) → i < length (streams_of plan) → Leaves plan lists (h ++ arrival_of t ∷ []) i (get_or (set left stream (without_turn (get_or left stream []))) i [])
      each i l = elim (cases_eq i stream) [
        | inl q ↦ subst (λ (k : ℕ). Leaves plan lists (h ++ arrival_of t ∷ []) k (get_or (set left stream (without_turn (get_or left stream []))) k [])) (sym q)
            (subst (Leaves plan lists (h ++ arrival_of t ∷ []) stream) (sym (get_or-set_same left stream (without_turn (get_or left stream [])) [] there ∙ ap without_turn e)) a.leaves)
        | inr ne ↦ subst (Leaves plan lists (h ++ arrival_of t ∷ []) i) (sym (get_or-set_other left stream i (without_turn (get_or left stream [])) [] ne))
            (others-stay plan planned lists accepted h t i (get_or left i []) (λ q. ne (sym q ∙ a.stream)) (s.each i l))
      ]

  module _ (certified : AllAreCertified plan) where
    -- a step that is enabled
    step-stands : (h : List Entry) (left : List (List Turn)) (step : ScriptStep) (entry : Entry) → Stands plan lists h left → FitsPlan plan step → step_entry (nodes_from plan h) left step ≡ Some entry
        → Stands plan lists (h ++ entry ∷ []) (left_behind left step)
    step-stands h left (Arrive stream) entry s fit e = go (get_or left stream []) refl e
      where
        go : (turns : List Turn) → get_or left stream [] ≡ turns → arrival_if (slice_get turns 0) ≡ Some entry → Stands plan lists (h ++ entry ∷ []) (set left stream (without_turn (get_or left stream [])))
        go [] w q = cc
        go (t ∷ turns) w q =
            let same : arrival_of t ≡ entry = cc q in
            subst (λ (x : Entry). Stands plan lists (h ++ x ∷ []) (set left stream (without_turn (get_or left stream [])))) same (arrive-stands h left stream t turns s fit w)
    step-stands h left Take entry s fit e = go (next_probe (nodes_from plan h)) refl e
      where
        go : (o : Option Pending) → next_probe (nodes_from plan h) ≡ o → take_if o ≡ Some entry → Stands plan lists (h ++ entry ∷ []) left
        go None w q = cc
        go (Some p) w q =
            let same : plain (Taken p.join p.ticket) ≡ entry = cc q in
            subst (λ (x : Entry). Stands plan lists (h ++ x ∷ []) left) same
            (act-stands h (plain (Taken p.join p.ticket) ∷ []) left s (tt, refl, may-take plan planned h p.join p.ticket (next-pending (nodes_from plan h) p w), tt))
    step-stands h left (Give join ticket) entry s fit e = go (has (under_way_at (nodes_from plan h) join) ticket) refl e
      where
        go : (b : Bool) → has (under_way_at (nodes_from plan h) join) ticket ≡ b → give_if b join ticket ≡ Some entry → Stands plan lists (h ++ entry ∷ []) left
        go false w q = cc
        go true w q =
            let same : plain (Given join ticket) ≡ entry = cc q in
            let way = under-way plan planned h join ticket (has-in (under_way_at (nodes_from plan h) join) ticket w) in
            subst (λ (x : Entry). Stands plan lists (h ++ x ∷ []) left) same
            (act-stands h (plain (Given join ticket) ∷ []) left s (tt, refl, may-give plan planned h join ticket fit way.0 way.1, tt))
    step-stands h left (Sweep join input) entry s fit e =
        let same : plain (Swept join input) ≡ entry = cc e in
        subst (λ (x : Entry). Stands plan lists (h ++ x ∷ []) left) same
        (act-stands h (plain (Swept join input) ∷ []) left s (tt, refl, may-sweep plan planned certified h join input s.going (input-of plan planned join input fit.0 fit.1), tt))
    step-stands h left Drain entry s fit e =
        let same : plain Drained ≡ entry = cc e in
        subst (λ (x : Entry). Stands plan lists (h ++ x ∷ []) left) same (act-stands h (plain Drained ∷ []) left s (tt, refl, tt, tt))

    -- all steps, up to the first that is not enabled
    pub play-stands : (steps : List (ℕ × ScriptStep)) (h : List Entry) (left : List (List Turn)) → Stands plan lists h left → AllFit plan steps
        → Stands plan lists (h ++ (play (nodes_from plan h) left steps).entries) (play (nodes_from plan h) left steps).left
    play-stands [] h left s fit = subst (λ (g : List Entry). Stands plan lists g left) (sym (append-nil h)) s
    play-stands ((line, step) ∷ steps) h left s fit =
        go (step_entry (nodes_from plan h) left step) (λ entry e. play-stands steps (h ++ entry ∷ []) (left_behind left step) (step-stands h left step entry s fit.0 e) fit.1)
      where
        N : List Node
        N = nodes_from plan h

        made : Option Entry → Played
        made o = if is_some o then behind (listed o) (play (nodes_from N (listed o)) (left_behind left step) steps) else refused_at line left

        go : (o : Option Entry)
            → ((entry : Entry) → o ≡ Some entry
            → Stands plan lists ((h ++ entry ∷ []) ++ (play (nodes_from plan (h ++ entry ∷ [])) (left_behind left step) steps).entries) (play (nodes_from plan (h ++ entry ∷ [])) (left_behind left step) steps).left)
            → Stands plan lists (h ++ (made o).entries) (made o).left
        go None ih = subst (λ (g : List Entry). Stands plan lists g left) (sym (append-nil h)) s
        go (Some entry) ih =
            subst (λ (ns : List Node). Stands plan lists (h ++ (entry ∷ (play ns (left_behind left step) steps).entries)) (play ns (left_behind left step) steps).left) (nodes-append plan h (entry ∷ []))
            (subst (λ (g : List Entry). Stands plan lists g (play (nodes_from plan (h ++ entry ∷ [])) (left_behind left step) steps).left)
            (append_assoc h (entry ∷ []) (play (nodes_from plan (h ++ entry ∷ [])) (left_behind left step) steps).entries)
            (ih entry refl))
