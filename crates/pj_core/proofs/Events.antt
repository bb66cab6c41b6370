-- An event at a core: a local step at one node, and the climb of what it hands up.
use Rattle.std.proofs.Common.{ℕ, zero, suc, ◌+◌, ◌<◌, ◌≤◌, max, Bool, false, cond, if◌then◌else◌, List, [], ◌∷◌, ◌++◌, ◌≡◌, ◌⊎◌, Option, Some, None, map, length, get_or, set, refl, sym, ap, ap₂, ◌∙◌, subst, inl, inr, arith, append_assoc}
use Rattle.std.proofs.Math.Seq.{map-set_same}
use Rattle.std.proofs.lemmas.Bool.{cases_eq}
use Rattle.std.proofs.lemmas.List.{get_or-map, get_or-set_other, get_or-set_same, set-get_or}
use Rattle.std.proofs.Math.ListN as lists
use Rattle.pj_pattern.specs.declared.element.Element.{Element}
use Rattle.pj_events.specs.declared.events.Entry.{Entry}
use Rattle.pj_events.specs.declared.events.Event.{Event}
use Rattle.pj_events.specs.declared.events.Out.{Out}
use Rattle.pj_events.specs.Plan.{Operator, Node, Local, after, hands, nowhere, operator_at}
use Rattle.pj_events.specs.History.{IsEntryAllowed, closed_after, halted_after, nodes_from, notes_of, out_of, reached_of, stop_after}
use Rattle.pj_events.specs.Outcomes.{Level, arrivals_at, beyond_of, climb, goes_beyond, origin_of, stored_at, way_up}
use Rattle.pj_events.specs.CoreKept.{CoreKept, count_of}
use Rattle.pj_laws.specs.Climb.{Climbed, climb_of, climbed_by, climbed_where, local_of, stepped}
use Rattle.pj_laws.specs.ClimbKept.{handed_by, undrained_with}
use Rattle.pj_laws.specs.ClimbLimits.{begun_by, begun_where}
use Rattle.pj_laws.proofs.ClimbingKept.{stores-grow, stored_of}
use Rattle.pj_laws.proofs.ClimbingLimits.{beyond-is-climbed, levels-climb}
use Rattle.pj_laws.proofs.Nodes.{counts-from}
use Rattle.pj_laws.proofs.Probes.{length-from}
use Rattle.pj_join_laws.proofs.Upto.{get_or-upto}
use Rattle.pj_operator.specs.declared.operator.RunningOperator.{RunningOperator}
use Rattle.pj_operator.specs.Operators.{AreAs, Frame, HaveLimit, IsAs, Kind, running_at, count_seen, counted_by, frame_of, frames_in, kept_seen, no_operator, peak_seen, stored_kept}
use Rattle.pj_operator.specs.Emitting.{Emits, GoBeyond, HaveCounted, Leaves, StaysAs, count_at, kind_at}
use Rattle.pj_core.specs.Cores.{StandsFor}
use Rattle.pj_core.specs.Parts.{IsMadeOf, core_of}
use Rattle.pj_core.specs.Plans.{RunPlan, nodes_of}
use Rattle.pj_operator.proofs.Emits.{as-set, long-frames, same-frame}
use Rattle.pj_core.proofs.Frames.{limits-of}
use Rattle.pj_core.proofs.Planned.{tree}
use Rattle.pj_core.proofs.Stands.{are, counted-kind, kept-is, noted, stored-is}
use Rattle.pj_operator.proofs.Ways.{way-past}

-- ---- a local step

pub stepped-set : (nodes : List Node) (n : ℕ) (l : Local) → stepped nodes n l ≡ set nodes n (record { inputs = (get_or nodes n nowhere).inputs; operator = after (operator_at nodes n) l })
stepped-set [] n l = refl
stepped-set (node ∷ nodes) zero l = refl
stepped-set (node ∷ nodes) (suc n) l = ap (λ (ns : List Node). node ∷ ns) (stepped-set nodes n l)

-- the nodes after a local step of one of them, and what is counted as before
pub record Steps (operators mid : List RunningOperator) (nodes : List Node) (n : ℕ) (l : Local) : Type 0 where
  pub stands : AreAs mid (stepped nodes n l)
  pub counts : (m : ℕ) → m < length operators → count_at mid m ≡ count_at operators m
  pub frames : frames_in mid ≡ frames_in operators
  pub peaks : (m : ℕ) → m < length operators
      → (((running_at mid m).peak ≡ (running_at operators m).peak) × (stored_at nodes m ≤ stored_at (stepped nodes n l) m)) ⊎ ((running_at mid m).peak ≡ peak_seen (running_at operators m))

-- the peak stays where the step removes nothing, or it is raised before
abbrev pub KeepsPeak : ℕ → RunningOperator → Operator → Operator → Type 0
KeepsPeak peak operator before behind = ((peak ≡ operator.peak) × (stored_of before ≤ stored_of behind)) ⊎ (peak ≡ peak_seen operator)

pub steps-at : (operators : List RunningOperator) (nodes : List Node) (n : ℕ) (l : Local) (operator : RunningOperator) → AreAs operators nodes → n < length operators → IsAs operator.state (after (operator_at nodes n) l)
    → frame_of operator ≡ frame_of (running_at operators n) → count_seen operator ≡ count_at operators n → KeepsPeak operator.peak (running_at operators n) (operator_at nodes n) (after (operator_at nodes n) l)
    → Steps operators (set operators n operator) nodes n l
steps-at operators nodes n l operator A lt is frame count peak = record {
  stands = subst (λ (ns : List Node). AreAs (set operators n operator) ns) (sym (stepped-set nodes n l)) (as-set operators nodes n operator next A lt refl is frame);
  counts = λ m l'. elim (cases_eq m n) [
    | inl q ↦ subst (λ (k : ℕ). count_at (set operators n operator) k ≡ count_at operators k) (sym q) (ap count_seen (get_or-set_same operators n operator no_operator lt) ∙ count)
    | inr ne ↦ ap count_seen (get_or-set_other operators n m operator no_operator ne)
  ];
  frames = map-set_same frame_of operators n operator no_operator frame;
  peaks = λ m l'. elim (cases_eq m n) [
    | inl q ↦ subst (Peaks (set operators n operator)) (sym q) (here peak)
    | inr ne ↦ inl (
      ap (λ (c : RunningOperator). c.peak) (get_or-set_other operators n m operator no_operator ne),
      (let e = ap (λ (x : Node). stored_of x.operator) (sym (get_or-set_other nodes n m next nowhere ne)) ∙ ap (λ (ns : List Node). stored_at ns m) (sym (stepped-set nodes n l)) in omega (arith, e)),
    )
  ];
}
  where
    next : Node
    next = record { inputs = (get_or nodes n nowhere).inputs; operator = after (operator_at nodes n) l }

    Peaks : List RunningOperator → ℕ → Type 0
    Peaks mid m = (((running_at mid m).peak ≡ (running_at operators m).peak) × (stored_at nodes m ≤ stored_at (stepped nodes n l) m)) ⊎ ((running_at mid m).peak ≡ peak_seen (running_at operators m))

    stored : stored_of (after (operator_at nodes n) l) ≡ stored_at (stepped nodes n l) n
    stored = ap (λ (x : Node). stored_of x.operator) (sym (get_or-set_same nodes n next nowhere (omega (arith, lt, A.long)))) ∙ ap (λ (ns : List Node). stored_at ns n) (sym (stepped-set nodes n l))

    at : (running_at (set operators n operator) n).peak ≡ operator.peak
    at = ap (λ (c : RunningOperator). c.peak) (get_or-set_same operators n operator no_operator lt)

    here : KeepsPeak operator.peak (running_at operators n) (operator_at nodes n) (after (operator_at nodes n) l) → Peaks (set operators n operator) n
    here (inl p) = inl (at ∙ p.0, let le = p.1 in omega (arith, le, stored))
    here (inr p) = inr (at ∙ p)

-- a step that leaves an operator as it is
pub steps-still : (operators : List RunningOperator) (nodes : List Node) (n : ℕ) (l : Local) → AreAs operators nodes → n < length operators → IsAs (running_at operators n).state (after (operator_at nodes n) l)
    → stored_of (operator_at nodes n) ≤ stored_of (after (operator_at nodes n) l) → Steps operators operators nodes n l
steps-still operators nodes n l A lt is le =
    subst (λ (mid : List RunningOperator). Steps operators mid nodes n l) (set-get_or operators n no_operator) (steps-at operators nodes n l (running_at operators n) A lt is refl refl (inl (refl, le)))

module _ (plan : RunPlan) (limit : ℕ) (operators : List RunningOperator) (made : IsMadeOf plan limit operators) (c : List ℕ) (halt : Bool) (u : List Out) (history : List Entry) (S : StandsFor (core_of plan limit operators c halt u None) history)
    (event : Event) (n : ℕ) (l : Local) (local : local_of event ≡ Some l) (at : origin_of (nodes_from (nodes_of plan) history) event ≡ n)
    (mid : List RunningOperator) (step : Steps operators mid (nodes_from (nodes_of plan) history) n l) where
  abbrev nodes : List Node
  nodes = nodes_from (nodes_of plan) history

  abbrev up : List Element
  up = hands (operator_at nodes n) l

  pub climb-is : climb_of nodes event ≡ climbed_by nodes n l
  climb-is = ap₂ (climbed_where nodes) at local

  abbrev reached : ℕ → ℕ
  reached m = length (arrivals_at (nodes_of plan) history m)

  -- each node has counted what reached it
  counted-is : HaveCounted operators reached
  counted-is m lt =
      let z : 0 + m ≡ m = omega arith in
      let A = are plan limit operators made c halt u history S in
      let l : m < length (nodes_of plan) = omega (arith, lt, A.long, length-from (nodes_of plan) history) in
      sym (get_or-map count_seen operators m no_operator 0 lt)
      ∙ ap (λ (ns : List ℕ). get_or ns m 0) (ap (λ (k : CoreKept). k.counts) (kept-is plan limit operators made c halt u history S))
      ∙ get_or-upto (count_of (nodes_of plan) history) 0 (length (nodes_of plan)) m 0 l
      ∙ ap (count_of (nodes_of plan) history) z
      ∙ ap (λ (b : Bool). if b then reached m else 0) (sym (counts-from (nodes_of plan) history m l))
      ∙ counted-kind (kind_at operators m) (operator_at nodes m) (reached m) (A.each m lt).kind

  kinds-are : (m : ℕ) → kind_at mid m ≡ kind_at operators m
  kinds-are m = ap (λ (f : Frame). f.kind) (same-frame operators mid m step.frames)

  counted-mid : HaveCounted mid reached
  counted-mid m lt =
      let l : m < length operators = omega (arith, lt, long-frames operators mid step.frames) in
      step.counts m l ∙ counted-is m l ∙ ap (λ (k : Kind). counted_by k (reached m)) (sym (kinds-are m))

  -- where the event goes beyond the limit
  pub beyond-is : (o : Option ℕ) → GoBeyond mid n up o → goes_beyond limit (nodes_of plan) history event ≡ o
  beyond-is o G =
      beyond-is-climbed limit (nodes_of plan) (tree plan made.0) history event
      ∙ ap (λ (i : ℕ). beyond_of (climb (length nodes) limit (way_up reached 0 i nodes) (begun_by nodes event))) at
      ∙ ap₂ (λ (levels : List Level) (es : List Element). beyond_of (climb (length nodes) limit levels es)) ways begun
      ∙ G limit (subst (HaveLimit limit) (sym (step.frames ∙ made.2)) (limits-of plan limit)) reached counted-mid (stepped nodes n l) step.stands (length nodes) fits
    where
      A : AreAs operators nodes
      A = are plan limit operators made c halt u history S

      begun : begun_by nodes event ≡ up
      begun = ap₂ (λ (i : ℕ) (o : Option Local). begun_where (operator_at nodes i) o) at local

      ways : way_up reached 0 n nodes ≡ way_up reached 0 n (stepped nodes n l)
      ways =
          way-past reached reached 0 n n nodes (record { inputs = (get_or nodes n nowhere).inputs; operator = after (operator_at nodes n) l }) A.tree.behind (omega arith) refl (λ m gt lt. refl)
          ∙ ap (way_up reached 0 n) (sym (stepped-set nodes n l))

      fits : length (way_up reached 0 n (stepped nodes n l)) ≤ length nodes
      fits = let f = (levels-climb (stepped nodes n l) step.stands.tree reached limit).fits n in let a = step.stands.long in let b = long-frames operators mid step.frames in omega (arith, f, a, b, A.long)

  -- the peaks behind the event
  peaks-are : (new : List RunningOperator) → StaysAs mid new → AreAs new (climbed_by nodes n l).nodes → (m : ℕ) → m < length operators
      → peak_seen (running_at new m) ≡ max (peak_seen (running_at operators m)) (stored_at (climbed_by nodes n l).nodes m)
  peaks-are new stays B m lt = go (step.peaks m lt)
    where
      raw : (running_at new m).peak ≡ (running_at mid m).peak
      raw = sym (lists.get_or-map (λ (operator : RunningOperator). operator.peak) new m no_operator) ∙ ap (λ (ps : List ℕ). get_or ps m 0) stays.peaks ∙ lists.get_or-map (λ (operator : RunningOperator). operator.peak) mid m no_operator

      now : stored_kept (kept_seen (running_at new m).state) ≡ stored_at (climbed_by nodes n l).nodes m
      now = stored-is new (climbed_by nodes n l).nodes m B (let a = long-frames mid new stays.frames in let b = long-frames operators mid step.frames in omega (arith, lt, a, b))

      before : stored_kept (kept_seen (running_at operators m).state) ≡ stored_at nodes m
      before = stored-is operators nodes m (are plan limit operators made c halt u history S) lt

      grown : stored_at (stepped nodes n l) m ≤ stored_at (climbed_by nodes n l).nodes m
      grown = stores-grow (stepped nodes n l) n up m

      go : (((running_at mid m).peak ≡ (running_at operators m).peak) × (stored_at nodes m ≤ stored_at (stepped nodes n l) m)) ⊎ ((running_at mid m).peak ≡ peak_seen (running_at operators m))
          → peak_seen (running_at new m) ≡ max (peak_seen (running_at operators m)) (stored_at (climbed_by nodes n l).nodes m)
      go (inl same) = let e = same.0 in let le = same.1 in omega (arith, raw, now, before, grown, e, le)
      go (inr raised) = omega (arith, raw, now, raised)

  -- the event is noted
  pub note : (new : List RunningOperator) (c' : List ℕ) (outs u' : List Out) (closing : ℕ)
      → IsEntryAllowed (reached_of false (nodes_of plan) history) (record { event = event; seat = 0; closing = closing })
      → outs ≡ u ++ cond plan.trace (notes_of nodes event) [] → Emits (record { operators = mid; outs = outs }) (record { operators = new; outs = u' }) n up → StaysAs mid new
      → c' ≡ closed_after c closing event → ((old more : List Out) → undrained_with old more event ≡ old ++ more) → halted_after halt event ≡ halt → stop_after None event ≡ None
      → StandsFor (core_of plan limit new c' halt u' None) (history ++ record { event = event; seat = 0; closing = closing } ∷ [])
  note new c' outs u' closing allowed begun C stays closed hands halts stops =
      noted plan limit operators made c halt u history S (record { event = event; seat = 0; closing = closing }) new c' halt u' allowed
      (record {
        long = long-frames mid new stays.frames ∙ long-frames operators mid step.frames;
        stands = subst (λ (k : Climbed). AreAs new k.nodes) (sym climb-is) L.stands;
        counts = λ m lt.
            L.counts m (let a = long-frames operators mid step.frames in omega (arith, lt, a))
            ∙ ap₂ (λ (i : ℕ) (k : Kind). i + counted_by k (length (get_or (climbed_by nodes n l).brought m []))) (step.counts m lt) (kinds-are m)
            ∙ ap (λ (k : Climbed). count_at operators m + counted_by (kind_at operators m) (length (get_or k.brought m []))) (sym climb-is);
        peaks = λ m lt. peaks-are new stays L.stands m lt ∙ ap (λ (k : Climbed). max (peak_seen (running_at operators m)) (stored_at k.nodes m)) (sym climb-is);
        closed = closed;
        undrained = L.hands ∙ ap (λ (outs : List Out). outs ++ map out_of (climbed_by nodes n l).left.elements) begun
            ∙ append_assoc u (cond plan.trace (notes_of nodes event) []) (map out_of (climbed_by nodes n l).left.elements)
            ∙ ap (λ (k : Climbed). u ++ (cond plan.trace (notes_of nodes event) [] ++ map out_of k.left.elements)) (sym climb-is)
            ∙ sym (hands u (handed_by plan.trace nodes event));
        halts = sym halts;
        stops = stops;
      })
    where
      L : Leaves (record { operators = mid; outs = outs }) (record { operators = new; outs = u' }) (climbed_by nodes n l)
      L = C.emits (stepped nodes n l) step.stands
