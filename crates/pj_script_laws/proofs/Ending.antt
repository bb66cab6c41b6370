-- Behind the script: what is under way is given, the run is settled, and the streams that are left take turns until all is complete.
use Rattle.std.proofs.Common.{ℕ, ◌<◌, Bool, true, false, cond, List, [], ◌∷◌, ◌++◌, ◌≡◌, length, refl, sym, ap, ◌∙◌, subst, inl, inr, arith, append_assoc, append-nil}
use Rattle.std.proofs.lemmas.Bool.{cases_eq, eq-eqb, ne_eqb}
use Rattle.pj_pattern.specs.declared.element.Element.{Element}
use Rattle.pj_pattern.specs.declared.element.Element.TheVariants.{Tuple, Punct}
use Rattle.pj_events.specs.Patterns.{all_wild}
use Rattle.pj_events.specs.declared.events.Entry.{Entry}
use Rattle.pj_events.specs.declared.events.Event.TheVariants.{Drain}
use Rattle.pj_events.specs.Join.{In, IsSettled, has}
use Rattle.pj_events.specs.Plan.{ArePlanned, Node}
use Rattle.pj_events.specs.History.{IsComplete, IsLegal, join_at, nodes_from, reached_of, streams_of}
use Rattle.pj_events.specs.Outcomes.{elements_of}
use Rattle.pj_events.specs.OneThread.{Turn, arrival_of, follow_up, in_rounds, places_from, plain, probes, sweeps_at, turn_entries, turns_entries, turns_of}
use Rattle.pj_laws.specs.HistoryLaws.{AllAreCertified, AreAcceptedLists, closed_list, schema_at}
use Rattle.pj_laws.specs.SettlingHistories.{EachTakeIsGiven, IsSettling}
use Rattle.pj_laws.proofs.Histories.{nodes-append}
use Rattle.pj_laws.proofs.Nodes.{drain-still}
use Rattle.pj_laws.proofs.Probes.{AreActsLegal}
use Rattle.pj_laws.proofs.Rounds.{in_rounds-below, mine, mine-in_rounds}
use Rattle.pj_laws.proofs.SettlingHistories.{settling-is-complete}
use Rattle.pj_script.specs.Playing.{finished, gives, goes_on, settled}
use Rattle.pj_script_laws.proofs.Tickets.{AreEven, even-append, even-on, even-probed, even-swept}
use Rattle.pj_script_laws.proofs.Acts.{Follow, IsGoing, acts-follow, finish-allowed, follow-allowed, work-allowed, worked}
use Rattle.pj_script_laws.proofs.Gives.{gives-allowed, gives-even}
use Rattle.pj_script_laws.proofs.Arrivals.{Arrives, Leaves, follow-leaves, others-stay, turn-arrives}
use Rattle.pj_script_laws.proofs.Steps.{Stands}

-- ---- takes and gives of turns

even-finished : (nodes : List Node) → AreEven (finished nodes)
even-finished nodes =
    let after : List Node = nodes_from nodes (probes nodes) in
    even-append (probes nodes ++ sweeps_at after (places_from 0 after)) (plain Drain ∷ [])
    (even-append (probes nodes) (sweeps_at after (places_from 0 after)) (even-probed nodes) (even-swept after (places_from 0 after))) (λ n us vs w. w)

even-follow : (nodes : List Node) (e : Element) → AreEven (follow_up true nodes e)
even-follow nodes (Tuple row) = even-append (probes nodes ++ []) (plain Drain ∷ []) (even-append (probes nodes) [] (even-probed nodes) (λ n us vs w. w)) (λ n us vs w. w)
even-follow nodes (Punct patterns) = even-finished nodes

even-turn : (nodes : List Node) (t : Turn) → AreEven (turn_entries true nodes t)
even-turn nodes t =
    let here : List Entry = arrival_of t ∷ [] in
    even-append here (follow_up true (nodes_from nodes here) t.element) (λ n us vs w. w) (even-follow (nodes_from nodes here) t.element)

-- ---- turns

-- the history goes on, and these turns, in this order, are left of all streams
pub record Turning (plan : List Node) (lists : List (List Element)) (h : List Entry) (turns : List Turn) : Type 0 where
  pub going : IsGoing plan h
  pub each : (s : ℕ) → s < length (streams_of plan) → Leaves plan lists h s (mine s turns)
  pub below : (t : Turn) → In t turns → t.stream < length (streams_of plan)

-- the turns that are left, in rounds
pub of-rounds : (plan : List Node) (lists : List (List Element)) (h : List Entry) (left : List (List Turn)) → Stands plan lists h left → Turning plan lists h (in_rounds left)
of-rounds plan lists h left s = record {
  going = s.going;
  each = λ i lt. subst (Leaves plan lists h i) (sym (mine-in_rounds i left s.tagged (let l = s.long in omega (arith, lt, l)))) (s.each i lt);
  below = λ t m. (let b = in_rounds-below left s.tagged t m in let l = s.long in omega (arith, b, l));
}

-- a stream of which no turn is left has ended
pub record HasAll (plan : List Node) (lists : List (List Element)) (h : List Entry) (s : ℕ) : Type 0 where
  pub arrived : elements_of s h ≡ closed_list plan lists s
  pub closed : has (reached_of false plan h).closed s ≡ true

pub ended-at : (plan : List Node) (lists : List (List Element)) (h : List Entry) (s : ℕ) → Leaves plan lists h s [] → HasAll plan lists h s
ended-at plan lists h s (inr e) = record { arrived = e.whole; closed = e.closed }
ended-at plan lists h s (inl o) = never o.later o.turns_are
  where
    never : (later : List Element) → [] ≡ turns_of s (schema_at plan s) later → HasAll plan lists h s
    never [] q = absurd (omega (arith, ap length q))
    never (e ∷ later) q = absurd (omega (arith, ap length q))

-- all arrived, and the history is complete
pub record Ends (plan : List Node) (lists : List (List Element)) (h : List Entry) : Type 0 where
  pub turning : Turning plan lists h []
  pub complete : IsComplete plan h

-- the one turn that is left of a stream is its closing
closing-left : (plan : List Node) (lists : List (List Element)) (h : List Entry) (s : ℕ) (t : Turn) → Leaves plan lists h s (t ∷ []) → t.element ≡ Punct (all_wild (length (schema_at plan s)))
closing-left plan lists h s t (inr e) = absurd (omega (arith, ap length e.none))
closing-left plan lists h s t (inl o) = go o.later o.turns_are
  where
    go : (later : List Element) → t ∷ [] ≡ turns_of s (schema_at plan s) later → t.element ≡ Punct (all_wild (length (schema_at plan s)))
    go [] q = let same : t ≡ record { stream = s; element = Punct (all_wild (length (schema_at plan s))); closing = 1 } = cc q in ap (λ (u : Turn). u.element) same
    go (e ∷ []) q = absurd (omega (arith, ap length q))
    go (e ∷ f ∷ later) q = absurd (omega (arith, ap length q))

module _ (plan : List Node) (planned : ArePlanned [] plan) (certified : AllAreCertified plan) (lists : List (List Element)) (accepted : AreAcceptedLists plan lists) where
  -- entries that bring nothing
  turning-follow : (h es : List Entry) (turns : List Turn) → Turning plan lists h turns → AreActsLegal (nodes_from plan h) es → Turning plan lists (h ++ es) turns
  turning-follow h es turns k acts =
      let f = acts-follow plan h es k.going acts in
      record { going = f.going; each = λ s lt. follow-leaves plan planned lists accepted h es s (mine s turns) f (k.each s lt); below = k.below }

  -- the arrival of the next turn
  arrived : (h : List Entry) (t : Turn) (turns : List Turn) → Turning plan lists h (t ∷ turns) → Turning plan lists (h ++ arrival_of t ∷ []) turns
  arrived h t turns k = record { going = a.going; each = each; below = λ u m. k.below u (inr m) }
    where
      lt : t.stream < length (streams_of plan)
      lt = k.below t (inl refl)

      first : mine t.stream (t ∷ turns) ≡ t ∷ mine t.stream turns
      first = ap (λ (b : Bool). cond b (t ∷ mine t.stream turns) (mine t.stream turns)) (eq-eqb t.stream t.stream refl)

      a : Arrives plan lists h t.stream t (mine t.stream turns)
      a = turn-arrives plan planned lists accepted h t.stream t (mine t.stream turns) k.going lt (subst (Leaves plan lists h t.stream) first (k.each t.stream lt))

      each : (s : ℕ) → s < length (streams_of plan) → Leaves plan lists (h ++ arrival_of t ∷ []) s (mine s turns)
      each s l = elim (cases_eq t.stream s) [
        | inl q ↦ subst (λ (n : ℕ). Leaves plan lists (h ++ arrival_of t ∷ []) n (mine n turns)) q a.leaves
        | inr ne ↦ others-stay plan planned lists accepted h t s (mine s turns) ne
            (subst (Leaves plan lists h s) (ap (λ (b : Bool). cond b (t ∷ mine s turns) (mine s turns)) (ne_eqb t.stream s ne)) (k.each s l))
      ]

  -- a whole turn behind a history is its arrival and what follows
  turn-parts : (h : List Entry) (t : Turn) → (h ++ arrival_of t ∷ []) ++ follow_up true (nodes_from plan (h ++ arrival_of t ∷ [])) t.element ≡ h ++ turn_entries true (nodes_from plan h) t
  turn-parts h t =
      let here : List Entry = arrival_of t ∷ [] in
      append_assoc h here (follow_up true (nodes_from plan (h ++ here)) t.element)
      ∙ ap (λ (ns : List Node). h ++ (here ++ follow_up true ns t.element)) (nodes-append plan h here)

  turn-made : (h : List Entry) (t : Turn) (turns : List Turn) → Turning plan lists h (t ∷ turns) → Turning plan lists (h ++ turn_entries true (nodes_from plan h) t) turns
  turn-made h t turns k =
      let here : List Entry = h ++ arrival_of t ∷ [] in
      let one : Turning plan lists here turns = arrived h t turns k in
      subst (λ (g : List Entry). Turning plan lists g turns) (turn-parts h t)
      (turning-follow here (follow_up true (nodes_from plan here) t.element) turns one (follow-allowed plan planned certified here t.element one.going))

  -- the turns behind a turn
  turns-parts : (h : List Entry) (t : Turn) (turns : List Turn)
      → (h ++ turn_entries true (nodes_from plan h) t) ++ turns_entries true (nodes_from plan (h ++ turn_entries true (nodes_from plan h) t)) turns ≡ h ++ turns_entries true (nodes_from plan h) (t ∷ turns)
  turns-parts h t turns =
      let here : List Entry = turn_entries true (nodes_from plan h) t in
      append_assoc h here (turns_entries true (nodes_from plan (h ++ here)) turns)
      ∙ ap (λ (ns : List Node). h ++ (here ++ turns_entries true ns turns)) (nodes-append plan h here)

  turns-made : (turns : List Turn) (h : List Entry) → Turning plan lists h turns → Turning plan lists (h ++ turns_entries true (nodes_from plan h) turns) []
  turns-made [] h k = subst (λ (g : List Entry). Turning plan lists g []) (sym (append-nil h)) k
  turns-made (t ∷ turns) h k =
      subst (λ (g : List Entry). Turning plan lists g []) (turns-parts h t turns) (turns-made turns (h ++ turn_entries true (nodes_from plan h) t) (turn-made h t turns k))

  -- ---- complete histories

  -- where every stream is closed and every take has its give, all probes and all sweeps settle the history
  abbrev Settles : Type 0
  Settles =
      (h : List Entry) → IsLegal plan h → ((s : ℕ) → s < length (streams_of plan) → has (reached_of false plan h).closed s ≡ true) → EachTakeIsGiven plan h
      → IsSettling plan (h ++ worked (nodes_from plan h))

  and-drained : (h : List Entry) → IsGoing plan h → IsComplete plan h → IsComplete plan (h ++ plain Drain ∷ [])
  and-drained h g c = record {
    closed = λ s lt. ap (λ (ns : List ℕ). has ns s) f.closed ∙ c.closed s lt;
    settled = λ n lt. subst (λ (ns : List Node). IsSettled (join_at ns n)) (sym (nodes-append plan h (plain Drain ∷ []) ∙ drain-still (nodes_from plan h))) (c.settled n lt);
    on = f.going.on;
  }
    where
      f : Follow plan h (plain Drain ∷ [])
      f = acts-follow plan h (plain Drain ∷ []) g (tt, refl, tt, tt)

  finish-complete : Settles → (h : List Entry) → Turning plan lists h [] → EachTakeIsGiven plan h → IsComplete plan (h ++ finished (nodes_from plan h))
  finish-complete settles h k given =
      subst (IsComplete plan) (append_assoc h (worked (nodes_from plan h)) (plain Drain ∷ []))
      (and-drained (h ++ worked (nodes_from plan h)) f.going
      (settling-is-complete plan planned certified (h ++ worked (nodes_from plan h)) f.going.legal f.going.on
      (settles h k.going.legal (λ s lt. (ended-at plan lists h s (k.each s lt)).closed) given)))
    where
      f : Follow plan h (worked (nodes_from plan h))
      f = acts-follow plan h (worked (nodes_from plan h)) k.going (work-allowed plan planned certified h k.going)

  -- the last turn is a closing, and settles the history
  last-complete : Settles → (h : List Entry) (t : Turn) → Turning plan lists h (t ∷ []) → EachTakeIsGiven plan h → IsComplete plan (h ++ turn_entries true (nodes_from plan h) t)
  last-complete settles h t k given =
      subst (IsComplete plan) (turn-parts h t)
      (subst (λ (e : Element). IsComplete plan (here ++ follow_up true (nodes_from plan here) e)) (sym closes)
      (finish-complete settles here (arrived h t [] k) (even-on plan planned h (arrival_of t ∷ []) given (λ n us vs w. w))))
    where
      here : List Entry
      here = h ++ arrival_of t ∷ []

      closes : t.element ≡ Punct (all_wild (length (schema_at plan t.stream)))
      closes =
          closing-left plan lists h t.stream t
          (subst (Leaves plan lists h t.stream) (ap (λ (b : Bool). cond b (t ∷ []) []) (eq-eqb t.stream t.stream refl)) (k.each t.stream (k.below t (inl refl))))

  turns-complete : Settles → (turns : List Turn) (t : Turn) (h : List Entry) → Turning plan lists h (t ∷ turns) → EachTakeIsGiven plan h → IsComplete plan (h ++ turns_entries true (nodes_from plan h) (t ∷ turns))
  turns-complete settles [] t h k given = subst (λ (es : List Entry). IsComplete plan (h ++ es)) (sym (append-nil (turn_entries true (nodes_from plan h) t))) (last-complete settles h t k given)
  turns-complete settles (u ∷ turns) t h k given =
      let here : List Entry = turn_entries true (nodes_from plan h) t in
      subst (IsComplete plan) (turns-parts h t (u ∷ turns))
      (turns-complete settles turns u (h ++ here) (turn-made h t (u ∷ turns) k) (even-on plan planned h here given (even-turn (nodes_from plan h) t)))

  -- ---- the whole ending

  pub goes-on-ends : Settles → (h : List Entry) (left : List (List Turn)) → Stands plan lists h left → Ends plan lists (h ++ goes_on (nodes_from plan h) left)
  goes-on-ends settles h left s = record { turning = turning; complete = complete }
    where
      N : List Node
      N = nodes_from plan h

      h1 : List Entry
      h1 = h ++ gives N

      N1 : List Node
      N1 = nodes_from N (gives N)

      cut1 : nodes_from plan h1 ≡ N1
      cut1 = nodes-append plan h (gives N)

      given1 : Turning plan lists h1 (in_rounds left)
      given1 = turning-follow h (gives N) (in_rounds left) (of-rounds plan lists h left s) (gives-allowed plan planned h s.going)

      h2 : List Entry
      h2 = h ++ settled N

      cut2 : h1 ++ finished (nodes_from plan h1) ≡ h2
      cut2 = append_assoc h (gives N) (finished (nodes_from plan h1)) ∙ ap (λ (ns : List Node). h ++ (gives N ++ finished ns)) cut1

      settled2 : Turning plan lists h2 (in_rounds left)
      settled2 =
          subst (λ (g : List Entry). Turning plan lists g (in_rounds left)) cut2
          (turning-follow h1 (finished (nodes_from plan h1)) (in_rounds left) given1 (finish-allowed plan planned certified h1 given1.going))

      even1 : EachTakeIsGiven plan h1
      even1 = gives-even plan planned h s.going

      even2 : EachTakeIsGiven plan h2
      even2 = subst (EachTakeIsGiven plan) cut2 (even-on plan planned h1 (finished (nodes_from plan h1)) even1 (even-finished (nodes_from plan h1)))

      parts : (turns : List Turn) → h2 ++ turns_entries true (nodes_from plan h2) turns ≡ h ++ (settled N ++ turns_entries true (nodes_from N (settled N)) turns)
      parts turns = append_assoc h (settled N) (turns_entries true (nodes_from plan h2) turns) ∙ ap (λ (ns : List Node). h ++ (settled N ++ turns_entries true ns turns)) (nodes-append plan h (settled N))

      turning : Turning plan lists (h ++ goes_on N left) []
      turning = subst (λ (g : List Entry). Turning plan lists g []) (parts (in_rounds left)) (turns-made (in_rounds left) h2 settled2)

      complete : IsComplete plan (h ++ goes_on N left)
      complete = subst (IsComplete plan) (parts (in_rounds left)) (go (in_rounds left) given1 settled2)
        where
          go : (turns : List Turn) → Turning plan lists h1 turns → Turning plan lists h2 turns → IsComplete plan (h2 ++ turns_entries true (nodes_from plan h2) turns)
          go [] k1 k2 = subst (IsComplete plan) (cut2 ∙ sym (append-nil h2)) (finish-complete settles h1 k1 even1)
          go (t ∷ turns) k1 k2 = turns-complete settles turns t h2 k2 even2
