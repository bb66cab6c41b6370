-- The run on one thread with sweeps is complete.
use Rattle.std.proofs.Common.{cond, map, get_or, inl, ℕ, ◌+◌, ◌<◌, Bool, true, false, Option, Some, None, List, [], ◌∷◌, ◌++◌, ◌≡◌, length, refl, sym, ap, ap₂, ◌∙◌, subst, arith, append_assoc, append-nil}
use Rattle.std.proofs.lemmas.Bool.{false≢true}
use Rattle.pj_events.specs.Join.{In, Tuple, Punct, Element, has}
use Rattle.pj_value.specs.declared.values.Value.{Value}
use Rattle.pj_value.specs.Bags.{SameBag}
use Rattle.pj_events.specs.Outcomes.{rows_out, outputs_of, answer_of}
use Rattle.pj_events.specs.Plan.{IsWellMade, Operator, Stream, Select, Project, Union, Join, Group, Node, Local, Comes, Fed, Own, PlanStep, after, after_all, moved, locals, handed_at, operator_at, ArePlanned}
use Rattle.pj_events.specs.declared.events.Entry.{Entry}
use Rattle.pj_events.specs.declared.events.Event.{Event}
use Rattle.pj_events.specs.declared.events.Stop.{Stop}
use Rattle.pj_events.specs.declared.events.Event.TheVariants.{Arrive, Take as Taken, Give as Given, Sweep as Swept, Drain, Halt, Look, Stopped, Idle}
use Rattle.pj_events.specs.History.{is_stream, streams_from, Reached, begun, next, stop_after, reached_of, reached_from, nodes_from, nodes_by, step_of, streams_of, IsOn, AreEntriesLegal, IsLegal, IsComplete}
use Rattle.pj_events.specs.OneThread.{Place, Turn, is_punct, plain, arrival_of, probes, sweeps_at, places_in, places_from, follow_up, turn_entries, turns_entries, one_thread_of}
use Rattle.pj_laws.specs.HistoryLaws.{OneThreadIsAnswer, AllAreCertified, AreAcceptedLists, IsWholeRun, Certified}
use Rattle.pj_laws.proofs.Histories.{reached-nodes, nodes-append, reached-append}
use Rattle.pj_laws.proofs.Nodes.{drain-still}
use Rattle.pj_laws.proofs.HistoryAnswers.{closings, complete-is-answer}
use Rattle.pj_laws.proofs.Probes.{Rested, AllOperators, AreActsLegal, all-from, acts-append, length-from}
use Rattle.pj_laws.proofs.OneRun.{AllProbed, IsStill, acts-still, sweeps-rest, all-places, certified-from}
use Rattle.pj_laws.proofs.OneThreadAnswer.{all-probed, swept-whole, lists-are}
use Rattle.pj_laws.proofs.LastTurn.{last-turn}
use Rattle.pj_laws.proofs.SettledRun.{NoneWaits, AllRest, IsLate, settles-all}

-- ---- the places of the joins stay

places-after : (n : ℕ) (m : Operator) (l : Local) → places_in n (after m l) ≡ places_in n m
places-after n (Stream schema sent) (Comes k e) = refl
places-after n (Stream schema sent) (Fed e) = refl
places-after n (Stream schema sent) (Own s) = refl
places-after n (Select test) l = refl
places-after n (Project columns) l = refl
places-after n (Union w u) (Comes k e) = refl
places-after n (Union w u) (Fed e) = refl
places-after n (Union w u) (Own s) = refl
places-after n (Join spec s) l = refl
places-after n (Group spec rows) (Comes k e) = refl
places-after n (Group spec rows) (Fed e) = refl
places-after n (Group spec rows) (Own s) = refl

places-all : (n : ℕ) (m : Operator) (ls : List Local) → places_in n (after_all m ls) ≡ places_in n m
places-all n m [] = refl
places-all n m (l ∷ ls) = places-all n (after m l) ls ∙ places-after n m l

places-moved : (n : ℕ) (e : PlanStep) (done : List (List Element)) (nodes : List Node) → places_from n (moved e done nodes) ≡ places_from n nodes
places-moved n e done [] = refl
places-moved n e done (node ∷ nodes) =
    ap₂ (λ (xs ys : List Place). xs ++ ys) (places-all n node.operator (locals e done node)) (places-moved (n + 1) e (done ++ handed_at e done node ∷ []) nodes)

pub places-same : (nodes : List Node) (h : List Entry) → places_from 0 (nodes_from nodes h) ≡ places_from 0 nodes
places-same nodes [] = refl
places-same nodes (entry ∷ h) = places-same (nodes_by nodes entry.event) h ∙ places-moved 0 (step_of nodes entry.event) [] nodes

-- ---- the front of a history

stop-stays : (old : Option Stop) (event : Event) → stop_after old event ≡ None → old ≡ None
stop-stays None event q = refl
stop-stays (Some s) (Arrive i e) q = q
stop-stays (Some s) (Taken j u) q = q
stop-stays (Some s) (Given j u) q = q
stop-stays (Some s) (Swept j i) q = q
stop-stays (Some s) Drain q = q
stop-stays (Some s) Halt q = q
stop-stays (Some s) (Look x) q = q
stop-stays (Some s) (Stopped x) q = absurd (false≢true (sym (ap there q)))
  where
    there : Option Stop → Bool
    there None = false
    there (Some z) = true
stop-stays (Some s) Idle q = q

on-before : (r : Reached) (xs : List Entry) → IsOn (reached_from false r xs) → IsOn r
on-before r [] q = q
on-before r (x ∷ xs) q = stop-stays r.stop x.event (on-before (next false r x) xs q)

legal-before : (r : Reached) (xs ys : List Entry) → AreEntriesLegal r (xs ++ ys) → AreEntriesLegal r xs
legal-before r [] ys l = tt
legal-before r (x ∷ xs) ys l = (l.0, legal-before (next false r x) xs ys l.1)

-- ---- the end of the run

-- a sweep of every input, and a drain
abbrev final : List Node → List Entry
final nodes = sweeps_at nodes (places_from 0 nodes) ++ plain Drain ∷ []

follow-swept : (nodes : List Node) (e : Element) → is_punct e ≡ true → follow_up true nodes e ≡ probes nodes ++ final (nodes_from nodes (probes nodes))
follow-swept nodes (Punct patterns) q = append_assoc (probes nodes) (sweeps_at (nodes_from nodes (probes nodes)) (places_from 0 (nodes_from nodes (probes nodes)))) (plain Drain ∷ [])
follow-swept nodes (Tuple row) q = absurd (false≢true q)

record Ending (nodes : List Node) (es : List Entry) : Type 0 where
  front : List Entry
  same : es ≡ front ++ final (nodes_from nodes front)
  rested : AllOperators Rested (nodes_from nodes front)

ending : (nodes : List Node) (turns : List Turn) (t : Turn) → AllProbed true nodes (turns ++ t ∷ []) → is_punct t.element ≡ true → Ending nodes (turns_entries true nodes (turns ++ t ∷ []))
ending nodes [] t a q = record {
  front = arrival_of t ∷ probes (nodes_by nodes (Arrive t.stream t.element));
  same = append-nil (turn_entries true nodes t) ∙ ap (λ (es : List Entry). arrival_of t ∷ es) (follow-swept (nodes_by nodes (Arrive t.stream t.element)) t.element q);
  rested = a.0;
}
ending nodes (x ∷ turns) t a q = more (ending (nodes_from nodes here) turns t a.1 q)
  where
    here : List Entry
    here = turn_entries true nodes x

    more : Ending (nodes_from nodes here) (turns_entries true (nodes_from nodes here) (turns ++ t ∷ [])) → Ending nodes (turns_entries true nodes (x ∷ turns ++ t ∷ []))
    more e = record {
      front = here ++ e.front;
      same =
          ap (λ (es : List Entry). here ++ es) e.same
          ∙ sym (append_assoc here e.front (final (nodes_from (nodes_from nodes here) e.front)))
          ∙ ap (λ (ns : List Node). (here ++ e.front) ++ final ns) (sym (nodes-append nodes here e.front));
      rested = subst (AllOperators Rested) (sym (nodes-append nodes here e.front)) e.rested;
    }

-- the first node of a plan is a stream
first-stream : (m : Operator) (inputs : List ℕ) → ((k : ℕ) → In k inputs → k < 0) → IsWellMade m (map (λ k. get_or [] k 0) inputs) → is_stream m ≡ true
first-stream (Stream schema sent) inputs before made = refl
first-stream (Select test) [] before made = absurd (omega (arith, made.0))
first-stream (Project columns) [] before made = absurd (omega (arith, made.0))
first-stream (Union n u) [] before made = absurd (omega (arith, made.0, made.4))
first-stream (Join spec s) [] before made = let q = ap length made.0 in absurd (omega (arith, q, made.1))
first-stream (Group spec rows) [] before made = absurd (omega (arith, made.0))
first-stream (Select test) (k ∷ inputs) before made = let q = before k (inl refl) in absurd (omega (arith, q))
first-stream (Project columns) (k ∷ inputs) before made = let q = before k (inl refl) in absurd (omega (arith, q))
first-stream (Union n u) (k ∷ inputs) before made = let q = before k (inl refl) in absurd (omega (arith, q))
first-stream (Join spec s) (k ∷ inputs) before made = let q = before k (inl refl) in absurd (omega (arith, q))
first-stream (Group spec rows) (k ∷ inputs) before made = let q = before k (inl refl) in absurd (omega (arith, q))

some-stream : (plan : List Node) → ArePlanned [] plan → 0 < length plan → 0 < length (streams_of plan)
some-stream [] planned lt = absurd (omega (arith, lt))
some-stream (node ∷ nodes) planned lt =
    subst (λ (b : Bool). 0 < length (cond b (0 ∷ streams_from 1 nodes) (streams_from 1 nodes))) (sym (first-stream node.operator node.inputs planned.0 planned.1)) (omega arith)

module _ (plan : List Node) (planned : ArePlanned [] plan) (some : 0 < length plan) (certs : AllAreCertified plan) (lists : List (List Element)) (accepted : AreAcceptedLists plan lists) where
  whole : IsWholeRun true plan lists
  whole = swept-whole plan planned certs lists accepted

  end : Ending plan (one_thread_of true plan lists)
  end =
      let t = last-turn plan 0 (streams_of plan) lists (some-stream plan planned some) in
      subst (λ (turns : List Turn). Ending plan (turns_entries true plan turns)) (sym t.same)
      (ending plan t.front t.turn (subst (AllProbed true plan) t.same (all-probed true plan planned (λ e. certs) lists accepted)) t.closes)

  N : List Node
  N = nodes_from plan end.front

  acts : List Entry
  acts = sweeps_at N (places_from 0 N)

  legal : AreEntriesLegal (begun plan) (end.front ++ final N)
  unfolding N
  legal = subst (AreEntriesLegal (begun plan)) end.same whole.legal

  on : IsOn (reached_of false plan end.front)
  unfolding N
  on = on-before (reached_of false plan end.front) (final N) (subst IsOn (ap (reached_from false (begun plan)) end.same ∙ reached-append false (begun plan) end.front (final N)) whole.on)

  swept : AreActsLegal N acts × AllOperators Rested (nodes_from N acts)
  unfolding N acts
  swept = sweeps-rest N (places_from 0 N) end.rested (certified-from plan end.front (all-from Certified plan certs)) (all-places [] N)

  still : IsStill (reached_of false plan end.front) (final N)
  unfolding N acts
  still = acts-still (reached_of false plan end.front) (final N) on
      (subst (λ (nodes : List Node). AreActsLegal nodes (final N)) (sym (reached-nodes false (begun plan) end.front)) (acts-append N acts (plain Drain ∷ []) swept.0 (tt, refl, tt, tt)))

  closed : (s : ℕ) → s < length (streams_of plan) → has (reached_of false plan end.front).closed s ≡ true
  unfolding N
  closed s l = subst (λ (ns : List ℕ). has ns s ≡ true) (ap (λ (r : Reached). r.closed) (ap (reached_from false (begun plan)) end.same ∙ reached-append false (begun plan) end.front (final N)) ∙ still.closed) (whole.closed s l)

  late : IsLate plan end.front
  unfolding N
  late = record { legal = front-legal; on = on; rested = end.rested; closed = closings plan end.front front-legal closed }
    where
      front-legal : IsLegal plan end.front
      front-legal = legal-before (begun plan) end.front (final N) legal

  rest : AllRest (nodes_from N (sweeps_at N (places_from 0 plan)))
  unfolding N
  rest m l =
      settles-all [] [] plan end.front refl planned certs late (λ es l k j. absurd (omega (arith, j))) (λ k j. absurd (omega (arith, j))) (λ k j. absurd (omega (arith, j)))
      m (omega (arith, l, length-from N (sweeps_at N (places_from 0 plan)), length-from plan end.front))

  same : nodes_from plan (one_thread_of true plan lists) ≡ nodes_from N (sweeps_at N (places_from 0 plan))
  unfolding N acts
  same =
      ap (nodes_from plan) end.same ∙ nodes-append plan end.front (final N) ∙ nodes-append N acts (plain Drain ∷ []) ∙ drain-still (nodes_from N acts)
      ∙ ap (λ (ps : List Place). nodes_from N (sweeps_at N ps)) (places-same plan end.front)

  pub swept-complete : IsComplete plan (one_thread_of true plan lists)
  unfolding N
  swept-complete = record {
    closed = whole.closed;
    settled = λ n l. (
      whole.given n l,
      subst (λ (nodes : List Node). NoneWaits (operator_at nodes n)) (sym same) (rest n (omega (arith, l, length-from plan (one_thread_of true plan lists), ap length same))),
    );
    on = whole.on;
  }

-- with groups too, its rows are the answer
pub swept-groups : (plan : List Node) → ArePlanned [] plan → 0 < length plan → AllAreCertified plan → OneThreadIsAnswer true plan
swept-groups plan planned lt certs lists accepted trace =
    subst (λ (all : List (List (List Value))). SameBag (rows_out (outputs_of trace plan (one_thread_of true plan lists))) (answer_of plan all)) (lists-are true plan planned (λ e. certs) lists accepted)
    (complete-is-answer plan planned lt trace (one_thread_of true plan lists) (swept-whole plan planned certs lists accepted).legal (swept-complete plan planned lt certs lists accepted))
