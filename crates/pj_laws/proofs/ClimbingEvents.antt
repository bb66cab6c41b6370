-- What events make of a tree.
use Rattle.std.proofs.Common.{ℕ, zero, suc, ◌+◌, ◌<◌, ◌≤◌, ◌≢◌, map, Bool, cond, List, [], ◌∷◌, ◌++◌, ◌≡◌, length, get_or, refl, sym, ap, ◌∙◌, subst, inl, inr, eqb, arith}
use Rattle.std.specs.Prelude.{pred}
use Rattle.std.proofs.lemmas.Bool.{ne_eqb, cases_lt}
use Rattle.pj_events.specs.Join.{AreDistinct, Take, Give, Sweep}
use Rattle.pj_events.specs.Plan.{Operator, after, after_all, Select, Node, Local, Fed, Own, PlanStep, Feed, Act, Pass, hands, own, batches, moved, nowhere, operator_at}
use Rattle.pj_events.specs.declared.events.Event.{Event}
use Rattle.pj_events.specs.declared.events.Event.TheVariants.{Arrive, Take as Taken, Give as Given, Sweep as Swept, Drain, Halt, Look, Stopped, Idle}
use Rattle.pj_events.specs.History.{stream_node, root_of, step_of}
use Rattle.pj_events.specs.Outcomes.{Arrival, arrivals_in, place_in}
use Rattle.pj_laws.specs.Climb.{all_inputs, StandBehind, IsTree, first_above, above_from, HasOneTop, stepped, Load, Climbed, climbed_by, climb_of, local_at, LeavesNodes, ClimbsFrom, EventClimbs}
use Rattle.pj_laws.proofs.Climbing.{climbs-from, arrivals-empty}
use Rattle.pj_laws.proofs.Nodes.{AreEmpty, empty-none, quiet}
use Rattle.pj_laws.proofs.Trees.{climbed-at, none-before, length-brought, ends-at-root}

-- ---- a local step leaves the tree

stepped-inputs : (nodes : List Node) (n : ℕ) (l : Local) → all_inputs (stepped nodes n l) ≡ all_inputs nodes
stepped-inputs [] n l = refl
stepped-inputs (node ∷ nodes) zero l = refl
stepped-inputs (node ∷ nodes) (suc n) l = ap (λ (ms : List ℕ). node.inputs ++ ms) (stepped-inputs nodes n l)

stepped-behind : (k : ℕ) (nodes : List Node) (n : ℕ) (l : Local) → StandBehind k nodes → StandBehind k (stepped nodes n l)
stepped-behind k [] n l b = tt
stepped-behind k (node ∷ nodes) zero l b = b
stepped-behind k (node ∷ nodes) (suc n) l b = (b.0, stepped-behind (k + 1) nodes n l b.1)

pub stepped-tree : (nodes : List Node) (n : ℕ) (l : Local) → IsTree nodes → IsTree (stepped nodes n l)
stepped-tree nodes n l t = record { behind = stepped-behind 0 nodes n l t.behind; once = subst AreDistinct (sym (stepped-inputs nodes n l)) t.once }

stepped-above : (k : ℕ) (nodes : List Node) (n : ℕ) (l : Local) (m : ℕ) → above_from k (stepped nodes n l) m ≡ above_from k nodes m
stepped-above k [] n l m = refl
stepped-above k (node ∷ nodes) zero l m = refl
stepped-above k (node ∷ nodes) (suc n) l m = ap (first_above k (place_in 0 node.inputs m)) (stepped-above (k + 1) nodes n l m)

pub length-stepped : (nodes : List Node) (n : ℕ) (l : Local) → length (stepped nodes n l) ≡ length nodes
length-stepped [] n l = refl
length-stepped (node ∷ nodes) zero l = refl
length-stepped (node ∷ nodes) (suc n) l = ap suc (length-stepped nodes n l)

pub stepped-top : (nodes : List Node) (n : ℕ) (l : Local) → HasOneTop nodes → HasOneTop (stepped nodes n l)
stepped-top nodes n l top m lt = let a = top m (omega (arith, lt, length-stepped nodes n l)) in (a.0, stepped-above 0 nodes n l m ∙ a.1)

-- ---- what a step makes of a tree

past-nodes : (nodes : List Node) (m : ℕ) → length nodes ≤ m → get_or nodes m nowhere ≡ nowhere
past-nodes [] m le = refl
past-nodes (node ∷ nodes) zero le = absurd (omega (arith, le))
past-nodes (node ∷ nodes) (suc m) le = past-nodes nodes m (omega (arith, le))

past-lists : (lists : List (List Arrival)) (m : ℕ) → length lists ≤ m → get_or lists m [] ≡ []
past-lists [] m le = refl
past-lists (x ∷ lists) zero le = absurd (omega (arith, le))
past-lists (x ∷ lists) (suc m) le = past-lists lists m (omega (arith, le))

-- the same as what an event makes of a tree, for a step
pub record Makes (nodes : List Node) (e : PlanStep) (c : Climbed) : Type 0 where
  pub moves : moved e [] nodes ≡ c.nodes
  pub comes : (m : ℕ) → arrivals_in 0 (get_or nodes m nowhere).inputs (batches e [] nodes) ≡ get_or c.brought m []
  pub ends : get_or (batches e [] nodes) c.left.from [] ≡ c.left.elements
  pub root : HasOneTop nodes → get_or (batches e [] nodes) (root_of nodes) [] ≡ c.left.elements

makes : (nodes : List Node) → IsTree nodes → (e : PlanStep) (n : ℕ) (l : Local) → ((m : ℕ) → own e m ≡ cond (eqb n m) (l ∷ []) []) → hands (Select []) l ≡ [] → Makes nodes e (climbed_by nodes n l)
makes nodes tree e n l acts silent = record { moves = C.moves; comes = come; ends = C.ends; root = rooted }
  where
    C : ClimbsFrom nodes n l e
    C = climbs-from nodes tree e n l acts silent

    load : Load
    load = record { from = n; elements = hands (operator_at nodes n) l }

    come : (m : ℕ) → arrivals_in 0 (get_or nodes m nowhere).inputs (batches e [] nodes) ≡ get_or (climbed_by nodes n l).brought m []
    come m = elim (cases_lt m (length nodes)) [
      | inl lt ↦ C.comes m lt
      | inr ge ↦
          ap (λ (node : Node). arrivals_in 0 node.inputs (batches e [] nodes)) (past-nodes nodes m ge)
          ∙ sym (past-lists (climbed_by nodes n l).brought m (let a = length-brought 0 load (stepped nodes n l) in let b = length-stepped nodes n l in omega (arith, ge, a, b)))
    ]

    rooted : HasOneTop nodes → get_or (batches e [] nodes) (root_of nodes) [] ≡ (climbed_by nodes n l).left.elements
    rooted top = elim (cases_lt n (length nodes)) [
      | inl lt ↦
          ap (λ (m : ℕ). get_or (batches e [] nodes) m [])
          (ap pred (sym (length-stepped nodes n l))
          ∙ sym (ends-at-root (stepped nodes n l) n (hands (operator_at nodes n) l) (stepped-tree nodes n l tree) (stepped-top nodes n l top) (omega (arith, lt, length-stepped nodes n l))))
          ∙ C.ends
      | inr ge ↦
          let none : AreEmpty (batches e [] nodes) = (quiet e [] nodes empty-none (λ m le lt. acts m ∙ ap (λ (b : Bool). cond b (l ∷ []) []) (ne_eqb n m (λ q. omega (arith, ge, lt, q))))).1 in
          none (root_of nodes) ∙ sym (none (climbed_by nodes n l).left.from) ∙ C.ends
    ]

nothing-made : (nodes : List Node) (n : ℕ) → Makes nodes Pass (record { nodes = nodes; brought = []; left = record { from = n; elements = [] } })
nothing-made nodes n =
    let q = quiet Pass [] nodes empty-none (λ m le lt. refl) in
    record {
      moves = q.0;
      comes = λ m. arrivals-empty 0 (get_or nodes m nowhere).inputs (batches Pass [] nodes) q.1;
      ends = q.1 n;
      root = λ top. q.1 (root_of nodes);
    }

event-of : (nodes : List Node) (event : Event) → Makes nodes (step_of nodes event) (climb_of nodes event) → EventClimbs nodes event
event-of nodes event m = record { moves = m.moves; comes = m.comes; ends = m.ends; root = m.root }

pub events-climb : (nodes : List Node) → IsTree nodes → (event : Event) → EventClimbs nodes event
events-climb nodes t (Arrive stream e) =
    event-of nodes (Arrive stream e) (makes nodes t (Feed (stream_node nodes stream) e) (stream_node nodes stream) (Fed e) (λ m. refl) refl)
events-climb nodes t (Taken join ticket) = event-of nodes (Taken join ticket) (makes nodes t (Act join (Take ticket)) join (Own (Take ticket)) (λ m. refl) refl)
events-climb nodes t (Given join ticket) = event-of nodes (Given join ticket) (makes nodes t (Act join (Give ticket)) join (Own (Give ticket)) (λ m. refl) refl)
events-climb nodes t (Swept join input) = event-of nodes (Swept join input) (makes nodes t (Act join (Sweep input)) join (Own (Sweep input)) (λ m. refl) refl)
events-climb nodes t Drain = event-of nodes Drain (nothing-made nodes (length nodes))
events-climb nodes t Halt = event-of nodes Halt (nothing-made nodes (length nodes))
events-climb nodes t (Look pending) = event-of nodes (Look pending) (nothing-made nodes (length nodes))
events-climb nodes t (Stopped stop) = event-of nodes (Stopped stop) (nothing-made nodes (length nodes))
events-climb nodes t Idle = event-of nodes Idle (nothing-made nodes (length nodes))

-- ---- the nodes after a climb

stepped-first : (nodes : List Node) (n : ℕ) (l : Local) → n < length nodes → operator_at (stepped nodes n l) n ≡ after (operator_at nodes n) l
stepped-first [] n l lt = absurd (omega (arith, lt))
stepped-first (node ∷ nodes) zero l lt = refl
stepped-first (node ∷ nodes) (suc n) l lt = stepped-first nodes n l (omega (arith, lt))

stepped-other : (nodes : List Node) (n : ℕ) (l : Local) (m : ℕ) → m ≢ n → operator_at (stepped nodes n l) m ≡ operator_at nodes m
stepped-other [] n l m ne = refl
stepped-other (node ∷ nodes) zero l zero ne = absurd (ne refl)
stepped-other (node ∷ nodes) zero l (suc m) ne = refl
stepped-other (node ∷ nodes) (suc n) l zero ne = refl
stepped-other (node ∷ nodes) (suc n) l (suc m) ne = stepped-other nodes n l m (λ q. ne (ap suc q))

pub leaves-nodes : (nodes : List Node) → IsTree nodes → (n : ℕ) (l : Local) → LeavesNodes nodes n l
leaves-nodes nodes tree n l = record {
  first = λ lt.
      ap (λ (node : Node). node.operator) (climbed-at 0 load (stepped nodes n l) n (omega (arith, lt, length-stepped nodes n l)))
      ∙ ap (λ (came : List Arrival). after_all (operator_at (stepped nodes n l) n) (map local_at came)) (none-before 0 load (stepped nodes n l) n (stepped-tree nodes n l tree).behind (omega arith))
      ∙ stepped-first nodes n l lt;
  each = λ m lt ne.
      ap (λ (node : Node). node.operator) (climbed-at 0 load (stepped nodes n l) m (omega (arith, lt, length-stepped nodes n l)))
      ∙ ap (λ (o : Operator). after_all o (map local_at (get_or (climbed_by nodes n l).brought m []))) (stepped-other nodes n l m ne);
}
  where
    load : Load
    load = record { from = n; elements = hands (operator_at nodes n) l }
