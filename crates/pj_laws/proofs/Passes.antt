-- Sweeps of all inputs of one join among nodes at rest.
use Rattle.std.proofs.Common.{ℕ, zero, suc, ◌+◌, ◌<◌, ◌≤◌, ◌⊎◌, Bool, true, cond, not, List, [], ◌∷◌, ◌++◌, ◌≡◌, map, filter, length, refl, sym, ap, ◌∙◌, subst, inl, inr, arith}
use Rattle.pj_laws.proofs.Histories.{nodes-append}
use Rattle.std.proofs.lemmas.Bool.{cases_lt}
use Rattle.pj_events.specs.Join.{In, TupleAt, JoinData, JoinState, Take, Give, Sweep, has, step, run, upto_from}
use Rattle.pj_events.specs.KeptState.{lacking}
use Rattle.pj_join_laws.specs.Laws.{sweeps_from}
use Rattle.pj_events.specs.Plan.{Operator, Stream, Select, Project, Union, Join, Group, Node, Own, Act, after, moved, operator_at}
use Rattle.pj_events.specs.declared.events.Entry.{Entry}
use Rattle.pj_events.specs.declared.events.Event.TheVariants.{Sweep as Swept}
use Rattle.pj_events.specs.History.{state_in, nodes_by, nodes_from}
use Rattle.pj_events.specs.OneThread.{Place, plain, probes_at, pending_at, probes_from, probes, sweeps_at}
use Rattle.pj_laws.proofs.Glue.{length-moved}
use Rattle.pj_laws.proofs.NextProbe.{act-before, act-here}
use Rattle.pj_laws.proofs.Probes.{Rested, AllOperators, all-at, length-from}
use Rattle.pj_laws.proofs.OneRun.{probed-swept}

-- ---- probes spare the nodes before them

probe-spares : (nodes : List Node) (j : ℕ) (us : List ℕ) (m : ℕ) → m < j → m < length nodes → operator_at (nodes_from nodes (probes_at j us)) m ≡ operator_at nodes m
probe-spares nodes j [] m lt l = refl
probe-spares nodes j (u ∷ us) m lt l =
    probe-spares (moved (Act j (Give u)) [] (moved (Act j (Take u)) [] nodes)) j us m lt (omega (arith, l, one, two))
    ∙ act-before (moved (Act j (Take u)) [] nodes) j m (Give u) lt (omega (arith, l, one))
    ∙ act-before nodes j m (Take u) lt l
  where
    one : length (moved (Act j (Take u)) [] nodes) ≡ length nodes
    one = length-moved (Act j (Take u)) [] nodes

    two : length (moved (Act j (Give u)) [] (moved (Act j (Take u)) [] nodes)) ≡ length (moved (Act j (Take u)) [] nodes)
    two = length-moved (Act j (Give u)) [] (moved (Act j (Take u)) [] nodes)

abbrev lack_in : Operator → List ℕ
lack_in m = lacking (state_in m).taken (state_in m).tuples

-- where nothing is pending up to a node, all probes leave these nodes as they are
spared : (c k : ℕ) (nodes : List Node) (n : ℕ) → n < length nodes → ((m : ℕ) → m ≤ n → pending_at nodes m ≡ []) → (m : ℕ) → m ≤ n → operator_at (nodes_from nodes (probes_from nodes k c)) m ≡ operator_at nodes m
spared zero k nodes n lt none m le = refl
spared (suc c) k nodes n lt none m le = go (cases_lt n k) (spared c (k + 1) nodes n lt none m le) (λ us l same. spared c (k + 1) (nodes_from nodes (probes_at k us)) n (omega (arith, lt, length-from nodes (probes_at k us))) same m le)
  where
    Goal : List ℕ → Type 0
    Goal us = operator_at (nodes_from nodes (probes_at k us ++ probes_from (nodes_from nodes (probes_at k us)) (k + 1) c)) m ≡ operator_at nodes m

    go : (n < k) ⊎ (k ≤ n) → operator_at (nodes_from nodes (probes_from nodes (k + 1) c)) m ≡ operator_at nodes m
        → ((us : List ℕ) → n < k → ((i : ℕ) → i ≤ n → pending_at (nodes_from nodes (probes_at k us)) i ≡ [])
        → operator_at (nodes_from (nodes_from nodes (probes_at k us)) (probes_from (nodes_from nodes (probes_at k us)) (k + 1) c)) m ≡ operator_at (nodes_from nodes (probes_at k us)) m)
        → Goal (pending_at nodes k)
    go (inr ge) ih more = subst Goal (sym (none k ge)) ih
    go (inl l) ih more =
        let us = pending_at nodes k in
        ap (λ (xs : List Node). operator_at xs m) (nodes-append nodes (probes_at k us) (probes_from (nodes_from nodes (probes_at k us)) (k + 1) c))
        ∙ more us l (λ i q. ap lack_in (probe-spares nodes k us i (omega arith) (omega arith)) ∙ none i q)
        ∙ probe-spares nodes k us m (omega arith) (omega arith)

-- ---- nothing is pending at rest

lacking-none : (ns : List ℕ) (xs : List TupleAt) → ((x : TupleAt) → In x xs → has ns x.ticket ≡ true) → lacking ns xs ≡ []
lacking-none ns [] f = refl
lacking-none ns (x ∷ xs) f =
    ap (λ (b : Bool). map (λ (y : TupleAt). y.ticket) (cond (not b) (x ∷ filter (λ y. not (has ns y.ticket)) xs) (filter (λ y. not (has ns y.ticket)) xs))) (f x (inl refl))
    ∙ lacking-none ns xs (λ y h. f y (inr h))

rested-lacks : (m : Operator) → Rested m → lack_in m ≡ []
rested-lacks (Stream schema sent) r = refl
rested-lacks (Select test) r = refl
rested-lacks (Project columns) r = refl
rested-lacks (Union n u) r = refl
rested-lacks (Join spec s) r = lacking-none s.taken s.tuples (λ x h. subst (λ (ns : List ℕ). has ns x.ticket ≡ true) (sym r.0.even) (r.1 x h))
rested-lacks (Group spec rows) r = refl

-- ---- one sweep

-- the join is swept, and the nodes before it stay
swept-one : (nodes : List Node) (n k : ℕ) (spec : JoinData) (s : JoinState) → AllOperators Rested nodes → n < length nodes → operator_at nodes n ≡ Join spec s
    → (operator_at (nodes_from (nodes_by nodes (Swept n k)) (probes (nodes_by nodes (Swept n k)))) n ≡ Join spec (step spec s (Sweep k)))
    × ((m : ℕ) → m < n → operator_at (nodes_from (nodes_by nodes (Swept n k)) (probes (nodes_by nodes (Swept n k)))) m ≡ operator_at nodes m)
swept-one nodes n k spec s r lt q = (
  spared (length swept) 0 swept n long none n (omega arith) ∙ here,
  λ m l. spared (length swept) 0 swept n long none m (omega arith) ∙ act-before nodes n m (Sweep k) l (omega arith),
)
  where
    swept : List Node
    swept = nodes_by nodes (Swept n k)

    long : n < length swept
    long = omega (arith, lt, length-moved (Act n (Sweep k)) [] nodes)

    here : operator_at swept n ≡ Join spec (step spec s (Sweep k))
    here = act-here nodes n (Sweep k) lt ∙ ap (λ (m : Operator). after m (Own (Sweep k))) q

    at-it : (m : ℕ) → m ≡ n → pending_at swept m ≡ []
    at-it m e =
        ap (pending_at swept) e ∙ ap lack_in here ∙ sym (ap lack_in q) ∙ rested-lacks (operator_at nodes n) (all-at Rested nodes n lt r)

    none : (m : ℕ) → m ≤ n → pending_at swept m ≡ []
    none m le = elim (cases_lt m n) [
      | inl l ↦ ap lack_in (act-before nodes n m (Sweep k) l (omega arith)) ∙ rested-lacks (operator_at nodes m) (all-at Rested nodes m (omega arith) r)
      | inr ge ↦ at-it m (omega arith)
    ]

abbrev pub place_of : ℕ → ℕ → Place
place_of join input = record { join = join; input = input }

-- sweeps of the inputs from this one on
pub sweeps-over : (c k : ℕ) (nodes : List Node) (n : ℕ) (spec : JoinData) (s : JoinState) → AllOperators Rested nodes → n < length nodes → operator_at nodes n ≡ Join spec s
    → (operator_at (nodes_from nodes (sweeps_at nodes (map (place_of n) (upto_from k c)))) n ≡ Join spec (run spec s (sweeps_from k c)))
    × ((m : ℕ) → m < n → operator_at (nodes_from nodes (sweeps_at nodes (map (place_of n) (upto_from k c)))) m ≡ operator_at nodes m)
sweeps-over zero k nodes n spec s r lt q = (q, λ m l. refl)
sweeps-over (suc c) k nodes n spec s r lt q =
    let one = swept-one nodes n k spec s r lt q in
    let here : List Entry = plain (Swept n k) ∷ probes (nodes_by nodes (Swept n k)) in
    let after' : List Node = nodes_from nodes here in
    let rest = sweeps-over c (k + 1) after' n spec (step spec s (Sweep k)) (probed-swept nodes (place_of n k) r).0 (omega (arith, lt, length-from nodes here)) one.0 in
    let cut = nodes-append nodes here (sweeps_at after' (map (place_of n) (upto_from (k + 1) c))) in (
      ap (λ (xs : List Node). operator_at xs n) cut ∙ rest.0,
      λ m l. ap (λ (xs : List Node). operator_at xs m) cut ∙ rest.1 m l ∙ one.1 m l,
    )
