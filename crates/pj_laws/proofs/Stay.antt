-- What is behind a tuple does not change its results.
use Rattle.std.proofs.Common.{ℕ, ◌+◌, ◌<◌, ◌≤◌, Bool, true, false, cond, List, [], ◌∷◌, ◌++◌, ◌≡◌, filter, flat_map, map, length, eqb, refl, sym, ap, ◌∙◌, subst, inl, inr, arith, append-nil}
use Rattle.std.proofs.lemmas.Bool.{ne_eqb}
use Rattle.std.proofs.lemmas.List.Elements.{filter-append}
use Rattle.pj_value.proofs.Members.{In-filter}
use Rattle.pj_events.specs.declared.events.Entry.{Entry}
use Rattle.pj_events.specs.Join.{AreLegalSteps, In, JoinData, JoinState, Step, TupleComes, PunctComes, Take, Give, Sweep, TupleAt, combinations, joined, new_tuple, results, run, start, step}
use Rattle.pj_events.specs.Plan.{ArePlanned, Join, Node, Operator, operator_at}
use Rattle.pj_events.specs.History.{IsLegal, data_at, data_in, join_at, nodes_from, state_in}
use Rattle.pj_events.specs.Outcomes.{join_steps_by, join_steps_of, results_of}
use Rattle.pj_join_laws.proofs.Complete.{combinations-before}
use Rattle.pj_join_laws.proofs.Forget.{IsSound}
use Rattle.pj_laws.proofs.JoinRuns.{join-runs}
use Rattle.pj_join_laws.proofs.Ripe.{next-mono}
use Rattle.pj_join_laws.proofs.Sound.{run-append, sound-run, sound-start, sound-step, legal-front}

flat-same : (f g : TupleAt → List (List TupleAt)) (xs : List TupleAt) → ((x : TupleAt) → In x xs → f x ≡ g x) → flat_map f xs ≡ flat_map g xs
flat-same f g [] s = refl
flat-same f g (x ∷ xs) s = ap (λ (cs : List (List TupleAt)). cs ++ flat_map f xs) (s x (inl refl)) ∙ ap (λ (cs : List (List TupleAt)). g x ++ cs) (flat-same f g xs (λ y h. s y (inr h)))

-- a tuple that comes changes no results of one before it
tuple-stays : (spec : JoinData) (T : List TupleAt) (x : TupleAt) (u : ℕ) → ((y : TupleAt) → In y T → y.ticket < x.ticket) → u < x.ticket → results spec (T ++ x ∷ []) (T ++ x ∷ []) u ≡ results spec T T u
tuple-stays spec T x u later lt =
    ap (flat_map (combinations spec (T ++ x ∷ [])))
    (filter-append (λ z. eqb z.ticket u) T (x ∷ []) ∙ ap (λ (b : Bool). filter (λ z. eqb z.ticket u) T ++ cond b (x ∷ []) []) (ne_eqb x.ticket u (λ q. omega (arith, lt, q))) ∙ append-nil (filter (λ z. eqb z.ticket u) T))
    ∙ flat-same (combinations spec (T ++ x ∷ [])) (combinations spec T) (filter (λ z. eqb z.ticket u) T) (λ y h. combinations-before spec T x later y (In-filter (λ z. eqb z.ticket u) y T h).0)

step-stays : (spec : JoinData) (s : JoinState) (e : Step) (u : ℕ) → IsSound spec s → u < s.next → results spec (step spec s e).tuples (step spec s e).tuples u ≡ results spec s.tuples s.tuples u
step-stays spec s (TupleComes input row) u i lt = tuple-stays spec s.tuples (new_tuple s input row) u (λ y h. i.numbered y h) lt
step-stays spec s (PunctComes input patterns) u i lt = refl
step-stays spec s (Take t) u i lt = refl
step-stays spec s (Give t) u i lt = refl
step-stays spec s (Sweep input) u i lt = refl

pub run-stays : (spec : JoinData) (s : JoinState) (es : List Step) (u : ℕ) → IsSound spec s → AreLegalSteps spec s es → u < s.next
    → results spec (run spec s es).tuples (run spec s es).tuples u ≡ results spec s.tuples s.tuples u
run-stays spec s [] u i l lt = refl
run-stays spec s (e ∷ es) u i l lt =
    run-stays spec (step spec s e) es u (sound-step spec s e i l.0) l.1 (let m = next-mono spec s e in omega (arith, lt, m))
    ∙ step-stays spec s e u i lt

pub steps-append : (nodes : List Node) (xs ys : List Entry) (j : ℕ) → join_steps_of nodes (xs ++ ys) j ≡ join_steps_of nodes xs j ++ join_steps_of (nodes_from nodes xs) ys j
steps-append nodes [] ys j = refl
steps-append nodes (x ∷ xs) ys j =
    ap (λ (sts : List Step). join_steps_by nodes x.event j ++ sts) (steps-append (Rattle.pj_events.specs.History.nodes_by nodes x.event) xs ys j)
    ∙ sym (Rattle.std.proofs.Common.append_assoc (join_steps_by nodes x.event j) (join_steps_of (Rattle.pj_events.specs.History.nodes_by nodes x.event) xs j) (join_steps_of (nodes_from (Rattle.pj_events.specs.History.nodes_by nodes x.event) xs) ys j))

-- The results of a ticket of a tuple that came stay what they are, whatever follows
pub results-stay : (plan : List Node) → ArePlanned [] plan → (seen more : List Entry) (j u : ℕ) (spec : JoinData) → IsLegal plan (seen ++ more) → j < length plan → operator_at plan j ≡ Join spec start
    → u < (run spec start (join_steps_of plan seen j)).next → results_of plan (seen ++ more) j u ≡ results_of plan seen j u
results-stay plan planned seen more j u spec legal lt is below =
    ap (λ (o : Operator). map joined (results (data_at plan j) (state_in o).tuples (state_in o).tuples u)) (runs.state (seen ++ more) j spec lt is)
    ∙ ap (λ (o : Operator). map joined (results (data_in o) (run spec start (join_steps_of plan (seen ++ more) j)).tuples (run spec start (join_steps_of plan (seen ++ more) j)).tuples u)) is
    ∙ ap (λ (s : JoinState). map joined (results spec s.tuples s.tuples u)) parts
    ∙ ap (map joined) (run-stays spec front back u (sound-run spec start (join_steps_of plan seen j) (sound-start spec) legals.0) legals.1 below)
    ∙ sym (ap (λ (o : Operator). map joined (results (data_in o) front.tuples front.tuples u)) is)
    ∙ sym (ap (λ (o : Operator). map joined (results (data_at plan j) (state_in o).tuples (state_in o).tuples u)) (runs.state seen j spec lt is))
  where
    runs : Rattle.pj_laws.specs.HistoryLaws.JoinRuns plan
    runs = join-runs plan planned

    front : JoinState
    front = run spec start (join_steps_of plan seen j)

    back : List Step
    back = join_steps_of (nodes_from plan seen) more j

    parts : run spec start (join_steps_of plan (seen ++ more) j) ≡ run spec front back
    parts = ap (run spec start) (steps-append plan seen more j) ∙ run-append spec start (join_steps_of plan seen j) back

    legals : AreLegalSteps spec start (join_steps_of plan seen j) × AreLegalSteps spec front back
    legals = legal-front spec start (join_steps_of plan seen j) back (subst (AreLegalSteps spec start) (steps-append plan seen more j) (runs.legal (seen ++ more) j spec legal lt is))
