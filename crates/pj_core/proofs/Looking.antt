-- Looks at a core.
use Rattle.std.proofs.Common.{ℕ, suc, ◌+◌, ◌*◌, ◌^◌, ◌<◌, ◌≤◌, Bool, List, [], ◌∷◌, ◌++◌, ◌≡◌, Option, Some, None, map, length, sum, get_or, refl, sym, ap, ap₂, ◌∙◌, subst, inl, arith, append-nil}
use Rattle.std.proofs.lemmas.List.Sums.{sum-map, sum_by-cons}
use Rattle.std.proofs.lemmas.List.{get_or-map}
use Rattle.pj_plan.specs.Nodes.{streams_of}
use Rattle.pj_events.specs.declared.events.Entry.{Entry}
use Rattle.pj_events.specs.declared.events.Event.TheVariants.{Look}
use Rattle.pj_events.specs.declared.events.Look.{Look as TheLook}
use Rattle.pj_events.specs.declared.events.Out.{Out}
use Rattle.pj_events.specs.declared.events.Stop.{Stop}
use Rattle.pj_events.specs.KeptState.{lacking}
use Rattle.pj_events.specs.Plan.{Node, Operator, Stream, Select, Project, Union, Join, Group}
use Rattle.pj_events.specs.History.{nodes_from, pending_in, state_in}
use Rattle.pj_events.specs.Outcomes.{peak_of, stored_in, opened_in, waiting_in, ended_of}
use Rattle.pj_events.specs.OneThread.{plain}
use Rattle.pj_events.specs.CoreKept.{CoreKept, KeptOperator, NothingKept, UnionKept, JoinKept, GroupKept, kept_in}
use Rattle.pj_join_laws.proofs.Upto.{get_or-upto}
use Rattle.pj_operator.specs.declared.operator.RunningOperator.{RunningOperator}
use Rattle.pj_operator.specs.declared.operator.OperatorState.{OperatorState}
use Rattle.pj_operator.specs.declared.operator.OperatorState.TheVariants.{Stream as RunningStream, Select as RunningSelect, Project as RunningProject, Union as RunningUnion, Join as RunningJoin, Group as RunningGroup}
use Rattle.pj_operator.specs.declared.look.Sums.{Sums}
use Rattle.pj_core.specs.Calls.{IsLookAt, IsPeak, Tells}
use Rattle.pj_operator.specs.Operators.{IsOrderly, running_at, kept_seen, no_operator, peak_seen, stored_kept, pending_kept}
use Rattle.pj_operator.specs.Emitting.{AreOrderly}
use Rattle.pj_core.specs.Cores.{StandsFor}
use Rattle.pj_operator.specs.Looks.{AreAddable, AreFew, AreWith, opened_kept, total, waiting_kept}
use Rattle.pj_core.specs.Parts.{IsMadeOf, core_of}
use Rattle.pj_core.specs.Plans.{RunPlan, nodes_of}
use Rattle.pj_core.proofs.Planned.{nodes-long}
use Rattle.pj_core.proofs.Stands.{are, kept-is, long-now}
use Rattle.pj_core.proofs.Stops.{closed-same, off, same-outs, nothing-out, quiet-noted, same-nodes, stop-entered, stop-same}

-- ---- sums

total-cons : (f : KeptOperator → ℕ) (operator : RunningOperator) (operators : List RunningOperator) → total f (operator ∷ operators) ≡ f (kept_seen operator.state) + total f operators
total-cons f operator operators =
    sum-map (λ (x : RunningOperator). f (kept_seen x.state)) (operator ∷ operators) ∙ sum_by-cons (λ (x : RunningOperator). f (kept_seen x.state)) operator operators
    ∙ ap (λ (n : ℕ). f (kept_seen operator.state) + n) (sym (sum-map (λ (x : RunningOperator). f (kept_seen x.state)) operators))

pub can_add : (sums : Sums) (operator : RunningOperator) (rest all : List RunningOperator) → AreWith sums (operator ∷ rest) all → AreFew all → AreAddable sums operator.state
can_add sums operator rest all w few =
    let p = w.pending in let o = w.opened in let s = w.stored in let v = w.waiting in
    let p' = few.pending in let t' = few.opened in let s' = few.stored in let v' = few.waiting in
    record {
      pending = omega (arith, p, p', total-cons pending_kept operator rest);
      taken = omega (arith, o, t', total-cons opened_kept operator rest);
      stored = omega (arith, s, s', total-cons stored_kept operator rest);
      waiting = omega (arith, v, v', total-cons waiting_kept operator rest);
    }

at-most : (f : KeptOperator → ℕ) (operators : List RunningOperator) → ((n : ℕ) → f (kept_seen (running_at operators n).state) ≤ 2 ^ 40) → total f operators ≤ length operators * 2 ^ 40
at-most f [] e = omega arith
at-most f (operator ∷ operators) e = let here = e 0 in let later = at-most f operators (λ n. e (suc n)) in omega (arith, here, later, total-cons f operator operators)

one-few : (f : KeptOperator → ℕ) (state : OperatorState) → f NothingKept ≡ 0 → ((u : _) → f (UnionKept u) ≡ 0) → ((t : _) → f (GroupKept t) ≡ 0) → ((join : _) → IsOrderly (RunningJoin join) → f (JoinKept join.kept) ≤ 2 ^ 40) → IsOrderly state → f (kept_seen state) ≤ 2 ^ 40
one-few f RunningStream n u g j o = omega (arith, n)
one-few f (RunningSelect test) n u g j o = omega (arith, n)
one-few f (RunningProject columns) n u g j o = omega (arith, n)
one-few f (RunningUnion union) n u g j o = omega (arith, u union.state)
one-few f (RunningJoin join) n u g j o = j join o
one-few f (RunningGroup group) n u g j o = omega (arith, g group.table)

pub are_few : (operators : List RunningOperator) → length operators ≤ 64 → AreOrderly operators → AreFew operators
are_few operators few o = record {
  pending = (let a = at-most pending_kept operators (λ n. one-few pending_kept (running_at operators n).state refl (λ u. refl) (λ t. refl) (λ join p. let x = p.pending in let y = p.next in let z = p.limit in omega (arith, x, y, z)) (o n)) in omega (arith, a, few));
  opened = (let a = at-most opened_kept operators (λ n. one-few opened_kept (running_at operators n).state refl (λ u. refl) (λ t. refl) (λ join p. let x = p.opened in let y = p.next in let z = p.limit in omega (arith, x, y, z)) (o n)) in omega (arith, a, few));
  stored = (let a = at-most stored_kept operators (λ n. one-few stored_kept (running_at operators n).state refl (λ u. refl) (λ t. refl) (λ join p. let x = p.stored in let y = p.next in let z = p.limit in omega (arith, x, y, z)) (o n)) in omega (arith, a, few));
  waiting = (let a = at-most waiting_kept operators (λ n. one-few waiting_kept (running_at operators n).state refl (λ u. refl) (λ t. refl) (λ join p. let x = p.waiting in let y = p.next in let z = p.limit in omega (arith, x, y, z)) (o n)) in omega (arith, a, few));
}

-- ---- behind a history

total-is : (f : KeptOperator → ℕ) (g : Operator → ℕ) (operators : List RunningOperator) (nodes : List Node) → ((o : Operator) → f (kept_in o) ≡ g o) → map (λ (x : RunningOperator). kept_seen x.state) operators ≡ map (λ (x : Node). kept_in x.operator) nodes
    → total f operators ≡ sum (map (λ (x : Node). g x.operator) nodes)
total-is f g operators nodes same e = ap sum (twice operators ∙ ap (map f) e ∙ over nodes)
  where
    twice : (xs : List RunningOperator) → map (λ (x : RunningOperator). f (kept_seen x.state)) xs ≡ map f (map (λ (x : RunningOperator). kept_seen x.state) xs)
    twice [] = refl
    twice (x ∷ xs) = ap (λ (ns : List ℕ). f (kept_seen x.state) ∷ ns) (twice xs)

    over : (xs : List Node) → map f (map (λ (x : Node). kept_in x.operator) xs) ≡ map (λ (x : Node). g x.operator) xs
    over [] = refl
    over (x ∷ xs) = ap₂ (λ (n : ℕ) (ns : List ℕ). n ∷ ns) (same x.operator) (over xs)

pending-same : (o : Operator) → pending_kept (kept_in o) ≡ length (lacking (state_in o).taken (state_in o).tuples)
pending-same (Stream schema sent) = refl
pending-same (Select test) = refl
pending-same (Project columns) = refl
pending-same (Union n u) = refl
pending-same (Join spec s) = refl
pending-same (Group spec rows) = refl

opened-same : (o : Operator) → opened_kept (kept_in o) ≡ length (lacking (state_in o).given (state_in o).tuples)
opened-same (Stream schema sent) = refl
opened-same (Select test) = refl
opened-same (Project columns) = refl
opened-same (Union n u) = refl
opened-same (Join spec s) = refl
opened-same (Group spec rows) = refl

stored-same : (o : Operator) → stored_kept (kept_in o) ≡ length (state_in o).stored
stored-same (Stream schema sent) = refl
stored-same (Select test) = refl
stored-same (Project columns) = refl
stored-same (Union n u) = refl
stored-same (Join spec s) = refl
stored-same (Group spec rows) = refl

waiting-same : (o : Operator) → waiting_kept (kept_in o) ≡ length (state_in o).waiting
waiting-same (Stream schema sent) = refl
waiting-same (Select test) = refl
waiting-same (Project columns) = refl
waiting-same (Union n u) = refl
waiting-same (Join spec s) = refl
waiting-same (Group spec rows) = refl

module _ (plan : RunPlan) (limit : ℕ) (operators : List RunningOperator) (made : IsMadeOf plan limit operators) (c : List ℕ) (halt : Bool) (u : List Out) (sums : Sums) (w : AreWith sums [] operators) (history : List Entry) (S : StandsFor (core_of plan limit operators c halt u None) history) where
  abbrev nodes : List Node
  nodes = nodes_from (nodes_of plan) history

  kept-same : map (λ (x : RunningOperator). kept_seen x.state) operators ≡ map (λ (x : Node). kept_in x.operator) nodes
  kept-same = ap (λ (k : CoreKept). k.nodes) (kept-is plan limit operators made c halt u history S)

  pub pending-told : sums.pending ≡ pending_in nodes
  pending-told = let p = w.pending in omega (arith, p, total-is pending_kept (λ o. length (lacking (state_in o).taken (state_in o).tuples)) operators nodes pending-same kept-same)

  pub opened-told : sums.taken + sums.pending ≡ opened_in nodes
  opened-told = let p = w.opened in omega (arith, p, total-is opened_kept (λ o. length (lacking (state_in o).given (state_in o).tuples)) operators nodes opened-same kept-same)

  pub stored-told : sums.stored ≡ stored_in nodes
  stored-told = let p = w.stored in omega (arith, p, total-is stored_kept (λ o. length (state_in o).stored) operators nodes stored-same kept-same)

  pub waiting-told : sums.waiting ≡ waiting_in nodes
  waiting-told = let p = w.waiting in omega (arith, p, total-is waiting_kept (λ o. length (state_in o).waiting) operators nodes waiting-same kept-same)

-- the numbers of a look
pub record HasNumbers (plan : RunPlan) (c : List ℕ) (halt : Bool) (u : List Out) (t : Option Stop) (sums : Sums) (look : TheLook) : Type 0 where
  pub pending : look.pending ≡ sums.pending
  pub taken : look.taken ≡ sums.taken
  pub stored : look.stored ≡ sums.stored
  pub waiting : look.waiting ≡ sums.waiting
  pub streams_are : look.streams ≡ length (streams_of plan.nodes)
  pub ended : look.ended ≡ ended_of (length (streams_of plan.nodes)) c
  pub outputs : look.outputs ≡ length u
  pub halted : look.halted ≡ halt
  pub stop : look.stop ≡ t

looks : (plan : RunPlan) (limit : ℕ) (operators : List RunningOperator) (c : List ℕ) (halt : Bool) (u : List Out) (t : Option Stop) (sums : Sums) → IsMadeOf plan limit operators → AreWith sums [] operators → (history : List Entry)
    → StandsFor (core_of plan limit operators c halt u t) history → StandsFor (core_of plan limit operators c halt u t) (history ++ plain (Look sums.pending) ∷ [])
looks plan limit operators c halt u None sums made w history S =
    quiet-noted plan limit operators made c halt u history S (Look sums.pending) halt u refl
    ((λ o. pending-told plan limit operators made c halt u sums w history S ∙ ap pending_in (sym (same-nodes plan limit operators made c halt u history S))), inl refl)
    refl (sym (ap (λ (outs : List Out). u ++ outs) (nothing-out plan limit operators made c halt u history S (Look sums.pending) refl refl) ∙ append-nil u)) refl refl
looks plan limit operators c halt u (Some s) sums made w history S =
    stop-entered plan limit limit operators operators c c halt halt u u (Some s) s history (Look sums.pending) S
    ((λ o. absurd (off s _ S.stands.3 (stop-same plan.trace (nodes_of plan) history ∙ o))), inl refl)
    (same-outs plan limit operators c halt u (Some s) history (Look sums.pending) S (λ ns. refl) (λ ns. refl)) refl refl

tells : (plan : RunPlan) (limit : ℕ) (operators : List RunningOperator) (c : List ℕ) (halt : Bool) (u : List Out) (t : Option Stop) (sums : Sums) (look : TheLook) → IsMadeOf plan limit operators → AreWith sums [] operators → HasNumbers plan c halt u t sums look
    → t ≡ None → (history : List Entry) → StandsFor (core_of plan limit operators c halt u t) history → Tells (core_of plan limit operators c halt u t) history look
tells plan limit operators c halt u (Some s) sums look made w n e history S = cc
tells plan limit operators c halt u None sums look made w n e history S = record {
  pending = n.pending ∙ pending-told plan limit operators made c halt u sums w history S;
  taken = ap₂ (λ (a b : ℕ). a + b) n.taken n.pending ∙ opened-told plan limit operators made c halt u sums w history S;
  stored = n.stored ∙ stored-told plan limit operators made c halt u sums w history S;
  waiting = n.waiting ∙ waiting-told plan limit operators made c halt u sums w history S;
  ended = n.ended ∙ ap (ended_of (length (streams_of plan.nodes))) (ap (λ (k : CoreKept). k.closed) (kept-is plan limit operators made c halt u history S) ∙ closed-same plan.trace (nodes_of plan) history);
}

pub is-look : (plan : RunPlan) (limit : ℕ) (operators : List RunningOperator) (c : List ℕ) (halt : Bool) (u : List Out) (t : Option Stop) (sums : Sums) (look : TheLook) → IsMadeOf plan limit operators → AreWith sums [] operators → HasNumbers plan c halt u t sums look
    → IsLookAt (core_of plan limit operators c halt u t) look
is-look plan limit operators c halt u t sums look made w n = record {
  outputs = n.outputs;
  halted = n.halted;
  stop = n.stop;
  streams = n.streams_are;
  tells = λ e history S. tells plan limit operators c halt u t sums look made w n e history S;
  notes = record {
    plan = refl;
    limit = refl;
    stands = λ history S. subst (λ (m : ℕ). StandsFor (core_of plan limit operators c halt u t) (history ++ plain (Look m) ∷ [])) (sym n.pending) (looks plan limit operators c halt u t sums made w history S);
  };
}

-- ---- peaks

pub is-peak : (plan : RunPlan) (limit : ℕ) (operators : List RunningOperator) (c : List ℕ) (halt : Bool) (u : List Out) (t : Option Stop) (join : ℕ) → IsMadeOf plan limit operators → join < length operators → IsPeak (core_of plan limit operators c halt u t) join (peak_seen (running_at operators join))
is-peak plan limit operators c halt u (Some s) join made lt e history S = cc
is-peak plan limit operators c halt u None join made lt e history S =
    let z : 0 + join ≡ join = omega arith in
    sym (get_or-map peak_seen operators join no_operator 0 lt) ∙ ap (λ (ns : List ℕ). get_or ns join 0) (ap (λ (k : CoreKept). k.peaks) (kept-is plan limit operators made c halt u history S))
    ∙ get_or-upto (peak_of (nodes_of plan) history) 0 (length (nodes_of plan)) join 0
    (let a = (are plan limit operators made c halt u history S).long in let b = long-now plan limit history made.0 S.legal in let d = nodes-long plan in omega (arith, lt, a, b, d))
    ∙ ap (peak_of (nodes_of plan) history) z
