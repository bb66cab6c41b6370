-- Where nothing is pending: no probe is made, and what is done at a node leaves the nodes below it as they are.
use Rattle.std.proofs.Common.{ℕ, zero, suc, ◌+◌, ◌<◌, ◌≤◌, Bool, true, false, List, [], ◌∷◌, ◌++◌, ◌≡◌, None, map, length, get_or, set, refl, sym, ap, ◌∙◌, subst, inl, inr, arith, append-nil}
use Rattle.std.proofs.lemmas.Bool.{cases_lt}
use Rattle.std.proofs.lemmas.List.{get_or-set_other, nil_from_length}
use Rattle.pj_events.specs.declared.events.Entry.{Entry}
use Rattle.pj_events.specs.declared.events.Out.{Out}
use Rattle.pj_events.specs.CoreKept.{CoreKept, KeptOperator, NothingKept, kept_in}
use Rattle.pj_events.specs.History.{nodes_from, state_in}
use Rattle.pj_events.specs.KeptState.{lacking}
use Rattle.pj_events.specs.Limits.{StaysWithin}
use Rattle.pj_events.specs.OneThread.{pending_at, probes_at, probes_from}
use Rattle.pj_events.specs.Plan.{Operator, Stream, Select, Project, Union, Join, Group, Node}
use Rattle.pj_operator.specs.Acts.{HasSweptAt, ProbesOn}
use Rattle.pj_operator.specs.Emitting.{Scene}
use Rattle.pj_operator.specs.Operators.{kept_seen, no_operator, pending_kept, running_at}
use Rattle.pj_operator.specs.declared.operator.RunningOperator.{RunningOperator}
use Rattle.pj_core.specs.Cores.{CoreState, StandsFor, nodes_after, nodes_in}
use Rattle.pj_core.specs.Parts.{core_of}
use Rattle.pj_core.specs.Plans.{RunPlan}
use Rattle.pj_core.specs.Turns.{IsQuiet, IsQuietBelow, Makes, ProbesAbove, StaysQuietBelow, kept_pending, probing_upto}
use Rattle.pj_core.proofs.Probes.{kept-at}

-- ---- no probe is made

-- what is kept of nodes tells how many tickets are pending at each
kept-long : (nodes : List Node) (n : ℕ) → pending_kept (get_or (map (λ (x : Node). kept_in x.operator) nodes) n NothingKept) ≡ length (pending_at nodes n)
kept-long [] n = refl
kept-long (node ∷ nodes) zero = of node.operator
  where
    of : (o : Operator) → pending_kept (kept_in o) ≡ length (lacking (state_in o).taken (state_in o).tuples)
    of (Stream schema sent) = refl
    of (Select test) = refl
    of (Project columns) = refl
    of (Union m u) = refl
    of (Join spec s) = refl
    of (Group spec rows) = refl
kept-long (node ∷ nodes) (suc n) = kept-long nodes n

none-pending : (core : CoreState) → core.kept.stop ≡ None → (h : List Entry) → StandsFor core h → (n : ℕ) → kept_pending core n ≡ 0 → pending_at (nodes_after core h) n ≡ []
none-pending core on h S n e =
    let kept : core.kept.nodes ≡ map (λ (x : Node). kept_in x.operator) (nodes_after core h) = ap (λ (k : CoreKept). k.nodes) (S.stands.0 (sym S.stands.3 ∙ on)) in
    nil_from_length (pending_at (nodes_after core h) n)
    (sym (kept-long (nodes_after core h) n) ∙ ap (λ (ks : List KeptOperator). pending_kept (get_or ks n NothingKept)) (sym kept) ∙ e)

none-from : (nodes : List Node) (k m : ℕ) → ((n : ℕ) → n < k + m → pending_at nodes n ≡ []) → probes_from nodes k m ≡ []
none-from nodes k zero f = refl
none-from nodes k (suc m) f =
    ap (λ (ts : List ℕ). probes_at k ts ++ probes_from (nodes_from nodes (probes_at k ts)) (k + 1) m) (f k (omega arith))
    ∙ none-from nodes (k + 1) m (λ n lt. f n (omega (arith, lt)))

-- where nothing is pending below a node no probe is made there
pub makes-none : (a : CoreState) (node : ℕ) → a.kept.stop ≡ None → IsQuietBelow a node → Makes a a (probing_upto a node)
makes-none a node on quiet = record {
  plan = refl;
  limit = refl;
  on = on;
  within = λ h S. subst (StaysWithin a.limit (nodes_in a) h) (sym (none h S)) tt;
  stands = λ h S. subst (λ (es : List Entry). StandsFor a (h ++ es)) (sym (none h S)) (subst (StandsFor a) (sym (append-nil h)) S);
}
  where
    none : (h : List Entry) → StandsFor a h → probing_upto a node h ≡ []
    none h S = none-from (nodes_after a h) 0 node (λ n lt. none-pending a on h S n (quiet n (omega (arith, lt))))

-- ---- nodes that are quiet

pub quiet-all : (a b : CoreState) (node : ℕ) → node ≡ length a.plan.nodes → b.plan ≡ a.plan → IsQuietBelow b node → IsQuiet b
quiet-all a b node e p quiet n lt = quiet n (let l = ap (λ (plan : RunPlan). length plan.nodes) p in omega (arith, lt, e, l))

pub quiet-below : (a : CoreState) (node : ℕ) → node ≤ length a.plan.nodes → IsQuiet a → IsQuietBelow a node
quiet-below a node le quiet n lt = quiet n (omega (arith, lt, le))

module _ (plan : RunPlan) (limit : ℕ) (operators : List RunningOperator) (c : List ℕ) (halt : Bool) (u : List Out) (place : ℕ) (new : List RunningOperator) (u' : List Out) where
  abbrev before : CoreState
  before = core_of plan limit operators c halt u None

  abbrev behind : CoreState
  behind = core_of plan limit new c halt u' None

  -- what changes one node and the nodes above it leaves those below it as they are
  stays-below : (operator : RunningOperator) → ((n : ℕ) → n ≤ place → running_at new n ≡ running_at (set operators place operator) n) → StaysQuietBelow before behind place
  stays-below operator same quiet n lt =
      kept-at new n
      ∙ ap (λ (x : RunningOperator). pending_kept (kept_seen x.state)) (same n (omega (arith, lt)) ∙ get_or-set_other operators place n operator no_operator (λ e. omega (arith, lt, e)))
      ∙ sym (kept-at operators n) ∙ quiet n lt

  pub probes-above : (more : Bool) → ProbesOn more (record { operators = operators; outs = u }) (record { operators = new; outs = u' }) place → ProbesAbove more before behind place
  probes-above true H = stays-below (record (running_at operators place) { state = H.state; peak = (running_at operators place).peak }) H.emits.below
  probes-above false H = λ quiet n lt. elim (cases_lt n place) [
    | inl l ↦ same n (quiet n l)
    | inr ge ↦ same n (let e : place ≡ n = omega (arith, lt, ge) in subst (λ (m : ℕ). kept_pending before m ≡ 0) e (kept-at operators place ∙ H.1))
  ]
    where
      same : (n : ℕ) → kept_pending before n ≡ 0 → kept_pending behind n ≡ 0
      same n e = ap (λ (s : Scene). kept_pending (core_of plan limit s.operators c halt s.outs None) n) H.0 ∙ e

  pub sweeps-above : (input count : ℕ) → HasSweptAt plan.trace (record { operators = operators; outs = u }) (record { operators = new; outs = u' }) place input count → StaysQuietBelow before behind place
  sweeps-above input count H = stays-below H.operator H.emits.below
