-- Hands over the auction that are stepped: what each call leaves.
use Rattle.std.proofs.Common.{ℕ, zero, suc, ◌<◌, Bool, true, false, cond, List, [], ◌∷◌, ◌++◌, ◌≡◌, ◌⊎◌, Option, Some, None, length, get_or, eqb, refl, sym, ap, ap₂, ◌∙◌, subst, inl, inr, arith, append_assoc}
use Rattle.std.specs.Prelude.{IfSome}
use Rattle.std.proofs.lemmas.Bool.{false≢true}
use Rattle.pj_value.proofs.Members.{In-append_cases}
use Rattle.pj_shape.specs.declared.columns.Column.{Column}
use Rattle.pj_shape.specs.Columns.{domains_of}
use Rattle.pj_pattern.specs.Fitting.{FitsDomains}
use Rattle.pj_pattern.specs.Patterns.{Pattern}
use Rattle.pj_pattern.specs.declared.element.Element.{Element}
use Rattle.pj_pattern.specs.declared.element.Element.TheVariants.{Tuple, Punct}
use Rattle.pj_plan.specs.declared.node.Node.{Node as Operation}
use Rattle.pj_plan.specs.declared.node.Node.TheVariants.{Stream as StreamNode, Select as SelectNode, Project as ProjectNode, Union as UnionNode, Join as JoinNode, Group as GroupNode}
use Rattle.pj_plan.specs.declared.node.PlanNode.{PlanNode}
use Rattle.pj_plan.specs.Canonical.{no_node}
use Rattle.pj_plan.specs.Nodes.{is_stream, stream_columns, streams_in, streams_of}
use Rattle.pj_scheme.specs.Derived.{schemes_of}
use Rattle.pj_events.specs.declared.events.Entry.{Entry}
use Rattle.pj_events.specs.Join.{In, has}
use Rattle.pj_events.specs.Patterns.{all_wild}
use Rattle.pj_events.specs.Plan.{ArePlanned, IsClearOf, MayArrive, Node, Operator, Stream, operator_at}
use Rattle.pj_events.specs.History.{Closes, Reached, begun, closed_after, nodes_from, reached_of, stream_node, streams_of as streams_among}
use Rattle.pj_events.specs.OneThread.{Pending, Turn, arrival_of, is_punct, next_probe, schema_of}
use Rattle.pj_events.specs.Outcomes.{elements_of}
use Rattle.pj_laws.specs.HistoryLaws.{schema_at}
use Rattle.pj_laws.proofs.Arriving.{stream-node-from}
use Rattle.pj_laws.proofs.Histories.{nodes-append, reached-append, reached-nodes}
use Rattle.pj_laws.proofs.OneRun.{elements-append, stream-node-there}
use Rattle.pj_laws.proofs.OneThreadAnswer.{streams-hold, wilds-fit}
use Rattle.pj_laws.proofs.Probes.{length-from}
use Rattle.pj_core.specs.Calls.{IsFresh, arriving_of, closing_of}
use Rattle.pj_core.specs.Cores.{CoreState, MayFollow, StandsFor, nodes_after, nodes_in}
use Rattle.pj_core.specs.Plans.{RunPlan, nodes_of, operator_of}
use Rattle.pj_core.proofs.Frames.{certs_at, operator-is}
use Rattle.pj_core.proofs.Planned.{planned}
use Rattle.pj_core.proofs.Streams.{columns_there, number_below, stream-number, stream-there}
use Rattle.pj_core_laws.proofs.Allowed.{goes-on}
use Rattle.pj_core_laws.proofs.PlainAnswers.{same-streams}
use Rattle.pj_script.specs.declared.step.ScriptStep.{ScriptStep}
use Rattle.pj_script.specs.declared.step.ScriptStep.TheVariants.{Arrive, Take, Give, Sweep, Drain}
use Rattle.pj_script.specs.Playing.{finished, give_if, gives, settled, step_entry, take_if, under_way_at}
use Rattle.pj_script_laws.proofs.Acts.{Follow, IsGoing, acts-follow, finish-allowed}
use Rattle.pj_script_laws.proofs.Gives.{gives-allowed}
use Rattle.pj_hand.specs.Hands.{HandState, HandStandsFor, StandsForOne}
use Rattle.pj_hand.specs.Settling.{SettlesHand, settling}
use Rattle.pj_hand.specs.Steps.{AnswersStep, HandArrives, IsMade, IsNewHand, MakesStep, entry_at}
use Rattle.pj_test_scripts.specs.Replays.{HasClosed, HasRowsAlone, IsAuction, IsAuctionPlan, IsRunning, kinds_at}

-- ---- the streams of the plan

-- the columns of a stream, as histories speak of them
columns-are : (plan : RunPlan) (s : ℕ) → s < length (streams_of plan.nodes) → stream_columns (streams_in plan.nodes) s ≡ schema_at (nodes_of plan) s
columns-are plan s lt =
    sym (columns_there plan.nodes s lt)
    ∙ sym (go plan_node.node (stream-there plan.nodes s lt))
    ∙ ap schema_of (sym (operator-is (schemes_of plan.nodes) plan.certs plan.nodes place (number_below plan.nodes s lt)))
    ∙ ap (λ (n : ℕ). schema_of (operator_at (nodes_of plan) n)) (sym (stream-number plan [] s lt))
  where
    place : ℕ
    place = get_or (streams_of plan.nodes) s 0

    plan_node : PlanNode
    plan_node = get_or plan.nodes place no_node

    go : (o : Operation) → is_stream o ≡ true → schema_of (operator_of (schemes_of plan.nodes) (certs_at plan.nodes plan.certs place) plan_node.schema o) ≡ plan_node.schema
    go (StreamNode stated) t = refl
    go (SelectNode input test) t = absurd (false≢true t)
    go (ProjectNode input kept) t = absurd (false≢true t)
    go (UnionNode ins) t = absurd (false≢true t)
    go (JoinNode ins spec) t = absurd (false≢true t)
    go (GroupNode input spec) t = absurd (false≢true t)

kinds-are : (nodes : List PlanNode) → IsAuctionPlan nodes → (s : ℕ) → s < 2 → domains_of (stream_columns (streams_in nodes) s) ≡ kinds_at s
kinds-are nodes a zero lt = a.items
kinds-are nodes a (suc zero) lt = a.bids
kinds-are nodes a (suc (suc s)) lt = absurd (omega (arith, lt))

-- ---- what may come

module _ (core : CoreState) (A : IsAuction core.plan) (h : List Entry) (S : StandsFor core h) (on : core.kept.stop ≡ None) (s : ℕ) (lt : s < 2) where
  abbrev N : List Node
  N = nodes_in core

  abbrev r : Reached
  r = reached_of false N h

  below : s < length (streams_of core.plan.nodes)
  below = let two = A.streams.two in omega (arith, two, lt)

  there : s < length (streams_among N)
  there = subst (λ (ns : List ℕ). s < length ns) (sym (same-streams core.plan)) below

  nodes-are : r.nodes ≡ nodes_from N h
  nodes-are = reached-nodes false (begun N) h

  place : stream_node r.nodes s ≡ stream_node N s
  place = ap (λ (ns : List Node). stream_node ns s) nodes-are ∙ stream-node-from N h s

  holds : operator_at r.nodes (stream_node r.nodes s) ≡ Stream (schema_at N s) (elements_of s h)
  holds = ap₂ operator_at nodes-are place ∙ streams-hold N (planned core.plan A.sound) h S.legal s there

  -- an element that fits, and that no punctuation before it closes, may come to a stream that has not ended
  may-come : (e : Element) (closing : ℕ) → has r.closed s ≡ false → IsClearOf (elements_of s h) e → FitsDomains (domains_of (schema_at N s)) e
      → (closing ≡ 0) ⊎ ((closing ≡ 1) × Closes (Stream (schema_at N s) (elements_of s h)) e) → MayFollow core h (arrival_of (record { stream = s; element = e; closing = closing }))
  may-come e closing free clear fits mark = (
    (
      goes-on core h S on,
      free,
      (
        (let t = (stream-node-there N s there).0 in let p = place in let l = ap length nodes-are in omega (arith, t, p, l, length-from N h)),
        subst (λ (o : Operator). MayArrive o e) (sym holds) (clear, fits),
      ),
    ),
    elim mark [ inl z ↦ inl z | inr z ↦ inr (z.0, subst (λ (o : Operator). Closes o e) (sym holds) z.1) ],
  )

  comes-free : (e : Element) → r.closed ≡ [] → IsClearOf (elements_of s h) e → FitsDomains (kinds_at s) e → MayFollow core h (arrival_of (arriving_of s e))
  comes-free e unclosed clear fits =
      may-come e 0 (ap (λ (ns : List ℕ). has ns s) unclosed) clear
      (subst (λ (cs : List Column). FitsDomains (domains_of cs) e) (columns-are core.plan s below) (subst (λ (ks : List _). FitsDomains ks e) (sym (kinds-are core.plan.nodes A.streams s lt)) fits))
      (inl refl)

  may-close : has r.closed s ≡ false → MayFollow core h (arrival_of (closing_of core s))
  may-close free =
      subst (λ (cs : List Column). MayFollow core h (arrival_of (record { stream = s; element = Punct (all_wild (length cs)); closing = 1 }))) (sym (columns-are core.plan s below))
      (may-come (Punct (all_wild (length (schema_at N s)))) 1 free tt (wilds-fit (schema_at N s)) (inr (refl, refl)))

-- ---- new hands

pub new_runs : (core : CoreState) (plan : RunPlan) (limit : ℕ) (hand : HandState) → IsFresh core plan limit → IsAuctionPlan plan.nodes → IsNewHand core hand → IsRunning true hand
new_runs core plan limit hand f a n = (
  [],
  record {
    auction = subst (λ (c : CoreState). IsAuction c.plan) (sym n.over) (record { streams = subst (λ (p : RunPlan). IsAuctionPlan p.nodes) (sym f.of_plan) a; sound = f.sound; certified = f.certified });
    stands = n.stands [] f.stands;
    unclosed = refl;
    alone = λ t s patterns i. i;
  },
)

-- ---- arrivals

-- what is asked of the stream and of the element
pub is_there : (rows : Bool) (hand : HandState) (s : ℕ) → s < 2 → IsRunning rows hand → s < length (streams_of hand.core.plan.nodes)
is_there rows hand s lt (h, R) = let two = R.auction.streams.two in omega (arith, two, lt)

pub fits_there : (rows : Bool) (hand : HandState) (s : ℕ) (e : Element) → s < 2 → FitsDomains (kinds_at s) e → IsRunning rows hand → FitsDomains (domains_of (stream_columns (streams_in hand.core.plan.nodes) s)) e
fits_there rows hand s e lt fits (h, R) = subst (λ (ks : List _). FitsDomains ks e) (sym (kinds-are hand.core.plan.nodes R.auction.streams s lt)) fits

-- an arrival of an element closes no stream
arrived-unclosed : (plan : List Node) (h : List Entry) (s : ℕ) (e : Element) → (reached_of false plan h).closed ≡ [] → (reached_of false plan (h ++ arrival_of (arriving_of s e) ∷ [])).closed ≡ []
arrived-unclosed plan h s e unclosed = ap (λ (r : Reached). r.closed) (reached-append false (begun plan) h (arrival_of (arriving_of s e) ∷ [])) ∙ unclosed

arrived-alone : (h : List Entry) (s : ℕ) (e : Element) → is_punct e ≡ false → HasRowsAlone h → HasRowsAlone (h ++ arrival_of (arriving_of s e) ∷ [])
arrived-alone h s e row alone other patterns i =
    elim (In-append_cases (Punct patterns) (elements_of other h) (elements_of other (arrival_of (arriving_of s e) ∷ [])) (subst (λ (es : List Element). In (Punct patterns) es) (elements-append other h (arrival_of (arriving_of s e) ∷ [])) i)) [
      | inl k ↦ alone other patterns k
      | inr k ↦ elim (In-append_cases (Punct patterns) (cond (eqb s other) (e ∷ []) []) [] k) [ inl m ↦ here (eqb s other) m | inr m ↦ m ]
    ]
  where
    here : (b : Bool) → In (Punct patterns) (cond b (e ∷ []) []) → ⊥
    here true (inl q) = false≢true (sym row ∙ ap is_punct q)
    here true (inr k) = k
    here false k = k

pub row_comes : (old new : HandState) (s : ℕ) (row : List _) → s < 2 → FitsDomains (kinds_at s) (Tuple row) → IsRunning true old → HandArrives old new (arrival_of (arriving_of s (Tuple row))) → IsRunning true new
row_comes old new s row lt fits (h, R) a = (
  h ++ arrival_of (arriving_of s (Tuple row)) ∷ [],
  record {
    auction = subst IsAuction (sym a.plan) R.auction;
    stands = a.stands h R.stands (comes-free old.core R.auction h R.stands.stands a.on.0 s lt (Tuple row) R.unclosed (λ patterns i. absurd (R.alone refl s patterns i)) fits);
    unclosed = ap (λ (p : RunPlan). (reached_of false (nodes_of p) (h ++ arrival_of (arriving_of s (Tuple row)) ∷ [])).closed) a.plan ∙ arrived-unclosed (nodes_in old.core) h s (Tuple row) R.unclosed;
    alone = λ t. arrived-alone h s (Tuple row) refl (R.alone refl);
  },
)

pub punct_comes : (old new : HandState) (s : ℕ) (punct : List Pattern) → s < 2 → FitsDomains (kinds_at s) (Punct punct) → IsRunning false old → HandArrives old new (arrival_of (arriving_of s (Punct punct))) → IsRunning false new
punct_comes old new s punct lt fits (h, R) a = (
  h ++ arrival_of (arriving_of s (Punct punct)) ∷ [],
  record {
    auction = subst IsAuction (sym a.plan) R.auction;
    stands = a.stands h R.stands (comes-free old.core R.auction h R.stands.stands a.on.0 s lt (Punct punct) R.unclosed tt fits);
    unclosed = ap (λ (p : RunPlan). (reached_of false (nodes_of p) (h ++ arrival_of (arriving_of s (Punct punct)) ∷ [])).closed) a.plan ∙ arrived-unclosed (nodes_in old.core) h s (Punct punct) R.unclosed;
    alone = λ t. absurd (false≢true t);
  },
)

-- ---- steps

pub stands_for_one : (rows : Bool) (hand : HandState) → IsRunning rows hand → StandsForOne hand
stands_for_one rows hand (h, R) = (h, R.stands)

-- it does not matter that rows alone came
pub runs_on : (hand : HandState) → IsRunning true hand → IsRunning false hand
runs_on hand (h, R) = (h, record { auction = R.auction; stands = R.stands; unclosed = R.unclosed; alone = λ t. absurd (false≢true t) })

-- the entry closes no stream
abbrev IsQuiet : Entry → Type 0
IsQuiet e = (closed : List ℕ) → closed_after closed e.closing e.event ≡ closed

-- no arrival
abbrev pub IsAct : ScriptStep → Type 0
IsAct (Arrive stream) = ⊥
IsAct Take = Unit {0}
IsAct (Give join ticket) = Unit {0}
IsAct (Sweep join input) = Unit {0}
IsAct Drain = Unit {0}

acts-quietly : (nodes : List Node) (left : List (List Turn)) (step : ScriptStep) → IsAct step → IfSome (step_entry nodes left step) IsQuiet
acts-quietly nodes left (Arrive stream) a = absurd a
acts-quietly nodes left Take a = go (next_probe nodes)
  where
    go : (p : Option Pending) → IfSome (take_if p) IsQuiet
    go None = tt
    go (Some p) = λ closed. refl
acts-quietly nodes left (Give join ticket) a = go (has (under_way_at nodes join) ticket)
  where
    go : (b : Bool) → IfSome (give_if b join ticket) IsQuiet
    go false = tt
    go true = λ closed. refl
acts-quietly nodes left (Sweep join input) a = λ closed. refl
acts-quietly nodes left Drain a = λ closed. refl

made-runs : (old new : HandState) (step : ScriptStep) → IsAct step → MakesStep old new step → IsRunning false old → IsRunning false new
made-runs old new step act m (h, R) = go (entry_at old h [] step) (acts-quietly (nodes_after old.core h) [] step act) (m.makes h R.stands [])
  where
    go : (o : Option Entry) → IfSome o IsQuiet → IsMade old new h o → IsRunning false new
    go None quiet made = absurd made
    go (Some e) quiet made = (
      h ++ e ∷ [],
      record {
        auction = subst IsAuction (sym m.plan) R.auction;
        stands = made.1;
        unclosed = ap (λ (p : RunPlan). (reached_of false (nodes_of p) (h ++ e ∷ [])).closed) m.plan ∙ ap (λ (r : Reached). r.closed) (reached-append false (begun (nodes_in old.core)) h (e ∷ [])) ∙ quiet (reached_of false (nodes_in old.core) h).closed ∙ R.unclosed;
        alone = λ t. absurd (false≢true t);
      },
    )

pub step_runs : (made : Bool) (old new : HandState) (step : ScriptStep) → IsAct step → AnswersStep made old new step → IsRunning false old → IsRunning false new
step_runs true old new step act m run = made-runs old new step act m run
step_runs false old new step act m run = subst (IsRunning false) (sym m.stays) run

pub sweep_runs : (old new : HandState) (join input : ℕ) → MakesStep old new (Sweep join input) → IsRunning false old → IsRunning false new
sweep_runs old new join input m run = made-runs old new (Sweep join input) tt m run

-- ---- settling

pub settle_runs : (old new : HandState) (outs : List _) → SettlesHand old new outs → IsRunning false old → IsRunning false new
settle_runs old new outs m (h, R) = (
  h ++ settling old h,
  record {
    auction = subst IsAuction (sym m.makes.plan) R.auction;
    stands = m.makes.stands h R.stands;
    unclosed = ap (λ (p : RunPlan). (reached_of false (nodes_of p) (h ++ settling old h)).closed) m.makes.plan ∙ ap (λ (g : List Entry). (reached_of false plan g).closed) (sym cut) ∙ rest.closed ∙ first.closed ∙ R.unclosed;
    alone = λ t. absurd (false≢true t);
  },
)
  where
    plan : List Node
    plan = nodes_in old.core

    made : ArePlanned [] plan
    made = planned old.core.plan R.auction.sound

    N : List Node
    N = nodes_from plan h

    going : IsGoing plan h
    going = record { legal = R.stands.stands.legal; on = goes-on old.core h R.stands.stands m.makes.on.0 }

    first : Follow plan h (gives N)
    first = acts-follow plan h (gives N) going (gives-allowed plan made h going)

    after : List Entry
    after = h ++ gives N

    rest : Follow plan after (finished (nodes_from plan after))
    rest = acts-follow plan after (finished (nodes_from plan after)) first.going (finish-allowed plan made R.auction.certified after first.going)

    cut : after ++ finished (nodes_from plan after) ≡ h ++ settled N
    cut = append_assoc h (gives N) (finished (nodes_from plan after)) ∙ ap (λ (ns : List Node). h ++ (gives N ++ finished ns)) (nodes-append plan h (gives N))

-- ---- both streams end

pub both_end : (a b c : HandState) → IsRunning false a → HasClosed a b 0 → HasClosed b c 1 → StandsForOne c
both_end a b c (h, R) x y = (g ++ arrival_of (closing_of b.core 1) ∷ [], y.stands g stands-b (may-close b.core auction-b g stands-b.stands y.on.0 1 (omega arith) unclosed-b))
  where
    g : List Entry
    g = h ++ arrival_of (closing_of a.core 0) ∷ []

    stands-b : HandStandsFor b g
    stands-b = x.stands h R.stands (may-close a.core R.auction h R.stands.stands x.on.0 0 (omega arith) (ap (λ (ns : List ℕ). has ns 0) R.unclosed))

    auction-b : IsAuction b.core.plan
    auction-b = subst IsAuction (sym x.plan) R.auction

    unclosed-b : has (reached_of false (nodes_in b.core) g).closed 1 ≡ false
    unclosed-b =
        ap (λ (p : RunPlan). has (reached_of false (nodes_of p) g).closed 1) x.plan
        ∙ ap (λ (r : Reached). has r.closed 1) (reached-append false (begun (nodes_in a.core)) h (arrival_of (closing_of a.core 0) ∷ []))
        ∙ ap (λ (ns : List ℕ). has (0 ∷ ns) 1) R.unclosed
