-- The next turn of a stream may follow what has arrived, and what has arrived behind it.
use Rattle.std.proofs.Common.{◌≡◌, ◌≢◌, ℕ, zero, suc, ◌+◌, ◌<◌, Bool, true, false, cond, ◌||◌, List, [], ◌∷◌, ◌++◌, length, map, get_or, set, Some, None, eqb, refl, ap, ap₂, sym, ◌∙◌, subst, inl, inr, append-nil, arith, zero-add}
use Rattle.std.specs.List.{slice_get}
use Rattle.std.proofs.lemmas.Bool.{cases_eq, eq-eqb, ne_eqb, false≢true}
use Rattle.std.proofs.lemmas.List.{get_or-map, get_or-set_other, get_or-set_same, length-map, length-set}
use Rattle.pj_value.specs.Lists.{has}
use Rattle.pj_shape.specs.declared.columns.Column.{Column}
use Rattle.pj_pattern.specs.declared.element.Element.{Element}
use Rattle.pj_pattern.specs.declared.element.Element.TheVariants.{Punct}
use Rattle.pj_pattern.specs.Columns.{all_wild}
use Rattle.pj_plan.specs.declared.node.PlanNode.{PlanNode}
use Rattle.pj_plan.specs.Nodes.{stream_columns, streams_in}
use Rattle.pj_plan.specs.Sound.{IsSoundPlan}
use Rattle.pj_events.specs.declared.events.Entry.{Entry}
use Rattle.pj_events.specs.Plan.{ArePlanned, Node}
use Rattle.pj_events.specs.History.{Reached, begun, reached_of, streams_of}
use Rattle.pj_events.specs.OneThread.{Turn, arrival_of, turns_of}
use Rattle.pj_events.specs.Outcomes.{elements_of as arrived_at}
use Rattle.pj_laws.specs.HistoryLaws.{AreAccepted, AreAcceptedLists, schema_at}
use Rattle.pj_laws.proofs.HistoryAnswers.{grows-legally}
use Rattle.pj_laws.proofs.Histories.{reached-append}
use Rattle.pj_laws.proofs.OneRun.{elements-append}
use Rattle.pj_core.specs.Cores.{CoreState, MayFollow, nodes_in}
use Rattle.pj_core.specs.Plans.{RunPlan, nodes_of}
use Rattle.pj_core.proofs.Planned.{planned}
use Rattle.pj_core_laws.proofs.Allowed.{goes-on}
use Rattle.pj_feed.specs.declared.feeds.Arrival.{Arrival}
use Rattle.pj_feed.specs.declared.feeds.Arrival.TheVariants.{Brought, Closing}
use Rattle.pj_feed.specs.Feeds.{FeedState, AreFeeds, BringsOf, ComesBehind, HasAccepted, IsSameFeed, brought_in, turn_in}
use Rattle.pj_feed.proofs.AllFeeds.{IsOneOf, get_set, one_of}
use Rattle.pj_hand.specs.Hands.{HandState, HandStandsFor}
use Rattle.pj_report.specs.declared.writer.Form.TheVariants.{AsTheyCome}
use Rattle.pj_run.specs.Jobs.{Job}
use Rattle.pj_run.specs.Runs.{job_in, plan_in, run_nodes}
use Rattle.pj_run.proofs.AcceptedLaws.{accepted_file}
use Rattle.pj_run.proofs.Accepting.{count-streams, schema-is}
use Rattle.pj_script_laws.proofs.Arrivals.{turn-arrives}
use Rattle.pj_replay.specs.Playing.{Follows, HasCome}

-- ---- the streams of a core's plan

-- what a core runs, whatever is written of it
abbrev pub job_of : CoreState → Job
job_of core = job_in (record { form = AsTheyCome; check = false }) core

pub streams-count : (core : CoreState) → core.plan ≡ plan_in core → length (streams_of (nodes_in core)) ≡ length (streams_in core.plan.nodes)
streams-count core plan = ap (λ (p : RunPlan). length (streams_of (nodes_of p))) plan ∙ count-streams (job_of core)

columns-at : (core : CoreState) (s : ℕ) → core.plan ≡ plan_in core → s < length (streams_in core.plan.nodes) → schema_at (nodes_in core) s ≡ stream_columns (streams_in core.plan.nodes) s
columns-at core s plan lt = ap (λ (p : RunPlan). schema_at (nodes_of p) s) plan ∙ schema-is (job_of core) s (length (run_nodes (job_of core))) lt

-- ---- lists in which one stream alone has elements

-- none of any
abbrev empty : ℕ → List Element
empty n = []

abbrev only : List Node → ℕ → List Element → List (List Element)
only nodes s es = set (map empty (streams_of nodes)) s es

only-at : (nodes : List Node) (s : ℕ) (es : List Element) → s < length (streams_of nodes) → get_or (only nodes s es) s [] ≡ es
only-at nodes s es lt = get_or-set_same (map empty (streams_of nodes)) s es [] (let l = length-map (streams_of nodes) empty in omega (arith, l, lt))

only-accepted : (nodes : List Node) (s : ℕ) (es : List Element) → s < length (streams_of nodes) → AreAccepted (schema_at nodes s) es → AreAcceptedLists nodes (only nodes s es)
only-accepted nodes s es lt fine = (
  length-set (map empty (streams_of nodes)) s es ∙ length-map (streams_of nodes) empty,
  λ k within. elim (cases_eq k s) [
    | inl q ↦ subst (λ (n : ℕ). AreAccepted (schema_at nodes n) (get_or (only nodes s es) n [])) (sym q) (subst (AreAccepted (schema_at nodes s)) (sym (only-at nodes s es lt)) fine)
    | inr ne ↦ subst (AreAccepted (schema_at nodes k)) (sym (get_or-set_other (map empty (streams_of nodes)) s k es [] ne ∙ get_or-map empty (streams_of nodes) k 0 [] within)) (λ e h. absurd h, tt)
  ],
)

-- ---- the next turn

module _ (hand : HandState) (feeds : List FeedState) (history : List Entry) (s : ℕ) (feed feed' : FeedState) (next : Arrival) (sound : IsSoundPlan hand.core.plan.nodes) (plan : hand.core.plan ≡ plan_in hand.core) (on : hand.core.kept.stop ≡ None)
    (fed : AreFeeds 0 (streams_in hand.core.plan.nodes) feeds) (follows : Follows hand feeds history) (is : slice_get feeds s ≡ Some feed) (still : feed.is_open ≡ true) (same : IsSameFeed feed feed') (brings : BringsOf feed next) (comes : ComesBehind feed feed' next) where
  abbrev nodes : List Node
  nodes = nodes_in hand.core

  abbrev streams : List PlanNode
  streams = streams_in hand.core.plan.nodes

  abbrev t : Turn
  t = turn_in streams next

  made : ArePlanned [] nodes
  made = planned hand.core.plan sound

  o : IsOneOf streams (0 + s) s feed
  o = one_of 0 streams feeds s feed fed is

  lt : s < length (streams_of nodes)
  lt = let c = streams-count hand.core plan in omega (arith, o.there, c)

  come : HasCome hand history s feed
  come = follows.come s feed is still

  schema : schema_at nodes s ≡ stream_columns streams s
  schema = columns-at hand.core s plan o.there

  behind : HasAccepted feed' (come.es ++ brought_in next)
  behind = comes.accepted come.es come.accepted

  -- what has come with it is accepted
  fine : AreAccepted (schema_at nodes s) (come.es ++ brought_in next)
  fine =
      subst (λ (ks : List Column). AreAccepted ks (come.es ++ brought_in next)) (same.columns ∙ o.schema ∙ sym schema)
      (subst (AreAccepted feed'.intake.columns) (sym behind.are) (accepted_file feed'.intake.columns behind.fed.judged))

  abbrev all : List (List Element)
  all = only nodes s (come.es ++ brought_in next)

  -- the turn is the first of those that are left
  first : (n : Arrival) → BringsOf feed n → (rest : List Turn) × (turn_in streams n ∷ rest ≡ turns_of s (schema_at nodes s) (brought_in n))
  first (Brought stream element) b = (
    turns_of s (schema_at nodes s) [],
    ap (λ (k : ℕ). record { stream = k; element = element; closing = 0 } ∷ turns_of s (schema_at nodes s) []) (b.0 ∙ o.is_number ∙ zero-add s),
  )
  first (Closing stream) b =
      let number : stream ≡ s = b ∙ o.is_number ∙ zero-add s in
      ([], ap₂ (λ (k : ℕ) (ks : List Column). record { stream = k; element = Punct (all_wild (length ks)); closing = 1 } ∷ []) number (ap (stream_columns streams) number ∙ sym schema))

  pub may_come : MayFollow hand.core history (arrival_of t)
  may_come =
      let f = first next brings in
      ((grows-legally nodes history (arrival_of t)).0
      (turn-arrives nodes made all (only-accepted nodes s (come.es ++ brought_in next) lt fine) history s t f.0
      (record { legal = follows.stands.stands.legal; on = goes-on hand.core history follows.stands.stands on }) lt
      (inl (record {
        later = brought_in next;
        turns_are = f.1;
        parts = only-at nodes s (come.es ++ brought_in next) lt ∙ ap (λ (es : List Element). es ++ brought_in next) (sym come.arrived);
        unclosed = come.unclosed;
      }))).going.legal).1

  -- ---- what has arrived behind it

  number : (n : Arrival) → BringsOf feed n → (turn_in streams n).stream ≡ s
  number (Brought stream element) b = b.0 ∙ o.is_number ∙ zero-add s
  number (Closing stream) b = b ∙ o.is_number ∙ zero-add s

  arrived-more : (k : ℕ) → arrived_at k (history ++ arrival_of t ∷ []) ≡ arrived_at k history ++ cond (eqb t.stream k) (t.element ∷ []) []
  arrived-more k = elements-append k history (arrival_of t ∷ []) ∙ ap (λ (xs : List Element). arrived_at k history ++ xs) (append-nil (cond (eqb t.stream k) (t.element ∷ []) []))

  closed-more : (reached_of false nodes (history ++ arrival_of t ∷ [])).closed ≡ cond (eqb t.closing 1) (t.stream ∷ (reached_of false nodes history).closed) (reached_of false nodes history).closed
  closed-more = ap (λ (r : Reached). r.closed) (reached-append false (begun nodes) history (arrival_of t ∷ []))

  -- other streams stay as they are
  others-closed : (k : ℕ) → k ≢ s → has (reached_of false nodes (history ++ arrival_of t ∷ [])).closed k ≡ has (reached_of false nodes history).closed k
  others-closed k ne = ap (λ (ns : List ℕ). has ns k) closed-more ∙ go (eqb t.closing 1)
    where
      go : (b : Bool) → has (cond b (t.stream ∷ (reached_of false nodes history).closed) (reached_of false nodes history).closed) k ≡ has (reached_of false nodes history).closed k
      go true = ap (λ (b : Bool). b || has (reached_of false nodes history).closed k) (ne_eqb t.stream k (λ q. ne (sym q ∙ number next brings)))
      go false = refl

  others-arrived : (k : ℕ) → k ≢ s → arrived_at k (history ++ arrival_of t ∷ []) ≡ arrived_at k history
  others-arrived k ne =
      arrived-more k ∙ ap (λ (b : Bool). arrived_at k history ++ cond b (t.element ∷ []) []) (ne_eqb t.stream k (λ q. ne (sym q ∙ number next brings))) ∙ append-nil (arrived_at k history)

  -- and this one, where its closing is still to come
  own-come : (n : Arrival) → n ≡ next → feed'.is_open ≡ true → HasCome hand (history ++ arrival_of t ∷ []) s feed'
  own-come (Closing stream) q opened = absurd (false≢true (sym (comes.still ∙ ap (λ (a : Arrival). still-of a) (sym q)) ∙ opened))
    where
      still-of : Arrival → Bool
      still-of (Brought stream element) = true
      still-of (Closing stream) = false
  own-come (Brought stream element) q opened = record {
    es = come.es ++ brought_in next;
    accepted = behind;
    arrived =
        arrived-more s ∙ ap₂ (λ (b : Bool) (xs : List Element). xs ++ cond b (t.element ∷ []) []) (eq-eqb t.stream s (number next brings)) come.arrived
        ∙ ap (λ (a : Arrival). come.es ++ (turn_in streams a).element ∷ []) (sym q) ∙ ap (λ (a : Arrival). come.es ++ brought_in a) q;
    unclosed =
        ap (λ (ns : List ℕ). has ns s) closed-more
        ∙ ap (λ (a : Arrival). has (cond (eqb (turn_in streams a).closing 1) (t.stream ∷ (reached_of false nodes history).closed) (reached_of false nodes history).closed) s) (sym q) ∙ come.unclosed;
  }

  -- another feed is still there
  get-other : (fs : List FeedState) (k j : ℕ) → j ≢ k → slice_get (set fs k feed') j ≡ slice_get fs j
  get-other [] k j ne = refl
  get-other (f ∷ fs) zero zero ne = absurd (ne refl)
  get-other (f ∷ fs) zero (suc j) ne = refl
  get-other (f ∷ fs) (suc k) zero ne = refl
  get-other (f ∷ fs) (suc k) (suc j) ne = get-other fs k j (λ q. ne (ap suc q))

  come-now : (k : ℕ) (f : FeedState) → slice_get (set feeds s feed') k ≡ Some f → f.is_open ≡ true → HasCome hand (history ++ arrival_of t ∷ []) k f
  come-now k f at opened = elim (cases_eq k s) [
    | inl q ↦
        let mine : feed' ≡ f = let e : Some feed' ≡ Some f = sym (get_set feeds s feed feed' is) ∙ ap (slice_get (set feeds s feed')) (sym q) ∙ at in cc e in
        subst (λ (n : ℕ). HasCome hand (history ++ arrival_of t ∷ []) n f) (sym q) (subst (HasCome hand (history ++ arrival_of t ∷ []) s) mine (own-come next refl (ap (λ (g : FeedState). g.is_open) mine ∙ opened)))
    | inr ne ↦
        let c = follows.come k f (sym (get-other feeds s k ne) ∙ at) opened in
        record { es = c.es; accepted = c.accepted; arrived = others-arrived k ne ∙ c.arrived; unclosed = others-closed k ne ∙ c.unclosed }
  ]

  pub follows_turn : (new : HandState) → new.core.plan ≡ hand.core.plan → HandStandsFor new (history ++ arrival_of t ∷ []) → Follows new (set feeds s feed') (history ++ arrival_of t ∷ [])
  follows_turn new p stands = record {
    stands = stands;
    come = λ k f at opened.
        let c = come-now k f at opened in
        record { es = c.es; accepted = c.accepted; arrived = c.arrived; unclosed = ap (λ (q : RunPlan). has (reached_of false (nodes_of q) (history ++ arrival_of t ∷ [])).closed k) p ∙ c.unclosed };
  }
