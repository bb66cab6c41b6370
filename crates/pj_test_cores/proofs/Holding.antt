-- Cores to which rows came, and from which probes were taken.
use Rattle.std.proofs.Common.{ℕ, zero, suc, ◌<◌, Bool, true, false, cond, ◌&&◌, List, [], ◌∷◌, ◌++◌, ◌≡◌, None, map, length, get_or, eqb, refl, sym, ap, ap₂, ◌∙◌, subst, inl, inr, arith}
use Rattle.std.proofs.lemmas.Bool.{and_parts, eqb-true, false≢true, ne_eqb}
use Rattle.std.proofs.lemmas.List.{map-append}
use Rattle.std.proofs.lemmas.List.Elements.{filter-append}
use Rattle.pj_value.proofs.Members.{In-append_cases, In-append_left}
use Rattle.pj_shape.specs.declared.columns.Column.{Column}
use Rattle.pj_shape.specs.declared.joins.CertStep.{CertStep}
use Rattle.pj_shape.specs.Columns.{domains_of}
use Rattle.pj_pattern.specs.Fitting.{FitsDomains}
use Rattle.pj_pattern.specs.Patterns.{Pattern}
use Rattle.pj_pattern.specs.declared.element.Element.{Element}
use Rattle.pj_pattern.specs.declared.element.Element.TheVariants.{Tuple, Punct}
use Rattle.pj_plan.specs.declared.node.Node.{Node as Operation}
use Rattle.pj_plan.specs.declared.node.Node.TheVariants.{Stream as StreamNode, Select as SelectNode, Project as ProjectNode, Union as UnionNode, Join as JoinNode, Group as GroupNode}
use Rattle.pj_plan.specs.declared.node.PlanNode.{PlanNode}
use Rattle.pj_plan.specs.Canonical.{no_node}
use Rattle.pj_plan.specs.Nodes.{is_stream, stream_columns, streams_in, streams_of as plan_streams}
use Rattle.pj_plan.specs.Sound.{IsSoundPlan}
use Rattle.pj_scheme.specs.Derived.{schemes_of}
use Rattle.pj_events.specs.declared.events.Entry.{Entry}
use Rattle.pj_events.specs.declared.events.Event.TheVariants.{Arrive, Take as Taken, Give as Given, Sweep as Swept}
use Rattle.pj_events.specs.Join.{In, has}
use Rattle.pj_events.specs.Patterns.{all_wild}
use Rattle.pj_events.specs.Plan.{ArePlanned, IsClearOf, MayArrive, Node, Operator, Stream, operator_at}
use Rattle.pj_events.specs.History.{Closes, IsEntryAllowed, IsEventAllowed, IsLegal, IsOn, Reached, begun, next, nodes_from, reached_from, reached_of, stream_node, streams_of}
use Rattle.pj_events.specs.OneThread.{Turn, arrival_of, is_punct, plain, schema_of}
use Rattle.pj_events.specs.Outcomes.{elements_of, results_of}
use Rattle.pj_laws.specs.HistoryLaws.{schema_at}
use Rattle.pj_laws.specs.Seats.{Holds, giver_by, givers, made_by, takers}
use Rattle.pj_laws.proofs.Arriving.{stream-node-from}
use Rattle.pj_laws.proofs.Held.{held-results, holds-new, under-way}
use Rattle.pj_laws.proofs.Histories.{reached-append, reached-nodes}
use Rattle.pj_laws.proofs.Lists.{given-more, givers-append, takers-append}
use Rattle.pj_laws.proofs.OneRun.{stream-node-there}
use Rattle.pj_laws.proofs.OneThreadAnswer.{streams-hold, wilds-fit}
use Rattle.pj_laws.proofs.Probes.{length-from}
use Rattle.pj_probe.specs.declared.probe.Found.{Found}
use Rattle.pj_core.specs.Calls.{FitNode, HasGiven, HasSwept, IsFresh, IsOpen, TakesNext, arriving_of, closing_of}
use Rattle.pj_core.specs.Cores.{CoreState, MayFollow, StandsFor, nodes_in}
use Rattle.pj_core.specs.Plans.{RunPlan, nodes_of, operator_of}
use Rattle.pj_core.proofs.Frames.{certs_at, operator-is}
use Rattle.pj_core.proofs.Planned.{planned}
use Rattle.pj_core.proofs.Streams.{columns_there, number_below, stream-number, stream-there}
use Rattle.pj_core_laws.proofs.UnderWay.{fits-under_way, opens-under_way}
use Rattle.pj_core_laws.proofs.Allowed.{goes-on}
use Rattle.pj_core_laws.proofs.PlainAnswers.{same-streams}
use Rattle.pj_test_cores.specs.Holding.{AreRows, HasClosed, HasCome, Holding, HoldsStill, HoldsToo, IsFed, IsHolding, LetsGo}

-- ---- what one more entry keeps

own-more : (h : List Entry) (e : Entry) → e.seat ≡ 0 → made_by 0 h ≡ h → made_by 0 (h ++ e ∷ []) ≡ h ++ e ∷ []
own-more h e is own =
    filter-append (λ x. eqb x.seat 0) h (e ∷ [])
    ∙ ap (λ (n : ℕ). made_by 0 h ++ cond (eqb n 0) (e ∷ []) []) is
    ∙ ap (λ (es : List Entry). es ++ e ∷ []) own

-- an entry that gives another ticket or none
holds-more : (h : List Entry) (e : Entry) (j u : ℕ) → giver_by j u e.seat e.event ≡ [] → Holds 0 j u h → Holds 0 j u (h ++ e ∷ [])
holds-more h e j u none held = record {
  took = subst (λ (ns : List ℕ). In 0 ns) (sym (takers-append j u h (e ∷ []))) (In-append_left 0 (takers j u h) (takers j u (e ∷ [])) held.took);
  not_given = givers-append j u h (e ∷ []) ∙ ap₂ (λ (xs ys : List ℕ). xs ++ (ys ++ [])) held.not_given none;
}

module _ (old new : CoreState) (h : List Entry) (probes : List Found) (H : Holding old h probes) (same : new.plan ≡ old.plan) (on : new.kept.stop ≡ None) (e : Entry) (seat : e.seat ≡ 0) (S : StandsFor new (h ++ e ∷ [])) where
  sound : IsSoundPlan new.plan.nodes
  sound = subst (λ (p : RunPlan). IsSoundPlan p.nodes) (sym same) H.sound

  own : made_by 0 (h ++ e ∷ []) ≡ h ++ e ∷ []
  own = own-more h e seat H.own

  -- the results of what is held stay
  rows-more : (p : Found) → In p probes → p.rows ≡ results_of (nodes_in new) (h ++ e ∷ []) p.join p.ticket
  rows-more p i =
      H.rows p i
      ∙ ap (λ (plan : RunPlan). results_of (nodes_of plan) h p.join p.ticket) (sym same)
      ∙ sym (held-results (nodes_in new) (planned new.plan sound) h (e ∷ []) S.legal 0 p.join p.ticket (subst (λ (es : List Entry). In 0 (takers p.join p.ticket es)) (sym H.own) (H.held p i).took))

  -- an entry that gives nothing
  still : ((j u : ℕ) → giver_by j u e.seat e.event ≡ []) → Holding new (h ++ e ∷ []) probes
  still none = record {
    sound = sound;
    on = on;
    stands = S;
    given = given-more h e H.given (λ j u n i. absurd (subst (λ (ns : List ℕ). In n ns) (none j u) i));
    own = own;
    held = λ p i. holds-more h e p.join p.ticket (none p.join p.ticket) (H.held p i);
    rows = rows-more;
  }

-- ---- takes and sweeps

pub takes : (old new : CoreState) (p : Found) → TakesNext old new p → HoldsToo old new p
takes old new p t probes (h, H) = (
  h ++ e ∷ [],
  record {
    sound = now.sound;
    on = now.on;
    stands = now.stands;
    given = now.given;
    own = now.own;
    held = held;
    rows = rows;
  },
)
  where
    e : Entry
    e = plain (Taken p.join p.ticket)

    S : StandsFor new (h ++ e ∷ [])
    S = t.notes.stands h H.stands

    now : Holding new (h ++ e ∷ []) probes
    now = still old new h probes H t.notes.plan t.on e refl S (λ j u. refl)

    mine : Holds 0 p.join p.ticket (h ++ e ∷ [])
    mine =
        subst (Holds 0 p.join p.ticket) now.own
        (holds-new (nodes_in new) (planned new.plan now.sound) h H.given 0 p.join p.ticket S.legal)

    held : (q : Found) → In q (p ∷ probes) → Holds 0 q.join q.ticket (h ++ e ∷ [])
    held q (inl is) = subst (λ (r : Found). Holds 0 r.join r.ticket (h ++ e ∷ [])) is mine
    held q (inr i) = now.held q i

    rows : (q : Found) → In q (p ∷ probes) → q.rows ≡ results_of (nodes_in new) (h ++ e ∷ []) q.join q.ticket
    rows q (inl is) = subst (λ (r : Found). r.rows ≡ results_of (nodes_in new) (h ++ e ∷ []) r.join r.ticket) is (t.keeps h H.stands)
    rows q (inr i) = now.rows q i

pub sweeps : (old new : CoreState) (join input count : ℕ) → HasSwept old new join input count → HoldsStill old new
sweeps old new join input count s probes (h, H) =
    (h ++ plain (Swept join input) ∷ [], still old new h probes H s.notes.plan s.on.1 (plain (Swept join input)) refl (s.notes.stands h H.stands) (λ j u. refl))

-- ---- gives

-- a probe that is held may be given
pub opens : (core : CoreState) (p : Found) (probes : List Found) → IsHolding core (p ∷ probes) → core.kept.stop ≡ None → IsOpen core p
opens core p probes (h, H) on =
    opens-under_way core H.sound on h H.stands p
    (under-way (nodes_in core) (planned core.plan H.sound) h H.stands.legal H.given 0 p.join p.ticket (subst (Holds 0 p.join p.ticket) (sym H.own) (H.held p (inl refl))))

-- and its results fit its join
pub fits : (core : CoreState) (p : Found) (probes : List Found) → IsHolding core (p ∷ probes) → FitNode core p.join p.rows
fits core p probes (h, H) =
    subst (FitNode core p.join) (sym (H.rows p (inl refl)))
    (fits-under_way core H.sound h H.stands p
    (under-way (nodes_in core) (planned core.plan H.sound) h H.stands.legal H.given 0 p.join p.ticket (subst (Holds 0 p.join p.ticket) (sym H.own) (H.held p (inl refl)))))

and-no : (a b : Bool) → b ≡ false → (a && b) ≡ false
and-no true b e = e
and-no false b e = refl

alone : (b : Bool) (n : ℕ) → In n (cond b (0 ∷ []) []) → (b ≡ true) × (0 ≡ n)
alone true n (inl q) = (refl, q)
alone true n (inr i) = absurd i
alone false n i = absurd i

pub gives : (old new : CoreState) (p found : Found) → found ≡ p → HasGiven old new p found → LetsGo old new p
gives old new p found is g probes below (h, H) = (
  h ++ e ∷ [],
  record {
    sound = subst (λ (plan : RunPlan). IsSoundPlan plan.nodes) (sym g.plan) H.sound;
    on = g.on.1;
    stands = S;
    given = given-more h e H.given took;
    own = own-more h e refl H.own;
    held = λ q i. holds-more h e q.join q.ticket (other q i) (H.held q (inr i));
    rows = λ q i. rows-more old new h (p ∷ probes) H g.plan g.on.1 e refl S q (inr i);
  },
)
  where
    e : Entry
    e = plain (Given p.join p.ticket)

    S : StandsFor new (h ++ e ∷ [])
    S = g.stands h H.stands (ap (λ (r : Found). r.rows) is ∙ H.rows p (inl refl))

    other : (q : Found) → In q probes → giver_by q.join q.ticket 0 (Given p.join p.ticket) ≡ []
    other q i =
        let lt = below q i in
        ap (λ (b : Bool). cond b (0 ∷ []) []) (and-no (eqb p.join q.join) (eqb p.ticket q.ticket) (ne_eqb p.ticket q.ticket (λ z. omega (arith, lt, z))))

    took : (j u n : ℕ) → In n (giver_by j u 0 (Given p.join p.ticket)) → In n (takers j u h)
    took j u n i =
        let a = alone (eqb p.join j && eqb p.ticket u) n i in
        let b = and_parts (eqb p.join j) (eqb p.ticket u) a.0 in
        subst (λ (m : ℕ). In m (takers j u h)) a.1
        (subst (λ (v : ℕ). In 0 (takers j v h)) (eqb-true p.ticket u b.1)
        (subst (λ (k : ℕ). In 0 (takers k p.ticket h)) (eqb-true p.join j b.0) (H.held p (inl refl)).took))

-- what is held with others is held alone
pub alone-held : (core : CoreState) (p : Found) (probes : List Found) → IsHolding core (p ∷ probes) → IsHolding core (p ∷ [])
alone-held core p probes (h, H) = (
  h,
  record {
    sound = H.sound;
    on = H.on;
    stands = H.stands;
    given = H.given;
    own = H.own;
    held = one-held;
    rows = one-rows;
  },
)
  where
    one-held : (q : Found) → In q (p ∷ []) → Holds 0 q.join q.ticket h
    one-held q (inl is) = H.held q (inl is)
    one-held q (inr i) = absurd i

    one-rows : (q : Found) → In q (p ∷ []) → q.rows ≡ results_of (nodes_in core) h q.join q.ticket
    one-rows q (inl is) = H.rows q (inl is)
    one-rows q (inr i) = absurd i

-- ---- arrivals

-- an element is allowed at a stream that is not closed, where it fits and matches no punctuation before it
module _ (plan : List Node) (made : ArePlanned [] plan) (h : List Entry) (legal : IsLegal plan h) (on : IsOn (reached_of false plan h)) (s : ℕ) (there : s < length (streams_of plan)) where
  abbrev r : Reached
  r = reached_of false plan h

  nodes-are : r.nodes ≡ nodes_from plan h
  nodes-are = reached-nodes false (begun plan) h

  place : stream_node r.nodes s ≡ stream_node plan s
  place = ap (λ (ns : List Node). stream_node ns s) nodes-are ∙ stream-node-from plan h s

  holds : operator_at r.nodes (stream_node r.nodes s) ≡ Stream (schema_at plan s) (elements_of s h)
  holds = ap₂ operator_at nodes-are place ∙ streams-hold plan made h legal s there

  feeds : (e : Element) → has r.closed s ≡ false → IsClearOf (elements_of s h) e → FitsDomains (domains_of (schema_at plan s)) e → IsEventAllowed r (Arrive s e)
  feeds e free clear fits = (
    on,
    free,
    (
      (let t = (stream-node-there plan s there).0 in let p = place in let l = ap length nodes-are in omega (arith, t, p, l, length-from plan h)),
      subst (λ (o : Operator). MayArrive o e) (sym holds) (clear, fits),
    ),
  )

  closes : Closes (operator_at r.nodes (stream_node r.nodes s)) (Punct (all_wild (length (schema_at plan s))))
  closes = subst (λ (o : Operator). Closes o (Punct (all_wild (length (schema_at plan s))))) (sym holds) refl

-- rows alone
clear-rows : (s : ℕ) (turns : List Turn) → AreRows turns → (patterns : List Pattern) → In (Punct patterns) (elements_of s (map arrival_of turns)) → ⊥
clear-rows s [] a patterns i = i
clear-rows s (t ∷ turns) a patterns i = elim (In-append_cases (Punct patterns) (cond (eqb t.stream s) (t.element ∷ []) []) (elements_of s (map arrival_of turns)) i) [ inl k ↦ here (eqb t.stream s) k | inr k ↦ clear-rows s turns a.2 patterns k ]
  where
    here : (b : Bool) → In (Punct patterns) (cond b (t.element ∷ []) []) → ⊥
    here true (inl q) = false≢true (sym a.0 ∙ ap is_punct q)
    here true (inr k) = k
    here false k = k

clear-row : (sent : List Element) (e : Element) → ((patterns : List Pattern) → In (Punct patterns) sent → ⊥) → IsClearOf sent e
clear-row sent (Tuple row) none = λ patterns i. absurd (none patterns i)
clear-row sent (Punct patterns) none = tt

unclosed-rows : (r : Reached) (turns : List Turn) → AreRows turns → (reached_from false r (map arrival_of turns)).closed ≡ r.closed
unclosed-rows r [] a = refl
unclosed-rows r (t ∷ turns) a =
    unclosed-rows (next false r (arrival_of t)) turns a.2
    ∙ ap (λ (n : ℕ). cond (eqb n 1) (t.stream ∷ r.closed) r.closed) a.1

-- ---- rows that come

pub fed_new : (core : CoreState) (plan : RunPlan) (limit : ℕ) → IsFresh core plan limit → IsFed core
fed_new core plan limit f = record { sound = f.sound; on = f.on; turns = []; rows = tt; stands = f.stands }

rows-push : (turns : List Turn) (t : Turn) → AreRows turns → is_punct t.element ≡ false → t.closing ≡ 0 → AreRows (turns ++ t ∷ [])
rows-push [] t a p c = (p, c, tt)
rows-push (x ∷ turns) t a p c = (a.0, a.1, rows-push turns t a.2 p c)

-- the streams of the plan, and their columns, as histories speak of them
among : (plan : RunPlan) (s : ℕ) → s < length (plan_streams plan.nodes) → s < length (streams_of (nodes_of plan))
among plan s lt = subst (λ (ns : List ℕ). s < length ns) (sym (same-streams plan)) lt

schema-is : (plan : RunPlan) (s : ℕ) → s < length (plan_streams plan.nodes) → schema_at (nodes_of plan) s ≡ stream_columns (streams_in plan.nodes) s
schema-is plan s lt =
    ap (λ (n : ℕ). schema_of (operator_at (nodes_of plan) n)) (stream-number plan [] s lt)
    ∙ ap schema_of (operator-is (schemes_of plan.nodes) plan.certs plan.nodes place (number_below plan.nodes s lt))
    ∙ shown (schemes_of plan.nodes) (certs_at plan.nodes plan.certs place) (get_or plan.nodes place no_node).schema (get_or plan.nodes place no_node).node (stream-there plan.nodes s lt)
    ∙ columns_there plan.nodes s lt
  where
    place : ℕ
    place = get_or (plan_streams plan.nodes) s 0

    shown : (schemes : List (List (List Bool))) (certs : List (List CertStep)) (columns : List Column) (operation : Operation) → is_stream operation ≡ true → schema_of (operator_of schemes certs columns operation) ≡ columns
    shown schemes certs columns (StreamNode stated) t = refl
    shown schemes certs columns (SelectNode input test) t = absurd (false≢true t)
    shown schemes certs columns (ProjectNode input kept) t = absurd (false≢true t)
    shown schemes certs columns (UnionNode ins) t = absurd (false≢true t)
    shown schemes certs columns (JoinNode ins spec) t = absurd (false≢true t)
    shown schemes certs columns (GroupNode input spec) t = absurd (false≢true t)

pub fed_more : (a b : CoreState) (s : ℕ) → IsFed a → HasCome a b s → IsFed b
fed_more a b s f c = record {
  sound = subst (λ (p : RunPlan). IsSoundPlan p.nodes) (sym c.came.notes.plan) f.sound;
  on = c.came.on.1;
  turns = f.turns ++ t ∷ [];
  rows = rows-push f.turns t f.rows c.row refl;
  stands = subst (StandsFor b) (sym (map-append arrival_of f.turns (t ∷ []))) (c.came.notes.stands h f.stands may);
}
  where
    t : Turn
    t = arriving_of s c.element

    h : List Entry
    h = map arrival_of f.turns

    N : List Node
    N = nodes_in a

    may : MayFollow a h (arrival_of t)
    may = (
      feeds N (planned a.plan f.sound) h f.stands.legal (goes-on a h f.stands f.on) s (among a.plan s c.there) c.element
          (ap (λ (ns : List ℕ). has ns s) (unclosed-rows (begun N) f.turns f.rows))
          (clear-row (elements_of s h) c.element (clear-rows s f.turns f.rows))
          (subst (λ (cs : List Column). FitsDomains (domains_of cs) c.element) (sym (schema-is a.plan s c.there)) c.fits),
      inl refl,
    )

-- ---- the streams end

-- no probe is taken yet
none-taken : (turns : List Turn) (j u : ℕ) → (takers j u (map arrival_of turns) ≡ []) × (givers j u (map arrival_of turns) ≡ [])
none-taken [] j u = (refl, refl)
none-taken (t ∷ turns) j u = none-taken turns j u

all-own : (turns : List Turn) → made_by 0 (map arrival_of turns) ≡ map arrival_of turns
all-own [] = refl
all-own (t ∷ turns) = ap (λ (es : List Entry). arrival_of t ∷ es) (all-own turns)

holds-none : (core : CoreState) → IsSoundPlan core.plan.nodes → core.kept.stop ≡ None → (turns : List Turn) → StandsFor core (map arrival_of turns) → Holding core (map arrival_of turns) []
holds-none core sound on turns S = record {
  sound = sound;
  on = on;
  stands = S;
  given = λ j u n i. absurd (subst (λ (ns : List ℕ). In n ns) (none-taken turns j u).1 i);
  own = all-own turns;
  held = λ p i. absurd i;
  rows = λ p i. absurd i;
}

-- a stream that is not closed may be closed
may-close : (a : CoreState) (h : List Entry) (s : ℕ) → s < length (plan_streams a.plan.nodes) → IsSoundPlan a.plan.nodes → a.kept.stop ≡ None → StandsFor a h → has (reached_of false (nodes_in a) h).closed s ≡ false → MayFollow a h (arrival_of (closing_of a s))
may-close a h s lt sound on S free =
    subst (λ (cs : List Column). MayFollow a h (arrival_of (record { stream = s; element = Punct (all_wild (length cs)); closing = 1 }))) (schema-is a.plan s lt) (
      feeds N made h S.legal (goes-on a h S on) s (among a.plan s lt) (Punct (all_wild (length (schema_at N s)))) free tt (wilds-fit (schema_at N s)),
      inr (refl, closes N made h S.legal (goes-on a h S on) s (among a.plan s lt)),
    )
  where
    N : List Node
    N = nodes_in a

    made : ArePlanned [] N
    made = planned a.plan sound

-- both streams end
pub ends : (a b c : CoreState) → IsFed a → HasClosed a b 0 → HasClosed b c 1 → IsHolding c []
ends a b c f x y = (map arrival_of (all ++ last ∷ []), holds-none c sound-c y.came.on.1 (all ++ last ∷ []) (subst (StandsFor c) (sym (map-append arrival_of all (last ∷ []))) stands-c))
  where
    first : Turn
    first = closing_of a 0

    last : Turn
    last = closing_of b 1

    all : List Turn
    all = f.turns ++ first ∷ []

    h : List Entry
    h = map arrival_of f.turns

    open-a : has (reached_of false (nodes_in a) h).closed 0 ≡ false
    open-a = ap (λ (ns : List ℕ). has ns 0) (unclosed-rows (begun (nodes_in a)) f.turns f.rows)

    stands-b : StandsFor b (map arrival_of all)
    stands-b = subst (StandsFor b) (sym (map-append arrival_of f.turns (first ∷ []))) (x.came.notes.stands h f.stands (may-close a h 0 x.there f.sound f.on f.stands open-a))

    sound-b : IsSoundPlan b.plan.nodes
    sound-b = subst (λ (p : RunPlan). IsSoundPlan p.nodes) (sym x.came.notes.plan) f.sound

    sound-c : IsSoundPlan c.plan.nodes
    sound-c = subst (λ (p : RunPlan). IsSoundPlan p.nodes) (sym y.came.notes.plan) sound-b

    open-b : has (reached_of false (nodes_in b) (map arrival_of all)).closed 1 ≡ false
    open-b =
        ap (λ (es : List Entry). has (reached_of false (nodes_in b) es).closed 1) (map-append arrival_of f.turns (first ∷ []))
        ∙ ap (λ (r : Reached). has r.closed 1) (reached-append false (begun (nodes_in b)) h (arrival_of first ∷ []))
        ∙ ap (λ (ns : List ℕ). has (0 ∷ ns) 1) (unclosed-rows (begun (nodes_in b)) f.turns f.rows)

    stands-c : StandsFor c (map arrival_of all ++ arrival_of last ∷ [])
    stands-c = y.came.notes.stands (map arrival_of all) stands-b (may-close b (map arrival_of all) 1 y.there sound-b x.came.on.1 stands-b open-b)

-- ---- lesser tickets

pub below-one : (a last : Found) → a.ticket < last.ticket → (q : Found) → In q (a ∷ []) → q.ticket < last.ticket
below-one a last lt q (inl is) = subst (λ (r : Found). r.ticket < last.ticket) is lt
below-one a last lt q (inr i) = absurd i

pub below-two : (a b last : Found) → a.ticket < last.ticket → b.ticket < last.ticket → (q : Found) → In q (a ∷ b ∷ []) → q.ticket < last.ticket
below-two a b last lt more q (inl is) = subst (λ (r : Found). r.ticket < last.ticket) is lt
below-two a b last lt more q (inr i) = below-one b last more q i
