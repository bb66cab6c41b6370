-- Where a limit is gone beyond, more elements come to the node in all.
use Rattle.std.proofs.Common.{ℕ, zero, suc, ◌+◌, ◌<◌, ◌≤◌, Bool, true, false, cond, ◌==◌, List, [], ◌∷◌, ◌++◌, ◌≡◌, ◌⊎◌, Option, Some, None, map, length, get_or, refl, sym, ap, ap₂, ◌∙◌, subst, inl, inr, arith}
use Rattle.std.proofs.lemmas.Bool.{and_parts, eqb-true}
use Rattle.std.proofs.lemmas.List.{length-append, length-map, map-append}
use Rattle.pj_value.specs.declared.values.Value.{Value}
use Rattle.pj_value.specs.Bags.{SameBag, weigh}
use Rattle.pj_events.specs.Patterns.{Pattern}
use Rattle.pj_events.specs.Join.{In, Element, Tuple, Punct, rows_of, puncts_of, upto_from}
use Rattle.pj_events.specs.Plan.{Operator, Stream, Select, Project, Union, Join, Group, Node, Local, Comes, Fed, Own, PlanStep, ArePlanned, after, hands, after_all, hands_all, answers, batches, fed_to, handed, handed_at, moved, nowhere, operator_at}
use Rattle.pj_events.specs.declared.events.Entry.{Entry}
use Rattle.pj_events.specs.declared.events.Event.{Event}
use Rattle.pj_events.specs.History.{IsComplete, IsLegal, begun, nodes_by, nodes_from, step_of, steps_from, streams_of}
use Rattle.pj_events.specs.Outcomes.{Arrival, arriving, arrivals_in, arrivals_by, arrivals_at, elements_of, place_in, Level, counts, is_full, passed, Climb, Beyond, Below, climb_each, climb, way_up, beyond_of, origin_of, goes_beyond, answers_of, lists_of}
use Rattle.pj_events.specs.OneThread.{one_thread_of}
use Rattle.pj_laws.specs.Climb.{StandBehind, IsTree, node_hands, stepped, coming, going_on, climbed_from, climbed, climbed_where, local_of}
use Rattle.pj_laws.specs.ClimbLimits.{begun_by, begun_where}
use Rattle.pj_events.specs.Punctuations.{puncts_answers, puncts_from, puncts_lists}
use Rattle.pj_laws.specs.HistoryLaws.{AllAreCertified, closed_list, closed_lists}
use Rattle.pj_events.specs.Limits.{ReachesLimit}
use Rattle.pj_laws.specs.Reaching.{counted_in, elements_to, IsCounted, LimitsTell}
use Rattle.pj_laws.proofs.Glue.{hands-append}
use Rattle.pj_laws.proofs.Answers.{map-twice}
use Rattle.pj_join_laws.proofs.Upto.{map-upto}
use Rattle.pj_laws.proofs.Histories.{arrivals-append}
use Rattle.pj_laws.proofs.Steps.{legal-steps}
use Rattle.pj_laws.proofs.Probes.{length-from}
use Rattle.pj_laws.proofs.Nodes.{counts-after, counts-all, counts-from}
use Rattle.pj_laws.proofs.Settled.{complete-answers}
use Rattle.pj_laws.proofs.Puncts.{complete-puncts}
use Rattle.pj_laws.proofs.HistoryAnswers.{answers-are, complete-run}
use Rattle.pj_laws.proofs.HistoryPuncts.{puncts-are}
use Rattle.pj_laws.proofs.OneThreadAnswer.{lists-are, swept-whole}
use Rattle.pj_laws.proofs.SweptRun.{swept-complete}
use Rattle.pj_laws.proofs.Climbing.{came-local, placed-none}
use Rattle.pj_laws.proofs.ClimbingEvents.{events-climb, length-stepped}
use Rattle.pj_laws.proofs.ClimbingLimits.{StaysBelow, beyond-is-climbed, each-below, levels-climb, passed_all}
use Rattle.pj_laws.proofs.Trees.{tree-from}

-- ---- levels through which too many elements go

-- these elements, going up through these levels, are too many at one that counts, at this place
abbrev IsOver : ℕ → List Level → List Element → ℕ → Type 0
IsOver limit [] es p = ⊥
IsOver limit (level ∷ levels) es p =
    ((level.place ≡ p) × (counts level.operator ≡ true) × (limit < level.count + length es)) ⊎ IsOver limit levels (hands_all level.operator (map (Comes level.input) es)) p

-- what elements and more behind them make of a level
hands-parts : (m : Operator) (k : ℕ) (xs ys : List Element)
    → hands_all m (map (Comes k) (xs ++ ys)) ≡ hands_all m (map (Comes k) xs) ++ hands_all (after_all m (map (Comes k) xs)) (map (Comes k) ys)
hands-parts m k xs ys = ap (hands_all m) (map-append (Comes k) xs ys) ∙ hands-append m (map (Comes k) xs) (map (Comes k) ys)

-- more elements are too many as well
more-over : (limit : ℕ) (levels : List Level) (xs ys : List Element) (p : ℕ) → IsOver limit levels xs p → IsOver limit levels (xs ++ ys) p
more-over limit [] xs ys p o = o
more-over limit (level ∷ levels) xs ys p (inl here) = let lt = here.2 in inl (here.0, here.1, omega (arith, lt, length-append xs ys))
more-over limit (level ∷ levels) xs ys p (inr o) =
    inr (subst (λ (zs : List Element). IsOver limit levels zs p) (sym (hands-parts level.operator level.input xs ys))
    (more-over limit levels (hands_all level.operator (map (Comes level.input) xs)) (hands_all (after_all level.operator (map (Comes level.input) xs)) (map (Comes level.input) ys)) p o))

-- as many levels as before
below-long : (d limit : ℕ) (levels : List Level) (xs : List Element) (hs : List Level) → climb d limit levels xs ≡ Below hs → length hs ≡ length levels
below-long zero limit levels xs hs e = let same : levels ≡ hs = cc e in ap length (sym same)
below-long (suc d) limit [] xs hs e = let same : [] ≡ hs = cc e in ap length (sym same)
below-long (suc d) limit (level ∷ levels) xs hs e =
    let s = each-below d limit level levels xs hs e in
    ap length s.is ∙ ap suc (below-long d limit levels (hands_all level.operator (map (Comes level.input) xs)) s.above s.climbs)

-- too many behind others that stayed below
below-over : (d limit : ℕ) (levels : List Level) (xs ys : List Element) (hs : List Level) (p : ℕ) → length levels ≤ d → climb d limit levels xs ≡ Below hs → IsOver limit hs ys p → IsOver limit levels (xs ++ ys) p
below-over d limit [] xs ys [] p le e o = absurd o
below-over d limit [] xs ys (h ∷ hs) p le e o = let long = below-long d limit [] xs (h ∷ hs) e in absurd (omega (arith, long))
below-over zero limit (level ∷ levels) xs ys hs p le e o = absurd (omega (arith, le))
below-over (suc d) limit (level ∷ levels) xs ys hs p le e o =
    go (λ us vs above climbs over. below-over d limit levels us vs above p (omega (arith, le)) climbs over) (subst (λ (ls : List Level). IsOver limit ls ys p) s.is o)
  where
    s : StaysBelow d limit level levels xs hs
    s = each-below d limit level levels xs hs e

    m : Operator
    m = level.operator

    came : List Local
    came = map (Comes level.input) xs

    go : ((us vs : List Element) (above : List Level) → climb d limit levels us ≡ Below above → IsOver limit above vs p → IsOver limit levels (us ++ vs) p)
        → IsOver limit (passed_all level xs ∷ s.above) ys p → IsOver limit (level ∷ levels) (xs ++ ys) p
    go ih (inl here) = let lt = here.2 in inl (here.0, sym (counts-all m came) ∙ here.1, omega (arith, lt, length-append xs ys))
    go ih (inr over) =
        inr (subst (λ (zs : List Element). IsOver limit levels zs p) (sym (hands-parts m level.input xs ys))
        (ih (hands_all m came) (hands_all (after_all m came) (map (Comes level.input) ys)) s.above s.climbs over))

-- the levels after an element went up into this one, and the others behind it
abbrev each_then : (List Level → List Element → Climb) → ℕ → Level → List Element → Climb → Climb
each_then F limit level es c = elim c [
  | Beyond place ↦ Beyond place
  | Below higher ↦ climb_each F limit level higher es
]

each-over : (d limit : ℕ) (level : Level) (levels : List Level) (es : List Element) (p : ℕ) → length levels ≤ d
    → ((ls : List Level) (xs : List Element) → length ls ≤ d → climb d limit ls xs ≡ Beyond p → IsOver limit ls xs p) → climb_each (climb d limit) limit level levels es ≡ Beyond p → IsOver limit (level ∷ levels) es p
each-over d limit level levels [] p le above e = absurd (cc)
each-over d limit level levels (x ∷ es) p le above e =
    go (is_full limit level) refl (climb d limit levels up) refl e (λ higher long r. each-over d limit (passed level x) higher es p long above r)
  where
    m : Operator
    m = level.operator

    up : List Element
    up = hands m (Comes level.input x)

    later : List Element
    later = hands_all (after m (Comes level.input x)) (map (Comes level.input) es)

    go : (b : Bool) → is_full limit level ≡ b → (c : Climb) → climb d limit levels up ≡ c → cond b (Beyond level.place) (each_then (climb d limit) limit (passed level x) es c) ≡ Beyond p
        → ((higher : List Level) → length higher ≤ d → climb_each (climb d limit) limit (passed level x) higher es ≡ Beyond p → IsOver limit (passed level x ∷ higher) es p)
        → IsOver limit (level ∷ levels) (x ∷ es) p
    go true full c is r ih =
        let both = and_parts (counts m) (level.count == limit) full in
        let at : level.place ≡ p = cc r in
        let many = eqb-true level.count limit both.1 in
        inl (at, both.0, omega (arith, many))
    go false full (Beyond place) is r ih =
        let at : place ≡ p = cc r in
        inr (more-over limit levels up later p (above levels up le (is ∙ ap Beyond at)))
    go false full (Below higher) is r ih = behind (ih higher (let long = below-long d limit levels up higher is in omega (arith, long, le)) r)
      where
        behind : IsOver limit (passed level x ∷ higher) es p → IsOver limit (level ∷ levels) (x ∷ es) p
        behind (inl here) = let lt = here.2 in inl (here.0, sym (counts-after m (Comes level.input x)) ∙ here.1, omega (arith, lt))
        behind (inr over) = inr (below-over d limit levels up later higher p le is over)

-- a climb goes beyond the limit only where too many elements go up
over : (d limit : ℕ) (levels : List Level) (es : List Element) (p : ℕ) → length levels ≤ d → climb d limit levels es ≡ Beyond p → IsOver limit levels es p
over zero limit levels es p le e = absurd (cc)
over (suc d) limit [] es p le e = absurd (cc)
over (suc d) limit (level ∷ levels) es p le e = each-over d limit level levels es p (omega (arith, le)) (λ ls xs long r. over d limit ls xs p long r) e

-- ---- what is brought to the nodes

-- a node that counts, at this place, and too many that reached it or were brought
record IsBroughtTo (reached : ℕ → ℕ) (limit k p : ℕ) (nodes : List Node) (brought : List (List Arrival)) : Type 0 where
  i : ℕ
  at : p ≡ k + i
  there : i < length nodes
  counted : counts (operator_at nodes i) ≡ true
  many : limit < reached p + length (get_or brought i [])

module _ (reached : ℕ → ℕ) where
  abbrev way_here : ℕ → ℕ → Node → List Node → Option ℕ → List Level
  way_here k n node nodes o = elim o [
    | None ↦ way_up reached (k + 1) n nodes
    | Some input ↦ record { place = k; input = input; operator = node.operator; count = reached k } ∷ way_up reached (k + 1) k nodes
  ]

  -- the same of a node behind which others stand, where elements come to it at this input or not
  abbrev BringsTo : ℕ → ℕ → ℕ → ℕ → Node → List Node → List Element → Option ℕ → Type 0
  BringsTo limit p k n node nodes es o = IsBroughtTo reached limit k p (node ∷ nodes) (coming o es ∷ (climbed_from (k + 1) (going_on o k node (record { from = n; elements = es })) nodes).brought)

  over-brought : (limit p k n : ℕ) (nodes : List Node) (es : List Element) → IsOver limit (way_up reached k n nodes) es p → IsBroughtTo reached limit k p nodes (climbed_from k (record { from = n; elements = es }) nodes).brought
  over-brought limit p k n [] es o = absurd o
  over-brought limit p k n (node ∷ nodes) es o = go (place_in 0 node.inputs n) refl (λ m xs r. over-brought limit p (k + 1) m nodes xs r)
    where
      further : (came : List Arrival) (brought : List (List Arrival)) → IsBroughtTo reached limit (k + 1) p nodes brought → IsBroughtTo reached limit k p (node ∷ nodes) (came ∷ brought)
      further came brought r =
          let at = r.at in
          let there = r.there in
          record { i = suc r.i; at = omega (arith, at); there = omega (arith, there); counted = r.counted; many = r.many }

      go : (o : Option ℕ) → place_in 0 node.inputs n ≡ o
          → ((m : ℕ) (xs : List Element) → IsOver limit (way_up reached (k + 1) m nodes) xs p → IsBroughtTo reached limit (k + 1) p nodes (climbed_from (k + 1) (record { from = m; elements = xs }) nodes).brought)
          → BringsTo limit p k n node nodes es (place_in 0 node.inputs n)
      go None q ih = subst (BringsTo limit p k n node nodes es) (sym q) (further [] (climbed_from (k + 1) (record { from = n; elements = es }) nodes).brought (ih n es (subst (λ (ls : List Level). IsOver limit ls es p) (ap (way_here k n node nodes) q) o)))
      go (Some input) q ih = subst (BringsTo limit p k n node nodes es) (sym q) (met (subst (λ (ls : List Level). IsOver limit ls es p) (ap (way_here k n node nodes) q) o))
        where
          met : IsOver limit (record { place = k; input = input; operator = node.operator; count = reached k } ∷ way_up reached (k + 1) k nodes) es p → BringsTo limit p k n node nodes es (Some input)
          met (inl here) =
              let at = here.0 in
              let lt = here.2 in
              let same = ap reached at in
              record { i = 0; at = omega (arith, at); there = omega arith; counted = here.1; many = omega (arith, lt, same, length-map es (arriving input)) }
          met (inr further_up) =
              let up : List Element = node_hands node (map (arriving input) es) in
              further (map (arriving input) es) (climbed_from (k + 1) (record { from = k; elements = up }) nodes).brought
              (ih k up (subst (λ (ls : List Local). IsOver limit (way_up reached (k + 1) k nodes) (hands_all node.operator ls) p) (came-local input es) further_up))

  -- the way up from a node does not go through it
  way-stepped : (k n i : ℕ) (nodes : List Node) (l : Local) → n ≡ k + i → StandBehind k nodes → way_up reached k n (stepped nodes i l) ≡ way_up reached k n nodes
  way-stepped k n i [] l at b = refl
  way-stepped k n zero (node ∷ nodes) l at b =
      let none = placed-none 0 node.inputs n (λ m h e. let lt = b.0 m h in omega (arith, lt, e, at)) in
      ap (way_here k n (record { inputs = node.inputs; operator = after node.operator l }) nodes) none ∙ sym (ap (way_here k n node nodes) none)
  way-stepped k n (suc i) (node ∷ nodes) l at b =
      let none = placed-none 0 node.inputs n (λ m h e. let lt = b.0 m h in omega (arith, lt, e, at)) in
      ap (way_here k n node (stepped nodes i l)) none ∙ (way-stepped (k + 1) n i nodes l (omega (arith, at)) b.1 ∙ sym (ap (way_here k n node nodes) none))

counts-stepped : (nodes : List Node) (n : ℕ) (l : Local) (i : ℕ) → counts (operator_at (stepped nodes n l) i) ≡ counts (operator_at nodes i)
counts-stepped [] n l i = refl
counts-stepped (node ∷ nodes) zero l zero = counts-after node.operator l
counts-stepped (node ∷ nodes) zero l (suc i) = refl
counts-stepped (node ∷ nodes) (suc n) l zero = refl
counts-stepped (node ∷ nodes) (suc n) l (suc i) = counts-stepped nodes n l i

-- ---- an event that goes beyond the limit

climb-none : (d limit : ℕ) (levels : List Level) (p : ℕ) → beyond_of (climb d limit levels []) ≡ Some p → ⊥
climb-none zero limit levels p e = cc
climb-none (suc d) limit [] p e = cc
climb-none (suc d) limit (level ∷ levels) p e = cc

beyond-is : (c : Climb) (p : ℕ) → beyond_of c ≡ Some p → c ≡ Beyond p
beyond-is (Beyond place) p e = let same : place ≡ p = cc e in ap Beyond same
beyond-is (Below levels) p e = absurd (cc)

-- the node counts, and more elements have reached it with the event than may
record IsReachedBy (limit : ℕ) (plan : List Node) (h : List Entry) (event : Event) (p : ℕ) : Type 0 where
  there : p < length (nodes_from plan h)
  counted : counts (operator_at (nodes_from plan h) p) ≡ true
  many : limit < length (arrivals_at plan h p) + length (arrivals_by (nodes_from plan h) event p)

reached-by : (limit : ℕ) (plan : List Node) → IsTree plan → (h : List Entry) (event : Event) (p : ℕ) → goes_beyond limit plan h event ≡ Some p → IsReachedBy limit plan h event p
reached-by limit plan tree h event p e = go (local_of event) refl
  where
    nodes : List Node
    nodes = nodes_from plan h

    n : ℕ
    n = origin_of nodes event

    count : ℕ → ℕ
    count m = length (arrivals_at plan h m)

    inside : IsTree nodes
    inside = tree-from plan h tree

    climbs : beyond_of (climb (length nodes) limit (way_up count 0 n nodes) (begun_by nodes event)) ≡ Some p
    climbs = sym (beyond-is-climbed limit plan tree h event) ∙ e

    go : (o : Option Local) → local_of event ≡ o → IsReachedBy limit plan h event p
    go None q = absurd (climb-none (length nodes) limit (way_up count 0 n nodes) p (ap (λ (o : Option Local). beyond_of (climb (length nodes) limit (way_up count 0 n nodes) (begun_where (operator_at nodes n) o))) (sym q) ∙ climbs))
    go (Some l) q = record {
      there = there';
      counted = sym (counts-stepped nodes n l p) ∙ ap (λ (m : ℕ). counts (operator_at (stepped nodes n l) m)) at ∙ r.counted;
      many = let lt = r.many in omega (arith, lt, ap length (came ∙ ap (λ (m : ℕ). get_or (climbed (stepped nodes n l) n es).brought m []) at));
    }
      where
        es : List Element
        es = hands (operator_at nodes n) l

        up : IsOver limit (way_up count 0 n nodes) es p
        up = over (length nodes) limit (way_up count 0 n nodes) es p ((levels-climb nodes inside count limit).fits n)
            (beyond-is (climb (length nodes) limit (way_up count 0 n nodes) es) p
            (ap (λ (o : Option Local). beyond_of (climb (length nodes) limit (way_up count 0 n nodes) (begun_where (operator_at nodes n) o))) (sym q) ∙ climbs))

        r : IsBroughtTo count limit 0 p (stepped nodes n l) (climbed (stepped nodes n l) n es).brought
        r = over-brought count limit p 0 n (stepped nodes n l) es
            (subst (λ (levels : List Level). IsOver limit levels es p) (sym (way-stepped count 0 n n nodes l (let z : n ≡ 0 + n = omega arith in z) inside.behind)) up)

        at : p ≡ r.i
        at = let a = r.at in omega (arith, a)

        there' : p < length nodes
        there' = let a = r.there in let long = length-stepped nodes n l in omega (arith, a, at, long)

        came : arrivals_by nodes event p ≡ get_or (climbed (stepped nodes n l) n es).brought p []
        came = (events-climb nodes inside event).comes p ∙ ap (λ (o : Option Local). get_or (climbed_where nodes n o).brought p []) q

-- ---- what comes to a node in all

-- how many elements these nodes hand up
abbrev all_handed : List Node → List PlanStep → List ℕ → ℕ
all_handed nodes es [] = 0
all_handed nodes es (m ∷ ms) = length (handed m nodes es) + all_handed nodes es ms

abbrev all_listed : List (List Element) → List ℕ → ℕ
all_listed lists [] = 0
all_listed lists (m ∷ ms) = length (get_or lists m []) + all_listed lists ms

handed-none : (nodes : List Node) (ms : List ℕ) → all_handed nodes [] ms ≡ 0
handed-none nodes [] = refl
handed-none nodes (m ∷ ms) = let more = handed-none nodes ms in omega (arith, more)

handed-more : (nodes : List Node) (e : PlanStep) (es : List PlanStep) (ms : List ℕ) → all_handed nodes (e ∷ es) ms ≡ all_listed (batches e [] nodes) ms + all_handed (moved e [] nodes) es ms
handed-more nodes e es [] = refl
handed-more nodes e es (m ∷ ms) =
    let here = length-append (get_or (batches e [] nodes) m []) (handed m (moved e [] nodes) es) in
    let more = handed-more nodes e es ms in
    omega (arith, here, more)

listed-long : (k : ℕ) (ms : List ℕ) (lists : List (List Element)) → length (arrivals_in k ms lists) ≡ all_listed lists ms
listed-long k [] lists = refl
listed-long k (m ∷ ms) lists =
    let all = length-append (map (arriving k) (get_or lists m [])) (arrivals_in (k + 1) ms lists) in
    let here = length-map (get_or lists m []) (arriving k) in
    let more = listed-long (k + 1) ms lists in
    omega (arith, all, here, more)

inputs-keep : (e : PlanStep) (done : List (List Element)) (nodes : List Node) (n : ℕ) → (get_or (moved e done nodes) n nowhere).inputs ≡ (get_or nodes n nowhere).inputs
inputs-keep e done [] n = refl
inputs-keep e done (node ∷ nodes) zero = refl
inputs-keep e done (node ∷ nodes) (suc n) = inputs-keep e (done ++ handed_at e done node ∷ []) nodes n

-- what reached a node is what its inputs handed up
arrived-long : (nodes : List Node) (h : List Entry) (n : ℕ) → length (arrivals_at nodes h n) ≡ all_handed nodes (steps_from nodes h) (get_or nodes n nowhere).inputs
arrived-long nodes [] n = sym (handed-none nodes (get_or nodes n nowhere).inputs)
arrived-long nodes (entry ∷ h) n =
    let step : PlanStep = step_of nodes entry.event in
    let ms : List ℕ = (get_or nodes n nowhere).inputs in
    let all = length-append (arrivals_by nodes entry.event n) (arrivals_at (nodes_by nodes entry.event) h n) in
    let here = listed-long 0 ms (batches step [] nodes) in
    let more = arrived-long (nodes_by nodes entry.event) h n ∙ ap (all_handed (nodes_by nodes entry.event) (steps_from (nodes_by nodes entry.event) h)) (inputs-keep step [] nodes n) in
    let both = handed-more nodes step (steps_from (nodes_by nodes entry.event) h) ms in
    omega (arith, all, here, more, both)

-- rows and punctuations are all elements
parts-long : (es : List Element) → length es ≡ length (rows_of es) + length (puncts_of es)
parts-long [] = refl
parts-long (Tuple row ∷ es) = let more = parts-long es in omega (arith, more)
parts-long (Punct patterns ∷ es) = let more = parts-long es in omega (arith, more)

weigh-ones : {A : Type 0} (xs : List A) → weigh (λ (x : A). 1) xs ≡ length xs
weigh-ones [] = refl
weigh-ones (x ∷ xs) = let more = weigh-ones xs in omega (arith, more)

same-long : {A : Type 0} (xs ys : List A) → SameBag xs ys → length xs ≡ length ys
same-long {A} xs ys same = sym (weigh-ones xs) ∙ (same (λ (x : A). 1) ∙ weigh-ones ys)

-- the inputs of a node stand before it
before-at : (k : ℕ) (nodes : List Node) (n m : ℕ) → StandBehind k nodes → In m (get_or nodes n nowhere).inputs → m < k + length nodes
before-at k [] n m b h = absurd h
before-at k (node ∷ nodes) zero m b h = let lt = b.0 m h in omega (arith, lt)
before-at k (node ∷ nodes) (suc n) m b h = let lt = before-at (k + 1) nodes n m b.1 h in omega (arith, lt)

module _ (plan : List Node) (planned : ArePlanned [] plan) (h : List Entry) (legal : IsLegal plan h) (complete : IsComplete plan h) where
  -- a node hands up its answer's rows and its punctuations
  node-long : (m : ℕ) → m < length plan → length (handed m plan (steps_from plan h)) ≡ length (get_or (answers_of plan (lists_of plan h)) m []) + length (get_or (puncts_answers plan (puncts_lists plan h)) m [])
  node-long m lt =
      let es : List Element = handed m plan (steps_from plan h) in
      let whole = complete-run plan h legal complete in
      let legal-run = legal-steps (begun plan) h legal in
      let rows = same-long (rows_of es) (get_or (answers plan (steps_from plan h)) m []) (complete-answers plan planned (steps_from plan h) legal-run whole m lt)
      ∙ ap (λ (lists : List (List (List Value))). length (get_or lists m [])) (answers-are plan h legal) in
      let puncts = same-long (puncts_of es) (get_or (puncts_from (λ k. puncts_of (fed_to k (steps_from plan h))) [] plan) m []) (complete-puncts plan planned (steps_from plan h) legal-run whole m lt)
      ∙ ap (λ (lists : List (List (List Pattern))). length (get_or lists m [])) (puncts-are plan h legal) in
      parts-long es ∙ ap₂ (λ (a b : ℕ). a + b) rows puncts

  nodes-count : (ms : List ℕ) → ((m : ℕ) → In m ms → m < length plan) → all_handed plan (steps_from plan h) ms ≡ counted_in (answers_of plan (lists_of plan h)) (puncts_answers plan (puncts_lists plan h)) ms
  nodes-count [] there = refl
  nodes-count (m ∷ ms) there = ap₂ (λ (a b : ℕ). a + b) (node-long m (there m (inl refl))) (nodes-count ms (λ k i. there k (inr i)))

  -- what reached a node in all
  total : StandBehind 0 plan → (n : ℕ) → length (arrivals_at plan h n) ≡ elements_to plan (lists_of plan h) (puncts_lists plan h) n
  total behind n =
      arrived-long plan h n
      ∙ nodes-count (get_or plan n nowhere).inputs (λ m i. let lt = before-at 0 plan n m behind i in omega (arith, lt))

-- ---- complete histories

-- where a complete history goes beyond a limit, it does so at a join or a group, and more elements come to that in all
pub complete-limits-tell : (plan : List Node) → ArePlanned [] plan → IsTree plan → (h : List Entry) → IsLegal plan h → IsComplete plan h → (limit node : ℕ) → ReachesLimit limit plan h node
    → IsCounted plan node × (limit < elements_to plan (lists_of plan h) (puncts_lists plan h) node)
complete-limits-tell plan planned tree h legal complete limit node r = (
  sym counted ∙ o.counted,
  omega (arith, below, all),
)
  where
    o : IsReachedBy limit plan r.front r.next.event node
    o = reached-by limit plan tree r.front r.next.event node r.beyond

    there : node < length plan
    there = let lt = o.there in let long = length-from plan r.front in omega (arith, lt, long)

    counted : counts (operator_at (nodes_from plan r.front) node) ≡ counts (operator_at plan node)
    counted = counts-from plan r.front node there

    below : limit < length (arrivals_at plan h node)
    below =
        let parts = ap (λ (es : List Entry). length (arrivals_at plan es node)) r.parts in
        let front = ap length (arrivals-append plan r.front (r.next ∷ r.back) node) in
        let long = length-append (arrivals_at plan r.front node) (arrivals_at (nodes_from plan r.front) (r.next ∷ r.back) node) in
        let next = length-append (arrivals_by (nodes_from plan r.front) r.next.event node) (arrivals_at (nodes_by (nodes_from plan r.front) r.next.event) r.back node) in
        let many = o.many in
        omega (arith, parts, front, long, next, many)

    all : length (arrivals_at plan h node) ≡ elements_to plan (lists_of plan h) (puncts_lists plan h) node
    all = total plan planned h legal complete tree.behind node

-- ---- the run on one thread

pub limits-tell : (plan : List Node) → ArePlanned [] plan → IsTree plan → 0 < length plan → AllAreCertified plan → LimitsTell plan
limits-tell plan planned tree some certs lists accepted limit node r = (t.0, subst (λ (n : ℕ). limit < n) same t.1)
  where
    h : List Entry
    h = one_thread_of true plan lists

    t : IsCounted plan node × (limit < elements_to plan (lists_of plan h) (puncts_lists plan h) node)
    t = complete-limits-tell plan planned tree h (swept-whole plan planned certs lists accepted).legal (swept-complete plan planned some certs lists accepted) limit node r

    arrived : puncts_lists plan h ≡ map puncts_of (closed_lists plan lists)
    arrived =
        map-upto (λ s. puncts_of (elements_of s h)) (λ s. puncts_of (closed_list plan lists s)) 0 (length (streams_of plan))
        (λ s l. ap puncts_of ((swept-whole plan planned certs lists accepted).elements s (omega (arith, l))))
        ∙ sym (map-twice puncts_of (closed_list plan lists) (upto_from 0 (length (streams_of plan))))

    same : elements_to plan (lists_of plan h) (puncts_lists plan h) node ≡ elements_to plan (map rows_of lists) (map puncts_of (closed_lists plan lists)) node
    same = ap₂ (λ (rows : List (List (List Value))) (puncts : List (List (List Pattern))). elements_to plan rows puncts node) (lists-are true plan planned (λ e. certs) lists accepted) arrived
