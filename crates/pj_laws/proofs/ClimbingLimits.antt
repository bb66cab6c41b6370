-- The levels above a node, and how elements climb through them under a limit.
use Rattle.std.proofs.Common.{ℕ, zero, suc, ◌+◌, ◌<◌, ◌≤◌, Bool, true, false, cond, List, [], ◌∷◌, ◌++◌, ◌≡◌, Option, Some, None, map, length, get_or, refl, sym, ap, ap₂, ◌∙◌, subst, arith}
use Rattle.std.proofs.lemmas.List.{length-map}
use Rattle.pj_events.specs.Join.{Element, Take, Give, Sweep}
use Rattle.pj_events.specs.Plan.{Node, Local, Comes, Pass, after, hands, after_all, hands_all, batches, operator_at}
use Rattle.pj_events.specs.declared.events.Entry.{Entry}
use Rattle.pj_events.specs.declared.events.Event.{Event}
use Rattle.pj_events.specs.declared.events.Event.TheVariants.{Arrive, Take as Taken, Give as Given, Sweep as Swept, Drain, Halt, Look, Stopped, Idle}
use Rattle.pj_events.specs.History.{stream_node, step_of, nodes_from}
use Rattle.pj_events.specs.Outcomes.{Arrival, arriving, arrivals_at, place_in, Level, is_full, passed, Climb, Beyond, Below, climb_each, climb, way_up, beyond_of, origin_of}
use Rattle.pj_laws.specs.Climb.{StandBehind, IsTree, Above, first_above, above_from, above, node_after, node_hands, Load, coming, going_on, climbed_from, climbed, StepsClimb}
use Rattle.pj_laws.specs.ClimbLimits.{level_at, climb_then, reached_with, LevelsClimb, begun_by, BeyondIsClimbed}
use Rattle.pj_laws.proofs.Climbing.{placed-none, came-local, steps-climb}
use Rattle.pj_laws.proofs.Nodes.{empty-none, quiet}
use Rattle.pj_laws.proofs.Trees.{tree-from}

-- ---- the levels above a node

module _ (reached : ℕ → ℕ) where
  abbrev way_here : ℕ → ℕ → Node → List Node → Option ℕ → List Level
  way_here k n node nodes o = elim o [
    | None ↦ way_up reached (k + 1) n nodes
    | Some input ↦ record { place = k; input = input; operator = node.operator; count = reached k } ∷ way_up reached (k + 1) k nodes
  ]

  way-by : (k n : ℕ) (node : Node) (nodes : List Node) → place_in 0 node.inputs n ≡ None → way_up reached k n (node ∷ nodes) ≡ way_up reached (k + 1) n nodes
  way-by k n node nodes p = ap (way_here k n node nodes) p

  way-met : (k n input : ℕ) (node : Node) (nodes : List Node) → place_in 0 node.inputs n ≡ Some input
      → way_up reached k n (node ∷ nodes) ≡ record { place = k; input = input; operator = node.operator; count = reached k } ∷ way_up reached (k + 1) k nodes
  way-met k n input node nodes p = ap (way_here k n node nodes) p

  no-way : (k n : ℕ) (nodes : List Node) → above_from k nodes n ≡ None → way_up reached k n nodes ≡ []
  no-way k n [] e = refl
  no-way k n (node ∷ nodes) e = go (place_in 0 node.inputs n) refl e (no-way (k + 1) n nodes)
    where
      go : (o : Option ℕ) → place_in 0 node.inputs n ≡ o → first_above k o (above_from (k + 1) nodes n) ≡ None → (above_from (k + 1) nodes n ≡ None → way_up reached (k + 1) n nodes ≡ []) → way_up reached k n (node ∷ nodes) ≡ []
      go None p q ih = way-by k n node nodes p ∙ ih q
      go (Some input) p q ih = cc

  -- the node above stands at a place among these, and the way up goes through it
  pub record WayGoes (k n : ℕ) (nodes : List Node) (a : Above) : Type 0 where
    pub i : ℕ
    pub at : a.place ≡ k + i
    pub is : way_up reached k n nodes ≡ record { place = a.place; input = a.input; operator = operator_at nodes i; count = reached a.place } ∷ way_up reached k a.place nodes

  way-from : (k n : ℕ) (nodes : List Node) (a : Above) → StandBehind k nodes → above_from k nodes n ≡ Some a → WayGoes k n nodes a
  way-from k n [] a b e = cc
  way-from k n (node ∷ nodes) a b e = go (place_in 0 node.inputs n) refl e (way-from (k + 1) n nodes a b.1)
    where
      past : (t : ℕ) → k ≤ t → place_in 0 node.inputs t ≡ None
      past t le = placed-none 0 node.inputs t (λ m h q. let l = b.0 m h in omega (arith, l, le, q))

      go : (o : Option ℕ) → place_in 0 node.inputs n ≡ o → first_above k o (above_from (k + 1) nodes n) ≡ Some a → (above_from (k + 1) nodes n ≡ Some a → WayGoes (k + 1) n nodes a) → WayGoes k n (node ∷ nodes) a
      go None p q ih =
          let g = ih q in
          let z : k + 1 + g.i ≡ k + suc g.i = omega arith in
          record {
            i = suc g.i;
            at = g.at ∙ z;
            is = way-by k n node nodes p ∙ g.is
                ∙ ap (λ (levels : List Level). record { place = a.place; input = a.input; operator = operator_at nodes g.i; count = reached a.place } ∷ levels) (sym (way-by k a.place node nodes (past a.place (omega (arith, g.at)))));
          }
      go (Some input) p q ih =
          let same : record { place = k; input = input } ≡ a = cc q in
          subst (λ (x : Above). WayGoes k n (node ∷ nodes) x) same (record {
            i = 0;
            at = omega arith;
            is = way-met k n input node nodes p
                ∙ ap (λ (levels : List Level). record { place = k; input = input; operator = node.operator; count = reached k } ∷ levels) (sym (way-by k k node nodes (past k (omega arith))));
          })

  way-goes : (nodes : List Node) → IsTree nodes → (n : ℕ) (a : Above) → above nodes n ≡ Some a → way_up reached 0 n nodes ≡ level_at reached nodes a ∷ way_up reached 0 a.place nodes
  way-goes nodes tree n a e =
      let g = way-from 0 n nodes a tree.behind e in
      let z : g.i ≡ a.place = omega (arith, g.at) in
      g.is ∙ ap (λ (i : ℕ). record { place = a.place; input = a.input; operator = operator_at nodes i; count = reached a.place } ∷ way_up reached 0 a.place nodes) z

  way-fits : (k n : ℕ) (nodes : List Node) → length (way_up reached k n nodes) ≤ length nodes
  way-fits k n [] = omega arith
  way-fits k n (node ∷ nodes) = go (place_in 0 node.inputs n) refl (λ m. way-fits (k + 1) m nodes)
    where
      go : (o : Option ℕ) → place_in 0 node.inputs n ≡ o → ((m : ℕ) → length (way_up reached (k + 1) m nodes) ≤ length nodes) → length (way_up reached k n (node ∷ nodes)) ≤ suc (length nodes)
      go None p ih = omega (arith, ap length (way-by k n node nodes p), ih n)
      go (Some input) p ih = omega (arith, ap length (way-met k n input node nodes p), ih k)

-- ---- elements go up one after the other

-- the levels after an element went up into this one, and the others behind it
abbrev each_then : (List Level → List Element → Climb) → ℕ → Level → List Element → Climb → Climb
each_then F limit level es c = elim c [
  | Beyond place ↦ Beyond place
  | Below higher ↦ climb_each F limit level higher es
]

each-parts : (d limit : ℕ) (level : Level) (levels : List Level) (es fs : List Element)
    → climb_each (climb d limit) limit level levels (es ++ fs) ≡ climb_then (suc d) limit (climb_each (climb d limit) limit level levels es) fs
each-parts d limit level levels [] fs = refl
each-parts d limit level levels (e ∷ es) fs =
    go (is_full limit level) (climb d limit levels (hands level.operator (Comes level.input e))) (λ higher. each-parts d limit (passed level e) higher es fs)
  where
    go : (b : Bool) (c : Climb) → ((higher : List Level) → climb_each (climb d limit) limit (passed level e) higher (es ++ fs) ≡ climb_then (suc d) limit (climb_each (climb d limit) limit (passed level e) higher es) fs)
        → cond b (Beyond level.place) (each_then (climb d limit) limit (passed level e) (es ++ fs) c)
        ≡ climb_then (suc d) limit (cond b (Beyond level.place) (each_then (climb d limit) limit (passed level e) es c)) fs
    go true c ih = refl
    go false (Beyond place) ih = refl
    go false (Below higher) ih = ih higher

pub climb-parts : (d limit : ℕ) (levels : List Level) (es fs : List Element) → climb d limit levels (es ++ fs) ≡ climb_then d limit (climb d limit levels es) fs
climb-parts zero limit levels es fs = refl
climb-parts (suc d) limit [] es fs = refl
climb-parts (suc d) limit (level ∷ levels) es fs = each-parts d limit level levels es fs

climb-nothing : (d limit : ℕ) (levels : List Level) → climb d limit levels [] ≡ Below levels
climb-nothing zero limit levels = refl
climb-nothing (suc d) limit [] = refl
climb-nothing (suc d) limit (level ∷ levels) = refl

-- the level after elements that went up into it
abbrev pub passed_all : Level → List Element → Level
passed_all level es = record level { operator = after_all level.operator (map (Comes level.input) es); count = level.count + length es }

-- where elements stay below the limit, the levels above take what the level hands up
pub record StaysBelow (d limit : ℕ) (level : Level) (levels : List Level) (es : List Element) (hs : List Level) : Type 0 where
  pub above : List Level
  pub is : hs ≡ passed_all level es ∷ above
  pub climbs : climb d limit levels (hands_all level.operator (map (Comes level.input) es)) ≡ Below above

pub each-below : (d limit : ℕ) (level : Level) (levels : List Level) (es : List Element) (hs : List Level) → climb_each (climb d limit) limit level levels es ≡ Below hs → StaysBelow d limit level levels es hs
each-below d limit level levels [] hs e =
    let same : level ∷ levels ≡ hs = cc e in
    let z : level.count + 0 ≡ level.count = omega arith in
    record {
      above = levels;
      is = sym same ∙ ap (λ (n : ℕ). record { place = level.place; input = level.input; operator = level.operator; count = n } ∷ levels) (sym z);
      climbs = climb-nothing d limit levels;
    }
each-below d limit level levels (e ∷ es) hs q =
    go (is_full limit level) (climb d limit levels up) refl q (λ higher. each-below d limit (passed level e) higher es hs)
  where
    up : List Element
    up = hands level.operator (Comes level.input e)

    go : (b : Bool) (c : Climb) → climb d limit levels up ≡ c → cond b (Beyond level.place) (each_then (climb d limit) limit (passed level e) es c) ≡ Below hs
        → ((higher : List Level) → climb_each (climb d limit) limit (passed level e) higher es ≡ Below hs → StaysBelow d limit (passed level e) higher es hs)
        → StaysBelow d limit level levels (e ∷ es) hs
    go true c p r ih = cc
    go false (Beyond place) p r ih = cc
    go false (Below higher) p r ih =
        let s = ih higher r in
        let z : level.count + 1 + length es ≡ level.count + suc (length es) = omega arith in
        record {
          above = s.above;
          is = s.is ∙ ap (λ (n : ℕ). record { place = level.place; input = level.input; operator = after_all level.operator (map (Comes level.input) (e ∷ es)); count = n } ∷ s.above) z;
          climbs = climb-parts d limit levels up (hands_all (after level.operator (Comes level.input e)) (map (Comes level.input) es))
              ∙ ap (λ (c : Climb). climb_then d limit c (hands_all (after level.operator (Comes level.input e)) (map (Comes level.input) es))) p
              ∙ s.climbs;
        }

-- ---- the levels after a climb

below-nil : (d limit : ℕ) (es : List Element) (hs : List Level) → climb d limit [] es ≡ Below hs → hs ≡ []
below-nil zero limit es hs e = let same : [] ≡ hs = cc e in sym same
below-nil (suc d) limit es hs e = let same : [] ≡ hs = cc e in sym same

abbrev load_of : ℕ → List Element → Load
load_of n es = record { from = n; elements = es }

-- so many elements have reached these nodes, with those of the climb
abbrev pub AreCounted : (ℕ → ℕ) → (ℕ → ℕ) → ℕ → ℕ → List (List Arrival) → Type 0
AreCounted before now k len brought = (i : ℕ) → i < len → now (k + i) ≡ before (k + i) + length (get_or brought i [])

module _ (limit : ℕ) (before now : ℕ → ℕ) where
  -- where a climb through these nodes goes on below the limit, the levels after it are those of the nodes after it
  abbrev pub LeavesLevels : ℕ → ℕ → List Node → Type 0
  LeavesLevels k n nodes =
      (es : List Element) (d : ℕ) (hs : List Level) → AreCounted before now k (length nodes) (climbed_from k (load_of n es) nodes).brought
      → length (way_up before k n nodes) ≤ d → climb d limit (way_up before k n nodes) es ≡ Below hs → hs ≡ way_up now k n (climbed_from k (load_of n es) nodes).nodes

  counted-next : (k len : ℕ) (came : List Arrival) (brought : List (List Arrival)) → AreCounted before now k (suc len) (came ∷ brought) → AreCounted before now (k + 1) len brought
  counted-next k len came brought c i lt =
      let z : k + suc i ≡ k + 1 + i = omega arith in
      ap now (sym z) ∙ c (suc i) (omega (arith, lt)) ∙ ap (λ (m : ℕ). before m + length (get_or brought i [])) z

  levels-by : (k n : ℕ) (node : Node) (nodes : List Node) → place_in 0 node.inputs n ≡ None → LeavesLevels (k + 1) n nodes → LeavesLevels k n (node ∷ nodes)
  levels-by k n node nodes p ih es d hs c le e =
      ih es d hs (counted-next k (length nodes) (coming (place_in 0 node.inputs n) es) (climbed_from (k + 1) (load_of n es) nodes).brought moved-count)
      (omega (arith, le, ap length (way-by before k n node nodes p)))
      (ap (λ (levels : List Level). climb d limit levels es) (sym (way-by before k n node nodes p)) ∙ e)
      ∙ sym (way-by now k n node (climbed_from (k + 1) (load_of n es) nodes).nodes p)
      ∙ ap (λ (ns : List Node). way_up now k n ns) (sym same)
    where
      same : (climbed_from k (load_of n es) (node ∷ nodes)).nodes ≡ node ∷ (climbed_from (k + 1) (load_of n es) nodes).nodes
      same = ap (λ (o : Option ℕ). node_after node (coming o es) ∷ (climbed_from (k + 1) (going_on o k node (load_of n es)) nodes).nodes) p

      moved-count : AreCounted before now k (suc (length nodes)) (coming (place_in 0 node.inputs n) es ∷ (climbed_from (k + 1) (load_of n es) nodes).brought)
      moved-count = subst (λ (o : Option ℕ). AreCounted before now k (suc (length nodes)) (coming (place_in 0 node.inputs n) es ∷ (climbed_from (k + 1) (going_on o k node (load_of n es)) nodes).brought)) p c

  levels-met : (k n input : ℕ) (node : Node) (nodes : List Node) → place_in 0 node.inputs n ≡ Some input → LeavesLevels (k + 1) k nodes → LeavesLevels k n (node ∷ nodes)
  levels-met k n input node nodes p ih es zero hs c le e = absurd (omega (arith, le, ap length (way-met before k n input node nodes p)))
  levels-met k n input node nodes p ih es (suc d) hs c le e =
      s.is
      ∙ ap₂ (λ (ls : List Local) (m : ℕ). record { place = k; input = input; operator = after_all node.operator ls; count = m } ∷ s.above) (came-local input es) here
      ∙ ap (λ (levels : List Level). record { place = k; input = input; operator = (node_after node came).operator; count = now k } ∷ levels) behind
      ∙ sym (way-met now k n input (node_after node came) (climbed_from (k + 1) (load_of k up) nodes).nodes p)
      ∙ ap (λ (ns : List Node). way_up now k n ns) (sym same)
    where
      came : List Arrival
      came = map (arriving input) es

      up : List Element
      up = node_hands node (map (arriving input) es)

      first : Level
      first = record { place = k; input = input; operator = node.operator; count = before k }

      W : way_up before k n (node ∷ nodes) ≡ first ∷ way_up before (k + 1) k nodes
      W = way-met before k n input node nodes p

      s : StaysBelow d limit first (way_up before (k + 1) k nodes) es hs
      s = each-below d limit first (way_up before (k + 1) k nodes) es hs (ap (λ (levels : List Level). climb (suc d) limit levels es) (sym W) ∙ e)

      same : (climbed_from k (load_of n es) (node ∷ nodes)).nodes ≡ node_after node came ∷ (climbed_from (k + 1) (load_of k up) nodes).nodes
      same = ap (λ (o : Option ℕ). node_after node (coming o es) ∷ (climbed_from (k + 1) (going_on o k node (load_of n es)) nodes).nodes) p

      counted : AreCounted before now k (suc (length nodes)) (came ∷ (climbed_from (k + 1) (load_of k up) nodes).brought)
      counted = subst (λ (o : Option ℕ). AreCounted before now k (suc (length nodes)) (coming o es ∷ (climbed_from (k + 1) (going_on o k node (load_of n es)) nodes).brought)) p c

      here : before k + length es ≡ now k
      here =
          let z : k + 0 ≡ k = omega arith in
          let q = counted 0 (omega arith) in
          let a = ap now z in
          let b = ap before z in
          omega (arith, q, a, b, length-map es (arriving input))

      behind : s.above ≡ way_up now (k + 1) k (climbed_from (k + 1) (load_of k up) nodes).nodes
      behind = ih up d s.above (counted-next k (length nodes) came (climbed_from (k + 1) (load_of k up) nodes).brought counted)
          (omega (arith, le, ap length W))
          (ap (λ (ls : List Local). climb d limit (way_up before (k + 1) k nodes) (hands_all node.operator ls)) (sym (came-local input es)) ∙ s.climbs)

  leaves-levels : (k n : ℕ) (nodes : List Node) → LeavesLevels k n nodes
  leaves-levels k n [] = λ es d hs c le e. below-nil d limit es hs e
  leaves-levels k n (node ∷ nodes) = go (place_in 0 node.inputs n) refl (λ m. leaves-levels (k + 1) m nodes)
    where
      go : (o : Option ℕ) → place_in 0 node.inputs n ≡ o → ((m : ℕ) → LeavesLevels (k + 1) m nodes) → LeavesLevels k n (node ∷ nodes)
      go None p ih = levels-by k n node nodes p (ih n)
      go (Some input) p ih = levels-met k n input node nodes p (ih k)

pub levels-climb : (nodes : List Node) → IsTree nodes → (reached : ℕ → ℕ) (limit : ℕ) → LevelsClimb nodes reached limit
levels-climb nodes tree reached limit = record {
  ends = λ n e. no-way reached 0 n nodes e;
  goes_on = λ n a e. way-goes reached nodes tree n a e;
  parts = λ d levels es fs. climb-parts d limit levels es fs;
  below = λ d n es levels le e. leaves-levels limit reached (reached_with reached (climbed nodes n es).brought) 0 n nodes es d levels (counts n es) le e;
  fits = λ n. way-fits reached 0 n nodes;
}
  where
    plus : (i : ℕ) → 0 + i ≡ i
    plus i = omega arith

    counts : (n : ℕ) (es : List Element) → AreCounted reached (reached_with reached (climbed nodes n es).brought) 0 (length nodes) (climbed nodes n es).brought
    counts n es i lt = ap (λ (m : ℕ). reached (0 + i) + length (get_or (climbed nodes n es).brought m [])) (plus i)

-- ---- when an event goes beyond the limit

pub beyond-is-climbed : (limit : ℕ) (plan : List Node) → IsTree plan → (history : List Entry) (event : Event) → BeyondIsClimbed limit plan history event
beyond-is-climbed limit plan tree history event =
    ap (λ (es : List Element). beyond_of (climb (length nodes) limit (way_up (λ n. length (arrivals_at plan history n)) 0 (origin_of nodes event) nodes) es)) (begins event)
  where
    nodes : List Node
    nodes = nodes_from plan history

    S : StepsClimb nodes
    S = steps-climb nodes (tree-from plan history tree)

    silent : (n : ℕ) → get_or (batches Pass [] nodes) n [] ≡ []
    silent n = (quiet Pass [] nodes empty-none (λ m le lt. refl)).1 n

    begins : (event : Event) → get_or (batches (step_of nodes event) [] nodes) (origin_of nodes event) [] ≡ begun_by nodes event
    begins (Arrive stream e) = (S.feed (stream_node nodes stream) e).begins
    begins (Taken join ticket) = (S.act join (Take ticket)).begins
    begins (Given join ticket) = (S.act join (Give ticket)).begins
    begins (Swept join input) = (S.act join (Sweep input)).begins
    begins Drain = silent (length nodes)
    begins Halt = silent (length nodes)
    begins (Look pending) = silent (length nodes)
    begins (Stopped stop) = silent (length nodes)
    begins Idle = silent (length nodes)
