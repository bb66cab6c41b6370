-- What a step of a tree brings to its nodes: a climb from the node at which the step is made.
use Rattle.std.proofs.Common.{ℕ, zero, suc, ◌+◌, ◌<◌, ◌≤◌, ◌≢◌, Bool, true, false, cond, ◌||◌, List, [], ◌∷◌, ◌++◌, ◌≡◌, Option, Some, None, map, length, get_or, refl, sym, ap, ap₂, ◌∙◌, subst, inl, inr, eqb, arith, append-nil}
use Rattle.std.proofs.lemmas.Bool.{eq-eqb, ne_eqb, eqb-true, cases_eq, or_parts, false≢true}
use Rattle.std.proofs.lemmas.List.{length_push, map-append, get_or_at, get_or_append_left}
use Rattle.pj_events.specs.Join.{In, has, AreDistinct, Element}
use Rattle.pj_events.specs.Plan.{Operator, Select, Node, Local, Comes, Fed, Own, PlanStep, Feed, Act, after, hands, after_all, hands_all, own, brought_from, locals, handed_at, batches, moved, nowhere, operator_at}
use Rattle.pj_events.specs.Outcomes.{Arrival, arriving, arrivals_in, place_in}
use Rattle.pj_laws.specs.Climb.{all_inputs, StandBehind, IsTree, local_at, node_after, node_hands, stepped, Load, coming, going_on, Climbed, behind_node, climbed_from, ClimbsFrom, StepsClimb}
use Rattle.pj_join_laws.proofs.Complete.{eqb-sym}
use Rattle.pj_laws.proofs.Glue.{batches-keep}
use Rattle.pj_laws.proofs.Nodes.{AreEmpty, empty-none, empty-push, brought-none}
use Rattle.pj_value.proofs.Numbers.{in-has}

-- ---- lists of numbers

eqb-suc : (s t : ℕ) → eqb (suc s) (suc t) ≡ eqb s t
eqb-suc s t = elim (cases_eq s t) [
  | inl e ↦ eq-eqb (suc s) (suc t) (ap suc e) ∙ sym (eq-eqb s t e)
  | inr ne ↦ ne_eqb (suc s) (suc t) (λ e. ne (omega (arith, e))) ∙ sym (ne_eqb s t ne)
]

-- what a list pushed behind others shows
pushed-at : (done : List (List Element)) (es : List Element) (m : ℕ) → get_or (done ++ es ∷ []) m [] ≡ cond (eqb (length done) m) es (get_or done m [])
pushed-at [] es zero = refl
pushed-at [] es (suc m) = ap (λ (b : Bool). cond b es []) (sym (ne_eqb 0 (suc m) (λ e. omega (arith, e))))
pushed-at (x ∷ done) es zero = ap (λ (b : Bool). cond b es x) (sym (ne_eqb (suc (length done)) 0 (λ e. omega (arith, e))))
pushed-at (x ∷ done) es (suc m) = pushed-at done es m ∙ ap (λ (b : Bool). cond b es (get_or done m [])) (sym (eqb-suc (length done) m))

pushed-none : (done : List (List Element)) (m : ℕ) → get_or (done ++ [] ∷ []) m [] ≡ get_or done m []
pushed-none [] zero = refl
pushed-none [] (suc m) = refl
pushed-none (x ∷ done) zero = refl
pushed-none (x ∷ done) (suc m) = pushed-none done m

pub placed-in : (k : ℕ) (ms : List ℕ) (n j : ℕ) → place_in k ms n ≡ Some j → In n ms
placed-in k [] n j p = cc
placed-in k (m ∷ ms) n j p = go (eqb m n) refl p (placed-in (k + 1) ms n j)
  where
    go : (b : Bool) → eqb m n ≡ b → cond b (Some k) (place_in (k + 1) ms n) ≡ Some j → (place_in (k + 1) ms n ≡ Some j → In n ms) → In n (m ∷ ms)
    go true q r ih = inl (eqb-true m n q)
    go false q r ih = inr (ih r)

pub placed-none : (k : ℕ) (ms : List ℕ) (n : ℕ) → ((m : ℕ) → In m ms → m ≢ n) → place_in k ms n ≡ None
placed-none k [] n f = refl
placed-none k (m ∷ ms) n f = ap (λ (b : Bool). cond b (Some k) (place_in (k + 1) ms n)) (ne_eqb m n (f m (inl refl))) ∙ placed-none (k + 1) ms n (λ j h. f j (inr h))

in-left : (n : ℕ) (ms ns : List ℕ) → In n ms → In n (ms ++ ns)
in-left n [] ns h = absurd h
in-left n (m ∷ ms) ns (inl e) = inl e
in-left n (m ∷ ms) ns (inr h) = inr (in-left n ms ns h)

in-right : (n : ℕ) (ms ns : List ℕ) → In n ns → In n (ms ++ ns)
in-right n [] ns h = h
in-right n (m ∷ ms) ns h = inr (in-right n ms ns h)

has-left : (n : ℕ) (ms ns : List ℕ) → has (ms ++ ns) n ≡ false → has ms n ≡ false
has-left n [] ns f = refl
has-left n (m ∷ ms) ns f = let both = or_parts (eqb m n) (has (ms ++ ns) n) f in ap₂ (λ (b c : Bool). b || c) both.0 (has-left n ms ns both.1)

pub distinct-left : (ms ns : List ℕ) → AreDistinct (ms ++ ns) → AreDistinct ms
distinct-left [] ns d = tt
distinct-left (m ∷ ms) ns d = (has-left m ms ns d.0, distinct-left ms ns d.1)

pub distinct-right : (ms ns : List ℕ) → AreDistinct (ms ++ ns) → AreDistinct ns
distinct-right [] ns d = d
distinct-right (m ∷ ms) ns d = distinct-right ms ns d.1

-- a number in the front stands nowhere behind
pub distinct-apart : (n m : ℕ) (ms ns : List ℕ) → AreDistinct (ms ++ ns) → In n ms → In m ns → n ≢ m
distinct-apart n m [] ns d h i e = absurd h
distinct-apart n m (j ∷ ms) ns d (inl q) i e =
    false≢true (sym d.0 ∙ in-has (ms ++ ns) j (in-right j ms ns (subst (λ (x : ℕ). In x ns) (sym e ∙ sym q) i)))
distinct-apart n m (j ∷ ms) ns d (inr h) i e = distinct-apart n m ms ns d.1 h i e

-- ---- what comes to one node

-- of these nodes, one alone shows elements: the one that the load comes from
abbrev pub Shows : List (List Element) → Load → List ℕ → Type 0
Shows done load ms = (m : ℕ) → In m ms → get_or done m [] ≡ cond (eqb load.from m) load.elements []

pub arrivals-agree : (k : ℕ) (ms : List ℕ) (xs ys : List (List Element)) → ((m : ℕ) → In m ms → get_or xs m [] ≡ get_or ys m []) → arrivals_in k ms xs ≡ arrivals_in k ms ys
arrivals-agree k [] xs ys f = refl
arrivals-agree k (m ∷ ms) xs ys f = ap₂ (λ (us vs : List Arrival). us ++ vs) (ap (map (arriving k)) (f m (inl refl))) (arrivals-agree (k + 1) ms xs ys (λ j h. f j (inr h)))

none-seen : (k : ℕ) (ms : List ℕ) (done : List (List Element)) (load : Load) → Shows done load ms → has ms load.from ≡ false → arrivals_in k ms done ≡ []
none-seen k [] done load f h = refl
none-seen k (m ∷ ms) done load f h =
    let both = or_parts (eqb m load.from) (has ms load.from) h in
    ap₂ (λ (xs ys : List Arrival). xs ++ ys)
    (ap (map (arriving k)) (f m (inl refl) ∙ ap (λ (b : Bool). cond b load.elements []) (eqb-sym load.from m ∙ both.0)))
    (none-seen (k + 1) ms done load (λ i g. f i (inr g)) both.1)

-- the load comes to the node at the input that names where it comes from, and nothing else does
seen : (k : ℕ) (ms : List ℕ) (done : List (List Element)) (load : Load) → Shows done load ms → AreDistinct ms → arrivals_in k ms done ≡ coming (place_in k ms load.from) load.elements
seen k [] done load f d = refl
seen k (m ∷ ms) done load f d = go (eqb m load.from) refl (seen (k + 1) ms done load (λ i h. f i (inr h)) d.1)
  where
    go : (b : Bool) → eqb m load.from ≡ b → arrivals_in (k + 1) ms done ≡ coming (place_in (k + 1) ms load.from) load.elements
        → (map (arriving k) (get_or done m []) ++ arrivals_in (k + 1) ms done) ≡ coming (cond b (Some k) (place_in (k + 1) ms load.from)) load.elements
    go true q ih =
        ap₂ (λ (xs ys : List Arrival). xs ++ ys)
        (ap (map (arriving k)) (f m (inl refl) ∙ ap (λ (b : Bool). cond b load.elements []) (eqb-sym load.from m ∙ q)))
        (none-seen (k + 1) ms done load (λ i g. f i (inr g)) (ap (has ms) (sym (eqb-true m load.from q)) ∙ d.0))
        ∙ append-nil (map (arriving k) load.elements)
    go false q ih =
        ap₂ (λ (xs ys : List Arrival). xs ++ ys)
        (ap (map (arriving k)) (f m (inl refl) ∙ ap (λ (b : Bool). cond b load.elements []) (eqb-sym load.from m ∙ q))) ih

pub came-local : (k : ℕ) (es : List Element) → map (Comes k) es ≡ map local_at (map (arriving k) es)
came-local k [] = refl
came-local k (e ∷ es) = ap (λ (ls : List Local). Comes k e ∷ ls) (came-local k es)

pub brought-arrivals : (k : ℕ) (ms : List ℕ) (done : List (List Element)) → brought_from k ms done ≡ map local_at (arrivals_in k ms done)
brought-arrivals k [] done = refl
brought-arrivals k (m ∷ ms) done =
    ap₂ (λ (xs ys : List Local). xs ++ ys) (came-local k (get_or done m [])) (brought-arrivals (k + 1) ms done)
    ∙ sym (map-append local_at (map (arriving k) (get_or done m [])) (arrivals_in (k + 1) ms done))

-- ---- what goes on behind one node

carries : (o : Option ℕ) (k : ℕ) (node : Node) (load : Load) (done : List (List Element)) → length done ≡ k → get_or done load.from [] ≡ load.elements → load.from < k
    → get_or (done ++ node_hands node (coming o load.elements) ∷ []) (going_on o k node load).from [] ≡ (going_on o k node load).elements
carries None k node load done l f lt = get_or_append_left done ([] ∷ []) [] load.from (omega (arith, l, lt)) ∙ f
carries (Some input) k node load done l f lt = get_or_at done (node_hands node (map (arriving input) load.elements)) [] [] k l

carries-below : (o : Option ℕ) (k : ℕ) (node : Node) (load : Load) → load.from < k → (going_on o k node load).from < k + 1
carries-below None k node load lt = omega (arith, lt)
carries-below (Some input) k node load lt = omega arith

shows-on : (o : Option ℕ) (k : ℕ) (node : Node) (load : Load) (done : List (List Element)) (ms : List ℕ) → length done ≡ k → Shows done load ms → ((i : ℕ) → o ≡ Some i → (m : ℕ) → In m ms → load.from ≢ m)
    → Shows (done ++ node_hands node (coming o load.elements) ∷ []) (going_on o k node load) ms
shows-on None k node load done ms l f apart m h = pushed-none done m ∙ f m h
shows-on (Some input) k node load done ms l f apart m h =
    pushed-at done (node_hands node (map (arriving input) load.elements)) m
    ∙ ap₂ (λ (n : ℕ) (xs : List Element). cond (eqb n m) (node_hands node (map (arriving input) load.elements)) xs) l
    (f m h ∙ ap (λ (b : Bool). cond b load.elements []) (ne_eqb load.from m (apart input refl m h)))

-- ---- a load climbs

-- what a step makes of these nodes is a climb of the load: what becomes of them, what comes to each, and what each hands up
pub record Rises (e : PlanStep) (done : List (List Element)) (nodes : List Node) (k : ℕ) (c : Climbed) : Type 0 where
  pub moves : moved e done nodes ≡ c.nodes
  pub comes : (m : ℕ) → m < length nodes → arrivals_in 0 (get_or nodes m nowhere).inputs (batches e done nodes) ≡ get_or c.brought m []
  pub hands : (m : ℕ) → m < length nodes → get_or (batches e done nodes) (k + m) [] ≡ node_hands (get_or nodes m nowhere) (get_or c.brought m [])
  pub ends : get_or (batches e done nodes) c.left.from [] ≡ c.left.elements

-- the inputs of a node show the same after the nodes from it on
inputs-keep : (e : PlanStep) (done : List (List Element)) (es : List Element) (nodes : List Node) (ms : List ℕ) → ((m : ℕ) → In m ms → m < length done)
    → arrivals_in 0 ms (batches e (done ++ es ∷ []) nodes) ≡ arrivals_in 0 ms done
inputs-keep e done es nodes ms b = arrivals-agree 0 ms (batches e (done ++ es ∷ []) nodes) done (λ m h.
    batches-keep e (done ++ es ∷ []) nodes m (let l = b m h in omega (arith, l, length_push done es)) ∙ get_or_append_left done (es ∷ []) [] m (b m h))

-- the first of the nodes takes the load or lets it by, and the rest goes on
module _ (e : PlanStep) (done : List (List Element)) (node : Node) (nodes : List Node) (k : ℕ) (load : Load) (long : length done ≡ k)
    (quiet : own e k ≡ []) (below : (m : ℕ) → In m node.inputs → m < k) (once : AreDistinct (all_inputs (node ∷ nodes)))
    (shows : Shows done load (all_inputs (node ∷ nodes))) where
  abbrev came : List Arrival
  came = coming (place_in 0 node.inputs load.from) load.elements

  abbrev on : Load
  on = going_on (place_in 0 node.inputs load.from) k node load

  abbrev pushed : List (List Element)
  pushed = done ++ node_hands node came ∷ []

  here : arrivals_in 0 node.inputs done ≡ came
  here = seen 0 node.inputs done load (λ m h. shows m (in-left m node.inputs (all_inputs nodes) h)) (distinct-left node.inputs (all_inputs nodes) once)

  local : locals e done node ≡ map local_at came
  local = ap₂ (λ (xs ys : List Local). xs ++ ys) (ap (own e) long ∙ quiet) (brought-arrivals 0 node.inputs done ∙ ap (map local_at) here)

  now : batches e done (node ∷ nodes) ≡ batches e pushed nodes
  now = ap (λ (ls : List Local). batches e (done ++ hands_all node.operator ls ∷ []) nodes) local

  longer : length pushed ≡ k + 1
  longer = omega (arith, long, length_push done (node_hands node came))

  shows-next : Shows pushed on (all_inputs nodes)
  shows-next = shows-on (place_in 0 node.inputs load.from) k node load done (all_inputs nodes) long (λ m h. shows m (in-right m node.inputs (all_inputs nodes) h))
      (λ i p m h. distinct-apart load.from m node.inputs (all_inputs nodes) once (placed-in 0 node.inputs load.from i p) h)

  rises-next : Rises e pushed nodes (k + 1) (climbed_from (k + 1) on nodes) → Rises e done (node ∷ nodes) k (climbed_from k load (node ∷ nodes))
  rises-next ih = record {
    moves = ap (λ (ls : List Local). record { inputs = node.inputs; operator = after_all node.operator ls } ∷ moved e (done ++ hands_all node.operator ls ∷ []) nodes) local
        ∙ ap (λ (ns : List Node). node_after node came ∷ ns) ih.moves;
    comes = come;
    hands = hand;
    ends = ap (λ (bs : List (List Element)). get_or bs (climbed_from (k + 1) on nodes).left.from []) now ∙ ih.ends;
  }
    where
      come : (m : ℕ) → m < suc (length nodes) → arrivals_in 0 (get_or (node ∷ nodes) m nowhere).inputs (batches e done (node ∷ nodes)) ≡ get_or (came ∷ (climbed_from (k + 1) on nodes).brought) m []
      come zero h = ap (arrivals_in 0 node.inputs) now ∙ inputs-keep e done (node_hands node came) nodes node.inputs (λ m g. let l = below m g in omega (arith, long, l)) ∙ here
      come (suc m) h = ap (arrivals_in 0 (get_or nodes m nowhere).inputs) now ∙ ih.comes m (omega (arith, h))

      hand : (m : ℕ) → m < suc (length nodes) → get_or (batches e done (node ∷ nodes)) (k + m) [] ≡ node_hands (get_or (node ∷ nodes) m nowhere) (get_or (came ∷ (climbed_from (k + 1) on nodes).brought) m [])
      hand zero h =
          let z : k + 0 ≡ k = omega arith in
          ap₂ (λ (bs : List (List Element)) (n : ℕ). get_or bs n []) now z
          ∙ batches-keep e pushed nodes k (omega (arith, longer))
          ∙ get_or_at done (node_hands node came) [] [] k long
      hand (suc m) h =
          let z : k + suc m ≡ k + 1 + m = omega arith in
          ap₂ (λ (bs : List (List Element)) (n : ℕ). get_or bs n []) now z ∙ ih.hands m (omega (arith, h))

pub rises : (e : PlanStep) (done : List (List Element)) (nodes : List Node) (k : ℕ) (load : Load) → length done ≡ k → ((m : ℕ) → k ≤ m → own e m ≡ [])
    → StandBehind k nodes → AreDistinct (all_inputs nodes) → load.from < k → get_or done load.from [] ≡ load.elements → Shows done load (all_inputs nodes)
    → Rises e done nodes k (climbed_from k load nodes)
rises e done [] k load l o b d lt at f = record { moves = refl; comes = λ m h. absurd (omega (arith, h)); hands = λ m h. absurd (omega (arith, h)); ends = at }
rises e done (node ∷ nodes) k load l o b d lt at f =
    rises-next e done node nodes k load l (o k (omega arith)) b.0 d f
    (rises e (pushed e done node nodes k load l (o k (omega arith)) b.0 d f) nodes (k + 1) (on e done node nodes k load l (o k (omega arith)) b.0 d f)
    (longer e done node nodes k load l (o k (omega arith)) b.0 d f) (λ m le. o m (omega (arith, le))) b.1 (distinct-right node.inputs (all_inputs nodes) d)
    (carries-below (place_in 0 node.inputs load.from) k node load lt) (carries (place_in 0 node.inputs load.from) k node load done l at lt)
    (shows-next e done node nodes k load l (o k (omega arith)) b.0 d f))

-- ---- a step at one node

-- what a step at one node makes of these nodes: what that node hands up climbs
pub record Begins (e : PlanStep) (done : List (List Element)) (nodes : List Node) (k i : ℕ) (l : Local) (c : Climbed) : Type 0 where
  pub moves : moved e done nodes ≡ c.nodes
  pub comes : (m : ℕ) → m < length nodes → arrivals_in 0 (get_or nodes m nowhere).inputs (batches e done nodes) ≡ get_or c.brought m []
  pub begins : get_or (batches e done nodes) (k + i) [] ≡ hands (operator_at nodes i) l
  pub hands : (m : ℕ) → m < length nodes → m ≢ i → get_or (batches e done nodes) (k + m) [] ≡ node_hands (get_or nodes m nowhere) (get_or c.brought m [])
  pub ends : get_or (batches e done nodes) c.left.from [] ≡ c.left.elements

-- a node that has none of these numbers lets them by
pub climbs-by : (k : ℕ) (load : Load) (node : Node) (nodes : List Node) → place_in 0 node.inputs load.from ≡ None → climbed_from k load (node ∷ nodes) ≡ behind_node node [] (climbed_from (k + 1) load nodes)
climbs-by k load node nodes p = ap (λ (o : Option ℕ). behind_node node (coming o load.elements) (climbed_from (k + 1) (going_on o k node load) nodes)) p

abbrev from_node : ℕ → Operator → Local → Load
from_node s m l = record { from = s; elements = hands m l }

pub arrivals-empty : (k : ℕ) (ms : List ℕ) (done : List (List Element)) → AreEmpty done → arrivals_in k ms done ≡ []
arrivals-empty k [] done a = refl
arrivals-empty k (m ∷ ms) done a = ap₂ (λ (xs ys : List Arrival). xs ++ ys) (ap (map (arriving k)) (a m)) (arrivals-empty (k + 1) ms done a)

module _ (e : PlanStep) (l : Local) (s : ℕ) (acts : (m : ℕ) → own e m ≡ cond (eqb s m) (l ∷ []) [])
    (done : List (List Element)) (node : Node) (nodes : List Node) (k : ℕ) (long : length done ≡ k) (empty : AreEmpty done)
    (below : (m : ℕ) → In m node.inputs → m < k) where
  -- the node's inputs show nothing
  nothing-comes : (es : List Element) → arrivals_in 0 node.inputs (batches e (done ++ es ∷ []) nodes) ≡ []
  nothing-comes es = inputs-keep e done es nodes node.inputs (λ m h. let b = below m h in omega (arith, long, b)) ∙ arrivals-empty 0 node.inputs done empty

  unnamed : k ≤ s → place_in 0 node.inputs s ≡ None
  unnamed le = placed-none 0 node.inputs s (λ m h q. let b = below m h in omega (arith, b, le, q))

  -- the step is made at a later node
  begins-later : (i : ℕ) → s ≡ k + suc i → Begins e (done ++ [] ∷ []) nodes (k + 1) i l (climbed_from (k + 1) (from_node s (operator_at nodes i) l) (stepped nodes i l))
      → Begins e done (node ∷ nodes) k (suc i) l (climbed_from k (from_node s (operator_at nodes i) l) (node ∷ stepped nodes i l))
  begins-later i at ih =
      subst (λ (c : Climbed). Begins e done (node ∷ nodes) k (suc i) l c) (sym (climbs-by k load node (stepped nodes i l) (unnamed (omega (arith, at)))))
      (record {
        moves = ap (λ (ls : List Local). record { inputs = node.inputs; operator = after_all node.operator ls } ∷ moved e (done ++ hands_all node.operator ls ∷ []) nodes) still
            ∙ ap (λ (ns : List Node). node ∷ ns) ih.moves;
        comes = come;
        begins = ap₂ (λ (bs : List (List Element)) (n : ℕ). get_or bs n []) now (there i) ∙ ih.begins;
        hands = hand;
        ends = ap (λ (bs : List (List Element)). get_or bs (climbed_from (k + 1) load (stepped nodes i l)).left.from []) now ∙ ih.ends;
      })
    where
      load : Load
      load = from_node s (operator_at nodes i) l

      there : (m : ℕ) → k + suc m ≡ k + 1 + m
      there m = omega arith

      still : locals e done node ≡ []
      still = ap₂ (λ (xs ys : List Local). xs ++ ys) (acts (length done) ∙ ap (λ (b : Bool). cond b (l ∷ []) []) (ne_eqb s (length done) (λ q. omega (arith, at, long, q)))) (brought-none 0 node.inputs done empty)

      now : batches e done (node ∷ nodes) ≡ batches e (done ++ [] ∷ []) nodes
      now = ap (λ (ls : List Local). batches e (done ++ hands_all node.operator ls ∷ []) nodes) still

      come : (m : ℕ) → m < suc (length nodes) → arrivals_in 0 (get_or (node ∷ nodes) m nowhere).inputs (batches e done (node ∷ nodes)) ≡ get_or ([] ∷ (climbed_from (k + 1) load (stepped nodes i l)).brought) m []
      come zero h = ap (arrivals_in 0 node.inputs) now ∙ nothing-comes []
      come (suc m) h = ap (arrivals_in 0 (get_or nodes m nowhere).inputs) now ∙ ih.comes m (omega (arith, h))

      hand : (m : ℕ) → m < suc (length nodes) → m ≢ suc i
          → get_or (batches e done (node ∷ nodes)) (k + m) [] ≡ node_hands (get_or (node ∷ nodes) m nowhere) (get_or ([] ∷ (climbed_from (k + 1) load (stepped nodes i l)).brought) m [])
      hand zero h ne =
          let z : k + 0 ≡ k = omega arith in
          ap₂ (λ (bs : List (List Element)) (n : ℕ). get_or bs n []) now z
          ∙ batches-keep e (done ++ [] ∷ []) nodes k (omega (arith, long, length_push done []))
          ∙ get_or_at done [] [] [] k long
      hand (suc m) h ne = ap₂ (λ (bs : List (List Element)) (n : ℕ). get_or bs n []) now (there m) ∙ ih.hands m (omega (arith, h)) (λ q. ne (ap suc q))

  -- the step is made at this node
  begins-here : s ≡ k → StandBehind (k + 1) nodes → AreDistinct (all_inputs nodes)
      → Begins e done (node ∷ nodes) k 0 l (climbed_from k (from_node s node.operator l) (record { inputs = node.inputs; operator = after node.operator l } ∷ nodes))
  begins-here at behind once =
      subst (λ (c : Climbed). Begins e done (node ∷ nodes) k 0 l c) (sym (climbs-by k load after-it nodes (unnamed (omega (arith, at)))))
      (record {
        moves = ap₂ (λ (ls : List Local) (es : List Element). record { inputs = node.inputs; operator = after_all node.operator ls } ∷ moved e (done ++ es ∷ []) nodes) alone given
            ∙ ap (λ (ns : List Node). after-it ∷ ns) R.moves;
        comes = come;
        begins = first;
        hands = hand;
        ends = ap (λ (bs : List (List Element)). get_or bs (climbed_from (k + 1) load nodes).left.from []) now ∙ R.ends;
      })
    where
      load : Load
      load = from_node s node.operator l

      after-it : Node
      after-it = record { inputs = node.inputs; operator = after node.operator l }

      up : List Element
      up = hands node.operator l

      alone : locals e done node ≡ l ∷ []
      alone = ap₂ (λ (xs ys : List Local). xs ++ ys) (acts (length done) ∙ ap (λ (b : Bool). cond b (l ∷ []) []) (eq-eqb s (length done) (at ∙ sym long))) (brought-none 0 node.inputs done empty)

      given : handed_at e done node ≡ up
      given = ap (hands_all node.operator) alone ∙ append-nil up

      now : batches e done (node ∷ nodes) ≡ batches e (done ++ up ∷ []) nodes
      now = ap (λ (es : List Element). batches e (done ++ es ∷ []) nodes) given

      R : Rises e (done ++ up ∷ []) nodes (k + 1) (climbed_from (k + 1) load nodes)
      R = rises e (done ++ up ∷ []) nodes (k + 1) load (omega (arith, long, length_push done up))
          (λ m le. acts m ∙ ap (λ (b : Bool). cond b (l ∷ []) []) (ne_eqb s m (λ q. omega (arith, at, le, q)))) behind once (omega (arith, at))
          (get_or_at done up [] [] s (long ∙ sym at))
          (λ m h. pushed-at done up m ∙ ap₂ (λ (n : ℕ) (xs : List Element). cond (eqb n m) up xs) (long ∙ sym at) (empty m))

      first : get_or (batches e done (node ∷ nodes)) (k + 0) [] ≡ up
      first =
          let z : k + 0 ≡ k = omega arith in
          ap₂ (λ (bs : List (List Element)) (n : ℕ). get_or bs n []) now z
          ∙ batches-keep e (done ++ up ∷ []) nodes k (omega (arith, long, length_push done up))
          ∙ get_or_at done up [] [] k long

      come : (m : ℕ) → m < suc (length nodes) → arrivals_in 0 (get_or (node ∷ nodes) m nowhere).inputs (batches e done (node ∷ nodes)) ≡ get_or ([] ∷ (climbed_from (k + 1) load nodes).brought) m []
      come zero h = ap (arrivals_in 0 node.inputs) now ∙ nothing-comes up
      come (suc m) h = ap (arrivals_in 0 (get_or nodes m nowhere).inputs) now ∙ R.comes m (omega (arith, h))

      hand : (m : ℕ) → m < suc (length nodes) → m ≢ 0
          → get_or (batches e done (node ∷ nodes)) (k + m) [] ≡ node_hands (get_or (node ∷ nodes) m nowhere) (get_or ([] ∷ (climbed_from (k + 1) load nodes).brought) m [])
      hand zero h ne = absurd (ne refl)
      hand (suc m) h ne =
          let z : k + suc m ≡ k + 1 + m = omega arith in
          ap₂ (λ (bs : List (List Element)) (n : ℕ). get_or bs n []) now z ∙ R.hands m (omega (arith, h))

pub begins-from : (e : PlanStep) (l : Local) (s : ℕ) → ((m : ℕ) → own e m ≡ cond (eqb s m) (l ∷ []) []) → (done : List (List Element)) (nodes : List Node) (k i : ℕ)
    → length done ≡ k → AreEmpty done → s ≡ k + i → hands (Select []) l ≡ [] → StandBehind k nodes → AreDistinct (all_inputs nodes)
    → Begins e done nodes k i l (climbed_from k (from_node s (operator_at nodes i) l) (stepped nodes i l))
begins-from e l s acts done [] k i long empty at silent behind once = record {
  moves = refl;
  comes = λ m h. absurd (omega (arith, h));
  begins = empty (k + i) ∙ sym silent;
  hands = λ m h ne. absurd (omega (arith, h));
  ends = empty s ∙ sym silent;
}
begins-from e l s acts done (node ∷ nodes) k zero long empty at silent behind once =
    begins-here e l s acts done node nodes k long empty behind.0 (omega (arith, at)) behind.1 (distinct-right node.inputs (all_inputs nodes) once)
begins-from e l s acts done (node ∷ nodes) k (suc i) long empty at silent behind once =
    begins-later e l s acts done node nodes k long empty behind.0 i at
    (begins-from e l s acts (done ++ [] ∷ []) nodes (k + 1) i (omega (arith, long, length_push done [])) (empty-push done empty) (omega (arith, at)) silent behind.1
    (distinct-right node.inputs (all_inputs nodes) once))

-- what happens at one node climbs through a tree
pub climbs-from : (nodes : List Node) → IsTree nodes → (e : PlanStep) (n : ℕ) (l : Local) → ((m : ℕ) → own e m ≡ cond (eqb n m) (l ∷ []) []) → hands (Select []) l ≡ [] → ClimbsFrom nodes n l e
climbs-from nodes tree e n l acts silent =
    let z : n ≡ 0 + n = omega arith in
    let b = begins-from e l n acts [] nodes 0 n refl empty-none z silent tree.behind tree.once in
    record {
      moves = b.moves;
      comes = b.comes;
      begins = ap (λ (m : ℕ). get_or (batches e [] nodes) m []) z ∙ b.begins;
      hands = λ m lt ne. let y : m ≡ 0 + m = omega arith in ap (λ (j : ℕ). get_or (batches e [] nodes) j []) y ∙ b.hands m lt ne;
      ends = b.ends;
    }

pub steps-climb : (nodes : List Node) → IsTree nodes → StepsClimb nodes
steps-climb nodes tree = record {
  feed = λ n e. climbs-from nodes tree (Feed n e) n (Fed e) (λ m. refl) refl;
  act = λ n s. climbs-from nodes tree (Act n s) n (Own s) (λ m. refl) refl;
}
