-- What a climb keeps of the inputs of nodes, and what it brings where nothing climbs.
use Rattle.std.proofs.Common.{ℕ, zero, suc, ◌+◌, ◌<◌, ◌≤◌, List, [], ◌∷◌, ◌++◌, ◌≡◌, Option, Some, None, map, length, get_or, set, refl, sym, ap, ap₂, ◌∙◌, subst, arith}
use Rattle.pj_events.specs.Join.{In, AreDistinct}
use Rattle.pj_events.specs.Plan.{Node, nowhere}
use Rattle.pj_events.specs.Outcomes.{Arrival, Level, place_in, way_up}
use Rattle.pj_laws.specs.Climb.{Above, IsTree, Load, StandBehind, above, above_from, all_inputs, both_brought, climbed, climbed_from, coming, first_above, going_on}
use Rattle.pj_laws.proofs.Climbing.{placed-none}

-- ---- nodes with the same inputs

abbrev pub ins : List Node → List (List ℕ)
ins nodes = map (λ node. node.inputs) nodes

pub ins-climbed : (k : ℕ) (load : Load) (nodes : List Node) → ins (climbed_from k load nodes).nodes ≡ ins nodes
ins-climbed k load [] = refl
ins-climbed k load (node ∷ nodes) = ap (λ (is : List (List ℕ)). node.inputs ∷ is) (ins-climbed (k + 1) (going_on (place_in 0 node.inputs load.from) k node load) nodes)

pub ins-set : (nodes : List Node) (n : ℕ) (node : Node) → node.inputs ≡ (get_or nodes n nowhere).inputs → ins (set nodes n node) ≡ ins nodes
ins-set [] n node e = refl
ins-set (m ∷ nodes) zero node e = ap (λ (is : List ℕ). is ∷ ins nodes) e
ins-set (m ∷ nodes) (suc n) node e = ap (λ (is : List (List ℕ)). m.inputs ∷ is) (ins-set nodes n node e)

behind-same : (k : ℕ) (ns ms : List Node) → ins ns ≡ ins ms → StandBehind k ns → StandBehind k ms
behind-same k [] [] e b = tt
behind-same k [] (m ∷ ms) e b = cc
behind-same k (n ∷ ns) [] e b = cc
behind-same k (n ∷ ns) (m ∷ ms) e b =
    let here : n.inputs ≡ m.inputs = cc in
    let later : ins ns ≡ ins ms = cc in
    ((λ i h. b.0 i (subst (In i) (sym here) h)), behind-same (k + 1) ns ms later b.1)

inputs-same : (ns ms : List Node) → ins ns ≡ ins ms → all_inputs ns ≡ all_inputs ms
inputs-same [] [] e = refl
inputs-same [] (m ∷ ms) e = cc
inputs-same (n ∷ ns) [] e = cc
inputs-same (n ∷ ns) (m ∷ ms) e =
    let here : n.inputs ≡ m.inputs = cc in
    let later : ins ns ≡ ins ms = cc in
    ap₂ (λ (is js : List ℕ). is ++ js) here (inputs-same ns ms later)

pub tree-same : (ns ms : List Node) → ins ns ≡ ins ms → IsTree ns → IsTree ms
tree-same ns ms e t = record { behind = behind-same 0 ns ms e t.behind; once = subst AreDistinct (inputs-same ns ms e) t.once }

above-at : (k : ℕ) (ns ms : List Node) (n : ℕ) → ins ns ≡ ins ms → above_from k ns n ≡ above_from k ms n
above-at k [] [] n e = refl
above-at k [] (m ∷ ms) n e = cc
above-at k (j ∷ ns) [] n e = cc
above-at k (j ∷ ns) (m ∷ ms) n e =
    let here : j.inputs ≡ m.inputs = cc in
    let later : ins ns ≡ ins ms = cc in
    ap₂ (λ (is : List ℕ) (o : Option Above). first_above k (place_in 0 is n) o) here (above-at (k + 1) ns ms n later)

pub above-same : (ns ms : List Node) (n : ℕ) → ins ns ≡ ins ms → above ns n ≡ above ms n
above-same ns ms n e = above-at 0 ns ms n e

-- ---- the way up

module _ (f g : ℕ → ℕ) where
  -- the way up turns on the counts of these nodes alone
  pub way-same : (k n : ℕ) (nodes : List Node) → ((m : ℕ) → k ≤ m → m < k + length nodes → f m ≡ g m) → way_up f k n nodes ≡ way_up g k n nodes
  way-same k n [] e = refl
  way-same k n (node ∷ nodes) e = go (place_in 0 node.inputs n) (λ m. way-same (k + 1) m nodes (λ i le lt. e i (omega (arith, le)) (omega (arith, lt))))
    where
      go : (o : Option ℕ) → ((m : ℕ) → way_up f (k + 1) m nodes ≡ way_up g (k + 1) m nodes)
          → (elim o as (λ _. List Level) [
            | None ↦ way_up f (k + 1) n nodes
            | Some input ↦ record { place = k; input = input; operator = node.operator; count = f k } ∷ way_up f (k + 1) k nodes
          ]) ≡ (elim o as (λ _. List Level) [
            | None ↦ way_up g (k + 1) n nodes
            | Some input ↦ record { place = k; input = input; operator = node.operator; count = g k } ∷ way_up g (k + 1) k nodes
          ])
      go None ih = ih n
      go (Some input) ih =
          ap₂ (λ (c : ℕ) (levels : List Level). record { place = k; input = input; operator = node.operator; count = c } ∷ levels) (e k (omega arith) (omega arith)) (ih k)

  -- a node that takes nothing of what climbs does not stand on the way
  pub way-past : (k n i : ℕ) (nodes : List Node) (node : Node) → StandBehind k nodes → k + i ≤ n → node.inputs ≡ (get_or nodes i nowhere).inputs
      → ((m : ℕ) → k + i < m → m < k + length nodes → f m ≡ g m) → way_up f k n nodes ≡ way_up g k n (set nodes i node)
  way-past k n i [] node b le e same = refl
  way-past k n zero (first ∷ nodes) node b le e same =
      by f first (past first.inputs (b.0))
      ∙ way-same (k + 1) n nodes (λ m l lt. same m (omega (arith, l)) (omega (arith, lt)))
      ∙ sym (by g node (ap (λ (is : List ℕ). place_in 0 is n) e ∙ past first.inputs (b.0)))
    where
      past : (is : List ℕ) → ((m : ℕ) → In m is → m < k) → place_in 0 is n ≡ None
      past is below = placed-none 0 is n (λ m h q. let l = below m h in omega (arith, l, le, q))

      by : (h : ℕ → ℕ) (x : Node) → place_in 0 x.inputs n ≡ None → way_up h k n (x ∷ nodes) ≡ way_up h (k + 1) n nodes
      by h x p = ap (λ (o : Option ℕ). elim o as (λ _. List Level) [
        | None ↦ way_up h (k + 1) n nodes
        | Some input ↦ record { place = k; input = input; operator = x.operator; count = h k } ∷ way_up h (k + 1) k nodes
      ]) p
  way-past k n (suc i) (first ∷ nodes) node b le e same =
      by f nodes ∙ way-past (k + 1) n i nodes node b.1 (omega (arith, le)) e (λ m l lt. same m (omega (arith, l)) (omega (arith, lt))) ∙ sym (by g (set nodes i node))
    where
      past : place_in 0 first.inputs n ≡ None
      past = placed-none 0 first.inputs n (λ m h q. let l = b.0 m h in omega (arith, l, le, q))

      by : (h : ℕ → ℕ) (rest : List Node) → way_up h k n (first ∷ rest) ≡ way_up h (k + 1) n rest
      by h rest = ap (λ (o : Option ℕ). elim o as (λ _. List Level) [
        | None ↦ way_up h (k + 1) n rest
        | Some input ↦ record { place = k; input = input; operator = first.operator; count = h k } ∷ way_up h (k + 1) k rest
      ]) past

  -- its length turns on the inputs alone
  pub way-long : (k n : ℕ) (ns ms : List Node) → ins ns ≡ ins ms → length (way_up f k n ns) ≡ length (way_up g k n ms)
  way-long k n [] [] e = refl
  way-long k n [] (m ∷ ms) e = cc
  way-long k n (j ∷ ns) [] e = cc
  way-long k n (j ∷ ns) (m ∷ ms) e =
      let here : j.inputs ≡ m.inputs = cc in
      let later : ins ns ≡ ins ms = cc in
      go (place_in 0 j.inputs n) (place_in 0 m.inputs n) (ap (λ (is : List ℕ). place_in 0 is n) here) (λ i. way-long (k + 1) i ns ms later)
    where
      go : (o p : Option ℕ) → o ≡ p → ((i : ℕ) → length (way_up f (k + 1) i ns) ≡ length (way_up g (k + 1) i ms))
          → length (elim o as (λ _. List Level) [
            | None ↦ way_up f (k + 1) n ns
            | Some input ↦ record { place = k; input = input; operator = j.operator; count = f k } ∷ way_up f (k + 1) k ns
          ]) ≡ length (elim p as (λ _. List Level) [
            | None ↦ way_up g (k + 1) n ms
            | Some input ↦ record { place = k; input = input; operator = m.operator; count = g k } ∷ way_up g (k + 1) k ms
          ])
      go None None q ih = ih n
      go None (Some input) q ih = cc
      go (Some input) None q ih = cc
      go (Some input) (Some other) q ih = ap suc (ih k)

-- ---- what is brought

pub both-at : (xs ys : List (List Arrival)) (n : ℕ) → length xs ≡ length ys → get_or (both_brought xs ys) n [] ≡ get_or xs n [] ++ get_or ys n []
both-at [] [] n e = refl
both-at [] (y ∷ ys) n e = cc
both-at (x ∷ xs) [] n e = cc
both-at (x ∷ xs) (y ∷ ys) zero e = refl
both-at (x ∷ xs) (y ∷ ys) (suc n) e = both-at xs ys n (omega (arith, e))

brought-none : (k n : ℕ) (nodes : List Node) (m : ℕ) → get_or (climbed_from k (record { from = n; elements = [] }) nodes).brought m [] ≡ []
brought-none k n [] m = refl
brought-none k n (node ∷ nodes) m = go (place_in 0 node.inputs n) m (λ i j. brought-none (k + 1) i nodes j)
  where
    go : (o : Option ℕ) (j : ℕ) → ((i l : ℕ) → get_or (climbed_from (k + 1) (record { from = i; elements = [] }) nodes).brought l [] ≡ [])
        → get_or (coming o [] ∷ (climbed_from (k + 1) (going_on o k node (record { from = n; elements = [] })) nodes).brought) j [] ≡ []
    go None zero ih = refl
    go None (suc j) ih = ih n j
    go (Some input) zero ih = refl
    go (Some input) (suc j) ih = ih k j

-- nothing comes to a node where nothing climbs
pub nothing-brought : (nodes : List Node) (n m : ℕ) → get_or (climbed nodes n []).brought m [] ≡ []
nothing-brought nodes n m = brought-none 0 n nodes m
