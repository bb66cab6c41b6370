-- A climb goes from a node to the one above it, and elements climb one after the other.
use Rattle.std.proofs.Common.{ℕ, suc, ◌+◌, ◌<◌, ◌≤◌, List, [], ◌∷◌, ◌++◌, ◌≡◌, Option, Some, None, map, get_or, set, refl, sym, ap, ap₂, ◌∙◌, subst, arith}
use Rattle.std.proofs.lemmas.List.{map-append}
use Rattle.pj_events.specs.Join.{In, Element}
use Rattle.pj_events.specs.Plan.{Operator, Node, hands_all, after_all, nowhere}
use Rattle.pj_events.specs.Outcomes.{Arrival, arriving, place_in}
use Rattle.pj_laws.specs.Climb.{StandBehind, IsTree, Above, first_above, above_from, above, local_at, node_after, node_hands, Load, coming, going_on, Climbed, behind_node, climbed_from, climbed, with_brought, climbed_above, climbed_none, in_two, ClimbsOn}
use Rattle.pj_laws.proofs.Climbing.{placed-none, climbs-by}
use Rattle.pj_laws.proofs.Glue.{after-append, hands-append}

-- ---- from a node to the one above

abbrev from : ℕ → List Element → Load
from n es = record { from = n; elements = es }

none-above : (k : ℕ) (o : Option ℕ) (later : Option Above) → first_above k o later ≡ None → (o ≡ None) × (later ≡ None)
none-above k None later e = (refl, e)
none-above k (Some input) later e = cc

ends-from : (k : ℕ) (nodes : List Node) (n : ℕ) (es : List Element) → above_from k nodes n ≡ None → climbed_from k (from n es) nodes ≡ climbed_none nodes n es
ends-from k [] n es a = refl
ends-from k (node ∷ nodes) n es a =
    let p = none-above k (place_in 0 node.inputs n) (above_from (k + 1) nodes n) a in
    climbs-by k (from n es) node nodes p.0 ∙ ap (behind_node node []) (ends-from (k + 1) nodes n es p.1)

-- the climb through the node at this place among these
abbrev through : ℕ → List Node → ℕ → ℕ → List Element → Climbed
through k nodes i input es =
    let node = get_or nodes i nowhere in
    let came = map (arriving input) es in
    with_brought i came (climbed_from k (from (k + i) (node_hands node came)) (set nodes i (node_after node came)))

-- the node above stands at a place among these, and the climb goes through it
pub record Goes (k : ℕ) (nodes : List Node) (n : ℕ) (es : List Element) (a : Above) : Type 0 where
  pub i : ℕ
  pub at : a.place ≡ k + i
  pub is : climbed_from k (from n es) nodes ≡ through k nodes i a.input es

module _ (k : ℕ) (node : Node) (nodes : List Node) (n : ℕ) (es : List Element) (below : (m : ℕ) → In m node.inputs → m < k) where
  past : (t : ℕ) → k ≤ t → place_in 0 node.inputs t ≡ None
  past t le = placed-none 0 node.inputs t (λ m h q. let l = below m h in omega (arith, l, le, q))

  goes-here : (input : ℕ) → place_in 0 node.inputs n ≡ Some input → Goes k (node ∷ nodes) n es (record { place = k; input = input })
  goes-here input p = record {
    i = 0;
    at = z;
    is = ap (λ (o : Option ℕ). behind_node node (coming o es) (climbed_from (k + 1) (going_on o k node (from n es)) nodes)) p
        ∙ ap (λ (m : ℕ). behind_node node came (climbed_from (k + 1) (from m (node_hands node came)) nodes)) z
        ∙ sym (ap (with_brought 0 came) (climbs-by k (from (k + 0) (node_hands node came)) (node_after node came) nodes (past (k + 0) (omega arith))));
  }
    where
      came : List Arrival
      came = map (arriving input) es

      z : k ≡ k + 0
      z = omega arith

  goes-later : (a : Above) → place_in 0 node.inputs n ≡ None → Goes (k + 1) nodes n es a → Goes k (node ∷ nodes) n es a
  goes-later a p g = record {
    i = suc g.i;
    at = g.at ∙ z;
    is = climbs-by k (from n es) node nodes p
        ∙ ap (behind_node node []) g.is
        ∙ ap (λ (m : ℕ). behind_node node [] (with_brought g.i came (climbed_from (k + 1) (from m (node_hands there came)) (set nodes g.i (node_after there came))))) z
        ∙ sym (ap (with_brought (suc g.i) came) (climbs-by k (from (k + suc g.i) (node_hands there came)) node (set nodes g.i (node_after there came)) (past (k + suc g.i) (omega arith))));
  }
    where
      came : List Arrival
      came = map (arriving a.input) es

      there : Node
      there = get_or nodes g.i nowhere

      z : k + 1 + g.i ≡ k + suc g.i
      z = omega arith

goes-from : (k : ℕ) (nodes : List Node) (n : ℕ) (es : List Element) (a : Above) → StandBehind k nodes → above_from k nodes n ≡ Some a → Goes k nodes n es a
goes-from k [] n es a b e = cc
goes-from k (node ∷ nodes) n es a b e = go (place_in 0 node.inputs n) refl e (goes-from (k + 1) nodes n es a b.1)
  where
    go : (o : Option ℕ) → place_in 0 node.inputs n ≡ o → first_above k o (above_from (k + 1) nodes n) ≡ Some a → (above_from (k + 1) nodes n ≡ Some a → Goes (k + 1) nodes n es a) → Goes k (node ∷ nodes) n es a
    go None p q ih = goes-later k node nodes n es b.0 a p (ih q)
    go (Some input) p q ih =
        let same : record { place = k; input = input } ≡ a = cc q in
        subst (λ (x : Above). Goes k (node ∷ nodes) n es x) same (goes-here k node nodes n es b.0 input p)

goes-on : (nodes : List Node) → IsTree nodes → (n : ℕ) (es : List Element) (a : Above) → above nodes n ≡ Some a → climbed nodes n es ≡ climbed_above nodes a es
goes-on nodes tree n es a e =
    let g = goes-from 0 nodes n es a tree.behind e in
    let z : 0 + g.i ≡ g.i = omega arith in
    let same : g.i ≡ a.place = sym z ∙ sym g.at in
    g.is
    ∙ ap (λ (m : ℕ). with_brought g.i (map (arriving a.input) es) (climbed_from 0 (from m (node_hands (get_or nodes g.i nowhere) (map (arriving a.input) es))) (set nodes g.i (node_after (get_or nodes g.i nowhere) (map (arriving a.input) es))))) z
    ∙ ap (λ (i : ℕ). with_brought i (map (arriving a.input) es) (climbed_from 0 (from i (node_hands (get_or nodes i nowhere) (map (arriving a.input) es))) (set nodes i (node_after (get_or nodes i nowhere) (map (arriving a.input) es))))) same

-- ---- one after the other

after-both : (node : Node) (xs ys : List Arrival) → node_after node (xs ++ ys) ≡ node_after (node_after node xs) ys
after-both node xs ys =
    ap (λ (o : Operator). record { inputs = node.inputs; operator = o })
    (ap (after_all node.operator) (map-append local_at xs ys) ∙ after-append node.operator (map local_at xs) (map local_at ys))

hands-both : (node : Node) (xs ys : List Arrival) → node_hands node (xs ++ ys) ≡ node_hands node xs ++ node_hands (node_after node xs) ys
hands-both node xs ys = ap (hands_all node.operator) (map-append local_at xs ys) ∙ hands-append node.operator (map local_at xs) (map local_at ys)

abbrev second : ℕ → ℕ → List Element → List Element → List Node → Climbed
second k n es fs nodes = climbed_from k (from n fs) (climbed_from k (from n es) nodes).nodes

parts-from : (k : ℕ) (n : ℕ) (es fs : List Element) (nodes : List Node) → climbed_from k (from n (es ++ fs)) nodes ≡ in_two (climbed_from k (from n es) nodes) (second k n es fs nodes)
parts-from k n es fs [] = refl
parts-from k n es fs (node ∷ nodes) = go (place_in 0 node.inputs n) (λ m us vs. parts-from (k + 1) m us vs nodes)
  where
    go : (o : Option ℕ) → ((m : ℕ) (us vs : List Element) → climbed_from (k + 1) (from m (us ++ vs)) nodes ≡ in_two (climbed_from (k + 1) (from m us) nodes) (second (k + 1) m us vs nodes))
        → behind_node node (coming o (es ++ fs)) (climbed_from (k + 1) (going_on o k node (from n (es ++ fs))) nodes)
        ≡ in_two (behind_node node (coming o es) (climbed_from (k + 1) (going_on o k node (from n es)) nodes))
        (behind_node (node_after node (coming o es)) (coming o fs) (climbed_from (k + 1) (going_on o k (node_after node (coming o es)) (from n fs)) (climbed_from (k + 1) (going_on o k node (from n es)) nodes).nodes))
    go None ih = ap (behind_node node []) (ih n es fs)
    go (Some input) ih =
        let xs = map (arriving input) es in
        let ys = map (arriving input) fs in
        ap (λ (came : List Arrival). behind_node node came (climbed_from (k + 1) (from k (node_hands node came)) nodes)) (map-append (arriving input) es fs)
        ∙ ap₂ (λ (after-it : Node) (up : List Element). record { nodes = after-it ∷ (climbed_from (k + 1) (from k up) nodes).nodes; brought = (xs ++ ys) ∷ (climbed_from (k + 1) (from k up) nodes).brought; left = (climbed_from (k + 1) (from k up) nodes).left })
        (after-both node xs ys) (hands-both node xs ys)
        ∙ ap (λ (c : Climbed). record { nodes = node_after (node_after node xs) ys ∷ c.nodes; brought = (xs ++ ys) ∷ c.brought; left = c.left }) (ih k (node_hands node xs) (node_hands (node_after node xs) ys))

still-from : (k n : ℕ) (nodes : List Node) → ((climbed_from k (from n []) nodes).nodes ≡ nodes) × ((climbed_from k (from n []) nodes).left.elements ≡ [])
still-from k n [] = (refl, refl)
still-from k n (node ∷ nodes) = go (place_in 0 node.inputs n) (λ m. still-from (k + 1) m nodes)
  where
    go : (o : Option ℕ) → ((m : ℕ) → ((climbed_from (k + 1) (from m []) nodes).nodes ≡ nodes) × ((climbed_from (k + 1) (from m []) nodes).left.elements ≡ []))
        → ((node_after node (coming o []) ∷ (climbed_from (k + 1) (going_on o k node (from n [])) nodes).nodes) ≡ node ∷ nodes) × ((climbed_from (k + 1) (going_on o k node (from n [])) nodes).left.elements ≡ [])
    go None ih = (ap (λ (ns : List Node). node ∷ ns) (ih n).0, (ih n).1)
    go (Some input) ih = (ap (λ (ns : List Node). node ∷ ns) (ih k).0, (ih k).1)

pub climbs-on : (nodes : List Node) → IsTree nodes → ClimbsOn nodes
climbs-on nodes tree = record {
  ends = λ n es e. ends-from 0 nodes n es e;
  goes_on = λ n es a e. goes-on nodes tree n es a e;
  parts = λ n es fs. parts-from 0 n es fs nodes;
  nothing = λ n. still-from 0 n nodes;
}
