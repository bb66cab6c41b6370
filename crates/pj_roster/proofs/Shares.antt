-- Inputs of joins are shared out among sweepers.
use Rattle.std.proofs.Common.{◌≡◌, ◌<◌, ◌≤◌, ℕ, zero, suc, ◌+◌, ◌%◌, arith, Bool, true, false, nat_eq, List, [], ◌∷◌, ◌++◌, map, length, get_or, drop, drop-cons, refl, sym, ap, ◌∙◌, append_assoc, append-nil}
use Rattle.std.proofs.lemmas.List.{length-map, map-append}
use Rattle.std.proofs.lemmas.List.Elements.{All-append, All-cons, All-nil}
use Rattle.pj_plan.specs.declared.node.PlanNode.{PlanNode}
use Rattle.pj_plan.specs.Canonical.{node_at}
use Rattle.pj_plan.specs.Nodes.{inputs_of, joins_of}
use Rattle.pj_script.specs.Reading.{IsJoin}
use Rattle.pj_script.proofs.Numbers.{joins_are}
use Rattle.pj_events.specs.Join.{upto_from}
use Rattle.pj_join_laws.proofs.Upto.{length-upto, upto-push}
use Rattle.pj_roster.specs.Assigned.{ArePlaces, IsPlace, place_of, places_where, share_at, share_from, shares_among, sweeper_count}

-- ---- one after the other

one_more : {A : Type 0} (f : ℕ → A) (n : ℕ) → map f (upto_from 0 (n + 1)) ≡ map f (upto_from 0 n) ++ f n ∷ []
one_more f n =
    ap (λ m. map f (upto_from 0 m)) (let next : n + 1 ≡ suc n = omega (arith) in next)
    ∙ (ap (map f) (upto-push 0 n) ∙ (map-append f (upto_from 0 n) ((0 + n) ∷ []) ∙ ap (λ m. map f (upto_from 0 n) ++ f m ∷ []) (let same : 0 + n ≡ n = omega (arith) in same)))

-- one input more
pub input_more : (before share after : List (ℕ × ℕ)) (join n : ℕ) → share ≡ before ++ map (place_of join) (upto_from 0 n) → after ≡ share ++ (join, n) ∷ [] → after ≡ before ++ map (place_of join) (upto_from 0 (n + 1))
input_more before share after join n s a =
    a ∙ (ap (λ ps. ps ++ (join, n) ∷ []) s ∙ (append_assoc before (map (place_of join) (upto_from 0 n)) ((join, n) ∷ []) ∙ ap (λ ps. before ++ ps) (sym (one_more (place_of join) n))))

-- one share more
pub share_more : (nodes : List PlanNode) (count : ℕ) (shares : List (List (ℕ × ℕ))) (share : List (ℕ × ℕ)) (after : List (List (ℕ × ℕ))) (n : ℕ) → shares ≡ map (share_at nodes count) (upto_from 0 n) → share ≡ share_at nodes count n
    → after ≡ shares ++ share ∷ [] → after ≡ map (share_at nodes count) (upto_from 0 (n + 1))
share_more nodes count shares share after n s is a = a ∙ (ap (λ ss. ss ++ share ∷ []) s ∙ (ap (λ x. map (share_at nodes count) (upto_from 0 n) ++ x ∷ []) is ∙ sym (one_more (share_at nodes count) n)))

-- of these joins those before this place were looked at
pub record IsSharing (nodes : List PlanNode) (count sweeper k : ℕ) (joins : List ℕ) (share : List (ℕ × ℕ)) : Type 0 where
  pub made : share ++ share_from nodes count sweeper k (drop k joins) ≡ share_at nodes count sweeper

-- ---- what they are

inputs-are : (nodes : List PlanNode) (join : ℕ) → IsJoin nodes join → (k n : ℕ) → k + n ≡ length (inputs_of (node_at nodes join)) → ArePlaces nodes (map (place_of join) (upto_from k n))
inputs-are nodes join is k zero e = All-nil (IsPlace nodes)
inputs-are nodes join is k (suc n) e =
    All-cons (IsPlace nodes) (place_of join k) (map (place_of join) (upto_from (k + 1) n)) (is.there, is.joins, omega (arith, e)) (inputs-are nodes join is (k + 1) n (omega (arith, e)))

where-are : (nodes : List PlanNode) (due : Bool) (join : ℕ) → IsJoin nodes join → ArePlaces nodes (places_where due nodes join)
where-are nodes true join is = inputs-are nodes join is 0 (length (inputs_of (node_at nodes join))) (omega (arith))
where-are nodes false join is = All-nil (IsPlace nodes)

from-are : (nodes : List PlanNode) (count sweeper k : ℕ) (joins : List ℕ) → ((i : ℕ) → i < length joins → IsJoin nodes (get_or joins i 0)) → ArePlaces nodes (share_from nodes count sweeper k joins)
from-are nodes count sweeper k [] each = All-nil (IsPlace nodes)
from-are nodes count sweeper k (join ∷ joins) each =
    All-append (IsPlace nodes) (places_where (nat_eq (k % count) sweeper) nodes join) (share_from nodes count sweeper (k + 1) joins)
    (where-are nodes (nat_eq (k % count) sweeper) join (each 0 (omega (arith)))) (from-are nodes count sweeper (k + 1) joins (λ i lt. each (suc i) (omega (arith, lt))))

pub share-are : (nodes : List PlanNode) (count sweeper : ℕ) → ArePlaces nodes (share_at nodes count sweeper)
share-are nodes count sweeper = from-are nodes count sweeper 0 (joins_of nodes) (λ i lt. joins_are nodes (joins_of nodes) i refl lt)

-- there are no more sweepers than workers
pub shares-few : (nodes : List PlanNode) (workers : ℕ) (shares : List (List (ℕ × ℕ))) → shares ≡ shares_among nodes (sweeper_count nodes workers) → length shares ≤ workers
shares-few nodes workers shares are =
    let many : length shares ≡ sweeper_count nodes workers = ap length are ∙ (length-map (upto_from 0 (sweeper_count nodes workers)) (share_at nodes (sweeper_count nodes workers)) ∙ length-upto 0 (sweeper_count nodes workers)) in
    omega (arith, many)
