-- Duties of all kinds, one behind the other.
use Rattle.std.proofs.Common.{◌≡◌, ℕ, zero, suc, ◌+◌, Bool, List, [], ◌∷◌, ◌++◌, map, length, refl, ap, ◌∙◌, append_assoc, length-append}
use Rattle.pj_plan.specs.declared.node.PlanNode.{PlanNode}
use Rattle.pj_events.specs.Join.{upto_from}
use Rattle.pj_feed.specs.Feeds.{FeedState}
use Rattle.pj_crew.specs.declared.duties.Duty.{Duty}
use Rattle.pj_roster.specs.Assigned.{AreAssigned, AreOthers, crew_of, feeders, probers, share_at, shares_among, sweeper_count, sweepers}
use Rattle.pj_roster.proofs.Shares.{share-are}

-- ---- how many

feeders-long : (S : Type 0) (k : ℕ) (keep : Bool) (feeds : List FeedState) → length (feeders {S = S} k keep feeds) ≡ length feeds
feeders-long S k keep [] = refl
feeders-long S k keep (feed ∷ feeds) = ap suc (feeders-long S (k + 1) keep feeds)

probers-long : (S : Type 0) (k count : ℕ) → length (probers {S = S} k count) ≡ count
probers-long S k zero = refl
probers-long S k (suc count) = ap suc (probers-long S (k + 1) count)

sweepers-long : (S : Type 0) (k : ℕ) (shares : List (List (ℕ × ℕ))) → length (sweepers {S = S} k shares) ≡ length shares
sweepers-long S k [] = refl
sweepers-long S k (places ∷ shares) = ap suc (sweepers-long S (k + 1) shares)

-- ---- what they are

probers-other : (S : Type 0) (nodes : List PlanNode) (k count : ℕ) → AreOthers nodes (probers {S = S} k count)
probers-other S nodes k zero = tt
probers-other S nodes k (suc count) = (tt, probers-other S nodes (k + 1) count)

sweepers-other : (S : Type 0) (nodes : List PlanNode) (count k : ℕ) (ns : List ℕ) → AreOthers nodes (sweepers {S = S} k (map (share_at nodes count) ns))
sweepers-other S nodes count k [] = tt
sweepers-other S nodes count k (n ∷ ns) = (share-are nodes count n, sweepers-other S nodes count (k + 1) ns)

others-join : {S : Type 0} (nodes : List PlanNode) (xs ys : List (Duty S)) → AreOthers nodes xs → AreOthers nodes ys → AreOthers nodes (xs ++ ys)
others-join nodes [] ys are more = more
others-join nodes (x ∷ xs) ys are more = (are.0, others-join nodes xs ys are.1 more)

-- a whole crew is assigned
pub crew-assigned : {S : Type 0} (nodes : List PlanNode) (keep : Bool) (feeds : List FeedState) (workers : ℕ) (duties : List (Duty S)) → duties ≡ crew_of nodes keep feeds workers → AreAssigned nodes keep feeds duties
crew-assigned {S = S} nodes keep feeds workers duties is = record {
  others = probers 0 workers ++ sweepers 0 (shares_among nodes (sweeper_count nodes workers));
  are_others = others-join nodes (probers 0 workers) (sweepers 0 (shares_among nodes (sweeper_count nodes workers))) (probers-other S nodes 0 workers)
      (sweepers-other S nodes (sweeper_count nodes workers) 0 (upto_from 0 (sweeper_count nodes workers)));
  are = is;
}

-- feeders were put behind nothing, probers behind them, and sweepers at the end
pub crewed : {S : Type 0} (nodes : List PlanNode) (keep : Bool) (feeds : List FeedState) (workers : ℕ) (shares : List (List (ℕ × ℕ))) (none fed probed all : List (Duty S)) → none ≡ [] → fed ≡ none ++ feeders 0 keep feeds
    → probed ≡ fed ++ probers 0 workers → all ≡ probed ++ sweepers 0 shares → shares ≡ shares_among nodes (sweeper_count nodes workers) → all ≡ crew_of nodes keep feeds workers
crewed nodes keep feeds workers shares none fed probed all n f p s are =
    s ∙ (ap (λ ds. ds ++ sweepers 0 shares) (p ∙ ap (λ ds. ds ++ probers 0 workers) (f ∙ ap (λ ds. ds ++ feeders 0 keep feeds) n))
    ∙ (append_assoc (feeders 0 keep feeds) (probers 0 workers) (sweepers 0 shares) ∙ ap (λ ss. feeders 0 keep feeds ++ (probers 0 workers ++ sweepers 0 ss)) are))

-- ---- room

pub fed-long : {S : Type 0} (keep : Bool) (feeds : List FeedState) (none fed : List (Duty S)) → none ≡ [] → fed ≡ none ++ feeders 0 keep feeds → length fed ≡ length feeds
fed-long {S = S} keep feeds none fed n f = ap length (f ∙ ap (λ ds. ds ++ feeders 0 keep feeds) n) ∙ feeders-long S 0 keep feeds

pub probed-long : {S : Type 0} (workers : ℕ) (fed probed : List (Duty S)) → probed ≡ fed ++ probers 0 workers → length probed ≡ length fed + workers
probed-long {S = S} workers fed probed p = ap length p ∙ (length-append fed (probers 0 workers) ∙ ap (λ n. length fed + n) (probers-long S 0 workers))

pub swept-long : {S : Type 0} (shares : List (List (ℕ × ℕ))) (probed all : List (Duty S)) → all ≡ probed ++ sweepers 0 shares → length all ≡ length probed + length shares
swept-long {S = S} shares probed all s = ap length s ∙ (length-append probed (sweepers 0 shares) ∙ ap (λ n. length probed + n) (sweepers-long S 0 shares))
