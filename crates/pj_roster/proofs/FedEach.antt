-- Feeds come back as their feeders left them.
use Rattle.std.proofs.Common.{◌≡◌, ◌<◌, ◌≤◌, ℕ, zero, suc, ◌+◌, arith, Bool, false, List, [], ◌∷◌, ◌++◌, length, slice_get, Some, None, refl, sym, ap, subst}
use Rattle.std.specs.List.{AllZip}
use Rattle.pj_plan.specs.declared.node.PlanNode.{PlanNode}
use Rattle.pj_feed.specs.Feeds.{FeedState}
use Rattle.pj_laws.specs.Seats.{HubPlan}
use Rattle.pj_crew_laws.specs.Acts.{Act, is_writer}
use Rattle.pj_crew.specs.declared.duties.Duty.{Duty}
use Rattle.pj_crew.specs.declared.duties.Duty.TheVariants.{Feed, Probe, Sweep}
use Rattle.pj_crew.specs.Duties.{IsSameDuty, act_of, acts_of}
use Rattle.pj_roster.specs.Assigned.{AreOthers, feeders}
use Rattle.pj_roster.specs.Dismissed.{feeds_in, rows_in}
use Rattle.pj_roster.specs.Rosters.{FedAt, RostersFeed}

-- ---- nobody writes

one-writes-not : {S : Type 0} (old new : Duty S) → is_writer (act_of old new) ≡ false
one-writes-not (Feed stream feed kept end) (Feed same new now how) = refl
one-writes-not (Feed stream feed kept end) (Probe same how) = refl
one-writes-not (Feed stream feed kept end) (Sweep same now how) = refl
one-writes-not (Probe index end) (Feed same new now how) = refl
one-writes-not (Probe index end) (Probe same how) = refl
one-writes-not (Probe index end) (Sweep same now how) = refl
one-writes-not (Sweep index places end) (Feed same new now how) = refl
one-writes-not (Sweep index places end) (Probe same how) = refl
one-writes-not (Sweep index places end) (Sweep same now how) = refl

none-writes : {S : Type 0} (olds news : List (Duty S)) (i : ℕ) (act : Act) → slice_get (acts_of olds news) i ≡ Some act → is_writer act ≡ false
none-writes [] news i act e = absurd (cc)
none-writes (o ∷ olds) [] i act e = absurd (cc)
none-writes (o ∷ olds) (n ∷ news) zero act e = let same : act_of o n ≡ act = cc in subst (λ (a : Act). is_writer a ≡ false) same (one-writes-not o n)
none-writes (o ∷ olds) (n ∷ news) (suc i) act e = none-writes olds news i act e

-- ---- feeds

-- others than feeders have no feeds
others-feed-not : {S : Type 0} (hub : HubPlan) (nodes : List PlanNode) (others news : List (Duty S)) → AreOthers nodes others → AllZip (IsSameDuty hub) others news → feeds_in news ≡ []
others-feed-not hub nodes [] [] are zip = refl
others-feed-not hub nodes [] (n ∷ news) are zip = absurd zip
others-feed-not hub nodes (o ∷ others) [] are zip = absurd zip
others-feed-not hub nodes (Feed stream feed kept end ∷ others) (n ∷ news) are zip = absurd are.0
others-feed-not hub nodes (Probe index end ∷ others) (Feed same new now how ∷ news) are zip = absurd zip.0
others-feed-not hub nodes (Probe index end ∷ others) (Probe same how ∷ news) are zip = others-feed-not hub nodes others news are.1 zip.1
others-feed-not hub nodes (Probe index end ∷ others) (Sweep same now how ∷ news) are zip = absurd zip.0
others-feed-not hub nodes (Sweep index places end ∷ others) (Feed same new now how ∷ news) are zip = absurd zip.0
others-feed-not hub nodes (Sweep index places end ∷ others) (Probe same how ∷ news) are zip = absurd zip.0
others-feed-not hub nodes (Sweep index places end ∷ others) (Sweep same now how ∷ news) are zip = others-feed-not hub nodes others news are.1 zip.1

count-fed : {S : Type 0} (hub : HubPlan) (nodes : List PlanNode) (k : ℕ) (keep : Bool) (feeds : List FeedState) (others news : List (Duty S)) → AreOthers nodes others
    → AllZip (IsSameDuty hub) (feeders k keep feeds ++ others) news → length (feeds_in news) ≡ length feeds
count-fed hub nodes k keep [] others news are zip = ap length (others-feed-not hub nodes others news are zip)
count-fed hub nodes k keep (feed ∷ feeds) others [] are zip = absurd zip
count-fed hub nodes k keep (feed ∷ feeds) others (Feed same new now how ∷ news) are zip = ap suc (count-fed hub nodes (k + 1) keep feeds others news are zip.1)
count-fed hub nodes k keep (feed ∷ feeds) others (Probe same how ∷ news) are zip = absurd zip.0
count-fed hub nodes k keep (feed ∷ feeds) others (Sweep same now how ∷ news) are zip = absurd zip.0

-- a feeder has one list of rows at most, others none
rows-few : {S : Type 0} (news : List (Duty S)) → length (rows_in news) ≤ length (feeds_in news)
rows-few [] = omega (arith)
rows-few (Feed stream feed None end ∷ news) = omega (arith, rows-few news)
rows-few (Feed stream feed (Some rows) end ∷ news) = omega (arith, rows-few news)
rows-few (Probe index end ∷ news) = rows-few news
rows-few (Sweep index places end ∷ news) = rows-few news

fed-at : {S : Type 0} (hub : HubPlan) (k : ℕ) (keep : Bool) (feeds : List FeedState) (others news : List (Duty S)) → AllZip (IsSameDuty hub) (feeders k keep feeds ++ others) news
    → (place : ℕ) → place < length feeds → FedAt feeds (feeders k keep feeds ++ others) news place
fed-at hub k keep [] others news zip place lt = absurd (omega (arith, lt))
fed-at hub k keep (feed ∷ feeds) others [] zip place lt = absurd zip
fed-at hub k keep (feed ∷ feeds) others (Probe same how ∷ news) zip place lt = absurd zip.0
fed-at hub k keep (feed ∷ feeds) others (Sweep same now how ∷ news) zip place lt = absurd zip.0
fed-at hub k keep (feed ∷ feeds) others (Feed same new now how ∷ news) zip zero lt = record { old = feed; new = new; end = how; was = refl; is = refl; did = refl }
fed-at hub k keep (feed ∷ feeds) others (Feed same new now how ∷ news) zip (suc place) lt =
    let at = fed-at hub (k + 1) keep feeds others news zip.1 place (omega (arith, lt)) in
    record { old = at.old; new = at.new; end = at.end; was = at.was; is = at.is; did = at.did }

pub feed-each : (S : Type 0) → RostersFeed S
feed-each S hub nodes keep feeds duties news is zip = record {
  count = count;
  rows = omega (arith, count, rows-few news);
  each = λ place lt. subst (λ (ds : List (Duty S)). FedAt feeds ds news place) (sym is.are) (fed-at hub 0 keep feeds is.others news same place lt);
  none_writes = none-writes duties news;
}
  where
    same : AllZip (IsSameDuty hub) (feeders 0 keep feeds ++ is.others) news
    same = subst (λ (ds : List (Duty S)). AllZip (IsSameDuty hub) ds news) is.are zip

    count : length (feeds_in news) ≡ length feeds
    count = count-fed hub nodes 0 keep feeds is.others news is.are_others same
