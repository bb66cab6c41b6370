-- Feeders kept the rows that were accepted.
use Rattle.std.proofs.Common.{◌≡◌, ℕ, suc, ◌+◌, Bool, true, false, List, [], ◌∷◌, ◌++◌, Option, refl, ap₂, subst}
use Rattle.std.specs.List.{AllZip}
use Rattle.pj_value.specs.declared.values.Value.{Value}
use Rattle.pj_plan.specs.declared.node.PlanNode.{PlanNode}
use Rattle.pj_feed.specs.Feeds.{AllTold, FeedState}
use Rattle.pj_laws.specs.Seats.{HubPlan}
use Rattle.pj_workers.specs.Feeds.{with_rows}
use Rattle.pj_crew_laws.specs.Crews.{AllWhole}
use Rattle.pj_crew.specs.declared.duties.Duty.{Duty}
use Rattle.pj_crew.specs.declared.duties.Duty.TheVariants.{Feed, Probe, Sweep}
use Rattle.pj_crew.specs.Duties.{IsSameDuty, acts_of}
use Rattle.pj_roster.specs.Assigned.{AreOthers, feeders, kept_at}
use Rattle.pj_roster.specs.Dismissed.{feeds_in, kept_in, rows_in}
use Rattle.pj_roster.specs.Rosters.{RostersKeep, rows_accepted, rows_kept}

-- others than feeders keep no rows
others-keep-not : {S : Type 0} (hub : HubPlan) (nodes : List PlanNode) (keep : Bool) (others news : List (Duty S)) → AreOthers nodes others → AllZip (IsSameDuty hub) others news → rows_in news ≡ rows_kept hub keep (feeds_in news)
others-keep-not hub nodes true [] [] are zip = refl
others-keep-not hub nodes false [] [] are zip = refl
others-keep-not hub nodes keep [] (n ∷ news) are zip = absurd zip
others-keep-not hub nodes keep (o ∷ others) [] are zip = absurd zip
others-keep-not hub nodes keep (Feed stream feed kept end ∷ others) (n ∷ news) are zip = absurd are.0
others-keep-not hub nodes keep (Probe index end ∷ others) (Feed same new now how ∷ news) are zip = absurd zip.0
others-keep-not hub nodes keep (Probe index end ∷ others) (Probe same how ∷ news) are zip = others-keep-not hub nodes keep others news are.1 zip.1
others-keep-not hub nodes keep (Probe index end ∷ others) (Sweep same now how ∷ news) are zip = absurd zip.0
others-keep-not hub nodes keep (Sweep index places end ∷ others) (Feed same new now how ∷ news) are zip = absurd zip.0
others-keep-not hub nodes keep (Sweep index places end ∷ others) (Probe same how ∷ news) are zip = absurd zip.0
others-keep-not hub nodes keep (Sweep index places end ∷ others) (Sweep same now how ∷ news) are zip = others-keep-not hub nodes keep others news are.1 zip.1

-- what one feeder kept stands before what the others did
one-kept : (hub : HubPlan) (keep : Bool) (new : FeedState) (now : Option (List (List Value))) (feeds : List FeedState) (rows : List (List (List Value))) → now ≡ with_rows (kept_at keep) (rows_accepted hub new) → rows ≡ rows_kept hub keep feeds
    → kept_in now ++ rows ≡ rows_kept hub keep (new ∷ feeds)
one-kept hub true new now feeds rows n r = ap₂ (λ (k : Option (List (List Value))) (rs : List (List (List Value))). kept_in k ++ rs) n r
one-kept hub false new now feeds rows n r = ap₂ (λ (k : Option (List (List Value))) (rs : List (List (List Value))). kept_in k ++ rs) n r

kept-by : {S : Type 0} (hub : HubPlan) (nodes : List PlanNode) (k : ℕ) (keep : Bool) (feeds : List FeedState) (others news : List (Duty S)) → AreOthers nodes others → AllZip (IsSameDuty hub) (feeders k keep feeds ++ others) news
    → AllTold feeds → AllWhole (acts_of (feeders k keep feeds ++ others) news) → rows_in news ≡ rows_kept hub keep (feeds_in news)
kept-by hub nodes k keep [] others news are zip told whole = others-keep-not hub nodes keep others news are zip
kept-by hub nodes k keep (feed ∷ feeds) others [] are zip told whole = absurd zip
kept-by hub nodes k keep (feed ∷ feeds) others (Probe same how ∷ news) are zip told whole = absurd zip.0
kept-by hub nodes k keep (feed ∷ feeds) others (Sweep same now how ∷ news) are zip told whole = absurd zip.0
kept-by hub nodes k keep (feed ∷ feeds) others (Feed same new now how ∷ news) are zip told whole =
    one-kept hub keep new now (feeds_in news) (rows_in news) (zip.0.1 told.0 (whole 0 _ refl))
    (kept-by hub nodes (k + 1) keep feeds others news are zip.1 told.1 (λ i act e. whole (suc i) act e))

pub keep-all : (S : Type 0) → RostersKeep S
keep-all S hub nodes keep feeds duties news is zip told whole =
    kept-by hub nodes 0 keep feeds is.others news is.are_others (subst (λ (ds : List (Duty S)). AllZip (IsSameDuty hub) ds news) is.are zip) told
    (subst (λ (ds : List (Duty S)). AllWhole (acts_of ds news)) is.are whole)
