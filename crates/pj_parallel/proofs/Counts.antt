-- What is counted against a run is so of some worker.
use Rattle.std.proofs.Common.{◌≡◌, ◌⊎◌, ℕ, zero, suc, ◌+◌, arith, Bool, List, [], ◌∷◌, ◌++◌, slice_get, Option, Some, None, inl, inr, refl, sym, ap, ◌∙◌, subst}
use Rattle.std.specs.List.{AllZip}
use Rattle.std.proofs.lemmas.Option.{slice_get_within}
use Rattle.pj_value.specs.declared.values.Value.{Value}
use Rattle.pj_plan.specs.declared.node.PlanNode.{PlanNode}
use Rattle.pj_events.specs.declared.events.Stop.{Stop}
use Rattle.pj_events.specs.declared.events.Stop.TheVariants.{Limit, NoMemory}
use Rattle.pj_feed.specs.Feeds.{FeedState}
use Rattle.pj_laws.specs.Seats.{HubPlan}
use Rattle.pj_workers.specs.declared.ends.WorkEnd.TheVariants.{Over, NoMemory as WorkMemory, Stopped as WorkStopped}
use Rattle.pj_workers.specs.declared.feeding.FeedEnd.{FeedEnd}
use Rattle.pj_workers.specs.declared.feeding.FeedEnd.TheVariants.{Ended, Halted, ReadFault, ByteLimit, NoMemory as FeedMemory, Stopped as FeedStopped}
use Rattle.pj_crew_laws.specs.Acts.{Act, Fed, feed_stop, stop_told, work_stop}
use Rattle.pj_crew_laws.specs.Crews.{Did}
use Rattle.pj_crew.proofs.Endings.{some-is}
use Rattle.pj_crew.specs.declared.duties.Duty.{Duty}
use Rattle.pj_crew.specs.declared.duties.Duty.TheVariants.{Feed, Probe, Sweep}
use Rattle.pj_crew.specs.Duties.{IsSameDuty, act_of, acts_of}
use Rattle.pj_roster.specs.declared.causes.Causes.{Causes}
use Rattle.pj_roster.specs.Assigned.{AreAssigned, AreOthers, feeders}
use Rattle.pj_roster.specs.Dismissed.{causes_from, feeds_in, with_duty, with_first}
use Rattle.pj_roster.specs.Rosters.{FedEach}

-- the feeder of this stream ended so
pub record FeederAt {S : Type 0} (duties : List (Duty S)) (stream : ℕ) (end : FeedEnd) : Type 0 where
  pub place : ℕ
  pub feed : FeedState
  pub kept : Option (List (List Value))
  pub there : slice_get duties place ≡ Some (Feed stream feed kept end)

-- the stop that a duty was refused with
abbrev pub duty_stop : {S : Type 0} → Duty S → Option Stop
duty_stop (Feed stream feed kept end) = feed_stop end
duty_stop (Probe index end) = work_stop end
duty_stop (Sweep index places end) = work_stop end

-- some duty was refused with this limit
pub record LimitAt {S : Type 0} (duties : List (Duty S)) (node : ℕ) : Type 0 where
  pub place : ℕ
  pub duty : Duty S
  pub there : slice_get duties place ≡ Some duty
  pub told : duty_stop duty ≡ Some (Limit node)

first-by : {Goal : Type 0} (set : Option ℕ) (number s : ℕ) → with_first set number ≡ Some s → (set ≡ Some s → Goal) → (number ≡ s → Goal) → Goal
first-by None number s e old new = new (some-is number s e)
first-by (Some first) number s e old new = old e

later-feeder : {S : Type 0} (duty : Duty S) (duties : List (Duty S)) (stream : ℕ) (end : FeedEnd) → FeederAt duties stream end → FeederAt (duty ∷ duties) stream end
later-feeder duty duties stream end at = record { place = suc at.place; feed = at.feed; kept = at.kept; there = at.there }

later-limit : {S : Type 0} (duty : Duty S) (duties : List (Duty S)) (node : ℕ) → LimitAt duties node → LimitAt (duty ∷ duties) node
later-limit duty duties node at = record { place = suc at.place; duty = at.duty; there = at.there; told = at.told }

module _ {S : Type 0} where
  pub reads-by : (causes : Causes) (duties : List (Duty S)) (s : ℕ) → (causes_from causes duties).read ≡ Some s → (causes.read ≡ Some s) ⊎ FeederAt duties s ReadFault
  reads-by causes [] s e = inl e
  reads-by causes (duty ∷ duties) s e = elim (reads-by (with_duty causes duty) duties s e) [
    | inl now ↦ here duty now
    | inr at ↦ inr (later-feeder duty duties s ReadFault at)
  ]
    where
      here : (d : Duty S) → (with_duty causes d).read ≡ Some s → (causes.read ≡ Some s) ⊎ FeederAt (d ∷ duties) s ReadFault
      here (Feed stream feed kept Ended) q = inl q
      here (Feed stream feed kept Halted) q = inl q
      here (Feed stream feed kept ReadFault) q = first-by causes.read stream s q inl (λ same. inr (record { place = 0; feed = feed; kept = kept; there = ap (λ x. Some (Feed x feed kept ReadFault)) same }))
      here (Feed stream feed kept ByteLimit) q = inl q
      here (Feed stream feed kept FeedMemory) q = inl q
      here (Feed stream feed kept (FeedStopped (Limit n))) q = inl q
      here (Feed stream feed kept (FeedStopped NoMemory)) q = inl q
      here (Probe index Over) q = inl q
      here (Probe index WorkMemory) q = inl q
      here (Probe index (WorkStopped (Limit n))) q = inl q
      here (Probe index (WorkStopped NoMemory)) q = inl q
      here (Sweep index places Over) q = inl q
      here (Sweep index places WorkMemory) q = inl q
      here (Sweep index places (WorkStopped (Limit n))) q = inl q
      here (Sweep index places (WorkStopped NoMemory)) q = inl q

  pub files-by : (causes : Causes) (duties : List (Duty S)) (s : ℕ) → (causes_from causes duties).file ≡ Some s → (causes.file ≡ Some s) ⊎ FeederAt duties s ByteLimit
  files-by causes [] s e = inl e
  files-by causes (duty ∷ duties) s e = elim (files-by (with_duty causes duty) duties s e) [
    | inl now ↦ here duty now
    | inr at ↦ inr (later-feeder duty duties s ByteLimit at)
  ]
    where
      here : (d : Duty S) → (with_duty causes d).file ≡ Some s → (causes.file ≡ Some s) ⊎ FeederAt (d ∷ duties) s ByteLimit
      here (Feed stream feed kept Ended) q = inl q
      here (Feed stream feed kept Halted) q = inl q
      here (Feed stream feed kept ReadFault) q = inl q
      here (Feed stream feed kept ByteLimit) q = first-by causes.file stream s q inl (λ same. inr (record { place = 0; feed = feed; kept = kept; there = ap (λ x. Some (Feed x feed kept ByteLimit)) same }))
      here (Feed stream feed kept FeedMemory) q = inl q
      here (Feed stream feed kept (FeedStopped (Limit n))) q = inl q
      here (Feed stream feed kept (FeedStopped NoMemory)) q = inl q
      here (Probe index Over) q = inl q
      here (Probe index WorkMemory) q = inl q
      here (Probe index (WorkStopped (Limit n))) q = inl q
      here (Probe index (WorkStopped NoMemory)) q = inl q
      here (Sweep index places Over) q = inl q
      here (Sweep index places WorkMemory) q = inl q
      here (Sweep index places (WorkStopped (Limit n))) q = inl q
      here (Sweep index places (WorkStopped NoMemory)) q = inl q

  pub nodes-by : (causes : Causes) (duties : List (Duty S)) (n : ℕ) → (causes_from causes duties).node ≡ Some n → (causes.node ≡ Some n) ⊎ LimitAt duties n
  nodes-by causes [] n e = inl e
  nodes-by causes (duty ∷ duties) n e = elim (nodes-by (with_duty causes duty) duties n e) [
    | inl now ↦ here duty now
    | inr at ↦ inr (later-limit duty duties n at)
  ]
    where
      met : (d : Duty S) (m : ℕ) → duty_stop d ≡ Some (Limit m) → m ≡ n → (causes.node ≡ Some n) ⊎ LimitAt (d ∷ duties) n
      met d m told same = inr (record { place = 0; duty = d; there = refl; told = told ∙ ap (λ x. Some (Limit x)) same })

      here : (d : Duty S) → (with_duty causes d).node ≡ Some n → (causes.node ≡ Some n) ⊎ LimitAt (d ∷ duties) n
      here (Feed stream feed kept Ended) q = inl q
      here (Feed stream feed kept Halted) q = inl q
      here (Feed stream feed kept ReadFault) q = inl q
      here (Feed stream feed kept ByteLimit) q = inl q
      here (Feed stream feed kept FeedMemory) q = inl q
      here (Feed stream feed kept (FeedStopped (Limit m))) q = first-by causes.node m n q inl (met (Feed stream feed kept (FeedStopped (Limit m))) m refl)
      here (Feed stream feed kept (FeedStopped NoMemory)) q = inl q
      here (Probe index Over) q = inl q
      here (Probe index WorkMemory) q = inl q
      here (Probe index (WorkStopped (Limit m))) q = first-by causes.node m n q inl (met (Probe index (WorkStopped (Limit m))) m refl)
      here (Probe index (WorkStopped NoMemory)) q = inl q
      here (Sweep index places Over) q = inl q
      here (Sweep index places WorkMemory) q = inl q
      here (Sweep index places (WorkStopped (Limit m))) q = first-by causes.node m n q inl (met (Sweep index places (WorkStopped (Limit m))) m refl)
      here (Sweep index places (WorkStopped NoMemory)) q = inl q

-- ---- duties and what was done of them

pub record ActThere {S : Type 0} (hub : HubPlan) (duties news : List (Duty S)) (place : ℕ) (new : Duty S) : Type 0 where
  pub old : Duty S
  pub was : slice_get duties place ≡ Some old
  pub same : IsSameDuty hub old new
  pub did : Did (acts_of duties news) place (act_of old new)

pub act-there : {S : Type 0} (hub : HubPlan) (duties news : List (Duty S)) → AllZip (IsSameDuty hub) duties news → (place : ℕ) (new : Duty S) → slice_get news place ≡ Some new → ActThere hub duties news place new
act-there hub [] [] zip place new e = absurd (cc)
act-there hub [] (n ∷ news) zip place new e = absurd zip
act-there hub (d ∷ duties) [] zip place new e = absurd zip
act-there hub (d ∷ duties) (n ∷ news) zip zero new e =
    let is = some-is n new e in record { old = d; was = refl; same = subst (IsSameDuty hub d) is zip.0; did = ap (λ x. Some (act_of d x)) is }
act-there hub (d ∷ duties) (n ∷ news) zip (suc place) new e =
    let at = act-there hub duties news zip.1 place new e in record { old = at.old; was = at.was; same = at.same; did = at.did }

pub told-is : {S : Type 0} (old new : Duty S) → stop_told (act_of old new) ≡ duty_stop new
told-is (Feed stream feed kept end) (Feed s n k e) = refl
told-is (Feed stream feed kept end) (Probe i e) = refl
told-is (Feed stream feed kept end) (Sweep i p e) = refl
told-is (Probe index end) (Feed s n k e) = refl
told-is (Probe index end) (Probe i e) = refl
told-is (Probe index end) (Sweep i p e) = refl
told-is (Sweep index places end) (Feed s n k e) = refl
told-is (Sweep index places end) (Probe i e) = refl
told-is (Sweep index places end) (Sweep i p e) = refl

no-feeder : {S : Type 0} (nodes : List PlanNode) (others : List (Duty S)) → AreOthers nodes others → (place stream : ℕ) (feed : FeedState) (kept : Option (List (List Value))) (end : FeedEnd) → slice_get others place ≡ Some (Feed stream feed kept end) → ⊥
no-feeder nodes [] are place stream feed kept end e = cc
no-feeder nodes (Feed s f k en ∷ others) are place stream feed kept end e = absurd are.0
no-feeder nodes (Probe i en ∷ others) are zero stream feed kept end e = cc
no-feeder nodes (Probe i en ∷ others) are (suc place) stream feed kept end e = no-feeder nodes others are.1 place stream feed kept end e
no-feeder nodes (Sweep i p en ∷ others) are zero stream feed kept end e = cc
no-feeder nodes (Sweep i p en ∷ others) are (suc place) stream feed kept end e = no-feeder nodes others are.1 place stream feed kept end e

-- a feeder stands at the place of its stream
pub feeder-place : {S : Type 0} (nodes : List PlanNode) (keep : Bool) (others : List (Duty S)) → AreOthers nodes others → (k : ℕ) (feeds : List FeedState) (place stream : ℕ) (feed : FeedState) (kept : Option (List (List Value))) (end : FeedEnd)
    → slice_get (feeders k keep feeds ++ others) place ≡ Some (Feed stream feed kept end) → (stream ≡ k + place) × (slice_get feeds place ≡ Some feed)
feeder-place nodes keep others are k [] place stream feed kept end e = absurd (no-feeder nodes others are place stream feed kept end e)
feeder-place nodes keep others are k (f ∷ feeds) zero stream feed kept end e =
    let number : k ≡ stream = cc in
    let same : f ≡ feed = cc in
    (sym number ∙ omega (arith), ap Some same)
feeder-place nodes keep others are k (f ∷ feeds) (suc place) stream feed kept end e =
    let at = feeder-place nodes keep others are (k + 1) feeds place stream feed kept end e in (at.0 ∙ omega (arith), at.1)

-- what a feeder's end tells: its act, and its feed as it was taken back
pub record FeederDid {S : Type 0} (feeds : List FeedState) (duties news : List (Duty S)) (stream : ℕ) (end : FeedEnd) : Type 0 where
  pub old : FeedState
  pub new : FeedState
  pub was : slice_get feeds stream ≡ Some old
  pub is : slice_get (feeds_in news) stream ≡ Some new
  pub did : Did (acts_of duties news) stream (Fed old new end)

abbrev new-of : Act → FeedState → FeedState
new-of (Fed old new end) other = new
new-of _ other = other

pub feeder-did : {S : Type 0} (hub : HubPlan) (nodes : List PlanNode) (keep : Bool) (feeds : List FeedState) (duties news : List (Duty S)) → AreAssigned nodes keep feeds duties → AllZip (IsSameDuty hub) duties news → FedEach feeds duties news
    → (stream : ℕ) (end : FeedEnd) → FeederAt news stream end → FeederDid feeds duties news stream end
feeder-did {S = S} hub nodes keep feeds duties news assigned zip each stream end at = go there.old there.was there.same there.did
  where
    there : ActThere hub duties news at.place (Feed stream at.feed at.kept end)
    there = act-there hub duties news zip at.place (Feed stream at.feed at.kept end) at.there

    go : (old : Duty S) → slice_get duties at.place ≡ Some old → IsSameDuty hub old (Feed stream at.feed at.kept end) → Did (acts_of duties news) at.place (act_of old (Feed stream at.feed at.kept end)) → FeederDid feeds duties news stream end
    go (Probe index e) was same did = absurd same
    go (Sweep index places e) was same did = absurd same
    go (Feed s old kept e) was same did =
        let at-place = feeder-place nodes keep assigned.others assigned.are_others 0 feeds at.place s old kept e (subst (λ (l : List (Duty S)). slice_get l at.place ≡ Some (Feed s old kept e)) assigned.are was) in
        let number : at.place ≡ stream = omega (arith, at-place.0, same.0) in
        let fed = each.each at.place (slice_get_within feeds at.place old at-place.1) in
        let acts : Fed fed.old fed.new fed.end ≡ Fed old at.feed end = some-is (Fed fed.old fed.new fed.end) (Fed old at.feed end) (sym fed.did ∙ did) in
        record {
          old = old;
          new = at.feed;
          was = subst (λ k. slice_get feeds k ≡ Some old) number at-place.1;
          is = subst (λ k. slice_get (feeds_in news) k ≡ Some at.feed) number (fed.is ∙ ap (λ (a : Act). Some (new-of a at.feed)) acts);
          did = subst (λ k. Did (acts_of duties news) k (Fed old at.feed end)) number did;
        }
