-- Where nothing is counted, no worker told anything.
use Rattle.std.proofs.Common.{◌≡◌, ℕ, zero, suc, false, List, [], ◌∷◌, slice_get, Option, Some, None, refl, ap, subst}
use Rattle.std.proofs.lemmas.Bool.{true≢false}
use Rattle.pj_events.specs.declared.events.Stop.{Stop}
use Rattle.pj_events.specs.declared.events.Stop.TheVariants.{Limit, NoMemory}
use Rattle.pj_workers.specs.declared.ends.WorkEnd.{WorkEnd}
use Rattle.pj_workers.specs.declared.ends.WorkEnd.TheVariants.{Over, NoMemory as WorkMemory, Stopped as WorkStopped}
use Rattle.pj_workers.specs.declared.feeding.FeedEnd.{FeedEnd}
use Rattle.pj_workers.specs.declared.feeding.FeedEnd.TheVariants.{Ended, Halted, ReadFault, ByteLimit, NoMemory as FeedMemory, Stopped as FeedStopped}
use Rattle.pj_crew_laws.specs.Acts.{Act, feed_stop, is_fault, is_feed_fault, is_work_fault, stop_told, work_stop}
use Rattle.pj_crew.specs.declared.duties.Duty.{Duty}
use Rattle.pj_crew.specs.declared.duties.Duty.TheVariants.{Feed, Probe, Sweep}
use Rattle.pj_crew.specs.Duties.{act_of, acts_of}
use Rattle.pj_roster.specs.declared.causes.Causes.{Causes}
use Rattle.pj_roster.specs.Dismissed.{causes_from, no_causes, with_duty, with_feed_end, with_file, with_first, with_memory, with_node, with_read, with_stop, with_work_end}
use Rattle.pj_roster.specs.Rosters.{RostersTell}

-- ---- what is counted stays counted

first-set : (set : Option ℕ) (number : ℕ) → with_first set number ≡ None → ⊥
first-set None number e = cc
first-set (Some first) number e = cc

memory-set : (causes : Causes) → with_memory causes ≡ no_causes → ⊥
memory-set causes e = true≢false (ap (λ (c : Causes). c.memory) e)

read-set : (causes : Causes) (stream : ℕ) → with_read causes stream ≡ no_causes → ⊥
read-set causes stream e = first-set causes.read stream (ap (λ (c : Causes). c.read) e)

node-set : (causes : Causes) (node : ℕ) → with_node causes node ≡ no_causes → ⊥
node-set causes node e = first-set causes.node node (ap (λ (c : Causes). c.node) e)

file-set : (causes : Causes) (stream : ℕ) → with_file causes stream ≡ no_causes → ⊥
file-set causes stream e = first-set causes.file stream (ap (λ (c : Causes). c.file) e)

stop-set : (causes : Causes) (stop : Stop) → with_stop causes stop ≡ no_causes → ⊥
stop-set causes (Limit node) e = node-set causes node e
stop-set causes NoMemory e = memory-set causes e

-- ---- how workers ended of whom nothing is counted

feed-quiet : (causes : Causes) (stream : ℕ) (end : FeedEnd) → with_feed_end causes stream end ≡ no_causes → (causes ≡ no_causes) × (is_feed_fault end ≡ false) × (feed_stop end ≡ None)
feed-quiet causes stream Ended e = (e, refl, refl)
feed-quiet causes stream Halted e = (e, refl, refl)
feed-quiet causes stream ReadFault e = absurd (read-set causes stream e)
feed-quiet causes stream ByteLimit e = absurd (file-set causes stream e)
feed-quiet causes stream FeedMemory e = absurd (memory-set causes e)
feed-quiet causes stream (FeedStopped stop) e = absurd (stop-set causes stop e)

work-quiet : (causes : Causes) (end : WorkEnd) → with_work_end causes end ≡ no_causes → (causes ≡ no_causes) × (is_work_fault end ≡ false) × (work_stop end ≡ None)
work-quiet causes Over e = (e, refl, refl)
work-quiet causes WorkMemory e = absurd (memory-set causes e)
work-quiet causes (WorkStopped stop) e = absurd (stop-set causes stop e)

abbrev IsQuiet : {S : Type 0} → Duty S → Type 0
IsQuiet (Feed stream feed kept end) = (is_feed_fault end ≡ false) × (feed_stop end ≡ None)
IsQuiet (Probe index end) = (is_work_fault end ≡ false) × (work_stop end ≡ None)
IsQuiet (Sweep index places end) = (is_work_fault end ≡ false) × (work_stop end ≡ None)

abbrev AreQuiet : {S : Type 0} → List (Duty S) → Type 0
AreQuiet [] = Unit {0}
AreQuiet (duty ∷ duties) = IsQuiet duty × AreQuiet duties

one-quiet : {S : Type 0} (causes : Causes) (duty : Duty S) → with_duty causes duty ≡ no_causes → (causes ≡ no_causes) × IsQuiet duty
one-quiet causes (Feed stream feed kept end) e = let q = feed-quiet causes stream end e in (q.0, (q.1, q.2))
one-quiet causes (Probe index end) e = let q = work-quiet causes end e in (q.0, (q.1, q.2))
one-quiet causes (Sweep index places end) e = let q = work-quiet causes end e in (q.0, (q.1, q.2))

all-quiet : {S : Type 0} (causes : Causes) (duties : List (Duty S)) → causes_from causes duties ≡ no_causes → (causes ≡ no_causes) × AreQuiet duties
all-quiet causes [] e = (e, tt)
all-quiet causes (duty ∷ duties) e =
    let rest = all-quiet (with_duty causes duty) duties e in
    let here = one-quiet causes duty rest.0 in
    (here.0, (here.1, rest.1))

-- ---- what they did

act-quiet : {S : Type 0} (old new : Duty S) → IsQuiet new → (is_fault (act_of old new) ≡ false) × (stop_told (act_of old new) ≡ None)
act-quiet (Feed stream feed kept end) (Feed same new now how) q = q
act-quiet (Feed stream feed kept end) (Probe same how) q = q
act-quiet (Feed stream feed kept end) (Sweep same now how) q = q
act-quiet (Probe index end) (Feed same new now how) q = q
act-quiet (Probe index end) (Probe same how) q = q
act-quiet (Probe index end) (Sweep same now how) q = q
act-quiet (Sweep index places end) (Feed same new now how) q = q
act-quiet (Sweep index places end) (Probe same how) q = q
act-quiet (Sweep index places end) (Sweep same now how) q = q

acts-quiet : {S : Type 0} (olds news : List (Duty S)) → AreQuiet news → (i : ℕ) (act : Act) → slice_get (acts_of olds news) i ≡ Some act → (is_fault act ≡ false) × (stop_told act ≡ None)
acts-quiet [] news q i act e = absurd (cc)
acts-quiet (o ∷ olds) [] q i act e = absurd (cc)
acts-quiet (o ∷ olds) (n ∷ news) q zero act e = let same : act_of o n ≡ act = cc in subst (λ (a : Act). (is_fault a ≡ false) × (stop_told a ≡ None)) same (act-quiet o n q.0)
acts-quiet (o ∷ olds) (n ∷ news) q (suc i) act e = acts-quiet olds news q.1 i act e

pub none-told : (S : Type 0) → RostersTell S
none-told S duties news e = acts-quiet duties news (all-quiet no_causes news e).1
