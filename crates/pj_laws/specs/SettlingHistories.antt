-- Histories that settle: all probes, and then a sweep of each input of each join in order, with all probes after each.
use Rattle.std.specs.Prelude.{ℕ, ◌<◌, ◌≡◌, true, false, List, [], ◌∷◌, ◌++◌, length, None}
use Rattle.pj_events.specs.Join.{has}
use Rattle.pj_events.specs.Plan.{Node}
use Rattle.pj_events.specs.declared.events.Entry.{Entry}
use Rattle.pj_events.specs.declared.events.Event.{Event}
use Rattle.pj_events.specs.declared.events.Event.TheVariants.{Arrive, Sweep as Swept, Stopped}
use Rattle.pj_events.specs.History.{streams_of, join_at, reached_of, nodes_from, IsOn, IsLegal, IsComplete}
use Rattle.pj_events.specs.OneThread.{Place, next_probe, places_from}
use Rattle.pj_laws.specs.HistoryLaws.{AllAreGiven}

-- a take or a give, or an event that hands nothing up; no arrival, no sweep and no stop
abbrev pub IsProbing : Event → Type 0
IsProbing (Arrive stream e) = ⊥
IsProbing (Swept join input) = ⊥
IsProbing (Stopped stop) = ⊥
IsProbing _ = Unit {0}

abbrev pub AreProbing : List Entry → Type 0
AreProbing [] = Unit {0}
AreProbing (entry ∷ entries) = IsProbing entry.event × AreProbing entries

-- behind this history all probes are done: takes and gives until every tuple at every join is given
pub record ProbesAll (plan : List Node) (history entries : List Entry) : Type 0 where
  pub probing : AreProbing entries
  pub given : AllAreGiven plan (history ++ entries)

-- behind this history the inputs are swept in this order, and all probes are done after each sweep
abbrev pub SweepsEach : List Node → List Entry → List Place → List Entry → Type 0
SweepsEach plan history [] entries = entries ≡ []
SweepsEach plan history (place ∷ places) entries =
    (sweep : Entry) × (probing : List Entry) × (rest : List Entry)
    × (entries ≡ sweep ∷ probing ++ rest) × (sweep.event ≡ Swept place.join place.input)
    × ProbesAll plan (history ++ sweep ∷ []) probing × SweepsEach plan ((history ++ sweep ∷ []) ++ probing) places rest

-- all streams are closed in the front of the history, then all probes are done, and then the sweeps
pub record IsSettling (plan : List Node) (history : List Entry) : Type 0 where
  pub front : List Entry
  pub probing : List Entry
  pub sweeping : List Entry
  pub parts : history ≡ (front ++ probing) ++ sweeping
  pub closed : (stream : ℕ) → stream < length (streams_of plan) → has (reached_of false plan front).closed stream ≡ true
  pub probed : ProbesAll plan front probing
  pub swept : SweepsEach plan (front ++ probing) (places_from 0 plan) sweeping

-- A legal history without a stop that settles is complete, whatever stood before
abbrev pub SettlingIsComplete : List Node → Type 0
SettlingIsComplete plan =
    (history : List Entry) → IsLegal plan history → IsOn (reached_of false plan history) → IsSettling plan history → IsComplete plan history

-- ---- when all probes are done

-- every ticket that is taken at a join is given
abbrev pub EachTakeIsGiven : List Node → List Entry → Type 0
EachTakeIsGiven plan history =
    (n : ℕ) → n < length plan → (ticket : ℕ) → has (join_at (nodes_from plan history) n).taken ticket ≡ true → has (join_at (nodes_from plan history) n).given ticket ≡ true

-- Where no ticket is pending and every take has its give, every tuple is given
abbrev pub NoneIsLeft : List Node → Type 0
NoneIsLeft plan = (history : List Entry) → next_probe (nodes_from plan history) ≡ None → EachTakeIsGiven plan history → AllAreGiven plan history
