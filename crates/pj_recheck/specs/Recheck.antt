-- The routes by which rows are found that have to be judged again.
use Rattle.std.specs.Prelude.{ℕ, ◌<◌, ◌≤◌, ◌≡◌, Bool, true, List, [], ◌∷◌, Some, IfSome, length, slice_get, slice_index_or}
use Rattle.pj_value.specs.declared.values.Value.{Value}
use Rattle.pj_pattern.specs.declared.pattern.Form.TheVariants.{Constant}
use Rattle.pj_state.specs.States.{StateView, rows_with, tickets_of}
use Rattle.pj_cover.specs.Asking.{first_class}
use Rattle.pj_recheck.specs.Added.{IsAdded}
use Rattle.pj_recheck.specs.declared.added.Added.{Added}
use Rattle.pj_recheck.specs.declared.added.Added.TheVariants.{Nothing, Part, Whole}
use Rattle.pj_puncts.specs.declared.store.NumberedPunct.{NumberedPunct}
use Rattle.pj_events.specs.Patterns.{Pattern}
use Rattle.pj_events.specs.Join.{CertEntry, ClassCol, In, JoinData, cert_of, inputs}
use Rattle.pj_recheck.specs.declared.routes.Lead.{Lead}
use Rattle.pj_recheck.specs.declared.routes.Hop.{Hop}
use Rattle.pj_recheck.specs.declared.routes.Way.{Way}
use Rattle.pj_recheck.specs.declared.routes.Stop.{Stop}
use Rattle.pj_recheck.specs.declared.routes.RecheckRoute.{RecheckRoute}
use Rattle.pj_recheck.specs.declared.routes.BackRoute.{BackRoute}
use Rattle.pj_recheck.specs.declared.routes.InputRoutes.{InputRoutes}
use Rattle.pj_rows.specs.Tuples.{state_at}
use Rattle.pj_recheck.specs.Watching.{Asker, CoverageView, FindCovered, IsAsideAt, IsOfEntry, IsPair, IsUnmet, LeadsBack, PathView, asker, first_column, input_of, watches_at}
use Rattle.pj_recheck.specs.declared.marks.DueRechecks.{DueRechecks}

-- ---- routes of a plan

abbrev pub entry_with : ℕ → List Bool → CertEntry
entry_with input marks = record { input = input; marks = marks }

-- the scheme of the entry marks the first column, and the second one is the first of the input in its class
pub record IsLead (classes : List (List ClassCol)) (e : CertEntry) (input : ℕ) (lead : Lead) : Type 0 where
  pub marked : slice_get e.marks lead.asked ≡ Some true
  pub first : first_column (first_class classes (record { input = e.input; column = lead.asked })) input ≡ Some lead.column

abbrev pub AreLeads : List (List ClassCol) → CertEntry → ℕ → List Lead → Type 0
AreLeads classes e input leads = (lead : Lead) → In lead leads → IsLead classes e input lead

-- the step is from this position to one before it
pub record IsHop (a : Asker) (at before : ℕ) (hop : Hop) : Type 0 where
  pub earlier : before < at
  pub is_input : input_of a before ≡ Some hop.input
  pub is_other : input_of a at ≡ Some hop.other
  pub joins : IsPair a.classes hop.input hop.other hop.pair

-- these are steps from this position to the own one
abbrev pub AreHops : Asker → ℕ → List Hop → Type 0
AreHops a at [] = at ≡ 0
AreHops a at (hop ∷ hops) = (before : ℕ) × IsHop a at before hop × AreHops a before hops

abbrev pub IsWay : Asker → ℕ → Way → Type 0
IsWay a at way = AreHops a at (way.first ∷ way.rest)

-- the stop is of a position up to the entry
pub record IsStop (a : Asker) (entry : ℕ) (e : CertEntry) (stop : Stop) : Type 0 where
  pub at : ℕ
  pub within : at ≤ entry
  pub here : input_of a at ≡ Some stop.input
  pub leads : AreLeads a.classes e stop.input stop.leads
  pub way : IfSome stop.way (IsWay a at)

abbrev pub AreStops : Asker → ℕ → CertEntry → List Stop → Type 0
AreStops a entry e stops = (stop : Stop) → In stop stops → IsStop a entry e stop

-- where the first stops are of positions up to an entry that is not before this position, the second ones are
abbrev pub KeepStops : Asker → ℕ → CertEntry → List Stop → List Stop → Type 0
KeepStops a at e old new = (entry : ℕ) → at ≤ entry → AreStops a entry e old → AreStops a entry e new

-- the route is of this entry
pub record IsRecheckRoute (a : Asker) (entry : ℕ) (e : CertEntry) (route : RecheckRoute) : Type 0 where
  pub owner : route.owner ≡ a.input
  pub scheme : route.scheme ≡ e.marks
  pub own : AreLeads a.classes e a.input route.own
  pub behind : AreStops a entry e route.behind

-- each of the first so many entries that ask for what a punctuation of the input may cover has a route
abbrev pub HaveRoutes : Asker → ℕ → ℕ → List RecheckRoute → Type 0
HaveRoutes a count input routes =
    (entry : ℕ) (e : CertEntry) → entry < count → slice_get a.cert entry ≡ Some e → e.input ≡ input → (route : RecheckRoute) × In route routes × IsRecheckRoute a entry e route

-- ---- the columns that are looked up are indexed

abbrev pub LeadsIn : List ℕ → List Lead → Type 0
LeadsIn columns leads = (lead : Lead) → In lead leads → In lead.column columns

abbrev pub LeadsFit : List StateView → ℕ → List Lead → Type 0
LeadsFit row_states input leads = LeadsIn (state_at row_states input).columns leads

abbrev pub HopFits : List StateView → Hop → Type 0
HopFits row_states hop = In hop.pair.mine (state_at row_states hop.input).columns

abbrev pub HopsFit : List StateView → List Hop → Type 0
HopsFit row_states hops = (hop : Hop) → In hop hops → HopFits row_states hop

abbrev pub WayFits : List StateView → Way → Type 0
WayFits row_states way = HopFits row_states way.first × HopsFit row_states way.rest

pub record StopFits (row_states : List StateView) (stop : Stop) : Type 0 where
  pub leads : LeadsFit row_states stop.input stop.leads
  pub way : IfSome stop.way (WayFits row_states)

abbrev pub StopsFit : List StateView → List Stop → Type 0
StopsFit row_states stops = (stop : Stop) → In stop stops → StopFits row_states stop

pub record RouteFits (row_states : List StateView) (route : RecheckRoute) : Type 0 where
  pub own : LeadsFit row_states route.owner route.own
  pub behind : StopsFit row_states route.behind

abbrev pub RoutesFit : List StateView → List RecheckRoute → Type 0
RoutesFit row_states routes = (route : RecheckRoute) → In route routes → RouteFits row_states route

-- ---- what is found by them

-- a lead's column of the punctuation has this constant
abbrev pub HasKey : List Lead → List Pattern → ℕ → Value → Type 0
HasKey leads patterns column value = (lead : Lead) × In lead leads × (lead.column ≡ column) × (slice_get patterns lead.asked ≡ Some (Constant value))

-- these are the tickets of the rows that have a constant of the punctuation in a lead's column
abbrev pub AreKeyed : StateView → List Lead → List Pattern → List ℕ → Type 0
AreKeyed state leads patterns tickets = (column : ℕ) × (value : Value) × HasKey leads patterns column value × (tickets ≡ tickets_of (rows_with column value state.rows))

-- a lead's column of the punctuation has this pattern
abbrev pub HasLimit : List Lead → List Pattern → ℕ → Pattern → Type 0
HasLimit leads patterns column pattern = (lead : Lead) × In lead leads × (lead.column ≡ column) × (slice_get patterns lead.asked ≡ Some pattern)

-- the steps lead from rows with these tickets to the rows that ask
abbrev pub HopsLead : List StateView → List Hop → List ℕ → List ℕ → Type 0
HopsLead row_states hops tickets found = (path : PathView) (at : ℕ) → path.row_states ≡ row_states → AreHops (asker path) at hops → LeadsBack path at tickets found

abbrev pub WayLeads : List StateView → Way → List ℕ → List ℕ → Type 0
WayLeads row_states way tickets found = HopsLead row_states (way.first ∷ way.rest) tickets found

-- what an entry asks for that has this coverage
abbrev pub entry_on : CoverageView → CertEntry
entry_on c = entry_with c.input c.marks

-- these are the tickets of all rows that ask for what the punctuation covers, by an entry up to which the stop is
abbrev pub StopFinds : List StateView → Stop → List Pattern → List ℕ → Type 0
StopFinds row_states stop patterns found =
    (path : PathView) (entry : ℕ) (c : CoverageView) → path.row_states ≡ row_states → c.patterns ≡ patterns → IsOfEntry path entry c → IsStop (asker path) entry (entry_on c) stop → FindCovered path entry c found

abbrev pub StopsFind : List StateView → List Stop → List Pattern → List ℕ → Type 0
StopsFind row_states stops patterns found = (stop : Stop) × In stop stops × StopFinds row_states stop patterns found

-- the same by the entry of the route
abbrev pub RouteFinds : List StateView → RecheckRoute → List Pattern → List ℕ → Type 0
RouteFinds row_states route patterns found =
    (path : PathView) (entry : ℕ) (c : CoverageView) → path.row_states ≡ row_states → c.patterns ≡ patterns → IsOfEntry path entry c → IsRecheckRoute (asker path) entry (entry_on c) route → FindCovered path entry c found

-- the punctuation covers nothing that rows ask for by the entry of the route that are passed over
abbrev pub RouteLeaves : List StateView → RecheckRoute → List Pattern → DueRechecks → Type 0
RouteLeaves row_states route patterns w =
    (path : PathView) (entry : ℕ) (c : CoverageView) → path.row_states ≡ row_states → c.patterns ≡ patterns → IsOfEntry path entry c → IsRecheckRoute (asker path) entry (entry_on c) route → IsUnmet path entry c w

-- the same among the rows of its owner
abbrev pub LeavesOwner : List StateView → RecheckRoute → List Pattern → List DueRechecks → Type 0
LeavesOwner row_states route patterns ws = route.owner < length ws → RouteLeaves row_states route patterns (watches_at ws route.owner)

abbrev pub RoutesLeave : List StateView → List RecheckRoute → List Pattern → List DueRechecks → Type 0
RoutesLeave row_states routes patterns ws = (route : RecheckRoute) → In route routes → LeavesOwner row_states route patterns ws

-- the same of what was told of the punctuation
abbrev pub AddedLeaves : List StateView → List RecheckRoute → List Pattern → List DueRechecks → Added → Type 0
AddedLeaves row_states routes patterns ws Nothing = Unit {0}
AddedLeaves row_states routes patterns ws (Part rest) = RoutesLeave row_states routes rest ws
AddedLeaves row_states routes patterns ws Whole = RoutesLeave row_states routes patterns ws

-- the same, but of what one of these covers
abbrev pub RoutesLeaveBeside : List StateView → List RecheckRoute → List NumberedPunct → List Pattern → List DueRechecks → Type 0
RoutesLeaveBeside row_states routes kept patterns ws = (added : Added) × IsAdded kept patterns added × AddedLeaves row_states routes patterns ws added

-- ---- rows that go

-- from each of the first so many positions, the own one aside, that are of the other input, there is a route back
abbrev pub HaveBacks : Asker → ℕ → ℕ → List BackRoute → Type 0
HaveBacks a count other backs =
    (at : ℕ) → 0 < at → at < count → input_of a at ≡ Some other → (back : BackRoute) × In back backs × (back.owner ≡ a.input) × IfSome back.way (IsWay a at)

abbrev pub BacksFit : List StateView → List BackRoute → Type 0
BacksFit row_states backs = (back : BackRoute) → In back backs → IfSome back.way (WayFits row_states)

-- no row that is passed over asks through one with such a ticket at the position from which the route leads back
abbrev pub BackLeaves : List StateView → BackRoute → List ℕ → DueRechecks → Type 0
BackLeaves row_states back gone w = (path : PathView) (at : ℕ) → path.row_states ≡ row_states → IfSome back.way (IsWay (asker path) at) → IsAsideAt path at gone w

-- the same among the rows of its owner
abbrev pub LeavesBackOwner : List StateView → BackRoute → List ℕ → List DueRechecks → Type 0
LeavesBackOwner row_states back gone ws = back.owner < length ws → BackLeaves row_states back gone (watches_at ws back.owner)

abbrev pub BacksLeave : List StateView → List BackRoute → List ℕ → List DueRechecks → Type 0
BacksLeave row_states backs gone ws = (back : BackRoute) → In back backs → LeavesBackOwner row_states back gone ws

-- ---- all routes of a join

abbrev pub asker_at : JoinData → ℕ → Asker
asker_at spec input = record { classes = spec.shape.classes; cert = cert_of spec input; input = input }

abbrev pub no_routes : InputRoutes
no_routes = record { recheck = []; back = []; orders = [] }

abbrev pub routes_at : List InputRoutes → ℕ → InputRoutes
routes_at routes input = slice_index_or routes input no_routes

-- these are the routes from an input to the first so many inputs
pub record LeadTo (spec : JoinData) (row_states : List StateView) (input count : ℕ) (routes : InputRoutes) : Type 0 where
  pub recheck : (owner : ℕ) → owner < count → HaveRoutes (asker_at spec owner) (length (cert_of spec owner)) input routes.recheck
  pub fit : RoutesFit row_states routes.recheck
  pub back : (owner : ℕ) → owner < count → HaveBacks (asker_at spec owner) (length (cert_of spec owner)) input routes.back
  pub back_fit : BacksFit row_states routes.back

-- these are the routes of the first so many inputs
pub record AreRoutes (spec : JoinData) (row_states : List StateView) (count : ℕ) (routes : List InputRoutes) : Type 0 where
  pub long : length routes ≡ count
  pub each : (input : ℕ) → input < count → LeadTo spec row_states input (inputs spec) (routes_at routes input)
