-- What routes find.
use Rattle.std.proofs.Common.{ℕ, zero, suc, ◌+◌, ◌<◌, ◌≤◌, Bool, true, false, ◌&&◌, ◌||◌, List, [], ◌∷◌, ◌++◌, ◌≡◌, ◌⊎◌, Option, Some, None, IfSome, Ok, Err, Result, OnOk, length, get_or, set, take, refl, sym, ap, ap₂, ◌∙◌, subst, inl, inr, eqb, arith}
use Rattle.std.specs.List.{slice_get}
use Rattle.std.proofs.lemmas.Bool.{and_from, and_parts, eq-eqb, eqb-true, false≢true}
use Rattle.std.proofs.lemmas.List.{take_all, take_more}
use Rattle.pj_value.specs.declared.values.Value.{Value}
use Rattle.pj_value.proofs.Members.{In-append_cases, in-place}
use Rattle.pj_state.specs.States.{StateView, rows_with, tickets_of}
use Rattle.pj_events.specs.Patterns.{Pattern, covers}
use Rattle.pj_events.specs.Join.{CertEntry, ClassCol, Demand, In, JoinData, PunctAt, TupleAt, cert_of, covered, has, inputs}
use Rattle.pj_recheck.specs.declared.routes.Lead.{Lead}
use Rattle.pj_recheck.specs.declared.routes.Way.{Way}
use Rattle.pj_recheck.specs.declared.routes.Stop.{Stop}
use Rattle.pj_recheck.specs.declared.routes.RecheckRoute.{RecheckRoute}
use Rattle.pj_recheck.specs.declared.routes.BackRoute.{BackRoute}
use Rattle.pj_recheck.specs.declared.routes.InputRoutes.{InputRoutes}
use Rattle.pj_recheck.specs.Added.{IsAdded}
use Rattle.pj_puncts.specs.Stores.{covered_by_any}
use Rattle.pj_recheck.specs.declared.added.Added.{Added}
use Rattle.pj_recheck.specs.declared.added.Added.TheVariants.{Nothing, Part, Whole}
use Rattle.pj_puncts.specs.declared.store.NumberedPunct.{NumberedPunct}
use Rattle.pj_rows.specs.Ranges.{HoldTrue}
use Rattle.pj_rows.specs.Tuples.{AreWide, state_at}
use Rattle.pj_recheck.specs.Recheck.{AddedLeaves, AreKeyed, AreLeads, AreRoutes, BackLeaves, BacksFit, BacksLeave, HasKey, HasLimit, IsWay, LeadTo, LeadsFit, LeadsIn, LeavesBackOwner, LeavesOwner, RouteFinds, RouteFits, RouteLeaves, RoutesFit, RoutesLeave, RoutesLeaveBeside, StopFinds, StopFits, StopsFind, StopsFit, WayFits, WayLeads, entry_on, routes_at}
use Rattle.pj_recheck.specs.Watching.{AreAside, AreFewer, AreLeft, AreLeftBeside, AreRoused, CoverageView, IsAsideAt, IsFewer, IsKey, IsLeftBy, IsUnmet, LeadsBack, Limits, PathView, PunctView, SideView, asker, come_at, is_wild_elsewhere, side_at, watches_at}
use Rattle.pj_recheck.specs.declared.marks.DueRechecks.{DueRechecks}
use Rattle.pj_rows.specs.Finding.{has_match}
use Rattle.pj_recheck.proofs.Paths.{found_by_key, found_by_limit, left_at, left_other, left_unmet, unmet_elsewhere, unmet_marked}
use Rattle.pj_recheck.proofs.Roused.{roused_along}
use Rattle.pj_recheck.proofs.Woken.{fewer-then, key_is, limits_are}

-- ---- a punctuation and leads

key_there : (c : CoverageView) (side : SideView) (leads : List Lead) (column : ℕ) (v : Value) → AreLeads c.classes (entry_on c) side.input leads → LeadsIn side.state.columns leads → HasKey leads c.patterns column v → IsKey side c column v
key_there c side leads column v are indexed (lead, is-in, same, there) =
    subst (λ own. IsKey side c own v) same
    (key_is side c (record { input = c.input; column = lead.asked }) lead.column v refl (are lead is-in).marked (are lead is-in).first (indexed lead is-in) there)

limit_there : (c : CoverageView) (side : SideView) (leads : List Lead) (column : ℕ) (q : Pattern) → AreLeads c.classes (entry_on c) side.input leads → LeadsIn side.state.columns leads → HasLimit leads c.patterns column q
    → In column side.state.columns × Limits side c column q
limit_there c side leads column q are indexed (lead, is-in, same, there) = (
  subst (λ own. In own side.state.columns) same (indexed lead is-in),
  subst (λ own. Limits side c own q) same
      (limits_are side c (record { input = c.input; column = lead.asked }) lead.column q refl (are lead is-in).marked (are lead is-in).first there),
)

-- the columns that leads tell are indexed
pub leads_indexed : (row_states : List StateView) (input : ℕ) (state : StateView) (leads lent : List Lead) → LeadsFit row_states input leads → state ≡ state_at row_states input → lent ≡ leads → LeadsIn state.columns lent
leads_indexed row_states input state leads lent fit own same lead h = subst (λ (s : StateView). In lead.column s.columns) (sym own) (fit lead (subst (λ (ls : List Lead). In lead ls) same h))

-- what one of the leads tells they tell
keyed-among : (state : StateView) (leads : List Lead) (patterns : List Pattern) (lead : Lead) (tickets : List ℕ) → In lead leads → AreKeyed state (lead ∷ []) patterns tickets → AreKeyed state leads patterns tickets
keyed-among state leads patterns lead tickets there (column, value, (l, inl e, is, key), all) = (column, value, (l, subst (λ (k : Lead). In k leads) e there, is, key), all)
keyed-among state leads patterns lead tickets there (column, value, (l, inr n, is, key), all) = absurd n

-- the tickets that a lead more tells, or those before
pub keyed_more : {A : Type 0} (tickets : A → List ℕ) (state : StateView) (leads : List Lead) (patterns : List Pattern) (lead : Lead) (before now after : Option A) → In lead leads → IfSome before (λ a. AreKeyed state leads patterns (tickets a)) → IfSome now (λ a. AreKeyed state (lead ∷ []) patterns (tickets a))
    → (after ≡ before) ⊎ (after ≡ now) → IfSome after (λ a. AreKeyed state leads patterns (tickets a))
keyed_more {A} tickets state leads patterns lead before now after there are told (inl same) = subst (λ (o : Option A). IfSome o (λ a. AreKeyed state leads patterns (tickets a))) (sym same) are
keyed_more {A} tickets state leads patterns lead before now after there are told (inr same) = subst (λ (o : Option A). IfSome o (λ a. AreKeyed state leads patterns (tickets a))) (sym same) (more now told)
  where
    more : (o : Option A) → IfSome o (λ a. AreKeyed state (lead ∷ []) patterns (tickets a)) → IfSome o (λ a. AreKeyed state leads patterns (tickets a))
    more None keyed = tt
    more (Some a) keyed = keyed-among state leads patterns lead (tickets a) there keyed

pub limit_indexed : (row_states : List StateView) (input : ℕ) (state : StateView) (leads lent : List Lead) (patterns : List Pattern) (column : ℕ) (q : Pattern) → LeadsFit row_states input leads → state ≡ state_at row_states input → lent ≡ leads → HasLimit lent patterns column q → In column state.columns
limit_indexed row_states input state leads lent patterns column q fit own same (lead, is-in, told, there) =
    subst (λ k. In k state.columns) told (subst (λ (s : StateView). In lead.column s.columns) (sym own) (fit lead (subst (λ (ls : List Lead). In lead ls) same is-in)))

-- ---- a stop

stop_key : (row_states : List StateView) (stop : Stop) (patterns : List Pattern) (column : ℕ) (v : Value) (tickets found : List ℕ) (way : Way) → AreWide row_states → StopFits row_states stop → HasKey stop.leads patterns column v → stop.way ≡ Some way
    → tickets ≡ tickets_of (rows_with column v (state_at row_states stop.input).rows) → WayLeads row_states way tickets found → StopFinds row_states stop patterns found
stop_key row_states stop patterns column v tickets found way wide fits has there are leads path entry c same pats of is =
    found_by_key path entry c is.at (side_at path.row_states stop.input) column v tickets found (subst (λ (ss : List StateView). AreWide ss) (sym same) wide) of is.within is.here refl
    (key_there c (side_at path.row_states stop.input) stop.leads column v
    (subst (λ (ks : List (List ClassCol)). AreLeads ks (entry_on c) stop.input stop.leads) (sym of.classes) is.leads)
    (subst (λ (ss : List StateView). LeadsIn (state_at ss stop.input).columns stop.leads) (sym same) fits.leads)
    (subst (λ (ps : List Pattern). HasKey stop.leads ps column v) (sym pats) has))
    (are ∙ ap (λ (ss : List StateView). tickets_of (rows_with column v (state_at ss stop.input).rows)) (sym same))
    (leads path is.at same (subst (λ (o : Option Way). IfSome o (IsWay (asker path) is.at)) there is.way))

stop_limit : (row_states : List StateView) (stop : Stop) (patterns : List Pattern) (column : ℕ) (q : Pattern) (tickets found : List ℕ) (way : Way) → AreWide row_states → StopFits row_states stop → HasLimit stop.leads patterns column q → stop.way ≡ Some way
    → HoldTrue (has_match column q) (state_at row_states stop.input).rows tickets → WayLeads row_states way tickets found → StopFinds row_states stop patterns found
stop_limit row_states stop patterns column q tickets found way wide fits has there are leads path entry c same pats of is =
    let limit = limit_there c (side_at path.row_states stop.input) stop.leads column q
    (subst (λ (ks : List (List ClassCol)). AreLeads ks (entry_on c) stop.input stop.leads) (sym of.classes) is.leads)
    (subst (λ (ss : List StateView). LeadsIn (state_at ss stop.input).columns stop.leads) (sym same) fits.leads)
    (subst (λ (ps : List Pattern). HasLimit stop.leads ps column q) (sym pats) has) in
    found_by_limit path entry c is.at (side_at path.row_states stop.input) column q tickets found (subst (λ (ss : List StateView). AreWide ss) (sym same) wide) of is.within is.here refl limit.0 limit.1
    (subst (λ (ss : List StateView). HoldTrue (has_match column q) (state_at ss stop.input).rows tickets) (sym same) are)
    (leads path is.at same (subst (λ (o : Option Way). IfSome o (IsWay (asker path) is.at)) there is.way))

pub stop_by_key : (row_states : List StateView) (stop : Stop) (patterns : List Pattern) (state : StateView) (lent : List Lead) (tickets : List ℕ) (found : Option (List ℕ)) (way : Way) → AreWide row_states → StopFits row_states stop → state ≡ state_at row_states stop.input
    → lent ≡ stop.leads → AreKeyed state lent patterns tickets → stop.way ≡ Some way → IfSome found (WayLeads row_states way tickets) → IfSome found (StopFinds row_states stop patterns)
stop_by_key row_states stop patterns state lent tickets None way wide fits own same keyed there leads = tt
stop_by_key row_states stop patterns state lent tickets (Some found) way wide fits own same (column, v, has, are) there leads =
    stop_key row_states stop patterns column v tickets found way wide fits (subst (λ (ls : List Lead). HasKey ls patterns column v) same has) there (are ∙ ap (λ (s : StateView). tickets_of (rows_with column v s.rows)) own) leads

pub stop_by_limit : (row_states : List StateView) (stop : Stop) (patterns : List Pattern) (state : StateView) (lent : List Lead) (column : ℕ) (q : Pattern) (tickets passed : List ℕ) (found : Option (List ℕ)) (way : Way) → AreWide row_states → StopFits row_states stop → state ≡ state_at row_states stop.input
    → lent ≡ stop.leads → HasLimit lent patterns column q → stop.way ≡ Some way → HoldTrue (has_match column q) state.rows tickets → passed ≡ tickets → IfSome found (WayLeads row_states way passed) → IfSome found (StopFinds row_states stop patterns)
stop_by_limit row_states stop patterns state lent column q tickets passed None way wide fits own same has there are given leads = tt
stop_by_limit row_states stop patterns state lent column q tickets passed (Some found) way wide fits own same has there are given leads =
    stop_limit row_states stop patterns column q passed found way wide fits (subst (λ (ls : List Lead). HasLimit ls patterns column q) same has) there
    (subst (λ (ns : List ℕ). HoldTrue (has_match column q) (state_at row_states stop.input).rows ns) (sym given) (subst (λ (s : StateView). HoldTrue (has_match column q) s.rows tickets) own are)) leads

-- ---- a route

same-some : {x y : TupleAt} → Some x ≡ Some y → y ≡ x
same-some e = cc

own-leads : (path : PathView) (tickets : List ℕ) → LeadsBack path 0 tickets tickets
own-leads path tickets x rows asks along y at h = subst (λ (z : TupleAt). In z.ticket tickets) (same-some at) h

own-by-key : (row_states : List StateView) (route : RecheckRoute) (patterns : List Pattern) (state : StateView) (lent : List Lead) (column : ℕ) (v : Value) (tickets : List ℕ) → AreWide row_states → RouteFits row_states route → state ≡ state_at row_states route.owner → lent ≡ route.own → HasKey lent patterns column v
    → tickets ≡ tickets_of (rows_with column v state.rows) → RouteFinds row_states route patterns tickets
own-by-key row_states route patterns state lent column v tickets wide fits own lend has are path entry c same pats of is =
    found_by_key path entry c 0 (side_at path.row_states path.input) column v tickets tickets (subst (λ (ss : List StateView). AreWide ss) (sym same) wide) of (omega arith) refl refl
    (key_there c (side_at path.row_states path.input) route.own column v
    (subst (λ (ks : List (List ClassCol)). AreLeads ks (entry_on c) path.input route.own) (sym of.classes) is.own)
    (subst (λ (s : StateView). LeadsIn s.columns route.own) (sym here) fits.own)
    (subst (λ (ps : List Pattern). HasKey route.own ps column v) (sym pats) (subst (λ (ls : List Lead). HasKey ls patterns column v) lend has)))
    (are ∙ ap (λ (s : StateView). tickets_of (rows_with column v s.rows)) (own ∙ sym here))
    (own-leads path tickets)
  where
    here : state_at path.row_states path.input ≡ state_at row_states route.owner
    here = ap₂ (λ (ss : List StateView) k. state_at ss k) same (sym is.owner)

-- the same of what a call answers
pub own_by_key : {A : Type 0} (tickets : A → List ℕ) (row_states : List StateView) (route : RecheckRoute) (patterns : List Pattern) (state : StateView) (lent : List Lead) (found : Option A) → AreWide row_states → RouteFits row_states route → state ≡ state_at row_states route.owner → lent ≡ route.own
    → IfSome found (λ a. AreKeyed state lent patterns (tickets a)) → IfSome found (λ a. RouteFinds row_states route patterns (tickets a))
own_by_key tickets row_states route patterns state lent None wide fits own lend keyed = tt
own_by_key tickets row_states route patterns state lent (Some a) wide fits own lend (column, v, has, are) = own-by-key row_states route patterns state lent column v (tickets a) wide fits own lend has are

pub own_by_limit : (row_states : List StateView) (route : RecheckRoute) (patterns : List Pattern) (state : StateView) (lent : List Lead) (column : ℕ) (q : Pattern) (tickets : List ℕ) → AreWide row_states → RouteFits row_states route → state ≡ state_at row_states route.owner → lent ≡ route.own → HasLimit lent patterns column q
    → HoldTrue (has_match column q) state.rows tickets → RouteFinds row_states route patterns tickets
own_by_limit row_states route patterns state lent column q tickets wide fits own lend has are path entry c same pats of is =
    let limit = limit_there c (side_at path.row_states path.input) route.own column q
    (subst (λ (ks : List (List ClassCol)). AreLeads ks (entry_on c) path.input route.own) (sym of.classes) is.own)
    (subst (λ (s : StateView). LeadsIn s.columns route.own) (sym here) fits.own)
    (subst (λ (ps : List Pattern). HasLimit route.own ps column q) (sym pats) (subst (λ (ls : List Lead). HasLimit ls patterns column q) lend has)) in
    found_by_limit path entry c 0 (side_at path.row_states path.input) column q tickets tickets (subst (λ (ss : List StateView). AreWide ss) (sym same) wide) of (omega arith) refl refl limit.0 limit.1
    (subst (λ (s : StateView). HoldTrue (has_match column q) s.rows tickets) (own ∙ sym here) are)
    (own-leads path tickets)
  where
    here : state_at path.row_states path.input ≡ state_at row_states route.owner
    here = ap₂ (λ (ss : List StateView) k. state_at ss k) same (sym is.owner)

-- what a stop finds its route does
pub stops_serve : (row_states : List StateView) (route : RecheckRoute) (patterns : List Pattern) (found : List ℕ) → StopsFind row_states route.behind patterns found → RouteFinds row_states route patterns found
stops_serve row_states route patterns found (stop, is-in, finds) path entry c same pats of is = finds path entry c same pats of (is.behind stop is-in)

pub stops_may : (row_states : List StateView) (route : RecheckRoute) (patterns : List Pattern) (stops : List Stop) (found : Option (List ℕ)) → stops ≡ route.behind → IfSome found (StopsFind row_states stops patterns) → IfSome found (RouteFinds row_states route patterns)
stops_may row_states route patterns stops None same finds = tt
stops_may row_states route patterns stops (Some found) same finds = stops_serve row_states route patterns found (subst (λ (ss : List Stop). StopsFind row_states ss patterns found) same finds)

pub stops_told : (row_states : List StateView) (route : RecheckRoute) (patterns : List Pattern) (stops : List Stop) (told : Option (List ℕ)) (found : List ℕ) → stops ≡ route.behind → told ≡ Some found → IfSome told (StopsFind row_states stops patterns) → RouteFinds row_states route patterns found
stops_told row_states route patterns stops told found same some finds = stops_may row_states route patterns stops (Some found) same (subst (λ (o : Option (List ℕ)). IfSome o (StopsFind row_states stops patterns)) some finds)

pub stops_fit : (row_states : List StateView) (route : RecheckRoute) (stops : List Stop) → RouteFits row_states route → stops ≡ route.behind → StopsFit row_states stops
stops_fit row_states route stops fits same = subst (λ (ss : List Stop). StopsFit row_states ss) (sym same) fits.behind

pub item_in : {A : Type 0} (xs : List A) (i : ℕ) (x : A) → i < length xs → x ≡ get_or xs i x → In x xs
item_in {A} xs i x lt is = subst (λ (y : A). In y xs) (sym is) (in-place xs x i lt)

pub stops_find : (row_states : List StateView) (stops : List Stop) (patterns : List Pattern) (i : ℕ) (stop : Stop) (told : Option (List ℕ)) (found : List ℕ) → i < length stops → stop ≡ get_or stops i stop → told ≡ Some found → IfSome told (StopFinds row_states stop patterns)
    → StopsFind row_states stops patterns found
stops_find row_states stops patterns i stop told found lt is some finds = (stop, item_in stops i stop lt is, subst (λ (o : Option (List ℕ)). IfSome o (StopFinds row_states stop patterns)) some finds)

-- ---- what is left

pub leaves_elsewhere : (row_states : List StateView) (route : RecheckRoute) (patterns : List Pattern) (w : DueRechecks) → is_wild_elsewhere route.scheme patterns ≡ false → RouteLeaves row_states route patterns w
leaves_elsewhere row_states route patterns w none path entry c same pats of is =
    unmet_elsewhere path entry c w of (ap₂ (λ (ms : List Bool) (ps : List Pattern). is_wild_elsewhere ms ps) (sym is.scheme) pats ∙ none)

pub leaves_found : {E V : Type 0} (r : Result V E) (row_states : List StateView) (route : RecheckRoute) (patterns : List Pattern) (old new : DueRechecks) (found : List ℕ)
    → RouteFinds row_states route patterns found → new.from ≡ old.from → OnOk r (new.marked ≡ old.marked ++ found) → OnOk r (RouteLeaves row_states route patterns new)
leaves_found (Ok done) row_states route patterns old new found finds from marked = λ path entry c same pats of is. unmet_marked path entry c old new found (finds path entry c same pats of is) from marked
leaves_found (Err stop) row_states route patterns old new found finds from marked = tt

-- ---- all routes

-- what holds of each route and the rows of its owner
abbrev AllHold : {R : Type 0} → (R → ℕ) → (R → DueRechecks → Type 0) → List R → List DueRechecks → Type 0
AllHold {R} owner P routes ws = (r : R) → In r routes → owner r < length ws → P r (watches_at ws (owner r))

hold-next : {R : Type 0} (owner : R → ℕ) (P : R → DueRechecks → Type 0) → ((r : R) (u v : DueRechecks) → IsFewer u v → P r u → P r v) → (routes : List R) (cur new : List DueRechecks) (i : ℕ) (route : R) → i < length routes → route ≡ get_or routes i route
    → AreFewer cur new → AllHold owner P (take i routes) cur → (owner route < length new → P route (watches_at new (owner route))) → AllHold owner P (take (i + 1) routes) new
hold-next {R} owner P fewer routes cur new i route lt is less all one r is-in within =
    go (In-append_cases r (take i routes) (route ∷ []) (subst (λ (rs : List R). In r rs) (take_more routes i route lt ∙ ap (λ (q : R). take i routes ++ q ∷ []) (sym is)) is-in))
  where
    go : In r (take i routes) ⊎ In r (route ∷ []) → P r (watches_at new (owner r))
    go (inl h) = let n : length new ≡ length cur = less.count in fewer r (watches_at cur (owner r)) (watches_at new (owner r)) (less.each (owner r)) (all r h (omega (arith, within, n)))
    go (inr (inl e)) = subst (λ (q : R). P q (watches_at new (owner q))) e (one (subst (λ (q : R). owner q < length new) (sym e) within))
    go (inr (inr h)) = absurd h

pub leave_next : (row_states : List StateView) (patterns : List Pattern) (routes : List RecheckRoute) (cur new : List DueRechecks) (i : ℕ) (route : RecheckRoute) → i < length routes → route ≡ get_or routes i route → AreFewer cur new
    → RoutesLeave row_states (take i routes) patterns cur → LeavesOwner row_states route patterns new → RoutesLeave row_states (take (i + 1) routes) patterns new
leave_next row_states patterns routes cur new i route lt is less all one =
    hold-next (λ (r : RecheckRoute). r.owner) (λ (r : RecheckRoute) (u : DueRechecks). RouteLeaves row_states r patterns u)
    (λ r u z fewer leaves path entry c same pats of its x rows asks along count passed. leaves path entry c same pats of its x rows asks along count (fewer.passed x.ticket passed))
    routes cur new i route lt is less all one

pub back_next : (row_states : List StateView) (gone : List ℕ) (backs : List BackRoute) (cur new : List DueRechecks) (i : ℕ) (back : BackRoute) → i < length backs → back ≡ get_or backs i back → AreFewer cur new
    → BacksLeave row_states (take i backs) gone cur → LeavesBackOwner row_states back gone new → BacksLeave row_states (take (i + 1) backs) gone new
back_next row_states gone backs cur new i back lt is less all one =
    hold-next (λ (r : BackRoute). r.owner) (λ (r : BackRoute) (u : DueRechecks). BackLeaves row_states r gone u)
    (λ r u z fewer leaves path at same its x rows asks along passed. leaves path at same its x rows asks along (fewer.passed x.ticket passed))
    backs cur new i back lt is less all one

-- the whole list is gone over
pub leave_all : (row_states : List StateView) (patterns : List Pattern) (routes : List RecheckRoute) (ws : List DueRechecks) (i : ℕ) → length routes ≤ i → RoutesLeave row_states (take i routes) patterns ws → RoutesLeave row_states routes patterns ws
leave_all row_states patterns routes ws i le all = subst (λ (rs : List RecheckRoute). RoutesLeave row_states rs patterns ws) (take_all i routes le) all

pub back_whole : (row_states : List StateView) (gone : List ℕ) (backs : List BackRoute) (ws : List DueRechecks) (i : ℕ) → length backs ≤ i → BacksLeave row_states (take i backs) gone ws → BacksLeave row_states backs gone ws
back_whole row_states gone backs ws i le all = subst (λ (rs : List BackRoute). BacksLeave row_states rs gone ws) (take_all i backs le) all

pub fewer_more : (a b c : List DueRechecks) → AreFewer a b → AreFewer b c → AreFewer a c
fewer_more a b c f g = record { count = g.count ∙ f.count; each = λ k. fewer-then (watches_at a k) (watches_at b k) (watches_at c k) (f.each k) (g.each k) }

-- ---- all inputs

pub left_by_routes : (spec : JoinData) (row_states : List StateView) (c : PunctView) (routes : InputRoutes) (ws : List DueRechecks) (count : ℕ) → LeadTo spec row_states c.input count routes → length ws ≡ count → RoutesLeave row_states routes.recheck c.patterns ws
    → AreLeft spec row_states c ws count
left_by_routes spec row_states c routes ws count lead long leaves input lt = left_at spec row_states c (watches_at ws input) input each
  where
    path : PathView
    path = record { classes = spec.shape.classes; cert = cert_of spec input; input = input; row_states = row_states }

    each : (entry : ℕ) (e : CertEntry) → entry < length (cert_of spec input) → slice_get (cert_of spec input) entry ≡ Some e → IsLeftBy path entry c (watches_at ws input)
    each entry e within at = go (eqb e.input c.input) refl
      where
        go : (b : Bool) → eqb e.input c.input ≡ b → IsLeftBy path entry c (watches_at ws input)
        go false q = left_other path entry e c (watches_at ws input) at (λ t. false≢true (sym q ∙ eq-eqb e.input c.input t))
        go true q =
            let route = lead.recheck input lt entry e within at (eqb-true e.input c.input q) in
            let cover : CoverageView = record { classes = spec.shape.classes; input = e.input; marks = e.marks; patterns = c.patterns } in
            let owned : route.0.owner ≡ input = route.2.owner in
            left_unmet path entry cover c (watches_at ws input) refl
            (subst (λ k. IsUnmet path entry cover (watches_at ws k)) owned
            (leaves route.0 route.1 (omega (arith, owned, lt, long)) path entry cover refl refl (record { classes = refl; entry_is = at }) route.2))

pub roused_by_routes : (spec : JoinData) (row_states now : List StateView) (other : ℕ) (gone : List ℕ) (routes : InputRoutes) (ws : List DueRechecks) (count : ℕ) → LeadTo spec now other count routes → length ws ≡ count → BacksLeave row_states routes.back gone ws
    → AreRoused spec row_states other gone ws count
roused_by_routes spec row_states now other gone routes ws count lead long leaves input lt = roused_along spec row_states other gone (watches_at ws input) input aside
  where
    path : PathView
    path = record { classes = spec.shape.classes; cert = cert_of spec input; input = input; row_states = row_states }

    aside : AreAside path (length (cert_of spec input)) other gone (watches_at ws input)
    aside at behind within here =
        let back = lead.back input lt at behind within here in
        let owned : back.0.owner ≡ input = back.2 in
        subst (λ k. IsAsideAt path at gone (watches_at ws k)) owned (leaves back.0 back.1 (omega (arith, owned, lt, long)) path at refl back.3)

-- ---- what a call is lent

pub routes_is : (routes : List InputRoutes) (input : ℕ) (r : InputRoutes) → input < length routes → r ≡ get_or routes input r → r ≡ routes_at routes input
routes_is [] input r lt is = absurd (omega (arith, lt))
routes_is (q ∷ routes) zero r lt is = is
routes_is (q ∷ routes) (suc input) r lt is = routes_is routes input r (omega (arith, lt)) is

there : (spec : JoinData) (row_states : List StateView) (routes : List InputRoutes) (input : ℕ) (r : InputRoutes) → AreRoutes spec row_states (inputs spec) routes → input < inputs spec → r ≡ get_or routes input r → r ≡ routes_at routes input
there spec row_states routes input r are lt is = let long = are.long in routes_is routes input r (omega (arith, long, lt)) is

pub fit_now : (spec : JoinData) (row_states lent : List StateView) (routes : List InputRoutes) (input : ℕ) (r : InputRoutes) (given : List RecheckRoute) → AreRoutes spec row_states (inputs spec) routes → input < inputs spec → r ≡ get_or routes input r → given ≡ r.recheck → lent ≡ row_states → RoutesFit lent given
fit_now spec row_states lent routes input r given are lt is same own =
    subst (λ (ss : List StateView). RoutesFit ss given) (sym own)
    (subst (λ (rs : List RecheckRoute). RoutesFit row_states rs) (sym (same ∙ ap (λ (q : InputRoutes). q.recheck) (there spec row_states routes input r are lt is))) (are.each input lt).fit)

pub back_fit_now : (spec : JoinData) (row_states lent : List StateView) (routes : List InputRoutes) (input : ℕ) (r : InputRoutes) (given : List BackRoute) → AreRoutes spec row_states (inputs spec) routes → input < inputs spec → r ≡ get_or routes input r → given ≡ r.back → lent ≡ row_states → BacksFit lent given
back_fit_now spec row_states lent routes input r given are lt is same own =
    subst (λ (ss : List StateView). BacksFit ss given) (sym own)
    (subst (λ (bs : List BackRoute). BacksFit row_states bs) (sym (same ∙ ap (λ (q : InputRoutes). q.back) (there spec row_states routes input r are lt is))) (are.each input lt).back_fit)

pub left_now : (spec : JoinData) (row_states lent : List StateView) (routes : List InputRoutes) (c : PunctView) (r : InputRoutes) (given : List RecheckRoute) (old new : List DueRechecks) → AreRoutes spec row_states (inputs spec) routes → c.input < inputs spec → r ≡ get_or routes c.input r → given ≡ r.recheck → lent ≡ row_states
    → length old ≡ inputs spec → AreFewer old new → RoutesLeave lent given c.patterns new → AreLeft spec row_states c new (length old)
left_now spec row_states lent routes c r given old new are lt is same own count fewer leaves =
    subst (λ n. AreLeft spec row_states c new n) (sym count)
    (left_by_routes spec row_states c (routes_at routes c.input) new (inputs spec) (are.each c.input lt) (fewer.count ∙ count)
    (subst (λ (ss : List StateView). RoutesLeave ss (routes_at routes c.input).recheck c.patterns new) own
    (subst (λ (rs : List RecheckRoute). RoutesLeave lent rs c.patterns new) (same ∙ ap (λ (q : InputRoutes). q.recheck) (there spec row_states routes c.input r are lt is)) leaves)))

-- the same of what was told of the punctuation, where one of these covers what one that came covers
pub left_beside : (spec : JoinData) (row_states lent : List StateView) (routes : List InputRoutes) (c : PunctView) (r : InputRoutes) (given : List RecheckRoute) (old new : List DueRechecks) (kept : List NumberedPunct) (puncts : List PunctAt)
    → AreRoutes spec row_states (inputs spec) routes → c.input < inputs spec → r ≡ get_or routes c.input r → given ≡ r.recheck → lent ≡ row_states → length old ≡ inputs spec → AreFewer old new → RoutesLeaveBeside lent given kept c.patterns new
    → ((instance : List (Option Value)) → covered_by_any kept instance ≡ true → covered puncts (record { input = c.input; instance = instance }) ≡ true) → AreLeftBeside spec row_states puncts c new (length old)
left_beside spec row_states lent routes c r given old new kept puncts are lt is same own count fewer (added, beside, leaves) more = go added beside leaves
  where
    by-older : (asks : Demand) → eqb c.input asks.input ≡ true → covered_by_any kept asks.instance ≡ true → covered puncts asks ≡ false → ⊥
    by-older asks here t none = false≢true (sym none ∙ (ap (λ i. covered puncts (record { input = i; instance = asks.instance })) (sym (eqb-true c.input asks.input here)) ∙ more asks.instance t))

    not-so : (b : Bool) → (b ≡ true → ⊥) → (b || false) ≡ false
    not-so true f = absurd (f refl)
    not-so false f = refl

    -- the part of what another punctuation covers
    part : (rest : List Pattern) (ticket : ℕ) (asks : Demand) → covered (come_at (record { input = c.input; patterns = rest }) ticket ∷ []) asks ≡ false → covered puncts asks ≡ false → eqb c.input asks.input ≡ true
        → (covered_by_any kept asks.instance ≡ true) ⊎ (covers rest asks.instance ≡ true) → ⊥
    part rest ticket asks left none here (inl h) = by-older asks here h none
    part rest ticket asks left none here (inr h) = false≢true (sym left ∙ ap (λ b. b || false) (and_from (eqb c.input asks.input) (covers rest asks.instance) here h))

    go : (added : Added) → IsAdded kept c.patterns added → AddedLeaves lent given c.patterns new added → AreLeftBeside spec row_states puncts c new (length old)
    go Nothing beside leaves input less ticket s at passed rows asks stored asked none = not-so (eqb c.input asks.input && covers c.patterns asks.instance) (λ t.
        let both = and_parts (eqb c.input asks.input) (covers c.patterns asks.instance) t in by-older asks both.0 (beside asks.instance both.1) none)
    go (Part rest) beside leaves input less ticket s at passed rows asks stored asked none = not-so (eqb c.input asks.input && covers c.patterns asks.instance) (λ t.
        let both = and_parts (eqb c.input asks.input) (covers c.patterns asks.instance) t in
        part rest ticket asks (left_now spec row_states lent routes (record { input = c.input; patterns = rest }) r given old new are lt is same own count fewer leaves input less ticket s at passed rows asks stored asked) none both.0 (beside asks.instance both.1))
    go Whole beside leaves input less ticket s at passed rows asks stored asked none = left_now spec row_states lent routes c r given old new are lt is same own count fewer leaves input less ticket s at passed rows asks stored asked

pub roused_now : (spec : JoinData) (row_states lent : List StateView) (routes : List InputRoutes) (input : ℕ) (gone passed : List ℕ) (r : InputRoutes) (given : List BackRoute) (old new : List DueRechecks) → AreRoutes spec row_states (inputs spec) routes → input < inputs spec → r ≡ get_or routes input r → given ≡ r.back → lent ≡ row_states → passed ≡ gone
    → length old ≡ inputs spec → AreFewer old new → BacksLeave lent given passed new → AreRoused spec row_states input gone new (length old)
roused_now spec row_states lent routes input gone passed r given old new are lt is same own handed count fewer leaves =
    subst (λ n. AreRoused spec row_states input gone new n) (sym count)
    (roused_by_routes spec row_states row_states input gone (routes_at routes input) new (inputs spec) (are.each input lt) (fewer.count ∙ count)
    (subst (λ (ns : List ℕ). BacksLeave row_states (routes_at routes input).back ns new) handed
    (subst (λ (ss : List StateView). BacksLeave ss (routes_at routes input).back passed new) own
    (subst (λ (bs : List BackRoute). BacksLeave lent bs passed new) (same ∙ ap (λ (q : InputRoutes). q.back) (there spec row_states routes input r are lt is)) leaves))))

-- ---- the same columns are indexed

abbrev pub SameColumns : List StateView → List StateView → Type 0
SameColumns old new = (input : ℕ) → (state_at new input).columns ≡ (state_at old input).columns

way-same : (old new : List StateView) (way : Way) → SameColumns old new → WayFits old way → WayFits new way
way-same old new way same fits = (
  subst (λ (ks : List ℕ). In way.first.pair.mine ks) (sym (same way.first.input)) fits.0,
  λ hop h. subst (λ (ks : List ℕ). In hop.pair.mine ks) (sym (same hop.input)) (fits.1 hop h),
)

told-same : (old new : List StateView) (way : Option Way) → SameColumns old new → IfSome way (WayFits old) → IfSome way (WayFits new)
told-same old new None same fits = tt
told-same old new (Some way) same fits = way-same old new way same fits

leads-same : (old new : List StateView) (input : ℕ) (leads : List Lead) → SameColumns old new → LeadsIn (state_at old input).columns leads → LeadsIn (state_at new input).columns leads
leads-same old new input leads same fits lead h = subst (λ (ks : List ℕ). In lead.column ks) (sym (same input)) (fits lead h)

routes-same : (old new : List StateView) (routes : List RecheckRoute) → SameColumns old new → RoutesFit old routes → RoutesFit new routes
routes-same old new routes same fit route h = record {
  own = leads-same old new route.owner route.own same (fit route h).own;
  behind = λ stop k. record { leads = leads-same old new stop.input stop.leads same ((fit route h).behind stop k).leads; way = told-same old new stop.way same ((fit route h).behind stop k).way };
}

pub routes_stay : (spec : JoinData) (old new : List StateView) (count : ℕ) (routes : List InputRoutes) → SameColumns old new → AreRoutes spec old count routes → AreRoutes spec new count routes
routes_stay spec old new count routes same are = record {
  long = are.long;
  each = λ input lt. record {
    recheck = (are.each input lt).recheck;
    fit = routes-same old new (routes_at routes input).recheck same (are.each input lt).fit;
    back = (are.each input lt).back;
    back_fit = λ back h. told-same old new back.way same ((are.each input lt).back_fit back h);
  };
}

-- a state that is put in place of one with the same columns
pub columns_set : (row_states : List StateView) (i : ℕ) (old new : StateView) → old ≡ get_or row_states i old → new.columns ≡ old.columns → SameColumns row_states (set row_states i new)
columns_set [] i old new is same input = refl
columns_set (s ∷ row_states) zero old new is same zero = same ∙ ap (λ (t : StateView). t.columns) is
columns_set (s ∷ row_states) zero old new is same (suc input) = refl
columns_set (s ∷ row_states) (suc i) old new is same zero = refl
columns_set (s ∷ row_states) (suc i) old new is same (suc input) = columns_set row_states i old new is same input
