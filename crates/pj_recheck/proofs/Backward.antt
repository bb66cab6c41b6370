-- Rows that ask through those of other inputs, and the way back to them along a certificate.
use Rattle.std.proofs.Common.{ℕ, zero, suc, ◌+◌, ◌-◌, ◌<◌, ◌≤◌, Bool, true, List, [], ◌∷◌, ◌++◌, ◌≡◌, Option, Some, None, IfSome, drop, take, length, get_or, refl, sym, ap, ◌∙◌, subst, inl, inr, ◌⊎◌, arith}
use Rattle.std.specs.Option.{option_map}
use Rattle.std.specs.List.{slice_get}
use Rattle.std.proofs.lemmas.List.{drop_all, take_more}
use Rattle.std.proofs.lemmas.Option.{none-some, same_Some, slice_get-get_or, slice_get-map, slice_get_within, get_or_from_slice_get}
use Rattle.pj_value.specs.declared.values.Value.{Value}
use Rattle.pj_value.proofs.Members.{In-append_cases, In-append_left, In-append_right, in_at}
use Rattle.pj_state.specs.declared.shared.Stored.{Stored}
use Rattle.pj_state.specs.Rising.{IsRising}
use Rattle.pj_state.specs.States.{StateView, row_under, rows_with, tickets_of, ticket_of}
use Rattle.pj_shape.specs.declared.joins.CertStep.{CertStep}
use Rattle.pj_cover.specs.Asking.{IsAsked, entries}
use Rattle.pj_events.specs.Join.{CertEntry, ClassCol, Demand, In, TupleAt, agree, entry_of, no_value, value_at}
use Rattle.pj_join_laws.proofs.Matching.{agree-mono}
use Rattle.pj_recheck.specs.declared.routes.Hop.{Hop}
use Rattle.pj_recheck.specs.declared.routes.Pair.{Pair}
use Rattle.pj_recheck.specs.declared.routes.Way.{Way}
use Rattle.pj_recheck.specs.Recheck.{HopsLead, IsHop, WayLeads}
use Rattle.pj_rows.specs.Tuples.{IsWide, state_at, tuple_in}
use Rattle.pj_recheck.specs.Watching.{AsksAlong, HavePartners, HopsBack, LeadsBack, PathView, asker, input_at}
use Rattle.pj_recheck.proofs.Appended.{with_value}
use Rattle.pj_recheck.proofs.Picked.{drop_one}
use Rattle.pj_rows.proofs.Under.{under-own}

-- ---- partners

pub partners_all : (rows others : List Stored) (pair : Pair) (tickets found more : List ℕ) → ((n : ℕ) → In n found → In n more) → HavePartners rows others pair tickets found → HavePartners rows others pair tickets more
partners_all rows others pair tickets found more all are s t hs ht k e = all s.ticket (are s t hs ht k e)

-- those of the rows with these tickets and with one more
partners_then : (rows others : List Stored) (pair : Pair) (tickets found more : List ℕ) (i ticket : ℕ) → i < length tickets → ticket ≡ get_or tickets i 0
    → HavePartners rows others pair (take i tickets) found → HavePartners rows others pair (ticket ∷ []) more → HavePartners rows others pair (take (i + 1) tickets) (found ++ more)
partners_then rows others pair tickets found more i ticket lt is before one s t hs ht k e =
    go (In-append_cases t.ticket (take i tickets) (ticket ∷ []) (subst (λ (ns : List ℕ). In t.ticket ns) (take_more tickets i 0 lt ∙ ap (λ m. take i tickets ++ m ∷ []) (sym is)) k))
  where
    go : In t.ticket (take i tickets) ⊎ In t.ticket (ticket ∷ []) → In s.ticket (found ++ more)
    go (inl a) = In-append_left s.ticket found more (before s t hs ht a e)
    go (inr a) = In-append_right s.ticket found more (one s t hs ht a e)

-- those of the row with one ticket
partners_one : (state : StateView) (others : List Stored) (pair : Pair) (ticket : ℕ) (row : List Value) (value : Value) → IsWide state → In pair.mine state.columns → IsRising ticket_of others
    → Some row ≡ row_under ticket others → slice_get row pair.theirs ≡ Some value → HavePartners state.rows others pair (ticket ∷ []) (tickets_of (rows_with pair.mine value state.rows))
partners_one state others pair ticket row value wide indexed rising at there s t hs ht (inl k) e =
    let own : Some t.row ≡ Some row = under-own others t rising ht ∙ ap (λ n. row_under n others) (sym k) ∙ sym at in
    with_value state pair.mine value s wide indexed hs
    (e ∙ ap (λ (r : List Value). value_at r pair.theirs) (same_Some t.row row own) ∙ get_or_from_slice_get row pair.theirs value no_value there)
partners_one state others pair ticket row value wide indexed rising at there s t hs ht (inr k) e = absurd k

partners_none : (rows others : List Stored) (pair : Pair) (ticket : ℕ) → IsRising ticket_of others → None ≡ row_under ticket others → HavePartners rows others pair (ticket ∷ []) []
partners_none rows others pair ticket rising at s t hs ht (inl k) e =
    absurd (none-some t.row (at ∙ ap (λ n. row_under n others) k ∙ sym (under-own others t rising ht)))
partners_none rows others pair ticket rising at s t hs ht (inr k) e = absurd k

pub partners_more : (state : StateView) (others : List Stored) (pair : Pair) (tickets old new : List ℕ) (i ticket : ℕ) (row : List Value) (value : Value)
    → IsWide state → In pair.mine state.columns → IsRising ticket_of others → i < length tickets → ticket ≡ get_or tickets i 0
    → Some row ≡ row_under ticket others → slice_get row pair.theirs ≡ Some value → ((n : ℕ) → In n (old ++ tickets_of (rows_with pair.mine value state.rows)) → In n new)
    → HavePartners state.rows others pair (take i tickets) old → HavePartners state.rows others pair (take (i + 1) tickets) new
partners_more state others pair tickets old new i ticket row value wide indexed rising lt is at there all before =
    partners_all state.rows others pair (take (i + 1) tickets) (old ++ tickets_of (rows_with pair.mine value state.rows)) new all
    (partners_then state.rows others pair tickets old (tickets_of (rows_with pair.mine value state.rows)) i ticket lt is before (partners_one state others pair ticket row value wide indexed rising at there))

pub partners_past : (rows others : List Stored) (pair : Pair) (tickets found : List ℕ) (i ticket : ℕ) → IsRising ticket_of others → i < length tickets → ticket ≡ get_or tickets i 0
    → None ≡ row_under ticket others → HavePartners rows others pair (take i tickets) found → HavePartners rows others pair (take (i + 1) tickets) found
partners_past rows others pair tickets found i ticket rising lt is at before s t hs ht k e =
    go (In-append_cases s.ticket found [] (partners_then rows others pair tickets found [] i ticket lt is before (partners_none rows others pair ticket rising at) s t hs ht k e))
  where
    go : In s.ticket found ⊎ In s.ticket [] → In s.ticket found
    go (inl a) = a
    go (inr a) = absurd a

-- ---- the inputs of a path

pub input_step : (path : PathView) (schemes : List (List (List Bool))) (steps : List CertStep) (at : ℕ) (step : CertStep) → path.cert ≡ entries schemes steps → (at ≡ 0 → ⊥)
    → slice_get steps (at - 1) ≡ Some step → Some step.input ≡ input_at path at
input_step path schemes steps zero step are ne is = absurd (ne refl)
input_step path schemes steps (suc at) step are ne is =
    sym (ap (λ (cs : List CertEntry). option_map (λ (e : CertEntry). e.input) (slice_get cs at)) are
    ∙ ap (option_map (λ (e : CertEntry). e.input)) (slice_get-map (entry_of schemes) steps at ∙ ap (option_map (entry_of schemes)) (ap (slice_get steps) back ∙ is)))
  where
    back : at ≡ suc at - 1
    back = omega arith

asked-input : (classes : List (List ClassCol)) (cert : List CertEntry) (rows xs : List TupleAt) (asks : Demand) (i : ℕ) (y : TupleAt) → IsAsked classes cert rows xs asks → slice_get rows i ≡ Some y
    → option_map (λ (e : CertEntry). e.input) (slice_get cert i) ≡ Some y.input
asked-input classes [] rows xs asks i y a e = absurd a
asked-input classes (c ∷ cert) [] xs asks i y a e = absurd (none-some y e)
asked-input classes (c ∷ cert) (r ∷ rows) xs asks zero y a e = ap Some (sym a.0 ∙ ap (λ (z : TupleAt). z.input) (same_Some r y e))
asked-input classes (c ∷ cert) (r ∷ rows) xs asks (suc i) y a e = asked-input classes cert rows (r ∷ xs) asks i y a.2 e

-- a row at a position is of its input
along-input : (path : PathView) (x : TupleAt) (rows : List TupleAt) (asks : Demand) (at : ℕ) (y : TupleAt) → AsksAlong path x rows asks → slice_get (x ∷ rows) at ≡ Some y → input_at path at ≡ Some y.input
along-input path x rows asks zero y along e = ap Some (sym along.own ∙ ap (λ (z : TupleAt). z.input) (same_Some x y e))
along-input path x rows asks (suc at) y along e = asked-input path.classes path.cert rows (x ∷ []) asks at y along.asked e

-- ---- rows of a path join

-- with one of those before
asked-joins : (classes : List (List ClassCol)) (cert : List CertEntry) (rows xs : List TupleAt) (asks : Demand) (i : ℕ) (y z : TupleAt) → IsAsked classes cert rows xs asks → slice_get rows i ≡ Some y → In z xs
    → agree classes (y ∷ z ∷ []) ≡ true
asked-joins classes [] rows xs asks i y z a e h = absurd a
asked-joins classes (c ∷ cert) [] xs asks i y z a e h = absurd (none-some y e)
asked-joins classes (c ∷ cert) (r ∷ rows) xs asks zero y z a e h = agree-mono classes (y ∷ z ∷ []) (r ∷ xs) sub a.1
  where
    sub : (u : TupleAt) → In u (y ∷ z ∷ []) → In u (r ∷ xs)
    sub u (inl q) = inl (same_Some r y e ∙ q)
    sub u (inr (inl q)) = inr (subst (λ (v : TupleAt). In v xs) q h)
    sub u (inr (inr q)) = absurd q
asked-joins classes (c ∷ cert) (r ∷ rows) xs asks (suc i) y z a e h = asked-joins classes cert rows (r ∷ xs) asks i y z a.2 e (inr h)

asked-both : (classes : List (List ClassCol)) (cert : List CertEntry) (rows xs : List TupleAt) (asks : Demand) (i j : ℕ) (y z : TupleAt) → IsAsked classes cert rows xs asks → j < i → slice_get rows i ≡ Some y → slice_get rows j ≡ Some z
    → agree classes (y ∷ z ∷ []) ≡ true
asked-both classes [] rows xs asks i j y z a lt ey ez = absurd a
asked-both classes (c ∷ cert) [] xs asks i j y z a lt ey ez = absurd (none-some y ey)
asked-both classes (c ∷ cert) (r ∷ rows) xs asks zero j y z a lt ey ez = absurd (omega (arith, lt))
asked-both classes (c ∷ cert) (r ∷ rows) xs asks (suc i) zero y z a lt ey ez = asked-joins classes cert rows (r ∷ xs) asks i y z a.2 ey (inl (same_Some r z ez))
asked-both classes (c ∷ cert) (r ∷ rows) xs asks (suc i) (suc j) y z a lt ey ez = asked-both classes cert rows (r ∷ xs) asks i j y z a.2 (omega (arith, lt)) ey ez

-- those at two positions
along-joins : (path : PathView) (x : TupleAt) (rows : List TupleAt) (asks : Demand) (at before : ℕ) (y z : TupleAt) → AsksAlong path x rows asks → before < at
    → slice_get (x ∷ rows) at ≡ Some y → slice_get (x ∷ rows) before ≡ Some z → agree path.classes (y ∷ z ∷ []) ≡ true
along-joins path x rows asks zero before y z along lt ey ez = absurd (omega (arith, lt))
along-joins path x rows asks (suc at) zero y z along lt ey ez = asked-joins path.classes path.cert rows (x ∷ []) asks at y z along.asked ey (inl (same_Some x z ez))
along-joins path x rows asks (suc at) (suc before) y z along lt ey ez = asked-both path.classes path.cert rows (x ∷ []) asks at before y z along.asked (omega (arith, lt)) ey ez

-- ---- one hop back

hop_back : (path : PathView) (at before : ℕ) (hop : Hop) (tickets found : List ℕ) → IsHop (asker path) at before hop
    → HavePartners (state_at path.row_states hop.input).rows (state_at path.row_states hop.other).rows hop.pair tickets found → HopsBack path at before tickets found
hop_back path at before hop tickets found is are x rows asks along y z ey ez h =
    subst (λ n. In n found) (ap (λ (u : TupleAt). u.ticket) stored-z.2)
    (are stored-z.0 stored-y.0
    (subst (λ n. In stored-z.0 (state_at path.row_states n).rows) own-z stored-z.1)
    (subst (λ n. In stored-y.0 (state_at path.row_states n).rows) own-y stored-y.1)
    (subst (λ n. In n tickets) (sym (ap (λ (u : TupleAt). u.ticket) stored-y.2)) h)
    (ap (λ (u : TupleAt). value_at u.row hop.pair.mine) stored-z.2 ∙ same ∙ sym (ap (λ (u : TupleAt). value_at u.row hop.pair.theirs) stored-y.2)))
  where
    stored-y : (t : Stored) × In t (state_at path.row_states y.input).rows × (tuple_in y.input t ≡ y)
    stored-y = along.stored y (in_at (x ∷ rows) at y ey)

    stored-z : (s : Stored) × In s (state_at path.row_states z.input).rows × (tuple_in z.input s ≡ z)
    stored-z = along.stored z (in_at (x ∷ rows) before z ez)

    own-y : y.input ≡ hop.other
    own-y = same_Some y.input hop.other (sym (along-input path x rows asks at y along ey) ∙ is.is_other)

    own-z : z.input ≡ hop.input
    own-z = same_Some z.input hop.input (sym (along-input path x rows asks before z along ez) ∙ is.is_input)

    same : value_at z.row hop.pair.mine ≡ value_at y.row hop.pair.theirs
    same = is.joins z y own-z own-y (along-joins path x rows asks at before y z along is.earlier ey ez)

-- ---- all the way back

-- one step, and those from there
leads_over : (path : PathView) (at before : ℕ) (tickets next found : List ℕ) → before < at → HopsBack path at before tickets next → LeadsBack path before next found → LeadsBack path at tickets found
leads_over path at before tickets next found lt hops leads x rows asks along y ey h =
    let there : before < length (x ∷ rows) = omega (arith, lt, slice_get_within (x ∷ rows) at y ey) in
    let ez : slice_get (x ∷ rows) before ≡ Some (get_or (x ∷ rows) before x) = slice_get-get_or (x ∷ rows) before x there in
    leads x rows asks along (get_or (x ∷ rows) before x) ez (hops x rows asks along y (get_or (x ∷ rows) before x) ey ez h)

pub hop_leads : (row_states : List StateView) (hop : Hop) (hops : List Hop) (tickets next found : List ℕ) → HavePartners (state_at row_states hop.input).rows (state_at row_states hop.other).rows hop.pair tickets next → HopsLead row_states hops next found
    → HopsLead row_states (hop ∷ hops) tickets found
hop_leads row_states hop hops tickets next found are leads path at same (before, is, rest) =
    leads_over path at before tickets next found is.earlier
    (hop_back path at before hop tickets next is (subst (λ (ss : List StateView). HavePartners (state_at ss hop.input).rows (state_at ss hop.other).rows hop.pair tickets next) (sym same) are))
    (leads path before same rest)

-- what leads on from these steps leads back from all
abbrev pub HopsGoOn : List StateView → List Hop → List ℕ → List Hop → List ℕ → Type 0
HopsGoOn row_states all tickets hops found = (list : List ℕ) → HopsLead row_states hops found list → HopsLead row_states all tickets list

pub hops_next : (row_states : List StateView) (all : List Hop) (tickets : List ℕ) (i : ℕ) (d : Hop) (found lent next : List ℕ) (told : Option (List ℕ)) → i < length all → lent ≡ found → told ≡ Some next
    → IfSome told (HavePartners (state_at row_states (get_or all i d).input).rows (state_at row_states (get_or all i d).other).rows (get_or all i d).pair lent) → HopsGoOn row_states all tickets (drop i all) found → HopsGoOn row_states all tickets (drop (i + 1) all) next
hops_next row_states all tickets i d found lent next told lt same some are on list leads =
    on list
    (subst (λ (hs : List Hop). HopsLead row_states hs found list) (sym (drop_one all i (get_or all i d) (slice_get-get_or all i d lt)))
    (hop_leads row_states (get_or all i d) (drop (i + 1) all) found next list
    (subst (λ (ns : List ℕ). HavePartners (state_at row_states (get_or all i d).input).rows (state_at row_states (get_or all i d).other).rows (get_or all i d).pair ns next) same
    (subst (λ (o : Option (List ℕ)). IfSome o (HavePartners (state_at row_states (get_or all i d).input).rows (state_at row_states (get_or all i d).other).rows (get_or all i d).pair lent)) some are)) leads))

-- where no step is left, the rows are the own ones
none_lead : (row_states : List StateView) (found : List ℕ) → HopsLead row_states [] found found
none_lead row_states found path at same zero-at x rows asks along y ey h =
    subst (λ (z : TupleAt). In z.ticket found) (sym (same_Some x y (subst (λ k. slice_get (x ∷ rows) k ≡ Some y) zero-at ey))) h

pub hops_end : (row_states : List StateView) (all : List Hop) (tickets : List ℕ) (i : ℕ) (found : List ℕ) → length all ≤ i → HopsGoOn row_states all tickets (drop i all) found → HopsLead row_states all tickets found
hops_end row_states all tickets i found le on = on found (subst (λ (hs : List Hop). HopsLead row_states hs found found) (sym (drop_all i all le)) (none_lead row_states found))

pub way_leads : (row_states : List StateView) (way : Way) (tickets next : List ℕ) (told found : Option (List ℕ)) → told ≡ Some next
    → IfSome told (HavePartners (state_at row_states way.first.input).rows (state_at row_states way.first.other).rows way.first.pair tickets) → IfSome found (HopsLead row_states way.rest next) → IfSome found (WayLeads row_states way tickets)
way_leads row_states way tickets next told None some are leads = tt
way_leads row_states way tickets next told (Some list) some are leads =
    hop_leads row_states way.first way.rest tickets next list (subst (λ (o : Option (List ℕ)). IfSome o (HavePartners (state_at row_states way.first.input).rows (state_at row_states way.first.other).rows way.first.pair tickets)) some are) leads
