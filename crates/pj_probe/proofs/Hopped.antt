-- Rows that are found from one input to the next.
use Rattle.std.proofs.Common.{ℕ, zero, suc, ◌+◌, ◌<◌, ◌≤◌, Bool, true, false, cond, ◌&&◌, ◌||◌, ◌-◌, List, [], ◌∷◌, ◌++◌, ◌≡◌, Option, Some, None, map, filter, set, take, length, get_or, refl, sym, ap, ap₂, ◌∙◌, subst, inl, inr, eqb, arith}
use Rattle.std.specs.List.{list_all, slice_get}
use Rattle.std.specs.Prelude.{IfOk, IfSome, Result, Ok, Err}
use Rattle.std.proofs.lemmas.Bool.{cases_lt, eqb-true, eq-eqb, false≢true, false_from_ne_true, lt-ltb, ltb-true}
use Rattle.std.proofs.lemmas.List.Elements.{filter-append}
use Rattle.std.proofs.lemmas.List.{get_or_append_left, get_or_past, get_or-set_other, get_or-set_same, length-append, length-map, map-append, take_all, take_more}
use Rattle.std.proofs.lemmas.Option.{get_or_from_slice_get, slice_get_within, slice_get-get_or}
use Rattle.pj_value.specs.Values.{value_eq}
use Rattle.pj_value.proofs.Members.{In-append_left, In-append_right, In-append_cases, In-filter, In-filter_from, In-flat_map, In-flat_map_from, In-map, In-map_from, all_from, filter-agree, filter-all, filter-filter, filter_map_swap}
use Rattle.pj_value.proofs.Orders.{equal_itself}
use Rattle.pj_value.proofs.Numbers.{has-in, in-has}
use Rattle.pj_value.specs.Options.{is_value}
use Rattle.pj_state.specs.declared.shared.Stored.{Stored}
use Rattle.pj_state.specs.Rising.{IsRising, itself}
use Rattle.pj_state.specs.States.{StateView, is_below, has_value, pair_of, pairs, row_under, rows_below, rows_with, stored, ticket_of, tickets_of}
use Rattle.pj_probe.specs.Walks.{sides_at, tuple_at}
use Rattle.pj_events.specs.Join.{ClassCol, In, TupleAt, Value, agree, has, no_value, product, upto_from, value_at}
use Rattle.pj_join_laws.proofs.Matching.{agree-at, value-in}
use Rattle.pj_rows.proofs.Halved.{some_rise}
use Rattle.pj_probe.specs.Hops.{AreFound, AreLinked, AreMore, AreStepped, BeginsWith, FindAll, HaveTickets, IsChoice, all_older, all_under, has_ticket, is_among, older_at, older_under}
use Rattle.pj_probe.specs.Routes.{AreInClasses, InOneClass, IsRoute, IsStep, LeadsTo, columns_of, is_reached}
use Rattle.pj_probe.specs.declared.route.ProbeLink.{ProbeLink}
use Rattle.pj_probe.specs.declared.route.ProbeStep.{ProbeStep}
use Rattle.pj_probe.proofs.Routed.{columns_at, own_reached, reached_by, step_there, steps_with}
use Rattle.pj_rows.specs.Tuples.{IsWide, state_at, under_with, no_state, tuple_in, tuples_in, ticket_in}
use Rattle.pj_probe.specs.Choices.{AreNarrowed, IsNarrowed, choices, may_join, older_joins}
use Rattle.pj_rows.specs.AgreesWith.{agrees_with}
use Rattle.pj_join_laws.proofs.Upto.{length-upto, get_or-upto, map-upto}
use Rattle.pj_join_laws.proofs.Results.{product-filter}
use Rattle.pj_rows.proofs.States.{same-at, tuples-length, side_at}
use Rattle.pj_probe.proofs.Finding.{as-upto, map-map_upto, narrowed-finds}
use Rattle.pj_probe.proofs.Looped.{narrowed_choice, picked_stop, sides-length}
use Rattle.pj_rows.proofs.Indexed.{all-in}
use Rattle.pj_probe.proofs.Wanted.{all_hold}
use Rattle.pj_rows.proofs.Rising.{above-in, rising-append, rising-filter, rising-same}
use Rattle.pj_rows.proofs.Under.{flat-more, under-in, under-own}

abbrev pub Pairs : Type 0
Pairs = List (ℕ × List Value)

-- ---- rows under tickets

of-under : (below : ℕ) (rows : List Stored) (n : ℕ) (s : Stored) → In s (older_under below rows n) → (In s rows × (s.ticket ≡ n)) × (is_below below s ≡ true)
of-under below rows n s h = let f = In-filter (is_below below) s (under_with n (row_under n rows)) h in (under-in rows n s f.0, f.1)

-- the older rows with these tickets, in order
all-under-is : (below : ℕ) (rows : List Stored) (tickets : List ℕ) → IsRising ticket_of rows → IsRising itself tickets → all_under below rows tickets ≡ filter (has_ticket tickets) (rows_below below rows)
all-under-is below rows tickets r t =
    rising-same ticket_of (all_under below rows tickets) (filter (has_ticket tickets) (rows_below below rows)) (rises tickets t) (rising-filter ticket_of (has_ticket tickets) (rows_below below rows) (rising-filter ticket_of (is_below below) rows r)) fore back
  where
    single : (n : ℕ) (o : Option (List Value)) → IsRising ticket_of (rows_below below (under_with n o))
    single n None = tt
    single n (Some row) = go (is_below below (stored n row))
      where
        go : (b : Bool) → IsRising ticket_of (cond b (stored n row ∷ []) [])
        go true = (tt, tt)
        go false = tt

    rises : (ns : List ℕ) → IsRising itself ns → IsRising ticket_of (all_under below rows ns)
    rises [] q = tt
    rises (n ∷ ns) q = rising-append ticket_of (older_under below rows n) (all_under below rows ns) (single n (row_under n rows)) (rises ns q.1) later
      where
        later : (x y : Stored) → In x (older_under below rows n) → In y (all_under below rows ns) → x.ticket < y.ticket
        later x y h k =
            let m = In-flat_map (older_under below rows) y ns k in
            let a : n < m.0 = above-in itself n ns m.0 q.0 m.1 in
            let e : x.ticket ≡ n = (of-under below rows n x h).0.1 in
            let f : y.ticket ≡ m.0 = (of-under below rows m.0 y m.2).0.1 in
            omega (arith, a, e, f)

    fore : (s : Stored) → In s (all_under below rows tickets) → In s (filter (has_ticket tickets) (rows_below below rows))
    fore s h =
        let m = In-flat_map (older_under below rows) s tickets h in
        let o = of-under below rows m.0 s m.2 in
        In-filter_from (has_ticket tickets) s (rows_below below rows) (In-filter_from (is_below below) s rows o.0.0 o.1) (in-has tickets s.ticket (subst (λ n. In n tickets) (sym o.0.1) m.1))

    back : (s : Stored) → In s (filter (has_ticket tickets) (rows_below below rows)) → In s (all_under below rows tickets)
    back s h =
        let f = In-filter (has_ticket tickets) s (rows_below below rows) h in
        let g = In-filter (is_below below) s rows f.0 in
        In-flat_map_from (older_under below rows) s s.ticket tickets (has-in tickets s.ticket f.1)
        (In-filter_from (is_below below) s (under_with s.ticket (row_under s.ticket rows)) (subst (λ (o : Option (List Value)). In s (under_with s.ticket o)) (under-own rows s r g.0) (inl refl)) g.1)

pub under_more : (below : ℕ) (rows : List Stored) (tickets : List ℕ) (i t : ℕ) (found found' : Pairs) → i < length tickets → t ≡ get_or tickets i 0 → found ≡ pairs (all_under below rows (take i tickets)) → found' ≡ found ++ pairs (older_under below rows t)
    → found' ≡ pairs (all_under below rows (take (i + 1) tickets))
under_more below rows tickets i t found found' lt is before now =
    now ∙ ap (λ (ps : Pairs). ps ++ pairs (older_under below rows t)) before
    ∙ sym (map-append pair_of (all_under below rows (take i tickets)) (older_under below rows t))
    ∙ ap pairs (sym (flat-more (older_under below rows) (take i tickets) t) ∙ ap (all_under below rows) (ap (λ n. take i tickets ++ n ∷ []) is ∙ sym (take_more tickets i 0 lt)))

linked-is : (state : StateView) (mine theirs below : ℕ) (others found : Pairs) (tickets ordered : List ℕ) → IsRising ticket_of state.rows → IsRising itself ordered → ((n : ℕ) → In n tickets → In n ordered)
    → HaveTickets state.rows mine theirs others tickets → found ≡ pairs (all_under below state.rows ordered) → AreLinked state mine theirs others below found
linked-is state mine theirs below others found tickets ordered r t all have is = (ordered, λ q h s k e. all s.ticket (have q h s k e), is ∙ ap pairs (all-under-is below state.rows ordered r t))

-- the row at a place is older, so it is one more
pub older_more : (below : ℕ) (rows : List Stored) (at : ℕ) (s : Stored) (found found' : Pairs) → slice_get rows at ≡ Some s → s.ticket < below → found ≡ pairs (rows_below below (take at rows)) → found' ≡ found ++ pair_of s ∷ []
    → found' ≡ pairs (rows_below below (take (at + 1) rows))
older_more below rows at s found found' here older before now =
    now ∙ ap (λ (ps : Pairs). ps ++ pair_of s ∷ []) before
    ∙ ap (λ b. pairs (rows_below below (take at rows)) ++ pairs (cond b (s ∷ []) [])) (sym (lt-ltb s.ticket below older))
    ∙ sym (map-append pair_of (rows_below below (take at rows)) (rows_below below (s ∷ [])))
    ∙ ap pairs (sym (filter-append (is_below below) (take at rows) (s ∷ [])))
    ∙ ap (λ (xs : List Stored). pairs (rows_below below xs)) (ap (λ (t : Stored). take at rows ++ t ∷ []) (sym (get_or_from_slice_get rows at s s here)) ∙ sym (take_more rows at s (slice_get_within rows at s here)))

-- it is not, and so no later one is
pub older_stop : (below : ℕ) (rows : List Stored) (at : ℕ) (s : Stored) (found : Pairs) → IsRising ticket_of rows → slice_get rows at ≡ Some s → below ≤ s.ticket → found ≡ pairs (rows_below below (take at rows)) → found ≡ pairs (rows_below below rows)
older_stop below rows at s found rising here late before = before ∙ ap pairs (picked_stop (is_below below) ticket_of below rows at s rising (λ t k. ltb-true t.ticket below k) here late)

-- one row that tells is all that do
pub linked_single : {E : Type 0} (state : StateView) (mine theirs below : ℕ) (rows : Pairs) (q : ℕ × List Value) (row : List Value) (result : Result Pairs E) → 1 ≤ length rows → length rows < 2 → q ≡ get_or rows 0 q → row ≡ q.1
    → ((ticket : ℕ) → IfOk result (AreLinked state mine theirs ((ticket, row) ∷ []) below)) → IfOk result (AreLinked state mine theirs rows below)
linked_single state mine theirs below rows q row result some one is e all =
    subst (λ (rs : Pairs). IfOk result (AreLinked state mine theirs rs below)) (ap (λ (r : List Value). (q.0, r) ∷ []) e ∙ single rows is some one) (all q.0)
  where
    single : (rs : Pairs) → q ≡ get_or rs 0 q → 1 ≤ length rs → length rs < 2 → q ∷ [] ≡ rs
    single [] i s o = absurd (omega (arith, s))
    single (r ∷ []) i s o = ap (λ (z : ℕ × List Value). z ∷ []) i
    single (r ∷ z ∷ rs) i s o = absurd (omega (arith, o))

-- ---- tickets with the values of others

pub tickets_more : (rows : List Stored) (mine theirs : ℕ) (others : Pairs) (at : ℕ) (d r : ℕ × List Value) (old new : List ℕ) → at < length others → r ≡ get_or others at d → HaveTickets rows mine theirs (take at others) old → AreMore rows mine (value_at r.1 theirs) old new
    → HaveTickets rows mine theirs (take (at + 1) others) new
tickets_more rows mine theirs others at d r old new lt is have more q h s k e =
    elim (In-append_cases q (take at others) (r ∷ []) (subst (λ (ps : Pairs). In q ps) (take_more others at d lt ∙ ap (λ (z : ℕ × List Value). take at others ++ z ∷ []) (sym is)) h)) [
      | inl a ↦ more.before s.ticket (have q a s k e)
      | inr b ↦ elim b [ inl same ↦ more.more s k (e ∙ ap (λ (z : ℕ × List Value). value_at z.1 theirs) (sym same)) | inr n ↦ absurd n ]
    ]

pub more_with : (state : StateView) (mine theirs : ℕ) (row : List Value) (value : Value) (old more new : List ℕ) → IsWide state → In mine state.columns → slice_get row theirs ≡ Some value → more ≡ tickets_of (rows_with mine value state.rows) → new ≡ old ++ more
    → AreMore state.rows mine (value_at row theirs) old new
more_with state mine theirs row value old more new wide indexed there is now = record {
  before = λ n h. subst (λ (ns : List ℕ). In n ns) (sym now) (In-append_left n old more h);
  more = λ s h e. subst (λ (ns : List ℕ). In s.ticket ns) (sym now) (In-append_right s.ticket old more (subst (λ (ns : List ℕ). In s.ticket ns) (sym is)
      (In-map_from ticket_of s (rows_with mine value state.rows) (In-filter_from (has_value mine value) s state.rows h (have s h e)))));
}
  where
    have : (s : Stored) → In s state.rows → value_at s.row mine ≡ value_at row theirs → has_value mine value s ≡ true
    have s h e =
        ap (is_value value) (slice_get-get_or s.row mine no_value (all-in (λ c. c < length s.row) state.columns (wide s h) mine indexed))
        ∙ ap (λ (v : Value). value_eq v value) (e ∙ get_or_from_slice_get row theirs value no_value there)
        ∙ equal_itself value

-- the rows with the value of one row
linked-one : (state : StateView) (mine theirs below ticket : ℕ) (row : List Value) (value : Value) (tickets : List ℕ) (found : Pairs) → IsRising ticket_of state.rows → IsWide state → In mine state.columns
    → Some value ≡ slice_get row theirs → tickets ≡ tickets_of (rows_with mine value state.rows) → found ≡ pairs (all_under below state.rows tickets) → AreLinked state mine theirs ((ticket, row) ∷ []) below found
linked-one state mine theirs below ticket row value tickets found rising wide indexed there are is =
    linked-is state mine theirs below ((ticket, row) ∷ []) found tickets tickets rising (subst (λ (ns : List ℕ). IsRising itself ns) (sym are) (some_rise (has_value mine value) state.rows rising)) (λ n h. h) have is
  where
    more : AreMore state.rows mine (value_at row theirs) [] tickets
    more = more_with state mine theirs row value [] tickets tickets wide indexed (sym there) are refl

    have : HaveTickets state.rows mine theirs ((ticket, row) ∷ []) tickets
    have r (inl e) s k v = more.more s k (v ∙ ap (λ (q : ℕ × List Value). value_at q.1 theirs) (sym e))
    have r (inr h) s k v = absurd h

-- the same of what a call answers
pub linked_one : {E : Type 0} (state : StateView) (mine theirs below ticket : ℕ) (row : List Value) (value : Value) (tickets : List ℕ) (result : Result Pairs E) → IsRising ticket_of state.rows → IsWide state → In mine state.columns
    → Some value ≡ slice_get row theirs → tickets ≡ tickets_of (rows_with mine value state.rows) → IfOk result (λ found. found ≡ pairs (all_under below state.rows tickets)) → IfOk result (AreLinked state mine theirs ((ticket, row) ∷ []) below)
linked_one state mine theirs below ticket row value tickets (Ok found) rising wide indexed there are is = linked-one state mine theirs below ticket row value tickets found rising wide indexed there are is
linked_one state mine theirs below ticket row value tickets (Err e) rising wide indexed there are is = tt

pub linked_all : {E : Type 0} (state : StateView) (mine theirs below : ℕ) (others : Pairs) (tickets ordered : List ℕ) (result : Result Pairs E) → IsRising ticket_of state.rows → IsRising itself ordered → ((n : ℕ) → In n tickets → In n ordered)
    → HaveTickets state.rows mine theirs others tickets → IfOk result (λ found. found ≡ pairs (all_under below state.rows ordered)) → IfOk result (AreLinked state mine theirs others below)
linked_all state mine theirs below others tickets ordered (Ok found) r t all have is = linked-is state mine theirs below others found tickets ordered r t all have is
linked_all state mine theirs below others tickets ordered (Err e) r t all have is = tt

-- among all older rows are those with a value
pub linked_anyhow : {E : Type 0} (state : StateView) (mine theirs below : ℕ) (others : Pairs) (result : Result Pairs E) → IfOk result (λ found. found ≡ pairs (rows_below below state.rows)) → IfOk result (AreLinked state mine theirs others below)
linked_anyhow state mine theirs below others (Err e) is = tt
linked_anyhow state mine theirs below others (Ok found) is = (
  tickets_of state.rows,
  λ q h s k e. In-map_from ticket_of s state.rows k,
  is ∙ ap pairs (sym (filter-all (has_ticket (tickets_of state.rows)) (rows_below below state.rows) (λ s h. in-has (tickets_of state.rows) s.ticket (In-map_from ticket_of s state.rows (In-filter (is_below below) s state.rows h).0)))),
)

-- ---- combinations of older tuples

pub older-own : (own : TupleAt) (row_states : List StateView) → older_at own row_states own.input ≡ own ∷ []
older-own own row_states = ap (λ b. cond b (own ∷ []) (map (tuple_at own.input) (pairs (rows_below own.ticket (state_at row_states own.input).rows)))) (eq-eqb own.input own.input refl)

older-others : (own : TupleAt) (row_states : List StateView) (k : ℕ) → (k ≡ own.input → ⊥) → older_at own row_states k ≡ map (tuple_at k) (pairs (rows_below own.ticket (state_at row_states k).rows))
older-others own row_states k ne = ap (λ b. cond b (own ∷ []) (map (tuple_at k) (pairs (rows_below own.ticket (state_at row_states k).rows)))) (false_from_ne_true (eqb k own.input) (λ t. ne (eqb-true k own.input t)))

pub older-input : (own : TupleAt) (row_states : List StateView) (k : ℕ) (y : TupleAt) → In y (older_at own row_states k) → y.input ≡ k
older-input own row_states k y h = go (eqb k own.input) refl h
  where
    go : (b : Bool) → eqb k own.input ≡ b → In y (cond b (own ∷ []) (map (tuple_at k) (pairs (rows_below own.ticket (state_at row_states k).rows)))) → y.input ≡ k
    go true e (inl same) = ap (λ (z : TupleAt). z.input) (sym same) ∙ sym (eqb-true k own.input e)
    go true e (inr n) = absurd n
    go false e m = let r = In-map (tuple_at k) y (pairs (rows_below own.ticket (state_at row_states k).rows)) m in ap (λ (z : TupleAt). z.input) (sym r.2)

product-of : (f : ℕ → List TupleAt) → ((k : ℕ) (y : TupleAt) → In y (f k) → y.input ≡ k) → (base n : ℕ) (c : List TupleAt) → In c (product (map f (upto_from base n))) → (y : TupleAt) → In y c → In y (f y.input)
product-of f own base zero c (inl e) y h = absurd (subst (λ (d : List TupleAt). In y d) (sym e) h)
product-of f own base zero c (inr n) y h = absurd n
product-of f own base (suc n) c h y k =
    let m = In-flat_map (λ (z : TupleAt). map (λ d. z ∷ d) (product (map f (upto_from (base + 1) n)))) c (f base) h in
    let d = In-map (λ (d : List TupleAt). m.0 ∷ d) c (product (map f (upto_from (base + 1) n))) m.2 in
    elim (subst (λ (e : List TupleAt). In y e) (sym d.2) k) [
      | inl same ↦ subst (λ (z : TupleAt). In z (f z.input)) same (subst (λ (i : ℕ). In m.0 (f i)) (sym (own base m.0 m.1)) m.1)
      | inr t ↦ product-of f own (base + 1) n d.0 d.1 y t
    ]

pub product-some : (f : ℕ → List TupleAt) (base n i : ℕ) → base ≤ i → i < base + n → (c : List TupleAt) → In c (product (map f (upto_from base n))) → (x : TupleAt) × In x c × In x (f i)
product-some f base zero i le lt c h = absurd (omega (arith, le, lt))
product-some f base (suc n) i le lt c h =
    let m = In-flat_map (λ (z : TupleAt). map (λ d. z ∷ d) (product (map f (upto_from (base + 1) n)))) c (f base) h in
    let d = In-map (λ (d : List TupleAt). m.0 ∷ d) c (product (map f (upto_from (base + 1) n))) m.2 in
    go (eqb base i) refl m.0 m.1 d.0 d.2 (λ q. product-some f (base + 1) n i q (omega (arith, lt)) d.0 d.1)
  where
    go : (b : Bool) → eqb base i ≡ b → (x : TupleAt) → In x (f base) → (d : List TupleAt) → x ∷ d ≡ c → (base + 1 ≤ i → (z : TupleAt) × In z d × In z (f i)) → (z : TupleAt) × In z c × In z (f i)
    go true e x hx d same ih = (x, subst (λ (q : List TupleAt). In x q) same (inl refl), subst (λ k. In x (f k)) (eqb-true base i e) hx)
    go false e x hx d same ih =
        let ne : base ≡ i → ⊥ = λ q. false≢true (sym e ∙ eq-eqb base i q) in
        let r = ih (omega (arith, le, ne)) in
        (r.0, subst (λ (q : List TupleAt). In r.0 q) same (inr r.1), r.2)

-- ---- one input more

map-tickets : (ys : List Stored) → map ticket_in (pairs ys) ≡ tickets_of ys
map-tickets [] = refl
map-tickets (y ∷ ys) = ap (λ (ns : List ℕ). y.ticket ∷ ns) (map-tickets ys)

among-from : (i : ℕ) (ys : List Stored) (s : Stored) → In s ys → is_among (pairs ys) (tuple_at i (pair_of s)) ≡ true
among-from i ys s h = in-has (map ticket_in (pairs ys)) s.ticket (subst (λ (ns : List ℕ). In s.ticket ns) (sym (map-tickets ys)) (In-map_from ticket_of s ys h))

cut-by : (tickets : List ℕ) (i : ℕ) (xs : List Stored) → map (tuple_at i) (pairs (filter (has_ticket tickets) xs)) ≡ filter (is_among (pairs (filter (has_ticket tickets) xs))) (map (tuple_at i) (pairs xs))
cut-by tickets i xs =
    ap (λ (ys : List Stored). map (tuple_at i) (pairs ys)) (filter-agree (has_ticket tickets) (λ s. is_among found (tuple_at i (pair_of s))) xs same)
    ∙ sym (filter_map_swap (is_among found) (tuple_at i) (pairs xs) ∙ ap (map (tuple_at i)) (filter_map_swap (λ p. is_among found (tuple_at i p)) pair_of xs))
  where
    found : Pairs
    found = pairs (filter (has_ticket tickets) xs)

    same : (s : Stored) → In s xs → has_ticket tickets s ≡ is_among found (tuple_at i (pair_of s))
    same s h = go (has_ticket tickets s) refl
      where
        go : (b : Bool) → has_ticket tickets s ≡ b → b ≡ is_among found (tuple_at i (pair_of s))
        go true e = sym (among-from i (filter (has_ticket tickets) xs) s (In-filter_from (has_ticket tickets) s xs h e))
        go false e = sym (false_from_ne_true (is_among found (tuple_at i (pair_of s))) (λ t.
            let m = In-map ticket_of s.ticket (filter (has_ticket tickets) xs) (subst (λ (ns : List ℕ). In s.ticket ns) (map-tickets (filter (has_ticket tickets) xs)) (has-in (map ticket_in found) s.ticket t)) in
            let f = In-filter (has_ticket tickets) m.0 xs m.1 in
            false≢true (sym e ∙ ap (has tickets) (sym m.2) ∙ f.1)))

-- a tuple of an input that is older
pub older-row : (own : TupleAt) (row_states : List StateView) (k : ℕ) (y : TupleAt) → (k ≡ own.input → ⊥) → In y (older_at own row_states k) → (s : Stored) × In s (rows_below own.ticket (state_at row_states k).rows) × (tuple_at k (pair_of s) ≡ y)
older-row own row_states k y ne h =
    let p = In-map (tuple_at k) y (pairs (rows_below own.ticket (state_at row_states k).rows)) (subst (λ (ys : List TupleAt). In y ys) (older-others own row_states k ne) h) in
    let s = In-map pair_of p.0 (rows_below own.ticket (state_at row_states k).rows) p.1 in
    (s.0, s.1, ap (tuple_at k) s.2 ∙ p.2)

-- the rows that a link finds beside those of another input
hopped : (classes : List (List ClassCol)) (own : TupleAt) (row_states : List StateView) (input : ℕ) (link : ProbeLink) (rows found : Pairs) → IsChoice classes own row_states link.from_input rows → link.from_input < length row_states → (input ≡ own.input → ⊥)
    → InOneClass classes input link → AreLinked (state_at row_states input) link.index_column link.from_column rows own.ticket found → IsChoice classes own row_states input found
hopped classes own row_states input link rows found choice within ne class linked = record {
  cut = ap (map (tuple_at input)) linked.2 ∙ cut-by linked.0 input (rows_below own.ticket (state_at row_states input).rows)
      ∙ ap (λ (f : Pairs). filter (is_among f) (map (tuple_at input) (pairs (rows_below own.ticket (state_at row_states input).rows)))) (sym linked.2)
      ∙ ap (filter (is_among found)) (sym (older-others own row_states input ne));
  passes = pass;
}
  where
    mine : ℕ
    mine = link.index_column

    other : ℕ
    other = link.from_input

    theirs : ℕ
    theirs = link.from_column

    pass : (c : List TupleAt) → In c (product (all_older own row_states)) → agree classes c ≡ true → (y : TupleAt) → In y c → y.input ≡ input → is_among found y ≡ true
    pass c h a y hy yi =
        let x = product-some (older_at own row_states) 0 (length row_states) other (omega arith) (omega (arith, within)) c h in
        let xi : x.0.input ≡ other = older-input own row_states other x.0 x.2 in
        let r = In-map (tuple_at other) x.0 rows (subst (λ (ys : List TupleAt). In x.0 ys) (sym choice.cut) (In-filter_from (is_among rows) x.0 (older_at own row_states other) x.2 (choice.passes c h a x.0 x.1 xi))) in
        let s = older-row own row_states input y ne (subst (λ (k : ℕ). In y (older_at own row_states k)) yi (product-of (older_at own row_states) (older-input own row_states) 0 (length row_states) c h y hy)) in
        let f = In-filter (is_below own.ticket) s.0 (state_at row_states input).rows s.1 in
        let same : value_at y.row mine ≡ value_at x.0.row theirs =
        agree-at classes c class.0 (value_at y.row mine) (value_at x.0.row theirs) a class.1 (value-in c class.0 y (record { input = input; column = mine }) hy class.2 yi) (value-in c class.0 x.0 (record { input = other; column = theirs }) x.1 class.3 xi) in
        let told : In s.0.ticket linked.0 =
        linked.1 r.0 r.1 s.0 f.0 (ap (λ (z : TupleAt). value_at z.row mine) s.2 ∙ same ∙ ap (λ (z : TupleAt). value_at z.row theirs) (sym r.2)) in
        subst (λ (z : TupleAt). is_among found z ≡ true) s.2 (subst (λ (ps : Pairs). is_among ps (tuple_at input (pair_of s.0)) ≡ true) (sym linked.2)
        (among-from input (filter (has_ticket linked.0) (rows_below own.ticket (state_at row_states input).rows)) s.0
        (In-filter_from (has_ticket linked.0) s.0 (rows_below own.ticket (state_at row_states input).rows) s.1 (in-has linked.0 s.0.ticket told))))

-- all older rows
all_chosen : (classes : List (List ClassCol)) (own : TupleAt) (row_states : List StateView) (input : ℕ) (found : Pairs) → (input ≡ own.input → ⊥) → found ≡ pairs (rows_below own.ticket (state_at row_states input).rows) → IsChoice classes own row_states input found
all_chosen classes own row_states input found ne is = record {
  cut = ap (map (tuple_at input)) is ∙ sym (filter-all (is_among found) (map (tuple_at input) (pairs rows)) every) ∙ ap (filter (is_among found)) (sym (older-others own row_states input ne));
  passes = λ c h a y hy yi.
      let s = older-row own row_states input y ne (subst (λ (k : ℕ). In y (older_at own row_states k)) yi (product-of (older_at own row_states) (older-input own row_states) 0 (length row_states) c h y hy)) in
      subst (λ (z : TupleAt). is_among found z ≡ true) s.2 (it s.0 s.1);
}
  where
    rows : List Stored
    rows = rows_below own.ticket (state_at row_states input).rows

    it : (s : Stored) → In s rows → is_among found (tuple_at input (pair_of s)) ≡ true
    it s h = subst (λ (ps : Pairs). is_among ps (tuple_at input (pair_of s)) ≡ true) (sym is) (among-from input rows s h)

    every : (y : TupleAt) → In y (map (tuple_at input) (pairs rows)) → is_among found y ≡ true
    every y h =
        let p = In-map (tuple_at input) y (pairs rows) h in
        let s = In-map pair_of p.0 rows p.1 in
        subst (λ (z : TupleAt). is_among found z ≡ true) (ap (tuple_at input) s.2 ∙ p.2) (it s.0 s.1)

-- the tuple's own row
own-chosen : (classes : List (List ClassCol)) (own : TupleAt) (row_states : List StateView) (rows : Pairs) → map (tuple_at own.input) rows ≡ own ∷ [] → IsChoice classes own row_states own.input rows
own-chosen classes own row_states rows is = record {
  cut = is ∙ sym (ap (filter (is_among rows)) (older-own own row_states) ∙ ap (λ b. cond b (own ∷ []) []) among);
  passes = λ c h a y hy yi.
      let o = subst (λ (ys : List TupleAt). In y ys) (older-own own row_states) (subst (λ (k : ℕ). In y (older_at own row_states k)) yi (product-of (older_at own row_states) (older-input own row_states) 0 (length row_states) c h y hy)) in
      elim o [ inl same ↦ subst (λ (z : TupleAt). is_among rows z ≡ true) same among | inr n ↦ absurd n ];
}
  where
    tickets : (ps : Pairs) → map (λ (z : TupleAt). z.ticket) (map (tuple_at own.input) ps) ≡ map ticket_in ps
    tickets [] = refl
    tickets (p ∷ ps) = ap (λ (ns : List ℕ). p.0 ∷ ns) (tickets ps)

    among : is_among rows own ≡ true
    among = in-has (map ticket_in rows) own.ticket (subst (λ (ns : List ℕ). In own.ticket ns) (ap (map (λ (z : TupleAt). z.ticket)) (sym is) ∙ tickets rows) (inl refl))

-- ---- steps

pub set-length : {A : Type 0} (xs : List A) (i : ℕ) (v : A) → length (set xs i v) ≡ length xs
set-length [] i v = refl
set-length (x ∷ xs) zero v = refl
set-length (x ∷ xs) (suc i) v = ap suc (set-length xs i v)

end-there-or : {A : Type 0} (xs : List A) (v d : A) → get_or (xs ++ v ∷ []) (length xs) d ≡ v
end-there-or [] v d = refl
end-there-or (x ∷ xs) v d = end-there-or xs v d

pub begun_more : (own : TupleAt) (input : ℕ) (lists lists' : List Pairs) (b : Bool) (list : Pairs) → BeginsWith own input lists → b ≡ eqb input own.input → (b ≡ true → map (tuple_at own.input) list ≡ own ∷ [])
    → (b ≡ false → list ≡ []) → lists' ≡ lists ++ list ∷ [] → BeginsWith own (input + 1) lists'
begun_more own input lists lists' b list begun is it none f = record {
  lists_are = omega (arith, ap (λ (ls : List Pairs). length ls) f, length-append lists (list ∷ []), begun.lists_are);
  itself = λ lt. ap (λ (ls : List Pairs). map (tuple_at own.input) (get_or ls own.input [])) f ∙ here lt (eqb input own.input) refl;
  others = λ k lt ne. ap (λ (ls : List Pairs). get_or ls k []) f ∙ other k lt ne (eqb input k) refl;
}
  where
    other : (k : ℕ) → k < input + 1 → (k ≡ own.input → ⊥) → (c : Bool) → eqb input k ≡ c → get_or (lists ++ list ∷ []) k [] ≡ []
    other k lt ne true q =
        let apart : eqb input own.input ≡ false = false_from_ne_true (eqb input own.input) (λ t. ne (sym (eqb-true input k q) ∙ eqb-true input own.input t)) in
        ap (λ n. get_or (lists ++ list ∷ []) n []) (sym (eqb-true input k q) ∙ sym begun.lists_are) ∙ end-there-or lists list [] ∙ none (is ∙ apart)
    other k lt ne false q =
        let below : input ≡ k → ⊥ = λ s. false≢true (sym q ∙ eq-eqb input k s) in
        get_or_append_left lists (list ∷ []) [] k (omega (arith, lt, below, begun.lists_are)) ∙ begun.others k (omega (arith, lt, below)) ne

    here : own.input < input + 1 → (c : Bool) → eqb input own.input ≡ c → map (tuple_at own.input) (get_or (lists ++ list ∷ []) own.input []) ≡ own ∷ []
    here lt true q =
        ap (λ (ps : Pairs). map (tuple_at own.input) ps) (ap (λ k. get_or (lists ++ list ∷ []) k []) (sym (eqb-true input own.input q) ∙ sym begun.lists_are) ∙ end-there-or lists list []) ∙ it (is ∙ q)
    here lt false q =
        let ne : input ≡ own.input → ⊥ = λ s. false≢true (sym q ∙ eq-eqb input own.input s) in
        ap (λ (ps : Pairs). map (tuple_at own.input) ps) (get_or_append_left lists (list ∷ []) [] own.input (omega (arith, lt, ne, begun.lists_are))) ∙ begun.itself (omega (arith, lt, ne))

-- the tuple's own row was found
pub found_begin : (own : TupleAt) (row_states : List StateView) (steps : List ProbeStep) (lists : List Pairs) (count : ℕ) → steps ≡ [] → count ≡ length row_states → own.input < length row_states → BeginsWith own count lists → AreFound own row_states steps lists
found_begin own row_states steps lists count none e lt begun = subst (λ (ss : List ProbeStep). AreFound own row_states ss lists) (sym none) record {
  count = begun.lists_are ∙ e;
  within = λ k h. omega (arith, lt, eqb-true own.input k h);
  each = λ classes links k h.
      subst (λ (i : ℕ). IsChoice classes own row_states i (get_or lists i [])) (eqb-true own.input k h) (own-chosen classes own row_states (get_or lists own.input []) (begun.itself (omega (arith, lt, e))));
}

-- what a step finds is a choice of its input
step-found : (own : TupleAt) (row_states : List StateView) (steps : List ProbeStep) (step : ProbeStep) (lists : List Pairs) (rows : Pairs) → AreFound own row_states steps lists → IsStep (columns_of row_states) own.input steps step
    → AreStepped step.link (state_at row_states step.input) own.ticket lists rows → (classes : List (List ClassCol)) → AreInClasses classes (steps ++ step ∷ []) → IsChoice classes own row_states step.input rows
step-found own row_states steps step lists rows found is stepped classes links = go step.link stepped is.link (links step (In-append_right step steps (step ∷ []) (inl refl)))
  where
    ne : step.input ≡ own.input → ⊥
    ne e = false≢true (sym is.other ∙ ap (is_reached own.input steps) e ∙ own_reached own.input steps)

    go : (l : Option ProbeLink) → AreStepped l (state_at row_states step.input) own.ticket lists rows → IfSome l (LeadsTo (get_or (columns_of row_states) step.input []) own.input steps) → IfSome l (InOneClass classes step.input) → IsChoice classes own row_states step.input rows
    go None all lead class = all_chosen classes own row_states step.input rows ne all
    go (Some link) linked lead class =
        hopped classes own row_states step.input link (get_or lists link.from_input []) rows (found.each classes (λ s h. links s (In-append_left s steps (step ∷ []) h)) link.from_input lead.from) (found.within link.from_input lead.from) ne class linked

found-more : (own : TupleAt) (row_states : List StateView) (steps : List ProbeStep) (step : ProbeStep) (lists lists' : List Pairs) (rows : Pairs) → AreFound own row_states steps lists → step.input < length row_states
    → ((classes : List (List ClassCol)) → AreInClasses classes (steps ++ step ∷ []) → IsChoice classes own row_states step.input rows) → lists' ≡ set lists step.input rows → AreFound own row_states (steps ++ step ∷ []) lists'
found-more own row_states steps step lists lists' rows found lt choice f = record {
  count = ap (λ (ls : List Pairs). length ls) f ∙ set-length lists step.input rows ∙ found.count;
  within = λ k h. elim (reached_by own.input steps step k h) [ inl a ↦ found.within k a | inr e ↦ omega (arith, lt, e) ];
  each = λ classes links k h. at classes links k h (eqb k step.input) refl;
}
  where
    at : (classes : List (List ClassCol)) → AreInClasses classes (steps ++ step ∷ []) → (k : ℕ) → is_reached own.input (steps ++ step ∷ []) k ≡ true → (b : Bool) → eqb k step.input ≡ b → IsChoice classes own row_states k (get_or lists' k [])
    at classes links k h true q =
        let same : k ≡ step.input = eqb-true k step.input q in
        let there : get_or lists' k [] ≡ rows = ap₂ (λ (ls : List Pairs) i. get_or ls i []) f same ∙ get_or-set_same lists step.input rows [] (omega (arith, lt, found.count)) in
        subst (λ (ps : Pairs). IsChoice classes own row_states k ps) (sym there) (subst (λ (i : ℕ). IsChoice classes own row_states i rows) (sym same) (choice classes links))
    at classes links k h false q =
        let ne : k ≡ step.input → ⊥ = λ s. false≢true (sym q ∙ eq-eqb k step.input s) in
        let before : is_reached own.input steps k ≡ true = elim (reached_by own.input steps step k h) [ inl a ↦ a | inr e ↦ absurd (ne (sym e)) ] in
        subst (λ (ps : Pairs). IsChoice classes own row_states k ps) (sym (ap (λ (ls : List Pairs). get_or ls k []) f ∙ get_or-set_other lists step.input k rows [] ne))
        (found.each classes (λ s m. links s (In-append_left s steps (step ∷ []) m)) k before)

-- a step of a route goes on from what was found
pub route_step : (own : TupleAt) (row_states : List StateView) (steps : List ProbeStep) (i : ℕ) (step : ProbeStep) (below : ℕ) (lists lists' : List Pairs) (rows : Pairs) → IsRoute (columns_of row_states) own.input steps → slice_get steps i ≡ Some step
    → AreFound own row_states (take i steps) lists → below ≡ own.ticket → AreStepped step.link (state_at row_states step.input) below lists rows → lists' ≡ set lists step.input rows → AreFound own row_states (take (i + 1) steps) lists'
route_step own row_states steps i step below lists lists' rows route at found b stepped f =
    subst (λ (ss : List ProbeStep). AreFound own row_states ss lists') (sym (steps_with steps i step at))
    (found-more own row_states (take i steps) step lists lists' rows found (step_there own.input row_states steps i step route at)
    (step-found own row_states (take i steps) step lists rows found (route.ordered i step at) (subst (λ (n : ℕ). AreStepped step.link (state_at row_states step.input) n lists rows) b stepped)) f)

-- ---- all that joins is found

sides-get : (base : ℕ) (lists : List Pairs) (k : ℕ) → k < length lists → get_or (sides_at base lists) k [] ≡ map (tuple_at (base + k)) (get_or lists k [])
sides-get base [] k lt = absurd (omega (arith, lt))
sides-get base (x ∷ xs) zero lt = ap (λ n. map (tuple_at n) x) (omega arith)
sides-get base (x ∷ xs) (suc k) lt = sides-get (base + 1) xs k (omega (arith, lt)) ∙ ap (λ n. map (tuple_at n) (get_or xs k [])) (omega arith)

-- the combinations of older tuples that join are all results
pub older-finds : (classes : List (List ClassCol)) (own : TupleAt) (row_states : List StateView) → own.input < length row_states → filter (agree classes) (product (all_older own row_states)) ≡ filter (agree classes) (product (choices classes own (tuples_in 0 row_states)))
older-finds classes own row_states lt = narrowed-finds classes own (tuples_in 0 row_states) (all_older own row_states) narrowed (omega (arith, lt, tuples-length 0 row_states))
  where
    narrowed : AreNarrowed classes own (tuples_in 0 row_states) (all_older own row_states)
    narrowed = record {
      count = length-map (upto_from 0 (length row_states)) (older_at own row_states) ∙ length-upto 0 (length row_states) ∙ sym (tuples-length 0 row_states);
      each = λ k l. subst (λ (ys : List TupleAt). IsNarrowed classes own (tuples_in 0 row_states) k ys) (sym (at k l)) (of k (bound k l) (eqb k own.input) refl);
    }
      where
        bound : (k : ℕ) → k < length (all_older own row_states) → k < length row_states
        bound k l = omega (arith, l, length-map (upto_from 0 (length row_states)) (older_at own row_states), length-upto 0 (length row_states))

        at : (k : ℕ) → k < length (all_older own row_states) → get_or (all_older own row_states) k [] ≡ older_at own row_states k
        at k l = get_or-upto (older_at own row_states) 0 (length row_states) k [] (bound k l) ∙ ap (older_at own row_states) (omega arith)

        of : (k : ℕ) → k < length row_states → (b : Bool) → eqb k own.input ≡ b → IsNarrowed classes own (tuples_in 0 row_states) k (older_at own row_states k)
        of k l true q = let same : k ≡ own.input = eqb-true k own.input q in record {
          alone = λ e. ap (λ i. older_at own row_states i) e ∙ older-own own row_states;
          among = ap (λ i. filter (may_join classes own) (older_at own row_states i)) same ∙ ap (filter (may_join classes own)) (older-own own row_states)
              ∙ ap (λ b. cond (b || agrees_with classes (own ∷ []) own) (own ∷ []) []) (eq-eqb own.input own.input refl)
              ∙ sym (ap (λ b. cond b (own ∷ []) (filter (older_joins classes own) (get_or (tuples_in 0 row_states) k []))) q);
        }
        of k l false q =
            let ne : k ≡ own.input → ⊥ = λ s. false≢true (sym q ∙ eq-eqb k own.input s) in
            subst (λ (ys : List TupleAt). IsNarrowed classes own (tuples_in 0 row_states) k ys) (sym (older-others own row_states k ne))
            (narrowed_choice classes own (tuples_in 0 row_states) k (pairs (rows_below own.ticket (state_at row_states k).rows)) (map (tuple_in k) (state_at row_states k).rows) ne (side_at row_states k (state_at row_states k) l (same-at row_states k no_state (state_at row_states k) l))
            (all_hold classes own (state_at row_states k).rows (pairs (rows_below own.ticket (state_at row_states k).rows)) k refl))

-- where the rows of each input were found a probe finds the same over them
pub all_found : (own : TupleAt) (row_states : List StateView) (steps : List ProbeStep) (lists found : List Pairs) (i : ℕ) → AreFound own row_states (take i steps) lists → length steps ≤ i → IsRoute (columns_of row_states) own.input steps → own.input < length row_states → found ≡ lists
    → FindAll own row_states steps found
all_found own row_states steps lists found i are le route lt is classes links =
    ap (λ (ls : List Pairs). filter (agree classes) (product (sides_at 0 ls))) is
    ∙ ap (λ (ls : List (List TupleAt)). filter (agree classes) (product ls)) cut-sides
    ∙ ap (filter (agree classes)) (product-filter keep (all_older own row_states))
    ∙ filter-filter (list_all keep) (agree classes) (product (all_older own row_states))
    ∙ filter-agree (λ c. list_all keep c && agree classes c) (agree classes) (product (all_older own row_states)) passing
    ∙ older-finds classes own row_states lt
  where
    keep : TupleAt → Bool
    keep y = is_among (get_or lists y.input []) y

    chosen : (k : ℕ) → k < length row_states → IsChoice classes own row_states k (get_or lists k [])
    chosen k l =
        let whole : AreFound own row_states steps lists = subst (λ (ss : List ProbeStep). AreFound own row_states ss lists) (take_all i steps le) are in
        whole.each classes links k (route.all k (omega (arith, l, length-map row_states (λ (s : StateView). s.columns))))

    minus-none : (k : ℕ) → k - 0 ≡ k
    minus-none k = omega arith

    one : (k : ℕ) → k < 0 + length row_states → get_or (sides_at 0 lists) (k - 0) [] ≡ filter keep (older_at own row_states k)
    one k l =
        let within : k < length row_states = omega (arith, l) in
        ap (λ i. get_or (sides_at 0 lists) i []) (minus-none k)
        ∙ sides-get 0 lists k (omega (arith, within, are.count))
        ∙ ap (λ n. map (tuple_at n) (get_or lists k [])) (omega arith)
        ∙ (chosen k within).cut
        ∙ filter-agree (is_among (get_or lists k [])) keep (older_at own row_states k) (λ y h. ap (λ i. is_among (get_or lists i []) y) (sym (older-input own row_states k y h)))

    cut-sides : sides_at 0 lists ≡ map (filter keep) (all_older own row_states)
    cut-sides =
        as-upto [] 0 (sides_at 0 lists)
        ∙ ap (λ n. map (λ k. get_or (sides_at 0 lists) (k - 0) []) (upto_from 0 n)) (sides-length 0 lists ∙ are.count)
        ∙ map-upto (λ k. get_or (sides_at 0 lists) (k - 0) []) (λ k. filter keep (older_at own row_states k)) 0 (length row_states) one
        ∙ sym (map-map_upto (filter keep) (older_at own row_states) 0 (length row_states))

    passing : (c : List TupleAt) → In c (product (all_older own row_states)) → (list_all keep c && agree classes c) ≡ agree classes c
    passing c h = go (agree classes c) refl
      where
        every : agree classes c ≡ true → list_all keep c ≡ true
        every a = all_from keep c (λ y hy.
            let there = product-of (older_at own row_states) (older-input own row_states) 0 (length row_states) c h y hy in
            let within : y.input < length row_states = input-below y there in
            (chosen y.input within).passes c h a y hy refl)
          where
            input-below : (y : TupleAt) → In y (older_at own row_states y.input) → y.input < length row_states
            input-below y k = below (eqb y.input own.input) refl k
              where
                below : (b : Bool) → eqb y.input own.input ≡ b → In y (cond b (own ∷ []) (map (tuple_at y.input) (pairs (rows_below own.ticket (state_at row_states y.input).rows)))) → y.input < length row_states
                below true q m = let e : y.input ≡ own.input = eqb-true y.input own.input q in omega (arith, e, lt)
                below false q m = elim (cases_lt y.input (length row_states)) [
                  | inl l ↦ l
                  | inr ge ↦
                      let none : (state_at row_states y.input).rows ≡ [] = ap (λ (s : StateView). s.rows) (get_or_past row_states y.input no_state ge) in
                      absurd (subst (λ (rs : List Stored). In y (map (tuple_at y.input) (pairs (rows_below own.ticket rs)))) none m)
                ]

        go : (b : Bool) → agree classes c ≡ b → (list_all keep c && b) ≡ b
        go true a = ap (λ t. t && true) (every a)
        go false a = none (list_all keep c)
          where
            none : (t : Bool) → (t && false) ≡ false
            none true = refl
            none false = refl

-- a step's link leads from rows that were found, to a column of which an index is kept
pub step_link : (own : TupleAt) (row_states : List StateView) (steps : List ProbeStep) (i : ℕ) (step : ProbeStep) (lists : List Pairs) → IsRoute (columns_of row_states) own.input steps → slice_get steps i ≡ Some step
    → AreFound own row_states (take i steps) lists → IfSome step.link (λ link. (link.from_input < length lists) × In link.index_column (state_at row_states step.input).columns)
step_link own row_states steps i step lists route at found = go step.link (route.ordered i step at).link
  where
    go : (l : Option ProbeLink) → IfSome l (LeadsTo (get_or (columns_of row_states) step.input []) own.input (take i steps)) → IfSome l (λ link. (link.from_input < length lists) × In link.index_column (state_at row_states step.input).columns)
    go None lead = tt
    go (Some link) lead =
        let within : link.from_input < length row_states = found.within link.from_input lead.from in (
          omega (arith, within, found.count),
          subst (λ (cs : List ℕ). In link.index_column cs) (columns_at row_states step.input no_state (step_there own.input row_states steps i step route at)) lead.indexed,
        )
