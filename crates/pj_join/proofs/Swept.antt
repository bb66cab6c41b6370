-- What a sweep finds over the rows of its input, and what it leaves.
use Rattle.std.proofs.Common.{ℕ, ◌+◌, ◌-◌, ◌<◌, ◌≤◌, Bool, true, false, cond, not, ◌&&◌, ◌||◌, List, [], ◌∷◌, ◌++◌, ◌≡◌, map, filter, drop, length, get_or, set, refl, sym, ap, ap₂, ◌∙◌, subst, inl, inr, eqb, arith}
use Rattle.std.specs.List.{list_any}
use Rattle.std.proofs.lemmas.Bool.{eq-eqb, eqb-true}
use Rattle.std.proofs.lemmas.List.{length-map}
use Rattle.pj_state.specs.declared.shared.Stored.{Stored}
use Rattle.pj_state.specs.States.{StateView, state_of}
use Rattle.pj_puncts.specs.Stores.{Store}
use Rattle.pj_events.specs.Patterns.{Pattern, matches_row}
use Rattle.pj_events.specs.Join.{CertStep, In, JoinData, JoinSpec, PunctAt, Sweep, TupleAt, Value, arities, has, inputs, is_held, of_input, steps_of, widened}
use Rattle.pj_events.specs.KeptState.{kept_low, kept_ripe, swept}
use Rattle.pj_value.proofs.Members.{In-filter, In-map_from, filter-agree, filter-filter, filter_map_swap}
use Rattle.pj_join.specs.declared.place.Place.{Place}
use Rattle.pj_join.specs.Joins.{JoinView, after}
use Rattle.pj_join.specs.Insides.{IsJoin, IsOrdered, Rise, inside, lowest, made_with, seen, tickets}
use Rattle.pj_recheck.specs.Judging.{JudgeView, ripe_at, ripe_rows, ripe_tickets}
use Rattle.pj_join.specs.Sweeping.{is_let_go, rows_without, waiting_on, puncts_up, rows_off, swept_off}
use Rattle.pj_waiting.specs.Letting.{letting_go, lets_go}
use Rattle.pj_join.specs.Sides.{IsShaped, log_of, merged, place_of, puncts_of, ticket_at}
use Rattle.pj_waiting.specs.Holding.{held_at, tickets_where}
use Rattle.pj_rows.specs.Tuples.{state_at, tuple_in, tuples_in}
use Rattle.pj_rows.specs.Finding.{stays, still_held}
use Rattle.pj_join.proofs.Classes.{eqb-below}
use Rattle.pj_join.proofs.Judged.{filter-swap, judge_at, ripe-is}
use Rattle.pj_join.proofs.Kept.{shaped-at, shaped-set, side-is, tuples-set}
use Rattle.pj_join.proofs.Merging.{merged-is}
use Rattle.pj_join.proofs.Orders.{rise-has, rise-in}
use Rattle.pj_join.proofs.SweptLists.{count_gone, rise-filter, still_pending, swept_ordered, swept_view, gone_taken}

-- ---- lists

map-map : {A B C : Type 0} (g : B → C) (f : A → B) (xs : List A) → map g (map f xs) ≡ map (λ x. g (f x)) xs
map-map g f [] = refl
map-map {A} {B} {C} g f (x ∷ xs) = ap (λ (ys : List C). g (f x) ∷ ys) (map-map g f xs)

any-filter : {A : Type 0} (q m : A → Bool) (xs : List A) → list_any (λ x. q x && m x) xs ≡ list_any m (filter q xs)
any-filter q m [] = refl
any-filter q m (x ∷ xs) = go (q x) (any-filter q m xs)
  where
    go : (b : Bool) → list_any (λ y. q y && m y) xs ≡ list_any m (filter q xs) → ((b && m x) || list_any (λ y. q y && m y) xs) ≡ list_any m (cond b (x ∷ filter q xs) (filter q xs))
    go true ih = ap (λ b. m x || b) ih
    go false ih = ih

any-map : {A B : Type 0} (m : B → Bool) (f : A → B) (xs : List A) → list_any m (map f xs) ≡ list_any (λ x. m (f x)) xs
any-map m f [] = refl
any-map m f (x ∷ xs) = ap (λ b. m (f x) || b) (any-map m f xs)

any-same : {A : Type 0} (p q : A → Bool) (xs : List A) → ((x : A) → p x ≡ q x) → list_any p xs ≡ list_any q xs
any-same p q [] same = refl
any-same p q (x ∷ xs) same = ap₂ (λ a b. a || b) (same x) (any-same p q xs same)

and-turned : (a b : Bool) → (a && b) ≡ (b && a)
and-turned true true = refl
and-turned true false = refl
and-turned false true = refl
and-turned false false = refl

-- a tuple's ticket is among those of the tuples that pass exactly where it passes
gone-has : (from : ℕ) (p : TupleAt → Bool) (xs : List TupleAt) (end : ℕ) → Rise from (tickets xs) end → (x : TupleAt) → In x xs → has (tickets (filter p xs)) x.ticket ≡ p x
gone-has from p [] end r x h = absurd h
gone-has from p (y ∷ ys) end r x (inl e) = subst (λ (z : TupleAt). has (tickets (filter p (y ∷ ys))) z.ticket ≡ p z) e (go (p y))
  where
    go : (b : Bool) → has (tickets (cond b (y ∷ filter p ys) (filter p ys))) y.ticket ≡ b
    go true = ap (λ b. b || has (tickets (filter p ys)) y.ticket) (eq-eqb y.ticket y.ticket refl)
    go false = rise-has (y.ticket + 1) (tickets (filter p ys)) end y.ticket (rise-filter (y.ticket + 1) p ys end r.1) (omega arith)
gone-has from p (y ∷ ys) end r x (inr h) = go (p y) (gone-has (y.ticket + 1) p ys end r.1 x h)
  where
    above : y.ticket < x.ticket
    above = let l = rise-in (y.ticket + 1) (tickets ys) end x.ticket r.1 (In-map_from (λ (z : TupleAt). z.ticket) x ys h) in omega (arith, l)

    go : (b : Bool) → has (tickets (filter p ys)) x.ticket ≡ p x → has (tickets (cond b (y ∷ filter p ys) (filter p ys))) x.ticket ≡ p x
    go true ih = ap (λ b. b || has (tickets (filter p ys)) x.ticket) (eqb-below y.ticket x.ticket above) ∙ ih
    go false ih = ih

-- ---- one sweep

module _ (node : ℕ) (spec : JoinData) (limit next done : ℕ) (row_states : List StateView) (punct_stores : List Store) (pending : List Place) (taken : List ℕ) (waiting : List PunctAt) (input : ℕ) (j : IsJoin spec limit (inside next done row_states punct_stores pending taken)) (lt : input < inputs spec) where
  abbrev log : List TupleAt
  log = log_of row_states

  abbrev join : JoinView
  join = seen (made_with node spec limit) next done log (puncts_of punct_stores) waiting taken

  abbrev rows : List Stored
  rows = (state_at row_states input).rows

  abbrev judge-of : ℕ → JudgeView
  judge-of low = judge_at spec input row_states punct_stores low

  abbrev goes : TupleAt → Bool
  goes x = eqb x.input input && kept_ripe spec join.kept x

  side : map (tuple_in input) rows ≡ of_input input log
  side = side-is spec limit next done row_states punct_stores pending taken j input lt

  -- the ripe rows are the tuples that the sweep removes
  ripe-are : (low : ℕ) → low ≡ kept_low join.kept → map (tuple_in input) (filter (ripe_at (judge-of low)) rows) ≡ swept_off join input
  ripe-are low is =
      ap (map (tuple_in input)) (filter-agree (ripe_at (judge-of low)) (λ s. kept_ripe spec join.kept (tuple_in input s)) rows (λ s h. ripe-is spec limit next done row_states punct_stores pending taken j join.kept refl refl low is input s))
      ∙ sym (filter_map_swap (kept_ripe spec join.kept) (tuple_in input) rows)
      ∙ ap (filter (kept_ripe spec join.kept)) side
      ∙ filter-filter (λ (x : TupleAt). eqb x.input input) (kept_ripe spec join.kept) log

  pub gone-are : (low : ℕ) (gone : List ℕ) → low ≡ kept_low join.kept → gone ≡ ripe_tickets (judge-of low) → gone ≡ tickets (swept_off join input)
  gone-are low gone is e = e ∙ sym (map-map (λ (x : TupleAt). x.ticket) (tuple_in input) (filter (ripe_at (judge-of low)) rows)) ∙ ap tickets (ripe-are low is)

  pub rows-are : (low : ℕ) (old new : List (List Value)) → low ≡ kept_low join.kept → new ≡ old ++ ripe_rows (judge-of low) → new ≡ old ++ rows_off join input
  rows-are low old new is e =
      e ∙ ap (λ (more : List (List Value)). old ++ more)
      (sym (map-map (λ (x : TupleAt). x.row) (tuple_in input) (filter (ripe_at (judge-of low)) rows)) ∙ ap (map (λ (x : TupleAt). x.row)) (ripe-are low is))

  module _ (gone : List ℕ) (are : gone ≡ tickets (swept_off join input)) where
    pub has-is : (x : TupleAt) → In x log → has gone x.ticket ≡ goes x
    has-is x h = ap (λ ts. has ts x.ticket) are ∙ gone-has 0 goes log next j.ordered.rising x h

    -- the rows that are left are the input's tuples that the sweep leaves
    pub left-are : map (tuple_in input) (rows_without gone rows) ≡ of_input input (swept spec join.kept input)
    left-are =
        sym (filter_map_swap (λ (x : TupleAt). not (has gone x.ticket)) (tuple_in input) rows)
        ∙ ap (filter (λ (x : TupleAt). not (has gone x.ticket))) side
        ∙ filter-agree (λ (x : TupleAt). not (has gone x.ticket)) (λ x. not (goes x)) (of_input input log) (λ x h. ap not (has-is x (In-filter (λ (y : TupleAt). eqb y.input input) x log h).0))
        ∙ filter-swap (λ x. not (goes x)) (λ (x : TupleAt). eqb x.input input) log

    held-is : (p : PunctAt) → p.input ≡ input → still_held rows gone p.patterns ≡ is_held (swept spec join.kept input) p
    held-is p of =
        any-same (stays gone p.patterns) (λ s. not (has gone s.ticket) && matches_row p.patterns s.row) rows (λ s. and-turned (matches_row p.patterns s.row) (not (has gone s.ticket)))
        ∙ any-filter (λ (s : Stored). not (has gone s.ticket)) (λ s. matches_row p.patterns s.row) rows
        ∙ sym (any-map (λ (x : TupleAt). matches_row p.patterns x.row) (tuple_in input) (rows_without gone rows))
        ∙ ap (list_any (λ (x : TupleAt). matches_row p.patterns x.row)) left-are
        ∙ sym (any-filter (λ (x : TupleAt). eqb x.input input) (λ x. matches_row p.patterns x.row) (swept spec join.kept input))
        ∙ ap (λ n. list_any (λ (x : TupleAt). eqb x.input n && matches_row p.patterns x.row) (swept spec join.kept input)) (sym of)

    lets-go-is : (p : PunctAt) → lets_go rows gone input p ≡ is_let_go (swept spec join.kept input) input p
    lets-go-is p = go (eqb p.input input) refl
      where
        go : (b : Bool) → eqb p.input input ≡ b → (b && not (still_held rows gone p.patterns)) ≡ (b && not (is_held (swept spec join.kept input) p))
        go true e = ap not (held-is p (eqb-true p.input input e))
        go false e = refl

    pub goes-are : (up : List ℕ) → up ≡ tickets_where (lets_go rows gone input) waiting → up ≡ tickets_where (is_let_go (swept spec join.kept input) input) waiting
    goes-are up e = e ∙ ap (map held_at) (filter-agree (lets_go rows gone input) (is_let_go (swept spec join.kept input) input) waiting (λ p h. lets-go-is p))

    pub going-are : (old new : List (List Pattern)) → new ≡ old ++ letting_go spec.shape.inputs rows gone input waiting → new ≡ old ++ puncts_up join (Sweep input)
    going-are old new e = e ∙ ap (λ (ps : List PunctAt). old ++ map (widened spec) ps) (filter-agree (lets_go rows gone input) (is_let_go (swept spec join.kept input) input) waiting (λ p h. lets-go-is p))

    -- ---- what is left

    count-is : length gone ≡ length log - length (swept spec join.kept input)
    count-is = ap (λ ts. length ts) are ∙ length-map (swept_off join input) (λ (x : TupleAt). x.ticket) ∙ sym (count_gone join input (swept spec join.kept input) refl)

    pub few-gone : length gone ≤ done
    few-gone = let f = gone_taken node spec limit next done log (tuples_in 0 row_states) (puncts_of punct_stores) waiting taken input (swept spec join.kept input) j.ordered refl in omega (arith, f, count-is)

    module _ (old new : StateView) (is : old ≡ state_at row_states input) (left : new ≡ state_of old.columns (rows_without gone old.rows)) where
      new-rows : map (tuple_in input) new.rows ≡ of_input input (swept spec join.kept input)
      new-rows = ap (λ (s : StateView). map (tuple_in input) s.rows) (left ∙ ap (λ (s : StateView). state_of s.columns (rows_without gone s.rows)) is) ∙ left-are

      sides-left : tuples_in 0 (set row_states input new) ≡ set (tuples_in 0 row_states) input (map (tuple_in input) new.rows)
      sides-left = tuples-set 0 row_states input new ∙ ap (λ n. set (tuples_in 0 row_states) input (map (tuple_in n) new.rows)) (zero-plus input)
        where
          zero-plus : (n : ℕ) → 0 + n ≡ n
          zero-plus n = omega arith

      ordered-left : IsOrdered spec limit next (done - length gone) (swept spec join.kept input) (set (tuples_in 0 row_states) input (map (tuple_in input) new.rows)) taken
      ordered-left =
          subst (λ n. IsOrdered spec limit next (done - n) (swept spec join.kept input) (set (tuples_in 0 row_states) input (map (tuple_in input) new.rows)) taken) (sym count-is)
          (swept_ordered node spec limit next done log (tuples_in 0 row_states) (puncts_of punct_stores) waiting taken input (swept spec join.kept input) j.ordered refl lt (map (tuple_in input) new.rows) new-rows)

      pub log-left : log_of (set row_states input new) ≡ swept spec join.kept input
      log-left =
          ap (merged ticket_at) (sides-left ∙ ordered-left.by_input)
          ∙ merged-is ticket_at (λ (x : TupleAt). x.input) (length spec.shape.inputs) (swept spec join.kept input) next ordered-left.rising ordered-left.placed

      pub join-swept : IsJoin spec limit (inside next (done - length gone) (set row_states input new) punct_stores pending taken)
      join-swept = record {
        ordered =
            subst (λ (xs : List TupleAt). IsOrdered spec limit next (done - length gone) xs (tuples_in 0 (set row_states input new)) taken) (sym log-left)
            (subst (λ (ss : List (List TupleAt)). IsOrdered spec limit next (done - length gone) (swept spec join.kept input) ss taken) (sym sides-left) ordered-left);
        shaped = shaped-set (arities spec) row_states input new j.shaped lt shaped-new;
        heard = j.heard;
        queued =
            j.queued
            ∙ sym (ap (λ (xs : List TupleAt). map place_of (drop (done - length gone) xs)) log-left ∙ ap (λ n. map place_of (drop (done - n) (swept spec join.kept input))) count-is
            ∙ ap (map place_of) (still_pending node spec limit next done log (tuples_in 0 row_states) (puncts_of punct_stores) waiting taken input (swept spec join.kept input) j.ordered refl));
      }
        where
          shape : IsShaped (get_or (arities spec) input 0) (state_at row_states input)
          shape = shaped-at (arities spec) row_states input j.shaped lt

          shaped-new : IsShaped (get_or (arities spec) input 0) new
          shaped-new =
              subst (λ (s : StateView). IsShaped (get_or (arities spec) input 0) s) (sym (left ∙ ap (λ (s : StateView). state_of s.columns (rows_without gone s.rows)) is))
              (record { indexed = shape.indexed; fit = λ s h. shape.fit s (In-filter (λ (t : Stored). not (has gone t.ticket)) s rows h).0 })

      pub view-left : (on : List PunctAt) → on ≡ waiting_on (swept spec join.kept input) input waiting
          → seen (made_with node spec limit) next (done - length gone) (log_of (set row_states input new)) (puncts_of punct_stores) on taken ≡ after join (Sweep input)
      view-left on w =
          ap₂ (λ n (xs : List TupleAt). seen (made_with node spec limit) next (done - n) xs (puncts_of punct_stores) on taken) count-is log-left
          ∙ swept_view node spec limit next done log (tuples_in 0 row_states) (puncts_of punct_stores) waiting taken input (swept spec join.kept input) j.ordered refl on w

      -- the low-water ticket stays
      pub lowest-left : lowest next (done - length gone) (log_of (set row_states input new)) taken ≡ lowest next done log taken
      lowest-left = ap (λ (v : JoinView). kept_low v.kept) (view-left (waiting_on (swept spec join.kept input) input waiting) refl)

-- whether a row matches, before any goes
pub held-at-first : (spec : JoinData) (limit next done : ℕ) (row_states : List StateView) (punct_stores : List Store) (pending : List Place) (taken : List ℕ) → IsJoin spec limit (inside next done row_states punct_stores pending taken)
    → (state : StateView) (p : PunctAt) → p.input < inputs spec → state ≡ state_at row_states p.input → still_held state.rows [] p.patterns ≡ is_held (log_of row_states) p
held-at-first spec limit next done row_states punct_stores pending taken j state p lt is =
    any-same (stays [] p.patterns) (λ s. matches_row p.patterns s.row) state.rows (λ s. and-turned (matches_row p.patterns s.row) true)
    ∙ ap (λ (s : StateView). list_any (λ (t : Stored). matches_row p.patterns t.row) s.rows) is
    ∙ sym (any-map (λ (x : TupleAt). matches_row p.patterns x.row) (tuple_in p.input) (state_at row_states p.input).rows)
    ∙ ap (list_any (λ (x : TupleAt). matches_row p.patterns x.row)) (side-is spec limit next done row_states punct_stores pending taken j p.input lt)
    ∙ sym (any-filter (λ (x : TupleAt). eqb x.input p.input) (λ x. matches_row p.patterns x.row) (log_of row_states))

-- ---- the same, of what a call is lent

pub same-judge : (spec : JoinData) (input low : ℕ) (shape : JoinSpec) (cert : List CertStep) (row_states row_states' : List StateView) (punct_stores punct_stores' : List Store) → shape ≡ spec.shape → cert ≡ steps_of spec input → row_states ≡ row_states' → punct_stores ≡ punct_stores'
    → record { spec = shape; schemes = spec.schemes; cert = cert; input = input; row_states = row_states; punct_stores = punct_stores; low = low } ≡ judge_at spec input row_states' punct_stores' low
same-judge spec input low shape cert row_states row_states' punct_stores punct_stores' a b c d = λ i. record { spec = a i; schemes = spec.schemes; cert = b i; input = input; row_states = c i; punct_stores = d i; low = low }
