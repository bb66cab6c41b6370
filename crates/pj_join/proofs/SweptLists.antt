-- The inside of a join that is swept.
use Rattle.std.proofs.Common.{ℕ, zero, suc, ◌+◌, ◌-◌, ◌<◌, ◌≤◌, ◌≢◌, Bool, true, false, cond, ◌&&◌, not, List, [], ◌∷◌, ◌++◌, ◌≡◌, map, filter, take, drop, length, set, refl, sym, ap, ap₂, ◌∙◌, subst, inl, inr, eqb, ltb, arith}
use Rattle.std.proofs.Math.Seq.{drop-append_seam}
use Rattle.std.proofs.lemmas.Bool.{eqb-true, and_parts, ltb-true, false_from_ne_true}
use Rattle.std.proofs.lemmas.List.{take-append-drop, length-append, length-take-le, length-map}
use Rattle.std.proofs.lemmas.List.Elements.{filter-append}
use Rattle.std.proofs.lemmas.List.Filters.{length-filter_both}
use Rattle.pj_shape.specs.declared.columns.Column.{Column}
use Rattle.pj_events.specs.Join.{In, JoinData, TupleAt, PunctAt, Sweep, inputs, of_input, upto_from}
use Rattle.pj_events.specs.KeptState.{KeptState, kept_low, kept_ripe, least, swept}
use Rattle.pj_value.proofs.Members.{In-append_right, In-filter, In-map_from, filter-all, filter-agree, filter-filter}
use Rattle.pj_join.specs.Joins.{JoinView, after}
use Rattle.pj_join.specs.Sweeping.{swept_off, waiting_on}
use Rattle.pj_join.specs.Insides.{IsOrdered, Rise, made_with, seen, tickets}
use Rattle.pj_join.proofs.Orders.{rise-lower}

-- the number of those that go
pub gone_count : {A : Type 0} (p : A → Bool) (xs stay : List A) → stay ≡ filter (λ x. not (p x)) xs → length xs - length stay ≡ length (filter p xs)
gone_count {A} p xs stay e =
    let l : length stay ≡ length (filter (λ x. not (p x)) xs) = ap (λ (ys : List A). length ys) e in
    omega (arith, l, length-filter_both p (λ x. not (p x)) (λ x. refl) xs)

least-in : (next : ℕ) (ts : List ℕ) (t : ℕ) → In t ts → least next ts ≤ t
least-in next [] t h = absurd h
least-in next (u ∷ ts) t (inl e) = omega (arith, e)
least-in next (u ∷ ts) t (inr h) = omega (arith, least-in next ts t h)

-- what goes is given, and so none that goes is pending
none-pending : (next done : ℕ) (log : List TupleAt) (taken : List ℕ) (p : TupleAt → Bool) → ((x : TupleAt) → p x ≡ true → x.ticket < least next (taken ++ tickets (drop done log)))
    → (x : TupleAt) → In x (drop done log) → not (p x) ≡ true
none-pending next done log taken p below x h = ap not (false_from_ne_true (p x) (λ t.
    let lt = below x t in
    let le = least-in next (taken ++ tickets (drop done log)) x.ticket (In-append_right x.ticket taken (tickets (drop done log)) (In-map_from (λ (y : TupleAt). y.ticket) x (drop done log) h)) in
    omega (arith, lt, le)))

record IsSplit (done : ℕ) (log stay : List TupleAt) : Type 0 where
  place : ℕ
  is_place : done - (length log - length stay) ≡ place
  within : place ≤ length stay
  few : length log - length stay ≤ done
  pending : drop place stay ≡ drop done log

split : (done : ℕ) (log stay : List TupleAt) (q : TupleAt → Bool) → done ≤ length log → stay ≡ filter q log → ((x : TupleAt) → In x (drop done log) → q x ≡ true) → IsSplit done log stay
split done log stay q le e all = record {
  place = length (filter q (take done log));
  is_place = omega (arith, count, front, few, whole);
  within = omega (arith, count);
  few = omega (arith, count, front, whole);
  pending = ap (drop (length (filter q (take done log)))) parts ∙ drop-append_seam (filter q (take done log)) (drop done log);
}
  where
    parts : stay ≡ filter q (take done log) ++ drop done log
    parts =
        e ∙ ap (filter q) (sym (take-append-drop done log))
        ∙ filter-append q (take done log) (drop done log)
        ∙ ap (λ (xs : List TupleAt). filter q (take done log) ++ xs) (filter-all q (drop done log) all)

    count : length stay ≡ length (filter q (take done log)) + length (drop done log)
    count = ap (λ (xs : List TupleAt). length xs) parts ∙ length-append (filter q (take done log)) (drop done log)

    front : length (take done log) ≡ done
    front = length-take-le done log le

    few : length (filter q (take done log)) ≤ length (take done log)
    few = omega (arith, length-filter_both q (λ x. not (q x)) (λ x. refl) (take done log))

    whole : length log ≡ length (take done log) + length (drop done log)
    whole = ap (λ (xs : List TupleAt). length xs) (sym (take-append-drop done log)) ∙ length-append (take done log) (drop done log)

pub rise-filter : (from : ℕ) (q : TupleAt → Bool) (xs : List TupleAt) (end : ℕ) → Rise from (tickets xs) end → Rise from (tickets (filter q xs)) end
rise-filter from q [] end r = r
rise-filter from q (x ∷ xs) end r = go (q x) (rise-filter (x.ticket + 1) q xs end r.1)
  where
    go : (b : Bool) → Rise (x.ticket + 1) (tickets (filter q xs)) end → Rise from (tickets (cond b (x ∷ filter q xs) (filter q xs))) end
    go true k = (r.0, k)
    go false k = rise-lower from (x.ticket + 1) (tickets (filter q xs)) end (omega (arith, r.0)) k

-- ---- sides

set-upto : {A : Type 0} (f g : ℕ → A) (base n i : ℕ) → ((k : ℕ) → k ≢ base + i → f k ≡ g k) → i < n → set (map f (upto_from base n)) i (g (base + i)) ≡ map g (upto_from base n)
set-upto f g base zero i same lt = absurd (omega (arith, lt))
set-upto {A} f g base (suc n) zero same lt = ap₂ (λ (x : A) (xs : List A). x ∷ xs) (ap g (omega arith)) (past (base + 1) n (omega arith))
  where
    past : (from m : ℕ) → base < from → map f (upto_from from m) ≡ map g (upto_from from m)
    past from zero l = refl
    past from (suc m) l = ap₂ (λ (x : A) (xs : List A). x ∷ xs) (same from (λ e. omega (arith, l, e))) (past (from + 1) m (omega (arith, l)))
set-upto {A} f g base (suc n) (suc i) same lt =
    ap₂ (λ (x : A) (xs : List A). x ∷ xs) (same base (λ e. omega (arith, e)))
    (ap (set (map f (upto_from (base + 1) n)) i) (ap g (omega arith)) ∙ set-upto f g (base + 1) n i (λ k ne. same k (λ e. ne (omega (arith, e)))) (omega (arith, lt)))

-- the other sides stay
other-side : (log : List TupleAt) (p : TupleAt → Bool) (input : ℕ) → ((x : TupleAt) → p x ≡ true → x.input ≡ input) → (k : ℕ) → k ≢ 0 + input → of_input k log ≡ of_input k (filter (λ x. not (p x)) log)
other-side log p input own k ne =
    filter-agree (λ x. eqb x.input k) (λ x. not (p x) && eqb x.input k) log (λ x h. go x (p x) refl (eqb x.input k) refl)
    ∙ sym (filter-filter (λ x. not (p x)) (λ x. eqb x.input k) log)
  where
    go : (x : TupleAt) (b : Bool) → p x ≡ b → (c : Bool) → eqb x.input k ≡ c → c ≡ (not b && c)
    go x true t true e = absurd (ne (sym (eqb-true x.input k e) ∙ own x t ∙ omega arith))
    go x true t false e = refl
    go x false t c e = refl

-- ---- the join

-- the tuples that go are of the input, and below the low-water ticket
pub record GoOnly (p : TupleAt → Bool) (input low : ℕ) : Type 0 where
  pub own : (x : TupleAt) → p x ≡ true → x.input ≡ input
  pub below : (x : TupleAt) → p x ≡ true → x.ticket < low

pub sweeps-only : (spec : JoinData) (k : KeptState) (input : ℕ) → GoOnly (λ x. eqb x.input input && kept_ripe spec k x) input (kept_low k)
sweeps-only spec k input = record {
  own = λ x t. eqb-true x.input input (and_parts (eqb x.input input) (kept_ripe spec k x) t).0;
  below = λ x t. ltb-true x.ticket (kept_low k) (and_parts (ltb x.ticket (kept_low k)) _ (and_parts (eqb x.input input) (kept_ripe spec k x) t).1).0;
}

ordered-sweep : (spec : JoinData) (limit next done : ℕ) (log stay : List TupleAt) (sides : List (List TupleAt)) (taken : List ℕ) (p : TupleAt → Bool) (input : ℕ) (side : List TupleAt)
    → IsOrdered spec limit next done log sides taken → GoOnly p input (least next (taken ++ tickets (drop done log))) → stay ≡ filter (λ x. not (p x)) log → input < length spec.shape.inputs → side ≡ of_input input stay
    → IsOrdered spec limit next (done - (length log - length stay)) stay (set sides input side) taken
ordered-sweep spec limit next done log stay sides taken p input side o only e lt at = record {
  sound = o.sound;
  certified = o.certified;
  small = o.small;
  below = o.below;
  within = omega (arith, parts.is_place, parts.within);
  rising = subst (λ (xs : List TupleAt). Rise 0 (tickets xs) next) (sym e) (rise-filter 0 (λ x. not (p x)) log next o.rising);
  open_rising = subst (λ (xs : List TupleAt). Rise 0 (taken ++ tickets xs) next) (sym (ap (λ n. drop n stay) parts.is_place ∙ parts.pending)) o.open_rising;
  placed = λ x h. o.placed x (In-filter (λ y. not (p y)) x log (subst (λ (xs : List TupleAt). In x xs) e h)).0;
  by_input =
      ap₂ (λ (ss : List (List TupleAt)) (s : List TupleAt). set ss input s) o.by_input at
      ∙ ap (set (map (λ k. of_input k log) (upto_from 0 (length spec.shape.inputs))) input) (ap (λ k. of_input k stay) (omega arith))
      ∙ set-upto (λ k. of_input k log) (λ k. of_input k stay) 0 (length spec.shape.inputs) input (λ k ne. other-side log p input only.own k ne ∙ ap (of_input k) (sym e)) lt;
}
  where
    parts : IsSplit done log stay
    parts = split done log stay (λ x. not (p x)) o.within e (none-pending next done log taken p only.below)

seen-sweep : (node : ℕ) (spec : JoinData) (limit next done : ℕ) (log stay : List TupleAt) (puncts waiting on : List PunctAt) (taken : List ℕ) (p : TupleAt → Bool) (input : ℕ)
    → done ≤ length log → GoOnly p input (least next (taken ++ tickets (drop done log))) → stay ≡ filter (λ x. not (p x)) log
    → stay ≡ swept spec (seen (made_with node spec limit) next done log puncts waiting taken).kept input → on ≡ waiting_on stay input waiting
    → seen (made_with node spec limit) next (done - (length log - length stay)) stay puncts on taken ≡ after (seen (made_with node spec limit) next done log puncts waiting taken) (Sweep input)
seen-sweep node spec limit next done log stay puncts waiting on taken p input le only e swept_is on_is =
    ap (λ (ws : List PunctAt). seen (made_with node spec limit) next (done - (length log - length stay)) stay puncts ws taken) on_is
    ∙ ap₂ view swept_is (ap tickets (ap (λ n. drop n stay) parts.is_place ∙ parts.pending))
  where
    parts : IsSplit done log stay
    parts = split done log stay (λ x. not (p x)) le e (none-pending next done log taken p only.below)

    view : List TupleAt → List ℕ → JoinView
    view xs ts = record {
      node = node;
      spec = spec;
      limit = limit;
      kept = record { next = next; stored = xs; puncts = puncts; pending = ts; opened = taken ++ ts; waiting = waiting_on xs input waiting };
    }

-- ---- the call

pub count_gone : (join : JoinView) (input : ℕ) (stay : List TupleAt) → stay ≡ swept join.spec join.kept input → length join.kept.stored - length stay ≡ length (swept_off join input)
count_gone join input stay e = gone_count (λ x. eqb x.input input && kept_ripe join.spec join.kept x) join.kept.stored stay e

module _ (node : ℕ) (spec : JoinData) (limit next done : ℕ) (log : List TupleAt) (sides : List (List TupleAt)) (puncts waiting : List PunctAt) (taken : List ℕ) (input : ℕ) (stay : List TupleAt) (o : IsOrdered spec limit next done log sides taken) (e : stay ≡ swept spec (seen (made_with node spec limit) next done log puncts waiting taken).kept input) where
  pub gone_taken : length log - length stay ≤ done
  gone_taken = (split done log stay (λ x. not (eqb x.input input && kept_ripe spec (seen (made_with node spec limit) next done log puncts waiting taken).kept x)) o.within e
      (none-pending next done log taken (λ x. eqb x.input input && kept_ripe spec (seen (made_with node spec limit) next done log puncts waiting taken).kept x) (sweeps-only spec (seen (made_with node spec limit) next done log puncts waiting taken).kept input).below)).few

  pub swept_view : (on : List PunctAt) → on ≡ waiting_on stay input waiting
      → seen (made_with node spec limit) next (done - (length log - length stay)) stay puncts on taken ≡ after (seen (made_with node spec limit) next done log puncts waiting taken) (Sweep input)
  swept_view on w =
      seen-sweep node spec limit next done log stay puncts waiting on taken (λ x. eqb x.input input && kept_ripe spec (seen (made_with node spec limit) next done log puncts waiting taken).kept x) input o.within
      (sweeps-only spec (seen (made_with node spec limit) next done log puncts waiting taken).kept input) e e w

  pub swept_ordered : input < inputs spec → (side : List TupleAt) → side ≡ of_input input stay → IsOrdered spec limit next (done - (length log - length stay)) stay (set sides input side) taken
  swept_ordered lt side at =
      ordered-sweep spec limit next done log stay sides taken (λ x. eqb x.input input && kept_ripe spec (seen (made_with node spec limit) next done log puncts waiting taken).kept x) input side o
      (sweeps-only spec (seen (made_with node spec limit) next done log puncts waiting taken).kept input) e there at
    where
      there : input < length spec.shape.inputs
      there = omega (arith, lt, length-map spec.shape.inputs (λ (schema : List Column). length schema))

  -- what is pending is so afterwards
  pub still_pending : drop (done - (length log - length stay)) stay ≡ drop done log
  still_pending = ap (λ n. drop n stay) parts.is_place ∙ parts.pending
    where
      parts : IsSplit done log stay
      parts = split done log stay (λ x. not (eqb x.input input && kept_ripe spec (seen (made_with node spec limit) next done log puncts waiting taken).kept x)) o.within e
          (none-pending next done log taken (λ x. eqb x.input input && kept_ripe spec (seen (made_with node spec limit) next done log puncts waiting taken).kept x) (sweeps-only spec (seen (made_with node spec limit) next done log puncts waiting taken).kept input).below)
