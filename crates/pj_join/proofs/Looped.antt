-- What the loops of a join cite.
use Rattle.std.proofs.Common.{ℕ, zero, suc, ◌+◌, ◌<◌, ◌≤◌, Bool, true, false, not, ◌&&◌, ◌||◌, List, [], ◌∷◌, ◌++◌, ◌≡◌, map, sum, take, length, get_or, refl, sym, ap, ap₂, ◌∙◌, subst, eqb, arith}
use Rattle.std.proofs.lemmas.Bool.{eq-eqb, eqb-true, false≢true}
use Rattle.std.proofs.lemmas.List.{map-append, take_more}
use Rattle.pj_value.proofs.Members.{filter-agree, filter-all, filter-filter}
use Rattle.pj_state.specs.declared.shared.Stored.{Stored}
use Rattle.pj_state.specs.States.{StateView, ticket_of}
use Rattle.pj_state.specs.Rising.{is_other, without}
use Rattle.pj_puncts.specs.Stores.{Store}
use Rattle.pj_cover.specs.Asking.{punct_of}
use Rattle.pj_shape.specs.Sound.{arities_of}
use Rattle.pj_events.specs.Join.{PunctAt, TupleAt, has, of_input, upto_from}
use Rattle.pj_join.specs.Sweeping.{rows_without}
use Rattle.pj_join.specs.Sides.{AreAllShaped, IsShaped, heard_of, held_in}
use Rattle.pj_rows.specs.Tuples.{tuple_in, tuples_in}
use Rattle.pj_shape.specs.declared.columns.Column.{Column}
use Rattle.std.proofs.lemmas.List.Sums.{sum_by-cons}
use Rattle.std.proofs.lemmas.List.Folds.{list_any-append}
use Rattle.pj_probe.proofs.Walking.{more-choices}
use Rattle.pj_join.proofs.Kept.{shaped-push}

-- ---- rows that are taken out

eqb-turned : (m n : ℕ) → eqb m n ≡ eqb n m
eqb-turned m n = go (eqb m n) refl (eqb n m) refl
  where
    go : (a : Bool) → eqb m n ≡ a → (b : Bool) → eqb n m ≡ b → a ≡ b
    go true e true f = refl
    go true e false f = absurd (false≢true (sym f ∙ eq-eqb n m (sym (eqb-true m n e))))
    go false e true f = absurd (false≢true (sym e ∙ eq-eqb m n (sym (eqb-true n m f))))
    go false e false f = refl

pub without_none : (rows : List Stored) → rows_without [] rows ≡ rows
without_none rows = filter-all (λ (s : Stored). not (has [] s.ticket)) rows (λ s h. refl)

pub without_more : (gone : List ℕ) (i t d : ℕ) (rows : List Stored) → i < length gone → t ≡ get_or gone i d → without ticket_of t (rows_without (take i gone) rows) ≡ rows_without (take (i + 1) gone) rows
without_more gone i t d rows lt is =
    filter-filter (λ (s : Stored). not (has (take i gone) s.ticket)) (is_other ticket_of t) rows
    ∙ filter-agree (λ (s : Stored). not (has (take i gone) s.ticket) && is_other ticket_of t s) (λ s. not (has (take i gone ++ t ∷ []) s.ticket)) rows (λ s h. each (has (take i gone) s.ticket) s)
    ∙ ap (λ ts. rows_without ts rows) (ap (λ n. take i gone ++ n ∷ []) is ∙ sym (take_more gone i d lt))
  where
    each : (b : Bool) (s : Stored) → (not (has (take i gone) s.ticket) && not (eqb s.ticket t)) ≡ not (has (take i gone ++ t ∷ []) s.ticket)
    each b s =
        ap (λ c. not (has (take i gone) s.ticket) && not c) (eqb-turned s.ticket t)
        ∙ parts (has (take i gone) s.ticket) (eqb t s.ticket)
        ∙ ap not (sym (list_any-append (λ m. eqb m s.ticket) (take i gone) (t ∷ [])))
      where
        parts : (a c : Bool) → (not a && not c) ≡ not (a || (c || false))
        parts true c = refl
        parts false true = refl
        parts false false = refl

-- ---- a new join

pub tuples_push : (base : ℕ) (row_states : List StateView) (s : StateView) → s.rows ≡ [] → tuples_in base (row_states ++ s ∷ []) ≡ tuples_in base row_states ++ [] ∷ []
tuples_push base [] s e = ap (λ (rs : List Stored). map (tuple_in base) rs ∷ []) e
tuples_push base (r ∷ rs) s e = ap (λ (xs : List (List TupleAt)). map (tuple_in base) r.rows ∷ xs) (tuples_push (base + 1) rs s e)

pub heard_push : (base : ℕ) (punct_stores : List Store) (s : Store) → s.kept ≡ [] → held_in base (punct_stores ++ s ∷ []) ≡ held_in base punct_stores ++ [] ∷ []
heard_push base [] s e = ap (λ ks. map (punct_of base) ks ∷ []) e
heard_push base (r ∷ rs) s e = ap (λ (xs : List (List PunctAt)). map (punct_of base) r.kept ∷ xs) (heard_push (base + 1) rs s e)

-- ---- one state or store more

pub states_more : (row_states new : List StateView) (s : StateView) (i : ℕ) (ns : List ℕ) → new ≡ row_states ++ s ∷ [] → s.rows ≡ [] → tuples_in 0 row_states ≡ map (λ k. of_input k []) (upto_from 0 i) → tuples_in 0 new ≡ map (λ k. of_input k []) (upto_from 0 (i + 1))
states_more row_states new s i ns e none before =
    more-choices (λ k. of_input k []) i (tuples_in 0 row_states) (tuples_in 0 new) [] before refl (ap (tuples_in 0) e ∙ tuples_push 0 row_states s none)

arities_more : (i : ℕ) (schemas : List (List Column)) (schema : List Column) → i < length schemas → schema ≡ get_or schemas i schema → arities_of (take (i + 1) schemas) ≡ arities_of (take i schemas) ++ length schema ∷ []
arities_more i schemas schema lt at =
    ap arities_of (take_more schemas i schema lt ∙ ap (λ (c : List Column). take i schemas ++ c ∷ []) (sym at)) ∙ map-append (λ (c : List Column). length c) (take i schemas) (schema ∷ [])

pub shaped_more : (row_states new : List StateView) (s : StateView) (i n : ℕ) (schemas : List (List Column)) (schema : List Column) → new ≡ row_states ++ s ∷ [] → i < length schemas → schema ≡ get_or schemas i schema → n ≡ length schema → IsShaped n s
    → AreAllShaped (arities_of (take i schemas)) row_states → AreAllShaped (arities_of (take (i + 1) schemas)) new
shaped_more row_states new s i n schemas schema e lt at long is before =
    subst (λ (ss : List StateView). AreAllShaped (arities_of (take (i + 1) schemas)) ss) (sym e)
    (subst (λ ns. AreAllShaped ns (row_states ++ s ∷ [])) (sym (arities_more i schemas schema lt at)) (shaped-push (arities_of (take i schemas)) row_states (length schema) s before (subst (λ m. IsShaped m s) long is)))

pub stores_more : (punct_stores new : List Store) (s : Store) (i : ℕ) (schemas : List (List Column)) (schema : List Column) → new ≡ punct_stores ++ s ∷ [] → s.kept ≡ [] → s.arity ≡ length schema → i < length schemas → schema ≡ get_or schemas i schema
    → (held_in 0 punct_stores ≡ map (λ k. heard_of k []) (upto_from 0 i)) × (map (λ t. t.arity) punct_stores ≡ arities_of (take i schemas))
    → (held_in 0 new ≡ map (λ k. heard_of k []) (upto_from 0 (i + 1))) × (map (λ t. t.arity) new ≡ arities_of (take (i + 1) schemas))
stores_more punct_stores new s i schemas schema e none width lt at before = (
  more-choices (λ k. heard_of k []) i (held_in 0 punct_stores) (held_in 0 new) [] before.0 refl (ap (held_in 0) e ∙ heard_push 0 punct_stores s none),
  ap (map (λ (t : Store). t.arity)) e ∙ map-append (λ (t : Store). t.arity) punct_stores (s ∷ []) ∙ ap₂ (λ ns n. ns ++ n ∷ []) before.1 width ∙ sym (arities_more i schemas schema lt at),
)

pub small_schema : (schemas : List (List Column)) (i : ℕ) (schema : List Column) → sum (arities_of schemas) ≤ 120 → i < length schemas → schema ≡ get_or schemas i schema → length schema ≤ 120
small_schema schemas i schema few lt at = let m = member schemas i lt in omega (arith, few, m, ap (λ (c : List Column). length c) at)
  where
    member : (ss : List (List Column)) (k : ℕ) → k < length ss → length (get_or ss k schema) ≤ sum (arities_of ss)
    member [] k l = absurd (omega (arith, l))
    member (c ∷ ss) zero l = omega (arith, sum_by-cons (λ (n : ℕ). n) (length c) (arities_of ss))
    member (c ∷ ss) (suc k) l = let m = member ss k (omega (arith, l)) in omega (arith, m, sum_by-cons (λ (n : ℕ). n) (length c) (arities_of ss))
