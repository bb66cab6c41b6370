-- Indexes of groups, with one group more, and with the same ones.
use Rattle.std.proofs.Common.{ℕ, zero, suc, ◌+◌, ◌<◌, ◌≤◌, Bool, true, false, cond, List, [], ◌∷◌, ◌++◌, Option, Some, None, ◌≡◌, length, take, refl, sym, ap, ◌∙◌, subst, arith, append-nil, length-append}
use Rattle.std.specs.List.{slice_get}
use Rattle.std.specs.Map.{keys_of, lookup, set_value}
use Rattle.std.specs.Option.{IfSome}
use Rattle.std.proofs.lemmas.List.{length-take-le, map-append, take-append-le, take_more, take_all}
use Rattle.std.proofs.lemmas.Option.{get_or_from_slice_get, slice_get_within}
use Rattle.indexmap.specs.IndexMap.{insert_entry}
use Rattle.pj_value.specs.declared.values.Value.{Value}
use Rattle.pj_value.specs.Values.{row_eq}
use Rattle.pj_events.specs.Tables.{Tally}
use Rattle.pj_group.specs.Indexes.{AreIndexesOf, HasOneMore, HasSame, IsColumnOf, IsIndexOf, IsWhole, has_value, places_from, told}
use Rattle.pj_group.specs.Renewing.{IsRenewed}
use Rattle.pj_group.specs.Slots.{GroupSlot, OpensNone, key_while_open, open_at}
use Rattle.std.proofs.lemmas.Map.{keys-set_value}
use Rattle.pj_group.specs.declared.indexes.ColumnIndex.{ColumnIndex}
use Rattle.pj_group.specs.declared.value_index.ValueIndex.{ValueIndex}
use Rattle.pj_group.proofs.Ordered.{order_closed, order_push}

-- the key of the group at a place
pub key_at : (slots : List GroupSlot) (at : ℕ) (key : List Value) (states : Option (List Tally)) → slice_get slots at ≡ Some (key, states) → slice_get (keys_of slots) at ≡ Some key
key_at [] at key states e = absurd (cc)
key_at (s ∷ slots) zero key states e = ap (λ (o : Option GroupSlot). go o) e
  where
    go : Option GroupSlot → Option (List Value)
    go None = None
    go (Some t) = Some t.0
key_at (s ∷ slots) (suc at) key states e = key_at slots at key states e

places-append : (at column : ℕ) (value : Value) (xs ys : List (List Value)) → places_from at column value (xs ++ ys) ≡ places_from at column value xs ++ places_from (at + length xs) column value ys
places-append at column value [] ys = let n : at ≡ at + 0 = omega arith in ap (λ k. places_from k column value ys) n
places-append at column value (x ∷ xs) ys =
    let n : at + 1 + length xs ≡ at + suc (length xs) = omega arith in
    go (has_value column value x) (places-append (at + 1) column value xs ys ∙ ap (λ k. places_from (at + 1) column value xs ++ places_from k column value ys) n)
  where
    L : List ℕ
    L = places_from (at + 1) column value xs

    M : List ℕ
    M = places_from (at + suc (length xs)) column value ys

    go : (b : Bool) → places_from (at + 1) column value (xs ++ ys) ≡ L ++ M → cond b (at ∷ places_from (at + 1) column value (xs ++ ys)) (places_from (at + 1) column value (xs ++ ys)) ≡ cond b (at ∷ L) L ++ M
    go true e = ap (λ (ps : List ℕ). at ∷ ps) e
    go false e = e

pub index_more : (column : ℕ) (keys : List (List Value)) (key : List Value) (old new : ValueIndex) → slice_get keys old.upto ≡ Some key → IsIndexOf column keys old → HasOneMore column key old new → IsIndexOf column keys new
index_more column keys key old new there is more = record {
  within = omega (arith, within, more.upto);
  places = λ value. more.places value ∙ (by value (has_value column value key) ∙ sym (taken value));
}
  where
    within : old.upto < length keys
    within = slice_get_within keys old.upto key there

    first : List (List Value)
    first = take old.upto keys

    long : 0 + length first ≡ old.upto
    long = omega (arith, length-take-le old.upto keys is.within)

    taken : (value : Value) → places_from 0 column value (take new.upto keys) ≡ places_from 0 column value first ++ cond (has_value column value key) (old.upto ∷ []) []
    taken value =
        ap (λ n. places_from 0 column value (take n keys)) more.upto
        ∙ (ap (places_from 0 column value) (take_more keys old.upto key within ∙ ap (λ (k : List Value). first ++ k ∷ []) (get_or_from_slice_get keys old.upto key key there))
        ∙ (places-append 0 column value first (key ∷ []) ∙ ap (λ n. places_from 0 column value first ++ places_from n column value (key ∷ [])) long))

    by : (value : Value) (b : Bool) → cond b (told old value ++ old.upto ∷ []) (told old value) ≡ places_from 0 column value first ++ cond b (old.upto ∷ []) []
    by value true = ap (λ (ps : List ℕ). ps ++ old.upto ∷ []) (is.places value)
    by value false = is.places value ∙ sym (append-nil (places_from 0 column value first))

pub index_same : (column : ℕ) (keys : List (List Value)) (old new : ValueIndex) → IsIndexOf column keys old → HasSame old new → IsIndexOf column keys new
index_same column keys old new is same = record {
  within = omega (arith, is.within, same.upto);
  places = λ value. same.places value ∙ (is.places value ∙ ap (λ n. places_from 0 column value (take n keys)) (sym same.upto));
}

-- ---- where groups come or change

-- a group more, behind the others
pub indexes_push : (slots more : List GroupSlot) (find : ℕ → Option ColumnIndex) → AreIndexesOf slots find → AreIndexesOf (slots ++ more) find
indexes_push slots more find are column = go (find column) (are column)
  where
    go : (o : Option ColumnIndex) → IfSome o (IsColumnOf column slots) → IfSome o (IsColumnOf column (slots ++ more))
    go None h = h
    go (Some index) h = record {
      values = subst (λ (ks : List (List Value)). IsIndexOf column ks index.values) (sym (map-append (λ (s : GroupSlot). s.0) slots more)) (record {
        within = omega (arith, h.values.within, length-append (keys_of slots) (keys_of more));
        places = λ value. h.values.places value ∙ ap (places_from 0 column value) (sym (take-append-le index.values.upto (keys_of slots) (keys_of more) h.values.within));
      });
      order = order_push column slots more index.order h.order;
    }

put_last : (key : List Value) (w : Option (List Tally)) (slots : List GroupSlot) → lookup (row_eq key) slots ≡ None → insert_entry row_eq slots key w ≡ slots ++ (key, w) ∷ []
put_last key w [] n = refl
put_last key w (s ∷ slots) n = go (row_eq key s.0) n (put_last key w slots)
  where
    go : (b : Bool) → cond b (Some s.1) (lookup (row_eq key) slots) ≡ None → (lookup (row_eq key) slots ≡ None → insert_entry row_eq slots key w ≡ slots ++ (key, w) ∷ [])
        → cond b ((s.0, w) ∷ slots) (s ∷ insert_entry row_eq slots key w) ≡ s ∷ (slots ++ (key, w) ∷ [])
    go true h ih = absurd (cc)
    go false h ih = ap (λ (es : List GroupSlot). s ∷ es) (ih h)

pub indexes_put : (slots new : List GroupSlot) (key : List Value) (w : Option (List Tally)) (find : ℕ → Option ColumnIndex) → lookup (row_eq key) slots ≡ None → new ≡ insert_entry row_eq slots key w → AreIndexesOf slots find → AreIndexesOf new find
indexes_put slots new key w find n e are = subst (λ (es : List GroupSlot). AreIndexesOf es find) (sym (e ∙ put_last key w slots n)) (indexes_push slots ((key, w) ∷ []) find are)

pub indexes_closed : (slots new : List GroupSlot) (find : ℕ → Option ColumnIndex) → OpensNone slots new → AreIndexesOf slots find → AreIndexesOf new find
indexes_closed slots new find none are column = go (find column) (are column)
  where
    go : (o : Option ColumnIndex) → IfSome o (IsColumnOf column slots) → IfSome o (IsColumnOf column new)
    go None h = h
    go (Some index) h = record {
      values = subst (λ (ks : List (List Value)). IsIndexOf column ks index.values) (sym none.keys) h.values;
      order = order_closed column slots new index.order none h.order;
    }

-- ---- where states are set

-- a group that is open where it was
set_opens : (key : List Value) (w : Option (List Tally)) (slots : List GroupSlot) → ((s : GroupSlot) (k : List Value) → lookup (row_eq key) slots ≡ Some s.1 → key_while_open s.0 w ≡ Some k → key_while_open s.0 s.1 ≡ Some k)
    → (at : ℕ) (k : List Value) → open_at (set_value (row_eq key) slots w) at ≡ Some k → open_at slots at ≡ Some k
set_opens key w [] same at k h = h
set_opens key w (s ∷ slots) same at k h = go (row_eq key s.0) refl (set_opens key w slots) at h
  where
    go : (b : Bool) → row_eq key s.0 ≡ b
        → (((t : GroupSlot) (k : List Value) → lookup (row_eq key) slots ≡ Some t.1 → key_while_open t.0 w ≡ Some k → key_while_open t.0 t.1 ≡ Some k) → (at : ℕ) (k : List Value) → open_at (set_value (row_eq key) slots w) at ≡ Some k
        → open_at slots at ≡ Some k)
        → (at : ℕ) → open_at (cond b ((s.0, w) ∷ slots) (s ∷ set_value (row_eq key) slots w)) at ≡ Some k → open_at (s ∷ slots) at ≡ Some k
    go true e ih zero h = same s k (ap (λ (b : Bool). cond b (Some s.1) (lookup (row_eq key) slots)) e) h
    go true e ih (suc at) h = h
    go false e ih zero h = h
    go false e ih (suc at) h = ih (λ t k f. same t k (ap (λ (b : Bool). cond b (Some s.1) (lookup (row_eq key) slots)) e ∙ f)) at k h

-- the group of a key is closed
pub closed_one : (key : List Value) (slots new : List GroupSlot) → new ≡ set_value (row_eq key) slots None → OpensNone slots new
closed_one key slots new e = record {
  keys = ap (λ (es : List GroupSlot). keys_of es) e ∙ keys-set_value (row_eq key) slots None;
  was_open = λ at k h. set_opens key None slots (λ s k f n. absurd (cc)) at k (ap (λ (es : List GroupSlot). open_at es at) (sym e) ∙ h);
}

-- the states of an open group are renewed
renewed_one : (next : List Tally → List Tally) (slots new : List GroupSlot) (key : List Value) → IsRenewed next slots key new → OpensNone slots new
renewed_one next slots new key is = record {
  keys = ap (λ (es : List GroupSlot). keys_of es) is.renewed ∙ keys-set_value (row_eq key) slots (Some (next is.tallies));
  was_open = λ at k h. set_opens key (Some (next is.tallies)) slots (λ s k f n. was s k (sym f ∙ is.there) n) at k (ap (λ (es : List GroupSlot). open_at es at) (sym is.renewed) ∙ h);
}
  where
    was : (s : GroupSlot) (k : List Value) → Some s.1 ≡ Some (Some is.tallies) → Some s.0 ≡ Some k → key_while_open s.0 s.1 ≡ Some k
    was s k f n = go s.1 f
      where
        go : (o : Option (List Tally)) → Some o ≡ Some (Some is.tallies) → key_while_open s.0 o ≡ Some k
        go None g = absurd (cc)
        go (Some ts) g = n

pub indexes_renewed : (next : List Tally → List Tally) (slots new : List GroupSlot) (key : List Value) (find : ℕ → Option ColumnIndex) → IsRenewed next slots key new → AreIndexesOf slots find → AreIndexesOf new find
indexes_renewed next slots new key find is are = indexes_closed slots new find (renewed_one next slots new key is) are
