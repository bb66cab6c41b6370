-- A table after one row more.
use Rattle.std.proofs.Common.{ℕ, Bool, true, false, cond, ◌||◌, inl, inr, List, [], ◌∷◌, ◌++◌, Option, Some, None, is_some, ◌≡◌, filter, map, refl, sym, ap, ap₂, ◌∙◌, subst, append-nil}
use Rattle.std.specs.List.{IsDistinct, list_any}
use Rattle.std.specs.Map.{keys_of, lookup, set_value}
use Rattle.std.specs.Option.{option_map}
use Rattle.std.proofs.lemmas.Map.Steps.{set_value_same}
use Rattle.std.proofs.lemmas.Bool.{false≢true, false_from_ne_true}
use Rattle.std.proofs.lemmas.List.Elements.{filter-append}
use Rattle.indexmap.specs.IndexMap.{insert_entry}
use Rattle.pj_value.specs.declared.values.Value.{Value}
use Rattle.pj_value.specs.Lists.{In}
use Rattle.pj_value.specs.Values.{row_eq}
use Rattle.pj_value.proofs.Members.{map-same}
use Rattle.pj_value.proofs.Orders.{row_equal_if_same, row_same_if_equal}
use Rattle.pj_events.specs.Operators.{Agg, GroupSpec, keys_from, picked_cells}
use Rattle.pj_events.proofs.Keys.{key-from}
use Rattle.pj_events.specs.Tables.{GroupEntry, Tally, kept_for, rows_with_key, table_of, tally}
use Rattle.pj_group.specs.Slots.{GroupSlot, IsReady, is_open, open_groups, states_in}
use Rattle.pj_group.specs.Renewing.{IsLeft, IsRenewed}
use Rattle.pj_group.specs.Steps.{first_tally, next_tallies, tallies_after}
use Rattle.pj_group.proofs.OpenGroups.{new_after_clearing, open_found, open_put, set_put}
use Rattle.pj_events.proofs.Keys.{AreApart, key_of, keys-apart}
use Rattle.pj_group.proofs.Apart.{keys_more, none_with, some_with}
use Rattle.pj_group.proofs.States.{tallies_first, tallies_more}

rows_more : (spec : GroupSpec) (rows : List (List Value)) (row key : List Value) → rows_with_key spec (rows ++ row ∷ []) key ≡ rows_with_key spec rows key ++ cond (row_eq key (key_of spec row)) (row ∷ []) []
rows_more spec rows row key = filter-append (λ r. row_eq key (key_of spec r)) rows (row ∷ [])

-- the entry of another key
kept_other : (spec : GroupSpec) (rows : List (List Value)) (row key : List Value) → row_eq key (key_of spec row) ≡ false → kept_for spec (rows ++ row ∷ []) key ≡ kept_for spec rows key
kept_other spec rows row key e =
    ap (λ (rs : List (List Value)). (key, map (tally rs) spec.aggs))
    (rows_more spec rows row key ∙ (ap (λ (b : Bool). rows_with_key spec rows key ++ cond b (row ∷ []) []) e ∙ append-nil (rows_with_key spec rows key)))

-- the entry of its key, which is there
kept_same : (spec : GroupSpec) (rows : List (List Value)) (row key : List Value) → row_eq key (key_of spec row) ≡ true → In key (keys_from [] spec rows)
    → kept_for spec (rows ++ row ∷ []) key ≡ (key, next_tallies row spec.aggs (map (tally (rows_with_key spec rows key)) spec.aggs))
kept_same spec rows row key e h =
    let r = key-from [] spec rows key h in
    let some = some_with spec rows r.0 key r.1 r.2 in
    let more : rows_with_key spec (rows ++ row ∷ []) key ≡ some.0 ∷ (some.1 ++ row ∷ []) =
    rows_more spec rows row key ∙ (ap (λ (b : Bool). rows_with_key spec rows key ++ cond b (row ∷ []) []) e ∙ ap (λ (rs : List (List Value)). rs ++ row ∷ []) some.2) in
    ap (λ (rs : List (List Value)). (key, map (tally rs) spec.aggs)) more
    ∙ (ap (λ (ts : List Tally). (key, ts)) (tallies_more some.0 some.1 row spec.aggs)
    ∙ ap (λ (rs : List (List Value)). (key, next_tallies row spec.aggs (map (tally rs) spec.aggs))) (sym some.2))

-- the entry of its key, which is new
kept_new : (spec : GroupSpec) (rows : List (List Value)) (row : List Value) → list_any (row_eq (key_of spec row)) (keys_from [] spec rows) ≡ false
    → kept_for spec (rows ++ row ∷ []) (key_of spec row) ≡ (key_of spec row, tallies_after row spec.aggs None)
kept_new spec rows row e =
    let key = key_of spec row in
    ap (λ (rs : List (List Value)). (key, map (tally rs) spec.aggs))
    (rows_more spec rows row key
    ∙ (ap (λ (b : Bool). rows_with_key spec rows key ++ cond b (row ∷ []) []) (row_equal_if_same key key refl) ∙ ap (λ (rs : List (List Value)). rs ++ row ∷ []) (none_with [] spec rows key refl e)))
    ∙ ap (λ (ts : List Tally). (key, ts)) (tallies_first row spec.aggs)

kept_others : (spec : GroupSpec) (rows : List (List Value)) (row : List Value) (ks : List (List Value)) → (In (key_of spec row) ks → ⊥)
    → map (kept_for spec (rows ++ row ∷ [])) ks ≡ map (kept_for spec rows) ks
kept_others spec rows row ks none =
    map-same (kept_for spec (rows ++ row ∷ [])) (kept_for spec rows) ks
    (λ key h. kept_other spec rows row key (false_from_ne_true (row_eq key (key_of spec row)) (λ t. none (subst (λ (k : List Value). In k ks) (row_same_if_equal key (key_of spec row) t) h))))

-- ---- a list of keys, each once

module _ (spec : GroupSpec) (rows : List (List Value)) (row : List Value) where
  put_in : (ks : List (List Value)) → AreApart ks → ((k : List Value) → In k ks → In k (keys_from [] spec rows))
      → (list_any (row_eq (key_of spec row)) ks ≡ false → kept_for spec (rows ++ row ∷ []) (key_of spec row) ≡ (key_of spec row, tallies_after row spec.aggs None))
      → insert_entry row_eq (map (kept_for spec rows) ks) (key_of spec row) (tallies_after row spec.aggs (lookup (row_eq (key_of spec row)) (map (kept_for spec rows) ks)))
      ≡ map (kept_for spec (rows ++ row ∷ [])) (ks ++ cond (list_any (row_eq (key_of spec row)) ks) [] (key_of spec row ∷ []))
  put_in [] apart there fresh = ap (λ (e : GroupEntry). e ∷ []) (sym (fresh refl))
  put_in (k ∷ ks) apart there fresh = go (row_eq (key_of spec row) k) refl (put_in ks apart.1 (λ j h. there j (inr h))) fresh
    where
      key : List Value
      key = key_of spec row

      Was : List GroupEntry
      Was = map (kept_for spec rows) ks

      go : (b : Bool) → row_eq key k ≡ b
          → ((list_any (row_eq key) ks ≡ false → kept_for spec (rows ++ row ∷ []) key ≡ (key, tallies_after row spec.aggs None))
          → insert_entry row_eq Was key (tallies_after row spec.aggs (lookup (row_eq key) Was)) ≡ map (kept_for spec (rows ++ row ∷ [])) (ks ++ cond (list_any (row_eq key) ks) [] (key ∷ [])))
          → ((b || list_any (row_eq key) ks) ≡ false → kept_for spec (rows ++ row ∷ []) key ≡ (key, tallies_after row spec.aggs None))
          → cond b ((k, tallies_after row spec.aggs (cond b (Some (kept_for spec rows k).1) (lookup (row_eq key) Was))) ∷ Was) (kept_for spec rows k ∷ insert_entry row_eq Was key (tallies_after row spec.aggs (cond b (Some (kept_for spec rows k).1) (lookup (row_eq key) Was))))
          ≡ map (kept_for spec (rows ++ row ∷ [])) (k ∷ (ks ++ cond (b || list_any (row_eq key) ks) [] (key ∷ [])))
      go true t ih fr =
          let same : key ≡ k = row_same_if_equal key k t in
          ap₂ (λ (e : GroupEntry) (es : List GroupEntry). e ∷ es) (sym (kept_same spec rows row k (row_equal_if_same k key (sym same)) (there k (inl refl))))
          (sym (kept_others spec rows row ks (λ h. apart.0 (subst (λ (j : List Value). In j ks) same h))) ∙ ap (map (kept_for spec (rows ++ row ∷ []))) (sym (append-nil ks)))
      go false t ih fr =
          ap₂ (λ (e : GroupEntry) (es : List GroupEntry). e ∷ es)
          (sym (kept_other spec rows row k (false_from_ne_true (row_eq k key) (λ u. false≢true (sym t ∙ row_equal_if_same key k (sym (row_same_if_equal k key u)))))))
          (ih fr)

-- the table of the rows with one more
pub taken : (spec : GroupSpec) (rows : List (List Value)) (row : List Value) (table : List GroupEntry) → table ≡ table_of spec rows
    → insert_entry row_eq table (key_of spec row) (tallies_after row spec.aggs (lookup (row_eq (key_of spec row)) table)) ≡ table_of spec (rows ++ row ∷ [])
taken spec rows row table e =
    ap (λ (es : List GroupEntry). insert_entry row_eq es (key_of spec row) (tallies_after row spec.aggs (lookup (row_eq (key_of spec row)) es))) e
    ∙ (put_in spec rows row (keys_from [] spec rows) (keys-apart [] spec rows) (λ k h. h) (kept_new spec rows row)
    ∙ ap (map (kept_for spec (rows ++ row ∷ []))) (sym (keys_more [] spec rows row)))

-- what is put where a key's states were looked for
pub taken_by : (spec : GroupSpec) (rows : List (List Value)) (row : List Value) (table new : List GroupEntry) (key : List Value) (ts : List Tally) (keys : List ℕ) (aggs : List Agg) (found : Option (List Tally))
    → key ≡ picked_cells keys row → keys ≡ spec.keys → aggs ≡ spec.aggs → found ≡ lookup (row_eq key) table → ts ≡ tallies_after row aggs found → new ≡ insert_entry row_eq table key ts
    → table ≡ table_of spec rows → new ≡ table_of spec (rows ++ row ∷ [])
taken_by spec rows row table new key ts keys aggs found k ks a f t n e =
    let is : key ≡ key_of spec row = k ∙ ap (λ (cs : List ℕ). picked_cells cs row) ks in
    n
    ∙ (ap (insert_entry row_eq table key) (t ∙ ap₂ (tallies_after row) a f)
    ∙ (ap (λ (j : List Value). insert_entry row_eq table j (tallies_after row spec.aggs (lookup (row_eq j) table))) is ∙ taken spec rows row table e))

-- ---- in memory

-- the states of a key that is new
pub added_by : (spec : GroupSpec) (rows : List (List Value)) (row : List Value) (old slots new : List GroupSlot) (key : List Value) (ts : List Tally) (keys : List ℕ) (aggs : List Agg)
    → key ≡ picked_cells keys row → keys ≡ spec.keys → aggs ≡ spec.aggs → IsReady (lookup (row_eq key) slots) → open_groups slots ≡ open_groups old
    → None ≡ lookup (row_eq key) slots → ts ≡ map (first_tally row) aggs → new ≡ insert_entry row_eq slots key (Some ts)
    → open_groups old ≡ table_of spec rows → open_groups new ≡ table_of spec (rows ++ row ∷ [])
added_by spec rows row old slots new key ts keys aggs k ks a ready same f t n e =
    taken_by spec rows row (open_groups slots) (open_groups new) key ts keys aggs None k ks a (ap states_in f ∙ sym (open_found key slots ready)) t (ap open_groups n ∙ open_put key ts slots ready) (same ∙ e)

-- the states of a key that is there
renewed : (spec : GroupSpec) (rows : List (List Value)) (row : List Value) (slots new : List GroupSlot) (key : List Value) (was : List Tally) → key ≡ picked_cells spec.keys row
    → Some (Some was) ≡ lookup (row_eq key) slots → IsReady (lookup (row_eq key) slots) → new ≡ set_value (row_eq key) slots (Some (next_tallies row spec.aggs was)) → open_groups slots ≡ table_of spec rows → open_groups new ≡ table_of spec (rows ++ row ∷ [])
renewed spec rows row slots new key was k f ready n e =
    taken_by spec rows row (open_groups slots) (open_groups new) key (next_tallies row spec.aggs was) spec.keys spec.aggs (Some was) k refl refl (ap states_in f ∙ sym (open_found key slots ready)) refl
    (ap open_groups (n ∙ set_put key (Some was) (Some (next_tallies row spec.aggs was)) slots (sym f)) ∙ open_put key (next_tallies row spec.aggs was) slots ready) e

pub renewed_by : (spec : GroupSpec) (rows : List (List Value)) (row : List Value) (slots new : List GroupSlot) (key : List Value) → key ≡ picked_cells spec.keys row → IsRenewed (next_tallies row spec.aggs) slots key new
    → open_groups slots ≡ table_of spec rows → open_groups new ≡ table_of spec (rows ++ row ∷ [])
renewed_by spec rows row slots new key k is e = renewed spec rows row slots new key is.tallies k (sym is.there) (subst IsReady (sym is.there) tt) is.renewed e

-- to write back what was there changes nothing
pub kept_by : (slots new : List GroupSlot) (key : List Value) (was next : Option (List Tally)) → Some was ≡ lookup (row_eq key) slots → next ≡ was → new ≡ set_value (row_eq key) slots next → new ≡ slots
kept_by slots new key was next f t n = n ∙ ap (set_value (row_eq key) slots) t ∙ set_value_same (row_eq key) slots was (sym f)

-- a group that was closed
pub left_by : (f : List Tally → List Tally) (slots new : List GroupSlot) (key : List Value) (was next : Option (List Tally)) (b : Bool) → b ≡ is_some was → b ≡ false → IsDistinct row_eq (keys_of slots)
    → Some was ≡ lookup (row_eq key) slots → next ≡ option_map f was → new ≡ set_value (row_eq key) slots next → IsLeft (filter is_open slots) slots key new
left_by f slots new key None next b o c d e t n = record { none = new_after_clearing key slots d (sym e); same = kept_by slots new key None next e t n }
left_by f slots new key (Some ts) next b o c d e t n = absurd (cc)
