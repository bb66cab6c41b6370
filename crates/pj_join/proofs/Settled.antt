-- What a sweep leaves is watched.
use Rattle.std.proofs.Common.{ℕ, ◌-◌, ◌<◌, List, ◌≡◌, length, set, sym, subst, arith}
use Rattle.pj_state.specs.States.{StateView, state_of}
use Rattle.pj_puncts.specs.Stores.{Store}
use Rattle.pj_events.specs.Join.{In, JoinData, PunctAt, TupleAt, inputs}
use Rattle.pj_events.specs.KeptState.{kept_low}
use Rattle.pj_join.specs.declared.place.Place.{Place}
use Rattle.pj_join.specs.Insides.{IsJoin, inside, lowest, made_with, seen, tickets}
use Rattle.pj_join.specs.Joins.{JoinView}
use Rattle.pj_join.specs.Sweeping.{rows_without, swept_off}
use Rattle.pj_join.specs.Sides.{log_of, puncts_of}
use Rattle.pj_rows.specs.Tuples.{state_at}
use Rattle.pj_recheck.specs.Watching.{AreFewer, AreRoused}
use Rattle.pj_join.specs.Watched.{AreOpenBut, AreWatched}
use Rattle.pj_recheck.specs.declared.marks.DueRechecks.{DueRechecks}
use Rattle.pj_join.proofs.Kept.{shapes}
use Rattle.pj_join.proofs.Swept.{log-left, lowest-left}
use Rattle.pj_join.proofs.Watched.{in-row, watched_swept}

module _ (node : ℕ) (spec : JoinData) (limit next done : ℕ) (row_states : List StateView) (punct_stores : List Store) (pending : List Place) (taken : List ℕ) (waiting : List PunctAt) (input : ℕ) (j : IsJoin spec limit (inside next done row_states punct_stores pending taken)) (lt : input < inputs spec) where
  abbrev join : JoinView
  join = seen (made_with node spec limit) next done (log_of row_states) (puncts_of punct_stores) waiting taken

  pub settled : (gone : List ℕ) → gone ≡ tickets (swept_off join input) → (old new : StateView) → old ≡ state_at row_states input → new ≡ state_of old.columns (rows_without gone old.rows)
      → (low : ℕ) (marked : List ℕ) (ws ws' : List DueRechecks) → low ≡ kept_low join.kept → AreWatched spec next (lowest next done (log_of row_states) taken) (log_of row_states) (puncts_of punct_stores) ws → AreOpenBut join input marked
      → AreFewer (set ws input (record { from = low; marked = marked })) ws' → AreRoused spec row_states input gone ws' (length (set ws input (record { from = low; marked = marked })))
      → AreWatched spec next (lowest next (done - length gone) (log_of (set row_states input new)) taken) (log_of (set row_states input new)) (puncts_of punct_stores) ws'
  settled gone are old new is left low marked ws ws' lows w marks fewer roused =
      subst (λ n. AreWatched spec next n (log_of (set row_states input new)) (puncts_of punct_stores) ws') (sym (lowest-left node spec limit next done row_states punct_stores pending taken waiting input j lt gone are old new is left))
      (subst (λ (xs : List TupleAt). AreWatched spec next (lowest next done (log_of row_states) taken) xs (puncts_of punct_stores) ws') (sym (log-left node spec limit next done row_states punct_stores pending taken waiting input j lt gone are old new is left))
      (watched_swept join input low marked ws lows lt w marks row_states gone ws' (in-row spec limit next done row_states punct_stores pending taken j) placed are fewer roused))
    where
      placed : (y : TupleAt) → In y (log_of row_states) → y.input < inputs spec
      placed y h = let p = j.ordered.placed y h in omega (arith, p, shapes spec limit next done row_states punct_stores pending taken j)
