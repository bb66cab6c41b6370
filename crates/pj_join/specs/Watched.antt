-- Which stored tuples of a join a sweep has to judge.
pub use Rattle.pj_cover.specs.Asking.{AsksStill}
pub use Rattle.pj_recheck.specs.declared.marks.DueRechecks.{DueRechecks}
pub use Rattle.pj_recheck.specs.declared.marks.SweepResult.{SweepResult}
use Rattle.std.specs.Prelude.{ℕ, ◌<◌, ◌≤◌, ◌≡◌, true, false, List, length}
use Rattle.pj_events.specs.Join.{In, JoinData, PunctAt, TupleAt, cert_of, has, inputs}
use Rattle.pj_events.specs.KeptState.{kept_low, kept_ripe}
use Rattle.pj_join.specs.Joins.{JoinView}
use Rattle.pj_recheck.specs.Watching.{watches_at, is_passed, known}

-- each stored tuple that is passed over asks for something that no punctuation covers
pub record AreWatched (spec : JoinData) (next low : ℕ) (stored : List TupleAt) (puncts : List PunctAt) (ws : List DueRechecks) : Type 0 where
  pub count : length ws ≡ inputs spec
  pub reached : (input : ℕ) → (watches_at ws input).from ≤ next
  pub asks : (x : TupleAt) → In x stored → is_passed (watches_at ws x.input) x.ticket ≡ true → AsksStill (known spec.shape.classes stored puncts low) (cert_of spec x.input) x

-- each stored tuple of the input below the low-water ticket that is neither ripe nor marked does
abbrev pub AreOpenBut : JoinView → ℕ → List ℕ → Type 0
AreOpenBut join input marked =
    (x : TupleAt) → In x join.kept.stored → x.input ≡ input → x.ticket < kept_low join.kept → kept_ripe join.spec join.kept x ≡ false → has marked x.ticket ≡ false
    → AsksStill (known join.spec.shape.classes join.kept.stored join.kept.puncts (kept_low join.kept)) (cert_of join.spec input) x
