-- What is kept of the lines of a stream that were read, and what one line more adds.
use Rattle.std.specs.Prelude.{◌≡◌, ◌<◌, ℕ, ◌+◌, ◌-◌, ◌^◌, List, [], ◌∷◌, ◌++◌, length, nat_lt, if◌then◌else◌}
use Rattle.pj_pattern.specs.declared.element.Element.TheVariants.{Tuple as AcceptedTuple, Punct as AcceptedPunct}
use Rattle.pj_element.specs.declared.element.Read.{Read}
use Rattle.pj_element.specs.declared.element.Read.TheVariants.{Skip, Tuple, Punct, Bad}
use Rattle.pj_element.specs.declared.element.Reject.{Reject}
use Rattle.pj_element.specs.declared.tally.Tally.{Tally}
use Rattle.pj_element.specs.Accepted.{Fate, Passed, Taken, Refused, tuple_fate, fates, tally_of}
use Rattle.pj_puncts.specs.declared.store.NumberedPunct.{NumberedPunct}
use Rattle.pj_puncts.specs.Stores.{first_match_of}

abbrev pub with_kept : ℕ → Read → List NumberedPunct → List NumberedPunct
with_kept n Skip kept = kept
with_kept n (Tuple row) kept = kept
with_kept n (Punct punct) kept = record { punct = punct; number = n } ∷ kept
with_kept n (Bad why) kept = kept

-- the punctuations of these lines with the lines' numbers, where the first line has the number n
abbrev pub kept_of : ℕ → List Read → List NumberedPunct
kept_of n [] = []
kept_of n (r ∷ rs) = with_kept n r (kept_of (n + 1) rs)

-- what becomes of a line, by the punctuations before it
abbrev pub fate_by : List NumberedPunct → Read → Fate
fate_by kept Skip = Passed
fate_by kept (Tuple row) = tuple_fate row (first_match_of kept row)
fate_by kept (Punct punct) = Taken (AcceptedPunct punct)
fate_by kept (Bad why) = Refused why

-- the number of lines, the punctuations and the tally are those of these lines
pub record IsSeen (earlier : List Read) (line : ℕ) (kept : List NumberedPunct) (tally : Tally) : Type 0 where
  pub lines : line ≡ length earlier
  pub puncts : kept ≡ kept_of 1 earlier
  pub counts : tally ≡ tally_of (fates [] earlier)

-- ---- one line more

-- the counts may grow by one
pub record HasRoom (line : ℕ) (tally : Tally) : Type 0 where
  pub lines : line < 2 ^ 64 - 1
  pub tuples : tally.tuples < 2 ^ 64 - 1
  pub puncts : tally.puncts < 2 ^ 64 - 1
  pub rejected : tally.rejected < 2 ^ 64 - 1

abbrev pub with_tuple : Tally → Tally
with_tuple tally = record tally { tuples = tally.tuples + 1 }

abbrev pub with_punct : Tally → Tally
with_punct tally = record tally { puncts = tally.puncts + 1 }

-- one reject more, listed where it is among the first 1,000
abbrev pub with_reject : ℕ → Reject → Tally → Tally
with_reject n why tally = record tally { rejected = tally.rejected + 1; listed = if nat_lt (length tally.listed) 1000 then tally.listed ++ (n, why) ∷ [] else tally.listed }

abbrev pub with_fate : ℕ → Fate → Tally → Tally
with_fate n Passed tally = tally
with_fate n (Taken (AcceptedTuple row)) tally = with_tuple tally
with_fate n (Taken (AcceptedPunct punct)) tally = with_punct tally
with_fate n (Refused why) tally = with_reject n why tally
