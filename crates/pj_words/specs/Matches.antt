-- What clap found for the words of each command.
use Rattle.std.specs.Prelude.{◌≡◌, ◌⊎◌, ℕ, Bool, true, false, List, [], Option, Some, None, codes}
use Rattle.std.specs.Str.{bytes_eq}
use Rattle.clap.specs.Words.{Row, first_of, one_of}
use Rattle.pj_words.specs.declared.request.Request.{Request}
use Rattle.pj_words.specs.declared.request.Request.TheVariants.{Run, Replay, Check, Make}
use Rattle.pj_words.specs.declared.tables.Subcommand.{Subcommand}
use Rattle.pj_words.specs.declared.tables.Subcommand.TheVariants.{Run as Running, Replay as Replaying, Check as Checking, Make as Making}
use Rattle.pj_words.specs.Form.{Text, is_number}
use Rattle.pj_words.specs.Found.{number_in, text_in, texts_in}

abbrev pub is_told : Option Text → Bool
is_told None = false
is_told (Some text) = bytes_eq text (codes "true")

abbrev pub flag_in : Text → List Row → Bool
flag_in id rows = is_told (one_of id rows)

abbrev pub limit_in : List Row → ℕ
limit_in rows = number_in (codes "limit") 1099511627776 rows

-- the request of what clap found
abbrev pub found_by : Subcommand → List Row → Request
found_by Running rows = Run (text_in (codes "plan") rows) (texts_in (codes "files") rows) (number_in (codes "workers") 2 rows) (flag_in (codes "sorted") rows)
    (flag_in (codes "trace") rows) (flag_in (codes "check") rows) (limit_in rows)
found_by Replaying rows = Replay (text_in (codes "plan") rows) (text_in (codes "script") rows) (texts_in (codes "files") rows) (flag_in (codes "trace") rows)
    (limit_in rows)
found_by Checking rows = Check (text_in (codes "plan") rows) (flag_in (codes "print") rows)
found_by Making rows = Make (number_in (codes "seed") 0 rows) (number_in (codes "count") 0 rows)

-- where the argument was given, its number is at most this
abbrev pub FitsNumber : Text → ℕ → List Row → Type 0
FitsNumber id most rows = (text : Text) → first_of id rows ≡ Some text → is_number 0 most text ≡ true

-- the row tells whether the flag was given
abbrev pub IsFlag : Text → List Row → Type 0
IsFlag id rows = (one_of id rows ≡ Some (codes "true")) ⊎ (one_of id rows ≡ Some (codes "false"))

pub record IsRunFound (rows : List Row) : Type 0 where
  pub workers : FitsNumber (codes "workers") 16 rows
  pub limit : FitsNumber (codes "limit") 1099511627776 rows
  pub sorted : IsFlag (codes "sorted") rows
  pub trace : IsFlag (codes "trace") rows
  pub check : IsFlag (codes "check") rows

pub record IsReplayFound (rows : List Row) : Type 0 where
  pub limit : FitsNumber (codes "limit") 1099511627776 rows
  pub trace : IsFlag (codes "trace") rows

pub record IsCheckFound (rows : List Row) : Type 0 where
  pub print : IsFlag (codes "print") rows

pub record IsMakeFound (rows : List Row) : Type 0 where
  pub seed : FitsNumber (codes "seed") 2147483647 rows
  pub count : FitsNumber (codes "count") 1000000 rows

-- the numbers that were found lie in their ranges, and the flags tell
abbrev pub IsFound : Subcommand → List Row → Type 0
IsFound Running rows = IsRunFound rows
IsFound Replaying rows = IsReplayFound rows
IsFound Checking rows = IsCheckFound rows
IsFound Making rows = IsMakeFound rows

-- the rows of the subcommand
abbrev pub rows_under : Option (Text × List Row) → List Row
rows_under None = []
rows_under (Some p) = p.1
