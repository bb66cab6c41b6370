-- The values of an argument among the rows that clap found.
use Rattle.std.specs.Prelude.{ℕ, List, [], Option, Some, None, Bool, ◌&&◌, nat_le, length}
use Rattle.std.specs.List.{list_all}
use Rattle.std.specs.Option.{unwrap_or}
use Rattle.pj_words.specs.Form.{is_digit}
use Rattle.clap.specs.Words.{Row, Text, all_of, first_of}
use Rattle.std.specs.Str.Parse.{digits_value}

abbrev pub text_in : Text → List Row → Text
text_in id rows = unwrap_or (first_of id rows) []

abbrev pub texts_in : Text → List Row → List Text
texts_in id rows = unwrap_or (all_of id rows) []

abbrev pub number_or : ℕ → Option Text → ℕ
number_or n None = n
number_or n (Some digits) = digits_value 10 digits

abbrev pub number_in : Text → ℕ → List Row → ℕ
number_in id n rows = number_or n (first_of id rows)

-- digits, at least one
abbrev pub is_numeral : Text → Bool
is_numeral text = nat_le 1 (length text) && list_all is_digit text
