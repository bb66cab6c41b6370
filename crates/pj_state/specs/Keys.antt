-- Texts as keys of an index.
use Rattle.std.specs.Prelude.{ℕ, Bool, List}
use Rattle.std.specs.Str.{bytes_eq}
use Rattle.pj_hash.specs.Hashes.{with_bytes}
use Rattle.pj_state.specs.declared.texts.TextKey.{TextKey}

abbrev pub text_key : List ℕ → TextKey
text_key bytes = record { text = bytes }

abbrev pub same_text : TextKey → TextKey → Bool
same_text x y = bytes_eq x.text y.text

-- equal texts have equal ones
abbrev pub text_hash : TextKey → ℕ
text_hash x = with_bytes 0 x.text
