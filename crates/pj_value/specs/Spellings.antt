-- What spelling is kept.
use Rattle.std.specs.Prelude.{ℕ, List, Option, None, Some}
use Rattle.pj_value.specs.declared.spelling.Kept.{Kept}
use Rattle.pj_value.specs.declared.spelling.Kept.TheVariants.{Nothing, Short, Long, Shared}

-- its bytes, wherever they stand
abbrev pub spelling_in : Kept → Option (List ℕ)
spelling_in Nothing = None
spelling_in (Short bytes) = Some bytes.items
spelling_in (Long bytes) = Some bytes
spelling_in (Shared text) = Some text
