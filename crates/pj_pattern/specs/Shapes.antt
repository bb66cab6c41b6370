-- The form of a pattern, lent.
use Rattle.std.specs.Prelude.{◌≡◌}
use Rattle.std.specs.Option.{option_copied}
use Rattle.pj_pattern.specs.declared.pattern.Form.TheVariants.{Wild, Empty, Constant, Range, Members}
use Rattle.pj_pattern.specs.declared.pattern.Shape.{Shape}
use Rattle.pj_pattern.specs.declared.pattern.Shape.TheVariants.{Wild as WildShape, Empty as EmptyShape, Constant as ConstantShape, Range as RangeShape, Members as MembersShape}
use Rattle.pj_pattern.specs.Patterns.{Pattern}

-- what is lent is the pattern
abbrev pub IsShape : Pattern → Shape → Type 0
IsShape p WildShape = p ≡ Wild
IsShape p EmptyShape = p ≡ Empty
IsShape p (ConstantShape v) = p ≡ Constant v.now
IsShape p (RangeShape low high) = p ≡ Range (option_copied low) (option_copied high)
IsShape p (MembersShape vs) = p ≡ Members vs.now
