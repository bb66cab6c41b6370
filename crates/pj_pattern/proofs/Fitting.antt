-- What fits columns has as many of them.
use Rattle.std.proofs.Common.{◌≡◌, suc, true, List, [], ◌∷◌, length, refl, ap}
use Rattle.std.proofs.lemmas.Bool.{and_parts, false≢true}
use Rattle.pj_value.specs.declared.values.Value.{Value}
use Rattle.pj_value.specs.Values.{Domain, is_kind}
use Rattle.pj_pattern.specs.Patterns.{Pattern, is_of_kind}
use Rattle.pj_pattern.specs.Columns.{all_wild}
use Rattle.pj_pattern.specs.Fitting.{row_fits, punct_fits}

pub row_length : (kinds : List Domain) (row : List Value) → row_fits kinds row ≡ true → length row ≡ length kinds
row_length [] [] t = refl
row_length [] (v ∷ vs) t = absurd (false≢true t)
row_length (k ∷ ks) [] t = absurd (false≢true t)
row_length (k ∷ ks) (v ∷ vs) t = ap suc (row_length ks vs (and_parts (is_kind k v) (row_fits ks vs) t).1)

pub punct_length : (kinds : List Domain) (punct : List Pattern) → punct_fits kinds punct ≡ true → length punct ≡ length kinds
punct_length [] [] t = refl
punct_length [] (p ∷ ps) t = absurd (false≢true t)
punct_length (k ∷ ks) [] t = absurd (false≢true t)
punct_length (k ∷ ks) (p ∷ ps) t = ap suc (punct_length ks ps (and_parts (is_of_kind k p) (punct_fits ks ps) t).1)

-- wildcards alone fit
pub wild_fits : (kinds : List Domain) → punct_fits kinds (all_wild (length kinds)) ≡ true
wild_fits [] = refl
wild_fits (k ∷ ks) = wild_fits ks
