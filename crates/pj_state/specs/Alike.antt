-- Texts that are equal as keys.
use Rattle.std.proofs.Common.{◌≡◌, true, [], ap, subst}
use Rattle.std.specs.Hash as fed
use Rattle.std.specs.Cmp.{IsEquivalence, decided}
use Rattle.pj_value.specs.declared.values.Value.{Value}
use Rattle.pj_value.specs.declared.values.Value.TheVariants.{Text}
use Rattle.pj_value.proofs.Orders.{equal_itself, same_if_equal}
use Rattle.pj_state.specs.Keys.{same_text, text_key, text_hash}
use Rattle.pj_state.specs.declared.texts.TextKey.{TextKey}

-- the key of a value's text
abbrev key_of : Value → TextKey
key_of (Text bytes) = text_key bytes
key_of v = text_key []

pub text_same_if_equal : (x y : TextKey) → same_text x y ≡ true → x ≡ y
text_same_if_equal x y h = ap key_of (same_if_equal (Text x.text) (Text y.text) h)

pub text_equal_if_same : (x y : TextKey) → x ≡ y → same_text x y ≡ true
text_equal_if_same x y e = subst (λ (z : TextKey). same_text x z ≡ true) e (equal_itself (Text x.text))

pub text_hashes_agree : (x y : TextKey) → same_text x y ≡ true → fed.u64 (text_hash x) ≡ fed.u64 (text_hash y)
text_hashes_agree x y t = ap (λ (z : TextKey). fed.u64 (text_hash z)) (text_same_if_equal x y t)

pub texts_equal : IsEquivalence same_text
texts_equal = decided same_text (λ x y. (text_same_if_equal x y, text_equal_if_same x y))
