-- What is printed is read again.
use Rattle.std.proofs.Common.{◌≡◌, ℕ, ◌/◌, ◌%◌, ◌<◌, Bool, true, false, cond, ◌||◌, eqb, ltb, List, [], ◌∷◌, ◌++◌, Some, refl, ap, sym, ◌∙◌, append_assoc, arith}
use Rattle.std.proofs.lemmas.Bool.{eqb-true}
use Rattle.std.proofs.lemmas.Bool.Decides.{nat_tests}
use Rattle.std.specs.List.{flat_map, AllByRecursion}
use Rattle.pj_value.specs.Options.{with_first}
use Rattle.pj_value.specs.Texts.{hex_digit, spelled_byte}
use Rattle.pj_element.specs.declared.spelled.Part.TheVariants.{Plain}
use Rattle.pj_element.specs.Spelled.{hex_value, escaped, text_from}

hex_again : (h : ℕ) → h < 16 → hex_value (hex_digit h) ≡ Some h
hex_again h small = grind (arith, nat_tests)

pub slash : (e b : ℕ) (rest : List ℕ) → eqb e 120 ≡ false → escaped e ≡ Some b → text_from Plain (92 ∷ e ∷ rest) ≡ with_first b (text_from Plain rest)
slash e b rest no_x is = rw (no_x, is) refl

hex : (b : ℕ) (rest : List ℕ) → b < 256 → text_from Plain (92 ∷ 120 ∷ hex_digit (b / 16) ∷ hex_digit (b % 16) ∷ rest) ≡ with_first b (text_from Plain rest)
hex b rest small =
    rw (hex_again (b / 16) (omega arith), hex_again (b % 16) (omega arith))
    (ap (λ (x : ℕ). with_first x (text_from Plain rest)) (omega arith))

pub plain : (b : ℕ) (rest : List ℕ) → eqb b 34 ≡ false → eqb b 92 ≡ false → text_from Plain (b ∷ rest) ≡ with_first b (text_from Plain rest)
plain b rest no_quote no_slash = rw (no_quote, no_slash) refl

by_test : (t : Bool) (x y : List ℕ) (P : List ℕ → Type 0) → (t ≡ true → P x) → (t ≡ false → P y) → P (cond t x y)
by_test true x y P f g = f refl
by_test false x y P f g = g refl

-- a byte, behind which more comes
pub byte_again : (b : ℕ) (rest : List ℕ) → b < 256 → text_from Plain (spelled_byte b ++ rest) ≡ with_first b (text_from Plain rest)
byte_again b rest small =
    let P : List ℕ → Type 0 = λ xs. text_from Plain (xs ++ rest) ≡ with_first b (text_from Plain rest) in
    by_test (eqb b 34) _ _ P (λ e. slash 34 b rest refl (ap Some (sym (eqb-true b 34 e)))) (λ no34.
    by_test (eqb b 92) _ _ P (λ e. slash 92 b rest refl (ap Some (sym (eqb-true b 92 e)))) (λ no92.
    by_test (eqb b 10) _ _ P (λ e. slash 110 b rest refl (ap Some (sym (eqb-true b 10 e)))) (λ no10.
    by_test (eqb b 13) _ _ P (λ e. slash 114 b rest refl (ap Some (sym (eqb-true b 13 e)))) (λ no13.
    by_test (eqb b 9) _ _ P (λ e. slash 116 b rest refl (ap Some (sym (eqb-true b 9 e)))) (λ no9.
    by_test (ltb b 32 || eqb b 127) _ _ P (λ e. hex b rest small) (λ no_control. plain b rest no34 no92))))))

pub text_read_again : (bytes : List ℕ) → AllByRecursion (λ b. b < 256) bytes → text_from Plain (flat_map spelled_byte bytes ++ 34 ∷ []) ≡ Some bytes
text_read_again [] all = refl
text_read_again (b ∷ bs) all =
    ap (text_from Plain) (append_assoc (spelled_byte b) (flat_map spelled_byte bs) (34 ∷ []))
    ∙ (byte_again b (flat_map spelled_byte bs ++ 34 ∷ []) all.0 ∙ ap (with_first b) (text_read_again bs all.1))
