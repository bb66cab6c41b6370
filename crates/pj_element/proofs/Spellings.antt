-- A loop that spells values behind vertical bars.
use Rattle.std.proofs.Common.{◌≡◌, ℕ, ◌+◌, ◌<◌, List, [], ◌∷◌, ◌++◌, length, get_or, take, ap, sym, ◌∙◌, append_assoc, append-nil}
use Rattle.std.proofs.lemmas.List.{take_more}
use Rattle.pj_value.specs.declared.values.Value.{Value}
use Rattle.pj_value.specs.Texts.{value_spelling}
use Rattle.pj_element.specs.Elements.{more_members}

more_push : (values : List Value) (v : Value) → more_members (values ++ v ∷ []) ≡ more_members values ++ (124 ∷ value_spelling v)
more_push [] v = ap (λ (xs : List ℕ). 124 ∷ xs) (append-nil (value_spelling v))
more_push (w ∷ ws) v =
    ap (λ (xs : List ℕ). 124 ∷ value_spelling w ++ xs) (more_push ws v)
    ∙ ap (λ (xs : List ℕ). 124 ∷ xs) (sym (append_assoc (value_spelling w) (more_members ws) (124 ∷ value_spelling v)))

pub one_more_member : (values : List Value) (i : ℕ) (v : Value) (start out barred written : List ℕ) → i < length values → v ≡ get_or values i v → out ≡ start ++ more_members (take i values) → barred ≡ out ++ 124 ∷ [] → written ≡ barred ++ value_spelling v → written ≡ start ++ more_members (take (i + 1) values)
one_more_member values i v start out barred written lt is before bar spelled =
    spelled
    ∙ (ap (λ (xs : List ℕ). xs ++ value_spelling v) (bar ∙ ap (λ (xs : List ℕ). xs ++ 124 ∷ []) before)
    ∙ (append_assoc (start ++ more_members (take i values)) (124 ∷ []) (value_spelling v)
    ∙ (append_assoc start (more_members (take i values)) (124 ∷ value_spelling v)
    ∙ ap (λ (xs : List ℕ). start ++ xs) (sym (ap more_members (take_more values i v lt ∙ ap (λ (w : Value). take i values ++ w ∷ []) (sym is)) ∙ more_push (take i values) v)))))
