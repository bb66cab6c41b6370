-- The cells of canonical lines, one behind the other.
use Rattle.std.proofs.Common.{◌≡◌, ℕ, List, [], ◌∷◌, ◌++◌, refl, ap, sym, ◌∙◌, append_assoc}
use Rattle.pj_plan_text.specs.Spelling.{each_behind}

pub more_behind : (mark : ℕ) (cells others : List (List ℕ)) → each_behind mark (cells ++ others) ≡ each_behind mark cells ++ each_behind mark others
more_behind mark [] others = refl
more_behind mark (c ∷ cs) others = ap (λ (more : List ℕ). (mark ∷ c) ++ more) (more_behind mark cs others) ∙ sym (append_assoc (mark ∷ c) (each_behind mark cs) (each_behind mark others))

-- a word between two lists of cells
pub word_between : (old first second new word : List ℕ) (cells others : List (List ℕ)) → first ≡ old ++ each_behind 32 cells → second ≡ first ++ 32 ∷ word → new ≡ second ++ each_behind 32 others
    → new ≡ old ++ each_behind 32 (cells ++ word ∷ others)
word_between old first second new word cells others one two three =
    three ∙ (ap (λ (o : List ℕ). o ++ each_behind 32 others) two
    ∙ (append_assoc first (32 ∷ word) (each_behind 32 others)
    ∙ (ap (λ (o : List ℕ). o ++ each_behind 32 (word ∷ others)) one
    ∙ (append_assoc old (each_behind 32 cells) (each_behind 32 (word ∷ others))
    ∙ ap (λ (more : List ℕ). old ++ more) (sym (more_behind 32 cells (word ∷ others)))))))
