-- Loops over the cells of a line.
use Rattle.std.proofs.Common.{◌≡◌, ℕ, ◌+◌, ◌<◌, ◌≤◌, List, [], ◌∷◌, ◌++◌, Option, Some, None, length, drop, get_or, refl, ap, sym, ◌∙◌, append_assoc, append-nil}
use Rattle.std.proofs.lemmas.List.{at_drop_more, at_drop_all}
use Rattle.pj_value.specs.Options.{with_first, with_front, both}
use Rattle.pj_line.specs.Spans.{Span}
use Rattle.pj_line.specs.Cells.{bytes_in}
use Rattle.pj_plan_text.specs.Cuts.{all_of}
use Rattle.pj_plan.specs.declared.statement.TestWord.{TestWord}
use Rattle.pj_plan_text.specs.CellWords.{test_of}
use Rattle.pj_plan_text.specs.Statements.{pairs_of}

-- ---- the cells that are lent

pub words_more : (cells : List Span) (i : ℕ) (cell : Span) (done : List (List ℕ)) (word : List ℕ) → done ++ bytes_in (drop i cells) ≡ bytes_in cells → i < length cells → cell ≡ get_or cells i cell → word ≡ cell.bytes
    → (done ++ word ∷ []) ++ bytes_in (drop (i + 1) cells) ≡ bytes_in cells
words_more cells i cell done word before lt is are =
    append_assoc done (word ∷ []) (bytes_in (drop (i + 1) cells))
    ∙ (ap (λ (c : List ℕ). done ++ (c ∷ bytes_in (drop (i + 1) cells))) (are ∙ ap (λ (c : Span). c.bytes) is)
    ∙ (ap (λ (cs : List (List ℕ)). done ++ cs) (sym (at_drop_more bytes_in cells i cell lt)) ∙ before))

pub words_end : (cells : List Span) (i : ℕ) (done : List (List ℕ)) → done ++ bytes_in (drop i cells) ≡ bytes_in cells → length cells ≤ i → done ≡ bytes_in cells
words_end cells i done before le = sym (append-nil done) ∙ (ap (λ (cs : List (List ℕ)). done ++ cs) (sym (at_drop_all bytes_in cells i le)) ∙ before)

-- ---- cells that each have to say something

one_more : {A : Type 0} (done : List A) (x : A) (o : Option (List A)) → with_front done (with_first x o) ≡ with_front (done ++ x ∷ []) o
one_more done x None = refl
one_more done x (Some xs) = ap Some (sym (append_assoc done (x ∷ []) xs))

pub none_yet : {A : Type 0} (o : Option (List A)) → o ≡ with_front [] o
none_yet None = refl
none_yet (Some xs) = refl

pub item_good : {A : Type 0} {B : Type 0} (f : A → Option B) (items rest behind : List A) (item : A) (done : List B) (x : B) → all_of f items ≡ with_front done (all_of f rest) → rest ≡ item ∷ behind → Some x ≡ f item → all_of f items ≡ with_front (done ++ x ∷ []) (all_of f behind)
item_good f items rest behind item done x before cut said =
    before ∙ (ap (λ (r : List _). with_front done (all_of f r)) cut ∙ (ap (λ (o : Option _). with_front done (both o (all_of f behind))) (sym said) ∙ one_more done x (all_of f behind)))

pub item_bad : {A : Type 0} {B : Type 0} (f : A → Option B) (items rest behind : List A) (item : A) (done : List B) → all_of f items ≡ with_front done (all_of f rest) → rest ≡ item ∷ behind → None ≡ f item → all_of f items ≡ None
item_bad f items rest behind item done before cut said =
    before ∙ (ap (λ (r : List _). with_front done (all_of f r)) cut ∙ ap (λ (o : Option _). with_front done (both o (all_of f behind))) (sym said))

pub items_end : {A : Type 0} {B : Type 0} (f : A → Option B) (items rest : List A) (done : List B) → all_of f items ≡ with_front done (all_of f rest) → rest ≡ [] → all_of f items ≡ Some done
items_end f items rest done before end = before ∙ (ap (λ (r : List _). with_front done (all_of f r)) end ∙ ap Some (append-nil done))

-- ---- pairs of cells

pub pair_good : (cells rest behind : List (List ℕ)) (column cell : List ℕ) (done : List TestWord) (x : TestWord) → pairs_of cells ≡ with_front done (pairs_of rest) → rest ≡ column ∷ cell ∷ behind → Some x ≡ test_of column cell → pairs_of cells ≡ with_front (done ++ x ∷ []) (pairs_of behind)
pair_good cells rest behind column cell done x before cut said =
    before ∙ (ap (λ (r : List (List ℕ)). with_front done (pairs_of r)) cut ∙ (ap (λ (o : Option TestWord). with_front done (both o (pairs_of behind))) (sym said) ∙ one_more done x (pairs_of behind)))

pub pair_bad : (cells rest behind : List (List ℕ)) (column cell : List ℕ) (done : List TestWord) → pairs_of cells ≡ with_front done (pairs_of rest) → rest ≡ column ∷ cell ∷ behind → None ≡ test_of column cell → pairs_of cells ≡ None
pair_bad cells rest behind column cell done before cut said =
    before ∙ (ap (λ (r : List (List ℕ)). with_front done (pairs_of r)) cut ∙ ap (λ (o : Option TestWord). with_front done (both o (pairs_of behind))) (sym said))

pub pairs_end : (cells rest : List (List ℕ)) (done : List TestWord) → pairs_of cells ≡ with_front done (pairs_of rest) → rest ≡ [] → pairs_of cells ≡ Some done
pairs_end cells rest done before end = before ∙ (ap (λ (r : List (List ℕ)). with_front done (pairs_of r)) end ∙ ap Some (append-nil done))

pub pair_open : (cells rest : List (List ℕ)) (column : List ℕ) (done : List TestWord) → pairs_of cells ≡ with_front done (pairs_of rest) → rest ≡ column ∷ [] → pairs_of cells ≡ None
pair_open cells rest column done before end = before ∙ ap (λ (r : List (List ℕ)). with_front done (pairs_of r)) end
