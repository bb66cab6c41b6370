-- A line has no cells exactly where it ends inside quotes.
use Rattle.std.proofs.Common.{◌≡◌, ℕ, ◌+◌, Bool, true, false, List, [], ◌∷◌, Option, Some, None, refl, ap, subst, arith}
use Rattle.std.proofs.lemmas.Bool.Decides.{nat_tests}
use Rattle.pj_value.specs.Options.{with_first}
use Rattle.pj_line.specs.declared.quote.Quote.{Quote}
use Rattle.pj_line.specs.declared.quote.Quote.TheVariants.{Outside, Inside, Taken}
use Rattle.pj_line.specs.Lines.{is_blank}
use Rattle.pj_line.specs.Cells.{after, cells_from, cells_of, onto_cell, open_from, open_quote}

-- there are cells exactly where no quote is open
abbrev pub Agrees : Option ℕ → Option (List (List ℕ)) → Type 0
Agrees None cells = (cs : List (List ℕ)) × (cells ≡ Some cs)
Agrees (Some at) cells = cells ≡ None

agrees_onto : (b : ℕ) (place : Option ℕ) (cells : Option (List (List ℕ))) → Agrees place cells → Agrees place (onto_cell b cells)
agrees_onto b None cells agrees = (_, ap (onto_cell b) agrees.1)
agrees_onto b (Some at) cells agrees = ap (onto_cell b) agrees

agrees_first : (place : Option ℕ) (cells : Option (List (List ℕ))) → Agrees place cells → Agrees place (with_first [] cells)
agrees_first None cells agrees = (_, ap (with_first []) agrees.1)
agrees_first (Some at) cells agrees = ap (with_first []) agrees

blank_stays_outside : (b : ℕ) → is_blank b ≡ true → after Outside b ≡ Outside
blank_stays_outside b e = grind (arith, nat_tests)

-- between two cells as outside quotes
abbrev pub quote_of : Option Quote → Quote
quote_of None = Outside
quote_of (Some q) = q

pub open_agrees : (s : Option Quote) (bs : List ℕ) (at opened : ℕ) → Agrees (open_from at opened (quote_of s) bs) (cells_from s bs)
open_agrees None [] at opened = ([], refl)
open_agrees None (b ∷ bs) at opened = go (is_blank b) refl (open_agrees None bs (at + 1) at) (open_agrees (Some (after Outside b)) bs (at + 1) at)
  where
    go : (t : Bool) → is_blank b ≡ t → Agrees (open_from (at + 1) at Outside bs) (cells_from None bs) → Agrees (open_from (at + 1) at (after Outside b) bs) (cells_from (Some (after Outside b)) bs) → Agrees (open_from (at + 1) at (after Outside b) bs) (cells_from None (b ∷ bs))
    go true e between inside = rw (e, blank_stays_outside b e) between
    go false e between inside = rw e (agrees_onto b _ _ inside)
open_agrees (Some Outside) [] at opened = ([] ∷ [], refl)
open_agrees (Some Inside) [] at opened = refl
open_agrees (Some Taken) [] at opened = refl
open_agrees (Some Outside) (b ∷ bs) at opened = go (is_blank b) refl (open_agrees None bs (at + 1) at) (open_agrees (Some (after Outside b)) bs (at + 1) at)
  where
    go : (t : Bool) → is_blank b ≡ t → Agrees (open_from (at + 1) at Outside bs) (cells_from None bs) → Agrees (open_from (at + 1) at (after Outside b) bs) (cells_from (Some (after Outside b)) bs) → Agrees (open_from (at + 1) at (after Outside b) bs) (cells_from (Some Outside) (b ∷ bs))
    go true e between inside = rw (e, blank_stays_outside b e) (agrees_first _ _ between)
    go false e between inside = rw e (agrees_onto b _ _ inside)
open_agrees (Some Inside) (b ∷ bs) at opened = agrees_onto b _ _ (open_agrees (Some (after Inside b)) bs (at + 1) opened)
open_agrees (Some Taken) (b ∷ bs) at opened = agrees_onto b _ _ (open_agrees (Some (after Taken b)) bs (at + 1) opened)

pub open_line : (line : List ℕ) (at : ℕ) → open_quote line ≡ Some at → cells_of line ≡ None
open_line line at e = subst (λ (place : Option ℕ). Agrees place (cells_of line)) e (open_agrees None line 0 0)

pub closed_line : (line : List ℕ) → open_quote line ≡ None → (cs : List (List ℕ)) × (cells_of line ≡ Some cs)
closed_line line e = subst (λ (place : Option ℕ). Agrees place (cells_of line)) e (open_agrees None line 0 0)
