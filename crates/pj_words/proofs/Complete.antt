-- The reader takes all words of the form.
use Rattle.std.proofs.Common.{◌≡◌, ◌∙◌, ◌++◌, ℕ, Bool, true, false, true≢false, eqb-true, refl, sym, ap, ap₂, subst, List, [], ◌∷◌, None, codes, ◌==◌, not, ◌&&◌, ◌||◌}
use Rattle.std.specs.List.{list_all, list_any}
use Rattle.clap.specs.Simple.{Shape}
use Rattle.clap.proofs.SimpleLemmas.{is_false}
use Rattle.clap.proofs.WalkLemmas.{both}
use Rattle.pj_words.specs.Form.{Choice, Form, Kind, Operand, Part, Text, apart, fits_kind, fits_option, fits_range, flag, is_among, is_digit, is_number, is_operand, joined, name_of, number, one, operand, option, options_in, several, words_of}
use Rattle.pj_words.specs.Reader.{Seen, begins_dash, has_name, is_done, may_repeat, reads}
use Rattle.pj_words.proofs.Parts.{Knows}
use Rattle.pj_words.proofs.Sound.{FitsFrom, gives_moves, ranged_name}

-- only the last operand may have several words
abbrev pub only_last : List Operand → Bool
only_last [] = true
only_last (o ∷ os) = (not (may_repeat o.kind) || is_done os) && only_last os

pub no_dash : (word : Text) → is_operand word ≡ true → begins_dash word ≡ false
no_dash [] e = absurd (true≢false (sym e))
no_dash (b ∷ bs) e = is_false (b == 45) e

pub digit_no_dash : (least most : ℕ) (word : Text) → is_number least most word ≡ true → begins_dash word ≡ false
digit_no_dash least most [] e = absurd (true≢false (sym e))
digit_no_dash least most (b ∷ bs) e = go (b == 45) refl (both _ _ (both _ _ (both _ _ (both _ _ e).1).1).0).0
  where
    go : (t : Bool) → (b == 45) ≡ t → is_digit b ≡ true → t ≡ false
    go true is digit = absurd (true≢false (sym (subst (λ (x : ℕ). is_digit x ≡ true) (eqb-true b 45 is) digit)))
    go false is digit = refl

no_words : (k : Kind) → fits_kind k [] ≡ true → ⊥
no_words one e = true≢false (sym e)
no_words (number least most) e = true≢false (sym e)
no_words several e = true≢false (sym e)

-- the words of one operand
record FirstWord (k : Kind) (word : Text) (more : List Text) : Type 0 where
  pub plain : begins_dash word ≡ false
  pub fits : fits_kind k (word ∷ []) ≡ true
  pub files : list_all is_operand more ≡ true
  pub none : may_repeat k ≡ false → more ≡ []

first_word : (k : Kind) (word : Text) (more : List Text) → fits_kind k (word ∷ more) ≡ true → FirstWord k word more
first_word one word [] e = record { plain = no_dash word e; fits = e; files = refl; none = λ h. refl }
first_word one word (x ∷ xs) e = absurd (true≢false (sym e))
first_word (number least most) word [] e = record { plain = digit_no_dash least most word e; fits = e; files = refl; none = λ h. refl }
first_word (number least most) word (x ∷ xs) e = absurd (true≢false (sym e))
first_word several word more e =
    let b = both (is_operand word) _ e in
    record { plain = no_dash word b.0; fits = rw b.0 refl; files = b.1; none = λ h. absurd (true≢false h) }

module _ (c : Form) where
  abbrev seen : List Operand → Bool → List Text → Seen
  seen left inside names = record { left = left; inside = inside; names = names; wants = None }

  files_read : (left : List Operand) (names : List Text) (more words : List Text) → list_all is_operand more ≡ true
      → reads c words (seen left true names) ≡ true → reads c (more ++ words) (seen left true names) ≡ true
  files_read left names [] words all e = e
  files_read left names (word ∷ more) words all e =
      let b = both (is_operand word) _ all in
      rw (no_dash word b.0, b.0) (files_read left names more words b.1 e)

  others_read : (k : Kind) (left : List Operand) (names : List Text) (word : Text) (more words : List Text) → FirstWord k word more
      → reads c words (seen left (may_repeat k) names) ≡ true → reads c (more ++ words) (seen left (may_repeat k) names) ≡ true
  others_read one left names word more words f e = rw (f.none refl) e
  others_read (number least most) left names word more words f e = rw (f.none refl) e
  others_read several left names word more words f e = files_read left names more words f.files e

  module _ (s : Shape) (knows : (ch : Choice) → fits_option c ch ≡ true → Knows s ch)
      (no_flag : (name digits : Text) → list_any (fits_range name digits) c.numbers ≡ true → is_among c.flags name ≡ false) where
    option_read : (ch : Choice) (parts : List Part) (left : List Operand) (inside : Bool) (names : List Text) → fits_option c ch ≡ true → is_among names (name_of ch) ≡ false
        → reads c (words_of parts) (seen left false (name_of ch ∷ names)) ≡ true → reads c (words_of (option ch ∷ parts)) (seen left inside names) ≡ true
    option_read (flag name) parts left inside names fits new e = rw ((knows (flag name) fits).long, new, fits) e
    option_read (apart name digits) parts left inside names fits new e = rw ((knows (apart name digits) fits).long, new, no_flag name digits fits, ranged_name name digits c.numbers fits, fits) e
    option_read (joined name digits) parts left inside names fits new e = rw ((knows (joined name digits) fits).long_joined digits, new, fits) e

    pub complete : (parts : List Part) (left : List Operand) (inside : Bool) (names : List Text) → (inside ≡ true → left ≡ []) → only_last left ≡ true
        → FitsFrom c left names parts → reads c (words_of parts) (seen left inside names) ≡ true
    complete [] [] inside names last only f = ended (has_name names (codes "sorted")) (has_name names (codes "trace")) f.not_both
      where
        ended : (a b : Bool) → ((a || false) && (b || false)) ≡ false → not (a && b) ≡ true
        ended true true e = absurd (true≢false e)
        ended true false e = refl
        ended false b e = refl
    complete [] (o ∷ os) inside names last only f = absurd (true≢false (sym f.operands))
    complete (operand words ∷ parts) [] inside names last only f = absurd (true≢false (sym f.operands))
    complete (operand [] ∷ parts) (o ∷ os) inside names last only f = absurd (no_words o.kind (both _ _ f.operands).0)
    complete (operand (word ∷ more) ∷ parts) (o ∷ os) true names last only f = absurd (true≢false (sym (ap is_done (last refl))))
    complete (operand (word ∷ more) ∷ parts) (o ∷ os) false names last only f =
        let b = both (fits_kind o.kind (word ∷ more)) _ f.operands in
        let w = first_word o.kind word more b.0 in
        let l = both (not (may_repeat o.kind) || is_done os) _ only in
        rw (w.plain, w.fits) (others_read o.kind os names word more (words_of parts) w
        (complete parts os (may_repeat o.kind) names (at_end (may_repeat o.kind) os l.0) l.1
        (record { operands = b.1; options = f.options; once = f.once; not_both = f.not_both })))
      where
        at_end : (t : Bool) (os : List Operand) → (not t || is_done os) ≡ true → t ≡ true → os ≡ []
        at_end true [] e h = refl
        at_end true (o ∷ os) e h = absurd (true≢false (sym e))
        at_end false os e h = absurd (true≢false (sym h))
    complete (option ch ∷ parts) left inside names last only f =
        let o = both (not (is_among names (name_of ch))) _ f.once in
        let p = both (fits_option c ch) _ f.options in
        option_read ch parts left inside names p.0 (is_false (is_among names (name_of ch)) o.0)
        (complete parts left false (name_of ch ∷ names) (λ h. absurd (true≢false (sym h))) only (record {
          operands = f.operands;
          options = p.1;
          once = o.1;
          not_both = ap₂ (λ (a b : Bool). a && b) (gives_moves names ch (options_in parts) (codes "sorted")) (gives_moves names ch (options_in parts) (codes "trace")) ∙ f.not_both;
        }))
