-- The reader takes exactly the words of the form.
use Rattle.std.proofs.Common.{◌≡◌, ◌∙◌, ◌++◌, ℕ, zero, suc, arith, Bool, true, false, true≢false, eqb-true, refl, sym, ap, ap₂, List, [], ◌∷◌, map, Option, Some, None, codes, ◌==◌, not, ◌&&◌, ◌||◌, if◌then◌else◌, is_some}
use Rattle.std.specs.List.{list_all, list_any}
use Rattle.std.specs.Str.{bytes_eq}
use Rattle.std.specs.Prelude.{option_and_then, unwrap_or}
use Rattle.std.proofs.lemmas.Bool.Decides.{Decides-eqb}
use Rattle.std.proofs.lemmas.Slice.Eq.{bytes_eq-Decides}
use Rattle.clap.specs.Lexer.{long_of, long_of_rest, name_and_value}
use Rattle.clap.proofs.CutLemmas.{Lacks, after_first-at, before_first-Lacks, before_first-at, list_any-Lacks, list_any-at}
use Rattle.clap.proofs.WalkLemmas.{both}
use Rattle.pj_words.specs.Form.{Choice, Form, Kind, Operand, Part, Ranged, Text, apart, choice_words, fit_operands, fits_kind, fits_option, fits_range, flag, has_option, is_among, is_number, is_numbered, is_operand, joined, name_of, number, one, operand, operands_in, option, options_in, several, words_of}
use Rattle.pj_words.specs.Reader.{begins_dash, goes_on, has_name, may_repeat, new_option, next_operand, operand_step, option_step, reads}

-- none of these names was given before
abbrev pub all_new : List Text → List Text → Bool
all_new names [] = true
all_new names (x ∷ xs) = not (is_among names x) && all_new (x ∷ names) xs

abbrev pub gives : List Text → List Choice → Text → Bool
gives names choices name = has_name names name || has_option name choices

-- the parts fit what was read before
pub record FitsFrom (c : Form) (left : List Operand) (names : List Text) (parts : List Part) : Type 0 where
  pub operands : fit_operands left (operands_in parts) ≡ true
  pub options : list_all (fits_option c) (options_in parts) ≡ true
  pub once : all_new names (map name_of (options_in parts)) ≡ true
  pub not_both : (gives names (options_in parts) (codes "sorted") && gives names (options_in parts) (codes "trace")) ≡ false

-- the words are further FILEs, where they may follow, and then these parts
pub record Ends (c : Form) (inside : Bool) (left : List Operand) (names : List Text) (words : List Text) : Type 0 where
  pub more : List Text
  pub parts : List Part
  pub are : words ≡ more ++ words_of parts
  pub files : list_all is_operand more ≡ true
  pub none : inside ≡ false → more ≡ []
  pub fits : FitsFrom c left names parts

-- the first word is the number of the option that wants one
pub record Wanted (c : Form) (name : Text) (left : List Operand) (names : List Text) (words : List Text) : Type 0 where
  pub digits : Text
  pub rest : List Text
  pub are : words ≡ digits ∷ rest
  pub number : list_any (fits_range name digits) c.numbers ≡ true
  pub ends : Ends c false left names rest

abbrev Means : Form → Bool → List Operand → List Text → Option Text → List Text → Type 0
Means c inside left names None words = Ends c inside left names words
Means c inside left names (Some name) words = Wanted c name left names words

pub or_moves : (a b x : Bool) → ((x || a) || b) ≡ (a || (x || b))
or_moves true b true = refl
or_moves false b true = refl
or_moves true b false = refl
or_moves false b false = refl

pub gives_moves : (names : List Text) (ch : Choice) (choices : List Choice) (name : Text) → gives (name_of ch ∷ names) choices name ≡ gives names (ch ∷ choices) name
gives_moves names ch choices name = or_moves (has_name names name) (has_option name choices) (bytes_eq (name_of ch) name)

-- one more option in front
option_fits : (c : Form) (left : List Operand) (names : List Text) (ch : Choice) (parts : List Part) → fits_option c ch ≡ true → is_among names (name_of ch) ≡ false
    → FitsFrom c left (name_of ch ∷ names) parts → FitsFrom c left names (option ch ∷ parts)
option_fits c left names ch parts fits new f = record {
  operands = f.operands;
  options = rw fits f.options;
  once = rw new f.once;
  not_both = ap₂ (λ (a b : Bool). a && b) (sym (gives_moves names ch (options_in parts) (codes "sorted"))) (sym (gives_moves names ch (options_in parts) (codes "trace"))) ∙ f.not_both;
}

pub option_first : (c : Form) (inside : Bool) (left : List Operand) (names : List Text) (ch : Choice) (words : List Text) → fits_option c ch ≡ true → is_among names (name_of ch) ≡ false
    → Ends c false left (name_of ch ∷ names) words → Ends c inside left names (choice_words ch ++ words)
option_first c inside left names ch words fits new e = record {
  more = [];
  parts = option ch ∷ e.parts;
  are = ap (λ ws. choice_words ch ++ ws) (e.are ∙ ap (λ ms. ms ++ words_of e.parts) (e.none refl));
  files = refl;
  none = λ h. refl;
  fits = option_fits c left names ch e.parts fits new e.fits;
}

-- ---- the reader's words have the form

pub by_test : (P : Type 0) (b : Bool) → (b ≡ true → P) → (b ≡ false → P) → P
by_test P true f g = f refl
by_test P false f g = g refl

pub same_either_way : (x y : Text) → bytes_eq x y ≡ bytes_eq y x
same_either_way x y = by_test _ (bytes_eq x y)
    (λ yes. yes ∙ sym ((bytes_eq-Decides y x).1 (sym ((bytes_eq-Decides x y).0 yes))))
    (λ no. no ∙ sym (is_not (bytes_eq y x) (λ h. true≢false (sym ((bytes_eq-Decides x y).1 (sym ((bytes_eq-Decides y x).0 h))) ∙ no))))
  where
    is_not : (b : Bool) → (b ≡ true → ⊥) → b ≡ false
    is_not true f = absurd (f refl)
    is_not false f = refl

-- an option with a number is numbered
pub ranged_name : (name digits : Text) (rs : List Ranged) → list_any (fits_range name digits) rs ≡ true → list_any (λ (r : Ranged). bytes_eq name r.name) rs ≡ true
ranged_name name digits [] e = e
ranged_name name digits (r ∷ rs) e = go (bytes_eq name r.name) (is_number r.least r.most digits) e (ranged_name name digits rs)
  where
    go : (b x : Bool) → ((b && x) || list_any (fits_range name digits) rs) ≡ true → (list_any (fits_range name digits) rs ≡ true → list_any (λ (r : Ranged). bytes_eq name r.name) rs ≡ true)
        → (b || list_any (λ (r : Ranged). bytes_eq name r.name) rs) ≡ true
    go true x h ih = refl
    go false x h ih = ih h

abbrev joined_rest : Text → Option Text → Text
joined_rest name None = name
joined_rest name (Some digits) = name ++ 61 ∷ digits

abbrev joined_word : Text → Option Text → Text
joined_word name v = 45 ∷ 45 ∷ joined_rest name v

several_fit : (k : Kind) (word : Text) (more : List Text) → fits_kind k (word ∷ []) ≡ true → list_all is_operand more ≡ true → (may_repeat k ≡ false → more ≡ [])
    → fits_kind k (word ∷ more) ≡ true
several_fit one word more fit files none = rw (none refl) fit
several_fit (number least most) word more fit files none = rw (none refl) fit
several_fit several word more fit files none = rw ((both (is_operand word) _ fit).0, files) refl

none_some : {X : Type 0} {x : X} → None ≡ Some x → ⊥
none_some e = true≢false (sym (ap is_some e))

-- the text has no `=`, or is cut at the first
data Cut (text : Text) : Type 0 where
  whole : Lacks 61 text → Cut text
  at_first : (xs ys : Text) → text ≡ xs ++ 61 ∷ ys → Lacks 61 xs → Cut text

lacks_cons : (x : ℕ) (xs : Text) → (x == 61) ≡ false → Lacks 61 xs → Lacks 61 (x ∷ xs)
lacks_cons x xs other l zero lt = λ e. true≢false (sym ((Decides-eqb x 61).1 e) ∙ other)
lacks_cons x xs other l (suc i) lt = l i (omega (arith, lt))

longer : (x : ℕ) (xs : Text) → (x == 61) ≡ false → Cut xs → Cut (x ∷ xs)
longer x xs other (whole l) = whole (lacks_cons x xs other l)
longer x xs other (at_first ys zs is l) = at_first (x ∷ ys) zs (ap (λ t. x ∷ t) is) (lacks_cons x ys other l)

cut_of : (text : Text) → Cut text
cut_of [] = whole (λ i lt. absurd (omega (arith, lt)))
cut_of (x ∷ xs) = by_test _ (x == 61)
    (λ yes. at_first [] xs (rw (eqb-true x 61 yes) refl) (λ i lt. absurd (omega (arith, lt))))
    (λ no. longer x xs no (cut_of xs))

cut_is : (text : Text) → text ≡ joined_rest (name_and_value text).0 (name_and_value text).1
cut_is text = go (cut_of text)
  where
    go : Cut text → text ≡ joined_rest (name_and_value text).0 (name_and_value text).1
    go (whole lacks) = rw (before_first-Lacks 61 text lacks, list_any-Lacks 61 text lacks) refl
    go (at_first xs ys is lacks) = rw (is, before_first-at 61 xs ys lacks, after_first-at 61 xs ys lacks, list_any-at 61 xs ys) refl

rest_is : (rest name : Text) (v : Option Text) → option_and_then long_of_rest (Some rest) ≡ Some (name, v) → rest ≡ joined_rest name v
rest_is [] name v e = absurd (none_some e)
rest_is (x ∷ xs) name v e =
    let same : name_and_value (x ∷ xs) ≡ (name, v) = ap (λ o. unwrap_or o (name, v)) e in
    cut_is (x ∷ xs) ∙ ap (λ (p : Text × Option Text). joined_rest p.0 p.1) same

long_is : (word name : Text) (v : Option Text) → long_of word ≡ Some (name, v) → word ≡ joined_word name v
long_is [] name v e = absurd (none_some e)
long_is (x ∷ []) name v e = by_test _ (x == 45) (λ yes. absurd (none_some (rw yes at e))) (λ no. absurd (none_some (rw no at e)))
long_is (x ∷ y ∷ rest) name v e = by_test _ (x == 45)
    (λ yes. by_test _ (y == 45)
    (λ also. rw (eqb-true x 45 yes, eqb-true y 45 also) (ap (λ t. 45 ∷ 45 ∷ t) (rest_is rest name v (rw (yes, also) at e))))
    (λ no. absurd (none_some (rw (yes, no) at e))))
    (λ no. absurd (none_some (rw no at e)))

module _ (c : Form) (word : Text) (words : List Text) (ih : (left : List Operand) (inside : Bool) (names : List Text) (wants : Option Text)
    → reads c words (record { left = left; inside = inside; names = names; wants = wants }) ≡ true → Means c inside left names wants words) where
  wanted_sound : (left : List Operand) (inside : Bool) (names : List Text) (name : Text)
      → goes_on (reads c words) (if list_any (fits_range name word) c.numbers then Some (record { left = left; inside = false; names = names; wants = None }) else None) ≡ true
      → Wanted c name left names (word ∷ words)
  wanted_sound left inside names name e = by_test _ (list_any (fits_range name word) c.numbers)
      (λ yes. record { digits = word; rest = words; are = refl; number = yes; ends = ih left false names None (rw yes at e) })
      (λ no. absurd (true≢false (sym (rw no at e))))

  next_sound : (left : List Operand) (inside : Bool) (names : List Text)
      → goes_on (reads c words) (next_operand (record { left = left; inside = inside; names = names; wants = None }) left word) ≡ true → Ends c inside left names (word ∷ words)
  next_sound [] inside names e = absurd (true≢false (sym e))
  next_sound (o ∷ os) inside names e = by_test _ (fits_kind o.kind (word ∷ []))
      (λ yes.
      let x = ih os (may_repeat o.kind) names None (rw yes at e) in
      record {
        more = [];
        parts = operand (word ∷ x.more) ∷ x.parts;
        are = ap (λ ws. word ∷ ws) x.are;
        files = refl;
        none = λ h. refl;
        fits = record {
          operands = rw (several_fit o.kind word x.more yes x.files x.none) x.fits.operands;
          options = x.fits.options;
          once = x.fits.once;
          not_both = x.fits.not_both;
        };
      })
      (λ no. absurd (true≢false (sym (rw no at e))))

  operand_sound : (left : List Operand) (inside : Bool) (names : List Text)
      → goes_on (reads c words) (operand_step (record { left = left; inside = inside; names = names; wants = None }) word) ≡ true → Ends c inside left names (word ∷ words)
  operand_sound left inside names e = by_test _ (inside && is_operand word)
      (λ yes.
      let b = both inside (is_operand word) yes in
      let x = ih left inside names None (rw yes at e) in
      record {
        more = word ∷ x.more;
        parts = x.parts;
        are = ap (λ ws. word ∷ ws) x.are;
        files = rw b.1 x.files;
        none = λ h. absurd (true≢false (sym b.0 ∙ h));
        fits = x.fits;
      })
      (λ no. next_sound left inside names (rw no at e))

  named_sound : (left : List Operand) (inside : Bool) (names : List Text) (name : Text) (v : Option Text) → word ≡ joined_word name v → is_among names name ≡ false
      → goes_on (reads c words) (new_option c (record { left = left; inside = inside; names = names; wants = None }) name v) ≡ true → Ends c inside left names (word ∷ words)
  named_sound left inside names name None is new e = by_test _ (is_among c.flags name)
      (λ yes. rw is (option_first c inside left names (flag name) words yes new (ih left false (name ∷ names) None (rw yes at e))))
      (λ no. by_test _ (is_numbered c name)
      (λ number.
      let w = ih left false (name ∷ names) (Some name) (rw (no, number) at e) in
      rw (is, w.are) (option_first c inside left names (apart name w.digits) w.rest w.number new w.ends))
      (λ other. absurd (true≢false (sym (rw (no, other) at e)))))
  named_sound left inside names name (Some digits) is new e = by_test _ (list_any (fits_range name digits) c.numbers)
      (λ yes. rw is (option_first c inside left names (joined name digits) words yes new (ih left false (name ∷ names) None (rw yes at e))))
      (λ no. absurd (true≢false (sym (rw no at e))))

  option_sound : (left : List Operand) (inside : Bool) (names : List Text) (p : Option (Text × Option Text)) → long_of word ≡ p
      → goes_on (reads c words) (option_step c (record { left = left; inside = inside; names = names; wants = None }) p) ≡ true → Ends c inside left names (word ∷ words)
  option_sound left inside names None is e = absurd (true≢false (sym e))
  option_sound left inside names (Some p) is e = by_test _ (is_among names p.0)
      (λ yes. absurd (true≢false (sym (rw yes at e))))
      (λ no. named_sound left inside names p.0 p.1 (long_is word p.0 p.1 is) no (rw no at e))

  word_sound : (left : List Operand) (inside : Bool) (names : List Text) (wants : Option Text)
      → reads c (word ∷ words) (record { left = left; inside = inside; names = names; wants = wants }) ≡ true → Means c inside left names wants (word ∷ words)
  word_sound left inside names (Some name) e = wanted_sound left inside names name e
  word_sound left inside names None e = by_test _ (begins_dash word)
      (λ yes. option_sound left inside names (long_of word) refl (rw yes at e))
      (λ no. operand_sound left inside names (rw no at e))

nothing_sound : (c : Form) (left : List Operand) (inside : Bool) (names : List Text) (wants : Option Text)
    → reads c [] (record { left = left; inside = inside; names = names; wants = wants }) ≡ true → Means c inside left names wants []
nothing_sound c left inside names (Some name) e = absurd (true≢false (sym e))
nothing_sound c (o ∷ os) inside names None e = absurd (true≢false (sym e))
nothing_sound c [] inside names None e = record {
  more = [];
  parts = [];
  are = refl;
  files = refl;
  none = λ h. refl;
  fits = record { operands = refl; options = refl; once = refl; not_both = end_both (has_name names (codes "sorted")) (has_name names (codes "trace")) e };
}
  where
    end_both : (a b : Bool) → not (a && b) ≡ true → ((a || false) && (b || false)) ≡ false
    end_both true true e = absurd (true≢false (sym e))
    end_both true false e = refl
    end_both false b e = refl

pub sound : (c : Form) (words : List Text) (left : List Operand) (inside : Bool) (names : List Text) (wants : Option Text)
    → reads c words (record { left = left; inside = inside; names = names; wants = wants }) ≡ true → Means c inside left names wants words
sound c [] left inside names wants e = nothing_sound c left inside names wants e
sound c (word ∷ words) left inside names wants e = word_sound c word words (sound c words) left inside names wants e
