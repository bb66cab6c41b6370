-- The reader takes exactly the words of the form.
use Rattle.std.proofs.Common.{◌≡◌, ◌∙◌, ◌++◌, Bool, true, false, true≢false, refl, sym, ap, List, [], ◌∷◌, map, None, not, ◌&&◌, ◌||◌}
use Rattle.std.specs.List.{list_all, list_any}
use Rattle.std.specs.Str.{bytes_eq}
use Rattle.clap.specs.Simple.{Shape}
use Rattle.clap.proofs.SimpleLemmas.{is_false}
use Rattle.clap.proofs.WalkLemmas.{both}
use Rattle.pj_words.specs.Form.{Choice, Form, Text, fits_option, fits_range, check_form, is_among, make_form, name_of, no_repeat, options_in, replay_form, run_form, words_of}
use Rattle.pj_words.specs.Reader.{HasForm, ReadsExactly, reads, start}
use Rattle.pj_words.proofs.Complete.{complete, only_last}
use Rattle.pj_words.proofs.Parts.{Knows}
use Rattle.pj_words.proofs.Known.{check_knows, check_shape, make_knows, make_shape, replay_knows, replay_shape, run_knows, run_shape, number_is_no_flag}
use Rattle.pj_words.proofs.Sound.{all_new, same_either_way, sound}

-- none of the names is among these
abbrev all_other : List Text → List Text → Bool
all_other names = list_all (λ x. not (is_among names x))

both_true : (a b : Bool) → a ≡ true → b ≡ true → (a && b) ≡ true
both_true a b e f = rw (e, f) refl

other_more : (x : Text) (names xs : List Text) → all_other (x ∷ names) xs ≡ true → (is_among xs x ≡ false) × (all_other names xs ≡ true)
other_more x names [] e = (refl, refl)
other_more x names (y ∷ ys) e =
    let a = both (not (is_among (x ∷ names) y)) _ e in
    let n = is_false (bytes_eq y x || is_among names y) a.0 in
    let m = other_more x names ys a.1 in
    let p = neither (bytes_eq y x) (is_among names y) n in
    (rw (same_either_way x y, p.0) m.0, rw p.1 m.1)
  where
    neither : (a b : Bool) → (a || b) ≡ false → (a ≡ false) × (b ≡ false)
    neither true b e = absurd (true≢false e)
    neither false b e = (refl, e)

more_other : (x : Text) (names xs : List Text) → is_among xs x ≡ false → all_other names xs ≡ true → all_other (x ∷ names) xs ≡ true
more_other x names [] e f = refl
more_other x names (y ∷ ys) e f =
    let n = neither (bytes_eq x y) (is_among ys x) e in
    let a = both (not (is_among names y)) _ f in
    rw (same_either_way y x, n.0) (both_true _ _ a.0 (more_other x names ys n.1 a.1))
  where
    neither : (a b : Bool) → (a || b) ≡ false → (a ≡ false) × (b ≡ false)
    neither true b e = absurd (true≢false e)
    neither false b e = (refl, e)

new_apart : (names xs : List Text) → all_new names xs ≡ true → (no_repeat xs ≡ true) × (all_other names xs ≡ true)
new_apart names [] e = (refl, refl)
new_apart names (x ∷ xs) e =
    let a = both (not (is_among names x)) _ e in
    let r = new_apart (x ∷ names) xs a.1 in
    let m = other_more x names xs r.1 in
    (rw (m.0, r.0) refl, rw (a.0, m.1) refl)

apart_new : (names xs : List Text) → no_repeat xs ≡ true → all_other names xs ≡ true → all_new names xs ≡ true
apart_new names [] e f = refl
apart_new names (x ∷ xs) e f =
    let a = both (not (is_among xs x)) _ e in
    let b = both (not (is_among names x)) _ f in
    rw (b.0) (apart_new (x ∷ names) xs a.1 (more_other x names xs (is_false (is_among xs x) a.0) b.1))

all_from_none : (xs : List Text) → all_other [] xs ≡ true
all_from_none [] = refl
all_from_none (x ∷ xs) = all_from_none xs

form_read : (c : Form) (words : List Text) → reads c words (start c) ≡ true → HasForm c words
form_read c words e =
    let m = sound c words c.operands false [] None e in (
      m.parts,
      m.are ∙ ap (λ more. more ++ words_of m.parts) (m.none refl),
      record {
        operands = m.fits.operands;
        options = m.fits.options;
        once = (new_apart [] (map name_of (options_in m.parts)) m.fits.once).0;
        not_both = m.fits.not_both;
      },
    )

read_form : (c : Form) (s : Shape) → ((ch : Choice) → fits_option c ch ≡ true → Knows s ch)
    → ((name digits : Text) → list_any (fits_range name digits) c.numbers ≡ true → is_among c.flags name ≡ false) → only_last c.operands ≡ true
    → (words : List Text) → HasForm c words → reads c words (start c) ≡ true
read_form c s knows no_flag only words h = let parts = h.0 in let line = h.2 in rw h.1 (complete c s knows no_flag parts c.operands false [] (λ h. absurd (true≢false (sym h))) only (record {
  operands = line.operands;
  options = line.options;
  once = apart_new [] (map name_of (options_in parts)) line.once (all_from_none (map name_of (options_in parts)));
  not_both = line.not_both;
}))

pub run_exact : ReadsExactly run_form
run_exact words = (form_read run_form words, read_form run_form run_shape (λ ch e. (run_knows ch e).0) (number_is_no_flag run_form (refl, (refl, tt))) refl words)

pub replay_exact : ReadsExactly replay_form
replay_exact words = (form_read replay_form words, read_form replay_form replay_shape (λ ch e. (replay_knows ch e).0) (number_is_no_flag replay_form (refl, tt)) refl words)

pub check_exact : ReadsExactly check_form
check_exact words = (form_read check_form words, read_form check_form check_shape (λ ch e. (check_knows ch e).0) (number_is_no_flag check_form tt) refl words)

pub make_exact : ReadsExactly make_form
make_exact words = (form_read make_form words, read_form make_form make_shape (λ ch e. (make_knows ch e).0) (number_is_no_flag make_form tt) refl words)
