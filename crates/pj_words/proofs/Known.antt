-- What clap's command knows of the four forms.
use Rattle.std.proofs.Common.{◌≡◌, ◌∙◌, ◌++◌, ◌≤◌, ℕ, Bool, true, false, true≢false, refl, sym, ap, subst, arith, List, [], ◌∷◌, map, length, Some, codes, ◌||◌, nat_le, le-leb}
use Rattle.std.specs.List.{list_all, list_any}
use Rattle.std.specs.Str.{bytes_eq}
use Rattle.std.proofs.lemmas.Slice.Eq.{bytes_eq-Decides}
use Rattle.clap.specs.Lexer.{usize_max}
use Rattle.clap.specs.Walk.{Row, Rule, has_row, used, with_values}
use Rattle.clap.specs.Simple.{Shape, new_shape}
use Rattle.clap.specs.Takes.{use_passes, value_passes}
use Rattle.clap.specs.declared.builder.ValueParser.TheVariants as vp
use Rattle.clap.specs.declared.parser.matches.ValueSource.TheVariants.{CommandLine}
use Rattle.clap.specs.declared.builder.value_parser.Reading.TheVariants.{AsWritten}
use Rattle.clap.proofs.WalkLemmas.{both}
use Rattle.pj_words.specs.Clap.{operand_rule, files_rule, flag_rule, number_rule}
use Rattle.pj_words.specs.Form.{Choice, Form, Kind, Operand, Ranged, Text, apart, fits_kind, fits_option, fits_range, flag, is_among, joined, name_of, number, one, several, run_form, replay_form, check_form, make_form}
use Rattle.pj_words.proofs.Rows.{with_absent, without_absent}
use Rattle.pj_words.proofs.Parts.{Knows, KnowsFlag, KnowsNumber, KnowsOperands, are_others, given_row}

abbrev pub built_operand : Text → ℕ → Rule
built_operand id n = record (operand_rule id) { index = Some n; parser = Some vp.String; range = Some (record { start_inclusive = 1; end_inclusive = 1 }) }

abbrev pub built_files : ℕ → Rule
built_files n = record files_rule { index = Some n; parser = Some vp.String }

abbrev pub built_flag : Text → Rule
built_flag id = record (flag_rule id) {
  defaults = codes "false" ∷ [];
  missing = codes "true" ∷ [];
  parser = Some vp.Bool;
  range = Some (record { start_inclusive = 0; end_inclusive = 0 });
}

abbrev pub built_number : Text → Rule
built_number id = record (number_rule id) { parser = Some vp.String; range = Some (record { start_inclusive = 1; end_inclusive = 1 }) }

abbrev pub built_sub : Text → List Rule → Shape
built_sub name rules = record (new_shape name) {
  rules = rules;
  no_binary_name = true;
  disable_help_flag = true;
  disable_help_subcommand = true;
  disable_version_flag = true;
  is_built = true;
}

abbrev pub run_shape : Shape
run_shape = built_sub (codes "run") (built_operand (codes "plan") 1 ∷ built_files 2 ∷ built_number (codes "workers") ∷ built_flag (codes "sorted")
    ∷ built_flag (codes "trace") ∷ built_flag (codes "check") ∷ built_number (codes "limit") ∷ [])

abbrev pub replay_shape : Shape
replay_shape = built_sub (codes "replay") (built_operand (codes "plan") 1 ∷ built_operand (codes "script") 2 ∷ built_files 3
    ∷ built_flag (codes "trace") ∷ built_number (codes "limit") ∷ [])

abbrev pub check_shape : Shape
check_shape = built_sub (codes "check") (built_operand (codes "plan") 1 ∷ built_flag (codes "print") ∷ [])

abbrev pub make_shape : Shape
make_shape = built_sub (codes "make") (built_operand (codes "seed") 1 ∷ built_operand (codes "count") 2 ∷ [])

-- ---- one name of several

abbrev pub AllOf : (Text → Type 0) → List Text → Type 0
AllOf P [] = Unit {0}
AllOf P (x ∷ xs) = P x × AllOf P xs

pub each_among : (P : Text → Type 0) (names : List Text) (name : Text) → AllOf P names → is_among names name ≡ true → P name
each_among P [] name all e = absurd (true≢false (sym e))
each_among P (x ∷ xs) name all e = go (bytes_eq name x) refl e (each_among P xs name all.1)
  where
    go : (t : Bool) → bytes_eq name x ≡ t → (t || is_among xs name) ≡ true → (is_among xs name ≡ true → P name) → P name
    go true is h ih = subst P (sym ((bytes_eq-Decides name x).0 is)) all.0
    go false is h ih = ih h

pub each_ranged : (P : Text → Type 0) (rs : List Ranged) (name digits : Text) → AllOf P (map (λ r. r.name) rs) → list_any (fits_range name digits) rs ≡ true → P name
each_ranged P [] name digits all e = absurd (true≢false (sym e))
each_ranged P (r ∷ rs) name digits all e = go (fits_range name digits r) refl e (each_ranged P rs name digits all.1)
  where
    go : (t : Bool) → fits_range name digits r ≡ t → (t || list_any (fits_range name digits) rs) ≡ true → (list_any (fits_range name digits) rs ≡ true → P name) → P name
    go true is h ih = subst P (sym ((bytes_eq-Decides name r.name).0 (both (bytes_eq name r.name) _ is).0)) all.0
    go false is h ih = ih h

-- ---- one use

flag_makes : (name : Text) (rows : List Row) → has_row name rows ≡ false → used (built_flag name) [] rows ≡ rows ++ given_row name (codes "true" ∷ []) ∷ []
flag_makes name rows e = ap (with_values name AsWritten CommandLine (codes "true" ∷ [])) (without_absent name rows e) ∙ with_absent name AsWritten CommandLine _ rows e

number_makes : (name v : Text) (rows : List Row) → has_row name rows ≡ false → used (built_number name) (v ∷ []) rows ≡ rows ++ given_row name (v ∷ []) ∷ []
number_makes name v rows e = ap (with_values name AsWritten CommandLine (v ∷ [])) (without_absent name rows e) ∙ with_absent name AsWritten CommandLine _ rows e

one_makes : (id v : Text) (n : ℕ) (rows : List Row) → has_row id rows ≡ false → used (built_operand id n) (v ∷ []) rows ≡ rows ++ given_row id (v ∷ []) ∷ []
one_makes id v n rows e = ap (with_values id AsWritten CommandLine (v ∷ [])) (without_absent id rows e) ∙ with_absent id AsWritten CommandLine _ rows e

files_make : (v : Text) (vs : List Text) (n : ℕ) (rows : List Row) → has_row (codes "files") rows ≡ false → used (built_files n) (v ∷ vs) rows ≡ rows ++ given_row (codes "files") (v ∷ vs) ∷ []
files_make v vs n rows e = ap (with_values (codes "files") AsWritten CommandLine (v ∷ vs)) (without_absent (codes "files") rows e) ∙ with_absent (codes "files") AsWritten CommandLine _ rows e

abbrev is_single : Kind → Bool
is_single several = false
is_single kind = true

-- an option, and that it is no operand
record Option_of (s : Shape) (os : List Operand) (K : Shape → Text → Type 0) (name : Text) : Type 0 where
  pub knows : K s name
  pub other : are_others os name ≡ true

-- an operand of one word
one_fits : (id : Text) (n : ℕ) (kind : Kind) (words : List Text) (rows : List Row) → is_single kind ≡ true → fits_kind kind words ≡ true → has_row id rows ≡ false
    → (use_passes false (built_operand id n) words rows ≡ true) × (used (built_operand id n) words rows ≡ rows ++ given_row id words ∷ [])
one_fits id n several words rows single fits e = absurd (true≢false (sym single))
one_fits id n one [] rows single fits e = absurd (true≢false (sym fits))
one_fits id n one (w ∷ x ∷ xs) rows single fits e = absurd (true≢false (sym fits))
one_fits id n one (w ∷ []) rows single fits e = (rw e refl, one_makes id w n rows e)
one_fits id n (number least most) [] rows single fits e = absurd (true≢false (sym fits))
one_fits id n (number least most) (w ∷ x ∷ xs) rows single fits e = absurd (true≢false (sym fits))
one_fits id n (number least most) (w ∷ []) rows single fits e = (rw e refl, one_makes id w n rows e)

files_made : (n : ℕ) (words : List Text) (rows : List Row) → fits_kind several words ≡ true → has_row (codes "files") rows ≡ false
    → used (built_files n) words rows ≡ rows ++ given_row (codes "files") words ∷ []
files_made n [] rows fits e = absurd (true≢false (sym fits))
files_made n (w ∷ ws) rows fits e = files_make w ws n rows e

all_pass : (words : List Text) → list_all (value_passes (built_files 2)) words ≡ true
all_pass [] = refl
all_pass (w ∷ ws) = all_pass ws

files_fit : (n : ℕ) (words : List Text) (rows : List Row) → fits_kind several words ≡ true → length words ≤ usize_max → has_row (codes "files") rows ≡ false
    → (use_passes false (built_files n) words rows ≡ true) × (used (built_files n) words rows ≡ rows ++ given_row (codes "files") words ∷ [])
files_fit n [] rows fits few e = absurd (true≢false (sym fits))
files_fit n (w ∷ ws) rows fits few e =
    let low : nat_le 1 (length (w ∷ ws)) ≡ true = le-leb _ _ (omega arith) in
    let high : nat_le (length (w ∷ ws)) usize_max ≡ true = le-leb _ _ few in
    (rw (low, high, e) (all_pass ws), files_make w ws n rows e)

run_flags : AllOf (Option_of run_shape run_form.operands KnowsFlag) run_form.flags
run_flags = (
  record {
    knows = record {
      rule = built_flag (codes "sorted");
      id = refl;
      dashes = refl;
      long = refl;
      found = refl;
      none = refl;
      passes = λ rows e. rw e refl;
      makes = λ rows e. flag_makes (codes "sorted") rows e;
    };
    other = refl;
  },
  (
    record {
      knows = record {
        rule = built_flag (codes "trace");
        id = refl;
        dashes = refl;
        long = refl;
        found = refl;
        none = refl;
        passes = λ rows e. rw e refl;
        makes = λ rows e. flag_makes (codes "trace") rows e;
      };
      other = refl;
    },
    (
      record {
        knows = record {
          rule = built_flag (codes "check");
          id = refl;
          dashes = refl;
          long = refl;
          found = refl;
          none = refl;
          passes = λ rows e. rw e refl;
          makes = λ rows e. flag_makes (codes "check") rows e;
        };
        other = refl;
      },
      tt,
    ),
  ),
)

run_numbers : AllOf (Option_of run_shape run_form.operands KnowsNumber) (map (λ (r : Ranged). r.name) run_form.numbers)
run_numbers = (
  record {
    knows = record {
      rule = built_number (codes "workers");
      id = refl;
      dashes = refl;
      dashes_joined = λ v. refl;
      long = refl;
      long_joined = λ v. refl;
      found = refl;
      by_id = refl;
      same = refl;
      some = refl;
      single = refl;
      passes = λ v rows e. rw e refl;
      makes = λ v rows e. number_makes (codes "workers") v rows e;
    };
    other = refl;
  },
  (
    record {
      knows = record {
        rule = built_number (codes "limit");
        id = refl;
        dashes = refl;
        dashes_joined = λ v. refl;
        long = refl;
        long_joined = λ v. refl;
        found = refl;
        by_id = refl;
        same = refl;
        some = refl;
        single = refl;
        passes = λ v rows e. rw e refl;
        makes = λ v rows e. number_makes (codes "limit") v rows e;
      };
      other = refl;
    },
    tt,
  ),
)

pub run_knows : (ch : Choice) → fits_option run_form ch ≡ true → Knows run_shape ch × (are_others run_form.operands (name_of ch) ≡ true)
run_knows (flag name) e = let x = each_among (Option_of run_shape run_form.operands KnowsFlag) run_form.flags name run_flags e in (x.knows, x.other)
run_knows (apart name digits) e = let x = each_ranged (Option_of run_shape run_form.operands KnowsNumber) run_form.numbers name digits run_numbers e in (x.knows, x.other)
run_knows (joined name digits) e = let x = each_ranged (Option_of run_shape run_form.operands KnowsNumber) run_form.numbers name digits run_numbers e in (x.knows, x.other)

replay_flags : AllOf (Option_of replay_shape replay_form.operands KnowsFlag) replay_form.flags
replay_flags = (
  record {
    knows = record {
      rule = built_flag (codes "trace");
      id = refl;
      dashes = refl;
      long = refl;
      found = refl;
      none = refl;
      passes = λ rows e. rw e refl;
      makes = λ rows e. flag_makes (codes "trace") rows e;
    };
    other = refl;
  },
  tt,
)

replay_numbers : AllOf (Option_of replay_shape replay_form.operands KnowsNumber) (map (λ (r : Ranged). r.name) replay_form.numbers)
replay_numbers = (
  record {
    knows = record {
      rule = built_number (codes "limit");
      id = refl;
      dashes = refl;
      dashes_joined = λ v. refl;
      long = refl;
      long_joined = λ v. refl;
      found = refl;
      by_id = refl;
      same = refl;
      some = refl;
      single = refl;
      passes = λ v rows e. rw e refl;
      makes = λ v rows e. number_makes (codes "limit") v rows e;
    };
    other = refl;
  },
  tt,
)

pub replay_knows : (ch : Choice) → fits_option replay_form ch ≡ true → Knows replay_shape ch × (are_others replay_form.operands (name_of ch) ≡ true)
replay_knows (flag name) e = let x = each_among (Option_of replay_shape replay_form.operands KnowsFlag) replay_form.flags name replay_flags e in (x.knows, x.other)
replay_knows (apart name digits) e = let x = each_ranged (Option_of replay_shape replay_form.operands KnowsNumber) replay_form.numbers name digits replay_numbers e in (x.knows, x.other)
replay_knows (joined name digits) e = let x = each_ranged (Option_of replay_shape replay_form.operands KnowsNumber) replay_form.numbers name digits replay_numbers e in (x.knows, x.other)

check_flags : AllOf (Option_of check_shape check_form.operands KnowsFlag) check_form.flags
check_flags = (
  record {
    knows = record {
      rule = built_flag (codes "print");
      id = refl;
      dashes = refl;
      long = refl;
      found = refl;
      none = refl;
      passes = λ rows e. rw e refl;
      makes = λ rows e. flag_makes (codes "print") rows e;
    };
    other = refl;
  },
  tt,
)

check_numbers : AllOf (Option_of check_shape check_form.operands KnowsNumber) (map (λ (r : Ranged). r.name) check_form.numbers)
check_numbers = tt

pub check_knows : (ch : Choice) → fits_option check_form ch ≡ true → Knows check_shape ch × (are_others check_form.operands (name_of ch) ≡ true)
check_knows (flag name) e = let x = each_among (Option_of check_shape check_form.operands KnowsFlag) check_form.flags name check_flags e in (x.knows, x.other)
check_knows (apart name digits) e = let x = each_ranged (Option_of check_shape check_form.operands KnowsNumber) check_form.numbers name digits check_numbers e in (x.knows, x.other)
check_knows (joined name digits) e = let x = each_ranged (Option_of check_shape check_form.operands KnowsNumber) check_form.numbers name digits check_numbers e in (x.knows, x.other)

make_flags : AllOf (Option_of make_shape make_form.operands KnowsFlag) make_form.flags
make_flags = tt

make_numbers : AllOf (Option_of make_shape make_form.operands KnowsNumber) (map (λ (r : Ranged). r.name) make_form.numbers)
make_numbers = tt

pub make_knows : (ch : Choice) → fits_option make_form ch ≡ true → Knows make_shape ch × (are_others make_form.operands (name_of ch) ≡ true)
make_knows (flag name) e = let x = each_among (Option_of make_shape make_form.operands KnowsFlag) make_form.flags name make_flags e in (x.knows, x.other)
make_knows (apart name digits) e = let x = each_ranged (Option_of make_shape make_form.operands KnowsNumber) make_form.numbers name digits make_numbers e in (x.knows, x.other)
make_knows (joined name digits) e = let x = each_ranged (Option_of make_shape make_form.operands KnowsNumber) make_form.numbers name digits make_numbers e in (x.knows, x.other)

pub run_operands : KnowsOperands run_shape 1 run_form.operands
run_operands = (
  record {
    rule = built_operand (codes "plan") 1;
    id = refl;
    found = refl;
    by_id = refl;
    same = refl;
    many = refl;
    append = refl;
    trailing = refl;
    passes = λ words rows fits few e. (one_fits (codes "plan") 1 one words rows refl fits e).0;
    makes = λ words rows fits e. (one_fits (codes "plan") 1 one words rows refl fits e).1;
  },
  (
    record {
      rule = built_files 2;
      id = refl;
      found = refl;
      by_id = refl;
      same = refl;
      many = refl;
      append = refl;
      trailing = refl;
      passes = λ words rows fits few e. (files_fit 2 words rows fits few e).0;
      makes = λ words rows fits e. files_made 2 words rows fits e;
    },
    tt,
  ),
)

pub replay_operands : KnowsOperands replay_shape 1 replay_form.operands
replay_operands = (
  record {
    rule = built_operand (codes "plan") 1;
    id = refl;
    found = refl;
    by_id = refl;
    same = refl;
    many = refl;
    append = refl;
    trailing = refl;
    passes = λ words rows fits few e. (one_fits (codes "plan") 1 one words rows refl fits e).0;
    makes = λ words rows fits e. (one_fits (codes "plan") 1 one words rows refl fits e).1;
  },
  (
    record {
      rule = built_operand (codes "script") 2;
      id = refl;
      found = refl;
      by_id = refl;
      same = refl;
      many = refl;
      append = refl;
      trailing = refl;
      passes = λ words rows fits few e. (one_fits (codes "script") 2 one words rows refl fits e).0;
      makes = λ words rows fits e. (one_fits (codes "script") 2 one words rows refl fits e).1;
    },
    (
      record {
        rule = built_files 3;
        id = refl;
        found = refl;
        by_id = refl;
        same = refl;
        many = refl;
        append = refl;
        trailing = refl;
        passes = λ words rows fits few e. (files_fit 3 words rows fits few e).0;
        makes = λ words rows fits e. files_made 3 words rows fits e;
      },
      tt,
    ),
  ),
)

pub check_operands : KnowsOperands check_shape 1 check_form.operands
check_operands = (
  record {
    rule = built_operand (codes "plan") 1;
    id = refl;
    found = refl;
    by_id = refl;
    same = refl;
    many = refl;
    append = refl;
    trailing = refl;
    passes = λ words rows fits few e. (one_fits (codes "plan") 1 one words rows refl fits e).0;
    makes = λ words rows fits e. (one_fits (codes "plan") 1 one words rows refl fits e).1;
  },
  tt,
)

pub make_operands : KnowsOperands make_shape 1 make_form.operands
make_operands = (
  record {
    rule = built_operand (codes "seed") 1;
    id = refl;
    found = refl;
    by_id = refl;
    same = refl;
    many = refl;
    append = refl;
    trailing = refl;
    passes = λ words rows fits few e. (one_fits (codes "seed") 1 (number 0 2147483647) words rows refl fits e).0;
    makes = λ words rows fits e. (one_fits (codes "seed") 1 (number 0 2147483647) words rows refl fits e).1;
  },
  (
    record {
      rule = built_operand (codes "count") 2;
      id = refl;
      found = refl;
      by_id = refl;
      same = refl;
      many = refl;
      append = refl;
      trailing = refl;
      passes = λ words rows fits few e. (one_fits (codes "count") 2 (number 1 1000000) words rows refl fits e).0;
      makes = λ words rows fits e. (one_fits (codes "count") 2 (number 1 1000000) words rows refl fits e).1;
    },
    tt,
  ),
)

-- no option with a number is a flag
pub number_is_no_flag : (c : Form) → AllOf (λ name. is_among c.flags name ≡ false) (map (λ (r : Ranged). r.name) c.numbers)
    → (name digits : Text) → list_any (fits_range name digits) c.numbers ≡ true → is_among c.flags name ≡ false
number_is_no_flag c all name digits e = each_ranged (λ name. is_among c.flags name ≡ false) c.numbers name digits all e
