-- A line of the form: clap takes it, and the rows of its arguments.
use Rattle.std.proofs.Common.{◌≡◌, ◌∙◌, ◌≤◌, Bool, true, false, true≢false, refl, sym, ap, List, [], ◌∷◌, length, ◌||◌, Some, codes, not}
use Rattle.std.specs.List.{list_all}
use Rattle.std.specs.Str.{bytes_eq}
use Rattle.std.proofs.lemmas.Slice.Eq.{bytes_eq-Decides}
use Rattle.clap.specs.Lexer.{usize_max}
use Rattle.clap.specs.Simple.{subcommand_of}
use Rattle.clap.specs.Takes.{takes}
use Rattle.clap.proofs.SimpleLemmas.{is_false}
use Rattle.clap.proofs.WalkLemmas.{both}
use Rattle.pj_words.specs.Clap.{pj_app}
use Rattle.pj_words.specs.Form.{Choice, IsLine, Operand, Part, Text, fit_operands, fits_option, is_among, is_number, is_operand, name_of, operands_in, words_of, run_form, replay_form, check_form, make_form}
use Rattle.pj_words.proofs.Rows.{row_in, row_in-defaults}
use Rattle.pj_words.proofs.Parts.{are_others, given_row, ids_of, rows_from}
use Rattle.pj_words.proofs.Known.{check_knows, check_operands, check_shape, make_knows, make_operands, make_shape, replay_knows, replay_operands, replay_shape, run_knows, run_operands, run_shape}
use Rattle.pj_words.proofs.Taken.{check_found, check_taken, found_rows, leaf, make_found, make_taken, operand_found, operand_row, replay_found, replay_taken, run_found, run_taken}

-- the option's name is not the id of an operand
other_id : (os : List Operand) (id name : Text) → are_others os name ≡ true → is_among (ids_of os) id ≡ true → bytes_eq name id ≡ false
other_id [] id name others e = absurd (true≢false (sym e))
other_id (o ∷ os) id name others e = go (bytes_eq id o.id) refl e (other_id os id name rest.1)
  where
    rest : (not (bytes_eq name o.id) ≡ true) × (are_others os name ≡ true)
    rest = both (not (bytes_eq name o.id)) _ (both (not (bytes_eq o.id name)) _ others).1

    go : (t : Bool) → bytes_eq id o.id ≡ t → (t || is_among (ids_of os) id) ≡ true → (is_among (ids_of os) id ≡ true → bytes_eq name id ≡ false) → bytes_eq name id ≡ false
    go true is h ih = rw ((bytes_eq-Decides id o.id).0 is) (is_false (bytes_eq name o.id) rest.0)
    go false is h ih = ih h

pub record RunOperands (xs : List (List Text)) : Type 0 where
  pub plan : Text
  pub first : Text
  pub more : List Text
  pub are : xs ≡ (plan ∷ []) ∷ (first ∷ more) ∷ []

pub run_operands_are : (xs : List (List Text)) → fit_operands run_form.operands xs ≡ true → RunOperands xs
run_operands_are [] e = absurd (true≢false (sym e))
run_operands_are ([] ∷ tail) e = absurd (true≢false (sym e))
run_operands_are ((plan ∷ x ∷ xs) ∷ tail) e = absurd (true≢false (sym e))
run_operands_are ((plan ∷ []) ∷ []) e = absurd (true≢false (sym ((both (is_operand plan) _ e).1)))
run_operands_are ((plan ∷ []) ∷ [] ∷ tail) e = absurd (true≢false (sym ((both (is_operand plan) _ e).1)))
run_operands_are ((plan ∷ []) ∷ (first ∷ more) ∷ x ∷ tail) e = absurd (true≢false (sym ((both (list_all is_operand (first ∷ more)) _ (both (is_operand plan) _ e).1).1)))
run_operands_are ((plan ∷ []) ∷ (first ∷ more) ∷ []) e = record { plan = plan; first = first; more = more; are = refl }

pub record ReplayOperands (xs : List (List Text)) : Type 0 where
  pub plan : Text
  pub script : Text
  pub first : Text
  pub more : List Text
  pub are : xs ≡ (plan ∷ []) ∷ (script ∷ []) ∷ (first ∷ more) ∷ []

pub replay_operands_are : (xs : List (List Text)) → fit_operands replay_form.operands xs ≡ true → ReplayOperands xs
replay_operands_are [] e = absurd (true≢false (sym e))
replay_operands_are ([] ∷ tail) e = absurd (true≢false (sym e))
replay_operands_are ((plan ∷ x ∷ xs) ∷ tail) e = absurd (true≢false (sym e))
replay_operands_are ((plan ∷ []) ∷ []) e = absurd (true≢false (sym ((both (is_operand plan) _ e).1)))
replay_operands_are ((plan ∷ []) ∷ [] ∷ tail) e = absurd (true≢false (sym ((both (is_operand plan) _ e).1)))
replay_operands_are ((plan ∷ []) ∷ (script ∷ x ∷ xs) ∷ tail) e = absurd (true≢false (sym ((both (is_operand plan) _ e).1)))
replay_operands_are ((plan ∷ []) ∷ (script ∷ []) ∷ []) e = absurd (true≢false (sym ((both (is_operand script) _ (both (is_operand plan) _ e).1).1)))
replay_operands_are ((plan ∷ []) ∷ (script ∷ []) ∷ [] ∷ tail) e = absurd (true≢false (sym ((both (is_operand script) _ (both (is_operand plan) _ e).1).1)))
replay_operands_are ((plan ∷ []) ∷ (script ∷ []) ∷ (first ∷ more) ∷ x ∷ tail) e = absurd (true≢false (sym ((both (list_all is_operand (first ∷ more)) _ (both (is_operand script) _ (both (is_operand plan) _ e).1).1).1)))
replay_operands_are ((plan ∷ []) ∷ (script ∷ []) ∷ (first ∷ more) ∷ []) e = record { plan = plan; script = script; first = first; more = more; are = refl }

pub record CheckOperands (xs : List (List Text)) : Type 0 where
  pub plan : Text
  pub are : xs ≡ (plan ∷ []) ∷ []

pub check_operands_are : (xs : List (List Text)) → fit_operands check_form.operands xs ≡ true → CheckOperands xs
check_operands_are [] e = absurd (true≢false (sym e))
check_operands_are ([] ∷ tail) e = absurd (true≢false (sym e))
check_operands_are ((plan ∷ x ∷ xs) ∷ tail) e = absurd (true≢false (sym e))
check_operands_are ((plan ∷ []) ∷ x ∷ tail) e = absurd (true≢false (sym ((both (is_operand plan) _ e).1)))
check_operands_are ((plan ∷ []) ∷ []) e = record { plan = plan; are = refl }

pub record MakeOperands (xs : List (List Text)) : Type 0 where
  pub seed : Text
  pub count : Text
  pub are : xs ≡ (seed ∷ []) ∷ (count ∷ []) ∷ []

pub make_operands_are : (xs : List (List Text)) → fit_operands make_form.operands xs ≡ true → MakeOperands xs
make_operands_are [] e = absurd (true≢false (sym e))
make_operands_are ([] ∷ tail) e = absurd (true≢false (sym e))
make_operands_are ((seed ∷ x ∷ xs) ∷ tail) e = absurd (true≢false (sym e))
make_operands_are ((seed ∷ []) ∷ []) e = absurd (true≢false (sym ((both (is_number 0 2147483647 seed) _ e).1)))
make_operands_are ((seed ∷ []) ∷ [] ∷ tail) e = absurd (true≢false (sym ((both (is_number 0 2147483647 seed) _ e).1)))
make_operands_are ((seed ∷ []) ∷ (count ∷ x ∷ xs) ∷ tail) e = absurd (true≢false (sym ((both (is_number 0 2147483647 seed) _ e).1)))
make_operands_are ((seed ∷ []) ∷ (count ∷ []) ∷ x ∷ tail) e = absurd (true≢false (sym ((both (is_number 1 1000000 count) _ (both (is_number 0 2147483647 seed) _ e).1).1)))
make_operands_are ((seed ∷ []) ∷ (count ∷ []) ∷ []) e = record { seed = seed; count = count; are = refl }

module _ (parts : List Part) (line : IsLine run_form parts) where
  run_plan_other : (ch : Choice) → fits_option run_form ch ≡ true → bytes_eq (name_of ch) (codes "plan") ≡ false
  run_plan_other ch e = other_id run_form.operands (codes "plan") (name_of ch) (run_knows ch e).1 refl

  run_files_other : (ch : Choice) → fits_option run_form ch ≡ true → bytes_eq (name_of ch) (codes "files") ≡ false
  run_files_other ch e = other_id run_form.operands (codes "files") (name_of ch) (run_knows ch e).1 refl

  -- the rows of the arguments
  pub record RunRows : Type 0 where
    pub operands : RunOperands (operands_in parts)
    pub plan : row_in (codes "plan") (found_rows run_shape run_form parts) ≡ Some (given_row (codes "plan") (operands.plan ∷ []))
    pub files : row_in (codes "files") (found_rows run_shape run_form parts) ≡ Some (given_row (codes "files") (operands.first ∷ operands.more))

  pub run_rows : RunRows
  run_rows =
      let ops = run_operands_are (operands_in parts) line.operands in
      record {
        operands = ops;
        plan = row_in-defaults (codes "plan") run_shape.rules (rows_from run_form.operands parts) (given_row (codes "plan") (ops.plan ∷ [])) (operand_row (codes "plan") run_form run_form.operands parts run_plan_other line.options ∙ ap (operand_found (codes "plan") run_form.operands) ops.are);
        files = row_in-defaults (codes "files") run_shape.rules (rows_from run_form.operands parts) (given_row (codes "files") (ops.first ∷ ops.more)) (operand_row (codes "files") run_form run_form.operands parts run_files_other line.options ∙ ap (operand_found (codes "files") run_form.operands) ops.are);
      }

  -- clap takes the words
  pub run_line_taken : length (words_of parts) ≤ usize_max → takes pj_app (codes "run" ∷ words_of parts) ≡ true
  run_line_taken few =
      let l = leaf run_shape run_form run_knows run_operands refl parts line few in
      let r = run_rows in
      run_taken (words_of parts) (rw (l.passes, l.settles, l.rows, r.plan, r.files) refl)

  -- what it finds
  pub run_line_found : length (words_of parts) ≤ usize_max → subcommand_of pj_app (codes "run" ∷ words_of parts) ≡ Some (codes "run", found_rows run_shape run_form parts)
  run_line_found few = run_found (words_of parts) ∙ ap (λ rows. Some (codes "run", rows)) (leaf run_shape run_form run_knows run_operands refl parts line few).rows

module _ (parts : List Part) (line : IsLine replay_form parts) where
  replay_plan_other : (ch : Choice) → fits_option replay_form ch ≡ true → bytes_eq (name_of ch) (codes "plan") ≡ false
  replay_plan_other ch e = other_id replay_form.operands (codes "plan") (name_of ch) (replay_knows ch e).1 refl

  replay_script_other : (ch : Choice) → fits_option replay_form ch ≡ true → bytes_eq (name_of ch) (codes "script") ≡ false
  replay_script_other ch e = other_id replay_form.operands (codes "script") (name_of ch) (replay_knows ch e).1 refl

  replay_files_other : (ch : Choice) → fits_option replay_form ch ≡ true → bytes_eq (name_of ch) (codes "files") ≡ false
  replay_files_other ch e = other_id replay_form.operands (codes "files") (name_of ch) (replay_knows ch e).1 refl

  -- the rows of the arguments
  pub record ReplayRows : Type 0 where
    pub operands : ReplayOperands (operands_in parts)
    pub plan : row_in (codes "plan") (found_rows replay_shape replay_form parts) ≡ Some (given_row (codes "plan") (operands.plan ∷ []))
    pub script : row_in (codes "script") (found_rows replay_shape replay_form parts) ≡ Some (given_row (codes "script") (operands.script ∷ []))
    pub files : row_in (codes "files") (found_rows replay_shape replay_form parts) ≡ Some (given_row (codes "files") (operands.first ∷ operands.more))

  pub replay_rows : ReplayRows
  replay_rows =
      let ops = replay_operands_are (operands_in parts) line.operands in
      record {
        operands = ops;
        plan = row_in-defaults (codes "plan") replay_shape.rules (rows_from replay_form.operands parts) (given_row (codes "plan") (ops.plan ∷ [])) (operand_row (codes "plan") replay_form replay_form.operands parts replay_plan_other line.options ∙ ap (operand_found (codes "plan") replay_form.operands) ops.are);
        script = row_in-defaults (codes "script") replay_shape.rules (rows_from replay_form.operands parts) (given_row (codes "script") (ops.script ∷ [])) (operand_row (codes "script") replay_form replay_form.operands parts replay_script_other line.options ∙ ap (operand_found (codes "script") replay_form.operands) ops.are);
        files = row_in-defaults (codes "files") replay_shape.rules (rows_from replay_form.operands parts) (given_row (codes "files") (ops.first ∷ ops.more)) (operand_row (codes "files") replay_form replay_form.operands parts replay_files_other line.options ∙ ap (operand_found (codes "files") replay_form.operands) ops.are);
      }

  -- clap takes the words
  pub replay_line_taken : length (words_of parts) ≤ usize_max → takes pj_app (codes "replay" ∷ words_of parts) ≡ true
  replay_line_taken few =
      let l = leaf replay_shape replay_form replay_knows replay_operands refl parts line few in
      let r = replay_rows in
      replay_taken (words_of parts) (rw (l.passes, l.settles, l.rows, r.plan, r.script, r.files) refl)

  -- what it finds
  pub replay_line_found : length (words_of parts) ≤ usize_max → subcommand_of pj_app (codes "replay" ∷ words_of parts) ≡ Some (codes "replay", found_rows replay_shape replay_form parts)
  replay_line_found few = replay_found (words_of parts) ∙ ap (λ rows. Some (codes "replay", rows)) (leaf replay_shape replay_form replay_knows replay_operands refl parts line few).rows

module _ (parts : List Part) (line : IsLine check_form parts) where
  check_plan_other : (ch : Choice) → fits_option check_form ch ≡ true → bytes_eq (name_of ch) (codes "plan") ≡ false
  check_plan_other ch e = other_id check_form.operands (codes "plan") (name_of ch) (check_knows ch e).1 refl

  -- the rows of the arguments
  pub record CheckRows : Type 0 where
    pub operands : CheckOperands (operands_in parts)
    pub plan : row_in (codes "plan") (found_rows check_shape check_form parts) ≡ Some (given_row (codes "plan") (operands.plan ∷ []))

  pub check_rows : CheckRows
  check_rows =
      let ops = check_operands_are (operands_in parts) line.operands in
      record {
        operands = ops;
        plan = row_in-defaults (codes "plan") check_shape.rules (rows_from check_form.operands parts) (given_row (codes "plan") (ops.plan ∷ [])) (operand_row (codes "plan") check_form check_form.operands parts check_plan_other line.options ∙ ap (operand_found (codes "plan") check_form.operands) ops.are);
      }

  -- clap takes the words
  pub check_line_taken : length (words_of parts) ≤ usize_max → takes pj_app (codes "check" ∷ words_of parts) ≡ true
  check_line_taken few =
      let l = leaf check_shape check_form check_knows check_operands refl parts line few in
      let r = check_rows in
      check_taken (words_of parts) (rw (l.passes, l.settles, l.rows, r.plan) refl)

  -- what it finds
  pub check_line_found : length (words_of parts) ≤ usize_max → subcommand_of pj_app (codes "check" ∷ words_of parts) ≡ Some (codes "check", found_rows check_shape check_form parts)
  check_line_found few = check_found (words_of parts) ∙ ap (λ rows. Some (codes "check", rows)) (leaf check_shape check_form check_knows check_operands refl parts line few).rows

module _ (parts : List Part) (line : IsLine make_form parts) where
  make_seed_other : (ch : Choice) → fits_option make_form ch ≡ true → bytes_eq (name_of ch) (codes "seed") ≡ false
  make_seed_other ch e = other_id make_form.operands (codes "seed") (name_of ch) (make_knows ch e).1 refl

  make_count_other : (ch : Choice) → fits_option make_form ch ≡ true → bytes_eq (name_of ch) (codes "count") ≡ false
  make_count_other ch e = other_id make_form.operands (codes "count") (name_of ch) (make_knows ch e).1 refl

  -- the rows of the arguments
  pub record MakeRows : Type 0 where
    pub operands : MakeOperands (operands_in parts)
    pub seed : row_in (codes "seed") (found_rows make_shape make_form parts) ≡ Some (given_row (codes "seed") (operands.seed ∷ []))
    pub count : row_in (codes "count") (found_rows make_shape make_form parts) ≡ Some (given_row (codes "count") (operands.count ∷ []))

  pub make_rows : MakeRows
  make_rows =
      let ops = make_operands_are (operands_in parts) line.operands in
      record {
        operands = ops;
        seed = row_in-defaults (codes "seed") make_shape.rules (rows_from make_form.operands parts) (given_row (codes "seed") (ops.seed ∷ [])) (operand_row (codes "seed") make_form make_form.operands parts make_seed_other line.options ∙ ap (operand_found (codes "seed") make_form.operands) ops.are);
        count = row_in-defaults (codes "count") make_shape.rules (rows_from make_form.operands parts) (given_row (codes "count") (ops.count ∷ [])) (operand_row (codes "count") make_form make_form.operands parts make_count_other line.options ∙ ap (operand_found (codes "count") make_form.operands) ops.are);
      }

  -- clap takes the words
  pub make_line_taken : length (words_of parts) ≤ usize_max → takes pj_app (codes "make" ∷ words_of parts) ≡ true
  make_line_taken few =
      let l = leaf make_shape make_form make_knows make_operands refl parts line few in
      let r = make_rows in
      make_taken (words_of parts) (rw (l.passes, l.settles, l.rows, r.seed, r.count) refl)

  -- what it finds
  pub make_line_found : length (words_of parts) ≤ usize_max → subcommand_of pj_app (codes "make" ∷ words_of parts) ≡ Some (codes "make", found_rows make_shape make_form parts)
  make_line_found few = make_found (words_of parts) ∙ ap (λ rows. Some (codes "make", rows)) (leaf make_shape make_form make_knows make_operands refl parts line few).rows
