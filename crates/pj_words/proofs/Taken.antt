-- clap takes the words of the form, and what it finds.
use Rattle.std.proofs.Common.{◌≡◌, ◌∙◌, ◌++◌, ◌≤◌, Bool, cond, true, false, true≢false, refl, sym, ap, List, [], ◌∷◌, map, length, Option, Some, None, codes, not, append_assoc, append-nil, if◌then◌else◌}
use Rattle.std.specs.List.{fold, list_all}
use Rattle.std.specs.Str.{bytes_eq}
use Rattle.clap.specs.Lexer.{usize_max}
use Rattle.clap.specs.Walk.{Held, Names, Row, Rule, Walk, finished, idle, nothing_held, walk, walk_from, walked, with_default}
use Rattle.clap.specs.Simple.{Shape, built, names_of, subcommand_of}
use Rattle.clap.specs.Takes.{level_passes, settle_passes, takes, walk_passes}
use Rattle.clap.proofs.SimpleLemmas.{is_false}
use Rattle.clap.proofs.WalkLemmas.{both}
use Rattle.pj_words.specs.Clap.{pj_app}
use Rattle.pj_words.specs.Form.{Choice, Form, IsLine, Operand, Part, Text, fit_operands, fits_option, name_of, no_repeat, operand, operands_in, option, options_in, words_of}
use Rattle.pj_words.proofs.Rows.{row_in}
use Rattle.pj_words.proofs.Walks.{at}
use Rattle.pj_words.proofs.Parts.{Knows, KnowsOperands, all_absent, are_others, choice_row, given_row, ids_of, parts_go, rows_from}
use Rattle.pj_words.proofs.Known.{check_shape, make_shape, replay_shape, run_shape}

none_absent : (ids : List Text) → all_absent [] ids ≡ true
none_absent [] = refl
none_absent (id ∷ ids) = none_absent ids

abbrev pub found_rows : Shape → Form → List Part → List Row
found_rows s c parts = fold with_default (rows_from c.operands parts) s.rules

-- the operand with this id, among the operands' words
abbrev pub operand_found : Text → List Operand → List (List Text) → Option Row
operand_found id [] more = None
operand_found id (o ∷ os) [] = None
operand_found id (o ∷ os) (words ∷ more) = if bytes_eq o.id id then Some (given_row o.id words) else operand_found id os more

abbrev pub option_found : Text → List Choice → Option Row
option_found name [] = None
option_found name (ch ∷ chs) = if bytes_eq (name_of ch) name then Some (choice_row ch) else option_found name chs

pub operand_row : (id : Text) (c : Form) (os : List Operand) (parts : List Part) → ((ch : Choice) → fits_option c ch ≡ true → bytes_eq (name_of ch) id ≡ false)
    → list_all (fits_option c) (options_in parts) ≡ true → row_in id (rows_from os parts) ≡ operand_found id os (operands_in parts)
operand_row id c [] [] differ fits = refl
operand_row id c (o ∷ os) [] differ fits = refl
operand_row id c os (option ch ∷ parts) differ fits =
    let f = both (fits_option c ch) _ fits in
    rw (differ ch f.0) (operand_row id c os parts differ f.1)
operand_row id c [] (operand words ∷ parts) differ fits = refl
operand_row id c (o ∷ os) (operand words ∷ parts) differ fits = go (bytes_eq o.id id) (operand_row id c os parts differ fits)
  where
    go : (b : Bool) → row_in id (rows_from os parts) ≡ operand_found id os (operands_in parts)
        → cond b (Some (given_row o.id words)) (row_in id (rows_from os parts)) ≡ cond b (Some (given_row o.id words)) (operand_found id os (operands_in parts))
    go true ih = refl
    go false ih = ih

pub option_row : (name : Text) (os : List Operand) (parts : List Part) → are_others os name ≡ true → fit_operands os (operands_in parts) ≡ true
    → row_in name (rows_from os parts) ≡ option_found name (options_in parts)
option_row name os [] other fit = refl
option_row name os (option ch ∷ parts) other fit = go (bytes_eq (name_of ch) name) (option_row name os parts other fit)
  where
    go : (b : Bool) → row_in name (rows_from os parts) ≡ option_found name (options_in parts)
        → cond b (Some (choice_row ch)) (row_in name (rows_from os parts)) ≡ cond b (Some (choice_row ch)) (option_found name (options_in parts))
    go true ih = refl
    go false ih = ih
option_row name [] (operand words ∷ parts) other fit = absurd (true≢false (sym fit))
option_row name (o ∷ os) (operand words ∷ parts) other fit =
    let x = both (not (bytes_eq o.id name)) _ other in
    let y = both (not (bytes_eq name o.id)) _ x.1 in
    rw (is_false (bytes_eq o.id name) x.0) (option_row name os parts y.1 (both _ _ fit).1)

-- ---- a subcommand

pub record Leaf (s : Shape) (c : Form) (parts : List Part) : Type 0 where
  pub passes : walk_passes s [] (walk_from nothing_held) (words_of parts) ≡ true
  pub settles : settle_passes s.rules s.args_override_self (walk s.rules [] nothing_held (words_of parts)).held ≡ true
  pub rows : finished s.rules (walk s.rules [] nothing_held (words_of parts)).held ≡ found_rows s c parts

pub leaf : (s : Shape) (c : Form) → ((ch : Choice) → fits_option c ch ≡ true → Knows s ch × (are_others c.operands (name_of ch) ≡ true)) → KnowsOperands s 1 c.operands
    → no_repeat (ids_of c.operands) ≡ true → (parts : List Part) → IsLine c parts → length (words_of parts) ≤ usize_max → Leaf s c parts
unfolding walk_passes
leaf s c knows operands ids parts line few =
    let ends = parts_go s c (λ ch e. (knows ch e).0) nothing_held false 1 [] c.operands parts
    (record { stands = record { rows_are = refl; passes = refl }; pending = λ id e. refl }) operands (λ ch e. (knows ch e).1) ids
    line.operands line.options line.once (none_absent (ids_of c.operands)) (none_absent (map name_of (options_in parts))) few in
    let all = append-nil (words_of parts) in
    let walks : walk s.rules [] nothing_held (words_of parts) ≡ at ends.held ends.after ends.place =
    ap (fold (walked s.rules []) (at nothing_held false 1)) (sym all) ∙ ends.goes.walks [] in
    record {
      passes = ap (walk_passes s [] (at nothing_held false 1)) (sym all) ∙ ends.goes.passes [] refl;
      settles = ap (λ (w : Walk). settle_passes s.rules s.args_override_self w.held) walks ∙ ends.stands.passes;
      rows = ap (λ (w : Walk). finished s.rules w.held) walks ∙ ap (λ rows. fold with_default rows s.rules) ends.stands.rows_are;
    }

-- ---- the whole command

stopped_walk : (c : List Rule) (names : Names) (h : Held) (name : Text) (seen words : List Text)
    → fold (walked c names) (record { held = h; waiting = idle; position = 1; is_trailing = false; stopped = Some (name, seen) }) words
    ≡ record { held = h; waiting = idle; position = 1; is_trailing = false; stopped = Some (name, seen ++ words) }
unfolding walked
stopped_walk c names h name seen [] = rw (append-nil seen) refl
stopped_walk c names h name seen (word ∷ words) = stopped_walk c names h name (seen ++ word ∷ []) words ∙ rw (append_assoc seen (word ∷ []) words) refl

stopped_passes : (s : Shape) (names : Names) (h : Held) (name : Text) (seen words : List Text)
    → walk_passes s names (record { held = h; waiting = idle; position = 1; is_trailing = false; stopped = Some (name, seen) }) words ≡ true
unfolding walked walk_passes
stopped_passes s names h name seen [] = refl
stopped_passes s names h name seen (word ∷ words) = stopped_passes s names h name (seen ++ word ∷ []) words

abbrev top : Shape
top = (built pj_app).top

abbrev names : Names
names = names_of (built pj_app)

abbrev ended : Text → List Text → Walk
ended name words = record { held = nothing_held; waiting = idle; position = 1; is_trailing = false; stopped = Some (name, words) }

run_walk : (words : List Text) → walk top.rules names nothing_held (codes "run" ∷ words) ≡ ended (codes "run") words
unfolding walked
run_walk words = stopped_walk top.rules names nothing_held (codes "run") [] words

run_passes : (words : List Text) → walk_passes top names (walk_from nothing_held) (codes "run" ∷ words) ≡ true
unfolding walked walk_passes
run_passes words = stopped_passes top names nothing_held (codes "run") [] words

pub run_taken : (words : List Text) → level_passes run_shape [] nothing_held words false ≡ true → takes pj_app (codes "run" ∷ words) ≡ true
run_taken words e = rw (run_walk words, run_passes words, e) refl

pub run_found : (words : List Text) → subcommand_of pj_app (codes "run" ∷ words) ≡ Some (codes "run", finished run_shape.rules (walk run_shape.rules [] nothing_held words).held)
run_found words = rw (run_walk words) refl

replay_walk : (words : List Text) → walk top.rules names nothing_held (codes "replay" ∷ words) ≡ ended (codes "replay") words
unfolding walked
replay_walk words = stopped_walk top.rules names nothing_held (codes "replay") [] words

replay_passes : (words : List Text) → walk_passes top names (walk_from nothing_held) (codes "replay" ∷ words) ≡ true
unfolding walked walk_passes
replay_passes words = stopped_passes top names nothing_held (codes "replay") [] words

pub replay_taken : (words : List Text) → level_passes replay_shape [] nothing_held words false ≡ true → takes pj_app (codes "replay" ∷ words) ≡ true
replay_taken words e = rw (replay_walk words, replay_passes words, e) refl

pub replay_found : (words : List Text) → subcommand_of pj_app (codes "replay" ∷ words) ≡ Some (codes "replay", finished replay_shape.rules (walk replay_shape.rules [] nothing_held words).held)
replay_found words = rw (replay_walk words) refl

check_walk : (words : List Text) → walk top.rules names nothing_held (codes "check" ∷ words) ≡ ended (codes "check") words
unfolding walked
check_walk words = stopped_walk top.rules names nothing_held (codes "check") [] words

check_passes : (words : List Text) → walk_passes top names (walk_from nothing_held) (codes "check" ∷ words) ≡ true
unfolding walked walk_passes
check_passes words = stopped_passes top names nothing_held (codes "check") [] words

pub check_taken : (words : List Text) → level_passes check_shape [] nothing_held words false ≡ true → takes pj_app (codes "check" ∷ words) ≡ true
check_taken words e = rw (check_walk words, check_passes words, e) refl

pub check_found : (words : List Text) → subcommand_of pj_app (codes "check" ∷ words) ≡ Some (codes "check", finished check_shape.rules (walk check_shape.rules [] nothing_held words).held)
check_found words = rw (check_walk words) refl

make_walk : (words : List Text) → walk top.rules names nothing_held (codes "make" ∷ words) ≡ ended (codes "make") words
unfolding walked
make_walk words = stopped_walk top.rules names nothing_held (codes "make") [] words

make_passes : (words : List Text) → walk_passes top names (walk_from nothing_held) (codes "make" ∷ words) ≡ true
unfolding walked walk_passes
make_passes words = stopped_passes top names nothing_held (codes "make") [] words

pub make_taken : (words : List Text) → level_passes make_shape [] nothing_held words false ≡ true → takes pj_app (codes "make" ∷ words) ≡ true
make_taken words e = rw (make_walk words, make_passes words, e) refl

pub make_found : (words : List Text) → subcommand_of pj_app (codes "make" ∷ words) ≡ Some (codes "make", finished make_shape.rules (walk make_shape.rules [] nothing_held words).held)
make_found words = rw (make_walk words) refl
