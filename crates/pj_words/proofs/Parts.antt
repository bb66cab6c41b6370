-- How clap's walk goes over the parts of a line.
use Rattle.std.proofs.Common.{◌≡◌, ◌∙◌, ◌++◌, ◌+◌, ◌≤◌, ℕ, Bool, true, false, true≢false, eqb-true, refl, sym, subst, arith, List, [], ◌∷◌, map, length, min, Some, None, codes, ◌==◌, not, ◌&&◌, ◌||◌, append_assoc, append-nil, length-append}
use Rattle.std.specs.List.{list_all, list_any}
use Rattle.std.specs.Str.{bytes_eq}
use Rattle.clap.specs.Lexer.{long_of, usize_max}
use Rattle.clap.specs.Walk.{Held, Row, Rule, action_of, arg_by_long, arg_by_id, arg_by_index, has_row, is_append, most_values, takes_several, takes_values, used}
use Rattle.clap.specs.Simple.{Shape}
use Rattle.clap.specs.Takes.{use_passes}
use Rattle.clap.specs.declared.parser.matches.ValueSource.TheVariants.{CommandLine}
use Rattle.clap.specs.declared.builder.value_parser.Reading.TheVariants.{AsWritten}
use Rattle.pj_words.specs.Form.{Choice, Form, Kind, Operand, Part, Ranged, Text, apart, choice_words, dashed, fit_operands, fits_kind, fits_option, fits_range, flag, is_among, is_digit, is_number, is_operand, joined, name_of, no_repeat, number, one, operand, operands_in, option, options_in, several, words_of}
use Rattle.clap.proofs.SimpleLemmas.{is_false}
use Rattle.clap.proofs.WalkLemmas.{both}
use Rattle.pj_words.proofs.Rows.{has_row-append, new_row}
use Rattle.pj_words.proofs.Walks.{Goes, Stands, Uses, IsWord, AllWords, no_words, one_more, at, holds_of, flag_used, joined_used, apart_used, operand_used, files_used, goes_both, nothing_goes}

neither : (a b : Bool) → (a || b) ≡ false → (a ≡ false) × (b ≡ false)
neither true b e = absurd (true≢false e)
neither false b e = (refl, e)

abbrev pub given_row : Text → List Text → Row
given_row id values = new_row id AsWritten CommandLine values

abbrev pub choice_values : Choice → List Text
choice_values (flag name) = codes "true" ∷ []
choice_values (apart name digits) = digits ∷ []
choice_values (joined name digits) = digits ∷ []

abbrev pub choice_row : Choice → Row
choice_row ch = given_row (name_of ch) (choice_values ch)

-- the rows that the parts make
abbrev pub rows_from : List Operand → List Part → List Row
rows_from os [] = []
rows_from os (option ch ∷ parts) = choice_row ch ∷ rows_from os parts
rows_from [] (operand words ∷ parts) = []
rows_from (o ∷ os) (operand words ∷ parts) = given_row o.id words ∷ rows_from os parts

abbrev pub ids_of : List Operand → List Text
ids_of = map (λ o. o.id)

abbrev pub is_several : Kind → Bool
is_several several = true
is_several kind = false

abbrev pub place_after : Kind → ℕ → ℕ
place_after several n = n
place_after kind n = min (n + 1) usize_max

-- ---- what clap's command knows of the form's

pub record KnowsFlag (s : Shape) (name : Text) : Type 0 where
  pub rule : Rule
  pub id : rule.id ≡ name
  pub dashes : bytes_eq (dashed name) (45 ∷ 45 ∷ []) ≡ false
  pub long : long_of (dashed name) ≡ Some (name, None)
  pub found : arg_by_long s.rules name ≡ Some rule
  pub none : takes_values rule ≡ false
  pub passes : (rows : List Row) → has_row name rows ≡ false → use_passes s.args_override_self rule [] rows ≡ true
  pub makes : (rows : List Row) → has_row name rows ≡ false → used rule [] rows ≡ rows ++ given_row name (codes "true" ∷ []) ∷ []

pub record KnowsNumber (s : Shape) (name : Text) : Type 0 where
  pub rule : Rule
  pub id : rule.id ≡ name
  pub dashes : bytes_eq (dashed name) (45 ∷ 45 ∷ []) ≡ false
  pub dashes_joined : (v : Text) → bytes_eq (dashed name ++ 61 ∷ v) (45 ∷ 45 ∷ []) ≡ false
  pub long : long_of (dashed name) ≡ Some (name, None)
  pub long_joined : (v : Text) → long_of (dashed name ++ 61 ∷ v) ≡ Some (name, Some v)
  pub found : arg_by_long s.rules name ≡ Some rule
  pub by_id : arg_by_id s.rules rule.id ≡ Some rule
  pub same : bytes_eq rule.id rule.id ≡ true
  pub some : takes_values rule ≡ true
  pub single : most_values rule ≡ 1
  pub passes : (v : Text) (rows : List Row) → has_row name rows ≡ false → use_passes s.args_override_self rule (v ∷ []) rows ≡ true
  pub makes : (v : Text) (rows : List Row) → has_row name rows ≡ false → used rule (v ∷ []) rows ≡ rows ++ given_row name (v ∷ []) ∷ []

pub record KnowsOperand (s : Shape) (n : ℕ) (o : Operand) : Type 0 where
  pub rule : Rule
  pub id : rule.id ≡ o.id
  pub found : arg_by_index s.rules n ≡ Some rule
  pub by_id : arg_by_id s.rules rule.id ≡ Some rule
  pub same : bytes_eq rule.id rule.id ≡ true
  pub many : takes_several rule ≡ is_several o.kind
  pub append : is_append (action_of rule) ≡ false
  pub trailing : rule.trailing_var_arg ≡ false
  pub passes : (words : List Text) (rows : List Row) → fits_kind o.kind words ≡ true → length words ≤ usize_max → has_row o.id rows ≡ false
      → use_passes s.args_override_self rule words rows ≡ true
  pub makes : (words : List Text) (rows : List Row) → fits_kind o.kind words ≡ true → has_row o.id rows ≡ false
      → used rule words rows ≡ rows ++ given_row o.id words ∷ []

abbrev pub KnowsOperands : Shape → ℕ → List Operand → Type 0
KnowsOperands s n [] = Unit {0}
KnowsOperands s n (o ∷ os) = KnowsOperand s n o × KnowsOperands s (place_after o.kind n) os

-- the option's name is no operand's id
abbrev pub are_others : List Operand → Text → Bool
are_others [] name = true
are_others (o ∷ os) name = not (bytes_eq o.id name) && (not (bytes_eq name o.id) && are_others os name)

abbrev pub Knows : Shape → Choice → Type 0
Knows s (flag name) = KnowsFlag s name
Knows s (apart name digits) = KnowsNumber s name
Knows s (joined name digits) = KnowsNumber s name

-- ---- words that are values

pub operand_word : (word : Text) → is_operand word ≡ true → IsWord word
operand_word [] e = absurd (true≢false (sym e))
operand_word (b ∷ bs) e = go (b == 45) refl e
  where
    go : (t : Bool) → (b == 45) ≡ t → not t ≡ true → IsWord (b ∷ bs)
    go true is h = absurd (true≢false (sym h))
    go false is h = record { dashes = rw is refl; long = rw is refl; short = rw is refl }

pub operand_words : (words : List Text) → list_all is_operand words ≡ true → AllWords words
operand_words [] e = no_words
operand_words (word ∷ words) e = one_more word words (operand_word word (both _ _ e).0) (operand_words words (both _ _ e).1)

pub digit_word : (least most : ℕ) (word : Text) → is_number least most word ≡ true → IsWord word
digit_word least most [] e = absurd (true≢false (sym e))
digit_word least most (b ∷ bs) e = operand_word (b ∷ bs) (not_dash b (both _ _ (both _ _ (both _ _ (both _ _ e).1).1).0).0)
  where
    not_dash : (b : ℕ) → is_digit b ≡ true → not (b == 45) ≡ true
    not_dash b e = go (b == 45) refl
      where
        go : (t : Bool) → (b == 45) ≡ t → not t ≡ true
        go true is = absurd (true≢false (sym (subst (λ (x : ℕ). is_digit x ≡ true) (eqb-true b 45 is) e)))
        go false is = refl

-- ---- rows that are not there yet

abbrev pub all_absent : List Row → List Text → Bool
all_absent rows = list_all (λ id. not (has_row id rows))

pub absent_more : (x : Text) (vs : List Text) (rows : List Row) (ids : List Text) → all_absent rows ids ≡ true → is_among ids x ≡ false
    → all_absent (rows ++ given_row x vs ∷ []) ids ≡ true
absent_more x vs rows [] e other = refl
absent_more x vs rows (id ∷ ids) e other =
    let parts = both _ _ e in
    let others = neither (bytes_eq x id) (is_among ids x) other in
    rw (has_row-append id rows (given_row x vs ∷ []), is_false (has_row id rows) parts.0, others.0) (absent_more x vs rows ids parts.1 others.1)

-- ---- the parts of a line, one after the other

-- the walk over the parts ends with their rows
pub record Ends (s : Shape) (h : Held) (b : Bool) (n : ℕ) (words : List Text) (rows : List Row) : Type 0 where
  pub held : Held
  pub after : Bool
  pub place : ℕ
  pub goes : Goes s (at h b n) words (at held after place)
  pub stands : Stands s held rows

-- what is held comes to these rows, and what is pending is one of them
pub record Has (s : Shape) (h : Held) (rows : List Row) : Type 0 where
  pub stands : Stands s h rows
  pub pending : (id : Text) → has_row id rows ≡ false → holds_of id h.pending ≡ false

module _ (s : Shape) (c : Form) (knows : (ch : Choice) → fits_option c ch ≡ true → Knows s ch) where
  flag_goes : (h : Held) (b : Bool) (n : ℕ) (rows : List Row) (name : Text) (k : KnowsFlag s name) → Stands s h rows → has_row name rows ≡ false
      → Uses s k.rule.id h b n (choice_words (flag name)) n (used k.rule [] rows)
  flag_goes h b n rows name k st absent = flag_used s h b n rows k.rule name (dashed name) st k.dashes k.long k.found k.none (k.passes rows absent)

  joined_goes : (h : Held) (b : Bool) (n : ℕ) (rows : List Row) (name digits : Text) (k : KnowsNumber s name) → Stands s h rows → has_row name rows ≡ false
      → Uses s k.rule.id h b n (choice_words (joined name digits)) n (used k.rule (digits ∷ []) rows)
  joined_goes h b n rows name digits k st absent = joined_used s h b n rows k.rule name (dashed name ++ 61 ∷ digits) digits st (k.dashes_joined digits)
      (k.long_joined digits) k.found k.some (k.passes digits rows absent)

  apart_goes : (h : Held) (b : Bool) (n : ℕ) (rows : List Row) (name digits : Text) (k : KnowsNumber s name) → Stands s h rows → has_row name rows ≡ false
      → IsWord digits → Uses s k.rule.id h b n (choice_words (apart name digits)) n (used k.rule (digits ∷ []) rows)
  apart_goes h b n rows name digits k st absent is = apart_used s h b n rows k.rule name (dashed name) digits st k.dashes k.long k.found k.some k.by_id k.same k.single
      is.dashes is.long is.short (k.passes digits rows absent)

  -- one more row, of this id
  record Next (id : Text) (h : Held) (b : Bool) (n : ℕ) (words : List Text) (n2 : ℕ) (rows : List Row) : Type 0 where
    pub held : Held
    pub after : Bool
    pub goes : Goes s (at h b n) words (at held after n2)
    pub has : Has s held rows

  next_of : (id rule_id : Text) (vs : List Text) (h : Held) (b : Bool) (n : ℕ) (words : List Text) (n2 : ℕ) (rows made : List Row) → rule_id ≡ id → made ≡ rows ++ given_row id vs ∷ []
      → Uses s rule_id h b n words n2 made → Next id h b n words n2 (rows ++ given_row id vs ∷ [])
  next_of id rule_id vs h b n words n2 rows made same is u = record {
    held = u.held;
    after = u.after;
    goes = u.goes;
    has = record {
      stands = subst (Stands s u.held) is u.stands;
      pending = λ other absent. u.pending other (rw same (neither (bytes_eq id other) _ (neither (has_row other rows) _ (sym (has_row-append other rows (given_row id vs ∷ [])) ∙ absent)).1).0);
    };
  }

  -- a number's word, wherever its range stands
  range_word : (name digits : Text) (rs : List Ranged) → list_any (fits_range name digits) rs ≡ true → IsWord digits
  range_word name digits [] e = absurd (true≢false (sym e))
  range_word name digits (r ∷ rs) e = go (fits_range name digits r) refl e (range_word name digits rs)
    where
      go : (t : Bool) → fits_range name digits r ≡ t → (t || list_any (fits_range name digits) rs) ≡ true → (list_any (fits_range name digits) rs ≡ true → IsWord digits) → IsWord digits
      go true is h ih = digit_word r.least r.most digits (both (bytes_eq name r.name) _ is).1
      go false is h ih = ih h

  option_goes : (h : Held) (b : Bool) (n : ℕ) (rows : List Row) (ch : Choice) → Has s h rows → fits_option c ch ≡ true → has_row (name_of ch) rows ≡ false
      → Next (name_of ch) h b n (choice_words ch) n (rows ++ choice_row ch ∷ [])
  option_goes h b n rows (flag name) has fits absent =
      let k = knows (flag name) fits in
      next_of name k.rule.id _ h b n _ n rows _ k.id (k.makes rows absent) (flag_goes h b n rows name k has.stands absent)
  option_goes h b n rows (apart name digits) has fits absent =
      let k = knows (apart name digits) fits in
      next_of name k.rule.id _ h b n _ n rows _ k.id (k.makes digits rows absent) (apart_goes h b n rows name digits k has.stands absent (range_word name digits c.numbers fits))
  option_goes h b n rows (joined name digits) has fits absent =
      let k = knows (joined name digits) fits in
      next_of name k.rule.id _ h b n _ n rows _ k.id (k.makes digits rows absent) (joined_goes h b n rows name digits k has.stands absent)

  operand_uses : (h : Held) (b : Bool) (n : ℕ) (rows : List Row) (a : Rule) (kind : Kind) (words : List Text) → Stands s h rows → holds_of a.id h.pending ≡ false
      → arg_by_index s.rules n ≡ Some a → arg_by_id s.rules a.id ≡ Some a → bytes_eq a.id a.id ≡ true → takes_several a ≡ is_several kind → is_append (action_of a) ≡ false
      → a.trailing_var_arg ≡ false → use_passes s.args_override_self a words rows ≡ true → fits_kind kind words ≡ true
      → Uses s a.id h b n words (place_after kind n) (used a words rows)
  operand_uses h b n rows a one [] st fresh found by_id same many append trailing passes fit = absurd (true≢false (sym fit))
  operand_uses h b n rows a one (word ∷ x ∷ xs) st fresh found by_id same many append trailing passes fit = absurd (true≢false (sym fit))
  operand_uses h b n rows a one (word ∷ []) st fresh found by_id same many append trailing passes fit =
      let is = operand_word word fit in
      operand_used s h b n rows a word st is.dashes is.long is.short found many append trailing by_id passes
  operand_uses h b n rows a (number least most) [] st fresh found by_id same many append trailing passes fit = absurd (true≢false (sym fit))
  operand_uses h b n rows a (number least most) (word ∷ x ∷ xs) st fresh found by_id same many append trailing passes fit = absurd (true≢false (sym fit))
  operand_uses h b n rows a (number least most) (word ∷ []) st fresh found by_id same many append trailing passes fit =
      let is = digit_word least most word fit in
      operand_used s h b n rows a word st is.dashes is.long is.short found many append trailing by_id passes
  operand_uses h b n rows a several [] st fresh found by_id same many append trailing passes fit = absurd (true≢false (sym fit))
  operand_uses h b n rows a several (word ∷ words) st fresh found by_id same many append trailing passes fit =
      files_used s h b n rows a word words st (operand_word word (both (is_operand word) _ fit).0) (operand_words words (both (is_operand word) _ fit).1)
      found fresh many trailing by_id same passes

  operand_goes : (h : Held) (b : Bool) (n : ℕ) (rows : List Row) (o : Operand) (words : List Text) → Has s h rows → KnowsOperand s n o
      → fits_kind o.kind words ≡ true → length words ≤ usize_max → has_row o.id rows ≡ false
      → Next o.id h b n words (place_after o.kind n) (rows ++ given_row o.id words ∷ [])
  operand_goes h b n rows o words has k fits few absent =
      let fresh : holds_of k.rule.id h.pending ≡ false = rw k.id (has.pending o.id absent) in
      next_of o.id k.rule.id words h b n words _ rows _ k.id (k.makes words rows fits absent)
      (operand_uses h b n rows k.rule o.kind words has.stands fresh k.found k.by_id k.same k.many k.append k.trailing (k.passes words rows fits few absent) fits)

  -- ---- all parts

  both_go : (h : Held) (b : Bool) (n n2 : ℕ) (id : Text) (xs ys : List Text) (rows more all : List Row) (r : Row) → all ≡ rows ++ r ∷ more
      → (x : Next id h b n xs n2 (rows ++ r ∷ [])) → Ends s x.held x.after n2 ys ((rows ++ r ∷ []) ++ more) → Ends s h b n (xs ++ ys) all
  both_go h b n n2 id xs ys rows more all r is x e = record {
    held = e.held;
    after = e.after;
    place = e.place;
    goes = goes_both s _ _ _ xs ys x.goes e.goes;
    stands = subst (Stands s e.held) (append_assoc rows (r ∷ []) more ∙ sym is) e.stands;
  }

  others_apart : (o : Operand) (os : List Operand) (name : Text) → are_others (o ∷ os) name ≡ true → (bytes_eq o.id name ≡ false) × (bytes_eq name o.id ≡ false) × (are_others os name ≡ true)
  others_apart o os name e =
      let x = both (not (bytes_eq o.id name)) _ e in
      let y = both (not (bytes_eq name o.id)) _ x.1 in
      (is_false (bytes_eq o.id name) x.0, is_false (bytes_eq name o.id) y.0, y.1)

  -- no operand is an option of these
  not_among : (o : Operand) (os : List Operand) (chs : List Choice) → ((ch : Choice) → fits_option c ch ≡ true → are_others (o ∷ os) (name_of ch) ≡ true)
      → list_all (fits_option c) chs ≡ true → is_among (map name_of chs) o.id ≡ false
  not_among o os [] differ fits = refl
  not_among o os (ch ∷ chs) differ fits =
      let f = both (fits_option c ch) _ fits in
      rw (others_apart o os (name_of ch) (differ ch f.0)).0 (not_among o os chs differ f.1)

  no_operand : (os : List Operand) (name : Text) → are_others os name ≡ true → is_among (ids_of os) name ≡ false
  no_operand [] name e = refl
  no_operand (o ∷ os) name e =
      let x = others_apart o os name e in
      rw x.1 (no_operand os name x.2)

  pub parts_go : (h : Held) (b : Bool) (n : ℕ) (rows : List Row) (os : List Operand) (parts : List Part) → Has s h rows → KnowsOperands s n os
      → ((ch : Choice) → fits_option c ch ≡ true → are_others os (name_of ch) ≡ true) → no_repeat (ids_of os) ≡ true
      → fit_operands os (operands_in parts) ≡ true → list_all (fits_option c) (options_in parts) ≡ true → no_repeat (map name_of (options_in parts)) ≡ true
      → all_absent rows (ids_of os) ≡ true → all_absent rows (map name_of (options_in parts)) ≡ true → length (words_of parts) ≤ usize_max
      → Ends s h b n (words_of parts) (rows ++ rows_from os parts)
  parts_go h b n rows os [] has k differ ids fit fits once free_ids free few = record {
    held = h;
    after = b;
    place = n;
    goes = nothing_goes s _;
    stands = subst (Stands s h) (sym (append-nil rows)) has.stands;
  }
  parts_go h b n rows os (option ch ∷ parts) has k differ ids fit fits once free_ids free few =
      let f = both (fits_option c ch) _ fits in
      let o = both (not (is_among (map name_of (options_in parts)) (name_of ch))) _ once in
      let a = both (not (has_row (name_of ch) rows)) _ free in
      let x = option_goes h b n rows ch has f.0 (is_false (has_row (name_of ch) rows) a.0) in
      both_go h b n n (name_of ch) (choice_words ch) (words_of parts) rows (rows_from os parts) _ (choice_row ch) refl x
      (parts_go x.held x.after n _ os parts x.has k differ ids fit f.1 o.1
      (absent_more (name_of ch) (choice_values ch) rows (ids_of os) free_ids (no_operand os (name_of ch) (differ ch f.0)))
      (absent_more (name_of ch) (choice_values ch) rows _ a.1 (is_false (is_among (map name_of (options_in parts)) (name_of ch)) o.0))
      (omega (arith, few, length-append (choice_words ch) (words_of parts))))
  parts_go h b n rows [] (operand words ∷ parts) has k differ ids fit fits once free_ids free few = absurd (true≢false (sym fit))
  parts_go h b n rows (o ∷ os) (operand words ∷ parts) has k differ ids fit fits once free_ids free few =
      let f = both (fits_kind o.kind words) _ fit in
      let i = both (not (is_among (ids_of os) o.id)) _ ids in
      let a = both (not (has_row o.id rows)) _ free_ids in
      let size = length-append words (words_of parts) in
      let x = operand_goes h b n rows o words has k.0 f.0 (omega (arith, few, size)) (is_false (has_row o.id rows) a.0) in
      both_go h b n (place_after o.kind n) o.id words (words_of parts) rows (rows_from os parts) _ (given_row o.id words) refl x
      (parts_go x.held x.after (place_after o.kind n) _ os parts x.has k.1 (λ ch e. (others_apart o os (name_of ch) (differ ch e)).2) i.1 f.1 fits once
      (absent_more o.id words rows (ids_of os) a.1 (is_false (is_among (ids_of os) o.id) i.0))
      (absent_more o.id words rows _ free (not_among o os (options_in parts) differ fits))
      (omega (arith, few, size)))
