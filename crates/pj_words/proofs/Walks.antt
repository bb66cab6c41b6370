-- How clap's walk goes over the words of a subcommand: one use after the other.
use Rattle.std.proofs.Common.{◌≡◌, ◌∙◌, ◌++◌, ◌+◌, ℕ, Bool, true, false, refl, ap, List, [], ◌∷◌, min, Option, Some, None, ◌&&◌, ◌||◌, append_assoc, append-nil}
use Rattle.std.specs.List.{fold}
use Rattle.std.specs.Str.{bytes_eq}
use Rattle.clap.specs.Lexer.{long_of, short_of, usize_max}
use Rattle.clap.specs.Walk.{Held, Row, Rule, Text, Waiting, Walk, arg_by_long, arg_by_id, arg_by_index, settled_rows, used, walked, takes_values, idle, option, positional, action_of, is_append, most_values, takes_several, is_pending}
use Rattle.clap.specs.Simple.{Shape}
use Rattle.clap.specs.Takes.{walk_passes, settle_passes, use_passes, turn_passes}
use Rattle.std.specs.Option.{option_map_or}

and_false : (x : Bool) → (x && false) ≡ false
and_false true = refl
and_false false = refl

or_true : (x : Bool) → (x || true) ≡ true
or_true true = refl
or_true false = refl

-- nothing waits for a value
abbrev pub resting : Bool → Waiting
resting true = positional
resting false = idle

abbrev pub at : Held → Bool → ℕ → Walk
at h b n = record { held = h; waiting = resting b; position = n; is_trailing = false; stopped = None }

-- the argument whose values are being read has this id
abbrev pub holds_of : Text → Option (Text × List Text) → Bool
holds_of id p = option_map_or (λ q. bytes_eq q.0 id) p false

-- the words of an operand of one or more words
pub record IsWord (word : Text) : Type 0 where
  pub dashes : bytes_eq word (45 ∷ 45 ∷ []) ≡ false
  pub long : long_of word ≡ None
  pub short : short_of word ≡ None

pub data AllWords : List Text → Type 0 where
  no_words : AllWords []
  one_more : (word : Text) (words : List Text) → IsWord word → AllWords words → AllWords (word ∷ words)

module _ (s : Shape) where
  -- the walk passes these words and comes from one place to the other
  pub record Goes (w : Walk) (words : List Text) (w2 : Walk) : Type 0 where
    pub passes : (more : List Text) → walk_passes s [] w2 more ≡ true → walk_passes s [] w (words ++ more) ≡ true
    pub walks : (more : List Text) → fold (walked s.rules []) w (words ++ more) ≡ fold (walked s.rules []) w2 more

  -- what is held comes to these rows
  pub record Stands (h : Held) (rows : List Row) : Type 0 where
    pub rows_are : settled_rows s.rules h.pending h.rows ≡ rows
    pub passes : settle_passes s.rules s.args_override_self h ≡ true

  pub goes_both : (w w2 w3 : Walk) (xs ys : List Text) → Goes w xs w2 → Goes w2 ys w3 → Goes w (xs ++ ys) w3
  goes_both w w2 w3 xs ys a b = record {
    passes = λ more e. ap (walk_passes s [] w) (append_assoc xs ys more) ∙ a.passes (ys ++ more) (b.passes more e);
    walks = λ more. ap (fold (walked s.rules []) w) (append_assoc xs ys more) ∙ a.walks (ys ++ more) ∙ b.walks more;
  }

  -- the walk comes to a place where one more argument was used, nothing waiting
  pub record Uses (id : Text) (h : Held) (b : Bool) (n : ℕ) (words : List Text) (n2 : ℕ) (rows : List Row) : Type 0 where
    pub held : Held
    pub pending : (other : Text) → bytes_eq id other ≡ false → holds_of other held.pending ≡ false
    pub after : Bool
    pub goes : Goes (at h b n) words (at held after n2)
    pub stands : Stands held rows

  one_word : (w w2 : Walk) (word : Text) → turn_passes s [] w word ≡ true → walked s.rules [] w word ≡ w2 → Goes w (word ∷ []) w2
  unfolding walk_passes
  one_word w w2 word t e = record {
    passes = λ more p. rw t (ap (λ v. walk_passes s [] v more) e ∙ p);
    walks = λ more. ap (λ v. fold (walked s.rules []) v more) e;
  }

  -- `--name`
  pub flag_used : (h : Held) (b : Bool) (n : ℕ) (rows : List Row) (a : Rule) (name word : Text) → Stands h rows
      → bytes_eq word (45 ∷ 45 ∷ []) ≡ false → long_of word ≡ Some (name, None) → arg_by_long s.rules name ≡ Some a → takes_values a ≡ false
      → use_passes s.args_override_self a [] rows ≡ true → Uses a.id h b n (word ∷ []) n (used a [] rows)
  unfolding walked
  flag_used h b n rows a name word st dashes long found none passes = record {
    held = record h { rows = used a [] (settled_rows s.rules h.pending h.rows); pending = None };
    pending = λ other e. refl;
    after = false;
    goes = one_word _ _ word (turn b) (walk b);
    stands = record { rows_are = ap (used a []) st.rows_are; passes = refl };
  }
    where
      turn : (b : Bool) → turn_passes s [] (at h b n) word ≡ true
      turn true = rw (dashes, long, found, none, st.passes, st.rows_are, passes) refl
      turn false = rw (dashes, long, found, none, st.passes, st.rows_are, passes) refl

      walk : (b : Bool) → walked s.rules [] (at h b n) word ≡ at (record h { rows = used a [] (settled_rows s.rules h.pending h.rows); pending = None }) false n
      walk true = rw (dashes, long, found, none) refl
      walk false = rw (dashes, long, found, none) refl

  -- `--name=value`
  pub joined_used : (h : Held) (b : Bool) (n : ℕ) (rows : List Row) (a : Rule) (name word value : Text) → Stands h rows
      → bytes_eq word (45 ∷ 45 ∷ []) ≡ false → long_of word ≡ Some (name, Some value) → arg_by_long s.rules name ≡ Some a → takes_values a ≡ true
      → use_passes s.args_override_self a (value ∷ []) rows ≡ true → Uses a.id h b n (word ∷ []) n (used a (value ∷ []) rows)
  unfolding walked
  joined_used h b n rows a name word value st dashes long found some passes = record {
    held = record h { rows = used a (value ∷ []) (settled_rows s.rules h.pending h.rows); pending = None };
    pending = λ other e. refl;
    after = false;
    goes = one_word _ _ word (turn b) (walk b);
    stands = record { rows_are = ap (used a (value ∷ [])) st.rows_are; passes = refl };
  }
    where
      turn : (b : Bool) → turn_passes s [] (at h b n) word ≡ true
      turn true = rw (dashes, long, found, some, st.passes, st.rows_are, passes) refl
      turn false = rw (dashes, long, found, some, st.passes, st.rows_are, passes) refl

      walk : (b : Bool) → walked s.rules [] (at h b n) word ≡ at (record h { rows = used a (value ∷ []) (settled_rows s.rules h.pending h.rows); pending = None }) false n
      walk true = rw (dashes, long, found, some) refl
      walk false = rw (dashes, long, found, some) refl

  -- `--name`, whose value is the next word
  abbrev asked : Held → Rule → Held
  asked h a = record h { rows = settled_rows s.rules h.pending h.rows; pending = Some (a.id, []) }

  abbrev holding : Held → Rule → List Text → Held
  holding h a values = record h { rows = settled_rows s.rules h.pending h.rows; pending = Some (a.id, values) }

  stands_holding : (h : Held) (rows : List Row) (a : Rule) (values : List Text) → Stands h rows → arg_by_id s.rules a.id ≡ Some a
      → use_passes s.args_override_self a values rows ≡ true → Stands (holding h a values) (used a values rows)
  stands_holding h rows a values st by_id passes = record {
    rows_are = rw by_id (ap (used a values) st.rows_are);
    passes = rw (by_id, st.rows_are) passes;
  }

  pub apart_used : (h : Held) (b : Bool) (n : ℕ) (rows : List Row) (a : Rule) (name word value : Text) → Stands h rows
      → bytes_eq word (45 ∷ 45 ∷ []) ≡ false → long_of word ≡ Some (name, None) → arg_by_long s.rules name ≡ Some a → takes_values a ≡ true
      → arg_by_id s.rules a.id ≡ Some a → bytes_eq a.id a.id ≡ true → most_values a ≡ 1
      → bytes_eq value (45 ∷ 45 ∷ []) ≡ false → long_of value ≡ None → short_of value ≡ None
      → use_passes s.args_override_self a (value ∷ []) rows ≡ true → Uses a.id h b n (word ∷ value ∷ []) n (used a (value ∷ []) rows)
  unfolding walked
  apart_used h b n rows a name word value st dashes long found some by_id same one dashes2 long2 short2 passes = record {
    held = holding h a (value ∷ []);
    pending = λ other e. e;
    after = false;
    goes = goes_both _ (waits) _ (word ∷ []) (value ∷ []) (one_word _ _ word (turn b) (walk b)) (one_word _ _ value turn2 walk2);
    stands = stands_holding h rows a (value ∷ []) st by_id passes;
  }
    where
      waits : Walk
      waits = record { held = asked h a; waiting = option a.id; position = n; is_trailing = false; stopped = None }

      turn : (b : Bool) → turn_passes s [] (at h b n) word ≡ true
      turn true = rw (dashes, long, found, some, st.passes) refl
      turn false = rw (dashes, long, found, some, st.passes) refl

      walk : (b : Bool) → walked s.rules [] (at h b n) word ≡ record { held = asked h a; waiting = option a.id; position = n; is_trailing = false; stopped = None }
      walk true = rw (dashes, long, found, some) refl
      walk false = rw (dashes, long, found, some) refl

      turn2 : turn_passes s [] (record { held = asked h a; waiting = option a.id; position = n; is_trailing = false; stopped = None }) value ≡ true
      turn2 = rw (dashes2, long2, short2) refl

      walk2 : walked s.rules [] (record { held = asked h a; waiting = option a.id; position = n; is_trailing = false; stopped = None }) value ≡ at (holding h a (value ∷ [])) false n
      walk2 = rw (dashes2, long2, short2, by_id, same, one) refl

  -- an operand of one word
  pub operand_used : (h : Held) (b : Bool) (n : ℕ) (rows : List Row) (a : Rule) (word : Text) → Stands h rows
      → bytes_eq word (45 ∷ 45 ∷ []) ≡ false → long_of word ≡ None → short_of word ≡ None
      → arg_by_index s.rules n ≡ Some a → takes_several a ≡ false → is_append (action_of a) ≡ false → a.trailing_var_arg ≡ false → arg_by_id s.rules a.id ≡ Some a
      → use_passes s.args_override_self a (word ∷ []) rows ≡ true → Uses a.id h b n (word ∷ []) (min (n + 1) usize_max) (used a (word ∷ []) rows)
  unfolding walked
  operand_used h b n rows a word st dashes long short found one single trailing by_id passes = record {
    held = holding h a (word ∷ []);
    pending = λ other e. e;
    after = false;
    goes = one_word _ _ word (turn b) (walk b);
    stands = stands_holding h rows a (word ∷ []) st by_id passes;
  }
    where
      turn : (b : Bool) → turn_passes s [] (at h b n) word ≡ true
      turn true = rw (dashes, long, short, found, one, and_false (is_pending a h.pending), st.passes) refl
      turn false = rw (dashes, long, short, found, one, and_false (is_pending a h.pending), st.passes) refl

      walk : (b : Bool) → walked s.rules [] (at h b n) word ≡ at (holding h a (word ∷ [])) false (min (n + 1) usize_max)
      walk true = rw (dashes, long, short, found, one, and_false (is_pending a h.pending), single, trailing) refl
      walk false = rw (dashes, long, short, found, one, and_false (is_pending a h.pending), single, trailing) refl

  pub first_used : (h : Held) (b : Bool) (n : ℕ) (rows : List Row) (a : Rule) (word : Text) → Stands h rows → IsWord word
      → arg_by_index s.rules n ≡ Some a → is_pending a h.pending ≡ false → takes_several a ≡ true → a.trailing_var_arg ≡ false
      → Goes (at h b n) (word ∷ []) (at (holding h a (word ∷ [])) true n)
  unfolding walked
  first_used h b n rows a word st is found fresh many trailing = one_word _ _ word (turn b) (walk b)
    where
      turn : (b : Bool) → turn_passes s [] (at h b n) word ≡ true
      turn true = rw (is.dashes, is.long, is.short, found, fresh, st.passes) refl
      turn false = rw (is.dashes, is.long, is.short, found, fresh, st.passes) refl

      walk : (b : Bool) → walked s.rules [] (at h b n) word ≡ at (holding h a (word ∷ [])) true n
      walk true = rw (is.dashes, is.long, is.short, found, fresh, many, trailing) refl
      walk false = rw (is.dashes, is.long, is.short, found, fresh, many, trailing) refl

  pub next_used : (h : Held) (n : ℕ) (a : Rule) (seen : List Text) (word : Text) → IsWord word
      → arg_by_index s.rules n ≡ Some a → bytes_eq a.id a.id ≡ true → takes_several a ≡ true → a.trailing_var_arg ≡ false
      → Goes (at (holding h a seen) true n) (word ∷ []) (at (holding h a (seen ++ word ∷ [])) true n)
  unfolding walked
  next_used h n a seen word is found same several trailing = one_word _ _ word
      (rw (is.dashes, is.long, is.short, found, same, several) refl) (rw (is.dashes, is.long, is.short, found, same, several, trailing) refl)

  pub nothing_goes : (w : Walk) → Goes w [] w
  nothing_goes w = record { passes = λ more e. e; walks = λ more. refl }

  pub others_used : (h : Held) (n : ℕ) (a : Rule) (seen words : List Text) → AllWords words
      → arg_by_index s.rules n ≡ Some a → bytes_eq a.id a.id ≡ true → takes_several a ≡ true → a.trailing_var_arg ≡ false
      → Goes (at (holding h a seen) true n) words (at (holding h a (seen ++ words)) true n)
  others_used h n a seen [] no_words found same several trailing =
      rw (append-nil seen) (nothing_goes _)
  others_used h n a seen (word ∷ words) (one_more _ _ is all) found same several trailing =
      rw (append_assoc seen (word ∷ []) words) at (goes_both _ _ _ (word ∷ []) words (next_used h n a seen word is found same several trailing)
      (others_used h n a (seen ++ word ∷ []) words all found same several trailing))

  -- the operand of one or more words
  pub files_used : (h : Held) (b : Bool) (n : ℕ) (rows : List Row) (a : Rule) (word : Text) (words : List Text) → Stands h rows → IsWord word → AllWords words
      → arg_by_index s.rules n ≡ Some a → is_pending a h.pending ≡ false → takes_several a ≡ true → a.trailing_var_arg ≡ false → arg_by_id s.rules a.id ≡ Some a
      → bytes_eq a.id a.id ≡ true → use_passes s.args_override_self a (word ∷ words) rows ≡ true
      → Uses a.id h b n (word ∷ words) n (used a (word ∷ words) rows)
  files_used h b n rows a word words st is all found fresh several trailing by_id same passes = record {
    held = holding h a (word ∷ words);
    pending = λ other e. e;
    after = true;
    goes = goes_both _ _ _ (word ∷ []) words (first_used h b n rows a word st is found fresh several trailing)
        (others_used h n a (word ∷ []) words all found same several trailing);
    stands = stands_holding h rows a (word ∷ words) st by_id passes;
  }
