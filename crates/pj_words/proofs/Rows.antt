-- Rows of clap's matches, looked up by their ids.
use Rattle.std.proofs.Common.{◌≡◌, ◌∙◌, ◌++◌, Bool, cond, true, false, true≢false, is_some, if◌then◌else◌, refl, sym, ap, List, [], ◌∷◌, Option, Some, None, ◌||◌, append-nil}
use Rattle.std.specs.List.{fold, find}
use Rattle.std.specs.Str.{bytes_eq}
use Rattle.std.proofs.lemmas.Slice.Eq.{bytes_eq-Decides}
use Rattle.clap.specs.Walk.{Row, Rule, Text, at_row, default_rows, has_row, more_values, reading_by, with_default, with_values, without}
use Rattle.clap.specs.declared.parser.matches.ValueSource.{ValueSource}
use Rattle.clap.specs.declared.parser.matches.ValueSource.TheVariants.{DefaultValue}
use Rattle.clap.specs.declared.builder.value_parser.Reading.{Reading}

abbrev pub row_in : Text → List Row → Option Row
row_in id rows = find (λ r. bytes_eq r.id id) rows

abbrev pub first_row : Option Row → Option Row → Option Row
first_row None o = o
first_row (Some r) o = Some r

abbrev pub new_row : Text → Reading → ValueSource → List Text → Row
new_row id how s values = record { id = id; values = values; count = None; source = Some s; reading = how }

nothing : (r : Row) → None ≡ Some r → ⊥
nothing r e = absurd (true≢false (sym (ap is_some e)))

-- the rows with one id
pub at_absent : (id : Text) (change : Row → List Row) (missing rows : List Row) → has_row id rows ≡ false → at_row id change missing rows ≡ rows ++ missing
at_absent id change missing [] e = refl
at_absent id change missing (r ∷ rs) e = go (bytes_eq r.id id) e (at_absent id change missing rs)
  where
    go : (b : Bool) → (b || has_row id rs) ≡ false → (has_row id rs ≡ false → at_row id change missing rs ≡ rs ++ missing)
        → cond b (change r ++ rs) (r ∷ at_row id change missing rs) ≡ r ∷ rs ++ missing
    go true h ih = absurd (true≢false h)
    go false h ih = ap (λ xs. r ∷ xs) (ih h)

pub with_absent : (id : Text) (how : Reading) (s : ValueSource) (values : List Text) (rows : List Row) → has_row id rows ≡ false
    → with_values id how s values rows ≡ rows ++ new_row id how s values ∷ []
with_absent id how s values rows e = at_absent id (more_values s values) (new_row id how s values ∷ []) rows e

pub without_absent : (id : Text) (rows : List Row) → has_row id rows ≡ false → without id rows ≡ rows
without_absent id rows e = at_absent id (λ r. []) [] rows e ∙ append-nil rows

pub has_row-append : (id : Text) (xs ys : List Row) → has_row id (xs ++ ys) ≡ (has_row id xs || has_row id ys)
has_row-append id [] ys = refl
has_row-append id (x ∷ xs) ys = go (bytes_eq x.id id) (has_row-append id xs ys)
  where
    go : (b : Bool) → has_row id (xs ++ ys) ≡ (has_row id xs || has_row id ys) → (b || has_row id (xs ++ ys)) ≡ ((b || has_row id xs) || has_row id ys)
    go true ih = refl
    go false ih = ih

pub row_in-skip : (id : Text) (xs ys : List Row) → has_row id xs ≡ false → row_in id (xs ++ ys) ≡ row_in id ys
row_in-skip id [] ys e = refl
row_in-skip id (x ∷ xs) ys e = go (bytes_eq x.id id) e (row_in-skip id xs ys)
  where
    go : (b : Bool) → (b || has_row id xs) ≡ false → (has_row id xs ≡ false → row_in id (xs ++ ys) ≡ row_in id ys)
        → cond b (Some x) (row_in id (xs ++ ys)) ≡ row_in id ys
    go true h ih = absurd (true≢false h)
    go false h ih = ih h

pub row_in-more : (id : Text) (xs ys : List Row) (r : Row) → row_in id xs ≡ Some r → row_in id (xs ++ ys) ≡ Some r
row_in-more id [] ys r e = absurd (nothing r e)
row_in-more id (x ∷ xs) ys r e = go (bytes_eq x.id id) e (row_in-more id xs ys r)
  where
    go : (b : Bool) → cond b (Some x) (row_in id xs) ≡ Some r → (row_in id xs ≡ Some r → row_in id (xs ++ ys) ≡ Some r)
        → cond b (Some x) (row_in id (xs ++ ys)) ≡ Some r
    go true h ih = h
    go false h ih = ih h

-- the default that an argument adds where it was not used
abbrev pub default_row : Rule → List Text → List Row
default_row a [] = []
default_row a (v ∷ vs) = new_row a.id (reading_by a) DefaultValue (v ∷ vs) ∷ []

pub default_adds : (rows : List Row) (a : Rule) → has_row a.id rows ≡ false → with_default rows a ≡ rows ++ default_row a a.defaults
default_adds rows a e = rw e (go a.defaults)
  where
    go : (vs : List Text) → default_rows a.id (reading_by a) vs rows ≡ rows ++ default_row a vs
    go [] = sym (append-nil rows)
    go (v ∷ vs) = with_absent a.id (reading_by a) DefaultValue (v ∷ vs) rows e

-- a row that is there stays when defaults are added
pub row_in-default : (id : Text) (rows : List Row) (a : Rule) (r : Row) → row_in id rows ≡ Some r → row_in id (with_default rows a) ≡ Some r
row_in-default id rows a r e = go (has_row a.id rows) refl
  where
    go : (b : Bool) → has_row a.id rows ≡ b → row_in id (with_default rows a) ≡ Some r
    go true h = rw h e
    go false h = rw (default_adds rows a h) (row_in-more id rows _ r e)

pub row_in-defaults : (id : Text) (rules : List Rule) (rows : List Row) (r : Row) → row_in id rows ≡ Some r → row_in id (fold with_default rows rules) ≡ Some r
row_in-defaults id [] rows r e = e
row_in-defaults id (a ∷ rules) rows r e = row_in-defaults id rules (with_default rows a) r (row_in-default id rows a r e)

-- the row of an argument that was not used: its default, if it has one
abbrev pub default_in : Text → List Rule → Option Row
default_in id [] = None
default_in id (a ∷ rules) = if bytes_eq a.id id then first_row (row_in id (default_row a a.defaults)) (default_in id rules) else default_in id rules

no_row : (id : Text) (rows : List Row) → row_in id rows ≡ None → has_row id rows ≡ false
no_row id [] e = refl
no_row id (x ∷ xs) e = go (bytes_eq x.id id) e (no_row id xs)
  where
    go : (b : Bool) → cond b (Some x) (row_in id xs) ≡ None → (row_in id xs ≡ None → has_row id xs ≡ false) → (b || has_row id xs) ≡ false
    go true h ih = absurd (nothing x (sym h))
    go false h ih = ih h

no_find : (id : Text) (rows : List Row) → has_row id rows ≡ false → row_in id rows ≡ None
no_find id [] e = refl
no_find id (x ∷ xs) e = go (bytes_eq x.id id) e (no_find id xs)
  where
    go : (b : Bool) → (b || has_row id xs) ≡ false → (has_row id xs ≡ false → row_in id xs ≡ None) → cond b (Some x) (row_in id xs) ≡ None
    go true h ih = absurd (true≢false h)
    go false h ih = ih h

-- the rows of an id where another argument adds its default
other_default : (id : Text) (rows : List Row) (a : Rule) → bytes_eq a.id id ≡ false → has_row id rows ≡ false → has_row id (with_default rows a) ≡ false
other_default id rows a other e = go (has_row a.id rows) refl
  where
    added : (vs : List Text) → has_row id (rows ++ default_row a vs) ≡ false
    added [] = rw (append-nil rows) e
    added (v ∷ vs) = has_row-append id rows _ ∙ rw (e, other) refl

    go : (b : Bool) → has_row a.id rows ≡ b → has_row id (with_default rows a) ≡ false
    go true h = rw h e
    go false h = rw (default_adds rows a h) (added a.defaults)

pub row_in-absent : (id : Text) (rules : List Rule) (rows : List Row) → has_row id rows ≡ false → row_in id (fold with_default rows rules) ≡ default_in id rules
row_in-absent id [] rows e = no_find id rows e
row_in-absent id (a ∷ rules) rows e = go (bytes_eq a.id id) refl (row_in-absent id rules)
  where
    added : (vs : List Text) → bytes_eq a.id id ≡ true
        → ((rows : List Row) → has_row id rows ≡ false → row_in id (fold with_default rows rules) ≡ default_in id rules)
        → row_in id (fold with_default (rows ++ default_row a vs) rules) ≡ first_row (row_in id (default_row a vs)) (default_in id rules)
    added [] h ih = rw (append-nil rows) (ih rows e)
    added (v ∷ vs) h ih = row_in-defaults id rules _ (new_row a.id (reading_by a) DefaultValue (v ∷ vs)) (row_in-skip id rows _ e ∙ rw h refl) ∙ rw h refl

    go : (b : Bool) → bytes_eq a.id id ≡ b
        → ((rows : List Row) → has_row id rows ≡ false → row_in id (fold with_default rows rules) ≡ default_in id rules)
        → row_in id (fold with_default (with_default rows a) rules) ≡ cond b (first_row (row_in id (default_row a a.defaults)) (default_in id rules)) (default_in id rules)
    go true h ih =
        let same : a.id ≡ id = (bytes_eq-Decides a.id id).0 h in
        let absent : has_row a.id rows ≡ false = rw same e in
        rw (default_adds rows a absent) (added a.defaults h ih)
    go false h ih = ih (with_default rows a) (other_default id rows a h e)
