-- The program's reader takes the steps of the reading.
use Rattle.std.proofs.Common.{◌≡◌, ◌∙◌, ◌<◌, ℕ, suc, Bool, cond, true, false, true≢false, refl, sym, ap, ap₂, List, [], ◌∷◌, map, drop, length, Option, Some, None, codes, not, ◌&&◌, ◌||◌, drop-cons, get_or, if◌then◌else◌, is_none, option_map}
use Rattle.std.specs.List.{list_any}
use Rattle.std.specs.Str.{bytes_eq}
use Rattle.std.proofs.lemmas.Slice.Eq.{bytes_eq-Decides}
use Rattle.clap.specs.Lexer.{long_of}
use Rattle.pj_words.specs.declared.tables.Subcommand.{Subcommand}
use Rattle.pj_words.specs.declared.tables.Subcommand.TheVariants.{Run as Running, Replay as Replaying, Check as Checking, Make as Making}
use Rattle.pj_words.specs.declared.tables.Name.{Name}
use Rattle.pj_words.specs.declared.tables.Name.TheVariants.{Workers, Limit, Sorted, Trace, Check, Print}
use Rattle.pj_words.specs.declared.reader.Given.{Given}
use Rattle.pj_words.specs.declared.reader.Seen.{Seen as State}
use Rattle.pj_words.specs.Form.{Form, Operand, Text, fits_kind, fits_range, is_among, is_numbered, is_operand}
use Rattle.pj_words.specs.Reader.{Seen, begins_dash, goes_on, has_name, is_done, may_repeat, new_option, next_operand, number_option, operand_step, option_step, reads, step, with_name}
use Rattle.pj_words.specs.Request.{form_of}
use Rattle.pj_words.specs.Steps.{LeadsTo, all_names, has_mark, marked, marks, name_text, names_given, seen_by, with_mark}
use Rattle.pj_words.proofs.Sound.{by_test, ranged_name, same_either_way}

-- ---- the options that were given

-- a name among those that are marked
abbrev mark_of : List (Bool × Text) → Text → Bool
mark_of [] name = false
mark_of (p ∷ ps) name = (bytes_eq name p.1 && p.0) || mark_of ps name

abbrev mark : Text → List (Bool × Text) → List (Bool × Text)
mark name [] = []
mark name (p ∷ ps) = if bytes_eq name p.1 then (true, p.1) ∷ ps else p ∷ mark name ps

among_marked : (ps : List (Bool × Text)) (name : Text) → is_among (marked ps) name ≡ mark_of ps name
among_marked [] name = refl
among_marked (p ∷ ps) name = go p.0 (bytes_eq name p.1) refl (among_marked ps name)
  where
    go : (b t : Bool) → bytes_eq name p.1 ≡ t → is_among (marked ps) name ≡ mark_of ps name
        → is_among (cond b (p.1 ∷ marked ps) (marked ps)) name ≡ ((t && b) || mark_of ps name)
    go true true is ih = rw is refl
    go true false is ih = rw is ih
    go false true is ih = ih
    go false false is ih = ih

abbrev names_of : List (Bool × Text) → List Text
names_of [] = []
names_of (p ∷ ps) = p.1 ∷ names_of ps

mark_adds : (name : Text) (ps : List (Bool × Text)) (other : Text) → is_among (names_of ps) name ≡ true → mark_of (mark name ps) other ≡ (bytes_eq other name || mark_of ps other)
mark_adds name [] other known = absurd (true≢false (sym known))
mark_adds name (p ∷ ps) other known = by_test _ (bytes_eq name p.1)
    (λ yes. rw yes (rw ((bytes_eq-Decides name p.1).0 yes) (absorbs (bytes_eq other p.1) p.0 (mark_of ps other))))
    (λ no. rw no (ap (λ t. (bytes_eq other p.1 && p.0) || t) (mark_adds name ps other (rw no at known)) ∙ swaps (bytes_eq other p.1 && p.0) (bytes_eq other name) (mark_of ps other)))
  where
    absorbs : (e b r : Bool) → ((e && true) || r) ≡ (e || ((e && b) || r))
    absorbs true b r = refl
    absorbs false b r = refl

    swaps : (a t r : Bool) → (a || (t || r)) ≡ (t || (a || r))
    swaps true true r = refl
    swaps true false r = refl
    swaps false t r = refl

or_false : (b : Bool) → (b || false) ≡ b
or_false true = refl
or_false false = refl

-- the mark of an option tells whether its name is among those given
pub given_has : (g : Given) (name : Name) → is_among (names_given g) (name_text name) ≡ has_mark g name
given_has g Workers = among_marked (marks g) (codes "workers") ∙ or_false g.workers
given_has g Limit = among_marked (marks g) (codes "limit") ∙ or_false g.limit
given_has g Sorted = among_marked (marks g) (codes "sorted") ∙ or_false g.sorted
given_has g Trace = among_marked (marks g) (codes "trace") ∙ or_false g.trace
given_has g Check = among_marked (marks g) (codes "check") ∙ or_false g.check
given_has g Print = among_marked (marks g) (codes "print") ∙ or_false g.print

marks_with : (g : Given) (name : Name) → marks (with_mark g name) ≡ mark (name_text name) (marks g)
marks_with g Workers = refl
marks_with g Limit = refl
marks_with g Sorted = refl
marks_with g Trace = refl
marks_with g Check = refl
marks_with g Print = refl

name_known : (name : Name) → is_among all_names (name_text name) ≡ true
name_known Workers = refl
name_known Limit = refl
name_known Sorted = refl
name_known Trace = refl
name_known Check = refl
name_known Print = refl

given_with : (g : Given) (name : Name) (other : Text) → is_among (names_given (with_mark g name)) other ≡ is_among (name_text name ∷ names_given g) other
given_with g name other =
    among_marked (marks (with_mark g name)) other ∙ ap (λ ps. mark_of ps other) (marks_with g name)
    ∙ mark_adds (name_text name) (marks g) other (name_known name) ∙ ap (λ t. bytes_eq other (name_text name) || t) (sym (among_marked (marks g) other))

-- ---- the order of the names does not matter

abbrev Alike : List Text → List Text → Type 0
Alike a b = (name : Text) → is_among a name ≡ is_among b name

alike_more : (a b : List Text) (name : Text) → Alike a b → Alike (name ∷ a) (name ∷ b)
alike_more a b name same other = ap (λ t. bytes_eq other name || t) (same other)

has_among : (names : List Text) (name : Text) → has_name names name ≡ is_among names name
has_among [] name = refl
has_among (x ∷ xs) name = ap₂ (λ (a b : Bool). a || b) (same_either_way x name) (has_among xs name)

has_alike : (a b : List Text) (name : Text) → Alike a b → has_name a name ≡ has_name b name
has_alike a b name same = has_among a name ∙ same name ∙ sym (has_among b name)

abbrev seen : List Operand → Bool → List Text → Option Text → Seen
seen left inside names wants = record { left = left; inside = inside; names = names; wants = wants }

if_same : (R : Seen → Bool) (t : Bool) (x y : Seen) → R x ≡ R y → goes_on R (cond t (Some x) None) ≡ goes_on R (cond t (Some y) None)
if_same R true x y e = e
if_same R false x y e = refl

-- what follows is read alike
abbrev SameAfter : Form → List Text → Type 0
SameAfter c words = (left : List Operand) (inside : Bool) (a b : List Text) (wants : Option Text) → Alike a b
    → reads c words (seen left inside a wants) ≡ reads c words (seen left inside b wants)

module _ (c : Form) (words : List Text) (after : SameAfter c words) where
  new_same : (left : List Operand) (inside : Bool) (a b : List Text) (name : Text) (v : Option Text) → Alike a b
      → goes_on (reads c words) (new_option c (seen left inside a None) name v) ≡ goes_on (reads c words) (new_option c (seen left inside b None) name v)
  new_same left inside a b name (Some digits) same = if_same (reads c words) (list_any (fits_range name digits) c.numbers)
      (seen left false (name ∷ a) None) (seen left false (name ∷ b) None) (after left false (name ∷ a) (name ∷ b) None (alike_more a b name same))
  new_same left inside a b name None same = go (is_among c.flags name)
    where
      go : (t : Bool) → goes_on (reads c words) (cond t (Some (seen left false (name ∷ a) None)) (number_option c (seen left inside a None) name))
          ≡ goes_on (reads c words) (cond t (Some (seen left false (name ∷ b) None)) (number_option c (seen left inside b None) name))
      go true = after left false (name ∷ a) (name ∷ b) None (alike_more a b name same)
      go false = if_same (reads c words) (is_numbered c name) (seen left false (name ∷ a) (Some name)) (seen left false (name ∷ b) (Some name))
          (after left false (name ∷ a) (name ∷ b) (Some name) (alike_more a b name same))

  option_same : (left : List Operand) (inside : Bool) (a b : List Text) (p : Option (Text × Option Text)) → Alike a b
      → goes_on (reads c words) (option_step c (seen left inside a None) p) ≡ goes_on (reads c words) (option_step c (seen left inside b None) p)
  option_same left inside a b None same = refl
  option_same left inside a b (Some p) same = rw (same p.0) (go (is_among b p.0))
    where
      go : (t : Bool) → goes_on (reads c words) (cond t None (new_option c (seen left inside a None) p.0 p.1))
          ≡ goes_on (reads c words) (cond t None (new_option c (seen left inside b None) p.0 p.1))
      go true = refl
      go false = new_same left inside a b p.0 p.1 same

  next_same : (left : List Operand) (inside : Bool) (a b : List Text) (word : Text) → Alike a b
      → goes_on (reads c words) (next_operand (seen left inside a None) left word) ≡ goes_on (reads c words) (next_operand (seen left inside b None) left word)
  next_same [] inside a b word same = refl
  next_same (o ∷ os) inside a b word same = if_same (reads c words) (fits_kind o.kind (word ∷ [])) (seen os (may_repeat o.kind) a None) (seen os (may_repeat o.kind) b None)
      (after os (may_repeat o.kind) a b None same)

  operand_same : (left : List Operand) (inside : Bool) (a b : List Text) (word : Text) → Alike a b
      → goes_on (reads c words) (operand_step (seen left inside a None) word) ≡ goes_on (reads c words) (operand_step (seen left inside b None) word)
  operand_same left inside a b word same = go (inside && is_operand word)
    where
      go : (t : Bool) → goes_on (reads c words) (cond t (Some (seen left inside a None)) (next_operand (seen left inside a None) left word))
          ≡ goes_on (reads c words) (cond t (Some (seen left inside b None)) (next_operand (seen left inside b None) left word))
      go true = after left inside a b None same
      go false = next_same left inside a b word same

  step_same : (left : List Operand) (inside : Bool) (a b : List Text) (wants : Option Text) (word : Text) → Alike a b
      → goes_on (reads c words) (step c (seen left inside a wants) word) ≡ goes_on (reads c words) (step c (seen left inside b wants) word)
  step_same left inside a b (Some name) word same = if_same (reads c words) (list_any (fits_range name word) c.numbers) (seen left false a None) (seen left false b None)
      (after left false a b None same)
  step_same left inside a b None word same = go (begins_dash word)
    where
      go : (t : Bool) → goes_on (reads c words) (cond t (option_step c (seen left inside a None) (long_of word)) (operand_step (seen left inside a None) word))
          ≡ goes_on (reads c words) (cond t (option_step c (seen left inside b None) (long_of word)) (operand_step (seen left inside b None) word))
      go true = option_same left inside a b (long_of word) same
      go false = operand_same left inside a b word same

reads_same : (c : Form) (words : List Text) → SameAfter c words
reads_same c [] left inside a b wants same = ap₂ (λ (s t : Bool). is_none wants && (is_done left && not (s && t)))
    (has_alike a b (codes "sorted") same) (has_alike a b (codes "trace") same)
reads_same c (word ∷ words) left inside a b wants same = step_same c words (reads_same c words) left inside a b wants word same

-- ---- the program's steps

-- one more option
pub option_leads : (k : Subcommand) (st : State) (name : Name) (wants : Option Name)
    → LeadsTo k (Some (with_name (seen_by k st) (name_text name) (option_map name_text wants))) (Some (record st { inside = false; given = with_mark st.given name; wants = wants }))
option_leads k st name wants words = reads_same (form_of k) words (drop st.place (form_of k).operands) false (name_text name ∷ names_given st.given)
    (names_given (with_mark st.given name)) (option_map name_text wants) (λ other. sym (given_with st.given name other))

-- an option that no command has
unknown_flag : (k : Subcommand) (name : Text) → is_among all_names name ≡ false → (is_among (form_of k).flags name ≡ false) × (is_numbered (form_of k) name ≡ false)
unknown_flag k name e =
    let w = neither (bytes_eq name (codes "workers")) _ e in
    let l = neither (bytes_eq name (codes "limit")) _ w.1 in
    let s = neither (bytes_eq name (codes "sorted")) _ l.1 in
    let t = neither (bytes_eq name (codes "trace")) _ s.1 in
    let c = neither (bytes_eq name (codes "check")) _ t.1 in
    let p = neither (bytes_eq name (codes "print")) _ c.1 in
    go k w.0 l.0 s.0 t.0 c.0 p.0
  where
    neither : (a b : Bool) → (a || b) ≡ false → (a ≡ false) × (b ≡ false)
    neither true b e = absurd (true≢false e)
    neither false b e = (refl, e)

    go : (k : Subcommand) → bytes_eq name (codes "workers") ≡ false → bytes_eq name (codes "limit") ≡ false → bytes_eq name (codes "sorted") ≡ false
        → bytes_eq name (codes "trace") ≡ false → bytes_eq name (codes "check") ≡ false → bytes_eq name (codes "print") ≡ false
        → (is_among (form_of k).flags name ≡ false) × (is_numbered (form_of k) name ≡ false)
    go Running w l s t c p = (rw (s, t, c) refl, rw (w, l) refl)
    go Replaying w l s t c p = (rw t refl, rw l refl)
    go Checking w l s t c p = (rw p refl, refl)
    go Making w l s t c p = (refl, refl)

no_range : (c : Form) (name digits : Text) → is_numbered c name ≡ false → list_any (fits_range name digits) c.numbers ≡ false
no_range c name digits e = by_test _ (list_any (fits_range name digits) c.numbers)
    (λ yes. absurd (true≢false (sym (ranged_name name digits c.numbers yes) ∙ e)))
    (λ no. no)

pub unknown_leads : (k : Subcommand) (st : State) (name : Text) (v : Option Text) → is_among all_names name ≡ false
    → LeadsTo k (option_step (form_of k) (seen_by k st) (Some (name, v))) None
unknown_leads k st name v e words = go (is_among (names_given st.given) name) v
  where
    go : (t : Bool) (v : Option Text) → goes_on (reads (form_of k) words) (cond t None (new_option (form_of k) (seen_by k st) name v)) ≡ false
    go true v = refl
    go false None = let u = unknown_flag k name e in rw (u.0, u.1) refl
    go false (Some digits) = rw (no_range (form_of k) name digits (unknown_flag k name e).1) refl

pub flag_leads : (k : Subcommand) (st : State) (name : Name) (r : State) → is_among (form_of k).flags (name_text name) ≡ true
    → r ≡ record st { inside = false; given = with_mark st.given name; wants = None } → LeadsTo k (new_option (form_of k) (seen_by k st) (name_text name) None) (Some r)
flag_leads k st name r flag is words = rw (flag, is) (option_leads k st name None words)

pub number_leads : (k : Subcommand) (st : State) (name : Name) (r : State) → is_among (form_of k).flags (name_text name) ≡ false → is_numbered (form_of k) (name_text name) ≡ true
    → r ≡ record st { inside = false; given = with_mark st.given name; wants = Some name } → LeadsTo k (new_option (form_of k) (seen_by k st) (name_text name) None) (Some r)
number_leads k st name r flag number is words = rw (flag, number, is) (option_leads k st name (Some name) words)

pub joined_leads : (k : Subcommand) (st : State) (name : Name) (digits : Text) (r : State) → list_any (fits_range (name_text name) digits) (form_of k).numbers ≡ true
    → r ≡ record st { inside = false; given = with_mark st.given name; wants = None } → LeadsTo k (new_option (form_of k) (seen_by k st) (name_text name) (Some digits)) (Some r)
joined_leads k st name digits r fits is words = rw (fits, is) (option_leads k st name None words)

pub new_leads : (k : Subcommand) (st : State) (name : Name) (v : Option Text) (r : Option State) → has_mark st.given name ≡ false
    → LeadsTo k (new_option (form_of k) (seen_by k st) (name_text name) v) r → LeadsTo k (option_step (form_of k) (seen_by k st) (Some (name_text name, v))) r
new_leads k st name v r other l words = rw (given_has st.given name ∙ other) (l words)

pub repeated_leads : (k : Subcommand) (st : State) (name : Name) (v : Option Text) → has_mark st.given name ≡ true
    → LeadsTo k (option_step (form_of k) (seen_by k st) (Some (name_text name, v))) None
repeated_leads k st name v given words = rw (given_has st.given name ∙ given) refl

-- a word that may not follow
pub stops : (k : Subcommand) (st : State) (word : Text) (rest more : List Text) (all : Bool) → LeadsTo k (step (form_of k) (seen_by k st) word) None
    → rest ≡ word ∷ more → reads (form_of k) rest (seen_by k st) ≡ all → false ≡ all
stops k st word rest more all l is e = sym (l more) ∙ ap (λ (ws : List Text). reads (form_of k) ws (seen_by k st)) (sym is) ∙ e

pub texts_from : {A : Type 0} (f : A → Text) (words : List A) (i : ℕ) (d : A) → i < length words → map f (drop i words) ≡ f (get_or words i d) ∷ map f (drop (suc i) words)
texts_from f words i d within = ap (map f) (drop-cons words i d within)
