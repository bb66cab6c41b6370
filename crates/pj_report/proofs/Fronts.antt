-- What a front of the lines of a run spells.
use Rattle.std.proofs.Common.{◌≡◌, ◌≢◌, ℕ, true, false, not, ◌==◌, ◌⊎◌, inl, inr, List, [], ◌∷◌, ◌++◌, refl, ap, sym, ◌∙◌, append_assoc, append-nil, subst}
use Rattle.std.specs.Prelude.{filter}
use Rattle.std.proofs.lemmas.Bool.Decides.{eqb_tells}
use Rattle.pj_pattern.specs.declared.element.Element.{Element}
use Rattle.pj_pattern.specs.declared.element.Element.TheVariants.{Tuple, Punct}
use Rattle.pj_line.specs.Lines.{HasNo}
use Rattle.pj_element.specs.Runs.{element_line, element_lines, fed}
use Rattle.pj_element.proofs.Feeds.{row_no_feed, punct_no_feed}
use Rattle.pj_report.specs.Written.{flat, lines_behind, whole_lines, is_note, result_lines, Spells}

-- lines of a report or a status, each with its line feed
pub record IsNoteLine (line : List ℕ) : Type 0 where
  pub words : List ℕ
  pub is : line ≡ fed words
  pub note : is_note words ≡ true
  pub whole : HasNo 10 words

abbrev pub AreNotes : List (List ℕ) → Type 0
AreNotes [] = Unit {0}
AreNotes (l ∷ ls) = IsNoteLine l × AreNotes ls

pub notes-append : (xs ys : List (List ℕ)) → AreNotes xs → AreNotes ys → AreNotes (xs ++ ys)
notes-append [] ys nx ny = ny
notes-append (x ∷ xs) ys nx ny = (nx.0, notes-append xs ys nx.1 ny)

-- ---- whole lines

no_feed_test : (b : ℕ) → b ≢ 10 → (b == 10) ≡ false
no_feed_test b differ = elim (eqb_tells b 10) [ inl same ↦ absurd (differ same.1) | inr other ↦ other.0 ]

part_of_line : (so_far xs : List ℕ) → HasNo 10 xs → lines_behind so_far xs ≡ []
part_of_line so_far [] none = refl
part_of_line so_far (b ∷ bs) none = rw (no_feed_test b none.0) (part_of_line (so_far ++ b ∷ []) bs none.1)

line_and_more : (so_far line rest : List ℕ) → HasNo 10 line → lines_behind so_far (line ++ 10 ∷ rest) ≡ (so_far ++ line) ∷ lines_behind [] rest
line_and_more so_far [] rest none = rw append-nil refl
line_and_more so_far (b ∷ bs) rest none =
    rw (no_feed_test b none.0) (line_and_more (so_far ++ b ∷ []) bs rest none.1 ∙ ap (λ (l : List ℕ). l ∷ lines_behind [] rest) (append_assoc so_far (b ∷ []) bs))

none_front : (xs ys : List ℕ) → HasNo 10 (xs ++ ys) → HasNo 10 xs
none_front [] ys n = tt
none_front (x ∷ xs) ys n = (n.0, none_front xs ys n.1)

-- a front of a line and what comes behind it: within the line, or the line and more
pub data Split (front others line rest : List ℕ) : Type 0 where
  Within : (left : List ℕ) → front ++ left ≡ line → Split front others line rest
  Behind : (more : List ℕ) → front ≡ line ++ more → more ++ others ≡ rest → Split front others line rest

heads : (x y : ℕ) (xs ys : List ℕ) → x ∷ xs ≡ y ∷ ys → x ≡ y
heads x y xs ys e = cc

tails : (x y : ℕ) (xs ys : List ℕ) → x ∷ xs ≡ y ∷ ys → xs ≡ ys
tails x y xs ys e = cc

split_more : (f b : ℕ) (front others line rest : List ℕ) → f ≡ b → Split front others line rest → Split (f ∷ front) others (b ∷ line) rest
split_more f b front others line rest same (Within left is) = Within left (cc)
split_more f b front others line rest same (Behind more is all) = Behind more (cc) all

split : (front others line rest : List ℕ) → front ++ others ≡ line ++ rest → Split front others line rest
split front others [] rest e = Behind front refl e
split [] others (b ∷ line) rest e = Within (b ∷ line) refl
split (f ∷ front) others (b ∷ line) rest e =
    split_more f b front others line rest (heads f b (front ++ others) (line ++ rest) e) (split front others line rest (tails f b (front ++ others) (line ++ rest) e))

-- ---- fronts of notes

skip_note : (line : List ℕ) (lines : List (List ℕ)) → is_note line ≡ true → filter (λ l. not (is_note l)) (line ∷ lines) ≡ filter (λ l. not (is_note l)) lines
skip_note line lines e = rw e refl

keep_result : (line : List ℕ) (lines : List (List ℕ)) → is_note line ≡ false → filter (λ l. not (is_note l)) (line ∷ lines) ≡ line ∷ filter (λ l. not (is_note l)) lines
keep_result line lines e = rw e refl

-- a line with its line feed, and more
fed_more : (words rest : List ℕ) → fed words ++ rest ≡ words ++ 10 ∷ rest
fed_more words rest = append_assoc words (10 ∷ []) rest

part_spells : (part : List ℕ) → HasNo 10 part → result_lines part ≡ []
part_spells part none = ap (λ (ls : List (List ℕ)). filter (λ l. not (is_note l)) ls) (part_of_line [] part none)

note_spells : (words rest : List ℕ) → HasNo 10 words → is_note words ≡ true → result_lines (words ++ 10 ∷ rest) ≡ result_lines rest
note_spells words rest none note =
    ap (λ (ls : List (List ℕ)). filter (λ l. not (is_note l)) ls) (line_and_more [] words rest none) ∙ skip_note words (whole_lines rest) note

result_spells : (words rest : List ℕ) → HasNo 10 words → is_note words ≡ false → result_lines (words ++ 10 ∷ rest) ≡ words ∷ result_lines rest
result_spells words rest none result =
    ap (λ (ls : List (List ℕ)). filter (λ l. not (is_note l)) ls) (line_and_more [] words rest none) ∙ keep_result words (whole_lines rest) result

-- ---- fronts of results and notes

element_no_feed : (e : Element) → HasNo 10 (element_line e)
element_no_feed (Tuple row) = row_no_feed row
element_no_feed (Punct punct) = punct_no_feed punct

element_no_note : (e : Element) → is_note (element_line e) ≡ false
element_no_note (Tuple row) = refl
element_no_note (Punct punct) = refl

-- the lines of these outputs, in order, and notes among them
abbrev pub AreLinesOf : List (List ℕ) → List Element → Type 0
AreLinesOf [] [] = Unit {0}
AreLinesOf [] (e ∷ es) = ⊥
AreLinesOf (l ∷ ls) es = (IsNoteLine l × AreLinesOf ls es) ⊎ ((e : Element) × (rest : List Element) × (es ≡ e ∷ rest) × (l ≡ fed (element_line e)) × AreLinesOf ls rest)

pub notes_are : (notes : List (List ℕ)) → AreNotes notes → AreLinesOf notes []
notes_are [] n = tt
notes_are (l ∷ ls) n = inl (n.0, notes_are ls n.1)

pub elements_are : (es : List Element) → AreLinesOf (element_lines es) es
elements_are [] = tt
elements_are (e ∷ es) = inr (e, es, refl, refl, elements_are es)

pub lines-append : (xs ys : List (List ℕ)) (es fs : List Element) → AreLinesOf xs es → AreLinesOf ys fs → AreLinesOf (xs ++ ys) (es ++ fs)
lines-append [] ys [] fs a b = b
lines-append [] ys (e ∷ es) fs a b = absurd a
lines-append (x ∷ xs) ys es fs (inl note) b = inl (note.0, lines-append xs ys es fs note.1 b)
lines-append (x ∷ xs) ys es fs (inr line) b = inr (line.0, line.1 ++ fs, ap (λ (os : List Element). os ++ fs) line.2, line.3, lines-append xs ys line.1 fs line.4 b)

-- a front of such lines spells first ones of the outputs
pub record FrontSpells (outputs : List Element) (front : List ℕ) : Type 0 where
  pub first : List Element
  pub others : List Element
  pub all : first ++ others ≡ outputs
  pub spells : Spells front first

none_spelled : (outputs : List Element) (front : List ℕ) → result_lines front ≡ [] → FrontSpells outputs front
none_spelled outputs front none = record { first = []; others = outputs; all = refl; spells = none }

one_spelled : (e : Element) (es : List Element) (front more : List ℕ) → front ≡ element_line e ++ 10 ∷ more → FrontSpells es more → FrontSpells (e ∷ es) front
one_spelled e es front more is f = record {
  first = e ∷ f.first;
  others = f.others;
  all = ap (λ (xs : List Element). e ∷ xs) f.all;
  spells = ap result_lines is ∙ (result_spells (element_line e) more (element_no_feed e) (element_no_note e) ∙ ap (λ (ls : List (List ℕ)). element_line e ∷ ls) f.spells);
}

front_behind : (o : Element) (os : List Element) (rest front more others : List ℕ) → ((m : List ℕ) → m ++ others ≡ rest → FrontSpells os m) → front ≡ element_line o ++ more → more ++ others ≡ 10 ∷ rest → FrontSpells (o ∷ os) front
front_behind o os rest front [] others next is all = none_spelled (o ∷ os) front (ap result_lines (is ∙ append-nil (element_line o)) ∙ part_spells (element_line o) (element_no_feed o))
front_behind o os rest front (m ∷ more) others next is all =
    let feed : m ≡ 10 = heads m 10 (more ++ others) rest all in
    one_spelled o os front more (is ∙ ap (λ x. element_line o ++ x ∷ more) feed) (next more (tails m 10 (more ++ others) rest all))

note_behind : (ls : List (List ℕ)) (outputs : List Element) (front more others words : List ℕ) → is_note words ≡ true → HasNo 10 words → ((m : List ℕ) → m ++ others ≡ flat ls → FrontSpells outputs m)
    → front ≡ words ++ more → more ++ others ≡ 10 ∷ flat ls → FrontSpells outputs front
note_behind ls outputs front [] others words note none next is all = none_spelled outputs front (ap result_lines (is ∙ append-nil words) ∙ part_spells words none)
note_behind ls outputs front (m ∷ more) others words note none next is all =
    let feed : m ≡ 10 = heads m 10 (more ++ others) (flat ls) all in
    let f : FrontSpells outputs more = next more (tails m 10 (more ++ others) (flat ls) all) in
    record {
      first = f.first;
      others = f.others;
      all = f.all;
      spells = ap result_lines (is ∙ ap (λ x. words ++ x ∷ more) feed) ∙ (note_spells words more none note ∙ f.spells);
    }

note_front : (ls : List (List ℕ)) (outputs : List Element) (front others words : List ℕ) → is_note words ≡ true → HasNo 10 words → ((m : List ℕ) → m ++ others ≡ flat ls → FrontSpells outputs m)
    → front ++ others ≡ words ++ 10 ∷ flat ls → FrontSpells outputs front
note_front ls outputs front others words note none next e =
    elim (split front others words (10 ∷ flat ls) e) [
      | Within left is ↦ none_spelled outputs front (part_spells front (none_front front left (subst (HasNo 10) (sym is) none)))
      | Behind more is all ↦ note_behind ls outputs front more others words note none next is all
    ]

line_front : (ls : List (List ℕ)) (o : Element) (os : List Element) (front others : List ℕ) → ((m : List ℕ) → m ++ others ≡ flat ls → FrontSpells os m) → front ++ others ≡ element_line o ++ 10 ∷ flat ls → FrontSpells (o ∷ os) front
line_front ls o os front others next e =
    elim (split front others (element_line o) (10 ∷ flat ls) e) [
      | Within left is ↦ none_spelled (o ∷ os) front (part_spells front (none_front front left (subst (HasNo 10) (sym is) (element_no_feed o))))
      | Behind more is all ↦ front_behind o os (flat ls) front more others next is all
    ]

pub front_spells : (lines : List (List ℕ)) (outputs : List Element) (front others : List ℕ) → AreLinesOf lines outputs → front ++ others ≡ flat lines → FrontSpells outputs front
front_spells [] outputs [] others a e = none_spelled outputs [] refl
front_spells [] outputs (f ∷ front) others a e = absurd (cc)
front_spells (l ∷ ls) outputs front others (inl note) e =
    note_front ls outputs front others note.0.words note.0.note note.0.whole (λ m all. front_spells ls outputs m others note.1 all)
    (e ∙ (ap (λ (x : List ℕ). x ++ flat ls) note.0.is ∙ fed_more note.0.words (flat ls)))
front_spells (l ∷ ls) outputs front others (inr line) e =
    subst (λ (os : List Element). FrontSpells os front) (sym line.2)
    (line_front ls line.0 line.1 front others (λ m all. front_spells ls line.1 m others line.4 all)
    (e ∙ (ap (λ (x : List ℕ). x ++ flat ls) line.3 ∙ fed_more (element_line line.0) (flat ls))))

-- whole first lines are those of first outputs, with notes among them
pub record FirstLines (outputs : List Element) (lines : List (List ℕ)) : Type 0 where
  pub first : List Element
  pub others : List Element
  pub all : first ++ others ≡ outputs
  pub are : AreLinesOf lines first

line_heads : (x y : List ℕ) (xs ys : List (List ℕ)) → x ∷ xs ≡ y ∷ ys → x ≡ y
line_heads x y xs ys e = cc

line_tails : (x y : List ℕ) (xs ys : List (List ℕ)) → x ∷ xs ≡ y ∷ ys → xs ≡ ys
line_tails x y xs ys e = cc

pub first_lines : (lines others all : List (List ℕ)) (outputs : List Element) → AreLinesOf all outputs → lines ++ others ≡ all → FirstLines outputs lines
first_lines [] others all outputs a e = record { first = []; others = outputs; all = refl; are = tt }
first_lines (l ∷ ls) others [] outputs a e = absurd (cc)
first_lines (l ∷ ls) others (k ∷ ks) outputs (inl note) e =
    let f : FirstLines outputs ls = first_lines ls others ks outputs note.1 (line_tails l k (ls ++ others) ks e) in
    record { first = f.first; others = f.others; all = f.all; are = inl (subst IsNoteLine (sym (line_heads l k (ls ++ others) ks e)) note.0, f.are) }
first_lines (l ∷ ls) others (k ∷ ks) outputs (inr line) e =
    let f : FirstLines line.1 ls = first_lines ls others ks line.1 line.4 (line_tails l k (ls ++ others) ks e) in
    record {
      first = line.0 ∷ f.first;
      others = f.others;
      all = ap (λ (os : List Element). line.0 ∷ os) f.all ∙ sym line.2;
      are = inr (line.0, f.first, refl, line_heads l k (ls ++ others) ks e ∙ line.3, f.are);
    }
