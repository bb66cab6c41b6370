-- The lines that tell of a stuck input are notes: they begin with `#`, and have their only line feed at the end.
use Rattle.std.proofs.Common.{ℕ, zero, suc, ◌≡◌, Bool, true, false, List, [], ◌∷◌, ◌++◌, refl, sym, ◌∙◌, subst, inl, inr, append_assoc}
use Rattle.std.specs.Prelude.{◌==◌, codes}
use Rattle.std.specs.List.{list_all, list_any}
use Rattle.std.proofs.lemmas.Bool.{and_parts, eqb-true, false≢true, or_from}
use Rattle.std.proofs.lemmas.List.Folds.{list_any-append}
use Rattle.pj_value.specs.Lists.{In}
use Rattle.pj_value.proofs.Members.{all_at, none_from}
use Rattle.pj_plan.specs.Names.{is_name_byte}
use Rattle.pj_cert.specs.Verdicts.{name_of, names_text, reached_text, unreached_text}
use Rattle.pj_judge.specs.Judgments.{IsNote}
use Rattle.pj_judge.specs.Asked.{Asked, IsAskable, is_plain, stuck_lines}

-- whether there is a line feed
abbrev has_feed : List ℕ → Bool
has_feed text = list_any (λ b. b == 10) text

no_feeds : (xs ys : List ℕ) → has_feed xs ≡ false → has_feed ys ≡ false → has_feed (xs ++ ys) ≡ false
no_feeds xs ys e f = list_any-append (λ b. b == 10) xs ys ∙ or_from (has_feed xs) (has_feed ys) e f

byte_no_feed : (b : ℕ) → is_name_byte b ≡ true → (b == 10) ≡ false
byte_no_feed b t = go (b == 10) refl
  where
    go : (is : Bool) → (b == 10) ≡ is → is ≡ false
    go true e = absurd (false≢true (subst (λ (n : ℕ). is_name_byte n ≡ true) (eqb-true b 10 e) t))
    go false e = refl

plain_no_feed : (name : List ℕ) → is_plain name ≡ true → has_feed name ≡ false
plain_no_feed name t = none_from (λ b. b == 10) name (λ b h. byte_no_feed b (all_at is_name_byte name b t h))

named_no_feed : (names : List (List ℕ)) (k : ℕ) → list_all is_plain names ≡ true → has_feed (name_of names k) ≡ false
named_no_feed [] k t = refl
named_no_feed (name ∷ names) zero t = plain_no_feed name (and_parts (is_plain name) (list_all is_plain names) t).0
named_no_feed (name ∷ names) (suc k) t = named_no_feed names k (and_parts (is_plain name) (list_all is_plain names) t).1

names_no_feed : (names : List (List ℕ)) (inputs : List ℕ) → list_all is_plain names ≡ true → has_feed (names_text names inputs) ≡ false
names_no_feed names [] t = refl
names_no_feed names (input ∷ inputs) t = no_feeds (name_of names input) (names_text names inputs) (named_no_feed names input t) (names_no_feed names inputs t)

behind : (a b c d : List ℕ) → a ++ (b ++ c ++ d) ≡ a ++ b ++ c ++ d
behind a b c d = simp append_assoc

module _ (asked : Asked) (plain : IsAskable asked) where
  join_plain : is_plain asked.name ≡ true
  join_plain = (and_parts (is_plain asked.name) (list_all is_plain asked.names) plain.plain).0

  all_plain : list_all is_plain asked.names ≡ true
  all_plain = (and_parts (is_plain asked.name) (list_all is_plain asked.names) plain.plain).1

  unreached_note : (input missing : ℕ) → IsNote (unreached_text asked.name asked.names input missing)
  unreached_note input missing =
      let from : List ℕ = name_of asked.names input in
      let to : List ℕ = name_of asked.names missing in
      let named : List ℕ = codes " unsafe join " ++ asked.name in
      let head : List ℕ = named ++ codes " input " ++ from ++ codes ":" in
      let no_name = no_feeds (codes " unsafe join ") asked.name refl (plain_no_feed asked.name join_plain) in
      let no_from = no_feeds (named ++ codes " input ") from (no_feeds named (codes " input ") no_name refl) (named_no_feed asked.names input all_plain) in
      let no_head = no_feeds (named ++ codes " input " ++ from) (codes ":") no_from refl in
      record {
        text = head ++ codes " cannot reach " ++ to;
        form = behind (codes "#" ++ head) (codes " cannot reach ") to (codes "\n");
        no_feed = no_feeds (head ++ codes " cannot reach ") to (no_feeds head (codes " cannot reach ") no_head refl) (named_no_feed asked.names missing all_plain);
      }

  reached_note : (reached : List ℕ) → IsNote (reached_text asked.names reached)
  reached_note reached = record {
    text = codes " reached:" ++ names_text asked.names reached;
    form = refl;
    no_feed = no_feeds (codes " reached:") (names_text asked.names reached) refl (names_no_feed asked.names reached all_plain);
  }

  notes : (input missing : ℕ) (reached : List ℕ) (line : List ℕ) → In line (stuck_lines asked input missing reached) → IsNote line
  notes input missing reached line (inl e) = subst IsNote e (unreached_note input missing)
  notes input missing reached line (inr (inl e)) = subst IsNote e (reached_note reached)
  notes input missing reached line (inr (inr h)) = absurd h

-- each of these lines is a note
abbrev pub AreNotes : List (List ℕ) → Type 0
AreNotes lines = (line : List ℕ) → In line lines → IsNote line

pub lines_notes : (asked : Asked) (input missing : ℕ) (reached : List ℕ) (lines : List (List ℕ)) → IsAskable asked → lines ≡ stuck_lines asked input missing reached → AreNotes lines
lines_notes asked input missing reached lines plain e = subst AreNotes (sym e) (notes asked plain input missing reached)
