-- The last turn of a run on one thread closes a stream.
use Rattle.std.proofs.Common.{ℕ, zero, suc, ◌+◌, ◌<◌, ◌≤◌, true, List, [], ◌∷◌, ◌++◌, ◌≡◌, length, refl, sym, ap, ◌∙◌, subst, arith, append_assoc, append-nil}
use Rattle.pj_shape.specs.declared.columns.Column.{Column}
use Rattle.pj_events.specs.Join.{Element}
use Rattle.pj_events.specs.Plan.{Node, operator_at}
use Rattle.pj_events.specs.OneThread.{Turn, is_punct, turns_of, heads, tails, rounds, longest, in_rounds, schema_of, all_turns}
use Rattle.pj_laws.proofs.OneThreadAnswer.{shorter}

-- turns whose last is that of a punctuation
pub record LastTurn (turns : List Turn) : Type 0 where
  pub front : List Turn
  pub turn : Turn
  pub same : turns ≡ front ++ turn ∷ []
  pub closes : is_punct turn.element ≡ true

abbrev AreEnded : List Turn → Type 0
AreEnded [] = Unit {0}
AreEnded (t ∷ []) = is_punct t.element ≡ true
AreEnded (t ∷ u ∷ ts) = AreEnded (u ∷ ts)

abbrev AllEnded : List (List Turn) → Type 0
AllEnded [] = Unit {0}
AllEnded (ts ∷ lists) = AreEnded ts × AllEnded lists

ended-turns : (s : ℕ) (schema : List Column) (es : List Element) → AreEnded (turns_of s schema es)
ended-turns s schema [] = refl
ended-turns s schema (e ∷ []) = refl
ended-turns s schema (e ∷ f ∷ es) = ended-turns s schema (f ∷ es)

ended-all : (plan : List Node) (s : ℕ) (places : List ℕ) (lists : List (List Element)) → AllEnded (all_turns plan s places lists)
ended-all plan s [] lists = tt
ended-all plan s (place ∷ places) [] = (ended-turns s (schema_of (operator_at plan place)) [], ended-all plan (s + 1) places [])
ended-all plan s (place ∷ places) (es ∷ lists) = (ended-turns s (schema_of (operator_at plan place)) es, ended-all plan (s + 1) places lists)

ended-tails : (lists : List (List Turn)) → AllEnded lists → AllEnded (tails lists)
ended-tails [] a = tt
ended-tails ([] ∷ lists) a = (tt, ended-tails lists a.1)
ended-tails ((t ∷ []) ∷ lists) a = (tt, ended-tails lists a.1)
ended-tails ((t ∷ u ∷ ts) ∷ lists) a = (a.0, ended-tails lists a.1)

abbrev AllPuncts : List Turn → Type 0
AllPuncts [] = Unit {0}
AllPuncts (t ∷ ts) = (is_punct t.element ≡ true) × AllPuncts ts

heads-puncts : (lists : List (List Turn)) → AllEnded lists → longest lists ≤ 1 → AllPuncts (heads lists)
heads-puncts [] a le = tt
heads-puncts ([] ∷ lists) a le = heads-puncts lists a.1 (omega (arith, le))
heads-puncts ((t ∷ []) ∷ lists) a le = (a.0, heads-puncts lists a.1 (omega (arith, le)))
heads-puncts ((t ∷ u ∷ ts) ∷ lists) a le = absurd (omega (arith, le))

heads-some : (lists : List (List Turn)) → 0 < longest lists → 0 < length (heads lists)
heads-some [] lt = absurd (omega (arith, lt))
heads-some ([] ∷ lists) lt = heads-some lists (omega (arith, lt))
heads-some ((t ∷ ts) ∷ lists) lt = omega arith

last-of : (ts : List Turn) → AllPuncts ts → 0 < length ts → LastTurn ts
last-of [] a lt = absurd (omega (arith, lt))
last-of (t ∷ []) a lt = record { front = []; turn = t; same = refl; closes = a.0 }
last-of (t ∷ u ∷ ts) a lt =
    let r = last-of (u ∷ ts) a.1 (omega arith) in
    record { front = t ∷ r.front; turn = r.turn; same = ap (λ (xs : List Turn). t ∷ xs) r.same; closes = r.closes }

last-round : (n : ℕ) (lists : List (List Turn)) → AllEnded lists → longest lists ≡ suc n → LastTurn (rounds (suc n) lists)
last-round zero lists a e =
    subst LastTurn (sym (append-nil (heads lists))) (last-of (heads lists) (heads-puncts lists a (omega (arith, e))) (heads-some lists (omega (arith, e))))
last-round (suc n) lists a e =
    let r = last-round n (tails lists) (ended-tails lists a) (let q = shorter lists in omega (arith, q, e)) in
    record {
      front = heads lists ++ r.front;
      turn = r.turn;
      same = ap (λ (xs : List Turn). heads lists ++ xs) r.same ∙ sym (append_assoc (heads lists) r.front (r.turn ∷ []));
      closes = r.closes;
    }

last-in-rounds : (lists : List (List Turn)) → AllEnded lists → 0 < longest lists → LastTurn (in_rounds lists)
last-in-rounds lists a lt = go (longest lists) refl lt
  where
    go : (n : ℕ) → longest lists ≡ n → 0 < n → LastTurn (rounds n lists)
    go zero e l = absurd (omega (arith, l))
    go (suc n) e l = last-round n lists a e

some-turn : (s : ℕ) (schema : List Column) (es : List Element) → 0 < length (turns_of s schema es)
some-turn s schema [] = omega arith
some-turn s schema (e ∷ es) = omega arith

pub last-turn : (plan : List Node) (s : ℕ) (places : List ℕ) (lists : List (List Element)) → 0 < length places → LastTurn (in_rounds (all_turns plan s places lists))
last-turn plan s [] lists lt = absurd (omega (arith, lt))
last-turn plan s (place ∷ places) [] lt =
    last-in-rounds (all_turns plan s (place ∷ places) []) (ended-all plan s (place ∷ places) []) (let q = some-turn s (schema_of (operator_at plan place)) [] in omega (arith, q))
last-turn plan s (place ∷ places) (es ∷ lists) lt =
    last-in-rounds (all_turns plan s (place ∷ places) (es ∷ lists)) (ended-all plan s (place ∷ places) (es ∷ lists)) (let q = some-turn s (schema_of (operator_at plan place)) es in omega (arith, q))
