-- Whether every other input has sent a punctuation that covers one.
use Rattle.std.proofs.Common.{ℕ, zero, suc, ◌+◌, ◌-◌, ◌<◌, ◌≤◌, Bool, true, false, ◌&&◌, ◌||◌, not, List, [], ◌∷◌, ◌++◌, ◌≡◌, refl, sym, ap, ap₂, ◌∙◌, subst, eqb, arith}
use Rattle.std.proofs.lemmas.Bool.{eqb-true}
use Rattle.std.proofs.lemmas.List.Folds.{list_any-append}
use Rattle.pj_events.specs.Patterns.{covers_punct}
use Rattle.pj_events.specs.Operators.{Sent, all_sent_from}
use Rattle.pj_flow.specs.Unions.{bears_on}
use Rattle.pj_flow.specs.Insides.{SentFrom, has_covering}

pub sent_start : (n : ℕ) (came : List Sent) (p : Sent) → SentFrom n came p 0
sent_start n came p left e = ap (λ (m : ℕ). all_sent_from 0 m came p) (omega (arith, e))

pub sent_more : (n : ℕ) (came : List Sent) (p : Sent) (k : ℕ) → SentFrom n came p k → (eqb k p.input || has_covering came p k) ≡ true → SentFrom n came p (k + 1)
sent_more n came p k from lets left e = from (suc left) (omega (arith, e)) ∙ ap (λ (b : Bool). b && all_sent_from (k + 1) left came p) lets

pub sent_not : (n : ℕ) (came : List Sent) (p : Sent) (k : ℕ) → SentFrom n came p k → k < n → (eqb k p.input || has_covering came p k) ≡ false → false ≡ all_sent_from 0 n came p
sent_not n came p k from lt lets = sym (from (suc (n - k - 1)) (omega (arith, lt)) ∙ ap (λ (b : Bool). b && all_sent_from (k + 1) (n - k - 1) came p) lets)

pub sent_end : (n : ℕ) (came : List Sent) (p : Sent) (k : ℕ) → SentFrom n came p k → n ≤ k → k ≤ n → true ≡ all_sent_from 0 n came p
sent_end n came p k from a b = sym (from 0 (omega (arith, a, b)))

tests : (own same has covers : Bool) → (same ≡ true → (not own && covers) ≡ false) → (own || (has || ((same && covers) || false))) ≡ (own || has)
tests true same has covers f = refl
tests false false true covers f = refl
tests false false false covers f = refl
tests false true true covers f = refl
tests false true false true f = f refl
tests false true false false f = refl

-- a punctuation that does not bear on another changes nothing for it
pub unaffected : (k n : ℕ) (came : List Sent) (q p : Sent) → bears_on q p ≡ false → all_sent_from k n (came ++ q ∷ []) p ≡ all_sent_from k n came p
unaffected k zero came q p away = refl
unaffected k (suc n) came q p away = ap₂ (λ (a b : Bool). a && b) here (unaffected (k + 1) n came q p away)
  where
    here : (eqb k p.input || has_covering (came ++ q ∷ []) p k) ≡ (eqb k p.input || has_covering came p k)
    here =
        ap (λ (b : Bool). eqb k p.input || b) (list_any-append (λ (s : Sent). eqb s.input k && covers_punct s.patterns p.patterns) came (q ∷ []))
        ∙ tests (eqb k p.input) (eqb q.input k) (has_covering came p k) (covers_punct q.patterns p.patterns)
        (λ e. subst (λ (i : ℕ). (not (eqb i p.input) && covers_punct q.patterns p.patterns) ≡ false) (eqb-true q.input k e) away)
