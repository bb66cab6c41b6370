-- What covers a punctuation covers its samples.
use Rattle.std.proofs.Common.{ℕ, ◌+◌, Bool, true, false, cond, ◌&&◌, ◌||◌, List, [], ◌∷◌, ◌++◌, ◌≡◌, inl, inr, refl, sym, ap₂, ◌∙◌, subst, eqb, arith, length}
use Rattle.std.proofs.lemmas.Bool.{and_parts}
use Rattle.pj_value.specs.declared.values.Value.{Value}
use Rattle.pj_pattern.specs.declared.pattern.Form.TheVariants.{Wild, Empty, Constant, Range, Members}
use Rattle.pj_pattern.proofs.Covering.{covered}
use Rattle.pj_events.specs.Patterns.{Pattern, covers, covers_pattern, covers_punct, is_wild, matches_value}
use Rattle.pj_events.specs.Operators.{Sent}
use Rattle.pj_shape.specs.Instances.{instance_of}
use Rattle.pj_puncts.specs.Givens.{marked}
use Rattle.pj_puncts.specs.Stores.{covered_by_any}
use Rattle.pj_flow.specs.Insides.{has_covering}
use Rattle.pj_flow.specs.Stored.{IsSample, TakesCell, of_input}

-- ---- one cell more

wild_more : (ps : List Pattern) (marks : List Bool) (vs : List Value) (p : Pattern) → IsSample ps marks vs → is_wild p ≡ true → IsSample (ps ++ p ∷ []) (marks ++ false ∷ []) vs
wild_more [] [] [] p s w = (w, tt)
wild_more [] [] (v ∷ vs) p s w = absurd s
wild_more [] (m ∷ marks) vs p s w = absurd s
wild_more (q ∷ ps) [] vs p s w = absurd s
wild_more (q ∷ ps) (false ∷ marks) vs p s w = (s.0, wild_more ps marks vs p s.1 w)
wild_more (q ∷ ps) (true ∷ marks) [] p s w = absurd s
wild_more (q ∷ ps) (true ∷ marks) (v ∷ vs) p s w = (s.0, wild_more ps marks vs p s.1 w)

value_more : (ps : List Pattern) (marks : List Bool) (vs : List Value) (p : Pattern) (v : Value) → IsSample ps marks vs → matches_value p v ≡ true → IsSample (ps ++ p ∷ []) (marks ++ true ∷ []) (vs ++ v ∷ [])
value_more [] [] [] p v s m = (m, tt)
value_more [] [] (w ∷ vs) p v s m = absurd s
value_more [] (mark ∷ marks) vs p v s m = absurd s
value_more (q ∷ ps) [] vs p v s m = absurd s
value_more (q ∷ ps) (false ∷ marks) vs p v s m = (s.0, value_more ps marks vs p v s.1 m)
value_more (q ∷ ps) (true ∷ marks) [] p v s m = absurd s
value_more (q ∷ ps) (true ∷ marks) (w ∷ vs) p v s m = (s.0, value_more ps marks vs p v s.1 m)

pub sample_more : (ps : List Pattern) (marks : List Bool) (vs : List Value) (p : Pattern) (marked_now : List Bool) (taken : List Value) → IsSample ps marks vs → TakesCell p marks vs marked_now taken → IsSample (ps ++ p ∷ []) marked_now taken
sample_more ps marks vs p marked_now taken s (inl h) = subst (λ (ms : List Bool). IsSample (ps ++ p ∷ []) ms taken) (sym h.1) (subst (λ (xs : List Value). IsSample (ps ++ p ∷ []) (marks ++ false ∷ []) xs) (sym h.2) (wild_more ps marks vs p s h.0))
sample_more ps marks vs p marked_now taken s (inr h) = subst (λ (ms : List Bool). IsSample (ps ++ p ∷ []) ms taken) (sym h.2) (subst (λ (xs : List Value). IsSample (ps ++ p ∷ []) (marks ++ true ∷ []) xs) (sym h.3) (value_more ps marks vs p h.0 s h.1))

pub sample_wide : (ps : List Pattern) (marks : List Bool) (vs : List Value) → IsSample ps marks vs → length marks ≡ length ps
sample_wide [] [] [] s = refl
sample_wide [] [] (v ∷ vs) s = absurd s
sample_wide [] (m ∷ marks) vs s = absurd s
sample_wide (q ∷ ps) [] vs s = absurd s
sample_wide (q ∷ ps) (false ∷ marks) vs s = omega (arith, sample_wide ps marks vs s.1)
sample_wide (q ∷ ps) (true ∷ marks) [] s = absurd s
sample_wide (q ∷ ps) (true ∷ marks) (v ∷ vs) s = omega (arith, sample_wide ps marks vs s.1)

pub sample_count : (ps : List Pattern) (marks : List Bool) (vs : List Value) → IsSample ps marks vs → length vs ≡ marked marks
sample_count [] [] [] s = refl
sample_count [] [] (v ∷ vs) s = absurd s
sample_count [] (m ∷ marks) vs s = absurd s
sample_count (q ∷ ps) [] vs s = absurd s
sample_count (q ∷ ps) (false ∷ marks) vs s = omega (arith, sample_count ps marks vs s.1)
sample_count (q ∷ ps) (true ∷ marks) [] s = absurd s
sample_count (q ∷ ps) (true ∷ marks) (v ∷ vs) s = omega (arith, sample_count ps marks vs s.1)

-- ---- what covers it

wild_covered : (q p : Pattern) → is_wild p ≡ true → covers_pattern q p ≡ true → is_wild q ≡ true
wild_covered q Wild w c = c
wild_covered q Empty w c = cc
wild_covered q (Constant v) w c = cc
wild_covered q (Range low high) w c = cc
wild_covered q (Members vs) w c = cc

covers_sample : (qs ps : List Pattern) (marks : List Bool) (vs : List Value) → IsSample ps marks vs → covers_punct qs ps ≡ true → covers qs (instance_of marks vs) ≡ true
covers_sample [] [] [] [] s c = refl
covers_sample (q ∷ qs) [] marks vs s c = cc
covers_sample [] (p ∷ ps) marks vs s c = cc
covers_sample qs [] [] (v ∷ vs) s c = absurd s
covers_sample qs [] (m ∷ marks) vs s c = absurd s
covers_sample qs (p ∷ ps) [] vs s c = absurd s
covers_sample (q ∷ qs) (p ∷ ps) (false ∷ marks) vs s c =
    let parts = and_parts (covers_pattern q p) (covers_punct qs ps) c in
    ap₂ (λ (a b : Bool). a && b) (wild_covered q p s.0 parts.0) (covers_sample qs ps marks vs s.1 parts.1)
covers_sample qs (p ∷ ps) (true ∷ marks) [] s c = absurd s
covers_sample (q ∷ qs) (p ∷ ps) (true ∷ marks) (v ∷ vs) s c =
    let parts = and_parts (covers_pattern q p) (covers_punct qs ps) c in
    ap₂ (λ (a b : Bool). a && b) (covered q p v parts.0 s.0) (covers_sample qs ps marks vs s.1 parts.1)

covers_not : (qs ps : List Pattern) (marks : List Bool) (vs : List Value) → IsSample ps marks vs → covers qs (instance_of marks vs) ≡ false → covers_punct qs ps ≡ false
covers_not qs ps marks vs s none = go (covers_punct qs ps) refl
  where
    go : (b : Bool) → covers_punct qs ps ≡ b → b ≡ false
    go false e = refl
    go true e = absurd (let no : true ≡ false = sym (covers_sample qs ps marks vs s e) ∙ none in cc no)

-- where the store has none that covers the sample, the input has sent none that covers the punctuation
pub ruled_out : (k at : ℕ) (came : List Sent) (p : Sent) (marks : List Bool) (vs : List Value) → IsSample p.patterns marks vs → covered_by_any (of_input k at came) (instance_of marks vs) ≡ false → has_covering came p k ≡ false
ruled_out k at [] p marks vs s none = refl
ruled_out k at (q ∷ came) p marks vs s none = go (eqb q.input k) none (λ e. ruled_out k (at + 1) came p marks vs s e)
  where
    none_first : (a b : Bool) → (a || b) ≡ false → (a ≡ false) × (b ≡ false)
    none_first false b e = (refl, e)
    none_first true b e = cc

    go : (b : Bool) → covered_by_any (cond b (record { punct = q.patterns; number = at } ∷ of_input k (at + 1) came) (of_input k (at + 1) came)) (instance_of marks vs) ≡ false
        → (covered_by_any (of_input k (at + 1) came) (instance_of marks vs) ≡ false → has_covering came p k ≡ false) → ((b && covers_punct q.patterns p.patterns) || has_covering came p k) ≡ false
    go false e rest = rest e
    go true e rest =
        let parts = none_first (covers q.patterns (instance_of marks vs)) (covered_by_any (of_input k (at + 1) came) (instance_of marks vs)) e in
        ap₂ (λ (a b : Bool). a || b) (covers_not q.patterns p.patterns marks vs s parts.0) (rest parts.1)
