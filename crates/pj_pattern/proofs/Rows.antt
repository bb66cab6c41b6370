-- Punctuations and rows, column by column.
use Rattle.std.proofs.Common.{ℕ, zero, suc, ◌≡◌, ◌+◌, ◌<◌, Bool, Some, drop, take, get_or, true, false, ◌&&◌, List, [], ◌∷◌, ◌++◌, length, refl, ap, sym, ◌∙◌, arith, length-append}
use Rattle.std.specs.List.{slice_get}
use Rattle.std.proofs.lemmas.Option.{get_or_from_slice_get, slice_get_within}
use Rattle.std.proofs.lemmas.List.{drop_more, length-replicate}
use Rattle.std.proofs.Math.Bool.{and-false, and_assoc}
use Rattle.std.proofs.Math.Seq.{take-append_seam}
use Rattle.std.proofs.lemmas.Bool.{and_from}
use Rattle.pj_value.specs.declared.values.Value.{Value}
use Rattle.pj_pattern.specs.Patterns.{Pattern, covers_pattern, matches_all, matches_value}
use Rattle.pj_pattern.specs.Columns.{all_wild, covers_punct, matches_row, widen_of}
use Rattle.pj_pattern.specs.declared.pattern.Form.TheVariants.{Wild, Empty, Constant, Range, Members}

pub matches_length : (patterns : List Pattern) (values : List Value) → (length patterns ≡ length values → ⊥) → matches_row patterns values ≡ false
matches_length [] [] differ = absurd (differ refl)
matches_length [] (v ∷ vs) differ = refl
matches_length (p ∷ ps) [] differ = refl
matches_length (p ∷ ps) (v ∷ vs) differ = rw (matches_length ps vs (λ e. differ (omega (arith, e)))) (and-false (matches_value p v))

pub covers_length : (patterns others : List Pattern) → (length patterns ≡ length others → ⊥) → covers_punct patterns others ≡ false
covers_length [] [] differ = absurd (differ refl)
covers_length [] (q ∷ qs) differ = refl
covers_length (p ∷ ps) [] differ = refl
covers_length (p ∷ ps) (q ∷ qs) differ = rw (covers_length ps qs (λ e. differ (omega (arith, e)))) (and-false (covers_pattern p q))

-- ---- one behind the other

pub matches-append : (ps qs : List Pattern) (vs ws : List Value) → length ps ≡ length vs → matches_row (ps ++ qs) (vs ++ ws) ≡ (matches_row ps vs && matches_row qs ws)
matches-append [] qs [] ws l = refl
matches-append [] qs (v ∷ vs) ws l = absurd (omega (arith, l))
matches-append (p ∷ ps) qs [] ws l = absurd (omega (arith, l))
matches-append (p ∷ ps) qs (v ∷ vs) ws l = ap (λ b. matches_value p v && b) (matches-append ps qs vs ws (omega (arith, l))) ∙ sym (and_assoc (matches_value p v) (matches_row ps vs) (matches_row qs ws))

-- what is appended leaves what stood there in front
pub front_of : (front zs all : List Pattern) → all ≡ front ++ zs → take (length front) all ≡ front
front_of front zs all is = ap (take (length front)) is ∙ take-append_seam front zs

-- ---- wildcards alone

pub wilds-length : (n : ℕ) → length (all_wild n) ≡ n
wilds-length n = length-replicate n Wild

pub wilds-match : (vs : List Value) (n : ℕ) → length vs ≡ n → matches_row (all_wild n) vs ≡ true
wilds-match [] zero l = refl
wilds-match [] (suc n) l = absurd (omega (arith, l))
wilds-match (v ∷ vs) zero l = absurd (omega (arith, l))
wilds-match (v ∷ vs) (suc n) l = wilds-match vs n (omega (arith, l))

all-match : (vs : List Value) → matches_all Wild vs ≡ true
all-match [] = refl
all-match (v ∷ vs) = all-match vs

wild-covers : (p : Pattern) → covers_pattern Wild p ≡ true
wild-covers Wild = refl
wild-covers Empty = refl
wild-covers (Constant c) = refl
wild-covers (Range low high) = refl
wild-covers (Members ms) = all-match ms

pub wilds-cover_punct : (n : ℕ) (ps : List Pattern) → length ps ≡ n → covers_punct (all_wild n) ps ≡ true
wilds-cover_punct zero [] l = refl
wilds-cover_punct zero (p ∷ ps) l = absurd (omega (arith, l))
wilds-cover_punct (suc n) [] l = absurd (omega (arith, l))
wilds-cover_punct (suc n) (p ∷ ps) l = and_from (covers_pattern Wild p) (covers_punct (all_wild n) ps) (wild-covers p) (wilds-cover_punct n ps (omega (arith, l)))

-- ---- wildcards in front and behind

front_matches : (front : List Value) (punct : List Pattern) (row : List Value) → matches_row (all_wild (length front) ++ punct) (front ++ row) ≡ matches_row punct row
front_matches [] punct row = refl
front_matches (v ∷ vs) punct row = front_matches vs punct row

back_matches : (punct : List Pattern) (row back : List Value) → matches_row (punct ++ all_wild (length back)) (row ++ back) ≡ matches_row punct row
back_matches [] [] back = wilds-match back (length back) refl
back_matches [] (v ∷ vs) back = matches_length (all_wild (length back)) (v ∷ vs ++ back) (λ e. omega (arith, e, wilds-length (length back), length-append (v ∷ vs) back))
back_matches (p ∷ ps) [] back = matches_length (p ∷ ps ++ all_wild (length back)) back (λ e. omega (arith, e, length-append (p ∷ ps) (all_wild (length back)), wilds-length (length back)))
back_matches (p ∷ ps) (v ∷ vs) back = ap (λ b. matches_value p v && b) (back_matches ps vs back)

pub widened : (front row back : List Value) (punct : List Pattern) → matches_row (widen_of (length front) (length back) punct) (front ++ row ++ back) ≡ matches_row punct row
widened front row back punct = back_matches (all_wild (length front) ++ punct) (front ++ row) back ∙ front_matches front punct row

-- ---- a loop over the columns

-- what is left to match begins with this column
matches_from : (patterns : List Pattern) (row : List Value) (i : ℕ) (p : Pattern) (v : Value) → i < length patterns → p ≡ get_or patterns i p → slice_get row i ≡ Some v
    → matches_row (drop i patterns) (drop i row) ≡ (matches_value p v && matches_row (drop (i + 1) patterns) (drop (i + 1) row))
matches_from patterns row i p v lt is there =
    ap (λ (ps : List Pattern). matches_row ps (drop i row)) (drop_more patterns i p lt)
    ∙ (ap (λ (vs : List Value). matches_row (get_or patterns i p ∷ drop (i + 1) patterns) vs) (drop_more row i v (slice_get_within row i v there))
    ∙ (ap (λ (q : Pattern). matches_value q (get_or row i v) && matches_row (drop (i + 1) patterns) (drop (i + 1) row)) (sym is)
    ∙ ap (λ (w : Value). matches_value p w && matches_row (drop (i + 1) patterns) (drop (i + 1) row)) (get_or_from_slice_get row i v v there)))

pub matches_on : (patterns : List Pattern) (row : List Value) (i : ℕ) (p : Pattern) (v : Value) → matches_row patterns row ≡ matches_row (drop i patterns) (drop i row) → i < length patterns → p ≡ get_or patterns i p → slice_get row i ≡ Some v → matches_value p v ≡ true
    → matches_row patterns row ≡ matches_row (drop (i + 1) patterns) (drop (i + 1) row)
matches_on patterns row i p v before lt is there matched = before ∙ (matches_from patterns row i p v lt is there ∙ ap (λ (b : Bool). b && matches_row (drop (i + 1) patterns) (drop (i + 1) row)) matched)

pub matches_not : (patterns : List Pattern) (row : List Value) (i : ℕ) (p : Pattern) (v : Value) → matches_row patterns row ≡ matches_row (drop i patterns) (drop i row) → i < length patterns → p ≡ get_or patterns i p → slice_get row i ≡ Some v → matches_value p v ≡ false
    → matches_row patterns row ≡ false
matches_not patterns row i p v before lt is there differs = before ∙ (matches_from patterns row i p v lt is there ∙ ap (λ (b : Bool). b && matches_row (drop (i + 1) patterns) (drop (i + 1) row)) differs)
