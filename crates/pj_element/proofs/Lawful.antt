-- What is accepted is lawful, and acceptance goes by positions.
use Rattle.std.proofs.Common.{◌≡◌, ℕ, suc, ◌+◌, true, false, cond, List, [], ◌∷◌, ◌++◌, Option, Some, None, is_some, refl, ap, sym, ◌∙◌, append_assoc, length, append-nil}
use Rattle.std.proofs.lemmas.Bool.{false≢true}
use Rattle.pj_value.specs.declared.values.Value.{Value}
use Rattle.pj_pattern.specs.Patterns.{Pattern}
use Rattle.pj_element.specs.declared.element.Read.{Read}
use Rattle.pj_element.specs.declared.element.Read.TheVariants.{Skip, Tuple, Punct, Bad}
use Rattle.pj_pattern.specs.declared.element.Element.{Element}
use Rattle.pj_pattern.specs.declared.element.Element.TheVariants.{Punct as AcceptedPunct}
use Rattle.pj_pattern.specs.Columns.{matches_row}
use Rattle.pj_pattern.specs.Elements.{NoneMatches, IsLawful}
use Rattle.pj_element.specs.Accepted.{closes, closing_line, Fate, Passed, Taken, Refused, tuple_fate, fate_behind, fates, with_taken, taken_of}

closed_stays : (n : ℕ) (earlier : List Read) (r : Read) (row : List Value) → is_some (closing_line n earlier row) ≡ true → is_some (closing_line n (earlier ++ r ∷ []) row) ≡ true
closed_stays n [] r row e = absurd (false≢true e)
closed_stays n (s ∷ rs) r row e =
    elim (closes s row) as (λ b. is_some (cond b (Some n) (closing_line (n + 1) rs row)) ≡ true → is_some (cond b (Some n) (closing_line (n + 1) (rs ++ r ∷ []) row)) ≡ true)
    [ true ↦ λ _. refl | false ↦ λ k. closed_stays (n + 1) rs r row k ] e

closed_now : (n : ℕ) (earlier : List Read) (punct : List Pattern) (row : List Value) → matches_row punct row ≡ true → is_some (closing_line n (earlier ++ Punct punct ∷ []) row) ≡ true
closed_now n [] punct row e = rw e refl
closed_now n (s ∷ rs) punct row e =
    elim (closes s row) as (λ b. is_some (cond b (Some n) (closing_line (n + 1) (rs ++ Punct punct ∷ []) row)) ≡ true)
    [ true ↦ refl | false ↦ closed_now (n + 1) rs punct row e ]

-- every row that the punctuation matches is closed by these lines
abbrev Closes : List Read → List Pattern → Type 0
Closes earlier punct = (row : List Value) → matches_row punct row ≡ true → is_some (closing_line 1 earlier row) ≡ true

none_tuple : (punct : List Pattern) (row : List Value) (closing : Option ℕ) (rest : List Element) → (matches_row punct row ≡ true → is_some closing ≡ true) → NoneMatches punct rest → NoneMatches punct (with_taken (tuple_fate row closing) rest)
none_tuple punct row (Some n) rest closed none = none
none_tuple punct row None rest closed none =
    (elim (matches_row punct row) as (λ b. matches_row punct row ≡ b → b ≡ false) [ true ↦ λ k. absurd (false≢true (closed k)) | false ↦ λ _. refl ] refl, none)

none_line : (punct : List Pattern) (earlier : List Read) (r : Read) (rest : List Element) → Closes earlier punct → NoneMatches punct rest → NoneMatches punct (with_taken (fate_behind earlier r) rest)
none_line punct earlier Skip rest closed none = none
none_line punct earlier (Tuple row) rest closed none = none_tuple punct row (closing_line 1 earlier row) rest (closed row) none
none_line punct earlier (Punct other) rest closed none = none
none_line punct earlier (Bad why) rest closed none = none

-- an element more goes behind those that were taken
with_taken-append : (f : Fate) (xs ys : List Element) → with_taken f xs ++ ys ≡ with_taken f (xs ++ ys)
with_taken-append Passed xs ys = refl
with_taken-append (Taken e) xs ys = refl
with_taken-append (Refused why) xs ys = refl

none_taken : (punct last : List Pattern) (earlier rs : List Read) → Closes earlier punct → NoneMatches punct (taken_of (fates earlier rs) ++ AcceptedPunct last ∷ [])
none_taken punct last earlier [] closed = tt
none_taken punct last earlier (r ∷ rs) closed =
    rw with_taken-append (none_line punct earlier r (taken_of (fates (earlier ++ r ∷ []) rs) ++ AcceptedPunct last ∷ []) closed
    (none_taken punct last (earlier ++ r ∷ []) rs (λ row e. closed_stays 1 earlier r row (closed row e))))

lawful_tuple : (row : List Value) (closing : Option ℕ) (rest : List Element) → IsLawful rest → IsLawful (with_taken (tuple_fate row closing) rest)
lawful_tuple row None rest lawful = lawful
lawful_tuple row (Some n) rest lawful = lawful

lawful_line : (earlier : List Read) (r : Read) (rest : List Element) → IsLawful rest → ((punct : List Pattern) → r ≡ Punct punct → NoneMatches punct rest) → IsLawful (with_taken (fate_behind earlier r) rest)
lawful_line earlier Skip rest lawful none = lawful
lawful_line earlier (Tuple row) rest lawful none = lawful_tuple row (closing_line 1 earlier row) rest lawful
lawful_line earlier (Punct punct) rest lawful none = (none punct refl, lawful)
lawful_line earlier (Bad why) rest lawful none = lawful

pub lawful_behind : (last : List Pattern) (earlier rs : List Read) → IsLawful (taken_of (fates earlier rs) ++ AcceptedPunct last ∷ [])
lawful_behind last earlier [] = (tt, tt)
lawful_behind last earlier (r ∷ rs) =
    rw with_taken-append (lawful_line earlier r (taken_of (fates (earlier ++ r ∷ []) rs) ++ AcceptedPunct last ∷ []) (lawful_behind last (earlier ++ r ∷ []) rs)
    (λ punct is. none_taken punct last (earlier ++ r ∷ []) rs (λ row e. rw is (closed_now 1 earlier punct row e))))

-- ---- lines one by one

pub fates-append : (earlier xs ys : List Read) → fates earlier (xs ++ ys) ≡ fates earlier xs ++ fates (earlier ++ xs) ys
fates-append earlier [] ys = rw append-nil refl
fates-append earlier (x ∷ xs) ys =
    ap (λ (fs : List Fate). fate_behind earlier x ∷ fs) (fates-append (earlier ++ x ∷ []) xs ys
    ∙ ap (λ (front : List Read). fates (earlier ++ x ∷ []) xs ++ fates front ys) (append_assoc earlier (x ∷ []) xs))

pub fates-push : (xs : List Read) (r : Read) → fates [] (xs ++ r ∷ []) ≡ fates [] xs ++ fate_behind xs r ∷ []
fates-push xs r = fates-append [] xs (r ∷ [])

pub taken_of-append : (xs ys : List Fate) → taken_of (xs ++ ys) ≡ taken_of xs ++ taken_of ys
taken_of-append [] ys = refl
taken_of-append (x ∷ xs) ys = ap (with_taken x) (taken_of-append xs ys) ∙ sym (with_taken-append x (taken_of xs) (taken_of ys))

pub length-fates : (earlier xs : List Read) → length (fates earlier xs) ≡ length xs
length-fates earlier [] = refl
length-fates earlier (x ∷ xs) = ap suc (length-fates (earlier ++ x ∷ []) xs)
