-- What is left of a stream that is read as the run goes on.
use Rattle.std.proofs.Common.{◌≡◌, ◌⊎◌, ℕ, ◌+◌, true, List, [], ◌∷◌, ◌++◌, length, take, drop, refl, ap, ap₂, sym, ◌∙◌, append_assoc, append-nil, arith, inl, inr, IsTrue}
use Rattle.std.proofs.lemmas.Bool.Decides.{eqb_tells}
use Rattle.std.proofs.Math.Seq.{drop-append_seam, take-append_seam}
use Rattle.pj_pattern.specs.declared.element.Element.{Element}
use Rattle.pj_pattern.specs.declared.element.Element.TheVariants.{Tuple, Punct}
use Rattle.pj_pattern.specs.Elements.{rows_of, puncts_of}
use Rattle.pj_line.specs.Fed.{AreFed}
use Rattle.pj_line.specs.Lines.{HasNo}
use Rattle.pj_element.specs.declared.tally.Tally.{Tally}
use Rattle.pj_element.specs.Accepted.{taken_of, fates_of, tally_of}
use Rattle.pj_element.proofs.GoOn.{taken_go_on}
use Rattle.pj_intake.specs.Taking.{IntakeState, HasJudged}
use Rattle.pj_feed.specs.Feeds.{FeedState, bytes_of, all_accepted, count_of, IsFed, fed_part, onto_fed}

-- ---- lists

-- the next of those that are left
pub next_left : (xs front zs : List Element) (e : Element) (n m : ℕ) → xs ≡ (front ++ e ∷ []) ++ zs → n ≡ length front → m ≡ length (front ++ e ∷ []) → drop n xs ≡ e ∷ drop m xs
next_left xs front zs e n m is first second =
    let all : xs ≡ front ++ (e ∷ zs) = is ∙ append_assoc front (e ∷ []) zs in
    ap₂ (λ (k : ℕ) (ys : List Element). drop k ys) first all
    ∙ (drop-append_seam front (e ∷ zs)
    ∙ ap (λ (ys : List Element). e ∷ ys) (sym (ap₂ (λ (k : ℕ) (ys : List Element). drop k ys) second is ∙ drop-append_seam (front ++ e ∷ []) zs)))

none_left_of : (xs front : List Element) (n : ℕ) → xs ≡ front → n ≡ length front → drop n xs ≡ []
none_left_of xs front n is first = ap₂ (λ (k : ℕ) (ys : List Element). drop k ys) first (is ∙ sym (append-nil front)) ∙ drop-append_seam front []

pub those_so_far : (xs front zs : List Element) (n : ℕ) → xs ≡ front ++ zs → n ≡ length front → take n xs ≡ front
those_so_far xs front zs n is first = ap₂ (λ (k : ℕ) (ys : List Element). take k ys) first is ∙ take-append_seam front zs

-- ---- counts

both_counts : (es : List Element) → length (rows_of es) + length (puncts_of es) ≡ length es
both_counts [] = refl
both_counts (Tuple row ∷ es) = let r = both_counts es in omega (arith, r)
both_counts (Punct punct ∷ es) = let r = both_counts es in omega (arith, r)

-- as many elements were accepted as the tally counts
pub counted : (intake : IntakeState) (judged : List ℕ) → HasJudged intake judged → intake.seen.tally.tuples + intake.seen.tally.puncts ≡ length (taken_of (fates_of intake.columns judged))
counted intake judged seen = ap (λ (t : Tally). t.tuples + t.puncts) seen.counts ∙ both_counts (taken_of (fates_of intake.columns judged))

-- ---- a feed that tells its bytes

-- what is accepted of the lines that were judged comes first among all that is accepted
pub begins_with : (feed : FeedState) (fed : IsFed feed) → IsTrue feed.source.told → (others : List Element) × (all_accepted feed ≡ taken_of (fates_of feed.intake.columns fed.judged) ++ others)
begins_with feed fed told = go fed.follows.whole
  where
    bytes : bytes_of feed ≡ fed.judged ++ (feed.intake.buffer.held ++ feed.source.left)
    bytes = ap (λ (xs : List ℕ). xs ++ feed.source.left) (fed.bytes told) ∙ append_assoc fed.judged feed.intake.buffer.held feed.source.left

    go : AreFed fed.judged ⊎ ((feed.intake.buffer.ended ≡ true) × (feed.intake.buffer.held ≡ []))
        → (others : List Element) × (all_accepted feed ≡ taken_of (fates_of feed.intake.columns fed.judged) ++ others)
    go (inl whole) =
        let r = taken_go_on feed.intake.columns fed.judged (feed.intake.buffer.held ++ feed.source.left) whole in
        (r.0, ap (λ (xs : List ℕ). taken_of (fates_of feed.intake.columns xs)) bytes ∙ r.1)
    go (inr end) =
        let none : feed.intake.buffer.held ++ feed.source.left ≡ [] = ap₂ (λ (xs ys : List ℕ). xs ++ ys) end.1 (fed.at_end end.0 told) in
        let all : bytes_of feed ≡ fed.judged = bytes ∙ (ap (λ (xs : List ℕ). fed.judged ++ xs) none ∙ append-nil fed.judged) in
        ([], ap (λ (xs : List ℕ). taken_of (fates_of feed.intake.columns xs)) all ∙ sym (append-nil (taken_of (fates_of feed.intake.columns fed.judged))))

-- the end was read and nothing is held
abbrev pub IsAtEnd : FeedState → Type 0
IsAtEnd feed = (feed.intake.buffer.ended ≡ true) × (feed.intake.buffer.held ≡ [])

-- then all was judged
all_judged : (feed : FeedState) (fed : IsFed feed) → IsAtEnd feed → IsTrue feed.source.told → bytes_of feed ≡ fed.judged
all_judged feed fed end told =
    ap₂ (λ (xs ys : List ℕ). xs ++ ys) (fed.bytes told ∙ ap (λ (xs : List ℕ). fed.judged ++ xs) end.1) (fed.at_end end.0 told)
    ∙ (append-nil (fed.judged ++ []) ∙ append-nil fed.judged)

-- and nothing is left, and the tally is that of the file
pub nothing_left_of : (feed : FeedState) (fed : IsFed feed) → IsAtEnd feed → IsTrue feed.source.told → drop (count_of feed) (all_accepted feed) ≡ []
nothing_left_of feed fed end told =
    none_left_of (all_accepted feed) (taken_of (fates_of feed.intake.columns fed.judged)) (count_of feed)
    (ap (λ (xs : List ℕ). taken_of (fates_of feed.intake.columns xs)) (all_judged feed fed end told)) (counted feed.intake fed.judged fed.follows.has_judged)

pub whole_tally : (feed : FeedState) (fed : IsFed feed) → IsAtEnd feed → IsTrue feed.source.told → feed.intake.seen.tally ≡ tally_of (fates_of feed.intake.columns (bytes_of feed))
whole_tally feed fed end told =
    fed.follows.has_judged.counts ∙ ap (λ (xs : List ℕ). tally_of (fates_of feed.intake.columns xs)) (sym (all_judged feed fed end told))

-- ---- the bytes up to the last line feed

none_fed : (rest : List ℕ) → HasNo 10 rest → fed_part rest ≡ []
none_fed [] free = refl
none_fed (b ∷ bs) free = rw (none_fed bs free.1) (elim (eqb_tells b 10) [ inl same ↦ absurd (free.0 same.1) | inr other ↦ rw other.0 refl ])

fed_front : (front rest : List ℕ) → HasNo 10 rest → fed_part (front ++ 10 ∷ rest) ≡ front ++ 10 ∷ []
fed_front [] rest free = rw (none_fed rest free) refl
fed_front (b ∷ front) rest free = ap (onto_fed b) (fed_front front rest free) ∙ onto front
  where
    onto : (xs : List ℕ) → onto_fed b (xs ++ 10 ∷ []) ≡ b ∷ (xs ++ 10 ∷ [])
    onto [] = refl
    onto (x ∷ xs) = refl

pub fed_is : (judged rest : List ℕ) → AreFed judged → HasNo 10 rest → fed_part (judged ++ rest) ≡ judged
fed_is judged rest (inl none) free = ap (λ (xs : List ℕ). fed_part (xs ++ rest)) none ∙ (none_fed rest free ∙ sym none)
fed_is judged rest (inr fed) free =
    ap (λ (xs : List ℕ). fed_part (xs ++ rest)) fed.1
    ∙ (ap fed_part (append_assoc fed.0 (10 ∷ []) rest) ∙ (fed_front fed.0 rest free ∙ sym fed.1))
