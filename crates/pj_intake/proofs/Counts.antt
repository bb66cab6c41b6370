-- What is kept of the lines read so far is what acceptance by positions asks for.
use Rattle.std.proofs.Common.{◌≡◌, ◌<◌, ◌≤◌, ◌^◌, ◌-◌, ℕ, suc, ◌+◌, true, false, cond, List, [], ◌∷◌, ◌++◌, Option, Some, length, take, nat_lt, refl, ap, sym, ◌∙◌, arith, append-nil, le-ltb, lt-ltb, inl, inr}
use Rattle.std.proofs.lemmas.List.{length-append, length-take-le, take-append-le, take_all}
use Rattle.std.proofs.lemmas.Bool.Decides.{leb_tells}
use Rattle.pj_value.specs.declared.values.Value.{Value}
use Rattle.pj_element.specs.declared.element.Read.{Read}
use Rattle.pj_element.specs.declared.element.Read.TheVariants.{Skip, Tuple, Punct, Bad}
use Rattle.pj_element.specs.declared.element.Reject.{Reject}
use Rattle.pj_pattern.specs.declared.element.Element.{Element}
use Rattle.pj_pattern.specs.declared.element.Element.TheVariants.{Tuple as AcceptedTuple, Punct as AcceptedPunct}
use Rattle.pj_element.specs.declared.tally.Tally.{Tally}
use Rattle.pj_pattern.specs.Columns.{matches_row}
use Rattle.pj_pattern.specs.Elements.{rows_of, puncts_of}
use Rattle.pj_element.specs.Accepted.{closing_line, Fate, Passed, Taken, Refused, tuple_fate, fate_behind, fates, with_taken, taken_of, rejects_of, tally_of}
use Rattle.pj_element.proofs.Lawful.{fates-push, taken_of-append, length-fates}
use Rattle.pj_element.proofs.Rejects.{rejects_of-append, taken-bound, rejects-bound}
use Rattle.pj_pattern.proofs.Elements.{rows_of-append, puncts_of-append}
use Rattle.pj_puncts.specs.declared.store.NumberedPunct.{NumberedPunct}
use Rattle.pj_puncts.specs.Stores.{IsAbove, first_match_of}
use Rattle.pj_intake.specs.SeenLines.{with_kept, kept_of, IsSeen, HasRoom, with_fate, fate_by}

pub first_match-kept_of : (n : ℕ) (rs : List Read) (row : List Value) → first_match_of (kept_of n rs) row ≡ closing_line n rs row
first_match-kept_of n [] row = refl
first_match-kept_of n (Skip ∷ rs) row = first_match-kept_of (n + 1) rs row
first_match-kept_of n (Tuple other ∷ rs) row = first_match-kept_of (n + 1) rs row
first_match-kept_of n (Punct punct ∷ rs) row = ap (λ (o : Option ℕ). cond (matches_row punct row) (Some n) o) (first_match-kept_of (n + 1) rs row)
first_match-kept_of n (Bad why ∷ rs) row = first_match-kept_of (n + 1) rs row

with_kept-append : (n : ℕ) (r : Read) (xs ys : List NumberedPunct) → with_kept n r xs ++ ys ≡ with_kept n r (xs ++ ys)
with_kept-append n Skip xs ys = refl
with_kept-append n (Tuple row) xs ys = refl
with_kept-append n (Punct punct) xs ys = refl
with_kept-append n (Bad why) xs ys = refl

kept_of-push : (n : ℕ) (rs : List Read) (r : Read) → kept_of n (rs ++ r ∷ []) ≡ kept_of n rs ++ with_kept (n + length rs) r []
kept_of-push n [] r = let e : n ≡ n + 0 = omega arith in ap (λ m. with_kept m r []) e
kept_of-push n (x ∷ rs) r =
    let e : (n + 1) + length rs ≡ n + suc (length rs) = omega arith in
    ap (with_kept n x) (kept_of-push (n + 1) rs r ∙ ap (λ m. kept_of (n + 1) rs ++ with_kept m r []) e)
    ∙ sym (with_kept-append n x (kept_of (n + 1) rs) (with_kept (n + suc (length rs)) r []))

pub fate_by-kept_of : (earlier : List Read) (r : Read) → fate_by (kept_of 1 earlier) r ≡ fate_behind earlier r
fate_by-kept_of earlier Skip = refl
fate_by-kept_of earlier (Tuple row) = ap (tuple_fate row) (first_match-kept_of 1 earlier row)
fate_by-kept_of earlier (Punct punct) = refl
fate_by-kept_of earlier (Bad why) = refl

-- ---- counts

listed_full : (n : ℕ) (xs ys : List (ℕ × Reject)) → length (take n xs) ≡ n → cond (nat_lt (length (take n xs)) n) ys (take n xs) ≡ take n xs
listed_full n xs ys e = let no : nat_lt (length (take n xs)) n ≡ false = le-ltb _ _ (omega arith) in rw no refl

listed_part : (n : ℕ) (xs ys zs : List (ℕ × Reject)) → length (take n xs) < n → cond (nat_lt (length (take n xs)) n) ys zs ≡ ys
listed_part n xs ys zs lt = let yes : nat_lt (length (take n xs)) n ≡ true = lt-ltb _ _ lt in rw yes refl

listed_more : (n : ℕ) (xs : List (ℕ × Reject)) (x : ℕ × Reject) → take n (xs ++ x ∷ []) ≡ cond (nat_lt (length (take n xs)) n) (take n xs ++ x ∷ []) (take n xs)
listed_more n xs x =
    elim (leb_tells n (length xs)) [
      | inl le ↦ take-append-le n xs (x ∷ []) le.1 ∙ sym (listed_full n xs (take n xs ++ x ∷ []) (length-take-le n xs le.1))
      | inr gt ↦
          let whole : take n xs ≡ xs = take_all n xs (omega (arith, gt.1)) in
          take_all n (xs ++ x ∷ []) (omega (arith, gt.1, length-append xs (x ∷ [])))
          ∙ (ap (λ (ys : List (ℕ × Reject)). ys ++ x ∷ []) (sym whole)
          ∙ sym (listed_part n xs (take n xs ++ x ∷ []) (take n xs) (omega (arith, gt.1, ap length whole))))
    ]

abbrev the_tally : ℕ → ℕ → ℕ → List (ℕ × Reject) → Tally
the_tally t p r xs = record { tuples = t; puncts = p; rejected = r; listed = xs }

same_tally : (t u p q r s : ℕ) (xs ys : List (ℕ × Reject)) → t ≡ u → p ≡ q → r ≡ s → xs ≡ ys → the_tally t p r xs ≡ the_tally u q s ys
same_tally t u p q r s xs ys a b c d = cc

-- an element more
taken_more : (fs : List Fate) (f : Fate) → taken_of (fs ++ f ∷ []) ≡ taken_of fs ++ with_taken f []
taken_more fs f = taken_of-append fs (f ∷ [])

tally_of-push : (fs : List Fate) (f : Fate) → tally_of (fs ++ f ∷ []) ≡ with_fate (1 + length fs) f (tally_of fs)
tally_of-push fs Passed =
    let taken : taken_of (fs ++ Passed ∷ []) ≡ taken_of fs = taken_more fs Passed ∙ append-nil (taken_of fs) in
    let rejects : rejects_of 1 (fs ++ Passed ∷ []) ≡ rejects_of 1 fs = rejects_of-append 1 fs (Passed ∷ []) ∙ append-nil (rejects_of 1 fs) in
    same_tally _ _ _ _ _ _ _ _ (ap (λ (es : List Element). length (rows_of es)) taken) (ap (λ (es : List Element). length (puncts_of es)) taken) (ap length rejects) (ap (take 1000) rejects)
tally_of-push fs (Taken (AcceptedTuple row)) =
    let e : Fate = Taken (AcceptedTuple row) in
    let taken : taken_of (fs ++ e ∷ []) ≡ taken_of fs ++ AcceptedTuple row ∷ [] = taken_more fs e in
    let rejects : rejects_of 1 (fs ++ e ∷ []) ≡ rejects_of 1 fs = rejects_of-append 1 fs (e ∷ []) ∙ append-nil (rejects_of 1 fs) in
    same_tally _ _ _ _ _ _ _ _
    (ap (λ (es : List Element). length (rows_of es)) taken ∙ (ap length (rows_of-append (taken_of fs) (AcceptedTuple row ∷ [])) ∙ length-append (rows_of (taken_of fs)) (row ∷ [])))
    (ap (λ (es : List Element). length (puncts_of es)) taken ∙ ap length (puncts_of-append (taken_of fs) (AcceptedTuple row ∷ []) ∙ append-nil (puncts_of (taken_of fs))))
    (ap length rejects) (ap (take 1000) rejects)
tally_of-push fs (Taken (AcceptedPunct punct)) =
    let e : Fate = Taken (AcceptedPunct punct) in
    let taken : taken_of (fs ++ e ∷ []) ≡ taken_of fs ++ AcceptedPunct punct ∷ [] = taken_more fs e in
    let rejects : rejects_of 1 (fs ++ e ∷ []) ≡ rejects_of 1 fs = rejects_of-append 1 fs (e ∷ []) ∙ append-nil (rejects_of 1 fs) in
    same_tally _ _ _ _ _ _ _ _
    (ap (λ (es : List Element). length (rows_of es)) taken ∙ ap length (rows_of-append (taken_of fs) (AcceptedPunct punct ∷ []) ∙ append-nil (rows_of (taken_of fs))))
    (ap (λ (es : List Element). length (puncts_of es)) taken ∙ (ap length (puncts_of-append (taken_of fs) (AcceptedPunct punct ∷ [])) ∙ length-append (puncts_of (taken_of fs)) (punct ∷ [])))
    (ap length rejects) (ap (take 1000) rejects)
tally_of-push fs (Refused why) =
    let e : Fate = Refused why in
    let taken : taken_of (fs ++ e ∷ []) ≡ taken_of fs = taken_more fs e ∙ append-nil (taken_of fs) in
    let rejects : rejects_of 1 (fs ++ e ∷ []) ≡ rejects_of 1 fs ++ (1 + length fs, why) ∷ [] = rejects_of-append 1 fs (e ∷ []) in
    same_tally _ _ _ _ _ _ _ _ (ap (λ (es : List Element). length (rows_of es)) taken) (ap (λ (es : List Element). length (puncts_of es)) taken)
    (ap length rejects ∙ length-append (rejects_of 1 fs) ((1 + length fs, why) ∷ []))
    (ap (take 1000) rejects ∙ listed_more 1000 (rejects_of 1 fs) (1 + length fs, why))

-- ---- bounds

pub seen_room : (earlier : List Read) (line : ℕ) (kept : List NumberedPunct) (tally : Tally) → IsSeen earlier line kept tally → line < 2 ^ 64 - 1 → HasRoom line tally
seen_room earlier line kept tally seen lt =
    let fs : List Fate = fates [] earlier in
    let all : length fs ≡ length earlier = length-fates [] earlier in
    let taken : length (rows_of (taken_of fs)) + length (puncts_of (taken_of fs)) ≤ length fs = taken-bound fs in
    let rejects : length (rejects_of 1 fs) ≤ length fs = rejects-bound 1 fs in
    record {
      lines = lt;
      tuples = omega (arith, seen.lines, ap (λ (t : Tally). t.tuples) seen.counts);
      puncts = omega (arith, seen.lines, ap (λ (t : Tally). t.puncts) seen.counts);
      rejected = omega (arith, seen.lines, ap (λ (t : Tally). t.rejected) seen.counts);
    }

pub seen_more : (earlier : List Read) (r : Read) (line line' : ℕ) (kept kept' : List NumberedPunct) (tally tally' : Tally) → IsSeen earlier line kept tally
    → line' ≡ line + 1 → kept' ≡ kept ++ with_kept (line + 1) r [] → tally' ≡ with_fate (line + 1) (fate_by kept r) tally
    → IsSeen (earlier ++ r ∷ []) line' kept' tally'
seen_more earlier r line line' kept kept' tally tally' seen lines puncts counts =
    let number : line + 1 ≡ 1 + length earlier = omega (arith, seen.lines) in
    let fate : fate_by kept r ≡ fate_behind earlier r = ap (λ (cs : List NumberedPunct). fate_by cs r) seen.puncts ∙ fate_by-kept_of earlier r in
    record {
      lines = omega (arith, seen.lines, lines, length-append earlier (r ∷ []));
      puncts = puncts ∙ (ap (λ (cs : List NumberedPunct). cs ++ with_kept (line + 1) r []) seen.puncts ∙ (ap (λ m. kept_of 1 earlier ++ with_kept m r []) number ∙ sym (kept_of-push 1 earlier r)));
      counts = counts ∙ (ap (λ (f : Fate). with_fate (line + 1) f tally) fate ∙ (ap (with_fate (line + 1) (fate_behind earlier r)) seen.counts
          ∙ (ap (λ m. with_fate m (fate_behind earlier r) (tally_of (fates [] earlier))) (number ∙ ap (λ m. 1 + m) (sym (length-fates [] earlier)))
          ∙ (sym (tally_of-push (fates [] earlier) (fate_behind earlier r)) ∙ ap tally_of (sym (fates-push earlier r))))));
    }

-- the numbers of the lines are below the next one's
with_kept-above : (n m : ℕ) (r : Read) (ks : List NumberedPunct) → n < m → IsAbove m ks → IsAbove m (with_kept n r ks)
with_kept-above n m Skip ks lt above = above
with_kept-above n m (Tuple row) ks lt above = above
with_kept-above n m (Punct punct) ks lt above = (lt, above)
with_kept-above n m (Bad why) ks lt above = above

kept_of-above : (n m : ℕ) (rs : List Read) → n + length rs ≤ m → IsAbove m (kept_of n rs)
kept_of-above n m [] le = tt
kept_of-above n m (r ∷ rs) le = with_kept-above n m r (kept_of (n + 1) rs) (omega arith) (kept_of-above (n + 1) m rs (omega arith))

pub seen_above : (earlier : List Read) (line : ℕ) (kept : List NumberedPunct) (tally : Tally) → IsSeen earlier line kept tally → IsAbove (line + 1) kept
seen_above earlier line kept tally seen = rw seen.puncts (kept_of-above 1 (line + 1) earlier (omega (arith, seen.lines)))
