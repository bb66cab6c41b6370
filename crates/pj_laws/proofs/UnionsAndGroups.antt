-- Unions and groups hand up lawfully.
use Rattle.std.proofs.Common.{ℕ, zero, suc, ◌+◌, ◌<◌, ◌≤◌, Bool, true, false, cond, ◌&&◌, ◌||◌, not, List, [], ◌∷◌, ◌++◌, ◌≡◌, ◌⊎◌, map, filter, length, get_or, refl, sym, ap, ap₂, ◌∙◌, subst, inl, inr, eqb, arith}
use Rattle.pj_pattern.proofs.Lawful.{none_at as clear_at, none_from as clear_from, lawful_append, no_punct, no_row, rows_lawful, puncts_lawful, lawful_tail}
use Rattle.pj_value.proofs.Members.{In-append_left, In-append_right, In-append_cases, In-filter, In-map, any_at}
use Rattle.std.specs.List.{list_any}
use Rattle.std.proofs.lemmas.Bool.{and_parts, or_cases, false≢true, eqb-true, eq-eqb, cases_eq, false_from_ne_true, not-true}
use Rattle.std.proofs.lemmas.List.{length-map}
use Rattle.pj_pattern.proofs.Covering.{row_covered}
use Rattle.pj_events.specs.Patterns.{Pattern, wild, all_wild, matches_row, covers_punct}
use Rattle.pj_events.specs.Join.{In, Value, no_value, Element, Tuple, Punct}
use Rattle.pj_pattern.specs.Elements.{IsLawful}
use Rattle.pj_events.specs.Operators.{picked_cells, aggregate, keys_from, group_row, group_rows, GroupSpec, Sent, UnionState, all_sent_from, union_after, union_hands, group_after, group_hands}
use Rattle.pj_events.specs.Plan.{Union, Group, Local, Comes, Fed, Own, hands_all}
use Rattle.pj_value.specs.Values.{row_eq}
use Rattle.pj_pattern.proofs.Rows.{matches-append}
use Rattle.pj_pattern.specs.Columns.{others_wild, picked_patterns}
use Rattle.pj_events.proofs.Keys.{key-from}
use Rattle.pj_laws.proofs.Glue.{from_input}
use Rattle.pj_laws.proofs.Operators.{AllFit, picked-at, picked-matches, AreWithin}

-- ---- a union

all_sent-at : (k n : ℕ) (came : List Sent) (p : Sent) → all_sent_from k n came p ≡ true → (j : ℕ) → k ≤ j → j < k + n
    → (j ≡ p.input) ⊎ ((q : Sent) × In q came × (q.input ≡ j) × (covers_punct q.patterns p.patterns ≡ true))
all_sent-at k zero came p t j a b = absurd (omega arith)
all_sent-at k (suc n) came p t j a b =
    elim (cases_eq j k) [
      | inl q ↦ elim (or_cases (eqb k p.input) (list_any (λ (s : Sent). eqb s.input k && covers_punct s.patterns p.patterns) came) both.0) [
        | inl e ↦ inl (q ∙ eqb-true k p.input e)
        | inr e ↦ let r = any_at (λ (s : Sent). eqb s.input k && covers_punct s.patterns p.patterns) came e in
            let c = and_parts (eqb r.0.input k) (covers_punct r.0.patterns p.patterns) r.2 in
            inr (r.0, r.1, eqb-true r.0.input k c.0 ∙ sym q, c.1)
      ]
      | inr ne ↦ all_sent-at (k + 1) n came p both.1 j (omega arith) (omega arith)
    ]
  where
    both : ((eqb k p.input || list_any (λ (s : Sent). eqb s.input k && covers_punct s.patterns p.patterns) came) ≡ true) × (all_sent_from (k + 1) n came p ≡ true)
    both = and_parts (eqb k p.input || list_any (λ (s : Sent). eqb s.input k && covers_punct s.patterns p.patterns) came) (all_sent_from (k + 1) n came p) t

pub from-first : (i : ℕ) (e : Element) (ls : List Local) → from_input i (Comes i e ∷ ls) ≡ e ∷ from_input i ls
from-first i e ls = ap (λ b. cond b (e ∷ from_input i ls) (from_input i ls)) (eq-eqb i i refl)

pub from-tail : (k i : ℕ) (e : Element) (ls : List Local) (x : Element) → In x (from_input k ls) → In x (from_input k (Comes i e ∷ ls))
from-tail k i e ls x h = go (eqb i k)
  where
    go : (b : Bool) → In x (cond b (e ∷ from_input k ls) (from_input k ls))
    go true = inr h
    go false = h

lawful-rest : (k i : ℕ) (e : Element) (ls : List Local) → IsLawful (from_input k (Comes i e ∷ ls)) → IsLawful (from_input k ls)
lawful-rest k i e ls l = go (eqb i k) l
  where
    go : (b : Bool) → IsLawful (cond b (e ∷ from_input k ls) (from_input k ls)) → IsLawful (from_input k ls)
    go true m = lawful_tail e (from_input k ls) m
    go false m = m

-- a row of a union comes from an input
union-rows : (n : ℕ) (u : UnionState) (ls : List Local) → AreWithin n ls → (row : List Value) → In (Tuple row) (hands_all (Union n u) ls) → (k : ℕ) × (k < n) × In (Tuple row) (from_input k ls)
union-rows n u [] w row h = absurd h
union-rows n u (Fed e ∷ ls) w row h = union-rows n u ls w row h
union-rows n u (Own s ∷ ls) w row h = union-rows n u ls w row h
union-rows n u (Comes i (Tuple r) ∷ ls) w row (inl q) = (i, w.0, subst (λ (es : List Element). In (Tuple row) es) (sym (from-first i (Tuple r) ls)) (inl q))
union-rows n u (Comes i (Tuple r) ∷ ls) w row (inr h) = let g = union-rows n u ls w.1 row h in (g.0, g.1, from-tail g.0 i (Tuple r) ls (Tuple row) g.2)
union-rows n u (Comes i (Punct ps) ∷ ls) w row h = elim (In-append_cases (Tuple row) (union_hands n u i (Punct ps)) (hands_all (Union n (union_after n u i (Punct ps))) ls) h) [
  | inl k ↦ absurd (no_row (λ (p : Sent). p.patterns) (filter (all_sent_from 0 n (u.came ++ record { input = i; patterns = ps } ∷ [])) (u.waiting ++ record { input = i; patterns = ps } ∷ [])) row k)
  | inr k ↦ let g = union-rows n (union_after n u i (Punct ps)) ls w.1 row k in (g.0, g.1, from-tail g.0 i (Punct ps) ls (Tuple row) g.2)
]

pub union-lawful : (n : ℕ) (u : UnionState) (ls : List Local) → AreWithin n ls → ((k : ℕ) → k < n → IsLawful (from_input k ls))
    → ((q : Sent) → In q u.came → (row : List Value) → In (Tuple row) (from_input q.input ls) → matches_row q.patterns row ≡ false) → ((q : Sent) → In q u.waiting → In q u.came) → IsLawful (hands_all (Union n u) ls)
union-lawful n u [] w l clear wait = tt
union-lawful n u (Fed e ∷ ls) w l clear wait = union-lawful n u ls w l clear wait
union-lawful n u (Own s ∷ ls) w l clear wait = union-lawful n u ls w l clear wait
union-lawful n u (Comes i (Tuple row) ∷ ls) w l clear wait =
    union-lawful n u ls w.1 (λ k lt. lawful-rest k i (Tuple row) ls (l k lt)) (λ q h r m. clear q h r (from-tail q.input i (Tuple row) ls (Tuple r) m)) wait
union-lawful n u (Comes i (Punct ps) ∷ ls) w l clear wait =
    lawful_append (union_hands n u i (Punct ps)) (hands_all (Union n (union_after n u i (Punct ps))) ls)
    (puncts_lawful (λ (p : Sent). p.patterns) (filter (all_sent_from 0 n came) (u.waiting ++ new ∷ [])))
    (union-lawful n (union_after n u i (Punct ps)) ls w.1 (λ k lt. lawful-rest k i (Punct ps) ls (l k lt)) clear' wait')
    (λ qs h. clear_from qs (hands_all (Union n (union_after n u i (Punct ps))) ls) (cross qs h))
  where
    new : Sent
    new = record { input = i; patterns = ps }

    came : List Sent
    came = u.came ++ new ∷ []

    mine : IsLawful (Punct ps ∷ from_input i ls)
    mine = subst IsLawful (from-first i (Punct ps) ls) (l i w.0)

    clear-new : (q : Sent) → In q (new ∷ []) → (row : List Value) → In (Tuple row) (from_input q.input ls) → matches_row q.patterns row ≡ false
    clear-new q (inl e) = subst (λ (z : Sent). (row : List Value) → In (Tuple row) (from_input z.input ls) → matches_row z.patterns row ≡ false) e (clear_at ps (from_input i ls) mine.0)
    clear-new q (inr e) = absurd e

    clear' : (q : Sent) → In q came → (row : List Value) → In (Tuple row) (from_input q.input ls) → matches_row q.patterns row ≡ false
    clear' q h = elim (In-append_cases q u.came (new ∷ []) h) [
      | inl k ↦ λ r m. clear q k r (from-tail q.input i (Punct ps) ls (Tuple r) m)
      | inr k ↦ clear-new q k
    ]

    sent : (q : Sent) → In q (u.waiting ++ new ∷ []) → In q came
    sent q h = elim (In-append_cases q u.waiting (new ∷ []) h) [
      | inl k ↦ In-append_left q u.came (new ∷ []) (wait q k)
      | inr k ↦ In-append_right q u.came (new ∷ []) k
    ]

    wait' : (q : Sent) → In q (union_after n u i (Punct ps)).waiting → In q came
    wait' q h = sent q (In-filter (λ p. not (all_sent_from 0 n came p)) q (u.waiting ++ new ∷ []) h).0

    cross : (qs : List Pattern) → In (Punct qs) (union_hands n u i (Punct ps)) → (row : List Value) → In (Tuple row) (hands_all (Union n (union_after n u i (Punct ps))) ls) → matches_row qs row ≡ false
    cross qs h row k =
        let r = In-map (λ (p : Sent). Punct p.patterns) (Punct qs) (filter (all_sent_from 0 n came) (u.waiting ++ new ∷ [])) h in
        let f = In-filter (all_sent_from 0 n came) r.0 (u.waiting ++ new ∷ []) r.1 in
        let g = union-rows n (union_after n u i (Punct ps)) ls w.1 row k in
        let same : r.0.patterns ≡ qs = cc r.2 in
        ap (λ (ws : List Pattern). matches_row ws row) (sym same) ∙
        elim (all_sent-at 0 n came r.0 f.1 g.0 (omega arith) (omega (arith, g.1))) [
          | inl e ↦ clear' r.0 (sent r.0 f.0) row (subst (λ (j : ℕ). In (Tuple row) (from_input j ls)) e g.2)
          | inr q ↦ false_from_ne_true (matches_row r.0.patterns row) (λ t.
              false≢true (sym (clear' q.0 q.1 row (subst (λ (j : ℕ). In (Tuple row) (from_input j ls)) (sym q.2) g.2)) ∙ row_covered q.0.patterns r.0.patterns row q.3 t))
        ]

-- ---- a group

abbrev pub group_all : GroupSpec → List (List Value) → List Element → List Element
group_all spec rows [] = []
group_all spec rows (e ∷ es) = group_hands spec rows e ++ group_all spec (group_after spec rows e) es

pub group-hands : (spec : GroupSpec) (rows : List (List Value)) (ls : List Local) → AreWithin 1 ls → hands_all (Group spec rows) ls ≡ group_all spec rows (from_input 0 ls)
group-hands spec rows [] w = refl
group-hands spec rows (Fed e ∷ ls) w = group-hands spec rows ls w
group-hands spec rows (Own s ∷ ls) w = group-hands spec rows ls w
group-hands spec rows (Comes i e ∷ ls) w =
    let z : i ≡ 0 = omega (arith, w.0) in
    ap (λ es. group_hands spec rows e ++ es) (group-hands spec (group_after spec rows e) ls w.1)
    ∙ sym (ap (λ b. group_all spec rows (cond b (e ∷ from_input 0 ls) (from_input 0 ls))) (eq-eqb i 0 z))

-- a group's row has the key of a row that is held, or that comes
group-source : (spec : GroupSpec) (rows : List (List Value)) (es : List Element) (out : List Value) → In (Tuple out) (group_all spec rows es)
    → (row : List Value) × (In row rows ⊎ In (Tuple row) es) × ((rest : List Value) × ((picked_cells spec.keys row ++ rest) ≡ out))
group-source spec rows [] out h = absurd h
group-source spec rows (Tuple x ∷ es) out h =
    let r = group-source spec (rows ++ x ∷ []) es out h in (
      r.0,
      elim r.1 [
        | inl k ↦ elim (In-append_cases r.0 rows (x ∷ []) k) [ inl m ↦ inl m | inr m ↦ inr (inl (ap Tuple (one r.0 m))) ]
        | inr k ↦ inr (inr k)
      ],
      r.2,
    )
  where
    one : (z : List Value) → In z (x ∷ []) → x ≡ z
    one z (inl q) = q
    one z (inr q) = absurd q
group-source spec rows (Punct ps ∷ es) out h = go (others_wild spec.keys 0 ps) h (group-source spec rows es out) (group-source spec (filter (λ row. not (matches_row (picked_patterns spec.keys ps) (picked_cells spec.keys row))) rows) es out)
  where
    p : List Value → Bool
    p row = matches_row (picked_patterns spec.keys ps) (picked_cells spec.keys row)

    due : List (List Value)
    due = filter p rows

    Src : List (List Value) → List Element → Type 0
    Src xs ys = (row : List Value) × (In row xs ⊎ In (Tuple row) ys) × ((rest : List Value) × ((picked_cells spec.keys row ++ rest) ≡ out))

    shut : List Element
    shut = Punct (picked_patterns spec.keys ps ++ all_wild (length spec.aggs)) ∷ []

    here : In (Tuple out) (map Tuple (group_rows spec due) ++ shut) → Src rows (Punct ps ∷ es)
    here k = elim (In-append_cases (Tuple out) (map Tuple (group_rows spec due)) shut k) [
      | inl m ↦ let a = In-map Tuple (Tuple out) (group_rows spec due) m in
          let b = In-map (group_row spec due) a.0 (keys_from [] spec due) a.1 in
          let c = key-from [] spec due b.0 b.1 in
          let q : a.0 ≡ out = cc a.2 in
          (c.0, inl (In-filter p c.0 rows c.1).0, (map (aggregate (filter (λ row. row_eq b.0 (picked_cells spec.keys row)) due)) spec.aggs, ap (λ (xs : List Value). xs ++ map (aggregate (filter (λ row. row_eq b.0 (picked_cells spec.keys row)) due)) spec.aggs) c.2 ∙ b.2 ∙ q))
      | inr m ↦ elim m [ inl q ↦ cc q | inr q ↦ absurd q ]
    ]

    go : (b : Bool) → In (Tuple out) (cond b (map Tuple (group_rows spec due) ++ shut) [] ++ group_all spec (cond b (filter (λ row. not (p row)) rows) rows) es)
        → (In (Tuple out) (group_all spec rows es) → Src rows es) → (In (Tuple out) (group_all spec (filter (λ row. not (p row)) rows) es) → Src (filter (λ row. not (p row)) rows) es) → Src rows (Punct ps ∷ es)
    go false k f g = let r = f k in (r.0, elim r.1 [ inl m ↦ inl m | inr m ↦ inr (inr m) ], r.2)
    go true k f g = elim (In-append_cases (Tuple out) (map Tuple (group_rows spec due) ++ shut) (group_all spec (filter (λ row. not (p row)) rows) es) k) [
      | inl m ↦ here m
      | inr m ↦ let r = g m in (r.0, elim r.1 [ inl z ↦ inl (In-filter (λ row. not (p row)) r.0 rows z).0 | inr z ↦ inr (inr z) ], r.2)
    ]

pub group-lawful : (width : ℕ) (spec : GroupSpec) (rows : List (List Value)) (es : List Element) → ((row : List Value) → In row rows → length row ≡ width) → AllFit width es → IsLawful es → IsLawful (group_all spec rows es)
group-lawful width spec rows [] long fit l = tt
group-lawful width spec rows (Tuple x ∷ es) long fit l =
    group-lawful width spec (rows ++ x ∷ []) es (λ row h. elim (In-append_cases row rows (x ∷ []) h) [ inl k ↦ long row k | inr k ↦ last row k ]) (λ e h. fit e (inr h)) l
  where
    last : (row : List Value) → In row (x ∷ []) → length row ≡ width
    last row (inl q) = subst (λ (z : List Value). length z ≡ width) q (fit (Tuple x) (inl refl))
    last row (inr q) = absurd q
group-lawful width spec rows (Punct ps ∷ es) long fit l =
    go (others_wild spec.keys 0 ps) refl (group-lawful width spec rows es long (λ e h. fit e (inr h)) l.1) (group-lawful width spec (filter (λ row. not (p row)) rows) es (λ row h. long row (In-filter (λ r. not (p r)) row rows h).0) (λ e h. fit e (inr h)) l.1)
  where
    p : List Value → Bool
    p row = matches_row (picked_patterns spec.keys ps) (picked_cells spec.keys row)

    due : List (List Value)
    due = filter p rows

    wilds : List Pattern
    wilds = all_wild (length spec.aggs)

    out : List Element
    out = map Tuple (group_rows spec due) ++ Punct (picked_patterns spec.keys ps ++ wilds) ∷ []

    left : List (List Value)
    left = filter (λ row. not (p row)) rows

    out-lawful : IsLawful out
    out-lawful = lawful_append (map Tuple (group_rows spec due)) (Punct (picked_patterns spec.keys ps ++ wilds) ∷ []) (rows_lawful (λ r. r) (group_rows spec due)) (tt, tt) (λ qs h. absurd (no_punct (λ r. r) (group_rows spec due) qs h))

    -- a row that is held or comes with this key does not match
    apart : others_wild spec.keys 0 ps ≡ true → (row : List Value) → In row left ⊎ In (Tuple row) es → p row ≡ false
    apart d row (inl h) = not-true (p row) (In-filter (λ r. not (p r)) row rows h).1
    apart d row (inr h) = false_from_ne_true (p row) (λ t. false≢true (sym (clear_at ps es l.0 row h) ∙ picked-matches spec.keys 0 ps row (fit (Punct ps) (inl refl) ∙ sym (fit (Tuple row) (inr h))) d (λ j k. let z : 0 + j ≡ j = omega arith in picked-at spec.keys ps row j t (subst (λ (c : ℕ). In c spec.keys) z k))))

    cross : others_wild spec.keys 0 ps ≡ true → (qs : List Pattern) → In (Punct qs) out → (row : List Value) → In (Tuple row) (group_all spec left es) → matches_row qs row ≡ false
    cross d qs h row k = elim (In-append_cases (Punct qs) (map Tuple (group_rows spec due)) (Punct (picked_patterns spec.keys ps ++ wilds) ∷ []) h) [
      | inl m ↦ absurd (no_punct (λ r. r) (group_rows spec due) qs m)
      | inr m ↦ elim m [
        | inl q ↦ let r = group-source spec left es row k in
            let same : (picked_patterns spec.keys ps ++ wilds) ≡ qs = cc q in
            ap₂ matches_row (sym same) (sym r.2.1)
            ∙ matches-append (picked_patterns spec.keys ps) wilds (picked_cells spec.keys r.0) r.2.0 (length-map spec.keys (λ c. get_or ps c wild) ∙ sym (length-map spec.keys (λ c. get_or r.0 c no_value)))
            ∙ ap (λ (b : Bool). b && matches_row wilds r.2.0) (apart d r.0 r.1)
        | inr q ↦ absurd q
      ]
    ]

    go : (b : Bool) → others_wild spec.keys 0 ps ≡ b → IsLawful (group_all spec rows es) → IsLawful (group_all spec left es) → IsLawful (cond b out [] ++ group_all spec (cond b left rows) es)
    go false e f g = f
    go true e f g = lawful_append out (group_all spec left es) out-lawful g (λ qs h. clear_from qs (group_all spec left es) (cross e qs h))
