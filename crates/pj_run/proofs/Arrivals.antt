-- What has arrived at a stream behind some turns of the run on one thread.
use Rattle.std.proofs.Common.{◌≡◌, ◌⊎◌, ℕ, zero, suc, ◌+◌, ◌-◌, ◌<◌, ◌≤◌, Bool, true, false, cond, List, [], ◌∷◌, ◌++◌, map, length, take, drop, get_or, eqb, refl, ap, ap₂, sym, ◌∙◌, subst, append_assoc, append-nil, arith, inl, inr}
use Rattle.std.proofs.lemmas.Bool.{cases_lt}
use Rattle.std.proofs.lemmas.List.{append_cancel_right, length-append, take-append-drop, get_or_append_left, get_or-append_right}
use Rattle.std.proofs.lemmas.List.Elements.{filter-append}
use Rattle.pj_pattern.specs.declared.element.Element.{Element}
use Rattle.pj_events.specs.declared.events.Entry.{Entry}
use Rattle.pj_events.specs.declared.events.Event.TheVariants.{Drain, Sweep as Swept}
use Rattle.pj_events.specs.Plan.{Node}
use Rattle.pj_events.specs.History.{nodes_from}
use Rattle.pj_events.specs.Outcomes.{elements_of}
use Rattle.pj_events.specs.OneThread.{Place, Turn, heads, tails, in_rounds, arrival_of, is_punct, places_from, probes_at, probes_from, probes, pending_at, follow_up, sweeps_at, turn_entries, turns_entries, plain}
use Rattle.pj_laws.proofs.Rounds.{mine, AreTagged, tails-tagged, length-tails, none-below, mine-heads, mine-in_rounds}
use Rattle.pj_feed.specs.Feeds.{round_left}
use Rattle.pj_laws.proofs.OneRun.{elements-append}

-- ---- what turns bring to a stream

none-at : (s join : ℕ) (us : List ℕ) → elements_of s (probes_at join us) ≡ []
none-at s join [] = refl
none-at s join (u ∷ us) = none-at s join us

pub none-from : (s n join : ℕ) (nodes : List Node) → elements_of s (probes_from nodes join n) ≡ []
none-from s zero join nodes = refl
none-from s (suc n) join nodes =
    let here : List Entry = probes_at join (pending_at nodes join) in
    elements-append s here (probes_from (nodes_from nodes here) (join + 1) n)
    ∙ ap₂ (λ (xs ys : List Element). xs ++ ys) (none-at s join (pending_at nodes join)) (none-from s n (join + 1) (nodes_from nodes here))

pub none-swept : (s : ℕ) (nodes : List Node) (places : List Place) → elements_of s (sweeps_at nodes places) ≡ []
none-swept s nodes [] = refl
none-swept s nodes (place ∷ places) =
    let here : List Entry = plain (Swept place.join place.input) ∷ [] in
    let swept : List Node = nodes_from nodes here in
    let after : List Entry = here ++ probes swept in
    elements-append s after (sweeps_at (nodes_from nodes after) places)
    ∙ ap₂ (λ (xs ys : List Element). xs ++ ys) (none-from s (length swept) 0 swept) (none-swept s (nodes_from nodes after) places)

none-follow : (s : ℕ) (nodes : List Node) (e : Element) → elements_of s (follow_up true nodes e) ≡ []
none-follow s nodes e =
    let probed : List Entry = probes nodes in
    let after : List Node = nodes_from nodes probed in
    let sweeps : List Entry = sweeps_at after (places_from 0 after) in
    elements-append s (probed ++ cond (is_punct e) sweeps []) (plain Drain ∷ [])
    ∙ ap (λ (xs : List Element). xs ++ []) (elements-append s probed (cond (is_punct e) sweeps [])
    ∙ ap₂ (λ (xs ys : List Element). xs ++ ys) (none-from s (length nodes) 0 nodes) (chosen (is_punct e) sweeps (none-swept s after (places_from 0 after))))
  where
    chosen : (b : Bool) (sweeps : List Entry) → elements_of s sweeps ≡ [] → elements_of s (cond b sweeps []) ≡ []
    chosen true sweeps none = none
    chosen false sweeps none = refl

-- what one turn brings
abbrev pub brought_by : ℕ → Turn → List Element
brought_by s t = cond (eqb t.stream s) (t.element ∷ []) []

abbrev pub all_brought : ℕ → List Turn → List Element
all_brought s [] = []
all_brought s (t ∷ ts) = brought_by s t ++ all_brought s ts

pub elements-turn : (s : ℕ) (nodes : List Node) (t : Turn) → elements_of s (turn_entries true nodes t) ≡ brought_by s t
elements-turn s nodes t = ap (λ (xs : List Element). brought_by s t ++ xs) (none-follow s (nodes_from nodes (arrival_of t ∷ [])) t.element) ∙ append-nil (brought_by s t)

pub elements-turns : (s : ℕ) (nodes : List Node) (ts : List Turn) → elements_of s (turns_entries true nodes ts) ≡ all_brought s ts
elements-turns s nodes [] = refl
elements-turns s nodes (t ∷ ts) =
    let here : List Entry = turn_entries true nodes t in
    elements-append s here (turns_entries true (nodes_from nodes here) ts)
    ∙ ap₂ (λ (xs ys : List Element). xs ++ ys) (elements-turn s nodes t) (elements-turns s (nodes_from nodes here) ts)

brought-mine : (s : ℕ) (ts : List Turn) → all_brought s ts ≡ map (λ t. t.element) (mine s ts)
brought-mine s [] = refl
brought-mine s (t ∷ ts) = go (eqb t.stream s) (brought-mine s ts)
  where
    go : (b : Bool) → all_brought s ts ≡ map (λ u. u.element) (mine s ts) → cond b (t.element ∷ []) [] ++ all_brought s ts ≡ map (λ u. u.element) (cond b (t ∷ mine s ts) (mine s ts))
    go true e = ap (λ (es : List Element). t.element ∷ es) e
    go false e = e

-- ---- the turns that are left

tagged-append : (k : ℕ) (xs ys : List (List Turn)) → AreTagged k xs → AreTagged (k + length xs) ys → AreTagged k (xs ++ ys)
tagged-append k [] ys a b = let e : k + 0 ≡ k = omega arith in subst (λ (n : ℕ). AreTagged n ys) e b
tagged-append k (x ∷ xs) ys a b = let e : k + suc (length xs) ≡ k + 1 + length xs = omega arith in (a.0, tagged-append (k + 1) xs ys a.1 (subst (λ (n : ℕ). AreTagged n ys) e b))

-- the turns of a stream among those left in rounds are the ones left of it
mine-left : (had others : List (List Turn)) (s : ℕ) → AreTagged 0 had → AreTagged (length had) others → s < length had + length others
    → mine s (round_left had others) ≡ get_or (had ++ others) s []
mine-left had others s a b lt =
    let here : length had ≡ 0 + length had = omega arith in
    let rest : mine s (in_rounds (had ++ tails others)) ≡ get_or (had ++ tails others) s [] =
    mine-in_rounds s (had ++ tails others) (tagged-append 0 had (tails others) a (subst (λ (n : ℕ). AreTagged n (tails others)) here (tails-tagged (length had) others b))) (omega (arith, lt, length-append had (tails others), length-tails others)) in
    filter-append (λ t. eqb t.stream s) (heads others) (in_rounds (had ++ tails others))
    ∙ (ap (λ (ts : List Turn). mine s (heads others) ++ ts) rest ∙ go (cases_lt s (length had)))
  where
    go : (s < length had) ⊎ (length had ≤ s) → mine s (heads others) ++ get_or (had ++ tails others) s [] ≡ get_or (had ++ others) s []
    go (inl below) =
        ap₂ (λ (xs ys : List Turn). xs ++ ys) (none-below (length had) s others b below) (get_or_append_left had (tails others) [] s below)
        ∙ sym (get_or_append_left had others [] s below)
    go (inr above) =
        let i : ℕ = s - length had in
        let at : s ≡ length had + i = omega (arith, above) in
        ap₂ (λ (xs ys : List Turn). xs ++ ys) (ap (λ (n : ℕ). mine n (heads others)) at) (get_or-append_right had (tails others) (length had) s [] refl above)
        ∙ (mine-heads (length had) i others b (omega (arith, lt, at)) ∙ sym (get_or-append_right had others (length had) s [] refl above))

-- what turns bring to a stream, of which these are left
pub brought-left : (had others : List (List Turn)) (s : ℕ) → AreTagged 0 had → AreTagged (length had) others → s < length had + length others
    → all_brought s (round_left had others) ≡ map (λ t. t.element) (get_or (had ++ others) s [])
brought-left had others s a b lt = brought-mine s (round_left had others) ∙ ap (map (λ t. t.element)) (mine-left had others s a b lt)

-- what arrived is what is not left
pub arrived-is : (history back : List Entry) (s n : ℕ) (all : List Element) (closing : Element) (left : List Turn) → elements_of s (history ++ back) ≡ all ++ closing ∷ [] → elements_of s back ≡ drop n all ++ closing ∷ []
    → elements_of s history ≡ take n all
arrived-is history back s n all closing left whole rest =
    append_cancel_right (elements_of s history) (take n all) (drop n all ++ closing ∷ [])
    (ap (λ (xs : List Element). elements_of s history ++ xs) (sym rest)
    ∙ (sym (elements-append s history back)
    ∙ (whole ∙ (ap (λ (xs : List Element). xs ++ closing ∷ []) (sym (take-append-drop n all)) ∙ append_assoc (take n all) (drop n all) (closing ∷ [])))))
