-- The places of the punctuations that wait, before and behind one more.
use Rattle.std.proofs.Common.{ℕ, ◌-◌, ◌<◌, not, List, [], ◌∷◌, ◌++◌, ◌≡◌, All, map, filter, length, get_or, refl, sym, ap, ap₂, ◌∙◌, subst, arith, length-append}
use Rattle.std.proofs.lemmas.Bool.{not-true}
use Rattle.std.proofs.lemmas.List.{map-append, get_or_append_left, get_or-append_right}
use Rattle.std.proofs.lemmas.List.Elements.{All-head, All-tail, All-push, All-weaker, All-filter, filter_passes}
use Rattle.pj_pattern.specs.declared.element.Element.{Element}
use Rattle.pj_pattern.specs.declared.element.Element.TheVariants.{Punct}
use Rattle.pj_events.specs.Patterns.{Pattern}
use Rattle.pj_events.specs.Operators.{Sent, all_sent_from, union_after}
use Rattle.pj_flow.specs.Unions.{UnionView, bears_on, puncts}
use Rattle.pj_flow.specs.Insides.{AreAsked, AreHeld, IsAsked, IsHeld, is_ready, newest, nobody, patterns_at, seen, sent_at, with_newest}
use Rattle.pj_flow.proofs.Asking.{unaffected}
use Rattle.pj_value.proofs.Members.{filter_map_swap}

last_place : (came : List Sent) (q : Sent) → newest (came ++ q ∷ []) ≡ length came
last_place came q = omega (arith, length-append came (q ∷ []))

stays_at : (came : List Sent) (q : Sent) (place : ℕ) → place < length came → sent_at (came ++ q ∷ []) place ≡ sent_at came place
stays_at came q place lt = get_or_append_left came (q ∷ []) nobody place lt

newest_is : (came : List Sent) (q : Sent) → sent_at (came ++ q ∷ []) (newest (came ++ q ∷ [])) ≡ q
newest_is came q =
    let none : length came - length came ≡ 0 = omega arith in
    ap (λ (i : ℕ). sent_at (came ++ q ∷ []) i) (last_place came q)
    ∙ (get_or-append_right came (q ∷ []) (length came) (length came) nobody refl (omega arith) ∙ ap (λ (i : ℕ). get_or (q ∷ []) i nobody) none)

-- what was held back is asked again only where the newest bears on it
pub held_asked : (n : ℕ) (came : List Sent) (q : Sent) (waiting : List ℕ) → AreHeld n came waiting → AreAsked n (came ++ q ∷ []) waiting
held_asked n came q waiting held = All-weaker (IsHeld n came) (IsAsked n (came ++ q ∷ [])) one waiting held
  where
    one : (place : ℕ) → IsHeld n came place → IsAsked n (came ++ q ∷ []) place
    one place h =
        let at = stays_at came q place h.0 in (
          omega (arith, h.0, length-append came (q ∷ [])),
          λ away. ap (λ (p : Sent). all_sent_from 0 n (came ++ q ∷ []) p) at
              ∙ (unaffected 0 n came q (sent_at came place) (ap₂ bears_on (sym (newest_is came q)) (sym at) ∙ away) ∙ h.1),
        )

-- all of them have come
pub asked_within : (n : ℕ) (came : List Sent) (waiting : List ℕ) → AreAsked n came waiting → 0 < length came → All (λ at. at < length came) (with_newest came waiting)
asked_within n came waiting asked some =
    All-push (λ at. at < length came) waiting (newest came) (All-weaker (IsAsked n came) (λ at. at < length came) (λ at h. h.0) waiting asked) (omega (arith, some))

pub go_within : (n : ℕ) (came : List Sent) (waiting : List ℕ) → AreAsked n came waiting → 0 < length came → All (λ at. at < length came) (filter (is_ready n came) (with_newest came waiting))
go_within n came waiting asked some = All-filter (is_ready n came) (λ at. at < length came) (with_newest came waiting) (asked_within n came waiting asked some)

-- those that stay are held back
pub still_held : (n : ℕ) (came : List Sent) (waiting : List ℕ) → AreAsked n came waiting → 0 < length came → AreHeld n came (filter (λ at. not (is_ready n came at)) (with_newest came waiting))
still_held n came waiting asked some k d lt = (
  All-filter (λ at. not (is_ready n came at)) (λ at. at < length came) (with_newest came waiting) (asked_within n came waiting asked some) k d lt,
  not-true (is_ready n came _) (filter_passes (λ at. not (is_ready n came at)) (with_newest came waiting) k d lt),
)

front_seen : (n : ℕ) (came : List Sent) (q : Sent) (waiting : List ℕ) → AreHeld n came waiting → map (sent_at (came ++ q ∷ [])) waiting ≡ map (sent_at came) waiting
front_seen n came q [] held = refl
front_seen n came q (at ∷ waiting) held =
    ap₂ (λ (p : Sent) (ps : List Sent). p ∷ ps) (stays_at came q at (All-head (IsHeld n came) at waiting held).0) (front_seen n came q waiting (All-tail (IsHeld n came) at waiting held))

places_seen : (n : ℕ) (came : List Sent) (q : Sent) (waiting : List ℕ) → AreHeld n came waiting → map (sent_at (came ++ q ∷ [])) (with_newest (came ++ q ∷ []) waiting) ≡ map (sent_at came) waiting ++ q ∷ []
places_seen n came q waiting held =
    map-append (sent_at (came ++ q ∷ [])) waiting (newest (came ++ q ∷ []) ∷ [])
    ∙ ap₂ (λ (ps : List Sent) (p : Sent). ps ++ p ∷ []) (front_seen n came q waiting held) (newest_is came q)

-- the waiting punctuations that stay
pub stay_seen : (n : ℕ) (came : List Sent) (q : Sent) (waiting : List ℕ) → AreHeld n came waiting
    → map (sent_at (came ++ q ∷ [])) (filter (λ at. not (is_ready n (came ++ q ∷ []) at)) (with_newest (came ++ q ∷ []) waiting)) ≡ filter (λ p. not (all_sent_from 0 n (came ++ q ∷ []) p)) (map (sent_at came) waiting ++ q ∷ [])
stay_seen n came q waiting held =
    sym (filter_map_swap (λ (p : Sent). not (all_sent_from 0 n (came ++ q ∷ []) p)) (sent_at (came ++ q ∷ [])) (with_newest (came ++ q ∷ []) waiting))
    ∙ ap (λ (ps : List Sent). filter (λ p. not (all_sent_from 0 n (came ++ q ∷ []) p)) ps) (places_seen n came q waiting held)

shown : (came : List Sent) (places : List ℕ) → puncts (map (patterns_at came) places) ≡ map (λ (p : Sent). Punct p.patterns) (map (sent_at came) places)
shown came [] = refl
shown came (at ∷ places) = ap (λ (es : List Element). Punct (patterns_at came at) ∷ es) (shown came places)

-- the punctuations that go out
pub go_seen : (n : ℕ) (came : List Sent) (q : Sent) (waiting : List ℕ) (out : List (List Pattern)) → AreHeld n came waiting
    → puncts (out ++ map (patterns_at (came ++ q ∷ [])) (filter (is_ready n (came ++ q ∷ [])) (with_newest (came ++ q ∷ []) waiting))) ≡ puncts out ++ map (λ p. Punct p.patterns) (filter (all_sent_from 0 n (came ++ q ∷ [])) (map (sent_at came) waiting ++ q ∷ []))
go_seen n came q waiting out held =
    let all = came ++ q ∷ [] in
    let places = with_newest all waiting in
    map-append Punct out (map (patterns_at all) (filter (is_ready n all) places))
    ∙ ap (λ (es : List Element). puncts out ++ es)
    (shown all (filter (is_ready n all) places)
    ∙ ap (λ (ps : List Sent). map (λ (p : Sent). Punct p.patterns) ps)
    (sym (filter_map_swap (all_sent_from 0 n all) (sent_at all) places) ∙ ap (λ (ps : List Sent). filter (all_sent_from 0 n all) ps) (places_seen n came q waiting held)))

-- the places that stay, whatever they were read from
left_is : (n : ℕ) (came : List Sent) (q : Sent) (waiting : List ℕ) (all : List Sent) (places left : List ℕ) → all ≡ came ++ q ∷ [] → places ≡ waiting
    → left ≡ filter (λ at. not (is_ready n all at)) (with_newest all places) → left ≡ filter (λ at. not (is_ready n (came ++ q ∷ []) at)) (with_newest (came ++ q ∷ []) waiting)
left_is n came q waiting all places left a w e =
    e ∙ ap₂ (λ (ps : List Sent) (ats : List ℕ). filter (λ at. not (is_ready n ps at)) (with_newest ps ats)) a w

pub asked_again : (n : ℕ) (came : List Sent) (q : Sent) (waiting : List ℕ) (all : List Sent) (places : List ℕ) → AreHeld n came waiting → all ≡ came ++ q ∷ [] → places ≡ waiting → AreAsked n all places
asked_again n came q waiting all places held a w =
    subst (λ (ps : List Sent). AreAsked n ps places) (sym a)
    (subst (λ (ats : List ℕ). AreAsked n (came ++ q ∷ []) ats) (sym w) (held_asked n came q waiting held))

pub held_again : (n : ℕ) (came : List Sent) (q : Sent) (waiting : List ℕ) (all : List Sent) (places left : List ℕ) → AreHeld n came waiting → all ≡ came ++ q ∷ [] → places ≡ waiting
    → left ≡ filter (λ at. not (is_ready n all at)) (with_newest all places) → AreHeld n (came ++ q ∷ []) left
held_again n came q waiting all places left held a w e =
    subst (λ (ats : List ℕ). AreHeld n (came ++ q ∷ []) ats) (sym (left_is n came q waiting all places left a w e))
    (still_held n (came ++ q ∷ []) waiting (held_asked n came q waiting held) (omega (arith, length-append came (q ∷ []))))

abbrev union_of : ℕ → ℕ → List Sent → List Sent → UnionView
union_of n arity came waiting = record { inputs = n; arity = arity; state = record { came = came; waiting = waiting } }

abbrev stepped : ℕ → List Pattern → UnionView → UnionView
stepped input patterns old = record old { state = union_after old.inputs old.state input (Punct patterns) }

-- the union after a punctuation
pub union_seen : (n arity input : ℕ) (patterns : List Pattern) (came : List Sent) (waiting : List ℕ) (all : List Sent) (places left : List ℕ) (old : UnionView)
    → old ≡ seen n arity came waiting → AreHeld n came waiting → all ≡ came ++ record { input = input; patterns = patterns } ∷ [] → places ≡ waiting
    → left ≡ filter (λ at. not (is_ready n all at)) (with_newest all places)
    → seen n arity (came ++ record { input = input; patterns = patterns } ∷ []) left ≡ record old { state = union_after old.inputs old.state input (Punct patterns) }
union_seen n arity input patterns came waiting all places left old view held a w e =
    let q : Sent = record { input = input; patterns = patterns } in
    let ready = left_is n came q waiting all places left a w e in
    ap (λ (ats : List ℕ). seen n arity (came ++ q ∷ []) ats) ready
    ∙ (ap (union_of n arity (came ++ q ∷ [])) (stay_seen n came q waiting held) ∙ ap (stepped input patterns) (sym view))
