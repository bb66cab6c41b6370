-- The first stream from a place on whose closing is still to come.
use Rattle.std.proofs.Common.{◌≡◌, ℕ, zero, suc, ◌+◌, ◌-◌, ◌<◌, ◌≤◌, true, false, List, [], ◌∷◌, length, take, drop, get_or, refl, ap, sym, ◌∙◌, subst, arith, Some}
use Rattle.std.proofs.lemmas.List.{take_all, length-drop, get_or-drop}
use Rattle.std.proofs.lemmas.Option.{slice_get_read}
use Rattle.pj_feed.specs.Feeds.{FeedState, AllClosed, IsFirstOpen}

-- those from one place up to another are closed, place by place
abbrev pub AreShut : List FeedState → ℕ → ℕ → Type 0
AreShut feeds from place = AllClosed (take (place - from) (drop from feeds))

closed_one : (n : ℕ) (fs : List FeedState) (d : FeedState) → n < length fs → AllClosed (take n fs) → (get_or fs n d).is_open ≡ false → AllClosed (take (suc n) fs)
closed_one n [] d lt c shut = absurd (omega (arith, lt))
closed_one zero (f ∷ fs) d lt c shut = (shut, tt)
closed_one (suc n) (f ∷ fs) d lt c shut = (c.0, closed_one n fs d (omega (arith, lt)) c.1 shut)

pub shut_none : (feeds : List FeedState) (from : ℕ) → AreShut feeds from from
shut_none feeds from = let e : 0 ≡ from - from = omega arith in subst (λ (n : ℕ). AllClosed (take n (drop from feeds))) e tt

pub shut_more : (feeds : List FeedState) (from place : ℕ) (feed : FeedState) → from ≤ place → place < length feeds → feed ≡ get_or feeds place feed → feed.is_open ≡ false → AreShut feeds from place → AreShut feeds from (place + 1)
shut_more feeds from place feed le lt is shut c =
    let n : ℕ = place - from in
    let e : suc n ≡ place + 1 - from = omega (arith, le) in
    let there : n < length (drop from feeds) = omega (arith, length-drop from feeds, le, lt) in
    let at : from + n ≡ place = omega (arith, le) in
    let here : (get_or (drop from feeds) n feed).is_open ≡ false = ap (λ (f : FeedState). f.is_open) (get_or-drop from feeds n feed ∙ (ap (λ (k : ℕ). get_or feeds k feed) at ∙ sym is)) ∙ shut in
    subst (λ (k : ℕ). AllClosed (take k (drop from feeds))) e (closed_one n (drop from feeds) feed there c here)

pub shut_all : (feeds : List FeedState) (from place : ℕ) → length feeds ≤ place → AreShut feeds from place → AllClosed (drop from feeds)
shut_all feeds from place le c =
    subst AllClosed (take_all (place - from) (drop from feeds) (omega (arith, length-drop from feeds, le))) c

pub first_found : (feeds : List FeedState) (from place : ℕ) (feed : FeedState) → from ≤ place → place < length feeds → feed ≡ get_or feeds place feed → feed.is_open ≡ true → AreShut feeds from place → IsFirstOpen feeds from (Some place)
first_found feeds from place feed le lt is still c = (feed, le, slice_get_read feeds (length feeds) place feed refl lt is, still, c)
