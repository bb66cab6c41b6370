-- Turns of streams, one by one.
use Rattle.pj_plan.specs.declared.node.PlanNode.{PlanNode}
use Rattle.std.proofs.Common.{◌≡◌, ℕ, zero, suc, ◌+◌, ◌-◌, ◌<◌, ◌≤◌, false, List, [], ◌∷◌, ◌++◌, map, length, take, drop, get_or, set, subst, refl, ap, ap₂, sym, ◌∙◌, append_assoc, append-nil, arith, Some, inl, inr}
use Rattle.std.specs.List.{slice_get}
use Rattle.std.proofs.lemmas.Bool.{cases_lt}
use Rattle.std.proofs.lemmas.List.{take_more, take_more_set, drop-set-lt, drop_more, map-append, drop_all, take_all, take-append-drop, length-drop}
use Rattle.std.proofs.lemmas.Option.{slice_get_within, get_or_from_slice_get}
use Rattle.pj_value.specs.Lists.{In}
use Rattle.pj_value.proofs.Members.{In-append_left, In-append_right}
use Rattle.pj_events.specs.OneThread.{Turn, heads, tails, rounds, longest, in_rounds}
use Rattle.pj_laws.proofs.OneThreadAnswer.{rounds-go-on}
use Rattle.pj_feed.specs.Feeds.{FeedState, feed_left, round_left, feeds_left, AllClosed, IsFirstOpen, HasTurn}

-- ---- rounds

skips : (had others : List (List Turn)) → round_left had ([] ∷ others) ≡ round_left (had ++ [] ∷ []) others
skips had others = ap (λ (ls : List (List Turn)). heads others ++ in_rounds ls) (sym (append_assoc had ([] ∷ []) (tails others)))

gives : (had others : List (List Turn)) (t : Turn) (ts : List Turn) → round_left had ((t ∷ ts) ∷ others) ≡ t ∷ round_left (had ++ ts ∷ []) others
gives had others t ts = ap (λ (ls : List (List Turn)). t ∷ (heads others ++ in_rounds ls)) (sym (append_assoc had (ts ∷ []) (tails others)))

wraps : (lists : List (List Turn)) → round_left lists [] ≡ round_left [] lists
wraps lists = ap in_rounds (append-nil lists) ∙ rounds-go-on lists

-- all of these lists are empty
abbrev AreEmpty : List (List Turn) → Type 0
AreEmpty [] = Unit {0}
AreEmpty (xs ∷ lists) = (xs ≡ []) × AreEmpty lists

none_in_rounds : (lists : List (List Turn)) → AreEmpty lists → longest lists ≡ 0
none_in_rounds [] e = refl
none_in_rounds (xs ∷ lists) e = rw e.0 (rw (none_in_rounds lists e.1) refl)

none_left : (lists : List (List Turn)) → AreEmpty lists → in_rounds lists ≡ []
none_left lists e = ap (λ (n : ℕ). rounds n lists) (none_in_rounds lists e)

-- ---- places

-- the stream at a place splits the others
at_place : (feeds : List FeedState) (at : ℕ) (feed : FeedState) → slice_get feeds at ≡ Some feed
    → (drop at feeds ≡ feed ∷ drop (at + 1) feeds) × (take (at + 1) feeds ≡ take at feeds ++ feed ∷ [])
at_place feeds at feed is =
    let there : at < length feeds = slice_get_within feeds at feed is in
    let here : get_or feeds at feed ≡ feed = get_or_from_slice_get feeds at feed feed is in (
      drop_more feeds at feed there ∙ ap (λ (f : FeedState). f ∷ drop (at + 1) feeds) here,
      take_more feeds at feed there ∙ ap (λ (f : FeedState). take at feeds ++ f ∷ []) here,
    )

module _ (streams : List PlanNode) where
  abbrev left : FeedState → List Turn
  left = feed_left streams

  -- nothing is left of these
  abbrev pub AreDone : List FeedState → Type 0
  AreDone [] = Unit {0}
  AreDone (f ∷ fs) = (left f ≡ []) × AreDone fs

  -- nothing is left of a stream whose closing had its turn
  abbrev pub ClosedAreDone : List FeedState → Type 0
  ClosedAreDone feeds = (f : FeedState) → In f feeds → f.is_open ≡ false → left f ≡ []

  all_done : (feeds some : List FeedState) → ClosedAreDone feeds → ((f : FeedState) → In f some → In f feeds) → AllClosed some → AreDone some
  all_done feeds [] done sub closed = tt
  all_done feeds (f ∷ fs) done sub closed = (done f (sub f (inl refl)) closed.0, all_done feeds fs done (λ g h. sub g (inr h)) closed.1)

  done_empty : (fs : List FeedState) → AreDone fs → AreEmpty (map left fs)
  done_empty [] d = tt
  done_empty (f ∷ fs) d = (d.0, done_empty fs d.1)

  -- a stream of which nothing is left is passed over
  passed : (feeds : List FeedState) (at : ℕ) (feed : FeedState) → slice_get feeds at ≡ Some feed → left feed ≡ [] → feeds_left streams feeds at ≡ feeds_left streams feeds (at + 1)
  passed feeds at feed is none =
      let p = at_place feeds at feed is in
      ap (λ (fs : List FeedState). round_left (map left (take at feeds)) (map left fs)) p.0
      ∙ (ap (λ (ts : List Turn). round_left (map left (take at feeds)) (ts ∷ map left (drop (at + 1) feeds))) none
      ∙ (skips (map left (take at feeds)) (map left (drop (at + 1) feeds))
      ∙ ap (λ (ls : List (List Turn)). round_left ls (map left (drop (at + 1) feeds)))
      (ap (λ (ts : List Turn). map left (take at feeds) ++ ts ∷ []) (sym none)
      ∙ (sym (map-append left (take at feeds) (feed ∷ [])) ∙ ap (map left) (sym p.1)))))

  first_of : (fs : List FeedState) (n : ℕ) → 0 < n → n ≤ length fs → (f : FeedState) × (slice_get fs 0 ≡ Some f)
  first_of [] n some le = absurd (omega (arith, some, le))
  first_of (f ∷ fs) n some le = (f, refl)

  get_behind : (fs : List FeedState) (at : ℕ) → slice_get (drop at fs) 0 ≡ slice_get fs at
  get_behind [] zero = refl
  get_behind [] (suc at) = refl
  get_behind (f ∷ fs) zero = refl
  get_behind (f ∷ fs) (suc at) = get_behind fs at

  -- several of which nothing is left are passed over
  all_passed : (n at : ℕ) (feeds : List FeedState) → at + n ≤ length feeds → AreDone (take n (drop at feeds)) → feeds_left streams feeds at ≡ feeds_left streams feeds (at + n)
  all_passed zero at feeds le done = let e : at ≡ at + 0 = omega arith in ap (feeds_left streams feeds) e
  all_passed (suc n) at feeds le done =
      let long : length (drop at feeds) ≡ length feeds - at = length-drop at feeds in
      let f = first_of (drop at feeds) 1 (omega arith) (omega (arith, long, le)) in
      let is : slice_get feeds at ≡ Some f.0 = sym (get_behind feeds at) ∙ f.1 in
      let p = at_place feeds at f.0 is in
      let d : AreDone (take (suc n) (f.0 ∷ drop (at + 1) feeds)) = subst (λ (fs : List FeedState). AreDone (take (suc n) fs)) p.0 done in
      let e : at + 1 + n ≡ at + suc n = omega arith in
      passed feeds at f.0 is d.0
      ∙ (all_passed n (at + 1) feeds (omega (arith, le)) d.1 ∙ ap (feeds_left streams feeds) e)

  -- at the end of a round the next one begins
  all_had : (feeds : List FeedState) (at : ℕ) → length feeds ≤ at → feeds_left streams feeds at ≡ feeds_left streams feeds 0
  all_had feeds at le =
      ap₂ (λ (xs ys : List FeedState). round_left (map left xs) (map left ys)) (take_all at feeds le) (drop_all at feeds le)
      ∙ wraps (map left feeds)

  -- none of this round is left
  rest_had : (feeds : List FeedState) (at : ℕ) → ClosedAreDone feeds → AllClosed (drop at feeds) → feeds_left streams feeds at ≡ feeds_left streams feeds 0
  rest_had feeds at done closed = elim (cases_lt at (length feeds)) [
    | inr le ↦ all_had feeds at le
    | inl lt ↦
        let n : ℕ = length feeds - at in
        let long : length (drop at feeds) ≡ n = length-drop at feeds in
        let rest : AreDone (drop at feeds) = all_done feeds (drop at feeds) done (λ f h. subst (In f) (take-append-drop at feeds) (In-append_right f (take at feeds) (drop at feeds) h)) closed in
        let e : at + n ≡ length feeds = omega (arith, lt) in
        all_passed n at feeds (omega (arith, e)) (subst AreDone (sym (take_all n (drop at feeds) (omega (arith, long)))) rest)
        ∙ all_had feeds (at + n) (omega (arith, e))
  ]

  -- the first open stream of this round has the turn
  first_has : (feeds : List FeedState) (at place : ℕ) → ClosedAreDone feeds → IsFirstOpen feeds at (Some place) → feeds_left streams feeds at ≡ feeds_left streams feeds place
  first_has feeds at place done first =
      let lt : place < length feeds = slice_get_within feeds place first.0 first.2 in
      let e : at + (place - at) ≡ place = omega (arith, first.1) in
      let sub : (f : FeedState) → In f (take (place - at) (drop at feeds)) → In f feeds = λ f h.
      subst (In f) (take-append-drop at feeds) (In-append_right f (take at feeds) (drop at feeds)
      (subst (In f) (take-append-drop (place - at) (drop at feeds)) (In-append_left f (take (place - at) (drop at feeds)) (drop (place - at) (drop at feeds)) h))) in
      all_passed (place - at) at feeds (omega (arith, e, lt)) (all_done feeds (take (place - at) (drop at feeds)) done sub first.4)
      ∙ ap (feeds_left streams feeds) e

  -- the stream at the place that has the turn
  pub turn_at : (feeds : List FeedState) (at place : ℕ) → ClosedAreDone feeds → HasTurn feeds at (Some place) → feeds_left streams feeds at ≡ feeds_left streams feeds place
  turn_at feeds at place done (inl first) = first_has feeds at place done first
  turn_at feeds at place done (inr wrapped) = rest_had feeds at done wrapped.0 ∙ first_has feeds 0 place done wrapped.1

  -- no stream has a turn
  pub no_turn : (feeds : List FeedState) (at : ℕ) → ClosedAreDone feeds → AllClosed feeds → feeds_left streams feeds at ≡ []
  no_turn feeds at done closed =
      let all : AreDone feeds = all_done feeds feeds done (λ f h. h) closed in
      rest_had feeds at done (closed_behind at feeds closed)
      ∙ (sym (wraps (map left feeds)) ∙ (ap in_rounds (append-nil (map left feeds)) ∙ none_left (map left feeds) (done_empty feeds all)))
    where
      closed_behind : (at : ℕ) (fs : List FeedState) → AllClosed fs → AllClosed (drop at fs)
      closed_behind zero fs c = c
      closed_behind (suc at) [] c = tt
      closed_behind (suc at) (f ∷ fs) c = closed_behind at fs c.1

  -- its turn was made
  pub turn_made_at : (feeds : List FeedState) (place : ℕ) (feed feed' : FeedState) (t : Turn) → slice_get feeds place ≡ Some feed → left feed ≡ t ∷ left feed'
      → feeds_left streams feeds place ≡ t ∷ feeds_left streams (set feeds place feed') (place + 1)
  turn_made_at feeds place feed feed' t is gave =
      let there : place < length feeds = slice_get_within feeds place feed is in
      let p = at_place feeds place feed is in
      let had : map left (take (place + 1) (set feeds place feed')) ≡ map left (take place feeds) ++ left feed' ∷ [] =
      ap (map left) (take_more_set feeds place feed' there) ∙ map-append left (take place feeds) (feed' ∷ []) in
      let others : map left (drop (place + 1) (set feeds place feed')) ≡ map left (drop (place + 1) feeds) = ap (map left) (drop-set-lt (place + 1) feeds place feed' (omega arith)) in
      ap (λ (fs : List FeedState). round_left (map left (take place feeds)) (map left fs)) p.0
      ∙ (ap (λ (ts : List Turn). round_left (map left (take place feeds)) (ts ∷ map left (drop (place + 1) feeds))) gave
      ∙ (gives (map left (take place feeds)) (map left (drop (place + 1) feeds)) t (left feed')
      ∙ ap (λ (ts : List Turn). t ∷ ts) (sym (ap₂ (λ (xs ys : List (List Turn)). round_left xs ys) had others))))

  -- the next turn is one of the stream that has it
  pub turn_begins : (feeds : List FeedState) (place : ℕ) (feed : FeedState) (t : Turn) (ts : List Turn) → slice_get feeds place ≡ Some feed → left feed ≡ t ∷ ts
      → feeds_left streams feeds place ≡ t ∷ round_left (map left (take place feeds) ++ ts ∷ []) (map left (drop (place + 1) feeds))
  turn_begins feeds place feed t ts is gave =
      let p = at_place feeds place feed is in
      ap (λ (fs : List FeedState). round_left (map left (take place feeds)) (map left fs)) p.0
      ∙ (ap (λ (us : List Turn). round_left (map left (take place feeds)) (us ∷ map left (drop (place + 1) feeds))) gave
      ∙ gives (map left (take place feeds)) (map left (drop (place + 1) feeds)) t ts)
