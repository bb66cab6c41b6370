-- Lists of feeds: what one of them shows of all, and what a turn of one leaves.
use Rattle.pj_plan.specs.declared.node.PlanNode.{PlanNode}
use Rattle.pj_plan.specs.Nodes.{stream_columns}
use Rattle.std.proofs.Common.{◌≡◌, ℕ, zero, suc, ◌+◌, ◌<◌, Bool, true, false, List, [], ◌∷◌, ◌++◌, map, length, drop, get_or, set, refl, ap, ap₂, sym, ◌∙◌, subst, arith, Some, inl, inr, IsTrue, zero-add}
use Rattle.std.specs.List.{slice_get}
use Rattle.pj_value.specs.Lists.{In}
use Rattle.pj_shape.specs.declared.columns.Column.{Column}
use Rattle.pj_element.specs.declared.tally.Tally.{Tally}
use Rattle.pj_element.specs.Accepted.{taken_of, fates_of, tally_of}
use Rattle.pj_events.specs.OneThread.{Turn}
use Rattle.pj_laws.proofs.Rounds.{AreTagged}
use Rattle.pj_pattern.specs.declared.element.Element.{Element}
use Rattle.pj_feed.specs.Feeds.{FeedState, bytes_of, all_accepted, count_of, work_of, work_in, IsFed, IsSameFeed, AreFeeds, AreNew, AreSameFeeds, AllTold, AllClosed, AreAllTaken, files_of, tallies_in, tallies_of, feed_left, brought, closes}
use Rattle.pj_feed.specs.Opened.{AreOpened}
use Rattle.pj_feed.specs.Feeds.{accepted_of}
use Rattle.pj_feed.proofs.FeedFacts.{nothing_left_of, whole_tally}

-- ---- one of them

-- what holds of the feed at a place
pub record IsOneOf (streams : List PlanNode) (number : ℕ) (place : ℕ) (feed : FeedState) : Type 0 where
  pub there : place < length streams
  pub is_number : feed.stream ≡ number
  pub schema : feed.intake.columns ≡ stream_columns streams place
  pub fed : IsFed feed

pub one_of : (k : ℕ) (streams : List PlanNode) (feeds : List FeedState) (place : ℕ) (feed : FeedState) → AreFeeds k streams feeds → slice_get feeds place ≡ Some feed → IsOneOf streams (k + place) place feed
one_of k [] [] place feed all is = absurd (cc)
one_of k [] (f ∷ fs) place feed all is = absurd all
one_of k (s ∷ ss) [] place feed all is = absurd all
one_of k (s ∷ ss) (f ∷ fs) zero feed all is =
    let same : f ≡ feed = cc is in
    let e : k ≡ k + 0 = omega arith in
    subst (IsOneOf (s ∷ ss) (k + 0) 0) same (record { there = omega arith; is_number = all.0 ∙ e; schema = all.1; fed = all.2 })
one_of k (s ∷ ss) (f ∷ fs) (suc place) feed all is =
    let r = one_of (k + 1) ss fs place feed all.3 is in
    let e : k + 1 + place ≡ k + suc place = omega arith in
    record { there = omega (arith, r.there); is_number = r.is_number ∙ e; schema = r.schema; fed = r.fed }

pub told_at : (feeds : List FeedState) (place : ℕ) (feed : FeedState) → AllTold feeds → slice_get feeds place ≡ Some feed → IsTrue feed.source.told
told_at [] place feed all is = absurd (cc)
told_at (f ∷ fs) zero feed all is = let same : f ≡ feed = cc is in subst (λ (g : FeedState). IsTrue g.source.told) same all.0
told_at (f ∷ fs) (suc place) feed all is = told_at fs place feed all.1 is

told_in : (feeds : List FeedState) (feed : FeedState) → AllTold feeds → In feed feeds → IsTrue feed.source.told
told_in [] feed all h = absurd h
told_in (f ∷ fs) feed all (inl same) = subst (λ (g : FeedState). IsTrue g.source.told) same all.0
told_in (f ∷ fs) feed all (inr h) = told_in fs feed all.1 h

fed_in : (k : ℕ) (streams : List PlanNode) (feeds : List FeedState) (feed : FeedState) → AreFeeds k streams feeds → In feed feeds → IsFed feed
fed_in k [] [] feed all h = absurd h
fed_in k [] (f ∷ fs) feed all h = absurd all
fed_in k (s ∷ ss) [] feed all h = absurd all
fed_in k (s ∷ ss) (f ∷ fs) feed all (inl same) = subst IsFed same all.2
fed_in k (s ∷ ss) (f ∷ fs) feed all (inr h) = fed_in (k + 1) ss fs feed all.3 h

pub feeds_long : (k : ℕ) (streams : List PlanNode) (feeds : List FeedState) → AreFeeds k streams feeds → length feeds ≡ length streams
feeds_long k [] [] all = refl
feeds_long k [] (f ∷ fs) all = absurd all
feeds_long k (s ∷ ss) [] all = absurd all
feeds_long k (s ∷ ss) (f ∷ fs) all = ap suc (feeds_long (k + 1) ss fs all.3)

-- nothing is left of a stream whose closing had its turn
pub closed_done : (streams : List PlanNode) (k : ℕ) (some : List PlanNode) (feeds : List FeedState) → AreFeeds k some feeds → AllTold feeds → (f : FeedState) → In f feeds → f.is_open ≡ false → feed_left streams f ≡ []
closed_done streams k some feeds all told f h closed =
    let fed = fed_in k some feeds f all h in
    rw (nothing_left_of f fed (fed.closed closed) (told_in feeds f told h)) (rw closed refl)

-- ---- a turn of one of them

same_one : (feed : FeedState) → IsSameFeed feed feed
same_one feed = record { stream = refl; columns = refl; told = refl; name = refl; faults = omega arith; bytes = λ t. refl }

pub all_same : (feeds : List FeedState) → AreSameFeeds feeds feeds
all_same [] = tt
all_same (f ∷ fs) = (same_one f, all_same fs)

pub same_then : (f g h : FeedState) → IsSameFeed f g → IsSameFeed g h → IsSameFeed f h
same_then f g h a b = record {
  stream = b.stream ∙ a.stream;
  columns = b.columns ∙ a.columns;
  told = b.told ∙ a.told;
  name = b.name ∙ a.name;
  faults = omega (arith, a.faults, b.faults);
  bytes = λ t. b.bytes (subst IsTrue (sym a.told) t) ∙ a.bytes t;
}

pub all_same_then : (fs gs hs : List FeedState) → AreSameFeeds fs gs → AreSameFeeds gs hs → AreSameFeeds fs hs
all_same_then [] [] [] a b = tt
all_same_then [] [] (h ∷ hs) a b = absurd b
all_same_then [] (g ∷ gs) hs a b = absurd a
all_same_then (f ∷ fs) [] hs a b = absurd a
all_same_then (f ∷ fs) (g ∷ gs) [] a b = absurd b
all_same_then (f ∷ fs) (g ∷ gs) (h ∷ hs) a b = (same_then f g h a.0 b.0, all_same_then fs gs hs a.1 b.1)

-- the feed at a place is put in place of another one of the same stream
pub same_set : (feeds : List FeedState) (place : ℕ) (feed feed' : FeedState) → slice_get feeds place ≡ Some feed → IsSameFeed feed feed' → AreSameFeeds feeds (set feeds place feed')
same_set [] place feed feed' is same = absurd (cc)
same_set (f ∷ fs) zero feed feed' is same = let e : feed ≡ f = cc is in (subst (λ (g : FeedState). IsSameFeed g feed') e same, all_same fs)
same_set (f ∷ fs) (suc place) feed feed' is same = (same_one f, same_set fs place feed feed' is same)

pub feeds_set : (k : ℕ) (streams : List PlanNode) (feeds : List FeedState) (place : ℕ) (feed feed' : FeedState) → AreFeeds k streams feeds → slice_get feeds place ≡ Some feed → IsSameFeed feed feed' → IsFed feed'
    → AreFeeds k streams (set feeds place feed')
feeds_set k [] [] place feed feed' all is same fed = absurd (cc)
feeds_set k [] (f ∷ fs) place feed feed' all is same fed = absurd all
feeds_set k (s ∷ ss) [] place feed feed' all is same fed = absurd all
feeds_set k (s ∷ ss) (f ∷ fs) zero feed feed' all is same fed =
    let e : feed ≡ f = cc is in
    (same.stream ∙ (ap (λ (g : FeedState). g.stream) e ∙ all.0), same.columns ∙ (ap (λ (g : FeedState). g.intake.columns) e ∙ all.1), fed, all.3)
feeds_set k (s ∷ ss) (f ∷ fs) (suc place) feed feed' all is same fed = (all.0, all.1, all.2, feeds_set (k + 1) ss fs place feed feed' all.3 is same fed)

pub works_set : (feeds : List FeedState) (place : ℕ) (feed feed' : FeedState) → slice_get feeds place ≡ Some feed → work_of feed' < work_of feed → work_in (set feeds place feed') < work_in feeds
works_set [] place feed feed' is lt = absurd (cc)
works_set (f ∷ fs) zero feed feed' is lt =
    let same : feed ≡ f = cc is in
    let e : work_of feed ≡ work_of f = ap work_of same in omega (arith, lt, e)
works_set (f ∷ fs) (suc place) feed feed' is lt = let r = works_set fs place feed feed' is lt in omega (arith, r)

pub get_set : (feeds : List FeedState) (place : ℕ) (feed feed' : FeedState) → slice_get feeds place ≡ Some feed → slice_get (set feeds place feed') place ≡ Some feed'
get_set [] place feed feed' is = absurd (cc)
get_set (f ∷ fs) zero feed feed' is = refl
get_set (f ∷ fs) (suc place) feed feed' is = get_set fs place feed feed' is

-- ---- what stays

pub told_still : (olds news : List FeedState) → AreSameFeeds olds news → AllTold olds → AllTold news
told_still [] [] same told = tt
told_still [] (n ∷ ns) same told = absurd same
told_still (o ∷ os) [] same told = absurd same
told_still (o ∷ os) (n ∷ ns) same told = (subst IsTrue (sym same.0.told) told.0, told_still os ns same.1 told.1)

pub files_still : (olds news : List FeedState) → AreSameFeeds olds news → AllTold olds → files_of news ≡ files_of olds
files_still [] [] same told = refl
files_still [] (n ∷ ns) same told = absurd same
files_still (o ∷ os) [] same told = absurd same
files_still (o ∷ os) (n ∷ ns) same told = ap₂ (λ (b : List ℕ) (bs : List (List ℕ)). b ∷ bs) (same.0.bytes told.0) (files_still os ns same.1 told.1)

-- ---- the end

-- all closings had their turns: all bytes were taken, and the tallies are those of the files
pub all_taken : (k : ℕ) (streams : List PlanNode) (feeds : List FeedState) → AreFeeds k streams feeds → AllClosed feeds → AreAllTaken feeds
all_taken k [] [] all closed = tt
all_taken k [] (f ∷ fs) all closed = absurd all
all_taken k (s ∷ ss) [] all closed = absurd all
all_taken k (s ∷ ss) (f ∷ fs) all closed = let end = all.2.closed closed.0 in (λ told. all.2.at_end end.0 told, all_taken (k + 1) ss fs all.3 closed.1)

pub all_tallied : (k : ℕ) (streams : List PlanNode) (feeds : List FeedState) → AreFeeds k streams feeds → AllClosed feeds → AllTold feeds → tallies_in feeds ≡ tallies_of streams (files_of feeds)
all_tallied k [] [] all closed told = refl
all_tallied k [] (f ∷ fs) all closed told = absurd all
all_tallied k (s ∷ ss) [] all closed told = absurd all
all_tallied k (s ∷ ss) (f ∷ fs) all closed told =
    ap₂ (λ (t : Tally) (ts : List Tally). t ∷ ts)
    (whole_tally f all.2 (all.2.closed closed.0) told.0 ∙ ap (λ (ks : List Column). tally_of (fates_of ks (bytes_of f))) all.1)
    (all_tallied (k + 1) ss fs all.3 closed.1 told.1)

-- ---- the beginning

-- all turns of a stream are left
pub first_left : (all : List PlanNode) (k : ℕ) (streams : List PlanNode) (feeds : List FeedState) (i : ℕ) → AreFeeds k streams feeds → AreNew feeds → i < length feeds
    → get_or (map (feed_left all) feeds) i [] ≡ brought all (k + i) (get_or (accepted_of streams (files_of feeds)) i []) ++ closes all (k + i) true
first_left all k [] [] i fed new lt = absurd (omega (arith, lt))
first_left all k [] (f ∷ fs) i fed new lt = absurd fed
first_left all k (s ∷ ss) [] i fed new lt = absurd fed
first_left all k (s ∷ ss) (f ∷ fs) zero fed new lt =
    let e : k ≡ k + 0 = omega arith in
    rw new.0 (rw new.1 (rw fed.1 (ap (λ (n : ℕ). brought all n (taken_of (fates_of s.schema (bytes_of f))) ++ closes all n true) (fed.0 ∙ e))))
first_left all k (s ∷ ss) (f ∷ fs) (suc i) fed new lt =
    let e : k + 1 + i ≡ k + suc i = omega arith in
    first_left all (k + 1) ss fs i fed.3 new.2 (omega (arith, lt))
    ∙ ap (λ (n : ℕ). brought all n (get_or (accepted_of ss (files_of fs)) i []) ++ closes all n true) e

-- the turns that are left of the feeds are those of their streams
pub left_tagged : (all : List PlanNode) (k : ℕ) (streams : List PlanNode) (feeds : List FeedState) → AreFeeds k streams feeds → AreTagged k (map (feed_left all) feeds)
left_tagged all k [] [] fed = tt
left_tagged all k [] (f ∷ fs) fed = absurd fed
left_tagged all k (s ∷ ss) [] fed = absurd fed
left_tagged all k (s ∷ ss) (f ∷ fs) fed = (λ t h. turn_is f (drop (count_of f) (all_accepted f)) t h ∙ fed.0, left_tagged all (k + 1) ss fs fed.3)
  where
    closing_is : (stream : ℕ) (b : Bool) (t : Turn) → In t (closes all stream b) → t.stream ≡ stream
    closing_is stream true t (inl q) = sym (ap (λ (u : Turn). u.stream) q)
    closing_is stream true t (inr h) = absurd h
    closing_is stream false t h = absurd h

    turn_is : (f : FeedState) (es : List Element) (t : Turn) → In t (brought all f.stream es ++ closes all f.stream f.is_open) → t.stream ≡ f.stream
    turn_is f [] t h = closing_is f.stream f.is_open t h
    turn_is f (e ∷ es) t (inl q) = sym (ap (λ (u : Turn). u.stream) q)
    turn_is f (e ∷ es) t (inr h) = turn_is f es t h

tagged_split : (k : ℕ) (xs ys : List (List Turn)) → AreTagged k (xs ++ ys) → AreTagged k xs × AreTagged (k + length xs) ys
tagged_split k [] ys t = let e : k ≡ k + 0 = omega arith in (tt, subst (λ (n : ℕ). AreTagged n ys) e t)
tagged_split k (x ∷ xs) ys t =
    let r = tagged_split (k + 1) xs ys t.1 in
    let e : k + 1 + length xs ≡ k + suc (length xs) = omega arith in
    ((t.0, r.0), subst (λ (n : ℕ). AreTagged n ys) e r.1)

pub tagged_parts : (xs ys : List (List Turn)) → AreTagged 0 (xs ++ ys) → AreTagged 0 xs × AreTagged (length xs) ys
tagged_parts xs ys t = let r = tagged_split 0 xs ys t in (r.0, subst (λ (n : ℕ). AreTagged n ys) (zero-add (length xs)) r.1)

-- what is accepted of the file of one of the streams
pub accepted_of_feed : (k : ℕ) (streams : List PlanNode) (feeds : List FeedState) (place : ℕ) (feed : FeedState) → AreFeeds k streams feeds → slice_get feeds place ≡ Some feed
    → get_or (accepted_of streams (files_of feeds)) place [] ≡ all_accepted feed
accepted_of_feed k [] [] place feed f is = absurd (cc)
accepted_of_feed k [] (g ∷ gs) place feed f is = absurd f
accepted_of_feed k (s ∷ ss) [] place feed f is = absurd f
accepted_of_feed k (s ∷ ss) (g ∷ gs) zero feed f is =
    let e : g ≡ feed = cc is in
    ap (λ (ks : List Column). taken_of (fates_of ks (bytes_of g))) (sym f.1) ∙ ap all_accepted e
accepted_of_feed k (s ∷ ss) (g ∷ gs) (suc place) feed f is = accepted_of_feed (k + 1) ss gs place feed f.3 is

pub bytes_of_feed : (feeds : List FeedState) (place : ℕ) (feed : FeedState) → slice_get feeds place ≡ Some feed → get_or (files_of feeds) place [] ≡ bytes_of feed
bytes_of_feed [] place feed is = absurd (cc)
bytes_of_feed (g ∷ gs) zero feed is = let e : g ≡ feed = cc is in ap bytes_of e
bytes_of_feed (g ∷ gs) (suc place) feed is = bytes_of_feed gs place feed is

-- ---- the same feeds later

pub opened_same : (opened : List ℕ → Bool) (olds news : List FeedState) → AreSameFeeds olds news → AreOpened opened olds → AreOpened opened news
opened_same opened [] [] same o = tt
opened_same opened [] (n ∷ ns) same o = absurd same
opened_same opened (x ∷ xs) [] same o = absurd same
opened_same opened (x ∷ xs) (n ∷ ns) same o = (subst (λ (m : List ℕ). IsTrue (opened m)) (sym same.0.name) o.0, opened_same opened xs ns same.1 o.1)

pub same_at : (olds news : List FeedState) (k : ℕ) (new : FeedState) → AreSameFeeds olds news → slice_get news k ≡ Some new → (old : FeedState) × (slice_get olds k ≡ Some old) × IsSameFeed old new
same_at [] [] k new same is = absurd (cc)
same_at [] (n ∷ ns) k new same is = absurd same
same_at (x ∷ xs) [] k new same is = absurd same
same_at (x ∷ xs) (n ∷ ns) zero new same is = let e : n ≡ new = cc is in (x, refl, subst (IsSameFeed x) e same.0)
same_at (x ∷ xs) (n ∷ ns) (suc k) new same is = same_at xs ns k new same.1 is

pub same_long : (olds news : List FeedState) → AreSameFeeds olds news → length news ≡ length olds
same_long [] [] same = refl
same_long [] (n ∷ ns) same = absurd same
same_long (x ∷ xs) [] same = absurd same
same_long (x ∷ xs) (n ∷ ns) same = ap suc (same_long xs ns same.1)
