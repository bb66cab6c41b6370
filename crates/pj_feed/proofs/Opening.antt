-- Files that were opened as those of the streams of a run, and what they leave once they are closed.
use Rattle.pj_shape.specs.declared.columns.Column.{Column}
use Rattle.pj_plan.specs.declared.node.PlanNode.{PlanNode}
use Rattle.pj_plan.specs.Canonical.{no_node}
use Rattle.std.proofs.Common.{◌≡◌, ◌≢◌, ◌≤◌, ◌<◌, ◌+◌, ◌⊎◌, ℕ, zero, suc, Bool, inl, inr, List, [], ◌∷◌, ◌++◌, take, length, get_or, Some, IsTrue, refl, ap, ap₂, sym, ◌∙◌, subst, append-nil, arith}
use Rattle.std.specs.Prelude.{⊤, slice_index_or}
use Rattle.std.specs.List.{slice_get}
use Rattle.std.proofs.lemmas.List.{length-append, take_more}
use Rattle.pj_value.specs.Lists.{In}
use Rattle.pj_value.proofs.Members.{In-append_left, In-append_right, In-append_cases}
use Rattle.pj_io.specs.Causes.{Rose, counted}
use Rattle.pj_io.specs.Folders.{IsFresh, KeepsNames, NoneFalls, SameElsewhere, SameEverywhere}
use Rattle.pj_io.specs.States.{FolderState}
use Rattle.pj_feed.specs.Named.{AreTold, IsAlone, files_named}
use Rattle.pj_feed.specs.Feeds.{FeedState, bytes_of, files_of, AreFeeds, AreNew, AreSameFeeds, AllTold, AreAllTaken}
use Rattle.pj_feed.specs.Opened.{IsFeedOf, AreFeedsOf, AreOpened, AgreeOn, NoneNamed, IsLast, AreCounted, HasLasts, OpensFirst, OpensAtMost, FailsToOpen, IsFaultAt, StayOutside}
use Rattle.pj_feed.proofs.AllFeeds.{all_same}
use Rattle.pj_feed.proofs.Names.{same_or_other}

-- ---- the names under which files are opened

pub opens_one : (first : List ℕ) (names : List (List ℕ)) (old new : FolderState) → IsTrue (new.opened first) → KeepsNames old.opened new.opened → SameElsewhere first old.opened new.opened → OpensFirst 1 (first ∷ names) old new
opens_one first names old new opened keeps others name = (λ t. go (same_or_other name first) t, λ h. back h)
  where
    go : (name ≡ first) ⊎ (name ≢ first) → IsTrue (new.opened name) → IsTrue (old.opened name) ⊎ In name (take 1 (first ∷ names))
    go (inl is) t = inr (inl (sym is))
    go (inr other) t = inl (subst IsTrue (others name other) t)

    back : IsTrue (old.opened name) ⊎ In name (take 1 (first ∷ names)) → IsTrue (new.opened name)
    back (inl t) = keeps name t
    back (inr (inl is)) = subst (λ (n : List ℕ). IsTrue (new.opened n)) is opened
    back (inr (inr h)) = absurd h

-- no file was opened meanwhile
pub opens_still : (count : ℕ) (names : List (List ℕ)) (old mid new : FolderState) → OpensFirst count names old mid → SameEverywhere mid.opened new.opened → OpensFirst count names old new
opens_still count names old mid new first same name = (λ t. (first name).0 (subst IsTrue (same name) t), λ h. subst IsTrue (sym (same name)) ((first name).1 h))

-- no name is lost
pub opens_keep : (count : ℕ) (names : List (List ℕ)) (old new : FolderState) → OpensFirst count names old new → KeepsNames old.opened new.opened
opens_keep count names old new opens name t = (opens name).1 (inl t)

pub opens_own : (name : List ℕ) (names : List (List ℕ)) (old new : FolderState) → OpensFirst 1 (name ∷ names) old new → IsTrue (new.opened name)
opens_own name names old new opens = (opens name).1 (inr (inl refl))

-- a file that was opened under this name and then closed
pub opens_closes : (name : List ℕ) (old mid new : FolderState) → IsTrue (mid.opened name) → KeepsNames old.opened mid.opened → SameElsewhere name old.opened mid.opened → SameEverywhere mid.opened new.opened → OpensFirst 1 (name ∷ []) old new
opens_closes name old mid new opened keeps others same = opens_still 1 (name ∷ []) old mid new (opens_one name [] old mid opened keeps others) same

pub opens_most_one : (names : List (List ℕ)) (old new : FolderState) → OpensFirst 1 names old new → OpensAtMost 1 names old new
opens_most_one names old new opens = (1, omega arith, opens)

-- the files of some first names, and then that of the next
pub opens_then : (i : ℕ) (names : List (List ℕ)) (name : List ℕ) (old mid new : FolderState) → OpensFirst i names old mid → OpensFirst 1 (name ∷ []) mid new → i < length names → name ≡ slice_index_or names i [] → OpensFirst (i + 1) names old new
opens_then i names name old mid new first then low is other = (λ t. from ((then other).0 t), λ h. back h)
  where
    more : take (i + 1) names ≡ take i names ++ name ∷ []
    more = take_more names i [] low ∙ ap (λ (n : List ℕ). take i names ++ n ∷ []) (sym is)

    in_more : In other (take i names ++ name ∷ []) → IsTrue (old.opened other) ⊎ In other (take (i + 1) names)
    in_more h = inr (subst (In other) (sym more) h)

    earlier : IsTrue (old.opened other) ⊎ In other (take i names) → IsTrue (old.opened other) ⊎ In other (take (i + 1) names)
    earlier (inl t) = inl t
    earlier (inr h) = in_more (In-append_left other (take i names) (name ∷ []) h)

    from : IsTrue (mid.opened other) ⊎ In other (name ∷ []) → IsTrue (old.opened other) ⊎ In other (take (i + 1) names)
    from (inl t) = earlier ((first other).0 t)
    from (inr h) = in_more (In-append_right other (take i names) (name ∷ []) h)

    either : In other (take i names) ⊎ In other (name ∷ []) → IsTrue (new.opened other)
    either (inl h) = (then other).1 (inl ((first other).1 (inr h)))
    either (inr h) = (then other).1 (inr h)

    back : IsTrue (old.opened other) ⊎ In other (take (i + 1) names) → IsTrue (new.opened other)
    back (inl t) = (then other).1 (inl ((first other).1 (inl t)))
    back (inr h) = either (In-append_cases other (take i names) (name ∷ []) (subst (In other) more h))

-- the files of some first names, and then no other one
pub opens_no_more : (i : ℕ) (names others : List (List ℕ)) (old mid new : FolderState) → OpensFirst i names old mid → OpensFirst 0 others mid new → OpensFirst i names old new
opens_no_more i names others old mid new first then name = (λ t. from ((then name).0 t), λ h. (then name).1 (inl ((first name).1 h)))
  where
    from : IsTrue (mid.opened name) ⊎ In name [] → IsTrue (old.opened name) ⊎ In name (take i names)
    from (inl t) = (first name).0 t
    from (inr h) = absurd h

-- the file of the next name could not be opened
pub fault_of_next : (i stream : ℕ) (names : List (List ℕ)) (name : List ℕ) (feeds : List FeedState) (old mid new : FolderState) → OpensFirst i names old mid → NoneFalls old.faults mid.faults
    → (stream ≡ i) × FailsToOpen name mid new → i < length names → name ≡ slice_index_or names i [] → length feeds ≡ i → StayOutside (take (i + 1) names) old new → IsFaultAt stream names feeds old new
fault_of_next i stream names name feeds old mid new first falls fails low is count others =
    subst (λ (n : ℕ). IsFaultAt n names feeds old new) (sym fails.0)
    (record {
      there = low;
      before = count;
      opened = opens_no_more i names (name ∷ []) old mid new first fails.1.0;
      rose = subst (λ (n : List ℕ). Rose (old.faults n) (new.faults n)) is (let less = falls name in let rose = fails.1.1 in omega (arith, less, rose));
      others = others;
    })

-- whatever other names there are behind the first
pub opens_most_of : (name : List ℕ) (names all : List (List ℕ)) (old new : FolderState) → all ≡ name ∷ names → OpensAtMost 1 (name ∷ []) old new → OpensAtMost 1 all old new
opens_most_of name names all old new is some = subst (λ (ns : List (List ℕ)). OpensAtMost 1 ns old new) (sym is) (go some.0 some.1 some.2)
  where
    go : (count : ℕ) → count ≤ 1 → OpensFirst count (name ∷ []) old new → OpensAtMost 1 (name ∷ names) old new
    go zero le opens = (0, le, opens)
    go (suc zero) le opens = (1, le, opens)
    go (suc (suc n)) le opens = absurd (omega (arith, le))

-- ---- files that are opened one after the other

one_more : (k i : ℕ) (streams : List PlanNode) (names : List (List ℕ)) (folder : FolderState) (feeds : List FeedState) (schema : List Column) (word : List ℕ) (feed : FeedState)
    → AreFeedsOf k streams names folder feeds → length feeds ≡ i → i < length streams → i < length names → schema ≡ (get_or streams i no_node).schema → word ≡ get_or names i word
    → IsFeedOf (k + i) schema word folder feed → AreFeedsOf k streams names folder (feeds ++ feed ∷ [])
one_more k i [] names folder feeds schema word feed all count low few here named of = absurd (omega (arith, low))
one_more k i (t ∷ ts) [] folder feeds schema word feed all count low few here named of = absurd (omega (arith, few))
one_more k zero (t ∷ ts) (w ∷ ws) folder [] schema word feed all count low few here named of =
    let first : k + 0 ≡ k = omega arith in (
      subst (λ (n : ℕ). IsFeedOf n t.schema w folder feed) first (subst (λ (x : List Column). IsFeedOf (k + 0) x w folder feed) here
          (subst (λ (x : List ℕ). IsFeedOf (k + 0) schema x folder feed) named of)),
      tt,
    )
one_more k zero (t ∷ ts) (w ∷ ws) folder (f ∷ fs) schema word feed all count low few here named of = absurd (omega (arith, count))
one_more k (suc i) (t ∷ ts) (w ∷ ws) folder [] schema word feed all count low few here named of = absurd (omega (arith, count))
one_more k (suc i) (t ∷ ts) (w ∷ ws) folder (f ∷ fs) schema word feed all count low few here named of =
    let next : k + suc i ≡ k + 1 + i = omega arith in (
      all.0,
      one_more (k + 1) i ts ws folder fs schema word feed all.1 (omega (arith, count)) (omega (arith, low)) (omega (arith, few)) here named
          (subst (λ (n : ℕ). IsFeedOf n schema word folder feed) next of),
    )

-- what a folder tells of a file that is opened is what it told before
feed_before : (i : ℕ) (schema : List Column) (name : List ℕ) (old mid : FolderState) (feed : FeedState) → mid.told ≡ old.told → mid.contents ≡ old.contents → IsFeedOf i schema name mid feed → IsFeedOf i schema name old feed
feed_before i schema name old mid feed told contents of = record {
  number = of.number;
  columns = of.columns;
  still = of.still;
  fed = of.fed;
  none = of.none;
  opened = of.opened;
  told = λ t.
      subst (λ (c : List ℕ → List ℕ). IsFresh (c name) feed.source) contents (of.told (subst (λ (b : List ℕ → Bool). IsTrue (b name)) (sym told) t));
}

-- the file of one more name was opened, by a folder that tells the same as before
pub feeds_more : (i : ℕ) (streams : List PlanNode) (names : List (List ℕ)) (old mid : FolderState) (feeds news : List FeedState) (schema : List Column) (word : List ℕ) (name : List ℕ) (feed : FeedState)
    → AreFeedsOf 0 streams names old feeds → length feeds ≡ i → i < length streams → length names ≡ length streams → schema ≡ (get_or streams i no_node).schema → word ≡ get_or names i word → name ≡ word
    → mid.told ≡ old.told → mid.contents ≡ old.contents → IsFeedOf i schema name mid feed → news ≡ feeds ++ feed ∷ [] → AreFeedsOf 0 streams names old news
feeds_more i streams names old mid feeds news schema word name feed all count low each here named is told contents of new =
    let number : i ≡ 0 + i = omega arith in
    subst (λ (fs : List FeedState). AreFeedsOf 0 streams names old fs) (sym new)
    (one_more 0 i streams names old feeds schema word feed all count low (omega (arith, low, each)) here named
    (subst (λ (n : ℕ). IsFeedOf n schema word old feed) number
    (subst (λ (n : List ℕ). IsFeedOf i schema n old feed) is (feed_before i schema name old mid feed told contents of))))

pub count_more : (i : ℕ) (feeds news : List FeedState) (feed : FeedState) → length feeds ≡ i → news ≡ feeds ++ feed ∷ [] → length news ≡ i + 1
count_more i feeds news feed count new = let long = ap length new ∙ length-append feeds (feed ∷ []) in omega (arith, long, count)

opened_last : (opened : List ℕ → Bool) (feeds : List FeedState) (feed : FeedState) → AreOpened opened feeds → IsTrue (opened feed.source.name) → AreOpened opened (feeds ++ feed ∷ [])
opened_last opened [] feed all last = (last, tt)
opened_last opened (f ∷ fs) feed all last = (all.0, opened_last opened fs feed all.1 last)

pub opened_more : (opened : List ℕ → Bool) (feeds news : List FeedState) (feed : FeedState) → AreOpened opened feeds → IsTrue (opened feed.source.name) → news ≡ feeds ++ feed ∷ [] → AreOpened opened news
opened_more opened feeds news feed all last new = subst (AreOpened opened) (sym new) (opened_last opened feeds feed all last)

-- a name that stands at a place
pub word_at : (names : List (List ℕ)) (i : ℕ) (word : List ℕ) → i < length names → word ≡ get_or names i word → word ≡ slice_index_or names i []
word_at [] i word low is = absurd (omega (arith, low))
word_at (w ∷ ws) zero word low is = is
word_at (w ∷ ws) (suc i) word low is = word_at ws i word (omega (arith, low)) is

-- ---- feeds that were just opened

pub feeds_of : (k : ℕ) (streams : List PlanNode) (names : List (List ℕ)) (folder : FolderState) (feeds : List FeedState) → AreFeedsOf k streams names folder feeds → length feeds ≡ length streams → AreFeeds k streams feeds
feeds_of k [] names folder [] all each = tt
feeds_of k [] names folder (f ∷ fs) all each = absurd all
feeds_of k (s ∷ ss) names folder [] all each = absurd (omega (arith, each))
feeds_of k (s ∷ ss) [] folder (f ∷ fs) all each = absurd all
feeds_of k (s ∷ ss) (n ∷ ns) folder (f ∷ fs) all each = (all.0.number, all.0.columns, all.0.fed, feeds_of (k + 1) ss ns folder fs all.1 (omega (arith, each)))

pub new_of : (k : ℕ) (streams : List PlanNode) (names : List (List ℕ)) (folder : FolderState) (feeds : List FeedState) → AreFeedsOf k streams names folder feeds → AreNew feeds
new_of k streams names folder [] all = tt
new_of k [] names folder (f ∷ fs) all = absurd all
new_of k (s ∷ ss) [] folder (f ∷ fs) all = absurd all
new_of k (s ∷ ss) (n ∷ ns) folder (f ∷ fs) all = (all.0.still, all.0.none, new_of (k + 1) ss ns folder fs all.1)

pub told_of : (k : ℕ) (streams : List PlanNode) (names : List (List ℕ)) (folder : FolderState) (feeds : List FeedState) → AreFeedsOf k streams names folder feeds → AreTold names folder → AllTold feeds
told_of k streams names folder [] all told = tt
told_of k [] names folder (f ∷ fs) all told = absurd all
told_of k (s ∷ ss) [] folder (f ∷ fs) all told = absurd all
told_of k (s ∷ ss) (n ∷ ns) folder (f ∷ fs) all told = ((all.0.told told.0).tells, told_of (k + 1) ss ns folder fs all.1 told.1)

-- all bytes of the file that was opened under a name are its contents
bytes_are : (k : ℕ) (schema : List Column) (name : List ℕ) (folder : FolderState) (feed : FeedState) → IsFeedOf k schema name folder feed → IsTrue (folder.told name) → bytes_of feed ≡ folder.contents name
bytes_are k schema name folder feed of told = let fresh = of.told told in ap₂ (λ (xs ys : List ℕ). xs ++ ys) fresh.taken fresh.left

pub files_are : (k : ℕ) (streams : List PlanNode) (names : List (List ℕ)) (folder : FolderState) (feeds : List FeedState) → AreFeedsOf k streams names folder feeds → length feeds ≡ length names → AreTold names folder
    → files_of feeds ≡ files_named names folder
files_are k streams [] folder [] all each told = refl
files_are k streams (n ∷ ns) folder [] all each told = absurd (omega (arith, each))
files_are k [] names folder (f ∷ fs) all each told = absurd all
files_are k (s ∷ ss) [] folder (f ∷ fs) all each told = absurd all
files_are k (s ∷ ss) (n ∷ ns) folder (f ∷ fs) all each told =
    ap₂ (λ (xs : List ℕ) (ys : List (List ℕ)). xs ∷ ys) (bytes_are k s.schema n folder f all.0 told.0) (files_are (k + 1) ss ns folder fs all.1 (omega (arith, each)) told.1)

-- the name of the feed at a place, and its bytes where they are told
pub record IsNamed (names : List (List ℕ)) (i : ℕ) (folder : FolderState) (feed : FeedState) : Type 0 where
  pub there : i < length names
  pub named : feed.source.name ≡ slice_index_or names i []
  pub told : IsTrue (folder.told (slice_index_or names i [])) → IsTrue feed.source.told
  pub bytes : IsTrue (folder.told (slice_index_or names i [])) → bytes_of feed ≡ folder.contents (slice_index_or names i [])

pub named_of : (k : ℕ) (streams : List PlanNode) (names : List (List ℕ)) (folder : FolderState) (feeds : List FeedState) (i : ℕ) (feed : FeedState) → AreFeedsOf k streams names folder feeds → slice_get feeds i ≡ Some feed
    → IsNamed names i folder feed
named_of k streams names folder [] i feed all is = absurd (cc)
named_of k [] names folder (f ∷ fs) i feed all is = absurd all
named_of k (s ∷ ss) [] folder (f ∷ fs) i feed all is = absurd all
named_of k (s ∷ ss) (n ∷ ns) folder (f ∷ fs) zero feed all is =
    let same : f ≡ feed = cc is in
    subst (IsNamed (n ∷ ns) 0 folder) same (record { there = omega arith; named = all.0.opened.named; told = λ t. (all.0.told t).tells; bytes = λ t. bytes_are k s.schema n folder f all.0 t })
named_of k (s ∷ ss) (n ∷ ns) folder (f ∷ fs) (suc i) feed all is =
    let r = named_of (k + 1) ss ns folder fs i feed all.1 is in
    let low = r.there in record { there = omega (arith, low); named = r.named; told = r.told; bytes = r.bytes }

-- ---- feeds of these names

-- the files of these feeds were opened under the first of these names
abbrev pub AreNamed : List FeedState → List (List ℕ) → Type 0
AreNamed [] names = ⊤
AreNamed (feed ∷ feeds) [] = ⊥
AreNamed (feed ∷ feeds) (name ∷ names) = (feed.source.name ≡ name) × AreNamed feeds names

pub named_still : (k : ℕ) (streams : List PlanNode) (names : List (List ℕ)) (folder : FolderState) (olds news : List FeedState) → AreFeedsOf k streams names folder olds → AreSameFeeds olds news → AreNamed news names
named_still k streams names folder [] [] all same = tt
named_still k streams names folder [] (g ∷ gs) all same = absurd same
named_still k streams names folder (f ∷ fs) [] all same = absurd same
named_still k [] names folder (f ∷ fs) (g ∷ gs) all same = absurd all
named_still k (s ∷ ss) [] folder (f ∷ fs) (g ∷ gs) all same = absurd all
named_still k (s ∷ ss) (n ∷ ns) folder (f ∷ fs) (g ∷ gs) all same = (same.0.name ∙ all.0.opened.named, named_still (k + 1) ss ns folder fs gs all.1 same.1)

named_at : (feeds : List FeedState) (names : List (List ℕ)) (i : ℕ) (feed : FeedState) → AreNamed feeds names → slice_get feeds i ≡ Some feed → (i < length names) × (feed.source.name ≡ slice_index_or names i [])
named_at [] names i feed all is = absurd (cc)
named_at (f ∷ fs) [] i feed all is = absurd all
named_at (f ∷ fs) (n ∷ ns) zero feed all is = let same : feed ≡ f = cc is in (omega arith, ap (λ (g : FeedState). g.source.name) same ∙ all.0)
named_at (f ∷ fs) (n ∷ ns) (suc i) feed all is = let r = named_at fs ns i feed all.1 is in (let low = r.0 in omega (arith, low), r.1)

-- one of these has the name
some_named : (name : List ℕ) (feeds : List FeedState) (i : ℕ) (feed : FeedState) → slice_get feeds i ≡ Some feed → feed.source.name ≡ name → NoneNamed name feeds → ⊥
some_named name [] i feed is named none = absurd (cc)
some_named name (f ∷ fs) zero feed is named none = let same : f ≡ feed = cc is in none.0 (ap (λ (g : FeedState). g.source.name) same ∙ named)
some_named name (f ∷ fs) (suc i) feed is named none = some_named name fs i feed is named none.1

-- where a name stands at none of their places, none of these has it
none_named : (name : List ℕ) (feeds : List FeedState) (names : List (List ℕ)) → AreNamed feeds names → ((place : ℕ) → place < length feeds → place < length names → slice_index_or names place [] ≢ name) → NoneNamed name feeds
none_named name [] names named others = tt
none_named name (f ∷ fs) [] named others = absurd named
none_named name (f ∷ fs) (n ∷ ns) named others =
    (λ e. others 0 (omega arith) (omega arith) (sym named.0 ∙ e), none_named name fs ns named.1 (λ place few low. others (suc place) (omega (arith, few)) (omega (arith, low))))

-- where no other place has the name of a place, none before it has the name
pub none_before : (k : ℕ) (streams : List PlanNode) (names : List (List ℕ)) (folder : FolderState) (feeds : List FeedState) (i : ℕ) → AreFeedsOf k streams names folder feeds → length feeds ≡ i → IsAlone i names
    → NoneNamed (slice_index_or names i []) feeds
none_before k streams names folder feeds i all count alone =
    none_named (slice_index_or names i []) feeds names (named_still k streams names folder feeds feeds all (all_same feeds))
    (λ place few low. alone place low (λ e. omega (arith, few, count, e)))

pub agree_none : (name : List ℕ) (taken : ℕ) (feeds : List FeedState) → NoneNamed name feeds → AgreeOn name taken feeds
agree_none name taken [] none = tt
agree_none name taken (f ∷ fs) none = (λ e. absurd (none.0 e), agree_none name taken fs none.1)

-- a name behind the first that no other place has: the first is another, and no other place behind it has the name
pub first_other : (i : ℕ) (name : List ℕ) (names : List (List ℕ)) → IsAlone (suc i) (name ∷ names) → name ≢ slice_index_or names i []
first_other i name names alone = alone 0 (omega arith) (λ e. omega (arith, e))

pub alone_behind : (i : ℕ) (name : List ℕ) (names : List (List ℕ)) → IsAlone (suc i) (name ∷ names) → IsAlone i names
alone_behind i name names alone other low unlike = alone (suc other) (omega (arith, low)) (λ e. unlike (omega (arith, e)))

-- where no other place has the name of a place, only one file has it
agree_at : (feeds : List FeedState) (names : List (List ℕ)) (i : ℕ) (feed : FeedState) → AreNamed feeds names → IsAlone i names → AllTold feeds → slice_get feeds i ≡ Some feed
    → AgreeOn (slice_index_or names i []) (length feed.source.taken) feeds
agree_at [] names i feed named alone told is = absurd (cc)
agree_at (f ∷ fs) [] i feed named alone told is = absurd named
agree_at (f ∷ fs) (n ∷ ns) zero feed named alone told is =
    let same : f ≡ feed = cc is in
    let none : NoneNamed n fs = none_named n fs ns named.1 (λ place few low. alone (suc place) (omega (arith, low)) (λ e. omega (arith, e))) in
    (λ e. (told.0, ap (λ (g : FeedState). length g.source.taken) same), agree_none n (length feed.source.taken) fs none)
agree_at (f ∷ fs) (n ∷ ns) (suc i) feed named alone told is =
    (λ e. absurd (first_other i n ns alone (sym named.0 ∙ e)), agree_at fs ns i feed named.1 (alone_behind i n ns alone) told.1 is)

-- so many bytes were taken from the file of this name that was closed last
pub last_at_fault : (k : ℕ) (streams : List PlanNode) (names : List (List ℕ)) (folder : FolderState) (olds news : List FeedState) (i : ℕ) (feed : FeedState) (before now : List ℕ → ℕ) → AreFeedsOf k streams names folder olds
    → AreSameFeeds olds news → AllTold news → IsAlone i names → slice_get news i ≡ Some feed → HasLasts news before now → now (slice_index_or names i []) ≡ length feed.source.taken
last_at_fault k streams names folder olds news i feed before now all same told alone is lasts = go (lasts name (length feed.source.taken) (agree_at news names i feed named alone told is))
  where
    name : List ℕ
    name = slice_index_or names i []

    named : AreNamed news names
    named = named_still k streams names folder olds news all same

    go : IsLast name (length feed.source.taken) news (before name) (now name) → now name ≡ length feed.source.taken
    go (inl last) = last
    go (inr other) = absurd (some_named name news i feed is (named_at news names i feed named is).1 other.1)

-- ---- feeds that were read to their ends

-- where a name is told, all bytes were taken from each file of it
agree_read : (k : ℕ) (streams : List PlanNode) (names : List (List ℕ)) (folder : FolderState) (olds news : List FeedState) (name : List ℕ) → AreFeedsOf k streams names folder olds → AreSameFeeds olds news → AreAllTaken news
    → IsTrue (folder.told name) → AgreeOn name (length (folder.contents name)) news
agree_read k streams names folder [] [] name all same taken told = tt
agree_read k streams names folder [] (g ∷ gs) name all same taken told = absurd same
agree_read k streams names folder (f ∷ fs) [] name all same taken told = absurd same
agree_read k [] names folder (f ∷ fs) (g ∷ gs) name all same taken told = absurd all
agree_read k (s ∷ ss) [] folder (f ∷ fs) (g ∷ gs) name all same taken told = absurd all
agree_read k (s ∷ ss) (n ∷ ns) folder (f ∷ fs) (g ∷ gs) name all same taken told = (λ e. own e, agree_read (k + 1) ss ns folder fs gs name all.1 same.1 taken.1 told)
  where
    own : g.source.name ≡ name → IsTrue g.source.told × (length g.source.taken ≡ length (folder.contents name))
    own e =
        let is : n ≡ name = sym (same.0.name ∙ all.0.opened.named) ∙ e in
        let here : IsTrue (folder.told n) = subst (λ (m : List ℕ). IsTrue (folder.told m)) (sym is) told in
        let old_told : IsTrue f.source.told = (all.0.told here).tells in
        let new_told : IsTrue g.source.told = subst IsTrue (sym same.0.told) old_told in
        let bytes : bytes_of g ≡ folder.contents n = same.0.bytes old_told ∙ bytes_are k s.schema n folder f all.0 here in
        let none : bytes_of g ≡ g.source.taken = ap (λ (xs : List ℕ). g.source.taken ++ xs) (taken.0 new_told) ∙ append-nil g.source.taken in
        (new_told, ap length (sym none ∙ (bytes ∙ ap folder.contents is)))

-- what holds of each name that is told once these files are closed
pub last_read : (k : ℕ) (streams : List PlanNode) (names : List (List ℕ)) (folder : FolderState) (olds news : List FeedState) (before now : List ℕ → ℕ) (name : List ℕ) → AreFeedsOf k streams names folder olds → AreSameFeeds olds news
    → AreAllTaken news → HasLasts news before now → IsTrue (folder.told name) → IsLast name (length (folder.contents name)) news (before name) (now name)
last_read k streams names folder olds news before now name all same taken lasts told = lasts name (length (folder.contents name)) (agree_read k streams names folder olds news name all same taken told)

-- a name whose file was read to its end before stays one
pub keeps_of : (k : ℕ) (streams : List PlanNode) (names : List (List ℕ)) (folder : FolderState) (olds news : List FeedState) (before now : List ℕ → ℕ) (name : List ℕ) → AreFeedsOf k streams names folder olds → AreSameFeeds olds news
    → AreAllTaken news → HasLasts news before now → IsTrue (folder.told name) → before name ≡ length (folder.contents name) → now name ≡ length (folder.contents name)
keeps_of k streams names folder olds news before now name all same taken lasts told had = go (last_read k streams names folder olds news before now name all same taken lasts told)
  where
    go : IsLast name (length (folder.contents name)) news (before name) (now name) → now name ≡ length (folder.contents name)
    go (inl last) = last
    go (inr other) = other.0 ∙ had

-- ---- faults

-- where a file had a fault, the faults of its name rose
pub rose_at : (before now : List ℕ → ℕ) (feeds : List FeedState) (i : ℕ) (feed : FeedState) → AreCounted before now feeds → slice_get feeds i ≡ Some feed → 1 ≤ feed.source.faults → Rose (before feed.source.name) (now feed.source.name)
rose_at before now [] i feed counts is some = absurd (cc)
rose_at before now (f ∷ fs) zero feed counts is some =
    let same : f ≡ feed = cc is in
    let more : counted (before feed.source.name) feed.source.faults ≤ now feed.source.name = subst (λ (g : FeedState). counted (before g.source.name) g.source.faults ≤ now g.source.name) same counts.0 in
    omega (arith, more, some)
rose_at before now (f ∷ fs) (suc i) feed counts is some = rose_at before now fs i feed counts.1 is some
