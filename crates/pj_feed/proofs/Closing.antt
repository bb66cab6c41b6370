-- Files that are closed one after the other, and what that leaves of their folder.
use Rattle.std.proofs.Common.{◌≡◌, ◌≢◌, ◌≤◌, ℕ, Bool, ◌⊎◌, inl, inr, List, [], ◌∷◌, ◌++◌, length, Result, Ok, Err, IfOk, IsOk, IsTrue, refl, ap, sym, ◌∙◌, subst, append_assoc, append-nil, arith}
use Rattle.std.proofs.lemmas.Bool.{false≢true}
use Rattle.pj_io.specs.Causes.{counted}
use Rattle.pj_io.specs.Folders.{KeepsNames, NoneFalls, SameElsewhere, SameEverywhere}
use Rattle.pj_io.specs.States.{FolderState, SourceState}
use Rattle.pj_element.specs.declared.tally.Tally.{Tally}
use Rattle.pj_feed.specs.Feeds.{FeedState, tallies_in}
use Rattle.pj_feed.specs.Opened.{AreOpened, AgreeOn, NoneNamed, IsLast, AreCounted, HasLasts, names_in, StayOutside}
use Rattle.pj_feed.proofs.Names.{same_or_other}
use Rattle.pj_feed.proofs.Outside.{stay_then, stay_elsewhere, name_behind}

-- ---- the names

pub opened_still : (before now : List ℕ → Bool) (feeds : List FeedState) → KeepsNames before now → AreOpened before feeds → AreOpened now feeds
opened_still before now [] keeps opened = tt
opened_still before now (f ∷ fs) keeps opened = (keeps f.source.name opened.0, opened_still before now fs keeps opened.1)

-- where none was opened meanwhile
pub keeps_same : (before now : List ℕ → Bool) → SameEverywhere before now → KeepsNames before now
keeps_same before now same name t = subst IsTrue (sym (same name)) t

-- ---- the bytes taken

agree_parts : (name : List ℕ) (taken : ℕ) (feeds : List FeedState) (feed : FeedState) → AgreeOn name taken (feeds ++ feed ∷ [])
    → AgreeOn name taken feeds × (feed.source.name ≡ name → IsTrue feed.source.told × (length feed.source.taken ≡ taken))
agree_parts name taken [] feed agree = (tt, agree.0)
agree_parts name taken (f ∷ fs) feed agree = let r = agree_parts name taken fs feed agree.1 in ((agree.0, r.0), r.1)

none_more : (name : List ℕ) (feeds : List FeedState) (feed : FeedState) → NoneNamed name feeds → feed.source.name ≢ name → NoneNamed name (feeds ++ feed ∷ [])
none_more name [] feed none other = (other, tt)
none_more name (f ∷ fs) feed none other = (none.0, none_more name fs feed none.1 other)

lasts_more : (feeds : List FeedState) (feed : FeedState) (before mid now : List ℕ → ℕ) → HasLasts feeds before mid → (IsTrue feed.source.told → now feed.source.name ≡ length feed.source.taken) → SameElsewhere feed.source.name mid now
    → HasLasts (feeds ++ feed ∷ []) before now
lasts_more feeds feed before mid now lasts closed others name taken agree = go (same_or_other name feed.source.name)
  where
    parts : AgreeOn name taken feeds × (feed.source.name ≡ name → IsTrue feed.source.told × (length feed.source.taken ≡ taken))
    parts = agree_parts name taken feeds feed agree

    other_last : name ≢ feed.source.name → IsLast name taken feeds (before name) (mid name) → IsLast name taken (feeds ++ feed ∷ []) (before name) (now name)
    other_last other (inl is) = inl (others name other ∙ is)
    other_last other (inr is) = inr (others name other ∙ is.0, none_more name feeds feed is.1 (λ e. other (sym e)))

    go : (name ≡ feed.source.name) ⊎ (name ≢ feed.source.name) → IsLast name taken (feeds ++ feed ∷ []) (before name) (now name)
    go (inl is) = let own = parts.1 (sym is) in inl (ap now is ∙ (closed own.0 ∙ own.1))
    go (inr other) = other_last other (lasts name taken parts.0)

-- ---- the faults

counted_still : (before mid now : List ℕ → ℕ) (feeds : List FeedState) → AreCounted before mid feeds → NoneFalls mid now → AreCounted before now feeds
counted_still before mid now [] counts later = tt
counted_still before mid now (f ∷ fs) counts later = (let up = later f.source.name in let c = counts.0 in omega (arith, up, c), counted_still before mid now fs counts.1 later)

counted_last : (before now : List ℕ → ℕ) (feeds : List FeedState) (feed : FeedState) → AreCounted before now feeds → counted (before feed.source.name) feed.source.faults ≤ now feed.source.name → AreCounted before now (feeds ++ feed ∷ [])
counted_last before now [] feed counts last = (last, tt)
counted_last before now (f ∷ fs) feed counts last = (counts.0, counted_last before now fs feed counts.1 last)

counts_more : (before mid now : List ℕ → ℕ) (feeds : List FeedState) (feed : FeedState) → AreCounted before mid feeds → NoneFalls before mid → NoneFalls mid now → now feed.source.name ≡ counted (mid feed.source.name) feed.source.faults
    → AreCounted before now (feeds ++ feed ∷ [])
counts_more before mid now feeds feed counts fell later closed =
    let low = fell feed.source.name in
    counted_last before now feeds feed (counted_still before mid now feeds counts later) (omega (arith, low, closed))

pub falls_none : (before mid now : List ℕ → ℕ) → NoneFalls before mid → NoneFalls mid now → NoneFalls before now
falls_none before mid now low high name = let a = low name in let b = high name in omega (arith, a, b)

-- ---- the counts of the lines

tallies_last : (feeds : List FeedState) (feed : FeedState) → tallies_in (feeds ++ feed ∷ []) ≡ tallies_in feeds ++ feed.intake.seen.tally ∷ []
tallies_last [] feed = refl
tallies_last (f ∷ fs) feed = ap (λ (ts : List Tally). f.intake.seen.tally ∷ ts) (tallies_last fs feed)

tallies_more : {E : Type 0} (feeds : List FeedState) (feed : FeedState) (tally : Tally) (old new : Result (List Tally) E) → IfOk old (λ tallies. tallies ≡ tallies_in feeds) → tally ≡ feed.intake.seen.tally
    → IfOk new (λ all. IfOk old (λ before. all ≡ before ++ tally ∷ [])) → (IsOk new → IsOk old)
    → IfOk new (λ tallies. tallies ≡ tallies_in (feeds ++ feed ∷ []))
tallies_more feeds feed tally old (Err stop) is own more ok = tt
tallies_more feeds feed tally (Err stop) (Ok all) is own more ok = absurd (false≢true (ok refl))
tallies_more feeds feed tally (Ok before) (Ok all) is own more ok =
    more ∙ (ap (λ (ts : List Tally). ts ++ tally ∷ []) is ∙ (ap (λ (t : Tally). tallies_in feeds ++ t ∷ []) own ∙ sym (tallies_last feeds feed)))

-- ---- one after the other

-- some first feeds of these were closed
pub record HasClosed {E : Type 0} (feeds rest : List FeedState) (before now : FolderState) (tallies : Result (List Tally) E) : Type 0 where
  pub closed : List FeedState
  pub all : closed ++ rest ≡ feeds
  pub opened : AreOpened now.opened rest
  pub counts : IfOk tallies (λ ts. ts ≡ tallies_in closed)
  pub told : now.told ≡ before.told
  pub contents : now.contents ≡ before.contents
  pub still : SameEverywhere before.opened now.opened
  pub last : HasLasts closed before.last now.last
  pub later : NoneFalls before.faults now.faults
  pub faults : AreCounted before.faults now.faults closed
  pub others : StayOutside (names_in feeds) before now

-- what closing a file leaves of its folder
pub record Closes (file : SourceState) (old new : FolderState) : Type 0 where
  pub opened : SameEverywhere old.opened new.opened
  pub told : new.told ≡ old.told
  pub contents : new.contents ≡ old.contents
  pub later : NoneFalls old.faults new.faults
  pub faults : new.faults file.name ≡ counted (old.faults file.name) file.faults
  pub last : IsTrue file.told → new.last file.name ≡ length file.taken
  pub other_faults : SameElsewhere file.name old.faults new.faults
  pub other_last : SameElsewhere file.name old.last new.last

pub one_closed : {E : Type 0} (feeds rest others : List FeedState) (feed : FeedState) (tally : Tally) (before mid now : FolderState) (old new : Result (List Tally) E) → HasClosed feeds rest before mid old → rest ≡ feed ∷ others
    → Closes feed.source mid now → tally ≡ feed.intake.seen.tally → IfOk new (λ all. IfOk old (λ before. all ≡ before ++ tally ∷ [])) → (IsOk new → IsOk old) → HasClosed feeds others before now new
one_closed feeds rest others feed tally before mid now old new so_far is closes own more ok = record {
  closed = so_far.closed ++ feed ∷ [];
  all = append_assoc so_far.closed (feed ∷ []) others ∙ (ap (λ (fs : List FeedState). so_far.closed ++ fs) (sym is) ∙ so_far.all);
  opened = opened_still mid.opened now.opened others (keeps_same mid.opened now.opened closes.opened) (subst (AreOpened mid.opened) is so_far.opened).1;
  counts = tallies_more so_far.closed feed tally old new so_far.counts own more ok;
  told = closes.told ∙ so_far.told;
  contents = closes.contents ∙ so_far.contents;
  still = λ name. closes.opened name ∙ so_far.still name;
  last = lasts_more so_far.closed feed before.last mid.last now.last so_far.last closes.last closes.other_last;
  later = falls_none before.faults mid.faults now.faults so_far.later closes.later;
  faults = counts_more before.faults mid.faults now.faults so_far.closed feed so_far.faults so_far.later closes.later closes.faults;
  others = stay_then (names_in feeds) before mid now so_far.others
      (stay_elsewhere (names_in feeds) feed.source.name mid now (name_behind feeds so_far.closed rest others feed so_far.all is) closes.other_faults closes.other_last);
}

pub none_left : (feeds : List FeedState) → length feeds ≡ 0 → feeds ≡ []
none_left [] none = refl
none_left (f ∷ fs) none = absurd (omega (arith, none))

-- all of them were closed
pub all_closed : {E : Type 0} (feeds rest : List FeedState) (before now : FolderState) (tallies : Result (List Tally) E) (so_far : HasClosed feeds rest before now tallies) → rest ≡ [] → so_far.closed ≡ feeds
all_closed feeds rest before now tallies so_far none = sym (append-nil so_far.closed) ∙ (ap (λ (fs : List FeedState). so_far.closed ++ fs) (sym none) ∙ so_far.all)
