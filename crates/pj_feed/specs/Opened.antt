-- The feeds of files that were opened, and what closing them leaves of a folder.
use Rattle.std.specs.Prelude.{◌≡◌, ◌≢◌, ◌<◌, ◌≤◌, ◌⊎◌, ◌↔◌, ℕ, ◌+◌, ⊤, Bool, true, List, [], ◌∷◌, length, map, take, Result, OnOk, IsTrue, slice_index_or}
use Rattle.pj_shape.specs.declared.columns.Column.{Column}
use Rattle.pj_plan.specs.declared.node.PlanNode.{PlanNode}
use Rattle.pj_value.specs.Lists.{In}
use Rattle.pj_io.specs.Causes.{Rose, counted}
use Rattle.pj_io.specs.Folders.{IsNew, IsFresh, RoseAt}
use Rattle.pj_io.specs.States.{FolderState}
use Rattle.pj_feed.specs.Feeds.{FeedState, IsFed, count_of}

-- files were opened under the names of the first so many operands, and under no other
abbrev pub OpensFirst : ℕ → List (List ℕ) → FolderState → FolderState → Type 0
OpensFirst count names old new = (name : List ℕ) → IsTrue (new.opened name) ↔ (IsTrue (old.opened name) ⊎ In name (take count names))

-- under the names of some first operands, no more than so many
abbrev pub OpensAtMost : ℕ → List (List ℕ) → FolderState → FolderState → Type 0
OpensAtMost most names old new = (count : ℕ) × (count ≤ most) × OpensFirst count names old new

-- of names that are not among these, the count of faults stays, and how much was taken from the file that was closed last
pub record StayOutside (names : List (List ℕ)) (old new : FolderState) : Type 0 where
  pub faults : (name : List ℕ) → (In name names → ⊥) → new.faults name ≡ old.faults name
  pub last : (name : List ℕ) → (In name names → ⊥) → new.last name ≡ old.last name

-- files were opened under the names of some first operands, no more than so many, and no other names than theirs and the next one
-- were touched
pub record TriesAtMost (most : ℕ) (names : List (List ℕ)) (old new : FolderState) : Type 0 where
  pub count : ℕ
  pub few : count ≤ most
  pub opened : OpensFirst count names old new
  pub others : StayOutside (take (count + 1) names) old new

-- no file was opened under this name, and its faults rose
abbrev pub FailsToOpen : List ℕ → FolderState → FolderState → Type 0
FailsToOpen name old new = OpensFirst 0 (name ∷ []) old new × RoseAt name old.faults new.faults

-- the file of this stream, whose name has its place among these, could not be opened, and those before it were; no names behind it
-- were touched
pub record IsFaultAt (stream : ℕ) (names : List (List ℕ)) (feeds : List FeedState) (old new : FolderState) : Type 0 where
  pub there : stream < length names
  pub before : length feeds ≡ stream
  pub opened : OpensFirst stream names old new
  pub rose : Rose (old.faults (slice_index_or names stream [])) (new.faults (slice_index_or names stream []))
  pub others : StayOutside (take (stream + 1) names) old new

-- the feed of a stream whose file was opened under a name, and of which nothing was taken
pub record IsFeedOf (stream : ℕ) (schema : List Column) (name : List ℕ) (folder : FolderState) (feed : FeedState) : Type 0 where
  pub number : feed.stream ≡ stream
  pub columns : feed.intake.columns ≡ schema
  pub still : feed.is_open ≡ true
  pub fed : IsFed feed
  pub none : count_of feed ≡ 0
  pub opened : IsNew name feed.source
  pub told : IsTrue (folder.told name) → IsFresh (folder.contents name) feed.source

-- these are the feeds of the first of these streams, from this number on
abbrev pub AreFeedsOf : ℕ → List PlanNode → List (List ℕ) → FolderState → List FeedState → Type 0
AreFeedsOf k streams names folder [] = ⊤
AreFeedsOf k [] names folder (feed ∷ feeds) = ⊥
AreFeedsOf k (stream ∷ streams) [] folder (feed ∷ feeds) = ⊥
AreFeedsOf k (stream ∷ streams) (name ∷ names) folder (feed ∷ feeds) =
    IsFeedOf k stream.schema name folder feed × AreFeedsOf (k + 1) streams names folder feeds

-- files were opened under the names of these feeds
abbrev pub AreOpened : (List ℕ → Bool) → List FeedState → Type 0
AreOpened opened [] = ⊤
AreOpened opened (feed ∷ feeds) = IsTrue (opened feed.source.name) × AreOpened opened feeds

-- from each file of this name that is told so many bytes were taken
abbrev pub AgreeOn : List ℕ → ℕ → List FeedState → Type 0
AgreeOn name taken [] = ⊤
AgreeOn name taken (feed ∷ feeds) = (feed.source.name ≡ name → IsTrue feed.source.told × (length feed.source.taken ≡ taken)) × AgreeOn name taken feeds

abbrev pub NoneNamed : List ℕ → List FeedState → Type 0
NoneNamed name [] = ⊤
NoneNamed name (feed ∷ feeds) = (feed.source.name ≢ name) × NoneNamed name feeds

-- so many bytes were taken from the file of this name that was closed last, or none of these has the name and it is as it was
abbrev pub IsLast : List ℕ → ℕ → List FeedState → ℕ → ℕ → Type 0
IsLast name taken feeds before now = (now ≡ taken) ⊎ ((now ≡ before) × NoneNamed name feeds)

-- of the file of this name that was closed last, all bytes were taken
abbrev pub IsReadToEnd : List ℕ → FolderState → FolderState → Type 0
IsReadToEnd name old new = new.last name ≡ length (old.contents name)

-- `Ok`: files that are told and were read to their ends still are
abbrev pub StayReadToEnd : {T E : Type 0} → FolderState → FolderState → Result T E → Type 0
StayReadToEnd old new result = (name : List ℕ) → IsTrue (old.told name) → IsReadToEnd name old old → OnOk result (IsReadToEnd name old new)

-- the faults of each file were added to those of its name
abbrev pub AreCounted : (List ℕ → ℕ) → (List ℕ → ℕ) → List FeedState → Type 0
AreCounted before now [] = ⊤
AreCounted before now (feed ∷ feeds) = (counted (before feed.source.name) feed.source.faults ≤ now feed.source.name) × AreCounted before now feeds

-- for each name, so many bytes were taken from the file of it that was closed last, or no file of it was closed
abbrev pub HasLasts : List FeedState → (List ℕ → ℕ) → (List ℕ → ℕ) → Type 0
HasLasts feeds before now = (name : List ℕ) (taken : ℕ) → AgreeOn name taken feeds → IsLast name taken feeds (before name) (now name)

-- of the file of each name that was closed last, all bytes were taken, where they are told
abbrev pub AreReadToEnd : List (List ℕ) → FolderState → FolderState → Type 0
AreReadToEnd [] old new = ⊤
AreReadToEnd (name ∷ names) old new = (IsTrue (old.told name) → IsReadToEnd name old new) × AreReadToEnd names old new

-- the names under which the files of these feeds were opened
abbrev pub names_in : List FeedState → List (List ℕ)
names_in feeds = map (λ feed. feed.source.name) feeds
