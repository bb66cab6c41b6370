-- What opening and closing files leaves of other names than theirs.
use Rattle.std.proofs.Common.{◌≡◌, ◌<◌, ◌≤◌, ◌+◌, ℕ, zero, suc, inl, inr, List, [], ◌∷◌, ◌++◌, length, take, refl, ap, sym, ◌∙◌, subst, arith}
use Rattle.std.specs.Prelude.{slice_index_or}
use Rattle.std.proofs.lemmas.List.{take_more}
use Rattle.pj_plan.specs.declared.node.PlanNode.{PlanNode}
use Rattle.pj_value.specs.Lists.{In}
use Rattle.pj_value.proofs.Members.{In-append_right, In-map_from}
use Rattle.pj_io.specs.Folders.{SameElsewhere, SameEverywhere}
use Rattle.pj_io.specs.States.{FolderState}
use Rattle.pj_feed.specs.Feeds.{FeedState}
use Rattle.pj_feed.specs.Opened.{AreFeedsOf, OpensAtMost, OpensFirst, StayOutside, TriesAtMost, names_in}
use Rattle.pj_feed.proofs.AllFeeds.{all_same}
use Rattle.pj_feed.proofs.Opening.{AreNamed, named_still, opens_no_more, opens_still, opens_then}

pub stay_then : (names : List (List ℕ)) (old mid new : FolderState) → StayOutside names old mid → StayOutside names mid new → StayOutside names old new
stay_then names old mid new first then = record {
  faults = λ name other. then.faults name other ∙ first.faults name other;
  last = λ name other. then.last name other ∙ first.last name other;
}

pub stay_wider : (names more : List (List ℕ)) (old new : FolderState) → ((name : List ℕ) → In name names → In name more) → StayOutside names old new → StayOutside more old new
stay_wider names more old new among stay = record {
  faults = λ name other. stay.faults name (λ h. other (among name h));
  last = λ name other. stay.last name (λ h. other (among name h));
}

-- only what is said of one of these names may have changed
pub stay_elsewhere : (names : List (List ℕ)) (own : List ℕ) (old new : FolderState) → In own names → SameElsewhere own old.faults new.faults → SameElsewhere own old.last new.last → StayOutside names old new
stay_elsewhere names own old new there faults last = record {
  faults = λ name other. faults name (λ is. other (subst (λ (n : List ℕ). In n names) (sym is) there));
  last = λ name other. last name (λ is. other (subst (λ (n : List ℕ). In n names) (sym is) there));
}

-- ---- the first so many names

in_front : (n m : ℕ) (names : List (List ℕ)) (name : List ℕ) → n ≤ m → In name (take n names) → In name (take m names)
in_front zero m names name le h = absurd h
in_front (suc n) zero names name le h = absurd (omega (arith, le))
in_front (suc n) (suc m) [] name le h = absurd h
in_front (suc n) (suc m) (other ∷ names) name le (inl is) = inl is
in_front (suc n) (suc m) (other ∷ names) name le (inr h) = inr (in_front n m names name (omega (arith, le)) h)

in_all : (n : ℕ) (names : List (List ℕ)) (name : List ℕ) → In name (take n names) → In name names
in_all zero names name h = absurd h
in_all (suc n) [] name h = absurd h
in_all (suc n) (other ∷ names) name (inl is) = inl is
in_all (suc n) (other ∷ names) name (inr h) = inr (in_all n names name h)

stay_front : (n m : ℕ) (names : List (List ℕ)) (old new : FolderState) → n ≤ m → StayOutside (take n names) old new → StayOutside (take m names) old new
stay_front n m names old new le stay = stay_wider (take n names) (take m names) old new (λ name h. in_front n m names name le h) stay

pub stay_all : (n : ℕ) (names : List (List ℕ)) (old new : FolderState) → StayOutside (take n names) old new → StayOutside names old new
stay_all n names old new stay = stay_wider (take n names) names old new (in_all n names) stay

-- of the next one, too, something may have changed
pub stay_more : (i : ℕ) (names : List (List ℕ)) (name : List ℕ) (old mid new : FolderState) → i < length names → name ≡ slice_index_or names i [] → StayOutside (take i names) old mid → StayOutside (name ∷ []) mid new
    → StayOutside (take (i + 1) names) old new
stay_more i names name old mid new low is first then =
    stay_then (take (i + 1) names) old mid new (stay_front i (i + 1) names old mid (omega arith) first) (stay_wider (name ∷ []) (take (i + 1) names) mid new among then)
  where
    more : take (i + 1) names ≡ take i names ++ name ∷ []
    more = take_more names i [] low ∙ ap (λ (n : List ℕ). take i names ++ n ∷ []) (sym is)

    among : (other : List ℕ) → In other (name ∷ []) → In other (take (i + 1) names)
    among other h = subst (In other) (sym more) (In-append_right other (take i names) (name ∷ []) h)

-- ---- what was tried

pub tries_none : (names : List (List ℕ)) (folder : FolderState) → TriesAtMost (length names) names folder folder
tries_none names folder = record {
  count = 0;
  few = omega arith;
  opened = λ name. (λ t. inl t, λ h. elim h [ inl t ↦ t | inr none ↦ absurd none ]);
  others = record { faults = λ name other. refl; last = λ name other. refl };
}

-- so many were opened, and nothing else was touched
pub tries_first : (i : ℕ) (names : List (List ℕ)) (old new : FolderState) → i ≤ length names → OpensFirst i names old new → StayOutside (take i names) old new → (tries : TriesAtMost (length names) names old new) × (i ≤ tries.count)
tries_first i names old new few opens stay = (record { count = i; few = few; opened = opens; others = stay_front i (i + 1) names old new (omega arith) stay }, omega arith)

-- the files of some first names, and perhaps that of the next
pub tries_then : (i : ℕ) (names : List (List ℕ)) (name : List ℕ) (old mid new : FolderState) → OpensFirst i names old mid → OpensAtMost 1 (name ∷ []) mid new → i < length names → name ≡ slice_index_or names i []
    → StayOutside (take (i + 1) names) old new → (tries : TriesAtMost (length names) names old new) × (i ≤ tries.count)
tries_then i names name old mid new first then low is stay = go then.0 then.1 then.2
  where
    go : (count : ℕ) → count ≤ 1 → OpensFirst count (name ∷ []) mid new → (tries : TriesAtMost (length names) names old new) × (i ≤ tries.count)
    go zero le opens = (record { count = i; few = omega (arith, low); opened = opens_no_more i names (name ∷ []) old mid new first opens; others = stay }, omega arith)
    go (suc zero) le opens =
        (record { count = i + 1; few = omega (arith, low); opened = opens_then i names name old mid new first opens low is; others = stay_front (i + 1) (i + 1 + 1) names old new (omega arith) stay }, omega arith)
    go (suc (suc n)) le opens = absurd (omega (arith, le))

-- ---- the names of feeds

-- the name of a feed that stands behind some others
pub name_behind : (feeds front rest others : List FeedState) (feed : FeedState) → front ++ rest ≡ feeds → rest ≡ feed ∷ others → In feed.source.name (names_in feeds)
name_behind feeds front rest others feed all is =
    let there : In feed rest = subst (In feed) (sym is) (inl refl) in
    In-map_from (λ (f : FeedState). f.source.name) feed feeds (subst (In feed) all (In-append_right feed front rest there))

-- the names of feeds are the first of those under which their files were opened
named_first : (feeds : List FeedState) (names : List (List ℕ)) (name : List ℕ) → AreNamed feeds names → In name (names_in feeds) → In name (take (length feeds) names)
named_first [] names name named h = absurd h
named_first (f ∷ fs) [] name named h = absurd named
named_first (f ∷ fs) (n ∷ ns) name named (inl is) = inl (sym named.0 ∙ is)
named_first (f ∷ fs) (n ∷ ns) name named (inr h) = inr (named_first fs ns name named.1 h)

module _ (k : ℕ) (streams : List PlanNode) (names : List (List ℕ)) (old mid new : FolderState) (feeds : List FeedState) (all : AreFeedsOf k streams names old feeds) (closed : StayOutside (names_in feeds) mid new) where
  among : (name : List ℕ) → In name (names_in feeds) → In name (take (length feeds) names)
  among name h = named_first feeds names name (named_still k streams names old feeds feeds all (all_same feeds)) h

  -- once they are closed, nothing has changed behind names that are no fewer
  pub close_stays : (n : ℕ) → length feeds ≤ n → StayOutside (take n names) old mid → StayOutside (take n names) old new
  close_stays n few stay =
      stay_then (take n names) old mid new stay (stay_wider (names_in feeds) (take n names) mid new (λ name h. in_front (length feeds) n names name few (among name h)) closed)

  pub close_stays_all : StayOutside names old mid → StayOutside names old new
  close_stays_all stay =
      stay_then names old mid new stay (stay_wider (names_in feeds) names mid new (λ name h. in_all (length feeds) names name (among name h)) closed)

  -- and of the files that were tried the same is so
  pub close_tries : SameEverywhere mid.opened new.opened → (tries : TriesAtMost (length names) names old mid) × (length feeds ≤ tries.count) → TriesAtMost (length names) names old new
  close_tries same tried =
      let le = tried.1 in
      record {
        count = tried.0.count;
        few = tried.0.few;
        opened = opens_still tried.0.count names old mid new tried.0.opened same;
        others = close_stays (tried.0.count + 1) (omega (arith, le)) tried.0.others;
      }
