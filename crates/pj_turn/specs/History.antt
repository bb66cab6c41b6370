-- Histories as lists of entries, each with the number of the seat that made it.
use Rattle.std.specs.Prelude.{◌<◌, All, ◌≡◌, ℕ, ◌==◌, List, [], ◌∷◌, ◌++◌}
use Rattle.std.specs.List.{filter}
use Rattle.pj_turn.specs.Meanings.{KeptMeaning, ActMeaning}

module _ {E : Type 0} where
  -- the entries with the number n, in order
  abbrev pub own : (E → ℕ) → ℕ → List E → List E
  own number n log = filter (λ e. number e == n) log

  -- what was seen begins the history, and no entry behind it has the number n
  pub record HasSeen (number : E → ℕ) (n : ℕ) (seen log : List E) : Type 0 where
    pub behind : List E
    pub begins : log ≡ seen ++ behind
    pub no_own : own number n behind ≡ []

module _ {T E F : Type 0} where
  -- what an act may be called with: the fixed part, the seat's number and what the seat has seen
  abbrev pub MayAct : {A : Type 0} → KeptMeaning T E F → ActMeaning T E F A → F → ℕ → List E → Type 0
  MayAct kept act fixed n seen = act.needs fixed n seen (own kept.number n seen)

  -- what an act knows in its turn, of the fixed part, the state, the seat's number, what the seat has seen, and the history
  pub record Ready {A : Type 0} (kept : KeptMeaning T E F) (act : ActMeaning T E F A) (fixed : F) (state : T) (n : ℕ) (seen log : List E) : Type 0 where
    pub standing : kept.stands state log
    pub fixed_is : kept.fixed state ≡ fixed
    pub keeps : kept.keeps log
    pub seen_so_far : HasSeen kept.number n seen log
    pub may : MayAct kept act fixed n seen

  -- what an act leaves: the history has one entry more, which has the seat's number
  pub record Did {A : Type 0} (kept : KeptMeaning T E F) (act : ActMeaning T E F A) (n : ℕ) (log : List E) (before : T) (answer : A) (after : T) : Type 0 where
    pub by_seat : kept.number (act.entry n log answer) ≡ n
    pub standing : kept.stands after (log ++ act.entry n log answer ∷ [])
    pub keeps : kept.keeps (log ++ act.entry n log answer ∷ [])
    pub given : act.gives n log before answer after

  -- One turn of the seat n, between what it had seen and what it has seen after it: the state that was found stands for a
  -- history that begins with all that the seat had seen, the answer is that of the act on this state, and now the seat
  -- has seen that history with the one new entry, which is its own
  pub record Turned {A : Type 0} (kept : KeptMeaning T E F) (act : ActMeaning T E F A) (answer : A) (fixed : F) (n : ℕ) (seen seen_after : List E) : Type 0 where
    pub log : List E
    pub before : T
    pub after : T
    pub fixed_is : (kept.fixed before ≡ fixed) × (kept.fixed after ≡ fixed)
    pub seen_so_far : HasSeen kept.number n seen log
    pub keeps_before : kept.keeps log
    pub stands_before : kept.stands before log
    pub given : act.gives n log before answer after
    pub seen_is : seen_after ≡ log ++ act.entry n log answer ∷ []
    pub by_seat : kept.number (act.entry n log answer) ≡ n
    pub own_is : own kept.number n seen_after ≡ own kept.number n seen ++ act.entry n log answer ∷ []
    pub stands_after : kept.stands after seen_after
    pub keeps_after : kept.keeps seen_after

  -- The end: the state stands for a history and has the fixed part of the opening; what a seat has seen begins this history
  -- and has all entries of its own (Saw n seen: the seat n has seen this); and each entry has the number of one of the seats
  pub record Closed (kept : KeptMeaning T E F) (fixed : F) (seats : ℕ) (Saw : ℕ → List E → Type 0) (state : T) : Type 0 where
    pub log : List E
    pub standing : kept.stands state log
    pub fixed_is : kept.fixed state ≡ fixed
    pub keeps : kept.keeps log
    pub seen_all : (n : ℕ) (seen : List E) → Saw n seen → HasSeen kept.number n seen log × (own kept.number n log ≡ own kept.number n seen)
    pub by_seats : All (λ e. kept.number e < seats) log
