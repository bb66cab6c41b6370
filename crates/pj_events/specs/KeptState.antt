-- What a join has to keep, and its steps on that alone.
use Rattle.std.specs.Prelude.{ℕ, ◌+◌, ◌≡◌, Bool, not, ◌==◌, nat_lt, ◌&&◌, ◌||◌, if◌then◌else◌, List, [], ◌∷◌, ◌++◌, map, filter, min}
use Rattle.std.specs.List.{list_all}
use Rattle.pj_value.specs.declared.values.Value.{Value}
use Rattle.pj_events.specs.Join.{TupleAt, PunctAt, JoinData, JoinState, Step, TupleComes, PunctComes, Take, Give, Sweep, start, run, older, older_puncts, need_of, covered, has, is_held}

-- the next ticket, the stored tuples, all punctuations, the tickets that are not taken, those that are not given, the punctuations that wait
pub record KeptState : Type 0 where
  pub next : ℕ
  pub stored : List TupleAt
  pub puncts : List PunctAt
  pub pending : List ℕ
  pub opened : List ℕ
  pub waiting : List PunctAt

-- the tickets of those of these tuples that are not among these tickets
abbrev pub lacking : List ℕ → List TupleAt → List ℕ
lacking ns xs = map (λ x. x.ticket) (filter (λ x. not (has ns x.ticket)) xs)

-- what is to be kept of a state
abbrev pub kept_of : JoinState → KeptState
kept_of s = record {
  next = s.next;
  stored = s.stored;
  puncts = s.puncts;
  pending = lacking s.taken s.tuples;
  opened = lacking s.given s.tuples;
  waiting = s.waiting;
}

-- the least of these tickets; the next where there is none
abbrev pub least : ℕ → List ℕ → ℕ
least next [] = next
least next (t ∷ ts) = min t (least next ts)

abbrev pub kept_low : KeptState → ℕ
kept_low k = least k.next k.opened

abbrev pub kept_ripe : JoinData → KeptState → TupleAt → Bool
kept_ripe spec k x =
    nat_lt x.ticket (kept_low k) && list_all (covered (older_puncts (kept_low k) k.puncts)) (need_of spec (older (kept_low k) k.stored) x)

-- what a sweep of the input leaves
abbrev pub swept : JoinData → KeptState → ℕ → List TupleAt
swept spec k input = filter (λ x. not ((x.input == input) && kept_ripe spec k x)) k.stored

abbrev pub without : List ℕ → ℕ → List ℕ
without ts u = filter (λ t. not (t == u)) ts

abbrev pub tuple_kept : KeptState → ℕ → List Value → KeptState
tuple_kept k input row = record k {
  next = k.next + 1;
  stored = k.stored ++ record { ticket = k.next; input = input; row = row } ∷ [];
  pending = k.pending ++ k.next ∷ [];
  opened = k.opened ++ k.next ∷ [];
}

abbrev pub punct_kept : KeptState → PunctAt → KeptState
punct_kept k p = record k {
  next = k.next + 1;
  puncts = k.puncts ++ p ∷ [];
  waiting = if is_held k.stored p then k.waiting ++ p ∷ [] else k.waiting;
}

-- what is to be kept after a step
abbrev pub kept_step : JoinData → KeptState → Step → KeptState
kept_step spec k (TupleComes input row) = tuple_kept k input row
kept_step spec k (PunctComes input patterns) = punct_kept k (record { ticket = k.next; input = input; patterns = patterns })
kept_step spec k (Take u) = record k { pending = without k.pending u }
kept_step spec k (Give u) = record k { opened = without k.opened u }
kept_step spec k (Sweep input) =
    record k { stored = swept spec k input; waiting = filter (λ p. not (p.input == input) || is_held (swept spec k input) p) k.waiting }

-- the join keeps what it has to after these steps
abbrev pub JoinStands : JoinData → KeptState → List Step → Type 0
JoinStands spec k steps = k ≡ kept_of (run spec start steps)
