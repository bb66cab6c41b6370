-- What stands inside a join, and how it is seen.
use Rattle.std.specs.Prelude.{ℕ, ◌+◌, ◌<◌, ◌^◌, ◌≤◌, ◌≡◌, List, [], ◌∷◌, ◌++◌, map, drop, length}
use Rattle.pj_state.specs.States.{StateView}
use Rattle.pj_puncts.specs.Stores.{Store}
use Rattle.pj_shape.specs.Sound.{IsSoundSpec}
use Rattle.pj_events.specs.Join.{In, JoinData, TupleAt, PunctAt, AreCertified, arities, inputs, of_input, upto_from}
use Rattle.pj_events.specs.KeptState.{least}
use Rattle.pj_join.specs.Joins.{JoinView}
use Rattle.pj_join.specs.Sides.{AreAllShaped, held_in, heard_of, log_of, place_of, puncts_of}
use Rattle.pj_rows.specs.Tuples.{tuples_in}
use Rattle.pj_join.specs.declared.place.Place.{Place}

abbrev pub tickets : List TupleAt → List ℕ
tickets xs = map (λ x. x.ticket) xs

-- what a join is made with: its number among the nodes, what it joins by, and how many elements may reach it
pub record MadeWith : Type 0 where
  pub node : ℕ
  pub spec : JoinData
  pub limit : ℕ

abbrev pub made_with : ℕ → JoinData → ℕ → MadeWith
made_with node spec limit = record { node = node; spec = spec; limit = limit }

-- the join of these parts: the log has the stored tuples in order, of which the first so many are taken; the tickets that
-- are taken and not given are listed
abbrev pub seen : MadeWith → ℕ → ℕ → List TupleAt → List PunctAt → List PunctAt → List ℕ → JoinView
seen made next done log puncts waiting taken = record {
  node = made.node;
  spec = made.spec;
  limit = made.limit;
  kept = record {
    next = next;
    stored = log;
    puncts = puncts;
    pending = tickets (drop done log);
    opened = taken ++ tickets (drop done log);
    waiting = waiting;
  };
}

-- the low-water ticket: the least that is not given, else the next
abbrev pub lowest : ℕ → ℕ → List TupleAt → List ℕ → ℕ
lowest next done log taken = least next (taken ++ tickets (drop done log))

-- the numbers rise, from at least the first number to below the last
abbrev pub Rise : ℕ → List ℕ → ℕ → Type 0
Rise from [] end = from ≤ end
Rise from (t ∷ ts) end = (from ≤ t) × Rise (t + 1) ts end

-- the tickets of the log rise, as do those that are not given; the sides hold the log's tuples by their inputs
pub record IsOrdered (spec : JoinData) (limit next done : ℕ) (log : List TupleAt) (sides : List (List TupleAt)) (taken : List ℕ) : Type 0 where
  pub sound : IsSoundSpec spec.shape
  pub certified : AreCertified spec
  pub small : limit ≤ 2 ^ 40
  pub below : next ≤ limit
  pub within : done ≤ length log
  pub rising : Rise 0 (tickets log) next
  pub open_rising : Rise 0 (taken ++ tickets (drop done log)) next
  pub placed : (x : TupleAt) → In x log → x.input < length spec.shape.inputs
  pub by_input : sides ≡ map (λ k. of_input k log) (upto_from 0 (length spec.shape.inputs))

-- the tickets of the punctuations rise, and the stores hold them by their inputs
pub record AreHeard (spec : JoinData) (next : ℕ) (puncts : List PunctAt) (punct_stores : List Store) : Type 0 where
  pub rising : Rise 0 (map (λ p. p.ticket) puncts) next
  pub placed : (p : PunctAt) → In p puncts → p.input < inputs spec
  pub by_input : held_in 0 punct_stores ≡ map (λ k. heard_of k puncts) (upto_from 0 (inputs spec))
  pub arities : map (λ s. s.arity) punct_stores ≡ arities spec

-- what a join keeps its rows and punctuations in: the next ticket, how many of the stored tuples are taken, a state and a
-- store for each input, where the pending tuples stand, and the tickets that are taken and not given
pub record Inside : Type 0 where
  pub next : ℕ
  pub done : ℕ
  pub row_states : List StateView
  pub punct_stores : List Store
  pub pending : List Place
  pub taken : List ℕ

abbrev pub inside : ℕ → ℕ → List StateView → List Store → List Place → List ℕ → Inside
inside next done row_states punct_stores pending taken = record { next = next; done = done; row_states = row_states; punct_stores = punct_stores; pending = pending; taken = taken }

-- all fits together
pub record IsJoin (spec : JoinData) (limit : ℕ) (i : Inside) : Type 0 where
  pub ordered : IsOrdered spec limit i.next i.done (log_of i.row_states) (tuples_in 0 i.row_states) i.taken
  pub shaped : AreAllShaped (arities spec) i.row_states
  pub heard : AreHeard spec i.next (puncts_of i.punct_stores) i.punct_stores
  pub queued : i.pending ≡ map place_of (drop i.done (log_of i.row_states))
