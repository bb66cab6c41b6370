-- The results of a tuple, as they are handed out.
use Rattle.std.specs.Prelude.{◌≡◌, ◌==◌, ◌&&◌, Bool, nat_lt, if◌then◌else◌, List, [], ◌∷◌, map, filter}
use Rattle.pj_events.specs.declared.events.Out.{Out}
use Rattle.pj_events.specs.Join.{ClassCol, TupleAt, Value, agree, joined, product}
use Rattle.pj_probe.specs.Choices.{choices, pair}

-- the rows of the tuples among these
abbrev pub rows_of : List Out → List (List Value)
rows_of [] = []
rows_of (Out.Tuple row ∷ outs) = row ∷ rows_of outs
rows_of (Out.Punct patterns ∷ outs) = rows_of outs
rows_of (Out.Purged join input row ∷ outs) = rows_of outs

-- these are all tuples
abbrev pub AreTuples : List Out → Type 0
AreTuples outs = outs ≡ map Out.Tuple (rows_of outs)

-- the row of a tuple with another, that of the first input first
abbrev pub pair_of : TupleAt → TupleAt → List Value
pair_of own y = if own.input == 0 then pair own y else pair y own

-- whether a tuple is older than this one and the two join
abbrev pub older_agrees : List (List ClassCol) → TupleAt → TupleAt → Bool
older_agrees classes own y = nat_lt y.ticket own.ticket && agree classes (own ∷ y ∷ [])

-- the rows of the tuple with those of these that are older and join with it
abbrev pub pairs_out : List (List ClassCol) → TupleAt → List TupleAt → List Out
pairs_out classes own ys = map Out.Tuple (map (pair_of own) (filter (older_agrees classes own) ys))

-- the rows of the ways to take one of each choice of the tuple that join
abbrev pub found_out : List (List ClassCol) → TupleAt → List (List TupleAt) → List Out
found_out classes own sides = map Out.Tuple (map joined (filter (agree classes) (product (choices classes own sides))))
