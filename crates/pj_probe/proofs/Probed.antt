-- What a probe over narrowed lists finds.
use Rattle.std.proofs.Common.{ℕ, List, ◌≡◌, map, ap, ◌∙◌}
use Rattle.pj_events.specs.Join.{ClassCol, TupleAt, Value, joined}
use Rattle.pj_probe.specs.declared.probe.Found.{Found}
use Rattle.pj_state.specs.States.{StateView}
use Rattle.pj_probe.specs.Walks.{found_in, sides_at}
use Rattle.pj_probe.specs.Choices.{choices}
use Rattle.pj_probe.specs.Hops.{FindSame}
use Rattle.pj_rows.specs.Tuples.{tuples_in}

pub probe_is : (join ticket : ℕ) (own : TupleAt) (classes used : List (List ClassCol)) (row_states : List StateView) (lists : List (List (ℕ × List Value))) (result : Found) → result ≡ found_in join ticket used (sides_at 0 lists) → ticket ≡ own.ticket → used ≡ classes
    → FindSame classes own row_states lists → result ≡ found_in join own.ticket classes (choices classes own (tuples_in 0 row_states))
probe_is join ticket own classes used row_states lists result e t same found =
    e
    ∙ ap (λ (cs : List (List ClassCol)). found_in join ticket cs (sides_at 0 lists)) same
    ∙ ap (λ n. found_in join n classes (sides_at 0 lists)) t
    ∙ ap (λ (rows : List (List TupleAt)). record { join = join; ticket = own.ticket; rows = map joined rows }) found
