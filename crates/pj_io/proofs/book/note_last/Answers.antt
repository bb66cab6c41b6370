use Rattle.std.proofs.Common.{◌≡◌, false, Some, ap, ◌∙◌}
use Rattle.pj_io.specs.declared.book.Note.{Note}
use Rattle.pj_io.specs.Books.{place_of}
use Rattle.pj_io.proofs.Notes.{name_at, noted_set, noted_set_other, noted_set_same}
use Rattle.pj_io.proofs.book.note_last.Goals as goal

pub returns-in-Some-clause-last : goal.returns-in-Some-clause-last
returns-in-Some-clause-last c =
    let ns = c.args.notes.now.items in
    let name = c.args.name.now in
    let i = c.in-Some.i in
    let d = c.index_mut.result.now in
    let place : place_of ns name ≡ Some i = cc (c.in-Some.ensures.place) in
    let named : d.name ≡ name = ap (λ (n : Note). n.name) c.index_mut.ensures.value ∙ name_at ns i d name place in
    noted_set (λ n. n.last) 0 ns i _ name place named

pub returns-in-Some-clause-others : goal.returns-in-Some-clause-others
returns-in-Some-clause-others c = λ other differ.
    let ns = c.args.notes.now.items in
    let name = c.args.name.now in
    let i = c.in-Some.i in
    let d = c.index_mut.result.now in
    let place : place_of ns name ≡ Some i = cc (c.in-Some.ensures.place) in
    let named : d.name ≡ name = ap (λ (n : Note). n.name) c.index_mut.ensures.value ∙ name_at ns i d name place in
    noted_set_other (λ n. n.last) 0 ns i _ name other place named differ

pub returns-in-Some-clause-opened : goal.returns-in-Some-clause-opened
returns-in-Some-clause-opened c = λ other.
    let ns = c.args.notes.now.items in
    let name = c.args.name.now in
    let i = c.in-Some.i in
    let d = c.index_mut.result.now in
    let place : place_of ns name ≡ Some i = cc (c.in-Some.ensures.place) in
    let named : d.name ≡ name = ap (λ (n : Note). n.name) c.index_mut.ensures.value ∙ name_at ns i d name place in
    noted_set_same (λ n. n.opened) false ns i _ d name other place named (ap (λ (n : Note). n.opened) c.index_mut.ensures.value)

pub returns-in-Some-clause-faults : goal.returns-in-Some-clause-faults
returns-in-Some-clause-faults c = λ other.
    let ns = c.args.notes.now.items in
    let name = c.args.name.now in
    let i = c.in-Some.i in
    let d = c.index_mut.result.now in
    let place : place_of ns name ≡ Some i = cc (c.in-Some.ensures.place) in
    let named : d.name ≡ name = ap (λ (n : Note). n.name) c.index_mut.ensures.value ∙ name_at ns i d name place in
    noted_set_same (λ n. n.faults) 0 ns i _ d name other place named (ap (λ (n : Note). n.faults) c.index_mut.ensures.value)
