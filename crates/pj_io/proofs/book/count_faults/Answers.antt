use Rattle.std.proofs.Common.{◌≡◌, false, ℕ, ◌^◌, ◌+◌, ◌-◌, min, Option, Some, ap, sym, ◌∙◌, arith, is_some}
use Rattle.pj_io.specs.declared.book.Note.{Note}
use Rattle.pj_io.specs.Books.{place_of, faults_of}
use Rattle.pj_io.proofs.Notes.{name_at, noted_at, noted_set, noted_set_other, noted_set_same, place_set, none_falls}
use Rattle.pj_io.proofs.book.count_faults.Goals as goal

pub returns-in-Some-clause-faults : goal.returns-in-Some-clause-faults
returns-in-Some-clause-faults c =
    let ns = c.args.notes.now.items in
    let name = c.args.name.now in
    let i = c.in-Some.i in
    let d = c.index_mut.result.now in
    let place : place_of ns name ≡ Some i = cc (c.in-Some.ensures.place) in
    let named : d.name ≡ name = ap (λ (n : Note). n.name) c.index_mut.ensures.value ∙ name_at ns i d name place in
    let e = c.index.result.now in
    let here : faults_of ns name ≡ e.faults = noted_at (λ n. n.faults) 0 ns i e name place ∙ ap (λ (n : Note). n.faults) (sym c.index.ensures) in
    noted_set (λ n. n.faults) 0 ns i _ name place named ∙ (c.saturating_add-faults.ensures ∙ ap (λ (x : ℕ). min (x + c.args.more) (2 ^ 64 - 1)) (sym here))

pub returns-in-Some-clause-later : goal.returns-in-Some-clause-later
returns-in-Some-clause-later c =
    let ns = c.args.notes.now.items in
    let name = c.args.name.now in
    let i = c.in-Some.i in
    let d = c.index_mut.result.now in
    let place : place_of ns name ≡ Some i = cc (c.in-Some.ensures.place) in
    let named : d.name ≡ name = ap (λ (n : Note). n.name) c.index_mut.ensures.value ∙ name_at ns i d name place in
    let e = c.index.result.now in
    let here : faults_of ns name ≡ e.faults = noted_at (λ n. n.faults) 0 ns i e name place ∙ ap (λ (n : Note). n.faults) (sym c.index.ensures) in
    none_falls _ _ name (omega (arith, here, noted_set (λ n. n.faults) 0 ns i (record { name = d.name; opened = d.opened; faults = c.saturating_add-faults.result; last = d.last }) name place named, c.saturating_add-faults.ensures))
    (λ other differ. noted_set_other (λ n. n.faults) 0 ns i _ name other place named differ)

pub returns-in-Some-clause-others : goal.returns-in-Some-clause-others
returns-in-Some-clause-others c = λ other differ.
    let ns = c.args.notes.now.items in
    let name = c.args.name.now in
    let i = c.in-Some.i in
    let d = c.index_mut.result.now in
    let place : place_of ns name ≡ Some i = cc (c.in-Some.ensures.place) in
    let named : d.name ≡ name = ap (λ (n : Note). n.name) c.index_mut.ensures.value ∙ name_at ns i d name place in
    noted_set_other (λ n. n.faults) 0 ns i _ name other place named differ

pub returns-in-Some-clause-opened : goal.returns-in-Some-clause-opened
returns-in-Some-clause-opened c = λ other.
    let ns = c.args.notes.now.items in
    let name = c.args.name.now in
    let i = c.in-Some.i in
    let d = c.index_mut.result.now in
    let place : place_of ns name ≡ Some i = cc (c.in-Some.ensures.place) in
    let named : d.name ≡ name = ap (λ (n : Note). n.name) c.index_mut.ensures.value ∙ name_at ns i d name place in
    noted_set_same (λ n. n.opened) false ns i _ d name other place named (ap (λ (n : Note). n.opened) c.index_mut.ensures.value)

pub returns-in-Some-clause-last : goal.returns-in-Some-clause-last
returns-in-Some-clause-last c = λ other.
    let ns = c.args.notes.now.items in
    let name = c.args.name.now in
    let i = c.in-Some.i in
    let d = c.index_mut.result.now in
    let place : place_of ns name ≡ Some i = cc (c.in-Some.ensures.place) in
    let named : d.name ≡ name = ap (λ (n : Note). n.name) c.index_mut.ensures.value ∙ name_at ns i d name place in
    noted_set_same (λ n. n.last) 0 ns i _ d name other place named (ap (λ (n : Note). n.last) c.index_mut.ensures.value)

pub returns-in-Some-clause-names : goal.returns-in-Some-clause-names
returns-in-Some-clause-names c = λ other.
    let ns = c.args.notes.now.items in
    let name = c.args.name.now in
    let i = c.in-Some.i in
    let d = c.index_mut.result.now in
    let place : place_of ns name ≡ Some i = cc (c.in-Some.ensures.place) in
    let named : d.name ≡ name = ap (λ (n : Note). n.name) c.index_mut.ensures.value ∙ name_at ns i d name place in
    ap (λ (o : Option ℕ). is_some o) (place_set ns i _ name other place named)
