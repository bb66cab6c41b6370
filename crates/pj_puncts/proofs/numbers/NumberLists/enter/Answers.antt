use Rattle.std.proofs.Common.{◌≡◌, ℕ, List, [], ◌∷◌, ap, ap₂, sym, subst, ◌∙◌}
use Rattle.std.specs.Map.{set_value}
use Rattle.std.proofs.lemmas.Map.Steps.{set_value_same}
use Rattle.indexmap.specs.IndexMap.{insert_entry}
use Rattle.pj_value.specs.declared.values.Value.{Value}
use Rattle.pj_puncts.specs.Numbers.{constant, same_constant}
use Rattle.pj_puncts.specs.Alone.{HasMore, alone, entered}
use Rattle.pj_puncts.specs.declared.numbers.Constant.{Constant}
use Rattle.pj_puncts.proofs.Alone.{insert_more, set_more}
use Rattle.pj_puncts.proofs.Filing.{on_err}
use Rattle.pj_puncts.proofs.numbers.NumberLists.enter.Goals as goal

pub returns-in_err-push-in-Some-clause-err : goal.returns-in_err-push-in-Some-clause-err
returns-in_err-push-in-Some-clause-err c =
    let key : Constant = constant c.args.key.column c.args.key.value.now in
    let es = c.args.self.now.lists.entries in
    on_err c.from_residual.result _ ((c.get_mut.follows.holds c.push.new.self).0 ∙ (ap (set_value (same_constant key) es) c.in_err-push-in-Some.ensures.err ∙ set_value_same (same_constant key) es c.in-Some.numbers.now (sym c.in-Some.ensures.value)))

pub returns-in_ok-push-in-Some-clause-more : goal.returns-in_ok-push-in-Some-clause-more
returns-in_ok-push-in-Some-clause-more c arity =
    let key : Constant = constant c.args.key.column c.args.key.value.now in
    let es = c.args.self.now.lists.entries in
    subst (λ (fs : List (Constant × List ℕ)). HasMore (alone arity key c.args.number) (entered arity es) (entered arity fs))
    (sym ((c.get_mut.follows.holds c.push.new.self).0 ∙ ap (set_value (same_constant key) es) c.in_ok-push-in-Some.ensures.ok))
    (set_more key c.args.number arity c.in-Some.numbers.now es (sym c.in-Some.ensures.value))

pub returns-in_ok-insert-in-None-clause-more : goal.returns-in_ok-insert-in-None-clause-more
returns-in_ok-insert-in-None-clause-more c arity =
    let key : Constant = constant c.args.key.column c.args.key.value.now in
    let es = c.args.self.now.lists.entries in
    let e : c.insert.new.self.entries ≡ insert_entry same_constant es key (c.args.number ∷ []) =
    c.in_ok-insert-in-None.ensures.entries
    ∙ (ap (λ m. insert_entry same_constant m.entries (constant c.args.key.column c.in_ok-value-in-None.value) c.one.result) c.get_mut.follows.holds-at-none
    ∙ ap₂ (λ (v : Value) (ns : List ℕ). insert_entry same_constant es (constant c.args.key.column v) ns) c.in_ok-value-in-None.ensures c.one.ensures) in
    subst (λ (fs : List (Constant × List ℕ)). HasMore (alone arity key c.args.number) (entered arity es) (entered arity fs)) (sym e) (insert_more key c.args.number arity es (sym c.in-None.ensures.value))
