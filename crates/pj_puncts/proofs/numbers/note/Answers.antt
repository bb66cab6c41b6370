use Rattle.std.proofs.Common.{◌≡◌, ℕ, List, [], ◌∷◌, true, eqb, inl, refl, sym, subst, ◌∙◌}
use Rattle.std.specs.List.{list_any}
use Rattle.pj_value.specs.Lists.{In}
use Rattle.pj_value.proofs.Members.{In-append_left, In-append_right}
use Rattle.pj_puncts.proofs.Alone.{named_in}
use Rattle.pj_puncts.proofs.numbers.note.Goals as goal

pub returns-then-contains-clause-here : goal.returns-then-contains-clause-here
returns-then-contains-clause-here c =
    named_in c.args.columns.now c.args.column (subst (λ (cs : List ℕ). list_any (λ y. eqb y c.args.column) cs ≡ true) c.as_slice.ensures (sym c.contains.ensures.value ∙ c.if-contains.true))

pub returns-clause-here : goal.returns-clause-here
returns-clause-here c = subst (In c.args.column) (sym c.in_ok-push.ensures.ok) (In-append_right c.args.column c.args.columns.now (c.args.column ∷ []) (inl refl))

pub returns-clause-others : goal.returns-clause-others
returns-clause-others c x h = subst (In x) (sym c.in_ok-push.ensures.ok) (In-append_left x c.args.columns.now (c.args.column ∷ []) h)
