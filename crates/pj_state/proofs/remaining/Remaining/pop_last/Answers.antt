use Rattle.std.proofs.Common.{◌≡◌, ◌∙◌, ◌-◌, List, drop, take, length, ap, arith}
use Rattle.pj_state.proofs.Passed.{pop_last}
use Rattle.pj_state.proofs.remaining.Remaining.pop_last.Goals as goal

pub returns-then-self-len : goal.returns-then-self-len
returns-then-self-len g c = λ front last is.
    let long : c.len-len.result ≡ length c.self.inside.list.items = omega (arith, c.len-len.ensures, c.self.inside.list.ok) in
    ap (λ (xs : List _). drop c.self.inside.start xs) (c.truncate.ensures.items ∙ ap (λ n. take (n - 1) c.self.inside.list.items) long)
    ∙ pop_last c.self.inside.list.items c.self.inside.start front last (c.self.view_is ∙ is)
