use Rattle.pj_flow.specs.Insides.{SentFrom}
use Rattle.pj_flow.proofs.union.all_let_go.Given as goal

abbrev pub invariant-loop-input : goal.invariant-loop-input
invariant-loop-input l = SentFrom l.inputs l.came l.waits l.input
