use Rattle.std.proofs.Common.{List, ℕ, Option, ap, sym, subst, arith, length}
use Rattle.std.specs.Option.{is_some}
use Rattle.indexmap.specs.IndexMap.{get}
use Rattle.pj_state.specs.Numbers.{listed}
use Rattle.pj_state.specs.Keys.{same_text, text_key}
use Rattle.pj_state.specs.Rising.{IsRising, itself}
use Rattle.pj_state.proofs.Told.{fewer-gone, text_tells}
use Rattle.pj_state.proofs.index.take_from_text.Goals as goal

pub returns-then-as_slice-eq0 : goal.returns-then-as_slice-eq0
returns-then-as_slice-eq0 c = λ rising.
    let key = text_key c.args.key.bytes.now in
    let left = c.take.new.self in
    let through = c.get_mut.follows.holds left in
    let is = c.in-Some.ensures.value in
    let rises : IsRising itself c.in-Some.tickets.now = subst (λ (o : Option (List ℕ)). IsRising itself (listed o)) (sym is) rising in
    fewer-gone same_text text_tells (get same_text c.args.texts.now) (get same_text (c.get_mut.follows.lender left)) (get same_text c.swap_remove.new.self) key c.args.ticket c.in-Some.tickets.now left
    (through.3 (ap is_some (sym is))).0 c.swap_remove.ensures.updates.0 is (c.take.ensures.taken rises) (omega (arith, c.if-as_slice-eq0.true, ap length c.as_slice.ensures))
