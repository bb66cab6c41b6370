use Rattle.std.proofs.Common.{refl, sym, ap, ◌∙◌, subst, [], ◌∷◌, ◌++◌, ◌≡◌}
use Rattle.pj_turn.specs.History.{MayAct, Turned}
use Rattle.pj_turn.specs.Seats.{turn_fixed}
use Rattle.pj_turn.proofs.Turns.{in_turn, ready, turned, laid}
use Rattle.pj_turn.proofs.turn.Turn.with.Goals as goal

pub note-requires-clause-entries : goal.note-requires-clause-entries
note-requires-clause-entries g c = refl

pub note-requires-clause-by_seat : goal.note-requires-clause-by_seat
note-requires-clause-by_seat g c =
    let o = turn_fixed g.T.Kept.meaning.fixed c.args.self.now in
    let m = g.T.Kept.meaning in
    let a = g.A.Act.meaning c.args.act in
    let s = c.args.seat.now.seat.me in
    let has = ap (λ x. x.1) c.requires.name in
    let d = c.draw-ticket.ensures.drew in
    let i = in_turn m s c.draw-ticket.new.seat.me c.await_turn.new.seat.me c.lift-state.new.seat.me d.0 c.lift-state.result o d.2 c.await_turn.ensures.takes c.lift-state.ensures.holds.0 c.lift-state.ensures.holds.1 has in
    let may : MayAct m a o s.0.number s.0.seen = subst (λ n. MayAct m a o n s.0.seen) (sym c.args.seat.now.idle.5) c.requires.may in
    let r = ready m a s c.lift-state.new.seat.me d.0 c.lift-state.result o may i in
    let did = c.act-answer.ensures.done o _ _ i.log r in
    let e = a.entry s.0.number i.log c.act-answer.result in
    let same : (g.A.Act.meaning c.of-told.result.value).entry c.lift-state.new.seat.me.0.number c.lift-state.new.seat.me.0.seen c.act-answer.result ≡ e =
    λ k. (g.A.Act.meaning (c.of-told.ensures k)).entry (ap (λ v. v.number) i.view k) (ap (λ v. v.seen) i.view k) c.act-answer.result in
    ap m.number same ∙ (did.by_seat ∙ sym (ap (λ v. v.number) i.view))

pub note-requires-clause-keeps : goal.note-requires-clause-keeps
note-requires-clause-keeps g c =
    let o = turn_fixed g.T.Kept.meaning.fixed c.args.self.now in
    let m = g.T.Kept.meaning in
    let a = g.A.Act.meaning c.args.act in
    let s = c.args.seat.now.seat.me in
    let has = ap (λ x. x.1) c.requires.name in
    let d = c.draw-ticket.ensures.drew in
    let i = in_turn m s c.draw-ticket.new.seat.me c.await_turn.new.seat.me c.lift-state.new.seat.me d.0 c.lift-state.result o d.2 c.await_turn.ensures.takes c.lift-state.ensures.holds.0 c.lift-state.ensures.holds.1 has in
    let may : MayAct m a o s.0.number s.0.seen = subst (λ n. MayAct m a o n s.0.seen) (sym c.args.seat.now.idle.5) c.requires.may in
    let r = ready m a s c.lift-state.new.seat.me d.0 c.lift-state.result o may i in
    let did = c.act-answer.ensures.done o _ _ i.log r in
    let e = a.entry s.0.number i.log c.act-answer.result in
    let same : (g.A.Act.meaning c.of-told.result.value).entry c.lift-state.new.seat.me.0.number c.lift-state.new.seat.me.0.seen c.act-answer.result ≡ e =
    λ k. (g.A.Act.meaning (c.of-told.ensures k)).entry (ap (λ v. v.number) i.view k) (ap (λ v. v.seen) i.view k) c.act-answer.result in
    subst m.keeps (sym (λ k. ap (λ v. v.seen) i.view k ++ same k ∷ [])) did.keeps

pub serve-requires-clause-holds : goal.serve-requires-clause-holds
serve-requires-clause-holds g c =
    let o = turn_fixed g.T.Kept.meaning.fixed c.args.self.now in
    let m = g.T.Kept.meaning in
    let a = g.A.Act.meaning c.args.act in
    let s = c.args.seat.now.seat.me in
    let has = ap (λ x. x.1) c.requires.name in
    let d = c.draw-ticket.ensures.drew in
    let i = in_turn m s c.draw-ticket.new.seat.me c.await_turn.new.seat.me c.lift-state.new.seat.me d.0 c.lift-state.result o d.2 c.await_turn.ensures.takes c.lift-state.ensures.holds.0 c.lift-state.ensures.holds.1 has in
    let may : MayAct m a o s.0.number s.0.seen = subst (λ n. MayAct m a o n s.0.seen) (sym c.args.seat.now.idle.5) c.requires.may in
    let r = ready m a s c.lift-state.new.seat.me d.0 c.lift-state.result o may i in
    let did = c.act-answer.ensures.done o _ _ i.log r in
    let e = a.entry s.0.number i.log c.act-answer.result in
    let same : (g.A.Act.meaning c.of-told.result.value).entry c.lift-state.new.seat.me.0.number c.lift-state.new.seat.me.0.seen c.act-answer.result ≡ e =
    λ k. (g.A.Act.meaning (c.of-told.ensures k)).entry (ap (λ v. v.number) i.view k) (ap (λ v. v.seen) i.view k) c.act-answer.result in
    let is = laid m s c.lift-state.new.seat.me c.note.new.seat.me c.lay_back.new.seat.me d.0 c.lift-state.result c.act-answer.new.state o _ e has i same c.note.ensures.noted c.lay_back.ensures.holds c.act-answer.ensures.fixed in
    (c.act-answer.new.state, is.0, subst (m.stands c.act-answer.new.state) (sym is.1) did.standing, is.2)

pub returns-clause-turned : goal.returns-clause-turned
returns-clause-turned g c =
    let o = turn_fixed g.T.Kept.meaning.fixed c.args.self.now in
    let m = g.T.Kept.meaning in
    let a = g.A.Act.meaning c.args.act in
    let s = c.args.seat.now.seat.me in
    let has = ap (λ x. x.1) c.requires.name in
    let d = c.draw-ticket.ensures.drew in
    let i = in_turn m s c.draw-ticket.new.seat.me c.await_turn.new.seat.me c.lift-state.new.seat.me d.0 c.lift-state.result o d.2 c.await_turn.ensures.takes c.lift-state.ensures.holds.0 c.lift-state.ensures.holds.1 has in
    let may : MayAct m a o s.0.number s.0.seen = subst (λ n. MayAct m a o n s.0.seen) (sym c.args.seat.now.idle.5) c.requires.may in
    let r = ready m a s c.lift-state.new.seat.me d.0 c.lift-state.result o may i in
    let did = c.act-answer.ensures.done o _ _ i.log r in
    let e = a.entry s.0.number i.log c.act-answer.result in
    let same : (g.A.Act.meaning c.of-told.result.value).entry c.lift-state.new.seat.me.0.number c.lift-state.new.seat.me.0.seen c.act-answer.result ≡ e =
    λ k. (g.A.Act.meaning (c.of-told.ensures k)).entry (ap (λ v. v.number) i.view k) (ap (λ v. v.seen) i.view k) c.act-answer.result in
    let t = turned m a c.act-answer.result s c.lift-state.new.seat.me c.note.new.seat.me c.lay_back.new.seat.me c.serve.new.seat.me d.0 c.lift-state.result c.act-answer.new.state o _ i same c.note.ensures.noted c.lay_back.ensures.holds c.serve.ensures.served did c.act-answer.ensures.fixed in
    subst (λ n. Turned m a c.act-answer.result o n s.0.seen c.serve.new.seat.me.0.seen) c.args.seat.now.idle.5 t
