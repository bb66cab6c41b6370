use Rattle.std.proofs.Common.{ℕ, List, [], ◌∷◌, ◌++◌, Result, Ok, Err, OnErr, length, get_or, sym, ap, ◌∙◌, subst, arith}
use Rattle.std.proofs.Math.ListN.{set}
use Rattle.pj_events.specs.Patterns.{Pattern}
use Rattle.pj_puncts.specs.Stores.{IsAbove}
use Rattle.pj_puncts.specs.declared.store.NumberedPunct.{NumberedPunct}
use Rattle.pj_flow.specs.Stored.{AreStored}
use Rattle.pj_flow.proofs.Storing.{filed, numbers_below, refused, store_got, unfiled}
use Rattle.pj_flow.proofs.stores.file.Goals as goal

errs : {A E P : Type 0} (r : Result A E) → P → OnErr r P
errs (Ok a) p = tt
errs (Err e) p = p

pub returns-then-input-len-clause-ok : goal.returns-then-input-len-clause-ok
returns-then-input-len-clause-ok c =
    unfiled c.args.arity c.args.older.now c.args.newest.now 0 c.args.stores.now.items (omega (arith, c.if-input-len.true, c.len.ensures, c.input-input.ensures)) c.requires.stored

pub push-requires-clause-fits : goal.push-requires-clause-fits
push-requires-clause-fits c =
    ap (λ (ps : List Pattern). length ps) (c.in_ok-copy.ensures ∙ c.punct.ensures) ∙ (c.requires.fits
    ∙ sym (store_got c.args.arity c.args.older.now 0 c.args.stores.now.items c.input-input.result c.input-input.result c.index_mut.result.now c.index_mut.result.now (omega arith) c.requires.stored (omega (arith, c.if-input-len.false, c.len.ensures)) c.index_mut.ensures.value).wide)

pub push-requires-clause-rises : goal.push-requires-clause-rises
push-requires-clause-rises c =
    subst (λ (ks : List NumberedPunct). IsAbove (length c.args.older.now) ks)
    (sym (store_got c.args.arity c.args.older.now 0 c.args.stores.now.items c.input-input.result c.input-input.result c.index_mut.result.now c.index_mut.result.now (omega arith) c.requires.stored (omega (arith, c.if-input-len.false, c.len.ensures)) c.index_mut.ensures.value).has)
    (numbers_below c.input-input.result 0 c.args.older.now (length c.args.older.now) (omega arith))

pub returns-in_err-push-clause-err : goal.returns-in_err-push-clause-err
returns-in_err-push-clause-err c =
    errs c.from_residual-in_err-push.result
    (refused c.args.arity c.args.older.now c.input-input.result c.args.stores.now.items c.index_mut.result.now c.push.new.self (omega (arith, c.if-input-len.false, c.len.ensures)) c.index_mut.ensures.value c.requires.stored
    c.push.ensures.arity c.in_err-push.ensures.err)

pub returns-clause-ok : goal.returns-clause-ok
returns-clause-ok c =
    subst (λ (i : ℕ). AreStored c.args.arity (c.args.older.now ++ c.args.newest.now ∷ []) 0 (set c.args.stores.now.items i c.push.new.self)) (sym c.input-input.ensures)
    (filed c.args.arity c.args.older.now c.args.newest.now c.args.stores.now.items c.index_mut.result.now c.push.new.self (omega (arith, c.if-input-len.false, c.len.ensures, c.input-input.ensures))
    (c.index_mut.ensures.value ∙ ap (λ (i : ℕ). get_or c.args.stores.now.items i c.index_mut.result.now) c.input-input.ensures) c.requires.stored c.push.ensures.arity
    (c.in_ok-push.ensures.ok ∙ ap (λ (ps : List Pattern). c.index_mut.result.now.kept ++ record { punct = ps; number = length c.args.older.now } ∷ []) (c.in_ok-copy.ensures ∙ c.punct.ensures)))
