use Rattle.std.proofs.Common.{List, false, ◌≡◌, length, sym, ◌∙◌, subst, arith}
use Rattle.std.proofs.lemmas.Bool.{ltb-true}
use Rattle.pj_shape.specs.Instances.{instance_of}
use Rattle.pj_puncts.specs.declared.store.NumberedPunct.{NumberedPunct}
use Rattle.pj_puncts.specs.Stores.{covered_by_any}
use Rattle.pj_flow.specs.Stored.{IsStore}
use Rattle.pj_flow.proofs.Sampling.{ruled_out}
use Rattle.pj_flow.proofs.Storing.{store_got}
use Rattle.pj_flow.proofs.stores.looked_up.Goals as goal

held : (c : goal.In-Some) → IsStore c.args.arity c.args.older.now c.args.input c.in-Some.store.now
held c =
    store_got c.args.arity c.args.older.now 0 c.args.stores.now c.args.input c.args.input c.in-Some.store.now _ (omega arith) c.requires.stored (ltb-true c.args.input (length c.args.stores.now) (sym c.in-Some.ensures.lookup.0))
    c.in-Some.ensures.lookup.1

pub covering-requires-clause-fits : goal.covering-requires-clause-fits
covering-requires-clause-fits c = c.requires.fits.wide ∙ sym (held c).wide

pub returns-in-None-covering : goal.returns-in-None-covering
returns-in-None-covering c =
    let store : IsStore c.args.arity c.args.older.now c.args.input c.in-Some.store.now =
    store_got c.args.arity c.args.older.now 0 c.args.stores.now c.args.input c.args.input c.in-Some.store.now _ (omega arith) c.requires.stored (ltb-true c.args.input (length c.args.stores.now) (sym c.in-Some.ensures.lookup.0))
    c.in-Some.ensures.lookup.1 in
    sym (ruled_out c.args.input 0 c.args.older.now c.args.waits.now c.args.sample.now.scheme c.args.sample.now.values c.requires.fits.matched
    (subst (λ (ks : List NumberedPunct). covered_by_any ks (instance_of c.args.sample.now.scheme c.args.sample.now.values) ≡ false) store.has c.in-None-covering.ensures))
