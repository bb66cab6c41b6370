use Rattle.std.proofs.Common.{List, [], ◌∷◌, ℕ, ◌<◌, ◌≡◌, cond, eqb, get_or, length, Some, ◌∙◌, ap, ap₂, refl, subst, arith, true}
use Rattle.std.specs.Option.{IsSome}
use Rattle.indexmap.specs.IndexMap.{get}
use Rattle.pj_puncts.specs.declared.index.ShapeSet.{ShapeSet}
use Rattle.pj_puncts.specs.Hashes.{constants_of, hash_of}
use Rattle.pj_puncts.specs.Indexed.{ChainGrew}
use Rattle.pj_puncts.specs.Numbers.{numbers_in}
use Rattle.pj_puncts.proofs.Filing.{changed_by, chain_starts, own_is, set_took, set_took_on}
use Rattle.pj_puncts.proofs.index.ShapeSet.file.Goals as goal

pub returns-in-Some-clause-ok : goal.returns-in-Some-clause-ok
returns-in-Some-clause-ok c =
    set_took_on c.args.kept.now c.args.at c.constants_hash-hash_value.result c.args.self.now (record { marks = c.args.self.now.marks; bound = c.args.self.now.bound; chains = c.get_mut.follows.lender c.extend.new.chain })
    (get_or c.args.kept.now c.args.at c.index-kept-at.result) c.in-Some.chain.now c.extend.new.chain c.extend.result c.requires.fits (omega (arith, c.requires.last)) (own_is c.args.kept.now c.args.at c.index-kept-at.result (omega (arith, c.requires.last)))
    (c.constants_hash-hash_value.ensures ∙ ap₂ (λ ms ps. hash_of ms (constants_of ps)) c.as_slice.ensures c.as_slice-2.ensures) refl
    (changed_by c.constants_hash-hash_value.result c.args.self.now.chains (c.get_mut.follows.lender c.extend.new.chain) c.extend.new.chain (((c.get_mut.follows.holds c.extend.new.chain).3 (subst IsSome c.in-Some.ensures.value refl)).0))
    (ap numbers_in c.in-Some.ensures.value) c.extend.ensures.ok

pub returns-in_ok-insert-in-None-clause-ok : goal.returns-in_ok-insert-in-None-clause-ok
returns-in_ok-insert-in-None-clause-ok c =
    let new : ShapeSet = record { marks = c.args.self.now.marks; bound = c.args.self.now.bound; chains = c.insert.new.self } in
    let q = get_or c.args.kept.now c.args.at c.index-kept-at.result in
    let lt : c.args.at < length c.args.kept.now = omega (arith, c.requires.last) in
    let own : q ≡ get_or c.args.kept.now c.args.at q = own_is c.args.kept.now c.args.at c.index-kept-at.result lt in
    let starts : ChainGrew c.args.kept.now c.args.at [] (c.args.at ∷ []) = chain_starts c.args.kept.now c.args.at q (c.args.at ∷ []) c.requires.last own refl in
    set_took c.args.kept.now c.args.at c.constants_hash-hash_value.result c.args.self.now new q (c.args.at ∷ []) true c.requires.fits lt own
    (c.constants_hash-hash_value.ensures ∙ ap₂ (λ ms ps. hash_of ms (constants_of ps)) c.as_slice.ensures c.as_slice-2.ensures) refl
    (changed_by c.constants_hash-hash_value.result c.args.self.now.chains c.insert.new.self (c.args.at ∷ [])
    (λ n. c.in_ok-insert-in-None.ensures.updates.0 n
    ∙ ap (λ m. cond (eqb c.constants_hash-hash_value.result n) (Some c.one.result) (get eqb m n)) c.get_mut.follows.holds-at-none
    ∙ ap (λ (ns : List ℕ). cond (eqb c.constants_hash-hash_value.result n) (Some ns) (get eqb c.args.self.now.chains n)) c.one.ensures))
    (subst (λ (ns : List ℕ). ChainGrew c.args.kept.now c.args.at ns (c.args.at ∷ [])) (ap numbers_in c.in-None.ensures.value) starts)
