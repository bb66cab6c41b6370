use Rattle.std.proofs.Common.{◌≡◌, ◌∙◌, List, [], ◌∷◌, ◌++◌, false, length, take, ap, sym, subst}
use Rattle.pj_events.specs.Patterns.{Pattern}
use Rattle.pj_puncts.specs.declared.store.NumberedPunct.{NumberedPunct}
use Rattle.pj_puncts.specs.Alone.{HasTaken, IsTaken, kept_of}
use Rattle.pj_puncts.specs.Indexed.{IsFiled}
use Rattle.pj_puncts.specs.Numbers.{HasNone}
use Rattle.pj_puncts.specs.Stores.{IsAbove, Store}
use Rattle.pj_puncts.proofs.Alone.{front_is, moved, of, other_kept, other_stored, same_stored, taken_kept, taken_stored, unfiled_stored}
use Rattle.pj_puncts.proofs.store.PunctStore.push.Goals as goal

pub invariant_of-self : goal.invariant_of-self
invariant_of-self c = same_stored c.self.inside.arity c.self.inside.others c.self.inside.index c.self.inside.numbers c.file.new.self c.in_err-file.ensures.err c.self.invariant

pub invariant_of-self-then-branch : goal.invariant_of-self-then-branch
invariant_of-self-then-branch c =
    let s = c.self.inside in
    let size : length c.args.punct ≡ s.arity = c.requires.fits ∙ sym (ap (λ (t : Store). t.arity) c.self.view_is) in
    let above : IsAbove c.args.number (kept_of s.arity s.others s.numbers) = subst (IsAbove c.args.number) (sym (ap (λ (t : Store). t.kept) c.self.view_is)) c.requires.rises in
    let taken : HasTaken c.as_slice.result.now c.args.number s.numbers c.file.new.self = subst (IsTaken c.as_slice.result.now c.args.number s.numbers c.file.new.self) c.if-branch.true c.in_ok-file.ensures.ok in
    let own : HasTaken c.args.punct c.args.number s.numbers c.file.new.self = subst (λ (ps : List Pattern). HasTaken ps c.args.number s.numbers c.file.new.self) c.as_slice.ensures taken in
    taken_stored c.args.punct c.args.number s.arity s.others s.index s.numbers c.file.new.self own size above c.self.invariant

pub returns-then-branch-clause-ok : goal.returns-then-branch-clause-ok
returns-then-branch-clause-ok c =
    let s = c.self.inside in
    let size : length c.args.punct ≡ s.arity = c.requires.fits ∙ sym (ap (λ (t : Store). t.arity) c.self.view_is) in
    let above : IsAbove c.args.number (kept_of s.arity s.others s.numbers) = subst (IsAbove c.args.number) (sym (ap (λ (t : Store). t.kept) c.self.view_is)) c.requires.rises in
    let taken : HasTaken c.as_slice.result.now c.args.number s.numbers c.file.new.self = subst (IsTaken c.as_slice.result.now c.args.number s.numbers c.file.new.self) c.if-branch.true c.in_ok-file.ensures.ok in
    let own : HasTaken c.args.punct c.args.number s.numbers c.file.new.self = subst (λ (ps : List Pattern). HasTaken ps c.args.number s.numbers c.file.new.self) c.as_slice.ensures taken in
    taken_kept c.args.punct c.args.number s.arity s.others s.numbers c.file.new.self own size above ∙ ap (λ (t : Store). t.kept ++ of c.args.punct c.args.number ∷ []) c.self.view_is

pub invariant_of-self-in-Ok : goal.invariant_of-self-in-Ok
invariant_of-self-in-Ok c =
    let s = c.self.inside in
    let k : NumberedPunct = of c.args.punct c.args.number in
    let size : length c.args.punct ≡ s.arity = c.requires.fits ∙ sym (ap (λ (t : Store). t.arity) c.self.view_is) in
    let above : IsAbove c.args.number (kept_of s.arity s.others s.numbers) = subst (IsAbove c.args.number) (sym (ap (λ (t : Store). t.kept) c.self.view_is)) c.requires.rises in
    let left : IsTaken c.as_slice.result.now c.args.number s.numbers c.file.new.self false = subst (IsTaken c.as_slice.result.now c.args.number s.numbers c.file.new.self) c.if-branch.false c.in_ok-file.ensures.ok in
    let none : HasNone c.args.punct = subst HasNone c.as_slice.ensures left.0 in
    let filed : IsFiled (s.others ++ k ∷ []) s.index c.file-2.new.self = subst (λ (ks : List NumberedPunct). IsFiled ks s.index c.file-2.new.self) (c.as_slice-2.ensures ∙ c.in_ok-push.ensures.ok) c.in-Ok.ensures.ok in
    moved s.arity (s.others ++ k ∷ []) c.push.new.self c.file-2.new.self s.numbers c.file.new.self c.in_ok-push.ensures.ok left.1
    (other_stored s.arity s.others s.index c.file-2.new.self s.numbers k none size above filed c.self.invariant)

pub invariant_of-self-in-Err : goal.invariant_of-self-in-Err
invariant_of-self-in-Err c =
    let s = c.self.inside in
    let k : NumberedPunct = of c.args.punct c.args.number in
    let left : IsTaken c.as_slice.result.now c.args.number s.numbers c.file.new.self false = subst (IsTaken c.as_slice.result.now c.args.number s.numbers c.file.new.self) c.if-branch.false c.in_ok-file.ensures.ok in
    let back : c.truncate.new.self ≡ s.others =
    c.truncate.ensures ∙ (ap (λ (ks : List NumberedPunct). take c.len-at.result ks) c.in_ok-push.ensures.ok ∙ (ap (λ n. take n (s.others ++ k ∷ [])) c.len-at.ensures ∙ front_is s.others k)) in
    moved s.arity s.others c.truncate.new.self c.file-2.new.self s.numbers c.file.new.self back left.1
    (unfiled_stored s.arity (kept_of s.arity s.others s.numbers) s.others s.index c.file-2.new.self s.numbers c.in-Err.ensures.err c.self.invariant)

pub returns-in-Ok-clause-ok : goal.returns-in-Ok-clause-ok
returns-in-Ok-clause-ok c =
    let s = c.self.inside in
    let k : NumberedPunct = of c.args.punct c.args.number in
    let above : IsAbove c.args.number (kept_of s.arity s.others s.numbers) = subst (IsAbove c.args.number) (sym (ap (λ (t : Store). t.kept) c.self.view_is)) c.requires.rises in
    let left : IsTaken c.as_slice.result.now c.args.number s.numbers c.file.new.self false = subst (IsTaken c.as_slice.result.now c.args.number s.numbers c.file.new.self) c.if-branch.false c.in_ok-file.ensures.ok in
    ap (kept_of s.arity c.push.new.self) left.1
    ∙ (ap (λ (ks : List NumberedPunct). kept_of s.arity ks s.numbers) c.in_ok-push.ensures.ok
    ∙ (other_kept s.arity s.others s.numbers k above ∙ ap (λ (t : Store). t.kept ++ k ∷ []) c.self.view_is))
