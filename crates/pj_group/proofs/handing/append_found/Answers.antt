use Rattle.std.proofs.Common.{◌++◌, ap, ◌∙◌}
use Rattle.pj_group.proofs.FoundPlaces.{found_hands, ok_weaker}
use Rattle.pj_group.proofs.handing.append_found.Goals as goal

pub returns-clause-ok : goal.returns-clause-ok
returns-clause-ok c =
    ok_weaker c.append_places.result _ _ (λ e. e ∙ ap (λ es. c.args.out.now ++ es) (found_hands c.args.kept.now c.args.slots.now.entries c.args.places.now c.requires.found)) c.append_places.ensures.ok
