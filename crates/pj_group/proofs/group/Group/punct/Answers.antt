use Rattle.pj_group.proofs.Shutting.{punct_hands, punct_keeps}
use Rattle.pj_group.proofs.group.Group.punct.Goals as goal

pub returns-clause-keeps : goal.returns-clause-keeps
returns-clause-keeps c =
    punct_keeps c.args.self.now c.self.inside.spec c.self.inside.limit c.self.inside.count c.self.inside.slots.entries c.close.new.slots.entries c.args.punct c.self.view_is c.in_ok-close.ensures.keeps

pub returns-clause-hands : goal.returns-clause-hands
returns-clause-hands c =
    punct_hands c.args.self.now c.self.inside.spec c.self.inside.limit c.self.inside.count c.self.inside.slots.entries c.args.out.now c.close.new.out c.args.punct c.self.view_is c.in_ok-close.ensures.hands
