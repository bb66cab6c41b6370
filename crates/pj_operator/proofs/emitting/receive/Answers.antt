use Rattle.pj_operator.proofs.Emits.{stays_set}
use Rattle.pj_operator.proofs.emitting.receive.Goals as goal

pub returns-in-Ok-clause-stays : goal.returns-in-Ok-clause-stays
returns-in-Ok-clause-stays c =
    stays_set c.args.operators.now c.args.place c.index-operators-place.result c.on_element.new.self c.requires.there c.on_element.ensures.frame c.on_element.ensures.peak c.on_element.ensures.open

pub returns-in-Err-Limit-clause-stays : goal.returns-in-Err-Limit-clause-stays
returns-in-Err-Limit-clause-stays c =
    stays_set c.args.operators.now c.args.place c.index-operators-place.result c.on_element.new.self c.requires.there c.on_element.ensures.frame c.on_element.ensures.peak c.on_element.ensures.open

pub returns-in-Err-NoMemory-clause-stays : goal.returns-in-Err-NoMemory-clause-stays
returns-in-Err-NoMemory-clause-stays c =
    stays_set c.args.operators.now c.args.place c.index-operators-place.result c.on_element.new.self c.requires.there c.on_element.ensures.frame c.on_element.ensures.peak c.on_element.ensures.open
