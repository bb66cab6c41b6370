use Rattle.pj_element.proofs.Splits.{range_cut}
use Rattle.pj_element.proofs.forms.read_range.Goals as goal

pub returns-in-Some : goal.returns-in-Some
returns-in-Some c =
    let cut = range_cut c.args.inner.now c.split_at.result.0.now c.split_at.result.1.now c.split_at-in-Some.result.1.now c.in-Some.at c.in-Some.ensures c.split_at.ensures.front c.split_at.ensures.back c.split_at-in-Some.ensures.back in
    rw cut c.read_ends.ensures
