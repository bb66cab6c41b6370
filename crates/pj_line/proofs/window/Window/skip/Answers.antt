use Rattle.std.proofs.Common.{◌≤◌, ◌+◌, ap, ◌∙◌, arith}
use Rattle.std.proofs.lemmas.Grind.{common_steps}
use Rattle.pj_line.specs.FirstFeed.{first_feed}
use Rattle.pj_line.proofs.Feeds.{is_first}
use Rattle.pj_line.proofs.Windows.{skipped}
use Rattle.pj_line.proofs.window.Window.skip.Goals as goal

pub invariant_of-self-clause-found : goal.invariant_of-self-clause-found
invariant_of-self-clause-found c = is_first c.part.result.now c.feed_behind-feed.result c.feed_behind-feed.ensures ∙ ap first_feed c.part.ensures

pub returns-clause-held : goal.returns-clause-held
returns-clause-held c =
    let w = c.args.self.now in
    let le : w.start + c.args.count ≤ w.end = grind (arith, common_steps) in
    skipped w.bytes.items w.start w.end c.args.count le
