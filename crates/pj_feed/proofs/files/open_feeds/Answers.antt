use Rattle.std.proofs.Common.{◌∙◌, ◌<◌, ◌≡◌, ◌+◌, [], ◌∷◌, IsTrue, ℕ, List, length, ap, Err, get_or, refl, subst, sym, arith}
use Rattle.std.specs.Prelude.{slice_index_or}
use Rattle.pj_plan.specs.Nodes.{streams_in}
use Rattle.pj_feed.specs.declared.stops.OpeningStop.TheVariants.{Fault}
use Rattle.pj_feed.proofs.Answered.{err_is}
use Rattle.pj_feed.proofs.Closing.{opened_still, falls_none}
use Rattle.pj_feed.proofs.Opening.{fault_of_next, feeds_more, count_more, opened_more, opens_keep, opens_own, opens_then, word_at}
use Rattle.pj_feed.proofs.Outside.{stay_all, stay_more, tries_first, tries_then}
use Rattle.pj_feed.proofs.StreamNodes.{count_numbers, met-there, node-met, schema-met}
use Rattle.pj_feed.proofs.files.open_feeds.Goals as goal

pub schema-schema-requires : goal.schema-schema-requires
schema-schema-requires g c = node-met c.args.plan.now.nodes c.streams-streams.result.now c.loop-i.i _ c.streams-streams.ensures c.loop-i-test.true refl

pub returns-in_err-feed-clause-opened : goal.returns-in_err-feed-clause-opened
returns-in_err-feed-clause-opened g c =
    let mid = g.F.Folder.state c.loop-i.folder in
    let now = g.F.Folder.state c.open_feed.new.folder in
    let some = c.open_feed.ensures.opened in
    opened_still mid.opened now.opened c.loop-i.feeds.items (opens_keep some.0 (c.as_slice.result.now ∷ []) mid now some.2) c.loop-i.invariant.opened

pub returns-in_err-feed-clause-some_opened : goal.returns-in_err-feed-clause-some_opened
returns-in_err-feed-clause-some_opened g c =
    let names = c.args.names.now in
    let name = c.as_slice.result.now in
    let first = g.F.Folder.state c.args.folder.now in
    let mid = g.F.Folder.state c.loop-i.folder in
    let now = g.F.Folder.state c.open_feed.new.folder in
    let at_stream = met-there c.args.plan.now.nodes c.streams-streams.result.now c.loop-i.i c.streams-streams.ensures c.loop-i-test.true in
    let low : c.loop-i.i < length names = omega (arith, at_stream, c.requires.each) in
    let at : name ≡ slice_index_or names c.loop-i.i [] = c.as_slice.ensures ∙ word_at names c.loop-i.i c.index-names-i.result low c.index-names-i.is in
    let tried = tries_then c.loop-i.i names name first mid now c.loop-i.invariant.opens c.open_feed.ensures.opened low at
    (stay_more c.loop-i.i names name first mid now low at c.loop-i.invariant.others c.open_feed.ensures.others) in
    (tried.0, let le = tried.1 in omega (arith, le, c.loop-i.invariant.count))

pub returns-in_err-feed-clause-others : goal.returns-in_err-feed-clause-others
returns-in_err-feed-clause-others g c =
    let names = c.args.names.now in
    let name = c.as_slice.result.now in
    let first = g.F.Folder.state c.args.folder.now in
    let mid = g.F.Folder.state c.loop-i.folder in
    let now = g.F.Folder.state c.open_feed.new.folder in
    let at_stream = met-there c.args.plan.now.nodes c.streams-streams.result.now c.loop-i.i c.streams-streams.ensures c.loop-i-test.true in
    let low : c.loop-i.i < length names = omega (arith, at_stream, c.requires.each) in
    let at : name ≡ slice_index_or names c.loop-i.i [] = c.as_slice.ensures ∙ word_at names c.loop-i.i c.index-names-i.result low c.index-names-i.is in
    stay_all (c.loop-i.i + 1) names first now (stay_more c.loop-i.i names name first mid now low at c.loop-i.invariant.others c.open_feed.ensures.others)

pub returns-in_err-feed-clause-fault : goal.returns-in_err-feed-clause-fault
returns-in_err-feed-clause-fault g c = λ stream is.
    let names = c.args.names.now in
    let at_stream = met-there c.args.plan.now.nodes c.streams-streams.result.now c.loop-i.i c.streams-streams.ensures c.loop-i-test.true in
    let low : c.loop-i.i < length names = omega (arith, at_stream, c.requires.each) in
    let at : c.as_slice.result.now ≡ slice_index_or names c.loop-i.i [] = c.as_slice.ensures ∙ word_at names c.loop-i.i c.index-names-i.result low c.index-names-i.is in
    let same = err_is c.from_residual.result _ c.from_residual.ensures.1 in
    let why : c.in_err-feed.field-0.0 ≡ Fault stream = cc (same, is) in
    fault_of_next c.loop-i.i stream names c.as_slice.result.now c.loop-i.feeds.items (g.F.Folder.state c.args.folder.now) (g.F.Folder.state c.loop-i.folder) (g.F.Folder.state c.open_feed.new.folder)
    c.loop-i.invariant.opens c.loop-i.invariant.later (c.in_err-feed.ensures.fault stream (ap Err why)) low at c.loop-i.invariant.count
    (stay_more c.loop-i.i names c.as_slice.result.now (g.F.Folder.state c.args.folder.now) (g.F.Folder.state c.loop-i.folder) (g.F.Folder.state c.open_feed.new.folder) low at c.loop-i.invariant.others c.open_feed.ensures.others)

pub loop-i-preserved : goal.loop-i-preserved
loop-i-preserved g c =
    let old = c.loop-i.invariant in
    let feed = c.in_ok-feed.feed in
    let feeds = c.loop-i.feeds.items in
    let news = c.push_reserved.new.self.items in
    let of = c.in_ok-feed.ensures in
    let kept = c.push_reserved.ensures in
    let first = g.F.Folder.state c.args.folder.now in
    let mid = g.F.Folder.state c.loop-i.folder in
    let now = g.F.Folder.state c.open_feed.new.folder in
    let names = c.args.names.now in
    let name = c.as_slice.result.now in
    let at_stream = met-there c.args.plan.now.nodes c.streams-streams.result.now c.loop-i.i c.streams-streams.ensures c.loop-i-test.true in
    let low : c.loop-i.i < length names = omega (arith, at_stream, c.requires.each) in
    let at : name ≡ slice_index_or names c.loop-i.i [] = c.as_slice.ensures ∙ word_at names c.loop-i.i c.index-names-i.result low c.index-names-i.is in
    record {
      count = count_more c.loop-i.i feeds news feed old.count kept.items;
      room = kept.capacity ∙ old.room;
      told = of.told ∙ old.told;
      contents = of.contents ∙ old.contents;
      feeds = feeds_more c.loop-i.i (streams_in c.args.plan.now.nodes) names first mid feeds news c.schema-schema.result.now c.index-names-i.result name feed old.feeds old.count at_stream c.requires.each
          (schema-met c.args.plan.now.nodes c.streams-streams.result.now c.loop-i.i (get_or c.streams-streams.result.now c.loop-i.i 0) c.schema-schema.result.now c.streams-streams.ensures c.loop-i-test.true refl c.schema-schema.ensures)
          c.index-names-i.is c.as_slice.ensures old.told old.contents of.feed kept.items;
      opened = opened_more now.opened feeds news feed (opened_still mid.opened now.opened feeds (opens_keep 1 (name ∷ []) mid now of.was_opened) old.opened)
          (subst (λ (n : List ℕ). IsTrue (now.opened n)) (sym of.feed.opened.named) (opens_own name [] mid now of.was_opened)) kept.items;
      opens = opens_then c.loop-i.i names name first mid now old.opens of.was_opened low at;
      last = λ n. of.last (λ e. cc e) n ∙ old.last n;
      later = falls_none first.faults mid.faults now.faults old.later of.later;
      others = stay_more c.loop-i.i names name first mid now low at old.others of.others;
    }

pub returns-clause-some_opened : goal.returns-clause-some_opened
returns-clause-some_opened g c =
    let names = c.args.names.now in
    let count = ap length c.streams-streams.ensures ∙ count_numbers c.args.plan.now.nodes in
    let end = c.loop-i.auto.i-end in
    let tried = tries_first c.loop-i.i names (g.F.Folder.state c.args.folder.now) (g.F.Folder.state c.loop-i.folder) (omega (arith, end, count, c.requires.each)) c.loop-i.invariant.opens c.loop-i.invariant.others in
    (tried.0, let le = tried.1 in omega (arith, le, c.loop-i.invariant.count))

pub returns-clause-others : goal.returns-clause-others
returns-clause-others g c = stay_all c.loop-i.i c.args.names.now (g.F.Folder.state c.args.folder.now) (g.F.Folder.state c.loop-i.folder) c.loop-i.invariant.others
