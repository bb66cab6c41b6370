use Rattle.std.proofs.Common.{◌∙◌, ◌∷◌, ap, sym, List, drop, map, suc, Global}
use Rattle.std.specs.String.{string_bytes}
use Rattle.pj_words.specs.Form.{Text}
use Rattle.pj_words.proofs.Steps.{stops, texts_from}
use Rattle.pj_words.proofs.reader.reads_all.Goals as goal

pub returns-in-None : goal.returns-in-None
returns-in-None c =
    let more : List Text = map (string_bytes {Z = Global}) (drop (suc c.loop-word.word-index) c.args.words.now) in
    let first = texts_from (string_bytes {Z = Global}) c.args.words.now c.loop-word.word-index c.word-item.result c.loop-word-test.true in
    let same = c.as_str.ensures.value ∙ ap (string_bytes {Z = Global}) c.word-item.is in
    stops c.args.command c.loop-word.seen c.as_str.result.now _ more _ c.in-None.ensures (first ∙ ap (λ (t : Text). t ∷ more) (sym same)) c.loop-word.invariant
