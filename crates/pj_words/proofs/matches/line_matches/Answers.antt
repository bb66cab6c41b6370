use Rattle.std.proofs.Common.{◌≡◌, ◌∙◌, ◌≤◌, ap, sym, subst, is_some, List, Option, Some, map, length}
use Rattle.std.proofs.lemmas.List.{length-map}
use Rattle.std.specs.String.{string_bytes}
use Rattle.clap.specs.Lexer.{usize_max}
use Rattle.clap.specs.Walk.{Row, Text}
use Rattle.clap.specs.Words.{subcommand_of}
use Rattle.pj_words.specs.Clap.{pj_app}
use Rattle.pj_words.specs.Matches.{IsFound, found_by, rows_under}
use Rattle.pj_words.specs.Request.{form_of, request_in, subcommand_in}
use Rattle.pj_words.specs.declared.tables.Subcommand.{Subcommand}
use Rattle.pj_words.proofs.Answered.{found_fits, found_is, line_found, line_taken, shape_of}
use Rattle.pj_words.proofs.Asked.{LineOf, line_of, request_is}
use Rattle.pj_words.proofs.Taken.{found_rows}
use Rattle.pj_words.proofs.matches.line_matches.Goals as goal

-- what clap finds is what the parts of the line make
rows_are : (words : List Text) (k : Subcommand) (l : LineOf words k) (m : Option (Text × List Row)) → length words ≤ usize_max → m ≡ subcommand_of pj_app words
    → m ≡ Some ((form_of k).command, found_rows (shape_of k) (form_of k) l.0)
rows_are words k l m few is = is ∙ line_found words k l.0 l.1 few

fits : (words : List Text) (k : Subcommand) (m : Option (Text × List Row)) → subcommand_in words ≡ Some k → length words ≤ usize_max → m ≡ subcommand_of pj_app words
    → IsFound k (rows_under m)
fits words k m e few is =
    let l = line_of words k e in
    subst (IsFound k) (sym (ap rows_under (rows_are words k l m few is))) (found_fits k l.0 l.1.line)

tells : (words : List Text) (k : Subcommand) (m : Option (Text × List Row)) → subcommand_in words ≡ Some k → length words ≤ usize_max → m ≡ subcommand_of pj_app words
    → request_in words ≡ Some (found_by k (rows_under m))
tells words k m e few is =
    let l = line_of words k e in
    request_is words k l.0 e l.1 ∙ ap (λ r. Some r) (sym (found_is k l.0 l.1.line) ∙ ap (found_by k) (sym (ap rows_under (rows_are words k l m few is))))

pub matches_of-requires : goal.matches_of-requires
matches_of-requires c =
    let words : List Text = map string_bytes c.args.words.now in
    let l = line_of words c.args.command c.requires in
    line_taken words c.args.command l.0 l.1 (rw length-map c.count_of-count.ensures)

pub returns-clause-some : goal.returns-clause-some
returns-clause-some c =
    let words : List Text = map string_bytes c.args.words.now in
    ap is_some (rows_are words c.args.command (line_of words c.args.command c.requires) _ (rw length-map c.count_of-count.ensures) c.in_ok-matches_of.ensures)

pub returns-clause-found : goal.returns-clause-found
returns-clause-found c = fits (map string_bytes c.args.words.now) c.args.command _ c.requires (rw length-map c.count_of-count.ensures) c.in_ok-matches_of.ensures

pub returns-clause-value : goal.returns-clause-value
returns-clause-value c = tells (map string_bytes c.args.words.now) c.args.command _ c.requires (rw length-map c.count_of-count.ensures) c.in_ok-matches_of.ensures
