-- Whole lines that were written, one call after another.
use Rattle.std.specs.Prelude.{if◌then◌else◌}
use Rattle.std.proofs.Common.{◌≡◌, ℕ, Bool, true, false, List, [], ◌∷◌, ◌++◌, map, Option, Some, None, Result, Ok, Err, IsErrAnd, refl, sym, append-nil, subst}
use Rattle.pj_value.specs.declared.values.Value.{Value}
use Rattle.pj_element.specs.Elements.{row_line, punct_line}
use Rattle.pj_element.proofs.Feeds.{row_no_feed, punct_no_feed}
use Rattle.pj_events.specs.declared.events.Out.{Out}
use Rattle.pj_events.specs.declared.events.Out.TheVariants.{Tuple, Punct, Purged}
use Rattle.pj_events.specs.declared.events.Stop.{Stop}
use Rattle.pj_events.specs.declared.events.Stop.TheVariants.{Limit, NoMemory}
use Rattle.pj_io.specs.States.{SinkState}
use Rattle.pj_pattern.specs.Patterns.{Pattern}
use Rattle.pj_pattern.specs.declared.element.Element.{Element}
use Rattle.pj_element.specs.declared.tally.Tally.{Tally}
use Rattle.pj_element.specs.Runs.{rows_of, puncts_of}
use Rattle.pj_plan.specs.Nodes.{streams_in}
use Rattle.pj_plan.specs.declared.node.PlanNode.{PlanNode}
use Rattle.pj_report.specs.declared.stops.WriteStop.{WriteStop}
use Rattle.pj_report.specs.declared.stops.WriteStop.TheVariants.{Failed, NoMemory as WriteMemory}
use Rattle.pj_report.specs.declared.writer.Form.{Form}
use Rattle.pj_report.specs.declared.writer.Form.TheVariants.{AsTheyCome, Sorted, Summed}
use Rattle.pj_report.specs.Forms.{shown, withheld}
use Rattle.pj_report.specs.Results.{out_line, out_lines}
use Rattle.pj_report.specs.Sorted.{fed_punct, fed_row, is_below, punct_lines, put_line, row_lines, sorted_lines}
use Rattle.pj_report.specs.Written.{anywhere, between, flat, write_cut, Cut, Leaves, WritesBy}
use Rattle.pj_report.proofs.Fronts.{AreNotes, IsNoteLine}
use Rattle.pj_report.proofs.LinesWritten.{written_then}
use Rattle.pj_run.specs.Cuts.{turn_cut}
use Rattle.pj_run.specs.Outcome.{tally_lines}
use Rattle.pj_run.specs.PlanNames.{HasShortNames}
use Rattle.pj_run.specs.Stops.{end_of}
use Rattle.pj_run.specs.Whole.{AreLines, IsLine, LeavesWhole, WroteLines, WroteWhole}
use Rattle.pj_run.specs.declared.stops.TurnStop.{TurnStop}
use Rattle.pj_run.proofs.Notes.{purge_note, streams_plain, tallies_note}

-- ---- lines

lines-both : (xs ys : List (List ℕ)) → AreLines xs → AreLines ys → AreLines (xs ++ ys)
lines-both [] ys a b = b
lines-both (x ∷ xs) ys a b = (a.0, lines-both xs ys a.1 b)

first_lines : (xs ys : List (List ℕ)) → AreLines (xs ++ ys) → AreLines xs
first_lines [] ys a = tt
first_lines (x ∷ xs) ys a = (a.0, first_lines xs ys a.1)

pub notes_are_lines : (lines : List (List ℕ)) → AreNotes lines → AreLines lines
notes_are_lines [] notes = tt
notes_are_lines (line ∷ lines) notes = ((notes.0.words, notes.0.is, notes.0.whole), notes_are_lines lines notes.1)

pub note_is_line : (line : List ℕ) → IsNoteLine line → AreLines (line ∷ [])
note_is_line line note = notes_are_lines (line ∷ []) (note, tt)

-- the lines of the streams that the nodes of a plan are
pub tallies_are_lines : (nodes given : List PlanNode) (tallies : List Tally) → given ≡ nodes → HasShortNames nodes → AreLines (tally_lines (streams_in given) tallies)
tallies_are_lines nodes given tallies same plain =
    notes_are_lines (tally_lines (streams_in given) tallies) (tallies_note (streams_in given) tallies (streams_plain given (subst HasShortNames (sym same) plain)))

-- what is handed out
out_is_line : (nodes : List PlanNode) (out : Out) → HasShortNames nodes → IsLine (out_line nodes out)
out_is_line nodes (Tuple row) plain = (row_line row, refl, row_no_feed row)
out_is_line nodes (Punct patterns) plain = (punct_line patterns, refl, punct_no_feed patterns)
out_is_line nodes (Purged join input row) plain = let note = purge_note nodes join input row plain in (note.words, note.is, note.whole)

outs_are_lines : (nodes : List PlanNode) (outs : List Out) → HasShortNames nodes → AreLines (out_lines nodes outs)
outs_are_lines nodes [] plain = tt
outs_are_lines nodes (out ∷ outs) plain = (out_is_line nodes out plain, outs_are_lines nodes outs plain)

pub shown_are_lines : (form : Form) (nodes : List PlanNode) (outs : List Out) → HasShortNames nodes → AreLines (shown form nodes outs)
shown_are_lines AsTheyCome nodes outs plain = outs_are_lines nodes outs plain
shown_are_lines Sorted nodes outs plain = tt
shown_are_lines Summed nodes outs plain = tt

-- sorted lines
put_in : (line : List ℕ) (lines : List (List ℕ)) → IsLine line → AreLines lines → AreLines (put_line line lines)
put_in line [] is are = (is, tt)
put_in line (first ∷ lines) is are = go (is_below first line) (put_in line lines is are.1)
  where
    go : (b : Bool) → AreLines (put_line line lines) → AreLines (if b then first ∷ put_line line lines else line ∷ first ∷ lines)
    go true more = (are.0, more)
    go false more = (is, are)

sorted_are_lines : (lines : List (List ℕ)) → AreLines lines → AreLines (sorted_lines lines)
sorted_are_lines [] are = tt
sorted_are_lines (line ∷ lines) are = put_in line (sorted_lines lines) are.0 (sorted_are_lines lines are.1)

rows_are_lines : (rows : List (List Value)) → AreLines (map fed_row rows)
rows_are_lines [] = tt
rows_are_lines (row ∷ rows) = ((row_line row, refl, row_no_feed row), rows_are_lines rows)

puncts_are_lines : (puncts : List (List Pattern)) → AreLines (map fed_punct puncts)
puncts_are_lines [] = tt
puncts_are_lines (punct ∷ puncts) = ((punct_line punct, refl, punct_no_feed punct), puncts_are_lines puncts)

pub withheld_are_lines : (form : Form) (es : List Element) → AreLines (withheld form es)
withheld_are_lines AsTheyCome es = tt
withheld_are_lines Sorted es =
    lines-both (sorted_lines (row_lines es)) (sorted_lines (punct_lines es)) (sorted_are_lines (row_lines es) (rows_are_lines (rows_of es))) (sorted_are_lines (punct_lines es) (puncts_are_lines (puncts_of es)))
withheld_are_lines Summed es = tt

-- ---- what was written

pub none_wrote : (before : List ℕ) → WroteLines before before
none_wrote before = record { lines = []; whole = tt; written = sym (append-nil before) }

pub wrote_same : (before mid after : List ℕ) → after ≡ mid → WroteLines before mid → WroteLines before after
wrote_same before mid after same wrote = subst (WroteLines before) (sym same) wrote

pub lines_wrote : (lines : List (List ℕ)) (before after : List ℕ) → AreLines lines → after ≡ before ++ flat lines → WroteLines before after
lines_wrote lines before after are written = record { lines = lines; whole = are; written = written }

-- whole lines, and then others
pub wrote_then : (before mid after : List ℕ) → WroteLines before mid → WroteLines mid after → WroteLines before after
wrote_then before mid after first second = record {
  lines = first.lines ++ second.lines;
  whole = lines-both first.lines second.lines first.whole second.whole;
  written = written_then first.lines second.lines before mid after first.written second.written;
}

pub leaves_wrote : (cut : Cut) (before after : List ℕ) → WroteLines before after → LeavesWhole cut before after
leaves_wrote anywhere before after wrote = tt
leaves_wrote between before after wrote = wrote

pub leaves_then : (cut : Cut) (before mid after : List ℕ) → WroteLines before mid → LeavesWhole cut mid after → LeavesWhole cut before after
leaves_then anywhere before mid after first leaves = tt
leaves_then between before mid after first leaves = wrote_then before mid after first leaves

-- these lines, or as much of them as a stop leaves
pub leaves_lines : (cut : Cut) (lines : List (List ℕ)) (before after : List ℕ) → AreLines lines → Leaves cut lines before after → LeavesWhole cut before after
leaves_lines anywhere lines before after are leaves = tt
leaves_lines between lines before after are leaves = record {
  lines = leaves.first;
  whole = first_lines leaves.first leaves.others (subst AreLines (sym leaves.all) are);
  written = leaves.written;
}

pub wrote_lines : {T E : Type 0} (cut : E → Cut) (lines : List (List ℕ)) (old new : SinkState) (result : Result T E) → AreLines lines → WritesBy cut lines old new result → WroteWhole cut old new result
wrote_lines cut lines old new (Ok x) are writes = record { lines = lines; whole = are; written = writes }
wrote_lines cut lines old new (Err stop) are writes = leaves_lines (cut stop) lines old.written new.written are writes

-- a stop that is handed on
pub stop_wrote : {T E : Type 0} (cut : E → Cut) (result : Result T E) (stop : E) (old new : SinkState) → LeavesWhole (cut stop) old.written new.written → IsErrAnd result (λ x. x ≡ stop) → WroteWhole cut old new result
stop_wrote cut (Ok x) stop old new leaves is = absurd is
stop_wrote cut (Err e) stop old new leaves is = subst (λ s. LeavesWhole (cut s) old.written new.written) (sym is) leaves

-- ---- a turn's end

pub end_wrote : (written : Result (Unit {0}) WriteStop) (given : Option Stop) (result : Result (Unit {0}) TurnStop) (before after : SinkState) → result ≡ end_of written given → WroteWhole write_cut before after written
    → WroteWhole turn_cut before after result
end_wrote written given result before after gives wrote = subst (WroteWhole turn_cut before after) (sym gives) (go written given wrote)
  where
    go : (w : Result (Unit {0}) WriteStop) (g : Option Stop) → WroteWhole write_cut before after w → WroteWhole turn_cut before after (end_of w g)
    go (Ok u) None wrote = wrote
    go (Err Failed) None wrote = tt
    go (Err WriteMemory) None wrote = wrote
    go (Ok u) (Some (Limit node)) wrote = wrote
    go (Ok u) (Some NoMemory) wrote = wrote
    go (Err Failed) (Some stop) wrote = tt
    go (Err WriteMemory) (Some stop) wrote = wrote
