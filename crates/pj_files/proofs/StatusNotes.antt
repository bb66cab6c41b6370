-- The lines of statuses are notes, which spell no element.
use Rattle.std.proofs.Common.{◌++◌, List, ℕ, [], refl}
use Rattle.std.specs.Prelude.{codes}
use Rattle.std.specs.Fmt.{decimal}
use Rattle.pj_line.specs.Lines.{HasNo}
use Rattle.pj_line.proofs.Feeds.{has_no_both}
use Rattle.pj_element.proofs.Feeds.{decimal_no_feed}
use Rattle.pj_plan.specs.declared.fault.PlanWhy.{PlanWhy}
use Rattle.pj_plan.specs.declared.fault.PlanWhy.TheVariants.{NotAPlan, UnknownStatement, BadShape, NameTwice, UnknownName, UnknownColumn, ColumnTwice, KindsDiffer, BadClass, BadScheme, UsedTwiceOrNever, TooMany, Output, Unreadable}
use Rattle.pj_report.specs.declared.status.LimitOf.{LimitOf}
use Rattle.pj_report.specs.declared.status.LimitOf.TheVariants.{Plan, Script, Node, File}
use Rattle.pj_report.specs.declared.status.Status.TheVariants.{Usage, OpenFault, ReadFault, PlanRefused, FileCount, ScriptRefused, NoMemory, Limit}
use Rattle.pj_report.specs.Report.{fault_words, status_line}
use Rattle.pj_report.proofs.Fronts.{IsNoteLine}
use Rattle.pj_run.proofs.Notes.{NoFeed, and_then, literal, no_feeds, number}

pub usage_note : IsNoteLine (status_line [] Usage)
usage_note = record { words = codes "# usage: run PLAN FILE.. | replay PLAN SCRIPT FILE.. | check PLAN | make SEED N"; is = refl; note = refl; whole = no_feeds (codes "# usage: run PLAN FILE.. | replay PLAN SCRIPT FILE.. | check PLAN | make SEED N") refl }

pub open_fault_note : (n : ℕ) → IsNoteLine (status_line [] (OpenFault n))
open_fault_note n = record {
  words = codes "# stopped open fault operand " ++ decimal n;
  is = refl;
  note = refl;
  whole = has_no_both 10 (codes "# stopped open fault operand ") (decimal n) (no_feeds (codes "# stopped open fault operand ") refl) (decimal_no_feed n);
}

pub no_memory_note : (name : List ℕ) → IsNoteLine (status_line name NoMemory)
no_memory_note name = record { words = codes "# stopped no memory"; is = refl; note = refl; whole = no_feeds (codes "# stopped no memory") refl }

pub read_fault_note : (n : ℕ) → IsNoteLine (status_line [] (ReadFault n))
read_fault_note n = record {
  words = codes "# stopped read fault operand " ++ decimal n;
  is = refl;
  note = refl;
  whole = has_no_both 10 (codes "# stopped read fault operand ") (decimal n) (no_feeds (codes "# stopped read fault operand ") refl) (decimal_no_feed n);
}

pub limit_note : (what : LimitOf) (name : List ℕ) → HasNo 10 name → IsNoteLine (status_line name (Limit what))
limit_note Plan name none = record { words = codes "# stopped limit plan"; is = refl; note = refl; whole = no_feeds (codes "# stopped limit plan") refl }
limit_note Script name none = record { words = codes "# stopped limit script"; is = refl; note = refl; whole = no_feeds (codes "# stopped limit script") refl }
limit_note (Node node) name none = record {
  words = codes "# stopped limit node " ++ name;
  is = refl;
  note = refl;
  whole = has_no_both 10 (codes "# stopped limit node ") name (no_feeds (codes "# stopped limit node ") refl) none;
}
limit_note (File stream) name none = record {
  words = codes "# stopped limit file " ++ name;
  is = refl;
  note = refl;
  whole = has_no_both 10 (codes "# stopped limit file ") name (no_feeds (codes "# stopped limit file ") refl) none;
}

-- the words of a plan's fault
fault_words_no_feed : (why : PlanWhy) → NoFeed (fault_words why)
fault_words_no_feed NotAPlan = literal (codes " P1 not a plan") refl
fault_words_no_feed UnknownStatement = literal (codes " P2 unknown statement") refl
fault_words_no_feed BadShape = literal (codes " P3 bad shape") refl
fault_words_no_feed NameTwice = literal (codes " P4 name given twice") refl
fault_words_no_feed UnknownName = literal (codes " P5 unknown name") refl
fault_words_no_feed UnknownColumn = literal (codes " P6 unknown column") refl
fault_words_no_feed ColumnTwice = literal (codes " P7 column name twice") refl
fault_words_no_feed KindsDiffer = literal (codes " P8 kinds differ") refl
fault_words_no_feed BadClass = literal (codes " P9 bad class") refl
fault_words_no_feed BadScheme = literal (codes " P10 bad scheme") refl
fault_words_no_feed UsedTwiceOrNever = literal (codes " P11 used twice or never") refl
fault_words_no_feed TooMany = literal (codes " P12 too many") refl
fault_words_no_feed Output = literal (codes " P13 output") refl
fault_words_no_feed Unreadable = literal (codes " P14 unreadable line") refl

pub plan_refused_note : (line : ℕ) (why : PlanWhy) → IsNoteLine (status_line [] (PlanRefused line why))
plan_refused_note line why =
    let all : NoFeed (codes "# refused plan line " ++ decimal line ++ fault_words why) = and_then (and_then (literal (codes "# refused plan line ") refl) (number line)) (fault_words_no_feed why) in
    record { words = codes "# refused plan line " ++ decimal line ++ fault_words why; is = refl; note = refl; whole = all.it }

pub file_count_note : (want got : ℕ) → IsNoteLine (status_line [] (FileCount want got))
file_count_note want got =
    let all : NoFeed (codes "# refused files want " ++ decimal want ++ codes " got " ++ decimal got) = and_then (and_then (and_then (literal (codes "# refused files want ") refl) (number want)) (literal (codes " got ") refl)) (number got) in
    record { words = codes "# refused files want " ++ decimal want ++ codes " got " ++ decimal got; is = refl; note = refl; whole = all.it }

pub script_refused_note : (name : List ℕ) (line : ℕ) → IsNoteLine (status_line name (ScriptRefused line))
script_refused_note name line =
    let all : NoFeed (codes "# refused script line " ++ decimal line) = and_then (literal (codes "# refused script line ") refl) (number line) in
    record { words = codes "# refused script line " ++ decimal line; is = refl; note = refl; whole = all.it }
