-- The status and the text of each answer.
use Rattle.std.specs.Prelude.{ℕ, ◌≢◌, ◌<◌, true, false, List, [], ◌++◌, codes, decimal, length, slice_index_or, Option, Some, None}
use Rattle.occ_run_schedule.specs.occ_usage.declared.fault.UsageFault.{UsageFault}
use Rattle.occ_run_schedule.specs.occ_usage.declared.fault.UsageFault.TheVariants as shared
use Rattle.occ_replay.specs.occ_lex.declared.fault.LineFault.{LineFault}
use Rattle.occ_replay.specs.occ_lex.declared.fault.LineFault.TheVariants.{Tab, OddIndent, Char, Number, Name}
use Rattle.occ_tool_words.specs.occ_parse.declared.fault.Which.{Which}
use Rattle.occ_tool_words.specs.occ_parse.declared.fault.Which.TheVariants.{Bytes, Levels, Tokens, Parameters, Count, Controls, InterfaceBits, ScopeBits}
use Rattle.occ_tool_words.specs.occ_parse.declared.fault.ParseFault.{ParseFault}
use Rattle.occ_tool_words.specs.occ_parse.declared.fault.ParseFault.TheVariants.{Line, Form, Undeclared, Redeclared, Index, TypeClash, NoType, Direction, Limit, Memory}
use Rattle.occ_run_schedule.specs.occ_behaviour.declared.behaviour.Side.{Side}
use Rattle.occ_run_schedule.specs.occ_behaviour.declared.behaviour.Side.TheVariants.{First, Second}
use Rattle.occ_run_schedule.specs.occ_behaviour.declared.behaviour.Verdict.{Verdict}
use Rattle.occ_run_schedule.specs.occ_behaviour.declared.behaviour.Verdict.TheVariants.{Same, Differ}
use Rattle.occ_run_schedule.specs.occ_behaviour.declared.behaviour.Behaviour.{Behaviour}
use Rattle.occ_run_schedule.specs.occ_behaviour.Members.{VerdictIsNamed, IsNamed}
use Rattle.occ_run_schedule.specs.occ_behaviour.Texts.{mark_text, text_of_verdict, text_of_behaviour}
use Rattle.occ_run_schedule.specs.occ_compare.declared.refined.Refined.{Refined as Refinement}
use Rattle.occ_run_schedule.specs.occ_compare.declared.refined.Refined.TheVariants.{Yes, No}
use Rattle.occ_run_schedule.specs.occ_nform_table.declared.table.TableFault.{TableFault}
use Rattle.occ_run_schedule.specs.occ_nform_table.declared.table.TableFault.TheVariants as table
use Rattle.occ_read_renamed.specs.occ_nform.declared.figures.Counts.{Counts}
use Rattle.occ_replay.specs.declared.result.Rejected.{Rejected}
use Rattle.occ_replay.specs.declared.result.Rejected.TheVariants as rejected
use Rattle.occ_run_schedule.specs.declared.following.Followed.{Followed}
use Rattle.occ_run_schedule.specs.declared.following.Followed.TheVariants.{Stood, NoStep}
use Rattle.occ_run_schedule.specs.Following.{FollowedIsNamed}
use Rattle.occ_run_schedule.specs.Texts.{followed_text}
use Rattle.occ_replay.specs.occ_script.declared.fault.ScriptFault.{ScriptFault}
use Rattle.occ_replay.specs.occ_script.declared.fault.ScriptFault.TheVariants as script
use Rattle.occ_tool_words.specs.Words.{shape_text}
use Rattle.occ_tool_run.specs.declared.answer.Answer.{Answer}
use Rattle.occ_tool_run.specs.declared.answer.Answer.TheVariants.{Usage, Refused, Unusable, TooLong, RefusedTable, RefusedClaim, InterfacesDiffer, Compared, Written, Counted, Member, Stressed, Allowed, Sought, RefusedScript, Joined, Unjoined, RefusedSchedule, Stepped, RefusedOrders, RefusedOrder, RefusedPath, Long}
use Rattle.occ_tool_run.specs.declared.reason.Reason.{Reason}
use Rattle.occ_tool_run.specs.declared.reason.Reason.TheVariants.{NoLaw, NoPath, NotPar, NotAccepted, NotApplicable}

abbrev pub place_text : Side → List ℕ
place_text First = codes "FIRST"
place_text Second = codes "SECOND"

abbrev pub line_fault_text : LineFault → List ℕ
line_fault_text Tab = codes "Line Tab"
line_fault_text OddIndent = codes "Line OddIndent"
line_fault_text Char = codes "Line Char"
line_fault_text Number = codes "Line Number"
line_fault_text Name = codes "Line Name"

abbrev pub limit_text : Which → List ℕ
limit_text Bytes = codes "Limit Bytes"
limit_text Levels = codes "Limit Levels"
limit_text Tokens = codes "Limit Tokens"
limit_text Parameters = codes "Limit Parameters"
limit_text Count = codes "Limit Count"
limit_text Controls = codes "Limit Controls"
limit_text InterfaceBits = codes "Limit InterfaceBits"
limit_text ScopeBits = codes "Limit ScopeBits"

-- the line on which a text is refused, and the words for its fault
abbrev pub told_of : ParseFault → ℕ × List ℕ
told_of (Line line fault) = (line, line_fault_text fault)
told_of (Form line) = (line, codes "Form")
told_of (Undeclared line) = (line, codes "Undeclared")
told_of (Redeclared line) = (line, codes "Redeclared")
told_of (Index line) = (line, codes "Index")
told_of (TypeClash line) = (line, codes "TypeClash")
told_of (NoType line) = (line, codes "NoType")
told_of (Direction line) = (line, codes "Direction")
told_of (Limit which line) = (line, limit_text which)
told_of Memory = (0, [])

-- the place of the text and the line, in front of the words for the fault
abbrev pub refused_at_text : Side → ℕ → List ℕ
refused_at_text place line = codes "REFUSED " ++ place_text place ++ codes " " ++ decimal line ++ codes " "

-- the place of the text, the line and the words for the fault
abbrev pub refusal_text : Side → ℕ → List ℕ → List ℕ
refusal_text place line words = codes "REFUSED " ++ place_text place ++ codes " " ++ decimal line ++ codes " " ++ words ++ codes "\n"

-- ---- what the parts of a PAR share

-- the words for a fault of usage: the name, and the mark of the end
abbrev pub words_of_usage : List (List ℕ) → UsageFault → List ℕ
words_of_usage names (shared.SharedVariable node name) = codes "SharedVariable " ++ slice_index_or names name.0 []
words_of_usage names (shared.SharedEnd node name dir) = codes "SharedEnd " ++ slice_index_or names name.0 [] ++ codes " " ++ mark_text dir
words_of_usage names shared.Memory = []

-- the fault names what has a text, and isn't `Memory`
abbrev pub FaultIsNamed : List (List ℕ) → UsageFault → Type 0
FaultIsNamed names (shared.SharedVariable node name) = name.0 < length names
FaultIsNamed names (shared.SharedEnd node name dir) = name.0 < length names
FaultIsNamed names shared.Memory = ⊥

-- ---- a text that isn't a normal one

-- the row and the words for a fault of it
abbrev pub row_refusal_text : ℕ → List ℕ → List ℕ
row_refusal_text row words = codes "REFUSED FIRST ROW " ++ decimal row ++ codes " " ++ words ++ codes "\n"

abbrev pub table_refusal_text : TableFault → List ℕ
table_refusal_text (table.Form line) = refusal_text First line (codes "Form")
table_refusal_text (table.Order line) = refusal_text First line (codes "Order")
table_refusal_text (table.NotLeast line) = refusal_text First line (codes "NotLeast")
table_refusal_text (table.Empty row) = row_refusal_text row (codes "Empty")
table_refusal_text (table.Unreached row) = row_refusal_text row (codes "Unreached")
table_refusal_text table.Memory = []

-- ---- a text that isn't a script, or isn't orders

abbrev pub script_refusal_text : Side → ScriptFault → List ℕ
script_refusal_text place (script.Form line) = refusal_text place line (codes "Form")
script_refusal_text place (script.Version line) = refusal_text place line (codes "Version")
script_refusal_text place (script.Text fault) = refusal_text place (told_of fault).0 (told_of fault).1
script_refusal_text place script.Memory = []

-- a fault that isn't out of memory
abbrev pub ScriptFaultIsTold : ScriptFault → Type 0
ScriptFaultIsTold (script.Form line) = Unit {0}
ScriptFaultIsTold (script.Version line) = Unit {0}
ScriptFaultIsTold (script.Text fault) = fault ≢ Memory
ScriptFaultIsTold script.Memory = ⊥

-- ---- a script that doesn't join its programs

abbrev pub step_rejection_text : ℕ → List ℕ → List ℕ
step_rejection_text step words = codes "REJECTED " ++ decimal step ++ codes " " ++ words ++ codes "\n"

abbrev pub from_rejection_text : ℕ → List ℕ → List ℕ
from_rejection_text line words = codes "REJECTED FROM " ++ decimal line ++ codes " " ++ words ++ codes "\n"

abbrev pub rejection_text : List (List ℕ) → ℕ → Rejected → List ℕ
rejection_text names line (rejected.From fault) = from_rejection_text line (words_of_usage names fault)
rejection_text names line (rejected.NoLaw step) = step_rejection_text step (codes "NoLaw")
rejection_text names line (rejected.NoPath step) = step_rejection_text step (codes "NoPath")
rejection_text names line (rejected.NotAccepted step) = step_rejection_text step (codes "NotAccepted")
rejection_text names line (rejected.NotInstance step) = step_rejection_text step (codes "NotInstance")
rejection_text names line rejected.WrongEnd = codes "REJECTED TO WrongEnd\n"
rejection_text names line rejected.Memory = []

-- a cause that isn't out of memory, and the names that it mentions have texts
abbrev pub CauseIsNamed : List (List ℕ) → Rejected → Type 0
CauseIsNamed names (rejected.From fault) = FaultIsNamed names fault
CauseIsNamed names (rejected.NoLaw step) = Unit {0}
CauseIsNamed names (rejected.NoPath step) = Unit {0}
CauseIsNamed names (rejected.NotAccepted step) = Unit {0}
CauseIsNamed names (rejected.NotInstance step) = Unit {0}
CauseIsNamed names rejected.WrongEnd = Unit {0}
CauseIsNamed names rejected.Memory = ⊥

-- ---- orders that can't be followed, and parts that can't be expanded

abbrev pub reason_text : Reason → List ℕ
reason_text NoLaw = codes "NoLaw"
reason_text NoPath = codes "NoPath"
reason_text NotPar = codes "NotPar"
reason_text NotAccepted = codes "NotAccepted"
reason_text NotApplicable = codes "NotApplicable"

-- the number of the order, from 1, and the reason
abbrev pub order_refusal_text : ℕ → Reason → List ℕ
order_refusal_text number reason = codes "REFUSED ORDER " ++ decimal number ++ codes " " ++ reason_text reason ++ codes "\n"

abbrev pub path_refusal_text : Reason → List ℕ
path_refusal_text reason = codes "REFUSED PATH " ++ reason_text reason ++ codes "\n"

-- ---- the parts of other answers

abbrev pub status_of_verdict : Verdict → ℕ
status_of_verdict Same = 0
status_of_verdict (Differ behaviour only) = 1

abbrev pub status_of_refined : Refinement → ℕ
status_of_refined Yes = 0
status_of_refined (No behaviour) = 1

-- what the second program does and the first doesn't allow is told as a difference
abbrev pub refined_text : List (List ℕ) → Refinement → List ℕ
refined_text names Yes = codes "REFINES\n"
refined_text names (No behaviour) = text_of_verdict names (Differ behaviour Second)

abbrev pub status_of_followed : Followed → ℕ
status_of_followed (Stood shown) = 0
status_of_followed (NoStep step) = 3

-- a line with a figure
abbrev pub figure_text : List ℕ → ℕ → List ℕ
figure_text word figure = word ++ codes " " ++ decimal figure ++ codes "\n"

-- the figures of a normal text, a line each
abbrev pub counts_text : Counts → List ℕ
counts_text counts = figure_text (codes "ROWS") counts.rows ++ figure_text (codes "OFFERS") counts.offers
    ++ figure_text (codes "HEIGHT") counts.height ++ figure_text (codes "STATES") counts.states

abbrev pub usage_text : List ℕ
usage_text = codes "USAGE same A B, normalise A, normal T, belongs A T, transform A T, expand A PATH, replay T, stress KIND N, refine A B, deadlock A, run A T, derive A\n"

-- ---- answers

-- the status and the text of an answer
abbrev pub told : Answer → ℕ × List ℕ
told Usage = (2, usage_text)
told (Refused place fault) = (3, refusal_text place (told_of fault).0 (told_of fault).1)
told (Unusable names place line fault) = (3, refusal_text place line (words_of_usage names fault))
told (TooLong place) = (3, refusal_text place 1 (codes "Limit Bytes"))
told (RefusedTable fault) = (3, table_refusal_text fault)
told (RefusedClaim line) = (3, refusal_text Second line (codes "Form"))
told InterfacesDiffer = (7, codes "INTERFACES DIFFER\n")
told (Compared names verdict) = (status_of_verdict verdict, text_of_verdict names verdict)
told (Written text) = (0, text.items)
told (Counted rows) = (0, figure_text (codes "NORMAL") rows)
told (Member true) = (0, codes "YES\n")
told (Member false) = (1, codes "NO\n")
told (Stressed shape stages counts) = (0, codes "STRESS " ++ figure_text (shape_text shape) stages ++ counts_text counts)
told (Allowed names refined) = (status_of_refined refined, refined_text names refined)
told (Sought names None) = (0, codes "FREE\n")
told (Sought names (Some behaviour)) = (1, codes "DEADLOCK\n" ++ text_of_behaviour names behaviour)
told (RefusedScript fault) = (3, script_refusal_text First fault)
told (Joined steps) = (0, figure_text (codes "JOINED") steps)
told (Unjoined names line cause) = (1, rejection_text names line cause)
told (RefusedSchedule line) = (3, refusal_text Second line (codes "Form"))
told (Stepped names followed) = (status_of_followed followed, followed_text names followed)
told (RefusedOrders fault) = (3, script_refusal_text Second fault)
told (RefusedOrder number reason) = (3, order_refusal_text number reason)
told (RefusedPath reason) = (3, path_refusal_text reason)
told Long = (3, codes "REFUSED FIRST 1 Long\n")

abbrev pub status_of : Answer → ℕ
status_of answer = (told answer).0

abbrev pub text_of : Answer → List ℕ
text_of answer = (told answer).1

abbrev pub RefinementIsNamed : List (List ℕ) → Refinement → Type 0
RefinementIsNamed names Yes = Unit {0}
RefinementIsNamed names (No behaviour) = IsNamed names behaviour

abbrev pub FoundIsNamed : List (List ℕ) → Option Behaviour → Type 0
FoundIsNamed names None = Unit {0}
FoundIsNamed names (Some behaviour) = IsNamed names behaviour

-- a refusal isn't `Memory`, and the names that it or a verdict mentions have texts
abbrev pub IsPrintable : Answer → Type 0
IsPrintable Usage = Unit {0}
IsPrintable (Refused place fault) = fault ≢ Memory
IsPrintable (Unusable names place line fault) = FaultIsNamed names fault
IsPrintable (TooLong place) = Unit {0}
IsPrintable (RefusedTable fault) = fault ≢ table.Memory
IsPrintable (RefusedClaim line) = Unit {0}
IsPrintable InterfacesDiffer = Unit {0}
IsPrintable (Compared names verdict) = VerdictIsNamed names verdict
IsPrintable (Written text) = Unit {0}
IsPrintable (Counted rows) = Unit {0}
IsPrintable (Member is) = Unit {0}
IsPrintable (Stressed shape stages counts) = Unit {0}
IsPrintable (Allowed names refined) = RefinementIsNamed names refined
IsPrintable (Sought names found) = FoundIsNamed names found
IsPrintable (RefusedScript fault) = ScriptFaultIsTold fault
IsPrintable (Joined steps) = Unit {0}
IsPrintable (Unjoined names line cause) = CauseIsNamed names cause
IsPrintable (RefusedSchedule line) = Unit {0}
IsPrintable (Stepped names followed) = FollowedIsNamed names followed
IsPrintable (RefusedOrders fault) = ScriptFaultIsTold fault
IsPrintable (RefusedOrder number reason) = Unit {0}
IsPrintable (RefusedPath reason) = Unit {0}
IsPrintable Long = Unit {0}
