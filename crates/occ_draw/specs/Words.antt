-- What is told of a part, and of a step.
use Rattle.std.specs.Prelude.{ℕ, ◌+◌, ◌==◌, if◌then◌else◌, List, [], ◌++◌, length, Option, None, Some, codes, decimal}
use Rattle.occ_tool_run.specs.occ_law.declared.table.LawId.{LawId}
use Rattle.occ_tool_run.specs.occ_print.Lines.{part_lines}
use Rattle.occ_tool_run.specs.occ_script_lines.declared.direction.Direction.{Direction}
use Rattle.occ_tool_run.specs.occ_script_write.Text.{direction_text, law_text, path_text}
use Rattle.occ_syntax.specs.Counts.{capped}
use Rattle.occ_syntax.specs.Tree.{Tree, skip, stop, assign, receive, send, seq, par, select, alt, declare, connect, Trees, no_tree, and_tree, Cases, no_case, and_case, Branches, no_branch, and_branch}

-- how many parts there are, and how many choices and branches
abbrev pub parts_in : Trees → ℕ
parts_in no_tree = 0
parts_in (and_tree p ps) = 1 + parts_in ps

abbrev pub choices_in : Cases → ℕ
choices_in no_case = 0
choices_in (and_case e p cs) = 1 + choices_in cs

abbrev pub branches_in : Branches → ℕ
branches_in no_branch = 0
branches_in (and_branch e w p bs) = 1 + branches_in bs

-- the construct that a part is
abbrev pub word_text : Tree → List ℕ
word_text skip = codes "SKIP"
word_text stop = codes "STOP"
word_text (assign xs es) = codes "assignment"
word_text (receive c x) = codes "input"
word_text (send c e) = codes "output"
word_text (seq ps) = codes "SEQ"
word_text (par ps) = codes "PAR"
word_text (select cs) = codes "IF"
word_text (alt bs) = codes "ALT"
word_text (declare x w p) = codes "variable declaration"
word_text (connect c w p) = codes "channel declaration"

-- how many parts SEQ and PAR have, how many choices IF, how many branches ALT
abbrev pub count_of : Tree → Option ℕ
count_of skip = None
count_of stop = None
count_of (assign xs es) = None
count_of (receive c x) = None
count_of (send c e) = None
count_of (seq ps) = Some (parts_in ps)
count_of (par ps) = Some (parts_in ps)
count_of (select cs) = Some (choices_in cs)
count_of (alt bs) = Some (branches_in bs)
count_of (declare x w p) = None
count_of (connect c w p) = None

abbrev pub count_text : Option ℕ → List ℕ
count_text None = []
count_text (Some n) = codes " of " ++ decimal n

-- on how many lines a part is printed, as 64 bits hold it
abbrev pub lines_of : Tree → ℕ
lines_of p = capped (length (part_lines 0 p))

abbrev pub lines_text : ℕ → List ℕ
lines_text n = decimal n ++ (if n == 1 then codes " line" else codes " lines")

-- a part: its construct, how many parts it has, and on how many lines it is printed
abbrev pub part_text : Tree → List ℕ
part_text p = word_text p ++ count_text (count_of p) ++ codes " in " ++ lines_text (lines_of p)

-- where a step is taken: its number, its law, the way in which the law is used, and the path
abbrev pub place_text : ℕ → LawId → Direction → List ℕ → List ℕ
place_text n law dir path = decimal n ++ codes " " ++ law_text law ++ codes " " ++ direction_text dir ++ codes " at " ++ path_text path

-- what changes there
abbrev pub change_text : Tree → Tree → List ℕ
change_text old new = part_text old ++ codes " becomes " ++ part_text new
