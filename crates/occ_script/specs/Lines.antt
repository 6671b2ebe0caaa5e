-- The lines of a section as what they say, and how they are laid out.
use Rattle.std.specs.Prelude.{ℕ, ◌≡◌, ◌==◌, Bool, true, false, if◌then◌else◌, List, [], ◌∷◌, Option, Some, None, is_none, is_some}
use Rattle.std.specs.List.{AllByRecursion}
use Rattle.occ_script_lines.specs.occ_lex.Placed.{IsLineOf}
use Rattle.occ_script_lines.specs.occ_lex.declared.symbol.Row.{Row}
use Rattle.occ_script_lines.specs.occ_lex.Symbols.{rows_of, with_names_of_all}
use Rattle.occ_parse_part.specs.occ_parse_layout.declared.placed.Frame.{Frame}
use Rattle.occ_parse_part.specs.occ_parse_layout.Layout.{laid_rows, least_bad}
use Rattle.occ_parse_part.specs.occ_parse.declared.fault.ParseFault.{ParseFault}
use Rattle.occ_parse_part.specs.occ_parse.declared.fault.ParseFault.TheVariants as parse
use Rattle.occ_parse_part.specs.occ_parse.Limits.{stopped}
use Rattle.occ_parse_part.specs.occ_parse.Reading.{AreForms}
use Rattle.occ_parse_part.specs.occ_parse_rules.Forest.{Laid}
use Rattle.occ_script.specs.declared.content.Content.{Content}
use Rattle.occ_script.specs.declared.judging.JudgedLines.{JudgedLines}
use Rattle.occ_script.specs.Contents.{bound_of, frame_of}
use Rattle.occ_script_lines.specs.Sections.{Section, reading_in, upto}

-- the rows of a section, and the table with the names of its lines
abbrev pub rows_in : Section → List (List ℕ) → List Row
rows_in s old = rows_of (upto s) old (reading_in s).0

abbrev pub named_in : Section → List (List ℕ) → List (List ℕ)
named_in s old = with_names_of_all (upto s) old (reading_in s).0

-- The lines that are judged, as what they say: those in front of the first that can't be read or is over a limit, and the fault of
-- that one, where there is one.
pub record AreJudged (k : Content) (old : List (List ℕ)) (s : Section) (laid : List Laid) (stop : Option ParseFault) : Type 0 where
  pub forms : AreForms (stopped (bound_of k) (rows_in s old) (reading_in s).1).0 laid
  pub stop_is : (stopped (bound_of k) (rows_in s old) (reading_in s).1).1 ≡ stop

-- the first fault of lines: the least that is badly laid out, or else the fault behind them
pub data IsIllLaid (f : Frame) (laid : List Laid) (stop : Option ParseFault) : ParseFault → Type 0 where
  badly : (n : ℕ) → least_bad f (is_some stop) laid ≡ Some n → IsIllLaid f laid stop (parse.Form n)
  behind : (e : ParseFault) → stop ≡ Some e → least_bad f true laid ≡ None → IsIllLaid f laid stop e

-- lines without such a fault
pub record IsWellLaid (f : Frame) (laid : List Laid) (stop : Option ParseFault) : Type 0 where
  pub whole : stop ≡ None
  pub good : least_bad f false laid ≡ None

-- the lines of a section have this first fault, or none
pub record IsIll (k : Content) (old : List (List ℕ)) (s : Section) (e : ParseFault) : Type 0 where
  pub laid : List Laid
  pub stop : Option ParseFault
  pub judged : AreJudged k old s laid stop
  pub ill : IsIllLaid (frame_of k) laid stop e

pub record IsWell (k : Content) (old : List (List ℕ)) (s : Section) : Type 0 where
  pub laid : List Laid
  pub stop : Option ParseFault
  pub judged : AreJudged k old s laid stop
  pub well : IsWellLaid (frame_of k) laid stop

-- No line stands at level 1 in front of the next at level 0, and none can follow.
abbrev pub lacks_part : List Laid → Option ParseFault → Bool
lacks_part [] stop = is_none stop
lacks_part (line ∷ lines) stop = if line.level == 0 then true else (if line.level == 1 then false else lacks_part lines stop)

-- lines as code has them
pub record AreLines (k : Content) (old new : List (List ℕ)) (s : Section) (found : JudgedLines) : Type 0 where
  pub lines : found.lines.items ≡ (reading_in s).0
  pub placed : AllByRecursion (IsLineOf (upto s)) found.lines.items
  pub judged : AreJudged k old s (laid_rows found.judged.lines.items) found.judged.stop
  pub table : new ≡ named_in s old
