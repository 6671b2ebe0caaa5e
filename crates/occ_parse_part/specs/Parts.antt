-- What the lines of a part of a script read as: its first fault, or a forest of lines.
use Rattle.std.specs.Prelude.{ℕ, ◌==◌, ◌≡◌, Bool, true, false, ◌&&◌, List, Option, Some, None, is_some}
use Rattle.occ_parse_forms.specs.declared.form.Declared.{Declared}
use Rattle.occ_parse_forms.specs.declared.form.Declared.TheVariants as declared
use Rattle.occ_parse_rules.specs.Agreement.{Known, AreKnown}
use Rattle.occ_parse_rules.specs.Sound.{are_sound, are_placed}
use Rattle.occ_parse_forms.specs.occ_lex.declared.token.Line.{Line}
use Rattle.occ_parse_forms.specs.occ_lex.Symbols.{rows_of}
use Rattle.occ_parse_rules.specs.Forest.{Forest, Laid, lines_at}
use Rattle.occ_parse.specs.occ_parse_layout.declared.placed.Frame.TheVariants as frame
use Rattle.occ_parse.specs.occ_parse_layout.Layout.{least_bad}
use Rattle.occ_parse.specs.declared.bound.Bound.TheVariants as bound
use Rattle.occ_parse.specs.declared.fault.ParseFault.{ParseFault}
use Rattle.occ_parse.specs.declared.fault.ParseFault.TheVariants as fault
use Rattle.occ_parse.specs.Limits.{stopped}
use Rattle.occ_parse.specs.Reading.{AreForms}
use Rattle.occ_parse_part.specs.Elements.{Elements}

-- a part: its lines, and the names of the elements of the arrays that they name
pub record Part : Type 0 where
  pub lines : Forest
  pub elements : Elements

-- ---- what is known of each part

abbrev pub is_itself : Declared → ℕ → Bool
is_itself (declared.Plain y) x = y.0 == x
is_itself (declared.Element y j) x = false
is_itself (declared.Array y n) x = false

abbrev pub is_element : Declared → ℕ → ℕ → Bool
is_element (declared.Plain y) x k = false
is_element (declared.Element y j) x k = y.0 == x && j == k
is_element (declared.Array y n) x k = false

-- the places whose number names them again
abbrev pub knows : Elements → Known
knows e x None = is_itself (e.named x) x
knows e x (Some k) = is_element (e.named (e.number x k)) x k

-- what a name is has that name's number
abbrev pub IsNumbered : Elements → Declared → ℕ → Type 0
IsNumbered e (declared.Plain y) n = y.0 ≡ n
IsNumbered e (declared.Element y j) n = e.number y.0 j ≡ n
IsNumbered e (declared.Array y c) n = ⊥

-- The lines of a part have forms that reading gives, and declarations in front of processes alone; and the names that they
-- declare have numbers of their own.
pub record IsGood (lines : Forest) (e : Elements) : Type 0 where
  pub sound : are_sound lines ≡ true
  pub placed : are_placed lines ≡ true
  pub known : AreKnown (knows e) lines
  pub numbered : (n : ℕ) → IsNumbered e (e.named n) n

-- The lines that are judged, as what they say, and the fault of the line behind them, where one is over the limit on tokens.
pub record AreJudged (text : List ℕ) (old : List (List ℕ)) (lines : List Line) (laid : List Laid) (stop : Option ParseFault) : Type 0 where
  pub forms : AreForms (stopped bound.Script (rows_of text old lines) None).0 laid
  pub stop_is : (stopped bound.Script (rows_of text old lines) None).1 ≡ stop

-- good lines of a forest, behind which no faulty line stands
pub record IsWellLaid (laid : List Laid) (stop : Option ParseFault) (f : Forest) : Type 0 where
  pub lines : lines_at 1 f ≡ laid
  pub good : least_bad frame.Part false laid ≡ None
  pub whole : stop ≡ None

-- a bad line, or else the fault of the line behind good ones
pub data IsIllLaid (laid : List Laid) (stop : Option ParseFault) : ParseFault → Type 0 where
  badly : (n : ℕ) → least_bad frame.Part (is_some stop) laid ≡ Some n → IsIllLaid laid stop (fault.Form n)
  behind : (f : ParseFault) → stop ≡ Some f → least_bad frame.Part true laid ≡ None → IsIllLaid laid stop f

-- The lines, read with these names in the table, are those of this forest: one slot at level 1.
pub record IsPart (text : List ℕ) (old : List (List ℕ)) (lines : List Line) (f : Forest) : Type 0 where
  pub laid : List Laid
  pub stop : Option ParseFault
  pub judged : AreJudged text old lines laid stop
  pub well : IsWellLaid laid stop f

-- The first fault of the lines: the least line that is badly laid out or over the limit on tokens.
pub record IsNoPart (text : List ℕ) (old : List (List ℕ)) (lines : List Line) (f : ParseFault) : Type 0 where
  pub laid : List Laid
  pub stop : Option ParseFault
  pub judged : AreJudged text old lines laid stop
  pub ill : IsIllLaid laid stop f
