-- What a text is read as: a table where it is normal, and else its first fault.
use Rattle.std.specs.Prelude.{ℕ, zero, suc, ◌+◌, ◌-◌, ◌^◌, ◌==◌, max, Bool, true, false, not, ◌&&◌, if◌then◌else◌, List, [], ◌∷◌, length, Option, None, Some, Result, Ok, Err, codes}
use Rattle.std.specs.Str.{bytes_eq}
use Rattle.std.specs.Option.{is_some}
use Rattle.occ_lex.specs.occ_base.declared.names.Name.{Name}
use Rattle.occ_lex.specs.Rows.{rows}
use Rattle.occ_syntax.specs.declared.scope.Kind.{Kind}
use Rattle.occ_syntax.specs.Counts.{bits_of_scope}
use Rattle.occ_nform_table.specs.declared.table.TableRow.{TableRow}
use Rattle.occ_nform_table.specs.declared.table.TableFault.{TableFault}
use Rattle.occ_nform_table.specs.declared.table.TableFault.TheVariants as fault
use Rattle.occ_nform_table.specs.Reading.{Lines, Header, params_in, rows_in, states_in}
use Rattle.occ_nform_table.specs.Judging.{Mark, Fine, Misplaced, Excessive, rows_marks, is_empty_row, is_none, is_reached}

-- The parts of a table, with the names of its parameters.
pub record Parts : Type 0 where
  pub names : List (List ℕ)
  pub params : List (Name × Kind)
  pub rows : List TableRow
  pub states : List ℕ

-- the least line that is out of its place or no least acceptance; the first mark is that of the line in front
unfoldable pub first_mark : ℕ → List Mark → Option TableFault
first_mark line [] = None
first_mark line (Fine ∷ marks) = first_mark (line + 1) marks
first_mark line (Misplaced ∷ marks) = Some (fault.Order line)
first_mark line (Excessive ∷ marks) = Some (fault.NotLeast line)

-- the least row from row n on that is empty
unfoldable pub first_empty : ℕ → List TableRow → Option TableFault
first_empty n [] = None
first_empty n (row ∷ rows) = if is_empty_row row then Some (fault.Empty n) else first_empty (n + 1) rows

-- the least of so many rows from row n on that isn't reached
unfoldable pub first_unreached : (ℕ → Bool) → ℕ → ℕ → Option TableFault
first_unreached reached zero n = None
first_unreached reached (suc more) n = if reached n then first_unreached reached more (n + 1) else Some (fault.Unreached n)

abbrev pub or_fault : Option TableFault → Option TableFault → Option TableFault
or_fault None other = other
or_fault (Some f) other = Some f

-- The first fault of a table whose lines have their forms: on a line, then an empty row, then one that isn't reached.
-- The version line and the PARAM lines stand in front of the first ROW line.
unfoldable pub table_fault : Parts → Option TableFault
table_fault t = or_fault (first_mark (2 + length t.params) (rows_marks t.names t.params [] None t.rows))
    (or_fault (first_empty 0 t.rows) (first_unreached (is_reached t.rows t.states) (length t.rows) 0))

abbrev pub judged : Parts → Option TableFault → Result Parts TableFault
judged t None = Ok t
judged t (Some f) = Err f

-- The line at which so many of all lines are left: the first of them, or the last line where none is left, and line 1 of
-- an empty text.
abbrev pub line_at : ℕ → ℕ → ℕ
line_at all zero = max all 1
line_at all (suc left) = all - left

-- each initial state has its row, and no line is left
abbrev pub is_whole : List (Name × Kind) → List ℕ × Lines → Bool
is_whole params states = length states.0 == 2 ^ bits_of_scope params && is_none states.1

abbrev pub finished : ℕ → Header → List TableRow × Lines → List ℕ × Lines → Result Parts TableFault
finished all h rows states = if is_whole h.params states
    then judged (record { names = h.names; params = h.params; rows = rows.0; states = states.0 }) (table_fault (record { names = h.names; params = h.params; rows = rows.0; states = states.0 }))
    else Err (fault.Form (line_at all (length states.1)))

abbrev pub behind_params : ℕ → Header → Result Parts TableFault
behind_params all h = finished all h (rows_in h.names h.params (length h.rest) 0 h.rest)
    (states_in h.params (length (rows_in h.names h.params (length h.rest) 0 h.rest).0) 0 (rows_in h.names h.params (length h.rest) 0 h.rest).1)

unfoldable pub lines_read : List (List ℕ) → Lines → Result Parts TableFault
lines_read names [] = Err (fault.Form 1)
lines_read names (line ∷ lines) = if bytes_eq line (codes "occam-normal 1\n")
    then behind_params (1 + length lines) (params_in names [] lines)
    else Err (fault.Form 1)

-- What a text is read as, with a table of names. It is normal exactly where this is Ok.
abbrev pub text_read : List (List ℕ) → List ℕ → Result Parts TableFault
text_read names text = lines_read names (rows text)
