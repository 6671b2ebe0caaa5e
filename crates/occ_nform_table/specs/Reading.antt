-- How a normal text is read: its lines one after another, as far as each has the form for its place.
use Rattle.std.specs.Prelude.{ℕ, zero, suc, ◌+◌, ◌-◌, ◌^◌, ◌==◌, Bool, true, false, ◌&&◌, if◌then◌else◌, List, [], ◌∷◌, ◌++◌, length, Option, None, Some, codes}
use Rattle.std.specs.Str.{bytes_eq}
use Rattle.occ_lex.specs.occ_base.declared.event.Event.{Event}
use Rattle.occ_lex.specs.occ_base.declared.names.Name.{Name}
use Rattle.occ_lex.specs.occ_base.Names.{place_of, with_text}
use Rattle.occ_syntax.specs.declared.scope.Kind.{Kind}
use Rattle.occ_syntax.specs.Counts.{bits_of_scope}
use Rattle.occ_nform_table.specs.declared.table.TableRow.{TableRow}
use Rattle.occ_nform_table.specs.Lines.{next_param, end_of, accept_of, offer_of, is_row, row_of_state}

-- the lines of a text, each with its line feed
abbrev pub Lines : Type 0
Lines = List (List ℕ)

-- what is read of a line and of those behind it, and what is left, where the line is read as something
abbrev pub kept : {A : Type 0} → Option A → List A × Lines → List A × Lines → List A × Lines
kept None more stop = stop
kept (Some x) more stop = (x ∷ more.0, more.1)

-- what the lines in front are read as, up to the first that isn't read, and the lines that are left
unfoldable pub taken : {A : Type 0} → (List ℕ → Option A) → Lines → List A × Lines
taken read [] = ([], [])
taken read (line ∷ lines) = kept (read line) (taken read lines) ([], line ∷ lines)

abbrev pub either : {A B : Type 0} → Option A → B → (A → B) → B
either None other next = other
either (Some x) other next = next x

-- The table of names with those of the PARAM lines in front, the parameters, and the lines that are left.
pub record Header : Type 0 where
  pub names : List (List ℕ)
  pub params : List (Name × Kind)
  pub rest : Lines

unfoldable pub params_in : List (List ℕ) → List (Name × Kind) → Lines → Header
params_in names params [] = record { names = names; params = params; rest = [] }
params_in names params (line ∷ lines) = either (next_param names params line) (record { names = names; params = params; rest = line ∷ lines })
    (λ p. params_in (with_text names p.0) (params ++ (record { 0 = place_of names p.0 }, p.1) ∷ []) lines)

-- The lines of row n behind its ROW line: END lines, ACCEPT lines and OFFER lines.
unfoldable pub row_behind : List (List ℕ) → List (Name × Kind) → ℕ → Lines → TableRow × Lines
row_behind names params n lines = (
  record {
    ends = (taken (end_of params) lines).0;
    accepts = (taken (accept_of names params) (taken (end_of params) lines).1).0;
    offers = (taken (offer_of names params n) (taken (accept_of names params) (taken (end_of params) lines).1).1).0;
  },
  (taken (offer_of names params n) (taken (accept_of names params) (taken (end_of params) lines).1).1).1,
)

abbrev pub with_row : TableRow × Lines → (Lines → List TableRow × Lines) → List TableRow × Lines
with_row row next = (row.0 ∷ (next row.1).0, (next row.1).1)

-- The rows from row n on, and the lines that are left. There are no more rows than the number in front, as that of the lines.
unfoldable pub rows_in : List (List ℕ) → List (Name × Kind) → ℕ → ℕ → Lines → List TableRow × Lines
rows_in names params zero n lines = ([], lines)
rows_in names params (suc most) n [] = ([], [])
rows_in names params (suc most) n (line ∷ lines) = if is_row n line then with_row (row_behind names params n lines) (rows_in names params most (n + 1)) else ([], line ∷ lines)

-- The rows of the states from the k-th on, where there are n rows, and the lines that are left.
unfoldable pub states_in : List (Name × Kind) → ℕ → ℕ → Lines → List ℕ × Lines
states_in params n k [] = ([], [])
states_in params n k (line ∷ lines) = kept (row_of_state params n k line) (states_in params n (k + 1) lines) ([], line ∷ lines)
