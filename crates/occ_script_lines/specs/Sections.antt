-- The sections of a script: each keyword line with the lines behind it, up to the next keyword line.
use Rattle.std.specs.Prelude.{ℕ, ◌≡◌, ◌+◌, ◌-◌, ◌==◌, Bool, if◌then◌else◌, List, [], ◌∷◌, ◌++◌, Option, Some, None, length, map, take, drop, unwrap_or}
use Rattle.std.specs.List.{concat, list_all}
use Rattle.occ_lex.specs.declared.fault.LineFault.{LineFault}
use Rattle.occ_lex.specs.declared.token.Line.{Line}
use Rattle.occ_lex.specs.Rows.{read_rows, rows}
use Rattle.occ_script_lines.specs.declared.section.Format.{Format}
use Rattle.occ_script_lines.specs.declared.section.Section.{Section as Seen}
use Rattle.occ_script_lines.specs.Lines.{is_blank_row, is_keyword}

-- The number of a keyword line, its bytes, the text up to its end, and the text behind it up to the next keyword line.
pub record Section : Type 0 where
  pub number : ℕ
  pub row : List ℕ
  pub front : List ℕ
  pub body : List ℕ

-- the rows up to the first keyword line, and those from it on
unfoldable pub until : Format → List (List ℕ) → List (List ℕ)
until f [] = []
until f (row ∷ others) = if is_keyword f row then [] else row ∷ until f others

unfoldable pub beyond : Format → List (List ℕ) → List (List ℕ)
beyond f [] = []
beyond f (row ∷ others) = if is_keyword f row then row ∷ others else beyond f others

-- so many bytes and so many lines stand in front of the first keyword line of a text
pub record IsBody (f : Format) (text : List ℕ) (len count : ℕ) : Type 0 where
  pub body : take len text ≡ concat (until f (rows text))
  pub counted : count ≡ length (until f (rows text))
  pub rest : rows (drop len text) ≡ beyond f (rows text)

abbrev pub section_at : Format → ℕ → List ℕ → List ℕ → List (List ℕ) → Section
section_at f n front row others = record { number = n; row = row; front = front ++ row; body = concat (until f others) }

-- the sections of rows, of which the first has this number and this text in front of it
unfoldable pub later_sections : Format → ℕ → List ℕ → List (List ℕ) → List Section
later_sections f n front [] = []
later_sections f n front (row ∷ others) =
    if is_keyword f row then section_at f n front row others ∷ later_sections f (n + 1) (front ++ row) others
    else later_sections f (n + 1) (front ++ row) others

-- the same, where the first row begins a section whatever it is
abbrev pub sections_from : Format → ℕ → List ℕ → List (List ℕ) → List Section
sections_from f n front [] = []
sections_from f n front (row ∷ others) = section_at f n front row others ∷ later_sections f (n + 1) (front ++ row) others

-- the sections of a text, the first of which begins with its first line
abbrev pub sections_of : Format → List ℕ → List Section
sections_of f text = sections_from f 1 [] (rows text)

-- as code has it
abbrev pub section : Seen → Section
section s = record { number = s.number; row = take (s.end - s.start) (drop s.start s.upto.now); front = take s.end s.upto.now; body = drop s.end s.upto.now }

-- ---- what stands in a section

-- the text up to its end
abbrev pub upto : Section → List ℕ
upto s = s.front ++ s.body

-- its lines that aren't blank, up to the least faulty one, and that one's number and fault
abbrev pub reading_in : Section → List Line × Option (ℕ × LineFault)
reading_in s = read_rows (s.number + 1) (length s.front) (rows s.body)

abbrev pub blank : ℕ → ℕ
blank byte = if byte == 10 then 10 else 32

-- The text up to the end of a section, in which all bytes in front of its lines are spaces, but for the line feeds: so its
-- lines have their numbers.
abbrev pub framed : Section → List ℕ
framed s = map blank s.front ++ s.body

-- nothing but blank lines stands behind the keyword line
abbrev pub is_blank_in : Section → Bool
is_blank_in s = list_all is_blank_row (rows s.body)

-- ---- the last line of a text

abbrev pub latest : Option ℕ → Option ℕ → Option ℕ
latest (Some n) other = Some n
latest None other = other

-- the number of the last row that isn't blank, where the first one has this number
unfoldable pub last_from : ℕ → List (List ℕ) → Option ℕ
last_from n [] = None
last_from n (row ∷ others) = latest (last_from (n + 1) others) (if is_blank_row row then None else Some n)

-- or 1, where all are blank
abbrev pub last_line_of : List ℕ → ℕ
last_line_of text = unwrap_or (last_from 1 (rows text)) 1
