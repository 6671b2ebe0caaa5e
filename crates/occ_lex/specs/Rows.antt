use Rattle.std.specs.Prelude.{ℕ, ◌+◌, ◌/◌, ◌%◌, Bool, ◌||◌, ◌==◌, nat_eq, if◌then◌else◌, List, [], ◌∷◌, ◌++◌, length, Option, Some, None, Result, Ok, Err, codes, option_to_list}
use Rattle.std.specs.List.{list_any, list_all, prefix_len, starts_with}
use Rattle.occ_lex.specs.declared.fault.LineFault.{LineFault}
use Rattle.occ_lex.specs.declared.fault.LineFault.TheVariants as fault
use Rattle.occ_lex.specs.declared.token.Line.{Line}
use Rattle.occ_lex.specs.Tokens.{◌>>=◌, tokens}

-- a byte at the front of the first row
abbrev pub in_front : ℕ → List (List ℕ) → List (List ℕ)
in_front byte [] = (byte ∷ []) ∷ []
in_front byte (row ∷ others) = (byte ∷ row) ∷ others

-- The rows of a text: its lines, each with its line feed (10). The last line feed may be missing.
unfoldable pub rows : List ℕ → List (List ℕ)
rows [] = []
rows (byte ∷ text) = if byte == 10 then (byte ∷ []) ∷ rows text else in_front byte (rows text)

abbrev pub first_of : List (List ℕ) → List ℕ
first_of [] = []
first_of (row ∷ others) = row

abbrev pub first_row : List ℕ → List ℕ
first_row text = first_of (rows text)

-- where a line's own bytes end: at a comment, at a line feed, and at a carriage return (13) directly before one
abbrev pub ends_code : List ℕ → Bool
ends_code rest = starts_with nat_eq rest (codes "--") || (starts_with nat_eq rest (10 ∷ []) || starts_with nat_eq rest (13 ∷ 10 ∷ []))

-- the bytes of a row in front of its comment and its end
unfoldable pub code_of : List ℕ → List ℕ
code_of [] = []
code_of (byte ∷ rest) = if ends_code (byte ∷ rest) then [] else byte ∷ code_of rest

-- a tab
abbrev pub is_tab : ℕ → Bool
is_tab byte = byte == 9

abbrev pub is_space : ℕ → Bool
is_space byte = byte == 32

-- The line that a row holds, none where it is blank, or the fault that comes first. The row has this number, and its
-- first byte is at this place of the text.
unfoldable pub line_of : ℕ → ℕ → List ℕ → Result (Option Line) LineFault
line_of number place row =
    let code = code_of row in
    let indent = prefix_len is_space code in
    if list_any is_tab code then Err fault.Tab
    else (if list_all is_space code then Ok None
    else (if indent % 2 == 1 then Err fault.OddIndent
    else (tokens place 0 code >>= λ found. Ok (Some (record { number = number; level = indent / 2; tokens = found })))))

-- a row's line in front of what is read behind it; at a fault nothing more is read
abbrev pub then_reads : Result (Option Line) LineFault → ℕ → List Line × Option (ℕ × LineFault) → List Line × Option (ℕ × LineFault)
then_reads (Ok line) number others = (option_to_list line ++ others.0, others.1)
then_reads (Err fault) number others = ([], Some (number, fault))

-- The lines up to the least row that has a fault, and that row's number and fault. The first row has this number,
-- and begins at this place.
unfoldable pub read_rows : ℕ → ℕ → List (List ℕ) → List Line × Option (ℕ × LineFault)
read_rows number place [] = ([], None)
read_rows number place (row ∷ others) = then_reads (line_of number place row) number (read_rows (number + 1) (place + length row) others)

-- what a text reads as: its lines that aren't blank, up to the least faulty one, and that one's number and fault
unfoldable pub reading_of : List ℕ → List Line × Option (ℕ × LineFault)
reading_of text = read_rows 1 0 (rows text)

-- all lines, where none has a fault
abbrev pub whole : List Line → Option (ℕ × LineFault) → Result (List Line) (ℕ × LineFault)
whole lines None = Ok lines
whole lines (Some fault) = Err fault

-- the lines of a text that aren't blank, or the least faulty line's number and fault
abbrev pub lines_of : List ℕ → Result (List Line) (ℕ × LineFault)
lines_of text = whole (reading_of text).0 (reading_of text).1
