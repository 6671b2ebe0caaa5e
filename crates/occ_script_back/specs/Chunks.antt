-- A text as keyword lines, each with a text behind it.
use Rattle.std.specs.Prelude.{ℕ, ◌≡◌, ◌+◌, true, false, List, [], ◌∷◌, ◌++◌, codes, length, map}
use Rattle.std.specs.List.{AllByRecursion}
use Rattle.occ_script_write.specs.occ_lex.Rows.{rows}
use Rattle.occ_script_write.specs.occ_script_lines.declared.section.Format.TheVariants as format
use Rattle.occ_script_write.specs.occ_script_lines.Lines.{is_keyword}
use Rattle.occ_script_write.specs.occ_script_lines.Sections.{Section}
use Rattle.occ_script_write.specs.occ_print.Spelled.{part_text}
use Rattle.occ_script_write.specs.declared.writing.Done.{Done}
use Rattle.occ_script_write.specs.Text.{line, step_words, text_of_program}
use Rattle.occ_script_write.specs.occ_syntax.declared.scope.Program.{Program}
use Rattle.occ_script_write.specs.occ_syntax.View.{tree}

-- a line with its line feed, and the text behind it
pub record Chunk : Type 0 where
  pub row : List ℕ
  pub body : List ℕ

abbrev pub chunks_text : List Chunk → List ℕ
chunks_text [] = []
chunks_text (c ∷ cs) = c.row ++ (c.body ++ chunks_text cs)

-- the sections that they are, of which the first has this number and this text in front of it
abbrev pub chunk_sections : ℕ → List ℕ → List Chunk → List Section
chunk_sections n front [] = []
chunk_sections n front (c ∷ cs) =
    record { number = n; row = c.row; front = front ++ c.row; body = c.body }
    ∷ chunk_sections (n + 1 + length (rows c.body)) ((front ++ c.row) ++ c.body) cs

-- The line is one row of each text that it begins, and the text behind it ends with a whole row and has no keyword line.
pub record IsBegun (c : Chunk) : Type 0 where
  pub one : (rest : List ℕ) → rows (c.row ++ rest) ≡ c.row ∷ rows rest
  pub parted : (rest : List ℕ) → rows (c.body ++ rest) ≡ rows c.body ++ rows rest
  pub plain : AllByRecursion (λ row. is_keyword format.Script row ≡ false) (rows c.body)

-- the line is a keyword line
pub record IsCut (c : Chunk) : Type 0 where
  pub begun : IsBegun c
  pub keyword : is_keyword format.Script c.row ≡ true

-- ---- the chunks of a script

abbrev pub chunk : List ℕ → List ℕ → Chunk
chunk words body = record { row = line words; body = body }

abbrev pub step_chunk : List (List ℕ) → Done → Chunk
step_chunk names done = chunk (step_words done) (part_text names 1 (tree done.part))

-- the first line, the program behind FROM, the steps, and the program behind TO
abbrev pub later_chunks : List (List ℕ) → Program → List Done → Program → List Chunk
later_chunks names from steps to =
    chunk (codes "FROM") (text_of_program names from) ∷ (map (step_chunk names) steps ++ chunk (codes "TO") (text_of_program names to) ∷ [])

abbrev pub head_chunk : Chunk
head_chunk = chunk (codes "occam-script 2") []

abbrev pub script_chunks : List (List ℕ) → Program → List Done → Program → List Chunk
script_chunks names from steps to = head_chunk ∷ later_chunks names from steps to
