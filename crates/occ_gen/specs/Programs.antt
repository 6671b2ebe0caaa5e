-- The texts of programs that are chains of cells.
use Rattle.std.specs.Prelude.{ℕ, zero, suc, ◌+◌, ◌-◌, ◌*◌, ◌%◌, ◌==◌, if◌then◌else◌, List, [], ◌∷◌, ◌++◌, codes, decimal, replicate}
use Rattle.std.specs.List.{flat_map}
use Rattle.occ_gen.specs.declared.shape.Shape.{Shape}
use Rattle.occ_gen.specs.declared.shape.Shape.TheVariants.{Buffers, Adders, Muxes}

-- a line: its level and what it says
pub record Line : Type 0 where
  pub level : ℕ
  pub words : List ℕ

abbrev pub line : ℕ → List ℕ → Line
line level words = record { level = level; words = words }

-- a line's text: two spaces for each level, what it says, and a line feed
abbrev pub line_text : Line → List ℕ
line_text l = replicate (2 * l.level) 32 ++ l.words ++ codes "\n"

-- lines laid out, one below the other
abbrev pub lines_text : List Line → List ℕ
lines_text lines = flat_map line_text lines

abbrev pub header : Shape → List ℕ
header Buffers = codes "PROC buffers (CHAN OF WORD1 in?, CHAN OF WORD1 out!)"
header Adders = codes "PROC adders (CHAN OF WORD2 in?, CHAN OF WORD2 out!)"
header Muxes = codes "PROC muxes (WORD4 s, CHAN OF WORD1 in?, CHAN OF WORD1 out!)"

-- the width of what the channels carry
abbrev pub width : Shape → List ℕ
width Buffers = codes "WORD1"
width Adders = codes "WORD2"
width Muxes = codes "WORD1"

-- how many messages each cell passes on
abbrev pub messages : Shape → ℕ
messages Buffers = 10
messages Adders = 5
messages Muxes = 6

-- the channel from stage k to the next
abbrev pub channel : ℕ → List ℕ
channel k = codes "c" ++ decimal k

-- the channel that stage k reads from
abbrev pub source : ℕ → List ℕ
source k = if k == 1 then codes "in" else channel (k - 1)

-- how stage k sends what it has read to channel o: as it is, one more, or turned where s says so
abbrev pub sends : Shape → ℕ → List ℕ → ℕ → List Line
sends Buffers k o l = line l (o ++ codes " ! v") ∷ []
sends Adders k o l = line l (o ++ codes " ! v PLUS 1") ∷ []
sends Muxes k o l =
    line l (codes "IF")
    ∷ line (l + 1) (codes "s = " ++ decimal (k % 16)) ∷ line (l + 2) (o ++ codes " ! ~ v")
    ∷ line (l + 1) (codes "TRUE") ∷ line (l + 2) (o ++ codes " ! v") ∷ []

-- a cell's variable, and the loop over its messages
abbrev pub opening : Shape → ℕ → List Line
opening shape l =
    line l (width shape ++ codes " v:") ∷ line l (codes "SEQ i = 0 FOR " ++ decimal (messages shape)) ∷ line (l + 1) (codes "SEQ") ∷ []

-- the cell of stage k at level l, which sends to channel o
abbrev pub cell : Shape → ℕ → List ℕ → ℕ → List Line
cell shape k o l = opening shape l ++ line (l + 2) (source k ++ codes " ? v") ∷ sends shape k o (l + 2)

-- stage k at level l, where so many more come after it: its cell, and with those its cell beside the next stage
abbrev pub stages : Shape → ℕ → ℕ → ℕ → List Line
stages shape k l zero = cell shape k (codes "out") l
stages shape k l (suc more) =
    line l (codes "CHAN OF " ++ width shape ++ codes " " ++ channel k ++ codes ":")
    ∷ line l (codes "PAR")
    ∷ cell shape k (channel k) (l + 1) ++ stages shape (k + 1) (l + 1) more

-- the program of n stages
abbrev pub program : Shape → ℕ → List Line
program shape n = line 0 (header shape) ∷ stages shape 1 1 (n - 1) ++ line 0 (codes ":") ∷ []

abbrev pub program_text : Shape → ℕ → List ℕ
program_text shape n = lines_text (program shape n)
