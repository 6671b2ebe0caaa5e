-- What the words of a command line ask for.
use Rattle.std.specs.Prelude.{ℕ, ◌==◌, Bool, false, not, ◌&&◌, List, [], ◌∷◌, find, Option, Some, None, option_map, option_and_then, codes, decimal, if◌then◌else◌}
use Rattle.std.specs.List.{range_with_len}
use Rattle.std.specs.Option.{option_map_or}
use Rattle.std.specs.Str.{bytes_eq}
use Rattle.occ_gen.specs.declared.shape.Shape.{Shape}
use Rattle.occ_gen.specs.declared.shape.Shape.TheVariants.{Buffers, Adders, Muxes}
use Rattle.occ_gen.specs.occ_script_lines.Texts.{path_of}
use Rattle.occ_tool_words.specs.declared.words.Command.{Command}
use Rattle.occ_tool_words.specs.declared.words.Command.TheVariants.{Usage, Same, Normalise, Normal, Belongs, Stress, Refine, Deadlock, Replay, Run, Transform, Expand, Derive}

-- a command with its words: those that name files as they stand, the kind of a chain and how many stages it has, and a path
pub data Job : Type 0 where
  same : List ℕ → List ℕ → Job
  normalise : List ℕ → Job
  normal : List ℕ → Job
  belongs : List ℕ → List ℕ → Job
  stress : Shape → ℕ → Job
  refine : List ℕ → List ℕ → Job
  deadlock : List ℕ → Job
  replay : List ℕ → Job
  run : List ℕ → List ℕ → Job
  transform : List ℕ → List ℕ → Job
  expand : List ℕ → List ℕ → Job
  derive : List ℕ → Job

abbrev pub job : Command → Option Job
job Usage = None
job (Same first second) = Some (same first.now second.now)
job (Normalise program) = Some (normalise program.now)
job (Normal text) = Some (normal text.now)
job (Belongs program text) = Some (belongs program.now text.now)
job (Stress shape stages) = Some (stress shape stages)
job (Refine first second) = Some (refine first.now second.now)
job (Deadlock program) = Some (deadlock program.now)
job (Replay text) = Some (replay text.now)
job (Run program text) = Some (run program.now text.now)
job (Transform program text) = Some (transform program.now text.now)
job (Expand program path) = Some (expand program.now path)
job (Derive program) = Some (derive program.now)

-- the word isn't empty and doesn't begin with a hyphen
abbrev pub is_plain : List ℕ → Bool
is_plain [] = false
is_plain (first ∷ rest) = not (first == 45)

abbrev pub shape_text : Shape → List ℕ
shape_text Buffers = codes "buffers"
shape_text Adders = codes "adders"
shape_text Muxes = codes "muxes"

-- the kind of chain that a word names
abbrev pub shape_of : List ℕ → Option Shape
shape_of word = find (λ shape. bytes_eq word (shape_text shape)) (Buffers ∷ Adders ∷ Muxes ∷ [])

-- the number of stages that a word says: the one from 1 to 48 whose numeral it is
unfoldable pub stages_of : List ℕ → Option ℕ
stages_of word = find (λ n. bytes_eq (decimal n) word) (range_with_len 1 48)

abbrev pub stress_of : List ℕ → List ℕ → Option Job
stress_of kind stages = option_and_then (λ shape. option_map (stress shape) (stages_of stages)) (shape_of kind)

-- a command that one word follows
abbrev pub with_one : List ℕ → List ℕ → Option Job
with_one command first =
    if bytes_eq command (codes "normalise") then Some (normalise first)
    else (if bytes_eq command (codes "normal") then Some (normal first)
    else (if bytes_eq command (codes "deadlock") then Some (deadlock first)
    else (if bytes_eq command (codes "replay") then Some (replay first)
    else (if bytes_eq command (codes "derive") then Some (derive first) else None))))

-- the second word writes a path
abbrev pub expand_of : List ℕ → List ℕ → Option Job
expand_of program word = option_map (expand program) (path_of word)

-- a command that two words follow
abbrev pub with_two_later : List ℕ → List ℕ → List ℕ → Option Job
with_two_later command first second =
    if bytes_eq command (codes "refine") then Some (refine first second)
    else (if bytes_eq command (codes "run") then Some (run first second)
    else (if bytes_eq command (codes "transform") then Some (transform first second)
    else (if bytes_eq command (codes "expand") then expand_of first second else None)))

abbrev pub with_two : List ℕ → List ℕ → List ℕ → Option Job
with_two command first second =
    if bytes_eq command (codes "same") then Some (same first second)
    else (if bytes_eq command (codes "belongs") then Some (belongs first second)
    else (if bytes_eq command (codes "stress") then stress_of first second
    else with_two_later command first second))

-- The words fit where the second, after the program's own name, is a command, exactly that command's words follow, and
-- no word after the first is empty or begins with a hyphen.
abbrev pub job_of : List (List ℕ) → Option Job
job_of (name ∷ command ∷ first ∷ []) = if is_plain first then with_one command first else None
job_of (name ∷ command ∷ first ∷ second ∷ []) = if is_plain first && is_plain second then with_two command first second else None
job_of other = None

-- the words of a command that name files, in order
abbrev pub files_of : Job → List (List ℕ)
files_of (same first second) = first ∷ second ∷ []
files_of (normalise program) = program ∷ []
files_of (normal text) = text ∷ []
files_of (belongs program text) = program ∷ text ∷ []
files_of (stress shape stages) = []
files_of (refine first second) = first ∷ second ∷ []
files_of (deadlock program) = program ∷ []
files_of (replay text) = text ∷ []
files_of (run program text) = program ∷ text ∷ []
files_of (transform program text) = program ∷ text ∷ []
files_of (expand program path) = program ∷ []
files_of (derive program) = program ∷ []

abbrev pub file_words : List (List ℕ) → List (List ℕ)
file_words words = option_map_or files_of (job_of words) []
