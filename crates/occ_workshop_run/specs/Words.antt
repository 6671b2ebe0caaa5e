-- What the words of a command line ask for.
use Rattle.std.specs.Prelude.{ℕ, ◌&&◌, List, [], ◌∷◌, Option, Some, None, codes, if◌then◌else◌}
use Rattle.std.specs.Option.{option_map_or}
use Rattle.std.specs.Str.{bytes_eq}
use Rattle.occ_witness.specs.occ_tool_words.Words.{is_plain}
use Rattle.occ_workshop_run.specs.declared.words.Command.{Command}
use Rattle.occ_workshop_run.specs.declared.words.Command.TheVariants.{Usage, Check, Draw, Explain, Prove, Witness, Aut, Promela, Steps, StepsAfter, Why, WhyApart, Traces, Deterministic}

-- a command with the names of its files as they stand
pub data Job : Type 0 where
  check : List ℕ → Job
  draw : List ℕ → Job
  explain : List ℕ → List ℕ → Job
  prove : List ℕ → List ℕ → Job
  witness : List ℕ → List ℕ → Job
  aut : List ℕ → Job
  promela : List ℕ → Job
  steps : List ℕ → Job
  steps_after : List ℕ → List ℕ → Job
  why : List ℕ → Job
  why_apart : List ℕ → List ℕ → Job
  traces : List ℕ → List ℕ → Job
  deterministic : List ℕ → Job

abbrev pub job : Command → Option Job
job Usage = None
job (Check program) = Some (check program.now)
job (Draw text) = Some (draw text.now)
job (Explain text refusal) = Some (explain text.now refusal.now)
job (Prove first second) = Some (prove first.now second.now)
job (Witness program text) = Some (witness program.now text.now)
job (Aut program) = Some (aut program.now)
job (Promela program) = Some (promela program.now)
job (Steps program) = Some (steps program.now)
job (StepsAfter program text) = Some (steps_after program.now text.now)
job (Why program) = Some (why program.now)
job (WhyApart first second) = Some (why_apart first.now second.now)
job (Traces first second) = Some (traces first.now second.now)
job (Deterministic program) = Some (deterministic program.now)

-- a command that one word follows
abbrev pub of_one : List ℕ → List ℕ → Option Job
of_one command first =
    if bytes_eq command (codes "draw") then Some (draw first)
    else (if bytes_eq command (codes "check") then Some (check first)
    else (if bytes_eq command (codes "aut") then Some (aut first)
    else (if bytes_eq command (codes "promela") then Some (promela first)
    else (if bytes_eq command (codes "steps") then Some (steps first)
    else (if bytes_eq command (codes "why") then Some (why first)
    else (if bytes_eq command (codes "deterministic") then Some (deterministic first) else None))))))

-- a command that two words follow
abbrev pub of_two : List ℕ → List ℕ → List ℕ → Option Job
of_two command first second =
    if bytes_eq command (codes "prove") then Some (prove first second)
    else (if bytes_eq command (codes "witness") then Some (witness first second)
    else (if bytes_eq command (codes "explain") then Some (explain first second)
    else (if bytes_eq command (codes "steps") then Some (steps_after first second)
    else (if bytes_eq command (codes "why") then Some (why_apart first second)
    else (if bytes_eq command (codes "traces") then Some (traces first second) else None)))))

-- the words that follow are neither empty nor begin with a hyphen
unfoldable pub with_one : List ℕ → List ℕ → Option Job
with_one command first = if is_plain first then of_one command first else None

unfoldable pub with_two : List ℕ → List ℕ → List ℕ → Option Job
with_two command first second = if is_plain first && is_plain second then of_two command first second else None

-- The words fit where the second, after the program's own name, is a command, exactly that command's words follow, and none of these is
-- empty or begins with a hyphen.
abbrev pub job_of : List (List ℕ) → Option Job
job_of [] = None
job_of (name ∷ []) = None
job_of (name ∷ command ∷ []) = None
job_of (name ∷ command ∷ first ∷ []) = with_one command first
job_of (name ∷ command ∷ first ∷ second ∷ []) = with_two command first second
job_of (name ∷ command ∷ first ∷ second ∷ third ∷ words) = None

-- the words of a command that name files, in order
abbrev pub files_of : Job → List (List ℕ)
files_of (check program) = program ∷ []
files_of (draw text) = text ∷ []
files_of (explain text refusal) = text ∷ []
files_of (prove first second) = first ∷ second ∷ []
files_of (witness program text) = program ∷ text ∷ []
files_of (aut program) = program ∷ []
files_of (promela program) = program ∷ []
files_of (steps program) = program ∷ []
files_of (steps_after program text) = program ∷ text ∷ []
files_of (why program) = program ∷ []
files_of (why_apart first second) = first ∷ second ∷ []
files_of (traces first second) = first ∷ second ∷ []
files_of (deterministic program) = program ∷ []

abbrev pub file_words : List (List ℕ) → List (List ℕ)
file_words words = option_map_or files_of (job_of words) []

-- the words ask what two programs have to do with each other
abbrev pub AskForTwoPrograms : Option Job → Type 0
AskForTwoPrograms None = ⊥
AskForTwoPrograms (Some (check program)) = ⊥
AskForTwoPrograms (Some (draw text)) = ⊥
AskForTwoPrograms (Some (explain text refusal)) = ⊥
AskForTwoPrograms (Some (prove first second)) = Unit {0}
AskForTwoPrograms (Some (witness program text)) = ⊥
AskForTwoPrograms (Some (aut program)) = ⊥
AskForTwoPrograms (Some (promela program)) = ⊥
AskForTwoPrograms (Some (steps program)) = ⊥
AskForTwoPrograms (Some (steps_after program text)) = ⊥
AskForTwoPrograms (Some (why program)) = ⊥
AskForTwoPrograms (Some (why_apart first second)) = Unit {0}
AskForTwoPrograms (Some (traces first second)) = Unit {0}
AskForTwoPrograms (Some (deterministic program)) = ⊥

-- the line of usage
abbrev pub usage_text : List ℕ
usage_text = codes "USAGE check A, steps A, steps A T, why A, why A B, draw T, aut A, promela A, deterministic A, prove A B, traces A B, witness A T, explain T REFUSAL\n"
