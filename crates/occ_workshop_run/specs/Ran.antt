-- What a call leaves, by its status.
use Rattle.std.specs.Prelude.{ℕ, List, Option}
use Rattle.occ_witness.specs.occ_call.Files.{Files}
use Rattle.occ_witness.specs.occ_call.Ran.{Leaves}
use Rattle.occ_workshop_run.specs.Answers.{Answers}

-- The whole answer was written, with its own status; or a front of it, where a write failed; or nothing, where a read
-- failed or memory ran out.
abbrev pub Ran : Files → List (List ℕ) → ℕ → Option (List ℕ) → Option (List ℕ) → Type 0
Ran files words status old new = Leaves (Answers files words) status old new
