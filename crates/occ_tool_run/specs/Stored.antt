-- Programs as they lie in memory.
use Rattle.std.specs.Prelude.{ℕ, ◌≡◌, List}
use Rattle.occ_syntax.specs.declared.scope.Program.{Program as Stored}
use Rattle.occ_syntax.specs.View.{tree}
use Rattle.occ_tool_run.specs.declared.answer.Answer.{Answer}
use Rattle.occ_tool_run.specs.Accepts.{Program}

-- the program, apart from where its parts lie
abbrev pub seen : Stored → Program
seen stored = record { name = stored.name; params = stored.params; body = tree stored.body }

-- The answer is one to the program as it lies somewhere in memory.
pub record OfStored (rest : List (List ℕ) → Stored → Answer → Type 0) (names : List (List ℕ)) (program : Program) (answer : Answer) : Type 0 where
  pub stored : Stored
  pub program_is : program ≡ seen stored
  pub answered : rest names stored answer
