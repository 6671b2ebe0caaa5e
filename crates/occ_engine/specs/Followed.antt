-- Steps that are given whole.
use Rattle.std.specs.Prelude.{List}
use Rattle.occ_engine.specs.declared.outcome.Outcome.{Outcome}
use Rattle.occ_script_write.specs.declared.writing.Done.{Done}
use Rattle.occ_syntax.specs.declared.scope.Program.{Program}

abbrev pub ended : List Done → Program → Outcome
ended steps to = record { steps = steps; to = to }
