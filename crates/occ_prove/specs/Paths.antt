-- The paths of steps.
use Rattle.occ_tool_run.specs.occ_script_back.Said.{IsShortPath}
use Rattle.occ_tool_run.specs.occ_script_write.declared.writing.Done.{Done}

-- the numbers of a step's path have 32 bits
abbrev pub HasShortPath : Done → Type 0
HasShortPath done = IsShortPath done.path
