use Rattle.std.proofs.Common.{◌≡◌, ◌++◌, take}
use Rattle.occ_script_write.specs.Text.{steps_text}
use Rattle.occ_script_write.proofs.writing.push_steps.Given as goal

abbrev pub invariant-loop-done : goal.invariant-loop-done
invariant-loop-done l = l.text.items ≡ l.fn.text.items ++ steps_text l.names (take l.done-index l.steps)
