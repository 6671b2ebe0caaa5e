use Rattle.std.proofs.Common.{◌≡◌, ◌++◌, take}
use Rattle.occ_tool_run.specs.occ_script_write.Text.{numbers_text}
use Rattle.occ_draw.proofs.line.push_numbers.Given as goal

abbrev pub invariant-loop-number : goal.invariant-loop-number
invariant-loop-number l = l.text.items ≡ l.fn.text.items ++ numbers_text (take l.number-index l.numbers)
