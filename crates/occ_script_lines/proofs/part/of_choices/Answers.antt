use Rattle.std.proofs.Common.{arith}
use Rattle.occ_script_lines.proofs.Children.{choice_past, choice_read}
use Rattle.occ_script_lines.proofs.part.of_choices.Goals as goal

pub returns-then-place-choices : goal.returns-then-place-choices
returns-then-place-choices c = choice_read c.args.choices.now c.args.place c.index-choices-place.result (omega arith) c.index-choices-place.is

pub returns-else-place-choices : goal.returns-else-place-choices
returns-else-place-choices c = choice_past c.args.choices.now c.args.place (omega arith)
