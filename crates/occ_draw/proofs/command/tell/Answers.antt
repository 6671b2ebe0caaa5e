use Rattle.std.proofs.Common.{sym, ◌∙◌}
use Rattle.occ_draw.proofs.Drawing.{tells_script, tells_table}
use Rattle.occ_draw.proofs.command.tell.Goals as goal

pub returns-then-is_script : goal.returns-then-is_script
returns-then-is_script c = tells_script c.steps.result c.args.text.now c.requires (sym c.is_script.ensures ∙ c.if-is_script.true) c.steps.ensures

pub returns-else-is_script : goal.returns-else-is_script
returns-else-is_script c = tells_table c.picture.result c.args.text.now c.requires (sym c.is_script.ensures ∙ c.if-is_script.false) c.picture.ensures
