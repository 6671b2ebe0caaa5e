use Rattle.std.proofs.Common.{◌∙◌}
use Rattle.occ_syntax.specs.View.{tree}
use Rattle.occ_draw.proofs.Counted.{lines_are}
use Rattle.occ_draw.proofs.words.lines.Goals as goal

pub returns : goal.returns
returns c = c.controls.ensures ∙ lines_are (tree c.args.part.now)
