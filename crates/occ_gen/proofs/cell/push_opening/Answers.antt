use Rattle.std.proofs.Common.{◌∙◌, ap}
use Rattle.std.specs.Prelude.{decimal}
use Rattle.occ_gen.proofs.Texts.{opening_lines}
use Rattle.occ_gen.proofs.cell.push_opening.Goals as goal

pub returns : goal.returns
returns c =
    let messages = c.as_bytes.ensures.value ∙ c.format-messages.ensures.text ∙ ap decimal c.messages.ensures in
    opening_lines c.args.shape c.args.level _ _ _ _ _ _ c.width.ensures messages
    c.in_ok-push_line.ensures c.in_ok-push_line-2.ensures c.in_ok-push_line-3.ensures
