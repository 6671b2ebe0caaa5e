use Rattle.std.proofs.Common.{ap, ◌∙◌}
use Rattle.occ_syntax.specs.Tree.{alt}
use Rattle.occ_syntax.specs.View.{in_alternatives}
use Rattle.occ_syntax.proofs.Views.{tree-Alt}
use Rattle.occ_target.specs.Framed.{frame_of}
use Rattle.occ_target.proofs.Built.{row_whole}
use Rattle.occ_target.proofs.events.Frame.row_process.Goals as goal

pub returns : goal.returns
returns c = tree-Alt _ ∙ ap alt (row_whole (frame_of c.args.self.now) c.args.row.now c.items-offers.result.now c.items.result.now c.items-2.result.now (in_alternatives c.in_ok-made.made) (in_alternatives c.push_acceptances.new.made)
    (in_alternatives c.push_ends.new.made) c.items-offers.ensures c.items.ensures c.items-2.ensures c.in_ok-made.ensures c.in_ok-push_acceptances.ensures c.in_ok-push_ends.ensures)
