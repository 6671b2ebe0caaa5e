use Rattle.std.proofs.Common.{ap, sym, ◌∙◌}
use Rattle.occ_syntax.specs.Tree.{select}
use Rattle.occ_syntax.proofs.Views.{tree-If}
use Rattle.occ_target.specs.Framed.{frame_of}
use Rattle.occ_target.specs.Rows.{behind}
use Rattle.occ_target.proofs.events.Frame.behind.Goals as goal

pub returns-in_ok-choices-in-Input : goal.returns-in_ok-choices-in-Input
returns-in_ok-choices-in-Input c = tree-If _ ∙ ap select c.in_ok-choices-in-Input.ensures ∙ ap (λ dir. behind (frame_of c.args.self.now) dir c.args.first.0.chan.0 c.args.first.1 c.args.offers.now) (sym c.in-Input.is)
