use Rattle.std.proofs.Common.{ap, ◌∙◌}
use Rattle.occ_syntax.specs.Tree.{alt}
use Rattle.occ_syntax.specs.View.{branches}
use Rattle.occ_syntax.proofs.Views.{tree-Alt}
use Rattle.occ_derive_search.proofs.longer.alt_none.Goals as goal

pub returns : goal.returns
returns c = tree-Alt _ ∙ ap (λ ps. alt (branches ps)) c.new.ensures
