use Rattle.std.proofs.Common.{ap, ◌∙◌}
use Rattle.occ_syntax.specs.Tree.{seq}
use Rattle.occ_syntax.specs.View.{trees}
use Rattle.occ_syntax.proofs.Views.{tree-Seq}
use Rattle.occ_derive_search.proofs.longer.seq_none.Goals as goal

pub returns : goal.returns
returns c = tree-Seq _ ∙ ap (λ ps. seq (trees ps)) c.new.ensures
