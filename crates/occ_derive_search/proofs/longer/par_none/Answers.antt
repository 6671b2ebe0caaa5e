use Rattle.std.proofs.Common.{ap, ◌∙◌}
use Rattle.occ_syntax.specs.Tree.{par}
use Rattle.occ_syntax.specs.View.{trees}
use Rattle.occ_syntax.proofs.Views.{tree-Par}
use Rattle.occ_derive_search.proofs.longer.par_none.Goals as goal

pub returns : goal.returns
returns c = tree-Par _ ∙ ap (λ ps. par (trees ps)) c.new.ensures
