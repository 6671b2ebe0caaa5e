use Rattle.std.proofs.Common.{ap, ◌∙◌}
use Rattle.occ_syntax.specs.Tree.{select}
use Rattle.occ_syntax.specs.View.{cases}
use Rattle.occ_syntax.proofs.Views.{tree-If}
use Rattle.occ_derive_search.proofs.longer.if_none.Goals as goal

pub returns : goal.returns
returns c = tree-If _ ∙ ap (λ ps. select (cases ps)) c.new.ensures
