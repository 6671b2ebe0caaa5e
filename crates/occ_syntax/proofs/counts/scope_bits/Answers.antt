use Rattle.std.proofs.Common.{◌∙◌}
use Rattle.occ_syntax.specs.View.{tree}
use Rattle.occ_syntax.proofs.Widest.{most_bits-capped}
use Rattle.occ_syntax.proofs.counts.scope_bits.Goals as goal

pub returns : goal.returns
returns c = c.most_bits.ensures ∙ most_bits-capped (tree c.args.program.now.body) _ _ c.interface_bits.ensures
