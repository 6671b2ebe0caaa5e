use Rattle.std.proofs.Common.{sym, ◌∙◌}
use Rattle.occ_parse_part.proofs.Scoped.{params_done}
use Rattle.occ_parse_part.specs.Seen.{seen}
use Rattle.occ_parse_part.proofs.resolving.params_of.Goals as goal

pub returns : goal.returns
returns c = sym (params_done (seen c.args.elements.now) c.args.scope.now c.loop-entry.entry-index _ c.loop-entry-test.false) ∙ c.loop-entry.invariant
