use Rattle.std.proofs.Common.{ap, ◌∙◌}
use Rattle.occ_law.specs.Numbers.{lists_of}
use Rattle.occ_law.proofs.Rows.{said}
use Rattle.occ_law.proofs.variants.Law.changes.Goals as goal

pub returns : goal.returns
returns c = (said c.row.result c.row.ensures.kept).2 ∙ ap lists_of c.row.ensures.law
