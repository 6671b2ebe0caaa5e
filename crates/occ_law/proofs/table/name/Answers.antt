use Rattle.std.proofs.Common.{refl, arith}
use Rattle.occ_law.specs.Table.{law_names}
use Rattle.occ_law.proofs.table.name.Goals as goal

pub text_at-requires-clause-table : goal.text_at-requires-clause-table
unfolding law_names
text_at-requires-clause-table c = refl

pub text_at-requires-clause-place : goal.text_at-requires-clause-place
text_at-requires-clause-place c = omega (arith, c.requires.low, c.requires.high)

pub returns : goal.returns
returns c = record { low = c.requires.low; high = c.requires.high; spelled = c.text_at.ensures }
