use Rattle.std.proofs.Common.{◌∷◌, []}
use Rattle.occ_core_tests.proofs.Below.{last_within}
use Rattle.occ_core_tests.proofs.tests.print.table.Goals as goal

pub returns : goal.returns
returns c = last_within _ c.loop-text.names _ (108 ∷ 97 ∷ 115 ∷ 116 ∷ []) c.intern-2.ensures.number c.intern-2.ensures.table
