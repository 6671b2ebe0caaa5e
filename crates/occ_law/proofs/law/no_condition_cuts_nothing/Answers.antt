use Rattle.occ_law.proofs.Instances.{cut_none}
use Rattle.occ_bits.specs.occ_syntax.Tree.{select, no_case}
use Rattle.std.proofs.Common.{refl}
use Rattle.occ_law.proofs.law.no_condition_cuts_nothing.Goals as goal

pub returns : goal.returns
returns c = λ law. cut_none (select no_case) (select no_case) law.place law.sides refl
