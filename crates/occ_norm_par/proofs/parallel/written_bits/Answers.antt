use Rattle.occ_syntax.specs.View.{tree}
use Rattle.occ_norm_par.proofs.Writing.{names_written}
use Rattle.occ_norm_par.proofs.parallel.written_bits.Goals as goal

pub returns-clause-written : goal.returns-clause-written
returns-clause-written c = names_written c.args.frame.now.layout _ (tree c.args.part.now) _ _ _ c.items.ensures.laid c.items.ensures.items c.as_slice.ensures.value c.in_ok-names.ensures.members c.bits_of_names.ensures
