use Rattle.occ_derive_laws.proofs.Exchanged.{input_law, input_spares, output_law, output_spares}
use Rattle.occ_derive_laws.proofs.expressions.io_alt_joins.Goals as goal

pub returns-clause-inputs : goal.returns-clause-inputs
returns-clause-inputs c = input_law

pub returns-clause-outputs : goal.returns-clause-outputs
returns-clause-outputs c = output_law

pub returns-clause-sparing_input : goal.returns-clause-sparing_input
returns-clause-sparing_input c = input_spares

pub returns-clause-sparing_output : goal.returns-clause-sparing_output
returns-clause-sparing_output c = output_spares
