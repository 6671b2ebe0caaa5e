use Rattle.occ_engine_known.proofs.Direct.{direct_pass}
use Rattle.occ_engine_known.proofs.known_names.direct_results_declare_no_new_names.Goals as goal

pub returns : goal.returns
returns c = λ n S l r test d h. direct_pass test n S l r d h
