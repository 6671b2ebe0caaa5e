use Rattle.occ_tool_run.proofs.Judging.{all_have_interface, all_once}
use Rattle.occ_tool_run.proofs.accept.accept_first.Goals as goal

pub returns-clause-interface : goal.returns-clause-interface
returns-clause-interface c = all_have_interface c.parameters_have_names.ensures c.accept.result c.args.loaded.now c.args.names.now c.accept.new.names c.requires.empty c.accept.ensures.accepted

pub returns-clause-distinct : goal.returns-clause-distinct
returns-clause-distinct c = all_once c.parameters_have_names.ensures c.accept.result c.args.loaded.now c.args.names.now c.accept.new.names c.requires.empty c.accept.ensures.accepted
