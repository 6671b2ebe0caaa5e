use Rattle.occ_norm_frame.proofs.Worlds.{has_nodes-extends}
use Rattle.occ_norm_frame.proofs.Keeping.{none_may}
use Rattle.occ_norm_alt.proofs.Joining.{alternation_none}
use Rattle.occ_norm_alt.proofs.Steps.{stop_nothing_later}
use Rattle.occ_norm_alt.proofs.choice.Alternation.none.Goals as goal

pub returns-clause-maps : goal.returns-clause-maps
returns-clause-maps c = record {
  waiting = has_nodes-extends c.stop.new.self c.constant.new.self c.constant.ensures.extends c.in_ok-waiting.waiting c.in_ok-waiting.ensures.nodes;
  ready = none_may c.constant.new.self c.in_ok-ready.ready c.in_ok-ready.ensures.map;
}

pub returns-clause-none : goal.returns-clause-none
returns-clause-none c = alternation_none c.constant.new.self c.in_ok-waiting.waiting c.in_ok-ready.ready
    (stop_nothing_later c.stop.new.self c.constant.new.self c.constant.ensures.extends c.in_ok-waiting.waiting c.in_ok-waiting.ensures.stop) c.in_ok-ready.ensures.map
