use Rattle.occ_norm_par.proofs.Limiting.{limited_over}
use Rattle.occ_norm_par.proofs.limits.limited.Goals as goal

pub returns-clause-over : goal.returns-clause-over
returns-clause-over c = limited_over c.args.world.now c.stop.new.self c.choose.new.self c.stop.ensures.extends c.args.frame.now.bits c.args.set c.args.map c.in_ok-stopped.stopped c.choose.result c.requires.set c.requires.map
    c.in_ok-stopped.ensures.stop c.in_ok-stopped.ensures.nodes c.choose.ensures.nodes c.choose.ensures.map
