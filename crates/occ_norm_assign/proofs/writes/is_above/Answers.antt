use Rattle.occ_norm_frame.proofs.Worlds.{extends_refl, extends_trans}
use Rattle.occ_norm_frame.proofs.Keeping.{set-extends}
use Rattle.occ_norm_assign.proofs.writes.is_above.Goals as goal

pub is_free-requires-clause-set : goal.is_free-requires-clause-set
is_free-requires-clause-set c = set-extends c.args.world.now c.loop-below.world c.loop-below.invariant.extends c.args.set c.requires.set

pub loop-below-init : goal.loop-below-init
loop-below-init c = record { extends = extends_refl c.args.world.now }

pub loop-below-preserved : goal.loop-below-preserved
loop-below-preserved c = record { extends = extends_trans c.args.world.now c.loop-below.world c.is_free.new.self c.loop-below.invariant.extends c.is_free.ensures.extends }
