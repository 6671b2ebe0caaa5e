use Rattle.occ_norm_frame.proofs.Worlds.{extends_refl, extends_trans, map-keeps}
use Rattle.occ_norm_frame.proofs.changes.depth.Goals as goal

pub depends-requires-clause-map : goal.depends-requires-clause-map
depends-requires-clause-map c = map-keeps c.args.world.now c.loop-place.world c.loop-place.invariant.extends.maps c.args.map c.requires

pub loop-place-init : goal.loop-place-init
loop-place-init c = record { extends = extends_refl c.args.world.now }

pub loop-place-preserved : goal.loop-place-preserved
loop-place-preserved c = record { extends = extends_trans c.args.world.now c.loop-place.world c.depends.new.self c.loop-place.invariant.extends c.depends.ensures.extends }
