use Rattle.std.proofs.Common.{ap}
use Rattle.occ_norm_frame.proofs.Worlds.{extends_at, extends_rows, maps_refl, store_keeps}
use Rattle.occ_norm_frame.proofs.normaliser.Normaliser.into_world.Goals as goal

pub returns : goal.returns
returns c =
    let u = record c.self.inside.lifting.weaver.world { maps = c.self.inside.maps } in
    extends_at u c.args.self _ c.self.view_is
    (extends_rows u _ (store_keeps _ _ (ap (λ w. w.store) c.into_world-world.ensures)) (ap (λ w. w.rows) c.into_world-world.ensures) (maps_refl u))
