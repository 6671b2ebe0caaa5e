use Rattle.std.proofs.Common.{sym, ap, subst}
use Rattle.occ_weave.specs.occ_mdd.Maps.{Keeps}
use Rattle.occ_norm_frame.proofs.Worlds.{extends_rows, maps_refl, store_keeps}
use Rattle.occ_norm_frame.proofs.normaliser.Normaliser.new.Goals as goal

pub returns : goal.returns
returns c = extends_rows c.args.world _ (store_keeps _ _ (ap (λ w. w.store) c.new-2.ensures.world)) (ap (λ w. w.rows) c.new-2.ensures.world)
    (subst (λ m. Keeps c.args.world.maps m) (sym c.replace-maps.ensures.value) (maps_refl c.args.world))
