use Rattle.std.proofs.Common.{refl, subst}
use Rattle.occ_bits.proofs.from_dd.Callers.{keeps_refl}
use Rattle.occ_norm_frame.specs.Maps.{Extends}
use Rattle.occ_norm_frame.proofs.Worlds.{extends_rows}
use Rattle.occ_norm_frame.proofs.normaliser.Normaliser.constant.Goals as goal

pub returns-clause-extends : goal.returns-clause-extends
returns-clause-extends c =
    let w = c.self.inside.lifting.weaver.world in
    let z = record w { maps = c.constant.new.self } in
    subst (λ v. Extends v z) c.self.view_is (extends_rows (record w { maps = c.self.inside.maps }) z (keeps_refl w.store) refl c.constant.ensures.keeps)
