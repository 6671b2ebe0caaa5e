use Rattle.std.proofs.Common.{refl, sym, subst}
use Rattle.std.proofs.lemmas.Result.{IfOk-weaker}
use Rattle.occ_bits.specs.occ_dd.Assignment.{turned}
use Rattle.occ_bits.proofs.from_dd.Callers.{keeps_refl}
use Rattle.occ_follow.specs.Sequence.{HasNodes}
use Rattle.occ_weave.specs.occ_mdd.Maps.{IsKnown, IsMap, value}
use Rattle.occ_norm_frame.specs.Maps.{Extends}
use Rattle.occ_norm_frame.proofs.Worlds.{extends_rows, moved_nodes, turned_below}
use Rattle.occ_norm_frame.proofs.normaliser.Normaliser.flip.Goals as goal

pub flip-requires-clause-a : goal.flip-requires-clause-a
flip-requires-clause-a c = subst (λ v. IsKnown v.maps c.args.map) (sym c.self.view_is) c.requires.map

pub returns-clause-extends : goal.returns-clause-extends
returns-clause-extends c =
    let w = c.self.inside.lifting.weaver.world in
    let z = record w { maps = c.flip.new.self } in
    subst (λ v. Extends v z) c.self.view_is (extends_rows (record w { maps = c.self.inside.maps }) z (keeps_refl w.store) refl c.flip.ensures.keeps)

pub returns-clause-map : goal.returns-clause-map
returns-clause-map c = IfOk-weaker c.flip.result _ _ (λ r is. subst (λ v. IsMap c.flip.new.self r (λ x. value v.maps c.args.map (turned x c.args.bit))) c.self.view_is is) c.flip.ensures.map

pub returns-clause-nodes : goal.returns-clause-nodes
returns-clause-nodes c =
    let w = c.self.inside.lifting.weaver.world in
    let u = record w { maps = c.self.inside.maps } in
    let z = record w { maps = c.flip.new.self } in
    λ has. IfOk-weaker c.flip.result _ _
    (λ r is. moved_nodes u z (extends_rows u z (keeps_refl w.store) refl c.flip.ensures.keeps) c.args.map r (λ x. turned x c.args.bit) (turned_below c.args.bit c.requires.bit) (subst (λ v. HasNodes v c.args.map) (sym c.self.view_is) has) is) c.flip.ensures.map
