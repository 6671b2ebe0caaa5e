use Rattle.std.proofs.Common.{sym, ◌∙◌, subst, Bool}
use Rattle.std.proofs.lemmas.Result.{IfOk-weaker}
use Rattle.occ_bits.specs.occ_dd.Assignment.{turned, with_bit}
use Rattle.occ_bits.proofs.from_dd.Callers.{known-keeps, set-keeps}
use Rattle.occ_weave.specs.occ_mdd.Maps.{IsMap, value}
use Rattle.occ_norm_frame.specs.Maps.{digit}
use Rattle.occ_norm_frame.proofs.Worlds.{cofactor_one, cofactor_zero, extends_trans, map-keeps, moved_nodes, with_bit_below}
use Rattle.occ_norm_frame.proofs.normaliser.Normaliser.cofactor.Goals as goal

pub flip-requires-clause-map : goal.flip-requires-clause-map
flip-requires-clause-map c = map-keeps c.args.self.now c.bit.new.self c.bit.ensures.extends.maps c.args.map c.requires.map

pub returns-in_err-turned-clause-extends : goal.returns-in_err-turned-clause-extends
returns-in_err-turned-clause-extends c = extends_trans c.args.self.now c.bit.new.self c.flip.new.self c.bit.ensures.extends c.flip.ensures.extends

pub choose-requires-clause-set : goal.choose-requires-clause-set
choose-requires-clause-set c = known-keeps c.bit.new.self.store c.flip.new.self.store c.flip.ensures.extends.grows.stored c.in_ok-set.set c.in_ok-set.ensures.set.known

pub returns-then-one-clause-extends : goal.returns-then-one-clause-extends
returns-then-one-clause-extends c = extends_trans c.args.self.now c.flip.new.self c.choose.new.self
    (extends_trans c.args.self.now c.bit.new.self c.flip.new.self c.bit.ensures.extends c.flip.ensures.extends) c.choose.ensures.extends

pub returns-else-one-clause-extends : goal.returns-else-one-clause-extends
returns-else-one-clause-extends c = extends_trans c.args.self.now c.flip.new.self c.choose-else-one.new.self
    (extends_trans c.args.self.now c.bit.new.self c.flip.new.self c.bit.ensures.extends c.flip.ensures.extends) c.choose-else-one.ensures.extends

pub returns-then-one-clause-map : goal.returns-then-one-clause-map
returns-then-one-clause-map c =
    let k = extends_trans c.args.self.now c.bit.new.self c.flip.new.self c.bit.ensures.extends c.flip.ensures.extends in
    IfOk-weaker c.choose.result _ _
    (λ r made. subst (λ (b : Bool). IsMap c.choose.new.self.maps r (λ x. value c.args.self.now.maps c.args.map (with_bit x c.args.bit (digit b)))) (sym c.if-one.true)
    (cofactor_one c.args.self.now.maps c.flip.new.self.maps c.choose.new.self.maps c.flip.new.self.store c.args.map c.in_ok-turned.turned c.args.bit c.in_ok-set.set c.requires.map k.maps
    (record { known = c.in_ok-turned.ensures.map.known; values = λ x. c.in_ok-turned.ensures.map.values x ∙ c.bit.ensures.extends.maps.same c.args.map (turned x c.args.bit) c.requires.map })
    (set-keeps c.bit.new.self.store c.flip.new.self.store c.flip.ensures.extends.grows.stored c.in_ok-set.set _ c.in_ok-set.ensures.set) r made))
    c.choose.ensures.map

pub returns-then-one-clause-nodes : goal.returns-then-one-clause-nodes
returns-then-one-clause-nodes c =
    let k = extends_trans c.args.self.now c.bit.new.self c.flip.new.self c.bit.ensures.extends c.flip.ensures.extends in
    λ has. IfOk-weaker c.choose.result _ _
    (λ r made. moved_nodes c.args.self.now c.choose.new.self (extends_trans c.args.self.now c.flip.new.self c.choose.new.self k c.choose.ensures.extends) c.args.map r
    (λ x. with_bit x c.args.bit 1) (with_bit_below c.args.bit 1 c.requires.bit) has
    (cofactor_one c.args.self.now.maps c.flip.new.self.maps c.choose.new.self.maps c.flip.new.self.store c.args.map c.in_ok-turned.turned c.args.bit c.in_ok-set.set c.requires.map k.maps
    (record { known = c.in_ok-turned.ensures.map.known; values = λ x. c.in_ok-turned.ensures.map.values x ∙ c.bit.ensures.extends.maps.same c.args.map (turned x c.args.bit) c.requires.map })
    (set-keeps c.bit.new.self.store c.flip.new.self.store c.flip.ensures.extends.grows.stored c.in_ok-set.set _ c.in_ok-set.ensures.set) r made))
    c.choose.ensures.map

pub returns-else-one-clause-map : goal.returns-else-one-clause-map
returns-else-one-clause-map c =
    let k = extends_trans c.args.self.now c.bit.new.self c.flip.new.self c.bit.ensures.extends c.flip.ensures.extends in
    IfOk-weaker c.choose-else-one.result _ _
    (λ r made. subst (λ (b : Bool). IsMap c.choose-else-one.new.self.maps r (λ x. value c.args.self.now.maps c.args.map (with_bit x c.args.bit (digit b)))) (sym c.if-one.false)
    (cofactor_zero c.args.self.now.maps c.flip.new.self.maps c.choose-else-one.new.self.maps c.flip.new.self.store c.args.map c.in_ok-turned.turned c.args.bit c.in_ok-set.set c.requires.map k.maps
    (record { known = c.in_ok-turned.ensures.map.known; values = λ x. c.in_ok-turned.ensures.map.values x ∙ c.bit.ensures.extends.maps.same c.args.map (turned x c.args.bit) c.requires.map })
    (set-keeps c.bit.new.self.store c.flip.new.self.store c.flip.ensures.extends.grows.stored c.in_ok-set.set _ c.in_ok-set.ensures.set) r made))
    c.choose-else-one.ensures.map

pub returns-else-one-clause-nodes : goal.returns-else-one-clause-nodes
returns-else-one-clause-nodes c =
    let k = extends_trans c.args.self.now c.bit.new.self c.flip.new.self c.bit.ensures.extends c.flip.ensures.extends in
    λ has. IfOk-weaker c.choose-else-one.result _ _
    (λ r made. moved_nodes c.args.self.now c.choose-else-one.new.self (extends_trans c.args.self.now c.flip.new.self c.choose-else-one.new.self k c.choose-else-one.ensures.extends) c.args.map r
    (λ x. with_bit x c.args.bit 0) (with_bit_below c.args.bit 0 c.requires.bit) has
    (cofactor_zero c.args.self.now.maps c.flip.new.self.maps c.choose-else-one.new.self.maps c.flip.new.self.store c.args.map c.in_ok-turned.turned c.args.bit c.in_ok-set.set c.requires.map k.maps
    (record { known = c.in_ok-turned.ensures.map.known; values = λ x. c.in_ok-turned.ensures.map.values x ∙ c.bit.ensures.extends.maps.same c.args.map (turned x c.args.bit) c.requires.map })
    (set-keeps c.bit.new.self.store c.flip.new.self.store c.flip.ensures.extends.grows.stored c.in_ok-set.set _ c.in_ok-set.ensures.set) r made))
    c.choose-else-one.ensures.map
