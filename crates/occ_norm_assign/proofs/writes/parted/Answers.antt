use Rattle.occ_norm_frame.proofs.Worlds.{extends_trans, has_nodes-extends}
use Rattle.occ_norm_frame.proofs.Keeping.{set-extends}
use Rattle.occ_norm_assign.proofs.Exchanging.{parted_from}
use Rattle.occ_norm_assign.proofs.writes.parted.Goals as goal

pub flip-requires-clause-map : goal.flip-requires-clause-map
flip-requires-clause-map c = (has_nodes-extends c.args.world.now c.changed.new.self c.changed.ensures.extends c.args.map c.requires.map).known

pub choose-requires-clause-set : goal.choose-requires-clause-set
choose-requires-clause-set c = set-extends c.changed.new.self c.flip.new.self c.flip.ensures.extends c.in_ok-turns.turns c.in_ok-turns.ensures.set.known

pub choose-requires-clause-b : goal.choose-requires-clause-b
choose-requires-clause-b c =
    let u = c.args.world.now in
    let f = c.flip.new.self in
    (has_nodes-extends u f (extends_trans u c.changed.new.self f c.changed.ensures.extends c.flip.ensures.extends) c.args.other c.requires.other).known

pub choose-requires-2-clause-set : goal.choose-requires-2-clause-set
choose-requires-2-clause-set c =
    let t = c.changed.new.self in
    let v = c.choose.new.self in
    set-extends t v (extends_trans t c.flip.new.self v c.flip.ensures.extends c.choose.ensures.extends) c.in_ok-turns.turns c.in_ok-turns.ensures.set.known

pub choose-requires-2-clause-a : goal.choose-requires-2-clause-a
choose-requires-2-clause-a c =
    let u = c.args.world.now in
    let v = c.choose.new.self in
    (has_nodes-extends u v (extends_trans u c.flip.new.self v (extends_trans u c.changed.new.self c.flip.new.self c.changed.ensures.extends c.flip.ensures.extends) c.choose.ensures.extends) c.args.other c.requires.other).known

pub choose-requires-2-clause-b : goal.choose-requires-2-clause-b
choose-requires-2-clause-b c =
    let u = c.args.world.now in
    let v = c.choose.new.self in
    (has_nodes-extends u v (extends_trans u c.flip.new.self v (extends_trans u c.changed.new.self c.flip.new.self c.changed.ensures.extends c.flip.ensures.extends) c.choose.ensures.extends) c.args.map c.requires.map).known

pub returns-clause-parts : goal.returns-clause-parts
returns-clause-parts c =
    let u = c.args.world.now in
    let t = c.changed.new.self in
    let f = c.flip.new.self in
    let v = c.choose.new.self in
    let uf = extends_trans u t f c.changed.ensures.extends c.flip.ensures.extends in
    let uv = extends_trans u f v uf c.choose.ensures.extends in
    parted_from u t f v c.choose-2.new.self c.changed.ensures.extends c.flip.ensures.extends c.choose.ensures.extends c.choose-2.ensures.extends
    c.args.write c.args.map c.args.other c.in_ok-there.there _ c.requires.write c.requires.map c.requires.other c.in_ok-turns.ensures.set c.in_ok-there.ensures.map
    c.in_ok-on.ensures.map (c.in_ok-on.ensures.nodes (c.in_ok-there.ensures.nodes (has_nodes-extends u t c.changed.ensures.extends c.args.map c.requires.map)) (has_nodes-extends u f uf c.args.other c.requires.other))
    c.in_ok-off.ensures.map (c.in_ok-off.ensures.nodes (has_nodes-extends u v uv c.args.other c.requires.other) (has_nodes-extends u v uv c.args.map c.requires.map))
