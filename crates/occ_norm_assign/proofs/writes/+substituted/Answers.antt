use Rattle.std.proofs.Common.{◌-◌, sym, ◌∙◌, arith}
use Rattle.occ_norm_frame.proofs.Worlds.{extends_trans, has_nodes-extends}
use Rattle.occ_norm_assign.specs.Written.{no_write}
use Rattle.occ_norm_assign.proofs.Substituted.{extends_five, extends_four, keep_substituted-extends, keep_substituted_learnt, substituted_more}
use Rattle.occ_norm_assign.proofs.writes.+substituted.Goals as goal

pub returns-in-Some-clause-substituted : goal.returns-in-Some-clause-substituted
returns-in-Some-clause-substituted t c = c.requires.memo.each _ c.in-Some.known (sym c.get.ensures ∙ c.in-Some.is)

pub substituted-requires : goal.substituted-requires
substituted-requires t c =
    let u = c.args.world.now in
    let a = c.cofactor.new.self in
    let b = c.cofactor-2.new.self in
    let kept = keep_substituted-extends u b (extends_trans u a b c.cofactor.ensures.extends c.cofactor-2.ensures.extends) c.args.writes.now c.args.memo.now c.requires.memo in
    let zero_has = has_nodes-extends a b c.cofactor-2.ensures.extends c.in_ok-zero.zero (c.in_ok-zero.ensures.nodes c.requires.map) in
    (omega (arith, c.decreases, c.if-left-eq0.false), (omega (arith, c.requires.left, c.if-left-eq0.false), (zero_has, kept)))

pub substituted-requires-2 : goal.substituted-requires-2
substituted-requires-2 t c =
    let one_has = c.in_ok-one.ensures.nodes (has_nodes-extends c.args.world.now c.cofactor.new.self c.cofactor.ensures.extends c.args.map c.requires.map) in
    let later = has_nodes-extends c.cofactor-2.new.self c.substituted.new.world c.substituted.ensures.extends c.in_ok-one.one one_has in
    (omega (arith, c.decreases, c.if-left-eq0.false), (omega (arith, c.requires.left, c.if-left-eq0.false), (later, c.substituted.ensures.memo)))

pub returns-in_err-zero-clause-memo : goal.returns-in_err-zero-clause-memo
returns-in_err-zero-clause-memo t c = keep_substituted-extends c.args.world.now c.cofactor.new.self c.cofactor.ensures.extends c.args.writes.now c.args.memo.now c.requires.memo

pub returns-in_err-one-clause-memo : goal.returns-in_err-one-clause-memo
returns-in_err-one-clause-memo t c =
    let u = c.args.world.now in
    let b = c.cofactor-2.new.self in
    keep_substituted-extends u b (extends_trans u c.cofactor.new.self b c.cofactor.ensures.extends c.cofactor-2.ensures.extends) c.args.writes.now c.args.memo.now c.requires.memo

pub returns-in_err-made-clause-memo : goal.returns-in_err-made-clause-memo
returns-in_err-made-clause-memo t c = keep_substituted-extends c.substituted-2.new.world c.choose.new.self c.choose.ensures.extends c.args.writes.now c.substituted-2.new.memo c.substituted-2.ensures.memo

pub returns-in_err-insert-clause-memo : goal.returns-in_err-insert-clause-memo
returns-in_err-insert-clause-memo t c =
    let d = c.substituted-2.new.world in
    let w = c.choose.new.self in
    keep_substituted_learnt w c.args.writes.now c.substituted-2.new.memo c.insert.new.self _ c.in_ok-made.made (keep_substituted-extends d w c.choose.ensures.extends c.args.writes.now c.substituted-2.new.memo c.substituted-2.ensures.memo)
    (substituted_more c.args.world.now c.cofactor.new.self c.cofactor-2.new.self c.substituted.new.world d w
    c.cofactor.ensures.extends c.cofactor-2.ensures.extends c.substituted.ensures.extends c.substituted-2.ensures.extends c.choose.ensures.extends
    c.args.writes.now c.requires.memo.known (c.args.left - 1) c.args.left no_write c.args.map c.in_ok-zero.zero c.in_ok-one.one c.in_ok-low.low c.in_ok-high.high c.in_ok-made.made
    (omega (arith, c.requires.left, c.if-left-eq0.false)) (omega (arith, c.if-left-eq0.false)) c.requires.map
    c.in_ok-zero.ensures.map c.in_ok-one.ensures.map c.in_ok-low.ensures.substituted c.in_ok-high.ensures.substituted c.in_ok-made.ensures.nodes c.in_ok-made.ensures.map)
    c.insert.ensures

pub returns-clause-memo : goal.returns-clause-memo
returns-clause-memo t c =
    let d = c.substituted-2.new.world in
    let w = c.choose.new.self in
    keep_substituted_learnt w c.args.writes.now c.substituted-2.new.memo c.insert.new.self _ c.in_ok-made.made (keep_substituted-extends d w c.choose.ensures.extends c.args.writes.now c.substituted-2.new.memo c.substituted-2.ensures.memo)
    (substituted_more c.args.world.now c.cofactor.new.self c.cofactor-2.new.self c.substituted.new.world d w
    c.cofactor.ensures.extends c.cofactor-2.ensures.extends c.substituted.ensures.extends c.substituted-2.ensures.extends c.choose.ensures.extends
    c.args.writes.now c.requires.memo.known (c.args.left - 1) c.args.left no_write c.args.map c.in_ok-zero.zero c.in_ok-one.one c.in_ok-low.low c.in_ok-high.high c.in_ok-made.made
    (omega (arith, c.requires.left, c.if-left-eq0.false)) (omega (arith, c.if-left-eq0.false)) c.requires.map
    c.in_ok-zero.ensures.map c.in_ok-one.ensures.map c.in_ok-low.ensures.substituted c.in_ok-high.ensures.substituted c.in_ok-made.ensures.nodes c.in_ok-made.ensures.map)
    c.insert.ensures

pub returns-clause-substituted : goal.returns-clause-substituted
returns-clause-substituted t c = substituted_more c.args.world.now c.cofactor.new.self c.cofactor-2.new.self c.substituted.new.world c.substituted-2.new.world c.choose.new.self
    c.cofactor.ensures.extends c.cofactor-2.ensures.extends c.substituted.ensures.extends c.substituted-2.ensures.extends c.choose.ensures.extends
    c.args.writes.now c.requires.memo.known (c.args.left - 1) c.args.left no_write c.args.map c.in_ok-zero.zero c.in_ok-one.one c.in_ok-low.low c.in_ok-high.high c.in_ok-made.made
    (omega (arith, c.requires.left, c.if-left-eq0.false)) (omega (arith, c.if-left-eq0.false)) c.requires.map
    c.in_ok-zero.ensures.map c.in_ok-one.ensures.map c.in_ok-low.ensures.substituted c.in_ok-high.ensures.substituted c.in_ok-made.ensures.nodes c.in_ok-made.ensures.map

pub returns-in_err-high-clause-extends : goal.returns-in_err-high-clause-extends
returns-in_err-high-clause-extends t c = extends_four c.args.world.now c.cofactor.new.self c.cofactor-2.new.self c.substituted.new.world c.substituted-2.new.world
    c.cofactor.ensures.extends c.cofactor-2.ensures.extends c.substituted.ensures.extends c.substituted-2.ensures.extends

pub returns-in_err-made-clause-extends : goal.returns-in_err-made-clause-extends
returns-in_err-made-clause-extends t c = extends_five c.args.world.now c.cofactor.new.self c.cofactor-2.new.self c.substituted.new.world c.substituted-2.new.world c.choose.new.self
    c.cofactor.ensures.extends c.cofactor-2.ensures.extends c.substituted.ensures.extends c.substituted-2.ensures.extends c.choose.ensures.extends

pub returns-in_err-insert-clause-extends : goal.returns-in_err-insert-clause-extends
returns-in_err-insert-clause-extends t c = extends_five c.args.world.now c.cofactor.new.self c.cofactor-2.new.self c.substituted.new.world c.substituted-2.new.world c.choose.new.self
    c.cofactor.ensures.extends c.cofactor-2.ensures.extends c.substituted.ensures.extends c.substituted-2.ensures.extends c.choose.ensures.extends

pub returns-clause-extends : goal.returns-clause-extends
returns-clause-extends t c = extends_five c.args.world.now c.cofactor.new.self c.cofactor-2.new.self c.substituted.new.world c.substituted-2.new.world c.choose.new.self
    c.cofactor.ensures.extends c.cofactor-2.ensures.extends c.substituted.ensures.extends c.substituted-2.ensures.extends c.choose.ensures.extends
