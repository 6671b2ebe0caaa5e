use Rattle.std.proofs.Common.{◌≡◌, arith}
use Rattle.occ_law_shape.proofs.from_law.Known.{by_name}
use Rattle.occ_law_shape.specs.occ_law.declared.variants.Law.TheVariants.{SeqNone, SeqOne, SeqFlat, SeqSkip, SeqStop, AssignId, AssignOrder, AssignPad, AssignJoin, AssignIf, AssignAlt, SeqIf, SeqAlt, Expr, IoAlt}
use Rattle.occ_syntax.specs.Scopes.{environment}
use Rattle.occ_syntax.specs.View.{tree}
use Rattle.occ_law_seq.proofs.Tabled.{in_table, pairs_of_kept}
use Rattle.occ_law_seq.proofs.decide.holds.Goals as goal

pub assign_order-requires-clause-left : goal.assign_order-requires-clause-left
assign_order-requires-clause-left c = pairs_of_kept (environment c.args.scope.now) (tree c.args.left.now) c.requires.left

pub assign_order-requires-clause-right : goal.assign_order-requires-clause-right
assign_order-requires-clause-right c = pairs_of_kept (environment c.args.scope.now) (tree c.args.right.now) c.requires.right

pub returns-in-Some-SeqNone : goal.returns-in-Some-SeqNone
returns-in-Some-SeqNone c =
    let number = by_name SeqNone c.in-Some-SeqNone.field-0-is c.in-Some-SeqNone.ensures.numbered in
    in_table c.args.law.0 1 c.args.scope.now (tree c.args.left.now) (tree c.args.right.now) number c.requires.left c.requires.right c.seq_none.result c.seq_none.ensures

pub returns-in-Some-SeqOne : goal.returns-in-Some-SeqOne
returns-in-Some-SeqOne c =
    let number = by_name SeqOne c.in-Some-SeqOne.field-0-is c.in-Some-SeqOne.ensures.numbered in
    in_table c.args.law.0 2 c.args.scope.now (tree c.args.left.now) (tree c.args.right.now) number c.requires.left c.requires.right c.seq_one.result c.seq_one.ensures

pub returns-in-Some-SeqFlat : goal.returns-in-Some-SeqFlat
returns-in-Some-SeqFlat c =
    let number = by_name SeqFlat c.in-Some-SeqFlat.field-0-is c.in-Some-SeqFlat.ensures.numbered in
    in_table c.args.law.0 3 c.args.scope.now (tree c.args.left.now) (tree c.args.right.now) number c.requires.left c.requires.right c.seq_flat.result c.seq_flat.ensures

pub returns-in-Some-SeqSkip : goal.returns-in-Some-SeqSkip
returns-in-Some-SeqSkip c =
    let number = by_name SeqSkip c.in-Some-SeqSkip.field-0-is c.in-Some-SeqSkip.ensures.numbered in
    in_table c.args.law.0 4 c.args.scope.now (tree c.args.left.now) (tree c.args.right.now) number c.requires.left c.requires.right c.seq_skip.result c.seq_skip.ensures

pub returns-in-Some-SeqStop : goal.returns-in-Some-SeqStop
returns-in-Some-SeqStop c =
    let number = by_name SeqStop c.in-Some-SeqStop.field-0-is c.in-Some-SeqStop.ensures.numbered in
    in_table c.args.law.0 5 c.args.scope.now (tree c.args.left.now) (tree c.args.right.now) number c.requires.left c.requires.right c.seq_stop.result c.seq_stop.ensures

pub returns-in-Some-AssignId : goal.returns-in-Some-AssignId
returns-in-Some-AssignId c =
    let number = by_name AssignId c.in-Some-AssignId.field-0-is c.in-Some-AssignId.ensures.numbered in
    in_table c.args.law.0 6 c.args.scope.now (tree c.args.left.now) (tree c.args.right.now) number c.requires.left c.requires.right c.assign_id.result c.assign_id.ensures

pub returns-in-Some-AssignOrder : goal.returns-in-Some-AssignOrder
returns-in-Some-AssignOrder c =
    let number = by_name AssignOrder c.in-Some-AssignOrder.field-0-is c.in-Some-AssignOrder.ensures.numbered in
    in_table c.args.law.0 7 c.args.scope.now (tree c.args.left.now) (tree c.args.right.now) number c.requires.left c.requires.right c.assign_order.result c.assign_order.ensures

pub returns-in-Some-AssignPad : goal.returns-in-Some-AssignPad
returns-in-Some-AssignPad c =
    let number = by_name AssignPad c.in-Some-AssignPad.field-0-is c.in-Some-AssignPad.ensures.numbered in
    in_table c.args.law.0 8 c.args.scope.now (tree c.args.left.now) (tree c.args.right.now) number c.requires.left c.requires.right c.assign_pad.result c.assign_pad.ensures

pub returns-in-Some-AssignJoin : goal.returns-in-Some-AssignJoin
returns-in-Some-AssignJoin c =
    let number = by_name AssignJoin c.in-Some-AssignJoin.field-0-is c.in-Some-AssignJoin.ensures.numbered in
    in_table c.args.law.0 9 c.args.scope.now (tree c.args.left.now) (tree c.args.right.now) number c.requires.left c.requires.right c.assign_join.result c.assign_join.ensures

pub returns-in-Some-AssignIf : goal.returns-in-Some-AssignIf
returns-in-Some-AssignIf c =
    let number = by_name AssignIf c.in-Some-AssignIf.field-0-is c.in-Some-AssignIf.ensures.numbered in
    in_table c.args.law.0 10 c.args.scope.now (tree c.args.left.now) (tree c.args.right.now) number c.requires.left c.requires.right c.assign_if.result c.assign_if.ensures

pub returns-in-Some-AssignAlt : goal.returns-in-Some-AssignAlt
returns-in-Some-AssignAlt c =
    let number = by_name AssignAlt c.in-Some-AssignAlt.field-0-is c.in-Some-AssignAlt.ensures.numbered in
    in_table c.args.law.0 11 c.args.scope.now (tree c.args.left.now) (tree c.args.right.now) number c.requires.left c.requires.right c.assign_alt.result c.assign_alt.ensures

pub returns-in-Some-SeqIf : goal.returns-in-Some-SeqIf
returns-in-Some-SeqIf c =
    let number = by_name SeqIf c.in-Some-SeqIf.field-0-is c.in-Some-SeqIf.ensures.numbered in
    in_table c.args.law.0 12 c.args.scope.now (tree c.args.left.now) (tree c.args.right.now) number c.requires.left c.requires.right c.seq_if.result c.seq_if.ensures

pub returns-in-Some-SeqAlt : goal.returns-in-Some-SeqAlt
returns-in-Some-SeqAlt c =
    let number = by_name SeqAlt c.in-Some-SeqAlt.field-0-is c.in-Some-SeqAlt.ensures.numbered in
    in_table c.args.law.0 13 c.args.scope.now (tree c.args.left.now) (tree c.args.right.now) number c.requires.left c.requires.right c.seq_alt.result c.seq_alt.ensures

pub returns-in-Some-Expr : goal.returns-in-Some-Expr
returns-in-Some-Expr c =
    let number = by_name Expr c.in-Some-Expr.field-0-is c.in-Some-Expr.ensures.numbered in
    in_table c.args.law.0 14 c.args.scope.now (tree c.args.left.now) (tree c.args.right.now) number c.requires.left c.requires.right c.expr.result c.expr.ensures

pub returns-in-Some-IoAlt : goal.returns-in-Some-IoAlt
returns-in-Some-IoAlt c =
    let number = by_name IoAlt c.in-Some-IoAlt.field-0-is c.in-Some-IoAlt.ensures.numbered in
    in_table c.args.law.0 15 c.args.scope.now (tree c.args.left.now) (tree c.args.right.now) number c.requires.left c.requires.right c.io_alt.result c.io_alt.ensures
