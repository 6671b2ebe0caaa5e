use Rattle.std.proofs.Common.{◌≡◌, Ok, arith}
use Rattle.occ_law_shape.proofs.from_law.Known.{by_name}
use Rattle.occ_law_shape.specs.occ_law.declared.variants.Law.TheVariants.{ParNone, ParOne, ParFlat, ParOrder, ParSkip, ParStop, ParAssign, ParIf, ParExpand}
use Rattle.occ_syntax.specs.View.{tree}
use Rattle.occ_law_par.proofs.Tabled.{in_table}
use Rattle.occ_law_par.proofs.decide.holds.Goals as goal

pub returns-in-Some-ParNone : goal.returns-in-Some-ParNone
returns-in-Some-ParNone c =
    let number = by_name ParNone c.in-Some-ParNone.field-0-is c.in-Some-ParNone.ensures.numbered in
    in_table c.args.law.0 37 c.args.scope.now (tree c.args.left.now) (tree c.args.right.now) number c.requires.left c.requires.right c.par_none.result c.par_none.ensures

pub returns-in-Some-ParOne : goal.returns-in-Some-ParOne
returns-in-Some-ParOne c =
    let number = by_name ParOne c.in-Some-ParOne.field-0-is c.in-Some-ParOne.ensures.numbered in
    in_table c.args.law.0 38 c.args.scope.now (tree c.args.left.now) (tree c.args.right.now) number c.requires.left c.requires.right c.par_one.result c.par_one.ensures

pub returns-in-Some-ParFlat : goal.returns-in-Some-ParFlat
returns-in-Some-ParFlat c =
    let number = by_name ParFlat c.in-Some-ParFlat.field-0-is c.in-Some-ParFlat.ensures.numbered in
    in_table c.args.law.0 39 c.args.scope.now (tree c.args.left.now) (tree c.args.right.now) number c.requires.left c.requires.right c.par_flat.result c.par_flat.ensures

pub returns-in-Some-ParOrder : goal.returns-in-Some-ParOrder
returns-in-Some-ParOrder c =
    let number = by_name ParOrder c.in-Some-ParOrder.field-0-is c.in-Some-ParOrder.ensures.numbered in
    in_table c.args.law.0 40 c.args.scope.now (tree c.args.left.now) (tree c.args.right.now) number c.requires.left c.requires.right c.par_order.result c.par_order.ensures

pub returns-in-Some-ParSkip : goal.returns-in-Some-ParSkip
returns-in-Some-ParSkip c =
    let number = by_name ParSkip c.in-Some-ParSkip.field-0-is c.in-Some-ParSkip.ensures.numbered in
    in_table c.args.law.0 41 c.args.scope.now (tree c.args.left.now) (tree c.args.right.now) number c.requires.left c.requires.right c.par_skip.result c.par_skip.ensures

pub returns-in-Some-ParStop : goal.returns-in-Some-ParStop
returns-in-Some-ParStop c =
    let number = by_name ParStop c.in-Some-ParStop.field-0-is c.in-Some-ParStop.ensures.numbered in
    in_table c.args.law.0 42 c.args.scope.now (tree c.args.left.now) (tree c.args.right.now) number c.requires.left c.requires.right c.par_stop.result c.par_stop.ensures

pub returns-in-Some-ParAssign : goal.returns-in-Some-ParAssign
returns-in-Some-ParAssign c =
    let number = by_name ParAssign c.in-Some-ParAssign.field-0-is c.in-Some-ParAssign.ensures.numbered in
    in_table c.args.law.0 43 c.args.scope.now (tree c.args.left.now) (tree c.args.right.now) number c.requires.left c.requires.right (Ok c.par_assign.result) c.par_assign.ensures

pub returns-in-Some-ParIf : goal.returns-in-Some-ParIf
returns-in-Some-ParIf c =
    let number = by_name ParIf c.in-Some-ParIf.field-0-is c.in-Some-ParIf.ensures.numbered in
    in_table c.args.law.0 44 c.args.scope.now (tree c.args.left.now) (tree c.args.right.now) number c.requires.left c.requires.right c.par_if.result c.par_if.ensures

pub returns-in-Some-ParExpand : goal.returns-in-Some-ParExpand
returns-in-Some-ParExpand c =
    let number = by_name ParExpand c.in-Some-ParExpand.field-0-is c.in-Some-ParExpand.ensures.numbered in
    in_table c.args.law.0 45 c.args.scope.now (tree c.args.left.now) (tree c.args.right.now) number c.requires.left c.requires.right (Ok c.par_expand.result) c.par_expand.ensures
