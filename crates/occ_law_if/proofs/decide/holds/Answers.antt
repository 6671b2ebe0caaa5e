use Rattle.std.proofs.Common.{◌≡◌, arith}
use Rattle.occ_law_shape.proofs.from_law.Known.{by_name}
use Rattle.occ_law_shape.specs.occ_law.declared.variants.Law.TheVariants.{IfNone, IfFalse, IfTrue, IfElseStop, IfCut, IfNest, IfSwap, IfMerge, IfCopy, IfUnder}
use Rattle.occ_syntax.specs.View.{tree}
use Rattle.occ_law_if.proofs.Tabled.{in_table}
use Rattle.occ_law_if.proofs.decide.holds.Goals as goal

pub returns-in-Some-IfNone : goal.returns-in-Some-IfNone
returns-in-Some-IfNone c =
    let number = by_name IfNone c.in-Some-IfNone.field-0-is c.in-Some-IfNone.ensures.numbered in
    in_table c.args.law.0 16 c.args.scope.now (tree c.args.left.now) (tree c.args.right.now) number c.requires.left c.requires.right c.if_none.result c.if_none.ensures

pub returns-in-Some-IfFalse : goal.returns-in-Some-IfFalse
returns-in-Some-IfFalse c =
    let number = by_name IfFalse c.in-Some-IfFalse.field-0-is c.in-Some-IfFalse.ensures.numbered in
    in_table c.args.law.0 17 c.args.scope.now (tree c.args.left.now) (tree c.args.right.now) number c.requires.left c.requires.right c.if_false.result c.if_false.ensures

pub returns-in-Some-IfTrue : goal.returns-in-Some-IfTrue
returns-in-Some-IfTrue c =
    let number = by_name IfTrue c.in-Some-IfTrue.field-0-is c.in-Some-IfTrue.ensures.numbered in
    in_table c.args.law.0 18 c.args.scope.now (tree c.args.left.now) (tree c.args.right.now) number c.requires.left c.requires.right c.if_true.result c.if_true.ensures

pub returns-in-Some-IfElseStop : goal.returns-in-Some-IfElseStop
returns-in-Some-IfElseStop c =
    let number = by_name IfElseStop c.in-Some-IfElseStop.field-0-is c.in-Some-IfElseStop.ensures.numbered in
    in_table c.args.law.0 19 c.args.scope.now (tree c.args.left.now) (tree c.args.right.now) number c.requires.left c.requires.right c.if_else_stop.result c.if_else_stop.ensures

pub returns-in-Some-IfCut : goal.returns-in-Some-IfCut
returns-in-Some-IfCut c =
    let number = by_name IfCut c.in-Some-IfCut.field-0-is c.in-Some-IfCut.ensures.numbered in
    in_table c.args.law.0 20 c.args.scope.now (tree c.args.left.now) (tree c.args.right.now) number c.requires.left c.requires.right c.if_cut.result c.if_cut.ensures

pub returns-in-Some-IfNest : goal.returns-in-Some-IfNest
returns-in-Some-IfNest c =
    let number = by_name IfNest c.in-Some-IfNest.field-0-is c.in-Some-IfNest.ensures.numbered in
    in_table c.args.law.0 21 c.args.scope.now (tree c.args.left.now) (tree c.args.right.now) number c.requires.left c.requires.right c.if_nest.result c.if_nest.ensures

pub returns-in-Some-IfSwap : goal.returns-in-Some-IfSwap
returns-in-Some-IfSwap c =
    let number = by_name IfSwap c.in-Some-IfSwap.field-0-is c.in-Some-IfSwap.ensures.numbered in
    in_table c.args.law.0 22 c.args.scope.now (tree c.args.left.now) (tree c.args.right.now) number c.requires.left c.requires.right c.if_swap.result c.if_swap.ensures

pub returns-in-Some-IfMerge : goal.returns-in-Some-IfMerge
returns-in-Some-IfMerge c =
    let number = by_name IfMerge c.in-Some-IfMerge.field-0-is c.in-Some-IfMerge.ensures.numbered in
    in_table c.args.law.0 23 c.args.scope.now (tree c.args.left.now) (tree c.args.right.now) number c.requires.left c.requires.right c.if_merge.result c.if_merge.ensures

pub returns-in-Some-IfCopy : goal.returns-in-Some-IfCopy
returns-in-Some-IfCopy c =
    let number = by_name IfCopy c.in-Some-IfCopy.field-0-is c.in-Some-IfCopy.ensures.numbered in
    in_table c.args.law.0 24 c.args.scope.now (tree c.args.left.now) (tree c.args.right.now) number c.requires.left c.requires.right c.if_copy.result c.if_copy.ensures

pub returns-in-Some-IfUnder : goal.returns-in-Some-IfUnder
returns-in-Some-IfUnder c =
    let number = by_name IfUnder c.in-Some-IfUnder.field-0-is c.in-Some-IfUnder.ensures.numbered in
    in_table c.args.law.0 25 c.args.scope.now (tree c.args.left.now) (tree c.args.right.now) number c.requires.left c.requires.right c.if_under.result c.if_under.ensures
