use Rattle.std.proofs.Common.{◌≡◌, arith}
use Rattle.occ_law_shape.proofs.from_law.Known.{by_name}
use Rattle.occ_law_shape.specs.occ_law.declared.variants.Law.TheVariants.{AltNone, AltOrder, AltFalse, AltTwice, AltSkip, AltCase, AltFlat, AltSplit, AltSame, AltSlide, AltLeast}
use Rattle.occ_syntax.specs.View.{tree}
use Rattle.occ_law_alt.proofs.Tabled.{in_table}
use Rattle.occ_law_alt.proofs.decide.holds.Goals as goal

pub returns-in-Some-AltNone : goal.returns-in-Some-AltNone
returns-in-Some-AltNone c =
    let number = by_name AltNone c.in-Some-AltNone.field-0-is c.in-Some-AltNone.ensures.numbered in
    in_table c.args.law.0 26 c.args.scope.now (tree c.args.left.now) (tree c.args.right.now) number c.requires.left c.requires.right c.alt_none.result c.alt_none.ensures

pub returns-in-Some-AltOrder : goal.returns-in-Some-AltOrder
returns-in-Some-AltOrder c =
    let number = by_name AltOrder c.in-Some-AltOrder.field-0-is c.in-Some-AltOrder.ensures.numbered in
    in_table c.args.law.0 27 c.args.scope.now (tree c.args.left.now) (tree c.args.right.now) number c.requires.left c.requires.right c.alt_order.result c.alt_order.ensures

pub returns-in-Some-AltFalse : goal.returns-in-Some-AltFalse
returns-in-Some-AltFalse c =
    let number = by_name AltFalse c.in-Some-AltFalse.field-0-is c.in-Some-AltFalse.ensures.numbered in
    in_table c.args.law.0 28 c.args.scope.now (tree c.args.left.now) (tree c.args.right.now) number c.requires.left c.requires.right c.alt_false.result c.alt_false.ensures

pub returns-in-Some-AltTwice : goal.returns-in-Some-AltTwice
returns-in-Some-AltTwice c =
    let number = by_name AltTwice c.in-Some-AltTwice.field-0-is c.in-Some-AltTwice.ensures.numbered in
    in_table c.args.law.0 29 c.args.scope.now (tree c.args.left.now) (tree c.args.right.now) number c.requires.left c.requires.right c.alt_twice.result c.alt_twice.ensures

pub returns-in-Some-AltSkip : goal.returns-in-Some-AltSkip
returns-in-Some-AltSkip c =
    let number = by_name AltSkip c.in-Some-AltSkip.field-0-is c.in-Some-AltSkip.ensures.numbered in
    in_table c.args.law.0 30 c.args.scope.now (tree c.args.left.now) (tree c.args.right.now) number c.requires.left c.requires.right c.alt_skip.result c.alt_skip.ensures

pub returns-in-Some-AltCase : goal.returns-in-Some-AltCase
returns-in-Some-AltCase c =
    let number = by_name AltCase c.in-Some-AltCase.field-0-is c.in-Some-AltCase.ensures.numbered in
    in_table c.args.law.0 31 c.args.scope.now (tree c.args.left.now) (tree c.args.right.now) number c.requires.left c.requires.right c.alt_case.result c.alt_case.ensures

pub returns-in-Some-AltFlat : goal.returns-in-Some-AltFlat
returns-in-Some-AltFlat c =
    let number = by_name AltFlat c.in-Some-AltFlat.field-0-is c.in-Some-AltFlat.ensures.numbered in
    in_table c.args.law.0 32 c.args.scope.now (tree c.args.left.now) (tree c.args.right.now) number c.requires.left c.requires.right c.alt_flat.result c.alt_flat.ensures

pub returns-in-Some-AltSplit : goal.returns-in-Some-AltSplit
returns-in-Some-AltSplit c =
    let number = by_name AltSplit c.in-Some-AltSplit.field-0-is c.in-Some-AltSplit.ensures.numbered in
    in_table c.args.law.0 33 c.args.scope.now (tree c.args.left.now) (tree c.args.right.now) number c.requires.left c.requires.right c.alt_split.result c.alt_split.ensures

pub returns-in-Some-AltSame : goal.returns-in-Some-AltSame
returns-in-Some-AltSame c =
    let number = by_name AltSame c.in-Some-AltSame.field-0-is c.in-Some-AltSame.ensures.numbered in
    in_table c.args.law.0 34 c.args.scope.now (tree c.args.left.now) (tree c.args.right.now) number c.requires.left c.requires.right c.alt_same.result c.alt_same.ensures

pub returns-in-Some-AltSlide : goal.returns-in-Some-AltSlide
returns-in-Some-AltSlide c =
    let number = by_name AltSlide c.in-Some-AltSlide.field-0-is c.in-Some-AltSlide.ensures.numbered in
    in_table c.args.law.0 35 c.args.scope.now (tree c.args.left.now) (tree c.args.right.now) number c.requires.left c.requires.right c.alt_slide.result c.alt_slide.ensures

pub returns-in-Some-AltLeast : goal.returns-in-Some-AltLeast
returns-in-Some-AltLeast c =
    let number = by_name AltLeast c.in-Some-AltLeast.field-0-is c.in-Some-AltLeast.ensures.numbered in
    in_table c.args.law.0 36 c.args.scope.now (tree c.args.left.now) (tree c.args.right.now) number c.requires.left c.requires.right c.alt_least.result c.alt_least.ensures
