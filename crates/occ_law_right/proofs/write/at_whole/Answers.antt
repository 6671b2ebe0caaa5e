use Rattle.std.proofs.Common.{◌≡◌, arith}
use Rattle.occ_law_seq.proofs.from_law.Known.{by_name}
use Rattle.occ_law_seq.specs.occ_law.declared.variants.Law.TheVariants.{VarUnused, VarSwap, VarFirst, VarLast, VarIf, VarAlt, VarPar, VarAny, VarAssign, VarEnd, ChanUnused, ChanSwap, ChanSeq, ChanIf, ChanAlt, ChanPar}
use Rattle.occ_syntax.specs.View.{tree}
use Rattle.occ_law_right.proofs.Places.{at_number}
use Rattle.occ_law_right.proofs.write.at_whole.Goals as goal

pub returns-in-Some-VarUnused : goal.returns-in-Some-VarUnused
returns-in-Some-VarUnused c = let e = by_name VarUnused c.in-Some-VarUnused.field-0-is c.in-Some-VarUnused.ensures.numbered in at_number c.args.law.0 46 c.args.scope.now (tree c.args.left.now) c.var_unused.result e c.var_unused.ensures

pub returns-in-Some-VarSwap : goal.returns-in-Some-VarSwap
returns-in-Some-VarSwap c = let e = by_name VarSwap c.in-Some-VarSwap.field-0-is c.in-Some-VarSwap.ensures.numbered in at_number c.args.law.0 48 c.args.scope.now (tree c.args.left.now) c.var_swap.result e c.var_swap.ensures

pub returns-in-Some-VarFirst : goal.returns-in-Some-VarFirst
returns-in-Some-VarFirst c = let e = by_name VarFirst c.in-Some-VarFirst.field-0-is c.in-Some-VarFirst.ensures.numbered in at_number c.args.law.0 49 c.args.scope.now (tree c.args.left.now) c.var_first.result e c.var_first.ensures

pub returns-in-Some-VarLast : goal.returns-in-Some-VarLast
returns-in-Some-VarLast c = let e = by_name VarLast c.in-Some-VarLast.field-0-is c.in-Some-VarLast.ensures.numbered in at_number c.args.law.0 50 c.args.scope.now (tree c.args.left.now) c.var_last.result e c.var_last.ensures

pub returns-in-Some-VarIf : goal.returns-in-Some-VarIf
returns-in-Some-VarIf c = let e = by_name VarIf c.in-Some-VarIf.field-0-is c.in-Some-VarIf.ensures.numbered in at_number c.args.law.0 51 c.args.scope.now (tree c.args.left.now) c.var_if.result e c.var_if.ensures

pub returns-in-Some-VarAlt : goal.returns-in-Some-VarAlt
returns-in-Some-VarAlt c = let e = by_name VarAlt c.in-Some-VarAlt.field-0-is c.in-Some-VarAlt.ensures.numbered in at_number c.args.law.0 52 c.args.scope.now (tree c.args.left.now) c.var_alt.result e c.var_alt.ensures

pub returns-in-Some-VarPar : goal.returns-in-Some-VarPar
returns-in-Some-VarPar c = let e = by_name VarPar c.in-Some-VarPar.field-0-is c.in-Some-VarPar.ensures.numbered in at_number c.args.law.0 53 c.args.scope.now (tree c.args.left.now) c.var_par.result e c.var_par.ensures

pub returns-in-Some-VarAny : goal.returns-in-Some-VarAny
returns-in-Some-VarAny c = let e = by_name VarAny c.in-Some-VarAny.field-0-is c.in-Some-VarAny.ensures.numbered in at_number c.args.law.0 54 c.args.scope.now (tree c.args.left.now) c.var_any.result e c.var_any.ensures

pub returns-in-Some-VarAssign : goal.returns-in-Some-VarAssign
returns-in-Some-VarAssign c = let e = by_name VarAssign c.in-Some-VarAssign.field-0-is c.in-Some-VarAssign.ensures.numbered in at_number c.args.law.0 55 c.args.scope.now (tree c.args.left.now) c.var_assign.result e c.var_assign.ensures

pub returns-in-Some-VarEnd : goal.returns-in-Some-VarEnd
returns-in-Some-VarEnd c = let e = by_name VarEnd c.in-Some-VarEnd.field-0-is c.in-Some-VarEnd.ensures.numbered in at_number c.args.law.0 56 c.args.scope.now (tree c.args.left.now) c.var_end.result e c.var_end.ensures

pub returns-in-Some-ChanUnused : goal.returns-in-Some-ChanUnused
returns-in-Some-ChanUnused c = let e = by_name ChanUnused c.in-Some-ChanUnused.field-0-is c.in-Some-ChanUnused.ensures.numbered in at_number c.args.law.0 57 c.args.scope.now (tree c.args.left.now) c.chan_unused.result e c.chan_unused.ensures

pub returns-in-Some-ChanSwap : goal.returns-in-Some-ChanSwap
returns-in-Some-ChanSwap c = let e = by_name ChanSwap c.in-Some-ChanSwap.field-0-is c.in-Some-ChanSwap.ensures.numbered in at_number c.args.law.0 59 c.args.scope.now (tree c.args.left.now) c.chan_swap.result e c.chan_swap.ensures

pub returns-in-Some-ChanSeq : goal.returns-in-Some-ChanSeq
returns-in-Some-ChanSeq c = let e = by_name ChanSeq c.in-Some-ChanSeq.field-0-is c.in-Some-ChanSeq.ensures.numbered in at_number c.args.law.0 60 c.args.scope.now (tree c.args.left.now) c.chan_seq.result e c.chan_seq.ensures

pub returns-in-Some-ChanIf : goal.returns-in-Some-ChanIf
returns-in-Some-ChanIf c = let e = by_name ChanIf c.in-Some-ChanIf.field-0-is c.in-Some-ChanIf.ensures.numbered in at_number c.args.law.0 61 c.args.scope.now (tree c.args.left.now) c.chan_if.result e c.chan_if.ensures

pub returns-in-Some-ChanAlt : goal.returns-in-Some-ChanAlt
returns-in-Some-ChanAlt c = let e = by_name ChanAlt c.in-Some-ChanAlt.field-0-is c.in-Some-ChanAlt.ensures.numbered in at_number c.args.law.0 62 c.args.scope.now (tree c.args.left.now) c.chan_alt.result e c.chan_alt.ensures

pub returns-in-Some-ChanPar : goal.returns-in-Some-ChanPar
returns-in-Some-ChanPar c = let e = by_name ChanPar c.in-Some-ChanPar.field-0-is c.in-Some-ChanPar.ensures.numbered in at_number c.args.law.0 63 c.args.scope.now (tree c.args.left.now) c.chan_par.result e c.chan_par.ensures
