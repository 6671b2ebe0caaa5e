use Rattle.std.proofs.Common.{ap, sym, ◌∙◌, arith}
use Rattle.std.proofs.lemmas.List.{take_rest}
use Rattle.occ_lex.specs.Rows.{code_of, ends_code}
use Rattle.occ_lex.proofs.RowLemmas.{code_turn, code_end, code_stops}
use Rattle.occ_lex.proofs.row.code.Goals as goal
use Rattle.occ_lex.proofs.row.code.Goals.{then-loop-len-test+else-not-ends_code, else-loop-len-test}

pub loop-len-preserved : goal.loop-len-preserved
loop-len-preserved c = record {
  within = omega arith;
  so_far = code_turn c.args.row.now c.loop-len.len (code_of c.args.row.now) (omega arith) (ap ends_code (sym (take_rest c.args.row.now c.loop-len.len)) ∙ sym c.ends_code.ensures ∙ c.if-not-ends_code.true) c.loop-len.invariant.so_far;
}

pub returns : goal.returns
returns c = elim c.loop-len-test.branch [
  | then-loop-len-test+else-not-ends_code w ↦ code_stops c.args.row.now c.loop-len.len (code_of c.args.row.now) (ap ends_code (sym (take_rest c.args.row.now c.loop-len.len)) ∙ sym w.ends_code.ensures ∙ w.if-not-ends_code.false) c.loop-len.invariant.so_far
  | else-loop-len-test w ↦ code_end c.args.row.now c.loop-len.len (code_of c.args.row.now) (omega arith) c.loop-len.invariant.so_far
]
