use Rattle.std.proofs.Common.{inl}
use Rattle.occ_dd.specs.Memo.{recalled}
use Rattle.occ_dd.proofs.MemoLemmas.{learnt}
use Rattle.occ_dd.proofs.memo.Memo.insert.Goals as goal

pub returns-in_err-insert : goal.returns-in_err-insert
unfolding recalled
returns-in_err-insert c = λ k r e. inl (let same = c.in_err-insert.ensures.err in rw same at e)

pub returns : goal.returns
unfolding recalled
returns c = λ k r e. let after = c.in_ok-insert.ensures.updates.0 k in learnt k c.args.call r c.args.value _ _ after e
