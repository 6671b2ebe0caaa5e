use Rattle.occ_witness.specs.occ_parse.declared.bound.Bound.TheVariants as bound
use Rattle.occ_tool_laws.proofs.ProvedOnce.{proofs_are_one}
use Rattle.occ_tool_laws.proofs.proved_laws.proofs_have_one_way.Goals as goal

pub returns : goal.returns
returns c = proofs_are_one (record {
  one_reading = λ text old m n p q ls ks r s.
      let e = c.one_reading.ensures.program bound.Program text old m n p.name q.name p.params q.params p.body q.body ls ks r s in
      record { names = e.table; name = e.name; params = e.params; body = e.body; numbers = e.numbers };
  one_fault = λ text old f g r s. c.one_reading.ensures.fault bound.Program text old f g r s;
  not_both = λ text old m p ls f r s. c.one_reading.ensures.apart bound.Program text old m p.name p.params p.body ls f r s;
}) c.one_answer.ensures
