use Rattle.occ_tool_words.specs.occ_parse.declared.bound.Bound.TheVariants as bound
use Rattle.occ_tool_run.proofs.OneAnswer.{one_answer}
use Rattle.occ_tool_run.proofs.law.one_answer.Goals as goal

pub returns : goal.returns
returns c = one_answer (record {
  one_reading = λ text old m n p q ls ks r s.
      let e = c.one_reading.ensures.program bound.Program text old m n p.name q.name p.params q.params p.body q.body ls ks r s in
      record { names = e.table; name = e.name; params = e.params; body = e.body; numbers = e.numbers };
  one_fault = λ text old f g r s. c.one_reading.ensures.fault bound.Program text old f g r s;
  not_both = λ text old m p ls f r s. c.one_reading.ensures.apart bound.Program text old m p.name p.params p.body ls f r s;
}) (record { one = c.one_verdict.ensures; refinement = c.one_refinement.ensures; deadlock = c.one_deadlock.ensures }) (record {
  tables = c.normal_texts_are_read_as_written.ensures;
  table_faults = c.faults_are_those_of_what_is_written.ensures;
  behaviours = c.behaviours_are_read_as_written.ensures;
  behaviour_faults = c.faults_stand_where_nothing_goes_on.ensures;
  one_table = c.programs_have_one_table.ensures;
}) (record {
  one_script = λ text old m n s t f g. c.one_script.ensures.script text old m n s t f g;
  one_fault = λ text old e f g h. c.one_script.ensures.fault text old e f g h;
  not_both = λ text old m s e g h. c.one_script.ensures.apart text old m s e g h;
  one_answer = c.scripts_have_one_answer.ensures;
}) c.one_following.ensures (record {
  one_orders = c.one_orders.ensures.orders;
  one_fault = c.one_orders.ensures.fault;
  not_both = c.one_orders.ensures.apart;
  one_following = c.followed_orders_have_one_outcome.ensures;
  follow_or_stop = c.orders_follow_or_stop.ensures;
  one_stop = c.orders_stop_once.ensures;
  one_expansion = c.expansions_have_one_outcome.ensures;
  no_cause = c.expansions_have_no_fault.ensures;
  one_cause = c.expansions_have_one_fault.ensures;
})
