use Rattle.occ_script.proofs.OnceTexts.{fault_once, script_once, script_or_fault}
use Rattle.occ_script.proofs.law.one_script.Goals as goal

pub returns-clause-script : goal.returns-clause-script
returns-clause-script c = script_once (record {
  form = c.one_form.ensures;
  part = c.one_reading_of_a_part.ensures.part;
  law = c.names_are_distinct.ensures;
})

pub returns-clause-fault : goal.returns-clause-fault
returns-clause-fault c = λ text old e f x y. fault_once (record {
  form = c.one_form.ensures;
  part = c.one_reading_of_a_part.ensures.part;
  law = c.names_are_distinct.ensures;
}) text old x y

pub returns-clause-apart : goal.returns-clause-apart
returns-clause-apart c = λ text old new s e x y. script_or_fault (record {
  form = c.one_form.ensures;
  part = c.one_reading_of_a_part.ensures.part;
  law = c.names_are_distinct.ensures;
}) text old new s x y
