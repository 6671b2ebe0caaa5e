use Rattle.occ_script.proofs.OnceOrders.{orders_fault_once, orders_text_once, orders_text_or_fault}
use Rattle.occ_script.proofs.law.one_orders.Goals as goal

pub returns-clause-orders : goal.returns-clause-orders
returns-clause-orders c = orders_text_once (record {
  form = c.one_form.ensures;
  part = c.one_reading_of_a_part.ensures.part;
  law = c.names_are_distinct.ensures;
})

pub returns-clause-fault : goal.returns-clause-fault
returns-clause-fault c = λ text old e f x y. orders_fault_once (record {
  form = c.one_form.ensures;
  part = c.one_reading_of_a_part.ensures.part;
  law = c.names_are_distinct.ensures;
}) text old x y

pub returns-clause-apart : goal.returns-clause-apart
returns-clause-apart c = λ text old new orders e x y. orders_text_or_fault (record {
  form = c.one_form.ensures;
  part = c.one_reading_of_a_part.ensures.part;
  law = c.names_are_distinct.ensures;
}) text old new orders x y
