use Rattle.occ_dd.proofs.Sets.{keeps_grown}
use Rattle.occ_dd.proofs.Rows.{rows_set}
use Rattle.occ_dd.proofs.store.Store.truth.Goals as goal

pub returns-in_err-choose_rows-clause-keeps : goal.returns-in_err-choose_rows-clause-keeps
returns-in_err-choose_rows-clause-keeps g c = keeps_grown c.args.self.now c.choose_rows.new.self c.choose_rows.ensures.grows

pub returns-clause-keeps : goal.returns-clause-keeps
returns-clause-keeps g c = keeps_grown c.args.self.now c.choose_rows.new.self c.choose_rows.ensures.grows

pub returns-clause-set : goal.returns-clause-set
returns-clause-set g c = rows_set c.args.self.now c.choose_rows.new.self c.args.rows.now c.args.inputs.now c.in_ok-choose_rows.field-0 c.in_ok-choose_rows.ensures.rows
