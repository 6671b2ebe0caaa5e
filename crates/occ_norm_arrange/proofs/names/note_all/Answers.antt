use Rattle.occ_norm_arrange.proofs.Noting.{next_name, no_name, notes_one, opened_done, opened_first, opened_next}
use Rattle.occ_norm_arrange.proofs.names.note_all.Goals as goal

pub loop-name-init : goal.loop-name-init
loop-name-init c = opened_first _ _

pub loop-name-preserved : goal.loop-name-preserved
loop-name-preserved c = opened_next _ _ _ _ _ _ _ c.loop-name.invariant (notes_one _ _ _ c.in_ok-insert.ensures.ok) (next_name _ _ c.loop-name-test.true)

pub returns : goal.returns
returns c = opened_done _ _ _ _ c.loop-name.invariant (no_name _ _ c.loop-name-test.false)
