use Rattle.std.proofs.Common.{◌<◌, subst, sym}
use Rattle.occ_dd.specs.Table.{nodes_of}
use Rattle.occ_mdd.specs.Chosen.{greatest_depth}
use Rattle.occ_mdd.proofs.Choosing.{are_chosen-keeps, chosen_learnt, chosen_same, grown_table, high_asked, high_smaller, high_under, joined, low_asked, low_smaller, low_under}
use Rattle.occ_mdd.proofs.choose.+choose.Goals as goal

-- ---- where no node is made
pub returns-then-call-clause-chosen : goal.returns-then-call-clause-chosen
returns-then-call-clause-chosen g t c = chosen_same c.requires.asked c.if-call.true

pub returns-in-Some-clause-chosen : goal.returns-in-Some-clause-chosen
returns-in-Some-clause-chosen g t c = c.requires.right c.args.call c.in-Some.chosen (sym c.in-Some.ensures)

pub returns-in-Made-clause-chosen : goal.returns-in-Made-clause-chosen
returns-in-Made-clause-chosen g t c = c.halve.ensures.made _ c.in-Made.is

-- ---- both sides
pub choose-requires : goal.choose-requires
choose-requires g t c κs within =
    let split = c.halve.ensures.split _ _ _ c.in-Split.is in
    let ns = nodes_of c.args.table.now in (
      subst (λ n. greatest_depth ns c.args.store.now c.in-Split.low_call < n) c.decreases (low_smaller c.args.table.now.diagram c.requires.asked split),
      (within, (low_asked c.args.table.now.diagram c.requires.asked split, c.requires.right)),
    )

pub choose-requires-in-Split : goal.choose-requires-in-Split
choose-requires-in-Split g t c κs within =
    let split = c.halve.ensures.split _ _ _ c.in-Split.is in (
      subst (λ n. greatest_depth (nodes_of c.choose.new.table) c.choose.new.store c.in-Split.high_call < n) c.decreases (high_smaller c.args.table.now.diagram c.requires.asked split c.choose.ensures.grown),
      (within, (high_asked c.args.table.now.diagram c.requires.asked split c.choose.ensures.grown, c.choose.ensures.right)),
    )

pub branch-table-requires-clause-low : goal.branch-table-requires-clause-low
branch-table-requires-clause-low g t c = low_under c.args.table.now.diagram c.requires.asked (c.halve.ensures.split _ _ _ c.in-Split.is) c.choose.ensures.grown c.choose-in-Split.ensures.grown c.in_ok-low-in-Split.low c.in_ok-low-in-Split.ensures.chosen

pub branch-table-requires-clause-high : goal.branch-table-requires-clause-high
branch-table-requires-clause-high g t c = high_under c.args.table.now.diagram c.requires.asked (c.halve.ensures.split _ _ _ c.in-Split.is) c.choose.ensures.grown c.choose-in-Split.ensures.grown c.in_ok-high-in-Split.high c.in_ok-high-in-Split.ensures.chosen

pub returns-in_err-chosen-in-Split-clause-right : goal.returns-in_err-chosen-in-Split-clause-right
returns-in_err-chosen-in-Split-clause-right g t c = are_chosen-keeps (grown_table c.choose-in-Split.new.store c.branch-table.ensures.keeps) c.choose-in-Split.new.table.diagram c.choose-in-Split.new.memo c.choose-in-Split.ensures.right

pub returns-in_err-insert-in-Split-clause-right : goal.returns-in_err-insert-in-Split-clause-right
returns-in_err-insert-in-Split-clause-right g t c = chosen_learnt c.choose-in-Split.new.memo c.insert.new.self c.args.call c.in_ok-chosen-in-Split.chosen c.insert.ensures
    (are_chosen-keeps (grown_table c.choose-in-Split.new.store c.branch-table.ensures.keeps) c.choose-in-Split.new.table.diagram c.choose-in-Split.new.memo c.choose-in-Split.ensures.right)
    (joined c.args.table.now.diagram c.requires.asked (c.halve.ensures.split _ _ _ c.in-Split.is) c.choose.ensures.grown c.choose-in-Split.ensures.grown c.branch-table.ensures.keeps
    c.choose.new.table.diagram c.choose-in-Split.new.table.diagram
    c.in_ok-low-in-Split.low c.in_ok-high-in-Split.high c.in_ok-chosen-in-Split.chosen c.in_ok-low-in-Split.ensures.chosen c.in_ok-high-in-Split.ensures.chosen c.in_ok-chosen-in-Split.ensures.split)

pub returns-in_ok-insert-in-Split-clause-right : goal.returns-in_ok-insert-in-Split-clause-right
returns-in_ok-insert-in-Split-clause-right g t c = chosen_learnt c.choose-in-Split.new.memo c.insert.new.self c.args.call c.in_ok-chosen-in-Split.chosen c.insert.ensures
    (are_chosen-keeps (grown_table c.choose-in-Split.new.store c.branch-table.ensures.keeps) c.choose-in-Split.new.table.diagram c.choose-in-Split.new.memo c.choose-in-Split.ensures.right)
    (joined c.args.table.now.diagram c.requires.asked (c.halve.ensures.split _ _ _ c.in-Split.is) c.choose.ensures.grown c.choose-in-Split.ensures.grown c.branch-table.ensures.keeps
    c.choose.new.table.diagram c.choose-in-Split.new.table.diagram
    c.in_ok-low-in-Split.low c.in_ok-high-in-Split.high c.in_ok-chosen-in-Split.chosen c.in_ok-low-in-Split.ensures.chosen c.in_ok-high-in-Split.ensures.chosen c.in_ok-chosen-in-Split.ensures.split)

pub returns-in_ok-insert-in-Split-clause-chosen : goal.returns-in_ok-insert-in-Split-clause-chosen
returns-in_ok-insert-in-Split-clause-chosen g t c = joined c.args.table.now.diagram c.requires.asked (c.halve.ensures.split _ _ _ c.in-Split.is) c.choose.ensures.grown c.choose-in-Split.ensures.grown c.branch-table.ensures.keeps
    c.choose.new.table.diagram c.choose-in-Split.new.table.diagram
    c.in_ok-low-in-Split.low c.in_ok-high-in-Split.high c.in_ok-chosen-in-Split.chosen c.in_ok-low-in-Split.ensures.chosen c.in_ok-high-in-Split.ensures.chosen c.in_ok-chosen-in-Split.ensures.split
