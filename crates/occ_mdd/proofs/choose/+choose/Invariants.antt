use Rattle.occ_dd.specs.Table.{nodes_of}
use Rattle.occ_mdd.specs.Chosen.{greatest_depth}
use Rattle.occ_mdd.proofs.choose.+choose.Given as goal

abbrev pub decreases-choose : goal.decreases-choose
decreases-choose g l = greatest_depth (nodes_of l.table.now) l.store.now l.call
