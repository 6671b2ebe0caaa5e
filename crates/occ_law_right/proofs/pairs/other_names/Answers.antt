use Rattle.occ_syntax.specs.occ_base.declared.names.Name.{Name}
use Rattle.occ_law_right.proofs.Written.{items_written, names_over}
use Rattle.occ_law_right.proofs.pairs.other_names.Goals as goal

pub returns : goal.returns
returns c = items_written (λ (k : Name). k.0) _ _ _ (names_over c.args.name.0 _ _ c.loop-var-test.false) c.loop-var.invariant
