use Rattle.std.proofs.Common.{◌∙◌}
use Rattle.occ_names.proofs.Collected.{further_var, all_found, no_var}
use Rattle.occ_names.proofs.collect.Collector.write_all.Goals as goal

pub loop-var-preserved : goal.loop-var-preserved
loop-var-preserved c = record {
  found = further_var _ _ _ _ _ _ _ c.loop-var.invariant.bound c.in_ok-note.ensures.found c.loop-var-test.true c.loop-var.invariant.found;
  bound = c.in_ok-note.ensures.bound ∙ c.loop-var.invariant.bound;
}

pub returns : goal.returns
returns c = record {
  found = all_found _ _ _ _ (no_var _ _ c.loop-var-test.false) c.loop-var.invariant.found;
  bound = c.loop-var.invariant.bound;
}
