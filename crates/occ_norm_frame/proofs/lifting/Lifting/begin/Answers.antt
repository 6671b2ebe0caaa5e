use Rattle.occ_weave.proofs.Keeping.{none_woven}
use Rattle.occ_norm_frame.proofs.lifting.Lifting.begin.Goals as goal

pub returns-clause-right : goal.returns-clause-right
returns-clause-right c = (
  record {
    unions = c.requires.0.unions;
    pairs = none_woven c.args.self.now.weaver.world _ _ _ c.new-2.ensures;
    kept = c.requires.0.kept;
  },
  c.requires.1,
)
