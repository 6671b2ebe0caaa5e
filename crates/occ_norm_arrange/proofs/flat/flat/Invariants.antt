use Rattle.occ_syntax.specs.Tree.{par}
use Rattle.occ_syntax.specs.View.{in_procs, tree, trees}
use Rattle.occ_syntax.proofs.Weights.{weight}
use Rattle.occ_norm_arrange.specs.FlatArranged.{IsReshaped}
use Rattle.occ_norm_arrange.specs.Spread.{AreKnown, spread}
use Rattle.occ_norm_arrange.proofs.flat.flat.Given as goal

-- what the PAR has become so far
abbrev pub invariant-loop-spread : goal.invariant-loop-spread
invariant-loop-spread l = record {
  arranged : IsReshaped (par (trees l.parts)) (spread l.spread.chans (trees (in_procs l.spread.parts)) (tree l.last));
  known : AreKnown l.spread.names (trees (in_procs l.spread.parts));
}

abbrev pub decreases-loop-spread : goal.decreases-loop-spread
decreases-loop-spread l = weight (tree l.last)
