use Rattle.std.proofs.Common.{◌≡◌, take}
use Rattle.occ_meaning.specs.Parallel.{all_of}
use Rattle.occ_syntax.specs.View.{in_procs, trees}
use Rattle.occ_norm_arrange.specs.Spread.{AreKnown}
use Rattle.occ_norm_arrange.proofs.flat.Spread.push_all.Given as goal

-- the parts so far are added
abbrev pub invariant-loop-part : goal.invariant-loop-part
invariant-loop-part l = record {
  parts : trees (in_procs l.self.parts) ≡ all_of (trees (in_procs l.initial.self.parts)) (trees (take l.part-index l.parts));
  known : AreKnown l.self.names (trees (in_procs l.self.parts));
  chans : l.self.chans ≡ l.initial.self.chans;
}
