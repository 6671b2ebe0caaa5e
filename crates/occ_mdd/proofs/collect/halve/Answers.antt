use Rattle.std.proofs.Common.{arith}
use Rattle.std.proofs.lemmas.Option.{MatchOption-at_none}
use Rattle.occ_dd.specs.Store.{IsConstant, Splits}
use Rattle.occ_mdd.proofs.Collecting.{constant_part}
use Rattle.occ_mdd.proofs.collect.halve.Goals as goal

pub returns-in_default : goal.returns-in_default
returns-in_default g c =
    let s = c.args.store.now in
    let constant = MatchOption-at_none (IsConstant s c.args.set) (λ p. Splits s c.args.set p.0 p.1 p.2) c.in_default.is c.split.ensures in
    record {
      top = omega (arith, c.requires.deep, c.depth-bit.ensures.depth);
      low_set = constant_part s c.args.set _ 0 c.requires.set constant;
      high_set = constant_part s c.args.set _ 1 c.requires.set constant;
      low_part = c.parts-low.ensures.low;
      high_part = c.parts-low.ensures.high;
    }
