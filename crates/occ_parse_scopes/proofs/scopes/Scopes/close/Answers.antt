use Rattle.std.proofs.Common.{arith, ◌∙◌}
use Rattle.occ_parse_scopes.proofs.Newest.{newest_off}
use Rattle.occ_parse_scopes.proofs.scopes.Scopes.close.Goals as goal

pub loop-self-preserved : goal.loop-self-preserved
loop-self-preserved c =
    let h = newest_off c.loop-self.self c.close_one.new.self c.args.depth c.close_one.ensures (omega arith) in
    (h.0, h.1 ∙ c.loop-self.invariant.1)
