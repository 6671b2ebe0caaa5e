use Rattle.occ_why.proofs.Telling.{lines_left}
use Rattle.occ_why.proofs.shown.lines_of.Goals as goal

pub returns : goal.returns
returns c = lines_left c.args.names.now c.args.behaviour.now c.in_ok-text.text.items c.pop.new.self.items c.in-Some._end c.in_ok-text.ensures c.in-Some.ensures.items
