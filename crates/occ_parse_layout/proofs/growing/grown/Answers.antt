use Rattle.occ_parse_layout.proofs.Forests.{taken}
use Rattle.occ_parse_layout.proofs.growing.grown.Goals as goal

pub returns : goal.returns
returns c = taken c.args.base c.from.result c.args.rows.items c.reverse.new.self.items c.siblings.new.rows.items c.siblings.result c.requires c.from.ensures c.reverse.ensures.items c.siblings.ensures.lines c.siblings.ensures.nest
