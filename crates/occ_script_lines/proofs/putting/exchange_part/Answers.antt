use Rattle.std.proofs.Common.{ap, ◌∙◌}
use Rattle.occ_syntax.specs.View.{in_procs, trees}
use Rattle.occ_script_lines.proofs.Children.{part_read}
use Rattle.occ_script_lines.proofs.Exchanges.{part_set, part_within}
use Rattle.occ_script_lines.proofs.putting.exchange_part.Goals as goal

pub exchange-requires : goal.exchange-requires
exchange-requires c = part_within (in_procs c.args.parts.now) c.args.place c.requires

pub returns-clause-put : goal.returns-clause-put
returns-clause-put c = ap trees c.exchange.ensures.put ∙ part_set (in_procs c.args.parts.now) c.args.place c.args.part

pub returns-clause-taken : goal.returns-clause-taken
returns-clause-taken c =
    part_read (in_procs c.args.parts.now) c.args.place c.exchange.result (part_within (in_procs c.args.parts.now) c.args.place c.requires) c.exchange.ensures.taken
