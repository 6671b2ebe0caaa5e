use Rattle.std.proofs.Common.{not, ap, ◌∙◌}
use Rattle.std.specs.List.{list_any, position_or_len}
use Rattle.occ_draw.proofs.Found.{tested}
use Rattle.occ_draw.proofs.edges.note.Goals as goal

pub returns-clause-place : goal.returns-clause-place
returns-clause-place c = c.in_ok-noted.ensures.index ∙ ap (λ t. position_or_len t c.args.ways.now.keys) (tested c.args.way)

pub returns-clause-is_new : goal.returns-clause-is_new
returns-clause-is_new c = c.in_ok-noted.ensures.added ∙ ap (λ t. not (list_any t c.args.ways.now.keys)) (tested c.args.way)
