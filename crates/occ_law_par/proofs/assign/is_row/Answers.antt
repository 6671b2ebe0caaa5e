use Rattle.std.proofs.Common.{ap, sym, ◌∙◌}
use Rattle.occ_syntax.specs.View.{trees}
use Rattle.occ_syntax.proofs.Rows.{refuted}
use Rattle.occ_law_shape.specs.occ_meaning.Parallel.{all_of}
use Rattle.occ_law_par.proofs.assign.is_row.Goals as goal

pub returns-in-None : goal.returns-in-None
returns-in-None c = refuted (λ e. c.in-None.ensures (trees c.args.others.now) (e ∙ ap (λ z. all_of (trees z) (trees c.args.others.now)) (sym c.from_ref.ensures.value)))
