use Rattle.occ_draw.proofs.Labels.{whole}
use Rattle.occ_draw.proofs.law.a_label_is_shown.Goals as goal

pub returns : goal.returns
returns c = whole
