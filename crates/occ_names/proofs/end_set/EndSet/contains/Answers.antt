use Rattle.std.proofs.Common.{ap, ◌∙◌}
use Rattle.occ_names.specs.Once.{has}
use Rattle.occ_names.specs.Mentions.{same_end, end_number}
use Rattle.occ_names.proofs.Sets.{ends_has}
use Rattle.occ_names.proofs.end_set.EndSet.contains.Goals as goal

pub returns : goal.returns
returns c = c.contains.ensures ∙ ends_has _ c.args.end ∙ ap (λ ks. has same_end ks (end_number c.args.end)) c.self.view_is
