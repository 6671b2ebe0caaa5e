use Rattle.std.proofs.Common.{ap, ◌∙◌}
use Rattle.occ_names.specs.Once.{with_one}
use Rattle.occ_names.specs.Mentions.{same_end, end_number, end_numbers}
use Rattle.occ_names.proofs.Sets.{ends_with}
use Rattle.occ_names.proofs.end_set.EndSet.insert.Goals as goal

pub returns-clause-ok : goal.returns-clause-ok
returns-clause-ok c = ap end_numbers c.in_ok-insert.ensures.keys ∙ ends_with _ c.args.end ∙ ap (λ ks. with_one same_end ks (end_number c.args.end)) c.self.view_is
