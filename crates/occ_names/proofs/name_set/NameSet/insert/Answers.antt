use Rattle.std.proofs.Common.{ap, ◌∙◌}
use Rattle.occ_syntax.specs.View.{numbers}
use Rattle.occ_names.specs.Once.{same_number, with_one}
use Rattle.occ_names.proofs.Sets.{names_with}
use Rattle.occ_names.proofs.name_set.NameSet.insert.Goals as goal

pub returns-clause-ok : goal.returns-clause-ok
returns-clause-ok c = ap numbers c.in_ok-insert.ensures.keys ∙ names_with _ c.args.name ∙ ap (λ ks. with_one same_number ks c.args.name.0) c.self.view_is
