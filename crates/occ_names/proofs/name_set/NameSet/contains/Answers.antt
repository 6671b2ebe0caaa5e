use Rattle.std.proofs.Common.{ap, ◌∙◌}
use Rattle.occ_syntax.specs.Names.{is_in}
use Rattle.occ_names.proofs.Sets.{names_has}
use Rattle.occ_names.proofs.name_set.NameSet.contains.Goals as goal

pub returns : goal.returns
returns c = c.contains.ensures ∙ names_has _ c.args.name ∙ ap (λ ks. is_in ks c.args.name.0) c.self.view_is
