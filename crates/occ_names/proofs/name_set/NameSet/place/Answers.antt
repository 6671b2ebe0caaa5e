use Rattle.std.proofs.Common.{◌==◌, position, ap, ◌∙◌}
use Rattle.occ_names.proofs.Sets.{names_place}
use Rattle.occ_names.proofs.name_set.NameSet.place.Goals as goal

pub returns : goal.returns
returns c = c.get_index_of.ensures.index ∙ names_place (λ x. c.args.name.0 == x) _ ∙ ap (position (λ x. c.args.name.0 == x)) c.self.view_is
