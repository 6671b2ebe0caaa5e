use Rattle.std.proofs.Common.{take, ap, sym, ◌∙◌}
use Rattle.std.proofs.lemmas.List.{take-map}
use Rattle.occ_syntax.specs.occ_base.declared.names.Name.{Name}
use Rattle.occ_syntax.specs.View.{numbers}
use Rattle.occ_names.proofs.name_set.NameSet.truncate.Goals as goal

pub returns : goal.returns
returns c = ap numbers c.truncate.ensures.keys ∙ sym (take-map (λ (k : Name). k.0) _ _) ∙ ap (take c.args.len) c.self.view_is
