use Rattle.std.proofs.Common.{◌++◌, ◌∷◌, [], ap, ◌∙◌}
use Rattle.occ_syntax.specs.Scopes.{environment}
use Rattle.occ_usage.proofs.Scoped.{insert_new}
use Rattle.occ_usage.proofs.kinds.Kinds.enter.Goals as goal

pub returns : goal.returns
returns c =
    c.in_ok-insert.ensures.entries ∙ insert_new _ c.args.name c.args.kind (ap (λ es. environment es c.args.name.0) c.self.view_is ∙ c.requires)
    ∙ ap (λ es. es ++ (c.args.name, c.args.kind) ∷ []) c.self.view_is
