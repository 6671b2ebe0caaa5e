use Rattle.std.proofs.Common.{ap, ◌∙◌}
use Rattle.occ_syntax.specs.Scopes.{environment}
use Rattle.occ_usage.proofs.Scoped.{lookup_environment}
use Rattle.occ_usage.proofs.kinds.Kinds.kind.Goals as goal

pub returns-in-Some : goal.returns-in-Some
returns-in-Some c = c.in-Some.ensures.value ∙ lookup_environment _ c.args.name.0 ∙ ap (λ es. environment es c.args.name.0) c.self.view_is

pub returns-in-None : goal.returns-in-None
returns-in-None c = c.in-None.ensures.value ∙ lookup_environment _ c.args.name.0 ∙ ap (λ es. environment es c.args.name.0) c.self.view_is
