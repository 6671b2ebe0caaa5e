-- Control trees after a step.
use Rattle.std.proofs.Common.{◌≡◌, List, [], ◌∷◌, refl, ap}
use Rattle.occ_syntax.specs.occ_base.declared.names.Name.{Name}
use Rattle.occ_syntax.specs.occ_base.declared.width.Width.{Width}
use Rattle.occ_run_steps.specs.Control.{Control, channel}
use Rattle.occ_run.specs.Effects.{Effect, applied}
use Rattle.occ_run.specs.View.{in_channels}

-- a step within CHANs in a row leaves the row
pub applied_in_channels : (cs : List (Name × Width)) (C : Control) (e : Effect) → applied (in_channels cs C) e ≡ in_channels cs (applied C e)
applied_in_channels [] C e = refl
applied_in_channels (c ∷ cs) C e = ap (channel c.0.0 c.1) (applied_in_channels cs C e)
