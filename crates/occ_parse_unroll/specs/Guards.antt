-- The guard that a line is where it stands among alternatives. A guard without a condition has the condition TRUE.
use Rattle.std.specs.Prelude.{true}
use Rattle.occ_syntax.specs.Tree.{Exp, truth, Waiting, ready}
use Rattle.occ_parse_forms.specs.Shape.{Shape, receive, send, guard, input, output}
use Rattle.occ_parse_rules.specs.Places.{Sorts, Indices}
use Rattle.occ_parse_rules.specs.Unrolled.{Numbers, condition, waited}

abbrev pub guard_condition : Numbers → Sorts → Indices → Shape → Exp
guard_condition N Γ ρ (guard e w) = condition N Γ ρ e
guard_condition N Γ ρ other = truth true

abbrev pub guard_wait : Numbers → Sorts → Indices → Shape → Waiting
guard_wait N Γ ρ (receive c x) = waited N Γ ρ (input c x)
guard_wait N Γ ρ (send c e) = waited N Γ ρ (output c e)
guard_wait N Γ ρ (guard e w) = waited N Γ ρ w
guard_wait N Γ ρ other = ready
