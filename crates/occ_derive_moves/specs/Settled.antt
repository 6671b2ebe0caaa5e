-- The guards of a normal program.
use Rattle.std.specs.Prelude.{ℕ, ◌≡◌, ◌<◌, ◌^◌, Some}
use Rattle.occ_target_laws.specs.occ_base.declared.event.Dir.TheVariants.{Input, Output}
use Rattle.occ_target_laws.specs.occ_base.declared.width.Width.{Width}
use Rattle.occ_target_laws.specs.occ_base.Width.{bits_of}
use Rattle.occ_target_laws.specs.occ_syntax.declared.scope.Kind.TheVariants.{Chan}
use Rattle.occ_target_laws.specs.occ_syntax.Scopes.{environment}
use Rattle.occ_target_laws.specs.occ_syntax.Tree.{Waiting, input, output}
use Rattle.occ_target_laws.specs.occ_target.Rows.{variable_of}
use Rattle.occ_target_laws.specs.occ_target.States.{constant}
use Rattle.occ_target_laws.specs.Shapes.{Header}

-- A guard of a normal program: an output of a constant, or an input into the variable of the channel's width.
pub data IsEventGuard (h : Header) : Waiting → Type 0 where
  sends : (c : ℕ) (w : Width) (v : ℕ) → environment h.params c ≡ Some (Chan w (Some Output)) → v < 2 ^ bits_of w
      → IsEventGuard h (output c (constant w v))
  takes : (c : ℕ) (w : Width) → environment h.params c ≡ Some (Chan w (Some Input)) → IsEventGuard h (input c (variable_of h.inputs w))
