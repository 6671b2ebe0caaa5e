-- What is known of the parameters of a text is known in one way.
use Rattle.std.specs.Prelude.{ℕ, List}
use Rattle.std.specs.Coded.{×_prop, Unit-prop, le_prop}
use Rattle.std.proofs.Props.{props}
use Rattle.occ_syntax.specs.occ_base.Width.{IsWidth}
use Rattle.occ_syntax.specs.occ_base.declared.names.Name.{Name}
use Rattle.occ_syntax.specs.occ_base.declared.width.Width.{Width}
use Rattle.occ_syntax.specs.occ_base.declared.width.Width.TheVariants.{Bool, Word}
use Rattle.occ_syntax.specs.declared.scope.Kind.{Kind}
use Rattle.occ_syntax.specs.declared.scope.Kind.TheVariants.{Var, Chan}
use Rattle.occ_nform_rows.specs.occ_nform_table.Lines.{HasWidth}
use Rattle.occ_nform_rows.specs.occ_nform_table.Tables.{IsInterface}

width_prop : (width : Width) → IsProp (IsWidth width)
width_prop Bool = Unit-prop
width_prop (Word bits) = ×_prop le_prop le_prop

kind_prop : (kind : Kind) → IsProp (HasWidth kind)
kind_prop (Var width) = width_prop width
kind_prop (Chan width dir) = width_prop width

pub interface_prop : (names : List (List ℕ)) (params : List (Name × Kind)) → IsProp (IsInterface names params)
interface_prop names params = hlevel (kind_prop, props)
