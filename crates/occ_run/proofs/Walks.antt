-- What a walk over a control tree needs where it goes on: at the parts of controls at once, and in the body of CHANs in a row.
use Rattle.std.proofs.Common.{◌≡◌, ◌<◌, Global, List, ◌∷◌, Vec, ap, arith, sym, true, ◌∙◌}
use Rattle.std.specs.declared.rc.Rc.{Rc}
use Rattle.occ_syntax.specs.occ_base.declared.names.Name.{Name}
use Rattle.occ_syntax.specs.occ_base.declared.width.Width.{Width}
use Rattle.occ_syntax.specs.Scopes.{Environment}
use Rattle.occ_run_steps.specs.Control.{Control as Left, both}
use Rattle.occ_run_steps.specs.Kept.{all_types_held, types_held}
use Rattle.occ_run.specs.declared.control.Control.{Control, Both}
use Rattle.occ_run.specs.View.{control, controls, in_channels, with_channels}
use Rattle.occ_run.proofs.Channels.{held_row}
use Rattle.occ_run.proofs.Rows.{control-Both}
use Rattle.occ_run.proofs.Sizes.{size, size_both, size_in_channels, sizes}

-- controls at once, of which the parts were read
pub parts_are : (C : Left) (parts : Vec (Rc Control Global) Global) (seen : List (Rc Control Global)) → C ≡ control (Both parts) → seen ≡ parts.items → C ≡ both (controls seen)
parts_are C parts seen e h = e ∙ control-Both parts ∙ ap (λ xs. both (controls xs)) (sym h)

-- the parts are smaller than the whole, and typed as it is
pub parts_held : (Γ : Environment) (C : Left) (parts : Vec (Rc Control Global) Global) (seen : List (Rc Control Global)) → C ≡ control (Both parts) → seen ≡ parts.items → types_held C Γ ≡ true
    → (sizes (controls seen) < size C) × (all_types_held (controls seen) Γ ≡ true)
parts_held Γ C parts seen e h k =
    let is = parts_are C parts seen e h in
    let less = size_both C (controls seen) is in
    (omega (arith, less), sym (ap (λ D. types_held D Γ) is) ∙ k)

-- the body of CHANs in a row is smaller than the whole, and typed in their scope
pub body_held : (Γ Δ : Environment) (c : Name × Width) (more seen : List (Name × Width)) (C B D : Left) → C ≡ in_channels (c ∷ more) B → seen ≡ more → D ≡ B → Δ ≡ with_channels Γ (c ∷ seen)
    → types_held C Γ ≡ true → (size D < size C) × (types_held D Δ ≡ true)
body_held Γ Δ c more seen C B D e h same is k =
    let held = held_row Γ c more seen C B e h k in
    let whole : size C ≡ size (in_channels (c ∷ more) B) = ap size e in
    let less = size_in_channels more B in
    let small = ap size same in
    (omega (arith, whole, less, small), ap (λ E. types_held E Δ) same ∙ ap (types_held B) is ∙ held.1)
