-- var-rename and chan-rename, by their sides.
use Rattle.std.proofs.Common.{◌≡◌, ℕ, ◌↔◌, true, false, None, List, [], ap, sym, ◌∙◌, subst}
use Rattle.std.specs.Prelude.{is_none}
use Rattle.std.proofs.lemmas.Bool.{and_parts}
use Rattle.occ_syntax.specs.occ_base.declared.width.Width.{Width}
use Rattle.occ_law_shape.specs.occ_law.Scope.{ChanRename, chan_rename, VarRename, var_rename}
use Rattle.occ_names.proofs.from_meaning.Facts.{name_at}
use Rattle.occ_names.proofs.from_meaning.States.{fresh_name}
use Rattle.occ_names.specs.occ_meaning.Rename.{renamed, replacing, stands}
use Rattle.occ_names.specs.Mentions.{declared_names}
use Rattle.occ_syntax.specs.declared.scope.Kind.TheVariants.{Var, Chan}
use Rattle.occ_syntax.specs.Names.{is_in}
use Rattle.occ_syntax.specs.Scopes.{Environment, with_name}
use Rattle.occ_syntax.specs.Tree.{Tree, declare, connect}
use Rattle.occ_syntax.specs.Types.{can_declare, types_kept}
use Rattle.occ_law_scope.proofs.Redeclared.{not_again}
use Rattle.occ_law_scope.proofs.Joined.{by_sides, put_right}

-- what is under a declared variable doesn't declare its name again
pub variable_once : (Γ : Environment) (l p : Tree) (x : ℕ) (w : Width) → declare x w p ≡ l → types_kept l Γ ≡ true → is_in (declared_names p) x ≡ false
variable_once Γ l p x w e t =
    let k = and_parts (can_declare Γ x w) (types_kept p (with_name Γ x (Var w))) (ap (λ q. types_kept q Γ) e ∙ t) in
    not_again p (with_name Γ x (Var w)) x (ap is_none (name_at Γ x (Var w))) k.1

pub channel_once : (Γ : Environment) (l p : Tree) (c : ℕ) (w : Width) → connect c w p ≡ l → types_kept l Γ ≡ true → is_in (declared_names p) c ≡ false
channel_once Γ l p c w e t =
    let k = and_parts (can_declare Γ c w) (types_kept p (with_name Γ c (Chan w None))) (ap (λ q. types_kept q Γ) e ∙ t) in
    not_again p (with_name Γ c (Chan w None)) c (ap is_none (name_at Γ c (Chan w None))) k.1

-- a declared name isn't in the scope of its declaration
variable_new : (Γ : Environment) (r q : Tree) (y : ℕ) (v : Width) → declare y v q ≡ r → types_kept r Γ ≡ true → Γ y ≡ None
variable_new Γ r q y v e t = fresh_name Γ y v (and_parts (can_declare Γ y v) (types_kept q (with_name Γ y (Var v))) (ap (λ p. types_kept p Γ) e ∙ t)).0

channel_new : (Γ : Environment) (r q : Tree) (d : ℕ) (v : Width) → connect d v q ≡ r → types_kept r Γ ≡ true → Γ d ≡ None
channel_new Γ r q d v e t = fresh_name Γ d v (and_parts (can_declare Γ d v) (types_kept q (with_name Γ d (Chan v None))) (ap (λ p. types_kept p Γ) e ∙ t)).0

var_rename_back : (Γ : Environment) (x y : ℕ) (w v : Width) (p q r : Tree) → r ≡ declare y v q → (place : List ℕ) → VarRename Γ place (declare x w p) r
    → (q ≡ renamed p (replacing x y)) × (stands p y ≡ false)
var_rename_back Γ x y w v p q r e place (var_rename a z u b h new) =
    let f : z ≡ y = cc in
    let g : renamed p (replacing x z) ≡ q = cc in
    (sym g ∙ ap (λ k. renamed p (replacing x k)) f, subst (λ k. stands p k ≡ false) f h)

pub var_rename_law : (Γ : Environment) (l r p q : Tree) (x y : ℕ) (w v : Width) → declare x w p ≡ l → declare y v q ≡ r → v ≡ w → types_kept r Γ ≡ true
    → ((q ≡ renamed p (replacing x y)) × (stands p y ≡ false)) ↔ ((place : List ℕ) × VarRename Γ place l r)
var_rename_law Γ l r p q x y w v e f g t =
    by_sides (VarRename Γ) (declare x w p) l r e
    (λ h. (
      [],
      put_right (VarRename Γ) [] (declare x w p) (declare y w (renamed p (replacing x y))) r (sym f ∙ ap (λ u. declare y u q) g ∙ ap (declare y w) h.0)
          (var_rename x y w p h.1 (variable_new Γ r q y v f t)),
    )) (var_rename_back Γ x y w v p q r (sym f))

chan_rename_back : (Γ : Environment) (x y : ℕ) (w v : Width) (p q r : Tree) → r ≡ connect y v q → (place : List ℕ) → ChanRename Γ place (connect x w p) r
    → (q ≡ renamed p (replacing x y)) × (stands p y ≡ false)
chan_rename_back Γ x y w v p q r e place (chan_rename a z u b h new) =
    let f : z ≡ y = cc in
    let g : renamed p (replacing x z) ≡ q = cc in
    (sym g ∙ ap (λ k. renamed p (replacing x k)) f, subst (λ k. stands p k ≡ false) f h)

pub chan_rename_law : (Γ : Environment) (l r p q : Tree) (x y : ℕ) (w v : Width) → connect x w p ≡ l → connect y v q ≡ r → v ≡ w → types_kept r Γ ≡ true
    → ((q ≡ renamed p (replacing x y)) × (stands p y ≡ false)) ↔ ((place : List ℕ) × ChanRename Γ place l r)
chan_rename_law Γ l r p q x y w v e f g t =
    by_sides (ChanRename Γ) (connect x w p) l r e
    (λ h. (
      [],
      put_right (ChanRename Γ) [] (connect x w p) (connect y w (renamed p (replacing x y))) r (sym f ∙ ap (λ u. connect y u q) g ∙ ap (connect y w) h.0)
          (chan_rename x y w p h.1 (channel_new Γ r q y v f t)),
    )) (chan_rename_back Γ x y w v p q r (sym f))
