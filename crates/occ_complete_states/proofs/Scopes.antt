-- Scopes with declared variables behind them, and parts within these declarations.
use Rattle.std.proofs.Common.{◌≡◌, ◌∙◌, ℕ, Bool, true, false, cond, eqb, List, [], ◌∷◌, ◌++◌, Option, Some, None, is_none, refl, sym, ap, subst}
use Rattle.std.proofs.lemmas.Bool.{and_parts, and_from, eqb-true, eqb-false, eq-eqb}
use Rattle.std.proofs.lemmas.List.{append-nil, append_assoc}
use Rattle.std.specs.List.{AllByRecursion}
use Rattle.occ_derive_laws.specs.occ_base.declared.names.Name.{Name}
use Rattle.occ_derive_laws.specs.occ_base.declared.width.Width.{Width}
use Rattle.occ_derive_laws.specs.occ_syntax.declared.scope.Kind.{Kind}
use Rattle.occ_derive_laws.specs.occ_syntax.declared.scope.Kind.TheVariants.{Chan, Var}
use Rattle.occ_derive_laws.specs.occ_syntax.Declarations.{declaring, declaring_all}
use Rattle.occ_derive_laws.specs.occ_syntax.Scopes.{Environment, environment, with_name}
use Rattle.occ_derive_laws.specs.occ_syntax.Tree.{Tree, declare}
use Rattle.occ_derive_laws.specs.occ_syntax.Types.{can_declare, is_width, scope_kept, types_kept, width_of_kind}
use Rattle.occ_derive_laws.specs.occ_syntax.Usage.{Keeps}
use Rattle.occ_derive_laws.specs.occ_target_laws.Bodies.{IsVariable}
use Rattle.occ_derive_laws.proofs.from_usage.Scoped.{environment-push}

-- the last name of a scope isn't in the scope before it
pub record IsNew (S : List (Name × Kind)) (n : Name) (k : Kind) : Type 0 where
  pub new : environment S n.0 ≡ None
  pub width : is_width (width_of_kind k) ≡ true
  pub kept : scope_kept S ≡ true

some_is_there : {A : Type 0} (b : Bool) (a : A) (o : Option A) → b ≡ true → is_none (cond b (Some a) o) ≡ false
some_is_there true a o e = refl
some_is_there false a o e = cc

not_both : (b : Bool) → b ≡ true → b ≡ false → ⊥
not_both true e f = cc
not_both false e f = cc

apart : (Γ : Environment) (x y : ℕ) (k : Kind) → is_none (with_name Γ x k y) ≡ true → eqb x y ≡ false
apart Γ x y k e = at (eqb x y) refl
  where
    at : (b : Bool) → eqb x y ≡ b → b ≡ false
    at true f = absurd (not_both (is_none (with_name Γ x k y)) e (some_is_there (eqb y x) k (Γ y) (same_back f)))
      where
        same_back : eqb x y ≡ true → eqb y x ≡ true
        same_back g = subst (λ z. eqb z x ≡ true) (eqb-true x y g) (eq-eqb x x refl)
    at false f = refl

turned : (x y : ℕ) → eqb x y ≡ false → eqb y x ≡ false
turned x y e = at (eqb y x) refl
  where
    at : (b : Bool) → eqb y x ≡ b → b ≡ false
    at true f = absurd (eqb-false x y e (sym (eqb-true y x f)))
    at false f = refl

pub last_new : (S : List (Name × Kind)) (n : Name) (k : Kind) → scope_kept (S ++ (n, k) ∷ []) ≡ true → IsNew S n k
last_new [] n k h = record { new = refl; width = (and_parts (is_width (width_of_kind k)) true h).0; kept = refl }
last_new (s ∷ S) n k h =
    let parts = and_parts (can_declare (environment (S ++ (n, k) ∷ [])) s.0.0 (width_of_kind s.1)) (scope_kept (S ++ (n, k) ∷ [])) h in
    let may = and_parts (is_none (environment (S ++ (n, k) ∷ []) s.0.0)) (is_width (width_of_kind s.1)) parts.0 in
    let r = last_new S n k parts.1 in
    let push = ap (λ Γ. Γ s.0.0) (environment-push S n k r.new) in
    let other : eqb n.0 s.0.0 ≡ false = apart (environment S) n.0 s.0.0 k (sym (ap is_none push) ∙ may.0) in
    let here : environment (S ++ (n, k) ∷ []) s.0.0 ≡ environment S s.0.0 = push ∙ ap (λ b. cond b (Some k) (environment S s.0.0)) (turned n.0 s.0.0 other) in
    record {
      new = ap (λ b. cond b (Some s.1) (environment S n.0)) other ∙ r.new;
      width = r.width;
      kept = and_from _ _ (and_from _ _ (sym (ap is_none here) ∙ may.0) may.1) r.kept;
    }

-- ---- a part within one declaration

pub declare_keeps : (S : List (Name × Kind)) (x : ℕ) (w : Width) (p : Tree) → scope_kept (S ++ (record { 0 = x }, Var w) ∷ []) ≡ true
    → Keeps (environment (S ++ (record { 0 = x }, Var w) ∷ [])) p → Keeps (environment S) (declare x w p)
declare_keeps S x w p h k =
    let r = last_new S (record { 0 = x }) (Var w) h in
    record {
      types = and_from _ _ (and_from _ _ (ap is_none r.new) r.width) (sym (ap (types_kept p) (environment-push S (record { 0 = x }) (Var w) r.new)) ∙ k.types);
      usage = k.usage;
    }

pub declared_keeps : (S : List (Name × Kind)) (x : ℕ) (w : Width) (p : Tree) → Keeps (environment S) (declare x w p)
    → Keeps (environment (S ++ (record { 0 = x }, Var w) ∷ [])) p
declared_keeps S x w p k =
    let parts = and_parts (can_declare (environment S) x w) (types_kept p (with_name (environment S) x (Var w))) k.types in
    record { types = ap (types_kept p) (environment-push S (record { 0 = x }) (Var w) (new_here (environment S) x w parts.0)) ∙ parts.1; usage = k.usage }
  where
    none_is : (o : Option Kind) → is_none o ≡ true → o ≡ None
    none_is None e = refl
    none_is (Some k) e = cc

    new_here : (Γ : Environment) (x : ℕ) (w : Width) → can_declare Γ x w ≡ true → Γ x ≡ None
    new_here Γ x w e = none_is (Γ x) (and_parts (is_none (Γ x)) (is_width w) e).0

-- ---- a part within some

pub scope_front : (S T : List (Name × Kind)) → scope_kept (S ++ T) ≡ true → scope_kept S ≡ true
scope_front S [] h = subst (λ U. scope_kept U ≡ true) (append-nil S) h
scope_front S (t ∷ T) h = (last_new S t.0 t.1 (scope_front (S ++ t ∷ []) T (subst (λ U. scope_kept U ≡ true) (sym (append_assoc S (t ∷ []) T)) h))).kept

pub declaring_keeps : (S ys : List (Name × Kind)) (p : Tree) → AllByRecursion (λ (y : Name × Kind). IsVariable y.1) ys → scope_kept (S ++ ys) ≡ true
    → Keeps (environment (S ++ ys)) p → Keeps (environment S) (declaring_all ys p)
declaring_keeps S [] p all h k = subst (λ U. Keeps (environment U) p) (append-nil S) k
declaring_keeps S (y ∷ ys) p all h k = one y.0 y.1 all.0 longer (declaring_keeps (S ++ y ∷ []) ys p all.1 longer (subst (λ U. Keeps (environment U) p) (sym (append_assoc S (y ∷ []) ys)) k))
  where
    longer : scope_kept ((S ++ y ∷ []) ++ ys) ≡ true
    longer = subst (λ U. scope_kept U ≡ true) (sym (append_assoc S (y ∷ []) ys)) h

    one : (x : Name) (kind : Kind) → IsVariable kind → scope_kept ((S ++ (x, kind) ∷ []) ++ ys) ≡ true → Keeps (environment (S ++ (x, kind) ∷ [])) (declaring_all ys p)
        → Keeps (environment S) (declaring x.0 kind (declaring_all ys p))
    one x (Var w) v g kept = declare_keeps S x.0 w (declaring_all ys p) (scope_front (S ++ (x, Var w) ∷ []) ys g) kept
    one x (Chan w d) v g kept = absurd v
