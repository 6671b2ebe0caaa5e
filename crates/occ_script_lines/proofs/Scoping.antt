-- The scope at a path.
use Rattle.std.proofs.Common.{◌≡◌, ℕ, Bool, true, false, cond, eqb, List, [], ◌∷◌, ◌++◌, Option, Some, None, is_none, refl, sym, ap, subst, ◌∙◌}
use Rattle.std.specs.Option.{option_map, unwrap_or}
use Rattle.std.proofs.lemmas.Bool.{and_parts, and_from, eqb-true, eqb-false}
use Rattle.occ_lex.specs.occ_base.declared.names.Name.{Name}
use Rattle.occ_usage.specs.occ_meaning.Context.{child, environment_at, environment_below, part_at, put}
use Rattle.occ_usage.proofs.from_meaning.Contexts.{child_types, put_same}
use Rattle.occ_syntax.specs.declared.scope.Kind.{Kind}
use Rattle.occ_syntax.specs.declared.scope.Kind.TheVariants.{Chan, Var}
use Rattle.occ_syntax.specs.Same.{SAME}
use Rattle.occ_syntax.specs.Scopes.{environment, with_name}
use Rattle.occ_syntax.specs.Tree.{Tree, skip, stop, assign, receive, send, seq, par, select, alt, declare, connect}
use Rattle.occ_syntax.specs.Types.{can_declare, is_width, scope_kept, types_kept, width_of_kind}
use Rattle.occ_usage.proofs.Scoped.{absent, environment-push}
use Rattle.occ_script_lines.specs.Laws.{IsScopeAt}
use Rattle.occ_script_lines.specs.Places.{declared_by, scope_list}

-- a name that is no other name of a scope's entries isn't that of the first one
none_apart : (b : Bool) (k : Kind) (o : Option Kind) → cond b (Some k) o ≡ None → (b ≡ false) × (o ≡ None)
none_apart true k o e = absurd (apart e)
  where
    apart : Some k ≡ None → ⊥
    apart e = cc
none_apart false k o e = (refl, e)

turned : (x y : ℕ) → eqb x y ≡ false → eqb y x ≡ false
turned x y e = at (eqb y x) refl
  where
    at : (b : Bool) → eqb y x ≡ b → b ≡ false
    at true f = absurd (eqb-false x y e (sym (eqb-true y x f)))
    at false f = refl

-- a new name at the end of a scope
pub scope_kept-push : (S : List (Name × Kind)) (n : Name) (k : Kind) → scope_kept S ≡ true → environment S n.0 ≡ None → is_width (width_of_kind k) ≡ true → scope_kept (S ++ (n, k) ∷ []) ≡ true
scope_kept-push [] n k h e w = and_from _ _ w refl
scope_kept-push (s ∷ S) n k h e w =
    let parts = and_parts (can_declare (environment S) s.0.0 (width_of_kind s.1)) (scope_kept S) h in
    let may = and_parts (is_none (environment S s.0.0)) (is_width (width_of_kind s.1)) parts.0 in
    let other = none_apart (eqb n.0 s.0.0) s.1 (environment S n.0) e in
    let here : environment (S ++ (n, k) ∷ []) s.0.0 ≡ environment S s.0.0 =
    ap (λ Γ. Γ s.0.0) (environment-push S n k other.1) ∙ ap (λ b. cond b (Some k) (environment S s.0.0)) (turned n.0 s.0.0 other.0) in
    and_from _ _ (and_from _ _ (ap is_none here ∙ may.0) may.1) (scope_kept-push S n k parts.1 other.1 w)

-- what a process of kept types leaves in scope for its parts
record IsBelow (S : List (Name × Kind)) (p : Tree) : Type 0 where
  gives : environment (S ++ declared_by p) ≡ environment_below (environment S) p
  kept : scope_kept (S ++ declared_by p) ≡ true

append_nil : (S : List (Name × Kind)) → S ++ [] ≡ S
append_nil [] = refl
append_nil (s ∷ S) = ap (λ T. s ∷ T) (append_nil S)

as_before : (S : List (Name × Kind)) (p : Tree) → scope_kept S ≡ true → declared_by p ≡ [] → environment S ≡ environment_below (environment S) p → IsBelow S p
as_before S p h e f =
    let same : S ++ declared_by p ≡ S = ap (λ T. S ++ T) e ∙ append_nil S in
    record { gives = ap environment same ∙ f; kept = ap scope_kept same ∙ h }

named : (S : List (Name × Kind)) (x : ℕ) (k : Kind) → scope_kept S ≡ true → can_declare (environment S) x (width_of_kind k) ≡ true
    → (environment (S ++ (record { 0 = x }, k) ∷ []) ≡ with_name (environment S) x k) × (scope_kept (S ++ (record { 0 = x }, k) ∷ []) ≡ true)
named S x k h may =
    let fresh : environment S x ≡ None = absent (environment S) x (width_of_kind k) (width_of_kind k) refl may in
    (environment-push S (record { 0 = x }) k fresh, scope_kept-push S (record { 0 = x }) k h fresh (and_parts (is_none (environment S x)) (is_width (width_of_kind k)) may).1)

below : (S : List (Name × Kind)) (p : Tree) → scope_kept S ≡ true → types_kept p (environment S) ≡ true → IsBelow S p
below S skip h t = as_before S skip h refl refl
below S stop h t = as_before S stop h refl refl
below S (assign xs es) h t = as_before S (assign xs es) h refl refl
below S (receive c x) h t = as_before S (receive c x) h refl refl
below S (send c e) h t = as_before S (send c e) h refl refl
below S (seq ps) h t = as_before S (seq ps) h refl refl
below S (par ps) h t = as_before S (par ps) h refl refl
below S (select cs) h t = as_before S (select cs) h refl refl
below S (alt bs) h t = as_before S (alt bs) h refl refl
below S (declare x w p) h t =
    let made = named S x (Var w) h (and_parts (can_declare (environment S) x w) (types_kept p (with_name (environment S) x (Var w))) t).0 in
    record { gives = made.0; kept = made.1 }
below S (connect c w p) h t =
    let made = named S c (Chan w None) h (and_parts (can_declare (environment S) c w) (types_kept p (with_name (environment S) c (Chan w None))) t).0 in
    record { gives = made.0; kept = made.1 }

-- the names in scope at a path are a scope, and give the environment there
pub scopes : (path : List ℕ) (S : List (Name × Kind)) (p : Tree) → scope_kept S ≡ true → types_kept p (environment S) ≡ true → IsScopeAt path S p
scopes [] S p h t = record { gives = refl; kept = h }
scopes (i ∷ path) S p h t =
    let b = below S p h t in
    let r = at b (λ q u. scopes path (S ++ declared_by p) q b.kept u) (child p i) refl in
    record { gives = r.0; kept = r.1 }
  where
    at : IsBelow S p → ((q : Tree) → types_kept q (environment (S ++ declared_by p)) ≡ true → IsScopeAt path (S ++ declared_by p) q) → (o : Option Tree) → child p i ≡ o
        → (environment (unwrap_or (option_map (scope_list path (S ++ declared_by p)) o) S) ≡ unwrap_or (option_map (environment_at path (environment_below (environment S) p)) o) (environment S))
        × (scope_kept (unwrap_or (option_map (scope_list path (S ++ declared_by p)) o) S) ≡ true)
    at b further None e = (refl, h)
    at b further (Some q) e =
        let r = further q (ap (types_kept q) b.gives ∙ child_types (environment S) p t i q e) in
        (r.gives ∙ ap (λ Γ. environment_at path Γ q) b.gives, r.kept)

-- a part that is the same in the scope at its path may be put in there
pub put_in_same : (path : List ℕ) (S : List (Name × Kind)) (p q r : Tree) → scope_kept S ≡ true → types_kept p (environment S) ≡ true → part_at path p ≡ Some q
    → SAME (environment (scope_list path S p)) q r → SAME (environment S) p (put path p r)
put_in_same path S p q r h t there same =
    put_same path (environment S) p q r t there (subst (λ Γ. SAME Γ q r) (scopes path S p h t).gives same)
