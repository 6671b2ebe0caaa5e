-- The clearing of the last variables of a scope keeps the rules there.
use Rattle.std.proofs.Common.{◌≡◌, ◌∙◌, ◌++◌, ◌==◌, ℕ, Bool, cond, false, true, List, [], ◌∷◌, Option, None, Some, refl, sym, ap, subst}
use Rattle.std.proofs.lemmas.Bool.{and_parts, or_from}
use Rattle.std.proofs.lemmas.Nat.{pow_pos}
use Rattle.std.proofs.lemmas.List.{append_assoc}
use Rattle.occ_engine.specs.occ_base.declared.names.Name.{Name}
use Rattle.occ_engine.specs.occ_base.Width.{bits_of}
use Rattle.occ_engine.proofs.from_bits.Laid.{fresh_first}
use Rattle.occ_complete_states.specs.occ_derive_moves.Unified.{cleared}
use Rattle.occ_complete_states.proofs.from_derive_laws.Opened.{agree_both}
use Rattle.occ_complete_states.proofs.from_derive_laws.Pairs.{and_pair, assign_keeps}
use Rattle.occ_complete_states.proofs.Scopes.{last_new, scope_front}
use Rattle.occ_complete_states.proofs.Facts.{constant_type}
use Rattle.occ_engine.proofs.from_meaning.Facts.{at_itself, none_not_some}
use Rattle.occ_engine.specs.occ_syntax.declared.scope.Kind.{Kind}
use Rattle.occ_engine.specs.occ_syntax.declared.scope.Kind.TheVariants.{Chan, Var}
use Rattle.occ_engine.specs.occ_syntax.Names.{is_in}
use Rattle.occ_engine.specs.occ_syntax.Scopes.{environment, variable_kind, variable_width}
use Rattle.occ_engine.specs.occ_syntax.Tree.{assign}
use Rattle.occ_engine.specs.occ_syntax.Types.{can_declare, is_pair, pairs_kept, scope_kept, type_of, width_of_kind}
use Rattle.occ_engine.specs.occ_syntax.Usage.{Keeps}
use Rattle.occ_complete_states.specs.occ_target.States.{constant, variables}

none_apart : (b : Bool) (k : Kind) (o : Option Kind) → cond b (Some k) o ≡ None → (b ≡ false) × (o ≡ None)
none_apart true k o e = none_not_some (sym e)
none_apart false k o e = (refl, e)

-- a name behind a scope in which it isn't
pub kind_there : (S rest : List (Name × Kind)) (n : Name) (k : Kind) → environment S n.0 ≡ None → environment (S ++ (n, k) ∷ rest) n.0 ≡ Some k
kind_there [] rest n k h = ap (λ b. cond b (Some k) (environment rest n.0)) (at_itself n.0)
kind_there (s ∷ S) rest n k h =
    let p = none_apart (n.0 == s.0.0) s.1 (environment S n.0) h in
    ap (λ b. cond b (Some s.1) (environment (S ++ (n, k) ∷ rest) n.0)) p.0 ∙ kind_there S rest n k p.1

scope_back : (S T : List (Name × Kind)) → scope_kept (S ++ T) ≡ true → scope_kept T ≡ true
scope_back [] T h = h
scope_back (s ∷ S) T h = scope_back S T (and_parts (can_declare (environment (S ++ T)) s.0.0 (width_of_kind s.1)) (scope_kept (S ++ T)) h).1

none_of : (T : List (Name × Kind)) (x : ℕ) → environment T x ≡ None → is_in (variables T) x ≡ false
none_of [] x h = refl
none_of ((name, Chan w d) ∷ T) x h = none_of T x (none_apart (x == name.0) (Chan w d) (environment T x) h).1
none_of ((name, Var w) ∷ T) x h =
    let p = none_apart (x == name.0) (Var w) (environment T x) h in
    or_from (x == name.0) (is_in (variables T) x) p.0 (none_of T x p.1)

cleared_kept : (S T : List (Name × Kind)) → scope_kept (S ++ T) ≡ true → pairs_kept (environment (S ++ T)) (variables T) (cleared T) ≡ true
cleared_kept S [] h = refl
cleared_kept S ((name, kind) ∷ T) h = first kind same_scope (cleared_kept (S ++ (name, kind) ∷ []) T same_scope)
  where
    same_scope : scope_kept ((S ++ (name, kind) ∷ []) ++ T) ≡ true
    same_scope = subst (λ U. scope_kept U ≡ true) (sym (append_assoc S ((name, kind) ∷ []) T)) h

    first : (k : Kind) → scope_kept ((S ++ (name, k) ∷ []) ++ T) ≡ true
        → pairs_kept (environment ((S ++ (name, k) ∷ []) ++ T)) (variables T) (cleared T) ≡ true
        → pairs_kept (environment (S ++ (name, k) ∷ T)) (variables ((name, k) ∷ T)) (cleared ((name, k) ∷ T)) ≡ true
    first (Chan w d) g rest = subst (λ U. pairs_kept (environment U) (variables T) (cleared T) ≡ true) (append_assoc S ((name, Chan w d) ∷ []) T) rest
    first (Var w) g rest =
        let Γ = environment (S ++ (name, Var w) ∷ T) in
        let new = last_new S name (Var w) (scope_front (S ++ (name, Var w) ∷ []) T g) in
        let whole : scope_kept (S ++ (name, Var w) ∷ T) ≡ true = subst (λ U. scope_kept U ≡ true) (append_assoc S ((name, Var w) ∷ []) T) g in
        and_pair Γ name.0 (variables T) (constant w 0) (cleared T) (record {
          typed = agree_both (variable_width Γ name.0) (type_of Γ (constant w 0)) w (ap variable_kind (kind_there S T name (Var w) new.new))
              (constant_type Γ w 0 new.width (pow_pos (bits_of w)));
          once = none_of T name.0 (fresh_first (name, Var w) T (scope_back S ((name, Var w) ∷ T) whole));
          rest = subst (λ U. pairs_kept (environment U) (variables T) (cleared T) ≡ true) (append_assoc S ((name, Var w) ∷ []) T) rest;
        })

pub clearing_keeps : (S T : List (Name × Kind)) → scope_kept (S ++ T) ≡ true → is_pair (variables T) ≡ true
    → Keeps (environment (S ++ T)) (assign (variables T) (cleared T))
clearing_keeps S T h p = assign_keeps (environment (S ++ T)) (variables T) (cleared T) p (cleared_kept S T h)
