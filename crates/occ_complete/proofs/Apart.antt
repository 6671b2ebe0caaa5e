-- Names that aren't in scope, and that a part doesn't declare, stand nowhere in it.
use Rattle.std.proofs.Common.{◌≡◌, ℕ, Bool, true, false, ◌||◌, ◌==◌, List, [], ◌∷◌, None, refl, ap}
use Rattle.std.specs.List.{AllByRecursion}
use Rattle.occ_engine.specs.occ_base.declared.names.Name.{Name}
use Rattle.occ_complete_states.specs.occ_derive_moves.Apart.{has_declared}
use Rattle.occ_complete_states.proofs.from_derive_laws.Elsewhere.{stands_not}
use Rattle.occ_engine.proofs.from_meaning.Facts.{at_itself}
use Rattle.occ_engine.proofs.from_meaning.InScope.{free_in_scope}
use Rattle.occ_engine.specs.occ_meaning.Rename.{stands}
use Rattle.occ_engine.specs.occ_syntax.declared.scope.Kind.{Kind}
use Rattle.occ_engine.specs.occ_syntax.Names.{is_in}
use Rattle.occ_engine.specs.occ_syntax.Scopes.{environment}
use Rattle.occ_engine.specs.occ_syntax.Tree.{Tree}
use Rattle.occ_engine.specs.occ_syntax.Usage.{Keeps}
use Rattle.occ_complete_states.specs.occ_target_laws.Bodies.{IsVariable}

abbrev pub numbers_of : List (Name × Kind) → List ℕ
numbers_of [] = []
numbers_of (t ∷ ts) = t.0.0 ∷ numbers_of ts

pub nowhere : (S ts : List (Name × Kind)) (p : Tree) → Keeps (environment S) p
    → AllByRecursion (λ (t : Name × Kind). IsVariable t.1 × (environment S t.0.0 ≡ None)) ts
    → ((t : ℕ) → is_in (numbers_of ts) t ≡ true → has_declared p t ≡ false) → AllByRecursion (λ (t : Name × Kind). stands p t.0.0 ≡ false) ts
nowhere S [] p k new none = tt
nowhere S (t ∷ ts) p k new none = (
  stands_not p t.0.0 (free_in_scope p (environment S) k.types t.0.0 new.0.1) (none t.0.0 (ap (λ b. b || is_in (numbers_of ts) t.0.0) (at_itself t.0.0))),
  nowhere S ts p k new.1 (λ u e. none u (later (u == t.0.0) (is_in (numbers_of ts) u) e)),
)
  where
    later : (b c : Bool) → c ≡ true → (b || c) ≡ true
    later true c e = refl
    later false c e = e
