-- A program and the same with flat PARs have the same map.
use Rattle.std.proofs.Common.{◌≡◌, true, List, Option, Some, subst}
use Rattle.std.specs.Option.{IfSome}
use Rattle.occ_syntax.specs.occ_base.declared.names.Name.{Name}
use Rattle.occ_norm_assign.specs.occ_norm_arrange.Flat.{IsFlat}
use Rattle.occ_compare.specs.occ_mdd.declared.map.MapId.{MapId}
use Rattle.occ_compare.specs.occ_node.declared.world.World.{World}
use Rattle.occ_norm.specs.Root.{IsRoot}
use Rattle.occ_compare.specs.occ_bits.Layout.{laid_out, state_of}
use Rattle.occ_syntax.specs.Meaning.{ended, refusing}
use Rattle.occ_syntax.specs.Scopes.{environment}
use Rattle.occ_syntax.specs.Tree.{Tree}
use Rattle.occ_syntax.specs.Types.{types_kept}
use Rattle.occ_syntax.specs.declared.scope.Kind.{Kind}

pub root_flat : (w : World) (params : List (Name × Kind)) (p q : Tree) (states : MapId) → IsFlat p q → types_kept p (environment params) ≡ true → types_kept q (environment params) ≡ true
    → IsRoot w params q states → IsRoot w params p states
root_flat w params p q states flat tp tq root =
    let Γ = environment params in
    let layout = laid_out 0 params in
    record {
      over = root.over;
      root_fails = λ x a h e t X.
          let iff = root.root_fails x a h e t X in (
            λ k. flat.back Γ tp tq (state_of layout x) t (refusing X) (iff.0 k),
            λ d. iff.1 (flat.forth Γ tp tq (state_of layout x) t (refusing X) d),
          );
      root_ends = λ x a h e t z l.
          let iff = root.root_ends x a h e t z l in (
            λ k. flat.back Γ tp tq (state_of layout x) t (ended (state_of layout z)) (iff.0 k),
            λ d. iff.1 (flat.forth Γ tp tq (state_of layout x) t (ended (state_of layout z)) d),
          );
    }

-- the same of a program whose parameters are those
pub root_as : (w : World) (params others : List (Name × Kind)) (p q : Tree) (states : MapId) → others ≡ params → IsFlat p q → types_kept p (environment params) ≡ true
    → types_kept q (environment others) ≡ true → IsRoot w others q states → IsRoot w params p states
root_as w params others p q states same flat tp tq root =
    root_flat w params p q states flat tp (subst (λ vs. types_kept q (environment vs) ≡ true) same tq) (subst (λ vs. IsRoot w vs q states) same root)

pub found_is : {X : Type 0} (o : Option X) (x : X) (P : X → Type 0) → o ≡ Some x → IfSome o P → P x
found_is o x P e h = subst (λ r. IfSome r P) e h
