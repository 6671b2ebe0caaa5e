-- An ALT keeps names, types, directions and usage where each branch does.
use Rattle.std.proofs.Common.{◌≡◌, true, refl}
use Rattle.std.proofs.lemmas.Bool.{and_from}
use Rattle.occ_derive_laws.proofs.Each.{Each, Nests}
use Rattle.occ_renamed.specs.occ_law.Choice.{and_skip}
use Rattle.occ_renamed.proofs.from_meaning.Facts.{and_four}
use Rattle.occ_renamed.specs.occ_syntax.Scopes.{Environment}
use Rattle.occ_renamed.specs.occ_syntax.Tree.{Branches, Exp, Tree, Waiting, alt, and_branch, no_branch, ready, truth}
use Rattle.occ_renamed.specs.occ_syntax.Types.{branches_kept, is_condition, types_kept, waiting_kept}
use Rattle.occ_renamed.specs.occ_syntax.Usage.{Keeps}

-- a branch keeps them
pub record IsKept (Γ : Environment) (b : Exp) (w : Waiting) (p : Tree) : Type 0 where
  pub condition : is_condition Γ b ≡ true
  pub wait : waiting_kept Γ w ≡ true
  pub part : Keeps Γ p

pub kept_each : (Γ : Environment) (gs : Branches) → Keeps Γ (alt gs) → Each (IsKept Γ) gs
kept_each Γ no_branch k = tt
kept_each Γ (and_branch b w p gs) k =
    let t = and_four (is_condition Γ b) (waiting_kept Γ w) (types_kept p Γ) (branches_kept gs Γ) k.types in (
      record { condition = t.0; wait = t.1; part = record { types = t.2; usage = k.usage.0 } },
      kept_each Γ gs (record { types = t.3; usage = k.usage.1 }),
    )

pub each_kept : (Γ : Environment) (gs : Branches) → Each (IsKept Γ) gs → Keeps Γ (alt gs)
each_kept Γ no_branch e = record { types = refl; usage = tt }
each_kept Γ (and_branch b w p gs) e =
    let k = each_kept Γ gs e.1 in
    record {
      types = and_from _ _ (and_from _ _ (and_from _ _ e.0.condition e.0.wait) e.0.part.types) k.types;
      usage = (e.0.part.usage, k.usage);
    }

pub at_once_kept : (Γ : Environment) (p : Tree) → Keeps Γ p → IsKept Γ (truth true) ready p
at_once_kept Γ p k = record { condition = refl; wait = refl; part = k }

pub kept_nests : (Γ : Environment) → Nests (IsKept Γ)
kept_nests Γ = record {
  opens = λ gs k. kept_each Γ gs k.part;
  closes = λ gs e. at_once_kept Γ (alt gs) (each_kept Γ gs e);
  joins = λ b w p q k h. record {
    condition = k.condition;
    wait = k.wait;
    part = each_kept Γ (and_skip p (and_skip q no_branch)) (at_once_kept Γ p k.part, (at_once_kept Γ q h.part, tt));
  };
}
