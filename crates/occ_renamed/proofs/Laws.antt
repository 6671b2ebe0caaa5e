-- Any law of the table, where names are exchanged.
use Rattle.occ_replay_rules.specs.occ_base.declared.names.Name.{Name}
use Rattle.occ_renamed.proofs.Choice.{choice_under}
use Rattle.occ_renamed.proofs.Parallel.{parallel_under}
use Rattle.occ_renamed.proofs.Scope.{scope_under}
use Rattle.occ_renamed.proofs.Sequence.{sequence_under}
use Rattle.occ_renamed.proofs.States.{environment_under}
use Rattle.occ_renamed.proofs.Usage.{keeps_under}
use Rattle.occ_renamed.specs.Scopes.{scope_renamed}
use Rattle.occ_replay_rules.specs.occ_law.RuleTable.{LAW, SIDES}
use Rattle.occ_replay_rules.proofs.from_meaning.Facts.{both}
use Rattle.occ_replay_rules.proofs.from_meaning.Renaming.{IsExchange}
use Rattle.occ_replay_rules.specs.occ_meaning.Rename.{renamed}
use Rattle.occ_replay_rules.specs.occ_syntax.Scopes.{environment}
use Rattle.occ_replay_rules.specs.occ_syntax.Tree.{Tree}
use Rattle.occ_replay_rules.specs.occ_syntax.Usage.{Keeps}
use Rattle.occ_replay_rules.specs.occ_syntax.declared.scope.Kind.{Kind}
use Rattle.std.proofs.Common.{List, nat_le, subst, sym, ℕ}

sides_under : (f : ℕ → ℕ) → IsExchange f → (n : ℕ) (S : List (Name × Kind)) (ks : List ℕ) (l r : Tree) → SIDES n S ks l r
    → SIDES n (scope_renamed f S) ks (renamed l f) (renamed r f)
sides_under f inv n S ks l r =
    both (nat_le n 15) (sequence_under f inv n S ks l r) (both (nat_le n 36) (choice_under f inv n S ks l r)
    (both (nat_le n 45) (parallel_under f inv n S ks l r) (scope_under f inv n S ks l r)))

pub kept_under : (f : ℕ → ℕ) → IsExchange f → (S : List (Name × Kind)) (p : Tree) → Keeps (environment S) p
    → Keeps (environment (scope_renamed f S)) (renamed p f)
kept_under f inv S p k = subst (λ Γ. Keeps Γ (renamed p f)) (sym (environment_under f inv S)) (keeps_under (environment S) p f inv k)

pub law_under : (f : ℕ → ℕ) → IsExchange f → (n : ℕ) (S : List (Name × Kind)) (l r : Tree) → LAW n S l r
    → LAW n (scope_renamed f S) (renamed l f) (renamed r f)
law_under f inv n S l r h = record {
  place = h.place;
  sides = sides_under f inv n S h.place l r h.sides;
  left = kept_under f inv S l h.left;
  right = kept_under f inv S r h.right;
}
