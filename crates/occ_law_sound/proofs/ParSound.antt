-- Each law of PAR leads to parts that are the same.
use Rattle.occ_law.specs.occ_base.declared.names.Name.{Name}
use Rattle.occ_law_sound.proofs.Expanding.{expand_sound}
use Rattle.occ_law_sound.proofs.Parts.{assign_sound, flat_sound, if_sound, none_sound, one_sound, order_sound, skip_sound, stop_sound}
use Rattle.occ_law.specs.Parallel.{ParallelSides}
use Rattle.occ_law.proofs.from_meaning.Facts.{either}
use Rattle.occ_law.specs.occ_syntax.Same.{SAME}
use Rattle.occ_law.specs.occ_syntax.Scopes.{Environment, environment}
use Rattle.occ_law.specs.occ_syntax.Tree.{Tree}
use Rattle.occ_law.specs.occ_syntax.Usage.{Keeps}
use Rattle.occ_law.specs.occ_syntax.declared.scope.Kind.{Kind}
use Rattle.std.proofs.Common.{List, ℕ, ◌==◌}

pub parallel_sound : (n : ℕ) (S : List (Name × Kind)) (ks : List ℕ) (l r : Tree) → Keeps (environment S) l → ParallelSides n S ks l r
    → SAME (environment S) l r
parallel_sound n S ks l r h =
    let Γ : Environment = environment S in
    either (n == 37) (none_sound Γ ks l r) (either (n == 38) (one_sound Γ ks l r) (either (n == 39) (flat_sound Γ ks l r)
    (either (n == 40) (order_sound Γ ks l r h) (either (n == 41) (skip_sound Γ ks l r) (either (n == 42) (stop_sound Γ ks l r)
    (either (n == 43) (assign_sound Γ ks l r h) (either (n == 44) (if_sound S ks l r) (either (n == 45) (expand_sound Γ ks l r h) (λ k. absurd k)))))))))
