-- Each law of sequence and assignment leads to parts that are the same.
use Rattle.occ_law.specs.occ_base.declared.names.Name.{Name}
use Rattle.occ_law.specs.Sequence.{SequenceSides}
use Rattle.occ_law_sound.proofs.AssignedChoice as behind_assignment
use Rattle.occ_law_sound.proofs.Assigning.{id_sound, join_sound, order_sound, pad_sound}
use Rattle.occ_law_sound.proofs.EqualPlaces.{expr_sound, io_sound}
use Rattle.occ_law_sound.proofs.GoingOn as going_on
use Rattle.occ_law_sound.proofs.InTurn.{flat_sound, none_sound, one_sound, skip_sound, stop_sound}
use Rattle.occ_law.proofs.from_meaning.Facts.{either}
use Rattle.occ_law.specs.occ_syntax.Same.{SAME}
use Rattle.occ_law.specs.occ_syntax.Scopes.{Environment, environment}
use Rattle.occ_law.specs.occ_syntax.Tree.{Tree}
use Rattle.occ_law.specs.occ_syntax.Types.{types_kept}
use Rattle.occ_law.specs.occ_syntax.declared.scope.Kind.{Kind}
use Rattle.std.proofs.Common.{List, true, ℕ, ◌==◌, ◌≡◌}

pub sequence_sound : (n : ℕ) (S : List (Name × Kind)) (ks : List ℕ) (l r : Tree) → types_kept l (environment S) ≡ true → SequenceSides n S ks l r
    → SAME (environment S) l r
sequence_sound n S ks l r h =
    let Γ : Environment = environment S in
    either (n == 1) (none_sound Γ ks l r) (either (n == 2) (one_sound Γ ks l r) (either (n == 3) (flat_sound Γ ks l r)
    (either (n == 4) (skip_sound Γ ks l r) (either (n == 5) (stop_sound Γ ks l r) (either (n == 6) (id_sound Γ ks l r)
    (either (n == 7) (order_sound Γ ks l r h) (either (n == 8) (pad_sound Γ ks l r h) (either (n == 9) (join_sound Γ ks l r h)
    (either (n == 10) (behind_assignment.if_sound Γ ks l r h) (either (n == 11) (behind_assignment.alt_sound Γ ks l r h) (either (n == 12) (going_on.if_sound Γ ks l r)
    (either (n == 13) (going_on.alt_sound Γ ks l r) (either (n == 14) (expr_sound S ks l r) (either (n == 15) (io_sound Γ ks l r) (λ k. absurd k)))))))))))))))
