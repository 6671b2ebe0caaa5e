-- What a process becomes where its parts are arranged.
use Rattle.std.specs.Prelude.{ℕ, ◌≡◌, ◌≤◌, true}
use Rattle.occ_meaning.proofs.Beside.{Gives}
use Rattle.occ_meaning.specs.Parallel.{all_of}
use Rattle.occ_syntax.specs.Counts.{most_bits}
use Rattle.occ_syntax.specs.Meaning.{meaning}
use Rattle.occ_syntax.specs.Scopes.{Environment}
use Rattle.occ_syntax.specs.Tree.{Tree, Trees, seq}
use Rattle.occ_syntax.specs.Types.{types_kept}

-- Where the first keeps types the second does too, and it does what the first does, from all values; and nowhere has it more
-- bits of variables in scope.
pub record IsArranged (p q : Tree) : Type 0 where
  pub types : (Γ : Environment) → types_kept p Γ ≡ true → types_kept q Γ ≡ true
  pub forth : (Γ : Environment) → types_kept p Γ ≡ true → Gives Γ (meaning p) (meaning q)
  pub back : (Γ : Environment) → types_kept p Γ ≡ true → Gives Γ (meaning q) (meaning p)
  pub bits : (n : ℕ) → most_bits q n ≤ most_bits p n

-- behind some parts of a SEQ stand others that do, in turn, what those do
pub record GoesOn (before ps after : Trees) : Type 0 where
  pub others : Trees
  pub whole : after ≡ all_of before others
  pub alike : IsArranged (seq ps) (seq others)
