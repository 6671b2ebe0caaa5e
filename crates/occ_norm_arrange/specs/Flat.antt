-- What a process becomes where its PARs are flat.
use Rattle.std.specs.Prelude.{ℕ, ◌≡◌, ◌≤◌, true}
use Rattle.occ_syntax.specs.Counts.{most_bits}
use Rattle.occ_syntax.specs.Meaning.{Outcome, meaning}
use Rattle.occ_syntax.specs.Scopes.{Environment, Trace, Values}
use Rattle.occ_syntax.specs.Tree.{Tree}
use Rattle.occ_syntax.specs.Types.{types_kept}

-- In each environment in which the first keeps types the second does too, and where both do, it does what the first does, from
-- all values; and nowhere has it more bits of variables in scope.
pub record IsFlat (p q : Tree) : Type 0 where
  pub types : (Γ : Environment) → types_kept p Γ ≡ true → types_kept q Γ ≡ true
  pub forth : (Γ : Environment) → types_kept p Γ ≡ true → types_kept q Γ ≡ true
      → (s : Values) (t : Trace) (o : Outcome) → (meaning p).does Γ s t o → (meaning q).does Γ s t o
  pub back : (Γ : Environment) → types_kept p Γ ≡ true → types_kept q Γ ≡ true
      → (s : Values) (t : Trace) (o : Outcome) → (meaning q).does Γ s t o → (meaning p).does Γ s t o
  pub bits : (n : ℕ) → most_bits q n ≤ most_bits p n
