-- Names that are noted in a list.
use Rattle.std.specs.Prelude.{ℕ, ◌≡◌, Bool, false, List}
use Rattle.occ_syntax.specs.Names.{is_in}

-- all that was among the names is among them yet, and so is each name for which f holds
pub record Notes (before : List ℕ) (f : ℕ → Bool) (after : List ℕ) : Type 0 where
  pub kept : (x : ℕ) → is_in after x ≡ false → is_in before x ≡ false
  pub noted : (x : ℕ) → is_in after x ≡ false → f x ≡ false
