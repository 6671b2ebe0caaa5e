-- When a new name can't stand for an old one, and what it makes where it can.
use Rattle.std.specs.Prelude.{◌≡◌, ℕ, ◌==◌, Bool, true, false, ◌||◌, Result, Ok, Err}
use Rattle.occ_syntax.specs.declared.proc.Proc.{Proc}
use Rattle.occ_syntax.specs.Names.{is_in}
use Rattle.occ_syntax.specs.Tree.{Tree}
use Rattle.occ_syntax.specs.View.{tree}
use Rattle.occ_meaning.specs.Rename.{renamed, replacing, stands}
use Rattle.occ_names.specs.declared.renaming.RenameFault.{RenameFault}
use Rattle.occ_names.specs.declared.renaming.RenameFault.TheVariants.{Capture, Memory}
use Rattle.occ_names.specs.declared.mention.Mention.{Mention}
use Rattle.occ_names.specs.declared.mention.Mention.TheVariants.{Read, Write, End, Declare}
use Rattle.occ_names.specs.Mentions.{declared_names}

-- The new name stands anywhere in the part, free or declared, or the part declares the old one.
abbrev pub captures : Tree → ℕ → ℕ → Bool
captures p old new = stands p new || is_in (declared_names p) old

-- What a renaming answers. A part that doesn't declare the old name has it free wherever it stands.
abbrev pub IsRenaming : Tree → ℕ → ℕ → Result Proc RenameFault → Type 0
IsRenaming p old new (Ok part) = (captures p old new ≡ false) × (tree part ≡ renamed p (replacing old new))
IsRenaming p old new (Err Capture) = captures p old new ≡ true
IsRenaming p old new (Err Memory) = Unit {0}

-- whether a use of the new name, or a declaration of either
abbrev pub is_captured : ℕ → ℕ → Mention → Bool
is_captured old new (Read y) = y.0 == new
is_captured old new (Write y) = y.0 == new
is_captured old new (End y d) = y.0 == new
is_captured old new (Declare y) = y.0 == new || y.0 == old
