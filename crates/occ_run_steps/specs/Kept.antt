-- What a control tree of a program that keeps the rules keeps: names, types and directions, and the usage rule of
-- controls that stand at once.
use Rattle.std.specs.Prelude.{ℕ, ◌≡◌, ◌==◌, ◌^◌, Bool, true, false, not, ◌&&◌, ◌||◌, nat_lt, None}
use Rattle.occ_meaning.specs.occ_base.declared.event.Dir.{Dir}
use Rattle.occ_meaning.specs.occ_base.Width.{bits_of}
use Rattle.occ_meaning.specs.occ_syntax.declared.scope.Kind.TheVariants.{Var, Chan}
use Rattle.occ_meaning.specs.occ_syntax.Scopes.{Environment, with_name}
use Rattle.occ_meaning.specs.occ_syntax.Types.{types_kept, all_types_kept, can_declare}
use Rattle.occ_meaning.specs.occ_syntax.Names.{free, free_in_some, written, written_in_some, uses_end, end_in_some}
use Rattle.occ_meaning.specs.occ_syntax.Usage.{KeepsUsage, AllKeepUsage}
use Rattle.occ_run_steps.specs.Control.{Control, done, unbegun, after, both, local, channel, Controls, no_control, and_control}

-- whether a name stands free in what is left
abbrev mutual
  pub names_free : Control → ℕ → Bool
  names_free done x = false
  names_free (unbegun p) x = free p x
  names_free (after C ps) x = names_free C x || free_in_some ps x
  names_free (both Cs) x = some_name_free Cs x
  names_free (local y w v C) x = not (x == y) && names_free C x
  names_free (channel c w C) x = not (x == c) && names_free C x

  pub some_name_free : Controls → ℕ → Bool
  some_name_free no_control x = false
  some_name_free (and_control C Cs) x = names_free C x || some_name_free Cs x

-- whether a free variable is assigned or input in what is left
abbrev mutual
  pub writes : Control → ℕ → Bool
  writes done x = false
  writes (unbegun p) x = written p x
  writes (after C ps) x = writes C x || written_in_some ps x
  writes (both Cs) x = some_write Cs x
  writes (local y w v C) x = not (x == y) && writes C x
  writes (channel c w C) x = not (x == c) && writes C x

  pub some_write : Controls → ℕ → Bool
  some_write no_control x = false
  some_write (and_control C Cs) x = writes C x || some_write Cs x

-- whether a free channel is used in that direction in what is left
abbrev mutual
  pub uses : Control → ℕ → Dir → Bool
  uses done c d = false
  uses (unbegun p) c d = uses_end p c d
  uses (after C ps) c d = uses C c d || end_in_some ps c d
  uses (both Cs) c d = some_use Cs c d
  uses (local y w v C) c d = not (c == y) && uses C c d
  uses (channel b w C) c d = not (c == b) && uses C c d

  pub some_use : Controls → ℕ → Dir → Bool
  some_use no_control c d = false
  some_use (and_control C Cs) c d = uses C c d || some_use Cs c d

-- Names, types and directions are kept in what is left, and the present value of a local variable has its width.
abbrev mutual
  pub types_held : Control → Environment → Bool
  types_held done Γ = true
  types_held (unbegun p) Γ = types_kept p Γ
  types_held (after C ps) Γ = types_held C Γ && all_types_kept ps Γ
  types_held (both Cs) Γ = all_types_held Cs Γ
  types_held (local x w v C) Γ = (can_declare Γ x w && nat_lt v (2 ^ bits_of w)) && types_held C (with_name Γ x (Var w))
  types_held (channel c w C) Γ = can_declare Γ c w && types_held C (with_name Γ c (Chan w None))

  pub all_types_held : Controls → Environment → Bool
  all_types_held no_control Γ = true
  all_types_held (and_control C Cs) Γ = types_held C Γ && all_types_held Cs Γ

-- Neither of two controls names a variable that the other may still write, and no end of a channel is used in both.
pub record IsApart (C D : Control) : Type 0 where
  pub first_writes : (x : ℕ) → writes C x ≡ true → names_free D x ≡ false
  pub second_writes : (x : ℕ) → writes D x ≡ true → names_free C x ≡ false
  pub ends : (c : ℕ) (d : Dir) → uses C c d ≡ true → uses D c d ≡ false

-- Controls at once are apart, each from each other.
abbrev mutual
  pub HoldsUsage : Control → Type 0
  HoldsUsage done = Unit {0}
  HoldsUsage (unbegun p) = KeepsUsage p
  HoldsUsage (after C ps) = HoldsUsage C × AllKeepUsage ps
  HoldsUsage (both Cs) = AllHoldUsage Cs × AreApart Cs
  HoldsUsage (local x w v C) = HoldsUsage C
  HoldsUsage (channel c w C) = HoldsUsage C

  pub AllHoldUsage : Controls → Type 0
  AllHoldUsage no_control = Unit {0}
  AllHoldUsage (and_control C Cs) = HoldsUsage C × AllHoldUsage Cs

  pub AreApart : Controls → Type 0
  AreApart no_control = Unit {0}
  AreApart (and_control C Cs) = IsApart C (both Cs) × AreApart Cs

-- A control tree keeps names, types, directions and usage in its scope.
pub record Kept (Γ : Environment) (C : Control) : Type 0 where
  pub types : types_held C Γ ≡ true
  pub usage : HoldsUsage C
