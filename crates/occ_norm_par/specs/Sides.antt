-- Which part of a PAR closes which channel, and which bits a part writes.
use Rattle.std.specs.Prelude.{ℕ, zero, suc, ◌≡◌, ◌<◌, ◌≤◌, ◌+◌, ◌&&◌, ◌||◌, nat_le, nat_lt, not, Bool, true, false, List, [], ◌∷◌, map, length, get_or, Some, bit_or, if◌then◌else◌}
use Rattle.std.specs.Int.{bit_at}
use Rattle.std.specs.List.{All}
use Rattle.occ_syntax.specs.occ_base.declared.event.Dir.TheVariants.{Input, Output}
use Rattle.occ_syntax.specs.occ_base.declared.names.Name.{Name}
use Rattle.occ_syntax.specs.occ_base.declared.width.Width.{Width}
use Rattle.occ_syntax.specs.occ_base.Width.{bits_of}
use Rattle.occ_norm_frame.specs.occ_bits.Layout.{entry_of}
use Rattle.occ_syntax.specs.Names.{is_in, uses_end, written}
use Rattle.occ_syntax.specs.Tree.{Tree, Trees, no_tree, and_tree}
use Rattle.occ_syntax.specs.View.{numbers, tree}
use Rattle.occ_syntax.specs.declared.proc.Proc.{Proc, Skip}
use Rattle.occ_norm_par.specs.declared.users.Users.{Users}

-- the channels that only parts from place `low` on and in front of place `high` use
abbrev pub closed_in : ℕ → ℕ → List Users → List Name
closed_in low high [] = []
closed_in low high (u ∷ us) = if nat_le low u.first && nat_lt u.last high then u.chan ∷ closed_in low high us else closed_in low high us

-- those of them that parts on both sides of place `mid` use
abbrev pub crossing : ℕ → ℕ → ℕ → List Users → List Name
crossing low mid high [] = []
crossing low mid high (u ∷ us) = if (nat_le low u.first && nat_lt u.last high) && (not (nat_le mid u.first) && not (nat_lt u.last mid)) then u.chan ∷ crossing low mid high us else crossing low mid high us

-- whether a part uses the channel, in either direction
abbrev pub uses : Tree → ℕ → Bool
uses p c = uses_end p c Input || uses_end p c Output

-- whether the part in that place does
abbrev pub uses_at : Trees → ℕ → ℕ → Bool
uses_at no_tree i c = false
uses_at (and_tree p ps) zero c = uses p c
uses_at (and_tree p ps) (suc i) c = uses_at ps i c

-- the first and the last part that uses the channel are those
pub record IsUser (ps : Trees) (u : Users) : Type 0 where
  pub first_uses : uses_at ps u.first u.chan.0 ≡ true
  pub last_uses : uses_at ps u.last u.chan.0 ≡ true
  pub none_before : (i : ℕ) → i < u.first → uses_at ps i u.chan.0 ≡ false
  pub none_behind : (i : ℕ) → u.last < i → uses_at ps i u.chan.0 ≡ false

-- the channels of some users
abbrev pub chans_of : List Users → List ℕ
chans_of us = map (λ u. u.chan.0) us

-- the users tell, of each of the closed channels that some part uses and of no other channel, the first and the last part that does
pub record AreUsers (ps : Trees) (closed : List Name) (users : List Users) : Type 0 where
  pub each : All (IsUser ps) users
  pub among : (c : ℕ) → is_in (chans_of users) c ≡ true → is_in (numbers closed) c ≡ true
  pub others : (c : ℕ) → is_in (numbers closed) c ≡ true → is_in (chans_of users) c ≡ false → (i : ℕ) → uses_at ps i c ≡ false

-- of the bits of the layout's variables, those of the variables that the part writes
pub record AreWritten (layout : List (Name × Width × ℕ)) (p : Tree) (bits : ℕ) : Type 0 where
  pub at : (x : ℕ) (width : Width) (first : ℕ) → entry_of layout x ≡ Some (width, first) → (k : ℕ) → first ≤ k → k < first + bits_of width
      → bit_at bits k ≡ (if written p x then 1 else 0)

-- each number has the bits of the variables that the part in its place writes
pub record AllWritten (layout : List (Name × Width × ℕ)) (ps : List Proc) (writes : List ℕ) : Type 0 where
  pub count : length writes ≡ length ps
  pub each : (i : ℕ) → i < length ps → AreWritten layout (tree (get_or ps i Skip)) (get_or writes i 0)

-- the bits that so many parts write, from a place on
unfoldable pub bits_in : List ℕ → ℕ → ℕ → ℕ
bits_in writes place zero = 0
bits_in writes place (suc n) = bit_or (bits_in writes place n) (get_or writes (place + n) 0)
