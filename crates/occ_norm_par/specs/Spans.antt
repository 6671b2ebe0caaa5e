-- Where channels are used, while the parts are gone through, and which bits some names have.
use Rattle.std.specs.Prelude.{ℕ, ◌==◌, ◌≡◌, ◌<◌, ◌+◌, ◌&&◌, nat_le, nat_lt, Bool, true, false, List, [], ◌∷◌, ◌++◌, Option, Some, None, if◌then◌else◌}
use Rattle.std.specs.List.{list_any}
use Rattle.occ_syntax.specs.occ_base.declared.event.Dir.{Dir}
use Rattle.occ_syntax.specs.occ_base.declared.names.Name.{Name}
use Rattle.occ_syntax.specs.occ_base.declared.width.Width.{Width}
use Rattle.occ_syntax.specs.occ_base.Width.{bits_of}
use Rattle.occ_syntax.specs.Names.{is_in}
use Rattle.occ_syntax.specs.Tree.{Trees}
use Rattle.occ_norm_par.specs.Sides.{uses_at}
use Rattle.occ_norm_par.specs.declared.users.Users.{Users}

abbrev pub same_name : Name → Name → Bool
same_name a b = a.0 == b.0

-- the first place, where one is known already
abbrev pub first_of : Option (ℕ × ℕ) → ℕ → ℕ
first_of None place = place
first_of (Some places) place = places.0

-- the first and the last place once one more place is gone through
abbrev pub noted : Bool → Option (ℕ × ℕ) → ℕ → Option (ℕ × ℕ)
noted is_used before place = if is_used then Some (first_of before place, place) else before

-- whether an end is on the channel
abbrev pub has_end_on : List (Name × Dir) → Name → Bool
has_end_on ends c = list_any (λ e. e.0.0 == c.0) ends

-- of the parts before place n the first and the last that uses the channel
pub record HasSpan (ps : Trees) (n c first last : ℕ) : Type 0 where
  pub first_uses : uses_at ps first c ≡ true
  pub last_uses : uses_at ps last c ≡ true
  pub none_before : (i : ℕ) → i < first → uses_at ps i c ≡ false
  pub none_behind : (i : ℕ) → last < i → i < n → uses_at ps i c ≡ false

-- the same, or none of them does
abbrev pub IsSpan : Trees → ℕ → ℕ → Option (ℕ × ℕ) → Type 0
IsSpan ps n c None = (i : ℕ) → i < n → uses_at ps i c ≡ false
IsSpan ps n c (Some places) = HasSpan ps n c places.0 places.1

abbrev pub user_of : Name → Option (ℕ × ℕ) → List Users
user_of c None = []
user_of c (Some places) = record { chan = c; first = places.0; last = places.1 } ∷ []

-- the users of those of some channels that have any
abbrev pub listed : (Name → Option (ℕ × ℕ)) → List Name → List Users
listed places [] = []
listed places (c ∷ cs) = user_of c (places c) ++ listed places cs

-- whether the bit is one of the variable, and that has one of these names
abbrev pub is_of : List ℕ → ℕ → Name × Width × ℕ → Bool
is_of xs k e = is_in xs e.0.0 && (nat_le e.2 k && nat_lt k (e.2 + bits_of e.1))

-- whether the bit is one of a variable of these names
abbrev pub covers : List (Name × Width × ℕ) → List ℕ → ℕ → Bool
covers entries xs k = list_any (is_of xs k) entries
