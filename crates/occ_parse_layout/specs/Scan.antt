-- What the scan of lines keeps of the lines that it has passed.
use Rattle.std.specs.Prelude.{ℕ, ◌<◌, ◌≡◌, Bool, true, false, if◌then◌else◌, List, [], ◌∷◌, reverse, length, Option, Some, None, IfSome, slice_index_or}
use Rattle.std.specs.List.{list_any}
use Rattle.occ_parse_rules.specs.Forest.{Laid}
use Rattle.occ_parse_layout.specs.declared.placed.Placed.{Placed}
use Rattle.occ_parse_layout.specs.declared.kind.Kind.{Kind}
use Rattle.occ_parse_layout.specs.declared.kind.Room.TheVariants as room
use Rattle.occ_parse_layout.specs.declared.passed.Open.{Open}
use Rattle.occ_parse_layout.specs.declared.passed.Passed.{Passed}
use Rattle.occ_parse_layout.specs.Layout.{laid_rows, is_declaration, room_at, is_free, closes, has_process}

-- lines that have been passed, the nearest first
abbrev pub nearest_first : List Placed → List Laid
nearest_first rows = reverse (laid_rows rows)

-- a level at which nothing stands
abbrev pub shut : Open
shut = record { room = room.Nothing; free = true }

abbrev pub has_lines : List Laid → Bool
has_lines [] = false
has_lines (q ∷ before) = true

-- For each level at which a line may follow, the scan has what stands there behind the lines.
pub record Describes (before : List Laid) (passed : Passed) : Type 0 where
  pub room : (n : ℕ) → (slice_index_or passed.open.items n shut).room ≡ room_at passed.frame before n
  pub free : (n : ℕ) → n < length passed.open.items → (slice_index_or passed.open.items n shut).free ≡ is_free before n
  pub outermost : 0 < length passed.open.items
  pub begun : passed.begun ≡ has_lines before
  pub closed : passed.closed ≡ list_any closes before

-- the level of a line that is a declaration
abbrev pub declared_level : Kind → ℕ → Option ℕ
declared_level k level = if is_declaration k then Some level else None

-- a declaration at that level has its process among the lines that follow
abbrev pub IsRunServed : (more : Bool) → Option ℕ → (after : List Laid) → Type 0
IsRunServed more declared after = IfSome declared (λ level. has_process more level after ≡ true)
