-- Which lines pass a limit of the language.
use Rattle.std.specs.Prelude.{ℕ, ◌+◌, ◌*◌, Bool, true, false, nat_lt, if◌then◌else◌, [], ◌∷◌, Option, Some, None, length}
use Rattle.std.specs.List.{list_any}
use Rattle.occ_meaning.specs.occ_base.Width.{bits_of}
use Rattle.occ_parse_forms.specs.declared.form.Declared.{Declared}
use Rattle.occ_parse_forms.specs.declared.form.Declared.TheVariants as declared
use Rattle.occ_parse_forms.specs.Shape.{Shape, group, declare}
use Rattle.occ_parse_rules.specs.declared.sort.Sort.{Sort}
use Rattle.occ_parse_rules.specs.declared.sort.Sort.TheVariants as sort
use Rattle.occ_parse_rules.specs.Forest.{Forest, no_line, and_line}
use Rattle.occ_parse_rules.specs.Places.{Sorts, places, declared_in, entries_of}

-- ---- how often

-- a count of a replicator or an array is at most 64
abbrev pub is_long : Declared → Bool
is_long (declared.Plain x) = false
is_long (declared.Element x k) = false
is_long (declared.Array x n) = nat_lt 64 n

abbrev pub passes_count : Shape → Bool
passes_count (group g (Some times)) = nat_lt 64 times.count
passes_count (declare kind ds) = list_any is_long ds
passes_count other = false

abbrev pub count_fault : Sorts → Shape → Option (Unit {0})
count_fault Γ s = if passes_count s then Some tt else None

-- ---- bits in scope

abbrev pub bits_of_sort : Sort → ℕ
bits_of_sort (sort.Variable width) = bits_of width
bits_of_sort (sort.Channel width mark) = 0
bits_of_sort (sort.Counter b n) = 0

abbrev pub bits_in_scope : Sorts → ℕ
bits_in_scope [] = 0
bits_in_scope (entry ∷ Γ) = length (places entry.declared) * bits_of_sort entry.sort + bits_in_scope Γ

-- a declaration behind which more than 24 bits of variables are in scope
abbrev pub passes_bits : Sorts → Shape → Bool
passes_bits Γ (declare kind ds) = nat_lt 24 (bits_in_scope (declared_in Γ (entries_of kind ds)))
passes_bits Γ other = false

abbrev pub bits_fault : Sorts → Shape → Option (Unit {0})
bits_fault Γ s = if passes_bits Γ s then Some tt else None

-- the lines that some copy has: below a replicator whose count is 0 there is none
abbrev pub has_copies : Shape → Bool
has_copies (group g (Some times)) = nat_lt 0 times.count
has_copies other = true

abbrev pub copied_lines : Forest → Forest
copied_lines no_line = no_line
copied_lines (and_line number s below rest) = and_line number s (if has_copies s then copied_lines below else no_line) (copied_lines rest)
