-- What good lines are together.
use Rattle.std.specs.Prelude.{ℕ, ◌≡◌, Bool, true, not, ◌&&◌, List}
use Rattle.occ_parse_rules.specs.occ_base.declared.names.Name.{Name}
use Rattle.occ_parse_rules.specs.occ_parse_forms.declared.form.Param.{Param}
use Rattle.occ_parse_rules.specs.occ_parse_forms.Shape.{Shape, header, close}
use Rattle.occ_parse_rules.specs.Forest.{Forest, no_line, and_line}
use Rattle.occ_parse_layout.specs.declared.placed.Frame.{Frame}
use Rattle.occ_parse_layout.specs.declared.placed.Frame.TheVariants as frame
use Rattle.occ_parse_layout.specs.Layout.{kind_of, is_header, is_close, is_replicated}

-- the level of the outermost lines
abbrev pub outermost_level : Frame → ℕ
outermost_level frame.Program = 0
outermost_level frame.Plain = 0
outermost_level frame.Part = 1

abbrev pub every_line : (Shape → Bool) → Forest → Bool
every_line p no_line = true
every_line p (and_line number s below rest) = p s && (every_line p below && every_line p rest)

-- neither a header nor a closing line
abbrev pub is_inner : Shape → Bool
is_inner s = not (is_header (kind_of s)) && not (is_close (kind_of s))

-- not one of the four words with a replicator
abbrev pub is_single : Shape → Bool
is_single s = not (is_replicated (kind_of s))

-- a header with lines below it, and then a closing line; there is no other header, and no other closing line
pub record IsProgram (f : Forest) : Type 0 where
  pub number : ℕ
  pub name : Name
  pub params : List Param
  pub below : Forest
  pub last : ℕ
  pub whole : f ≡ and_line number (header name params) below (and_line last close no_line no_line)
  pub inner : every_line is_inner below ≡ true
