-- The headers of programs.
use Rattle.std.specs.Prelude.{◌≡◌}
use Rattle.occ_syntax.specs.declared.scope.Program.{Program}

-- one name and the same parameters
abbrev pub HaveOneHeader : Program → Program → Type 0
HaveOneHeader left right = (left.name ≡ right.name) × (left.params ≡ right.params)
