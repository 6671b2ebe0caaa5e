-- The sections of a text that are left.
use Rattle.std.specs.Prelude.{◌≡◌, List, [], ◌∷◌, Option, Some, None, take, drop}
use Rattle.occ_lex.specs.Rows.{rows}
use Rattle.occ_script_lines.specs.declared.section.Section.{Section as Seen}
use Rattle.occ_script_lines.specs.declared.section.Sections.{Sections}
use Rattle.occ_script_lines.specs.Sections.{Section, section, sections_from}

-- those from the place on that is kept
abbrev pub left : Sections → List Section
left s = sections_from s.format s.number (take s.at s.text.now) (rows (drop s.at s.text.now))

-- the first of them is taken, where there is one
abbrev pub IsNext : List Section → List Section → Option Seen → Type 0
IsNext before after None = before ≡ []
IsNext before after (Some s) = before ≡ section s ∷ after
