-- The section of a written program, and the program that is read there.
use Rattle.std.specs.Prelude.{ℕ, ◌≡◌, List}
use Rattle.occ_script.specs.declared.content.Content.{Content}
use Rattle.occ_script.specs.declared.fault.ScriptFault.{ScriptFault}
use Rattle.occ_script.specs.Contents.{bound_of}
use Rattle.occ_script.specs.Lines.{named_in}
use Rattle.occ_script.specs.Refusals.{IsBadProgram, IsBadText}
use Rattle.occ_script.specs.Scripts.{IsInOrder, IsProgram}
use Rattle.occ_script_write.specs.occ_script_lines.Sections.{Section, framed}
use Rattle.occ_script_write.specs.Text.{text_of_program}
use Rattle.occ_script_write.specs.occ_syntax.declared.scope.Program.{Program}
use Rattle.occ_script_write.specs.occ_syntax.View.{tree}

-- a program behind a keyword line of this number, with this text up to the end of that line
abbrev pub program_section : List (List ℕ) → ℕ → List ℕ → List ℕ → Program → Section
program_section names n row front program = record { number = n; row = row; front = front; body = text_of_program names program }

-- a program that is read is the one that was written
pub record IsProgramOf (written read : Program) : Type 0 where
  pub name : read.name ≡ written.name
  pub params : read.params ≡ written.params
  pub body : tree read.body ≡ tree written.body

-- and leaves the table of names as it is
pub record IsThatProgram (names new : List (List ℕ)) (written read : Program) : Type 0 where
  pub program : IsProgramOf written read
  pub table : new ≡ names

-- The lines of a section are in order as those of a program, aren't refused, and leave the table of names as it is. The text that the
-- program is read from reads as the one that was written, isn't refused, and whatever it is read as is that one.
pub record ProgramReadsBack (k : Content) (names : List (List ℕ)) (s : Section) (program : Program) : Type 0 where
  pub in_order : IsInOrder k names s (framed s)
  pub kept : (next : ℕ) (e : ScriptFault) → IsBadProgram k names s next e → ⊥
  pub table : named_in s names ≡ names
  pub numbers : List ℕ
  pub reads : IsProgram (bound_of k) (framed s) names names program numbers
  pub text_kept : (e : ScriptFault) → IsBadText (bound_of k) (framed s) names e → ⊥
  pub read : (new : List (List ℕ)) (other : Program) (ns : List ℕ) → IsProgram (bound_of k) (framed s) names new other ns
      → IsThatProgram names new program other
