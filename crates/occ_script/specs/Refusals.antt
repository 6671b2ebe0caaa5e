-- The first fault of a text that is no script. The first section whose lines are out of order decides. Faults of names, types,
-- directions and limits of programs come after those, first of the program behind FROM and then of that behind TO.
use Rattle.std.specs.Prelude.{ℕ, ◌≡◌, true, false, List, [], ◌∷◌, Option, Some, None, codes}
use Rattle.occ_parse_part.specs.occ_parse.declared.bound.Bound.{Bound}
use Rattle.occ_parse_part.specs.occ_parse.declared.bound.Bound.TheVariants as bound
use Rattle.occ_parse_part.specs.occ_parse.declared.fault.ParseFault.{ParseFault}
use Rattle.occ_parse_part.specs.occ_parse.declared.fault.ParseFault.TheVariants as parse
use Rattle.occ_parse_part.specs.occ_parse.declared.fault.Which.TheVariants as which
use Rattle.occ_parse_part.specs.occ_parse.Reading.{IsRefused}
use Rattle.occ_parse_part.specs.occ_parse_rules.Forest.{Laid}
use Rattle.occ_syntax.specs.declared.scope.Program.{Program}
use Rattle.occ_script.specs.declared.content.Content.{Content}
use Rattle.occ_script.specs.declared.content.Content.TheVariants as content
use Rattle.occ_script.specs.declared.fault.ScriptFault.{ScriptFault}
use Rattle.occ_script.specs.declared.fault.ScriptFault.TheVariants as fault
use Rattle.occ_script.specs.declared.script.Step.{Step}
use Rattle.occ_script.specs.Faults.{text_fault}
use Rattle.occ_script.specs.Lines.{AreJudged, IsIll, lacks_part, named_in}
use Rattle.occ_script.specs.Scripts.{IsFormed, IsHead, IsInOrder, IsProgram, first_line, is_too_long, old_line}
use Rattle.occ_script.specs.Steps.{HasPart, IsStep}
use Rattle.occ_script_lines.specs.declared.section.Format.{Format}
use Rattle.occ_script_lines.specs.declared.section.Format.TheVariants as format
use Rattle.occ_script_lines.specs.Lines.{Head, head_of, is_line}
use Rattle.occ_script_lines.specs.Sections.{Section, is_blank_in, last_line_of, sections_of}

-- the number of the next keyword line, or else of the text's last line
abbrev pub next_line : List Section → ℕ → ℕ
next_line [] last = last
next_line (s ∷ ss) last = s.number

-- The first line names another format or version, or a line stands behind it.
pub data IsBadHead (f : Format) (old : List (List ℕ)) (s : Section) : ScriptFault → Type 0 where
  earlier : is_line (old_line f) s.row ≡ true → IsBadHead f old s (fault.Version 1)
  another : is_line (old_line f) s.row ≡ false → is_line (first_line f) s.row ≡ false → IsBadHead f old s (fault.Form 1)
  further : (line : Laid) (lines : List Laid) (stop : Option ParseFault) → is_line (old_line f) s.row ≡ false → is_line (first_line f) s.row ≡ true
      → AreJudged content.Part old s (line ∷ lines) stop → IsBadHead f old s (fault.Form line.number)
  unread : (e : ParseFault) → is_line (old_line f) s.row ≡ false → is_line (first_line f) s.row ≡ true
      → AreJudged content.Part old s [] (Some e) → IsBadHead f old s (text_fault e)

-- The lines of a program are out of order. Where there is none, that is found on the next keyword line, or on the last line of the
-- text.
pub data IsBadProgram (k : Content) (old : List (List ℕ)) (s : Section) (next : ℕ) : ScriptFault → Type 0 where
  no_lines : is_blank_in s ≡ true → IsBadProgram k old s next (fault.Form next)
  bad_lines : (e : ParseFault) → is_blank_in s ≡ false → IsIll k old s e → IsBadProgram k old s next (text_fault e)

-- The lines of a step are no part, or their first fault.
pub data IsBadPart (old : List (List ℕ)) (s : Section) : ScriptFault → Type 0 where
  no_part : (laid : List Laid) (stop : Option ParseFault) → AreJudged content.Part old s laid stop → lacks_part laid stop ≡ true → IsBadPart old s (fault.Form s.number)
  bad_part : (e : ParseFault) → HasPart old s → IsIll content.Part old s e → IsBadPart old s (text_fault e)

-- A section is no step: its line says none, or its part is bad.
pub data IsBadStep (old : List (List ℕ)) (s : Section) : ScriptFault → Type 0 where
  no_step_line : head_of (codes "STEP") s.row ≡ None → IsBadStep old s (fault.Form s.number)
  in_part : (h : Head) (e : ScriptFault) → head_of (codes "STEP") s.row ≡ Some h → IsBadPart old s e → IsBadStep old s e

-- A section in front of others isn't the last one, with the program behind TO.
pub data IsBadTarget (last : ℕ) (old : List (List ℕ)) (s : Section) : List Section → ScriptFault → Type 0 where
  in_lines : (others : List Section) (e : ScriptFault) → IsBadProgram content.Last old s (next_line others last) e → IsBadTarget last old s others e
  no_end : (text : List ℕ) (more : Section) (others : List Section) → IsInOrder content.Last old s text → IsBadTarget last old s (more ∷ others) (fault.Form more.number)

-- The first of sections that is out of order, which are to be steps and then the program behind TO.
pub data IsBadEnd (last : ℕ) : List (List ℕ) → List Section → ScriptFault → Type 0 where
  no_target : (old : List (List ℕ)) → IsBadEnd last old [] (fault.Form last)
  in_step : (old : List (List ℕ)) (s : Section) (others : List Section) (e : ScriptFault) → is_line (codes "TO") s.row ≡ false → IsBadStep old s e → IsBadEnd last old (s ∷ others) e
  behind_step : (old t : List (List ℕ)) (s : Section) (others : List Section) (step : Step) (e : ScriptFault) → is_line (codes "TO") s.row ≡ false → IsStep old t s step
      → IsBadEnd last t others e → IsBadEnd last old (s ∷ others) e
  in_target : (old : List (List ℕ)) (s : Section) (others : List Section) (e : ScriptFault) → is_line (codes "TO") s.row ≡ true → IsBadTarget last old s others e → IsBadEnd last old (s ∷ others) e

-- The first of the sections behind the first line that is out of order.
pub data IsNoDerivation (last : ℕ) (old : List (List ℕ)) : List Section → ScriptFault → Type 0 where
  no_source : IsNoDerivation last old [] (fault.Form last)
  another_word : (s : Section) (others : List Section) → is_line (codes "FROM") s.row ≡ false → IsNoDerivation last old (s ∷ others) (fault.Form s.number)
  in_source : (s : Section) (others : List Section) (e : ScriptFault) → is_line (codes "FROM") s.row ≡ true → IsBadProgram content.First old s (next_line others last) e
      → IsNoDerivation last old (s ∷ others) e
  behind_source : (text : List ℕ) (s : Section) (others : List Section) (e : ScriptFault) → is_line (codes "FROM") s.row ≡ true → IsInOrder content.First old s text
      → IsBadEnd last (named_in s old) others e → IsNoDerivation last old (s ∷ others) e

-- Lines of a text are out of order as those of a script, and this is the first fault.
pub data IsUnformed (text : List ℕ) (old : List (List ℕ)) : ScriptFault → Type 0 where
  no_line : sections_of format.Script text ≡ [] → IsUnformed text old (fault.Form 1)
  bad_head : (head : Section) (rest : List Section) (e : ScriptFault) → sections_of format.Script text ≡ head ∷ rest → IsBadHead format.Script old head e → IsUnformed text old e
  behind_head : (head : Section) (rest : List Section) (e : ScriptFault) → sections_of format.Script text ≡ head ∷ rest → IsHead format.Script old head
      → IsNoDerivation (last_line_of text) (named_in head old) rest e → IsUnformed text old e

-- The first fault of a text as a program: one of the whole script.
pub record IsBadText (b : Bound) (text : List ℕ) (old : List (List ℕ)) (e : ScriptFault) : Type 0 where
  pub fault : ParseFault
  pub refused : IsRefused b text old fault
  pub is : e ≡ text_fault fault

-- The first fault of a text as a script.
pub data IsScriptFault (text : List ℕ) (old : List (List ℕ)) : ScriptFault → Type 0 where
  too_long : is_too_long text ≡ true → IsScriptFault text old (fault.Text (parse.Limit which.Bytes 1))
  unformed : (e : ScriptFault) → is_too_long text ≡ false → IsUnformed text old e → IsScriptFault text old e
  in_from : (t : List (List ℕ)) (from to : List ℕ) (steps : List Step) (e : ScriptFault) → is_too_long text ≡ false → IsFormed text old t from steps to
      → IsBadText bound.First from t e → IsScriptFault text old e
  in_to : (t between : List (List ℕ)) (from to : List ℕ) (steps : List Step) (program : Program) (numbers : List ℕ) (e : ScriptFault)
      → is_too_long text ≡ false → IsFormed text old t from steps to → IsProgram bound.First from t between program numbers
      → IsBadText bound.Script to between e → IsScriptFault text old e
