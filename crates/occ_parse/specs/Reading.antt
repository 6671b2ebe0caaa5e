-- What a text reads as: its first fault, or a program.
use Rattle.std.specs.Prelude.{ℕ, ◌≡◌, true, false, List, [], ◌∷◌, Option, Some, None, is_some}
use Rattle.occ_syntax.specs.occ_base.declared.names.Name.{Name}
use Rattle.occ_syntax.specs.declared.scope.Kind.{Kind}
use Rattle.occ_syntax.specs.Tree.{Tree}
use Rattle.occ_parse_rules.specs.occ_lex.Rows.{reading_of}
use Rattle.occ_parse_rules.specs.occ_lex.declared.symbol.Row.{Row}
use Rattle.occ_parse_rules.specs.occ_lex.Symbols.{rows_of, with_names_of_all}
use Rattle.occ_parse_rules.specs.occ_parse_forms.Lines.{IsForm}
use Rattle.occ_parse_rules.specs.Forest.{Forest, Laid, lines_at}
use Rattle.occ_parse_rules.specs.Unrolled.{params_named, slot_process, lined}
use Rattle.occ_parse_rules.specs.Programs.{param_scope}
use Rattle.occ_parse_layout.specs.Layout.{least_bad}
use Rattle.occ_parse_unroll.specs.Elements.{with_elements}
use Rattle.occ_parse_unroll.specs.Numbers.{number_in}
use Rattle.occ_parse.specs.declared.bound.Bound.{Bound}
use Rattle.occ_parse.specs.declared.fault.ParseFault.{ParseFault}
use Rattle.occ_parse.specs.declared.fault.ParseFault.TheVariants as fault
use Rattle.occ_parse.specs.declared.fault.Which.TheVariants as which
use Rattle.occ_parse.specs.Limits.{is_too_long, frame_of, stopped}
use Rattle.occ_parse.specs.Drafts.{header_name, header_params, header_below, draft_fault}

-- a row says that
pub record IsSaid (row : Row) (line : Laid) : Type 0 where
  pub number : row.number ≡ line.number
  pub level : row.level ≡ line.level
  pub form : IsForm row.symbols line.shape

-- each row says what the line in its place says
abbrev pub AreForms : List Row → List Laid → Type 0
AreForms [] [] = Unit {0}
AreForms [] (line ∷ lines) = ⊥
AreForms (row ∷ rows) [] = ⊥
AreForms (row ∷ rows) (line ∷ lines) = IsSaid row line × AreForms rows lines

-- the rows of a text, up to its first faulty line, with these names in the table
abbrev pub rows_in : List ℕ → List (List ℕ) → List Row
rows_in text old = rows_of text old (reading_of text).0

-- the table with all names of the text
abbrev pub names_in : List ℕ → List (List ℕ) → List (List ℕ)
names_in text old = with_names_of_all text old (reading_of text).0

-- The lines that are judged, as what they say, and the fault of the line behind them, where there is one.
pub record AreJudged (b : Bound) (text : List ℕ) (old : List (List ℕ)) (laid : List Laid) (stop : Option ParseFault) : Type 0 where
  pub short : is_too_long b text ≡ false
  pub forms : AreForms (stopped b (rows_in text old) (reading_of text).1).0 laid
  pub stop_is : (stopped b (rows_in text old) (reading_of text).1).1 ≡ stop

-- the text is well laid out as these lines
pub record IsLaidOut (b : Bound) (text : List ℕ) (old : List (List ℕ)) (f : Forest) : Type 0 where
  pub judged : AreJudged b text old (lines_at 0 f) None
  pub good : least_bad (frame_of b) false (lines_at 0 f) ≡ None

-- The first fault of a text that is read with these names in the table.
pub data IsRefused (b : Bound) (text : List ℕ) (old : List (List ℕ)) : ParseFault → Type 0 where
  too_long : is_too_long b text ≡ true → IsRefused b text old (fault.Limit which.Bytes 1)
  badly_laid : (laid : List Laid) (stop : Option ParseFault) (n : ℕ) → AreJudged b text old laid stop → least_bad (frame_of b) (is_some stop) laid ≡ Some n
      → IsRefused b text old (fault.Form n)
  at_line : (laid : List Laid) (f : ParseFault) → AreJudged b text old laid (Some f) → least_bad (frame_of b) true laid ≡ None → IsRefused b text old f
  in_draft : (draft : Forest) (f : ParseFault) → IsLaidOut b text old draft → draft_fault b draft ≡ Some f → IsRefused b text old f

-- The text reads as the program with this name, these parameters and this body, whose processes stand on these lines; the
-- table of names grew from old to new: it has the names of the text, and then the elements of arrays that the program speaks of.
pub record IsRead (b : Bound) (text : List ℕ) (old new : List (List ℕ)) (name : Name) (params : List (Name × Kind)) (body : Tree) (numbers : List ℕ) : Type 0 where
  pub draft : Forest
  pub laid_out : IsLaidOut b text old draft
  pub in_order : draft_fault b draft ≡ None
  pub table : new ≡ with_elements (names_in text old) (header_params draft) (header_below draft)
  pub name_is : name ≡ header_name draft
  pub params_are : params ≡ params_named (number_in new) (header_params draft)
  pub body_is : body ≡ slot_process (number_in new) (param_scope (header_params draft)) (header_below draft)
  pub numbers_are : numbers ≡ (lined (header_below draft)).parts

-- two readings of one text
pub record SameReading (first second : List (List ℕ)) (n m : Name) (ps qs : List (Name × Kind)) (a b : Tree) (ks ls : List ℕ) : Type 0 where
  pub table : first ≡ second
  pub name : n ≡ m
  pub params : ps ≡ qs
  pub body : a ≡ b
  pub numbers : ks ≡ ls
