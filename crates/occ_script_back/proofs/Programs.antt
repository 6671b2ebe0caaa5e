-- The section of a written program is read as that program.
use Rattle.std.proofs.Common.{◌≡◌, ℕ, ◌+◌, Bool, true, false, eqb, List, [], ◌∷◌, ◌++◌, length, map, Option, None, refl, ap, sym, ◌∙◌, subst, append_assoc}
use Rattle.std.specs.Prelude.{if◌then◌else◌}
use Rattle.std.specs.List.{list_all}
use Rattle.std.proofs.lemmas.Bool.{and_from, and_left}
use Rattle.occ_script_write.specs.occ_base.declared.names.Name.{Name}
use Rattle.occ_script_write.specs.occ_lex.Printed.{printed_line}
use Rattle.occ_script_write.specs.occ_lex.Rows.{is_space, rows}
use Rattle.occ_script_write.proofs.from_lex.RowLemmas.{code_go}
use Rattle.occ_script_write.specs.occ_lex.declared.symbol.Row.{Row}
use Rattle.occ_print_back.specs.occ_parse_layout.Layout.{least_bad}
use Rattle.occ_print_back.specs.occ_parse.declared.bound.Bound.{Bound}
use Rattle.occ_print_back.specs.occ_parse.declared.fault.ParseFault.{ParseFault}
use Rattle.occ_print_back.specs.occ_parse.Limits.{is_too_long, stopped}
use Rattle.occ_print_back.specs.occ_parse.Limits.{frame_of as frame_of_bound}
use Rattle.occ_print_back.specs.occ_parse.Reading.{AreForms, SameReading}
use Rattle.occ_print_back.proofs.from_parse.Once.{not_both, read_once}
use Rattle.occ_print_back.specs.occ_parse_rules.Forest.{Laid, lines_at}
use Rattle.occ_print_back.specs.occ_parse_rules.Places.{Place}
use Rattle.occ_print_back.specs.occ_parse_unroll.Numbers.{number_in}
use Rattle.occ_script_write.specs.occ_print.Lines.{TextLine, program_lines}
use Rattle.occ_script_write.specs.occ_print.Spelled.{printed}
use Rattle.occ_script_write.specs.occ_print.Symbols.{header_symbols}
use Rattle.occ_print_back.specs.Back.{printed_numbers}
use Rattle.occ_print_back.specs.Program.{IsPrintable, program_forest}
use Rattle.occ_print_back.specs.Read.{line_rows}
use Rattle.occ_print_back.proofs.Counted.{all_said}
use Rattle.occ_print_back.proofs.Programs.{program_formed, program_sayable}
use Rattle.occ_print_back.proofs.Spacing.{are_printed}
use Rattle.occ_print_back.proofs.Stable.{numbered}
use Rattle.occ_script_back.proofs.Reading.{AreBehind, lines_behind}
use Rattle.occ_script_back.specs.Blank.{AreBlankLines, ends_line, is_blank}
use Rattle.occ_script_back.specs.Limits.{IsWithin}
use Rattle.occ_script_back.proofs.Behind.{lines_within, reads_behind}
use Rattle.occ_script_back.proofs.Framed.{framed_well}
use Rattle.occ_script.specs.declared.content.Content.{Content}
use Rattle.occ_script.specs.declared.content.Content.TheVariants as content
use Rattle.occ_script.specs.declared.fault.ScriptFault.{ScriptFault}
use Rattle.occ_script.specs.Contents.{bound_of, frame_of}
use Rattle.occ_script.specs.Lines.{AreJudged, named_in, rows_in}
use Rattle.occ_script.specs.Refusals.{IsBadText}
use Rattle.occ_script.specs.Scripts.{IsInOrder, IsProgram}
use Rattle.occ_script.proofs.Once.{IsOnce, program_in_order}
use Rattle.occ_script_write.specs.occ_script_lines.Lines.{is_blank_row}
use Rattle.occ_script_write.specs.occ_script_lines.Sections.{Section, blank, framed, is_blank_in, reading_in}
use Rattle.occ_script_back.specs.Programs.{IsThatProgram, ProgramReadsBack, program_section}
use Rattle.occ_script_back.proofs.Bodies.{rows_whole}
use Rattle.occ_script_write.specs.occ_syntax.declared.scope.Kind.{Kind}
use Rattle.occ_script_write.specs.occ_syntax.declared.scope.Program.{Program}
use Rattle.occ_script_write.specs.occ_syntax.Tree.{Tree}
use Rattle.occ_script_write.specs.occ_syntax.View.{tree}

-- ---- the text in front, blanked

one_blank : (t : Bool) → is_blank (if t then 10 else 32) ≡ true
one_blank true = refl
one_blank false = refl

all_blank : (front : List ℕ) → list_all is_blank (map blank front) ≡ true
all_blank [] = refl
all_blank (b ∷ front) = and_from (is_blank (blank b)) (list_all is_blank (map blank front)) (one_blank (eqb b 10)) (all_blank front)

blanked_ends : (front : List ℕ) → ends_line front ≡ true → ends_line (map blank front) ≡ true
blanked_ends [] h = refl
blanked_ends (b ∷ []) h = ap (λ t. eqb (if t then 10 else 32) 10) h
blanked_ends (b ∷ c ∷ front) h = blanked_ends (c ∷ front) h

blanked : (front : List ℕ) → ends_line front ≡ true → AreBlankLines (map blank front)
blanked front h = record { blank = all_blank front; whole = blanked_ends front h }

ends_last : (front : List ℕ) → ends_line (front ++ 10 ∷ []) ≡ true
ends_last [] = refl
ends_last (b ∷ []) = refl
ends_last (b ∷ c ∷ front) = ends_last (c ∷ front)

-- a text that ends with a line
pub ends_with : (front words : List ℕ) → ends_line (front ++ (words ++ 10 ∷ [])) ≡ true
ends_with front words = ap ends_line (sym (append_assoc front words (10 ∷ []))) ∙ ends_last (front ++ words)

-- ---- what is a program's

-- a section of a program: its frame is that of its bound, and its text may have any length
record IsOfProgram (k : Content) : Type 0 where
  frames : frame_of k ≡ frame_of_bound (bound_of k)
  any_length : (text : List ℕ) → is_too_long (bound_of k) text ≡ false

first_is : IsOfProgram content.First
first_is = record { frames = refl; any_length = λ text. refl }

last_is : IsOfProgram content.Last
last_is = record { frames = refl; any_length = λ text. refl }

-- a header isn't blank
header_there : (names : List (List ℕ)) (name : ℕ) (ps : List (Name × Kind))
    → is_blank_row (printed_line (printed names (record { level = 0; symbols = header_symbols name ps }))) ≡ false
header_there names name ps = ap (list_all is_space) (code_go 80 _ refl)

module _ (once : IsOnce) (names : List (List ℕ)) (P : ℕ → Place) (p : Program) (h : IsPrintable names P p.name.0 p.params (tree p.body))
    (n : ℕ) (row front : List ℕ) (ended : ends_line front ≡ true) where
  abbrev body : Tree
  body = tree p.body

  abbrev lines : List TextLine
  lines = program_lines p.name.0 p.params body

  abbrev s : Section
  s = program_section names n row front p

  abbrev laid : List Laid
  laid = lines_at 0 (program_forest P (n + 1) p.name.0 p.params body)

  there : AreBehind names P front (n + 1) lines
  there = lines_behind names P h.table front (n + 1) lines (program_sayable names P p.name.0 p.params body h)

  table_same : named_in s names ≡ names
  table_same = there.table

  not_blank : is_blank_in s ≡ false
  not_blank =
      let all = map (printed names) lines in
      ap (list_all is_blank_row) (rows_whole all (are_printed names P h.table lines (program_sayable names P p.name.0 p.params body h)))
      ∙ and_left _ _ (header_there names p.name.0 p.params)

  module _ (k : Content) (is : IsOfProgram k) (w : IsWithin (bound_of k) p.name.0 p.params body) where
    abbrev b : Bound
    b = bound_of k

    stops : stopped b (rows_in s names) (reading_in s).1 ≡ (line_rows P (n + 1) lines, None)
    stops =
        ap (λ rs. stopped b rs (reading_in s).1) there.rows_are ∙ ap (λ found. stopped b (line_rows P (n + 1) lines) found) there.faultless
        ∙ lines_within b P (n + 1) p.name.0 p.params body w

    judged : AreJudged k names s laid None
    judged = record {
      forms = subst (λ (r : List Row × Option ParseFault). AreForms r.0 laid) (sym stops)
          (all_said P (n + 1) lines laid (program_formed names P (number_in names) (n + 1) p.name.0 p.params body (numbered names P h.table) h));
      stop_is = ap (λ (r : List Row × Option ParseFault). r.1) stops;
    }

    ordered : IsInOrder k names s (framed s)
    ordered = record {
      there = not_blank;
      well = record {
        laid = laid;
        stop = None;
        judged = judged;
        well = record { whole = refl; good = subst (λ f. least_bad f false laid ≡ None) (sym is.frames) (framed_well b P (n + 1) p.name.0 p.params body) };
      };
      text_is = refl;
    }

    abbrev ns : List ℕ
    ns = printed_numbers P (1 + length (rows (map blank front))) body

    reads : IsProgram b (framed s) names names p ns
    reads = reads_behind names P p.name.0 p.params body h b (map blank front) (blanked front ended) w (is.any_length (framed s))

    text_kept : (e : ScriptFault) → IsBadText b (framed s) names e → ⊥
    text_kept e bad = not_both once.form b (framed s) names reads.draft reads.laid_out reads.in_order bad.refused

    read : (new : List (List ℕ)) (other : Program) (ls : List ℕ) → IsProgram b (framed s) names new other ls → IsThatProgram names new p other
    read new other ls is_other =
        let same : SameReading names new p.name other.name p.params other.params body (tree other.body) ns ls =
        read_once once.form b (framed s) names names new p.name other.name p.params other.params body (tree other.body) ns ls reads is_other in
        record { program = record { name = sym same.name; params = sym same.params; body = sym same.body }; table = sym same.table }

    program_back : ProgramReadsBack k names s p
    program_back = record {
      in_order = ordered;
      kept = λ next e bad. program_in_order once k names s next (framed s) ordered bad;
      table = table_same;
      numbers = ns;
      reads = reads;
      text_kept = text_kept;
      read = read;
    }

  pub from_back : IsWithin (bound_of content.First) p.name.0 p.params body → ProgramReadsBack content.First names s p
  from_back w = program_back content.First first_is w

  pub to_back : IsWithin (bound_of content.Last) p.name.0 p.params body → ProgramReadsBack content.Last names s p
  to_back w = program_back content.Last last_is w
