-- Accepted programs that were read are printed as texts that read back.
use Rattle.std.proofs.Common.{ℕ, ◌+◌, List, ◌++◌, length}
use Rattle.occ_engine_known.specs.Known.{NamesAreBelow}
use Rattle.occ_engine_known.proofs.Given.{name_low}
use Rattle.occ_engine_known.proofs.Keeping.{kept_known, names_still}
use Rattle.occ_engine_written.proofs.Printed.{names_below, printable}
use Rattle.occ_renamed.specs.occ_lex.Rows.{rows}
use Rattle.occ_renamed.specs.occ_lex.Symbols.{Extends}
use Rattle.occ_renamed.proofs.from_lex.Interned.{longer}
use Rattle.occ_renamed.specs.occ_parse.declared.bound.Bound.{Bound}
use Rattle.occ_renamed.specs.occ_parse_rules.Places.{Place}
use Rattle.occ_engine_written.specs.Accepted.{IsAcceptedText, IsLeft, IsShort, ReadsAsProgram}
use Rattle.occ_engine_written.proofs.Left.{left_places}
use Rattle.occ_script_table.specs.occ_print_back.Back.{printed_numbers}
use Rattle.occ_script_table.specs.occ_print_back.Placed.{IsTable}
use Rattle.occ_script_table.specs.occ_print_back.Program.{IsPrintable}
use Rattle.occ_script_table.proofs.from_print_back.Read.{read_within}
use Rattle.occ_script_table.specs.occ_script_back.Blank.{AreBlankLines}
use Rattle.occ_script_table.specs.occ_script_back.Limits.{IsWithin}
use Rattle.occ_script_table.proofs.from_script_back.Behind.{reads_behind}
use Rattle.occ_engine_known.specs.occ_script_write.Text.{text_of_program}
use Rattle.occ_engine_known.specs.occ_syntax.declared.scope.Program.{Program}
use Rattle.occ_engine_known.specs.occ_syntax.View.{tree}

module _ (b : Bound) (names all : List (List ℕ)) (program : Program) (is : IsAcceptedText b names program) (e : Extends names all) where
  -- all names are those of the longer table
  pub names_there : NamesAreBelow (length all) program.params (tree program.body)
  names_there =
      names_still (length names) (length all) (longer names all e) program.params (tree program.body)
      (names_below b is.text is.old names program is.lines is.read)

  can_be_printed : (P : ℕ → Place) → IsTable all P → IsPrintable all P program.name.0 program.params (tree program.body)
  can_be_printed P table = printable b is.text is.old names program is.lines is.read all P table e name_low kept_known is.accepted.typed names_there

  within : (c : Bound) (text : List ℕ) → IsShort b c text program → IsWithin c program.name.0 program.params (tree program.body)
  within c text short =
      let t = is.accepted.typed in
      record {
        narrow = short.narrow;
        limits = λ limited. record {
          controls = t.controls;
          parameters = t.parameters;
          interface = t.interface;
          state = t.state;
          levels = read_within b is.text is.old names program.name program.params (tree program.body) is.lines (short.bound limited) is.read;
        };
      }

  pub reads_back : IsLeft all → (c : Bound) (front : List ℕ) → AreBlankLines front → IsShort b c (front ++ text_of_program all program) program
      → ReadsAsProgram c (front ++ text_of_program all program) all program
  reads_back left c front blank short =
      let there = left_places all left in
      let P = there.0 in (
        printed_numbers P (1 + length (rows front)) (tree program.body),
        reads_behind all P program.name.0 program.params (tree program.body) (can_be_printed P there.1) c front blank
            (within c (front ++ text_of_program all program) short) short.short,
      )
