-- A printed program reads back behind blank lines.
use Rattle.std.proofs.Common.{◌≡◌, ℕ, ◌+◌, false, List, ◌++◌, length, Option, None, ap, ◌∙◌}
use Rattle.occ_script_write.specs.occ_base.declared.names.Name.{Name}
use Rattle.occ_script_write.specs.occ_lex.declared.fault.LineFault.{LineFault}
use Rattle.occ_script_write.specs.occ_lex.declared.token.Line.{Line}
use Rattle.occ_script_write.specs.occ_lex.Rows.{rows}
use Rattle.occ_script_write.specs.occ_lex.Symbols.{rows_of, with_names_of_all}
use Rattle.occ_print_back.specs.occ_parse.declared.bound.Bound.{Bound}
use Rattle.occ_print_back.specs.occ_parse.Limits.{is_too_long, stopped}
use Rattle.occ_print_back.specs.occ_parse_rules.Places.{Place}
use Rattle.occ_script_write.specs.occ_print.Lines.{program_lines}
use Rattle.occ_script_write.specs.occ_print.Spelled.{program_text}
use Rattle.occ_print_back.specs.Back.{ReadsBackFrom}
use Rattle.occ_print_back.specs.Program.{IsPrintable}
use Rattle.occ_print_back.specs.Read.{ReadsAs, line_rows}
use Rattle.occ_print_back.proofs.Backs.{reads_from}
use Rattle.occ_print_back.proofs.Counted.{none_stopped_within}
use Rattle.occ_print_back.proofs.Programs.{program_sayable}
use Rattle.occ_script_back.proofs.Reading.{lines_behind}
use Rattle.occ_script_back.specs.Blank.{AreBlankLines}
use Rattle.occ_script_back.specs.Limits.{IsWithin}
use Rattle.occ_script_back.proofs.Blank.{reading_behind}
use Rattle.occ_script_back.proofs.Framed.{framed_well}
use Rattle.occ_script_back.proofs.Within.{no_limit_passed, program_shallow}
use Rattle.occ_script_write.specs.occ_syntax.declared.scope.Kind.{Kind}
use Rattle.occ_script_write.specs.occ_syntax.Tree.{Tree}

-- its lines are within the limits of lines
pub lines_within : (b : Bound) (P : ℕ → Place) (n name : ℕ) (ps : List (Name × Kind)) (body : Tree) → IsWithin b name ps body
    → stopped b (line_rows P n (program_lines name ps body)) None ≡ (line_rows P n (program_lines name ps body), None)
lines_within b P n name ps body w = none_stopped_within b P n (program_lines name ps body) w.narrow (λ e. program_shallow name ps body (w.limits e).levels)

module _ (names : List (List ℕ)) (P : ℕ → Place) (name : ℕ) (ps : List (Name × Kind)) (body : Tree) (h : IsPrintable names P name ps body) where
  lines_read : (front : List ℕ) → AreBlankLines front → ReadsAs (front ++ program_text names name ps body) names P (1 + length (rows front)) (program_lines name ps body)
  lines_read front blank =
      let text = front ++ program_text names name ps body in
      let e = reading_behind front (program_text names name ps body) blank in
      let there = lines_behind names P h.table front (1 + length (rows front)) (program_lines name ps body) (program_sayable names P name ps body h) in
      record {
        faultless = ap (λ (r : List Line × Option (ℕ × LineFault)). r.1) e ∙ there.faultless;
        rows = ap (λ (r : List Line × Option (ℕ × LineFault)). rows_of text names r.0) e ∙ there.rows_are;
        table = ap (λ (r : List Line × Option (ℕ × LineFault)). with_names_of_all text names r.0) e ∙ there.table;
      }

  pub reads_behind : (b : Bound) (front : List ℕ) → AreBlankLines front → IsWithin b name ps body → is_too_long b (front ++ program_text names name ps body) ≡ false
      → ReadsBackFrom b (front ++ program_text names name ps body) names P (1 + length (rows front)) name ps body
  reads_behind b front blank w short =
      let n = 1 + length (rows front) in
      reads_from names P name ps body h b (front ++ program_text names name ps body) n short (lines_read front blank) (lines_within b P n name ps body w)
      (framed_well b P n name ps body) (no_limit_passed names P name ps body h b n w)
