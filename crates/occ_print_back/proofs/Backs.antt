-- A printed program reads back.
use Rattle.std.proofs.Common.{◌≡◌, ℕ, false, List, [], length, Option, None, refl, ap, sym, ◌∙◌, subst}
use Rattle.occ_print.specs.occ_base.declared.names.Name.{Name}
use Rattle.occ_print.specs.occ_syntax.declared.scope.Kind.{Kind}
use Rattle.occ_print.specs.occ_syntax.Tree.{Tree}
use Rattle.occ_print.specs.occ_lex.Rows.{reading_of}
use Rattle.occ_print.specs.occ_lex.declared.symbol.Row.{Row}
use Rattle.occ_parse.specs.occ_parse_rules.Forest.{lines_at}
use Rattle.occ_parse.specs.occ_parse_rules.Judging.{or_else, first_fault}
use Rattle.occ_parse.specs.occ_parse_rules.Names.{name_fault}
use Rattle.occ_parse.specs.occ_parse_rules.Types.{type_fault, direction_fault}
use Rattle.occ_parse.specs.occ_parse_rules.Places.{Place}
use Rattle.occ_print.specs.Lines.{program_lines}
use Rattle.occ_print.specs.Spelled.{program_text}
use Rattle.occ_parse.specs.occ_parse_layout.Layout.{least_bad}
use Rattle.occ_parse.specs.declared.bound.Bound.{Bound}
use Rattle.occ_parse.specs.declared.bound.Bound.TheVariants as bound
use Rattle.occ_parse.specs.declared.fault.ParseFault.{ParseFault}
use Rattle.occ_parse.specs.declared.fault.ParseFault.TheVariants as fault
use Rattle.occ_parse.specs.Limits.{is_too_long, frame_of, stopped}
use Rattle.occ_parse.specs.Drafts.{name_fault_on, type_fault_on, as_fault, limit_fault_of, draft_fault}
use Rattle.occ_parse.specs.Reading.{AreForms, rows_in}
use Rattle.occ_parse.specs.occ_parse_unroll.Numbers.{number_in}
use Rattle.occ_parse.specs.occ_parse_unroll.Elements.{with_elements}
use Rattle.occ_print_back.specs.Program.{IsPrintable, params_said, body_forest, program_forest}
use Rattle.occ_print_back.specs.Read.{ReadsAs, line_rows}
use Rattle.occ_print_back.proofs.Programs.{program_read, program_formed, program_good, program_back, params_back}
use Rattle.occ_print_back.proofs.Ordering.{name_ok, type_ok, direction_ok, program_order}
use Rattle.occ_print_back.specs.Back.{IsNarrow, ReadsBack, ReadsBackFrom}
use Rattle.occ_print_back.proofs.Stable.{numbered, table_stays}
use Rattle.occ_print_back.proofs.Counted.{none_stopped, all_said}

module _ (names : List (List ℕ)) (P : ℕ → Place) (name : ℕ) (ps : List (Name × Kind)) (body : Tree) (h : IsPrintable names P name ps body) where
  in_order : (b : Bound) (n : ℕ) → limit_fault_of b (program_forest P n name ps body) ≡ None → draft_fault b (program_forest P n name ps body) ≡ None
  in_order b n limits =
      let f = program_forest P n name ps body in
      let count = length names in
      let N = number_in names in
      let is = numbered names P h.table in
      let first = program_order count P N is name_fault name_ok n name ps body h.known.params_are h.known.body_is h.scope h.types in
      let second = program_order count P N is type_fault type_ok n name ps body h.known.params_are h.known.body_is h.scope h.types in
      let third = program_order count P N is direction_fault direction_ok n name ps body h.known.params_are h.known.body_is h.scope h.types in
      let last = limit_fault_of b f in
      ap (λ x. or_else (as_fault name_fault_on x) (or_else (as_fault type_fault_on (first_fault type_fault [] [] f)) (or_else (as_fault (λ line found. fault.Direction line) (first_fault direction_fault [] [] f)) last))) first
      ∙ ap (λ x. or_else (as_fault type_fault_on x) (or_else (as_fault (λ line found. fault.Direction line) (first_fault direction_fault [] [] f)) last)) second
      ∙ ap (λ x. or_else (as_fault (λ line found. fault.Direction line) x) last) third ∙ limits

  own_name : (P name).name ≡ name
  own_name = sym (ap (number_in names (P name).name) h.plain) ∙ numbered names P h.table name h.known.name_is

  -- a text that has the program's lines, within the limits
  pub reads_from : (b : Bound) (text : List ℕ) (n : ℕ) → is_too_long b text ≡ false → ReadsAs text names P n (program_lines name ps body)
      → stopped b (line_rows P n (program_lines name ps body)) None ≡ (line_rows P n (program_lines name ps body), None)
      → least_bad (frame_of b) false (lines_at 0 (program_forest P n name ps body)) ≡ None → limit_fault_of b (program_forest P n name ps body) ≡ None
      → ReadsBackFrom b text names P n name ps body
  reads_from b text n short read within good limits =
      let lines = program_lines name ps body in
      let laid = lines_at 0 (program_forest P n name ps body) in
      let stops : stopped b (rows_in text names) (reading_of text).1 ≡ (line_rows P n lines, None)
      = ap (λ rows. stopped b rows (reading_of text).1) read.rows ∙ ap (λ found. stopped b (line_rows P n lines) found) read.faultless ∙ within in
      record {
        draft = program_forest P n name ps body;
        laid_out = record {
          judged = record {
            short = short;
            forms = subst (λ (r : List Row × Option ParseFault). AreForms r.0 laid) (sym stops) (all_said P n lines laid (program_formed names P (number_in names) n name ps body (numbered names P h.table) h));
            stop_is = ap (λ (r : List Row × Option ParseFault). r.1) stops;
          };
          good = good;
        };
        in_order = in_order b n limits;
        table = sym (ap (λ t. with_elements t (params_said P ps) (body_forest P n body)) read.table ∙ table_stays names P h.table n ps body h.known.params_are h.known.body_is);
        name_is = ap (λ x. record { 0 = x }) (sym own_name);
        params_are = sym (params_back (length names) P (number_in names) (numbered names P h.table) ps h.known.params_are);
        body_is = sym (program_back names P (number_in names) n name ps body (numbered names P h.table) h);
        numbers_are = refl;
      }

  pub reads_back : IsNarrow name ps body → ReadsBack names P name ps body
  reads_back narrow =
      reads_from bound.Script (program_text names name ps body) 1 refl (program_read names P name ps body h) (none_stopped P 1 (program_lines name ps body) narrow)
      (program_good P 1 name ps body) refl
