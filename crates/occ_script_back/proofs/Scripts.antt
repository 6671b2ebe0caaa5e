-- A written script is cut into what was written.
use Rattle.std.proofs.Common.{◌≡◌, ℕ, ◌+◌, ◌≤◌, true, false, eqb, leb, not, List, [], ◌∷◌, ◌++◌, length, map, refl, ap, sym, ◌∙◌, subst, append_assoc, append-nil, arith}
use Rattle.std.specs.Prelude.{codes}
use Rattle.std.specs.List.{AllByRecursion}
use Rattle.std.proofs.lemmas.Bool.{and_parts, eqb-false, leb-true, not-true}
use Rattle.occ_script_write.specs.occ_base.declared.names.Name.{Name}
use Rattle.occ_script_write.specs.occ_lex.Printed.{pieces_text, printed_line}
use Rattle.occ_script_write.specs.occ_lex.Rows.{in_front, rows}
use Rattle.occ_script_write.proofs.from_lex.RowLemmas.{rows_feed, rows_more}
use Rattle.occ_script_write.specs.occ_lex.declared.symbol.Sign.TheVariants as sign
use Rattle.occ_script_write.specs.occ_lex.declared.symbol.Symbol.TheVariants as symbol
use Rattle.occ_print_back.specs.occ_parse_rules.Forest.{Laid, lines_at, no_line}
use Rattle.occ_print_back.specs.occ_parse_rules.Places.{Place}
use Rattle.occ_print_back.specs.occ_parse_unroll.Numbers.{number_in}
use Rattle.occ_script_write.proofs.from_print.Lists.{all-append}
use Rattle.occ_script_write.specs.occ_print.Lines.{TextLine, part_lines, program_lines}
use Rattle.occ_script_write.specs.occ_print.Spelled.{lines_text, part_text, pieces, printed}
use Rattle.occ_script_write.specs.occ_print.Symbols.{header_symbols}
use Rattle.occ_print_back.specs.Formed.{AreFormed}
use Rattle.occ_print_back.specs.Forest.{part_forest}
use Rattle.occ_print_back.specs.Placed.{IsTable, LinesAreSayable}
use Rattle.occ_print_back.specs.Program.{IsPrintable}
use Rattle.occ_print_back.proofs.Forms.{alone}
use Rattle.occ_print_back.proofs.Laying.{lines_above}
use Rattle.occ_print_back.proofs.Programs.{program_sayable}
use Rattle.occ_print_back.proofs.Saying.{part_sayable}
use Rattle.occ_print_back.proofs.Spacing.{are_printed}
use Rattle.occ_print_back.proofs.Stable.{numbered}
use Rattle.occ_script_write.specs.occ_script_lines.declared.section.Format.TheVariants as format
use Rattle.occ_script_write.specs.occ_script_lines.Lines.{is_keyword}
use Rattle.occ_script_write.specs.occ_script_lines.Sections.{sections_of}
use Rattle.occ_script_write.specs.declared.writing.Done.{Done}
use Rattle.occ_script_write.specs.Text.{line, script_text, step_words, steps_text, text_of_program}
use Rattle.occ_script_back.specs.Chunks.{Chunk, IsBegun, IsCut, chunk, chunk_sections, chunks_text, head_chunk, later_chunks, script_chunks, step_chunk}
use Rattle.occ_script_back.specs.Said.{AreWritten, IsStepWritten}
use Rattle.occ_script_back.proofs.Bodies.{deep_row, other_byte, rows_printed, rows_whole}
use Rattle.occ_script_back.proofs.Cutting.{chunks_cut, rows_nil}
use Rattle.occ_script_back.proofs.Saying.{is_calm, is_still, words_calm, words_begin}
use Rattle.occ_script_write.specs.occ_syntax.declared.scope.Kind.{Kind}
use Rattle.occ_script_write.specs.occ_syntax.declared.scope.Program.{Program}
use Rattle.occ_script_write.specs.occ_syntax.Scopes.{environment}
use Rattle.occ_script_write.specs.occ_syntax.View.{tree}

-- a calm line is one row
row_calm : (w rest : List ℕ) → is_calm w ≡ true → rows (line w ++ rest) ≡ line w ∷ rows rest
row_calm [] rest h = rows_feed 10 rest refl
row_calm (b ∷ w) rest h =
    let parts = and_parts (is_still b w) (is_calm w) h in
    let other = eqb-false 10 b (not-true _ (and_parts (not (eqb 10 b)) _ parts.0).0) in
    rows_more b (line w ++ rest) (λ e. other (sym e)) ∙ ap (in_front b) (row_calm w rest parts.1)

-- ---- lines that are no keyword lines

module _ (names : List (List ℕ)) where
  abbrev IsOther : TextLine → Type 0
  IsOther l = is_keyword format.Script (printed_line (printed names l)) ≡ false

  others_are : (ls : List TextLine) → AllByRecursion IsOther ls → AllByRecursion (λ row. is_keyword format.Script row ≡ false) (map printed_line (map (printed names) ls))
  others_are [] h = tt
  others_are (l ∷ ls) h = (h.0, others_are ls h.1)

  deep_others : (P : ℕ → Place) (n : ℕ) (ts : List TextLine) (ls : List Laid) → AreFormed P n ts ls → AllByRecursion (λ (r : Laid). leb 1 r.level ≡ true) ls → AllByRecursion IsOther ts
  deep_others P n [] ls f h = tt
  deep_others P n (t ∷ ts) [] f h = absurd f
  deep_others P n (t ∷ ts) (l ∷ ls) f h =
      let deep : 1 ≤ t.level = subst (λ m. 1 ≤ m) f.1 (leb-true 1 l.level h.0) in
      (deep_row t.level (pieces_text (pieces names t.symbols)) (10 ∷ []) deep, deep_others P (n + 1) ts ls f.3 h.1)

  header_other : (name : ℕ) (ps : List (Name × Kind)) → IsOther (record { level = 0; symbols = header_symbols name ps })
  header_other name ps = other_byte 80 _ refl refl refl

  close_other : IsOther (record { level = 0; symbols = symbol.Sign sign.Colon ∷ [] })
  close_other = other_byte 58 _ refl refl refl

module _ (names : List (List ℕ)) (P : ℕ → Place) (table : IsTable names P) where
  begun : (words : List ℕ) (ls : List TextLine) → is_calm words ≡ true → LinesAreSayable (length names) ls → AllByRecursion (IsOther names) ls → IsBegun (chunk words (lines_text names ls))
  begun words ls c s o =
      let all = map (printed names) ls in
      let are = are_printed names P table ls s in
      record {
        one = λ rest. row_calm words rest c;
        parted = λ rest. rows_printed all are rest ∙ ap (λ rs. rs ++ rows rest) (sym (rows_whole all are));
        plain = subst (AllByRecursion (λ row. is_keyword format.Script row ≡ false)) (sym (rows_whole all are)) (others_are names ls o);
      }

  program_begun : (words : List ℕ) (p : Program) → is_calm words ≡ true → IsPrintable names P p.name.0 p.params (tree p.body) → IsBegun (chunk words (text_of_program names p))
  program_begun words p c h =
      let body = tree p.body in
      let formed = alone (length names) P (number_in names) (numbered names P h.table) (environment p.params) 1 2 body h.known.body_is h.types in
      let deep = deep_others names P 2 (part_lines 1 body) (lines_at 1 (part_forest P 2 body no_line)) formed (lines_above 1 1 (part_forest P 2 body no_line) (omega arith)) in
      begun words (program_lines p.name.0 p.params body) c (program_sayable names P p.name.0 p.params body h)
      (header_other names p.name.0 p.params, all-append (IsOther names) (part_lines 1 body) (record { level = 0; symbols = symbol.Sign sign.Colon ∷ [] } ∷ []) deep (close_other names, tt))

  step_cut : (done : Done) → IsStepWritten names P done → IsCut (step_chunk names done)
  step_cut done h =
      let part = tree done.part in
      let is = h.printable in
      let formed = alone (length names) P (number_in names) (numbered names P is.table) (environment h.scope) 1 1 part is.known is.types in
      let deep = deep_others names P 1 (part_lines 1 part) (lines_at 1 (part_forest P 1 part no_line)) formed (lines_above 1 1 (part_forest P 1 part no_line) (omega arith)) in
      record {
        begun = begun (step_words done) (part_lines 1 part) (words_calm done h.said) (part_sayable (length names) (environment h.scope) 1 part is.known is.types) deep;
        keyword = words_begin done h.said;
      }

  steps_cut : (steps : List Done) → AllByRecursion (IsStepWritten names P) steps → AllByRecursion IsCut (map (step_chunk names) steps)
  steps_cut [] h = tt
  steps_cut (d ∷ steps) h = (step_cut d h.0, steps_cut steps h.1)

from_keyword : is_keyword format.Script (line (codes "FROM")) ≡ true
unfolding is_keyword
from_keyword = refl

to_keyword : is_keyword format.Script (line (codes "TO")) ≡ true
unfolding is_keyword
to_keyword = refl

head_begun : IsBegun head_chunk
head_begun = record {
  one = λ rest. row_calm (codes "occam-script 2") rest refl;
  parted = λ rest. ap (λ rs. rs ++ rows rest) (sym rows_nil);
  plain = subst (AllByRecursion (λ row. is_keyword format.Script row ≡ false)) (sym rows_nil) tt;
}

-- ---- the text

steps_chunked : (names : List (List ℕ)) (steps : List Done) (last : List Chunk) → chunks_text (map (step_chunk names) steps ++ last) ≡ steps_text names steps ++ chunks_text last
steps_chunked names [] last = refl
steps_chunked names (d ∷ steps) last =
    let w = line (step_words d) in
    let b = part_text names 1 (tree d.part) in
    let s = steps_text names steps in
    ap (λ t. w ++ (b ++ t)) (steps_chunked names steps last) ∙ sym (append_assoc (w ++ b) s (chunks_text last) ∙ append_assoc w b (s ++ chunks_text last))

chunked : (names : List (List ℕ)) (from to : Program) (steps : List Done) → script_text names from steps to ≡ chunks_text (script_chunks names from steps to)
chunked names from to steps =
    let l = line (codes "occam-script 2") in
    let m = line (codes "FROM") in
    let f = text_of_program names from in
    let s = steps_text names steps in
    let n = line (codes "TO") in
    let t = text_of_program names to in
    append_assoc (l ++ m ++ f ++ s) n t ∙ append_assoc (l ++ m ++ f) s (n ++ t) ∙ append_assoc (l ++ m) f (s ++ (n ++ t)) ∙ append_assoc l m (f ++ (s ++ (n ++ t)))
    ∙ ap (λ r. l ++ (m ++ (f ++ r)))
    (ap (λ r. s ++ (n ++ r)) (sym (append-nil t)) ∙ sym (steps_chunked names steps (chunk (codes "TO") t ∷ [])))

pub script_cut : (names : List (List ℕ)) (P : ℕ → Place) (from to : Program) (steps : List Done) → AreWritten names P from steps to
    → sections_of format.Script (script_text names from steps to) ≡ chunk_sections 1 [] (script_chunks names from steps to)
script_cut names P from to steps h =
    let table = h.from_is.table in
    let first : IsCut (chunk (codes "FROM") (text_of_program names from)) = record { begun = program_begun names P table (codes "FROM") from refl h.from_is; keyword = from_keyword } in
    let last : IsCut (chunk (codes "TO") (text_of_program names to)) = record { begun = program_begun names P table (codes "TO") to refl h.to_is; keyword = to_keyword } in
    ap (sections_of format.Script) (chunked names from to steps)
    ∙ chunks_cut head_chunk (later_chunks names from steps to) head_begun
    (first, all-append IsCut (map (step_chunk names) steps) (chunk (codes "TO") (text_of_program names to) ∷ []) (steps_cut names P table steps h.steps_are) (last, tt))
