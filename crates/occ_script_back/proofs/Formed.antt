-- The lines of a written script are in order as those of what was written.
use Rattle.std.proofs.Common.{◌≡◌, ℕ, ◌+◌, true, false, ◌&&◌, List, [], ◌∷◌, ◌++◌, length, map, take, drop, Option, Some, None, refl, ap, sym, ◌∙◌, subst}
use Rattle.std.specs.Prelude.{codes}
use Rattle.std.specs.List.{AllByRecursion, list_all}
use Rattle.std.specs.Str.{bytes_eq}
use Rattle.occ_script_write.specs.occ_lex.declared.fault.LineFault.{LineFault}
use Rattle.occ_script_write.specs.occ_lex.declared.token.Line.{Line}
use Rattle.occ_script_write.specs.occ_lex.Rows.{is_space, read_rows, rows}
use Rattle.occ_script_write.specs.occ_lex.declared.symbol.Row.{Row}
use Rattle.occ_script_write.specs.occ_lex.Symbols.{rows_of, with_names_of_all}
use Rattle.occ_script_write.proofs.from_lex.Interned.{extends_same}
use Rattle.occ_print_back.specs.occ_parse.declared.bound.Bound.TheVariants as bound
use Rattle.occ_print_back.specs.occ_parse.declared.fault.ParseFault.{ParseFault}
use Rattle.occ_print_back.specs.occ_parse.Limits.{stopped}
use Rattle.occ_print_back.specs.occ_parse.Reading.{AreForms}
use Rattle.occ_print_back.specs.occ_parse_rules.Forest.{Laid}
use Rattle.occ_print_back.specs.occ_parse_rules.Places.{Place}
use Rattle.occ_script_back.specs.Tables.{Grows, IsGrown}
use Rattle.occ_script_back.specs.Blank.{ends_line}
use Rattle.occ_script_back.specs.Limits.{IsWithin}
use Rattle.occ_script.specs.declared.content.Content.TheVariants as content
use Rattle.occ_script.specs.declared.fault.ScriptFault.{ScriptFault}
use Rattle.occ_script.specs.declared.script.Step.{Step}
use Rattle.occ_script.specs.Lines.{named_in, rows_in}
use Rattle.occ_script.specs.Refusals.{IsBadHead, IsBadProgram, IsBadTarget, IsNoDerivation, IsUnformed, another, another_word, bad_head, behind_head, behind_source, earlier, further, in_lines, in_source, next_line, no_end, no_line, no_source, unread}
use Rattle.occ_script.specs.Scripts.{IsDerivation, IsFormed}
use Rattle.occ_script.proofs.Once.{IsOnce, Table, one_answer}
use Rattle.occ_script.proofs.OnceAll.{same_sections}
use Rattle.occ_script_write.specs.occ_script_lines.declared.section.Format.TheVariants as format
use Rattle.occ_script_write.specs.occ_script_lines.Lines.{is_line}
use Rattle.occ_script_write.specs.occ_script_lines.Sections.{Section, framed, last_line_of, reading_in, sections_of, upto}
use Rattle.occ_script_write.specs.declared.writing.Done.{Done}
use Rattle.occ_script_write.specs.Text.{line, script_text, text_of_program}
use Rattle.occ_script_back.specs.Chunks.{Chunk, chunk, chunk_sections, step_chunk}
use Rattle.occ_script_back.specs.Programs.{ProgramReadsBack, program_section}
use Rattle.occ_script_back.specs.Reads.{AreRead, AreStepsOf, IsFaultOfLast, IsSectionOf, IsStepWell}
use Rattle.occ_script_back.specs.Said.{IsStepWritten}
use Rattle.occ_script_back.specs.Whole.{AreWrittenWell}
use Rattle.occ_script_back.proofs.OneByOne.{PartsReadBack, steps_kept, steps_read}
use Rattle.occ_script_back.proofs.Programs.{ends_with, from_back, to_back}
use Rattle.occ_script_back.proofs.Saying.{code_calm, is_calm}
use Rattle.occ_script_back.proofs.Scripts.{script_cut}
use Rattle.occ_script_back.proofs.Staying.{program_stays}
use Rattle.occ_script_write.specs.occ_syntax.declared.scope.Program.{Program}
use Rattle.occ_script_write.specs.occ_syntax.View.{tree}

-- ---- lines at level 0

words_line : (words w : List ℕ) → is_calm w ≡ true → is_line words (line w) ≡ (bytes_eq (take (length words) w) words && list_all is_space (drop (length words) w))
unfolding is_line
words_line words w h = ap (λ c. bytes_eq (take (length words) c) words && list_all is_space (drop (length words) c)) (code_calm w h)

another_version : is_line (codes "occam-script 1") (line (codes "occam-script 2")) ≡ false
another_version = words_line (codes "occam-script 1") (codes "occam-script 2") refl

this_version : is_line (codes "occam-script 2") (line (codes "occam-script 2")) ≡ true
this_version = words_line (codes "occam-script 2") (codes "occam-script 2") refl

from_line : is_line (codes "FROM") (line (codes "FROM")) ≡ true
from_line = words_line (codes "FROM") (codes "FROM") refl

to_line : is_line (codes "TO") (line (codes "TO")) ≡ true
to_line = words_line (codes "TO") (codes "TO") refl

-- ---- the first line

rows_nil : rows [] ≡ []
unfolding rows
rows_nil = refl

read_nil : (n place : ℕ) → read_rows n place [] ≡ ([], None)
unfolding read_rows
read_nil n place = refl

abbrev head_row : List ℕ
head_row = line (codes "occam-script 2")

abbrev head : Section
head = record { number = 1; row = head_row; front = [] ++ head_row; body = [] }

head_reading : reading_in head ≡ ([], None)
head_reading = ap (read_rows 2 (length ([] ++ head_row))) rows_nil ∙ read_nil 2 (length ([] ++ head_row))

head_table : (names : Table) → named_in head names ≡ names
head_table names = ap (λ (r : List Line × Option (ℕ × LineFault)). with_names_of_all (upto head) names r.0) head_reading

head_stops : (names : Table) → stopped bound.Script (rows_in head names) (reading_in head).1 ≡ ([], None)
head_stops names = ap (λ (r : List Line × Option (ℕ × LineFault)). stopped bound.Script (rows_of (upto head) names r.0) r.1) head_reading

no_more_lines : (l : Laid) (ls : List Laid) (r : List Row × Option ParseFault) → r ≡ ([], None) → AreForms r.0 (l ∷ ls) → ⊥
no_more_lines l ls r e f =
    let e' : r.0 ≡ [] = ap (λ (s : List Row × Option ParseFault). s.0) e in
    subst (λ (rs : List Row). AreForms rs (l ∷ ls)) e' f

no_stop : (e : ParseFault) → None ≡ Some e → ⊥
no_stop e h = cc

head_kept : (names : Table) {e : ScriptFault} → IsBadHead format.Script names head e → ⊥
head_kept names (earlier h) = one_answer (is_line (codes "occam-script 1") head_row) h another_version
head_kept names (another h k) = one_answer (is_line (codes "occam-script 2") head_row) this_version k
head_kept names (further l ls stop h k j) = no_more_lines l ls (stopped bound.Script (rows_in head names) (reading_in head).1) (head_stops names) j.forms
head_kept names (unread e h k j) = no_stop e (sym (ap (λ (r : List Row × Option ParseFault). r.1) (head_stops names)) ∙ j.stop_is)

-- ---- sections

all_written : (names : List (List ℕ)) (P : ℕ → Place) (steps : List Done) → AllByRecursion (IsStepWell names P) steps → AllByRecursion (IsStepWritten names P) steps
all_written names P [] h = tt
all_written names P (d ∷ steps) h = (h.0.written, all_written names P steps h.1)

-- the lines of a program behind TO are refused where the last section is
last_kept : (last : ℕ) (t : Table) (s : Section) {os : List Section} {e : ScriptFault} → IsBadTarget last t s os e → os ≡ []
    → ((next : ℕ) (d : ScriptFault) → IsBadProgram content.Last t s next d → ⊥) → ⊥
last_kept last t s (in_lines others e x) h kept = kept _ e x
last_kept last t s (no_end text more others x) h kept = absurd (cc)

-- what the lines of a written script are
pub record IsFormedOf (names : List (List ℕ)) (P : ℕ → Place) (source : Section) (to : Program) (steps : List Done) (t : Table) (from_text : List ℕ) (read : List Step) (to_text : List ℕ) : Type 0 where
  pub steps_are : AreStepsOf names P steps read
  pub grows : Grows names P t
  pub from_text_is : from_text ≡ framed source
  pub target : Section
  pub target_is : IsSectionOf (chunk (codes "TO") (text_of_program names to)) target
  pub to_text_is : to_text ≡ framed target

module _ (once : IsOnce) (back : PartsReadBack) (names : List (List ℕ)) (P : ℕ → Place) (from : Program) (steps : List Done) (to : Program) (w : AreWrittenWell names P from steps to) where
  abbrev text : List ℕ
  text = script_text names from steps to

  abbrev before : List ℕ
  before = ([] ++ head_row) ++ []

  abbrev from_row : List ℕ
  from_row = line (codes "FROM")

  abbrev number : ℕ
  number = 1 + 1 + length (rows [])

  abbrev pub source : Section
  source = program_section names number from_row (before ++ from_row) from

  abbrev last_chunk : Chunk
  last_chunk = chunk (codes "TO") (text_of_program names to)

  abbrev next : ℕ
  next = number + 1 + length (rows (text_of_program names from))

  abbrev above : List ℕ
  above = (before ++ from_row) ++ text_of_program names from

  abbrev others : List Section
  others = chunk_sections next above (map (step_chunk names) steps ++ last_chunk ∷ [])

  cut : sections_of format.Script text ≡ head ∷ source ∷ others
  cut = script_cut names P from to steps (record { from_is = w.from_is; steps_are = all_written names P steps w.steps_are; to_is = w.to_is })

  grown_same : IsGrown names P names P
  grown_same = record { table = w.from_is.table; extends = extends_same names; same = λ x h. refl }

  -- the program behind FROM, and the one behind TO, read with longer tables
  pub source_back : (t : Table) (Q : ℕ → Place) → IsGrown names P t Q → ProgramReadsBack content.First t source from
  source_back t Q g =
      let stays = program_stays names P t Q g from.name.0 from.params (tree from.body) w.from_is in
      subst (λ (b : List ℕ). ProgramReadsBack content.First t (record { number = number; row = from_row; front = before ++ from_row; body = b }) from) stays.text
      (from_back once t Q from stays.printable number from_row (before ++ from_row) (ends_with before (codes "FROM")) w.from_within)

  to_within : IsWithin bound.Script to.name.0 to.params (tree to.body)
  to_within = record { narrow = w.to_narrow; limits = λ e. absurd (cc) }

  pub target_back : (t : Table) (Q : ℕ → Place) → IsGrown names P t Q → (s : Section) → IsSectionOf last_chunk s → ProgramReadsBack content.Last t s to
  target_back t Q g s is =
      let stays = program_stays names P t Q g to.name.0 to.params (tree to.body) w.to_is in
      let ended : ends_line s.front ≡ true = ap ends_line is.front ∙ ends_with is.before (codes "TO") in
      let same : program_section t s.number s.row s.front to ≡ s = λ i. record { number = s.number; row = s.row; front = s.front; body = (stays.text ∙ sym is.body) i } in
      subst (λ (k : Section). ProgramReadsBack content.Last t k to) same (to_back once t Q to stays.printable s.number s.row s.front ended to_within)

  -- ---- no line is refused

  fault_kept : {last : ℕ} {e : ScriptFault} → IsFaultOfLast names P last_chunk last e → ⊥
  fault_kept {last} f = last_kept last f.table f.target f.bad refl (target_back f.table f.grows.0 f.grows.1 f.target f.is_last).kept

  derivation_kept : (last : ℕ) {old : Table} {ss : List Section} {e : ScriptFault} → IsNoDerivation last old ss e → old ≡ names → ss ≡ source ∷ others → ⊥
  derivation_kept last no_source o f = absurd (cc)
  derivation_kept last (another_word s rest h) o f =
      let same : s ≡ source = (same_sections s source rest others (s ∷ rest) refl f).first in
      one_answer (is_line (codes "FROM") s.row) (ap (λ (k : Section). is_line (codes "FROM") k.row) same ∙ from_line) h
  derivation_kept last {old} (in_source s rest e h x) o f =
      let same : s ≡ source = (same_sections s source rest others (s ∷ rest) refl f).first in
      let here = subst (λ (k : Section). IsBadProgram content.First old k (next_line rest last) e) same x in
      (source_back names P grown_same).kept (next_line rest last) e (subst (λ (t : Table). IsBadProgram content.First t source (next_line rest last) e) o here)
  derivation_kept last {old} (behind_source body s rest e h x y) o f =
      let same = same_sections s source rest others (s ∷ rest) refl f in
      let table : named_in s old ≡ names = (λ i. named_in (same.first i) (o i)) ∙ (source_back names P grown_same).table in
      fault_kept (steps_kept once back names P last P next above steps last_chunk y same.rest to_line (subst (λ (t : Table). IsGrown names P t P) (sym table) grown_same) w.steps_are)

  pub lines_kept : {e : ScriptFault} → IsUnformed text names e → ⊥
  lines_kept (no_line h) = let bad : [] ≡ head ∷ source ∷ others = sym h ∙ cut in absurd (cc)
  lines_kept (bad_head h rest e p x) =
      let same : h ≡ head = (same_sections h head rest (source ∷ others) (sections_of format.Script text) p cut).first in
      head_kept names (subst (λ (s : Section). IsBadHead format.Script names s e) same x)
  lines_kept (behind_head h rest e p is x) =
      let same = same_sections h head rest (source ∷ others) (sections_of format.Script text) p cut in
      derivation_kept (last_line_of text) x (ap (λ (s : Section). named_in s names) same.first ∙ head_table names) same.rest

  -- ---- what the lines are

  derived : (old t : Table) (ss : List Section) (from_text : List ℕ) (read : List Step) (to_text : List ℕ) → IsDerivation old t ss from_text read to_text
      → old ≡ names → ss ≡ source ∷ others → IsFormedOf names P source to steps t from_text read to_text
  derived old t ss from_text read to_text d o f =
      let same = same_sections d.source source d.rest others ss d.parts f in
      let end = d.is_end in
      let table : named_in d.source old ≡ names = (λ i. named_in (same.first i) (o i)) ∙ (source_back names P grown_same).table in
      let r : AreRead names P end.between steps read last_chunk end.target = steps_read once back names P P next above steps last_chunk end.target end.are_steps same.rest refl end.line to_line
      (subst (λ (u : Table). IsGrown names P u P) (sym table) grown_same) w.steps_are in
      let same_table : t ≡ end.between = end.table ∙ (target_back end.between r.grows.0 r.grows.1 end.target r.last).table in
      record {
        steps_are = r.steps_are;
        grows = subst (λ (u : Table). Grows names P u) (sym same_table) r.grows;
        from_text_is = d.lines.text_is ∙ ap framed same.first;
        target = end.target;
        target_is = r.last;
        to_text_is = end.lines.text_is;
      }

  pub formed_is : (t : Table) (from_text : List ℕ) (read : List Step) (to_text : List ℕ) → IsFormed text names t from_text read to_text → IsFormedOf names P source to steps t from_text read to_text
  formed_is t from_text read to_text f =
      let same = same_sections f.head head f.rest (source ∷ others) (sections_of format.Script text) f.parts cut in
      derived (named_in f.head names) t f.rest from_text read to_text f.derivation (ap (λ (s : Section). named_in s names) same.first ∙ head_table names) same.rest
