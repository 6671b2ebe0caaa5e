-- The steps of a written script are read one by one, as the table of names grows.
use Rattle.std.proofs.Common.{◌≡◌, ℕ, ◌+◌, true, List, [], ◌∷◌, ◌++◌, length, map, refl, ap, sym, ◌∙◌, subst}
use Rattle.std.specs.Prelude.{codes}
use Rattle.std.specs.List.{AllByRecursion}
use Rattle.occ_script_write.specs.occ_base.declared.names.Name.{Name}
use Rattle.occ_script_write.specs.occ_lex.Rows.{rows}
use Rattle.occ_print_back.specs.occ_parse_rules.Places.{Place}
use Rattle.occ_script_write.specs.occ_print.Spelled.{part_text}
use Rattle.occ_script_back.specs.Back.{PartReadsBack}
use Rattle.occ_script_back.specs.Part.{IsPrintablePart, PartIsNarrow, table_behind}
use Rattle.occ_script_back.specs.Tables.{Grows, IsGrown}
use Rattle.occ_script_back.proofs.Growing.{grown_both}
use Rattle.occ_script.specs.declared.script.Step.{Step}
use Rattle.occ_script.specs.declared.fault.ScriptFault.{ScriptFault}
use Rattle.occ_script.specs.Refusals.{IsBadEnd, IsBadStep, IsBadTarget, no_target, in_step, behind_step, in_target}
use Rattle.occ_script.specs.Steps.{AreSteps, IsStep, no_step, and_step}
use Rattle.occ_script.proofs.Once.{IsOnce, Table, one_answer}
use Rattle.occ_script.proofs.OnceAll.{same_sections}
use Rattle.occ_script_write.specs.occ_script_lines.Lines.{is_line}
use Rattle.occ_script_write.specs.occ_script_lines.Sections.{Section}
use Rattle.occ_script_write.specs.declared.writing.Done.{Done}
use Rattle.occ_script_write.specs.Text.{line, step_words}
use Rattle.occ_script_back.specs.Chunks.{Chunk, chunk_sections, step_chunk}
use Rattle.occ_script_back.specs.Reads.{AreRead, IsFaultOfLast, IsStepOf, IsStepWell}
use Rattle.occ_script_back.specs.Steps.{IsThatStep, StepReadsBack, step_section}
use Rattle.occ_script_back.proofs.Saying.{not_to}
use Rattle.occ_script_back.proofs.Staying.{part_stays}
use Rattle.occ_script_back.proofs.Steps.{step_back}
use Rattle.occ_script_write.specs.occ_syntax.declared.scope.Kind.{Kind}
use Rattle.occ_script_write.specs.occ_syntax.Tree.{Tree}
use Rattle.occ_script_write.specs.occ_syntax.View.{tree}

abbrev pub PartsReadBack : Type 0
PartsReadBack = (names : List (List ℕ)) (P : ℕ → Place) (scope : List (Name × Kind)) (part : Tree) (front : List ℕ) (number : ℕ)
    → IsPrintablePart names P scope part → PartIsNarrow part → PartReadsBack names P scope front number part

module _ (once : IsOnce) (back : PartsReadBack) (names : List (List ℕ)) (P : ℕ → Place) where
  -- one step, with a longer table
  module _ (t new : Table) (Q : ℕ → Place) (g : IsGrown names P t Q) (n : ℕ) (front : List ℕ) (done : Done) (well : IsStepWell names P done) (step : Step)
      (is : IsStep t new (step_section names n front done) step) where
    there : (scope : List (Name × Kind)) → IsPrintablePart names P scope (tree done.part) → IsThatStep t Q scope n done new step
    there scope h =
        let stays = part_stays names P t Q g scope (tree done.part) h in
        let again : StepReadsBack t Q scope n front done = step_back once t Q scope n front done well.written.said (back t Q scope (tree done.part) front (n + 1) stays.printable well.narrow) in
        again.read new step (subst (λ (body : List ℕ). IsStep t new (record { number = n; row = line (step_words done); front = front; body = body }) step) (sym stays.text) is)

    step_of : IsStepOf names P done step
    step_of =
        let one = there well.written.scope well.written.printable in record {
          law = one.law;
          dir = one.dir;
          path = one.path;
          resolves = λ scope h. record { faultless = (there scope h).faultless; stands = (there scope h).stands };
        }

    grown : Grows names P new
    grown =
        let stays = part_stays names P t Q g well.written.scope (tree done.part) well.written.printable in
        let again : StepReadsBack t Q well.written.scope n front done = step_back once t Q well.written.scope n front done well.written.said (back t Q well.written.scope (tree done.part) front (n + 1) stays.printable well.narrow) in
        let more = table_behind t Q (n + 1) (tree done.part) in
        let whole : IsGrown names P more again.grows.0 = grown_both names t more P Q again.grows.0 g again.grows.1 in
        subst (λ u. Grows names P u) (sym (there well.written.scope well.written.printable).table) (again.grows.0, whole)

  -- one step isn't refused, with a longer table
  step_kept : (t : Table) (Q : ℕ → Place) (g : IsGrown names P t Q) (n : ℕ) (front : List ℕ) (done : Done) → IsStepWell names P done → {e : ScriptFault}
      → IsBadStep t (step_section names n front done) e → ⊥
  step_kept t Q g n front done well {e = e} bad =
      let stays = part_stays names P t Q g well.written.scope (tree done.part) well.written.printable in
      let again : StepReadsBack t Q well.written.scope n front done = step_back once t Q well.written.scope n front done well.written.said (back t Q well.written.scope (tree done.part) front (n + 1) stays.printable well.narrow) in
      again.kept e (subst (λ (body : List ℕ). IsBadStep t (record { number = n; row = line (step_words done); front = front; body = body }) e) (sym stays.text) bad)

  pub steps_kept : (last : ℕ) {t : Table} {ss : List Section} {e : ScriptFault} (Q : ℕ → Place) (n : ℕ) (front : List ℕ) (dones : List Done) (c : Chunk)
      → IsBadEnd last t ss e → ss ≡ chunk_sections n front (map (step_chunk names) dones ++ c ∷ []) → is_line (codes "TO") c.row ≡ true
      → IsGrown names P t Q → AllByRecursion (IsStepWell names P) dones → IsFaultOfLast names P c last e
  steps_kept last Q n front [] c (no_target old) f also g h = absurd (cc)
  steps_kept last Q n front [] c (in_step old s others e another x) f also g h =
      let end : Section = record { number = n; row = c.row; front = front ++ c.row; body = c.body } in
      let same : s ≡ end = (same_sections s end others [] (s ∷ others) refl f).first in
      one_answer (is_line (codes "TO") s.row) (ap (λ (k : Section). is_line (codes "TO") k.row) same ∙ also) another
  steps_kept last Q n front [] c (behind_step old t s others step e another one x) f also g h =
      let end : Section = record { number = n; row = c.row; front = front ++ c.row; body = c.body } in
      let same : s ≡ end = (same_sections s end others [] (s ∷ others) refl f).first in
      one_answer (is_line (codes "TO") s.row) (ap (λ (k : Section). is_line (codes "TO") k.row) same ∙ also) another
  steps_kept last Q n front [] c (in_target old s others e to x) f also g h =
      let end : Section = record { number = n; row = c.row; front = front ++ c.row; body = c.body } in
      let same = same_sections s end others [] (s ∷ others) refl f in
      record {
        table = old;
        target = s;
        is_last = record {
          row = ap (λ (k : Section). k.row) same.first;
          body = ap (λ (k : Section). k.body) same.first;
          before = front;
          front = ap (λ (k : Section). k.front) same.first;
        };
        grows = (Q, g);
        bad = subst (λ (os : List Section). IsBadTarget last old s os e) same.rest x;
      }
  steps_kept last Q n front (d ∷ dones) c (no_target old) f also g h = absurd (cc)
  steps_kept last Q n front (d ∷ dones) c (in_step old s others e another x) f also g h =
      let here : Section = step_section names n (front ++ line (step_words d)) d in
      let later = chunk_sections (n + 1 + length (rows (part_text names 1 (tree d.part)))) ((front ++ line (step_words d)) ++ part_text names 1 (tree d.part)) (map (step_chunk names) dones ++ c ∷ []) in
      let same : s ≡ here = (same_sections s here others later (s ∷ others) refl f).first in
      absurd (step_kept old Q g n (front ++ line (step_words d)) d h.0 (subst (λ (k : Section). IsBadStep old k e) same x))
  steps_kept last Q n front (d ∷ dones) c (behind_step old t s others step e another one x) f also g h =
      let here : Section = step_section names n (front ++ line (step_words d)) d in
      let m = n + 1 + length (rows (part_text names 1 (tree d.part))) in
      let behind = (front ++ line (step_words d)) ++ part_text names 1 (tree d.part) in
      let later = chunk_sections m behind (map (step_chunk names) dones ++ c ∷ []) in
      let same = same_sections s here others later (s ∷ others) refl f in
      let is : IsStep old t here step = subst (λ (k : Section). IsStep old t k step) same.first one in
      let next : Grows names P t = grown old t Q g n (front ++ line (step_words d)) d h.0 step is in
      steps_kept last next.0 m behind dones c x same.rest also next.1 h.1
  steps_kept last Q n front (d ∷ dones) c (in_target old s others e to x) f also g h =
      let here : Section = step_section names n (front ++ line (step_words d)) d in
      let later = chunk_sections (n + 1 + length (rows (part_text names 1 (tree d.part)))) ((front ++ line (step_words d)) ++ part_text names 1 (tree d.part)) (map (step_chunk names) dones ++ c ∷ []) in
      let same : s ≡ here = (same_sections s here others later (s ∷ others) refl f).first in
      one_answer (is_line (codes "TO") s.row) to (ap (λ (k : Section). is_line (codes "TO") k.row) same ∙ not_to d h.0.written.said)

  pub steps_read : {t new : Table} {ss rest : List Section} {steps : List Step} (Q : ℕ → Place) (n : ℕ) (front : List ℕ) (dones : List Done) (c : Chunk) (target : Section)
      → AreSteps t new ss rest steps → ss ≡ chunk_sections n front (map (step_chunk names) dones ++ c ∷ []) → rest ≡ target ∷ []
      → is_line (codes "TO") target.row ≡ true → is_line (codes "TO") c.row ≡ true → IsGrown names P t Q → AllByRecursion (IsStepWell names P) dones
      → AreRead names P new dones steps c target
  steps_read Q n front [] c target (no_step old rest) e f to also g h =
      let s : Section = record { number = n; row = c.row; front = front ++ c.row; body = c.body } in
      let same : target ≡ s = (same_sections target s [] [] rest f e).first in
      record {
        steps_are = tt;
        last = record {
          row = ap (λ (k : Section). k.row) same;
          body = ap (λ (k : Section). k.body) same;
          before = front;
          front = ap (λ (k : Section). k.front) same;
        };
        grows = (Q, g);
      }
  steps_read Q n front (d ∷ dones) c target (no_step old rest) e f to also g h =
      let s : Section = step_section names n (front ++ line (step_words d)) d in
      let later = chunk_sections (n + 1 + length (rows (part_text names 1 (tree d.part)))) ((front ++ line (step_words d)) ++ part_text names 1 (tree d.part)) (map (step_chunk names) dones ++ c ∷ []) in
      let same : target ≡ s = (same_sections target s [] later rest f e).first in
      one_answer (is_line (codes "TO") target.row) to (ap (λ (k : Section). is_line (codes "TO") k.row) same ∙ not_to d h.0.written.said)
  steps_read Q n front [] c target (and_step old t new s ss rest step steps another one more) e f to also g h =
      let last : Section = record { number = n; row = c.row; front = front ++ c.row; body = c.body } in
      let same : s ≡ last = (same_sections s last ss [] (s ∷ ss) refl e).first in
      one_answer (is_line (codes "TO") s.row) (ap (λ (k : Section). is_line (codes "TO") k.row) same ∙ also) another
  steps_read Q n front (d ∷ dones) c target (and_step old t new s ss rest step steps another one more) e f to also g h =
      let here : Section = step_section names n (front ++ line (step_words d)) d in
      let m = n + 1 + length (rows (part_text names 1 (tree d.part))) in
      let behind = (front ++ line (step_words d)) ++ part_text names 1 (tree d.part) in
      let later = chunk_sections m behind (map (step_chunk names) dones ++ c ∷ []) in
      let same = same_sections s here ss later (s ∷ ss) refl e in
      let is : IsStep old t here step = subst (λ (k : Section). IsStep old t k step) same.first one in
      let next : Grows names P t = grown old t Q g n (front ++ line (step_words d)) d h.0 step is in
      let others = steps_read next.0 m behind dones c target more same.rest f to also next.1 h.1 in
      record { steps_are = (step_of old t Q g n (front ++ line (step_words d)) d h.0 step is, others.steps_are); last = others.last; grows = others.grows }
