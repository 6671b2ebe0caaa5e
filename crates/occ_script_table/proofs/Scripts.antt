-- A text is the same script where the table has all that reading brings in, and has the same first fault.
use Rattle.std.proofs.Common.{◌≡◌, ℕ, ◌<◌, List, [], ◌∷◌, ◌++◌, length, map, drop, ◌+◌, Option, Some, None, refl, sym, ap, subst, ◌∙◌}
use Rattle.std.specs.List.{AllByRecursion, concat}
use Rattle.std.proofs.lemmas.List.{append-nil}
use Rattle.occ_script_back.specs.occ_base.declared.names.Name.{Name}
use Rattle.occ_script_back.specs.occ_lex.Placed.{IsLineOf}
use Rattle.occ_script_back.specs.occ_lex.Rows.{reading_of, rows}
use Rattle.occ_script_back.proofs.from_lex.Placing.{concat-rows}
use Rattle.occ_script_back.specs.occ_lex.declared.symbol.Row.{Row}
use Rattle.occ_script_back.specs.occ_lex.Symbols.{Extends, rows_of}
use Rattle.occ_script_back.proofs.from_lex.Interned.{extends_all, extends_eq, extends_same, extends_trans}
use Rattle.occ_script_back.specs.occ_parse_part.declared.raw.Raw.{Raw}
use Rattle.occ_script_back.specs.occ_parse_part.Arrays.{array_names, arrays_of}
use Rattle.occ_script_back.specs.occ_parse_part.Elements.{with_arrays}
use Rattle.occ_script_back.specs.occ_parse_part.Parts.{IsPart}
use Rattle.occ_script_back.specs.occ_parse_part.Shown.{lines_of}
use Rattle.occ_script_back.proofs.from_parse_part.Known.{arrays_known}
use Rattle.occ_script_back.specs.occ_parse.declared.bound.Bound.{Bound}
use Rattle.occ_script_back.specs.occ_parse.declared.bound.Bound.TheVariants as bound
use Rattle.occ_script_back.specs.occ_parse.declared.fault.ParseFault.{ParseFault}
use Rattle.occ_script_back.specs.occ_parse.Drafts.{header_below, header_params}
use Rattle.occ_script_back.specs.occ_parse.Limits.{stopped}
use Rattle.occ_script_back.specs.occ_parse.Reading.{AreForms, names_in}
use Rattle.occ_script_back.specs.occ_parse_rules.Forest.{Laid, lines_at}
use Rattle.occ_script_back.specs.occ_parse_unroll.Elements.{program_places}
use Rattle.occ_script_back.proofs.from_parse_unroll.Elements.{places_extend}
use Rattle.occ_script_back.specs.occ_script.declared.content.Content.{Content}
use Rattle.occ_script_back.specs.occ_script.declared.content.Content.TheVariants as content
use Rattle.occ_script_back.specs.occ_script.declared.fault.ScriptFault.{ScriptFault}
use Rattle.occ_script_back.specs.occ_script.declared.script.Script.{Script}
use Rattle.occ_script_back.specs.occ_script.declared.script.Step.{Step}
use Rattle.occ_script_back.specs.occ_script.Contents.{bound_of}
use Rattle.occ_script_back.specs.occ_script.Lines.{AreJudged, IsIll, IsWell, named_in}
use Rattle.occ_script_back.specs.occ_script.Refusals.{IsBadEnd, IsBadHead, IsBadPart, IsBadProgram, IsBadStep, IsBadTarget, IsBadText, IsNoDerivation, IsScriptFault, IsUnformed, another, another_word, bad_head, bad_lines, bad_part, behind_head, behind_source, behind_step, earlier, further, in_from, in_lines, in_part, in_source, in_step, in_target, in_to, no_end, no_line, no_lines, no_part, no_source, no_step_line, no_target, next_line, too_long, unformed, unread}
use Rattle.occ_script_back.specs.occ_script.Scripts.{IsDerivation, IsEnd, IsFormed, IsHead, IsInOrder, IsProgram, IsScript}
use Rattle.occ_script_back.specs.occ_script.Steps.{AreSteps, HasPart, IsPartIn, IsStep, and_step, no_step}
use Rattle.occ_script_back.proofs.from_script.Again.{AreSameLines, lines_again}
use Rattle.occ_script_table.specs.Reached.{IsSoFrom}
use Rattle.occ_script_table.proofs.Parts.{arrays_extend, arrays_there, elements_same}
use Rattle.occ_script_table.proofs.Reading.{read_again, refused_again}
use Rattle.occ_script_table.proofs.Settled.{Table}
use Rattle.occ_script_back.specs.occ_script_lines.declared.section.Format.{Format}
use Rattle.occ_script_back.specs.occ_script_lines.declared.section.Format.TheVariants as format
use Rattle.occ_script_back.specs.occ_script_lines.Sections.{Section, last_line_of, reading_in, upto}
use Rattle.occ_script_back.proofs.from_script_lines.Placing.{lines_placed}
use Rattle.occ_script_back.specs.occ_syntax.declared.scope.Program.{Program}
use Rattle.occ_script_back.specs.occ_syntax.View.{tree}

-- ---- the lines of a section

after_front : (front body : List ℕ) → drop (length front) (front ++ body) ≡ body
after_front [] body = refl
after_front (x ∷ front) body = after_front front body

pub lines_there : (s : Section) → AllByRecursion (IsLineOf (upto s)) (reading_in s).0
lines_there s =
    lines_placed (upto s) [] (s.number + 1) (length s.front) (rows s.body)
    (after_front s.front s.body ∙ sym (append-nil (concat (rows s.body)) ∙ concat-rows s.body))

pub named_grow : (s : Section) (old : Table) → Extends old (named_in s old)
named_grow s old = extends_all (upto s) old (reading_in s).0

module _ (s : Section) (old T : Table) (e : Extends (named_in s old) T) where
  same : AreSameLines (upto s) old T (reading_in s).0
  same = lines_again (upto s) old T (reading_in s).0 e

  pub named_again : named_in s T ≡ T
  named_again = same.table

  judged_again : (k : Content) (laid : List Laid) (stop : Option ParseFault) → AreJudged k old s laid stop → AreJudged k T s laid stop
  judged_again k laid stop h = record {
    forms = subst (λ (rs : List Row). AreForms (stopped (bound_of k) rs (reading_in s).1).0 laid) (sym same.rows) h.forms;
    stop_is = ap (λ (rs : List Row). (stopped (bound_of k) rs (reading_in s).1).1) same.rows ∙ h.stop_is;
  }

  well_again : (k : Content) → IsWell k old s → IsWell k T s
  well_again k h = record { laid = h.laid; stop = h.stop; judged = judged_again k h.laid h.stop h.judged; well = h.well }

  ill_again : (k : Content) (fault : ParseFault) → IsIll k old s fault → IsIll k T s fault
  ill_again k fault h = record { laid = h.laid; stop = h.stop; judged = judged_again k h.laid h.stop h.judged; ill = h.ill }

  has_part_again : HasPart old s → HasPart T s
  has_part_again h = record { laid = h.laid; stop = h.stop; judged = judged_again content.Part h.laid h.stop h.judged; there = h.there }

  pub head_again : (f : Format) → IsHead f old s → IsHead f T s
  head_again f h = record { line = h.line; empty = judged_again content.Part [] None h.empty }

  pub in_order_again : (k : Content) (text : List ℕ) → IsInOrder k old s text → IsInOrder k T s text
  in_order_again k text h = record { there = h.there; well = well_again k h.well; text_is = h.text_is }

  -- ---- faults

  pub bad_head_again : (f : Format) (fault : ScriptFault) → IsBadHead f old s fault → IsBadHead f T s fault
  bad_head_again f fault (earlier h) = earlier h
  bad_head_again f fault (another h k) = another h k
  bad_head_again f fault (further line lines stop h k j) = further line lines stop h k (judged_again content.Part (line ∷ lines) stop j)
  bad_head_again f fault (unread d h k j) = unread d h k (judged_again content.Part [] (Some d) j)

  pub bad_program_again : (k : Content) (next : ℕ) (fault : ScriptFault) → IsBadProgram k old s next fault → IsBadProgram k T s next fault
  bad_program_again k next fault (no_lines h) = no_lines h
  bad_program_again k next fault (bad_lines d h ill) = bad_lines d h (ill_again k d ill)

  bad_part_again : (fault : ScriptFault) → IsBadPart old s fault → IsBadPart T s fault
  bad_part_again fault (no_part laid stop j h) = no_part laid stop (judged_again content.Part laid stop j) h
  bad_part_again fault (bad_part d h ill) = bad_part d (has_part_again h) (ill_again content.Part d ill)

  pub bad_step_again : (fault : ScriptFault) → IsBadStep old s fault → IsBadStep T s fault
  bad_step_again fault (no_step_line h) = no_step_line h
  bad_step_again fault (in_part h d k bad) = in_part h d k (bad_part_again d bad)

  pub bad_target_again : (last : ℕ) (others : List Section) (fault : ScriptFault) → IsBadTarget last old s others fault → IsBadTarget last T s others fault
  bad_target_again last others fault (in_lines rest d bad) = in_lines rest d (bad_program_again content.Last (next_line rest last) d bad)
  bad_target_again last others fault (no_end text more rest h) = no_end text more rest (in_order_again content.Last text h)

-- ---- a part, and a step

module _ (old new : Table) (s : Section) (part : Raw) (h : IsPartIn old new s part) where
  abbrev base : Table
  base = named_in s old

  abbrev arrays : List Name
  arrays = array_names (lines_at 1 (lines_of part))

  as_numbers : (xs : List ℕ) → map (λ (x : Name). x.0) (map (λ (x : ℕ). record { 0 = x }) xs) ≡ xs
  as_numbers [] = refl
  as_numbers (x ∷ xs) = ap (λ ys. x ∷ ys) (as_numbers xs)

  twice : named_in s base ≡ base
  twice = named_again s old base (extends_same base)

  table_is : new ≡ with_arrays base arrays
  table_is = h.table ∙ ap (λ t. with_arrays t arrays) twice

  pub part_grows : Extends base new
  part_grows = subst (Extends base) (sym table_is) (arrays_extend base arrays)

  arrays_low : AllByRecursion (λ (x : Name). x.0 < length base) arrays
  arrays_low =
      arrays_known (upto s) base base (reading_in s).0 h.lines.laid h.lines.stop arrays (lines_there s) (subst (λ t. Extends t base) (sym twice) (extends_same base)) h.lines.judged
      (as_numbers (arrays_of (lines_at 1 (lines_of part))) ∙ ap arrays_of h.lines.well.lines)

  module _ (T : Table) (e : Extends new T) where
    names : Extends base T
    names = extends_trans base new T part_grows e

    behind : Extends (with_arrays base arrays) T
    behind = subst (λ t. Extends t T) table_is e

    part_again : IsPartIn T T s part
    part_again =
        let steady : named_in s T ≡ T = named_again s old T names in
        let rows_same : rows_of (upto s) T (reading_in s).0 ≡ rows_of (upto s) base (reading_in s).0 =
        (lines_again (upto s) base T (reading_in s).0 (subst (λ t. Extends t T) (sym twice) names)).rows in
        let again : IsPart (upto s) T (reading_in s).0 (lines_of part) = record {
          laid = h.lines.laid;
          stop = h.lines.stop;
          judged = record {
            forms = subst (λ (rs : List Row). AreForms (stopped bound.Script rs None).0 h.lines.laid) (sym rows_same) h.lines.judged.forms;
            stop_is = ap (λ (rs : List Row). (stopped bound.Script rs None).1) rows_same ∙ h.lines.judged.stop_is;
          };
          well = h.lines.well;
        } in
        record {
          well = well_again s old T names content.Part h.well;
          lines = subst (λ t. IsPart (upto s) t (reading_in s).0 (lines_of part)) (sym steady) again;
          table = sym (ap (λ t. with_arrays (named_in s t) arrays) steady ∙ ap (λ t. with_arrays t arrays) steady ∙ arrays_there base T arrays arrays_low behind);
          elements = h.elements ∙ elements_same base new T arrays arrays_low (extends_eq (with_arrays base arrays) new table_is) behind;
        }

pub step_grows : (old new : Table) (s : Section) (step : Step) → IsStep old new s step → Extends old new
step_grows old new s step h = extends_trans old (named_in s old) new (named_grow s old) (part_grows old new s step.part h.part)

pub step_again : (old new T : Table) (s : Section) (step : Step) → IsStep old new s step → Extends new T → IsStep T T s step
step_again old new T s step h e = record {
  name = h.name;
  head = h.head;
  law = h.law;
  has_part = has_part_again s old T (extends_trans (named_in s old) new T (part_grows old new s step.part h.part) e) h.has_part;
  part = part_again old new s step.part h.part T e;
}

-- ---- steps one by one, and the whole

steps_grow : (old new : Table) (ss rest : List Section) (steps : List Step) → AreSteps old new ss rest steps → Extends old new
steps_grow old new ss rest steps (no_step a others) = extends_same a
steps_grow old new ss rest steps (and_step a t b s more others step later line h k) =
    extends_trans a t b (step_grows a t s step h) (steps_grow t b more others later k)

steps_again : (old new T : Table) (ss rest : List Section) (steps : List Step) → AreSteps old new ss rest steps → Extends new T → AreSteps T T ss rest steps
steps_again old new T ss rest steps (no_step a others) e = no_step T others
steps_again old new T ss rest steps (and_step a t b s more others step later line h k) e =
    and_step T T T s more others step later line (step_again a t T s step h (extends_trans t b T (steps_grow t b more others later k) e)) (steps_again t b T more others later k e)

end_grows : (old new : Table) (ss : List Section) (steps : List Step) (to : List ℕ) → IsEnd old new ss steps to → Extends old new
end_grows old new ss steps to h =
    subst (Extends old) (sym h.table)
    (extends_trans old h.between (named_in h.target h.between) (steps_grow old h.between ss (h.target ∷ []) steps h.are_steps) (named_grow h.target h.between))

end_again : (old new T : Table) (ss : List Section) (steps : List Step) (to : List ℕ) → IsEnd old new ss steps to → Extends new T → IsEnd T T ss steps to
end_again old new T ss steps to h e =
    let last : Extends (named_in h.target h.between) T = subst (λ t. Extends t T) h.table e in
    let t = h.between in
    record {
      target = h.target;
      between = T;
      are_steps = steps_again old t T ss (h.target ∷ []) steps h.are_steps (extends_trans t (named_in h.target t) T (named_grow h.target t) last);
      line = h.line;
      lines = in_order_again h.target t T last content.Last to h.lines;
      table = sym (named_again h.target t T last);
    }

module _ (old new : Table) (ss : List Section) (from : List ℕ) (steps : List Step) (to : List ℕ) (h : IsDerivation old new ss from steps to) where
  source_grows : Extends (named_in h.source old) new
  source_grows = end_grows (named_in h.source old) new h.rest steps to h.is_end

  derivation_grows : Extends old new
  derivation_grows = extends_trans old (named_in h.source old) new (named_grow h.source old) source_grows

  derivation_again : (T : Table) → Extends new T → IsDerivation T T ss from steps to
  derivation_again T e =
      let first : Extends (named_in h.source old) T = extends_trans (named_in h.source old) new T source_grows e in
      record {
        source = h.source;
        rest = h.rest;
        parts = h.parts;
        line = h.line;
        lines = in_order_again h.source old T first content.First from h.lines;
        is_end = subst (λ t. IsEnd t T h.rest steps to) (sym (named_again h.source old T first)) (end_again (named_in h.source old) new T h.rest steps to h.is_end e);
      }

module _ (text : List ℕ) (old new : Table) (from : List ℕ) (steps : List Step) (to : List ℕ) (h : IsFormed text old new from steps to) where
  head_grows : Extends (named_in h.head old) new
  head_grows = derivation_grows (named_in h.head old) new h.rest from steps to h.derivation

  pub formed_grows : Extends old new
  formed_grows = extends_trans old (named_in h.head old) new (named_grow h.head old) head_grows

  pub formed_again : (T : Table) → Extends new T → IsFormed text T T from steps to
  formed_again T e =
      let first : Extends (named_in h.head old) T = extends_trans (named_in h.head old) new T head_grows e in
      record {
        head = h.head;
        rest = h.rest;
        parts = h.parts;
        is_head = head_again h.head old T first format.Script h.is_head;
        derivation = subst (λ t. IsDerivation t T h.rest from steps to) (sym (named_again h.head old T first))
            (derivation_again (named_in h.head old) new h.rest from steps to h.derivation T e);
      }

pub names_grow : (b : Bound) (text : List ℕ) (old new : Table) (program : Program) (numbers : List ℕ) → IsProgram b text old new program numbers → Extends (names_in text old) new
names_grow b text old new program numbers r =
    subst (Extends (names_in text old)) (sym r.table) (places_extend (names_in text old) (program_places (header_params r.draft) (header_below r.draft)))

pub program_grows : (b : Bound) (text : List ℕ) (old new : Table) (program : Program) (numbers : List ℕ) → IsProgram b text old new program numbers → Extends old new
program_grows b text old new program numbers r =
    extends_trans old (names_in text old) new (extends_all text old (reading_of text).0) (names_grow b text old new program numbers r)

pub script_again : (text : List ℕ) (old new T : Table) (script : Script) → IsScript text old new script → Extends new T → IsScript text T T script
script_again text old new T script h e =
    let F = h.formed_table in
    let second : Extends h.between T = extends_trans h.between new T (program_grows bound.Script h.to h.between new script.to h.numbers h.is_to) e in
    let first : Extends F T = extends_trans F h.between T (program_grows bound.First h.from F h.between script.from.program script.from.lines h.is_from) second in
    record {
      short = h.short;
      from = h.from;
      to = h.to;
      formed_table = T;
      formed = formed_again text old F h.from script.steps h.to h.formed T first;
      between = T;
      is_from = read_again bound.First h.from F h.between T script.from.program.name script.from.program.params (tree script.from.program.body) script.from.lines h.is_from second;
      numbers = h.numbers;
      is_to = read_again bound.Script h.to h.between new T script.to.name script.to.params (tree script.to.body) h.numbers h.is_to e;
    }

-- ---- the first fault of a whole script

unfoldable pub end_refused : (last : ℕ) (old : Table) (ss : List Section) (fault : ScriptFault) → IsBadEnd last old ss fault → IsSoFrom old (λ T. IsBadEnd last T ss fault)
end_refused last old ss fault (no_target a) = record { reached = a; grows = extends_same a; holds = λ T e. no_target T }
end_refused last old ss fault (in_step a s others d line bad) = record {
  reached = named_in s a;
  grows = named_grow s a;
  holds = λ T e. in_step T s others d line (bad_step_again s a T e d bad);
}
end_refused last old ss fault (behind_step a t s others step d line h bad) =
    let later = end_refused last t others d bad in
    record {
      reached = later.reached;
      grows = extends_trans a t later.reached (step_grows a t s step h) later.grows;
      holds = λ T e. behind_step T T s others step d line (step_again a t T s step h (extends_trans t later.reached T later.grows e)) (later.holds T e);
    }
end_refused last old ss fault (in_target a s others d line bad) = record {
  reached = named_in s a;
  grows = named_grow s a;
  holds = λ T e. in_target T s others d line (bad_target_again s a T e last others d bad);
}

unfoldable pub derivation_refused : (last : ℕ) (old : Table) (ss : List Section) (fault : ScriptFault) → IsNoDerivation last old ss fault
    → IsSoFrom old (λ T. IsNoDerivation last T ss fault)
derivation_refused last old ss fault no_source = record { reached = old; grows = extends_same old; holds = λ T e. no_source }
derivation_refused last old ss fault (another_word s others line) = record { reached = old; grows = extends_same old; holds = λ T e. another_word s others line }
derivation_refused last old ss fault (in_source s others d line bad) = record {
  reached = named_in s old;
  grows = named_grow s old;
  holds = λ T e. in_source s others d line (bad_program_again s old T e content.First (next_line others last) d bad);
}
derivation_refused last old ss fault (behind_source text s others d line lines bad) =
    let t = named_in s old in
    let later = end_refused last t others d bad in
    record {
      reached = later.reached;
      grows = extends_trans old t later.reached (named_grow s old) later.grows;
      holds = λ T e.
          let here : Extends t T = extends_trans t later.reached T later.grows e in
          behind_source text s others d line (in_order_again s old T here content.First text lines)
          (subst (λ u. IsBadEnd last u others d) (sym (named_again s old T here)) (later.holds T e));
    }

unfoldable pub unformed_refused : (text : List ℕ) (old : Table) (fault : ScriptFault) → IsUnformed text old fault → IsSoFrom old (λ T. IsUnformed text T fault)
unformed_refused text old fault (no_line h) = record { reached = old; grows = extends_same old; holds = λ T e. no_line h }
unformed_refused text old fault (bad_head head rest d h bad) = record {
  reached = named_in head old;
  grows = named_grow head old;
  holds = λ T e. bad_head head rest d h (bad_head_again head old T e format.Script d bad);
}
unformed_refused text old fault (behind_head head rest d h is bad) =
    let t = named_in head old in
    let later = derivation_refused (last_line_of text) t rest d bad in
    record {
      reached = later.reached;
      grows = extends_trans old t later.reached (named_grow head old) later.grows;
      holds = λ T e.
          let here : Extends t T = extends_trans t later.reached T later.grows e in
          behind_head head rest d h (head_again head old T here format.Script is)
          (subst (λ u. IsNoDerivation (last_line_of text) u rest d) (sym (named_again head old T here)) (later.holds T e));
    }

pub bad_text_again : (b : Bound) (text : List ℕ) (old T : Table) (fault : ScriptFault) → Extends (names_in text old) T → IsBadText b text old fault → IsBadText b text T fault
bad_text_again b text old T fault e h = record { fault = h.fault; refused = refused_again b text old T e h.fault h.refused; is = h.is }

unfoldable pub script_refused : (text : List ℕ) (old : Table) (fault : ScriptFault) → IsScriptFault text old fault → IsSoFrom old (λ T. IsScriptFault text T fault)
script_refused text old fault (too_long h) = record { reached = old; grows = extends_same old; holds = λ T e. too_long h }
script_refused text old fault (unformed d h bad) =
    let r = unformed_refused text old d bad in record { reached = r.reached; grows = r.grows; holds = λ T e. unformed d h (r.holds T e) }
script_refused text old fault (in_from t from to steps d h formed bad) =
    let N = names_in from t in
    let more : Extends t N = extends_all from t (reading_of from).0 in
    record {
      reached = N;
      grows = extends_trans old t N (formed_grows text old t from steps to formed) more;
      holds = λ T e. in_from T from to steps d h (formed_again text old t from steps to formed T (extends_trans t N T more e)) (bad_text_again bound.First from t T d e bad);
    }
script_refused text old fault (in_to t between from to steps program numbers d h formed read bad) =
    let N = names_in to between in
    let more : Extends between N = extends_all to between (reading_of to).0 in
    let grown : Extends t between = program_grows bound.First from t between program numbers read in
    record {
      reached = N;
      grows = extends_trans old t N (formed_grows text old t from steps to formed) (extends_trans t between N grown more);
      holds = λ T e.
          let second : Extends between T = extends_trans between N T more e in
          in_to T T from to steps program numbers d h (formed_again text old t from steps to formed T (extends_trans t between T grown second))
          (read_again bound.First from t between T program.name program.params (tree program.body) numbers read second) (bad_text_again bound.Script to between T d e bad);
    }
