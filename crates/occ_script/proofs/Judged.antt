-- The lines of a section as lines that are judged.
use Rattle.std.proofs.Common.{◌≡◌, ℕ, ◌+◌, ◌<◌, ◌≤◌, Bool, true, false, cond, eqb, List, [], ◌∷◌, length, drop, get_or, Option, Some, None, refl, sym, ap, subst, ◌∙◌, arith}
use Rattle.std.specs.Prelude.{MatchOption, is_some}
use Rattle.std.specs.List.{AllByRecursion}
use Rattle.std.proofs.lemmas.Bool.{eqb-true, eqb-false}
use Rattle.std.proofs.lemmas.List.{drop_more, take-append-drop}
use Rattle.occ_script_lines.specs.occ_lex.declared.fault.LineFault.{LineFault}
use Rattle.occ_script_lines.specs.occ_lex.declared.token.Line.{Line}
use Rattle.occ_script_lines.specs.occ_lex.Placed.{IsLineOf}
use Rattle.occ_script_lines.specs.occ_lex.declared.symbol.Row.{Row}
use Rattle.occ_script_lines.specs.occ_lex.Symbols.{rows_of, with_names_of_all}
use Rattle.occ_script_lines.proofs.from_lex.Interned.{extends_same}
use Rattle.occ_parse_part.specs.occ_parse_layout.declared.placed.Frame.{Frame}
use Rattle.occ_parse_part.specs.occ_parse_layout.declared.placed.Frame.TheVariants as frame
use Rattle.occ_parse_part.specs.occ_parse_layout.declared.placed.Placed.{Placed}
use Rattle.occ_parse_part.specs.occ_parse_layout.Layout.{laid_rows, least_bad}
use Rattle.occ_parse_part.specs.Parts.{IsNoPart, badly, behind}
use Rattle.occ_parse_part.specs.Parts.{IsIllLaid as IsIllPart}
use Rattle.occ_parse_part.specs.occ_parse.declared.bound.Bound.{Bound}
use Rattle.occ_parse_part.specs.occ_parse.declared.bound.Bound.TheVariants as bound
use Rattle.occ_parse_part.specs.occ_parse.declared.fault.ParseFault.{ParseFault}
use Rattle.occ_parse_part.specs.occ_parse.declared.fault.Which.{Which}
use Rattle.occ_parse_part.specs.occ_parse.Limits.{line_fault, line_limit, stop_at, stopped}
use Rattle.occ_parse_part.specs.occ_parse.Reading.{AreForms}
use Rattle.occ_parse_part.proofs.from_parse.Once.{OneForm, forms_once, none_some}
use Rattle.occ_parse_part.specs.occ_parse_rules.Forest.{Laid}
use Rattle.occ_script.specs.declared.content.Content.{Content}
use Rattle.occ_script.specs.declared.content.Content.TheVariants as content
use Rattle.occ_script.specs.declared.judging.JudgedLines.{JudgedLines}
use Rattle.occ_script.specs.Contents.{bound_of}
use Rattle.occ_script.specs.Lines.{AreJudged, AreLines, IsIll, IsIllLaid, IsWell, IsWellLaid, lacks_part, named_in, rows_in}
use Rattle.occ_script.specs.Lines as lines
use Rattle.occ_script_lines.specs.declared.section.Section.{Section as Seen}
use Rattle.occ_script_lines.specs.Sections.{Section, reading_in, section, upto}
use Rattle.occ_script_lines.proofs.Divided.{section_lines}
use Rattle.occ_script.proofs.Again.{lines_again}

abbrev Fault : Type 0
Fault = Option (ℕ × LineFault)

-- the text of a section as code has it
pub whole_text : (s : Seen) → upto (section s) ≡ s.upto.now
whole_text s = take-append-drop s.end s.upto.now

-- lines that were read and judged are those of the section
pub are_lines : (k : Content) (b : Bound) (old new : List (List ℕ)) (s : Seen) (ls : List Line) (fault : Fault) (rows : List Row) (found : JudgedLines) → s.end ≤ length s.upto.now → b ≡ bound_of k
    → (ls, fault) ≡ reading_in (section s) → rows ≡ rows_of s.upto.now old ls → new ≡ with_names_of_all s.upto.now old ls → AreForms (stopped b rows fault).0 (laid_rows found.judged.lines.items)
    → (stopped b rows fault).1 ≡ found.judged.stop → found.lines.items ≡ ls → AreLines k old new (section s) found
are_lines k b old new s ls fault rows found h bounds is rows_are table forms stop e =
    let same : ls ≡ (reading_in (section s)).0 = ap (λ r. r.0) is in
    let text : s.upto.now ≡ upto (section s) = sym (whole_text s) in
    let all : (b, (rows, fault)) ≡ (bound_of k, (rows_in (section s) old, (reading_in (section s)).1)) =
    λ i. (bounds i, ((rows_are ∙ ap (λ t. rows_of t old ls) text ∙ ap (rows_of (upto (section s)) old) same) i, ap (λ (r : List Line × Fault). r.1) is i)) in
    record {
      lines = e ∙ same;
      placed = subst (λ us. AllByRecursion (IsLineOf (upto (section s))) us) (sym (e ∙ same)) (subst (λ t. AllByRecursion (IsLineOf t) (reading_in (section s)).0) text (section_lines s h));
      judged = record {
        forms = subst (λ (r : Bound × (List Row × Fault)). AreForms (stopped r.0 r.1.0 r.1.1).0 (laid_rows found.judged.lines.items)) all forms;
        stop_is = sym (ap (λ (r : Bound × (List Row × Fault)). (stopped r.0 r.1.0 r.1.1).1) all) ∙ stop;
      };
      table = table ∙ ap (λ t. with_names_of_all t old ls) text ∙ ap (with_names_of_all (upto (section s)) old) same;
    }

-- the lines are those of the text that code has
pub placed_here : (k : Content) (old new : List (List ℕ)) (s : Seen) (found : JudgedLines) → AreLines k old new (section s) found → AllByRecursion (IsLineOf s.upto.now) found.lines.items
placed_here k old new s found a = subst (λ t. AllByRecursion (IsLineOf t) found.lines.items) (whole_text s) a.placed

some_not_none : (w : ParseFault) → Some w ≡ None → ⊥
some_not_none w e = cc

none_behind : (found : Fault) → line_fault found ≡ None → found ≡ None
none_behind None e = refl
none_behind (Some f) e = absurd (some_not_none _ e)

-- where nothing stops, no line is faulty
pub stopped_none : (b : Bound) (rows : List Row) (found : Fault) → (stopped b rows found).1 ≡ None → found ≡ None
stopped_none b [] found e = none_behind found e
stopped_none b (row ∷ rows) found e = at (stopped_none b rows found) (line_limit b row) e
  where
    at : ((stopped b rows found).1 ≡ None → found ≡ None) → (w : Option Which) → (stop_at row w (stopped b rows found)).1 ≡ None → found ≡ None
    at later None e = later e
    at later (Some w) e = absurd (some_not_none _ e)

-- ---- the layout of lines

-- where no line is bad, the fault behind them is the first one, if there is one
pub layout_end : (f : Frame) (ls : List Laid) (stop : Option ParseFault) → least_bad f (is_some stop) ls ≡ None → MatchOption stop (IsWellLaid f ls stop) (IsIllLaid f ls stop)
layout_end f ls None h = record { whole = refl; good = h }
layout_end f ls (Some e) h = lines.behind e refl h

-- ---- whether a part is lacking

pub small_level : (l : ℕ) (X : Bool) → l < 2 → eqb l 0 ≡ cond (eqb l 0) true (cond (eqb l 1) false X)
small_level l X h = at (eqb l 0) (eqb l 1) refl refl
  where
    at : (a b : Bool) → eqb l 0 ≡ a → eqb l 1 ≡ b → a ≡ cond a true (cond b false X)
    at true b e f = refl
    at false true e f = refl
    at false false e f = absurd (omega (arith, h, eqb-false l 0 e, eqb-false l 1 f))

pub large_level : (l : ℕ) (X : Bool) → 2 ≤ l → X ≡ cond (eqb l 0) true (cond (eqb l 1) false X)
large_level l X h = at (eqb l 0) (eqb l 1) refl refl
  where
    at : (a b : Bool) → eqb l 0 ≡ a → eqb l 1 ≡ b → X ≡ cond a true (cond b false X)
    at true b e f = absurd (omega (arith, h, eqb-true l 0 e))
    at false true e f = absurd (omega (arith, h, eqb-true l 1 f))
    at false false e f = refl

pub lacks_at : (ps : List Placed) (i : ℕ) (p : Placed) (stop : Option ParseFault) → i < length ps → p ≡ get_or ps i p
    → lacks_part (laid_rows (drop i ps)) stop ≡ cond (eqb p.level 0) true (cond (eqb p.level 1) false (lacks_part (laid_rows (drop (i + 1) ps)) stop))
lacks_at ps i p stop within is =
    ap (λ qs. lacks_part (laid_rows qs) stop) (drop_more ps i p within)
    ∙ ap (λ (q : Placed). cond (eqb q.level 0) true (cond (eqb q.level 1) false (lacks_part (laid_rows (drop (i + 1) ps)) stop))) (sym is)

-- ---- lines that are well laid out are a part

-- lines that are well laid out have no first fault as a part
not_bad : (ls ms : List Laid) (stop : Option ParseFault) {e : ParseFault} → ms ≡ ls → stop ≡ None → least_bad frame.Part false ls ≡ None → IsIllPart ms stop e → ⊥
not_bad ls ms stop same whole good (badly n h) =
    none_some n (least_bad frame.Part false ls) (least_bad frame.Part (is_some stop) ms) good h (ap (λ r. least_bad frame.Part (is_some r) ls) (sym whole) ∙ ap (least_bad frame.Part (is_some stop)) (sym same))
not_bad ls ms stop same whole good (behind f h k) = none_some f stop stop whole h refl

pub is_some_part : OneForm → (s : Section) (old : List (List ℕ)) (e : ParseFault) → IsWell content.Part old s → IsNoPart (upto s) (named_in s old) (reading_in s).0 e → ⊥
is_some_part one s old e w none = not_bad w.laid none.laid none.stop laid_same stop_none w.well.good none.ill
  where
    faultless : (reading_in s).1 ≡ None
    faultless = stopped_none bound.Script (rows_in s old) (reading_in s).1 (w.judged.stop_is ∙ w.well.whole)

    same : (stopped bound.Script (rows_in s old) (reading_in s).1) ≡ stopped bound.Script (rows_of (upto s) (named_in s old) (reading_in s).0) None
    same = ap (stopped bound.Script (rows_in s old)) faultless ∙ ap (λ rows. stopped bound.Script rows None) (sym (lines_again (upto s) old (named_in s old) (reading_in s).0 (extends_same (named_in s old))).rows)

    laid_same : none.laid ≡ w.laid
    laid_same = forms_once one (stopped bound.Script (rows_of (upto s) (named_in s old) (reading_in s).0) None).0 none.laid w.laid none.judged.forms
        (subst (λ (r : List Row × Option ParseFault). AreForms r.0 w.laid) same w.judged.forms)

    stop_none : none.stop ≡ None
    stop_none = sym none.judged.stop_is ∙ sym (ap (λ (r : List Row × Option ParseFault). r.1) same) ∙ w.judged.stop_is ∙ w.well.whole

-- the same as code has it
pub no_part_here : OneForm → (s : Seen) (old new : List (List ℕ)) (found : JudgedLines) (ls : List Line) → AreLines content.Part old new (section s) found → IsWellLaid frame.Part (laid_rows found.judged.lines.items) found.judged.stop
    → ls ≡ found.lines.items → (e : ParseFault) → IsNoPart s.upto.now new ls e → ⊥
no_part_here one s old new found ls a w is e none =
    let well : IsWell content.Part old (section s) = record { laid = laid_rows found.judged.lines.items; stop = found.judged.stop; judged = a.judged; well = w } in
    let same_text : (s.upto.now, (new, ls)) ≡ (upto (section s), (named_in (section s) old, (reading_in (section s)).0)) = λ i. (sym (whole_text s) i, (a.table i, (is ∙ a.lines) i)) in
    is_some_part one (section s) old e well (subst (λ (x : List ℕ × (List (List ℕ) × List Line)). IsNoPart x.0 x.1.0 x.1.1 e) same_text none)
