-- Lines as a part.
use Rattle.std.proofs.Common.{◌≡◌, ℕ, Bool, true, false, List, [], ◌∷◌, map, Option, Some, None, refl, sym, ap, subst, ◌∙◌}
use Rattle.std.specs.Prelude.{is_some}
use Rattle.occ_syntax.specs.occ_base.declared.names.Name.{Name}
use Rattle.occ_syntax.specs.View.{numbers}
use Rattle.occ_parse_forms.specs.occ_lex.declared.token.Line.{Line}
use Rattle.occ_parse_forms.specs.occ_lex.declared.symbol.Row.{Row}
use Rattle.occ_parse_forms.specs.occ_lex.Symbols.{rows_of}
use Rattle.occ_parse_rules.specs.Forest.{Forest, Laid, lines_at}
use Rattle.occ_parse.specs.occ_parse_layout.declared.placed.Frame.TheVariants as frame
use Rattle.occ_parse.specs.occ_parse_layout.Layout.{least_bad}
use Rattle.occ_parse.specs.occ_parse_layout.Nesting.{Nest}
use Rattle.occ_parse.specs.occ_parse_layout.Whole.{every_line, is_single}
use Rattle.occ_parse.proofs.from_parse_layout.Levels.{good_nest}
use Rattle.occ_parse.proofs.from_parse_layout.Framed.{single_of}
use Rattle.occ_parse.proofs.from_parse_layout.Options.{options_of}
use Rattle.occ_parse_rules.specs.Sound.{are_placed}
use Rattle.occ_parse.proofs.Placed.{placed_from}
use Rattle.occ_parse.specs.declared.bound.Bound.TheVariants as bound
use Rattle.occ_parse.specs.declared.fault.ParseFault.{ParseFault}
use Rattle.occ_parse.specs.declared.fault.ParseFault.TheVariants as fault
use Rattle.occ_parse.specs.Limits.{stopped}
use Rattle.occ_parse.specs.Reading.{AreForms}
use Rattle.occ_parse_part.specs.Arrays.{array_names, arrays_of}
use Rattle.occ_parse_part.specs.Parts.{AreJudged, IsWellLaid, IsIllLaid, badly, behind}

module _ (rows : List Laid) (stop : Option ParseFault) (more : Bool) (r : Option ℕ) (m : more ≡ is_some stop) (h : r ≡ least_bad frame.Part more rows) where
  good : r ≡ None → stop ≡ None → least_bad frame.Part false rows ≡ None
  good n s = ap (λ a. least_bad frame.Part a rows) (sym (m ∙ ap (λ t. is_some t) s)) ∙ sym h ∙ n

  pub good_nests : r ≡ None → stop ≡ None → Nest 1 1 rows
  good_nests n s = good_nest frame.Part false rows (good n s)

  pub bad_line : (n : ℕ) → r ≡ Some n → IsIllLaid rows stop (fault.Form n)
  bad_line n e = badly n (ap (λ a. least_bad frame.Part a rows) (sym m) ∙ sym h ∙ e)

  pub line_behind : (f : ParseFault) → r ≡ None → stop ≡ Some f → IsIllLaid rows stop f
  line_behind f n s = behind f s (ap (λ a. least_bad frame.Part a rows) (sym (m ∙ ap (λ t. is_some t) s)) ∙ sym h ∙ n)

-- a part has no replicators, and declares nothing among choices and alternatives
pub part_single : (rows : List Laid) (stop : Option ParseFault) (f : Forest) → IsWellLaid rows stop f → every_line is_single f ≡ true
part_single rows stop f w = single_of frame.Part 1 rows f (λ k. refl) w.lines w.good

pub part_placed : (rows : List Laid) (stop : Option ParseFault) (f : Forest) → IsWellLaid rows stop f → are_placed f ≡ true
part_placed rows stop f w = placed_from f (options_of frame.Part false 1 rows f w.lines w.good)

-- ---- the lines of a part

pub judged_of : (text : List ℕ) (old : List (List ℕ)) (lines : List Line) (rows : List Row) (laid : List Laid) (stop : Option ParseFault) → rows ≡ rows_of text old lines
    → AreForms (stopped bound.Script rows None).0 laid → (stopped bound.Script rows None).1 ≡ stop → AreJudged text old lines laid stop
judged_of text old lines rows laid stop e f s = record {
  forms = subst (λ rs. AreForms (stopped bound.Script rs None).0 laid) e f;
  stop_is = sym (ap (λ rs. (stopped bound.Script rs None).1) e) ∙ s;
}

-- arrays by their numbers
pub names_are : (arrays : List Name) (xs : List ℕ) → numbers arrays ≡ xs → arrays ≡ map (λ x. record { 0 = x }) xs
names_are arrays xs e = again arrays ∙ ap (map (λ x. record { 0 = x })) e
  where
    again : (arrays : List Name) → arrays ≡ map (λ x. record { 0 = x }) (numbers arrays)
    again [] = refl
    again (x ∷ arrays) = ap (λ xs. x ∷ xs) (again arrays)

pub named_here : (arrays : List Name) (laid : List Laid) (f : Forest) → numbers arrays ≡ arrays_of laid → lines_at 1 f ≡ laid → arrays ≡ array_names (lines_at 1 f)
named_here arrays laid f e h = names_are arrays (arrays_of laid) e ∙ ap array_names (sym h)
