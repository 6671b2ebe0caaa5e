-- Lines have one reading as a part, since a line has one form and lines are those of one forest.
use Rattle.std.proofs.Common.{◌≡◌, ℕ, false, List, Option, Some, None, sym, ap, ◌∙◌}
use Rattle.std.specs.Prelude.{is_some}
use Rattle.occ_parse_forms.specs.occ_lex.declared.token.Line.{Line}
use Rattle.occ_parse_forms.specs.occ_lex.Symbols.{rows_of}
use Rattle.occ_parse_rules.specs.Forest.{Forest, Laid}
use Rattle.occ_parse.specs.occ_parse_layout.declared.placed.Frame.TheVariants as frame
use Rattle.occ_parse.specs.occ_parse_layout.Layout.{least_bad}
use Rattle.occ_parse.proofs.from_parse_layout.Once.{one_forest_of}
use Rattle.occ_parse.specs.declared.bound.Bound.TheVariants as bound
use Rattle.occ_parse.specs.declared.fault.ParseFault.{ParseFault}
use Rattle.occ_parse.specs.declared.fault.ParseFault.TheVariants as fault
use Rattle.occ_parse.specs.Limits.{stopped}
use Rattle.occ_parse.proofs.Once.{OneForm, some_one, none_some, forms_once}
use Rattle.occ_parse_part.specs.Parts.{AreJudged, IsIllLaid, badly, behind, IsPart, IsNoPart}

module _ (one : OneForm) where
  module _ (text : List ℕ) (old : List (List ℕ)) (lines : List Line) where
    laid_once : (ls ms : List Laid) (s t : Option ParseFault) → AreJudged text old lines ls s → AreJudged text old lines ms t → ls ≡ ms
    laid_once ls ms s t x y = forms_once one (stopped bound.Script (rows_of text old lines) None).0 ls ms x.forms y.forms

    stop_once : (ls ms : List Laid) (s t : Option ParseFault) → AreJudged text old lines ls s → AreJudged text old lines ms t → s ≡ t
    stop_once ls ms s t x y = sym x.stop_is ∙ y.stop_is

    bad_once : (ls ms : List Laid) (s t : Option ParseFault) → AreJudged text old lines ls s → AreJudged text old lines ms t
        → least_bad frame.Part (is_some s) ls ≡ least_bad frame.Part (is_some t) ms
    bad_once ls ms s t x y =
        ap (λ r. least_bad frame.Part (is_some r) ls) (stop_once ls ms s t x y) ∙ ap (λ ns. least_bad frame.Part (is_some t) ns) (laid_once ls ms s t x y)

    pub part_once : (f g : Forest) → IsPart text old lines f → IsPart text old lines g → f ≡ g
    part_once f g x y = one_forest_of 1 f g (x.well.lines ∙ laid_once x.laid y.laid x.stop y.stop x.judged y.judged ∙ sym y.well.lines)

    ill_once : (ls ms : List Laid) (s t : Option ParseFault) {f g : ParseFault} → AreJudged text old lines ls s → AreJudged text old lines ms t
        → IsIllLaid ls s f → IsIllLaid ms t g → f ≡ g
    ill_once ls ms s t x y (badly n h) (badly m e) =
        ap (λ k. fault.Form k) (some_one n m (least_bad frame.Part (is_some s) ls) (least_bad frame.Part (is_some t) ms) h e (bad_once ls ms s t x y))
    ill_once ls ms s t x y (badly n h) (behind g u e) =
        absurd (none_some n (least_bad frame.Part (is_some t) ms) (least_bad frame.Part (is_some s) ls) (ap (λ r. least_bad frame.Part (is_some r) ms) u ∙ e) h (bad_once ms ls t s y x))
    ill_once ls ms s t x y (behind f u h) (badly m e) =
        absurd (none_some m (least_bad frame.Part (is_some s) ls) (least_bad frame.Part (is_some t) ms) (ap (λ r. least_bad frame.Part (is_some r) ls) u ∙ h) e (bad_once ls ms s t x y))
    ill_once ls ms s t x y (behind f u h) (behind g v e) = some_one f g s t u v (stop_once ls ms s t x y)

    pub fault_once : (f g : ParseFault) → IsNoPart text old lines f → IsNoPart text old lines g → f ≡ g
    fault_once f g x y = ill_once x.laid y.laid x.stop y.stop x.judged y.judged x.ill y.ill

    not_ill : (ls ms : List Laid) (s t : Option ParseFault) {g : ParseFault} → AreJudged text old lines ls s → AreJudged text old lines ms t
        → s ≡ None → least_bad frame.Part false ls ≡ None → IsIllLaid ms t g → ⊥
    not_ill ls ms s t x y u h (badly m e) =
        none_some m (least_bad frame.Part (is_some s) ls) (least_bad frame.Part (is_some t) ms) (ap (λ r. least_bad frame.Part (is_some r) ls) u ∙ h) e (bad_once ls ms s t x y)
    not_ill ls ms s t x y u h (behind g v e) = none_some g s t u v (stop_once ls ms s t x y)

    pub not_both : (f : Forest) (g : ParseFault) → IsPart text old lines f → IsNoPart text old lines g → ⊥
    not_both f g x y =
        not_ill x.laid y.laid x.stop y.stop x.judged y.judged x.well.whole x.well.good y.ill
