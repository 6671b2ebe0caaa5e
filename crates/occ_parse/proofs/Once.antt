-- A text has one reading, since a line has one form and lines are those of one forest.
use Rattle.std.proofs.Common.{◌≡◌, ℕ, true, false, List, [], ◌∷◌, Option, Some, None, refl, sym, ap, ◌∙◌}
use Rattle.std.specs.Prelude.{is_some}
use Rattle.occ_syntax.specs.occ_base.declared.names.Name.{Name}
use Rattle.occ_syntax.specs.declared.scope.Kind.{Kind}
use Rattle.occ_syntax.specs.Tree.{Tree}
use Rattle.occ_parse_rules.specs.occ_lex.declared.symbol.Row.{Row}
use Rattle.occ_parse_rules.specs.occ_lex.declared.symbol.Symbol.{Symbol}
use Rattle.occ_parse_rules.specs.occ_parse_forms.Lines.{IsForm}
use Rattle.occ_parse_rules.specs.occ_parse_forms.Shape.{Shape}
use Rattle.occ_parse_rules.specs.occ_lex.Rows.{reading_of}
use Rattle.occ_parse_rules.specs.Forest.{Forest, Laid, lines_at}
use Rattle.occ_parse_rules.specs.Unrolled.{params_named, slot_process, lined}
use Rattle.occ_parse_rules.specs.Programs.{param_scope}
use Rattle.occ_parse_layout.specs.Layout.{least_bad}
use Rattle.occ_parse_layout.proofs.Once.{one_forest_of}
use Rattle.occ_parse_unroll.specs.Elements.{with_elements}
use Rattle.occ_parse_unroll.specs.Numbers.{number_in}
use Rattle.occ_parse.specs.declared.bound.Bound.{Bound}
use Rattle.occ_parse.specs.declared.fault.ParseFault.{ParseFault}
use Rattle.occ_parse.specs.declared.fault.ParseFault.TheVariants as fault
use Rattle.occ_parse.specs.Limits.{is_too_long, frame_of, stopped}
use Rattle.occ_parse.specs.Drafts.{header_name, header_params, header_below, draft_fault}
use Rattle.occ_parse.specs.Reading.{IsSaid, AreForms, AreJudged, IsLaidOut, IsRefused, too_long, badly_laid, at_line, in_draft, IsRead, SameReading, names_in, rows_in}

-- a line has one form
abbrev pub OneForm : Type 0
OneForm = (symbols : List Symbol) (s t : Shape) → IsForm symbols s → IsForm symbols t → s ≡ t

-- equal options have equal values
pub some_one : {A : Type 0} (x y : A) (o p : Option A) → o ≡ Some x → p ≡ Some y → o ≡ p → x ≡ y
some_one x y o p a b e = let h : Some x ≡ Some y = sym a ∙ e ∙ b in cc

-- an option is not both
pub none_some : {A : Type 0} (x : A) (o p : Option A) → o ≡ None → p ≡ Some x → o ≡ p → ⊥
none_some x o p a b e = let h : None ≡ Some x = sym a ∙ e ∙ b in absurd cc

module _ (one : OneForm) where
  -- a row says one thing
  pub said_once : (row : Row) (l m : Laid) → IsSaid row l → IsSaid row m → l ≡ m
  said_once row l m a b =
      let numbers : l.number ≡ m.number = sym a.number ∙ b.number in
      let levels : l.level ≡ m.level = sym a.level ∙ b.level in
      let shapes : l.shape ≡ m.shape = one row.symbols l.shape m.shape a.form b.form in
      λ i. record { number = numbers i; level = levels i; shape = shapes i }

  -- rows say one list of things
  pub forms_once : (rows : List Row) (ls ms : List Laid) → AreForms rows ls → AreForms rows ms → ls ≡ ms
  forms_once [] [] [] a b = refl
  forms_once [] [] (m ∷ ms) a b = absurd b
  forms_once [] (l ∷ ls) ms a b = absurd a
  forms_once (row ∷ rows) [] ms a b = absurd a
  forms_once (row ∷ rows) (l ∷ ls) [] a b = absurd b
  forms_once (row ∷ rows) (l ∷ ls) (m ∷ ms) a b =
      let first : l ≡ m = said_once row l m a.0 b.0 in
      let rest : ls ≡ ms = forms_once rows ls ms a.1 b.1 in
      λ i. first i ∷ rest i

  module _ (b : Bound) (text : List ℕ) (old : List (List ℕ)) where
    laid_once : (ls ms : List Laid) (s t : Option ParseFault) → AreJudged b text old ls s → AreJudged b text old ms t → ls ≡ ms
    laid_once ls ms s t x y = forms_once (stopped b (rows_in text old) (reading_of text).1).0 ls ms x.forms y.forms

    stop_once : (ls ms : List Laid) (s t : Option ParseFault) → AreJudged b text old ls s → AreJudged b text old ms t → s ≡ t
    stop_once ls ms s t x y = sym x.stop_is ∙ y.stop_is

    bad_once : (ls ms : List Laid) (s t : Option ParseFault) → AreJudged b text old ls s → AreJudged b text old ms t
        → least_bad (frame_of b) (is_some s) ls ≡ least_bad (frame_of b) (is_some t) ms
    bad_once ls ms s t x y =
        ap (λ r. least_bad (frame_of b) (is_some r) ls) (stop_once ls ms s t x y) ∙ ap (λ ns. least_bad (frame_of b) (is_some t) ns) (laid_once ls ms s t x y)

    pub draft_once : (f g : Forest) → IsLaidOut b text old f → IsLaidOut b text old g → f ≡ g
    draft_once f g x y = one_forest_of 0 f g (laid_once (lines_at 0 f) (lines_at 0 g) None None x.judged y.judged)

    fault_once : (f g : Forest) → IsLaidOut b text old f → IsLaidOut b text old g → draft_fault b f ≡ draft_fault b g
    fault_once f g x y = ap (λ h. draft_fault b h) (draft_once f g x y)

    short_and_long : {A : Type 0} → is_too_long b text ≡ true → is_too_long b text ≡ false → A
    short_and_long x y = let h : true ≡ false = sym x ∙ y in absurd cc

    pub refused_once : {f g : ParseFault} → IsRefused b text old f → IsRefused b text old g → f ≡ g
    refused_once (too_long x) (too_long y) = refl
    refused_once (too_long x) (badly_laid ms t m y e) = short_and_long x y.short
    refused_once (too_long x) (at_line ms g y e) = short_and_long x y.short
    refused_once (too_long x) (in_draft d g y e) = short_and_long x y.judged.short
    refused_once (badly_laid ls s n x h) (too_long y) = short_and_long y x.short
    refused_once (badly_laid ls s n x h) (badly_laid ms t m y e) =
        ap (λ k. fault.Form k) (some_one n m (least_bad (frame_of b) (is_some s) ls) (least_bad (frame_of b) (is_some t) ms) h e (bad_once ls ms s t x y))
    refused_once (badly_laid ls s n x h) (at_line ms g y e) =
        absurd (none_some n (least_bad (frame_of b) true ms) (least_bad (frame_of b) (is_some s) ls) e h (bad_once ms ls (Some g) s y x))
    refused_once (badly_laid ls s n x h) (in_draft d g y e) =
        absurd (none_some n (least_bad (frame_of b) false (lines_at 0 d)) (least_bad (frame_of b) (is_some s) ls) y.good h (bad_once (lines_at 0 d) ls None s y.judged x))
    refused_once (at_line ls f x h) (too_long y) = short_and_long y x.short
    refused_once (at_line ls f x h) (badly_laid ms t m y e) =
        absurd (none_some m (least_bad (frame_of b) true ls) (least_bad (frame_of b) (is_some t) ms) h e (bad_once ls ms (Some f) t x y))
    refused_once (at_line ls f x h) (at_line ms g y e) = some_one f g (Some f) (Some g) refl refl (stop_once ls ms (Some f) (Some g) x y)
    refused_once (at_line ls f x h) (in_draft d g y e) = absurd (none_some f None (Some f) refl refl (stop_once (lines_at 0 d) ls None (Some f) y.judged x))
    refused_once (in_draft d f x h) (too_long y) = short_and_long y x.judged.short
    refused_once (in_draft d f x h) (badly_laid ms t m y e) =
        absurd (none_some m (least_bad (frame_of b) false (lines_at 0 d)) (least_bad (frame_of b) (is_some t) ms) x.good e (bad_once (lines_at 0 d) ms None t x.judged y))
    refused_once (in_draft d f x h) (at_line ms g y e) = absurd (none_some g None (Some g) refl refl (stop_once (lines_at 0 d) ms None (Some g) x.judged y))
    refused_once (in_draft d f x h) (in_draft c g y e) = some_one f g (draft_fault b d) (draft_fault b c) h e (fault_once d c x y)

    pub not_both : (d : Forest) {f : ParseFault} → IsLaidOut b text old d → draft_fault b d ≡ None → IsRefused b text old f → ⊥
    not_both d x h (too_long y) = short_and_long y x.judged.short
    not_both d x h (badly_laid ms t m y e) =
        none_some m (least_bad (frame_of b) false (lines_at 0 d)) (least_bad (frame_of b) (is_some t) ms) x.good e (bad_once (lines_at 0 d) ms None t x.judged y)
    not_both d x h (at_line ms g y e) = none_some g None (Some g) refl refl (stop_once (lines_at 0 d) ms None (Some g) x.judged y)
    not_both d x h (in_draft c g y e) = none_some g (draft_fault b d) (draft_fault b c) h e (fault_once d c x y)

    pub read_once : (first second : List (List ℕ)) (n m : Name) (ps qs : List (Name × Kind)) (p q : Tree) (ks ls : List ℕ)
        → IsRead b text old first n ps p ks → IsRead b text old second m qs q ls → SameReading first second n m ps qs p q ks ls
    read_once first second n m ps qs p q ks ls x y =
        let same : x.draft ≡ y.draft = draft_once x.draft y.draft x.laid_out y.laid_out in
        let tables : first ≡ second = x.table ∙ ap (λ d. with_elements (names_in text old) (header_params d) (header_below d)) same ∙ sym y.table in
        record {
          table = tables;
          name = x.name_is ∙ ap (λ d. header_name d) same ∙ sym y.name_is;
          params = x.params_are ∙ ap (λ t. params_named (number_in t) (header_params x.draft)) tables ∙ ap (λ d. params_named (number_in second) (header_params d)) same ∙ sym y.params_are;
          body = x.body_is ∙ ap (λ t. slot_process (number_in t) (param_scope (header_params x.draft)) (header_below x.draft)) tables
              ∙ ap (λ d. slot_process (number_in second) (param_scope (header_params d)) (header_below d)) same ∙ sym y.body_is;
          numbers = x.numbers_are ∙ ap (λ d. (lined (header_below d)).parts) same ∙ sym y.numbers_are;
        }
