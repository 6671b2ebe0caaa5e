-- Expressions that are asked for a width, whatever values the indices take.
use Rattle.std.proofs.Common.{◌≡◌, Bool, true, false, not, ◌&&◌, ◌||◌, Option, Some, None, is_none, is_some, refl, sym, ap, ◌∙◌}
use Rattle.std.proofs.lemmas.Bool.{both_ways}
use Rattle.occ_syntax.specs.occ_base.declared.width.Width.{Width}
use Rattle.occ_syntax.specs.occ_base.declared.width.Width.TheVariants.{Bool as TruthValue, Word}
use Rattle.occ_syntax.specs.declared.expr.Op.{Op}
use Rattle.occ_parse_forms.specs.Shape.{Said, negation, complement, operation}
use Rattle.occ_parse_rules.specs.Places.{Sorts, for_some}
use Rattle.occ_parse_rules.specs.Types.{is_truth_value, Class, of_words, of_truth_values, comparing, ordering, class, asks, refuses, if_asked, clashes, compares, has_untyped}
use Rattle.occ_parse_scopes.proofs.Taken.{for_some_same, for_some_still, for_some_or}
use Rattle.occ_parse_types.specs.declared.asking.Asker.{Asker}
use Rattle.occ_parse_types.specs.declared.asking.Asker.TheVariants as asker
use Rattle.occ_parse_types.specs.declared.asking.Asked.{Asked}
use Rattle.occ_parse_types.specs.declared.asking.Asked.TheVariants as asked
use Rattle.occ_parse_types.specs.Asking.{HasWidth, IsWidth, asked_below, operands_width, operator_refuses, refuses_width, some_clash, some_refuse, width_asked, width_by}

-- ---- one that is asked

asked_or : (o : Option Width) (a b : Width → Bool) → if_asked o (λ w. a w || b w) ≡ (if_asked o a || if_asked o b)
asked_or None a b = refl
asked_or (Some w) a b = refl

asked_or_fixed : (o : Option Width) (a : Width → Bool) (b : Bool) → is_none o ≡ false → if_asked o (λ w. a w || b) ≡ (if_asked o a || b)
asked_or_fixed None a b h = absurd (both_ways true h refl)
asked_or_fixed (Some w) a b h = refl

pub refused_fixed : (Γ : Sorts) (a : Asker) (w : Width) (what : Asked) (here : Bool) → a ≡ asker.Fixed w → here ≡ refuses_width what w → here ≡ some_refuse Γ a what
refused_fixed Γ a w what here e h = h ∙ sym (for_some_still Γ (refuses_width what w)) ∙ sym (ap (λ b. some_refuse Γ b what) e)

pub negation_clash : (Γ : Sorts) (a : Asker) (p e : Said) → p ≡ negation e → HasWidth Γ a → some_clash Γ a p ≡ (some_refuse Γ a asked.Truth || some_clash Γ (asker.Fixed TruthValue) e)
negation_clash Γ a p e is h =
    ap (some_clash Γ a) is
    ∙ for_some_same Γ _ _ (λ ρ t. asked_or_fixed (width_asked Γ ρ a) (λ w. not (is_truth_value w)) (clashes Γ ρ e TruthValue) (h.has ρ t))
    ∙ for_some_or Γ (λ ρ. if_asked (width_asked Γ ρ a) (refuses_width asked.Truth)) (λ ρ. clashes Γ ρ e TruthValue)

pub complement_clash : (Γ : Sorts) (a : Asker) (p e : Said) → p ≡ complement e → some_clash Γ a p ≡ (some_refuse Γ a asked.Word || some_clash Γ a e)
complement_clash Γ a p e is =
    ap (some_clash Γ a) is
    ∙ for_some_same Γ _ _ (λ ρ t. asked_or (width_asked Γ ρ a) is_truth_value (clashes Γ ρ e))
    ∙ for_some_or Γ (λ ρ. if_asked (width_asked Γ ρ a) (refuses_width asked.Word)) (λ ρ. if_asked (width_asked Γ ρ a) (clashes Γ ρ e))

-- ---- operators

two_at : (k : Class) (width operands by : Option Width) (l r : Width → Bool) → is_none width ≡ false → asked_below k width operands ≡ by → if_asked width (λ w. refuses k w operands || (if_asked (asks k w operands) l || if_asked (asks k w operands) r)) ≡ (if_asked width (λ w. refuses k w by) || (if_asked by l || if_asked by r))
two_at k None operands by l r h e = absurd (both_ways true h refl)
two_at of_words (Some w) operands by l r h e = ap (λ b. is_truth_value w || (if_asked b l || if_asked b r)) e
two_at of_truth_values (Some w) operands by l r h e = ap (λ b. not (is_truth_value w) || (if_asked b l || if_asked b r)) e
two_at comparing (Some w) operands by l r h e = ap (λ b. not (is_truth_value w) || (if_asked b l || if_asked b r)) e
two_at ordering (Some w) operands by l r h e = ap (λ b. refuses ordering w b || (if_asked b l || if_asked b r)) e

abbrev pub clash_by : Sorts → Option Asker → Said → Bool
clash_by Γ o e = for_some Γ (λ ρ. if_asked (width_by Γ ρ o) (clashes Γ ρ e))

pub two_clash : (Γ : Sorts) (a : Asker) (p : Said) (op : Op) (l r : Said) (k : Class) (o : Option Asker) → p ≡ operation op l r → k ≡ class op → HasWidth Γ a → IsWidth Γ (λ ρ. asked_below k (width_asked Γ ρ a) (operands_width Γ ρ l r)) o → some_clash Γ a p ≡ (operator_refuses Γ k a o || (clash_by Γ o l || clash_by Γ o r))
two_clash Γ a p op l r k o is by h who =
    ap (some_clash Γ a) is
    ∙ ap (λ c. for_some Γ (λ ρ. if_asked (width_asked Γ ρ a) (λ w. refuses c w (operands_width Γ ρ l r) || (if_asked (asks c w (operands_width Γ ρ l r)) (clashes Γ ρ l) || if_asked (asks c w (operands_width Γ ρ l r)) (clashes Γ ρ r))))) (sym by)
    ∙ for_some_same Γ _ _ (λ ρ t. two_at k (width_asked Γ ρ a) (operands_width Γ ρ l r) (width_by Γ ρ o) (clashes Γ ρ l) (clashes Γ ρ r) (h.has ρ t) (who.same ρ t))
    ∙ for_some_or Γ (λ ρ. if_asked (width_asked Γ ρ a) (λ w. refuses k w (width_by Γ ρ o))) (λ ρ. if_asked (width_by Γ ρ o) (clashes Γ ρ l) || if_asked (width_by Γ ρ o) (clashes Γ ρ r))
    ∙ ap (λ b. operator_refuses Γ k a o || b) (for_some_or Γ (λ ρ. if_asked (width_by Γ ρ o) (clashes Γ ρ l)) (λ ρ. if_asked (width_by Γ ρ o) (clashes Γ ρ r)))

pub nobody_asks : (Γ : Sorts) (e : Said) → clash_by Γ None e ≡ false
nobody_asks Γ e = for_some_still Γ false

ordering_at : (w : Width) (o : Option Width) → refuses ordering w o ≡ (not (is_truth_value w) || if_asked o is_truth_value)
ordering_at TruthValue None = refl
ordering_at TruthValue (Some v) = refl
ordering_at (Word n) o = refl

abbrev pub refused_by : Sorts → Option Asker → Asked → Bool
refused_by Γ o what = for_some Γ (λ ρ. if_asked (width_by Γ ρ o) (refuses_width what))

pub ordering_refuses : (Γ : Sorts) (k : Class) (a : Asker) (o : Option Asker) → k ≡ ordering → HasWidth Γ a → operator_refuses Γ k a o ≡ (some_refuse Γ a asked.Truth || refused_by Γ o asked.Word)
ordering_refuses Γ k a o is h =
    ap (λ c. operator_refuses Γ c a o) is
    ∙ for_some_same Γ _ _ (λ ρ t. ap (if_asked (width_asked Γ ρ a)) (λ k. λ w. ordering_at w (width_by Γ ρ o) k) ∙ asked_or_fixed (width_asked Γ ρ a) (λ w. not (is_truth_value w)) (if_asked (width_by Γ ρ o) is_truth_value) (h.has ρ t))
    ∙ for_some_or Γ (λ ρ. if_asked (width_asked Γ ρ a) (refuses_width asked.Truth)) (λ ρ. if_asked (width_by Γ ρ o) (refuses_width asked.Word))

-- ---- comparisons without a width

pub unsettled : (Γ : Sorts) (k : Class) (l r : Said) (o : Option Asker) → IsWidth Γ (λ ρ. operands_width Γ ρ l r) o → for_some Γ (λ ρ. compares k && is_none (operands_width Γ ρ l r)) ≡ (compares k && is_none o)
unsettled Γ k l r o h =
    for_some_same Γ _ _ (λ ρ t. ap (λ b. compares k && b) (ap is_none (h.same ρ t) ∙ h.there ρ t))
    ∙ for_some_still Γ (compares k && is_none o)

pub not_comparing : (Γ : Sorts) (k : Class) (l r : Said) → compares k ≡ false → false ≡ for_some Γ (λ ρ. compares k && is_none (operands_width Γ ρ l r))
not_comparing Γ k l r h = sym (ap (λ b. for_some Γ (λ ρ. b && is_none (operands_width Γ ρ l r))) h ∙ for_some_still Γ false)

pub two_untyped : (Γ : Sorts) (p : Said) (op : Op) (l r : Said) (k : Class) → p ≡ operation op l r → k ≡ class op → for_some Γ (λ ρ. has_untyped Γ ρ p) ≡ (for_some Γ (λ ρ. compares k && is_none (operands_width Γ ρ l r)) || (for_some Γ (λ ρ. has_untyped Γ ρ l) || for_some Γ (λ ρ. has_untyped Γ ρ r)))
two_untyped Γ p op l r k is by =
    ap (λ q. for_some Γ (λ ρ. has_untyped Γ ρ q)) is
    ∙ ap (λ c. for_some Γ (λ ρ. (compares c && is_none (operands_width Γ ρ l r)) || (has_untyped Γ ρ l || has_untyped Γ ρ r))) (sym by)
    ∙ for_some_or Γ (λ ρ. compares k && is_none (operands_width Γ ρ l r)) (λ ρ. has_untyped Γ ρ l || has_untyped Γ ρ r)
    ∙ ap (λ b. for_some Γ (λ ρ. compares k && is_none (operands_width Γ ρ l r)) || b) (for_some_or Γ (λ ρ. has_untyped Γ ρ l) (λ ρ. has_untyped Γ ρ r))

-- ---- one of two, in order

pub by_first : (r a b total : Bool) → total ≡ (a || b) → r ≡ a → r ≡ true → r ≡ total
by_first r a b total e is t = t ∙ sym (e ∙ ap (λ x. x || b) (sym is ∙ t))

pub by_second : (r a b last total : Bool) → total ≡ (a || b) → r ≡ a → r ≡ false → last ≡ b → last ≡ total
by_second r a b last total e is f then = then ∙ sym (e ∙ ap (λ x. x || b) (sym is ∙ f))

pub none_from : (r : Bool) (o : Option Asker) → not r ≡ is_some o → r ≡ is_none o
none_from true None h = refl
none_from true (Some a) h = absurd (both_ways false refl h)
none_from false None h = absurd (both_ways true h refl)
none_from false (Some a) h = refl

pub by_rest : (r a b total : Bool) → total ≡ (a || b) → r ≡ a → r ≡ false → b ≡ total
by_rest r a b total e is f = sym (e ∙ ap (λ x. x || b) (sym is ∙ f))
