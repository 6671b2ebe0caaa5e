-- The widths that expressions have of their own, whatever values the indices take.
use Rattle.std.proofs.Common.{◌≡◌, ℕ, Bool, true, false, if◌then◌else◌, List, [], ◌∷◌, ◌++◌, Option, Some, None, is_none, is_some, refl, sym, ap, ◌∙◌, subst}
use Rattle.std.specs.List.{list_any}
use Rattle.std.proofs.lemmas.Bool.{and_parts, or_parts, both_ways, not-true}
use Rattle.std.proofs.lemmas.List.Folds.{list_any-append}
use Rattle.occ_syntax.specs.occ_base.declared.width.Width.{Width}
use Rattle.occ_syntax.specs.declared.expr.Op.{Op}
use Rattle.occ_parse_forms.specs.declared.form.Declared.{Declared}
use Rattle.occ_parse_forms.specs.declared.form.Declared.TheVariants as declared
use Rattle.occ_parse_forms.specs.declared.form.Item.{Item}
use Rattle.occ_parse_forms.specs.declared.phrase.Index.{Index}
use Rattle.occ_parse_forms.specs.Shape.{Said, item, operation}
use Rattle.occ_parse_rules.specs.declared.sort.Sort.{Sort}
use Rattle.occ_parse_rules.specs.declared.sort.Sort.TheVariants as sort
use Rattle.occ_parse_rules.specs.Names.{is_counter, items_in}
use Rattle.occ_parse_rules.specs.Places.{Sorts, Indices, declares, sort_at, element_at, index_at, place_with, sort_of_place}
use Rattle.occ_parse_rules.specs.Types.{own, sort_if, sort_here, width_of_sort}
use Rattle.occ_parse_types.specs.declared.asking.Asker.{Asker}
use Rattle.occ_parse_types.specs.declared.asking.Asker.TheVariants as asker
use Rattle.occ_parse_types.specs.Turns.{name_in, sort_turn}
use Rattle.occ_parse_types.specs.Asking.{AllThere, HasWidth, IsWidth, is_plain, plain_counters}
use Rattle.occ_parse_types.proofs.Turning.{no_name}

-- ---- items that are in scope

pub there_front : (Γ : Sorts) (is js : List Item) → AllThere Γ (is ++ js) → AllThere Γ is
there_front Γ is js h = record { all = λ ρ t. (or_parts _ _ (sym (list_any-append (λ i. is_none (sort_here Γ ρ i)) is js) ∙ h.all ρ t)).0 }

pub there_back : (Γ : Sorts) (is js : List Item) → AllThere Γ (is ++ js) → AllThere Γ js
there_back Γ is js h = record { all = λ ρ t. (or_parts (list_any (λ i. is_none (sort_here Γ ρ i)) is) _ (sym (list_any-append (λ i. is_none (sort_here Γ ρ i)) is js) ∙ h.all ρ t)).1 }

pub there_left : (Γ : Sorts) (p : Said) (op : Op) (l r : Said) → p ≡ operation op l r → AllThere Γ (items_in p) → AllThere Γ (items_in l)
there_left Γ p op l r e h = there_front Γ (items_in l) (items_in r) (subst (λ q. AllThere Γ (items_in q)) e h)

pub there_right : (Γ : Sorts) (p : Said) (op : Op) (l r : Said) → p ≡ operation op l r → AllThere Γ (items_in p) → AllThere Γ (items_in r)
there_right Γ p op l r e h = there_back Γ (items_in l) (items_in r) (subst (λ q. AllThere Γ (items_in q)) e h)

-- ---- an element stands for no replicator's index

chosen : (t : Bool) (s : Option Sort) (o : Option Sort) → (t ≡ true → is_counter s ≡ false) → is_counter o ≡ false → is_counter (if t then s else o) ≡ false
chosen true s o h k = h refl
chosen false s o h k = k

plain_at : (d : Declared) (s : Option Sort) (x k : ℕ) → is_plain d s ≡ true → declares d x (Some k) ≡ true → is_counter s ≡ false
plain_at (declared.Plain y) s x k h e = absurd (both_ways true (sym e) refl)
plain_at (declared.Element y j) s x k h e = not-true (is_counter s) h
plain_at (declared.Array y n) s x k h e = not-true (is_counter s) h

no_counter : (Γ : Sorts) (x k : ℕ) → plain_counters Γ ≡ true → is_counter (sort_at Γ x (Some k)) ≡ false
no_counter [] x k h = refl
no_counter (entry ∷ Γ) x k h =
    let parts = and_parts (is_plain entry.declared (Some entry.sort)) (plain_counters Γ) h in
    chosen (declares entry.declared x (Some k)) (Some entry.sort) (sort_at Γ x (Some k)) (plain_at entry.declared (Some entry.sort) x k parts.0) (no_counter Γ x k parts.1)

no_counter_if : (b : Bool) (s : Option Sort) → is_counter s ≡ false → is_counter (sort_if b s) ≡ false
no_counter_if true s h = h
no_counter_if false s h = refl

no_counter_there : (Γ : Sorts) (x : ℕ) (o : Option ℕ) → plain_counters Γ ≡ true → is_counter (sort_of_place Γ (element_at x o)) ≡ false
no_counter_there Γ x None h = refl
no_counter_there Γ x (Some k) h = no_counter Γ x k h

no_counter_with : (Γ : Sorts) (ρ : Indices) (x : ℕ) (o : Option Index) → plain_counters Γ ≡ true → is_some (name_in o) ≡ true → is_counter (sort_of_place Γ (place_with ρ x o)) ≡ false
no_counter_with Γ ρ x None h e = absurd (both_ways true (sym e) refl)
no_counter_with Γ ρ x (Some i) h e = no_counter_there Γ x (index_at ρ i) h

pub element_no_counter : (Γ : Sorts) (ρ : Indices) (i : Item) → plain_counters Γ ≡ true → is_some (name_in i.index) ≡ true → is_counter (sort_here Γ ρ i) ≡ false
element_no_counter Γ ρ i h e = no_counter_if _ _ (no_counter_with Γ ρ i.name.0 i.index h e)

width_there : (s : Option Sort) → is_none s ≡ false → is_counter s ≡ false → is_none (width_of_sort s) ≡ false
width_there None h k = h
width_there (Some (sort.Variable w)) h k = refl
width_there (Some (sort.Channel w mark)) h k = refl
width_there (Some (sort.Counter b n)) h k = absurd (both_ways true k refl)

-- ---- the width of an item

pub like_item : (Γ : Sorts) (i : Item) → plain_counters Γ ≡ true → AllThere Γ (i ∷ []) → is_some (name_in i.index) ≡ true → IsWidth Γ (λ ρ. own Γ ρ (item i)) (Some (asker.Like i))
like_item Γ i kept there named = record {
  same = λ ρ t. refl;
  there = λ ρ t. width_there (sort_here Γ ρ i) (or_parts (is_none (sort_here Γ ρ i)) false (there.all ρ t)).0 (element_no_counter Γ ρ i kept named);
}

name_none : (o : Option ℕ) → is_some o ≡ false → o ≡ None
name_none None h = refl
name_none (Some x) h = absurd (both_ways true h refl)

abbrev as_fixed : Option Width → Option Asker
as_fixed None = None
as_fixed (Some w) = Some (asker.Fixed w)

pub fixed_by : (Γ : Sorts) (width : Indices → Option Width) (o : Option Width) → ((ρ : Indices) → width ρ ≡ o) → IsWidth Γ width (as_fixed o)
fixed_by Γ width None h = record { same = λ ρ t. h ρ; there = λ ρ t. refl }
fixed_by Γ width (Some w) h = record { same = λ ρ t. h ρ; there = λ ρ t. refl }

pub fixed_item : (Γ : Sorts) (i : Item) (s : Option Sort) (o : Option Width) → is_some (name_in i.index) ≡ false → s ≡ sort_turn Γ i 0 → width_of_sort s ≡ o → IsWidth Γ (λ ρ. own Γ ρ (item i)) (as_fixed o)
fixed_item Γ i s o named turn e = fixed_by Γ (λ ρ. own Γ ρ (item i)) o (λ ρ. ap width_of_sort (no_name Γ ρ (λ x. 0) i (name_none (name_in i.index) named) ∙ sym turn) ∙ e)

-- ---- the width of two operands

has_width : (Γ : Sorts) (width : Indices → Option Width) (a : Asker) → IsWidth Γ width (Some a) → HasWidth Γ a
has_width Γ width a h = record { has = h.there }

pub asker_has_width : (Γ : Sorts) (width : Indices → Option Width) (o : Option Asker) (a : Asker) → o ≡ Some a → IsWidth Γ width o → HasWidth Γ a
asker_has_width Γ width o a e h = has_width Γ width a (subst (λ p. IsWidth Γ width p) e h)
