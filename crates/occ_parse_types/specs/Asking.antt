-- Who asks for a width, and what is asked.
use Rattle.std.specs.Prelude.{Bool, not, ◌||◌, true, List, Option, Some, None, is_none, false, ◌≡◌}
use Rattle.std.specs.List.{list_any, list_all}
use Rattle.occ_syntax.specs.occ_base.declared.width.Width.{Width}
use Rattle.occ_syntax.specs.occ_base.declared.width.Width.TheVariants.{Bool as TruthValue}
use Rattle.occ_syntax.specs.Types.{same_width}
use Rattle.occ_parse_forms.specs.declared.form.Declared.{Declared}
use Rattle.occ_parse_forms.specs.declared.form.Declared.TheVariants as declared
use Rattle.occ_parse_forms.specs.declared.form.Item.{Item}
use Rattle.occ_parse_forms.specs.Shape.{Said}
use Rattle.occ_parse_rules.specs.declared.sort.Sort.{Sort}
use Rattle.occ_parse_rules.specs.Places.{Sorts, Indices, for_some}
use Rattle.occ_parse_rules.specs.Types.{is_truth_value, fits, width_of_sort, sort_here, sort_clashes, if_asked, variable_sort, channel_sort, is_against, Class, of_words, of_truth_values, comparing, ordering, or_width, own, refuses, clashes}
use Rattle.occ_parse_rules.specs.Names.{is_counter}
use Rattle.occ_parse_scopes.specs.Taken.{Takes}
use Rattle.occ_parse_types.specs.declared.asking.Classed.{Classed}
use Rattle.occ_parse_types.specs.declared.asking.Classed.TheVariants as classed
use Rattle.occ_parse_types.specs.declared.asking.Asker.{Asker}
use Rattle.occ_parse_types.specs.declared.asking.Asker.TheVariants as asker
use Rattle.occ_parse_types.specs.declared.asking.Asked.{Asked}
use Rattle.occ_parse_types.specs.declared.asking.Asked.TheVariants as asked
use Rattle.occ_parse_types.specs.declared.asking.Test.{Test}
use Rattle.occ_parse_types.specs.declared.asking.Test.TheVariants as test

-- whether what is asked for a width hasn't got it
abbrev pub refuses_width : Asked → Width → Bool
refuses_width (asked.Numeral value) w = not (fits w value)
refuses_width (asked.Typed value width) w = not (same_width w width) || not (fits width value)
refuses_width asked.Truth w = not (is_truth_value w)
refuses_width asked.Word w = is_truth_value w

-- whether an item has another width
abbrev pub other_width : Width → Option Sort → Bool
other_width w s = if_asked (width_of_sort s) (λ v. not (same_width w v))

-- whether a test holds of what an item stands for
abbrev pub holds_of : Test → Option Sort → Bool
holds_of test.NotVariable s = is_none (variable_sort s)
holds_of test.NotChannel s = is_none (channel_sort s)
holds_of (test.Against d) s = is_against d s
holds_of (test.Clashes w) s = sort_clashes w s
holds_of (test.Differs w) s = other_width w s
holds_of (test.Refused a) s = if_asked (width_of_sort s) (refuses_width a)

-- the width that is asked for at those values of the indices
abbrev pub width_asked : Sorts → Indices → Asker → Option Width
width_asked Γ ρ (asker.Fixed width) = Some width
width_asked Γ ρ (asker.Like i) = width_of_sort (sort_here Γ ρ i)

abbrev pub width_by : Sorts → Indices → Option Asker → Option Width
width_by Γ ρ None = None
width_by Γ ρ (Some a) = width_asked Γ ρ a

-- whether something that is asked for a width refuses it, for some values of the indices
abbrev pub some_refuse : Sorts → Asker → Asked → Bool
some_refuse Γ a what = for_some Γ (λ ρ. if_asked (width_asked Γ ρ a) (refuses_width what))

-- whether an item can't stand for a value of the width that another one has
abbrev pub items_clash : Option Sort → Option Sort → Bool
items_clash other s = if_asked (width_of_sort other) (λ w. sort_clashes w s)

-- whether an expression that is asked for a width clashes, for some values of the indices
abbrev pub some_clash : Sorts → Asker → Said → Bool
some_clash Γ a e = for_some Γ (λ ρ. if_asked (width_asked Γ ρ a) (clashes Γ ρ e))

-- ---- what is known of the names of a line

-- only a name by itself stands for a replicator's index
abbrev pub is_plain : Declared → Option Sort → Bool
is_plain (declared.Plain x) s = true
is_plain (declared.Element x k) s = not (is_counter s)
is_plain (declared.Array x n) s = not (is_counter s)

abbrev pub plain_counters : Sorts → Bool
plain_counters Γ = list_all (λ entry. is_plain entry.declared (Some entry.sort)) Γ

-- items that are in scope, whatever values the indices take
pub record AllThere (Γ : Sorts) (is : List Item) : Type 0 where
  pub all : (ρ : Indices) → Takes Γ ρ → list_any (λ i. is_none (sort_here Γ ρ i)) is ≡ false

-- one that asks and has a width, whatever values the indices take
pub record HasWidth (Γ : Sorts) (a : Asker) : Type 0 where
  pub has : (ρ : Indices) → Takes Γ ρ → is_none (width_asked Γ ρ a) ≡ false

-- who asks for a width, or nobody, whatever values the indices take
pub record IsWidth (Γ : Sorts) (width : Indices → Option Width) (who : Option Asker) : Type 0 where
  pub same : (ρ : Indices) → Takes Γ ρ → width ρ ≡ width_by Γ ρ who
  pub there : (ρ : Indices) → Takes Γ ρ → is_none (width_by Γ ρ who) ≡ is_none who

-- ---- operators

abbrev pub class_of : Classed → Class
class_of classed.Words = of_words
class_of classed.TruthValues = of_truth_values
class_of classed.Comparing = comparing
class_of classed.Ordering = ordering

-- the width that the operands are asked for, by the width that is asked for and by that of the operands
abbrev pub asked_below : Class → Option Width → Option Width → Option Width
asked_below of_words width operands = width
asked_below of_truth_values width operands = Some TruthValue
asked_below comparing width operands = operands
asked_below ordering width operands = operands

abbrev pub operands_width : Sorts → Indices → Said → Said → Option Width
operands_width Γ ρ left right = or_width (own Γ ρ left) (own Γ ρ right)

-- whether an operator can't have the width that is asked for, or can't have such operands, for some values of the indices
abbrev pub operator_refuses : Sorts → Class → Asker → Option Asker → Bool
operator_refuses Γ k a operands = for_some Γ (λ ρ. if_asked (width_asked Γ ρ a) (λ w. refuses k w (width_by Γ ρ operands)))
