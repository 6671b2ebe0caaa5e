-- What is wrong with the types and the directions of a line in its scope, where its names are in order.
use Rattle.std.specs.Prelude.{ℕ, zero, suc, ◌+◌, ◌^◌, Bool, true, false, not, ◌&&◌, ◌||◌, nat_lt, if◌then◌else◌, List, [], ◌∷◌, Option, Some, None, is_none}
use Rattle.std.specs.List.{list_any}
use Rattle.occ_meaning.specs.occ_base.declared.event.Dir.{Dir}
use Rattle.occ_meaning.specs.occ_base.declared.event.Dir.TheVariants as dir
use Rattle.occ_meaning.specs.occ_base.declared.width.Width.{Width}
use Rattle.occ_meaning.specs.occ_base.declared.width.Width.TheVariants.{Bool as TruthValue, Word}
use Rattle.occ_meaning.specs.occ_syntax.declared.expr.Op.{Op}
use Rattle.occ_meaning.specs.occ_syntax.declared.expr.Op.TheVariants as op
use Rattle.occ_meaning.specs.occ_syntax.Scopes.{same_dir}
use Rattle.occ_meaning.specs.occ_syntax.Types.{same_width}
use Rattle.occ_parse_forms.specs.declared.form.Item.{Item}
use Rattle.occ_parse_forms.specs.Shape.{Said, item, numeral, typed, truth, negation, complement, operation, Waiting, ready, input, output, Shape, assign, receive, send, condition, guard}
use Rattle.occ_parse_rules.specs.declared.fault.TypeFault.{TypeFault}
use Rattle.occ_parse_rules.specs.declared.fault.TypeFault.TheVariants as fault
use Rattle.occ_parse_rules.specs.declared.sort.Sort.{Sort}
use Rattle.occ_parse_rules.specs.declared.sort.Sort.TheVariants as sort
use Rattle.occ_parse_rules.specs.Places.{Sorts, Indices, for_some, place_at, sort_of_place}
use Rattle.occ_parse_rules.specs.Names.{index_counts, uses}

abbrev pub is_truth_value : Width → Bool
is_truth_value TruthValue = true
is_truth_value (Word bits) = false

-- whether a numeral has a value of the width
abbrev pub fits : Width → ℕ → Bool
fits TruthValue value = false
fits (Word bits) value = nat_lt value (2 ^ bits)

-- The greatest value that an index takes, or its base where it takes none.
abbrev pub greatest : ℕ → ℕ → ℕ
greatest b zero = b
greatest b (suc n) = b + n

-- What an item stands for at those values of the indices; an element whose index is neither a numeral nor a
-- replicator's stands for nothing.
abbrev pub sort_if : Bool → Option Sort → Option Sort
sort_if true found = found
sort_if false found = None

abbrev pub sort_here : Sorts → Indices → Item → Option Sort
sort_here Γ ρ i = sort_if (is_none i.index || index_counts Γ i.index) (sort_of_place Γ (place_at ρ i))

abbrev pub width_of_sort : Option Sort → Option Width
width_of_sort (Some (sort.Variable width)) = Some width
width_of_sort (Some (sort.Channel width mark)) = Some width
width_of_sort (Some (sort.Counter b n)) = None
width_of_sort None = None

-- which operators give a value of their operands' width, which join truth values, and which compare
pub data Class : Type 0 where
  of_words : Class
  of_truth_values : Class
  comparing : Class
  ordering : Class

abbrev pub class : Op → Class
class op.Plus = of_words
class op.Minus = of_words
class op.BitAnd = of_words
class op.BitOr = of_words
class op.BitXor = of_words
class op.And = of_truth_values
class op.Or = of_truth_values
class op.Equal = comparing
class op.Differ = comparing
class op.Less = ordering
class op.Greater = ordering
class op.AtMost = ordering
class op.AtLeast = ordering

abbrev pub or_width : Option Width → Option Width → Option Width
or_width (Some width) other = Some width
or_width None other = other

abbrev pub own_of_class : Class → Option Width → Option Width
own_of_class of_words operands = operands
own_of_class of_truth_values operands = Some TruthValue
own_of_class comparing operands = Some TruthValue
own_of_class ordering operands = Some TruthValue

-- the width that an expression has of its own
abbrev pub own : Sorts → Indices → Said → Option Width
own Γ ρ (item i) = width_of_sort (sort_here Γ ρ i)
own Γ ρ (numeral value) = None
own Γ ρ (typed value width) = Some width
own Γ ρ (truth b) = Some TruthValue
own Γ ρ (negation e) = Some TruthValue
own Γ ρ (complement e) = own Γ ρ e
own Γ ρ (operation op left right) = own_of_class (class op) (or_width (own Γ ρ left) (own Γ ρ right))

-- whether an item can't stand for a value of the width
abbrev pub sort_clashes : Width → Option Sort → Bool
sort_clashes w (Some (sort.Variable width)) = not (same_width w width)
sort_clashes w (Some (sort.Channel width mark)) = true
sort_clashes w (Some (sort.Counter b n)) = not (fits w (greatest b n))
sort_clashes w None = true

-- what an operator asks of its own width and of its operands, where it is asked for a width: the width that it asks
-- its operands for, if that is settled
abbrev pub asks : Class → Width → Option Width → Option Width
asks of_words w operands = Some w
asks of_truth_values w operands = Some TruthValue
asks comparing w operands = operands
asks ordering w operands = operands

abbrev pub refuses : Class → Width → Option Width → Bool
refuses of_words w operands = is_truth_value w
refuses of_truth_values w operands = not (is_truth_value w)
refuses comparing w operands = not (is_truth_value w)
refuses ordering (Word bits) operands = true
refuses ordering TruthValue (Some operands) = is_truth_value operands
refuses ordering TruthValue None = false

abbrev pub if_asked : Option Width → (Width → Bool) → Bool
if_asked (Some width) test = test width
if_asked None test = false

-- whether an expression that is asked for a width has a part of another type, or a value that doesn't fit
abbrev pub clashes : Sorts → Indices → Said → Width → Bool
clashes Γ ρ (item i) w = sort_clashes w (sort_here Γ ρ i)
clashes Γ ρ (numeral value) w = not (fits w value)
clashes Γ ρ (typed value width) w = not (same_width w width) || not (fits width value)
clashes Γ ρ (truth b) w = not (is_truth_value w)
clashes Γ ρ (negation e) w = not (is_truth_value w) || clashes Γ ρ e TruthValue
clashes Γ ρ (complement e) w = is_truth_value w || clashes Γ ρ e w
clashes Γ ρ (operation op left right) w =
    let operands = or_width (own Γ ρ left) (own Γ ρ right) in
    refuses (class op) w operands || (if_asked (asks (class op) w operands) (clashes Γ ρ left) || if_asked (asks (class op) w operands) (clashes Γ ρ right))

abbrev pub compares : Class → Bool
compares of_words = false
compares of_truth_values = false
compares comparing = true
compares ordering = true

-- whether an expression has a comparison of two operands without a width
abbrev pub has_untyped : Sorts → Indices → Said → Bool
has_untyped Γ ρ (item i) = false
has_untyped Γ ρ (numeral value) = false
has_untyped Γ ρ (typed value width) = false
has_untyped Γ ρ (truth b) = false
has_untyped Γ ρ (negation e) = has_untyped Γ ρ e
has_untyped Γ ρ (complement e) = has_untyped Γ ρ e
has_untyped Γ ρ (operation op left right) =
    (compares (class op) && is_none (or_width (own Γ ρ left) (own Γ ρ right))) || (has_untyped Γ ρ left || has_untyped Γ ρ right)

-- ---- lines

-- an expression for a variable or a channel, which must be one
abbrev pub value_clashes : Sorts → Indices → Option Width → Said → Bool
value_clashes Γ ρ None e = true
value_clashes Γ ρ (Some w) e = clashes Γ ρ e w

abbrev pub variable_sort : Option Sort → Option Width
variable_sort (Some (sort.Variable width)) = Some width
variable_sort (Some (sort.Channel width mark)) = None
variable_sort (Some (sort.Counter b n)) = None
variable_sort None = None

abbrev pub channel_sort : Option Sort → Option Width
channel_sort (Some (sort.Channel width mark)) = Some width
channel_sort (Some (sort.Variable width)) = None
channel_sort (Some (sort.Counter b n)) = None
channel_sort None = None

abbrev pub variable_here : Sorts → Indices → Item → Option Width
variable_here Γ ρ i = variable_sort (sort_here Γ ρ i)

abbrev pub channel_here : Sorts → Indices → Item → Option Width
channel_here Γ ρ i = channel_sort (sort_here Γ ρ i)

abbrev pub pairs_clash : Sorts → Indices → List Item → List Said → Bool
pairs_clash Γ ρ [] es = false
pairs_clash Γ ρ (x ∷ xs) [] = false
pairs_clash Γ ρ (x ∷ xs) (e ∷ es) = value_clashes Γ ρ (variable_here Γ ρ x) e || pairs_clash Γ ρ xs es

abbrev pub widths_differ : Option Width → Option Width → Bool
widths_differ (Some w) (Some v) = not (same_width w v)
widths_differ (Some w) None = true
widths_differ None v = true

abbrev pub waiting_clashes : Sorts → Indices → Waiting → Bool
waiting_clashes Γ ρ ready = false
waiting_clashes Γ ρ (input c x) = widths_differ (channel_here Γ ρ c) (variable_here Γ ρ x)
waiting_clashes Γ ρ (output c e) = value_clashes Γ ρ (channel_here Γ ρ c) e

-- whether a line has types that differ at those values of the indices
abbrev pub line_clashes : Sorts → Indices → Shape → Bool
line_clashes Γ ρ (assign xs es) = pairs_clash Γ ρ xs es
line_clashes Γ ρ (receive c x) = waiting_clashes Γ ρ (input c x)
line_clashes Γ ρ (send c e) = waiting_clashes Γ ρ (output c e)
line_clashes Γ ρ (condition e) = clashes Γ ρ e TruthValue
line_clashes Γ ρ (guard e w) = clashes Γ ρ e TruthValue || waiting_clashes Γ ρ w
line_clashes Γ ρ other = false

-- an element on the line whose index is neither a numeral nor a replicator's
abbrev pub has_lost : Sorts → Shape → Bool
has_lost Γ s = list_any (λ i. not (is_none i.index || index_counts Γ i.index)) (uses s)

abbrev pub waiting_untyped : Sorts → Indices → Waiting → Bool
waiting_untyped Γ ρ ready = false
waiting_untyped Γ ρ (input c x) = false
waiting_untyped Γ ρ (output c e) = has_untyped Γ ρ e

abbrev pub line_untyped : Sorts → Indices → Shape → Bool
line_untyped Γ ρ (assign xs es) = list_any (has_untyped Γ ρ) es
line_untyped Γ ρ (send c e) = has_untyped Γ ρ e
line_untyped Γ ρ (condition e) = has_untyped Γ ρ e
line_untyped Γ ρ (guard e w) = has_untyped Γ ρ e || waiting_untyped Γ ρ w
line_untyped Γ ρ other = false

-- The fault of a line's types: a clash for some values of the indices comes before a comparison without a width.
abbrev pub type_fault : Sorts → Shape → Option TypeFault
type_fault Γ s =
    if has_lost Γ s || for_some Γ (λ ρ. line_clashes Γ ρ s) then Some fault.TypeClash
    else (if for_some Γ (λ ρ. line_untyped Γ ρ s) then Some fault.NoType
    else None)

-- ---- directions

-- a channel parameter against its mark
abbrev pub is_against : Dir → Option Sort → Bool
is_against d (Some (sort.Channel width (Some mark))) = not (same_dir mark d)
is_against d (Some (sort.Channel width None)) = false
is_against d (Some (sort.Variable width)) = false
is_against d (Some (sort.Counter b n)) = false
is_against d None = false

abbrev pub waiting_against : Sorts → Indices → Waiting → Bool
waiting_against Γ ρ ready = false
waiting_against Γ ρ (input c x) = is_against dir.Input (sort_here Γ ρ c)
waiting_against Γ ρ (output c e) = is_against dir.Output (sort_here Γ ρ c)

abbrev pub line_against : Sorts → Indices → Shape → Bool
line_against Γ ρ (receive c x) = waiting_against Γ ρ (input c x)
line_against Γ ρ (send c e) = waiting_against Γ ρ (output c e)
line_against Γ ρ (guard e w) = waiting_against Γ ρ w
line_against Γ ρ other = false

-- the fault of a line's directions
abbrev pub direction_fault : Sorts → Shape → Option (Unit {0})
direction_fault Γ s = if for_some Γ (λ ρ. line_against Γ ρ s) then Some tt else None
