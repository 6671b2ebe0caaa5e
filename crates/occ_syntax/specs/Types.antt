-- Which processes keep the rules of names, types and directions.
use Rattle.std.specs.Prelude.{ℕ, ◌==◌, ◌^◌, Bool, true, false, not, ◌&&◌, nat_lt, nat_le, List, [], ◌∷◌, Option, None, Some, is_none, if◌then◌else◌}
use Rattle.std.specs.List.{list_any}
use Rattle.occ_base.specs.declared.event.Dir.TheVariants.{Input, Output}
use Rattle.occ_base.specs.declared.width.Width.{Width}
use Rattle.occ_base.specs.declared.width.Width.TheVariants.{Bool as TruthValue, Word}
use Rattle.occ_syntax.specs.declared.expr.Op.{Op}
use Rattle.occ_syntax.specs.declared.expr.Op.TheVariants.{Plus, Minus, And, Or, BitAnd, BitOr, BitXor, Equal, Differ, Less, Greater, AtMost, AtLeast}
use Rattle.occ_base.specs.declared.names.Name.{Name}
use Rattle.occ_syntax.specs.declared.scope.Kind.{Kind}
use Rattle.occ_syntax.specs.declared.scope.Kind.TheVariants.{Var, Chan}
use Rattle.occ_syntax.specs.Tree.{Exp, variable, numeral, truth, negation, complement, operation, Waiting, ready, input, output, Tree, skip, stop, assign, receive, send, seq, par, select, alt, declare, connect, Trees, no_tree, and_tree, Cases, no_case, and_case, Branches, no_branch, and_branch}
use Rattle.occ_syntax.specs.Scopes.{Environment, environment, with_name, variable_width, channel_width, allows}

abbrev pub same_width : Width → Width → Bool
same_width TruthValue TruthValue = true
same_width (Word a) (Word b) = a == b
same_width TruthValue (Word b) = false
same_width (Word a) TruthValue = false

-- a word has 1 to 8 bits
abbrev pub is_width : Width → Bool
is_width TruthValue = true
is_width (Word bits) = nat_le 1 bits && nat_le bits 8

-- The type that an operator gives to two operands of one type, if it takes that type.
abbrev pub of_words : Width → Option Width → Option Width
of_words (Word bits) given = given
of_words TruthValue given = None

abbrev pub of_truth_values : Width → Option Width → Option Width
of_truth_values TruthValue given = given
of_truth_values (Word bits) given = None

abbrev pub type_given : Op → Width → Option Width
type_given Plus w = of_words w (Some w)
type_given Minus w = of_words w (Some w)
type_given BitAnd w = of_words w (Some w)
type_given BitOr w = of_words w (Some w)
type_given BitXor w = of_words w (Some w)
type_given And w = of_truth_values w (Some TruthValue)
type_given Or w = of_truth_values w (Some TruthValue)
type_given Equal w = Some TruthValue
type_given Differ w = Some TruthValue
type_given Less w = of_words w (Some TruthValue)
type_given Greater w = of_words w (Some TruthValue)
type_given AtMost w = of_words w (Some TruthValue)
type_given AtLeast w = of_words w (Some TruthValue)

abbrev pub type_of_two : Op → Option Width → Option Width → Option Width
type_of_two op (Some left) (Some right) = if same_width left right then type_given op left else None
type_of_two op (Some left) None = None
type_of_two op None right = None

abbrev pub if_truth_value : Option Width → Option Width
if_truth_value (Some TruthValue) = Some TruthValue
if_truth_value (Some (Word bits)) = None
if_truth_value None = None

abbrev pub if_word : Option Width → Option Width
if_word (Some (Word bits)) = Some (Word bits)
if_word (Some TruthValue) = None
if_word None = None

-- The type of an expression, where it has one.
abbrev pub type_of : Environment → Exp → Option Width
type_of Γ (variable x) = variable_width Γ x
type_of Γ (numeral bits value) = if is_width (Word bits) && nat_lt value (2 ^ bits) then Some (Word bits) else None
type_of Γ (truth b) = Some TruthValue
type_of Γ (negation e) = if_truth_value (type_of Γ e)
type_of Γ (complement e) = if_word (type_of Γ e)
type_of Γ (operation op left right) = type_of_two op (type_of Γ left) (type_of Γ right)

-- two types that are there, and are the same
abbrev pub agree : Option Width → Option Width → Bool
agree (Some a) (Some b) = same_width a b
agree (Some a) None = false
agree None b = false

abbrev pub is_condition : Environment → Exp → Bool
is_condition Γ e = agree (type_of Γ e) (Some TruthValue)

abbrev pub input_kept : Environment → ℕ → ℕ → Bool
input_kept Γ c x = allows (Γ c) Input && agree (channel_width Γ c) (variable_width Γ x)

abbrev pub output_kept : Environment → ℕ → Exp → Bool
output_kept Γ c e = allows (Γ c) Output && agree (channel_width Γ c) (type_of Γ e)

abbrev pub waiting_kept : Environment → Waiting → Bool
waiting_kept Γ ready = true
waiting_kept Γ (input c x) = input_kept Γ c x
waiting_kept Γ (output c e) = output_kept Γ c e

-- each variable of an assignment has the type of its expression, and stands once
abbrev pub pairs_kept : Environment → List ℕ → List Exp → Bool
pairs_kept Γ [] [] = true
pairs_kept Γ (x ∷ xs) (e ∷ es) = agree (variable_width Γ x) (type_of Γ e) && not (list_any (λ y. x == y) xs) && pairs_kept Γ xs es
pairs_kept Γ [] (e ∷ es) = false
pairs_kept Γ (x ∷ xs) [] = false

abbrev pub is_pair : List ℕ → Bool
is_pair [] = false
is_pair (x ∷ xs) = true

-- a declaration takes a name that isn't in scope, and a width
abbrev pub can_declare : Environment → ℕ → Width → Bool
can_declare Γ x w = is_none (Γ x) && is_width w

-- Names are declared before they are used and no name is declared again inside its own scope; types and directions
-- are kept.
abbrev mutual
  pub types_kept : Tree → Environment → Bool
  types_kept skip Γ = true
  types_kept stop Γ = true
  types_kept (assign xs es) Γ = is_pair xs && pairs_kept Γ xs es
  types_kept (receive c x) Γ = input_kept Γ c x
  types_kept (send c e) Γ = output_kept Γ c e
  types_kept (seq ps) Γ = all_types_kept ps Γ
  types_kept (par ps) Γ = all_types_kept ps Γ
  types_kept (select cs) Γ = cases_kept cs Γ
  types_kept (alt bs) Γ = branches_kept bs Γ
  types_kept (declare x w p) Γ = can_declare Γ x w && types_kept p (with_name Γ x (Var w))
  types_kept (connect c w p) Γ = can_declare Γ c w && types_kept p (with_name Γ c (Chan w None))

  pub all_types_kept : Trees → Environment → Bool
  all_types_kept no_tree Γ = true
  all_types_kept (and_tree p ps) Γ = types_kept p Γ && all_types_kept ps Γ

  pub cases_kept : Cases → Environment → Bool
  cases_kept no_case Γ = true
  cases_kept (and_case e p cs) Γ = is_condition Γ e && types_kept p Γ && cases_kept cs Γ

  pub branches_kept : Branches → Environment → Bool
  branches_kept no_branch Γ = true
  branches_kept (and_branch e w p bs) Γ = is_condition Γ e && waiting_kept Γ w && types_kept p Γ && branches_kept bs Γ

abbrev pub width_of_kind : Kind → Width
width_of_kind (Var width) = width
width_of_kind (Chan width dir) = width

-- a scope: no name stands twice, and widths are widths
abbrev pub scope_kept : List (Name × Kind) → Bool
scope_kept [] = true
scope_kept (entry ∷ entries) = can_declare (environment entries) entry.0.0 (width_of_kind entry.1) && scope_kept entries
