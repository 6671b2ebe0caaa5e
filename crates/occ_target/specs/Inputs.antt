-- The variables into which a normal program inputs: one for each width of its input channels.
use Rattle.std.specs.Prelude.{ℕ, zero, suc, ◌+◌, Bool, true, false, List, [], ◌∷◌, ◌++◌, length, filter, Option, None, Some, if◌then◌else◌}
use Rattle.std.specs.List.{list_any}
use Rattle.std.specs.Str.{bytes_eq}
use Rattle.occ_syntax.specs.occ_base.declared.event.Dir.{Dir}
use Rattle.occ_syntax.specs.occ_base.declared.event.Dir.TheVariants.{Input, Output}
use Rattle.occ_syntax.specs.occ_base.declared.names.Name.{Name}
use Rattle.occ_syntax.specs.occ_base.declared.width.Width.{Width}
use Rattle.occ_syntax.specs.occ_base.declared.width.Width.TheVariants.{Bool as Truth, Word}
use Rattle.occ_syntax.specs.occ_base.Names.{place_of, with_text}
use Rattle.occ_syntax.specs.declared.scope.Kind.{Kind}
use Rattle.occ_syntax.specs.declared.scope.Kind.TheVariants.{Var, Chan}
use Rattle.occ_nform_table.specs.Lines.{text_of}
use Rattle.occ_syntax.specs.Types.{same_width}

abbrev pub is_inward : Option Dir → Bool
is_inward None = false
is_inward (Some Input) = true
is_inward (Some Output) = false

-- a channel of that width from which a program inputs
abbrev pub is_input_of : Width → Kind → Bool
is_input_of w (Var v) = false
is_input_of w (Chan v mark) = if is_inward mark then same_width w v else false

-- all widths, BOOL first and then by bits
abbrev pub all_widths : List Width
all_widths = Truth ∷ Word 1 ∷ Word 2 ∷ Word 3 ∷ Word 4 ∷ Word 5 ∷ Word 6 ∷ Word 7 ∷ Word 8 ∷ []

abbrev pub is_input_width : List (Name × Kind) → Width → Bool
is_input_width params w = list_any (λ p. is_input_of w p.1) params

-- the widths of the input parameters, in that order
abbrev pub input_widths : List (Name × Kind) → List Width
input_widths params = filter (is_input_width params) all_widths

-- ---- names

abbrev pub digit_of : Width → ℕ
digit_of Truth = 0
digit_of (Word bits) = bits

-- the text is a parameter's name
abbrev pub is_taken : List (List ℕ) → List (Name × Kind) → List ℕ → Bool
is_taken names params text = list_any (λ (p : Name × Kind). bytes_eq text (text_of names p.0)) params

-- the text with as few dots (46) behind it as make it no parameter's name, and with so many at most
unfoldable pub dotted : List (List ℕ) → List (Name × Kind) → ℕ → List ℕ → List ℕ
dotted names params zero text = text
dotted names params (suc more) text = if is_taken names params text then dotted names params more (text ++ 46 ∷ []) else text

-- the name of the variable of a width: t (116) and the digit (48 is 0), and dots behind it; one dot for each parameter is enough
abbrev pub input_text : List (List ℕ) → List (Name × Kind) → Width → List ℕ
input_text names params w = dotted names params (length params) (116 ∷ (48 + digit_of w) ∷ [])

abbrev pub input_name : List (List ℕ) → List (Name × Kind) → Width → Name
input_name names params w = record { 0 = place_of names (input_text names params w) }

-- the table of names with those of the variables of widths
unfoldable pub names_with : List (List ℕ) → List (Name × Kind) → List Width → List (List ℕ)
names_with names params [] = names
names_with names params (w ∷ ws) = names_with (with_text names (input_text names params w)) params ws

-- these variables, in order
unfoldable pub variables_of : List (List ℕ) → List (Name × Kind) → List Width → List (Name × Kind)
variables_of names params [] = []
variables_of names params (w ∷ ws) =
    (input_name names params w, Var w) ∷ variables_of (with_text names (input_text names params w)) params ws

-- the variables into which the normal program inputs
abbrev pub input_variables : List (List ℕ) → List (Name × Kind) → List (Name × Kind)
input_variables names params = variables_of names params (input_widths params)

-- the table of names with those of these variables
abbrev pub input_names : List (List ℕ) → List (Name × Kind) → List (List ℕ)
input_names names params = names_with names params (input_widths params)
