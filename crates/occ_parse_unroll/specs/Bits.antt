-- Where more bits of variables are in scope than the language allows, read off the lines by numbers of bits alone.
use Rattle.std.specs.Prelude.{ℕ, ◌+◌, ◌*◌, Bool, false, nat_lt, if◌then◌else◌, List, [], ◌∷◌, Option, Some, None, length}
use Rattle.occ_syntax.specs.Counts.{bits_of_kind}
use Rattle.occ_parse_forms.specs.declared.form.Param.{Param}
use Rattle.occ_parse_forms.specs.Shape.{Shape, header, declare}
use Rattle.occ_parse_rules.specs.Forest.{Forest, no_line, and_line}
use Rattle.occ_parse_rules.specs.Judging.{or_else}
use Rattle.occ_parse_rules.specs.Limits.{has_copies}
use Rattle.occ_parse_rules.specs.Places.{places}
use Rattle.occ_parse_unroll.specs.Sizes.{names_in}

-- the bits of parameters together
abbrev pub bits_of_params : List Param → ℕ
bits_of_params [] = 0
bits_of_params (p ∷ ps) = length (places p.declared) * bits_of_kind p.kind + bits_of_params ps

-- whether a line is a declaration that brings the bits in scope above 24
abbrev pub is_wide : ℕ → Shape → Bool
is_wide here (declare kind ds) = nat_lt 24 (here + names_in ds * bits_of_kind kind)
is_wide here other = false

-- the bits in scope on the lines below a line, and on the next line at its level
abbrev pub bits_below : ℕ → Shape → ℕ
bits_below here (header name params) = here + bits_of_params params
bits_below here other = here

abbrev pub bits_behind : ℕ → ℕ → Shape → ℕ
bits_behind outer here (declare kind ds) = here + names_in ds * bits_of_kind kind
bits_behind outer here other = outer

abbrev pub wide_here : ℕ → ℕ → Shape → Option ℕ
wide_here number here s = if is_wide here s then Some number else None

-- The first such line, where so many bits are in scope outside and so many here.
abbrev pub wide_line : ℕ → ℕ → Forest → Option ℕ
wide_line outer here no_line = None
wide_line outer here (and_line number s below rest) =
    or_else (wide_here number here s)
    (or_else (if has_copies s then wide_line (bits_below here s) (bits_below here s) below else None)
    (wide_line outer (bits_behind outer here s) rest))

-- the first such line below a line, of which there is none where there are no copies
abbrev pub deeper_wide_line : ℕ → Shape → Forest → Option ℕ
deeper_wide_line here s below = if has_copies s then wide_line (bits_below here s) (bits_below here s) below else None
