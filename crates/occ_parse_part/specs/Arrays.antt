-- The arrays of which lines name elements.
use Rattle.std.specs.Prelude.{ℕ, List, [], ◌∷◌, map, Option, Some, None}
use Rattle.std.specs.List.{flat_map}
use Rattle.occ_syntax.specs.occ_base.declared.names.Name.{Name}
use Rattle.occ_parse.specs.occ_names.Once.{same_number, with_all}
use Rattle.occ_parse_forms.specs.declared.form.Declared.{Declared}
use Rattle.occ_parse_forms.specs.declared.form.Declared.TheVariants as declared
use Rattle.occ_parse_forms.specs.declared.form.Item.{Item}
use Rattle.occ_parse_forms.specs.declared.phrase.Index.{Index}
use Rattle.occ_parse_forms.specs.Shape.{Shape, header, close, skip, stop, assign, receive, send, group, declare, condition, guard, nothing}
use Rattle.occ_parse_rules.specs.Forest.{Laid}
use Rattle.occ_parse_rules.specs.Names.{uses}

-- a name with an index is an element
abbrev pub array_at : ℕ → Option Index → List ℕ
array_at x None = []
array_at x (Some i) = x ∷ []

abbrev pub item_array : Item → List ℕ
item_array i = array_at i.name.0 i.index

abbrev pub declared_array : Declared → List ℕ
declared_array (declared.Plain x) = []
declared_array (declared.Element x k) = x.0 ∷ []
declared_array (declared.Array x n) = x.0 ∷ []

-- the arrays that a line names, in order: those whose elements it declares or uses
abbrev pub line_arrays : Shape → List ℕ
line_arrays (header name params) = flat_map (λ p. declared_array p.declared) params
line_arrays (declare kind ds) = flat_map declared_array ds
line_arrays close = []
line_arrays skip = []
line_arrays stop = []
line_arrays (assign xs es) = flat_map item_array (uses (assign xs es))
line_arrays (receive c x) = flat_map item_array (uses (receive c x))
line_arrays (send c e) = flat_map item_array (uses (send c e))
line_arrays (group g times) = []
line_arrays (condition e) = flat_map item_array (uses (condition e))
line_arrays (guard e w) = flat_map item_array (uses (guard e w))
line_arrays nothing = []

-- the arrays of lines, each once, where it is named first
abbrev pub arrays_of : List Laid → List ℕ
arrays_of lines = with_all same_number [] (flat_map (λ line. line_arrays line.shape) lines)

-- the arrays of lines as names
abbrev pub array_names : List Laid → List Name
array_names lines = map (λ x. record { 0 = x }) (arrays_of lines)
