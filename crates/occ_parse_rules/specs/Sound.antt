-- What the form of a line makes sure of, and a whole text where each of its lines has a form.
use Rattle.std.specs.Prelude.{Bool, true, false, not, ◌&&◌, ◌==◌, List, [], ◌∷◌, is_none, ◌||◌}
use Rattle.std.specs.List.{list_any, list_all}
use Rattle.occ_meaning.specs.occ_syntax.declared.scope.Kind.{Kind}
use Rattle.occ_meaning.specs.occ_syntax.declared.scope.Kind.TheVariants as kind
use Rattle.occ_meaning.specs.occ_syntax.Types.{is_width, width_of_kind}
use Rattle.occ_parse_forms.specs.declared.form.Group.{Group}
use Rattle.occ_parse_forms.specs.declared.form.Group.TheVariants as word
use Rattle.occ_parse_forms.specs.declared.form.Item.{Item}
use Rattle.occ_parse_forms.specs.Shape.{Said, item, numeral, typed, truth, negation, complement, operation, Waiting, ready, input, output, Shape, header, close, skip, stop, assign, receive, send, group, declare, condition, guard, nothing}
use Rattle.occ_parse_rules.specs.Forest.{Forest, no_line, and_line}

-- the widths that an expression writes are widths
abbrev pub has_widths : Said → Bool
has_widths (item i) = true
has_widths (numeral value) = true
has_widths (typed value width) = is_width width
has_widths (truth b) = true
has_widths (negation e) = has_widths e
has_widths (complement e) = has_widths e
has_widths (operation op left right) = has_widths left && has_widths right

abbrev pub waiting_has_widths : Waiting → Bool
waiting_has_widths ready = true
waiting_has_widths (input c x) = true
waiting_has_widths (output c e) = has_widths e

abbrev pub is_unmarked : Kind → Bool
is_unmarked (kind.Var width) = true
is_unmarked (kind.Chan width mark) = is_none mark

abbrev pub has_width : Kind → Bool
has_width k = is_width (width_of_kind k)

-- the names without an index are distinct
abbrev pub is_same_name : Item → Item → Bool
is_same_name i j = (is_none i.index && is_none j.index) && i.name.0 == j.name.0

abbrev pub are_distinct : List Item → Bool
are_distinct [] = true
are_distinct (i ∷ is) = not (list_any (is_same_name i) is) && are_distinct is

-- as many of both, and one at least
abbrev pub is_empty : List Said → Bool
is_empty [] = true
is_empty (e ∷ es) = false

abbrev pub are_pairs : List Item → List Said → Bool
are_pairs [] es = false
are_pairs (x ∷ xs) [] = false
are_pairs (x ∷ []) (e ∷ es) = is_empty es
are_pairs (x ∷ y ∷ xs) (e ∷ es) = are_pairs (y ∷ xs) es

abbrev pub is_sound : Shape → Bool
is_sound (header name params) = list_all (λ p. has_width p.kind) params
is_sound close = true
is_sound skip = true
is_sound stop = true
is_sound (assign xs es) = (are_pairs xs es && are_distinct xs) && list_all has_widths es
is_sound (receive c x) = true
is_sound (send c e) = has_widths e
is_sound (group g times) = true
is_sound (declare k ds) = has_width k && is_unmarked k
is_sound (condition e) = has_widths e
is_sound (guard e w) = has_widths e && waiting_has_widths w
is_sound nothing = true

abbrev pub are_sound : Forest → Bool
are_sound no_line = true
are_sound (and_line number s below rest) = is_sound s && (are_sound below && are_sound rest)

-- ---- declarations stand in front of processes alone

unfoldable pub is_declare : Shape → Bool
is_declare (declare k ds) = true
is_declare other = false

-- choices and alternatives: no declaration is among them
abbrev pub are_options : Forest → Bool
are_options no_line = true
are_options (and_line number s below rest) = not (is_declare s) && are_options rest

abbrev pub group_takes_options : Group → Bool
group_takes_options word.Seq = false
group_takes_options word.Par = false
group_takes_options word.If = true
group_takes_options word.Alt = true

-- below an IF or an ALT stand choices or alternatives
abbrev pub options_below : Shape → Forest → Bool
options_below (group g times) below = not (group_takes_options g) || are_options below
options_below other below = true

abbrev pub are_placed : Forest → Bool
are_placed no_line = true
are_placed (and_line number s below rest) = options_below s below && (are_placed below && are_placed rest)
