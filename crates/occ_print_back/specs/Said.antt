-- What the lines of a printed program say, where each number of a name is a place: a name, or the element of an array.
use Rattle.std.specs.Prelude.{ℕ, Bool, true, false, not, ◌&&◌, ◌||◌, if◌then◌else◌, List, [], ◌∷◌, map, Option, None, Some}
use Rattle.occ_print.specs.occ_base.declared.width.Width.TheVariants as width
use Rattle.occ_print.specs.occ_syntax.declared.scope.Kind.{Kind}
use Rattle.occ_print.specs.occ_syntax.Tree.{Exp, variable, numeral, truth, negation, complement, operation, Waiting, ready, input, output}
use Rattle.occ_print.specs.occ_parse_forms.declared.form.Declared.{Declared}
use Rattle.occ_print.specs.occ_parse_forms.declared.form.Declared.TheVariants as declared
use Rattle.occ_print.specs.occ_parse_forms.declared.form.Item.{Item}
use Rattle.occ_print.specs.occ_parse_forms.declared.phrase.Index.{Index}
use Rattle.occ_print.specs.occ_parse_forms.declared.phrase.Index.TheVariants as index
use Rattle.occ_print.specs.occ_parse_forms.Shape.{Said, Shape}
use Rattle.occ_print.specs.occ_parse_forms.Shape as line
use Rattle.occ_parse.specs.occ_parse_rules.Places.{Place}
use Rattle.occ_print.specs.Symbols.{compares_numerals, is_true, is_ready}

abbrev pub index_of : Option ℕ → Option Index
index_of None = None
index_of (Some k) = Some (index.Number k)

abbrev pub item_of : Place → Item
item_of p = record { name = record { 0 = p.name }; index = index_of p.element }

-- the declaration of one place
abbrev pub declared_at : ℕ → Option ℕ → Declared
declared_at x None = declared.Plain (record { 0 = x })
declared_at x (Some k) = declared.Element (record { 0 = x }) k

abbrev pub declared_of : Place → Declared
declared_of p = declared_at p.name p.element

-- a numeral, with its width where that is printed
abbrev pub numeral_said : Bool → ℕ → ℕ → Said
numeral_said false bits value = line.numeral value
numeral_said true bits value = line.typed value (width.Word bits)

-- what a printed expression says
abbrev pub said : (ℕ → Place) → (wide : Bool) → Exp → Said
said P wide (variable x) = line.item (item_of (P x))
said P wide (numeral bits value) = numeral_said wide bits value
said P wide (truth b) = line.truth b
said P wide (negation e) = line.negation (said P wide e)
said P wide (complement e) = line.complement (said P wide e)
said P wide (operation o left right) =
    line.operation o (said P (wide || compares_numerals o left right) left) (said P (wide || compares_numerals o left right) right)

abbrev pub whole_said : (ℕ → Place) → Exp → Said
whole_said P e = said P false e

abbrev pub assign_shape : (ℕ → Place) → List ℕ → List Exp → Shape
assign_shape P xs es = line.assign (map (λ x. item_of (P x)) xs) (map (whole_said P) es)

abbrev pub receive_shape : (ℕ → Place) → ℕ → ℕ → Shape
receive_shape P c x = line.receive (item_of (P c)) (item_of (P x))

abbrev pub send_shape : (ℕ → Place) → ℕ → Exp → Shape
send_shape P c e = line.send (item_of (P c)) (whole_said P e)

-- a guard without its condition
abbrev pub bare_guard : (ℕ → Place) → Waiting → Shape
bare_guard P ready = line.skip
bare_guard P (input c x) = receive_shape P c x
bare_guard P (output c e) = send_shape P c e

abbrev pub waited_for : (ℕ → Place) → Waiting → line.Waiting
waited_for P ready = line.ready
waited_for P (input c x) = line.input (item_of (P c)) (item_of (P x))
waited_for P (output c e) = line.output (item_of (P c)) (whole_said P e)

abbrev pub guard_shape : (ℕ → Place) → Exp → Waiting → Shape
guard_shape P e w = if is_true e && not (is_ready w) then bare_guard P w else line.guard (whole_said P e) (waited_for P w)

abbrev pub declaration_shape : (ℕ → Place) → ℕ → Kind → Shape
declaration_shape P x k = line.declare k (declared_of (P x) ∷ [])
