-- What is wrong with the names of a line in its scope.
use Rattle.std.specs.Prelude.{ℕ, ◌==◌, Bool, true, false, not, ◌&&◌, ◌||◌, if◌then◌else◌, List, [], ◌∷◌, ◌++◌, Option, Some, None, is_none, is_some}
use Rattle.std.specs.List.{list_any, flat_map}
use Rattle.occ_parse_forms.specs.declared.form.Item.{Item}
use Rattle.occ_parse_forms.specs.declared.phrase.Index.{Index}
use Rattle.occ_parse_forms.specs.declared.phrase.Index.TheVariants as index
use Rattle.occ_parse_forms.specs.Shape.{Said, item, numeral, typed, truth, negation, complement, operation, Waiting, ready, input, output, Shape, header, close, skip, stop, assign, receive, send, group, declare, condition, guard, nothing}
use Rattle.occ_parse_rules.specs.declared.fault.NameFault.{NameFault}
use Rattle.occ_parse_rules.specs.declared.fault.NameFault.TheVariants as fault
use Rattle.occ_parse_rules.specs.declared.sort.Entry.{Entry}
use Rattle.occ_parse_rules.specs.declared.sort.Sort.{Sort}
use Rattle.occ_parse_rules.specs.declared.sort.Sort.TheVariants as sort
use Rattle.occ_parse_rules.specs.Places.{Place, Sorts, places, sort_at, has_elements, entries_of, param_entries, counter_of, for_some, place_at, sort_of_place}

-- the items that an expression names
abbrev pub items_in : Said → List Item
items_in (item i) = i ∷ []
items_in (numeral value) = []
items_in (typed value width) = []
items_in (truth b) = []
items_in (negation e) = items_in e
items_in (complement e) = items_in e
items_in (operation op left right) = items_in left ++ items_in right

abbrev pub items_in_all : List Said → List Item
items_in_all es = flat_map items_in es

abbrev pub items_of_waiting : Waiting → List Item
items_of_waiting ready = []
items_of_waiting (input c x) = c ∷ x ∷ []
items_of_waiting (output c e) = c ∷ items_in e

-- the items that a line uses
abbrev pub uses : Shape → List Item
uses (header name params) = []
uses close = []
uses skip = []
uses stop = []
uses (assign xs es) = xs ++ items_in_all es
uses (receive c x) = c ∷ x ∷ []
uses (send c e) = c ∷ items_in e
uses (group g times) = []
uses (declare kind ds) = []
uses (condition e) = items_in e
uses (guard e w) = items_in e ++ items_of_waiting w
uses nothing = []

-- the items that an assignment assigns
abbrev pub left_items : Shape → List Item
left_items (assign xs es) = xs
left_items other = []

-- the name in an index, where there is one
abbrev pub index_name : Index → Option ℕ
index_name (index.Number k) = None
index_name (index.Name i) = Some i.0
index_name (index.Plus i k) = Some i.0
index_name (index.Minus i k) = Some i.0

abbrev pub is_counter : Option Sort → Bool
is_counter (Some (sort.Counter b n)) = true
is_counter (Some (sort.Variable width)) = false
is_counter (Some (sort.Channel width mark)) = false
is_counter None = false

abbrev pub name_missing : Sorts → Option ℕ → Bool
name_missing Γ None = false
name_missing Γ (Some i) = is_none (sort_at Γ i None)

-- an index counts as one where it is a numeral or names a replicator's index
abbrev pub name_counts : Sorts → Option ℕ → Bool
name_counts Γ None = true
name_counts Γ (Some i) = is_counter (sort_at Γ i None)

-- an item that isn't in scope: its name isn't; of an element, no element of its array is, or the name in its index isn't
abbrev pub is_undeclared_at : Sorts → ℕ → Option Index → Bool
is_undeclared_at Γ x None = is_none (sort_at Γ x None)
is_undeclared_at Γ x (Some i) = not (has_elements Γ x) || name_missing Γ (index_name i)

abbrev pub is_undeclared : Sorts → Item → Bool
is_undeclared Γ i = is_undeclared_at Γ i.name.0 i.index

abbrev pub index_counts : Sorts → Option Index → Bool
index_counts Γ None = false
index_counts Γ (Some i) = name_counts Γ (index_name i)

-- an element that isn't in scope for some value of its index
abbrev pub is_outside : Sorts → Item → Bool
is_outside Γ i = index_counts Γ i.index && for_some Γ (λ ρ. is_none (sort_of_place Γ (place_at ρ i)))

abbrev pub same_element : Option ℕ → Option ℕ → Bool
same_element None None = true
same_element (Some k) (Some j) = k == j
same_element None (Some j) = false
same_element (Some k) None = false

abbrev pub same_place : Option Place → Option Place → Bool
same_place (Some p) (Some q) = p.name == q.name && same_element p.element q.element
same_place (Some p) None = false
same_place None q = false

-- two elements that are one for some values that the indices take together
abbrev pub may_meet : Sorts → Item → Item → Bool
may_meet Γ i j = (index_counts Γ i.index && index_counts Γ j.index) && for_some Γ (λ ρ. same_place (place_at ρ i) (place_at ρ j))

abbrev pub some_meet : Sorts → List Item → Bool
some_meet Γ [] = false
some_meet Γ (i ∷ is) = list_any (may_meet Γ i) is || some_meet Γ is

-- whether declarations in order declare a place that is in scope already
abbrev pub is_there : Sorts → Place → Bool
is_there Γ p = is_some (sort_at Γ p.name p.element)

abbrev pub redeclares_some : Sorts → List Entry → Bool
redeclares_some Γ [] = false
redeclares_some Γ (entry ∷ entries) = list_any (is_there Γ) (places entry.declared) || redeclares_some (entry ∷ Γ) entries

abbrev pub redeclares : Sorts → Shape → Bool
redeclares Γ (header name params) = redeclares_some Γ (param_entries params)
redeclares Γ (group g (Some times)) = redeclares_some Γ (counter_of times ∷ [])
redeclares Γ (declare kind ds) = redeclares_some Γ (entries_of kind ds)
redeclares Γ other = false

-- the fault of a line's names
abbrev pub name_fault : Sorts → Shape → Option NameFault
name_fault Γ s =
    if list_any (is_undeclared Γ) (uses s) then Some fault.Undeclared
    else (if redeclares Γ s then Some fault.Redeclared
    else (if list_any (is_outside Γ) (uses s) || some_meet Γ (left_items s) then Some fault.Index
    else None))
