-- The table that reading orders or a script leaves is one of places.
use Rattle.std.proofs.Common.{◌≡◌, ℕ, ◌+◌, true, List, [], ◌∷◌, ◌++◌, map, drop, length, Option, Some, None, refl, ap, sym, ◌∙◌, subst, append-nil}
use Rattle.std.specs.List.{AllByRecursion, concat, list_all}
use Rattle.occ_script_back.specs.occ_base.declared.names.Name.{Name}
use Rattle.occ_script_back.specs.occ_lex.declared.token.Line.{Line}
use Rattle.occ_script_back.specs.occ_lex.Placed.{IsLineOf}
use Rattle.occ_script_back.specs.occ_lex.Rows.{rows}
use Rattle.occ_script_back.proofs.from_lex.Placing.{concat-rows}
use Rattle.occ_script_back.specs.occ_lex.Symbols.{with_names_of_all}
use Rattle.occ_script_back.proofs.from_lex.Interned.{extends_same}
use Rattle.occ_script_back.proofs.from_parse.Texts.{is_plain, plain_table}
use Rattle.occ_script_back.specs.occ_parse_part.Arrays.{array_names, arrays_of}
use Rattle.occ_script_back.specs.occ_parse_part.Elements.{with_arrays}
use Rattle.occ_script_back.specs.occ_parse_part.Parts.{IsPart}
use Rattle.occ_script_back.specs.occ_parse_part.Shown.{lines_of}
use Rattle.occ_script_back.specs.occ_parse_part.declared.raw.Raw.{Raw}
use Rattle.occ_script_back.proofs.from_parse_part.Known.{arrays_pass, lines_are_of, lines_pass_test, names_pass}
use Rattle.occ_script_back.specs.occ_parse.declared.bound.Bound.TheVariants as bound
use Rattle.occ_script_back.specs.occ_parse_rules.Forest.{Forest, lines_at}
use Rattle.occ_script_back.specs.occ_parse_rules.Places.{Place}
use Rattle.occ_script_back.specs.occ_print_back.Placed.{IsTable}
use Rattle.occ_script_back.specs.Tables.{Grows, IsBase}
use Rattle.occ_script_back.proofs.Growing.{arrays_grow}
use Rattle.occ_script_back.specs.occ_script.declared.script.Order.{Order}
use Rattle.occ_script_back.specs.occ_script.declared.script.Script.{Script}
use Rattle.occ_script_back.specs.occ_script.declared.script.Step.{Step}
use Rattle.occ_script_back.specs.occ_script.Lines.{named_in}
use Rattle.occ_script_back.specs.occ_script.Orders.{AreOrders, IsOrders, IsPartThere, and_order, no_order}
use Rattle.occ_script_back.specs.occ_script.Scripts.{IsDerivation, IsEnd, IsFormed, IsScript}
use Rattle.occ_script_back.specs.occ_script.Steps.{AreSteps, IsPartIn, and_step, no_step}
use Rattle.occ_script_back.specs.occ_script_lines.Sections.{Section, reading_in, upto}
use Rattle.occ_script_back.proofs.from_script_lines.Placing.{lines_placed}
use Rattle.occ_script_table.proofs.Bases.{base_of}
use Rattle.occ_script_table.proofs.Named.{as_it_is, lines_grow, one_behind}
use Rattle.occ_script_table.proofs.Programs.{program_left}
use Rattle.occ_script_back.specs.occ_syntax.View.{numbers, tree}

bases_of : (t : List (List ℕ)) (P : ℕ → Place) → IsTable t P → (arrays : List Name) → AllByRecursion (λ (x : Name). is_plain t x.0 ≡ true) arrays
    → AllByRecursion (λ (x : Name). IsBase t x.0) arrays
bases_of t P table [] h = tt
bases_of t P table (x ∷ arrays) h = (base_of t P table x.0 h.0, bases_of t P table arrays h.1)

-- ---- the lines of a section

behind_front : (front body : List ℕ) → drop (length front) (front ++ body) ≡ body
behind_front [] body = refl
behind_front (x ∷ front) body = behind_front front body

lines_there : (s : Section) → AllByRecursion (IsLineOf (upto s)) (reading_in s).0
lines_there s =
    lines_placed (upto s) [] (s.number + 1) (length s.front) (rows s.body)
    (behind_front s.front s.body ∙ sym (append-nil (concat (rows s.body)) ∙ concat-rows s.body))

section_grows : (s : Section) (old : List (List ℕ)) (P : ℕ → Place) → IsTable old P → Grows old P (named_in s old)
section_grows s old P table = lines_grow old P table (upto s) (reading_in s).0 (lines_there s)

-- ---- a part

as_numbers : (xs : List ℕ) → numbers (map (λ (x : ℕ). record { 0 = x }) xs) ≡ xs
as_numbers [] = refl
as_numbers (x ∷ xs) = ap (λ ys. x ∷ ys) (as_numbers xs)

elements_grow : (text : List ℕ) (old : List (List ℕ)) (lines : List Line) (f : Forest) (Q : ℕ → Place)
    → AllByRecursion (IsLineOf text) lines → IsPart text old lines f
    → IsTable (with_names_of_all text old lines) Q
    → Grows (with_names_of_all text old lines) Q (with_arrays (with_names_of_all text old lines) (array_names (lines_at 1 f)))
elements_grow text old lines f Q placed part table =
    let t = with_names_of_all text old lines in
    let arrays = array_names (lines_at 1 f) in
    let laid = lines_are_of text old t lines part.laid part.stop placed (extends_same t) part.judged in
    let passes = arrays_pass (is_plain t) part.laid (lines_pass_test t (is_plain t) (plain_table t) part.laid laid) in
    let once : numbers arrays ≡ arrays_of part.laid = as_numbers (arrays_of (lines_at 1 f)) ∙ ap arrays_of part.well.lines in
    arrays_grow t Q table arrays (bases_of t Q table arrays (names_pass (is_plain t) arrays (ap (list_all (is_plain t)) once ∙ passes)))

-- the lines of a section, read once for their layout and then as a part
part_in_grows : (old new : List (List ℕ)) (P : ℕ → Place) (s : Section) (part : Raw) → IsTable old P → IsPartIn old new s part → Grows old P new
part_in_grows old new P s part table h =
    let t = named_in s old in
    let u = named_in s t in
    let all = with_arrays u (array_names (lines_at 1 (lines_of part))) in
    subst (Grows old P) (sym h.table)
    (one_behind old t all P table (section_grows s old P table) (λ Q first e.
    one_behind t u all Q first (section_grows s t Q first) (λ R second e.
    elements_grow (upto s) t (reading_in s).0 (lines_of part) R (lines_there s) h.lines second)))

-- ---- orders

part_grows : (old new : List (List ℕ)) (P : ℕ → Place) (s : Section) (part : Option Raw) → IsTable old P → IsPartThere old new s part
    → Grows old P new
part_grows old new P s None table h = subst (Grows old P) (sym h.table) (section_grows s old P table)
part_grows old new P s (Some part) table h = part_in_grows old new P s part table h.lines

orders_grow : (old new : List (List ℕ)) (P : ℕ → Place) (ss : List Section) (orders : List Order) → IsTable old P
    → AreOrders old new ss orders → Grows old P new
orders_grow old new P ss orders table (no_order a) = as_it_is a P table
orders_grow old new P ss orders table (and_order a t b s others order rest h further) =
    one_behind a t b P table (part_grows a t P s order.part table h.part) (λ Q one e. orders_grow t b Q others rest one further)

-- reading orders with a table of places leaves such a table
pub orders_left : (text : List ℕ) (old new : List (List ℕ)) (P : ℕ → Place) (orders : List Order) → IsTable old P
    → IsOrders text old new orders → Grows old P new
orders_left text old new P orders table h =
    one_behind old (named_in h.head old) new P table (section_grows h.head old P table)
    (λ Q one e. orders_grow (named_in h.head old) new Q h.rest orders one h.are_orders)

-- ---- scripts

steps_grow : (old new : List (List ℕ)) (P : ℕ → Place) (ss rest : List Section) (steps : List Step) → IsTable old P
    → AreSteps old new ss rest steps → Grows old P new
steps_grow old new P ss rest steps table (no_step a r) = as_it_is a P table
steps_grow old new P ss rest steps table (and_step a t b s others r step later line h further) =
    one_behind a t b P table (part_in_grows a t P s step.part table h.part) (λ Q one e. steps_grow t b Q others r later one further)

end_grows : (old new : List (List ℕ)) (P : ℕ → Place) (sections : List Section) (steps : List Step) (to : List ℕ) → IsTable old P
    → IsEnd old new sections steps to → Grows old P new
end_grows old new P sections steps to table h =
    one_behind old h.between new P table (steps_grow old h.between P sections (h.target ∷ []) steps table h.are_steps)
    (λ Q one e. subst (Grows h.between Q) (sym h.table) (section_grows h.target h.between Q one))

derivation_grows : (old new : List (List ℕ)) (P : ℕ → Place) (sections : List Section) (from : List ℕ) (steps : List Step) (to : List ℕ) → IsTable old P
    → IsDerivation old new sections from steps to → Grows old P new
derivation_grows old new P sections from steps to table h =
    one_behind old (named_in h.source old) new P table (section_grows h.source old P table)
    (λ Q one e. end_grows (named_in h.source old) new Q h.rest steps to one h.is_end)

formed_grows : (text : List ℕ) (old new : List (List ℕ)) (P : ℕ → Place) (from : List ℕ) (steps : List Step) (to : List ℕ) → IsTable old P
    → IsFormed text old new from steps to → Grows old P new
formed_grows text old new P from steps to table h =
    one_behind old (named_in h.head old) new P table (section_grows h.head old P table)
    (λ Q one e. derivation_grows (named_in h.head old) new Q h.rest from steps to one h.derivation)

-- reading a script with a table of places leaves such a table
pub script_left : (text : List ℕ) (old new : List (List ℕ)) (P : ℕ → Place) (script : Script) → IsTable old P
    → IsScript text old new script → Grows old P new
script_left text old new P script table h =
    let first = script.from.program in
    one_behind old h.formed_table new P table (formed_grows text old h.formed_table P h.from script.steps h.to table h.formed) (λ Q one e.
    one_behind h.formed_table h.between new Q one
    (program_left bound.First h.from h.formed_table h.between Q first.name first.params (tree first.body) script.from.lines one h.is_from) (λ R two e.
    program_left bound.Script h.to h.between new R script.to.name script.to.params (tree script.to.body) h.numbers two h.is_to))
