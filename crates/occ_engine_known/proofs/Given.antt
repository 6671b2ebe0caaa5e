-- The parts of a text of orders declare names of the table.
use Rattle.std.proofs.Common.{◌≡◌, ℕ, zero, suc, ◌+◌, ◌<◌, ◌≤◌, ◌==◌, Bool, true, false, cond, List, [], ◌∷◌, ◌++◌, map, drop, length, Option, Some, None, refl, sym, ap, subst, ◌∙◌, arith, append-nil, ⊎_elim}
use Rattle.std.specs.List.{AllByRecursion, concat}
use Rattle.std.specs.Option.{option_map}
use Rattle.std.proofs.lemmas.Bool.{cases_lt, lt-ltb, ltb-true}
use Rattle.occ_engine.specs.occ_base.declared.names.Name.{Name}
use Rattle.occ_engine.specs.Moved.{orders_of}
use Rattle.occ_engine_known.specs.Given.{AllGiveBelow}
use Rattle.occ_engine_known.proofs.Standing.{good, slot_stands}
use Rattle.occ_engine.specs.occ_replay_rules.Orders.{IsGiven, none_given, part_given}
use Rattle.occ_engine.specs.occ_lex.declared.token.Line.{Line}
use Rattle.occ_engine.specs.occ_lex.Placed.{IsLineOf as IsTextLine}
use Rattle.occ_engine.specs.occ_lex.Rows.{rows}
use Rattle.occ_engine.proofs.from_lex.Placing.{concat-rows}
use Rattle.occ_engine.specs.occ_lex.Symbols.{Extends, with_names_of_all}
use Rattle.occ_engine.proofs.from_lex.Interned.{extends_all, extends_eq, extends_same, extends_trans, longer}
use Rattle.occ_engine.specs.occ_parse.Known.{declares, is_below}
use Rattle.occ_engine.proofs.from_parse.Knowing.{EachLine, IsLineOf, each_map, each_of_lines, line_passes, line_small, name_known}
use Rattle.occ_engine.proofs.from_parse.Places.{HasElement, HasPlace, all_brought_in, are_known, forest_all, lines_places, places_extend}
use Rattle.occ_engine.proofs.from_parse.Small.{shape_small}
use Rattle.occ_engine.proofs.from_parse.Texts.{in_table}
use Rattle.occ_engine.specs.occ_parse_part.Arrays.{array_names, arrays_of}
use Rattle.occ_engine.specs.occ_parse_part.Elements.{Elements, element_count, elements_in, no_elements, numbers, row_in, row_number, with_arrays, with_arrays_in, with_row}
use Rattle.occ_engine.specs.occ_parse_part.Parts.{IsPart}
use Rattle.occ_engine.specs.occ_parse_part.Resolving.{scope_of}
use Rattle.occ_engine.specs.occ_parse_part.Shown.{elements_of, lines_of, part_of}
use Rattle.occ_engine.specs.occ_parse_part.declared.raw.Raw.{Raw}
use Rattle.occ_engine.proofs.from_parse_part.Counted.{count_is}
use Rattle.occ_engine.proofs.from_parse_part.Known.{arrays_known, lines_are_of}
use Rattle.occ_engine.specs.occ_parse.declared.bound.Bound.{Bound}
use Rattle.occ_engine.specs.occ_parse.Reading.{IsRead, names_in}
use Rattle.occ_engine.specs.occ_parse_rules.Forest.{Forest, Laid, lines_at}
use Rattle.occ_engine.specs.occ_parse_rules.Places.{Place, Sorts, elements_from}
use Rattle.occ_engine.specs.occ_parse_rules.Unrolled.{slot_process}
use Rattle.occ_engine.specs.occ_parse.Drafts.{header_below, header_params}
use Rattle.occ_engine.specs.occ_parse_rules.Agreement.{Has}
use Rattle.occ_engine.specs.occ_parse_rules.Passing.{shape_passes}
use Rattle.occ_engine.specs.occ_parse_unroll.Elements.{program_places, with_places}
use Rattle.occ_engine.specs.occ_parse_unroll.Numbers.{number_in}
use Rattle.occ_engine.specs.occ_script.declared.script.Order.{Order}
use Rattle.occ_engine.specs.occ_script.Lines.{named_in}
use Rattle.occ_engine.specs.occ_script.Orders.{AreOrders, IsOrders, IsPartThere, and_order, no_order}
use Rattle.occ_engine.specs.occ_script_lines.Sections.{Section, reading_in, upto}
use Rattle.occ_engine.proofs.from_script_lines.Placing.{lines_placed}
use Rattle.occ_engine.specs.occ_syntax.declared.scope.Kind.{Kind}
use Rattle.occ_engine.specs.occ_syntax.Tree.{Tree}
use Rattle.occ_engine.specs.occ_syntax.View.{numbers as numbers_of}

-- ---- the elements of arrays are in the table

arrays_grow : (t : List (List ℕ)) (arrays : List Name) → Extends t (with_arrays t arrays)
arrays_grow t [] = extends_same t
arrays_grow t (x ∷ arrays) =
    let next = with_places t (elements_from x.0 0 element_count) in
    extends_trans t next (with_arrays next arrays) (places_extend t (elements_from x.0 0 element_count)) (arrays_grow next arrays)

of_array : (n x k m : ℕ) → x < n → AllByRecursion (λ (p : Place). p.name < n) (elements_from x k m)
of_array n x k zero h = tt
of_array n x k (suc m) h = (h, of_array n x (k + 1) m h)

one_of : (t : List (List ℕ)) (x k m j : ℕ) → k ≤ j → j < k + m → AllByRecursion (HasPlace t) (elements_from x k m)
    → number_in t x (Some j) < length t
one_of t x k zero j a b h = absurd (omega (arith, a, b))
one_of t x k (suc m) j a b h = ⊎_elim
    (λ (l : k < j). one_of t x (k + 1) m j (omega (arith, l)) (omega (arith, b)) h.1)
    (λ (l : j ≤ k). let same : k ≡ j = omega (arith, l, a) in subst (λ i. HasElement t x (Some i)) same h.0)
    (cases_lt k j)

-- the numbers of the elements of an array are below the size of the table
abbrev HasRow : List (List ℕ) → ℕ → Type 0
HasRow t x = (j : ℕ) → j < 256 → number_in t x (Some j) < length t

low_more : (n m : ℕ) (arrays : List Name) → n ≤ m → AllByRecursion (λ (x : Name). x.0 < n) arrays
    → AllByRecursion (λ (x : Name). x.0 < m) arrays
low_more n m [] l h = tt
low_more n m (x ∷ arrays) l h = (omega (arith, l, h.0), low_more n m arrays l h.1)

rows_there : (old t : List (List ℕ)) (arrays : List Name) → AllByRecursion (λ (x : Name). x.0 < length old) arrays
    → Extends (with_arrays old arrays) t
    → AllByRecursion (λ (x : Name). HasRow t x.0) arrays
rows_there old t [] h e = tt
rows_there old t (x ∷ arrays) h e =
    let first = elements_from x.0 0 element_count in
    let next = with_places old first in
    let whole : Extends next t = extends_trans next (with_arrays next arrays) t (arrays_grow next arrays) e in
    let there = all_brought_in old first t (of_array (length old) x.0 0 element_count h.0) whole in (
      λ j l. one_of t x.0 0 element_count j (omega arith) (omega (arith, l, count_is)) there,
      rows_there next t arrays (low_more (length old) (length next) arrays (longer old next (places_extend old first)) h.1) e,
    )

-- ---- numbers of elements

chosen : (b : Bool) (a c n : ℕ) → a < n → c < n → cond b a c < n
chosen true a c n h k = h
chosen false a c n h k = k

module _ (t : List (List ℕ)) (some : 0 < length t) where
  row_low : (x k m j : ℕ) → ((i : ℕ) → k ≤ i → i < k + m → number_in t x (Some i) < length t) → row_number (row_in t x k m) j < length t
  row_low x k zero j f = some
  row_low x k (suc m) zero f = f k (omega arith) (omega arith)
  row_low x k (suc m) (suc j) f = row_low x (k + 1) m j (λ i a b. f i (omega (arith, a)) (omega (arith, b)))

  elements_low : (e : Elements) (arrays : List Name) → AllByRecursion (λ (x : Name). HasRow t x.0) arrays
      → ((y k : ℕ) → e.number y k < length t)
      → (y k : ℕ) → (with_arrays_in t e arrays).number y k < length t
  elements_low e [] h f y k = f y k
  elements_low e (x ∷ arrays) h f y k =
      elements_low (with_row e x (row_in t x.0 0 element_count)) arrays h.1
      (λ z i. chosen (x.0 == z) (row_number (row_in t x.0 0 element_count) i) (e.number z i) (length t)
      (row_low x.0 0 element_count i (λ j a b. h.0 j (omega (arith, b, count_is)))) (f z i)) y k

  all_low : (arrays : List Name) → AllByRecursion (λ (x : Name). HasRow t x.0) arrays → (y k : ℕ)
      → (elements_in t arrays).number y k < length t
  all_low arrays h y k = elements_low no_elements arrays h (λ z i. some) y k

-- ---- a part that is read

as_numbers : (xs : List ℕ) → numbers_of (map (λ (x : ℕ). record { 0 = x }) xs) ≡ xs
as_numbers [] = refl
as_numbers (x ∷ xs) = ap (λ ys. x ∷ ys) (as_numbers xs)

anything : (ps : List Place) → AllByRecursion (λ (p : Place). Unit {0}) ps
anything [] = tt
anything (p ∷ ps) = (tt, anything ps)

module _ (text : List ℕ) (old : List (List ℕ)) (lines : List Line) (f : Forest) (new : List (List ℕ)) (e : Elements) (n : ℕ)
    (placed : AllByRecursion (IsTextLine text) lines) (part : IsPart text old lines f)
    (table : new ≡ with_arrays (with_names_of_all text old lines) (array_names (lines_at 1 f)))
    (elements : e ≡ elements_in new (array_names (lines_at 1 f))) (within : length new ≤ n) where
  abbrev base : List (List ℕ)
  base = with_names_of_all text old lines

  abbrev arrays : List Name
  arrays = array_names (lines_at 1 f)

  arrays_low : AllByRecursion (λ (x : Name). x.0 < length base) arrays
  arrays_low =
      arrays_known text old base lines part.laid part.stop arrays placed (extends_same base) part.judged
      (as_numbers (arrays_of (lines_at 1 f)) ∙ ap arrays_of part.well.lines)

  have_rows : AllByRecursion (λ (x : Name). HasRow new x.0) arrays
  have_rows = rows_there base new arrays arrays_low (extends_eq (with_arrays base arrays) new table)

  grown : Extends base new
  grown = subst (Extends base) (sym table) (arrays_grow base arrays)

  each : EachLine (IsLineOf new) f
  each = each_of_lines (IsLineOf new) 1 f (subst (AllByRecursion (λ (line : Laid). IsLineOf new line.shape)) (sym part.well.lines)
      (lines_are_of text old new lines part.laid part.stop placed grown part.judged))

  below : EachLine (λ s. shape_passes (is_below (length new)) s ≡ true) f
  below =
      each_map (IsLineOf new) (λ s. shape_passes (is_below (length new)) s ≡ true)
      (line_passes new (is_below (length new)) (in_table new)) f each

  small : EachLine (λ s. shape_small s ≡ true) f
  small = each_map (IsLineOf new) (λ s. shape_small s ≡ true) (line_small new) f each

  number_low : (x : ℕ) (k : Option ℕ) → is_below (length new) x ≡ true → is_below n (numbers e x k) ≡ true
  number_low x None h = let low : x < length new = ltb-true x (length new) h in lt-ltb x n (omega (arith, low, within))
  number_low x (Some k) h =
      let low : x < length new = ltb-true x (length new) h in
      let some : 0 < length new = omega (arith, low) in
      let here : e.number x k < length new =
      subst (λ (d : Elements). d.number x k < length new) (sym elements) (all_low new some arrays have_rows x k) in
      lt-ltb (e.number x k) n (omega (arith, here, within))

  -- the names that it declares are below each number that the size of the table isn't above
  pub part_low : (Γ : Sorts) → declares (is_below n) (slot_process (numbers e) Γ f) ≡ true
  part_low Γ =
      let D = good (numbers e) (is_below n) in
      slot_stands (numbers e) (is_below n) Γ f
      (are_known D f (forest_all (is_below (length new)) (λ (p : Place). Unit {0}) (λ (p : Place). Has D p.name p.element)
      (λ x k h s u. number_low x k h) f below small (anything (lines_places f))))

-- ---- the lines of a section

after_front : (front body : List ℕ) → drop (length front) (front ++ body) ≡ body
after_front [] body = refl
after_front (x ∷ front) body = after_front front body

lines_there : (s : Section) → AllByRecursion (IsTextLine (upto s)) (reading_in s).0
lines_there s =
    lines_placed (upto s) [] (s.number + 1) (length s.front) (rows s.body)
    (after_front s.front s.body ∙ sym (append-nil (concat (rows s.body)) ∙ concat-rows s.body))

-- ---- orders

section_grows : (s : Section) (old : List (List ℕ)) → Extends old (named_in s old)
section_grows s old = extends_all (upto s) old (reading_in s).0

part_grows : (old new : List (List ℕ)) (s : Section) (part : Option Raw) → IsPartThere old new s part → Extends old new
part_grows old new s None h = subst (Extends old) (sym h.table) (section_grows s old)
part_grows old new s (Some part) h =
    let t = named_in s old in
    let u = named_in s t in
    let arrays = array_names (lines_at 1 (lines_of part)) in
    subst (Extends old) (sym h.lines.table)
    (extends_trans old t (with_arrays u arrays) (section_grows s old)
    (extends_trans t u (with_arrays u arrays) (section_grows s t) (arrays_grow u arrays)))

orders_grow : (old new : List (List ℕ)) (ss : List Section) (orders : List Order) → AreOrders old new ss orders → Extends old new
orders_grow old new ss orders (no_order a) = extends_same a
orders_grow old new ss orders (and_order a t b s others order rest h further) =
    extends_trans a t b (part_grows a t s order.part h.part) (orders_grow t b others rest further)

gives_low : (n : ℕ) (old new : List (List ℕ)) (s : Section) (part : Option Raw) → IsPartThere old new s part → length new ≤ n
    → (scope : List (Name × Kind)) (p : Tree) → IsGiven scope (option_map part_of part) (Some p) → declares (is_below n) p ≡ true
gives_low n old new s None h l scope p g = none_there g refl
  where
    none_there : {q : Option Tree} → IsGiven scope None q → q ≡ Some p → declares (is_below n) p ≡ true
    none_there none_given e = absurd cc
gives_low n old new s (Some part) h l scope p (part_given q faultless) =
    part_low (upto s) (named_in s old) (reading_in s).0 (lines_of part) new (elements_of part) n
    (lines_there s) h.lines.lines h.lines.table h.lines.elements l
    (scope_of (part_of part) scope)

each_gives : (n : ℕ) (old new : List (List ℕ)) (ss : List Section) (orders : List Order) → AreOrders old new ss orders → length new ≤ n
    → AllGiveBelow n (orders_of orders)
each_gives n old new ss orders (no_order a) l = tt
each_gives n old new ss orders (and_order a t b s others order rest h further) l = (
  gives_low n a t s order.part h.part (omega (arith, longer t b (orders_grow t b others rest further), l)),
  each_gives n t b others rest further l,
)

pub orders_give : (text : List ℕ) (old new : List (List ℕ)) (orders : List Order) → IsOrders text old new orders
    → AllGiveBelow (length new) (orders_of orders)
orders_give text old new orders h = each_gives (length new) (named_in h.head old) new h.rest orders h.are_orders (omega arith)

-- ---- a program that is read

pub name_low : (b : Bound) (text : List ℕ) (old new : List (List ℕ)) (name : Name) (params : List (Name × Kind)) (body : Tree)
    (lines : List ℕ)
    → IsRead b text old new name params body lines → name.0 < length new
name_low b text old new name params body lines r =
    let t = names_in text old in
    let there : name.0 < length t = name_known b text old t r.draft r.laid_out refl r.draft name refl r.name_is in
    let ps = program_places (header_params r.draft) (header_below r.draft) in
    omega (arith, there, longer t new (subst (Extends t) (sym r.table) (places_extend t ps)))
