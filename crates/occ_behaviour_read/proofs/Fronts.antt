-- The lines of a part of a table go on to those of a whole one.
use Rattle.std.proofs.Common.{◌≡◌, ◌∙◌, ℕ, zero, suc, ◌+◌, ◌-◌, ◌^◌, ◌<◌, ◌≤◌, true, false, eqb, List, [], ◌∷◌, ◌++◌, length, map, replicate, take, refl, sym, ap, subst, arith, append_assoc, append-nil, length-append, ⊎_elim}
use Rattle.std.specs.List.{AllByRecursion, concat}
use Rattle.std.proofs.lemmas.Bool.{cases_Bool, cond-false, cond-true}
use Rattle.std.proofs.lemmas.List.{append_cancel_left, length-replicate}
use Rattle.occ_syntax.specs.occ_base.declared.names.Name.{Name}
use Rattle.occ_nform_read.specs.occ_lex.Rows.{in_front, rows}
use Rattle.occ_syntax.specs.Counts.{bits_of_scope}
use Rattle.occ_syntax.specs.declared.scope.Kind.{Kind}
use Rattle.occ_nform_read.specs.occ_nform_table.Normal.{Parts}
use Rattle.occ_nform_read.specs.occ_nform_table.Reading.{Lines}
use Rattle.occ_nform_read.specs.occ_nform_table.Tables.{AreRowsOf, IsInterface, are_params}
use Rattle.occ_nform_read.specs.occ_nform_table.Texts.{table_text}
use Rattle.occ_nform_read.specs.occ_nform_table.declared.table.TableRow.{TableRow}
use Rattle.occ_nform_read.proofs.from_nform_table.Lines.{IsLine, joined, rows_joined, rows_line}
use Rattle.occ_nform_read.proofs.from_nform_table.PlaceNames.{state_line, state_lines}
use Rattle.occ_nform_read.proofs.from_nform_table.TextTables.{IsFormed, all_lines, behind_part, param_part, rows_lines, version, whole_text}
use Rattle.occ_nform_read.proofs.from_nform_table.WrittenParams.{param_line}
use Rattle.occ_behaviour_read.proofs.Lists.{first_is, later_are}
use Rattle.occ_behaviour_read.proofs.Headers.{AreOwn}
use Rattle.occ_behaviour_read.proofs.Params.{are_from, are_to, interface_to}
use Rattle.occ_behaviour_read.specs.Stops.{GoesOn}
use Rattle.occ_behaviour_read.specs.Tables.{AreTableLines, IsTable}

-- ---- lines one behind another

pub rows_behind : (lines : Lines) (rest : List ℕ) → AllByRecursion IsLine lines → rows (joined lines ++ rest) ≡ lines ++ rows rest
rows_behind [] rest h = refl
rows_behind (line ∷ lines) rest h =
    ap rows (append_assoc line (joined lines) rest) ∙ rows_line line (joined lines ++ rest) h.0 ∙ ap (λ ls. line ∷ ls) (rows_behind lines rest h.1)

pub state_lines-append : (params : List (Name × Kind)) (k : ℕ) (front rest : List ℕ) → state_lines params k (front ++ rest) ≡ state_lines params k front ++ state_lines params (k + length front) rest
state_lines-append params k [] rest = let e : k ≡ k + 0 = omega arith in ap (λ n. state_lines params n rest) e
state_lines-append params k (n ∷ front) rest =
    let e : k + 1 + length front ≡ k + suc (length front) = omega arith in
    ap (λ ls. state_line params k n ∷ ls) (state_lines-append params (k + 1) front rest ∙ ap (λ m. state_lines params (k + 1) front ++ state_lines params m rest) e)

-- ---- the lines of a table

pub few_rows : (n : ℕ) → n < 2 ^ 32 → n ≤ 10 ^ 64
few_rows n h = omega (arith, h)

pub form_of : (t : Parts) → IsTable t → IsFormed t
form_of t is = record {
  interface = interface_to t.names t.params is.params is.few_params is.few_bits;
  params = are_to t.names is.distinct t.params is.named is.few_params is.few_bits is.params;
  rows = is.rows;
  count = is.count;
  states = is.states;
}

-- the lines of parameters, rows and states
abbrev pub lines_of : List (List ℕ) → List (Name × Kind) → List TableRow → List ℕ → Lines
lines_of names params rows states = version ∷ (map (param_line names) params ++ (rows_lines names 0 rows ++ state_lines params 0 states))

-- the lines of a table's text
pub table_lines : (t : Parts) → IsTable t → rows (table_text t.names t.params t.rows t.states) ≡ lines_of t.names t.params t.rows t.states
unfolding param_part behind_part
table_lines t is =
    let form = form_of t is in
    let few = few_rows (length t.rows) is.few in
    ap rows (whole_text t is.distinct form few) ∙ rows_joined (version ∷ (param_part t is.distinct form few ++ behind_part t is.distinct form few)) (all_lines t is.distinct form few)

-- ---- a part of a table

-- parameters, rows and states of a table, where states may be missing, or rows and states
pub record IsPart (names : List (List ℕ)) (params : List (Name × Kind)) (rows : List TableRow) (states : List ℕ) : Type 0 where
  pub interface : IsInterface names params
  pub are : are_params names [] params ≡ true
  pub own : AreOwn names params
  pub form : AreRowsOf params 0 rows
  pub few : length rows < 2 ^ 32
  pub states_few : length states ≤ 2 ^ bits_of_scope params
  pub below : AllByRecursion (λ n. n < length rows) states

zeros_below : (n count : ℕ) → 0 < count → AllByRecursion (λ m. m < count) (replicate n 0)
zeros_below zero count h = tt
zeros_below (suc n) count h = (h, zeros_below n count h)

below-append : (count : ℕ) (front rest : List ℕ) → AllByRecursion (λ m. m < count) front → AllByRecursion (λ m. m < count) rest → AllByRecursion (λ m. m < count) (front ++ rest)
below-append count [] rest h k = k
below-append count (n ∷ front) rest h k = (h.0, below-append count front rest h.1 k)

abbrev no_row : TableRow
no_row = record { ends = []; accepts = []; offers = [] }

module _ (names : List (List ℕ)) (params : List (Name × Kind)) where
  abbrev zeros : ℕ → List ℕ
  zeros n = replicate n 0

  -- rows with the states that are missing
  filled : (rows : List TableRow) (states : List ℕ) → IsPart names params rows states → 0 < length rows
      → IsTable (record { names = names; params = params; rows = rows; states = states ++ zeros (2 ^ bits_of_scope params - length states) })
  filled rows states is some =
      let n : ℕ = 2 ^ bits_of_scope params - length states in
      let most = is.states_few in
      record {
        params = are_from names params is.interface is.are;
        few_params = is.interface.few;
        few_bits = is.interface.bits;
        distinct = is.own.distinct;
        named = is.own.texts;
        rows = is.form;
        few = is.few;
        count = omega (arith, length-append states (zeros n), length-replicate {A = ℕ} n 0, most);
        states = below-append (length rows) states (zeros n) is.below (zeros_below n (length rows) some);
      }

  filled_goes : (rows : List TableRow) (states : List ℕ) → IsPart names params rows states → 0 < length rows → GoesOn AreTableLines (lines_of names params rows states)
  filled_goes rows states is some =
      let n : ℕ = 2 ^ bits_of_scope params - length states in
      let t : Parts = record { names = names; params = params; rows = rows; states = states ++ zeros n } in
      let whole : IsTable t = filled rows states is some in
      let more : Lines = state_lines params (0 + length states) (zeros n) in
      let ps : Lines = map (param_line names) params in
      let rs : Lines = rows_lines names 0 rows in
      let ss : Lines = state_lines params 0 states in
      let e : lines_of names params rows states ++ more ≡ lines_of names params rows (states ++ zeros n) =
      ap (λ ls. version ∷ ls) (append_assoc ps (rs ++ ss) more ∙ ap (λ ls. ps ++ ls) (append_assoc rs ss more ∙ ap (λ ls. rs ++ ls) (sym (state_lines-append params 0 states (zeros n))))) in
      (more, (t, record { form = whole; written = e ∙ sym (table_lines t whole) }))

  -- the lines of a part go on
  pub part_goes : (rows : List TableRow) (states : List ℕ) → IsPart names params rows states → GoesOn AreTableLines (lines_of names params rows states)
  part_goes (row ∷ rows) states is = filled_goes (row ∷ rows) states is (omega arith)
  part_goes [] (n ∷ states) is = absurd (omega (arith, is.below.0))
  part_goes [] [] is =
      let own = is.own in
      let one : IsPart names params (no_row ∷ []) [] = record {
        interface = is.interface;
        are = is.are;
        own = own;
        form = (record { ends = tt; accepts = tt; offers = tt }, tt);
        few = omega arith;
        states_few = is.states_few;
        below = tt;
      } in
      let goes = filled_goes (no_row ∷ []) [] one (omega arith) in
      let ps : Lines = map (param_line names) params in
      let rs : Lines = rows_lines names 0 (no_row ∷ []) in
      let e : lines_of names params [] [] ++ (rs ++ goes.0) ≡ lines_of names params (no_row ∷ []) [] ++ goes.0 =
      ap (λ ls. version ∷ ls) (append_assoc ps [] (rs ++ goes.0) ∙ sym (append_assoc ps (rs ++ []) goes.0 ∙ ap (λ ls. ps ++ (ls ++ goes.0)) (append-nil rs))) in
      (rs ++ goes.0, (goes.1.0, record { form = goes.1.1.form; written = e ∙ goes.1.1.written }))

-- ---- fronts of one list

-- a line has bytes
abbrev pub HasBytes : List ℕ → Type 0
HasBytes line = 0 < length line

nothing_joined : (line : List ℕ) (lines : Lines) → HasBytes line → [] ≡ joined (line ∷ lines) → ⊥
nothing_joined line lines some e =
    let n : 0 ≡ length (line ++ joined lines) = ap (λ (t : List ℕ). length t) e in
    omega (arith, n, some, length-append line (joined lines))

-- two fronts of one list with the same bytes are one
pub same_front : (a b c d : Lines) → a ++ c ≡ b ++ d → joined a ≡ joined b → AllByRecursion HasBytes a → AllByRecursion HasBytes b → a ≡ b
same_front [] [] c d e f h k = refl
same_front [] (y ∷ b) c d e f h k = absurd (nothing_joined y b k.0 f)
same_front (x ∷ a) [] c d e f h k = absurd (nothing_joined x a h.0 (sym f))
same_front (x ∷ a) (y ∷ b) c d e f h k =
    let one : x ≡ y = first_is e in
    let rest = append_cancel_left x (joined a) (joined b) (f ∙ ap (λ l. l ++ joined b) (sym one)) in
    (λ i. one i ∷ same_front a b c d (later_are e) rest h.1 k.1 i)

front_bytes : (a c : Lines) → AllByRecursion HasBytes (a ++ c) → AllByRecursion HasBytes a
front_bytes [] c h = tt
front_bytes (x ∷ a) c h = (h.0, front_bytes a c h.1)

-- the front of lines with bytes has them
pub bytes_in_front : (lines a c : Lines) → lines ≡ a ++ c → AllByRecursion HasBytes lines → AllByRecursion HasBytes a
bytes_in_front lines a c e h = front_bytes a c (subst (AllByRecursion HasBytes) e h)

put_in_front : (b : ℕ) (lines : Lines) → AllByRecursion HasBytes lines → AllByRecursion HasBytes (in_front b lines)
put_in_front b [] h = (omega arith, tt)
put_in_front b (line ∷ lines) h = (omega arith, h.1)

-- the lines of a text have bytes
pub rows_have_bytes : (text : List ℕ) → AllByRecursion HasBytes (rows text)
unfolding rows
rows_have_bytes [] = tt
rows_have_bytes (b ∷ text) = ⊎_elim
    (λ (t : eqb b 10 ≡ true).
    subst (AllByRecursion HasBytes) (sym (cond-true (eqb b 10) ((b ∷ []) ∷ rows text) (in_front b (rows text)) t)) (omega arith, rows_have_bytes text))
    (λ (f : eqb b 10 ≡ false).
    subst (AllByRecursion HasBytes) (sym (cond-false (eqb b 10) ((b ∷ []) ∷ rows text) (in_front b (rows text)) f)) (put_in_front b (rows text) (rows_have_bytes text)))
    (cases_Bool (eqb b 10))

pub joined_concat : (lines : Lines) → joined lines ≡ concat lines
joined_concat [] = refl
joined_concat (line ∷ lines) = ap (λ t. line ++ t) (joined_concat lines)

pub take_front : (front rest : Lines) → take (length front) (front ++ rest) ≡ front
take_front [] rest = refl
take_front (x ∷ front) rest = ap (λ ls. x ∷ ls) (take_front front rest)

pub take_one_more : (front : Lines) (line : List ℕ) (rest : Lines) → take (suc (length front)) (front ++ line ∷ rest) ≡ front ++ line ∷ []
take_one_more [] line rest = refl
take_one_more (x ∷ front) line rest = ap (λ ls. x ∷ ls) (take_one_more front line rest)
