-- What the lines of a text speak of is known: its names are those of the table.
use Rattle.std.proofs.Common.{◌≡◌, ℕ, ◌+◌, ◌<◌, Bool, true, nat_lt, List, [], ◌∷◌, ◌++◌, length, Option, Some, None, refl, sym, ap, subst, ◌∙◌, ◌&&◌}
use Rattle.std.specs.List.{AllByRecursion, list_all}
use Rattle.std.proofs.lemmas.Bool.{and_parts, and_from, ltb-true}
use Rattle.occ_parse_rules.specs.occ_lex.declared.fault.LineFault.{LineFault}
use Rattle.occ_parse_rules.specs.occ_lex.Rows.{reading_of}
use Rattle.occ_parse_rules.proofs.from_lex.Placing.{reading_placed}
use Rattle.occ_parse_rules.specs.occ_lex.declared.symbol.Row.{Row}
use Rattle.occ_parse_rules.specs.occ_lex.declared.symbol.Symbol.{Symbol}
use Rattle.occ_parse_rules.specs.occ_lex.Symbols.{Extends}
use Rattle.occ_parse_rules.proofs.from_lex.Interned.{extends_same}
use Rattle.occ_parse_rules.specs.occ_parse_forms.declared.form.Declared.{Declared}
use Rattle.occ_parse_rules.specs.occ_parse_forms.declared.form.Declared.TheVariants as declared
use Rattle.occ_parse_rules.specs.occ_parse_forms.declared.form.Item.{Item}
use Rattle.occ_parse_rules.specs.occ_parse_forms.declared.form.Param.{Param}
use Rattle.occ_parse_rules.specs.occ_parse_forms.declared.phrase.Index.{Index}
use Rattle.occ_parse_rules.specs.occ_parse_forms.Lines.{IsForm}
use Rattle.occ_parse_rules.specs.occ_parse_forms.Shape.{Said, item, numeral, typed, truth, negation, complement, operation, Waiting, ready, input, output, Shape, header, close, skip, stop, assign, receive, send, group, declare, condition, guard, nothing}
use Rattle.occ_parse_rules.specs.Forest.{Forest, no_line, and_line, Laid, lines_at}
use Rattle.occ_parse_rules.specs.Passing.{place_passes, item_passes, declared_passes, said_passes, waiting_passes, param_passes, shape_passes}
use Rattle.occ_parse_rules.specs.Sound.{is_sound, are_sound}
use Rattle.occ_parse_rules.proofs.Forms.{form_in, form_sound}
use Rattle.occ_parse_unroll.specs.Known.{IsKnownElement, IsKnownItem, IsKnownDeclared, IsKnownParam, IsKnownSaid, IsKnownWaiting, IsKnownLine, AreKnownLines}
use Rattle.occ_parse.specs.declared.bound.Bound.{Bound}
use Rattle.occ_parse.specs.declared.fault.ParseFault.{ParseFault}
use Rattle.occ_parse.specs.declared.fault.Which.{Which}
use Rattle.occ_parse.specs.Limits.{line_limit, stop_at, stopped}
use Rattle.occ_parse.specs.Drafts.{header_name, header_params, header_below}
use Rattle.occ_parse.specs.Reading.{AreForms, IsLaidOut, rows_in, names_in}
use Rattle.occ_syntax.specs.occ_base.declared.names.Name.{Name}
use Rattle.occ_parse_layout.specs.Whole.{IsProgram}
use Rattle.occ_parse.proofs.Forests.{program_of}
use Rattle.occ_parse.proofs.Texts.{AreOf, rows_are, OfNames, passes_all, small_all, in_table}
use Rattle.occ_parse.proofs.Small.{shape_small, form_small}

-- ---- lines of a text

-- what symbols of the text say
abbrev pub IsLineOf : List (List ℕ) → Shape → Type 0
IsLineOf t s = (symbols : List Symbol) × AreOf t symbols × IsForm symbols s

abbrev pub EachLine : (Shape → Type 0) → Forest → Type 0
EachLine Q no_line = Unit {0}
EachLine Q (and_line number s below rest) = Q s × (EachLine Q below × EachLine Q rest)

pub each_map : (P Q : Shape → Type 0) → ((s : Shape) → P s → Q s) → (f : Forest) → EachLine P f → EachLine Q f
each_map P Q g no_line h = tt
each_map P Q g (and_line number s below rest) h = (g s h.0, (each_map P Q g below h.1.0, each_map P Q g rest h.1.1))

stop_keeps : (P : Row → Type 0) (row : Row) (o : Option Which) (others : List Row × Option ParseFault) → P row → AllByRecursion P others.0 → AllByRecursion P (stop_at row o others).0
stop_keeps P row None others h k = (h, k)
stop_keeps P row (Some w) others h k = tt

pub stopped_keeps : (P : Row → Type 0) (b : Bound) (rows : List Row) (found : Option (ℕ × LineFault)) → AllByRecursion P rows → AllByRecursion P (stopped b rows found).0
stopped_keeps P b [] found h = tt
stopped_keeps P b (row ∷ rows) found h = stop_keeps P row (line_limit b row) (stopped b rows found) h.0 (stopped_keeps P b rows found h.1)

pub lines_of_rows : (t : List (List ℕ)) (rows : List Row) (lines : List Laid) → AllByRecursion (λ row. AreOf t row.symbols) rows → AreForms rows lines
    → AllByRecursion (λ line. IsLineOf t line.shape) lines
lines_of_rows t [] [] h f = tt
lines_of_rows t [] (l ∷ ls) h f = absurd f
lines_of_rows t (row ∷ rows) [] h f = absurd f
lines_of_rows t (row ∷ rows) (l ∷ ls) h f = ((row.symbols, h.0, f.0.form), lines_of_rows t rows ls h.1 f.1)

all_front : {A : Type 0} (P : A → Type 0) (xs ys : List A) → AllByRecursion P (xs ++ ys) → AllByRecursion P xs
all_front P [] ys h = tt
all_front P (x ∷ xs) ys h = (h.0, all_front P xs ys h.1)

all_back : {A : Type 0} (P : A → Type 0) (xs ys : List A) → AllByRecursion P (xs ++ ys) → AllByRecursion P ys
all_back P [] ys h = h
all_back P (x ∷ xs) ys h = all_back P xs ys h.1

pub each_of_lines : (Q : Shape → Type 0) (level : ℕ) (f : Forest) → AllByRecursion (λ line. Q line.shape) (lines_at level f) → EachLine Q f
each_of_lines Q level no_line h = tt
each_of_lines Q level (and_line number s below rest) h = (
  h.0,
  (
    each_of_lines Q (level + 1) below (all_front (λ line. Q line.shape) (lines_at (level + 1) below) (lines_at level rest) h.1),
    each_of_lines Q level rest (all_back (λ line. Q line.shape) (lines_at (level + 1) below) (lines_at level rest) h.1),
  ),
)

-- the lines of a text that is well laid out are spelled by symbols whose names are in the table
pub lines_are_of : (b : Bound) (text : List ℕ) (old t : List (List ℕ)) (f : Forest) → IsLaidOut b text old f → Extends (names_in text old) t → EachLine (IsLineOf t) f
lines_are_of b text old t f l e =
    let rows = rows_in text old in
    let all : AllByRecursion (λ row. AreOf t row.symbols) rows = rows_are text old t (reading_of text).0 (reading_placed text).lines_of_text e in
    each_of_lines (IsLineOf t) 0 f (lines_of_rows t (stopped b rows (reading_of text).1).0 (lines_at 0 f) (stopped_keeps (λ row. AreOf t row.symbols) b rows (reading_of text).1 all) l.judged.forms)

-- ---- what each line says

pub line_passes : (t : List (List ℕ)) (test : ℕ → Bool) → OfNames t test → (s : Shape) → IsLineOf t s → shape_passes test s ≡ true
line_passes t test f s h = form_in test h.0 s h.2 (passes_all t test f h.0 h.1)

pub line_small : (t : List (List ℕ)) (s : Shape) → IsLineOf t s → shape_small s ≡ true
line_small t s h = form_small h.0 s h.2 (small_all t h.0 h.1)

pub line_sound : (t : List (List ℕ)) (s : Shape) → IsLineOf t s → is_sound s ≡ true
line_sound t s h = form_sound (λ x. nat_lt x (length t)) h.0 s h.2 (line_passes t (λ x. nat_lt x (length t)) (in_table t) s h)

pub lines_sound : (t : List (List ℕ)) (f : Forest) → EachLine (IsLineOf t) f → are_sound f ≡ true
lines_sound t no_line h = refl
lines_sound t (and_line number s below rest) h =
    and_from (is_sound s) (are_sound below && are_sound rest) (line_sound t s h.0) (and_from (are_sound below) (are_sound rest) (lines_sound t below h.1.0) (lines_sound t rest h.1.1))

-- ---- numbers below n

module _ (n : ℕ) where
  below : ℕ → Bool
  below x = nat_lt x n

  is_below : (x : ℕ) → below x ≡ true → x < n
  unfolding below
  is_below x h = ltb-true _ _ h

  known_element : (x : ℕ) (i : Option Index) → below x ≡ true → IsKnownElement n x i
  known_element x None h = tt
  known_element x (Some i) h = is_below x h

  known_item : (i : Item) → item_passes below i ≡ true → IsKnownItem n i
  known_item i h = known_element i.name.0 i.index (and_parts (below i.name.0) (place_passes below i.index) h).0

  known_items : (is : List Item) → list_all (item_passes below) is ≡ true → AllByRecursion (IsKnownItem n) is
  known_items [] h = tt
  known_items (i ∷ is) h = let parts = and_parts (item_passes below i) (list_all (item_passes below) is) h in (known_item i parts.0, known_items is parts.1)

  known_said : (e : Said) → said_passes below e ≡ true → IsKnownSaid n e
  known_said (item i) h = known_item i h
  known_said (numeral value) h = tt
  known_said (typed value width) h = tt
  known_said (truth b) h = tt
  known_said (negation e) h = known_said e h
  known_said (complement e) h = known_said e h
  known_said (operation op left right) h =
      let parts = and_parts (said_passes below left) (said_passes below right) h in (known_said left parts.0, known_said right parts.1)

  known_all_said : (es : List Said) → list_all (said_passes below) es ≡ true → AllByRecursion (IsKnownSaid n) es
  known_all_said [] h = tt
  known_all_said (e ∷ es) h = let parts = and_parts (said_passes below e) (list_all (said_passes below) es) h in (known_said e parts.0, known_all_said es parts.1)

  known_waiting : (w : Waiting) → waiting_passes below w ≡ true → IsKnownWaiting n w
  known_waiting ready h = tt
  known_waiting (input c x) h = let parts = and_parts (item_passes below c) (item_passes below x) h in (known_item c parts.0, known_item x parts.1)
  known_waiting (output c e) h = let parts = and_parts (item_passes below c) (said_passes below e) h in (known_item c parts.0, known_said e parts.1)

  known_declared : (d : Declared) → declared_passes below d ≡ true → IsKnownDeclared n d
  known_declared (declared.Plain x) h = tt
  known_declared (declared.Element x k) h = is_below x.0 h
  known_declared (declared.Array x c) h = is_below x.0 h

  known_all_declared : (ds : List Declared) → list_all (declared_passes below) ds ≡ true → AllByRecursion (IsKnownDeclared n) ds
  known_all_declared [] h = tt
  known_all_declared (d ∷ ds) h = let parts = and_parts (declared_passes below d) (list_all (declared_passes below) ds) h in (known_declared d parts.0, known_all_declared ds parts.1)

  known_params : (ps : List Param) → list_all (param_passes below) ps ≡ true → AllByRecursion (IsKnownParam n) ps
  known_params [] h = tt
  known_params (p ∷ ps) h =
      let parts = and_parts (param_passes below p) (list_all (param_passes below) ps) h in
      (known_declared p.declared (and_parts (declared_passes below p.declared) _ parts.0).0, known_params ps parts.1)

  known_line : (s : Shape) → shape_passes below s ≡ true → IsKnownLine n s
  known_line (header name params) h = tt
  known_line close h = tt
  known_line skip h = tt
  known_line stop h = tt
  known_line (assign xs es) h = let parts = and_parts (list_all (item_passes below) xs) (list_all (said_passes below) es) h in (known_items xs parts.0, known_all_said es parts.1)
  known_line (receive c x) h = let parts = and_parts (item_passes below c) (item_passes below x) h in (known_item c parts.0, known_item x parts.1)
  known_line (send c e) h = let parts = and_parts (item_passes below c) (said_passes below e) h in (known_item c parts.0, known_said e parts.1)
  known_line (group g times) h = tt
  known_line (declare k ds) h = known_all_declared ds (and_parts _ (list_all (declared_passes below) ds) h).1
  known_line (condition e) h = known_said e h
  known_line (guard e w) h = let parts = and_parts (said_passes below e) (waiting_passes below w) h in (known_said e parts.0, known_waiting w parts.1)
  known_line nothing h = tt

  known_lines : (f : Forest) → EachLine (λ s. shape_passes below s ≡ true) f → AreKnownLines n f
  known_lines no_line h = tt
  known_lines (and_line number s below_it rest) h = (known_line s h.0, known_lines below_it h.1.0, known_lines rest h.1.1)

  known_header_params : (f : Forest) → EachLine (λ s. shape_passes below s ≡ true) f → AllByRecursion (IsKnownParam n) (header_params f)
  known_header_params no_line h = tt
  known_header_params (and_line number s below_it rest) h = in_shape s h.0
    where
      in_shape : (s : Shape) → shape_passes below s ≡ true → AllByRecursion (IsKnownParam n) (header_params (and_line number s below_it rest))
      in_shape (header name params) k = known_params params (and_parts (below name.0) (list_all (param_passes below) params) k).1
      in_shape close k = tt
      in_shape skip k = tt
      in_shape stop k = tt
      in_shape (assign xs es) k = tt
      in_shape (receive c x) k = tt
      in_shape (send c e) k = tt
      in_shape (group g times) k = tt
      in_shape (declare kind ds) k = tt
      in_shape (condition e) k = tt
      in_shape (guard e w) k = tt
      in_shape nothing k = tt

  known_header_below : (f : Forest) → AreKnownLines n f → AreKnownLines n (header_below f)
  known_header_below no_line h = tt
  known_header_below (and_line number s below_it rest) h = h.1

  name_below : (f : Forest) → IsProgram f → EachLine (λ s. shape_passes below s ≡ true) f → (header_name f).0 < n
  name_below f p h =
      let each = subst (EachLine (λ s. shape_passes below s ≡ true)) p.whole h in
      let name : p.name.0 < n = is_below p.name.0 (and_parts (below p.name.0) (list_all (param_passes below) p.params) each.0).0 in
      subst (λ g. (header_name g).0 < n) (sym p.whole) name

all_below : (t : List (List ℕ)) (f : Forest) → EachLine (IsLineOf t) f → EachLine (λ s. shape_passes (below (length t)) s ≡ true) f
unfolding below
all_below t f h = each_map (IsLineOf t) (λ s. shape_passes (λ x. nat_lt x (length t)) s ≡ true) (line_passes t (λ x. nat_lt x (length t)) (in_table t)) f h

module _ (b : Bound) (text : List ℕ) (old table : List (List ℕ)) (f : Forest) (l : IsLaidOut b text old f) (e : table ≡ names_in text old) where
  mine : EachLine (IsLineOf table) f
  mine = lines_are_of b text old table f l (subst (Extends (names_in text old)) (sym e) (extends_same (names_in text old)))

  -- the program's name is in the table
  pub name_known : (g : Forest) (name : Name) → g ≡ f → name ≡ header_name g → name.0 < length table
  name_known g name h k =
      let same : name ≡ header_name f = k ∙ ap (λ q. header_name q) h in
      subst (λ m. m.0 < length table) (sym same) (name_below (length table) f (program_of b text old f l) (all_below table f mine))

  -- what unrolling asks of the lines below the header, and of the parameters
  pub lines_known : (g : Forest) → g ≡ header_below f → AreKnownLines (length table) g
  lines_known g h = subst (AreKnownLines (length table)) (sym h) (known_header_below (length table) f (known_lines (length table) f (all_below table f mine)))

  pub params_known : (ps : List Param) → ps ≡ header_params f → AllByRecursion (IsKnownParam (length table)) ps
  params_known ps h = subst (AllByRecursion (IsKnownParam (length table))) (sym h) (known_header_params (length table) f (all_below table f mine))
