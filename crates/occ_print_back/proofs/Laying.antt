-- The lines of a printed part stand where they may and have what they need.
use Rattle.std.proofs.Common.{◌≡◌, ℕ, ◌≤◌, ◌+◌, Bool, true, false, not, ◌&&◌, eqb, leb, ltb, List, [], ◌∷◌, ◌++◌, None, Some, refl, ap, sym, ◌∙◌, subst, arith, append_assoc}
use Rattle.std.specs.Prelude.{if◌then◌else◌}
use Rattle.std.specs.List.{AllByRecursion}
use Rattle.std.proofs.lemmas.Bool.{and_from, eq-eqb, ne_eqb, lt-ltb, le-leb, lt-leb, le-ltb}
use Rattle.std.proofs.lemmas.List.{append-nil}
use Rattle.occ_print.specs.occ_syntax.declared.scope.Kind.TheVariants as sort
use Rattle.occ_print.specs.occ_syntax.Tree.{Exp, Waiting, ready, input, output, Tree, skip, stop, assign, receive, send, seq, par, select, alt, declare, connect, Trees, no_tree, and_tree, Cases, no_case, and_case, Branches, no_branch, and_branch}
use Rattle.occ_print.specs.occ_parse_forms.declared.form.Group.{Group}
use Rattle.occ_print.specs.occ_parse_forms.declared.form.Group.TheVariants as word
use Rattle.occ_print.specs.occ_parse_forms.Shape.{Shape}
use Rattle.occ_print.specs.occ_parse_forms.Shape as line
use Rattle.occ_parse.specs.occ_parse_rules.Forest.{Laid, Forest, no_line, and_line, lines_at}
use Rattle.occ_parse.specs.occ_parse_rules.Places.{Place}
use Rattle.occ_parse.specs.occ_parse_layout.declared.placed.Frame.TheVariants as frame
use Rattle.occ_parse.specs.occ_parse_layout.Layout.{child_of, kind_of, is_declaration, has_alternatives, takes, fits_child, fits, room_at, is_free, stands_outermost, may_repeat, is_placed, has_child, has_process, is_served, is_good, least_bad_behind}
use Rattle.occ_print.specs.Symbols.{is_true, is_ready}
use Rattle.occ_print_back.specs.Said.{item_of, assign_shape, receive_shape, send_shape, whole_said, bare_guard, waited_for, guard_shape, declaration_shape}
use Rattle.occ_print_back.specs.Forest.{height, part_forest, parts_forest, cases_forest, branches_forest}
use Rattle.occ_print_back.proofs.Standing.{not_ready}

-- ---- lines that are good behind others and in front of others

abbrev pub AllGood : List Laid → List Laid → List Laid → Type 0
AllGood before [] after = Unit {0}
AllGood before (r ∷ rows) after = (is_good frame.Plain false before r (rows ++ after) ≡ true) × AllGood (r ∷ before) rows after

abbrev pub pushed : List Laid → List Laid → List Laid
pushed [] before = before
pushed (r ∷ rows) before = pushed rows (r ∷ before)

pub good-append : (before xs ys after : List Laid) → AllGood before xs (ys ++ after) → AllGood (pushed xs before) ys after → AllGood before (xs ++ ys) after
good-append before [] ys after h k = k
good-append before (x ∷ xs) ys after h k =
    (ap (λ t. is_good frame.Plain false before x t) (append_assoc xs ys after) ∙ h.0, good-append (x ∷ before) xs ys after h.1 k)

pub none_bad : (before rows : List Laid) → AllGood before rows [] → least_bad_behind frame.Plain false before rows ≡ None
none_bad before [] h = refl
none_bad before (r ∷ rows) h =
    let g : is_good frame.Plain false before r rows ≡ true = ap (λ t. is_good frame.Plain false before r t) (sym (append-nil rows)) ∙ h.0 in
    ap (λ b. if b then least_bad_behind frame.Plain false (r ∷ before) rows else Some r.number) g ∙ none_bad (r ∷ before) rows h.1

good_padded : (before rows after : List Laid) → AllGood before rows after → AllGood before (rows ++ []) after
good_padded before rows after h = subst (λ (t : List Laid). AllGood before t after) (sym (append-nil rows)) h

and-false : (b : Bool) → (b && false) ≡ false
and-false true = refl
and-false false = refl

-- ---- levels

abbrev AllAbove : ℕ → List Laid → Type 0
AllAbove m rows = AllByRecursion (λ (r : Laid). leb m r.level ≡ true) rows

above-append : (m : ℕ) (xs ys : List Laid) → AllAbove m xs → AllAbove m ys → AllAbove m (xs ++ ys)
above-append m [] ys h k = k
above-append m (x ∷ xs) ys h k = (h.0, above-append m xs ys h.1 k)

pub lines_above : (m level : ℕ) (f : Forest) → m ≤ level → AllAbove m (lines_at level f)
lines_above m level no_line h = tt
lines_above m level (and_line n s below rest) h =
    (le-leb m level h, above-append m (lines_at (level + 1) below) (lines_at level rest) (lines_above m (level + 1) below (omega (arith, h))) (lines_above m level rest h))

pub room_kept : (rows before : List Laid) (m : ℕ) → AllAbove m rows → room_at frame.Plain (pushed rows before) m ≡ room_at frame.Plain before m
room_kept [] before m h = refl
room_kept (r ∷ rows) before m h =
    room_kept rows (r ∷ before) m h.1
    ∙ ap (λ b. if b then room_at frame.Plain before m else (if eqb m (r.level + 1) then takes (room_at frame.Plain before r.level) (kind_of r.shape) else room_at frame.Plain [] 0)) h.0

room_below : (before : List Laid) (n m : ℕ) (s : Shape)
    → room_at frame.Plain (record { number = n; level = m; shape = s } ∷ before) (m + 1) ≡ takes (room_at frame.Plain before m) (kind_of s)
room_below before n m s =
    let a : leb (m + 1) m ≡ false = lt-leb (m + 1) m (omega arith) in
    let b : eqb (m + 1) (m + 1) ≡ true = eq-eqb _ _ refl in
    ap (λ t. if t then room_at frame.Plain before (m + 1) else (if eqb (m + 1) (m + 1) then takes (room_at frame.Plain before m) (kind_of s) else room_at frame.Plain [] 0)) a
    ∙ ap (λ t. if t then takes (room_at frame.Plain before m) (kind_of s) else room_at frame.Plain [] 0) b

room_beside : (before : List Laid) (n m : ℕ) (s : Shape) → room_at frame.Plain (record { number = n; level = m; shape = s } ∷ before) m ≡ room_at frame.Plain before m
room_beside before n m s =
    let a : leb m m ≡ true = le-leb m m (omega arith) in
    ap (λ b. if b then room_at frame.Plain before m else (if eqb m (m + 1) then takes (room_at frame.Plain before m) (kind_of s) else room_at frame.Plain [] 0)) a

free_below : (before : List Laid) (n m : ℕ) (s : Shape) → is_free (record { number = n; level = m; shape = s } ∷ before) (m + 1) ≡ true
free_below before n m s =
    let a : ltb m (m + 1) ≡ true = lt-ltb m (m + 1) (omega arith) in
    ap (λ b. if b then true else (if eqb m (m + 1) && not (is_declaration (kind_of s)) then false else is_free before (m + 1))) a

free_behind : (before : List Laid) (n m : ℕ) (s : Shape) → is_declaration (kind_of s) ≡ true → is_free (record { number = n; level = m; shape = s } ∷ before) m ≡ is_free before m
free_behind before n m s d =
    let a : ltb m m ≡ false = le-ltb m m (omega arith) in
    let c : (eqb m m && not (is_declaration (kind_of s))) ≡ false = ap (λ t. eqb m m && not t) d ∙ and-false (eqb m m) in
    ap (λ b. if b then true else (if eqb m m && not (is_declaration (kind_of s)) then false else is_free before m)) a
    ∙ ap (λ b. if b then false else is_free before m) c

-- ---- what lines need

process_first : (n m : ℕ) (s : Shape) (after : List Laid) → is_declaration (kind_of s) ≡ false → has_process false m (record { number = n; level = m; shape = s } ∷ after) ≡ true
process_first n m s after d =
    let a : ltb m m ≡ false = le-ltb m m (omega arith) in
    let c : (eqb m m && not (is_declaration (kind_of s))) ≡ true = and_from (eqb m m) _ (eq-eqb m m refl) (ap not d) in
    ap (λ b. if b then false else (if eqb m m && not (is_declaration (kind_of s)) then true else has_process false m after)) a
    ∙ ap (λ b. if b then true else has_process false m after) c

process_later : (n m : ℕ) (s : Shape) (after : List Laid) → is_declaration (kind_of s) ≡ true → has_process false m after ≡ true
    → has_process false m (record { number = n; level = m; shape = s } ∷ after) ≡ true
process_later n m s after d h =
    let a : ltb m m ≡ false = le-ltb m m (omega arith) in
    let c : (eqb m m && not (is_declaration (kind_of s))) ≡ false = ap (λ t. eqb m m && not t) d ∙ and-false (eqb m m) in
    ap (λ b. if b then false else (if eqb m m && not (is_declaration (kind_of s)) then true else has_process false m after)) a
    ∙ ap (λ b. if b then true else has_process false m after) c ∙ h

child_first : (n m : ℕ) (s : Shape) (after : List Laid) → has_child false m (record { number = n; level = m + 1; shape = s } ∷ after) ≡ true
child_first n m s after =
    let a : leb (m + 1) m ≡ false = lt-leb (m + 1) m (omega arith) in
    let c : eqb (m + 1) (m + 1) ≡ true = eq-eqb _ _ refl in
    ap (λ b. if b then false else (if eqb (m + 1) (m + 1) then true else has_child false m after)) a ∙ ap (λ b. if b then true else has_child false m after) c

group_rest : (n m : ℕ) (s : Shape) (below others : List Laid)
    → record { number = n; level = m; shape = s } ∷ (below ++ others) ≡ (record { number = n; level = m; shape = s } ∷ (below ++ [])) ++ others
group_rest n m s below others = ap (λ t. record { number = n; level = m; shape = s } ∷ (t ++ others)) (sym (append-nil below))

module _ (P : ℕ → Place) where
  -- the lines of a part by itself
  abbrev pub own_lines : ℕ → ℕ → Tree → List Laid
  own_lines m n p = lines_at m (part_forest P n p no_line)

  has_process_part : (m n : ℕ) (p : Tree) (after : List Laid) → has_process false m (own_lines m n p ++ after) ≡ true
  has_process_part m n skip after = process_first n m line.skip after refl
  has_process_part m n stop after = process_first n m line.stop after refl
  has_process_part m n (assign xs es) after = process_first n m (assign_shape P xs es) after refl
  has_process_part m n (receive c x) after = process_first n m (receive_shape P c x) after refl
  has_process_part m n (send c e) after = process_first n m (send_shape P c e) after refl
  has_process_part m n (seq ps) after = process_first n m (line.group word.Seq None) ((lines_at (m + 1) (parts_forest P (n + 1) ps) ++ []) ++ after) refl
  has_process_part m n (par ps) after = process_first n m (line.group word.Par None) ((lines_at (m + 1) (parts_forest P (n + 1) ps) ++ []) ++ after) refl
  has_process_part m n (select cs) after = process_first n m (line.group word.If None) ((lines_at (m + 1) (cases_forest P (n + 1) cs) ++ []) ++ after) refl
  has_process_part m n (alt bs) after = process_first n m (line.group word.Alt None) ((lines_at (m + 1) (branches_forest P (n + 1) bs) ++ []) ++ after) refl
  has_process_part m n (declare x w p) after = process_later n m (declaration_shape P x (sort.Var w)) (own_lines m (n + 1) p ++ after) refl (has_process_part m (n + 1) p after)
  has_process_part m n (connect c w p) after = process_later n m (declaration_shape P c (sort.Chan w None)) (own_lines m (n + 1) p ++ after) refl (has_process_part m (n + 1) p after)

  pub has_child_part : (m n : ℕ) (p : Tree) (after : List Laid) → has_child false m (own_lines (m + 1) n p ++ after) ≡ true
  has_child_part m n skip after = child_first n m line.skip after
  has_child_part m n stop after = child_first n m line.stop after
  has_child_part m n (assign xs es) after = child_first n m (assign_shape P xs es) after
  has_child_part m n (receive c x) after = child_first n m (receive_shape P c x) after
  has_child_part m n (send c e) after = child_first n m (send_shape P c e) after
  has_child_part m n (seq ps) after = child_first n m (line.group word.Seq None) ((lines_at (m + 1 + 1) (parts_forest P (n + 1) ps) ++ []) ++ after)
  has_child_part m n (par ps) after = child_first n m (line.group word.Par None) ((lines_at (m + 1 + 1) (parts_forest P (n + 1) ps) ++ []) ++ after)
  has_child_part m n (select cs) after = child_first n m (line.group word.If None) ((lines_at (m + 1 + 1) (cases_forest P (n + 1) cs) ++ []) ++ after)
  has_child_part m n (alt bs) after = child_first n m (line.group word.Alt None) ((lines_at (m + 1 + 1) (branches_forest P (n + 1) bs) ++ []) ++ after)
  has_child_part m n (declare x w p) after = child_first n m (declaration_shape P x (sort.Var w)) (own_lines (m + 1) (n + 1) p ++ after)
  has_child_part m n (connect c w p) after = child_first n m (declaration_shape P c (sort.Chan w None)) (own_lines (m + 1) (n + 1) p ++ after)

  -- the lines of a part in front of others
  pub lines_rest : (m n : ℕ) (p : Tree) (rest : Forest) → lines_at m (part_forest P n p rest) ≡ own_lines m n p ++ lines_at m rest
  lines_rest m n skip rest = refl
  lines_rest m n stop rest = refl
  lines_rest m n (assign xs es) rest = refl
  lines_rest m n (receive c x) rest = refl
  lines_rest m n (send c e) rest = refl
  lines_rest m n (seq ps) rest = group_rest n m (line.group word.Seq None) (lines_at (m + 1) (parts_forest P (n + 1) ps)) (lines_at m rest)
  lines_rest m n (par ps) rest = group_rest n m (line.group word.Par None) (lines_at (m + 1) (parts_forest P (n + 1) ps)) (lines_at m rest)
  lines_rest m n (select cs) rest = group_rest n m (line.group word.If None) (lines_at (m + 1) (cases_forest P (n + 1) cs)) (lines_at m rest)
  lines_rest m n (alt bs) rest = group_rest n m (line.group word.Alt None) (lines_at (m + 1) (branches_forest P (n + 1) bs)) (lines_at m rest)
  lines_rest m n (declare x w p) rest = ap (λ t. record { number = n; level = m; shape = declaration_shape P x (sort.Var w) } ∷ t) (lines_rest m (n + 1) p rest)
  lines_rest m n (connect c w p) rest = ap (λ t. record { number = n; level = m; shape = declaration_shape P c (sort.Chan w None) } ∷ t) (lines_rest m (n + 1) p rest)

  -- ---- a place for a process

  pub data SlotRoom (before : List Laid) (m : ℕ) : Type 0 where
    any_slot : room_at frame.Plain before m ≡ (takes (room_at frame.Plain [] 0) (kind_of (line.group word.Seq None))) → SlotRoom before m
    one_slot : room_at frame.Plain before m ≡ (takes (room_at frame.Plain [] 0) (kind_of (line.condition (line.truth true)))) → is_free before m ≡ true → SlotRoom before m

  slot_fits : (before : List Laid) (m : ℕ) (s : Shape) → SlotRoom before m → fits_child (child_of word.Seq) (kind_of s) ≡ true → fits (room_at frame.Plain before m) (is_free before m) (kind_of s) ≡ true
  slot_fits before m s (any_slot r) h = ap (λ t. fits t (is_free before m) (kind_of s)) r ∙ h
  slot_fits before m s (one_slot r f) h = ap (λ t. fits t (is_free before m) (kind_of s)) r ∙ and_from (is_free before m) (fits_child (child_of word.Seq) (kind_of s)) f h

  no_alternatives : (before : List Laid) (m : ℕ) → SlotRoom before m → has_alternatives (room_at frame.Plain before m) ≡ false
  no_alternatives before m (any_slot r) = ap has_alternatives r
  no_alternatives before m (one_slot r f) = ap has_alternatives r

  slot_behind : (before : List Laid) (n m : ℕ) (s : Shape) → is_declaration (kind_of s) ≡ true → SlotRoom before m → SlotRoom (record { number = n; level = m; shape = s } ∷ before) m
  slot_behind before n m s d (any_slot r) = any_slot (room_beside before n m s ∙ r)
  slot_behind before n m s d (one_slot r f) = one_slot (room_beside before n m s ∙ r) (free_behind before n m s d ∙ f)

  -- a line that fits the room
  placed : (before : List Laid) (m : ℕ) (s : Shape) → eqb m 0 ≡ false → fits (room_at frame.Plain before m) (is_free before m) (kind_of s) ≡ true → may_repeat frame.Plain (kind_of s) ≡ true
      → is_placed frame.Plain before m (kind_of s) ≡ true
  placed before m s z h r =
      ap (λ b. if b then stands_outermost frame.Plain before (kind_of s) else (fits (room_at frame.Plain before m) (is_free before m) (kind_of s) && may_repeat frame.Plain (kind_of s))) z
      ∙ and_from (fits (room_at frame.Plain before m) (is_free before m) (kind_of s)) (may_repeat frame.Plain (kind_of s)) h r

  good_line : (before : List Laid) (n m : ℕ) (s : Shape) (after : List Laid) → eqb m 0 ≡ false → SlotRoom before m → fits_child (child_of word.Seq) (kind_of s) ≡ true
      → may_repeat frame.Plain (kind_of s) ≡ true → is_served false (takes (room_at frame.Plain before m) (kind_of s)) (kind_of s) m after ≡ true
      → is_good frame.Plain false before (record { number = n; level = m; shape = s }) after ≡ true
  good_line before n m s after z h f r v =
      and_from (is_placed frame.Plain before m (kind_of s)) _ (placed before m s z (slot_fits before m s h f) r) v

  message_served : (before : List Laid) (m : ℕ) (after : List Laid) → SlotRoom before m
      → is_served false (takes (room_at frame.Plain before m) (kind_of (line.receive (item_of (P 0)) (item_of (P 0))))) (kind_of (line.receive (item_of (P 0)) (item_of (P 0)))) m after ≡ true
  message_served before m after h =
      ap (λ b. is_served false (if b then takes (room_at frame.Plain [] 0) (kind_of (line.condition (line.truth true))) else room_at frame.Plain [] 0) (kind_of (line.receive (item_of (P 0)) (item_of (P 0)))) m after) (no_alternatives before m h)

  -- the first line of a choice or of an alternative
  pub record IsHead (c : Group) (s : Shape) : Type 0 where
    pub fits_there : fits_child (child_of c) (kind_of s) ≡ true
    pub takes_slot : takes (takes (room_at frame.Plain [] 0) (kind_of (line.group c None))) (kind_of s) ≡ (takes (room_at frame.Plain [] 0) (kind_of (line.condition (line.truth true))))
    pub single : may_repeat frame.Plain (kind_of s) ≡ true
    pub serves : (m : ℕ) (after : List Laid) → has_child false m after ≡ true → is_served false ((takes (room_at frame.Plain [] 0) (kind_of (line.condition (line.truth true))))) (kind_of s) m after ≡ true

  condition_head : (e : Exp) → IsHead word.If (line.condition (whole_said P e))
  condition_head e = record { fits_there = refl; takes_slot = refl; single = refl; serves = λ m after h. h }

  bare_head : (e : Exp) (w : Waiting) → (is_true e && not (is_ready w)) ≡ true → IsHead word.Alt (bare_guard P w)
  bare_head e ready h = absurd (not_ready e h)
  bare_head e (input c x) h = record { fits_there = refl; takes_slot = refl; single = refl; serves = λ m after k. k }
  bare_head e (output c v) h = record { fits_there = refl; takes_slot = refl; single = refl; serves = λ m after k. k }

  guard_head_at : (e : Exp) (w : Waiting) (b : Bool) → (is_true e && not (is_ready w)) ≡ b
      → IsHead word.Alt (if b then bare_guard P w else line.guard (whole_said P e) (waited_for P w))
  guard_head_at e w true h = bare_head e w h
  guard_head_at e w false h = record { fits_there = refl; takes_slot = refl; single = refl; serves = λ m after k. k }

  guard_head : (e : Exp) (w : Waiting) → IsHead word.Alt (guard_shape P e w)
  guard_head e w = guard_head_at e w (is_true e && not (is_ready w)) refl

  head_good : (before : List Laid) (n m : ℕ) (c : Group) (s : Shape) (after : List Laid) → eqb m 0 ≡ false → room_at frame.Plain before m ≡ (takes (room_at frame.Plain [] 0) (kind_of (line.group c None))) → IsHead c s
      → has_child false m after ≡ true → is_good frame.Plain false before (record { number = n; level = m; shape = s }) after ≡ true
  head_good before n m c s after z r h k =
      and_from (is_placed frame.Plain before m (kind_of s)) _
      (placed before m s z (ap (λ t. fits t (is_free before m) (kind_of s)) r ∙ h.fits_there) h.single)
      (ap (λ t. is_served false (takes t (kind_of s)) (kind_of s) m after) r ∙ ap (λ t. is_served false t (kind_of s) m after) h.takes_slot ∙ h.serves m after k)

  below_zero : (m : ℕ) → eqb (m + 1) 0 ≡ false
  below_zero m = ne_eqb (m + 1) 0 (λ e. omega (arith, e))

  -- the slot below a head
  slot_below : (before : List Laid) (n m : ℕ) (c : Group) (s : Shape) → room_at frame.Plain before m ≡ (takes (room_at frame.Plain [] 0) (kind_of (line.group c None))) → IsHead c s
      → SlotRoom (record { number = n; level = m; shape = s } ∷ before) (m + 1)
  slot_below before n m c s r h = one_slot (room_below before n m s ∙ ap (λ t. takes t (kind_of s)) r ∙ h.takes_slot) (free_below before n m s)

  -- the room behind a head and the part below it
  room_after : (before : List Laid) (n i m : ℕ) (s : Shape) (p : Tree)
      → room_at frame.Plain (pushed (own_lines (m + 1) i p) (record { number = n; level = m; shape = s } ∷ before)) m ≡ room_at frame.Plain before m
  room_after before n i m s p =
      room_kept (own_lines (m + 1) i p) (record { number = n; level = m; shape = s } ∷ before) m (lines_above m (m + 1) (part_forest P i p no_line) (omega arith)) ∙ room_beside before n m s

  mutual
    pub part_good : (before : List Laid) (m n : ℕ) (p : Tree) (after : List Laid) → eqb m 0 ≡ false → SlotRoom before m → AllGood before (own_lines m n p) after
    part_good before m n skip after z h = (good_line before n m line.skip after z h refl refl refl, tt)
    part_good before m n stop after z h = (good_line before n m line.stop after z h refl refl refl, tt)
    part_good before m n (assign xs es) after z h = (good_line before n m (assign_shape P xs es) after z h refl refl refl, tt)
    part_good before m n (receive c x) after z h = (good_line before n m (receive_shape P c x) after z h refl refl (message_served before m after h), tt)
    part_good before m n (send c e) after z h = (good_line before n m (send_shape P c e) after z h refl refl (message_served before m after h), tt)
    part_good before m n (seq ps) after z h = (
      good_line before n m (line.group word.Seq None) ((lines_at (m + 1) (parts_forest P (n + 1) ps) ++ []) ++ after) z h refl refl refl,
      good_padded (record { number = n; level = m; shape = line.group word.Seq None } ∷ before) (lines_at (m + 1) (parts_forest P (n + 1) ps)) after (parts_good (record { number = n; level = m; shape = line.group word.Seq None } ∷ before) (m + 1) (n + 1) ps after (below_zero m) (room_below before n m (line.group word.Seq None))),
    )
    part_good before m n (par ps) after z h = (
      good_line before n m (line.group word.Par None) ((lines_at (m + 1) (parts_forest P (n + 1) ps) ++ []) ++ after) z h refl refl refl,
      good_padded (record { number = n; level = m; shape = line.group word.Par None } ∷ before) (lines_at (m + 1) (parts_forest P (n + 1) ps)) after (parts_good (record { number = n; level = m; shape = line.group word.Par None } ∷ before) (m + 1) (n + 1) ps after (below_zero m) (room_below before n m (line.group word.Par None))),
    )
    part_good before m n (select cs) after z h = (
      good_line before n m (line.group word.If None) ((lines_at (m + 1) (cases_forest P (n + 1) cs) ++ []) ++ after) z h refl refl refl,
      good_padded (record { number = n; level = m; shape = line.group word.If None } ∷ before) (lines_at (m + 1) (cases_forest P (n + 1) cs)) after (cases_good (record { number = n; level = m; shape = line.group word.If None } ∷ before) (m + 1) (n + 1) cs after (below_zero m) (room_below before n m (line.group word.If None))),
    )
    part_good before m n (alt bs) after z h = (
      good_line before n m (line.group word.Alt None) ((lines_at (m + 1) (branches_forest P (n + 1) bs) ++ []) ++ after) z h refl refl refl,
      good_padded (record { number = n; level = m; shape = line.group word.Alt None } ∷ before) (lines_at (m + 1) (branches_forest P (n + 1) bs)) after (branches_good (record { number = n; level = m; shape = line.group word.Alt None } ∷ before) (m + 1) (n + 1) bs after (below_zero m) (room_below before n m (line.group word.Alt None))),
    )
    part_good before m n (declare x w p) after z h =
        let s = declaration_shape P x (sort.Var w) in (
          good_line before n m s (own_lines m (n + 1) p ++ after) z h refl refl (has_process_part m (n + 1) p after),
          part_good (record { number = n; level = m; shape = s } ∷ before) m (n + 1) p after z (slot_behind before n m s refl h),
        )
    part_good before m n (connect c w p) after z h =
        let s = declaration_shape P c (sort.Chan w None) in (
          good_line before n m s (own_lines m (n + 1) p ++ after) z h refl refl (has_process_part m (n + 1) p after),
          part_good (record { number = n; level = m; shape = s } ∷ before) m (n + 1) p after z (slot_behind before n m s refl h),
        )

    parts_good : (before : List Laid) (m n : ℕ) (ps : Trees) (after : List Laid) → eqb m 0 ≡ false → room_at frame.Plain before m ≡ (takes (room_at frame.Plain [] 0) (kind_of (line.group word.Seq None)))
        → AllGood before (lines_at m (parts_forest P n ps)) after
    parts_good before m n no_tree after z r = tt
    parts_good before m n (and_tree p ps) after z r =
        let others = lines_at m (parts_forest P (n + height p) ps) in
        let kept = room_kept (own_lines m n p) before m (lines_above m m (part_forest P n p no_line) (omega arith)) in
        subst (λ (t : List Laid). AllGood before t after) (sym (lines_rest m n p (parts_forest P (n + height p) ps)))
        (good-append before (own_lines m n p) others after (part_good before m n p (others ++ after) z (any_slot r))
        (parts_good (pushed (own_lines m n p) before) m (n + height p) ps after z (kept ∙ r)))

    cases_good : (before : List Laid) (m n : ℕ) (cs : Cases) (after : List Laid) → eqb m 0 ≡ false → room_at frame.Plain before m ≡ (takes (room_at frame.Plain [] 0) (kind_of (line.group word.If None)))
        → AllGood before (lines_at m (cases_forest P n cs)) after
    cases_good before m n no_case after z r = tt
    cases_good before m n (and_case e p cs) after z r =
        let s = line.condition (whole_said P e) in
        let own = own_lines (m + 1) (n + 1) p in
        let others = lines_at m (cases_forest P (n + 1 + height p) cs) in
        let child_there : has_child false m ((own ++ others) ++ after) ≡ true = ap (has_child false m) (append_assoc own others after) ∙ has_child_part m (n + 1) p (others ++ after) in (
          head_good before n m word.If s ((own ++ others) ++ after) z r (condition_head e) child_there,
          good-append (record { number = n; level = m; shape = s } ∷ before) own others after
              (part_good (record { number = n; level = m; shape = s } ∷ before) (m + 1) (n + 1) p (others ++ after) (below_zero m) (slot_below before n m word.If s r (condition_head e)))
              (cases_good (pushed own (record { number = n; level = m; shape = s } ∷ before)) m (n + 1 + height p) cs after z (room_after before n (n + 1) m s p ∙ r)),
        )

    branches_good : (before : List Laid) (m n : ℕ) (bs : Branches) (after : List Laid) → eqb m 0 ≡ false → room_at frame.Plain before m ≡ (takes (room_at frame.Plain [] 0) (kind_of (line.group word.Alt None)))
        → AllGood before (lines_at m (branches_forest P n bs)) after
    branches_good before m n no_branch after z r = tt
    branches_good before m n (and_branch e w p bs) after z r =
        let s = guard_shape P e w in
        let own = own_lines (m + 1) (n + 1) p in
        let others = lines_at m (branches_forest P (n + 1 + height p) bs) in
        let child_there : has_child false m ((own ++ others) ++ after) ≡ true = ap (has_child false m) (append_assoc own others after) ∙ has_child_part m (n + 1) p (others ++ after) in (
          head_good before n m word.Alt s ((own ++ others) ++ after) z r (guard_head e w) child_there,
          good-append (record { number = n; level = m; shape = s } ∷ before) own others after
              (part_good (record { number = n; level = m; shape = s } ∷ before) (m + 1) (n + 1) p (others ++ after) (below_zero m) (slot_below before n m word.Alt s r (guard_head e w)))
              (branches_good (pushed own (record { number = n; level = m; shape = s } ∷ before)) m (n + 1 + height p) bs after z (room_after before n (n + 1) m s p ∙ r)),
        )
