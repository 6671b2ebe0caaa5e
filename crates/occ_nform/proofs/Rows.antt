-- Tables whose rows are right one by one: nothing is out of order, empty or not reached.
use Rattle.std.proofs.Common.{◌≡◌, ◌⊎◌, ◌≤◌, ◌<◌, ◌+◌, ◌*◌, ◌-◌, ◌==◌, ◌&&◌, ◌++◌, ℕ, zero, suc, max, Bool, true, false, cond, nat_lt, List, [], ◌∷◌, Option, Some, None, length, get_or, take, drop, refl, sym, ap, ◌∙◌, subst, ⊎_elim, arith, drop-cons}
use Rattle.std.proofs.lemmas.Bool.{and_parts, and_from, or_left, or_right, eqb-true, eq-eqb, ltb-true}
use Rattle.std.proofs.lemmas.List.{take_more, get_or-take}
use Rattle.std.proofs.lemmas.Option.{slice_get-get_or, same_Some, get_or_from_slice_get}
use Rattle.std.specs.List.{list_any, AllByRecursion}
use Rattle.occ_syntax.specs.occ_base.declared.event.Event.{Event}
use Rattle.occ_syntax.specs.occ_base.declared.event.Dir.{Dir}
use Rattle.occ_syntax.specs.occ_base.declared.event.Dir.TheVariants.{Input, Output}
use Rattle.occ_syntax.specs.occ_base.declared.names.Name.{Name}
use Rattle.occ_syntax.specs.declared.scope.Kind.{Kind}
use Rattle.occ_syntax.specs.Scopes.{same_event, same_dir}
use Rattle.occ_nform_rows.specs.occ_nform_table.declared.table.TableRow.{TableRow}
use Rattle.occ_nform_rows.specs.occ_nform_table.declared.table.TableFault.TheVariants as fault
use Rattle.occ_nform_rows.specs.occ_nform_table.Behaviours.{next_row, row_at, no_row}
use Rattle.occ_nform_rows.specs.occ_nform_table.Judging.{Mark, Fine, Misplaced, Excessive, placed, list_marks, row_marks, rows_marks, row_text, height_over, comes_after, reached, is_reached, is_empty_row}
use Rattle.occ_nform_rows.specs.occ_behaviour.Places.{place_in}
use Rattle.occ_nform_rows.specs.occ_nform_table.Lines.{rank}
use Rattle.occ_nform_rows.specs.occ_nform_table.Normal.{Parts, table_fault, first_mark, first_empty, first_unreached, or_fault}
use Rattle.occ_nform_rows.specs.occ_nform_table.Tables.{IsRowOf, AreRowsOf}

abbrev pub AreFine : List Mark → Type 0
AreFine marks = AllByRecursion (λ mark. mark ≡ Fine) marks

-- ---- marks
pub fine_append : (xs ys : List Mark) → AreFine xs → AreFine ys → AreFine (xs ++ ys)
fine_append [] ys h k = k
fine_append (x ∷ xs) ys h k = (h.0, fine_append xs ys h.1 k)

pub fine_back : (xs ys : List Mark) → AreFine (xs ++ ys) → AreFine ys
fine_back [] ys h = h
fine_back (x ∷ xs) ys h = fine_back xs ys h.1

pub no_mark : (line : ℕ) (marks : List Mark) → AreFine marks → first_mark line marks ≡ None
unfolding first_mark
no_mark line [] h = refl
no_mark line (Fine ∷ marks) h = no_mark (line + 1) marks h.1
no_mark line (Misplaced ∷ marks) h = let e : Misplaced ≡ Fine = h.0 in cc
no_mark line (Excessive ∷ marks) h = let e : Excessive ≡ Fine = h.0 in cc

placed_fine : (b : Bool) → placed b ≡ Fine → b ≡ true
placed_fine true h = refl
placed_fine false h = cc

pub fine_placed : (b : Bool) → b ≡ true → placed b ≡ Fine
fine_placed b h = ap placed h

-- ---- events that increase

module _ (params : List (Name × Kind)) where
  same_rank : (e f : Event) → same_event e f ≡ true → rank params e ≡ rank params f
  same_rank e f h =
      let p = and_parts (e.chan.0 == f.chan.0 && same_dir e.dir f.dir) (e.value == f.value) h in
      let q = and_parts (e.chan.0 == f.chan.0) (same_dir e.dir f.dir) p.0 in
      let chan : e.chan.0 ≡ f.chan.0 = eqb-true e.chan.0 f.chan.0 q.0 in
      let value : e.value ≡ f.value = eqb-true e.value f.value p.1 in
      λ i. 256 * place_in params (record { 0 = chan i }) + value i

  abbrev offer_less : Event × ℕ → Event × ℕ → Bool
  offer_less o p = nat_lt (rank params o.0) (rank params p.0)

  above : (x : Event × ℕ) (xs : List (Event × ℕ)) → AreFine (list_marks offer_less (Some x) xs) → AllByRecursion (λ (o : Event × ℕ). rank params x.0 < rank params o.0) xs
  unfolding list_marks
  above x [] h = tt
  above x (y ∷ ys) h =
      let less : rank params x.0 < rank params y.0 = ltb-true (rank params x.0) (rank params y.0) (placed_fine (offer_less x y) h.0) in
      (less, weaker x y ys less (above y ys h.1))
    where
      weaker : (x y : Event × ℕ) (ys : List (Event × ℕ)) → rank params x.0 < rank params y.0 → AllByRecursion (λ (o : Event × ℕ). rank params y.0 < rank params o.0) ys
          → AllByRecursion (λ (o : Event × ℕ). rank params x.0 < rank params o.0) ys
      weaker x y [] less h = tt
      weaker x y (z ∷ zs) less h = let first : rank params y.0 < rank params z.0 = h.0 in (omega arith, weaker x y zs less h.1)

  rest_fine : (x : Event × ℕ) (before : Option (Event × ℕ)) (xs : List (Event × ℕ)) → AreFine (list_marks offer_less before (x ∷ xs)) → AreFine (list_marks offer_less (Some x) xs)
  unfolding list_marks
  rest_fine x before xs h = h.1

  same_self : (e : Event) → same_event e e ≡ true
  same_self e = and_from (e.chan.0 == e.chan.0 && same_dir e.dir e.dir) (e.value == e.value) (and_from (e.chan.0 == e.chan.0) (same_dir e.dir e.dir) (eq-eqb e.chan.0 e.chan.0 refl) (dir e.dir)) (eq-eqb e.value e.value refl)
    where
      dir : (d : Dir) → same_dir d d ≡ true
      dir Input = refl
      dir Output = refl

  -- each offer is found at its event
  pub found : (before : Option (Event × ℕ)) (xs : List (Event × ℕ)) → AreFine (list_marks offer_less before xs) → AllByRecursion (λ (o : Event × ℕ). next_row xs o.0 ≡ Some o.1) xs
  unfolding next_row
  found before [] h = tt
  found before (x ∷ xs) h =
      let rest = rest_fine x before xs h in
      (ap (λ b. cond b (Some x.1) (next_row xs x.0)) (same_self x.0), behind xs (above x xs rest) (found (Some x) xs rest))
    where
      behind : (ys : List (Event × ℕ)) → AllByRecursion (λ (o : Event × ℕ). rank params x.0 < rank params o.0) ys → AllByRecursion (λ (o : Event × ℕ). next_row xs o.0 ≡ Some o.1) ys
          → AllByRecursion (λ (o : Event × ℕ). cond (same_event x.0 o.0) (Some x.1) (next_row xs o.0) ≡ Some o.1) ys
      behind [] a f = tt
      behind (y ∷ ys) a f = (apart (same_event x.0 y.0) refl, behind ys a.1 f.1)
        where
          apart : (b : Bool) → same_event x.0 y.0 ≡ b → cond (same_event x.0 y.0) (Some x.1) (next_row xs y.0) ≡ Some y.1
          apart true e = let less : rank params x.0 < rank params y.0 = a.0 in let same : rank params x.0 ≡ rank params y.0 = same_rank x.0 y.0 e in absurd (omega arith)
          apart false e = ap (λ b. cond b (Some x.1) (next_row xs y.0)) e ∙ f.0

  -- the offers of a row whose marks are fine are found
  pub row_found : (row : TableRow) → AreFine (row_marks params row) → AllByRecursion (λ (o : Event × ℕ). next_row row.offers o.0 ≡ Some o.1) row.offers
  row_found row h = found None row.offers (fine_back _ (list_marks offer_less None row.offers) h)

-- ---- heights
over_above_at : (H : List ℕ) (o : Event × ℕ) (m n : ℕ) → o.1 ≡ n → 1 + get_or H n 0 ≤ max (1 + get_or H o.1 0) m
over_above_at H o m n e = let same : get_or H o.1 0 ≡ get_or H n 0 = ap (λ k. get_or H k 0) e in omega arith

pub over_above : (H : List ℕ) (e : Event) (n : ℕ) (rs : List (Event × ℕ)) → next_row rs e ≡ Some n → 1 + get_or H n 0 ≤ height_over H rs
unfolding next_row height_over
over_above H e n [] h = absurd (let f : None ≡ Some n = h in cc)
over_above H e n (o ∷ rs) h = by (λ k. over_above H e n rs k) (same_event o.0 e) refl
  where
    by : (next_row rs e ≡ Some n → 1 + get_or H n 0 ≤ height_over H rs) → (b : Bool) → same_event o.0 e ≡ b → 1 + get_or H n 0 ≤ max (1 + get_or H o.1 0) (height_over H rs)
    by more true t = over_above_at H o (height_over H rs) n (same_Some o.1 n (sym (ap (λ b. cond b (Some o.1) (next_row rs e)) t) ∙ h))
    by more false t = let rest : 1 + get_or H n 0 ≤ height_over H rs = more (sym (ap (λ b. cond b (Some o.1) (next_row rs e)) t) ∙ h) in omega arith

pub over_most : (H : List ℕ) (m : ℕ) (rs : List (Event × ℕ)) → AllByRecursion (λ (o : Event × ℕ). 1 + get_or H o.1 0 ≤ m) rs → height_over H rs ≤ m
unfolding height_over
over_most H m [] h = omega arith
over_most H m (o ∷ rs) h = let first : 1 + get_or H o.1 0 ≤ m = h.0 in let rest : height_over H rs ≤ m = over_most H m rs h.1 in omega arith

over_take : (H : List ℕ) (n : ℕ) (rs : List (Event × ℕ)) → AllByRecursion (λ (o : Event × ℕ). o.1 < n) rs → height_over (take n H) rs ≡ height_over H rs
unfolding height_over
over_take H n [] h = refl
over_take H n (o ∷ rs) h = let one = get_or-take n H o.1 0 h.0 in let rest = over_take H n rs h.1 in λ i. max (1 + one i) (rest i)

offers_below : (params : List (Name × Kind)) (n : ℕ) (rs : List (Event × ℕ)) → (P : Event × ℕ → Type 0) → AllByRecursion (λ (o : Event × ℕ). P o × (o.1 < n)) rs → AllByRecursion (λ (o : Event × ℕ). o.1 < n) rs
offers_below params n [] P h = tt
offers_below params n (o ∷ rs) P h = (h.0.1, offers_below params n rs P h.1)

pub row_is : (rows : List TableRow) (i : ℕ) → i < length rows → get_or rows i no_row ≡ row_at rows i
row_is rows i h = sym (ap there_is (slice_get-get_or rows i no_row h))
  where
    there_is : Option TableRow → TableRow
    there_is None = no_row
    there_is (Some row) = row

pub row_get : (rows : List TableRow) (i : ℕ) (d : TableRow) → i < length rows → get_or rows i d ≡ row_at rows i
row_get rows i d h = get_or_from_slice_get rows i (row_at rows i) d (slice_get-get_or rows i no_row h ∙ ap Some (row_is rows i h))

pub here : (rows : List TableRow) (i : ℕ) → i < length rows → drop i rows ≡ row_at rows i ∷ drop (suc i) rows
here rows i h = drop-cons rows i no_row h ∙ ap (λ r. r ∷ drop (suc i) rows) (row_is rows i h)

-- ---- all lines are in their places
module _ (names : List (List ℕ)) (params : List (Name × Kind)) (rows : List TableRow) (H : List ℕ) (wide : length H ≡ length rows)
    (form : (i : ℕ) → i < length rows → IsRowOf params i (row_at rows i)) (over : (i : ℕ) → i < length rows → height_over H (row_at rows i).offers ≡ get_or H i 0)
    (fine : (i : ℕ) → i < length rows → AreFine (row_marks params (row_at rows i)))
    (rising : (i : ℕ) → suc i < length rows → comes_after (Some (get_or H i 0, row_text names (row_at rows i))) (get_or H (suc i) 0, row_text names (row_at rows (suc i))) ≡ true) where
  before_row : ℕ → Option (ℕ × List ℕ)
  before_row zero = None
  before_row (suc i) = Some (get_or H i 0, row_text names (row_at rows i))

  after : (i : ℕ) → i < length rows → comes_after (before_row i) (get_or H i 0, row_text names (row_at rows i)) ≡ true
  unfolding before_row
  after zero h = refl
  after (suc i) h = rising i h

  height_here : (i : ℕ) → i < length rows → height_over (take i H) (row_at rows i).offers ≡ get_or H i 0
  height_here i h = over_take H i (row_at rows i).offers (offers_below params i (row_at rows i).offers _ (form i h).offers) ∙ over i h

  taken_more : (i : ℕ) → i < length rows → take i H ++ get_or H i 0 ∷ [] ≡ take (suc i) H
  taken_more i h = let next : suc i ≡ i + 1 = omega arith in let small : i < length H = omega arith in sym (ap (λ n. take n H) next ∙ take_more H i 0 small)

  marks_here : (i : ℕ) (rs : List TableRow) → i < length rows → AreFine (rows_marks names params (take (suc i) H) (before_row (suc i)) rs) → AreFine (rows_marks names params (take i H) (before_row i) (row_at rows i ∷ rs))
  unfolding rows_marks before_row
  marks_here i rs h rest =
      let e : height_over (take i H) (row_at rows i).offers ≡ get_or H i 0 = height_here i h in (
        fine_placed (comes_after (before_row i) (height_over (take i H) (row_at rows i).offers, row_text names (row_at rows i))) (ap (λ n. comes_after (before_row i) (n, row_text names (row_at rows i))) e ∙ after i h),
        fine_append (row_marks params (row_at rows i)) (rows_marks names params (take i H ++ height_over (take i H) (row_at rows i).offers ∷ []) (Some (height_over (take i H) (row_at rows i).offers, row_text names (row_at rows i))) rs) (fine i h)
            (subst (λ n. AreFine (rows_marks names params (take i H ++ n ∷ []) (Some (n, row_text names (row_at rows i))) rs)) (sym e)
            (subst (λ hs. AreFine (rows_marks names params hs (Some (get_or H i 0, row_text names (row_at rows i))) rs)) (sym (taken_more i h)) rest)),
      )

  marks_none : (i : ℕ) (rs : List TableRow) → rs ≡ [] → AreFine (rows_marks names params (take i H) (before_row i) rs)
  unfolding rows_marks
  marks_none i rs none = subst (λ rs. AreFine (rows_marks names params (take i H) (before_row i) rs)) (sym none) tt

  marks_from : (more i : ℕ) → i + more ≡ length rows → AreFine (rows_marks names params (take i H) (before_row i) (drop i rows))
  marks_from zero i e = marks_none i (drop i rows) (drop_all_rows i rows (omega arith))
    where
      drop_all_rows : (i : ℕ) (rs : List TableRow) → length rs ≤ i → drop i rs ≡ []
      drop_all_rows zero [] h = refl
      drop_all_rows zero (r ∷ rs) h = absurd (omega arith)
      drop_all_rows (suc i) [] h = refl
      drop_all_rows (suc i) (r ∷ rs) h = drop_all_rows i rs (omega arith)
  marks_from (suc more) i e =
      let small : i < length rows = omega arith in
      subst (λ rs. AreFine (rows_marks names params (take i H) (before_row i) rs)) (sym (here rows i small)) (marks_here i (drop (suc i) rows) small (marks_from more (suc i) (omega arith)))

  pub all_fine : AreFine (rows_marks names params [] None rows)
  unfolding before_row
  all_fine = marks_from (length rows) 0 (omega arith)

-- ---- no row is empty, and each is reached
pub none_empty : (n : ℕ) (rs : List TableRow) → AllByRecursion (λ row. is_empty_row row ≡ false) rs → first_empty n rs ≡ None
unfolding first_empty
none_empty n [] h = refl
none_empty n (r ∷ rs) h = ap (λ b. cond b (Some (fault.Empty n)) (first_empty (n + 1) rs)) h.0 ∙ none_empty (n + 1) rs h.1

pub none_unreached : (test : ℕ → Bool) (more n : ℕ) → ((i : ℕ) → n ≤ i → i < n + more → test i ≡ true) → first_unreached test more n ≡ None
unfolding first_unreached
none_unreached test zero n h = refl
none_unreached test (suc more) n h = ap (λ b. cond b (first_unreached test more (n + 1)) (Some (fault.Unreached n))) (h n (omega arith) (omega arith)) ∙ none_unreached test more (n + 1) (λ i low high. h i (omega arith) (omega arith))

module _ (named : ℕ → Bool) (rows : List TableRow) where
  abbrev Reached : ℕ → ℕ → Type 0
  Reached i k = reached named i (drop i rows) k ≡ true

  reached_named : (rs : List TableRow) (n k : ℕ) → named k ≡ true → reached named n rs k ≡ true
  unfolding reached
  reached_named [] n k h = h
  reached_named (r ∷ rs) n k h = or_left (reached named (n + 1) rs k) (reached named (n + 1) rs n && list_any (λ o. o.1 == k) r.offers) (reached_named rs (n + 1) k h)

  next_is : (i k : ℕ) → reached named (suc i) (drop (suc i) rows) k ≡ reached named (i + 1) (drop (suc i) rows) k
  next_is i k = let next : suc i ≡ i + 1 = omega arith in ap (λ n. reached named n (drop (suc i) rows) k) next

  kept_once : (i k : ℕ) → i < length rows → Reached (suc i) k → Reached i k
  unfolding reached
  kept_once i k h r = subst (λ rs. reached named i rs k ≡ true) (sym (here rows i h))
      (or_left (reached named (i + 1) (drop (suc i) rows) k) (reached named (i + 1) (drop (suc i) rows) i && list_any (λ o. o.1 == k) (row_at rows i).offers) (sym (next_is i k) ∙ r))

  by_offer : (i k : ℕ) → i < length rows → Reached (suc i) i → list_any (λ (o : Event × ℕ). o.1 == k) (row_at rows i).offers ≡ true → Reached i k
  unfolding reached
  by_offer i k h r offered = subst (λ rs. reached named i rs k ≡ true) (sym (here rows i h))
      (or_right (reached named (i + 1) (drop (suc i) rows) k) (reached named (i + 1) (drop (suc i) rows) i && list_any (λ o. o.1 == k) (row_at rows i).offers)
      (and_from (reached named (i + 1) (drop (suc i) rows) i) (list_any (λ o. o.1 == k) (row_at rows i).offers) (sym (next_is i i) ∙ r) offered))

  kept : (d i k : ℕ) → i + d ≤ length rows → Reached (i + d) k → Reached i k
  kept zero i k h r = let same : i + zero ≡ i = omega arith in subst (λ n. Reached n k) same r
  kept (suc d) i k h r = let same : i + suc d ≡ suc i + d = omega arith in kept_once i k (omega arith) (kept d (suc i) k (omega arith) (subst (λ n. Reached n k) same r))

  kept_from : (i j k : ℕ) → i ≤ j → j ≤ length rows → Reached j k → Reached i k
  kept_from i j k low high r = let same : j ≡ i + (j - i) = omega arith in kept (j - i) i k (omega arith) (subst (λ n. Reached n k) same r)

  module _ (each : (i : ℕ) → i < length rows → (named i ≡ true) ⊎ ((j : ℕ) × (i < j) × (j < length rows) × (list_any (λ (o : Event × ℕ). o.1 == i) (row_at rows j).offers ≡ true))) where
    reached_below : (d i : ℕ) → i < length rows → length rows ≤ i + d → Reached (suc i) i
    reached_below zero i h most = absurd (omega arith)
    reached_below (suc d) i h most = ⊎_elim
        (λ (n : named i ≡ true). reached_named (drop (suc i) rows) (suc i) i n)
        (λ (v : (j : ℕ) × (i < j) × (j < length rows) × (list_any (λ (o : Event × ℕ). o.1 == i) (row_at rows j).offers ≡ true)).
        let above : i < v.0 = v.1 in let small : v.0 < length rows = v.2 in
        kept_from (suc i) v.0 i (omega arith) (omega arith) (by_offer v.0 i small (reached_below d v.0 small (omega arith)) v.3))
        (each i h)

    pub all_reached : (i : ℕ) → i < length rows → reached named 0 rows i ≡ true
    all_reached i h = kept_from 0 (suc i) i (omega arith) (omega arith) (reached_below (length rows) i h (omega arith))

-- ---- rows by their places
pub rows_of : (params : List (Name × Kind)) (n : ℕ) (rs : List TableRow) → ((i : ℕ) → i < length rs → IsRowOf params (n + i) (row_at rs i)) → AreRowsOf params n rs
rows_of params n [] h = tt
rows_of params n (r ∷ rs) h =
    let first : n + 0 ≡ n = omega arith in
    (subst (λ m. IsRowOf params m r) first (h 0 (omega arith)), rows_of params (n + 1) rs (λ i k. let same : n + suc i ≡ n + 1 + i = omega arith in subst (λ m. IsRowOf params m (row_at rs i)) same (h (suc i) (omega arith))))

pub each_row : (P : TableRow → Type 0) (rs : List TableRow) → ((i : ℕ) → i < length rs → P (row_at rs i)) → AllByRecursion P rs
each_row P [] h = tt
each_row P (r ∷ rs) h = (h 0 (omega arith), each_row P rs (λ i k. h (suc i) (omega arith)))

pub no_fault : (t : Parts) → AreFine (rows_marks t.names t.params [] None t.rows) → ((i : ℕ) → i < length t.rows → is_empty_row (row_at t.rows i) ≡ false)
    → ((i : ℕ) → i < length t.rows → is_reached t.rows t.states i ≡ true) → table_fault t ≡ None
unfolding table_fault
no_fault t fine alive met =
    let marks = no_mark (2 + length t.params) (rows_marks t.names t.params [] None t.rows) fine in
    let empty = none_empty 0 t.rows (each_row (λ row. is_empty_row row ≡ false) t.rows alive) in
    let unreached = none_unreached (is_reached t.rows t.states) (length t.rows) 0 (λ i low high. met i (omega arith)) in
    λ i. or_fault (marks i) (or_fault (empty i) (unreached i))
