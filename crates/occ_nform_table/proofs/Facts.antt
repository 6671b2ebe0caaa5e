-- What is known of a normal table: its rows have their forms, increase, and are full and reached.
use Rattle.std.proofs.Common.{◌≡◌, ℕ, zero, suc, ◌+◌, ◌<◌, ◌≤◌, Bool, true, false, not, ◌&&◌, nat_lt, max, if◌then◌else◌, List, [], ◌∷◌, ◌++◌, length, get_or, Option, Some, None, refl, sym, ap, ◌∙◌, subst, inl, inr, ◌⊎◌, arith, length-append}
use Rattle.std.proofs.lemmas.Bool.{and_parts, not-true, cases_eq}
use Rattle.std.proofs.Math.ListN.{get_or-append}
use Rattle.std.proofs.lemmas.List.{get_or_push}
use Rattle.std.proofs.Math.Nat.{add-zero, zero-add}
use Rattle.std.specs.List.{list_any, AllByRecursion}
use Rattle.occ_lex.specs.occ_base.declared.event.Event.{Event}
use Rattle.occ_lex.specs.occ_base.declared.names.Name.{Name}
use Rattle.occ_syntax.specs.declared.scope.Kind.{Kind}
use Rattle.occ_syntax.specs.Scopes.{environment, in_interface}
use Rattle.occ_nform_table.specs.declared.table.TableRow.{TableRow}
use Rattle.occ_nform_table.specs.declared.table.TableFault.{TableFault}
use Rattle.occ_nform_table.specs.declared.table.TableFault.TheVariants as fault
use Rattle.occ_nform_table.specs.Lines.{rank, state_place}
use Rattle.occ_nform_table.specs.Judging.{Mark, Fine, Misplaced, Excessive, accept_mark, accept_marks, contains, follows, height_over, is_empty_row, is_offered, is_reached, list_marks, placed, row_marks, row_text, rows_marks, set_less, comes_after}
use Rattle.occ_nform_table.specs.Normal.{Parts, first_empty, first_mark, first_unreached, or_fault, table_fault}
use Rattle.occ_nform_table.specs.Tables.{AreRowsOf, IsNormal, IsRowOf}
use Rattle.occ_nform_table.specs.Behaviours.{row_at}
use Rattle.occ_nform_table.proofs.Lists.{Chain, In, chain_at, in_all}
use Rattle.occ_nform_table.proofs.Orders.{key, row_less, rows_strict}
use Rattle.occ_nform_table.proofs.Events.{IsProper, all_marked}

-- ---- marks
abbrev pub AreFine : List Mark → Type 0
AreFine [] = Unit {0}
AreFine (Fine ∷ marks) = AreFine marks
AreFine (Misplaced ∷ marks) = ⊥
AreFine (Excessive ∷ marks) = ⊥

some_not_none : {A B : Type 0} {a : A} → Some a ≡ None → B
some_not_none h = absurd (cc)

no_mark : (line : ℕ) (marks : List Mark) → first_mark line marks ≡ None → AreFine marks
unfolding first_mark
no_mark line [] h = tt
no_mark line (Fine ∷ marks) h = no_mark (line + 1) marks h
no_mark line (Misplaced ∷ marks) h = some_not_none h
no_mark line (Excessive ∷ marks) h = some_not_none h

fine_parts : (front back : List Mark) → AreFine (front ++ back) → AreFine front × AreFine back
fine_parts [] back h = (tt, h)
fine_parts (Fine ∷ front) back h = fine_parts front back h
fine_parts (Misplaced ∷ front) back h = absurd h
fine_parts (Excessive ∷ front) back h = absurd h

placed_fine : (b : Bool) (marks : List Mark) → AreFine (placed b ∷ marks) → (b ≡ true) × AreFine marks
placed_fine true marks h = (refl, h)
placed_fine false marks h = absurd h

accepted_fine : (b c : Bool) (marks : List Mark) → AreFine (accept_mark b c ∷ marks) → (b ≡ true) × (c ≡ true) × AreFine marks
accepted_fine true true marks h = (refl, refl, h)
accepted_fine true false marks h = absurd h
accepted_fine false c marks h = absurd h

list_chain : {A : Type 0} (less : A → A → Bool) (before : Option A) (xs : List A) → AreFine (list_marks less before xs) → Chain less before xs
unfolding list_marks
list_chain less before [] h = tt
list_chain less before (x ∷ xs) h =
    let here = placed_fine (follows less before x) (list_marks less (Some x) xs) h in
    (here.0, list_chain less (Some x) xs here.1)

accept_chain : (params : List (Name × Kind)) (offers : List (Event × ℕ)) (all : List (List Event)) (before : Option (List Event)) (sets : List (List Event))
    → AreFine (accept_marks params offers all before sets)
    → Chain (set_less params) before sets × AllByRecursion (λ set. list_any (contains params set) all ≡ false) sets × AllByRecursion (λ set. is_offered params offers set ≡ true) sets
unfolding accept_marks
accept_chain params offers all before [] h = (tt, tt, tt)
accept_chain params offers all before (set ∷ sets) h =
    let here = accepted_fine (follows (set_less params) before set) (is_offered params offers set && not (list_any (contains params set) all)) (accept_marks params offers all (Some set) sets) h in
    let rest = accept_chain params offers all (Some set) sets here.2 in
    let both = and_parts (is_offered params offers set) (not (list_any (contains params set) all)) here.1 in
    ((here.0, rest.0), (not-true (list_any (contains params set) all) both.1, rest.1), (both.0, rest.2))

-- ---- the lines of a row
pub record IsTidy (params : List (Name × Kind)) (row : TableRow) : Type 0 where
  pub ends : Chain (λ s u. nat_lt (state_place params s) (state_place params u)) None row.ends
  pub accepts : Chain (set_less params) None row.accepts
  pub least : AllByRecursion (λ set. list_any (contains params set) row.accepts ≡ false) row.accepts
  pub offered : AllByRecursion (λ set. is_offered params row.offers set ≡ true) row.accepts
  pub offers : Chain (λ (o p : Event × ℕ). nat_lt (rank params o.0) (rank params p.0)) None row.offers

tidy : (params : List (Name × Kind)) (row : TableRow) → AreFine (row_marks params row) → IsTidy params row
tidy params row h =
    let one = fine_parts (list_marks (λ s u. nat_lt (state_place params s) (state_place params u)) None row.ends ++ accept_marks params row.offers row.accepts None row.accepts)
    (list_marks (λ o p. nat_lt (rank params o.0) (rank params p.0)) None row.offers) h in
    let two = fine_parts (list_marks (λ s u. nat_lt (state_place params s) (state_place params u)) None row.ends) (accept_marks params row.offers row.accepts None row.accepts) one.0 in
    let sets = accept_chain params row.offers row.accepts None row.accepts two.1 in
    record {
      ends = list_chain (λ s u. nat_lt (state_place params s) (state_place params u)) None row.ends two.0;
      accepts = sets.0;
      least = sets.1;
      offered = sets.2;
      offers = list_chain (λ o p. nat_lt (rank params o.0) (rank params p.0)) None row.offers one.1;
    }

-- ---- heights
-- the heights of all rows, behind those of the rows before
abbrev pub heights_of : List ℕ → List TableRow → List ℕ
heights_of heights [] = heights
heights_of heights (row ∷ rows) = heights_of (heights ++ height_over heights row.offers ∷ []) rows

pub height_same : (heights others : List ℕ) (offers : List (Event × ℕ)) → ((o : Event × ℕ) → In o offers → get_or heights o.1 0 ≡ get_or others o.1 0)
    → height_over heights offers ≡ height_over others offers
unfolding height_over
height_same heights others [] h = refl
height_same heights others (offer ∷ offers) h =
    let rest = height_same heights others offers (λ o k. h o (inr k)) in
    λ i. max (1 + h offer (inl refl) i) (rest i)

longer : (heights : List ℕ) (x : ℕ) → length (heights ++ x ∷ []) ≡ length heights + 1
longer heights x = length-append heights (x ∷ [])

heights_kept : (heights : List ℕ) (rows : List TableRow) (i : ℕ) → i < length heights → get_or (heights_of heights rows) i 0 ≡ get_or heights i 0
heights_kept heights [] i h = refl
heights_kept heights (row ∷ rows) i h =
    heights_kept (heights ++ height_over heights row.offers ∷ []) rows i (omega (arith, h, longer heights (height_over heights row.offers)))
    ∙ get_or-append heights (height_over heights row.offers ∷ []) 0 i h

-- ---- rows
form_at : (params : List (Name × Kind)) (n : ℕ) (rows : List TableRow) → AreRowsOf params n rows → (i : ℕ) → i < length rows → IsRowOf params (n + i) (row_at rows i)
form_at params n [] h i lt = absurd (omega (arith, lt))
form_at params n (row ∷ rows) h zero lt = subst (λ m. IsRowOf params m row) (omega arith) h.0
form_at params n (row ∷ rows) h (suc i) lt = subst (λ m. IsRowOf params m (row_at rows i)) (omega arith) (form_at params (n + 1) rows h.1 i (omega (arith, lt)))

full_at : (n : ℕ) (rows : List TableRow) → first_empty n rows ≡ None → (i : ℕ) → i < length rows → is_empty_row (row_at rows i) ≡ false
unfolding first_empty
full_at n [] h i lt = absurd (omega (arith, lt))
full_at n (row ∷ rows) h i lt = go (is_empty_row row) refl h i lt (λ k. full_at (n + 1) rows k)
  where
    go : (b : Bool) → is_empty_row row ≡ b → (if b then Some (fault.Empty n) else first_empty (n + 1) rows) ≡ None
        → (i : ℕ) → i < length (row ∷ rows) → (first_empty (n + 1) rows ≡ None → (j : ℕ) → j < length rows → is_empty_row (row_at rows j) ≡ false) → is_empty_row (row_at (row ∷ rows) i) ≡ false
    go true e k i l ih = some_not_none k
    go false e k zero l ih = e
    go false e k (suc i) l ih = ih k i (omega (arith, l))

le_of_ne : (n i : ℕ) → n ≤ i → (n ≡ i → ⊥) → n < i
le_of_ne n i low other = omega arith

reached_at : (reached : ℕ → Bool) (more n : ℕ) → first_unreached reached more n ≡ None → (i : ℕ) → n ≤ i → i < n + more → reached i ≡ true
unfolding first_unreached
reached_at reached zero n h i low high = absurd (omega (arith, low, high))
reached_at reached (suc more) n h i low high = go (reached n) refl h
    (λ k. reached_at reached more (n + 1) k i)
  where
    go : (b : Bool) → reached n ≡ b → (if b then first_unreached reached more (n + 1) else Some (fault.Unreached n)) ≡ None
        → (first_unreached reached more (n + 1) ≡ None → n + 1 ≤ i → i < n + 1 + more → reached i ≡ true) → reached i ≡ true
    go true e k ih = after (cases_eq n i) ih k
      where
        after : (n ≡ i) ⊎ (n ≡ i → ⊥) → (first_unreached reached more (n + 1) ≡ None → n + 1 ≤ i → i < n + 1 + more → reached i ≡ true) → first_unreached reached more (n + 1) ≡ None → reached i ≡ true
        after (inl same) next m = subst (λ j. reached j ≡ true) same e
        after (inr other) next m = next m (let l : n < i = le_of_ne n i low other in omega (arith, l)) (omega (arith, high))
    go false e k ih = some_not_none k

tidy_parts : (names : List (List ℕ)) (params : List (Name × Kind)) (heights : List ℕ) (before : Option (ℕ × List ℕ)) (row : TableRow) (rows : List TableRow)
    → AreFine (rows_marks names params heights before (row ∷ rows))
    → IsTidy params row × AreFine (rows_marks names params (heights ++ height_over heights row.offers ∷ []) (Some (height_over heights row.offers, row_text names row)) rows)
unfolding rows_marks
tidy_parts names params heights before row rows h =
    let here = placed_fine (comes_after before (height_over heights row.offers, row_text names row))
    (row_marks params row ++ rows_marks names params (heights ++ height_over heights row.offers ∷ []) (Some (height_over heights row.offers, row_text names row)) rows) h in
    let parts = fine_parts (row_marks params row) (rows_marks names params (heights ++ height_over heights row.offers ∷ []) (Some (height_over heights row.offers, row_text names row)) rows) here.1 in
    (tidy params row parts.0, parts.1)

tidy_at : (names : List (List ℕ)) (params : List (Name × Kind)) (heights : List ℕ) (before : Option (ℕ × List ℕ)) (rows : List TableRow)
    → AreFine (rows_marks names params heights before rows) → (i : ℕ) → i < length rows → IsTidy params (row_at rows i)
unfolding rows_marks
tidy_at names params heights before [] h i lt = absurd (omega (arith, lt))
tidy_at names params heights before (row ∷ rows) h zero lt = (tidy_parts names params heights before row rows h).0
tidy_at names params heights before (row ∷ rows) h (suc i) lt =
    tidy_at names params (heights ++ height_over heights row.offers ∷ []) (Some (height_over heights row.offers, row_text names row)) rows (tidy_parts names params heights before row rows h).1 i (omega (arith, lt))

abbrev key_of : List (List ℕ) → List ℕ → Option TableRow → Option (ℕ × List ℕ)
key_of names heights None = None
key_of names heights (Some row) = Some (key names heights row)

follows_key : (names : List (List ℕ)) (heights : List ℕ) (before : Option TableRow) (row : TableRow) → comes_after (key_of names heights before) (key names heights row) ≡ true
    → follows (row_less names heights) before row ≡ true
follows_key names heights None row h = refl
follows_key names heights (Some other) row h = h

-- the heights of the rows that a row offers are known before it
known_heights : (params : List (Name × Kind)) (heights : List ℕ) (row : TableRow) (rows : List TableRow) → IsRowOf params (length heights) row
    → height_over heights row.offers ≡ height_over (heights_of heights (row ∷ rows)) row.offers
known_heights params heights row rows form = height_same heights (heights_of heights (row ∷ rows)) row.offers
    (λ o k. sym (heights_kept heights (row ∷ rows) o.1 (in_all (λ (p : Event × ℕ). (in_interface (environment params) p.0 ≡ true) × (p.1 < length heights)) row.offers o form.offers k).1))

rows_chain : (names : List (List ℕ)) (params : List (Name × Kind)) (all heights : List ℕ) (before : Option TableRow) (rows : List TableRow) → heights_of heights rows ≡ all
    → AreRowsOf params (length heights) rows → AreFine (rows_marks names params heights (key_of names all before) rows) → Chain (row_less names all) before rows
unfolding rows_marks
rows_chain names params all heights before [] is forms h = tt
rows_chain names params all heights before (row ∷ rows) is forms h =
    let same : height_over heights row.offers ≡ height_over all row.offers = known_heights params heights row rows forms.0 ∙ ap (λ g. height_over g row.offers) is in
    let here = placed_fine (comes_after (key_of names all before) (height_over heights row.offers, row_text names row))
    (row_marks params row ++ rows_marks names params (heights ++ height_over heights row.offers ∷ []) (Some (height_over heights row.offers, row_text names row)) rows) h in
    let rest = (fine_parts (row_marks params row) (rows_marks names params (heights ++ height_over heights row.offers ∷ []) (Some (height_over heights row.offers, row_text names row)) rows) here.1).1 in (
      follows_key names all before row (subst (λ y. comes_after (key_of names all before) (y, row_text names row) ≡ true) same here.0),
      rows_chain names params all (heights ++ height_over heights row.offers ∷ []) (Some row) rows is
          (subst (λ m. AreRowsOf params m rows) (sym (longer heights (height_over heights row.offers))) forms.1)
          (subst (λ y. AreFine (rows_marks names params (heights ++ height_over heights row.offers ∷ []) (Some (y, row_text names row)) rows)) same rest),
    )

heights_at : (params : List (Name × Kind)) (heights : List ℕ) (rows : List TableRow) → AreRowsOf params (length heights) rows → (i : ℕ) → i < length rows
    → get_or (heights_of heights rows) (length heights + i) 0 ≡ height_over (heights_of heights rows) (row_at rows i).offers
heights_at params heights [] forms i lt = absurd (omega (arith, lt))
heights_at params heights (row ∷ rows) forms zero lt =
    ap (λ j. get_or (heights_of heights (row ∷ rows)) j 0) (add-zero (length heights))
    ∙ heights_kept (heights ++ height_over heights row.offers ∷ []) rows (length heights) (omega (arith, longer heights (height_over heights row.offers)))
    ∙ get_or_push heights (height_over heights row.offers) 0 (length heights) refl
    ∙ known_heights params heights row rows forms.0
heights_at params heights (row ∷ rows) forms (suc i) lt =
    ap (λ j. get_or (heights_of heights (row ∷ rows)) j 0) (omega (arith, longer heights (height_over heights row.offers)))
    ∙ heights_at params (heights ++ height_over heights row.offers ∷ []) rows (subst (λ m. AreRowsOf params m rows) (sym (longer heights (height_over heights row.offers))) forms.1) i (omega (arith, lt))

-- ---- the facts together
pub record IsPlain (names : List (List ℕ)) (params : List (Name × Kind)) (rows : List TableRow) (heights : List ℕ) : Type 0 where
  pub form : (i : ℕ) → i < length rows → IsRowOf params i (row_at rows i)
  pub tidy : (i : ℕ) → i < length rows → IsTidy params (row_at rows i)
  pub full : (i : ℕ) → i < length rows → is_empty_row (row_at rows i) ≡ false
  pub height : (i : ℕ) → i < length rows → get_or heights i 0 ≡ height_over heights (row_at rows i).offers
  pub rising : (i j : ℕ) → i < j → j < length rows → row_less names heights (row_at rows i) (row_at rows j) ≡ true

no_fault : (f g : Option TableFault) → or_fault f g ≡ None → (f ≡ None) × (g ≡ None)
no_fault None g h = (refl, h)
no_fault (Some f) g h = some_not_none h

pub plain_of : (t : Parts) → IsNormal t → IsPlain t.names t.params t.rows (heights_of [] t.rows)
unfolding table_fault
plain_of t normal =
    let one = no_fault (first_mark (2 + length t.params) (rows_marks t.names t.params [] None t.rows)) (or_fault (first_empty 0 t.rows) (first_unreached (is_reached t.rows t.states) (length t.rows) 0)) normal.fine in
    let two = no_fault (first_empty 0 t.rows) (first_unreached (is_reached t.rows t.states) (length t.rows) 0) one.1 in
    let fine : AreFine (rows_marks t.names t.params [] None t.rows) = no_mark (2 + length t.params) (rows_marks t.names t.params [] None t.rows) one.0 in
    record {
      form = λ i h. subst (λ m. IsRowOf t.params m (row_at t.rows i)) (zero-add i) (form_at t.params 0 t.rows normal.rows i h);
      tidy = tidy_at t.names t.params [] None t.rows fine;
      full = full_at 0 t.rows two.0;
      height = λ i h. ap (λ j. get_or (heights_of [] t.rows) j 0) (sym (zero-add i)) ∙ heights_at t.params [] t.rows normal.rows i h;
      rising = chain_at (row_less t.names (heights_of [] t.rows)) (rows_strict t.names (heights_of [] t.rows)) None t.rows
          (rows_chain t.names t.params (heights_of [] t.rows) [] None t.rows refl normal.rows fine);
    }

pub all_reached : (t : Parts) → IsNormal t → (i : ℕ) → i < length t.rows → is_reached t.rows t.states i ≡ true
unfolding table_fault
all_reached t normal i h =
    let one = no_fault (first_mark (2 + length t.params) (rows_marks t.names t.params [] None t.rows)) (or_fault (first_empty 0 t.rows) (first_unreached (is_reached t.rows t.states) (length t.rows) 0)) normal.fine in
    let two = no_fault (first_empty 0 t.rows) (first_unreached (is_reached t.rows t.states) (length t.rows) 0) one.1 in
    reached_at (is_reached t.rows t.states) (length t.rows) 0 two.1 i (omega arith) (omega (arith, h))

pub proper_of : (t : Parts) → IsNormal t → IsProper t.params
proper_of t normal = record { wide = normal.interface.wide; marked = all_marked t.names [] t.params normal.params }
