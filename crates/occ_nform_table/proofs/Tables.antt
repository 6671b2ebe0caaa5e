-- Two normal tables of the same behaviours have the same rows, under the same numbers.
use Rattle.std.proofs.Common.{◌≡◌, ℕ, zero, suc, ◌+◌, ◌<◌, ◌≤◌, Bool, true, not, ◌&&◌, ◌==◌, List, [], ◌∷◌, length, get_or, Option, Some, None, refl, sym, ap, ◌∙◌, subst, inl, inr, ◌⊎◌, arith}
use Rattle.std.proofs.lemmas.Bool.{and_parts, or_cases, cases_lt, cases_order, eqb-true}
use Rattle.std.specs.List.{list_all, list_any}
use Rattle.occ_lex.specs.occ_base.declared.event.Event.{Event}
use Rattle.occ_lex.specs.occ_base.declared.names.Name.{Name}
use Rattle.occ_syntax.specs.declared.scope.Kind.{Kind}
use Rattle.occ_syntax.specs.Scopes.{EventSet}
use Rattle.occ_nform_table.specs.declared.table.TableRow.{TableRow}
use Rattle.occ_nform_table.specs.Lines.{state_place}
use Rattle.occ_nform_table.specs.Judging.{comes_after, height_over, is_reached, reached, row_text}
use Rattle.occ_nform_table.specs.Behaviours.{goes_on, next_row, row_at, row_ends, row_fails}
use Rattle.occ_nform_table.proofs.Lists.{In, any_in, same_rows}
use Rattle.occ_nform_table.proofs.Orders.{row_less, rows_strict}
use Rattle.occ_nform_table.proofs.Events.{IsProper}
use Rattle.occ_nform_table.proofs.Facts.{IsPlain, height_same}
use Rattle.occ_nform_table.proofs.Rows.{AreAlike, behind_offer, joined, offer_form, offer_found, same_row, turned}

-- ---- in one table no two rows have the same behaviours
module _ (names : List (List ℕ)) (params : List (Name × Kind)) (proper : IsProper params) (rows : List TableRow) (heights : List ℕ) (plain : IsPlain names params rows heights) where
  not_before : (i j : ℕ) → i < j → j < length rows → row_at rows i ≡ row_at rows j → ⊥
  not_before i j lt hj e = (rows_strict names heights).never (row_at rows i) (subst (λ r. row_less names heights (row_at rows i) r ≡ true) (sym e) (plain.rising i j lt hj))

  same_place : (i j : ℕ) → i < length rows → j < length rows → row_at rows i ≡ row_at rows j → i ≡ j
  same_place i j hi hj e = go (cases_order i j)
    where
      go : (i ≡ j) ⊎ ((i < j) ⊎ (j < i)) → i ≡ j
      go (inl s) = s
      go (inr (inl l)) = absurd (not_before i j l hj e)
      go (inr (inr l)) = absurd (not_before j i l hi (sym e))

  one_row_below : (bound i j : ℕ) → i < bound → i < length rows → j < length rows → AreAlike params rows rows i j → i ≡ j
  one_row_below zero i j low hi hj alike = absurd (omega (arith, low))
  one_row_below (suc bound) i j low hi hj alike =
      same_place i j hi hj (same_row names params proper rows rows heights heights plain plain i j hi hj alike
      (λ m n l hn a. one_row_below bound m n (omega (arith, low, l)) (omega (arith, hi, l)) hn a))

  pub one_row : (i j : ℕ) → i < length rows → j < length rows → AreAlike params rows rows i j → i ≡ j
  one_row i j hi hj alike = one_row_below (i + 1) i j (omega arith) hi hj alike

-- ---- two tables that begin with the same rows
-- the first n rows of both tables are the same, and so are their heights
abbrev pub Agree : List TableRow → List TableRow → List ℕ → List ℕ → ℕ → Type 0
Agree rows others heights other_heights n = (k : ℕ) → k < n → (k < length rows) × (k < length others) × (row_at rows k ≡ row_at others k) × (get_or heights k 0 ≡ get_or other_heights k 0)

agree_turned : (rows others : List TableRow) (heights other_heights : List ℕ) (n : ℕ) → Agree rows others heights other_heights n → Agree others rows other_heights heights n
agree_turned rows others heights other_heights n h k l = let here = h k l in (here.1, here.0, sym here.2, sym here.3)

goes_same : (o : Option ℕ) (f g : ℕ → Bool) → ((m : ℕ) → o ≡ Some m → f m ≡ g m) → goes_on o f ≡ goes_on o g
goes_same None f g h = refl
goes_same (Some m) f g h = h m refl

module _ (names : List (List ℕ)) (params : List (Name × Kind)) (rows others : List TableRow) (heights other_heights : List ℕ)
    (plain : IsPlain names params rows heights) (n : ℕ) (agree : Agree rows others heights other_heights n) where
  lower_offer : (k : ℕ) → k < n → (e : Event) (m : ℕ) → next_row (row_at rows k).offers e ≡ Some m → m < n
  lower_offer k l e m is =
      let here = offer_form names params rows rows heights heights plain plain k (agree k l).0 (e, m) (offer_found (row_at rows k).offers e m is) in
      omega (arith, l, here.1)

  fails_alike : (trace : List Event) (k : ℕ) → k < n → (X : EventSet) → row_fails rows k trace X ≡ row_fails others k trace X
  unfolding row_fails
  fails_alike [] k l X = ap (λ (r : TableRow). list_any (list_all (λ e. not (X e))) r.accepts) (agree k l).2
  fails_alike (e ∷ trace) k l X =
      goes_same (next_row (row_at rows k).offers e) (λ m. row_fails rows m trace X) (λ m. row_fails others m trace X) (λ m is. fails_alike trace m (lower_offer k l e m is) X)
      ∙ ap (λ (r : TableRow). goes_on (next_row r.offers e) (λ m. row_fails others m trace X)) (agree k l).2

  ends_alike : (trace : List Event) (k : ℕ) → k < n → (place : ℕ) → row_ends params rows k trace place ≡ row_ends params others k trace place
  unfolding row_ends
  ends_alike [] k l place = ap (λ (r : TableRow). list_any (λ state. state_place params state == place) r.ends) (agree k l).2
  ends_alike (e ∷ trace) k l place =
      goes_same (next_row (row_at rows k).offers e) (λ m. row_ends params rows m trace place) (λ m. row_ends params others m trace place) (λ m is. ends_alike trace m (lower_offer k l e m is) place)
      ∙ ap (λ (r : TableRow). goes_on (next_row r.offers e) (λ m. row_ends params others m trace place)) (agree k l).2

  alike_below : (k : ℕ) → k < n → AreAlike params rows others k k
  alike_below k l = record { fails = λ t X f. fails_alike t k l X; ends = λ t place h f. ends_alike t k l place }

  -- heights over rows below n are the same in both tables
  heights_agree : (k : ℕ) → k < length rows → k ≤ n → height_over heights (row_at rows k).offers ≡ height_over other_heights (row_at rows k).offers
  heights_agree k hk l = height_same heights other_heights (row_at rows k).offers
      (λ o u. (agree o.1 (let here = offer_form names params rows rows heights heights plain plain k hk o u in omega (arith, l, here.1))).3)

-- each row of the one table has a row of the other with its behaviours
abbrev pub Meets : List (Name × Kind) → List TableRow → List TableRow → ℕ → Type 0
Meets params rows others i = (j : ℕ) × (j < length others) × AreAlike params rows others i j

module _ (names : List (List ℕ)) (params : List (Name × Kind)) (proper : IsProper params) (rows others : List TableRow) (heights other_heights : List ℕ)
    (plain : IsPlain names params rows heights) (other_plain : IsPlain names params others other_heights) where
  -- the next row of the one table is a later row of the other
  later_row : (n : ℕ) → Agree rows others heights other_heights n → n < length rows → Meets params rows others n
      → (j : ℕ) × (n ≤ j) × (j < length others) × (row_at rows n ≡ row_at others j)
  later_row n agree hn (j, hj, alike) = go (cases_lt j n)
    where
      alike_at : (k : ℕ) → k < n → AreAlike params rows others k k
      alike_at = alike_below names params rows others heights other_heights plain n agree

      lower : (m k : ℕ) → m < n → k < length others → AreAlike params rows others m k → m ≡ k
      lower m k l hk a = one_row names params proper others other_heights other_plain m k (agree m l).1 hk
          (joined params others rows others m m k (turned params rows others m m (alike_at m l)) a)

      go : (j < n) ⊎ (n ≤ j) → (j : ℕ) × (n ≤ j) × (j < length others) × (row_at rows n ≡ row_at others j)
      go (inl l) = absurd (let e = one_row names params proper rows heights plain n j hn (agree j l).0
          (joined params rows others rows n j j alike (turned params rows others j j (alike_at j l))) in omega (arith, e, l))
      go (inr l) = (j, l, hj, same_row names params proper rows others heights other_heights plain other_plain n j hn hj alike lower)

-- the next rows are the same: else each table has that of the other later, and then the two are before each other
module _ (names : List (List ℕ)) (params : List (Name × Kind)) (rows others : List TableRow) (heights other_heights : List ℕ)
    (plain : IsPlain names params rows heights) (other_plain : IsPlain names params others other_heights) (n : ℕ) (agree : Agree rows others heights other_heights n)
    (hn : n < length rows) (there : n < length others) where
  before_each_other : (i j : ℕ) → i < length rows → j < length others → row_at rows n ≡ row_at others j → row_at others n ≡ row_at rows i → n < i → n < j → ⊥
  before_each_other i j hi hj e f l m =
      let other_same : height_over other_heights (row_at others n).offers ≡ height_over heights (row_at others n).offers =
      heights_agree names params others rows other_heights heights other_plain n (agree_turned rows others heights other_heights n agree) n there (omega arith) in
      let own_same : height_over other_heights (row_at rows n).offers ≡ height_over heights (row_at rows n).offers =
      sym (heights_agree names params rows others heights other_heights plain n agree n hn (omega arith)) in
      let down : row_less names other_heights (row_at others n) (row_at rows n) ≡ true = subst (λ r. row_less names other_heights (row_at others n) r ≡ true) (sym e) (other_plain.rising n j m hj) in
      let down_here : row_less names heights (row_at others n) (row_at rows n) ≡ true =
      subst (λ x. comes_after (Some (height_over heights (row_at others n).offers, row_text names (row_at others n))) (x, row_text names (row_at rows n)) ≡ true) own_same
      (subst (λ x. comes_after (Some (x, row_text names (row_at others n))) (height_over other_heights (row_at rows n).offers, row_text names (row_at rows n)) ≡ true) other_same down) in
      let up : row_less names heights (row_at rows n) (row_at others n) ≡ true = subst (λ r. row_less names heights (row_at rows n) r ≡ true) (sym f) (plain.rising n i l hi) in
      (rows_strict names heights).never (row_at rows n) ((rows_strict names heights).onward (row_at rows n) (row_at others n) (row_at rows n) up down_here)

  meeting : (i j : ℕ) → n ≤ i → i < length rows → n ≤ j → j < length others → row_at rows n ≡ row_at others j → row_at others n ≡ row_at rows i → row_at rows n ≡ row_at others n
  meeting i j li hi lj hj e f = go (cases_lt n i) (cases_lt n j)
    where
      go : (n < i) ⊎ (i ≤ n) → (n < j) ⊎ (j ≤ n) → row_at rows n ≡ row_at others n
      go (inl l) (inl m) = absurd (before_each_other i j hi hj e f l m)
      go (inr l) k = sym (f ∙ ap (row_at rows) (omega (arith, li, l)))
      go (inl l) (inr m) = e ∙ ap (row_at others) (omega (arith, lj, m))

  same_height : row_at rows n ≡ row_at others n → get_or heights n 0 ≡ get_or other_heights n 0
  same_height e = plain.height n hn ∙ heights_agree names params rows others heights other_heights plain n agree n hn (omega arith)
      ∙ ap (λ (r : TableRow). height_over other_heights r.offers) e ∙ sym (other_plain.height n there)

module _ (names : List (List ℕ)) (params : List (Name × Kind)) (proper : IsProper params) (rows others : List TableRow) (heights other_heights : List ℕ)
    (plain : IsPlain names params rows heights) (other_plain : IsPlain names params others other_heights)
    (over : (i : ℕ) → i < length rows → Meets params rows others i) (back : (j : ℕ) → j < length others → Meets params others rows j) where
  next_same : (n : ℕ) → Agree rows others heights other_heights n → n < length rows
      → (n < length rows) × (n < length others) × (row_at rows n ≡ row_at others n) × (get_or heights n 0 ≡ get_or other_heights n 0)
  next_same n agree hn =
      let one = later_row names params proper rows others heights other_heights plain other_plain n agree hn (over n hn) in
      let there : n < length others = omega (arith, one.1, one.2) in
      let two = later_row names params proper others rows other_heights heights other_plain plain n (agree_turned rows others heights other_heights n agree) there (back n there) in
      let same = meeting names params rows others heights other_heights plain other_plain n agree hn there two.0 one.0 two.1 two.2 one.1 one.2 one.3 two.3 in
      (hn, there, same, same_height names params rows others heights other_heights plain other_plain n agree hn there same)

  agree_all : (n : ℕ) → n ≤ length rows → Agree rows others heights other_heights n
  agree_all zero l k h = absurd (omega (arith, h))
  agree_all (suc n) l k h = go (agree_all n (omega (arith, l))) (cases_lt k n)
    where
      go : Agree rows others heights other_heights n → (k < n) ⊎ (n ≤ k)
          → (k < length rows) × (k < length others) × (row_at rows k ≡ row_at others k) × (get_or heights k 0 ≡ get_or other_heights k 0)
      go agree (inl m) = agree k m
      go agree (inr m) =
          let e : n ≡ k = omega (arith, h, m) in
          subst (λ z. (z < length rows) × (z < length others) × (row_at rows z ≡ row_at others z) × (get_or heights z 0 ≡ get_or other_heights z 0)) e (next_same n agree (omega (arith, l)))

  pub no_longer : length rows ≤ length others
  no_longer = go (cases_lt (length others) (length rows))
    where
      go : (length others < length rows) ⊎ (length rows ≤ length others) → length rows ≤ length others
      go (inl l) = let here = (agree_all (length rows) (omega arith) (length others) l).1 in omega (arith, here)
      go (inr l) = l

  pub same_at : (i : ℕ) → i < length rows → row_at rows i ≡ row_at others i
  same_at i h = (agree_all (length rows) (omega arith) i h).2

-- tables of which each row has one of the other with its behaviours have the same rows
pub one_list : (names : List (List ℕ)) (params : List (Name × Kind)) → IsProper params → (rows others : List TableRow) (heights other_heights : List ℕ)
    → IsPlain names params rows heights → IsPlain names params others other_heights
    → ((i : ℕ) → i < length rows → Meets params rows others i) → ((j : ℕ) → j < length others → Meets params others rows j) → rows ≡ others
one_list names params proper rows others heights other_heights plain other_plain over back =
    let l = no_longer names params proper rows others heights other_heights plain other_plain over back in
    let m = no_longer names params proper others rows other_heights heights other_plain plain back over in
    same_rows rows others (omega (arith, l, m)) (same_at names params proper rows others heights other_heights plain other_plain over back)

-- ---- each row is reached
module _ (names : List (List ℕ)) (params : List (Name × Kind)) (rows others : List TableRow) (heights other_heights : List ℕ)
    (plain : IsPlain names params rows heights) (other_plain : IsPlain names params others other_heights)
    (states : List ℕ) (first : (s : ℕ) → In s states → Meets params rows others s) where
  named_met : (k : ℕ) → list_any (λ s. s == k) states ≡ true → Meets params rows others k
  named_met k h = let found = any_in (λ s. s == k) states h in subst (Meets params rows others) (eqb-true found.0 k found.2) (first found.0 found.1)

  offer_met : (n : ℕ) → n < length rows → Meets params rows others n → (k : ℕ) → list_any (λ (o : Event × ℕ). o.1 == k) (row_at rows n).offers ≡ true → Meets params rows others k
  offer_met n hn (j, hj, alike) k h =
      let found = any_in (λ (o : Event × ℕ). o.1 == k) (row_at rows n).offers h in
      let behind = behind_offer names params rows others heights other_heights plain other_plain n j hn hj alike found.0 found.1 in
      let lower = offer_form names params others rows other_heights heights other_plain plain j hj (found.0.0, behind.0) behind.1 in
      subst (Meets params rows others) (eqb-true found.0.1 k found.2) (behind.0, omega (arith, hj, lower.1), behind.2)

  reached_met : (list : List TableRow) (n : ℕ) → ((i : ℕ) → i < length list → (n + i < length rows) × (row_at list i ≡ row_at rows (n + i)))
      → (k : ℕ) → reached (λ i. list_any (λ s. s == i) states) n list k ≡ true → Meets params rows others k
  unfolding reached
  reached_met [] n at k h = named_met k h
  reached_met (row ∷ list) n at k h =
      go (λ i l. let here = at (suc i) (omega (arith, l)) in (omega (arith, here.0), here.1 ∙ ap (row_at rows) (omega arith)))
      (or_cases (reached (λ i. list_any (λ s. s == i) states) (n + 1) list k) (reached (λ i. list_any (λ s. s == i) states) (n + 1) list n && list_any (λ o. o.1 == k) row.offers) h)
      (reached_met list (n + 1))
    where
      go : ((i : ℕ) → i < length list → (n + 1 + i < length rows) × (row_at list i ≡ row_at rows (n + 1 + i)))
          → (reached (λ i. list_any (λ s. s == i) states) (n + 1) list k ≡ true) ⊎ ((reached (λ i. list_any (λ s. s == i) states) (n + 1) list n && list_any (λ (o : Event × ℕ). o.1 == k) row.offers) ≡ true)
          → (((i : ℕ) → i < length list → (n + 1 + i < length rows) × (row_at list i ≡ row_at rows (n + 1 + i))) → (m : ℕ) → reached (λ i. list_any (λ s. s == i) states) (n + 1) list m ≡ true → Meets params rows others m)
          → Meets params rows others k
      go rest (inl r) ih = ih rest k r
      go rest (inr b) ih =
          let parts = and_parts (reached (λ i. list_any (λ s. s == i) states) (n + 1) list n) (list_any (λ (o : Event × ℕ). o.1 == k) row.offers) b in
          let here = at 0 (omega arith) in
          let hn : n < length rows = omega (arith, here.0) in
          let is : row ≡ row_at rows n = here.1 ∙ ap (row_at rows) (omega arith) in
          offer_met n hn (ih rest n parts.0) k (subst (λ (r : TableRow). list_any (λ (o : Event × ℕ). o.1 == k) r.offers ≡ true) is parts.1)

  pub all_met : ((i : ℕ) → i < length rows → is_reached rows states i ≡ true) → (i : ℕ) → i < length rows → Meets params rows others i
  all_met h i l = reached_met rows 0 (λ j m. (omega (arith, m), ap (row_at rows) (omega arith))) i (h i l)
