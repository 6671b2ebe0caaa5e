-- Sets as lists of ranks, and the marks of their lines.
use Rattle.std.proofs.Common.{◌≡◌, ℕ, zero, suc, ◌+◌, ◌<◌, ◌≤◌, Bool, true, false, not, ◌&&◌, ◌||◌, eqb, ltb, leb, nat_lt, List, [], ◌∷◌, ◌++◌, length, get_or, take, drop, map, Option, Some, None, Result, Ok, Err, Ordering, refl, sym, ap, subst, ◌∙◌, arith}
use Rattle.std.specs.Bool.{◌==◌}
use Rattle.std.specs.List.{list_all, list_any, All}
use Rattle.std.specs.List.Sorted.{IsNonDecreasing, IsPermutation, IsBinarySearchResult}
use Rattle.std.specs.Option.{is_some}
use Rattle.std.specs.Ordering.{is_lt, is_some_and, nat_cmp, MatchOrdering}
use Rattle.std.specs.declared.cmp.Ordering.TheVariants.{Less, Equal, Greater}
use Rattle.std.specs.Cmp.Lexicographic.{slice_partial_cmp}
use Rattle.std.specs.Result.{is_ok, MatchResult}
use Rattle.std.proofs.lemmas.Bool.{lt-ltb, le-ltb, eq-eqb, leb-true, ltb-true, ltb-false, and_parts, eqb-true}
use Rattle.std.proofs.lemmas.Cmp.{same_from_slice_cmp_tested, ranked}
use Rattle.std.proofs.lemmas.List.{drop_more, drop_all, length-map, get_or_default, get_or_read, take_all}
use Rattle.std.proofs.lemmas.List.Elements.{All-cons, All-nil, All-weaker, All-same, All-map, All-more}
use Rattle.std.proofs.lemmas.List.Folds.{list_any_at, list_any_none}
use Rattle.std.proofs.lemmas.List.Sorted.{searched, list_any-IsPermutation}
use Rattle.std.proofs.lemmas.Option.{slice_get-get_or}
use Rattle.occ_syntax.specs.occ_base.declared.event.Event.{Event}
use Rattle.occ_syntax.specs.occ_base.declared.names.Name.{Name}
use Rattle.occ_syntax.specs.declared.scope.Kind.{Kind}
use Rattle.occ_nform_table.specs.declared.table.TableFault.{TableFault}
use Rattle.occ_nform_table.specs.Lines.{rank, is_rising}
use Rattle.occ_nform_table.specs.Judging.{accept_mark, accept_marks, contains, is_offered, follows, set_less, text_less}
use Rattle.occ_nform_table.specs.Normal.{first_mark}
use Rattle.occ_nform_read.specs.Marks.{is_part, is_more, is_least, set_marks, prior, mark_at, mapped}
use Rattle.occ_nform_read.proofs.Faults.{fault_in_front, fine_in_front}

-- ---- numbers in order

less_more : (x y : ℕ) (xs ys : List ℕ) (o : Ordering) → o ≡ nat_cmp x y → MatchOrdering o (text_less (x ∷ xs) (y ∷ ys) ≡ true) (text_less (x ∷ xs) (y ∷ ys) ≡ text_less xs ys) (text_less (x ∷ xs) (y ∷ ys) ≡ false)
unfolding text_less
less_more x y xs ys Less h = ap (λ b. b || (eqb x y && text_less xs ys)) (lt-ltb x y (ranked x y Less h))
less_more x y xs ys Equal h =
    let e : x ≡ y = ranked x y Equal h in
    ap (λ b. b || (eqb x y && text_less xs ys)) (le-ltb x y (omega arith)) ∙ ap (λ b. b && text_less xs ys) (eq-eqb x y e)
less_more x y xs ys Greater h =
    let gt : y < x = ranked x y Greater h in
    ap (λ b. b || (eqb x y && text_less xs ys)) (le-ltb x y (omega arith)) ∙ ap (λ b. b && text_less xs ys) (differ x y gt)
  where
    differ : (x y : ℕ) → y < x → eqb x y ≡ false
    differ x y gt = from (eqb x y) refl
      where
        from : (b : Bool) → eqb x y ≡ b → eqb x y ≡ false
        from true e = let same : x ≡ y = eqb-true x y e in absurd (omega arith)
        from false e = e

pub less_is : (xs ys : List ℕ) (r : Bool) → r ≡ is_some_and is_lt (slice_partial_cmp (λ x y. Some (nat_cmp x y)) xs ys) → r ≡ text_less xs ys
unfolding text_less
less_is = same_from_slice_cmp_tested nat_cmp is_lt text_less refl (λ _ _. refl) (λ _ _. refl) less_more

other_number : (x y : ℕ) → (x ≡ y → ⊥) → eqb x y ≡ false
other_number x y ne = from (eqb x y) refl
  where
    from : (b : Bool) → eqb x y ≡ b → eqb x y ≡ false
    from true e = absurd (ne (eqb-true x y e))
    from false e = e

pub has_is : (xs : List ℕ) (x : ℕ) (r : Result ℕ ℕ) → IsNonDecreasing xs → IsBinarySearchResult (λ y. nat_cmp y x) xs r → is_ok r ≡ list_any (λ m. x == m) xs
has_is xs x r sorted h = from r (searched xs x r h (λ i j le lt. sorted i j 0 le lt))
  where
    from : (r : Result ℕ ℕ) → MatchResult r (λ i. (i < length xs) × (get_or xs i 0 ≡ x)) (λ i. (i ≤ length xs) × ((k : ℕ) → k < i → get_or xs k 0 < x) × ((k : ℕ) → i ≤ k → k < length xs → x < get_or xs k 0)) → is_ok r ≡ list_any (λ m. x == m) xs
    from (Ok i) f = sym (list_any_at (λ m. x == m) xs i 0 f.0 (eq-eqb x (get_or xs i 0) (sym f.1)))
    from (Err i) f = sym (list_any_none (λ m. x == m) xs (λ k d lt. let z : get_or xs k d ≡ get_or xs k 0 = get_or_default xs k d 0 lt in other_number x (get_or xs k d) (λ e. absurd (apart k lt (e ∙ z)))))
      where
        apart : (k : ℕ) → k < length xs → x ≡ get_or xs k 0 → ⊥
        apart k lt e = side (ltb k i) refl
          where
            side : (b : Bool) → ltb k i ≡ b → ⊥
            side true l = let below : get_or xs k 0 < x = f.1 k (ltb-true k i l) in omega arith
            side false l = let above : x < get_or xs k 0 = f.2 k (ltb-false k i l) lt in omega arith

-- ---- ranks

any_same : {B : Type 0} (n : ℕ) (g : B → ℕ) (whole : List B) → list_any (λ o. n == g o) whole ≡ list_any (λ m. n == m) (map g whole)
any_same n g [] = refl
any_same n g (o ∷ whole) = ap (λ b. n == g o || b) (any_same n g whole)

part_same : {A B : Type 0} (f : A → ℕ) (g : B → ℕ) (part : List A) (whole : List B) → list_all (λ e. list_any (λ o. f e == g o) whole) part ≡ is_part (map f part) (map g whole)
part_same f g [] whole = refl
part_same f g (e ∷ part) whole =
    ap (λ b. b && list_all (λ x. list_any (λ o. f x == g o) whole) part) (any_same (f e) g whole)
    ∙ ap (λ b. list_any (λ m. f e == m) (map g whole) && b) (part_same f g part whole)

more_same : (params : List (Name × Kind)) (set other : List Event) → contains params set other ≡ is_more (map (rank params) set) (map (rank params) other)
more_same params set other =
    ap (λ b. nat_lt (length other) (length set) && b) (part_same (rank params) (rank params) other set)
    ∙ ap (λ n. nat_lt n (length set) && is_part (map (rank params) other) (map (rank params) set)) (sym (length-map other (rank params)))
    ∙ ap (λ n. nat_lt (length (map (rank params) other)) n && is_part (map (rank params) other) (map (rank params) set)) (sym (length-map set (rank params)))

any_more_same : (params : List (Name × Kind)) (set : List Event) (all : List (List Event)) → list_any (contains params set) all ≡ list_any (is_more (map (rank params) set)) (map (map (rank params)) all)
any_more_same params set [] = refl
any_more_same params set (other ∷ all) =
    ap (λ b. b || list_any (contains params set) all) (more_same params set other)
    ∙ ap (λ b. is_more (map (rank params) set) (map (rank params) other) || b) (any_more_same params set all)

less_same : (params : List (Name × Kind)) (s t : List Event) → set_less params s t ≡ text_less (map (rank params) s) (map (rank params) t)
unfolding set_less text_less
less_same params [] [] = refl
less_same params [] (f ∷ t) = refl
less_same params (e ∷ s) [] = refl
less_same params (e ∷ s) (f ∷ t) = ap (λ b. nat_lt (rank params e) (rank params f) || (rank params e == rank params f && b)) (less_same params s t)

follows_same : (params : List (Name × Kind)) (before : Option (List Event)) (set : List Event) → follows (set_less params) before set ≡ follows text_less (mapped (map (rank params)) before) (map (rank params) set)
follows_same params None set = refl
follows_same params (Some before) set = less_same params before set

abbrev offered : List (Name × Kind) → List (Event × ℕ) → List ℕ
offered params offers = map (λ (o : Event × ℕ). rank params o.0) offers

least_same : (params : List (Name × Kind)) (offers : List (Event × ℕ)) (all : List (List Event)) (set : List Event)
    → (is_offered params offers set && not (list_any (contains params set) all)) ≡ is_least (offered params offers) (map (map (rank params)) all) (map (rank params) set)
least_same params offers all set =
    ap (λ b. b && not (list_any (contains params set) all)) (part_same (rank params) (λ (o : Event × ℕ). rank params o.0) set offers)
    ∙ ap (λ b. is_part (map (rank params) set) (offered params offers) && not b) (any_more_same params set all)

marks_same : (params : List (Name × Kind)) (offers : List (Event × ℕ)) (all : List (List Event)) (before : Option (List Event)) (sets : List (List Event))
    → accept_marks params offers all before sets ≡ set_marks (offered params offers) (map (map (rank params)) all) (mapped (map (rank params)) before) (map (map (rank params)) sets)
unfolding accept_marks set_marks
marks_same params offers all before [] = refl
marks_same params offers all before (set ∷ sets) =
    ap (λ b. accept_mark b (is_offered params offers set && not (list_any (contains params set) all)) ∷ accept_marks params offers all (Some set) sets) (follows_same params before set)
    ∙ ap (λ b. accept_mark (follows text_less (mapped (map (rank params)) before) (map (rank params) set)) b ∷ accept_marks params offers all (Some set) sets) (least_same params offers all set)
    ∙ ap (λ ms. accept_mark (follows text_less (mapped (map (rank params)) before) (map (rank params) set)) (is_least (offered params offers) (map (map (rank params)) all) (map (rank params) set)) ∷ ms) (marks_same params offers all (Some set) sets)

part_moved : (xs ys part : List ℕ) → IsPermutation xs ys → is_part part xs ≡ is_part part ys
part_moved xs ys [] p = refl
part_moved xs ys (n ∷ part) p =
    ap (λ b. b && is_part part xs) (list_any-IsPermutation (λ m. n == m) xs ys p) ∙ ap (λ b. list_any (λ m. n == m) ys && b) (part_moved xs ys part p)

marks_moved : (xs ys : List ℕ) (all : List (List ℕ)) (before : Option (List ℕ)) (sets : List (List ℕ)) → IsPermutation xs ys → set_marks xs all before sets ≡ set_marks ys all before sets
unfolding set_marks
marks_moved xs ys all before [] p = refl
marks_moved xs ys all before (set ∷ sets) p =
    ap (λ b. accept_mark (follows text_less before set) (b && not (list_any (is_more set) all)) ∷ set_marks xs all (Some set) sets) (part_moved xs ys set p)
    ∙ ap (λ ms. accept_mark (follows text_less before set) (is_least ys all set) ∷ ms) (marks_moved xs ys all (Some set) sets p)

pub accepts_by_ranks : (params : List (Name × Kind)) (offers : List (Event × ℕ)) (accepts : List (List Event)) (xs ys : List ℕ) (sets : List (List ℕ)) → xs ≡ offered params offers → IsPermutation xs ys → sets ≡ map (map (rank params)) accepts
    → set_marks ys sets None sets ≡ accept_marks params offers accepts None accepts
accepts_by_ranks params offers accepts xs ys sets e p s =
    sym (marks_moved xs ys sets None sets p) ∙ ap (λ os. set_marks os sets None sets) e ∙ ap (λ ss. set_marks (offered params offers) ss None ss) s ∙ sym (marks_same params offers accepts None accepts)

pub length_accepts : (params : List (Name × Kind)) (offers : List (Event × ℕ)) (all : List (List Event)) (before : Option (List Event)) (sets : List (List Event)) → length (accept_marks params offers all before sets) ≡ length sets
unfolding accept_marks
length_accepts params offers all before [] = refl
length_accepts params offers all before (set ∷ sets) = ap suc (length_accepts params offers all (Some set) sets)

-- ---- ranks that rise

rising_low : (params : List (Name × Kind)) (floor : ℕ) (set : List Event) → is_rising params floor set ≡ true → All (λ n. floor ≤ n) (map (rank params) set)
unfolding is_rising
rising_low params floor [] h = All-nil (λ n. floor ≤ n)
rising_low params floor (e ∷ set) h =
    let parts = and_parts (leb floor (rank params e)) (is_rising params (rank params e + 1) set) h in
    let low : floor ≤ rank params e = leb-true floor (rank params e) parts.0 in
    All-cons (λ n. floor ≤ n) (rank params e) (map (rank params) set) low
    (All-weaker (λ n. rank params e + 1 ≤ n) (λ n. floor ≤ n) (λ n k. omega arith) (map (rank params) set) (rising_low params (rank params e + 1) set parts.1))

rising_up : (params : List (Name × Kind)) (floor : ℕ) (set : List Event) → is_rising params floor set ≡ true → (i j d : ℕ) → i ≤ j → j < length (map (rank params) set) → get_or (map (rank params) set) i d ≤ get_or (map (rank params) set) j d
unfolding is_rising
rising_up params floor [] h i j d le lt = absurd (omega arith)
rising_up params floor (e ∷ set) h zero zero d le lt = omega arith
rising_up params floor (e ∷ set) h zero (suc j) d le lt =
    let parts = and_parts (leb floor (rank params e)) (is_rising params (rank params e + 1) set) h in
    let short : j < length (map (rank params) set) = omega (arith, lt) in
    let high : rank params e + 1 ≤ get_or (map (rank params) set) j d = rising_low params (rank params e + 1) set parts.1 j d short in
    omega (arith, high)
rising_up params floor (e ∷ set) h (suc i) zero d le lt = absurd (omega arith)
rising_up params floor (e ∷ set) h (suc i) (suc j) d le lt =
    let parts = and_parts (leb floor (rank params e)) (is_rising params (rank params e + 1) set) h in
    rising_up params (rank params e + 1) set parts.1 i j d (omega (arith, le)) (omega (arith, lt))

pub sets_rise : (params : List (Name × Kind)) (accepts : List (List Event)) (sets : List (List ℕ)) → sets ≡ map (map (rank params)) accepts → All (λ set. is_rising params 0 set ≡ true) accepts → All IsNonDecreasing sets
sets_rise params accepts sets e h =
    let P : List ℕ → Type 0 = IsNonDecreasing in
    All-same P sets (map (map (rank params)) accepts) e (All-map P (map (rank params)) accepts (All-weaker (λ set. is_rising params 0 set ≡ true) (λ set. P (map (rank params) set)) (λ set k. rising_up params 0 set k) accepts h))

-- ---- the sets of a row one by one

prior_next : {A : Type 0} (xs : List A) (i : ℕ) (d : A) → i < length xs → prior xs (i + 1) ≡ Some (get_or xs i d)
prior_next xs i d lt = let e : i + 1 ≡ suc i = omega arith in ap (prior xs) e ∙ slice_get-get_or xs i d lt

sets_next : (offers : List ℕ) (all : List (List ℕ)) (i : ℕ) → i < length all → set_marks offers all (prior all i) (drop i all) ≡ (mark_at offers all i ∷ []) ++ set_marks offers all (prior all (i + 1)) (drop (i + 1) all)
unfolding set_marks
sets_next offers all i lt =
    ap (set_marks offers all (prior all i)) (drop_more all i [] lt) ∙ ap (λ b. mark_at offers all i ∷ set_marks offers all b (drop (i + 1) all)) (sym (prior_next all i [] lt))

pub sets_more : (line : ℕ) (offers : List ℕ) (all : List (List ℕ)) (i : ℕ) (whole f : Option TableFault) → i < length all → is_some f ≡ false → f ≡ first_mark (line + i) (mark_at offers all i ∷ [])
    → whole ≡ first_mark (line + i) (set_marks offers all (prior all i) (drop i all)) → whole ≡ first_mark (line + (i + 1)) (set_marks offers all (prior all (i + 1)) (drop (i + 1) all))
sets_more line offers all i whole f lt none h so_far =
    let place : line + (i + 1) ≡ line + i + 1 = omega arith in
    so_far ∙ ap (first_mark (line + i)) (sets_next offers all i lt)
    ∙ sym (fine_in_front (line + i) (line + (i + 1)) (mark_at offers all i ∷ []) (set_marks offers all (prior all (i + 1)) (drop (i + 1) all)) f none h place)

pub sets_stop : (line : ℕ) (offers : List ℕ) (all : List (List ℕ)) (i : ℕ) (whole f : Option TableFault) → i < length all → is_some f ≡ true → f ≡ first_mark (line + i) (mark_at offers all i ∷ [])
    → whole ≡ first_mark (line + i) (set_marks offers all (prior all i) (drop i all)) → f ≡ whole
sets_stop line offers all i whole f lt found h so_far =
    fault_in_front (line + i) (mark_at offers all i ∷ []) (set_marks offers all (prior all (i + 1)) (drop (i + 1) all)) f found h
    ∙ sym (so_far ∙ ap (first_mark (line + i)) (sets_next offers all i lt))

pub sets_end : (line : ℕ) (offers : List ℕ) (all : List (List ℕ)) (i : ℕ) (whole : Option TableFault) → length all ≤ i → whole ≡ first_mark (line + i) (set_marks offers all (prior all i) (drop i all)) → None ≡ whole
unfolding first_mark set_marks
sets_end line offers all i whole le h = sym (h ∙ ap (λ ss. first_mark (line + i) (set_marks offers all (prior all i) ss)) (drop_all i all le))

-- no set is contained in one that is no longer than the shortest
pub none_shorter : (set : List ℕ) (least : ℕ) (sets : List (List ℕ)) → length set ≤ least → All (λ s. least ≤ length s) sets → list_any (is_more set) sets ≡ false
none_shorter set least sets short h =
    list_any_none (is_more set) sets (λ k d lt. let long : least ≤ length (get_or sets k d) = h k d lt in ap (λ b. b && is_part (get_or sets k d) set) (le-ltb (length (get_or sets k d)) (length set) (omega (arith, long, short))))

-- ---- the shortest set

pub shortest_more : (sets : List (List ℕ)) (i least new : ℕ) (set : List ℕ) → i < length sets → set ≡ get_or sets i set → new ≤ least → new ≤ length set → All (λ (s : List ℕ). least ≤ length s) (take i sets) → All (λ (s : List ℕ). new ≤ length s) (take (i + 1) sets)
shortest_more sets i least new set lt e less short h =
    let P : List ℕ → Type 0 = λ s. new ≤ length s in
    All-more P sets i set lt (All-weaker (λ (s : List ℕ). least ≤ length s) P (λ s k. omega (arith, k, less)) (take i sets) h) (subst P e short)

pub shortest_end : (sets : List (List ℕ)) (i least : ℕ) → length sets ≤ i → All (λ (s : List ℕ). least ≤ length s) (take i sets) → All (λ (s : List ℕ). least ≤ length s) sets
shortest_end sets i least le h = subst (λ xs. All (λ (s : List ℕ). least ≤ length s) xs) (take_all i sets le) h

-- ---- the fault of one set

pub set_at : (all : List (List ℕ)) (i : ℕ) (item set : List ℕ) → i < length all → item ≡ get_or all i item → set ≡ item → get_or all i [] ≡ set
set_at all i item set lt e s = sym (s ∙ get_or_read all i item lt e [])

pub mark_is : (line : ℕ) (offers : List ℕ) (all : List (List ℕ)) (i : ℕ) (set : List ℕ) (placed minimal : Bool) (r : Option TableFault) → get_or all i [] ≡ set → placed ≡ follows text_less (prior all i) (get_or all i []) → minimal ≡ is_least offers all set
    → r ≡ first_mark line (accept_mark placed minimal ∷ []) → r ≡ first_mark line (mark_at offers all i ∷ [])
mark_is line offers all i set placed minimal r e p m h =
    h ∙ ap (λ b. first_mark line (accept_mark b minimal ∷ [])) p ∙ ap (λ b. first_mark line (accept_mark (follows text_less (prior all i) (get_or all i [])) b ∷ [])) (m ∙ ap (is_least offers all) (sym e))
