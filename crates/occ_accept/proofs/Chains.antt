use Rattle.std.proofs.Common.{◌≡◌, ◌||◌, ◌&&◌, ℕ, zero, suc, ◌+◌, ◌<◌, ◌≤◌, length, get_or, Bool, true, false, not, cond, List, [], ◌∷◌, take, refl, sym, ap, ◌∙◌, ⊎_elim, arith}
use Rattle.std.proofs.lemmas.List.Folds.{list_any_more}
use Rattle.std.proofs.lemmas.Bool.{and_parts, and_from, or_cases, or_parts, or_left, or_right, cases_Bool, both_ways, false≢true, not-true, not_from_false, cond_both}
use Rattle.std.specs.List.{list_all, list_any, filter, insert, prefix_len}
use Rattle.std.specs.Cmp.Lexicographic.{slice_cmp}
use Rattle.std.specs.Ordering.{is_lt, eq_by_cmp}
use Rattle.occ_base.specs.declared.event.Event.{Event}
use Rattle.occ_base.specs.declared.names.Name.{Name}
use Rattle.occ_accept.specs.Order.{event_cmp, strict, is_in}
use Rattle.occ_accept.specs.Accept.{in_set, is_part, misses, refuses, in_some, are_apart, all_apart, IsAntichain, is_unmatched, refuses_both, is_on, IsTold}
use Rattle.occ_accept.proofs.Strict.{all_same, any_same, all_more, any_more, all_filter, all_kept, any_filter, any_insert, all_insert, tied_same, all_at, any_at, all_each, any_one, same_strict, same_tests, strict_filter, strict_insert, or_skip}
use Rattle.occ_accept.proofs.Events.{cmp_total, event_exact, sets_total, set_exact}

-- the set is in the list of sets
abbrev pub has_set : List (List Event) → List Event → Bool
has_set = is_in (slice_cmp event_cmp)

twice : (b : Bool) → not (not b) ≡ b
twice true = refl
twice false = refl

not_both : (b : Bool) → not b ≡ true → b ≡ true → ⊥
not_both b h k = both_ways b (not-true b h) k

-- ---- parts
pub part_refl : (a : List Event) → is_part a a ≡ true
part_refl a = all_each cmp_total event_exact (in_set a) a (λ e h. h)

pub part_at : (a b : List Event) (e : Event) → is_part a b ≡ true → in_set a e ≡ true → in_set b e ≡ true
part_at a b e h k = all_at cmp_total event_exact (in_set b) a e h k

pub part_trans : (a b c : List Event) → is_part a b ≡ true → is_part b c ≡ true → is_part a c ≡ true
part_trans a b c h k = all_more (in_set b) (in_set c) (λ e m. part_at b c e k m) a h

pub part_misses : (X : Event → Bool) (a b : List Event) → is_part a b ≡ true → misses X b ≡ true → misses X a ≡ true
part_misses X a b h k = all_more (in_set b) (λ e. not (X e)) (λ e m. all_at cmp_total event_exact (λ e. not (X e)) b e k m) a h

-- what lies within a set misses all that is outside
pub misses_outside : (a b : List Event) → misses (λ e. not (in_set a e)) b ≡ is_part b a
misses_outside a b = all_same (λ e. not (not (in_set a e))) (in_set a) (λ e. twice (in_set a e)) b

both_parts : (a b : List Event) → strict event_cmp a ≡ true → strict event_cmp b ≡ true → is_part a b ≡ true → is_part b a ≡ true → a ≡ b
both_parts a b p q h k = same_strict cmp_total event_exact a b p q (λ e. same_tests (in_set a e) (in_set b e) (part_at a b e h) (part_at b a e k))

-- ---- sets of an antichain
apart_at : (x : List Event) (sets : List (List Event)) (c : List Event) → list_all (are_apart x) sets ≡ true → has_set sets c ≡ true → (not (is_part x c) ≡ true) × (not (is_part c x) ≡ true)
apart_at x sets c h k = and_parts (not (is_part x c)) (not (is_part c x)) (all_at sets_total set_exact (are_apart x) sets c h k)

-- no set of an antichain is a part of another
pub apart_same : (sets : List (List Event)) (a c : List Event) → all_apart sets ≡ true → has_set sets a ≡ true → has_set sets c ≡ true → is_part c a ≡ true → c ≡ a
apart_same [] a c p h k m = absurd (false≢true h)
apart_same (x ∷ sets) a c p h k m =
    let q = and_parts (list_all (are_apart x) sets) (all_apart sets) p in
    ⊎_elim
    (λ (s : eq_by_cmp (slice_cmp event_cmp) a x ≡ true).
    let same : a ≡ x = tied_same sets_total set_exact a x s in
    ⊎_elim
    (λ (t : eq_by_cmp (slice_cmp event_cmp) c x ≡ true). tied_same sets_total set_exact c x t ∙ sym same)
    (λ (t : has_set sets c ≡ true). absurd (not_both (is_part c x) (apart_at x sets c q.0 t).1 (ap (is_part c) (sym same) ∙ m)))
    (or_cases (eq_by_cmp (slice_cmp event_cmp) c x) (has_set sets c) k))
    (λ (s : has_set sets a ≡ true). ⊎_elim
    (λ (t : eq_by_cmp (slice_cmp event_cmp) c x ≡ true). absurd (not_both (is_part x a) (apart_at x sets a q.0 s).0 (ap (λ z. is_part z a) (sym (tied_same sets_total set_exact c x t)) ∙ m)))
    (λ (t : has_set sets c ≡ true). apart_same sets a c q.1 s t m)
    (or_cases (eq_by_cmp (slice_cmp event_cmp) c x) (has_set sets c) k))
    (or_cases (eq_by_cmp (slice_cmp event_cmp) a x) (has_set sets a) h)

-- each set of an antichain has a part in one that refuses the same
told_part : (r s : List (List Event)) (a : List Event) → ((X : Event → Bool) → refuses r X ≡ refuses s X) → has_set r a ≡ true
    → (b : List Event) × (has_set s b ≡ true) × (is_part b a ≡ true)
told_part r s a h k =
    let X : Event → Bool = λ e. not (in_set a e) in
    let there : refuses r X ≡ true = any_at sets_total set_exact (misses X) r a k (misses_outside a a ∙ part_refl a) in
    let w = any_one sets_total set_exact (misses X) s (sym (h X) ∙ there) in
    (w.0, w.1, sym (misses_outside a w.0) ∙ w.2)

told_in : (r s : List (List Event)) → IsAntichain r → IsAntichain s → ((X : Event → Bool) → refuses r X ≡ refuses s X) → (a : List Event) → has_set r a ≡ true → has_set s a ≡ true
told_in r s p q h a k =
    let w = told_part r s a h k in
    let v = told_part s r w.0 (λ X. sym (h X)) w.1 in
    let same : v.0 ≡ a = apart_same r a v.0 p.apart k v.1 (part_trans v.0 w.0 a v.2 w.2) in
    let back : is_part a w.0 ≡ true = ap (λ z. is_part z w.0) (sym same) ∙ v.2 in
    let equal : a ≡ w.0 = both_parts a w.0 (all_at sets_total set_exact (strict event_cmp) r a p.events k) (all_at sets_total set_exact (strict event_cmp) s w.0 q.events w.1) back w.2 in
    ap (has_set s) equal ∙ w.1

-- antichains that refuse the same are equal
pub same_refusals : (r s : List (List Event)) → IsAntichain r → IsAntichain s → ((X : Event → Bool) → refuses r X ≡ refuses s X) → r ≡ s
same_refusals r s p q h = same_strict sets_total set_exact r s p.increasing q.increasing
    (λ a. same_tests (has_set r a) (has_set s a) (told_in r s p q h a) (told_in s r q p (λ X. sym (h X)) a))

pub told : (r s : List (List Event)) → IsTold r s
told r s = record { one = same_refusals r s }

-- ---- adding a set of which no part is there
module _ (sets : List (List Event)) (set : List Event) where
  abbrev pub left_over : List (List Event)
  left_over = filter (λ kept. not (is_part set kept)) sets

  abbrev pub added : List (List Event)
  added = insert left_over (prefix_len (λ kept. is_lt (slice_cmp event_cmp kept set)) left_over) set

apart_filter : (p : List Event → Bool) (sets : List (List Event)) → all_apart sets ≡ true → all_apart (filter p sets) ≡ true
apart_filter p [] h = h
apart_filter p (x ∷ sets) h =
    let k = and_parts (list_all (are_apart x) sets) (all_apart sets) h in
    let rest : all_apart (filter p sets) ≡ true = apart_filter p sets k.1 in
    ⊎_elim
    (λ (e : p x ≡ true). ap (λ c. all_apart (cond c (x ∷ filter p sets) (filter p sets))) e ∙ and_from (list_all (are_apart x) (filter p sets)) (all_apart (filter p sets)) (all_filter (are_apart x) p sets k.0) rest)
    (λ (e : p x ≡ false). ap (λ c. all_apart (cond c (x ∷ filter p sets) (filter p sets))) e ∙ rest)
    (cases_Bool (p x))

apart_swap : (a b : List Event) → are_apart a b ≡ true → are_apart b a ≡ true
apart_swap a b h = let k = and_parts (not (is_part a b)) (not (is_part b a)) h in and_from (not (is_part b a)) (not (is_part a b)) k.1 k.0

apart_insert : (sets : List (List Event)) (i : ℕ) (set : List Event) → all_apart sets ≡ true → list_all (are_apart set) sets ≡ true → all_apart (insert sets i set) ≡ true
apart_insert sets zero set h k = and_from (list_all (are_apart set) sets) (all_apart sets) k h
apart_insert [] (suc i) set h k = refl
apart_insert (x ∷ sets) (suc i) set h k =
    let p = and_parts (list_all (are_apart x) sets) (all_apart sets) h in
    let q = and_parts (are_apart set x) (list_all (are_apart set) sets) k in
    and_from (list_all (are_apart x) (insert sets i set)) (all_apart (insert sets i set))
    (all_insert (are_apart x) sets i set ∙ and_from (are_apart x set) (list_all (are_apart x) sets) (apart_swap set x q.0) p.0)
    (apart_insert sets i set p.1 q.1)

-- none of some sets passes
none_all : (p : List Event → Bool) (sets : List (List Event)) → list_any p sets ≡ false → list_all (λ kept. not (p kept)) sets ≡ true
none_all p [] h = refl
none_all p (x ∷ sets) h = let k = or_parts (p x) (list_any p sets) h in and_from (not (p x)) (list_all (λ kept. not (p kept)) sets) (not_from_false (p x) k.0) (none_all p sets k.1)

all_both : (p q : List Event → Bool) (sets : List (List Event)) → list_all p sets ≡ true → list_all q sets ≡ true → list_all (λ x. p x && q x) sets ≡ true
all_both p q [] h k = refl
all_both p q (x ∷ sets) h k =
    let a = and_parts (p x) (list_all p sets) h in
    let b = and_parts (q x) (list_all q sets) k in
    and_from (p x && q x) (list_all (λ x. p x && q x) sets) (and_from (p x) (q x) a.0 b.0) (all_both p q sets a.1 b.1)

module _ (sets : List (List Event)) (set : List Event) (chain : IsAntichain sets) (set_strict : strict event_cmp set ≡ true) (none : list_any (λ kept. is_part kept set) sets ≡ false) where
  left_apart : list_all (are_apart set) (left_over sets set) ≡ true
  left_apart = all_both (λ kept. not (is_part set kept)) (λ kept. not (is_part kept set)) (left_over sets set)
      (all_kept (λ kept. not (is_part set kept)) sets)
      (all_filter (λ kept. not (is_part kept set)) (λ kept. not (is_part set kept)) sets (none_all (λ kept. is_part kept set) sets none))

  new_set : has_set (left_over sets set) set ≡ false
  new_set = ⊎_elim
      (λ (h : has_set (left_over sets set) set ≡ true). absurd (not_both (is_part set set) (apart_at set (left_over sets set) set left_apart h).0 (part_refl set)))
      (λ (h : has_set (left_over sets set) set ≡ false). h)
      (cases_Bool (has_set (left_over sets set) set))

  -- it takes the place of the sets that contain it
  pub added_chain : IsAntichain (added sets set)
  added_chain = record {
    increasing = strict_insert sets_total (left_over sets set) set (strict_filter sets_total (λ kept. not (is_part set kept)) sets chain.increasing) new_set;
    events = all_insert (strict event_cmp) (left_over sets set) (prefix_len (λ kept. is_lt (slice_cmp event_cmp kept set)) (left_over sets set)) set
        ∙ and_from (strict event_cmp set) (list_all (strict event_cmp) (left_over sets set)) set_strict (all_filter (strict event_cmp) (λ kept. not (is_part set kept)) sets chain.events);
    apart = apart_insert (left_over sets set) (prefix_len (λ kept. is_lt (slice_cmp event_cmp kept set)) (left_over sets set)) set (apart_filter (λ kept. not (is_part set kept)) sets chain.apart) left_apart;
  }

-- what is filtered out refuses no more than the set
left_refuses : (sets : List (List Event)) (set : List Event) (X : Event → Bool) → misses X set ≡ false → refuses (left_over sets set) X ≡ refuses sets X
left_refuses sets set X h = any_filter (misses X) (λ kept. not (is_part set kept)) sets
    ∙ any_same (λ kept. misses X kept && not (is_part set kept)) (misses X) (λ kept. same_tests (misses X kept && not (is_part set kept)) (misses X kept)
    (λ k. (and_parts (misses X kept) (not (is_part set kept)) k).0)
    (λ k. and_from (misses X kept) (not (is_part set kept)) k (not_from_false (is_part set kept) (⊎_elim
    (λ (m : is_part set kept ≡ true). absurd (both_ways (misses X set) h (part_misses X set kept m k)))
    (λ (m : is_part set kept ≡ false). m)
    (cases_Bool (is_part set kept)))))) sets

or_true : (b : Bool) → (b || true) ≡ true
or_true true = refl
or_true false = refl

or_false : (b : Bool) → (b || false) ≡ b
or_false true = refl
or_false false = refl

pub added_refuses : (sets : List (List Event)) (set : List Event) (X : Event → Bool) → refuses (added sets set) X ≡ (refuses sets X || misses X set)
added_refuses sets set X = any_insert (misses X) (left_over sets set) (prefix_len (λ kept. is_lt (slice_cmp event_cmp kept set)) (left_over sets set)) set
    ∙ ⊎_elim
    (λ (h : misses X set ≡ true). ap (λ b. b || refuses (left_over sets set) X) h ∙ sym (or_true (refuses sets X)) ∙ ap (λ b. refuses sets X || b) (sym h))
    (λ (h : misses X set ≡ false). or_skip (misses X set) (refuses (left_over sets set) X) h ∙ left_refuses sets set X h ∙ sym (or_false (refuses sets X)) ∙ ap (λ b. refuses sets X || b) (sym h))
    (cases_Bool (misses X set))

pub added_events : (sets : List (List Event)) (set : List Event) (e : Event) → in_some (added sets set) e ≡ true → (in_some sets e || in_set set e) ≡ true
added_events sets set e h = ⊎_elim
    (λ (k : in_set set e ≡ true). or_right (in_some sets e) (in_set set e) k)
    (λ (k : in_some (left_over sets set) e ≡ true). or_left (in_some sets e) (in_set set e)
    (any_more (λ x. in_set x e && not (is_part set x)) (λ x. in_set x e) (λ x m. (and_parts (in_set x e) (not (is_part set x)) m).0) sets (sym (any_filter (λ x. in_set x e) (λ x. not (is_part set x)) sets) ∙ k)))
    (or_cases (in_set set e) (in_some (left_over sets set) e) (sym (any_insert (λ x. in_set x e) (left_over sets set) (prefix_len (λ kept. is_lt (slice_cmp event_cmp kept set)) (left_over sets set)) set) ∙ h))

-- a set of which a part is there refuses no more
pub part_there : (sets : List (List Event)) (set : List Event) (X : Event → Bool) → list_any (λ kept. is_part kept set) sets ≡ true → refuses sets X ≡ (refuses sets X || misses X set)
part_there sets set X h = ⊎_elim
    (λ (k : misses X set ≡ true).
    let there : refuses sets X ≡ true = any_more (λ kept. is_part kept set) (misses X) (λ kept m. part_misses X kept set m k) sets h in
    there ∙ sym (ap (λ b. b || misses X set) there))
    (λ (k : misses X set ≡ false). sym (or_false (refuses sets X)) ∙ ap (λ b. refuses sets X || b) (sym k))
    (cases_Bool (misses X set))

-- ---- sets without a channel
pub misses_without : (chan : Name) (X : Event → Bool) (a : List Event) → misses X (filter (λ e. not (is_on chan e)) a) ≡ misses (λ e. X e && not (is_on chan e)) a
misses_without chan X [] = refl
misses_without chan X (x ∷ a) = let rest : misses X (filter (λ e. not (is_on chan e)) a) ≡ misses (λ e. X e && not (is_on chan e)) a = misses_without chan X a in
    ⊎_elim
    (λ (e : is_on chan x ≡ true). ap (λ b. misses X (cond (not b) (x ∷ filter (λ e. not (is_on chan e)) a) (filter (λ e. not (is_on chan e)) a))) e ∙ rest
    ∙ ap (λ b. b && misses (λ e. X e && not (is_on chan e)) a) (sym (ap (λ b. not (X x && not b)) e ∙ none (X x))))
    (λ (e : is_on chan x ≡ false). ap (λ b. misses X (cond (not b) (x ∷ filter (λ e. not (is_on chan e)) a) (filter (λ e. not (is_on chan e)) a))) e ∙ ap (λ b. not (X x) && b) rest
    ∙ ap (λ b. b && misses (λ e. X e && not (is_on chan e)) a) (sym (ap (λ b. not (X x && not b)) e ∙ one (X x))))
    (cases_Bool (is_on chan x))
  where
    none : (b : Bool) → not (b && false) ≡ true
    none true = refl
    none false = refl

    one : (b : Bool) → not (b && true) ≡ not b
    one true = refl
    one false = refl

-- ---- the union of two sets
pub misses_union : (X : Event → Bool) (a b c : List Event) → ((e : Event) → in_set c e ≡ (in_set a e || in_set b e)) → misses X c ≡ (misses X a && misses X b)
misses_union X a b c h = same_tests (misses X c) (misses X a && misses X b)
    (λ k. and_from (misses X a) (misses X b)
    (all_each cmp_total event_exact (λ e. not (X e)) a (λ e m. all_at cmp_total event_exact (λ e. not (X e)) c e k (h e ∙ or_left (in_set a e) (in_set b e) m)))
    (all_each cmp_total event_exact (λ e. not (X e)) b (λ e m. all_at cmp_total event_exact (λ e. not (X e)) c e k (h e ∙ or_right (in_set a e) (in_set b e) m))))
    (λ k. let p = and_parts (misses X a) (misses X b) k in
    all_each cmp_total event_exact (λ e. not (X e)) c (λ e m. ⊎_elim
    (λ (q : in_set a e ≡ true). all_at cmp_total event_exact (λ e. not (X e)) a e p.0 q)
    (λ (q : in_set b e ≡ true). all_at cmp_total event_exact (λ e. not (X e)) b e p.1 q)
    (or_cases (in_set a e) (in_set b e) (sym (h e) ∙ m))))

-- ---- a list of sets with one more
pub refuses_more : (sets : List (List Event)) (i : ℕ) (x : List Event) (X : Event → Bool) → i < length sets → x ≡ get_or sets i x → refuses (take (i + 1) sets) X ≡ (refuses (take i sets) X || misses X x)
refuses_more sets i x X h is = list_any_more (misses X) sets i x h ∙ ap (λ y. refuses (take i sets) X || misses X y) (sym is)

pub in_some_more : (sets : List (List Event)) (i : ℕ) (x : List Event) (e : Event) → i < length sets → x ≡ get_or sets i x → in_some (take (i + 1) sets) e ≡ (in_some (take i sets) e || in_set x e)
in_some_more sets i x e h is = list_any_more (λ set. in_set set e) sets i x h ∙ ap (λ y. in_some (take i sets) e || in_set y e) (sym is)

in_filter : (chan : Name) (x : List Event) (e : Event) → in_set (filter (λ f. not (is_on chan f)) x) e ≡ true → (in_set x e ≡ true) × (not (is_on chan e) ≡ true)
in_filter chan x e h =
    let k : list_any (λ f. eq_by_cmp event_cmp e f && not (is_on chan f)) x ≡ true = sym (any_filter (eq_by_cmp event_cmp e) (λ f. not (is_on chan f)) x) ∙ h in
    let w = any_one cmp_total event_exact (λ f. eq_by_cmp event_cmp e f && not (is_on chan f)) x k in
    let p = and_parts (eq_by_cmp event_cmp e w.0) (not (is_on chan w.0)) w.2 in
    let same : e ≡ w.0 = tied_same cmp_total event_exact e w.0 p.0 in
    (ap (in_set x) same ∙ w.1, ap (λ f. not (is_on chan f)) same ∙ p.1)

-- a step of taking a channel's events out of each set
pub without_refuses : (chan : Name) (sets chain new : List (List Event)) (i : ℕ) (x left : List Event) → i < length sets → x ≡ get_or sets i x → left ≡ filter (λ e. not (is_on chan e)) x
    → ((X : Event → Bool) → refuses chain X ≡ refuses (take i sets) (λ e. X e && not (is_on chan e)))
    → ((X : Event → Bool) → refuses new X ≡ (refuses chain X || misses X left))
    → (X : Event → Bool) → refuses new X ≡ refuses (take (i + 1) sets) (λ e. X e && not (is_on chan e))
without_refuses chan sets chain new i x left h at is old more X =
    more X ∙ (λ k. old X k || (ap (misses X) is ∙ misses_without chan X x) k) ∙ sym (refuses_more sets i x (λ e. X e && not (is_on chan e)) h at)

pub without_events : (chan : Name) (sets chain new : List (List Event)) (i : ℕ) (x left : List Event) → i < length sets → x ≡ get_or sets i x → left ≡ filter (λ e. not (is_on chan e)) x
    → ((e : Event) → in_some chain e ≡ true → (in_some (take i sets) e && not (is_on chan e)) ≡ true)
    → ((e : Event) → in_some new e ≡ true → (in_some chain e || in_set left e) ≡ true)
    → (e : Event) → in_some new e ≡ true → (in_some (take (i + 1) sets) e && not (is_on chan e)) ≡ true
without_events chan sets chain new i x left h at is old more e k = ⊎_elim
    (λ (m : in_some chain e ≡ true). let p = and_parts (in_some (take i sets) e) (not (is_on chan e)) (old e m) in
    and_from (in_some (take (i + 1) sets) e) (not (is_on chan e)) (in_some_more sets i x e h at ∙ or_left (in_some (take i sets) e) (in_set x e) p.0) p.1)
    (λ (m : in_set left e ≡ true). let p = in_filter chan x e (sym (ap (λ set. in_set set e) is) ∙ m) in
    and_from (in_some (take (i + 1) sets) e) (not (is_on chan e)) (in_some_more sets i x e h at ∙ or_right (in_some (take i sets) e) (in_set x e) p.0) p.1)
    (or_cases (in_some chain e) (in_set left e) (more e k))

pub prefix_within : {A : Type 0} (p : A → Bool) (xs : List A) → prefix_len p xs ≤ length xs
prefix_within p [] = omega arith
prefix_within p (x ∷ xs) = let rest : prefix_len p xs ≤ length xs = prefix_within p xs in
    cond_both (p x) (1 + prefix_len p xs) 0 (λ n. n ≤ suc (length xs)) (λ _. omega arith) (λ _. omega arith)

-- a step of the unions of pairs
pub cross_refuses : (sets others chain new : List (List Event)) (i : ℕ) (x : List Event) → i < length sets → x ≡ get_or sets i x
    → ((X : Event → Bool) → refuses chain X ≡ refuses_both (take i sets) others X)
    → ((X : Event → Bool) → refuses new X ≡ (refuses chain X || list_any (λ b. is_unmatched x b && (misses X x && misses X b)) others))
    → (X : Event → Bool) → refuses new X ≡ refuses_both (take (i + 1) sets) others X
cross_refuses sets others chain new i x h at old more X =
    more X ∙ (λ k. old X k || list_any (λ b. is_unmatched (at k) b && (misses X (at k) && misses X b)) others)
    ∙ sym (list_any_more (λ a. list_any (λ b. is_unmatched a b && (misses X a && misses X b)) others) sets i x h)

pub cross_events : (sets others chain new : List (List Event)) (i : ℕ) (x : List Event) → i < length sets → x ≡ get_or sets i x
    → ((e : Event) → in_some chain e ≡ true → (in_some (take i sets) e || in_some others e) ≡ true)
    → ((e : Event) → in_some new e ≡ true → (in_some chain e || (in_set x e || in_some others e)) ≡ true)
    → (e : Event) → in_some new e ≡ true → (in_some (take (i + 1) sets) e || in_some others e) ≡ true
cross_events sets others chain new i x h at old more e k = ⊎_elim
    (λ (m : in_some chain e ≡ true). ⊎_elim
    (λ (n : in_some (take i sets) e ≡ true). or_left (in_some (take (i + 1) sets) e) (in_some others e) (in_some_more sets i x e h at ∙ or_left (in_some (take i sets) e) (in_set x e) n))
    (λ (n : in_some others e ≡ true). or_right (in_some (take (i + 1) sets) e) (in_some others e) n)
    (or_cases (in_some (take i sets) e) (in_some others e) (old e m)))
    (λ (m : (in_set x e || in_some others e) ≡ true). ⊎_elim
    (λ (n : in_set x e ≡ true). or_left (in_some (take (i + 1) sets) e) (in_some others e) (in_some_more sets i x e h at ∙ or_right (in_some (take i sets) e) (in_set x e) n))
    (λ (n : in_some others e ≡ true). or_right (in_some (take (i + 1) sets) e) (in_some others e) n)
    (or_cases (in_set x e) (in_some others e) m))
    (or_cases (in_some chain e) (in_set x e || in_some others e) (more e k))
