-- Sets that are told by what they are within: the least acceptances of a row.
use Rattle.std.proofs.Common.{◌≡◌, ℕ, ◌+◌, ◌<◌, ◌≤◌, Bool, true, false, not, ◌&&◌, ◌==◌, List, [], ◌∷◌, length, refl, sym, ap, ◌∙◌, subst, inl, inr, ◌⊎◌, arith}
use Rattle.std.proofs.lemmas.Bool.{and_from, and_parts, false≢true, lt-ltb, leb-true, eqb-true, eq-eqb, cases_lt, cases_Bool, both_ways}
use Rattle.std.specs.List.{list_all, list_any, AllByRecursion}
use Rattle.occ_lex.specs.occ_base.declared.event.Event.{Event}
use Rattle.occ_lex.specs.occ_base.declared.names.Name.{Name}
use Rattle.occ_syntax.specs.declared.scope.Kind.{Kind}
use Rattle.occ_syntax.specs.Scopes.{EventSet, environment, in_interface}
use Rattle.occ_nform_table.specs.Lines.{rank, is_rising}
use Rattle.occ_nform_table.specs.Judging.{has_event, contains}
use Rattle.occ_nform_table.proofs.Lists.{In, any_in, in_any, in_all, test_in, test_all}
use Rattle.occ_nform_table.proofs.Events.{IsProper, same_rank}

module _ (params : List (Name × Kind)) (proper : IsProper params) where
  -- an event of a set
  pub ranked : (set : List Event) (e : Event) → has_event params set e ≡ true → (f : Event) × In f set × (rank params e ≡ rank params f)
  ranked set e h = let found = any_in (λ f. rank params e == rank params f) set h in (found.0, found.1, eqb-true (rank params e) (rank params found.0) found.2)

  within_ranked : (set : List Event) (e f : Event) → In f set → rank params e ≡ rank params f → has_event params set e ≡ true
  within_ranked set e f k r = in_any (λ g. rank params e == rank params g) set f k (eq-eqb (rank params e) (rank params f) r)

  pub within_onward : (a b c : List Event) → list_all (has_event params b) a ≡ true → list_all (has_event params c) b ≡ true → list_all (has_event params c) a ≡ true
  within_onward a b c h k = test_all (has_event params c) a (λ e u.
      let one = ranked b e (test_in (has_event params b) a e h u) in
      let two = ranked c one.0 (test_in (has_event params c) b one.0 k one.1) in
      within_ranked c e two.0 two.1 (one.2 ∙ two.2))

  -- the later events of a set have greater ranks
  rising_in : (floor : ℕ) (set : List Event) → is_rising params floor set ≡ true → (e : Event) → In e set → floor ≤ rank params e
  unfolding is_rising
  rising_in floor [] h e k = absurd k
  rising_in floor (f ∷ set) h e (inl is) = subst (λ g. floor ≤ rank params g) (sym is) (leb-true floor (rank params f) (and_parts _ _ h).0)
  rising_in floor (f ∷ set) h e (inr k) =
      let both = and_parts _ _ h in
      let here = leb-true floor (rank params f) both.0 in
      let there = rising_in (rank params f + 1) set both.1 e k in
      omega (arith, here, there)

  behind : (floor : ℕ) (e : Event) (set : List Event) → is_rising params floor (e ∷ set) ≡ true → is_rising params (rank params e + 1) set ≡ true
  unfolding is_rising
  behind floor e set h = (and_parts _ _ h).1

  -- The events of such a set that lies within another one are no more than those of the other, and all of them where they are as many.
  abbrev NoMore : List Event → List Event → Type 0
  NoMore a b = (length a ≤ length b) × (length b ≤ length a → a ≡ b)

  no_more : (below above : ℕ) (a b : List Event) → list_all (in_interface (environment params)) a ≡ true → list_all (in_interface (environment params)) b ≡ true
      → is_rising params below a ≡ true → is_rising params above b ≡ true → ((e : Event) → In e a → In e b) → NoMore a b
  no_more below above [] [] ha hb ra rb f = (omega arith, λ l. refl)
  no_more below above [] (y ∷ b) ha hb ra rb f = (omega arith, λ l. absurd (omega (arith, l)))
  no_more below above (x ∷ a) [] ha hb ra rb f = absurd (f x (inl refl))
  no_more below above (x ∷ a) (y ∷ b) ha hb ra rb f =
      go (f x (inl refl))
      (λ e. no_more (rank params x + 1) (rank params y + 1) a b (and_parts _ _ ha).1 (and_parts _ _ hb).1 (behind below x a ra) (behind above y b rb)
      (λ z u. later z e (rising_in (rank params x + 1) a (behind below x a ra) z u) (f z (inr u))))
      (λ u. no_more below (rank params y + 1) (x ∷ a) b ha (and_parts _ _ hb).1 ra (behind above y b rb)
      (λ z v. beyond z (rising_in (rank params y + 1) b (behind above y b rb) x u) v (f z v)))
    where
      later : (z : Event) → x ≡ y → rank params x + 1 ≤ rank params z → (z ≡ y) ⊎ In z b → In z b
      later z e l (inl is) = absurd (omega (arith, l, ap (rank params) (is ∙ sym e)))
      later z e l (inr u) = u

      first : (z : Event) → In z (x ∷ a) → rank params x ≤ rank params z
      first z (inl is) = omega (arith, ap (rank params) is)
      first z (inr u) = omega (arith, rising_in (rank params x + 1) a (behind below x a ra) z u)

      beyond : (z : Event) → rank params y + 1 ≤ rank params x → In z (x ∷ a) → (z ≡ y) ⊎ In z b → In z b
      beyond z l v (inl is) = absurd (omega (arith, l, first z v, ap (rank params) is))
      beyond z l v (inr u) = u

      go : (x ≡ y) ⊎ In x b → (x ≡ y → NoMore a b) → (In x b → NoMore (x ∷ a) b) → NoMore (x ∷ a) (y ∷ b)
      go (inl e) one two = let k = one e in (omega (arith, k.0), λ l. let rest = k.1 (omega (arith, l)) in λ i. e i ∷ rest i)
      go (inr u) one two = let k = two u in (omega (arith, k.0), λ l. absurd (omega (arith, k.0, l)))

  module _ (a b : List Event) (ha : list_all (in_interface (environment params)) a ≡ true) (hb : list_all (in_interface (environment params)) b ≡ true)
      (ra : is_rising params 0 a ≡ true) (rb : is_rising params 0 b ≡ true) where
    same_members : list_all (has_event params b) a ≡ true → (e : Event) → In e a → In e b
    same_members h e u =
        let found = ranked b e (test_in (has_event params b) a e h u) in
        subst (λ g. In g b) (sym (same_rank params proper e found.0 (test_in (in_interface (environment params)) a e ha u) (test_in (in_interface (environment params)) b found.0 hb found.1) found.2)) found.1

    -- a set that lies within another is it, unless the other contains it
    pub is_whole : list_all (has_event params b) a ≡ true → contains params b a ≡ false → a ≡ b
    is_whole h least = go (cases_lt (length a) (length b))
      where
        go : (length a < length b) ⊎ (length b ≤ length a) → a ≡ b
        go (inl l) = absurd (both_ways (contains params b a) least (and_from _ _ (lt-ltb (length a) (length b) l) h))
        go (inr l) = (no_more 0 0 a b ha hb ra rb (same_members h)).1 l

  -- sets that lie within each other are one
  same_sets : (a b : List Event) → list_all (in_interface (environment params)) a ≡ true → list_all (in_interface (environment params)) b ≡ true
      → is_rising params 0 a ≡ true → is_rising params 0 b ≡ true → list_all (has_event params b) a ≡ true → list_all (has_event params a) b ≡ true → a ≡ b
  same_sets a b ha hb ra rb h k =
      (no_more 0 0 a b ha hb ra rb (same_members a b ha hb ra rb h)).1 (no_more 0 0 b a hb ha rb ra (same_members b a hb ha rb ra k)).0

  -- ---- acceptances
  abbrev AreSets : List (List Event) → Type 0
  AreSets sets = AllByRecursion (λ set. (list_all (in_interface (environment params)) set ≡ true) × (is_rising params 0 set ≡ true)) sets

  abbrev pub refuses : List (List Event) → EventSet → Bool
  refuses sets X = list_any (list_all (λ e. not (X e))) sets

  abbrev pub outside : List Event → EventSet
  outside set = λ e. in_interface (environment params) e && not (has_event params set e)

  -- a row can refuse all of the interface outside a set exactly where an acceptance lies within it
  pub refuse_outside : (set : List Event) (sets : List (List Event)) (a : List Event) → In a sets → list_all (has_event params set) a ≡ true → refuses sets (outside set) ≡ true
  refuse_outside set sets a u h = in_any (list_all (λ e. not (outside set e))) sets a u (test_all (λ e. not (outside set e)) a (λ e v. go (in_interface (environment params) e) (has_event params set e) (test_in (has_event params set) a e h v)))
    where
      go : (s t : Bool) → t ≡ true → not (s && not t) ≡ true
      go true true e = refl
      go true false e = e
      go false t e = refl

  refused_outside : (set : List Event) (sets : List (List Event)) → AreSets sets → refuses sets (outside set) ≡ true → (a : List Event) × In a sets × (list_all (has_event params set) a ≡ true)
  refused_outside set sets forms h =
      let found = any_in (list_all (λ e. not (outside set e))) sets h in (
        found.0,
        found.1,
        test_all (has_event params set) found.0 (λ e v.
            go (in_interface (environment params) e) (has_event params set e) (test_in _ found.0 e (in_all (λ s. (list_all (in_interface (environment params)) s ≡ true) × (is_rising params 0 s ≡ true)) sets found.0 forms found.1).0 v)
            (test_in (λ g. not (outside set g)) found.0 e found.2 v)),
      )
    where
      go : (s t : Bool) → s ≡ true → not (s && not t) ≡ true → t ≡ true
      go true true e k = refl
      go true false e k = k
      go false t e k = absurd (false≢true e)

  pub within_itself : (set : List Event) → list_all (has_event params set) set ≡ true
  within_itself set = test_all (has_event params set) set (λ e u. within_ranked set e e u refl)

  -- lists of sets of which none contains another, and by which the same is refused, have the same sets
  pub same_acceptance : (sets others : List (List Event)) → AreSets sets → AreSets others
      → ((set : List Event) → In set sets → list_any (contains params set) sets ≡ false)
      → ((X : EventSet) → ((e : Event) → X e ≡ true → in_interface (environment params) e ≡ true) → refuses sets X ≡ refuses others X)
      → (set : List Event) → In set sets → In set others
  same_acceptance sets others forms other_forms least same set u =
      let within : (e : Event) → outside set e ≡ true → in_interface (environment params) e ≡ true = λ e k. (and_parts _ _ k).0 in
      let one = refused_outside set others other_forms (sym (same (outside set) within) ∙ refuse_outside set sets set u (within_itself set)) in
      let inner : (e : Event) → outside one.0 e ≡ true → in_interface (environment params) e ≡ true = λ e k. (and_parts _ _ k).0 in
      let two = refused_outside one.0 sets forms (same (outside one.0) inner ∙ refuse_outside one.0 others one.0 one.1 (within_itself one.0)) in
      let form = in_all (λ s. (list_all (in_interface (environment params)) s ≡ true) × (is_rising params 0 s ≡ true)) in
      let own = form sets set forms u in
      let other = form others one.0 other_forms one.1 in
      let lower = form sets two.0 forms two.1 in
      let is : two.0 ≡ set = is_whole two.0 set lower.0 own.0 lower.1 own.1 (within_onward two.0 one.0 set two.2 one.2) (apart set two.0 u two.1) in
      let back : list_all (has_event params one.0) set ≡ true = subst (λ s. list_all (has_event params one.0) s ≡ true) is two.2 in
      subst (λ s. In s others) (same_sets one.0 set other.0 own.0 other.1 own.1 one.2 back) one.1
    where
      apart : (a b : List Event) → In a sets → In b sets → contains params a b ≡ false
      apart a b v w = go (cases_Bool (contains params a b))
        where
          go : (contains params a b ≡ true) ⊎ (contains params a b ≡ false) → contains params a b ≡ false
          go (inl e) = absurd (both_ways (list_any (contains params a) sets) (least a v) (in_any (contains params a) sets b w e))
          go (inr e) = e
