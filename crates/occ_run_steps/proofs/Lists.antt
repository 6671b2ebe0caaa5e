-- Members of lists of steps.
use Rattle.occ_run_steps.specs.Step.{Step, meet, meetings, joint}
use Rattle.std.proofs.Common.{Bool, List, [], false, inl, inr, map, refl, subst, true, ℕ, ◌++◌, ◌+◌, ◌<◌, ◌∷◌, ◌≡◌, ◌⊎◌, ◌≤◌, if◌then◌else◌, zero, suc, arith}
use Rattle.occ_meaning.proofs.Facts.{false_not_true}
use Rattle.std.proofs.lemmas.Bool.Decides.{eqb_tells}
use Rattle.std.specs.List.{filter, range_with_len}

-- a member of a list
pub data Is {A : Type 0} (k : A) : List A → Type 0 where
  first : {ks : List A} → Is k (k ∷ ks)
  later : {j : A} {ks : List A} → Is k ks → Is k (j ∷ ks)

-- a member of the first of two lists
pub is_left : {A : Type 0} (k : A) (ks ls : List A) → Is k ks → Is k (ks ++ ls)
is_left k (j ∷ ks) ls first = first
is_left k (j ∷ ks) ls (later i) = later (is_left k ks ls i)
is_left k [] ls i = elim i [ ]

-- a member of the second
pub is_right : {A : Type 0} (k : A) (ks ls : List A) → Is k ls → Is k (ks ++ ls)
is_right k [] ls i = i
is_right k (j ∷ ks) ls i = later (is_right k ks ls i)

-- a member of two lists is one of either
pub is_either : {A : Type 0} (k : A) (ks ls : List A) → Is k (ks ++ ls) → Is k ks ⊎ Is k ls
is_either k [] ls i = inr i
is_either k (j ∷ ks) ls first = inl first
is_either k (j ∷ ks) ls (later i) = elim (is_either k ks ls i) [ inl h ↦ inl (later h) | inr h ↦ inr h ]

-- what f makes of a member is a member
pub is_mapped : {A B : Type 0} (f : A → B) (k : A) (ks : List A) → Is k ks → Is (f k) (map f ks)
is_mapped f k (j ∷ ks) first = first
is_mapped f k (j ∷ ks) (later i) = later (is_mapped f k ks i)
is_mapped f k [] i = elim i [ ]

-- and each comes of a member
pub mapped_is : {A B : Type 0} (f : A → B) (j : B) (ks : List A) → Is j (map f ks) → (k : A) × Is k ks × (j ≡ f k)
mapped_is f j [] i = elim i [ ]
mapped_is f j (k ∷ ks) first = (k, first, refl)
mapped_is f j (k ∷ ks) (later i) = let h = mapped_is f j ks i in (h.0, later h.1, h.2)

filter_first : {A : Type 0} (b : Bool) (k : A) (ks : List A) → b ≡ true → Is k (if b then k ∷ ks else ks)
filter_first true k ks h = first
filter_first false k ks h = false_not_true h

filter_later : {A : Type 0} (b : Bool) (k j : A) (ks : List A) → Is k ks → Is k (if b then j ∷ ks else ks)
filter_later true k j ks h = later h
filter_later false k j ks h = h

-- a member that passes the test stays
pub is_filtered : {A : Type 0} (p : A → Bool) (k : A) (ks : List A) → Is k ks → p k ≡ true → Is k (filter p ks)
is_filtered p k (j ∷ ks) first h = filter_first (p k) k (filter p ks) h
is_filtered p k (j ∷ ks) (later i) h = filter_later (p j) k j (filter p ks) (is_filtered p k ks i h)
is_filtered p k [] i h = elim i [ ]

filter_case : {A : Type 0} (p : A → Bool) (b : Bool) (k j : A) (ks : List A) → p j ≡ b → (Is k (filter p ks) → Is k ks × (p k ≡ true))
    → Is k (if b then j ∷ filter p ks else filter p ks) → Is k (j ∷ ks) × (p k ≡ true)
filter_case p true k j ks e ih first = (first, e)
filter_case p true k j ks e ih (later i) = (later (ih i).0, (ih i).1)
filter_case p false k j ks e ih i = (later (ih i).0, (ih i).1)

-- and each that stays is one that passes
pub filtered_is : {A : Type 0} (p : A → Bool) (k : A) (ks : List A) → Is k (filter p ks) → Is k ks × (p k ≡ true)
filtered_is p k [] i = elim i [ ]
filtered_is p k (j ∷ ks) i = filter_case p (p j) k j ks refl (filtered_is p k ks) i

-- two that meet have their joint step
pub is_meeting : {A B : Type 0} (k : Step A) (l : Step B) (ks : List (Step A)) (ls : List (Step B)) → Is k ks → Is l ls → meet k l ≡ true
    → Is (joint k l) (meetings ks ls)
is_meeting k l (j ∷ ks) ls first i h =
    is_left (joint k l) (map (joint k) (filter (meet k) ls)) (meetings ks ls) (is_mapped (joint k) l (filter (meet k) ls) (is_filtered (meet k) l ls i h))
is_meeting k l (j ∷ ks) ls (later i0) i h =
    is_right (joint k l) (map (joint j) (filter (meet j) ls)) (meetings ks ls) (is_meeting k l ks ls i0 i h)
is_meeting k l [] ls i0 i h = elim i0 [ ]

-- the two of a joint step
pub record Meeting {A B : Type 0} (j : Step (A × B)) (ks : List (Step A)) (ls : List (Step B)) : Type 0 where
  pub one : Step A
  pub other : Step B
  pub of_one : Is one ks
  pub of_other : Is other ls
  pub meets : meet one other ≡ true
  pub both : j ≡ joint one other

-- each joint step is of two that meet
pub meeting_is : {A B : Type 0} (j : Step (A × B)) (ks : List (Step A)) (ls : List (Step B)) → Is j (meetings ks ls) → Meeting j ks ls
meeting_is j [] ls i = elim i [ ]
meeting_is j (k ∷ ks) ls i = elim (is_either j (map (joint k) (filter (meet k) ls)) (meetings ks ls) i) [
  | inl h ↦ (let m = mapped_is (joint k) j (filter (meet k) ls) h in
      let f = filtered_is (meet k) m.0 ls m.1 in
      record { one = k; other = m.0; of_one = first; of_other = f.0; meets = f.1; both = m.2 })
  | inr h ↦ (let m = meeting_is j ks ls h in
      record { one = m.one; other = m.other; of_one = later m.of_one; of_other = m.of_other; meets = m.meets; both = m.both })
]

-- ---- numbers from one on

range_split : (a v : ℕ) → a ≤ v → (a ≡ v) ⊎ (a + 1 ≤ v)
range_split a v low = elim (eqb_tells a v) [ inl k ↦ inl k.1 | inr k ↦ inr (let off : a ≡ v → ⊥ = k.1 in omega arith) ]

-- a number between two bounds is in their list
pub is_in_range : (a n v : ℕ) → a ≤ v → v < a + n → Is v (range_with_len a n)
is_in_range a zero v low high = absurd (omega arith)
is_in_range a (suc n) v low high = elim (range_split a v low) [
  | inl e ↦ (let P : ℕ → Type 0 = λ z. Is z (a ∷ range_with_len (a + 1) n) in subst P e first)
  | inr h ↦ later (is_in_range (a + 1) n v h (omega arith))
]

-- and each of the list is below the upper bound
pub range_is : (a n v : ℕ) → Is v (range_with_len a n) → v < a + n
range_is a zero v i = elim i [ ]
range_is a (suc n) v first = omega arith
range_is a (suc n) v (later i) = let h = range_is (a + 1) n v i in omega arith
