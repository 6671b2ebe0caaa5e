-- Walking from entry to entry of one name finds what a walk along all entries finds.
use Rattle.std.specs.Prelude.{is_some, if◌then◌else◌, nat_lt, ℕ, zero, suc, ◌≡◌, ◌==◌, ◌+◌, ◌-◌, ◌<◌, ◌≤◌, Bool, true, false, ◌&&◌, ◌||◌, List, [], ◌∷◌, Option, Some, None, length, take, drop, get_or}
use Rattle.std.specs.List.{list_any}
use Rattle.std.proofs.Common.{replicate, refl, sym, ap, subst, ◌∙◌, inl, inr, reverse, arith}
use Rattle.std.proofs.lemmas.Bool.{cases_lt, eqb-true, cases_Bool}
use Rattle.std.proofs.lemmas.List.{get_or-replicate, take-take, length-take-le, length-reverse, get_or_past}
use Rattle.occ_parse_forms.specs.declared.form.Declared.{Declared}
use Rattle.occ_parse_forms.specs.declared.form.Declared.TheVariants as declared
use Rattle.occ_parse_rules.specs.declared.sort.Entry.{Entry}
use Rattle.occ_parse_rules.specs.declared.sort.Sort.{Sort}
use Rattle.occ_parse_rules.specs.Places.{Sorts, declares, declares_some, sort_at}
use Rattle.occ_parse_scopes.specs.declared.scopes.Linked.{Linked}
use Rattle.occ_parse_scopes.specs.Chain.{declares_element, declares_below, name_of, entries, newest_of, AreChained, IsTable}
use Rattle.occ_parse_scopes.proofs.Facts.{at_itself, if_true, if_false}
use Rattle.occ_parse_scopes.proofs.Newest.{newest_first, newest_left}

-- ---- entries of other names

pub declares_off : (d : Declared) (x : ℕ) (k : Option ℕ) → (x == name_of d) ≡ false → declares d x k ≡ false
declares_off (declared.Plain y) x None h = h
declares_off (declared.Plain y) x (Some k) h = refl
declares_off (declared.Element y j) x None h = refl
declares_off (declared.Element y j) x (Some k) h = ap (λ b. b && (k == j)) h
declares_off (declared.Array y n) x None h = refl
declares_off (declared.Array y n) x (Some k) h = ap (λ b. b && nat_lt k n) h

pub declares_some_off : (d : Declared) (x : ℕ) → (x == name_of d) ≡ false → declares_some d x ≡ false
declares_some_off (declared.Plain y) x h = refl
declares_some_off (declared.Element y j) x h = h
declares_some_off (declared.Array y n) x h = ap (λ b. b && nat_lt 0 n) h

-- some entry declares what passes the test
abbrev pub some_entry : (Declared → Bool) → Sorts → Bool
some_entry t Γ = list_any (λ (entry : Entry). t entry.declared) Γ

-- a test that only declarations of the name pass
abbrev pub IsOf : ℕ → (Declared → Bool) → Type 0
IsOf x t = (d : Declared) → (x == name_of d) ≡ false → t d ≡ false

-- ---- the newest entry of a name

-- what the entries from that place on say of the name is what all say
pub record IsSkipped (ls : List Linked) (x : ℕ) (k : ℕ) : Type 0 where
  pub within : k ≤ length ls
  pub again : newest_of (drop (length ls - k) ls) x ≡ k
  pub sorts : (e : Option ℕ) → sort_at (entries ls) x e ≡ sort_at (entries (drop (length ls - k) ls)) x e
  pub tests : (t : Declared → Bool) → IsOf x t → some_entry t (entries ls) ≡ some_entry t (entries (drop (length ls - k) ls))

skips_none : (l : Linked) (ls : List Linked) (x : ℕ) → (x == name_of l.entry.declared) ≡ true → IsSkipped (l ∷ ls) x (suc (length ls))
skips_none l ls x h =
    let e : suc (length ls) - suc (length ls) ≡ 0 = omega arith in
    record {
      within = omega arith;
      again = ap (λ n. newest_of (drop n (l ∷ ls)) x) e ∙ if_true (x == name_of l.entry.declared) (suc (length ls)) (newest_of ls x) h;
      sorts = λ k. ap (λ n. sort_at (entries (drop n (l ∷ ls))) x k) (sym e);
      tests = λ t o. ap (λ n. some_entry t (entries (drop n (l ∷ ls)))) (sym e);
    }

skips_one : (l : Linked) (ls : List Linked) (x k : ℕ) → (x == name_of l.entry.declared) ≡ false → IsSkipped ls x k → IsSkipped (l ∷ ls) x k
skips_one l ls x k h s =
    let within : k ≤ length ls = s.within in
    let e : suc (length ls) - k ≡ suc (length ls - k) = omega arith in
    record {
      within = omega arith;
      again = ap (λ n. newest_of (drop n (l ∷ ls)) x) e ∙ s.again;
      sorts = λ j. if_false (declares l.entry.declared x j) (Some l.entry.sort) (sort_at (entries ls) x j) (declares_off l.entry.declared x j h) ∙ s.sorts j ∙ ap (λ n. sort_at (entries (drop n (l ∷ ls))) x j) (sym e);
      tests = λ t o. ap (λ b. b || some_entry t (entries ls)) (o l.entry.declared h) ∙ s.tests t o ∙ ap (λ n. some_entry t (entries (drop n (l ∷ ls)))) (sym e);
    }

pub skips : (ls : List Linked) (x : ℕ) → IsSkipped ls x (newest_of ls x)
skips [] x = record { within = omega arith; again = refl; sorts = λ k. refl; tests = λ t o. refl }
skips (l ∷ ls) x = elim (cases_Bool (x == name_of l.entry.declared)) [
  | inl h ↦ subst (IsSkipped (l ∷ ls) x) (sym (if_true (x == name_of l.entry.declared) (suc (length ls)) (newest_of ls x) h)) (skips_none l ls x h)
  | inr h ↦ subst (IsSkipped (l ∷ ls) x) (sym (if_false (x == name_of l.entry.declared) (suc (length ls)) (newest_of ls x) h)) (skips_one l ls x (newest_of ls x) h (skips ls x))
]

-- ---- a walk in a list with the oldest entry first

-- the entries up to a place, the newest first
abbrev pub upto : List Linked → ℕ → List Linked
upto ls k = reverse (take k ls)

pub record IsAt (ls : List Linked) (x : ℕ) (k : ℕ) : Type 0 where
  pub within : k ≤ length ls
  pub here : newest_of (upto ls k) x ≡ k

left_is : (ls : List Linked) (k : ℕ) → k ≤ length ls → drop (length (reverse ls) - k) (reverse ls) ≡ upto ls k
left_is ls k h = sym (newest_left ls k h)

pub record Starts (ls : List Linked) (x : ℕ) (k : ℕ) : Type 0 where
  pub at : IsAt ls x k
  pub sorts : (e : Option ℕ) → sort_at (entries (reverse ls)) x e ≡ sort_at (entries (upto ls k)) x e
  pub tests : (t : Declared → Bool) → IsOf x t → some_entry t (entries (reverse ls)) ≡ some_entry t (entries (upto ls k))

pub starts : (ls : List Linked) (x k : ℕ) → k ≡ newest_of (reverse ls) x → Starts ls x k
starts ls x k e =
    let s : IsSkipped (reverse ls) x k = subst (IsSkipped (reverse ls) x) (sym e) (skips (reverse ls) x) in
    let within : k ≤ length ls = subst (λ n. k ≤ n) (length-reverse ls) s.within in
    let left = left_is ls k within in
    record {
      at = record { within = within; here = ap (λ q. newest_of q x) (sym left) ∙ s.again };
      sorts = λ j. s.sorts j ∙ ap (λ q. sort_at (entries q) x j) left;
      tests = λ t o. s.tests t o ∙ ap (λ q. some_entry t (entries q)) left;
    }

-- the entry at a place in front of those before it
one_more : (ls : List Linked) (j k : ℕ) (d : Linked) → k ≡ j + 1 → k ≤ length ls → upto ls k ≡ get_or ls j d ∷ upto ls j
one_more ls j k d e h = ap (upto ls) e ∙ newest_first ls j d (omega arith)

chained_drop : (ls : List Linked) (n : ℕ) → AreChained ls → AreChained (drop n ls)
chained_drop ls zero h = h
chained_drop [] (suc n) h = h
chained_drop (l ∷ ls) (suc n) h = chained_drop ls n h.1

chained_upto : (ls : List Linked) (k : ℕ) → k ≤ length ls → AreChained (reverse ls) → AreChained (upto ls k)
chained_upto ls k h c = subst AreChained (left_is ls k h) (chained_drop (reverse ls) (length (reverse ls) - k) c)

length_upto : (ls : List Linked) (k : ℕ) → k ≤ length ls → length (upto ls k) ≡ k
length_upto ls k h = length-reverse (take k ls) ∙ length-take-le k ls h

-- the entry at a place of a name is one of that name
pub named_here : (ls : List Linked) (x j k : ℕ) (d : Linked) → k ≡ j + 1 → IsAt ls x k → (x == name_of (get_or ls j d).entry.declared) ≡ true
named_here ls x j k d e a =
    let within = a.within in
    let h : newest_of (get_or ls j d ∷ upto ls j) x ≡ k = ap (λ q. newest_of q x) (sym (one_more ls j k d e within)) ∙ a.here in
    let s : newest_of (upto ls j) x ≤ length (upto ls j) = (skips (upto ls j) x).within in
    let n : length (upto ls j) ≡ j = length_upto ls j (omega arith) in
    elim (cases_Bool (x == name_of (get_or ls j d).entry.declared)) [
      | inl t ↦ t
      | inr f ↦ let g : newest_of (upto ls j) x ≡ k = sym (if_false (x == name_of (get_or ls j d).entry.declared) (suc (length (upto ls j))) (newest_of (upto ls j) x) f) ∙ h in absurd (omega arith)
    ]

pub record Goes (ls : List Linked) (x j : ℕ) (k : ℕ) : Type 0 where
  pub at : IsAt ls x k
  pub falls : k ≤ j
  pub sorts : (e : Option ℕ) → sort_at (entries (upto ls j)) x e ≡ sort_at (entries (upto ls k)) x e
  pub tests : (t : Declared → Bool) → IsOf x t → some_entry t (entries (upto ls j)) ≡ some_entry t (entries (upto ls k))

again_upto : (ls : List Linked) (j k : ℕ) → k ≤ j → upto (take j ls) k ≡ upto ls k
again_upto ls j k h = ap reverse (take-take k j ls h)

pub goes : (ls : List Linked) (x j k : ℕ) (d : Linked) → k ≡ j + 1 → AreChained (reverse ls) → IsAt ls x k → Goes ls x j (get_or ls j d).older
goes ls x j k d e c a =
    let within = a.within in
    let chained : AreChained (get_or ls j d ∷ upto ls j) = subst AreChained (one_more ls j k d e within) (chained_upto ls k within c) in
    let same : x ≡ name_of (get_or ls j d).entry.declared = eqb-true x (name_of (get_or ls j d).entry.declared) (named_here ls x j k d e a) in
    let older = (get_or ls j d).older in
    let is : older ≡ newest_of (upto ls j) x = chained.0 ∙ ap (newest_of (upto ls j)) (sym same) in
    let s = starts (take j ls) x older is in
    let many : length (take j ls) ≡ j = length-take-le j ls (omega arith) in
    let falls : older ≤ j = subst (λ n. older ≤ n) many s.at.within in
    let left = again_upto ls j older falls in
    record {
      at = record { within = omega arith; here = ap (λ q. newest_of q x) (sym left) ∙ s.at.here };
      falls = falls;
      sorts = λ i. s.sorts i ∙ ap (λ q. sort_at (entries q) x i) left;
      tests = λ t o. s.tests t o ∙ ap (λ q. some_entry t (entries q)) left;
    }

-- ---- the steps of the walk

pub sort_passed : (ls : List Linked) (x j k : ℕ) (e : Option ℕ) (d : Linked) → k ≡ j + 1 → k ≤ length ls → declares (get_or ls j d).entry.declared x e ≡ false → sort_at (entries (upto ls k)) x e ≡ sort_at (entries (upto ls j)) x e
sort_passed ls x j k e d h w f =
    ap (λ q. sort_at (entries q) x e) (one_more ls j k d h w) ∙ if_false (declares (get_or ls j d).entry.declared x e) (Some (get_or ls j d).entry.sort) (sort_at (entries (upto ls j)) x e) f

pub test_passed : (ls : List Linked) (j k : ℕ) (t : Declared → Bool) (d : Linked) → k ≡ j + 1 → k ≤ length ls → t (get_or ls j d).entry.declared ≡ false → some_entry t (entries (upto ls k)) ≡ some_entry t (entries (upto ls j))
test_passed ls j k t d h w f =
    ap (λ q. some_entry t (entries q)) (one_more ls j k d h w) ∙ ap (λ b. b || some_entry t (entries (upto ls j))) f

-- ---- the table

-- the name of an entry is within the table
pub table_within : (newest : List ℕ) (l : Linked) (ls : List Linked) → IsTable newest (l ∷ ls) → name_of l.entry.declared < length newest
table_within newest l ls t =
    let x = name_of l.entry.declared in
    let h : get_or newest x 0 ≡ suc (length ls) = t x ∙ if_true (x == x) (suc (length ls)) (newest_of ls x) (at_itself x) in
    elim (cases_lt x (length newest)) [
      | inl k ↦ k
      | inr k ↦ let z : get_or newest x 0 ≡ 0 = get_or_past newest x 0 k in absurd (omega arith)
    ]

-- ---- one step of the walk, at the entry that was read

pub older_falls : (ls : List Linked) (x k : ℕ) (l : Linked) → 0 < k → AreChained (reverse ls) → l ≡ get_or ls (k - 1) l → IsAt ls x k → l.older < k
older_falls ls x k l h c r a =
    let e : k ≡ (k - 1) + 1 = omega arith in
    let g : Goes ls x (k - 1) l.older = subst (λ m. Goes ls x (k - 1) m.older) (sym r) (goes ls x (k - 1) k l e c a) in
    let falls = g.falls in
    omega arith

pub sort_steps : (ls : List Linked) (x k : ℕ) (e : Option ℕ) (l : Linked) → 0 < k → AreChained (reverse ls) → l ≡ get_or ls (k - 1) l → declares l.entry.declared x e ≡ false → IsAt ls x k × (sort_at (entries (reverse ls)) x e ≡ sort_at (entries (upto ls k)) x e) → IsAt ls x l.older × (sort_at (entries (reverse ls)) x e ≡ sort_at (entries (upto ls l.older)) x e)
sort_steps ls x k e l h c r f w =
    let i : k ≡ (k - 1) + 1 = omega arith in
    let g : Goes ls x (k - 1) l.older = subst (λ m. Goes ls x (k - 1) m.older) (sym r) (goes ls x (k - 1) k l i c w.0) in
    (g.at, w.1 ∙ sort_passed ls x (k - 1) k e l i w.0.within (subst (λ m. declares m.entry.declared x e ≡ false) r f) ∙ g.sorts e)

pub test_steps : (ls : List Linked) (x k : ℕ) (t : Declared → Bool) (l : Linked) → IsOf x t → 0 < k → AreChained (reverse ls) → l ≡ get_or ls (k - 1) l → t l.entry.declared ≡ false → IsAt ls x k × (some_entry t (entries (reverse ls)) ≡ some_entry t (entries (upto ls k))) → IsAt ls x l.older × (some_entry t (entries (reverse ls)) ≡ some_entry t (entries (upto ls l.older)))
test_steps ls x k t l o h c r f w =
    let i : k ≡ (k - 1) + 1 = omega arith in
    let g : Goes ls x (k - 1) l.older = subst (λ m. Goes ls x (k - 1) m.older) (sym r) (goes ls x (k - 1) k l i c w.0) in
    (g.at, w.1 ∙ test_passed ls (k - 1) k t l i w.0.within (subst (λ m. t m.entry.declared ≡ false) r f) ∙ g.tests t o)

pub declares_below_off : (d : Declared) (x n : ℕ) → (x == name_of d) ≡ false → declares_below x n d ≡ false
declares_below_off (declared.Plain y) x n h = refl
declares_below_off (declared.Element y j) x n h = ap (λ b. b && nat_lt j n) h
declares_below_off (declared.Array y m) x n h = ap (λ b. b && (nat_lt 0 m && nat_lt 0 n)) h

-- ---- which elements of an array are in scope

some_of : (b : Bool) (s : Sort) (o : Option Sort) → is_some (if b then Some s else o) ≡ (b || is_some o)
some_of true s o = refl
some_of false s o = refl

element_here : (d : Declared) (x k : ℕ) → (x == name_of d) ≡ true → declares d x (Some k) ≡ declares_element d k
element_here (declared.Plain y) x k h = refl
element_here (declared.Element y j) x k h = ap (λ b. b && (k == j)) h
element_here (declared.Array y n) x k h = ap (λ b. b && nat_lt k n) h

-- what is marked so far, and what the entries up to a place say, is what all of them say
abbrev pub IsMarked : List Linked → ℕ → ℕ → List Bool → Type 0
IsMarked ls x k table = (j : ℕ) → j < 256 → (get_or table j false || is_some (sort_at (entries (upto ls k)) x (Some j))) ≡ is_some (sort_at (entries (reverse ls)) x (Some j))

regrouped : (a b c : Bool) → ((a || b) || c) ≡ (a || (b || c))
regrouped true b c = refl
regrouped false b c = refl

pub marked_start : (ls : List Linked) (x k : ℕ) (table : List Bool) → Starts ls x k → ((j : ℕ) → j < 256 → get_or table j false ≡ false) → IsMarked ls x k table
marked_start ls x k table s e j h = (λ i. e j h i || is_some (sym (s.sorts (Some j)) i))

pub marked_steps : (ls : List Linked) (x k : ℕ) (l : Linked) (old new : List Bool) → 0 < k → AreChained (reverse ls) → l ≡ get_or ls (k - 1) l → ((j : ℕ) → j < 256 → get_or new j false ≡ (get_or old j false || declares_element l.entry.declared j)) → IsAt ls x k → IsMarked ls x k old → IsAt ls x l.older × IsMarked ls x l.older new
marked_steps ls x k l old new h c r m a w =
    let i : k ≡ (k - 1) + 1 = omega arith in
    let g : Goes ls x (k - 1) l.older = subst (λ m. Goes ls x (k - 1) m.older) (sym r) (goes ls x (k - 1) k l i c a) in
    let named = subst (λ m. (x == name_of m.entry.declared) ≡ true) (sym r) (named_here ls x (k - 1) k l i a) in
    let front : upto ls k ≡ l ∷ upto ls (k - 1) = one_more ls (k - 1) k l i a.within ∙ ap (λ q. q ∷ upto ls (k - 1)) (sym r) in (
      g.at,
      λ j b.
          ap (λ q. q || is_some (sort_at (entries (upto ls l.older)) x (Some j))) (m j b)
          ∙ regrouped (get_or old j false) (declares_element l.entry.declared j) (is_some (sort_at (entries (upto ls l.older)) x (Some j)))
          ∙ ap (λ q. get_or old j false || q) (
          (λ n. sym (element_here l.entry.declared x j named) n || is_some (sym (g.sorts (Some j)) n))
          ∙ sym (some_of (declares l.entry.declared x (Some j)) l.entry.sort (sort_at (entries (upto ls (k - 1))) x (Some j)))
          ∙ ap (λ q. is_some (sort_at (entries q) x (Some j))) (sym front))
          ∙ w j b,
    )

or_none : (b : Bool) → b ≡ (b || false)
or_none true = refl
or_none false = refl

pub marked_all : (ls : List Linked) (x k : ℕ) (table : List Bool) → k ≡ 0 → IsMarked ls x k table → (j : ℕ) → j < 256 → get_or table j false ≡ is_some (sort_at (entries (reverse ls)) x (Some j))
marked_all ls x k table e w j h = or_none (get_or table j false) ∙ ap (λ n. get_or table j false || is_some (sort_at (entries (upto ls n)) x (Some j))) (sym e) ∙ w j h

pub none_marked : (n j : ℕ) → j < n → get_or (replicate n false) j false ≡ false
none_marked n j h = get_or-replicate n j false false h
