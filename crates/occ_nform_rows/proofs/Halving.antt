-- The parts of a set at a bit, and the places of its members.
use Rattle.std.proofs.Common.{◌≡◌, ◌≤◌, ◌<◌, ◌+◌, ◌-◌, ◌*◌, ◌%◌, ◌^◌, ◌==◌, ◌++◌, ℕ, zero, suc, Bool, true, false, cond, List, [], ◌∷◌, Some, slice_get, refl, sym, ap, ◌∙◌, subst, arith, ⊎_elim, eq-eqb}
use Rattle.std.specs.Int.{bit_at}
use Rattle.std.proofs.Math.Nat.{mod-lt, mod-eq_of_lt, pow-suc}
use Rattle.std.proofs.lemmas.Bool.{cases_eq, cases_lt, or_cases, or_left, or_right, eqb-true, false≢true}
use Rattle.std.proofs.lemmas.List.{append_assoc, append-nil}
use Rattle.std.proofs.lemmas.List.Folds.{list_any-append}
use Rattle.std.proofs.lemmas.Nat.{pow_pos, div-add-mod'}
use Rattle.std.proofs.lemmas.Nat.Bits.{bit_at_above, bit_at_cat_low, bit_at_cat_high, same_from_bits_below}
use Rattle.occ_syntax.specs.occ_base.declared.names.Name.{Name}
use Rattle.occ_syntax.specs.declared.scope.Kind.{Kind}
use Rattle.occ_syntax.specs.Counts.{bits_of_scope}
use Rattle.occ_compare.proofs.from_dd.Bits.{bit_at-with_bit_same, bit_at-with_bit_other, with_bit_same, with_bit_lt}
use Rattle.occ_compare.proofs.from_dd.DiagramLemmas.{end_agree, some_at}
use Rattle.occ_compare.specs.occ_dd.Assignment.{with_bit}
use Rattle.occ_compare.specs.occ_dd.Table.{nodes_of}
use Rattle.occ_compare.specs.occ_dd.declared.node.Node.{Node}
use Rattle.occ_compare.specs.occ_dd.declared.node.Node.TheVariants.{Leaf, Branch}
use Rattle.occ_compare.specs.occ_dd.Store.{IsKnown, Splits, IsConstant, depth, has}
use Rattle.occ_compare.specs.occ_dd.declared.set.SetId.{SetId}
use Rattle.occ_compare.specs.occ_dd.declared.store.Store.{Store}
use Rattle.occ_compare.proofs.from_dd.Callers.{depth-constant}
use Rattle.occ_compare.proofs.from_dd.Sets.{has_end, known_size, leaf_constant, branch_splits}
use Rattle.occ_compare.proofs.from_accept.Strict.{same_tests}
use Rattle.occ_compare.specs.Places.{assignment_at, number_in}
use Rattle.occ_compare.proofs.Numbers.{small, below, again, back}
use Rattle.occ_nform_rows.specs.Ends.{AreHalves, places_of, has_number}

-- ---- assignments that agree on the bits that matter
agree : (s : Store) (a : SetId) (n x y : ℕ) → depth s a ≤ n → ((b : ℕ) → b < n → bit_at x b ≡ bit_at y b) → has s a x ≡ has s a y
unfolding depth
agree s a n x y h same = has_end s a x ∙ ap (λ m. m == s.full) (end_agree (nodes_of s.table) s.table.diagram n a.0 x y h same) ∙ sym (has_end s a y)

pub low_bits : (x b i : ℕ) → i < b → bit_at (x % 2 ^ b) i ≡ bit_at x i
low_bits x b i h = sym (bit_at_cat_low _ b (x % 2 ^ b) i h) ∙ ap (λ n. bit_at n i) (div-add-mod' x (2 ^ b))

one_more : (b x : ℕ) → 1 * 2 ^ b + x ≡ 2 ^ b + x
one_more b x = omega arith

high_low : (b x i : ℕ) → i < b → bit_at (2 ^ b + x) i ≡ bit_at x i
high_low b x i h = ap (λ n. bit_at n i) (sym (one_more b x)) ∙ bit_at_cat_low 1 b x i h

high_one : (b x : ℕ) → x < 2 ^ b → bit_at (2 ^ b + x) b ≡ 1
high_one b x h = let none : b - b ≡ 0 = omega arith in let same : b ≤ b = omega arith in
    ap (λ n. bit_at n b) (sym (one_more b x)) ∙ bit_at_cat_high 1 b x b h same ∙ ap (bit_at 1) none

module _ (s : Store) (a : SetId) where
  -- a bit that doesn't matter
  free_half : (b x : ℕ) → depth s a ≤ b → has s a (2 ^ b + x) ≡ has s a x
  free_half b x h = agree s a b (2 ^ b + x) x h (λ i k. high_low b x i k)

  pub same_halves : (b : ℕ) → IsKnown s a → depth s a ≤ b → AreHalves s a b a a
  same_halves b known h = record {
    low_known = known;
    high_known = known;
    low_depth = h;
    high_depth = h;
    low_members = λ x k. refl;
    high_members = λ x k. sym (free_half b x h);
  }

  pub split_halves : (b : ℕ) (low high : SetId) → Splits s a b low high → AreHalves s a b low high
  split_halves b low high split = record {
    low_known = split.low_set.known;
    high_known = split.high_set.known;
    low_depth = split.low_depth;
    high_depth = split.high_depth;
    low_members = λ x k. split.low_set.members x ∙ ap (has s a) (with_bit_same x b 0 (bit_at_above x b b k (omega arith)));
    high_members = λ x k. split.high_set.members x ∙ agree s a (b + 1) (with_bit x b 1) (2 ^ b + x) (omega (arith, split.deep)) (one_bit x k);
  }
    where
      one_bit : (x : ℕ) → x < 2 ^ b → (i : ℕ) → i < b + 1 → bit_at (with_bit x b 1) i ≡ bit_at (2 ^ b + x) i
      one_bit x k i h = ⊎_elim
          (λ (e : i ≡ b). ap (bit_at (with_bit x b 1)) e ∙ bit_at-with_bit_same x b 1 (omega arith) ∙ sym (high_one b x k) ∙ ap (bit_at (2 ^ b + x)) (sym e))
          (λ (ne : i ≡ b → ⊥). bit_at-with_bit_other x b 1 i ne ∙ sym (high_low b x i (omega (arith, h, ne))))
          (cases_eq i b)

  other_low : (n b v x : ℕ) → n ≤ b → with_bit x b v % 2 ^ n ≡ x % 2 ^ n
  other_low n b v x h = same_from_bits_below n (with_bit x b v % 2 ^ n) (x % 2 ^ n) (mod-lt (with_bit x b v) (pow_pos n)) (mod-lt x (pow_pos n))
      (λ i k. low_bits (with_bit x b v) n i k ∙ bit_at-with_bit_other x b v i (λ e. omega (arith, e, h, k)) ∙ sym (low_bits x n i k))

  -- where no bit from n on matters, the set is no deeper
  pub depth_within : (n : ℕ) → IsKnown s a → ((x : ℕ) → x < 2 ^ 64 → has s a x ≡ has s a (x % 2 ^ n)) → depth s a ≤ n
  depth_within n known same = by (some_at (nodes_of s.table) s.table.diagram a.0 (known_size s a known)).0 (some_at (nodes_of s.table) s.table.diagram a.0 (known_size s a known)).1
    where
      by : (node : Node Bool) → slice_get (nodes_of s.table) a.0 ≡ Some node → depth s a ≤ n
      by (Leaf v) e = let none : depth s a ≡ 0 = depth-constant s a known (leaf_constant s a v e) in omega arith
      by (Branch d) e =
          let split : Splits s a d.bit (record { 0 = d.low }) (record { 0 = d.high }) = branch_splits s a d e in
          ⊎_elim
          (λ (k : d.bit < n). omega (arith, split.deep, k))
          (λ (k : n ≤ d.bit). absurd (split.depends (λ x small.
          same (with_bit x d.bit 0) (with_bit_lt x d.bit 0 64 split.bit_within small) ∙ ap (has s a) (other_low n d.bit 0 x k ∙ sym (other_low n d.bit 1 x k))
          ∙ sym (same (with_bit x d.bit 1) (with_bit_lt x d.bit 1 64 split.bit_within small)))))
          (cases_lt d.bit n)

-- ---- the places of the members
double : (n : ℕ) → 2 ^ suc n ≡ 2 ^ n + 2 ^ n
double n = pow-suc 2 n ∙ omega arith

low_within : (n x : ℕ) → x < 2 ^ n → x < 2 ^ suc n
low_within n x h = subst (λ m. x < m) (sym (double n)) (omega arith)

high_within : (n x : ℕ) → x < 2 ^ n → 2 ^ n + x < 2 ^ suc n
high_within n x h = subst (λ m. 2 ^ n + x < m) (sym (double n)) (omega arith)

module _ (ps : List (Name × Kind)) where
  pub places_same : (p q : ℕ → Bool) (level first : ℕ) → ((x : ℕ) → x < 2 ^ level → p x ≡ q x) → places_of ps p level first ≡ places_of ps q level first
  unfolding places_of
  places_same p q zero first h = ap (λ b. cond b (number_in ps first ∷ []) []) (h 0 (omega arith))
  places_same p q (suc level) first h =
      let low : places_of ps p level first ≡ places_of ps q level first = places_same p q level first (λ x k. h x (low_within level x k)) in
      let high : places_of ps (λ x. p (2 ^ level + x)) level (first + 2 ^ level) ≡ places_of ps (λ x. q (2 ^ level + x)) level (first + 2 ^ level) =
      places_same (λ x. p (2 ^ level + x)) (λ x. q (2 ^ level + x)) level (first + 2 ^ level) (λ x k. h (2 ^ level + x) (high_within level x k)) in
      λ i. low i ++ high i

  places_nothing : (level first : ℕ) → places_of ps (λ x. false) level first ≡ []
  unfolding places_of
  places_nothing zero first = refl
  places_nothing (suc level) first =
      let low : places_of ps (λ x. false) level first ≡ [] = places_nothing level first in
      let high : places_of ps (λ x. false) level (first + 2 ^ level) ≡ [] = places_nothing level (first + 2 ^ level) in
      λ i. low i ++ high i

  pub places_none : (p : ℕ → Bool) (level first : ℕ) → ((x : ℕ) → p x ≡ false) → places_of ps p level first ≡ []
  places_none p level first h = places_same p (λ x. false) level first (λ x k. h x) ∙ places_nothing level first

  pub places_one : (p : ℕ → Bool) (first : ℕ) → places_of ps p 0 first ≡ cond (p 0) (number_in ps first ∷ []) []
  unfolding places_of
  places_one p first = refl

  places_two : (p : ℕ → Bool) (bit first : ℕ) → places_of ps p (suc bit) first ≡ places_of ps p bit first ++ places_of ps (λ x. p (2 ^ bit + x)) bit (first + 2 ^ bit)
  unfolding places_of
  places_two p bit first = refl

  -- those of the two parts, one behind the other
  pub places_joined : (p low high : ℕ → Bool) (level bit first : ℕ) (old mid new : List ℕ) → level ≡ suc bit → ((x : ℕ) → x < 2 ^ bit → low x ≡ p x) → ((x : ℕ) → x < 2 ^ bit → high x ≡ p (2 ^ bit + x))
      → mid ≡ old ++ places_of ps low bit first → new ≡ mid ++ places_of ps high bit (first + 2 ^ bit) → new ≡ old ++ places_of ps p level first
  places_joined p low high level bit first old mid new e h k m n =
      let a : places_of ps low bit first ≡ places_of ps p bit first = places_same low p bit first h in
      let b : places_of ps high bit (first + 2 ^ bit) ≡ places_of ps (λ x. p (2 ^ bit + x)) bit (first + 2 ^ bit) = places_same high (λ x. p (2 ^ bit + x)) bit (first + 2 ^ bit) k in
      n ∙ ap (λ l. l ++ places_of ps high bit (first + 2 ^ bit)) m ∙ append_assoc old (places_of ps low bit first) (places_of ps high bit (first + 2 ^ bit))
      ∙ (λ i. old ++ (a i ++ b i)) ∙ ap (λ l. old ++ l) (sym (places_two p bit first)) ∙ ap (λ n. old ++ places_of ps p n first) (sym e)

  -- each member has its place there
  places_in : (p : ℕ → Bool) (level first z : ℕ) → z < 2 ^ level → p z ≡ true → has_number (places_of ps p level first) (number_in ps (first + z)) ≡ true
  unfolding places_of
  places_in p zero first z h t =
      let none : z ≡ 0 = omega arith in
      let here : first + z ≡ first = omega arith in
      ap (λ b. has_number (cond b (number_in ps first ∷ []) []) (number_in ps (first + z))) (sym (ap p none) ∙ t)
      ∙ or_left (number_in ps first == number_in ps (first + z)) false (eq-eqb (number_in ps first) (number_in ps (first + z)) (ap (number_in ps) (sym here)))
  places_in p (suc level) first z h t =
      let k : ℕ = number_in ps (first + z) in
      let low : List ℕ = places_of ps p level first in
      let high : List ℕ = places_of ps (λ x. p (2 ^ level + x)) level (first + 2 ^ level) in
      list_any-append (λ n. n == k) low high ∙ ⊎_elim
      (λ (l : z < 2 ^ level). or_left (has_number low k) (has_number high k) (places_in p level first z l t))
      (λ (g : 2 ^ level ≤ z).
      let two : 2 ^ suc level ≡ 2 ^ level + 2 ^ level = double level in
      let rest : z - 2 ^ level < 2 ^ level = omega (arith, two, g, h) in
      let whole : 2 ^ level + (z - 2 ^ level) ≡ z = omega arith in
      let sum : first + 2 ^ level + (z - 2 ^ level) ≡ first + z = omega arith in
      or_right (has_number low k) (has_number high k)
      (ap (λ n. has_number high (number_in ps n)) (sym sum) ∙ places_in (λ x. p (2 ^ level + x)) level (first + 2 ^ level) (z - 2 ^ level) rest (ap p whole ∙ t)))
      (cases_lt z (2 ^ level))

  abbrev IsPlaceOf : (ℕ → Bool) → ℕ → ℕ → ℕ → Type 0
  IsPlaceOf p level first k = (z : ℕ) × (z < 2 ^ level) × (p z ≡ true) × (number_in ps (first + z) ≡ k)

  place_one : (b : Bool) (p : ℕ → Bool) (first k : ℕ) → p 0 ≡ b → has_number (cond b (number_in ps first ∷ []) []) k ≡ true → IsPlaceOf p 0 first k
  place_one true p first k e h = ⊎_elim
      (λ (t : (number_in ps first == k) ≡ true). let here : first + 0 ≡ first = omega arith in (0, omega arith, e, ap (number_in ps) here ∙ eqb-true (number_in ps first) k t))
      (λ (f : false ≡ true). absurd (false≢true f))
      (or_cases (number_in ps first == k) false h)
  place_one false p first k e h = absurd (false≢true h)

  -- and each place is that of a member
  places_from : (p : ℕ → Bool) (level first k : ℕ) → has_number (places_of ps p level first) k ≡ true → IsPlaceOf p level first k
  unfolding places_of
  places_from p zero first k h = place_one (p 0) p first k refl h
  places_from p (suc level) first k h =
      let low : List ℕ = places_of ps p level first in
      let high : List ℕ = places_of ps (λ x. p (2 ^ level + x)) level (first + 2 ^ level) in
      ⊎_elim
      (λ (l : has_number low k ≡ true). let w = places_from p level first k l in (w.0, low_within level w.0 w.1, w.2, w.3))
      (λ (g : has_number high k ≡ true).
      let w = places_from (λ x. p (2 ^ level + x)) level (first + 2 ^ level) k g in
      let n : ℕ = w.0 in
      let sum : first + (2 ^ level + n) ≡ first + 2 ^ level + n = omega arith in
      (2 ^ level + n, high_within level n w.1, w.2, ap (number_in ps) sum ∙ w.3))
      (or_cases (has_number low k) (has_number high k) (sym (list_any-append (λ n. n == k) low high) ∙ h))

  pub place_member : (p : ℕ → Bool) (k : ℕ) → k < 2 ^ bits_of_scope ps → has_number (places_of ps p (bits_of_scope ps) 0) k ≡ p (assignment_at ps k)
  place_member p k h = same_tests (has_number (places_of ps p (bits_of_scope ps) 0) k) (p (assignment_at ps k))
      (λ t.
      let w = places_from p (bits_of_scope ps) 0 k t in
      let n : ℕ = w.0 in
      let zero_first : 0 + n ≡ n = omega arith in
      let one : assignment_at ps k ≡ n = ap (assignment_at ps) (sym w.3 ∙ ap (number_in ps) zero_first) ∙ again ps n ∙ mod-eq_of_lt w.1 in
      ap p one ∙ w.2)
      (λ t.
      let zero_first : 0 + assignment_at ps k ≡ assignment_at ps k = omega arith in
      ap (has_number (places_of ps p (bits_of_scope ps) 0)) (sym (ap (number_in ps) zero_first ∙ back ps k h)) ∙ places_in p (bits_of_scope ps) 0 (assignment_at ps k) (small ps k h) t)

  -- a place is one of a state
  pub place_small : (p : ℕ → Bool) (k : ℕ) → has_number (places_of ps p (bits_of_scope ps) 0) k ≡ true → k < 2 ^ bits_of_scope ps
  place_small p k t =
      let w = places_from p (bits_of_scope ps) 0 k t in
      subst (λ n. n < 2 ^ bits_of_scope ps) w.3 (below ps (0 + w.0))

  -- what one look-up adds
  pub one_added : (member : Bool) (first : ℕ) (old new : List ℕ) → member ≡ true → new ≡ old ++ number_in ps first ∷ [] → new ≡ old ++ places_of ps (λ x. member) 0 first
  one_added member first old new e h = h ∙ ap (λ l. old ++ l) (sym (places_one (λ x. member) first ∙ ap (λ b. cond b (number_in ps first ∷ []) []) e))

  pub none_added : (p : ℕ → Bool) (level first : ℕ) (old new : List ℕ) → ((x : ℕ) → p x ≡ false) → new ≡ old → new ≡ old ++ places_of ps p level first
  none_added p level first old new e h = h ∙ sym (append-nil old) ∙ ap (λ l. old ++ l) (sym (places_none p level first e))

  pub one_looked_up : (member : Bool) (p : ℕ → Bool) (level first : ℕ) (old new : List ℕ) → level ≡ 0 → member ≡ p 0 → new ≡ old ++ places_of ps (λ x. member) 0 first → new ≡ old ++ places_of ps p level first
  one_looked_up member p level first old new none e h = h ∙ ap (λ l. old ++ l) (places_same (λ x. member) p 0 first (λ x k. let zero_only : x ≡ 0 = omega arith in e ∙ ap p (sym zero_only)) ∙ ap (λ n. places_of ps p n first) (sym none))

-- the halves of a set, by what a split says
pub halves_none : (s : Store) (set : SetId) (bit : ℕ) → IsKnown s set → IsConstant s set → AreHalves s set bit set set
halves_none s set bit known constant = let flat : depth s set ≡ 0 = depth-constant s set known constant in same_halves s set bit known (omega arith)

pub halves_other : (s : Store) (set : SetId) (bit top : ℕ) (low high : SetId) → IsKnown s set → depth s set ≤ bit + 1 → Splits s set top low high → (top ≡ bit → ⊥) → AreHalves s set bit set set
halves_other s set bit top low high known deep split other = same_halves s set bit known (omega (arith, split.deep, deep, other))

pub halves_there : (s : Store) (set : SetId) (bit top : ℕ) (low high : SetId) → Splits s set top low high → top ≡ bit → AreHalves s set bit low high
halves_there s set bit top low high split e = split_halves s set bit low high (subst (λ b. Splits s set b low high) e split)
