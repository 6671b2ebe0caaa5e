use Rattle.std.specs.Prelude.{ℕ, ◌+◌, ◌*◌, ◌<◌, ◌≤◌, ◌≡◌, ◌==◌, ◌^◌, ◌⊎◌, Bool, true, false, List, [], ◌∷◌, length, if◌then◌else◌}
use Rattle.occ_dd.specs.Assignment.{turned, with_bit}
use Rattle.occ_dd.specs.Diagram.{depth_of, end_of}
use Rattle.occ_dd.specs.Table.{nodes_of}
use Rattle.occ_dd.specs.declared.set.SetId.{SetId}
use Rattle.occ_dd.specs.declared.store.Store.{Store}

-- how many numbers a store gave
unfoldable pub sets_of : Store → ℕ
sets_of s = length (nodes_of s.table)

-- the store gave the number
abbrev pub IsKnown : Store → SetId → Type 0
IsKnown s a = a.0 < sets_of s

-- whether an assignment is a member of a set
unfoldable pub has : Store → SetId → ℕ → Bool
has s a x = end_of (nodes_of s.table) a.0 x == s.full

-- one more than the greatest bit on which membership depends, or 0 where it depends on none
unfoldable pub depth : Store → SetId → ℕ
depth s a = depth_of (nodes_of s.table) a.0

-- each number that the old store gave keeps its set
pub record Keeps (old new : Store) : Type 0 where
  pub more : sets_of old ≤ sets_of new
  pub same : (a : SetId) (x : ℕ) → IsKnown old a → has new a x ≡ has old a x
  pub depths : (a : SetId) → IsKnown old a → depth new a ≡ depth old a

-- r is the set of the assignments that pass a test
pub record IsSet (s : Store) (r : SetId) (test : ℕ → Bool) : Type 0 where
  pub known : IsKnown s r
  pub members : (x : ℕ) → has s r x ≡ test x

abbrev pub IsEmpty : Store → SetId → Type 0
IsEmpty s a = (x : ℕ) → has s a x ≡ false

abbrev pub IsFull : Store → SetId → Type 0
IsFull s a = (x : ℕ) → has s a x ≡ true

abbrev pub IsConstant : Store → SetId → Type 0
IsConstant s a = (IsEmpty s a) ⊎ (IsFull s a)

pub record IsLeastMember (s : Store) (a : SetId) (m : ℕ) : Type 0 where
  pub member : has s a m ≡ true
  pub least : (x : ℕ) → has s a x ≡ true → m ≤ x

-- the bit is the greatest on which membership depends; the parts are the sets once it is made 0 and 1
pub record Splits (s : Store) (a : SetId) (bit : ℕ) (low high : SetId) : Type 0 where
  pub bit_within : bit < 64
  pub depends : ((x : ℕ) → x < 2 ^ 64 → has s a (with_bit x bit 0) ≡ has s a (with_bit x bit 1)) → ⊥
  pub greatest : (b x : ℕ) → bit < b → has s a (turned x b) ≡ has s a x
  pub low_set : IsSet s low (λ x. has s a (with_bit x bit 0))
  pub high_set : IsSet s high (λ x. has s a (with_bit x bit 1))
  pub deep : depth s a ≡ bit + 1
  pub low_depth : depth s low ≤ bit
  pub high_depth : depth s high ≤ bit

-- the answer says whether each member of a is one of b
pub record IsSubsetAnswer (s : Store) (a b : SetId) (answer : Bool) : Type 0 where
  pub sound : answer ≡ true → (x : ℕ) → has s a x ≡ true → has s b x ≡ true
  pub complete : ((x : ℕ) → x < 2 ^ 64 → has s a x ≡ true → has s b x ≡ true) → answer ≡ true

-- the number of the row of a truth table at an assignment: the first input is its lowest digit
abbrev pub row_of : Store → List SetId → ℕ → ℕ
row_of s [] x = 0
row_of s (a ∷ inputs) x = (if has s a x then 1 else 0) + 2 * row_of s inputs x

-- equal sets have equal numbers
pub record IsCanonical (s : Store) : Type 0 where
  pub one : (a b : SetId) → IsKnown s a → IsKnown s b → ((x : ℕ) → x < 2 ^ 64 → has s a x ≡ has s b x) → a ≡ b
