-- Functions on assignments: a set for each bit, of the assignments from which it becomes 1.
use Rattle.std.specs.Prelude.{ℕ, ◌+◌, ◌≡◌, Bool, List, [], ◌∷◌, Some, length, take, if◌then◌else◌}
use Rattle.std.specs.List.{All}
use Rattle.occ_bits.specs.Words.{digit}
use Rattle.occ_dd.specs.Assignment.{with_bit}
use Rattle.occ_dd.specs.Memo.{recalled}
use Rattle.occ_dd.specs.declared.memo.Call.{Call}
use Rattle.occ_dd.specs.declared.memo.Memo.{Memo}
use Rattle.occ_dd.specs.Store.{IsKnown, has}
use Rattle.occ_dd.specs.declared.set.SetId.{SetId}
use Rattle.occ_dd.specs.declared.store.Store.{Store}

-- a set for each bit
pub record AreDigits (s : Store) (digits : List SetId) : Type 0 where
  pub count : length digits ≡ 64
  pub known : All (IsKnown s) digits

-- y, but with the bits from one on as the sets say of x
abbrev pub put_from : Store → ℕ → List SetId → ℕ → ℕ → ℕ
put_from s bit [] x y = y
put_from s bit (set ∷ sets) x y = put_from s (bit + 1) sets x (with_bit y bit (digit s set x))

-- where the digits lead from an assignment
abbrev pub reached : Store → List SetId → ℕ → ℕ
reached s digits x = put_from s 0 digits x x

-- where the first digits, so many, lead
abbrev pub reached_by : Store → List SetId → ℕ → ℕ → ℕ
reached_by s digits n x = put_from s 0 (take n digits) x x

-- the members of r are those from which the first digits, so many, lead into the set
pub record IsComposed (s : Store) (digits : List SetId) (left : ℕ) (set r : SetId) : Type 0 where
  pub known : IsKnown s set
  pub there : IsKnown s r
  pub members : (x : ℕ) → has s r x ≡ has s set (reached_by s digits left x)

-- each remembered number is that of such a set
pub record KeepComposed (s : Store) (digits : List SetId) (memo : Memo) : Type 0 where
  pub each : (k : Call) (r : ℕ) → recalled memo k ≡ Some r → IsComposed s digits k.first (record { 0 = k.second }) (record { 0 = r })

-- the digits lead where the one list leads from members of the set, and where the other leads from others
pub record IsEither (s : Store) (set : SetId) (yes no digits : List SetId) : Type 0 where
  pub are : AreDigits s digits
  pub leads : (x : ℕ) → reached s digits x ≡ (if has s set x then reached s yes x else reached s no x)

-- the digits lead nowhere else
pub record IsIdentity (s : Store) (digits : List SetId) : Type 0 where
  pub are : AreDigits s digits
  pub stays : (x : ℕ) → reached s digits x ≡ x
