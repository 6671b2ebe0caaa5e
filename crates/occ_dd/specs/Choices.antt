use Rattle.std.specs.Prelude.{ℕ, ◌+◌, ◌<◌, ◌≤◌, ◌≡◌, ◌==◌, Bool, List, Some, length, max, if◌then◌else◌}
use Rattle.occ_dd.specs.Assignment.{with_bit}
use Rattle.occ_dd.specs.Memo.{recalled}
use Rattle.occ_dd.specs.Diagram.{depth_of, end_of}
use Rattle.occ_dd.specs.declared.memo.Call.{Call}
use Rattle.occ_dd.specs.declared.memo.Memo.{Memo}
use Rattle.occ_dd.specs.declared.node.Node.{Node}

-- the greatest depth of three functions
abbrev pub greatest_depth : List (Node Bool) → ℕ → ℕ → ℕ → ℕ
greatest_depth ns a b c = max (depth_of ns a) (max (depth_of ns b) (depth_of ns c))

-- r is b where a is full, and c elsewhere
pub record IsChoice (ns : List (Node Bool)) (full a b c r : ℕ) : Type 0 where
  pub first : a < length ns
  pub second : b < length ns
  pub third : c < length ns
  pub known : r < length ns
  pub depth : depth_of ns r ≤ greatest_depth ns a b c
  pub ends : (x : ℕ) → end_of ns r x ≡ (if end_of ns a x == full then end_of ns b x else end_of ns c x)

-- what is remembered of choices is right
abbrev pub AreChoices : List (Node Bool) → ℕ → Memo → Type 0
AreChoices ns full memo = (k : Call) (r : ℕ) → recalled memo k ≡ Some r → IsChoice ns full k.first k.second k.third r

-- r is the union of the parts of a at a bit
pub record IsUnion (ns : List (Node Bool)) (full a bit r : ℕ) : Type 0 where
  pub origin : a < length ns
  pub known : r < length ns
  pub depth : depth_of ns r ≤ depth_of ns a
  pub ends : (x : ℕ) → end_of ns r x ≡ (if end_of ns a (with_bit x bit 0) == full then full else end_of ns a (with_bit x bit 1))

-- what is remembered of unions is right
abbrev pub AreUnions : List (Node Bool) → ℕ → Memo → Type 0
AreUnions ns full memo = (k : Call) (r : ℕ) → recalled memo k ≡ Some r → IsUnion ns full k.first k.second r

-- no bit above this one matters to the three functions, and it matters to one of them
pub record IsTop (ns : List (Node Bool)) (a b c bit : ℕ) : Type 0 where
  pub within : bit < 64
  pub first : depth_of ns a ≤ bit + 1
  pub second : depth_of ns b ≤ bit + 1
  pub third : depth_of ns c ≤ bit + 1
  pub top : bit + 1 ≤ greatest_depth ns a b c
