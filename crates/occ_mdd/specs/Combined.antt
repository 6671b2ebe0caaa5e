use Rattle.std.specs.Prelude.{ℕ, ◌+◌, ◌<◌, ◌≤◌, ◌≡◌, List, Option, None, Some, IfSome, length, max}
use Rattle.occ_dd.specs.Memo.{recalled}
use Rattle.occ_dd.specs.Diagram.{depth_of, IsPart}
use Rattle.occ_dd.specs.declared.memo.Call.{Call}
use Rattle.occ_dd.specs.declared.memo.Memo.{Memo}
use Rattle.occ_dd.specs.declared.node.Node.{Node}
use Rattle.occ_mdd.specs.Value.{value_at}

-- Two functions, the first and the second of a call, are combined.

-- both functions are there, and each of their labels passes a test
pub record Pass {L : Type 0} (ns : List (Node (Option L))) (call : Call) (test : L → Type 0) : Type 0 where
  pub first : call.first < length ns
  pub second : call.second < length ns
  pub first_labels : (x : ℕ) → IfSome (value_at ns call.first x) test
  pub second_labels : (x : ℕ) → IfSome (value_at ns call.second x) test

-- the greatest depth of both functions
abbrev pub deepest : {T : Type 0} → List (Node T) → Call → ℕ
deepest ns call = max (depth_of ns call.first) (depth_of ns call.second)

-- the values of r stand in a relation to those of both functions
pub record IsCombined {L : Type 0} (ns : List (Node (Option L))) (relates : Option L → Option L → Option L → Type 0) (call : Call) (r : ℕ) : Type 0 where
  pub first : call.first < length ns
  pub second : call.second < length ns
  pub known : r < length ns
  pub depth_bound : depth_of ns r ≤ deepest ns call
  pub related : (x : ℕ) → relates (value_at ns call.first x) (value_at ns call.second x) (value_at ns r x)

-- what is remembered is right
abbrev pub AreCombined : {L : Type 0} → List (Node (Option L)) → (Option L → Option L → Option L → Type 0) → Memo → Type 0
AreCombined ns relates memo = (k : Call) (r : ℕ) → recalled memo k ≡ Some r → IsCombined ns relates k r

-- the functions of one call are those of another where the bit is v
pub record ArePart {T : Type 0} (ns : List (Node T)) (part call : Call) (bit v : ℕ) : Type 0 where
  pub first : IsPart ns part.first call.first bit v
  pub second : IsPart ns part.second call.second bit v

-- the greatest bit that matters to one of the functions, and the calls on its two sides
pub record ArePair {T : Type 0} (ns : List (Node T)) (call : Call) (bit : ℕ) (low high : Call) : Type 0 where
  pub within : bit < 64
  pub top : bit + 1 ≤ deepest ns call
  pub low_part : ArePart ns low call bit 0
  pub high_part : ArePart ns high call bit 1

-- what becomes of a call: nothing where both functions are constant
pub record AreHalved {T : Type 0} (ns : List (Node T)) (call : Call) (halves : Option (ℕ × Call × Call)) : Type 0 where
  pub none : halves ≡ None → deepest ns call ≡ 0
  pub some : (pair : ℕ × Call × Call) → halves ≡ Some pair → ArePair ns call pair.0 pair.1 pair.2
