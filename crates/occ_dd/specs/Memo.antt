use Rattle.std.specs.Prelude.{◌≡◌, ◌⊎◌, ◌&&◌, ◌==◌, ℕ, Bool, Option, Some}
use Rattle.std.specs.HashMap.{get}
use Rattle.occ_dd.specs.declared.memo.Call.{Call}
use Rattle.occ_dd.specs.declared.memo.Memo.{Memo}

abbrev pub same_call : Call → Call → Bool
same_call a b = a.first == b.first && (a.second == b.second && a.third == b.third)

-- the result that is remembered of a call
unfoldable pub recalled : Memo → Call → Option ℕ
recalled memo call = get same_call memo.results call

-- what is remembered afterwards was remembered before, or is the new result
abbrev pub Learns : Memo → Memo → Call → ℕ → Type 0
Learns old new call value = (k : Call) (r : ℕ) → recalled new k ≡ Some r → (recalled old k ≡ Some r) ⊎ ((k ≡ call) × (r ≡ value))
