use Rattle.std.proofs.Common.{◌≡◌, ◌++◌, ◌-◌}
use Rattle.occ_draw.specs.Pictures.{entries_text}
use Rattle.occ_draw.proofs.entries.push_entries.Given as goal

-- the text so far, with the entries that are left, is the whole
abbrev pub invariant-loop-number : goal.invariant-loop-number
invariant-loop-number l = l.text.items ++ entries_text l.params l.states l.number (l.count - l.number) ≡ l.fn.text.items ++ entries_text l.params l.states 0 l.count
