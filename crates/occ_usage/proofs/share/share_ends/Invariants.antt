use Rattle.std.proofs.Common.{◌≡◌, ℕ, ◌||◌, ◌&&◌, drop}
use Rattle.occ_syntax.specs.occ_base.declared.event.Dir.{Dir}
use Rattle.occ_names.specs.Once.{has}
use Rattle.occ_names.specs.Mentions.{same_end, end_numbers}
use Rattle.occ_usage.proofs.share.share_ends.Given as goal

abbrev pub invariant-loop-end : goal.invariant-loop-end
invariant-loop-end l =
    (c : ℕ) (d : Dir) → (has same_end l.set (c, d) || (has same_end (end_numbers (drop l.end-index l.ends)) (c, d) && has same_end l.others (c, d)))
    ≡ (has same_end l.fn.set (c, d) || (has same_end (end_numbers l.ends) (c, d) && has same_end l.others (c, d)))
