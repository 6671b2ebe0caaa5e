use Rattle.std.proofs.Common.{◌≡◌, drop}
use Rattle.std.specs.List.{list_any}
use Rattle.occ_names.specs.Captures.{is_captured}
use Rattle.occ_names.proofs.renaming.captures.Given as goal

abbrev pub invariant-loop-mention : goal.invariant-loop-mention
invariant-loop-mention l = list_any (is_captured l.old.0 l.new.0) (drop l.mention-index l.mention-items) ≡ list_any (is_captured l.old.0 l.new.0) l.mention-items
