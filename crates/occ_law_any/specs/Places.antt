-- How long the lists of a part are.
use Rattle.std.specs.Prelude.{ℕ}
use Rattle.occ_law_alt.specs.occ_law.Lists.{count, size, tally}
use Rattle.occ_syntax.specs.Tree.{Tree, skip, stop, assign, receive, send, seq, par, select, alt, declare, connect}

-- how many items the list of a part has
abbrev pub breadth_of : Tree → ℕ
breadth_of skip = 0
breadth_of stop = 0
breadth_of (assign xs es) = 0
breadth_of (receive c x) = 0
breadth_of (send c e) = 0
breadth_of (seq ps) = size ps
breadth_of (par ps) = size ps
breadth_of (select cs) = count cs
breadth_of (alt gs) = tally gs
breadth_of (declare x w p) = 0
breadth_of (connect c w p) = 0
