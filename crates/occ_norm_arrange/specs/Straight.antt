-- Which parts are straight: they don't communicate, and always end at once, in one state.
use Rattle.std.specs.Prelude.{Bool, true, false, ◌&&◌, ◌||◌}
use Rattle.occ_syntax.specs.Tree.{Exp, variable, numeral, truth, negation, complement, operation, Tree, skip, stop, assign, receive, send, seq, par, select, alt, declare, connect, Trees, no_tree, and_tree, Cases, no_case, and_case}

-- whether a condition is TRUE as it is written
abbrev pub always : Exp → Bool
always (variable x) = false
always (numeral bits value) = false
always (truth b) = b
always (negation e) = false
always (complement e) = false
always (operation op left right) = false

-- SKIP, an assignment, a SEQ of straight parts, and an IF of straight parts with a choice that is always taken where none in front
-- of it is
abbrev mutual
  pub straight : Tree → Bool
  straight skip = true
  straight stop = false
  straight (assign xs es) = true
  straight (receive c x) = false
  straight (send c e) = false
  straight (seq ps) = all_straight ps
  straight (par ps) = false
  straight (select cs) = leads_straight cs
  straight (alt bs) = false
  straight (declare x w p) = false
  straight (connect c w p) = false

  pub all_straight : Trees → Bool
  all_straight no_tree = true
  all_straight (and_tree p ps) = straight p && all_straight ps

  pub leads_straight : Cases → Bool
  leads_straight no_case = false
  leads_straight (and_case e p cs) = straight p && (always e || leads_straight cs)
