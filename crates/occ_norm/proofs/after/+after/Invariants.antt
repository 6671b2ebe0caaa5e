use Rattle.std.proofs.Common.{◌+◌, ◌*◌, ◌≤◌, ◌≡◌, true, drop, length}
use Rattle.occ_syntax.specs.Scopes.{Environment}
use Rattle.occ_syntax.specs.Tree.{select, seq}
use Rattle.occ_syntax.specs.Types.{branches_kept}
use Rattle.occ_syntax.specs.Usage.{KeepsUsage}
use Rattle.occ_syntax.specs.View.{tree, trees, cases, branches}
use Rattle.occ_syntax.proofs.Weights.{weight, weight_of_all, weight_of_cases, weight_of_branches}
use Rattle.occ_compare.specs.occ_dd.Store.{has}
use Rattle.occ_norm_par.specs.States.{AreBetween, AreLeft, set_at}
use Rattle.occ_norm.specs.From.{IsAfterFromIn}
use Rattle.occ_norm_alt.specs.occ_norm_frame.Maps.{Extends}
use Rattle.occ_norm_alt.specs.occ_norm_frame.After.{IsOver}
use Rattle.occ_norm_alt.specs.occ_norm_frame.Placed.{Fits, IsAround}
use Rattle.occ_norm_alt.specs.Alternation.{AreHeld, IsAlternation}
use Rattle.occ_norm_par.specs.Joined.{HaveNodes}
use Rattle.occ_norm.proofs.Beside.{AreMade}
use Rattle.occ_norm.proofs.Declaring.{Opens}
use Rattle.occ_norm.proofs.after.+after.Given as goal

abbrev pub decreases-after : goal.decreases-after
decreases-after l = 2 * weight (tree l.part.now) + 2

abbrev pub decreases-front : goal.decreases-front
decreases-front l = 2 * weight (tree l.part.now) + 1

abbrev pub decreases-undeclared : goal.decreases-undeclared
decreases-undeclared l = 2 * weight (tree l.part.now)

abbrev pub decreases-in_turn : goal.decreases-in_turn
decreases-in_turn l = 2 * weight_of_all (trees l.parts.now)

abbrev pub decreases-at_once : goal.decreases-at_once
decreases-at_once l = 2 * weight_of_all (trees l.parts.now) + 1

abbrev pub decreases-first_choice : goal.decreases-first_choice
decreases-first_choice l = 2 * weight_of_cases (cases l.choices.now)

abbrev pub decreases-alternated : goal.decreases-alternated
decreases-alternated l = 2 * weight_of_branches (branches l.alternatives.now) + 1

-- the declarations so far are in scope
abbrev pub invariant-front-loop-name : goal.invariant-front-loop-name
invariant-front-loop-name l = record {
  fits : Fits l.inner.vars (tree l.body);
  usage : KeepsUsage (tree l.body);
  left : weight (tree l.body) ≤ weight (tree l.part);
  more : l.frame.bits ≤ l.inner.bits;
  keep : l.inner.keep ≡ l.frame.keep;
  opens : Opens l.frame.vars l.frame.layout l.frame.bits l.frame.keep l.frame.closed.items (tree l.part) l.inner.vars l.inner.layout l.inner.bits l.inner.closed.items (tree l.body);
}

abbrev pub decreases-front-loop-name : goal.decreases-front-loop-name
decreases-front-loop-name l = weight (tree l.body)

abbrev pub invariant-in_turn-loop-left : goal.invariant-in_turn-loop-left
invariant-in_turn-loop-left l = record {
  extends : Extends l.fn.world l.world;
  over : IsOver l.world l.frame.bits l.map;
  below : l.left ≤ length l.parts;
  between : AreBetween l.world.store l.frame.vars l.frame.layout l.frame.bits l.fn.span.from l.parts l.sets.items;
  after : IsAfterFromIn l.world l.frame.vars l.frame.layout l.frame.keep l.frame.closed.items (has l.world.store (set_at l.sets.items l.left))
      (seq (trees (drop l.left l.parts))) l.fn.span.rest l.map;
}

abbrev pub decreases-in_turn-loop-left : goal.decreases-in_turn-loop-left
decreases-in_turn-loop-left l = l.left

abbrev pub invariant-first_choice-loop-left : goal.invariant-first_choice-loop-left
invariant-first_choice-loop-left l = record {
  extends : Extends l.fn.world l.world;
  over : IsOver l.world l.frame.bits l.map;
  below : l.left ≤ length l.choices;
  states : AreLeft l.world.store l.frame.layout l.frame.bits l.fn.span.from l.choices l.sets.items;
  after : IsAfterFromIn l.world l.frame.vars l.frame.layout l.frame.keep l.frame.closed.items (has l.world.store (set_at l.sets.items l.left))
      (select (cases (drop l.left l.choices))) l.fn.span.rest l.map;
}

abbrev pub decreases-first_choice-loop-left : goal.decreases-first_choice-loop-left
decreases-first_choice-loop-left l = l.left

abbrev pub invariant-at_once-loop-place : goal.invariant-at_once-loop-place
invariant-at_once-loop-place l = record {
  extends : Extends l.fn.world l.world;
  count : length l.maps.items ≡ l.place;
  nodes : HaveNodes l.world l.maps.items;
  made : AreMade l.world l.frame.vars l.frame.layout l.sides.all l.sides.users.items l.sides.writes.items l.place l.parts l.maps.items;
}

abbrev pub invariant-alternated-loop-left : goal.invariant-alternated-loop-left
invariant-alternated-loop-left l = record {
  extends : Extends l.fn.world l.world;
  maps : AreHeld l.world l.alternation.waiting l.alternation.ready;
  below : l.left ≤ length l.alternatives;
  alternation : (Γ : Environment) → IsAround Γ l.frame.vars → branches_kept (branches (drop l.left l.alternatives)) Γ ≡ true
      → IsAlternation l.world l.frame.layout l.frame.keep l.frame.closed.items Γ (branches (drop l.left l.alternatives)) l.rest l.alternation.waiting l.alternation.ready;
}

abbrev pub decreases-alternated-loop-left : goal.decreases-alternated-loop-left
decreases-alternated-loop-left l = l.left
