-- An order that is followed by a move, or can't be.
use Rattle.std.proofs.Common.{◌≡◌, List, Option, None, Some, sym, ap, subst, ◌∙◌}
use Rattle.occ_syntax.specs.occ_base.declared.names.Name.{Name}
use Rattle.occ_engine.specs.declared.fault.Stopped.{Stopped}
use Rattle.occ_engine.specs.declared.fault.Stopped.TheVariants as stopped
use Rattle.occ_engine.specs.declared.moving.Moved.{Moved}
use Rattle.occ_engine.specs.Moved.{IsMoved, IsNotDirect, IsNotGiven, IsNotTaken, IsTaken, move_of, wish_for}
use Rattle.occ_engine.specs.Resolved.{IsResolved, IsUnresolved}
use Rattle.occ_replay_rules.specs.Moves.{IsAdmitted, IsGranted}
use Rattle.occ_replay_rules.specs.Orders.{IsGiven, Order, direct_refused, given_refused, given_unjoined, no_direct, none_given, part_given}
use Rattle.occ_script_write.specs.occ_law.declared.table.LawId.{LawId}
use Rattle.occ_script_write.specs.occ_meaning.Context.{part_at}
use Rattle.occ_script.specs.occ_parse_part.Parts.{Part}
use Rattle.occ_script.specs.occ_parse_part.Resolving.{part_fault, part_process}
use Rattle.occ_replay_rules.specs.Steps.{Joins}
use Rattle.occ_script_write.specs.occ_script_lines.Places.{scope_list}
use Rattle.occ_syntax.specs.declared.scope.Kind.{Kind}
use Rattle.occ_syntax.specs.declared.scope.Program.{Program}
use Rattle.occ_syntax.specs.Tree.{Tree}
use Rattle.occ_syntax.specs.View.{tree}

abbrev scope_of : Program → Order → List (Name × Kind)
scope_of program order = scope_list order.path program.params (tree program.body)

-- a move for the wish of an order follows it
pub order_taken : (program : Program) (order : Order) (law : LawId) (wanted : Option Tree) (moved : Moved) → order.law ≡ Some law.0
    → IsGiven (scope_of program order) order.part wanted → IsMoved program (wish_for law order.dir order.path wanted) moved → IsTaken program order moved
order_taken program order law wanted moved named given m = record {
  followed = record {
    named = named ∙ ap Some (sym m.granted.law);
    wanted = wanted;
    given = given;
    granted = subst (λ n. IsGranted program.params (tree program.body) (record { law = n; dir = order.dir; path = order.path; wanted = wanted }) (move_of moved.done))
        (sym m.granted.law) m.granted;
  };
  to = m.to;
}

-- ---- an order that gives a part

-- the part that it gives, as it was read, and the process that it is in the scope there
pub part_is_given : (S T : List (Name × Kind)) (o : Option Part) (part : Part) (p : Tree) → S ≡ T → o ≡ Some part → IsResolved S part p → IsGiven T o (Some p)
part_is_given S T o part p e named found =
    subst (λ z. IsGiven T z (Some p)) (sym named)
    (subst (λ z. IsGiven T (Some part) (Some z)) (sym (found.process ∙ ap (part_process part) e)) (part_given part (subst (λ z. part_fault part z ≡ None) e found.faultless)))

pub given_taken : (program : Program) (order : Order) (law : LawId) (S : List (Name × Kind)) (part : Part) (p : Tree) (moved : Moved) → order.law ≡ Some law.0
    → order.part ≡ Some part → S ≡ scope_of program order → IsResolved S part p → IsMoved program (wish_for law order.dir order.path (Some p)) moved → IsTaken program order moved
given_taken program order law S part p moved named holds e found m =
    order_taken program order law (Some p) moved named (part_is_given S (scope_of program order) order.part part p e holds found) m

pub unresolved_fails : (program : Program) (order : Order) (law : LawId) (S : List (Name × Kind)) (old : Tree) (part : Part) (s : Stopped) → order.law ≡ Some law.0
    → part_at order.path (tree program.body) ≡ Some old → order.part ≡ Some part → S ≡ scope_of program order → IsUnresolved S part s → IsNotTaken program order s
unresolved_fails program order law S old part stopped.NotAccepted named there holds e none =
    given_refused law.0 old part named there holds (λ f a. none (subst (λ T. part_fault part T ≡ None) (sym e) f))
unresolved_fails program order law S old part stopped.Memory named there holds e none = tt
unresolved_fails program order law S old part stopped.NoLaw named there holds e none = absurd none
unresolved_fails program order law S old part stopped.NoPath named there holds e none = absurd none
unresolved_fails program order law S old part stopped.NotApplicable named there holds e none = absurd none

pub given_fails : (program : Program) (order : Order) (law : LawId) (S : List (Name × Kind)) (old : Tree) (part : Part) (p : Tree) (s : Stopped) → order.law ≡ Some law.0
    → part_at order.path (tree program.body) ≡ Some old → order.part ≡ Some part → S ≡ scope_of program order → IsResolved S part p
    → IsNotGiven program law order.dir order.path p s → IsNotTaken program order s
given_fails program order law S old part p stopped.NotAccepted named there holds e found none =
    given_refused law.0 old part named there holds (λ f a.
    none (subst (IsAdmitted program.params (tree program.body) order.path) (sym (found.process ∙ ap (part_process part) e)) a))
given_fails program order law S old part p stopped.NotApplicable named there holds e found u =
    let same = found.process ∙ ap (part_process part) e in
    given_unjoined law.0 u.old part named u.there holds (subst (λ T. part_fault part T ≡ None) e found.faultless)
    (subst (IsAdmitted program.params (tree program.body) order.path) same u.admitted)
    (λ j. u.apart (subst (Joins order.dir law.0 (scope_of program order) u.old) (sym same) j))
given_fails program order law S old part p stopped.Memory named there holds e found none = tt
given_fails program order law S old part p stopped.NoLaw named there holds e found none = absurd none
given_fails program order law S old part p stopped.NoPath named there holds e found none = absurd none

-- ---- an order that gives none

pub direct_taken : (program : Program) (order : Order) (law : LawId) (moved : Moved) → order.law ≡ Some law.0 → order.part ≡ None
    → IsMoved program (wish_for law order.dir order.path None) moved → IsTaken program order moved
direct_taken program order law moved named holds m =
    order_taken program order law None moved named (subst (λ z. IsGiven (scope_of program order) z None) (sym holds) none_given) m

pub direct_fails : (program : Program) (order : Order) (law : LawId) (s : Stopped) → order.law ≡ Some law.0 → order.part ≡ None
    → IsNotDirect program law order.dir order.path s → IsNotTaken program order s
direct_fails program order law stopped.NotApplicable named holds n = no_direct law.0 n.old named n.there holds n.none
direct_fails program order law stopped.NotAccepted named holds n = direct_refused law.0 n.old n.new named n.there holds n.applied n.refused
direct_fails program order law stopped.Memory named holds n = tt
direct_fails program order law stopped.NoLaw named holds n = absurd n
direct_fails program order law stopped.NoPath named holds n = absurd n
