use Rattle.std.proofs.Common.{◌≡◌, ◌+◌, ◌++◌, [], length, drop, sym, ap, subst, ◌∙◌, arith}
use Rattle.occ_syntax.specs.Tree.{no_tree, no_case, no_branch}
use Rattle.occ_syntax.specs.View.{tree, trees, cases, branches, in_procs, in_choices, in_alternatives}
use Rattle.occ_parse_forms.specs.Shape.{shape, said}
use Rattle.occ_parse_forms.proofs.from_lex.Interned.{extends_trans, longer}
use Rattle.occ_parse_rules.specs.Forest.{forest}
use Rattle.occ_parse_rules.specs.Places.{declared_in, entries_of}
use Rattle.occ_parse_rules.specs.Unrolled.{all_named, as_parts, branches_then, cases_then, first_tree, process, trees_then, unrolled}
use Rattle.occ_syntax.specs.Declarations.{declaring_all}
use Rattle.occ_parse_unroll.specs.Known.{AreKnownLines, IsKnownLine}
use Rattle.occ_parse_unroll.specs.Numbers.{numbering}
use Rattle.occ_parse_unroll.specs.Present.{values_of}
use Rattle.occ_parse_unroll.specs.Sizes.{sizes}
use Rattle.occ_parse_unroll.proofs.Known.{all_declared_known, line_known, lines_known}
use Rattle.occ_parse_unroll.proofs.Lines.{lines_at, lines-and, lines_done}
use Rattle.occ_parse_unroll.proofs.Results.{on_ok}
use Rattle.occ_parse_unroll.proofs.Pieces.{trees_then-none, cases_then-none, branches_then-none, trees_then-assoc, cases_then-assoc, branches_then-assoc, no_choice, no_alternative, one_choice, one_alternative, nested_choices, nested_alternatives, parts_behind, part_more, choice_more, alternative_more, copy_more, copies_done, empty_choices, empty_alternatives, Widens, widens_same, widens_behind, closed, left_again, values_again, seq_of, par_of, if_of, alt_of, tree-Skip}
use Rattle.occ_parse_unroll.specs.Elements.{all_places, as_slots, elements, brought}
use Rattle.occ_parse_unroll.proofs.Elements.{first_behind, slots_behind, slots_here, case_more, branch_more, copy_table, guard_table, nested_alt_table, no_branch_table, no_branch_copies, condition_table, nested_if_table, no_case_table, no_case_copies, copies_last}
use Rattle.occ_parse_unroll.proofs.unrolling.+unroll.Goals as goal
use Rattle.occ_parse_unroll.proofs.unrolling.+unroll.Goals.{add_slots-in-Some+in_ok-declare-in-Some, add_slots-in-None+in_ok-part-in-None+in_ok-within-in-None+in_ok-push-in-None}

pub slot-declare-requires : goal.slot-declare-requires
slot-declare-requires g t c =
    let e = lines_at _ _ _ _ _ _ c.loop-node-test.true c.node-item.is c.seen.ensures in
    let k = λ (n : g.S.Numbering.asks c.args.source.now). subst (AreKnownLines (length c.args.names.now)) e (c.loop-node.invariant.known n) in
    λ n.
    let here = subst (IsKnownLine (length c.args.names.now)) c.in-Some.ensures (k n).0 in
    let later = all_declared_known _ _ c.in-Some.d.now.declared (longer _ _ c.loop-node.invariant.grown) here in
    rw c.items.ensures later

pub add_slots-declare-requires : goal.add_slots-declare-requires
add_slots-declare-requires g t c =
    let e = lines_at _ _ _ _ _ _ c.loop-node-test.true c.node-item.is c.seen.ensures in
    let k = λ (n : g.S.Numbering.asks c.args.source.now). subst (AreKnownLines (length c.args.names.now)) e (c.loop-node.invariant.known n) in
    λ n.
    let here = subst (IsKnownLine (length c.args.names.now)) c.in-Some.ensures (k n).0 in
    let later = all_declared_known _ _ c.in-Some.d.now.declared (longer _ _ c.loop-node.invariant.grown) here in
    rw c.items.ensures later

pub slot-process-requires : goal.slot-process-requires
slot-process-requires g t c κs within =
    let e = lines_at _ _ _ _ _ _ c.loop-node-test.true c.node-item.is c.seen.ensures in
    let k = λ (n : g.S.Numbering.asks c.args.source.now). subst (AreKnownLines (length c.args.names.now)) e (c.loop-node.invariant.known n) in
    let le = longer _ _ c.loop-node.invariant.grown in
    (omega (arith, lines-and _ _ _ _ _ e, c.decreases, c.loop-node.invariant.left), (within, ((λ n. line_known _ _ (shape c.seen.result.1.now) le (k n).0), (λ n. lines_known _ _ (forest c.seen.result.2.now) le (k n).1))))

pub add_slots-process-requires : goal.add_slots-process-requires
add_slots-process-requires g t c κs within =
    let e = lines_at _ _ _ _ _ _ c.loop-node-test.true c.node-item.is c.seen.ensures in
    let k = λ (n : g.S.Numbering.asks c.args.source.now). subst (AreKnownLines (length c.args.names.now)) e (c.loop-node.invariant.known n) in
    let le = longer _ _ c.loop-node.invariant.grown in
    (omega (arith, lines-and _ _ _ _ _ e, c.decreases, c.loop-node.invariant.left), (within, ((λ n. line_known _ _ (shape c.seen.result.1.now) le (k n).0), (λ n. lines_known _ _ (forest c.seen.result.2.now) le (k n).1))))

pub add_choices-add_choice-requires : goal.add_choices-add_choice-requires
add_choices-add_choice-requires g t c κs within =
    let e = lines_at _ _ _ _ _ _ c.loop-node-test.true c.node-item.is c.seen.ensures in
    let k = λ (n : g.S.Numbering.asks c.args.source.now). subst (AreKnownLines (length c.args.names.now)) e (c.loop-node.invariant.known n) in
    let le = longer _ _ c.loop-node.invariant.grown in
    (omega (arith, lines-and _ _ _ _ _ e, c.decreases, c.loop-node.invariant.left), (within, ((λ n. line_known _ _ (shape c.seen.result.1.now) le (k n).0), (λ n. lines_known _ _ (forest c.seen.result.2.now) le (k n).1))))

pub add_alternatives-add_alternative-requires : goal.add_alternatives-add_alternative-requires
add_alternatives-add_alternative-requires g t c κs within =
    let e = lines_at _ _ _ _ _ _ c.loop-node-test.true c.node-item.is c.seen.ensures in
    let k = λ (n : g.S.Numbering.asks c.args.source.now). subst (AreKnownLines (length c.args.names.now)) e (c.loop-node.invariant.known n) in
    let le = longer _ _ c.loop-node.invariant.grown in
    (omega (arith, lines-and _ _ _ _ _ e, c.decreases, c.loop-node.invariant.left), (within, ((λ n. line_known _ _ (shape c.seen.result.1.now) le (k n).0), (λ n. lines_known _ _ (forest c.seen.result.2.now) le (k n).1))))

-- ---- alternatives

pub add_alternative-slot-requires : goal.add_alternative-slot-requires
add_alternative-slot-requires g t c κs within = (omega (arith, c.decreases), (within, (λ n. lines_known _ _ (forest c.args.below.now) (longer _ _ c.in_ok-guard.ensures.extends) (c.requires.below n))))

pub add_alternative-returns-then-is_guard-clause-list :
    goal.add_alternative-returns-then-is_guard-clause-list
add_alternative-returns-then-is_guard-clause-list g t c = λ t' f.
    let h' = extends_trans _ _ _ c.in_ok-part.ensures.extends f in
    one_alternative (numbering (g.S.Numbering.number c.args.source.now t')) (shape c.args.form.now) (unrolled (numbering (g.S.Numbering.number c.args.source.now t')) (forest c.args.below.now)) c.args.context.now.scopes (values_of c.args.context.now.values) (in_alternatives c.args.list.now) (in_alternatives c.push.new.self) c.in_ok-guard.guard c.in_ok-part.part
    (sym c.if-is_guard.ensures) (c.in_ok-guard.ensures.condition t' h') (c.in_ok-guard.ensures.wait t' h') (c.in_ok-part.ensures.tree t' f) c.in_ok-push.ensures.ok

pub add_alternative-returns-in-Some-clause-list : goal.add_alternative-returns-in-Some-clause-list
add_alternative-returns-in-Some-clause-list g t c =
    on_ok c.add_alternative_copies.result _ _
    (λ h t' f. nested_alternatives (numbering (g.S.Numbering.number c.args.source.now t')) (shape c.args.form.now) (unrolled (numbering (g.S.Numbering.number c.args.source.now t')) (forest c.args.below.now)) c.args.context.now.scopes (values_of c.args.context.now.values) c.in-Some.times (branches (in_alternatives c.args.list.now)) (branches (in_alternatives c.add_alternative_copies.new.list)) c.in-Some.ensures (h t' f))
    c.add_alternative_copies.ensures.list

pub add_alternative-returns-in-None-clause-list : goal.add_alternative-returns-in-None-clause-list
add_alternative-returns-in-None-clause-list g t c = λ t' f.
    sym (ap (branches_then (branches (in_alternatives c.args.list.now))) (no_alternative (numbering (g.S.Numbering.number c.args.source.now t')) (shape c.args.form.now) (unrolled (numbering (g.S.Numbering.number c.args.source.now t')) (forest c.args.below.now)) c.args.context.now.scopes (values_of c.args.context.now.values) (sym c.if-is_guard.ensures) c.in-None.ensures)
    ∙ branches_then-none (branches (in_alternatives c.args.list.now)))

pub add_alternative_copies-returns-then-alternatives-eq0-clause-list :
    goal.add_alternative_copies-returns-then-alternatives-eq0-clause-list
add_alternative_copies-returns-then-alternatives-eq0-clause-list g t c = λ t' f.
    let z : (sizes (forest c.args.below.now)).branches ≡ 0 = omega (arith, c.if-alternatives-eq0.true, c.alternatives.ensures) in
    empty_alternatives (numbering (g.S.Numbering.number c.args.source.now t')) (forest c.args.below.now) c.args.times c.args.context.now.scopes (values_of c.args.context.now.values) (branches (in_alternatives c.args.list.now)) z

-- ---- choices

pub add_choice-slot-requires : goal.add_choice-slot-requires
add_choice-slot-requires g t c κs within = (omega (arith, c.decreases), (within, (λ n. lines_known _ _ (forest c.args.below.now) (longer _ _ c.in_ok-condition.ensures.extends) (c.requires.below n))))

pub add_choice-returns-in-Some-clause-list : goal.add_choice-returns-in-Some-clause-list
add_choice-returns-in-Some-clause-list g t c = λ t' f.
    let h' = extends_trans _ _ _ c.in_ok-part.ensures.extends f in
    one_choice (numbering (g.S.Numbering.number c.args.source.now t')) (shape c.args.form.now) (unrolled (numbering (g.S.Numbering.number c.args.source.now t')) (forest c.args.below.now)) c.args.context.now.scopes (values_of c.args.context.now.values) (said c.in-Some.phrase.now) (in_choices c.args.list.now) (in_choices c.push.new.self) c.in_ok-condition.condition c.in_ok-part.part
    c.in-Some.ensures (c.in_ok-condition.ensures.expression t' h') (c.in_ok-part.ensures.tree t' f) c.in_ok-push.ensures.ok

pub add_choice-returns-in-Some-nested-clause-list :
    goal.add_choice-returns-in-Some-nested-clause-list
add_choice-returns-in-Some-nested-clause-list g t c =
    on_ok c.add_choice_copies.result _ _
    (λ h t' f. nested_choices (numbering (g.S.Numbering.number c.args.source.now t')) (shape c.args.form.now) (unrolled (numbering (g.S.Numbering.number c.args.source.now t')) (forest c.args.below.now)) c.args.context.now.scopes (values_of c.args.context.now.values) c.in-Some-nested.times (cases (in_choices c.args.list.now)) (cases (in_choices c.add_choice_copies.new.list)) c.in-Some-nested.ensures (h t' f))
    c.add_choice_copies.ensures.list

pub add_choice-returns-in-None-clause-list : goal.add_choice-returns-in-None-clause-list
add_choice-returns-in-None-clause-list g t c = λ t' f.
    sym (ap (cases_then (cases (in_choices c.args.list.now))) (no_choice (numbering (g.S.Numbering.number c.args.source.now t')) (shape c.args.form.now) (unrolled (numbering (g.S.Numbering.number c.args.source.now t')) (forest c.args.below.now)) c.args.context.now.scopes (values_of c.args.context.now.values) c.in_default.ensures c.in-None.ensures)
    ∙ cases_then-none (cases (in_choices c.args.list.now)))

pub add_choice_copies-returns-then-choices-eq0-clause-list :
    goal.add_choice_copies-returns-then-choices-eq0-clause-list
add_choice_copies-returns-then-choices-eq0-clause-list g t c = λ t' f.
    let z : (sizes (forest c.args.below.now)).cases ≡ 0 = omega (arith, c.if-choices-eq0.true, c.choices.ensures) in
    empty_choices (numbering (g.S.Numbering.number c.args.source.now t')) (forest c.args.below.now) c.args.times c.args.context.now.scopes (values_of c.args.context.now.values) (cases (in_choices c.args.list.now)) z

-- ---- constructs

pub construct-returns-in_ok-add_slot_copies-in-Seq-clause-tree :
    goal.construct-returns-in_ok-add_slot_copies-in-Seq-clause-tree
construct-returns-in_ok-add_slot_copies-in-Seq-clause-tree g t c = λ t' f.
    seq_of _ (in_procs c.new-parts.result) c.args.group c.args.times (unrolled (numbering (g.S.Numbering.number c.args.source.now t')) (forest c.args.below.now)) c.args.context.now.scopes (values_of c.args.context.now.values) c.in-Seq.is c.new-parts.ensures (c.in_ok-add_slot_copies-in-Seq.ensures.parts t' f)

pub construct-returns-in_ok-add_slot_copies-in-Par-clause-tree :
    goal.construct-returns-in_ok-add_slot_copies-in-Par-clause-tree
construct-returns-in_ok-add_slot_copies-in-Par-clause-tree g t c = λ t' f.
    par_of _ (in_procs c.new-parts-in-Par.result) c.args.group c.args.times (unrolled (numbering (g.S.Numbering.number c.args.source.now t')) (forest c.args.below.now)) c.args.context.now.scopes (values_of c.args.context.now.values) c.in-Par.is c.new-parts-in-Par.ensures (c.in_ok-add_slot_copies-in-Par.ensures.parts t' f)

pub construct-returns-in_ok-add_choice_copies-in-If-clause-tree :
    goal.construct-returns-in_ok-add_choice_copies-in-If-clause-tree
construct-returns-in_ok-add_choice_copies-in-If-clause-tree g t c = λ t' f.
    if_of _ (in_choices c.new-list.result) c.args.group c.args.times (unrolled (numbering (g.S.Numbering.number c.args.source.now t')) (forest c.args.below.now)) c.args.context.now.scopes (values_of c.args.context.now.values) c.in-If.is c.new-list.ensures (c.in_ok-add_choice_copies-in-If.ensures.list t' f)

pub construct-returns-in_ok-add_alternative_copies-in-Alt-clause-tree :
    goal.construct-returns-in_ok-add_alternative_copies-in-Alt-clause-tree
construct-returns-in_ok-add_alternative_copies-in-Alt-clause-tree g t c = λ t' f.
    alt_of _ (in_alternatives c.new-list-in-Alt.result) c.args.group c.args.times (unrolled (numbering (g.S.Numbering.number c.args.source.now t')) (forest c.args.below.now)) c.args.context.now.scopes (values_of c.args.context.now.values) c.in-Alt.is c.new-list-in-Alt.ensures (c.in_ok-add_alternative_copies-in-Alt.ensures.list t' f)

-- ---- line by line

pub slot-loop-node-preserved : goal.slot-loop-node-preserved
slot-loop-node-preserved g t c =
    let e = lines_at _ _ _ _ _ _ c.loop-node-test.true c.node-item.is c.seen.ensures in
    let k = λ (n : g.S.Numbering.asks c.args.source.now). subst (AreKnownLines (length c.args.names.now)) e (c.loop-node.invariant.known n) in
    let d = c.in-Some.d.now in
    let s = c.in_ok-declare-in-Some.ensures in
    let scopes = s.scopes ∙ ap (λ ds. declared_in c.loop-node.context.scopes (entries_of d.kind ds)) c.items.ensures in
    record {
      whole = λ t' f.
          ap first_tree (parts_behind (numbering (g.S.Numbering.number c.args.source.now t')) _ _ _ _ _ e d.kind d.declared c.args.context.now.scopes c.loop-node.context.scopes _ c.loop-node.waiting _ (values_of c.args.context.now.values)
          c.in-Some.ensures scopes (s.waiting t' f ∙ ap (λ ds. c.loop-node.waiting ++ all_named (numbering (g.S.Numbering.number c.args.source.now t')) d.kind ds) c.items.ensures))
          ∙ c.loop-node.invariant.whole t' (extends_trans _ _ _ s.extends f);
      values = s.values ∙ c.loop-node.invariant.values;
      scopes = widens_behind c.args.context.now.scopes c.loop-node.context.scopes _ (entries_of d.kind d.declared) scopes c.loop-node.invariant.scopes;
      deep = c.loop-node.invariant.deep;
      known = λ n. (k n).2;
      table = first_behind (g.S.Numbering.brings c.args.source.now) _ _ _ _ _ e d.kind d.declared c.loop-node.context.scopes _ (values_of c.args.context.now.values) _ _ _ c.in-Some.ensures scopes (s.table ∙ ap (λ ds. brought (g.S.Numbering.brings c.args.source.now) c.loop-node.names (all_places ds)) c.items.ensures) c.loop-node.invariant.table;
      grown = extends_trans _ _ _ c.loop-node.invariant.grown s.extends;
      left = omega (arith, lines-and _ _ _ _ _ e, c.loop-node.invariant.left);
    }

pub add_slots-loop-node-preserved : goal.add_slots-loop-node-preserved
add_slots-loop-node-preserved g t c =
    let e = lines_at _ _ _ _ _ _ c.loop-node-test.true c.node-item.is c.seen.ensures in
    let k = λ (n : g.S.Numbering.asks c.args.source.now). subst (AreKnownLines (length c.args.names.now)) e (c.loop-node.invariant.known n) in
    elim c.match-declaration.branch [
      | add_slots-in-Some+in_ok-declare-in-Some w ↦
          let d = w.in-Some.d.now in
          let s = w.in_ok-declare-in-Some.ensures in
          let scopes = s.scopes ∙ ap (λ ds. declared_in c.loop-node.context.scopes (entries_of d.kind ds)) w.items.ensures in
          rw (w.names-is, w.context-is, w.parts-is, w.waiting-is) (record {
            whole = λ t' f.
                ap (trees_then (trees (in_procs c.loop-node.parts))) (parts_behind (numbering (g.S.Numbering.number c.args.source.now t')) _ _ _ _ _ e d.kind d.declared c.args.context.now.scopes c.loop-node.context.scopes _ c.loop-node.waiting _ (values_of c.args.context.now.values)
                w.in-Some.ensures scopes (s.waiting t' f ∙ ap (λ ds. c.loop-node.waiting ++ all_named (numbering (g.S.Numbering.number c.args.source.now t')) d.kind ds) w.items.ensures))
                ∙ c.loop-node.invariant.whole t' (extends_trans _ _ _ s.extends f);
            values = s.values ∙ c.loop-node.invariant.values;
            scopes = widens_behind c.args.context.now.scopes c.loop-node.context.scopes _ (entries_of d.kind d.declared) scopes c.loop-node.invariant.scopes;
            deep = c.loop-node.invariant.deep;
            known = λ n. (k n).2;
            table = slots_behind (g.S.Numbering.brings c.args.source.now) _ _ _ _ _ e d.kind d.declared c.args.context.now.scopes c.loop-node.context.scopes _ (values_of c.args.context.now.values) _ _ _ w.in-Some.ensures scopes (s.table ∙ ap (λ ds. brought (g.S.Numbering.brings c.args.source.now) c.loop-node.names (all_places ds)) w.items.ensures) c.loop-node.invariant.table;
            grown = extends_trans _ _ _ c.loop-node.invariant.grown s.extends;
            left = omega (arith, lines-and _ _ _ _ _ e, c.loop-node.invariant.left);
          })
      | add_slots-in-None+in_ok-part-in-None+in_ok-within-in-None+in_ok-push-in-None w ↦
          let p = w.in_ok-part-in-None.ensures in
          let outer = c.args.context.now.scopes in
          let ρ = values_of c.args.context.now.values in
          let shut : w.close.new.self ≡ outer = closed _ _ _ _ _ c.loop-node.invariant.scopes c.loop-node.invariant.deep p.scopes w.close.ensures in
          rw (w.names-is, w.context-is, w.parts-is, w.waiting-is, w.new-waiting-in-None.ensures) (record {
            whole = λ t' f.
                ap (λ Θ. trees_then (trees (in_procs w.push.new.self)) ((unrolled (numbering (g.S.Numbering.number c.args.source.now t')) (forest (drop (c.loop-node.node-index + 1) c.args.nodes.now))).parts outer Θ [] ρ)) shut
                ∙ part_more (numbering (g.S.Numbering.number c.args.source.now t')) _ _ _ _ _ e outer c.loop-node.context.scopes c.loop-node.waiting ρ (in_procs c.loop-node.parts) (in_procs w.push.new.self) w.in_ok-within-in-None.field-0 (tree w.in_ok-part-in-None.part) _
                w.in-None.ensures
                (p.tree t' f ∙ ap (λ vs. process (numbering (g.S.Numbering.number c.args.source.now t')) (shape c.seen.result.1.now) (unrolled (numbering (g.S.Numbering.number c.args.source.now t')) (forest c.seen.result.2.now)) c.loop-node.context.scopes (values_of vs)) c.loop-node.invariant.values)
                (w.in_ok-within-in-None.ensures ∙ ap (λ ds. declaring_all ds (tree w.in_ok-part-in-None.part)) w.items-in-None.ensures)
                w.in_ok-push-in-None.ensures.ok
                (c.loop-node.invariant.whole t' (extends_trans _ _ _ p.extends f));
            values = p.values ∙ c.loop-node.invariant.values;
            scopes = subst (Widens outer) (sym shut) (widens_same outer);
            deep = c.loop-node.invariant.deep;
            known = λ n. (k n).2;
            table = slots_here (g.S.Numbering.brings c.args.source.now) _ _ _ _ _ e outer c.loop-node.context.scopes _ c.loop-node.context.values c.args.context.now.values _ _ _ w.in-None.ensures c.loop-node.invariant.values shut p.table c.loop-node.invariant.table;
            grown = extends_trans _ _ _ c.loop-node.invariant.grown p.extends;
            left = omega (arith, lines-and _ _ _ _ _ e, c.loop-node.invariant.left);
          })
    ]

pub add_choices-loop-node-preserved : goal.add_choices-loop-node-preserved
add_choices-loop-node-preserved g t c =
    let e = lines_at _ _ _ _ _ _ c.loop-node-test.true c.node-item.is c.seen.ensures in
    let k = λ (n : g.S.Numbering.asks c.args.source.now). subst (AreKnownLines (length c.args.names.now)) e (c.loop-node.invariant.known n) in
    let s = c.in_ok-add_choice.ensures in
    record {
      whole = λ t' f.
          choice_more (numbering (g.S.Numbering.number c.args.source.now t')) _ _ _ _ _ e c.args.context.now.scopes c.loop-node.context.scopes c.args.context.now.values c.loop-node.context.values (cases (in_choices c.loop-node.list)) (cases (in_choices c.add_choice.new.list)) _
          c.loop-node.invariant.scopes c.loop-node.invariant.values (s.list t' f) (c.loop-node.invariant.whole t' (extends_trans _ _ _ s.extends f));
      values = s.values ∙ c.loop-node.invariant.values;
      scopes = s.scopes ∙ c.loop-node.invariant.scopes;
      known = λ n. (k n).2;
      table = case_more (g.S.Numbering.brings c.args.source.now) _ _ _ _ _ e c.args.context.now.scopes c.loop-node.context.scopes c.args.context.now.values c.loop-node.context.values _ _ _ c.loop-node.invariant.scopes c.loop-node.invariant.values s.table c.loop-node.invariant.table;
      grown = extends_trans _ _ _ c.loop-node.invariant.grown s.extends;
      left = omega (arith, lines-and _ _ _ _ _ e, c.loop-node.invariant.left);
    }

pub add_alternatives-loop-node-preserved : goal.add_alternatives-loop-node-preserved
add_alternatives-loop-node-preserved g t c =
    let e = lines_at _ _ _ _ _ _ c.loop-node-test.true c.node-item.is c.seen.ensures in
    let k = λ (n : g.S.Numbering.asks c.args.source.now). subst (AreKnownLines (length c.args.names.now)) e (c.loop-node.invariant.known n) in
    let s = c.in_ok-add_alternative.ensures in
    record {
      whole = λ t' f.
          alternative_more (numbering (g.S.Numbering.number c.args.source.now t')) _ _ _ _ _ e c.args.context.now.scopes c.loop-node.context.scopes c.args.context.now.values c.loop-node.context.values (branches (in_alternatives c.loop-node.list)) (branches (in_alternatives c.add_alternative.new.list)) _
          c.loop-node.invariant.scopes c.loop-node.invariant.values (s.list t' f) (c.loop-node.invariant.whole t' (extends_trans _ _ _ s.extends f));
      values = s.values ∙ c.loop-node.invariant.values;
      scopes = s.scopes ∙ c.loop-node.invariant.scopes;
      known = λ n. (k n).2;
      table = branch_more (g.S.Numbering.brings c.args.source.now) _ _ _ _ _ e c.args.context.now.scopes c.loop-node.context.scopes c.args.context.now.values c.loop-node.context.values _ _ _ c.loop-node.invariant.scopes c.loop-node.invariant.values s.table c.loop-node.invariant.table;
      grown = extends_trans _ _ _ c.loop-node.invariant.grown s.extends;
      left = omega (arith, lines-and _ _ _ _ _ e, c.loop-node.invariant.left);
    }

-- ---- copy by copy

pub add_slot_copies-add_slots-requires-in-loop-copy : goal.add_slot_copies-add_slots-requires-in-loop-copy
add_slot_copies-add_slots-requires-in-loop-copy g t c κs within = (omega (arith, c.decreases), (within, (λ n. lines_known _ _ (forest c.args.below.now) (longer _ _ c.loop-copy.invariant.grown) (c.requires n))))

pub add_slot_copies-loop-copy-preserved : goal.add_slot_copies-loop-copy-preserved
add_slot_copies-loop-copy-preserved g t c =
    let s = c.in_ok-add_slots.ensures in
    record {
      whole = λ t' f.
          copy_more trees_then no_tree trees_then-assoc trees_then-none c.in-Some.times c.args.context.now.scopes c.loop-copy.context.scopes c.enter.new.self.scopes c.args.context.now.values c.loop-copy.context.values c.enter.new.self.values c.loop-copy.copy
          (as_parts (unrolled (numbering (g.S.Numbering.number c.args.source.now t')) (forest c.args.below.now))) (trees (in_procs c.loop-copy.parts)) (trees (in_procs c.add_slots-in-loop-copy.new.parts)) _
          c.loop-copy.invariant.scopes c.loop-copy.invariant.values c.in_ok-enter.ensures.scopes c.in_ok-enter.ensures.values c.loop-copy-test.true (s.parts t' f) (c.loop-copy.invariant.whole t' (extends_trans _ _ _ s.extends f));
      values = values_again _ _ _ _ _ c.in_ok-enter.ensures.values s.values c.leave.ensures.values ∙ c.loop-copy.invariant.values;
      scopes = left_again _ _ _ _ _ c.in_ok-enter.ensures.scopes s.scopes c.leave.ensures.scopes ∙ c.loop-copy.invariant.scopes;
      table = copy_table (g.S.Numbering.brings c.args.source.now) c.in-Some.times c.args.context.now.scopes c.loop-copy.context.scopes c.enter.new.self.scopes c.args.context.now.values c.loop-copy.context.values c.enter.new.self.values c.loop-copy.copy (as_slots (elements (forest c.args.below.now))) _ _ _
          c.loop-copy.invariant.scopes c.loop-copy.invariant.values c.in_ok-enter.ensures.scopes c.in_ok-enter.ensures.values c.loop-copy-test.true s.table c.loop-copy.invariant.table;
      grown = extends_trans _ _ _ c.loop-copy.invariant.grown s.extends;
    }

pub add_choice_copies-add_choices-requires-in-loop-copy : goal.add_choice_copies-add_choices-requires-in-loop-copy
add_choice_copies-add_choices-requires-in-loop-copy g t c κs within = (omega (arith, c.decreases), (within, (λ n. lines_known _ _ (forest c.args.below.now) (longer _ _ c.loop-copy.invariant.grown) (c.requires n))))

pub add_choice_copies-loop-copy-preserved : goal.add_choice_copies-loop-copy-preserved
add_choice_copies-loop-copy-preserved g t c =
    let s = c.in_ok-add_choices.ensures in
    record {
      whole = λ t' f.
          copy_more cases_then no_case cases_then-assoc cases_then-none c.in-Some.times c.args.context.now.scopes c.loop-copy.context.scopes c.enter.new.self.scopes c.args.context.now.values c.loop-copy.context.values c.enter.new.self.values c.loop-copy.copy
          (unrolled (numbering (g.S.Numbering.number c.args.source.now t')) (forest c.args.below.now)).cases (cases (in_choices c.loop-copy.list)) (cases (in_choices c.add_choices-in-loop-copy.new.list)) _
          c.loop-copy.invariant.scopes c.loop-copy.invariant.values c.in_ok-enter.ensures.scopes c.in_ok-enter.ensures.values c.loop-copy-test.true (s.list t' f) (c.loop-copy.invariant.whole t' (extends_trans _ _ _ s.extends f));
      values = values_again _ _ _ _ _ c.in_ok-enter.ensures.values s.values c.leave.ensures.values ∙ c.loop-copy.invariant.values;
      scopes = left_again _ _ _ _ _ c.in_ok-enter.ensures.scopes s.scopes c.leave.ensures.scopes ∙ c.loop-copy.invariant.scopes;
      table = copy_table (g.S.Numbering.brings c.args.source.now) c.in-Some.times c.args.context.now.scopes c.loop-copy.context.scopes c.enter.new.self.scopes c.args.context.now.values c.loop-copy.context.values c.enter.new.self.values c.loop-copy.copy (elements (forest c.args.below.now)).cases _ _ _
          c.loop-copy.invariant.scopes c.loop-copy.invariant.values c.in_ok-enter.ensures.scopes c.in_ok-enter.ensures.values c.loop-copy-test.true s.table c.loop-copy.invariant.table;
      grown = extends_trans _ _ _ c.loop-copy.invariant.grown s.extends;
    }

pub add_alternative_copies-add_alternatives-requires-in-loop-copy : goal.add_alternative_copies-add_alternatives-requires-in-loop-copy
add_alternative_copies-add_alternatives-requires-in-loop-copy g t c κs within = (omega (arith, c.decreases), (within, (λ n. lines_known _ _ (forest c.args.below.now) (longer _ _ c.loop-copy.invariant.grown) (c.requires n))))

pub add_alternative_copies-loop-copy-preserved : goal.add_alternative_copies-loop-copy-preserved
add_alternative_copies-loop-copy-preserved g t c =
    let s = c.in_ok-add_alternatives.ensures in
    record {
      whole = λ t' f.
          copy_more branches_then no_branch branches_then-assoc branches_then-none c.in-Some.times c.args.context.now.scopes c.loop-copy.context.scopes c.enter.new.self.scopes c.args.context.now.values c.loop-copy.context.values c.enter.new.self.values c.loop-copy.copy
          (unrolled (numbering (g.S.Numbering.number c.args.source.now t')) (forest c.args.below.now)).branches (branches (in_alternatives c.loop-copy.list)) (branches (in_alternatives c.add_alternatives-in-loop-copy.new.list)) _
          c.loop-copy.invariant.scopes c.loop-copy.invariant.values c.in_ok-enter.ensures.scopes c.in_ok-enter.ensures.values c.loop-copy-test.true (s.list t' f) (c.loop-copy.invariant.whole t' (extends_trans _ _ _ s.extends f));
      values = values_again _ _ _ _ _ c.in_ok-enter.ensures.values s.values c.leave.ensures.values ∙ c.loop-copy.invariant.values;
      scopes = left_again _ _ _ _ _ c.in_ok-enter.ensures.scopes s.scopes c.leave.ensures.scopes ∙ c.loop-copy.invariant.scopes;
      table = copy_table (g.S.Numbering.brings c.args.source.now) c.in-Some.times c.args.context.now.scopes c.loop-copy.context.scopes c.enter.new.self.scopes c.args.context.now.values c.loop-copy.context.values c.enter.new.self.values c.loop-copy.copy (elements (forest c.args.below.now)).branches _ _ _
          c.loop-copy.invariant.scopes c.loop-copy.invariant.values c.in_ok-enter.ensures.scopes c.in_ok-enter.ensures.values c.loop-copy-test.true s.table c.loop-copy.invariant.table;
      grown = extends_trans _ _ _ c.loop-copy.invariant.grown s.extends;
    }

-- ---- at the end

pub slot-returns-clause-tree : goal.slot-returns-clause-tree
slot-returns-clause-tree g t c = λ t' f.
    tree-Skip
    ∙ sym (ap (λ h'. first_tree ((unrolled (numbering (g.S.Numbering.number c.args.source.now t')) h').parts c.args.context.now.scopes c.loop-node.context.scopes c.loop-node.waiting (values_of c.args.context.now.values))) (lines_done c.args.nodes.now c.loop-node.node-index c.loop-node-test.false))
    ∙ c.loop-node.invariant.whole t' f

pub add_slots-returns-clause-parts : goal.add_slots-returns-clause-parts
add_slots-returns-clause-parts g t c = λ t' f.
    let parts = trees (in_procs c.loop-node.parts) in
    sym (trees_then-none parts)
    ∙ sym (ap (λ h'. trees_then parts ((unrolled (numbering (g.S.Numbering.number c.args.source.now t')) h').parts c.args.context.now.scopes c.loop-node.context.scopes c.loop-node.waiting (values_of c.args.context.now.values))) (lines_done c.args.nodes.now c.loop-node.node-index c.loop-node-test.false))
    ∙ c.loop-node.invariant.whole t' f

pub add_choices-returns-clause-list : goal.add_choices-returns-clause-list
add_choices-returns-clause-list g t c = λ t' f.
    let list = cases (in_choices c.loop-node.list) in
    sym (cases_then-none list)
    ∙ sym (ap (λ h'. cases_then list ((unrolled (numbering (g.S.Numbering.number c.args.source.now t')) h').cases c.args.context.now.scopes (values_of c.args.context.now.values))) (lines_done c.args.nodes.now c.loop-node.node-index c.loop-node-test.false))
    ∙ c.loop-node.invariant.whole t' f

pub add_alternatives-returns-clause-list : goal.add_alternatives-returns-clause-list
add_alternatives-returns-clause-list g t c = λ t' f.
    let list = branches (in_alternatives c.loop-node.list) in
    sym (branches_then-none list)
    ∙ sym (ap (λ h'. branches_then list ((unrolled (numbering (g.S.Numbering.number c.args.source.now t')) h').branches c.args.context.now.scopes (values_of c.args.context.now.values))) (lines_done c.args.nodes.now c.loop-node.node-index c.loop-node-test.false))
    ∙ c.loop-node.invariant.whole t' f

pub add_slot_copies-returns-clause-parts : goal.add_slot_copies-returns-clause-parts
add_slot_copies-returns-clause-parts g t c = λ t' f.
    copies_done trees_then no_tree trees_then-assoc trees_then-none c.in-Some.times c.args.context.now.scopes (values_of c.args.context.now.values) (as_parts (unrolled (numbering (g.S.Numbering.number c.args.source.now t')) (forest c.args.below.now)))
    (trees (in_procs c.loop-copy.parts)) (trees (in_procs c.args.parts.now)) c.loop-copy.copy c.args.times c.in-Some.is c.loop-copy-test.false (c.loop-copy.invariant.whole t' f)

pub add_choice_copies-returns-clause-list : goal.add_choice_copies-returns-clause-list
add_choice_copies-returns-clause-list g t c = λ t' f.
    copies_done cases_then no_case cases_then-assoc cases_then-none c.in-Some.times c.args.context.now.scopes (values_of c.args.context.now.values) (unrolled (numbering (g.S.Numbering.number c.args.source.now t')) (forest c.args.below.now)).cases
    (cases (in_choices c.loop-copy.list)) (cases (in_choices c.args.list.now)) c.loop-copy.copy c.args.times c.in-Some.is c.loop-copy-test.false (c.loop-copy.invariant.whole t' f)

pub add_alternative_copies-returns-clause-list : goal.add_alternative_copies-returns-clause-list
add_alternative_copies-returns-clause-list g t c = λ t' f.
    copies_done branches_then no_branch branches_then-assoc branches_then-none c.in-Some.times c.args.context.now.scopes (values_of c.args.context.now.values) (unrolled (numbering (g.S.Numbering.number c.args.source.now t')) (forest c.args.below.now)).branches
    (branches (in_alternatives c.loop-copy.list)) (branches (in_alternatives c.args.list.now)) c.loop-copy.copy c.args.times c.in-Some.is c.loop-copy-test.false (c.loop-copy.invariant.whole t' f)

-- ---- the table

pub add_alternative-returns-then-is_guard-clause-table : goal.add_alternative-returns-then-is_guard-clause-table
add_alternative-returns-then-is_guard-clause-table g t c =
    guard_table (g.S.Numbering.brings c.args.source.now) _ (shape c.args.form.now) (elements (forest c.args.below.now)) c.args.context.now.scopes (values_of c.args.context.now.values) _ _ (sym c.if-is_guard.ensures) c.in_ok-guard.ensures.table c.in_ok-part.ensures.table

pub add_alternative-returns-in-Some-clause-table : goal.add_alternative-returns-in-Some-clause-table
add_alternative-returns-in-Some-clause-table g t c =
    on_ok c.add_alternative_copies.result _ _
    (nested_alt_table (g.S.Numbering.brings c.args.source.now) _ (shape c.args.form.now) (elements (forest c.args.below.now)) c.args.context.now.scopes (values_of c.args.context.now.values) _ c.in-Some.times c.in-Some.ensures)
    c.add_alternative_copies.ensures.table

pub add_alternative-returns-in-None-clause-table : goal.add_alternative-returns-in-None-clause-table
add_alternative-returns-in-None-clause-table g t c =
    no_branch_table (g.S.Numbering.brings c.args.source.now) _ (shape c.args.form.now) (elements (forest c.args.below.now)) c.args.context.now.scopes (values_of c.args.context.now.values) (sym c.if-is_guard.ensures) c.in-None.ensures

pub add_alternative_copies-returns-then-alternatives-eq0-clause-table :
    goal.add_alternative_copies-returns-then-alternatives-eq0-clause-table
add_alternative_copies-returns-then-alternatives-eq0-clause-table g t c =
    let z : (sizes (forest c.args.below.now)).branches ≡ 0 = omega (arith, c.if-alternatives-eq0.true, c.alternatives.ensures) in
    no_branch_copies (g.S.Numbering.brings c.args.source.now) _ (forest c.args.below.now) c.args.times c.args.context.now.scopes (values_of c.args.context.now.values) z

pub add_choice-returns-in-Some-clause-table : goal.add_choice-returns-in-Some-clause-table
add_choice-returns-in-Some-clause-table g t c =
    condition_table (g.S.Numbering.brings c.args.source.now) _ (shape c.args.form.now) (elements (forest c.args.below.now)) c.args.context.now.scopes (values_of c.args.context.now.values) _ _ (said c.in-Some.phrase.now) c.in-Some.ensures c.in_ok-condition.ensures.table c.in_ok-part.ensures.table

pub add_choice-returns-in-Some-nested-clause-table : goal.add_choice-returns-in-Some-nested-clause-table
add_choice-returns-in-Some-nested-clause-table g t c =
    on_ok c.add_choice_copies.result _ _
    (nested_if_table (g.S.Numbering.brings c.args.source.now) _ (shape c.args.form.now) (elements (forest c.args.below.now)) c.args.context.now.scopes (values_of c.args.context.now.values) _ c.in-Some-nested.times c.in-Some-nested.ensures)
    c.add_choice_copies.ensures.table

pub add_choice-returns-in-None-clause-table : goal.add_choice-returns-in-None-clause-table
add_choice-returns-in-None-clause-table g t c =
    no_case_table (g.S.Numbering.brings c.args.source.now) _ (shape c.args.form.now) (elements (forest c.args.below.now)) c.args.context.now.scopes (values_of c.args.context.now.values) c.in_default.ensures c.in-None.ensures

pub add_choice_copies-returns-then-choices-eq0-clause-table :
    goal.add_choice_copies-returns-then-choices-eq0-clause-table
add_choice_copies-returns-then-choices-eq0-clause-table g t c =
    let z : (sizes (forest c.args.below.now)).cases ≡ 0 = omega (arith, c.if-choices-eq0.true, c.choices.ensures) in
    no_case_copies (g.S.Numbering.brings c.args.source.now) _ (forest c.args.below.now) c.args.times c.args.context.now.scopes (values_of c.args.context.now.values) z

pub add_slot_copies-returns-clause-table : goal.add_slot_copies-returns-clause-table
add_slot_copies-returns-clause-table g t c =
    copies_last (g.S.Numbering.brings c.args.source.now) c.in-Some.times c.args.context.now.scopes (values_of c.args.context.now.values) (as_slots (elements (forest c.args.below.now))) _ _ c.loop-copy.copy c.args.times c.in-Some.is c.loop-copy-test.false c.loop-copy.invariant.table

pub add_choice_copies-returns-clause-table : goal.add_choice_copies-returns-clause-table
add_choice_copies-returns-clause-table g t c =
    copies_last (g.S.Numbering.brings c.args.source.now) c.in-Some.times c.args.context.now.scopes (values_of c.args.context.now.values) (elements (forest c.args.below.now)).cases _ _ c.loop-copy.copy c.args.times c.in-Some.is c.loop-copy-test.false c.loop-copy.invariant.table

pub add_alternative_copies-returns-clause-table : goal.add_alternative_copies-returns-clause-table
add_alternative_copies-returns-clause-table g t c =
    copies_last (g.S.Numbering.brings c.args.source.now) c.in-Some.times c.args.context.now.scopes (values_of c.args.context.now.values) (elements (forest c.args.below.now)).branches _ _ c.loop-copy.copy c.args.times c.in-Some.is c.loop-copy-test.false c.loop-copy.invariant.table

pub slot-returns-clause-table : goal.slot-returns-clause-table
slot-returns-clause-table g t c =
    sym (ap (λ h'. brought (g.S.Numbering.brings c.args.source.now) c.loop-node.names ((elements h').first c.loop-node.context.scopes (values_of c.args.context.now.values))) (lines_done c.args.nodes.now c.loop-node.node-index c.loop-node-test.false))
    ∙ c.loop-node.invariant.table

pub add_slots-returns-clause-table : goal.add_slots-returns-clause-table
add_slots-returns-clause-table g t c =
    sym (ap (λ h'. brought (g.S.Numbering.brings c.args.source.now) c.loop-node.names ((elements h').parts c.args.context.now.scopes c.loop-node.context.scopes (values_of c.args.context.now.values))) (lines_done c.args.nodes.now c.loop-node.node-index c.loop-node-test.false))
    ∙ c.loop-node.invariant.table

pub add_choices-returns-clause-table : goal.add_choices-returns-clause-table
add_choices-returns-clause-table g t c =
    sym (ap (λ h'. brought (g.S.Numbering.brings c.args.source.now) c.loop-node.names ((elements h').cases c.args.context.now.scopes (values_of c.args.context.now.values))) (lines_done c.args.nodes.now c.loop-node.node-index c.loop-node-test.false))
    ∙ c.loop-node.invariant.table

pub add_alternatives-returns-clause-table : goal.add_alternatives-returns-clause-table
add_alternatives-returns-clause-table g t c =
    sym (ap (λ h'. brought (g.S.Numbering.brings c.args.source.now) c.loop-node.names ((elements h').branches c.args.context.now.scopes (values_of c.args.context.now.values))) (lines_done c.args.nodes.now c.loop-node.node-index c.loop-node-test.false))
    ∙ c.loop-node.invariant.table
