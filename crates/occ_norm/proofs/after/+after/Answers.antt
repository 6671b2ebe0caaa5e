use Rattle.occ_syntax.specs.Tree.{seq, par, select, alt, assign, skip, stop, no_case, no_tree, and_tree}
use Rattle.occ_syntax.specs.Types.{branches_kept, is_condition, types_kept, waiting_kept}
use Rattle.occ_compare.proofs.from_meaning.Facts.{and_four}
use Rattle.occ_norm_alt.specs.Alternation.{IsAlternation}
use Rattle.occ_norm_alt.proofs.Alternatives.{alternation_grow, held-extends}
use Rattle.occ_syntax.specs.Usage.{KeepsUsage}
use Rattle.occ_syntax.specs.View.{numbers, exp, exps, tree, trees, cases, branches, waiting}
use Rattle.occ_syntax.proofs.Views.{tree-Seq, tree-Par, tree-If, tree-Alt}
use Rattle.occ_syntax.proofs.Weights.{weight, weight-seq, weight-par, weight-select, weight-alt, weight_in_all, weight_in_cases, weight_in_branches}
use Rattle.occ_syntax.proofs.Counting.{weight-declaring}
use Rattle.occ_compare.specs.occ_dd.Store.{IsKnown, has}
use Rattle.occ_compare.proofs.from_dd.Callers.{known-keeps}
use Rattle.occ_compare.specs.occ_mdd.Maps.{value}
use Rattle.occ_compare.specs.occ_bits.Layout.{environment_in, state_of}
use Rattle.occ_syntax.specs.Eval.{is_true}
use Rattle.occ_norm_par.specs.States.{AreStates, EndsIn, set_at}
use Rattle.occ_norm_par.proofs.Freeing.{both_states, condition_states, states-keeps}
use Rattle.occ_norm_par.proofs.Leaving.{left-keeps}
use Rattle.occ_norm_par.proofs.Reaching.{between-keeps, other_default, part_between}
use Rattle.occ_norm.specs.From.{IsAfterFromIn, IsFront}
use Rattle.occ_norm_alt.specs.occ_norm_frame.Placed.{Fits, IsAround}
use Rattle.occ_norm_alt.proofs.from_norm_frame.After.{after-extends, over-extends}
use Rattle.occ_norm_alt.proofs.from_norm_frame.Placing.{branch_at, branch_condition, branch_wait, case_at, case_condition, fit_at, fits_alt, fits_assign, fits_can, fits_next, fits_par, fits_receive, fits_select, fits_send, fits_seq}
use Rattle.std.proofs.Common.{true, false, not, ◌-◌, ◌≡◌, ◌≤◌, ◌<◌, ◌+◌, [], ◌∷◌, cond, drop, take, length, get_or, sym, ap, ◌∙◌, subst, arith}
use Rattle.std.proofs.lemmas.Bool.{and_from}
use Rattle.occ_norm_alt.proofs.from_norm_frame.Worlds.{extends_trans, has_nodes-extends}
use Rattle.occ_norm.proofs.Declaring.{bits_grow, opens_next}
use Rattle.occ_norm.proofs.Opening.{after_from, freed_after}
use Rattle.occ_norm.proofs.Freeing.{freed_over}
use Rattle.std.proofs.Common.{bit_or, ◌^◌, ℕ}
use Rattle.std.proofs.lemmas.Option.{same_Some, slice_get-get_or}
use Rattle.std.proofs.lemmas.List.{length-append, length-take-le}
use Rattle.occ_syntax.specs.declared.proc.Proc.{Skip}
use Rattle.occ_compare.specs.occ_bits.Layout.{laid_out}
use Rattle.occ_syntax.specs.Counts.{bits_of_scope}
use Rattle.occ_norm_alt.specs.occ_norm_frame.Alone.{IsPart, except}
use Rattle.occ_norm_alt.proofs.from_norm_frame.Alone.{alone_from, ending_later, ending_over, part_over}
use Rattle.occ_norm_par.specs.Sides.{AreWritten, bits_in, closed_in}
use Rattle.occ_norm_par.proofs.Writing.{write_all, writes_within, written_in}
use Rattle.occ_norm_par.specs.Joined.{HaveNodes}
use Rattle.occ_norm.proofs.Beside.{AreMade, made_more, nodes_more, parts_after}
use Rattle.occ_norm_par.proofs.Closing.{closed_all}
use Rattle.occ_norm.proofs.Between.{run_ends}
use Rattle.occ_norm.proofs.Steps.{all_in, as_is, case_in, choice_over, empty_in, form_front, form_over, front_as, front_later, if_both, if_ok, keep_below, limited_in, no_case_in, none_in, one_in, over_in, run_from_in, seq_from_in, skip_in, some_in, stop_in, stop_over}
use Rattle.occ_norm_assign.proofs.Choosing.{truth_here}
use Rattle.occ_norm_assign.proofs.Runs.{cases_left, dropped_all, fit_before, fit_from, seq_fits, some_found, trees_between}
use Rattle.occ_norm_assign.specs.Transfer.{IsBehind}
use Rattle.occ_norm.proofs.Using.{no_parts, branch_usage_at, branches_left, case_usage_at, one_tree, trees_left, types_at, usage_at, usage_inside}
use Rattle.occ_norm.proofs.after.+after.Goals as goal

-- ---- all states
pub after-returns-clause-after : goal.after-returns-clause-after
after-returns-clause-after t c =
    let frame = c.args.frame.now in
    let w = c.front.new.world in
    let from = c.all_states-from.result in
    if_ok c.front.result _ _
    (λ r is. all_in w frame.vars frame.layout frame.keep frame.closed.items (has w.store from) (tree c.args.part.now) c.args.rest r
    (λ x. c.front.ensures.extends.grows.stored.same from x c.all_states-from.ensures.states.known ∙ c.all_states-from.ensures.all x) is)
    c.front.ensures.front

-- ---- declarations
pub front-declare-requires : goal.front-declare-requires
front-declare-requires t c = fits_can _ _ _ _ _ c.loop-name.invariant.fits c.in-Some.ensures

pub front-loop-name-smaller : goal.front-loop-name-smaller
front-loop-name-smaller t c = let g = ap weight c.in-Some.ensures ∙ weight-declaring _ _ _ in omega (arith, g)

pub front-loop-name-preserved : goal.front-loop-name-preserved
front-loop-name-preserved t c =
    let g = ap weight c.in-Some.ensures ∙ weight-declaring _ _ _ in
    let before = c.loop-name.inner in
    let now = c.declare.new.self in
    let more : c.args.frame.now.bits ≤ before.bits = c.loop-name.invariant.more in
    record {
      fits = fits_next _ _ _ _ _ _ c.loop-name.invariant.fits c.in-Some.ensures c.in_ok-declare.ensures.vars;
      usage = usage_inside _ _ _ _ c.in-Some.ensures c.loop-name.invariant.usage;
      left = omega (arith, g, c.loop-name.invariant.left);
      more = bits_grow before.vars before.layout before.bits now.vars now.layout now.bits c.in-Some.name c.in-Some.kind before.kept now.kept c.in_ok-declare.ensures.vars c.args.frame.now.bits more;
      keep = c.declare.ensures.keep ∙ c.loop-name.invariant.keep;
      opens = opens_next c.args.frame.now.vars c.args.frame.now.layout c.args.frame.now.bits c.args.frame.now.keep c.args.frame.now.closed.items (tree c.args.part.now) c.args.frame.now.inside
          before.vars before.layout before.bits before.closed.items (tree c.loop-name.body.now) before.kept more c.in-Some.name c.in-Some.kind (tree c.in-Some.inside.now) now.vars now.layout now.bits now.closed.items
          c.in-Some.ensures c.in_ok-declare.ensures.vars c.in_ok-declare.ensures.closed now.kept c.loop-name.invariant.opens;
    }

pub front-returns-clause-over : goal.front-returns-clause-over
front-returns-clause-over t c =
    let frame = c.args.frame.now in
    let inner = c.loop-name.inner in
    let w = c.freed.new.world in
    let bits = inner.kept.bits_are in
    let few = inner.kept.few in
    if_both c.freed.result _ _ _
    (λ r has freed. freed_over w frame.bits inner.bits c.in_ok-map.map r c.loop-name.invariant.more (omega (arith, bits, few))
    (over-extends c.undeclared.new.world w c.freed.ensures.extends inner.bits c.in_ok-map.map c.in_ok-map.ensures.over) freed has)
    c.freed.ensures.nodes c.freed.ensures.freed

pub front-returns-clause-front : goal.front-returns-clause-front
front-returns-clause-front t c =
    let frame = c.args.frame.now in
    let inner = c.loop-name.inner in
    let v = c.undeclared.new.world in
    let w = c.freed.new.world in
    let from = c.args.span.from in
    let vw = extends_trans c.args.world.now v w c.undeclared.ensures.extends c.freed.ensures.extends in
    let over = over-extends c.args.world.now w vw frame.bits c.args.span.rest c.requires.span.rest_over in
    let nodes = has_nodes-extends v w c.freed.ensures.extends c.in_ok-map.map c.in_ok-map.ensures.over.has in
    let rest_nodes = has_nodes-extends c.args.world.now v c.undeclared.ensures.extends c.args.span.rest c.requires.span.rest_over.has in
    let states = states-keeps c.args.world.now.store w.store vw.grows.stored frame.bits from c.requires.span.states in
    let here = front_later v w c.freed.ensures.extends inner.vars inner.layout inner.keep inner.closed.items from (known-keeps c.args.world.now.store v.store c.undeclared.ensures.extends.grows.stored from c.requires.span.states.known)
    (tree c.loop-name.body.now) c.args.span.rest c.in_ok-map.map rest_nodes c.in_ok-map.ensures.over.has c.in_ok-map.ensures.front in
    let kept = subst (λ k. IsAfterFromIn w inner.vars inner.layout k inner.closed.items (has w.store from) (tree c.loop-name.body.now) c.args.span.rest c.in_ok-map.map) c.loop-name.invariant.keep here in
    let bits = inner.kept.bits_are in
    let few = inner.kept.few in
    if_ok c.freed.result _ _
    (λ r freed Γ around types. freed_after w frame.bits inner.bits frame.layout frame.keep frame.closed.items Γ (has w.store from) (tree c.args.part.now) c.args.span.rest c.in_ok-map.map r
    (c.loop-name.invariant.opens.opens w (has w.store from) c.args.span.rest c.in_ok-map.map inner.bits (λ x y agree h. sym (states.same x y agree) ∙ h) (omega arith) (omega (arith, bits, few)) over
    (λ Δ placed fit. after_from w inner.bits inner.layout frame.keep inner.closed.items Δ (has w.store from) (tree c.loop-name.body.now) c.args.span.rest c.in_ok-map.map (λ x h. let k = nodes.nodes x h in (k.0, k.1)) (kept Δ placed fit))
    Γ around types)
    freed)
    c.freed.ensures.freed

-- ---- SEQ
pub in_turn-loop-left-init : goal.in_turn-loop-left-init
in_turn-loop-left-init t c =
    let frame = c.args.frame.now in
    let v = c.args.world.now in
    let w = c.states_between.new.world in
    let rest = c.args.span.rest in
    let sets = c.in_ok-sets.sets.items in
    let over = over-extends v w c.states_between.ensures.extends frame.bits rest c.requires.span.rest_over in
    let none = none_in w frame.vars frame.layout frame.bits frame.keep frame.closed.items frame.kept frame.inside rest over in
    let last = has w.store (set_at sets (length c.args.parts.now)) in
    record {
      extends = c.states_between.ensures.extends;
      over = over;
      below = omega arith;
      between = c.in_ok-sets.ensures.between;
      after = subst (λ ps. IsAfterFromIn w frame.vars frame.layout frame.keep frame.closed.items last (seq (trees ps)) rest rest) (sym (dropped_all c.args.parts.now))
          (some_in w frame.vars frame.layout frame.keep frame.closed.items last (seq no_tree) rest rest none);
    }

pub in_turn-limited-requires-clause-set : goal.in_turn-limited-requires-clause-set
in_turn-limited-requires-clause-set t c =
    let frame = c.args.frame.now in
    let sets = c.in_ok-sets.sets.items in
    let count = c.loop-left.invariant.between.count in
    let here : c.loop-left.left < length sets = omega (arith, count, c.loop-left.invariant.below) in
    subst (AreStates c.loop-left.world.store frame.bits) (sym (c.index.ensures ∙ other_default sets c.loop-left.left c.index.result.now (record { 0 = 0 }) here)) (c.loop-left.invariant.between.states c.loop-left.left here)

pub in_turn-straight-requires-clause-parts : goal.in_turn-straight-requires-clause-parts
in_turn-straight-requires-clause-parts t c = fit_before c.args.frame.now.vars c.args.parts.now c.loop-left.left c.requires.parts

pub in_turn-loop-left-preserved-in-Some : goal.in_turn-loop-left-preserved-in-Some
in_turn-loop-left-preserved-in-Some t c =
    let frame = c.args.frame.now in
    let parts = c.args.parts.now in
    let left = c.loop-left.left in
    let start = c.in-Some.start in
    let made = c.in-Some.made in
    let v = c.loop-left.world in
    let u = c.limited.new.world in
    let w = c.straight.new.world in
    let vw = extends_trans v u w c.limited.ensures.extends c.straight.ensures.extends in
    let old = c.loop-left.map in
    let next = c.in_ok-rest.rest in
    let sets = c.in_ok-sets.sets.items in
    let behind : IsBehind w frame (take left parts) next start made = some_found _ c.in_ok-start.field-0 (start, made) c.in-Some.is c.in_ok-start.ensures.behind in
    let before : start < left = let size = length-take-le left parts c.loop-left.invariant.below in let within = behind.within in omega (arith, size, within) in
    let qs = trees (drop start (take left parts)) in
    let ps = trees (drop left parts) in
    let over = over-extends u w c.straight.ensures.extends frame.bits next c.in_ok-rest.ensures.over in
    let fits = seq_fits frame.vars qs (fit_from frame.vars (take left parts) start (fit_before frame.vars parts left c.requires.parts)) in
    let rest_nodes = has_nodes-extends c.args.world.now v c.loop-left.invariant.extends c.args.span.rest c.requires.span.rest_over.has in
    let between = between-keeps v.store w.store vw.grows.stored frame.vars frame.layout frame.bits c.args.span.from parts sets c.loop-left.invariant.between in
    let count = between.count in
    let known : (i : ℕ) → i < length sets → IsKnown v.store (set_at sets i) = λ i h. (c.loop-left.invariant.between.states i h).known in
    let here : left < length sets = omega (arith, count, c.loop-left.invariant.below) in
    let at : c.index.result.now ≡ set_at sets left = c.index.ensures ∙ other_default sets left c.index.result.now (record { 0 = 0 }) here in
    record {
      extends = extends_trans c.args.world.now v w c.loop-left.invariant.extends vw;
      over = over_in w frame.vars frame.layout frame.bits frame.keep frame.closed.items frame.kept frame.inside (seq qs) next made fits behind.nodes over behind.after;
      below = omega (arith, before, c.loop-left.invariant.below);
      between = between;
      after = subst (λ ts. IsAfterFromIn w frame.vars frame.layout frame.keep frame.closed.items (has w.store (set_at sets start)) (seq ts) c.args.span.rest made) (sym (trees_between parts start left (omega (arith, before))))
          (run_from_in w frame.vars frame.layout frame.bits frame.keep frame.closed.items frame.kept frame.inside w.store (set_at sets start) (set_at sets left) qs ps c.args.span.rest next made over.has
          (run_ends w.store frame.vars frame.layout frame.bits c.args.span.from parts sets between start left (omega (arith, before)) c.loop-left.invariant.below frame.kept)
          (limited_in v u w c.limited.ensures.extends c.straight.ensures.extends frame.vars frame.layout frame.keep frame.closed.items c.index.result.now (set_at sets left) at (known left here) (seq ps) c.args.span.rest old next
          rest_nodes c.loop-left.invariant.over.has c.in_ok-rest.ensures.over.has c.in_ok-rest.ensures.same c.loop-left.invariant.after)
          behind.after);
    }

pub in_turn-front-requires : goal.in_turn-front-requires
in_turn-front-requires t c =
    let lt : c.loop-left.left - 1 < length c.args.parts.now = omega (arith, c.loop-left.invariant.below, c.loop-left-test.true) in
    let frame = c.args.frame.now in
    let sets = c.in_ok-sets.sets.items in
    let count = c.loop-left.invariant.between.count in
    let grow = extends_trans c.loop-left.world c.limited.new.world c.straight.new.world c.limited.ensures.extends c.straight.ensures.extends in
    let here : c.loop-left.left - 1 < length sets = omega (arith, count, lt) in (
      omega (arith, weight_in_all c.args.parts.now (c.loop-left.left - 1) c.index-parts-left.result lt c.index-parts-left.is, c.decreases),
      (
        fit_at frame.vars c.args.parts.now (c.loop-left.left - 1) c.index-parts-left.result c.requires.parts lt c.index-parts-left.is,
        (
          usage_at c.args.parts.now (c.loop-left.left - 1) c.index-parts-left.result c.requires.usage lt c.index-parts-left.is,
          record {
            states = states-keeps c.loop-left.world.store c.straight.new.world.store grow.grows.stored frame.bits c.index-from.result.now
                (subst (AreStates c.loop-left.world.store frame.bits) (sym (c.index-from.ensures ∙ other_default sets (c.loop-left.left - 1) c.index-from.result.now (record { 0 = 0 }) here)) (c.loop-left.invariant.between.states (c.loop-left.left - 1) here));
            rest_over = over-extends c.limited.new.world c.straight.new.world c.straight.ensures.extends frame.bits c.in_ok-rest.rest c.in_ok-rest.ensures.over;
          },
        ),
      ),
    )

pub in_turn-loop-left-preserved : goal.in_turn-loop-left-preserved
in_turn-loop-left-preserved t c =
    let frame = c.args.frame.now in
    let left = c.loop-left.left in
    let lt : left - 1 < length c.args.parts.now = omega (arith, c.loop-left.invariant.below, c.loop-left-test.true) in
    let v = c.loop-left.world in
    let u = c.limited.new.world in
    let s = c.straight.new.world in
    let w = c.front.new.world in
    let uw = extends_trans u s w c.straight.ensures.extends c.front.ensures.extends in
    let vs = extends_trans v u s c.limited.ensures.extends c.straight.ensures.extends in
    let vw = extends_trans v u w c.limited.ensures.extends uw in
    let old = c.loop-left.map in
    let rest = c.in_ok-rest.rest in
    let next = c.in_ok-next.next in
    let part = c.index-parts-left.result in
    let sets = c.in_ok-sets.sets.items in
    let over = over-extends u w uw frame.bits rest c.in_ok-rest.ensures.over in
    let rest_nodes = has_nodes-extends c.args.world.now v c.loop-left.invariant.extends c.args.span.rest c.requires.span.rest_over.has in
    let between = between-keeps v.store w.store vw.grows.stored frame.vars frame.layout frame.bits c.args.span.from c.args.parts.now sets c.loop-left.invariant.between in
    let count = between.count in
    let known : (i : ℕ) → i < length sets → IsKnown v.store (set_at sets i) = λ i h. (c.loop-left.invariant.between.states i h).known in
    let here : left < length sets = omega (arith, count, c.loop-left.invariant.below) in
    let there : left - 1 < length sets = omega (arith, count, lt) in
    let back : left - 1 + 1 ≡ left = omega (arith, c.loop-left-test.true) in
    let at : c.index.result.now ≡ set_at sets left = c.index.ensures ∙ other_default sets left c.index.result.now (record { 0 = 0 }) here in
    let from : c.index-from.result.now ≡ set_at sets (left - 1) = c.index-from.ensures ∙ other_default sets (left - 1) c.index-from.result.now (record { 0 = 0 }) there in
    record {
      extends = extends_trans c.args.world.now v w c.loop-left.invariant.extends vw;
      over = c.in_ok-next.ensures.over;
      below = omega (arith, c.loop-left.invariant.below);
      between = between;
      after = subst (λ ps. IsAfterFromIn w frame.vars frame.layout frame.keep frame.closed.items (has w.store (set_at sets (left - 1))) (seq ps) c.args.span.rest next)
          (sym (trees_left c.args.parts.now left part (omega (arith, c.loop-left-test.true)) c.loop-left.invariant.below c.index-parts-left.is))
          (seq_from_in w frame.vars frame.layout frame.bits frame.keep frame.closed.items frame.kept frame.inside w.store (set_at sets (left - 1)) (set_at sets left) (tree part) (trees (drop left c.args.parts.now)) c.args.span.rest rest next over.has
          (subst (λ i. EndsIn w.store frame.vars frame.layout (tree part) (set_at sets (left - 1)) (set_at sets i)) back (part_between w.store frame.vars frame.layout frame.bits c.args.span.from c.args.parts.now sets (left - 1) part between lt c.index-parts-left.is))
          (limited_in v u w c.limited.ensures.extends uw frame.vars frame.layout frame.keep frame.closed.items c.index.result.now (set_at sets left) at (known left here) (seq (trees (drop left c.args.parts.now))) c.args.span.rest old rest
          rest_nodes c.loop-left.invariant.over.has c.in_ok-rest.ensures.over.has c.in_ok-rest.ensures.same c.loop-left.invariant.after)
          (subst (λ a. IsFront w frame a (tree part) rest next) from c.in_ok-next.ensures.front));
    }

pub in_turn-returns-clause-front : goal.in_turn-returns-clause-front
in_turn-returns-clause-front t c =
    let frame = c.args.frame.now in
    let w = c.loop-left.world in
    let none : c.loop-left.left ≡ 0 = omega (arith, c.loop-left-test.false) in
    subst (λ a. IsFront w frame a (seq (trees c.args.parts.now)) c.args.span.rest c.loop-left.map) c.loop-left.invariant.between.first
    (subst (λ k. IsFront w frame (set_at c.in_ok-sets.sets.items k) (seq (trees (drop k c.args.parts.now))) c.args.span.rest c.loop-left.map) none c.loop-left.invariant.after)

-- ---- IF
pub first_choice-loop-left-init : goal.first_choice-loop-left-init
first_choice-loop-left-init t c =
    let frame = c.args.frame.now in
    let v = c.states_left.new.world in
    let w = c.stop.new.self in
    let sets = c.in_ok-sets.sets.items in
    let map = c.in_ok-map.map in
    let last = has w.store (set_at sets (length c.args.choices.now)) in
    record {
      extends = extends_trans c.args.world.now v w c.states_left.ensures.extends c.stop.ensures.extends;
      over = stop_over w frame.bits map c.in_ok-map.ensures.nodes c.in_ok-map.ensures.stop;
      below = omega arith;
      states = left-keeps v.store w.store c.stop.ensures.extends.grows.stored frame.layout frame.bits c.args.span.from c.args.choices.now sets c.in_ok-sets.ensures.left;
      after = subst (λ cs. IsAfterFromIn w frame.vars frame.layout frame.keep frame.closed.items last (select (cases cs)) c.args.span.rest map) (sym (dropped_all c.args.choices.now))
          (some_in w frame.vars frame.layout frame.keep frame.closed.items last (select no_case) c.args.span.rest map
          (no_case_in w frame.vars frame.layout frame.bits frame.keep frame.closed.items frame.kept frame.inside c.args.span.rest map c.in_ok-map.ensures.stop));
    }

pub first_choice-holds-requires : goal.first_choice-holds-requires
first_choice-holds-requires t c = case_condition c.args.frame.now.vars c.args.frame.now.layout c.args.frame.now.bits c.args.frame.now.kept c.args.choices.now (c.loop-left.left - 1) c.index-choices-left.result c.requires.choices (omega (arith, c.loop-left.invariant.below, c.loop-left-test.true)) c.index-choices-left.is

pub first_choice-within-requires-clause-set : goal.first_choice-within-requires-clause-set
first_choice-within-requires-clause-set t c =
    let sets = c.in_ok-sets.sets.items in
    let count = c.loop-left.invariant.states.count in
    let here : c.loop-left.left - 1 < length sets = omega (arith, count, c.loop-left.invariant.below) in
    known-keeps c.loop-left.world.store c.holds.new.world.store c.holds.ensures.extends.grows.stored c.index.result.now
    (subst (IsKnown c.loop-left.world.store) (sym (c.index.ensures ∙ other_default sets (c.loop-left.left - 1) c.index.result.now (record { 0 = 0 }) here)) (c.loop-left.invariant.states.states (c.loop-left.left - 1) here).known)

pub first_choice-front-requires : goal.first_choice-front-requires
first_choice-front-requires t c =
    let lt : c.loop-left.left - 1 < length c.args.choices.now = omega (arith, c.loop-left.invariant.below, c.loop-left-test.true) in
    let frame = c.args.frame.now in
    let item = c.index-choices-left.result in
    let sets = c.in_ok-sets.sets.items in
    let v = c.loop-left.world in
    let u = c.holds.new.world in
    let w = c.within.new.self in
    let vw = extends_trans v u w c.holds.ensures.extends c.within.ensures.extends in
    let count = c.loop-left.invariant.states.count in
    let here : c.loop-left.left - 1 < length sets = omega (arith, count, lt) in
    let at = c.index.ensures ∙ other_default sets (c.loop-left.left - 1) c.index.result.now (record { 0 = 0 }) here in
    let left = states-keeps v.store u.store c.holds.ensures.extends.grows.stored frame.bits c.index.result.now (subst (AreStates v.store frame.bits) (sym at) (c.loop-left.invariant.states.states (c.loop-left.left - 1) here)) in
    let test = condition_states u.store frame.vars frame.layout frame.bits frame.kept (exp item.0) c.in_ok-set.set c.in_ok-set.ensures.set in (
      omega (arith, weight_in_cases c.args.choices.now (c.loop-left.left - 1) item lt c.index-choices-left.is, c.decreases),
      (
        case_at frame.vars c.args.choices.now (c.loop-left.left - 1) item c.requires.choices lt c.index-choices-left.is,
        (
          case_usage_at c.args.choices.now (c.loop-left.left - 1) item c.requires.usage lt c.index-choices-left.is,
          record {
            states = both_states u.store w.store frame.bits c.index.result.now c.in_ok-set.set c.in_ok-from.from left test c.in_ok-from.ensures.set;
            rest_over = over-extends c.args.world.now w (extends_trans c.args.world.now v w c.loop-left.invariant.extends vw) frame.bits c.args.span.rest c.requires.span.rest_over;
          },
        ),
      ),
    )

pub first_choice-choose-requires-clause-set : goal.first_choice-choose-requires-clause-set
first_choice-choose-requires-clause-set t c =
    let grow = extends_trans c.holds.new.world c.within.new.self c.front.new.world c.within.ensures.extends c.front.ensures.extends in
    known-keeps c.holds.new.world.store c.front.new.world.store grow.grows.stored c.in_ok-set.set c.in_ok-set.ensures.set.known

pub first_choice-choose-requires-clause-b : goal.first_choice-choose-requires-clause-b
first_choice-choose-requires-clause-b t c =
    let vb = extends_trans c.loop-left.world c.holds.new.world c.within.new.self c.holds.ensures.extends c.within.ensures.extends in
    let vf = extends_trans c.loop-left.world c.within.new.self c.front.new.world vb c.front.ensures.extends in
    (has_nodes-extends c.loop-left.world c.front.new.world vf c.loop-left.map c.loop-left.invariant.over.has).known

pub first_choice-loop-left-preserved : goal.first_choice-loop-left-preserved
first_choice-loop-left-preserved t c =
    let frame = c.args.frame.now in
    let left = c.loop-left.left in
    let lt : left - 1 < length c.args.choices.now = omega (arith, c.loop-left.invariant.below, c.loop-left-test.true) in
    let v = c.loop-left.world in
    let h = c.holds.new.world in
    let b = c.within.new.self in
    let f = c.front.new.world in
    let w = c.choose.new.self in
    let rest = c.args.span.rest in
    let set = c.in_ok-set.set in
    let from = c.in_ok-from.from in
    let chosen = c.in_ok-chosen.chosen in
    let next = c.in_ok-next.next in
    let old = c.loop-left.map in
    let item = c.index-choices-left.result in
    let sets = c.in_ok-sets.sets.items in
    let choices = c.args.choices.now in
    let vb = extends_trans v h b c.holds.ensures.extends c.within.ensures.extends in
    let vf = extends_trans v b f vb c.front.ensures.extends in
    let vw = extends_trans v f w vf c.choose.ensures.extends in
    let hf = extends_trans h b f c.within.ensures.extends c.front.ensures.extends in
    let hw = extends_trans h f w hf c.choose.ensures.extends in
    let bw = extends_trans b f w c.front.ensures.extends c.choose.ensures.extends in
    let over_chosen = over-extends f w c.choose.ensures.extends frame.bits chosen c.in_ok-chosen.ensures.over in
    let over_old = over-extends v w vw frame.bits old c.loop-left.invariant.over in
    let nodes = c.in_ok-next.ensures.nodes c.in_ok-chosen.ensures.over.has (over-extends v f vf frame.bits old c.loop-left.invariant.over).has in
    let rest_v = has_nodes-extends c.args.world.now v c.loop-left.invariant.extends rest c.requires.span.rest_over.has in
    let rest_f = has_nodes-extends v f vf rest rest_v in
    let states = left-keeps v.store w.store vw.grows.stored frame.layout frame.bits c.args.span.from choices sets c.loop-left.invariant.states in
    let count = states.count in
    let here : left - 1 < length sets = omega (arith, count, lt) in
    let there : left < length sets = omega (arith, count, c.loop-left.invariant.below) in
    let back : left - 1 + 1 ≡ left = omega (arith, c.loop-left-test.true) in
    let at : c.index.result.now ≡ set_at sets (left - 1) = c.index.ensures ∙ other_default sets (left - 1) c.index.result.now (record { 0 = 0 }) here in
    let before = c.loop-left.invariant.states.states (left - 1) here in
    let after = c.loop-left.invariant.states.states left there in
    let test : (x : ℕ) → has w.store set x ≡ is_true (environment_in frame.layout) (exp item.0) (state_of frame.layout x) =
    λ x. hw.grows.stored.same set x c.in_ok-set.ensures.set.known ∙ c.in_ok-set.ensures.set.members x in
    let same : (x : ℕ) → has f.store set x ≡ has w.store set x = λ x. hf.grows.stored.same set x c.in_ok-set.ensures.set.known ∙ sym (hw.grows.stored.same set x c.in_ok-set.ensures.set.known) in
    let values : (x : ℕ) → value w.maps next x ≡ cond (has w.store set x) (value w.maps chosen x) (value w.maps old x) =
    λ x. c.in_ok-next.ensures.map.values x ∙ (λ i. cond (same x i) (sym (c.choose.ensures.extends.maps.same chosen x c.in_ok-chosen.ensures.over.has.known) i)
    (sym (c.choose.ensures.extends.maps.same old x (over-extends v f vf frame.bits old c.loop-left.invariant.over).has.known) i)) in
    let taken : (x : ℕ) → has w.store (set_at sets (left - 1)) x ≡ true → has w.store set x ≡ true → has w.store from x ≡ true =
    λ x o k. bw.grows.stored.same from x c.in_ok-from.ensures.set.known ∙ c.in_ok-from.ensures.set.members x
    ∙ and_from _ _ (ap (λ a. has h.store a x) at ∙ c.holds.ensures.extends.grows.stored.same (set_at sets (left - 1)) x before.known ∙ sym (vw.grows.stored.same (set_at sets (left - 1)) x before.known) ∙ o)
    (sym (hw.grows.stored.same set x c.in_ok-set.ensures.set.known) ∙ k) in
    let others : (x : ℕ) → has w.store (set_at sets (left - 1)) x ≡ true → has w.store set x ≡ false → has w.store (set_at sets left) x ≡ true =
    λ x o k. ap (λ i. has w.store (set_at sets i) x) (sym back) ∙ states.left (left - 1) item lt c.index-choices-left.is x ∙ and_from _ _ o (ap not (sym (test x) ∙ k)) in
    record {
      extends = extends_trans c.args.world.now v w c.loop-left.invariant.extends vw;
      over = choice_over w frame.vars frame.layout frame.bits frame.keep frame.closed.items frame.kept frame.inside (has w.store set) chosen old next
          (states-keeps h.store w.store hw.grows.stored frame.bits set (condition_states h.store frame.vars frame.layout frame.bits frame.kept (exp item.0) set c.in_ok-set.ensures.set)).same
          values nodes over_chosen over_old;
      below = omega (arith, c.loop-left.invariant.below);
      states = states;
      after = subst (λ cs. IsAfterFromIn w frame.vars frame.layout frame.keep frame.closed.items (has w.store (set_at sets (left - 1))) (select cs) rest next)
          (sym (cases_left choices left item (omega (arith, c.loop-left-test.true)) c.loop-left.invariant.below c.index-choices-left.is))
          (case_in w frame.vars frame.layout frame.bits frame.keep frame.closed.items frame.kept frame.inside (has w.store (set_at sets (left - 1))) (has w.store from) (has w.store (set_at sets left))
          (exp item.0) (tree item.1) (cases (drop left choices)) rest chosen old next (has w.store set)
          (λ Γ around kept x k. test x ∙ truth_here frame.vars frame.layout frame.bits frame.kept Γ around (exp item.0) _)
          values taken others
          (front_later f w c.choose.ensures.extends frame.vars frame.layout frame.keep frame.closed.items from (known-keeps b.store f.store c.front.ensures.extends.grows.stored from c.in_ok-from.ensures.set.known)
          (tree item.1) rest chosen rest_f c.in_ok-chosen.ensures.over.has c.in_ok-chosen.ensures.front)
          (front_later v w vw frame.vars frame.layout frame.keep frame.closed.items (set_at sets left) after.known (select (cases (drop left choices))) rest old rest_v c.loop-left.invariant.over.has c.loop-left.invariant.after));
    }

pub first_choice-returns-clause-front : goal.first_choice-returns-clause-front
first_choice-returns-clause-front t c =
    let frame = c.args.frame.now in
    let w = c.loop-left.world in
    let none : c.loop-left.left ≡ 0 = omega (arith, c.loop-left-test.false) in
    subst (λ a. IsFront w frame a (select (cases c.args.choices.now)) c.args.span.rest c.loop-left.map) c.loop-left.invariant.states.first
    (subst (λ k. IsFront w frame (set_at c.in_ok-sets.sets.items k) (select (cases (drop k c.args.choices.now))) c.args.span.rest c.loop-left.map) none c.loop-left.invariant.after)

-- ---- a part by its form
pub undeclared-assigned-requires-clause-pairs : goal.undeclared-assigned-requires-clause-pairs
unfolding tree
undeclared-assigned-requires-clause-pairs t c = fits_assign c.args.frame.now.vars c.args.frame.now.layout c.args.frame.now.bits c.args.frame.now.kept _ _ _ c.requires.part (ap tree c.in-Assign.is ∙ (λ i. assign (numbers (sym c.items-vars.ensures i)) (exps (sym c.items-values.ensures i))))

pub undeclared-input-requires-clause-var : goal.undeclared-input-requires-clause-var
unfolding tree
undeclared-input-requires-clause-var t c = fits_receive c.args.frame.now.vars c.args.frame.now.layout c.args.frame.now.bits c.args.frame.now.kept _ _ _ c.requires.part (ap tree c.in-Input.is)

pub undeclared-output-requires-clause-value : goal.undeclared-output-requires-clause-value
unfolding tree
undeclared-output-requires-clause-value t c = fits_send c.args.frame.now.vars c.args.frame.now.layout c.args.frame.now.bits c.args.frame.now.kept _ _ _ c.requires.part (ap tree c.in-Output.is)

pub undeclared-in_turn-requires : goal.undeclared-in_turn-requires
undeclared-in_turn-requires t c =
    let e = (ap tree c.in-Seq.is ∙ tree-Seq c.in-Seq.parts ∙ ap (λ ps. seq (trees ps)) (sym c.items.ensures)) in
    (omega (arith, weight-seq _ _ e, c.decreases), (fits_seq _ _ _ c.requires.part e, (subst KeepsUsage e c.requires.usage, c.requires.span)))

pub undeclared-at_once-requires : goal.undeclared-at_once-requires
undeclared-at_once-requires t c =
    let e = (ap tree c.in-Par.is ∙ tree-Par c.in-Par.parts ∙ ap (λ ps. par (trees ps)) (sym c.items-in-Par.ensures)) in
    let usage = subst KeepsUsage e c.requires.usage in
    (omega (arith, weight-par _ _ e, c.decreases), (fits_par _ _ _ c.requires.part e, (usage.0, (usage.1, c.requires.span.rest_over))))

pub undeclared-first_choice-requires : goal.undeclared-first_choice-requires
undeclared-first_choice-requires t c =
    let e = (ap tree c.in-If.is ∙ tree-If c.in-If.choices ∙ ap (λ ps. select (cases ps)) (sym c.items-in-If.ensures)) in
    (omega (arith, weight-select _ _ e, c.decreases), (fits_select _ _ _ c.requires.part e, (subst KeepsUsage e c.requires.usage, c.requires.span)))

pub undeclared-alternated-requires : goal.undeclared-alternated-requires
undeclared-alternated-requires t c =
    let e = (ap tree c.in-Alt.is ∙ tree-Alt c.in-Alt.alternatives ∙ ap (λ ps. alt (branches ps)) (sym c.items-in-Alt.ensures)) in
    (omega (arith, weight-alt _ _ e, c.decreases), (fits_alt _ _ _ c.requires.part e, (subst KeepsUsage e c.requires.usage, c.requires.span.rest_over)))

-- ---- ALT
pub alternated-after-requires : goal.alternated-after-requires
alternated-after-requires t c =
    let lt : c.loop-left.left - 1 < length c.args.alternatives.now = omega (arith, c.loop-left.invariant.below, c.loop-left-test.true) in (
      omega (arith, weight_in_branches c.args.alternatives.now (c.loop-left.left - 1) c.index-alternatives-left.result lt c.index-alternatives-left.is, c.decreases),
      (
        branch_at c.args.frame.now.vars c.args.alternatives.now (c.loop-left.left - 1) c.index-alternatives-left.result c.requires.alternatives lt c.index-alternatives-left.is,
        (
          branch_usage_at c.args.alternatives.now (c.loop-left.left - 1) c.index-alternatives-left.result c.requires.usage lt c.index-alternatives-left.is,
          over-extends c.args.world.now c.loop-left.world c.loop-left.invariant.extends c.args.frame.now.bits c.args.rest c.requires.rest,
        ),
      ),
    )

pub alternated-holds-requires : goal.alternated-holds-requires
alternated-holds-requires t c = branch_condition c.args.frame.now.vars c.args.frame.now.layout c.args.frame.now.bits c.args.frame.now.kept c.args.alternatives.now (c.loop-left.left - 1) c.index-alternatives-left.result c.requires.alternatives (omega (arith, c.loop-left.invariant.below, c.loop-left-test.true)) c.index-alternatives-left.is

pub alternated-and-requires-clause-maps : goal.alternated-and-requires-clause-maps
alternated-and-requires-clause-maps t c =
    let v = c.loop-left.world in
    let w = c.holds.new.world in
    held-extends v w (extends_trans v c.after.new.world w c.after.ensures.extends c.holds.ensures.extends) c.loop-left.alternation.waiting c.loop-left.alternation.ready c.loop-left.invariant.maps

pub alternated-and-requires-clause-wait : goal.alternated-and-requires-clause-wait
alternated-and-requires-clause-wait t c = branch_wait c.args.frame.now.vars c.args.frame.now.layout c.args.frame.now.bits c.args.frame.now.kept c.args.alternatives.now (c.loop-left.left - 1) c.index-alternatives-left.result c.requires.alternatives (omega (arith, c.loop-left.invariant.below, c.loop-left-test.true)) c.index-alternatives-left.is

pub alternated-and-requires-clause-next : goal.alternated-and-requires-clause-next
alternated-and-requires-clause-next t c =
    let frame = c.args.frame.now in
    let v = c.loop-left.world in
    let u = c.after.new.world in
    let fits = branch_at frame.vars c.args.alternatives.now (c.loop-left.left - 1) c.index-alternatives-left.result c.requires.alternatives (omega (arith, c.loop-left.invariant.below, c.loop-left-test.true)) c.index-alternatives-left.is in
    let rest = over-extends c.args.world.now u (extends_trans c.args.world.now v u c.loop-left.invariant.extends c.after.ensures.extends) frame.bits c.args.rest c.requires.rest in
    over-extends u c.holds.new.world c.holds.ensures.extends frame.bits c.in_ok-next.next
    (over_in u frame.vars frame.layout frame.bits frame.keep frame.closed.items frame.kept frame.inside (tree c.index-alternatives-left.result.1) c.args.rest c.in_ok-next.next fits c.in_ok-next.ensures.nodes rest c.in_ok-next.ensures.after)

pub alternated-loop-left-init : goal.alternated-loop-left-init
alternated-loop-left-init t c = record {
  extends = c.none.ensures.extends;
  maps = c.in_ok-alternation.ensures.maps;
  below = omega arith;
  alternation = λ Γ around kept. subst (λ bs. IsAlternation c.none.new.world c.args.frame.now.layout c.args.frame.now.keep c.args.frame.now.closed.items Γ (branches bs) c.args.rest c.in_ok-alternation.alternation.waiting c.in_ok-alternation.alternation.ready)
      (sym (dropped_all c.args.alternatives.now)) (c.in_ok-alternation.ensures.none c.args.frame.now.layout c.args.frame.now.keep c.args.frame.now.closed.items Γ c.args.rest);
}

pub alternated-loop-left-preserved : goal.alternated-loop-left-preserved
alternated-loop-left-preserved t c =
    let frame = c.args.frame.now in
    let v = c.loop-left.world in
    let a = c.after.new.world in
    let u = c.holds.new.world in
    let w = c.and.new.world in
    let old = c.loop-left.alternation in
    let item = c.index-alternatives-left.result in
    let vu = extends_trans v a u c.after.ensures.extends c.holds.ensures.extends in
    let vw = extends_trans v u w vu c.and.ensures.extends in
    let rest_v = over-extends c.args.world.now v c.loop-left.invariant.extends frame.bits c.args.rest c.requires.rest in
    let rest_a = over-extends v a c.after.ensures.extends frame.bits c.args.rest rest_v in
    let rest_u = over-extends a u c.holds.ensures.extends frame.bits c.args.rest rest_a in
    let left_is = branches_left c.args.alternatives.now c.loop-left.left item (omega (arith, c.loop-left-test.true)) c.loop-left.invariant.below c.index-alternatives-left.is in
    let bs = branches (drop c.loop-left.left c.args.alternatives.now) in
    record {
      extends = extends_trans c.args.world.now v w c.loop-left.invariant.extends vw;
      maps = c.in_ok-more.ensures.maps;
      below = omega (arith, c.loop-left.invariant.below);
      alternation = λ Γ around kept.
          let types = and_four (is_condition Γ (exp item.0.condition)) (waiting_kept Γ (waiting item.0.wait)) (types_kept (tree item.1) Γ) (branches_kept bs Γ) (sym (ap (λ b. branches_kept b Γ) left_is) ∙ kept) in
          subst (λ b. IsAlternation w frame.layout frame.keep frame.closed.items Γ b c.args.rest c.in_ok-more.more.waiting c.in_ok-more.more.ready) (sym left_is)
          (c.in_ok-more.ensures.and Γ bs (exp item.0.condition) (tree item.1) c.args.rest around types.1
          (λ x h. c.in_ok-enabled.ensures.set.members x ∙ truth_here frame.vars frame.layout frame.bits frame.kept Γ around (exp item.0.condition) _)
          rest_u
          (alternation_grow v u vu frame.layout frame.keep frame.closed.items Γ bs c.args.rest old.waiting old.ready c.loop-left.invariant.maps (c.loop-left.invariant.alternation Γ around types.3))
          (after-extends a u c.holds.ensures.extends frame.layout frame.keep frame.closed.items Γ (tree item.1) c.args.rest c.in_ok-next.next rest_a.has c.in_ok-next.ensures.nodes (c.in_ok-next.ensures.after Γ around types.2)));
    }

pub alternated-returns-clause-after : goal.alternated-returns-clause-after
alternated-returns-clause-after t c =
    let frame = c.args.frame.now in
    let none : c.loop-left.left ≡ 0 = omega (arith, c.loop-left-test.false) in
    if_ok c.map.result _ _
    (λ r is Γ around types. is frame.layout frame.keep frame.closed.items Γ (branches c.args.alternatives.now) c.args.rest
    (subst (λ k. IsAlternation c.loop-left.world frame.layout frame.keep frame.closed.items Γ (branches (drop k c.args.alternatives.now)) c.args.rest c.loop-left.alternation.waiting c.loop-left.alternation.ready) none
    (c.loop-left.invariant.alternation Γ around (subst (λ k. branches_kept (branches (drop k c.args.alternatives.now)) Γ ≡ true) (sym none) types))))
    c.map.ensures.after

pub undeclared-returns-in-Skip-clause-front : goal.undeclared-returns-in-Skip-clause-front
unfolding tree
undeclared-returns-in-Skip-clause-front t c =
    let frame = c.args.frame.now in
    let w = c.args.world.now in
    let rest = c.args.span.rest in
    some_in w frame.vars frame.layout frame.keep frame.closed.items (has w.store c.args.span.from) (tree c.args.part.now) rest rest
    (as_is _ _ _ _ _ _ skip _ _ (ap tree c.in-Skip.is) (skip_in w frame.vars frame.layout frame.bits frame.keep frame.closed.items frame.kept frame.inside rest c.requires.span.rest_over))

pub undeclared-returns-in-Stop-clause-over : goal.undeclared-returns-in-Stop-clause-over
undeclared-returns-in-Stop-clause-over t c =
    if_both c.stop.result _ _ _ (λ r has is. stop_over c.stop.new.self c.args.frame.now.bits r has is) c.stop.ensures.nodes c.stop.ensures.stop

pub undeclared-returns-in-Stop-clause-front : goal.undeclared-returns-in-Stop-clause-front
unfolding tree
undeclared-returns-in-Stop-clause-front t c =
    let frame = c.args.frame.now in
    let w = c.stop.new.self in
    form_front w frame.vars frame.layout frame.bits frame.keep frame.closed.items frame.kept frame.inside (has w.store c.args.span.from) (tree c.args.part.now) stop c.args.span.rest c.stop.result (ap tree c.in-Stop.is)
    (if_ok c.stop.result _ _ (λ r is. stop_in w frame.vars frame.layout frame.bits frame.keep frame.closed.items frame.kept frame.inside c.args.span.rest r is) c.stop.ensures.stop)

pub undeclared-returns-in-Assign-clause-over : goal.undeclared-returns-in-Assign-clause-over
unfolding tree
undeclared-returns-in-Assign-clause-over t c =
    let frame = c.args.frame.now in
    let w = c.assigned.new.world in
    let e = (ap tree c.in-Assign.is ∙ (λ i. assign (numbers (sym c.items-vars.ensures i)) (exps (sym c.items-values.ensures i)))) in
    form_over w frame.vars frame.layout frame.bits frame.keep frame.closed.items frame.kept frame.inside (tree c.args.part.now) _ c.args.span.rest c.assigned.result e c.requires.part
    (over-extends c.args.world.now w c.assigned.ensures.extends frame.bits c.args.span.rest c.requires.span.rest_over) c.assigned.ensures.nodes
    (if_ok c.assigned.result _ _ (λ r is Γ around types. is Γ around) c.assigned.ensures.after)

pub undeclared-returns-in-Assign-clause-front : goal.undeclared-returns-in-Assign-clause-front
unfolding tree
undeclared-returns-in-Assign-clause-front t c =
    let frame = c.args.frame.now in
    let w = c.assigned.new.world in
    let e = (ap tree c.in-Assign.is ∙ (λ i. assign (numbers (sym c.items-vars.ensures i)) (exps (sym c.items-values.ensures i)))) in
    form_front w frame.vars frame.layout frame.bits frame.keep frame.closed.items frame.kept frame.inside (has w.store c.args.span.from) (tree c.args.part.now) _ c.args.span.rest c.assigned.result e
    (if_ok c.assigned.result _ _ (λ r is Γ around types. is Γ around) c.assigned.ensures.after)

pub undeclared-returns-in-Input-clause-over : goal.undeclared-returns-in-Input-clause-over
unfolding tree
undeclared-returns-in-Input-clause-over t c =
    let frame = c.args.frame.now in
    let w = c.input.new.world in
    let e = ap tree c.in-Input.is in
    form_over w frame.vars frame.layout frame.bits frame.keep frame.closed.items frame.kept frame.inside (tree c.args.part.now) _ c.args.span.rest c.input.result e c.requires.part
    (over-extends c.args.world.now w c.input.ensures.extends frame.bits c.args.span.rest c.requires.span.rest_over) c.input.ensures.nodes c.input.ensures.after

pub undeclared-returns-in-Input-clause-front : goal.undeclared-returns-in-Input-clause-front
unfolding tree
undeclared-returns-in-Input-clause-front t c =
    let frame = c.args.frame.now in
    let w = c.input.new.world in
    let e = ap tree c.in-Input.is in
    form_front w frame.vars frame.layout frame.bits frame.keep frame.closed.items frame.kept frame.inside (has w.store c.args.span.from) (tree c.args.part.now) _ c.args.span.rest c.input.result e c.input.ensures.after

pub undeclared-returns-in-Output-clause-over : goal.undeclared-returns-in-Output-clause-over
unfolding tree
undeclared-returns-in-Output-clause-over t c =
    let frame = c.args.frame.now in
    let w = c.output.new.world in
    let e = ap tree c.in-Output.is in
    form_over w frame.vars frame.layout frame.bits frame.keep frame.closed.items frame.kept frame.inside (tree c.args.part.now) _ c.args.span.rest c.output.result e c.requires.part
    (over-extends c.args.world.now w c.output.ensures.extends frame.bits c.args.span.rest c.requires.span.rest_over) c.output.ensures.nodes c.output.ensures.after

pub undeclared-returns-in-Output-clause-front : goal.undeclared-returns-in-Output-clause-front
unfolding tree
undeclared-returns-in-Output-clause-front t c =
    let frame = c.args.frame.now in
    let w = c.output.new.world in
    let e = ap tree c.in-Output.is in
    form_front w frame.vars frame.layout frame.bits frame.keep frame.closed.items frame.kept frame.inside (has w.store c.args.span.from) (tree c.args.part.now) _ c.args.span.rest c.output.result e c.output.ensures.after

pub undeclared-returns-in-Par-clause-over : goal.undeclared-returns-in-Par-clause-over
undeclared-returns-in-Par-clause-over t c =
    let frame = c.args.frame.now in
    let w = c.at_once.new.world in
    let e = (ap tree c.in-Par.is ∙ tree-Par c.in-Par.parts ∙ ap (λ ps. par (trees ps)) (sym c.items-in-Par.ensures)) in
    form_over w frame.vars frame.layout frame.bits frame.keep frame.closed.items frame.kept frame.inside (tree c.args.part.now) _ c.args.span.rest c.at_once.result e c.requires.part
    (over-extends c.args.world.now w c.at_once.ensures.extends frame.bits c.args.span.rest c.requires.span.rest_over) c.at_once.ensures.nodes c.at_once.ensures.after

pub undeclared-returns-in-Par-clause-front : goal.undeclared-returns-in-Par-clause-front
undeclared-returns-in-Par-clause-front t c =
    let frame = c.args.frame.now in
    let w = c.at_once.new.world in
    let e = (ap tree c.in-Par.is ∙ tree-Par c.in-Par.parts ∙ ap (λ ps. par (trees ps)) (sym c.items-in-Par.ensures)) in
    form_front w frame.vars frame.layout frame.bits frame.keep frame.closed.items frame.kept frame.inside (has w.store c.args.span.from) (tree c.args.part.now) _ c.args.span.rest c.at_once.result e c.at_once.ensures.after

pub undeclared-returns-in-Alt-clause-over : goal.undeclared-returns-in-Alt-clause-over
undeclared-returns-in-Alt-clause-over t c =
    let frame = c.args.frame.now in
    let w = c.alternated.new.world in
    let e = (ap tree c.in-Alt.is ∙ tree-Alt c.in-Alt.alternatives ∙ ap (λ ps. alt (branches ps)) (sym c.items-in-Alt.ensures)) in
    form_over w frame.vars frame.layout frame.bits frame.keep frame.closed.items frame.kept frame.inside (tree c.args.part.now) _ c.args.span.rest c.alternated.result e c.requires.part
    (over-extends c.args.world.now w c.alternated.ensures.extends frame.bits c.args.span.rest c.requires.span.rest_over) c.alternated.ensures.nodes c.alternated.ensures.after

pub undeclared-returns-in-Alt-clause-front : goal.undeclared-returns-in-Alt-clause-front
undeclared-returns-in-Alt-clause-front t c =
    let frame = c.args.frame.now in
    let w = c.alternated.new.world in
    let e = (ap tree c.in-Alt.is ∙ tree-Alt c.in-Alt.alternatives ∙ ap (λ ps. alt (branches ps)) (sym c.items-in-Alt.ensures)) in
    form_front w frame.vars frame.layout frame.bits frame.keep frame.closed.items frame.kept frame.inside (has w.store c.args.span.from) (tree c.args.part.now) _ c.args.span.rest c.alternated.result e c.alternated.ensures.after

pub undeclared-returns-in-Seq-clause-front : goal.undeclared-returns-in-Seq-clause-front
undeclared-returns-in-Seq-clause-front t c =
    let frame = c.args.frame.now in
    let w = c.in_turn.new.world in
    if_ok c.in_turn.result _ _
    (λ r is. front_as w frame.vars frame.layout frame.keep frame.closed.items (has w.store c.args.span.from) (tree c.args.part.now) _ c.args.span.rest r (ap tree c.in-Seq.is ∙ tree-Seq c.in-Seq.parts ∙ ap (λ ps. seq (trees ps)) (sym c.items.ensures)) is)
    c.in_turn.ensures.front

pub undeclared-returns-in-If-clause-front : goal.undeclared-returns-in-If-clause-front
undeclared-returns-in-If-clause-front t c =
    let frame = c.args.frame.now in
    let w = c.first_choice.new.world in
    if_ok c.first_choice.result _ _
    (λ r is. front_as w frame.vars frame.layout frame.keep frame.closed.items (has w.store c.args.span.from) (tree c.args.part.now) _ c.args.span.rest r (ap tree c.in-If.is ∙ tree-If c.in-If.choices ∙ ap (λ ps. select (cases ps)) (sym c.items-in-If.ensures)) is)
    c.first_choice.ensures.front

-- ---- PAR
pub at_once-returns-then-is_empty-clause-after : goal.at_once-returns-then-is_empty-clause-after
at_once-returns-then-is_empty-clause-after t c =
    let frame = c.args.frame.now in
    as_is _ _ _ _ _ _ (par no_tree) _ _ (ap par (no_parts c.args.parts.now c.is_empty.ensures c.if-is_empty.true))
    (empty_in c.args.world.now frame.vars frame.layout frame.bits frame.keep frame.closed.items frame.kept frame.inside c.args.rest c.requires.rest)

pub at_once-after-requires : goal.at_once-after-requires
at_once-after-requires t c =
    let lt : 0 < length c.args.parts.now = omega (arith, c.if-parts-eq1.true) in (
      omega (arith, weight_in_all c.args.parts.now 0 c.index-parts-0.result lt c.index-parts-0.is, c.decreases),
      (
        fit_at c.args.frame.now.vars c.args.parts.now 0 c.index-parts-0.result c.requires.parts lt c.index-parts-0.is,
        (usage_at c.args.parts.now 0 c.index-parts-0.result c.requires.usage lt c.index-parts-0.is, c.requires.rest),
      ),
    )

pub at_once-returns-then-parts-eq1-clause-after : goal.at_once-returns-then-parts-eq1-clause-after
at_once-returns-then-parts-eq1-clause-after t c =
    let frame = c.args.frame.now in
    if_ok c.after.result _ _
    (λ r is. as_is _ _ _ _ _ _ (par (and_tree (tree c.index-parts-0.result) no_tree)) _ _ (ap par (one_tree c.args.parts.now c.index-parts-0.result c.if-parts-eq1.true c.index-parts-0.is))
    (one_in c.after.new.world frame.vars frame.layout frame.bits frame.keep frame.closed.items frame.kept frame.inside (tree c.index-parts-0.result) c.args.rest r is))
    c.after.ensures.after

pub at_once-side_frame-requires-clause-all : goal.at_once-side_frame-requires-clause-all
at_once-side_frame-requires-clause-all t c = keep_below c.args.frame.now.keep c.in_ok-sides.sides.needed c.in_ok-sides.sides.all c.args.frame.now.bits c.args.frame.now.inside c.in_ok-sides.ensures.needed.within c.in_ok-sides.ensures.all

pub at_once-side_frame-requires-clause-place : goal.at_once-side_frame-requires-clause-place
at_once-side_frame-requires-clause-place t c = let same : length c.in_ok-sides.sides.writes.items ≡ length c.args.parts.now = c.in_ok-sides.ensures.writes.count in omega (arith, same)

pub at_once-joined-requires-clause-writes : goal.at_once-joined-requires-clause-writes
at_once-joined-requires-clause-writes t c =
    let count : length c.loop-place.maps.items ≡ c.loop-place.place = c.loop-place.invariant.count in
    let whole : length c.args.parts.now ≡ length c.loop-place.maps.items = omega (arith, count) in
    c.in_ok-sides.ensures.writes.count ∙ whole ∙ ap length (sym c.as_slice.ensures.value)

pub at_once-loop-place-init : goal.at_once-loop-place-init
at_once-loop-place-init t c = record {
  extends = c.of.ensures.extends;
  count = ap length c.new-maps.ensures.items;
  nodes = λ i l. let none : length c.new-maps.result.items ≡ 0 = ap length c.new-maps.ensures.items in absurd (omega (arith, none, l));
  made = λ Γ around types i l. absurd (omega (arith, l));
}

pub at_once-returns-in_err-ended-clause-extends : goal.at_once-returns-in_err-ended-clause-extends
at_once-returns-in_err-ended-clause-extends t c = extends_trans c.args.world.now c.loop-place.world c.ending.new.world c.loop-place.invariant.extends c.ending.ensures.extends

pub at_once-returns-in_err-map-clause-extends : goal.at_once-returns-in_err-map-clause-extends
at_once-returns-in_err-map-clause-extends t c = extends_trans c.args.world.now c.loop-place.world c.after-in-loop-place.new.world c.loop-place.invariant.extends (extends_trans c.loop-place.world c.ending.new.world c.after-in-loop-place.new.world c.ending.ensures.extends c.after-in-loop-place.ensures.extends)

pub at_once-returns-in_err-push-clause-extends : goal.at_once-returns-in_err-push-clause-extends
at_once-returns-in_err-push-clause-extends t c = extends_trans c.args.world.now c.loop-place.world c.after-in-loop-place.new.world c.loop-place.invariant.extends (extends_trans c.loop-place.world c.ending.new.world c.after-in-loop-place.new.world c.ending.ensures.extends c.after-in-loop-place.ensures.extends)

pub at_once-after-requires-in-loop-place : goal.at_once-after-requires-in-loop-place
at_once-after-requires-in-loop-place t c =
    let lt : c.loop-place.place < length c.args.parts.now = omega arith in
    let frame = c.args.frame.now in
    let inner = c.in_ok-inner.inner in
    let sides = c.in_ok-sides.sides in
    let all : sides.all < 2 ^ frame.bits = keep_below frame.keep sides.needed sides.all frame.bits frame.inside c.in_ok-sides.ensures.needed.within c.in_ok-sides.ensures.all in
    let same : frame.bits ≡ inner.bits = frame.kept.bits_are ∙ ap bits_of_scope (sym c.in_ok-inner.ensures.vars) ∙ sym inner.kept.bits_are in (
      omega (arith, weight_in_all c.args.parts.now c.loop-place.place c.index-parts-place.result lt c.index-parts-place.is, c.decreases),
      (
        subst (λ vs. Fits vs (tree c.index-parts-place.result)) (sym c.in_ok-inner.ensures.vars) (fit_at c.args.frame.now.vars c.args.parts.now c.loop-place.place c.index-parts-place.result c.requires.parts lt c.index-parts-place.is),
        (
          usage_at c.args.parts.now c.loop-place.place c.index-parts-place.result c.requires.usage lt c.index-parts-place.is,
          ending_over c.ending.new.world inner.bits sides.all inner.keep c.in_ok-ended.ended c.in_ok-ended.ensures.nodes c.in_ok-ended.ensures.ending (subst (λ n. sides.all < 2 ^ n) same all),
        ),
      ),
    )

pub at_once-loop-place-preserved : goal.at_once-loop-place-preserved
at_once-loop-place-preserved t c =
    let frame = c.args.frame.now in
    let inner = c.in_ok-inner.inner in
    let sides = c.in_ok-sides.sides in
    let v = c.loop-place.world in
    let e = c.ending.new.world in
    let u = c.after-in-loop-place.new.world in
    let place = c.loop-place.place in
    let old = c.loop-place.maps.items in
    let ended = c.in_ok-ended.ended in
    let map = c.in_ok-map.map in
    let lt : place < length c.args.parts.now = omega arith in
    let later = c.after-in-loop-place.ensures.extends in
    let grow = extends_trans v e u c.ending.ensures.extends later in
    let laid : inner.layout ≡ frame.layout = inner.kept.layout_is ∙ ap (laid_out 0) c.in_ok-inner.ensures.vars ∙ sym frame.kept.layout_is in
    let one : c.index-parts-place.result ≡ get_or c.args.parts.now place Skip = c.index-parts-place.is ∙ same_Some _ _ (sym (slice_get-get_or c.args.parts.now place _ lt) ∙ slice_get-get_or c.args.parts.now place Skip lt) in
    let whole = c.in_ok-push.ensures.items in
    record {
      extends = extends_trans c.args.world.now v u c.loop-place.invariant.extends grow;
      count = ap length whole ∙ length-append old (map ∷ []) ∙ ap (λ n. n + 1) c.loop-place.invariant.count;
      nodes = subst (HaveNodes u) (sym whole) (nodes_more v u grow old map place c.loop-place.invariant.count c.loop-place.invariant.nodes c.in_ok-map.ensures.nodes);
      made = subst (AreMade u frame.vars frame.layout sides.all sides.users.items sides.writes.items (place + 1) c.args.parts.now) (sym whole)
          (made_more v u grow old map place c.loop-place.invariant.count c.loop-place.invariant.nodes frame.vars frame.layout sides.all sides.users.items sides.writes.items c.args.parts.now c.loop-place.invariant.made
          (λ Γ around types.
          subst (λ q. IsPart u frame.layout sides.all (except sides.all (get_or sides.writes.items place 0)) (closed_in place (place + 1) sides.users.items) Γ (tree q) map) one
          (subst (λ cs. IsPart u frame.layout sides.all (except sides.all (get_or sides.writes.items place 0)) cs Γ (tree c.index-parts-place.result) map) c.in_ok-inner.ensures.closed
          (subst (λ k. IsPart u frame.layout sides.all k inner.closed.items Γ (tree c.index-parts-place.result) map) c.in_ok-inner.ensures.keep
          (subst (λ l. IsPart u l sides.all inner.keep inner.closed.items Γ (tree c.index-parts-place.result) map) laid
          (alone_from u inner.layout sides.all inner.keep inner.closed.items Γ (tree c.index-parts-place.result) ended map (has_nodes-extends e u later ended c.in_ok-ended.ensures.nodes)
          (ending_later e u later ended c.in_ok-ended.ensures.nodes sides.all inner.keep c.in_ok-ended.ensures.ending)
          (c.in_ok-map.ensures.after Γ (subst (IsAround Γ) (sym c.in_ok-inner.ensures.vars) around) (types_at c.args.parts.now place c.index-parts-place.result Γ types lt c.index-parts-place.is))))))));
    }

pub at_once-sequel-requires-clause-together : goal.at_once-sequel-requires-clause-together
at_once-sequel-requires-clause-together t c =
    let frame = c.args.frame.now in
    let sides = c.in_ok-sides.sides in
    let w = c.loop-place.world in
    let x = c.joined.new.world in
    let parts = c.args.parts.now in
    let m = c.in_ok-map-2.map in
    let all : sides.all < 2 ^ frame.bits = keep_below frame.keep sides.needed sides.all frame.bits frame.inside c.in_ok-sides.ensures.needed.within c.in_ok-sides.ensures.all in
    part_over x frame.vars frame.layout frame.bits frame.kept sides.all (except sides.all (bits_in sides.writes.items 0 (length parts))) all (closed_in 0 (length parts) sides.users.items) c.requires.parts.outer (par (trees parts)) m
    (parts_after w x frame sides c.loop-place.place parts c.loop-place.maps.items c.as_slice.result.now frame.closed.items m c.as_slice.ensures.value c.loop-place.invariant.count (omega arith) c.requires.separate c.in_ok-sides.ensures.users c.in_ok-sides.ensures.writes
    c.loop-place.invariant.made c.in_ok-map-2.ensures.joined c.requires.parts.outer c.requires.parts.around c.requires.parts.types) c.in_ok-map-2.ensures.nodes

pub at_once-sequel-requires-clause-rest : goal.at_once-sequel-requires-clause-rest
at_once-sequel-requires-clause-rest t c = over-extends c.args.world.now c.joined.new.world (extends_trans c.args.world.now c.loop-place.world c.joined.new.world c.loop-place.invariant.extends c.joined.ensures.extends) c.args.frame.now.bits c.args.rest c.requires.rest

pub at_once-returns-clause-after : goal.at_once-returns-clause-after
at_once-returns-clause-after t c =
    let frame = c.args.frame.now in
    let sides = c.in_ok-sides.sides in
    let w = c.loop-place.world in
    let x = c.joined.new.world in
    let parts = c.args.parts.now in
    let m = c.in_ok-map-2.map in
    let all : ℕ = bit_or frame.keep sides.needed in
    if_ok c.sequel.result _ _
    (λ r is Γ around types. is Γ (par (trees parts))
    (writes_within frame.vars frame.layout frame.bits frame.kept Γ around (par (trees parts)) types sides.written
    (subst (AreWritten frame.layout (par (trees parts))) (sym c.in_ok-sides.ensures.written) (written_in frame.layout sides.writes.items 0 parts (write_all frame.layout sides.writes.items parts c.in_ok-sides.ensures.writes))))
    (closed_all x frame.layout all (except all sides.written) m Γ parts frame.closed.items sides.users.items c.in_ok-sides.ensures.users types
    (subst (λ b. IsPart x frame.layout all (except all b) (closed_in 0 (length parts) sides.users.items) Γ (par (trees parts)) m) (sym c.in_ok-sides.ensures.written)
    (subst (λ k. IsPart x frame.layout k (except k (bits_in sides.writes.items 0 (length parts))) (closed_in 0 (length parts) sides.users.items) Γ (par (trees parts)) m) c.in_ok-sides.ensures.all
    (parts_after w x frame sides c.loop-place.place parts c.loop-place.maps.items c.as_slice.result.now frame.closed.items m c.as_slice.ensures.value c.loop-place.invariant.count (omega arith) c.requires.separate c.in_ok-sides.ensures.users c.in_ok-sides.ensures.writes
    c.loop-place.invariant.made c.in_ok-map-2.ensures.joined Γ around types)))))
    c.sequel.ensures.after
