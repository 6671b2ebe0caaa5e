use Rattle.std.proofs.Common.{◌≡◌, ℕ, ◌+◌, ◌++◌, subst, arith}
use Rattle.occ_parse_rules.specs.Forest.{forest, in_nodes, lines_at}
use Rattle.occ_parse_layout.specs.Nesting.{Nest, IsAbove, left}
use Rattle.occ_parse_layout.proofs.Forests.{one_more, nest_more}
use Rattle.occ_parse_layout.proofs.growing.+siblings.Goals as goal

pub loop-row-preserved : goal.loop-row-preserved
loop-row-preserved t c =
    let w1 = left c.next_at.new.rows.items in
    let w2 = left c.siblings.new.rows.items in
    record {
      lines = one_more c.args.level c.in-Some.row _ (left c.loop-row.rows.items) w1 w2 (in_nodes c.loop-row.nodes) (in_nodes c.in_ok-below.below) (in_nodes c.push.new.self) c.new.result
          c.loop-row.invariant.lines c.in-Some.ensures.takes
          (subst (λ (m : ℕ). w1 ≡ lines_at (m + 1) (forest (in_nodes c.in_ok-below.below)) ++ w2) c.from.ensures c.in_ok-below.ensures.lines)
          c.new.ensures c.in_ok-push.ensures.ok;
      nest = λ base n. nest_more base c.args.level c.in-Some.row (left c.loop-row.rows.items) w1 w2 c.in-Some.ensures.takes
          (subst (λ (m : ℕ). (b : ℕ) → Nest b (m + 1) w1 → IsAbove (m + 1) w2 × Nest b (m + 1) w2) c.from.ensures c.in_ok-below.ensures.nest)
          (c.loop-row.invariant.nest base n);
      shorter = omega (arith, c.in_ok-below.ensures.shorter, c.in-Some.ensures.shorter, c.loop-row.invariant.shorter);
    }
