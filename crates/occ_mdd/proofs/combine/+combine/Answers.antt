use Rattle.std.proofs.Common.{◌<◌, arith, sym, subst}
use Rattle.occ_dd.specs.Table.{nodes_of}
use Rattle.occ_dd.proofs.Growth.{keeps_refl, keeps_trans}
use Rattle.occ_mdd.specs.Combined.{deepest}
use Rattle.occ_mdd.proofs.Combining.{are_later, combined_learnt, high_smaller, high_under, joined, low_smaller, low_under, pass_later, pass_part}
use Rattle.occ_mdd.proofs.combine.+combine.Goals as goal

-- ---- where no branch is made
pub returns-in-Some-clause-leads : goal.returns-in-Some-clause-leads
returns-in-Some-clause-leads g t c = g.met.F.Both.leads_refl c.args.f.now

pub returns-in-Some-clause-keeps : goal.returns-in-Some-clause-keeps
returns-in-Some-clause-keeps g t c = keeps_refl (nodes_of c.args.table.now)

pub returns-in-Some-clause-combined : goal.returns-in-Some-clause-combined
returns-in-Some-clause-combined g t c = c.requires.right c.args.call c.in-Some.combined (sym c.in-Some.ensures)

pub halve-halves-requires-clause-first : goal.halve-halves-requires-clause-first
halve-halves-requires-clause-first g t c = c.requires.pass.first

pub halve-halves-requires-clause-second : goal.halve-halves-requires-clause-second
halve-halves-requires-clause-second g t c = c.requires.pass.second

pub terminal-requires-clause-constant : goal.terminal-requires-clause-constant
terminal-requires-clause-constant g t c = c.halve-halves.ensures.none c.in_default-halves.is

pub returns-in_err-flat-clause-right : goal.returns-in_err-flat-clause-right
returns-in_err-flat-clause-right g t c = are_later c.terminal.ensures.keeps c.args.table.now.diagram c.args.memo.now c.requires.right (λ x y z h. g.met.F.Both.relates_later c.args.f.now c.terminal.new.f x y z c.terminal.ensures.leads h)

pub returns-in_err-insert-clause-right : goal.returns-in_err-insert-clause-right
returns-in_err-insert-clause-right g t c = combined_learnt (nodes_of c.terminal.new.table) (g.F.Both.relates c.terminal.new.f) c.args.memo.now c.insert.new.self c.args.call c.in_ok-flat.flat c.insert.ensures
    (are_later c.terminal.ensures.keeps c.args.table.now.diagram c.args.memo.now c.requires.right (λ x y z h. g.met.F.Both.relates_later c.args.f.now c.terminal.new.f x y z c.terminal.ensures.leads h)) c.in_ok-flat.ensures.combined

pub returns-in_default-halves-clause-right : goal.returns-in_default-halves-clause-right
returns-in_default-halves-clause-right g t c = combined_learnt (nodes_of c.terminal.new.table) (g.F.Both.relates c.terminal.new.f) c.args.memo.now c.insert.new.self c.args.call c.in_ok-flat.flat c.insert.ensures
    (are_later c.terminal.ensures.keeps c.args.table.now.diagram c.args.memo.now c.requires.right (λ x y z h. g.met.F.Both.relates_later c.args.f.now c.terminal.new.f x y z c.terminal.ensures.leads h)) c.in_ok-flat.ensures.combined

-- ---- both sides
pub combine-requires : goal.combine-requires
combine-requires g t c κs within =
    let diagram = c.args.table.now.diagram in
    let pair = c.halve-halves.ensures.some _ c.in-Some-halves.is in (
      subst (λ n. deepest (nodes_of c.args.table.now) c.in-Some-halves.pair.1 < n) c.decreases (low_smaller diagram c.requires.pass.first c.requires.pass.second pair),
      (within.0, (within.1, (pass_part diagram c.in-Some-halves.pair.1 c.args.call c.in-Some-halves.pair.0 0 (g.F.Both.accepts c.args.f.now) (omega arith) pair.low_part c.requires.pass, c.requires.right))),
    )

pub combine-requires-2 : goal.combine-requires-2
combine-requires-2 g t c κs within =
    let diagram = c.args.table.now.diagram in
    let pair = c.halve-halves.ensures.some _ c.in-Some-halves.is in (
      subst (λ n. deepest (nodes_of c.combine.new.table) c.in-Some-halves.pair.2 < n) c.decreases (high_smaller diagram c.requires.pass.first c.requires.pass.second pair c.combine.ensures.keeps),
      (
        within.0,
        (
          within.1,
          (
            pass_later c.combine.ensures.keeps diagram c.in-Some-halves.pair.2 (pass_part diagram c.in-Some-halves.pair.2 c.args.call c.in-Some-halves.pair.0 1 (g.F.Both.accepts c.args.f.now) (omega arith) pair.high_part c.requires.pass)
                (λ x h. g.met.F.Both.accepts_later c.args.f.now c.combine.new.f x c.combine.ensures.leads h),
            c.combine.ensures.right,
          ),
        ),
      ),
    )

pub returns-in_err-high-clause-keeps : goal.returns-in_err-high-clause-keeps
returns-in_err-high-clause-keeps g t c = keeps_trans _ _ _ c.combine.ensures.keeps c.combine-2.ensures.keeps

pub returns-in_err-high-clause-leads : goal.returns-in_err-high-clause-leads
returns-in_err-high-clause-leads g t c = g.met.F.Both.leads_trans c.args.f.now c.combine.new.f c.combine-2.new.f c.combine.ensures.leads c.combine-2.ensures.leads

pub branch-table-requires-clause-low : goal.branch-table-requires-clause-low
branch-table-requires-clause-low g t c = low_under c.args.table.now.diagram c.requires.pass.first c.requires.pass.second (c.halve-halves.ensures.some _ c.in-Some-halves.is) c.combine.ensures.keeps c.combine-2.ensures.keeps c.in_ok-low.low c.in_ok-low.ensures.combined

pub branch-table-requires-clause-high : goal.branch-table-requires-clause-high
branch-table-requires-clause-high g t c = high_under c.args.table.now.diagram c.requires.pass.first c.requires.pass.second (c.halve-halves.ensures.some _ c.in-Some-halves.is) c.combine.ensures.keeps c.combine-2.ensures.keeps c.in_ok-high.high c.in_ok-high.ensures.combined

pub returns-in_err-combined-clause-keeps : goal.returns-in_err-combined-clause-keeps
returns-in_err-combined-clause-keeps g t c = keeps_trans _ _ _ (keeps_trans _ _ _ c.combine.ensures.keeps c.combine-2.ensures.keeps) c.branch-table.ensures.keeps

pub returns-in_err-combined-clause-leads : goal.returns-in_err-combined-clause-leads
returns-in_err-combined-clause-leads g t c = g.met.F.Both.leads_trans c.args.f.now c.combine.new.f c.combine-2.new.f c.combine.ensures.leads c.combine-2.ensures.leads

pub returns-in_err-combined-clause-right : goal.returns-in_err-combined-clause-right
returns-in_err-combined-clause-right g t c = are_later c.branch-table.ensures.keeps c.combine-2.new.table.diagram c.combine-2.new.memo c.combine-2.ensures.right (λ x y z h. h)

pub returns-in_err-insert-2-clause-keeps : goal.returns-in_err-insert-2-clause-keeps
returns-in_err-insert-2-clause-keeps g t c = keeps_trans _ _ _ (keeps_trans _ _ _ c.combine.ensures.keeps c.combine-2.ensures.keeps) c.branch-table.ensures.keeps

pub returns-in_err-insert-2-clause-leads : goal.returns-in_err-insert-2-clause-leads
returns-in_err-insert-2-clause-leads g t c = g.met.F.Both.leads_trans c.args.f.now c.combine.new.f c.combine-2.new.f c.combine.ensures.leads c.combine-2.ensures.leads

pub returns-in_err-insert-2-clause-right : goal.returns-in_err-insert-2-clause-right
returns-in_err-insert-2-clause-right g t c = combined_learnt (nodes_of c.branch-table.new.self) (g.F.Both.relates c.combine-2.new.f) c.combine-2.new.memo c.insert-2.new.self c.args.call c.in_ok-combined.combined c.insert-2.ensures
    (are_later c.branch-table.ensures.keeps c.combine-2.new.table.diagram c.combine-2.new.memo c.combine-2.ensures.right (λ x y z h. h))
    (joined c.args.table.now.diagram c.requires.pass.first c.requires.pass.second (c.halve-halves.ensures.some _ c.in-Some-halves.is) c.combine.ensures.keeps c.combine-2.ensures.keeps c.branch-table.ensures.keeps
    c.combine.new.table.diagram c.combine-2.new.table.diagram
    (g.F.Both.relates c.combine.new.f) (g.F.Both.relates c.combine-2.new.f) (λ x y z h. g.met.F.Both.relates_later c.combine.new.f c.combine-2.new.f x y z c.combine-2.ensures.leads h)
    c.in_ok-low.low c.in_ok-high.high c.in_ok-combined.combined c.in_ok-low.ensures.combined c.in_ok-high.ensures.combined c.in_ok-combined.ensures.split)

pub returns-clause-keeps : goal.returns-clause-keeps
returns-clause-keeps g t c = keeps_trans _ _ _ (keeps_trans _ _ _ c.combine.ensures.keeps c.combine-2.ensures.keeps) c.branch-table.ensures.keeps

pub returns-clause-leads : goal.returns-clause-leads
returns-clause-leads g t c = g.met.F.Both.leads_trans c.args.f.now c.combine.new.f c.combine-2.new.f c.combine.ensures.leads c.combine-2.ensures.leads

pub returns-clause-right : goal.returns-clause-right
returns-clause-right g t c = combined_learnt (nodes_of c.branch-table.new.self) (g.F.Both.relates c.combine-2.new.f) c.combine-2.new.memo c.insert-2.new.self c.args.call c.in_ok-combined.combined c.insert-2.ensures
    (are_later c.branch-table.ensures.keeps c.combine-2.new.table.diagram c.combine-2.new.memo c.combine-2.ensures.right (λ x y z h. h))
    (joined c.args.table.now.diagram c.requires.pass.first c.requires.pass.second (c.halve-halves.ensures.some _ c.in-Some-halves.is) c.combine.ensures.keeps c.combine-2.ensures.keeps c.branch-table.ensures.keeps
    c.combine.new.table.diagram c.combine-2.new.table.diagram
    (g.F.Both.relates c.combine.new.f) (g.F.Both.relates c.combine-2.new.f) (λ x y z h. g.met.F.Both.relates_later c.combine.new.f c.combine-2.new.f x y z c.combine-2.ensures.leads h)
    c.in_ok-low.low c.in_ok-high.high c.in_ok-combined.combined c.in_ok-low.ensures.combined c.in_ok-high.ensures.combined c.in_ok-combined.ensures.split)

pub returns-clause-combined : goal.returns-clause-combined
returns-clause-combined g t c = joined c.args.table.now.diagram c.requires.pass.first c.requires.pass.second (c.halve-halves.ensures.some _ c.in-Some-halves.is) c.combine.ensures.keeps c.combine-2.ensures.keeps c.branch-table.ensures.keeps
    c.combine.new.table.diagram c.combine-2.new.table.diagram
    (g.F.Both.relates c.combine.new.f) (g.F.Both.relates c.combine-2.new.f) (λ x y z h. g.met.F.Both.relates_later c.combine.new.f c.combine-2.new.f x y z c.combine-2.ensures.leads h)
    c.in_ok-low.low c.in_ok-high.high c.in_ok-combined.combined c.in_ok-low.ensures.combined c.in_ok-high.ensures.combined c.in_ok-combined.ensures.split
