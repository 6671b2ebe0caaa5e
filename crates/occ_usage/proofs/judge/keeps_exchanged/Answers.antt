use Rattle.std.proofs.Common.{IsTrue, rules}
use Rattle.occ_syntax.specs.View.{tree}
use Rattle.occ_usage.proofs.Judging.{told}
use Rattle.occ_usage.proofs.judge.keeps_exchanged.Goals as goal

pub returns-then-branch : goal.returns-then-branch
returns-then-branch c =
    let yes : IsTrue c.in_ok-uses_no_more.field-0 = search (rules, c.if-branch.true) in
    told c.keeps_alone.result c.args.scope.now (tree c.args.old.now) (tree c.args.new.now) c.args.whole.now c.requires (c.in_ok-uses_no_more.ensures yes) c.keeps_alone.ensures
