use Rattle.std.proofs.Common.{◌≡◌, ap, sym, ◌∙◌}
use Rattle.occ_law_alt.specs.occ_law.Numbers.{lists, lists_of}
use Rattle.occ_law_any.proofs.Directing.{as_whole, behind_one, behind_two}
use Rattle.occ_law_any.proofs.Outside.{nothing_direct}
use Rattle.occ_syntax.specs.View.{tree}
use Rattle.occ_law_any.proofs.first.direct.Goals as goal

pub returns-in_default : goal.returns-in_default
returns-in_default c =
    λ r h. nothing_direct c.args.law.0 c.args.scope.now h.place (tree c.args.left.now) r c.law.ensures.total c.in_default.is h.change.sides

pub returns-in-Whole : goal.returns-in-Whole
returns-in-Whole c =
    let none : lists_of c.args.law.0 ≡ 0 = sym (ap lists_of c.in-Some.ensures.numbered) ∙ sym c.changes.ensures ∙ ap lists c.in-Whole.is in
    as_whole c.args.law.0 c.args.scope.now (tree c.args.left.now) none c.change_at.result c.change_at.ensures

pub returns-in-Behind : goal.returns-in-Behind
returns-in-Behind c =
    let one : lists_of c.args.law.0 ≡ 1 = sym (ap lists_of c.in-Some.ensures.numbered) ∙ sym c.changes.ensures ∙ ap lists c.in-Behind.is in
    behind_one c.args.law.0 c.args.scope.now (tree c.args.left.now) c.breadth.result one c.breadth.ensures c.first_behind.result c.first_behind.ensures

pub returns-in-Between : goal.returns-in-Between
returns-in-Between c =
    let two : lists_of c.args.law.0 ≡ 2 = sym (ap lists_of c.in-Some.ensures.numbered) ∙ sym c.changes.ensures ∙ ap lists c.in-Between.is in
    behind_two c.args.law.0 c.args.scope.now (tree c.args.left.now) c.breadth-in-Between.result two c.breadth-in-Between.ensures c.first_between.result c.first_between.ensures
