use Rattle.std.proofs.Common.{IsTrue, rules, sym}
use Rattle.occ_derive_search.proofs.Taking.{put_same, whole_kept}
use Rattle.occ_engine.proofs.Putting.{exchanged_there}
use Rattle.occ_syntax.specs.View.{tree}
use Rattle.occ_derive_search.proofs.exchange.exchanged.Goals as goal

pub keeps_exchanged-requires : goal.keeps_exchanged-requires
keeps_exchanged-requires c =
    let made = c.in_ok-whole.ensures in
    exchanged_there c.args.program _ c.args.step.now.path c.args.scope.now _ _ _ c.requires.rules c.requires.scope made.put made.taken (sym c.in_ok-part.ensures)

pub returns-then-branch : goal.returns-then-branch
returns-then-branch c =
    let made = c.in_ok-whole.ensures in
    let step = c.args.step.now in
    let yes : IsTrue c.in_ok-keeps_exchanged.field-0 = search (rules, c.if-branch.true) in
    record {
      whole = put_same c.args.program c.in_ok-whole.whole step.path (tree c.in_ok-part.part) (tree step.part) c.in_ok-part.ensures made.put;
      old = made.taken;
      kept = c.in_ok-keeps_exchanged.ensures.0 yes;
    }

pub returns-else-branch : goal.returns-else-branch
returns-else-branch c = λ k.
    let step = c.args.step.now in
    let program = c.args.program in
    let put_in = put_same program c.in_ok-whole.whole step.path (tree c.in_ok-part.part) (tree step.part) c.in_ok-part.ensures c.in_ok-whole.ensures.put in
    let yes : IsTrue c.in_ok-keeps_exchanged.field-0 =
    c.in_ok-keeps_exchanged.ensures.1 (whole_kept program c.in_ok-whole.whole step.path (tree step.part) c.requires.rules put_in k) in
    search (rules, c.if-branch.false, yes)
