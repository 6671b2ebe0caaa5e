use Rattle.std.proofs.Common.{◌≡◌, None, Some, ap, sym, ◌∙◌}
use Rattle.occ_law_any.proofs.from_meaning.Places.{put_there}
use Rattle.occ_law_any.specs.occ_meaning.Context.{part_at}
use Rattle.occ_replay.proofs.Changing.{exchanged}
use Rattle.occ_syntax.specs.View.{tree}
use Rattle.occ_replay.proofs.change.changed.Goals as goal

pub unreachable-requires : goal.unreachable-requires
unreachable-requires c =
    let made = c.in_ok-whole.ensures in
    let none : None ≡ Some _ = sym c.in_default.ensures ∙ ap (part_at c.args.step.now.path) made.put.body ∙ put_there c.args.step.now.path (tree c.args.program.body) _ _ made.taken in
    cc

pub keeps_exchanged-requires : goal.keeps_exchanged-requires
keeps_exchanged-requires c =
    let made = c.in_ok-whole.ensures in
    exchanged c.args.program _ c.args.step.now.path c.args.scope _ _ (tree c.in-Some.new.now) c.requires.rules c.requires.scope made.put made.taken c.in-Some.ensures
