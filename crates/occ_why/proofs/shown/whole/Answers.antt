use Rattle.occ_why.proofs.Telling.{told_in_turn}
use Rattle.occ_why.proofs.shown.whole.Goals as goal

pub returns : goal.returns
returns c =
    told_in_turn c.args.word.now c.args.behind.now c.args.lines.now c.in_ok-text.text.items c.extend_from_slice.new.self.items c.extend_from_slice-2.new.self.items c.push_lines.new.text.items c.extend_from_slice-3.new.self.items
    c.in_ok-text.ensures.items c.in_ok-extend_from_slice.ensures.items c.in_ok-extend_from_slice-2.ensures.items c.in_ok-push_lines.ensures c.in_ok-extend_from_slice-3.ensures.items
