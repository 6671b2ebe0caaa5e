use Rattle.std.proofs.Common.{◌≡◌, ◌+◌, arith, refl}
use Rattle.occ_script_lines.proofs.Divided.{next_is, sections_none}
use Rattle.occ_script_lines.proofs.section.Sections.next.Goals as goal

pub returns-then-at-text : goal.returns-then-at-text
returns-then-at-text c =
    let s = c.args.self.now in
    sections_none s.format s.text.now s.number s.at c.if-at-text.true

pub returns : goal.returns
returns c =
    let s = c.args.self.now in
    let end = c.row_end-end.result in
    let len = c.body_from-len.result.0 in
    let count = c.body_from-len.result.1 in
    let m : s.number + 1 + count ≡ s.number + (1 + count) = omega arith in
    next_is s.format s.text.now c.cut_out.result s.number (s.number + 1 + count) s.at end (end + len) len count c.if-at-text.false c.row_end-end.ensures.end c.body_from-len.ensures.within c.body_from-len.ensures.body
    m refl c.cut_out.ensures.number c.cut_out.ensures.start c.cut_out.ensures.end c.cut_out.ensures.upto
