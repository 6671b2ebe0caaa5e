use Rattle.occ_draw.proofs.Written.{more}
use Rattle.occ_draw.proofs.entries.push_lines.Goals as goal

pub returns : goal.returns
returns c =
    let s1 = more c.args.text.now.items _ _ _ _ c.in_ok-extend_from_slice.ensures.items c.in_ok-push_number.ensures in
    let s2 = more c.args.text.now.items _ _ _ _ s1 c.in_ok-extend_from_slice-2.ensures.items in
    let s3 = more c.args.text.now.items _ _ _ _ s2 c.in_ok-push_quoted.ensures in
    let s4 = more c.args.text.now.items _ _ _ _ s3 c.in_ok-extend_from_slice-3.ensures.items in
    let s5 = more c.args.text.now.items _ _ _ _ s4 c.in_ok-push_number-2.ensures in
    let s6 = more c.args.text.now.items _ _ _ _ s5 c.in_ok-extend_from_slice-4.ensures.items in
    let s7 = more c.args.text.now.items _ _ _ _ s6 c.in_ok-push_number-3.ensures in
    more c.args.text.now.items _ _ _ _ s7 c.in_ok-extend_from_slice-5.ensures.items
