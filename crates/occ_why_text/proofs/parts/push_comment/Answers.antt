use Rattle.std.proofs.Common.{arith, sym}
use Rattle.std.proofs.lemmas.List.{length-take-le}
use Rattle.occ_why_text.proofs.parts.push_comment.Goals as goal

pub slice_bounds-extend_from_slice-length : goal.slice_bounds-extend_from_slice-length
slice_bounds-extend_from_slice-length c = sym (length-take-le 55 c.args.comment.now (omega (arith, c.if-comment-gt-MOST_SHOWN.true)))
