use Rattle.std.proofs.Common.{arith, ap, take, drop, ◌∷◌, ◌+◌, ◌∙◌, sym}
use Rattle.std.specs.List.{slice_split}
use Rattle.std.proofs.lemmas.List.{take_rest}
use Rattle.occ_script_lines.specs.Texts.{is_byte}
use Rattle.occ_script_lines.proofs.Pieces.{piece_front, piece_whole}
use Rattle.occ_script_lines.proofs.text.cut.Goals as goal

pub returns-then-len-text-clause-pieces : goal.returns-then-len-text-clause-pieces
returns-then-len-text-clause-pieces c =
    let text = c.args.text.now in
    let len = c.piece_len-len.result in
    piece_front c.args.byte text (omega (arith, c.piece_len-len.ensures))
    ∙ ap (λ n. take n text ∷ slice_split (is_byte c.args.byte) (drop (n + 1) text)) (sym c.piece_len-len.ensures)
    ∙ ap (λ rest. take len text ∷ slice_split (is_byte c.args.byte) rest) (sym (take_rest text (len + 1)))

pub returns-else-len-text-clause-pieces : goal.returns-else-len-text-clause-pieces
returns-else-len-text-clause-pieces c = piece_whole c.args.byte c.args.text.now (omega (arith, c.piece_len-len.ensures))
