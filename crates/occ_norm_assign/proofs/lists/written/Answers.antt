use Rattle.std.proofs.Common.{◌∙◌, get_or, take, cond, sym, ap, add-one, arith}
use Rattle.std.proofs.lemmas.List.{take_all}
use Rattle.occ_norm_frame.specs.occ_dd.Assignment.{with_bit}
use Rattle.occ_norm_assign.specs.Written.{onto}
use Rattle.occ_norm_assign.specs.declared.writes.Write.{Write}
use Rattle.occ_norm_assign.proofs.Listing.{written_more}
use Rattle.occ_norm_assign.proofs.lists.written.Goals as goal

pub loop-write-preserved : goal.loop-write-preserved
loop-write-preserved c =
    let i = c.loop-write.write-index in
    let write : Write = get_or c.args.writes.now i (record { bit = 0; set = record { 0 = 0 } }) in
    c.with_bit-made.ensures ∙ ap (λ b. with_bit c.loop-write.made write.bit (cond b 1 0)) c.has-one.ensures
    ∙ sym (written_more c.args.world.now.store c.args.writes.now i (record { bit = 0; set = record { 0 = 0 } }) c.args.state c.loop-write.made (omega arith) c.loop-write.invariant)
    ∙ ap (λ n. onto c.args.world.now.store (take n c.args.writes.now) c.args.state c.args.state) (sym (add-one i))

pub returns : goal.returns
returns c = c.loop-write.invariant ∙ ap (λ ws. onto c.args.world.now.store ws c.args.state c.args.state) (take_all c.loop-write.write-index c.args.writes.now (omega arith))
