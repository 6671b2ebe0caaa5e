use Rattle.std.proofs.Common.{◌≡◌, ◌∙◌, None, Some, subst, sym}
use Rattle.occ_bits.specs.occ_dd.declared.memo.Memo.{Memo}
use Rattle.occ_weave.proofs.from_choice.Uniting.{unions-lead}
use Rattle.occ_weave.specs.Memo.{AreWeaves, Remembers}
use Rattle.occ_weave.specs.declared.manner.Manner.{Manner}
use Rattle.occ_weave.proofs.Keeping.{remembers-lead, weaves-lead}
use Rattle.occ_bench.proofs.chain.measure_in_turn.Goals as goal

pub loop-place-init : goal.loop-place-init
loop-place-init c =
    let right = c.new-weaver.ensures.right c.in_ok-manner.manner.written c.in_ok-manner.manner.closed.items in
    record {
      chain = c.in_ok-chain.ensures.node;
      right = remembers-lead c.in_ok-manner.manner.written c.in_ok-manner.manner.closed.items c.new-weaver.result c.buffer.new.world c.new-weaver.result.unions
          c.buffer.ensures.leads (unions-lead c.new-weaver.result.world c.buffer.new.world c.new-weaver.result.unions c.buffer.ensures.leads right.unions) right;
      other = record { each = λ k r e. absurd (let f : None ≡ Some r = sym (c.new-other_pairs.ensures k) ∙ e in cc) };
    }

pub weave-requires-clause-right : goal.weave-requires-clause-right
weave-requires-clause-right c =
    let before = c.loop-place.weaver in
    let leads = c.buffer-in-loop-place.ensures.leads in
    let right = c.loop-place.invariant.right in
    remembers-lead c.loop-place.manner.written c.loop-place.manner.closed.items before c.buffer-in-loop-place.new.world before.unions
    leads (unions-lead before.world c.buffer-in-loop-place.new.world before.unions leads right.unions) right

pub loop-place-preserved : goal.loop-place-preserved
loop-place-preserved c =
    let after = c.weave.new.self in
    let kept : AreWeaves after.world c.loop-place.other.written c.loop-place.other.closed.items c.loop-place.other_pairs =
    weaves-lead c.buffer-in-loop-place.new.world after.world c.loop-place.other.written c.loop-place.other.closed.items c.loop-place.other_pairs c.weave.ensures.leads
    (weaves-lead c.loop-place.weaver.world c.buffer-in-loop-place.new.world c.loop-place.other.written c.loop-place.other.closed.items c.loop-place.other_pairs
    c.buffer-in-loop-place.ensures.leads c.loop-place.invariant.other) in
    let right : Remembers c.loop-place.other.written c.loop-place.other.closed.items (record after { pairs = c.loop-place.other_pairs }) =
    record { unions = c.weave.ensures.right.unions; pairs = kept; kept = c.weave.ensures.right.kept } in
    let M : Memo → Type 0 = λ pairs. Remembers c.loop-place.other.written c.loop-place.other.closed.items (record after { pairs = pairs }) in
    let N : Manner → Type 0 = λ manner. Remembers manner.written manner.closed.items (record after { pairs = c.swap-in-loop-place.new.x }) in
    let O : Memo → Type 0 = λ pairs. AreWeaves after.world c.loop-place.manner.written c.loop-place.manner.closed.items pairs in
    let P : Manner → Type 0 = λ manner. AreWeaves after.world manner.written manner.closed.items c.swap-in-loop-place.new.y in
    record {
      chain = c.in_ok-chain-2.ensures.woven.known;
      right = subst N (sym c.swap.ensures.x_after) (subst M (sym c.swap-in-loop-place.ensures.x_after) right);
      other = subst P (sym c.swap.ensures.y_after) (subst O (sym c.swap-in-loop-place.ensures.y_after) c.weave.ensures.right.pairs);
    }
