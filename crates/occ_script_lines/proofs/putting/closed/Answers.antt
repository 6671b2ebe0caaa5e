use Rattle.std.proofs.Common.{List, ap, subst, sym, ◌∙◌}
use Rattle.std.specs.List.{AllByRecursion}
use Rattle.occ_syntax.specs.View.{tree}
use Rattle.occ_script_lines.specs.declared.putting.Round.{Round}
use Rattle.occ_script_lines.specs.Putting.{HasPart, within}
use Rattle.occ_script_lines.proofs.Exchanges.{have_last, within_more}
use Rattle.occ_script_lines.proofs.putting.closed.Goals as goal

pub exchange_child-hole-requires : goal.exchange_child-hole-requires
exchange_child-hole-requires c =
    (have_last c.pop.new.self.items c.in-Some.next (subst (λ (rs : List Round). AllByRecursion HasPart rs) c.in-Some.ensures.items c.loop-next.invariant.have)).1

pub loop-next-preserved : goal.loop-next-preserved
loop-next-preserved c =
    let round = c.pop.new.self.items in
    let all = subst (λ (rs : List Round). AllByRecursion HasPart rs) c.in-Some.ensures.items c.loop-next.invariant.have in
    record {
      have = (have_last round c.in-Some.next all).0;
      put_in = ap (within round) c.exchange_child-hole.ensures.put ∙ sym (within_more round c.in-Some.next (tree c.loop-next.whole))
          ∙ ap (λ rs. within rs (tree c.loop-next.whole)) (sym c.in-Some.ensures.items) ∙ c.loop-next.invariant.put_in;
    }
