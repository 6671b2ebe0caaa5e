use Rattle.std.proofs.Common.{drop, sym, ap, ◌∙◌, ◌+◌, ◌∷◌, ◌≡◌, arith, get_or}
use Rattle.std.proofs.lemmas.List.{drop_more}
use Rattle.occ_usage.specs.occ_meaning.Context.{part_at}
use Rattle.occ_syntax.specs.View.{tree}
use Rattle.occ_script_lines.specs.Places.{scope_list}
use Rattle.occ_script_lines.proofs.Children.{down, scope_down}
use Rattle.occ_script_lines.proofs.part.scope_at.Goals as goal

pub loop-place-preserved : goal.loop-place-preserved
loop-place-preserved c =
    let path = c.items-place-items.result.now in
    let i = c.loop-place.place-index in
    let rest = drop (i + 1) path in
    let part = tree c.loop-place.part.now in
    let split : drop i path ≡ get_or path i 0 ∷ rest = drop_more path i 0 (omega arith) in
    record {
      scope = scope_down (get_or path i 0) rest c.loop-place.scope c.enter.new.scope (scope_list c.args.path.now c.args.program.now.params (tree c.args.program.now.body)) part (tree c.in-Some.below.now)
          c.in-Some.ensures c.in_ok-enter.ensures (ap (λ ks. scope_list ks c.loop-place.scope part) (sym split) ∙ c.loop-place.invariant.scope);
      part = down (get_or path i 0) rest part (tree c.in-Some.below.now) (part_at c.args.path.now (tree c.args.program.now.body)) c.in-Some.ensures
          (ap (λ ks. part_at ks part) (sym split) ∙ c.loop-place.invariant.part);
    }
