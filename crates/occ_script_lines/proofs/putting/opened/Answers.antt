use Rattle.std.proofs.Common.{◌≡◌, ◌+◌, ◌∷◌, List, ap, arith, drop, get_or, subst, sym, ◌∙◌}
use Rattle.std.specs.List.{AllByRecursion}
use Rattle.std.specs.Prelude.{IsSome}
use Rattle.std.proofs.lemmas.List.{drop_more}
use Rattle.occ_usage.specs.occ_meaning.Context.{part_at, put}
use Rattle.occ_syntax.specs.View.{tree}
use Rattle.occ_script_lines.specs.declared.putting.Round.{Round}
use Rattle.occ_script_lines.specs.Putting.{HasPart, within}
use Rattle.occ_script_lines.proofs.Exchanges.{child_there, comes_in, has_part, have_more, part_down, within_more}
use Rattle.occ_script_lines.proofs.putting.opened.Goals as goal

pub exchange_child-below-requires : goal.exchange_child-below-requires
exchange_child-below-requires c =
    let path = c.items-place-items.result.now in
    let i = c.loop-place.place-index in
    let whole = tree c.loop-place.whole in
    let split : drop i path ≡ get_or path i 0 ∷ drop (i + 1) path = drop_more path i 0 (omega arith) in
    child_there (get_or path i 0) (drop (i + 1) path) whole (subst (λ o. IsSome o) (sym c.loop-place.invariant.part ∙ ap (λ ks. part_at ks whole) split) c.requires)

pub loop-place-preserved : goal.loop-place-preserved
loop-place-preserved c =
    let path = c.items-place-items.result.now in
    let i = c.loop-place.place-index in
    let whole = tree c.loop-place.whole in
    let outer = c.exchange_child-below.new.whole in
    let below = tree c.exchange_child-below.result in
    let here = get_or path i 0 in
    let rest = drop (i + 1) path in
    let split : drop i path ≡ here ∷ rest = drop_more path i 0 (omega arith) in
    let one : Round = record { whole = outer; place = here } in
    let made = c.exchange_child-below.ensures in
    let items = c.in_ok-push.ensures.items in
    record {
      have = subst (λ (rs : List Round). AllByRecursion HasPart rs) (sym items)
          (have_more c.loop-place.round.items one c.loop-place.invariant.have (has_part here whole below _ (tree outer) made.taken made.put));
      put_in = λ r. ap (λ rs. within rs (put rest below r)) items ∙ within_more c.loop-place.round.items one (put rest below r)
          ∙ ap (within c.loop-place.round.items) (comes_in here rest whole below _ (tree outer) r made.taken made.put ∙ ap (λ ks. put ks whole r) (sym split))
          ∙ c.loop-place.invariant.put_in r;
      part = part_down here rest whole below made.taken ∙ ap (λ ks. part_at ks whole) (sym split) ∙ c.loop-place.invariant.part;
    }
