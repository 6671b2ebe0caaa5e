use Rattle.std.proofs.Common.{◌≡◌, ◌<◌, length, ap, arith}
use Rattle.std.specs.Map.{lookup}
use Rattle.occ_syntax.specs.View.{trees}
use Rattle.occ_norm_par.specs.Spans.{same_name}
use Rattle.occ_norm_par.proofs.Spanning.{span_end, span_more, span_none}
use Rattle.occ_norm_par.proofs.users.places_of.Goals as goal

pub loop-place-init : goal.loop-place-init
loop-place-init c = λ n. span_none (trees c.args.parts.now) n.0 _ (ap (lookup (same_name n)) c.new-used.ensures.empty)

pub loop-place-preserved : goal.loop-place-preserved
loop-place-preserved c = λ n.
    let low : c.loop-place.place < length c.args.parts.now = omega arith in
    span_more c.args.parts.now c.loop-place.place _ _ n _ _ low c.index-parts-place.is (c.loop-place.invariant n) (c.in_ok-note_part.ensures n)

pub returns : goal.returns
returns c = λ n.
    let all : c.loop-place.place ≡ length c.args.parts.now = omega arith in
    span_end (trees c.args.parts.now) _ _ n.0 _ all (c.loop-place.invariant n)
