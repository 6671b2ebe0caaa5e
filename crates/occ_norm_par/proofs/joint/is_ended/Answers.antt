use Rattle.std.proofs.Common.{◌≡◌, ℕ, bit_or, sym, ◌∙◌, subst}
use Rattle.std.proofs.lemmas.Bool.{eqb-true}
use Rattle.occ_norm_frame.specs.occ_follow.Sequence.{HasNodes}
use Rattle.occ_norm_frame.specs.occ_mdd.declared.map.MapId.{MapId}
use Rattle.occ_norm_frame.specs.Alone.{IsEnding}
use Rattle.occ_norm_par.proofs.joint.is_ended.Goals as goal

-- maps with the same number
same_id : (a b : MapId) → a.0 ≡ b.0 → a ≡ b
same_id a b e = λ i. record { 0 = e i }

pub returns-clause-ended : goal.returns-clause-ended
returns-clause-ended c h =
    let w = c.ending.new.world in
    let all : ℕ = bit_or c.args.frame.now.keep c.args.joint.needed in
    let same : c.args.rest ≡ c.in_ok-ended.ended = same_id c.args.rest c.in_ok-ended.ended (eqb-true _ _ (sym c.eq.ensures ∙ h)) in
    let kept = c.if-keep-frame.false in
    record {
      same = sym c.except-keep.ensures ∙ kept;
      nodes = subst (HasNodes w) (sym same) c.in_ok-ended.ensures.nodes;
      ending = subst (IsEnding w all c.args.frame.now.keep) (sym same) (subst (λ (k : ℕ). IsEnding w all k c.in_ok-ended.ended) kept c.in_ok-ended.ensures.ending);
    }
