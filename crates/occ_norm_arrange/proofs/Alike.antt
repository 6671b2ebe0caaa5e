-- Parts of PARs in the place of these PARs.
use Rattle.std.proofs.Common.{◌≡◌, sym, ap, ◌∙◌, subst, arith}
use Rattle.occ_meaning.specs.Parallel.{all_of, one}
use Rattle.occ_norm_arrange.proofs.Listed.{all_of_none, all_of_three}
use Rattle.occ_norm_arrange.proofs.Reshaped.{reshaped_itself}
use Rattle.occ_norm_arrange.proofs.Spreading.{weight_of_both}
use Rattle.occ_norm_arrange.proofs.StraightFlat.{one_of_par}
use Rattle.occ_norm_arrange.proofs.Itself.{arranged_steps, both_arranged}
use Rattle.occ_norm_arrange.specs.FlatArranged.{AddsAll, AreArranged}
use Rattle.occ_syntax.proofs.Weights.{weight, weight_of_all}
use Rattle.occ_syntax.specs.Tree.{Tree, Trees, no_tree, par}

-- ---- parts that do the same

alike_itself : (ps : Trees) → AreArranged ps ps
alike_itself ps = reshaped_itself (par ps)

alike_both : (ps ps' qs qs' : Trees) → AreArranged ps ps' → AreArranged qs qs' → AreArranged (all_of ps qs) (all_of ps' qs')
unfolding weight
alike_both ps ps' qs qs' a b = record {
  arranged = both_arranged ps ps' qs qs' a.arranged b.arranged;
  weighs =
      let e = weight_of_both ps qs in
      let f = weight_of_both ps' qs' in
      let g = a.weighs in
      let h = b.weighs in omega (arith, e, f, g, h);
}

-- a PAR, and what does what its parts do
alike_par : (qs rs : Trees) → AreArranged qs rs → AreArranged (one (par qs)) rs
unfolding weight weight_of_all
alike_par qs rs a = record {
  arranged = arranged_steps (par (one (par qs))) (par qs) (par rs) (one_of_par (par qs)) a.arranged;
  weighs = let h = a.weighs in omega (arith, h);
}

-- ---- parts that are added

-- none
pub adds_none : (ps : Trees) → AddsAll ps no_tree ps
adds_none ps = record { others = no_tree; whole = sym (all_of_none ps); alike = alike_itself no_tree }

-- some and then more
pub adds_more : (ps qs rs xs ys : Trees) → AddsAll ps xs qs → AddsAll qs ys rs → AddsAll ps (all_of xs ys) rs
adds_more ps qs rs xs ys a b = record {
  others = all_of a.others b.others;
  whole = b.whole ∙ ap (λ zs. all_of zs b.others) a.whole ∙ sym (all_of_three ps a.others b.others);
  alike = alike_both xs a.others ys b.others a.alike b.alike;
}

-- one as it is
pub adds_one : (ps qs : Trees) (p : Tree) → qs ≡ all_of ps (one p) → AddsAll ps (one p) qs
adds_one ps qs p e = record { others = one p; whole = e; alike = alike_itself (one p) }

-- those of a PAR
pub adds_par : (ps qs rs : Trees) → AddsAll ps qs rs → AddsAll ps (one (par qs)) rs
adds_par ps qs rs a = record { others = a.others; whole = a.whole; alike = alike_par qs a.others a.alike }

-- all that there are
pub added_alike : (ps rs : Trees) → AddsAll no_tree ps rs → AreArranged ps rs
added_alike ps rs a = subst (λ zs. AreArranged ps zs) (sym a.whole) a.alike
