-- A step by its number among all steps of a configuration.
use Rattle.std.proofs.Common.{List, Some, ap, get_or, length, map, refl, slice_get, sym, ℕ, ◌<◌, ◌∙◌, ◌≡◌}
use Rattle.std.proofs.lemmas.Option.{slice_get_read}
use Rattle.occ_run.proofs.Lists.{get_map}
use Rattle.occ_run.specs.Effects.{offered, seen_offers}
use Rattle.occ_run.specs.Machines.{step_at, steps_at}
use Rattle.occ_run.specs.declared.effect.Offer.{Offer}
use Rattle.occ_run.specs.declared.machine.Point.{Point}

-- the step of an offer at its number
pub numbered : (p : Point) (shown : List Offer) (n : ℕ) (k : Offer) → n < length shown → k ≡ get_or shown n k
    → map (step_at p) (seen_offers shown) ≡ steps_at p → slice_get (steps_at p) n ≡ Some (step_at p (offered k))
numbered p shown n k below at all =
    let here : slice_get shown n ≡ Some k = slice_get_read shown (length shown) n k refl below at in
    ap (λ ks. slice_get ks n) (sym all) ∙ get_map (step_at p) (seen_offers shown) n (offered k) (get_map offered shown n k here)
