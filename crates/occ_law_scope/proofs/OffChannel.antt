-- chan-alt, by its sides: the branches whose guard isn't on the channel.
use Rattle.std.proofs.Common.{◌≡◌, ℕ, ◌↔◌, List, [], refl, ap, sym, ◌∙◌}
use Rattle.occ_syntax.specs.occ_base.declared.width.Width.{Width}
use Rattle.occ_law_shape.specs.occ_law.Scope.{ChanAlt, chan_alt, without_channel}
use Rattle.occ_syntax.specs.Tree.{Tree, alt, connect, Branches, no_branch}
use Rattle.occ_law_scope.proofs.Joined.{by_sides, put_right}

pub no_more : (c : ℕ) (w : Width) (zs : Branches) → zs ≡ no_branch → without_channel c w zs ≡ no_branch
no_more c w zs e = ap (without_channel c w) e

chan_alt_back : (c : ℕ) (w : Width) (gs : Branches) (r : Tree) (place : List ℕ) → ChanAlt place (connect c w (alt gs)) r → r ≡ alt (without_channel c w gs)
chan_alt_back c w gs r place (chan_alt d v hs) = refl

pub chan_alt_law : (l r b : Tree) (c : ℕ) (w : Width) (gs hs : Branches) → connect c w b ≡ l → alt gs ≡ b → alt hs ≡ r → (hs ≡ without_channel c w gs) ↔ ((place : List ℕ) × ChanAlt place l r)
chan_alt_law l r b c w gs hs e f g =
    by_sides ChanAlt (connect c w (alt gs)) l r (ap (connect c w) f ∙ e)
    (λ h. ([], put_right ChanAlt [] (connect c w (alt gs)) (alt (without_channel c w gs)) r (sym g ∙ ap alt h) (chan_alt c w gs)))
    (λ place k. inner hs (without_channel c w gs) (g ∙ chan_alt_back c w gs r place k))
  where
    inner : (gs hs : Branches) → alt gs ≡ alt hs → gs ≡ hs
    inner gs hs e = cc
