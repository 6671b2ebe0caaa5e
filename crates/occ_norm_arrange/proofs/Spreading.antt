-- Each step of taking PARs apart keeps what the process does.
use Rattle.std.proofs.Common.{◌≡◌, ◌<◌, ◌+◌, ℕ, true, false, ◌&&◌, List, [], ◌∷◌, ◌++◌, Option, None, Some, is_none, refl, sym, ap, subst, arith}
use Rattle.std.proofs.lemmas.Bool.{and_from, and_parts}
use Rattle.occ_syntax.specs.occ_base.declared.names.Name.{Name}
use Rattle.occ_syntax.specs.occ_base.declared.width.Width.{Width}
use Rattle.occ_meaning.proofs.Beside.{Gives, gives_itself}
use Rattle.occ_meaning.proofs.InScope.{free_in_scope}
use Rattle.occ_meaning.proofs.Parts.{behind}
use Rattle.occ_meaning.specs.Parallel.{all_of}
use Rattle.occ_syntax.proofs.Weights.{weight, weight_of_all}
use Rattle.occ_syntax.proofs.Within.{declaring_all-append}
use Rattle.occ_syntax.specs.Declarations.{declaring_all}
use Rattle.occ_syntax.specs.Meaning.{at_the_same_time, meaning}
use Rattle.occ_syntax.specs.Names.{free_in_some}
use Rattle.occ_syntax.specs.Scopes.{Environment, with_name}
use Rattle.occ_syntax.specs.Tree.{Tree, Trees, and_tree, connect, no_tree, par}
use Rattle.occ_syntax.specs.Types.{all_types_kept, can_declare, is_width, types_kept}
use Rattle.occ_syntax.specs.declared.scope.Kind.{Kind}
use Rattle.occ_syntax.specs.declared.scope.Kind.TheVariants.{Chan}
use Rattle.occ_norm_arrange.proofs.Reshaped.{reshaped_all, reshaped_itself, reshaped_steps}
use Rattle.occ_norm_arrange.proofs.Itself.{all_at_least, bits_of_both, types_of_all, types_of_both}
use Rattle.occ_norm_arrange.proofs.Elsewhere.{types_beside}
use Rattle.occ_norm_arrange.proofs.LastPart.{channel_of_last_in, channel_of_last_out}
use Rattle.occ_norm_arrange.proofs.Listed.{all_of_three}
use Rattle.occ_norm_arrange.specs.FlatArranged.{IsReshaped}
use Rattle.occ_norm_arrange.specs.Declares.{some_declare}
use Rattle.occ_norm_arrange.specs.Spread.{IsNext, channel, parts, spread}

-- ---- weights

pub weight_of_both : (ps qs : Trees) → weight_of_all (all_of ps qs) ≡ weight_of_all ps + weight_of_all qs
unfolding weight_of_all
weight_of_both no_tree qs = omega arith
weight_of_both (and_tree p ps) qs = let h = weight_of_both ps qs in omega (arith, h)

-- ---- a channel

none_is : (o : Option Kind) → is_none o ≡ true → o ≡ None
none_is None h = refl
none_is (Some k) h = absurd (cc)

module _ (ps : Trees) (c : ℕ) (w : Width) (last : Tree) (unheard : some_declare ps c ≡ false) where
  inner : Tree
  inner = par (all_of ps (and_tree last no_tree))

  outer : Tree
  outer = par (all_of ps (and_tree (connect c w last) no_tree))

  -- the parts in front keep types, the name isn't in scope, and the last part keeps types where it is
  parted : (Γ : Environment) → types_kept outer Γ ≡ true
      → (all_types_kept ps Γ ≡ true) × (can_declare Γ c w ≡ true) × (types_kept last (with_name Γ c (Chan w None)) ≡ true)
  unfolding outer
  parted Γ h =
      let j = types_of_all ps (and_tree (connect c w last) no_tree) Γ h in
      let k = and_parts (can_declare Γ c w && types_kept last (with_name Γ c (Chan w None))) true j.1 in
      let l = and_parts (can_declare Γ c w) (types_kept last (with_name Γ c (Chan w None))) k.0 in (j.0, l.0, l.1)

  absent : (Γ : Environment) → types_kept outer Γ ≡ true → Γ c ≡ None
  absent Γ h = none_is (Γ c) (and_parts (is_none (Γ c)) (is_width w) (parted Γ h).1).0

  unused : (Γ : Environment) → types_kept outer Γ ≡ true → free_in_some ps c ≡ false
  unused Γ h = free_in_scope (par ps) Γ (parted Γ h).0 c (absent Γ h)

  moved_types : (Γ : Environment) → types_kept outer Γ ≡ true → types_kept (connect c w inner) Γ ≡ true
  unfolding inner
  moved_types Γ h =
      let j = parted Γ h in
      let Δ = with_name Γ c (Chan w None) in
      and_from (can_declare Γ c w) (all_types_kept (all_of ps (and_tree last no_tree)) Δ) j.1
      (types_of_both ps (and_tree last no_tree) Δ (types_beside ps Γ c (Chan w None) (absent Γ h) unheard j.0) (and_from (types_kept last Δ) true j.2 refl))

  moved_in : (Γ : Environment) → types_kept outer Γ ≡ true → Gives Γ (meaning outer) (meaning (connect c w inner))
  unfolding inner outer
  moved_in Γ h = channel_of_last_in Γ c w ps last Γ (parted Γ h).0 (unused Γ h)

  moved_out : (Γ : Environment) → types_kept outer Γ ≡ true → Gives Γ (meaning (connect c w inner)) (meaning outer)
  unfolding inner outer
  moved_out Γ h = channel_of_last_out Γ c w ps last Γ (parted Γ h).0 (unused Γ h)

  channel_moved : IsReshaped outer (connect c w inner)
  unfolding inner outer weight weight_of_all
  channel_moved = record {
    arranged = record {
      types = moved_types;
      forth = moved_in;
      back = moved_out;
      bits = λ n.
          let e = bits_of_both ps (and_tree last no_tree) n in
          let f = bits_of_both ps (and_tree (connect c w last) no_tree) n in omega (arith, e, f);
    };
    weighs =
        let e = weight_of_both ps (and_tree last no_tree) in
        let f = weight_of_both ps (and_tree (connect c w last) no_tree) in omega (arith, e, f);
  }

-- the channel stands behind the other declarations then
channel_spread : (ds : List (Name × Kind)) (ps : Trees) (c : Name) (w : Width) (last : Tree) → some_declare ps c.0 ≡ false
    → IsReshaped (spread ds ps (connect c.0 w last)) (spread (ds ++ (c, Chan w None) ∷ []) ps last)
unfolding inner outer
channel_spread ds ps c w last unheard =
    subst (λ q. IsReshaped (spread ds ps (connect c.0 w last)) q) (sym (declaring_all-append ds (c, Chan w None) (inner ps c.0 w last unheard)))
    (reshaped_all ds (outer ps c.0 w last unheard) (connect c.0 w (inner ps c.0 w last unheard)) (channel_moved ps c.0 w last unheard))

-- ---- a PAR

module _ (ps rs : Trees) where
  nested : Tree
  nested = par (all_of ps (and_tree (par rs) no_tree))

  opened : Tree
  opened = par (all_of ps rs)

  par_opened : IsReshaped nested opened
  unfolding nested opened weight weight_of_all
  par_opened = record {
    arranged = record {
      types = λ Γ h.
          let j = types_of_all ps (and_tree (par rs) no_tree) Γ h in types_of_both ps rs Γ j.0 (and_parts (all_types_kept rs Γ) true j.1).0;
      forth = λ Γ h. behind Γ ps (and_tree (par rs) no_tree) rs (gives_itself Γ (at_the_same_time rs));
      back = λ Γ h. behind Γ ps rs (and_tree (par rs) no_tree) (gives_itself Γ (at_the_same_time rs));
      bits = λ n.
          let f = bits_of_both ps rs n in
          let g = bits_of_both ps (and_tree (par rs) no_tree) n in
          let h = all_at_least rs n in omega (arith, f, g, h);
    };
    weighs =
        let f = weight_of_both ps rs in
        let g = weight_of_both ps (and_tree (par rs) no_tree) in omega (arith, f, g);
  }

parts_spread : (ds : List (Name × Kind)) (ps qs : Trees) (last : Tree) → IsReshaped (spread ds ps (par (all_of qs (and_tree last no_tree)))) (spread ds (all_of ps qs) last)
unfolding nested opened
parts_spread ds ps qs last =
    subst (λ q. IsReshaped (spread ds ps (par (all_of qs (and_tree last no_tree)))) (declaring_all ds (par q))) (all_of_three ps qs (and_tree last no_tree))
    (reshaped_all ds (nested ps (all_of qs (and_tree last no_tree))) (opened ps (all_of qs (and_tree last no_tree))) (par_opened ps (all_of qs (and_tree last no_tree))))

-- ---- the beginning, and a step

pub spread_first : (ps : Trees) (ds : List (Name × Kind)) (qs front : Trees) (last : Tree) → ps ≡ all_of front (and_tree last no_tree) → ds ≡ [] → qs ≡ front
    → IsReshaped (par ps) (spread ds qs last)
spread_first ps ds qs front last e f g =
    subst (λ es. IsReshaped (par ps) (spread es qs last)) (sym f)
    (subst (λ rs. IsReshaped (par ps) (spread [] rs last)) (sym g)
    (subst (λ rs. IsReshaped (par rs) (spread [] front last)) (sym e) (reshaped_itself (spread [] front last))))

step_spread : (ds : List (Name × Kind)) (ps : Trees) (last : Tree) (ds' : List (Name × Kind)) (ps' : Trees) (last' : Tree)
    → IsNext ds ps last ds' ps' last' → IsReshaped (spread ds ps last) (spread ds' ps' last')
step_spread ds ps last ds' ps' last' (channel c w unheard e f g) =
    subst (λ b. IsReshaped (spread ds ps b) (spread ds' ps' last')) (sym e)
    (subst (λ es. IsReshaped (spread ds ps (connect c.0 w last')) (spread es ps' last')) (sym f)
    (subst (λ qs. IsReshaped (spread ds ps (connect c.0 w last')) (spread (ds ++ (c, Chan w None) ∷ []) qs last')) (sym g) (channel_spread ds ps c w last' unheard)))
step_spread ds ps last ds' ps' last' (parts qs e f g) =
    subst (λ b. IsReshaped (spread ds ps b) (spread ds' ps' last')) (sym e)
    (subst (λ es. IsReshaped (spread ds ps (par (all_of qs (and_tree last' no_tree)))) (spread es ps' last')) (sym g)
    (subst (λ rs. IsReshaped (spread ds ps (par (all_of qs (and_tree last' no_tree)))) (spread ds rs last')) (sym f) (parts_spread ds ps qs last')))

pub spread_next : (p : Tree) (ds : List (Name × Kind)) (ps : Trees) (last : Tree) (ds' : List (Name × Kind)) (ps' : Trees) (last' : Tree)
    → IsReshaped p (spread ds ps last) → IsNext ds ps last ds' ps' last' → IsReshaped p (spread ds' ps' last')
spread_next p ds ps last ds' ps' last' s n = reshaped_steps p (spread ds ps last) (spread ds' ps' last') s (step_spread ds ps last ds' ps' last' n)

-- ---- each step leaves a smaller last part

last_weighs : (qs : Trees) (p : Tree) → weight p < weight_of_all (all_of qs (and_tree p no_tree))
unfolding weight_of_all
last_weighs no_tree p = omega arith
last_weighs (and_tree q qs) p = let h = last_weighs qs p in omega (arith, h)

pub next_smaller : (ds : List (Name × Kind)) (ps : Trees) (last : Tree) (ds' : List (Name × Kind)) (ps' : Trees) (last' : Tree)
    → IsNext ds ps last ds' ps' last' → weight last' < weight last
unfolding weight
next_smaller ds ps last ds' ps' last' (channel c w u e f g) = let h = ap weight e in omega (arith, h)
next_smaller ds ps last ds' ps' last' (parts qs e f g) = let h = ap weight e in let k = last_weighs qs last' in omega (arith, h, k)
