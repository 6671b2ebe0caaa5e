-- How a step changes a control tree, without the tree: what becomes of each process that takes part, and on the way there
-- which of controls at once it stands in, and which value the variable of a VAR has then.
use Rattle.std.specs.Prelude.{ℕ, ◌+◌, ◌==◌, Bool, true, ◌&&◌, List, [], ◌∷◌, ◌++◌, map, Option, None, Some, if◌then◌else◌}
use Rattle.occ_syntax.specs.occ_base.declared.names.Name.{Name}
use Rattle.occ_syntax.specs.occ_base.declared.width.Width.{Width}
use Rattle.occ_syntax.specs.occ_base.declared.event.Event.{Event}
use Rattle.occ_syntax.specs.Tree.{Tree, skip}
use Rattle.occ_syntax.specs.View.{tree}
use Rattle.occ_run_steps.specs.Control.{Control, done, unbegun, after, both, local, channel, Controls, no_control, and_control}
use Rattle.occ_run_steps.specs.Step.{Step, step, leaving, meetings, changes_but, off}
use Rattle.std.specs.List.{filter}
use Rattle.std.specs.Borrow.{Bor}
use Rattle.occ_syntax.specs.declared.proc.Proc.{Proc}
use Rattle.occ_run.specs.declared.effect.Effect.{Effect as TheEffect, Leaf, Within', One', Two'}
use Rattle.occ_run.specs.declared.effect.Next.{Next}
use Rattle.occ_run.specs.declared.effect.Next.TheVariants.{Done, Ready, Process, Variable}
use Rattle.occ_run.specs.declared.effect.Offer.{Offer}

pub data Effect : Type 0 where
  leaf : Control → Effect
  inside : ℕ → Effect → Effect
  one : ℕ → Effect → Effect
  two : ℕ → Effect → ℕ → Effect → Effect

-- the control that a process becomes
abbrev pub at_leaf : Effect → Control
at_leaf (leaf C) = C
at_leaf (inside v e) = done
at_leaf (one i e) = done
at_leaf (two i d j e) = done

-- the value of a VAR's variable, which was v, and the effect on its body
abbrev pub value_of : ℕ → Effect → ℕ
value_of v (leaf C) = v
value_of v (inside u e) = u
value_of v (one i e) = v
value_of v (two i d j e) = v

abbrev pub body_of : Effect → Effect
body_of (leaf C) = leaf C
body_of (inside u e) = e
body_of (one i e) = one i e
body_of (two i d j e) = two i d j e

-- the effect on the k-th of controls at once
abbrev pub part_of : Effect → ℕ → Option Effect
part_of (leaf C) k = None
part_of (inside u e) k = None
part_of (one i e) k = if k == i then Some e else None
part_of (two i d j e) k = if k == i then Some d else (if k == j then Some e else None)

abbrev pub if_moved : Option Effect → Control → (Effect → Control) → Control
if_moved None C f = C
if_moved (Some e) C f = f e

-- a control tree after a step with that effect; of controls at once, of which the first is the k-th
abbrev mutual
  pub applied : Control → Effect → Control
  applied done e = done
  applied (unbegun p) e = at_leaf e
  applied (after C ps) e = after (applied C e) ps
  applied (both Cs) e = both (applied_from 0 Cs e)
  applied (local x w v C) e = local x w (value_of v e) (applied C (body_of e))
  applied (channel c w C) e = channel c w (applied C e)

  pub applied_from : ℕ → Controls → Effect → Controls
  applied_from k no_control e = no_control
  applied_from k (and_control C Cs) e = and_control (if_moved (part_of e k) C (λ d. applied C d)) (applied_from (k + 1) Cs e)

-- ---- the machine's own types

-- what stands behind a guard, of which none is SKIP
abbrev pub behind : Option (Bor Proc) → Tree
behind None = skip
behind (Some part) = tree part.now

abbrev pub next_left : Next → Control
next_left Done = done
next_left Ready = unbegun skip
next_left (Process part) = unbegun (tree part.now)
next_left (Variable name width value body) = local name.0 width value (unbegun (tree body.now))

abbrev pub effect : TheEffect → Effect
effect (Leaf next) = leaf (next_left next)
effect (Within' value p e) = inside value (effect e)
effect (One' i p e) = one i (effect e)
effect (Two' i p d j q e) = two i (effect d) j (effect e)

abbrev pub changes_of : List (Name × ℕ) → List (ℕ × ℕ)
changes_of cs = map (λ (c : Name × ℕ). (c.0.0, c.1)) cs

-- the step by which a process becomes that
abbrev pub becoming : Option Event → List (Name × ℕ) → Next → Step Effect
becoming event changes next = step event (changes_of changes) (leaf (next_left next))

abbrev pub offered : Offer → Step Effect
offered k = step k.event (changes_of k.changes.items) (effect k.effect.value)

abbrev pub seen_offers : List Offer → List (Step Effect)
seen_offers ks = map offered ks

-- ---- the steps of controls at once, by those of each

-- those of each alone, of which the first is the k-th
abbrev pub alone_of : ℕ → List (List (Step Effect)) → List (Step Effect)
alone_of k [] = []
alone_of k (ks ∷ kss) = map (leaving (one k)) ks ++ alone_of (k + 1) kss

abbrev pub both_of : ℕ → ℕ → Effect × Effect → Effect
both_of i j m = two i m.0 j m.1

-- those of the i-th that meet one of the others, of which the first is the j-th
abbrev pub pairs_with : ℕ → List (Step Effect) → ℕ → List (List (Step Effect)) → List (Step Effect)
pairs_with i ks j [] = []
pairs_with i ks j (ls ∷ kss) = map (leaving (both_of i j)) (meetings ks ls) ++ pairs_with i ks (j + 1) kss

abbrev pub pairs_of : ℕ → List (List (Step Effect)) → List (Step Effect)
pairs_of k [] = []
pairs_of k (ks ∷ kss) = pairs_with k ks (k + 1) kss ++ pairs_of (k + 1) kss

-- ---- steps in the body of a VAR and of CHANs, as the outside sees them

-- the value of a variable after changes, before which it was v
abbrev pub value_after : List (ℕ × ℕ) → ℕ → ℕ → ℕ
value_after [] x v = v
value_after (c ∷ cs) x v = if x == c.0 then c.1 else value_after cs x v

abbrev pub in_body : ℕ → ℕ → Step Effect → Step Effect
in_body x v k = step k.event (changes_but x k.changes) (inside (value_after k.changes x v) k.next)

-- the event is on none of the channels
abbrev pub off_all : List (Name × Width) → Option Event → Bool
off_all [] e = true
off_all (c ∷ cs) e = off c.0.0 e && off_all cs e

abbrev pub off_channels : List (Name × Width) → List (Step Effect) → List (Step Effect)
off_channels cs ks = filter (λ k. off_all cs k.event) ks
