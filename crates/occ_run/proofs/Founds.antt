-- What stands at a number among the steps of a control, by its parts.
use Rattle.std.proofs.Common.{◌≡◌, ◌+◌, ◌-◌, ◌<◌, ◌&&◌, ◌++◌, ℕ, Bool, true, false, None, Some, Option, List, [], ◌∷◌, map, length, get_or, take, drop, if◌then◌else◌, refl, ap, sym, subst, ◌∙◌, slice_get, zero, suc, Result, Ok, Err, IfOk, MatchResult, arith}
use Rattle.std.proofs.lemmas.List.{length-append, length-map}
use Rattle.std.proofs.lemmas.List.Elements.{filter-append}
use Rattle.std.proofs.lemmas.Option.{slice_get_past}
use Rattle.std.specs.List.{filter}
use mathlib.Core.Path.{fun_ext}
use Rattle.occ_syntax.specs.occ_base.declared.event.Event.{Event}
use Rattle.occ_syntax.specs.occ_base.declared.names.Name.{Name}
use Rattle.occ_syntax.specs.occ_base.declared.width.Width.{Width}
use Rattle.occ_syntax.specs.Scopes.{Environment, Values, with_name, with_value}
use Rattle.occ_syntax.specs.Tree.{Tree, Trees}
use Rattle.occ_syntax.specs.declared.scope.Kind.TheVariants.{Chan, Var}
use Rattle.occ_run_steps.specs.Control.{Control, Controls, done, unbegun, after, both, local, channel, no_control, and_control}
use Rattle.occ_run_steps.specs.Step.{Step, leaving, off, same as is_same}
use Rattle.occ_run_steps.specs.Steps.{process_steps, steps}
use Rattle.std.specs.declared.rc.Rc.{Rc}
use Rattle.std.specs.declared.alloc.Global.{Global}
use Rattle.occ_run.specs.declared.control.Control.{Control as TheControl}
use Rattle.occ_run.specs.declared.effect.Offer.{Offer}
use Rattle.occ_run.specs.declared.found.Found.{Found}
use Rattle.occ_run.specs.declared.found.Found.TheVariants.{Step as Here, Past}
use Rattle.occ_run.specs.Effects.{Effect, alone_of, applied, in_body, off_all, off_channels, offered, one, pairs_of}
use Rattle.occ_run.specs.Founds.{IsAt, asked, asks, each_effects, effects, leaves}
use Rattle.occ_run.specs.Offers.{AreOffers, Gives}
use Rattle.occ_run.specs.View.{control, controls, in_channels, with_channels}
use Rattle.occ_syntax.specs.occ_base.declared.memory.Memory.{Memory}
use Rattle.occ_run.proofs.Bodies.{at_place, gives_after, gives_channels, gives_local, on_ok}
use Rattle.occ_run.proofs.Fronts.{front_is}
use Rattle.occ_run.proofs.Lists.{filter_all, filter_map, filter_twice, get_map}
use Rattle.occ_run.proofs.RunTogether.{gives_both}

-- ---- the steps with their effects are those of the definitions

same_left : (p : Tree) (ks : List (Step Control)) → map (leaving (applied (unbegun p))) (leaves ks) ≡ ks
same_left p [] = refl
same_left p (k ∷ ks) = ap (λ ls. k ∷ ls) (same_left p ks)

mutual
  pub effects_give : (Γ : Environment) (s : Values) (C : Control) → Gives Γ s C (effects Γ s C)
  effects_give Γ s done = refl
  effects_give Γ s (unbegun p) = same_left p (process_steps Γ s p)
  effects_give Γ s (after C ps) = gives_after Γ s C ps (effects Γ s C) (effects_give Γ s C)
  effects_give Γ s (both Cs) = gives_both Γ s Cs (each_effects Γ s Cs) (each_give Γ s Cs)
  effects_give Γ s (local x w v C) =
      gives_local Γ s x w v C (effects (with_name Γ x (Var w)) (with_value s x v) C) (effects_give (with_name Γ x (Var w)) (with_value s x v) C)
  effects_give Γ s (channel c w C) =
      gives_channels Γ s ((record { 0 = c }, w) ∷ []) C (effects (with_name Γ c (Chan w None)) s C) (effects_give (with_name Γ c (Chan w None)) s C)

  pub each_give : (Γ : Environment) (s : Values) (Cs : Controls) → AreOffers Γ s Cs (each_effects Γ s Cs)
  each_give Γ s no_control = tt
  each_give Γ s (and_control C Cs) = (effects_give Γ s C, each_give Γ s Cs)

-- ---- hidden channels

and_assoc : (a b c : Bool) → (a && b) && c ≡ a && (b && c)
and_assoc true b c = refl
and_assoc false b c = refl

off_more : (xs ys : List (Name × Width)) (e : Option Event) → off_all xs e && off_all ys e ≡ off_all (xs ++ ys) e
off_more [] ys e = refl
off_more (x ∷ xs) ys e = and_assoc (off x.0.0 e) (off_all xs e) (off_all ys e) ∙ ap (λ (b : Bool). off x.0.0 e && b) (off_more xs ys e)

pub off_twice : (xs ys : List (Name × Width)) (ks : List (Step Effect)) → off_channels xs (off_channels ys ks) ≡ off_channels (xs ++ ys) ks
off_twice xs ys ks =
    filter_twice (λ (k : Step Effect). off_all xs k.event) (λ (k : Step Effect). off_all ys k.event) ks
    ∙ ap (λ (p : Step Effect → Bool). filter p ks) (fun_ext (λ k. off_more xs ys k.event))

-- the steps of a control in CHANs in a row
pub effects_in_channels : (Γ : Environment) (s : Values) (cs : List (Name × Width)) (C : Control)
    → effects Γ s (in_channels cs C) ≡ off_channels cs (effects (with_channels Γ cs) s C)
effects_in_channels Γ s [] C = sym (filter_all (effects Γ s C))
effects_in_channels Γ s (c ∷ cs) C =
    let Δ = with_name Γ c.0.0 (Chan c.1 None) in
    ap (off_channels (c ∷ [])) (effects_in_channels Δ s cs C) ∙ off_twice (c ∷ []) cs (effects (with_channels Δ cs) s C)

-- ---- steps that are asked for

asks_more : (xs ys : List (Name × Width)) (o e : Option Event) → asks xs o e && off_all ys e ≡ asks (xs ++ ys) o e
asks_more xs ys None e = off_more xs ys e
asks_more xs ys (Some f) e = and_assoc (is_same f e) (off_all xs e) (off_all ys e) ∙ ap (λ (b : Bool). is_same f e && b) (off_more xs ys e)

pub asked_twice : (xs ys : List (Name × Width)) (o : Option Event) (ks : List (Step Effect)) → asked xs o (off_channels ys ks) ≡ asked (xs ++ ys) o ks
asked_twice xs ys o ks =
    filter_twice (λ (k : Step Effect). asks xs o k.event) (λ (k : Step Effect). off_all ys k.event) ks
    ∙ ap (λ (p : Step Effect → Bool). filter p ks) (fun_ext (λ k. asks_more xs ys o k.event))

-- steps of which each passes, or none does
pub all_pass : (p : Step Effect → Bool) (f : ℕ → Step Effect) → ((v : ℕ) → p (f v) ≡ true) → (vs : List ℕ) → filter p (map f vs) ≡ map f vs
all_pass p f h [] = refl
all_pass p f h (v ∷ vs) = ap (λ (b : Bool). if b then f v ∷ filter p (map f vs) else filter p (map f vs)) (h v) ∙ ap (λ ks. f v ∷ ks) (all_pass p f h vs)

pub none_pass : (p : Step Effect → Bool) (f : ℕ → Step Effect) → ((v : ℕ) → p (f v) ≡ false) → (vs : List ℕ) → filter p (map f vs) ≡ []
none_pass p f h [] = refl
none_pass p f h (v ∷ vs) = ap (λ (b : Bool). if b then f v ∷ filter p (map f vs) else filter p (map f vs)) (h v) ∙ none_pass p f h vs

-- all events on one channel pass, or none does
pub same_channel : (cs : List (Name × Width)) (e f : Event) → e.chan ≡ f.chan → off_all cs (Some e) ≡ off_all cs (Some f)
same_channel [] e f h = refl
same_channel (c ∷ cs) e f h =
    ap (λ (n : Name). off c.0.0 (Some (record { chan = n; dir = e.dir; value = e.value })) && off_all cs (Some e)) h
    ∙ ap (λ (b : Bool). off c.0.0 (Some f) && b) (same_channel cs e f h)

-- ---- numbers

-- what stands there in a list that is the same
pub at_same : (ks ls : List (Step Effect)) (n : ℕ) (r : Found) → ls ≡ ks → IsAt ks n r → IsAt ls n r
at_same ks ls n r e h = let P : List (Step Effect) → Type 0 = λ xs. IsAt xs n r in subst P (sym e) h

-- the item of a number in the first of two lists, and in the second
pub get_front : {A : Type 0} (xs ys : List A) (n : ℕ) (x : A) → slice_get xs n ≡ Some x → slice_get (xs ++ ys) n ≡ Some x
get_front [] ys n x e = cc
get_front (z ∷ xs) ys zero x e = e
get_front (z ∷ xs) ys (suc n) x e = get_front xs ys n x e

pub get_behind : {A : Type 0} (xs ys : List A) (m : ℕ) → slice_get (xs ++ ys) (length xs + m) ≡ slice_get ys m
get_behind [] ys m = let e : 0 + m ≡ m = omega arith in ap (slice_get ys) e
get_behind (z ∷ xs) ys m = let e : suc (length xs) + m ≡ suc (length xs + m) = omega arith in ap (slice_get (z ∷ xs ++ ys)) e ∙ get_behind xs ys m

-- a step of the first list is one of both
pub at_front : (xs ys : List (Step Effect)) (n : ℕ) (x : Offer) → IsAt xs n (Here x) → IsAt (xs ++ ys) n (Here x)
at_front xs ys n x h = get_front xs ys n (offered x) h

-- past the first list stands what stands in the second
pub at_behind : (xs ys : List (Step Effect)) (n m : ℕ) → IsAt xs n (Past m) → (r : Found) → IsAt ys m r → IsAt (xs ++ ys) n r
at_behind xs ys n m h (Here x) k = sym (ap (slice_get (xs ++ ys)) h) ∙ get_behind xs ys m ∙ k
at_behind xs ys n m h (Past more) k = let e = length-append xs ys in omega (arith, h, k, e)

-- the same after f
pub at_map : (f : Step Effect → Step Effect) (ks : List (Step Effect)) (n : ℕ) (x y : Offer) → offered y ≡ f (offered x) → IsAt ks n (Here x) → IsAt (map f ks) n (Here y)
at_map f ks n x y e h = get_map f ks n (offered x) h ∙ ap Some (sym e)

pub past_map : (f : Step Effect → Step Effect) (ks : List (Step Effect)) (n m : ℕ) → IsAt ks n (Past m) → IsAt (map f ks) n (Past m)
past_map f ks n m h = ap (λ (l : ℕ). l + m) (length-map ks f) ∙ h

-- all are passed
pub none_left : (ks ls : List (Step Effect)) (m n : ℕ) → ls ≡ [] → ((r : Found) → IsAt ls m r → IsAt ks n r) → IsAt ks n (Past m)
none_left ks ls m n e h = let none : 0 + m ≡ m = omega arith in h (Past m) (at_same [] ls m (Past m) e none)

-- ---- controls at once

-- each alone, of those that are asked for
pub alone_off : (cs : List (Name × Width)) (o : Option Event) (i : ℕ) (ks : List (Step Effect)) (kss : List (List (Step Effect)))
    → asked cs o (alone_of i (ks ∷ kss)) ≡ map (leaving (one i)) (asked cs o ks) ++ asked cs o (alone_of (i + 1) kss)
alone_off cs o i ks kss =
    let p : Step Effect → Bool = λ k. asks cs o k.event in
    filter-append p (map (leaving (one i)) ks) (alone_of (i + 1) kss)
    ∙ ap (λ xs. xs ++ asked cs o (alone_of (i + 1) kss)) (filter_map (leaving (one i)) p p (λ k. refl) ks)

-- a step of the first is one of all
pub alone_here : (cs : List (Name × Width)) (o : Option Event) (i : ℕ) (ks : List (Step Effect)) (kss : List (List (Step Effect))) (n : ℕ) (x y : Offer) → offered y ≡ leaving (one i) (offered x)
    → IsAt (asked cs o ks) n (Here x) → IsAt (asked cs o (alone_of i (ks ∷ kss))) n (Here y)
alone_here cs o i ks kss n x y e h =
    let front : List (Step Effect) = map (leaving (one i)) (asked cs o ks) in
    at_same (front ++ asked cs o (alone_of (i + 1) kss)) (asked cs o (alone_of i (ks ∷ kss))) n (Here y) (alone_off cs o i ks kss)
    (at_front front (asked cs o (alone_of (i + 1) kss)) n y (at_map (leaving (one i)) (asked cs o ks) n x y e h))

-- past those of the first stands what stands among those of the others
pub alone_behind : (cs : List (Name × Width)) (o : Option Event) (i : ℕ) (ks : List (Step Effect)) (kss : List (List (Step Effect))) (n m : ℕ) → IsAt (asked cs o ks) n (Past m)
    → (r : Found) → IsAt (asked cs o (alone_of (i + 1) kss)) m r → IsAt (asked cs o (alone_of i (ks ∷ kss))) n r
alone_behind cs o i ks kss n m h r k =
    let front : List (Step Effect) = map (leaving (one i)) (asked cs o ks) in
    at_same (front ++ asked cs o (alone_of (i + 1) kss)) (asked cs o (alone_of i (ks ∷ kss))) n r (alone_off cs o i ks kss)
    (at_behind front (asked cs o (alone_of (i + 1) kss)) n m (past_map (leaving (one i)) (asked cs o ks) n m h) r k)

-- of the controls that code sees, the first, and the others
module _ (Γ : Environment) (s : Values) (cs : List (Name × Width)) (o : Option Event) (i n : ℕ) (parts : List (Rc TheControl Global)) (part : Rc TheControl Global) (some : 0 < length parts) (is : part ≡ get_or parts 0 part)
    (C : Control) (same : C ≡ control part.value) where
  abbrev each_of : List (Rc TheControl Global) → List (List (Step Effect))
  each_of ps = each_effects Γ s (controls ps)

  first_part : each_of parts ≡ effects Γ s C ∷ each_of (take (length parts - 1) (drop 1 parts))
  first_part = ap each_of (front_is parts part some is) ∙ ap (λ D. effects Γ s D ∷ each_of (take (length parts - 1) (drop 1 parts))) (sym same)

  -- a step of the first is one of all
  pub part_here : (r : Found) (x y : Offer) → r ≡ Here x → offered y ≡ leaving (one i) (offered x) → IsAt (asked cs o (effects Γ s C)) n r → IsAt (asked cs o (alone_of i (each_of parts))) n (Here y)
  part_here r x y f e h =
      let P : Found → Type 0 = λ g. IsAt (asked cs o (effects Γ s C)) n g in
      let kss = each_of (take (length parts - 1) (drop 1 parts)) in
      at_same (asked cs o (alone_of i (effects Γ s C ∷ kss))) (asked cs o (alone_of i (each_of parts))) n (Here y) (ap (λ lss. asked cs o (alone_of i lss)) first_part)
      (alone_here cs o i (effects Γ s C) kss n x y e (subst P f h))

  -- past its steps stand those of the others
  pub part_behind : (f : Found) (m : ℕ) → f ≡ Past m → IsAt (asked cs o (effects Γ s C)) n f → (r : Found)
      → IsAt (asked cs o (alone_of (i + 1) (each_of (take (length parts - 1) (drop 1 parts))))) m r → IsAt (asked cs o (alone_of i (each_of parts))) n r
  part_behind f m e h r k =
      let P : Found → Type 0 = λ g. IsAt (asked cs o (effects Γ s C)) n g in
      let kss = each_of (take (length parts - 1) (drop 1 parts)) in
      at_same (asked cs o (alone_of i (effects Γ s C ∷ kss))) (asked cs o (alone_of i (each_of parts))) n r (ap (λ lss. asked cs o (alone_of i lss)) first_part)
      (alone_behind cs o i (effects Γ s C) kss n m (subst P e h) r k)

-- ---- other controls

module _ (Γ : Environment) (s : Values) (C : Control) (r : Result Found Memory) (hidden : List (Name × Width)) (only : Option Event) (n : ℕ) where
  -- what was found stands among the steps of the control
  abbrev pub Stands : Environment → Values → Control → List (Name × Width) → Type 0
  Stands Δ u D cs = IfOk r (λ found. IsAt (asked cs only (effects Δ u D)) n found)

  pub after_found : (B D : Control) (ps : Trees) → C ≡ after B ps → D ≡ B → Stands Γ s D hidden → Stands Γ s C hidden
  after_found B D ps e f h = let P : Control → Type 0 = λ E. Stands Γ s E hidden in subst P (sym e) (subst P f h)

  pub channels_found : (Δ : Environment) (u : Values) (cs seen all : List (Name × Width)) (B D : Control) → C ≡ in_channels cs B → seen ≡ cs → all ≡ hidden ++ seen
      → Δ ≡ with_channels Γ seen → u ≡ s → D ≡ B → Stands Δ u D all → Stands Γ s C hidden
  channels_found Δ u cs seen all B D e sc is f g same h =
      let P : Environment → Values → Control → Type 0 = λ Θ q E. Stands Θ q E all in
      let R : List (Name × Width) → Type 0 = λ ds. Stands (with_channels Γ cs) s B ds in
      let T : Control → Type 0 = λ E. Stands Γ s E hidden in
      let inside : Stands (with_channels Γ cs) s B (hidden ++ cs) =
      subst R (is ∙ ap (λ ds. hidden ++ ds) sc) (at_place P (with_channels Γ cs) Δ s u B D (f ∙ ap (with_channels Γ) sc) g same h) in
      let ks = effects (with_channels Γ cs) s B in
      subst T (sym e) (on_ok r (λ found k. at_same (asked (hidden ++ cs) only ks) (asked hidden only (effects Γ s (in_channels cs B))) n found
      (ap (asked hidden only) (effects_in_channels Γ s cs B) ∙ asked_twice hidden cs only ks) k) inside)

-- a step in the body of a VAR is one of the whole
pub local_at : (Γ : Environment) (s : Values) (C : Control) (hidden : List (Name × Width)) (only : Option Event) (n : ℕ) (Δ : Environment) (u : Values) (x : ℕ) (w : Width) (v : ℕ) (B D : Control) (found : Found)
    → C ≡ local x w v B → Δ ≡ with_name Γ x (Var w) → u ≡ with_value s x v → D ≡ B
    → IsAt (map (in_body x v) (asked hidden only (effects Δ u D))) n found → IsAt (asked hidden only (effects Γ s C)) n found
local_at Γ s C hidden only n Δ u x w v B D found e f g same h =
    let p : Step Effect → Bool = λ k. asks hidden only k.event in
    at_same (map (in_body x v) (asked hidden only (effects Δ u D))) (asked hidden only (effects Γ s C)) n found
    (ap (λ E. asked hidden only (effects Γ s E)) e
    ∙ ap (λ Θ. asked hidden only (map (in_body x v) (effects Θ (with_value s x v) B))) (sym f)
    ∙ ap (λ q. asked hidden only (map (in_body x v) (effects Δ q B))) (sym g)
    ∙ ap (λ E. asked hidden only (map (in_body x v) (effects Δ u E))) (sym same)
    ∙ filter_map (in_body x v) p p (λ k. refl) (effects Δ u D)) h

-- those of controls at once, by those of each alone and of two that meet
both_at : (Γ : Environment) (s : Values) (C : Control) (hidden : List (Name × Width)) (only : Option Event) (n : ℕ) (Cs Ds : Controls) (found : Found) → C ≡ both Cs → Ds ≡ Cs
    → IsAt (asked hidden only (alone_of 0 (each_effects Γ s Ds)) ++ asked hidden only (pairs_of 0 (each_effects Γ s Ds))) n found → IsAt (asked hidden only (effects Γ s C)) n found
both_at Γ s C hidden only n Cs Ds found e f h =
    let kss = each_effects Γ s Ds in
    let p : Step Effect → Bool = λ k. asks hidden only k.event in
    at_same (asked hidden only (alone_of 0 kss) ++ asked hidden only (pairs_of 0 kss)) (asked hidden only (effects Γ s C)) n found
    (ap (λ E. asked hidden only (effects Γ s E)) (e ∙ ap both (sym f)) ∙ filter-append p (alone_of 0 kss) (pairs_of 0 kss)) h

-- a step that one of controls at once has alone
pub both_here : (Γ : Environment) (s : Values) (C : Control) (hidden : List (Name × Width)) (only : Option Event) (n : ℕ) (Cs Ds : Controls) (r : Found) (x : Offer) → C ≡ both Cs → Ds ≡ Cs → r ≡ Here x
    → IsAt (asked hidden only (alone_of 0 (each_effects Γ s Ds))) n r → IsAt (asked hidden only (effects Γ s C)) n (Here x)
both_here Γ s C hidden only n Cs Ds r x e f g h =
    let P : Found → Type 0 = λ q. IsAt (asked hidden only (alone_of 0 (each_effects Γ s Ds))) n q in
    both_at Γ s C hidden only n Cs Ds (Here x) e f (at_front (asked hidden only (alone_of 0 (each_effects Γ s Ds))) (asked hidden only (pairs_of 0 (each_effects Γ s Ds))) n x (subst P g h))

-- behind these stand those of two that meet
pub both_behind : (Γ : Environment) (s : Values) (C : Control) (hidden : List (Name × Width)) (only : Option Event) (n m : ℕ) (Cs Ds Es : Controls) (r : Found) (q : Result Found Memory) → C ≡ both Cs → Ds ≡ Cs → Es ≡ Cs → r ≡ Past m
    → IsAt (asked hidden only (alone_of 0 (each_effects Γ s Ds))) n r → IfOk q (IsAt (asked hidden only (pairs_of 0 (each_effects Γ s Es))) m) → IfOk q (IsAt (asked hidden only (effects Γ s C)) n)
both_behind Γ s C hidden only n m Cs Ds Es r q e f k g h found =
    let P : Found → Type 0 = λ x. IsAt (asked hidden only (alone_of 0 (each_effects Γ s Ds))) n x in
    let Q : Controls → Type 0 = λ Bs. IfOk q (IsAt (asked hidden only (pairs_of 0 (each_effects Γ s Bs))) m) in
    on_ok q (λ x j. both_at Γ s C hidden only n Cs Ds x e f
    (at_behind (asked hidden only (alone_of 0 (each_effects Γ s Ds))) (asked hidden only (pairs_of 0 (each_effects Γ s Ds))) n m (subst P g h) x j)) (subst Q (k ∙ sym f) found)

-- what holds where a step was taken, and what comes of it
pub on_done : {A E : Type 0} {P R : A → Type 0} (Q : E → Type 0) (r : Result A E) → ((x : A) → P x → R x) → MatchResult r P Q → MatchResult r R Q
on_done Q (Ok x) f h = f x h
on_done Q (Err e) f h = h

-- ---- the step of a number by the definitions

-- the step that was found is the one of the number
pub here_found : (Γ : Environment) (s : Values) (C : Control) (n : ℕ) (r : Found) (x : Offer) → r ≡ Here x → IsAt (effects Γ s C) n r → slice_get (steps Γ s C) n ≡ Some (leaving (applied C) (offered x))
here_found Γ s C n r x e h =
    let P : Found → Type 0 = λ f. IsAt (effects Γ s C) n f in
    sym (ap (λ ks. slice_get ks n) (effects_give Γ s C)) ∙ get_map (leaving (applied C)) (effects Γ s C) n (offered x) (subst P e h)

-- and behind them there is none
pub past_found : (Γ : Environment) (s : Values) (C : Control) (n : ℕ) (r : Found) (m : ℕ) → r ≡ Past m → IsAt (effects Γ s C) n r → slice_get (steps Γ s C) n ≡ None
past_found Γ s C n r m e h =
    let P : Found → Type 0 = λ f. IsAt (effects Γ s C) n f in
    let past : length (effects Γ s C) + m ≡ n = subst P e h in
    let count = length-map (effects Γ s C) (leaving (applied C)) in
    sym (ap (λ ks. slice_get ks n) (effects_give Γ s C)) ∙ slice_get_past (map (leaving (applied C)) (effects Γ s C)) n (omega (arith, past, count))

-- no channel is hidden
pub at_all : (ks : List (Step Effect)) (n : ℕ) (r : Found) → IsAt (off_channels [] ks) n r → IsAt ks n r
at_all ks n r h = at_same (off_channels [] ks) ks n r (sym (filter_all ks)) h
