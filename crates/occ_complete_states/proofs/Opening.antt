-- An ALT behind a state is opened: its guards are those of normal programs, and behind each stands a configuration.
use Rattle.std.proofs.Common.{arith, ◌≡◌, ◌∙◌, ℕ, ◌+◌, ◌<◌, ◌≤◌, ◌^◌, Bool, true, false, ◌||◌, ◌&&◌, cond, eqb, ◌==◌, List, [], ◌∷◌, ◌++◌, Option, Some, None, is_none, refl, sym, ap, subst, map}
use Rattle.std.proofs.lemmas.Bool.{and_from, and_parts, eqb-true, or_from}
use Rattle.std.proofs.lemmas.List.{append-nil, append_assoc}
use Rattle.std.specs.List.{AllByRecursion}
use Rattle.occ_derive_laws.specs.occ_base.declared.event.Dir.{Dir}
use Rattle.occ_derive_laws.specs.occ_base.declared.event.Dir.TheVariants.{Input, Output}
use Rattle.occ_derive_laws.specs.occ_base.declared.names.Name.{Name}
use Rattle.occ_derive_laws.specs.occ_base.declared.width.Width.{Width}
use Rattle.occ_derive_laws.specs.occ_base.Width.{bits_of}
use Rattle.occ_derive_laws.specs.occ_derive_moves.Unified.{is_target}
use Rattle.occ_derive_laws.specs.occ_derive_moves.Settled.{IsEventGuard, sends, takes}
use Rattle.occ_derive_laws.specs.occ_derive_moves.Weight.{weight}
use Rattle.occ_complete_states.proofs.Evaluating.{guards_are_told}
use Rattle.occ_complete_states.proofs.Turning.{behind_given, behind_other, given_keeps, input_turns}
use Rattle.occ_complete_states.specs.GuardTelling.{GoesOn, IsTelling, Opens, goes_at_once, puts_out, takes_in}
use Rattle.occ_derive_laws.proofs.Each.{Each, each_all, each_behind, each_front}
use Rattle.occ_derive_laws.proofs.Keeping.{IsKept, each_kept, kept_each}
use Rattle.occ_derive_laws.proofs.Opened.{agree_both}
use Rattle.occ_derive_laws.proofs.Turns.{none_keeps, with_first}
use Rattle.occ_complete_states.proofs.Leading.{declaring_leads, leads_itself, leads_keep, leads_on}
use Rattle.occ_complete_states.proofs.Rows.{declarations_go_in, guarded_append}
use Rattle.occ_complete_states.proofs.Scopes.{declaring_keeps, last_new, scope_front}
use Rattle.occ_complete_states.specs.Configured.{IsClear, IsConfigured, IsLeft, IsOpenBranch, an_event, at_once}
use Rattle.occ_complete_states.specs.Headers.{IsHeader}
use Rattle.occ_complete_states.specs.Leads.{Leads}
use Rattle.occ_complete_states.specs.Rows.{each_declaring, guard_names}
use Rattle.occ_complete_states.specs.States.{facts, facts_given, in_state, scope_of, told, told_given}
use Rattle.occ_complete_states.proofs.Facts.{IsListed, all_listed, constant_unnamed, told_keeps}
use Rattle.occ_complete_states.specs.Telling.{IsTold}
use Rattle.occ_derive_laws.specs.occ_law.Lists.{all_branches}
use Rattle.occ_derive_laws.proofs.from_meaning.Facts.{at_itself, false_not_true, none_not_some, some_is}
use Rattle.occ_derive_laws.specs.occ_meaning.Parallel.{one, two}
use Rattle.occ_derive_laws.specs.occ_nform_table.Tables.{is_marked}
use Rattle.occ_derive_laws.specs.occ_syntax.declared.scope.Kind.{Kind}
use Rattle.occ_derive_laws.specs.occ_syntax.declared.scope.Kind.TheVariants.{Chan, Var}
use Rattle.occ_derive_laws.specs.occ_syntax.Declarations.{declaring_all}
use Rattle.occ_derive_laws.specs.occ_syntax.Names.{free_in_waiting, is_in, names}
use Rattle.occ_derive_laws.specs.occ_syntax.Scopes.{Environment, Values, allows, channel_kind, channel_width, environment, same_dir, variable_kind, variable_width}
use Rattle.occ_derive_laws.specs.occ_syntax.Tree.{Branches, Exp, Tree, Waiting, alt, and_branch, input, no_tree, output, ready, seq, truth}
use Rattle.occ_derive_laws.specs.occ_syntax.Types.{scope_kept}
use Rattle.occ_derive_laws.specs.occ_syntax.Usage.{Keeps}
use Rattle.occ_derive_laws.specs.occ_target.Rows.{guarded, variable_of}
use Rattle.occ_derive_laws.specs.occ_target.States.{constant, variables}
use Rattle.occ_derive_laws.specs.occ_target_laws.Bodies.{IsVariable}
use Rattle.occ_derive_laws.specs.occ_target_laws.Shapes.{Header}

-- ---- channels are parameters

chan_front : (A B : List (Name × Kind)) (c : ℕ) (w : Width) (d : Option Dir) → AllByRecursion (λ (y : Name × Kind). IsVariable y.1) B
    → environment (A ++ B) c ≡ Some (Chan w d) → environment A c ≡ Some (Chan w d)
chan_front [] B c w d vars e = none_there B vars e
  where
    none_there : (U : List (Name × Kind)) → AllByRecursion (λ (y : Name × Kind). IsVariable y.1) U → environment U c ≡ Some (Chan w d) → None ≡ Some (Chan w d)
    none_there [] v f = f
    none_there ((name, Chan u m) ∷ U) v f = absurd v.0
    none_there ((name, Var u) ∷ U) v f = at (eqb c name.0) f (λ g. none_there U v.1 g)
      where
        at : (b : Bool) → cond b (Some (Var u)) (environment U c) ≡ Some (Chan w d) → (environment U c ≡ Some (Chan w d) → None ≡ Some (Chan w d)) → None ≡ Some (Chan w d)
        at true g further = ap channel_of g
          where
            channel_of : Option Kind → Option Kind
            channel_of (Some (Chan v m)) = Some (Chan v m)
            channel_of (Some (Var v)) = None
            channel_of None = None
        at false g further = further g
chan_front (a ∷ A) B c w d vars e = at (eqb c a.0.0) e (λ f. chan_front A B c w d vars f)
  where
    at : (b : Bool) → cond b (Some a.1) (environment (A ++ B) c) ≡ Some (Chan w d) → (environment (A ++ B) c ≡ Some (Chan w d) → environment A c ≡ Some (Chan w d))
        → cond b (Some a.1) (environment A c) ≡ Some (Chan w d)
    at true f further = f
    at false f further = further f

inputs_vary : (h : Header) (A : List (Name × Kind)) → AllByRecursion (λ (t : Name × Kind). IsVariable t.1 × (environment h.params t.0.0 ≡ None)) A
    → AllByRecursion (λ (y : Name × Kind). IsVariable y.1) A
inputs_vary h [] all = tt
inputs_vary h (a ∷ A) all = (all.0.0, inputs_vary h A all.1)

mark_of : (A : List (Name × Kind)) (c : ℕ) (w : Width) (d : Option Dir) → AllByRecursion (λ (p : Name × Kind). is_marked p.1 ≡ true) A → environment A c ≡ Some (Chan w d)
    → is_marked (Chan w d) ≡ true
mark_of [] c w d all e = none_not_some e
mark_of (a ∷ A) c w d all e = at (eqb c a.0.0) e (λ f. mark_of A c w d all.1 f)
  where
    at : (b : Bool) → cond b (Some a.1) (environment A c) ≡ Some (Chan w d) → (environment A c ≡ Some (Chan w d) → is_marked (Chan w d) ≡ true) → is_marked (Chan w d) ≡ true
    at true f further = subst (λ k. is_marked k ≡ true) (some_is f) all.0
    at false f further = further f

-- the channel is a parameter, marked for that direction
parameter : (h : Header) → IsHeader h → (ys : List (Name × Kind)) → AllByRecursion (λ (y : Name × Kind). IsVariable y.1) ys → (c : ℕ) (w : Width) (m : Dir)
    → channel_width (environment (scope_of h ++ ys)) c ≡ Some w → allows (environment (scope_of h ++ ys) c) m ≡ true → environment h.params c ≡ Some (Chan w (Some m))
parameter h is ys vars c w m e a = at (environment (scope_of h ++ ys) c) refl e a
  where
    direction : (v : Width) (k : Dir) → same_dir k m ≡ true → k ≡ m
    direction v k f = dirs k m f
      where
        dirs : (k m : Dir) → same_dir k m ≡ true → k ≡ m
        dirs Input Input f = refl
        dirs Output Output f = refl
        dirs Input Output f = false_not_true f
        dirs Output Input f = false_not_true f

    by : (v : Width) (d : Option Dir) → environment h.params c ≡ Some (Chan v d) → v ≡ w → allows (Some (Chan v d)) m ≡ true → environment h.params c ≡ Some (Chan w (Some m))
    by v None f g k = false_not_true (mark_of h.params c v None is.marked f)
    by v (Some d) f g k = f ∙ (ap (λ z. Some (Chan z (Some d))) g ∙ ap (λ z. Some (Chan w (Some z))) (direction v d k))

    at : (o : Option Kind) → environment (scope_of h ++ ys) c ≡ o → channel_kind o ≡ Some w → allows o m ≡ true → environment h.params c ≡ Some (Chan w (Some m))
    at (Some (Chan v d)) f g k =
        by v d (chan_front h.params h.inputs c v d (inputs_vary h h.inputs is.declared) (chan_front (scope_of h) ys c v d vars f)) (some_is g) k
    at (Some (Var v)) f g k = none_not_some g
    at None f g k = none_not_some g

-- ---- all inputs are turned

-- the guard is one of a normal program's
data IsReadied (h : Header) (ys : List (Name × Kind)) (s : Values) (limit : ℕ) : Waiting × Tree → Type 0 where
  at_once_on : (p : Tree) → GoesOn h ys limit p → IsReadied h ys s limit (ready, seq (two (told (scope_of h ++ ys) s) p))
  sent : (c : ℕ) (w : Width) (v : ℕ) (p : Tree) → environment h.params c ≡ Some (Chan w (Some Output)) → v < 2 ^ bits_of w → GoesOn h ys limit p
      → IsReadied h ys s limit (output c (constant w v), seq (two (told (scope_of h ++ ys) s) p))
  taken : (c x : ℕ) (w : Width) (p : Tree) → environment h.params c ≡ Some (Chan w (Some Input)) → variable_width (environment (scope_of h ++ ys)) x ≡ Some w
      → is_target h x ≡ false → GoesOn h ys limit p
      → IsReadied h ys s limit (input c (variable_of h.inputs w), seq (two (told_given (scope_of h ++ ys) s x (variable_of h.inputs w)) p))

pub kind_front : (A B : List (Name × Kind)) (x : ℕ) (w : Width) → variable_width (environment A) x ≡ Some w → variable_width (environment (A ++ B)) x ≡ Some w
kind_front [] B x w e = none_not_some e
kind_front (a ∷ A) B x w e = at (eqb x a.0.0) e (λ f. kind_front A B x w f)
  where
    at : (b : Bool) → variable_kind (cond b (Some a.1) (environment A x)) ≡ Some w → (variable_kind (environment A x) ≡ Some w → variable_kind (environment (A ++ B) x) ≡ Some w)
        → variable_kind (cond b (Some a.1) (environment (A ++ B) x)) ≡ Some w
    at true f further = f
    at false f further = further f

record IsTurned (h : Header) (ys : List (Name × Kind)) (s : Values) (limit : ℕ) (front bs : List (Waiting × Tree)) : Type 0 where
  rows : List (Waiting × Tree)
  each : AllByRecursion (IsReadied h ys s limit) rows
  leads : Leads (scope_of h ++ ys) (alt (guarded (front ++ bs))) (alt (guarded (front ++ rows)))

record OneTurned (h : Header) (ys : List (Name × Kind)) (s : Values) (limit : ℕ) (front : List (Waiting × Tree)) (b : Waiting × Tree) (bs : List (Waiting × Tree)) : Type 0 where
  row : Waiting × Tree
  is : IsReadied h ys s limit row
  leads : Leads (scope_of h ++ ys) (alt (guarded (front ++ b ∷ bs))) (alt (guarded (front ++ row ∷ bs)))

module _ (h : Header) (is : IsHeader h) (ys : List (Name × Kind)) (vars : AllByRecursion (λ (y : Name × Kind). IsVariable y.1) ys) (s : Values) (i : IsTold (scope_of h ++ ys) s) (limit : ℕ) where
  one_turned : (front : List (Waiting × Tree)) (b : Waiting × Tree) (bs : List (Waiting × Tree)) → IsTelling h ys s limit b
      → Keeps (environment (scope_of h ++ ys)) (alt (guarded (front ++ b ∷ bs))) → OneTurned h ys s limit front b bs
  one_turned front b bs (goes_at_once p g) k = record {
    row = (ready, seq (two (told (scope_of h ++ ys) s) p));
    is = at_once_on p g;
    leads = leads_itself (scope_of h ++ ys) (alt (guarded (front ++ (ready, seq (two (told (scope_of h ++ ys) s) p)) ∷ bs)));
  }
  one_turned front b bs (puts_out c w v p e a small g) k = record {
    row = (output c (constant w v), seq (two (told (scope_of h ++ ys) s) p));
    is = sent c w v p (parameter h is ys vars c w Output e a) small g;
    leads = leads_itself (scope_of h ++ ys) (alt (guarded (front ++ (output c (constant w v), seq (two (told (scope_of h ++ ys) s) p)) ∷ bs)));
  }
  one_turned front b bs (takes_in c x w p e a ex other g) k =
      let there = parameter h is ys vars c w Input e a in
      let t = variable_of h.inputs w in
      let can = is.takes c w there in
      let et = kind_front (scope_of h) ys t w can.1 in
      let apart : (x == t) ≡ false = differ t can.0 (x == t) refl in
      let fs = guarded front in
      let hs = guarded bs in
      let old = guarded_append front ((input c x, behind_other (scope_of h ++ ys) s i x t w ex et apart p) ∷ bs) in
      let new = guarded_append front ((input c t, behind_given (scope_of h ++ ys) s i x t w ex et apart p) ∷ bs) in
      let m = subst (λ z. Keeps (environment (scope_of h ++ ys)) (alt z)) old k in
      let each = kept_each (environment (scope_of h ++ ys)) (all_branches fs (and_branch (truth true) (input c x) (behind_other (scope_of h ++ ys) s i x t w ex et apart p) hs)) m in
      let given = given_keeps (scope_of h ++ ys) s i x t w ex et apart p g.is_left.keeps in
      let now = each_kept (environment (scope_of h ++ ys)) (all_branches fs (and_branch (truth true) (input c t) (behind_given (scope_of h ++ ys) s i x t w ex et apart p) hs))
      (each_all (IsKept (environment (scope_of h ++ ys))) fs (and_branch (truth true) (input c t) (behind_given (scope_of h ++ ys) s i x t w ex et apart p) hs)
      (each_front (IsKept (environment (scope_of h ++ ys))) fs (and_branch (truth true) (input c x) (behind_other (scope_of h ++ ys) s i x t w ex et apart p) hs) each) (
        record { condition = refl; wait = and_from _ _ a (agree_both (channel_width (environment (scope_of h ++ ys)) c) (variable_width (environment (scope_of h ++ ys)) t) w e et); part = given },
        (each_behind (IsKept (environment (scope_of h ++ ys))) fs (and_branch (truth true) (input c x) (behind_other (scope_of h ++ ys) s i x t w ex et apart p) hs) each).1,
      )) in
      record {
        row = (input c t, behind_given (scope_of h ++ ys) s i x t w ex et apart p);
        is = taken c x w p there ex other g;
        leads = subst (λ z. Leads (scope_of h ++ ys) (alt z) (alt (guarded (front ++ (input c t, behind_given (scope_of h ++ ys) s i x t w ex et apart p) ∷ bs)))) (sym old)
            (subst (λ z. Leads (scope_of h ++ ys) (alt (all_branches fs (and_branch (truth true) (input c x) (behind_other (scope_of h ++ ys) s i x t w ex et apart p) hs))) (alt z)) (sym new)
            (input_turns (scope_of h ++ ys) s i x t w ex et apart p fs hs c g.is_left.keeps m now));
      }
    where
      differ : (t : ℕ) → is_target h t ≡ true → (q : Bool) → (x == t) ≡ q → q ≡ false
      differ t f true n = false_not_true (sym other ∙ (ap (is_target h) (eqb-true x t n) ∙ f))
      differ t f false n = refl

  all_turned : (front bs : List (Waiting × Tree)) → AllByRecursion (IsTelling h ys s limit) bs → Keeps (environment (scope_of h ++ ys)) (alt (guarded (front ++ bs)))
      → IsTurned h ys s limit front bs
  all_turned front [] all k = record { rows = []; each = tt; leads = leads_itself (scope_of h ++ ys) (alt (guarded (front ++ []))) }
  all_turned front (b ∷ bs) all k =
      let first = one_turned front b bs all.0 k in
      let kept = leads_keep (scope_of h ++ ys) i.scope k first.leads in
      let shift = append_assoc front (first.row ∷ []) bs in
      let more = all_turned (front ++ first.row ∷ []) bs all.1 (subst (λ l. Keeps (environment (scope_of h ++ ys)) (alt (guarded l))) (sym shift) kept) in
      record {
        rows = first.row ∷ more.rows;
        each = (first.is, more.each);
        leads = leads_on (scope_of h ++ ys) first.leads
            (subst (λ l. Leads (scope_of h ++ ys) (alt (guarded l)) (alt (guarded (front ++ first.row ∷ more.rows)))) shift
            (subst (λ l. Leads (scope_of h ++ ys) (alt (guarded ((front ++ first.row ∷ []) ++ bs))) (alt (guarded l))) (append_assoc front (first.row ∷ []) more.rows) more.leads));
      }

-- ---- the declarations go in

listed_behind : (Γ : Environment) (A B : List (Name × Kind)) → AllByRecursion (IsListed Γ) (A ++ B) → AllByRecursion (IsListed Γ) B
listed_behind Γ [] B all = all
listed_behind Γ (a ∷ A) B all = listed_behind Γ A B all.1

news : (S ys : List (Name × Kind)) → scope_kept (S ++ ys) ≡ true → AllByRecursion (λ (y : Name × Kind). environment S y.0.0 ≡ None) ys
news S [] h = tt
news S (y ∷ ys) h =
    let longer = subst (λ U. scope_kept U ≡ true) (sym (append_assoc S (y ∷ []) ys)) h in
    ((last_new S y.0 y.1 (scope_front (S ++ y ∷ []) ys longer)).new, shorter ys (news (S ++ y ∷ []) ys longer))
  where
    less : (A : List (Name × Kind)) (x : ℕ) → environment (A ++ y ∷ []) x ≡ None → environment A x ≡ None
    less [] x e = refl
    less (a ∷ A) x e = at (eqb x a.0.0) e (λ f. less A x f)
      where
        at : (b : Bool) → cond b (Some a.1) (environment (A ++ y ∷ []) x) ≡ None → (environment (A ++ y ∷ []) x ≡ None → environment A x ≡ None) → cond b (Some a.1) (environment A x) ≡ None
        at true f further = none_not_some (sym f)
        at false f further = further f

    shorter : (zs : List (Name × Kind)) → AllByRecursion (λ (z : Name × Kind). environment (S ++ y ∷ []) z.0.0 ≡ None) zs → AllByRecursion (λ (z : Name × Kind). environment S z.0.0 ≡ None) zs
    shorter [] all = tt
    shorter (z ∷ zs) all = (less S z.0.0 all.0, shorter zs all.1)

not_channel : (Γ : Environment) (y : Name × Kind) (c : ℕ) (w : Width) (d : Option Dir) → IsVariable y.1 → IsListed Γ y → Γ c ≡ Some (Chan w d) → (y.0.0 == c) ≡ false
not_channel Γ (name, Chan v m) c w d var l e = absurd var
not_channel Γ (name, Var v) c w d var l e = at (name.0 == c) refl
  where
    at : (b : Bool) → (name.0 == c) ≡ b → b ≡ false
    at true f = none_not_some (sym (ap variable_kind e) ∙ (ap (λ z. variable_kind (Γ z)) (sym (eqb-true name.0 c f)) ∙ ap variable_kind l))
    at false f = refl

kind_longer : (A B : List (Name × Kind)) (c : ℕ) (k : Kind) → environment A c ≡ Some k → environment (A ++ B) c ≡ Some k
kind_longer [] B c k e = none_not_some e
kind_longer (a ∷ A) B c k e = at (eqb c a.0.0) e (λ f. kind_longer A B c k f)
  where
    at : (b : Bool) → cond b (Some a.1) (environment A c) ≡ Some k → (environment A c ≡ Some k → environment (A ++ B) c ≡ Some k) → cond b (Some a.1) (environment (A ++ B) c) ≡ Some k
    at true f further = f
    at false f further = further f

not_known : (Γ : Environment) (y t : ℕ) (w : Width) → Γ y ≡ None → variable_width Γ t ≡ Some w → (y == t) ≡ false
not_known Γ y t w n e = at (y == t) refl
  where
    at : (b : Bool) → (y == t) ≡ b → b ≡ false
    at true f = none_not_some (sym (ap variable_kind n) ∙ (ap (λ z. variable_kind (Γ z)) (eqb-true y t f) ∙ e))
    at false f = refl

one_unnamed : (h : Header) → IsHeader h → (ys : List (Name × Kind)) (s : Values) (limit : ℕ) (b : Waiting × Tree) (y : Name × Kind) → IsVariable y.1
    → IsListed (environment (scope_of h ++ ys)) y → environment (scope_of h) y.0.0 ≡ None → IsReadied h ys s limit b → free_in_waiting b.0 y.0.0 ≡ false
one_unnamed h is ys s limit b y var l n (at_once_on p g) = refl
one_unnamed h is ys s limit b y var l n (sent c w v p e small g) =
    or_from (y.0.0 == c) (names (constant w v) y.0.0)
    (not_channel (environment (scope_of h ++ ys)) y c w (Some Output) var l (kind_longer (scope_of h) ys c (Chan w (Some Output)) (kind_longer h.params h.inputs c (Chan w (Some Output)) e)))
    (constant_unnamed w v y.0.0)
one_unnamed h is ys s limit b y var l n (taken c x w p e ex other g) =
    or_from (y.0.0 == c) (y.0.0 == variable_of h.inputs w)
    (not_channel (environment (scope_of h ++ ys)) y c w (Some Input) var l (kind_longer (scope_of h) ys c (Chan w (Some Input)) (kind_longer h.params h.inputs c (Chan w (Some Input)) e)))
    (not_known (environment (scope_of h)) y.0.0 (variable_of h.inputs w) w n (is.takes c w e).1)

rows_unnamed : (h : Header) → IsHeader h → (ys : List (Name × Kind)) (s : Values) (limit : ℕ) (bs : List (Waiting × Tree)) (y : Name × Kind) → IsVariable y.1
    → IsListed (environment (scope_of h ++ ys)) y → environment (scope_of h) y.0.0 ≡ None → AllByRecursion (IsReadied h ys s limit) bs → guard_names bs y.0.0 ≡ false
rows_unnamed h is ys s limit [] y var l n all = refl
rows_unnamed h is ys s limit (b ∷ bs) y var l n all =
    or_from (free_in_waiting b.0 y.0.0) (guard_names bs y.0.0) (one_unnamed h is ys s limit b y var l n all.0) (rows_unnamed h is ys s limit bs y var l n all.1)

all_unnamed : (h : Header) → IsHeader h → (ys : List (Name × Kind)) (s : Values) (limit : ℕ) (bs : List (Waiting × Tree)) → AllByRecursion (IsReadied h ys s limit) bs
    → (zs : List (Name × Kind)) → AllByRecursion (λ (y : Name × Kind). IsVariable y.1) zs → AllByRecursion (IsListed (environment (scope_of h ++ ys))) zs
    → AllByRecursion (λ (y : Name × Kind). environment (scope_of h) y.0.0 ≡ None) zs → AllByRecursion (λ (y : Name × Kind). guard_names bs y.0.0 ≡ false) zs
all_unnamed h is ys s limit bs all [] vars l n = tt
all_unnamed h is ys s limit bs all (z ∷ zs) vars l n = (rows_unnamed h is ys s limit bs z vars.0 l.0 n.0 all, all_unnamed h is ys s limit bs all zs vars.1 l.1 n.1)

-- ---- what comes of it

configured : (h : Header) (ys : List (Name × Kind)) (s : Values) (limit : ℕ) (p : Tree) → IsClear h ys s → GoesOn h ys limit p
    → IsConfigured h limit (declaring_all ys (seq (two (told (scope_of h ++ ys) s) p)))
configured h ys s limit p c g = record { ys = ys; state = s; left = p; form = refl; is_left = g.is_left; is_clear = c; light = g.light }

opened_row : (h : Header) → IsHeader h → (ys : List (Name × Kind)) (s : Values) (limit : ℕ) (b : Waiting × Tree) → IsClear h ys s → IsReadied h ys s limit b
    → IsOpenBranch h limit (b.0, declaring_all ys b.1)
opened_row h is ys s limit b c (at_once_on p g) = at_once (declaring_all ys (seq (two (told (scope_of h ++ ys) s) p))) (configured h ys s limit p c g)
opened_row h is ys s limit b c (sent d w v p e small g) =
    an_event (output d (constant w v), declaring_all ys (seq (two (told (scope_of h ++ ys) s) p))) (record { guard = sends d w v e small; next = configured h ys s limit p c g })
opened_row h is ys s limit b c (taken d x w p e ex other g) =
    an_event (input d (variable_of h.inputs w), declaring_all ys (seq (two (told_given (scope_of h ++ ys) s x (variable_of h.inputs w)) p))) (record {
      guard = takes d w e;
      next = record {
        ys = ys;
        state = s;
        var = x;
        width = w;
        left = p;
        form = refl;
        is_left = g.is_left;
        is_clear = c;
        other = other;
        var_width = ex;
        given_width = (is.takes d w e).1;
        light = g.light;
      };
    })

opened_rows : (h : Header) → IsHeader h → (ys : List (Name × Kind)) (s : Values) (limit : ℕ) (bs : List (Waiting × Tree)) → IsClear h ys s
    → AllByRecursion (IsReadied h ys s limit) bs → AllByRecursion (IsOpenBranch h limit) (each_declaring ys bs)
opened_rows h is ys s limit [] c all = tt
opened_rows h is ys s limit (b ∷ bs) c all = (opened_row h is ys s limit b c all.0, opened_rows h is ys s limit bs c all.1)

pub alternatives_open : (h : Header) → IsHeader h → (ys : List (Name × Kind)) (s : Values) (gs : Branches) → IsLeft h ys (alt gs) → IsClear h ys s
    → Opens h (weight (alt gs)) (in_state (scope_of h) ys s (alt gs))
alternatives_open h is ys s gs l c =
    let U = scope_of h ++ ys in
    let i : IsTold (scope_of h ++ ys) s = record { scope = l.scope; filled = l.filled; state = c.state } in
    let both = with_first (environment U) (told U s) (one (alt gs)) (told_keeps U s i) (with_first (environment U) (alt gs) no_tree l.keeps (none_keeps (environment U))) in
    let g = guards_are_told h ys s gs l i in
    let r = all_turned h is ys l.vars s i (weight (alt gs)) [] g.branches g.each (leads_keep U l.scope both g.leads) in
    let outer = declaring_leads (scope_of h) ys l.vars (leads_on U g.leads r.leads) in
    let k = leads_keep (scope_of h) is.kept (declaring_keeps (scope_of h) ys (seq (two (told U s) (alt gs))) l.vars l.scope both) outer in
    let into = declarations_go_in (scope_of h) ys r.rows l.vars
    (all_unnamed h is ys s (weight (alt gs)) r.rows r.each ys l.vars (listed_behind (environment U) (scope_of h) ys (all_listed U l.scope)) (news (scope_of h) ys l.scope)) l.scope k in
    record { branches = each_declaring ys r.rows; each = opened_rows h is ys s (weight (alt gs)) r.rows c r.each; leads = leads_on (scope_of h) outer into }
