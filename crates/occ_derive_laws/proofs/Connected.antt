-- The laws of declared channels between two sides that keep the rules, and that their new parts use no more.
use Rattle.std.proofs.Common.{◌≡◌, ◌∙◌, ℕ, Bool, true, false, not, ◌&&◌, ◌||◌, ◌==◌, List, [], None, if◌then◌else◌, refl, ap}
use Rattle.std.proofs.lemmas.Bool.{and_from, and_parts, or_from}
use Rattle.occ_renamed.specs.occ_base.declared.event.Dir.TheVariants.{Input}
use Rattle.occ_renamed.specs.occ_base.declared.names.Name.{Name}
use Rattle.occ_renamed.specs.occ_base.declared.width.Width.{Width}
use Rattle.occ_derive_laws.proofs.Elsewhere.{condition_elsewhere, out_of_scope, waiting_elsewhere}
use Rattle.occ_derive_laws.proofs.Opened.{opened, two_types, types_of_two}
use Rattle.occ_derive_laws.proofs.Using.{branches_use, cases_use, choice, first_branch, first_case, first_condition, first_guard, guard, hidden_more, hidden_uses, later_branches, later_cases, no_branch_used, no_case_used, uses_itself, uses_through}
use Rattle.occ_renamed.specs.occ_law.Scope.{chan_alt, chan_if, chan_seq, chan_unused, each_case_connecting, is_on, without_channel}
use Rattle.occ_renamed.specs.occ_law.RuleTable.{LAW}
use Rattle.occ_renamed.proofs.from_meaning.Declared.{declared_off}
use Rattle.occ_renamed.proofs.from_meaning.Facts.{and_four, and_three, false_not_true, name_at}
use Rattle.occ_renamed.proofs.from_meaning.Typing.{condition_in_scope, names_in_scope, output_types, pairs_in_scope, variable_in_scope}
use Rattle.occ_renamed.specs.occ_meaning.Parallel.{two}
use Rattle.occ_renamed.specs.occ_syntax.declared.scope.Kind.{Kind}
use Rattle.occ_renamed.specs.occ_syntax.declared.scope.Kind.TheVariants.{Chan}
use Rattle.occ_renamed.specs.occ_syntax.Names.{free, free_in_waiting, is_in, names, some_names, uses_end, written}
use Rattle.occ_renamed.specs.occ_syntax.Scopes.{Environment, allows, channel_width, environment, variable_kind, variable_width, with_name}
use Rattle.occ_renamed.specs.occ_syntax.Tree.{Branches, Cases, Exp, Tree, Waiting, alt, and_branch, and_case, assign, connect, input, no_branch, no_case, output, ready, select, seq}
use Rattle.occ_renamed.specs.occ_syntax.Types.{agree, branches_kept, can_declare, cases_kept, is_condition, is_pair, pairs_kept, types_kept, waiting_kept}
use Rattle.occ_renamed.specs.occ_syntax.Usage.{BranchesKeepUsage, CasesKeepUsage, Keeps, KeepsUsage}
use Rattle.occ_renamed.specs.occ_usage.Local.{UsesNoMore}

-- ---- the declaration goes

pub unused_channel_goes : (S : List (Name × Kind)) (c : ℕ) (w : Width) (p : Tree) → Keeps (environment S) (connect c w p) → free p c ≡ false → LAW 57 S (connect c w p) p
unused_channel_goes S c w p k f =
    let Γ = environment S in
    let o = opened Γ c w (Chan w None) p k.types in
    record { place = []; sides = chan_unused c w p f; left = k; right = record { types = out_of_scope p Γ c (Chan w None) f o.types; usage = k.usage } }

-- ---- into a SEQ of two

pub into_two : (S : List (Name × Kind)) (c : ℕ) (w : Width) (p q : Tree) → Keeps (environment S) (connect c w (seq (two p q)))
    → LAW 60 S (connect c w (seq (two p q))) (seq (two (connect c w p) (connect c w q)))
into_two S c w p q k =
    let Γ = environment S in
    let Δ = with_name Γ c (Chan w None) in
    let o = opened Γ c w (Chan w None) (seq (two p q)) k.types in
    let t = types_of_two Δ p q o.types in
    record {
      place = [];
      sides = chan_seq c w p q;
      left = k;
      right = record {
        types = two_types Γ (connect c w p) (connect c w q) (and_from (can_declare Γ c w) (types_kept p Δ) o.can t.0) (and_from (can_declare Γ c w) (types_kept q Δ) o.can t.1);
        usage = k.usage;
      };
    }

hidden_in_both : (a b c : Bool) → ((not a && b) || ((not a && c) || false)) ≡ true → (not a && (b || (c || false))) ≡ true
hidden_in_both true b c h = false_not_true h
hidden_in_both false b c h = h

pub into_two_spares : (c : ℕ) (w : Width) (p q : Tree) → UsesNoMore (seq (two (connect c w p) (connect c w q))) (connect c w (seq (two p q)))
into_two_spares c w p q = record {
  frees = λ z. hidden_in_both (z == c) (free p z) (free q z);
  writes = λ z. hidden_in_both (z == c) (written p z) (written q z);
  ends = λ z d. hidden_in_both (z == c) (uses_end p z d) (uses_end q z d);
}

-- ---- into choices

-- a declared channel is no variable
no_variable : (Γ : Environment) (c : ℕ) (w : Width) → variable_width (with_name Γ c (Chan w None)) c ≡ None
no_variable Γ c w = ap variable_kind (name_at Γ c (Chan w None))

choices_types : (Γ : Environment) (c : ℕ) (w : Width) (cs : Cases) → can_declare Γ c w ≡ true → cases_kept cs (with_name Γ c (Chan w None)) ≡ true
    → cases_kept (each_case_connecting c w cs) Γ ≡ true
choices_types Γ c w no_case can t = refl
choices_types Γ c w (and_case b p cs) can t =
    let Δ = with_name Γ c (Chan w None) in
    let k = and_three (is_condition Δ b) (types_kept p Δ) (cases_kept cs Δ) t in
    let off = condition_in_scope Δ c (no_variable Γ c w) b k.0 in
    and_from (is_condition Γ b && types_kept (connect c w p) Γ) (cases_kept (each_case_connecting c w cs) Γ)
    (and_from (is_condition Γ b) (types_kept (connect c w p) Γ) (condition_elsewhere c Γ Δ (declared_off Γ c (Chan w None)) b off ∙ k.0)
    (and_from (can_declare Γ c w) (types_kept p Δ) can k.1)) (choices_types Γ c w cs can k.2)

choices_usage : (c : ℕ) (w : Width) (cs : Cases) → CasesKeepUsage cs → CasesKeepUsage (each_case_connecting c w cs)
choices_usage c w no_case u = tt
choices_usage c w (and_case b p cs) u = (u.0, choices_usage c w cs u.1)

pub channel_into_choices : (S : List (Name × Kind)) (c : ℕ) (w : Width) (cs : Cases) → Keeps (environment S) (connect c w (select cs))
    → LAW 61 S (connect c w (select cs)) (select (each_case_connecting c w cs))
channel_into_choices S c w cs k =
    let Γ = environment S in
    let o = opened Γ c w (Chan w None) (select cs) k.types in
    record {
      place = [];
      sides = chan_if c w cs;
      left = k;
      right = record { types = choices_types Γ c w cs o.can o.types; usage = choices_usage c w cs k.usage };
    }

choice_free : (b : Exp) (c : ℕ) → names b c ≡ false → free (choice b) c ≡ false
choice_free b c off = or_from (names b c || false) false (or_from (names b c) false off refl) refl

choices_spare : (Γ : Environment) (c : ℕ) (w : Width) (cs : Cases) (r : Tree) → cases_kept cs (with_name Γ c (Chan w None)) ≡ true
    → UsesNoMore (connect c w (select cs)) r → UsesNoMore (select (each_case_connecting c w cs)) r
choices_spare Γ c w no_case r t v = no_case_used r
choices_spare Γ c w (and_case b p cs) r t v =
    let Δ = with_name Γ c (Chan w None) in
    let k = and_three (is_condition Δ b) (types_kept p Δ) (cases_kept cs Δ) t in
    let off = choice_free b c (condition_in_scope Δ c (no_variable Γ c w) b k.0) in
    let whole = select (and_case b p cs) in
    cases_use b (connect c w p) (each_case_connecting c w cs) r
    (uses_through (choice b) (connect c w (choice b)) r (hidden_uses c w (choice b) off)
    (uses_through (connect c w (choice b)) (connect c w whole) r (hidden_more c w (choice b) whole (first_condition b p cs)) v))
    (uses_through (connect c w p) (connect c w whole) r (hidden_more c w p whole (first_case b p cs)) v)
    (choices_spare Γ c w cs r k.2 (uses_through (connect c w (select cs)) (connect c w whole) r (hidden_more c w (select cs) whole (later_cases b p cs)) v))

pub channel_into_choices_spares : (Γ : Environment) (c : ℕ) (w : Width) (cs : Cases) → Keeps Γ (connect c w (select cs))
    → UsesNoMore (select (each_case_connecting c w cs)) (connect c w (select cs))
channel_into_choices_spares Γ c w cs k =
    choices_spare Γ c w cs (connect c w (select cs)) (opened Γ c w (Chan w None) (select cs) k.types).types (uses_itself (connect c w (select cs)))

-- ---- into branches

-- a guard that isn't on the channel doesn't name it
guard_off : (Γ : Environment) (c : ℕ) (w : Width) (v : Waiting) → waiting_kept (with_name Γ c (Chan w None)) v ≡ true → is_on v c ≡ false → free_in_waiting v c ≡ false
guard_off Γ c w ready t h = refl
guard_off Γ c w (input d x) t h =
    let Δ = with_name Γ c (Chan w None) in
    let k = and_parts (allows (Δ d) Input) (agree (channel_width Δ d) (variable_width Δ x)) t in
    or_from (c == d) (c == x) h (variable_in_scope Δ c x (channel_width Δ d) k.1 (no_variable Γ c w))
guard_off Γ c w (output d e) t h =
    let Δ = with_name Γ c (Chan w None) in
    let k = output_types Δ d e t in
    or_from (c == d) (names e c) h (names_in_scope Δ c (no_variable Γ c w) e k.1.0 k.1.2)

guard_free : (b : Exp) (v : Waiting) (c : ℕ) → names b c ≡ false → free_in_waiting v c ≡ false → free (guard b v) c ≡ false
guard_free b v c f g =
    or_from ((names b c || free_in_waiting v c) || false) false (or_from (names b c || free_in_waiting v c) false (or_from (names b c) (free_in_waiting v c) f g) refl) refl

branches_types : (Γ : Environment) (c : ℕ) (w : Width) (gs : Branches) → can_declare Γ c w ≡ true → branches_kept gs (with_name Γ c (Chan w None)) ≡ true
    → branches_kept (without_channel c w gs) Γ ≡ true
branches_types Γ c w no_branch can t = refl
branches_types Γ c w (and_branch b v p gs) can t =
    let Δ = with_name Γ c (Chan w None) in
    let k = and_four (is_condition Δ b) (waiting_kept Δ v) (types_kept p Δ) (branches_kept gs Δ) t in
    at (is_on v c) refl k.0 k.1 k.2 (branches_types Γ c w gs can k.3)
  where
    at : (o : Bool) → is_on v c ≡ o → is_condition (with_name Γ c (Chan w None)) b ≡ true → waiting_kept (with_name Γ c (Chan w None)) v ≡ true
        → types_kept p (with_name Γ c (Chan w None)) ≡ true → branches_kept (without_channel c w gs) Γ ≡ true
        → branches_kept (if o then without_channel c w gs else and_branch b v (connect c w p) (without_channel c w gs)) Γ ≡ true
    at true e hb hv hp rest = rest
    at false e hb hv hp rest =
        let Δ = with_name Γ c (Chan w None) in
        let agree = declared_off Γ c (Chan w None) in
        and_from ((is_condition Γ b && waiting_kept Γ v) && types_kept (connect c w p) Γ) (branches_kept (without_channel c w gs) Γ)
        (and_from (is_condition Γ b && waiting_kept Γ v) (types_kept (connect c w p) Γ)
        (and_from (is_condition Γ b) (waiting_kept Γ v)
        (condition_elsewhere c Γ Δ agree b (condition_in_scope Δ c (no_variable Γ c w) b hb) ∙ hb) (waiting_elsewhere c Γ Δ agree v (guard_off Γ c w v hv e) ∙ hv))
        (and_from (can_declare Γ c w) (types_kept p Δ) can hp)) rest

branches_usage : (c : ℕ) (w : Width) (gs : Branches) → BranchesKeepUsage gs → BranchesKeepUsage (without_channel c w gs)
branches_usage c w no_branch u = tt
branches_usage c w (and_branch b v p gs) u = at (is_on v c) u.0 (branches_usage c w gs u.1)
  where
    at : (o : Bool) → KeepsUsage p → BranchesKeepUsage (without_channel c w gs)
        → BranchesKeepUsage (if o then without_channel c w gs else and_branch b v (connect c w p) (without_channel c w gs))
    at true hp rest = rest
    at false hp rest = (hp, rest)

pub channel_into_branches : (S : List (Name × Kind)) (c : ℕ) (w : Width) (gs : Branches) → Keeps (environment S) (connect c w (alt gs))
    → LAW 62 S (connect c w (alt gs)) (alt (without_channel c w gs))
channel_into_branches S c w gs k =
    let Γ = environment S in
    let o = opened Γ c w (Chan w None) (alt gs) k.types in
    record {
      place = [];
      sides = chan_alt c w gs;
      left = k;
      right = record { types = branches_types Γ c w gs o.can o.types; usage = branches_usage c w gs k.usage };
    }

branches_spare : (Γ : Environment) (c : ℕ) (w : Width) (gs : Branches) (r : Tree) → branches_kept gs (with_name Γ c (Chan w None)) ≡ true
    → UsesNoMore (connect c w (alt gs)) r → UsesNoMore (alt (without_channel c w gs)) r
branches_spare Γ c w no_branch r t v = no_branch_used r
branches_spare Γ c w (and_branch b g p gs) r t v =
    let Δ = with_name Γ c (Chan w None) in
    let k = and_four (is_condition Δ b) (waiting_kept Δ g) (types_kept p Δ) (branches_kept gs Δ) t in
    let whole = alt (and_branch b g p gs) in
    at (is_on g c) refl k.0 k.1
    (branches_spare Γ c w gs r k.3 (uses_through (connect c w (alt gs)) (connect c w whole) r (hidden_more c w (alt gs) whole (later_branches b g p gs)) v))
  where
    at : (o : Bool) → is_on g c ≡ o → is_condition (with_name Γ c (Chan w None)) b ≡ true → waiting_kept (with_name Γ c (Chan w None)) g ≡ true
        → UsesNoMore (alt (without_channel c w gs)) r
        → UsesNoMore (alt (if o then without_channel c w gs else and_branch b g (connect c w p) (without_channel c w gs))) r
    at true e hb hg rest = rest
    at false e hb hg rest =
        let Δ = with_name Γ c (Chan w None) in
        let whole = alt (and_branch b g p gs) in
        let off = guard_free b g c (condition_in_scope Δ c (no_variable Γ c w) b hb) (guard_off Γ c w g hg e) in
        branches_use b g (connect c w p) (without_channel c w gs) r
        (uses_through (guard b g) (connect c w (guard b g)) r (hidden_uses c w (guard b g) off)
        (uses_through (connect c w (guard b g)) (connect c w whole) r (hidden_more c w (guard b g) whole (first_guard b g p gs)) v))
        (uses_through (connect c w p) (connect c w whole) r (hidden_more c w p whole (first_branch b g p gs)) v) rest

pub channel_into_branches_spares : (Γ : Environment) (c : ℕ) (w : Width) (gs : Branches) → Keeps Γ (connect c w (alt gs))
    → UsesNoMore (alt (without_channel c w gs)) (connect c w (alt gs))
channel_into_branches_spares Γ c w gs k =
    branches_spare Γ c w gs (connect c w (alt gs)) (opened Γ c w (Chan w None) (alt gs) k.types).types (uses_itself (connect c w (alt gs)))

-- ---- a channel isn't assigned

pub channel_not_assigned : (Γ : Environment) (c : ℕ) (w : Width) (xs : List ℕ) (es : List Exp) → Keeps Γ (connect c w (assign xs es)) → free (assign xs es) c ≡ false
channel_not_assigned Γ c w xs es k =
    let Δ = with_name Γ c (Chan w None) in
    let o = opened Γ c w (Chan w None) (assign xs es) k.types in
    let j = pairs_in_scope Δ c (no_variable Γ c w) xs es (and_parts (is_pair xs) (pairs_kept Δ xs es) o.types).1 in
    or_from (is_in xs c) (some_names es c) j.0 j.1
