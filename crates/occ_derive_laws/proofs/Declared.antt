-- The laws of declared variables between two sides that keep the rules.
use Rattle.std.proofs.Common.{◌≡◌, ◌∙◌, ℕ, Bool, true, false, not, ◌&&◌, ◌||◌, ◌==◌, List, [], None, inl, inr, refl, ap, sym}
use Rattle.std.proofs.lemmas.Bool.{and_from, and_parts, not_from_false, or_parts}
use Rattle.std.proofs.lemmas.Bool.Decides.{eqb_tells}
use Rattle.occ_renamed.specs.occ_base.declared.names.Name.{Name}
use Rattle.occ_renamed.specs.occ_base.declared.width.Width.{Width}
use Rattle.occ_derive_moves.specs.Apart.{has_declared, some_declare}
use Rattle.occ_derive_laws.proofs.Elsewhere.{condition_elsewhere, into_scope, out_of_scope, types_elsewhere, waiting_elsewhere}
use Rattle.occ_derive_laws.proofs.Opened.{apart_names, may_declare, opened, two_types, types_of_two}
use Rattle.occ_derive_laws.proofs.Using.{out_first}
use Rattle.occ_renamed.specs.occ_law.Lists.{conditions}
use Rattle.occ_renamed.specs.occ_law.Scope.{each_branch_declaring, each_case_declaring, some_guard_names, swap_with_channel, var_alt, var_first, var_if, var_last, var_par, var_unused}
use Rattle.occ_renamed.specs.occ_law.RuleTable.{LAW}
use Rattle.occ_renamed.proofs.from_meaning.Declared.{declared_off, swap_names}
use Rattle.occ_renamed.proofs.from_meaning.Facts.{and_four, and_second, and_three, clash, name_off, off_turned, or_three}
use Rattle.occ_renamed.proofs.from_meaning.Free.{no_end, not_written}
use Rattle.occ_renamed.proofs.from_meaning.InScope.{free_in_scope, nowhere_free}
use Rattle.occ_renamed.specs.occ_meaning.Parallel.{two}
use Rattle.occ_renamed.specs.occ_meaning.Rename.{stands}
use Rattle.occ_renamed.specs.occ_syntax.declared.scope.Kind.{Kind}
use Rattle.occ_renamed.specs.occ_syntax.declared.scope.Kind.TheVariants.{Chan, Var}
use Rattle.occ_renamed.specs.occ_syntax.Names.{end_in_some, free, free_in_some, free_in_waiting, names, some_names, uses_end, written, written_in_some}
use Rattle.occ_renamed.specs.occ_syntax.Scopes.{Environment, environment, with_name}
use Rattle.occ_renamed.specs.occ_syntax.Tree.{Branches, Cases, Tree, Trees, alt, and_branch, and_case, and_tree, connect, declare, no_branch, no_case, par, select, seq}
use Rattle.occ_renamed.specs.occ_syntax.Types.{all_types_kept, branches_kept, can_declare, cases_kept, is_condition, is_width, types_kept, waiting_kept}
use Rattle.occ_renamed.specs.occ_syntax.Usage.{BranchesKeepUsage, CasesKeepUsage, IsSeparate, Keeps}
use Rattle.occ_renamed.specs.occ_usage.Local.{UsesNoMore}

-- ---- a declaration goes, or comes

pub unused_goes : (S : List (Name × Kind)) (x : ℕ) (w : Width) (p : Tree) → Keeps (environment S) (declare x w p) → free p x ≡ false → LAW 46 S (declare x w p) p
unused_goes S x w p k f =
    let Γ = environment S in
    let o = opened Γ x w (Var w) p k.types in
    record { place = []; sides = var_unused x w p f; left = k; right = record { types = out_of_scope p Γ x (Var w) f o.types; usage = k.usage } }

pub unused_comes : (S : List (Name × Kind)) (x : ℕ) (w : Width) (p : Tree) → Keeps (environment S) p → environment S x ≡ None → is_width w ≡ true → stands p x ≡ false
    → LAW 46 S (declare x w p) p
unused_comes S x w p k new width nowhere =
    let Γ = environment S in
    let Δ = with_name Γ x (Var w) in
    record {
      place = [];
      sides = var_unused x w p (nowhere_free p x nowhere);
      left = record {
        types = and_from (can_declare Γ x w) (types_kept p Δ) (may_declare Γ x w new width) (sym (types_elsewhere p x Γ Δ (declared_off Γ x (Var w)) nowhere) ∙ k.types);
        usage = k.usage;
      };
      right = k;
    }

-- ---- past a declared channel

pub past_channel : (S : List (Name × Kind)) (x c : ℕ) (v w : Width) (p : Tree) → Keeps (environment S) (connect c w (declare x v p))
    → LAW 48 S (declare x v (connect c w p)) (connect c w (declare x v p))
past_channel S x c v w p k =
    let Γ = environment S in
    let o = opened Γ c w (Chan w None) (declare x v p) k.types in
    let i = opened (with_name Γ c (Chan w None)) x v (Var v) p o.types in
    let off : (x == c) ≡ false = apart_names Γ c (Chan w None) x i.new in
    let Δ = with_name Γ x (Var v) in
    let inner = and_from (can_declare Δ c w) (types_kept p (with_name Δ c (Chan w None)))
    (may_declare Δ c w (name_off Γ x (Var v) c (off_turned x c off) ∙ o.new) o.width)
    (ap (types_kept p) (swap_names Γ x c (Var v) (Chan w None) off) ∙ i.types) in
    record {
      place = [];
      sides = swap_with_channel x c v w p;
      left = record {
        types = and_from (can_declare Γ x v) (types_kept (connect c w p) Δ) (may_declare Γ x v (sym (name_off Γ c (Chan w None) x off) ∙ i.new) i.width) inner;
        usage = k.usage;
      };
      right = k;
    }

out_of_both : (a b c : Bool) → (not a && (not b && c)) ≡ true → (not b && (not a && c)) ≡ true
out_of_both true true c h = h
out_of_both true false c h = h
out_of_both false true c h = h
out_of_both false false c h = h

pub past_channel_spares : (x c : ℕ) (v w : Width) (p : Tree) → UsesNoMore (declare x v (connect c w p)) (connect c w (declare x v p))
past_channel_spares x c v w p = record {
  frees = λ z. out_of_both (z == x) (z == c) (free p z);
  writes = λ z. out_of_both (z == x) (z == c) (written p z);
  ends = λ z d. out_of_both (z == x) (z == c) (uses_end p z d);
}

-- ---- round a SEQ of two

pub round_first : (S : List (Name × Kind)) (x : ℕ) (w : Width) (p q : Tree) → Keeps (environment S) (seq (two p (declare x w q))) → has_declared p x ≡ false
    → LAW 49 S (declare x w (seq (two p q))) (seq (two p (declare x w q)))
round_first S x w p q k d =
    let Γ = environment S in
    let Δ = with_name Γ x (Var w) in
    let t = types_of_two Γ p (declare x w q) k.types in
    let o = opened Γ x w (Var w) q t.1 in
    record {
      place = [];
      sides = var_first x w p q (free_in_scope p Γ t.0 x o.new);
      left = record {
        types = and_from (can_declare Γ x w) (types_kept (seq (two p q)) Δ) o.can (two_types Δ p q (into_scope p Γ x (Var w) o.new d t.0) o.types);
        usage = k.usage;
      };
      right = k;
    }

pub off_last : (S : List (Name × Kind)) (x : ℕ) (w : Width) (p q : Tree) → Keeps (environment S) (declare x w (seq (two p q))) → free q x ≡ false
    → LAW 50 S (declare x w (seq (two p q))) (seq (two (declare x w p) q))
off_last S x w p q k f =
    let Γ = environment S in
    let Δ = with_name Γ x (Var w) in
    let o = opened Γ x w (Var w) (seq (two p q)) k.types in
    let t = types_of_two Δ p q o.types in
    record {
      place = [];
      sides = var_last x w p q f;
      left = k;
      right = record {
        types = two_types Γ (declare x w p) q (and_from (can_declare Γ x w) (types_kept p Δ) o.can t.0) (out_of_scope q Γ x (Var w) f t.1);
        usage = k.usage;
      };
    }

pub round_last : (S : List (Name × Kind)) (x : ℕ) (w : Width) (p q : Tree) → Keeps (environment S) (seq (two (declare x w p) q)) → has_declared q x ≡ false
    → LAW 50 S (declare x w (seq (two p q))) (seq (two (declare x w p) q))
round_last S x w p q k d =
    let Γ = environment S in
    let Δ = with_name Γ x (Var w) in
    let t = types_of_two Γ (declare x w p) q k.types in
    let o = opened Γ x w (Var w) p t.0 in
    record {
      place = [];
      sides = var_last x w p q (free_in_scope q Γ t.1 x o.new);
      left = record {
        types = and_from (can_declare Γ x w) (types_kept (seq (two p q)) Δ) o.can (two_types Δ p q o.types (into_scope q Γ x (Var w) o.new d t.1));
        usage = k.usage;
      };
      right = k;
    }

pub round_last_spares : (x : ℕ) (w : Width) (p q : Tree) → UsesNoMore (declare x w (seq (two p q))) (seq (two (declare x w p) q))
round_last_spares x w p q = record {
  frees = λ z. out_first (z == x) (free p z) (free q z || false);
  writes = λ z. out_first (z == x) (written p z) (written q z || false);
  ends = λ z d. out_first (z == x) (uses_end p z d) (uses_end q z d || false);
}

-- ---- round a PAR

-- the part in the scope of a name is as separate from others that don't name it
separate_inside : (x : ℕ) (w : Width) (p q : Tree) → free q x ≡ false → IsSeparate (declare x w p) q → IsSeparate p q
separate_inside x w p q off s = record {
  first_writes = λ z h. elim (eqb_tells z x) [
    | inl k ↦ ap (free q) k.1 ∙ off
    | inr k ↦ s.first_writes z (and_from (not (z == x)) (written p z) (not_from_false (z == x) k.0) h)
  ];
  second_writes = λ z h. elim (eqb_tells z x) [
    | inl k ↦ clash (written q z) h (ap (written q) k.1 ∙ not_written q x off)
    | inr k ↦ and_second (not (z == x)) (free p z) (s.second_writes z h) (not_from_false (z == x) k.0)
  ];
  ends = λ z d h. elim (eqb_tells z x) [
    | inl k ↦ ap (λ c. uses_end q c d) k.1 ∙ no_end q x d off
    | inr k ↦ s.ends z d (and_from (not (z == x)) (uses_end p z d) (not_from_false (z == x) k.0) h)
  ];
}

pub round_par : (S : List (Name × Kind)) (x : ℕ) (w : Width) (p : Tree) (qs : Trees) → Keeps (environment S) (par (and_tree (declare x w p) qs)) → some_declare qs x ≡ false
    → LAW 53 S (declare x w (par (and_tree p qs))) (par (and_tree (declare x w p) qs))
round_par S x w p qs k d =
    let Γ = environment S in
    let Δ = with_name Γ x (Var w) in
    let t = and_parts (types_kept (declare x w p) Γ) (all_types_kept qs Γ) k.types in
    let o = opened Γ x w (Var w) p t.0 in
    let off : free_in_some qs x ≡ false = free_in_scope (par qs) Γ t.1 x o.new in
    record {
      place = [];
      sides = var_par x w p qs off;
      left = record {
        types = and_from (can_declare Γ x w) (types_kept (par (and_tree p qs)) Δ) o.can
            (and_from (types_kept p Δ) (all_types_kept qs Δ) o.types (into_scope (par qs) Γ x (Var w) o.new d t.1));
        usage = (k.usage.0, (separate_inside x w p (par qs) off k.usage.1.0, k.usage.1.1));
      };
      right = k;
    }

pub round_par_spares : (x : ℕ) (w : Width) (p : Tree) (qs : Trees) → UsesNoMore (declare x w (par (and_tree p qs))) (par (and_tree (declare x w p) qs))
round_par_spares x w p qs = record {
  frees = λ z. out_first (z == x) (free p z) (free_in_some qs z);
  writes = λ z. out_first (z == x) (written p z) (written_in_some qs z);
  ends = λ z d. out_first (z == x) (uses_end p z d) (end_in_some qs z d);
}

-- ---- into choices

cases_types : (Γ : Environment) (x : ℕ) (w : Width) (cs : Cases) → can_declare Γ x w ≡ true → some_names (conditions cs) x ≡ false
    → cases_kept cs (with_name Γ x (Var w)) ≡ true → cases_kept (each_case_declaring x w cs) Γ ≡ true
cases_types Γ x w no_case can off t = refl
cases_types Γ x w (and_case b p cs) can off t =
    let Δ = with_name Γ x (Var w) in
    let n = or_parts (names b x) (some_names (conditions cs) x) off in
    let k = and_three (is_condition Δ b) (types_kept p Δ) (cases_kept cs Δ) t in
    and_from (is_condition Γ b && types_kept (declare x w p) Γ) (cases_kept (each_case_declaring x w cs) Γ)
    (and_from (is_condition Γ b) (types_kept (declare x w p) Γ) (condition_elsewhere x Γ Δ (declared_off Γ x (Var w)) b n.0 ∙ k.0)
    (and_from (can_declare Γ x w) (types_kept p Δ) can k.1)) (cases_types Γ x w cs can n.1 k.2)

cases_usage : (x : ℕ) (w : Width) (cs : Cases) → CasesKeepUsage cs → CasesKeepUsage (each_case_declaring x w cs)
cases_usage x w no_case u = tt
cases_usage x w (and_case b p cs) u = (u.0, cases_usage x w cs u.1)

pub into_choices : (S : List (Name × Kind)) (x : ℕ) (w : Width) (cs : Cases) → Keeps (environment S) (declare x w (select cs)) → some_names (conditions cs) x ≡ false
    → LAW 51 S (declare x w (select cs)) (select (each_case_declaring x w cs))
into_choices S x w cs k off =
    let Γ = environment S in
    let o = opened Γ x w (Var w) (select cs) k.types in
    record {
      place = [];
      sides = var_if x w cs off;
      left = k;
      right = record { types = cases_types Γ x w cs o.can off o.types; usage = cases_usage x w cs k.usage };
    }

branches_types : (Γ : Environment) (x : ℕ) (w : Width) (gs : Branches) → can_declare Γ x w ≡ true → some_guard_names gs x ≡ false
    → branches_kept gs (with_name Γ x (Var w)) ≡ true → branches_kept (each_branch_declaring x w gs) Γ ≡ true
branches_types Γ x w no_branch can off t = refl
branches_types Γ x w (and_branch b v p gs) can off t =
    let Δ = with_name Γ x (Var w) in
    let n = or_three (names b x) (free_in_waiting v x) (some_guard_names gs x) off in
    let k = and_four (is_condition Δ b) (waiting_kept Δ v) (types_kept p Δ) (branches_kept gs Δ) t in
    let agree = declared_off Γ x (Var w) in
    and_from ((is_condition Γ b && waiting_kept Γ v) && types_kept (declare x w p) Γ) (branches_kept (each_branch_declaring x w gs) Γ)
    (and_from (is_condition Γ b && waiting_kept Γ v) (types_kept (declare x w p) Γ)
    (and_from (is_condition Γ b) (waiting_kept Γ v) (condition_elsewhere x Γ Δ agree b n.0 ∙ k.0) (waiting_elsewhere x Γ Δ agree v n.1 ∙ k.1))
    (and_from (can_declare Γ x w) (types_kept p Δ) can k.2)) (branches_types Γ x w gs can n.2 k.3)

branches_usage : (x : ℕ) (w : Width) (gs : Branches) → BranchesKeepUsage gs → BranchesKeepUsage (each_branch_declaring x w gs)
branches_usage x w no_branch u = tt
branches_usage x w (and_branch b v p gs) u = (u.0, branches_usage x w gs u.1)

pub into_branches : (S : List (Name × Kind)) (x : ℕ) (w : Width) (gs : Branches) → Keeps (environment S) (declare x w (alt gs)) → some_guard_names gs x ≡ false
    → LAW 52 S (declare x w (alt gs)) (alt (each_branch_declaring x w gs))
into_branches S x w gs k off =
    let Γ = environment S in
    let o = opened Γ x w (Var w) (alt gs) k.types in
    record {
      place = [];
      sides = inl (var_alt x w gs off);
      left = k;
      right = record { types = branches_types Γ x w gs o.can off o.types; usage = branches_usage x w gs k.usage };
    }
