-- A process that keeps its types declares no name that is in scope.
use Rattle.std.proofs.Common.{◌≡◌, ℕ, ◌==◌, Bool, true, false, ◌||◌, ◌&&◌, if◌then◌else◌, Option, Some, None, List, [], ◌∷◌, ◌++◌, refl, ap, sym, ◌∙◌, inl, inr}
use Rattle.std.specs.Prelude.{is_none}
use Rattle.std.proofs.lemmas.Bool.{and_parts}
use Rattle.std.proofs.lemmas.Bool.Decides.{eqb_tells}
use Rattle.occ_syntax.specs.occ_base.declared.names.Name.{Name}
use Rattle.occ_syntax.specs.occ_base.declared.event.Dir.{Dir}
use Rattle.occ_syntax.specs.occ_base.declared.width.Width.{Width}
use Rattle.occ_names.proofs.from_meaning.Facts.{false_not_true}
use Rattle.occ_names.proofs.from_meaning.States.{fresh_name}
use Rattle.occ_names.specs.declared.mention.Mention.{Mention}
use Rattle.occ_names.specs.declared.mention.Mention.TheVariants.{Read, Write, End, Declare}
use Rattle.occ_names.specs.Mentions.{called, declared_in, declared_names, mentions, mentions_of_all, mentions_of_branches, mentions_of_cases, mentions_of_waiting, outside, reads, reads_of_all, writes}
use Rattle.occ_syntax.specs.declared.scope.Kind.{Kind}
use Rattle.occ_syntax.specs.declared.scope.Kind.TheVariants.{Var, Chan}
use Rattle.occ_syntax.specs.Names.{is_in}
use Rattle.occ_syntax.specs.Scopes.{Environment, with_name}
use Rattle.occ_syntax.specs.Tree.{Exp, variable, numeral, truth, negation, complement, operation, Waiting, ready, input, output, Tree, skip, stop, assign, receive, send, seq, par, select, alt, declare, connect, Trees, no_tree, and_tree, Cases, no_case, and_case, Branches, no_branch, and_branch}
use Rattle.occ_syntax.specs.Types.{all_types_kept, branches_kept, can_declare, cases_kept, is_condition, types_kept, waiting_kept}

or_first : (a b c : Bool) → ((a || b) || c) ≡ (a || (b || c))
or_first true b c = refl
or_first false b c = refl

either : (x : ℕ) (ms ns : List Mention) → is_in (declared_in (ms ++ ns)) x ≡ (is_in (declared_in ms) x || is_in (declared_in ns) x)
either x [] ns = refl
either x (Read y ∷ ms) ns = either x ms ns
either x (Write y ∷ ms) ns = either x ms ns
either x (End y d ∷ ms) ns = either x ms ns
either x (Declare y ∷ ms) ns = ap (λ b. (x == y.0) || b) (either x ms ns) ∙ sym (or_first (x == y.0) _ _)

-- what neither list declares, the two in one don't declare
neither : (x : ℕ) (ms ns : List Mention) → is_in (declared_in ms) x ≡ false → is_in (declared_in ns) x ≡ false → is_in (declared_in (ms ++ ns)) x ≡ false
neither x ms ns h k = either x ms ns ∙ ap (λ b. b || is_in (declared_in ns) x) h ∙ k

read_gone : (b : Bool) (y : Name) (ms : List Mention) → declared_in (if b then ms else Read y ∷ ms) ≡ declared_in ms
read_gone true y ms = refl
read_gone false y ms = refl

write_gone : (b : Bool) (y : Name) (ms : List Mention) → declared_in (if b then ms else Write y ∷ ms) ≡ declared_in ms
write_gone true y ms = refl
write_gone false y ms = refl

end_gone : (b : Bool) (y : Name) (d : Dir) (ms : List Mention) → declared_in (if b then ms else End y d ∷ ms) ≡ declared_in ms
end_gone true y d ms = refl
end_gone false y d ms = refl

-- the declarations stay where uses of names are taken out
outside_same : (xs : List ℕ) (ms : List Mention) → declared_in (outside xs ms) ≡ declared_in ms
outside_same xs [] = refl
outside_same xs (Read y ∷ ms) = read_gone (is_in xs y.0) y (outside xs ms) ∙ outside_same xs ms
outside_same xs (Write y ∷ ms) = write_gone (is_in xs y.0) y (outside xs ms) ∙ outside_same xs ms
outside_same xs (End y d ∷ ms) = end_gone (is_in xs y.0) y d (outside xs ms) ∙ outside_same xs ms
outside_same xs (Declare y ∷ ms) = ap (λ ds. y.0 ∷ ds) (outside_same xs ms)

-- what declares nothing

in_reads : (e : Exp) (x : ℕ) → is_in (declared_in (reads e)) x ≡ false
in_reads (variable y) x = refl
in_reads (numeral bits value) x = refl
in_reads (truth b) x = refl
in_reads (negation e) x = in_reads e x
in_reads (complement e) x = in_reads e x
in_reads (operation op left right) x = neither x (reads left) (reads right) (in_reads left x) (in_reads right x)

in_reads_of_all : (es : List Exp) (x : ℕ) → is_in (declared_in (reads_of_all es)) x ≡ false
in_reads_of_all [] x = refl
in_reads_of_all (e ∷ es) x = neither x (reads e) (reads_of_all es) (in_reads e x) (in_reads_of_all es x)

in_writes : (ys : List ℕ) (x : ℕ) → is_in (declared_in (writes ys)) x ≡ false
in_writes [] x = refl
in_writes (y ∷ ys) x = in_writes ys x

in_waiting : (w : Waiting) (x : ℕ) → is_in (declared_in (mentions_of_waiting w)) x ≡ false
in_waiting ready x = refl
in_waiting (input c y) x = refl
in_waiting (output c e) x = in_reads e x

-- ---- a name in scope, and one that is declared

apart : (Γ : Environment) (x y : ℕ) (w : Width) → is_none (Γ x) ≡ false → can_declare Γ y w ≡ true → (x == y) ≡ false
apart Γ x y w there new = elim (eqb_tells x y) [
  | inl i ↦ false_not_true (sym there ∙ ap is_none (ap Γ i.1 ∙ fresh_name Γ y w new))
  | inr i ↦ i.0
]

stays : (b : Bool) (k : Kind) (o : Option Kind) → is_none o ≡ false → is_none (if b then Some k else o) ≡ false
stays true k o h = refl
stays false k o h = h

declared_off : (x y : ℕ) (ms : List Mention) → (x == y) ≡ false → is_in (declared_in ms) x ≡ false → is_in (declared_in (Declare (called y) ∷ outside (y ∷ []) ms)) x ≡ false
declared_off x y ms e h = ap (λ b. b || is_in (declared_in (outside (y ∷ []) ms)) x) e ∙ ap (λ ds. is_in ds x) (outside_same (y ∷ []) ms) ∙ h

mutual
  -- no name in scope is declared again
  pub not_again : (p : Tree) (Γ : Environment) (x : ℕ) → is_none (Γ x) ≡ false → types_kept p Γ ≡ true → is_in (declared_names p) x ≡ false
  not_again skip Γ x s t = refl
  not_again stop Γ x s t = refl
  not_again (assign xs es) Γ x s t = neither x (writes xs) (reads_of_all es) (in_writes xs x) (in_reads_of_all es x)
  not_again (receive c y) Γ x s t = refl
  not_again (send c e) Γ x s t = in_reads e x
  not_again (seq ps) Γ x s t = in_none ps Γ x s t
  not_again (par ps) Γ x s t = in_none ps Γ x s t
  not_again (select cs) Γ x s t = in_no_case cs Γ x s t
  not_again (alt gs) Γ x s t = in_no_branch gs Γ x s t
  not_again (declare y w p) Γ x s t =
      let k = and_parts (can_declare Γ y w) (types_kept p (with_name Γ y (Var w))) t in
      declared_off x y (mentions p) (apart Γ x y w s k.0) (not_again p (with_name Γ y (Var w)) x (stays (x == y) (Var w) (Γ x) s) k.1)
  not_again (connect y w p) Γ x s t =
      let k = and_parts (can_declare Γ y w) (types_kept p (with_name Γ y (Chan w None))) t in
      declared_off x y (mentions p) (apart Γ x y w s k.0) (not_again p (with_name Γ y (Chan w None)) x (stays (x == y) (Chan w None) (Γ x) s) k.1)

  in_none : (ps : Trees) (Γ : Environment) (x : ℕ) → is_none (Γ x) ≡ false → all_types_kept ps Γ ≡ true → is_in (declared_in (mentions_of_all ps)) x ≡ false
  in_none no_tree Γ x s t = refl
  in_none (and_tree p ps) Γ x s t =
      let k = and_parts (types_kept p Γ) (all_types_kept ps Γ) t in
      neither x (mentions p) (mentions_of_all ps) (not_again p Γ x s k.0) (in_none ps Γ x s k.1)

  in_no_case : (cs : Cases) (Γ : Environment) (x : ℕ) → is_none (Γ x) ≡ false → cases_kept cs Γ ≡ true → is_in (declared_in (mentions_of_cases cs)) x ≡ false
  in_no_case no_case Γ x s t = refl
  in_no_case (and_case e p cs) Γ x s t =
      let k = and_parts (is_condition Γ e && types_kept p Γ) (cases_kept cs Γ) t in
      let j = and_parts (is_condition Γ e) (types_kept p Γ) k.0 in
      neither x (reads e ++ mentions p) (mentions_of_cases cs) (neither x (reads e) (mentions p) (in_reads e x) (not_again p Γ x s j.1)) (in_no_case cs Γ x s k.1)

  in_no_branch : (gs : Branches) (Γ : Environment) (x : ℕ) → is_none (Γ x) ≡ false → branches_kept gs Γ ≡ true → is_in (declared_in (mentions_of_branches gs)) x ≡ false
  in_no_branch no_branch Γ x s t = refl
  in_no_branch (and_branch e w p gs) Γ x s t =
      let k = and_parts ((is_condition Γ e && waiting_kept Γ w) && types_kept p Γ) (branches_kept gs Γ) t in
      let j = and_parts (is_condition Γ e && waiting_kept Γ w) (types_kept p Γ) k.0 in
      neither x ((reads e ++ mentions_of_waiting w) ++ mentions p) (mentions_of_branches gs)
      (neither x (reads e ++ mentions_of_waiting w) (mentions p) (neither x (reads e) (mentions_of_waiting w) (in_reads e x) (in_waiting w x)) (not_again p Γ x s j.1))
      (in_no_branch gs Γ x s k.1)
