-- The laws that give a declaration another name, between two sides that keep the rules, and that their new parts use no more.
use Rattle.std.proofs.Common.{◌≡◌, ◌∙◌, ℕ, Bool, true, false, not, ◌&&◌, ◌==◌, List, [], None, Some, if◌then◌else◌, refl, ap, subst, sym}
use Rattle.std.proofs.lemmas.Bool.{and_from, and_parts, eqb-true, not_from_false}
use Rattle.occ_renamed.specs.occ_base.declared.names.Name.{Name}
use Rattle.occ_renamed.specs.occ_base.declared.width.Width.{Width}
use Rattle.occ_derive_laws.proofs.Opened.{may_declare, opened}
use Rattle.occ_renamed.proofs.Names.{end_under, free_under, written_under}
use Rattle.occ_renamed.proofs.Usage.{keeps_under}
use Rattle.occ_renamed.specs.occ_law.Scope.{chan_rename, var_rename}
use Rattle.occ_renamed.specs.occ_law.RuleTable.{LAW}
use Rattle.occ_renamed.proofs.from_meaning.Facts.{clash, if_false, if_true, name_at, name_off, same_turned}
use Rattle.occ_renamed.proofs.from_meaning.Free.{no_end, not_written}
use Rattle.occ_renamed.proofs.from_meaning.InScope.{nowhere_free}
use Rattle.occ_renamed.proofs.from_meaning.Redeclared.{replaced_is_exchanged}
use Rattle.occ_renamed.proofs.from_meaning.Renaming.{exchange_is}
use Rattle.occ_renamed.specs.occ_meaning.Rename.{exchanging, renamed, replacing, stands, under}
use Rattle.occ_renamed.specs.occ_syntax.declared.scope.Kind.{Kind}
use Rattle.occ_renamed.specs.occ_syntax.declared.scope.Kind.TheVariants.{Chan, Var}
use Rattle.occ_renamed.specs.occ_syntax.Names.{free, uses_end, written}
use Rattle.occ_renamed.specs.occ_syntax.Scopes.{Environment, environment, with_name}
use Rattle.occ_renamed.specs.occ_syntax.Tree.{Tree, connect, declare}
use Rattle.occ_renamed.specs.occ_syntax.Types.{can_declare, types_kept}
use Rattle.occ_renamed.specs.occ_syntax.Usage.{Keeps}
use Rattle.occ_renamed.specs.occ_usage.Local.{UsesNoMore}
use mathlib.Core.Path.{fun_ext}

-- ---- where two names are exchanged

-- the scope of the one declaration under the other name, where neither is in scope outside
scope_under : (Γ : Environment) (x y : ℕ) (kind : Kind) → Γ x ≡ None → Γ y ≡ None → under (exchanging x y) (with_name Γ x kind) ≡ with_name Γ y kind
scope_under Γ x y kind nx ny = fun_ext (λ z. at z (z == x) refl (z == y) refl)
  where
    at : (z : ℕ) (a : Bool) → (z == x) ≡ a → (b : Bool) → (z == y) ≡ b → with_name Γ x kind (exchanging x y z) ≡ with_name Γ y kind z
    at z true ia b ib =
        ap (with_name Γ x kind) (if_true (z == x) y (if z == y then x else z) ia)
        ∙ (λ i. if same_turned y x i then Some kind else (ny ∙ sym nx) i)
        ∙ ap (with_name Γ y kind) (sym (eqb-true z x ia))
    at z false ia true ib =
        ap (with_name Γ x kind) (if_false (z == x) y (if z == y then x else z) ia ∙ if_true (z == y) x z ib)
        ∙ name_at Γ x kind ∙ sym (ap (with_name Γ y kind) (eqb-true z y ib) ∙ name_at Γ y kind)
    at z false ia false ib =
        ap (with_name Γ x kind) (if_false (z == x) y (if z == y then x else z) ia ∙ if_false (z == y) x z ib)
        ∙ name_off Γ x kind z ia ∙ sym (name_off Γ y kind z ib)

-- what is said of a part under exchanged names, it is said of the part beside the one declaration, if it is beside the other
names_under : (x y : ℕ) (P Q : ℕ → Bool) → ((z : ℕ) → Q z ≡ P (exchanging x y z)) → P y ≡ false → (z : ℕ) → (not (z == y) && Q z) ≡ true → (not (z == x) && P z) ≡ true
names_under x y P Q same off z h = let k = and_parts (not (z == y)) (Q z) h in at (z == x) refl (z == y) refl k.0 (sym (same z) ∙ k.1)
  where
    at : (a : Bool) → (z == x) ≡ a → (b : Bool) → (z == y) ≡ b → not (z == y) ≡ true → P (exchanging x y z) ≡ true → (not (z == x) && P z) ≡ true
    at true ia b ib n p = clash (P y) (sym (ap P (if_true (z == x) y (if z == y then x else z) ia)) ∙ p) off
    at false ia true ib n p = clash (not (z == y)) n (ap not ib)
    at false ia false ib n p =
        and_from (not (z == x)) (P z) (not_from_false (z == x) ia)
        (sym (ap P (if_false (z == x) y (if z == y then x else z) ia ∙ if_false (z == y) x z ib)) ∙ p)

-- ---- any declaration

-- what the new declaration governs
module _ (Γ : Environment) (x y : ℕ) (w : Width) (kind : Kind) (p : Tree) (nowhere : stands p y ≡ false) (new : Γ y ≡ None) where
  body_keeps : (can_declare Γ x w && types_kept p (with_name Γ x kind)) ≡ true → Keeps (with_name Γ x kind) p → Keeps (with_name Γ y kind) (renamed p (replacing x y))
  body_keeps t k =
      let f = exchanging x y in
      let o = opened Γ x w kind p t in
      subst (Keeps (with_name Γ y kind)) (sym (replaced_is_exchanged x y p nowhere))
      (subst (λ Δ. Keeps Δ (renamed p f)) (scope_under Γ x y kind o.new new) (keeps_under (with_name Γ x kind) p f (exchange_is x y) k))

-- free names, and what else is said of names, under the new name
said_under : (x y : ℕ) (p : Tree) → stands p y ≡ false → (of : Tree → ℕ → Bool)
    → ((z : ℕ) → of (renamed p (exchanging x y)) (exchanging x y z) ≡ of p z) → (z : ℕ) → of (renamed p (replacing x y)) z ≡ of p (exchanging x y z)
said_under x y p nowhere of same z =
    let f = exchanging x y in
    ap (λ q. of q z) (replaced_is_exchanged x y p nowhere) ∙ ap (of (renamed p f)) (sym (exchange_is x y z)) ∙ same (f z)

renamed_uses : (x y : ℕ) (w : Width) (p : Tree) → stands p y ≡ false → UsesNoMore (connect y w (renamed p (replacing x y))) (connect x w p)
renamed_uses x y w p nowhere =
    let f = exchanging x y in
    let inv = exchange_is x y in
    let q = renamed p (replacing x y) in
    let off = nowhere_free p y nowhere in
    record {
      frees = names_under x y (free p) (free q) (said_under x y p nowhere free (free_under p f inv)) off;
      writes = names_under x y (written p) (written q) (said_under x y p nowhere written (written_under p f inv)) (not_written p y off);
      ends = λ c d. names_under x y (λ z. uses_end p z d) (λ z. uses_end q z d) (said_under x y p nowhere (λ r z. uses_end r z d) (λ z. end_under p f inv z d)) (no_end p y d off) c;
    }

-- ---- variables and channels

pub variable_renamed : (S : List (Name × Kind)) (x y : ℕ) (w : Width) (p : Tree) → Keeps (environment S) (declare x w p) → stands p y ≡ false → environment S y ≡ None
    → LAW 47 S (declare x w p) (declare y w (renamed p (replacing x y)))
variable_renamed S x y w p k nowhere new =
    let Γ = environment S in
    let o = opened Γ x w (Var w) p k.types in
    let body = body_keeps Γ x y w (Var w) p nowhere new k.types (record { types = o.types; usage = k.usage }) in
    record {
      place = [];
      sides = var_rename x y w p nowhere new;
      left = k;
      right = record {
        types = and_from (can_declare Γ y w) (types_kept (renamed p (replacing x y)) (with_name Γ y (Var w))) (may_declare Γ y w new o.width) body.types;
        usage = body.usage;
      };
    }

pub variable_renamed_spares : (x y : ℕ) (w : Width) (p : Tree) → stands p y ≡ false → UsesNoMore (declare y w (renamed p (replacing x y))) (declare x w p)
variable_renamed_spares x y w p nowhere = let v = renamed_uses x y w p nowhere in record { frees = v.frees; writes = v.writes; ends = v.ends }

pub channel_renamed : (S : List (Name × Kind)) (c d : ℕ) (w : Width) (p : Tree) → Keeps (environment S) (connect c w p) → stands p d ≡ false → environment S d ≡ None
    → LAW 58 S (connect c w p) (connect d w (renamed p (replacing c d)))
channel_renamed S c d w p k nowhere new =
    let Γ = environment S in
    let o = opened Γ c w (Chan w None) p k.types in
    let body = body_keeps Γ c d w (Chan w None) p nowhere new k.types (record { types = o.types; usage = k.usage }) in
    record {
      place = [];
      sides = chan_rename c d w p nowhere new;
      left = k;
      right = record {
        types = and_from (can_declare Γ d w) (types_kept (renamed p (replacing c d)) (with_name Γ d (Chan w None))) (may_declare Γ d w new o.width) body.types;
        usage = body.usage;
      };
    }

pub channel_renamed_spares : (c d : ℕ) (w : Width) (p : Tree) → stands p d ≡ false → UsesNoMore (connect d w (renamed p (replacing c d))) (connect c w p)
channel_renamed_spares c d w p nowhere = renamed_uses c d w p nowhere
