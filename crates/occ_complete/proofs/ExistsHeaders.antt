-- A header for some parameters: for each width a variable under a number that no parameter has.
use Rattle.std.proofs.Common.{◌≡◌, ◌∙◌, ℕ, suc, ◌+◌, ◌≤◌, ◌<◌, Bool, true, false, if◌then◌else◌, is_none, nat_le, List, [], ◌∷◌, ◌++◌, Some, None, refl, sym, ap, inl, inr, ◌⊎◌, arith}
use Rattle.std.proofs.lemmas.Bool.{and_parts, leb-true, ne_eqb, true≢false}
use Rattle.std.specs.List.{AllByRecursion}
use Rattle.occ_engine.specs.occ_base.declared.event.Dir.TheVariants.{Input}
use Rattle.occ_engine.specs.occ_base.declared.names.Name.{Name}
use Rattle.occ_engine.specs.occ_base.declared.width.Width.{Width}
use Rattle.occ_engine.specs.occ_base.declared.width.Width.TheVariants.{Bool as Truth, Word}
use Rattle.occ_engine.specs.occ_base.Width.{IsWidth}
use Rattle.occ_complete.proofs.Headers.{AreApart, AreOff, IsFound, scope_added, target_there, width_in, widths_fit}
use Rattle.occ_complete.specs.Meeting.{AreMarked}
use Rattle.occ_complete_states.proofs.Fresh.{scope_below, top_of_scope}
use Rattle.occ_complete_states.specs.Headers.{IsHeader}
use Rattle.occ_complete_states.specs.occ_nform_table.Lines.{HasWidth, HaveWidths}
use Rattle.occ_complete_states.proofs.from_nform_table.Events.{kind_holds}
use Rattle.occ_complete_states.specs.occ_nform_table.Lists.{In}
use Rattle.occ_engine.specs.occ_syntax.declared.scope.Kind.{Kind}
use Rattle.occ_engine.specs.occ_syntax.declared.scope.Kind.TheVariants.{Chan, Var}
use Rattle.occ_engine.specs.occ_syntax.Scopes.{environment}
use Rattle.occ_engine.specs.occ_syntax.Types.{can_declare, is_width, scope_kept, width_of_kind, same_width}
use Rattle.occ_complete_states.specs.occ_target.Inputs.{all_widths}
use Rattle.occ_complete_states.specs.occ_target.Rows.{variable_of}
use Rattle.occ_complete_states.specs.occ_target_laws.Bodies.{IsVariable}
use Rattle.occ_complete_states.specs.occ_target_laws.Shapes.{Header}
use Rattle.occ_engine.proofs.from_syntax.Widths.{same_as_itself, same_widths}

abbrev from : ℕ → List Width → List (Name × Kind)
from n [] = []
from n (w ∷ ws) = (record { 0 = n }, Var w) ∷ from (suc n) ws

abbrev pub own_header : List (Name × Kind) → Header
own_header S = record { params = S; inputs = from (top_of_scope S) all_widths }

off : (m n : ℕ) (ws : List Width) → m < n → AreOff m (from n ws)
off m n [] l = tt
off m n (w ∷ ws) l = (ne_eqb n m (λ e. omega (arith, l, e)), off m (suc n) ws (omega (arith, l)))

apart : (n : ℕ) (ws : List Width) → AreApart (from n ws)
apart n [] = tt
apart n (w ∷ ws) = (off n (suc n) ws (omega arith), apart (suc n) ws)

fit : (n : ℕ) (ws : List Width) → AllByRecursion (λ w. is_width w ≡ true) ws → AllByRecursion (λ (v : Name × Kind). is_width (width_of_kind v.1) ≡ true) (from n ws)
fit n [] all = tt
fit n (w ∷ ws) all = (all.0, fit (suc n) ws all.1)

new : (S : List (Name × Kind)) (n : ℕ) (ws : List Width) → top_of_scope S ≤ n → AllByRecursion (λ (v : Name × Kind). environment S v.0.0 ≡ None) (from n ws)
new S n [] l = tt
new S n (w ∷ ws) l = (scope_below S n l, new S (suc n) ws (omega (arith, l)))

declared : (S : List (Name × Kind)) (n : ℕ) (ws : List Width) → top_of_scope S ≤ n
    → AllByRecursion (λ (v : Name × Kind). IsVariable v.1 × (environment S v.0.0 ≡ None)) (from n ws)
declared S n [] l = tt
declared S n (w ∷ ws) l = ((tt, scope_below S n l), declared S (suc n) ws (omega (arith, l)))

-- ---- the variable of a width

found : (S : List (Name × Kind)) (n : ℕ) (ws : List Width) (w : Width) → In w ws → IsFound S (from n ws) w
found S n [] w i = absurd i
found S n (v ∷ ws) w i = at (same_width w v) refl (λ j. found S (suc n) ws w j) i
  where
    name : Name
    name = record { 0 = n }

    more : List (Name × Kind)
    more = from (suc n) ws

    at : (t : Bool) → same_width w v ≡ t → (In w ws → IsFound S more w) → (w ≡ v) ⊎ In w ws → IsFound S ((name, Var v) ∷ more) w
    at true e ih j = record {
      front = [];
      rest = more;
      name = name;
      parts = λ k. (name, Var (sym (same_widths w v e) k)) ∷ more;
      is = ap (λ b. if b then n else variable_of more w) e;
    }
    at false e ih (inl f) = absurd (true≢false (sym (ap (same_width w) (sym f) ∙ same_as_itself w) ∙ e))
    at false e ih (inr j) =
        let r = ih j in
        record {
          front = (name, Var v) ∷ r.front;
          rest = r.rest;
          name = r.name;
          parts = ap (λ l. (name, Var v) ∷ l) r.parts;
          is = ap (λ b. if b then n else variable_of more w) e ∙ r.is;
        }

-- ---- widths of a scope

wide : (w : Width) → is_width w ≡ true → IsWidth w
wide Truth e = tt
wide (Word b) e = let k = and_parts (nat_le 1 b) (nat_le b 8) e in (leb-true 1 b k.0, leb-true b 8 k.1)

has_width : (k : Kind) → is_width (width_of_kind k) ≡ true → HasWidth k
has_width (Var w) e = wide w e
has_width (Chan w d) e = wide w e

pub have_widths : (S : List (Name × Kind)) → scope_kept S ≡ true → HaveWidths S
have_widths [] e = tt
have_widths (p ∷ S) e =
    let k = and_parts (can_declare (environment S) p.0.0 (width_of_kind p.1)) (scope_kept S) e in
    let c = and_parts (is_none (environment S p.0.0)) (is_width (width_of_kind p.1)) k.0 in
    (has_width p.1 c.1, have_widths S k.1)

width_there : (S : List (Name × Kind)) (c : ℕ) (k : Kind) → HaveWidths S → environment S c ≡ Some k → HasWidth k
width_there S c k all e = kind_holds HasWidth S all c k e

pub own_is_header : (S : List (Name × Kind)) → AreMarked S → scope_kept S ≡ true → IsHeader (own_header S)
own_is_header S marked kept = record {
  kept = scope;
  marked = marked;
  declared = declared S (top_of_scope S) all_widths (omega arith);
  takes = λ c w e. (
      let f = found S (top_of_scope S) all_widths w (width_in w (width_there S c (Chan w (Some Input)) (have_widths S kept) e)) in
      let t = target_there (own_header S) w f.front f.rest f.name scope f.parts f.is in
      (t.target, t.width)
      );
}
  where
    scope : scope_kept (S ++ from (top_of_scope S) all_widths) ≡ true
    scope = scope_added S (from (top_of_scope S) all_widths) kept (new S (top_of_scope S) all_widths (omega arith)) (apart (top_of_scope S) all_widths)
        (fit (top_of_scope S) all_widths widths_fit)
