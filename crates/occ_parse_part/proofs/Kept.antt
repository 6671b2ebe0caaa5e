-- Names that are kept in maps.
use Rattle.std.proofs.Common.{◌≡◌, ℕ, ◌+◌, ◌<◌, ◌≤◌, ◌==◌, Bool, true, false, cond, List, [], length, get_or, drop, Option, Some, unwrap_or, refl, sym, ap, ◌∙◌}
use mathlib.Core.Path.{fun_ext}
use Rattle.std.proofs.lemmas.List.{drop_more, drop_all}
use Rattle.std.specs.Map.{lookup}
use Rattle.occ_syntax.specs.occ_base.declared.names.Name.{Name}
use Rattle.occ_parse_forms.specs.declared.form.Declared.{Declared}
use Rattle.occ_parse_forms.specs.declared.form.Declared.TheVariants as declared
use Rattle.occ_parse_part.specs.Elements.{named_row, names_found, number_found, row_number, with_row, kept_in}

unwrap_cond : {A : Type 0} (b : Bool) (x y : A) (o : Option A) → unwrap_or (cond b (Some x) o) y ≡ cond b x (unwrap_or o y)
unwrap_cond true x y o = refl
unwrap_cond false x y o = refl

-- a name more
pub named_one : (old new : List (Name × Declared)) (name : Name) (d : Declared)
    → ((q : Name) → lookup (λ (k : Name). q.0 == k.0) new ≡ cond (name.0 == q.0) (Some d) (lookup (λ (k : Name). q.0 == k.0) old))
    → names_found new ≡ λ n. cond (name.0 == n) d (names_found old n)
named_one old new name d h = fun_ext (λ n.
    ap (λ o. unwrap_or o (declared.Plain (record { 0 = n }))) (h (record { 0 = n }))
    ∙ unwrap_cond (name.0 == n) d (declared.Plain (record { 0 = n })) (lookup (λ (k : Name). n == k.0) old))

-- the names of a row that are left
pub named_more : (x : Name) (row : List Name) (i : ℕ) (name z : Name) (old new : ℕ → Declared) → i < length row → name ≡ get_or row i z
    → new ≡ (λ n. cond (name.0 == n) (declared.Element x i) (old n))
    → named_row x (i + 1) (drop (i + 1) row) new ≡ named_row x i (drop i row) old
named_more x row i name z old new h e p =
    ap (named_row x (i + 1) (drop (i + 1) row)) (p ∙ ap (λ (m : Name). λ n. cond (m.0 == n) (declared.Element x i) (old n)) e)
    ∙ sym (ap (λ xs. named_row x i xs old) (drop_more row i z h))

pub named_done : (x : Name) (row : List Name) (i : ℕ) (now : ℕ → Declared) → length row ≤ i → named_row x i (drop i row) now ≡ now
named_done x row i now h = ap (λ xs. named_row x i xs now) (drop_all i row h)

-- an array more
module _ {V : Type 0} (items : V → List Name) where
  found_cond : (b : Bool) (v : V) (o : Option V) (k : ℕ) → number_found items (cond b (Some v) o) k ≡ cond b (row_number (items v) k) (number_found items o k)
  found_cond true v o k = refl
  found_cond false v o k = refl

pub row_more : {V : Type 0} (old new : List (Name × V)) (items : V → List Name) (places more : List (Name × Declared)) (x : Name) (v : V)
    → ((q : Name) → lookup (λ (k : Name). q.0 == k.0) new ≡ cond (x.0 == q.0) (Some v) (lookup (λ (k : Name). q.0 == k.0) old))
    → names_found more ≡ named_row x 0 (items v) (names_found places)
    → kept_in new items more ≡ with_row (kept_in old items places) x (items v)
row_more old new items places more x v h e =
    let after : ℕ → ℕ → ℕ = λ y k. number_found items (lookup (λ (key : Name). y == key.0) new) k in
    let before : ℕ → ℕ → ℕ = λ y k. number_found items (lookup (λ (key : Name). y == key.0) old) k in
    let wanted : ℕ → ℕ → ℕ = λ y k. cond (x.0 == y) (row_number (items v) k) (before y k) in
    let number : after ≡ wanted =
    fun_ext (λ y. fun_ext (λ k. ap (λ o. number_found items o k) (h (record { 0 = y })) ∙ found_cond items (x.0 == y) v (lookup (λ (key : Name). y == key.0) old) k)) in
    λ i. record { number = number i; named = e i }
