-- The places that stand in a scope, and the values that the indices in it take.
use Rattle.std.proofs.Common.{◌≡◌, ℕ, zero, suc, ◌+◌, ◌<◌, ◌≤◌, Bool, true, false, ◌==◌, nat_lt, if◌then◌else◌, List, [], ◌∷◌, ◌++◌, Option, Some, None, refl, sym, subst, ◌∙◌, arith}
use Rattle.std.specs.List.{AllByRecursion, flat_map, list_all, list_any}
use Rattle.std.proofs.lemmas.Bool.{and_parts, eqb-true, ltb-true, or_parts}
use Rattle.occ_script_back.proofs.from_meaning.Facts.{false_not_true, none_not_some}
use Rattle.occ_script_back.proofs.from_parse.Small.{declared_small}
use Rattle.occ_script_back.specs.occ_parse_forms.declared.form.Declared.{Declared}
use Rattle.occ_script_back.specs.occ_parse_forms.declared.form.Declared.TheVariants as declared
use Rattle.occ_script_back.specs.occ_parse_forms.declared.form.Param.{Param}
use Rattle.occ_script_back.specs.occ_parse_forms.declared.form.Times.{Times}
use Rattle.occ_script_back.specs.occ_parse_rules.declared.sort.Entry.{Entry}
use Rattle.occ_script_back.specs.occ_parse_rules.declared.sort.Sort.{Sort}
use Rattle.occ_script_back.specs.occ_parse_rules.declared.sort.Sort.TheVariants as sort
use Rattle.occ_script_back.specs.occ_parse_rules.Places.{Place, Sorts, Indices, counter_of, declared_in, declares, elements_from, entries_of, entry_of, for_some, numbers_from, param_entries, places, sort_at, sort_of, taken_by, values_of, with_index}
use Rattle.occ_script_back.specs.occ_parse_rules.Passing.{declared_passes, param_passes}
use Rattle.occ_script_back.proofs.from_print.Lists.{all-append}
use Rattle.occ_script_back.specs.occ_syntax.declared.scope.Kind.{Kind}
use Rattle.occ_script_back.specs.occ_syntax.declared.scope.Kind.TheVariants as kind
use Rattle.occ_script_back.specs.occ_syntax.Types.{is_width, width_of_kind}

-- ---- places

-- the name of a place passes a test, and an element is one of the first 256
abbrev pub Fits : (ℕ → Bool) → ℕ → Option ℕ → Type 0
Fits test x None = test x ≡ true
Fits test x (Some k) = (test x ≡ true) × (k < 256)

abbrev pub AllFit : (ℕ → Bool) → List Place → Type 0
AllFit test ps = AllByRecursion (λ (p : Place). Fits test p.name p.element) ps

abbrev pub DeclaredFits : (ℕ → Bool) → Declared → Type 0
DeclaredFits test d = (declared_passes test d ≡ true) × (declared_small d ≡ true)

abbrev pub AllDeclaredFit : (ℕ → Bool) → List Declared → Type 0
AllDeclaredFit test ds = AllByRecursion (DeclaredFits test) ds

abbrev pub ParamsFit : (ℕ → Bool) → List Param → Type 0
ParamsFit test ps = AllByRecursion (λ (p : Param). DeclaredFits test p.declared) ps

-- a test that fails for all values of a list fails for this one
abbrev pub Among : List ℕ → ℕ → Type 0
Among vs v = (t : ℕ → Bool) → list_any t vs ≡ false → t v ≡ false

module _ (test : ℕ → Bool) where
  -- places that fit, and others behind them
  pub both_fit : (ps qs : List Place) → AllFit test ps → AllFit test qs → AllFit test (ps ++ qs)
  both_fit ps qs h k = all-append (λ (p : Place). Fits test p.name p.element) ps qs h k

  -- what a declaration that fits declares
  declared_at : (d : Declared) (x : ℕ) (k : Option ℕ) → DeclaredFits test d → declares d x k ≡ true → Fits test x k
  declared_at (declared.Plain y) x None h e = subst (λ z. test z ≡ true) (sym (eqb-true x y.0 e)) h.0
  declared_at (declared.Plain y) x (Some k) h e = false_not_true e
  declared_at (declared.Element y j) x None h e = false_not_true e
  declared_at (declared.Element y j) x (Some k) h e =
      let parts = and_parts (x == y.0) (k == j) e in
      let small : j < 256 = ltb-true j 256 (and_parts (nat_lt j 256) true h.1).0 in
      (subst (λ z. test z ≡ true) (sym (eqb-true x y.0 parts.0)) h.0, subst (λ z. z < 256) (sym (eqb-true k j parts.1)) small)
  declared_at (declared.Array y n) x None h e = false_not_true e
  declared_at (declared.Array y n) x (Some k) h e =
      let parts = and_parts (x == y.0) (nat_lt k n) e in
      let most : n < 256 = ltb-true n 256 h.1 in
      let within : k < n = ltb-true k n parts.1 in
      (subst (λ z. test z ≡ true) (sym (eqb-true x y.0 parts.0)) h.0, omega (arith, most, within))

  elements_fit : (x k n : ℕ) → test x ≡ true → k + n ≤ 256 → AllFit test (elements_from x k n)
  elements_fit x k zero h l = tt
  elements_fit x k (suc n) h l = ((h, omega (arith, l)), elements_fit x (k + 1) n h (omega (arith, l)))

  places_fit : (d : Declared) → DeclaredFits test d → AllFit test (places d)
  places_fit (declared.Plain x) h = (h.0, tt)
  places_fit (declared.Element x k) h = ((h.0, ltb-true k 256 (and_parts (nat_lt k 256) true h.1).0), tt)
  places_fit (declared.Array x n) h = let most : n < 256 = ltb-true n 256 h.1 in elements_fit x.0 0 n h.0 (omega (arith, most))

  -- the places that declarations declare, where these fit
  pub declared_fit : (ds : List Declared) → AllDeclaredFit test ds → AllFit test (flat_map places ds)
  declared_fit [] h = tt
  declared_fit (d ∷ ds) h = both_fit (places d) (flat_map places ds) (places_fit d h.0) (declared_fit ds h.1)

  -- and those of parameters
  pub params_fit : (ps : List Param) → ParamsFit test ps → AllFit test (flat_map (λ (p : Param). places p.declared) ps)
  params_fit [] h = tt
  params_fit (p ∷ ps) h = both_fit (places p.declared) (flat_map (λ (q : Param). places q.declared) ps) (places_fit p.declared h.0) (params_fit ps h.1)

  -- ---- a scope whose declarations fit

  abbrev pub EntryFits : Entry → Type 0
  EntryFits e = DeclaredFits test e.declared

  -- The declarations in scope fit; and what holds for no values of the indices in scope doesn't hold for these.
  pub record IsFit (Γ : Sorts) (ρ : Indices) : Type 0 where
    pub entries : AllByRecursion EntryFits Γ
    pub taken : (t : Indices → Bool) → for_some Γ t ≡ false → t ρ ≡ false

  found : {Q : Type 0} (b : Bool) (here s : Sort) (deeper : Option Sort) → (if b then Some here else deeper) ≡ Some s → (b ≡ true → Q) → (deeper ≡ Some s → Q) → Q
  found true here s deeper e f g = f refl
  found false here s deeper e f g = g e

  sorts_fit : (Γ : Sorts) → AllByRecursion EntryFits Γ → (x : ℕ) (k : Option ℕ) (s : Sort) → sort_at Γ x k ≡ Some s → Fits test x k
  sorts_fit [] h x k s e = none_not_some e
  sorts_fit (d ∷ Γ) h x k s e =
      found (declares d.declared x k) d.sort s (sort_at Γ x k) e (declared_at d.declared x k h.0) (λ deeper. sorts_fit Γ h.1 x k s deeper)

  -- a place in scope fits
  pub in_scope : (Γ : Sorts) (ρ : Indices) → IsFit Γ ρ → (x : ℕ) (k : Option ℕ) (s : Sort) → sort_at Γ x k ≡ Some s → Fits test x k
  in_scope Γ ρ h = sorts_fit Γ h.entries

  -- the scope of a whole text
  pub nothing_in_scope : IsFit [] (λ i. 0)
  nothing_in_scope = record { entries = tt; taken = λ t h. h }

  -- ---- behind declarations

  taken_once : (d : Declared) (k : Kind) (t : Indices → Bool) (ρ : Indices) → taken_by d (sort_of k) t ρ ≡ t ρ
  taken_once (declared.Plain x) (kind.Var w) t ρ = refl
  taken_once (declared.Plain x) (kind.Chan w m) t ρ = refl
  taken_once (declared.Element x k) (kind.Var w) t ρ = refl
  taken_once (declared.Element x k) (kind.Chan w m) t ρ = refl
  taken_once (declared.Array x n) (kind.Var w) t ρ = refl
  taken_once (declared.Array x n) (kind.Chan w m) t ρ = refl

  entered : (k : Kind) (d : Declared) (Γ : Sorts) (ρ : Indices) → DeclaredFits test d → IsFit Γ ρ → IsFit (entry_of k d ∷ Γ) ρ
  entered k d Γ ρ h f = record {
    entries = (h, f.entries);
    taken = λ t none. sym (taken_once d k t ρ) ∙ f.taken (taken_by d (sort_of k) t) none;
  }

  -- the scope behind declarations that fit
  pub behind_declared : (k : Kind) (ds : List Declared) (Γ : Sorts) (ρ : Indices) → AllDeclaredFit test ds → IsFit Γ ρ → IsFit (declared_in Γ (entries_of k ds)) ρ
  behind_declared k [] Γ ρ h f = f
  behind_declared k (d ∷ ds) Γ ρ h f = behind_declared k ds (entry_of k d ∷ Γ) ρ h.1 (entered k d Γ ρ h.0 f)

  -- and behind such parameters
  pub behind_params : (ps : List Param) (Γ : Sorts) (ρ : Indices) → ParamsFit test ps → IsFit Γ ρ → IsFit (declared_in Γ (param_entries ps)) ρ
  behind_params [] Γ ρ h f = f
  behind_params (p ∷ ps) Γ ρ h f = behind_params ps (entry_of p.kind p.declared ∷ Γ) ρ h.1 (entered p.kind p.declared Γ ρ h.0 f)

  -- ---- below a replicator

  -- the scope of a copy, at its value of the index
  pub at_value : (times : Times) (Γ : Sorts) (ρ : Indices) (v : ℕ) → test times.index.0 ≡ true → Among (values_of times.base times.count) v → IsFit Γ ρ
      → IsFit (counter_of times ∷ Γ) (with_index ρ times.index.0 v)
  at_value times Γ ρ v h among f = record {
    entries = ((h, refl), f.entries);
    taken = λ t none. among (λ u. t (with_index ρ times.index.0 u)) (f.taken (taken_by (declared.Plain times.index) (sort.Counter times.base times.count) t) none);
  }

all_among : (ws vs : List ℕ) → ((t : ℕ → Bool) → list_any t ws ≡ false → list_any t vs ≡ false) → AllByRecursion (Among ws) vs
all_among ws [] f = tt
all_among ws (v ∷ vs) f = (λ t h. (or_parts (t v) (list_any t vs) (f t h)).0, all_among ws vs (λ t h. (or_parts (t v) (list_any t vs) (f t h)).1))

-- the values of copies are values of the index
pub copies_among : (b n : ℕ) → AllByRecursion (Among (values_of b n)) (numbers_from b n)
copies_among b zero = tt
copies_among b (suc n) = all_among (values_of b (suc n)) (numbers_from b (suc n)) (λ t h. h)

-- ---- what the tests of a line say

-- declarations whose names pass, and whose numerals are small, fit
pub declared_from : (test : ℕ → Bool) (ds : List Declared) → list_all (declared_passes test) ds ≡ true → list_all declared_small ds ≡ true → AllDeclaredFit test ds
declared_from test [] h s = tt
declared_from test (d ∷ ds) h s =
    let passes = and_parts (declared_passes test d) (list_all (declared_passes test) ds) h in
    let smalls = and_parts (declared_small d) (list_all declared_small ds) s in
    ((passes.0, smalls.0), declared_from test ds passes.1 smalls.1)

-- and so do such parameters
pub params_from : (test : ℕ → Bool) (ps : List Param) → list_all (param_passes test) ps ≡ true → list_all (λ (p : Param). declared_small p.declared) ps ≡ true → ParamsFit test ps
params_from test [] h s = tt
params_from test (p ∷ ps) h s =
    let passes = and_parts (param_passes test p) (list_all (param_passes test) ps) h in
    let smalls = and_parts (declared_small p.declared) (list_all (λ (q : Param). declared_small q.declared) ps) s in
    (((and_parts (declared_passes test p.declared) (is_width (width_of_kind p.kind)) passes.0).0, smalls.0), params_from test ps passes.1 smalls.1)
