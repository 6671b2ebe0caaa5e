-- The variables into which a normal program inputs have names that no parameter has.
use Rattle.std.proofs.Common.{◌≡◌, ℕ, zero, suc, ◌+◌, ◌<◌, ◌≤◌, ◌==◌, Bool, true, false, nat_le, if◌then◌else◌, List, [], ◌∷◌, ◌++◌, length, slice_get, unwrap_or, Option, None, Some, refl, sym, ap, ◌∙◌, inl, inr, ◌⊎◌, arith, length-append}
use Rattle.std.proofs.lemmas.Bool.{cases_Bool, eqb-true, leb-true, le-leb, lt-leb, or_cases, or_parts, true≢false}
use Rattle.std.specs.List.{AllByRecursion}
use Rattle.std.specs.Str.{bytes_eq}
use Rattle.std.proofs.lemmas.Slice.Eq.{bytes_eq-Decides}
use Rattle.occ_target.specs.occ_base.declared.names.Name.{Name}
use Rattle.occ_target.specs.occ_base.declared.width.Width.{Width}
use Rattle.occ_target.specs.occ_base.Names.{IsNaming, place_of, with_text}
use Rattle.occ_target.proofs.from_base.Naming.{naming}
use Rattle.occ_target.specs.occ_syntax.declared.scope.Kind.{Kind}
use Rattle.occ_target.specs.occ_syntax.Scopes.{environment}
use Rattle.occ_target.specs.occ_nform_table.Lines.{AreNamed, text_of}
use Rattle.occ_target.specs.Inputs.{digit_of, dotted, input_text, is_taken, variables_of}
use Rattle.occ_target.proofs.Named.{named_more}
use Rattle.occ_target_laws.specs.Bodies.{IsVariable}

-- the text of a parameter's name
abbrev text_at : List (List ℕ) → Name × Kind → List ℕ
text_at names p = text_of names p.0

abbrev flag : Bool → ℕ
flag b = if b then 1 else 0

flag_less : (b c : Bool) → (b ≡ true → c ≡ true) → flag b ≤ flag c
flag_less false c f = omega arith
flag_less true true f = omega arith
flag_less true false f = absurd (true≢false (sym (f refl)))

flag_most : (b : Bool) → flag b ≤ 1
flag_most true = omega arith
flag_most false = omega arith

module _ (names : List (List ℕ)) where
  -- how many parameters have a name of so many bytes or more
  abbrev longer : List (Name × Kind) → ℕ → ℕ
  longer [] n = 0
  longer (p ∷ params) n = flag (nat_le n (length (text_at names p))) + longer params n

  longer_most : (params : List (Name × Kind)) (n : ℕ) → longer params n ≤ length params
  longer_most [] n = omega arith
  longer_most (p ∷ params) n = omega (arith, longer_most params n, flag_most (nat_le n (length (text_at names p))))

  one_less : (p : Name × Kind) (n : ℕ) → flag (nat_le (n + 1) (length (text_at names p))) ≤ flag (nat_le n (length (text_at names p)))
  one_less p n = flag_less (nat_le (n + 1) (length (text_at names p))) (nat_le n (length (text_at names p)))
      (λ e. le-leb n (length (text_at names p)) (let l = leb-true (n + 1) (length (text_at names p)) e in omega (arith, l)))

  longer_less : (params : List (Name × Kind)) (n : ℕ) → longer params (n + 1) ≤ longer params n
  longer_less [] n = omega arith
  longer_less (p ∷ params) n = omega (arith, longer_less params n, one_less p n)

  same_text : (text : List ℕ) (p : Name × Kind) → bytes_eq text (text_at names p) ≡ true → length text ≡ length (text_at names p)
  same_text text p e = ap length ((bytes_eq-Decides text (text_at names p)).0 e)

  here_is : (text : List ℕ) (p : Name × Kind) → bytes_eq text (text_at names p) ≡ true
      → (flag (nat_le (length text) (length (text_at names p))) ≡ 1) × (flag (nat_le (length text + 1) (length (text_at names p))) ≡ 0)
  here_is text p e =
      let l = same_text text p e in (
        ap flag (le-leb (length text) (length (text_at names p)) (omega (arith, l))),
        ap flag (lt-leb (length text + 1) (length (text_at names p)) (omega (arith, l))),
      )

  -- a parameter that has the name isn't among those of longer ones
  taken_less : (params : List (Name × Kind)) (text : List ℕ) → is_taken names params text ≡ true → longer params (length text + 1) < longer params (length text)
  taken_less [] text e = absurd (true≢false (sym e))
  taken_less (p ∷ params) text e = go (or_cases (bytes_eq text (text_at names p)) (is_taken names params text) e) (taken_less params text)
    where
      go : (bytes_eq text (text_at names p) ≡ true) ⊎ (is_taken names params text ≡ true) → (is_taken names params text ≡ true → longer params (length text + 1) < longer params (length text))
          → longer (p ∷ params) (length text + 1) < longer (p ∷ params) (length text)
      go (inl t) ih = let here = here_is text p t in omega (arith, here.0, here.1, longer_less params (length text))
      go (inr t) ih = omega (arith, ih t, one_less p (length text))

  free_by_count : (params : List (Name × Kind)) (text : List ℕ) → longer params (length text) ≡ 0 → is_taken names params text ≡ false
  free_by_count params text none = go (cases_Bool (is_taken names params text))
    where
      go : (is_taken names params text ≡ true) ⊎ (is_taken names params text ≡ false) → is_taken names params text ≡ false
      go (inl t) = absurd (omega (arith, taken_less params text t, none))
      go (inr t) = t

  dotted_free : (params : List (Name × Kind)) (more : ℕ) (text : List ℕ) → longer params (length text) ≤ more → is_taken names params (dotted names params more text) ≡ false
  unfolding dotted
  dotted_free params zero text l = free_by_count params text (omega (arith, l))
  dotted_free params (suc more) text l = go (cases_Bool (is_taken names params text)) (dotted_free params more (text ++ 46 ∷ []))
    where
      choice : Bool → List ℕ
      choice b = if b then dotted names params more (text ++ 46 ∷ []) else text

      go : (is_taken names params text ≡ true) ⊎ (is_taken names params text ≡ false)
          → (longer params (length (text ++ 46 ∷ [])) ≤ more → is_taken names params (dotted names params more (text ++ 46 ∷ [])) ≡ false)
          → is_taken names params (if is_taken names params text then dotted names params more (text ++ 46 ∷ []) else text) ≡ false
      go (inl t) ih =
          let one : longer params (length (text ++ 46 ∷ [])) ≡ longer params (length text + 1) = ap (longer params) (length-append text (46 ∷ [])) in
          ap (λ b. is_taken names params (if b then dotted names params more (text ++ 46 ∷ []) else text)) t ∙ ih (omega (arith, one, taken_less params text t, l))
      go (inr t) ih = ap (λ b. is_taken names params (if b then dotted names params more (text ++ 46 ∷ []) else text)) t ∙ t

-- a name of which no parameter has the text is no parameter
free_name : (names : List (List ℕ)) (params : List (Name × Kind)) (text : List ℕ) → AreNamed names params → is_taken names params text ≡ false → environment params (place_of names text) ≡ None
free_name names [] text named free = refl
free_name names (p ∷ params) text named free =
    let parts = or_parts (bytes_eq text (text_at names p)) (is_taken names params text) free in
    go parts.0 (cases_Bool (place_of names text == p.0.0)) (free_name names params text named.1 parts.1)
  where
    go : bytes_eq text (text_at names p) ≡ false → ((place_of names text == p.0.0) ≡ true) ⊎ ((place_of names text == p.0.0) ≡ false) → environment params (place_of names text) ≡ None
        → (if place_of names text == p.0.0 then Some p.1 else environment params (place_of names text)) ≡ None
    go other (inl t) ih =
        let all : IsNaming names text = naming names text in
        let same : place_of names text ≡ p.0.0 = eqb-true (place_of names text) p.0.0 t in
        let there : slice_get names p.0.0 ≡ Some text = sym (all.kept p.0.0 named.0) ∙ ap (slice_get (with_text names text)) (sym same) ∙ all.there in
        absurd (true≢false (sym ((bytes_eq-Decides text (text_at names p)).1 (sym (ap (λ (o : Option (List ℕ)). unwrap_or o []) there))) ∙ other))
    go other (inr t) ih = ap (λ b. if b then Some p.1 else environment params (place_of names text)) t ∙ ih

pub variables_free : (params : List (Name × Kind)) (names : List (List ℕ)) (widths : List Width) → AreNamed names params
    → AllByRecursion (λ (t : Name × Kind). IsVariable t.1 × (environment params t.0.0 ≡ None)) (variables_of names params widths)
unfolding variables_of
variables_free params names [] named = tt
variables_free params names (w ∷ widths) named =
    let text = input_text names params w in
    let free = dotted_free names params (length params) (116 ∷ (48 + digit_of w) ∷ []) (longer_most names params 2) in
    ((tt, free_name names params text named free), variables_free params (with_text names text) widths (named_more names (with_text names text) text params refl named))
