-- The number that a text is given is one of the table.
use Rattle.std.proofs.Common.{◌≡◌, ℕ, ◌<◌, Bool, true, false, ltb, List, [], ◌∷◌, ◌++◌, length, refl, sym, subst, arith, length-append}
use Rattle.std.proofs.lemmas.Bool.{cond-true, cond-false, ltb-true}
use Rattle.occ_base.proofs.Naming.{place-le}
use Rattle.occ_base.specs.Names.{place_of, with_text}

pub place_there : (names : List (List ℕ)) (text : List ℕ) → place_of names text < length (with_text names text)
place_there names text = from (ltb (place_of names text) (length names)) refl
  where
    from : (b : Bool) → ltb (place_of names text) (length names) ≡ b → place_of names text < length (with_text names text)
    from true e = subst (λ n. place_of names text < length n) (sym (cond-true _ names (names ++ text ∷ []) e)) (ltb-true _ _ e)
    from false e = subst (λ n. place_of names text < length n) (sym (cond-false _ names (names ++ text ∷ []) e)) (omega (arith, length-append names (text ∷ []), place-le names text))
