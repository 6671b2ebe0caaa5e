-- The laws of assignments alone.
use Rattle.std.proofs.Common.{◌≡◌, ◌∙◌, ℕ, ◌==◌, Bool, true, false, ◌&&◌, ◌||◌, not, inl, inr, List, [], ◌∷◌, ◌++◌, map, Option, Some, refl, sym, ap}
use Rattle.std.proofs.lemmas.Bool.{and_from, and_parts, eqb-true, not-true, or_cases, or_from, or_parts}
use Rattle.occ_renamed.specs.occ_base.declared.names.Name.{Name}
use Rattle.occ_renamed.specs.occ_base.declared.width.Width.{Width}
use Rattle.occ_derive_laws.proofs.Turns.{first_keeps, none_keeps, rest_keeps, with_first}
use Rattle.occ_derive_laws.specs.Alike.{AreVariables}
use Rattle.occ_renamed.specs.occ_law.Lists.{PairsReordered, behind_pair, pairs_in_steps, same_pairs, two_pairs, variables}
use Rattle.occ_renamed.specs.occ_law.Sequence.{assign_id, assign_join, assign_order, assign_pad}
use Rattle.occ_renamed.specs.occ_law.RuleTable.{LAW}
use Rattle.occ_renamed.proofs.from_meaning.Facts.{agreed, and_three, false_not_true, off_turned}
use Rattle.occ_renamed.proofs.from_meaning.Substituting.{substituted_type}
use Rattle.occ_renamed.specs.occ_meaning.Parallel.{one, two}
use Rattle.occ_renamed.specs.occ_meaning.Substitution.{substituted}
use Rattle.occ_renamed.specs.occ_syntax.declared.scope.Kind.{Kind}
use Rattle.occ_renamed.specs.occ_syntax.Names.{is_in}
use Rattle.occ_renamed.specs.occ_syntax.Scopes.{Environment, environment, variable_width}
use Rattle.occ_renamed.specs.occ_syntax.Tree.{Exp, assign, seq, skip, variable}
use Rattle.occ_renamed.specs.occ_syntax.Types.{agree, is_pair, pairs_kept, type_of}
use Rattle.occ_renamed.specs.occ_syntax.Usage.{Keeps}
use Rattle.occ_renamed.proofs.from_syntax.Widths.{same_as_itself}

-- ---- the pairs of an assignment

-- what the first pair keeps, and those behind it
pub record PairKept (Γ : Environment) (x : ℕ) (xs : List ℕ) (e : Exp) (es : List Exp) : Type 0 where
  pub typed : agree (variable_width Γ x) (type_of Γ e) ≡ true
  pub once : is_in xs x ≡ false
  pub rest : pairs_kept Γ xs es ≡ true

pub first_pair : (Γ : Environment) (x : ℕ) (xs : List ℕ) (e : Exp) (es : List Exp) → pairs_kept Γ (x ∷ xs) (e ∷ es) ≡ true → PairKept Γ x xs e es
first_pair Γ x xs e es h =
    let k = and_three (agree (variable_width Γ x) (type_of Γ e)) (not (is_in xs x)) (pairs_kept Γ xs es) h in
    record { typed = k.0; once = not-true (is_in xs x) k.1; rest = k.2 }

pub and_pair : (Γ : Environment) (x : ℕ) (xs : List ℕ) (e : Exp) (es : List Exp) → PairKept Γ x xs e es → pairs_kept Γ (x ∷ xs) (e ∷ es) ≡ true
and_pair Γ x xs e es k =
    and_from (agree (variable_width Γ x) (type_of Γ e) && not (is_in xs x)) (pairs_kept Γ xs es)
    (and_from (agree (variable_width Γ x) (type_of Γ e)) (not (is_in xs x)) k.typed (ap not k.once)) k.rest

pub assign_pairs : (Γ : Environment) (xs : List ℕ) (es : List Exp) → Keeps Γ (assign xs es) → pairs_kept Γ xs es ≡ true
assign_pairs Γ xs es k = (and_parts (is_pair xs) (pairs_kept Γ xs es) k.types).1

pub assign_some : (Γ : Environment) (xs : List ℕ) (es : List Exp) → Keeps Γ (assign xs es) → is_pair xs ≡ true
assign_some Γ xs es k = (and_parts (is_pair xs) (pairs_kept Γ xs es) k.types).0

pub assign_keeps : (Γ : Environment) (xs : List ℕ) (es : List Exp) → is_pair xs ≡ true → pairs_kept Γ xs es ≡ true → Keeps Γ (assign xs es)
assign_keeps Γ xs es p k = record { types = and_from (is_pair xs) (pairs_kept Γ xs es) p k; usage = tt }

-- ---- variables that keep their values

agree_itself : (o : Option Width) (w : Width) → o ≡ Some w → agree o o ≡ true
agree_itself o w h = ap (λ z. agree z z) h ∙ same_as_itself w

variables_kept : (Γ : Environment) (xs : List ℕ) → AreVariables Γ xs → pairs_kept Γ xs (variables xs) ≡ true
variables_kept Γ [] a = refl
variables_kept Γ (x ∷ xs) a = and_pair Γ x xs (variable x) (variables xs) (record {
  typed = agree_itself (variable_width Γ x) a.0.0 a.0.1;
  once = a.1;
  rest = variables_kept Γ xs a.2;
})

pairs_are_variables : (Γ : Environment) (xs : List ℕ) (es : List Exp) → pairs_kept Γ xs es ≡ true → AreVariables Γ xs
pairs_are_variables Γ [] es h = tt
pairs_are_variables Γ (x ∷ xs) [] h = false_not_true h
pairs_are_variables Γ (x ∷ xs) (e ∷ es) h =
    let k = first_pair Γ x xs e es h in
    let w = agreed (variable_width Γ x) (type_of Γ e) k.typed in
    ((w.0, w.1), k.once, pairs_are_variables Γ xs es k.rest)

pub variable_there : (Γ : Environment) (xs : List ℕ) (x : ℕ) → AreVariables Γ xs → is_in xs x ≡ true → (w : Width) × (variable_width Γ x ≡ Some w)
variable_there Γ [] x a h = false_not_true h
variable_there Γ (y ∷ xs) x a h = elim (or_cases (x == y) (is_in xs x) h) [
  | inl i ↦ (a.0.0, ap (variable_width Γ) (eqb-true x y i) ∙ a.0.1)
  | inr i ↦ variable_there Γ xs x a.2 i
]

pub id_law_back : (S : List (Name × Kind)) (xs : List ℕ) → is_pair xs ≡ true → AreVariables (environment S) xs → LAW 6 S (assign xs (variables xs)) skip
id_law_back S xs p a = record {
  place = [];
  sides = assign_id xs;
  left = assign_keeps (environment S) xs (variables xs) p (variables_kept (environment S) xs a);
  right = record { types = refl; usage = tt };
}

pub assigned_variables : (S : List (Name × Kind)) (xs : List ℕ) (es : List Exp) → Keeps (environment S) (assign xs es) → AreVariables (environment S) xs
assigned_variables S xs es k = pairs_are_variables (environment S) xs es (assign_pairs (environment S) xs es k)

-- ---- another order

or_turned : (a b c : Bool) → (a || (b || c)) ≡ (b || (a || c))
or_turned true true c = refl
or_turned true false c = refl
or_turned false true c = refl
or_turned false false c = refl

in_reordered : (z : ℕ) (xs ys : List ℕ) (es fs : List Exp) → PairsReordered xs es ys fs → is_in xs z ≡ is_in ys z
in_reordered z xs ys es fs same_pairs = refl
in_reordered z xs ys es fs (behind_pair {x = x} {e = e} {xs = us} {ys = vs} {es = ls} {fs = bs} k) = ap (λ b. (z == x) || b) (in_reordered z us vs ls bs k)
in_reordered z xs ys es fs (two_pairs {x = x} {y = y} {e = e} {f = f} {xs = us} {es = ls}) = or_turned (z == x) (z == y) (is_in us z)
in_reordered z xs ys es fs (pairs_in_steps {xs = us} {ys = vs} {zs = ws} {es = ls} {fs = bs} {hs = hs} k m) =
    in_reordered z us vs ls bs k ∙ in_reordered z vs ws bs hs m

some_reordered : (xs ys : List ℕ) (es fs : List Exp) → PairsReordered xs es ys fs → is_pair xs ≡ is_pair ys
some_reordered xs ys es fs same_pairs = refl
some_reordered xs ys es fs (behind_pair k) = refl
some_reordered xs ys es fs two_pairs = refl
some_reordered xs ys es fs (pairs_in_steps {xs = us} {ys = vs} {zs = ws} {es = ls} {fs = bs} {hs = hs} k m) =
    some_reordered us vs ls bs k ∙ some_reordered vs ws bs hs m

two_kept : (Γ : Environment) (x y : ℕ) (xs : List ℕ) (e f : Exp) (es : List Exp) → pairs_kept Γ (x ∷ y ∷ xs) (e ∷ f ∷ es) ≡ true
    → pairs_kept Γ (y ∷ x ∷ xs) (f ∷ e ∷ es) ≡ true
two_kept Γ x y xs e f es h =
    let k = first_pair Γ x (y ∷ xs) e (f ∷ es) h in
    let m = first_pair Γ y xs f es k.rest in
    let apart = or_parts (x == y) (is_in xs x) k.once in
    and_pair Γ y (x ∷ xs) f (e ∷ es) (record {
      typed = m.typed;
      once = or_from (y == x) (is_in xs y) (off_turned x y apart.0) m.once;
      rest = and_pair Γ x xs e es (record { typed = k.typed; once = apart.1; rest = m.rest });
    })

reordered_kept : (Γ : Environment) (xs ys : List ℕ) (es fs : List Exp) → PairsReordered xs es ys fs → pairs_kept Γ xs es ≡ true → pairs_kept Γ ys fs ≡ true
reordered_kept Γ xs ys es fs same_pairs h = h
reordered_kept Γ xs ys es fs (behind_pair {x = x} {e = e} {xs = us} {ys = vs} {es = ls} {fs = bs} r) h =
    let k = first_pair Γ x us e ls h in
    and_pair Γ x vs e bs (record { typed = k.typed; once = sym (in_reordered x us vs ls bs r) ∙ k.once; rest = reordered_kept Γ us vs ls bs r k.rest })
reordered_kept Γ xs ys es fs (two_pairs {x = x} {y = y} {e = e} {f = f} {xs = us} {es = ls}) h = two_kept Γ x y us e f ls h
reordered_kept Γ xs ys es fs (pairs_in_steps {xs = us} {ys = vs} {zs = ws} {es = ls} {fs = bs} {hs = hs} k m) h =
    reordered_kept Γ vs ws bs hs m (reordered_kept Γ us vs ls bs k h)

pub order_law : (S : List (Name × Kind)) (xs ys : List ℕ) (es fs : List Exp) → Keeps (environment S) (assign xs es) → PairsReordered xs es ys fs
    → LAW 7 S (assign xs es) (assign ys fs)
order_law S xs ys es fs k r = record {
  place = [];
  sides = assign_order xs ys es fs r;
  left = k;
  right = assign_keeps (environment S) ys fs (sym (some_reordered xs ys es fs r) ∙ assign_some (environment S) xs es k)
      (reordered_kept (environment S) xs ys es fs r (assign_pairs (environment S) xs es k));
}

-- ---- one variable more

not_last : (xs : List ℕ) (x y : ℕ) → is_in xs x ≡ false → (x == y) ≡ false → is_in (xs ++ y ∷ []) x ≡ false
not_last [] x y h k = or_from (x == y) false k refl
not_last (z ∷ xs) x y h k =
    let p = or_parts (x == z) (is_in xs x) h in
    or_from (x == z) (is_in (xs ++ y ∷ []) x) p.0 (not_last xs x y p.1 k)

not_in_front : (xs : List ℕ) (x y : ℕ) → is_in (xs ++ y ∷ []) x ≡ false → (is_in xs x ≡ false) × ((x == y) ≡ false)
not_in_front [] x y h = (refl, (or_parts (x == y) false h).0)
not_in_front (z ∷ xs) x y h =
    let p = or_parts (x == z) (is_in (xs ++ y ∷ []) x) h in
    let q = not_in_front xs x y p.1 in
    (or_from (x == z) (is_in xs x) p.0 q.0, q.1)

padded : (Γ : Environment) (xs : List ℕ) (es : List Exp) (y : ℕ) → pairs_kept Γ xs es ≡ true → is_in xs y ≡ false
    → agree (variable_width Γ y) (variable_width Γ y) ≡ true → pairs_kept Γ (xs ++ y ∷ []) (es ++ variable y ∷ []) ≡ true
padded Γ [] [] y h o t = and_pair Γ y [] (variable y) [] (record { typed = t; once = refl; rest = refl })
padded Γ [] (e ∷ es) y h o t = false_not_true h
padded Γ (x ∷ xs) [] y h o t = false_not_true h
padded Γ (x ∷ xs) (e ∷ es) y h o t =
    let k = first_pair Γ x xs e es h in
    let p = or_parts (y == x) (is_in xs y) o in
    and_pair Γ x (xs ++ y ∷ []) e (es ++ variable y ∷ []) (record {
      typed = k.typed;
      once = not_last xs x y k.once (off_turned y x p.0);
      rest = padded Γ xs es y k.rest p.1 t;
    })

none_for : (Γ : Environment) (es : List Exp) (e : Exp) → pairs_kept Γ [] (es ++ e ∷ []) ≡ true → pairs_kept Γ [] es ≡ true
none_for Γ [] e h = refl
none_for Γ (f ∷ es) e h = h

nothing_for : (Γ : Environment) (x y : ℕ) (xs : List ℕ) (e : Exp) → pairs_kept Γ (x ∷ xs ++ y ∷ []) (e ∷ []) ≡ true → pairs_kept Γ (x ∷ xs) [] ≡ true
nothing_for Γ x y [] e h = false_not_true (first_pair Γ x (y ∷ []) e [] h).rest
nothing_for Γ x y (z ∷ xs) e h = false_not_true (first_pair Γ x (z ∷ xs ++ y ∷ []) e [] h).rest

unpadded : (Γ : Environment) (xs : List ℕ) (es : List Exp) (y : ℕ) → pairs_kept Γ (xs ++ y ∷ []) (es ++ variable y ∷ []) ≡ true
    → (pairs_kept Γ xs es ≡ true) × (is_in xs y ≡ false)
unpadded Γ [] [] y h = (refl, refl)
unpadded Γ [] (e ∷ es) y h =
    (none_for Γ (e ∷ es) (variable y) (absurd_tail Γ y e es h), refl)
  where
    absurd_tail : (Γ : Environment) (y : ℕ) (e : Exp) (es : List Exp) → pairs_kept Γ (y ∷ []) (e ∷ es ++ variable y ∷ []) ≡ true
        → pairs_kept Γ [] (e ∷ es ++ variable y ∷ []) ≡ true
    absurd_tail Γ y e [] h = false_not_true (first_pair Γ y [] e (variable y ∷ []) h).rest
    absurd_tail Γ y e (f ∷ es) h = false_not_true (first_pair Γ y [] e (f ∷ es ++ variable y ∷ []) h).rest
unpadded Γ (x ∷ xs) [] y h = (nothing_for Γ x y xs (variable y) h, false_not_true (nothing_for Γ x y xs (variable y) h))
unpadded Γ (x ∷ xs) (e ∷ es) y h =
    let k = first_pair Γ x (xs ++ y ∷ []) e (es ++ variable y ∷ []) h in
    let p = not_in_front xs x y k.once in
    let q = unpadded Γ xs es y k.rest in
    (and_pair Γ x xs e es (record { typed = k.typed; once = p.0; rest = q.0 }), or_from (y == x) (is_in xs y) (off_turned x y p.1) q.1)

some_last : (xs : List ℕ) (y : ℕ) → is_pair (xs ++ y ∷ []) ≡ true
some_last [] y = refl
some_last (x ∷ xs) y = refl

pub pad_law : (S : List (Name × Kind)) (xs : List ℕ) (es : List Exp) (y : ℕ) (w : Width) → Keeps (environment S) (assign xs es) → is_in xs y ≡ false
    → variable_width (environment S) y ≡ Some w → LAW 8 S (assign xs es) (assign (xs ++ y ∷ []) (es ++ variable y ∷ []))
pad_law S xs es y w k o t = record {
  place = [];
  sides = assign_pad xs es y o;
  left = k;
  right = assign_keeps (environment S) (xs ++ y ∷ []) (es ++ variable y ∷ []) (some_last xs y)
      (padded (environment S) xs es y (assign_pairs (environment S) xs es k) o (agree_itself (variable_width (environment S) y) w t));
}

pub pad_law_back : (S : List (Name × Kind)) (xs : List ℕ) (es : List Exp) (y : ℕ) → is_pair xs ≡ true
    → Keeps (environment S) (assign (xs ++ y ∷ []) (es ++ variable y ∷ []))
    → LAW 8 S (assign xs es) (assign (xs ++ y ∷ []) (es ++ variable y ∷ []))
pad_law_back S xs es y p k =
    let less = unpadded (environment S) xs es y (assign_pairs (environment S) (xs ++ y ∷ []) (es ++ variable y ∷ []) k) in
    record { place = []; sides = assign_pad xs es y less.1; left = assign_keeps (environment S) xs es p less.0; right = k }

-- ---- two assignments as one

substituted_kept : (Γ : Environment) (xs : List ℕ) (es : List Exp) → pairs_kept Γ xs es ≡ true → (ys : List ℕ) (fs : List Exp)
    → pairs_kept Γ ys (map (substituted xs es) fs) ≡ pairs_kept Γ ys fs
substituted_kept Γ xs es h [] [] = refl
substituted_kept Γ xs es h [] (f ∷ fs) = refl
substituted_kept Γ xs es h (y ∷ ys) [] = refl
substituted_kept Γ xs es h (y ∷ ys) (f ∷ fs) =
    ap (λ t. (agree (variable_width Γ y) t && not (is_in ys y)) && pairs_kept Γ ys (map (substituted xs es) fs)) (substituted_type Γ xs es h f)
    ∙ ap (λ b. (agree (variable_width Γ y) (type_of Γ f) && not (is_in ys y)) && b) (substituted_kept Γ xs es h ys fs)

pub join_law : (S : List (Name × Kind)) (xs : List ℕ) (es fs : List Exp) → Keeps (environment S) (seq (two (assign xs es) (assign xs fs)))
    → LAW 9 S (seq (two (assign xs es) (assign xs fs))) (assign xs (map (substituted xs es) fs))
join_law S xs es fs k =
    let first = first_keeps (environment S) (assign xs es) (one (assign xs fs)) k in
    let second = first_keeps (environment S) (assign xs fs) _ (rest_keeps (environment S) (assign xs es) (one (assign xs fs)) k) in
    record {
      place = [];
      sides = assign_join xs es fs;
      left = k;
      right = assign_keeps (environment S) xs (map (substituted xs es) fs) (assign_some (environment S) xs es first)
          (substituted_kept (environment S) xs es (assign_pairs (environment S) xs es first) xs fs ∙ assign_pairs (environment S) xs fs second);
    }

pub join_law_back : (S : List (Name × Kind)) (xs : List ℕ) (es fs : List Exp) → Keeps (environment S) (assign xs es)
    → Keeps (environment S) (assign xs (map (substituted xs es) fs))
    → LAW 9 S (seq (two (assign xs es) (assign xs fs))) (assign xs (map (substituted xs es) fs))
join_law_back S xs es fs first k =
    let second = assign_keeps (environment S) xs fs (assign_some (environment S) xs es first)
    (sym (substituted_kept (environment S) xs es (assign_pairs (environment S) xs es first) xs fs) ∙ assign_pairs (environment S) xs (map (substituted xs es) fs) k) in
    record {
      place = [];
      sides = assign_join xs es fs;
      left = with_first (environment S) (assign xs es) (one (assign xs fs)) first (with_first (environment S) (assign xs fs) _ second (none_keeps (environment S)));
      right = k;
    }
