-- The rows behind offers are lower.
use Rattle.std.proofs.Common.{◌≡◌, ℕ, zero, suc, ◌+◌, ◌<◌, List, [], ◌∷◌, length, get_or, drop, Bool, true, false, cond, sym, subst, arith}
use Rattle.std.specs.List.{All, AllByRecursion}
use Rattle.std.proofs.lemmas.List.Elements.{All-cons, All-nil}
use Rattle.occ_syntax.specs.occ_base.declared.event.Event.{Event}
use Rattle.occ_syntax.specs.occ_base.declared.names.Name.{Name}
use Rattle.occ_syntax.specs.declared.scope.Kind.{Kind}
use Rattle.occ_syntax.specs.Scopes.{environment, in_interface}
use Rattle.occ_nform_table.specs.declared.table.TableRow.{TableRow}
use Rattle.occ_nform_table.specs.Tables.{AreRowsOf, IsRowOf}
use Rattle.occ_target.specs.Framed.{AreBelow}
use Rattle.occ_target.specs.Rows.{begins_with, chosen}

below_first : (n : ℕ) (o : Event × ℕ) (offers : List (Event × ℕ)) → AreBelow n (o ∷ offers) → o.1 < n
below_first n o offers h = let lt : 0 < length (o ∷ offers) = omega arith in h 0 o lt

below_rest : (n : ℕ) (o : Event × ℕ) (offers : List (Event × ℕ)) → AreBelow n (o ∷ offers) → AreBelow n offers
below_rest n o offers h k d lt = let more : suc k < length (o ∷ offers) = omega arith in h (suc k) d more

below_if : (n : ℕ) (b : Bool) (o : Event × ℕ) (xs ys : List (Event × ℕ)) → o.1 < n → AreBelow n xs → AreBelow n ys → AreBelow n (cond b (o ∷ xs) ys)
below_if n true o xs ys h f g = All-cons (λ (p : Event × ℕ). p.1 < n) o xs h f
below_if n false o xs ys h f g = g

pub below_chosen : (n : ℕ) (set : List Event) (offers : List (Event × ℕ)) → AreBelow n offers → AreBelow n (chosen set offers)
unfolding chosen
below_chosen n set [] h = All-nil (λ (p : Event × ℕ). p.1 < n)
below_chosen n set (o ∷ offers) h = below_if n (begins_with set o.0) o (chosen (drop 1 set) offers) (chosen set offers) (below_first n o offers h)
    (below_chosen n (drop 1 set) offers (below_rest n o offers h)) (below_chosen n set offers (below_rest n o offers h))

below_all : (params : List (Name × Kind)) (n : ℕ) (offers : List (Event × ℕ)) → AllByRecursion (λ (o : Event × ℕ). (in_interface (environment params) o.0 ≡ true) × (o.1 < n)) offers → AreBelow n offers
below_all params n [] h = All-nil (λ (p : Event × ℕ). p.1 < n)
below_all params n (o ∷ offers) h = All-cons (λ (p : Event × ℕ). p.1 < n) o offers h.0.1 (below_all params n offers h.1)

row_in : (params : List (Name × Kind)) (n : ℕ) (rows : List TableRow) (i : ℕ) (d : TableRow) → AreRowsOf params n rows → i < length rows → IsRowOf params (n + i) (get_or rows i d)
row_in params n [] i d h lt = absurd (omega arith)
row_in params n (row ∷ rows) zero d h lt = let P : ℕ → Type 0 = λ m. IsRowOf params m row in let e : n ≡ n + 0 = omega arith in subst P e h.0
row_in params n (row ∷ rows) (suc i) d h lt =
    let P : ℕ → Type 0 = λ m. IsRowOf params m (get_or rows i d) in
    let e : n + 1 + i ≡ n + suc i = omega arith in
    let less : i < length rows = omega arith in
    subst P e (row_in params (n + 1) rows i d h.1 less)

-- the rows behind the offers of a row of a table are those before it
pub row_below : (params : List (Name × Kind)) (rows : List TableRow) (i m : ℕ) (row : TableRow) → AreRowsOf params 0 rows → i < length rows → row ≡ get_or rows i row → m ≡ i → AreBelow m row.offers
row_below params rows i m row h lt e f =
    let P : TableRow → Type 0 = λ r. IsRowOf params (0 + i) r in
    let is = subst P (sym e) (row_in params 0 rows i row h lt) in
    let same : 0 + i ≡ m = omega arith in
    let Q : ℕ → Type 0 = λ k. AreBelow k row.offers in
    subst Q same (below_all params (0 + i) row.offers is.offers)

pub all_below : (n : ℕ) (xs : List ℕ) → AllByRecursion (λ m. m < n) xs → All (λ m. m < n) xs
all_below n [] h = All-nil (λ m. m < n)
all_below n (x ∷ xs) h = All-cons (λ m. m < n) x xs h.0 (all_below n xs h.1)
