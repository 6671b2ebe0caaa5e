use Rattle.std.proofs.Common.{◌≡◌, ℕ, zero, suc, ◌+◌, ◌*◌, ◌/◌, ◌<◌, ◌≤◌, ◌^◌, Bool, true, false, cond, List, [], ◌∷◌, ◌++◌, length, get_or, take, drop, refl, sym, ap, ◌∙◌, subst, ⊎_elim, arith, length-append}
use Rattle.std.specs.List.{All}
use Rattle.std.proofs.Math.Nat.{two-pow-succ}
use Rattle.std.proofs.lemmas.Bool.{cases_Bool}
use Rattle.std.proofs.lemmas.List.{get_or-take, get_or-drop}
use Rattle.occ_dd.proofs.Growth.{end-keeps}
use Rattle.occ_dd.specs.Diagram.{end_of}
use Rattle.occ_dd.specs.Table.{nodes_of}
use Rattle.occ_dd.specs.Choices.{IsChoice}
use Rattle.occ_dd.specs.Grows.{Grows, IsRows}
use Rattle.occ_dd.specs.Store.{IsKnown, has, row_of, Keeps, IsSet}
use Rattle.occ_dd.specs.declared.set.SetId.{SetId}
use Rattle.occ_dd.specs.declared.store.Store.{Store}
use Rattle.occ_dd.proofs.Sets.{end-full, end-empty, keeps_grown, grows_trans, old_end, size_known, end_member, end_outside}

no_items : {X : Type 0} (xs : List X) → length xs ≡ 0 → xs ≡ []
no_items [] e = refl
no_items (x ∷ xs) e = absurd (omega arith)

pub doubled : (rest inputs : ℕ) → rest + 1 ≡ inputs → 2 ^ inputs ≡ 2 ^ rest + 2 ^ rest
doubled rest inputs f = ap (λ n. 2 ^ n) (sym f ∙ one_more rest) ∙ two-pow-succ rest
  where
    one_more : (n : ℕ) → n + 1 ≡ suc n
    one_more n = omega arith

-- half of a table
pub half_is : (rows inputs rest : ℕ) → rows ≡ 2 ^ inputs → rest + 1 ≡ inputs → rows / 2 ≡ 2 ^ rest
half_is rows inputs rest e f =
    let whole : rows ≡ 2 ^ rest + 2 ^ rest = e ∙ doubled rest inputs f in
    omega arith

-- a table of one row
pub row_full : (s : Store) (rows : List Bool) (inputs : List SetId) → length inputs ≡ 0 → get_or rows 0 false ≡ true → IsRows s s rows inputs s.full
row_full s rows inputs none e = record {
  known = s.full_known;
  ends = λ x. end-full s x ∙ sym (ap (λ is. cond (get_or rows (row_of s is x) false) s.full s.empty) (no_items inputs none) ∙ ap (λ t. cond t s.full s.empty) e);
}

pub row_empty : (s : Store) (rows : List Bool) (inputs : List SetId) → length inputs ≡ 0 → get_or rows 0 false ≡ false → IsRows s s rows inputs s.empty
row_empty s rows inputs none e = record {
  known = s.empty_known;
  ends = λ x. end-empty s x ∙ sym (ap (λ is. cond (get_or rows (row_of s is x) false) s.full s.empty) (no_items inputs none) ∙ ap (λ t. cond t s.full s.empty) e);
}

-- ---- the number of a row
digit_small : (t : Bool) → cond t 1 0 ≤ 1
digit_small true = omega arith
digit_small false = omega arith

double : (n : ℕ) → 2 ^ suc n ≡ 2 ^ n + 2 ^ n
double n = two-pow-succ n

row_of-lt : (s : Store) (inputs : List SetId) (x : ℕ) → row_of s inputs x < 2 ^ length inputs
row_of-lt s [] x = omega arith
row_of-lt s (a ∷ inputs) x = omega (arith, row_of-lt s inputs x, digit_small (has s a x), double (length inputs))

row_of-push_one : (s : Store) (inputs : List SetId) (last : SetId) (x : ℕ) → has s last x ≡ true → row_of s (inputs ++ last ∷ []) x ≡ 2 ^ length inputs + row_of s inputs x
row_of-push_one s [] last x e = ap (λ t. cond t 1 0 + 2 * 0) e
row_of-push_one s (a ∷ inputs) last x e = omega (arith, row_of-push_one s inputs last x e, double (length inputs))

row_of-push_zero : (s : Store) (inputs : List SetId) (last : SetId) (x : ℕ) → has s last x ≡ false → row_of s (inputs ++ last ∷ []) x ≡ row_of s inputs x
row_of-push_zero s [] last x e = ap (λ t. cond t 1 0 + 2 * 0) e
row_of-push_zero s (a ∷ inputs) last x e = ap (λ n. cond (has s a x) 1 0 + 2 * n) (row_of-push_zero s inputs last x e)

row_of-keeps : (r s : Store) → Keeps r s → (inputs : List SetId) (x : ℕ) → All (IsKnown r) inputs → row_of s inputs x ≡ row_of r inputs x
row_of-keeps r s k [] x known = refl
row_of-keeps r s k (a ∷ inputs) x known =
    ap (λ t. cond t 1 0 + 2 * row_of s inputs x) (k.same a x (known 0 a (omega arith)))
    ∙ ap (λ n. cond (has r a x) 1 0 + 2 * n) (row_of-keeps r s k inputs x (λ i d h. known (suc i) d (omega arith)))

pub front_known : (s : Store) (rest : List SetId) (last : SetId) (inputs : List SetId) → inputs ≡ rest ++ last ∷ [] → All (IsKnown s) inputs → All (IsKnown s) rest
front_known s rest last inputs e known i d h = subst (IsKnown s) (ap (λ xs. get_or xs i d) e ∙ front rest i h) (known i d (omega (arith, ap length e, length-append rest (last ∷ []))))
  where
    front : (xs : List SetId) (i : ℕ) → i < length xs → get_or (xs ++ last ∷ []) i d ≡ get_or xs i d
    front [] i h = absurd (omega arith)
    front (x ∷ xs) zero h = refl
    front (x ∷ xs) (suc i) h = front xs i (omega arith)

pub last_known : (s : Store) (rest : List SetId) (last : SetId) (inputs : List SetId) → inputs ≡ rest ++ last ∷ [] → All (IsKnown s) inputs → IsKnown s last
last_known s rest last inputs e known = subst (IsKnown s) (ap (λ xs. get_or xs (length rest) last) e ∙ at_end rest) (known (length rest) last (omega (arith, ap length e, length-append rest (last ∷ []))))
  where
    at_end : (xs : List SetId) → get_or (xs ++ last ∷ []) (length xs) last ≡ last
    at_end [] = refl
    at_end (x ∷ xs) = at_end xs

pub known_grown : (r s : Store) → Grows r s → (inputs : List SetId) → All (IsKnown r) inputs → All (IsKnown s) inputs
known_grown r s g inputs known i d h = let k = keeps_grown r s g in let was : IsKnown r (get_or inputs i d) = known i d h in omega (arith, k.more, was)

-- the last input chooses between the halves of the table
pub rows_joined : (r s t u : Store) → Grows r s → Grows s t → Grows t u → (rows : List Bool) (rest : List SetId) (last : SetId) (inputs : List SetId) (half low high n : ℕ)
    → inputs ≡ rest ++ last ∷ [] → half ≡ 2 ^ length rest → All (IsKnown r) inputs
    → IsRows r s (take half rows) rest low → IsRows s t (drop half rows) rest high → IsChoice (nodes_of u.table) u.full last.0 high low n → IsRows r u rows inputs n
rows_joined r s t u g₁ g₂ g₃ rows rest last inputs half low high n e h known lows highs is = record {
  known = is.known;
  ends = λ x. is.ends x ∙ ap (λ b. cond b (end_of (nodes_of u.table) high x) (end_of (nodes_of u.table) low x)) (old_end r u g last x (last_known r rest last inputs e known)) ∙ by_last x;
}
  where
    g : Grows r u
    g = grows_trans r t u (grows_trans r s t g₁ g₂) g₃

    low_end : (x : ℕ) → end_of (nodes_of u.table) low x ≡ cond (get_or (take half rows) (row_of r rest x) false) u.full u.empty
    low_end x =
        let h : Grows s u = grows_trans s t u g₂ g₃ in
        end-keeps (nodes_of s.table) (nodes_of u.table) h.nodes s.table.diagram low x lows.known ∙ lows.ends x
        ∙ ap (λ m. cond (get_or (take half rows) (row_of r rest x) false) m s.empty) (sym h.full) ∙ ap (λ m. cond (get_or (take half rows) (row_of r rest x) false) u.full m) (sym h.empty)

    high_end : (x : ℕ) → end_of (nodes_of u.table) high x ≡ cond (get_or (drop half rows) (row_of r rest x) false) u.full u.empty
    high_end x =
        end-keeps (nodes_of t.table) (nodes_of u.table) g₃.nodes t.table.diagram high x highs.known ∙ highs.ends x
        ∙ ap (λ k. cond (get_or (drop half rows) k false) t.full t.empty) (row_of-keeps r s (keeps_grown r s g₁) rest x (front_known r rest last inputs e known))
        ∙ ap (λ m. cond (get_or (drop half rows) (row_of r rest x) false) m t.empty) (sym g₃.full) ∙ ap (λ m. cond (get_or (drop half rows) (row_of r rest x) false) u.full m) (sym g₃.empty)

    by_last : (x : ℕ) → cond (has r last x) (end_of (nodes_of u.table) high x) (end_of (nodes_of u.table) low x) ≡ cond (get_or rows (row_of r inputs x) false) u.full u.empty
    by_last x = ⊎_elim
        (λ (y : has r last x ≡ true).
        ap (λ b. cond b (end_of (nodes_of u.table) high x) (end_of (nodes_of u.table) low x)) y ∙ high_end x
        ∙ ap (λ b. cond b u.full u.empty) (get_or-drop half rows (row_of r rest x) false ∙ ap (λ k. get_or rows k false) (ap (λ k. k + row_of r rest x) h ∙ sym (ap (λ xs. row_of r xs x) e ∙ row_of-push_one r rest last x y))))
        (λ (z : has r last x ≡ false).
        ap (λ b. cond b (end_of (nodes_of u.table) high x) (end_of (nodes_of u.table) low x)) z ∙ low_end x
        ∙ ap (λ b. cond b u.full u.empty) (get_or-take half rows (row_of r rest x) false (omega (arith, h, row_of-lt r rest x)) ∙ ap (λ k. get_or rows k false) (sym (ap (λ xs. row_of r xs x) e ∙ row_of-push_zero r rest last x z))))
        (cases_Bool (has r last x))

pub rows_set : (r s : Store) (rows : List Bool) (inputs : List SetId) (n : ℕ) → IsRows r s rows inputs n → IsSet s (record { 0 = n }) (λ x. get_or rows (row_of r inputs x) false)
rows_set r s rows inputs n is = record {
  known = size_known s (record { 0 = n }) is.known;
  members = λ x. ⊎_elim
      (λ (y : get_or rows (row_of r inputs x) false ≡ true). end_member s (record { 0 = n }) x (is.ends x ∙ ap (λ b. cond b s.full s.empty) y) ∙ sym y)
      (λ (z : get_or rows (row_of r inputs x) false ≡ false). end_outside s (record { 0 = n }) x (is.ends x ∙ ap (λ b. cond b s.full s.empty) z) ∙ sym z)
      (cases_Bool (get_or rows (row_of r inputs x) false));
}
