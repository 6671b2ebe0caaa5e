-- The laws of declared names by their sides: what the right side is, where the left side is known.
use Rattle.std.proofs.Common.{◌≡◌, ℕ, ◌↔◌, false, List, [], refl, ap, sym, ◌∙◌, subst}
use Rattle.occ_syntax.specs.occ_base.declared.names.Name.{Name}
use Rattle.occ_syntax.specs.occ_base.declared.width.Width.{Width}
use Rattle.occ_law_shape.specs.occ_law.Scope.{ChanPar, chan_par, ChanSeq, chan_seq, ChanSwap, chan_swap, ChanUnused, chan_unused, VarFirst, var_first, VarLast, var_last, VarPar, var_par, VarSwap, swap_variables, swap_with_channel, VarUnused, var_unused}
use Rattle.occ_names.specs.occ_meaning.Parallel.{two}
use Rattle.occ_syntax.specs.Names.{free, free_in_some}
use Rattle.occ_syntax.specs.Tree.{Tree, seq, par, declare, connect, Trees, and_tree}
use Rattle.occ_law_scope.proofs.Joined.{by_sides, by_sides_never, put_right}
use Rattle.occ_law_scope.specs.declared.declaration.Declaration.{Declaration}
use Rattle.occ_law_scope.specs.declared.declaration.Declaration.TheVariants.{Var, Chan}
use Rattle.occ_law_scope.specs.Moves.{InFirst, in_first}
use Rattle.occ_law_scope.specs.Under.{name_of, under}

-- ---- var-unused and chan-unused

var_unused_back : (x : ℕ) (w : Width) (p r : Tree) (place : List ℕ) → VarUnused place (declare x w p) r → (r ≡ p) × (free p x ≡ false)
var_unused_back x w p r place (var_unused y v q h) = (refl, h)

pub var_unused_law : (l r p : Tree) (x : ℕ) (w : Width) → declare x w p ≡ l → ((r ≡ p) × (free p x ≡ false)) ↔ ((place : List ℕ) × VarUnused place l r)
var_unused_law l r p x w e =
    by_sides VarUnused (declare x w p) l r e (λ h. ([], put_right VarUnused [] (declare x w p) p r h.0 (var_unused x w p h.1))) (var_unused_back x w p r)

chan_unused_back : (c : ℕ) (w : Width) (p r : Tree) (place : List ℕ) → ChanUnused place (connect c w p) r → (r ≡ p) × (free p c ≡ false)
chan_unused_back c w p r place (chan_unused y v q h) = (refl, h)

pub chan_unused_law : (l r p : Tree) (c : ℕ) (w : Width) → connect c w p ≡ l → ((r ≡ p) × (free p c ≡ false)) ↔ ((place : List ℕ) × ChanUnused place l r)
chan_unused_law l r p c w e =
    by_sides ChanUnused (connect c w p) l r e (λ h. ([], put_right ChanUnused [] (connect c w p) p r h.0 (chan_unused c w p h.1))) (chan_unused_back c w p r)

-- ---- var-swap and chan-swap

var_swap_to : (x : ℕ) (v : Width) (d : Declaration) (p : Tree) → VarSwap [] (declare x v (under d p)) (under d (declare x v p))
var_swap_to x v (Var y w) p = swap_variables x y.0 v w p
var_swap_to x v (Chan c w) p = swap_with_channel x c.0 v w p

var_swap_back : (x : ℕ) (v : Width) (d : Declaration) (p r : Tree) (place : List ℕ) → VarSwap place (declare x v (under d p)) r → r ≡ under d (declare x v p)
var_swap_back x v (Var y w) p r place (swap_variables a b c d q) = refl
var_swap_back x v (Chan c w) p r place (swap_with_channel a b e d q) = refl

pub var_swap_law : (l r b p : Tree) (x : ℕ) (v : Width) (d : Declaration) → declare x v b ≡ l → b ≡ under d p → (r ≡ under d (declare x v p)) ↔ ((place : List ℕ) × VarSwap place l r)
var_swap_law l r b p x v d e f =
    by_sides VarSwap (declare x v (under d p)) l r (sym (ap (declare x v) f) ∙ e) (λ h. ([], put_right VarSwap [] (declare x v (under d p)) (under d (declare x v p)) r h (var_swap_to x v d p)))
    (var_swap_back x v d p r)

swap_never : (x : ℕ) (v : Width) (b r : Tree) → ((d : Declaration) (p : Tree) → b ≡ under d p → ⊥) → (place : List ℕ) → VarSwap place (declare x v b) r → ⊥
swap_never x v b r never place (swap_variables a y u w p) = never (Var (record { 0 = y }) w) p refl
swap_never x v b r never place (swap_with_channel a c u w p) = never (Chan (record { 0 = c }) w) p refl

pub var_swap_never : (l r b : Tree) (x : ℕ) (v : Width) → declare x v b ≡ l → ((d : Declaration) (p : Tree) → b ≡ under d p → ⊥) → (place : List ℕ) × VarSwap place l r → ⊥
var_swap_never l r b x v e never = by_sides_never VarSwap (declare x v b) l r e (swap_never x v b r never)

chan_swap_back : (c d : ℕ) (v w : Width) (p r : Tree) (place : List ℕ) → ChanSwap place (connect c v (connect d w p)) r → r ≡ connect d w (connect c v p)
chan_swap_back c d v w p r place (chan_swap a b t u q) = refl

pub chan_swap_law : (l r b p : Tree) (c d : ℕ) (v w : Width) → connect c v b ≡ l → connect d w p ≡ b → (r ≡ connect d w (connect c v p)) ↔ ((place : List ℕ) × ChanSwap place l r)
chan_swap_law l r b p c d v w e f =
    by_sides ChanSwap (connect c v (connect d w p)) l r (ap (connect c v) f ∙ e)
    (λ h. ([], put_right ChanSwap [] (connect c v (connect d w p)) (connect d w (connect c v p)) r h (chan_swap c d v w p))) (chan_swap_back c d v w p r)

-- ---- var-first, var-last and chan-seq

var_first_back : (x : ℕ) (w : Width) (p q r : Tree) (place : List ℕ) → VarFirst place (declare x w (seq (two p q))) r → (r ≡ seq (two p (declare x w q))) × (free p x ≡ false)
var_first_back x w p q r place (var_first y v a b h) = (refl, h)

pub var_first_law : (l r b p q : Tree) (x : ℕ) (w : Width) → declare x w b ≡ l → b ≡ seq (two p q)
    → ((r ≡ seq (two p (declare x w q))) × (free p x ≡ false)) ↔ ((place : List ℕ) × VarFirst place l r)
var_first_law l r b p q x w e f =
    by_sides VarFirst (declare x w (seq (two p q))) l r (sym (ap (declare x w) f) ∙ e)
    (λ h. ([], put_right VarFirst [] (declare x w (seq (two p q))) (seq (two p (declare x w q))) r h.0 (var_first x w p q h.1))) (var_first_back x w p q r)

var_last_back : (x : ℕ) (w : Width) (p q r : Tree) (place : List ℕ) → VarLast place (declare x w (seq (two p q))) r → (r ≡ seq (two (declare x w p) q)) × (free q x ≡ false)
var_last_back x w p q r place (var_last y v a b h) = (refl, h)

pub var_last_law : (l r b p q : Tree) (x : ℕ) (w : Width) → declare x w b ≡ l → b ≡ seq (two p q)
    → ((r ≡ seq (two (declare x w p) q)) × (free q x ≡ false)) ↔ ((place : List ℕ) × VarLast place l r)
var_last_law l r b p q x w e f =
    by_sides VarLast (declare x w (seq (two p q))) l r (sym (ap (declare x w) f) ∙ e)
    (λ h. ([], put_right VarLast [] (declare x w (seq (two p q))) (seq (two (declare x w p) q)) r h.0 (var_last x w p q h.1))) (var_last_back x w p q r)

chan_seq_back : (c : ℕ) (w : Width) (p q r : Tree) (place : List ℕ) → ChanSeq place (connect c w (seq (two p q))) r → r ≡ seq (two (connect c w p) (connect c w q))
chan_seq_back c w p q r place (chan_seq d v a b) = refl

pub chan_seq_law : (l r b p q : Tree) (c : ℕ) (w : Width) → connect c w b ≡ l → b ≡ seq (two p q)
    → (r ≡ seq (two (connect c w p) (connect c w q))) ↔ ((place : List ℕ) × ChanSeq place l r)
chan_seq_law l r b p q c w e f =
    by_sides ChanSeq (connect c w (seq (two p q))) l r (sym (ap (connect c w) f) ∙ e)
    (λ h. ([], put_right ChanSeq [] (connect c w (seq (two p q))) (seq (two (connect c w p) (connect c w q))) r h (chan_seq c w p q))) (chan_seq_back c w p q r)

-- ---- var-par and chan-par

var_par_to : (n : Name) (w : Width) (ps us : Trees) → InFirst (Var n w) ps us → VarPar [] (declare n.0 w (par ps)) (par us)
var_par_to n w ps us (in_first p qs h) = var_par n.0 w p qs h

var_par_back : (n : Name) (w : Width) (ps us : Trees) (place : List ℕ) (r : Tree) → r ≡ par us → VarPar place (declare n.0 w (par ps)) r → InFirst (Var n w) ps us
var_par_back n w ps us place r e (var_par y v p qs h) =
    let f : us ≡ and_tree (declare n.0 w p) qs = cc in
    subst (λ z. InFirst (Var n w) (and_tree p qs) z) (sym f) (in_first p qs h)

pub var_par_law : (l r b : Tree) (n : Name) (w : Width) (ps us : Trees) → declare n.0 w b ≡ l → par ps ≡ b → par us ≡ r → InFirst (Var n w) ps us ↔ ((place : List ℕ) × VarPar place l r)
var_par_law l r b n w ps us e f g =
    by_sides VarPar (declare n.0 w (par ps)) l r (ap (declare n.0 w) f ∙ e)
    (λ h. ([], put_right VarPar [] (declare n.0 w (par ps)) (par us) r (sym g) (var_par_to n w ps us h))) (λ place. var_par_back n w ps us place r (sym g))

chan_par_to : (n : Name) (w : Width) (ps us : Trees) → InFirst (Chan n w) ps us → ChanPar [] (connect n.0 w (par ps)) (par us)
chan_par_to n w ps us (in_first p qs h) = chan_par n.0 w p qs h

chan_par_back : (n : Name) (w : Width) (ps us : Trees) (place : List ℕ) (r : Tree) → r ≡ par us → ChanPar place (connect n.0 w (par ps)) r → InFirst (Chan n w) ps us
chan_par_back n w ps us place r e (chan_par y v p qs h) =
    let f : us ≡ and_tree (connect n.0 w p) qs = cc in
    subst (λ z. InFirst (Chan n w) (and_tree p qs) z) (sym f) (in_first p qs h)

pub chan_par_law : (l r b : Tree) (n : Name) (w : Width) (ps us : Trees) → connect n.0 w b ≡ l → par ps ≡ b → par us ≡ r → InFirst (Chan n w) ps us ↔ ((place : List ℕ) × ChanPar place l r)
chan_par_law l r b n w ps us e f g =
    by_sides ChanPar (connect n.0 w (par ps)) l r (ap (connect n.0 w) f ∙ e)
    (λ h. ([], put_right ChanPar [] (connect n.0 w (par ps)) (par us) r (sym g) (chan_par_to n w ps us h))) (λ place. chan_par_back n w ps us place r (sym g))

-- a list is another one with its first process under the declaration where the fronts are so and the rests are the same
pub in_first_is : (d : Declaration) (ps us : Trees) (p u : Tree) (qs vs : Trees) (x : ℕ) → ps ≡ and_tree p qs → us ≡ and_tree u vs → u ≡ under d p → vs ≡ qs → x ≡ name_of d
    → (free_in_some qs x ≡ false) ↔ InFirst d ps us
in_first_is d ps us p u qs vs x e f g h name = (
  (λ k. subst (λ m. InFirst d m us) (sym e) (subst (λ m. InFirst d (and_tree p qs) m) (sym (f ∙ ap (λ m. and_tree m vs) g ∙ ap (and_tree (under d p)) h))
      (in_first p qs (ap (free_in_some qs) (sym name) ∙ k)))),
  (λ i. ap (free_in_some qs) name ∙ back d ps us p qs e i),
)
  where
    back : (d : Declaration) (ps us : Trees) (p : Tree) (qs : Trees) → ps ≡ and_tree p qs → InFirst d ps us → free_in_some qs (name_of d) ≡ false
    back d ps us p qs e (in_first r ss k) =
        let f : ss ≡ qs = cc in
        subst (λ m. free_in_some m (name_of d) ≡ false) f k
