-- Lines are those of one forest at most.
use Rattle.std.proofs.Common.{◌≡◌, ℕ, ◌+◌, ◌<◌, List, [], ◌∷◌, ◌++◌, refl, sym, ap, ◌∙◌, arith, append_assoc}
use Rattle.std.proofs.lemmas.List.{append-nil}
use Rattle.occ_parse_rules.specs.occ_parse_forms.Shape.{Shape}
use Rattle.occ_parse_rules.specs.Forest.{Forest, no_line, and_line, Laid, lines_at}
use Rattle.occ_parse_layout.specs.Nesting.{IsAbove}

abbrev line_at : ℕ → ℕ → Shape → Laid
line_at number level s = record { number = number; level = level; shape = s }

-- the lines of the forest, and behind them lines of which the first is at a smaller level
abbrev Same : Forest → Forest → List Laid → List Laid → Type 0
Same f g t u = (f ≡ g) × (t ≡ u)

above_more : (level : ℕ) (f : Forest) (t : List Laid) → IsAbove level t → IsAbove (level + 1) (lines_at level f ++ t)
above_more level no_line [] h = tt
above_more level no_line (r ∷ rows) h = let a : r.level < level = h in omega arith
above_more level (and_line number s below rest) t h = omega arith

opened : (level number : ℕ) (s : Shape) (below rest : Forest) (t : List Laid)
    → lines_at level (and_line number s below rest) ++ t ≡ line_at number level s ∷ (lines_at (level + 1) below ++ (lines_at level rest ++ t))
opened level number s below rest t = ap (λ (xs : List Laid). line_at number level s ∷ xs) (append_assoc (lines_at (level + 1) below) (lines_at level rest) t)

same_head : (q r : Laid) (t u : List Laid) → q ∷ t ≡ r ∷ u → (q ≡ r) × (t ≡ u)
same_head q r t u e = (cc, cc)

none_above : (level : ℕ) (q : Laid) (t u : List Laid) → q.level ≡ level → IsAbove level t → q ∷ u ≡ t → ⊥
none_above level q [] u l h e = cc
none_above level q (r ∷ t) u l h e = let a : r.level < level = h in omega (arith, ap (λ (x : Laid). x.level) (same_head q r u t e).0)

same_line : (n m : ℕ) (s r : Shape) (below under rest others : Forest) → n ≡ m → s ≡ r → below ≡ under → rest ≡ others → and_line n s below rest ≡ and_line m r under others
same_line n m s r below under rest others a b c d = cc

same : (level : ℕ) (f g : Forest) (t u : List Laid) → IsAbove level t → IsAbove level u → lines_at level f ++ t ≡ lines_at level g ++ u → Same f g t u
same level no_line no_line t u a b e = (refl, e)
same level no_line (and_line number s below rest) t u a b e =
    absurd (none_above level (line_at number level s) t _ refl a (sym (opened level number s below rest u) ∙ sym e))
same level (and_line number s below rest) no_line t u a b e =
    absurd (none_above level (line_at number level s) u _ refl b (sym (opened level number s below rest t) ∙ e))
same level (and_line n s below rest) (and_line m r under others) t u a b e =
    let heads = same_head (line_at n level s) (line_at m level r) _ _ (sym (opened level n s below rest t) ∙ e ∙ opened level m r under others u) in
    let inner = same (level + 1) below under (lines_at level rest ++ t) (lines_at level others ++ u) (above_more level rest t a) (above_more level others u b) heads.1 in
    let next = same level rest others t u a b inner.1 in
    (same_line n m s r below under rest others (ap (λ (x : Laid). x.number) heads.0) (ap (λ (x : Laid). x.shape) heads.0) inner.0 next.0, next.1)

pub one_forest_of : (level : ℕ) (f g : Forest) → lines_at level f ≡ lines_at level g → f ≡ g
one_forest_of level f g e = (same level f g [] [] tt tt (append-nil (lines_at level f) ∙ e ∙ sym (append-nil (lines_at level g)))).0
