-- Bits in scope, line by line, and counted up to a limit.
use Rattle.std.proofs.Common.{◌≡◌, ℕ, ◌+◌, ◌*◌, ◌<◌, ◌≤◌, min, Bool, true, false, cond, nat_lt, List, [], ◌∷◌, length, Option, Some, None, refl, ap, sym, ◌∙◌, arith, rules, ⊎_elim, length-append}
use Rattle.std.specs.List.{flat_map}
use Rattle.std.proofs.lemmas.Bool.{cases_lt, le-ltb}
use Rattle.occ_syntax.specs.declared.scope.Kind.{Kind}
use Rattle.occ_syntax.specs.declared.scope.Kind.TheVariants as kind
use Rattle.occ_syntax.specs.Counts.{bits_of_kind}
use Rattle.occ_parse_forms.specs.declared.form.Declared.{Declared}
use Rattle.occ_parse_forms.specs.declared.form.Param.{Param}
use Rattle.occ_parse_forms.specs.Shape.{Shape}
use Rattle.occ_parse_forms.specs.Shape as line
use Rattle.occ_parse_rules.specs.Forest.{Forest, no_line, and_line}
use Rattle.occ_parse_rules.specs.Judging.{or_else, on_line, inside, behind, first_fault}
use Rattle.occ_parse_rules.specs.Limits.{bits_of_sort, bits_in_scope, passes_bits, bits_fault, has_copies, copied_lines}
use Rattle.occ_parse_rules.specs.Places.{Sorts, places, sort_of, entry_of, declared_in, entries_of, param_entries}
use Rattle.occ_parse_unroll.specs.Reading.{line_of}
use Rattle.occ_parse_unroll.specs.Sizes.{names_in}
use Rattle.occ_parse_unroll.specs.Bits.{bits_of_params, is_wide, bits_below, bits_behind, wide_here, wide_line, deeper_wide_line}
use Rattle.occ_parse_unroll.proofs.Faults.{line_or_else}

-- ---- bits of declarations

bits_of_sort-kind : (k : Kind) → bits_of_sort (sort_of k) ≡ bits_of_kind k
bits_of_sort-kind (kind.Var width) = refl
bits_of_sort-kind (kind.Chan width mark) = refl

-- so many more names of one width
more_bits : (n m k b : ℕ) → n * k + b + m * k ≡ b + (n + m) * k
more_bits n m k b = grind arith

pub bits-declared : (Γ : Sorts) (k : Kind) (ds : List Declared) → bits_in_scope (declared_in Γ (entries_of k ds)) ≡ bits_in_scope Γ + names_in ds * bits_of_kind k
bits-declared Γ k [] = grind arith
bits-declared Γ k (d ∷ ds) =
    bits-declared (entry_of k d ∷ Γ) k ds
    ∙ ap (λ b. length (places d) * b + bits_in_scope Γ + names_in ds * bits_of_kind k) (bits_of_sort-kind k)
    ∙ more_bits (length (places d)) (names_in ds) (bits_of_kind k) (bits_in_scope Γ)
    ∙ ap (λ n. bits_in_scope Γ + n * bits_of_kind k) (sym (length-append (places d) (flat_map places ds)))

pub bits-params : (Γ : Sorts) (ps : List Param) → bits_in_scope (declared_in Γ (param_entries ps)) ≡ bits_in_scope Γ + bits_of_params ps
bits-params Γ [] = omega arith
bits-params Γ (p ∷ ps) =
    bits-params (entry_of p.kind p.declared ∷ Γ) ps
    ∙ ap (λ b. length (places p.declared) * b + bits_in_scope Γ + bits_of_params ps) (bits_of_sort-kind p.kind)
    ∙ omega arith

-- ---- what the judgement of scopes says, by numbers

passes_are : (Γ : Sorts) (s : Shape) → passes_bits Γ s ≡ is_wide (bits_in_scope Γ) s
passes_are Γ (line.header name params) = refl
passes_are Γ line.close = refl
passes_are Γ line.skip = refl
passes_are Γ line.stop = refl
passes_are Γ (line.assign xs es) = refl
passes_are Γ (line.receive c x) = refl
passes_are Γ (line.send c e) = refl
passes_are Γ (line.group g times) = refl
passes_are Γ (line.declare kind ds) = ap (λ b. nat_lt 24 b) (bits-declared Γ kind ds)
passes_are Γ (line.condition e) = refl
passes_are Γ (line.guard e w) = refl
passes_are Γ line.nothing = refl

bits_inside : (Γ : Sorts) (s : Shape) → bits_in_scope (inside Γ s) ≡ bits_below (bits_in_scope Γ) s
bits_inside Γ (line.header name params) = bits-params Γ params
bits_inside Γ line.close = refl
bits_inside Γ line.skip = refl
bits_inside Γ line.stop = refl
bits_inside Γ (line.assign xs es) = refl
bits_inside Γ (line.receive c x) = refl
bits_inside Γ (line.send c e) = refl
bits_inside Γ (line.group g None) = refl
bits_inside Γ (line.group g (Some times)) = omega arith
bits_inside Γ (line.declare kind ds) = refl
bits_inside Γ (line.condition e) = refl
bits_inside Γ (line.guard e w) = refl
bits_inside Γ line.nothing = refl

bits_after : (outer Γ : Sorts) (s : Shape) → bits_in_scope (behind outer Γ s) ≡ bits_behind (bits_in_scope outer) (bits_in_scope Γ) s
bits_after outer Γ (line.header name params) = refl
bits_after outer Γ line.close = refl
bits_after outer Γ line.skip = refl
bits_after outer Γ line.stop = refl
bits_after outer Γ (line.assign xs es) = refl
bits_after outer Γ (line.receive c x) = refl
bits_after outer Γ (line.send c e) = refl
bits_after outer Γ (line.group g times) = refl
bits_after outer Γ (line.declare kind ds) = bits-declared Γ kind ds
bits_after outer Γ (line.condition e) = refl
bits_after outer Γ (line.guard e w) = refl
bits_after outer Γ line.nothing = refl

abbrev fault_if : Bool → Option (Unit {0})
fault_if b = cond b (Some tt) None

line_if : (number : ℕ) (b : Bool) → line_of (on_line number (fault_if b)) ≡ cond b (Some number) None
line_if number true = refl
line_if number false = refl

-- the lines below, of which there may be no copies
below_are : (b : Bool) (Γ : Sorts) (n : ℕ) (below : Forest) → line_of (first_fault bits_fault Γ Γ (copied_lines below)) ≡ wide_line n n below
    → line_of (first_fault bits_fault Γ Γ (cond b (copied_lines below) no_line)) ≡ cond b (wide_line n n below) None
below_are true Γ n below h = h
below_are false Γ n below h = refl

pub wide_are : (outer Γ : Sorts) (f : Forest) → line_of (first_fault bits_fault outer Γ (copied_lines f)) ≡ wide_line (bits_in_scope outer) (bits_in_scope Γ) f
wide_are outer Γ no_line = refl
wide_are outer Γ (and_line number s below rest) =
    let deeper = first_fault bits_fault (inside Γ s) (inside Γ s) (cond (has_copies s) (copied_lines below) no_line) in
    let later = first_fault bits_fault outer (behind outer Γ s) (copied_lines rest) in
    let n = bits_below (bits_in_scope Γ) s in
    let here : line_of (on_line number (bits_fault Γ s)) ≡ wide_here number (bits_in_scope Γ) s =
    line_if number (passes_bits Γ s) ∙ ap (λ b. cond b (Some number) None) (passes_are Γ s) in
    let under : line_of deeper ≡ cond (has_copies s) (wide_line n n below) None =
    below_are (has_copies s) (inside Γ s) n below (wide_are (inside Γ s) (inside Γ s) below ∙ ap (λ m. wide_line m m below) (bits_inside Γ s)) in
    let after : line_of later ≡ wide_line (bits_in_scope outer) (bits_behind (bits_in_scope outer) (bits_in_scope Γ) s) rest =
    wide_are outer (behind outer Γ s) rest ∙ ap (λ m. wide_line (bits_in_scope outer) m rest) (bits_after outer Γ s) in
    line_or_else (on_line number (bits_fault Γ s)) (or_else deeper later)
    ∙ ap (λ b. or_else (line_of (on_line number (bits_fault Γ s))) b) (line_or_else deeper later)
    ∙ ap (λ a. or_else a (or_else (line_of deeper) (line_of later))) here
    ∙ ap (λ a. or_else (wide_here number (bits_in_scope Γ) s) (or_else a (line_of later))) under
    ∙ ap (λ a. or_else (wide_here number (bits_in_scope Γ) s) (or_else (cond (has_copies s) (wide_line n n below) None) a)) after

-- ---- up to a limit

lt_same : (a b : ℕ) → min 25 a ≡ min 25 b → nat_lt 24 a ≡ nat_lt 24 b
lt_same a b e = ⊎_elim
    (λ (h : 24 < a). let l : 24 < b = omega arith in let p : nat_lt 24 a ≡ true = search rules in let q : nat_lt 24 b ≡ true = search rules in p ∙ sym q)
    (λ (h : a ≤ 24). let l : b ≤ 24 = omega arith in le-ltb 24 a h ∙ sym (le-ltb 24 b l))
    (cases_lt 24 a)

pub wide_same : (h k : ℕ) (s : Shape) → min 25 h ≡ min 25 k → is_wide h s ≡ is_wide k s
wide_same h k (line.header name params) q = refl
wide_same h k line.close q = refl
wide_same h k line.skip q = refl
wide_same h k line.stop q = refl
wide_same h k (line.assign xs es) q = refl
wide_same h k (line.receive c x) q = refl
wide_same h k (line.send c e) q = refl
wide_same h k (line.group g times) q = refl
wide_same h k (line.declare kind ds) q = lt_same _ _ (omega arith)
wide_same h k (line.condition e) q = refl
wide_same h k (line.guard e w) q = refl
wide_same h k line.nothing q = refl

below_same : (h k : ℕ) (s : Shape) → min 25 h ≡ min 25 k → min 25 (bits_below h s) ≡ min 25 (bits_below k s)
below_same h k (line.header name params) q = omega arith
below_same h k line.close q = q
below_same h k line.skip q = q
below_same h k line.stop q = q
below_same h k (line.assign xs es) q = q
below_same h k (line.receive c x) q = q
below_same h k (line.send c e) q = q
below_same h k (line.group g times) q = q
below_same h k (line.declare kind ds) q = q
below_same h k (line.condition e) q = q
below_same h k (line.guard e w) q = q
below_same h k line.nothing q = q

behind_same : (o p h k : ℕ) (s : Shape) → min 25 o ≡ min 25 p → min 25 h ≡ min 25 k → min 25 (bits_behind o h s) ≡ min 25 (bits_behind p k s)
behind_same o p h k (line.header name params) d q = d
behind_same o p h k line.close d q = d
behind_same o p h k line.skip d q = d
behind_same o p h k line.stop d q = d
behind_same o p h k (line.assign xs es) d q = d
behind_same o p h k (line.receive c x) d q = d
behind_same o p h k (line.send c e) d q = d
behind_same o p h k (line.group g times) d q = d
behind_same o p h k (line.declare kind ds) d q = omega arith
behind_same o p h k (line.condition e) d q = d
behind_same o p h k (line.guard e w) d q = d
behind_same o p h k line.nothing d q = d

-- only the bits up to the limit count
pub wide_line_same : (o p h k : ℕ) (f : Forest) → min 25 o ≡ min 25 p → min 25 h ≡ min 25 k → wide_line o h f ≡ wide_line p k f
wide_line_same o p h k no_line d e = refl
wide_line_same o p h k (and_line number s below rest) d e =
    let b = bits_below h s in
    let b' = bits_below k s in
    let here : wide_here number h s ≡ wide_here number k s = ap (λ t. cond t (Some number) None) (wide_same h k s e) in
    let under : wide_line b b below ≡ wide_line b' b' below = wide_line_same b b' b b' below (below_same h k s e) (below_same h k s e) in
    let after : wide_line o (bits_behind o h s) rest ≡ wide_line p (bits_behind p k s) rest = wide_line_same o p (bits_behind o h s) (bits_behind p k s) rest d (behind_same o p h k s d e) in
    ap (λ a. or_else a (or_else (cond (has_copies s) (wide_line b b below) None) (wide_line o (bits_behind o h s) rest))) here
    ∙ ap (λ a. or_else (wide_here number k s) (or_else (cond (has_copies s) a None) (wide_line o (bits_behind o h s) rest))) under
    ∙ ap (λ a. or_else (wide_here number k s) (or_else (cond (has_copies s) (wide_line b' b' below) None) a)) after

-- ---- one line more

module _ (f : Forest) (number : ℕ) (s : Shape) (below rest : Forest) (e : f ≡ and_line number s below rest) where
  pub wide_behind : (outer here next : ℕ) (total : Option ℕ) → is_wide here s ≡ false → None ≡ deeper_wide_line here s below
      → next ≡ min 25 (bits_behind outer here s) → wide_line outer here f ≡ total → wide_line outer next rest ≡ total
  wide_behind outer here next total t d n h =
      wide_line_same outer outer next (bits_behind outer here s) rest refl (omega arith)
      ∙ sym (sym h ∙ ap (wide_line outer here) e ∙ rw (t, ← d))
