-- The lines of a printed part repeat nothing, and declare no more bits than the part has in scope.
use Rattle.std.proofs.Common.{◌≡◌, ℕ, ◌+◌, ◌*◌, ◌≤◌, Bool, true, false, not, ◌&&◌, nat_lt, List, [], ◌∷◌, Option, None, Some, refl, ap, ◌∙◌, subst, arith}
use Rattle.std.specs.Prelude.{if◌then◌else◌}
use Rattle.std.proofs.lemmas.Bool.{le-ltb}
use Rattle.occ_script_write.specs.occ_base.Width.{bits_of}
use Rattle.occ_script_write.specs.occ_syntax.declared.scope.Kind.{Kind}
use Rattle.occ_script_write.specs.occ_syntax.declared.scope.Kind.TheVariants as kind
use Rattle.occ_script_write.specs.occ_syntax.Counts.{bits_of_kind, most_bits, most_bits_of_all, most_bits_of_cases, most_bits_of_branches}
use Rattle.occ_script_write.specs.occ_syntax.Tree.{Exp, Waiting, ready, input, output, Tree, skip, stop, assign, receive, send, seq, par, select, alt, declare, connect, Trees, no_tree, and_tree, Cases, no_case, and_case, Branches, no_branch, and_branch}
use Rattle.occ_script_write.specs.occ_parse_forms.declared.form.Group.{Group}
use Rattle.occ_script_write.specs.occ_parse_forms.declared.form.Group.TheVariants as word
use Rattle.occ_script_write.specs.occ_parse_forms.Shape.{Shape}
use Rattle.occ_script_write.specs.occ_parse_forms.Shape as line
use Rattle.occ_print_back.specs.occ_parse_rules.Forest.{Forest, no_line, and_line}
use Rattle.occ_print_back.specs.occ_parse_rules.Judging.{or_else, on_line, inside, behind, first_fault}
use Rattle.occ_print_back.specs.occ_parse_rules.Limits.{passes_count, count_fault, has_copies}
use Rattle.occ_print_back.specs.occ_parse_rules.Places.{Place, Sorts}
use Rattle.occ_print_back.specs.occ_parse_unroll.Bits.{is_wide, bits_below, bits_behind, wide_line}
use Rattle.occ_print_back.specs.occ_parse_unroll.Sizes.{names_in}
use Rattle.occ_script_write.specs.occ_print.Symbols.{is_true, is_ready}
use Rattle.occ_print_back.specs.Said.{declared_at, declared_of, whole_said, assign_shape, receive_shape, send_shape, bare_guard, waited_for, guard_shape, declaration_shape}
use Rattle.occ_print_back.specs.Forest.{height, part_forest, parts_forest, cases_forest, branches_forest}

-- ---- no part has fewer bits in scope than there are outside

mutual
  least : (p : Tree) (n : ℕ) → n ≤ most_bits p n
  least skip n = omega arith
  least stop n = omega arith
  least (assign xs es) n = omega arith
  least (receive c x) n = omega arith
  least (send c e) n = omega arith
  least (seq ps) n = least_of_all ps n
  least (par ps) n = least_of_all ps n
  least (select cs) n = least_of_cases cs n
  least (alt bs) n = least_of_branches bs n
  least (declare x w p) n = omega (arith, least p (n + bits_of w))
  least (connect c w p) n = least p n

  least_of_all : (ps : Trees) (n : ℕ) → n ≤ most_bits_of_all ps n
  least_of_all no_tree n = omega arith
  least_of_all (and_tree p ps) n = omega (arith, least p n)

  least_of_cases : (cs : Cases) (n : ℕ) → n ≤ most_bits_of_cases cs n
  least_of_cases no_case n = omega arith
  least_of_cases (and_case e p cs) n = omega (arith, least p n)

  least_of_branches : (bs : Branches) (n : ℕ) → n ≤ most_bits_of_branches bs n
  least_of_branches no_branch n = omega arith
  least_of_branches (and_branch e w p bs) n = omega (arith, least p n)

-- ---- lines

-- a line that neither repeats nor declares
record IsCalm (s : Shape) : Type 0 where
  counts : passes_count s ≡ false
  wide : (here : ℕ) → is_wide here s ≡ false
  copies : has_copies s ≡ true
  below : (here : ℕ) → bits_below here s ≡ here
  next : (outer here : ℕ) → bits_behind outer here s ≡ outer

-- lines that pass no limit, where so many bits are in scope outside and here
pub record IsSmall (outer here : ℕ) (f : Forest) : Type 0 where
  pub wide : wide_line outer here f ≡ None
  pub counts : (Δ Γ : Sorts) → first_fault count_fault Δ Γ f ≡ None

none_small : (outer here : ℕ) → IsSmall outer here no_line
none_small outer here = record { wide = refl; counts = λ Δ Γ. refl }

line_small : (outer here n : ℕ) (s : Shape) (below rest : Forest) → IsCalm s → IsSmall here here below → IsSmall outer outer rest → IsSmall outer here (and_line n s below rest)
line_small outer here n s below rest c b r = record {
  wide =
      let later = wide_line outer (bits_behind outer here s) rest in
      ap (λ t. or_else (if t then Some n else None) (or_else (if has_copies s then wide_line (bits_below here s) (bits_below here s) below else None) later)) (c.wide here)
      ∙ ap (λ t. or_else (if t then wide_line (bits_below here s) (bits_below here s) below else None) later) c.copies
      ∙ ap (λ m. or_else (wide_line m m below) later) (c.below here)
      ∙ ap (λ o. or_else o later) b.wide
      ∙ ap (λ m. wide_line outer m rest) (c.next outer here) ∙ r.wide;
  counts = λ Δ Γ.
      ap (λ t. or_else (on_line n (if t then Some tt else None)) (or_else (first_fault count_fault (inside Γ s) (inside Γ s) below) (first_fault count_fault Δ (behind Δ Γ s) rest))) c.counts
      ∙ ap (λ o. or_else o (first_fault count_fault Δ (behind Δ Γ s) rest)) (b.counts (inside Γ s) (inside Γ s))
      ∙ r.counts Δ (behind Δ Γ s);
}

module _ (P : ℕ → Place) where
  -- ---- shapes

  group_calm : (g : Group) → IsCalm (line.group g None)
  group_calm g = record { counts = refl; wide = λ here. refl; copies = refl; below = λ here. refl; next = λ outer here. refl }

  skip_calm : IsCalm line.skip
  skip_calm = record { counts = refl; wide = λ here. refl; copies = refl; below = λ here. refl; next = λ outer here. refl }

  stop_calm : IsCalm line.stop
  stop_calm = record { counts = refl; wide = λ here. refl; copies = refl; below = λ here. refl; next = λ outer here. refl }

  assign_calm : (xs : List ℕ) (es : List Exp) → IsCalm (assign_shape P xs es)
  assign_calm xs es = record { counts = refl; wide = λ here. refl; copies = refl; below = λ here. refl; next = λ outer here. refl }

  receive_calm : (c x : ℕ) → IsCalm (receive_shape P c x)
  receive_calm c x = record { counts = refl; wide = λ here. refl; copies = refl; below = λ here. refl; next = λ outer here. refl }

  send_calm : (c : ℕ) (e : Exp) → IsCalm (send_shape P c e)
  send_calm c e = record { counts = refl; wide = λ here. refl; copies = refl; below = λ here. refl; next = λ outer here. refl }

  condition_calm : (e : Exp) → IsCalm (line.condition (whole_said P e))
  condition_calm e = record { counts = refl; wide = λ here. refl; copies = refl; below = λ here. refl; next = λ outer here. refl }

  bare_calm : (w : Waiting) → IsCalm (bare_guard P w)
  bare_calm ready = skip_calm
  bare_calm (input c x) = receive_calm c x
  bare_calm (output c e) = send_calm c e

  guard_calm_at : (e : Exp) (w : Waiting) (b : Bool) → IsCalm (if b then bare_guard P w else line.guard (whole_said P e) (waited_for P w))
  guard_calm_at e w true = bare_calm w
  guard_calm_at e w false = record { counts = refl; wide = λ here. refl; copies = refl; below = λ here. refl; next = λ outer here. refl }

  guard_calm : (e : Exp) (w : Waiting) → IsCalm (guard_shape P e w)
  guard_calm e w = guard_calm_at e w (is_true e && not (is_ready w))

  -- ---- declarations

  one_name : (y : ℕ) (j : Option ℕ) → names_in (declared_at y j ∷ []) ≡ 1
  one_name y None = refl
  one_name y (Some k) = refl

  no_count : (k : Kind) (y : ℕ) (j : Option ℕ) → passes_count (line.declare k (declared_at y j ∷ [])) ≡ false
  no_count k y None = refl
  no_count k y (Some j) = refl

  more : (x here : ℕ) (k : Kind) → here + names_in (declared_of (P x) ∷ []) * bits_of_kind k ≡ here + bits_of_kind k
  more x here k = ap (λ n. here + n * bits_of_kind k) (one_name (P x).name (P x).element) ∙ omega arith

  declaration_small : (outer here n x : ℕ) (k : Kind) (rest : Forest) → here + bits_of_kind k ≤ 24 → IsSmall outer (here + bits_of_kind k) rest
      → IsSmall outer here (and_line n (declaration_shape P x k) no_line rest)
  declaration_small outer here n x k rest few r = record {
    wide =
        let s = declaration_shape P x k in
        ap (λ t. or_else (if t then Some n else None) (wide_line outer (bits_behind outer here s) rest)) (ap (nat_lt 24) (more x here k) ∙ le-ltb 24 (here + bits_of_kind k) few)
        ∙ ap (λ m. wide_line outer m rest) (more x here k) ∙ r.wide;
    counts = λ Δ Γ.
        let s = declaration_shape P x k in
        ap (λ t. or_else (on_line n (if t then Some tt else None)) (first_fault count_fault Δ (behind Δ Γ s) rest)) (no_count k (P x).name (P x).element)
        ∙ r.counts Δ (behind Δ Γ s);
  }

  -- ---- parts

  mutual
    pub part_small : (outer here n : ℕ) (p : Tree) (rest : Forest) → most_bits p here ≤ 24 → IsSmall outer outer rest → IsSmall outer here (part_forest P n p rest)
    part_small outer here n skip rest h r = line_small outer here n line.skip no_line rest skip_calm (none_small here here) r
    part_small outer here n stop rest h r = line_small outer here n line.stop no_line rest stop_calm (none_small here here) r
    part_small outer here n (assign xs es) rest h r = line_small outer here n (assign_shape P xs es) no_line rest (assign_calm xs es) (none_small here here) r
    part_small outer here n (receive c x) rest h r = line_small outer here n (receive_shape P c x) no_line rest (receive_calm c x) (none_small here here) r
    part_small outer here n (send c e) rest h r = line_small outer here n (send_shape P c e) no_line rest (send_calm c e) (none_small here here) r
    part_small outer here n (seq ps) rest h r =
        line_small outer here n (line.group word.Seq None) (parts_forest P (n + 1) ps) rest (group_calm word.Seq) (parts_small here (n + 1) ps h) r
    part_small outer here n (par ps) rest h r =
        line_small outer here n (line.group word.Par None) (parts_forest P (n + 1) ps) rest (group_calm word.Par) (parts_small here (n + 1) ps h) r
    part_small outer here n (select cs) rest h r =
        line_small outer here n (line.group word.If None) (cases_forest P (n + 1) cs) rest (group_calm word.If) (cases_small here (n + 1) cs h) r
    part_small outer here n (alt bs) rest h r =
        line_small outer here n (line.group word.Alt None) (branches_forest P (n + 1) bs) rest (group_calm word.Alt) (branches_small here (n + 1) bs h) r
    part_small outer here n (declare x w p) rest h r =
        declaration_small outer here n x (kind.Var w) (part_forest P (n + 1) p rest) (omega (arith, h, least p (here + bits_of w)))
        (part_small outer (here + bits_of w) (n + 1) p rest h r)
    part_small outer here n (connect c w p) rest h r =
        let same : here ≡ here + 0 = omega arith in
        let k : most_bits p (here + 0) ≤ 24 = subst (λ m. most_bits p m ≤ 24) same h in
        declaration_small outer here n c (kind.Chan w None) (part_forest P (n + 1) p rest) (omega (arith, h, least p here))
        (part_small outer (here + 0) (n + 1) p rest k r)

    parts_small : (here n : ℕ) (ps : Trees) → most_bits_of_all ps here ≤ 24 → IsSmall here here (parts_forest P n ps)
    parts_small here n no_tree h = none_small here here
    parts_small here n (and_tree p ps) h =
        part_small here here n p (parts_forest P (n + height p) ps) (omega (arith, h)) (parts_small here (n + height p) ps (omega (arith, h)))

    cases_small : (here n : ℕ) (cs : Cases) → most_bits_of_cases cs here ≤ 24 → IsSmall here here (cases_forest P n cs)
    cases_small here n no_case h = none_small here here
    cases_small here n (and_case e p cs) h =
        line_small here here n (line.condition (whole_said P e)) (part_forest P (n + 1) p no_line) (cases_forest P (n + 1 + height p) cs) (condition_calm e)
        (part_small here here (n + 1) p no_line (omega (arith, h)) (none_small here here)) (cases_small here (n + 1 + height p) cs (omega (arith, h)))

    branches_small : (here n : ℕ) (bs : Branches) → most_bits_of_branches bs here ≤ 24 → IsSmall here here (branches_forest P n bs)
    branches_small here n no_branch h = none_small here here
    branches_small here n (and_branch e w p bs) h =
        line_small here here n (guard_shape P e w) (part_forest P (n + 1) p no_line) (branches_forest P (n + 1 + height p) bs) (guard_calm e w)
        (part_small here here (n + 1) p no_line (omega (arith, h)) (none_small here here)) (branches_small here (n + 1 + height p) bs (omega (arith, h)))
