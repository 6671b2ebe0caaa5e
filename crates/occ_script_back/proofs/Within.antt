-- A printed program keeps the limits that its process keeps.
use Rattle.std.proofs.Common.{◌≡◌, ℕ, ◌+◌, ◌≤◌, max, Bool, true, false, nat_lt, List, [], ◌∷◌, ◌++◌, length, Option, None, Some, refl, ap, sym, ◌∙◌, subst, arith, length-append}
use Rattle.std.specs.Prelude.{if◌then◌else◌}
use Rattle.std.specs.List.{flat_map}
use Rattle.std.proofs.lemmas.Bool.{le-ltb}
use Rattle.occ_script_write.specs.occ_base.declared.names.Name.{Name}
use Rattle.occ_script_write.specs.occ_syntax.declared.scope.Kind.{Kind}
use Rattle.occ_script_write.specs.occ_syntax.Counts.{bits_of_scope, controls}
use Rattle.occ_script_write.specs.occ_syntax.Tree.{Tree}
use Rattle.occ_script_write.specs.occ_lex.declared.symbol.Sign.TheVariants as sign
use Rattle.occ_script_write.specs.occ_lex.declared.symbol.Symbol.TheVariants as symbol
use Rattle.occ_script_write.specs.occ_parse_forms.Shape as line
use Rattle.occ_print_back.specs.occ_parse.declared.bound.Bound.{Bound}
use Rattle.occ_print_back.specs.occ_parse.declared.fault.ParseFault.TheVariants as fault
use Rattle.occ_print_back.specs.occ_parse.declared.fault.Which.{Which}
use Rattle.occ_print_back.specs.occ_parse.declared.fault.Which.TheVariants as which
use Rattle.occ_print_back.specs.occ_parse.Drafts.{as_fault, limit_fault, limit_fault_of, over, parameters, unnumbered}
use Rattle.occ_print_back.specs.occ_parse.Limits.{is_limited}
use Rattle.occ_print_back.specs.occ_parse_rules.Forest.{no_line, and_line}
use Rattle.occ_print_back.specs.occ_parse_rules.Judging.{first_fault, or_else}
use Rattle.occ_print_back.specs.occ_parse_rules.Limits.{bits_fault, bits_in_scope, copied_lines, count_fault}
use Rattle.occ_print_back.specs.occ_parse_rules.Places.{Place, places}
use Rattle.occ_print_back.specs.occ_parse_rules.Unrolled.{slot_process}
use Rattle.occ_print_back.proofs.from_parse_rules.Small.{param_bits}
use Rattle.occ_print_back.specs.occ_parse_unroll.Bits.{wide_line}
use Rattle.occ_print_back.specs.occ_parse_unroll.Numbers.{number_in}
use Rattle.occ_print_back.specs.occ_parse_unroll.Reading.{line_of}
use Rattle.occ_print_back.proofs.from_parse_unroll.Sized.{slot_process_size}
use Rattle.occ_print_back.proofs.from_parse_unroll.Wide.{wide_are}
use Rattle.occ_script_write.specs.occ_print.Lines.{TextLine, part_lines, program_lines}
use Rattle.occ_print_back.specs.Back.{deepest}
use Rattle.occ_print_back.specs.Program.{IsPrintable, body_forest, header_scope, params_said, program_forest}
use Rattle.occ_print_back.specs.Said.{declared_at, declared_of}
use Rattle.occ_print_back.specs.Forest.{height}
use Rattle.occ_print_back.proofs.Programs.{params_back, program_back}
use Rattle.occ_print_back.proofs.Stable.{numbered}
use Rattle.occ_script_back.specs.Limits.{IsWithin, IsWithinLimits}
use Rattle.occ_script_back.proofs.Small.{IsSmall, part_small}

-- ---- levels

deepest-append : (xs ys : List TextLine) → deepest (xs ++ ys) ≡ max (deepest xs) (deepest ys)
deepest-append [] ys = omega arith
deepest-append (x ∷ xs) ys = omega (arith, deepest-append xs ys)

pub program_shallow : (name : ℕ) (ps : List (Name × Kind)) (body : Tree) → deepest (part_lines 1 body) ≤ 64 → deepest (program_lines name ps body) ≤ 64
program_shallow name ps body h =
    omega (arith, h, deepest-append (part_lines 1 body) (record { level = 0; symbols = symbol.Sign sign.Colon ∷ [] } ∷ []))

-- ---- limits

over_none : (w : Which) (n k m : ℕ) → m ≤ k → over (nat_lt k m) w n ≡ None
over_none w n k m h = ap (λ t. over t w n) (le-ltb k m h)

five : {F : Type 0} (a b c d e : Option F) → a ≡ None → b ≡ None → c ≡ None → d ≡ None → e ≡ None → or_else a (or_else b (or_else c (or_else d e))) ≡ None
five a b c d e p q r s t =
    ap (λ x. or_else x (or_else b (or_else c (or_else d e)))) p ∙ ap (λ x. or_else x (or_else c (or_else d e))) q ∙ ap (λ x. or_else x (or_else d e)) r
    ∙ ap (λ x. or_else x e) s ∙ t

no_number : {F : Type 0} (o : Option (ℕ × F)) → line_of o ≡ None → o ≡ None
no_number None h = refl
no_number (Some found) h = absurd cc

one_place : (y : ℕ) (j : Option ℕ) → length (places (declared_at y j)) ≡ 1
one_place y None = refl
one_place y (Some k) = refl

parameters_are : (P : ℕ → Place) (ps : List (Name × Kind)) → parameters (params_said P ps) ≡ length ps
parameters_are P [] = refl
parameters_are P (p ∷ ps) =
    omega (arith, length-append (places (declared_of (P p.0.0))) (flat_map (λ q. places q.declared) (params_said P ps)), one_place (P p.0.0).name (P p.0.0).element, parameters_are P ps)

module _ (names : List (List ℕ)) (P : ℕ → Place) (name : ℕ) (ps : List (Name × Kind)) (body : Tree) (h : IsPrintable names P name ps body) where
  bits_are : bits_in_scope (header_scope P ps) ≡ bits_of_scope ps
  bits_are =
      let N = number_in names in
      omega (arith, param_bits N (params_said P ps) [], ap bits_of_scope (params_back (length names) P N (numbered names P h.table) ps h.known.params_are))

  controls_are : (n : ℕ) → controls (slot_process unnumbered (header_scope P ps) (body_forest P n body)) ≡ controls body
  controls_are n =
      slot_process_size unnumbered (header_scope P ps) (body_forest P n body) ∙ sym (slot_process_size (number_in names) (header_scope P ps) (body_forest P n body))
      ∙ ap controls (program_back names P (number_in names) n name ps body (numbered names P h.table) h)

  within : (n : ℕ) → IsWithinLimits ps body → limit_fault (program_forest P n name ps body) ≡ None
  within n w =
      let f = program_forest P n name ps body in
      let below = body_forest P n body in
      let Γ = header_scope P ps in
      let b = bits_of_scope ps in
      let small : IsSmall b b below = part_small P b b (n + 1) body no_line w.state (record { wide = refl; counts = λ Δ Ξ. refl }) in
      let narrow : first_fault bits_fault Γ Γ (copied_lines below) ≡ None =
      no_number (first_fault bits_fault Γ Γ (copied_lines below)) (wide_are Γ Γ below ∙ ap (λ m. wide_line m m below) bits_are ∙ small.wide) in
      let counts : first_fault count_fault [] [] f ≡ None =
      ap (λ o. or_else o (first_fault count_fault [] [] (and_line (n + 1 + height body) line.close no_line no_line))) (small.counts Γ Γ) in
      five
      (over (nat_lt 16 (parameters (params_said P ps))) which.Parameters n)
      (as_fault (λ number found. fault.Limit which.Count number) (first_fault count_fault [] [] f))
      (over (nat_lt 4096 (controls (slot_process unnumbered Γ below))) which.Controls n)
      (over (nat_lt 16 (bits_in_scope Γ)) which.InterfaceBits n)
      (as_fault (λ number found. fault.Limit which.ScopeBits number) (first_fault bits_fault Γ Γ (copied_lines below)))
      (over_none which.Parameters n 16 (parameters (params_said P ps)) (subst (λ m. m ≤ 16) (sym (parameters_are P ps)) w.parameters))
      (ap (as_fault (λ number found. fault.Limit which.Count number)) counts)
      (over_none which.Controls n 4096 (controls (slot_process unnumbered Γ below)) (subst (λ m. m ≤ 4096) (sym (controls_are n)) w.controls))
      (over_none which.InterfaceBits n 16 (bits_in_scope Γ) (subst (λ m. m ≤ 16) (sym bits_are) w.interface))
      (ap (as_fault (λ number found. fault.Limit which.ScopeBits number)) narrow)

  bound_at : (n : ℕ) (t : Bool) → (t ≡ true → IsWithinLimits ps body) → (if t then limit_fault (program_forest P n name ps body) else None) ≡ None
  bound_at n true w = within n (w refl)
  bound_at n false w = refl

  pub no_limit_passed : (b : Bound) (n : ℕ) → IsWithin b name ps body → limit_fault_of b (program_forest P n name ps body) ≡ None
  no_limit_passed b n w = bound_at n (is_limited b) w.limits
