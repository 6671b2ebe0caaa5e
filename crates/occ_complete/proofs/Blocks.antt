-- Branches of events by their places: those of one place have one guard.
use Rattle.std.proofs.Common.{◌≡◌, ◌<◌, ◌^◌, ◌∙◌, ℕ, zero, suc, Bool, true, false, ◌==◌, cond, nat_lt, List, [], ◌∷◌, map, Some, arith, ap, refl, sym, subst, inl, inr}
use Rattle.std.proofs.lemmas.Bool.{and_from, eq-eqb, eqb-true, lt-ltb}
use Rattle.std.proofs.lemmas.Nat.{pow_pos}
use Rattle.occ_engine.specs.occ_base.declared.event.Dir.{Dir}
use Rattle.occ_engine.specs.occ_base.declared.event.Dir.TheVariants.{Input, Output}
use Rattle.occ_engine.specs.occ_base.declared.event.Event.{Event}
use Rattle.occ_engine.specs.occ_base.declared.width.Width.{Width}
use Rattle.occ_engine.specs.occ_base.declared.width.Width.TheVariants.{Bool as Truth, Word}
use Rattle.occ_engine.specs.occ_base.Width.{bits_of}
use Rattle.occ_complete_states.specs.occ_derive_moves.Settled.{IsEventGuard, sends, takes}
use Rattle.occ_complete_states.specs.Headers.{IsHeader}
use Rattle.occ_complete_states.specs.Nodes.{any_of}
use Rattle.occ_complete.proofs.Sets.{Same, flat, flat_in, in_flat}
use Rattle.occ_complete.proofs.Sorting.{numbers_total, same_sorted, sorted}
use Rattle.occ_engine.specs.occ_law.Choice.{is_event}
use Rattle.occ_complete_states.specs.occ_nform_table.Lines.{HaveWidths}
use Rattle.occ_complete_states.proofs.from_nform_table.Events.{same_rank}
use Rattle.occ_complete_states.specs.occ_nform_table.Lists.{In}
use Rattle.occ_engine.specs.occ_syntax.declared.scope.Kind.TheVariants.{Chan}
use Rattle.occ_engine.specs.occ_syntax.Eval.{one_if}
use Rattle.occ_engine.specs.occ_syntax.Scopes.{allows, channel_kind, environment, has_width, in_interface}
use Rattle.occ_engine.specs.occ_syntax.Tree.{Tree, Waiting, input, output, ready, stop}
use Rattle.occ_complete_states.specs.occ_target.Rows.{variable_of}
use Rattle.occ_complete_states.specs.occ_target.States.{constant}
use Rattle.occ_complete_states.proofs.from_target_laws.Lists.{in_map, map_in}
use Rattle.occ_complete_states.specs.occ_target_laws.Shapes.{Header, first_event, place}

-- ---- guards and their first events

abbrev value_in : Waiting → ℕ
value_in w = (first_event w).value

bit_value : (v : ℕ) → v < 2 → one_if (nat_lt 0 v) ≡ v
bit_value zero l = refl
bit_value (suc zero) l = refl
bit_value (suc (suc n)) l = absurd (omega (arith, l))

put_out : (c : ℕ) (w : Width) (v : ℕ) → v < 2 ^ bits_of w → value_in (output c (constant w v)) ≡ v
put_out c Truth v l = bit_value v l
put_out c (Word bits) v l = refl

-- what the interface says of the channel, the direction and the value
fits : (h : Header) (c : ℕ) (w : Width) (d : Dir) (v : ℕ) → environment h.params c ≡ Some (Chan w (Some d)) → allows (Some (Chan w (Some d))) d ≡ true → v < 2 ^ bits_of w
    → in_interface (environment h.params) (record { chan = record { 0 = c }; dir = d; value = v }) ≡ true
fits h c w d v e a l = and_from _ _ (ap (λ k. has_width (channel_kind k) v) e ∙ lt-ltb v (2 ^ bits_of w) l) (ap (λ k. allows k d) e ∙ a)

guard_fits : (h : Header) (w : Waiting) → IsEventGuard h w → in_interface (environment h.params) (first_event w) ≡ true
guard_fits h w (sends c width v e l) =
    fits h c width Output (value_in (output c (constant width v))) e refl (subst (λ n. n < 2 ^ bits_of width) (sym (put_out c width v l)) l)
guard_fits h w (takes c width e) = fits h c width Input 0 e refl (pow_pos (bits_of width))

same_kind : (v w : Width) (d : Dir) → Some (Chan v (Some d)) ≡ Some (Chan w (Some d)) → v ≡ w
same_kind v w d e = cc

dirs_differ : Output ≡ Input → ⊥
dirs_differ e = cc

-- a guard is told by its first event
guard_of : (h : Header) (v w : Waiting) → IsEventGuard h v → IsEventGuard h w → first_event v ≡ first_event w → v ≡ w
guard_of h v w (sends c x n e l) (sends d y m f k) same =
    let chan : c ≡ d = ap (λ (a : Event). a.chan.0) same in
    let width : x ≡ y = same_kind x y Output (sym e ∙ (ap (environment h.params) chan ∙ f)) in
    let value : n ≡ m = sym (put_out c x n l) ∙ (ap (λ (a : Event). a.value) same ∙ put_out d y m k) in
    λ i. output (chan i) (constant (width i) (value i))
guard_of h v w (sends c x n e l) (takes d y f) same = absurd (dirs_differ (ap (λ (a : Event). a.dir) same))
guard_of h v w (takes c x e) (sends d y m f k) same = absurd (dirs_differ (sym (ap (λ (a : Event). a.dir) same)))
guard_of h v w (takes c x e) (takes d y f) same =
    let chan : c ≡ d = ap (λ (a : Event). a.chan.0) same in
    let width : x ≡ y = same_kind x y Input (sym e ∙ (ap (environment h.params) chan ∙ f)) in
    λ i. input (chan i) (variable_of h.inputs (width i))

pub guards_wait : (h : Header) (w : Waiting) → IsEventGuard h w → is_event w ≡ true
guards_wait h w (sends c x n e l) = refl
guards_wait h w (takes c x e) = refl

-- branches of one place have one guard
pub one_place : (h : Header) → IsHeader h → HaveWidths h.params → (b c : Waiting × Tree) → IsEventGuard h b.0 → IsEventGuard h c.0 → place h b ≡ place h c → b.0 ≡ c.0
one_place h is wide b c g k same =
    guard_of h b.0 c.0 g k (same_rank h.params (record { wide = wide; marked = is.marked }) (first_event b.0) (first_event c.0) (guard_fits h b.0 g) (guard_fits h c.0 k) same)

-- ---- the branches of some places

abbrev pub block : Header → List (Waiting × Tree) → ℕ → List (Waiting × Tree)
block h [] k = []
block h (b ∷ E) k = cond (place h b == k) (b ∷ block h E k) (block h E k)

pub block_in : (h : Header) (E : List (Waiting × Tree)) (k : ℕ) (b : Waiting × Tree) → In b E → place h b ≡ k → In b (block h E k)
block_in h [] k b i e = absurd i
block_in h (c ∷ E) k b (inl f) e = subst (λ t. In b (cond t (c ∷ block h E k) (block h E k))) (sym (eq-eqb (place h c) k (ap (place h) (sym f) ∙ e))) (inl f)
block_in h (c ∷ E) k b (inr i) e = at (place h c == k) (block_in h E k b i e)
  where
    at : (t : Bool) → In b (block h E k) → In b (cond t (c ∷ block h E k) (block h E k))
    at true j = inr j
    at false j = j

pub in_block : (h : Header) (E : List (Waiting × Tree)) (k : ℕ) (b : Waiting × Tree) → In b (block h E k) → In b E × (place h b ≡ k)
in_block h [] k b i = absurd i
in_block h (c ∷ E) k b i = at (place h c == k) refl i (λ j. in_block h E k b j)
  where
    behind : In b E × (place h b ≡ k) → In b (c ∷ E) × (place h b ≡ k)
    behind r = (inr r.0, r.1)

    at : (t : Bool) → (place h c == k) ≡ t → In b (cond t (c ∷ block h E k) (block h E k)) → (In b (block h E k) → In b E × (place h b ≡ k)) → In b (c ∷ E) × (place h b ≡ k)
    at true e (inl f) ih = (inl f, ap (place h) f ∙ eqb-true (place h c) k e)
    at true e (inr j) ih = behind (ih j)
    at false e j ih = behind (ih j)

-- the places of branches, in order
abbrev pub keys : Header → List (Waiting × Tree) → List ℕ
keys h E = sorted nat_lt (map (place h) E)

keys_same : (h : Header) (E : List (Waiting × Tree)) → Same (map (place h) E) (keys h E)
keys_same h E = same_sorted nat_lt (λ k. Unit {0}) (λ x y p q. numbers_total x y) (map (place h) E) (λ x i. tt)

pub key_in : (h : Header) (E : List (Waiting × Tree)) (b : Waiting × Tree) → In b E → In (place h b) (keys h E)
key_in h E b i = (keys_same h E).there (place h b) (in_map (place h) E b i)

pub in_keys : (h : Header) (E : List (Waiting × Tree)) (k : ℕ) → In k (keys h E) → (b : Waiting × Tree) × In b E × (k ≡ place h b)
in_keys h E k i = map_in (place h) E k ((keys_same h E).back k i)

abbrev pub blocks : Header → List (Waiting × Tree) → List ℕ → List (Waiting × Tree)
blocks h E ks = flat (block h E) ks

pub blocks_in : (h : Header) (E : List (Waiting × Tree)) (ks : List ℕ) (b : Waiting × Tree) → In b E → In (place h b) ks → In b (blocks h E ks)
blocks_in h E ks b i j = in_flat (block h E) ks (place h b) b j (block_in h E (place h b) b i refl)

pub in_blocks : (h : Header) (E : List (Waiting × Tree)) (ks : List ℕ) (b : Waiting × Tree) → In b (blocks h E ks) → In b E × In (place h b) ks
in_blocks h E ks b i =
    let r = flat_in (block h E) ks b i in
    let q = in_block h E r.0 b r.2 in
    (q.0, subst (λ k. In k ks) (sym q.1) r.1)

pub all_blocks : (h : Header) (E : List (Waiting × Tree)) → Same E (blocks h E (keys h E))
all_blocks h E = record { there = λ b i. blocks_in h E (keys h E) b i (key_in h E b i); back = λ b i. (in_blocks h E (keys h E) b i).0 }

-- ---- the branches of one place as one

abbrev pub joined : List (Waiting × Tree) → Waiting × Tree
joined [] = (ready, stop)
joined (b ∷ bs) = (b.0, any_of (b.1 ∷ map (λ (c : Waiting × Tree). c.1) bs))

abbrev pub branch_at : Header → List (Waiting × Tree) → ℕ → Waiting × Tree
branch_at h E k = joined (block h E k)
