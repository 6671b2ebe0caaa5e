-- Inputs and outputs as they are returned.
use Rattle.std.proofs.Common.{length, take, ap, ◌≡◌, ◌<◌, ◌≤◌, ◌+◌, ◌^◌, ◌==◌, ◌&&◌, ℕ, Bool, true, false, not, List, Some, refl, sym, ◌∙◌, subst, arith}
use Rattle.std.specs.Prelude.{if◌then◌else◌, nat_le, nat_lt}
use Rattle.std.specs.Int.{bit_at}
use Rattle.std.specs.Int.Bits.{bit_and}
use Rattle.std.specs.List.{list_all}
use Rattle.std.proofs.lemmas.List.{take_all}
use Rattle.std.proofs.lemmas.Nat.{and_le_l}
use Rattle.std.proofs.lemmas.Bool.{false≢true}
use Rattle.occ_syntax.specs.occ_base.declared.names.Name.{Name}
use Rattle.occ_syntax.specs.occ_base.declared.width.Width.{Width}
use Rattle.occ_syntax.specs.occ_base.Width.{bits_of}
use Rattle.occ_syntax.specs.Eval.{eval}
use Rattle.occ_syntax.specs.Scopes.{Environment}
use Rattle.occ_syntax.specs.Tree.{Exp, input, output, receive, send}
use Rattle.occ_syntax.specs.Types.{types_kept}
use Rattle.occ_norm_frame.specs.occ_bits.Layout.{entry_of, environment_in, state_of}
use Rattle.occ_norm_frame.specs.occ_bits.Words.{IsValue, number_at}
use Rattle.occ_norm_frame.specs.occ_dd.declared.set.SetId.{SetId}
use Rattle.occ_norm_frame.specs.occ_dd.declared.store.Store.{Store}
use Rattle.occ_norm_frame.proofs.from_bits.Laid.{found_within}
use Rattle.occ_norm_frame.proofs.from_bits.Parts.{value_same}
use Rattle.occ_norm_frame.specs.occ_mdd.declared.map.MapId.{MapId}
use Rattle.occ_norm_frame.specs.occ_node.declared.world.World.{World}
use Rattle.occ_norm_frame.specs.occ_follow.Sequence.{HasNodes}
use Rattle.occ_norm_frame.specs.Lifted.{IsPrefixed}
use Rattle.occ_norm_frame.specs.Maps.{Extends, IsStop}
use Rattle.occ_norm_frame.proofs.Worlds.{extends_trans, has_nodes-extends}
use Rattle.occ_norm_frame.specs.After.{IsAfter, IsOver}
use Rattle.occ_norm_frame.specs.Changes.{IsChanged}
use Rattle.occ_norm_frame.specs.Placed.{IsAround}
use Rattle.occ_norm_frame.specs.declared.frame.Frame.{Frame}
use Rattle.occ_norm_frame.proofs.After.{over-extends}
use Rattle.occ_norm_frame.proofs.FrameBits.{pow_more}
use Rattle.occ_norm_frame.proofs.Placing.{frame_layout, width_here}
use Rattle.occ_norm_alt.specs.Inputs.{AreInputs, AreOutputs, output_event}
use Rattle.occ_norm_alt.specs.Offering.{IsGuarded}
use Rattle.occ_norm_alt.proofs.Alternatives.{receive_after, send_after}
use Rattle.occ_norm_alt.proofs.Guarding.{closed_guard, input_guarded, input_shut, output_guarded, output_shut, receive_settles}
use Rattle.occ_norm_alt.proofs.Receiving.{inputs_grow}
use Rattle.occ_norm_alt.proofs.Steps.{row_inside, row_outside, stop_nothing}

pub not_closed : (answer all : Bool) → answer ≡ not all → answer ≡ false → all ≡ true
not_closed answer true e f = refl
not_closed answer false e f = absurd (false≢true (sym f ∙ e))

pub is_closed : (answer all : Bool) → answer ≡ not all → answer ≡ true → all ≡ false
is_closed answer false e f = refl
is_closed answer true e f = absurd (false≢true (sym e ∙ f))

module _ (f : Frame) where
  bits_few : f.bits ≤ 64
  bits_few = let bits : f.bits ≤ 24 = subst (λ m. m ≤ 24) (sym f.kept.bits_are) f.kept.few in omega arith

  keep_small : f.keep < 2 ^ 64
  keep_small = pow_more f.bits 64 f.keep bits_few f.inside

  module _ (u v w : World) (k : Extends u v) (l : Extends v w) (next : MapId) (over : IsOver u f.bits next) (chan : Name) where
    uw : Extends u w
    uw = extends_trans u v w k l

    over_now : IsOver w f.bits next
    over_now = over-extends u w uw f.bits next over

    pub input_done : (var : ℕ) (width : Width) (first left count row kept_row : ℕ) (map r : MapId) → entry_of f.layout var ≡ Some (width, first) → left ≡ bits_of width → count ≡ bits_of width
        → ((j : ℕ) → j < 64 → bit_at row j ≡ (if nat_le first j && nat_lt j (first + count) then 1 else 0)) → kept_row ≡ bit_and f.keep row → list_all (λ (c : Name). not (chan.0 == c.0)) f.closed.items ≡ true
        → HasNodes v map → AreInputs v chan first left kept_row 0 next map → IsChanged w (λ x. bit_and x kept_row) map r
        → (Γ : Environment) → IsAround Γ f.vars → types_kept (receive chan.0 var) Γ ≡ true → IsGuarded w f.layout f.keep f.closed.items Γ (input chan.0 var) next r
    input_done var width first left count row kept_row map r there is_left is_count is_row is_kept shown hm inputs changed Γ around kept =
        let fits : first + bits_of width ≤ 64 = found_within f.layout (frame_layout f.vars f.layout f.bits f.kept) var width first there in
        let rows : (j : ℕ) → j < 64 → bit_at row j ≡ (if nat_le first j && nat_lt j (first + bits_of width) then 1 else 0) = subst (λ m. (j : ℕ) → j < 64 → bit_at row j ≡ (if nat_le first j && nat_lt j (first + m) then 1 else 0)) is_count is_row in
        let here : AreInputs v chan first (bits_of width) (bit_and f.keep row) 0 next map = subst (λ b. AreInputs v chan first (bits_of width) b 0 next map) is_kept (subst (λ m. AreInputs v chan first m kept_row 0 next map) is_left inputs) in
        let small : bit_and f.keep row < 2 ^ 64 = omega (arith, and_le_l f.keep row, keep_small) in
        input_guarded w f.vars f.layout f.bits f.kept f.keep f.inside f.closed.items next over_now Γ around chan var kept shown width first there (bit_and f.keep row)
        (row_inside f.keep row first (bits_of width) fits rows keep_small) (row_outside f.keep row first (bits_of width) fits rows keep_small) small map r (has_nodes-extends v w l map hm)
        (inputs_grow v w l next (has_nodes-extends u v k next over.has) chan first (bits_of width) (bit_and f.keep row) 0 map fits hm here)
        (subst (λ b. IsChanged w (λ x. bit_and x b) map r) is_kept changed)

    pub output_done : (z : Exp) (test : ℕ → Bool) (v_of : ℕ → ℕ) (r : MapId) → list_all (λ (c : Name). not (chan.0 == c.0)) f.closed.items ≡ true → ((x : ℕ) → test x ≡ true) → ((x : ℕ) → v_of x ≡ eval (environment_in f.layout) z (state_of f.layout x))
        → AreOutputs w chan test v_of next r
        → (Γ : Environment) → IsAround Γ f.vars → types_kept (send chan.0 z) Γ ≡ true → IsGuarded w f.layout f.keep f.closed.items Γ (output chan.0 z) next r
    output_done z test v_of r shown full values outputs Γ around kept =
        output_guarded w f.vars f.layout f.bits f.kept f.keep f.inside f.closed.items next over_now Γ chan z shown r
        (λ x m a h em ea. subst (λ b. IsPrefixed w (output_event chan b) m a)
        (values x ∙ value_same (environment_in f.layout) Γ (state_of f.layout x) (state_of f.layout x) z (λ y named. sym (width_here Γ f.vars f.layout f.bits f.kept around y)) (λ y named. refl))
        (outputs.outputs x m a h (full x) em ea))

  module _ (u w : World) (uw : Extends u w) (next : MapId) (over : IsOver u f.bits next) (chan : Name) (r : MapId) where
    pub receive_done : (var : ℕ) → ((Γ : Environment) → IsAround Γ f.vars → types_kept (receive chan.0 var) Γ ≡ true → IsGuarded w f.layout f.keep f.closed.items Γ (input chan.0 var) next r)
        → (Γ : Environment) → IsAround Γ f.vars → types_kept (receive chan.0 var) Γ ≡ true → IsAfter w f.layout f.keep f.closed.items Γ (receive chan.0 var) next r
    receive_done var guarded Γ around kept = receive_after w f.vars f.layout f.bits f.kept f.keep f.inside f.closed.items next (over-extends u w uw f.bits next over) Γ chan.0 var r
        (λ x h. receive_settles f.vars f.layout f.bits f.kept Γ around (input chan.0 var) kept bits_few x) (guarded Γ around kept)

    pub send_done : (z : Exp) → ((Γ : Environment) → IsAround Γ f.vars → types_kept (send chan.0 z) Γ ≡ true → IsGuarded w f.layout f.keep f.closed.items Γ (output chan.0 z) next r)
        → (Γ : Environment) → IsAround Γ f.vars → types_kept (send chan.0 z) Γ ≡ true → IsAfter w f.layout f.keep f.closed.items Γ (send chan.0 z) next r
    send_done z guarded Γ around kept = send_after w f.vars f.layout f.bits f.kept f.keep f.inside f.closed.items next (over-extends u w uw f.bits next over) Γ chan.0 z r
        (λ x h. receive_settles f.vars f.layout f.bits f.kept Γ around (output chan.0 z) kept bits_few x) (guarded Γ around kept)

  -- on a closed channel
  pub input_closed : (w : World) (next r : MapId) (chan : Name) (var : ℕ) → list_all (λ (c : Name). not (chan.0 == c.0)) f.closed.items ≡ false → IsStop w r → (Γ : Environment) → IsGuarded w f.layout f.keep f.closed.items Γ (input chan.0 var) next r
  input_closed w next r chan var shut stop Γ = closed_guard w f.layout f.keep f.closed.items Γ (input chan.0 var) next r (input_shut f.closed.items Γ chan.0 var shut) (stop_nothing w r stop)

  pub output_closed : (w : World) (next r : MapId) (chan : Name) (z : Exp) → list_all (λ (c : Name). not (chan.0 == c.0)) f.closed.items ≡ false → IsStop w r → (Γ : Environment) → IsGuarded w f.layout f.keep f.closed.items Γ (output chan.0 z) next r
  output_closed w next r chan z shut stop Γ = closed_guard w f.layout f.keep f.closed.items Γ (output chan.0 z) next r (output_shut f.closed.items Γ chan.0 z shut) (stop_nothing w r stop)

-- ---- the value of an output, by its digits
pub whole_value : (s : Store) (layout : List (Name × Width × ℕ)) (z : Exp) (sets : List SetId) (base count : ℕ) → IsValue s layout z sets → base ≡ 0 → count ≡ length sets
    → (x : ℕ) → base + number_at s (take count sets) x ≡ eval (environment_in layout) z (state_of layout x)
whole_value s layout z sets base count is none all x =
    let e : base + number_at s (take count sets) x ≡ number_at s (take count sets) x = omega arith in
    e ∙ ap (λ ds. number_at s ds x) (take_all count sets (omega arith)) ∙ is.number x
