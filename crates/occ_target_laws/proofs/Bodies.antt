-- Bodies of normal shape that mean the same are the same tree.
use Rattle.std.proofs.Common.{◌≡◌, ℕ, ◌+◌, ◌<◌, true, length, sym, ap, ◌∙◌, subst, arith}
use Rattle.std.proofs.lemmas.Bool.{and_parts}
use Rattle.std.proofs.lemmas.List.{ext_get_or}
use Rattle.occ_target.specs.occ_syntax.Declarations.{declaring_all}
use Rattle.occ_target.specs.occ_syntax.Eval.{is_true}
use Rattle.occ_target.specs.occ_syntax.Meaning.{Outcome, ended, meaning, refusing}
use Rattle.occ_target.specs.occ_syntax.Same.{SAME}
use Rattle.occ_target.specs.occ_syntax.Scopes.{Environment, EventSet, IsState, IsWithin, Trace, Values, allows, environment, in_scope, values}
use Rattle.occ_target.specs.occ_syntax.Tree.{Tree, select, stop}
use Rattle.occ_target.specs.occ_syntax.Types.{scope_kept}
use Rattle.occ_target.specs.occ_nform_table.Texts.{state_at_place}
use Rattle.occ_target.proofs.from_nform_table.PlaceNames.{place_is_state}
use Rattle.occ_target.specs.Rows.{part_at}
use Rattle.occ_target_laws.specs.Bodies.{IsShapedBody, in_state}
use Rattle.occ_target_laws.specs.Shapes.{Header, numbered}
use Rattle.occ_target_laws.proofs.Following.{numbered_does}
use Rattle.occ_target_laws.proofs.Anywhere.{Like, anywhere, like_through}
use Rattle.occ_target_laws.proofs.Alike.{Acts, IsFair, Within, fair_like, own_channels, zeros}
use Rattle.occ_target_laws.proofs.Declared.{cleared, cleared_agrees, declared_in, declared_out, inside, inside_channels}
use Rattle.occ_target_laws.proofs.Initial.{Holds, holds_along, holds_itself, holds_state, true_only, true_there}
use Rattle.occ_target_laws.proofs.Unique.{one_process}

module _ (h : Header) (kept : scope_kept h.params ≡ true) where
  -- the k-th initial state
  abbrev start : ℕ → Values
  start k = values (state_at_place h.params k)

  abbrev within_body : Environment
  within_body = inside h.inputs (environment h.params)

  start_holds : (k : ℕ) → Holds h.params (state_at_place h.params k) (start k)
  start_holds k = holds_itself h.params kept (state_at_place h.params k) (place_is_state h.params k)

  -- where a state holds, its choice is taken
  chosen : (p : Tree) (body : IsShapedBody h p) (k : ℕ) → k < length body.parts → (s : Values) → Holds h.params (state_at_place h.params k) s → (t : Trace) (o : Outcome)
      → ((meaning (select (numbered (in_state h) 0 body.parts))).does within_body s t o → (meaning (part_at body.parts k)).does within_body s t o)
      × ((meaning (part_at body.parts k)).does within_body s t o → (meaning (select (numbered (in_state h) 0 body.parts))).does within_body s t o)
  chosen p body k l s holds t o =
      let first : (j : ℕ) → 0 + j ≡ j = λ j. omega arith in
      numbered_does within_body s (in_state h) 0 body.parts k l
      (ap (λ n. is_true within_body (in_state h n) s) (first k) ∙ true_there within_body s h.params k holds)
      (λ j lt e. true_only within_body s h.params k j (omega (arith, l, body.count)) (omega (arith, lt, body.count)) holds (ap (λ n. is_true within_body (in_state h n) s) (sym (first j)) ∙ e)) t o

  pub body_in : (p : Tree) (body : IsShapedBody h p) (k : ℕ) → k < length body.parts → (t : Trace) (o : Outcome) → Acts h (part_at body.parts k) t o
      → (o' : Outcome) × (meaning p).does (environment h.params) (start k) t o' × Like h o o'
  body_in p body k l t o d =
      let s : Values = cleared h.inputs (start k) in
      let one = anywhere h t (part_at body.parts k) (body.shaped k l) (environment h.params) within_body (own_channels h) (inside_channels h body.declared) zeros s o d in
      let holds : Holds h.params (state_at_place h.params k) s =
      holds_along h.params (state_at_place h.params k) (start k) s (λ x i. sym (cleared_agrees h h.inputs body.declared (start k) x i)) (start_holds k) in
      let two = declared_in h h.inputs body.declared (select (numbered (in_state h) 0 body.parts)) (environment h.params) (start k) t one.0 ((chosen p body k l s holds t one.0).1 one.1) in
      (two.0, subst (λ (x : Tree). (meaning x).does (environment h.params) (start k) t two.0) (sym body.form) two.1, like_through h o one.0 two.0 one.2 two.2)

  pub body_out : (p : Tree) (body : IsShapedBody h p) (k : ℕ) → k < length body.parts → (t : Trace) (o : Outcome) → (meaning p).does (environment h.params) (start k) t o
      → (o' : Outcome) × Acts h (part_at body.parts k) t o' × Like h o o'
  body_out p body k l t o d =
      let one = declared_out h h.inputs body.declared (select (numbered (in_state h) 0 body.parts)) (environment h.params) (start k) t o
      (subst (λ (x : Tree). (meaning x).does (environment h.params) (start k) t o) body.form d) in
      let holds : Holds h.params (state_at_place h.params k) one.0 = holds_along h.params (state_at_place h.params k) (start k) one.0 (λ x i. sym (one.4 x i)) (start_holds k) in
      let part = (chosen p body k l one.0 holds t one.1).0 one.2 in
      let two = anywhere h t (part_at body.parts k) (body.shaped k l) within_body (environment h.params) (inside_channels h body.declared) (own_channels h) one.0 zeros one.1 part in
      (two.0, two.1, like_through h o one.1 two.0 one.3 two.2)

  parts_within : (p q : Tree) (body : IsShapedBody h p) (other : IsShapedBody h q) (k : ℕ) → k < length body.parts → k < length other.parts
      → ((t : Trace) (o : Outcome) → IsFair h o → (meaning p).does (environment h.params) (start k) t o → (meaning q).does (environment h.params) (start k) t o)
      → Within h (part_at body.parts k) (part_at other.parts k)
  parts_within p q body other k l g step t o fair d =
      let one = body_in p body k l t o d in
      let two = body_out q other k g t one.0 (step t one.0 (fair_like h o one.0 one.2 fair) one.1) in
      (two.0, two.1, like_through h o one.0 two.0 one.2 two.2)

  pub start_state : (k : ℕ) → IsState (environment h.params) (start k)
  start_state k = holds_state h.params (state_at_place h.params k) (place_is_state h.params k) (start k) (start_holds k)

  in_environment : (X : EventSet) → IsFair h (refusing X) → IsWithin (environment h.params) X
  in_environment X fair e i = (and_parts (in_scope (environment h.params) e) (allows (environment h.params e.chan.0) e.dir) (fair e i)).0

  there : (p q : Tree) → SAME (environment h.params) p q → (k : ℕ) (t : Trace) (o : Outcome) → IsFair h o
      → (meaning p).does (environment h.params) (start k) t o → (meaning q).does (environment h.params) (start k) t o
  there p q same k t (ended s) fair d = (same.same_ends (start k) t s (start_state k)).0 d
  there p q same k t (refusing X) fair d = (same.same_failures (start k) t X (start_state k) (in_environment X fair)).0 d

  back : (p q : Tree) → SAME (environment h.params) p q → (k : ℕ) (t : Trace) (o : Outcome) → IsFair h o
      → (meaning q).does (environment h.params) (start k) t o → (meaning p).does (environment h.params) (start k) t o
  back p q same k t (ended s) fair d = (same.same_ends (start k) t s (start_state k)).1 d
  back p q same k t (refusing X) fair d = (same.same_failures (start k) t X (start_state k) (in_environment X fair)).1 d

pub normal_bodies_are_one : (h : Header) (p q : Tree) → scope_kept h.params ≡ true → IsShapedBody h p → IsShapedBody h q → SAME (environment h.params) p q → p ≡ q
normal_bodies_are_one h p q kept body other same =
    let count : length body.parts ≡ length other.parts = body.count ∙ sym other.count in
    let parts : body.parts ≡ other.parts = ext_get_or stop body.parts other.parts count (λ k l. (
    let g : k < length other.parts = omega (arith, l, count) in
    one_process h kept (part_at body.parts k) (body.shaped k l) (part_at other.parts k) (other.shaped k g)
    (parts_within h kept p q body other k l g (there h kept p q same k)) (parts_within h kept q p other body k g l (back h kept p q same k))
    )) in
    body.form ∙ ap (λ ps. declaring_all h.inputs (select (numbered (in_state h) 0 ps))) parts ∙ sym other.form
