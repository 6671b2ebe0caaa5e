-- Expressions that come in the place of others that are alike; inputs and outputs as choice.
use Rattle.std.proofs.Common.{◌≡◌, ◌∙◌, ℕ, ◌==◌, Bool, true, false, ◌&&◌, ◌||◌, List, [], ◌∷◌, Some, bit_and, arith, refl, sym, ap}
use Rattle.std.proofs.lemmas.Bool.{and_from}
use Rattle.occ_renamed.specs.occ_base.declared.event.Dir.TheVariants.{Input, Output}
use Rattle.occ_renamed.specs.occ_base.declared.names.Name.{Name}
use Rattle.occ_renamed.specs.occ_base.declared.width.Width.TheVariants.{Bool as TruthValue}
use Rattle.occ_derive_laws.proofs.Few.{bits_more}
use Rattle.occ_derive_laws.proofs.Pairs.{and_pair, assign_keeps, assign_pairs, assign_some, first_pair}
use Rattle.occ_derive_laws.specs.Alike.{IsAlike}
use Rattle.occ_renamed.specs.occ_law.Sequence.{expr_in_alt, expr_in_assignment, expr_in_if, input_alt, output_alt}
use Rattle.occ_renamed.specs.occ_law.States.{AreFew, BranchesEqual, CasesEqual, EachEqual, IsEqualAlways, WaitingEqual, and_equal_branch, and_equal_case, and_place, equal_input, equal_output, equal_ready, no_equal_branch, no_equal_case, no_place}
use Rattle.occ_renamed.specs.occ_law.RuleTable.{LAW}
use Rattle.occ_renamed.proofs.from_meaning.Facts.{and_four, and_three}
use Rattle.occ_renamed.proofs.from_meaning.Named.{condition_bit}
use Rattle.occ_renamed.proofs.from_meaning.Typing.{condition_type}
use Rattle.occ_renamed.specs.occ_syntax.declared.expr.Op.TheVariants.{And}
use Rattle.occ_renamed.specs.occ_syntax.declared.scope.Kind.{Kind}
use Rattle.occ_renamed.specs.occ_syntax.Eval.{is_true, one_if}
use Rattle.occ_renamed.specs.occ_syntax.Names.{names, some_names}
use Rattle.occ_renamed.specs.occ_syntax.Scopes.{allows, channel_width, environment, same_dir, variable_width}
use Rattle.occ_renamed.specs.occ_syntax.Tree.{Branches, Cases, Exp, Waiting, alt, and_branch, assign, input, no_branch, operation, output, receive, select, send, skip, truth}
use Rattle.occ_renamed.specs.occ_syntax.Types.{agree, branches_kept, cases_kept, is_condition, pairs_kept, type_of_two, types_kept, waiting_kept}
use Rattle.occ_renamed.specs.occ_syntax.Usage.{Keeps}
use Rattle.occ_renamed.specs.occ_usage.Local.{UsesNoMore}

-- ---- right sides

sides_equal : (S : List (Name × Kind)) (es fs : List Exp) → EachEqual (IsAlike S) es fs → EachEqual (IsEqualAlways S) es fs
sides_equal S es fs no_place = no_place
sides_equal S es fs (and_place {e = e} {f = f} {es = us} {fs = vs} a k) = and_place a.always (sides_equal S us vs k)

sides_kept : (S : List (Name × Kind)) (xs : List ℕ) (es fs : List Exp) → EachEqual (IsAlike S) es fs → pairs_kept (environment S) xs es ≡ true
    → pairs_kept (environment S) xs fs ≡ true
sides_kept S xs es fs no_place h = h
sides_kept S [] es fs (and_place a k) h = h
sides_kept S (x ∷ xs) es fs (and_place {e = e} {f = f} {es = us} {fs = vs} a k) h =
    let p = first_pair (environment S) x xs e us h in
    and_pair (environment S) x xs f vs (record {
      typed = ap (agree (variable_width (environment S) x)) a.typed ∙ p.typed;
      once = p.once;
      rest = sides_kept S xs us vs k p.rest;
    })

pub sides_law : (S : List (Name × Kind)) (xs : List ℕ) (es fs : List Exp) → Keeps (environment S) (assign xs es) → EachEqual (IsAlike S) es fs
    → LAW 14 S (assign xs es) (assign xs fs)
sides_law S xs es fs k a = record {
  place = [];
  sides = expr_in_assignment xs es fs (sides_equal S es fs a);
  left = k;
  right = assign_keeps (environment S) xs fs (assign_some (environment S) xs es k) (sides_kept S xs es fs a (assign_pairs (environment S) xs es k));
}

-- ---- conditions

condition_kept : (S : List (Name × Kind)) (b c : Exp) → IsAlike S b c → is_condition (environment S) b ≡ true → is_condition (environment S) c ≡ true
condition_kept S b c a h = ap (λ t. agree t (Some TruthValue)) a.typed ∙ h

choices_equal : (S : List (Name × Kind)) (cs ds : Cases) → CasesEqual (IsAlike S) cs ds → CasesEqual (IsEqualAlways S) cs ds
choices_equal S cs ds no_equal_case = no_equal_case
choices_equal S cs ds (and_equal_case {b = b} {c = c} {p = p} {cs = us} {ds = vs} a k) = and_equal_case a.always (choices_equal S us vs k)

choices_keep : (S : List (Name × Kind)) (cs ds : Cases) → CasesEqual (IsAlike S) cs ds → Keeps (environment S) (select cs) → Keeps (environment S) (select ds)
choices_keep S cs ds no_equal_case k = k
choices_keep S cs ds (and_equal_case {b = b} {c = c} {p = p} {cs = us} {ds = vs} a r) k =
    let t = and_three (is_condition (environment S) b) (types_kept p (environment S)) (cases_kept us (environment S)) k.types in
    let rest = choices_keep S us vs r (record { types = t.2; usage = k.usage.1 }) in
    record { types = and_from _ _ (and_from _ _ (condition_kept S b c a t.0) t.1) rest.types; usage = (k.usage.0, rest.usage) }

pub choices_law : (S : List (Name × Kind)) (cs ds : Cases) → Keeps (environment S) (select cs) → CasesEqual (IsAlike S) cs ds
    → LAW 14 S (select cs) (select ds)
choices_law S cs ds k a = record { place = []; sides = expr_in_if cs ds (choices_equal S cs ds a); left = k; right = choices_keep S cs ds a k }

-- ---- guards

waiting_equal : (S : List (Name × Kind)) (v w : Waiting) → WaitingEqual (IsAlike S) v w → WaitingEqual (IsEqualAlways S) v w
waiting_equal S v w equal_ready = equal_ready
waiting_equal S v w equal_input = equal_input
waiting_equal S v w (equal_output a) = equal_output a.always

wait_kept : (S : List (Name × Kind)) (v w : Waiting) → WaitingEqual (IsAlike S) v w → waiting_kept (environment S) v ≡ true
    → waiting_kept (environment S) w ≡ true
wait_kept S v w equal_ready h = h
wait_kept S v w equal_input h = h
wait_kept S v w (equal_output {c = c} {e = e} {f = f} a) h =
    ap (λ t. allows (environment S c) Output && agree (channel_width (environment S) c) t) a.typed ∙ h

branches_equal : (S : List (Name × Kind)) (gs hs : Branches) → BranchesEqual (IsAlike S) gs hs → BranchesEqual (IsEqualAlways S) gs hs
branches_equal S gs hs no_equal_branch = no_equal_branch
branches_equal S gs hs (and_equal_branch {b = b} {c = c} {v = v} {w = w} {p = p} {gs = us} {hs = vs} a m k) =
    and_equal_branch a.always (waiting_equal S v w m) (branches_equal S us vs k)

branches_keep : (S : List (Name × Kind)) (gs hs : Branches) → BranchesEqual (IsAlike S) gs hs → Keeps (environment S) (alt gs) → Keeps (environment S) (alt hs)
branches_keep S gs hs no_equal_branch k = k
branches_keep S gs hs (and_equal_branch {b = b} {c = c} {v = v} {w = w} {p = p} {gs = us} {hs = vs} a m r) k =
    let t = and_four (is_condition (environment S) b) (waiting_kept (environment S) v) (types_kept p (environment S)) (branches_kept us (environment S)) k.types in
    let rest = branches_keep S us vs r (record { types = t.3; usage = k.usage.1 }) in
    record {
      types = and_from _ _ (and_from _ _ (and_from _ _ (condition_kept S b c a t.0) (wait_kept S v w m t.1)) t.2) rest.types;
      usage = (k.usage.0, rest.usage);
    }

pub branches_law : (S : List (Name × Kind)) (gs hs : Branches) → Keeps (environment S) (alt gs) → BranchesEqual (IsAlike S) gs hs
    → LAW 14 S (alt gs) (alt hs)
branches_law S gs hs k a = record { place = []; sides = expr_in_alt gs hs (branches_equal S gs hs a); left = k; right = branches_keep S gs hs a k }

-- ---- inputs and outputs

pub input_law : (S : List (Name × Kind)) (c x : ℕ) → Keeps (environment S) (receive c x)
    → LAW 15 S (receive c x) (alt (and_branch (truth true) (input c x) skip no_branch))
input_law S c x k = record {
  place = [];
  sides = input_alt c x;
  left = k;
  right = record { types = and_from _ _ (and_from _ _ (and_from _ _ refl k.types) refl) refl; usage = (tt, tt) };
}

pub output_law : (S : List (Name × Kind)) (c : ℕ) (e : Exp) → Keeps (environment S) (send c e)
    → LAW 15 S (send c e) (alt (and_branch (truth true) (output c e) skip no_branch))
output_law S c e k = record {
  place = [];
  sides = output_alt c e;
  left = k;
  right = record { types = and_from _ _ (and_from _ _ (and_from _ _ refl k.types) refl) refl; usage = (tt, tt) };
}

first_alone : (a : Bool) → ((a || false) || false) ≡ true → a ≡ true
first_alone true h = refl
first_alone false h = h

pub input_spares : (c x : ℕ) → UsesNoMore (alt (and_branch (truth true) (input c x) skip no_branch)) (receive c x)
input_spares c x = record {
  frees = λ y h. first_alone (y == c || y == x) h;
  writes = λ y h. first_alone (y == x) h;
  ends = λ b d h. first_alone (b == c && same_dir d Input) h;
}

pub output_spares : (c : ℕ) (e : Exp) → UsesNoMore (alt (and_branch (truth true) (output c e) skip no_branch)) (send c e)
output_spares c e = record {
  frees = λ y h. first_alone (y == c || names e y) h;
  writes = λ y h. first_alone false h;
  ends = λ b d h. first_alone (b == c && same_dir d Output) h;
}

-- ---- expressions that are alike

said_twice : (a : Bool) → (a || (a || false)) ≡ true → (a || false) ≡ true
said_twice true h = refl
said_twice false h = h

pub few_as : (S : List (Name × Kind)) (es fs : List Exp) → ((x : ℕ) → some_names es x ≡ true → some_names fs x ≡ true) → AreFew S fs → AreFew S es
few_as S es fs f few = let less = bits_more S es fs f in omega (arith, less, few)

few_twice : (S : List (Name × Kind)) (e f : Exp) → ((x : ℕ) → names f x ≡ names e x) → AreFew S (e ∷ []) → AreFew S (f ∷ e ∷ [])
few_twice S e f same few = few_as S (f ∷ e ∷ []) (e ∷ []) (λ x h. said_twice (names e x) (sym (ap (λ b. b || (names e x || false)) (same x)) ∙ h)) few

pub alike_itself : (S : List (Name × Kind)) (e : Exp) → AreFew S (e ∷ []) → IsAlike S e e
alike_itself S e few = record { always = record { few = few_twice S e e (λ x. refl) few; equal = λ s state. refl }; typed = refl }

and_true : (b : Bool) → bit_and 1 (one_if b) ≡ one_if b
and_true true = refl
and_true false = refl

pub conjunction_alike : (S : List (Name × Kind)) (b : Exp) → AreFew S (b ∷ []) → is_condition (environment S) b ≡ true
    → IsAlike S (operation And (truth true) b) b
conjunction_alike S b few h = record {
  always = record {
    few = few_twice S b (operation And (truth true) b) (λ x. refl) few;
    equal = λ s state.
        let bit = condition_bit (environment S) s state b h in
        ap (bit_and 1) bit ∙ and_true (is_true (environment S) b s) ∙ sym bit;
  };
  typed = condition_type (environment S) b h ∙ sym (ap (type_of_two And (Some TruthValue)) (condition_type (environment S) b h));
}
