-- The laws of IF and of ALT: a left side has one right side at one place.
use Rattle.std.proofs.Common.{◌≡◌, List, refl, ap}
use Rattle.occ_law.specs.occ_base.declared.names.Name.{Name}
use Rattle.occ_law_sound.proofs.Fronts.{IsOnce, alt_parts, heads_are, if_parts, one_branch_front, tails_are}
use Rattle.occ_law.specs.Choice.{AltCase, AltFalse, AltFlat, AltLeast, AltNone, AltSame, AltSkip, AltSlide, AltSplit, AltTwice}
use Rattle.occ_law.specs.Choice.{IfCut, IfElseStop, IfFalse, IfMerge, IfNest, IfNone, IfSwap, IfTrue}
use Rattle.occ_law.specs.Choice.{alt_case, alt_false, alt_flat, alt_least, alt_none, alt_same, alt_skip, alt_slide, alt_split}
use Rattle.occ_law.specs.Choice.{alt_twice}
use Rattle.occ_law.specs.Choice.{if_cut, if_else_stop, if_false, if_merge, if_nest, if_none, if_swap, if_true}
use Rattle.occ_law.specs.Lists.{tally}
use Rattle.occ_law.specs.occ_syntax.Tree.{and_branch}
use Rattle.occ_law.specs.occ_syntax.declared.scope.Kind.{Kind}

-- ---- IF

pub if_none_once : IsOnce IfNone
if_none_once ks js l m r s e if_none if_none = (refl, λ n. refl)

pub if_false_once : (S : List (Name × Kind)) → IsOnce (IfFalse S)
if_false_once S ks js l m r s e (if_false cs ds b p _ _) (if_false es fs c q _ _) = (refl, λ n. if_parts cs es _ _ n e (λ f g. cc))

pub if_true_once : (S : List (Name × Kind)) → IsOnce (IfTrue S)
if_true_once S ks js l m r s e (if_true b p ds _ _) (if_true c q es _ _) = (refl, λ n. cc)

pub if_else_stop_once : IsOnce IfElseStop
if_else_stop_once ks js l m r s e (if_else_stop cs) (if_else_stop es) = (refl, λ n. if_parts cs es _ _ n e (λ f g. cc))

pub if_cut_once : (S : List (Name × Kind)) → IsOnce (IfCut S)
if_cut_once S ks js l m r s e (if_cut cs ds _ _) (if_cut es fs _ _) = (refl, λ n. if_parts cs es _ _ n e (λ f g. cc))

pub if_nest_once : IsOnce IfNest
if_nest_once ks js l m r s e (if_nest cs es ds b) (if_nest fs gs hs c) = (refl, λ n. if_parts cs fs _ _ n e (λ f g. cc))

pub if_swap_once : (S : List (Name × Kind)) → IsOnce (IfSwap S)
if_swap_once S ks js l m r s e (if_swap cs ds b c p q _ _) (if_swap es fs d h u v _ _) = (refl, λ n. if_parts cs es _ _ n e (λ f g. cc))

pub if_merge_once : IsOnce IfMerge
if_merge_once ks js l m r s e (if_merge cs ds b c p) (if_merge es fs d h q) = (refl, λ n. if_parts cs es _ _ n e (λ f g. cc))

-- ---- ALT

pub alt_none_once : IsOnce AltNone
alt_none_once ks js l m r s e alt_none alt_none = (refl, λ n. refl)

pub alt_false_once : (S : List (Name × Kind)) → IsOnce (AltFalse S)
alt_false_once S ks js l m r s e (alt_false gs hs b w p _ _) (alt_false is os c v q _ _) = (refl, λ n. alt_parts gs is _ _ n e (λ f g. cc))

pub alt_twice_once : IsOnce AltTwice
alt_twice_once ks js l m r s e (alt_twice gs hs ts b w p) (alt_twice is os us c v q) = (
  refl,
  λ n. alt_parts gs is _ _ n e (λ f g.
      let k = one_branch_front hs os (and_branch b w p ts) (and_branch c v q us) (heads_are (tails_are n)) (cc) in
      let h : hs ≡ os = k.0 in
      let i : and_branch b w p ts ≡ and_branch c v q us = k.1 in cc),
)

pub alt_skip_once : IsOnce AltSkip
alt_skip_once ks js l m r s e (alt_skip p) (alt_skip q) = (refl, λ n. cc)

pub alt_case_once : IsOnce AltCase
alt_case_once ks js l m r s e (alt_case gs hs b w p) (alt_case is os c v q) = (refl, λ n. alt_parts gs is _ _ n e (λ f g. cc))

pub alt_flat_once : IsOnce AltFlat
alt_flat_once ks js l m r s e (alt_flat gs hs ts _) (alt_flat is os us _) = (refl, λ n. alt_parts gs is _ _ n e (λ f g. cc))

pub alt_split_once : IsOnce AltSplit
alt_split_once ks js l m r s e (alt_split gs hs ts w p q _) (alt_split is os us v t u _) = (refl, λ n. alt_parts gs is _ _ n e (λ f g. cc))

pub alt_same_once : IsOnce AltSame
alt_same_once ks js l m r s e (alt_same gs hs ts b w p q _) (alt_same is os us c v t u _) = (
  refl,
  λ n. alt_parts gs is _ _ n e (λ f g.
      let k = one_branch_front hs os (and_branch b w q ts) (and_branch c v u us) (heads_are (tails_are n)) (cc) in
      let h : hs ≡ os = k.0 in
      let i : and_branch b w q ts ≡ and_branch c v u us = k.1 in cc),
)

pub alt_slide_once : IsOnce AltSlide
alt_slide_once ks js l m r s e (alt_slide gs hs _) (alt_slide is os _) = (refl, λ n. alt_parts gs is _ _ n e (λ f g. cc))

pub alt_least_once : IsOnce AltLeast
alt_least_once ks js l m r s e (alt_least gs hs _ _) (alt_least is os _ _) = (
  refl,
  λ n.
      let f : gs ≡ is = cc in
      let h : hs ≡ os = (one_branch_front gs is hs os (ap tally f) (cc)).1 in cc,
)
