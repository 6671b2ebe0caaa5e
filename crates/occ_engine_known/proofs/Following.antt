-- An order is followed by one move, or it has one lack.
use Rattle.std.proofs.Common.{◌≡◌, ◌∙◌, ◌⊎◌, inl, inr, ℕ, ◌+◌, List, length, Option, Some, None, ap, refl, sym, subst}
use Rattle.occ_engine.specs.occ_base.declared.names.Name.{Name}
use Rattle.occ_engine_known.proofs.Applying.{Makes, applied_once, applied_wanted, granted_once, none_some, same_some}
use Rattle.occ_engine_known.proofs.Chains.{Chain, and_link, never_barred, no_link, one_bar, one_chain}
use Rattle.occ_engine.specs.occ_replay_rules.Moves.{IsAdmitted, IsGranted, Move, Wish}
use Rattle.occ_engine.specs.occ_replay_rules.Orders.{Fails, Follows, IsFollowed, IsGiven, Lack, Order, Stops, and_order, direct_refused}
use Rattle.occ_engine.specs.occ_replay_rules.Orders.{given_refused, given_unjoined, no_direct, no_law, no_order, no_path, none_given, not_accepted}
use Rattle.occ_engine.specs.occ_replay_rules.Orders.{not_applicable, nowhere, part_given, unnamed}
use Rattle.occ_engine.specs.occ_meaning.Context.{part_at, put}
use Rattle.occ_engine.specs.occ_parse_part.Parts.{Part}
use Rattle.occ_engine.specs.occ_parse_part.Resolving.{part_fault, part_process}
use Rattle.occ_engine.specs.occ_script_lines.Places.{scope_list}
use Rattle.occ_engine.specs.occ_syntax.declared.scope.Kind.{Kind}
use Rattle.occ_engine.specs.occ_syntax.Tree.{Tree}

-- what an order asks for, where its law has that number
abbrev wish_of : Order → ℕ → Option Tree → Wish
wish_of order law wanted = record { law = law; dir = order.dir; path = order.path; wanted = wanted }

-- a given part has no fault in the scope there, and it may be put in
abbrev IsFaultless : List (Name × Kind) → Tree → Order → Part → Type 0
IsFaultless S p order part = part_fault part (scope_list order.path S p) ≡ None

abbrev IsFit : List (Name × Kind) → Tree → Order → Part → Type 0
IsFit S p order part = IsAdmitted S p order.path (part_process part (scope_list order.path S p))

-- ---- the part that an order gives

given_part : (S : List (Name × Kind)) (given : Option Part) (part : Part) (wanted : Option Tree) → given ≡ Some part
    → IsGiven S given wanted → (part_fault part S ≡ None) × (wanted ≡ Some (part_process part S))
given_part S given part wanted e none_given = absurd (none_some given part refl e)
given_part S given part wanted e (part_given other faultless) =
    let same : other ≡ part = cc in
    (subst (λ z. part_fault z S ≡ None) same faultless, ap (λ z. Some (part_process z S)) same)

given_none : (S : List (Name × Kind)) (given : Option Part) (wanted : Option Tree) → given ≡ None → IsGiven S given wanted → wanted ≡ None
given_none S given wanted e none_given = refl
given_none S given wanted e (part_given part faultless) = absurd (none_some given part e refl)

given_once : (S : List (Name × Kind)) (given : Option Part) (wanted other : Option Tree) → IsGiven S given wanted
    → IsGiven S given other → wanted ≡ other
given_once S given wanted other none_given h = sym (given_none S given other refl h)
given_once S given wanted other (part_given part faultless) h = sym (given_part S given part other refl h).1

-- ---- one move

-- where an order is followed, its law makes the new part of the one there
followed_by : (S : List (Name × Kind)) (p : Tree) (order : Order) (move : Move) (law : ℕ) (old : Tree) (wanted : Option Tree)
    → order.law ≡ Some law → part_at order.path p ≡ Some old → (f : IsFollowed S p order move) → f.wanted ≡ wanted
    → Makes S p (wish_of order law wanted) old move.part
followed_by S p order move law old wanted e g f w =
    subst (λ z. Makes S p (wish_of order law z) old move.part) w
    (subst (λ z. Makes S p (wish_of order law f.wanted) z move.part) (same_some _ f.granted.old old f.granted.there g)
    (subst (λ z. Makes S p (wish_of order z f.wanted) f.granted.old move.part) (same_some order.law move.law law f.named e)
    f.granted.applied))

followed_once : (S : List (Name × Kind)) (p : Tree) (order : Order) (a b : Move) → IsFollowed S p order a → IsFollowed S p order b → a ≡ b
followed_once S p order a b f g =
    let law = same_some order.law b.law a.law g.named f.named in
    let wanted = given_once _ order.part g.wanted f.wanted g.given f.given in
    granted_once S p (wish_of order a.law f.wanted) a b f.granted
    (subst (λ z. IsGranted S p (wish_of order z f.wanted) b) law (subst (λ z. IsGranted S p (wish_of order b.law z) b) wanted g.granted))

-- ---- one lack

-- an order that lacks something isn't followed
never_followed : (S : List (Name × Kind)) (p : Tree) (order : Order) (lack : Lack) (move : Move) → Fails S p order lack
    → IsFollowed S p order move → ⊥
never_followed S p order lack move (unnamed e) f = none_some order.law move.law e f.named
never_followed S p order lack move (nowhere law e g) f = none_some _ f.granted.old g f.granted.there
never_followed S p order lack move (given_refused law old part e g h bars) f =
    let w = given_part _ order.part part f.wanted h f.given in
    let a = applied_wanted order.dir law _ _ old move.part (followed_by S p order move law old _ e g f w.1) in
    bars w.0 (subst (IsAdmitted S p order.path) a.0 f.granted.admitted)
never_followed S p order lack move (given_unjoined law old part e g h faultless admitted bars) f =
    let w = given_part _ order.part part f.wanted h f.given in
    bars (applied_wanted order.dir law _ _ old move.part (followed_by S p order move law old _ e g f w.1)).1
never_followed S p order lack move (no_direct law old e g h bars) f =
    bars move.part (followed_by S p order move law old None e g f (given_none _ order.part f.wanted h f.given))
never_followed S p order lack move (direct_refused law old new e g h applied bars) f =
    let a = followed_by S p order move law old None e g f (given_none _ order.part f.wanted h f.given) in
    bars (subst (IsAdmitted S p order.path) (applied_once order.dir law _ None old move.part new a applied) f.granted.admitted)

-- what an order lacks, by its law, the part at its path and the part that it gives
abbrev Cause : List (Name × Kind) → Tree → Order → Option ℕ → Option Tree → Option Part → Lack → Type 0
Cause S p order None found given lack = lack ≡ no_law
Cause S p order (Some law) None given lack = lack ≡ no_path
Cause S p order (Some law) (Some old) (Some part) lack =
    ((lack ≡ not_accepted) × (IsFaultless S p order part → IsFit S p order part → ⊥))
    ⊎ ((lack ≡ not_applicable) × IsFaultless S p order part × IsFit S p order part)
Cause S p order (Some law) (Some old) None lack =
    ((lack ≡ not_applicable) × ((new : Tree) → Makes S p (wish_of order law None) old new → ⊥))
    ⊎ ((new : Tree) × (lack ≡ not_accepted) × Makes S p (wish_of order law None) old new)

-- what holds of the law, of that part and of the given one holds where they are known
known : (C : Option ℕ → Option Tree → Option Part → Type 0) {o n : Option ℕ} {found old : Option Tree} {given part : Option Part}
    → o ≡ n → found ≡ old → given ≡ part → C n old part → C o found given
known C {o} {n} {found} {old} {given} {part} e f g c =
    subst (λ z. C z found given) (sym e) (subst (λ z. C n z given) (sym f) (subst (λ z. C n old z) (sym g) c))

cause_of : (S : List (Name × Kind)) (p : Tree) (order : Order) (lack : Lack) → Fails S p order lack
    → Cause S p order order.law (part_at order.path p) order.part lack
cause_of S p order lack (unnamed e) = known (λ l o w. Cause S p order l o w no_law) e refl refl refl
cause_of S p order lack (nowhere law e f) = known (λ l o w. Cause S p order l o w no_path) e f refl refl
cause_of S p order lack (given_refused law old part e f g bars) =
    known (λ l o w. Cause S p order l o w not_accepted) e f g (inl (refl, bars))
cause_of S p order lack (given_unjoined law old part e f g faultless fit bars) =
    known (λ l o w. Cause S p order l o w not_applicable) e f g (inr (refl, faultless, fit))
cause_of S p order lack (no_direct law old e f g bars) = known (λ l o w. Cause S p order l o w not_applicable) e f g (inl (refl, bars))
cause_of S p order lack (direct_refused law old new e f g applied bars) =
    known (λ l o w. Cause S p order l o w not_accepted) e f g (inr (new, refl, applied))

one_cause : (S : List (Name × Kind)) (p : Tree) (order : Order) (law : Option ℕ) (found : Option Tree) (given : Option Part) (a b : Lack)
    → Cause S p order law found given a → Cause S p order law found given b → a ≡ b
one_cause S p order None found given a b x y = x ∙ sym y
one_cause S p order (Some law) None given a b x y = x ∙ sym y
one_cause S p order (Some law) (Some old) (Some part) a b (inl x) (inl y) = x.0 ∙ sym y.0
one_cause S p order (Some law) (Some old) (Some part) a b (inl x) (inr y) = absurd (x.1 y.1 y.2)
one_cause S p order (Some law) (Some old) (Some part) a b (inr x) (inl y) = absurd (y.1 x.1 x.2)
one_cause S p order (Some law) (Some old) (Some part) a b (inr x) (inr y) = x.0 ∙ sym y.0
one_cause S p order (Some law) (Some old) None a b (inl x) (inl y) = x.0 ∙ sym y.0
one_cause S p order (Some law) (Some old) None a b (inl x) (inr y) = absurd (x.1 y.0 y.2)
one_cause S p order (Some law) (Some old) None a b (inr x) (inl y) = absurd (y.1 x.0 x.2)
one_cause S p order (Some law) (Some old) None a b (inr x) (inr y) = x.1 ∙ sym y.1

-- an order has one lack
one_lack : (S : List (Name × Kind)) (p : Tree) (order : Order) (a b : Lack) → Fails S p order a → Fails S p order b → a ≡ b
one_lack S p order a b f g =
    one_cause S p order order.law (part_at order.path p) order.part a b (cause_of S p order a f) (cause_of S p order b g)

-- ---- orders

chain_of : (S : List (Name × Kind)) (p q : Tree) (orders : List Order) (moves : List Move) → Follows S p orders moves q
    → Chain (IsFollowed S) p orders moves q
chain_of S p q orders moves (no_order a) = no_link a
chain_of S p q orders moves (and_order a b order others move rest f further) =
    and_link a b order others move rest f (chain_of S (put move.path a move.part) b others rest further)

pub one_outcome : (S : List (Name × Kind)) (p q r : Tree) (orders : List Order) (moves others : List Move) → Follows S p orders moves q
    → Follows S p orders others r → (moves ≡ others) × (q ≡ r)
one_outcome S p q r orders moves others f g =
    one_chain (IsFollowed S) (followed_once S) p q r orders moves others (chain_of S p q orders moves f) (chain_of S p r orders others g)

-- an order can't be followed
abbrev IsLacking : List (Name × Kind) → Tree → Order → Type 0
IsLacking S p order = (lack : Lack) × Fails S p order lack

lacking_never : (S : List (Name × Kind)) (p : Tree) (order : Order) (move : Move) → IsLacking S p order → IsFollowed S p order move → ⊥
lacking_never S p order move l f = never_followed S p order l.0 move l.1 f

pub follow_or_stop : (S : List (Name × Kind)) (p q : Tree) (orders : List Order) (moves : List Move) (number : ℕ) (lack : Lack)
    → Follows S p orders moves q → Stops S p orders number lack → ⊥
follow_or_stop S p q orders moves number lack f s =
    never_barred (IsFollowed S) (IsLacking S) (followed_once S) (lacking_never S) p q s.here orders s.front s.rest s.order moves s.moves
    (chain_of S p q orders moves f) s.parts (chain_of S p s.here s.front s.moves s.followed) (lack, s.fails)

pub one_stop : (S : List (Name × Kind)) (p : Tree) (orders : List Order) (n m : ℕ) (a b : Lack) → Stops S p orders n a
    → Stops S p orders m b → (n ≡ m) × (a ≡ b)
one_stop S p orders n m a b s t = (
  s.number_is ∙ ap (λ z. length z + 1) k.0 ∙ sym t.number_is,
  one_lack S t.here t.order a b (subst (λ z. Fails S t.here z a) k.2 (subst (λ z. Fails S z s.order a) k.1 s.fails)) t.fails,
)
  where
    k : (s.front ≡ t.front) × (s.here ≡ t.here) × (s.order ≡ t.order)
    k = one_bar (IsFollowed S) (IsLacking S) (followed_once S) (lacking_never S) p s.here t.here s.front t.front s.rest t.rest s.order
        t.order s.moves t.moves (sym s.parts ∙ t.parts) (chain_of S p s.here s.front s.moves s.followed)
        (chain_of S p t.here t.front t.moves t.followed) (a, s.fails) (b, t.fails)
