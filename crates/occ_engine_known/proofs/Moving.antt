-- Moves that bring in known names alone lead to processes of known names.
use Rattle.std.proofs.Common.{◌≡◌, ℕ, true, ◌&&◌, List, [], ◌∷◌, ◌++◌, Option, Some, None, refl, ap, ◌∙◌}
use Rattle.std.specs.List.{AllByRecursion}
use Rattle.std.proofs.lemmas.Bool.{and_parts, and_from}
use Rattle.occ_engine.specs.occ_base.declared.names.Name.{Name}
use Rattle.occ_engine_known.specs.Given.{AllGiveBelow, GivesBelow}
use Rattle.occ_engine_known.specs.Known.{IsKnownPart, LeadToKnown, NamesAreBelow}
use Rattle.occ_engine_known.proofs.Direct.{direct_pass}
use Rattle.occ_engine_known.proofs.Keeping.{kept_known}
use Rattle.occ_engine_known.proofs.Putting.{part_pass, put_pass, scope_pass}
use Rattle.occ_engine.proofs.from_replay_rules.Moving.{granted_moves}
use Rattle.occ_engine.specs.occ_replay_rules.Expansion.{Grants, IsExpanded, and_wish, expanding, forward, no_wish, par_expand, preparing, sequencing, wrapping}
use Rattle.occ_engine.specs.occ_replay_rules.Moves.{IsApplied, IsGranted, IsMove, Move, Wish}
use Rattle.occ_engine.specs.occ_replay_rules.Orders.{Follows, IsGiven, Order, and_order, no_order}
use Rattle.occ_engine.specs.occ_meaning.Context.{put}
use Rattle.occ_engine.specs.occ_meaning.Parallel.{two}
use Rattle.occ_engine.specs.occ_parse.Known.{declares, is_below}
use Rattle.occ_engine.specs.occ_replay_rules.Steps.{Joins}
use Rattle.occ_engine.proofs.from_script_lines.Scoping.{scopes}
use Rattle.occ_engine.specs.occ_script_lines.declared.direction.Direction.{Direction}
use Rattle.occ_engine.specs.occ_script_lines.declared.direction.Direction.TheVariants as direction
use Rattle.occ_engine.specs.occ_script_lines.Places.{scope_list}
use Rattle.occ_engine.specs.occ_syntax.declared.scope.Kind.{Kind}
use Rattle.occ_engine.specs.occ_syntax.Scopes.{environment}
use Rattle.occ_engine.specs.occ_syntax.Tree.{Tree, skip, stop, assign, receive, send, seq, par, select, alt, declare, connect, Trees, no_tree, and_tree}
use Rattle.occ_engine.specs.occ_syntax.Types.{scope_kept, types_kept}
use Rattle.occ_engine.specs.occ_syntax.Usage.{Keeps}

joined_keeps : (dir : Direction) (n : ℕ) (S : List (Name × Kind)) (old new : Tree) → Joins dir n S old new → Keeps (environment S) new
joined_keeps direction.Forward n S old new j = j.right
joined_keeps direction.Backward n S old new j = j.left

module _ (n : ℕ) (S : List (Name × Kind)) (kept : scope_kept S ≡ true) where
  abbrev Pass : Tree → Type 0
  Pass p = declares (is_below n) p ≡ true

  -- the names that the wanted part declares are below n, where one is wanted
  abbrev Wanted : Option Tree → Type 0
  Wanted None = Unit {0}
  Wanted (Some p) = Pass p

  applied_pass : (dir : Direction) (law : ℕ) (T : List (Name × Kind)) (wanted : Option Tree) (old new : Tree) → Wanted wanted → Pass old
      → IsApplied dir law T wanted old new → Pass new
  applied_pass direction.Forward law T (Some part) old new w h a = ap (declares (is_below n)) a.0 ∙ w
  applied_pass direction.Backward law T (Some part) old new w h a = ap (declares (is_below n)) a.0 ∙ w
  applied_pass direction.Forward law T None old new w h a = direct_pass (is_below n) law T old new a h
  applied_pass direction.Backward law T None old new w h a = absurd a

  -- what moves are made from
  record IsSource (p : Tree) : Type 0 where
    types : types_kept p (environment S) ≡ true
    names : NamesAreBelow n S p

  -- a move that leads to another such process
  record IsGood (p : Tree) (move : Move) : Type 0 where
    part : IsKnownPart n (scope_list move.path S p) move.part
    further : IsSource (put move.path p move.part)

  granted_good : (p : Tree) (wish : Wish) (move : Move) → IsSource p → Wanted wish.wanted → IsGranted S p wish move → IsGood p move
  granted_good p wish move s w g =
      let m : IsMove S p move = granted_moves S p wish move g in
      let old : Pass g.old = part_pass (is_below n) wish.path p g.old g.there s.names.declared in
      let new : Pass move.part = applied_pass wish.dir wish.law (scope_list wish.path S p) wish.wanted g.old move.part w old g.applied in
      let T = scope_list move.path S p in
      let keeps : Keeps (environment T) move.part = joined_keeps move.dir move.law T m.old move.part m.joins in
      record {
        part = kept_known n T move.part (scopes move.path S p kept s.types).kept keeps.types (record {
          scope_names = scope_pass (is_below n) move.path S p s.names.scope_names s.names.declared;
          declared = new;
        });
        further = record {
          types = m.admitted.keeps.types;
          names = record { scope_names = s.names.scope_names; declared = put_pass (is_below n) move.path p move.part s.names.declared new };
        };
      }

  none_further : (p : Tree) → IsSource p → LeadToKnown n S p [] p
  none_further p s = record { moves_are = tt; result = kept_known n S p kept s.types s.names; names = s.names }

  one_further : (p q : Tree) (move : Move) (moves : List Move) → IsGood p move → LeadToKnown n S (put move.path p move.part) moves q
      → LeadToKnown n S p (move ∷ moves) q
  one_further p q move moves g l = record { moves_are = (g.part, l.moves_are); result = l.result; names = l.names }

  -- ---- orders

  given_wanted : (T : List (Name × Kind)) (order : Order) (wanted : Option Tree) → GivesBelow n order → IsGiven T order.part wanted
      → Wanted wanted
  given_wanted T order None f g = tt
  given_wanted T order (Some p) f g = f T p g

  followed_known : (p q : Tree) (orders : List Order) (moves : List Move) → AllGiveBelow n orders → IsSource p → Follows S p orders moves q
      → LeadToKnown n S p moves q
  followed_known p q orders moves f s (no_order a) = none_further a s
  followed_known p q orders moves f s (and_order a b order others move rest followed further) =
      let wish : Wish = record { law = move.law; dir = order.dir; path = order.path; wanted = followed.wanted } in
      let g =
      granted_good a wish move s (given_wanted (scope_list order.path S a) order followed.wanted f.0 followed.given) followed.granted in
      one_further a b move rest g (followed_known (put move.path a move.part) b others rest f.1 g.further further)

  -- ---- an expansion

  abbrev AllWanted : List Wish → Type 0
  AllWanted wishes = AllByRecursion (λ (w : Wish). Wanted w.wanted) wishes

  granted_known : (p q : Tree) (wishes : List Wish) (moves : List Move) → AllWanted wishes → IsSource p → Grants S p wishes moves q
      → LeadToKnown n S p moves q
  granted_known p q wishes moves f s (no_wish a) = none_further a s
  granted_known p q wishes moves f s (and_wish a b wish others move rest granted further) =
      let g = granted_good a wish move s f.0 granted in
      one_further a b move rest g (granted_known (put move.path a move.part) b others rest f.1 g.further further)

  wrapping_wanted : (path : List ℕ) (p : Tree) → Pass p → AllWanted (wrapping path p)
  wrapping_wanted path p h = (and_from (declares (is_below n) p) true h refl, tt)

  sequencing_wanted : (path : List ℕ) (ps : Trees) → Pass (seq ps) → AllWanted (sequencing path ps)
  sequencing_wanted path no_tree h = wrapping_wanted path (seq no_tree) h
  sequencing_wanted path (and_tree (receive c x) ps) h = (tt, (tt, tt))
  sequencing_wanted path (and_tree (send c e) ps) h = (tt, (tt, tt))
  sequencing_wanted path (and_tree (alt gs) ps) h = (tt, tt)
  sequencing_wanted path (and_tree skip ps) h = wrapping_wanted path (seq (and_tree skip ps)) h
  sequencing_wanted path (and_tree stop ps) h = wrapping_wanted path (seq (and_tree stop ps)) h
  sequencing_wanted path (and_tree (assign xs es) ps) h = wrapping_wanted path (seq (and_tree (assign xs es) ps)) h
  sequencing_wanted path (and_tree (seq qs) ps) h = wrapping_wanted path (seq (and_tree (seq qs) ps)) h
  sequencing_wanted path (and_tree (par qs) ps) h = wrapping_wanted path (seq (and_tree (par qs) ps)) h
  sequencing_wanted path (and_tree (select cs) ps) h = wrapping_wanted path (seq (and_tree (select cs) ps)) h
  sequencing_wanted path (and_tree (declare x w p) ps) h = wrapping_wanted path (seq (and_tree (declare x w p) ps)) h
  sequencing_wanted path (and_tree (connect c w p) ps) h = wrapping_wanted path (seq (and_tree (connect c w p) ps)) h

  preparing_wanted : (path : List ℕ) (p : Tree) → Pass p → AllWanted (preparing path p)
  preparing_wanted path (alt gs) h = tt
  preparing_wanted path (receive c x) h = (tt, tt)
  preparing_wanted path (send c e) h = (tt, tt)
  preparing_wanted path (seq ps) h = sequencing_wanted path ps h
  preparing_wanted path skip h = wrapping_wanted path skip h
  preparing_wanted path stop h = wrapping_wanted path stop h
  preparing_wanted path (assign xs es) h = wrapping_wanted path (assign xs es) h
  preparing_wanted path (par ps) h = wrapping_wanted path (par ps) h
  preparing_wanted path (select cs) h = wrapping_wanted path (select cs) h
  preparing_wanted path (declare x w p) h = wrapping_wanted path (declare x w p) h
  preparing_wanted path (connect c w p) h = wrapping_wanted path (connect c w p) h

  both_wanted : (ws vs : List Wish) → AllWanted ws → AllWanted vs → AllWanted (ws ++ vs)
  both_wanted [] vs h k = k
  both_wanted (w ∷ ws) vs h k = (h.0, both_wanted ws vs h.1 k)

  expanding_wanted : (path : List ℕ) (p q : Tree) → Pass p → Pass q → AllWanted (expanding path p q)
  expanding_wanted path p q h k =
      both_wanted (preparing (path ++ 0 ∷ []) p) (preparing (path ++ 1 ∷ []) q ++ forward par_expand path ∷ [])
      (preparing_wanted (path ++ 0 ∷ []) p h)
      (both_wanted (preparing (path ++ 1 ∷ []) q) (forward par_expand path ∷ []) (preparing_wanted (path ++ 1 ∷ []) q k) (tt, tt))

  expanded_known : (p q : Tree) (path : List ℕ) (moves : List Move) → IsSource p → IsExpanded S p path moves q → LeadToKnown n S p moves q
  expanded_known p q path moves s e =
      let both : Pass (par (two e.first e.second)) = part_pass (is_below n) path p (par (two e.first e.second)) e.there s.names.declared in
      let a = and_parts (declares (is_below n) e.first) (declares (is_below n) e.second && true) both in
      let second = (and_parts (declares (is_below n) e.second) true a.1).0 in
      granted_known p q (expanding path e.first e.second) moves (expanding_wanted path e.first e.second a.0 second) s e.granted

pub orders_known : (n : ℕ) (S : List (Name × Kind)) (p q : Tree) (orders : List Order) (moves : List Move) → scope_kept S ≡ true
    → Keeps (environment S) p
    → NamesAreBelow n S p → AllGiveBelow n orders → Follows S p orders moves q → LeadToKnown n S p moves q
orders_known n S p q orders moves h k names f l = followed_known n S h p q orders moves f (record { types = k.types; names = names }) l

pub expansions_known : (n : ℕ) (S : List (Name × Kind)) (p q : Tree) (path : List ℕ) (moves : List Move) → scope_kept S ≡ true
    → Keeps (environment S) p
    → NamesAreBelow n S p → IsExpanded S p path moves q → LeadToKnown n S p moves q
expansions_known n S p q path moves h k names e = expanded_known n S h p q path moves (record { types = k.types; names = names }) e
