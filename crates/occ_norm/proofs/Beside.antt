-- The maps of the parts of a PAR, one by one.
use Rattle.std.proofs.Common.{◌≡◌, ℕ, ◌+◌, ◌<◌, ◌≤◌, true, List, [], ◌∷◌, ◌++◌, length, get_or, ⊎_elim, sym, ap, ◌∙◌, subst, arith}
use Rattle.std.proofs.lemmas.Bool.{cases_lt}
use Rattle.std.proofs.lemmas.List.{get_or_append_left, get_or_push, length-append}
use Rattle.occ_syntax.specs.occ_base.declared.names.Name.{Name}
use Rattle.occ_syntax.specs.occ_base.declared.width.Width.{Width}
use Rattle.occ_compare.specs.occ_mdd.declared.map.MapId.{MapId}
use Rattle.occ_compare.specs.occ_node.declared.world.World.{World}
use Rattle.occ_norm_alt.specs.occ_follow.Sequence.{HasNodes}
use Rattle.occ_norm_alt.specs.occ_norm_frame.Maps.{Extends}
use Rattle.occ_norm_alt.proofs.from_norm_frame.Worlds.{has_nodes-extends}
use Rattle.occ_syntax.specs.Scopes.{Environment}
use Rattle.occ_syntax.specs.Tree.{par}
use Rattle.occ_syntax.specs.Types.{all_types_kept}
use Rattle.occ_syntax.specs.Usage.{AreSeparate}
use Rattle.occ_syntax.specs.View.{tree, trees}
use Rattle.occ_syntax.specs.declared.proc.Proc.{Proc, Skip}
use Rattle.occ_syntax.specs.declared.scope.Kind.{Kind}
use Rattle.occ_norm_alt.specs.occ_norm_frame.Alone.{IsPart, except}
use Rattle.occ_norm_alt.specs.occ_norm_frame.Placed.{IsAround}
use Rattle.occ_norm_alt.specs.occ_norm_frame.declared.frame.Frame.{Frame}
use Rattle.occ_norm_alt.proofs.from_norm_frame.Alone.{alone_later}
use Rattle.occ_norm_par.specs.Sides.{AllWritten, AreUsers, bits_in, closed_in}
use Rattle.occ_norm_par.specs.Joined.{AreOfParts, HaveNodes, IsJoined, no_map}
use Rattle.occ_norm_par.proofs.Using.{users_spread}
use Rattle.occ_norm_par.proofs.Writing.{write_all}
use Rattle.occ_norm_par.specs.declared.parallel.Sides.{Sides}
use Rattle.occ_norm_par.specs.declared.users.Users.{Users}

-- the map of the part in a place
abbrev pub PartAt : World → List (Name × Width × ℕ) → ℕ → List Users → List ℕ → Environment → ℕ → Proc → MapId → Type 0
PartAt w layout all users writes Γ n p m = IsPart w layout all (except all (get_or writes n 0)) (closed_in n (n + 1) users) Γ (tree p) m

-- the first n maps are those of the first n parts
abbrev pub AreMade : World → List (Name × Kind) → List (Name × Width × ℕ) → ℕ → List Users → List ℕ → ℕ → List Proc → List MapId → Type 0
AreMade w vars layout all users writes n ps maps = (Γ : Environment) → IsAround Γ vars → all_types_kept (trees ps) Γ ≡ true
    → (i : ℕ) → i < n → PartAt w layout all users writes Γ i (get_or ps i Skip) (get_or maps i no_map)

module _ (v u : World) (grow : Extends v u) (maps : List MapId) (m : MapId) (n : ℕ) (count : length maps ≡ n) (have : HaveNodes v maps) where
  pub nodes_more : HasNodes u m → HaveNodes u (maps ++ m ∷ [])
  nodes_more has i l = ⊎_elim
      (λ (k : i < n). let low : i < length maps = omega (arith, k, count) in subst (HasNodes u) (sym (get_or_append_left maps (m ∷ []) no_map i low)) (has_nodes-extends v u grow (get_or maps i no_map) (have i low)))
      (λ (k : n ≤ i).
      let whole : length (maps ++ m ∷ []) ≡ length maps + 1 = length-append maps (m ∷ []) in
      let last : length maps ≡ i = omega (arith, k, count, l, whole) in
      subst (HasNodes u) (sym (get_or_push maps m no_map i last)) has)
      (cases_lt i n)

  pub made_more : (vars : List (Name × Kind)) (layout : List (Name × Width × ℕ)) (all : ℕ) (users : List Users) (writes : List ℕ) (ps : List Proc)
      → AreMade v vars layout all users writes n ps maps
      → ((Γ : Environment) → IsAround Γ vars → all_types_kept (trees ps) Γ ≡ true → PartAt u layout all users writes Γ n (get_or ps n Skip) m)
      → AreMade u vars layout all users writes (n + 1) ps (maps ++ m ∷ [])
  made_more vars layout all users writes ps made new Γ around types i l = ⊎_elim
      (λ (k : i < n).
      let low : i < length maps = omega (arith, k, count) in
      subst (λ (a : MapId). PartAt u layout all users writes Γ i (get_or ps i Skip) a) (sym (get_or_append_left maps (m ∷ []) no_map i low))
      (alone_later v u grow (get_or maps i no_map) (have i low) layout all (except all (get_or writes i 0)) (closed_in i (i + 1) users) Γ (tree (get_or ps i Skip)) (made Γ around types i k)))
      (λ (k : n ≤ i).
      let same : n ≡ i = omega (arith, k, l) in
      let last : length maps ≡ i = omega (arith, count, same) in
      subst (λ (a : MapId). PartAt u layout all users writes Γ i (get_or ps i Skip) a) (sym (get_or_push maps m no_map i last))
      (subst (λ (n : ℕ). PartAt u layout all users writes Γ n (get_or ps n Skip) m) same (new Γ around types)))
      (cases_lt i n)

-- all of them are made
pub all_made : (w : World) (vars : List (Name × Kind)) (layout : List (Name × Width × ℕ)) (all : ℕ) (users : List Users) (writes : List ℕ) (n : ℕ) (ps : List Proc) (maps given : List MapId) → given ≡ maps → n ≡ length ps
    → AreMade w vars layout all users writes n ps maps → (Γ : Environment) → IsAround Γ vars → all_types_kept (trees ps) Γ ≡ true → AreOfParts w layout all users writes Γ 0 ps given
all_made w vars layout all users writes n ps maps given same whole made Γ around types i l =
    let low : i ≡ 0 + i = omega arith in
    subst (λ (ms : List MapId). PartAt w layout all users writes Γ (0 + i) (get_or ps i Skip) (get_or ms i no_map)) (sym same)
    (subst (λ (k : ℕ). PartAt w layout all users writes Γ k (get_or ps i Skip) (get_or maps i no_map)) low (made Γ around types i (omega (arith, l, whole))))

-- and so they are joined
pub parts_after : (w x : World) (frame : Frame) (sides : Sides) (n : ℕ) (ps : List Proc) (maps given : List MapId) (closed : List Name) (r : MapId) → given ≡ maps → length maps ≡ n → n ≡ length ps
    → AreSeparate (trees ps) → AreUsers (trees ps) closed sides.users.items → AllWritten frame.layout ps sides.writes.items
    → AreMade w frame.vars frame.layout sides.all sides.users.items sides.writes.items n ps maps → IsJoined sides 0 given w x r
    → (Γ : Environment) → IsAround Γ frame.vars → all_types_kept (trees ps) Γ ≡ true
    → IsPart x frame.layout sides.all (except sides.all (bits_in sides.writes.items 0 (length ps))) (closed_in 0 (length ps) sides.users.items) Γ (par (trees ps)) r
parts_after w x frame sides n ps maps given closed r same count whole separate are written made joins Γ around types =
    let users = sides.users.items in
    let writes = sides.writes.items in
    let high : 0 + length ps ≡ length ps = omega arith in
    subst (λ (k : ℕ). IsPart x frame.layout sides.all (except sides.all (bits_in writes 0 (length ps))) (closed_in 0 k users) Γ (par (trees ps)) r) high
    (joins.joined frame Γ ps (ap length same ∙ count ∙ whole) around types separate (users_spread (trees ps) users are.each) (write_all frame.layout writes ps written)
    (all_made w frame.vars frame.layout sides.all users writes n ps maps given same whole made Γ around types))
