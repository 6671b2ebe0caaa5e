-- Moves made one after the other, each for one item of a list: for orders or for wishes.
use Rattle.std.proofs.Common.{◌≡◌, List, [], ◌∷◌, ◌++◌, refl, subst}
use Rattle.occ_engine.specs.occ_replay_rules.Moves.{Move}
use Rattle.occ_engine.specs.occ_meaning.Context.{put}
use Rattle.occ_engine.specs.occ_syntax.Tree.{Tree}

pub data Chain {A : Type 0} (Link : Tree → A → Move → Type 0) : Tree → List A → List Move → Tree → Type 0 where
  no_link : (p : Tree) → Chain Link p [] [] p
  and_link : (p q : Tree) (x : A) (xs : List A) (move : Move) (moves : List Move) → Link p x move
      → Chain Link (put move.path p move.part) xs moves q → Chain Link p (x ∷ xs) (move ∷ moves) q

-- there is one move for an item
abbrev pub IsOneMove : {A : Type 0} → (Tree → A → Move → Type 0) → Type 0
IsOneMove {A} Link = (p : Tree) (x : A) (a b : Move) → Link p x a → Link p x b → a ≡ b

-- where an item is barred there is no move for it
abbrev pub IsBar : {A : Type 0} → (Tree → A → Move → Type 0) → (Tree → A → Type 0) → Type 0
IsBar {A} Link Bar = (p : Tree) (x : A) (move : Move) → Bar p x → Link p x move → ⊥

-- a list has one chain from a process, to one process
pub one_chain : {A : Type 0} (Link : Tree → A → Move → Type 0) → IsOneMove Link → (p q r : Tree) (xs : List A) (moves others : List Move)
    → Chain Link p xs moves q → Chain Link p xs others r → (moves ≡ others) × (q ≡ r)
one_chain Link one p q r xs moves others (no_link a) (no_link b) = (refl, refl)
one_chain Link one p q r xs moves others (and_link a b x ys m ms h c) (and_link d e y zs n ns k f) =
    let same : n ≡ m = one a x n m k h in
    let rest = one_chain Link one (put m.path a m.part) b e ys ms ns c (subst (λ z. Chain Link (put z.path a z.part) ys ns e) same f) in
    let g : ms ≡ ns = rest.0 in ((cc), rest.1)

-- what a chain does up to an item of its list, and there
record Cut {A : Type 0} (Link : Tree → A → Move → Type 0) (p : Tree) (front : List A) (x : A) : Type 0 where
  pub moves : List Move
  pub here : Tree
  pub move : Move
  pub chain : Chain Link p front moves here
  pub link : Link here x move

cut : {A : Type 0} (Link : Tree → A → Move → Type 0) (p q : Tree) (front rest : List A) (x : A) (moves : List Move)
    → Chain Link p (front ++ x ∷ rest) moves q → Cut Link p front x
cut Link p q [] rest x moves (and_link a b y ys m ms h c) = record { moves = []; here = p; move = m; chain = no_link p; link = h }
cut Link p q (f ∷ front) rest x moves (and_link a b y ys m ms h c) =
    let k = cut Link (put m.path p m.part) b front rest x ms c in
    record { moves = m ∷ k.moves; here = k.here; move = k.move; chain = and_link p k.here f front m k.moves h k.chain; link = k.link }

-- no item of a list that has a chain is barred where the chain comes to it
pub never_barred : {A : Type 0} (Link : Tree → A → Move → Type 0) (Bar : Tree → A → Type 0) → IsOneMove Link → IsBar Link Bar
    → (p q here : Tree) (xs front rest : List A) (x : A) (moves ways : List Move) → Chain Link p xs moves q → xs ≡ front ++ x ∷ rest
    → Chain Link p front ways here → Bar here x → ⊥
never_barred Link Bar one bars p q here xs front rest x moves ways c e d b =
    let k = cut Link p q front rest x moves (subst (λ z. Chain Link p z moves q) e c) in
    bars k.here x k.move (subst (λ z. Bar z x) (one_chain Link one p here k.here front ways k.moves d k.chain).1 b) k.link

-- two chains that come to a barred item come to one item by one way
pub one_bar : {A : Type 0} (Link : Tree → A → Move → Type 0) (Bar : Tree → A → Type 0) → IsOneMove Link → IsBar Link Bar
    → (p here there : Tree) (front other rest more : List A) (x y : A) (moves ways : List Move) → front ++ x ∷ rest ≡ other ++ y ∷ more
    → Chain Link p front moves here → Chain Link p other ways there → Bar here x → Bar there y → (front ≡ other) × (here ≡ there) × (x ≡ y)
one_bar Link Bar one bars p here there [] [] rest more x y moves ways e (no_link a) (no_link b) k l = (refl, refl, cc)
one_bar Link Bar one bars p here there [] (o ∷ other) rest more x y moves ways e (no_link a) (and_link b c z zs m ms h d) k l =
    let same : x ≡ o = cc in absurd (bars p o m (subst (λ z. Bar p z) same k) h)
one_bar Link Bar one bars p here there (f ∷ front) [] rest more x y moves ways e (and_link b c z zs m ms h d) (no_link a) k l =
    let same : y ≡ f = cc in absurd (bars p f m (subst (λ z. Bar p z) same l) h)
one_bar Link Bar one bars p here there (f ∷ front) (o ∷ other) rest more x y ms ns e (and_link a b u s m us h c) (and_link d g v t n vs i j) k l =
    let same : o ≡ f = cc in
    let move : n ≡ m = one p f n m (subst (λ z. Link p z n) same i) h in
    let r = one_bar Link Bar one bars (put m.path p m.part) here there front other rest more x y us vs (cc) c
    (subst (λ z. Chain Link (put z.path p z.part) other vs there) move j) k l in
    let g : front ≡ other = r.0 in ((cc), r.1, r.2)
