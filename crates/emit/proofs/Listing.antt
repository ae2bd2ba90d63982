-- What comes of a list one element after another, and of a list of lists.
use Rattle.std.proofs.Common.{◌≡◌, ◌∙◌, ◌<◌, ◌+◌, ◌||◌, ◌&&◌, not, ℕ, Bool, true, false, cond, if◌then◌else◌, List, [], ◌∷◌, ◌++◌, length, drop, filter, get_or, Bor, append_assoc, refl, sym, ap}
use Rattle.std.proofs.lemmas.Grind.{flat_map-append}
use Rattle.std.proofs.lemmas.List.{at_drop_more}
use Rattle.std.specs.List.{flat_map, list_any}
use Rattle.std.specs.Str.{bytes_eq}
use Rattle.lto_task.specs.declared.piece.Piece.{Piece}
use Rattle.emit.specs.Chosen.{due, is_of, line_due, unit_due}
use Rattle.emit.specs.Graphs.{is_key}
use Rattle.emit.specs.Joins.{line_in_use}
use Rattle.emit.specs.declared.order.Group.{Group}

-- one element further
pub one_done : {X A : Type 0} (f : X → List A) (done whole : List A) (xs : List X) (i : ℕ) (x d : X) → i < length xs → x ≡ get_or xs i d → done ++ flat_map f (drop i xs) ≡ whole
    → (done ++ f x) ++ flat_map f (drop (i + 1) xs) ≡ whole
one_done {X} {A} f done whole xs i x d lt is so_far =
    append_assoc done (f x) (flat_map f (drop (i + 1) xs))
    ∙ ap (λ (l : List A). done ++ l) (sym (at_drop_more (flat_map f) xs i d lt ∙ ap (λ (y : X). f y ++ flat_map f (drop (i + 1) xs)) (sym is)))
    ∙ so_far

-- ---- lists of lists

-- a list of lists, and then each of its elements
pub flat_twice : {X A : Type 0} (f : X → List A) (xss : List (List X)) → flat_map (λ xs. flat_map f xs) xss ≡ flat_map f (flat_map (λ xs. xs) xss)
flat_twice f [] = refl
flat_twice {X} {A} f (xs ∷ xss) = ap (λ (l : List A). flat_map f xs ++ l) (flat_twice f xss) ∙ sym (flat_map-append f xs (flat_map (λ ys. ys) xss))

pub any_twice : {X : Type 0} (p : X → Bool) (xss : List (List X)) → list_any (λ xs. list_any p xs) xss ≡ list_any p (flat_map (λ xs. xs) xss)
any_twice p [] = refl
any_twice {X} p (xs ∷ xss) = ap (λ (b : Bool). list_any p xs || b) (any_twice p xss) ∙ sym (joined xs (flat_map (λ ys. ys) xss))
  where
    grouped : (a b c : Bool) → (a || (b || c)) ≡ ((a || b) || c)
    grouped true b c = refl
    grouped false b c = refl

    joined : (ys zs : List X) → list_any p (ys ++ zs) ≡ (list_any p ys || list_any p zs)
    joined [] zs = refl
    joined (y ∷ ys) zs = ap (λ (b : Bool). p y || b) (joined ys zs) ∙ grouped (p y) (list_any p ys) (list_any p zs)

-- ---- pieces

-- the pieces that are due, one after another, are those that pass
pieces_due : (keys : List (Bor (List ℕ))) (group : Group) (gs : List Piece) → unit_due keys group gs ≡ filter (λ g. is_key keys g.name && is_of group g) gs
pieces_due keys group [] = refl
pieces_due keys group (g ∷ gs) = by (is_key keys g.name && is_of group g) (pieces_due keys group gs)
  where
    by : (b : Bool) → unit_due keys group gs ≡ filter (λ h. is_key keys h.name && is_of group h) gs
        → (if b then g ∷ [] else []) ++ unit_due keys group gs
        ≡ cond b (g ∷ filter (λ h. is_key keys h.name && is_of group h) gs) (filter (λ h. is_key keys h.name && is_of group h) gs)
    by true rest = ap (λ (l : List Piece). g ∷ l) rest
    by false rest = rest

-- and so of all units
pub units_due : (keys : List (Bor (List ℕ))) (group : Group) (units : List (List Piece))
    → flat_map (unit_due keys group) units ≡ filter (λ g. is_key keys g.name && is_of group g) (flat_map (λ u. u) units)
units_due keys group units = flat_twice (due keys group) units ∙ pieces_due keys group (flat_map (λ u. u) units)

pub line_used : (keys : List (Bor (List ℕ))) (units : List (List Piece)) (name line : List ℕ) → line_due keys units name line ≡ line_in_use (is_key keys) (flat_map (λ u. u) units) name line
line_used keys units name line = ap (λ (b : Bool). if is_key keys name && not b then line else []) (any_twice (λ (p : Piece). bytes_eq p.name name) units)
