-- What holds of each element.
use Rattle.std.proofs.Common.{◌≡◌, ℕ, suc, ◌+◌, ◌≤◌, nat_eq, map, Bool, true, false, List, [], ◌∷◌, ◌++◌, length, get_or, refl, subst, arith, if◌then◌else◌}
use Rattle.std.specs.Prelude.{All}
use Rattle.std.proofs.lemmas.Bool.{eqb-true}
use Rattle.std.proofs.lemmas.List.{get_or_append_left, get_or-append-add, get_or-map, length-append, length-map}
use Rattle.std.proofs.lemmas.List.Elements.{All-cons, All-head, All-nil, All-tail}
use Rattle.ir_meaning.specs.Counted.{times}
use Rattle.ir_meaning.proofs.Counting.{here, later}

pub all_with : {X : Type 0} (P Q R : X → Type 0) (xs : List X) → ((x : X) → P x → Q x → R x) → All P xs → All Q xs → All R xs
all_with P Q R xs f h g = λ k d lt. f (get_or xs k d) (h k d lt) (g k d lt)

pub all_front : {X : Type 0} (P : X → Type 0) (xs ys : List X) → All P (xs ++ ys) → All P xs
all_front P xs ys h = λ k d lt. subst P (get_or_append_left xs ys d k lt) (h k d (omega (arith, lt, length-append xs ys)))

pub all_back : {X : Type 0} (P : X → Type 0) (xs ys : List X) → All P (xs ++ ys) → All P ys
all_back P xs ys h = λ k d lt. subst P (get_or-append-add xs ys k d) (h (length xs + k) d (omega (arith, lt, length-append xs ys)))

-- what holds of each of the numbers holds of one that is among them
pub all_among : (P : ℕ → Type 0) (d : ℕ) (ts : List ℕ) → All P ts → 1 ≤ times d ts → P d
all_among P d [] h some = absurd (omega (arith, some))
all_among P d (t ∷ ts) h some = by (nat_eq t d) refl some (all_among P d ts (All-tail P t ts h))
  where
    by : (b : Bool) → nat_eq t d ≡ b → 1 ≤ (if b then suc (times d ts) else times d ts) → (1 ≤ times d ts → P d) → P d
    by true e some more = subst P (eqb-true t d e) (All-head P t ts h)
    by false e some more = more some

-- what holds of each number that is among them
pub all_of_times : (P : ℕ → Type 0) (ts : List ℕ) → ((t : ℕ) → 1 ≤ times t ts → P t) → All P ts
all_of_times P [] h = All-nil P
all_of_times P (t ∷ ts) h = All-cons P t ts (h t (here t t ts refl)) (all_of_times P ts (λ x some. h x (later x t ts some)))

pub all_unmapped : {X Y : Type 0} (P : Y → Type 0) (f : X → Y) (xs : List X) → All P (map f xs) → All (λ x. P (f x)) xs
all_unmapped P f xs h = λ k d lt. subst P (get_or-map f xs k d (f d) lt) (h k (f d) (omega (arith, lt, length-map xs f)))
