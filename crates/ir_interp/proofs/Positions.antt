-- Blocks by position against blocks by number, and where they stand in the text.
use Rattle.std.proofs.Common.{◌≡◌, ℕ, zero, suc, ◌+◌, ◌-◌, ◌<◌, ◌≤◌, Bool, true, false, ◌==◌, if◌then◌else◌, List, [], ◌∷◌, drop, length, get_or, slice_get, Option, Some, None, option_copied, Bor, refl, sym, ap, subst, ◌∙◌, eqb-true, arith}
use Rattle.std.specs.List.{HoldsAt}
use Rattle.std.specs.Option.{IfSome, MatchOption}
use Rattle.std.proofs.lemmas.Bool.{eqb-false}
use Rattle.ir_tree.specs.declared.block.Block.{Block}
use Rattle.ir_meaning.specs.Act.{find_block}
use Rattle.ir_meaning.specs.Program.{counted, numbered}
use Rattle.ir_interp.specs.Code.{counted_before, position}

-- the first block of a number is at its position
pub at_position : (bs : List Block) (t : ℕ) → slice_get bs (position bs t) ≡ find_block bs t
at_position [] t = refl
at_position (b ∷ bs) t = by (b.number == t) (at_position bs t) where
  by : (v : Bool) → slice_get bs (position bs t) ≡ find_block bs t → slice_get (b ∷ bs) (if v then 0 else suc (position bs t)) ≡ (if v then Some b else find_block bs t)
  by true h = refl
  by false h = h

pub found_number : (bs : List Block) (t : ℕ) (b : Block) → find_block bs t ≡ Some b → b.number ≡ t
found_number [] t b e = absurd (cc e)
found_number (c ∷ bs) t b e = by (c.number == t) refl e (found_number bs t b) where
  by : (v : Bool) → (c.number == t) ≡ v → (if v then Some c else find_block bs t) ≡ Some b → (find_block bs t ≡ Some b → b.number ≡ t) → b.number ≡ t
  by true f h rest = let same : c ≡ b = cc h in sym (ap (λ (x : Block). x.number) same) ∙ eqb-true c.number t f
  by false f h rest = rest h

same_number : (n : ℕ) → (n == n) ≡ true
same_number n = by (n == n) refl where
  by : (v : Bool) → (n == n) ≡ v → (n == n) ≡ true
  by true h = h
  by false h = absurd (eqb-false n n h refl)

-- the first block of all is the first of its number
pub first_position : (b : Block) (bs : List Block) → position (b ∷ bs) b.number ≡ 0
first_position b bs = ap (λ (v : Bool). if v then 0 else suc (position bs b.number)) (same_number b.number)

-- the number of an instruction, by the position of its block
pub numbered_at : (bs : List Block) (q : ℕ) (b : Block) (left : ℕ) → slice_get bs q ≡ Some b → position bs b.number ≡ q →
    numbered bs b.number left ≡ counted_before bs q + length b.phis + (length b.lines - left) + 1
numbered_at [] q b left e f = absurd (cc e)
numbered_at (c ∷ bs) zero b left e f =
    let same : c ≡ b = cc e in
    subst (λ (x : Block). numbered (c ∷ bs) x.number left ≡ 0 + length x.phis + (length x.lines - left) + 1) same
    (ap (λ (v : Bool). if v then length c.phis + (length c.lines - left) + 1 else counted c + numbered bs c.number left) (same_number c.number)
    ∙ omega arith)
numbered_at (c ∷ bs) (suc q) b left e f = by (c.number == b.number) f (numbered_at bs q b left e) where
  by : (v : Bool) → (if v then 0 else suc (position bs b.number)) ≡ suc q →
      (position bs b.number ≡ q → numbered bs b.number left ≡ counted_before bs q + length b.phis + (length b.lines - left) + 1) →
      (if v then length c.phis + (length c.lines - left) + 1 else counted c + numbered bs b.number left) ≡ counted c + counted_before bs q + length b.phis + (length b.lines - left) + 1
  by true h rest = absurd (omega (arith, h))
  by false h rest =
      let more = rest (omega (arith, h)) in
      omega (arith, more)

-- ---- lines

pub none_dropped : {X : Type 0} (xs : List X) → drop 0 xs ≡ xs
none_dropped [] = refl
none_dropped (x ∷ xs) = refl

pub dropped_next : {X : Type 0} (xs : List X) (k : ℕ) (x : X) → slice_get xs k ≡ Some x → drop k xs ≡ x ∷ drop (suc k) xs
dropped_next [] k x e = absurd (cc e)
dropped_next {X} (y ∷ xs) zero x e = let h : y ≡ x = cc e in ap (λ (z : X). z ∷ xs) h ∙ ap (λ (zs : List X). x ∷ zs) (sym (none_dropped xs))
dropped_next (y ∷ xs) (suc k) x e = dropped_next xs k x e

pub dropped_none : {X : Type 0} (xs : List X) (k : ℕ) → length xs ≤ k → drop k xs ≡ []
dropped_none [] zero h = refl
dropped_none [] (suc k) h = refl
dropped_none (x ∷ xs) zero h = absurd (omega (arith, h))
dropped_none (x ∷ xs) (suc k) h = dropped_none xs k (omega (arith, h))

pub dropped_length : {X : Type 0} (xs : List X) (k : ℕ) → length (drop k xs) ≡ length xs - k
dropped_length [] zero = refl
dropped_length [] (suc k) = omega arith
dropped_length (x ∷ xs) zero = omega arith
dropped_length (x ∷ xs) (suc k) = omega (arith, dropped_length xs k)

-- ---- lists of the same length

pub there : {X : Type 0} (xs : List X) (k : ℕ) → k < length xs → (x : X) × (slice_get xs k ≡ Some x)
there [] k h = absurd (omega (arith, h))
there (x ∷ xs) zero h = (x, refl)
there (x ∷ xs) (suc k) h = there xs k (omega (arith, h))

pub below_length : {X : Type 0} (xs : List X) (k : ℕ) (x : X) → slice_get xs k ≡ Some x → k < length xs
below_length [] k x e = absurd (cc e)
below_length (y ∷ xs) zero x e = omega arith
below_length (y ∷ xs) (suc k) x e = omega (arith, below_length xs k x e)

pub past_length : {X : Type 0} (xs : List X) (k : ℕ) → slice_get xs k ≡ None → length xs ≤ k
past_length [] k e = omega arith
past_length (y ∷ xs) zero e = absurd (cc e)
past_length (y ∷ xs) (suc k) e = omega (arith, past_length xs k e)

pub none_past : {X : Type 0} (xs : List X) (k : ℕ) → length xs ≤ k → slice_get xs k ≡ None
none_past [] k h = refl
none_past (y ∷ xs) zero h = absurd (omega (arith, h))
none_past (y ∷ xs) (suc k) h = none_past xs k (omega (arith, h))

-- ---- what a look into a list gives

at_index : {X : Type 0} (xs : List X) (k : ℕ) (x : X) → k < length xs → x ≡ get_or xs k x → slice_get xs k ≡ Some x
at_index [] k x h e = absurd (omega (arith, h))
at_index (y ∷ xs) zero x h e = ap Some (sym e)
at_index (y ∷ xs) (suc k) x h e = at_index xs k x (omega (arith, h)) e

pub got_some : {X : Type 0} (xs : List X) (k : ℕ) (r : Option (Bor X)) (x : Bor X) → r ≡ Some x → IfSome r (λ y. y.now ≡ get_or xs k y.now) →
    MatchOption r (length xs ≤ k) (λ y. (k < length xs) × HoldsAt (λ z. y.now ≡ z) xs k) → slice_get xs k ≡ Some x.now
got_some xs k None x e f m = absurd (cc e)
got_some {X} xs k (Some y) x e f m = let same : y ≡ x = cc e in at_index xs k x.now m.0 (subst (λ (b : Bor X). b.now ≡ get_or xs k b.now) same f)

pub got_copied : {X : Type 0} (xs : List X) (k : ℕ) (r : Option (Bor X)) → IfSome r (λ y. y.now ≡ get_or xs k y.now) →
    MatchOption r (length xs ≤ k) (λ y. (k < length xs) × HoldsAt (λ z. y.now ≡ z) xs k) → option_copied r ≡ slice_get xs k
got_copied xs k None f m = sym (none_past xs k m)
got_copied xs k (Some y) f m = sym (at_index xs k y.now m.0 f)

pub got_none : {X : Type 0} (xs : List X) (k : ℕ) (r : Option (Bor X)) → r ≡ None → MatchOption r (length xs ≤ k) (λ y. (k < length xs) × HoldsAt (λ z. y.now ≡ z) xs k) → slice_get xs k ≡ None
got_none xs k None e m = none_past xs k m
got_none xs k (Some y) e m = absurd (cc e)

pub copied_none : {X : Type 0} (r : Option (Bor X)) → ((x : Bor X) → r ≡ Some x → ⊥) → option_copied r ≡ None
copied_none None h = refl
copied_none (Some x) h = absurd (h x refl)
