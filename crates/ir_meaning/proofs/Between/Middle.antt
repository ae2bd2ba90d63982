-- What happened to the outer memories, told of the memory between.
use Rattle.std.proofs.Common.{◌≡◌, ◌≢◌, ℕ, ◌+◌, ◌-◌, ◌<◌, ◌≤◌, Bool, true, false, List, [], ◌∷◌, length, Option, Some, None, slice_get, ◌⊎◌, inl, inr, refl, sym, ap, ◌∙◌, subst, arith}
use Rattle.std.proofs.lemmas.Bool.{cases_lt}
use Rattle.std.proofs.lemmas.Option.{slice_get_within}
use Rattle.ir_meaning.specs.Memory.{MemoryBlock, Memory, Lives}
use Rattle.ir_meaning.specs.Relate.{Pairing, Point, Fixes, Related, Kept, IsUnpaired, SameBase, SameByte, SameBytes, SameMarks, SameBlock, Agrees, AllAgree, AnswersAgree}
use Rattle.ir_meaning.specs.declared.value.Base.{Base}
use Rattle.ir_meaning.specs.declared.value.Base.TheVariants.{Nowhere, Code, Cell}
use Rattle.ir_meaning.specs.declared.value.Byte.{Byte}
use Rattle.ir_meaning.specs.declared.value.Byte.TheVariants.{Unset, Spoilt, Plain, Fragment}
use Rattle.ir_meaning.specs.declared.value.Value.{Value}
use Rattle.ir_meaning.specs.declared.value.Value.TheVariants.{Number, Pointer, Poison}
use Rattle.ir_meaning.proofs.Between.Points.{Composes, IsFull, block_of, block_here, block_is, tabulate, length-tabulate, get-tabulate, Found, inverse, pick, pick_first, pick_second, lands, marks_compose, unpaired_later, unpaired_past}

-- the base in the memory between
abbrev moved_base : Pairing → Base → Base
moved_base w Nowhere = Nowhere
moved_base w (Code s) = Code s
moved_base w (Cell l) = Cell (w l)

abbrev moved : Pairing → Byte → Byte
moved w Unset = Unset
moved w Spoilt = Spoilt
moved w (Plain n) = Plain n
moved w (Fragment i x o) = Fragment i (moved_base w x) o

-- the byte between: as the program's where that says nothing, else as the better one's
abbrev between_byte : Pairing → Byte → Byte → Byte
between_byte w b Unset = Unset
between_byte w b Spoilt = Spoilt
between_byte w b (Plain n) = moved w b
between_byte w b (Fragment i x o) = moved w b

abbrev between_bytes : Pairing → List Byte → List Byte → List Byte
between_bytes w [] bs' = []
between_bytes w (b ∷ bs) [] = []
between_bytes w (b ∷ bs) (b' ∷ bs') = between_byte w b b' ∷ between_bytes w bs bs'

abbrev between_block : Pairing → MemoryBlock → MemoryBlock → MemoryBlock
between_block w b b' = record {
  size = b.size;
  align = b.align;
  bytes = between_bytes w b.bytes b'.bytes;
  live = b'.live;
  writable = b.writable;
}

-- w13 through w12 and w23, where the first lands below n'
pub record Passes (n n' : ℕ) (w12 w23 w13 : Pairing) : Type 0 where
  pub below : (l : ℕ) → l < n → w12 l < n'
  pub through : (l : ℕ) → l < n → w13 l ≡ w23 (w12 l)

base_first : (n n' : ℕ) (w12 w23 w13 : Pairing) (x y : Base) → SameBase w13 n x y → SameBase w12 n x (moved_base w12 x)
base_first n n' w12 w23 w13 Nowhere Nowhere a = tt
base_first n n' w12 w23 w13 (Code s) (Code t) a = refl
base_first n n' w12 w23 w13 (Cell l) (Cell r) a = (a.0, refl)
base_first n n' w12 w23 w13 Nowhere (Code t) a = absurd a
base_first n n' w12 w23 w13 Nowhere (Cell r) a = absurd a
base_first n n' w12 w23 w13 (Code s) Nowhere a = absurd a
base_first n n' w12 w23 w13 (Code s) (Cell r) a = absurd a
base_first n n' w12 w23 w13 (Cell l) Nowhere a = absurd a
base_first n n' w12 w23 w13 (Cell l) (Code t) a = absurd a

base_second : (n n' : ℕ) (w12 w23 w13 : Pairing) → Passes n n' w12 w23 w13 → (x y : Base) → SameBase w13 n x y →
    SameBase w23 n' (moved_base w12 x) y
base_second n n' w12 w23 w13 p Nowhere Nowhere a = tt
base_second n n' w12 w23 w13 p (Code s) (Code t) a = a
base_second n n' w12 w23 w13 p (Cell l) (Cell r) a = (p.below l a.0, sym (p.through l a.0) ∙ a.1)
base_second n n' w12 w23 w13 p Nowhere (Code t) a = absurd a
base_second n n' w12 w23 w13 p Nowhere (Cell r) a = absurd a
base_second n n' w12 w23 w13 p (Code s) Nowhere a = absurd a
base_second n n' w12 w23 w13 p (Code s) (Cell r) a = absurd a
base_second n n' w12 w23 w13 p (Cell l) Nowhere a = absurd a
base_second n n' w12 w23 w13 p (Cell l) (Code t) a = absurd a

byte_first : (n n' : ℕ) (w12 w23 w13 : Pairing) (b b' : Byte) → SameByte w13 n b b' → SameByte w12 n b (between_byte w12 b b')
byte_first n n' w12 w23 w13 b Unset a = tt
byte_first n n' w12 w23 w13 b Spoilt a = a
byte_first n n' w12 w23 w13 (Plain k) (Plain m) a = refl
byte_first n n' w12 w23 w13 (Fragment i x o) (Fragment j y q) a = (refl, base_first n n' w12 w23 w13 x y a.1, refl)
byte_first n n' w12 w23 w13 Unset (Plain m) a = absurd a
byte_first n n' w12 w23 w13 Spoilt (Plain m) a = absurd a
byte_first n n' w12 w23 w13 (Fragment i x o) (Plain m) a = absurd a
byte_first n n' w12 w23 w13 Unset (Fragment j y q) a = absurd a
byte_first n n' w12 w23 w13 Spoilt (Fragment j y q) a = absurd a
byte_first n n' w12 w23 w13 (Plain k) (Fragment j y q) a = absurd a

byte_second : (n n' : ℕ) (w12 w23 w13 : Pairing) → Passes n n' w12 w23 w13 → (b b' : Byte) → SameByte w13 n b b' →
    SameByte w23 n' (between_byte w12 b b') b'
byte_second n n' w12 w23 w13 p b Unset a = tt
byte_second n n' w12 w23 w13 p b Spoilt a = tt
byte_second n n' w12 w23 w13 p (Plain k) (Plain m) a = a
byte_second n n' w12 w23 w13 p (Fragment i x o) (Fragment j y q) a = (a.0, base_second n n' w12 w23 w13 p x y a.1, a.2)
byte_second n n' w12 w23 w13 p Unset (Plain m) a = absurd a
byte_second n n' w12 w23 w13 p Spoilt (Plain m) a = absurd a
byte_second n n' w12 w23 w13 p (Fragment i x o) (Plain m) a = absurd a
byte_second n n' w12 w23 w13 p Unset (Fragment j y q) a = absurd a
byte_second n n' w12 w23 w13 p Spoilt (Fragment j y q) a = absurd a
byte_second n n' w12 w23 w13 p (Plain k) (Fragment j y q) a = absurd a

bytes_first : (n n' : ℕ) (w12 w23 w13 : Pairing) (b b' : List Byte) → SameBytes w13 n b b' → SameBytes w12 n b (between_bytes w12 b b')
bytes_first n n' w12 w23 w13 [] [] a = tt
bytes_first n n' w12 w23 w13 (b ∷ bs) (b' ∷ bs') a = (byte_first n n' w12 w23 w13 b b' a.0, bytes_first n n' w12 w23 w13 bs bs' a.1)
bytes_first n n' w12 w23 w13 [] (b' ∷ bs') a = absurd a
bytes_first n n' w12 w23 w13 (b ∷ bs) [] a = absurd a

bytes_second : (n n' : ℕ) (w12 w23 w13 : Pairing) → Passes n n' w12 w23 w13 → (b b' : List Byte) → SameBytes w13 n b b' →
    SameBytes w23 n' (between_bytes w12 b b') b'
bytes_second n n' w12 w23 w13 p [] [] a = tt
bytes_second n n' w12 w23 w13 p (b ∷ bs) (b' ∷ bs') a =
    (byte_second n n' w12 w23 w13 p b b' a.0, bytes_second n n' w12 w23 w13 p bs bs' a.1)
bytes_second n n' w12 w23 w13 p [] (b' ∷ bs') a = absurd a
bytes_second n n' w12 w23 w13 p (b ∷ bs) [] a = absurd a

block_first : (n n' : ℕ) (w12 w23 w13 : Pairing) (b b' : MemoryBlock) → SameBlock w13 n b b' → SameBlock w12 n b (between_block w12 b b')
block_first n n' w12 w23 w13 b b' s = record {
  marks = record { size = refl; align = refl; writable = refl };
  live = s.live;
  bytes = bytes_first n n' w12 w23 w13 b.bytes b'.bytes s.bytes;
}

block_second : (n n' : ℕ) (w12 w23 w13 : Pairing) → Passes n n' w12 w23 w13 → (b b' : MemoryBlock) → SameBlock w13 n b b' →
    SameBlock w23 n' (between_block w12 b b') b'
block_second n n' w12 w23 w13 p b b' s = record {
  marks = record { size = s.marks.size; align = s.marks.align; writable = s.marks.writable };
  live = λ i. i;
  bytes = bytes_second n n' w12 w23 w13 p b.bytes b'.bytes s.bytes;
}

-- the value between
pub value_between : (n n' : ℕ) (w12 w23 w13 : Pairing) → Passes n n' w12 w23 w13 → (v v' : Value) → Agrees w13 n v v' →
    (u : Value) × Agrees w12 n v u × Agrees w23 n' u v'
value_between n n' w12 w23 w13 p v Poison a = (Poison, tt, tt)
value_between n n' w12 w23 w13 p (Number k) (Number m) a = (Number k, refl, a)
value_between n n' w12 w23 w13 p (Pointer x i) (Pointer y j) a =
    (Pointer (moved_base w12 x) i, (base_first n n' w12 w23 w13 x y a.0, refl), (base_second n n' w12 w23 w13 p x y a.0, a.1))
value_between n n' w12 w23 w13 p Poison (Number m) a = absurd a
value_between n n' w12 w23 w13 p Poison (Pointer y j) a = absurd a
value_between n n' w12 w23 w13 p (Number k) (Pointer y j) a = absurd a
value_between n n' w12 w23 w13 p (Pointer x i) (Number m) a = absurd a

pub answer_between : (n n' : ℕ) (w12 w23 w13 : Pairing) → Passes n n' w12 w23 w13 → (v v' : Option Value) →
    AnswersAgree w13 n v v' → (u : Option Value) × AnswersAgree w12 n v u × AnswersAgree w23 n' u v'
answer_between n n' w12 w23 w13 p None None a = (None, tt, tt)
answer_between n n' w12 w23 w13 p (Some v) (Some v') a = let x = value_between n n' w12 w23 w13 p v v' a in (Some x.0, x.1, x.2)
answer_between n n' w12 w23 w13 p None (Some v') a = absurd a
answer_between n n' w12 w23 w13 p (Some v) None a = absurd a

pub all_between : (n n' : ℕ) (w12 w23 w13 : Pairing) → Passes n n' w12 w23 w13 → (v v' : List Value) → AllAgree w13 n v v' →
    (u : List Value) × AllAgree w12 n v u × AllAgree w23 n' u v'
all_between n n' w12 w23 w13 p [] [] a = ([], tt, tt)
all_between n n' w12 w23 w13 p (v ∷ vs) (v' ∷ vs') a =
    let x = value_between n n' w12 w23 w13 p v v' a.0 in
    let y = all_between n n' w12 w23 w13 p vs vs' a.1 in
    (x.0 ∷ y.0, (x.1, y.1), (x.2, y.2))
all_between n n' w12 w23 w13 p [] (v' ∷ vs') a = absurd a
all_between n n' w12 w23 w13 p (v ∷ vs) [] a = absurd a

-- a pairing that agrees on the first n blocks, and has no fewer
pub base_wider : (n n' : ℕ) (w w' : Pairing) → n ≤ n' → ((l : ℕ) → l < n → w' l ≡ w l) → (x y : Base) → SameBase w n x y →
    SameBase w' n' x y
base_wider n n' w w' le e Nowhere Nowhere a = a
base_wider n n' w w' le e (Code s) (Code t) a = a
base_wider n n' w w' le e (Cell l) (Cell r) a = (omega (arith, a.0), e l a.0 ∙ a.1)
base_wider n n' w w' le e Nowhere (Code t) a = absurd a
base_wider n n' w w' le e Nowhere (Cell r) a = absurd a
base_wider n n' w w' le e (Code s) Nowhere a = absurd a
base_wider n n' w w' le e (Code s) (Cell r) a = absurd a
base_wider n n' w w' le e (Cell l) Nowhere a = absurd a
base_wider n n' w w' le e (Cell l) (Code t) a = absurd a

byte_wider : (n n' : ℕ) (w w' : Pairing) → n ≤ n' → ((l : ℕ) → l < n → w' l ≡ w l) → (x y : Byte) → SameByte w n x y → SameByte w' n' x y
byte_wider n n' w w' le e x Unset a = tt
byte_wider n n' w w' le e x Spoilt a = a
byte_wider n n' w w' le e (Plain k) (Plain m) a = a
byte_wider n n' w w' le e (Fragment i x o) (Fragment j y q) a = (a.0, base_wider n n' w w' le e x y a.1, a.2)
byte_wider n n' w w' le e Unset (Plain m) a = absurd a
byte_wider n n' w w' le e Spoilt (Plain m) a = absurd a
byte_wider n n' w w' le e (Fragment i x o) (Plain m) a = absurd a
byte_wider n n' w w' le e Unset (Fragment j y q) a = absurd a
byte_wider n n' w w' le e Spoilt (Fragment j y q) a = absurd a
byte_wider n n' w w' le e (Plain k) (Fragment j y q) a = absurd a

bytes_wider : (n n' : ℕ) (w w' : Pairing) → n ≤ n' → ((l : ℕ) → l < n → w' l ≡ w l) → (x y : List Byte) → SameBytes w n x y →
    SameBytes w' n' x y
bytes_wider n n' w w' le e [] [] a = tt
bytes_wider n n' w w' le e (x ∷ xs) (y ∷ ys) a = (byte_wider n n' w w' le e x y a.0, bytes_wider n n' w w' le e xs ys a.1)
bytes_wider n n' w w' le e [] (y ∷ ys) a = absurd a
bytes_wider n n' w w' le e (x ∷ xs) [] a = absurd a

pub block_wider : (n n' : ℕ) (w w' : Pairing) → n ≤ n' → ((l : ℕ) → l < n → w' l ≡ w l) → (x y : MemoryBlock) →
    SameBlock w n x y → SameBlock w' n' x y
block_wider n n' w w' le e x y s = record { marks = s.marks; live = s.live; bytes = bytes_wider n n' w w' le e x.bytes y.bytes s.bytes }

-- ---- the memory between

-- from the better one to the memory between: the new blocks stand behind the old ones
abbrev first' : Point → Point → Point → ℕ → ℕ
first' p12 p13 q13 l = pick (cases_lt l (length p12.left)) (p12.pairing l) (length p12.right + (l - length p12.left))

-- from the memory between to the program
abbrev second' : Point → Point → Point → ℕ → ℕ
second' p12 p23 q13 m = pick (cases_lt m (length p12.right)) (p23.pairing m) (q13.pairing (length p12.left + (m - length p12.right)))

abbrev middle_size : Point → Point → ℕ
middle_size p12 q13 = length p12.right + (length q13.left - length p12.left)

abbrev middle_from : (p12 p13 q13 : Point) (m : ℕ) → Found (first' p12 p13 q13) (length q13.left) m → MemoryBlock
middle_from p12 p13 q13 m (inl f) = between_block (first' p12 p13 q13) (block_of q13.left f.0) (block_of q13.right (q13.pairing f.0))
middle_from p12 p13 q13 m (inr none) = block_of p12.right m

abbrev middle_at : (p12 p13 q13 : Point) → ℕ → MemoryBlock
middle_at p12 p13 q13 m = middle_from p12 p13 q13 m (inverse (first' p12 p13 q13) (length q13.left) m)

abbrev middle : (p12 p13 q13 : Point) → Memory
middle p12 p13 q13 = tabulate (middle_size p12 q13) (middle_at p12 p13 q13)

pub record Between (g : ℕ) (p12 p23 p13 q13 : Point) : Type 0 where
  pub q12 : Point
  pub q23 : Point
  pub left : q12.left ≡ q13.left
  pub middle_is : q12.right ≡ q23.left
  pub right : q23.right ≡ q13.right
  pub composes : Composes q12 q23 q13
  pub passes : Passes (length q12.left) (length q23.left) q12.pairing q23.pairing q13.pairing
  pub kept12 : Kept g p12 q12
  pub kept23 : Kept g p23 q23

marks_sym : (x y : MemoryBlock) → SameMarks x y → SameMarks y x
marks_sym x y a = record { size = sym a.size; align = sym a.align; writable = sym a.writable }

marks_refl : (x : MemoryBlock) → SameMarks x x
marks_refl x = record { size = refl; align = refl; writable = refl }

not_live : (a b : Bool) → (a ≡ true → b ≡ true) → b ≡ false → a ≡ false
not_live false b h e = refl
not_live true false h e = absurd (cc (h refl))
not_live true true h e = absurd (cc e)

module _ (g : ℕ) (p12 p23 p13 q13 : Point) (c : Composes p12 p23 p13) (r12 : Related p12) (r23 : Related p23) (k : Kept g p13 q13) where
  w : ℕ → ℕ
  w l = first' p12 p13 q13 l

  size : length p13.left ≡ length p12.left
  size = ap (λ (m : Memory). length m) c.left

  mid : length p12.right ≡ length p23.left
  mid = ap (λ (m : Memory). length m) c.middle

  grown : length p12.left ≤ length q13.left
  grown = omega (arith, k.grown, size)

  first_old : (l : ℕ) → l < length p12.left → first' p12 p13 q13 l ≡ p12.pairing l
  first_old l lt = pick_first l (length p12.left) _ _ (cases_lt l (length p12.left)) lt

  first_new : (l : ℕ) → length p12.left ≤ l → first' p12 p13 q13 l ≡ length p12.right + (l - length p12.left)
  first_new l le = pick_second l (length p12.left) _ _ (cases_lt l (length p12.left)) le

  second_old : (m : ℕ) → m < length p12.right → second' p12 p23 q13 m ≡ p23.pairing m
  second_old m lt = pick_first m (length p12.right) _ _ (cases_lt m (length p12.right)) lt

  second_new : (m : ℕ) → length p12.right ≤ m → second' p12 p23 q13 m ≡ q13.pairing (length p12.left + (m - length p12.right))
  second_new m le = pick_second m (length p12.right) _ _ (cases_lt m (length p12.right)) le

  below_by : (l : ℕ) → l < length q13.left → (l < length p12.left) ⊎ (length p12.left ≤ l) → first' p12 p13 q13 l < middle_size p12 q13
  below_by l lt (inl a) =
      let ln = lands p12 r12 l a in
      let e = first_old l a in
      omega arith
  below_by l lt (inr b) = let e = first_new l b in omega arith

  first_below : (l : ℕ) → l < length q13.left → first' p12 p13 q13 l < middle_size p12 q13
  first_below l lt = below_by l lt (cases_lt l (length p12.left))

  through_by : (l : ℕ) → l < length q13.left → (l < length p12.left) ⊎ (length p12.left ≤ l) →
      q13.pairing l ≡ second' p12 p23 q13 (first' p12 p13 q13 l)
  through_by l lt (inl a) =
      let ln = lands p12 r12 l a in
      k.extends l (omega (arith, size)) ∙ c.pairing l a ∙ sym (second_old (p12.pairing l) ln)
      ∙ ap (second' p12 p23 q13) (sym (first_old l a))
  through_by l lt (inr b) =
      let e = first_new l b in
      let back : l ≡ length p12.left + (length p12.right + (l - length p12.left) - length p12.right) = omega arith in
      ap q13.pairing back ∙ sym (second_new (length p12.right + (l - length p12.left)) (omega arith)) ∙ ap (second' p12 p23 q13) (sym e)

  through : (l : ℕ) → l < length q13.left → q13.pairing l ≡ second' p12 p23 q13 (first' p12 p13 q13 l)
  through l lt = through_by l lt (cases_lt l (length p12.left))

  one_by : (l m : ℕ) → l < length q13.left → m < length q13.left → first' p12 p13 q13 l ≡ first' p12 p13 q13 m →
      (l < length p12.left) ⊎ (length p12.left ≤ l) → (m < length p12.left) ⊎ (length p12.left ≤ m) → l ≡ m
  one_by l m ll lm e (inl a) (inl b) = r12.one_to_one l m a b (sym (first_old l a) ∙ e ∙ first_old m b)
  one_by l m ll lm e (inl a) (inr b) =
      let ln = lands p12 r12 l a in let x = first_old l a in let y = first_new m b in absurd (omega arith)
  one_by l m ll lm e (inr a) (inl b) =
      let ln = lands p12 r12 m b in let x = first_new l a in let y = first_old m b in absurd (omega arith)
  one_by l m ll lm e (inr a) (inr b) = let x = first_new l a in let y = first_new m b in omega arith

  first_one : (l m : ℕ) → l < length q13.left → m < length q13.left → first' p12 p13 q13 l ≡ first' p12 p13 q13 m → l ≡ m
  first_one l m ll lm e = one_by l m ll lm e (cases_lt l (length p12.left)) (cases_lt m (length p12.left))

  -- what stands in the memory between
  paired_from : (l m : ℕ) → l < length q13.left → first' p12 p13 q13 l ≡ m →
      (f : Found (first' p12 p13 q13) (length q13.left) m) →
      middle_from p12 p13 q13 m f ≡ between_block (first' p12 p13 q13) (block_of q13.left l) (block_of q13.right (q13.pairing l))
  paired_from l m lt e (inl f) =
      ap (λ (i : ℕ). between_block (first' p12 p13 q13) (block_of q13.left i) (block_of q13.right (q13.pairing i)))
      (first_one f.0 l f.1 lt (f.2 ∙ sym e))
  paired_from l m lt e (inr none) = absurd (none l lt e)

  middle_paired : (l : ℕ) → l < length q13.left →
      slice_get (middle p12 p13 q13) (first' p12 p13 q13 l) ≡ Some
      (between_block (first' p12 p13 q13) (block_of q13.left l) (block_of q13.right (q13.pairing l)))
  middle_paired l lt =
      get-tabulate (middle_size p12 q13) (middle_at p12 p13 q13) (first' p12 p13 q13 l) (first_below l lt)
      ∙ ap (λ (b : MemoryBlock). Some b) (paired_from l (first' p12 p13 q13 l) lt refl
      (inverse (first' p12 p13 q13) (length q13.left) (first' p12 p13 q13 l)))

  alone_from : (m : ℕ) → ((l : ℕ) → l < length q13.left → first' p12 p13 q13 l ≢ m) →
      (f : Found (first' p12 p13 q13) (length q13.left) m) → middle_from p12 p13 q13 m f ≡ block_of p12.right m
  alone_from m u (inl f) = absurd (u f.0 f.1 f.2)
  alone_from m u (inr none) = refl

  middle_alone : (m : ℕ) → m < length p12.right → ((l : ℕ) → l < length q13.left → first' p12 p13 q13 l ≢ m) →
      slice_get (middle p12 p13 q13) m ≡ Some (block_of p12.right m)
  middle_alone m lt u =
      get-tabulate (middle_size p12 q13) (middle_at p12 p13 q13) m (omega arith)
      ∙ ap (λ (b : MemoryBlock). Some b) (alone_from m u (inverse (first' p12 p13 q13) (length q13.left) m))

  middle_length : length (middle p12 p13 q13) ≡ middle_size p12 q13
  middle_length = length-tabulate (middle_size p12 q13) (middle_at p12 p13 q13)

  passes : Passes (length q13.left) (length (middle p12 p13 q13)) (first' p12 p13 q13) (second' p12 p23 q13) q13.pairing
  passes = record {
    below = λ l lt. let b = first_below l lt in let e = middle_length in omega arith;
    through = through;
  }

  -- the outer blocks are the same
  right_at : (l : ℕ) → l < length q13.left → slice_get q13.right (q13.pairing l) ≡ Some (block_of q13.right (q13.pairing l))
  right_at l lt = block_here q13.right (q13.pairing l) (lands q13 k.related l lt)

  same13 : (l : ℕ) → l < length q13.left → SameBlock q13.pairing (length q13.left) (block_of q13.left l)
      (block_of q13.right (q13.pairing l))
  same13 l lt =
      let x = k.related.blocks l (block_of q13.left l) (block_here q13.left l lt) in
      let e = block_is q13.right (q13.pairing l) x.0 x.1 in
      subst (λ (b : MemoryBlock). SameBlock q13.pairing (length q13.left) (block_of q13.left l) b) (sym e) x.2

  related12 : Related (record { pairing = first' p12 p13 q13; left = q13.left; right = middle p12 p13 q13 })
  related12 = record {
    blocks = λ l b e.
        let lt = slice_get_within q13.left l b e in
        let is = block_is q13.left l b e in
        let s = block_first (length q13.left) (length (middle p12 p13 q13)) (first' p12 p13 q13) (second' p12 p23 q13)
        q13.pairing (block_of q13.left l) (block_of q13.right (q13.pairing l)) (same13 l lt) in (
          between_block (first' p12 p13 q13) (block_of q13.left l) (block_of q13.right (q13.pairing l)),
          middle_paired l lt,
          subst (λ (x : MemoryBlock). SameBlock (first' p12 p13 q13) (length q13.left) x
              (between_block (first' p12 p13 q13) (block_of q13.left l) (block_of q13.right (q13.pairing l)))) is s,
        );
    one_to_one = first_one;
  }

  -- a block between that has no counterpart is an old one
  old_one : (m : ℕ) → m < middle_size p12 q13 → ((l : ℕ) → l < length q13.left → first' p12 p13 q13 l ≢ m) →
      (m < length p12.right) ⊎ (length p12.right ≤ m) → m < length p12.right
  old_one m lt u (inl a) = a
  old_one m lt u (inr b) =
      let l = length p12.left + (m - length p12.right) in
      let g = grown in
      let e = first_new l (omega arith) in
      absurd (u l (omega arith) (e ∙ omega arith))

  unpaired12 : (m : ℕ) → ((l : ℕ) → l < length q13.left → first' p12 p13 q13 l ≢ m) → IsUnpaired p12 m
  unpaired12 m u l lt e = u l (let g = grown in omega arith) (first_old l lt ∙ e)

  -- the program's block of an old one without counterpart is as it was
  right_alone : (m : ℕ) → m < length p12.right → IsUnpaired p12 m → (b' : MemoryBlock) ×
      (slice_get q13.right (p23.pairing m) ≡ Some b') × SameBlock p23.pairing (length p23.left) (block_of p12.right m) b' ×
      IsUnpaired q13 (p23.pairing m)
  right_alone m lt u =
      let e : slice_get p23.left m ≡ Some (block_of p12.right m) = ap (λ (x : Memory). slice_get x m) (sym c.middle)
      ∙ block_here p12.right m lt in
      let x = r23.blocks m (block_of p12.right m) e in
      let lt' : m < length p23.left = omega (arith, mid) in
      let y = k.private (p23.pairing m) x.0 (ap (λ (z : Memory). slice_get z (p23.pairing m)) c.right ∙ x.1)
      (unpaired_past p12 p23 p13 c r12 r23 m lt' u) in
      (x.0, y.0, x.2, y.1)

  wide : length p23.left ≤ length (middle p12 p13 q13)
  wide = let e = middle_length in let f = mid in omega arith

  blocks23_from : (m : ℕ) (b : MemoryBlock) → m < middle_size p12 q13 → slice_get (middle p12 p13 q13) m ≡ Some b →
      Found (first' p12 p13 q13) (length q13.left) m → (b' : MemoryBlock) ×
      (slice_get q13.right (second' p12 p23 q13 m) ≡ Some b') × SameBlock (second' p12 p23 q13) (length (middle p12 p13 q13)) b b'
  blocks23_from m b lt e (inl f) =
      let l = f.0 in
      let at = middle_paired l f.1 in
      let is : between_block (first' p12 p13 q13) (block_of q13.left l) (block_of q13.right (q13.pairing l)) ≡ b =
      cc (at, e, ap (λ (i : ℕ). slice_get (middle p12 p13 q13) i) f.2) in
      let s = block_second (length q13.left) (length (middle p12 p13 q13)) (first' p12 p13 q13) (second' p12 p23 q13)
      q13.pairing passes (block_of q13.left l) (block_of q13.right (q13.pairing l)) (same13 l f.1) in
      let there : q13.pairing l ≡ second' p12 p23 q13 m = through l f.1 ∙ ap (second' p12 p23 q13) f.2 in (
        block_of q13.right (q13.pairing l),
        ap (λ (i : ℕ). slice_get q13.right i) (sym there)
            ∙ right_at l f.1,
        subst (λ (x : MemoryBlock). SameBlock (second' p12 p23 q13) (length (middle p12 p13 q13)) x
            (block_of q13.right (q13.pairing l))) is s,
      )
  blocks23_from m b lt e (inr none) =
      let old = old_one m lt none (cases_lt m (length p12.right)) in
      let is : block_of p12.right m ≡ b = cc (middle_alone m old none, e) in
      let x = right_alone m old (unpaired12 m none) in
      let s = block_wider (length p23.left) (length (middle p12 p13 q13)) p23.pairing (second' p12 p23 q13) wide
      (λ i lt'. second_old i (let f = mid in omega arith)) (block_of p12.right m) x.0 x.2 in (
        x.0,
        ap (λ (i : ℕ). slice_get q13.right i) (second_old m old)
            ∙ x.1,
        subst (λ (y : MemoryBlock). SameBlock (second' p12 p23 q13) (length (middle p12 p13 q13)) y x.0) is s,
      )

  apart_from : (m n : ℕ) → m < length p12.right → length p12.right ≤ n → n < middle_size p12 q13 →
      p23.pairing m ≡ q13.pairing (length p12.left + (n - length p12.right)) → Found p12.pairing (length p12.left) m → ⊥
  apart_from m n lm ln l2 e (inl f) =
      let g = grown in
      let z = size in
      let same = k.related.one_to_one f.0 (length p12.left + (n - length p12.right)) (omega (arith, f.1)) (omega arith)
      (k.extends f.0 (omega (arith, f.1)) ∙ c.pairing f.0 f.1 ∙ ap p23.pairing f.2 ∙ e) in
      absurd (omega (arith, f.1, same))
  apart_from m n lm ln l2 e (inr none) =
      let g = grown in
      (right_alone m lm none).3 (length p12.left + (n - length p12.right)) (omega arith) (sym e)

  apart : (m n : ℕ) → m < length p12.right → length p12.right ≤ n → n < middle_size p12 q13 →
      p23.pairing m ≡ q13.pairing (length p12.left + (n - length p12.right)) → ⊥
  apart m n lm ln l2 e = apart_from m n lm ln l2 e (inverse p12.pairing (length p12.left) m)

  one23 : (m n : ℕ) → m < middle_size p12 q13 → n < middle_size p12 q13 → second' p12 p23 q13 m ≡ second' p12 p23 q13 n →
      (m < length p12.right) ⊎ (length p12.right ≤ m) → (n < length p12.right) ⊎ (length p12.right ≤ n) → m ≡ n
  one23 m n lm ln e (inl a) (inl b) =
      let f = mid in
      r23.one_to_one m n (omega arith) (omega arith) (sym (second_old m a) ∙ e ∙ second_old n b)
  one23 m n lm ln e (inl a) (inr b) = absurd (apart m n a b ln (sym (second_old m a) ∙ e ∙ second_new n b))
  one23 m n lm ln e (inr a) (inl b) = absurd (apart n m b a lm (sym (second_old n b) ∙ sym e ∙ second_new m a))
  one23 m n lm ln e (inr a) (inr b) =
      let g = grown in
      let same = k.related.one_to_one (length p12.left + (m - length p12.right)) (length p12.left + (n - length p12.right))
      (omega arith) (omega arith) (sym (second_new m a) ∙ e ∙ second_new n b) in
      omega arith

  related23 : Related (record { pairing = second' p12 p23 q13; left = middle p12 p13 q13; right = q13.right })
  related23 = record {
    blocks = λ m b e. let lt = slice_get_within (middle p12 p13 q13) m b e in
        blocks23_from m b (omega (arith, middle_length)) e (inverse (first' p12 p13 q13) (length q13.left) m);
    one_to_one = λ m n lm ln e. one23 m n (omega (arith, middle_length)) (omega (arith, middle_length)) e
        (cases_lt m (length p12.right)) (cases_lt n (length p12.right));
  }

  still_alone : (m : ℕ) → m < length p12.right → IsUnpaired p12 m → (l : ℕ) → l < length q13.left → (l < length p12.left) ⊎
      (length p12.left ≤ l) → first' p12 p13 q13 l ≢ m
  still_alone m lm u l lt (inl a) e = u l a (sym (first_old l a) ∙ e)
  still_alone m lm u l lt (inr b) e = let x = first_new l b in absurd (omega arith)

  -- a dead block between stays dead
  ended12_from : (m : ℕ) (b : MemoryBlock) → slice_get p12.right m ≡ Some b → b.live ≡ false →
      Found (first' p12 p13 q13) (length q13.left) m → (b' : MemoryBlock) × (slice_get (middle p12 p13 q13) m ≡ Some b') ×
      (b'.live ≡ false)
  ended12_from m b e d (inr none) =
      let lt = slice_get_within p12.right m b e in
      (b, middle_alone m lt none ∙ ap (λ (x : MemoryBlock). Some x) (block_is p12.right m b e), d)
  ended12_from m b e d (inl f) =
      let l = f.0 in
      let lt = slice_get_within p12.right m b e in
      let at = ap (λ (i : ℕ). slice_get (middle p12 p13 q13) i) (sym f.2) ∙ middle_paired l f.1 in
      -- the program's block is dead too, and stays so
      let e23 : slice_get p23.left m ≡ Some b = ap (λ (x : Memory). slice_get x m) (sym c.middle) ∙ e in
      let x = r23.blocks m b e23 in
      let dead' : x.0.live ≡ false = not_live x.0.live b.live x.2.live d in
      let y = k.ended (p23.pairing m) x.0 (ap (λ (z : Memory). slice_get z (p23.pairing m)) c.right ∙ x.1) dead' in
      let there : q13.pairing l ≡ p23.pairing m = through l f.1 ∙ ap (second' p12 p23 q13) f.2 ∙ second_old m lt in
      let is : block_of q13.right (q13.pairing l) ≡ y.0 =
      block_is q13.right (q13.pairing l) y.0 (ap (λ (i : ℕ). slice_get q13.right i) there ∙ y.1) in (
        between_block (first' p12 p13 q13) (block_of q13.left l) (block_of q13.right (q13.pairing l)),
        at,
        ap (λ (z : MemoryBlock). z.live) is ∙ y.2,
      )

  -- a variable between lives as the program's does
  alive12 : Fixes g p12 → Fixes g p23 → (m : ℕ) → m < g → Lives (middle p12 p13 q13) m
  alive12 f12 f23 m lt =
      let old : m < length p12.left = omega (arith, f12.variables) in
      let same : first' p12 p13 q13 m ≡ m = first_old m old ∙ f12.stay m lt in
      let there : q13.pairing m ≡ m =
      k.extends m (omega (arith, size)) ∙ c.pairing m old ∙ ap p23.pairing (f12.stay m lt) ∙ f23.stay m lt in
      let a = f23.alive m lt in
      let x = k.alive m lt (a.0, ap (λ (z : Memory). slice_get z m) c.right ∙ a.1, a.2) in
      let is : block_of q13.right (q13.pairing m) ≡ x.0 =
      block_is q13.right (q13.pairing m) x.0 (ap (λ (i : ℕ). slice_get q13.right i) there ∙ x.1) in (
        between_block (first' p12 p13 q13) (block_of q13.left m) (block_of q13.right (q13.pairing m)),
        ap (λ (i : ℕ). slice_get (middle p12 p13 q13) i) (sym same) ∙ middle_paired m (omega (arith, grown)),
        ap (λ (z : MemoryBlock). z.live) is ∙ x.2,
      )

  kept12 : Fixes g p12 → Fixes g p23 → Kept g p12 (record { pairing = first' p12 p13 q13; left = q13.left; right = middle p12 p13 q13 })
  kept12 f12 f23 = record {
    related = related12;
    grown = grown;
    extends = first_old;
    marks = λ l b e. k.marks l b (ap (λ (x : Memory). slice_get x l) c.left ∙ e);
    ended = λ m b e d. ended12_from m b e d (inverse (first' p12 p13 q13) (length q13.left) m);
    alive = λ m lt a. alive12 f12 f23 m lt;
    private = λ m b e u.
        let lt = slice_get_within p12.right m b e in
        let none = λ (l : ℕ) (ll : l < length q13.left). still_alone m lt u l ll (cases_lt l (length p12.left)) in
        (middle_alone m lt none ∙ ap (λ (x : MemoryBlock). Some x) (block_is p12.right m b e), none);
  }

  marks23_from : (m : ℕ) (b : MemoryBlock) → slice_get p12.right m ≡ Some b → Found (first' p12 p13 q13) (length q13.left) m →
      (b' : MemoryBlock) × (slice_get (middle p12 p13 q13) m ≡ Some b') × SameMarks b b'
  marks23_from m b e (inl f) = by (cases_lt f.0 (length p12.left))
    where
      by : (f.0 < length p12.left) ⊎ (length p12.left ≤ f.0) → (b' : MemoryBlock) ×
          (slice_get (middle p12 p13 q13) m ≡ Some b') × SameMarks b b'
      by (inl a) =
          let l = f.0 in
          let at = ap (λ (i : ℕ). slice_get (middle p12 p13 q13) i) (sym f.2) ∙ middle_paired l f.1 in
          let x = r12.blocks l (block_of p12.left l) (block_here p12.left l a) in
          let there : p12.pairing l ≡ m = sym (first_old l a) ∙ f.2 in
          let is : x.0 ≡ b = cc (x.1, e, ap (λ (i : ℕ). slice_get p12.right i) there) in
          let y = k.marks l (block_of p12.left l) (ap (λ (z : Memory). slice_get z l) c.left ∙ block_here p12.left l a) in
          let is' = block_is q13.left l y.0 y.1 in
          let m1 : SameMarks (block_of p12.left l) b = subst (λ (z : MemoryBlock). SameMarks (block_of p12.left l) z) is x.2.marks in
          let m2 : SameMarks (block_of p12.left l) (block_of q13.left l) =
          subst (λ (z : MemoryBlock). SameMarks (block_of p12.left l) z) (sym is') y.2 in
          let m3 = marks_compose b (block_of p12.left l) (block_of q13.left l) (marks_sym (block_of p12.left l) b m1) m2 in (
            between_block (first' p12 p13 q13) (block_of q13.left l) (block_of q13.right (q13.pairing l)),
            at,
            record { size = m3.size; align = m3.align; writable = m3.writable },
          )
      by (inr n) =
          let lt = slice_get_within p12.right m b e in
          let x = first_new f.0 n in
          absurd (omega (arith, f.2))
  marks23_from m b e (inr none) =
      let lt = slice_get_within p12.right m b e in
      (b, middle_alone m lt none ∙ ap (λ (x : MemoryBlock). Some x) (block_is p12.right m b e), marks_refl b)

  kept23 : Kept g p23 (record { pairing = second' p12 p23 q13; left = middle p12 p13 q13; right = q13.right })
  kept23 = record {
    related = related23;
    grown = wide;
    extends = λ m lt. second_old m (omega (arith, mid));
    marks = λ m b e. marks23_from m b (ap (λ (x : Memory). slice_get x m) c.middle ∙ e) (inverse (first' p12 p13 q13) (length q13.left) m);
    ended = λ r b e d. k.ended r b (ap (λ (z : Memory). slice_get z r) c.right ∙ e) d;
    alive = λ r lt a. k.alive r lt (a.0, ap (λ (z : Memory). slice_get z r) c.right ∙ a.1, a.2);
    private = λ r b e u.
        let x = k.private r b (ap (λ (z : Memory). slice_get z r) c.right ∙ e) (unpaired_later p12 p23 p13 c r12 r u) in
        (x.0, λ m lt e'. alone23 r u x.1 m (omega (arith, middle_length)) e' (cases_lt m (length p12.right)));
  }
    where
      alone23 : (r : ℕ) → IsUnpaired p23 r → IsUnpaired q13 r → (m : ℕ) → m < middle_size p12 q13 → second' p12 p23 q13 m ≡ r →
          (m < length p12.right) ⊎ (length p12.right ≤ m) → ⊥
      alone23 r u u' m lt e (inl a) = u m (omega (arith, mid)) (sym (second_old m a) ∙ e)
      alone23 r u u' m lt e (inr b) = u' (length p12.left + (m - length p12.right)) (omega (arith, grown)) (sym (second_new m b) ∙ e)

  pub between : Fixes g p12 → Fixes g p23 → Between g p12 p23 p13 q13
  between f12 f23 = record {
    q12 = record { pairing = first' p12 p13 q13; left = q13.left; right = middle p12 p13 q13 };
    q23 = record { pairing = second' p12 p23 q13; left = middle p12 p13 q13; right = q13.right };
    left = refl;
    middle_is = refl;
    right = refl;
    composes = record { left = refl; middle = refl; right = refl; pairing = through };
    passes = passes;
    kept12 = kept12 f12 f23;
    kept23 = kept23;
  }

-- at the entry of a function: each block between has a counterpart
abbrev nothing : Point
nothing = record { pairing = λ l. l; left = []; right = [] }

nothing_related : Related nothing
nothing_related = record { blocks = λ l b e. absurd (cc e); one_to_one = λ l m a b e. absurd (omega arith) }

nothing_composes : Composes nothing nothing nothing
nothing_composes = record { left = refl; middle = refl; right = refl; pairing = λ l lt. refl }

nothing_kept : (q : Point) → Related q → Kept 0 nothing q
nothing_kept q r = record {
  related = r;
  grown = omega arith;
  extends = λ l lt. absurd (omega arith);
  marks = λ l b e. absurd (cc e);
  ended = λ l b e. absurd (cc e);
  alive = λ l lt a. absurd (cc (a.1));
  private = λ l b e. absurd (cc e);
}

pub record EntryBetween (g : ℕ) (q13 : Point) : Type 0 where
  pub q12 : Point
  pub q23 : Point
  pub left : q12.left ≡ q13.left
  pub middle_is : q12.right ≡ q23.left
  pub right : q23.right ≡ q13.right
  pub composes : Composes q12 q23 q13
  pub passes : Passes (length q12.left) (length q23.left) q12.pairing q23.pairing q13.pairing
  pub related12 : Related q12
  pub related23 : Related q23
  pub full : IsFull q12
  pub fixes12 : Fixes g q12
  pub fixes23 : Fixes g q23

pub entry_between : (g : ℕ) (q13 : Point) → Related q13 → Fixes g q13 → EntryBetween g q13
entry_between g q13 r f = record {
  q12 = record { pairing = first' nothing nothing q13; left = q13.left; right = middle nothing nothing q13 };
  q23 = record { pairing = second' nothing nothing q13; left = middle nothing nothing q13; right = q13.right };
  left = refl;
  middle_is = refl;
  right = refl;
  composes = record {
    left = refl;
    middle = refl;
    right = refl;
    pairing = through 0 nothing nothing nothing q13 nothing_composes nothing_related nothing_related k;
  };
  passes = passes 0 nothing nothing nothing q13 nothing_composes nothing_related nothing_related k;
  related12 = related12 0 nothing nothing nothing q13 nothing_composes nothing_related nothing_related k;
  related23 = related23 0 nothing nothing nothing q13 nothing_composes nothing_related nothing_related k;
  full = λ m lt. (m, omega (arith, size'), same m);
  fixes12 = record { variables = f.variables; stay = λ l lt. same l; alive = alive };
  fixes23 = record { variables = omega (arith, size', f.variables); stay = λ m lt. same' m ∙ f.stay m lt; alive = f.alive };
}
  where
    k : Kept 0 nothing q13
    k = nothing_kept q13 r

    size' : length (middle nothing nothing q13) ≡ 0 + (length q13.left - 0)
    size' = middle_length 0 nothing nothing nothing q13 nothing_composes nothing_related nothing_related k

    same : (m : ℕ) → first' nothing nothing q13 m ≡ m
    same m =
        let e : first' nothing nothing q13 m ≡ 0 + (m - 0) =
        first_new 0 nothing nothing nothing q13 nothing_composes nothing_related nothing_related k m (omega arith) in
        e ∙ omega arith

    same' : (m : ℕ) → second' nothing nothing q13 m ≡ q13.pairing m
    same' m =
        let e : second' nothing nothing q13 m ≡ q13.pairing (0 + (m - 0)) =
        second_new 0 nothing nothing nothing q13 nothing_composes nothing_related nothing_related k m (omega arith) in
        let i : 0 + (m - 0) ≡ m = omega arith in
        e ∙ ap q13.pairing i

    alive : (l : ℕ) → l < g → Lives (middle nothing nothing q13) l
    alive l lt =
        let a = f.alive l lt in
        let is : block_of q13.right (q13.pairing l) ≡ a.0 =
        block_is q13.right (q13.pairing l) a.0 (ap (λ (i : ℕ). slice_get q13.right i) (f.stay l lt) ∙ a.1) in (
          between_block (first' nothing nothing q13) (block_of q13.left l) (block_of q13.right (q13.pairing l)),
          ap (λ (i : ℕ). slice_get (middle nothing nothing q13) i) (sym (same l))
              ∙ middle_paired 0 nothing nothing nothing q13 nothing_composes nothing_related nothing_related k l (omega (arith, f.variables)),
          ap (λ (z : MemoryBlock). z.live) is ∙ a.2,
        )
