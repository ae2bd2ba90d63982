-- How points compose, and how what happened to the outer memories can be told of a memory between.
use Rattle.std.proofs.Common.{◌≡◌, ◌≢◌, ℕ, zero, suc, ◌<◌, ◌≤◌, false, List, [], ◌∷◌, length, Option, Some, None, slice_get, ◌⊎◌, inl, inr, refl, sym, ap, ◌∙◌, subst, arith, get_or}
use Rattle.std.proofs.lemmas.Bool.{cases_eq}
use Rattle.std.proofs.lemmas.Option.{slice_get_within, slice_get-get_or}
use Rattle.ir_meaning.specs.Memory.{MemoryBlock, Memory}
use Rattle.ir_meaning.specs.Relate.{Pairing, Point, Related, Kept, IsUnpaired, SameBase, IsSet', SameByte, SameBytes, SameMarks, SameBlock, Agrees, AllAgree, AnswersAgree}
use Rattle.ir_meaning.specs.declared.value.Base.{Base}
use Rattle.ir_meaning.specs.declared.value.Base.TheVariants.{Nowhere, Code, Cell}
use Rattle.ir_meaning.specs.declared.value.Byte.{Byte}
use Rattle.ir_meaning.specs.declared.value.Byte.TheVariants.{Unset, Spoilt, Plain, Fragment}
use Rattle.ir_meaning.specs.declared.value.Value.{Value}
use Rattle.ir_meaning.specs.declared.value.Value.TheVariants.{Number, Pointer, Poison}

-- the third point is the first and then the second
pub record Composes (p12 p23 p13 : Point) : Type 0 where
  pub left : p13.left ≡ p12.left
  pub middle : p12.right ≡ p23.left
  pub right : p13.right ≡ p23.right
  pub pairing : (l : ℕ) → l < length p12.left → p13.pairing l ≡ p23.pairing (p12.pairing l)

-- each block of the program has a counterpart
abbrev pub IsFull : Point → Type 0
IsFull p = (r : ℕ) → r < length p.right → (l : ℕ) × (l < length p.left) × (p.pairing l ≡ r)

-- ---- lists

pub blank : MemoryBlock
blank = record { size = 0; align = 1; bytes = []; live = false; writable = false }

abbrev pub block_of : Memory → ℕ → MemoryBlock
block_of m l = get_or m l blank

pub block_here : (m : Memory) (l : ℕ) → l < length m → slice_get m l ≡ Some (block_of m l)
block_here m l lt = slice_get-get_or m l blank lt

pub block_is : (m : Memory) (l : ℕ) (b : MemoryBlock) → slice_get m l ≡ Some b → block_of m l ≡ b
block_is m l b e = let h = block_here m l (slice_get_within m l b e) in cc (h, e)

pub tabulate : {X : Type 0} → ℕ → (ℕ → X) → List X
tabulate zero f = []
tabulate (suc n) f = f 0 ∷ tabulate n (λ k. f (suc k))

pub length-tabulate : {X : Type 0} (n : ℕ) (f : ℕ → X) → length (tabulate n f) ≡ n
unfolding tabulate
length-tabulate zero f = refl
length-tabulate (suc n) f = ap (λ (k : ℕ). suc k) (length-tabulate n (λ k. f (suc k)))

pub get-tabulate : {X : Type 0} (n : ℕ) (f : ℕ → X) (i : ℕ) → i < n → slice_get (tabulate n f) i ≡ Some (f i)
unfolding tabulate
get-tabulate zero f i lt = absurd (omega arith)
get-tabulate (suc n) f zero lt = refl
get-tabulate (suc n) f (suc i) lt = get-tabulate n (λ k. f (suc k)) i (omega arith)

abbrev pub Found : Pairing → ℕ → ℕ → Type 0
Found w n m = ((l : ℕ) × (l < n) × (w l ≡ m)) ⊎ ((l : ℕ) → l < n → w l ≢ m)

pub found_more : (w : Pairing) (n m : ℕ) → (w n ≡ m) ⊎ (w n ≡ m → ⊥) → Found w n m → Found w (suc n) m
found_more w n m (inl e) f = inl (n, omega arith, e)
found_more w n m (inr ne) (inl f) = inl (f.0, omega (arith, f.1), f.2)
found_more w n m (inr ne) (inr none) = inr (λ l lt e. last l (cases_eq l n) lt e)
  where
    last : (l : ℕ) → (l ≡ n) ⊎ (l ≡ n → ⊥) → l < suc n → w l ≡ m → ⊥
    last l (inl same) lt e = ne (ap w (sym same) ∙ e)
    last l (inr other) lt e = none l (omega arith) e

-- the counterpart of m, if there is one
pub inverse : (w : Pairing) (n m : ℕ) → Found w n m
inverse w zero m = inr (λ l lt e. absurd (omega arith))
inverse w (suc n) m = found_more w n m (cases_eq (w n) m) (inverse w n m)

abbrev pub pick : {A B : Type 0} → A ⊎ B → ℕ → ℕ → ℕ
pick (inl a) x y = x
pick (inr b) x y = y

pub pick_first : (l n x y : ℕ) (c : (l < n) ⊎ (n ≤ l)) → l < n → pick c x y ≡ x
pick_first l n x y (inl a) lt = refl
pick_first l n x y (inr b) lt = absurd (omega arith)

pub pick_second : (l n x y : ℕ) (c : (l < n) ⊎ (n ≤ l)) → n ≤ l → pick c x y ≡ y
pick_second l n x y (inl a) le = absurd (omega arith)
pick_second l n x y (inr b) le = refl

-- ---- one after the other

abbrev pub Through : ℕ → Pairing → Pairing → Pairing → Type 0
Through n w12 w23 w13 = (l : ℕ) → l < n → w13 l ≡ w23 (w12 l)

pub base_compose : (n n' : ℕ) (w12 w23 w13 : Pairing) → Through n w12 w23 w13 → (x y z : Base) → SameBase w12 n x y →
    SameBase w23 n' y z → SameBase w13 n x z
base_compose n n' w12 w23 w13 t Nowhere Nowhere Nowhere a b = tt
base_compose n n' w12 w23 w13 t (Code r) (Code s) (Code u) a b = a ∙ b
base_compose n n' w12 w23 w13 t (Cell l) (Cell m) (Cell r) a b = (a.0, t l a.0 ∙ ap w23 a.1 ∙ b.1)
base_compose n n' w12 w23 w13 t Nowhere Nowhere (Code u) a b = absurd b
base_compose n n' w12 w23 w13 t Nowhere Nowhere (Cell r) a b = absurd b
base_compose n n' w12 w23 w13 t Nowhere (Code s) z a b = absurd a
base_compose n n' w12 w23 w13 t Nowhere (Cell m) z a b = absurd a
base_compose n n' w12 w23 w13 t (Code r) Nowhere z a b = absurd a
base_compose n n' w12 w23 w13 t (Code r) (Cell m) z a b = absurd a
base_compose n n' w12 w23 w13 t (Code r) (Code s) Nowhere a b = absurd b
base_compose n n' w12 w23 w13 t (Code r) (Code s) (Cell u) a b = absurd b
base_compose n n' w12 w23 w13 t (Cell l) Nowhere z a b = absurd a
base_compose n n' w12 w23 w13 t (Cell l) (Code s) z a b = absurd a
base_compose n n' w12 w23 w13 t (Cell l) (Cell m) Nowhere a b = absurd b
base_compose n n' w12 w23 w13 t (Cell l) (Cell m) (Code u) a b = absurd b

pub value_compose : (n n' : ℕ) (w12 w23 w13 : Pairing) → Through n w12 w23 w13 → (x y z : Value) → Agrees w12 n x y →
    Agrees w23 n' y z → Agrees w13 n x z
value_compose n n' w12 w23 w13 t x y Poison a b = tt
value_compose n n' w12 w23 w13 t (Number k) (Number l) (Number m) a b = a ∙ b
value_compose n n' w12 w23 w13 t (Pointer k i) (Pointer l j) (Pointer m h) a b = (base_compose n n' w12 w23 w13 t k l m a.0 b.0, a.1 ∙ b.1)
value_compose n n' w12 w23 w13 t x Poison (Number m) a b = absurd b
value_compose n n' w12 w23 w13 t x Poison (Pointer m h) a b = absurd b
value_compose n n' w12 w23 w13 t x (Number l) (Pointer m h) a b = absurd b
value_compose n n' w12 w23 w13 t x (Pointer l j) (Number m) a b = absurd b
value_compose n n' w12 w23 w13 t Poison (Number l) (Number m) a b = absurd a
value_compose n n' w12 w23 w13 t (Pointer k i) (Number l) (Number m) a b = absurd a
value_compose n n' w12 w23 w13 t Poison (Pointer l j) (Pointer m h) a b = absurd a
value_compose n n' w12 w23 w13 t (Number k) (Pointer l j) (Pointer m h) a b = absurd a

pub answer_compose : (n n' : ℕ) (w12 w23 w13 : Pairing) → Through n w12 w23 w13 → (x y z : Option Value) →
    AnswersAgree w12 n x y → AnswersAgree w23 n' y z → AnswersAgree w13 n x z
answer_compose n n' w12 w23 w13 t None None None a b = tt
answer_compose n n' w12 w23 w13 t (Some x) (Some y) (Some z) a b = value_compose n n' w12 w23 w13 t x y z a b
answer_compose n n' w12 w23 w13 t None (Some y) z a b = absurd a
answer_compose n n' w12 w23 w13 t (Some x) None z a b = absurd a
answer_compose n n' w12 w23 w13 t None None (Some z) a b = absurd b
answer_compose n n' w12 w23 w13 t (Some x) (Some y) None a b = absurd b

pub all_compose : (n n' : ℕ) (w12 w23 w13 : Pairing) → Through n w12 w23 w13 → (x y z : List Value) → AllAgree w12 n x y →
    AllAgree w23 n' y z → AllAgree w13 n x z
all_compose n n' w12 w23 w13 t [] [] [] a b = tt
all_compose n n' w12 w23 w13 t (x ∷ xs) (y ∷ ys) (z ∷ zs) a b =
    (value_compose n n' w12 w23 w13 t x y z a.0 b.0, all_compose n n' w12 w23 w13 t xs ys zs a.1 b.1)
all_compose n n' w12 w23 w13 t [] (y ∷ ys) z a b = absurd a
all_compose n n' w12 w23 w13 t (x ∷ xs) [] z a b = absurd a
all_compose n n' w12 w23 w13 t [] [] (z ∷ zs) a b = absurd b
all_compose n n' w12 w23 w13 t (x ∷ xs) (y ∷ ys) [] a b = absurd b

set_compose : (n : ℕ) (w : Pairing) (x y : Byte) → SameByte w n x y → IsSet' y → IsSet' x
set_compose n w x Unset a s = absurd s
set_compose n w x Spoilt a s = a
set_compose n w Unset (Plain l) a s = a
set_compose n w Spoilt (Plain l) a s = tt
set_compose n w (Plain k) (Plain l) a s = tt
set_compose n w (Fragment i u o) (Plain l) a s = tt
set_compose n w Unset (Fragment j v q) a s = a
set_compose n w Spoilt (Fragment j v q) a s = tt
set_compose n w (Plain k) (Fragment j v q) a s = tt
set_compose n w (Fragment i u o) (Fragment j v q) a s = tt

byte_compose : (n n' : ℕ) (w12 w23 w13 : Pairing) → Through n w12 w23 w13 → (x y z : Byte) → SameByte w12 n x y →
    SameByte w23 n' y z → SameByte w13 n x z
byte_compose n n' w12 w23 w13 t x y Unset a b = tt
byte_compose n n' w12 w23 w13 t x y Spoilt a b = set_compose n w12 x y a b
byte_compose n n' w12 w23 w13 t (Plain k) (Plain l) (Plain m) a b = a ∙ b
byte_compose n n' w12 w23 w13 t (Fragment i k o) (Fragment i' l o') (Fragment i'' m o'') a b =
    (a.0 ∙ b.0, base_compose n n' w12 w23 w13 t k l m a.1 b.1, a.2 ∙ b.2)
byte_compose n n' w12 w23 w13 t x Unset (Plain m) a b = absurd b
byte_compose n n' w12 w23 w13 t x Spoilt (Plain m) a b = absurd b
byte_compose n n' w12 w23 w13 t x (Fragment i' l o') (Plain m) a b = absurd b
byte_compose n n' w12 w23 w13 t Unset (Plain l) (Plain m) a b = absurd a
byte_compose n n' w12 w23 w13 t Spoilt (Plain l) (Plain m) a b = absurd a
byte_compose n n' w12 w23 w13 t (Fragment i k o) (Plain l) (Plain m) a b = absurd a
byte_compose n n' w12 w23 w13 t x Unset (Fragment i'' m o'') a b = absurd b
byte_compose n n' w12 w23 w13 t x Spoilt (Fragment i'' m o'') a b = absurd b
byte_compose n n' w12 w23 w13 t x (Plain l) (Fragment i'' m o'') a b = absurd b
byte_compose n n' w12 w23 w13 t Unset (Fragment i' l o') (Fragment i'' m o'') a b = absurd a
byte_compose n n' w12 w23 w13 t Spoilt (Fragment i' l o') (Fragment i'' m o'') a b = absurd a
byte_compose n n' w12 w23 w13 t (Plain k) (Fragment i' l o') (Fragment i'' m o'') a b = absurd a

bytes_compose : (n n' : ℕ) (w12 w23 w13 : Pairing) → Through n w12 w23 w13 → (x y z : List Byte) → SameBytes w12 n x y →
    SameBytes w23 n' y z → SameBytes w13 n x z
bytes_compose n n' w12 w23 w13 t [] [] [] a b = tt
bytes_compose n n' w12 w23 w13 t (x ∷ xs) (y ∷ ys) (z ∷ zs) a b =
    (byte_compose n n' w12 w23 w13 t x y z a.0 b.0, bytes_compose n n' w12 w23 w13 t xs ys zs a.1 b.1)
bytes_compose n n' w12 w23 w13 t [] (y ∷ ys) z a b = absurd a
bytes_compose n n' w12 w23 w13 t (x ∷ xs) [] z a b = absurd a
bytes_compose n n' w12 w23 w13 t [] [] (z ∷ zs) a b = absurd b
bytes_compose n n' w12 w23 w13 t (x ∷ xs) (y ∷ ys) [] a b = absurd b

pub marks_compose : (x y z : MemoryBlock) → SameMarks x y → SameMarks y z → SameMarks x z
marks_compose x y z a b = record { size = a.size ∙ b.size; align = a.align ∙ b.align; writable = a.writable ∙ b.writable }

block_compose : (n n' : ℕ) (w12 w23 w13 : Pairing) → Through n w12 w23 w13 → (x y z : MemoryBlock) → SameBlock w12 n x y →
    SameBlock w23 n' y z → SameBlock w13 n x z
block_compose n n' w12 w23 w13 t x y z a b = record {
  marks = marks_compose x y z a.marks b.marks;
  live = λ i. a.live (b.live i);
  bytes = bytes_compose n n' w12 w23 w13 t x.bytes y.bytes z.bytes a.bytes b.bytes;
}

-- a block has a number below the count of its counterparts
pub lands : (p : Point) → Related p → (l : ℕ) → l < length p.left → p.pairing l < length p.right
lands p r l lt =
    let b = r.blocks l (block_of p.left l) (block_here p.left l lt) in
    slice_get_within p.right (p.pairing l) b.0 b.1

-- the first and then the second
abbrev pub compose : Point → Point → Point
compose p12 p23 = record { pairing = λ l. p23.pairing (p12.pairing l); left = p12.left; right = p23.right }

pub compose_composes : (p12 p23 : Point) → p12.right ≡ p23.left → Composes p12 p23 (compose p12 p23)
compose_composes p12 p23 e = record { left = refl; middle = e; right = refl; pairing = λ l lt. refl }

pub compose_related : (p12 p23 p13 : Point) → Composes p12 p23 p13 → Related p12 → Related p23 → Related p13
compose_related p12 p23 p13 c r12 r23 = record { blocks = blocks; one_to_one = one }
  where
    size : length p13.left ≡ length p12.left
    size = ap (λ (m : Memory). length m) c.left

    blocks : (l : ℕ) (b : MemoryBlock) → slice_get p13.left l ≡ Some b → (b' : MemoryBlock) ×
        (slice_get p13.right (p13.pairing l) ≡ Some b') × SameBlock p13.pairing (length p13.left) b b'
    blocks l b e =
        let e' = ap (λ (m : Memory). slice_get m l) (sym c.left) ∙ e in
        let lt = slice_get_within p12.left l b e' in
        let x = r12.blocks l b e' in
        let y = r23.blocks (p12.pairing l) x.0 (ap (λ (m : Memory). slice_get m (p12.pairing l)) (sym c.middle) ∙ x.1) in
        let s = block_compose (length p12.left) (length p23.left) p12.pairing p23.pairing p13.pairing c.pairing b x.0 y.0 x.2 y.2 in
        let at = ap (λ (m : Memory). slice_get m (p13.pairing l)) c.right ∙ ap (λ (i : ℕ). slice_get p23.right i) (c.pairing l lt) ∙ y.1 in
        (y.0, at, subst (λ (n : ℕ). SameBlock p13.pairing n b y.0) (sym size) s)

    one : (l m : ℕ) → l < length p13.left → m < length p13.left → p13.pairing l ≡ p13.pairing m → l ≡ m
    one l m a b e =
        let a' : l < length p12.left = omega (arith, size) in
        let b' : m < length p12.left = omega (arith, size) in
        let la = lands p12 r12 l a' in
        let lb = lands p12 r12 m b' in
        let mid : length p12.right ≡ length p23.left = ap (λ (x : Memory). length x) c.middle in
        r12.one_to_one l m a' b' (r23.one_to_one (p12.pairing l) (p12.pairing m) (omega arith) (omega arith)
        (sym (c.pairing l a') ∙ e ∙ c.pairing m b'))

-- what is unpaired by both is unpaired
pub unpaired_later : (p12 p23 p13 : Point) → Composes p12 p23 p13 → Related p12 → (r : ℕ) → IsUnpaired p23 r → IsUnpaired p13 r
unpaired_later p12 p23 p13 c r12 r u l lt e =
    let size : length p13.left ≡ length p12.left = ap (λ (m : Memory). length m) c.left in
    let mid : length p12.right ≡ length p23.left = ap (λ (m : Memory). length m) c.middle in
    let lt' : l < length p12.left = omega arith in
    let ln = lands p12 r12 l lt' in
    u (p12.pairing l) (omega arith) (sym (c.pairing l lt') ∙ e)

-- the counterpart of an unpaired block is unpaired
pub unpaired_past : (p12 p23 p13 : Point) → Composes p12 p23 p13 → Related p12 → Related p23 → (m : ℕ) → m < length p23.left →
    IsUnpaired p12 m → IsUnpaired p13 (p23.pairing m)
unpaired_past p12 p23 p13 c r12 r23 m lt u l la e =
    let size : length p13.left ≡ length p12.left = ap (λ (x : Memory). length x) c.left in
    let mid : length p12.right ≡ length p23.left = ap (λ (x : Memory). length x) c.middle in
    let la' : l < length p12.left = omega arith in
    let ln = lands p12 r12 l la' in
    u l la' (r23.one_to_one (p12.pairing l) m (omega arith) lt (sym (c.pairing l la') ∙ e))

-- kept memories compose, from a point where each block of the middle has a counterpart
pub kept_compose : {g g' : ℕ} (p12 p23 p13 q12 q23 q13 : Point) → Composes p12 p23 p13 → IsFull p12 → Related p12 → Composes q12 q23 q13 →
    Kept g' p12 q12 → Kept g p23 q23 → Kept g p13 q13
kept_compose p12 p23 p13 q12 q23 q13 c full r12 d k12 k23 = record {
  related = compose_related q12 q23 q13 d k12.related k23.related;
  grown = omega (arith, k12.grown, size, size');
  extends = extends;
  marks = marks;
  ended = λ r b e d'.
      let x = k23.ended r b (ap (λ (m : Memory). slice_get m r) (sym c.right) ∙ e) d' in
      (x.0, ap (λ (m : Memory). slice_get m r) d.right ∙ x.1, x.2);
  alive = λ r below a.
      let x = k23.alive r below (a.0, ap (λ (m : Memory). slice_get m r) (sym c.right) ∙ a.1, a.2) in
      (x.0, ap (λ (m : Memory). slice_get m r) d.right ∙ x.1, x.2);
  private = private;
}
  where
    size : length p13.left ≡ length p12.left
    size = ap (λ (m : Memory). length m) c.left

    size' : length q13.left ≡ length q12.left
    size' = ap (λ (m : Memory). length m) d.left

    mid : length p12.right ≡ length p23.left
    mid = ap (λ (m : Memory). length m) c.middle

    extends : (l : ℕ) → l < length p13.left → q13.pairing l ≡ p13.pairing l
    extends l lt =
        let lt' : l < length p12.left = omega (arith, size) in
        let later : l < length q12.left = omega (arith, k12.grown) in
        let ln = lands p12 r12 l lt' in
        let inside : p12.pairing l < length p23.left = omega (arith, mid) in
        d.pairing l later ∙ ap q23.pairing (k12.extends l lt') ∙ k23.extends (p12.pairing l) inside ∙ sym (c.pairing l lt')

    marks : (l : ℕ) (b : MemoryBlock) → slice_get p13.left l ≡ Some b → (b' : MemoryBlock) × (slice_get q13.left l ≡ Some b') ×
        SameMarks b b'
    marks l b e =
        let x = k12.marks l b (ap (λ (m : Memory). slice_get m l) (sym c.left) ∙ e) in
        (x.0, ap (λ (m : Memory). slice_get m l) d.left ∙ x.1, x.2)

    alone : (r : ℕ) → IsUnpaired p13 r → IsUnpaired p23 r
    alone r u m lt e =
        let f = full m (omega (arith, mid)) in
        u f.0 (omega (arith, f.1, size)) (c.pairing f.0 f.1 ∙ ap p23.pairing f.2 ∙ e)

    private : (r : ℕ) (b : MemoryBlock) → slice_get p13.right r ≡ Some b → IsUnpaired p13 r → (slice_get q13.right r ≡ Some b) ×
        IsUnpaired q13 r
    private r b e u =
        let x = k23.private r b (ap (λ (m : Memory). slice_get m r) (sym c.right) ∙ e) (alone r u) in
        (ap (λ (m : Memory). slice_get m r) d.right ∙ x.0, unpaired_later q12 q23 q13 d k12.related r x.1)
