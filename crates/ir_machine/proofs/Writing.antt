-- What a store makes of marks.
use Rattle.std.proofs.Common.{◌≡◌, ◌≢◌, ℕ, zero, suc, ◌+◌, ◌-◌, ◌/◌, ◌%◌, ◌≤◌, ◌<◌, nat_lt, Bool, true, false, ◌&&◌, List, [], ◌∷◌, ◌++◌, length, take, drop, replicate, refl, sym, ap, ◌∙◌, zero-add, arith}
use Rattle.std.proofs.Math.Nat.{add-sub_cancel}
use Rattle.std.proofs.lemmas.List.{length-append, length-drop, length-take-le, take-append-drop}
use borrow.Author.Tests.{ltb-true}
use Rattle.ir_tree.specs.declared.operand.Symbol.{Symbol}
use Rattle.ir_meaning.specs.Access.{overwritten}
use Rattle.ir_meaning.specs.Bytes.{fragments, number_bytes}
use Rattle.ir_meaning.specs.declared.value.Byte.{Byte}
use Rattle.ir_meaning.specs.declared.value.Byte.TheVariants as byte
use Rattle.ir_machine.specs.Bytes.{marks_meant, part_of}
use Rattle.ir_machine.specs.Marks.{are_small, number_marks, part_marks}
use Rattle.ir_machine.specs.Meant.{base_meant}
use Rattle.ir_machine.specs.declared.mark.ByteMark.{ByteMark}
use Rattle.ir_machine.specs.declared.mark.ByteMark.TheVariants.{Part, Plain, Spoilt, Unset}
use Rattle.ir_machine.specs.declared.scalar.Pointer.{Pointer}
use Rattle.ir_machine.proofs.Windows.{appended, dropped, overwritten_meant, placed, taken}

-- ---- what new marks mean

pub number_meant : (names : List Symbol) (at : ℕ → Pointer) (q k n : ℕ) → marks_meant names at q (number_marks k n) ≡ number_bytes k n
number_meant names at q zero n = refl
number_meant names at q (suc k) n = ap (λ (bs : List Byte). byte.Plain (n % 256) ∷ bs) (number_meant names at (suc q) k (n / 256))

pub poison_meant : (names : List Symbol) (at : ℕ → Pointer) (q k : ℕ) → marks_meant names at q (replicate k Spoilt) ≡ replicate k byte.Spoilt
poison_meant names at q zero = refl
poison_meant names at q (suc k) = ap (λ (bs : List Byte). byte.Spoilt ∷ bs) (poison_meant names at (suc q) k)

pub parts_meant : (names : List Symbol) (at : ℕ → Pointer) (q k i : ℕ) →
    marks_meant names at (q + i) (part_marks k i) ≡ fragments k i (base_meant names (at q).base) (at q).offset
parts_meant names at q zero i = refl
parts_meant names at q (suc k) i =
    ap (λ (r : ℕ). part_of names i (at r) ∷ marks_meant names at (suc (q + i)) (part_marks k (suc i))) (add-sub_cancel q i)
    ∙ ap (λ (bs : List Byte). part_of names i (at q) ∷ bs)
    (placed names at (suc (q + i)) (q + suc i) (part_marks k (suc i)) (omega arith) ∙ parts_meant names at q k (suc i))

pub number_long : (k n : ℕ) → length (number_marks k n) ≡ k
number_long zero n = refl
number_long (suc k) n = ap (λ (m : ℕ). suc m) (number_long k (n / 256))

pub poison_long : (k : ℕ) → length (replicate k Spoilt) ≡ k
poison_long zero = refl
poison_long (suc k) = ap (λ (m : ℕ). suc m) (poison_long k)

-- ---- indices of parts stay small

both_true : (a b : Bool) → a ≡ true → b ≡ true → (a && b) ≡ true
both_true a b e f = ap (λ (v : Bool). v && b) e ∙ f

left_true : (a b : Bool) → (a && b) ≡ true → a ≡ true
left_true true b e = refl
left_true false b e = e

right_true : (a b : Bool) → (a && b) ≡ true → b ≡ true
right_true true b e = e
right_true false b e = absurd (cc e)

pub small_joined : (xs ys : List ByteMark) → are_small xs ≡ true → are_small ys ≡ true → are_small (xs ++ ys) ≡ true
small_joined [] ys e f = f
small_joined (Unset ∷ xs) ys e f = small_joined xs ys e f
small_joined (Spoilt ∷ xs) ys e f = small_joined xs ys e f
small_joined (Plain n ∷ xs) ys e f = small_joined xs ys e f
small_joined (Part i ∷ xs) ys e f =
    both_true (nat_lt i 8) (are_small (xs ++ ys)) (left_true (nat_lt i 8) (are_small xs) e) (small_joined xs ys (right_true (nat_lt i 8) (are_small xs) e) f)

pub small_left : (xs ys : List ByteMark) → are_small (xs ++ ys) ≡ true → are_small xs ≡ true
small_left [] ys e = refl
small_left (Unset ∷ xs) ys e = small_left xs ys e
small_left (Spoilt ∷ xs) ys e = small_left xs ys e
small_left (Plain n ∷ xs) ys e = small_left xs ys e
small_left (Part i ∷ xs) ys e =
    both_true (nat_lt i 8) (are_small xs) (left_true (nat_lt i 8) (are_small (xs ++ ys)) e) (small_left xs ys (right_true (nat_lt i 8) (are_small (xs ++ ys)) e))

pub small_right : (xs ys : List ByteMark) → are_small (xs ++ ys) ≡ true → are_small ys ≡ true
small_right [] ys e = e
small_right (Unset ∷ xs) ys e = small_right xs ys e
small_right (Spoilt ∷ xs) ys e = small_right xs ys e
small_right (Plain n ∷ xs) ys e = small_right xs ys e
small_right (Part i ∷ xs) ys e = small_right xs ys (right_true (nat_lt i 8) (are_small (xs ++ ys)) e)

pub small_front : (o : ℕ) (ms : List ByteMark) → are_small ms ≡ true → are_small (take o ms) ≡ true
small_front o ms e = small_left (take o ms) (drop o ms) (ap are_small (take-append-drop o ms) ∙ e)

pub small_back : (o : ℕ) (ms : List ByteMark) → are_small ms ≡ true → are_small (drop o ms) ≡ true
small_back o ms e = small_right (take o ms) (drop o ms) (ap are_small (take-append-drop o ms) ∙ e)

pub small_number : (k n : ℕ) → are_small (number_marks k n) ≡ true
small_number zero n = refl
small_number (suc k) n = small_number k (n / 256)

pub small_poison : (k : ℕ) → are_small (replicate k Spoilt) ≡ true
small_poison zero = refl
small_poison (suc k) = small_poison k

-- marks with others in place of some
pub small_written : (o k : ℕ) (ms new : List ByteMark) → are_small ms ≡ true → are_small new ≡ true → are_small (take o ms ++ (new ++ drop (o + k) ms)) ≡ true
small_written o k ms new e f =
    small_joined (take o ms) (new ++ drop (o + k) ms) (small_front o ms e) (small_joined new (drop (o + k) ms) f (small_back (o + k) ms e))

pub long_written : (o k : ℕ) (ms new : List ByteMark) → o + k ≤ length ms → length new ≡ k → length (take o ms ++ (new ++ drop (o + k) ms)) ≡ length ms
long_written o k ms new h e =
    let whole : length (take o ms ++ (new ++ drop (o + k) ms)) ≡ length (take o ms) + length (new ++ drop (o + k) ms) = length-append (take o ms) (new ++ drop (o + k) ms) in
    let part : length (new ++ drop (o + k) ms) ≡ length new + length (drop (o + k) ms) = length-append new (drop (o + k) ms) in
    let front : length (take o ms) ≡ o = length-take-le o ms (omega (arith, h)) in
    let back : length (drop (o + k) ms) ≡ length ms - (o + k) = length-drop (o + k) ms in
    omega (arith, h, e, whole, part, front, back)

-- ---- another pointer at a place changes what the parts of the old one mean, and nothing else

pub kept_before : (names : List Symbol) (at at' : ℕ → Pointer) (o : ℕ) → ((r : ℕ) → r ≢ o → at' r ≡ at r) → (q : ℕ) (ms : List ByteMark) →
    q + length ms ≤ o → marks_meant names at' q ms ≡ marks_meant names at q ms
kept_before names at at' o same q [] h = refl
kept_before names at at' o same q (Unset ∷ ms) h = ap (λ (bs : List Byte). byte.Unset ∷ bs) (kept_before names at at' o same (suc q) ms (omega (arith, h)))
kept_before names at at' o same q (Spoilt ∷ ms) h = ap (λ (bs : List Byte). byte.Spoilt ∷ bs) (kept_before names at at' o same (suc q) ms (omega (arith, h)))
kept_before names at at' o same q (Plain n ∷ ms) h = ap (λ (bs : List Byte). byte.Plain n ∷ bs) (kept_before names at at' o same (suc q) ms (omega (arith, h)))
kept_before names at at' o same q (Part i ∷ ms) h =
    ap (λ (p : Pointer). part_of names i p ∷ marks_meant names at' (suc q) ms) (same (q - i) (λ (e : q - i ≡ o). omega (arith, e, h)))
    ∙ ap (λ (bs : List Byte). part_of names i (at (q - i)) ∷ bs) (kept_before names at at' o same (suc q) ms (omega (arith, h)))

pub kept_behind : (names : List Symbol) (at at' : ℕ → Pointer) (o : ℕ) → ((r : ℕ) → r ≢ o → at' r ≡ at r) → (q : ℕ) (ms : List ByteMark) →
    are_small ms ≡ true → o + 8 ≤ q → marks_meant names at' q ms ≡ marks_meant names at q ms
kept_behind names at at' o same q [] s h = refl
kept_behind names at at' o same q (Unset ∷ ms) s h = ap (λ (bs : List Byte). byte.Unset ∷ bs) (kept_behind names at at' o same (suc q) ms s (omega (arith, h)))
kept_behind names at at' o same q (Spoilt ∷ ms) s h = ap (λ (bs : List Byte). byte.Spoilt ∷ bs) (kept_behind names at at' o same (suc q) ms s (omega (arith, h)))
kept_behind names at at' o same q (Plain n ∷ ms) s h = ap (λ (bs : List Byte). byte.Plain n ∷ bs) (kept_behind names at at' o same (suc q) ms s (omega (arith, h)))
kept_behind names at at' o same q (Part i ∷ ms) s h =
    let few : i < 8 = ltb-true i 8 (left_true (nat_lt i 8) (are_small ms) s) in
    ap (λ (p : Pointer). part_of names i p ∷ marks_meant names at' (suc q) ms) (same (q - i) (λ (e : q - i ≡ o). omega (arith, e, h, few)))
    ∙ ap (λ (bs : List Byte). part_of names i (at (q - i)) ∷ bs)
    (kept_behind names at at' o same (suc q) ms (right_true (nat_lt i 8) (are_small ms) s) (omega (arith, h)))

-- ---- stores

pub number_stored : (names : List Symbol) (at : ℕ → Pointer) (o k n : ℕ) (ms new : List ByteMark) → o + k ≤ length ms →
    new ≡ take o ms ++ (number_marks k n ++ drop (o + k) ms) →
    marks_meant names at 0 new ≡ overwritten (marks_meant names at 0 ms) o (number_bytes k n)
number_stored names at o k n ms new h e =
    ap (λ (xs : List ByteMark). marks_meant names at 0 xs) e
    ∙ ap (λ (j : ℕ). marks_meant names at 0 (take o ms ++ (number_marks k n ++ drop (o + j) ms))) (sym (number_long k n))
    ∙ overwritten_meant names at o ms (number_marks k n) (omega (arith, h))
    ∙ ap (λ (bs : List Byte). overwritten (marks_meant names at 0 ms) o bs) (number_meant names at o k n)

pub poison_stored : (names : List Symbol) (at : ℕ → Pointer) (o k : ℕ) (ms new : List ByteMark) → o + k ≤ length ms →
    new ≡ take o ms ++ (replicate k Spoilt ++ drop (o + k) ms) →
    marks_meant names at 0 new ≡ overwritten (marks_meant names at 0 ms) o (replicate k byte.Spoilt)
poison_stored names at o k ms new h e =
    ap (λ (xs : List ByteMark). marks_meant names at 0 xs) e
    ∙ ap (λ (j : ℕ). marks_meant names at 0 (take o ms ++ (replicate k Spoilt ++ drop (o + j) ms))) (sym (poison_long k))
    ∙ overwritten_meant names at o ms (replicate k Spoilt) (omega (arith, h))
    ∙ ap (λ (bs : List Byte). overwritten (marks_meant names at 0 ms) o bs) (poison_meant names at o k)

-- the marks around the eight parts mean what they meant
around : (names : List Symbol) (at at' : ℕ → Pointer) (o : ℕ) (ms : List ByteMark) → ((r : ℕ) → r ≢ o → at' r ≡ at r) → are_small ms ≡ true → o + 8 ≤ length ms →
    (new : List ByteMark) → length new ≡ 8 →
    marks_meant names at' 0 (take o ms ++ (new ++ drop (o + 8) ms))
    ≡ marks_meant names at 0 (take o ms) ++ (marks_meant names at' o new ++ marks_meant names at (o + 8) (drop (o + 8) ms))
around names at at' o ms same s h new eight =
    let count : 0 + length (take o ms) ≡ o = zero-add (length (take o ms)) ∙ length-take-le o ms (omega (arith, h)) in
    appended names at' 0 (take o ms) (new ++ drop (o + 8) ms)
    ∙ ap (λ (bs : List Byte). bs ++ marks_meant names at' (0 + length (take o ms)) (new ++ drop (o + 8) ms))
    (kept_before names at at' o same 0 (take o ms) (omega (arith, count)))
    ∙ ap (λ (bs : List Byte). marks_meant names at 0 (take o ms) ++ bs)
    (placed names at' (0 + length (take o ms)) o (new ++ drop (o + 8) ms) count
    ∙ appended names at' o new (drop (o + 8) ms)
    ∙ ap (λ (bs : List Byte). marks_meant names at' o new ++ bs)
    (placed names at' (o + length new) (o + 8) (drop (o + 8) ms) (ap (λ (n : ℕ). o + n) eight)
    ∙ kept_behind names at at' o same (o + 8) (drop (o + 8) ms) (small_back (o + 8) ms s) (omega arith)))

pub pointer_stored : (names : List Symbol) (at at' : ℕ → Pointer) (o : ℕ) (p : Pointer) (ms new : List ByteMark) →
    ((r : ℕ) → r ≢ o → at' r ≡ at r) → at' o ≡ p → are_small ms ≡ true → o + 8 ≤ length ms →
    new ≡ take o ms ++ (part_marks 8 0 ++ drop (o + 8) ms) →
    marks_meant names at' 0 new ≡ overwritten (marks_meant names at 0 ms) o (fragments 8 0 (base_meant names p.base) p.offset)
pointer_stored names at at' o p ms new same here s h e =
    let bytes : marks_meant names at' o (part_marks 8 0) ≡ fragments 8 0 (base_meant names p.base) p.offset =
    placed names at' o (o + 0) (part_marks 8 0) (omega arith) ∙ parts_meant names at' o 8 0
    ∙ ap (λ (r : Pointer). fragments 8 0 (base_meant names r.base) r.offset) here in
    let back : marks_meant names at (o + 8) (drop (o + 8) ms) ≡ drop (o + 8) (marks_meant names at 0 ms) =
    placed names at (o + 8) (0 + (o + 8)) (drop (o + 8) ms) (omega arith) ∙ sym (dropped names at 0 (o + 8) ms) in
    ap (λ (xs : List ByteMark). marks_meant names at' 0 xs) e
    ∙ around names at at' o ms same s h (part_marks 8 0) refl
    ∙ ap (λ (bs : List Byte). bs ++ (marks_meant names at' o (part_marks 8 0) ++ marks_meant names at (o + 8) (drop (o + 8) ms))) (sym (taken names at 0 o ms))
    ∙ ap (λ (bs : List Byte). take o (marks_meant names at 0 ms) ++ (bs ++ marks_meant names at (o + 8) (drop (o + 8) ms))) bytes
    ∙ ap (λ (bs : List Byte). take o (marks_meant names at 0 ms) ++ (fragments 8 0 (base_meant names p.base) p.offset ++ bs)) back
