-- What a load gives of marks.
use Rattle.std.proofs.Common.{◌≡◌, ℕ, zero, suc, ◌+◌, ◌*◌, ◌-◌, ◌≤◌, Bool, true, false, ◌&&◌, ◌==◌, if◌then◌else◌, List, [], ◌∷◌, Option, Some, None, length, refl, sym, ap, ◌∙◌, eq-eqb, eqb-true, arith}
use Rattle.std.proofs.Math.Nat.{add-sub_cancel}
use Rattle.std.specs.List.{list_any}
use Rattle.ir_tree.specs.declared.operand.Reg.TheVariants.{Int, Ptr}
use Rattle.ir_tree.specs.declared.operand.Symbol.{Symbol}
use Rattle.ir_meaning.specs.Bytes.{are_fragments, are_zero, has_spoilt, has_unset, or_poison, raised, read, read_number, read_pointer}
use Rattle.ir_meaning.specs.Operate.{Answer, Is, Unwritten}
use Rattle.ir_meaning.specs.Symbols.{base_eq}
use Rattle.ir_tree.proofs.Symbols.{symbol_self}
use Rattle.ir_meaning.specs.declared.value.Base.{Base as MeantBase}
use Rattle.ir_meaning.specs.declared.value.Base.TheVariants.{Cell, Code, Nowhere}
use Rattle.ir_meaning.specs.declared.value.Value.{Value as MeantValue}
use Rattle.ir_meaning.specs.declared.value.Value.TheVariants as value
use Rattle.ir_machine.specs.Bytes.{is_zero, marks_meant, null, pointer_in}
use Rattle.ir_machine.specs.Marks.{are_parts, is_spoilt, is_unset, marks_number}
use Rattle.ir_machine.specs.Meant.{base_meant, meant}
use Rattle.ir_machine.specs.declared.mark.ByteMark.{ByteMark}
use Rattle.ir_machine.specs.declared.mark.ByteMark.TheVariants.{Part, Plain, Spoilt, Unset}
use Rattle.ir_machine.specs.declared.scalar.Pointer.{Pointer}
use Rattle.ir_machine.specs.declared.scalar.Scalar.TheVariants as scalar

-- ---- the tests on marks are those on bytes

pub unset_same : (names : List Symbol) (at : ℕ → Pointer) (q : ℕ) (ms : List ByteMark) →
    has_unset (marks_meant names at q ms) ≡ list_any is_unset ms
unset_same names at q [] = refl
unset_same names at q (Unset ∷ ms) = refl
unset_same names at q (Spoilt ∷ ms) = unset_same names at (suc q) ms
unset_same names at q (Plain n ∷ ms) = unset_same names at (suc q) ms
unset_same names at q (Part i ∷ ms) = unset_same names at (suc q) ms

pub spoilt_same : (names : List Symbol) (at : ℕ → Pointer) (q : ℕ) (ms : List ByteMark) →
    has_spoilt (marks_meant names at q ms) ≡ list_any is_spoilt ms
spoilt_same names at q [] = refl
spoilt_same names at q (Unset ∷ ms) = spoilt_same names at (suc q) ms
spoilt_same names at q (Spoilt ∷ ms) = refl
spoilt_same names at q (Plain n ∷ ms) = spoilt_same names at (suc q) ms
spoilt_same names at q (Part i ∷ ms) = spoilt_same names at (suc q) ms

pub number_same : (names : List Symbol) (at : ℕ → Pointer) (q : ℕ) (ms : List ByteMark) →
    read_number (marks_meant names at q ms) ≡ marks_number ms
number_same names at q [] = refl
number_same names at q (Unset ∷ ms) = refl
number_same names at q (Spoilt ∷ ms) = refl
number_same names at q (Plain n ∷ ms) = ap (λ (o : Option ℕ). raised n o) (number_same names at (suc q) ms)
number_same names at q (Part i ∷ ms) = refl

-- ---- where a byte is unwritten or poison there is no number

pub unset_none : (ms : List ByteMark) → list_any is_unset ms ≡ true → marks_number ms ≡ None
unset_none [] h = absurd (cc h)
unset_none (Unset ∷ ms) h = refl
unset_none (Spoilt ∷ ms) h = refl
unset_none (Plain n ∷ ms) h = ap (λ (o : Option ℕ). raised n o) (unset_none ms h)
unset_none (Part i ∷ ms) h = refl

pub spoilt_none : (ms : List ByteMark) → list_any is_spoilt ms ≡ true → marks_number ms ≡ None
spoilt_none [] h = absurd (cc h)
spoilt_none (Unset ∷ ms) h = refl
spoilt_none (Spoilt ∷ ms) h = refl
spoilt_none (Plain n ∷ ms) h = ap (λ (o : Option ℕ). raised n o) (spoilt_none ms h)
spoilt_none (Part i ∷ ms) h = refl

no_unset : (ms : List ByteMark) (n : ℕ) (v : Bool) → list_any is_unset ms ≡ v → marks_number ms ≡ Some n → list_any is_unset ms ≡ false
no_unset ms n false e h = e
no_unset ms n true e h = let none : marks_number ms ≡ None = unset_none ms e in absurd (cc (none, h))

no_spoilt : (ms : List ByteMark) (n : ℕ) (v : Bool) → list_any is_spoilt ms ≡ v → marks_number ms ≡ Some n → list_any is_spoilt ms ≡ false
no_spoilt ms n false e h = e
no_spoilt ms n true e h = let none : marks_number ms ≡ None = spoilt_none ms e in absurd (cc (none, h))

-- ---- loads of integers

-- what a load gives by its three tests
abbrev pub picked : Bool → Bool → MeantValue → Answer
picked unset spoilt v = if unset then Unwritten else (if spoilt then Is value.Poison else Is v)

pub integer_read : (names : List Symbol) (at : ℕ → Pointer) (q w n : ℕ) (ms : List ByteMark) → marks_number ms ≡ Some n →
    read (Int w) (marks_meant names at q ms) ≡ Is (value.Number n)
integer_read names at q w n ms h =
    let u : has_unset (marks_meant names at q ms) ≡ false = unset_same names at q ms ∙ no_unset ms n (list_any is_unset ms) refl h in
    let s : has_spoilt (marks_meant names at q ms) ≡ false = spoilt_same names at q ms ∙ no_spoilt ms n (list_any is_spoilt ms) refl h in
    let r : read_number (marks_meant names at q ms) ≡ Some n = number_same names at q ms ∙ h in
    ap (λ (b : Bool). picked b (has_spoilt (marks_meant names at q ms)) (or_poison (read_number (marks_meant names at q ms)))) u
    ∙ ap (λ (b : Bool). picked false b (or_poison (read_number (marks_meant names at q ms)))) s
    ∙ ap (λ (o : Option ℕ). Is (or_poison o)) r

pub unset_read : (names : List Symbol) (at : ℕ → Pointer) (q w : ℕ) (ms : List ByteMark) → list_any is_unset ms ≡ true →
    read (Int w) (marks_meant names at q ms) ≡ Unwritten
unset_read names at q w ms h =
    ap (λ (b : Bool). picked b (has_spoilt (marks_meant names at q ms)) (or_poison (read_number (marks_meant names at q ms)))) (unset_same names at q ms ∙ h)

same_poison : (b : Bool) → picked false b value.Poison ≡ Is value.Poison
same_poison true = refl
same_poison false = refl

pub mixed_read : (names : List Symbol) (at : ℕ → Pointer) (q w : ℕ) (ms : List ByteMark) → list_any is_unset ms ≡ false → marks_number ms ≡ None →
    read (Int w) (marks_meant names at q ms) ≡ Is value.Poison
mixed_read names at q w ms h none =
    ap (λ (b : Bool). picked b (has_spoilt (marks_meant names at q ms)) (or_poison (read_number (marks_meant names at q ms)))) (unset_same names at q ms ∙ h)
    ∙ ap (λ (o : Option ℕ). picked false (has_spoilt (marks_meant names at q ms)) (or_poison o)) (number_same names at q ms ∙ none)
    ∙ same_poison (has_spoilt (marks_meant names at q ms))

-- ---- loads of pointers

pub base_self : (x : MeantBase) → base_eq x x ≡ true
base_self Nowhere = refl
base_self (Code s) = symbol_self s
base_self (Cell l) = eq-eqb l l refl

all_true : (a b c d : Bool) → a ≡ true → b ≡ true → c ≡ true → d ≡ true → (a && b && c && d) ≡ true
all_true a b c d e f g h =
    ap (λ (v : Bool). v && b && c && d) e ∙ ap (λ (v : Bool). v && c && d) f ∙ ap (λ (v : Bool). v && d) g ∙ h

first_false : (a b c d : Bool) → a ≡ false → (a && b && c && d) ≡ false
first_false a b c d e = ap (λ (v : Bool). v && b && c && d) e

last_false : (a b c d : Bool) → d ≡ false → (a && b && c && d) ≡ false
last_false false b c d e = refl
last_false true false c d e = refl
last_false true true false d e = refl
last_false true true true d e = e

both_left : (a b : Bool) → (a && b) ≡ true → a ≡ true
both_left true b e = refl
both_left false b e = e

both_right : (a b : Bool) → (a && b) ≡ true → b ≡ true
both_right true b e = e
both_right false b e = absurd (cc e)

pub parts_true : (names : List Symbol) (at : ℕ → Pointer) (q i : ℕ) (ms : List ByteMark) → are_parts i ms ≡ true →
    are_fragments i (base_meant names (at q).base) (at q).offset (marks_meant names at (q + i) ms) ≡ true
parts_true names at q i [] h = refl
parts_true names at q i (Unset ∷ ms) h = absurd (cc h)
parts_true names at q i (Spoilt ∷ ms) h = absurd (cc h)
parts_true names at q i (Plain n ∷ ms) h = absurd (cc h)
parts_true names at q i (Part j ∷ ms) h =
    let same : j ≡ i = eqb-true j i (both_left (j == i) (are_parts (suc i) ms) h) in
    let origin : q + i - j ≡ q = ap (λ (n : ℕ). q + i - n) same ∙ add-sub_cancel q i in
    all_true (i == j) (base_eq (base_meant names (at q).base) (base_meant names (at (q + i - j)).base)) ((at q).offset == (at (q + i - j)).offset)
    (are_fragments (suc i) (base_meant names (at q).base) (at q).offset (marks_meant names at (suc (q + i)) ms))
    (eq-eqb i j (sym same))
    (ap (λ (r : ℕ). base_eq (base_meant names (at q).base) (base_meant names (at r).base)) origin ∙ base_self (base_meant names (at q).base))
    (ap (λ (r : ℕ). (at q).offset == (at r).offset) origin ∙ eq-eqb (at q).offset (at q).offset refl)
    (ap (λ (r : ℕ). are_fragments (suc i) (base_meant names (at q).base) (at q).offset (marks_meant names at r ms)) (omega arith)
    ∙ parts_true names at q (suc i) ms (both_right (j == i) (are_parts (suc i) ms) h))

turned : (i j : ℕ) → (j == i) ≡ false → (i == j) ≡ false
turned i j h = by (i == j) refl where
  by : (v : Bool) → (i == j) ≡ v → (i == j) ≡ false
  by false e = e
  by true e = let back : (j == i) ≡ true = eq-eqb j i (sym (eqb-true i j e)) in absurd (cc (back, h))

parts_false_by : (names : List Symbol) (at : ℕ → Pointer) (q i : ℕ) (x : MeantBase) (o j : ℕ) (ms : List ByteMark) (v : Bool) → (j == i) ≡ v →
    ((j == i) && are_parts (suc i) ms) ≡ false →
    (are_parts (suc i) ms ≡ false → are_fragments (suc i) x o (marks_meant names at (suc q) ms) ≡ false) →
    are_fragments i x o (marks_meant names at q (Part j ∷ ms)) ≡ false
parts_false_by names at q i x o j ms false e h go =
    first_false (i == j) (base_eq x (base_meant names (at (q - j)).base)) (o == (at (q - j)).offset)
    (are_fragments (suc i) x o (marks_meant names at (suc q) ms)) (turned i j e)
parts_false_by names at q i x o j ms true e h go =
    last_false (i == j) (base_eq x (base_meant names (at (q - j)).base)) (o == (at (q - j)).offset)
    (are_fragments (suc i) x o (marks_meant names at (suc q) ms))
    (go (ap (λ (v : Bool). v && are_parts (suc i) ms) (sym e) ∙ h))

pub parts_false : (names : List Symbol) (at : ℕ → Pointer) (q i : ℕ) (x : MeantBase) (o : ℕ) (ms : List ByteMark) → are_parts i ms ≡ false →
    are_fragments i x o (marks_meant names at q ms) ≡ false
parts_false names at q i x o [] h = absurd (cc h)
parts_false names at q i x o (Unset ∷ ms) h = refl
parts_false names at q i x o (Spoilt ∷ ms) h = refl
parts_false names at q i x o (Plain n ∷ ms) h = refl
parts_false names at q i x o (Part j ∷ ms) h =
    parts_false_by names at q i x o j ms (j == i) refl h (λ (rest : are_parts (suc i) ms ≡ false). parts_false names at (suc q) (suc i) x o ms rest)

-- zero, as a test on the number and on the bytes

above_zero : (k n : ℕ) → k ≡ suc n → is_zero (Some k) ≡ false
above_zero k n e = ap (λ (m : ℕ). is_zero (Some m)) e

not_zero : (n : ℕ) → (suc n == 0) ≡ false
not_zero n = by (suc n == 0) refl where
  by : (v : Bool) → (suc n == 0) ≡ v → (suc n == 0) ≡ false
  by false e = e
  by true e = absurd (omega (arith, eqb-true (suc n) 0 e))

zero_raised : (n : ℕ) (r : Option ℕ) → is_zero (raised n r) ≡ ((n == 0) && is_zero r)
zero_raised zero None = refl
zero_raised (suc n) None = sym (ap (λ (b : Bool). b && false) (not_zero n))
zero_raised zero (Some zero) = refl
zero_raised zero (Some (suc m)) = above_zero (0 + 256 * suc m) (256 * m + 255) (omega arith)
zero_raised (suc n) (Some m) =
    above_zero (suc n + 256 * m) (n + 256 * m) (omega arith) ∙ sym (ap (λ (b : Bool). b && is_zero (Some m)) (not_zero n))

pub zero_same : (names : List Symbol) (at : ℕ → Pointer) (q : ℕ) (ms : List ByteMark) →
    is_zero (marks_number ms) ≡ are_zero (marks_meant names at q ms)
zero_same names at q [] = refl
zero_same names at q (Unset ∷ ms) = refl
zero_same names at q (Spoilt ∷ ms) = refl
zero_same names at q (Plain n ∷ ms) =
    zero_raised n (marks_number ms) ∙ ap (λ (b : Bool). (n == 0) && b) (zero_same names at (suc q) ms)
zero_same names at q (Part i ∷ ms) = refl

null_or_poison : (names : List Symbol) (b : Bool) →
    meant names (if b then scalar.Pointer null else scalar.Poison) ≡ (if b then value.Pointer Nowhere 0 else value.Poison)
null_or_poison names true = refl
null_or_poison names false = refl

both_false : (a b : Bool) → b ≡ false → (a && b) ≡ false
both_false true b e = e
both_false false b e = refl

not_head : (names : List Symbol) (at : ℕ → Pointer) (q j : ℕ) (ms : List ByteMark) (v : Bool) → (j == 0) ≡ v → ((j == 0) && are_parts 1 ms) ≡ false →
    ((0 == j) && are_fragments 1 (base_meant names (at (q - j)).base) (at (q - j)).offset (marks_meant names at (suc q) ms)) ≡ false
not_head names at q j ms false e h =
    ap (λ (b : Bool). b && are_fragments 1 (base_meant names (at (q - j)).base) (at (q - j)).offset (marks_meant names at (suc q) ms)) (turned 0 j e)
not_head names at q j ms true e h =
    both_false (0 == j) (are_fragments 1 (base_meant names (at (q - j)).base) (at (q - j)).offset (marks_meant names at (suc q) ms))
    (parts_false names at (suc q) 1 (base_meant names (at (q - j)).base) (at (q - j)).offset ms (ap (λ (b : Bool). b && are_parts 1 ms) (sym e) ∙ h))

-- the pointer of r, by whether the parts are its parts
part_head : (names : List Symbol) (at : ℕ → Pointer) (q j : ℕ) (ms : List ByteMark) (v : Bool) → ((j == 0) && are_parts 1 ms) ≡ v →
    meant names (if v then scalar.Pointer (at q) else scalar.Poison)
    ≡ (if (0 == j) && are_fragments 1 (base_meant names (at (q - j)).base) (at (q - j)).offset (marks_meant names at (suc q) ms)
    then value.Pointer (base_meant names (at (q - j)).base) (at (q - j)).offset else value.Poison)
part_head names at q j ms true e =
    let same : j ≡ 0 = eqb-true j 0 (both_left (j == 0) (are_parts 1 ms) e) in
    let origin : q ≡ q - j = omega (arith, same) in
    let head : (0 == j) ≡ true = eq-eqb 0 j (sym same) in
    let tail : are_fragments 1 (base_meant names (at q).base) (at q).offset (marks_meant names at (q + 1) ms) ≡ true =
    parts_true names at q 1 ms (both_right (j == 0) (are_parts 1 ms) e) in
    let tail' : are_fragments 1 (base_meant names (at (q - j)).base) (at (q - j)).offset (marks_meant names at (suc q) ms) ≡ true =
    ap (λ (r : ℕ). are_fragments 1 (base_meant names (at r).base) (at r).offset (marks_meant names at (suc q) ms)) (sym origin)
    ∙ ap (λ (r : ℕ). are_fragments 1 (base_meant names (at q).base) (at q).offset (marks_meant names at r ms)) (omega arith) ∙ tail in
    ap (λ (r : ℕ). value.Pointer (base_meant names (at r).base) (at r).offset) origin
    ∙ sym (ap (λ (b : Bool). if b then value.Pointer (base_meant names (at (q - j)).base) (at (q - j)).offset else value.Poison)
    (ap (λ (b : Bool). b && are_fragments 1 (base_meant names (at (q - j)).base) (at (q - j)).offset (marks_meant names at (suc q) ms)) head ∙ tail'))
part_head names at q j ms false e =
    sym (ap (λ (b : Bool). if b then value.Pointer (base_meant names (at (q - j)).base) (at (q - j)).offset else value.Poison)
    (not_head names at q j ms (j == 0) refl e))

pub pointer_same : (names : List Symbol) (at : ℕ → Pointer) (q : ℕ) (m : ByteMark) (ms : List ByteMark) →
    meant names (pointer_in (at q) (m ∷ ms)) ≡ read_pointer (marks_meant names at q (m ∷ ms))
pointer_same names at q Unset ms = refl
pointer_same names at q Spoilt ms = refl
pointer_same names at q (Plain n) ms =
    null_or_poison names (is_zero (raised n (marks_number ms)))
    ∙ ap (λ (b : Bool). if b then value.Pointer Nowhere 0 else value.Poison)
    (zero_raised n (marks_number ms) ∙ ap (λ (b : Bool). (n == 0) && b) (zero_same names at (suc q) ms))
pointer_same names at q (Part j) ms = part_head names at q j ms ((j == 0) && are_parts 1 ms) refl

-- a pointer of marks of which none is unwritten or poison
pub pointer_read : (names : List Symbol) (at : ℕ → Pointer) (q : ℕ) (ms : List ByteMark) → 1 ≤ length ms →
    list_any is_unset ms ≡ false → list_any is_spoilt ms ≡ false →
    read Ptr (marks_meant names at q ms) ≡ Is (meant names (pointer_in (at q) ms))
pointer_read names at q [] some u s = absurd (omega arith)
pointer_read names at q (m ∷ ms) some u s =
    ap (λ (b : Bool). picked b (has_spoilt (marks_meant names at q (m ∷ ms))) (read_pointer (marks_meant names at q (m ∷ ms)))) (unset_same names at q (m ∷ ms) ∙ u)
    ∙ ap (λ (b : Bool). picked false b (read_pointer (marks_meant names at q (m ∷ ms)))) (spoilt_same names at q (m ∷ ms) ∙ s)
    ∙ ap (λ (v : MeantValue). Is v) (sym (pointer_same names at q m ms))

pub pointer_unset : (names : List Symbol) (at : ℕ → Pointer) (q : ℕ) (ms : List ByteMark) → list_any is_unset ms ≡ true →
    read Ptr (marks_meant names at q ms) ≡ Unwritten
pointer_unset names at q ms u =
    ap (λ (b : Bool). picked b (has_spoilt (marks_meant names at q ms)) (read_pointer (marks_meant names at q ms))) (unset_same names at q ms ∙ u)

pub pointer_spoilt : (names : List Symbol) (at : ℕ → Pointer) (q : ℕ) (ms : List ByteMark) → list_any is_unset ms ≡ false → list_any is_spoilt ms ≡ true →
    read Ptr (marks_meant names at q ms) ≡ Is value.Poison
pointer_spoilt names at q ms u s =
    ap (λ (b : Bool). picked b (has_spoilt (marks_meant names at q ms)) (read_pointer (marks_meant names at q ms))) (unset_same names at q ms ∙ u)
    ∙ ap (λ (b : Bool). picked false b (read_pointer (marks_meant names at q ms))) (spoilt_same names at q ms ∙ s)
