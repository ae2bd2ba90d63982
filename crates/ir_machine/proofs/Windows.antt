-- Parts of the bytes that marks mean.
use Rattle.std.proofs.Common.{◌≡◌, ℕ, zero, suc, ◌+◌, ◌≤◌, List, [], ◌∷◌, ◌++◌, length, take, drop, refl, sym, ap, ◌∙◌, add-zero, zero-add, arith}
use Rattle.std.proofs.lemmas.List.{length-take-le}
use Rattle.ir_tree.specs.declared.operand.Symbol.{Symbol}
use Rattle.ir_meaning.specs.Access.{overwritten}
use Rattle.ir_meaning.specs.declared.value.Byte.{Byte}
use Rattle.ir_machine.specs.Bytes.{mark_meant, marks_meant}
use Rattle.ir_machine.specs.declared.mark.ByteMark.{ByteMark}
use Rattle.ir_machine.specs.declared.scalar.Pointer.{Pointer}

-- the same marks from the same place
pub placed : (names : List Symbol) (at : ℕ → Pointer) (q r : ℕ) (ms : List ByteMark) → q ≡ r → marks_meant names at q ms ≡ marks_meant names at r ms
placed names at q r ms e = ap (λ (n : ℕ). marks_meant names at n ms) e

pub dropped : (names : List Symbol) (at : ℕ → Pointer) (q o : ℕ) (ms : List ByteMark) →
    drop o (marks_meant names at q ms) ≡ marks_meant names at (q + o) (drop o ms)
dropped names at q zero ms = placed names at q (q + 0) ms (sym (add-zero q))
dropped names at q (suc o) [] = refl
dropped names at q (suc o) (m ∷ ms) =
    dropped names at (suc q) o ms ∙ placed names at (suc q + o) (q + suc o) (drop o ms) (omega arith)

pub taken : (names : List Symbol) (at : ℕ → Pointer) (q k : ℕ) (ms : List ByteMark) →
    take k (marks_meant names at q ms) ≡ marks_meant names at q (take k ms)
taken names at q zero ms = refl
taken names at q (suc k) [] = refl
taken names at q (suc k) (m ∷ ms) = ap (λ (bs : List Byte). mark_meant names at q m ∷ bs) (taken names at (suc q) k ms)

-- k bytes from place o on
pub window : (names : List Symbol) (at : ℕ → Pointer) (k o : ℕ) (ms : List ByteMark) →
    take k (drop o (marks_meant names at 0 ms)) ≡ marks_meant names at o (take k (drop o ms))
window names at k o ms =
    ap (λ (bs : List Byte). take k bs) (dropped names at 0 o ms)
    ∙ taken names at (0 + o) k (drop o ms)
    ∙ placed names at (0 + o) o (take k (drop o ms)) (zero-add o)

-- the same, of marks and a size that are given otherwise
pub window_of : (names : List Symbol) (at : ℕ → Pointer) (k n o : ℕ) (ms given : List ByteMark) → given ≡ ms → n ≡ k →
    take k (drop o (marks_meant names at 0 ms)) ≡ marks_meant names at o (take n (drop o given))
window_of names at k n o ms given e f =
    window names at k o ms
    ∙ ap (λ (xs : List ByteMark). marks_meant names at o (take k (drop o xs))) (sym e)
    ∙ ap (λ (i : ℕ). marks_meant names at o (take i (drop o given))) (sym f)

pub appended : (names : List Symbol) (at : ℕ → Pointer) (q : ℕ) (xs ys : List ByteMark) →
    marks_meant names at q (xs ++ ys) ≡ marks_meant names at q xs ++ marks_meant names at (q + length xs) ys
appended names at q [] ys = placed names at q (q + 0) ys (sym (add-zero q))
appended names at q (x ∷ xs) ys =
    ap (λ (bs : List Byte). mark_meant names at q x ∷ bs) (appended names at (suc q) xs ys)
    ∙ ap (λ (bs : List Byte). mark_meant names at q x ∷ (marks_meant names at (suc q) xs ++ bs))
    (placed names at (suc q + length xs) (q + suc (length xs)) ys (omega arith))

pub as_many : (names : List Symbol) (at : ℕ → Pointer) (q : ℕ) (ms : List ByteMark) → length (marks_meant names at q ms) ≡ length ms
as_many names at q [] = refl
as_many names at q (m ∷ ms) = ap (λ (n : ℕ). suc n) (as_many names at (suc q) ms)

-- the bytes with others in place of some
pub overwritten_meant : (names : List Symbol) (at : ℕ → Pointer) (o : ℕ) (ms new : List ByteMark) → o ≤ length ms →
    marks_meant names at 0 (take o ms ++ (new ++ drop (o + length new) ms))
    ≡ overwritten (marks_meant names at 0 ms) o (marks_meant names at o new)
overwritten_meant names at o ms new h =
    let front : marks_meant names at 0 (take o ms) ≡ take o (marks_meant names at 0 ms) = sym (taken names at 0 o ms) in
    let count : 0 + length (take o ms) ≡ o = zero-add (length (take o ms)) ∙ length-take-le o ms h in
    let behind : marks_meant names at (o + length new) (drop (o + length new) ms) ≡ drop (o + length new) (marks_meant names at 0 ms) =
    placed names at (o + length new) (0 + (o + length new)) (drop (o + length new) ms) (sym (zero-add (o + length new))) ∙ sym (dropped names at 0 (o + length new) ms) in
    appended names at 0 (take o ms) (new ++ drop (o + length new) ms)
    ∙ ap (λ (bs : List Byte). bs ++ marks_meant names at (0 + length (take o ms)) (new ++ drop (o + length new) ms)) front
    ∙ ap (λ (bs : List Byte). take o (marks_meant names at 0 ms) ++ bs)
    (placed names at (0 + length (take o ms)) o (new ++ drop (o + length new) ms) count
    ∙ appended names at o new (drop (o + length new) ms)
    ∙ ap (λ (bs : List Byte). marks_meant names at o new ++ bs) behind
    ∙ ap (λ (k : ℕ). marks_meant names at o new ++ drop (o + k) (marks_meant names at 0 ms)) (sym (as_many names at o new)))
