-- Blocks that begin with one mark everywhere.
use Rattle.std.proofs.Common.{◌≡◌, ℕ, zero, suc, ◌-◌, true, List, [], ◌∷◌, ◌++◌, take, replicate, refl, ap, ◌∙◌, arith}
use Rattle.ir_tree.specs.declared.operand.Symbol.{Symbol}
use Rattle.ir_meaning.specs.declared.value.Byte.{Byte}
use Rattle.ir_meaning.specs.declared.value.Byte.TheVariants as byte
use Rattle.ir_machine.specs.Bytes.{marks_meant}
use Rattle.ir_machine.specs.Marks.{are_small}
use Rattle.ir_machine.specs.declared.mark.ByteMark.{ByteMark}
use Rattle.ir_machine.specs.declared.mark.ByteMark.TheVariants.{Plain, Unset}
use Rattle.ir_machine.specs.declared.scalar.Pointer.{Pointer}

take_none : (n : ℕ) → take n (let none : List ByteMark = [] in none) ≡ []
take_none zero = refl
take_none (suc n) = refl

-- an empty list that was filled up
pub filled : (n l : ℕ) (old new : List ByteMark) (m : ByteMark) → new ≡ take n old ++ replicate (n - l) m → old ≡ [] → l ≡ 0 → new ≡ replicate n m
filled n l old new m e f g =
    e ∙ ap (λ (ms : List ByteMark). take n ms ++ replicate (n - l) m) f
    ∙ ap (λ (k : ℕ). take n [] ++ replicate (n - k) m) g
    ∙ ap (λ (ms : List ByteMark). ms ++ replicate (n - 0) m) (take_none n)
    ∙ ap (λ (k : ℕ). replicate k m) (omega arith)

pub unset_meant : (names : List Symbol) (at : ℕ → Pointer) (q n : ℕ) → marks_meant names at q (replicate n Unset) ≡ replicate n byte.Unset
unset_meant names at q zero = refl
unset_meant names at q (suc n) = ap (λ (bs : List Byte). byte.Unset ∷ bs) (unset_meant names at (suc q) n)

pub zeros_meant : (names : List Symbol) (at : ℕ → Pointer) (q n : ℕ) → marks_meant names at q (replicate n (Plain 0)) ≡ replicate n (byte.Plain 0)
zeros_meant names at q zero = refl
zeros_meant names at q (suc n) = ap (λ (bs : List Byte). byte.Plain 0 ∷ bs) (zeros_meant names at (suc q) n)

pub unset_small : (n : ℕ) → are_small (replicate n Unset) ≡ true
unset_small zero = refl
unset_small (suc n) = unset_small n

pub zeros_small : (n : ℕ) → are_small (replicate n (Plain 0)) ≡ true
zeros_small zero = refl
zeros_small (suc n) = zeros_small n
