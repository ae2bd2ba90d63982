-- The values of a run's arguments.
use Rattle.std.proofs.Common.{◌≡◌, ℕ, ◌+◌, ◌<◌, List, [], ◌∷◌, ◌++◌, drop, length, get_or, map, refl, sym, ap, ◌∙◌, append_assoc}
use Rattle.std.proofs.lemmas.List.{drop_more}
use Rattle.ir_tree.specs.declared.operand.Symbol.{Symbol}
use Rattle.ir_meaning.specs.Memory.{Memory as MeantMemory}
use Rattle.ir_meaning.specs.declared.value.Value.{Value as MeantValue}
use Rattle.ir_meaning.specs.declared.value.Value.TheVariants as value
use Rattle.ir_machine.specs.declared.memory.Memory.{Memory}
use Rattle.ir_machine.specs.declared.scalar.Scalar.{Scalar}
use Rattle.ir_machine.specs.declared.scalar.Scalar.TheVariants.{Number}
use Rattle.ir_interp.specs.Calls.{AreValid, all_meant}
use Rattle.ir_interp.specs.Steps.{numbers_meant}

pub one_more : (ns : List ℕ) (i d : ℕ) (vs more : List Scalar) → i < length ns → more ≡ vs ++ Number (get_or ns i d) ∷ [] → more ++ map Number (drop (i + 1) ns) ≡ vs ++ map Number (drop i ns)
one_more ns i d vs more less pushed =
    ap (λ (l : List Scalar). l ++ map Number (drop (i + 1) ns)) pushed
    ∙ append_assoc vs (Number (get_or ns i d) ∷ []) (map Number (drop (i + 1) ns))
    ∙ ap (λ (l : List ℕ). vs ++ map Number l) (sym (drop_more ns i d less))

pub meant_numbers : (names : List Symbol) (ns : List ℕ) → all_meant names (map Number ns) ≡ numbers_meant ns
meant_numbers names [] = refl
meant_numbers names (n ∷ ns) = ap (λ (vs : List MeantValue). value.Number n ∷ vs) (meant_numbers names ns)

pub valid_numbers : (names : List Symbol) (m : Memory) (memory : MeantMemory) (ns : List ℕ) → AreValid names m memory (map Number ns)
valid_numbers names m memory [] = tt
valid_numbers names m memory (n ∷ ns) = ((tt, tt), valid_numbers names m memory ns)
