-- Initialisers have the bytes that they have in the program, since constants have their values.
use Rattle.std.proofs.Common.{◌≡◌, List, [], refl, ap}
use Rattle.ir_tree.specs.declared.module.GlobalValue.{GlobalValue}
use Rattle.ir_tree.specs.declared.operand.Operand.{Operand}
use Rattle.ir_tree.specs.declared.operand.Operand.TheVariants as operand
use Rattle.ir_tree.specs.declared.operand.Symbol.{Symbol}
use Rattle.ir_meaning.specs.Frame.{Signature, value_of}
use Rattle.ir_meaning.specs.declared.value.Value.{Value}
use Rattle.ir_meaning.specs.Programs.{opening_from}
use Rattle.machine_code.specs.MemoryAddresses.{HasAddresses, value_in}
use Rattle.machine_code.specs.declared.bases.Bases.{Bases}

constant_is : (names : List Symbol) (sig : Signature) (t : Bases) → HasAddresses names sig t → (o : Operand) → value_in t names o ≡ value_of sig [] o
constant_is names sig t h (operand.Local x) = refl
constant_is names sig t h (operand.Number width bits) = refl
constant_is names sig t h operand.Null = refl
constant_is names sig t h (operand.Poison reg) = refl
constant_is names sig t h (operand.Symbol s offset) = h s offset

constants_are : (names : List Symbol) (sig : Signature) (t : Bases) → HasAddresses names sig t → value_in t names ≡ value_of sig []
constants_are names sig t h = λ i. λ (o : Operand). constant_is names sig t h o i

pub opening_is : (names : List Symbol) (sig : Signature) (t : Bases) → HasAddresses names sig t → (gs : List GlobalValue) → opening_from (value_in t names) gs ≡ opening_from (value_of sig []) gs
opening_is names sig t h gs = ap (λ (value : Operand → Value). opening_from value gs) (constants_are names sig t h)
