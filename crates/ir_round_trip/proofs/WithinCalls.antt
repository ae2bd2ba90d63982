-- Calls that the grammar spells: constants are of the types of the arguments.
use Rattle.std.proofs.Common.{Bool, true, false, List, [], ◌∷◌, Option, Some, None}
use Rattle.std.specs.List.{AllByRecursion as Each}
use Rattle.std.specs.Prelude.{IfSome}
use Rattle.ir_parse_bodies.specs.Calls.{any_arguments, argument, argument_behind, argument_of, arguments, arguments_of, called, called_value, callee, calling, each_further, further_argument, further_of, marker, some_arguments, some_of, unmarked, unmarked_value}
use Rattle.ir_lex.specs.Tok.{Tok}
use Rattle.ir_parse_operands.specs.ShapeForms.{memory_shape}
use Rattle.ir_parse_parts.specs.declared.raw.Argument.{Argument}
use Rattle.ir_parse_parts.specs.declared.raw.Instr.{Instr}
use Rattle.ir_parse_parts.specs.declared.raw.Operand.{Operand}
use Rattle.ir_tree.specs.declared.operand.Reg.{Reg}
use Rattle.ir_tree.specs.declared.operand.Reg.TheVariants.{Ptr}
use Rattle.ir_round_trip.specs.Spelled.{ArgumentSpelled, InstrSpelled, OperandSpelled}
use Rattle.ir_round_trip.proofs.Means.{Means, either_means, follow, nothing, skip, star_means, valued_means}
use Rattle.ir_round_trip.proofs.WithinOperands.{address_means, operand_spelled, token_spelled}

-- ---- arguments

behind_spelled : (r : Reg) → Means (argument_behind memory_shape r) ArgumentSpelled
unfolding argument_behind
behind_spelled r = skip _ (λ _. follow (operand_spelled r) (λ v g. nothing g))

argument_spelled : Means (argument memory_shape) ArgumentSpelled
unfolding argument
argument_spelled = skip _ (λ r. behind_spelled r)

further_spelled : Means (further_argument memory_shape) ArgumentSpelled
unfolding further_argument
further_spelled = skip _ (λ _. argument_spelled)

some_spelled : Means (some_arguments memory_shape) (Each ArgumentSpelled)
unfolding some_arguments
some_spelled = follow argument_spelled (λ first h. follow (star_means further_spelled) (λ more g. nothing (h, g)))

any_spelled : Means (any_arguments memory_shape) (Each ArgumentSpelled)
unfolding any_arguments
any_spelled = either_means (follow some_spelled (λ as' h. skip _ (λ _. nothing h))) (skip _ (λ _. nothing tt))

-- ---- arguments of the types that are written

of_spelled : (w : Tok) → Means (argument_of memory_shape w) ArgumentSpelled
unfolding argument_of
of_spelled w = skip _ (λ r. behind_spelled r)

further_of_spelled : (w : Tok) → Means (further_of memory_shape w) ArgumentSpelled
unfolding further_of
further_of_spelled w = skip _ (λ _. of_spelled w)

each_spelled : (ws : List Tok) → Means (each_further memory_shape ws) (Each ArgumentSpelled)
each_spelled [] = nothing tt
each_spelled (w ∷ ws) = follow (further_of_spelled w) (λ a h. follow (each_spelled ws) (λ more g. nothing (h, g)))

some_of_spelled : (w : Tok) (ws : List Tok) → Means (some_of memory_shape w ws) (Each ArgumentSpelled)
unfolding some_of
some_of_spelled w ws = follow (of_spelled w) (λ first h. follow (each_spelled ws) (λ more g. nothing (h, g)))

arguments_of_spelled : (ws : List Tok) → Means (arguments_of memory_shape ws) (Each ArgumentSpelled)
arguments_of_spelled [] = skip _ (λ _. nothing tt)
arguments_of_spelled (w ∷ ws) = follow (some_of_spelled w ws) (λ as' h. skip _ (λ _. nothing h))

arguments_spelled : (ws : Option (List Tok)) → Means (arguments memory_shape ws) (Each ArgumentSpelled)
arguments_spelled None = any_spelled
arguments_spelled (Some ws) = arguments_of_spelled ws

-- ---- what is called

abbrev IfCalled : Option Operand → Type 0
IfCalled f = IfSome f (OperandSpelled Ptr)

value_spelled : Means (called_value memory_shape) IfCalled
unfolding called_value
value_spelled = follow (operand_spelled Ptr) (λ v h. nothing h)

marker_spelled : Means marker IfCalled
unfolding marker
marker_spelled = skip _ (λ _. nothing tt)

unmarked_spelled : Means unmarked (OperandSpelled Ptr)
unmarked_spelled = valued_means _ _ (λ t o s e. token_spelled Ptr t o e)

unmarked_value_spelled : Means (unmarked_value memory_shape) IfCalled
unfolding unmarked_value
unmarked_value_spelled = follow {P = OperandSpelled Ptr} (either_means (address_means (λ s. tt)) unmarked_spelled) (λ v h. nothing h)

callee_spelled : (named : Bool) (r : Option Reg) → Means (callee memory_shape named r) IfCalled
callee_spelled named (Some r) = value_spelled
callee_spelled true None = unmarked_value_spelled
callee_spelled false None = either_means marker_spelled value_spelled

-- ---- calls

abbrev pub IfSpelled : Option Instr → Type 0
IfSpelled i = IfSome i InstrSpelled

called_spelled : (r : Option Reg) (f : Option Operand) (as' : List Argument) → IfCalled f → Each ArgumentSpelled as' → IfSpelled (called r f as')
called_spelled r None as' g k = tt
called_spelled r (Some f) as' g k = (g, k)

pub calling_spelled : (named : Bool) → Means (calling memory_shape named) IfSpelled
unfolding calling
calling_spelled named =
    skip _ (λ _.
    skip _ (λ r. skip _ (λ ws. follow (callee_spelled named r) (λ f g. skip _ (λ _. follow (arguments_spelled ws) (λ as' k. skip _ (λ _. skip _ (λ _. nothing (called_spelled r f as' g k)))))))))
