-- Calls that the grammar spells.
use Rattle.std.proofs.Common.{Bool, true, false, List, [], ◌∷◌, Option, Some, None}
use Rattle.std.specs.List.{AllByRecursion as Each}
use Rattle.std.specs.Prelude.{IfSome}
use Rattle.std.proofs.lemmas.List.Elements.{All-from_recursion}
use Rattle.ir_parse_bodies.specs.Calls.{any_arguments, argument, argument_behind, argument_of, arguments, arguments_of, called, called_value, callee, calling, each_further, further_argument, further_of, marker, some_arguments, some_of, tail_calling, type_again, unmarked, unmarked_value}
use Rattle.ir_lex.specs.Tok.{Tok}
use Rattle.ir_parse_operands.specs.ShapeForms.{memory_shape}
use Rattle.ir_parse_parts.specs.declared.raw.Argument.{Argument}
use Rattle.ir_parse_parts.specs.declared.raw.Operand.{Operand}
use Rattle.ir_tree.specs.Formed.{IsReg, IsResult}
use Rattle.ir_tree.specs.declared.operand.Reg.{Reg}
use Rattle.ir_tree.specs.declared.operand.Reg.TheVariants.{Ptr}
use Rattle.ir_parse.specs.Written.{ArgumentWritten, OperandWritten}
use Rattle.ir_parse.proofs.Instructions.{Named}
use Rattle.ir_parse.proofs.Means.{Means, either_means, exact_means, follow, nothing, skip, star_means, valued_means}
use Rattle.ir_parse.proofs.Operands.{address_written, operand_written, reg_is, reg_written, result_written, token_written}

-- ---- arguments

behind_written : (r : Reg) → IsReg r → Means (argument_behind memory_shape r) ArgumentWritten
unfolding argument_behind
behind_written r h = skip _ (λ _. follow (operand_written memory_shape r h) (λ v g. nothing (h, g)))

argument_written : Means (argument memory_shape) ArgumentWritten
unfolding argument
argument_written = follow reg_written (λ r h. behind_written r h)

further_written : Means (further_argument memory_shape) ArgumentWritten
unfolding further_argument
further_written = skip _ (λ _. argument_written)

some_written : Means (some_arguments memory_shape) (Each ArgumentWritten)
unfolding some_arguments
some_written = follow argument_written (λ first h. follow (star_means further_written) (λ more g. nothing (h, g)))

any_written : Means (any_arguments memory_shape) (Each ArgumentWritten)
unfolding any_arguments
any_written = either_means (follow some_written (λ as' h. skip _ (λ _. nothing h))) (skip _ (λ _. nothing tt))

-- ---- arguments of the types that are written

again_written : (w : Tok) → Means (type_again w) IsReg
again_written w = exact_means _ _ _ _ (λ t s c. reg_is t)

of_written : (w : Tok) → Means (argument_of memory_shape w) ArgumentWritten
unfolding argument_of
of_written w = follow (again_written w) (λ r h. behind_written r h)

further_of_written : (w : Tok) → Means (further_of memory_shape w) ArgumentWritten
unfolding further_of
further_of_written w = skip _ (λ _. of_written w)

each_written : (ws : List Tok) → Means (each_further memory_shape ws) (Each ArgumentWritten)
each_written [] = nothing tt
each_written (w ∷ ws) = follow (further_of_written w) (λ a h. follow (each_written ws) (λ more g. nothing (h, g)))

some_of_written : (w : Tok) (ws : List Tok) → Means (some_of memory_shape w ws) (Each ArgumentWritten)
unfolding some_of
some_of_written w ws = follow (of_written w) (λ first h. follow (each_written ws) (λ more g. nothing (h, g)))

arguments_of_written : (ws : List Tok) → Means (arguments_of memory_shape ws) (Each ArgumentWritten)
arguments_of_written [] = skip _ (λ _. nothing tt)
arguments_of_written (w ∷ ws) = follow (some_of_written w ws) (λ as' h. skip _ (λ _. nothing h))

arguments_written : (ws : Option (List Tok)) → Means (arguments memory_shape ws) (Each ArgumentWritten)
arguments_written None = any_written
arguments_written (Some ws) = arguments_of_written ws

-- ---- what is called

value_written : Means (called_value memory_shape) (λ f. IfSome f OperandWritten)
unfolding called_value
value_written = follow (operand_written memory_shape Ptr tt) (λ v h. nothing h)

marker_written : Means marker (λ f. IfSome f OperandWritten)
unfolding marker
marker_written = skip _ (λ _. nothing tt)

unmarked_written : Means unmarked OperandWritten
unmarked_written = valued_means _ _ (λ t o s e. token_written Ptr tt t o e)

unmarked_value_written : Means (unmarked_value memory_shape) (λ f. IfSome f OperandWritten)
unfolding unmarked_value
unmarked_value_written = follow (either_means (address_written memory_shape) unmarked_written) (λ v h. nothing h)

callee_written : (named : Bool) (r : Option Reg) → Means (callee memory_shape named r) (λ f. IfSome f OperandWritten)
callee_written named (Some r) = value_written
callee_written true None = unmarked_value_written
callee_written false None = either_means marker_written value_written

-- ---- calls

module _ (name : Option Tok) where
  called_written : (r : Option Reg) (f : Option Operand) (as' : List Argument) → IsResult r → IfSome f OperandWritten → Each ArgumentWritten as' → IfSome (called r f as') (Named name)
  called_written r None as' h g k = tt
  called_written r (Some f) as' h g k = ((h, g, All-from_recursion ArgumentWritten as' k), tt)

  pub calling_written : (named : Bool) → Means (calling memory_shape named) (λ i. IfSome i (Named name))
  unfolding calling
  calling_written named =
      skip _ (λ _.
      follow result_written (λ r h.
      skip _ (λ ws.
      follow (callee_written named r) (λ f g. skip _ (λ _. follow (arguments_written ws) (λ as' k. skip _ (λ _. skip _ (λ _. nothing (called_written r f as' h g k)))))))))

  pub tail_calling_written : (named : Bool) → Means (tail_calling memory_shape named) (λ i. IfSome i (Named name))
  unfolding tail_calling
  tail_calling_written named = skip _ (λ _. calling_written named)
