-- Printed operands resolve to themselves, with the definitions of the function known.
use Rattle.std.proofs.Common.{◌≡◌, ℕ, Ok, List, refl, sym, ap, ◌∙◌}
use Rattle.ir_lex.specs.Tok.{Tok}
use Rattle.ir_parse_names.specs.Bodies.{operand_in, argument_in, incoming_in}
use Rattle.ir_parse_names.specs.Locals.{number_in}
use Rattle.ir_parse_names.specs.Resolving.{◌>>=◌}
use Rattle.ir_parse_names.specs.Symbols.{symbol_of}
use Rattle.ir_parse_names.specs.Types.{Types}
use Rattle.ir_parse_names.specs.declared.locals.Sort.{Sort}
use Rattle.ir_parse_names.specs.declared.locals.Sort.TheVariants.{Value, Block}
use Rattle.ir_parse_parts.specs.declared.raw.Argument as raw_argument
use Rattle.ir_parse_parts.specs.declared.raw.Incoming as raw_incoming
use Rattle.ir_parse_parts.specs.declared.raw.Operand as raw_operand
use Rattle.ir_parse_parts.specs.declared.raw.Operand.TheVariants as ro
use Rattle.ir_tree.specs.declared.instr.Incoming.{Incoming}
use Rattle.ir_tree.specs.declared.operand.Argument.{Argument}
use Rattle.ir_tree.specs.declared.operand.Operand.{Operand}
use Rattle.ir_tree.specs.declared.operand.Operand.TheVariants.{Local, Number, Null, Poison, Symbol}
use Rattle.ir_tree.specs.declared.operand.Reg.{Reg}
use Rattle.ir_tree.specs.declared.operand.Symbol as tree_symbol
use Rattle.ir_round_trip.proofs.Binds.{bound}
use Rattle.ir_round_trip.proofs.Keys.{local_key}
use Rattle.ir_round_trip.proofs.Shapes.{offset_again}
use Rattle.ir_round_trip.proofs.Symbols.{symbol_again}
use Rattle.ir_round_trip.proofs.Uses.{known_with, number_again}
use Rattle.ir_round_trip.specs.PrintedKnown.{IsDefinedAs, OperandKnown, ArgumentKnown}
use Rattle.ir_round_trip.specs.PartsPrinted.{IsNumber, IsOperand, IsArgument, IsIncoming}
use Rattle.ir_round_trip.specs.PartsReadable.{IsSmall, OperandReadable, ArgumentReadable, IncomingReadable}

module _ (types : Types) (ss : List Sort) where
  pub target_again : (n : ℕ) (t : Tok) → IsSmall n → IsDefinedAs ss Block n → IsNumber n t → number_in (known_with ss) Block t ≡ Ok n
  target_again n t small d i = number_again ss Block n t d (local_key n t small i)

  pub operand_again : (reg : Reg) (x : Operand) (y : raw_operand.Operand) → OperandReadable reg x → OperandKnown ss x → IsOperand x y → operand_in types (known_with ss) y ≡ Ok x
  operand_again reg (Local n) (ro.Local t) h k i = bound (λ m. Ok (Local m)) (number_again ss Value n t k (local_key n t h i)) refl
  operand_again reg (Number w bits) (ro.Number v read) h k i = ap (λ (u : ℕ). Ok (Number u read)) i.0 ∙ ap (λ (b : ℕ). Ok (Number w b)) i.1
  operand_again reg Null ro.Null h k i = refl
  operand_again reg (Poison r) (ro.Poison read) h k i = ap (λ (g : Reg). Ok (Poison g)) i
  operand_again reg (Symbol symbol offset) (ro.Global t) h k i =
      ap (λ (s : tree_symbol.Symbol). Ok (Symbol s 0)) (symbol_again symbol t k h.name i.0) ∙ ap (λ (n : ℕ). Ok (Symbol symbol n)) (sym i.1)
  operand_again reg (Symbol symbol offset) (ro.Address steps) h k i =
      bound (λ n. Ok (Symbol (symbol_of steps.name) n)) (offset_again types symbol.name offset steps h.offset i) (ap (λ (s : tree_symbol.Symbol). Ok (Symbol s offset)) (symbol_again symbol steps.name k h.name i.name))
  operand_again reg x y h k i = absurd i

  pub argument_again : (a : Argument) (b : raw_argument.Argument) → ArgumentReadable a → ArgumentKnown ss a → IsArgument a b → argument_in types (known_with ss) b ≡ Ok a
  argument_again a b h k i =
      bound (λ o. Ok (record { reg = b.reg; operand = o })) (operand_again a.reg a.operand b.operand h.1 k i.1) (ap (λ (r : Reg). Ok (record { reg = r; operand = a.operand })) i.0)

  abbrev pub EntryKnown : Incoming → Type 0
  EntryKnown e = OperandKnown ss e.value × IsDefinedAs ss Block e.from

  pub incoming_again : (reg : Reg) (e : Incoming) (r : raw_incoming.Incoming) → IncomingReadable reg e → EntryKnown e → IsIncoming e r → incoming_in types (known_with ss) r ≡ Ok e
  incoming_again reg e r h k i =
      bound (λ o. number_in (known_with ss) Block r.from >>= λ b. Ok (record { from = b; value = o })) (operand_again reg e.value r.value h.0 k.0 i.0)
      (bound (λ b. Ok (record { from = b; value = e.value })) (target_again e.from r.from h.1 k.1 i.1) refl)
