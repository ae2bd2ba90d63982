-- Operands as they are printed (LangRef, "Constants" and "Identifiers").
use Rattle.std.specs.Prelude.{ℕ, nat_eq, if◌then◌else◌, List, [], ◌∷◌, ◌++◌, codes}
use Rattle.ir_lex.specs.Pieces.{Piece}
use Rattle.ir_tree.specs.declared.operand.Argument.{Argument}
use Rattle.ir_tree.specs.declared.operand.Operand.{Operand}
use Rattle.ir_tree.specs.declared.operand.Operand.TheVariants.{Local, Number, Null, Poison, Symbol}
use Rattle.ir_tree.specs.declared.operand.Reg.{Reg}
use Rattle.ir_print.specs.Tokens.{tight, space, word, mark, comma, local, global, width, signed_piece, number}
use Rattle.ir_print.specs.Types.{register}

-- behind the address of a symbol that it begins: the offset, as a constant address computation over bytes
abbrev pub displaced : List ℕ → ℕ → List Piece
displaced name offset =
    mark space 40 ++ (width tight 8 ++ (comma ++ (word space (codes "ptr") ++ (global space name ++ (comma ++ (width space 64 ++ (signed_piece space 64 offset ++ mark tight 41)))))))

-- the bare name at offset 0
abbrev pub address : List ℕ → List ℕ → ℕ → List Piece
address blank name offset = if nat_eq offset 0 then global blank name else word blank (codes "getelementptr") ++ displaced name offset

abbrev pub operand : List ℕ → Operand → List Piece
operand blank (Local n) = local blank n
operand blank (Number w bits) = number blank w bits
operand blank Null = word blank (codes "null")
operand blank (Poison reg) = word blank (codes "poison")
operand blank (Symbol symbol offset) = address blank symbol.name offset

-- an operand behind its type
abbrev pub typed : List ℕ → Reg → Operand → List Piece
typed blank reg x = register blank reg ++ operand space x

abbrev pub further_typed : List Argument → List Piece
further_typed [] = []
further_typed (a ∷ rest) = (comma ++ typed space a.reg a.operand) ++ further_typed rest

abbrev pub all_typed : List Argument → List Piece
all_typed [] = []
all_typed (a ∷ rest) = typed tight a.reg a.operand ++ further_typed rest
