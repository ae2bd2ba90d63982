-- Basic blocks and terminators as they are printed (LangRef, "Terminator Instructions").
use Rattle.std.specs.Prelude.{ℕ, List, [], ◌∷◌, ◌++◌, Option, Some, None, codes}
use Rattle.ir_lex.specs.Pieces.{Piece}
use Rattle.ir_tree.specs.declared.block.Block.{Block}
use Rattle.ir_tree.specs.declared.block.Case.{Case}
use Rattle.ir_tree.specs.declared.block.Terminator.{Terminator}
use Rattle.ir_tree.specs.declared.block.Terminator.TheVariants.{Return, Jump, Branch, Switch, Unreachable}
use Rattle.ir_tree.specs.declared.instr.Phi.{Phi}
use Rattle.ir_tree.specs.declared.operand.Argument.{Argument}
use Rattle.ir_tree.specs.declared.operand.Operand.{Operand}
use Rattle.ir_print.specs.Tokens.{space, indent, word, mark, comma, local, width, number, label_line}
use Rattle.ir_print.specs.Types.{register}
use Rattle.ir_print.specs.Operands.{operand, typed}
use Rattle.ir_print.specs.Instructions.{phi, lines}

-- label %b
abbrev pub target : ℕ → List Piece
target b = word space (codes "label") ++ local space b

abbrev pub switch_case : Case → List Piece
switch_case c = register space c.reg ++ (number space c.width c.bits ++ (comma ++ target c.target))

abbrev pub cases : List Case → List Piece
cases [] = []
cases (c ∷ rest) = switch_case c ++ cases rest

abbrev pub answer : Option Argument → List Piece
answer None = word space (codes "void")
answer (Some a) = typed space a.reg a.operand

-- x, label %b
abbrev pub decided : Operand → ℕ → List Piece
decided x b = operand space x ++ (comma ++ target b)

abbrev pub terminator : Terminator → List Piece
terminator (Return a) = word indent (codes "ret") ++ answer a
terminator (Jump b) = word indent (codes "br") ++ target b
terminator (Branch c if_true if_false) = word indent (codes "br") ++ (width space 1 ++ (decided c if_true ++ (comma ++ target if_false)))
terminator (Switch w x default more) =
    word indent (codes "switch") ++ (width space w ++ (decided x default ++ (mark space 91 ++ (cases more ++ mark space 93))))
terminator Unreachable = word indent (codes "unreachable")

abbrev pub phi_line : Phi → List Piece
phi_line p = local indent p.local ++ (mark space 61 ++ phi space p.reg p.incoming)

abbrev pub phis : List Phi → List Piece
phis [] = []
phis (p ∷ rest) = phi_line p ++ phis rest

-- a block without its label
abbrev pub content : Block → List Piece
content b = phis b.phis ++ (lines b.lines ++ terminator b.end)

abbrev pub labelled : Block → List Piece
labelled b = label_line b.number ++ content b

abbrev pub further_blocks : List Block → List Piece
further_blocks [] = []
further_blocks (b ∷ rest) = labelled b ++ further_blocks rest

-- the entry has no label
abbrev pub blocks : List Block → List Piece
blocks [] = []
blocks (b ∷ rest) = content b ++ further_blocks rest
