-- What is printed of a function before its attributes and its body (LangRef, "Functions").
use Rattle.std.specs.Prelude.{List, ◌++◌}
use Rattle.ir_lex.specs.Pieces.{Piece}
use Rattle.ir_print.specs.Functions.{linkage, params, signature, types}
use Rattle.ir_print.specs.Tokens.{tight, mark}
use Rattle.ir_tree.specs.declared.function.Function.{Function}

-- behind `define`
abbrev pub head_pieces : Function → List Piece
head_pieces f = linkage f.linkage ++ (signature f ++ (params f.params ++ mark tight 41))

-- behind `declare`
abbrev pub declared_pieces : Function → List Piece
declared_pieces f = signature f ++ (types f.params ++ mark tight 41)
