-- Functions as they are printed (LangRef, "Functions").
use Rattle.std.specs.Prelude.{ℕ, List, [], ◌∷◌, ◌++◌, codes}
use Rattle.ir_lex.specs.Pieces.{Piece}
use Rattle.ir_tree.specs.declared.block.Block.{Block}
use Rattle.ir_tree.specs.declared.function.Function.{Function}
use Rattle.ir_tree.specs.declared.function.Linkage.{Linkage}
use Rattle.ir_tree.specs.declared.function.Linkage.TheVariants as linkages
use Rattle.ir_tree.specs.declared.function.Param.{Param}
use Rattle.ir_print.specs.Tokens.{tight, space, next_line, word, mark, comma, local, global, optional}
use Rattle.ir_print.specs.Types.{register, result}
use Rattle.ir_print.specs.Blocks.{blocks}

-- nothing for external
abbrev pub linkage : Linkage → List Piece
linkage linkages.Private = word space (codes "private")
linkage linkages.Internal = word space (codes "internal")
linkage linkages.External = []
linkage linkages.Linkonce = word space (codes "linkonce")
linkage linkages.LinkonceOdr = word space (codes "linkonce_odr")
linkage linkages.Weak = word space (codes "weak")
linkage linkages.WeakOdr = word space (codes "weak_odr")
linkage linkages.AvailableExternally = word space (codes "available_externally")

abbrev pub param : List ℕ → Param → List Piece
param blank p = register blank p.reg ++ local space p.local

abbrev pub further_params : List Param → List Piece
further_params [] = []
further_params (p ∷ rest) = (comma ++ param space p) ++ further_params rest

abbrev pub params : List Param → List Piece
params [] = []
params (p ∷ rest) = param tight p ++ further_params rest

-- the parameters of a declaration have no names
abbrev pub further_types : List Param → List Piece
further_types [] = []
further_types (p ∷ rest) = (comma ++ register space p.reg) ++ further_types rest

abbrev pub types : List Param → List Piece
types [] = []
types (p ∷ rest) = register tight p.reg ++ further_types rest

-- T @f(
abbrev pub signature : Function → List Piece
signature f = result f.result ++ (global space f.symbol.name ++ mark tight 40)

abbrev pub declaration : Function → List Piece
declaration f = word tight (codes "declare") ++ (signature f ++ (types f.params ++ mark tight 41))

abbrev pub attributes : Function → List Piece
attributes f = optional (codes "noinline") f.noinline ++ optional (codes "optnone") f.optnone

-- { blocks }
abbrev pub body : List Block → List Piece
body bs = mark space 123 ++ (blocks bs ++ mark next_line 125)

abbrev pub definition : Function → List Piece
definition f =
    word tight (codes "define") ++ (linkage f.linkage ++ (signature f ++ (params f.params ++ (mark tight 41 ++ (attributes f ++ body f.blocks)))))

abbrev pub by_blocks : List Block → Function → List Piece
by_blocks [] f = declaration f
by_blocks (b ∷ bs) f = definition f

-- one without blocks is a declaration
abbrev pub function : Function → List Piece
function f = by_blocks f.blocks f
