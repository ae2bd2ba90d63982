-- What the form of initialisers says of what they mean: their parts are those of a tree.
use Rattle.std.specs.Prelude.{ℕ, zero, suc, Option, Some, None, List, [], ◌∷◌}
use Rattle.ir_lex.specs.Tok.{Tok}
use Rattle.ir_tree.specs.declared.operand.Reg.{Reg}
use Rattle.ir_parse_parts.specs.declared.raw.Init.{Init}
use Rattle.ir_parse_parts.specs.declared.raw.InitPart.{InitPart}
use Rattle.ir_parse_parts.specs.declared.raw.InitPart.TheVariants as init_parts
use Rattle.ir_parse_operands.specs.ShapeForms.{memory_shape}
use Rattle.ir_parse_globals.specs.Initialisers.{aggregate_of, initialiser}
use Rattle.ir_parse_globals.specs.declared.initialisers.Aggregate.{Aggregate}

-- how many aggregates are open behind a beginning
abbrev pub deeper : Option Aggregate → ℕ → ℕ
deeper None n = n
deeper (Some a) n = suc n

-- these parts end so many aggregates, and each that begins among them, and nothing stands behind the last end
abbrev pub Close : ℕ → List InitPart → Type 0
Close zero [] = Unit {0}
Close zero (p ∷ ps) = ⊥
Close (suc n) [] = ⊥
Close (suc n) (init_parts.Typed typed head ∷ ps) = Close (deeper (aggregate_of head) (suc n)) ps
Close (suc n) (init_parts.End ∷ ps) = Close n ps

-- the parts of an initialiser end it, where it has parts, and each aggregate in it
abbrev pub IsClosed : Init → Type 0
IsClosed i = Close (deeper (aggregate_of i.root) 0) i.parts

-- whatever tokens spell an initialiser, it is closed
abbrev pub EachIsClosed : Type 0
EachIsClosed = (scalar : Option Reg) (ts : List Tok) (i : Init) → initialiser memory_shape scalar ts i → IsClosed i
