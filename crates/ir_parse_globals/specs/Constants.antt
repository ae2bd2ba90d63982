-- Constants that a variable, or a part of one, begins with (LangRef, "Constants"), over what spells a shape.
use Rattle.std.specs.Prelude.{ℕ, Option, Some, None, option_map, List, [], ◌∷◌}
use Rattle.ir_lex.specs.declared.token_kind.TokenKind.{TokenKind}
use Rattle.ir_lex.specs.declared.token_kind.TokenKind.TheVariants as kinds
use Rattle.ir_lex.specs.TokenKinds.{number}
use Rattle.ir_lex.specs.Tok.{Tok}
use Rattle.ir_tree.specs.declared.operand.Reg.{Reg}
use Rattle.ir_tree.specs.declared.operand.Reg.TheVariants.{Int, Ptr}
use Rattle.ir_parse_parts.specs.Forms.{Form, ◌>>=◌, either, gives, token}
use Rattle.ir_parse_parts.specs.Rules.{is_valued}
use Rattle.ir_parse_parts.specs.Classes.{tokens, refusal}
use Rattle.ir_parse_parts.specs.declared.raw.InitHead.{InitHead}
use Rattle.ir_parse_parts.specs.declared.raw.InitHead.TheVariants as inits
use Rattle.ir_parse_parts.specs.declared.raw.Operand.{Operand}
use Rattle.ir_parse_parts.specs.declared.raw.Operand.TheVariants as operands
use Rattle.ir_parse_parts.specs.declared.shape.Typed.{Typed}
use Rattle.ir_parse_parts.specs.Literals.{literal}
use Rattle.ir_parse_parts.specs.Operands.{named}
use Rattle.ir_parse_operands.specs.Values.{address}

abbrev pub CONSTANTS : List ℕ
CONSTANTS = number kinds.Number ∷ number kinds.True ∷ number kinds.False ∷ number kinds.Null ∷ number kinds.Poison ∷ number kinds.Global ∷ number kinds.NumberedGlobal ∷ number kinds.NumberedDefinition ∷ []

-- the type of a constant: where no scalar begins with it, i1, which no shape in memory has
abbrev pub type_of : Option Reg → Reg
type_of (Some r) = r
type_of None = Int 1

abbrev pub plain : Operand → InitHead
plain x = inits.Plain x

-- a literal of an integer's type. For a pointer a number of any size is one of i1; where no scalar is written it is kept, since a type
-- name may stand for an integer
abbrev pub number_of : Option Reg → Tok → Option InitHead
number_of (Some (Int w)) t = option_map (λ bits. plain (operands.Number w bits)) (literal w t.text)
number_of (Some Ptr) t = Some (plain (operands.Number 1 0))
number_of None t = Some (inits.Number t)

-- what a token of such a class means, by its class
abbrev pub constant_by : TokenKind → Option Reg → Tok → Option InitHead
constant_by kinds.Number scalar t = number_of scalar t
constant_by kinds.True scalar t = Some (plain (operands.Number 1 1))
constant_by kinds.False scalar t = Some (plain (operands.Number 1 0))
constant_by kinds.Null scalar t = Some (plain operands.Null)
constant_by kinds.Poison scalar t = Some (plain (operands.Poison (type_of scalar)))
constant_by kinds.Global scalar t = Some (plain (operands.Global t))
constant_by kinds.NumberedGlobal scalar t = option_map (λ name. plain (operands.Global name)) (named t)
constant_by kinds.NumberedDefinition scalar t = option_map (λ name. plain (operands.Global name)) (named t)
constant_by h scalar t = None

abbrev pub constant_of : Option Reg → Tok → Option InitHead
constant_of scalar t = constant_by t.kind scalar t

-- Number / true / false / null / poison / Global
abbrev pub single : Option Reg → Form Tok InitHead
single scalar = token (is_valued tokens refusal CONSTANTS (constant_of scalar))

-- an operand that is no Local, which this scalar begins with, or what is none
unfoldable pub constant : Form Tok Typed → Option Reg → Form Tok InitHead
constant shape scalar = either
    (do
      v ← address shape
      gives (plain v))
    (single scalar)
