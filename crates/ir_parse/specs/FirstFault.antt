-- The first fault of bytes that are read as no module.
use Rattle.std.specs.Prelude.{◌≡◌, ◌⊎◌, ℕ, Bool, true, false, List, [], ◌∷◌, ◌++◌, Err}
use Rattle.ir_parse_parts.specs.Faults.{Extends, Viable}
use Rattle.ir_lex.specs.Lexing.{AreTokens, IsLexed}
use Rattle.ir_lex.specs.Tok.{Tok}
use Rattle.ir_parse_names.specs.declared.fault.Fault as names
use Rattle.ir_parse_parts.specs.Classes.{tokens}
use Rattle.ir_parse_parts.specs.declared.raw.Item.{Item}
use Rattle.ir_parse.specs.Modules.{whole_module}
use Rattle.ir_tree.specs.declared.fault_kind.FaultKind.{FaultKind}
use Rattle.ir_tree.specs.declared.fault_kind.FaultKind.TheVariants as kinds
use Rattle.ir_parse.specs.Kinds.{name_fault}
use Rattle.ir_parse.specs.Refusals.{IsRefusedFor}
use Rattle.ir_parse.specs.Stages.{module_in}

-- ---- the grammar

-- no module goes on with the next token. Where none is left, the tokens are no module, unless it is the text's next bytes that are none
abbrev pub IsStuck : List Tok → List Tok → Bool → Type 0
IsStuck front (t ∷ rest) whole = Extends whole_module (front ++ t ∷ []) → ⊥
IsStuck front [] true = (items : List Item) → whole_module front items → ⊥
IsStuck front [] false = Unit {0}

-- the line of the next token, or else of the end or of the bytes that are no token
abbrev pub line_of : List Tok → ℕ → ℕ
line_of [] end = end
line_of (t ∷ rest) end = t.line

abbrev pub end_kind : Bool → FaultKind
end_kind true = kinds.Syntax
end_kind false = kinds.Lex

-- what is told of the next token, or of the end
abbrev pub IsTold : List Tok → List Tok → Bool → FaultKind → Type 0
IsTold front (t ∷ rest) whole kind = IsRefusedFor front t kind
IsTold front [] whole kind = kind ≡ end_kind whole

-- of these tokens the first so many go on to a module, and with the next one none does
pub record Stuck (written : List Tok) (whole : Bool) (end line : ℕ) (kind : FaultKind) : Type 0 where
  pub front : List Tok
  pub rest : List Tok
  pub parts : written ≡ front ++ rest
  pub before : Viable tokens whole_module front
  pub stuck : IsStuck front rest whole
  pub place : line ≡ line_of rest end
  pub told : IsTold front rest whole kind

-- the first place at which no reading goes on, and why. The tokens of the text are those up to its end, or to the first bytes that
-- are none
pub record GrammarFault (bytes : List ℕ) (line : ℕ) (kind : FaultKind) : Type 0 where
  pub written : List Tok
  pub whole : Bool
  pub end : ℕ
  pub cut : IsLexed bytes written whole end
  pub first : Stuck written whole end line kind

-- ---- the stages behind it

-- the text is in the grammar, and this is what the first stage finds that finds a fault
pub record NameFault (bytes : List ℕ) (line : ℕ) (kind : FaultKind) : Type 0 where
  pub written : List Tok
  pub items : List Item
  pub cut : AreTokens bytes written
  pub spelled : whole_module written items
  pub fault : names.Fault
  pub found : module_in items ≡ Err fault
  pub place : line ≡ fault.line
  pub told : kind ≡ name_fault fault.kind

abbrev pub FirstFault : List ℕ → ℕ → FaultKind → Type 0
FirstFault bytes line kind = GrammarFault bytes line kind ⊎ NameFault bytes line kind
