-- Whole modules (LangRef, "Module Structure").
use Rattle.std.specs.Prelude.{ℕ, Result, List, length, drop, ◌-◌}
use Rattle.ir_lex.specs.declared.token.Token.{Token}
use Rattle.ir_lex.specs.TokenKinds.{number}
use Rattle.ir_lex.specs.Tok.{Tok, toks}
use Rattle.ir_parse_parts.specs.declared.fault.Fault.{Fault}
use Rattle.ir_parse_parts.specs.declared.fault.TokenFault.{TokenFault}
use Rattle.ir_parse_parts.specs.Forms.{Form}
use Rattle.ir_parse_parts.specs.Readers.{whole_of}
use Rattle.ir_parse_heads.specs.FunctionHeads.{name_refusal}
use Rattle.ir_parse_parts.specs.declared.raw.Item.{Item}
use Rattle.ir_parse.specs.ItemForms.{items, any_items}
use Rattle.ir_parse.specs.ItemFormsAt.{items_at}

-- a function has at most so many parameters behind the first
unfoldable pub FURTHER_PARAMETERS : ℕ
FURTHER_PARAMETERS = 65534

-- a module defines and declares at most so many global names
unfoldable pub GLOBAL_NAMES : ℕ
GLOBAL_NAMES = 65535

-- a module's tokens, and its items
unfoldable pub whole_module : Form Tok (List Item)
whole_module = items FURTHER_PARAMETERS GLOBAL_NAMES

-- the same without limits on how many parameters, global names, blocks and instructions there are
unfoldable pub any_module : Form Tok (List Item)
any_module = any_items GLOBAL_NAMES

-- ---- reading one

-- why a token can't stand where an item may begin
abbrev pub item_refusal : Tok → TokenFault
item_refusal t = name_refusal (number t.kind)

unfoldable pub module_of : List Tok → Result (List Item) Fault
module_of ts = whole_of item_refusal (items_at FURTHER_PARAMETERS GLOBAL_NAMES ts)

-- the last tokens, so many
abbrev pub last_tokens : List Token → ℕ → List Tok
last_tokens all left = toks (drop (length all - left) all)
