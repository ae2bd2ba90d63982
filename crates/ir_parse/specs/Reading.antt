-- The module that bytes are read as.
use Rattle.std.specs.Prelude.{◌≡◌, ℕ, List, Ok}
use Rattle.ir_lex.specs.Lexing.{AreTokens}
use Rattle.ir_lex.specs.Tok.{Tok}
use Rattle.ir_parse_parts.specs.declared.raw.Item.{Item}
use Rattle.ir_tree.specs.declared.module.Module.{Module}
use Rattle.ir_parse.specs.Modules.{whole_module}
use Rattle.ir_parse.specs.Lines.{lines_of}
use Rattle.ir_parse.specs.Stages.{module_in}

-- the bytes are these tokens, the grammar has them as these items, the items stand for the module, and its parts begin on these lines
pub record Reads (bytes : List ℕ) (m : Module) (lines : List (List ℕ)) : Type 0 where
  pub written : List Tok
  pub items : List Item
  pub cut : AreTokens bytes written
  pub spelled : whole_module written items
  pub stand : module_in items ≡ Ok m
  pub lined : lines ≡ lines_of items
