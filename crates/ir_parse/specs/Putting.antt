-- Items that are put behind those that were read before.
use Rattle.std.specs.Prelude.{Option, List}
use Rattle.ir_lex.specs.Tok.{Tok}
use Rattle.ir_parse_parts.specs.Readers.{Reader, ◌>>=◌, done}
use Rattle.ir_parse.specs.ItemForms.{keep}
use Rattle.ir_parse_parts.specs.declared.raw.Item.{Item}

-- what is read, put behind these items where it is kept
unfoldable pub behind_at : {S : Type 0} → List Item → Reader Tok (Option Item × S) → Reader Tok (List Item × S)
behind_at front f = do
  x ← f
  done (keep front x.0, x.1)
