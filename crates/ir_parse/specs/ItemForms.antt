-- Items of a module, and where each may stand (LangRef, "Module Structure").
--
-- Behind the head of a declaration its attributes follow, up to the next item: so a form of an item knows what stands
-- before it, and says what stands before the next one.
use Rattle.std.specs.Prelude.{ℕ, zero, suc, ◌-◌, Bool, true, nat_eq, if◌then◌else◌, Option, Some, None, List, [], ◌∷◌, ◌++◌}
use Rattle.std.specs.List.{fold}
use Rattle.ir_lex.specs.declared.token_kind.TokenKind.TheVariants as kinds
use Rattle.ir_lex.specs.TokenKinds.{number}
use Rattle.ir_lex.specs.Tok.{Tok}
use Rattle.ir_parse_parts.specs.Chained.{Chain}
use Rattle.ir_parse_parts.specs.Forms.{Form, ◌>>=◌, either, gives, Star}
use Rattle.ir_parse_bodies.specs.Blocks.{definition, any_definition}
use Rattle.ir_parse_globals.specs.TypeDefinitions.{type_line}
use Rattle.ir_parse_globals.specs.Variables.{variable_name, any_variable_name, variable_line}
use Rattle.ir_parse_heads.specs.Attributes.{head_attribute, attribute_group}
use Rattle.ir_parse_parts.specs.Classes.{the}
use Rattle.ir_parse_heads.specs.FunctionHeads.{head, any_head}
use Rattle.ir_parse_parts.specs.Metadata.{attached, metadata_line}
use Rattle.ir_parse_parts.specs.MetadataBehind.{metadata_behind, node_yet}
use Rattle.ir_parse_heads.specs.Targets.{target_line, source_line, comdat_line}
use Rattle.ir_parse_heads.specs.declared.function_heads.Role.TheVariants as roles
use Rattle.ir_parse_parts.specs.declared.places.Before.{Before}
use Rattle.ir_parse_parts.specs.declared.places.Before.TheVariants as befores
use Rattle.ir_parse_parts.specs.declared.places.Position.{Position}
use Rattle.ir_parse_parts.specs.declared.raw.FunctionHeader.{FunctionHeader}
use Rattle.ir_parse_parts.specs.declared.raw.Item.{Item}
use Rattle.ir_parse_parts.specs.declared.raw.Item.TheVariants.{Declaration}
use Rattle.ir_parse_parts.specs.declared.shape.Typed.{Typed}
use Rattle.ir_parse_operands.specs.ShapeForms.{any_shape, memory_shape}

-- an item, where it is kept, and what stands before the next one
abbrev pub ParsedItem : Type 0
ParsedItem = Option Item × Before

unfoldable pub left_out : Form Tok (Unit {0}) → Form Tok ParsedItem
left_out g = do
  _ ← g
  gives (None, befores.Item)

unfoldable pub kept : Form Tok Item → Form Tok ParsedItem
kept g = do
  i ← g
  gives (Some i, befores.Item)

-- ---- items that define and declare no global name, over what spells a shape

unfoldable pub unnamed : Form Tok Typed → Form Tok ParsedItem
unnamed shape = either (left_out source_line)
    (either (kept target_line)
    (either (left_out comdat_line)
    (either (kept (type_line shape))
    (kept attribute_group))))

-- an attribute behind a declaration's head, which is dropped
unfoldable pub attribute_behind : Form Tok ParsedItem
attribute_behind = do
  _ ← head_attribute
  gives (None, befores.Declaration)

unfoldable pub placed : Form Tok Before → Form Tok ParsedItem
placed g = do
  before ← g
  gives (None, before)

-- metadata, by what stands before it
abbrev pub metadata_there : Before → Form Tok ParsedItem
metadata_there befores.Item = left_out metadata_line
metadata_there befores.Declaration = placed metadata_behind
metadata_there befores.Name = placed node_yet

abbrev pub plainly : Form Tok Typed → Before → Form Tok ParsedItem
plainly shape befores.Item = unnamed shape
plainly shape befores.Declaration = either attribute_behind (unnamed shape)
plainly shape befores.Name = unnamed shape

unfoldable pub beside : Form Tok Typed → Before → Form Tok ParsedItem
beside shape before = either (metadata_there before) (plainly shape before)

-- ---- items that define or declare a global name

-- a declaration of a lifetime marker is dropped
abbrev pub declared : FunctionHeader → Option Item
declared h = if nat_eq (number h.name.kind) (number kinds.LifetimeMarker) then None else Some (Declaration h)

-- {Meta node}
unfoldable pub attached_before : Form Tok (Unit {0})
attached_before = do
  _ ← Star attached
  gives tt

-- declare {Meta node} head, but for the attributes behind it; so many parameters at most behind the first
unfoldable pub declaration : ℕ → Form Tok ParsedItem
declaration room = do
  _ ← the kinds.Declare
  _ ← attached_before
  h ← head roles.Declaration room
  gives (declared h, befores.Declaration)

unfoldable pub any_declaration : Form Tok ParsedItem
any_declaration = do
  _ ← the kinds.Declare
  _ ← attached_before
  h ← any_head roles.Declaration
  gives (declared h, befores.Declaration)

abbrev pub naming : ℕ → Form Tok ParsedItem
naming room = either (kept (variable_line variable_name memory_shape))
    (either (declaration room)
    (kept (definition room)))

abbrev pub any_naming : Form Tok ParsedItem
any_naming = either (kept (variable_line any_variable_name any_shape))
    (either any_declaration
    (kept any_definition))

-- ---- all items, with how many global names there may still be

abbrev pub at_place : ℕ → ParsedItem → Option Item × Position
at_place names x = (x.0, record { before = x.1; names = names })

unfoldable pub other : Form Tok Typed → Before → ℕ → Form Tok (Option Item × Position)
other shape before names = do
  x ← beside shape before
  gives (at_place names x)

unfoldable pub any_named : ℕ → Form Tok (Option Item × Position)
any_named names = do
  x ← any_naming
  gives (at_place (names - 1) x)

unfoldable pub named : ℕ → ℕ → Form Tok (Option Item × Position)
named room names = do
  x ← naming room
  gives (at_place (names - 1) x)

-- none where there is no room for a name
abbrev pub named_within : ℕ → ℕ → Form Tok (Option Item × Position)
named_within room zero = λ ts x. ⊥
named_within room (suc n) = named room (suc n)

unfoldable pub piece : ℕ → Before → ℕ → Form Tok (Option Item × Position)
piece room before names = either (named_within room names) (other memory_shape before names)

unfoldable pub any_piece : Before → ℕ → Form Tok (Option Item × Position)
any_piece before names = either (any_named names) (other any_shape before names)

abbrev pub anywhere : Position → Bool
anywhere at = true

abbrev pub keep : List Item → Option Item → List Item
keep front None = front
keep front (Some i) = front ++ i ∷ []

-- {item}: so many names at most, and so many parameters behind the first of each function
unfoldable pub items : ℕ → ℕ → Form Tok (List Item)
items room names = do
  all ← Chain anywhere (λ at. piece room at.before at.names) (record { before = befores.Item; names = names })
  gives (fold keep [] all)

-- the same without limits on how many names, parameters, blocks and instructions there are, on the numbers of locals, and on
-- shapes
unfoldable pub any_items : ℕ → Form Tok (List Item)
any_items names = do
  all ← Chain anywhere (λ at. any_piece at.before at.names) (record { before = befores.Item; names = names })
  gives (fold keep [] all)
