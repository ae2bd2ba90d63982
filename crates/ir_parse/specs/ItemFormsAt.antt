-- What the readers of items give.
use Rattle.std.specs.Prelude.{ℕ, ◌-◌, Bool, nat_eq, if◌then◌else◌, Option, Some, None, List, [], ◌∷◌, ◌++◌}
use Rattle.std.specs.List.{fold}
use Rattle.ir_lex.specs.declared.token_kind.TokenKind.TheVariants as kinds
use Rattle.ir_lex.specs.TokenKinds.{number}
use Rattle.ir_lex.specs.Tok.{Tok}
use Rattle.ir_parse_parts.specs.Alphabet.{among}
use Rattle.ir_parse_parts.specs.Chained.{chain_at}
use Rattle.ir_parse_parts.specs.declared.fault.TokenFault.TheVariants.{Limit}
use Rattle.ir_parse_parts.specs.Readers.{Reader, ◌>>=◌, done, fault_at, pick, star_at}
use Rattle.ir_parse_bodies.specs.BlocksAt.{DEFINE, definition_at}
use Rattle.ir_parse_globals.specs.TypeDefinitionsAt.{type_line_at}
use Rattle.ir_parse_globals.specs.Variables.{NAMES}
use Rattle.ir_parse_globals.specs.VariablesAt.{variable_line_at}
use Rattle.ir_parse_heads.specs.AttributesAt.{HEAD, head_attribute_at, attribute_group_at}
use Rattle.ir_parse_parts.specs.Classes.{tokens, the_at}
use Rattle.ir_parse_heads.specs.FunctionHeadsAt.{head_at}
use Rattle.ir_parse.specs.ItemForms.{ParsedItem, declared, at_place, anywhere, keep}
use Rattle.ir_parse_parts.specs.Metadata.{META}
use Rattle.ir_parse_parts.specs.MetadataAt.{attached_at, metadata_line_at}
use Rattle.ir_parse_parts.specs.MetadataBehindAt.{metadata_behind_at, node_yet_at}
use Rattle.ir_parse_parts.specs.Operands.{LOCAL}
use Rattle.ir_parse_heads.specs.TargetsAt.{target_line_at, source_line_at, comdat_line_at}
use Rattle.ir_parse_heads.specs.declared.function_heads.Role.TheVariants as roles
use Rattle.ir_parse_parts.specs.declared.places.Before.{Before}
use Rattle.ir_parse_parts.specs.declared.places.Before.TheVariants as befores
use Rattle.ir_parse_parts.specs.declared.places.Position.{Position}
use Rattle.ir_parse_parts.specs.declared.raw.Item.{Item}

-- what items begin with
abbrev pub SOURCE : List ℕ
SOURCE = number kinds.SourceFilename ∷ []

abbrev pub TARGET : List ℕ
TARGET = number kinds.Target ∷ []

abbrev pub COMDAT : List ℕ
COMDAT = number kinds.ComdatName ∷ []

abbrev pub UNNAMED : List ℕ
UNNAMED = number kinds.SourceFilename ∷ number kinds.Target ∷ number kinds.ComdatName ∷ number kinds.Local ∷ number kinds.Attributes ∷ []

abbrev pub DECLARE : List ℕ
DECLARE = number kinds.Declare ∷ []

abbrev pub NAMING : List ℕ
NAMING = NAMES ++ (DECLARE ++ DEFINE)

abbrev pub ITEM : List ℕ
ITEM = META ++ UNNAMED ++ NAMING

-- what may begin there
abbrev pub beginnings : Before → List ℕ
beginnings befores.Item = ITEM
beginnings befores.Declaration = HEAD ++ ITEM
beginnings befores.Name = ITEM

unfoldable pub left_out_at : Reader Tok (Unit {0}) → Reader Tok ParsedItem
left_out_at f = do
  _ ← f
  done (None, befores.Item)

unfoldable pub kept_at : Reader Tok Item → Reader Tok ParsedItem
kept_at f = do
  i ← f
  done (Some i, befores.Item)

unfoldable pub unnamed_at : Reader Tok ParsedItem
unnamed_at = pick (among tokens SOURCE) (left_out_at source_line_at)
    (pick (among tokens TARGET) (kept_at target_line_at)
    (pick (among tokens COMDAT) (left_out_at comdat_line_at)
    (pick (among tokens LOCAL) (kept_at type_line_at)
    (kept_at attribute_group_at))))

unfoldable pub attribute_behind_at : Reader Tok ParsedItem
attribute_behind_at = do
  _ ← head_attribute_at
  done (None, befores.Declaration)

unfoldable pub placed_at : Reader Tok Before → Reader Tok ParsedItem
placed_at f = do
  before ← f
  done (None, before)

abbrev pub metadata_there_at : Before → Reader Tok ParsedItem
metadata_there_at befores.Item = left_out_at metadata_line_at
metadata_there_at befores.Declaration = placed_at metadata_behind_at
metadata_there_at befores.Name = placed_at node_yet_at

abbrev pub plainly_at : Before → Reader Tok ParsedItem
plainly_at befores.Item = unnamed_at
plainly_at befores.Declaration = pick (among tokens HEAD) attribute_behind_at unnamed_at
plainly_at befores.Name = unnamed_at

unfoldable pub beside_at : Before → Reader Tok ParsedItem
beside_at before = pick (among tokens META) (metadata_there_at before) (plainly_at before)

unfoldable pub attached_before_at : Reader Tok (Unit {0})
attached_before_at = do
  _ ← star_at (among tokens META) attached_at
  done tt

unfoldable pub declaration_at : ℕ → Reader Tok ParsedItem
declaration_at room = do
  _ ← the_at kinds.Declare
  _ ← attached_before_at
  h ← head_at roles.Declaration room
  done (declared h, befores.Declaration)

abbrev pub naming_at : ℕ → Reader Tok ParsedItem
naming_at room = pick (among tokens NAMES) (kept_at variable_line_at)
    (pick (among tokens DECLARE) (declaration_at room)
    (kept_at (definition_at room)))

unfoldable pub other_at : Before → ℕ → Reader Tok (Option Item × Position)
other_at before names = do
  x ← beside_at before
  done (at_place names x)

unfoldable pub named_at : ℕ → ℕ → Reader Tok (Option Item × Position)
named_at room names = do
  x ← naming_at room
  done (at_place (names - 1) x)

abbrev pub named_within_at : ℕ → ℕ → Reader Tok (Option Item × Position)
named_within_at room names = if nat_eq names 0 then fault_at Limit else named_at room names

unfoldable pub piece_at : ℕ → Before → ℕ → Reader Tok (Option Item × Position)
piece_at room before names = pick (among tokens NAMING) (named_within_at room names) (other_at before names)

abbrev pub begins_there : Position → Tok → Bool
begins_there at = among tokens (beginnings at.before)

abbrev pub there_at : ℕ → Position → Reader Tok (Option Item × Position)
there_at room at = piece_at room at.before at.names

abbrev pub first_place : ℕ → Position
first_place names = record { before = befores.Item; names = names }

unfoldable pub items_at : ℕ → ℕ → Reader Tok (List Item)
items_at room names = do
  all ← chain_at anywhere begins_there (there_at room) (first_place names)
  done (fold keep [] all)
