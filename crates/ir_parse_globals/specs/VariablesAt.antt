-- What the readers of variables give.
use Rattle.std.specs.Prelude.{ℕ, Bool, true, false, Option, Some, None, List, [], ◌∷◌}
use Rattle.std.specs.List.{fold}
use Rattle.ir_lex.specs.declared.token_kind.TokenKind.TheVariants as kinds
use Rattle.ir_lex.specs.TokenKinds.{number}
use Rattle.ir_lex.specs.Tok.{Tok}
use Rattle.ir_tree.specs.declared.function.Linkage.{Linkage}
use Rattle.ir_tree.specs.declared.operand.Reg.{Reg}
use Rattle.ir_parse_parts.specs.Alphabet.{among}
use Rattle.ir_parse_parts.specs.Readers.{Reader, ◌>>=◌, done, pick, token_at, star_at, optional_at}
use Rattle.ir_parse_parts.specs.Rules.{is_valued}
use Rattle.ir_parse_parts.specs.Classes.{tokens, the_at, one_of_at}
use Rattle.ir_parse_parts.specs.Decimals.{is_alignment}
use Rattle.ir_parse_parts.specs.declared.raw.Init.{Init}
use Rattle.ir_parse_parts.specs.declared.raw.Item.{Item}
use Rattle.ir_parse_heads.specs.FunctionHeads.{LINKAGES, linkage_word, QUALIFIERS, nothing_of, name_refusal}
use Rattle.ir_parse_operands.specs.AlignmentsAt.{ALIGN}
use Rattle.ir_parse_parts.specs.MetadataAt.{COMMA, PAREN, attached_at}
use Rattle.ir_parse_parts.specs.Operands.{global_named}
use Rattle.ir_parse_operands.specs.ShapeFormsAt.{memory_shape_at}
use Rattle.ir_parse_globals.specs.Initialisers.{scalar_of}
use Rattle.ir_parse_globals.specs.InitialisersAt.{initialiser_at}
use Rattle.ir_parse_globals.specs.Variables.{NAMES, KINDS, is_constant, is_declared, with_align, variable}

abbrev pub variable_name_at : Reader Tok Tok
variable_name_at = token_at (is_valued tokens name_refusal NAMES global_named)

abbrev pub linkage_at : Reader Tok (Option Linkage)
linkage_at = optional_at (among tokens LINKAGES) (one_of_at LINKAGES linkage_word)

unfoldable pub qualifiers_at : Reader Tok (Unit {0})
qualifiers_at = do
  _ ← star_at (among tokens QUALIFIERS) (one_of_at QUALIFIERS nothing_of)
  done tt

unfoldable pub linked_at : Reader Tok (Option Linkage)
linked_at = do
  l ← linkage_at
  _ ← qualifiers_at
  done l

abbrev pub value_at : Bool → Option Reg → Reader Tok (Option Init)
value_at true scalar = done None
value_at false scalar = do
  i ← initialiser_at scalar
  done (Some i)

unfoldable pub comdat_name_at : Reader Tok (Unit {0})
comdat_name_at = do
  _ ← the_at kinds.OpenParen
  _ ← the_at kinds.ComdatName
  the_at kinds.CloseParen

unfoldable pub in_comdat_at : Reader Tok (Option ℕ)
in_comdat_at = do
  _ ← the_at kinds.Comdat
  _ ← optional_at (among tokens PAREN) comdat_name_at
  done None

unfoldable pub aligned_at : Reader Tok (Option ℕ)
aligned_at = do
  _ ← the_at kinds.Align
  n ← token_at is_alignment
  done (Some n)

unfoldable pub marked_at : Reader Tok (Option ℕ)
marked_at = do
  _ ← attached_at
  done None

abbrev pub COMDAT : List ℕ
COMDAT = number kinds.Comdat ∷ []

unfoldable pub further_at : Reader Tok (Option ℕ)
further_at = do
  _ ← the_at kinds.Comma
  pick (among tokens COMDAT) in_comdat_at (pick (among tokens ALIGN) aligned_at marked_at)

unfoldable pub tail_at : Reader Tok (Option ℕ)
tail_at = do
  all ← star_at (among tokens COMMA) further_at
  done (fold with_align None all)

-- what stands before the shape: the name, the linkage that is written, and whether it is constant
abbrev pub headed_at : Reader Tok (Tok × (Option Linkage × Bool))
headed_at = do
  name ← variable_name_at
  _ ← the_at kinds.Equals
  l ← linked_at
  constant ← one_of_at KINDS is_constant
  done (name, (l, constant))

unfoldable pub behind_kind_at : Tok → Option Linkage → Bool → Reader Tok Item
behind_kind_at name l constant = do
  typed ← memory_shape_at
  init ← value_at (is_declared l) (scalar_of typed.shape)
  align ← tail_at
  done (variable name l constant typed init align)

unfoldable pub variable_line_at : Reader Tok Item
variable_line_at = do
  name ← variable_name_at
  _ ← the_at kinds.Equals
  l ← linked_at
  constant ← one_of_at KINDS is_constant
  behind_kind_at name l constant
