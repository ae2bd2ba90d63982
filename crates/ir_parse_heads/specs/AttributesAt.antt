-- What the readers of attributes give.
use Rattle.std.specs.Prelude.{ℕ, List, [], ◌∷◌}
use Rattle.std.specs.List.{fold}
use Rattle.ir_lex.specs.declared.token_kind.TokenKind.TheVariants as kinds
use Rattle.ir_lex.specs.TokenKinds.{number}
use Rattle.ir_lex.specs.Tok.{Tok}
use Rattle.ir_parse_parts.specs.Alphabet.{among}
use Rattle.ir_parse_parts.specs.Readers.{Reader, ◌>>=◌, done, pick, star_at, optional_at, token_at}
use Rattle.ir_parse_parts.specs.Rules.{is_valued}
use Rattle.ir_parse_heads.specs.Attributes.{WORDS, CALL_WORDS, GROUP_WORDS, GROUP, word_kept, with_attribute, none_kept, group_item}
use Rattle.ir_parse_parts.specs.Brackets.{group_at}
use Rattle.ir_parse_parts.specs.Classes.{tokens, refusal, the_at, one_of_at}
use Rattle.ir_parse_parts.specs.Decimals.{is_alignment}
use Rattle.ir_parse_parts.specs.Metadata.{META}
use Rattle.ir_parse_parts.specs.MetadataAt.{PAREN, attached_at}
use Rattle.ir_parse_parts.specs.Operands.{group_named}
use Rattle.ir_parse_heads.specs.declared.attributes.Attribute.{Attribute}
use Rattle.ir_parse_heads.specs.declared.attributes.Attribute.TheVariants.{Dropped, Group}
use Rattle.ir_parse_heads.specs.declared.attributes.Kept.{Kept}
use Rattle.ir_parse_parts.specs.declared.raw.Item.{Item}
use Rattle.ir_parse_parts.specs.declared.brackets.Bracket.TheVariants.{Paren}

abbrev pub NUMBER : List ℕ
NUMBER = number kinds.Number ∷ []

abbrev pub EQUALS : List ℕ
EQUALS = number kinds.Equals ∷ []

abbrev pub STRING : List ℕ
STRING = number kinds.Str ∷ []

abbrev pub ALIGN : List ℕ
ALIGN = number kinds.Align ∷ []

abbrev pub PARAMETER_WORD : List ℕ
PARAMETER_WORD = number kinds.ParameterWord ∷ []

abbrev pub PARAMETER_GROUP : List ℕ
PARAMETER_GROUP = number kinds.ParameterGroup ∷ []

-- what an attribute of a parameter begins with
abbrev pub PARAMETER : List ℕ
PARAMETER = number kinds.ParameterWord ∷ number kinds.ParameterGroup ∷ number kinds.Align ∷ []

-- what stands behind the arguments of a call begins with
abbrev pub CALL : List ℕ
CALL = number kinds.Group ∷ number kinds.Str ∷ CALL_WORDS

-- what stands behind the head of a function begins with
abbrev pub HEAD : List ℕ
HEAD = number kinds.Group ∷ number kinds.Align ∷ number kinds.Str ∷ WORDS

abbrev pub DEFINITION : List ℕ
DEFINITION = number kinds.Meta ∷ number kinds.Bang ∷ HEAD

unfoldable pub aligned_at : Reader Tok (Unit {0})
aligned_at = pick (among tokens NUMBER)
    (do
      _ ← token_at is_alignment
      done tt)
    (group_at Paren)

unfoldable pub parameter_attribute_at : Reader Tok (Unit {0})
parameter_attribute_at = pick (among tokens PARAMETER_WORD)
    (the_at kinds.ParameterWord)
    (pick (among tokens PARAMETER_GROUP)
    (do
      _ ← the_at kinds.ParameterGroup
      group_at Paren)
    (do
      _ ← the_at kinds.Align
      aligned_at))

unfoldable pub parameter_attributes_at : Reader Tok (Unit {0})
parameter_attributes_at = do
  _ ← star_at (among tokens PARAMETER) parameter_attribute_at
  done tt

unfoldable pub word_tail_at : Reader Tok (Unit {0})
word_tail_at = pick (among tokens PAREN)
    (group_at Paren)
    (pick (among tokens EQUALS)
    (do
      _ ← the_at kinds.Equals
      the_at kinds.Number)
    (done tt))

unfoldable pub word_attribute_at : List ℕ → Reader Tok Attribute
word_attribute_at words = do
  kept ← one_of_at words word_kept
  _ ← word_tail_at
  done kept

unfoldable pub string_value_at : Reader Tok (Unit {0})
string_value_at = do
  _ ← the_at kinds.Equals
  the_at kinds.Str

unfoldable pub string_attribute_at : Reader Tok Attribute
string_attribute_at = do
  _ ← the_at kinds.Str
  _ ← optional_at (among tokens EQUALS) string_value_at
  done Dropped

unfoldable pub function_attribute_at : List ℕ → Reader Tok Attribute
function_attribute_at words = pick (among tokens STRING) string_attribute_at (word_attribute_at words)

abbrev pub group_name_at : Reader Tok Tok
group_name_at = token_at (is_valued tokens refusal GROUP group_named)

unfoldable pub group_attribute_at : Reader Tok Attribute
group_attribute_at = do
  name ← group_name_at
  done (Group name)

unfoldable pub call_attribute_at : Reader Tok Attribute
call_attribute_at = pick (among tokens GROUP) group_attribute_at (function_attribute_at CALL_WORDS)

unfoldable pub call_attributes_at : Reader Tok (Unit {0})
call_attributes_at = do
  _ ← star_at (among tokens CALL) call_attribute_at
  done tt

unfoldable pub head_alignment_at : Reader Tok Attribute
head_alignment_at = do
  _ ← the_at kinds.Align
  _ ← pick (among tokens NUMBER)
      (do
        _ ← token_at is_alignment
        done tt)
      word_tail_at
  done Dropped

unfoldable pub head_attribute_at : Reader Tok Attribute
head_attribute_at = pick (among tokens GROUP) group_attribute_at (pick (among tokens ALIGN) head_alignment_at (function_attribute_at WORDS))

unfoldable pub attached_attribute_at : Reader Tok Attribute
attached_attribute_at = do
  _ ← attached_at
  done Dropped

unfoldable pub definition_attribute_at : Reader Tok Attribute
definition_attribute_at = pick (among tokens META) attached_attribute_at head_attribute_at

unfoldable pub definition_attributes_at : Reader Tok Kept
definition_attributes_at = do
  all ← star_at (among tokens DEFINITION) definition_attribute_at
  done (fold with_attribute none_kept all)

-- what an attribute of a group begins with
abbrev pub GROUPED : List ℕ
GROUPED = number kinds.Str ∷ GROUP_WORDS

-- what all attributes of a group say, up to what closes it
unfoldable pub grouped_at : Reader Tok Kept
grouped_at = do
  all ← star_at (among tokens GROUPED) (function_attribute_at GROUP_WORDS)
  done (fold with_attribute none_kept all)

-- behind the attributes of a group
abbrev pub ended_group_at : Tok → Kept → Reader Tok Item
ended_group_at name kept = do
  _ ← the_at kinds.CloseBrace
  done (group_item name kept)

-- behind the name of a group
abbrev pub named_group_at : Tok → Reader Tok Item
named_group_at name = do
  _ ← the_at kinds.Equals
  _ ← the_at kinds.OpenBrace
  kept ← grouped_at
  ended_group_at name kept

unfoldable pub attribute_group_at : Reader Tok Item
attribute_group_at = do
  _ ← the_at kinds.Attributes
  name ← group_name_at
  _ ← the_at kinds.Equals
  _ ← the_at kinds.OpenBrace
  kept ← grouped_at
  _ ← the_at kinds.CloseBrace
  done (group_item name kept)
