-- The readers of items read them.
use Rattle.std.proofs.Common.{◌≡◌, ℕ, zero, suc, ◌-◌, Bool, true, false, cond, ◌||◌, ◌⊎◌, nat_eq, Option, Some, List, [], ◌∷◌, ◌++◌, refl, sym, ap, inl, inr, arith}
use Rattle.std.specs.Prelude.{codes}
use Rattle.ir_lex.specs.Bytes.{has}
use Rattle.ir_lex.specs.declared.token_kind.TokenKind.TheVariants as kinds
use Rattle.ir_lex.specs.TokenKinds.{number, kind_of, word_kind, listed_kind, words_7}
use Rattle.ir_lex.specs.Lexing.{is_bad}
use Rattle.ir_lex.specs.Quotes.{is_zero_name}
use Rattle.ir_lex.specs.Tok.{Tok}
use Rattle.ir_lex.specs.Rows.{best_fit, rest_fit, label_len, number_len, word_len, name_len, meta_len, dots_len, other_len, string_len}
use Rattle.ir_parse_parts.specs.Alphabet.{among, contains}
use Rattle.ir_parse_parts.specs.Chained.{Chain, chain_at}
use Rattle.ir_parse_parts.specs.Forms as form
use Rattle.ir_parse_parts.specs.declared.fault.TokenFault.TheVariants.{Limit}
use Rattle.ir_parse_parts.specs.Readers.{fault_at, pick}
use Rattle.ir_parse_parts.specs.Rules.{Rule, Opens, is_class, disjoint, subset}
use Rattle.ir_parse_parts.proofs.Chains.{chain_lawful}
use Rattle.ir_parse_parts.proofs.Composed.{Begun, same_form, widened}
use Rattle.ir_parse_parts.proofs.Rules as rules
use Rattle.ir_parse_parts.proofs.Rules.{apart_from, contains-append, within_of}
use Rattle.ir_parse_bodies.specs.Blocks.{any_definition}
use Rattle.ir_parse_bodies.specs.BlocksAt.{DEFINE}
use Rattle.ir_parse_bodies.proofs.BlockRules.{definition_rule, definition_opens}
use Rattle.ir_parse_globals.specs.Variables.{NAMES, any_variable_name, variable_line}
use Rattle.ir_parse_globals.proofs.TypeDefinitionRules.{type_line_rule}
use Rattle.ir_parse_globals.proofs.VariableRules.{variable_line_rule, variable_line_opens}
use Rattle.ir_parse_heads.specs.AttributesAt.{HEAD}
use Rattle.ir_parse_parts.specs.Classes.{tokens, IsReal, the, the_at}
use Rattle.ir_parse_heads.specs.declared.function_heads.Role.TheVariants as roles
use Rattle.ir_parse_parts.specs.declared.raw.Item.{Item}
use Rattle.ir_parse_parts.specs.declared.places.Before.{Before}
use Rattle.ir_parse_parts.specs.declared.places.Before.TheVariants as befores
use Rattle.ir_parse_parts.specs.declared.places.Position.{Position}
use Rattle.ir_parse.specs.ItemForms.{left_out, kept, unnamed, attribute_behind, placed, metadata_there, plainly, beside, attached_before, declaration, any_declaration, naming, any_naming, at_place, other, any_named, named, piece, any_piece, anywhere, items, any_items}
use Rattle.ir_parse.specs.ItemFormsAt.{SOURCE, TARGET, COMDAT, DECLARE, UNNAMED, NAMING, ITEM, beginnings, left_out_at, kept_at, unnamed_at, attribute_behind_at, placed_at, metadata_there_at, plainly_at, beside_at, attached_before_at, declaration_at, naming_at, other_at, named_at, piece_at, begins_there, there_at, first_place, items_at}
use Rattle.ir_parse_parts.specs.Metadata.{META}
use Rattle.ir_parse_parts.specs.MetadataAt.{PAREN}
use Rattle.ir_parse_parts.specs.MetadataBehind.{BRACES}
use Rattle.ir_parse_parts.specs.Operands.{LOCAL}
use Rattle.ir_parse_operands.specs.ShapeForms.{any_shape, memory_shape}
use Rattle.ir_parse_heads.proofs.AttributeRules.{head_attribute_rule, attribute_group_rule}
use Rattle.ir_parse_operands.proofs.Barred.{barred_here}
use Rattle.ir_parse_heads.proofs.FunctionHeadRules.{head_rule}
use Rattle.ir_parse_parts.proofs.MetadataBehindRules.{metadata_behind_rule, node_yet_rule}
use Rattle.ir_parse_parts.proofs.Nodes.{attached_rule, attached_opens, metadata_line_rule}
use Rattle.ir_parse_parts.proofs.Singles.{word, the_rule, the_opens}
use Rattle.ir_parse_heads.proofs.TargetRules.{target_line_rule, source_line_rule, comdat_line_rule}

-- what may go on behind an item, or an attribute behind a declaration's head
abbrev pub MORE : List ℕ
MORE = number kinds.Number ∷ number kinds.Equals ∷ number kinds.Comma ∷ BRACES

unnamed_rule : Rule tokens (unnamed memory_shape) (unnamed any_shape) unnamed_at UNNAMED [] false
unfolding unnamed unnamed_at left_out left_out_at kept kept_at
unnamed_rule = rules.broader tokens UNNAMED []
    (rules.alt tokens SOURCE (rules.seq tokens source_line_rule (λ _. rules.nothing tokens _) refl)
    (rules.alt tokens TARGET (rules.seq tokens target_line_rule (λ _. rules.nothing tokens _) refl)
    (rules.alt tokens COMDAT (rules.seq tokens comdat_line_rule (λ _. rules.nothing tokens _) refl)
    (rules.alt tokens LOCAL (rules.seq tokens type_line_rule (λ _. rules.nothing tokens _) refl)
    (rules.seq tokens attribute_group_rule (λ _. rules.nothing tokens _) refl)
    refl refl) refl refl) refl refl) refl refl)
    refl refl

attribute_behind_rule : Rule tokens attribute_behind attribute_behind attribute_behind_at HEAD MORE false
unfolding attribute_behind attribute_behind_at
attribute_behind_rule = rules.broader tokens HEAD MORE (rules.seq tokens head_attribute_rule (λ _. rules.nothing tokens _) refl) refl refl

metadata_there_rule : (before : Before) → Rule tokens (metadata_there before) (metadata_there before) (metadata_there_at before) META MORE false
unfolding left_out left_out_at placed placed_at
metadata_there_rule befores.Item = rules.broader tokens META MORE (rules.seq tokens metadata_line_rule (λ _. rules.nothing tokens _) refl) refl refl
metadata_there_rule befores.Declaration = rules.broader tokens META MORE (rules.seq tokens metadata_behind_rule (λ _. rules.nothing tokens _) refl) refl refl
metadata_there_rule befores.Name = rules.broader tokens META MORE (rules.seq tokens node_yet_rule (λ _. rules.nothing tokens _) refl) refl refl

-- what no metadata begins with
abbrev plain_beginnings : Before → List ℕ
plain_beginnings befores.Item = UNNAMED
plain_beginnings befores.Declaration = HEAD ++ UNNAMED
plain_beginnings befores.Name = UNNAMED

plainly_rule : (before : Before) → Rule tokens (plainly memory_shape before) (plainly any_shape before) (plainly_at before) (plain_beginnings before) MORE false
plainly_rule befores.Item = rules.broader tokens UNNAMED MORE unnamed_rule refl refl
plainly_rule befores.Declaration = rules.broader tokens (HEAD ++ UNNAMED) MORE (rules.alt tokens HEAD attribute_behind_rule unnamed_rule refl refl) refl refl
plainly_rule befores.Name = rules.broader tokens UNNAMED MORE unnamed_rule refl refl

beside_rule : (before : Before) → Rule tokens (beside memory_shape before) (beside any_shape before) (beside_at before) (META ++ plain_beginnings before) MORE false
unfolding beside beside_at
beside_rule befores.Item = rules.broader tokens _ MORE (rules.alt tokens META (metadata_there_rule befores.Item) (plainly_rule befores.Item) refl refl) refl refl
beside_rule befores.Declaration = rules.broader tokens _ MORE (rules.alt tokens META (metadata_there_rule befores.Declaration) (plainly_rule befores.Declaration) refl refl) refl refl
beside_rule befores.Name = rules.broader tokens _ MORE (rules.alt tokens META (metadata_there_rule befores.Name) (plainly_rule befores.Name) refl refl) refl refl

-- ---- items that define or declare a global name

declare_real : IsReal (word kinds.Declare (codes "declare"))
unfolding best_fit rest_fit label_len number_len word_len name_len meta_len dots_len other_len string_len has is_bad is_zero_name kind_of word_kind listed_kind words_7
declare_real = record { behind = []; some = refl; fits = refl; good = refl; class = refl }

declare_rule : Rule tokens (the kinds.Declare) (the kinds.Declare) (the_at kinds.Declare) DECLARE [] false
unfolding is_class
declare_rule = the_rule kinds.Declare (word kinds.Declare (codes "declare")) refl declare_real

attached_before_rule : Rule tokens attached_before attached_before attached_before_at META (PAREN ++ META) true
unfolding attached_before attached_before_at
attached_before_rule = rules.wider tokens META (PAREN ++ META) (rules.seq tokens (rules.star tokens META attached_rule attached_opens refl refl) (λ _. rules.nothing tokens tt) refl) refl refl

declaration_rule : (room : ℕ) → Rule tokens (declaration room) any_declaration (declaration_at room) DECLARE [] false
unfolding declaration any_declaration declaration_at
declaration_rule room = rules.seq tokens declare_rule (λ _. rules.seq tokens attached_before_rule (λ _. rules.seq tokens (head_rule roles.Declaration room) (λ h. rules.nothing tokens _) refl) refl) refl

any_declaration_opens : Opens tokens DECLARE any_declaration
unfolding any_declaration
any_declaration_opens = rules.opens_seq tokens DECLARE (the kinds.Declare) (the_opens kinds.Declare) (λ _. rules.seq tokens attached_before_rule (λ _. rules.seq tokens (head_rule roles.Declaration 0) (λ h. rules.nothing tokens _) refl) refl)

any_variable_opens : Opens tokens NAMES (kept (variable_line any_variable_name any_shape))
unfolding kept
any_variable_opens = rules.opens_seq tokens NAMES (variable_line any_variable_name any_shape) variable_line_opens (λ i. rules.nothing tokens (Some i, befores.Item))

kept_definition_opens : Opens tokens DEFINE (kept any_definition)
unfolding kept
kept_definition_opens = rules.opens_seq tokens DEFINE any_definition definition_opens (λ i. rules.nothing tokens (Some i, befores.Item))

naming_rule : (room : ℕ) → Rule tokens (naming room) any_naming (naming_at room) NAMING MORE false
unfolding kept kept_at
naming_rule room = rules.broader tokens NAMING MORE
    (rules.alt tokens NAMES (rules.seq tokens variable_line_rule (λ _. rules.nothing tokens _) refl)
    (rules.alt tokens DECLARE (declaration_rule room)
    (rules.seq tokens (definition_rule room) (λ _. rules.nothing tokens _) refl)
    refl refl) refl refl)
    refl refl

any_naming_opens : Opens tokens NAMING any_naming
any_naming_opens = rules.opens_either tokens NAMES (DECLARE ++ DEFINE) (kept (variable_line any_variable_name any_shape)) (form.either any_declaration (kept any_definition)) any_variable_opens
    (rules.opens_either tokens DECLARE DEFINE any_declaration (kept any_definition) any_declaration_opens
    kept_definition_opens)

-- ---- with limits on how many names there are

other_rule : (before : Before) (names : ℕ) → Rule tokens (other memory_shape before names) (other any_shape before names) (other_at before names) (META ++ plain_beginnings before) MORE false
unfolding other other_at
other_rule befores.Item names = rules.broader tokens _ MORE (rules.seq tokens (beside_rule befores.Item) (λ _. rules.nothing tokens _) refl) refl refl
other_rule befores.Declaration names = rules.broader tokens _ MORE (rules.seq tokens (beside_rule befores.Declaration) (λ _. rules.nothing tokens _) refl) refl refl
other_rule befores.Name names = rules.broader tokens _ MORE (rules.seq tokens (beside_rule befores.Name) (λ _. rules.nothing tokens _) refl) refl refl

named_rule : (room names : ℕ) → Rule tokens (named room names) (any_named names) (named_at room names) NAMING MORE false
unfolding named any_named named_at
named_rule room names = rules.broader tokens NAMING MORE (rules.seq tokens (naming_rule room) (λ _. rules.nothing tokens _) refl) refl refl

any_named_opens : (names : ℕ) → Opens tokens NAMING (any_named names)
unfolding any_named
any_named_opens names = rules.opens_seq tokens NAMING any_naming any_naming_opens (λ x. rules.nothing tokens (at_place (names - 1) x))

-- with no room for a name: what names nothing
unnaming_rule : (room : ℕ) (before : Before) → Rule tokens (piece room before 0) (other any_shape before 0) (other_at before 0) (META ++ plain_beginnings before) MORE false
unfolding piece form.either
unnaming_rule room before = record {
  law = same_form tokens (other_rule before 0).law (λ ts a s. inr s) (λ ts a s. elim s [ inl e ↦ absurd e | inr q ↦ q ]) (λ ts a s. s) (λ ts a s. s);
}

unnaming_or_begun : (before : Before) (ts : List Tok) (a : Option Item × Position) → any_piece before 0 ts a → other any_shape before 0 ts a ⊎ Begun (among tokens NAMING) ts
unfolding any_piece form.either
unnaming_or_begun before ts a (inr s) = inl s
unnaming_or_begun before [] a (inl s) = absurd (never ((named_rule 0 0).law.broad.nothing a s))
  where
    never : false ≡ true → ⊥
    never e = cc
unnaming_or_begun before (t ∷ ts) a (inl s) = inr ((named_rule 0 0).law.broad.starts t ts a s)

any_piece_opens : (before : Before) (names : ℕ) → Opens tokens NAMING (any_piece before names)
unfolding any_piece form.either
any_piece_opens before names t h = let o = any_named_opens names t h in (o.0, o.1, inl o.2, o.3)

otherwise : (before : Before) (ts : List Tok) (a : Option Item × Position) → other any_shape before 0 ts a → any_piece before 0 ts a
unfolding any_piece form.either
otherwise before ts a s = inr s

full_rule : (room : ℕ) (before : Before) → disjoint (META ++ plain_beginnings before) NAMING ≡ true → Rule tokens (piece room before 0) (any_piece before 0) (piece_at room before 0) (NAMING ++ (META ++ plain_beginnings before)) MORE false
unfolding piece_at
full_rule room before d = record {
  law = widened tokens (among tokens (NAMING ++ (META ++ plain_beginnings before))) (among tokens MORE)
      (barred_here tokens (piece room before 0) (other any_shape before 0) (any_piece before 0) (other_at before 0) (among tokens NAMING) (among tokens (META ++ plain_beginnings before)) (among tokens MORE) (unnaming_rule room before).law (otherwise before) (unnaming_or_begun before) (λ t u n m. inl (ap (contains NAMING) (sym m))) without
      (any_piece_opens before 0))
      (λ t e. contains-append NAMING (META ++ plain_beginnings before) (number t.kind) (or_parts (among tokens (META ++ plain_beginnings before) t) (among tokens NAMING t) e)) (λ t e. e);
}
  where
    or_parts : (a b : Bool) → a || b ≡ true → (b ≡ true) ⊎ (a ≡ true)
    or_parts true b h = inr refl
    or_parts false b h = inl h

    is_false : (b : Bool) → (b ≡ true → ⊥) → b ≡ false
    is_false true never = absurd (never refl)
    is_false false never = refl

    without : (t : Tok) (ts : List Tok) (a : Option Item × Position) → other any_shape before 0 (t ∷ ts) a → among tokens NAMING t ≡ false
    without t ts a s = is_false (among tokens NAMING t) (λ p. apart_from (META ++ plain_beginnings before) NAMING d (number t.kind) ((unnaming_rule room before).law.broad.starts t ts a s) p)

not_zero : (n : ℕ) → nat_eq (suc n) 0 ≡ false
not_zero n = grind arith

roomy_rule : (room : ℕ) (before : Before) (n : ℕ) → disjoint (META ++ plain_beginnings before) NAMING ≡ true → Rule tokens (piece room before (suc n)) (any_piece before (suc n)) (piece_at room before (suc n)) (NAMING ++ (META ++ plain_beginnings before)) ((MORE ++ MORE) ++ []) false
unfolding piece any_piece piece_at
roomy_rule room before n d = by_test (nat_eq (suc n) 0) (not_zero n)
  where
    by_test : (b : Bool) → b ≡ false → Rule tokens (form.either (named room (suc n)) (other memory_shape before (suc n))) (form.either (any_named (suc n)) (other any_shape before (suc n))) (pick (among tokens NAMING) (cond b (fault_at Limit) (named_at room (suc n))) (other_at before (suc n))) (NAMING ++ (META ++ plain_beginnings before)) ((MORE ++ MORE) ++ []) false
    by_test true e = absurd cc
    by_test false e = rules.alt tokens NAMING (named_rule room (suc n)) (other_rule before (suc n)) refl d

-- a piece goes on with no token that begins an item
piece_rule : (room : ℕ) (before : Before) (names : ℕ) → Rule tokens (piece room before names) (any_piece before names) (piece_at room before names) (beginnings before) MORE false
piece_rule room befores.Item zero = rules.broader tokens _ _ (full_rule room befores.Item refl) refl refl
piece_rule room befores.Declaration zero = rules.broader tokens _ _ (full_rule room befores.Declaration refl) refl refl
piece_rule room befores.Name zero = rules.broader tokens _ _ (full_rule room befores.Name refl) refl refl
piece_rule room befores.Item (suc n) = rules.broader tokens _ _ (roomy_rule room befores.Item n refl) refl refl
piece_rule room befores.Declaration (suc n) = rules.broader tokens _ _ (roomy_rule room befores.Declaration n refl) refl refl
piece_rule room befores.Name (suc n) = rules.broader tokens _ _ (roomy_rule room befores.Name n refl) refl refl

-- ---- one behind another

-- what may begin or go on anywhere
abbrev pub ANY : List ℕ
ANY = MORE ++ (HEAD ++ ITEM)

apart_there : (before : Before) → disjoint MORE (beginnings before) ≡ true
apart_there befores.Item = refl
apart_there befores.Declaration = refl
apart_there befores.Name = refl

any_there : (before : Before) → subset (beginnings before) ANY ≡ true
any_there befores.Item = refl
any_there befores.Declaration = refl
any_there befores.Name = refl

pub there_rule : (room : ℕ) (at : Position) → Rule tokens (piece room at.before at.names) (any_piece at.before at.names) (there_at room at) (beginnings at.before) MORE false
there_rule room at = piece_rule room at.before at.names

chain_rule : (room names : ℕ) → Rule tokens (Chain anywhere (λ at. piece room at.before at.names) (first_place names)) (Chain anywhere (λ at. any_piece at.before at.names) (first_place names)) (chain_at anywhere begins_there (there_at room) (first_place names)) ITEM ANY true
chain_rule room names = record {
  law = chain_lawful tokens anywhere begins_there begins_there (λ _. among tokens MORE) (among tokens ANY) (λ at. piece room at.before at.names) (λ at. any_piece at.before at.names) (there_at room) (λ at. (there_rule room at).law) (λ at t u n m. ap (contains (beginnings at.before)) (sym m)) (λ at t d e. e)
      (λ at next front a g t p q. apart_from MORE (beginnings next.before) (apart_there next.before) (number t.kind) p q)
      (λ at t p. within_of MORE ANY refl (number t.kind) p)
      (λ at t d p. within_of (beginnings at.before) ANY (any_there at.before) (number t.kind) p)
      (λ at. ([], [], (refl, refl), tt)) (first_place names);
}

pub items_rule : (room names : ℕ) → Rule tokens (items room names) (any_items names) (items_at room names) ITEM ANY true
unfolding items any_items items_at
items_rule room names = rules.broader tokens ITEM ANY (rules.seq tokens (chain_rule room names) (λ _. rules.nothing tokens _) refl) refl refl
