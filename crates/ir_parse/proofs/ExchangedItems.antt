-- The readers of items tell a token that is left out in some places where one that it stands for goes on.
use Rattle.std.proofs.Common.{None, ◌≡◌, ℕ, ◌-◌, nat_eq, Bool, true, false, cond, ◌||◌, Option, List, [], ◌∷◌, ◌++◌, length, Result, Ok, Err, refl, sym, ap, subst, ◌∙◌, inl, inr, arith, Some}
use Rattle.std.proofs.lemmas.List.{length-append, append_assoc}
use Rattle.std.specs.Prelude.{codes}
use Rattle.ir_lex.specs.Bytes.{has}
use Rattle.ir_lex.specs.TokenKinds.{number, kind_of, word_kind, listed_kind, words_7}
use Rattle.ir_lex.specs.Lexing.{is_bad}
use Rattle.ir_lex.specs.Quotes.{is_zero_name}
use Rattle.ir_lex.specs.Rows.{best_fit, rest_fit, label_len, number_len, word_len, name_len, meta_len, dots_len, other_len, string_len}
use Rattle.ir_lex.specs.Tok.{Tok}
use Rattle.ir_lex.specs.declared.token_kind.TokenKind.TheVariants as kinds
use Rattle.ir_lex.specs.declared.token_kind.TokenKind.{TokenKind}
use Rattle.ir_parse_parts.proofs.Composed.{wrong, wrong_is}
use Rattle.ir_parse_parts.proofs.Rules.{within_of}
use Rattle.ir_parse_parts.specs.Alphabet.{among, contains}
use Rattle.ir_parse_parts.specs.Chained.{Chain, chain_at}
use Rattle.ir_parse_parts.specs.Forms as form
use Rattle.ir_parse_parts.specs.Forms.{Form}
use Rattle.ir_parse_parts.specs.Lawful.{ends}
use Rattle.ir_parse_parts.specs.Readers.{Reader, done, fault_at, follow, ◌>>=◌, token_means, pick}
use Rattle.ir_parse_parts.specs.Rules.{disjoint, in_range, is_class, is_valued}
use Rattle.ir_parse_parts.specs.declared.fault.Fault.{Fault}
use Rattle.ir_parse_parts.specs.declared.fault.TokenFault.TheVariants.{Profile, Limit}
use Rattle.ir_parse_parts.specs.declared.fault.TokenFault.{TokenFault}
use Rattle.ir_parse_heads.specs.AttributesAt.{HEAD, attribute_group_at}
use Rattle.ir_parse_parts.specs.Classes.{tokens, IsReal, refusal, the, the_at}
use Rattle.ir_parse_heads.specs.FunctionHeads.{name_refusal}
use Rattle.ir_parse_parts.specs.Metadata.{META}
use Rattle.ir_parse_parts.specs.Operands.{LOCAL, REG, global_named}
use Rattle.ir_parse_operands.specs.ShapeForms.{OPEN_BRACE, any_shape}
use Rattle.ir_parse_heads.specs.Targets.{STRING, layout_line, triple_line}
use Rattle.ir_parse_heads.specs.TargetsAt.{comdat_line_at, source_line_at, target_line_at, LAYOUT, layout_line_at, triple_line_at}
use Rattle.ir_parse_heads.specs.declared.function_heads.Role.TheVariants as roles
use Rattle.ir_parse_parts.specs.declared.places.Before.TheVariants as befores
use Rattle.ir_parse_parts.specs.declared.places.Before.{Before}
use Rattle.ir_parse_parts.specs.declared.places.Position.{Position}
use Rattle.ir_parse_parts.specs.declared.raw.Item.{Item}
use Rattle.ir_parse_parts.proofs.Nodes.{attached_rule}
use Rattle.ir_parse_parts.proofs.Singles.{word, the_rule}
use Rattle.ir_parse_bodies.specs.BlocksAt.{definition_at}
use Rattle.ir_parse_globals.specs.TypeDefinitionsAt.{type_line_at}
use Rattle.ir_parse_globals.specs.Variables.{NAMES}
use Rattle.ir_parse_globals.specs.VariablesAt.{variable_line_at, variable_name_at}
use Rattle.ir_parse_bodies.specs.Blocks.{any_definition}
use Rattle.ir_parse.specs.ItemForms.{left_out, kept, unnamed, attribute_behind, placed, metadata_there, plainly, beside, attached_before, declaration, any_declaration, any_naming, other, any_named, any_piece, anywhere, at_place, ParsedItem}
use Rattle.ir_parse.specs.ItemFormsAt.{SOURCE, TARGET, COMDAT, DECLARE, NAMING, left_out_at, kept_at, unnamed_at, attribute_behind_at, placed_at, metadata_there_at, plainly_at, beside_at, attached_before_at, declaration_at, other_at, ITEM}
use Rattle.ir_parse.proofs.ItemRules.{there_rule}
use Rattle.ir_parse.specs.Refusals.{MEMORY, WORD}
use Rattle.ir_parse.specs.NamedCalls.{in_definition}
use Rattle.ir_parse.proofs.Exchanged.{differ, Exchanges, Goes, Place, Swapping, Swaps, alt_loosely, is_angled, loosely, value_loosely, nowhere, alt, alt_by, seq_from, fair, nothing, same_reader, seq, star, taken, tested, Outcome, outcome_too, stands_for, apart, passed, taken_first, IsTold, Stuck, is_target, target_is, placed_of}
use Rattle.ir_parse.proofs.ExchangedAttributes.{attribute_group_exchanged, head_attribute_exchanged}
use Rattle.ir_parse.proofs.ExchangedBlocks.{definition_exchanged}
use Rattle.ir_parse.proofs.ExchangedChains.{chain_behind}
use Rattle.ir_parse.proofs.ExchangedFunctionHeads.{head_exchanged}
use Rattle.ir_parse.proofs.ExchangedMetadataBehind.{metadata_behind_exchanged, node_yet_exchanged}
use Rattle.ir_parse.proofs.ExchangedNodes.{attached_exchanged, metadata_line_exchanged}
use Rattle.ir_parse.proofs.ExchangedTargets.{comdat_line_exchanged, source_line_exchanged, target_line_exchanged, layout_line_exchanged, triple_line_exchanged}
use Rattle.ir_parse.proofs.ExchangedTokens.{plain_class}
use Rattle.ir_parse.proofs.ExchangedTypeDefinitions.{type_line_exchanged}
use Rattle.ir_parse.proofs.ExchangedVariables.{variable_line_exchanged}

declare_real : IsReal (word kinds.Declare (codes "declare"))
unfolding best_fit rest_fit label_len number_len word_len name_len meta_len dots_len other_len string_len has is_bad is_zero_name kind_of word_kind listed_kind words_7
declare_real = record { behind = []; some = refl; fits = refl; good = refl; class = refl }

-- types and plain words, which begin no item
abbrev pub TYPES : List ℕ
TYPES = number kinds.RefusedType ∷ number kinds.Word ∷ REG

abbrev TARGETS : List ℕ
TARGETS = number kinds.Target ∷ TYPES

abbrev behind_targets : Reader Tok ParsedItem
behind_targets = pick (among tokens COMDAT) (left_out_at comdat_line_at) (pick (among tokens LOCAL) (kept_at type_line_at) (kept_at attribute_group_at))

abbrev fine : Unit {0} → Result (Unit {0}) TokenFault
fine u = Ok u

abbrev failed : TokenFault → Result (Unit {0}) TokenFault
failed k = Err k

not_class : (wanted : ℕ) (n : ℕ) → contains (wanted ∷ []) n ≡ false → nat_eq n wanted ≡ false
not_class wanted n e = by_test (nat_eq n wanted) e
  where
    by_test : (b : Bool) → b || false ≡ false → b ≡ false
    by_test true e = absurd cc
    by_test false e = refl

refused_first : {B : Type 0} (wanted : TokenKind) (h : Unit {0} → Reader Tok B) (t : Tok) (ts : List Tok) → contains (number wanted ∷ []) (number t.kind) ≡ false → (the_at wanted >>= h) (t ∷ ts) ≡ fault_at (refusal (number t.kind)) (t ∷ ts)
unfolding is_class
refused_first wanted h t ts e = ap (λ (b : Bool). follow (token_means t ts (cond b (fine tt) (failed (refusal (number t.kind))))) h) (not_class (number wanted) (number t.kind) e)

then_refused : {A B : Type 0} (f : Reader Tok A) (h : A → Reader Tok B) (k : TokenFault) (t : Tok) (ts : List Tok) → f (t ∷ ts) ≡ fault_at k (t ∷ ts) → (f >>= h) (t ∷ ts) ≡ fault_at k (t ∷ ts)
then_refused {A} f h k t ts e = ap (λ (r : Result (A × List Tok) Fault). follow r h) e

target_refuses : (t : Tok) (ts : List Tok) → contains TYPES (number t.kind) ≡ true → kept_at target_line_at (t ∷ ts) ≡ fault_at (refusal (number t.kind)) (t ∷ ts)
unfolding kept_at target_line_at
target_refuses t ts e = then_refused target_line_at _ (refusal (number t.kind)) t ts (refused_first kinds.Target _ t ts (apart TYPES (number kinds.Target ∷ []) refl (number t.kind) e))

group_refuses : (t : Tok) (ts : List Tok) → contains TYPES (number t.kind) ≡ true → kept_at attribute_group_at (t ∷ ts) ≡ fault_at (refusal (number t.kind)) (t ∷ ts)
unfolding kept_at attribute_group_at
group_refuses t ts e = then_refused attribute_group_at _ (refusal (number t.kind)) t ts (refused_first kinds.Attributes _ t ts (apart TYPES (number kinds.Attributes ∷ []) refl (number t.kind) e))

behind_refuses : (t : Tok) (ts : List Tok) → contains TYPES (number t.kind) ≡ true → behind_targets (t ∷ ts) ≡ fault_at (refusal (number t.kind)) (t ∷ ts)
behind_refuses t ts e =
    passed COMDAT (left_out_at comdat_line_at) (pick (among tokens LOCAL) (kept_at type_line_at) (kept_at attribute_group_at)) t ts (apart TYPES COMDAT refl (number t.kind) e)
    ∙ passed LOCAL (kept_at type_line_at) (kept_at attribute_group_at) t ts (apart TYPES LOCAL refl (number t.kind) e) ∙ group_refuses t ts e

pub unnamed_refuses : (t : Tok) (ts : List Tok) → contains TYPES (number t.kind) ≡ true → unnamed_at (t ∷ ts) ≡ fault_at (refusal (number t.kind)) (t ∷ ts)
unfolding unnamed_at
unnamed_refuses t ts e =
    passed SOURCE (left_out_at source_line_at) (pick (among tokens TARGET) (kept_at target_line_at) behind_targets) t ts (apart TYPES SOURCE refl (number t.kind) e)
    ∙ passed TARGET (kept_at target_line_at) behind_targets t ts (apart TYPES TARGET refl (number t.kind) e) ∙ behind_refuses t ts e

targets_same : (ts : List Tok) → pick (among tokens TARGETS) (kept_at target_line_at) behind_targets ts ≡ pick (among tokens TARGET) (kept_at target_line_at) behind_targets ts
targets_same [] = refl
targets_same (t ∷ ts) = by_test (contains TYPES (number t.kind)) refl
  where
    by_target : (a b : Bool) → b ≡ false → cond (a || b) (kept_at target_line_at (t ∷ ts)) (behind_targets (t ∷ ts)) ≡ cond (a || false) (kept_at target_line_at (t ∷ ts)) (behind_targets (t ∷ ts))
    by_target a true e = absurd cc
    by_target a false e = refl

    told : (a : Bool) → contains TYPES (number t.kind) ≡ true → cond a (kept_at target_line_at (t ∷ ts)) (behind_targets (t ∷ ts)) ≡ behind_targets (t ∷ ts)
    told true e = target_refuses t ts e ∙ sym (behind_refuses t ts e)
    told false e = refl

    by_test : (b : Bool) → contains TYPES (number t.kind) ≡ b → cond (among tokens TARGETS t) (kept_at target_line_at (t ∷ ts)) (behind_targets (t ∷ ts)) ≡ cond (among tokens TARGET t) (kept_at target_line_at (t ∷ ts)) (behind_targets (t ∷ ts))
    by_test true e = told (among tokens TARGETS t) e ∙ sym (told (among tokens TARGET t) e)
    by_test false e = by_target (nat_eq (number t.kind) (number kinds.Target)) (contains TYPES (number t.kind)) e

unnamed_same : (ts : List Tok) → pick (among tokens SOURCE) (left_out_at source_line_at) (pick (among tokens TARGETS) (kept_at target_line_at) behind_targets) ts ≡ unnamed_at ts
unfolding unnamed_at
unnamed_same [] = refl
unnamed_same (t ∷ ts) = ap (λ (r : Result (ParsedItem × List Tok) Fault). cond (among tokens SOURCE t) (left_out_at source_line_at (t ∷ ts)) r) (targets_same (t ∷ ts))

pub unnamed_exchanged : Exchanges (unnamed any_shape) unnamed_at
unfolding unnamed left_out left_out_at kept kept_at
unnamed_exchanged = same_reader unnamed_same (alt SOURCE refl (seq source_line_exchanged (λ _. nothing _)) (alt TARGETS refl (seq target_line_exchanged (λ _. nothing _)) (alt COMDAT refl (seq comdat_line_exchanged (λ _. nothing _)) (alt LOCAL refl (seq type_line_exchanged (λ _. nothing _)) (seq attribute_group_exchanged (λ _. nothing _))))))

pub attribute_behind_exchanged : Exchanges attribute_behind attribute_behind_at
unfolding attribute_behind attribute_behind_at
attribute_behind_exchanged = seq head_attribute_exchanged (λ _. nothing _)

pub metadata_there_exchanged : (before : Before) → Swaps false true nowhere (metadata_there before) (metadata_there_at before)
unfolding left_out left_out_at placed placed_at
metadata_there_exchanged befores.Item = value_loosely _ metadata_line_exchanged
metadata_there_exchanged befores.Declaration = value_loosely (λ before. (None, before)) metadata_behind_exchanged
metadata_there_exchanged befores.Name = value_loosely (λ before. (None, before)) node_yet_exchanged

abbrev found : Item → ParsedItem
found i = (Some i, befores.Item)

-- `target` goes on there
target_read : (t : Tok) (rest : List Tok) → is_target t.kind ≡ true → kept_at target_line_at (t ∷ rest) ≡ (pick (among tokens LAYOUT) layout_line_at triple_line_at >>= λ i. done (found i)) rest
unfolding kept_at target_line_at is_class
target_read t rest q = ap (λ (n : ℕ). follow (follow (token_means t rest (cond (nat_eq n (number kinds.Target)) (fine tt) (failed (refusal n)))) (λ _. pick (among tokens LAYOUT) layout_line_at triple_line_at)) (λ i. done (found i))) (target_is t.kind q)

unnamed_read : (t : Tok) (rest : List Tok) → is_target t.kind ≡ true → unnamed_at (t ∷ rest) ≡ kept_at target_line_at (t ∷ rest)
unfolding unnamed_at
unnamed_read t rest q =
    passed SOURCE (left_out_at source_line_at) (pick (among tokens TARGET) (kept_at target_line_at) behind_targets) t rest (ap (contains SOURCE) (target_is t.kind q))
    ∙ taken_first TARGET (kept_at target_line_at) behind_targets t rest (ap (contains TARGET) (target_is t.kind q))

line_of_target : Exchanges (form.◌>>=◌ (form.either layout_line triple_line) (λ i. form.gives (found i))) (pick (among tokens LAYOUT) layout_line_at triple_line_at >>= λ i. done (found i))
line_of_target = seq (alt LAYOUT refl layout_line_exchanged triple_line_exchanged) (λ i. nothing (found i))

unnamed_goes_on : (t : Tok) (rest : List Tok) (o : Result ParsedItem TokenFault) → is_target t.kind ≡ true → unnamed_at (t ∷ rest) ≡ ends o (t ∷ rest) → ⊥
unnamed_goes_on t rest o q d =
    let p = placed_of line_of_target rest (t ∷ rest) o (sym (unnamed_read t rest q ∙ target_read t rest q) ∙ d) in
    omega (arith, ap length p.2, length-append p.0 p.1, p.3)

pub plainly_exchanged : (before : Before) → Exchanges (plainly any_shape before) (plainly_at before)
plainly_exchanged befores.Item = unnamed_exchanged
plainly_exchanged befores.Declaration = alt_by nowhere HEAD (inr (refl, refl, inr unnamed_goes_on)) attribute_behind_exchanged unnamed_exchanged (λ front v. v) (λ front v. v)
plainly_exchanged befores.Name = unnamed_exchanged

pub beside_exchanged : (before : Before) → Swaps false true nowhere (beside any_shape before) (beside_at before)
unfolding beside beside_at
beside_exchanged befores.Item = alt_loosely META refl (metadata_there_exchanged befores.Item) (loosely (plainly_exchanged befores.Item))
beside_exchanged befores.Declaration = alt_loosely META refl (metadata_there_exchanged befores.Declaration) (loosely (plainly_exchanged befores.Declaration))
beside_exchanged befores.Name = alt_loosely META refl (metadata_there_exchanged befores.Name) (loosely (plainly_exchanged befores.Name))

pub declare_exchanged : Exchanges (the kinds.Declare) (the_at kinds.Declare)
unfolding is_class
declare_exchanged = plain_class kinds.Declare (the_rule kinds.Declare (word kinds.Declare (codes "declare")) refl declare_real) refl

pub attached_before_exchanged : Exchanges attached_before attached_before_at
unfolding attached_before attached_before_at
attached_before_exchanged = seq (star META refl attached_exchanged (taken attached_rule)) (λ _. nothing tt)

pub declaration_exchanged : (room : ℕ) → Exchanges any_declaration (declaration_at room)
unfolding declaration any_declaration declaration_at
declaration_exchanged room = seq declare_exchanged (λ _. seq attached_before_exchanged (λ _. seq (head_exchanged roles.Declaration room) (λ h. nothing _)))

pub other_exchanged : (before : Before) (names : ℕ) → Swaps false true nowhere (other any_shape before names) (other_at before names)
unfolding other other_at
other_exchanged befores.Item names = value_loosely (at_place names) (beside_exchanged befores.Item)
other_exchanged befores.Declaration names = value_loosely (at_place names) (beside_exchanged befores.Declaration)
other_exchanged befores.Name names = value_loosely (at_place names) (beside_exchanged befores.Name)

-- ---- pieces, with a name that is a number as one that begins a variable

abbrev pub NUMBERED_NAME : List ℕ
NUMBERED_NAME = number kinds.NumberedGlobal ∷ []

abbrev ALL_NAMING : List ℕ
ALL_NAMING = NUMBERED_NAME ++ NAMING

abbrev ALL_NAMES : List ℕ
ALL_NAMES = NUMBERED_NAME ++ NAMES

abbrev pub naming_with : ℕ → Reader Tok ParsedItem
naming_with room = pick (among tokens ALL_NAMES) (kept_at variable_line_at) (pick (among tokens DECLARE) (declaration_at room) (kept_at (definition_at room)))

abbrev pub named_with : ℕ → ℕ → Reader Tok (Option Item × Position)
named_with room names = naming_with room >>= λ x. done (at_place (names - 1) x)

abbrev pub within_at : ℕ → Before → ℕ → Reader Tok (Option Item × Position)
within_at room before names = pick (among tokens ALL_NAMING) (cond (nat_eq names 0) (fault_at Limit) (named_with room names)) (other_at before names)

abbrev pub piece_with : ℕ → Before → ℕ → Reader Tok (Option Item × Position)
piece_with room before names = pick (among tokens NUMBERED_NAME) (named_with room names) (within_at room before names)

definitions_exchanged : (room : ℕ) → Swapping false in_definition (form.either any_declaration (kept any_definition)) (pick (among tokens DECLARE) (declaration_at room) (kept_at (definition_at room)))
unfolding kept kept_at
definitions_exchanged room = alt_by in_definition DECLARE (inl refl) (declaration_exchanged room) (seq_from (definition_exchanged room) (λ _. nothing _)) (λ front v. absurd v) (λ front v. v)

naming_exchanged : (room : ℕ) → Swapping false in_definition any_naming (naming_with room)
unfolding kept kept_at
naming_exchanged room = alt_by in_definition ALL_NAMES (inl refl) (seq variable_line_exchanged (λ _. nothing _)) (definitions_exchanged room) (λ front v. absurd v) (λ front v. v)

named_exchanged : (room names : ℕ) → Swapping false in_definition (any_named names) (named_with room names)
unfolding any_named
named_exchanged room names = seq_from (naming_exchanged room) (λ x. nothing (at_place (names - 1) x))

within_exchanged : (room : ℕ) (before : Before) (names : ℕ) → Swaps false true in_definition (any_piece before names) (within_at room before names)
unfolding any_piece
within_exchanged room before names = alt_by in_definition ALL_NAMING (inl refl) (loosely (tested (nat_eq names 0) (named_exchanged room names))) (other_exchanged before names) (λ front v. v) (λ front v. absurd v)

-- a number can't name a variable that isn't local
pub numbered_is : (n : ℕ) → contains NUMBERED_NAME n ≡ true → name_refusal n ≡ Profile
numbered_is n e = by_tests (nat_eq n (number kinds.NumberedGlobal)) (nat_eq n (number kinds.NumberedDefinition)) (refusal n) e
  where
    by_tests : (a b : Bool) (k : TokenFault) → a || false ≡ true → cond (a || (b || false)) Profile k ≡ Profile
    by_tests true b k e = refl
    by_tests false b k e = absurd cc

name_told : (t : Tok) (ts : List Tok) → among tokens NUMBERED_NAME t ≡ true → variable_name_at (t ∷ ts) ≡ fault_at Profile (t ∷ ts)
unfolding is_valued
name_told t ts e = ap (λ (b : Bool). token_means t ts (cond b (in_range (global_named t)) (Err (name_refusal (number t.kind))))) (apart NUMBERED_NAME NAMES refl (number t.kind) e) ∙ ap (λ (k : TokenFault). fault_at k (t ∷ ts)) (numbered_is (number t.kind) e)

line_told : (t : Tok) (ts : List Tok) → among tokens NUMBERED_NAME t ≡ true → variable_line_at (t ∷ ts) ≡ fault_at Profile (t ∷ ts)
unfolding variable_line_at
line_told t ts e = then_refused variable_name_at _ Profile t ts (name_told t ts e)

kept_line_told : (t : Tok) (ts : List Tok) → among tokens NUMBERED_NAME t ≡ true → kept_at variable_line_at (t ∷ ts) ≡ fault_at Profile (t ∷ ts)
unfolding kept_at
kept_line_told t ts e = then_refused variable_line_at _ Profile t ts (line_told t ts e)

naming_told : (room : ℕ) (t : Tok) (ts : List Tok) → among tokens NUMBERED_NAME t ≡ true → naming_with room (t ∷ ts) ≡ fault_at Profile (t ∷ ts)
naming_told room t ts e = taken_first ALL_NAMES (kept_at variable_line_at) (pick (among tokens DECLARE) (declaration_at room) (kept_at (definition_at room))) t ts (within_of NUMBERED_NAME ALL_NAMES refl (number t.kind) e) ∙ kept_line_told t ts e

pub numbered_told : (room names : ℕ) (t : Tok) (ts : List Tok) → among tokens NUMBERED_NAME t ≡ true → named_with room names (t ∷ ts) ≡ fault_at Profile (t ∷ ts)
numbered_told room names t ts e = then_refused (naming_with room) (λ x. done (at_place (names - 1) x)) Profile t ts (naming_told room t ts e)

-- none stands for another that is a number
unnumbered : (h : TokenKind) (u : Tok) → among tokens (stands_for false h) u ≡ true → among tokens NUMBERED_NAME u ≡ false
unnumbered kinds.RefusedType u i = apart REG NUMBERED_NAME refl (number u.kind) i
unnumbered kinds.Target u i = apart (REG ++ WORD) NUMBERED_NAME refl (number u.kind) i
unnumbered kinds.RegisterInteger u i = apart MEMORY NUMBERED_NAME refl (number u.kind) i
unnumbered kinds.NumberedGlobal u i = apart (number kinds.Global ∷ []) NUMBERED_NAME refl (number u.kind) i
unnumbered kinds.NumberedDefinition u i = apart (number kinds.Global ∷ []) NUMBERED_NAME refl (number u.kind) i
unnumbered kinds.Str u i = apart STRING NUMBERED_NAME refl (number u.kind) i
unnumbered h u i = absurd (differ i)

named_is_piece : (before : Before) (names : ℕ) (front : List Tok) (u : Tok) → Goes (any_named names) front u → Goes (any_piece before names) front u
unfolding any_piece form.either
named_is_piece before names front u (more, x, s, r) = (more, x, inl s, r)

named_in_piece : (before : Before) (names : ℕ) (front : List Tok) (x : Option Item × Position) → any_named names front x → any_piece before names front x
unfolding any_piece form.either
named_in_piece before names front x s = inl s

end_is : {A : Type 0} (k : TokenFault) (o : Result A TokenFault) (us : List Tok) → fault_at k us ≡ ends o us → o ≡ Err k
end_is k (Ok a) us e = absurd cc
end_is {A} k (Err l) us e = ap (λ (x : Fault). Err x.kind) (sym (wrong_is {X = A × List Tok} (record { left = length us; kind = k }) (record { left = length us; kind = l }) e))

module _ (room : ℕ) (before : Before) (names : ℕ) where
  abbrev whole_piece : Form Tok (Option Item × Position)
  whole_piece = any_piece before names

  numbered_too : (t : Tok) → among tokens NUMBERED_NAME t ≡ true → IsTold false t.kind (Stuck (named_with room names) []) (Goes (any_named names) []) → IsTold false t.kind (Stuck (piece_with room before names) []) (Goes whole_piece [])
  numbered_too t e n = by_head t.kind e n
    where
      by_head : (h : TokenKind) → contains NUMBERED_NAME (number h) ≡ true → IsTold false h (Stuck (named_with room names) []) (Goes (any_named names) []) → IsTold false h (Stuck (piece_with room before names) []) (Goes whole_piece [])
      by_head kinds.NumberedGlobal e (u, i, g) = (u, i, named_is_piece before names [] u g)
      by_head h e n = absurd (differ e)

  swap_numbered : (t : Tok) (rest : List Tok) (o : Result (Option Item × Position) TokenFault) → among tokens NUMBERED_NAME t ≡ true → named_with room names (t ∷ rest) ≡ ends o (t ∷ rest) → Outcome false in_definition whole_piece (piece_with room before names) [] t.kind o
  swap_numbered t rest o e d =
      subst (λ (x : Result (Option Item × Position) TokenFault). Outcome false in_definition whole_piece (piece_with room before names) [] t.kind x) (sym (end_is Profile o (t ∷ rest) (sym (numbered_told room names t rest e) ∙ d)))
      (numbered_too t e ((named_exchanged room names).swap [] t rest (Err Profile) (numbered_told room names t rest e)))

  swap_piece : (front : List Tok) (t : Tok) (rest : List Tok) (o : Result (Option Item × Position) TokenFault) → piece_with room before names (front ++ t ∷ rest) ≡ ends o (t ∷ rest) → Outcome false in_definition whole_piece (piece_with room before names) front t.kind o
  swap_piece [] t rest o d = by_test (among tokens NUMBERED_NAME t) refl d
    where
      by_test : (b : Bool) → among tokens NUMBERED_NAME t ≡ b → cond b (named_with room names (t ∷ rest)) (within_at room before names (t ∷ rest)) ≡ ends o (t ∷ rest) → Outcome false in_definition whole_piece (piece_with room before names) [] t.kind o
      by_test true e d = swap_numbered t rest o e d
      by_test false e d = outcome_too false false in_definition in_definition whole_piece whole_piece (within_at room before names) (piece_with room before names) false [] [] t.kind o (λ e. e) (λ v. v) (λ u i rest'. sym (passed NUMBERED_NAME (named_with room names) (within_at room before names) u rest' (unnumbered t.kind u i))) (λ u g. g) ((within_exchanged room before names).swap [] t rest o d)
  swap_piece (v ∷ front) t rest o d = by_test (among tokens NUMBERED_NAME v) refl d
    where
      by_test : (b : Bool) → among tokens NUMBERED_NAME v ≡ b → cond b (named_with room names (v ∷ (front ++ t ∷ rest))) (within_at room before names (v ∷ (front ++ t ∷ rest))) ≡ ends o (t ∷ rest) → Outcome false in_definition whole_piece (piece_with room before names) (v ∷ front) t.kind o
      by_test true e d = outcome_too false false in_definition in_definition (any_named names) whole_piece (named_with room names) (piece_with room before names) (is_angled (v ∷ front)) (v ∷ front) (v ∷ front) t.kind o (λ e. e) (λ v. v) (λ u i rest'. sym (taken_first NUMBERED_NAME (named_with room names) (within_at room before names) v (front ++ u ∷ rest') e)) (λ u g. named_is_piece before names (v ∷ front) u g) ((named_exchanged room names).swap (v ∷ front) t rest o d)
      by_test false e d = outcome_too false false in_definition in_definition whole_piece whole_piece (within_at room before names) (piece_with room before names) (is_angled (v ∷ front)) (v ∷ front) (v ∷ front) t.kind o (λ e. e) (λ v. v) (λ u i rest'. sym (passed NUMBERED_NAME (named_with room names) (within_at room before names) v (front ++ u ∷ rest') e)) (λ u g. g) ((within_exchanged room before names).swap (v ∷ front) t rest o d)

  sound_piece : (ts rest : List Tok) (x : Option Item × Position) → piece_with room before names ts ≡ Ok (x, rest) → (front : List Tok) × (ts ≡ front ++ rest) × whole_piece front x
  sound_piece [] rest x d = (within_exchanged room before names).sound [] rest x d
  sound_piece (t ∷ ts) rest x d = by_test (among tokens NUMBERED_NAME t) d
    where
      by_test : (b : Bool) → cond b (named_with room names (t ∷ ts)) (within_at room before names (t ∷ ts)) ≡ Ok (x, rest) → (front : List Tok) × (t ∷ ts ≡ front ++ rest) × whole_piece front x
      by_test true d = let s = (named_exchanged room names).sound (t ∷ ts) rest x d in (s.0, s.1, named_in_piece before names s.0 x s.2)
      by_test false d = (within_exchanged room before names).sound (t ∷ ts) rest x d

  placed_piece : (ts : List Tok) (e : Fault) → piece_with room before names ts ≡ wrong e → (front : List Tok) × (rest : List Tok) × (ts ≡ front ++ rest) × (length rest ≡ e.left)
  placed_piece [] e d = (within_exchanged room before names).placed [] e d
  placed_piece (t ∷ ts) e d = by_test (among tokens NUMBERED_NAME t) d
    where
      by_test : (b : Bool) → cond b (named_with room names (t ∷ ts)) (within_at room before names (t ∷ ts)) ≡ wrong e → (front : List Tok) × (rest : List Tok) × (t ∷ ts ≡ front ++ rest) × (length rest ≡ e.left)
      by_test true d = (named_exchanged room names).placed (t ∷ ts) e d
      by_test false d = (within_exchanged room before names).placed (t ∷ ts) e d

  local_piece : (front : List Tok) (t : Tok) (rest rest' : List Tok) (o : Result (Option Item × Position) TokenFault) → piece_with room before names (front ++ t ∷ rest) ≡ ends o (t ∷ rest) → piece_with room before names (front ++ t ∷ rest') ≡ ends o (t ∷ rest')
  local_piece [] t rest rest' o d = by_test (among tokens NUMBERED_NAME t) d
    where
      by_test : (b : Bool) → cond b (named_with room names (t ∷ rest)) (within_at room before names (t ∷ rest)) ≡ ends o (t ∷ rest) → cond b (named_with room names (t ∷ rest')) (within_at room before names (t ∷ rest')) ≡ ends o (t ∷ rest')
      by_test true d = (named_exchanged room names).local [] t rest rest' o d
      by_test false d = (within_exchanged room before names).local [] t rest rest' o d
  local_piece (v ∷ front) t rest rest' o d = by_test (among tokens NUMBERED_NAME v) d
    where
      by_test : (b : Bool) → cond b (named_with room names (v ∷ (front ++ t ∷ rest))) (within_at room before names (v ∷ (front ++ t ∷ rest))) ≡ ends o (t ∷ rest) → cond b (named_with room names (v ∷ (front ++ t ∷ rest'))) (within_at room before names (v ∷ (front ++ t ∷ rest'))) ≡ ends o (t ∷ rest')
      by_test true d = (named_exchanged room names).local (v ∷ front) t rest rest' o d
      by_test false d = (within_exchanged room before names).local (v ∷ front) t rest rest' o d

  pub piece_exchanged : Swaps false true in_definition whole_piece (piece_with room before names)
  piece_exchanged = record { sound = sound_piece; placed = placed_piece; local = local_piece; some = (within_exchanged room before names).some; closed = λ front rest a d q. refl; swap = swap_piece }

-- ---- items one behind another

-- what may begin there, and what is told there
abbrev pub STARTS : Before → List ℕ
STARTS befores.Item = NUMBERED_NAME ++ (TYPES ++ ITEM)
STARTS befores.Declaration = NUMBERED_NAME ++ (HEAD ++ ITEM)
STARTS befores.Name = NUMBERED_NAME ++ (TYPES ++ ITEM)

abbrev pub starts_there : Position → Tok → Bool
starts_there at = among tokens (STARTS at.before)

abbrev pub piece_there : ℕ → Position → Reader Tok (Option Item × Position)
piece_there room at = piece_with room at.before at.names

starts_fair : (before : Before) → fair (STARTS before) ≡ true
starts_fair befores.Item = refl
starts_fair befores.Declaration = refl
starts_fair befores.Name = refl

abbrev pub all_items_at : ℕ → Position → Reader Tok (List (Option Item))
all_items_at room = chain_at anywhere starts_there (piece_there room)

-- items, and a definition as far as it goes
abbrev pub in_items : Position → Place
in_items at = form.◌>>=◌ (Chain anywhere (λ at. any_piece at.before at.names) at) (λ _. in_definition)

first_item : (at : Position) (front : List Tok) → in_definition front tt → in_items at front tt
unfolding form.◌>>=◌
first_item at front v = ([], front, [], refl, (refl, refl), v)

behind_item : (at : Position) (one two : List Tok) (x : Option Item × Position) → any_piece at.before at.names one x → in_items x.1 two tt → in_items at (one ++ two) tt
unfolding form.◌>>=◌
behind_item at one two x s (p, q, is, e, r, v) = (one ++ p, q, x.0 ∷ is, ap (λ (ts : List Tok). one ++ ts) e ∙ sym (append_assoc one p q), (one, p, x.1, refl, s, r), v)

-- a number and a brace begin none
starts_steady : (before : Before) → disjoint (number kinds.Number ∷ OPEN_BRACE) (STARTS before) ≡ true
starts_steady befores.Item = refl
starts_steady befores.Declaration = refl
starts_steady befores.Name = refl

pub all_items_exchanged : (room : ℕ) (at : Position) → Swaps false true (in_items at) (Chain anywhere (λ at. any_piece at.before at.names) at) (all_items_at room at)
all_items_exchanged room at = chain_behind anywhere (λ at. STARTS at.before) (λ at. any_piece at.before at.names) (piece_there room) in_items first_item behind_item (λ at. piece_exchanged room at.before at.names) (λ at x q. taken (there_rule room at) x q) (λ _. ([], [], (refl, refl), tt)) (λ at e. starts_fair at.before) (λ e at. (refl, starts_steady at.before)) at
