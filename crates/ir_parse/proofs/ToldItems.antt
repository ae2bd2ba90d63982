-- The first fault of the readers of items is of a kind that its token allows.
use Rattle.ir_parse.proofs.Told.{Tells, takes_of, seq, nothing, alt, barred, star, chain, the_told}
use Rattle.std.specs.Prelude.{ℕ, Bool, nat_eq}
use Rattle.ir_lex.specs.declared.token_kind.TokenKind.TheVariants as kinds
use Rattle.ir_lex.specs.Tok.{Tok}
use Rattle.ir_parse_parts.specs.Alphabet.{among}
use Rattle.ir_parse_parts.specs.declared.fault.TokenFault.TheVariants.{Limit}
use Rattle.ir_parse_parts.specs.Readers.{Reader, fault_at, pick}
use Rattle.ir_parse_bodies.specs.BlocksAt.{definition_at}
use Rattle.ir_parse.proofs.ToldBlocks.{definition_told}
use Rattle.ir_parse_globals.specs.TypeDefinitionsAt.{type_line_at}
use Rattle.ir_parse.proofs.ToldTypeDefinitions.{type_line_told}
use Rattle.ir_parse_globals.specs.Variables.{NAMES}
use Rattle.ir_parse_globals.specs.VariablesAt.{variable_line_at}
use Rattle.ir_parse.proofs.ToldVariables.{variable_line_told}
use Rattle.ir_parse_heads.specs.AttributesAt.{HEAD, attribute_group_at}
use Rattle.ir_parse.proofs.ToldAttributes.{head_attribute_told, attribute_group_told}
use Rattle.ir_parse_parts.specs.Classes.{tokens}
use Rattle.ir_parse.proofs.ToldFunctionHeads.{head_told}
use Rattle.ir_parse.specs.ItemForms.{anywhere}
use Rattle.ir_parse_parts.specs.Metadata.{META}
use Rattle.ir_parse_parts.specs.MetadataAt.{metadata_line_at}
use Rattle.ir_parse.proofs.ToldMetadata.{attached_told, metadata_line_told}
use Rattle.ir_parse_parts.specs.MetadataBehindAt.{metadata_behind_at, node_yet_at}
use Rattle.ir_parse.proofs.ToldMetadataBehind.{metadata_behind_told, node_yet_told}
use Rattle.ir_parse_parts.specs.Operands.{LOCAL}
use Rattle.ir_parse_heads.specs.TargetsAt.{target_line_at, source_line_at, comdat_line_at}
use Rattle.ir_parse.proofs.ToldTargets.{target_line_told, source_line_told, comdat_line_told}
use Rattle.ir_parse_heads.specs.declared.function_heads.Role.TheVariants as roles
use Rattle.ir_parse_parts.specs.declared.places.Before.{Before}
use Rattle.ir_parse_parts.specs.declared.places.Before.TheVariants as befores
use Rattle.ir_parse_parts.specs.declared.places.Position.{Position}
use Rattle.ir_parse_parts.specs.declared.raw.Item.{Item}
use Rattle.ir_parse.specs.ItemFormsAt.{SOURCE, TARGET, COMDAT, DECLARE, NAMING, left_out_at, kept_at, unnamed_at, attribute_behind_at, placed_at, metadata_there_at, plainly_at, beside_at, attached_before_at, declaration_at, naming_at, other_at, named_at, piece_at, begins_there, there_at, first_place, items_at}
use Rattle.std.proofs.Common.{Bool, true, false, cond, nat_eq, refl}
use Rattle.ir_parse.proofs.ItemRules.{there_rule}

pub left_out_told : (f : Reader Tok (Unit {0})) → Tells f → Tells (left_out_at f)
unfolding left_out_at
left_out_told f f_told = seq f_told (λ _. nothing _)

pub kept_told : (f : Reader Tok Item) → Tells f → Tells (kept_at f)
unfolding kept_at
kept_told f f_told = seq f_told (λ i. nothing _)

pub unnamed_told : Tells unnamed_at
unfolding unnamed_at
unnamed_told =
    alt (among tokens SOURCE) (left_out_told source_line_at source_line_told) (alt (among tokens TARGET) (kept_told target_line_at target_line_told) (alt (among tokens COMDAT) (left_out_told comdat_line_at comdat_line_told) (alt (among tokens LOCAL) (kept_told type_line_at type_line_told) (kept_told attribute_group_at attribute_group_told))))

pub attribute_behind_told : Tells attribute_behind_at
unfolding attribute_behind_at
attribute_behind_told = seq head_attribute_told (λ _. nothing _)

pub placed_told : (f : Reader Tok Before) → Tells f → Tells (placed_at f)
unfolding placed_at
placed_told f f_told = seq f_told (λ before. nothing _)

pub metadata_there_told : (x0 : Before) → Tells (metadata_there_at x0)
metadata_there_told befores.Item = left_out_told metadata_line_at metadata_line_told
metadata_there_told befores.Declaration = placed_told metadata_behind_at metadata_behind_told
metadata_there_told befores.Name = placed_told node_yet_at node_yet_told

pub plainly_told : (x0 : Before) → Tells (plainly_at x0)
plainly_told befores.Item = unnamed_told
plainly_told befores.Declaration = alt (among tokens HEAD) attribute_behind_told unnamed_told
plainly_told befores.Name = unnamed_told

pub beside_told : (before : Before) → Tells (beside_at before)
unfolding beside_at
beside_told before = alt (among tokens META) (metadata_there_told before) (plainly_told before)

pub attached_before_told : Tells attached_before_at
unfolding attached_before_at
attached_before_told = seq (star META refl attached_told) (λ _. nothing _)

pub declaration_told : (room : ℕ) → Tells (declaration_at room)
unfolding declaration_at
declaration_told room = seq (the_told kinds.Declare) (λ _. seq attached_before_told (λ _. seq (head_told roles.Declaration room) (λ h. nothing _)))

pub naming_told : (room : ℕ) → Tells (naming_at room)
naming_told room =
    alt (among tokens NAMES) (kept_told variable_line_at variable_line_told) (alt (among tokens DECLARE) (declaration_told room) (kept_told (definition_at room) (definition_told room)))

pub other_told : (before : Before) → (names : ℕ) → Tells (other_at before names)
unfolding other_at
other_told before names = seq (beside_told before) (λ x. nothing _)

pub named_told : (room : ℕ) → (names : ℕ) → Tells (named_at room names)
unfolding named_at
named_told room names = seq (naming_told room) (λ x. nothing _)

pub piece_told : (room : ℕ) → (before : Before) → (names : ℕ) → Tells (piece_at room before names)
unfolding piece_at
piece_told room before names = by_test (nat_eq names 0)
  where
    by_test : (b : Bool) → Tells (pick (among tokens NAMING) (cond b (fault_at Limit) (named_at room names)) (other_at before names))
    by_test true = barred NAMING refl (other_told before names)
    by_test false = alt (among tokens NAMING) (named_told room names) (other_told before names)

pub there_told : (room : ℕ) → (at : Position) → Tells (there_at room at)
there_told room at = piece_told room at.before at.names

pub items_told : (room names : ℕ) → Tells (items_at room names)
unfolding items_at
items_told room names = seq (chain anywhere begins_there (λ s. there_told room s) (λ s. takes_of (there_rule room s)) (first_place names)) (λ all. nothing _)
