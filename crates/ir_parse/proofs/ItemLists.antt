-- Items that the grammar spells, and whole modules.
use Rattle.std.proofs.Common.{ℕ, zero, suc, nat_eq, if◌then◌else◌, Bool, true, false, [], Option, Some, None, refl}
use Rattle.std.specs.List.{AllByRecursion as Each}
use Rattle.std.specs.Prelude.{IfSome}
use Rattle.std.proofs.lemmas.List.Elements.{All-nil, All-from_recursion, recursion_from_All}
use Rattle.ir_parse.specs.ItemForms.{ParsedItem, attribute_behind, beside, declaration, declared, items, keep, kept, left_out, metadata_there, named, named_within, naming, other, piece, placed, plainly, unnamed}
use Rattle.ir_parse.specs.Modules.{FURTHER_PARAMETERS, GLOBAL_NAMES, whole_module}
use Rattle.ir_lex.specs.TokenKinds.{number}
use Rattle.ir_lex.specs.Tok.{Tok}
use Rattle.ir_lex.specs.declared.token_kind.TokenKind.TheVariants as kinds
use Rattle.ir_parse_parts.specs.Forms.{Form}
use Rattle.ir_parse_heads.specs.Attributes.{attribute_group}
use Rattle.ir_parse_operands.specs.ShapeForms.{memory_shape}
use Rattle.ir_parse_heads.specs.Targets.{layout_line, target_line, triple_line}
use Rattle.ir_parse_heads.specs.declared.function_heads.Role.TheVariants as roles
use Rattle.ir_parse_parts.specs.declared.places.Before.{Before}
use Rattle.ir_parse_parts.specs.declared.places.Before.TheVariants as befores
use Rattle.ir_parse_parts.specs.declared.places.Position.{Position}
use Rattle.ir_parse_parts.specs.declared.raw.FunctionHeader.{FunctionHeader}
use Rattle.ir_parse_parts.specs.declared.raw.Item.{Item}
use Rattle.ir_parse_parts.specs.declared.raw.Item.TheVariants.{Declaration}
use Rattle.ir_tree.specs.Formed.{IsReg}
use Rattle.ir_parse.specs.Written.{BlockWritten}
use Rattle.ir_parse.specs.Items.{ItemWritten}
use Rattle.ir_parse.specs.Spelled.{ItemsAreWritten}
use Rattle.ir_parse.specs.Sized.{IsSized}
use Rattle.ir_parse.proofs.Blocks.{definition_written}
use Rattle.ir_parse.proofs.Heads.{IsHead, head_written}
use Rattle.ir_parse.proofs.Means.{Means, chain_means, either_means, follow, kept_means, nothing, skip}
use Rattle.ir_parse.proofs.Variables.{type_written, variable_written}

abbrev KeptWritten : Option Item → Type 0
KeptWritten i = IfSome i ItemWritten

abbrev FoundWritten : ParsedItem → Type 0
FoundWritten x = KeptWritten x.0

left_out_written : (g : Form Tok (Unit {0})) → Means (left_out g) FoundWritten
unfolding left_out
left_out_written g = skip _ (λ _. nothing tt)

kept_written : {g : Form Tok Item} → Means g ItemWritten → Means (kept g) FoundWritten
unfolding kept
kept_written h = follow h (λ i k. nothing k)

-- ---- items that define no global name

layout_written : Means layout_line ItemWritten
unfolding layout_line
layout_written = skip _ (λ _. skip _ (λ _. skip _ (λ layout. nothing tt)))

triple_written : Means triple_line ItemWritten
unfolding triple_line
triple_written = skip _ (λ _. skip _ (λ _. skip _ (λ triple. nothing tt)))

target_written : Means target_line ItemWritten
unfolding target_line
target_written = skip _ (λ _. either_means layout_written triple_written)

group_written : Means attribute_group ItemWritten
unfolding attribute_group
group_written = skip _ (λ _. skip _ (λ name. skip _ (λ _. skip _ (λ _. skip _ (λ k. skip _ (λ _. nothing tt))))))

unnamed_written : Means (unnamed memory_shape) FoundWritten
unfolding unnamed
unnamed_written =
    either_means (left_out_written _) (either_means (kept_written target_written) (either_means (left_out_written _) (either_means (kept_written type_written) (kept_written group_written))))

attribute_behind_written : Means attribute_behind FoundWritten
unfolding attribute_behind
attribute_behind_written = skip _ (λ _. nothing tt)

placed_written : (g : Form Tok Before) → Means (placed g) FoundWritten
unfolding placed
placed_written g = skip _ (λ before. nothing tt)

metadata_written : (before : Before) → Means (metadata_there before) FoundWritten
metadata_written befores.Item = left_out_written _
metadata_written befores.Declaration = placed_written _
metadata_written befores.Name = placed_written _

plainly_written : (before : Before) → Means (plainly memory_shape before) FoundWritten
plainly_written befores.Item = unnamed_written
plainly_written befores.Declaration = either_means attribute_behind_written unnamed_written
plainly_written befores.Name = unnamed_written

beside_written : (before : Before) → Means (beside memory_shape before) FoundWritten
unfolding beside
beside_written before = either_means (metadata_written before) (plainly_written before)

-- ---- items that do

declared_written : (h : FunctionHeader) → IsHead roles.Declaration h → KeptWritten (declared h)
declared_written h is = by (nat_eq (number h.name.kind) (number kinds.LifetimeMarker))
  where
    by : (b : Bool) → KeptWritten (if b then None else Some (Declaration h))
    by true = tt
    by false = record {
      written = record { result = is.result; params = All-from_recursion (λ p. IsReg p.reg) h.params is.params; blocks = All-nil BlockWritten; declared = λ e. (is.linkage, refl, refl) };
      noinline = is.noinline;
      optnone = is.optnone;
      groups = is.groups;
    }

declaration_written : (room : ℕ) → Means (declaration room) FoundWritten
unfolding declaration
declaration_written room = skip _ (λ _. skip _ (λ _. follow (head_written roles.Declaration room) (λ h is. nothing (declared_written h is))))

naming_written : (room : ℕ) → Means (naming room) FoundWritten
naming_written room = either_means (kept_written variable_written) (either_means (declaration_written room) (kept_written (definition_written room)))

-- ---- all items

abbrev PieceWritten : Option Item × Position → Type 0
PieceWritten x = KeptWritten x.0

other_written : (before : Before) (names : ℕ) → Means (other memory_shape before names) PieceWritten
unfolding other
other_written before names = follow (beside_written before) (λ x h. nothing h)

named_written : (room names : ℕ) → Means (named room names) PieceWritten
unfolding named
named_written room names = follow (naming_written room) (λ x h. nothing h)

named_within_written : (room names : ℕ) → Means (named_within room names) PieceWritten
named_within_written room zero = record { of = λ ts x s h. absurd h }
named_within_written room (suc n) = named_written room (suc n)

piece_written : (room : ℕ) (before : Before) (names : ℕ) → Means (piece room before names) PieceWritten
unfolding piece
piece_written room before names = either_means (named_within_written room names) (other_written before names)

items_written : (room names : ℕ) → Means (items room names) (Each ItemWritten)
unfolding items
items_written room names =
    follow (chain_means {P = KeptWritten} (record { before = befores.Item; names = names }) (λ at. piece_written room at.before at.names)) (λ all h.
    nothing (kept_means ItemWritten keep (λ _. refl) (λ _ _. refl) [] all tt h))

module_written : Means whole_module (Each ItemWritten)
unfolding whole_module
module_written = items_written FURTHER_PARAMETERS GLOBAL_NAMES

pub items_are : ItemsAreWritten
items_are ts is s h = All-from_recursion ItemWritten is (module_written.of ts is (recursion_from_All IsSized ts s) h)
