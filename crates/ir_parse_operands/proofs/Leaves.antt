-- What a token means where a scalar or a type name may stand.
use Rattle.std.proofs.Common.{◌≡◌, ℕ, Bool, true, false, ◌&&◌, ◌||◌, not, nat_eq, cond, Option, option_map, Result, Ok, Err, ap, ◌∙◌, ◌<◌, ◌≤◌, arith}
use Rattle.std.specs.Prelude.{nat_lt}
use Rattle.std.proofs.lemmas.Bool.Decides.{nat_tests}
use Rattle.ir_lex.specs.declared.token_kind.TokenKind.TheVariants as kinds
use Rattle.ir_lex.specs.TokenKinds.{number}
use Rattle.ir_lex.specs.Tok.{Tok}
use Rattle.ir_parse_parts.specs.Alphabet.{among}
use Rattle.ir_parse_parts.specs.Classes.{tokens}
use Rattle.ir_parse_parts.specs.declared.fault.TokenFault.{TokenFault}
use Rattle.ir_parse_parts.specs.declared.fault.TokenFault.TheVariants.{Limit}
use Rattle.ir_parse_parts.specs.declared.shape.Typed.{Typed}
use Rattle.ir_parse_parts.specs.Operands as operands
use Rattle.ir_parse_parts.specs.Operands.{LOCAL, SCALAR, memory_refusal, width}
use Rattle.ir_parse_parts.specs.Rules.{in_range, is_valued}
use Rattle.ir_parse_parts.specs.Shapes as shapes
use Rattle.ir_parse_parts.specs.Shapes.{int, named}
use Rattle.ir_parse_operands.specs.declared.extents.Room.{Room}
use Rattle.ir_parse_operands.specs.Extents.{Fits, IsRoom, no_bytes}
use Rattle.ir_parse_operands.specs.ShapeForms.{has_room, is_leaf, is_pointer, leaf_means, scalar_typed, type_name, typed}

abbrev named_or : Option Typed → TokenFault → Bool → Result Typed TokenFault
named_or name fault local = cond local (in_range name) (Err fault)

abbrev means_of : Room → Tok → Bool → Bool → Bool → Result Typed TokenFault
means_of room t integer pointer local =
    cond ((integer || (pointer || false)) && not (has_room room t)) (Err Limit)
    (cond ((integer || (pointer || false)) && has_room room t) (Ok (scalar_typed t)) (named_or (type_name t) (memory_refusal (number t.kind)) (local || false)))

abbrev scalar_or : Room → Tok → Bool → Bool → Result Typed TokenFault
scalar_or room t scalar fits = cond (scalar && not fits) (Err Limit) (cond (scalar && fits) (Ok (scalar_typed t)) (is_valued tokens memory_refusal LOCAL type_name t))

-- a token that is no scalar
pub record IsBehindScalars (t : Tok) : Type 0 where
  pub integer : nat_eq (number t.kind) (number kinds.MemoryInteger) ≡ false
  pub pointer : nat_eq (number t.kind) (number kinds.Ptr) ≡ false

means_is : (room : Room) (t : Tok) → IsBehindScalars t → (local : Bool) → nat_eq (number t.kind) (number kinds.Local) ≡ local → leaf_means room t ≡ named_or (type_name t) (memory_refusal (number t.kind)) local
unfolding leaf_means is_leaf is_valued
means_is room t past true e =
    ap (λ i. means_of room t i (nat_eq (number t.kind) (number kinds.Ptr)) (nat_eq (number t.kind) (number kinds.Local))) past.integer
    ∙ ap (λ p. means_of room t false p (nat_eq (number t.kind) (number kinds.Local))) past.pointer
    ∙ ap (λ l. means_of room t false false l) e
means_is room t past false e =
    ap (λ i. means_of room t i (nat_eq (number t.kind) (number kinds.Ptr)) (nat_eq (number t.kind) (number kinds.Local))) past.integer
    ∙ ap (λ p. means_of room t false p (nat_eq (number t.kind) (number kinds.Local))) past.pointer
    ∙ ap (λ l. means_of room t false false l) e

pub no_leaf : (room : Room) (t : Tok) → IsBehindScalars t → nat_eq (number t.kind) (number kinds.Local) ≡ false → leaf_means room t ≡ Err (memory_refusal (number t.kind))
no_leaf room t past e = means_is room t past false e

pub leaf_named : (room : Room) (t : Tok) (name : Option Tok) → IsBehindScalars t → nat_eq (number t.kind) (number kinds.Local) ≡ true → operands.named t ≡ name → leaf_means room t ≡ in_range (option_map (λ n. typed (named n) t.line) name)
leaf_named room t name past e f = means_is room t past true e ∙ ap (λ n. in_range (option_map (λ n. typed (named n) t.line) n)) f

-- a scalar
pub scalar_means : (room : Room) (t : Tok) (roomy : Bool) → among tokens SCALAR t ≡ true → has_room room t ≡ roomy → leaf_means room t ≡ cond roomy (Ok (scalar_typed t)) (Err Limit)
unfolding leaf_means is_leaf
scalar_means room t true s e = ap (λ b. scalar_or room t b (has_room room t)) s ∙ ap (λ b. scalar_or room t true b) e
scalar_means room t false s e = ap (λ b. scalar_or room t b (has_room room t)) s ∙ ap (λ b. scalar_or room t true b) e

pub roomy : (n : ℕ) → 1 < n → nat_lt 1 n ≡ true
roomy n h = grind (arith, nat_tests)

pub full : (n : ℕ) → n ≤ 1 → nat_lt 1 n ≡ false
full n h = grind (arith, nat_tests)

pub pointer_typed : (t : Tok) → is_pointer t ≡ true → scalar_typed t ≡ typed shapes.pointer t.line
pointer_typed t e = ap (λ b. typed (cond b shapes.pointer (int (width t))) t.line) e

pub integer_typed : (t : Tok) → is_pointer t ≡ false → scalar_typed t ≡ typed (int (width t)) t.line
integer_typed t e = ap (λ b. typed (cond b shapes.pointer (int (width t))) t.line) e

pub no_bytes_fit : (room : Room) → IsRoom room → Fits room no_bytes
no_bytes_fit room h = h.some
