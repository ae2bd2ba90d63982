-- Printed declarations of functions are read, and none is dropped (LangRef, "Functions").
use Rattle.std.proofs.Common.{◌≡◌, ℕ, cond, nat_eq, Some, None, List, [], refl, ap, ◌∙◌}
use Rattle.ir_parse.specs.ItemForms as read
use Rattle.ir_parse.specs.ItemForms.{attached_before, declared}
use Rattle.ir_lex.specs.TokenKinds.{number, kind_of}
use Rattle.ir_lex.specs.declared.token_kind.TokenKind as class
use Rattle.ir_lex.specs.declared.token_kind.TokenKind.TheVariants as kinds
use Rattle.ir_lex.specs.declared.token.TokenForm.TheVariants as forms
use Rattle.ir_print.specs.Functions as printed
use Rattle.ir_print.specs.Tokens.{tight}
use Rattle.ir_parse_heads.specs.declared.function_heads.Role.TheVariants as roles
use Rattle.ir_parse_parts.specs.declared.places.Before.TheVariants as befores
use Rattle.ir_parse_parts.specs.declared.raw.FunctionHeader.{FunctionHeader}
use Rattle.ir_parse_parts.specs.declared.raw.Item.TheVariants as items
use Rattle.ir_tree.specs.declared.function.Function.{Function}
use Rattle.ir_round_trip.specs.Printed.{IsSomeWith, IsDeclaration}
use Rattle.ir_round_trip.proofs.Classed.{IsClassed, of_tokens, name_classed}
use Rattle.ir_round_trip.proofs.Classes.{global_class}
use Rattle.ir_round_trip.specs.PartsPrinted.{IsGlobal}
use Rattle.ir_round_trip.specs.PartsReadable.{HeadReadable}
use Rattle.ir_round_trip.specs.Reads.{Parses, Any}
use Rattle.ir_round_trip.proofs.Composed.{then, last, nothing, no_more}
use Rattle.ir_round_trip.proofs.Heads.{declared_read}
use Rattle.ir_round_trip.proofs.Words.{declare_read}

none_attached : Parses attached_before Any []
unfolding attached_before
none_attached = last (no_more {P = Any} tt) (λ all u. nothing tt)

-- a name that isn't kept for LLVM itself is no lifetime marker
global_named : (room : ℕ) (f : Function) → HeadReadable room f → (h : FunctionHeader) → IsGlobal f.symbol.name h.name → IsClassed h.name → h.name.kind ≡ kinds.Global
global_named room f r h n c = c ∙ ap (λ k. kind_of k h.name.text []) n.form ∙ ap (λ (text : List ℕ). kind_of forms.Global text []) n.text ∙ global_class f.symbol.name r.name r.ordinary

none_dropped : (h : FunctionHeader) → h.name.kind ≡ kinds.Global → declared h ≡ Some (items.Declaration h)
none_dropped h e = ap (λ (g : class.TokenKind). cond (nat_eq (number g) (number kinds.LifetimeMarker)) None (Some (items.Declaration h))) e

pub declaration_read : (room : ℕ) (f : Function) → HeadReadable room f → Parses (read.declaration room) (λ x. IsSomeWith (IsDeclaration f) x.0 × (x.1 ≡ befores.Declaration)) (printed.declaration f)
unfolding read.declaration
declaration_read room f r =
    then (declare_read tight) (λ a u. then none_attached (λ b v. last (of_tokens (λ h. IsClassed h.name) (λ ts h. name_classed roles.Declaration room ts h) (declared_read room f r)) (λ h p.
    nothing ((items.Declaration h, none_dropped h (global_named room f r h p.0.name p.1), p.0), refl))))
