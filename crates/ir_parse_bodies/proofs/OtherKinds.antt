-- Kinds of tokens that are none of those that a reader asks for.
use Rattle.std.proofs.Common.{◌≡◌, Bool, true, false, cond, ◌&&◌, List, ℕ, Ok, Err, Result, refl, ap}
use Rattle.ir_lex.specs.declared.token_kind.TokenKind.{TokenKind}
use Rattle.ir_lex.specs.declared.token_kind.TokenKind.TheVariants as kinds
use Rattle.ir_lex.specs.TokenKinds.{number}
use Rattle.ir_lex.specs.Tok.{Tok}
use Rattle.ir_parse_parts.specs.Ahead.{WRAPS}
use Rattle.ir_parse_parts.specs.Alphabet.{contains}
use Rattle.ir_parse_parts.specs.Classes.{tokens}
use Rattle.ir_parse_parts.specs.declared.fault.TokenFault.{TokenFault}
use Rattle.ir_parse_parts.specs.Operands.{REG}
use Rattle.ir_parse_parts.specs.Rules.{is_among, is_exact}
use Rattle.ir_parse_bodies.specs.CallsAt.{CONVENTIONS}

module _ {A : Type 0} (refused : ℕ → TokenFault) (classes : List ℕ) (t : Tok) (e : contains classes (number t.kind) ≡ false) where
  pub not_among : (value : Tok → A) → is_among tokens refused classes value t ≡ Err (refused (number t.kind))
  unfolding is_among
  not_among value = ap (λ (b : Bool). cond b (Ok (value t)) (Err (refused (number t.kind)))) e

  pub not_exact : (test : Tok → Bool) (value : Tok → A) → is_exact tokens refused classes test value t ≡ Err (refused (number t.kind))
  unfolding is_exact
  not_exact test value = ap (λ (b : Bool). cond (b && test t) (Ok (value t)) (Err (refused (number t.kind)))) e

-- a kind that is none of a class
pub none_of : (classes : List ℕ) (h : TokenKind) → ((k : TokenKind) → contains classes (number k) ≡ true → h ≡ k → ⊥) → contains classes (number h) ≡ false
none_of classes h other = by_test (contains classes (number h)) refl
  where
    by_test : (b : Bool) → contains classes (number h) ≡ b → contains classes (number h) ≡ false
    by_test true e = absurd (other h e refl)
    by_test false e = e

pub outside : false ≡ true → ⊥
outside e = cc

pub not_wrap : (h : TokenKind) → (h ≡ kinds.Nuw → ⊥) → (h ≡ kinds.Nsw → ⊥) → contains WRAPS (number h) ≡ false
not_wrap kinds.Nuw nuw nsw = absurd (nuw refl)
not_wrap kinds.Nsw nuw nsw = absurd (nsw refl)
not_wrap h nuw nsw = refl

pub not_type : (h : TokenKind) → (h ≡ kinds.MemoryInteger → ⊥) → (h ≡ kinds.RegisterInteger → ⊥) → (h ≡ kinds.Ptr → ⊥) → contains REG (number h) ≡ false
not_type kinds.MemoryInteger memory register pointer = absurd (memory refl)
not_type kinds.RegisterInteger memory register pointer = absurd (register refl)
not_type kinds.Ptr memory register pointer = absurd (pointer refl)
not_type h memory register pointer = refl

pub not_convention : (h : TokenKind) → (h ≡ kinds.CallingConvention → ⊥) → (h ≡ kinds.Align → ⊥) → (h ≡ kinds.ParameterWord → ⊥) → (h ≡ kinds.ParameterGroup → ⊥) → contains CONVENTIONS (number h) ≡ false
not_convention kinds.CallingConvention convention align word group = absurd (convention refl)
not_convention kinds.Align convention align word group = absurd (align refl)
not_convention kinds.ParameterWord convention align word group = absurd (word refl)
not_convention kinds.ParameterGroup convention align word group = absurd (group refl)
not_convention h convention align word group = refl
