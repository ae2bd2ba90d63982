-- What readers of callees and arguments give, once it is known what comes.
use Rattle.std.proofs.Common.{◌≡◌, ℕ, suc, ◌-◌, ◌<◌, ◌≤◌, Bool, true, false, Option, Some, None, List, [], ◌∷◌, length, take, drop, get_or, refl, sym, ap, ap₂, ◌∙◌, arith}
use Rattle.std.proofs.Math.Seq.{take-length}
use Rattle.std.specs.Option.{is_some}
use Rattle.ir_lex.specs.declared.token_kind.TokenKind.TheVariants as kinds
use Rattle.ir_lex.specs.Tok.{Tok}
use Rattle.ir_tree.specs.declared.operand.Reg.{Reg}
use Rattle.ir_parse_parts.specs.Alphabet.{among}
use Rattle.ir_parse_parts.specs.Classes.{the_at, tokens}
use Rattle.ir_parse_parts.specs.Readers.{◌>>=◌, done, next_is}
use Rattle.ir_parse_operands.proofs.Choices.{passes_over, picks}
use Rattle.ir_parse_bodies.specs.CallsAt.{MARKER, arguments_of_at, callee_at, called_value_at, marker_at, some_of_at}

pub marker_comes : (named : Bool) (r : Option Reg) (ts : List Tok) → is_some r ≡ false → named ≡ false → next_is (among tokens MARKER) ts ≡ true → callee_at named r ts ≡ marker_at ts
marker_comes named (Some r) ts n f h = absurd cc
marker_comes true None ts n f h = absurd cc
marker_comes false None ts n f h = picks (among tokens MARKER) marker_at called_value_at ts h

pub no_marker_comes : (named : Bool) (r : Option Reg) (ts : List Tok) → is_some r ≡ false → named ≡ false → next_is (among tokens MARKER) ts ≡ false → callee_at named r ts ≡ called_value_at ts
no_marker_comes named (Some r) ts n f h = absurd cc
no_marker_comes true None ts n f h = absurd cc
no_marker_comes false None ts n f h = passes_over (among tokens MARKER) marker_at called_value_at ts h

-- ---- arguments of the types that are written

no_less : (n : ℕ) → suc n - 1 ≡ n
no_less n = omega arith

pub first_of_types : (types : List Tok) (first : Tok) (ts : List Tok) → 1 ≤ length types → first ≡ get_or types 0 first → arguments_of_at types ts ≡ (some_of_at first (take (length types - 1) (drop 1 types)) >>= λ all. the_at kinds.CloseParen >>= λ _. done all) ts
first_of_types [] first ts n e = absurd (omega (arith, n))
first_of_types (w ∷ ws) first ts n e =
    let others : take (suc (length ws) - 1) ws ≡ ws = ap (λ (m : ℕ). take m ws) (no_less (length ws)) ∙ take-length ws in
    sym (ap₂ (λ (v : Tok) (vs : List Tok). (some_of_at v vs >>= λ all. the_at kinds.CloseParen >>= λ _. done all) ts) e others)

pub no_types : (types : List Tok) (ts : List Tok) → length types < 1 → arguments_of_at types ts ≡ (the_at kinds.CloseParen >>= λ _. done []) ts
no_types [] ts n = refl
no_types (w ∷ ws) ts n = absurd (omega (arith, n))
