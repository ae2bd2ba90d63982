-- What readers give that choose by the next token, once it is known.
use Rattle.std.proofs.Common.{◌≡◌, ℕ, Bool, true, false, Option, Some, None, List, [], ◌∷◌, ◌++◌, Result, Ok, refl, sym, ap, subst, ◌∙◌}
use Rattle.ir_lex.specs.declared.token_kind.TokenKind.TheVariants as kinds
use Rattle.ir_lex.specs.Tok.{Tok}
use Rattle.ir_tree.specs.declared.operand.Reg.{Reg}
use Rattle.ir_parse_parts.specs.Alphabet.{among}
use Rattle.ir_parse_parts.specs.declared.fault.Fault.{Fault}
use Rattle.ir_parse_parts.specs.declared.raw.Argument.{Argument}
use Rattle.ir_parse_parts.specs.Classes.{tokens, the_at}
use Rattle.ir_parse_parts.specs.Metadata.{META}
use Rattle.ir_parse_parts.specs.MetadataAt.{COMMA, attached_at}
use Rattle.ir_parse_parts.specs.OperandsAt.{simple_at}
use Rattle.ir_parse_parts.specs.Readers.{Fails, Reader, ◌>>=◌, done, follow, next_is, pick}
use Rattle.ir_tree.specs.declared.failure.Failure.{Failure}
use Rattle.ir_parse_operands.specs.Adding.{gathered_at}
use Rattle.ir_parse_operands.proofs.Additions.{first_fails}
use Rattle.ir_parse_operands.specs.Addressing.{keep, slots}
use Rattle.ir_parse_operands.specs.AddressingAt.{attaching_at, behind_comma_at, indexing_at, slots_at, slots_behind_at}
use Rattle.ir_parse_operands.specs.AlignmentsAt.{align_at, aligned_at}
use Rattle.ir_parse_operands.specs.ValuesAt.{ADDRESS, address_at, argument_at, operand_at}

pub picks : {A : Type 0} (begins : Tok → Bool) (one other : Reader Tok A) (ts : List Tok) → next_is begins ts ≡ true → pick begins one other ts ≡ one ts
picks begins one other [] h = absurd cc
picks begins one other (t ∷ ts) h = rw h refl

pub passes_over : {A : Type 0} (begins : Tok → Bool) (one other : Reader Tok A) (ts : List Tok) → next_is begins ts ≡ false → pick begins one other ts ≡ other ts
passes_over begins one other [] h = refl
passes_over begins one other (t ∷ ts) h = rw h refl

-- what is read behind a first
pub goes_on : {A B : Type 0} (behind : A → Reader Tok B) (r : Result (A × List Tok) Fault) (a : A) (mid : List Tok) → r ≡ Ok (a, mid) → follow r behind ≡ behind a mid
goes_on {A} behind r a mid e = ap (λ (x : Result (A × List Tok) Fault). follow x behind) e

pub address_comes : (r : Reg) (ts : List Tok) → next_is (among tokens ADDRESS) ts ≡ true → operand_at r ts ≡ address_at ts
unfolding operand_at
address_comes r ts h = picks (among tokens ADDRESS) address_at (simple_at r) ts h

pub simple_comes : (r : Reg) (ts : List Tok) → next_is (among tokens ADDRESS) ts ≡ false → operand_at r ts ≡ simple_at r ts
unfolding operand_at
simple_comes r ts h = passes_over (among tokens ADDRESS) address_at (simple_at r) ts h

pub slots_behind_comma : (fits : ℕ → Bool) (ts : List Tok) → next_is (among tokens COMMA) ts ≡ true → slots_behind_at fits ts ≡ follow (the_at kinds.Comma ts) (λ _. slots_at fits)
unfolding slots_behind_at
slots_behind_comma fits ts h = picks (among tokens COMMA) (the_at kinds.Comma >>= λ _. slots_at fits) (done (slots 1 None)) ts h

pub no_slots_behind : (fits : ℕ → Bool) (ts : List Tok) → next_is (among tokens COMMA) ts ≡ false → slots_behind_at fits ts ≡ Ok (slots 1 None, ts)
unfolding slots_behind_at
no_slots_behind fits ts h = passes_over (among tokens COMMA) (the_at kinds.Comma >>= λ _. slots_at fits) (done (slots 1 None)) ts h

pub aligned_behind_comma : (ts mid : List Tok) → next_is (among tokens COMMA) ts ≡ true → the_at kinds.Comma ts ≡ Ok (tt, mid) → align_at ts ≡ aligned_at mid
unfolding align_at
aligned_behind_comma ts mid h e =
    picks (among tokens COMMA) (the_at kinds.Comma >>= λ _. aligned_at) (done None) ts h
    ∙ ap (λ (r : Result (Unit {0} × List Tok) Fault). follow r (λ _. aligned_at)) e

-- an attachment, gathered behind indices
attachment_gathered : (front : List Argument) (ts mid : List Tok) → attached_at ts ≡ Ok (tt, mid) → gathered_at keep front attaching_at ts ≡ Ok ((front, true), mid)
unfolding attaching_at
attachment_gathered front ts mid e = ap (λ (r : Result (Unit {0} × List Tok) Fault). follow (follow r (λ _. done (None, true))) (λ (x : Option Argument × Bool). done (keep front x.0, x.1))) e

pub attachment_behind_attachment : (front : List Argument) (attached : Bool) (ts mid : List Tok) → attached ≡ true → attached_at ts ≡ Ok (tt, mid) → gathered_at keep front (behind_comma_at attached) ts ≡ Ok ((front, true), mid)
attachment_behind_attachment front true ts mid p e = attachment_gathered front ts mid e
attachment_behind_attachment front false ts mid p e = absurd cc

pub attachment_behind_index : (front : List Argument) (attached : Bool) (ts mid : List Tok) → attached ≡ false → next_is (among tokens META) ts ≡ true → attached_at ts ≡ Ok (tt, mid) → gathered_at keep front (behind_comma_at attached) ts ≡ Ok ((front, true), mid)
attachment_behind_index front true ts mid p h e = absurd cc
attachment_behind_index front false ts mid p h e =
    ap (λ (r : Result ((Option Argument × Bool) × List Tok) Fault). follow r (λ (x : Option Argument × Bool). done (keep front x.0, x.1))) (picks (among tokens META) attaching_at indexing_at ts h)
    ∙ attachment_gathered front ts mid e

pub index_behind_index : (front : List Argument) (attached : Bool) (ts mid : List Tok) (a : Argument) → attached ≡ false → next_is (among tokens META) ts ≡ false → argument_at ts ≡ Ok (a, mid) → gathered_at keep front (behind_comma_at attached) ts ≡ Ok ((front ++ a ∷ [], false), mid)
unfolding indexing_at
index_behind_index front true ts mid a p h e = absurd cc
index_behind_index front false ts mid a p h e =
    ap (λ (r : Result ((Option Argument × Bool) × List Tok) Fault). follow r (λ (x : Option Argument × Bool). done (keep front x.0, x.1))) (passes_over (among tokens META) attaching_at indexing_at ts h)
    ∙ ap (λ (r : Result (Argument × List Tok) Fault). follow (follow r (λ b. done (Some b, false))) (λ (x : Option Argument × Bool). done (keep front x.0, x.1))) e

pub index_fails : (e : Failure Fault) (front : List Argument) (attached : Bool) (ts : List Tok) → attached ≡ false → next_is (among tokens META) ts ≡ false → Fails e (argument_at ts) → Fails e (gathered_at keep front (behind_comma_at attached) ts)
unfolding indexing_at
index_fails e front true ts p h k = absurd cc
index_fails e front false ts p h k =
    subst (Fails e) (sym (ap (λ (r : Result ((Option Argument × Bool) × List Tok) Fault). follow r (λ (x : Option Argument × Bool). done (keep front x.0, x.1))) (passes_over (among tokens META) attaching_at indexing_at ts h)))
    (first_fails e (indexing_at ts) (λ (x : Option Argument × Bool). done (keep front x.0, x.1)) (first_fails e (argument_at ts) (λ b. done (Some b, false)) k))
