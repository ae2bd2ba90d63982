-- The readers of instructions and lines read them.
use Rattle.std.proofs.Common.{◌≡◌, ℕ, Bool, true, false, cond, ◌&&◌, not, nat_lt, Option, Some, None, List, [], ◌∷◌, ◌++◌, Result, Ok, Err, refl, ap, ◌∙◌, sym}
use Rattle.std.specs.Prelude.{codes}
use Rattle.ir_lex.specs.declared.token_kind.TokenKind.TheVariants as kinds
use Rattle.ir_lex.specs.TokenKinds.{number}
use Rattle.ir_lex.specs.Quotes.{stripped}
use Rattle.ir_lex.specs.Tok.{Tok}
use Rattle.ir_parse_parts.specs.Alphabet.{among}
use Rattle.ir_parse_parts.specs.declared.fault.TokenFault.{TokenFault}
use Rattle.ir_parse_parts.specs.Forms as form
use Rattle.ir_parse_parts.specs.Rules.{Rule, Opens, in_range, is_among, is_valued}
use Rattle.ir_parse_parts.proofs.Composed.{with_wide}
use Rattle.ir_parse_parts.proofs.Rules as rules
use Rattle.ir_parse_operands.specs.Addressing.{slots_fit, any_slots}
use Rattle.ir_parse_parts.specs.Classes.{tokens, refusal, one_of, itself}
use Rattle.ir_parse_parts.specs.Decimals.{decimal}
use Rattle.ir_parse_bodies.specs.Instructions.{PREDICATES}
use Rattle.ir_parse_parts.specs.Operands.{LOCAL, REG, local, named, is_numeral}
use Rattle.ir_parse_parts.specs.OperandsAt.{local_at}
use Rattle.ir_parse_operands.specs.ShapeForms.{any_shape, memory_shape}
use Rattle.ir_parse_operands.proofs.AddressingRules.{STEPPED, reserving_rule, addressing_rule}
use Rattle.ir_parse_bodies.proofs.InstructionRules.{on_two_rule, wrapping_rule, dividing_rule, joining_rule, comparing_rule, casting_rule, extending_rule, narrowing_rule, selecting_rule, freezing_rule}
use Rattle.ir_parse_bodies.proofs.MemoryRules.{loading_rule, storing_rule}
use Rattle.ir_parse_parts.proofs.Nodes.{attachments_rule}
use Rattle.ir_parse_parts.proofs.OperandRules.{local_rule}
use Rattle.ir_parse_bodies.proofs.PhiRules.{phi_rule}
use Rattle.ir_parse_parts.proofs.Singles.{word, one_rule, one_opens, equals_rule}
use Rattle.ir_parse_bodies.specs.Blocks.{any_local}
use Rattle.ir_parse_bodies.specs.Lines.{GIVING, OPCODES, opcode_of, begun_of, operation, attended, kept, behind, lined, line_behind, named_line, plain_line, line}
use Rattle.ir_parse_bodies.specs.LinesAt.{LINE, operation_at, attended_at, some_at, behind_at, line_behind_at, named_line_at, plain_line_at, line_at}
use Rattle.ir_parse_bodies.specs.declared.opcodes.Opcode.{Opcode}
use Rattle.ir_parse_bodies.specs.declared.opcodes.Opcode.TheVariants as opcodes
use Rattle.ir_parse_bodies.specs.declared.opcodes.Operation.{Operation}
use Rattle.ir_parse_bodies.specs.declared.opcodes.Operation.TheVariants as operations
use Rattle.ir_parse_bodies.proofs.CallRules.{CALLED, BEHIND_CALL, calling_rule, tail_calling_rule}
use Rattle.ir_parse_bodies.proofs.Samples.{add_real}

-- ---- names, without the limit on numbers

abbrev good : Tok → Result Tok TokenFault
good t = Ok t

good_is : (t u : Tok) → good t ≡ good u → t ≡ u
good_is t u e = cc

named_is : (t u : Tok) → named t ≡ Some u → t ≡ u
unfolding named
named_is t u e = by_test (is_numeral (stripped t.form t.text) && not (nat_lt (decimal (stripped t.form t.text)) 4294967296)) e
  where
    by_test : (b : Bool) → cond b None (Some t) ≡ Some u → t ≡ u
    by_test true e = absurd cc
    by_test false e = cc

pub any_name : (classes : List ℕ) (ts : List Tok) (a : Tok) → form.token (is_valued tokens refusal classes named) ts a → form.token (is_among tokens refusal classes itself) ts a
unfolding is_valued is_among
any_name classes [] a s = absurd s
any_name classes (t ∷ []) a s = by_test (among tokens classes t) s
  where
    by_name : (o : Option Tok) → named t ≡ o → in_range o ≡ good a → good t ≡ good a
    by_name None q e = absurd cc
    by_name (Some u) q e = ap good (named_is t u q ∙ good_is u a e)

    by_test : (b : Bool) → cond b (in_range (named t)) (Err (refusal (number t.kind))) ≡ good a → cond b (good t) (Err (refusal (number t.kind))) ≡ good a
    by_test true e = by_name (named t) refl e
    by_test false e = absurd cc
any_name classes (t ∷ u ∷ ts) a s = absurd s

pub same_name : (t u : Tok) → named t ≡ Some u → u ≡ itself t
same_name t u q = sym (named_is t u q)

any_local_rule : Rule tokens local any_local local_at LOCAL [] false
any_local_rule = record { law = with_wide tokens local_rule.law (λ ts a s. any_name LOCAL ts a s) (rules.any_broad tokens refusal LOCAL named itself same_name refl) }

-- ---- what follows the first word of an instruction

-- what it begins with
abbrev BEGUN : List ℕ
BEGUN = number kinds.Nsw ∷ number kinds.Exact ∷ number kinds.Disjoint ∷ number kinds.Samesign ∷ number kinds.Nneg ∷ number kinds.Call ∷ PREDICATES ++ (STEPPED ++ (REG ++ CALLED))

operation_rule : (o : Operation) → Rule tokens (operation memory_shape o) (operation any_shape o) (operation_at o) BEGUN [] false
operation_rule (operations.Wrapping op) = rules.broader tokens BEGUN [] (wrapping_rule op) refl refl
operation_rule (operations.Dividing op) = rules.broader tokens BEGUN [] (dividing_rule op) refl refl
operation_rule (operations.Plain op) = rules.broader tokens BEGUN [] (on_two_rule op _) refl refl
operation_rule operations.Or = rules.broader tokens BEGUN [] joining_rule refl refl
operation_rule operations.Icmp = rules.broader tokens BEGUN [] comparing_rule refl refl
operation_rule operations.Zext = rules.broader tokens BEGUN [] (extending_rule _) refl refl
operation_rule operations.Sext = rules.broader tokens BEGUN [] (casting_rule _) refl refl
operation_rule operations.Trunc = rules.broader tokens BEGUN [] (narrowing_rule _) refl refl
operation_rule operations.Select = rules.broader tokens BEGUN [] selecting_rule refl refl
operation_rule operations.Freeze = rules.broader tokens BEGUN [] freezing_rule refl refl

behind_rule : (named : Bool) (o : Opcode) → Rule tokens (behind slots_fit memory_shape named o) (behind any_slots any_shape named o) (behind_at named o) BEGUN BEHIND_CALL false
unfolding attended attended_at kept some_at
behind_rule named (opcodes.Value o) = rules.broader tokens BEGUN BEHIND_CALL (rules.seq tokens (operation_rule o) (λ i. rules.seq tokens attachments_rule (λ _. rules.nothing tokens (Some i)) refl) refl) refl refl
behind_rule named opcodes.Phi = rules.broader tokens BEGUN BEHIND_CALL (rules.seq tokens phi_rule (λ i. rules.nothing tokens (Some i)) refl) refl refl
behind_rule named opcodes.Alloca = rules.broader tokens BEGUN BEHIND_CALL (rules.seq tokens reserving_rule (λ i. rules.nothing tokens (Some i)) refl) refl refl
behind_rule named opcodes.Load = rules.broader tokens BEGUN BEHIND_CALL (rules.seq tokens loading_rule (λ i. rules.nothing tokens (Some i)) refl) refl refl
behind_rule named opcodes.GetElementPtr = rules.broader tokens BEGUN BEHIND_CALL (rules.seq tokens addressing_rule (λ i. rules.nothing tokens (Some i)) refl) refl refl
behind_rule named opcodes.Store = rules.broader tokens BEGUN BEHIND_CALL (rules.seq tokens storing_rule (λ i. rules.nothing tokens (Some i)) refl) refl refl
behind_rule named opcodes.Tail = rules.broader tokens BEGUN BEHIND_CALL (tail_calling_rule named) refl refl
behind_rule named opcodes.Call = rules.broader tokens BEGUN BEHIND_CALL (calling_rule named) refl refl

-- ---- lines

line_behind_rule : (name : Tok) → Rule tokens (line_behind slots_fit memory_shape name) (line_behind any_slots any_shape name) (line_behind_at name) (number kinds.Equals ∷ []) BEHIND_CALL false
unfolding line_behind line_behind_at
line_behind_rule name = rules.seq tokens equals_rule (λ _. rules.seq tokens (one_rule GIVING opcode_of (word kinds.Add (codes "add")) refl add_real) (λ o. rules.seq tokens (behind_rule true o) (λ i. rules.nothing tokens (lined (Some name) name.line i)) refl) refl) refl

named_line_rule : Rule tokens (named_line local slots_fit memory_shape) (named_line any_local any_slots any_shape) named_line_at LOCAL BEHIND_CALL false
unfolding named_line named_line_at
named_line_rule = rules.seq tokens any_local_rule line_behind_rule refl

plain_line_rule : Rule tokens (plain_line slots_fit memory_shape) (plain_line any_slots any_shape) plain_line_at OPCODES BEHIND_CALL false
unfolding plain_line plain_line_at
plain_line_rule = rules.seq tokens (one_rule OPCODES begun_of (word kinds.Add (codes "add")) refl add_real) (λ b. rules.seq tokens (behind_rule false b.opcode) (λ i. rules.nothing tokens (lined None b.line i)) refl) refl

pub line_rule : Rule tokens (line local slots_fit memory_shape) (line any_local any_slots any_shape) line_at LINE BEHIND_CALL false
unfolding line line_at
line_rule = rules.broader tokens LINE BEHIND_CALL (rules.alt tokens LOCAL named_line_rule plain_line_rule refl refl) refl refl

named_line_opens : Opens tokens LOCAL (named_line any_local any_slots any_shape)
unfolding named_line
named_line_opens = rules.opens_seq tokens LOCAL any_local (one_opens LOCAL itself) line_behind_rule

plain_line_opens : Opens tokens OPCODES (plain_line any_slots any_shape)
unfolding plain_line
plain_line_opens = rules.opens_seq tokens OPCODES (one_of OPCODES begun_of) (one_opens OPCODES begun_of) (λ b. rules.seq tokens (behind_rule false b.opcode) (λ i. rules.nothing tokens (lined None b.line i)) refl)

pub line_opens : Opens tokens LINE (line any_local any_slots any_shape)
unfolding line
line_opens = rules.opens_either tokens LOCAL OPCODES (named_line any_local any_slots any_shape) (plain_line any_slots any_shape) named_line_opens plain_line_opens
