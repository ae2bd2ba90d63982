-- The readers of types, names and operands read them.
use Rattle.std.proofs.Common.{◌≡◌, ℕ, ◌<◌, ◌^◌, Bool, true, false, cond, ◌||◌, ◌&&◌, not, nat_eq, nat_lt, Option, Some, None, option_map, List, [], ◌∷◌, refl, sym, ap, ◌∙◌, arith}
use Rattle.std.specs.Prelude.{codes}
use Rattle.std.proofs.lemmas.Nat.{pow_pos}
use Rattle.ir_lex.specs.declared.token_kind.TokenKind.{TokenKind}
use Rattle.ir_lex.specs.declared.token_kind.TokenKind.TheVariants as kinds
use Rattle.ir_lex.specs.declared.token.TokenForm.TheVariants as forms
use Rattle.ir_lex.specs.Bytes.{has}
use Rattle.ir_lex.specs.TokenKinds.{number, kind_of, global_kind, is_local_linkage}
use Rattle.ir_lex.specs.Lexing.{is_bad}
use Rattle.ir_lex.specs.Quotes.{is_zero_name, stripped}
use Rattle.ir_lex.specs.Rows.{best_fit, rest_fit, label_len, number_len, word_len, name_len, meta_len, dots_len, other_len, string_len}
use Rattle.ir_lex.specs.Tok.{Tok}
use Rattle.ir_tree.specs.declared.operand.Reg.{Reg}
use Rattle.ir_tree.specs.declared.operand.Reg.TheVariants.{Int, Ptr}
use Rattle.ir_parse_parts.specs.Alphabet.{among, contains}
use Rattle.ir_parse_parts.specs.declared.fault.TokenFault.{TokenFault}
use Rattle.ir_parse_parts.specs.declared.fault.TokenFault.TheVariants.{Profile, Number, Limit}
use Rattle.ir_parse_parts.specs.Rules.{Rule, IsWithin, is_class}
use Rattle.ir_parse_parts.proofs.Rules as rules
use Rattle.ir_parse_parts.specs.Classes.{tokens, refusal, IsReal, NUMERALS}
use Rattle.ir_parse_parts.specs.Decimals.{decimal}
use Rattle.ir_parse_parts.specs.declared.raw.Operand.{Operand}
use Rattle.ir_parse_parts.specs.declared.raw.Operand.TheVariants as operands
use Rattle.ir_parse_parts.specs.Literals.{literal, unsigned}
use Rattle.ir_parse_parts.specs.Operands.{INTEGER, REG, SCALAR, RESULT, REFUSED_TYPES, LOCAL, NUMBER_OPERAND, POINTER_OPERAND, classes_of, type_refusal, memory_refusal, width, reg_of, is_bit, result_of, reg, integer, bit, scalar, result, is_numeral, named, local, global_by, global_named, operand_by, operand_of, simple, maybe}
use Rattle.ir_parse_parts.specs.OperandsAt.{reg_at, integer_at, bit_at, scalar_at, result_at, local_at, simple_at, maybe_at}
use Rattle.ir_parse_parts.proofs.Singles.{sample, word, not_number, not_limit}
use Rattle.ir_parse_parts.proofs.Words.{int_32_real, int_1_real, void_real, null_real, local_real, zero_real, exact_rule, disjoint_rule, samesign_rule, nneg_rule}

-- ---- why a token can't stand where a type may

abbrev by_test : Bool → TokenFault → TokenFault
by_test b k = cond b Profile k

neither : (b : Bool) (k l : TokenFault) → (Profile ≡ l → ⊥) → (k ≡ l → ⊥) → by_test b k ≡ l → ⊥
neither true k l p q e = p e
neither false k l p q e = q e

pub type_not_number : (n : ℕ) → type_refusal n ≡ Number → ⊥
type_not_number n e = neither (contains REFUSED_TYPES n) (refusal n) Number (λ x. cc) (not_number n) e

pub type_not_limit : (n : ℕ) → type_refusal n ≡ Limit → ⊥
type_not_limit n e = neither (contains REFUSED_TYPES n) (refusal n) Limit (λ x. cc) (not_limit n) e

pub memory_not_number : (n : ℕ) → memory_refusal n ≡ Number → ⊥
memory_not_number n e = neither (nat_eq n (number kinds.RegisterInteger)) (type_refusal n) Number (λ x. cc) (type_not_number n) e

pub memory_not_limit : (n : ℕ) → memory_refusal n ≡ Limit → ⊥
memory_not_limit n e = neither (nat_eq n (number kinds.RegisterInteger)) (type_refusal n) Limit (λ x. cc) (type_not_limit n) e

-- ---- types

pub reg_rule : Rule tokens reg reg reg_at REG [] false
reg_rule = rules.among_rule tokens type_refusal type_not_number type_not_limit REG reg_of (word kinds.MemoryInteger (codes "i32")) refl int_32_real

pub integer_rule : Rule tokens integer integer integer_at INTEGER [] false
integer_rule = rules.among_rule tokens type_refusal type_not_number type_not_limit INTEGER width (word kinds.MemoryInteger (codes "i32")) refl int_32_real

pub bit_rule : Rule tokens bit bit bit_at INTEGER [] false
bit_rule = rules.exact_rule tokens type_refusal type_not_number type_not_limit INTEGER refl is_bit width (word kinds.RegisterInteger (codes "i1")) refl refl int_1_real

pub scalar_rule : Rule tokens scalar scalar scalar_at SCALAR [] false
scalar_rule = rules.among_rule tokens memory_refusal memory_not_number memory_not_limit SCALAR reg_of (word kinds.MemoryInteger (codes "i32")) refl int_32_real

pub result_rule : Rule tokens result result result_at RESULT [] false
result_rule = rules.among_rule tokens type_refusal type_not_number type_not_limit RESULT result_of (word kinds.Void (codes "void")) refl void_real

-- ---- names

abbrev zero_local : Tok
zero_local = sample forms.Local kinds.Local (codes "%0")

zero_named : named zero_local ≡ Some zero_local
unfolding named
zero_named = refl

only : (n m : ℕ) → nat_eq n m || false ≡ true → n ≡ m
only n m h = by_value (nat_eq n m) refl h
  where
    equal : (n m : ℕ) → nat_eq n m ≡ true → n ≡ m
    equal n m e = grind arith

    by_value : (b : Bool) → nat_eq n m ≡ b → b || false ≡ true → n ≡ m
    by_value true e p = equal n m e
    by_value false e p = absurd cc

pub local_rule : Rule tokens local local local_at LOCAL [] false
local_rule = rules.valued_rule tokens refusal not_number not_limit LOCAL named within zero_local zero_local refl zero_named local_real
  where
    within : (t : Tok) → among tokens LOCAL t ≡ true → named t ≡ None → IsWithin tokens LOCAL named t
    within t p q =
        let e : number t.kind ≡ number kinds.Local = only (number t.kind) (number kinds.Local) p in
        record { writes = ap (contains NUMERALS) e; other = zero_local; means = zero_local; alike = sym e; has = zero_named; real = local_real }

-- ---- names of globals

abbrev pub zero_global : TokenKind → Tok
zero_global h = sample forms.Global h (codes "@0")

pub zero_global_named : (h : TokenKind) → named (zero_global h) ≡ Some (zero_global h)
unfolding named
zero_global_named h = refl

pub numbered_real : IsReal (zero_global kinds.NumberedGlobal)
unfolding best_fit rest_fit label_len number_len word_len name_len meta_len dots_len other_len string_len has is_bad is_zero_name kind_of global_kind
numbered_real = record { behind = []; some = refl; fits = refl; good = refl; class = refl }

-- before what makes it a definition
pub definition_real : IsReal (zero_global kinds.NumberedDefinition)
unfolding best_fit rest_fit label_len number_len word_len name_len meta_len dots_len other_len string_len has is_bad is_zero_name kind_of global_kind is_local_linkage
definition_real = record { behind = codes "=private "; some = refl; fits = refl; good = refl; class = refl }

pub named_is : (t u : Tok) → named t ≡ Some u → t ≡ u
unfolding named
named_is t u e = by_test (is_numeral (stripped t.form t.text) && not (nat_lt (decimal (stripped t.form t.text)) 4294967296)) e
  where
    by_test : (b : Bool) → cond b None (Some t) ≡ Some u → t ≡ u
    by_test true e = absurd cc
    by_test false e = cc

pub global_is : (h : TokenKind) (t u : Tok) → global_by h t ≡ Some u → t ≡ u
global_is kinds.NumberedGlobal t u e = named_is t u e
global_is kinds.NumberedDefinition t u e = named_is t u e
global_is h t u e = cc

-- only one that is written by a number can be out of range
pub global_within : (classes : List ℕ) (h : TokenKind) (t : Tok) → t.kind ≡ h → global_by h t ≡ None → IsWithin tokens classes global_named t
global_within classes kinds.NumberedGlobal t e q = record { writes = ap (λ (x : TokenKind). contains NUMERALS (number x)) e; other = zero_global kinds.NumberedGlobal; means = zero_global kinds.NumberedGlobal; alike = sym (ap number e); has = zero_global_named kinds.NumberedGlobal; real = numbered_real }
global_within classes kinds.NumberedDefinition t e q = record { writes = ap (λ (x : TokenKind). contains NUMERALS (number x)) e; other = zero_global kinds.NumberedDefinition; means = zero_global kinds.NumberedDefinition; alike = sym (ap number e); has = zero_global_named kinds.NumberedDefinition; real = definition_real }
global_within classes h t e q = absurd cc

-- ---- operands

abbrev zero_number : Tok
zero_number = sample forms.Number kinds.Number (codes "0")

pub zero_below : (w : ℕ) → nat_lt 0 (2 ^ w) ≡ true
zero_below w = let h : 0 < 2 ^ w = pow_pos w in grind (arith, h)

zero_fits : (w : ℕ) → operand_of (Int w) zero_number ≡ Some (operands.Number w 0)
unfolding literal
zero_fits w = ap (λ (b : Bool). option_map (operands.Number w) (cond b (Some 0) None)) (zero_below w)

local_fits : (r : Reg) → operand_of r zero_local ≡ Some (operands.Local zero_local)
local_fits r = ap (option_map operands.Local) zero_named

is_some : (o : Operand) → Some o ≡ None → ⊥
is_some o e = cc

-- only names that are numbers, and literals, can be out of range
pub operand_within : (r : Reg) (h : TokenKind) (t : Tok) → t.kind ≡ h → contains (classes_of r) (number h) ≡ true → operand_by h r t ≡ None → IsWithin tokens (classes_of r) (operand_of r) t
operand_within (Int w) kinds.Number t e p q = record { writes = ap (λ (x : TokenKind). contains NUMERALS (number x)) e; other = zero_number; means = operands.Number w 0; alike = sym (ap number e); has = zero_fits w; real = zero_real }
operand_within (Int w) kinds.Local t e p q = record { writes = ap (λ (x : TokenKind). contains NUMERALS (number x)) e; other = zero_local; means = operands.Local zero_local; alike = sym (ap number e); has = local_fits (Int w); real = local_real }
operand_within Ptr kinds.Local t e p q = record { writes = ap (λ (x : TokenKind). contains NUMERALS (number x)) e; other = zero_local; means = operands.Local zero_local; alike = sym (ap number e); has = local_fits Ptr; real = local_real }
operand_within (Int w) kinds.NumberedGlobal t e p q = record { writes = ap (λ (x : TokenKind). contains NUMERALS (number x)) e; other = zero_global kinds.NumberedGlobal; means = operands.Global (zero_global kinds.NumberedGlobal); alike = sym (ap number e); has = ap (option_map operands.Global) (zero_global_named kinds.NumberedGlobal); real = numbered_real }
operand_within Ptr kinds.NumberedGlobal t e p q = record { writes = ap (λ (x : TokenKind). contains NUMERALS (number x)) e; other = zero_global kinds.NumberedGlobal; means = operands.Global (zero_global kinds.NumberedGlobal); alike = sym (ap number e); has = ap (option_map operands.Global) (zero_global_named kinds.NumberedGlobal); real = numbered_real }
operand_within (Int w) kinds.NumberedDefinition t e p q = record { writes = ap (λ (x : TokenKind). contains NUMERALS (number x)) e; other = zero_global kinds.NumberedDefinition; means = operands.Global (zero_global kinds.NumberedDefinition); alike = sym (ap number e); has = ap (option_map operands.Global) (zero_global_named kinds.NumberedDefinition); real = definition_real }
operand_within Ptr kinds.NumberedDefinition t e p q = record { writes = ap (λ (x : TokenKind). contains NUMERALS (number x)) e; other = zero_global kinds.NumberedDefinition; means = operands.Global (zero_global kinds.NumberedDefinition); alike = sym (ap number e); has = ap (option_map operands.Global) (zero_global_named kinds.NumberedDefinition); real = definition_real }
operand_within r h t e p q = absurd cc

pub simple_rule : (r : Reg) → Rule tokens (simple r) (simple r) (simple_at r) NUMBER_OPERAND [] false
simple_rule (Int w) = rules.valued_rule tokens refusal not_number not_limit NUMBER_OPERAND (operand_of (Int w)) (λ t p q. operand_within (Int w) t.kind t refl p q) (word kinds.Null (codes "null")) operands.Null refl refl null_real
simple_rule Ptr = rules.broader tokens NUMBER_OPERAND [] (rules.valued_rule tokens refusal not_number not_limit POINTER_OPERAND (operand_of Ptr) (λ t p q. operand_within Ptr t.kind t refl p q) (word kinds.Null (codes "null")) operands.Null refl refl null_real) refl refl

-- ---- words that may stand or not

pub maybe_exact_rule : Rule tokens (maybe kinds.Exact) (maybe kinds.Exact) (maybe_at kinds.Exact) (number kinds.Exact ∷ []) (number kinds.Exact ∷ []) true
maybe_exact_rule = rules.alt tokens (number kinds.Exact ∷ []) (rules.seq tokens exact_rule (λ _. rules.nothing tokens true) refl) (rules.nothing tokens false) refl refl

pub maybe_disjoint_rule : Rule tokens (maybe kinds.Disjoint) (maybe kinds.Disjoint) (maybe_at kinds.Disjoint) (number kinds.Disjoint ∷ []) (number kinds.Disjoint ∷ []) true
maybe_disjoint_rule = rules.alt tokens (number kinds.Disjoint ∷ []) (rules.seq tokens disjoint_rule (λ _. rules.nothing tokens true) refl) (rules.nothing tokens false) refl refl

pub maybe_samesign_rule : Rule tokens (maybe kinds.Samesign) (maybe kinds.Samesign) (maybe_at kinds.Samesign) (number kinds.Samesign ∷ []) (number kinds.Samesign ∷ []) true
maybe_samesign_rule = rules.alt tokens (number kinds.Samesign ∷ []) (rules.seq tokens samesign_rule (λ _. rules.nothing tokens true) refl) (rules.nothing tokens false) refl refl

pub maybe_nneg_rule : Rule tokens (maybe kinds.Nneg) (maybe kinds.Nneg) (maybe_at kinds.Nneg) (number kinds.Nneg ∷ []) (number kinds.Nneg ∷ []) true
maybe_nneg_rule = rules.alt tokens (number kinds.Nneg ∷ []) (rules.seq tokens nneg_rule (λ _. rules.nothing tokens true) refl) (rules.nothing tokens false) refl refl
