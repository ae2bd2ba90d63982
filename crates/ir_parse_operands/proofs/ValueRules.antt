-- The readers of constant addresses and operands read them.
use Rattle.std.proofs.Common.{◌≡◌, ℕ, Bool, true, false, cond, ◌||◌, nat_eq, Some, None, option_map, List, [], ◌∷◌, refl, sym, ap, reverse, arith}
use Rattle.std.specs.Prelude.{codes}
use Rattle.ir_lex.specs.Bytes.{has}
use Rattle.ir_lex.specs.declared.token_kind.TokenKind.TheVariants as kinds
use Rattle.ir_lex.specs.declared.token.TokenForm.TheVariants as forms
use Rattle.ir_lex.specs.TokenKinds.{number, global_kind, name_kind, kind_of, word_kind, listed_kind, words_8, words_13}
use Rattle.ir_lex.specs.Lexing.{is_bad}
use Rattle.ir_lex.specs.Quotes.{is_zero_name, content}
use Rattle.ir_lex.specs.Rows.{best_fit, rest_fit, label_len, number_len, word_len, name_len, meta_len, dots_len, other_len, string_len}
use Rattle.ir_lex.specs.Tok.{Tok}
use Rattle.ir_tree.specs.declared.operand.Reg.{Reg}
use Rattle.ir_parse_parts.specs.Alphabet.{among, contains}
use Rattle.ir_parse_parts.specs.Forms.{Star}
use Rattle.ir_parse_parts.specs.Rules.{Rule, Opens, IsWithin, is_class}
use Rattle.ir_parse_parts.proofs.Rules as rules
use Rattle.ir_parse_parts.specs.Ahead.{STEPPING}
use Rattle.ir_parse_parts.specs.Classes.{tokens, IsReal, refusal, NUMERALS, the, the_at, one_of, one_of_at}
use Rattle.ir_parse_parts.specs.declared.address.Index.{Index}
use Rattle.ir_parse_parts.specs.declared.shape.Typed.{Typed}
use Rattle.ir_parse_parts.specs.Literals.{literal}
use Rattle.ir_parse_parts.specs.MetadataAt.{COMMA}
use Rattle.ir_parse_parts.specs.Operands.{REG, NUMBER_OPERAND, global_named, type_refusal}
use Rattle.ir_parse_operands.specs.ShapeForms.{any_shape, memory_shape}
use Rattle.ir_parse_operands.specs.Values.{is_inbounds, stepping, NUMBER, index_of, index_number, index, GLOBAL, global, closing_one, closing, opened, opening, reached, address_behind, address, operand, argument, pointer}
use Rattle.ir_parse_operands.specs.ValuesAt.{ADDRESS, pointer_at, stepping_at, index_number_at, index_at, indices_at, closing_one_at, closing_at, opened_at, opening_at, openings_at, global_at, reached_at, address_behind_at, address_at, operand_at, argument_at}
use Rattle.ir_parse_parts.proofs.OperandRules.{type_not_number, type_not_limit, zero_below, reg_rule, integer_rule, global_within, simple_rule}
use Rattle.ir_parse_operands.proofs.ShapeRules.{memory_shape_rule}
use Rattle.ir_parse_parts.proofs.Singles.{sample, word, not_number, not_limit, the_rule, the_opens, one_rule, one_opens, comma_rule, open_paren_rule, close_paren_rule}
use Rattle.ir_parse_parts.proofs.Words.{pointer_real, zero_real}

pub pointer_rule : Rule tokens pointer pointer pointer_at (number kinds.Ptr ∷ []) [] false
unfolding is_class
pointer_rule = rules.class_rule tokens type_refusal type_not_number type_not_limit (number kinds.Ptr) (word kinds.Ptr (codes "ptr")) refl pointer_real

-- ---- flags

inbounds_real : IsReal (word kinds.Inbounds (codes "inbounds"))
unfolding best_fit rest_fit label_len number_len word_len name_len meta_len dots_len other_len string_len has is_bad is_zero_name kind_of word_kind listed_kind words_8
inbounds_real = record { behind = []; some = refl; fits = refl; good = refl; class = refl }

pub flag_rule : Rule tokens (one_of STEPPING is_inbounds) (one_of STEPPING is_inbounds) (one_of_at STEPPING is_inbounds) STEPPING [] false
flag_rule = one_rule STEPPING is_inbounds (word kinds.Inbounds (codes "inbounds")) refl inbounds_real

pub stepping_rule : Rule tokens stepping stepping stepping_at STEPPING STEPPING true
unfolding stepping stepping_at
stepping_rule = rules.seq tokens (rules.star tokens STEPPING flag_rule (one_opens STEPPING is_inbounds) refl refl) (λ _. rules.nothing tokens _) refl

-- ---- indices

abbrev zero : Tok
zero = sample forms.Number kinds.Number (codes "0")

abbrev zero_index : ℕ → Index
zero_index w = record { width = w; bits = 0; line = 1 }

zero_indexes : (w : ℕ) → index_of w zero ≡ Some (zero_index w)
unfolding literal
zero_indexes w = ap (λ (b : Bool). option_map (λ (bits : ℕ). record { width = w; bits = bits; line = 1 }) (cond b (Some 0) None)) (zero_below w)

only : (n m : ℕ) → nat_eq n m || false ≡ true → n ≡ m
only n m h = by_value (nat_eq n m) refl h
  where
    equal : (n m : ℕ) → nat_eq n m ≡ true → n ≡ m
    equal n m e = grind arith

    by_value : (b : Bool) → nat_eq n m ≡ b → b || false ≡ true → n ≡ m
    by_value true e p = equal n m e
    by_value false e p = absurd cc

pub index_number_rule : (w : ℕ) → Rule tokens (index_number w) (index_number w) (index_number_at w) NUMBER [] false
index_number_rule w = rules.valued_rule tokens refusal not_number not_limit NUMBER (index_of w) within zero (zero_index w) refl (zero_indexes w) zero_real
  where
    within : (t : Tok) → among tokens NUMBER t ≡ true → index_of w t ≡ None → IsWithin tokens NUMBER (index_of w) t
    within t p q =
        let e : number t.kind ≡ number kinds.Number = only (number t.kind) (number kinds.Number) p in
        record { writes = ap (contains NUMERALS) e; other = zero; means = zero_index w; alike = sym e; has = zero_indexes w; real = zero_real }

pub index_rule : Rule tokens index index index_at COMMA [] false
unfolding index index_at
index_rule = rules.seq tokens comma_rule (λ _. rules.seq tokens integer_rule index_number_rule refl) refl

pub index_opens : Opens tokens COMMA index
unfolding index
index_opens = rules.opens_seq tokens COMMA (the kinds.Comma) (the_opens kinds.Comma) (λ _. rules.seq tokens integer_rule index_number_rule refl)

pub indices_rule : Rule tokens (Star index) (Star index) indices_at COMMA COMMA true
indices_rule = rules.star tokens COMMA index_rule index_opens refl refl

-- ---- levels

abbrev CLOSES : List ℕ
CLOSES = number kinds.Comma ∷ number kinds.CloseParen ∷ []

pub closing_one_rule : (typed : Typed) → Rule tokens (closing_one typed) (closing_one typed) (closing_one_at typed) CLOSES [] false
unfolding closing_one closing_one_at
closing_one_rule typed = rules.seq tokens indices_rule (λ _. rules.seq tokens close_paren_rule (λ _. rules.nothing tokens _) refl) refl

closing_rule : (outer : List Typed) → Rule tokens (closing outer) (closing outer) (closing_at outer) CLOSES [] true
closing_rule [] = rules.wider tokens CLOSES [] (rules.nothing tokens []) refl refl
closing_rule (typed ∷ outer) = rules.wider tokens CLOSES [] (rules.seq tokens (closing_one_rule typed) (λ one. rules.seq tokens (closing_rule outer) (λ more. rules.nothing tokens (one ∷ more)) refl) refl) refl refl

get_element_real : IsReal (word kinds.GetElementPtr (codes "getelementptr"))
unfolding best_fit rest_fit label_len number_len word_len name_len meta_len dots_len other_len string_len has is_bad is_zero_name kind_of word_kind listed_kind words_13
get_element_real = record { behind = []; some = refl; fits = refl; good = refl; class = refl }

get_element_rule : Rule tokens (the kinds.GetElementPtr) (the kinds.GetElementPtr) (the_at kinds.GetElementPtr) ADDRESS [] false
unfolding is_class
get_element_rule = the_rule kinds.GetElementPtr (word kinds.GetElementPtr (codes "getelementptr")) refl get_element_real

opened_rule : Rule tokens (opened memory_shape) (opened any_shape) opened_at (number kinds.Inbounds ∷ number kinds.Nuw ∷ number kinds.Nusw ∷ number kinds.OpenParen ∷ []) [] false
unfolding opened opened_at
opened_rule = rules.seq tokens stepping_rule (λ _. rules.seq tokens open_paren_rule (λ _. rules.seq tokens memory_shape_rule (λ typed. rules.seq tokens comma_rule (λ _. rules.seq tokens pointer_rule (λ _. rules.nothing tokens typed) refl) refl) refl) refl) refl

pub opening_rule : Rule tokens (opening memory_shape) (opening any_shape) opening_at ADDRESS [] false
unfolding opening opening_at
opening_rule = rules.seq tokens get_element_rule (λ _. opened_rule) refl

opening_opens : Opens tokens ADDRESS (opening any_shape)
unfolding opening
opening_opens = rules.opens_seq tokens ADDRESS (the kinds.GetElementPtr) (the_opens kinds.GetElementPtr) (λ _. opened_rule)

openings_rule : Rule tokens (Star (opening memory_shape)) (Star (opening any_shape)) openings_at ADDRESS ADDRESS true
openings_rule = rules.star tokens ADDRESS opening_rule opening_opens refl refl

pub global_real : IsReal (sample forms.Global kinds.Global (codes "@a"))
unfolding best_fit rest_fit label_len number_len word_len name_len meta_len dots_len other_len string_len has is_bad is_zero_name kind_of global_kind name_kind content
global_real = record { behind = []; some = refl; fits = refl; good = refl; class = refl }

pub global_rule : Rule tokens global global global_at GLOBAL [] false
global_rule = rules.valued_rule tokens refusal not_number not_limit GLOBAL global_named (λ t p q. global_within GLOBAL t.kind t refl q) (sample forms.Global kinds.Global (codes "@a")) (sample forms.Global kinds.Global (codes "@a")) refl refl global_real

reached_rule : (outer : List Typed) → Rule tokens (reached outer) (reached outer) (reached_at outer) GLOBAL [] false
unfolding reached reached_at
reached_rule outer = rules.seq tokens global_rule (λ name. rules.seq tokens (closing_rule (reverse outer)) (λ levels. rules.nothing tokens _) refl) refl

address_behind_rule : (first : Typed) → Rule tokens (address_behind memory_shape first) (address_behind any_shape first) (address_behind_at first) (number kinds.GetElementPtr ∷ GLOBAL) [] false
unfolding address_behind address_behind_at
address_behind_rule first = rules.seq tokens openings_rule (λ inner. reached_rule (first ∷ inner)) refl

pub address_rule : Rule tokens (address memory_shape) (address any_shape) address_at ADDRESS [] false
unfolding address address_at
address_rule = rules.seq tokens opening_rule address_behind_rule refl

-- ---- operands

abbrev pub OPERAND : List ℕ
OPERAND = number kinds.GetElementPtr ∷ NUMBER_OPERAND

pub operand_rule : (r : Reg) → Rule tokens (operand memory_shape r) (operand any_shape r) (operand_at r) OPERAND [] false
unfolding operand operand_at
operand_rule r = rules.alt tokens ADDRESS address_rule (simple_rule r) refl refl

pub argument_rule : Rule tokens (argument memory_shape) (argument any_shape) argument_at REG [] false
unfolding argument argument_at
argument_rule = rules.seq tokens reg_rule (λ r. rules.seq tokens (operand_rule r) (λ _. rules.nothing tokens _) refl) refl
