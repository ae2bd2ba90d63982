-- Printed operands are read (LangRef, "Constants", "Constant Expressions").
use Rattle.std.proofs.Common.{◌≡◌, ℕ, ◌<◌, ◌^◌, Bool, true, false, cond, nat_eq, Some, option_map, List, [], ◌∷◌, ◌++◌, codes, refl, sym, ap, subst, ◌∙◌, arith, append-nil}
use Rattle.std.specs.List.{fold}
use Rattle.ir_lex.specs.TokenKinds.{number, kind_of, word_kind, listed_kind, words_4, words_6}
use Rattle.ir_lex.specs.Pieces.{Piece}
use Rattle.ir_lex.specs.Tok.{Tok}
use Rattle.ir_lex.specs.declared.token_kind.TokenKind.{TokenKind}
use Rattle.ir_lex.specs.declared.token_kind.TokenKind.TheVariants as kinds
use Rattle.ir_lex.specs.declared.token.TokenForm.TheVariants as forms
use Rattle.ir_print.specs.Operands as printed
use Rattle.ir_print.specs.Operands.{address, displaced}
use Rattle.ir_print.specs.Tokens as piece
use Rattle.ir_print.specs.Tokens.{tight, space, word, mark, comma, width, global, signed, signed_piece}
use Rattle.ir_parse_parts.specs.Operands.{global_by, global_named}
use Rattle.ir_parse_parts.specs.Classes.{tokens, refusal}
use Rattle.ir_parse_parts.specs.Literals.{literal}
use Rattle.ir_parse_parts.specs.Operands.{classes_of, operand_by, operand_of, simple}
use Rattle.ir_parse_operands.specs.ShapeForms.{memory_shape}
use Rattle.ir_parse_parts.specs.Shapes as written
use Rattle.ir_parse_operands.specs.Values as read
use Rattle.ir_parse_operands.specs.Values.{GLOBAL, NUMBER, stepping, opened, opening, index_number, index_of, closing_one, reached, address_behind, argument}
use Rattle.ir_parse_parts.specs.declared.address.Index.{Index}
use Rattle.ir_parse_parts.specs.declared.address.Level.{Level}
use Rattle.ir_parse_parts.specs.declared.address.Steps.{Steps}
use Rattle.ir_parse_parts.specs.declared.raw.Operand as raw_operand
use Rattle.ir_parse_parts.specs.declared.raw.Operand.TheVariants as ro
use Rattle.ir_parse_parts.specs.declared.shape.Typed.{Typed}
use Rattle.ir_tree.specs.Formed.{IsWidth}
use Rattle.ir_tree.specs.Names.{quoted}
use Rattle.ir_tree.specs.declared.operand.Argument.{Argument}
use Rattle.ir_tree.specs.declared.operand.Operand.{Operand}
use Rattle.ir_tree.specs.declared.operand.Operand.TheVariants.{Local, Number, Null, Poison, Symbol}
use Rattle.ir_tree.specs.declared.operand.Reg.{Reg}
use Rattle.ir_tree.specs.declared.operand.Reg.TheVariants.{Int, Ptr}
use Rattle.ir_parse_parts.specs.Alphabet.{contains}
use Rattle.ir_parse_parts.specs.Forms.{Form, Star, either}
use Rattle.ir_parse_parts.specs.Rules.{is_valued}
use Rattle.ir_round_trip.proofs.Classes.{global_class}
use Rattle.ir_round_trip.specs.PartsPrinted.{IsGlobal, IsDisplaced, IsOperand, IsArgument}
use Rattle.ir_round_trip.specs.PartsReadable.{SymbolReadable, OperandReadable, ArgumentReadable}
use Rattle.ir_round_trip.specs.Reads.{Parses}
use Rattle.ir_round_trip.proofs.Composed.{then, next, last, nothing, known_as, left, right, no_more, one_more}
use Rattle.ir_round_trip.proofs.PartsConstants.{ReadsNumbers, number_read}
use Rattle.ir_round_trip.proofs.PrintedNames.{local_text, local_class, local_named, is_number}
use Rattle.ir_round_trip.proofs.Numerals.{signed_again, signed_nonempty}
use Rattle.ir_round_trip.proofs.PartsShapes.{bytes_read}
use Rattle.ir_round_trip.proofs.Tokens.{IsToken, class_of, Means, single, piece_read, by_value}
use Rattle.ir_round_trip.proofs.Types.{register_read, integer_read, pointer_read}
use Rattle.ir_round_trip.proofs.Words.{comma_read, open_paren_read, close_paren_read, address_word_read}

-- ---- words that are operands

-- what a word of this class means
word_means : (reg : Reg) (x : Operand) (text : List ℕ) (h : TokenKind) (o : raw_operand.Operand) → kind_of forms.Word text [] ≡ h → contains (classes_of reg) (number h) ≡ true → ((t : Tok) → operand_by h reg t ≡ Some o) → IsOperand x o → Means (is_valued tokens refusal (classes_of reg) (operand_of reg)) (IsOperand x) forms.Word text
word_means reg x text h o e c m p =
    by_value refusal (classes_of reg) (operand_of reg) forms.Word text (ap (λ (g : TokenKind). contains (classes_of reg) (number g)) e ∙ c)
    (λ t i. (o, ap (λ (g : TokenKind). operand_by g reg t) (i.kind ∙ e) ∙ m t, p))

null_class : kind_of forms.Word (codes "null") [] ≡ kinds.Null
unfolding kind_of word_kind listed_kind words_4
null_class = refl

poison_class : kind_of forms.Word (codes "poison") [] ≡ kinds.Poison
unfolding kind_of word_kind listed_kind words_6
poison_class = refl

-- words that stand for themselves may stand behind any type
false_there : (reg : Reg) → contains (classes_of reg) (number kinds.False) ≡ true
false_there (Int w) = refl
false_there Ptr = refl

true_there : (reg : Reg) → contains (classes_of reg) (number kinds.True) ≡ true
true_there (Int w) = refl
true_there Ptr = refl

null_there : (reg : Reg) → contains (classes_of reg) (number kinds.Null) ≡ true
null_there (Int w) = refl
null_there Ptr = refl

poison_there : (reg : Reg) → contains (classes_of reg) (number kinds.Poison) ≡ true
poison_there (Int w) = refl
poison_there Ptr = refl

local_there : (reg : Reg) → contains (classes_of reg) (number kinds.Local) ≡ true
local_there (Int w) = refl
local_there Ptr = refl

global_there : (reg : Reg) → contains (classes_of reg) (number kinds.Global) ≡ true
global_there (Int w) = refl
global_there Ptr = refl

-- ---- numbers

reads_numbers : (reg : Reg) → ReadsNumbers reg (classes_of reg) (operand_of reg) ro.Number
reads_numbers reg = record {
  true_there = true_there reg;
  false_there = false_there reg;
  is_true = λ t e. ap (λ (g : TokenKind). operand_by g reg t) e;
  is_false = λ t e. ap (λ (g : TokenKind). operand_by g reg t) e;
  number_there = λ w e. subst (λ (g : Reg). contains (classes_of g) (number kinds.Number) ≡ true) (sym e) refl;
  is_number = λ w e t h. subst (λ (g : Reg). operand_of g t ≡ option_map (ro.Number w) (literal w t.text)) (sym e) (ap (λ (g : TokenKind). operand_by g (Int w) t) h);
}

-- ---- globals

abbrev global_text : List ℕ → List ℕ
global_text name = 64 ∷ quoted name

is_global : (name : List ℕ) (t : Tok) → IsToken forms.Global (global_text name) t → IsGlobal name t
is_global name t i = record { form = i.form; text = i.text }

global_read : (blank : List ℕ) (reg : Reg) (x : Operand) (name : List ℕ) (offset : ℕ) → SymbolReadable name offset → ((t : Tok) → IsGlobal name t → IsOperand x (ro.Global t)) → Parses (simple reg) (IsOperand x) (global blank name)
global_read blank reg x name offset r p =
    let c = global_class name r.name r.ordinary in
    single blank forms.Global _ _ (by_value refusal (classes_of reg) (operand_of reg) forms.Global (global_text name) (ap (λ (g : TokenKind). contains (classes_of reg) (number g)) c ∙ global_there reg)
    (λ t i. (ro.Global t, ap (λ (g : TokenKind). operand_by g reg t) (i.kind ∙ c), p t (is_global name t i))))

-- ---- constant addresses

no_steps : Parses stepping (λ b. b ≡ false) []
unfolding stepping
no_steps = last (no_more {P = λ flags. flags ≡ []} refl) (λ flags e. nothing (ap (fold read.or_inbounds false) e))

-- getelementptr (i8, ptr
opening_read : (blank : List ℕ) → Parses (opening memory_shape) (λ t. t.shape ≡ written.int 8) (word blank (codes "getelementptr") ++ (mark space 40 ++ (width tight 8 ++ (comma ++ word space (codes "ptr")))))
unfolding opening opened
opening_read blank =
    then (address_word_read blank) (λ a u. then no_steps (λ flags e. then (open_paren_read space) (λ b v. then bytes_read (λ t p. then comma_read (λ c w. last (pointer_read space) (λ d z. nothing p))))))

index_class : (text : List ℕ) → contains NUMBER (class_of forms.Number text) ≡ true
unfolding kind_of
index_class text = refl

abbrev IsIndex : ℕ → Index → Type 0
IsIndex offset i = (i.width ≡ 64) × (i.bits ≡ offset)

number_64 : IsWidth 64
number_64 = (omega arith, omega arith)

index_number_read : (offset : ℕ) → offset < 2 ^ 64 → Parses (index_number 64) (IsIndex offset) (signed_piece space 64 offset)
index_number_read offset lt =
    piece_read space forms.Number (signed 64 offset) (signed_nonempty 64 offset) (by_value refusal NUMBER (index_of 64) forms.Number (signed 64 offset) (index_class (signed 64 offset))
    (λ t i. (record { width = 64; bits = offset; line = t.line }, ap (option_map (λ bits. record { width = 64; bits = bits; line = t.line })) (ap (literal 64) i.text ∙ signed_again 64 offset number_64 lt), (refl, refl))))

-- , i64 N
index_read : (offset : ℕ) → offset < 2 ^ 64 → Parses read.index (IsIndex offset) (comma ++ (width space 64 ++ signed_piece space 64 offset))
unfolding read.index
index_read offset lt = then comma_read (λ a u. next _ (integer_read space 64 number_64) (index_number_read offset lt))

-- one index over bytes
record IsLevel (offset : ℕ) (l : Level) : Type 0 where
  pub over_bytes : l.typed.shape ≡ written.int 8
  pub index : Index
  pub one_index : l.indices ≡ index ∷ []
  pub width : index.width ≡ 64
  pub bits : index.bits ≡ offset

abbrev IsOne : {A : Type 0} → (A → Type 0) → List A → Type 0
IsOne {A} P all = (a : A) × (all ≡ a ∷ []) × P a

-- , i64 N)
abbrev closing_pieces : ℕ → List Piece
closing_pieces offset = (comma ++ (width space 64 ++ signed_piece space 64 offset)) ++ mark tight 41

-- a list of one
only : {A : Type 0} {one : Form Tok A} {P : A → Type 0} {ps : List Piece} → Parses one P ps → Parses (Star one) (IsOne P) ps
only {one = one} {P = P} {ps = ps} r =
    subst (λ (all : List Piece). Parses (Star one) (IsOne P) all) (append-nil ps) (one_more r (no_more {P = λ more. more ≡ []} refl) (λ a more p e. (a, ap (λ (rest : List _). a ∷ rest) e, p)))

closing_read : (typed : Typed) (offset : ℕ) → typed.shape ≡ written.int 8 → offset < 2 ^ 64 → Parses (closing_one typed) (IsLevel offset) (closing_pieces offset)
unfolding closing_one
closing_read typed offset p lt =
    then (only (index_read offset lt)) (λ all h. last (close_paren_read tight) (λ a u. nothing (record { over_bytes = p; index = h.0; one_index = h.1; width = h.2.0; bits = h.2.1 })))

global_name_read : (blank name : List ℕ) (offset : ℕ) → SymbolReadable name offset → Parses read.global (IsGlobal name) (global blank name)
global_name_read blank name offset r =
    single blank forms.Global _ _ (by_value refusal GLOBAL global_named forms.Global (global_text name) (ap (λ (g : TokenKind). contains GLOBAL (number g)) (global_class name r.name r.ordinary)) (λ t i. (t, ap (λ (g : TokenKind). global_by g t) (i.kind ∙ global_class name r.name r.ordinary), is_global name t i)))

-- @g, i64 N)
reached_read : (typed : Typed) (name : List ℕ) (offset : ℕ) → typed.shape ≡ written.int 8 → SymbolReadable name offset
    → Parses (reached (typed ∷ [])) (λ x. (steps : Steps) × (x ≡ ro.Address steps) × IsDisplaced name offset steps) (global space name ++ closing_pieces offset)
unfolding reached
reached_read typed name offset p r =
    then (global_name_read space name offset r) (λ t g. last (last (closing_read typed offset p r.offset) (λ l q. last no_levels (λ more e. nothing {P = IsOne (IsLevel offset)} (l, ap (λ (rest : List Level). l ∷ rest) e, q)))) (λ levels h. nothing (
      _,
      refl,
      record {
        name = g;
        level = h.0;
        one_level = h.1;
        over_bytes = h.2.over_bytes;
        index = h.2.index;
        one_index = h.2.one_index;
        width = h.2.width;
        bits = h.2.bits;
      },
    )))
  where
    no_levels : Parses (read.closing []) (λ more. more ≡ []) []
    no_levels = nothing refl

displaced_read : (blank : List ℕ) (reg : Reg) (x : Operand) (name : List ℕ) (offset : ℕ) → SymbolReadable name offset → ((steps : Steps) → IsDisplaced name offset steps → IsOperand x (ro.Address steps))
    → Parses (read.address memory_shape) (IsOperand x) (word blank (codes "getelementptr") ++ displaced name offset)
unfolding read.address address_behind
displaced_read blank reg x name offset r p =
    then (opening_read blank) (λ typed q. then (no_more {P = λ inner. inner ≡ []} refl) (λ inner e.
    subst (λ (more : List Typed). Parses (reached (typed ∷ more)) (IsOperand x) (global space name ++ closing_pieces offset)) (sym e)
    (known_as (IsOperand x) (λ y h. subst (IsOperand x) (sym h.1) (p h.0 h.2)) (reached_read typed name offset q r))))

-- ---- operands

symbol_read : (blank : List ℕ) (reg : Reg) (x : Operand) (name : List ℕ) (offset : ℕ) → SymbolReadable name offset
    → ((t : Tok) → IsGlobal name t → offset ≡ 0 → IsOperand x (ro.Global t)) → ((steps : Steps) → IsDisplaced name offset steps → IsOperand x (ro.Address steps))
    → Parses (read.operand memory_shape reg) (IsOperand x) (address blank name offset)
unfolding read.operand
symbol_read blank reg x name offset r p q = by_offset (nat_eq offset 0) refl
  where
    is_zero : nat_eq offset 0 ≡ true → offset ≡ 0
    is_zero e = grind arith

    by_offset : (b : Bool) → nat_eq offset 0 ≡ b → Parses (either (read.address memory_shape) (simple reg)) (IsOperand x) (cond b (global blank name) (word blank (codes "getelementptr") ++ displaced name offset))
    by_offset true e = right _ (global_read blank reg x name offset r (λ t g. p t g (is_zero e)))
    by_offset false e = left _ (displaced_read blank reg x name offset r q)

local_operand_read : (blank : List ℕ) (reg : Reg) (n : ℕ) → OperandReadable reg (Local n) → Parses (simple reg) (IsOperand (Local n)) (piece.local blank n)
local_operand_read blank reg n h =
    single blank forms.Local _ _ (by_value refusal (classes_of reg) (operand_of reg) forms.Local (local_text n) (ap (λ (g : TokenKind). contains (classes_of reg) (number g)) (local_class n) ∙ local_there reg)
    (λ t i. (ro.Local t, ap (λ (g : TokenKind). operand_by g reg t) (i.kind ∙ local_class n) ∙ ap (option_map ro.Local) (local_named n h t i), is_number n t i)))

pub operand_read : (blank : List ℕ) (reg : Reg) (x : Operand) → OperandReadable reg x → Parses (read.operand memory_shape reg) (IsOperand x) (printed.operand blank x)
unfolding read.operand
operand_read blank reg (Local n) h = right _ (local_operand_read blank reg n h)
operand_read blank reg (Number w bits) h = right _ (number_read (reads_numbers reg) blank w bits h (refl, refl))
operand_read blank reg Null h = right _ (single blank forms.Word _ _ (word_means reg Null (codes "null") kinds.Null ro.Null null_class (null_there reg) (λ t. refl) tt))
operand_read blank reg (Poison r) h = right _ (single blank forms.Word _ _ (word_means reg (Poison r) (codes "poison") kinds.Poison (ro.Poison reg) poison_class (poison_there reg) (λ t. refl) (sym h)))
operand_read blank reg (Symbol symbol offset) h = symbol_read blank reg (Symbol symbol offset) symbol.name offset h (λ t g e. (g, e)) (λ steps d. d)

-- an operand behind its type, as an argument
pub argument_read : (blank : List ℕ) (a : Argument) → ArgumentReadable a → Parses (argument memory_shape) (IsArgument a) (printed.typed blank a.reg a.operand)
unfolding argument
argument_read blank a h =
    next _ (register_read blank a.reg h.0) (last (operand_read space a.reg a.operand h.1) (λ v p. nothing (refl, p)))
