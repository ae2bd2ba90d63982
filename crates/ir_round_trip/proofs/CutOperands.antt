-- Types and operands as they are printed are read as their tokens.
use Rattle.std.proofs.Common.{ℕ, ◌-◌, ◌^◌, Bool, true, false, cond, nat_eq, nat_lt, Option, Some, None, List, [], ◌∷◌, ◌++◌, codes, decimal, refl}
use Rattle.std.specs.List.{AllByRecursion as Each}
use Rattle.ir_lex.specs.Bytes.{has}
use Rattle.ir_lex.specs.Pieces.{AllBlank}
use Rattle.ir_lex.specs.declared.token.TokenForm.TheVariants as forms
use Rattle.ir_tree.specs.Forms.{Form, Forms, int, pointer, array, structure, no_parts, part}
use Rattle.ir_tree.specs.declared.operand.Argument.{Argument}
use Rattle.ir_tree.specs.declared.operand.Operand.{Operand}
use Rattle.ir_tree.specs.declared.operand.Operand.TheVariants.{Local, Number, Null, Poison, Symbol}
use Rattle.ir_tree.specs.declared.operand.Reg.{Reg}
use Rattle.ir_tree.specs.declared.operand.Reg.TheVariants.{Int, Ptr}
use Rattle.ir_print.specs.Operands.{displaced, address, operand, typed, further_typed, all_typed}
use Rattle.ir_print.specs.Tokens.{tight, space, word, signed_piece, piece, truth, number, global}
use Rattle.ir_print.specs.Types.{register, result, shape, members, further_members}
use Rattle.ir_round_trip.specs.Printable.{IsName, OperandPrintable}
use Rattle.ir_round_trip.proofs.Joined.{Fits, then, nothing, weaker, spaced, is_free, marked, opened, comma_fits, keyword, width_fits, natural_fits, negative_fits, local_fits, global_fits}
use Rattle.ir_round_trip.proofs.Single.{open_paren, close_paren, open_bracket, close_bracket, open_brace, close_brace, open_angle, close_angle}

-- ---- types

pub register_fits : (blank : List ℕ) (reg : Reg) → AllBlank blank → Fits (is_free blank) (register blank reg)
unfolding has
register_fits blank (Int w) b = width_fits blank w b
register_fits blank Ptr b = keyword blank (codes "ptr") b refl

pub result_fits : (r : Option Reg) → Fits true (result r)
unfolding has
result_fits None = keyword space (codes "void") spaced refl
result_fits (Some reg) = register_fits space reg spaced

mutual
  unfolding has

  pub shape_fits : (blank : List ℕ) (f : Form) → AllBlank blank → Fits (is_free blank) (shape blank f)
  shape_fits blank (int w) b = width_fits blank w b
  shape_fits blank pointer b = keyword blank (codes "ptr") b refl
  shape_fits blank (array count of) b =
      weaker (is_free blank) (opened blank 91 b open_bracket (then (natural_fits tight count tt) (then (keyword space (codes "x") spaced refl) (then (shape_fits space of spaced) (marked tight 93 tt close_bracket)))))
  shape_fits blank (structure false parts) b = weaker (is_free blank) (then (marked blank 123 b open_brace) (members_fit parts))
  shape_fits blank (structure true parts) b =
      weaker (is_free blank) (then (marked blank 60 b open_angle) (then (marked tight 123 tt open_brace) (then (members_fit parts) (marked tight 62 tt close_angle))))

  pub members_fit : (fs : Forms) → Fits true (members fs)
  members_fit no_parts = marked tight 125 tt close_brace
  members_fit (part f fs) = then (shape_fits space f spaced) (then (further_members_fit fs) (marked space 125 spaced close_brace))

  pub further_members_fit : (fs : Forms) → Fits true (further_members fs)
  further_members_fit no_parts = nothing
  further_members_fit (part f fs) = then (then comma_fits (shape_fits space f spaced)) (further_members_fit fs)

-- ---- numbers

pub signed_fits : (blank : List ℕ) (w bits : ℕ) → AllBlank blank → Fits (is_free blank) (signed_piece blank w bits)
signed_fits blank w bits b = by_sign (nat_lt bits (2 ^ (w - 1)))
  where
    by_sign : (t : Bool) → Fits (is_free blank) (piece blank forms.Number (cond t (decimal bits) (45 ∷ decimal (2 ^ w - bits))))
    by_sign true = natural_fits blank bits b
    by_sign false = negative_fits blank (2 ^ w - bits) b

truth_fits : (blank : List ℕ) (bits : ℕ) → AllBlank blank → Fits (is_free blank) (word blank (truth bits))
unfolding has
truth_fits blank bits b = by_bit (nat_eq bits 0)
  where
    by_bit : (t : Bool) → Fits (is_free blank) (word blank (cond t (codes "false") (codes "true")))
    by_bit true = keyword blank (codes "false") b refl
    by_bit false = keyword blank (codes "true") b refl

pub number_fits : (blank : List ℕ) (w bits : ℕ) → AllBlank blank → Fits (is_free blank) (number blank w bits)
number_fits blank w bits b = by_width (nat_eq w 1)
  where
    by_width : (t : Bool) → Fits (is_free blank) (cond t (word blank (truth bits)) (signed_piece blank w bits))
    by_width true = truth_fits blank bits b
    by_width false = signed_fits blank w bits b

-- ---- operands

displaced_fits : (name : List ℕ) (offset : ℕ) → IsName name → Fits true (displaced name offset)
unfolding has
displaced_fits name offset n =
    opened space 40 spaced open_paren (then (width_fits tight 8 tt) (then comma_fits (then (keyword space (codes "ptr") spaced refl) (then (global_fits space name spaced n)
    (then comma_fits (then (width_fits space 64 spaced) (then (signed_fits space 64 offset spaced) (marked tight 41 tt close_paren))))))))

pub address_fits : (blank name : List ℕ) (offset : ℕ) → AllBlank blank → IsName name → Fits (is_free blank) (address blank name offset)
unfolding has
address_fits blank name offset b n = by_offset (nat_eq offset 0)
  where
    by_offset : (t : Bool) → Fits (is_free blank) (cond t (global blank name) (word blank (codes "getelementptr") ++ displaced name offset))
    by_offset true = global_fits blank name b n
    by_offset false = then (keyword blank (codes "getelementptr") b refl) (displaced_fits name offset n)

pub operand_fits : (blank : List ℕ) (x : Operand) → AllBlank blank → OperandPrintable x → Fits (is_free blank) (operand blank x)
unfolding has
operand_fits blank (Local n) b p = local_fits blank n b
operand_fits blank (Number w bits) b p = number_fits blank w bits b
operand_fits blank Null b p = keyword blank (codes "null") b refl
operand_fits blank (Poison reg) b p = keyword blank (codes "poison") b refl
operand_fits blank (Symbol symbol offset) b p = address_fits blank symbol.name offset b p

pub typed_fits : (blank : List ℕ) (reg : Reg) (x : Operand) → AllBlank blank → OperandPrintable x → Fits (is_free blank) (typed blank reg x)
typed_fits blank reg x b p = then (register_fits blank reg b) (operand_fits space x spaced p)

-- what an argument names can be written
abbrev pub ArgumentPrintable : Argument → Type 0
ArgumentPrintable a = OperandPrintable a.operand

pub further_typed_fit : (xs : List Argument) → Each ArgumentPrintable xs → Fits true (further_typed xs)
further_typed_fit [] p = nothing
further_typed_fit (a ∷ rest) p = then (then comma_fits (typed_fits space a.reg a.operand spaced p.0)) (further_typed_fit rest p.1)

pub all_typed_fit : (xs : List Argument) → Each ArgumentPrintable xs → Fits false (all_typed xs)
all_typed_fit [] p = weaker false nothing
all_typed_fit (a ∷ rest) p = then (typed_fits tight a.reg a.operand tt p.0) (further_typed_fit rest p.1)
