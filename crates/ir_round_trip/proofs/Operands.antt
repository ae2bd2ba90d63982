-- Marks of printed operands, of shapes, and of the globals that they name.
use Rattle.std.proofs.Common.{◌≡◌, ℕ, inl, true, Ok, List, [], ◌∷◌, ◌++◌, refl, sym, ap, subst, ◌∙◌, arith}
use Rattle.std.specs.List.{AllByRecursion as Each}
use Rattle.std.specs.Prelude.{Contains}
use Rattle.ir_lex.specs.Tok.{Tok}
use Rattle.ir_parse_names.specs.Addresses.{offset_behind}
use Rattle.ir_parse_names.specs.Globals.{has_name}
use Rattle.ir_parse_names.specs.Marks.{Mark, shape, address, uses, all_uses, level_uses, typed_marks, operand_marks}
use Rattle.ir_parse_names.specs.Stages.{passes, levels_within, address_within}
use Rattle.ir_parse_names.specs.Symbols.{symbol_name}
use Rattle.ir_parse_names.specs.Types.{Types}
use Rattle.ir_parse_parts.specs.declared.address.Steps.{Steps}
use Rattle.ir_parse_parts.specs.declared.raw.Operand as raw_operand
use Rattle.ir_parse_parts.specs.declared.raw.Operand.TheVariants as ro
use Rattle.ir_parse_parts.specs.declared.shape.Typed.{Typed}
use Rattle.ir_tree.specs.Formed.{IsShape}
use Rattle.ir_tree.specs.Forms.{Form, Forms, int, pointer, array, structure, no_parts, part}
use Rattle.ir_tree.specs.Wholes.{IsKnown}
use Rattle.ir_tree.specs.declared.operand.Operand.{Operand}
use Rattle.ir_tree.specs.declared.operand.Operand.TheVariants.{Local, Number, Null, Poison, Symbol}
use Rattle.ir_tree.specs.declared.operand.Reg.{Reg}
use Rattle.ir_tree.specs.declared.operand.Symbol as tree_symbol
use Rattle.ir_round_trip.proofs.Names.{names_of, is_there, printed_name}
use Rattle.ir_round_trip.proofs.Passing.{Inner}
use Rattle.ir_round_trip.proofs.Binds.{bound}
use Rattle.ir_round_trip.proofs.Shapes.{offset_again, shape_again}
use Rattle.ir_round_trip.specs.PartsPrinted.{written_shape, written_parts, IsGlobal, IsDisplaced, IsOperand}
use Rattle.ir_round_trip.specs.PartsReadable.{SymbolReadable, OperandReadable, ShapeReadable}

-- ---- shapes

mutual
  no_uses : (f : Form) → uses (written_shape f) ≡ []
  no_uses (int v) = refl
  no_uses pointer = refl
  no_uses (array count of) = no_uses of
  no_uses (structure packed parts) = all_no_uses parts

  all_no_uses : (fs : Forms) → all_uses (written_parts fs) ≡ []
  all_no_uses no_parts = refl
  all_no_uses (part f fs) = ap (λ ms. ms ++ all_uses (written_parts fs)) (no_uses f) ∙ all_no_uses fs

pub uses_none : (typed : Typed) (f : Form) → typed.shape ≡ written_shape f → uses typed.shape ≡ []
uses_none typed f e = ap uses e ∙ no_uses f

-- a mark before none
pub alone : (P : Mark → Type 0) (m : Mark) (ms : List Mark) → ms ≡ [] → P m → Each P (m ∷ ms)
alone P m ms e p = subst (λ (xs : List Mark). Each P (m ∷ xs)) (sym e) (p, tt)

byte : IsShape (int 8)
byte = record { stored = inl refl; nested = omega arith; sized = (omega arith, omega arith) }

module _ (known : List tree_symbol.Symbol) where
  abbrev pub Marks : List Mark → Type 0
  Marks ms = Each (Inner (names_of known)) ms

  shape_inner : (typed : Typed) (f : Form) → ShapeReadable f → typed.shape ≡ written_shape f → Inner (names_of known) (shape typed)
  shape_inner typed f h e = record { right = record { untyped = tt; within = λ types. bound (λ _. Ok tt) (shape_again types typed f h.shape e) refl; there = tt; spelled = tt }; inner = tt }

  pub typed_inner : (typed : Typed) (f : Form) → ShapeReadable f → typed.shape ≡ written_shape f → Marks (typed_marks typed)
  typed_inner typed f h e = alone (Inner (names_of known)) (shape typed) (uses typed.shape) (uses_none typed f e) (shape_inner typed f h e)

  -- ---- operands

  symbol_there : (s : tree_symbol.Symbol) (t : Tok) (offset : ℕ) → SymbolReadable s.name offset → Contains known s → IsGlobal s.name t → has_name (names_of known) (symbol_name t) ≡ true
  symbol_there s t offset h k i = ap (has_name (names_of known)) (printed_name s.name t h.name i) ∙ is_there known s k

  address_passes : (types : Types) (s : tree_symbol.Symbol) (offset : ℕ) (steps : Steps) → SymbolReadable s.name offset → IsDisplaced s.name offset steps → address_within types steps ≡ Ok tt
  address_passes types s offset steps h d =
      let levels : levels_within types steps.levels ≡ Ok tt = ap (levels_within types) d.one_level ∙ bound (λ _. Ok tt) (shape_again types d.level.typed (int 8) byte d.over_bytes) refl in
      bound (λ _. passes (offset_behind 0 types steps.levels)) levels (bound (λ _. Ok tt) (offset_again types s.name offset steps h.offset d) refl)

  pub operand_inner : (reg : Reg) (x : Operand) (y : raw_operand.Operand) → OperandReadable reg x → IsKnown known x → IsOperand x y → Marks (operand_marks y)
  operand_inner reg (Local n) (ro.Local t) h k i = tt
  operand_inner reg (Number v bits) (ro.Number u read) h k i = tt
  operand_inner reg Null ro.Null h k i = tt
  operand_inner reg (Poison r) (ro.Poison read) h k i = tt
  operand_inner reg (Symbol s offset) (ro.Global t) h k i =
      (record { right = record { untyped = tt; within = λ types. refl; there = symbol_there s t offset h k i.0; spelled = tt }; inner = tt }, tt)
  operand_inner reg (Symbol s offset) (ro.Address steps) h k i =
      let none : level_uses steps.levels ≡ [] = ap level_uses i.one_level ∙ uses_none i.level.typed (int 8) i.over_bytes in
      alone (Inner (names_of known)) (address steps) (level_uses steps.levels) none
      (record { right = record { untyped = tt; within = λ types. address_passes types s offset steps h i; there = symbol_there s steps.name offset h k i.name; spelled = tt }; inner = tt })
  operand_inner reg x y h k i = absurd i
