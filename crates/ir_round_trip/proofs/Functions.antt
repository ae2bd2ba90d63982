-- Formed functions within the limits, whose constants are of the types before them, are readable; sound ones are such.
use Rattle.std.proofs.Common.{◌≡◌, ℕ, Option, Some, None, List, [], ◌∷◌, ◌++◌, refl, sym, subst}
use Rattle.std.specs.List.{AllByRecursion as Each}
use Rattle.std.specs.Prelude.{All, Contains, slice_index_or}
use Rattle.std.proofs.lemmas.List.Elements.{recursion_from_All}
use Rattle.ir_parse.specs.Modules.{FURTHER_PARAMETERS}
use Rattle.ir_tree.specs.Formed.{ArgumentFormed, Formed, IsBlock, IsReg, ItemFormed, OperandFormed, ResultFormed}
use Rattle.ir_tree.specs.Items.{Item, phi_item, line_item, end_item, items, operands, taken}
use Rattle.ir_tree.specs.Rules.{Sound}
use Rattle.ir_tree.specs.Wholes.{IsKnown, ItemKnown}
use Rattle.ir_tree.specs.declared.block.Block as tree_block
use Rattle.ir_tree.specs.declared.block.Terminator.{Terminator}
use Rattle.ir_tree.specs.declared.function.Function.{Function}
use Rattle.ir_tree.specs.declared.function.Param.{Param}
use Rattle.ir_tree.specs.declared.instr.Incoming.{Incoming}
use Rattle.ir_tree.specs.declared.instr.Instr.{Instr}
use Rattle.ir_tree.specs.declared.instr.Instr.TheVariants.{Binary, Icmp, Cast, Select, Freeze, Alloca, Load, Store, Address, Call, Phi}
use Rattle.ir_tree.specs.declared.instr.Line.{Line}
use Rattle.ir_tree.specs.declared.instr.Phi as tree_phi
use Rattle.ir_tree.specs.declared.operand.Argument.{Argument}
use Rattle.ir_tree.specs.declared.operand.Operand.{Operand}
use Rattle.ir_tree.specs.declared.operand.Operand.TheVariants as operand
use Rattle.ir_tree.specs.declared.operand.Reg.{Reg}
use Rattle.ir_tree.specs.declared.operand.Symbol.{Symbol}
use Rattle.ir_tree.specs.declared.rule.Rule.TheVariants.{TypeMismatch}
use Rattle.ir_round_trip.proofs.Small.{BlockSmall, ResultSmall, block_small, given_small, local_small}
use Rattle.ir_round_trip.proofs.Walk.{BlockHas, blocks_have}
use Rattle.ir_round_trip.specs.Typed.{FunctionTyped}
use Rattle.ir_round_trip.specs.Within.{FunctionWithin, HasEntry, InstrWithin, ItemWithin, NameWithin, OffsetFits}
use Rattle.ir_round_trip.specs.Bodies.{phi_as_line, stated}
use Rattle.ir_round_trip.specs.ModulesReadable.{FunctionReadable}
use Rattle.ir_round_trip.specs.Readable.{InstructionReadable, ResultReadable, LineReadable, BlockReadable, BodyReadable}
use Rattle.ir_round_trip.specs.Sorts.{IsNumbered}
use Rattle.ir_round_trip.proofs.PartsSound.{arguments_readable, item_typed, typed_readable}
use Rattle.ir_round_trip.specs.PartsReadable.{ArgumentReadable, HeadReadable, IsSmall, ParamReadable, SymbolReadable, TerminatorReadable}
use Rattle.ir_round_trip.specs.PrintedTyped.{ItemTyped}
use Rattle.ir_round_trip.specs.Writable.{EntriesWritable, InstrWritable, ItemReadable, ItemWritable, KindWritable, OperandWritable}

module _ (known : List Symbol) (names : (s : Symbol) → Contains known s → NameWithin s) (f : Function) (w : FunctionWithin f) (n : IsNumbered f) where
  -- ---- operands

  symbol_readable : (s : Symbol) (offset : ℕ) → Contains known s → OffsetFits (operand.Symbol s offset) → SymbolReadable s.name offset
  symbol_readable s offset c lt = let name = names s c in record { name = name.0; ordinary = name.1; offset = lt }

  operand_writable : (a : Argument) → ArgumentFormed f a → IsKnown known a.operand → OffsetFits a.operand → OperandWritable a.operand
  operand_writable a h k o = by a.operand h.1 k o
    where
      by : (x : Operand) → OperandFormed f x → IsKnown known x → OffsetFits x → OperandWritable x
      by (operand.Local x) h k o = local_small f x w n h
      by (operand.Symbol s offset) h k o = symbol_readable s offset k o
      by x h k o = tt

  arguments_writable : (as' : List Argument) → Each (ArgumentFormed f) as' → Each (λ a. IsKnown known a.operand) as' → Each (λ a. OffsetFits a.operand) as' → Each (λ a. OperandWritable a.operand) as'
  arguments_writable [] h k o = tt
  arguments_writable (a ∷ as') h k o = (operand_writable a h.0 k.0 o.0, arguments_writable as' h.1 k.1 o.1)

  -- ---- items

  record IsGood (item : Item) : Type 0 where
    formed : ItemFormed f item
    typed : ItemTyped item
    used : ItemKnown known item
    within : ItemWithin item

  entries_writable : (es : List Incoming) → HasEntry es → All (λ e. IsBlock f e.from) es → EntriesWritable es
  entries_writable [] h s = absurd h
  entries_writable (e ∷ es) h s = λ k d lt. block_small f _ w n (s k d lt)

  instr_writable : (i : Instr) → InstrWithin i → ((result : Option Reg) (callee : Operand) (arguments : List Argument) → i ≡ Call result callee arguments → ⊥) → All (λ e. IsBlock f e.from) (taken i) → InstrWritable i
  instr_writable (Alloca shape align) h c s = h
  instr_writable (Address inbounds shape base indices) h c s = h
  instr_writable (Call result callee arguments) h c s = absurd (c result callee arguments refl)
  instr_writable (Phi reg edges) h c s = entries_writable edges h s
  instr_writable i h c s = tt

  writable : (item : Item) → IsGood item → KindWritable item → ItemWritable item
  writable item g k = record { operands = λ i d lt. operand_writable (slice_index_or (operands item) i d) (g.formed.operands i d lt) (g.used i d lt) (g.within.offsets i d lt); kind = k }

  phi_line : (b : ℕ) (p : tree_phi.Phi) → IsGood (phi_item b p) → InstructionReadable (phi_as_line p).instr × ResultFormed (phi_as_line p).instr (phi_as_line p).local
  phi_line b p g = (typed_readable f (phi_item b p) g.formed g.typed (writable (phi_item b p) g (entries_writable p.incoming g.within.kind g.formed.sources)), refl)

  abbrev LineRight : Line → Type 0
  LineRight l = InstructionReadable l.instr × ResultFormed l.instr l.local

  call_readable : (b k : ℕ) (local : Option ℕ) (result : Option Reg) (callee : Operand) (arguments : List Argument) → IsGood (line_item b k (record { local = local; instr = Call result callee arguments })) → InstructionReadable (Call result callee arguments)
  call_readable b k local result callee arguments g =
      let item : Item = line_item b k (record { local = local; instr = Call result callee arguments }) in
      let formed : Each (ArgumentFormed f) (operands item) = recursion_from_All (ArgumentFormed f) (operands item) g.formed.operands in
      let named = arguments_writable (operands item) formed (recursion_from_All (λ a. IsKnown known a.operand) (operands item) g.used) (recursion_from_All (λ a. OffsetFits a.operand) (operands item) g.within.offsets) in
      let all : Each ArgumentReadable (operands item) = arguments_readable f (operands item) formed g.typed.operands named in
      (g.formed.kind.0, all.0.1, without_end arguments all.1)
    where
      without_end : (xs : List Argument) → Each ArgumentReadable (xs ++ []) → Each ArgumentReadable xs
      without_end [] h = tt
      without_end (x ∷ xs) h = (h.0, without_end xs h.1)

  plain_readable : (b k : ℕ) (l : Line) → ((result : Option Reg) (callee : Operand) (arguments : List Argument) → l.instr ≡ Call result callee arguments → ⊥) → IsGood (line_item b k l) → ItemReadable (line_item b k l)
  plain_readable b k l c g = typed_readable f (line_item b k l) g.formed g.typed (writable (line_item b k l) g (instr_writable l.instr g.within.kind c g.formed.sources))

  line_right : (b k : ℕ) (l : Line) → IsGood (line_item b k l) → LineRight l
  line_right b k l g = (by l.local l.instr g, g.formed.kind.1)
    where
      by : (local : Option ℕ) (i : Instr) → IsGood (line_item b k (record { local = local; instr = i })) → InstructionReadable i
      by local (Call result callee arguments) g = call_readable b k local result callee arguments g
      by local (Binary op flags width x y) g = plain_readable b k (record { local = local; instr = Binary op flags width x y }) (λ r c a e. cc) g
      by local (Icmp predicate reg x y) g = plain_readable b k (record { local = local; instr = Icmp predicate reg x y }) (λ r c a e. cc) g
      by local (Cast op from x to) g = plain_readable b k (record { local = local; instr = Cast op from x to }) (λ r c a e. cc) g
      by local (Select c x y) g = plain_readable b k (record { local = local; instr = Select c x y }) (λ r d a e. cc) g
      by local (Freeze reg x) g = plain_readable b k (record { local = local; instr = Freeze reg x }) (λ r c a e. cc) g
      by local (Alloca shape align) g = plain_readable b k (record { local = local; instr = Alloca shape align }) (λ r c a e. cc) g
      by local (Load reg address align) g = plain_readable b k (record { local = local; instr = Load reg address align }) (λ r c a e. cc) g
      by local (Store reg x address align) g = plain_readable b k (record { local = local; instr = Store reg x address align }) (λ r c a e. cc) g
      by local (Address inbounds shape base indices) g = plain_readable b k (record { local = local; instr = Address inbounds shape base indices }) (λ r c a e. cc) g
      by local (Phi reg edges) g = plain_readable b k (record { local = local; instr = Phi reg edges }) (λ r c a e. cc) g

  end_right : (b : ℕ) (t : Terminator) → IsGood (end_item b t) → TerminatorReadable t
  end_right b t g = typed_readable f (end_item b t) g.formed g.typed (writable (end_item b t) g (λ k d lt. block_small f _ w n (g.formed.kind.1 k d lt)))

  -- ---- blocks

  result_readable : (i : Instr) (o : Option ℕ) → ResultFormed i o → ResultSmall o → ResultReadable i o
  result_readable i None r s = tt
  result_readable (Store reg x address align) (Some m) r s = absurd cc
  result_readable i (Some m) r s = (s, tt)

  lines_readable : (ls : List Line) → Each LineRight ls → Each (λ l. ResultSmall l.local) ls → Each LineReadable ls
  lines_readable [] h s = tt
  lines_readable (l ∷ ls) h s = ((h.0.0, result_readable l.instr l.local h.0.1 s.0), lines_readable ls h.1 s.1)

  blocks_readable : (bs : List tree_block.Block) → Each (BlockHas LineRight TerminatorReadable) bs → Each BlockSmall bs → Each BlockReadable bs
  blocks_readable [] h s = tt
  blocks_readable (b ∷ bs) h s = (record { number = s.0.number; lines = lines_readable (stated b) h.0.lines s.0.lines; end = h.0.end }, blocks_readable bs h.1 s.1)

  -- ---- functions

  goods : (is : List Item) → Each (ItemFormed f) is → Each ItemTyped is → Each (ItemKnown known) is → Each ItemWithin is → Each IsGood is
  goods [] a b c d = tt
  goods (i ∷ is) a b c d = (record { formed = a.0; typed = b.0; used = c.0; within = d.0 }, goods is a.1 b.1 c.1 d.1)

  params_readable : (ps : List Param) → Each (λ p. IsReg p.reg) ps → Each (λ p. IsSmall p.local) ps → Each ParamReadable ps
  params_readable [] h s = tt
  params_readable (p ∷ ps) h s = (record { reg = h.0; local = s.0 }, params_readable ps h.1 s.1)

  by_blocks : (bs : List tree_block.Block) → f.blocks ≡ bs → HeadReadable FURTHER_PARAMETERS f → Each BlockReadable f.blocks → FunctionReadable FURTHER_PARAMETERS bs f
  by_blocks [] e h r = h
  by_blocks (b ∷ bs) e h r = record { head = h; body = subst BodyReadable (sym e) (subst (Each BlockReadable) e r); few_blocks = w.few_blocks; few_instructions = w.few_instructions }

  pub function_readable : Formed f → FunctionTyped f → NameWithin f.symbol → All (ItemKnown known) (items f) → FunctionReadable FURTHER_PARAMETERS f.blocks f
  function_readable s t name k =
      let small = given_small f w n in
      let good = goods (items f) (recursion_from_All (ItemFormed f) (items f) s.items) (recursion_from_All ItemTyped (items f) t) (recursion_from_All (ItemKnown known) (items f) k) (recursion_from_All ItemWithin (items f) w.items) in
      let has = blocks_have IsGood LineRight TerminatorReadable phi_line line_right end_right 0 f.blocks good in
      by_blocks f.blocks refl
      (record { result = s.result; name = name.0; ordinary = name.1; params = params_readable f.params (recursion_from_All (λ p. IsReg p.reg) f.params s.params) small.0; few = w.few_parameters })
      (blocks_readable f.blocks has small.1)

pub sound_typed : (f : Function) → Sound f → FunctionTyped f
sound_typed f s = λ i d lt. item_typed f (slice_index_or (items f) i d) (s.rules TypeMismatch i d lt)
