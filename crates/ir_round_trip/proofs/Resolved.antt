-- Every name of a formed function is known where its numbers follow its text, sound or not, if no phi stands first behind the
-- phis of a block.
use Rattle.std.proofs.Common.{◌≡◌, ℕ, None, List, [], ◌∷◌, refl}
use Rattle.std.specs.List.{AllByRecursion as Each}
use Rattle.std.specs.Prelude.{All, Contains}
use Rattle.std.proofs.lemmas.List.Elements.{recursion_from_All}
use Rattle.ir_parse_names.specs.declared.locals.Sort.TheVariants.{Block}
use Rattle.ir_tree.specs.Flow.{successors}
use Rattle.ir_tree.specs.Formed.{ArgumentFormed, Formed, IsBlock, ItemFormed, OperandFormed}
use Rattle.ir_tree.specs.Items.{Item, phi_item, line_item, end_item, items, operands, entries, reads, phi_reads, taken, taken_as}
use Rattle.ir_tree.specs.Wholes.{IsKnown, ItemKnown}
use Rattle.ir_tree.specs.declared.block.Block as tree_block
use Rattle.ir_tree.specs.declared.block.Terminator.{Terminator}
use Rattle.ir_tree.specs.declared.function.Function.{Function}
use Rattle.ir_tree.specs.declared.instr.Incoming.{Incoming}
use Rattle.ir_tree.specs.declared.instr.Instr.{Instr}
use Rattle.ir_tree.specs.declared.instr.Instr.TheVariants as instr
use Rattle.ir_tree.specs.declared.instr.Line.{Line}
use Rattle.ir_tree.specs.declared.instr.Phi.{Phi}
use Rattle.ir_tree.specs.declared.operand.Argument.{Argument}
use Rattle.ir_tree.specs.declared.operand.Operand.{Operand}
use Rattle.ir_tree.specs.declared.operand.Operand.TheVariants.{Local, Number, Null, Poison, Symbol}
use Rattle.ir_tree.specs.declared.operand.Reg.{Reg}
use Rattle.ir_tree.specs.declared.operand.Symbol as tree_symbol
use Rattle.ir_round_trip.proofs.Each.{front, back}
use Rattle.ir_round_trip.proofs.Walk.{BlockHas, blocks_have}
use Rattle.ir_round_trip.specs.Bodies.{phi_as_line}
use Rattle.ir_round_trip.proofs.Places.{local_defined, block_defined}
use Rattle.ir_round_trip.specs.PrintedKnown.{IsDefinedAs, OperandKnown, ArgumentKnown, LineKnown, EndKnown, FirstIsNoPhi, BlockKnown, FunctionKnown}
use Rattle.ir_round_trip.specs.Sorts.{sorts, IsNumbered}

module _ (known : List tree_symbol.Symbol) (at_home : (s : tree_symbol.Symbol) → Contains known s → s.home ≡ None) (f : Function) (n : IsNumbered f) where
  -- ---- operands

  operand_known : (x : Operand) → OperandFormed f x → IsKnown known x → OperandKnown (sorts f) x
  operand_known (Local x) h k = local_defined f x n h
  operand_known (Number w bits) h k = tt
  operand_known Null h k = tt
  operand_known (Poison reg) h k = tt
  operand_known (Symbol symbol offset) h k = at_home symbol k

  arguments_known : (as' : List Argument) → Each (ArgumentFormed f) as' → Each (λ a. IsKnown known a.operand) as' → Each (ArgumentKnown (sorts f)) as'
  arguments_known [] h k = tt
  arguments_known (a ∷ as') h k = (operand_known a.operand h.0.1 k.0, arguments_known as' h.1 k.1)

  targets_known : (ts : List ℕ) → Each (IsBlock f) ts → Each (IsDefinedAs (sorts f) Block) ts
  targets_known [] h = tt
  targets_known (t ∷ ts) h = (block_defined f t n h.0, targets_known ts h.1)

  abbrev EntryKnown : Incoming → Type 0
  EntryKnown e = OperandKnown (sorts f) e.value × IsDefinedAs (sorts f) Block e.from

  entries_known : (reg : Reg) (es : List Incoming) → Each (ArgumentKnown (sorts f)) (taken_as reg es) → Each (λ e. IsBlock f e.from) es → Each EntryKnown es
  entries_known reg [] h k = tt
  entries_known reg (e ∷ es) h k = ((h.0, block_defined f e.from n k.0), entries_known reg es h.1 k.1)

  taken_known : (i : Instr) → Each (ArgumentKnown (sorts f)) (phi_reads i) → Each (λ e. IsBlock f e.from) (taken i) → Each EntryKnown (taken i)
  taken_known (instr.Phi reg edges) h k = entries_known reg edges h k
  taken_known i h k = tt

  -- ---- items

  record IsGood (item : Item) : Type 0 where
    formed : ItemFormed f item
    used : ItemKnown known item

  all_known : (item : Item) → IsGood item → Each (ArgumentKnown (sorts f)) (operands item)
  all_known item g = arguments_known (operands item) (recursion_from_All (ArgumentFormed f) (operands item) g.formed.operands) (recursion_from_All (λ a. IsKnown known a.operand) (operands item) g.used)

  sources : (item : Item) → IsGood item → Each (λ e. IsBlock f e.from) (entries item)
  sources item g = recursion_from_All (λ e. IsBlock f e.from) (entries item) g.formed.sources

  phi_known : (b : ℕ) (p : Phi) → IsGood (phi_item b p) → LineKnown (sorts f) (phi_as_line p)
  phi_known b p g = record { operands = tt; entries = entries_known p.reg p.incoming (all_known (phi_item b p) g) (sources (phi_item b p) g); result = refl }

  line_known : (b k : ℕ) (l : Line) → IsGood (line_item b k l) → LineKnown (sorts f) l
  line_known b k l g =
      let all = all_known (line_item b k l) g in
      record {
        operands = front (ArgumentKnown (sorts f)) (reads l.instr) (phi_reads l.instr) all;
        entries = taken_known l.instr (back (ArgumentKnown (sorts f)) (reads l.instr) (phi_reads l.instr) all) (sources (line_item b k l) g);
        result = g.formed.kind.1;
      }

  end_known : (b : ℕ) (t : Terminator) → IsGood (end_item b t) → EndKnown (sorts f) t
  end_known b t g = record { operands = all_known (end_item b t) g; targets = targets_known (successors t) (recursion_from_All (IsBlock f) (successors t) g.formed.kind.1) }

  -- ---- functions

  goods : (is : List Item) → Each (ItemFormed f) is → Each (ItemKnown known) is → Each IsGood is
  goods [] a b = tt
  goods (i ∷ is) a b = (record { formed = a.0; used = b.0 }, goods is a.1 b.1)

  all_blocks_known : (bs : List tree_block.Block) → Each (BlockHas (LineKnown (sorts f)) (EndKnown (sorts f))) bs → Each (λ (b : tree_block.Block). FirstIsNoPhi b.lines) bs → Each (BlockKnown (sorts f)) bs
  all_blocks_known [] h k = tt
  all_blocks_known (b ∷ bs) h k = (record { lines = h.0.lines; first = k.0; end = h.0.end }, all_blocks_known bs h.1 k.1)

  pub formed_known : Formed f → f.symbol.home ≡ None → All (ItemKnown known) (items f) → Each (λ (b : tree_block.Block). FirstIsNoPhi b.lines) f.blocks → FunctionKnown f
  formed_known formed home k first =
      let good = goods (items f) (recursion_from_All (ItemFormed f) (items f) formed.items) (recursion_from_All (ItemKnown known) (items f) k) in
      record {
        numbered = n;
        home = home;
        blocks = all_blocks_known f.blocks (blocks_have IsGood (LineKnown (sorts f)) (EndKnown (sorts f)) phi_known line_known end_known 0 f.blocks good) first;
      }
