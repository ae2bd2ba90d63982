-- In a sound function whose numbers follow its text every name is known.
use Rattle.std.proofs.Common.{◌≡◌, ℕ, suc, Option, Some, None, List, [], ◌∷◌, ◌++◌, map, refl}
use Rattle.std.specs.List.{AllByRecursion as Each}
use Rattle.std.specs.Prelude.{All}
use Rattle.std.proofs.lemmas.List.Elements.{recursion_from_All}
use Rattle.ir_parse_values.specs.Blocks.{as_phi}
use Rattle.ir_parse_names.specs.declared.locals.Sort.TheVariants.{Block}
use Rattle.ir_tree.specs.Flow.{successors}
use Rattle.ir_tree.specs.Formed.{OperandFormed, ArgumentFormed, IsBlock, ItemFormed}
use Rattle.ir_tree.specs.Items.{Item, phi_item, line_item, end_item, items, items_from, block_items, lines_from, operands, entries, reads, phi_reads, taken, taken_as}
use Rattle.ir_tree.specs.Rules.{IsNoPhi, StandsRight, Sound}
use Rattle.ir_tree.specs.declared.block.Block as tree_block
use Rattle.ir_tree.specs.declared.block.Terminator.{Terminator}
use Rattle.ir_tree.specs.declared.function.Function.{Function}
use Rattle.ir_tree.specs.declared.instr.Incoming.{Incoming}
use Rattle.ir_tree.specs.declared.instr.Instr.{Instr}
use Rattle.ir_tree.specs.declared.instr.Instr.TheVariants as instr
use Rattle.ir_tree.specs.declared.instr.Line.{Line}
use Rattle.ir_tree.specs.declared.instr.Phi.{Phi}
use Rattle.ir_tree.specs.declared.operand.Argument.{Argument}
use Rattle.ir_tree.specs.declared.operand.Operand.{Operand}
use Rattle.ir_tree.specs.declared.operand.Operand.TheVariants.{Local, Number, Null, Poison, Symbol}
use Rattle.ir_tree.specs.declared.operand.Reg.{Reg}
use Rattle.ir_tree.specs.declared.rule.Rule.TheVariants.{PhiPlace}
use Rattle.ir_round_trip.specs.Bodies.{phi_as_line}
use Rattle.ir_round_trip.proofs.Places.{local_defined, block_defined}
use Rattle.ir_round_trip.specs.Homeless.{IsHomeless, ItemHomeless}
use Rattle.ir_round_trip.specs.PrintedKnown.{IsDefinedAs, OperandKnown, ArgumentKnown, LineKnown, EndKnown, FirstIsNoPhi, BlockKnown, FunctionKnown}
use Rattle.ir_round_trip.specs.Sorts.{sorts, IsNumbered}

-- ---- lists

front : {A : Type 0} (P : A → Type 0) (xs ys : List A) → Each P (xs ++ ys) → Each P xs
front P [] ys h = tt
front P (x ∷ xs) ys h = (h.0, front P xs ys h.1)

back : {A : Type 0} (P : A → Type 0) (xs ys : List A) → Each P (xs ++ ys) → Each P ys
back P [] ys h = h
back P (x ∷ xs) ys h = back P xs ys h.1

module _ (f : Function) (n : IsNumbered f) where
  -- ---- operands

  operand_known : (x : Operand) → OperandFormed f x → IsHomeless x → OperandKnown (sorts f) x
  operand_known (Local x) h k = local_defined f x n h
  operand_known (Number w bits) h k = tt
  operand_known Null h k = tt
  operand_known (Poison reg) h k = tt
  operand_known (Symbol symbol offset) h k = k

  arguments_known : (as' : List Argument) → Each (ArgumentFormed f) as' → Each (λ a. IsHomeless a.operand) as' → Each (ArgumentKnown (sorts f)) as'
  arguments_known [] h k = tt
  arguments_known (a ∷ as') h k = (operand_known a.operand h.0.1 k.0, arguments_known as' h.1 k.1)

  blocks_known : (ts : List ℕ) → Each (IsBlock f) ts → Each (IsDefinedAs (sorts f) Block) ts
  blocks_known [] h = tt
  blocks_known (t ∷ ts) h = (block_defined f t n h.0, blocks_known ts h.1)

  abbrev EntryKnown : Incoming → Type 0
  EntryKnown e = OperandKnown (sorts f) e.value × IsDefinedAs (sorts f) Block e.from

  entries_known : (reg : Reg) (is : List Incoming) → Each (ArgumentKnown (sorts f)) (taken_as reg is) → Each (λ e. IsBlock f e.from) is → Each EntryKnown is
  entries_known reg [] h k = tt
  entries_known reg (i ∷ is) h k = ((h.0, block_defined f i.from n k.0), entries_known reg is h.1 k.1)

  taken_known : (i : Instr) → Each (ArgumentKnown (sorts f)) (phi_reads i) → Each (λ e. IsBlock f e.from) (taken i) → Each EntryKnown (taken i)
  taken_known (instr.Phi reg edges) h k = entries_known reg edges h k
  taken_known i h k = tt

  -- ---- items

  record IsGood (item : Item) : Type 0 where
    formed : ItemFormed f item
    place : StandsRight item
    homeless : ItemHomeless item

  all_known : (item : Item) → IsGood item → Each (ArgumentKnown (sorts f)) (operands item)
  all_known item g = arguments_known (operands item) (recursion_from_All (ArgumentFormed f) (operands item) g.formed.operands) (recursion_from_All (λ a. IsHomeless a.operand) (operands item) g.homeless)

  sources : (item : Item) → IsGood item → Each (λ e. IsBlock f e.from) (entries item)
  sources item g = recursion_from_All (λ e. IsBlock f e.from) (entries item) g.formed.sources

  line_known : (b k : ℕ) (l : Line) → IsGood (line_item b k l) → LineKnown (sorts f) l
  line_known b k l g =
      let all = all_known (line_item b k l) g in
      record {
        operands = front (ArgumentKnown (sorts f)) (reads l.instr) (phi_reads l.instr) all;
        entries = taken_known l.instr (back (ArgumentKnown (sorts f)) (reads l.instr) (phi_reads l.instr) all) (sources (line_item b k l) g);
        result = g.formed.kind.1;
      }

  phi_known : (b : ℕ) (p : Phi) → IsGood (phi_item b p) → LineKnown (sorts f) (phi_as_line p)
  phi_known b p g = record { operands = tt; entries = entries_known p.reg p.incoming (all_known (phi_item b p) g) (sources (phi_item b p) g); result = refl }

  end_known : (b : ℕ) (t : Terminator) → IsGood (end_item b t) → EndKnown (sorts f) t
  end_known b t g = record { operands = all_known (end_item b t) g; targets = blocks_known (successors t) (recursion_from_All (IsBlock f) (successors t) g.formed.kind.1) }

  -- ---- blocks

  no_phi : (name : Option ℕ) (i : Instr) → IsNoPhi i → as_phi (record { local = name; instr = i }) ≡ None
  no_phi None i h = refl
  no_phi (Some x) (instr.Phi reg edges) h = absurd h
  no_phi (Some x) i h = refl

  first_known : (b k : ℕ) (ls : List Line) (rest : List Item) → Each IsGood (lines_from b k ls ++ rest) → FirstIsNoPhi ls
  first_known b k [] rest h = tt
  first_known b k (l ∷ ls) rest h = no_phi l.local l.instr h.0.place

  lines_known : (b k : ℕ) (ls : List Line) (rest : List Item) → Each IsGood (lines_from b k ls ++ rest) → Each (LineKnown (sorts f)) ls
  lines_known b k [] rest h = tt
  lines_known b k (l ∷ ls) rest h = (line_known b k l h.0, lines_known b (suc k) ls rest h.1)

  stated_known : (b : ℕ) (ps : List Phi) (ls : List Line) (rest : List Item) → Each IsGood (map (phi_item b) ps ++ (lines_from b 0 ls ++ rest)) → Each (LineKnown (sorts f)) (map phi_as_line ps ++ ls)
  stated_known b [] ls rest h = lines_known b 0 ls rest h
  stated_known b (p ∷ ps) ls rest h = (phi_known b p h.0, stated_known b ps ls rest h.1)

  block_known : (p : ℕ) (b : tree_block.Block) → Each IsGood (block_items p b) → BlockKnown (sorts f) b
  block_known p b h =
      let behind = back IsGood (map (phi_item p) b.phis) (lines_from p 0 b.lines ++ end_item p b.end ∷ []) h in
      record {
        lines = stated_known p b.phis b.lines (end_item p b.end ∷ []) h;
        first = first_known p 0 b.lines (end_item p b.end ∷ []) behind;
        end = end_known p b.end (back IsGood (lines_from p 0 b.lines) (end_item p b.end ∷ []) behind).0;
      }

  all_blocks_known : (p : ℕ) (bs : List tree_block.Block) → Each IsGood (items_from p bs) → Each (BlockKnown (sorts f)) bs
  all_blocks_known p [] h = tt
  all_blocks_known p (b ∷ bs) h = (block_known p b (front IsGood (block_items p b) (items_from (suc p) bs) h), all_blocks_known (suc p) bs (back IsGood (block_items p b) (items_from (suc p) bs) h))

  -- ---- functions

  goods : (is : List Item) → Each (ItemFormed f) is → Each StandsRight is → Each ItemHomeless is → Each IsGood is
  goods [] a b c = tt
  goods (i ∷ is) a b c = (record { formed = a.0; place = b.0; homeless = c.0 }, goods is a.1 b.1 c.1)

pub function_known : (f : Function) → Sound f → IsNumbered f → f.symbol.home ≡ None → All ItemHomeless (items f) → FunctionKnown f
function_known f s n home h = record {
  numbered = n;
  home = home;
  blocks = all_blocks_known f n 0 f.blocks
      (goods f n (items f) (recursion_from_All (ItemFormed f) (items f) s.formed.items) (recursion_from_All StandsRight (items f) (s.rules PhiPlace)) (recursion_from_All ItemHomeless (items f) h));
}
