-- The instructions of formed functions have widths.
use Rattle.std.proofs.Common.{ℕ, suc, List, [], ◌∷◌, ◌++◌, map, subst}
use Rattle.std.specs.List.{All}
use Rattle.std.proofs.lemmas.List.Elements.{All-head, All-tail, All-weaker}
use Rattle.std.proofs.Common.{append-nil, append_assoc, Option}
use Rattle.ir_tree.specs.Formed.{ArgumentFormed, Formed, IsReg, ItemFormed}
use Rattle.ir_tree.specs.Items.{Item, phi_item, line_item, end_item, lines_from, items_from, typed}
use Rattle.ir_tree.specs.declared.block.Block.{Block}
use Rattle.ir_tree.specs.declared.function.Function.{Function}
use Rattle.ir_tree.specs.declared.instr.Instr.{Instr}
use Rattle.ir_tree.specs.declared.instr.Instr.TheVariants.{Address, Alloca, Binary, Call, Cast, Freeze, Icmp, Load, Phi as StrayPhi, Select, Store}
use Rattle.ir_tree.specs.declared.instr.Line.{Line}
use Rattle.ir_tree.specs.declared.instr.Phi.{Phi}
use Rattle.ir_tree.specs.declared.operand.Argument.{Argument}
use Rattle.ir_tree.specs.declared.operand.Reg.TheVariants.{Int, Ptr}
use Rattle.fold_rules.specs.Widths.{HasWidths}
use Rattle.ir_facts.specs.Askable.{BlocksHaveWidths, LinesHaveWidths}

first_reg : (f : Function) (a : Argument) (more : List Argument) → All (ArgumentFormed f) (a ∷ more) → IsReg a.reg
first_reg f a more h = let own = All-head (ArgumentFormed f) a more h in own.0

regs : (f : Function) (args : List Argument) → All (ArgumentFormed f) args → All (λ a. IsReg a.reg) args
regs f args h = All-weaker (ArgumentFormed f) (λ a. IsReg a.reg) (λ a own. own.0) args h

instr_wide : (f : Function) (b k : ℕ) (x : Option ℕ) (i : Instr) → ItemFormed f (line_item b k (record { local = x; instr = i })) → HasWidths i
instr_wide f b k x (Binary op flags width left right) h = first_reg f (typed (Int width) left) (typed (Int width) right ∷ []) h.operands
instr_wide f b k x (Icmp predicate reg left right) h = first_reg f (typed reg left) (typed reg right ∷ []) h.operands
instr_wide f b k x (Cast op from value to) h = (first_reg f (typed from value) [] h.operands, h.kind.0)
instr_wide f b k x (Select condition if_true if_false) h = tt
instr_wide f b k x (Freeze reg value) h = first_reg f (typed reg value) [] h.operands
instr_wide f b k x (Alloca shape align) h = tt
instr_wide f b k x (Load reg address align) h = tt
instr_wide f b k x (Store reg value address align) h = tt
instr_wide f b k x (Address inbounds shape base indices) h =
    let all = All-tail (ArgumentFormed f) (typed Ptr base) (indices ++ []) h.operands in
    (h.kind.0.sized, regs f indices (subst (λ (xs : List Argument). All (ArgumentFormed f) xs) (append-nil indices) all))
instr_wide f b k x (Call result callee arguments) h = tt
instr_wide f b k x (StrayPhi reg incoming) h = tt

behind_phis : (f : Function) (b : ℕ) (ps : List Phi) (rest : List Item) → All (ItemFormed f) (map (phi_item b) ps ++ rest) → All (ItemFormed f) rest
behind_phis f b [] rest h = h
behind_phis f b (p ∷ ps) rest h = behind_phis f b ps rest (All-tail (ItemFormed f) (phi_item b p) (map (phi_item b) ps ++ rest) h)

lines_wide : (f : Function) (b k : ℕ) (ls : List Line) (rest : List Item) → All (ItemFormed f) (lines_from b k ls ++ rest) → LinesHaveWidths ls × All (ItemFormed f) rest
lines_wide f b k [] rest h = (tt, h)
lines_wide f b k (l ∷ ls) rest h =
    let more = lines_wide f b (suc k) ls rest (All-tail (ItemFormed f) (line_item b k l) (lines_from b (suc k) ls ++ rest) h) in
    ((instr_wide f b k l.local l.instr (All-head (ItemFormed f) (line_item b k l) (lines_from b (suc k) ls ++ rest) h), more.0), more.1)

blocks_wide : (f : Function) (b : ℕ) (bs : List Block) → All (ItemFormed f) (items_from b bs) → BlocksHaveWidths bs
blocks_wide f b [] h = tt
blocks_wide f b (block ∷ bs) h =
    let items = subst (λ (is : List Item). All (ItemFormed f) is) (append_assoc (map (phi_item b) block.phis) (lines_from b 0 block.lines ++ end_item b block.end ∷ []) (items_from (suc b) bs)) h in
    let lines = behind_phis f b block.phis ((lines_from b 0 block.lines ++ end_item b block.end ∷ []) ++ items_from (suc b) bs) items in
    let parts = lines_wide f b 0 block.lines (end_item b block.end ∷ items_from (suc b) bs)
    (subst (λ (is : List Item). All (ItemFormed f) is) (append_assoc (lines_from b 0 block.lines) (end_item b block.end ∷ []) (items_from (suc b) bs)) lines) in
    (parts.0, blocks_wide f (suc b) bs (All-tail (ItemFormed f) (end_item b block.end) (items_from (suc b) bs) parts.1))

pub formed_wide : (f : Function) → Formed f → BlocksHaveWidths f.blocks
formed_wide f h = blocks_wide f 0 f.blocks h.items
