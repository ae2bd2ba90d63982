-- What a walk through a body meets, block by block.
use Rattle.std.specs.Prelude.{ℕ, List, [], ◌∷◌, ◌++◌}
use Rattle.ir_tree.specs.Items.{reads, end_reads}
use Rattle.ir_tree.specs.declared.block.Block.{Block}
use Rattle.ir_tree.specs.declared.instr.Incoming.{Incoming}
use Rattle.ir_tree.specs.declared.instr.Instr.{Instr}
use Rattle.ir_tree.specs.declared.instr.Instr.TheVariants as kind
use Rattle.ir_tree.specs.declared.instr.Line.{Line}
use Rattle.ir_tree.specs.declared.instr.Phi.{Phi}
use Rattle.ir_tree.specs.declared.init_node.InitHead.{InitHead}
use Rattle.ir_tree.specs.declared.init_node.InitHead.TheVariants.{Plain, Zeros, Bytes, Array, Struct}
use Rattle.ir_tree.specs.declared.init_node.InitPart.{InitPart}
use Rattle.ir_tree.specs.declared.init_node.InitPart.TheVariants.{Typed, End}
use Rattle.ir_summary.specs.References.{all_named, called, named}

abbrev pub values_named : List Incoming → List (List ℕ)
values_named [] = []
values_named (e ∷ es) = named e.value ++ values_named es

abbrev pub phis_names : List Phi → List (List ℕ)
phis_names [] = []
phis_names (p ∷ ps) = values_named p.incoming ++ phis_names ps

-- a phi reads at the ends of the predecessors, every other instruction at its own place
abbrev pub line_names : Instr → List (List ℕ)
line_names (kind.Phi reg incoming) = values_named incoming
line_names instr = all_named (reads instr)

abbrev pub lines_names : List Line → List (List ℕ)
lines_names [] = []
lines_names (l ∷ ls) = line_names l.instr ++ lines_names ls

abbrev pub block_names : Block → List (List ℕ)
block_names b = phis_names b.phis ++ (lines_names b.lines ++ all_named (end_reads b.end))

abbrev pub blocks_names : List Block → List (List ℕ)
blocks_names [] = []
blocks_names (b ∷ bs) = block_names b ++ blocks_names bs

abbrev pub lines_callees : List Line → List (List ℕ)
lines_callees [] = []
lines_callees (l ∷ ls) = called l.instr ++ lines_callees ls

abbrev pub blocks_callees : List Block → List (List ℕ)
blocks_callees [] = []
blocks_callees (b ∷ bs) = lines_callees b.lines ++ blocks_callees bs

-- the nodes of an initialiser, as they are kept
abbrev pub head_named : InitHead → List (List ℕ)
head_named (Plain operand) = named operand
head_named Zeros = []
head_named (Bytes text) = []
head_named Array = []
head_named (Struct packed) = []

abbrev pub part_named : InitPart → List (List ℕ)
part_named (Typed shape head) = head_named head
part_named End = []

abbrev pub parts_named : List InitPart → List (List ℕ)
parts_named [] = []
parts_named (p ∷ ps) = part_named p ++ parts_named ps
