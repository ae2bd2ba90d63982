-- What a walk meets is what the definitions name.
use Rattle.std.proofs.Common.{◌≡◌, ◌∙◌, ◌+◌, ◌<◌, ◌++◌, ℕ, suc, sym, ap, ap₂, refl, List, [], ◌∷◌, map, length, drop, drop-cons, add-one, slice_index_or, append_assoc, append-nil, length-append, arith}
use Rattle.std.proofs.lemmas.Grind.{flat_map-append}
use Rattle.std.specs.List.{flat_map}
use Rattle.ir_tree.specs.Initials.{Initial, plain, zeros, bytes, elements, members, Initials, no_initials, initial, head_of, parts_of, all_parts}
use Rattle.ir_tree.specs.Items.{Item, phi_item, end_item, lines_from, block_items, items_from, operands, reads, phi_reads, taken_as, end_reads}
use Rattle.ir_tree.specs.Wholes.{initial_operands, all_operands}
use Rattle.ir_tree.specs.declared.block.Block.{Block}
use Rattle.ir_tree.specs.declared.init_node.InitPart.{InitPart}
use Rattle.ir_tree.specs.declared.init_node.InitPart.TheVariants.{End}
use Rattle.ir_tree.specs.declared.instr.Incoming.{Incoming}
use Rattle.ir_tree.specs.declared.instr.Instr.{Instr}
use Rattle.ir_tree.specs.declared.instr.Instr.TheVariants as kind
use Rattle.ir_tree.specs.declared.instr.Line.{Line}
use Rattle.ir_tree.specs.declared.instr.Phi.{Phi}
use Rattle.ir_tree.specs.declared.operand.Reg.{Reg}
use Rattle.ir_summary.specs.References.{all_named, callee, called, named, operands_named}
use Rattle.ir_summary.specs.Walked.{block_names, blocks_names, blocks_callees, head_named, line_names, lines_callees, lines_names, parts_named, phis_names, values_named}

-- ---- bodies

abbrev item_names : Item → List (List ℕ)
item_names item = all_named (operands item)

taken_named : (reg : Reg) (incoming : List Incoming) → all_named (taken_as reg incoming) ≡ values_named incoming
taken_named reg [] = refl
taken_named reg (e ∷ es) = ap (λ (z : List (List ℕ)). named e.value ++ z) (taken_named reg es)

phis_named : (b : ℕ) (phis : List Phi) → flat_map item_names (map (phi_item b) phis) ≡ phis_names phis
phis_named b [] = refl
phis_named b (p ∷ ps) = ap₂ (λ (y z : List (List ℕ)). y ++ z) (taken_named p.reg p.incoming) (phis_named b ps)

plainly : (i : Instr) → all_named (reads i ++ []) ≡ all_named (reads i)
plainly i = ap all_named (append-nil (reads i))

line_named : (i : Instr) → all_named (reads i ++ phi_reads i) ≡ line_names i
line_named (kind.Binary op flags width left right) = plainly (kind.Binary op flags width left right)
line_named (kind.Icmp predicate reg left right) = plainly (kind.Icmp predicate reg left right)
line_named (kind.Cast op from value to) = plainly (kind.Cast op from value to)
line_named (kind.Select condition if_true if_false) = plainly (kind.Select condition if_true if_false)
line_named (kind.Freeze reg value) = plainly (kind.Freeze reg value)
line_named (kind.Alloca shape align) = plainly (kind.Alloca shape align)
line_named (kind.Load reg address align) = plainly (kind.Load reg address align)
line_named (kind.Store reg value address align) = plainly (kind.Store reg value address align)
line_named (kind.Address inbounds shape base indices) = plainly (kind.Address inbounds shape base indices)
line_named (kind.Call result callee arguments) = plainly (kind.Call result callee arguments)
line_named (kind.Phi reg incoming) = taken_named reg incoming

lines_named : (b k : ℕ) (lines : List Line) → flat_map item_names (lines_from b k lines) ≡ lines_names lines
lines_named b k [] = refl
lines_named b k (l ∷ ls) = ap₂ (λ (y z : List (List ℕ)). y ++ z) (line_named l.instr) (lines_named b (suc k) ls)

block_named : (b : ℕ) (block : Block) → flat_map item_names (block_items b block) ≡ block_names block
block_named b block =
    flat_map-append item_names (map (phi_item b) block.phis) (lines_from b 0 block.lines ++ end_item b block.end ∷ [])
    ∙ ap₂ (λ (y z : List (List ℕ)). y ++ z) (phis_named b block.phis)
    (flat_map-append item_names (lines_from b 0 block.lines) (end_item b block.end ∷ [])
    ∙ ap₂ (λ (y z : List (List ℕ)). y ++ z) (lines_named b 0 block.lines) (append-nil (all_named (end_reads block.end))))

-- a walk over the blocks meets all names of a body
pub blocks_named : (b : ℕ) (blocks : List Block) → flat_map item_names (items_from b blocks) ≡ blocks_names blocks
blocks_named b [] = refl
blocks_named b (block ∷ more) =
    flat_map-append item_names (block_items b block) (items_from (suc b) more)
    ∙ ap₂ (λ (y z : List (List ℕ)). y ++ z) (block_named b block) (blocks_named (suc b) more)

-- ---- calls

phis_call : (b : ℕ) (phis : List Phi) → flat_map callee (map (phi_item b) phis) ≡ []
phis_call b [] = refl
phis_call b (p ∷ ps) = phis_call b ps

lines_call : (b k : ℕ) (lines : List Line) → flat_map callee (lines_from b k lines) ≡ lines_callees lines
lines_call b k [] = refl
lines_call b k (l ∷ ls) = ap (λ (z : List (List ℕ)). called l.instr ++ z) (lines_call b (suc k) ls)

block_calls : (b : ℕ) (block : Block) → flat_map callee (block_items b block) ≡ lines_callees block.lines
block_calls b block =
    flat_map-append callee (map (phi_item b) block.phis) (lines_from b 0 block.lines ++ end_item b block.end ∷ [])
    ∙ ap₂ (λ (y z : List (List ℕ)). y ++ z) (phis_call b block.phis)
    (flat_map-append callee (lines_from b 0 block.lines) (end_item b block.end ∷ [])
    ∙ append-nil (flat_map callee (lines_from b 0 block.lines)) ∙ lines_call b 0 block.lines)

-- and all callees
pub blocks_call : (b : ℕ) (blocks : List Block) → flat_map callee (items_from b blocks) ≡ blocks_callees blocks
blocks_call b [] = refl
blocks_call b (block ∷ more) =
    flat_map-append callee (block_items b block) (items_from (suc b) more)
    ∙ ap₂ (λ (y z : List (List ℕ)). y ++ z) (block_calls b block) (blocks_call (suc b) more)

-- ---- counts

length_map : {X Y : Type 0} (f : X → Y) (xs : List X) → length (map f xs) ≡ length xs
length_map f [] = refl
length_map f (x ∷ xs) = ap suc (length_map f xs)

lines_count : (b k : ℕ) (lines : List Line) → length (lines_from b k lines) ≡ length lines
lines_count b k [] = refl
lines_count b k (l ∷ ls) = ap suc (lines_count b (suc k) ls)

block_count : (b : ℕ) (block : Block) → length (block_items b block) ≡ length block.phis + length block.lines + 1
block_count b block =
    let all = length-append (map (phi_item b) block.phis) (lines_from b 0 block.lines ++ end_item b block.end ∷ []) in
    let last = length-append (lines_from b 0 block.lines) (end_item b block.end ∷ []) in
    let phis = length_map (phi_item b) block.phis in
    let lines = lines_count b 0 block.lines in
    omega (arith, all, last, phis, lines)

-- how many items further blocks have
pub more_counted : (b : ℕ) (block : Block) (more : List Block) → length (items_from b (block ∷ more)) ≡ (length block.phis + length block.lines + 1) + length (items_from (suc b) more)
more_counted b block more =
    let all = length-append (block_items b block) (items_from (suc b) more) in
    let one = block_count b block in
    omega (arith, all, one)

left : {X : Type 0} (xs : List X) (i : ℕ) (d : X) → i < length xs → drop i xs ≡ slice_index_or xs i d ∷ drop (suc i) xs
left xs i d lt = drop-cons xs i d lt

-- the count so far, with one more block
pub counted_then : (blocks : List Block) (i : ℕ) (d : Block) (count more next total : ℕ) → i < length blocks
    → count + length (items_from i (drop i blocks)) ≡ total
    → more ≡ length (slice_index_or blocks i d).phis + length (slice_index_or blocks i d).lines + 1 → next ≡ count + more
    → next + length (items_from (i + 1) (drop (i + 1) blocks)) ≡ total
counted_then blocks i d count more next total lt so_far is next_is =
    let here : length (items_from i (drop i blocks)) ≡ (length (slice_index_or blocks i d).phis + length (slice_index_or blocks i d).lines + 1) + length (items_from (suc i) (drop (suc i) blocks)) =
    ap (λ (z : List Block). length (items_from i z)) (left blocks i d lt) ∙ more_counted i (slice_index_or blocks i d) (drop (suc i) blocks) in
    let same : length (items_from (i + 1) (drop (i + 1) blocks)) ≡ length (items_from (suc i) (drop (suc i) blocks)) = ap (λ (n : ℕ). length (items_from n (drop n blocks))) (add-one i) in
    omega (arith, here, same, so_far, is, next_is)

-- ---- initialisers

mutual
  part_named : (v : Initial) (rest : List InitPart) → head_named (head_of v) ++ parts_named (parts_of v rest) ≡ operands_named (initial_operands v) ++ parts_named rest
  part_named (plain operand) rest = ap (λ (z : List (List ℕ)). z ++ parts_named rest) (sym (append-nil (named operand)))
  part_named zeros rest = refl
  part_named (bytes text) rest = refl
  part_named (elements parts) rest = all_parts_named parts (End ∷ rest)
  part_named (members packed parts) rest = all_parts_named parts (End ∷ rest)

  all_parts_named : (vs : Initials) (rest : List InitPart) → parts_named (all_parts vs rest) ≡ operands_named (all_operands vs) ++ parts_named rest
  all_parts_named no_initials rest = refl
  all_parts_named (initial f v vs) rest =
      part_named v (all_parts vs rest)
      ∙ ap (λ (z : List (List ℕ)). operands_named (initial_operands v) ++ z) (all_parts_named vs rest)
      ∙ sym (append_assoc (operands_named (initial_operands v)) (operands_named (all_operands vs)) (parts_named rest))
      ∙ ap (λ (z : List (List ℕ)). z ++ parts_named rest) (sym (flat_map-append named (initial_operands v) (all_operands vs)))

-- the nodes of an initialiser name what the initialiser names
pub initial_named : (v : Initial) → head_named (head_of v) ++ parts_named (parts_of v []) ≡ operands_named (initial_operands v)
initial_named v = part_named v [] ∙ append-nil (operands_named (initial_operands v))
