-- Blocks and functions as they are printed are read as their tokens.
use Rattle.std.proofs.Common.{ℕ, suc, true, false, Option, Some, None, List, [], ◌∷◌, ◌++◌, codes, map, refl}
use Rattle.std.proofs.lemmas.List.Elements.{recursion_from_All}
use Rattle.std.specs.List.{AllByRecursion as Each}
use Rattle.std.specs.Prelude.{All}
use Rattle.ir_lex.specs.Bytes.{has}
use Rattle.ir_lex.specs.Pieces.{AllBlank}
use Rattle.ir_tree.specs.Items.{Item, phi_item, end_item, lines_from, block_items, items_from, items, operands, answers, end_reads}
use Rattle.ir_tree.specs.declared.block.Block.{Block}
use Rattle.ir_tree.specs.declared.block.Case.{Case}
use Rattle.ir_tree.specs.declared.block.Terminator.{Terminator}
use Rattle.ir_tree.specs.declared.block.Terminator.TheVariants.{Return, Jump, Branch, Switch, Unreachable}
use Rattle.ir_tree.specs.declared.function.Function.{Function}
use Rattle.ir_tree.specs.declared.function.Linkage.{Linkage}
use Rattle.ir_tree.specs.declared.function.Linkage.TheVariants as linkages
use Rattle.ir_tree.specs.declared.function.Param.{Param}
use Rattle.ir_tree.specs.declared.instr.Line.{Line}
use Rattle.ir_tree.specs.declared.instr.Phi.{Phi}
use Rattle.ir_tree.specs.declared.operand.Argument.{Argument}
use Rattle.ir_tree.specs.declared.operand.Operand.{Operand}
use Rattle.ir_print.specs.Blocks.{target, switch_case, cases, answer, decided, terminator, phi_line, phis, content, further_blocks, blocks}
use Rattle.ir_print.specs.Functions.{linkage, param, further_params, params, further_types, types, signature, declaration, attributes, body, definition, by_blocks, function}
use Rattle.ir_print.specs.Instructions.{lines}
use Rattle.ir_print.specs.Tokens.{tight, space, next_line, indent}
use Rattle.ir_round_trip.specs.Printable.{FunctionPrintable, IsName, OperandPrintable}
use Rattle.ir_round_trip.proofs.CutInstructions.{each_left, each_right, line_fits, optional_fits, phi_fits}
use Rattle.ir_round_trip.proofs.Joined.{Fits, then, nothing, weaker, spaced, lined, indented, is_free, Shut, marked, mark_shut, shut_by, behind_shut, comma_fits, keyword, width_fits, local_fits, global_fits, label_fits}
use Rattle.ir_round_trip.proofs.CutOperands.{ArgumentPrintable, register_fits, result_fits, number_fits, operand_fits, typed_fits}
use Rattle.ir_round_trip.proofs.Single.{open_paren, close_paren, open_bracket, close_bracket, open_brace, close_brace, equals_mark}

-- ---- terminators

target_fits : (b : ℕ) → Fits true (target b)
unfolding has
target_fits b = then (keyword space (codes "label") spaced refl) (local_fits space b spaced)

case_fits : (c : Case) → Fits true (switch_case c)
case_fits c = then (register_fits space c.reg spaced) (then (number_fits space c.width c.bits spaced) (then comma_fits (target_fits c.target)))

cases_fit : (cs : List Case) → Fits true (cases cs)
cases_fit [] = nothing
cases_fit (c ∷ rest) = then (case_fits c) (cases_fit rest)

answer_fits : (a : Option Argument) → Each ArgumentPrintable (answers a) → Fits true (answer a)
unfolding has
answer_fits None p = keyword space (codes "void") spaced refl
answer_fits (Some a) p = typed_fits space a.reg a.operand spaced p.0

decided_fits : (x : Operand) (b : ℕ) → OperandPrintable x → Fits true (decided x b)
decided_fits x b p = then (operand_fits space x spaced p) (then comma_fits (target_fits b))

terminator_fits : (t : Terminator) → Each ArgumentPrintable (end_reads t) → Fits true (terminator t)
unfolding has
terminator_fits (Return a) p = then (keyword indent (codes "ret") indented refl) (answer_fits a p)
terminator_fits (Jump b) p = then (keyword indent (codes "br") indented refl) (target_fits b)
terminator_fits (Branch c if_true if_false) p =
    then (keyword indent (codes "br") indented refl) (then (width_fits space 1 spaced) (then (decided_fits c if_true p.0) (then comma_fits (target_fits if_false))))
terminator_fits (Switch w x default more) p =
    then (keyword indent (codes "switch") indented refl) (then (width_fits space w spaced) (then (decided_fits x default p.0)
    (then (marked space 91 spaced open_bracket) (then (cases_fit more) (marked space 93 spaced close_bracket)))))
terminator_fits Unreachable p = keyword indent (codes "unreachable") indented refl

-- ---- blocks

-- what an item names can be written
abbrev pub ItemPrintable : Item → Type 0
ItemPrintable item = Each ArgumentPrintable (operands item)

phi_line_fits : (b : ℕ) (p : Phi) → ItemPrintable (phi_item b p) → Fits true (phi_line p)
phi_line_fits b p h = then (local_fits indent p.local indented) (then (marked space 61 spaced equals_mark) (phi_fits space p.reg p.incoming spaced h))

phis_fit : (b : ℕ) (ps : List Phi) → Each ItemPrintable (map (phi_item b) ps) → Fits true (phis ps)
phis_fit b [] h = nothing
phis_fit b (p ∷ rest) h = then (phi_line_fits b p h.0) (phis_fit b rest h.1)

lines_fit : (b k : ℕ) (ls : List Line) → Each ItemPrintable (lines_from b k ls) → Fits true (lines ls)
lines_fit b k [] h = nothing
lines_fit b k (l ∷ rest) h = then (line_fits l.local l.instr h.0) (lines_fit b (suc k) rest h.1)

content_fits : (n : ℕ) (b : Block) → Each ItemPrintable (block_items n b) → Fits true (content b)
content_fits n b h =
    let first = map (phi_item n) b.phis in
    let more = lines_from n 0 b.lines in
    let last = end_item n b.end ∷ [] in
    let behind = each_right ItemPrintable first (more ++ last) h in
    then (phis_fit n b.phis (each_left ItemPrintable first (more ++ last) h))
    (then (lines_fit n 0 b.lines (each_left ItemPrintable more last behind)) (terminator_fits b.end (each_right ItemPrintable more last behind).0))

further_blocks_fit : (n : ℕ) (bs : List Block) → Each ItemPrintable (items_from n bs) → Fits true (further_blocks bs)
further_blocks_fit n [] h = nothing
further_blocks_fit n (b ∷ rest) h =
    let first = block_items n b in
    let more = items_from (suc n) rest in
    then (then (label_fits b.number) (content_fits n b (each_left ItemPrintable first more h))) (further_blocks_fit (suc n) rest (each_right ItemPrintable first more h))

blocks_fit : (n : ℕ) (bs : List Block) → Each ItemPrintable (items_from n bs) → Fits true (blocks bs)
blocks_fit n [] h = nothing
blocks_fit n (b ∷ rest) h =
    let first = block_items n b in
    let more = items_from (suc n) rest in
    then (content_fits n b (each_left ItemPrintable first more h)) (further_blocks_fit (suc n) rest (each_right ItemPrintable first more h))

-- ---- functions

pub linkage_fits : (l : Linkage) → Fits true (linkage l)
unfolding has
linkage_fits linkages.Private = keyword space (codes "private") spaced refl
linkage_fits linkages.Internal = keyword space (codes "internal") spaced refl
linkage_fits linkages.External = nothing
linkage_fits linkages.Linkonce = keyword space (codes "linkonce") spaced refl
linkage_fits linkages.LinkonceOdr = keyword space (codes "linkonce_odr") spaced refl
linkage_fits linkages.Weak = keyword space (codes "weak") spaced refl
linkage_fits linkages.WeakOdr = keyword space (codes "weak_odr") spaced refl
linkage_fits linkages.AvailableExternally = keyword space (codes "available_externally") spaced refl

param_fits : (blank : List ℕ) (p : Param) → AllBlank blank → Fits (is_free blank) (param blank p)
param_fits blank p b = then (register_fits blank p.reg b) (local_fits space p.local spaced)

further_params_fit : (ps : List Param) → Fits true (further_params ps)
further_params_fit [] = nothing
further_params_fit (p ∷ rest) = then (then comma_fits (param_fits space p spaced)) (further_params_fit rest)

params_fit : (ps : List Param) → Fits false (params ps)
params_fit [] = weaker false nothing
params_fit (p ∷ rest) = then (param_fits tight p tt) (further_params_fit rest)

further_types_fit : (ps : List Param) → Fits true (further_types ps)
further_types_fit [] = nothing
further_types_fit (p ∷ rest) = then (then comma_fits (register_fits space p.reg spaced)) (further_types_fit rest)

types_fit : (ps : List Param) → Fits false (types ps)
types_fit [] = weaker false nothing
types_fit (p ∷ rest) = then (register_fits tight p.reg tt) (further_types_fit rest)

attributes_fit : (f : Function) → Fits true (attributes f)
unfolding has
attributes_fit f = then (optional_fits (codes "noinline") f.noinline refl) (optional_fits (codes "optnone") f.optnone refl)

body_fits : (bs : List Block) → Each ItemPrintable (items_from 0 bs) → Fits true (body bs)
body_fits bs h = then (marked space 123 spaced open_brace) (then (blocks_fit 0 bs h) (marked next_line 125 lined close_brace))

signature_shut : (f : Function) → IsName f.symbol.name → Shut (signature f)
signature_shut f n = shut_by (result_fits f.result) (shut_by (global_fits space f.symbol.name spaced n) (mark_shut tight 40 tt open_paren))

declaration_fits : (f : Function) → FunctionPrintable f → Fits false (declaration f)
unfolding has
declaration_fits f p = then (keyword tight (codes "declare") tt refl) (behind_shut (signature_shut f p.name) (then (types_fit f.params) (marked tight 41 tt close_paren)))

each_item : (is : List Item) → Each (λ item. All ArgumentPrintable (operands item)) is → Each ItemPrintable is
each_item [] h = tt
each_item (i ∷ is) h = (recursion_from_All ArgumentPrintable (operands i) h.0, each_item is h.1)

all_items : (is : List Item) → All (λ item. All ArgumentPrintable (operands item)) is → Each ItemPrintable is
all_items is h = each_item is (recursion_from_All (λ item. All ArgumentPrintable (operands item)) is h)

definition_fits : (f : Function) → FunctionPrintable f → Fits false (definition f)
unfolding has
definition_fits f p =
    then (keyword tight (codes "define") tt refl) (then (linkage_fits f.linkage) (behind_shut (signature_shut f p.name) (then (params_fit f.params)
    (then (marked tight 41 tt close_paren) (then (attributes_fit f) (body_fits f.blocks (all_items (items f) p.operands)))))))

pub function_fits : (f : Function) → FunctionPrintable f → Fits false (function f)
function_fits f p = by_its_blocks f.blocks
  where
    by_its_blocks : (bs : List Block) → Fits false (by_blocks bs f)
    by_its_blocks [] = declaration_fits f p
    by_its_blocks (b ∷ bs) = definition_fits f p
