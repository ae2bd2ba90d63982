-- Modules within the limits of the grammar: names that can be written, so many globals, parameters, blocks and instructions,
-- counts and offsets below 2^64, and phis with an entry at least (LangRef, "Identifiers", "phi Instruction").
use Rattle.std.specs.Prelude.{suc, ◌≤◌, ◌<◌, ◌^◌, List, [], ◌∷◌, length, All}
use Rattle.std.specs.List.{AllByRecursion as Each}
use Rattle.ir_parse_bodies.specs.Blocks.{FURTHER_BLOCKS, INSTRUCTIONS}
use Rattle.ir_parse.specs.Modules.{FURTHER_PARAMETERS, GLOBAL_NAMES}
use Rattle.ir_tree.specs.Items.{Item, phi_item, line_item, end_item, items, operands}
use Rattle.ir_tree.specs.Wholes.{init_operands, symbols}
use Rattle.ir_tree.specs.declared.function.Function.{Function}
use Rattle.ir_tree.specs.declared.function.Variable.{Variable}
use Rattle.ir_tree.specs.declared.instr.Incoming.{Incoming}
use Rattle.ir_tree.specs.declared.instr.Instr.{Instr}
use Rattle.ir_tree.specs.declared.instr.Instr.TheVariants as kind
use Rattle.ir_tree.specs.declared.module.GlobalValue.{GlobalValue}
use Rattle.ir_tree.specs.declared.module.GlobalValue.TheVariants as globals
use Rattle.ir_tree.specs.declared.module.Module.{Module}
use Rattle.ir_tree.specs.declared.operand.Operand.{Operand}
use Rattle.ir_tree.specs.declared.operand.Operand.TheVariants.{Symbol as symbol_at}
use Rattle.ir_tree.specs.declared.operand.Symbol.{Symbol}
use Rattle.ir_round_trip.specs.Bodies.{instructions}
use Rattle.ir_round_trip.specs.ModulesReadable.{LayoutReadable}
use Rattle.ir_round_trip.specs.PartsReadable.{CountsReadable}
use Rattle.ir_round_trip.specs.Tokens.{IsWritable}

-- ---- items

abbrev pub OffsetFits : Operand → Type 0
OffsetFits (symbol_at symbol offset) = offset < 2 ^ 64
OffsetFits x = Unit {0}

abbrev pub HasEntry : List Incoming → Type 0
HasEntry [] = ⊥
HasEntry (e ∷ es) = Unit {0}

abbrev pub InstrWithin : Instr → Type 0
InstrWithin (kind.Alloca shape align) = CountsReadable shape
InstrWithin (kind.Address inbounds shape base indices) = CountsReadable shape
InstrWithin (kind.Phi reg edges) = HasEntry edges
InstrWithin i = Unit {0}

abbrev pub KindWithin : Item → Type 0
KindWithin (phi_item b phi) = HasEntry phi.incoming
KindWithin (line_item b k l) = InstrWithin l.instr
KindWithin (end_item b t) = Unit {0}

pub record ItemWithin (item : Item) : Type 0 where
  pub offsets : All (λ a. OffsetFits a.operand) (operands item)
  pub kind : KindWithin item

-- ---- globals

pub record FunctionWithin (f : Function) : Type 0 where
  pub few_parameters : length f.params ≤ suc FURTHER_PARAMETERS
  pub few_blocks : length f.blocks ≤ suc FURTHER_BLOCKS
  pub few_instructions : instructions f.blocks ≤ INSTRUCTIONS
  pub items : All ItemWithin (items f)

pub record VariableWithin (v : Variable) : Type 0 where
  pub counts : CountsReadable v.shape
  pub offsets : All OffsetFits (init_operands v.init)

abbrev pub ValueWithin : GlobalValue → Type 0
ValueWithin (globals.Variable v) = VariableWithin v
ValueWithin (globals.Function f) = FunctionWithin f

abbrev pub NameWithin : Symbol → Type 0
NameWithin s = IsWritable s.name

pub record ModuleWithin (m : Module) : Type 0 where
  pub layout : LayoutReadable m.datalayout
  pub names : Each NameWithin (symbols m.globals)
  pub values : Each ValueWithin m.globals
  pub few : length m.globals ≤ GLOBAL_NAMES
