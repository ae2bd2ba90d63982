-- What is merged of modules that were verified can be run: under other names instructions are formed, and initialisers fit.
use Rattle.std.proofs.Common.{◌≡◌, ℕ, suc, ◌+◌, List, [], ◌∷◌, map, get_or, Option, Some, None, slice_get, sym, ap, ◌∙◌, subst, arith, refl}
use Rattle.std.specs.Prelude.{All, option_map}
use Rattle.std.proofs.lemmas.List.Elements.{All-cons, All-head, All-nil, All-tail}
use Rattle.std.proofs.lemmas.Option.{slice_get-get_or}
use Rattle.ir_tree.specs.Fits.{AllFit, AllOf, Fits, FitsScalar, InitFits, count, shapes}
use Rattle.ir_tree.specs.Formed.{InstrFormed, IsReg}
use Rattle.ir_tree.specs.Forms.{Form, Forms, int, pointer, array, structure, part}
use Rattle.ir_tree.specs.Initials.{Initial, plain, zeros, bytes, elements, members, Initials, no_initials, initial}
use Rattle.ir_tree.specs.Items.{reads, typed}
use Rattle.ir_tree.specs.Rules.{LineCasts}
use Rattle.ir_tree.specs.Wholes.{IsVerified}
use Rattle.ir_tree.specs.declared.block.Block.{Block}
use Rattle.ir_tree.specs.declared.function.Function.{Function}
use Rattle.ir_tree.specs.declared.function.Param.{Param}
use Rattle.ir_tree.specs.declared.instr.Instr.{Instr}
use Rattle.ir_tree.specs.declared.instr.Instr.TheVariants as kind
use Rattle.ir_tree.specs.declared.instr.Line.{Line}
use Rattle.ir_tree.specs.declared.module.GlobalValue.{GlobalValue}
use Rattle.ir_tree.specs.declared.module.GlobalValue.TheVariants as global
use Rattle.ir_tree.specs.declared.module.Module.{Module}
use Rattle.ir_tree.specs.declared.operand.Argument.{Argument}
use Rattle.ir_tree.specs.declared.operand.Operand.{Operand}
use Rattle.ir_tree.specs.declared.operand.Operand.TheVariants as operand
use Rattle.ir_tree.specs.declared.operand.Reg.TheVariants.{Int, Ptr}
use Rattle.ir_tree.specs.Edited.{argument_edited, with_operands}
use Rattle.ir_meaning.specs.Refine.{Naming}
use Rattle.ir_meaning.specs.Rename.{block_under, line_under, operand_under}
use Rattle.ir_meaning.specs.Runnable.{AreRunnable, IsRunnableBlock, IsRunnableFunction, IsRunnableGlobal, IsRunnableInstr}
use Rattle.ir_meaning.proofs.Verified.{runnable_globals}
use Rattle.merge_meaning.specs.Globals.{function_under, global_under, initial_under, initials_under, named_by}
use Rattle.merge_meaning.specs.Laws.{AllWhole, MergedIsRunnable}
use Rattle.merge_meaning.specs.Merged.{declaration, merged_from, merged_globals, symbol_in}
use Rattle.merge_meaning.proofs.Hosting.{hosts_every}
use Rattle.merge_meaning.proofs.Once.{merged_once}
use Rattle.merge_meaning.proofs.Prevailing.{Given, at_place, given}

-- ---- functions

args_stay : (op : Operand → Operand) (args : List Argument) → All (λ (a : Argument). IsReg a.reg) args → All (λ (a : Argument). IsReg a.reg) (map (argument_edited op) args)
args_stay op [] h = All-nil (λ (a : Argument). IsReg a.reg)
args_stay op (a ∷ more) h =
    All-cons (λ (x : Argument). IsReg x.reg) (argument_edited op a) (map (argument_edited op) more) (All-head (λ (x : Argument). IsReg x.reg) a more h)
    (args_stay op more (All-tail (λ (x : Argument). IsReg x.reg) a more h))

reads_stay : (op : Operand → Operand) (i : Instr) → All (λ (a : Argument). IsReg a.reg) (reads i) → All (λ (a : Argument). IsReg a.reg) (reads (with_operands op i))
reads_stay op (kind.Binary o flags w left right) h = args_stay op (typed (Int w) left ∷ typed (Int w) right ∷ []) h
reads_stay op (kind.Icmp p reg left right) h = args_stay op (typed reg left ∷ typed reg right ∷ []) h
reads_stay op (kind.Cast o from value to) h = args_stay op (typed from value ∷ []) h
reads_stay op (kind.Select c a b) h = args_stay op (typed (Int 1) c ∷ a ∷ b ∷ []) h
reads_stay op (kind.Freeze reg value) h = args_stay op (typed reg value ∷ []) h
reads_stay op (kind.Alloca shape align) h = h
reads_stay op (kind.Load reg address align) h = args_stay op (typed Ptr address ∷ []) h
reads_stay op (kind.Store reg value address align) h = args_stay op (typed reg value ∷ typed Ptr address ∷ []) h
reads_stay op (kind.Address inbounds shape base indices) h = args_stay op (typed Ptr base ∷ indices) h
reads_stay op (kind.Call result callee arguments) h = args_stay op (typed Ptr callee ∷ arguments) h
reads_stay op (kind.Phi reg incoming) h = h

formed_stays : (op : Operand → Operand) (i : Instr) → InstrFormed i → InstrFormed (with_operands op i)
formed_stays op (kind.Binary o flags w left right) h = h
formed_stays op (kind.Icmp p reg left right) h = h
formed_stays op (kind.Cast o from value to) h = h
formed_stays op (kind.Select c a b) h = h
formed_stays op (kind.Freeze reg value) h = h
formed_stays op (kind.Alloca shape align) h = h
formed_stays op (kind.Load reg address align) h = h
formed_stays op (kind.Store reg value address align) h = h
formed_stays op (kind.Address inbounds shape base indices) h = h
formed_stays op (kind.Call result callee arguments) h = h
formed_stays op (kind.Phi reg incoming) h = h

casts_stay : (op : Operand → Operand) (i : Instr) → LineCasts i → LineCasts (with_operands op i)
casts_stay op (kind.Binary o flags w left right) h = h
casts_stay op (kind.Icmp p reg left right) h = h
casts_stay op (kind.Cast o from value to) h = h
casts_stay op (kind.Select c a b) h = h
casts_stay op (kind.Freeze reg value) h = h
casts_stay op (kind.Alloca shape align) h = h
casts_stay op (kind.Load reg address align) h = h
casts_stay op (kind.Store reg value address align) h = h
casts_stay op (kind.Address inbounds shape base indices) h = h
casts_stay op (kind.Call result callee arguments) h = h
casts_stay op (kind.Phi reg incoming) h = h

line_runs : (t : Naming) (l : Line) → IsRunnableInstr l.instr → IsRunnableInstr (line_under t l).instr
line_runs t l h = record {
  operands = reads_stay (operand_under t) l.instr h.operands;
  formed = formed_stays (operand_under t) l.instr h.formed;
  casts = casts_stay (operand_under t) l.instr h.casts;
}

lines_run : (t : Naming) (ls : List Line) → All (λ (l : Line). IsRunnableInstr l.instr) ls → All (λ (l : Line). IsRunnableInstr l.instr) (map (line_under t) ls)
lines_run t [] h = All-nil (λ (l : Line). IsRunnableInstr l.instr)
lines_run t (l ∷ ls) h =
    All-cons (λ (x : Line). IsRunnableInstr x.instr) (line_under t l) (map (line_under t) ls) (line_runs t l (All-head (λ (x : Line). IsRunnableInstr x.instr) l ls h))
    (lines_run t ls (All-tail (λ (x : Line). IsRunnableInstr x.instr) l ls h))

blocks_run : (t : Naming) (bs : List Block) → All IsRunnableBlock bs → All IsRunnableBlock (map (block_under t) bs)
blocks_run t [] h = All-nil IsRunnableBlock
blocks_run t (b ∷ bs) h =
    All-cons IsRunnableBlock (block_under t b) (map (block_under t) bs) (lines_run t b.lines (All-head IsRunnableBlock b bs h)) (blocks_run t bs (All-tail IsRunnableBlock b bs h))

function_runs : (t : Naming) (f : Function) → IsRunnableFunction f → IsRunnableFunction (function_under t f)
function_runs t f h = record { result = h.result; params = h.params; blocks = blocks_run t f.blocks h.blocks }

-- ---- initialisers

scalar_fits : (t : Naming) (f : Form) (o : Operand) → FitsScalar f o → FitsScalar f (operand_under t o)
scalar_fits t f (operand.Local x) h = h
scalar_fits t f (operand.Number width bits) h = h
scalar_fits t f operand.Null h = h
scalar_fits t f (operand.Poison reg) h = h
scalar_fits t (int w) (operand.Symbol s offset) h = h
scalar_fits t pointer (operand.Symbol s offset) h = h
scalar_fits t (array n of) (operand.Symbol s offset) h = h
scalar_fits t (structure packed parts) (operand.Symbol s offset) h = h

count_same : (t : Naming) (vs : Initials) → count (initials_under t vs) ≡ count vs
count_same t no_initials = refl
count_same t (initial f v vs) = ap suc (count_same t vs)

shapes_same : (t : Naming) (vs : Initials) → shapes (initials_under t vs) ≡ shapes vs
shapes_same t no_initials = refl
shapes_same t (initial f v vs) = ap (λ (fs : Forms). part f fs) (shapes_same t vs)

all_of : (t : Naming) (of : Form) (vs : Initials) → AllOf of vs → AllOf of (initials_under t vs)
all_of t of no_initials h = h
all_of t of (initial f v vs) h = (h.0, all_of t of vs h.1)

mutual
  fits : (t : Naming) (f : Form) (v : Initial) → Fits f v → Fits f (initial_under t v)
  fits t f (plain o) h = scalar_fits t f o h
  fits t f zeros h = h
  fits t f (bytes text) h = h
  fits t f (elements vs) h = ((h.0.0, h.0.1 ∙ ap (λ (n : ℕ). array n h.0.0) (sym (count_same t vs)), all_of t h.0.0 vs h.0.2), all_fit t vs h.1)
  fits t f (members packed vs) h = (h.0 ∙ ap (λ (fs : Forms). structure packed fs) (sym (shapes_same t vs)), all_fit t vs h.1)

  all_fit : (t : Naming) (vs : Initials) → AllFit vs → AllFit (initials_under t vs)
  all_fit t no_initials h = h
  all_fit t (initial f v vs) h = (fits t f v h.0, all_fit t vs h.1)

pub init_fits : (t : Naming) (f : Form) (init : Option Initial) → InitFits f init → InitFits f (option_map (initial_under t) init)
init_fits t f None h = h
init_fits t f (Some v) h = fits t f v h

-- ---- global values

global_runs : (t : Naming) (g : GlobalValue) → IsRunnableGlobal g → IsRunnableGlobal (global_under t g)
global_runs t (global.Function f) h = function_runs t f h
global_runs t (global.Variable v) h = (h.0, init_fits t v.shape v.init h.1)

declaration_runs : (name : List ℕ) → IsRunnableGlobal (declaration name)
declaration_runs name = record { result = (omega arith, omega arith); params = All-nil (λ (p : Param). IsReg p.reg); blocks = All-nil IsRunnableBlock }

module _ (ms : List Module) (verified : All IsVerified ms) where
  each : (k : ℕ) (m : Module) → slice_get ms k ≡ Some m → IsVerified m
  each k m at = at_place IsVerified ms k m verified at

  all_whole : AllWhole ms
  all_whole k m at = (each k m at).whole

  of_given : (g : GlobalValue) → Given ms 0 ms g → IsRunnableGlobal g
  of_given g o =
      subst IsRunnableGlobal o.is
      (global_runs (named_by (symbol_in (0 + o.i) o.m.globals)) o.h (at_place IsRunnableGlobal o.m.globals o.place o.h (runnable_globals o.m (each o.i o.m o.number)) o.stands))

  pub runs : AreRunnable (merged_globals ms)
  runs = record {
    once = merged_once ms all_whole;
    each = λ i d l.
        hosts_every IsRunnableGlobal declaration_runs (merged_from ms 0 ms) (λ j g e. of_given g (given ms 0 ms j g e)) i
        (get_or (merged_globals ms) i d) (slice_get-get_or (merged_globals ms) i d l);
  }

pub merged_runs : MergedIsRunnable
merged_runs ms verified = runs ms verified
