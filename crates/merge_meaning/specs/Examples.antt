-- Two modules, merged and linked: a local of one name in each, a weak definition of one name in each, references from one to
-- the other, and a variable that holds a pointer to a local.
use Rattle.std.specs.Prelude.{◌≡◌, ℕ, Bool, true, false, if◌then◌else◌, List, [], ◌∷◌, codes, Some}
use Rattle.ir_tree.specs.Forms.{pointer}
use Rattle.ir_tree.specs.Initials.{plain}
use Rattle.ir_tree.specs.declared.function.Function.{Function}
use Rattle.ir_tree.specs.declared.function.Linkage.{Linkage}
use Rattle.ir_tree.specs.declared.function.Linkage.TheVariants.{AvailableExternally, External, Internal, Weak}
use Rattle.ir_tree.specs.declared.instr.BinaryOp.TheVariants.{Add}
use Rattle.ir_tree.specs.declared.instr.Instr.{Instr}
use Rattle.ir_tree.specs.declared.instr.Instr.TheVariants.{Binary, Call, Load}
use Rattle.ir_tree.specs.declared.module.GlobalValue.{GlobalValue}
use Rattle.ir_tree.specs.declared.module.GlobalValue.TheVariants as global
use Rattle.ir_tree.specs.declared.module.Module.{Module}
use Rattle.ir_tree.specs.declared.operand.Operand.{Operand}
use Rattle.ir_tree.specs.declared.operand.Operand.TheVariants.{Local, Symbol as Named}
use Rattle.ir_tree.specs.declared.operand.Reg.TheVariants.{Ptr}
use Rattle.ir_tree.specs.declared.operand.Symbol.{Symbol}
use Rattle.ir_meaning.specs.ExampleRuns.{calls, const, defines, i32, no_flags, ran_from, returns, sets, straight}
use Rattle.ir_meaning.specs.Program.{Program}
use Rattle.ir_meaning.specs.Run.{Ending, Returned, start}
use Rattle.ir_tree.specs.Symbols.{symbol_eq}
use Rattle.ir_meaning.specs.declared.value.Value.TheVariants.{Number}
use Rattle.ir_meaning.specs.Programs.{program_of, shared}
use Rattle.merge_meaning.specs.Linked.{emission}
use Rattle.merge_meaning.specs.Merged.{local_to, merged, merged_globals}

abbrev pub plus : Operand → Operand → Instr
plus l r = Binary Add no_flags 32 l r

abbrev pub with : Linkage → Function → GlobalValue
with linkage f = global.Function (record f { linkage = linkage })

abbrev pub declared : List ℕ → GlobalValue
declared name = global.Function (defines (shared name) [] (Some i32) [])

abbrev pub module_of : List GlobalValue → Module
module_of gs = record { datalayout = []; triple = []; globals = gs }

abbrev pub calls_through : Operand → Instr
calls_through o = Call (Some i32) o []

-- the first: @h gives 1, a weak @w gives 10, @p points to @h; @main adds what it gets through @p, and of @g and @w
abbrev pub first_module : Module
first_module = module_of (
    with Internal (straight (shared (codes "h")) [] (returns (const 1)))
    ∷ with Weak (straight (shared (codes "w")) [] (returns (const 10)))
    ∷ global.Variable (record {
      symbol = shared (codes "p");
      linkage = Internal;
      constant = false;
      shape = pointer;
      init = Some (plain (Named (shared (codes "h")) 0));
      align = 8;
    })
    ∷ declared (codes "g")
    ∷ with External (straight (shared (codes "main"))
    (sets 1 (Load Ptr (Named (shared (codes "p")) 0) 8)
    ∷ sets 2 (calls_through (Local 1))
    ∷ sets 3 (calls (shared (codes "g")) [])
    ∷ sets 4 (calls (shared (codes "w")) [])
    ∷ sets 5 (plus (Local 2) (Local 3))
    ∷ sets 6 (plus (Local 5) (Local 4))
    ∷ []) (returns (Local 6)))
    ∷ [])

-- the second: its own @h gives 2, its @w doesn't prevail, a copy of @main is no definition; @g adds @h and @w
abbrev pub second_module : Module
second_module = module_of (
    with Internal (straight (shared (codes "h")) [] (returns (const 2)))
    ∷ with Weak (straight (shared (codes "w")) [] (returns (const 20)))
    ∷ with AvailableExternally (straight (shared (codes "main")) [] (returns (const 99)))
    ∷ with External (straight (shared (codes "g"))
    (sets 1 (calls (shared (codes "h")) []) ∷ sets 2 (calls (shared (codes "w")) []) ∷ sets 3 (plus (Local 1) (Local 2)) ∷ []) (returns (Local 3)))
    ∷ [])

abbrev pub modules : List Module
modules = first_module ∷ second_module ∷ []

-- how the run of @main ends, of at most so many steps
abbrev pub main_ends : Program → ℕ → Ending
main_ends p most = (ran_from p [] most (start p (shared (codes "main")) [])).ending

-- all of it is live; the locals get other names
abbrev pub all_live : Symbol → Bool
all_live s = true

abbrev pub final_names : Symbol → Symbol
final_names s =
    if symbol_eq s (local_to 0 (codes "h")) then shared (codes "h.0")
    else (if symbol_eq s (local_to 1 (codes "h")) then shared (codes "h.1")
    else (if symbol_eq s (local_to 0 (codes "p")) then shared (codes "p.0") else s))

-- 1 + (2 + 10) + 10, merged and linked
pub record MergedExample : Type 0 where
  pub merged_runs : main_ends (merged modules) 30 ≡ Returned (Some (Number 23))
  pub linked_runs : main_ends (program_of (emission all_live final_names (merged_globals modules))) 30 ≡ Returned (Some (Number 23))
  -- in the other order the other weak definition prevails: 1 + (2 + 20) + 20
  pub turned_round : main_ends (merged (second_module ∷ first_module ∷ [])) 30 ≡ Returned (Some (Number 43))
