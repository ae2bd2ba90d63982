-- The functions that the system gives to a program (ISO C, section 7.21.7).
use Rattle.std.specs.Prelude.{ℕ, false, List, [], ◌∷◌, Some, codes}
use Rattle.ir_tree.specs.declared.function.Linkage.TheVariants.{External}
use Rattle.ir_tree.specs.declared.function.Param.{Param}
use Rattle.ir_tree.specs.declared.module.GlobalValue.{GlobalValue}
use Rattle.ir_tree.specs.declared.module.GlobalValue.TheVariants as global
use Rattle.ir_tree.specs.declared.operand.Reg.TheVariants.{Int}
use Rattle.ir_meaning.specs.Programs.{shared}

abbrev pub host : List ℕ → List Param → GlobalValue
host name params = global.Function (record {
  symbol = shared name;
  linkage = External;
  result = Some (Int 32);
  params = params;
  noinline = false;
  optnone = false;
  blocks = [];
})

abbrev pub getchar : GlobalValue
getchar = host (codes "getchar") []

abbrev pub putchar : GlobalValue
putchar = host (codes "putchar") (record { local = 0; reg = Int 32 } ∷ [])
