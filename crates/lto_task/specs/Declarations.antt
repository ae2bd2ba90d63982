-- Declarations of values that stand in other modules (LangRef, "Functions", "Global Variables").
use Rattle.std.specs.Prelude.{ℕ, ◌+◌, false, List, [], ◌∷◌, None}
use Rattle.ir_tree.specs.Wholes.{GlobalFormed, GlobalSound}
use Rattle.ir_tree.specs.declared.function.Linkage.TheVariants.{External}
use Rattle.ir_tree.specs.declared.function.Param.{Param}
use Rattle.ir_tree.specs.declared.module.GlobalValue.{GlobalValue}
use Rattle.ir_tree.specs.declared.module.GlobalValue.TheVariants as global

-- parameters of these types, numbered from here on
abbrev pub numbered_from : ℕ → List Param → List Param
numbered_from n [] = []
numbered_from n (p ∷ ps) = record { local = n; reg = p.reg } ∷ numbered_from (n + 1) ps

-- the symbol and its types: a declaration has no linkage of its own, no attributes, and neither a body nor an initialiser
abbrev pub declaration_of : GlobalValue → GlobalValue
declaration_of (global.Variable v) = global.Variable (record v { linkage = External; init = None })
declaration_of (global.Function f) = global.Function (record f { linkage = External; params = numbered_from 0 f.params; noinline = false; optnone = false; blocks = [] })

-- of a formed value it is formed, and sound
abbrev pub DeclarationsAreSound : Type 0
DeclarationsAreSound = (g : GlobalValue) → GlobalFormed g → GlobalFormed (declaration_of g) × GlobalSound (declaration_of g)
