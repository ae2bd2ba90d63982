-- What resolution gives of the modules of a link.
use Rattle.std.specs.Prelude.{◌≡◌, ℕ, not, List, [], ◌∷◌, map, filter, Option, None, Result, Ok, Err, if◌then◌else◌}
use Rattle.std.specs.Str.{bytes_eq}
use Rattle.ir_tree.specs.Once.{once}
use Rattle.ir_tree.specs.declared.module.Module.{Module}
use Rattle.symbol_resolve.specs.Clashes.{Clashes, NoClash}
use Rattle.symbol_resolve.specs.Mentions.{mentions, names_of}
use Rattle.symbol_resolve.specs.Prevailing.{prevailing}
use Rattle.ir_tree.specs.declared.failure.Failure.{Failure}
use Rattle.symbol_resolve.specs.declared.clash.Clash.{Clash}
use Rattle.ir_tree.specs.declared.failure.Failure.TheVariants as error

-- a name with the module whose definition of it prevails
abbrev pub Symbols : Type 0
Symbols = List (List ℕ × Option ℕ)

-- the names that a module declares or defines for others, as they come first, each with the module whose definition prevails
abbrev pub symbols : List Module → Symbols
symbols ms = map (λ name. (name, prevailing (mentions ms) name)) (once (names_of (mentions ms)))

-- the module whose definition of a name prevails, by this table
abbrev pub module_of : Symbols → List ℕ → Option ℕ
module_of [] name = None
module_of (s ∷ ss) name = if bytes_eq name s.0 then s.1 else module_of ss name

-- what a call gives that may lack memory
abbrev pub Resolves : List Module → Result Symbols (Failure Clash) → Type 0
Resolves ms (Ok table) = NoClash ms × (table ≡ symbols ms)
Resolves ms (Err (error.Fault clash)) = Clashes ms clash
Resolves ms (Err error.NoMemory) = Unit {0}
