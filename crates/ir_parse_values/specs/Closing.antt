-- The parts of an initialiser in the order of the text, while some aggregates are open.
use Rattle.std.specs.Prelude.{ℕ, zero, suc, ◌+◌, ◌-◌, nat_eq, if◌then◌else◌, List, [], ◌∷◌, ◌++◌, replicate, Result, Ok}
use Rattle.ir_parse_parts.specs.declared.raw.Init as raw_init
use Rattle.ir_tree.specs.Forms.{Form}
use Rattle.ir_tree.specs.Initials.{Initial, tree_of}
use Rattle.ir_tree.specs.declared.init_node.InitHead.{InitHead}
use Rattle.ir_tree.specs.declared.init_node.InitHead.TheVariants.{Plain, Zeros, Bytes, Array, Struct}
use Rattle.ir_tree.specs.declared.init_node.InitPart.{InitPart}
use Rattle.ir_tree.specs.declared.init_node.InitPart.TheVariants.{Typed, End}
use Rattle.ir_parse_names.specs.declared.fault.Fault.{Fault}
use Rattle.ir_parse_names.specs.Locals.{LocalTable}
use Rattle.ir_parse_names.specs.Resolving.{◌>>=◌, each}
use Rattle.ir_parse_names.specs.Types.{Types}
use Rattle.ir_parse_names.specs.Variables.{head_in, part_in}
use Rattle.ir_parse_values.specs.declared.collected.Collected.{Collected}

-- how many are open behind a beginning
abbrev pub begun : ℕ → InitHead → ℕ
begun n (Plain operand) = n
begun n Zeros = n
begun n (Bytes text) = n
begun n Array = n + 1
begun n (Struct packed) = n + 1

abbrev pub depth_behind : ℕ → InitPart → ℕ
depth_behind n (Typed f head) = begun n head
depth_behind n End = n - 1

-- the parts up to the end of the outermost that is open, each of which is closed
abbrev pub closed : ℕ → List InitPart → List InitPart
closed n [] = replicate n End
closed zero (p ∷ ps) = []
closed (suc n) (p ∷ ps) = p ∷ closed (depth_behind (suc n) p) ps

-- one more part
abbrev pub pushed : Collected → InitPart → Collected
pushed c p = if nat_eq c.depth 0 then c else record { parts = c.parts ++ p ∷ []; depth = depth_behind c.depth p }

-- all parts where these are left
abbrev pub finished : Collected → List InitPart → List InitPart
finished c ps = c.parts ++ closed c.depth ps

-- the tree of a beginning and the parts behind it
abbrev pub tree_in : InitHead → Result (List InitPart) Fault → Result Initial Fault
tree_in root r = r >>= λ parts. Ok (tree_of (root, parts))

-- the tree of an initialiser for this shape with these locals known
abbrev pub initial_in : Types → LocalTable → Form → raw_init.Init → Result Initial Fault
initial_in types locals f i = head_in types locals f i.root >>= λ root. tree_in root (each (part_in types locals) i.parts)
