-- The shape that a chain of type names leads to, and how many names it goes on by, found once for each definition.
use Rattle.std.specs.Prelude.{◌≡◌, ℕ, suc, ◌≤◌, List, [], ◌∷◌, length, Option, None, Some, Ok}
use Rattle.ir_lex.specs.Tok.{Tok}
use Rattle.ir_parse_parts.specs.Shapes.{named}
use Rattle.ir_parse_names.specs.declared.heads.Chain.{Chain}
use Rattle.ir_parse_names.specs.Types.{Types, shape_at, head_from, chased}

-- the chain from the definition at this place
abbrev pub IsChain : Types → ℕ → Chain → Type 0
IsChain types p c = (chased c.names types 0 (shape_at types p) ≡ Ok c.head.now) × (c.names ≤ length types)

-- the chain from this name
abbrev pub IsChainFrom : Types → Tok → Chain → Type 0
IsChainFrom types name c = (head_from c.names types (named name) ≡ Ok c.head.now) × (c.names ≤ length types)

abbrev pub IsHead : Types → ℕ → Option Chain → Type 0
IsHead types p None = Unit {0}
IsHead types p (Some c) = IsChain types p c

-- those of the definitions from this place on
abbrev pub AreHeads : Types → ℕ → List (Option Chain) → Type 0
AreHeads types p [] = Unit {0}
AreHeads types p (c ∷ cs) = IsHead types p c × AreHeads types (suc p) cs
