-- Values that can stand in one module: definitions, and functions of the outside.
use Rattle.std.specs.Prelude.{◌≡◌, ◌⊎◌, All, List, Contains, None, codes}
use Rattle.ir_tree.specs.Formed.{Distinct}
use Rattle.ir_tree.specs.Wholes.{GlobalKnown, symbols}
use Rattle.ir_tree.specs.declared.module.GlobalValue.{GlobalValue}
use Rattle.merge_meaning.specs.Linked.{IsDefinition}
use Rattle.merge_meaning.specs.Merged.{declaration}

-- a function of the outside, declared
abbrev pub IsOutside : GlobalValue → Type 0
IsOutside g = (g ≡ declaration (codes "putchar")) ⊎ (g ≡ declaration (codes "getchar"))

-- each symbol stands there once and has no home, each one that is referred to is there, and each is defined or the outside's
pub record AreLinkable (gs : List GlobalValue) : Type 0 where
  pub once : Distinct (symbols gs)
  pub homeless : All (λ s. s.home ≡ None) (symbols gs)
  pub known : All (GlobalKnown (symbols gs)) gs
  pub each : (g : GlobalValue) → Contains gs g → IsDefinition g ⊎ IsOutside g
