-- The first rule that an item breaks, and the first fault of several.
use Rattle.std.specs.Prelude.{◌≡◌, ℕ, ◌<◌, ◌⊎◌, List, Option, Some, None}
use Rattle.ir_tree.specs.declared.function.Function.{Function}
use Rattle.ir_tree.specs.declared.rule.Rule.{Rule}
use Rattle.ir_tree.specs.declared.rule.Rule.TheVariants.{TypeMismatch, NotAvailable, PhiEdges, PhiPlace, EntryBranch, Index, Cast, CaseTwice}
use Rattle.ir_tree.specs.Items.{Item}
use Rattle.ir_tree.specs.Rules.{Keeps, OnEdges}
use Rattle.ir_tree.specs.declared.instr.Incoming.{Incoming}

-- the rules' numbers
abbrev pub number : Rule → ℕ
number TypeMismatch = 1
number NotAvailable = 2
number PhiEdges = 3
number PhiPlace = 4
number EntryBranch = 5
number Index = 6
number Cast = 7
number CaseTwice = 8

-- no rule is broken, or this one and none before it
abbrev pub FirstBroken : Function → Item → Option Rule → Type 0
FirstBroken f item None = (rule : Rule) → Keeps f rule item
FirstBroken f item (Some rule) = (Keeps f rule item → ⊥) × ((other : Rule) → number other < number rule → Keeps f other item)

-- of a phi behind another instruction: its entries are wrong, or else its place is
abbrev pub LatePhi : Function → ℕ → List Incoming → Rule → Type 0
LatePhi f b es rule = ((rule ≡ PhiEdges) × (OnEdges f b es → ⊥)) ⊎ ((rule ≡ PhiPlace) × OnEdges f b es)
