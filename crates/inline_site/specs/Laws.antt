-- What inlining keeps: the function is better in every program whose body of the callee is the one that is inlined, and sound.
use Rattle.std.specs.Prelude.{◌≡◌, ◌≢◌, ℕ, List, [], All, Option, Some, None}
use Rattle.ir_tree.specs.Items.{items}
use Rattle.ir_tree.specs.Rules.{Sound}
use Rattle.ir_tree.specs.Wholes.{ItemKnown}
use Rattle.ir_tree.specs.declared.function.Function.{Function}
use Rattle.ir_tree.specs.declared.operand.Symbol.{Symbol}
use Rattle.ir_meaning.specs.Frame.{AFunction}
use Rattle.ir_meaning.specs.Near.{BetterThan}
use Rattle.ir_meaning.specs.Program.{Program}
use Rattle.ir_meaning.specs.Formed.{IsFormed}
use Rattle.inline_site.specs.Inlined.{IsInlined}
use Rattle.ir_tree.specs.Types.{param_types}

-- the program's function of the callee's name is the callee, and of its type
pub record IsOwn (p : Program) (callee : Function) : Type 0 where
  pub body : p.code callee.symbol ≡ Some callee
  pub kind : p.signature.kind callee.symbol ≡ AFunction (param_types callee.params) callee.result

-- in every such program
abbrev pub IsBetter : Function → Function → Function → Type 0
IsBetter g f callee = (p : Program) → IsFormed p → IsOwn p callee → BetterThan p 1 g f

-- where something is given
abbrev pub IsBetterIfGiven : Option Function → Function → Function → Type 0
IsBetterIfGiven None f callee = Unit {0}
IsBetterIfGiven (Some g) f callee = IsBetter g f callee

-- ---- the laws

-- a sound function with a sound callee's body in the place of a call is better in each of these programs
abbrev pub InlinedIsBetter : Type 0
InlinedIsBetter = (f callee g : Function) (place : ℕ) → IsInlined f place callee (Some g) → Sound f → Sound callee → IsBetter g f callee

-- and sound
abbrev pub InlinedIsSound : Type 0
InlinedIsSound = (f callee g : Function) (place : ℕ) → IsInlined f place callee (Some g) → Sound f → Sound callee → Sound g

-- and it uses no other symbols than these two do
abbrev pub InlinedIsKnown : Type 0
InlinedIsKnown =
    (f callee g : Function) (place : ℕ) (known : List Symbol) → IsInlined f place callee (Some g) → Sound f → Sound callee
    → All (ItemKnown known) (items f) → All (ItemKnown known) (items callee) → All (ItemKnown known) (items g)

-- no two functions are what inlining at a place gives
abbrev pub InlinedIsOne : Type 0
InlinedIsOne = (f callee g h : Function) (place : ℕ) → IsInlined f place callee (Some g) → IsInlined f place callee (Some h) → g ≡ h

-- both have blocks, and all else is the same
pub record IsSameButBlocks (f g : Function) : Type 0 where
  pub symbol : g.symbol ≡ f.symbol
  pub linkage : g.linkage ≡ f.linkage
  pub result : g.result ≡ f.result
  pub params : g.params ≡ f.params
  pub noinline : g.noinline ≡ f.noinline
  pub optnone : g.optnone ≡ f.optnone
  pub old : f.blocks ≢ []
  pub new : g.blocks ≢ []

abbrev pub InlinedKeepsInterface : Type 0
InlinedKeepsInterface = (f callee g : Function) (place : ℕ) → IsInlined f place callee (Some g) → IsSameButBlocks f g
