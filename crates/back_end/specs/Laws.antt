-- What is true of all that the back end makes.
use Rattle.std.specs.Prelude.{◌≡◌, ℕ, false, List, All, map, Option, Some}
use Rattle.ir_tree.specs.Items.{items}
use Rattle.ir_tree.specs.Rules.{Sound}
use Rattle.ir_tree.specs.Wholes.{ItemKnown}
use Rattle.ir_tree.specs.declared.function.Function.{Function}
use Rattle.ir_tree.specs.declared.operand.Symbol.{Symbol}
use Rattle.ir_edit.specs.Numbered.{in_text_order}
use Rattle.back_end.specs.Inlinable.{AreSound, has_blocks}
use Rattle.back_end.specs.Made.{IsBetterEverywhere, IsMade, IsTurn}
use Rattle.back_end.specs.WalkLaws.{IsBetterWith}

-- it keeps what others see of a function: its symbol, its linkage, its types, its attributes, and whether it has blocks
pub record HasInterfaceOf (f g : Function) : Type 0 where
  pub symbol : g.symbol ≡ f.symbol
  pub linkage : g.linkage ≡ f.linkage
  pub result : g.result ≡ f.result
  pub params : map (λ p. p.reg) g.params ≡ map (λ p. p.reg) f.params
  pub noinline : g.noinline ≡ f.noinline
  pub optnone : g.optnone ≡ f.optnone
  pub blocks : has_blocks g.blocks ≡ has_blocks f.blocks

abbrev pub MadeHasInterface : Type 0
MadeHasInterface = (bodies : List ℕ → Option Function) (f g : Function) → IsMade bodies f g → HasInterfaceOf f g

-- what one turn makes of a sound function is sound, and better in every program
abbrev pub TurnIsBetter : Type 0
TurnIsBetter = (f g : Function) → Sound f → IsTurn f g → Sound g × IsBetterEverywhere g f

-- what is made of a sound function with sound bodies is better in every program whose own the bodies are
abbrev pub MadeIsBetter : Type 0
MadeIsBetter = (bodies : List ℕ → Option Function) (f g : Function) → Sound f → AreSound bodies → IsMade bodies f g → IsBetterWith bodies g f

-- and sound
abbrev pub MadeIsSound : Type 0
MadeIsSound = (bodies : List ℕ → Option Function) (f g : Function) → Sound f → AreSound bodies → IsMade bodies f g → Sound g

-- and, unless it is left alone, it is a sound function numbered in the order of its text
abbrev pub MadeIsInOrder : Type 0
MadeIsInOrder =
    (bodies : List ℕ → Option Function) (f g : Function) → Sound f → AreSound bodies → f.optnone ≡ false → IsMade bodies f g
    → (h : Function) × Sound h × (g ≡ in_text_order h)

-- no two functions are made of a sound one with sound bodies
abbrev pub MadeIsOne : Type 0
MadeIsOne = (bodies : List ℕ → Option Function) (f g h : Function) → Sound f → AreSound bodies → IsMade bodies f g → IsMade bodies f h → g ≡ h

-- they use no other symbols than these
abbrev pub AreKnown : List Symbol → (List ℕ → Option Function) → Type 0
AreKnown known bodies = (name : List ℕ) (c : Function) → bodies name ≡ Some c → All (ItemKnown known) (items c)

-- what is made of a sound function with sound bodies uses no other symbols than the function and the bodies do
abbrev pub MadeIsKnown : Type 0
MadeIsKnown =
    (bodies : List ℕ → Option Function) (f g : Function) (known : List Symbol) → Sound f → AreSound bodies → IsMade bodies f g
    → AreKnown known bodies → All (ItemKnown known) (items f) → All (ItemKnown known) (items g)
