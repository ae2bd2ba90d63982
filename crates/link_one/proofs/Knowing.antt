-- What is compiled is sound and formed, refers to what the parts refer to, and defines what they define.
use Rattle.std.proofs.Common.{◌≡◌, ◌≢◌, ℕ, Bool, true, false, if◌then◌else◌, List, [], ◌∷◌, All, Option, None, refl, sym, subst}
use Rattle.std.specs.List.{AllZip}
use Rattle.ir_tree.specs.Fits.{FitsShape}
use Rattle.ir_tree.specs.Linkages.{defines}
use Rattle.ir_tree.specs.Wholes.{GlobalFormed, GlobalKnown, GlobalSound, VariableFormed}
use Rattle.ir_tree.specs.declared.block.Block.{Block}
use Rattle.ir_tree.specs.declared.function.Function.{Function}
use Rattle.ir_tree.specs.declared.function.Linkage.{Linkage}
use Rattle.ir_tree.specs.declared.function.Variable.{Variable}
use Rattle.ir_tree.specs.declared.module.GlobalValue.{GlobalValue}
use Rattle.ir_tree.specs.declared.module.GlobalValue.TheVariants as global
use Rattle.ir_tree.specs.declared.operand.Symbol.{Symbol}
use Rattle.ir_meaning.specs.Programs.{body_of}
use Rattle.merge_meaning.specs.Linked.{IsDefinition}
use Rattle.back_end.specs.Inlinable.{AreSound, has_blocks}
use Rattle.back_end.specs.Laws.{AreKnown, HasInterfaceOf, MadeHasInterface, MadeIsKnown, MadeIsSound}
use Rattle.back_end.specs.Made.{IsMade}
use Rattle.importer.proofs.Members.{Stands, all_of, of_each, zip_back}
use Rattle.link_one.specs.Linked.{IsLinkedGlobal}
use Rattle.link_one.proofs.Bettering.{among_sound}
use Rattle.link_one.proofs.Compiling.{AreAmong}

-- ---- definitions

some_body : (f g : Function) (linkage : Linkage) (bs cs : List Block) → has_blocks cs ≡ has_blocks bs
    → body_of (if defines linkage then bs else []) f ≢ None → body_of (if defines linkage then cs else []) g ≢ None
some_body f g linkage bs cs same some = by (defines linkage) bs cs same some
  where
    by : (b : Bool) (bs cs : List Block) → has_blocks cs ≡ has_blocks bs → body_of (if b then bs else []) f ≢ None → body_of (if b then cs else []) g ≢ None
    by false bs cs e some none = some refl
    by true [] cs e some none = some refl
    by true (b ∷ bs) [] e some none = let no : false ≡ true = e in cc no
    by true (b ∷ bs) (c ∷ cs) e some none = cc none

defines_too : (f g : Function) → HasInterfaceOf f g → IsDefinition (global.Function f) → IsDefinition (global.Function g)
defines_too f g i some =
    subst (λ (l : Linkage). body_of (if defines l then g.blocks else []) g ≢ None) (sym i.linkage) (some_body f g f.linkage f.blocks g.blocks i.blocks some)

-- ---- one value and what is compiled of it

-- what holds of the second where it holds of the first
pub record Follows (known : List Symbol) (g h : GlobalValue) : Type 0 where
  pub sound : GlobalSound h
  pub formed : GlobalFormed g → GlobalFormed h
  pub knows : GlobalKnown known h
  pub definition : IsDefinition g → IsDefinition h

module _ (interface : MadeHasInterface) (sounds : MadeIsSound) (knows : MadeIsKnown) (limit : ℕ) (all : List GlobalValue) (known : List Symbol) (sound : All GlobalSound all) (all_known : All (GlobalKnown known) all) where
  among_known : (bodies : List ℕ → Option Function) → AreAmong limit all bodies → AreKnown known bodies
  among_known bodies among name c e = of_each (GlobalKnown known) all (global.Function c) all_known (among name c e).0

  function_follows : (bodies : List ℕ → Option Function) → AreAmong limit all bodies → (f g : Function) → Stands all (global.Function f) → IsMade bodies f g → Follows known (global.Function f) (global.Function g)
  function_follows bodies among f g s made =
      let own : AreSound bodies = among_sound limit all bodies sound among in
      let was : GlobalSound (global.Function f) = of_each GlobalSound all (global.Function f) sound s in
      let is : GlobalSound (global.Function g) = sounds bodies f g was own made in
      record {
        sound = is;
        formed = λ _. is.formed;
        knows = knows bodies f g known was own made (among_known bodies among) (of_each (GlobalKnown known) all (global.Function f) all_known s);
        definition = defines_too f g (interface bodies f g made);
      }

  variable_follows : (v w : Variable) → Stands all (global.Variable v) → w ≡ v → Follows known (global.Variable v) (global.Variable w)
  variable_follows v w s same = record {
    sound = subst FitsShape (sym same) (of_each GlobalSound all (global.Variable v) sound s);
    formed = λ f. subst VariableFormed (sym same) f;
    knows = subst (λ (u : Variable). GlobalKnown known (global.Variable u)) (sym same) (of_each (GlobalKnown known) all (global.Variable v) all_known s);
    definition = λ d. subst (λ (u : Variable). IsDefinition (global.Variable u)) (sym same) d;
  }

  pub value_follows : (bodies : List ℕ → Option Function) → AreAmong limit all bodies → (g h : GlobalValue) → Stands all g → IsLinkedGlobal bodies g h → Follows known g h
  value_follows bodies among (global.Function f) (global.Function g) s made = function_follows bodies among f g s made
  value_follows bodies among (global.Variable v) (global.Variable w) s same = variable_follows v w s same
  value_follows bodies among (global.Function f) (global.Variable w) s made = absurd made
  value_follows bodies among (global.Variable v) (global.Function g) s made = absurd made

-- ---- all of them

pub all_follow : (known : List Symbol) (P Q : GlobalValue → Type 0) → ((g h : GlobalValue) → Follows known g h → P g → Q h) → (gs hs : List GlobalValue) → AllZip (Follows known) gs hs → All P gs → All Q hs
all_follow known P Q step gs hs z all =
    all_of Q hs
    (λ h s.
    let from = zip_back (Follows known) gs hs h z s in
    step from.0 h from.2 (of_each P gs from.0 all from.1))
