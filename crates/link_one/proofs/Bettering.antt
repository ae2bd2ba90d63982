-- What is compiled may stand in the place of what was read, in the program of all parts.
use Rattle.std.proofs.Common.{◌≡◌, ◌∙◌, ◌+◌, ◌≤◌, ℕ, Bool, true, false, if◌then◌else◌, List, [], ◌∷◌, map, All, Option, refl, ap, sym, arith}
use Rattle.std.specs.List.{AllZip}
use Rattle.ir_tree.specs.Formed.{Distinct}
use Rattle.ir_tree.specs.Linkages.{defines}
use Rattle.ir_tree.specs.Wholes.{GlobalSound, global_symbol, symbols}
use Rattle.ir_tree.specs.declared.block.Block.{Block}
use Rattle.ir_tree.specs.declared.function.Function.{Function}
use Rattle.ir_tree.specs.declared.function.Linkage.{Linkage}
use Rattle.ir_tree.specs.declared.function.Param.{Param}
use Rattle.ir_tree.specs.declared.function.Variable.{Variable}
use Rattle.ir_tree.specs.declared.module.GlobalValue.{GlobalValue}
use Rattle.ir_tree.specs.declared.module.GlobalValue.TheVariants as global
use Rattle.ir_tree.specs.declared.operand.Reg.{Reg}
use Rattle.ir_meaning.specs.Program.{Program}
use Rattle.ir_meaning.specs.Programs.{program_of, regs_of}
use Rattle.ir_meaning.proofs.Alike.Itself.{same_better}
use Rattle.ir_meaning.proofs.Between.LargerBounds.{wider}
use Rattle.ir_meaning.proofs.Numbered.{programs_formed}
use Rattle.merge_meaning.specs.Linked.{Improves, has_body}
use Rattle.back_end.specs.Inlinable.{AreSound, HasBodies, has_blocks}
use Rattle.back_end.specs.Laws.{HasInterfaceOf, MadeHasInterface, MadeIsBetter}
use Rattle.back_end.specs.Made.{IsMade}
use Rattle.back_end.specs.WalkLaws.{IsBetterWith}
use Rattle.importer.proofs.Members.{Stands, of_each}
use Rattle.link_one.specs.Linked.{IsLinkedGlobal}
use Rattle.link_one.proofs.Compiling.{AreAmong}
use Rattle.link_one.proofs.Own.{own_body}

-- ---- bodies

pub among_sound : (limit : ℕ) (all : List GlobalValue) (bodies : List ℕ → Option Function) → All GlobalSound all → AreAmong limit all bodies → AreSound bodies
among_sound limit all bodies sound among name c e = of_each GlobalSound all (global.Function c) sound (among name c e).0

own_bodies : (limit : ℕ) (all gs : List GlobalValue) (bodies : List ℕ → Option Function) → Distinct (symbols gs) → ((g : GlobalValue) → Stands all g → Stands gs g) → AreAmong limit all bodies
    → HasBodies (program_of gs) bodies
own_bodies limit all gs bodies once within among name c e =
    let a = among name c e in
    let s = within (global.Function c) a.0 in
    own_body limit gs s.0 c once s.1 a.1

-- ---- one function

same_regs : (ps qs : List Param) → map (λ p. p.reg) qs ≡ map (λ p. p.reg) ps → regs_of qs ≡ regs_of ps
same_regs ps qs e = mapped qs ∙ e ∙ sym (mapped ps)
  where
    mapped : (ps : List Param) → regs_of ps ≡ map (λ p. p.reg) ps
    mapped [] = refl
    mapped (p ∷ ps) = ap (λ (l : List Reg). p.reg ∷ l) (mapped ps)

has : (bs : List Block) → has_body bs ≡ has_blocks bs
has [] = refl
has (b ∷ bs) = refl

same_body : (linkage : Linkage) (bs cs : List Block) → has_blocks cs ≡ has_blocks bs
    → has_body (if defines linkage then cs else []) ≡ has_body (if defines linkage then bs else [])
same_body linkage bs cs e = by (defines linkage)
  where
    by : (b : Bool) → has_body (if b then cs else []) ≡ has_body (if b then bs else [])
    by true = has cs ∙ e ∙ sym (has bs)
    by false = refl

-- better within some bound
abbrev pub CanImprove : Program → GlobalValue → GlobalValue → Type 0
CanImprove p g h = (bound : ℕ) × Improves p bound g h

module _ (interface : MadeHasInterface) (makes_better : MadeIsBetter) (limit : ℕ) (all gs : List GlobalValue) (once : Distinct (symbols gs)) (within : (g : GlobalValue) → Stands all g → Stands gs g) (sound : All GlobalSound all) where
  one_function : (bodies : List ℕ → Option Function) → AreAmong limit all bodies → (f g : Function) → Stands all (global.Function f) → IsMade bodies f g → CanImprove (program_of gs) (global.Function f) (global.Function g)
  one_function bodies among f g s made =
      let i : HasInterfaceOf f g = interface bodies f g made in
      let b : IsBetterWith bodies g f = makes_better bodies f g (of_each GlobalSound all (global.Function f) sound s) (among_sound limit all bodies sound among) made in (
        b.bound,
        record {
          symbol = i.symbol;
          result = i.result;
          params = same_regs f.params g.params i.params;
          body = ap (λ (l : Linkage). has_body (if defines l then g.blocks else [])) i.linkage ∙ same_body f.linkage f.blocks g.blocks i.blocks;
          better = b.better (program_of gs) (programs_formed gs) (own_bodies limit all gs bodies once within among);
        },
      )

  pub one_value : (bodies : List ℕ → Option Function) → AreAmong limit all bodies → (g h : GlobalValue) → Stands all g → IsLinkedGlobal bodies g h → CanImprove (program_of gs) g h
  one_value bodies among (global.Function f) (global.Function g) s made = one_function bodies among f g s made
  one_value bodies among (global.Variable v) (global.Variable w) s same = (0, same)
  one_value bodies among (global.Function f) (global.Variable w) s made = absurd made
  one_value bodies among (global.Variable v) (global.Function g) s made = absurd made

-- ---- one bound for all

further : (p : Program) (n m : ℕ) → n ≤ m → (g h : GlobalValue) → Improves p n g h → Improves p m g h
further p n m le (global.Function f) (global.Function g) s = record {
  symbol = s.symbol;
  result = s.result;
  params = s.params;
  body = s.body;
  better = wider p n m le g f s.better;
}
further p n m le (global.Variable v) (global.Variable w) same = same
further p n m le (global.Function f) (global.Variable w) s = absurd s
further p n m le (global.Variable v) (global.Function g) s = absurd s

all_further : (p : Program) (n m : ℕ) → n ≤ m → (gs hs : List GlobalValue) → AllZip (Improves p n) gs hs → AllZip (Improves p m) gs hs
all_further p n m le [] [] z = tt
all_further p n m le [] (h ∷ hs) z = absurd z
all_further p n m le (g ∷ gs) [] z = absurd z
all_further p n m le (g ∷ gs) (h ∷ hs) z = (further p n m le g h z.0, all_further p n m le gs hs z.1)

pub bounded : (p : Program) (gs hs : List GlobalValue) → AllZip (CanImprove p) gs hs → (bound : ℕ) × AllZip (Improves p bound) gs hs
bounded p [] [] z = (0, tt)
bounded p [] (h ∷ hs) z = absurd z
bounded p (g ∷ gs) [] z = absurd z
bounded p (g ∷ gs) (h ∷ hs) z =
    let one = z.0 in
    let rest = bounded p gs hs z.1 in
    let first : one.0 ≤ one.0 + rest.0 = omega arith in
    let second : rest.0 ≤ one.0 + rest.0 = omega arith in
    (one.0 + rest.0, (further p one.0 (one.0 + rest.0) first g h one.1, all_further p rest.0 (one.0 + rest.0) second gs hs rest.1))

-- ---- each may stand in its own place

itself : (gs : List GlobalValue) (g : GlobalValue) → CanImprove (program_of gs) g g
itself gs (global.Variable v) = (0, refl)
itself gs (global.Function f) = (1, record { symbol = refl; result = refl; params = refl; body = refl; better = same_better (program_of gs) (programs_formed gs) f })

pub themselves : (gs hs : List GlobalValue) → AllZip (CanImprove (program_of gs)) hs hs
themselves gs [] = tt
themselves gs (h ∷ hs) = (itself gs h, themselves gs hs)

-- ---- symbols stay

improved_symbol : (p : Program) (bound : ℕ) (g h : GlobalValue) → Improves p bound g h → global_symbol h ≡ global_symbol g
improved_symbol p bound (global.Function f) (global.Function g) s = s.symbol
improved_symbol p bound (global.Variable v) (global.Variable w) same = ap (λ (u : Variable). u.symbol) same
improved_symbol p bound (global.Function f) (global.Variable w) s = absurd s
improved_symbol p bound (global.Variable v) (global.Function g) s = absurd s

pub improved_symbols : (p : Program) (bound : ℕ) (gs hs : List GlobalValue) → AllZip (Improves p bound) gs hs → symbols hs ≡ symbols gs
improved_symbols p bound [] [] z = refl
improved_symbols p bound [] (h ∷ hs) z = absurd z
improved_symbols p bound (g ∷ gs) [] z = absurd z
improved_symbols p bound (g ∷ gs) (h ∷ hs) z = λ i. improved_symbol p bound g h z.0 i ∷ improved_symbols p bound gs hs z.1 i
