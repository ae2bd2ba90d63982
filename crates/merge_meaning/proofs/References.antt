-- What a value names, by its operands.
use Rattle.std.proofs.Common.{◌≡◌, ◌⊎◌, inl, inr, ℕ, List, [], ◌∷◌}
use Rattle.std.proofs.lemmas.List.Elements.{All-contains, All-contains_itself, All-weaker, Contains-append_cases}
use Rattle.std.specs.List.{All, Contains}
use Rattle.ir_tree.specs.Items.{Item, items, operands}
use Rattle.ir_tree.specs.Wholes.{GlobalKnown, IsKnown, ItemKnown, init_operands}
use Rattle.ir_tree.specs.declared.module.GlobalValue.{GlobalValue}
use Rattle.ir_tree.specs.declared.module.GlobalValue.TheVariants as global
use Rattle.ir_tree.specs.declared.operand.Argument.{Argument}
use Rattle.ir_tree.specs.declared.operand.Operand.{Operand}
use Rattle.ir_tree.specs.declared.operand.Operand.TheVariants.{Local, Number as Constant, Null, Poison as PoisonOf, Symbol as Named}
use Rattle.ir_tree.specs.declared.operand.Symbol.{Symbol}
use Rattle.ir_summary.specs.References.{all_named, global_names, named}
use Rattle.merge_meaning.proofs.Bodies.{in_named}
use Rattle.merge_meaning.proofs.Standing.{alone, first, in_joined, joined_from, later, nothing}

pub all_from : {X : Type 0} (P : X → Type 0) (xs : List X) → ((x : X) → Contains xs x → P x) → All P xs
all_from P xs h = All-weaker (Contains xs) P h xs (All-contains_itself xs)

pub named_from : (args : List Argument) (name : List ℕ) → Contains (all_named args) name → (a : Argument) × Contains args a × Contains (named a.operand) name
named_from [] name h = absurd (nothing name h)
named_from (a ∷ args) name h = by (Contains-append_cases (named a.operand) (all_named args) name h) (λ rest. named_from args name rest)
  where
    by : Contains (named a.operand) name ⊎ Contains (all_named args) name → (Contains (all_named args) name → (b : Argument) × Contains args b × Contains (named b.operand) name)
        → (b : Argument) × Contains (a ∷ args) b × Contains (named b.operand) name
    by (inl here) rest = (a, first a args, here)
    by (inr more) rest = let found = rest more in (found.0, later a found.0 args found.1, found.2)

module _ (known : List Symbol) where
  operand_known : (o : Operand) (name : List ℕ) → IsKnown known o → Contains (named o) name → (s : Symbol) × Contains known s × (s.name ≡ name)
  operand_known (Local x) name k h = absurd (nothing name h)
  operand_known (Constant w bits) name k h = absurd (nothing name h)
  operand_known Null name k h = absurd (nothing name h)
  operand_known (PoisonOf reg) name k h = absurd (nothing name h)
  operand_known (Named s offset) name k h = (s, k, alone s.name name h)

  -- each name is that of a known symbol
  pub names_known : (g : GlobalValue) → GlobalKnown known g → (name : List ℕ) → Contains (global_names g) name → (s : Symbol) × Contains known s × (s.name ≡ name)
  names_known (global.Variable v) k name h =
      let o = joined_from named (init_operands v.init) name h in
      operand_known o.0 name (All-contains (λ (x : Operand). IsKnown known x) (init_operands v.init) o.0 k o.1) o.2
  names_known (global.Function f) k name h =
      let item = joined_from (λ (x : Item). all_named (operands x)) (items f) name h in
      let a = named_from (operands item.0) name item.2 in
      operand_known a.0.operand name
      (All-contains (λ (x : Argument). IsKnown known x.operand) (operands item.0) a.0 (All-contains (λ (x : Item). ItemKnown known x) (items f) item.0 k item.1) a.1) a.2

  module _ (more : List Symbol) where
    operand_more : (o : Operand) → IsKnown known o → ((s : Symbol) → Contains known s → Contains (named o) s.name → Contains more s) → IsKnown more o
    operand_more (Local x) k h = tt
    operand_more (Constant w bits) k h = tt
    operand_more Null k h = tt
    operand_more (PoisonOf reg) k h = tt
    operand_more (Named s offset) k h = h s k (first s.name [])

    -- where each known symbol whose name is used is one of these, what the value names is known among these
    pub known_more : (g : GlobalValue) → GlobalKnown known g → ((s : Symbol) → Contains known s → Contains (global_names g) s.name → Contains more s) → GlobalKnown more g
    known_more (global.Variable v) k h =
        all_from (λ (x : Operand). IsKnown more x) (init_operands v.init) (λ o c.
        operand_more o (All-contains (λ (x : Operand). IsKnown known x) (init_operands v.init) o k c) (λ s there n. h s there (in_joined named (init_operands v.init) o s.name c n)))
    known_more (global.Function f) k h =
        all_from (λ (x : Item). ItemKnown more x) (items f) (λ item c.
        all_from (λ (x : Argument). IsKnown more x.operand) (operands item) (λ a d.
        operand_more a.operand
        (All-contains (λ (x : Argument). IsKnown known x.operand) (operands item) a (All-contains (λ (x : Item). ItemKnown known x) (items f) item k c) d)
        (λ s there n. h s there (in_joined (λ (x : Item). all_named (operands x)) (items f) item s.name c (in_named (operands item) a s.name d n)))))
