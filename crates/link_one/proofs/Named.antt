-- The symbols that a global value names, and what they are under other names.
use Rattle.std.proofs.Common.{◌≡◌, ◌∙◌, ℕ, List, sym, ap, subst, refl}
use Rattle.std.proofs.lemmas.List.Elements.{All-contains}
use Rattle.std.specs.List.{Contains}
use Rattle.ir_tree.specs.Items.{Item, items, operands}
use Rattle.ir_tree.specs.Wholes.{GlobalKnown, IsKnown, ItemKnown, init_operands}
use Rattle.ir_tree.specs.declared.function.Function.{Function}
use Rattle.ir_tree.specs.declared.function.Variable.{Variable}
use Rattle.ir_tree.specs.declared.module.GlobalValue.{GlobalValue}
use Rattle.ir_tree.specs.declared.module.GlobalValue.TheVariants as global
use Rattle.ir_tree.specs.declared.operand.Argument.{Argument}
use Rattle.ir_tree.specs.declared.operand.Operand.{Operand}
use Rattle.ir_tree.specs.declared.operand.Operand.TheVariants.{Local, Number as Constant, Null, Poison as PoisonOf, Symbol as Named}
use Rattle.ir_tree.specs.declared.operand.Symbol.{Symbol}
use Rattle.ir_summary.specs.References.{all_named, global_names, named}
use Rattle.ir_meaning.specs.Refine.{Naming}
use Rattle.ir_meaning.specs.Rename.{argument_under, operand_under}
use Rattle.merge_meaning.specs.Globals.{function_under, global_under, variable_under}
use Rattle.merge_meaning.proofs.Sounds.{init_same, item_under, items_same, operands_same}
use Rattle.merge_meaning.proofs.Standing.{alone, in_map, joined_from, map_from, nothing}
use Rattle.merge_meaning.proofs.References.{named_from}

-- the value names the symbol: under other names too all that it names is known only where this one is
abbrev pub Names : GlobalValue → Symbol → Type 0
Names g s = (u : Naming) (known : List Symbol) → GlobalKnown known (global_under u g) → Contains known (u.symbol s)

-- an operand that has a name under other names is a symbol
operand_names : (t : Naming) (o : Operand) (name : List ℕ) → Contains (named (operand_under t o)) name → (s : Symbol) × (offset : ℕ) × (o ≡ Named s offset) × ((t.symbol s).name ≡ name)
operand_names t (Local x) name h = absurd (nothing name h)
operand_names t (Constant w bits) name h = absurd (nothing name h)
operand_names t Null name h = absurd (nothing name h)
operand_names t (PoisonOf reg) name h = absurd (nothing name h)
operand_names t (Named s offset) name h = (s, offset, refl, alone (t.symbol s).name name h)

operand_known : (u : Naming) (known : List Symbol) (o : Operand) (s : Symbol) (offset : ℕ) → o ≡ Named s offset → IsKnown known (operand_under u o) → Contains known (u.symbol s)
operand_known u known o s offset same k = subst (λ (x : Operand). IsKnown known (operand_under u x)) same k

function_names : (t : Naming) (f : Function) (name : List ℕ) → Contains (global_names (global.Function (function_under t f))) name → (s : Symbol) × ((t.symbol s).name ≡ name) × Names (global.Function f) s
function_names t f name h =
    let there = joined_from (λ (x : Item). all_named (operands x)) (items (function_under t f)) name h in
    let item = map_from (item_under t) (items f) there.0 (subst (λ (l : List Item). Contains l there.0) (items_same t f) there.1) in
    let told = named_from (operands there.0) name there.2 in
    let argument = map_from (argument_under t) (operands item.0) told.0 (subst (λ (l : List Argument). Contains l told.0) (sym (ap operands item.2) ∙ operands_same t item.0) told.1) in
    let named = operand_names t argument.0.operand name (subst (λ (a : Argument). Contains (named a.operand) name) (sym argument.2) told.2) in (
      named.0,
      named.3,
      λ u known k.
          let knows : ItemKnown known (item_under u item.0) =
          All-contains (λ (x : Item). ItemKnown known x) (items (function_under u f)) (item_under u item.0) k
          (subst (λ (l : List Item). Contains l (item_under u item.0)) (sym (items_same u f)) (in_map (item_under u) (items f) item.0 item.1)) in
          operand_known u known argument.0.operand named.0 named.1 named.2
          (All-contains (λ (a : Argument). IsKnown known a.operand) (operands (item_under u item.0)) (argument_under u argument.0) knows
          (subst (λ (l : List Argument). Contains l (argument_under u argument.0)) (sym (operands_same u item.0)) (in_map (argument_under u) (operands item.0) argument.0 argument.1))),
    )

variable_names : (t : Naming) (v : Variable) (name : List ℕ) → Contains (global_names (global.Variable (variable_under t v))) name → (s : Symbol) × ((t.symbol s).name ≡ name) × Names (global.Variable v) s
variable_names t v name h =
    let there = joined_from named (init_operands (variable_under t v).init) name h in
    let operand = map_from (operand_under t) (init_operands v.init) there.0 (subst (λ (l : List Operand). Contains l there.0) (init_same t v.init) there.1) in
    let named = operand_names t operand.0 name (subst (λ (o : Operand). Contains (named o) name) (sym operand.2) there.2) in (
      named.0,
      named.3,
      λ u known k.
          operand_known u known operand.0 named.0 named.1 named.2
          (All-contains (λ (o : Operand). IsKnown known o) (init_operands (variable_under u v).init) (operand_under u operand.0) k
          (subst (λ (l : List Operand). Contains l (operand_under u operand.0)) (sym (init_same u v.init)) (in_map (operand_under u) (init_operands v.init) operand.0 operand.1))),
    )

-- each name that a value has under other names is that of a symbol that it names
pub names_under : (t : Naming) (g : GlobalValue) (name : List ℕ) → Contains (global_names (global_under t g)) name → (s : Symbol) × ((t.symbol s).name ≡ name) × Names g s
names_under t (global.Function f) name h = function_names t f name h
names_under t (global.Variable v) name h = variable_names t v name h
