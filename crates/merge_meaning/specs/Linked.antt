-- The linked module of a merged program: better functions in place of its functions, and of these definitions the live
-- ones, each under its final name.
use Rattle.std.specs.Prelude.{◌≡◌, ◌≢◌, ℕ, zero, Bool, true, false, ◌&&◌, if◌then◌else◌, List, [], ◌∷◌, map, filter, Contains, slice_index_or, Option, Some, None}
use Rattle.ir_tree.specs.Linkages.{defines}
use Rattle.ir_tree.specs.Formed.{Distinct}
use Rattle.ir_tree.specs.Wholes.{symbols}
use Rattle.ir_tree.specs.declared.block.Block.{Block}
use Rattle.ir_tree.specs.declared.function.Function.{Function}
use Rattle.ir_tree.specs.declared.module.GlobalValue.{GlobalValue}
use Rattle.ir_tree.specs.declared.module.GlobalValue.TheVariants as global
use Rattle.ir_tree.specs.declared.operand.Symbol.{Symbol}
use Rattle.ir_meaning.specs.Frame.{Missing}
use Rattle.ir_meaning.specs.Near.{BetterThan}
use Rattle.ir_meaning.specs.Program.{Program, variables}
use Rattle.ir_meaning.specs.Refine.{Naming}
use Rattle.ir_tree.specs.Symbols.{symbol_eq}
use Rattle.ir_meaning.specs.Rename.{BlocksName, block_under}
use Rattle.ir_meaning.specs.Programs.{Body, Definition, Storage, defined, defined_blocks, definition_of, is_declared, program_of, regs_of, signature_of, symbol_of}
use Rattle.merge_meaning.specs.Globals.{InitialNames, global_under, initial_under, named_by}

-- ---- better functions

abbrev pub has_body : List Block → Bool
has_body [] = false
has_body (b ∷ bs) = true

-- g may stand in the place of f: others see no difference, and it is better in the program
pub record StandsFor (p : Program) (bound : ℕ) (f g : Function) : Type 0 where
  pub symbol : g.symbol ≡ f.symbol
  pub result : g.result ≡ f.result
  pub params : regs_of g.params ≡ regs_of f.params
  pub body : has_body (defined_blocks g) ≡ has_body (defined_blocks f)
  pub better : BetterThan p bound g f

-- a variable stays as it is
abbrev pub Improves : Program → ℕ → GlobalValue → GlobalValue → Type 0
Improves p bound (global.Variable v) (global.Variable w) = w ≡ v
Improves p bound (global.Function f) (global.Function g) = StandsFor p bound f g
Improves p bound _ _ = ⊥

-- ---- the live definitions under their final names

-- all that a definition refers to is live
abbrev pub DefinitionNames : (Symbol → Bool) → Option Definition → Type 0
DefinitionNames live None = Unit {0}
DefinitionNames live (Some (Body f)) = BlocksName live f.blocks
DefinitionNames live (Some (Storage n v init)) = InitialNames live init

-- the second definition is the first under other names; what nobody can observe, such as linkage, may differ
abbrev pub IsUnder : Naming → Option Definition → Option Definition → Type 0
IsUnder t None None = Unit {0}
IsUnder t (Some (Body f)) (Some (Body g)) = (g.params ≡ f.params) × (g.result ≡ f.result) × (g.blocks ≡ map (block_under t) f.blocks)
IsUnder t (Some (Storage n v init)) (Some (Storage k w other)) =
    (w.shape ≡ v.shape) × (w.align ≡ v.align) × (w.constant ≡ v.constant) × (other ≡ initial_under t init)
IsUnder t _ _ = ⊥

-- a live symbol is defined or a function of the outside, and its definition refers to live symbols alone
pub record IsClosed (live : Symbol → Bool) (hs : List GlobalValue) : Type 0 where
  pub there : (s : Symbol) → live s ≡ true → (signature_of hs).kind s ≢ Missing
  pub closed : (s : Symbol) → live s ≡ true → DefinitionNames live (definition_of hs s)

-- a symbol without a home keeps its name, and no two live symbols have one final name
pub record AreFinal (live : Symbol → Bool) (final : Symbol → Symbol) : Type 0 where
  pub keeps : (s : Symbol) → s.home ≡ None → final s ≡ s
  pub apart : (s u : Symbol) → live s ≡ true → live u ≡ true → final s ≡ final u → s ≡ u

-- ls has the live symbols of hs, each under its final name, and defines what hs defines of them and nothing else; no symbol stands
-- there twice
pub record AreEmitted (live : Symbol → Bool) (final : Symbol → Symbol) (hs ls : List GlobalValue) : Type 0 where
  pub reached : IsClosed live hs
  pub named : AreFinal live final
  pub defines : (s : Symbol) → live s ≡ true → IsUnder (named_by final) (definition_of hs s) (definition_of ls (final s))
  pub declares : (s : Symbol) → live s ≡ true → is_declared ls (final s) ≡ true
  pub only : (u : Symbol) → ((s : Symbol) → live s ≡ true → final s ≢ u) → definition_of ls u ≡ None
  pub once : Distinct (symbols ls)

-- the live definitions in their order, each under its final name
abbrev pub emission : (Symbol → Bool) → (Symbol → Symbol) → List GlobalValue → List GlobalValue
emission live final hs = map (global_under (named_by final)) (filter (λ g. live (symbol_of g)) hs)

-- the same but for what nobody can observe, such as linkage, where both count or neither does
abbrev pub IsLike : GlobalValue → GlobalValue → Type 0
IsLike (global.Variable v) (global.Variable w) =
    (w.symbol ≡ v.symbol) × (w.shape ≡ v.shape) × (w.align ≡ v.align) × (w.constant ≡ v.constant) × (w.init ≡ v.init) × (defines w.linkage ≡ defines v.linkage)
IsLike (global.Function f) (global.Function g) =
    (g.symbol ≡ f.symbol) × (g.params ≡ f.params) × (g.result ≡ f.result) × (g.blocks ≡ f.blocks) × (defines g.linkage ≡ defines f.linkage)
IsLike _ _ = ⊥

abbrev pub IsDefinition : GlobalValue → Type 0
IsDefinition g = defined 0 g ≢ None

-- ks has definitions like those of ls, in any order, and no others, and the symbols of ls; declarations may stand between; no
-- symbol stands twice
pub record IsReordering (ls ks : List GlobalValue) : Type 0 where
  pub all : (g : GlobalValue) → Contains ls g → IsDefinition g → (h : GlobalValue) × Contains ks h × IsLike g h
  pub only : (h : GlobalValue) → Contains ks h → IsDefinition h → (g : GlobalValue) × Contains ls g × IsLike g h
  pub declares : (u : Symbol) → is_declared ls u ≡ true → is_declared ks u ≡ true
  pub once : Distinct (symbols ks)

-- ---- the way back from final names

-- the live symbol that has this final name
abbrev pub back_among : (Symbol → Bool) → (Symbol → Symbol) → List Symbol → Symbol → Symbol
back_among live final [] u = u
back_among live final (s ∷ ss) u = if live s && symbol_eq (final s) u then s else back_among live final ss u

abbrev pub back_of : (Symbol → Bool) → (Symbol → Symbol) → List GlobalValue → Symbol → Symbol
back_of live final hs u = back_among live final (symbols hs) u

-- the symbols of variables, by their numbers
abbrev pub stored_symbol : Option Definition → Symbol → List Symbol → List Symbol
stored_symbol None s rest = rest
stored_symbol (Some (Body f)) s rest = rest
stored_symbol (Some (Storage n v init)) s rest = s ∷ rest

abbrev pub variable_symbols : List GlobalValue → List Symbol
variable_symbols [] = []
variable_symbols (g ∷ gs) = stored_symbol (defined 0 g) (symbol_of g) (variable_symbols gs)

abbrev pub symbol_at : List GlobalValue → ℕ → Symbol
symbol_at gs l = slice_index_or (variable_symbols gs) l (record { home = None; name = [] })

-- the number of a symbol's variable
abbrev pub number_in : Option Definition → ℕ
number_in None = zero
number_in (Some (Body f)) = zero
number_in (Some (Storage n v init)) = n

abbrev pub number_of : List GlobalValue → Symbol → ℕ
number_of gs s = number_in (definition_of gs s)

-- which symbol and which variable of hs each one of ls is
abbrev pub back_names : (Symbol → Bool) → (Symbol → Symbol) → List GlobalValue → List GlobalValue → Naming
back_names live final hs ls = record {
  symbol = back_of live final hs;
  variable = λ l. number_of hs (back_of live final hs (symbol_at ls l));
  count = variables (program_of ls);
  count' = variables (program_of hs);
}
