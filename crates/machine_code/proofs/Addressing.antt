-- The table has the addresses of the program, and each is valid where memory holds the variables.
use Rattle.std.proofs.Common.{◌≡◌, ◌⊎◌, inl, inr, ℕ, Bool, true, false, List, Option, Some, None, refl, sym, ap, subst, ◌∙◌}
use Rattle.std.proofs.lemmas.Option.{slice_get_within}
use Rattle.ir_tree.specs.Formed.{Distinct}
use Rattle.ir_tree.specs.Wholes.{symbols}
use Rattle.ir_tree.specs.declared.module.GlobalValue.{GlobalValue}
use Rattle.ir_tree.specs.declared.operand.Symbol.{Symbol}
use Rattle.ir_meaning.specs.Frame.{AFunction, AHost, AVariable, SymbolKind, Missing, named}
use Rattle.ir_meaning.specs.Memory.{Memory as MeantMemory}
use Rattle.ir_meaning.specs.declared.value.Base.TheVariants.{Code}
use Rattle.ir_meaning.specs.declared.value.Value.TheVariants.{Pointer}
use Rattle.ir_tree.proofs.Symbols.{symbol_same}
use Rattle.ir_machine.specs.Meant.{meant, symbol_at}
use Rattle.ir_machine.specs.Memories.{IsBase}
use Rattle.ir_machine.specs.Names.{IsNamed}
use Rattle.ir_machine.specs.declared.memory.Memory.{Memory}
use Rattle.ir_machine.specs.declared.scalar.Base.{Base}
use Rattle.ir_machine.specs.declared.scalar.Base.TheVariants.{Block, Function}
use Rattle.ir_machine.specs.declared.scalar.Scalar.{Scalar}
use Rattle.ir_meaning.specs.Programs.{Definition, definition_of, kind_of, signature_of, symbol_of}
use Rattle.machine_code.specs.MemoryAddresses.{HasAddresses, IsFrom, address_at, base_in}
use Rattle.machine_code.specs.Openings.{HoldsVariables}
use Rattle.machine_code.specs.Tables.{IsBased, IsTable, base_of, bytes_of, kind_at, number_at}
use Rattle.machine_code.specs.declared.bases.Bases.{Bases}
use Rattle.machine_code.proofs.Naming.{Stands, StandsNot, got_symbol, kind_is, none_from, stands, symbol_is, undeclared}

-- an address of the table is based on what the table has
pub address_from : (t : Bases) (s : Symbol) (offset : ℕ) (v : Scalar) → v ≡ address_at (base_in t s) offset → IsFrom t v
address_from t s offset v e = subst (λ (x : Scalar). IsFrom t x) (sym e) (by (base_in t s) refl) where
  by : (o : Option Base) → base_in t s ≡ o → IsFrom t (address_at o offset)
  by None f = tt
  by (Some b) f = inr (s, f)

address_means : (names : List Symbol) (i : ℕ) (s : Symbol) (kind : SymbolKind) (size offset : ℕ) → symbol_at names i ≡ s → meant names (address_at (base_of i kind size) offset) ≡ named kind s offset
address_means names i s (AFunction params result) size offset e = ap (λ (x : Symbol). Pointer (Code x) offset) e
address_means names i s (AHost host) size offset e = ap (λ (x : Symbol). Pointer (Code x) offset) e
address_means names i s (AVariable n) size offset e = refl
address_means names i s Missing size offset e = refl

-- ---- a symbol that has no global value

module _ (gs : List GlobalValue) (s : Symbol) (none : StandsNot gs s) where
  unlike : (u : Symbol) → Stands gs u → s ≡ u → ⊥
  unlike u (i, (g, (here, same))) e =
      let never : false ≡ true = sym (none i g here) ∙ symbol_same (symbol_of g) s (same ∙ sym e) in
      cc never

  no_base : (t : Bases) → IsTable gs t → base_in t s ≡ None
  no_base t h = by (base_in t s) refl where
    by : (o : Option Base) → base_in t s ≡ o → base_in t s ≡ None
    by None e = e
    by (Some b) e = let d = h.only s b e in absurd (unlike s (d.index, (d.value, (d.there, d.symbol))) refl)

  missing : (signature_of gs).kind s ≡ Missing
  missing =
      ap (λ (b : Bool). kind_of b s (definition_of gs s)) (undeclared gs s none)
      ∙ ap (λ (d : Option Definition). kind_of false s d) (none_from 0 gs s none)

-- ---- all symbols

pub has_addresses : (gs : List GlobalValue) → Distinct (symbols gs) → (t : Bases) → IsTable gs t → HasAddresses (symbols gs) (signature_of gs) t
has_addresses gs once t h s offset = by (stands gs s) where
  by : Stands gs s ⊎ StandsNot gs s → meant (symbols gs) (address_at (base_in t s) offset) ≡ named ((signature_of gs).kind s) s offset
  by (inl (i, (g, (here, same)))) =
      subst (λ (x : Symbol). meant (symbols gs) (address_at (base_in t x) offset) ≡ named ((signature_of gs).kind x) x offset) same
      (ap (λ (b : Option Base). meant (symbols gs) (address_at b offset)) (h.found i g here)
      ∙ address_means (symbols gs) i (symbol_of g) (kind_at (number_at 0 gs i) g) (bytes_of g) offset (symbol_is gs i g here)
      ∙ ap (λ (k : SymbolKind). named k (symbol_of g) offset) (sym (kind_is gs once i g here)))
  by (inr none) =
      ap (λ (b : Option Base). meant (symbols gs) (address_at b offset)) (no_base gs s none t h)
      ∙ ap (λ (k : SymbolKind). named k s offset) (sym (missing gs s none))

-- what an address is based on is a function of the table or a block as its handle says
pub base_valid : (gs : List GlobalValue) (m : Memory) (memory : MeantMemory) → HoldsVariables gs m memory → (at : Symbol) (b : Base) → IsBased gs at b → IsBase m memory b × IsNamed (symbols gs) b
base_valid gs m memory holds at b d = by (kind_at (number_at 0 gs d.index) d.value) refl d.base where
  function : Function d.index ≡ b → IsBase m memory b × IsNamed (symbols gs) b
  function is = subst (λ (x : Base). IsBase m memory x × IsNamed (symbols gs) x) is (tt, slice_get_within (symbols gs) d.index (symbol_of d.value) (got_symbol gs d.index d.value d.there))

  by : (kind : SymbolKind) → kind_at (number_at 0 gs d.index) d.value ≡ kind → base_of d.index kind (bytes_of d.value) ≡ Some b → IsBase m memory b × IsNamed (symbols gs) b
  by (AFunction params result) k f = let is : Function d.index ≡ b = cc f in function is
  by (AHost host) k f = let is : Function d.index ≡ b = cc f in function is
  by (AVariable n) k f =
      let is : Block (record { number = n; position = n; size = bytes_of d.value }) ≡ b = cc f in
      subst (λ (x : Base). IsBase m memory x × IsNamed (symbols gs) x) is (holds d.index n d.value d.there k, tt)
  by Missing k f = absurd (cc f)
