-- The memory of all variables is the one that the program begins with.
use Rattle.std.proofs.Common.{◌≡◌, inl, inr, ℕ, zero, suc, ◌+◌, ◌<◌, ◌≤◌, List, [], ◌∷◌, length, map, slice_get, Option, Some, None, refl, sym, ap, subst, ◌∙◌, arith}
use Rattle.std.proofs.lemmas.List.{length-map, take_all}
use Rattle.std.proofs.lemmas.Option.{slice_get-map, slice_get_within}
use Rattle.std.specs.Prelude.{All, option_map}
use Rattle.ir_tree.specs.Formed.{Distinct}
use Rattle.ir_tree.specs.Initials.{Initial}
use Rattle.ir_tree.specs.Wholes.{symbols}
use Rattle.ir_tree.specs.declared.function.Variable.{Variable}
use Rattle.ir_tree.specs.declared.module.GlobalValue.{GlobalValue}
use Rattle.ir_tree.specs.declared.module.GlobalValue.TheVariants as global
use Rattle.ir_tree.specs.declared.operand.Operand.{Operand}
use Rattle.ir_tree.specs.declared.operand.Symbol.{Symbol}
use Rattle.ir_meaning.specs.Frame.{value_of}
use Rattle.ir_meaning.specs.Memory.{Memory as MeantMemory, size_or_zero}
use Rattle.ir_meaning.specs.declared.value.Value.{Value}
use Rattle.ir_machine.specs.Blocks.{block_meant}
use Rattle.ir_machine.specs.Memories.{InMemory, IsBase, IsHandle, Stands, block_at}
use Rattle.ir_machine.specs.Names.{IsNamed}
use Rattle.ir_machine.specs.declared.block.Block.{Block}
use Rattle.ir_machine.specs.declared.memory.Memory.{Memory}
use Rattle.ir_machine.specs.declared.scalar.Base.{Base}
use Rattle.ir_machine.specs.declared.scalar.Pointer.{Pointer}
use Rattle.ir_meaning.specs.Programs.{Body, Definition, Storage, behind, block_of, defined, opening_from, program_of, signature_of, storage_in, storage_of}
use Rattle.ir_meaning.proofs.Numbered.{storage_same}
use Rattle.ir_meaning.specs.Runnable.{AreRunnable, IsRunnableGlobal}
use Rattle.machine_code.specs.MemoryAddresses.{IsBaseIn, value_in}
use Rattle.machine_code.specs.Openings.{HoldsVariables, IsGlobalSound, IsOpening}
use Rattle.machine_code.specs.Tables.{IsGlobalLaidOut, IsTable, bytes_of, number_at}
use Rattle.machine_code.specs.declared.bases.Bases.{Bases}
use Rattle.machine_code.proofs.Addressing.{base_valid, has_addresses}
use Rattle.machine_code.proofs.Agreeing.{opening_is}
use Rattle.machine_code.proofs.Lists.{there}
use Rattle.machine_code.proofs.Storing.{AreAdded, IsVariable, variable_is}

-- ---- the block of a variable

-- it stands as far behind the first as its number is behind the first number
abbrev IsBlockAt : (Operand → Value) → List GlobalValue → ℕ → ℕ → Variable → Initial → Type 0
IsBlockAt value gs n number v init = (k : ℕ) × ((number ≡ n + k) × (slice_get (opening_from value gs) k ≡ Some (block_of value v init)))

block_at_number : (value : Operand → Value) (gs : List GlobalValue) (n i : ℕ) (g : GlobalValue) (k : ℕ) (v : Variable) (init : Initial) → slice_get gs i ≡ Some g → defined (number_at n gs i) g ≡ Some (Storage k v init) →
    IsBlockAt value gs n (number_at n gs i) v init
block_at_number value [] n i g k v init e d = absurd (cc e)
block_at_number value (x ∷ gs) n zero g k v init e d =
    let same : x ≡ g = cc e in
    let is : defined n x ≡ Some (Storage k v init) = ap (λ (y : GlobalValue). defined n y) same ∙ d in (
      0,
      (
        omega arith,
        ap (λ (m : MeantMemory). slice_get m 0) (storage_same value 0 n x (opening_from value gs) ∙ ap (λ (o : Option Definition). storage_in value o (opening_from value gs)) is),
      ),
    )
block_at_number value (x ∷ gs) n (suc i) g k v init e d = by (defined n x) refl (block_at_number value gs (behind n (defined n x)) i g k v init e d) where
  by : (o : Option Definition) → defined n x ≡ o → IsBlockAt value gs (behind n (defined n x)) (number_at (behind n (defined n x)) gs i) v init →
      IsBlockAt value (x ∷ gs) n (number_at (behind n (defined n x)) gs i) v init
  by None f (j, (at, there)) = (
    j,
    (
      at ∙ ap (λ (p : Option Definition). behind n p + j) f,
      ap (λ (m : MeantMemory). slice_get m j) (storage_same value 0 n x (opening_from value gs) ∙ ap (λ (p : Option Definition). storage_in value p (opening_from value gs)) f) ∙ there,
    ),
  )
  by (Some (Body b)) f (j, (at, there)) = (
    j,
    (
      at ∙ ap (λ (p : Option Definition). behind n p + j) f,
      ap (λ (m : MeantMemory). slice_get m j) (storage_same value 0 n x (opening_from value gs) ∙ ap (λ (p : Option Definition). storage_in value p (opening_from value gs)) f) ∙ there,
    ),
  )
  by (Some (Storage a w b)) f (j, (at, there)) =
      let count : behind n (defined n x) + j ≡ suc n + j = ap (λ (p : Option Definition). behind n p + j) f in (
        suc j,
        (
          omega (arith, at, count),
          ap (λ (m : MeantMemory). slice_get m (suc j)) (storage_same value 0 n x (opening_from value gs) ∙ ap (λ (p : Option Definition). storage_in value p (opening_from value gs)) f) ∙ there,
        ),
      )

-- ---- memory

module _ (gs : List GlobalValue) (once : Distinct (symbols gs)) (t : Bases) (table : IsTable gs t) (k : ℕ) (past : length gs ≤ k) (m : Memory) (h : AreAdded t gs k m.blocks.items) (made : m.made ≡ length m.blocks.items) where
  abbrev names : List Symbol
  names = symbols gs

  abbrev memory : MeantMemory
  memory = (program_of gs).opening

  is : map (λ (b : Block). block_meant names b) m.blocks.items ≡ memory
  is = h.means names ∙ ap (λ (xs : List GlobalValue). opening_from (value_in t names) xs) (take_all k gs past) ∙ opening_is names (signature_of gs) t (has_addresses gs once t table) gs

  long : length m.blocks.items ≡ length memory
  long = sym (length-map m.blocks.items (λ (b : Block). block_meant names b)) ∙ ap length is

  got : (q : ℕ) → slice_get memory q ≡ option_map (λ (b : Block). block_meant names b) (block_at m q)
  got q = ap (λ (x : MeantMemory). slice_get x q) (sym is) ∙ slice_get-map (λ (b : Block). block_meant names b) m.blocks.items q

  stands : Stands names m memory
  stands = record {
    made = made ∙ long;
    held = λ q b e.
        ap (λ (n : ℕ). slice_get memory n) (h.numbers q b e)
        ∙ got q
        ∙ ap (λ (o : Option Block). option_map (λ (c : Block). block_meant names c) o) e;
    rising = λ q r b c l e f. omega (arith, l, h.numbers q b e, h.numbers r c f);
  }

  handle : (i n : ℕ) (g : GlobalValue) → slice_get gs i ≡ Some g → (v : Variable) (init : Initial) → IsVariable (number_at 0 gs i) g n v init → IsHandle m memory (record { number = n; position = n; size = bytes_of g })
  handle i n g e v init d =
      let defines : defined (number_at 0 gs i) g ≡ Some (Storage (number_at 0 gs i) v init) =
      ap (λ (x : GlobalValue). defined (number_at 0 gs i) x) d.value ∙ ap (λ (o : Option Initial). storage_of o (number_at 0 gs i) v) d.init in
      let b = block_at_number (value_of (signature_of gs) []) gs 0 i g (number_at 0 gs i) v init e defines in
      let at : b.0 ≡ n = omega (arith, b.1.0, d.number) in
      let found : slice_get memory n ≡ Some (block_of (value_of (signature_of gs) []) v init) = ap (λ (j : ℕ). slice_get memory j) (sym at) ∙ b.1.1 in
      let older : n < length memory = slice_get_within memory n (block_of (value_of (signature_of gs) []) v init) found in
      record {
        older = older;
        size = ap size_or_zero found ∙ sym (ap bytes_of d.value);
        found = λ x f live. let c = there m.blocks.items n (omega (arith, older, long)) in (c.0, (c.1, h.numbers n c.0 c.1));
      }

  variables : HoldsVariables gs m memory
  variables i n g e kind = let d = variable_is (number_at 0 gs i) g n kind in handle i n g e d.0 d.1.0 d.1.1

  sound : (p : Pointer) → InMemory m p → IsBase m memory p.base × IsNamed names p.base
  sound p (q, (b, (e, held))) = by (h.holds q b e p held) where
    by : IsBaseIn t p.base → IsBase m memory p.base × IsNamed names p.base
    by (inl none) = subst (λ (x : Base). IsBase m memory x × IsNamed names x) (sym none) (tt, tt)
    by (inr (s, f)) = base_valid gs m memory variables s p.base (table.only s p.base f)

  pub is_opening : IsOpening gs m
  is_opening = record { memory = record { stands = stands; sound = sound }; variables = variables }

-- ---- what is sound

sound_global : (g : GlobalValue) → IsRunnableGlobal g → IsGlobalSound g
sound_global (global.Variable v) h = h
sound_global (global.Function b) h = tt

pub sound_globals : (gs : List GlobalValue) → AreRunnable gs → All IsGlobalSound gs
sound_globals gs a = λ i d l. sound_global _ (a.each i d l)

laid_global : (g : GlobalValue) → IsRunnableGlobal g → IsGlobalLaidOut g
laid_global (global.Variable v) h = h.0
laid_global (global.Function b) h = tt

pub laid_globals : (gs : List GlobalValue) → AreRunnable gs → All IsGlobalLaidOut gs
laid_globals gs a = λ i d l. laid_global _ (a.each i d l)
