-- The blocks of variables in the order of the global values.
use Rattle.std.proofs.Common.{◌≡◌, ◌⊎◌, inl, inr, ℕ, zero, suc, ◌+◌, true, not, List, [], ◌∷◌, ◌++◌, length, map, slice_get, take, Option, Some, None, refl, sym, ap, subst, ◌∙◌, arith}
use Rattle.std.proofs.lemmas.List.{append-nil, length-append, map-append}
use Rattle.ir_tree.specs.Initials.{Initial}
use Rattle.ir_tree.specs.Layout.{size}
use Rattle.ir_tree.specs.declared.block.Block.{Block as MeantBlock}
use Rattle.ir_tree.specs.declared.function.Function.{Function}
use Rattle.ir_tree.specs.declared.function.Variable.{Variable}
use Rattle.ir_tree.specs.declared.module.GlobalValue.{GlobalValue}
use Rattle.ir_tree.specs.declared.module.GlobalValue.TheVariants as global
use Rattle.ir_tree.specs.declared.operand.Operand.{Operand}
use Rattle.ir_tree.specs.declared.operand.Symbol.{Symbol}
use Rattle.ir_meaning.specs.Frame.{AVariable}
use Rattle.ir_meaning.specs.Memory.{Memory as MeantMemory, MemoryBlock}
use Rattle.ir_meaning.specs.declared.value.Byte.{Byte}
use Rattle.ir_meaning.specs.declared.value.Value.{Value}
use Rattle.ir_machine.specs.Blocks.{block_meant}
use Rattle.ir_machine.specs.Bytes.{bytes_len, bytes_meant}
use Rattle.ir_machine.specs.declared.block.Block.{Block}
use Rattle.ir_machine.specs.declared.bytes.Bytes.{Bytes}
use Rattle.ir_meaning.specs.Constants.{initial_bytes}
use Rattle.ir_meaning.specs.Programs.{Body, Definition, Storage, behind, body_of, defined, defined_blocks, defined_init, kind_of, opening_from, storage_in, storage_of, symbol_of}
use Rattle.ir_meaning.proofs.Numbered.{no_variable, storage_same}
use Rattle.machine_code.specs.MemoryAddresses.{HoldsFrom, value_in}
use Rattle.machine_code.specs.Openings.{IsAdded, IsVariableBlock}
use Rattle.machine_code.specs.Tables.{kind_at, number_at}
use Rattle.machine_code.specs.declared.bases.Bases.{Bases}
use Rattle.machine_code.proofs.Lists.{got_pushed, none_taken}
use Rattle.machine_code.proofs.Tabling.{next_at, no_number}

-- ---- variables and their numbers

-- the variable that defines its symbol
pub record IsVariable (n : ℕ) (g : GlobalValue) (k : ℕ) (v : Variable) (begins : Initial) : Type 0 where
  pub value : g ≡ global.Variable v
  pub init : defined_init v ≡ Some begins
  pub number : k ≡ n

pub storage_is : (n : ℕ) (g : GlobalValue) (k : ℕ) (v : Variable) (init : Initial) → defined n g ≡ Some (Storage k v init) → IsVariable n g k v init
storage_is n (global.Function f) k v init e = by (defined_blocks f) e where
  by : (bs : List MeantBlock) → body_of bs f ≡ Some (Storage k v init) → IsVariable n (global.Function f) k v init
  by [] e' = absurd (cc e')
  by (b ∷ bs) e' = absurd (cc e')
storage_is n (global.Variable w) k v init e = by (defined_init w) refl e where
  by : (o : Option Initial) → defined_init w ≡ o → storage_of o n w ≡ Some (Storage k v init) → IsVariable n (global.Variable w) k v init
  by None i e' = absurd (cc e')
  by (Some x) i e' =
      let both : Some (Storage n w x) ≡ Some (Storage k v init) = e' in
      let same : w ≡ v = cc both in
      let other : x ≡ init = cc both in
      let number : n ≡ k = cc both in
      record {
        value = ap (λ (y : Variable). global.Variable y) same;
        init = sym (ap (λ (y : Variable). defined_init y) same) ∙ i ∙ ap (λ (y : Initial). Some y) other;
        number = sym number;
      }

-- what is a variable in the program is one that is defined, under its number
pub variable_is : (m : ℕ) (g : GlobalValue) (n : ℕ) → kind_at m g ≡ AVariable n → (v : Variable) × ((init : Initial) × IsVariable m g n v init)
variable_is m g n e = by (defined m g) refl e where
  by : (d : Option Definition) → defined m g ≡ d → kind_of true (symbol_of g) d ≡ AVariable n → (v : Variable) × ((init : Initial) × IsVariable m g n v init)
  by None h k = absurd (no_variable n true (symbol_of g) k)
  by (Some (Body f)) h k = absurd (cc k)
  by (Some (Storage j v init)) h k =
      let same : j ≡ n = cc k in
      (v, (init, storage_is m g n v init (h ∙ ap (λ (i : ℕ). Some (Storage i v init)) same)))

-- ---- what memory begins with

storage_front : (value : Operand → Value) (d : Option Definition) (rest more : MeantMemory) → storage_in value d (rest ++ more) ≡ storage_in value d rest ++ more
storage_front value None rest more = refl
storage_front value (Some (Body f)) rest more = refl
storage_front value (Some (Storage n v init)) rest more = refl

-- one more global
pub opening_more : (value : Operand → Value) (gs : List GlobalValue) (k n : ℕ) (g : GlobalValue) → slice_get gs k ≡ Some g →
    opening_from value (take (suc k) gs) ≡ opening_from value (take k gs) ++ storage_in value (defined n g) []
opening_more value [] k n g e = absurd (cc e)
opening_more value (x ∷ gs) zero n g e =
    let same : x ≡ g = cc e in
    ap (λ (xs : List GlobalValue). storage_in value (defined 0 x) (opening_from value xs)) (none_taken gs)
    ∙ storage_same value 0 n x []
    ∙ ap (λ (y : GlobalValue). storage_in value (defined n y) []) same
opening_more value (x ∷ gs) (suc k) n g e =
    ap (λ (rest : MeantMemory). storage_in value (defined 0 x) rest) (opening_more value gs k n g e)
    ∙ storage_front value (defined 0 x) (opening_from value (take k gs)) (storage_in value (defined n g) [])

-- ---- blocks

-- the blocks of the globals before an index
pub record AreAdded (t : Bases) (gs : List GlobalValue) (k : ℕ) (blocks : List Block) : Type 0 where
  pub count : length blocks ≡ number_at 0 gs k
  pub numbers : (q : ℕ) (b : Block) → slice_get blocks q ≡ Some b → b.number ≡ q
  pub means : (names : List Symbol) → map (λ (b : Block). block_meant names b) blocks ≡ opening_from (value_in t names) (take k gs)
  pub holds : (q : ℕ) (b : Block) → slice_get blocks q ≡ Some b → HoldsFrom t b.bytes

pub none_added : (t : Bases) (gs : List GlobalValue) → AreAdded t gs 0 []
none_added t gs = record {
  count = sym (no_number 0 gs);
  numbers = λ q b e. absurd (cc e);
  means = λ names. sym (ap (λ (xs : List GlobalValue). opening_from (value_in t names) xs) (none_taken gs));
  holds = λ q b e. absurd (cc e);
}

module _ (t : Bases) (gs : List GlobalValue) (k : ℕ) (g : GlobalValue) (here : slice_get gs k ≡ Some g) (old : List Block) (h : AreAdded t gs k old) where
  next_count : (d : Option Definition) → defined (length old) g ≡ d → number_at 0 gs (suc k) ≡ behind (length old) d
  next_count d e = next_at 0 gs k g here ∙ ap (λ (n : ℕ). behind n (defined n g)) (sym h.count) ∙ ap (λ (x : Option Definition). behind (length old) x) e

  next_means : (d : Option Definition) → defined (length old) g ≡ d → (names : List Symbol) →
      map (λ (b : Block). block_meant names b) old ++ storage_in (value_in t names) d [] ≡ opening_from (value_in t names) (take (suc k) gs)
  next_means d e names =
      ap (λ (ms : MeantMemory). ms ++ storage_in (value_in t names) d []) (h.means names)
      ∙ ap (λ (x : Option Definition). opening_from (value_in t names) (take k gs) ++ storage_in (value_in t names) x []) (sym e)
      ∙ sym (opening_more (value_in t names) gs k (length old) g here)

  -- a global that is no variable adds nothing
  none_more : (d : Option Definition) → defined (length old) g ≡ d → behind (length old) d ≡ length old → ((names : List Symbol) → storage_in (value_in t names) d [] ≡ []) → AreAdded t gs (suc k) old
  none_more d e same none = record {
    count = sym (next_count d e ∙ same);
    numbers = h.numbers;
    means = λ names. sym (append-nil (map (λ (b : Block). block_meant names b) old)) ∙ ap (λ (ms : MeantMemory). map (λ (b : Block). block_meant names b) old ++ ms) (sym (none names)) ∙ next_means d e names;
    holds = h.holds;
  }

  one_more : (n : ℕ) (v : Variable) (init : Initial) (b : Block) → defined (length old) g ≡ Some (Storage n v init) → IsVariableBlock t n v init b → AreAdded t gs (suc k) (old ++ b ∷ [])
  one_more n v init b e is = record {
    count =
        let one : length (old ++ b ∷ []) ≡ length old + 1 = length-append old (b ∷ []) in
        let next : number_at 0 gs (suc k) ≡ suc (length old) = next_count (Some (Storage n v init)) e in
        omega (arith, one, next);
    numbers = λ q c f. number q c (got_pushed old b q c f);
    means = λ names. map-append (λ (c : Block). block_meant names c) old (b ∷ [])
        ∙ ap (λ (m : MemoryBlock). map (λ (c : Block). block_meant names c) old ++ m ∷ []) (is.means names)
        ∙ next_means (Some (Storage n v init)) e names;
    holds = λ q c f. hold q c (got_pushed old b q c f);
  } where
    number : (q : ℕ) (c : Block) → (slice_get old q ≡ Some c) ⊎ ((q ≡ length old) × (b ≡ c)) → c.number ≡ q
    number q c (inl f) = h.numbers q c f
    number q c (inr f) = ap (λ (x : Block). x.number) (sym f.1) ∙ is.number ∙ (storage_is (length old) g n v init e).number ∙ sym f.0

    hold : (q : ℕ) (c : Block) → (slice_get old q ≡ Some c) ⊎ ((q ≡ length old) × (b ≡ c)) → HoldsFrom t c.bytes
    hold q c (inl f) = h.holds q c f
    hold q c (inr f) = subst (λ (x : Block). HoldsFrom t x.bytes) f.1 is.holds

  pub added_more : (new : List Block) → IsAdded t old (defined (length old) g) new → AreAdded t gs (suc k) new
  added_more new a = by (defined (length old) g) refl a where
    by : (d : Option Definition) → defined (length old) g ≡ d → IsAdded t old d new → AreAdded t gs (suc k) new
    by None e x = subst (λ (bs : List Block). AreAdded t gs (suc k) bs) (sym x) (none_more None e refl (λ names. refl))
    by (Some (Body f)) e x = subst (λ (bs : List Block). AreAdded t gs (suc k) bs) (sym x) (none_more (Some (Body f)) e refl (λ names. refl))
    by (Some (Storage n v init)) e x = subst (λ (bs : List Block). AreAdded t gs (suc k) bs) (sym x.1.1) (one_more n v init x.0 e x.1.0)

-- a function adds nothing, whether it is defined or not
pub function_added : (t : Bases) (old : List Block) (g : GlobalValue) (f : Function) → g ≡ global.Function f → IsAdded t old (defined (length old) g) old
function_added t old g f e = subst (λ (x : GlobalValue). IsAdded t old (defined (length old) x) old) (sym e) (by (defined_blocks f)) where
  by : (bs : List MeantBlock) → IsAdded t old (body_of bs f) old
  by [] = refl
  by (b ∷ bs) = refl

pub variable_added : (t : Bases) (old new : List Block) (g : GlobalValue) (v : Variable) (init : Initial) (b : Block) → g ≡ global.Variable v → defined_init v ≡ Some init → IsVariableBlock t (length old) v init b → new ≡ old ++ b ∷ [] →
    IsAdded t old (defined (length old) g) new
variable_added t old new g v init b e some is more =
    subst (λ (x : GlobalValue). IsAdded t old (defined (length old) x) new) (sym e) (subst (λ (o : Option Initial). IsAdded t old (storage_of o (length old) v) new) (sym some) (b, (is, more)))

pub block_is : (t : Bases) (n : ℕ) (v : Variable) (init : Initial) (bytes : Bytes) → ((names : List Symbol) → bytes_meant names bytes ≡ initial_bytes (value_in t names) v.shape init) → bytes_len bytes ≡ size v.shape →
    HoldsFrom t bytes → IsVariableBlock t n v init (record { number = n; align = v.align; bytes = bytes; writable = not v.constant })
block_is t n v init bytes meant_so long holds = record {
  number = refl;
  means = λ names.
      ap (λ (k : ℕ). record { size = k; align = v.align; bytes = bytes_meant names bytes; live = true; writable = not v.constant }) long
      ∙ ap (λ (bs : List Byte). record { size = size v.shape; align = v.align; bytes = bs; live = true; writable = not v.constant }) (meant_so names);
  holds = holds;
}
