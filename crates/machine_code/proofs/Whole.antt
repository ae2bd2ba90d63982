-- What lowering makes of global values is code of the program that they mean.
use Rattle.std.proofs.Common.{◌≡◌, ℕ, true, List, [], ◌∷◌, length, slice_get, Option, Some, None, refl, sym, ap, subst, ◌∙◌, arith}
use Rattle.std.specs.Prelude.{All}
use Rattle.std.proofs.lemmas.Option.{slice_get_within}
use Rattle.std.specs.List.{AllZip}
use Rattle.ir_tree.specs.Formed.{Distinct}
use Rattle.ir_tree.specs.Initials.{Initial}
use Rattle.ir_tree.specs.Wholes.{symbols}
use Rattle.ir_tree.specs.declared.block.Block.{Block as MeantBlock}
use Rattle.ir_tree.specs.declared.function.Function.{Function as MeantFunction}
use Rattle.ir_tree.specs.declared.function.Param.{Param}
use Rattle.ir_tree.specs.declared.module.GlobalValue.{GlobalValue}
use Rattle.ir_tree.specs.declared.module.GlobalValue.TheVariants as global
use Rattle.ir_tree.specs.declared.operand.Reg.{Reg}
use Rattle.ir_tree.specs.declared.operand.Symbol.{Symbol}
use Rattle.ir_meaning.specs.Frame.{AFunction, SymbolKind, Signature}
use Rattle.ir_meaning.specs.Memory.{Memory as MeantMemory}
use Rattle.ir_machine.specs.declared.memory.Memory.{Memory}
use Rattle.ir_machine.specs.declared.scalar.Base.{Base}
use Rattle.ir_interp.specs.Locals.{IsValid}
use Rattle.ir_interp.specs.Calls.{AreKinds, IsKind}
use Rattle.ir_meaning.specs.Programs.{body_of, code_of, defined, defined_blocks, defined_init, kind_of, program_of, regs_of, signature_of, storage_of}
use Rattle.ir_meaning.specs.Runnable.{AreRunnable, IsRunnableGlobal}
use Rattle.ir_meaning.proofs.Counted.{own_blocks}
use Rattle.ir_interp.specs.Code.{IsBody, IsCode, IsFunction, IsRunnable, Knows, block_in, block_of, counted_before, function_in, function_of}
use Rattle.ir_interp.specs.declared.code.Block.{Block}
use Rattle.ir_interp.specs.declared.code.Code.{Code}
use Rattle.ir_interp.specs.declared.code.Function.{Function}
use Rattle.machine_code.specs.MemoryAddresses.{address_at}
use Rattle.machine_code.specs.Openings.{HoldsVariables}
use Rattle.machine_code.specs.Tables.{IsTable, bytes_of, number_at}
use Rattle.machine_code.proofs.Addressing.{base_valid, has_addresses}
use Rattle.machine_code.proofs.Lists.{there}
use Rattle.machine_code.proofs.Naming.{code_is, distinct_symbols, global_there, kind_is, symbol_is}
use Rattle.machine_code.specs.Addresses.{AreValid, base_in}
use Rattle.machine_code.specs.Blocks.{IsBlockFor, IsFunctionFor}
use Rattle.machine_code.specs.Lowered.{IsLowered}
use Rattle.machine_code.specs.Programs.{IsBodyFor, IsBodyOf, IsEntityFor, IsSoundGlobal}
use Rattle.machine_code.specs.declared.addresses.Addresses.{Addresses}
use Rattle.machine_code.proofs.Meaning.{block_known, block_means, line_runs}
use Rattle.machine_code.proofs.Sounding.{sound_instrs}
use Rattle.machine_code.proofs.Zips.{zip_got, zip_long, zip_other}

-- ---- what is sound

sound_global : (g : GlobalValue) → IsRunnableGlobal g → IsSoundGlobal g
sound_global (global.Variable v) h = tt
sound_global (global.Function f) h = sound_instrs f h

pub sound_globals : (gs : List GlobalValue) → AreRunnable gs → All IsSoundGlobal gs
sound_globals gs a = λ i d l. sound_global _ (a.each i d l)

-- ---- addresses

pub are_valid : (gs : List GlobalValue) (t : Addresses) → IsTable gs t.bases → (m : Memory) (memory : MeantMemory) → HoldsVariables gs m memory → AreValid (symbols gs) m memory t
are_valid gs t h m memory holds s offset = by (base_in t s) refl where
  by : (o : Option Base) → base_in t s ≡ o → IsValid (symbols gs) m memory (address_at o offset)
  by None e = (tt, tt)
  by (Some b) e = base_valid gs m memory holds s b (h.only s b e)

-- ---- code

module _ (gs : List GlobalValue) (once : Distinct (symbols gs)) (t : Addresses) (h : IsTable gs t.bases) (code : Code) (entities : AllZip IsEntityFor gs code.entities.items) (bodies : AllZip (IsBodyFor t) gs code.functions.items) where
  abbrev names : List Symbol
  names = symbols gs

  abbrev sig : Signature
  sig = signature_of gs

  long_symbols : (xs : List GlobalValue) → length (symbols xs) ≡ length xs
  long_symbols [] = refl
  long_symbols (x ∷ xs) = omega (arith, long_symbols xs)

  kinds : AreKinds names sig code.entities.items
  kinds = record {
    long = zip_long IsEntityFor gs code.entities.items entities ∙ sym (long_symbols gs);
    kinds = λ i e f.
        let g = zip_other IsEntityFor gs code.entities.items i e entities f in
        subst (λ (s : Symbol). IsKind e (sig.kind s)) (sym (symbol_is gs i g.0 g.1.0))
        (subst (λ (k : SymbolKind). IsKind e k) (sym (kind_is gs once i g.0 g.1.0)) (g.1.1 (number_at 0 gs i)));
  }

  long_regs : (ps : List Param) → length (regs_of ps) ≡ length ps
  long_regs [] = refl
  long_regs (p ∷ ps) = omega (arith, long_regs ps)

  function_means : (i : ℕ) (f : MeantFunction) (g : Function) (b : MeantBlock) (bs : List MeantBlock) → slice_get gs i ≡ Some (global.Function f) → defined_blocks f ≡ b ∷ bs → IsFunctionFor t f g →
      IsFunction names sig code i f g
  function_means i f g b bs e blocks k = record {
    symbol = sym (symbol_is gs i (global.Function f) e);
    params = k.params;
    some = omega (arith, ap (λ (xs : List MeantBlock). length xs) (own_blocks f b bs blocks));
    long = k.long;
    blocks = λ q x c gx gc.
        block_means t names sig (has_addresses gs once t.bases h) f.blocks q (counted_before f.blocks q) x c (k.blocks q x c gx gc) refl;
    typed = λ params result z.
        let kind : AFunction params result ≡ AFunction (regs_of f.params) f.result =
        sym z ∙ ap (λ (s : Symbol). sig.kind s) (symbol_is gs i (global.Function f) e) ∙ kind_is gs once i (global.Function f) e ∙ ap (λ (xs : List MeantBlock). kind_of true f.symbol (body_of xs f)) blocks in
        let same : params ≡ regs_of f.params = cc kind in
        ap (λ (rs : List Reg). length rs) same ∙ long_regs f.params;
  }

  body_means : (i : ℕ) (g : GlobalValue) (o : Option Function) → slice_get gs i ≡ Some g → IsBodyFor t g o → IsBody names sig code i (code_of (defined (number_at 0 gs i) g)) o
  body_means i (global.Variable v) o e k = subst (λ (x : Option Function). IsBody names sig code i (code_of (storage_of (defined_init v) (number_at 0 gs i) v)) x) (sym k) (by (defined_init v)) where
    by : (init : Option Initial) → IsBody names sig code i (code_of (storage_of init (number_at 0 gs i) v)) None
    by None = tt
    by (Some x) = tt
  body_means i (global.Function f) o e k = by (defined_blocks f) o refl k where
    by : (bs : List MeantBlock) (x : Option Function) → defined_blocks f ≡ bs → IsBodyOf t f bs x → IsBody names sig code i (code_of (body_of bs f)) x
    by [] x z j = subst (λ (y : Option Function). IsBody names sig code i None y) (sym j) tt
    by (b ∷ bs) None z j = absurd j
    by (b ∷ bs) (Some x) z j = function_means i f x b bs e z j

  pub is_code : IsCode names (program_of gs) code
  is_code = record {
    kinds = kinds;
    long = zip_long (IsBodyFor t) gs code.functions.items bodies ∙ sym (long_symbols gs);
    bodies = λ i l.
        let g = global_there gs i l in
        let o = there code.functions.items i (omega (arith, l, long_symbols gs, zip_long (IsBodyFor t) gs code.functions.items bodies)) in
        subst (λ (f : Option MeantFunction). IsBody names sig code i f (function_of code i)) (sym (ap (λ (s : Symbol). (program_of gs).code s) (symbol_is gs i g.0 g.1) ∙ code_is gs once i g.0 g.1))
        (subst (λ (f : Option Function). IsBody names sig code i (code_of (defined (number_at 0 gs i) g.0)) f) (sym (ap (λ (x : Option (Option Function)). function_in x) o.1))
        (body_means i g.0 o.0 g.1 (zip_got (IsBodyFor t) gs code.functions.items i g.0 o.0 bodies g.1 o.1)));
  }

  -- ---- its blocks

  made_function : (x : GlobalValue) (g : Function) → IsBodyFor t x (Some g) → (f : MeantFunction) × IsFunctionFor t f g
  made_function (global.Variable v) g k = absurd (cc k)
  made_function (global.Function f) g k = by (defined_blocks f) k where
    by : (bs : List MeantBlock) → IsBodyOf t f bs (Some g) → (f : MeantFunction) × IsFunctionFor t f g
    by [] j = absurd (cc j)
    by (b ∷ bs) j = (f, j)

  made_block : (i q : ℕ) (c : Block) → block_of code i q ≡ Some c → (f : MeantFunction) × ((b : MeantBlock) × IsBlockFor t f.blocks (counted_before f.blocks q) b c)
  made_block i q c e = by (slice_get code.functions.items i) refl e where
    by : (o : Option (Option Function)) → slice_get code.functions.items i ≡ o → block_in (function_in o) q ≡ Some c → (f : MeantFunction) × ((b : MeantBlock) × IsBlockFor t f.blocks (counted_before f.blocks q) b c)
    by None z y = absurd (cc y)
    by (Some None) z y = absurd (cc y)
    by (Some (Some g)) z y =
        let x = zip_other (IsBodyFor t) gs code.functions.items i (Some g) bodies z in
        let f = made_function x.0 g x.1.1 in
        let b = there f.0.blocks q (omega (arith, slice_get_within g.blocks.items q c y, f.1.long)) in
        (f.0, (b.0, f.1.blocks q b.0 c b.1 y))

  pub is_runnable : IsRunnable code
  is_runnable i q c k line e g = let b = made_block i q c e in line_runs t b.0.blocks (counted_before b.0.blocks q) b.1.0 c b.1.1 k line g

  pub is_known : (m : Memory) (memory : MeantMemory) → HoldsVariables gs m memory → Knows names code m memory
  is_known m memory holds m' memory' keeps i q c e =
      let b = made_block i q c e in
      block_known t names m' memory' (are_valid gs t h m' memory' (λ j n g z k. keeps (record { number = n; position = n; size = bytes_of g }) (holds j n g z k))) b.0.blocks (counted_before b.0.blocks q) b.1.0 c b.1.1

  pub is_lowered : IsLowered gs code
  is_lowered = record { distinct = distinct_symbols gs once; is = is_code; runnable = is_runnable; knows = is_known }
