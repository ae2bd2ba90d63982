-- The live definitions of a program under their final names refine it.
use Rattle.std.proofs.Common.{◌≡◌, ◌≢◌, ℕ, zero, suc, ◌<◌, Bool, true, false, ◌&&◌, cond, not, if◌then◌else◌, List, [], ◌∷◌, length, option_map, Option, Some, None, slice_get, codes, bytes_eq, IsTrue, ◌⊎◌, inl, inr, refl, sym, ap, ap₂, ◌∙◌, subst, arith}
use Rattle.std.proofs.lemmas.Bool.{and_from, and_parts}
use Rattle.std.proofs.lemmas.Option.{slice_get-get_or, slice_get_within}
use Rattle.std.specs.List.{AllZip}
use Rattle.ir_tree.specs.Forms.{Form}
use Rattle.ir_tree.specs.Initials.{Initial}
use Rattle.ir_tree.specs.Layout.{size}
use Rattle.ir_tree.specs.Wholes.{symbols}
use Rattle.ir_tree.specs.declared.function.Function.{Function}
use Rattle.ir_tree.specs.declared.function.Variable.{Variable}
use Rattle.ir_tree.specs.declared.module.GlobalValue.{GlobalValue}
use Rattle.ir_tree.specs.declared.operand.Operand.{Operand}
use Rattle.ir_tree.specs.declared.operand.Operand.TheVariants.{Local, Null, Number as Constant, Poison as PoisonOf, Symbol as Named}
use Rattle.ir_tree.specs.declared.operand.Symbol.{Symbol}
use Rattle.ir_meaning.specs.Frame.{AFunction, AHost, AVariable, GetChar, SymbolKind, Missing, PutChar, named, value_of}
use Rattle.ir_meaning.specs.Memory.{MemoryBlock}
use Rattle.ir_meaning.specs.Program.{variables}
use Rattle.ir_meaning.specs.Refine.{Naming, RefinesUnder, own_names}
use Rattle.ir_tree.specs.Symbols.{symbol_eq}
use Rattle.ir_meaning.specs.declared.value.Value.{Value}
use Rattle.ir_meaning.specs.Rename.{BlocksName, BytesReach, CodeUnder, IsEmitted, IsKeptOf, IsThere, OperandNames, bytes_under, cells_under, kind_under, operand_under}
use Rattle.ir_meaning.proofs.Names.Emitted.{emitted_kept, finals}
use Rattle.ir_meaning.proofs.Names.Linked.{linked_all}
use Rattle.ir_meaning.proofs.Names.Moved.{cell_variable, value_under}
use Rattle.ir_tree.proofs.Symbols.{symbol_same, symbol_true}
use Rattle.ir_meaning.proofs.Runs.Transitive.{under_trans}
use Rattle.ir_meaning.specs.Constants.{initial_bytes}
use Rattle.ir_meaning.specs.Programs.{Body, Definition, Storage, block_of, code_of, definition_of, is_declared, kind_of, program_of, regs_of, signature_of, undefined_kind}
use Rattle.ir_meaning.proofs.Inside.{programs_inside}
use Rattle.ir_meaning.proofs.Numbered.{no_variable}
use Rattle.merge_meaning.specs.Globals.{InitialNames, initial_under, named_by}
use Rattle.merge_meaning.specs.Laws.{EmittedRefines, FinalNamesLeadBack, LinkedRefinesMerged}
use Rattle.merge_meaning.specs.Linked.{AreEmitted, DefinitionNames, Improves, IsUnder, back_among, back_names, back_of, number_in, number_of, symbol_at, variable_symbols}
use Rattle.merge_meaning.specs.Merged.{merged_globals}
use Rattle.merge_meaning.proofs.Constants.{ValueReaches, initial_moves, initial_reaches}
use Rattle.merge_meaning.proofs.Improved.{improved}
use Rattle.merge_meaning.proofs.Looked.{as_many, known, known_declared, known_host, known_short, long_unknown, outside, owned, placed, some_is, stands, symbol_of_number, weight}
use Rattle.merge_meaning.proofs.Names.{blocks_same, clash}
use Rattle.merge_meaning.proofs.Unnamed.{NamesKept, kept_code, kept_kind, other_gone, restricted, unnamed}

-- ---- the way back from final names

module _ (live : Symbol → Bool) (final : Symbol → Symbol) (apart : (s u : Symbol) → live s ≡ true → live u ≡ true → final s ≡ final u → s ≡ u) where
  back_later : (x s rest : Symbol) → live s ≡ true → rest ≡ s → (if live x && symbol_eq (final x) (final s) then x else rest) ≡ s
  back_later x s rest k e = by (live x && symbol_eq (final x) (final s)) refl
    where
      by : (b : Bool) → (live x && symbol_eq (final x) (final s)) ≡ b → (if b then x else rest) ≡ s
      by true t =
          let parts = and_parts (live x) (symbol_eq (final x) (final s)) t in
          apart x s parts.0 k (symbol_true (final x) (final s) parts.1)
      by false t = e

  back_here : (x s rest : Symbol) → live s ≡ true → x ≡ s → (if live x && symbol_eq (final x) (final s) then x else rest) ≡ s
  back_here x s rest k is =
      ap (λ (b : Bool). if b then x else rest)
      (and_from (live x) (symbol_eq (final x) (final s)) (ap live is ∙ k) (symbol_same (final x) (final s) (ap final is)))
      ∙ is

  back_stands : (ss : List Symbol) (j : ℕ) (s : Symbol) → slice_get ss j ≡ Some s → live s ≡ true → back_among live final ss (final s) ≡ s
  back_stands [] j s e k = absurd (cc e)
  back_stands (x ∷ ss) zero s e k = back_here x s (back_among live final ss (final s)) k (some_is x s e)
  back_stands (x ∷ ss) (suc j) s e k = back_later x s (back_among live final ss (final s)) k (back_stands ss j s e k)

  back_stays : (ss : List Symbol) (s : Symbol) → final s ≡ s → live s ≡ true → back_among live final ss (final s) ≡ s
  back_stays [] s e k = e
  back_stays (x ∷ ss) s e k = back_later x s (back_among live final ss (final s)) k (back_stays ss s e k)

pub back_final : FinalNamesLeadBack
back_final live final hs ls r s k = by (known hs s (r.reached.there s k))
  where
    by : ((d : Definition) × (definition_of hs s ≡ Some d)) ⊎ ((definition_of hs s ≡ None) × (s.home ≡ None)) → back_of live final hs (final s) ≡ s
    by (inl (d, e)) = let at = stands hs s d e in back_stands live final r.named.apart (symbols hs) at.0 s at.1 k
    by (inr (e, home)) = back_stays live final r.named.apart (symbols hs) s (r.named.keeps s home) k

-- ---- kinds and values

host_stays : (t : Naming) (home : Option ℕ) (name : List ℕ) → kind_under t (undefined_kind home name) ≡ undefined_kind home name
host_stays t (Some k) name = refl
host_stays t None name = by (bytes_eq name (codes "putchar")) (bytes_eq name (codes "getchar"))
  where
    by : (a b : Bool) → kind_under t (cond a (AHost PutChar) (cond b (AHost GetChar) Missing)) ≡ cond a (AHost PutChar) (cond b (AHost GetChar) Missing)
    by true b = refl
    by false true = refl
    by false false = refl

kind_missing : (t : Naming) (k : SymbolKind) → kind_under t k ≡ Missing → k ≡ Missing
kind_missing t (AFunction params result) e = absurd (cc e)
kind_missing t (AVariable number) e = absurd (cc e)
kind_missing t (AHost host) e = absurd (cc e)
kind_missing t Missing e = refl

named_under : (t : Naming) (k : SymbolKind) (s : Symbol) (offset : ℕ) → named (kind_under t k) (t.symbol s) offset ≡ value_under t (named k s offset)
named_under t (AFunction params result) s offset = refl
named_under t (AVariable number) s offset = refl
named_under t (AHost host) s offset = refl
named_under t Missing s offset = refl

named_reaches : (t : Naming) (live : Symbol → Bool) (k : SymbolKind) (s : Symbol) (offset : ℕ) → live s ≡ true → ((number : ℕ) → k ≡ AVariable number → IsThere t number)
    → ValueReaches t live (named k s offset)
named_reaches t live (AFunction params result) s offset lives there = lives
named_reaches t live (AVariable number) s offset lives there = there number refl
named_reaches t live (AHost host) s offset lives there = lives
named_reaches t live Missing s offset lives there = tt

-- ---- variables on both sides

-- the variable n of a live symbol, and the variable l that stands for it
record Twin (live : Symbol → Bool) (final : Symbol → Symbol) (hs ls : List GlobalValue) (s : Symbol) (n l : ℕ) : Type 0 where
  lives : live s ≡ true
  old : Variable
  init : Initial
  new : Variable
  other : Initial
  there : definition_of hs s ≡ Some (Storage n old init)
  here : definition_of ls (final s) ≡ Some (Storage l new other)
  shape : new.shape ≡ old.shape
  align : new.align ≡ old.align
  constant : new.constant ≡ old.constant
  same : other ≡ initial_under (named_by final) init

module _ (live : Symbol → Bool) (final : Symbol → Symbol) (hs ls : List GlobalValue) (r : AreEmitted live final hs ls) where
  -- the final name of each symbol, and the new number of each variable
  abbrev fin : Naming
  fin = record {
    symbol = final;
    variable = λ n. number_of ls (final (symbol_at hs n));
    count = variables (program_of hs);
    count' = variables (program_of ls);
  }

  abbrev names : Naming
  names = back_names live final hs ls

  abbrev old_value : Operand → Value
  old_value = value_of (signature_of hs) []

  abbrev new_value : Operand → Value
  new_value = value_of (signature_of ls) []

  back : (s : Symbol) → live s ≡ true → back_of live final hs (final s) ≡ s
  back s k = back_final live final hs ls r s k

  -- whether a name is final
  decided : (u : Symbol) → ((live (back_of live final hs u) ≡ true) × (final (back_of live final hs u) ≡ u)) ⊎ ((s : Symbol) → live s ≡ true → final s ≢ u)
  decided u = by (live (back_of live final hs u)) refl (symbol_eq (final (back_of live final hs u)) u) refl
    where
      came : (s : Symbol) → live s ≡ true → final s ≡ u → back_of live final hs u ≡ s
      came s k e = ap (back_of live final hs) (sym e) ∙ back s k

      by : (a : Bool) → live (back_of live final hs u) ≡ a → (b : Bool) → symbol_eq (final (back_of live final hs u)) u ≡ b
          → ((live (back_of live final hs u) ≡ true) × (final (back_of live final hs u) ≡ u)) ⊎ ((s : Symbol) → live s ≡ true → final s ≢ u)
      by true a true b = inl (a, symbol_true (final (back_of live final hs u)) u b)
      by false a b' b = inr (λ s k e. clash (live (back_of live final hs u)) a (ap live (came s k e) ∙ k))
      by true a false b =
          inr (λ s k e. clash (symbol_eq (final (back_of live final hs u)) u) b
          (symbol_same (final (back_of live final hs u)) u (ap final (came s k e) ∙ e)))

  -- ---- twins

  new_place : (s : Symbol) (n l : ℕ) (w : Twin live final hs ls s n l)
      → (slice_get (variable_symbols ls) l ≡ Some (final s)) × (slice_get (program_of ls).opening l ≡ Some (block_of new_value w.new w.other))
  new_place s n l w = placed new_value (final s) l w.new w.other ls w.here

  old_place : (s : Symbol) (n l : ℕ) (w : Twin live final hs ls s n l)
      → (slice_get (variable_symbols hs) n ≡ Some s) × (slice_get (program_of hs).opening n ≡ Some (block_of old_value w.old w.init))
  old_place s n l w = placed old_value s n w.old w.init hs w.there

  new_within : (s : Symbol) (n l : ℕ) → Twin live final hs ls s n l → l < variables (program_of ls)
  new_within s n l w = slice_get_within (program_of ls).opening l (block_of new_value w.new w.other) (new_place s n l w).1

  old_within : (s : Symbol) (n l : ℕ) → Twin live final hs ls s n l → n < variables (program_of hs)
  old_within s n l w = slice_get_within (program_of hs).opening n (block_of old_value w.old w.init) (old_place s n l w).1

  twin_back : (s : Symbol) (n l : ℕ) → Twin live final hs ls s n l → names.variable l ≡ n
  twin_back s n l w =
      ap (λ (u : Symbol). number_of hs (back_of live final hs u)) (symbol_of_number ls l (final s) (new_place s n l w).0)
      ∙ ap (number_of hs) (back s w.lives)
      ∙ ap number_in w.there

  twin_final : (s : Symbol) (n l : ℕ) → Twin live final hs ls s n l → fin.variable n ≡ l
  twin_final s n l w = ap (λ (u : Symbol). number_of ls (final u)) (symbol_of_number hs n s (old_place s n l w).0) ∙ ap number_in w.here

  -- two variables, of which one is the other under the final names, are twins
  twins : (s : Symbol) → live s ≡ true → (n : ℕ) (v : Variable) (init : Initial) → definition_of hs s ≡ Some (Storage n v init)
      → (l : ℕ) (w : Variable) (other : Initial) → definition_of ls (final s) ≡ Some (Storage l w other)
      → IsUnder (named_by final) (Some (Storage n v init)) (Some (Storage l w other)) → Twin live final hs ls s n l
  twins s k n v init d l w other e h = record {
    lives = k;
    old = v;
    init = init;
    new = w;
    other = other;
    there = d;
    here = e;
    shape = h.0;
    align = h.1;
    constant = h.2;
    same = h.3;
  }

  twin_of : (s : Symbol) → live s ≡ true → (n : ℕ) (v : Variable) (init : Initial) → definition_of hs s ≡ Some (Storage n v init) → (l : ℕ) × Twin live final hs ls s n l
  twin_of s k n v init d =
      by (definition_of ls (final s)) refl
      (subst (λ (o : Option Definition). IsUnder (named_by final) o (definition_of ls (final s))) d (r.defines s k))
    where
      by : (o : Option Definition) → definition_of ls (final s) ≡ o → IsUnder (named_by final) (Some (Storage n v init)) o → (l : ℕ) × Twin live final hs ls s n l
      by (Some (Storage l w other)) e h = (l, twins s k n v init d l w other e h)
      by None e h = absurd h
      by (Some (Body g)) e h = absurd h

  -- each variable of the linked module is the twin of one
  twin_found : (s : Symbol) → live s ≡ true → (l : ℕ) (w : Variable) (other : Initial) → definition_of ls (final s) ≡ Some (Storage l w other)
      → (n : ℕ) × Twin live final hs ls s n l
  twin_found s k l w other e =
      by (definition_of hs s) refl
      (subst (λ (o : Option Definition). IsUnder (named_by final) (definition_of hs s) o) e (r.defines s k))
    where
      by : (o : Option Definition) → definition_of hs s ≡ o → IsUnder (named_by final) o (Some (Storage l w other)) → (n : ℕ) × Twin live final hs ls s n l
      by (Some (Storage n v init)) d h = (n, twins s k n v init d l w other e h)
      by None d h = absurd h
      by (Some (Body f)) d h = absurd h

  twin_named : (l : ℕ) (u : Symbol) (w : Variable) (other : Initial) → definition_of ls u ≡ Some (Storage l w other) → (s : Symbol) × (n : ℕ) × Twin live final hs ls s n l
  twin_named l u w other e = by (decided u)
    where
      by : ((live (back_of live final hs u) ≡ true) × (final (back_of live final hs u) ≡ u)) ⊎ ((s : Symbol) → live s ≡ true → final s ≢ u)
          → (s : Symbol) × (n : ℕ) × Twin live final hs ls s n l
      by (inl (k, is)) = let found = twin_found (back_of live final hs u) k l w other (ap (definition_of ls) is ∙ e) in (back_of live final hs u, found.0, found.1)
      by (inr none) = let gone = r.only u none in absurd (cc (e, gone))

  twin_at : (l : ℕ) → l < variables (program_of ls) → (s : Symbol) × (n : ℕ) × Twin live final hs ls s n l
  twin_at l lt =
      let many : length (variable_symbols ls) ≡ variables (program_of ls) = as_many new_value ls in
      let here = slice_get-get_or (variable_symbols ls) l (record { home = None; name = [] }) (omega (arith, lt, many)) in
      let own = owned ls r.once l (symbol_at ls l) here in
      twin_named l (symbol_at ls l) own.0 own.1 own.2

  -- ---- what symbols are

  kinds : (s : Symbol) → live s ≡ true → (program_of ls).signature.kind (final s) ≡ kind_under fin ((program_of hs).signature.kind s)
  kinds s k = by (definition_of hs s) refl (definition_of ls (final s)) refl (r.defines s k) (r.reached.there s k)
    where
      by : (d : Option Definition) → definition_of hs s ≡ d → (e : Option Definition) → definition_of ls (final s) ≡ e → IsUnder (named_by final) d e
          → (kind_of (is_declared hs s) s d ≡ Missing → ⊥) → kind_of (is_declared ls (final s)) (final s) e ≡ kind_under fin (kind_of (is_declared hs s) s d)
      by None d None e h there =
          ap (λ (b : Bool). kind_of b (final s) None) (r.declares s k)
          ∙ ap (λ (x : Symbol). undefined_kind x.home x.name) (r.named.keeps s (known_host s.home s.name [] (outside (is_declared hs s) s there)).0)
          ∙ sym (host_stays fin s.home s.name)
          ∙ sym (ap (λ (b : Bool). kind_under fin (kind_of b s None)) (known_declared hs s (r.reached.there s k)))
      by (Some (Body f)) d (Some (Body g)) e h there = ap₂ AFunction (ap regs_of h.0) h.1
      by (Some (Storage n v init)) d (Some (Storage l w other)) e h there =
          let found = twin_of s k n v init d in
          let number : ◌≡◌ {A = Option Definition} (Some (Storage found.0 found.1.new found.1.other)) (Some (Storage l w other)) = sym found.1.here ∙ e in
          let same : found.0 ≡ l = cc number in
          ap (λ (x : ℕ). AVariable x)
          (sym (cell_variable fin n (old_within s n found.0 found.1) ∙ twin_final s n found.0 found.1 ∙ same))
      by None d (Some e') e h there = absurd h
      by (Some (Body f)) d None e h there = absurd h
      by (Some (Body f)) d (Some (Storage l w other)) e h there = absurd h
      by (Some (Storage n v init)) d None e h there = absurd h
      by (Some (Storage n v init)) d (Some (Body g)) e h there = absurd h

  codes_under : (s : Symbol) → live s ≡ true → CodeUnder fin ((program_of hs).code s) ((program_of ls).code (final s))
  codes_under s k = by (definition_of hs s) (definition_of ls (final s)) (r.defines s k)
    where
      by : (d e : Option Definition) → IsUnder (named_by final) d e → CodeUnder fin (code_of d) (code_of e)
      by None None h = tt
      by (Some (Body f)) (Some (Body g)) h = record { params = h.0; blocks = h.2 ∙ blocks_same (named_by final) fin (λ u. refl) f.blocks }
      by (Some (Storage n v init)) (Some (Storage l w other)) h = tt
      by None (Some e) h = absurd h
      by (Some (Body f)) None h = absurd h
      by (Some (Body f)) (Some (Storage l w other)) h = absurd h
      by (Some (Storage n v init)) None h = absurd h
      by (Some (Storage n v init)) (Some (Body g)) h = absurd h

  numbers : (s : Symbol) (n : ℕ) → live s ≡ true → (program_of hs).signature.kind s ≡ AVariable n → IsThere names n
  numbers s n k e = by (definition_of hs s) refl e
    where
      by : (d : Option Definition) → definition_of hs s ≡ d → kind_of (is_declared hs s) s d ≡ AVariable n → IsThere names n
      by None d e = absurd (no_variable n (is_declared hs s) s e)
      by (Some (Body f)) d e = absurd (cc e)
      by (Some (Storage m v init)) d e =
          let found = twin_of s k m v init d in
          let same : m ≡ n = cc e in
          (found.0, new_within s m found.0 found.1, twin_back s m found.0 found.1 ∙ same)

  -- ---- what variables begin with

  moves : (o : Operand) → OperandNames live o → new_value (operand_under (named_by final) o) ≡ value_under fin (old_value o)
  moves (Local x) k = refl
  moves (Constant w bits) k = refl
  moves Null k = refl
  moves (PoisonOf reg) k = refl
  moves (Named s offset) k = ap (λ (x : SymbolKind). named x (final s) offset) (kinds s k) ∙ named_under fin ((program_of hs).signature.kind s) s offset

  reaches : (o : Operand) → OperandNames live o → ValueReaches names live (old_value o)
  reaches (Local x) k = tt
  reaches (Constant w bits) k = tt
  reaches Null k = tt
  reaches (PoisonOf reg) k = tt
  reaches (Named s offset) k = named_reaches names live ((program_of hs).signature.kind s) s offset k (λ n e. numbers s n k e)

  twin_names : (s : Symbol) (n l : ℕ) (w : Twin live final hs ls s n l) → InitialNames live w.init
  twin_names s n l w = subst (λ (d : Option Definition). DefinitionNames live d) w.there (r.reached.closed s w.lives)

  twin_bytes : (s : Symbol) (n l : ℕ) (w : Twin live final hs ls s n l)
      → initial_bytes new_value w.new.shape w.other ≡ bytes_under fin (initial_bytes old_value w.old.shape w.init)
  twin_bytes s n l w =
      ap₂ (λ (f : Form). λ (v : Initial). initial_bytes new_value f v) w.shape w.same
      ∙ initial_moves (named_by final) fin live old_value new_value moves w.old.shape w.init (twin_names s n l w)

  twin_block : (s : Symbol) (n l : ℕ) (w : Twin live final hs ls s n l) → block_of new_value w.new w.other ≡ cells_under fin (block_of old_value w.old w.init)
  twin_block s n l w = λ i. record {
    size = size (w.shape i);
    align = w.align i;
    bytes = twin_bytes s n l w i;
    live = true;
    writable = not (w.constant i);
  }

  opened : (l : ℕ) → l < variables (program_of ls)
      → slice_get (program_of ls).opening l ≡ option_map (cells_under fin) (slice_get (program_of hs).opening (names.variable l))
  opened l lt = by (twin_at l lt)
    where
      by : ((s : Symbol) × (n : ℕ) × Twin live final hs ls s n l)
          → slice_get (program_of ls).opening l ≡ option_map (cells_under fin) (slice_get (program_of hs).opening (names.variable l))
      by (s, n, w) =
          (new_place s n l w).1 ∙ ap (λ (b : MemoryBlock). Some b) (twin_block s n l w)
          ∙ sym (ap (option_map (cells_under fin)) (ap (slice_get (program_of hs).opening) (twin_back s n l w) ∙ (old_place s n l w).1))

  pointed : (l : ℕ) (b : MemoryBlock) → l < variables (program_of ls) → slice_get (program_of hs).opening (names.variable l) ≡ Some b → BytesReach names live b.bytes
  pointed l b lt e = by (twin_at l lt)
    where
      by : ((s : Symbol) × (n : ℕ) × Twin live final hs ls s n l) → BytesReach names live b.bytes
      by (s, n, w) =
          let is : block_of old_value w.old w.init ≡ b =
          some_is (block_of old_value w.old w.init) b (sym (ap (slice_get (program_of hs).opening) (twin_back s n l w) ∙ (old_place s n l w).1) ∙ e) in
          subst (λ (x : MemoryBlock). BytesReach names live x.bytes) is
          (initial_reaches names live old_value reaches w.old.shape w.init (twin_names s n l w))

  closed : (s : Symbol) (f : Function) → live s ≡ true → (program_of hs).code s ≡ Some f → BlocksName live f.blocks
  closed s f k e = by (definition_of hs s) (r.reached.closed s k) e
    where
      by : (d : Option Definition) → DefinitionNames live d → code_of d ≡ Some f → BlocksName live f.blocks
      by None h e = absurd (cc e)
      by (Some (Body g)) h e = subst (λ (x : Function). BlocksName live x.blocks) (some_is g f e) h
      by (Some (Storage n v init)) h e = absurd (cc e)

  -- ---- the linked program is the live part of the program, but for functions of the outside that nobody names

  kept_final : (s : Symbol) → live s ≡ true → finals names fin live (final s) ≡ true
  kept_final s k =
      and_from (live (back_of live final hs (final s))) (symbol_eq (final (back_of live final hs (final s))) (final s)) (ap live (back s k) ∙ k)
      (symbol_same (final (back_of live final hs (final s))) (final s) (ap final (back s k)))

  not_kept : (u : Symbol) → ((s : Symbol) → live s ≡ true → final s ≢ u) → finals names fin live u ≡ false
  not_kept u none = by (finals names fin live u) refl
    where
      by : (b : Bool) → finals names fin live u ≡ b → b ≡ false
      by false e = refl
      by true e =
          let parts = and_parts (live (back_of live final hs u)) (symbol_eq (final (back_of live final hs u)) u) e in
          absurd (none (back_of live final hs u) parts.0 (symbol_true (final (back_of live final hs u)) u parts.1))

  pub is_emitted : IsEmitted names fin live (weight (symbols hs)) (restricted (finals names fin live) (program_of ls)) (program_of hs)
  is_emitted = record {
    count = refl;
    count' = refl;
    final_count = refl;
    within = λ l lt. let w = twin_at l lt in let back' = twin_back w.0 w.1 l w.2 in let inside = old_within w.0 w.1 l w.2 in omega (arith, back', inside);
    variable_back = λ l lt. let w = twin_at l lt in ap fin.variable (twin_back w.0 w.1 l w.2) ∙ twin_final w.0 w.1 l w.2;
    symbol_back = back;
    short = λ s k. known_short hs s (r.reached.there s k);
    longer = long_unknown hs;
    kinds = λ s k. kept_kind (finals names fin live) (program_of ls) (final s) (kept_final s k) ∙ kinds s k;
    code = λ s k. subst (λ (o : Option Function). CodeUnder fin ((program_of hs).code s) o)
        (sym (kept_code (finals names fin live) (program_of ls) (final s) (kept_final s k))) (codes_under s k);
    only = λ u none. other_gone (finals names fin live) (program_of ls) u (not_kept u none);
    opening = opened;
    closed = closed;
    numbers = numbers;
    pointers = pointed;
  }

  names_kept : NamesKept (finals names fin live) (weight (symbols ls)) (program_of ls)
  names_kept = record {
    short = λ u k. known_short ls u (known_kept u k);
    longer = long_unknown ls;
    closed = kept.closed;
    pointers = kept.pointers;
  }
    where
      kept : IsKeptOf names (finals names fin live) (weight (symbols hs)) (restricted (finals names fin live) (program_of ls)) (program_of hs)
      kept = emitted_kept names fin live (weight (symbols hs)) (restricted (finals names fin live) (program_of ls)) (program_of hs) is_emitted

      known_kept : (u : Symbol) → finals names fin live u ≡ true → (program_of ls).signature.kind u ≡ Missing → ⊥
      known_kept u k e =
          let parts = and_parts (live (back_of live final hs u)) (symbol_eq (final (back_of live final hs u)) u) k in
          let is = symbol_true (final (back_of live final hs u)) u parts.1 in
          r.reached.there (back_of live final hs u) parts.0
          (kind_missing fin ((program_of hs).signature.kind (back_of live final hs u))
          (sym (kinds (back_of live final hs u) parts.0) ∙ ap (program_of ls).signature.kind is ∙ e))

-- ---- the laws

-- the final names of roots
abbrev Renamed : (Symbol → Symbol) → (Symbol → Bool) → Symbol → Type 0
Renamed final IsRoot u = (s : Symbol) × IsTrue (IsRoot s) × (final s ≡ u)

module _ (gs hs ls : List GlobalValue) (bound : ℕ) (live : Symbol → Bool) (final : Symbol → Symbol) (better : AllZip (Improves (program_of gs) bound) gs hs)
    (r : AreEmitted live final hs ls) (IsRoot : Symbol → Bool) (roots : (s : Symbol) → IsTrue (IsRoot s) → (s.home ≡ None) × (live s ≡ true)) where
  -- the linked program is the live part of the improved one, but for functions of the outside that nobody names
  without_others : RefinesUnder (own_names (variables (program_of ls))) (program_of ls)
      (restricted (finals (names live final hs ls r) (fin live final hs ls r) live) (program_of ls)) (Renamed final IsRoot)
  without_others u (s, is_root, e) ns =
      unnamed (finals (names live final hs ls r) (fin live final hs ls r) live) (weight (symbols ls)) (program_of ls) (names_kept live final hs ls r) u
      (subst (λ (x : Symbol). finals (names live final hs ls r) (fin live final hs ls r) live x ≡ true) e (kept_final live final hs ls r s (roots s is_root).1))
      ns

  -- and that one refines the program
  live_part : RefinesUnder (names live final hs ls r) (restricted (finals (names live final hs ls r) (fin live final hs ls r) live) (program_of ls)) (program_of gs)
      (Renamed final IsRoot)
  live_part =
      linked_all (names live final hs ls r) (fin live final hs ls r) live (weight (symbols hs)) bound
      (restricted (finals (names live final hs ls r) (fin live final hs ls r) live) (program_of ls)) (program_of hs) (program_of gs)
      (programs_inside gs) (improved gs hs bound better) (is_emitted live final hs ls r) IsRoot (λ s h. (roots s h).1)

  both_refine : RefinesUnder (names live final hs ls r) (program_of ls) (program_of gs) (Renamed final IsRoot)
  both_refine =
      under_trans (own_names (variables (program_of ls))) (names live final hs ls r) (record { middle = refl; within = λ l lt. lt }) (program_of ls)
      (restricted (finals (names live final hs ls r) (fin live final hs ls r) live) (program_of ls)) (program_of gs) (Renamed final IsRoot) (Renamed final IsRoot)
      (λ u h. h) without_others live_part

pub emitted_refines : EmittedRefines
emitted_refines gs hs ls bound live final better r IsRoot roots root is arguments =
    both_refine gs hs ls bound live final better r IsRoot roots root (root, is, r.named.keeps root (roots root is).0) arguments

pub linked_merged : LinkedRefinesMerged
linked_merged ms hs ls bound live final better r IsRoot roots =
    emitted_refines (merged_globals ms) hs ls bound live final better r IsRoot roots
