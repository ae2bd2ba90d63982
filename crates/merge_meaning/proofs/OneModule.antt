-- The merged program of one module is the program of its global values.
use Rattle.std.proofs.Common.{◌≡◌, ℕ, zero, suc, Bool, true, false, ◌&&◌, ◌||◌, cond, is_none, nat_eq, if◌then◌else◌, List, [], ◌∷◌, ◌++◌, map, filter, flat_map, option_map, Option, Some, None, slice_get, bytes_eq, refl, sym, ap, ap₂, ◌∙◌, subst, append-nil}
use Rattle.std.proofs.lemmas.Bool.{and_from}
use Rattle.std.specs.Option.{option_eq}
use Rattle.std.proofs.lemmas.Slice.Eq.{bytes_eq-Decides}
use Rattle.ir_tree.specs.Linkages.{defines}
use Rattle.ir_tree.specs.Initials.{Initial, plain, zeros, bytes, elements, members, Initials, no_initials, initial}
use Rattle.ir_tree.specs.declared.block.Block.{Block}
use Rattle.ir_tree.specs.declared.function.Linkage.{Linkage}
use Rattle.ir_tree.specs.declared.function.Linkage.TheVariants as linkage
use Rattle.ir_tree.specs.declared.module.GlobalValue.{GlobalValue}
use Rattle.ir_tree.specs.declared.module.GlobalValue.TheVariants as global
use Rattle.ir_tree.specs.declared.module.Module.{Module}
use Rattle.ir_tree.specs.declared.operand.Operand.{Operand}
use Rattle.ir_tree.specs.declared.operand.Symbol.{Symbol}
use Rattle.ir_meaning.specs.Refine.{Naming}
use Rattle.ir_tree.specs.Symbols.{symbol_eq}
use Rattle.ir_meaning.specs.declared.value.Value.{Value}
use Rattle.ir_meaning.specs.Rename.{block_under}
use Rattle.ir_meaning.specs.Programs.{Definition, behind, body_of, defined, definition_from, opening_from, or_else, program_of, storage_in, storage_of, symbol_of}
use Rattle.symbol_resolve.specs.Mentions.{Mention, function_standing, is_strong, is_weak, mention, mentioned, mentions, modules_with, standing_of as standing_with, variable_standing}
use Rattle.symbol_resolve.specs.Prevailing.{first, or_else as either, prevailing}
use Rattle.symbol_resolve.specs.declared.mention.SymbolKind.{SymbolKind}
use Rattle.symbol_resolve.specs.declared.mention.SymbolKind.TheVariants as kind
use Rattle.symbol_resolve.specs.declared.mention.Standing.{Standing}
use Rattle.symbol_resolve.specs.declared.mention.Standing.TheVariants as standing
use Rattle.merge_meaning.specs.Globals.{function_under, global_under, initial_under, initials_under, named_by, variable_under}
use Rattle.merge_meaning.specs.Laws.{NoLocals, OneModule, OneModuleOfAll}
use Rattle.merge_meaning.specs.Merged.{given_by, is_own, local_to, prevails, prevails_as, standing_of, symbol_in, with_hosts}
use Rattle.merge_meaning.proofs.Hosting.{same_hosted}
use Rattle.merge_meaning.proofs.Names.{Stays, blocks_stay, clash, operand_stays}

-- ---- what is dropped is declared alone

module _ (change : GlobalValue → GlobalValue) (keeps : GlobalValue → Bool) where
  -- what is dropped is a declaration
  abbrev Drops : List GlobalValue → Type 0
  Drops [] = Unit {0}
  Drops (g ∷ gs) = (keeps g ≡ false → (n : ℕ) → defined n (change g) ≡ None) × Drops gs

  neither : (b : Bool) (later : Option Definition) → or_else (cond b None None) later ≡ later
  neither true later = refl
  neither false later = refl

  kept_definition : (gs : List GlobalValue) → Drops gs → (n : ℕ) (s : Symbol)
      → definition_from n (map change (filter keeps gs)) s ≡ definition_from n (map change gs) s
  kept_definition [] h n s = refl
  kept_definition (g ∷ gs) h n s = by (keeps g) refl (λ m. kept_definition gs h.1 m s)
    where
      by : (b : Bool) → keeps g ≡ b → ((m : ℕ) → definition_from m (map change (filter keeps gs)) s ≡ definition_from m (map change gs) s)
          → definition_from n (map change (cond b (g ∷ filter keeps gs) (filter keeps gs))) s ≡ definition_from n (map change (g ∷ gs)) s
      by true e rest = ap (or_else (cond (symbol_eq (symbol_of (change g)) s) (defined n (change g)) None)) (rest (behind n (defined n (change g))))
      by false e rest =
          rest n
          ∙ sym (ap (λ (d : Option Definition). or_else (cond (symbol_eq (symbol_of (change g)) s) d None) (definition_from (behind n d) (map change gs) s)) (h.0 e n)
          ∙ neither (symbol_eq (symbol_of (change g)) s) (definition_from n (map change gs) s))

  kept_opening : (value : Operand → Value) (gs : List GlobalValue) → Drops gs
      → opening_from value (map change (filter keeps gs)) ≡ opening_from value (map change gs)
  kept_opening value [] h = refl
  kept_opening value (g ∷ gs) h = by (keeps g) refl (kept_opening value gs h.1)
    where
      by : (b : Bool) → keeps g ≡ b → opening_from value (map change (filter keeps gs)) ≡ opening_from value (map change gs)
          → opening_from value (map change (cond b (g ∷ filter keeps gs) (filter keeps gs))) ≡ opening_from value (map change (g ∷ gs))
      by true e rest = ap (storage_in value (defined 0 (change g))) rest
      by false e rest = rest ∙ sym (ap (λ (d : Option Definition). storage_in value d (opening_from value (map change gs))) (h.0 e 0))

  kept_program : (gs : List GlobalValue) → Drops gs → program_of (with_hosts (map change (filter keeps gs))) ≡ program_of (with_hosts (map change gs))
  kept_program gs h =
      same_hosted (map change (filter keeps gs)) (map change gs) (kept_definition gs h 0) (λ value. kept_opening value gs h)

-- ---- mentions in module 0

itself : (name : List ℕ) → bytes_eq name name ≡ true
itself name = (bytes_eq-Decides name name).1 refl

-- a mention in module 0
abbrev told : List ℕ → SymbolKind → Standing → Mention
told n of st = record { number = 0; name = n; kind = of; standing = st }

abbrev numbers : List Mention → List ℕ
numbers ms = map (λ m. m.number) ms

abbrev passing : (Mention → Bool) → List ℕ → List Mention → List Mention
passing test name ms = filter (λ m. bytes_eq name m.name && test m) ms

-- what is true of module 0 stays true of the first module, whatever is mentioned before
module _ (P : Option ℕ → Type 0) (first_is : P (Some 0)) (test : Mention → Bool) (name : List ℕ) where
  mentioned_keeps : (n : List ℕ) (of : SymbolKind) (st : Option Standing) (rest : List Mention)
      → P (first (modules_with test rest name)) → P (first (modules_with test (mentioned 0 n of st ++ rest) name))
  mentioned_keeps n of None rest h = h
  mentioned_keeps n of (Some st) rest h = by (bytes_eq name n && test (told n of st))
    where
      by : (b : Bool) → P (first (numbers
          (cond b (told n of st ∷ passing test name rest)
          (passing test name rest))))
      by true = first_is
      by false = h

  mention_keeps : (g : GlobalValue) (rest : List Mention) → P (first (modules_with test rest name)) → P (first (modules_with test (mention 0 g ++ rest) name))
  mention_keeps (global.Variable v) rest h = mentioned_keeps v.symbol.name kind.Variable (variable_standing v.init v.linkage) rest h
  mention_keeps (global.Function f) rest h = mentioned_keeps f.symbol.name kind.Function (function_standing f.blocks f.linkage) rest h

-- the first module that mentions a name so is 0, or there is none
abbrev AtMostZero : Option ℕ → Type 0
AtMostZero None = Unit {0}
AtMostZero (Some k) = k ≡ 0

at_most_zero : (test : Mention → Bool) (name : List ℕ) (gs : List GlobalValue) → AtMostZero (first (modules_with test (flat_map (mention 0) gs) name))
at_most_zero test name [] = tt
at_most_zero test name (g ∷ gs) = mention_keeps AtMostZero refl test name g (flat_map (mention 0) gs) (at_most_zero test name gs)

mentioned_first : (test : Mention → Bool) (n : List ℕ) (of : SymbolKind) (st : Standing) (rest : List Mention)
    → test (told n of st) ≡ true → first (modules_with test (mentioned 0 n of (Some st) ++ rest) n) ≡ Some 0
mentioned_first test n of st rest t =
    ap (λ (b : Bool). first (numbers
    (cond b (told n of st ∷ passing test n rest)
    (passing test n rest))))
    (and_from (bytes_eq n n) (test (told n of st)) (itself n) t)

mention_first : (test : Mention → Bool) (g : GlobalValue) (st : Standing) (rest : List Mention) → standing_of g ≡ Some st
    → ((n : List ℕ) (of : SymbolKind) → test (told n of st) ≡ true)
    → first (modules_with test (mention 0 g ++ rest) (symbol_of g).name) ≡ Some 0
mention_first test (global.Variable v) st rest e t =
    subst (λ (o : Option Standing). first (modules_with test (mentioned 0 v.symbol.name kind.Variable o ++ rest) v.symbol.name) ≡ Some 0) (sym e)
    (mentioned_first test v.symbol.name kind.Variable st rest (t v.symbol.name kind.Variable))
mention_first test (global.Function f) st rest e t =
    subst (λ (o : Option Standing). first (modules_with test (mentioned 0 f.symbol.name kind.Function o ++ rest) f.symbol.name) ≡ Some 0) (sym e)
    (mentioned_first test f.symbol.name kind.Function st rest (t f.symbol.name kind.Function))

some_global : (g h : GlobalValue) → ◌≡◌ {A = Option GlobalValue} (Some g) (Some h) → g ≡ h
some_global g h e = cc e

found_first : (test : Mention → Bool) (gs : List GlobalValue) (j : ℕ) (g : GlobalValue) (st : Standing) → slice_get gs j ≡ Some g → standing_of g ≡ Some st
    → ((n : List ℕ) (of : SymbolKind) → test (told n of st) ≡ true)
    → first (modules_with test (flat_map (mention 0) gs) (symbol_of g).name) ≡ Some 0
found_first test [] j g st at e t = absurd (cc at)
found_first test (h ∷ gs) zero g st at e t =
    subst (λ (x : GlobalValue). first (modules_with test (mention 0 x ++ flat_map (mention 0) gs) (symbol_of g).name) ≡ Some 0) (sym (some_global h g at))
    (mention_first test g st (flat_map (mention 0) gs) e t)
found_first test (h ∷ gs) (suc j) g st at e t =
    mention_keeps (λ (o : Option ℕ). o ≡ Some 0) refl test (symbol_of g).name h (flat_map (mention 0) gs) (found_first test gs j g st at e t)

-- ---- what prevails in a link of one module

either_zero : (o w : Option ℕ) → AtMostZero o → w ≡ Some 0 → either o w ≡ Some 0
either_zero None w h e = e
either_zero (Some k) w h e = ap (λ (x : ℕ). Some x) h

-- of the definitions of one module all prevail
not_prevailing : (m : Module) (j : ℕ) (g : GlobalValue) → slice_get m.globals j ≡ Some g → prevails (m ∷ []) 0 g ≡ false → standing_of g ≡ Some standing.Declared
not_prevailing m j g at no' = by (standing_of g) refl no'
  where
    all : mentions (m ∷ []) ≡ flat_map (mention 0) m.globals
    all = append-nil (flat_map (mention 0) m.globals)

    chosen : either (first (modules_with is_strong (flat_map (mention 0) m.globals) (symbol_of g).name))
        (first (modules_with is_weak (flat_map (mention 0) m.globals) (symbol_of g).name)) ≡ Some 0
        → option_eq nat_eq (prevailing (mentions (m ∷ [])) (symbol_of g).name) (Some 0) ≡ true
    chosen e =
        ap (λ (ms : List Mention). option_eq nat_eq (prevailing ms (symbol_of g).name) (Some 0)) all
        ∙ ap (λ (o : Option ℕ). option_eq nat_eq o (Some 0)) e

    by : (st : Option Standing) → standing_of g ≡ st → prevails_as (prevailing (mentions (m ∷ [])) (symbol_of g).name) 0 st ≡ false
        → standing_of g ≡ Some standing.Declared
    by None e f = absurd (cc f)
    by (Some standing.Declared) e f = e
    by (Some standing.Strong) e f =
        absurd (clash (option_eq nat_eq (prevailing (mentions (m ∷ [])) (symbol_of g).name) (Some 0)) f
        (chosen (ap (λ (o : Option ℕ). either o (first (modules_with is_weak (flat_map (mention 0) m.globals) (symbol_of g).name)))
        (found_first is_strong m.globals j g standing.Strong at e (λ n of. refl)))))
    by (Some standing.Weak) e f =
        absurd (clash (option_eq nat_eq (prevailing (mentions (m ∷ [])) (symbol_of g).name) (Some 0)) f
        (chosen (either_zero (first (modules_with is_strong (flat_map (mention 0) m.globals) (symbol_of g).name))
        (first (modules_with is_weak (flat_map (mention 0) m.globals) (symbol_of g).name))
        (at_most_zero is_strong (symbol_of g).name m.globals)
        (found_first is_weak m.globals j g standing.Weak at e (λ n of. refl)))))

declared_copy : (l : Linkage) → standing_with l ≡ Some standing.Declared → l ≡ linkage.AvailableExternally
declared_copy linkage.Private e = absurd (cc e)
declared_copy linkage.Internal e = absurd (cc e)
declared_copy linkage.External e = absurd (cc e)
declared_copy linkage.Linkonce e = absurd (cc e)
declared_copy linkage.LinkonceOdr e = absurd (cc e)
declared_copy linkage.Weak e = absurd (cc e)
declared_copy linkage.WeakOdr e = absurd (cc e)
declared_copy linkage.AvailableExternally e = refl

-- what counts as a declaration is one
declares : (t : Naming) (g : GlobalValue) → standing_of g ≡ Some standing.Declared → (n : ℕ) → defined n (global_under t g) ≡ None
declares t (global.Function f) e n = by f.blocks e
  where
    none : (counts : Bool) → body_of (cond counts [] []) (function_under t f) ≡ None
    none true = refl
    none false = refl

    by : (blocks : List Block) → function_standing blocks f.linkage ≡ Some standing.Declared → body_of (cond (defines f.linkage) (map (block_under t) blocks) []) (function_under t f) ≡ None
    by [] e = none (defines f.linkage)
    by (b ∷ bs) e = ap (λ (l : Linkage). body_of (cond (defines l) (map (block_under t) (b ∷ bs)) []) (function_under t f)) (declared_copy f.linkage e)
declares t (global.Variable v) e n = by v.init e
  where
    none : (counts : Bool) → storage_of (cond counts None None) n (variable_under t v) ≡ None
    none true = refl
    none false = refl

    by : (init : Option Initial) → variable_standing init v.linkage ≡ Some standing.Declared
        → storage_of (cond (defines v.linkage) (option_map (initial_under t) init) None) n (variable_under t v) ≡ None
    by None e = none (defines v.linkage)
    by (Some init) e = ap (λ (l : Linkage). storage_of (cond (defines l) (Some (initial_under t init)) None) n (variable_under t v)) (declared_copy v.linkage e)

drops : (m : Module) (gs : List GlobalValue) → ((j : ℕ) (g : GlobalValue) → slice_get gs j ≡ Some g → (i : ℕ) × (slice_get m.globals i ≡ Some g))
    → Drops (global_under (named_by (symbol_in 0 m.globals))) (prevails (m ∷ []) 0) gs
drops m [] inside = tt
drops m (g ∷ gs) inside = (
  λ no' n. declares (named_by (symbol_in 0 m.globals)) g (not_prevailing m (inside 0 g refl).0 g (inside 0 g refl).1 no') n,
  drops m gs (λ j h e. inside (suc j) h e),
)

pub one_module : OneModule
one_module m =
    ap (λ (gs : List GlobalValue). program_of (with_hosts gs)) (append-nil (given_by (m ∷ []) 0 m.globals))
    ∙ kept_program (global_under (named_by (symbol_in 0 m.globals))) (prevails (m ∷ []) 0) m.globals (drops m m.globals (λ j g e. (j, e)))

-- ---- a module without locals

no_own : (gs : List GlobalValue) → NoLocals gs → (name : List ℕ) → is_own gs name ≡ false
no_own [] shared name = refl
no_own (g ∷ gs) shared name = by (standing_of g) refl (bytes_eq name (symbol_of g).name) (no_own gs shared.1 name)
  where
    by : (st : Option Standing) → standing_of g ≡ st → (b : Bool) → is_own gs name ≡ false → ((is_none st && b) || is_own gs name) ≡ false
    by None e b rest = absurd (shared.0 e)
    by (Some st) e b rest = rest

mutual
  initial_stays : (t : Naming) → Stays t → (v : Initial) → initial_under t v ≡ v
  initial_stays t h (plain o) = ap (λ (x : Operand). plain x) (operand_stays t h o)
  initial_stays t h zeros = refl
  initial_stays t h (bytes text) = refl
  initial_stays t h (elements parts) = ap elements (initials_stay t h parts)
  initial_stays t h (members packed parts) = ap (members packed) (initials_stay t h parts)

  initials_stay : (t : Naming) → Stays t → (vs : Initials) → initials_under t vs ≡ vs
  initials_stay t h no_initials = refl
  initials_stay t h (initial f v vs) = ap₂ (λ (x : Initial). λ (xs : Initials). initial f x xs) (initial_stays t h v) (initials_stay t h vs)

maybe_initial_stays : (t : Naming) → Stays t → (v : Option Initial) → option_map (initial_under t) v ≡ v
maybe_initial_stays t h None = refl
maybe_initial_stays t h (Some v) = ap (λ (x : Initial). Some x) (initial_stays t h v)

pub global_stays : (t : Naming) → Stays t → (g : GlobalValue) → global_under t g ≡ g
global_stays t h (global.Variable v) =
    ap₂ (λ (s : Symbol). λ (init : Option Initial). global.Variable (record v { symbol = s; init = init })) (h v.symbol) (maybe_initial_stays t h v.init)
global_stays t h (global.Function f) =
    ap₂ (λ (s : Symbol). λ (blocks : List Block). global.Function (record f { symbol = s; blocks = blocks })) (h f.symbol) (blocks_stay t h f.blocks)

pub globals_stay : (t : Naming) → Stays t → (gs : List GlobalValue) → map (global_under t) gs ≡ gs
globals_stay t h [] = refl
globals_stay t h (g ∷ gs) = ap₂ (λ (x : GlobalValue). λ (xs : List GlobalValue). x ∷ xs) (global_stays t h g) (globals_stay t h gs)

pub one_module_of_all : OneModuleOfAll
one_module_of_all m shared = one_module m ∙ ap (λ (gs : List GlobalValue). program_of (with_hosts gs)) (globals_stay (named_by (symbol_in 0 m.globals)) stays m.globals)
  where
    stays : Stays (named_by (symbol_in 0 m.globals))
    stays s = ap (λ (b : Bool). if b then local_to 0 s.name else s) (no_own m.globals shared s.name)
