-- No modules are linked to two.
use Rattle.std.proofs.Common.{◌≡◌, ◌∙◌, ℕ, suc, Bool, List, [], ◌∷◌, All, Option, refl, ap, subst, sym}
use Rattle.std.specs.Prelude.{slice_index_or}
use Rattle.std.specs.List.{AllZip}
use Rattle.ir_tree.specs.Wholes.{GlobalSound, IsVerified}
use Rattle.ir_tree.specs.declared.function.Function.{Function}
use Rattle.ir_tree.specs.declared.module.GlobalValue.{GlobalValue}
use Rattle.ir_tree.specs.declared.module.GlobalValue.TheVariants as global
use Rattle.ir_tree.specs.declared.module.Module.{Module}
use Rattle.ir_tree.specs.declared.operand.Symbol.{Symbol}
use Rattle.combined_index.specs.Combined.{Combined}
use Rattle.merge_meaning.specs.Laws.{PartsAreSound}
use Rattle.merge_meaning.specs.Lives.{parts}
use Rattle.back_end.specs.Inlinable.{AreSound}
use Rattle.back_end.specs.Laws.{MadeIsOne}
use Rattle.emit.specs.Emissions.{IsEmission}
use Rattle.emit.specs.Laws.{EmissionIsOne}
use Rattle.thin_link.specs.Laws.{DecisionsAreOne}
use Rattle.importer.specs.Brought.{joined}
use Rattle.importer.proofs.Members.{Stands, behind, in_front, of_each}
use Rattle.link_one.specs.Linked.{AreCompiled, AreLinkedGlobals, IsLinked, IsLinkedGlobal, bodies_for}
use Rattle.link_one.proofs.Bettering.{among_sound}
use Rattle.link_one.proofs.Compiling.{bodies_among}
use Rattle.link_one.proofs.Linkable.{parts_sound_in}

-- ---- what is compiled

module _ (one : MadeIsOne) (bodies : List ℕ → Option Function) (sounds : AreSound bodies) where
  global_is_one : (g h k : GlobalValue) → GlobalSound g → IsLinkedGlobal bodies g h → IsLinkedGlobal bodies g k → h ≡ k
  global_is_one (global.Variable v) (global.Variable w) (global.Variable u) sound a b = ap global.Variable (a ∙ sym b)
  global_is_one (global.Function f) (global.Function g) (global.Function h) sound a b = ap global.Function (one bodies f g h sound sounds a b)
  global_is_one (global.Variable v) (global.Function g) k sound a b = absurd a
  global_is_one (global.Function f) (global.Variable w) k sound a b = absurd a
  global_is_one (global.Variable v) (global.Variable w) (global.Function h) sound a b = absurd b
  global_is_one (global.Function f) (global.Function g) (global.Variable u) sound a b = absurd b

  globals_are_one : (gs hs ks : List GlobalValue) → ((g : GlobalValue) → Stands gs g → GlobalSound g) → AllZip (IsLinkedGlobal bodies) gs hs → AllZip (IsLinkedGlobal bodies) gs ks → hs ≡ ks
  globals_are_one [] [] [] sound a b = refl
  globals_are_one [] (h ∷ hs) ks sound a b = absurd a
  globals_are_one [] [] (k ∷ ks) sound a b = absurd b
  globals_are_one (g ∷ gs) [] ks sound a b = absurd a
  globals_are_one (g ∷ gs) (h ∷ hs) [] sound a b = absurd b
  globals_are_one (g ∷ gs) (h ∷ hs) (k ∷ ks) sound a b =
      let first : h ≡ k = global_is_one g h k (sound g (0, refl)) a.0 b.0 in
      let rest : hs ≡ ks = globals_are_one gs hs ks (λ f s. sound f (suc s.0, s.1)) a.1 b.1 in
      λ i. first i ∷ rest i

module _ (one : MadeIsOne) (limit : ℕ) (all : List GlobalValue) (ss : List Symbol) (suffixes imports : List (List ℕ)) (sound : All GlobalSound all) where
  units_are_one : (k : ℕ) (ps us vs : List (List GlobalValue)) → ((g : GlobalValue) → Stands (joined ps) g → Stands all g)
      → AreCompiled limit all ss suffixes imports k ps us → AreCompiled limit all ss suffixes imports k ps vs → us ≡ vs
  units_are_one k [] [] [] within a b = refl
  units_are_one k [] (u ∷ us) vs within a b = absurd a
  units_are_one k [] [] (v ∷ vs) within a b = absurd b
  units_are_one k (p ∷ ps) [] vs within a b = absurd a
  units_are_one k (p ∷ ps) (u ∷ us) [] within a b = absurd b
  units_are_one k (p ∷ ps) (u ∷ us) (v ∷ vs) within a b =
      let own : (g : GlobalValue) → Stands p g → Stands all g = λ g s. within g (in_front p (joined ps) g s) in
      let bodies_sound : AreSound (bodies_for limit all ss suffixes (slice_index_or imports k []) p) =
      among_sound limit all (bodies_for limit all ss suffixes (slice_index_or imports k []) p) sound (bodies_among limit all ss suffixes (slice_index_or imports k []) p own) in
      let first : u ≡ v = globals_are_one one (bodies_for limit all ss suffixes (slice_index_or imports k []) p) bodies_sound p u v (λ g s. of_each GlobalSound all g sound (own g s)) a.0 b.0 in
      let rest : us ≡ vs = units_are_one (suc k) ps us vs (λ g s. within g (behind p (joined ps) g s)) a.1 b.1 in
      λ i. first i ∷ rest i

-- ---- the linked module

module _ (sound : PartsAreSound) (one : MadeIsOne) (decisions : DecisionsAreOne) (emission : EmissionIsOne) (exports : List (List ℕ)) (import_limit inline_limit : ℕ) (suffixes : List (List ℕ)) (ms : List Module) (verified : All IsVerified ms) where
  abbrev Made : Combined → List Bool → List (List ℕ) → List GlobalValue → Type 0
  Made index live imports globals = AreLinkedGlobals exports inline_limit suffixes ms index.symbols live imports globals

  globals_once : (l : Module) (a : IsLinked exports import_limit inline_limit suffixes ms l) (gs : List GlobalValue) → Made a.index a.live a.imports gs → gs ≡ l.globals
  globals_once l a gs b =
      let units : b.units ≡ a.made.units =
      units_are_one one inline_limit (joined (parts ms a.index.symbols a.live suffixes)) a.index.symbols suffixes a.imports (parts_sound_in sound ms a.index.symbols a.live suffixes verified) 0
      (parts ms a.index.symbols a.live suffixes) b.units a.made.units (λ g s. s) b.compiled a.made.compiled in
      emission exports (joined a.made.units) gs l.globals
      (subst (λ (us : List (List GlobalValue)). IsEmission exports (joined us) gs) units b.emitted) a.made.emitted

  pub module_once : (l k : Module) → IsLinked exports import_limit inline_limit suffixes ms l → IsLinked exports import_limit inline_limit suffixes ms k → l ≡ k
  module_once l k a b =
      let same = decisions ms exports import_limit a.index b.index a.live b.live a.imports b.imports a.thin b.thin in
      let made_too : Made a.index a.live a.imports k.globals =
      subst (λ (is : List (List ℕ)). Made a.index a.live is k.globals) same.2
      (subst (λ (ls : List Bool). Made a.index ls b.imports k.globals) same.1 (subst (λ (c : Combined). Made c b.live b.imports k.globals) same.0 b.made)) in
      let globals : k.globals ≡ l.globals = globals_once l a k.globals made_too in
      let layout : l.datalayout ≡ k.datalayout = a.datalayout ∙ sym b.datalayout in
      let triple : l.triple ≡ k.triple = a.triple ∙ sym b.triple in
      λ i. record { datalayout = layout i; triple = triple i; globals = sym globals i }
