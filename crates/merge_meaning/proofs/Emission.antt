-- The live definitions in their order, each under its final name, are what is emitted.
use Rattle.std.proofs.Common.{◌≡◌, ◌≢◌, ℕ, zero, suc, Bool, true, false, ◌||◌, cond, List, [], ◌∷◌, map, filter, option_map, Option, Some, None, slice_get, refl, sym, ap, ◌∙◌, subst, arith}
use Rattle.ir_tree.specs.Linkages.{defines}
use Rattle.ir_tree.specs.Formed.{Distinct}
use Rattle.ir_tree.specs.Initials.{Initial}
use Rattle.ir_tree.specs.Wholes.{global_symbol, symbols}
use Rattle.ir_tree.specs.declared.block.Block.{Block}
use Rattle.ir_tree.specs.declared.function.Function.{Function}
use Rattle.ir_tree.specs.declared.function.Variable.{Variable}
use Rattle.ir_tree.specs.declared.module.GlobalValue.{GlobalValue}
use Rattle.ir_tree.specs.declared.module.GlobalValue.TheVariants as global
use Rattle.ir_tree.specs.declared.operand.Symbol.{Symbol}
use Rattle.ir_meaning.specs.Refine.{Naming}
use Rattle.ir_tree.specs.Symbols.{symbol_eq}
use Rattle.ir_meaning.specs.Rename.{block_under}
use Rattle.ir_meaning.proofs.Names.Moved.{both}
use Rattle.ir_tree.proofs.Symbols.{symbol_same, symbol_true}
use Rattle.ir_meaning.specs.Programs.{Body, Definition, Storage, behind, body_of, defined, definition_from, is_declared, or_else, storage_of, symbol_of}
use Rattle.merge_meaning.specs.Globals.{function_under, global_under, initial_under, named_by, variable_under}
use Rattle.merge_meaning.specs.Laws.{EmissionIsEmitted}
use Rattle.merge_meaning.specs.Linked.{AreFinal, IsUnder, emission}
use Rattle.merge_meaning.proofs.Looked.{StandsIn, further, known_declared, others_once, same_symbol, skipped, some_is}
use Rattle.merge_meaning.proofs.Names.{clash, not_true}

-- ---- one definition

bodies : (t : Naming) (f : Function) (blocks : List Block) → IsUnder t (body_of blocks f) (body_of (map (block_under t) blocks) (function_under t f))
bodies t f [] = tt
bodies t f (b ∷ bs) = (refl, refl, refl)

storages : (t : Naming) (n k : ℕ) (v : Variable) (init : Option Initial)
    → IsUnder t (storage_of init n v) (storage_of (option_map (initial_under t) init) k (variable_under t v))
storages t n k v None = tt
storages t n k v (Some init) = (refl, refl, refl, refl)

pub one_under : (t : Naming) (n k : ℕ) (g : GlobalValue) → IsUnder t (defined n g) (defined k (global_under t g))
one_under t n k (global.Function f) = by (defines f.linkage)
  where
    by : (counts : Bool) → IsUnder t (body_of (cond counts f.blocks []) f) (body_of (cond counts (map (block_under t) f.blocks) []) (function_under t f))
    by true = bodies t f f.blocks
    by false = tt
one_under t n k (global.Variable v) = by (defines v.linkage)
  where
    by : (counts : Bool) → IsUnder t (storage_of (cond counts v.init None) n v) (storage_of (cond counts (option_map (initial_under t) v.init) None) k (variable_under t v))
    by true = storages t n k v v.init
    by false = tt

pub symbol_under : (t : Naming) (g : GlobalValue) → symbol_of (global_under t g) ≡ t.symbol (symbol_of g)
symbol_under t (global.Function f) = refl
symbol_under t (global.Variable v) = refl

either_under : (t : Naming) (b : Bool) (d e d' e' : Option Definition) → IsUnder t d e → IsUnder t d' e' → IsUnder t (or_else (cond b d None) d') (or_else (cond b e None) e')
either_under t false d e d' e' first rest = rest
either_under t true None None d' e' first rest = rest
either_under t true (Some (Body f)) (Some (Body g)) d' e' first rest = first
either_under t true (Some (Storage k v init)) (Some (Storage l w other)) d' e' first rest = first
either_under t true None (Some e) d' e' first rest = absurd first
either_under t true (Some (Body f)) None d' e' first rest = absurd first
either_under t true (Some (Body f)) (Some (Storage l w other)) d' e' first rest = absurd first
either_under t true (Some (Storage k v init)) None d' e' first rest = absurd first
either_under t true (Some (Storage k v init)) (Some (Body g)) d' e' first rest = absurd first

-- ---- no symbol twice

pub distinct_more : (u : Symbol) (ss : List Symbol) → (StandsIn ss u → ⊥) → Distinct ss → Distinct (u ∷ ss)
distinct_more u ss new once zero zero x a b = refl
distinct_more u ss new once zero (suc j) x a b = absurd (new (j, b ∙ sym a))
distinct_more u ss new once (suc i) zero x a b = absurd (new (i, a ∙ sym b))
distinct_more u ss new once (suc i) (suc j) x a b = ap suc (once i j x a b)

module _ (live : Symbol → Bool) (final : Symbol → Symbol) (r : AreFinal live final) where
  same_test : (s u : Symbol) → live s ≡ true → live u ≡ true → symbol_eq (final s) (final u) ≡ symbol_eq s u
  same_test s u k l =
      both (symbol_eq (final s) (final u)) (symbol_eq s u) (λ e. symbol_same s u (r.apart s u k l (symbol_true (final s) (final u) e)))
      (λ e. symbol_same (final s) (final u) (ap final (symbol_true s u e)))

  emitted_definition : (hs : List GlobalValue) (n k : ℕ) (s : Symbol) → live s ≡ true
      → IsUnder (named_by final) (definition_from n hs s) (definition_from k (emission live final hs) (final s))
  emitted_definition [] n k s lives = tt
  emitted_definition (g ∷ hs) n k s lives = by (live (symbol_of g)) refl (λ m l. emitted_definition hs m l s lives)
    where
      by : (b : Bool) → live (symbol_of g) ≡ b
          → ((m l : ℕ) → IsUnder (named_by final) (definition_from m hs s) (definition_from l (emission live final hs) (final s)))
          → IsUnder (named_by final) (definition_from n (g ∷ hs) s)
          (definition_from k (map (global_under (named_by final)) (cond b (g ∷ filter (λ h. live (symbol_of h)) hs) (filter (λ h. live (symbol_of h)) hs))) (final s))
      by true a rest =
          subst (λ (x : Bool). IsUnder (named_by final) (definition_from n (g ∷ hs) s)
          (or_else (cond x (defined k (global_under (named_by final) g)) None) (definition_from (behind k (defined k (global_under (named_by final) g))) (emission live final hs) (final s))))
          (sym (ap (λ (u : Symbol). symbol_eq u (final s)) (symbol_under (named_by final) g) ∙ same_test (symbol_of g) s a lives))
          (either_under (named_by final) (symbol_eq (symbol_of g) s) (defined n g) (defined k (global_under (named_by final) g))
          (definition_from (behind n (defined n g)) hs s) (definition_from (behind k (defined k (global_under (named_by final) g))) (emission live final hs) (final s))
          (one_under (named_by final) n k g) (rest (behind n (defined n g)) (behind k (defined k (global_under (named_by final) g)))))
      by false a rest =
          subst (λ (d : Option Definition). IsUnder (named_by final) d (definition_from k (emission live final hs) (final s)))
          (sym (skipped (symbol_eq (symbol_of g) s) (defined n g) (definition_from (behind n (defined n g)) hs s)
          (not_true (symbol_eq (symbol_of g) s) (λ e. clash (live (symbol_of g)) a (ap live (symbol_true (symbol_of g) s e) ∙ lives)))))
          (rest (behind n (defined n g)) k)

  -- what is declared and live has its final name there
  emitted_declared : (hs : List GlobalValue) (s : Symbol) → live s ≡ true → is_declared hs s ≡ true → is_declared (emission live final hs) (final s) ≡ true
  emitted_declared [] s lives e = absurd (cc e)
  emitted_declared (g ∷ hs) s lives e = by (symbol_eq (symbol_of g) s) refl (live (symbol_of g)) refl e (emitted_declared hs s lives)
    where
      either_true : (a b : Bool) → b ≡ true → (a || b) ≡ true
      either_true true b f = refl
      either_true false b f = f

      by : (a : Bool) → symbol_eq (symbol_of g) s ≡ a → (b : Bool) → live (symbol_of g) ≡ b → (a || is_declared hs s) ≡ true
          → (is_declared hs s ≡ true → is_declared (emission live final hs) (final s) ≡ true)
          → is_declared (map (global_under (named_by final)) (cond b (g ∷ filter (λ h. live (symbol_of h)) hs) (filter (λ h. live (symbol_of h)) hs))) (final s) ≡ true
      by true a true b e rest =
          ap (λ (x : Bool). x || is_declared (emission live final hs) (final s))
          (ap (λ (u : Symbol). symbol_eq u (final s)) (symbol_under (named_by final) g) ∙ same_test (symbol_of g) s b lives ∙ a)
      by true a false b e rest = absurd (clash (live (symbol_of g)) b (ap live (symbol_true (symbol_of g) s a) ∙ lives))
      by false a true b e rest =
          either_true (symbol_eq (symbol_of (global_under (named_by final) g)) (final s)) (is_declared (emission live final hs) (final s)) (rest e)
      by false a false b e rest = rest e

  nothing_else : (hs : List GlobalValue) (k : ℕ) (u : Symbol) → ((s : Symbol) → live s ≡ true → final s ≢ u) → definition_from k (emission live final hs) u ≡ None
  nothing_else [] k u none = refl
  nothing_else (g ∷ hs) k u none = by (live (symbol_of g)) refl (λ m. nothing_else hs m u none)
    where
      by : (b : Bool) → live (symbol_of g) ≡ b → ((m : ℕ) → definition_from m (emission live final hs) u ≡ None)
          → definition_from k (map (global_under (named_by final)) (cond b (g ∷ filter (λ h. live (symbol_of h)) hs) (filter (λ h. live (symbol_of h)) hs))) u ≡ None
      by true a rest =
          skipped (symbol_eq (symbol_of (global_under (named_by final) g)) u) (defined k (global_under (named_by final) g))
          (definition_from (behind k (defined k (global_under (named_by final) g))) (emission live final hs) u)
          (not_true (symbol_eq (symbol_of (global_under (named_by final) g)) u)
          (λ e. none (symbol_of g) a (sym (symbol_under (named_by final) g) ∙ symbol_true (symbol_of (global_under (named_by final) g)) u e)))
          ∙ rest (behind k (defined k (global_under (named_by final) g)))
      by false a rest = rest k

  -- what stands in the emission is the final name of a live symbol that stands in the list
  came_later : (g : GlobalValue) (hs : List GlobalValue) (u : Symbol)
      → ((s : Symbol) × (live s ≡ true) × (final s ≡ u) × StandsIn (symbols hs) s) → (s : Symbol) × (live s ≡ true) × (final s ≡ u) × StandsIn (symbols (g ∷ hs)) s
  came_later g hs u (s, k, e, at) = (s, k, e, further (global_symbol g) (symbols hs) s at)

  came : (hs : List GlobalValue) (j : ℕ) (u : Symbol) → slice_get (symbols (emission live final hs)) j ≡ Some u
      → (s : Symbol) × (live s ≡ true) × (final s ≡ u) × StandsIn (symbols hs) s
  came [] j u e = absurd (cc e)
  came (g ∷ hs) j u e = by (live (symbol_of g)) refl j (λ i. came hs i u) e
    where
      by : (b : Bool) → live (symbol_of g) ≡ b → (j : ℕ)
          → ((i : ℕ) → slice_get (symbols (emission live final hs)) i ≡ Some u → (s : Symbol) × (live s ≡ true) × (final s ≡ u) × StandsIn (symbols hs) s)
          → slice_get (symbols (map (global_under (named_by final)) (cond b (g ∷ filter (λ h. live (symbol_of h)) hs) (filter (λ h. live (symbol_of h)) hs)))) j ≡ Some u
          → (s : Symbol) × (live s ≡ true) × (final s ≡ u) × StandsIn (symbols (g ∷ hs)) s
      by false a j rest e = came_later g hs u (rest j e)
      by true a (suc j) rest e = came_later g hs u (rest j e)
      by true a zero rest e = (
        symbol_of g,
        a,
        sym (symbol_under (named_by final) g) ∙ same_symbol (global_under (named_by final) g)
            ∙ some_is (global_symbol (global_under (named_by final) g)) u e,
        (0, ap (λ (s : Symbol). Some s) (sym (same_symbol g))),
      )

  emission_once : (hs : List GlobalValue) → Distinct (symbols hs) → Distinct (symbols (emission live final hs))
  emission_once [] once = λ i j x a b. absurd (cc a)
  emission_once (g ∷ hs) once = by (live (symbol_of g)) refl (emission_once hs (others_once (global_symbol g) (symbols hs) once))
    where
      new : live (symbol_of g) ≡ true → StandsIn (symbols (emission live final hs)) (global_symbol (global_under (named_by final) g)) → ⊥
      new a (j, at) = again (came hs j (global_symbol (global_under (named_by final) g)) at)
        where
          again : ((s : Symbol) × (live s ≡ true) × (final s ≡ global_symbol (global_under (named_by final) g)) × StandsIn (symbols hs) s) → ⊥
          again (s, k, e, (i, stands)) =
              let same : s ≡ symbol_of g = r.apart s (symbol_of g) k a (e ∙ sym (same_symbol (global_under (named_by final) g)) ∙ symbol_under (named_by final) g) in
              let twice : 0 ≡ suc i = once 0 (suc i) s (ap (λ (x : Symbol). Some x) (sym (same_symbol g) ∙ sym same)) stands in
              omega (arith, twice)

      by : (b : Bool) → live (symbol_of g) ≡ b → Distinct (symbols (emission live final hs))
          → Distinct (symbols (map (global_under (named_by final)) (cond b (g ∷ filter (λ h. live (symbol_of h)) hs) (filter (λ h. live (symbol_of h)) hs))))
      by true a rest = distinct_more (global_symbol (global_under (named_by final) g)) (symbols (emission live final hs)) (new a) rest
      by false a rest = rest

pub emission_emitted : EmissionIsEmitted
emission_emitted live final hs once reached named = record {
  reached = reached;
  named = named;
  defines = λ s k. emitted_definition live final named hs 0 0 s k;
  declares = λ s k. emitted_declared live final named hs s k (known_declared hs s (reached.there s k));
  only = λ u none. nothing_else live final named hs 0 u none;
  once = emission_once live final named hs once;
}
