-- No symbol stands twice among what is merged.
use Rattle.std.proofs.Common.{◌≡◌, ℕ, zero, suc, ◌+◌, Bool, true, false, cond, List, [], ◌∷◌, ◌++◌, map, filter, Some, slice_get, ◌⊎◌, inl, inr, refl, sym, ap, ◌∙◌, subst, arith}
use Rattle.std.proofs.lemmas.List.{map-append}
use Rattle.ir_tree.specs.Formed.{Distinct}
use Rattle.ir_tree.specs.Wholes.{global_symbol, symbols}
use Rattle.ir_tree.specs.declared.module.GlobalValue.{GlobalValue}
use Rattle.ir_tree.specs.declared.module.GlobalValue.TheVariants as global
use Rattle.ir_tree.specs.declared.module.Module.{Module}
use Rattle.ir_tree.specs.declared.operand.Symbol.{Symbol}
use Rattle.ir_meaning.specs.Refine.{Naming}
use Rattle.ir_meaning.specs.Programs.{symbol_of}
use Rattle.merge_meaning.specs.Globals.{global_under, named_by}
use Rattle.merge_meaning.specs.Laws.{AllWhole, MergedIsOnce}
use Rattle.merge_meaning.specs.Merged.{given_by, merged_from, prevails, symbol_in}
use Rattle.merge_meaning.proofs.Emission.{distinct_more}
use Rattle.merge_meaning.proofs.Hosting.{hosts_once}
use Rattle.merge_meaning.proofs.Looked.{StandsIn, others_once, some_is}
use Rattle.merge_meaning.proofs.Prevailing.{from_kept, given, in_either, same_module, same_place}

-- ---- lists

-- what stands in a changed list is a changed one
pub mapped : {X Y : Type 0} (f : X → Y) (xs : List X) (j : ℕ) (y : Y) → slice_get (map f xs) j ≡ Some y → (x : X) × (slice_get xs j ≡ Some x) × (f x ≡ y)
mapped f [] j y e = absurd (cc e)
mapped f (x ∷ xs) zero y e = (x, refl, some_is (f x) y e)
mapped f (x ∷ xs) (suc j) y e = mapped f xs j y e

once_beside : (xs ys : List Symbol) → Distinct xs → Distinct ys → ((i j : ℕ) (s : Symbol) → slice_get xs i ≡ Some s → slice_get ys j ≡ Some s → ⊥) → Distinct (xs ++ ys)
once_beside [] ys p q apart = q
once_beside (x ∷ xs) ys p q apart = distinct_more x (xs ++ ys) new (once_beside xs ys (others_once x xs p) q (λ i j s a b. apart (suc i) j s a b))
  where
    either : ((i : ℕ) × (slice_get xs i ≡ Some x)) ⊎ ((j : ℕ) × (slice_get ys j ≡ Some x)) → ⊥
    either (inl (i, e)) = let twice : 0 ≡ suc i = p 0 (suc i) x refl e in omega (arith, twice)
    either (inr (j, e)) = apart 0 j x refl e

    new : StandsIn (xs ++ ys) x → ⊥
    new (k, at) = either (in_either xs ys k x at)

-- ---- what one module gives

global_named : (t : Naming) (g : GlobalValue) → global_symbol (global_under t g) ≡ t.symbol (symbol_of g)
global_named t (global.Function f) = refl
global_named t (global.Variable v) = refl

-- where no two of the old symbols get one name, none stands twice among those that are kept
once_kept : (t : Naming) (keeps : GlobalValue → Bool) (gs : List GlobalValue)
    → ((i j : ℕ) (g h : GlobalValue) → slice_get gs i ≡ Some g → slice_get gs j ≡ Some h → t.symbol (symbol_of g) ≡ t.symbol (symbol_of h) → i ≡ j)
    → Distinct (symbols (map (global_under t) (filter keeps gs)))
once_kept t keeps [] apart = λ i j s a b. absurd (cc a)
once_kept t keeps (g ∷ gs) apart = by (keeps g) (once_kept t keeps gs (λ i j x y a b e. let same : suc i ≡ suc j = apart (suc i) (suc j) x y a b e in omega (arith, same)))
  where
    new : StandsIn (symbols (map (global_under t) (filter keeps gs))) (global_symbol (global_under t g)) → ⊥
    new (j, at) =
        let z = mapped global_symbol (map (global_under t) (filter keeps gs)) j (global_symbol (global_under t g)) at in
        let o = from_kept (global_under t) keeps gs j z.0 z.1 in
        let same : t.symbol (symbol_of g) ≡ t.symbol (symbol_of o.0) = sym (global_named t g) ∙ sym z.2 ∙ ap (λ (x : GlobalValue). global_symbol x) (sym o.4) ∙ global_named t o.0 in
        let twice : 0 ≡ suc o.1 = apart 0 (suc o.1) g o.0 refl o.2 same in
        omega (arith, twice)

    by : (b : Bool) → Distinct (symbols (map (global_under t) (filter keeps gs))) → Distinct (symbols (map (global_under t) (cond b (g ∷ filter keeps gs) (filter keeps gs))))
    by true rest = distinct_more (global_symbol (global_under t g)) (symbols (map (global_under t) (filter keeps gs))) new rest
    by false rest = rest

-- ---- what all give

module _ (ms : List Module) (whole : AllWhole ms) where
  given_once : (k : ℕ) (m : Module) → slice_get ms k ≡ Some m → Distinct (symbols (given_by ms k m.globals))
  given_once k m at = once_kept (named_by (symbol_in k m.globals)) (prevails ms k) m.globals (λ i j g h a b e. same_place m.globals (whole k m at) k i j g h a b e)

  -- these are the modules from a number on
  abbrev Inside : ℕ → List Module → Type 0
  Inside from rest = (j : ℕ) (m : Module) → slice_get rest j ≡ Some m → slice_get ms (from + j) ≡ Some m

  first_inside : (from : ℕ) (m : Module) (rest : List Module) → Inside from (m ∷ rest) → slice_get ms from ≡ Some m
  first_inside from m rest inside = let start : from + 0 ≡ from = omega arith in subst (λ (l : ℕ). slice_get ms l ≡ Some m) start (inside 0 m refl)

  others_inside : (from : ℕ) (m : Module) (rest : List Module) → Inside from (m ∷ rest) → Inside (suc from) rest
  others_inside from m rest inside j n e = let next : from + suc j ≡ suc from + j = omega arith in subst (λ (l : ℕ). slice_get ms l ≡ Some n) next (inside (suc j) n e)

  -- what a module gives, no later one gives
  apart_later : (from : ℕ) (m : Module) (rest : List Module) → slice_get ms from ≡ Some m → Inside (suc from) rest → (i j : ℕ) (s : Symbol)
      → slice_get (symbols (given_by ms from m.globals)) i ≡ Some s → slice_get (symbols (merged_from ms (suc from) rest)) j ≡ Some s → ⊥
  apart_later from m rest at inside i j s a b =
      let z = mapped global_symbol (given_by ms from m.globals) i s a in
      let o = from_kept (global_under (named_by (symbol_in from m.globals))) (prevails ms from) m.globals i z.0 z.1 in
      let y = mapped global_symbol (merged_from ms (suc from) rest) j s b in
      let r = given ms (suc from) rest j y.0 y.1 in
      let same : symbol_in from m.globals (symbol_of o.0) ≡ symbol_in (suc from + r.i) r.m.globals (symbol_of r.h) =
      sym (global_named (named_by (symbol_in from m.globals)) o.0) ∙ ap (λ (x : GlobalValue). global_symbol x) o.4 ∙ z.2 ∙ sym y.2 ∙ ap (λ (x : GlobalValue). global_symbol x) (sym r.is)
      ∙ global_named (named_by (symbol_in (suc from + r.i) r.m.globals)) r.h in
      let number : from ≡ suc from + r.i = same_module ms whole from (suc from + r.i) m r.m o.1 r.place o.0 r.h at (inside r.i r.m r.number) o.2 r.stands o.3 r.kept same in
      omega (arith, number)

  once_from : (from : ℕ) (rest : List Module) → Inside from rest → Distinct (symbols (merged_from ms from rest))
  once_from from [] inside = λ i j s a b. absurd (cc a)
  once_from from (m ∷ rest) inside =
      subst (λ (ss : List Symbol). Distinct ss) (sym (map-append global_symbol (given_by ms from m.globals) (merged_from ms (suc from) rest)))
      (once_beside (symbols (given_by ms from m.globals)) (symbols (merged_from ms (suc from) rest)) (given_once from m (first_inside from m rest inside))
      (once_from (suc from) rest (others_inside from m rest inside)) (apart_later from m rest (first_inside from m rest inside) (others_inside from m rest inside)))

pub merged_once : MergedIsOnce
merged_once ms whole =
    hosts_once (merged_from ms 0 ms)
    (once_from ms whole 0 ms (λ j m e. let number : j ≡ 0 + j = omega arith in subst (λ (l : ℕ). slice_get ms l ≡ Some m) number e))
