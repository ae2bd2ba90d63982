-- In the merged program each symbol has the definition that prevails, and none has another.
use Rattle.std.proofs.Common.{◌≡◌, ◌≢◌, ℕ, zero, suc, ◌+◌, Bool, true, false, ◌&&◌, cond, is_none, nat_eq, if◌then◌else◌, List, [], ◌∷◌, ◌++◌, map, filter, All, option_map, Option, Some, None, slice_get, bytes_eq, ◌⊎◌, inl, inr, refl, sym, ap, ◌∙◌, subst, arith}
use Rattle.std.proofs.lemmas.Bool.{and_from, eqb-true}
use Rattle.std.proofs.lemmas.Map.Keys.{any_passes_from_place}
use Rattle.std.proofs.lemmas.Option.{get_or_from_slice_get, slice_get_within}
use Rattle.std.proofs.lemmas.Slice.Eq.{bytes_eq-Decides}
use Rattle.std.specs.Option.{option_eq}
use Rattle.ir_tree.specs.Linkages.{defines}
use Rattle.ir_tree.specs.Initials.{Initial}
use Rattle.ir_tree.specs.Wholes.{Whole, symbols}
use Rattle.ir_tree.specs.declared.block.Block.{Block}
use Rattle.ir_tree.specs.declared.function.Linkage.{Linkage}
use Rattle.ir_tree.specs.declared.function.Linkage.TheVariants as linkage
use Rattle.ir_tree.specs.declared.module.GlobalValue.{GlobalValue}
use Rattle.ir_tree.specs.declared.module.GlobalValue.TheVariants as global
use Rattle.ir_tree.specs.declared.module.Module.{Module}
use Rattle.ir_tree.specs.declared.operand.Symbol.{Symbol}
use Rattle.ir_meaning.specs.Refine.{Naming}
use Rattle.ir_tree.specs.Symbols.{symbol_eq}
use Rattle.ir_meaning.specs.Rename.{block_under}
use Rattle.ir_tree.proofs.Symbols.{symbol_same, symbol_true}
use Rattle.ir_meaning.specs.Programs.{Body, Definition, Storage, behind, body_of, defined, definition_from, storage_of, symbol_of}
use Rattle.symbol_resolve.specs.Mentions.{function_standing, mentions, standing_of as standing_with, variable_standing}
use Rattle.symbol_resolve.specs.Prevailing.{prevailing}
use Rattle.symbol_resolve.specs.declared.mention.Standing.{Standing}
use Rattle.symbol_resolve.specs.declared.mention.Standing.TheVariants as standing
use Rattle.merge_meaning.specs.Globals.{function_under, global_under, initial_under, named_by, variable_under}
use Rattle.merge_meaning.specs.Laws.{AllWhole, DefinedPrevails, IsGivenBy, PrevailingIsDefined, taken_in}
use Rattle.merge_meaning.specs.Merged.{given_by, is_own, local_to, merged_from, prevails, prevails_as, standing_of, symbol_in}
use Rattle.merge_meaning.proofs.Emission.{symbol_under}
use Rattle.merge_meaning.proofs.Hosting.{hosts_defined}
use Rattle.merge_meaning.proofs.Looked.{found, skipped, some_is, symbol_stands, took}
use Rattle.merge_meaning.proofs.Names.{clash, not_true}

-- ---- what is defined was given by some module

-- what stands in two lists in a row stands in one of them
pub in_either : {X : Type 0} (xs ys : List X) (j : ℕ) (x : X) → slice_get (xs ++ ys) j ≡ Some x → ((i : ℕ) × (slice_get xs i ≡ Some x)) ⊎ ((i : ℕ) × (slice_get ys i ≡ Some x))
in_either [] ys j x e = inr (j, e)
in_either (y ∷ xs) ys zero x e = inl (0, e)
in_either (y ∷ xs) ys (suc j) x e = by (in_either xs ys j x e)
  where
    by : ((i : ℕ) × (slice_get xs i ≡ Some x)) ⊎ ((i : ℕ) × (slice_get ys i ≡ Some x)) → ((i : ℕ) × (slice_get (y ∷ xs) i ≡ Some x)) ⊎ ((i : ℕ) × (slice_get ys i ≡ Some x))
    by (inl (i, at)) = inl (suc i, at)
    by (inr (i, at)) = inr (i, at)

-- what stands in a filtered and changed list comes from one that passes
pub from_kept : {X Y : Type 0} (change : X → Y) (keeps : X → Bool) (xs : List X) (j : ℕ) (y : Y) → slice_get (map change (filter keeps xs)) j ≡ Some y
    → (x : X) × (i : ℕ) × (slice_get xs i ≡ Some x) × (keeps x ≡ true) × (change x ≡ y)
from_kept {X = X} {Y = Y} change keeps [] j y e = absurd (cc e)
from_kept {X = X} {Y = Y} change keeps (z ∷ xs) j y e = by (keeps z) refl j e (λ i. from_kept change keeps xs i y)
  where
    later : ((x : X) × (i : ℕ) × (slice_get xs i ≡ Some x) × (keeps x ≡ true) × (change x ≡ y))
        → (x : X) × (i : ℕ) × (slice_get (z ∷ xs) i ≡ Some x) × (keeps x ≡ true) × (change x ≡ y)
    later (x, i, at, k, is) = (x, suc i, at, k, is)

    by : (b : Bool) → keeps z ≡ b → (j : ℕ) → slice_get (map change (cond b (z ∷ filter keeps xs) (filter keeps xs))) j ≡ Some y
        → ((i : ℕ) → slice_get (map change (filter keeps xs)) i ≡ Some y → (x : X) × (i : ℕ) × (slice_get xs i ≡ Some x) × (keeps x ≡ true) × (change x ≡ y))
        → (x : X) × (i : ℕ) × (slice_get (z ∷ xs) i ≡ Some x) × (keeps x ≡ true) × (change x ≡ y)
    by true k zero e rest = (z, 0, refl, k, some_is (change z) y e)
    by true k (suc j) e rest = later (rest j e)
    by false k j e rest = later (rest j e)

-- a global value of the merged ones, and the module that gives it
pub record Given (ms : List Module) (from : ℕ) (rest : List Module) (g : GlobalValue) : Type 0 where
  pub i : ℕ
  pub m : Module
  pub h : GlobalValue
  pub number : slice_get rest i ≡ Some m
  pub place : ℕ
  pub stands : slice_get m.globals place ≡ Some h
  pub kept : prevails ms (from + i) h ≡ true
  pub is : taken_in (from + i) m h ≡ g

pub given : (ms : List Module) (from : ℕ) (rest : List Module) (j : ℕ) (g : GlobalValue) → slice_get (merged_from ms from rest) j ≡ Some g → Given ms from rest g
given ms from [] j g e = absurd (cc e)
given ms from (m ∷ rest) j g e =
    by (in_either (given_by ms from m.globals) (merged_from ms (suc from) rest) j g e) (λ i. given ms (suc from) rest i g)
  where
    here : ((h : GlobalValue) × (i : ℕ) × (slice_get m.globals i ≡ Some h) × (prevails ms from h ≡ true) × (global_under (named_by (symbol_in from m.globals)) h ≡ g))
        → Given ms from (m ∷ rest) g
    here (h, i, at, k, is) =
        let number : from ≡ from + 0 = omega arith in
        record {
          i = 0;
          m = m;
          h = h;
          number = refl;
          place = i;
          stands = at;
          kept = subst (λ (x : ℕ). prevails ms x h ≡ true) number k;
          is = subst (λ (x : ℕ). taken_in x m h ≡ g) number is;
        }

    there : Given ms (suc from) rest g → Given ms from (m ∷ rest) g
    there f =
        let number : suc from + f.i ≡ from + suc f.i = omega arith in
        record {
          i = suc f.i;
          m = f.m;
          h = f.h;
          number = f.number;
          place = f.place;
          stands = f.stands;
          kept = subst (λ (x : ℕ). prevails ms x f.h ≡ true) number f.kept;
          is = subst (λ (x : ℕ). taken_in x f.m f.h ≡ g) number f.is;
        }

    by : ((i : ℕ) × (slice_get (given_by ms from m.globals) i ≡ Some g)) ⊎ ((i : ℕ) × (slice_get (merged_from ms (suc from) rest) i ≡ Some g))
        → ((i : ℕ) → slice_get (merged_from ms (suc from) rest) i ≡ Some g → Given ms (suc from) rest g) → Given ms from (m ∷ rest) g
    by (inl (i, at)) later = here (from_kept (global_under (named_by (symbol_in from m.globals))) (prevails ms from) m.globals i g at)
    by (inr (i, at)) later = there (later i at)

pub defined_prevails : DefinedPrevails
defined_prevails ms s d e =
    let f = found (merged_from ms 0 ms) 0 s d (sym (hosts_defined (merged_from ms 0 ms) s) ∙ e) in
    let o = given ms 0 ms f.j f.g f.at in
    let number : 0 + o.i ≡ o.i = omega arith in
    let taken : taken_in o.i o.m o.h ≡ f.g = subst (λ (x : ℕ). taken_in x o.m o.h ≡ f.g) number o.is in (
      o.i,
      o.m,
      o.h,
      f.n,
      record { number = o.number; place = o.place; stands = o.stands; kept = subst (λ (x : ℕ). prevails ms x o.h ≡ true) number o.kept },
      ap symbol_of taken ∙ f.symbol,
      ap (defined f.n) taken ∙ f.is,
    )

-- ---- one symbol, one definition

pub at_place : {X : Type 0} (P : X → Type 0) (xs : List X) (i : ℕ) (x : X) → All P xs → slice_get xs i ≡ Some x → P x
at_place P xs i x all e = subst P (get_or_from_slice_get xs i x x e) (all i x (slice_get_within xs i x e))

pub homeless : (gs : List GlobalValue) → Whole gs → (i : ℕ) (g : GlobalValue) → slice_get gs i ≡ Some g → (symbol_of g).home ≡ None
homeless gs whole i g e = at_place (λ (s : Symbol). s.home ≡ None) (symbols gs) i (symbol_of g) whole.homeless (symbol_stands gs i g e)

-- a name that stands for a symbol of all modules, in a module that gives it, is one that the link chooses this module for
chosen_for : (ms : List Module) (k : ℕ) (gs : List GlobalValue) (i : ℕ) (g : GlobalValue) → slice_get gs i ≡ Some g → prevails ms k g ≡ true
    → is_own gs (symbol_of g).name ≡ false → option_eq nat_eq (prevailing (mentions ms) (symbol_of g).name) (Some k) ≡ true
chosen_for ms k gs i g at kept other = by (standing_of g) refl kept
  where
    by : (st : Option Standing) → standing_of g ≡ st → prevails_as (prevailing (mentions ms) (symbol_of g).name) k st ≡ true
        → option_eq nat_eq (prevailing (mentions ms) (symbol_of g).name) (Some k) ≡ true
    by None e p =
        absurd (clash (is_own gs (symbol_of g).name) other
        (any_passes_from_place (λ (h : GlobalValue). is_none (standing_of h) && bytes_eq (symbol_of g).name (symbol_of h).name) gs i g at
        (and_from (is_none (standing_of g)) (bytes_eq (symbol_of g).name (symbol_of g).name) (ap (λ (o : Option Standing). is_none o) e)
        ((bytes_eq-Decides (symbol_of g).name (symbol_of g).name).1 refl))))
    by (Some standing.Strong) e p = p
    by (Some standing.Weak) e p = p
    by (Some standing.Declared) e p = absurd (cc p)

one_number : (o : Option ℕ) (k l : ℕ) → option_eq nat_eq o (Some k) ≡ true → option_eq nat_eq o (Some l) ≡ true → k ≡ l
one_number None k l a b = absurd (cc a)
one_number (Some x) k l a b = sym (eqb-true x k a) ∙ eqb-true x l b

name_in : (k : ℕ) (gs : List GlobalValue) (s : Symbol) → (symbol_in k gs s).name ≡ s.name
name_in k gs s = by (is_own gs s.name)
  where
    by : (b : Bool) → (if b then local_to k s.name else s).name ≡ s.name
    by true = refl
    by false = refl

own_home : (k : ℕ) (gs : List GlobalValue) (s : Symbol) → is_own gs s.name ≡ true → (symbol_in k gs s).home ≡ Some k
own_home k gs s e = ap (λ (b : Bool). (if b then local_to k s.name else s).home) e

other_home : (k : ℕ) (gs : List GlobalValue) (s : Symbol) → is_own gs s.name ≡ false → (symbol_in k gs s).home ≡ s.home
other_home k gs s e = ap (λ (b : Bool). (if b then local_to k s.name else s).home) e

pub symbol_by_parts : (s u : Symbol) → s.home ≡ u.home → s.name ≡ u.name → s ≡ u
symbol_by_parts s u home name =
    ap (λ (h : Option ℕ). record { home = h; name = s.name }) home ∙ ap (λ (n : List ℕ). record { home = u.home; name = n }) name

same_names : (k l : ℕ) (gs hs : List GlobalValue) (s u : Symbol) → symbol_in k gs s ≡ symbol_in l hs u → s.name ≡ u.name
same_names k l gs hs s u e = sym (name_in k gs s) ∙ ap (λ (x : Symbol). x.name) e ∙ name_in l hs u

-- of one symbol one module gives the definition
pub same_module : (ms : List Module) → AllWhole ms → (k l : ℕ) (m n : Module) (i j : ℕ) (g h : GlobalValue) → slice_get ms k ≡ Some m → slice_get ms l ≡ Some n
    → slice_get m.globals i ≡ Some g → slice_get n.globals j ≡ Some h → prevails ms k g ≡ true → prevails ms l h ≡ true
    → symbol_in k m.globals (symbol_of g) ≡ symbol_in l n.globals (symbol_of h) → k ≡ l
same_module ms whole k l m n i j g h at_k at_l at_i at_j kept kept' e =
    by (is_own m.globals (symbol_of g).name) refl (is_own n.globals (symbol_of h).name) refl
  where
    homes : (symbol_in k m.globals (symbol_of g)).home ≡ (symbol_in l n.globals (symbol_of h)).home
    homes = ap (λ (x : Symbol). x.home) e

    by : (a : Bool) → is_own m.globals (symbol_of g).name ≡ a → (b : Bool) → is_own n.globals (symbol_of h).name ≡ b → k ≡ l
    by true a true b = some_is k l (sym (own_home k m.globals (symbol_of g) a) ∙ homes ∙ own_home l n.globals (symbol_of h) b)
    by true a false b =
        let x : ◌≡◌ {A = Option ℕ} (Some k) None =
        sym (own_home k m.globals (symbol_of g) a) ∙ homes ∙ other_home l n.globals (symbol_of h) b ∙ homeless n.globals (whole l n at_l) j h at_j in
        absurd (cc x)
    by false a true b =
        let x : ◌≡◌ {A = Option ℕ} (Some l) None =
        sym (own_home l n.globals (symbol_of h) b) ∙ sym homes ∙ other_home k m.globals (symbol_of g) a ∙ homeless m.globals (whole k m at_k) i g at_i in
        absurd (cc x)
    by false a false b =
        one_number (prevailing (mentions ms) (symbol_of g).name) k l (chosen_for ms k m.globals i g at_i kept a)
        (subst (λ (x : List ℕ). option_eq nat_eq (prevailing (mentions ms) x) (Some l) ≡ true)
        (sym (same_names k l m.globals n.globals (symbol_of g) (symbol_of h) e)) (chosen_for ms l n.globals j h at_j kept' b))

pub same_place : (gs : List GlobalValue) → Whole gs → (k i j : ℕ) (g h : GlobalValue) → slice_get gs i ≡ Some g → slice_get gs j ≡ Some h
    → symbol_in k gs (symbol_of g) ≡ symbol_in k gs (symbol_of h) → i ≡ j
same_place gs whole k i j g h at_i at_j e =
    let same : symbol_of h ≡ symbol_of g =
    symbol_by_parts (symbol_of h) (symbol_of g) (homeless gs whole j h at_j ∙ sym (homeless gs whole i g at_i)) (sym (same_names k k gs gs (symbol_of g) (symbol_of h) e)) in
    whole.once i j (symbol_of g) (symbol_stands gs i g at_i) (symbol_stands gs j h at_j ∙ ap (λ (s : Symbol). Some s) same)

-- ---- looking the symbol up

-- lists without the symbol are passed over
passed : (xs ys : List GlobalValue) (s : Symbol) → ((j : ℕ) (x : GlobalValue) → slice_get xs j ≡ Some x → symbol_eq (symbol_of x) s ≡ false)
    → (n : ℕ) → (m : ℕ) × (definition_from n (xs ++ ys) s ≡ definition_from m ys s)
passed [] ys s other n = (n, refl)
passed (x ∷ xs) ys s other n =
    let rest = passed xs ys s (λ j y e. other (suc j) y e) (behind n (defined n x)) in
    (rest.0, skipped (symbol_eq (symbol_of x) s) (defined n x) (definition_from (behind n (defined n x)) (xs ++ ys) s) (other 0 x refl) ∙ rest.1)

module _ (change : GlobalValue → GlobalValue) (keeps : GlobalValue → Bool) (s : Symbol) (g : GlobalValue) (kept : keeps g ≡ true)
    (same : symbol_eq (symbol_of (change g)) s ≡ true) (is_some : (n : ℕ) → (d : Definition) × (defined n (change g) ≡ Some d)) (ys : List GlobalValue) where
  found_in : (gs : List GlobalValue) (j : ℕ) → slice_get gs j ≡ Some g
      → ((i : ℕ) (x : GlobalValue) → slice_get gs i ≡ Some x → keeps x ≡ true → symbol_eq (symbol_of (change x)) s ≡ true → i ≡ j)
      → (n : ℕ) → (m : ℕ) × (definition_from n (map change (filter keeps gs) ++ ys) s ≡ defined m (change g))
  found_in [] j e one n = absurd (cc e)
  found_in (x ∷ gs) zero e one n = (n, subst (λ (l : List GlobalValue). definition_from n (map change l ++ ys) s ≡ defined n (change g)) (sym front) here)
    where
      front : filter keeps (x ∷ gs) ≡ g ∷ filter keeps gs
      front =
          ap (λ (z : GlobalValue). cond (keeps z) (z ∷ filter keeps gs) (filter keeps gs)) (some_is x g e)
          ∙ ap (λ (b : Bool). cond b (g ∷ filter keeps gs) (filter keeps gs)) kept

      here : definition_from n (change g ∷ (map change (filter keeps gs) ++ ys)) s ≡ defined n (change g)
      here =
          took (symbol_eq (symbol_of (change g)) s) (defined n (change g))
          (definition_from (behind n (defined n (change g))) (map change (filter keeps gs) ++ ys) s) (is_some n).0 same (is_some n).1
  found_in (x ∷ gs) (suc j) e one n = by (keeps x) refl (λ m. found_in gs j e (λ i y at k f. let later : suc i ≡ suc j = one (suc i) y at k f in omega (arith, later)) m)
    where
      by : (b : Bool) → keeps x ≡ b → ((l : ℕ) → (m : ℕ) × (definition_from l (map change (filter keeps gs) ++ ys) s ≡ defined m (change g)))
          → (m : ℕ) × (definition_from n (map change (cond b (x ∷ filter keeps gs) (filter keeps gs)) ++ ys) s ≡ defined m (change g))
      by true k rest =
          let later = rest (behind n (defined n (change x))) in (
            later.0,
            skipped (symbol_eq (symbol_of (change x)) s) (defined n (change x)) (definition_from (behind n (defined n (change x))) (map change (filter keeps gs) ++ ys) s)
                (not_true (symbol_eq (symbol_of (change x)) s) (λ f. let first : 0 ≡ suc j = one 0 x refl k f in omega (arith, first)))
                ∙ later.1,
          )
      by false k rest = rest n

-- what prevails counts
counted : (chosen : Option ℕ) (k : ℕ) (l : Linkage) → prevails_as chosen k (standing_with l) ≡ true → defines l ≡ true
counted chosen k linkage.Private p = refl
counted chosen k linkage.Internal p = refl
counted chosen k linkage.External p = refl
counted chosen k linkage.Linkonce p = refl
counted chosen k linkage.LinkonceOdr p = refl
counted chosen k linkage.Weak p = refl
counted chosen k linkage.WeakOdr p = refl
counted chosen k linkage.AvailableExternally p = absurd (cc p)

-- what prevails is a definition
pub defined_some : (t : Naming) (ms : List Module) (k : ℕ) (g : GlobalValue) → prevails ms k g ≡ true → (n : ℕ) → (d : Definition) × (defined n (global_under t g) ≡ Some d)
defined_some t ms k (global.Function f) kept n = by f.blocks kept
  where
    by : (blocks : List Block) → prevails_as (prevailing (mentions ms) f.symbol.name) k (function_standing blocks f.linkage) ≡ true
        → (d : Definition) × (body_of (cond (defines f.linkage) (map (block_under t) blocks) []) (function_under t f) ≡ Some d)
    by [] p = absurd (cc p)
    by (b ∷ bs) p = (
      Body (function_under t f),
      ap (λ (c : Bool). body_of (cond c (map (block_under t) (b ∷ bs)) []) (function_under t f)) (counted (prevailing (mentions ms) f.symbol.name) k f.linkage p),
    )
defined_some t ms k (global.Variable v) kept n = by v.init kept
  where
    by : (init : Option Initial) → prevails_as (prevailing (mentions ms) v.symbol.name) k (variable_standing init v.linkage) ≡ true
        → (d : Definition) × (storage_of (cond (defines v.linkage) (option_map (initial_under t) init) None) n (variable_under t v) ≡ Some d)
    by None p = absurd (cc p)
    by (Some init) p = (
      Storage n (variable_under t v) (initial_under t init),
      ap (λ (c : Bool). storage_of (cond c (Some (initial_under t init)) None) n (variable_under t v)) (counted (prevailing (mentions ms) v.symbol.name) k v.linkage p),
    )

module _ (ms : List Module) (whole : AllWhole ms) (k : ℕ) (m : Module) (g : GlobalValue) (p : IsGivenBy ms k m g) where
  -- the symbol of another prevailing global value isn't this one's
  taken_symbol : (l : ℕ) (n : Module) (h : GlobalValue) → symbol_of (taken_in l n h) ≡ symbol_in l n.globals (symbol_of h)
  taken_symbol l n h = symbol_under (named_by (symbol_in l n.globals)) h

  test : (l : ℕ) (n : Module) (h : GlobalValue) → symbol_eq (symbol_of (taken_in l n h)) (symbol_in k m.globals (symbol_of g)) ≡ true
      → symbol_in k m.globals (symbol_of g) ≡ symbol_in l n.globals (symbol_of h)
  test l n h e = sym (sym (taken_symbol l n h) ∙ symbol_true (symbol_of (taken_in l n h)) (symbol_in k m.globals (symbol_of g)) e)

  other_module : (l : ℕ) (n : Module) → slice_get ms l ≡ Some n → k ≢ l → (j : ℕ) (x : GlobalValue) → slice_get (given_by ms l n.globals) j ≡ Some x
      → symbol_eq (symbol_of x) (symbol_in k m.globals (symbol_of g)) ≡ false
  other_module l n at apart j x e =
      not_true (symbol_eq (symbol_of x) (symbol_in k m.globals (symbol_of g)))
      (by (from_kept (global_under (named_by (symbol_in l n.globals))) (prevails ms l) n.globals j x e))
    where
      by : ((h : GlobalValue) × (i : ℕ) × (slice_get n.globals i ≡ Some h) × (prevails ms l h ≡ true) × (global_under (named_by (symbol_in l n.globals)) h ≡ x))
          → symbol_eq (symbol_of x) (symbol_in k m.globals (symbol_of g)) ≡ true → ⊥
      by (h, i, stands, kept, is) f =
          apart (same_module ms whole k l m n p.place i g h p.number at p.stands stands p.kept kept
          (test l n h (ap (λ (z : GlobalValue). symbol_eq (symbol_of z) (symbol_in k m.globals (symbol_of g))) is ∙ f)))

  looked : (from : ℕ) (rest : List Module) (i : ℕ) → k ≡ from + i → slice_get rest i ≡ Some m
      → ((j : ℕ) (n : Module) → slice_get rest j ≡ Some n → slice_get ms (from + j) ≡ Some n)
      → (n : ℕ) → (r : ℕ) × (definition_from n (merged_from ms from rest) (symbol_in k m.globals (symbol_of g)) ≡ defined r (taken_in k m g))
  looked from [] i is at inside n = absurd (cc at)
  looked from (x ∷ rest) zero is at inside n =
      let number : k ≡ from = omega (arith, is) in
      let same : x ≡ m = some_is x m at in
      subst (λ (z : Module). (r : ℕ) × (definition_from n (given_by ms from z.globals ++ merged_from ms (suc from) rest) (symbol_in k m.globals (symbol_of g)) ≡ defined r (taken_in k m g))) (sym same)
      (subst (λ (z : ℕ). (r : ℕ) × (definition_from n (given_by ms z m.globals ++ merged_from ms (suc from) rest) (symbol_in k m.globals (symbol_of g)) ≡ defined r (taken_in k m g))) number
      (found_in (global_under (named_by (symbol_in k m.globals))) (prevails ms k) (symbol_in k m.globals (symbol_of g)) g p.kept
      (symbol_same (symbol_of (taken_in k m g)) (symbol_in k m.globals (symbol_of g)) (taken_symbol k m g))
      (defined_some (named_by (symbol_in k m.globals)) ms k g p.kept) (merged_from ms (suc from) rest) m.globals p.place p.stands
      (λ j y stands kept f. sym (same_place m.globals (whole k m p.number) k p.place j g y p.stands stands (test k m y f))) n))
  looked from (x ∷ rest) (suc i) is at inside n =
      let start : from + 0 ≡ from = omega arith in
      let here : slice_get ms from ≡ Some x = subst (λ (l : ℕ). slice_get ms l ≡ Some x) start (inside 0 x refl) in
      let behind' = passed (given_by ms from x.globals) (merged_from ms (suc from) rest) (symbol_in k m.globals (symbol_of g))
      (other_module from x here (λ e. let far : k ≡ from + suc i = is in omega (arith, far, e))) n in
      let later = looked (suc from) rest i (let far : k ≡ from + suc i = is in omega (arith, far)) at
      (λ j y e. let next : from + suc j ≡ suc from + j = omega arith in subst (λ (l : ℕ). slice_get ms l ≡ Some y) next (inside (suc j) y e)) behind'.0 in
      (later.0, behind'.1 ∙ later.1)

pub prevailing_defined : PrevailingIsDefined
prevailing_defined ms whole k m g p =
    let start : k ≡ 0 + k = omega arith in
    let there = looked ms whole k m g p 0 ms k start p.number (λ j n e. let number : j ≡ 0 + j = omega arith in subst (λ (l : ℕ). slice_get ms l ≡ Some n) number e) 0 in
    (there.0, hosts_defined (merged_from ms 0 ms) (symbol_in k m.globals (symbol_of g)) ∙ there.1)
