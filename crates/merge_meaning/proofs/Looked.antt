-- Looking up: where a symbol's definition stands, and which number its variable has.
use Rattle.std.proofs.Common.{◌≡◌, ℕ, zero, suc, ◌+◌, ◌<◌, ◌≤◌, Bool, true, false, cond, List, [], ◌∷◌, length, option_map, Option, Some, None, slice_get, codes, bytes_eq, ◌⊎◌, inl, inr, refl, sym, ap, ◌∙◌, subst, arith}
use Rattle.std.proofs.lemmas.Map.Keys.{any_passes_from_place}
use Rattle.std.proofs.lemmas.Option.{get_or_from_slice_get, slice_get-map}
use Rattle.std.proofs.lemmas.Slice.Eq.{bytes_eq-Decides}
use Rattle.ir_tree.specs.Formed.{Distinct}
use Rattle.ir_tree.specs.Initials.{Initial}
use Rattle.ir_tree.specs.Wholes.{global_symbol, symbols}
use Rattle.ir_tree.specs.declared.block.Block.{Block}
use Rattle.ir_tree.specs.declared.function.Function.{Function}
use Rattle.ir_tree.specs.declared.function.Variable.{Variable}
use Rattle.ir_tree.specs.declared.module.GlobalValue.{GlobalValue}
use Rattle.ir_tree.specs.declared.module.GlobalValue.TheVariants as global
use Rattle.ir_tree.specs.declared.operand.Operand.{Operand}
use Rattle.ir_tree.specs.declared.operand.Symbol.{Symbol}
use Rattle.ir_meaning.specs.Frame.{AFunction, AHost, AVariable, GetChar, SymbolKind, Missing, PutChar}
use Rattle.ir_meaning.specs.Memory.{Memory}
use Rattle.ir_tree.specs.Symbols.{symbol_eq}
use Rattle.ir_meaning.specs.declared.value.Value.{Value}
use Rattle.ir_tree.proofs.Symbols.{symbol_same, symbol_true}
use Rattle.ir_meaning.specs.Programs.{Body, Definition, Storage, behind, block_of, body_of, code_of, defined, defined_blocks, defined_init, definition_from, definition_of, is_declared, kind_of, opening_from, or_else, program_of, signature_of, storage_in, storage_of, symbol_of, undefined_kind}
use Rattle.merge_meaning.specs.Linked.{stored_symbol, symbol_at, variable_symbols}

pub some_is : {X : Type 0} (a b : X) → ◌≡◌ {A = Option X} (Some a) (Some b) → a ≡ b
some_is a b e = cc

-- ---- what is defined stands in the list

-- the symbol stands at some place
abbrev pub StandsIn : List Symbol → Symbol → Type 0
StandsIn ss s = (j : ℕ) × (slice_get ss j ≡ Some s)

pub further : (u : Symbol) (ss : List Symbol) (s : Symbol) → StandsIn ss s → StandsIn (u ∷ ss) s
further u ss s (j, at) = (suc j, at)

pub same_symbol : (g : GlobalValue) → symbol_of g ≡ global_symbol g
same_symbol (global.Function f) = refl
same_symbol (global.Variable v) = refl

stands_step : (n : ℕ) (g : GlobalValue) (gs : List GlobalValue) (s : Symbol) (d : Definition) (b : Bool) → symbol_eq (symbol_of g) s ≡ b
    → ((m : ℕ) → definition_from m gs s ≡ Some d → StandsIn (symbols gs) s)
    → or_else (cond b (defined n g) None) (definition_from (behind n (defined n g)) gs s) ≡ Some d → StandsIn (symbols (g ∷ gs)) s
stands_step n g gs s d true same later e = (0, ap (λ (x : Symbol). Some x) (sym (same_symbol g) ∙ symbol_true (symbol_of g) s same))
stands_step n g gs s d false same later e = further (global_symbol g) (symbols gs) s (later (behind n (defined n g)) e)

stands_from : (gs : List GlobalValue) (n : ℕ) (s : Symbol) (d : Definition) → definition_from n gs s ≡ Some d → StandsIn (symbols gs) s
stands_from [] n s d e = absurd (cc e)
stands_from (g ∷ gs) n s d e = stands_step n g gs s d (symbol_eq (symbol_of g) s) refl (λ m. stands_from gs m s d) e

pub stands : (gs : List GlobalValue) (s : Symbol) (d : Definition) → definition_of gs s ≡ Some d → StandsIn (symbols gs) s
stands gs s d e = stands_from gs 0 s d e

-- ---- the variable of a symbol

-- a variable of number k, counted from n, is that of the symbol, and stands there in memory
pub record Placed (value : Operand → Value) (s : Symbol) (k : ℕ) (v : Variable) (init : Initial) (n : ℕ) (ss : List Symbol) (memory : Memory) : Type 0 where
  pub place : ℕ
  pub number : k ≡ n + place
  pub symbol : slice_get ss place ≡ Some s
  pub block : slice_get memory place ≡ Some (block_of value v init)

module _ (value : Operand → Value) (s : Symbol) (k : ℕ) (v : Variable) (init : Initial) where
  placed_first : (n : ℕ) (u : Symbol) (w : Variable) (i : Initial) (ss : List Symbol) (memory : Memory) → u ≡ s
      → ◌≡◌ {A = Option Definition} (Some (Storage n w i)) (Some (Storage k v init)) → Placed value s k v init n (u ∷ ss) (block_of value w i ∷ memory)
  placed_first n u w i ss memory same e =
      let number : n ≡ k = cc e in
      let variable : w ≡ v = cc e in
      let initial : i ≡ init = cc e in
      record {
        place = 0;
        number = omega (arith, number);
        symbol = ap (λ (x : Symbol). Some x) same;
        block = ap (λ (x : Variable). Some (block_of value x i)) variable ∙ ap (λ (x : Initial). Some (block_of value v x)) initial;
      }

  placed_further : (n : ℕ) (u : Symbol) (w : Variable) (i : Initial) (ss : List Symbol) (memory : Memory)
      → Placed value s k v init (suc n) ss memory → Placed value s k v init n (u ∷ ss) (block_of value w i ∷ memory)
  placed_further n u w i ss memory h = record { place = suc h.place; number = omega (arith, h.number); symbol = h.symbol; block = h.block }

  placed_body : (n : ℕ) (f : Function) (gs : List GlobalValue) (blocks : List Block) (b : Bool)
      → ((m : ℕ) → definition_from m gs s ≡ Some (Storage k v init) → Placed value s k v init m (variable_symbols gs) (opening_from value gs))
      → or_else (cond b (body_of blocks f) None) (definition_from (behind n (body_of blocks f)) gs s) ≡ Some (Storage k v init)
      → Placed value s k v init n (stored_symbol (body_of blocks f) f.symbol (variable_symbols gs)) (storage_in value (body_of blocks f) (opening_from value gs))
  placed_body n f gs [] true later e = later n e
  placed_body n f gs [] false later e = later n e
  placed_body n f gs (c ∷ cs) true later e = absurd (cc e)
  placed_body n f gs (c ∷ cs) false later e = later n e

  placed_storage : (n : ℕ) (w : Variable) (gs : List GlobalValue) (i : Option Initial) (b : Bool) → symbol_eq w.symbol s ≡ b
      → ((m : ℕ) → definition_from m gs s ≡ Some (Storage k v init) → Placed value s k v init m (variable_symbols gs) (opening_from value gs))
      → or_else (cond b (storage_of i n w) None) (definition_from (behind n (storage_of i n w)) gs s) ≡ Some (Storage k v init)
      → Placed value s k v init n (stored_symbol (storage_of i 0 w) w.symbol (variable_symbols gs)) (storage_in value (storage_of i 0 w) (opening_from value gs))
  placed_storage n w gs None true same later e = later n e
  placed_storage n w gs None false same later e = later n e
  placed_storage n w gs (Some i) true same later e =
      placed_first n w.symbol w i (variable_symbols gs) (opening_from value gs) (symbol_true w.symbol s same) e
  placed_storage n w gs (Some i) false same later e =
      placed_further n w.symbol w i (variable_symbols gs) (opening_from value gs) (later (suc n) e)

  placed_from : (gs : List GlobalValue) (n : ℕ) → definition_from n gs s ≡ Some (Storage k v init)
      → Placed value s k v init n (variable_symbols gs) (opening_from value gs)
  placed_from [] n e = absurd (cc e)
  placed_from (global.Function f ∷ gs) n e = placed_body n f gs (defined_blocks f) (symbol_eq f.symbol s) (λ m. placed_from gs m) e
  placed_from (global.Variable w ∷ gs) n e = placed_storage n w gs (defined_init w) (symbol_eq w.symbol s) refl (λ m. placed_from gs m) e

  pub placed : (gs : List GlobalValue) → definition_of gs s ≡ Some (Storage k v init)
      → (slice_get (variable_symbols gs) k ≡ Some s) × (slice_get (opening_from value gs) k ≡ Some (block_of value v init))
  placed gs e = at (placed_from gs 0 e)
    where
      at : Placed value s k v init 0 (variable_symbols gs) (opening_from value gs)
          → (slice_get (variable_symbols gs) k ≡ Some s) × (slice_get (opening_from value gs) k ≡ Some (block_of value v init))
      at h =
          let here : h.place ≡ k = omega (arith, h.number) in (
            subst (λ (i : ℕ). slice_get (variable_symbols gs) i ≡ Some s) here h.symbol,
            subst (λ (i : ℕ). slice_get (opening_from value gs) i ≡ Some (block_of value v init)) here h.block,
          )

-- the symbol of the variable of a number
pub symbol_of_number : (gs : List GlobalValue) (k : ℕ) (s : Symbol) → slice_get (variable_symbols gs) k ≡ Some s → symbol_at gs k ≡ s
symbol_of_number gs k s e = get_or_from_slice_get (variable_symbols gs) k s (record { home = None; name = [] }) e

-- there are as many symbols of variables as variables
storage_length : (value : Operand → Value) (d : Option Definition) (s : Symbol) (ss : List Symbol) (memory : Memory)
    → length ss ≡ length memory → length (stored_symbol d s ss) ≡ length (storage_in value d memory)
storage_length value None s ss memory e = e
storage_length value (Some (Body f)) s ss memory e = e
storage_length value (Some (Storage n v init)) s ss memory e = ap suc e

pub as_many : (value : Operand → Value) (gs : List GlobalValue) → length (variable_symbols gs) ≡ length (opening_from value gs)
as_many value [] = refl
as_many value (g ∷ gs) = storage_length value (defined 0 g) (symbol_of g) (variable_symbols gs) (opening_from value gs) (as_many value gs)

-- ---- where no symbol stands twice, each variable is that of its symbol

stored_step : (d : Option Definition) (u : Symbol) (vs ss : List Symbol) (s : Symbol) → ((i : ℕ) → slice_get vs i ≡ Some s → StandsIn ss s)
    → (i : ℕ) → slice_get (stored_symbol d u vs) i ≡ Some s → StandsIn (u ∷ ss) s
stored_step None u vs ss s later i e = further u ss s (later i e)
stored_step (Some (Body f)) u vs ss s later i e = further u ss s (later i e)
stored_step (Some (Storage n v init)) u vs ss s later zero e = (0, e)
stored_step (Some (Storage n v init)) u vs ss s later (suc i) e = further u ss s (later i e)

stored_stands : (gs : List GlobalValue) (i : ℕ) (s : Symbol) → slice_get (variable_symbols gs) i ≡ Some s → StandsIn (symbols gs) s
stored_stands [] i s e = absurd (cc e)
stored_stands (g ∷ gs) i s e =
    subst (λ (u : Symbol). StandsIn (u ∷ symbols gs) s) (same_symbol g)
    (stored_step (defined 0 g) (symbol_of g) (variable_symbols gs) (symbols gs) s (λ j. stored_stands gs j s) i e)

-- a symbol that stands later isn't the first
pub not_first : (u s : Symbol) (ss : List Symbol) → Distinct (u ∷ ss) → StandsIn ss s → symbol_eq u s ≡ false
not_first u s ss once (j, at) = by (symbol_eq u s) refl
  where
    by : (b : Bool) → symbol_eq u s ≡ b → symbol_eq u s ≡ false
    by false e = e
    by true e = let clash : 0 ≡ suc j = once 0 (suc j) s (ap (λ (x : Symbol). Some x) (symbol_true u s e)) at in absurd (omega (arith, clash))

pub others_once : (u : Symbol) (ss : List Symbol) → Distinct (u ∷ ss) → Distinct ss
others_once u ss once i j s a b = let same : suc i ≡ suc j = once (suc i) (suc j) s a b in omega (arith, same)

pub skipped : (b : Bool) (d later : Option Definition) → b ≡ false → or_else (cond b d None) later ≡ later
skipped false d later e = refl
skipped true d later e = absurd (cc e)

taken : (b : Bool) (d : Definition) (later : Option Definition) → b ≡ true → or_else (cond b (Some d) None) later ≡ Some d
taken true d later e = refl
taken false d later e = absurd (cc e)

body_behind : (n : ℕ) (f : Function) (blocks : List Block) → behind n (body_of blocks f) ≡ n
body_behind n f [] = refl
body_behind n f (b ∷ bs) = refl

-- the i-th variable, counted from n, is that of the symbol
abbrev Owns : List GlobalValue → Symbol → ℕ → ℕ → Type 0
Owns gs s n i = (v : Variable) × (init : Initial) × (definition_from n gs s ≡ Some (Storage (n + i) v init))

owned_body : (f : Function) (gs : List GlobalValue) (s : Symbol) (n i : ℕ) → symbol_eq f.symbol s ≡ false → Owns gs s n i → Owns (global.Function f ∷ gs) s n i
owned_body f gs s n i other (v, init, e) = (
  v,
  init,
  skipped (symbol_eq f.symbol s) (body_of (defined_blocks f) f) (definition_from (behind n (body_of (defined_blocks f) f)) gs s) other
      ∙ ap (λ (m : ℕ). definition_from m gs s) (body_behind n f (defined_blocks f))
      ∙ e,
)

owned_storage : (w : Variable) (gs : List GlobalValue) (s : Symbol) (n i : ℕ) (init : Option Initial)
    → ((j : ℕ) → slice_get (variable_symbols gs) j ≡ Some s → symbol_eq w.symbol s ≡ false)
    → ((m j : ℕ) → slice_get (variable_symbols gs) j ≡ Some s → Owns gs s m j)
    → slice_get (stored_symbol (storage_of init 0 w) w.symbol (variable_symbols gs)) i ≡ Some s
    → (v : Variable) × (given : Initial) × (or_else (cond (symbol_eq w.symbol s) (storage_of init n w) None) (definition_from (behind n (storage_of init n w)) gs s) ≡ Some (Storage (n + i) v given))
owned_storage w gs s n i None other later e =
    let h = later n i e in
    (h.0, h.1, skipped (symbol_eq w.symbol s) None (definition_from n gs s) (other i e) ∙ h.2)
owned_storage w gs s n zero (Some init) other later e =
    let number : n ≡ n + 0 = omega arith in (
      w,
      init,
      taken (symbol_eq w.symbol s) (Storage n w init) (definition_from (suc n) gs s) (symbol_same w.symbol s (some_is w.symbol s e))
          ∙ ap (λ (m : ℕ). Some (Storage m w init)) number,
    )
owned_storage w gs s n (suc i) (Some init) other later e =
    let h = later (suc n) i e in
    let number : suc n + i ≡ n + suc i = omega arith in (
      h.0,
      h.1,
      skipped (symbol_eq w.symbol s) (Some (Storage n w init)) (definition_from (suc n) gs s) (other i e) ∙ h.2
          ∙ ap (λ (m : ℕ). Some (Storage m h.0 h.1)) number,
    )

unstored : (f : Function) (gs : List GlobalValue) (s : Symbol) (i : ℕ) (blocks : List Block)
    → slice_get (stored_symbol (body_of blocks f) f.symbol (variable_symbols gs)) i ≡ Some s → slice_get (variable_symbols gs) i ≡ Some s
unstored f gs s i [] e = e
unstored f gs s i (b ∷ bs) e = e

owned_from : (gs : List GlobalValue) (s : Symbol) → Distinct (symbols gs) → (n i : ℕ) → slice_get (variable_symbols gs) i ≡ Some s → Owns gs s n i
owned_from [] s once n i e = absurd (cc e)
owned_from (global.Function f ∷ gs) s once n i e =
    let there : slice_get (variable_symbols gs) i ≡ Some s = unstored f gs s i (defined_blocks f) e in
    owned_body f gs s n i (not_first f.symbol s (symbols gs) once (stored_stands gs i s there))
    (owned_from gs s (others_once f.symbol (symbols gs) once) n i there)
owned_from (global.Variable w ∷ gs) s once n i e =
    owned_storage w gs s n i (defined_init w) (λ j at. not_first w.symbol s (symbols gs) once (stored_stands gs j s at))
    (λ m j. owned_from gs s (others_once w.symbol (symbols gs) once) m j) e

pub owned : (gs : List GlobalValue) → Distinct (symbols gs) → (l : ℕ) (s : Symbol) → slice_get (variable_symbols gs) l ≡ Some s
    → (v : Variable) × (init : Initial) × (definition_of gs s ≡ Some (Storage l v init))
owned gs once l s e =
    let h = owned_from gs s once 0 l e in
    let number : 0 + l ≡ l = omega arith in
    (h.0, h.1, h.2 ∙ ap (λ (m : ℕ). Some (Storage m h.0 h.1)) number)

-- ---- what is known has a short name

-- at least as long as the name of each of these symbols and of each function of the outside
abbrev pub weight : List Symbol → ℕ
weight [] = length (codes "putchar") + length (codes "getchar")
weight (s ∷ ss) = length s.name + weight ss

weighed : (ss : List Symbol) (j : ℕ) (s : Symbol) → slice_get ss j ≡ Some s → length s.name ≤ weight ss
weighed [] j s e = absurd (cc e)
weighed (u ∷ ss) zero s e = let same : length u.name ≡ length s.name = ap (λ (x : Symbol). length x.name) (some_is u s e) in omega (arith, same)
weighed (u ∷ ss) (suc j) s e = let rest = weighed ss j s e in omega (arith, rest)

hosts_weighed : (ss : List Symbol) → length (codes "putchar") + length (codes "getchar") ≤ weight ss
hosts_weighed [] = omega arith
hosts_weighed (s ∷ ss) = let rest = hosts_weighed ss in omega (arith, rest)

pub known_host : (home : Option ℕ) (name : List ℕ) (ss : List Symbol) → (undefined_kind home name ≡ Missing → ⊥) → (home ≡ None) × (length name ≤ weight ss)
known_host (Some k) name ss h = absurd (h refl)
known_host None name ss h = (refl, by (bytes_eq name (codes "putchar")) refl (bytes_eq name (codes "getchar")) refl h)
  where
    by : (a : Bool) → bytes_eq name (codes "putchar") ≡ a → (b : Bool) → bytes_eq name (codes "getchar") ≡ b
        → (cond a (AHost PutChar) (cond b (AHost GetChar) Missing) ≡ Missing → ⊥) → length name ≤ weight ss
    by true e b f h =
        let same : length name ≡ length (codes "putchar") = ap (λ (x : List ℕ). length x) ((bytes_eq-Decides name (codes "putchar")).0 e) in
        let least = hosts_weighed ss in
        omega (arith, same, least)
    by false e true f h =
        let same : length name ≡ length (codes "getchar") = ap (λ (x : List ℕ). length x) ((bytes_eq-Decides name (codes "getchar")).0 f) in
        let least = hosts_weighed ss in
        omega (arith, same, least)
    by false e false f h = absurd (h refl)

-- what isn't defined and is known is a function of the outside
pub outside : (declared : Bool) (s : Symbol) → (kind_of declared s None ≡ Missing → ⊥) → undefined_kind s.home s.name ≡ Missing → ⊥
outside true s h = h
outside false s h = absurd (h refl)

unknown : (declared : Bool) (s : Symbol) → undefined_kind s.home s.name ≡ Missing → kind_of declared s None ≡ Missing
unknown true s e = e
unknown false s e = refl

-- what is known is defined, or a function of the outside
pub known : (gs : List GlobalValue) (s : Symbol) → ((signature_of gs).kind s ≡ Missing → ⊥)
    → ((d : Definition) × (definition_of gs s ≡ Some d)) ⊎ ((definition_of gs s ≡ None) × (s.home ≡ None))
known gs s h = by (definition_of gs s) refl h
  where
    by : (o : Option Definition) → definition_of gs s ≡ o → (kind_of (is_declared gs s) s o ≡ Missing → ⊥)
        → ((d : Definition) × (definition_of gs s ≡ Some d)) ⊎ ((definition_of gs s ≡ None) × (s.home ≡ None))
    by None e h = inr (e, (known_host s.home s.name [] (outside (is_declared gs s) s h)).0)
    by (Some d) e h = inl (d, e)

pub known_short : (gs : List GlobalValue) (s : Symbol) → ((signature_of gs).kind s ≡ Missing → ⊥) → length s.name ≤ weight (symbols gs)
known_short gs s h = by (definition_of gs s) refl h
  where
    by : (o : Option Definition) → definition_of gs s ≡ o → (kind_of (is_declared gs s) s o ≡ Missing → ⊥) → length s.name ≤ weight (symbols gs)
    by None e h = (known_host s.home s.name (symbols gs) (outside (is_declared gs s) s h)).1
    by (Some d) e h = let at = stands gs s d e in weighed (symbols gs) at.0 s at.1

pub long_unknown : (gs : List GlobalValue) (s : Symbol) → weight (symbols gs) < length s.name
    → ((program_of gs).signature.kind s ≡ Missing) × ((program_of gs).code s ≡ None)
long_unknown gs s long = by (definition_of gs s) refl
  where
    host : (k : SymbolKind) → undefined_kind s.home s.name ≡ k → undefined_kind s.home s.name ≡ Missing
    host Missing e = e
    host (AFunction params result) e = let short = (known_host s.home s.name (symbols gs) (λ m. cc (e, m))).1 in absurd (omega (arith, long, short))
    host (AVariable number) e = let short = (known_host s.home s.name (symbols gs) (λ m. cc (e, m))).1 in absurd (omega (arith, long, short))
    host (AHost h) e = let short = (known_host s.home s.name (symbols gs) (λ m. cc (e, m))).1 in absurd (omega (arith, long, short))

    by : (o : Option Definition) → definition_of gs s ≡ o → (kind_of (is_declared gs s) s o ≡ Missing) × (code_of o ≡ None)
    by None e = (unknown (is_declared gs s) s (host (undefined_kind s.home s.name) refl), refl)
    by (Some d) e = let at = stands gs s d e in let short = weighed (symbols gs) at.0 s at.1 in absurd (omega (arith, long, short))

-- ---- a definition that is found

-- it is that of a global value of this symbol
pub record Found (gs : List GlobalValue) (s : Symbol) (d : Definition) : Type 0 where
  pub g : GlobalValue
  pub j : ℕ
  pub n : ℕ
  pub at : slice_get gs j ≡ Some g
  pub symbol : symbol_of g ≡ s
  pub is : defined n g ≡ Some d

found_later : (g : GlobalValue) (gs : List GlobalValue) (s : Symbol) (d : Definition) → Found gs s d → Found (g ∷ gs) s d
found_later g gs s d f = record { g = f.g; j = suc f.j; n = f.n; at = f.at; symbol = f.symbol; is = f.is }

first_or_later : (o later : Option Definition) (d : Definition) → or_else o later ≡ Some d → (o ≡ Some d) ⊎ (later ≡ Some d)
first_or_later None later d e = inr e
first_or_later (Some c) later d e = inl e

pub found : (gs : List GlobalValue) (n : ℕ) (s : Symbol) (d : Definition) → definition_from n gs s ≡ Some d → Found gs s d
found [] n s d e = absurd (cc e)
found (g ∷ gs) n s d e = by (symbol_eq (symbol_of g) s) refl e (λ m. found gs m s d)
  where
    by : (b : Bool) → symbol_eq (symbol_of g) s ≡ b → or_else (cond b (defined n g) None) (definition_from (behind n (defined n g)) gs s) ≡ Some d
        → ((m : ℕ) → definition_from m gs s ≡ Some d → Found gs s d) → Found (g ∷ gs) s d
    by false same e later = found_later g gs s d (later (behind n (defined n g)) e)
    by true same e later = either (first_or_later (defined n g) (definition_from (behind n (defined n g)) gs s) d e)
      where
        either : (defined n g ≡ Some d) ⊎ (definition_from (behind n (defined n g)) gs s ≡ Some d) → Found (g ∷ gs) s d
        either (inl here) = record { g = g; j = 0; n = n; at = refl; symbol = symbol_true (symbol_of g) s same; is = here }
        either (inr there) = found_later g gs s d (later (behind n (defined n g)) there)

-- what is known is declared
pub known_declared : (gs : List GlobalValue) (s : Symbol) → ((signature_of gs).kind s ≡ Missing → ⊥) → is_declared gs s ≡ true
known_declared gs s h = by (is_declared gs s) refl (definition_of gs s) refl h
  where
    by : (b : Bool) → is_declared gs s ≡ b → (o : Option Definition) → definition_of gs s ≡ o → (kind_of b s o ≡ Missing → ⊥) → is_declared gs s ≡ true
    by true e o f h = e
    by false e None f h = absurd (h refl)
    by false e (Some d) f h =
        let x = found gs 0 s d f in
        any_passes_from_place (λ (g : GlobalValue). symbol_eq (symbol_of g) s) gs x.j x.g x.at (symbol_same (symbol_of x.g) s x.symbol)

pub took : (b : Bool) (o later : Option Definition) (d : Definition) → b ≡ true → o ≡ Some d → or_else (cond b o None) later ≡ o
took true (Some c) later d e f = refl
took true None later d e f = absurd (cc f)
took false o later d e f = absurd (cc e)

-- ---- where no symbol stands twice, each definition that stands there is found

standing : (g x : GlobalValue) (gs : List GlobalValue) (n : ℕ) (d : Definition) → x ≡ g → defined n g ≡ Some d
    → definition_from n (x ∷ gs) (symbol_of g) ≡ defined n g
standing g x gs n d same is =
    subst (λ (z : GlobalValue). definition_from n (z ∷ gs) (symbol_of g) ≡ defined n g) (sym same)
    (took (symbol_eq (symbol_of g) (symbol_of g)) (defined n g) (definition_from (behind n (defined n g)) gs (symbol_of g)) d (symbol_same (symbol_of g) (symbol_of g) refl) is)

global_is : (x g : GlobalValue) → ◌≡◌ {A = Option GlobalValue} (Some x) (Some g) → x ≡ g
global_is x g e = cc e

pub symbol_stands : (gs : List GlobalValue) (j : ℕ) (g : GlobalValue) → slice_get gs j ≡ Some g → slice_get (symbols gs) j ≡ Some (symbol_of g)
symbol_stands gs j g e = slice_get-map global_symbol gs j ∙ ap (option_map global_symbol) e ∙ ap (λ (s : Symbol). Some s) (sym (same_symbol g))

pub looked_up : (gs : List GlobalValue) → Distinct (symbols gs) → (j : ℕ) (g : GlobalValue) → slice_get gs j ≡ Some g
    → ((n : ℕ) → (d : Definition) × (defined n g ≡ Some d)) → (n : ℕ) → (m : ℕ) × (definition_from n gs (symbol_of g) ≡ defined m g)
looked_up [] once j g e is n = absurd (cc e)
looked_up (x ∷ gs) once zero g e is n = (n, standing g x gs n (is n).0 (global_is x g e) (is n).1)
looked_up (x ∷ gs) once (suc j) g e is n =
    let rest = looked_up gs (others_once (global_symbol x) (symbols gs) once) j g e is (behind n (defined n x)) in
    let other : symbol_eq (symbol_of x) (symbol_of g) ≡ false =
    ap (λ (s : Symbol). symbol_eq s (symbol_of g)) (same_symbol x) ∙ not_first (global_symbol x) (symbol_of g) (symbols gs) once (j, symbol_stands gs j g e) in
    (rest.0, skipped (symbol_eq (symbol_of x) (symbol_of g)) (defined n x) (definition_from (behind n (defined n x)) gs (symbol_of g)) other ∙ rest.1)

-- a symbol of a definition that stands in a list is defined, in any case
pub defined_there : (gs : List GlobalValue) (j : ℕ) (g : GlobalValue) → slice_get gs j ≡ Some g → ((n : ℕ) → (d : Definition) × (defined n g ≡ Some d))
    → (n : ℕ) → definition_from n gs (symbol_of g) ≡ None → ⊥
defined_there [] j g e is n none = absurd (cc e)
defined_there (x ∷ gs) zero g e is n none =
    let found : definition_from n (x ∷ gs) (symbol_of g) ≡ Some (is n).0 = standing g x gs n (is n).0 (global_is x g e) (is n).1 ∙ (is n).1 in
    absurd (cc (found, none))
defined_there (x ∷ gs) (suc j) g e is n none =
    defined_there gs j g e is (behind n (defined n x)) (rest (cond (symbol_eq (symbol_of x) (symbol_of g)) (defined n x) None) none)
  where
    rest : (o : Option Definition) → or_else o (definition_from (behind n (defined n x)) gs (symbol_of g)) ≡ None → definition_from (behind n (defined n x)) gs (symbol_of g) ≡ None
    rest None h = h
    rest (Some d) h = absurd (cc h)
