-- The functions of the outside behind global values: definitions stay, each of the two is declared, and no symbol stands twice.
use Rattle.std.proofs.Common.{◌≡◌, ◌⊎◌, inl, inr, ℕ, zero, suc, Bool, true, false, ◌||◌, cond, List, [], ◌∷◌, ◌++◌, length, slice_get, Option, Some, None, codes, bytes_eq, refl, sym, ap, subst, ◌∙◌, arith}
use Rattle.std.proofs.lemmas.Map.Keys.{any_passes_from_place}
use Rattle.std.proofs.lemmas.Slice.Eq.{bytes_eq-Decides}
use Rattle.ir_tree.specs.Formed.{Distinct}
use Rattle.ir_tree.specs.Wholes.{global_symbol, symbols}
use Rattle.ir_tree.specs.declared.module.GlobalValue.{GlobalValue}
use Rattle.ir_tree.specs.declared.operand.Operand.{Operand}
use Rattle.ir_tree.specs.declared.operand.Symbol.{Symbol}
use Rattle.ir_meaning.specs.Frame.{AHost, GetChar, Missing, PutChar, Signature, value_of}
use Rattle.ir_meaning.specs.Memory.{Memory}
use Rattle.ir_tree.specs.Symbols.{symbol_eq}
use Rattle.ir_meaning.specs.declared.value.Value.{Value}
use Rattle.ir_tree.proofs.Symbols.{symbol_same}
use Rattle.ir_meaning.specs.Programs.{Body, Definition, Storage, behind, code_of, defined, definition_from, definition_of, is_declared, kind_of, opening_from, or_else, program_of, shared, signature_of, storage_in, symbol_of, undefined_kind}
use Rattle.merge_meaning.specs.Merged.{declaration, with_host, with_hosts}
use Rattle.merge_meaning.proofs.Looked.{same_symbol, some_is}
use Rattle.merge_meaning.proofs.Names.{clash}

abbrev PUT : List ℕ
PUT = codes "putchar"

abbrev GET : List ℕ
GET = codes "getchar"

-- ---- one of them

module _ (name : List ℕ) (gs : List GlobalValue) where
  -- what holds with the declaration behind and without it
  host_either : (P : List GlobalValue → Type 0) → P gs → (is_declared gs (shared name) ≡ false → P (gs ++ declaration name ∷ [])) → P (with_host name gs)
  host_either P without behind' = by (is_declared gs (shared name)) refl
    where
      by : (b : Bool) → is_declared gs (shared name) ≡ b → P (cond b gs (gs ++ declaration name ∷ []))
      by true e = without
      by false e = behind' e

neither : (b : Bool) → or_else (cond b None None) None ≡ None
neither true = refl
neither false = refl

definition_stays : (gs : List GlobalValue) (name : List ℕ) (n : ℕ) (s : Symbol) → definition_from n (gs ++ declaration name ∷ []) s ≡ definition_from n gs s
definition_stays [] name n s = neither (symbol_eq (shared name) s)
definition_stays (g ∷ gs) name n s =
    ap (λ (o : Option Definition). or_else (cond (symbol_eq (symbol_of g) s) (defined n g) None) o) (definition_stays gs name (behind n (defined n g)) s)

opening_stays : (value : Operand → Value) (gs : List GlobalValue) (name : List ℕ) → opening_from value (gs ++ declaration name ∷ []) ≡ opening_from value gs
opening_stays value [] name = refl
opening_stays value (g ∷ gs) name = ap (λ (rest : Memory). storage_in value (defined 0 g) rest) (opening_stays value gs name)

host_defined : (name : List ℕ) (gs : List GlobalValue) (s : Symbol) → definition_of (with_host name gs) s ≡ definition_of gs s
host_defined name gs s = host_either name gs (λ (xs : List GlobalValue). definition_of xs s ≡ definition_of gs s) refl (λ e. definition_stays gs name 0 s)

host_open : (value : Operand → Value) (name : List ℕ) (gs : List GlobalValue) → opening_from value (with_host name gs) ≡ opening_from value gs
host_open value name gs = host_either name gs (λ (xs : List GlobalValue). opening_from value xs ≡ opening_from value gs) refl (λ e. opening_stays value gs name)

declared_more : (gs : List GlobalValue) (name : List ℕ) (s : Symbol) → is_declared gs s ≡ true → is_declared (gs ++ declaration name ∷ []) s ≡ true
declared_more [] name s e = absurd (cc e)
declared_more (g ∷ gs) name s e = by (symbol_eq (symbol_of g) s) e (declared_more gs name s)
  where
    by : (b : Bool) → (b || is_declared gs s) ≡ true → (is_declared gs s ≡ true → is_declared (gs ++ declaration name ∷ []) s ≡ true)
        → (b || is_declared (gs ++ declaration name ∷ []) s) ≡ true
    by true f rest = refl
    by false f rest = rest f

declared_last : (gs : List GlobalValue) (name : List ℕ) → is_declared (gs ++ declaration name ∷ []) (shared name) ≡ true
declared_last [] name = ap (λ (b : Bool). b || false) (symbol_same (shared name) (shared name) refl)
declared_last (g ∷ gs) name = by (symbol_eq (symbol_of g) (shared name)) (declared_last gs name)
  where
    by : (b : Bool) → is_declared (gs ++ declaration name ∷ []) (shared name) ≡ true → (b || is_declared (gs ++ declaration name ∷ []) (shared name)) ≡ true
    by true rest = refl
    by false rest = rest

host_keeps : (name : List ℕ) (gs : List GlobalValue) (s : Symbol) → is_declared gs s ≡ true → is_declared (with_host name gs) s ≡ true
host_keeps name gs s e = host_either name gs (λ (xs : List GlobalValue). is_declared xs s ≡ true) e (λ f. declared_more gs name s e)

host_declared : (name : List ℕ) (gs : List GlobalValue) → is_declared (with_host name gs) (shared name) ≡ true
host_declared name gs = by (is_declared gs (shared name)) refl
  where
    by : (b : Bool) → is_declared gs (shared name) ≡ b → is_declared (cond b gs (gs ++ declaration name ∷ [])) (shared name) ≡ true
    by true e = e
    by false e = declared_last gs name

-- ---- no symbol twice

last_or_before : (gs : List GlobalValue) (g : GlobalValue) (i : ℕ) (h : GlobalValue) → slice_get (gs ++ g ∷ []) i ≡ Some h → (slice_get gs i ≡ Some h) ⊎ ((i ≡ length gs) × (g ≡ h))
last_or_before [] g zero h e = inr (refl, some_is g h e)
last_or_before [] g (suc i) h e = absurd (cc e)
last_or_before (x ∷ gs) g zero h e = inl e
last_or_before (x ∷ gs) g (suc i) h e = next (last_or_before gs g i h e)
  where
    next : (slice_get gs i ≡ Some h) ⊎ ((i ≡ length gs) × (g ≡ h)) → (slice_get (x ∷ gs) (suc i) ≡ Some h) ⊎ ((suc i ≡ length (x ∷ gs)) × (g ≡ h))
    next (inl f) = inl f
    next (inr f) = inr (omega (arith, f.0), f.1)

-- where a symbol stands, its global value stands, and the other way
symbol_got : (gs : List GlobalValue) (i : ℕ) (s : Symbol) → slice_get (symbols gs) i ≡ Some s → (g : GlobalValue) × ((slice_get gs i ≡ Some g) × (symbol_of g ≡ s))
symbol_got [] i s e = absurd (cc e)
symbol_got (x ∷ gs) zero s e = (x, (refl, same_symbol x ∙ some_is (global_symbol x) s e))
symbol_got (x ∷ gs) (suc i) s e = symbol_got gs i s e

got_symbol : (gs : List GlobalValue) (i : ℕ) (g : GlobalValue) → slice_get gs i ≡ Some g → slice_get (symbols gs) i ≡ Some (symbol_of g)
got_symbol [] i g e = absurd (cc e)
got_symbol (x ∷ gs) zero g e = ap Some (sym (same_symbol x) ∙ ap (λ (y : GlobalValue). symbol_of y) (some_is x g e))
got_symbol (x ∷ gs) (suc i) g e = got_symbol gs i g e

host_once : (name : List ℕ) (gs : List GlobalValue) → Distinct (symbols gs) → Distinct (symbols (with_host name gs))
host_once name gs once = host_either name gs (λ (xs : List GlobalValue). Distinct (symbols xs)) once more
  where
    more : is_declared gs (shared name) ≡ false → Distinct (symbols (gs ++ declaration name ∷ []))
    more gone i j s a b = by (last_or_before gs (declaration name) i g.0 g.1.0) (last_or_before gs (declaration name) j h.0 h.1.0)
      where
        g : (x : GlobalValue) × ((slice_get (gs ++ declaration name ∷ []) i ≡ Some x) × (symbol_of x ≡ s))
        g = symbol_got (gs ++ declaration name ∷ []) i s a

        h : (x : GlobalValue) × ((slice_get (gs ++ declaration name ∷ []) j ≡ Some x) × (symbol_of x ≡ s))
        h = symbol_got (gs ++ declaration name ∷ []) j s b

        -- a symbol that stands before isn't this one
        apart : (k : ℕ) (x y : GlobalValue) → slice_get gs k ≡ Some x → declaration name ≡ y → symbol_of x ≡ symbol_of y → ⊥
        apart k x y at is same =
            clash (is_declared gs (shared name)) gone
            (any_passes_from_place (λ (z : GlobalValue). symbol_eq (symbol_of z) (shared name)) gs k x at
            (symbol_same (symbol_of x) (shared name) (same ∙ ap (λ (z : GlobalValue). symbol_of z) (sym is))))

        by : (slice_get gs i ≡ Some g.0) ⊎ ((i ≡ length gs) × (declaration name ≡ g.0)) → (slice_get gs j ≡ Some h.0) ⊎ ((j ≡ length gs) × (declaration name ≡ h.0)) → i ≡ j
        by (inl p) (inl q) = once i j s (got_symbol gs i g.0 p ∙ ap Some g.1.1) (got_symbol gs j h.0 q ∙ ap Some h.1.1)
        by (inl p) (inr q) = absurd (apart i g.0 h.0 p q.1 (g.1.1 ∙ sym h.1.1))
        by (inr p) (inl q) = absurd (apart j h.0 g.0 q p.1 (h.1.1 ∙ sym g.1.1))
        by (inr p) (inr q) = p.0 ∙ sym q.0

abbrev pub Every : (GlobalValue → Type 0) → List GlobalValue → Type 0
Every P gs = (i : ℕ) (g : GlobalValue) → slice_get gs i ≡ Some g → P g

pub host_every : (P : GlobalValue → Type 0) (name : List ℕ) → P (declaration name) → (gs : List GlobalValue) → Every P gs → Every P (with_host name gs)
host_every P name declared gs all = host_either name gs (λ (xs : List GlobalValue). Every P xs) all more
  where
    more : is_declared gs (shared name) ≡ false → Every P (gs ++ declaration name ∷ [])
    more gone i g e = by (last_or_before gs (declaration name) i g e)
      where
        by : (slice_get gs i ≡ Some g) ⊎ ((i ≡ length gs) × (declaration name ≡ g)) → P g
        by (inl f) = all i g f
        by (inr f) = subst P f.1 declared

-- ---- both of them

pub hosts_defined : (gs : List GlobalValue) (s : Symbol) → definition_of (with_hosts gs) s ≡ definition_of gs s
hosts_defined gs s = host_defined GET (with_host PUT gs) s ∙ host_defined PUT gs s

hosts_open : (value : Operand → Value) (gs : List GlobalValue) → opening_from value (with_hosts gs) ≡ opening_from value gs
hosts_open value gs = host_open value GET (with_host PUT gs) ∙ host_open value PUT gs

pub hosts_once : (gs : List GlobalValue) → Distinct (symbols gs) → Distinct (symbols (with_hosts gs))
hosts_once gs once = host_once GET (with_host PUT gs) (host_once PUT gs once)

pub hosts_every : (P : GlobalValue → Type 0) → ((name : List ℕ) → P (declaration name)) → (gs : List GlobalValue) → ((i : ℕ) (g : GlobalValue) → slice_get gs i ≡ Some g → P g)
    → (i : ℕ) (g : GlobalValue) → slice_get (with_hosts gs) i ≡ Some g → P g
hosts_every P declared gs all = host_every P GET (declared GET) (with_host PUT gs) (host_every P PUT (declared PUT) gs all)

-- ---- what symbols are

shared_is : (s : Symbol) (name : List ℕ) → s.home ≡ None → s.name ≡ name → s ≡ shared name
shared_is s name e f = ap (λ (h : Option ℕ). record { home = h; name = s.name }) e ∙ ap (λ (n : List ℕ). record { home = None; name = n }) f

-- what isn't declared then is none of the two
not_outside : (gs : List GlobalValue) (s : Symbol) → is_declared (with_hosts gs) s ≡ false → undefined_kind s.home s.name ≡ Missing
not_outside gs s gone = by s.home refl
  where
    never : (name : List ℕ) → s.home ≡ None → bytes_eq s.name name ≡ true → is_declared (with_hosts gs) (shared name) ≡ true → ⊥
    never name e p there =
        clash (is_declared (with_hosts gs) s) gone (ap (λ (x : Symbol). is_declared (with_hosts gs) x) (shared_is s name e ((bytes_eq-Decides s.name name).0 p)) ∙ there)

    at : s.home ≡ None → (b c : Bool) → bytes_eq s.name PUT ≡ b → bytes_eq s.name GET ≡ c → cond b (AHost PutChar) (cond c (AHost GetChar) Missing) ≡ Missing
    at e true c p q = absurd (never PUT e p (host_keeps GET (with_host PUT gs) (shared PUT) (host_declared PUT gs)))
    at e false true p q = absurd (never GET e q (host_declared GET (with_host PUT gs)))
    at e false false p q = refl

    by : (home : Option ℕ) → s.home ≡ home → undefined_kind home s.name ≡ Missing
    by (Some k) e = refl
    by None e = at e (bytes_eq s.name PUT) (bytes_eq s.name GET) refl refl

-- so a symbol is what it is where it is declared
pub hosts_kind : (gs : List GlobalValue) (s : Symbol) → (signature_of (with_hosts gs)).kind s ≡ kind_of true s (definition_of gs s)
hosts_kind gs s =
    ap (λ (d : Option Definition). kind_of (is_declared (with_hosts gs) s) s d) (hosts_defined gs s)
    ∙ by (is_declared (with_hosts gs) s) refl (definition_of gs s)
  where
    by : (b : Bool) → is_declared (with_hosts gs) s ≡ b → (d : Option Definition) → kind_of b s d ≡ kind_of true s d
    by true e d = refl
    by false e None = sym (not_outside gs s e)
    by false e (Some (Body f)) = refl
    by false e (Some (Storage n v init)) = refl

-- ---- lists that mean one program

pub same_hosted : (gs hs : List GlobalValue) → ((s : Symbol) → definition_of gs s ≡ definition_of hs s) → ((value : Operand → Value) → opening_from value gs ≡ opening_from value hs)
    → program_of (with_hosts gs) ≡ program_of (with_hosts hs)
same_hosted gs hs defs opens = λ i. record { signature = signatures i; code = λ s. code_of (hosted s i); opening = memory i }
  where
    hosted : (s : Symbol) → definition_of (with_hosts gs) s ≡ definition_of (with_hosts hs) s
    hosted s = hosts_defined gs s ∙ defs s ∙ sym (hosts_defined hs s)

    kinds : (s : Symbol) → (signature_of (with_hosts gs)).kind s ≡ (signature_of (with_hosts hs)).kind s
    kinds s = hosts_kind gs s ∙ ap (λ (d : Option Definition). kind_of true s d) (defs s) ∙ sym (hosts_kind hs s)

    signatures : signature_of (with_hosts gs) ≡ signature_of (with_hosts hs)
    signatures = λ i. record { kind = λ s. kinds s i }

    value : Operand → Value
    value = value_of (signature_of (with_hosts gs)) []

    memory : opening_from value (with_hosts gs) ≡ opening_from (value_of (signature_of (with_hosts hs)) []) (with_hosts hs)
    memory =
        hosts_open value gs ∙ opens value ∙ sym (hosts_open value hs)
        ∙ ap (λ (sig : Signature). opening_from (value_of sig []) (with_hosts hs)) signatures
