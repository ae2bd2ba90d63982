-- Marks that no stage before the functions refuses, and that all stages let pass.
use Rattle.std.proofs.Common.{◌≡◌, ℕ, Bool, true, false, cond, ◌||◌, None, Option, Ok, Err, List, [], ◌∷◌, ◌++◌, refl, sym, ap, subst, ◌∙◌, append_assoc, append-nil}
use Rattle.std.specs.List.{AllByRecursion as Each}
use Rattle.ir_lex.specs.Tok.{Tok}
use Rattle.ir_parse_names.specs.Globals.{Globals, no_globals, has_name, is_low, counted_by, with_global}
use Rattle.ir_parse_names.specs.Groups.{once}
use Rattle.ir_parse_names.specs.Keys.{number_of}
use Rattle.ir_parse_names.specs.Locals.{twice, unknown}
use Rattle.ir_parse_names.specs.Marks.{Mark, type_name, type_use, shape, many, global, symbol, address}
use Rattle.ir_parse_names.specs.Stages.{mark_within, marks_within, global_names, all_named, globals_named}
use Rattle.ir_parse_names.specs.Symbols.{symbol_name}
use Rattle.ir_parse_names.specs.TypeNames.{typed_by, all_typed, first_types, type_names}
use Rattle.ir_parse_names.specs.Types.{Types}
use Rattle.ir_round_trip.proofs.Binds.{bound}

-- ---- one mark

-- no type name is defined or used
abbrev pub Untyped : Mark → Type 0
Untyped (type_name name typed) = ⊥
Untyped (type_use name) = ⊥
Untyped _ = Unit {0}

-- a global that is used is one of these
abbrev pub IsThere : List (List ℕ) → Mark → Type 0
IsThere names (symbol name) = has_name names (symbol_name name) ≡ true
IsThere names (address steps) = has_name names (symbol_name steps.name) ≡ true
IsThere names _ = Unit {0}

-- a global that is defined or declared has no number
abbrev pub IsSpelled : Mark → Type 0
IsSpelled (global name) = number_of name ≡ None
IsSpelled _ = Unit {0}

-- none is defined or declared
abbrev pub IsInner : Mark → Type 0
IsInner (global name) = ⊥
IsInner _ = Unit {0}

pub record Right (names : List (List ℕ)) (m : Mark) : Type 0 where
  pub untyped : Untyped m
  pub within : (types : Types) → mark_within types m ≡ Ok tt
  pub there : IsThere names m
  pub spelled : IsSpelled m

-- one that stands within an item
pub record Inner (names : List (List ℕ)) (m : Mark) : Type 0 where
  pub right : Right names m
  pub inner : IsInner m

-- the names that marks define or declare
abbrev pub names_by : Mark → List (List ℕ)
names_by (global name) = symbol_name name ∷ []
names_by _ = []

abbrev pub names_in : List Mark → List (List ℕ)
names_in [] = []
names_in (m ∷ ms) = names_by m ++ names_in ms

no_name : (m : Mark) → IsInner m → names_by m ≡ []
no_name (global name) h = absurd h
no_name m h = refl

pub all_right : (names : List (List ℕ)) (ms : List Mark) → Each (Inner names) ms → Each (Right names) ms
all_right names [] h = tt
all_right names (m ∷ ms) h = (h.0.right, all_right names ms h.1)

pub no_names : (names : List (List ℕ)) (ms : List Mark) → Each (Inner names) ms → names_in ms ≡ []
no_names names [] h = refl
no_names names (m ∷ ms) h = ap (λ ns. ns ++ names_in ms) (no_name m h.0.inner) ∙ no_names names ms h.1

pub names_append : (xs ys : List Mark) → names_in (xs ++ ys) ≡ names_in xs ++ names_in ys
names_append [] ys = refl
names_append (m ∷ xs) ys = ap (λ ns. names_by m ++ ns) (names_append xs ys) ∙ sym (append_assoc (names_by m) (names_in xs) (names_in ys))

-- ---- type names: there are none

typed_same : (all types : Types) (m : Mark) → Untyped m → typed_by all types m ≡ Ok types
typed_same all types (type_name name typed) h = absurd h
typed_same all types (type_use name) h = absurd h
typed_same all types m h = refl

all_typed_same : (names : List (List ℕ)) (all types : Types) (ms : List Mark) → Each (Right names) ms → all_typed all types ms ≡ Ok types
all_typed_same names all types [] h = refl
all_typed_same names all types (m ∷ ms) h = bound (λ ts. all_typed all ts ms) (typed_same all types m h.0.untyped) (all_typed_same names all types ms h.1)

pub no_types : (names : List (List ℕ)) (ms : List Mark) → Each (Right names) ms → type_names ms ≡ Ok []
unfolding type_names
no_types names ms h = all_typed_same names (first_types [] ms) [] ms h

-- ---- shapes and indices

pub within_pass : (names : List (List ℕ)) (types : Types) (ms : List Mark) → Each (Right names) ms → marks_within types ms ≡ Ok tt
within_pass names types [] h = refl
within_pass names types (m ∷ ms) h = bound (λ _. marks_within types ms) (h.0.within types) (within_pass names types ms h.1)

-- ---- names of globals

-- each of these is new behind those before it
abbrev pub Fresh : List (List ℕ) → List (List ℕ) → Type 0
Fresh front [] = Unit {0}
Fresh front (n ∷ ns) = (has_name front n ≡ false) × Fresh (front ++ n ∷ []) ns

once_more : (names : List (List ℕ)) (n : List ℕ) → has_name names n ≡ false → once names n ≡ names ++ n ∷ []
once_more names n h = ap (λ (b : Bool). cond b names (names ++ n ∷ [])) h

pub names_are : (front : List (List ℕ)) (ms : List Mark) → Fresh front (names_in ms) → global_names front ms ≡ front ++ names_in ms
names_are front [] h = sym (append-nil front)
names_are front (global name ∷ ms) h =
    ap (λ ns. global_names ns ms) (once_more front (symbol_name name) h.0) ∙ names_are (front ++ symbol_name name ∷ []) ms h.1
    ∙ append_assoc front (symbol_name name ∷ []) (names_in ms)
names_are front (type_name name typed ∷ ms) h = names_are front ms h
names_are front (type_use name ∷ ms) h = names_are front ms h
names_are front (shape typed ∷ ms) h = names_are front ms h
names_are front (many typed count ∷ ms) h = names_are front ms h
names_are front (symbol name ∷ ms) h = names_are front ms h
names_are front (address steps ∷ ms) h = names_are front ms h

abbrev behind : Globals → Tok → Globals
behind g name = record { names = g.names ++ symbol_name name ∷ []; counter = counted_by g.counter (number_of name) }

new_passes : (g : Globals) (name : Tok) → number_of name ≡ None → has_name g.names (symbol_name name) ≡ false → with_global g name ≡ Ok (behind g name)
new_passes g name n h =
    ap (λ (o : Option ℕ). cond (is_low g.counter o || has_name g.names (symbol_name name)) (Err (twice name.line)) (Ok (behind g name))) n
    ∙ ap (λ (b : Bool). cond b (Err (twice name.line)) (Ok (behind g name))) h

found_passes : (names : List (List ℕ)) (g : Globals) (name : Tok) → has_name names (symbol_name name) ≡ true → cond (has_name names (symbol_name name)) (Ok g) (Err (unknown name.line)) ≡ Ok g
found_passes names g name h = ap (λ (b : Bool). cond b (Ok g) (Err (unknown name.line))) h

named_passes : (names : List (List ℕ)) (g : Globals) (ms : List Mark) → Each (Right names) ms → Fresh g.names (names_in ms) → (h : Globals) × (all_named names g ms ≡ Ok h)
named_passes names g [] r f = (g, refl)
named_passes names g (global name ∷ ms) r f =
    let rest = named_passes names (behind g name) ms r.1 f.1 in (rest.0, bound (λ k. all_named names k ms) (new_passes g name r.0.spelled f.0) rest.1)
named_passes names g (symbol name ∷ ms) r f =
    let rest = named_passes names g ms r.1 f in (rest.0, bound (λ k. all_named names k ms) (found_passes names g name r.0.there) rest.1)
named_passes names g (address steps ∷ ms) r f =
    let rest = named_passes names g ms r.1 f in (rest.0, bound (λ k. all_named names k ms) (found_passes names g steps.name r.0.there) rest.1)
named_passes names g (type_name name typed ∷ ms) r f = named_passes names g ms r.1 f
named_passes names g (type_use name ∷ ms) r f = named_passes names g ms r.1 f
named_passes names g (shape typed ∷ ms) r f = named_passes names g ms r.1 f
named_passes names g (many typed count ∷ ms) r f = named_passes names g ms r.1 f

pub globals_pass : (ms : List Mark) → Each (Right (names_in ms)) ms → Fresh [] (names_in ms) → (g : Globals) × (globals_named ms ≡ Ok g)
unfolding globals_named
globals_pass ms r f = named_passes (global_names [] ms) no_globals ms (subst (λ (ns : List (List ℕ)). Each (Right ns) ms) (sym (names_are [] ms f)) r) f
