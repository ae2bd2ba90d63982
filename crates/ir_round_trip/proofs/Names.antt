-- Names of symbols that stand once, and printed names of globals.
use Rattle.std.proofs.Common.{◌≡◌, ℕ, zero, suc, ◌<◌, Bool, true, false, cond, ◌||◌, ◌&&◌, None, Some, Option, List, [], ◌∷◌, ◌++◌, map, drop, length, slice_get, refl, sym, ap, subst, ◌∙◌, append_assoc, arith, nat_lt, ◌^◌}
use Rattle.std.specs.Char.{is_ascii_digit}
use Rattle.std.specs.List.{AllByRecursion as Each, list_any, list_all}
use Rattle.std.specs.Prelude.{Contains}
use Rattle.std.specs.Str.{bytes_eq}
use Rattle.std.proofs.lemmas.Slice.Eq.{bytes_eq-Decides}
use Rattle.ir_lex.specs.Bytes.{has}
use Rattle.ir_lex.specs.Quotes.{stripped}
use Rattle.ir_lex.specs.Tok.{Tok}
use Rattle.ir_parse_names.specs.Globals.{has_name}
use Rattle.ir_parse_names.specs.Keys.{decimal_of, is_numeral, number_of}
use Rattle.ir_parse_names.specs.Symbols.{symbol_name}
use Rattle.ir_tree.specs.Formed.{Distinct}
use Rattle.ir_tree.specs.declared.operand.Symbol.{Symbol}
use Rattle.ir_round_trip.proofs.Passing.{Fresh}
use Rattle.ir_round_trip.proofs.Symbols.{symbol_again}
use Rattle.ir_round_trip.specs.PartsPrinted.{IsGlobal}
use Rattle.ir_round_trip.specs.Printable.{IsName}
use Rattle.ir_round_trip.proofs.Quoted.{name_text}

-- ---- places in lists

at_front : {A : Type 0} (xs ys : List A) (i : ℕ) (x : A) → slice_get xs i ≡ Some x → slice_get (xs ++ ys) i ≡ Some x
at_front [] ys i x e = absurd cc
at_front (z ∷ xs) ys zero x e = e
at_front (z ∷ xs) ys (suc i) x e = at_front xs ys i x e

at_seam : {A : Type 0} (xs ys : List A) (y : A) → slice_get (xs ++ y ∷ ys) (length xs) ≡ Some y
at_seam [] ys y = refl
at_seam (x ∷ xs) ys y = at_seam xs ys y

pub at_place : {A : Type 0} (xs : List A) (i : ℕ) (x : A) → slice_get xs i ≡ Some x → i < length xs
at_place [] i x e = absurd cc
at_place (z ∷ xs) zero x e = omega arith
at_place (z ∷ xs) (suc i) x e = let rest : i < length xs = at_place xs i x e in omega (arith, rest)

at_each : {A : Type 0} (P : A → Type 0) (xs : List A) (i : ℕ) (x : A) → Each P xs → slice_get xs i ≡ Some x → P x
at_each P [] i x h e = absurd cc
at_each P (z ∷ xs) zero x h e = let same : z ≡ x = cc in subst P same h.0
at_each P (z ∷ xs) (suc i) x h e = at_each P xs i x h.1 e

-- ---- names among others

found : (names : List (List ℕ)) (n : List ℕ) → has_name names n ≡ true → (i : ℕ) × (slice_get names i ≡ Some n)
found [] n h = absurd cc
found (m ∷ ms) n h = by (found ms n) (bytes_eq n m) refl h
  where
    by : (has_name ms n ≡ true → (i : ℕ) × (slice_get ms i ≡ Some n)) → (b : Bool) → bytes_eq n m ≡ b → b || list_any (bytes_eq n) ms ≡ true → (i : ℕ) × (slice_get (m ∷ ms) i ≡ Some n)
    by more true e h = (0, ap (λ x. Some x) (sym ((bytes_eq-Decides n m).0 e)))
    by more false e h = let rest = more h in (suc rest.0, rest.1)

-- names that differ are each new
pub fresh : (front ns : List (List ℕ)) → Distinct (front ++ ns) → Fresh front ns
fresh front [] d = tt
fresh front (n ∷ ns) d = (by (has_name front n) refl, fresh (front ++ n ∷ []) ns (subst (λ (xs : List (List ℕ)). Distinct xs) (sym (append_assoc front (n ∷ []) ns)) d))
  where
    by : (b : Bool) → has_name front n ≡ b → has_name front n ≡ false
    by false e = e
    by true e =
        let f = found front n e in
        let same : f.0 ≡ length front = d f.0 (length front) n (at_front front (n ∷ ns) f.0 n f.1) (at_seam front ns n) in
        let low : f.0 < length front = at_place front f.0 n f.1 in
        absurd (omega (arith, same, low))

-- ---- symbols of no module of their own, and their names

abbrev pub names_of : List Symbol → List (List ℕ)
names_of ss = map (λ (s : Symbol). s.name) ss

named_at : (ss : List Symbol) (i : ℕ) (n : List ℕ) → slice_get (names_of ss) i ≡ Some n → (s : Symbol) × (slice_get ss i ≡ Some s) × (s.name ≡ n)
named_at [] i n e = absurd cc
named_at (s ∷ ss) zero n e = (s, refl, cc)
named_at (s ∷ ss) (suc i) n e = named_at ss i n e

same_symbol : (s t : Symbol) → s.home ≡ None → t.home ≡ None → s.name ≡ t.name → s ≡ t
same_symbol s t h k e = ap (λ (o : Option ℕ). record { home = o; name = s.name }) (h ∙ sym k) ∙ ap (λ (n : List ℕ). record { home = t.home; name = n }) e

pub names_differ : (ss : List Symbol) → Distinct ss → Each (λ (s : Symbol). s.home ≡ None) ss → Distinct (names_of ss)
names_differ ss d h i j n e f =
    let a = named_at ss i n e in
    let b = named_at ss j n f in
    let same : b.0 ≡ a.0 = same_symbol b.0 a.0 (at_each _ ss j b.0 h b.1) (at_each _ ss i a.0 h a.1) (b.2 ∙ sym a.2) in
    d i j a.0 a.1 (subst (λ (s : Symbol). slice_get ss j ≡ Some s) same b.1)

pub is_there : (ss : List Symbol) (s : Symbol) → Contains ss s → has_name (names_of ss) s.name ≡ true
is_there [] s c = let lt : c.0 < 0 = c.1 in absurd (omega (arith, lt))
is_there (t ∷ ss) s (zero, lt, e) = ap (λ (b : Bool). b || list_any (bytes_eq s.name) (names_of ss)) ((bytes_eq-Decides s.name t.name).1 (ap (λ (x : Symbol). x.name) (sym e)))
is_there (t ∷ ss) s (suc k, lt, e) = either_one (bytes_eq s.name t.name) _ (is_there ss s (k, omega (arith, lt), e))
  where
    either_one : (a b : Bool) → b ≡ true → a || b ≡ true
    either_one true b h = refl
    either_one false b h = h

-- ---- printed names

pub printed_name : (name : List ℕ) (t : Tok) → IsName name → IsGlobal name t → symbol_name t ≡ name
printed_name name t n i = ap (λ (s : Symbol). s.name) (symbol_again (record { home = None; name = name }) t refl n i)

-- a printed name is no number
pub is_spelled : (name : List ℕ) (t : Tok) → IsName name → IsGlobal name t → number_of t ≡ None
unfolding number_of has
is_spelled name t n i =
    let x = name_text name n in
    let bare : stripped t.form t.text ≡ x.first ∷ x.others = ap (λ k. stripped k t.text) i.form ∙ ap (drop 1) i.text ∙ x.whole in
    ap (λ (cs : List ℕ). cond (is_numeral cs) (cond (nat_lt (decimal_of cs) (2 ^ 32)) (Some (decimal_of cs)) None) None) bare
    ∙ ap (λ (b : Bool). cond (b && list_all is_ascii_digit x.others) (cond (nat_lt (decimal_of (x.first ∷ x.others)) (2 ^ 32)) (Some (decimal_of (x.first ∷ x.others))) None) None) x.no_digit
