-- A name that can be written can be with a module's suffix behind it: digits are bytes other than zero, and what is kept for LLVM
-- itself begins with no other name.
use Rattle.std.proofs.Common.{◌≡◌, ◌∙◌, ℕ, zero, suc, ◌+◌, ◌/◌, ◌%◌, ◌<◌, Bool, true, false, ◌&&◌, ◌||◌, cond, nat_eq, List, [], ◌∷◌, ◌++◌, length, codes, length-append, arith, refl, sym, ap, eqb-true}
use Rattle.std.proofs.lemmas.Bool.{and_parts, false≢true}
use Rattle.std.proofs.lemmas.Slice.Eq.{bytes_eq-Decides}
use Rattle.std.specs.Fmt.{decimal, digit_glyph, digits, digits_onto}
use Rattle.std.specs.Str.{bytes_eq}
use Rattle.ir_lex.specs.TokenKinds.{begins_with, name_kind}
use Rattle.ir_lex.specs.Quotes.{has_zero}
use Rattle.ir_lex.specs.declared.token_kind.TokenKind.TheVariants as kinds
use Rattle.ir_tree.specs.Names.{AllBytes}
use Rattle.combined_index.specs.Suffixes.{leading_number}
use Rattle.sha1.specs.Sha1.{sha1}
use Rattle.ir_round_trip.specs.Classes.{IsOrdinary}
use Rattle.ir_round_trip.specs.Renamed.{SuffixedIsWritable}

-- ---- bytes other than zero

abbrev ArePlain : List ℕ → Type 0
ArePlain [] = Unit {0}
ArePlain (c ∷ cs) = (0 < c) × (c < 256) × ArePlain cs

glyph_plain : (d : ℕ) → d < 10 → (0 < digit_glyph false d) × (digit_glyph false d < 256)
glyph_plain d lt = (grind arith, grind arith)

digits_plain : (k n : ℕ) (acc : List ℕ) → ArePlain acc → ArePlain (digits_onto k 10 false n acc)
digits_plain zero n acc p = p
digits_plain (suc k) n acc p =
    let glyph = glyph_plain (n % 10) (omega arith) in
    let more : ArePlain (digit_glyph false (n % 10) ∷ acc) = (glyph.0, glyph.1, p) in
    by (nat_eq (n / 10) 0) more (digits_plain k (n / 10) (digit_glyph false (n % 10) ∷ acc) more)
  where
    by : (b : Bool) → ArePlain (digit_glyph false (n % 10) ∷ acc) → ArePlain (digits_onto k 10 false (n / 10) (digit_glyph false (n % 10) ∷ acc))
        → ArePlain (cond b (digit_glyph false (n % 10) ∷ acc) (digits_onto k 10 false (n / 10) (digit_glyph false (n % 10) ∷ acc)))
    by true last rest = last
    by false last rest = rest

decimal_plain : (n : ℕ) → ArePlain (decimal n)
unfolding digits
decimal_plain n = digits_plain 64 n [] tt

all_bytes : (xs ys : List ℕ) → AllBytes xs → ArePlain ys → AllBytes (xs ++ ys)
all_bytes [] [] h p = tt
all_bytes [] (y ∷ ys) h p = (p.1, all_bytes [] ys tt p.2)
all_bytes (x ∷ xs) ys h p = (h.0, all_bytes xs ys h.1 p)

no_zero : (xs ys : List ℕ) → has_zero xs ≡ false → ArePlain ys → has_zero (xs ++ ys) ≡ false
no_zero [] [] z p = refl
no_zero [] (y ∷ ys) z p = by (nat_eq y 0) refl (no_zero [] ys refl p.2)
  where
    by : (b : Bool) → nat_eq y 0 ≡ b → has_zero ys ≡ false → (b || has_zero ys) ≡ false
    by true e rest = let none : y ≡ 0 = eqb-true y 0 e in absurd (omega (arith, none, p.0))
    by false e rest = rest
no_zero (x ∷ xs) ys z p = by (nat_eq x 0) z (λ e. no_zero xs ys e p)
  where
    by : (b : Bool) → (b || has_zero xs) ≡ false → (has_zero xs ≡ false → has_zero (xs ++ ys) ≡ false) → (b || has_zero (xs ++ ys)) ≡ false
    by true e rest = e
    by false e rest = rest e

-- ---- names that aren't kept for LLVM

abbrev is_kept : List ℕ → Bool
is_kept name = bytes_eq name (codes "llvm") || begins_with (codes "llvm.") name

four : (p q r s : Bool) → (p && (q && (r && (s && true)))) ≡ true → ((p && (q && (r && (s && true)))) || (p && (q && (r && (s && false))))) ≡ true
four true true true true e = refl
four true true true false e = absurd (false≢true e)
four true true false s e = absurd (false≢true e)
four true false r s e = absurd (false≢true e)
four false q r s e = absurd (false≢true e)

-- what begins so and goes on with a point was kept before it
begins_kept : (name rest : List ℕ) → begins_with (codes "llvm.") (name ++ (46 ∷ rest)) ≡ true → is_kept name ≡ true
begins_kept [] rest e = absurd (false≢true e)
begins_kept (a ∷ []) rest e = absurd (false≢true (and_parts (nat_eq a 108) false e).1)
begins_kept (a ∷ b ∷ []) rest e = absurd (false≢true (and_parts (nat_eq b 108) false (and_parts (nat_eq a 108) (nat_eq b 108 && false) e).1).1)
begins_kept (a ∷ b ∷ c ∷ []) rest e =
    absurd (false≢true (and_parts (nat_eq c 118) false (and_parts (nat_eq b 108) (nat_eq c 118 && false) (and_parts (nat_eq a 108) (nat_eq b 108 && (nat_eq c 118 && false)) e).1).1).1)
begins_kept (a ∷ b ∷ c ∷ d ∷ []) rest e = four (nat_eq a 108) (nat_eq b 108) (nat_eq c 118) (nat_eq d 109) e
begins_kept (a ∷ b ∷ c ∷ d ∷ f ∷ name) rest e = by (bytes_eq (a ∷ b ∷ c ∷ d ∷ f ∷ name) (codes "llvm"))
  where
    by : (p : Bool) → (p || begins_with (codes "llvm.") (a ∷ b ∷ c ∷ d ∷ f ∷ name)) ≡ true
    by true = refl
    by false = e

tests : (p q : Bool) → cond p kinds.LifetimeMarker (cond q kinds.ReservedGlobal kinds.Global) ≡ kinds.Global → (p ≡ false) × (q ≡ false)
tests true q e = absurd (cc e)
tests false true e = absurd (cc e)
tests false false e = (refl, refl)

not_kept : (name : List ℕ) → IsOrdinary name → is_kept name ≡ false
unfolding name_kind
not_kept name h = (tests (bytes_eq name (codes "llvm.lifetime.start.p0") || bytes_eq name (codes "llvm.lifetime.end.p0")) (is_kept name) h).1

is_false : (b : Bool) → (b ≡ true → ⊥) → b ≡ false
is_false true never = absurd (never refl)
is_false false never = refl

differs : (xs ys : List ℕ) → (xs ≡ ys → ⊥) → bytes_eq xs ys ≡ false
differs xs ys never = is_false (bytes_eq xs ys) (λ e. never ((bytes_eq-Decides xs ys).0 e))

-- a name that doesn't begin as those do that are kept, and is none that is shorter
ordinary : (name : List ℕ) → begins_with (codes "llvm.") name ≡ false → (name ≡ codes "llvm" → ⊥) → IsOrdinary name
unfolding name_kind
ordinary name none other =
    let begins = λ (text : List ℕ) (b : begins_with (codes "llvm.") text ≡ true) (e : name ≡ text). false≢true (sym none ∙ ap (begins_with (codes "llvm.")) e ∙ b) in
    let first : bytes_eq name (codes "llvm.lifetime.start.p0") ≡ false = differs name (codes "llvm.lifetime.start.p0") (begins (codes "llvm.lifetime.start.p0") refl) in
    let second : bytes_eq name (codes "llvm.lifetime.end.p0") ≡ false = differs name (codes "llvm.lifetime.end.p0") (begins (codes "llvm.lifetime.end.p0") refl) in
    let third : bytes_eq name (codes "llvm") ≡ false = differs name (codes "llvm") other in
    (λ i. cond (first i || second i) kinds.LifetimeMarker (cond (third i || none i) kinds.ReservedGlobal kinds.Global))

suffixed_ordinary : (name rest : List ℕ) → IsOrdinary name → IsOrdinary (name ++ (codes ".llvm." ++ rest))
suffixed_ordinary name rest h =
    let free = not_kept name h in
    let behind : List ℕ = codes "llvm." ++ rest in
    ordinary (name ++ (46 ∷ behind)) (is_false (begins_with (codes "llvm.") (name ++ (46 ∷ behind))) (λ e. false≢true (sym free ∙ begins_kept name behind e)))
    (λ e.
    let long : length name + (6 + length rest) ≡ 4 = sym (length-append name (46 ∷ behind) ∙ ap (λ n. length name + n) (count rest)) ∙ ap (λ (l : List ℕ). length l) e in
    omega (arith, long))
  where
    count : (rest : List ℕ) → length (codes ".llvm." ++ rest) ≡ 6 + length rest
    count rest = omega arith

pub suffixed : SuffixedIsWritable
suffixed name bytes h =
    let number = decimal (leading_number (sha1 bytes)) in
    let plain : ArePlain (codes ".llvm." ++ number) = (omega arith, omega arith, (omega arith, omega arith, (omega arith, omega arith, (omega arith, omega arith, (omega arith, omega arith, (omega arith, omega arith, decimal_plain (leading_number (sha1 bytes)))))))) in
    (record { bytes = all_bytes name (codes ".llvm." ++ number) h.0.bytes plain; no_zero = no_zero name (codes ".llvm." ++ number) h.0.no_zero plain }, suffixed_ordinary name number h.1)
