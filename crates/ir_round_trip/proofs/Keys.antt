-- Printed names are known by their numbers.
use Rattle.std.proofs.Common.{◌≡◌, ℕ, suc, ◌+◌, ◌-◌, ◌*◌, ◌^◌, Bool, true, cond, nat_lt, Option, Some, None, List, [], ◌∷◌, ◌++◌, length, take, drop, decimal, refl, ap, ◌∙◌, arith}
use Rattle.std.specs.Char.{is_ascii_digit}
use Rattle.std.specs.List.{fold, list_all}
use Rattle.ir_lex.proofs.Spelled.{AllIn}
use Rattle.ir_lex.specs.Bytes.{has}
use Rattle.ir_lex.specs.Quotes.{stripped, content}
use Rattle.ir_lex.specs.Tok.{Tok}
use Rattle.ir_lex.specs.declared.bytes.Set.TheVariants.{Digits}
use Rattle.ir_parse_names.specs.Keys.{Key, written, spelled, decimal_from, decimal_of, is_numeral, number_of, key_of}
use Rattle.ir_parse_parts.specs.Decimals.{with_digit}
use Rattle.ir_round_trip.proofs.Numbers.{numeral}
use Rattle.ir_round_trip.specs.PartsPrinted.{IsNumber, IsLabel}
use Rattle.ir_round_trip.specs.PartsReadable.{IsSmall}
use Rattle.ir_round_trip.proofs.Numerals.{decimal_again}

-- ---- digits

are_digits : (ds : List ℕ) → AllIn Digits ds → list_all is_ascii_digit ds ≡ true
unfolding has
are_digits [] h = refl
are_digits (d ∷ ds) h = rw h.0 (are_digits ds h.1)

numeral_is : (n : ℕ) → is_numeral (decimal n) ≡ true
numeral_is n = let t = numeral n in ap is_numeral t.whole ∙ are_digits (t.first ∷ t.others) t.digits

folded : (n : ℕ) (ds : List ℕ) → decimal_from n ds ≡ fold with_digit n ds
folded n [] = refl
folded n (d ∷ ds) = ap (λ (m : ℕ). decimal_from m ds) step ∙ folded (with_digit n d) ds
  where
    step : n * 10 + (d - 48) ≡ with_digit n d
    step = omega arith

number_is : (n : ℕ) → IsSmall n → decimal_of (decimal n) ≡ n
unfolding decimal_of
number_is n small = folded 0 (decimal n) ∙ decimal_again n (omega (arith, small))

-- ---- keys

-- a name that is bare digits
numbered : (t : Tok) (n : ℕ) → IsSmall n → stripped t.form t.text ≡ decimal n → number_of t ≡ Some n
unfolding number_of
numbered t n small e =
    ap (λ (bare : List ℕ). cond (is_numeral bare) (cond (nat_lt (decimal_of bare) (2 ^ 32)) (Some (decimal_of bare)) None) None) e
    ∙ ap (λ (b : Bool). cond b (cond (nat_lt (decimal_of (decimal n)) (2 ^ 32)) (Some (decimal_of (decimal n))) None) None) (numeral_is n)
    ∙ ap (λ (m : ℕ). cond (nat_lt m (2 ^ 32)) (Some m) None) (number_is n small)
    ∙ ap (λ (b : Bool). cond b (Some n) None) (less n small)
  where
    less : (n : ℕ) → IsSmall n → nat_lt n (2 ^ 32) ≡ true
    less n h = grind arith

keyed : (t : Tok) (n : ℕ) → number_of t ≡ Some n → key_of t ≡ written n
unfolding key_of
keyed t n e = ap (λ (o : Option ℕ). elim o as (λ x. Key) [ None ↦ spelled (content t.form t.text) | Some m ↦ written m ]) e

bare_local : (n : ℕ) (t : Tok) → IsNumber n t → stripped t.form t.text ≡ decimal n
bare_local n t i = ap (λ k. stripped k t.text) i.form ∙ ap (drop 1) i.text

-- without its colon
without_colon : (ds : List ℕ) → take (length (ds ++ 58 ∷ []) - 1) (ds ++ 58 ∷ []) ≡ ds
without_colon ds = ap (λ (n : ℕ). take (n - 1) (ds ++ 58 ∷ [])) (one_more ds) ∙ ap (λ (n : ℕ). take n (ds ++ 58 ∷ [])) (less (length ds)) ∙ front ds
  where
    one_more : (ds : List ℕ) → length (ds ++ 58 ∷ []) ≡ suc (length ds)
    one_more [] = refl
    one_more (d ∷ ds) = ap suc (one_more ds)

    less : (n : ℕ) → suc n - 1 ≡ n
    less n = omega arith

    front : (ds : List ℕ) → take (length ds) (ds ++ 58 ∷ []) ≡ ds
    front [] = refl
    front (d ∷ ds) = ap (λ (more : List ℕ). d ∷ more) (front ds)

bare_label : (n : ℕ) (t : Tok) → IsLabel n t → stripped t.form t.text ≡ decimal n
bare_label n t i = ap (λ k. stripped k t.text) i.form ∙ ap (λ (text : List ℕ). take (length text - 1) text) i.text ∙ without_colon (decimal n)

pub local_key : (n : ℕ) (t : Tok) → IsSmall n → IsNumber n t → key_of t ≡ written n
local_key n t small i = keyed t n (numbered t n small (bare_local n t i))

pub label_key : (n : ℕ) (t : Tok) → IsSmall n → IsLabel n t → key_of t ≡ written n
label_key n t small i = keyed t n (numbered t n small (bare_label n t i))
