-- Numbers in decimal digits, and names between other bytes.
use Rattle.std.proofs.Common.{◌≡◌, ◌∙◌, ℕ, ◌<◌, ◌^◌, List, [], ◌∷◌, ◌++◌, Result, Ok, Err, arith, sym, ap, subst}
use Rattle.std.proofs.lemmas.Fmt.{IsAscii-decimal, decimal_is_IsNumeral, parse-decimal}
use Rattle.std.proofs.lemmas.Str.{IsUtf8-from_ascii}
use Rattle.std.specs.Char.{digit_value}
use Rattle.std.specs.Fmt.{decimal}
use Rattle.std.specs.Str.{IsUtf8}
use Rattle.std.specs.Str.Parse.{AllDigits, ParsesUnsigned}
use Rattle.lto_task.specs.Splits.{Lacks}
use Rattle.lto_task.proofs.Splitting.{last_split_one, no_split}

-- a text that is read as another number isn't this one's
pub parsed_one : {E : Type 0} (n m : ℕ) (bs : List ℕ) (r : Result ℕ E) → n < 2 ^ 64 → bs ≡ decimal n → ParsesUnsigned 64 10 bs r → r ≡ Ok m → bs ≡ decimal m
parsed_one n m bs r small is parses ok =
    let same : Ok n ≡ Ok m = sym (parse-decimal 64 n bs r small small is parses) ∙ ok in
    is ∙ ap decimal (cc)

pub parsed_so : {E : Type 0} (n : ℕ) (bs : List ℕ) (r : Result ℕ E) (e : E) → n < 2 ^ 64 → bs ≡ decimal n → ParsesUnsigned 64 10 bs r → r ≡ Err e → ⊥
parsed_so n bs r e small is parses err =
    let clash : Ok n ≡ Err e = sym (parse-decimal 64 n bs r small small is parses) ∙ err in
    cc

pub is_utf8 : (n : ℕ) (bs : List ℕ) → n < 2 ^ 64 → bs ≡ decimal n → IsUtf8 bs
is_utf8 n bs small is = subst IsUtf8 (sym is) (IsUtf8-from_ascii (decimal n) (IsAscii-decimal n small))

-- ---- digits are neither blanks nor line feeds

no_blank : (ds : List ℕ) → AllDigits 10 ds → Lacks 32 ds
no_blank [] all = tt
no_blank (d ∷ ds) all = (λ e. digit d e all.0, no_blank ds all.1)
  where
    digit : (d : ℕ) → d ≡ 32 → digit_value d < 10 → ⊥
    digit d e lt = let big : digit_value 32 < 10 = subst (λ (x : ℕ). digit_value x < 10) e lt in omega (arith, big)

no_line_feed : (ds : List ℕ) → AllDigits 10 ds → Lacks 10 ds
no_line_feed [] all = tt
no_line_feed (d ∷ ds) all = (λ e. digit d e all.0, no_line_feed ds all.1)
  where
    digit : (d : ℕ) → d ≡ 10 → digit_value d < 10 → ⊥
    digit d e lt = let big : digit_value 10 < 10 = subst (λ (x : ℕ). digit_value x < 10) e lt in omega (arith, big)

pub decimal_no_blank : (n : ℕ) → n < 2 ^ 64 → Lacks 32 (decimal n)
decimal_no_blank n small = no_blank (decimal n) (decimal_is_IsNumeral n small).0.1

pub decimal_no_line_feed : (n : ℕ) → n < 2 ^ 64 → Lacks 10 (decimal n)
decimal_no_line_feed n small = no_line_feed (decimal n) (decimal_is_IsNumeral n small).0.1

-- ---- a number behind a blank

pub no_number : (bytes front : List ℕ) (n : ℕ) → Lacks 32 bytes → bytes ≡ front ++ (32 ∷ decimal n) → ⊥
no_number bytes front n lacks is = no_split 32 bytes front (decimal n) lacks is

pub number_one : (bytes front digits other : List ℕ) (n : ℕ) → Lacks 32 digits → bytes ≡ front ++ (32 ∷ digits) → n < 2 ^ 64 → bytes ≡ other ++ (32 ∷ decimal n) → (front ≡ other) × (digits ≡ decimal n)
number_one bytes front digits other n lacks is small also = last_split_one 32 front digits other (decimal n) lacks (decimal_no_blank n small) (sym is ∙ also)
