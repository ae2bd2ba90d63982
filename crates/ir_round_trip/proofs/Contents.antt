-- What strings of bytes stand for are bytes.
use Rattle.std.proofs.Common.{◌≡◌, ℕ, zero, suc, ◌+◌, ◌*◌, ◌-◌, ◌<◌, Bool, true, false, cond, ◌&&◌, nat_eq, Option, Some, None, List, [], ◌∷◌, length, take, drop, refl, subst, arith}
use Rattle.std.specs.Char.{is_digit, digit_value}
use Rattle.std.proofs.lemmas.Bool.{and_parts, ltb-true}
use Rattle.ir_lex.specs.Quotes.{content, escaped, inside, spelled_at, stripped, unescaped, unescaped_behind}
use Rattle.ir_lex.specs.declared.quotes.Escape.{Escape}
use Rattle.ir_lex.specs.declared.token.TokenForm.{TokenForm}
use Rattle.ir_lex.specs.declared.token.TokenForm.TheVariants as forms
use Rattle.ir_tree.specs.Names.{AllBytes}
use Rattle.ir_round_trip.specs.PrintedLaws.{ContentsAreBytes}

drop_bytes : (n : ℕ) (bs : List ℕ) → AllBytes bs → AllBytes (drop n bs)
drop_bytes zero [] h = tt
drop_bytes zero (b ∷ bs) h = h
drop_bytes (suc n) [] h = tt
drop_bytes (suc n) (b ∷ bs) h = drop_bytes n bs h.1

take_bytes : (n : ℕ) (bs : List ℕ) → AllBytes bs → AllBytes (take n bs)
take_bytes zero [] h = tt
take_bytes zero (b ∷ bs) h = tt
take_bytes (suc n) [] h = tt
take_bytes (suc n) (b ∷ bs) h = (h.0, take_bytes n bs h.1)

stripped_bytes : (kind : TokenForm) (text : List ℕ) → AllBytes text → AllBytes (stripped kind text)
stripped_bytes forms.Label text h = take_bytes (length text - 1) text h
stripped_bytes forms.Local text h = drop_bytes 1 text h
stripped_bytes forms.Global text h = drop_bytes 1 text h
stripped_bytes forms.Comdat text h = drop_bytes 1 text h
stripped_bytes forms.CStr text h = drop_bytes 1 text h
stripped_bytes kind text h = h

-- ---- escapes

backslash : 92 < 256
backslash = omega arith

two_digits : (b c : ℕ) → is_digit b 16 && is_digit c 16 ≡ true → digit_value b * 16 + digit_value c < 256
two_digits b c e =
    let both = and_parts (is_digit b 16) (is_digit c 16) e in
    by (digit_value b) (digit_value c) (ltb-true (digit_value b) 16 both.0) (ltb-true (digit_value c) 16 both.1)
  where
    by : (x y : ℕ) → x < 16 → y < 16 → x * 16 + y < 256
    by x y h k = omega (arith, h, k)

escaped_byte : (bs : List ℕ) → AllBytes bs → (escaped bs).byte < 256
escaped_byte [] h = backslash
escaped_byte (b ∷ []) h = by (nat_eq b 92)
  where
    by : (t : Bool) → (cond {A = Escape} t (record { byte = 92; behind = 1 }) (record { byte = 92; behind = 0 })).byte < 256
    by true = backslash
    by false = backslash
escaped_byte (b ∷ c ∷ bs) h = by (nat_eq b 92) (is_digit b 16 && is_digit c 16) refl
  where
    by : (t d : Bool) → is_digit b 16 && is_digit c 16 ≡ d → (cond {A = Escape} t (record { byte = 92; behind = 1 }) (cond d (record { byte = digit_value b * 16 + digit_value c; behind = 2 }) (record { byte = 92; behind = 0 }))).byte < 256
    by true d e = backslash
    by false true e = two_digits b c e
    by false false e = backslash

spelled_byte : (b : ℕ) (bs : List ℕ) → b < 256 → AllBytes bs → (spelled_at b bs).byte < 256
spelled_byte b bs low h = by (nat_eq b 92) (escaped_byte bs h)
  where
    by : (t : Bool) → (escaped bs).byte < 256 → (cond {A = Escape} t (escaped bs) (record { byte = b; behind = 0 })).byte < 256
    by true e = e
    by false e = low

said_bytes : (n : ℕ) (bs : List ℕ) → AllBytes bs → AllBytes (unescaped_behind n bs)
said_bytes n [] h = tt
said_bytes zero (b ∷ bs) h = (spelled_byte b bs h.0 h.1, said_bytes (spelled_at b bs).behind bs h.1)
said_bytes (suc n) (b ∷ bs) h = said_bytes n bs h.1

-- ---- strings and names

inside_bytes : (bs text : List ℕ) → AllBytes bs → inside bs ≡ Some text → AllBytes text
inside_bytes [] text h e = absurd cc
inside_bytes (b ∷ []) text h e = absurd cc
inside_bytes (b ∷ c ∷ bs) text h e = by (nat_eq b 34) e
  where
    by : (t : Bool) → cond t (Some (take (length bs) (c ∷ bs))) None ≡ Some text → AllBytes text
    by true e = let same : take (length bs) (c ∷ bs) ≡ text = cc in subst AllBytes same (take_bytes (length bs) (c ∷ bs) h.1)
    by false e = absurd cc

pub content_bytes : ContentsAreBytes
unfolding content unescaped
content_bytes kind text h = by (inside (stripped kind text)) refl
  where
    by : (o : Option (List ℕ)) → inside (stripped kind text) ≡ o → AllBytes (elim o as (λ p. List ℕ) [ None ↦ stripped kind text | Some quoted ↦ unescaped_behind 0 quoted ])
    by None e = stripped_bytes kind text h
    by (Some quoted) e = said_bytes 0 quoted (inside_bytes (stripped kind text) quoted (stripped_bytes kind text h) e)
