-- A name that is written is read as itself.
use Rattle.std.proofs.Common.{◌≡◌, ℕ, suc, ◌+◌, ◌-◌, ◌*◌, ◌/◌, ◌%◌, ◌<◌, Bool, true, false, cond, nat_eq, Some, None, List, [], ◌∷◌, ◌++◌, length, take, refl, ap, ◌∙◌, arith}
use Rattle.ir_tree.specs.Names.{is_bare, hex_digit, is_plain, escaped, quoted, is_hex, hex_value, unescaped, closes, unquoted, AllBytes}
use Rattle.ir_tree.specs.declared.name.Escape.TheVariants.{Closed}

pub record IsDigit (d : ℕ) : Type 0 where
  pub hex : is_hex (hex_digit d) ≡ true
  pub value : hex_value (hex_digit d) ≡ d
  pub no_quote : nat_eq (hex_digit d) 34 ≡ false
  pub no_slash : nat_eq (hex_digit d) 92 ≡ false

is_digit : (d : ℕ) → d < 16 → IsDigit d
is_digit d lt = record { hex = one d lt; value = two d lt; no_quote = three d lt; no_slash = four d lt }
  where
    one : (d : ℕ) → d < 16 → is_hex (hex_digit d) ≡ true
    one d lt = grind arith

    two : (d : ℕ) → d < 16 → hex_value (hex_digit d) ≡ d
    two d lt = grind arith

    three : (d : ℕ) → d < 16 → nat_eq (hex_digit d) 34 ≡ false
    three d lt = grind arith

    four : (d : ℕ) → d < 16 → nat_eq (hex_digit d) 92 ≡ false
    four d lt = grind arith

plain_byte : (c : ℕ) → is_plain c ≡ true → (nat_eq c 34 ≡ false) × (nat_eq c 92 ≡ false)
plain_byte c h = (one c h, two c h)
  where
    one : (c : ℕ) → is_plain c ≡ true → nat_eq c 34 ≡ false
    one c h = grind arith

    two : (c : ℕ) → is_plain c ≡ true → nat_eq c 92 ≡ false
    two c h = grind arith

parts : (c : ℕ) → c < 256 → (c / 16 < 16) × (c % 16 < 16) × (16 * (c / 16) + c % 16 ≡ c)
parts c lt = (omega arith, omega arith, omega arith)

-- ---- an escaped text has no quote

closes_step : (b : Bool) (c : ℕ) (s : List ℕ) → is_plain c ≡ b → c < 256 → closes (cond b (c ∷ s) (92 ∷ hex_digit (c / 16) ∷ hex_digit (c % 16) ∷ s)) ≡ closes s
closes_step true c s e lt = rw (plain_byte c e).0 refl
closes_step false c s e lt =
    let p = parts c lt in
    rw ((is_digit (c / 16) p.0).no_quote, (is_digit (c % 16) p.1).no_quote) refl

append_step : (b : Bool) (c x y : ℕ) (s t : List ℕ) → cond b (c ∷ s) (92 ∷ x ∷ y ∷ s) ++ t ≡ cond b (c ∷ (s ++ t)) (92 ∷ x ∷ y ∷ (s ++ t))
append_step true c x y s t = refl
append_step false c x y s t = refl

closed : (name : List ℕ) → AllBytes name → closes (escaped name ++ 34 ∷ []) ≡ true
closed [] a = refl
closed (c ∷ cs) a =
    ap closes (append_step (is_plain c) c (hex_digit (c / 16)) (hex_digit (c % 16)) (escaped cs) (34 ∷ []))
    ∙ closes_step (is_plain c) c (escaped cs ++ 34 ∷ []) refl a.0
    ∙ closed cs a.1

-- ---- an escaped text says what it was made of

unescaped_step : (b : Bool) (c : ℕ) (s cs : List ℕ) → is_plain c ≡ b → c < 256 → unescaped Closed s ≡ cs → unescaped Closed (cond b (c ∷ s) (92 ∷ hex_digit (c / 16) ∷ hex_digit (c % 16) ∷ s)) ≡ c ∷ cs
unescaped_step true c s cs e lt h = let p = plain_byte c e in rw (p.1, h) refl
unescaped_step false c s cs e lt h =
    let p = parts c lt in
    let x = is_digit (c / 16) p.0 in
    let y = is_digit (c % 16) p.1 in
    rw (x.hex, y.hex, x.value, y.value, p.2, h) refl

said : (name : List ℕ) → AllBytes name → unescaped Closed (escaped name) ≡ name
said [] a = refl
said (c ∷ cs) a = unescaped_step (is_plain c) c (escaped cs) cs refl a.0 (said cs a.1)

-- ---- a name

longer : (s : List ℕ) → length (s ++ 34 ∷ []) ≡ suc (length s)
longer [] = refl
longer (x ∷ xs) = ap suc (longer xs)

inside : (s : List ℕ) → take (length (34 ∷ (s ++ 34 ∷ [])) - 2) (s ++ 34 ∷ []) ≡ s
inside s = ap (λ n. take n (s ++ 34 ∷ [])) (counted s) ∙ taken s
  where
    counted : (s : List ℕ) → length (34 ∷ (s ++ 34 ∷ [])) - 2 ≡ length s
    counted s = omega (arith, longer s)

    taken : (s : List ℕ) → take (length s) (s ++ 34 ∷ []) ≡ s
    taken [] = refl
    taken (x ∷ xs) = ap (λ more. x ∷ more) (taken xs)

if_string : (b : Bool) (c : ℕ) (s : List ℕ) → b ≡ true → cond b (Some (unescaped Closed s)) None ≡ Some (unescaped Closed s)
if_string true c s e = refl
if_string false c s e = absurd (cc e)

if_quoted : (name : List ℕ) → AllBytes name → unquoted (34 ∷ (escaped name ++ 34 ∷ [])) ≡ Some name
unfolding unquoted
if_quoted name a = rw (closed name a, inside (escaped name), said name a) refl

if_bare : (name : List ℕ) → is_bare name ≡ true → unquoted name ≡ Some name
unfolding unquoted
if_bare name h = rw h refl

pub quoted_again : (name : List ℕ) → AllBytes name → unquoted (quoted name) ≡ Some name
unfolding quoted
quoted_again name a = by_test (is_bare name) refl
  where
    by_test : (b : Bool) → is_bare name ≡ b → unquoted (cond b name (34 ∷ (escaped name ++ 34 ∷ []))) ≡ Some name
    by_test true h = if_bare name h
    by_test false h = if_quoted name a
