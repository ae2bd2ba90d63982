-- Unescaping goes on behind what an escape takes.
use Rattle.std.proofs.Common.{◌≡◌, ℕ, zero, suc, ◌-◌, ◌≤◌, ◌<◌, Bool, true, false, ◌||◌, ◌&&◌, nat_eq, Option, Some, None, List, [], ◌∷◌, get_or, take, drop, length, refl, sym, ap, ◌∙◌, arith}
use Rattle.std.proofs.Math.Seq.{take-length}
use Rattle.std.specs.Str.{bytes_eq}
use Rattle.ir_lex.specs.TokenKinds.{begins_with}
use Rattle.ir_lex.specs.declared.quotes.Escape.{Escape}
use Rattle.ir_lex.specs.declared.token.TokenForm.{TokenForm}
use Rattle.ir_lex.specs.Quotes.{content, inside, stripped, has_backslash, has_zero, spells, spelled_at, unescaped, unescaped_behind}

behind : (n : ℕ) (bs : List ℕ) → unescaped_behind n bs ≡ unescaped_behind 0 (drop n bs)
behind zero bs = refl
behind (suc n) [] = refl
behind (suc n) (b ∷ bs) = behind n bs

others_of : (b : ℕ) (bs : List ℕ) → take (length (b ∷ bs) - 1) bs ≡ bs
others_of b bs = ap (λ (n : ℕ). take n bs) (less (length bs)) ∙ take-length bs
  where
    less : (n : ℕ) → suc n - 1 ≡ n
    less n = omega arith

pub unescaped_first : (bs after : List ℕ) (e : Escape) → 1 ≤ length bs → e ≡ spelled_at (get_or bs 0 0) (take (length bs - 1) (drop 1 bs)) → after ≡ drop e.behind (take (length bs - 1) (drop 1 bs)) → unescaped bs ≡ e.byte ∷ unescaped after
unfolding unescaped
unescaped_first [] after e l s d = absurd (omega (arith, l))
unescaped_first (b ∷ bs) after e l s d =
    let o = others_of b bs in
    let f : spelled_at b bs ≡ e = ap (λ (x : List ℕ). spelled_at b x) (sym o) ∙ sym s in
    let a : after ≡ drop e.behind bs = d ∙ ap (λ (x : List ℕ). drop e.behind x) o in
    ap (λ (x : Escape). x.byte ∷ unescaped_behind x.behind bs) f ∙ ap (λ (x : List ℕ). e.byte ∷ x) (behind e.behind bs ∙ ap (λ (x : List ℕ). unescaped_behind 0 x) (sym a))

pub nothing_left : (bs : List ℕ) → length bs < 1 → bs ≡ []
nothing_left [] h = refl
nothing_left (b ∷ bs) h = absurd (omega (arith, h))

pub zero_first : (b : ℕ) (bs : List ℕ) → b ≡ 0 → true ≡ has_zero (b ∷ bs)
zero_first b bs h = sym (ap (λ (x : ℕ). has_zero (x ∷ bs)) h)

pub zero_behind : (b : ℕ) (bs : List ℕ) → (b ≡ 0 → ⊥) → has_zero (b ∷ bs) ≡ has_zero bs
zero_behind b bs h = ap (λ (x : Bool). x || has_zero bs) (differs b h)
  where
    differs : (b : ℕ) → (b ≡ 0 → ⊥) → nat_eq b 0 ≡ false
    differs b h = grind arith

plain_first : (b : ℕ) (bs : List ℕ) → nat_eq b 92 ≡ false → spelled_at b bs ≡ spells b 0
plain_first b bs h = rw h refl

pub unescaped_plain : (bs : List ℕ) → has_backslash bs ≡ false → unescaped bs ≡ bs
unfolding unescaped
unescaped_plain [] h = refl
unescaped_plain (b ∷ bs) h =
    let s = both (nat_eq b 92) (has_backslash bs) h in
    ap (λ (x : Escape). x.byte ∷ unescaped_behind x.behind bs) (plain_first b bs s.0) ∙ ap (λ (x : List ℕ). b ∷ x) (unescaped_plain bs s.1)
  where
    both : (s t : Bool) → s || t ≡ false → (s ≡ false) × (t ≡ false)
    both true t h = absurd cc
    both false t h = (refl, h)

pub content_plain : (kind : TokenForm) (text bare quoted : List ℕ) → bare ≡ stripped kind text → Some quoted ≡ inside bare → has_backslash quoted ≡ false → quoted ≡ content kind text
unfolding content
content_plain kind text bare quoted e f h = sym (ap (λ (o : Option (List ℕ)). elim o as (λ p. List ℕ) [ None ↦ stripped kind text | Some q ↦ unescaped q ]) (sym (f ∙ ap inside e)) ∙ unescaped_plain quoted h)

-- ---- names compared byte for byte with what quoted bytes stand for

same : (b c : ℕ) → b ≡ c → nat_eq b c ≡ true
same b c h = grind arith

apart : (b c : ℕ) → (b ≡ c → ⊥) → nat_eq b c ≡ false
apart b c h = grind arith

pub begins_on : (left bs after : List ℕ) (b : ℕ) → 1 ≤ length left → bs ≡ b ∷ after → b ≡ get_or left 0 0 → begins_with left bs ≡ begins_with (take (length left - 1) (drop 1 left)) after
begins_on [] bs after b l e h = absurd (omega (arith, l))
begins_on (c ∷ cs) bs after b l e h = ap (begins_with (c ∷ cs)) e ∙ ap (λ (x : Bool). x && begins_with cs after) (same b c h) ∙ sym (ap (λ (x : List ℕ). begins_with x after) (others_of c cs))

pub begins_not : (left bs after : List ℕ) (b : ℕ) → 1 ≤ length left → bs ≡ b ∷ after → (b ≡ get_or left 0 0 → ⊥) → begins_with left bs ≡ false
begins_not [] bs after b l e h = absurd (omega (arith, l))
begins_not (c ∷ cs) bs after b l e h = ap (begins_with (c ∷ cs)) e ∙ ap (λ (x : Bool). x && begins_with cs after) (apart b c h)

pub begins_none : (left bs : List ℕ) → 1 ≤ length left → length bs < 1 → begins_with left (unescaped bs) ≡ false
unfolding unescaped
begins_none [] bs l e = absurd (omega (arith, l))
begins_none (c ∷ cs) [] l e = refl
begins_none (c ∷ cs) (b ∷ bs) l e = absurd (omega (arith, e))

pub equal_on : (left bs after : List ℕ) (b : ℕ) → 1 ≤ length left → bs ≡ b ∷ after → b ≡ get_or left 0 0 → bytes_eq bs left ≡ bytes_eq after (take (length left - 1) (drop 1 left))
equal_on [] bs after b l e h = absurd (omega (arith, l))
equal_on (c ∷ cs) bs after b l e h = ap (λ (x : List ℕ). bytes_eq x (c ∷ cs)) e ∙ ap (λ (x : Bool). x && bytes_eq after cs) (same b c h) ∙ sym (ap (bytes_eq after) (others_of c cs))

pub equal_not : (left bs after : List ℕ) (b : ℕ) → 1 ≤ length left → bs ≡ b ∷ after → (b ≡ get_or left 0 0 → ⊥) → bytes_eq bs left ≡ false
equal_not [] bs after b l e h = absurd (omega (arith, l))
equal_not (c ∷ cs) bs after b l e h = ap (λ (x : List ℕ). bytes_eq x (c ∷ cs)) e ∙ ap (λ (x : Bool). x && bytes_eq after cs) (apart b c h)

pub equal_none : (left bs : List ℕ) → 1 ≤ length left → length bs < 1 → bytes_eq (unescaped bs) left ≡ false
unfolding unescaped
equal_none [] bs l e = absurd (omega (arith, l))
equal_none (c ∷ cs) [] l e = refl
equal_none (c ∷ cs) (b ∷ bs) l e = absurd (omega (arith, e))

pub equal_ended : (left bs : List ℕ) → length left < 1 → length bs < 1 → bytes_eq (unescaped bs) left ≡ true
unfolding unescaped
equal_ended [] [] l e = refl
equal_ended (c ∷ cs) bs l e = absurd (omega (arith, l))
equal_ended [] (b ∷ bs) l e = absurd (omega (arith, e))

pub equal_longer : (left bs : List ℕ) → length left < 1 → 1 ≤ length bs → bytes_eq (unescaped bs) left ≡ false
unfolding unescaped
equal_longer [] [] l e = absurd (omega (arith, e))
equal_longer (c ∷ cs) bs l e = absurd (omega (arith, l))
equal_longer [] (b ∷ bs) l e = refl
