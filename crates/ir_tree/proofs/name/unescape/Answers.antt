use Rattle.std.proofs.Common.{◌≡◌, ◌∙◌, ◌+◌, ◌*◌, ◌++◌, ◌∷◌, [], ℕ, List, Bool, true, false, if◌then◌else◌, nat_eq, append_assoc, ap, sym}
use Rattle.std.proofs.Math.Bool.{or_assoc}
use Rattle.std.proofs.lemmas.Bool.{eq-eqb, ne_eqb}
use Rattle.std.specs.Char.{is_ascii_hexdigit}
use Rattle.ir_tree.specs.Names.{between, is_hex, hex_value, opened, given}
use Rattle.ir_tree.specs.declared.name.Escape.{Escape}
use Rattle.ir_tree.specs.declared.name.Escape.TheVariants.{Closed, Slash, Digit}
use Rattle.ir_tree.proofs.name.unescape.Goals as goal

no_hex : (c : ℕ) → is_ascii_hexdigit c ≡ false → is_hex c ≡ false
no_hex c e = sym (or_assoc (between 48 57 c) (between 65 70 c) (between 97 102 c)) ∙ e

-- what a byte that is no digit adds behind a first digit
digit_given : (h c : ℕ) → is_hex c ≡ false → (v : Bool) → nat_eq c 92 ≡ v → given (Digit h) c ≡ (if v then 92 ∷ h ∷ [] else 92 ∷ h ∷ c ∷ [])
digit_given h c e v f =
    ap (λ (b : Bool). if b then (16 * hex_value h + hex_value c) ∷ [] else (if nat_eq c 92 then 92 ∷ h ∷ [] else 92 ∷ h ∷ c ∷ [])) e
    ∙ ap (λ (b : Bool). if b then 92 ∷ h ∷ [] else 92 ∷ h ∷ c ∷ []) f

digit_opened : (h c : ℕ) → is_hex c ≡ false → nat_eq c 92 ≡ false → opened (Digit h) c ≡ Closed
digit_opened h c e f = ap (λ (b : Bool). if b then Closed else (if nat_eq c 92 then Slash else Closed)) e ∙ ap (λ (b : Bool). if b then Slash else Closed) f

slash_given : (c : ℕ) → is_hex c ≡ false → (v : Bool) → nat_eq c 92 ≡ v → given Slash c ≡ (if v then 92 ∷ [] else 92 ∷ c ∷ [])
slash_given c e v f = ap (λ (b : Bool). if b then [] else (if nat_eq c 92 then 92 ∷ [] else 92 ∷ c ∷ [])) e ∙ ap (λ (b : Bool). if b then 92 ∷ [] else 92 ∷ c ∷ []) f

pub returns-in_ok-push-in-Digit-4-clause-given : goal.returns-in_ok-push-in-Digit-4-clause-given
returns-in_ok-push-in-Digit-4-clause-given c =
    let byte : ℕ = c.args.byte in
    let out : List ℕ = c.args.out.now.items in
    let high : ℕ = c.in-Digit.high in
    let hex : is_hex byte ≡ false = no_hex byte (sym c.is_ascii_hexdigit-in-Digit.ensures.value ∙ c.if-is_ascii_hexdigit-2.false) in
    let other : nat_eq byte 92 ≡ false = ne_eqb byte 92 c.if-byte-eq-BACKSLASH-2.false in
    c.in_ok-push-in-Digit-4.ensures.items
    ∙ ap (λ (xs : List ℕ). xs ++ byte ∷ []) (c.in_ok-push-in-Digit-3.ensures.items ∙ ap (λ (xs : List ℕ). xs ++ high ∷ []) c.in_ok-push-in-Digit-2.ensures.items)
    ∙ ap (λ (xs : List ℕ). xs ++ byte ∷ []) (append_assoc out (92 ∷ []) (high ∷ [])) ∙ append_assoc out (92 ∷ high ∷ []) (byte ∷ [])
    ∙ ap (λ (xs : List ℕ). out ++ xs) (sym (digit_given high byte hex false other) ∙ ap (λ (e : Escape). given e byte) (sym c.in-Digit.is))

pub returns-in_ok-push-in-Digit-4-clause-opens : goal.returns-in_ok-push-in-Digit-4-clause-opens
returns-in_ok-push-in-Digit-4-clause-opens c =
    let byte : ℕ = c.args.byte in
    let hex : is_hex byte ≡ false = no_hex byte (sym c.is_ascii_hexdigit-in-Digit.ensures.value ∙ c.if-is_ascii_hexdigit-2.false) in
    sym (digit_opened c.in-Digit.high byte hex (ne_eqb byte 92 c.if-byte-eq-BACKSLASH-2.false)) ∙ ap (λ (e : Escape). opened e byte) (sym c.in-Digit.is)

pub returns-then-byte-eq-BACKSLASH-2-clause-given : goal.returns-then-byte-eq-BACKSLASH-2-clause-given
returns-then-byte-eq-BACKSLASH-2-clause-given c =
    let byte : ℕ = c.args.byte in
    let out : List ℕ = c.args.out.now.items in
    let high : ℕ = c.in-Digit.high in
    let hex : is_hex byte ≡ false = no_hex byte (sym c.is_ascii_hexdigit-in-Digit.ensures.value ∙ c.if-is_ascii_hexdigit-2.false) in
    let other : nat_eq byte 92 ≡ true = eq-eqb byte 92 c.if-byte-eq-BACKSLASH-2.true in
    c.in_ok-push-in-Digit-3.ensures.items
    ∙ ap (λ (xs : List ℕ). xs ++ high ∷ []) c.in_ok-push-in-Digit-2.ensures.items
    ∙ append_assoc out (92 ∷ []) (high ∷ [])
    ∙ ap (λ (xs : List ℕ). out ++ xs) (sym (digit_given high byte hex true other) ∙ ap (λ (e : Escape). given e byte) (sym c.in-Digit.is))

pub returns-in_ok-push-in-Slash-2-clause-given : goal.returns-in_ok-push-in-Slash-2-clause-given
returns-in_ok-push-in-Slash-2-clause-given c =
    let byte : ℕ = c.args.byte in
    let out : List ℕ = c.args.out.now.items in
    let hex : is_hex byte ≡ false = no_hex byte (sym c.is_ascii_hexdigit.ensures.value ∙ c.if-is_ascii_hexdigit.false) in
    let other : nat_eq byte 92 ≡ false = ne_eqb byte 92 c.if-byte-ne-BACKSLASH.true in
    c.in_ok-push-in-Slash-2.ensures.items
    ∙ ap (λ (xs : List ℕ). xs ++ byte ∷ []) c.in_ok-push-in-Slash.ensures.items
    ∙ append_assoc out (92 ∷ []) (byte ∷ [])
    ∙ ap (λ (xs : List ℕ). out ++ xs) (sym (slash_given byte hex false other) ∙ ap (λ (e : Escape). given e byte) (sym c.in-Slash.is))
