-- How the pieces that were written are put together.
use Rattle.std.proofs.Common.{◌≡◌, ℕ, suc, ◌+◌, ◌-◌, ◌^◌, ◌<◌, ◌≤◌, Bool, true, false, if◌then◌else◌, nat_lt, List, [], ◌∷◌, ◌++◌, length, take, drop, get_or, refl, sym, ap, subst, ◌∙◌, append_assoc, arith, lt-ltb, add-one, drop-cons}
use Rattle.std.proofs.lemmas.Fmt.{decimal_nonempty, decimal_digit, decimal_step}
use Rattle.std.proofs.lemmas.Bool.{ne_eqb}
use Rattle.std.proofs.lemmas.List.{append-nil, drop_all}
use Rattle.std.proofs.Math.Pow.{pow_mono}
use Rattle.std.specs.Prelude.{codes, decimal, IfOk, Result, Ok, Err}
use Rattle.ir_lex.specs.Pieces.{Piece, bytes_of}
use Rattle.ir_lex.specs.declared.token.TokenForm.{TokenForm}
use Rattle.ir_lex.specs.declared.token.TokenForm.TheVariants as forms
use Rattle.ir_tree.specs.Forms.{Form, int, pointer, array, structure}
use Rattle.ir_tree.specs.declared.operand.Reg.{Reg}
use Rattle.ir_tree.specs.declared.operand.Reg.TheVariants.{Int, Ptr}
use Rattle.ir_print.specs.Tokens.{space, word, piece, signed, signed_piece}
use Rattle.ir_print.specs.Types.{register, shape}
use Rattle.ir_print.specs.Operands.{displaced, address}
use Rattle.ir_print.specs.Modules.{text_of}
use Rattle.ir_print.specs.Wrote.{Wrote}

pub bytes_append : (ps qs : List Piece) → bytes_of (ps ++ qs) ≡ bytes_of ps ++ bytes_of qs
bytes_append [] qs = refl
bytes_append (p ∷ ps) qs =
    ap (λ (x : List ℕ). p.blank ++ (p.first ∷ p.others ++ x)) (bytes_append ps qs)
    ∙ ap (λ (x : List ℕ). p.blank ++ (p.first ∷ x)) (sym (append_assoc p.others (bytes_of ps) (bytes_of qs)))
    ∙ sym (append_assoc p.blank (p.first ∷ p.others ++ bytes_of ps) (bytes_of qs))

pub then_wrote : (ps qs : List Piece) (a b c : List ℕ) → Wrote ps a b → Wrote qs b c → Wrote (ps ++ qs) a c
then_wrote ps qs a b c p q = record {
  is = q.is ∙ ap (λ (x : List ℕ). x ++ bytes_of qs) p.is ∙ append_assoc a (bytes_of ps) (bytes_of qs) ∙ ap (λ (x : List ℕ). a ++ x) (sym (bytes_append ps qs));
}

pub wrote_none : (a : List ℕ) → Wrote [] a a
wrote_none a = record { is = sym (append-nil a) }

-- a part, and what the last call wrote behind it
pub finish : {T X : Type 0} (r : Result T X) (ps qs : List Piece) (a b c : List ℕ) → Wrote ps a b → IfOk r (λ x. Wrote qs b c) → IfOk r (λ x. Wrote (ps ++ qs) a c)
finish (Ok x) ps qs a b c p q = then_wrote ps qs a b c p q
finish (Err e) ps qs a b c p q = tt

-- the same bytes, as other pieces
pub respelt : (ps qs : List Piece) (a b : List ℕ) → bytes_of ps ≡ bytes_of qs → Wrote ps a b → Wrote qs a b
respelt ps qs a b e p = record { is = p.is ∙ ap (λ (x : List ℕ). a ++ x) e }

pub respelt_last : {T X : Type 0} (r : Result T X) (ps qs : List Piece) (a b : List ℕ) → bytes_of ps ≡ bytes_of qs → IfOk r (λ x. Wrote ps a b) → IfOk r (λ x. Wrote qs a b)
respelt_last (Ok x) ps qs a b e p = respelt ps qs a b e p
respelt_last (Err e) ps qs a b same p = tt

-- one more of a list
pub goes_on : (ps qs : List Piece) (a b c : List ℕ) → b ++ bytes_of (ps ++ qs) ≡ a → Wrote ps b c → c ++ bytes_of qs ≡ a
goes_on ps qs a b c e p =
    ap (λ (x : List ℕ). x ++ bytes_of qs) p.is
    ∙ append_assoc b (bytes_of ps) (bytes_of qs)
    ∙ ap (λ (x : List ℕ). b ++ x) (sym (bytes_append ps qs))
    ∙ e

-- the whole list
pub ends : (ps : List Piece) (a b : List ℕ) → b ++ [] ≡ a ++ bytes_of ps → Wrote ps a b
ends ps a b e = record { is = sym (append-nil b) ∙ e }

pub wrote_one : (p : Piece) (a b : List ℕ) → b ≡ (a ++ p.blank) ++ (p.first ∷ p.others) → Wrote (p ∷ []) a b
wrote_one p a b e = record { is = e ∙ append_assoc a p.blank (p.first ∷ p.others) ∙ ap (λ (x : List ℕ). a ++ (p.blank ++ (p.first ∷ x))) (sym (append-nil p.others)) }

pub wrote_piece : (blank text : List ℕ) (kind : TokenForm) (a b : List ℕ) → 0 < length text → b ≡ (a ++ blank) ++ text → Wrote (piece blank kind text) a b
wrote_piece blank [] kind a b h e = absurd (omega arith)
wrote_piece blank (c ∷ cs) kind a b h e = record { is = e ∙ append_assoc a blank (c ∷ cs) ∙ ap (λ (x : List ℕ). a ++ (blank ++ (c ∷ x))) (sym (append-nil cs)) }

pub wrote_natural : (blank : List ℕ) (n : ℕ) (kind : TokenForm) (a b : List ℕ) → n < 2 ^ 64 → b ≡ (a ++ blank) ++ decimal n → Wrote (piece blank kind (decimal n)) a b
wrote_natural blank n kind a b h e = wrote_piece blank (decimal n) kind a b (decimal_nonempty n h) e

pub some_digits : (w bits : ℕ) → bits < 2 ^ 64 → 0 < length (signed w bits)
some_digits w bits h = by_sign (nat_lt bits (2 ^ (w - 1)))
  where
    by_sign : (b : Bool) → 0 < length (if b then decimal bits else 45 ∷ decimal (2 ^ w - bits))
    by_sign true = decimal_nonempty bits h
    by_sign false = omega arith

pub wrote_signed : (blank : List ℕ) (w bits : ℕ) (a b : List ℕ) → bits < 2 ^ 64 → b ≡ (a ++ blank) ++ signed w bits → Wrote (signed_piece blank w bits) a b
wrote_signed blank w bits a b h e = wrote_piece blank (signed w bits) forms.Number a b (some_digits w bits h) e

-- what leads a token stands before its blank
pub led_piece : (lead text : List ℕ) (kind : TokenForm) → 0 < length text → bytes_of (piece (lead ++ space) kind text) ≡ lead ++ bytes_of (piece space kind text)
led_piece lead [] kind h = absurd (omega arith)
led_piece lead (c ∷ cs) kind h = append_assoc lead space (c ∷ cs ++ [])

pub one_bit : decimal 1 ++ [] ≡ 49 ∷ []
one_bit = ap (λ (ds : List ℕ). ds ++ []) (decimal_digit 1 (omega arith))

pub eight_bits : (more : List ℕ) → decimal 8 ++ more ≡ 56 ∷ more
eight_bits more = ap (λ (ds : List ℕ). ds ++ more) (decimal_digit 8 (omega arith))

pub sixty_four_bits : (more : List ℕ) → decimal 64 ++ more ≡ 54 ∷ 52 ∷ more
sixty_four_bits more = ap (λ (ds : List ℕ). ds ++ more) (decimal_step 64 (omega arith) (omega arith) ∙ ap (λ (ds : List ℕ). ds ++ 52 ∷ []) (decimal_digit 6 (omega arith)))

pub led_register : (lead : List ℕ) (reg : Reg) → bytes_of (register (lead ++ space) reg) ≡ lead ++ bytes_of (register space reg)
led_register lead (Int w) = append_assoc lead space _
led_register lead Ptr = append_assoc lead space _

pub led_by_register : (lead : List ℕ) (reg : Reg) (ps : List Piece) → bytes_of (register (lead ++ space) reg ++ ps) ≡ lead ++ bytes_of (register space reg ++ ps)
led_by_register lead (Int w) ps = append_assoc lead space _
led_by_register lead Ptr ps = append_assoc lead space _

pub led_shape : (lead : List ℕ) (f : Form) → bytes_of (shape (lead ++ space) f) ≡ lead ++ bytes_of (shape space f)
led_shape lead (int w) = append_assoc lead space _
led_shape lead pointer = append_assoc lead space _
led_shape lead (array count of) = append_assoc lead space _
led_shape lead (structure false parts) = append_assoc lead space _
led_shape lead (structure true parts) = append_assoc lead space _

-- an address that is not the symbol's own
pub displaced_address : {T X : Type 0} (r : Result T X) (lead name : List ℕ) (offset : ℕ) (a b : List ℕ) → (offset ≡ 0 → ⊥) → IfOk r (λ x. Wrote (word lead (codes "getelementptr") ++ displaced name offset) a b) → IfOk r (λ x. Wrote (address lead name offset) a b)
displaced_address r lead name offset a b moved w = rw (ne_eqb offset 0 moved) w

-- past 64 bits nothing has a sign
pub wide : (w bits : ℕ) → 64 < w → bits < 2 ^ 64 → signed w bits ≡ decimal bits
wide w bits h lt = rw (lt-ltb bits (2 ^ (w - 1)) (omega (arith, lt, mono 64 (w - 1) (omega arith)))) refl
  where
    mono : (i j : ℕ) → i ≤ j → 2 ^ i ≤ 2 ^ j
    mono i j le = pow_mono le

-- one more of a list, of which these are left
pub each_on : {A : Type 0} (one : A → List Piece) (all : List A → List Piece) → ((y : A) (ys : List A) → all (y ∷ ys) ≡ one y ++ all ys) → (xs : List A) (i : ℕ) (x d : A) → i < length xs → x ≡ get_or xs i d → (a b c : List ℕ) → b ++ bytes_of (all (drop i xs)) ≡ a → Wrote (one x) b c → c ++ bytes_of (all (drop (i + 1) xs)) ≡ a
each_on {A} one all unfolds xs i x d lt is a b c e w =
    let step : drop i xs ≡ x ∷ drop (i + 1) xs = rw (add-one, drop-cons xs i d) (ap (λ (y : A). y ∷ drop (suc i) xs) (sym is)) in
    goes_on (one x) (all (drop (i + 1) xs)) a b c (ap (λ (ps : List Piece). b ++ bytes_of ps) (sym (ap all step ∙ unfolds x (drop (i + 1) xs))) ∙ e) w

-- the same where each one is written as other pieces
pub each_led : {A : Type 0} (led one : A → List Piece) (all : List A → List Piece) → ((y : A) → bytes_of (led y) ≡ bytes_of (one y)) → ((y : A) (ys : List A) → all (y ∷ ys) ≡ one y ++ all ys) → (xs : List A) (i : ℕ) (x d : A) → i < length xs → x ≡ get_or xs i d → (a b c : List ℕ) → b ++ bytes_of (all (drop i xs)) ≡ a → Wrote (led x) b c → c ++ bytes_of (all (drop (i + 1) xs)) ≡ a
each_led led one all same unfolds xs i x d lt is a b c e w = each_on one all unfolds xs i x d lt is a b c e (respelt (led x) (one x) b c (same x) w)

pub dropped : {A : Type 0} (xs : List A) (i : ℕ) (x d : A) → i < length xs → x ≡ get_or xs i d → (P : List A → Type 0) → P (drop i xs) → P (x ∷ drop (i + 1) xs)
dropped {A} xs i x d lt is P h =
    subst P (rw (add-one, drop-cons xs i d) (ap (λ (y : A). y ∷ drop (suc i) xs) (sym is))) h

-- nothing of a list is left
pub all_on : {A : Type 0} (all : List A → List Piece) → all [] ≡ [] → (xs : List A) (i : ℕ) → length xs ≤ i → (ps : List Piece) (a b : List ℕ) → b ++ bytes_of (all (drop i xs)) ≡ a ++ bytes_of ps → Wrote ps a b
all_on all none xs i le ps a b e = ends ps a b (ap (λ (qs : List Piece). b ++ bytes_of qs) (sym (ap all (drop_all i xs le) ∙ none)) ∙ e)

take_whole : {A : Type 0} (xs : List A) → take (length xs) xs ≡ xs
take_whole [] = refl
take_whole (x ∷ xs) = ap (λ ys. x ∷ ys) (take_whole xs)

-- the first of a list, and the rest of it
pub opened : {A : Type 0} (xs : List A) (x d : A) → 1 ≤ length xs → x ≡ get_or xs 0 d → x ∷ take (length xs - 1) (drop 1 xs) ≡ xs
opened [] x d lt is = absurd (omega (arith, lt))
opened (y ∷ ys) x d lt is =
    let one : suc (length ys) - 1 ≡ length ys = omega arith in
    ap (λ (n : ℕ). x ∷ take n ys) one ∙ ap (λ zs. x ∷ zs) (take_whole ys) ∙ ap (λ z. z ∷ ys) is

pub first_on : {A T X : Type 0} (r : Result T X) (one : A → List Piece) (rest all : List A → List Piece) → ((y : A) (ys : List A) → all (y ∷ ys) ≡ one y ++ rest ys) → (xs : List A) (x d : A) → 1 ≤ length xs → x ≡ get_or xs 0 d → (a b c : List ℕ) → Wrote (one x) a b → IfOk r (λ _. Wrote (rest (take (length xs - 1) (drop 1 xs))) b c) → IfOk r (λ _. Wrote (all xs) a c)
first_on r one rest all unfolds xs x d lt is a b c w v =
    let others = take (length xs - 1) (drop 1 xs) in
    subst (λ (ps : List Piece). IfOk r (λ _. Wrote ps a c)) (sym (unfolds x others) ∙ ap all (opened xs x d lt is)) (finish r (one x) (rest others) a b c w v)

-- the first of a list is written, and the rest of it is left
pub first_left : {A : Type 0} (one : A → List Piece) (rest all : List A → List Piece) → ((y : A) (ys : List A) → all (y ∷ ys) ≡ one y ++ rest ys) → (xs : List A) (x d : A) → 1 ≤ length xs → x ≡ get_or xs 0 d → (a b : List ℕ) → Wrote (one x) a b → b ++ bytes_of (rest (take (length xs - 1) (drop 1 xs))) ≡ a ++ bytes_of (all xs)
first_left one rest all unfolds xs x d lt is a b w =
    let others = take (length xs - 1) (drop 1 xs) in
    goes_on (one x) (rest others) (a ++ bytes_of (all xs)) a b (ap (λ (ps : List Piece). a ++ bytes_of ps) (sym (unfolds x others) ∙ ap all (opened xs x d lt is))) w

-- one more entry, and the line feed behind it
pub line_on : (ps : List Piece) (more : List (List Piece)) (a b c : List ℕ) → b ++ text_of (ps ∷ more) ≡ a → Wrote ps b c → (c ++ 10 ∷ []) ++ text_of more ≡ a
line_on ps more a b c e w =
    append_assoc c (10 ∷ []) (text_of more)
    ∙ ap (λ (x : List ℕ). x ++ (10 ∷ text_of more)) w.is
    ∙ append_assoc b (bytes_of ps) (10 ∷ text_of more)
    ∙ e

text_append : (xs ys : List (List Piece)) → text_of (xs ++ ys) ≡ text_of xs ++ text_of ys
text_append [] ys = refl
text_append (x ∷ xs) ys = ap (λ (t : List ℕ). bytes_of x ++ (10 ∷ t)) (text_append xs ys) ∙ sym (append_assoc (bytes_of x) (10 ∷ text_of xs) (text_of ys))

-- three lists of entries, written one behind the other
pub three_wrote : (xs ys zs : List (List Piece)) (a b c d : List ℕ) → a ≡ [] → b ≡ a ++ text_of xs → c ≡ b ++ text_of ys → d ≡ c ++ text_of zs → d ≡ text_of (xs ++ (ys ++ zs))
three_wrote xs ys zs a b c d none wx wy wz =
    wz
    ∙ ap (λ (t : List ℕ). t ++ text_of zs) (wy ∙ ap (λ (t : List ℕ). t ++ text_of ys) (wx ∙ ap (λ (t : List ℕ). t ++ text_of xs) none))
    ∙ append_assoc (text_of xs) (text_of ys) (text_of zs)
    ∙ ap (λ (t : List ℕ). text_of xs ++ t) (sym (text_append ys zs))
    ∙ sym (text_append xs (ys ++ zs))
