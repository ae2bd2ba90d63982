-- The name that a token of a global's class stands for can be printed: bytes, none of them zero, and not kept for LLVM itself.
use Rattle.std.proofs.Common.{◌≡◌, ℕ, suc, ◌<◌, max, ◌⊎◌, inl, inr, Bool, true, false, cond, ◌&&◌, ◌||◌, nat_eq, nat_lt, Some, None, List, [], ◌∷◌, ◌++◌, length, take, drop, codes, refl, sym, ap, subst, ◌∙◌, arith}
use Rattle.std.specs.Char.{is_ascii_digit}
use Rattle.std.specs.List.{AllByRecursion as Each, list_all}
use Rattle.std.specs.Str.{bytes_eq}
use Rattle.std.proofs.lemmas.Bool.{and_parts, eqb-true}
use Rattle.ir_lex.specs.Bytes.{has, run, starts_name}
use Rattle.ir_lex.specs.TokenKinds.{begins_with, defines_local, global_kind, kind_of, is_numbered, name_kind, number}
use Rattle.ir_lex.specs.Lexing.{is_bad, opens}
use Rattle.ir_lex.specs.Quotes.{content, has_zero, is_zero_name, stripped, unescaped}
use Rattle.ir_lex.specs.Rows.{bare_len, behind, best_fit, closed, dots_len, fit, label_len, longest, meta_len, name_len, number_len, other_len, rest_fit, string_len, word_len}
use Rattle.ir_lex.specs.Tok.{Tok}
use Rattle.ir_lex.specs.declared.bytes.Set.{Set}
use Rattle.ir_lex.specs.declared.bytes.Set.TheVariants.{Digits, Inside, LabelBytes}
use Rattle.ir_lex.specs.declared.token_kind.TokenKind.{TokenKind}
use Rattle.ir_lex.specs.declared.token_kind.TokenKind.TheVariants as kinds
use Rattle.ir_lex.specs.declared.rows.Fit.{Fit}
use Rattle.ir_lex.specs.declared.token.TokenForm.{TokenForm}
use Rattle.ir_lex.specs.declared.token.TokenForm.TheVariants as forms
use Rattle.ir_parse_names.specs.Keys.{is_numeral}
use Rattle.ir_parse_names.specs.Symbols.{symbol_name, trimmed}
use Rattle.ir_parse_operands.specs.Values.{GLOBAL}
use Rattle.ir_parse_parts.specs.Alphabet.{contains}
use Rattle.ir_tree.specs.Names.{AllBytes}
use Rattle.ir_round_trip.specs.Classes.{IsOrdinary}
use Rattle.ir_round_trip.specs.Tokens.{IsWritable}
use Rattle.ir_round_trip.proofs.WithinClasses.{is_global}
use Rattle.ir_round_trip.proofs.Contents.{content_bytes}

-- ---- bare names have no zero byte

abbrev NoZero : List ℕ → Type 0
NoZero [] = Unit {0}
NoZero (b ∷ bs) = (nat_eq b 0 ≡ false) × NoZero bs

no_zero : (bs : List ℕ) → NoZero bs → has_zero bs ≡ false
no_zero [] h = refl
no_zero (b ∷ bs) h = ap (λ (t : Bool). t || has_zero bs) h.0 ∙ no_zero bs h.1

run_no_zero : (set : Set) → ((b : ℕ) → has set b ≡ true → nat_eq b 0 ≡ false) → (bs : List ℕ) → NoZero (take (run set bs) bs)
run_no_zero set good [] = tt
run_no_zero set good (b ∷ bs) = by (has set b) refl (run_no_zero set good bs)
  where
    by : (t : Bool) → has set b ≡ t → NoZero (take (run set bs) bs) → NoZero (take (cond t (suc (run set bs)) 0) (b ∷ bs))
    by true e more = (good b e, more)
    by false e more = tt

digit_no_zero : (b : ℕ) → has Digits b ≡ true → nat_eq b 0 ≡ false
unfolding has
digit_no_zero b h = by b h
  where
    by : (b : ℕ) → is_ascii_digit b ≡ true → nat_eq b 0 ≡ false
    by b h = grind arith

start_no_zero : (b : ℕ) → starts_name b ≡ true → nat_eq b 0 ≡ false
start_no_zero b h = grind arith

label_no_zero : (b : ℕ) → has LabelBytes b ≡ true → nat_eq b 0 ≡ false
unfolding has
label_no_zero b h = by b h
  where
    by : (b : ℕ) → starts_name b || is_ascii_digit b ≡ true → nat_eq b 0 ≡ false
    by b h = grind arith

either_max : (m n : ℕ) → (max m n ≡ m) ⊎ (max m n ≡ n)
either_max m n = by (nat_lt m n) refl
  where
    by : (b : Bool) → nat_lt m n ≡ b → (max m n ≡ m) ⊎ (max m n ≡ n)
    by true e = inr (grind arith)
    by false e = inl (grind arith)

max_no_zero : (m n : ℕ) (bs : List ℕ) → NoZero (take m bs) → NoZero (take n bs) → NoZero (take (max m n) bs)
max_no_zero m n bs h k = by (either_max m n)
  where
    by : (max m n ≡ m) ⊎ (max m n ≡ n) → NoZero (take (max m n) bs)
    by (inl e) = subst (λ (i : ℕ). NoZero (take i bs)) (sym e) h
    by (inr e) = subst (λ (i : ℕ). NoZero (take i bs)) (sym e) k

bare_no_zero : (b : ℕ) (bs : List ℕ) → nat_eq b 34 ≡ false → NoZero (take (name_len (b ∷ bs)) (b ∷ bs))
unfolding name_len string_len
bare_no_zero b bs e =
    max_no_zero (bare_len (b ∷ bs)) (max (run Digits (b ∷ bs)) (string_len (b ∷ bs))) (b ∷ bs) (bare (starts_name b) refl)
    (max_no_zero (run Digits (b ∷ bs)) (string_len (b ∷ bs)) (b ∷ bs) (run_no_zero Digits digit_no_zero (b ∷ bs)) (none (closed (run Inside bs) bs) (nat_eq b 34) e))
  where
    bare : (t : Bool) → starts_name b ≡ t → NoZero (take (cond t (suc (run LabelBytes bs)) 0) (b ∷ bs))
    bare true s = (start_no_zero b s, run_no_zero LabelBytes label_no_zero bs)
    bare false s = tt

    none : (n : ℕ) (t : Bool) → t ≡ false → NoZero (take (cond t n 0) (b ∷ bs))
    none n true s = absurd cc
    none n false s = tt

-- ---- the text of a global's name

-- a row of the table: where it is that of a global's name, it is so long
record Row (n : ℕ) (f : Fit) : Type 0 where
  long : f.form ≡ forms.Global → f.len ≡ n

own_row : (n : ℕ) → Row n (fit forms.Global n)
own_row n = record { long = λ e. refl }

other_row : (n : ℕ) (kind : TokenForm) (len : ℕ) → (kind ≡ forms.Global → ⊥) → Row n (fit kind len)
other_row n kind len apart = record { long = λ e. absurd (apart e) }

better_row : (n : ℕ) (longer : Bool) (a b : Fit) → Row n a → Row n b → Row n (cond longer b a)
better_row n true a b h k = k
better_row n false a b h k = h

longest_row : (n : ℕ) (f : Fit) (gs : List Fit) → Row n f → Each (Row n) gs → Row n (longest f gs)
longest_row n f [] h hs = h
longest_row n f (g ∷ gs) h hs = better_row n (nat_lt f.len (longest g gs).len) f (longest g gs) h (longest_row n g gs hs.0 hs.1)

-- the rows behind those of labels and numbers
abbrev rows : List ℕ → List Fit
rows bs =
    fit forms.Word (word_len bs)
    ∷ fit forms.Local (behind 37 name_len bs)
    ∷ fit forms.Global (behind 64 name_len bs)
    ∷ fit forms.Comdat (behind 36 name_len bs)
    ∷ fit forms.Meta (meta_len bs)
    ∷ fit forms.Group (behind 35 (run Digits) bs)
    ∷ fit forms.Str (string_len bs)
    ∷ fit forms.CStr (behind 99 string_len bs)
    ∷ fit forms.Dots (dots_len bs)
    ∷ fit forms.Other (other_len bs)
    ∷ []

each_row : (bs : List ℕ) → Each (Row (behind 64 name_len bs)) (rows bs)
each_row bs =
    let n = behind 64 name_len bs in (
      other_row n forms.Word (word_len bs) (λ e. cc),
      (
        other_row n forms.Local (behind 37 name_len bs) (λ e. cc),
        (
          own_row n,
          (
            other_row n forms.Comdat (behind 36 name_len bs) (λ e. cc),
            (
              other_row n forms.Meta (meta_len bs) (λ e. cc),
              (
                other_row n forms.Group (behind 35 (run Digits) bs) (λ e. cc),
                (
                  other_row n forms.Str (string_len bs) (λ e. cc),
                  (
                    other_row n forms.CStr (behind 99 string_len bs) (λ e. cc),
                    (
                      other_row n forms.Dots (dots_len bs) (λ e. cc),
                      (other_row n forms.Other (other_len bs) (λ e. cc), tt),
                    ),
                  ),
                ),
              ),
            ),
          ),
        ),
      ),
    )

best_row : (bs : List ℕ) → Row (behind 64 name_len bs) (best_fit bs)
unfolding best_fit rest_fit
best_row bs =
    let n = behind 64 name_len bs in
    better_row n (nat_lt (label_len bs) (rest_fit bs).len) (fit forms.Label (label_len bs)) (rest_fit bs) (other_row n forms.Label (label_len bs) (λ e. cc))
    (longest_row n (fit forms.Number (number_len bs)) (rows bs) (other_row n forms.Number (number_len bs) (λ e. cc)) (each_row bs))

record GlobalText (text after : List ℕ) : Type 0 where
  rest : List ℕ
  whole : text ≡ 64 ∷ rest
  long : length rest ≡ name_len (rest ++ after)

global_text : (text after : List ℕ) → nat_eq (length text) 0 ≡ false → length text ≡ behind 64 name_len (text ++ after) → GlobalText text after
global_text [] after some e = absurd cc
global_text (b ∷ rest) after some e = by (nat_eq b 64) (nat_lt 0 (name_len (rest ++ after))) refl e
  where
    by : (t u : Bool) → nat_eq b 64 ≡ t → suc (length rest) ≡ cond (t && u) (suc (name_len (rest ++ after))) 0 → GlobalText (b ∷ rest) after
    by true true g e = record { rest = rest; whole = ap (λ (c : ℕ). c ∷ rest) (eqb-true b 64 g); long = omega (arith, e) }
    by true false g e = absurd (omega (arith, e))
    by false u g e = absurd (omega (arith, e))

take_front : (xs ys : List ℕ) → take (length xs) (xs ++ ys) ≡ xs
take_front [] [] = refl
take_front [] (y ∷ ys) = refl
take_front (x ∷ xs) ys = ap (λ (more : List ℕ). x ∷ more) (take_front xs ys)

-- what it stands for
said_no_zero : (rest after : List ℕ) → length rest ≡ name_len (rest ++ after) → is_zero_name forms.Global (64 ∷ rest) ≡ false → has_zero (content forms.Global (64 ∷ rest)) ≡ false
unfolding content is_zero_name
said_no_zero [] after long z = refl
said_no_zero (c ∷ []) after long z = by (nat_eq c 34) refl
  where
    by : (t : Bool) → nat_eq c 34 ≡ t → has_zero (c ∷ []) ≡ false
    by true e = ap (λ (b : ℕ). nat_eq b 0 || false) (eqb-true c 34 e)
    by false e = no_zero (c ∷ []) (subst NoZero (ap (λ (n : ℕ). take n (c ∷ after)) (sym long) ∙ take_front (c ∷ []) after) (bare_no_zero c after e))
said_no_zero (c ∷ d ∷ ds) after long z = by (nat_eq c 34) refl z
  where
    by : (t : Bool) → nat_eq c 34 ≡ t → elim (cond t (Some (take (length ds) (d ∷ ds))) None) as (λ o. Bool) [ None ↦ false | Some quoted ↦ has_zero (unescaped quoted) ] ≡ false
        → has_zero (elim (cond t (Some (take (length ds) (d ∷ ds))) None) as (λ o. List ℕ) [ None ↦ c ∷ d ∷ ds | Some quoted ↦ unescaped quoted ]) ≡ false
    by true e z = z
    by false e z = no_zero (c ∷ d ∷ ds) (subst NoZero (ap (λ (n : ℕ). take n (c ∷ (d ∷ ds ++ after))) (sym long) ∙ take_front (c ∷ d ∷ ds) after) (bare_no_zero c (d ∷ ds ++ after) e))

-- ---- digits

abbrev AllDigits : List ℕ → Type 0
AllDigits ds = Each (λ d. is_ascii_digit d ≡ true) ds

all_digits : (ds : List ℕ) → list_all is_ascii_digit ds ≡ true → AllDigits ds
all_digits [] h = tt
all_digits (d ∷ ds) h = let both = and_parts (is_ascii_digit d) (list_all is_ascii_digit ds) h in (both.0, all_digits ds both.1)

numeral_digits : (ds : List ℕ) → is_numeral ds ≡ true → AllDigits ds
numeral_digits [] h = absurd cc
numeral_digits (d ∷ ds) h = all_digits (d ∷ ds) h

trimmed_digits : (ds : List ℕ) → AllDigits ds → AllDigits (trimmed ds)
trimmed_digits [] h = tt
trimmed_digits (d ∷ []) h = h
trimmed_digits (d ∷ e ∷ ds) h = by (nat_eq d 48) (trimmed_digits (e ∷ ds) h.1)
  where
    by : (t : Bool) → AllDigits (trimmed (e ∷ ds)) → AllDigits (cond t (trimmed (e ∷ ds)) (d ∷ e ∷ ds))
    by true more = more
    by false more = h

digit_byte : (d : ℕ) → is_ascii_digit d ≡ true → d < 256
digit_byte d h = grind arith

digit_no_l : (d : ℕ) → is_ascii_digit d ≡ true → nat_eq d 108 ≡ false
digit_no_l d h = grind arith

digit_some : (d : ℕ) → is_ascii_digit d ≡ true → nat_eq d 0 ≡ false
digit_some d h = grind arith

digits_bytes : (ds : List ℕ) → AllDigits ds → AllBytes ds
digits_bytes [] h = tt
digits_bytes (d ∷ ds) h = (digit_byte d h.0, digits_bytes ds h.1)

digits_no_zero : (ds : List ℕ) → AllDigits ds → NoZero ds
digits_no_zero [] h = tt
digits_no_zero (d ∷ ds) h = (digit_some d h.0, digits_no_zero ds h.1)

digits_ordinary : (ds : List ℕ) → AllDigits ds → IsOrdinary ds
unfolding name_kind
digits_ordinary [] h = refl
digits_ordinary (d ∷ ds) h = rw (digit_no_l d h.0) refl

-- digits behind the sigil are a numeral
same_below : (m n : ℕ) → nat_eq (suc m) (suc n) ≡ true → nat_eq m n ≡ true
same_below m n h = grind arith

none_above : (n : ℕ) → nat_eq 0 (suc n) ≡ true → ⊥
none_above n h = grind arith

run_all : (ds : List ℕ) → nat_eq (run Digits ds) (length ds) ≡ true → list_all is_ascii_digit ds ≡ true
unfolding has
run_all [] h = refl
run_all (d ∷ ds) h = by (is_ascii_digit d) (run_all ds) h
  where
    by : (t : Bool) → (nat_eq (run Digits ds) (length ds) ≡ true → list_all is_ascii_digit ds ≡ true) → nat_eq (cond t (suc (run Digits ds)) 0) (suc (length ds)) ≡ true → t && list_all is_ascii_digit ds ≡ true
    by true more h = more (same_below (run Digits ds) (length ds) h)
    by false more h = absurd (none_above (length ds) h)

numbered_numeral : (ds : List ℕ) → is_numbered ds ≡ true → is_numeral ds ≡ true
numbered_numeral [] h = absurd cc
numbered_numeral (d ∷ ds) h = run_all (d ∷ ds) (and_parts (nat_lt 0 (length (d ∷ ds))) (nat_eq (run Digits (d ∷ ds)) (length (d ∷ ds))) h).1

-- ---- names

head_ordinary : (name : List ℕ) → contains GLOBAL (number (name_kind name)) ≡ true → IsOrdinary name
unfolding name_kind
head_ordinary name c = by (bytes_eq name (codes "llvm.lifetime.start.p0") || bytes_eq name (codes "llvm.lifetime.end.p0")) (bytes_eq name (codes "llvm") || begins_with (codes "llvm.") name) c
  where
    by : (t u : Bool) → contains GLOBAL (number (cond t kinds.LifetimeMarker (cond u kinds.ReservedGlobal kinds.Global))) ≡ true → cond t kinds.LifetimeMarker (cond u kinds.ReservedGlobal kinds.Global) ≡ kinds.Global
    by true u c = absurd cc
    by false true c = absurd cc
    by false false c = refl

named_by : (rest after : List ℕ) → AllBytes (64 ∷ rest) → length rest ≡ name_len (rest ++ after) → is_zero_name forms.Global (64 ∷ rest) ≡ false → contains GLOBAL (number (global_kind (64 ∷ rest) after)) ≡ true
    → IsWritable (cond (is_numeral rest) (trimmed rest) (content forms.Global (64 ∷ rest)))
unfolding global_kind
named_by rest after bytes long z c = by (is_numeral rest) refl
  where
    apart : (t : Bool) → is_numbered rest ≡ t → is_numeral rest ≡ false → contains GLOBAL (number (cond t (cond (defines_local after) kinds.NumberedDefinition kinds.NumberedGlobal) (name_kind (content forms.Global (64 ∷ rest))))) ≡ true → IsOrdinary (content forms.Global (64 ∷ rest))
    apart true g e c = absurd (let no : true ≡ false = sym (numbered_numeral rest g) ∙ e in cc)
    apart false g e c = head_ordinary (content forms.Global (64 ∷ rest)) c

    by : (t : Bool) → is_numeral rest ≡ t → IsWritable (cond t (trimmed rest) (content forms.Global (64 ∷ rest)))
    by true e =
        let digits = trimmed_digits rest (numeral_digits rest e) in
        (record { bytes = digits_bytes (trimmed rest) digits; no_zero = no_zero (trimmed rest) (digits_no_zero (trimmed rest) digits) }, digits_ordinary (trimmed rest) digits)
    by false e = (record { bytes = content_bytes forms.Global (64 ∷ rest) bytes; no_zero = said_no_zero rest after long z }, apart (is_numbered rest) refl e c)

-- a token before this text, of the kind and class of a global's name
global_named : (text after : List ℕ) → AllBytes text → is_bad (text ++ after) ≡ false → best_fit (text ++ after) ≡ record { form = forms.Global; len = length text } → contains GLOBAL (number (kind_of forms.Global text after)) ≡ true
    → IsWritable (cond (is_numeral (drop 1 text)) (trimmed (drop 1 text)) (content forms.Global text))
unfolding is_bad kind_of
global_named text after bytes good fits c =
    let here : List ℕ = text ++ after in
    let parts = false_parts (nat_eq (best_fit here).len 0) (opens here) (is_zero_name (best_fit here).form (take (best_fit here).len here)) good in
    let some : nat_eq (length text) 0 ≡ false = sym (ap (λ (f : Fit). nat_eq f.len 0) fits) ∙ parts.0 in
    let zero_free : is_zero_name forms.Global text ≡ false = sym (ap (λ (f : Fit). is_zero_name f.form (take f.len here)) fits ∙ ap (is_zero_name forms.Global) (take_front text after)) ∙ parts.1 in
    let long : length text ≡ behind 64 name_len here = sym (ap (λ (f : Fit). f.len) fits) ∙ (best_row here).long (ap (λ (f : Fit). f.form) fits) in
    let g = global_text text after some long in
    subst (λ (x : List ℕ). IsWritable (cond (is_numeral (drop 1 x)) (trimmed (drop 1 x)) (content forms.Global x))) (sym g.whole)
    (named_by g.rest after (subst AllBytes g.whole bytes) g.long (sym (ap (is_zero_name forms.Global) g.whole) ∙ zero_free) (subst (λ (x : List ℕ). contains GLOBAL (number (global_kind x after)) ≡ true) g.whole c))
  where
    false_parts : (a b c : Bool) → a || (b || c) ≡ false → (a ≡ false) × (c ≡ false)
    false_parts false false c e = (refl, e)
    false_parts false true c e = absurd cc
    false_parts true b c e = absurd cc

pub name_fits : (t : Tok) (after : List ℕ) → AllBytes t.text → is_bad (t.text ++ after) ≡ false → best_fit (t.text ++ after) ≡ record { form = t.form; len = length t.text } → t.kind ≡ kind_of t.form t.text after → contains GLOBAL (number t.kind) ≡ true → IsWritable (symbol_name t)
unfolding symbol_name
name_fits t after bytes good fits head c =
    let class : contains GLOBAL (number (kind_of t.form t.text after)) ≡ true = subst (λ (h : TokenKind). contains GLOBAL (number h) ≡ true) head c in
    let kind : t.form ≡ forms.Global = is_global t.form t.text after class in
    subst (λ (k : TokenForm). IsWritable (cond (is_numeral (stripped k t.text)) (trimmed (stripped k t.text)) (content k t.text))) (sym kind)
    (global_named t.text after bytes good (subst (λ (k : TokenForm). best_fit (t.text ++ after) ≡ record { form = k; len = length t.text }) kind fits)
    (subst (λ (k : TokenForm). contains GLOBAL (number (kind_of k t.text after)) ≡ true) kind class))
