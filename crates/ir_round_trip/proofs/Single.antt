-- Single tokens as they are printed: each is read as itself before what is apart.
use Rattle.std.proofs.Common.{◌≡◌, ℕ, suc, ◌-◌, Bool, true, false, ◌&&◌, ◌||◌, cond, nat_eq, nat_lt, None, List, [], ◌∷◌, ◌++◌, length, take, drop, refl, sym, ap, subst, ◌∙◌, append_assoc, arith, decimal}
use Rattle.std.proofs.lemmas.Grind.{common_steps}
use Rattle.std.specs.Char.{is_ascii_digit}
use Rattle.ir_lex.specs.Blanks.{is_blank, pass}
use Rattle.ir_lex.specs.Bytes.{starts_word, starts_name, has, run}
use Rattle.ir_lex.specs.TokenKinds.{kind_of, global_kind, mark_kind, is_numbered}
use Rattle.ir_lex.specs.Lexing.{is_bad, is_open, opens, is_sigil}
use Rattle.ir_lex.specs.Quotes.{is_zero_name}
use Rattle.ir_lex.specs.Rows.{begins, best_fit, rest_fit, better, fit, behind, label_len, number_len, word_len, name_len, meta_len, dots_len, other_len, string_len}
use Rattle.ir_lex.specs.declared.rows.Fit.{Fit}
use Rattle.ir_lex.specs.declared.bytes.Set.TheVariants.{Digits, LabelBytes, WordBytes}
use Rattle.ir_lex.specs.declared.token.TokenForm.{TokenForm}
use Rattle.ir_lex.specs.declared.token.TokenForm.TheVariants as forms
use Rattle.ir_lex.proofs.Fits.{global_fit, digit_fit, signed_fit, word_fit, string_fit}
use Rattle.ir_lex.proofs.Spelled.{AllIn, run_stops, local_spelled}
use Rattle.ir_tree.specs.Names.{escaped, quoted}
use Rattle.ir_print.specs.Tokens.{closed}
use Rattle.ir_round_trip.specs.Printable.{IsName}
use Rattle.ir_round_trip.proofs.Apart.{Apart, IsApart, ends_digits, ends_word, ends_label, no_colon, no_string, digit_label, digit_word, word_label, word_no_quote, dropped, not_zero}
use Rattle.ir_round_trip.proofs.Numbers.{numeral}
use Rattle.ir_round_trip.proofs.Quoted.{name_text, bare_inside, closed_length, string_whole, string_closed}

-- a token that is read as itself before what is apart, and is of one class whatever stands behind it
pub record IsToken (kind : TokenForm) (first : ℕ) (others : List ℕ) : Type 0 where
  pub starts : pass false first ≡ None
  pub fits : (rest : List ℕ) → Apart rest → best_fit (first ∷ (others ++ rest)) ≡ fit kind (suc (length others))
  pub shut : (rest : List ℕ) → Apart rest → opens (first ∷ (others ++ rest)) ≡ false
  pub named : is_zero_name kind (first ∷ others) ≡ false
  pub settled : (behind : List ℕ) → kind_of kind (first ∷ others) behind ≡ kind_of kind (first ∷ others) []

-- ---- good places

taken : (xs rest : List ℕ) → take (length xs) (xs ++ rest) ≡ xs
taken [] rest = refl
taken (x ∷ xs) rest = ap (λ (more : List ℕ). x ∷ more) (taken xs rest)

-- where such a token fits, a good token stands
pub good : (kind : TokenForm) (c : ℕ) (xs rest : List ℕ) → best_fit (c ∷ (xs ++ rest)) ≡ fit kind (suc (length xs)) → opens (c ∷ (xs ++ rest)) ≡ false → is_zero_name kind (c ∷ xs) ≡ false → is_bad (c ∷ (xs ++ rest)) ≡ false
unfolding is_bad
good kind c xs rest f o z =
    ap (λ (g : Fit). nat_eq g.len 0 || (opens (c ∷ (xs ++ rest)) || is_zero_name g.form (take g.len (c ∷ (xs ++ rest))))) f
    ∙ ap (λ (b : Bool). b || (opens (c ∷ (xs ++ rest)) || is_zero_name kind (c ∷ take (length xs) (xs ++ rest)))) (not_zero (length xs)).0
    ∙ ap (λ (b : Bool). b || is_zero_name kind (c ∷ take (length xs) (xs ++ rest))) o
    ∙ ap (λ (text : List ℕ). is_zero_name kind (c ∷ text)) (taken xs rest)
    ∙ z

-- ---- rows

and_false : (b : Bool) → b && false ≡ false
and_false true = refl
and_false false = refl

unopened : (c : ℕ) (bs : List ℕ) → begins 34 bs ≡ false → opens (c ∷ bs) ≡ false
unopened c bs h = ap (λ (b : Bool). is_sigil c && (b && nat_eq (string_len bs) 0)) h ∙ and_false (is_sigil c)

-- no label stands there
no_label : (c : ℕ) (xs rest : List ℕ) → AllIn LabelBytes (c ∷ xs) → nat_eq c 34 ≡ false → Apart rest → label_len (c ∷ (xs ++ rest)) ≡ 0
unfolding label_len string_len
no_label c xs rest a q p =
    let r : run LabelBytes (c ∷ (xs ++ rest)) ≡ suc (length xs) = run_stops LabelBytes (c ∷ xs) rest a (ends_label rest p) in
    rw (r, dropped xs rest, no_colon rest p, q) (grind (arith, common_steps))

unlabelled : (bs : List ℕ) (kind : TokenForm) (n : ℕ) → label_len bs ≡ 0 → rest_fit bs ≡ fit kind (suc n) → best_fit bs ≡ fit kind (suc n)
unfolding best_fit
unlabelled bs kind n l r = rw (l, r) (grind (arith, common_steps))

-- ---- words

word_first : (c : ℕ) → starts_word c ≡ true → (has LabelBytes c ≡ true) × (nat_eq c 34 ≡ false) × (pass false c ≡ None)
unfolding has
word_first c h = (one c h, two c h, rw (three c h, four c h) refl)
  where
    one : (c : ℕ) → starts_word c ≡ true → starts_name c || is_ascii_digit c ≡ true
    one c h = grind arith

    two : (c : ℕ) → starts_word c ≡ true → nat_eq c 34 ≡ false
    two c h = grind arith

    three : (c : ℕ) → starts_word c ≡ true → is_blank c ≡ false
    three c h = grind arith

    four : (c : ℕ) → starts_word c ≡ true → nat_eq c 59 ≡ false
    four c h = grind arith

word_fits : (c : ℕ) (xs rest : List ℕ) → starts_word c ≡ true → AllIn WordBytes xs → Apart rest → best_fit (c ∷ (xs ++ rest)) ≡ fit forms.Word (suc (length xs))
word_fits c xs rest w a p =
    let f = word_first c w in
    unlabelled (c ∷ (xs ++ rest)) forms.Word (length xs)
    (no_label c xs rest (f.0, word_label xs a) f.1 p)
    (word_fit c (xs ++ rest) w ∙ rw (run_stops WordBytes xs rest a (ends_word rest p), no_string (xs ++ rest) (word_no_quote xs rest a p)) (no_c (nat_eq c 99)))
  where
    no_c : (b : Bool) → better (fit forms.Word (suc (length xs))) (fit forms.CStr (cond (b && nat_lt 0 0) 1 0)) ≡ fit forms.Word (suc (length xs))
    no_c true = grind (arith, common_steps)
    no_c false = grind (arith, common_steps)

word_class : (text behind : List ℕ) → kind_of forms.Word text behind ≡ kind_of forms.Word text []
unfolding kind_of
word_class text behind = refl

word_named : (text : List ℕ) → is_zero_name forms.Word text ≡ false
unfolding is_zero_name
word_named text = refl

pub word_token : (c : ℕ) (cs : List ℕ) → starts_word c ≡ true → AllIn WordBytes cs → IsToken forms.Word c cs
word_token c cs w a = record {
  starts = (word_first c w).2;
  fits = λ rest p. word_fits c cs rest w a p;
  shut = λ rest p. unopened c (cs ++ rest) (word_no_quote cs rest a p);
  named = word_named (c ∷ cs);
  settled = λ behind. word_class (c ∷ cs) behind;
}

-- iN
pub width_token : (n : ℕ) → IsToken forms.Word 105 (decimal n)
width_token n =
    let t = numeral n in
    subst (IsToken forms.Word 105) (sym t.whole) (word_token 105 (t.first ∷ t.others) refl (digit_word (t.first ∷ t.others) t.digits))

-- ---- numbers

digit_first : (c : ℕ) → has Digits c ≡ true → (is_ascii_digit c ≡ true) × (nat_eq c 34 ≡ false) × (pass false c ≡ None) × (is_sigil c ≡ false)
unfolding has
digit_first c h = (h, one c h, rw (two c h, three c h) refl, four c h)
  where
    one : (c : ℕ) → is_ascii_digit c ≡ true → nat_eq c 34 ≡ false
    one c h = grind arith

    two : (c : ℕ) → is_ascii_digit c ≡ true → is_blank c ≡ false
    two c h = grind arith

    three : (c : ℕ) → is_ascii_digit c ≡ true → nat_eq c 59 ≡ false
    three c h = grind arith

    four : (c : ℕ) → is_ascii_digit c ≡ true → is_sigil c ≡ false
    four c h = grind arith

digits_fit : (c : ℕ) (xs rest : List ℕ) → AllIn Digits (c ∷ xs) → Apart rest → best_fit (c ∷ (xs ++ rest)) ≡ fit forms.Number (suc (length xs))
digits_fit c xs rest a p =
    let f = digit_first c a.0 in
    unlabelled (c ∷ (xs ++ rest)) forms.Number (length xs)
    (no_label c xs rest (digit_label (c ∷ xs) a) f.1 p)
    (digit_fit c (xs ++ rest) f.0 ∙ ap (λ (n : ℕ). fit forms.Number (suc n)) (run_stops Digits xs rest a.1 (ends_digits rest p)))

sign_label : has LabelBytes 45 ≡ true
unfolding has
sign_label = refl

negative_fits : (c : ℕ) (xs rest : List ℕ) → AllIn Digits (c ∷ xs) → Apart rest → best_fit (45 ∷ ((c ∷ xs) ++ rest)) ≡ fit forms.Number (suc (suc (length xs)))
negative_fits c xs rest a p =
    unlabelled (45 ∷ ((c ∷ xs) ++ rest)) forms.Number (suc (length xs))
    (no_label 45 (c ∷ xs) rest (sign_label, digit_label (c ∷ xs) a) refl p)
    (signed_fit ((c ∷ xs) ++ rest) ∙ rw (run_stops Digits (c ∷ xs) rest a (ends_digits rest p)) (grind (arith, common_steps)))

number_class : (text behind : List ℕ) → kind_of forms.Number text behind ≡ kind_of forms.Number text []
unfolding kind_of
number_class text behind = refl

number_named : (text : List ℕ) → is_zero_name forms.Number text ≡ false
unfolding is_zero_name
number_named text = refl

no_sigil : (c : ℕ) (bs : List ℕ) → is_sigil c ≡ false → opens (c ∷ bs) ≡ false
no_sigil c bs h = ap (λ (b : Bool). b && is_open bs) h

pub digits_token : (c : ℕ) (cs : List ℕ) → AllIn Digits (c ∷ cs) → IsToken forms.Number c cs
digits_token c cs a = record {
  starts = (digit_first c a.0).2;
  fits = λ rest p. digits_fit c cs rest a p;
  shut = λ rest p. no_sigil c (cs ++ rest) (digit_first c a.0).3;
  named = number_named (c ∷ cs);
  settled = λ behind. number_class (c ∷ cs) behind;
}

pub negative_token : (n : ℕ) → IsToken forms.Number 45 (decimal n)
negative_token n =
    let t = numeral n in
    subst (IsToken forms.Number 45) (sym t.whole) (record {
      starts = refl;
      fits = λ rest p. negative_fits t.first t.others rest t.digits p;
      shut = λ rest p. no_sigil 45 ((t.first ∷ t.others) ++ rest) refl;
      named = number_named (45 ∷ t.first ∷ t.others);
      settled = λ behind. number_class (45 ∷ t.first ∷ t.others) behind;
    })

-- ---- locals

local_class : (text behind : List ℕ) → kind_of forms.Local text behind ≡ kind_of forms.Local text []
unfolding kind_of
local_class text behind = refl

local_named : (c : ℕ) (cs : List ℕ) → nat_eq c 34 ≡ false → is_zero_name forms.Local (37 ∷ c ∷ cs) ≡ false
unfolding is_zero_name
local_named c cs h = rw (bare_inside c cs h) refl

pub local_token : (n : ℕ) → IsToken forms.Local 37 (decimal n)
local_token n =
    let t = numeral n in
    let f = digit_first t.first t.digits.0 in
    subst (IsToken forms.Local 37) (sym t.whole) (record {
      starts = refl;
      fits = λ rest p. local_spelled t.first t.others rest t.digits (ends_digits rest p);
      shut = λ rest p. unopened 37 ((t.first ∷ t.others) ++ rest) f.1;
      named = local_named t.first t.others f.1;
      settled = λ behind. local_class (37 ∷ t.first ∷ t.others) behind;
    })

-- ---- globals

global_fits : (c : ℕ) (cs rest : List ℕ) → name_len (c ∷ (cs ++ rest)) ≡ suc (length cs) → best_fit (64 ∷ ((c ∷ cs) ++ rest)) ≡ fit forms.Global (suc (suc (length cs)))
unfolding best_fit label_len string_len has
global_fits c cs rest e = rw (global_fit ((c ∷ cs) ++ rest), e) (grind (arith, common_steps))

pub no_number : (c : ℕ) (cs : List ℕ) → has Digits c ≡ false → is_numbered (c ∷ cs) ≡ false
no_number c cs h = rw (h, (not_zero (length cs)).1) (and_false (nat_lt 0 (suc (length cs))))

global_class : (c : ℕ) (cs behind : List ℕ) → has Digits c ≡ false → kind_of forms.Global (64 ∷ c ∷ cs) behind ≡ kind_of forms.Global (64 ∷ c ∷ cs) []
unfolding kind_of global_kind
global_class c cs behind h = rw (no_number c cs h) refl

pub global_token : (name : List ℕ) → IsName name → IsToken forms.Global 64 (quoted name)
global_token name n =
    let t = name_text name n in
    subst (IsToken forms.Global 64) (sym t.whole) (record {
      starts = refl;
      fits = λ rest p. global_fits t.first t.others rest (t.long rest p);
      shut = λ rest p. t.shut rest p;
      named = t.named;
      settled = λ behind. global_class t.first t.others behind t.no_digit;
    })

-- ---- labels

no_colon_label : has LabelBytes 58 ≡ false
unfolding has
no_colon_label = refl

no_colon_digit : has Digits 58 ≡ false
unfolding has
no_colon_digit = refl

colon_before : (ds rest : List ℕ) → (ds ++ 58 ∷ []) ++ rest ≡ ds ++ (58 ∷ rest)
colon_before ds rest = append_assoc ds (58 ∷ []) rest

label_whole : (d : ℕ) (ds rest : List ℕ) → AllIn Digits (d ∷ ds) → nat_eq d 34 ≡ false → label_len (d ∷ (ds ++ (58 ∷ rest))) ≡ suc (suc (length ds))
unfolding label_len string_len
label_whole d ds rest a q =
    rw (run_stops LabelBytes (d ∷ ds) (58 ∷ rest) (digit_label (d ∷ ds) a) no_colon_label, dropped ds (58 ∷ rest), q) (grind (arith, common_steps))

label_fits : (d : ℕ) (ds rest : List ℕ) → AllIn Digits (d ∷ ds) → best_fit (d ∷ (ds ++ (58 ∷ rest))) ≡ fit forms.Label (suc (suc (length ds)))
unfolding best_fit
label_fits d ds rest a =
    let f = digit_first d a.0 in
    let n : rest_fit (d ∷ (ds ++ (58 ∷ rest))) ≡ fit forms.Number (suc (length ds)) = digit_fit d (ds ++ (58 ∷ rest)) f.0 ∙ ap (λ (n : ℕ). fit forms.Number (suc n)) (run_stops Digits ds (58 ∷ rest) a.1 no_colon_digit) in
    rw (label_whole d ds rest a f.1, n) (grind (arith, common_steps))

label_length : (ds : List ℕ) → length (ds ++ 58 ∷ []) ≡ suc (length ds)
label_length [] = refl
label_length (d ∷ ds) = ap suc (label_length ds)

label_named : (d : ℕ) (ds : List ℕ) → nat_eq d 34 ≡ false → is_zero_name forms.Label (d ∷ (ds ++ 58 ∷ [])) ≡ false
unfolding is_zero_name
label_named d ds h = rw (label_length ds, less (length ds), bare_inside d (take (length ds) (ds ++ 58 ∷ [])) h) refl
  where
    less : (n : ℕ) → suc (suc n) - 1 ≡ suc n
    less n = omega arith

label_class : (text behind : List ℕ) → kind_of forms.Label text behind ≡ kind_of forms.Label text []
unfolding kind_of
label_class text behind = refl

pub label_token : (d : ℕ) (ds : List ℕ) → AllIn Digits (d ∷ ds) → IsToken forms.Label d (ds ++ 58 ∷ [])
label_token d ds a =
    let f = digit_first d a.0 in
    record {
      starts = f.2;
      fits = λ rest p. ap (λ (bs : List ℕ). best_fit (d ∷ bs)) (colon_before ds rest) ∙ label_fits d ds rest a ∙ ap (λ (n : ℕ). fit forms.Label (suc n)) (sym (label_length ds));
      shut = λ rest p. no_sigil d ((ds ++ 58 ∷ []) ++ rest) f.3;
      named = label_named d ds f.1;
      settled = λ behind. label_class (d ∷ (ds ++ 58 ∷ [])) behind;
    }

-- ---- strings

string_unlabelled : (text rest : List ℕ) → Apart rest → label_len (34 ∷ (closed text ++ rest)) ≡ 0
unfolding label_len has
string_unlabelled text rest p = rw (string_whole text rest, behind_it text rest, no_colon rest p) (grind (arith, common_steps))
  where
    behind_it : (text rest : List ℕ) → drop (suc (length (escaped text))) (closed text ++ rest) ≡ rest
    behind_it text rest = ap (λ (n : ℕ). drop n (closed text ++ rest)) (sym (closed_length text)) ∙ dropped (closed text) rest

string_fits : (text rest : List ℕ) → Apart rest → best_fit (34 ∷ (closed text ++ rest)) ≡ fit forms.Str (suc (length (closed text)))
string_fits text rest p =
    unlabelled (34 ∷ (closed text ++ rest)) forms.Str (length (closed text)) (string_unlabelled text rest p)
    (string_fit (closed text ++ rest) ∙ rw (string_whole text rest, closed_length text) (grind (arith, common_steps)))

string_class : (text behind : List ℕ) → kind_of forms.Str text behind ≡ kind_of forms.Str text []
unfolding kind_of
string_class text behind = refl

string_named : (text : List ℕ) → is_zero_name forms.Str text ≡ false
unfolding is_zero_name
string_named text = refl

pub string_token : (text : List ℕ) → IsToken forms.Str 34 (closed text)
string_token text = record {
  starts = refl;
  fits = λ rest p. string_fits text rest p;
  shut = λ rest p. no_sigil 34 (closed text ++ rest) refl;
  named = string_named (34 ∷ closed text);
  settled = λ behind. string_class (34 ∷ closed text) behind;
}

byte_string_unlabelled : (bs : List ℕ) → label_len (99 ∷ 34 ∷ bs) ≡ 0
unfolding label_len string_len has
byte_string_unlabelled bs = refl

no_word_behind : has WordBytes 34 ≡ false
unfolding has
no_word_behind = refl

byte_string_fits : (text rest : List ℕ) → best_fit (99 ∷ 34 ∷ (closed text ++ rest)) ≡ fit forms.CStr (suc (suc (length (closed text))))
byte_string_fits text rest =
    unlabelled (99 ∷ 34 ∷ (closed text ++ rest)) forms.CStr (suc (length (closed text))) (byte_string_unlabelled (closed text ++ rest))
    (word_fit 99 (34 ∷ (closed text ++ rest)) refl ∙ rw (no_word_behind, string_whole text rest, closed_length text) (grind (arith, common_steps)))

byte_string_class : (text behind : List ℕ) → kind_of forms.CStr text behind ≡ kind_of forms.CStr text []
unfolding kind_of
byte_string_class text behind = refl

byte_string_named : (text : List ℕ) → is_zero_name forms.CStr text ≡ false
unfolding is_zero_name
byte_string_named text = refl

pub byte_string_token : (text : List ℕ) → IsToken forms.CStr 99 (34 ∷ closed text)
byte_string_token text = record {
  starts = refl;
  fits = λ rest p. byte_string_fits text rest;
  shut = λ rest p. string_closed text rest;
  named = byte_string_named (99 ∷ 34 ∷ closed text);
  settled = λ behind. byte_string_class (99 ∷ 34 ∷ closed text) behind;
}

-- ---- marks

-- a mark is read as itself before anything, and is apart itself
pub record IsMark (c : ℕ) : Type 0 where
  pub starts : pass false c ≡ None
  pub fits : (rest : List ℕ) → best_fit (c ∷ rest) ≡ fit forms.Other 1
  pub shut : (rest : List ℕ) → opens (c ∷ rest) ≡ false
  pub settled : (behind : List ℕ) → kind_of forms.Other (c ∷ []) behind ≡ kind_of forms.Other (c ∷ []) []
  pub apart : IsApart c

pub mark_named : (text : List ℕ) → is_zero_name forms.Other text ≡ false
unfolding is_zero_name
mark_named text = refl

pub open_paren : IsMark 40
unfolding best_fit rest_fit label_len number_len word_len name_len meta_len dots_len other_len string_len has kind_of mark_kind
open_paren = record { starts = refl; fits = λ rest. refl; shut = λ rest. refl; settled = λ behind. refl; apart = record { no_label = refl; no_colon = refl; no_quote = refl } }

pub close_paren : IsMark 41
unfolding best_fit rest_fit label_len number_len word_len name_len meta_len dots_len other_len string_len has kind_of mark_kind
close_paren = record { starts = refl; fits = λ rest. refl; shut = λ rest. refl; settled = λ behind. refl; apart = record { no_label = refl; no_colon = refl; no_quote = refl } }

pub comma_mark : IsMark 44
unfolding best_fit rest_fit label_len number_len word_len name_len meta_len dots_len other_len string_len has kind_of mark_kind
comma_mark = record { starts = refl; fits = λ rest. refl; shut = λ rest. refl; settled = λ behind. refl; apart = record { no_label = refl; no_colon = refl; no_quote = refl } }

pub open_angle : IsMark 60
unfolding best_fit rest_fit label_len number_len word_len name_len meta_len dots_len other_len string_len has kind_of mark_kind
open_angle = record { starts = refl; fits = λ rest. refl; shut = λ rest. refl; settled = λ behind. refl; apart = record { no_label = refl; no_colon = refl; no_quote = refl } }

pub equals_mark : IsMark 61
unfolding best_fit rest_fit label_len number_len word_len name_len meta_len dots_len other_len string_len has kind_of mark_kind
equals_mark = record { starts = refl; fits = λ rest. refl; shut = λ rest. refl; settled = λ behind. refl; apart = record { no_label = refl; no_colon = refl; no_quote = refl } }

pub close_angle : IsMark 62
unfolding best_fit rest_fit label_len number_len word_len name_len meta_len dots_len other_len string_len has kind_of mark_kind
close_angle = record { starts = refl; fits = λ rest. refl; shut = λ rest. refl; settled = λ behind. refl; apart = record { no_label = refl; no_colon = refl; no_quote = refl } }

pub open_bracket : IsMark 91
unfolding best_fit rest_fit label_len number_len word_len name_len meta_len dots_len other_len string_len has kind_of mark_kind
open_bracket = record { starts = refl; fits = λ rest. refl; shut = λ rest. refl; settled = λ behind. refl; apart = record { no_label = refl; no_colon = refl; no_quote = refl } }

pub close_bracket : IsMark 93
unfolding best_fit rest_fit label_len number_len word_len name_len meta_len dots_len other_len string_len has kind_of mark_kind
close_bracket = record { starts = refl; fits = λ rest. refl; shut = λ rest. refl; settled = λ behind. refl; apart = record { no_label = refl; no_colon = refl; no_quote = refl } }

pub open_brace : IsMark 123
unfolding best_fit rest_fit label_len number_len word_len name_len meta_len dots_len other_len string_len has kind_of mark_kind
open_brace = record { starts = refl; fits = λ rest. refl; shut = λ rest. refl; settled = λ behind. refl; apart = record { no_label = refl; no_colon = refl; no_quote = refl } }

pub close_brace : IsMark 125
unfolding best_fit rest_fit label_len number_len word_len name_len meta_len dots_len other_len string_len has kind_of mark_kind
close_brace = record { starts = refl; fits = λ rest. refl; shut = λ rest. refl; settled = λ behind. refl; apart = record { no_label = refl; no_colon = refl; no_quote = refl } }
