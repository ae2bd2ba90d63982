-- Names and strings as they are printed, and what they stand for.
use Rattle.std.proofs.Common.{◌≡◌, ℕ, suc, ◌+◌, ◌*◌, ◌/◌, ◌%◌, ◌<◌, Bool, true, false, cond, ◌&&◌, ◌||◌, not, nat_eq, Option, Some, None, List, [], ◌∷◌, ◌++◌, length, take, refl, sym, ap, ◌∙◌, append_assoc, arith}
use Rattle.std.proofs.lemmas.Grind.{common_steps}
use Rattle.std.specs.Char.{is_ascii_digit, is_digit, digit_value}
use Rattle.std.specs.List.{list_all}
use Rattle.ir_lex.specs.Bytes.{starts_name, has}
use Rattle.ir_lex.specs.Lexing.{is_open}
use Rattle.ir_lex.specs.Quotes as quotes
use Rattle.ir_lex.specs.Quotes.{content, has_zero, inside, is_zero_name, spelled_at, stripped, unescaped_behind}
use Rattle.ir_lex.specs.Rows.{name_len, string_len}
use Rattle.ir_lex.specs.declared.bytes.Set.TheVariants.{Digits, LabelBytes, Inside}
use Rattle.ir_lex.specs.declared.token.TokenForm.{TokenForm}
use Rattle.ir_lex.specs.declared.token.TokenForm.TheVariants as forms
use Rattle.ir_lex.proofs.Spelled.{AllIn, run_stops}
use Rattle.ir_tree.specs.Names.{is_bare, is_name_start, is_name_byte, hex_digit, is_plain, escaped, quoted, unquoted, AllBytes}
use Rattle.ir_tree.proofs.NamesAgain.{quoted_again}
use Rattle.ir_print.specs.Tokens.{closed}
use Rattle.ir_round_trip.specs.Printable.{IsName}
use Rattle.ir_round_trip.proofs.Apart.{Apart, ends_label, dropped, not_zero}

-- ---- between quotes

no_quote : (b : ℕ) → nat_eq b 34 ≡ false → not (nat_eq b 34) ≡ true
no_quote b h = ap not h

hex_no_quote : (d : ℕ) → nat_eq (hex_digit d) 34 ≡ false
hex_no_quote d = grind arith

plain_byte : (c : ℕ) → is_plain c ≡ true → (nat_eq c 34 ≡ false) × (nat_eq c 92 ≡ false)
plain_byte c h = (one c h, two c h)
  where
    one : (c : ℕ) → is_plain c ≡ true → nat_eq c 34 ≡ false
    one c h = grind arith

    two : (c : ℕ) → is_plain c ≡ true → nat_eq c 92 ≡ false
    two c h = grind arith

-- what is printed between quotes has none
pub escaped_inside : (text : List ℕ) → AllIn Inside (escaped text)
unfolding has
escaped_inside [] = tt
escaped_inside (c ∷ cs) = by_test (is_plain c) refl (escaped_inside cs)
  where
    by_test : (b : Bool) → is_plain c ≡ b → AllIn Inside (escaped cs) → AllIn Inside (cond b (c ∷ escaped cs) (92 ∷ hex_digit (c / 16) ∷ hex_digit (c % 16) ∷ escaped cs))
    by_test true e more = (no_quote c (plain_byte c e).0, more)
    by_test false e more = (refl, (no_quote (hex_digit (c / 16)) (hex_no_quote (c / 16)), (no_quote (hex_digit (c % 16)) (hex_no_quote (c % 16)), more)))

pub closed_before : (text rest : List ℕ) → closed text ++ rest ≡ escaped text ++ (34 ∷ rest)
closed_before text rest = append_assoc (escaped text) (34 ∷ []) rest

longer : (s : List ℕ) → length (s ++ 34 ∷ []) ≡ suc (length s)
longer [] = refl
longer (x ∷ xs) = ap suc (longer xs)

pub closed_length : (text : List ℕ) → length (closed text) ≡ suc (length (escaped text))
closed_length text = longer (escaped text)

-- a string is read up to its quote
pub string_whole : (text rest : List ℕ) → string_len (34 ∷ (closed text ++ rest)) ≡ suc (suc (length (escaped text)))
unfolding string_len has
string_whole text rest =
    rw (closed_before text rest, run_stops Inside (escaped text) (34 ∷ rest) (escaped_inside text) refl, dropped (escaped text) (34 ∷ rest)) refl

pub string_closed : (text rest : List ℕ) → is_open (34 ∷ (closed text ++ rest)) ≡ false
string_closed text rest = rw (string_whole text rest) (not_zero (suc (length (escaped text)))).0

-- ---- what is between quotes

taken : (x : ℕ) (xs : List ℕ) → take (length (xs ++ 34 ∷ [])) (x ∷ (xs ++ 34 ∷ [])) ≡ x ∷ xs
taken x [] = refl
taken x (y ∷ ys) = ap (λ (more : List ℕ). x ∷ more) (taken y ys)

between : (s : List ℕ) → inside (34 ∷ (s ++ 34 ∷ [])) ≡ Some s
between [] = refl
between (x ∷ xs) = ap (λ (s : List ℕ). Some s) (taken x xs)

pub bare_inside : (c : ℕ) (cs : List ℕ) → nat_eq c 34 ≡ false → inside (c ∷ cs) ≡ None
bare_inside c [] h = refl
bare_inside c (d ∷ ds) h = rw h refl

-- ---- what an escape stands for

record IsDigit (d : ℕ) : Type 0 where
  hex : is_digit (hex_digit d) 16 ≡ true
  value : digit_value (hex_digit d) ≡ d
  no_slash : nat_eq (hex_digit d) 92 ≡ false

digit : (d : ℕ) → d < 16 → IsDigit d
digit d lt = record { hex = one d lt; value = two d lt; no_slash = three d lt }
  where
    one : (d : ℕ) → d < 16 → is_digit (hex_digit d) 16 ≡ true
    one d lt = grind arith

    two : (d : ℕ) → d < 16 → digit_value (hex_digit d) ≡ d
    two d lt = grind arith

    three : (d : ℕ) → d < 16 → nat_eq (hex_digit d) 92 ≡ false
    three d lt = grind arith

parts : (c : ℕ) → c < 256 → (c / 16 < 16) × (c % 16 < 16) × (c / 16 * 16 + c % 16 ≡ c)
parts c lt = (omega arith, omega arith, omega arith)

said_step : (b : Bool) (c : ℕ) (s cs : List ℕ) → is_plain c ≡ b → c < 256 → unescaped_behind 0 s ≡ cs → unescaped_behind 0 (cond b (c ∷ s) (92 ∷ hex_digit (c / 16) ∷ hex_digit (c % 16) ∷ s)) ≡ c ∷ cs
said_step true c s cs e lt h = rw ((plain_byte c e).1, h) refl
said_step false c s cs e lt h =
    let p = parts c lt in
    let x = digit (c / 16) p.0 in
    let y = digit (c % 16) p.1 in
    rw (x.no_slash, x.hex, y.hex, x.value, y.value, p.2, h) refl

-- what is printed between quotes stands for what it was made of
pub said : (text : List ℕ) → AllBytes text → quotes.unescaped (escaped text) ≡ text
unfolding quotes.unescaped
said [] a = refl
said (c ∷ cs) a = said_step (is_plain c) c (escaped cs) cs refl a.0 (said cs a.1)

quoted_content : (kind : TokenForm) (text content_of : List ℕ) → stripped kind text ≡ 34 ∷ closed content_of → AllBytes content_of → content kind text ≡ content_of
unfolding content
quoted_content kind text s e a =
    ap (λ (o : Option (List ℕ)). elim o as (λ p. List ℕ) [ None ↦ stripped kind text | Some q ↦ quotes.unescaped q ]) (ap inside e ∙ between (escaped s)) ∙ said s a

pub string_content : (text : List ℕ) → AllBytes text → content forms.Str (34 ∷ closed text) ≡ text
string_content text a = quoted_content forms.Str (34 ∷ closed text) text refl a

pub byte_string_content : (text : List ℕ) → AllBytes text → content forms.CStr (99 ∷ 34 ∷ closed text) ≡ text
byte_string_content text a = quoted_content forms.CStr (99 ∷ 34 ∷ closed text) text refl a

-- ---- names of globals

-- a name as it is printed: it is read up to its end, isn't digits, and stands for itself
pub record NameText (name : List ℕ) : Type 0 where
  pub first : ℕ
  pub others : List ℕ
  pub whole : quoted name ≡ first ∷ others
  pub no_digit : has Digits first ≡ false
  pub long : (rest : List ℕ) → Apart rest → name_len (first ∷ (others ++ rest)) ≡ suc (length others)
  pub shut : (rest : List ℕ) → Apart rest → is_open (first ∷ (others ++ rest)) ≡ false
  pub named : is_zero_name forms.Global (64 ∷ first ∷ others) ≡ false
  pub means : content forms.Global (64 ∷ first ∷ others) ≡ name

start_is : (c : ℕ) → is_name_start c ≡ true → (starts_name c ≡ true) × (is_ascii_digit c ≡ false) × (nat_eq c 34 ≡ false)
start_is c h = (one c h, two c h, three c h)
  where
    one : (c : ℕ) → is_name_start c ≡ true → starts_name c ≡ true
    one c h = grind arith

    two : (c : ℕ) → is_name_start c ≡ true → is_ascii_digit c ≡ false
    two c h = grind arith

    three : (c : ℕ) → is_name_start c ≡ true → nat_eq c 34 ≡ false
    three c h = grind arith

others_in : (cs : List ℕ) → list_all is_name_byte cs ≡ true → AllIn LabelBytes cs
unfolding has
others_in [] h = tt
others_in (c ∷ cs) h = (one c (both (is_name_byte c) _ h).0, others_in cs (both (is_name_byte c) _ h).1)
  where
    one : (c : ℕ) → is_name_byte c ≡ true → starts_name c || is_ascii_digit c ≡ true
    one c h = grind arith

    both : (a b : Bool) → a && b ≡ true → (a ≡ true) × (b ≡ true)
    both true b h = (refl, h)
    both false b h = absurd cc

bare_whole : (c : ℕ) (cs : List ℕ) → is_name_start c ≡ true → list_all is_name_byte cs ≡ true → quoted (c ∷ cs) ≡ c ∷ cs
unfolding quoted
bare_whole c cs h i = rw (h, i) refl

bare_long : (c : ℕ) (cs rest : List ℕ) → is_name_start c ≡ true → AllIn LabelBytes cs → Apart rest → name_len (c ∷ (cs ++ rest)) ≡ suc (length cs)
unfolding name_len string_len has
bare_long c cs rest h a p =
    let s = start_is c h in
    rw (s.0, s.1, s.2, run_stops LabelBytes cs rest a (ends_label rest p)) (grind (arith, common_steps))

bare_shut : (c : ℕ) (bs : List ℕ) → nat_eq c 34 ≡ false → is_open (c ∷ bs) ≡ false
bare_shut c bs h = rw h refl

bare_named : (c : ℕ) (cs : List ℕ) → nat_eq c 34 ≡ false → is_zero_name forms.Global (64 ∷ c ∷ cs) ≡ false
unfolding is_zero_name
bare_named c cs h = rw (bare_inside c cs h) refl

bare_means : (c : ℕ) (cs : List ℕ) → nat_eq c 34 ≡ false → content forms.Global (64 ∷ c ∷ cs) ≡ c ∷ cs
unfolding content
bare_means c cs h = rw (bare_inside c cs h) refl

bare_no_digit : (c : ℕ) → is_name_start c ≡ true → has Digits c ≡ false
unfolding has
bare_no_digit c h = (start_is c h).1

bare_name : (c : ℕ) (cs : List ℕ) → is_name_start c ≡ true → list_all is_name_byte cs ≡ true → NameText (c ∷ cs)
bare_name c cs h i =
    let q = (start_is c h).2 in
    record {
      first = c;
      others = cs;
      whole = bare_whole c cs h i;
      no_digit = bare_no_digit c h;
      long = λ rest p. bare_long c cs rest h (others_in cs i) p;
      shut = λ rest p. bare_shut c (cs ++ rest) q;
      named = bare_named c cs q;
      means = bare_means c cs q;
    }

quoted_whole : (name : List ℕ) → is_bare name ≡ false → quoted name ≡ 34 ∷ closed name
unfolding quoted
quoted_whole name h = rw h refl

quoted_long : (name rest : List ℕ) → name_len (34 ∷ (closed name ++ rest)) ≡ suc (length (closed name))
unfolding name_len has
quoted_long name rest = rw (string_whole name rest, closed_length name) (grind (arith, common_steps))

quoted_named : (name : List ℕ) → IsName name → is_zero_name forms.Global (64 ∷ 34 ∷ closed name) ≡ false
unfolding is_zero_name
quoted_named name n = rw (between (escaped name), said name n.bytes) n.no_zero

no_digit : has Digits 34 ≡ false
unfolding has
no_digit = refl

quoted_name : (name : List ℕ) → IsName name → is_bare name ≡ false → NameText name
quoted_name name n h = record {
  first = 34;
  others = closed name;
  whole = quoted_whole name h;
  no_digit = no_digit;
  long = λ rest p. quoted_long name rest;
  shut = λ rest p. string_closed name rest;
  named = quoted_named name n;
  means = quoted_content forms.Global (64 ∷ 34 ∷ closed name) name refl n.bytes;
}

pub name_text : (name : List ℕ) → IsName name → NameText name
name_text [] n = quoted_name [] n refl
name_text (c ∷ cs) n = by_test (is_name_start c) (list_all is_name_byte cs) refl refl
  where
    by_test : (a b : Bool) → is_name_start c ≡ a → list_all is_name_byte cs ≡ b → NameText (c ∷ cs)
    by_test true true e f = bare_name c cs e f
    by_test true false e f = quoted_name (c ∷ cs) n (rw (e, f) refl)
    by_test false b e f = quoted_name (c ∷ cs) n (rw e refl)

pub name_content : (name : List ℕ) → IsName name → content forms.Global (64 ∷ quoted name) ≡ name
name_content name n =
    let t = name_text name n in
    ap (λ (text : List ℕ). content forms.Global (64 ∷ text)) t.whole ∙ t.means

-- both ways to read a name give the one that is printed
pub names_agree : (name : List ℕ) → IsName name → unquoted (quoted name) ≡ Some (content forms.Global (64 ∷ quoted name))
names_agree name n = quoted_again name n.bytes ∙ ap (λ (x : List ℕ). Some x) (sym (name_content name n))
