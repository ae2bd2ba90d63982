-- Pieces one behind another that are read as their tokens.
use Rattle.std.proofs.Common.{◌≡◌, ℕ, suc, Bool, true, false, ◌&&◌, None, List, [], ◌∷◌, ◌++◌, length, refl, sym, ap, subst, ◌∙◌, append_assoc, decimal}
use Rattle.std.specs.List.{list_all}
use Rattle.ir_lex.specs.Blanks.{pass}
use Rattle.ir_lex.specs.Bytes.{starts_word, has}
use Rattle.ir_lex.specs.TokenKinds.{kind_of}
use Rattle.ir_lex.specs.Lexing.{is_bad}
use Rattle.ir_lex.specs.Pieces.{Piece, AllBlank, bytes_of}
use Rattle.ir_lex.specs.Rows.{best_fit, fit}
use Rattle.ir_lex.specs.declared.bytes.Set.{Set}
use Rattle.ir_lex.specs.declared.bytes.Set.TheVariants.{WordBytes}
use Rattle.ir_lex.specs.declared.token.TokenForm.TheVariants as forms
use Rattle.ir_lex.proofs.Spelled.{AllIn}
use Rattle.ir_tree.specs.Names.{quoted}
use Rattle.ir_print.specs.Tokens.{tight, space, next_line, indent, piece, word, mark, comma, local, global, width, natural, label_line, closed, string, byte_string}
use Rattle.ir_round_trip.specs.Printable.{IsName}
use Rattle.ir_round_trip.proofs.Apart.{Apart, blank_apart}
use Rattle.ir_round_trip.proofs.Numbers.{numeral}
use Rattle.ir_round_trip.proofs.Single.{IsToken, IsMark, good, word_token, width_token, digits_token, local_token, global_token, label_token, string_token, byte_string_token, negative_token, mark_named, comma_mark}

-- a piece is read as its token before these bytes, and the token is of one class whatever stands behind it
pub record ReadsAs (p : Piece) (rest : List ℕ) : Type 0 where
  pub blank : AllBlank p.blank
  pub starts : pass false p.first ≡ None
  pub fits : best_fit (p.first ∷ (p.others ++ rest)) ≡ fit p.form (suc (length p.others))
  pub good : is_bad (p.first ∷ (p.others ++ rest)) ≡ false
  pub settled : (behind : List ℕ) → kind_of p.form (p.first ∷ p.others) behind ≡ kind_of p.form (p.first ∷ p.others) []

-- so is each of these, where these bytes stand behind the last
abbrev pub AllRead : List ℕ → List Piece → Type 0
AllRead rest [] = Unit {0}
AllRead rest (p ∷ ps) = ReadsAs p (bytes_of ps ++ rest) × AllRead rest ps

abbrev pub FreeIf : Bool → List ℕ → Type 0
FreeIf true bytes = Apart bytes
FreeIf false bytes = Unit {0}

-- pieces that are read as their tokens before what is apart; free ones are apart themselves, so they may stand behind any
pub record Fits (free : Bool) (ps : List Piece) : Type 0 where
  pub read : (rest : List ℕ) → Apart rest → AllRead rest ps
  pub front : (rest : List ℕ) → Apart rest → FreeIf free (bytes_of ps ++ rest)

-- ---- one behind another

bytes_append : (ps qs : List Piece) → bytes_of (ps ++ qs) ≡ bytes_of ps ++ bytes_of qs
bytes_append [] qs = refl
bytes_append (p ∷ ps) qs =
    ap (λ (x : List ℕ). p.blank ++ (p.first ∷ p.others ++ x)) (bytes_append ps qs)
    ∙ ap (λ (x : List ℕ). p.blank ++ (p.first ∷ x)) (sym (append_assoc p.others (bytes_of ps) (bytes_of qs)))
    ∙ sym (append_assoc p.blank (p.first ∷ p.others ++ bytes_of ps) (bytes_of qs))

bytes_before : (ps qs : List Piece) (rest : List ℕ) → bytes_of (ps ++ qs) ++ rest ≡ bytes_of ps ++ (bytes_of qs ++ rest)
bytes_before ps qs rest = ap (λ (x : List ℕ). x ++ rest) (bytes_append ps qs) ∙ append_assoc (bytes_of ps) (bytes_of qs) rest

read_append : (ps qs : List Piece) (rest : List ℕ) → AllRead (bytes_of qs ++ rest) ps → AllRead rest qs → AllRead rest (ps ++ qs)
read_append [] qs rest s t = t
read_append (p ∷ ps) qs rest s t = (subst (ReadsAs p) (sym (bytes_before ps qs rest)) s.0, read_append ps qs rest s.1 t)

pub then : {free : Bool} {ps qs : List Piece} → Fits free ps → Fits true qs → Fits free (ps ++ qs)
then {free} {ps} {qs} f g = record {
  read = λ rest a. read_append ps qs rest (f.read (bytes_of qs ++ rest) (g.front rest a)) (g.read rest a);
  front = λ rest a. subst (FreeIf free) (sym (bytes_before ps qs rest)) (f.front (bytes_of qs ++ rest) (g.front rest a));
}

pub nothing : Fits true []
nothing = record { read = λ rest a. tt; front = λ rest a. a }

-- what may stand behind anything may stand behind what it has to
pub weaker : (free : Bool) {ps : List Piece} → Fits true ps → Fits free ps
weaker true f = f
weaker false f = record { read = f.read; front = λ rest a. tt }

-- ---- blanks

pub spaced : AllBlank space
spaced = (refl, tt)

pub lined : AllBlank next_line
lined = (refl, tt)

pub indented : AllBlank indent
indented = (refl, (refl, (refl, tt)))

abbrev pub is_free : List ℕ → Bool
is_free [] = false
is_free (b ∷ bs) = true

free_behind : (blank bytes rest : List ℕ) → AllBlank blank → FreeIf (is_free blank) ((blank ++ bytes) ++ rest)
free_behind [] bytes rest a = tt
free_behind (b ∷ bs) bytes rest a = blank_apart b a.0

-- ---- single tokens

pub one : (p : Piece) → AllBlank p.blank → IsToken p.form p.first p.others → Fits (is_free p.blank) (p ∷ [])
one p b t = record {
  read = λ rest a. (
    record {
      blank = b;
      starts = t.starts;
      fits = t.fits rest a;
      good = good p.form p.first p.others rest (t.fits rest a) (t.shut rest a) t.named;
      settled = t.settled;
    },
    tt,
  );
  front = λ rest a. free_behind p.blank (p.first ∷ p.others ++ []) rest b;
}

mark_read : (blank : List ℕ) (c : ℕ) (rest : List ℕ) → AllBlank blank → IsMark c → AllRead rest (mark blank c)
mark_read blank c rest b m = (
  record {
    blank = b;
    starts = m.starts;
    fits = m.fits rest;
    good = good forms.Other c [] rest (m.fits rest) (m.shut rest) (mark_named (c ∷ []));
    settled = m.settled;
  },
  tt,
)

mark_free : (blank : List ℕ) (c : ℕ) (bytes : List ℕ) → AllBlank blank → IsMark c → Apart ((blank ++ (c ∷ [])) ++ bytes)
mark_free [] c bytes b m = m.apart
mark_free (x ∷ xs) c bytes b m = blank_apart x b.0

pub marked : (blank : List ℕ) (c : ℕ) → AllBlank blank → IsMark c → Fits true (mark blank c)
marked blank c b m = record { read = λ rest a. mark_read blank c rest b m; front = λ rest a. mark_free blank c rest b m }

-- ---- behind a mark anything may stand

-- pieces that are read as their tokens before anything, as they end with a mark
pub record Shut (ps : List Piece) : Type 0 where
  pub read : (rest : List ℕ) → AllRead rest ps
  pub front : (rest : List ℕ) → Apart (bytes_of ps ++ rest)

pub mark_shut : (blank : List ℕ) (c : ℕ) → AllBlank blank → IsMark c → Shut (mark blank c)
mark_shut blank c b m = record { read = λ rest. mark_read blank c rest b m; front = λ rest. mark_free blank c rest b m }

pub shut_by : {ps qs : List Piece} → Fits true ps → Shut qs → Shut (ps ++ qs)
shut_by {ps} {qs} f g = record {
  read = λ rest. read_append ps qs rest (f.read (bytes_of qs ++ rest) (g.front rest)) (g.read rest);
  front = λ rest. subst Apart (sym (bytes_before ps qs rest)) (f.front (bytes_of qs ++ rest) (g.front rest));
}

pub behind_shut : {free : Bool} {ps qs : List Piece} → Shut ps → Fits free qs → Fits true (ps ++ qs)
behind_shut {ps = ps} {qs = qs} f g = record {
  read = λ rest a. read_append ps qs rest (f.read (bytes_of qs ++ rest)) (g.read rest a);
  front = λ rest a. subst Apart (sym (bytes_before ps qs rest)) (f.front (bytes_of qs ++ rest));
}

pub opened : (blank : List ℕ) (c : ℕ) {free : Bool} {ps : List Piece} → AllBlank blank → IsMark c → Fits free ps → Fits true (mark blank c ++ ps)
opened blank c b m f = behind_shut (mark_shut blank c b m) f

pub comma_fits : Fits true comma
comma_fits = marked tight 44 tt comma_mark

-- ---- words

abbrev pub is_keyword : List ℕ → Bool
is_keyword [] = false
is_keyword (c ∷ cs) = starts_word c && list_all (has WordBytes) cs

both : (a b : Bool) → a && b ≡ true → (a ≡ true) × (b ≡ true)
both true b h = (refl, h)
both false b h = absurd cc

all_in : (set : Set) (xs : List ℕ) → list_all (has set) xs ≡ true → AllIn set xs
all_in set [] h = tt
all_in set (x ∷ xs) h = let s = both (has set x) _ h in (s.0, all_in set xs s.1)

pub keyword : (blank text : List ℕ) → AllBlank blank → is_keyword text ≡ true → Fits (is_free blank) (word blank text)
keyword blank [] b h = absurd cc
keyword blank (c ∷ cs) b h =
    let s = both (starts_word c) _ h in
    one (record { blank = blank; form = forms.Word; first = c; others = cs }) b (word_token c cs s.0 (all_in WordBytes cs s.1))

pub width_fits : (blank : List ℕ) (w : ℕ) → AllBlank blank → Fits (is_free blank) (width blank w)
width_fits blank w b = one (record { blank = blank; form = forms.Word; first = 105; others = decimal w }) b (width_token w)

-- ---- numbers, names and strings

pub natural_fits : (blank : List ℕ) (n : ℕ) → AllBlank blank → Fits (is_free blank) (natural blank n)
natural_fits blank n b =
    let t = numeral n in
    subst (λ (text : List ℕ). Fits (is_free blank) (piece blank forms.Number text)) (sym t.whole)
    (one (record { blank = blank; form = forms.Number; first = t.first; others = t.others }) b (digits_token t.first t.others t.digits))

-- a minus and digits
pub negative_fits : (blank : List ℕ) (n : ℕ) → AllBlank blank → Fits (is_free blank) (piece blank forms.Number (45 ∷ decimal n))
negative_fits blank n b = one (record { blank = blank; form = forms.Number; first = 45; others = decimal n }) b (negative_token n)

pub local_fits : (blank : List ℕ) (n : ℕ) → AllBlank blank → Fits (is_free blank) (local blank n)
local_fits blank n b = one (record { blank = blank; form = forms.Local; first = 37; others = decimal n }) b (local_token n)

pub label_fits : (n : ℕ) → Fits true (label_line n)
label_fits n =
    let t = numeral n in
    subst (λ (text : List ℕ). Fits true (piece next_line forms.Label (text ++ 58 ∷ []))) (sym t.whole)
    (one (record { blank = next_line; form = forms.Label; first = t.first; others = t.others ++ 58 ∷ [] }) lined (label_token t.first t.others t.digits))

pub global_fits : (blank name : List ℕ) → AllBlank blank → IsName name → Fits (is_free blank) (global blank name)
global_fits blank name b n = one (record { blank = blank; form = forms.Global; first = 64; others = quoted name }) b (global_token name n)

pub string_fits : (blank text : List ℕ) → AllBlank blank → Fits (is_free blank) (string blank text)
string_fits blank text b = one (record { blank = blank; form = forms.Str; first = 34; others = closed text }) b (string_token text)

pub byte_string_fits : (blank text : List ℕ) → AllBlank blank → Fits (is_free blank) (byte_string blank text)
byte_string_fits blank text b = one (record { blank = blank; form = forms.CStr; first = 99; others = 34 ∷ closed text }) b (byte_string_token text)
