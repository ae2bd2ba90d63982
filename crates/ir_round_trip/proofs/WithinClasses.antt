-- A token of the class of a global's name is one of that kind.
use Rattle.std.proofs.Common.{◌≡◌, ℕ, nat_eq, Bool, true, false, List, [], ◌∷◌, length, refl, sym, ◌∙◌, if◌then◌else◌}
use Rattle.ir_lex.specs.TokenKinds.{kind_of, integer_kind, listed_kind, mark_kind, number, width_kind, word_kind, words_1, words_2, words_3, words_4, words_5, words_6, words_7, words_8, words_9, words_10, words_11, words_12, words_13, words_14, words_15, words_18, words_20, words_21, words_22, words_23}
use Rattle.ir_lex.specs.declared.token_kind.TokenKind.{TokenKind}
use Rattle.ir_lex.specs.declared.token_kind.TokenKind.TheVariants as kinds
use Rattle.ir_lex.specs.declared.token.TokenForm.{TokenForm}
use Rattle.ir_lex.specs.declared.token.TokenForm.TheVariants as forms
use Rattle.ir_parse_parts.specs.Alphabet.{contains}
use Rattle.ir_parse_operands.specs.Values.{GLOBAL}

-- no class of a name
record Other (h : TokenKind) : Type 0 where
  not : contains GLOBAL (number h) ≡ false

other : (h : TokenKind) → contains GLOBAL (number h) ≡ false → Other h
other h o = record { not = o }

-- a row of a table, and those below it
row : (b : Bool) (x y : TokenKind) → Other x → Other y → Other (if b then x else y)
row true x y h k = h
row false x y h k = k

-- ---- words, by how many bytes they have

write_1 : (text : List ℕ) → Other (words_1 text)
unfolding words_1
write_1 text = search (row, other) depth 11 fits 3000

write_2 : (text : List ℕ) → Other (words_2 text)
unfolding words_2
write_2 text = search (row, other) depth 22 fits 3000

write_3 : (text : List ℕ) → Other (words_3 text)
unfolding words_3
write_3 text = search (row, other) depth 34 fits 3000

write_4 : (text : List ℕ) → Other (words_4 text)
unfolding words_4
write_4 text = search (row, other) depth 39 fits 3000

write_5 : (text : List ℕ) → Other (words_5 text)
unfolding words_5
write_5 text = search (row, other) depth 31 fits 3000

write_6 : (text : List ℕ) → Other (words_6 text)
unfolding words_6
write_6 text = search (row, other) depth 42 fits 3000

write_7 : (text : List ℕ) → Other (words_7 text)
unfolding words_7
write_7 text = search (row, other) depth 26 fits 3000

write_8 : (text : List ℕ) → Other (words_8 text)
unfolding words_8
write_8 text = search (row, other) depth 36 fits 3000

write_9 : (text : List ℕ) → Other (words_9 text)
unfolding words_9
write_9 text = search (row, other) depth 22 fits 3000

write_10 : (text : List ℕ) → Other (words_10 text)
unfolding words_10
write_10 text = search (row, other) depth 20 fits 3000

write_11 : (text : List ℕ) → Other (words_11 text)
unfolding words_11
write_11 text = search (row, other) depth 17 fits 3000

write_12 : (text : List ℕ) → Other (words_12 text)
unfolding words_12
write_12 text = search (row, other) depth 18 fits 3000

write_13 : (text : List ℕ) → Other (words_13 text)
unfolding words_13
write_13 text = search (row, other) depth 15 fits 3000

write_14 : (text : List ℕ) → Other (words_14 text)
unfolding words_14
write_14 text = search (row, other) depth 12 fits 3000

write_15 : (text : List ℕ) → Other (words_15 text)
unfolding words_15
write_15 text = search (row, other) depth 15 fits 3000

write_18 : (text : List ℕ) → Other (words_18 text)
unfolding words_18
write_18 text = search (row, other) depth 11 fits 3000

write_20 : (text : List ℕ) → Other (words_20 text)
unfolding words_20
write_20 text = search (row, other) depth 11 fits 3000

write_21 : (text : List ℕ) → Other (words_21 text)
unfolding words_21
write_21 text = search (row, other) depth 11 fits 3000

write_22 : (text : List ℕ) → Other (words_22 text)
unfolding words_22
write_22 text = search (row, other) depth 11 fits 3000

write_23 : (text : List ℕ) → Other (words_23 text)
unfolding words_23
write_23 text = search (row, other) depth 11 fits 3000

listed_write : (text : List ℕ) → Other (listed_kind text)
unfolding listed_kind
listed_write text = search (row, other, write_1, write_2, write_3, write_4, write_5, write_6, write_7, write_8, write_9, write_10, write_11, write_12, write_13, write_14, write_15, write_18, write_20, write_21, write_22, write_23) depth 30 fits 3000

-- ---- other words

width_write : (n : ℕ) → Other (width_kind n)
width_write n = search (row, other)

integer_write : (bs : List ℕ) → Other (integer_kind bs)
integer_write [] = other kinds.Word refl
integer_write (b ∷ ds) = search (row, other, width_write)

word_write : (text : List ℕ) → Other (word_kind text)
unfolding word_kind
word_write text = search (row, integer_write, listed_write)

-- ---- names and marks

mark_write : (text behind : List ℕ) → Other (mark_kind text behind)
unfolding mark_kind
mark_write text behind = search (row, other) depth 20 fits 2000

-- ---- tokens

meta_write : (text : List ℕ) → Other (if nat_eq (length text) 1 then kinds.Bang else kinds.Meta)
meta_write text = search (row, other)

clash : (h : TokenKind) → Other h → contains GLOBAL (number h) ≡ true → ⊥
clash h o c = by (sym o.not ∙ c)
  where
    by : false ≡ true → ⊥
    by e = cc

pub is_global : (kind : TokenForm) (text behind : List ℕ) → contains GLOBAL (number (kind_of kind text behind)) ≡ true → kind ≡ forms.Global
unfolding kind_of
is_global forms.Global text behind c = refl
is_global forms.Word text behind c = absurd (clash (word_kind text) (word_write text) c)
is_global forms.Other text behind c = absurd (clash (mark_kind text behind) (mark_write text behind) c)
is_global forms.Meta text behind c = absurd (clash (if nat_eq (length text) 1 then kinds.Bang else kinds.Meta) (meta_write text) c)
is_global forms.Label text behind c = absurd cc
is_global forms.Number text behind c = absurd cc
is_global forms.Local text behind c = absurd cc
is_global forms.Comdat text behind c = absurd cc
is_global forms.Group text behind c = absurd cc
is_global forms.Str text behind c = absurd cc
is_global forms.CStr text behind c = absurd cc
is_global forms.Dots text behind c = absurd cc
