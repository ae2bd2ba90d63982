-- The class of integers in memory is that of i8, i16, i32 and i64 alone.
use Rattle.std.proofs.Common.{◌≡◌, ℕ, max, min, nat_eq, Bool, true, false, inl, inr, List, [], ◌∷◌, drop, codes, refl, sym, subst, if◌then◌else◌}
use Rattle.std.specs.Str.{bytes_eq}
use Rattle.std.proofs.lemmas.Slice.Eq.{bytes_eq-Decides}
use Rattle.ir_lex.specs.TokenKinds.{global_kind, kind_of, integer_kind, listed_kind, mark_kind, name_kind, number, width_kind, width_of, word_kind, words_1, words_2, words_3, words_4, words_5, words_6, words_7, words_8, words_9, words_10, words_11, words_12, words_13, words_14, words_15, words_18, words_20, words_21, words_22, words_23}
use Rattle.ir_lex.specs.declared.token_kind.TokenKind.{TokenKind}
use Rattle.ir_lex.specs.declared.token_kind.TokenKind.TheVariants as kinds
use Rattle.ir_lex.specs.declared.token.TokenForm.{TokenForm}
use Rattle.ir_lex.specs.declared.token.TokenForm.TheVariants as forms
use Rattle.ir_tree.specs.Formed.{IsStored}

abbrev width_in : List ℕ → ℕ
width_in text = min 64 (max 1 (width_of (drop 1 text)))

-- a text of the class of integers in memory writes the width of one
pub record Writes (text : List ℕ) (h : TokenKind) : Type 0 where
  pub stored : nat_eq (number h) (number kinds.MemoryInteger) ≡ true → IsStored (width_in text)

other : (text : List ℕ) (h : TokenKind) → nat_eq (number h) (number kinds.MemoryInteger) ≡ false → Writes text h
other text h o = record { stored = λ e. absurd cc }

-- ---- tables of classes

-- a row, and those below it
row : (text : List ℕ) (b : Bool) (x y : TokenKind) → Writes text x → Writes text y → Writes text (if b then x else y)
row text true x y h k = h
row text false x y h k = k

width_row : (text : List ℕ) (b : Bool) (x y : TokenKind) → (b ≡ true → Writes text x) → Writes text y → Writes text (if b then x else y)
width_row text true x y h k = h refl
width_row text false x y h k = k

-- a text that is this word
is_word : (text word : List ℕ) → IsStored (width_in word) → bytes_eq text word ≡ true → Writes text kinds.MemoryInteger
is_word text word h e = record { stored = λ _. subst (λ (bs : List ℕ). IsStored (width_in bs)) (sym ((bytes_eq-Decides text word).0 e)) h }

-- ---- words, by how many bytes they have

write_1 : (text : List ℕ) → Writes text (words_1 text)
unfolding words_1
write_1 text = search (row, other) depth 11 fits 3000

write_2 : (text : List ℕ) → Writes text (words_2 text)
unfolding words_2
write_2 text = width_row text (bytes_eq text (codes "i8")) _ _ (is_word text (codes "i8") (inl refl)) (search (row, other) depth 20 fits 3000)

write_3 : (text : List ℕ) → Writes text (words_3 text)
unfolding words_3
write_3 text =
    width_row text (bytes_eq text (codes "i16")) _ _ (is_word text (codes "i16") (inr (inl refl)))
    (width_row text (bytes_eq text (codes "i32")) _ _ (is_word text (codes "i32") (inr (inr (inl refl))))
    (width_row text (bytes_eq text (codes "i64")) _ _ (is_word text (codes "i64") (inr (inr (inr refl)))) (search (row, other) depth 30 fits 3000)))

write_4 : (text : List ℕ) → Writes text (words_4 text)
unfolding words_4
write_4 text = search (row, other) depth 39 fits 3000

write_5 : (text : List ℕ) → Writes text (words_5 text)
unfolding words_5
write_5 text = search (row, other) depth 31 fits 3000

write_6 : (text : List ℕ) → Writes text (words_6 text)
unfolding words_6
write_6 text = search (row, other) depth 42 fits 3000

write_7 : (text : List ℕ) → Writes text (words_7 text)
unfolding words_7
write_7 text = search (row, other) depth 26 fits 3000

write_8 : (text : List ℕ) → Writes text (words_8 text)
unfolding words_8
write_8 text = search (row, other) depth 36 fits 3000

write_9 : (text : List ℕ) → Writes text (words_9 text)
unfolding words_9
write_9 text = search (row, other) depth 22 fits 3000

write_10 : (text : List ℕ) → Writes text (words_10 text)
unfolding words_10
write_10 text = search (row, other) depth 20 fits 3000

write_11 : (text : List ℕ) → Writes text (words_11 text)
unfolding words_11
write_11 text = search (row, other) depth 17 fits 3000

write_12 : (text : List ℕ) → Writes text (words_12 text)
unfolding words_12
write_12 text = search (row, other) depth 18 fits 3000

write_13 : (text : List ℕ) → Writes text (words_13 text)
unfolding words_13
write_13 text = search (row, other) depth 15 fits 3000

write_14 : (text : List ℕ) → Writes text (words_14 text)
unfolding words_14
write_14 text = search (row, other) depth 12 fits 3000

write_15 : (text : List ℕ) → Writes text (words_15 text)
unfolding words_15
write_15 text = search (row, other) depth 15 fits 3000

write_18 : (text : List ℕ) → Writes text (words_18 text)
unfolding words_18
write_18 text = search (row, other) depth 11 fits 3000

write_20 : (text : List ℕ) → Writes text (words_20 text)
unfolding words_20
write_20 text = search (row, other) depth 11 fits 3000

write_21 : (text : List ℕ) → Writes text (words_21 text)
unfolding words_21
write_21 text = search (row, other) depth 11 fits 3000

write_22 : (text : List ℕ) → Writes text (words_22 text)
unfolding words_22
write_22 text = search (row, other) depth 11 fits 3000

write_23 : (text : List ℕ) → Writes text (words_23 text)
unfolding words_23
write_23 text = search (row, other) depth 11 fits 3000

listed_write : (text : List ℕ) → Writes text (listed_kind text)
unfolding listed_kind
listed_write text = search (row, other, write_1, write_2, write_3, write_4, write_5, write_6, write_7, write_8, write_9, write_10, write_11, write_12, write_13, write_14, write_15, write_18, write_20, write_21, write_22, write_23) depth 30 fits 3000

-- ---- other words

width_write : (text : List ℕ) (n : ℕ) → Writes text (width_kind n)
width_write text n = search (row, other)

integer_write : (text bs : List ℕ) → Writes text (integer_kind bs)
integer_write text [] = other text kinds.Word refl
integer_write text (b ∷ ds) = search (row, other, width_write)

word_write : (text : List ℕ) → Writes text (word_kind text)
unfolding word_kind
word_write text = search (row, integer_write, listed_write)

-- ---- names and marks

name_write : (text name : List ℕ) → Writes text (name_kind name)
unfolding name_kind
name_write text name = search (row, other)

global_write : (text behind : List ℕ) → Writes text (global_kind text behind)
unfolding global_kind
global_write text behind = search (row, other, name_write)

mark_write : (text behind : List ℕ) → Writes text (mark_kind text behind)
unfolding mark_kind
mark_write text behind = search (row, other) depth 20 fits 2000

-- ---- tokens

pub class_writes : (kind : TokenForm) (text behind : List ℕ) → Writes text (kind_of kind text behind)
unfolding kind_of
class_writes forms.Word text behind = word_write text
class_writes forms.Global text behind = global_write text behind
class_writes forms.Meta text behind = search (row, other)
class_writes forms.Other text behind = mark_write text behind
class_writes forms.Label text behind = other text kinds.Label refl
class_writes forms.Number text behind = other text kinds.Number refl
class_writes forms.Local text behind = other text kinds.Local refl
class_writes forms.Comdat text behind = other text kinds.ComdatName refl
class_writes forms.Group text behind = other text kinds.Group refl
class_writes forms.Str text behind = other text kinds.Str refl
class_writes forms.CStr text behind = other text kinds.CStr refl
class_writes forms.Dots text behind = other text kinds.RefusedMark refl
