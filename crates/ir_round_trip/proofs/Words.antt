-- Words and marks that are read as tokens of their classes: one line each.
use Rattle.std.proofs.Common.{ℕ, List, [], codes, refl}
use Rattle.ir_lex.specs.TokenKinds.{kind_of, mark_kind, word_kind, listed_kind, words_1, words_2, words_3, words_4, words_5, words_6, words_7, words_13}
use Rattle.ir_lex.specs.declared.token_kind.TokenKind.TheVariants as kinds
use Rattle.ir_lex.specs.declared.token.TokenForm.TheVariants as forms
use Rattle.ir_print.specs.Tokens.{tight, word, mark, comma}
use Rattle.ir_parse_parts.specs.Classes.{the}
use Rattle.ir_round_trip.specs.Reads.{Parses, Any}
use Rattle.ir_round_trip.proofs.Tokens.{the_read}

-- ---- marks

pub comma_read : Parses (the kinds.Comma) Any comma
unfolding kind_of mark_kind
comma_read = the_read kinds.Comma tight forms.Other 44 [] refl

pub open_paren_read : (blank : List ℕ) → Parses (the kinds.OpenParen) Any (mark blank 40)
unfolding kind_of mark_kind
open_paren_read blank = the_read kinds.OpenParen blank forms.Other 40 [] refl

pub close_paren_read : (blank : List ℕ) → Parses (the kinds.CloseParen) Any (mark blank 41)
unfolding kind_of mark_kind
close_paren_read blank = the_read kinds.CloseParen blank forms.Other 41 [] refl

pub open_bracket_read : (blank : List ℕ) → Parses (the kinds.OpenBracket) Any (mark blank 91)
unfolding kind_of mark_kind
open_bracket_read blank = the_read kinds.OpenBracket blank forms.Other 91 [] refl

pub close_bracket_read : (blank : List ℕ) → Parses (the kinds.CloseBracket) Any (mark blank 93)
unfolding kind_of mark_kind
close_bracket_read blank = the_read kinds.CloseBracket blank forms.Other 93 [] refl

pub open_brace_read : (blank : List ℕ) → Parses (the kinds.OpenBrace) Any (mark blank 123)
unfolding kind_of mark_kind
open_brace_read blank = the_read kinds.OpenBrace blank forms.Other 123 [] refl

pub close_brace_read : (blank : List ℕ) → Parses (the kinds.CloseBrace) Any (mark blank 125)
unfolding kind_of mark_kind
close_brace_read blank = the_read kinds.CloseBrace blank forms.Other 125 [] refl

pub close_angle_read : (blank : List ℕ) → Parses (the kinds.CloseAngle) Any (mark blank 62)
unfolding kind_of mark_kind
close_angle_read blank = the_read kinds.CloseAngle blank forms.Other 62 [] refl

pub equals_read : (blank : List ℕ) → Parses (the kinds.Equals) Any (mark blank 61)
unfolding kind_of mark_kind
equals_read blank = the_read kinds.Equals blank forms.Other 61 [] refl

-- ---- words

pub times_read : (blank : List ℕ) → Parses (the kinds.Times) Any (word blank (codes "x"))
unfolding kind_of word_kind listed_kind words_1
times_read blank = the_read kinds.Times blank forms.Word 120 [] refl

pub to_read : (blank : List ℕ) → Parses (the kinds.To) Any (word blank (codes "to"))
unfolding kind_of word_kind listed_kind words_2
to_read blank = the_read kinds.To blank forms.Word _ _ refl

pub align_read : (blank : List ℕ) → Parses (the kinds.Align) Any (word blank (codes "align"))
unfolding kind_of word_kind listed_kind words_5
align_read blank = the_read kinds.Align blank forms.Word _ _ refl

pub label_read : (blank : List ℕ) → Parses (the kinds.LabelType) Any (word blank (codes "label"))
unfolding kind_of word_kind listed_kind words_5
label_read blank = the_read kinds.LabelType blank forms.Word _ _ refl

pub exact_read : (blank : List ℕ) → Parses (the kinds.Exact) Any (word blank (codes "exact"))
unfolding kind_of word_kind listed_kind words_5
exact_read blank = the_read kinds.Exact blank forms.Word _ _ refl

pub address_word_read : (blank : List ℕ) → Parses (the kinds.GetElementPtr) Any (word blank (codes "getelementptr"))
unfolding kind_of word_kind listed_kind words_13
address_word_read blank = the_read kinds.GetElementPtr blank forms.Word _ _ refl

pub icmp_read : (blank : List ℕ) → Parses (the kinds.Icmp) Any (word blank (codes "icmp"))
unfolding kind_of word_kind listed_kind words_4
icmp_read blank = the_read kinds.Icmp blank forms.Word _ _ refl

pub select_read : (blank : List ℕ) → Parses (the kinds.Select) Any (word blank (codes "select"))
unfolding kind_of word_kind listed_kind words_6
select_read blank = the_read kinds.Select blank forms.Word _ _ refl

pub freeze_read : (blank : List ℕ) → Parses (the kinds.Freeze) Any (word blank (codes "freeze"))
unfolding kind_of word_kind listed_kind words_6
freeze_read blank = the_read kinds.Freeze blank forms.Word _ _ refl

pub alloca_read : (blank : List ℕ) → Parses (the kinds.Alloca) Any (word blank (codes "alloca"))
unfolding kind_of word_kind listed_kind words_6
alloca_read blank = the_read kinds.Alloca blank forms.Word _ _ refl

pub load_read : (blank : List ℕ) → Parses (the kinds.Load) Any (word blank (codes "load"))
unfolding kind_of word_kind listed_kind words_4
load_read blank = the_read kinds.Load blank forms.Word _ _ refl

pub store_read : (blank : List ℕ) → Parses (the kinds.Store) Any (word blank (codes "store"))
unfolding kind_of word_kind listed_kind words_5
store_read blank = the_read kinds.Store blank forms.Word _ _ refl

pub phi_read : (blank : List ℕ) → Parses (the kinds.Phi) Any (word blank (codes "phi"))
unfolding kind_of word_kind listed_kind words_3
phi_read blank = the_read kinds.Phi blank forms.Word _ _ refl

pub call_read : (blank : List ℕ) → Parses (the kinds.Call) Any (word blank (codes "call"))
unfolding kind_of word_kind listed_kind words_4
call_read blank = the_read kinds.Call blank forms.Word _ _ refl

pub declare_read : (blank : List ℕ) → Parses (the kinds.Declare) Any (word blank (codes "declare"))
unfolding kind_of word_kind listed_kind words_7
declare_read blank = the_read kinds.Declare blank forms.Word _ _ refl

pub define_read : (blank : List ℕ) → Parses (the kinds.Define) Any (word blank (codes "define"))
unfolding kind_of word_kind listed_kind words_6
define_read blank = the_read kinds.Define blank forms.Word _ _ refl
