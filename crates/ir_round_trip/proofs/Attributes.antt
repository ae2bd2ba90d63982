-- Printed attributes of a definition are read (LangRef, "Function Attributes").
use Rattle.std.proofs.Common.{◌≡◌, Bool, true, false, List, [], ◌∷◌, ◌++◌, codes, refl, ap, ◌∙◌}
use Rattle.std.specs.List.{fold}
use Rattle.ir_lex.specs.TokenKinds.{kind_of, word_kind, listed_kind, words_7, words_8}
use Rattle.ir_lex.specs.Pieces.{Piece}
use Rattle.ir_lex.specs.declared.token.TokenForm.TheVariants as forms
use Rattle.ir_print.specs.Functions.{attributes}
use Rattle.ir_print.specs.Tokens.{space, word, optional}
use Rattle.ir_parse_heads.specs.Attributes.{WORDS, kept_of, word_kept, word_tail, word_attribute, function_attribute, head_attribute, definition_attribute, definition_attributes, with_attribute, none_kept}
use Rattle.ir_parse_parts.specs.Classes.{refusal, one_of}
use Rattle.ir_parse_heads.specs.declared.attributes.Attribute.{Attribute}
use Rattle.ir_parse_heads.specs.declared.attributes.Attribute.TheVariants.{Noinline, Optnone}
use Rattle.ir_parse_heads.specs.declared.attributes.Kept.{Kept}
use Rattle.ir_tree.specs.declared.function.Function.{Function}
use Rattle.ir_parse_parts.specs.Forms.{Star}
use Rattle.ir_round_trip.specs.PartsPrinted.{IsKept}
use Rattle.ir_round_trip.specs.Reads.{Parses, Any}
use Rattle.ir_round_trip.proofs.Composed.{then, last, nothing, right, no_more, one_more}
use Rattle.ir_round_trip.proofs.Tokens.{single, by_classes}

-- a word, with nothing behind it
attribute_read : (v : Attribute) {ps : List Piece} → Parses (one_of WORDS word_kept) (λ a. a ≡ v) ps → Parses definition_attribute (λ a. a ≡ v) ps
unfolding definition_attribute head_attribute function_attribute word_attribute word_tail
attribute_read v r = right _ (right _ (right _ (right _ (last r (λ a e. then (right _ (right _ (nothing {P = Any} tt))) (λ b u. nothing e))))))

noinline_read : Parses (one_of WORDS word_kept) (λ a. a ≡ Noinline) (word space (codes "noinline"))
unfolding kind_of word_kind listed_kind words_8
noinline_read = single space forms.Word _ _ (by_classes refusal WORDS word_kept forms.Word (codes "noinline") refl (λ t i. ap kept_of i.kind))

optnone_read : Parses (one_of WORDS word_kept) (λ a. a ≡ Optnone) (word space (codes "optnone"))
unfolding kind_of word_kind listed_kind words_7
optnone_read = single space forms.Word _ _ (by_classes refusal WORDS word_kept forms.Word (codes "optnone") refl (λ t i. ap kept_of i.kind))

abbrev IsAll : List Attribute → List Attribute → Type 0
IsAll want all = all ≡ want

with_word : (v : Attribute) {want : List Attribute} {ps qs : List Piece} → Parses (one_of WORDS word_kept) (λ a. a ≡ v) ps → Parses (Star definition_attribute) (IsAll want) qs → Parses (Star definition_attribute) (IsAll (v ∷ want)) (ps ++ qs)
with_word v p q = one_more (attribute_read v p) q (λ a more e f. ap (λ (x : Attribute). x ∷ more) e ∙ ap (λ (xs : List Attribute). v ∷ xs) f)

no_words : Parses (Star definition_attribute) (IsAll []) []
no_words = no_more refl

kept_as : (k : Kept) {want : List Attribute} {ps : List Piece} → fold with_attribute none_kept want ≡ k → Parses (Star definition_attribute) (IsAll want) ps → Parses definition_attributes (λ x. x ≡ k) ps
unfolding definition_attributes
kept_as k e r = last r (λ all h. nothing (ap (fold with_attribute none_kept) h ∙ e))

both_read : (noinline optnone : Bool) → Parses definition_attributes (λ k. k ≡ record { noinline = noinline; optnone = optnone; groups = [] }) (optional (codes "noinline") noinline ++ optional (codes "optnone") optnone)
both_read true true = kept_as _ refl (with_word Noinline noinline_read (with_word Optnone optnone_read no_words))
both_read true false = kept_as _ refl (with_word Noinline noinline_read no_words)
both_read false true = kept_as _ refl (with_word Optnone optnone_read no_words)
both_read false false = kept_as _ refl no_words

pub attributes_read : (f : Function) → Parses definition_attributes (IsKept f) (attributes f)
attributes_read f = both_read f.noinline f.optnone
