-- Single tokens: what each begins with, and one of each that some text has.
use Rattle.std.proofs.Common.{◌≡◌, ℕ, Bool, true, false, cond, List, [], ◌∷◌, Ok, refl}
use Rattle.std.specs.Prelude.{codes}
use Rattle.ir_lex.specs.Bytes.{has}
use Rattle.ir_lex.specs.declared.token_kind.TokenKind.TheVariants as kinds
use Rattle.ir_lex.specs.declared.token_kind.TokenKind.{TokenKind}
use Rattle.ir_lex.specs.declared.token.TokenForm.TheVariants as forms
use Rattle.ir_lex.specs.declared.token.TokenForm.{TokenForm}
use Rattle.ir_lex.specs.TokenKinds.{number, kind_of, mark_kind, word_kind, listed_kind, words_5, words_7, words_8, words_10}
use Rattle.ir_lex.specs.Lexing.{is_bad}
use Rattle.ir_lex.specs.Quotes.{is_zero_name}
use Rattle.ir_lex.specs.Rows.{best_fit, rest_fit, label_len, number_len, word_len, name_len, meta_len, dots_len, other_len, string_len}
use Rattle.ir_lex.specs.Tok.{Tok}
use Rattle.ir_parse_parts.specs.Alphabet.{contains, among}
use Rattle.ir_parse_parts.specs.declared.fault.TokenFault.{TokenFault}
use Rattle.ir_parse_parts.specs.declared.fault.TokenFault.TheVariants.{Syntax, Profile, Number, Limit}
use Rattle.ir_parse_parts.specs.Rules.{Rule, Opens, is_class}
use Rattle.ir_parse_parts.proofs.Rules as rules
use Rattle.ir_parse_parts.specs.Classes.{tokens, IsReal, REFUSED, refusal, the, the_at, one_of, one_of_at}

-- a token that stands alone on a line
abbrev pub sample : TokenForm → TokenKind → List ℕ → Tok
sample kind head text = record { form = kind; text = text; line = 1; kind = head; ends_line = false }

abbrev pub mark : TokenKind → List ℕ → Tok
mark = sample forms.Other

abbrev pub word : TokenKind → List ℕ → Tok
word = sample forms.Word

abbrev by_refused : Bool → TokenFault
by_refused b = cond b Profile Syntax

pub not_number : (n : ℕ) → refusal n ≡ Number → ⊥
not_number n e = by_test (contains REFUSED n) e
  where
    by_test : (b : Bool) → by_refused b ≡ Number → ⊥
    by_test true e = cc
    by_test false e = cc

pub not_limit : (n : ℕ) → refusal n ≡ Limit → ⊥
not_limit n e = by_test (contains REFUSED n) e
  where
    by_test : (b : Bool) → by_refused b ≡ Limit → ⊥
    by_test true e = cc
    by_test false e = cc

pub the_rule : (wanted : TokenKind) (t : Tok) → is_class tokens refusal (number wanted) t ≡ Ok tt → IsReal t → Rule tokens (the wanted) (the wanted) (the_at wanted) (number wanted ∷ []) [] false
the_rule wanted t e real = rules.class_rule tokens refusal not_number not_limit (number wanted) t e real

pub the_opens : (wanted : TokenKind) → Opens tokens (number wanted ∷ []) (the wanted)
the_opens wanted = rules.opens_class tokens refusal (number wanted)

pub one_rule : {A : Type 0} (classes : List ℕ) (value : Tok → A) (t : Tok) → among tokens classes t ≡ true → IsReal t → Rule tokens (one_of classes value) (one_of classes value) (one_of_at classes value) classes [] false
one_rule classes value t e real = rules.among_rule tokens refusal not_number not_limit classes value t e real

pub one_opens : {A : Type 0} (classes : List ℕ) (value : Tok → A) → Opens tokens classes (one_of classes value)
one_opens classes value = rules.opens_among tokens refusal classes value

-- ---- marks

pub comma_real : IsReal (mark kinds.Comma (codes ","))
unfolding best_fit rest_fit label_len number_len word_len name_len meta_len dots_len other_len string_len has is_bad is_zero_name kind_of mark_kind
comma_real = record { behind = []; some = refl; fits = refl; good = refl; class = refl }

pub comma_rule : Rule tokens (the kinds.Comma) (the kinds.Comma) (the_at kinds.Comma) (number kinds.Comma ∷ []) [] false
unfolding is_class
comma_rule = the_rule kinds.Comma (mark kinds.Comma (codes ",")) refl comma_real

pub equals_real : IsReal (mark kinds.Equals (codes "="))
unfolding best_fit rest_fit label_len number_len word_len name_len meta_len dots_len other_len string_len has is_bad is_zero_name kind_of mark_kind
equals_real = record { behind = []; some = refl; fits = refl; good = refl; class = refl }

pub equals_rule : Rule tokens (the kinds.Equals) (the kinds.Equals) (the_at kinds.Equals) (number kinds.Equals ∷ []) [] false
unfolding is_class
equals_rule = the_rule kinds.Equals (mark kinds.Equals (codes "=")) refl equals_real

pub open_paren_real : IsReal (mark kinds.OpenParen (codes "("))
unfolding best_fit rest_fit label_len number_len word_len name_len meta_len dots_len other_len string_len has is_bad is_zero_name kind_of mark_kind
open_paren_real = record { behind = []; some = refl; fits = refl; good = refl; class = refl }

pub open_paren_rule : Rule tokens (the kinds.OpenParen) (the kinds.OpenParen) (the_at kinds.OpenParen) (number kinds.OpenParen ∷ []) [] false
unfolding is_class
open_paren_rule = the_rule kinds.OpenParen (mark kinds.OpenParen (codes "(")) refl open_paren_real

pub close_paren_real : IsReal (mark kinds.CloseParen (codes ")"))
unfolding best_fit rest_fit label_len number_len word_len name_len meta_len dots_len other_len string_len has is_bad is_zero_name kind_of mark_kind
close_paren_real = record { behind = []; some = refl; fits = refl; good = refl; class = refl }

pub close_paren_rule : Rule tokens (the kinds.CloseParen) (the kinds.CloseParen) (the_at kinds.CloseParen) (number kinds.CloseParen ∷ []) [] false
unfolding is_class
close_paren_rule = the_rule kinds.CloseParen (mark kinds.CloseParen (codes ")")) refl close_paren_real

pub open_bracket_real : IsReal (mark kinds.OpenBracket (codes "["))
unfolding best_fit rest_fit label_len number_len word_len name_len meta_len dots_len other_len string_len has is_bad is_zero_name kind_of mark_kind
open_bracket_real = record { behind = []; some = refl; fits = refl; good = refl; class = refl }

pub open_bracket_rule : Rule tokens (the kinds.OpenBracket) (the kinds.OpenBracket) (the_at kinds.OpenBracket) (number kinds.OpenBracket ∷ []) [] false
unfolding is_class
open_bracket_rule = the_rule kinds.OpenBracket (mark kinds.OpenBracket (codes "[")) refl open_bracket_real

pub close_bracket_real : IsReal (mark kinds.CloseBracket (codes "]"))
unfolding best_fit rest_fit label_len number_len word_len name_len meta_len dots_len other_len string_len has is_bad is_zero_name kind_of mark_kind
close_bracket_real = record { behind = []; some = refl; fits = refl; good = refl; class = refl }

pub close_bracket_rule : Rule tokens (the kinds.CloseBracket) (the kinds.CloseBracket) (the_at kinds.CloseBracket) (number kinds.CloseBracket ∷ []) [] false
unfolding is_class
close_bracket_rule = the_rule kinds.CloseBracket (mark kinds.CloseBracket (codes "]")) refl close_bracket_real

pub open_brace_real : IsReal (mark kinds.OpenBrace (codes "{"))
unfolding best_fit rest_fit label_len number_len word_len name_len meta_len dots_len other_len string_len has is_bad is_zero_name kind_of mark_kind
open_brace_real = record { behind = []; some = refl; fits = refl; good = refl; class = refl }

pub open_brace_rule : Rule tokens (the kinds.OpenBrace) (the kinds.OpenBrace) (the_at kinds.OpenBrace) (number kinds.OpenBrace ∷ []) [] false
unfolding is_class
open_brace_rule = the_rule kinds.OpenBrace (mark kinds.OpenBrace (codes "{")) refl open_brace_real

pub close_brace_real : IsReal (mark kinds.CloseBrace (codes "}"))
unfolding best_fit rest_fit label_len number_len word_len name_len meta_len dots_len other_len string_len has is_bad is_zero_name kind_of mark_kind
close_brace_real = record { behind = []; some = refl; fits = refl; good = refl; class = refl }

pub close_brace_rule : Rule tokens (the kinds.CloseBrace) (the kinds.CloseBrace) (the_at kinds.CloseBrace) (number kinds.CloseBrace ∷ []) [] false
unfolding is_class
close_brace_rule = the_rule kinds.CloseBrace (mark kinds.CloseBrace (codes "}")) refl close_brace_real

pub open_angle_real : IsReal (mark kinds.OpenAngle (codes "<"))
unfolding best_fit rest_fit label_len number_len word_len name_len meta_len dots_len other_len string_len has is_bad is_zero_name kind_of mark_kind
open_angle_real = record { behind = []; some = refl; fits = refl; good = refl; class = refl }

pub open_angle_rule : Rule tokens (the kinds.OpenAngle) (the kinds.OpenAngle) (the_at kinds.OpenAngle) (number kinds.OpenAngle ∷ []) [] false
unfolding is_class
open_angle_rule = the_rule kinds.OpenAngle (mark kinds.OpenAngle (codes "<")) refl open_angle_real

pub close_angle_real : IsReal (mark kinds.CloseAngle (codes ">"))
unfolding best_fit rest_fit label_len number_len word_len name_len meta_len dots_len other_len string_len has is_bad is_zero_name kind_of mark_kind
close_angle_real = record { behind = []; some = refl; fits = refl; good = refl; class = refl }

pub close_angle_rule : Rule tokens (the kinds.CloseAngle) (the kinds.CloseAngle) (the_at kinds.CloseAngle) (number kinds.CloseAngle ∷ []) [] false
unfolding is_class
close_angle_rule = the_rule kinds.CloseAngle (mark kinds.CloseAngle (codes ">")) refl close_angle_real

-- ---- names, numbers and strings

pub number_real : IsReal (sample forms.Number kinds.Number (codes "1"))
unfolding best_fit rest_fit label_len number_len word_len name_len meta_len dots_len other_len string_len has is_bad is_zero_name kind_of
number_real = record { behind = []; some = refl; fits = refl; good = refl; class = refl }

pub number_rule : Rule tokens (the kinds.Number) (the kinds.Number) (the_at kinds.Number) (number kinds.Number ∷ []) [] false
unfolding is_class
number_rule = the_rule kinds.Number (sample forms.Number kinds.Number (codes "1")) refl number_real

pub meta_real : IsReal (sample forms.Meta kinds.Meta (codes "!a"))
unfolding best_fit rest_fit label_len number_len word_len name_len meta_len dots_len other_len string_len has is_bad is_zero_name kind_of
meta_real = record { behind = []; some = refl; fits = refl; good = refl; class = refl }

pub meta_rule : Rule tokens (the kinds.Meta) (the kinds.Meta) (the_at kinds.Meta) (number kinds.Meta ∷ []) [] false
unfolding is_class
meta_rule = the_rule kinds.Meta (sample forms.Meta kinds.Meta (codes "!a")) refl meta_real

pub bang_real : IsReal (sample forms.Meta kinds.Bang (codes "!"))
unfolding best_fit rest_fit label_len number_len word_len name_len meta_len dots_len other_len string_len has is_bad is_zero_name kind_of
bang_real = record { behind = []; some = refl; fits = refl; good = refl; class = refl }

pub bang_rule : Rule tokens (the kinds.Bang) (the kinds.Bang) (the_at kinds.Bang) (number kinds.Bang ∷ []) [] false
unfolding is_class
bang_rule = the_rule kinds.Bang (sample forms.Meta kinds.Bang (codes "!")) refl bang_real

pub group_name_real : IsReal (sample forms.Group kinds.Group (codes "#0"))
unfolding best_fit rest_fit label_len number_len word_len name_len meta_len dots_len other_len string_len has is_bad is_zero_name kind_of
group_name_real = record { behind = []; some = refl; fits = refl; good = refl; class = refl }

pub group_name_rule : Rule tokens (the kinds.Group) (the kinds.Group) (the_at kinds.Group) (number kinds.Group ∷ []) [] false
unfolding is_class
group_name_rule = the_rule kinds.Group (sample forms.Group kinds.Group (codes "#0")) refl group_name_real

pub string_real : IsReal (sample forms.Str kinds.Str (codes "\"\""))
unfolding best_fit rest_fit label_len number_len word_len name_len meta_len dots_len other_len string_len has is_bad is_zero_name kind_of
string_real = record { behind = []; some = refl; fits = refl; good = refl; class = refl }

pub string_rule : Rule tokens (the kinds.Str) (the kinds.Str) (the_at kinds.Str) (number kinds.Str ∷ []) [] false
unfolding is_class
string_rule = the_rule kinds.Str (sample forms.Str kinds.Str (codes "\"\"")) refl string_real

-- ---- words

pub align_real : IsReal (word kinds.Align (codes "align"))
unfolding best_fit rest_fit label_len number_len word_len name_len meta_len dots_len other_len string_len has is_bad is_zero_name kind_of word_kind listed_kind words_5
align_real = record { behind = []; some = refl; fits = refl; good = refl; class = refl }

pub align_rule : Rule tokens (the kinds.Align) (the kinds.Align) (the_at kinds.Align) (number kinds.Align ∷ []) [] false
unfolding is_class
align_rule = the_rule kinds.Align (word kinds.Align (codes "align")) refl align_real

pub parameter_word_real : IsReal (word kinds.ParameterWord (codes "noundef"))
unfolding best_fit rest_fit label_len number_len word_len name_len meta_len dots_len other_len string_len has is_bad is_zero_name kind_of word_kind listed_kind words_7
parameter_word_real = record { behind = []; some = refl; fits = refl; good = refl; class = refl }

pub parameter_word_rule : Rule tokens (the kinds.ParameterWord) (the kinds.ParameterWord) (the_at kinds.ParameterWord) (number kinds.ParameterWord ∷ []) [] false
unfolding is_class
parameter_word_rule = the_rule kinds.ParameterWord (word kinds.ParameterWord (codes "noundef")) refl parameter_word_real

pub parameter_group_real : IsReal (word kinds.ParameterGroup (codes "captures"))
unfolding best_fit rest_fit label_len number_len word_len name_len meta_len dots_len other_len string_len has is_bad is_zero_name kind_of word_kind listed_kind words_8
parameter_group_real = record { behind = []; some = refl; fits = refl; good = refl; class = refl }

pub parameter_group_rule : Rule tokens (the kinds.ParameterGroup) (the kinds.ParameterGroup) (the_at kinds.ParameterGroup) (number kinds.ParameterGroup ∷ []) [] false
unfolding is_class
parameter_group_rule = the_rule kinds.ParameterGroup (word kinds.ParameterGroup (codes "captures")) refl parameter_group_real

pub attributes_real : IsReal (word kinds.Attributes (codes "attributes"))
unfolding best_fit rest_fit label_len number_len word_len name_len meta_len dots_len other_len string_len has is_bad is_zero_name kind_of word_kind listed_kind words_10
attributes_real = record { behind = []; some = refl; fits = refl; good = refl; class = refl }

pub attributes_rule : Rule tokens (the kinds.Attributes) (the kinds.Attributes) (the_at kinds.Attributes) (number kinds.Attributes ∷ []) [] false
unfolding is_class
attributes_rule = the_rule kinds.Attributes (word kinds.Attributes (codes "attributes")) refl attributes_real
