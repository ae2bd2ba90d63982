-- Tokens that some text has, one of each class that the grammar of bodies asks for.
use Rattle.std.proofs.Common.{false, [], ◌∷◌, refl}
use Rattle.std.specs.Prelude.{codes}
use Rattle.ir_lex.specs.Bytes.{has}
use Rattle.ir_lex.specs.declared.token_kind.TokenKind.TheVariants as kinds
use Rattle.ir_lex.specs.declared.token.TokenForm.TheVariants as forms
use Rattle.ir_lex.specs.TokenKinds.{number, kind_of, word_kind, listed_kind, words_3, words_4, words_6, global_kind, name_kind}
use Rattle.ir_lex.specs.Lexing.{is_bad}
use Rattle.ir_lex.specs.Quotes.{is_zero_name, content, unescaped}
use Rattle.ir_lex.specs.Rows.{best_fit, rest_fit, label_len, number_len, word_len, name_len, meta_len, dots_len, other_len, string_len}
use Rattle.ir_parse_parts.specs.Rules.{Rule, is_class}
use Rattle.ir_parse_parts.specs.Classes.{tokens, IsReal, the, the_at}
use Rattle.ir_parse_parts.proofs.Singles.{sample, word, the_rule}

convention_real : IsReal (word kinds.CallingConvention (codes "ccc"))
unfolding best_fit rest_fit label_len number_len word_len name_len meta_len dots_len other_len string_len has is_bad is_zero_name kind_of word_kind listed_kind words_3
convention_real = record { behind = []; some = refl; fits = refl; good = refl; class = refl }

pub convention_word_rule : Rule tokens (the kinds.CallingConvention) (the kinds.CallingConvention) (the_at kinds.CallingConvention) (number kinds.CallingConvention ∷ []) [] false
unfolding is_class
convention_word_rule = the_rule kinds.CallingConvention (word kinds.CallingConvention (codes "ccc")) refl convention_real

marker_real : IsReal (sample forms.Global kinds.LifetimeMarker (codes "@llvm.lifetime.end.p0"))
unfolding best_fit rest_fit label_len number_len word_len name_len meta_len dots_len other_len string_len has is_bad is_zero_name kind_of global_kind name_kind content unescaped
marker_real = record { behind = []; some = refl; fits = refl; good = refl; class = refl }

pub marker_name_rule : Rule tokens (the kinds.LifetimeMarker) (the kinds.LifetimeMarker) (the_at kinds.LifetimeMarker) (number kinds.LifetimeMarker ∷ []) [] false
unfolding is_class
marker_name_rule = the_rule kinds.LifetimeMarker (sample forms.Global kinds.LifetimeMarker (codes "@llvm.lifetime.end.p0")) refl marker_real

call_real : IsReal (word kinds.Call (codes "call"))
unfolding best_fit rest_fit label_len number_len word_len name_len meta_len dots_len other_len string_len has is_bad is_zero_name kind_of word_kind listed_kind words_4
call_real = record { behind = []; some = refl; fits = refl; good = refl; class = refl }

pub call_word_rule : Rule tokens (the kinds.Call) (the kinds.Call) (the_at kinds.Call) (number kinds.Call ∷ []) [] false
unfolding is_class
call_word_rule = the_rule kinds.Call (word kinds.Call (codes "call")) refl call_real

define_real : IsReal (word kinds.Define (codes "define"))
unfolding best_fit rest_fit label_len number_len word_len name_len meta_len dots_len other_len string_len has is_bad is_zero_name kind_of word_kind listed_kind words_6
define_real = record { behind = []; some = refl; fits = refl; good = refl; class = refl }

pub define_word_rule : Rule tokens (the kinds.Define) (the kinds.Define) (the_at kinds.Define) (number kinds.Define ∷ []) [] false
unfolding is_class
define_word_rule = the_rule kinds.Define (word kinds.Define (codes "define")) refl define_real

pub add_real : IsReal (word kinds.Add (codes "add"))
unfolding best_fit rest_fit label_len number_len word_len name_len meta_len dots_len other_len string_len has is_bad is_zero_name kind_of word_kind listed_kind words_3
add_real = record { behind = []; some = refl; fits = refl; good = refl; class = refl }

pub label_real : IsReal (sample forms.Label kinds.Label (codes "0:"))
unfolding best_fit rest_fit label_len number_len word_len name_len meta_len dots_len other_len string_len has is_bad is_zero_name kind_of content unescaped
label_real = record { behind = []; some = refl; fits = refl; good = refl; class = refl }
