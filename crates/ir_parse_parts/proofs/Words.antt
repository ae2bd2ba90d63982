-- Words of instructions: one of each that some text has.
use Rattle.std.proofs.Common.{◌≡◌, ℕ, true, false, List, [], ◌∷◌, Ok, refl}
use Rattle.std.specs.Prelude.{codes}
use Rattle.ir_lex.specs.Bytes.{has}
use Rattle.ir_lex.specs.declared.token_kind.TokenKind.TheVariants as kinds
use Rattle.ir_lex.specs.declared.token.TokenForm.TheVariants as forms
use Rattle.ir_lex.specs.TokenKinds.{number, kind_of, word_kind, listed_kind, words_2, words_3, words_4, words_5, words_8}
use Rattle.ir_lex.specs.Lexing.{is_bad}
use Rattle.ir_lex.specs.Quotes.{is_zero_name}
use Rattle.ir_lex.specs.Rows.{best_fit, rest_fit, label_len, number_len, word_len, name_len, meta_len, dots_len, other_len, string_len}
use Rattle.ir_parse_parts.specs.Rules.{Rule, is_class}
use Rattle.ir_parse_parts.specs.Classes.{tokens, IsReal, the, the_at}
use Rattle.ir_parse_parts.proofs.Singles.{sample, word, the_rule}

pub int_32_real : IsReal (word kinds.MemoryInteger (codes "i32"))
unfolding best_fit rest_fit label_len number_len word_len name_len meta_len dots_len other_len string_len has is_bad is_zero_name kind_of word_kind listed_kind words_3
int_32_real = record { behind = []; some = refl; fits = refl; good = refl; class = refl }

pub int_1_real : IsReal (word kinds.RegisterInteger (codes "i1"))
unfolding best_fit rest_fit label_len number_len word_len name_len meta_len dots_len other_len string_len has is_bad is_zero_name kind_of word_kind listed_kind words_2
int_1_real = record { behind = []; some = refl; fits = refl; good = refl; class = refl }

pub pointer_real : IsReal (word kinds.Ptr (codes "ptr"))
unfolding best_fit rest_fit label_len number_len word_len name_len meta_len dots_len other_len string_len has is_bad is_zero_name kind_of word_kind listed_kind words_3
pointer_real = record { behind = []; some = refl; fits = refl; good = refl; class = refl }

pub void_real : IsReal (word kinds.Void (codes "void"))
unfolding best_fit rest_fit label_len number_len word_len name_len meta_len dots_len other_len string_len has is_bad is_zero_name kind_of word_kind listed_kind words_4
void_real = record { behind = []; some = refl; fits = refl; good = refl; class = refl }

pub null_real : IsReal (word kinds.Null (codes "null"))
unfolding best_fit rest_fit label_len number_len word_len name_len meta_len dots_len other_len string_len has is_bad is_zero_name kind_of word_kind listed_kind words_4
null_real = record { behind = []; some = refl; fits = refl; good = refl; class = refl }

pub no_wrap_real : IsReal (word kinds.Nuw (codes "nuw"))
unfolding best_fit rest_fit label_len number_len word_len name_len meta_len dots_len other_len string_len has is_bad is_zero_name kind_of word_kind listed_kind words_3
no_wrap_real = record { behind = []; some = refl; fits = refl; good = refl; class = refl }

pub equal_real : IsReal (word kinds.Eq (codes "eq"))
unfolding best_fit rest_fit label_len number_len word_len name_len meta_len dots_len other_len string_len has is_bad is_zero_name kind_of word_kind listed_kind words_2
equal_real = record { behind = []; some = refl; fits = refl; good = refl; class = refl }

pub to_real : IsReal (word kinds.To (codes "to"))
unfolding best_fit rest_fit label_len number_len word_len name_len meta_len dots_len other_len string_len has is_bad is_zero_name kind_of word_kind listed_kind words_2
to_real = record { behind = []; some = refl; fits = refl; good = refl; class = refl }

pub to_rule : Rule tokens (the kinds.To) (the kinds.To) (the_at kinds.To) (number kinds.To ∷ []) [] false
unfolding is_class
to_rule = the_rule kinds.To (word kinds.To (codes "to")) refl to_real

pub exact_real : IsReal (word kinds.Exact (codes "exact"))
unfolding best_fit rest_fit label_len number_len word_len name_len meta_len dots_len other_len string_len has is_bad is_zero_name kind_of word_kind listed_kind words_5
exact_real = record { behind = []; some = refl; fits = refl; good = refl; class = refl }

pub exact_rule : Rule tokens (the kinds.Exact) (the kinds.Exact) (the_at kinds.Exact) (number kinds.Exact ∷ []) [] false
unfolding is_class
exact_rule = the_rule kinds.Exact (word kinds.Exact (codes "exact")) refl exact_real

pub disjoint_real : IsReal (word kinds.Disjoint (codes "disjoint"))
unfolding best_fit rest_fit label_len number_len word_len name_len meta_len dots_len other_len string_len has is_bad is_zero_name kind_of word_kind listed_kind words_8
disjoint_real = record { behind = []; some = refl; fits = refl; good = refl; class = refl }

pub disjoint_rule : Rule tokens (the kinds.Disjoint) (the kinds.Disjoint) (the_at kinds.Disjoint) (number kinds.Disjoint ∷ []) [] false
unfolding is_class
disjoint_rule = the_rule kinds.Disjoint (word kinds.Disjoint (codes "disjoint")) refl disjoint_real

pub samesign_real : IsReal (word kinds.Samesign (codes "samesign"))
unfolding best_fit rest_fit label_len number_len word_len name_len meta_len dots_len other_len string_len has is_bad is_zero_name kind_of word_kind listed_kind words_8
samesign_real = record { behind = []; some = refl; fits = refl; good = refl; class = refl }

pub samesign_rule : Rule tokens (the kinds.Samesign) (the kinds.Samesign) (the_at kinds.Samesign) (number kinds.Samesign ∷ []) [] false
unfolding is_class
samesign_rule = the_rule kinds.Samesign (word kinds.Samesign (codes "samesign")) refl samesign_real

pub nneg_real : IsReal (word kinds.Nneg (codes "nneg"))
unfolding best_fit rest_fit label_len number_len word_len name_len meta_len dots_len other_len string_len has is_bad is_zero_name kind_of word_kind listed_kind words_4
nneg_real = record { behind = []; some = refl; fits = refl; good = refl; class = refl }

pub nneg_rule : Rule tokens (the kinds.Nneg) (the kinds.Nneg) (the_at kinds.Nneg) (number kinds.Nneg ∷ []) [] false
unfolding is_class
nneg_rule = the_rule kinds.Nneg (word kinds.Nneg (codes "nneg")) refl nneg_real

pub label_real : IsReal (word kinds.LabelType (codes "label"))
unfolding best_fit rest_fit label_len number_len word_len name_len meta_len dots_len other_len string_len has is_bad is_zero_name kind_of word_kind listed_kind words_5
label_real = record { behind = []; some = refl; fits = refl; good = refl; class = refl }

pub label_rule : Rule tokens (the kinds.LabelType) (the kinds.LabelType) (the_at kinds.LabelType) (number kinds.LabelType ∷ []) [] false
unfolding is_class
label_rule = the_rule kinds.LabelType (word kinds.LabelType (codes "label")) refl label_real

pub local_real : IsReal (sample forms.Local kinds.Local (codes "%0"))
unfolding best_fit rest_fit label_len number_len word_len name_len meta_len dots_len other_len string_len has is_bad is_zero_name kind_of
local_real = record { behind = []; some = refl; fits = refl; good = refl; class = refl }

pub zero_real : IsReal (sample forms.Number kinds.Number (codes "0"))
unfolding best_fit rest_fit label_len number_len word_len name_len meta_len dots_len other_len string_len has is_bad is_zero_name kind_of
zero_real = record { behind = []; some = refl; fits = refl; good = refl; class = refl }
