-- The readers of target lines, names of the source and comdats read them.
use Rattle.std.proofs.Common.{◌≡◌, ℕ, Bool, true, false, nat_eq, ◌||◌, cond, [], ◌∷◌, Result, Ok, Err, refl, sym, ap, ◌∙◌, arith}
use Rattle.std.specs.Prelude.{codes}
use Rattle.ir_lex.specs.Bytes.{has}
use Rattle.ir_lex.specs.declared.token_kind.TokenKind.TheVariants as kinds
use Rattle.ir_lex.specs.declared.token.TokenForm.TheVariants as forms
use Rattle.ir_lex.specs.TokenKinds.{number, kind_of, word_kind, listed_kind, words_3, words_6, words_10, words_15}
use Rattle.ir_lex.specs.Lexing.{is_bad}
use Rattle.ir_lex.specs.Quotes.{is_zero_name, content, unescaped}
use Rattle.ir_lex.specs.Rows.{best_fit, rest_fit, label_len, number_len, word_len, name_len, meta_len, dots_len, other_len, string_len}
use Rattle.ir_lex.specs.Tok.{Tok}
use Rattle.ir_parse_parts.specs.Alphabet.{contains, among, is_number}
use Rattle.ir_parse_parts.specs.declared.fault.TokenFault.{TokenFault}
use Rattle.ir_parse_parts.specs.declared.fault.TokenFault.TheVariants.{Syntax, Profile, Number, Limit}
use Rattle.ir_parse_parts.specs.Forms as form
use Rattle.ir_parse_parts.specs.Lawful.{IsRanged, SameRefusal}
use Rattle.ir_parse_parts.specs.Readers.{token_at}
use Rattle.ir_parse_parts.specs.Rules.{Rule, is_class}
use Rattle.ir_parse_parts.proofs.Composed.{token_lawful}
use Rattle.ir_parse_parts.proofs.Rules as rules
use Rattle.ir_parse_parts.specs.Classes.{tokens, IsReal, refusal, the, the_at, one_of, one_of_at, itself}
use Rattle.ir_parse_heads.specs.Targets.{STRING, fits_item, has_64_bits, fits_layout, is_layout, layout_line, triple_line, target_line, source_line, comdat_line}
use Rattle.ir_parse_heads.specs.TargetsAt.{LAYOUT, layout_line_at, triple_line_at, target_line_at, source_line_at, comdat_line_at}
use Rattle.ir_parse_parts.specs.declared.raw.Item.TheVariants.{Datalayout, Triple}
use Rattle.ir_parse_parts.proofs.Singles.{sample, word, not_number, not_limit, the_rule, one_rule, string_real, string_rule, equals_rule}

target_real : IsReal (word kinds.Target (codes "target"))
unfolding best_fit rest_fit label_len number_len word_len name_len meta_len dots_len other_len string_len has is_bad is_zero_name kind_of word_kind listed_kind words_6
target_real = record { behind = []; some = refl; fits = refl; good = refl; class = refl }

target_rule : Rule tokens (the kinds.Target) (the kinds.Target) (the_at kinds.Target) (number kinds.Target ∷ []) [] false
unfolding is_class
target_rule = the_rule kinds.Target (word kinds.Target (codes "target")) refl target_real

layout_word_real : IsReal (word kinds.Datalayout (codes "datalayout"))
unfolding best_fit rest_fit label_len number_len word_len name_len meta_len dots_len other_len string_len has is_bad is_zero_name kind_of word_kind listed_kind words_10
layout_word_real = record { behind = []; some = refl; fits = refl; good = refl; class = refl }

layout_word_rule : Rule tokens (the kinds.Datalayout) (the kinds.Datalayout) (the_at kinds.Datalayout) (number kinds.Datalayout ∷ []) [] false
unfolding is_class
layout_word_rule = the_rule kinds.Datalayout (word kinds.Datalayout (codes "datalayout")) refl layout_word_real

triple_word_real : IsReal (word kinds.Triple (codes "triple"))
unfolding best_fit rest_fit label_len number_len word_len name_len meta_len dots_len other_len string_len has is_bad is_zero_name kind_of word_kind listed_kind words_6
triple_word_real = record { behind = []; some = refl; fits = refl; good = refl; class = refl }

triple_word_rule : Rule tokens (the kinds.Triple) (the kinds.Triple) (the_at kinds.Triple) (number kinds.Triple ∷ []) [] false
unfolding is_class
triple_word_rule = the_rule kinds.Triple (word kinds.Triple (codes "triple")) refl triple_word_real

source_word_real : IsReal (word kinds.SourceFilename (codes "source_filename"))
unfolding best_fit rest_fit label_len number_len word_len name_len meta_len dots_len other_len string_len has is_bad is_zero_name kind_of word_kind listed_kind words_15
source_word_real = record { behind = []; some = refl; fits = refl; good = refl; class = refl }

source_word_rule : Rule tokens (the kinds.SourceFilename) (the kinds.SourceFilename) (the_at kinds.SourceFilename) (number kinds.SourceFilename ∷ []) [] false
unfolding is_class
source_word_rule = the_rule kinds.SourceFilename (word kinds.SourceFilename (codes "source_filename")) refl source_word_real

comdat_word_real : IsReal (word kinds.Comdat (codes "comdat"))
unfolding best_fit rest_fit label_len number_len word_len name_len meta_len dots_len other_len string_len has is_bad is_zero_name kind_of word_kind listed_kind words_6
comdat_word_real = record { behind = []; some = refl; fits = refl; good = refl; class = refl }

comdat_word_rule : Rule tokens (the kinds.Comdat) (the kinds.Comdat) (the_at kinds.Comdat) (number kinds.Comdat ∷ []) [] false
unfolding is_class
comdat_word_rule = the_rule kinds.Comdat (word kinds.Comdat (codes "comdat")) refl comdat_word_real

any_word_real : IsReal (word kinds.Any (codes "any"))
unfolding best_fit rest_fit label_len number_len word_len name_len meta_len dots_len other_len string_len has is_bad is_zero_name kind_of word_kind listed_kind words_3
any_word_real = record { behind = []; some = refl; fits = refl; good = refl; class = refl }

any_word_rule : Rule tokens (the kinds.Any) (the kinds.Any) (the_at kinds.Any) (number kinds.Any ∷ []) [] false
unfolding is_class
any_word_rule = the_rule kinds.Any (word kinds.Any (codes "any")) refl any_word_real

comdat_name_real : IsReal (sample forms.Comdat kinds.ComdatName (codes "$a"))
unfolding best_fit rest_fit label_len number_len word_len name_len meta_len dots_len other_len string_len has is_bad is_zero_name kind_of
comdat_name_real = record { behind = []; some = refl; fits = refl; good = refl; class = refl }

comdat_name_rule : Rule tokens (the kinds.ComdatName) (the kinds.ComdatName) (the_at kinds.ComdatName) (number kinds.ComdatName ∷ []) [] false
unfolding is_class
comdat_name_rule = the_rule kinds.ComdatName (sample forms.Comdat kinds.ComdatName (codes "$a")) refl comdat_name_real

-- ---- layouts

abbrev failed : TokenFault → Result Tok TokenFault
failed k = Err k

failed_is : (k l : TokenFault) → failed k ≡ failed l → k ≡ l
failed_is k l e = cc

abbrev judged : Tok → Bool → Bool → Result Tok TokenFault
judged t is_string fits = cond is_string (cond fits (Ok t) (failed Profile)) (failed (refusal (number t.kind)))

-- a refusal is never for a range or a limit
refuses : (t : Tok) (k : TokenFault) → (Profile ≡ k → ⊥) → (refusal (number t.kind) ≡ k → ⊥) → (b c : Bool) → judged t b c ≡ failed k → ⊥
refuses t k p r true true e = cc
refuses t k p r true false e = p (failed_is Profile k e)
refuses t k p r false c e = r (failed_is (refusal (number t.kind)) k e)

no_number : Profile ≡ Number → ⊥
no_number e = cc

no_limit : Profile ≡ Limit → ⊥
no_limit e = cc

-- no string is a number
not_string : (t : Tok) → is_number tokens t ≡ true → nat_eq (number t.kind) (number kinds.Str) ≡ false
not_string t n = by_test (nat_eq (number t.kind) (number kinds.Str)) refl
  where
    by_test : (b : Bool) → nat_eq (number t.kind) (number kinds.Str) ≡ b → b ≡ false
    by_test false h = refl
    by_test true h = absurd (differ (sym (ap (λ (m : ℕ). contains tokens.numerals m) (same (number t.kind) (number kinds.Str) h)) ∙ n))
      where
        same : (n m : ℕ) → nat_eq n m ≡ true → n ≡ m
        same n m h = grind arith

        differ : false ≡ true → ⊥
        differ e = cc

same_failed : (k l : TokenFault) → k ≡ l → SameRefusal {A = Tok} (Err k) (Err l)
same_failed Number l e = tt
same_failed Syntax l e = (l, refl)
same_failed Profile l e = (l, refl)
same_failed Limit l e = tt

layout_ranged : IsRanged tokens is_layout
unfolding is_layout
layout_ranged = record {
  range = λ t e. absurd (refuses t Number no_number (not_number (number t.kind)) (nat_eq (number t.kind) (number kinds.Str)) (fits_layout (content t.form t.text)) e);
  alike = λ t u n e. by_string t u e (nat_eq (number t.kind) (number kinds.Str)) (nat_eq (number u.kind) (number kinds.Str)) (not_string t n) (ap (λ (m : ℕ). nat_eq m (number kinds.Str)) e ∙ not_string t n);
  never = λ t e. refuses t Limit no_limit (not_limit (number t.kind)) (nat_eq (number t.kind) (number kinds.Str)) (fits_layout (content t.form t.text)) e;
}
  where
    by_string : (t u : Tok) → number u.kind ≡ number t.kind → (b c : Bool) → b ≡ false → c ≡ false → SameRefusal {A = Tok} (judged t b (fits_layout (content t.form t.text))) (judged u c (fits_layout (content u.form u.text)))
    by_string t u e true c p q = absurd cc
    by_string t u e false true p q = absurd cc
    by_string t u e false false p q = same_failed (refusal (number t.kind)) (refusal (number u.kind)) (ap refusal (sym e))

begins_layout : (t a : Tok) → is_layout t ≡ Ok a → among tokens STRING t ≡ true
unfolding is_layout
begins_layout t a e = by_test (nat_eq (number t.kind) (number kinds.Str)) (fits_layout (content t.form t.text)) e
  where
    by_test : (b c : Bool) → judged t b c ≡ Ok a → b || false ≡ true
    by_test true c e = refl
    by_test false c e = absurd cc

empty_string : Tok
empty_string = sample forms.Str kinds.Str (codes "\"\"")

layout_rule : Rule tokens (form.token is_layout) (form.token is_layout) (token_at is_layout) STRING [] false
unfolding is_layout fits_layout fits_item has_64_bits content unescaped empty_string
layout_rule = record { law = token_lawful tokens is_layout (among tokens STRING) layout_ranged begins_layout empty_string empty_string refl string_real }

-- ---- lines

string_name_rule : Rule tokens (one_of STRING itself) (one_of STRING itself) (one_of_at STRING itself) STRING [] false
string_name_rule = one_rule STRING itself (sample forms.Str kinds.Str (codes "\"\"")) refl string_real

layout_line_rule : Rule tokens layout_line layout_line layout_line_at LAYOUT [] false
unfolding layout_line layout_line_at
layout_line_rule = rules.seq tokens layout_word_rule (λ _. rules.seq tokens equals_rule (λ _. rules.seq tokens layout_rule (λ layout. rules.nothing tokens (Datalayout layout)) refl) refl) refl

triple_line_rule : Rule tokens triple_line triple_line triple_line_at (number kinds.Triple ∷ []) [] false
unfolding triple_line triple_line_at
triple_line_rule = rules.seq tokens triple_word_rule (λ _. rules.seq tokens equals_rule (λ _. rules.seq tokens string_name_rule (λ triple. rules.nothing tokens (Triple triple)) refl) refl) refl

pub target_line_rule : Rule tokens target_line target_line target_line_at (number kinds.Target ∷ []) [] false
unfolding target_line target_line_at
target_line_rule = rules.seq tokens target_rule (λ _. rules.alt tokens LAYOUT layout_line_rule triple_line_rule refl refl) refl

pub source_line_rule : Rule tokens source_line source_line source_line_at (number kinds.SourceFilename ∷ []) [] false
unfolding source_line source_line_at
source_line_rule = rules.seq tokens source_word_rule (λ _. rules.seq tokens equals_rule (λ _. string_rule) refl) refl

pub comdat_line_rule : Rule tokens comdat_line comdat_line comdat_line_at (number kinds.ComdatName ∷ []) [] false
unfolding comdat_line comdat_line_at
comdat_line_rule = rules.seq tokens comdat_name_rule (λ _. rules.seq tokens equals_rule (λ _. rules.seq tokens comdat_word_rule (λ _. any_word_rule) refl) refl) refl
