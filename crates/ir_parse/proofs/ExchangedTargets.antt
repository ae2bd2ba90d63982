-- The readers of lines that name the target, the source or a comdat tell a token that is left out in some places against the syntax.
use Rattle.std.proofs.Common.{◌≡◌, ℕ, nat_eq, Bool, true, false, cond, ◌||◌, List, [], ◌∷◌, Result, Ok, Err, refl, sym, ap, subst, ◌∙◌, inl}
use Rattle.std.specs.Prelude.{codes}
use Rattle.ir_lex.specs.Bytes.{has}
use Rattle.ir_lex.specs.TokenKinds.{number, kind_of, word_kind, listed_kind, words_3, words_6, words_10, words_15}
use Rattle.ir_lex.specs.Lexing.{is_bad}
use Rattle.ir_lex.specs.Quotes.{content, unescaped, is_zero_name}
use Rattle.ir_lex.specs.Rows.{best_fit, rest_fit, label_len, number_len, word_len, name_len, meta_len, dots_len, other_len, string_len}
use Rattle.ir_lex.specs.Tok.{Tok}
use Rattle.ir_lex.specs.declared.token_kind.TokenKind.TheVariants as kinds
use Rattle.ir_lex.specs.declared.token_kind.TokenKind.{TokenKind}
use Rattle.ir_lex.specs.declared.token.TokenForm.TheVariants as forms
use Rattle.ir_parse_parts.specs.Alphabet.{among, contains}
use Rattle.ir_parse_parts.specs.Forms as form
use Rattle.ir_parse_parts.specs.Lawful.{IsBound}
use Rattle.ir_parse_parts.specs.Readers.{token_at}
use Rattle.ir_parse_parts.specs.Rules.{is_class, disjoint}
use Rattle.ir_parse_parts.specs.declared.fault.TokenFault.TheVariants.{Profile}
use Rattle.ir_parse_parts.specs.declared.fault.TokenFault.{TokenFault}
use Rattle.ir_parse_parts.specs.Classes.{tokens, IsReal, refusal, the, the_at, one_of, one_of_at, itself}
use Rattle.ir_parse_parts.specs.Operands.{REG}
use Rattle.ir_parse_heads.specs.Targets.{STRING, fits_item, has_64_bits, fits_layout, is_layout, layout_line, triple_line, target_line, source_line, comdat_line}
use Rattle.ir_parse_heads.specs.TargetsAt.{LAYOUT, layout_line_at, triple_line_at, target_line_at, source_line_at, comdat_line_at}
use Rattle.ir_parse_parts.specs.declared.raw.Item.TheVariants.{Datalayout, Triple}
use Rattle.ir_parse_parts.proofs.Singles.{sample, word, the_rule, string_real}
use Rattle.ir_parse_operands.specs.ShapeForms.{OPEN_ANGLE}
use Rattle.ir_parse.specs.Refusals.{MEMORY}
use Rattle.ir_parse.proofs.Exchanged.{differ, only_string, Exchanges, Says, alt, nothing, seq, single, apart}
use Rattle.ir_parse.proofs.ExchangedTokens.{by_telling, elsewhere, i8_real, one_sample, plain_class, not_bound}
use Rattle.ir_parse.proofs.ExchangedWords.{equals_exchanged, string_exchanged}

any_word_real : IsReal (word kinds.Any (codes "any"))
unfolding best_fit rest_fit label_len number_len word_len name_len meta_len dots_len other_len string_len has is_bad is_zero_name kind_of word_kind listed_kind words_3
any_word_real = record { behind = []; some = refl; fits = refl; good = refl; class = refl }

comdat_name_real : IsReal (sample forms.Comdat kinds.ComdatName (codes "$a"))
unfolding best_fit rest_fit label_len number_len word_len name_len meta_len dots_len other_len string_len has is_bad is_zero_name kind_of
comdat_name_real = record { behind = []; some = refl; fits = refl; good = refl; class = refl }

comdat_word_real : IsReal (word kinds.Comdat (codes "comdat"))
unfolding best_fit rest_fit label_len number_len word_len name_len meta_len dots_len other_len string_len has is_bad is_zero_name kind_of word_kind listed_kind words_6
comdat_word_real = record { behind = []; some = refl; fits = refl; good = refl; class = refl }

layout_word_real : IsReal (word kinds.Datalayout (codes "datalayout"))
unfolding best_fit rest_fit label_len number_len word_len name_len meta_len dots_len other_len string_len has is_bad is_zero_name kind_of word_kind listed_kind words_10
layout_word_real = record { behind = []; some = refl; fits = refl; good = refl; class = refl }

source_word_real : IsReal (word kinds.SourceFilename (codes "source_filename"))
unfolding best_fit rest_fit label_len number_len word_len name_len meta_len dots_len other_len string_len has is_bad is_zero_name kind_of word_kind listed_kind words_15
source_word_real = record { behind = []; some = refl; fits = refl; good = refl; class = refl }

target_real : IsReal (word kinds.Target (codes "target"))
unfolding best_fit rest_fit label_len number_len word_len name_len meta_len dots_len other_len string_len has is_bad is_zero_name kind_of word_kind listed_kind words_6
target_real = record { behind = []; some = refl; fits = refl; good = refl; class = refl }

triple_word_real : IsReal (word kinds.Triple (codes "triple"))
unfolding best_fit rest_fit label_len number_len word_len name_len meta_len dots_len other_len string_len has is_bad is_zero_name kind_of word_kind listed_kind words_6
triple_word_real = record { behind = []; some = refl; fits = refl; good = refl; class = refl }

pub target_exchanged : Exchanges (the kinds.Target) (the_at kinds.Target)
unfolding is_class
target_exchanged = plain_class kinds.Target (the_rule kinds.Target (word kinds.Target (codes "target")) refl target_real) refl

pub layout_word_exchanged : Exchanges (the kinds.Datalayout) (the_at kinds.Datalayout)
unfolding is_class
layout_word_exchanged = plain_class kinds.Datalayout (the_rule kinds.Datalayout (word kinds.Datalayout (codes "datalayout")) refl layout_word_real) refl

pub triple_word_exchanged : Exchanges (the kinds.Triple) (the_at kinds.Triple)
unfolding is_class
triple_word_exchanged = plain_class kinds.Triple (the_rule kinds.Triple (word kinds.Triple (codes "triple")) refl triple_word_real) refl

pub source_word_exchanged : Exchanges (the kinds.SourceFilename) (the_at kinds.SourceFilename)
unfolding is_class
source_word_exchanged = plain_class kinds.SourceFilename (the_rule kinds.SourceFilename (word kinds.SourceFilename (codes "source_filename")) refl source_word_real) refl

pub comdat_word_exchanged : Exchanges (the kinds.Comdat) (the_at kinds.Comdat)
unfolding is_class
comdat_word_exchanged = plain_class kinds.Comdat (the_rule kinds.Comdat (word kinds.Comdat (codes "comdat")) refl comdat_word_real) refl

pub any_word_exchanged : Exchanges (the kinds.Any) (the_at kinds.Any)
unfolding is_class
any_word_exchanged = plain_class kinds.Any (the_rule kinds.Any (word kinds.Any (codes "any")) refl any_word_real) refl

pub comdat_name_exchanged : Exchanges (the kinds.ComdatName) (the_at kinds.ComdatName)
unfolding is_class
comdat_name_exchanged = plain_class kinds.ComdatName (the_rule kinds.ComdatName (sample forms.Comdat kinds.ComdatName (codes "$a")) refl comdat_name_real) refl

abbrev failed : TokenFault → Result Tok TokenFault
failed k = Err k

empty_string : Tok
empty_string = sample forms.Str kinds.Str (codes "\"\"")

empty_fits : is_layout empty_string ≡ Ok empty_string
unfolding is_layout fits_layout fits_item has_64_bits content unescaped empty_string
empty_fits = refl

empty_real : IsReal empty_string
unfolding empty_string
empty_real = string_real

layout_stuck : (u : Tok) → among tokens STRING u ≡ false → (k : TokenFault) × (IsBound k → ⊥) × (is_layout u ≡ Err k)
unfolding is_layout
layout_stuck u e = (refusal (number u.kind), not_bound (number u.kind), by_class (nat_eq (number u.kind) (number kinds.Str)) e)
  where
    by_class : (b : Bool) → b || false ≡ false → cond b (cond (fits_layout (content u.form u.text)) (Ok u) (Err Profile)) (failed (refusal (number u.kind))) ≡ failed (refusal (number u.kind))
    by_class true e = absurd cc
    by_class false e = refl

layout_no_angle : (t a : Tok) → among tokens OPEN_ANGLE t ≡ true → is_layout t ≡ Ok a → ⊥
layout_no_angle t a i e = let s = layout_stuck t (apart OPEN_ANGLE STRING refl (number t.kind) i) in refused s.0 (sym s.2 ∙ e)
  where
    refused : (k : TokenFault) → failed k ≡ Ok a → ⊥
    refused k e = cc

no_string : (bs : List ℕ) → disjoint bs STRING ≡ true → (u : Tok) → among tokens bs u ≡ true → (k : TokenFault) × (IsBound k → ⊥) × (is_layout u ≡ Err k)
no_string bs d u i = layout_stuck u (apart bs STRING d (number u.kind) i)

-- where no string stands
layout_class : (h : TokenKind) → contains STRING (number h) ≡ false → Says (form.token is_layout) is_layout h (refusal (number h))
layout_class =
    by_telling (λ (h : TokenKind). contains STRING (number h) ≡ false → Says (form.token is_layout) is_layout h (refusal (number h)))
    (λ n. no_string REG refl)
    (λ n. inl (no_string REG refl))
    (λ n. (word kinds.MemoryInteger (codes "i8"), refl, i8_real, no_string MEMORY refl (word kinds.MemoryInteger (codes "i8")) refl))
    (λ n. no_string (number kinds.Global ∷ []) refl)
    (λ n. no_string (number kinds.Global ∷ []) refl)
    (λ n. tt)
    (λ n. absurd (differ (sym n)))
    (λ h q n. elsewhere (form.token is_layout) is_layout h (refusal (number h)) q)

-- where one does that isn't supported, the empty one goes on
layout_told : (h : TokenKind) → contains STRING (number h) ≡ true → Says (form.token is_layout) is_layout h Profile
unfolding empty_string
layout_told = only_string (λ (h : TokenKind). Says (form.token is_layout) is_layout h Profile) (empty_string, refl, ([], empty_string, empty_fits, (empty_real, tt)))

layout_says : (t : Tok) (k : TokenFault) → is_layout t ≡ Err k → Says (form.token is_layout) is_layout t.kind k
unfolding is_layout
layout_says t k d = by_class (nat_eq (number t.kind) (number kinds.Str)) refl d
  where
    err_is : (k l : TokenFault) → failed k ≡ failed l → k ≡ l
    err_is k l e = cc

    by_fit : (b : Bool) → cond b (Ok t) (failed Profile) ≡ failed k → Profile ≡ k
    by_fit true e = absurd cc
    by_fit false e = err_is Profile k e

    by_class : (b : Bool) → nat_eq (number t.kind) (number kinds.Str) ≡ b → cond b (cond (fits_layout (content t.form t.text)) (Ok t) (failed Profile)) (failed (refusal (number t.kind))) ≡ failed k → Says (form.token is_layout) is_layout t.kind k
    by_class true p d = subst (λ (x : TokenFault). Says (form.token is_layout) is_layout t.kind x) (by_fit (fits_layout (content t.form t.text)) d) (layout_told t.kind (ap (λ (b : Bool). b || false) p))
    by_class false p d = subst (λ (x : TokenFault). Says (form.token is_layout) is_layout t.kind x) (err_is (refusal (number t.kind)) k d) (layout_class t.kind (ap (λ (b : Bool). b || false) p))

pub layout_exchanged : Exchanges (form.token is_layout) (token_at is_layout)
layout_exchanged = single (form.token is_layout) is_layout layout_no_angle (λ t a e. e) (empty_string ∷ [], empty_string, empty_fits, (empty_real, tt)) layout_says

pub string_name_exchanged : Exchanges (one_of STRING itself) (one_of_at STRING itself)
string_name_exchanged = one_sample STRING itself (sample forms.Str kinds.Str (codes "\"\"")) refl string_real refl

pub layout_line_exchanged : Exchanges layout_line layout_line_at
unfolding layout_line layout_line_at
layout_line_exchanged = seq layout_word_exchanged (λ _. seq equals_exchanged (λ _. seq layout_exchanged (λ layout. nothing (Datalayout layout))))

pub triple_line_exchanged : Exchanges triple_line triple_line_at
unfolding triple_line triple_line_at
triple_line_exchanged = seq triple_word_exchanged (λ _. seq equals_exchanged (λ _. seq string_name_exchanged (λ triple. nothing (Triple triple))))

pub target_line_exchanged : Exchanges target_line target_line_at
unfolding target_line target_line_at
target_line_exchanged = seq target_exchanged (λ _. alt LAYOUT refl layout_line_exchanged triple_line_exchanged)

pub source_line_exchanged : Exchanges source_line source_line_at
unfolding source_line source_line_at
source_line_exchanged = seq source_word_exchanged (λ _. seq equals_exchanged (λ _. string_exchanged))

pub comdat_line_exchanged : Exchanges comdat_line comdat_line_at
unfolding comdat_line comdat_line_at
comdat_line_exchanged = seq comdat_name_exchanged (λ _. seq equals_exchanged (λ _. seq comdat_word_exchanged (λ _. any_word_exchanged)))
